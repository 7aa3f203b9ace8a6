use Rattle.std.proofs.Common.{◌≡◌, ℕ, List, [], ◌∷◌, ◌+◌, ◌++◌, ◌<◌, length, map, get_or, ap, Ok, Err, drop, sym, ◌∙◌, subst, arith, add-one, drop-cons, length-append}
use Rattle.std.proofs.lemmas.Result.{err_from_is_err_and}
use Rattle.std.proofs.lemmas.List.{drop_all}
use Rattle.std.proofs.Math.ListN.{get_or-map, length-map}
use Rattle.spu_asm.specs.Images.{Image}
use Rattle.cell_load.specs.declared.source.SourceName.{SourceName}
use Rattle.cell_load.specs.Sources.{named}
use Rattle.cell_commands.specs.Task.{Task}
use Rattle.cell_commands.specs.Forms.{sources_task}
use Rattle.cell_commands.specs.Answer.{Leads}
use Rattle.cell_commands.proofs.Steps.{source_comes}
use Rattle.cell_commands.proofs.reading.read_sources.Goals as goal

-- what is left from a place on begins with the source there
first_left : (sources : List SourceName) (at : ℕ) (s : SourceName) → at < length sources → s ≡ get_or sources at s → drop at (map named sources) ≡ named s ∷ drop (at + 1) (map named sources)
first_left sources at s h is =
    let within : at < length (map named sources) = rw length-map h in
    let here : get_or (map named sources) at (named s) ≡ named s = get_or-map named sources at s ∙ ap named (sym is) in
    let first : drop at (map named sources) ≡ get_or (map named sources) at (named s) ∷ drop (at + 1) (map named sources) = rw add-one (drop-cons (map named sources) at (named s) within) in
    first ∙ ap (λ x. x ∷ drop (at + 1) (map named sources)) here

pub returns-in_err-image-clause-comes : goal.returns-in_err-image-clause-comes
returns-in_err-image-clause-comes g c = λ told is next.
    let s = c.loop-source.invariant in
    let p = err_from_is_err_and c.from_residual.result c.from_residual.ensures.1 in
    rw (p.1, p.2)
    (source_comes {V = List Image} told (sources_task 0 (map named c.args.sources.now) [] next) (map named c.args.sources.now) c.loop-source.images.items c.name.result.now c.loop-source.number c.loop-source.source-index (named c.source-item.result) next next _ _ _ (Err c.in_err-image.field-0.0)
    s.count (first_left c.args.sources.now c.loop-source.source-index c.source-item.result (omega arith) c.source-item.is) c.name.ensures s.kept (s.leads told is next)
    (c.in_err-image.ensures.comes told (s.same ∙ is) _))

pub loop-source-preserved : goal.loop-source-preserved
loop-source-preserved g c = record {
  count = omega arith;
  made = omega (arith, ap length c.in-Ok.ensures.items, length-append c.loop-source.images.items (c.in_ok-image.image ∷ []));
  same = c.read_source.ensures.same ∙ c.loop-source.invariant.same;
  kept = c.in_ok-image.ensures.kept ∙ c.loop-source.invariant.kept;
  leads = λ told is next.
      let s = c.loop-source.invariant in
      let at = c.loop-source.source-index in
      let names = map named c.args.sources.now in
      let go : Image → Task = λ image. sources_task (at + 1) (drop (at + 1) names) (c.loop-source.images.items ++ image ∷ []) next in
      subst (λ (images : List Image). Leads told (sources_task 0 names [] next) (sources_task (at + 1) (drop (at + 1) names) images next)) (sym {A = List Image} c.in-Ok.ensures.items)
      (source_comes {V = Image} told (sources_task 0 names [] next) names c.loop-source.images.items c.name.result.now c.loop-source.number at (named c.source-item.result) next go _ _ (g.T.Store.ledger c.read_source.new.files) (Ok c.in_ok-image.image)
      s.count (first_left c.args.sources.now at c.source-item.result (omega arith) c.source-item.is) c.name.ensures s.kept (s.leads told is next)
      (c.in_ok-image.ensures.comes told (s.same ∙ is) go));
}

pub returns-clause-comes : goal.returns-clause-comes
returns-clause-comes g c = λ told is next.
    let s = c.loop-source.invariant in
    let none : drop c.loop-source.source-index (map named c.args.sources.now) ≡ [] = drop_all c.loop-source.source-index (map named c.args.sources.now) (rw length-map (omega arith)) in
    subst (λ l. Leads told (sources_task 0 (map named c.args.sources.now) [] next) (sources_task c.loop-source.source-index l c.loop-source.images.items next)) none (s.leads told is next)
