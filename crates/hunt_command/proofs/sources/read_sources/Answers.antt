use Rattle.std.proofs.Common.{◌≡◌, List, [], ◌∷◌, ◌+◌, ◌++◌, length, map, ap, Ok, Err, drop, sym, ◌∙◌, subst, arith, length-append}
use Rattle.std.proofs.lemmas.Result.{err_from_is_err_and}
use Rattle.std.proofs.lemmas.List.{drop_all}
use Rattle.std.proofs.Math.ListN.{length-map}
use Rattle.spu_asm.specs.Images.{Image}
use Rattle.cell_load.specs.Sources.{named}
use Rattle.cell_commands.specs.Task.{Task}
use Rattle.cell_commands.specs.Forms.{sources_task}
use Rattle.cell_commands.specs.Answer.{Leads}
use Rattle.cell_commands.proofs.Steps.{source_comes}
use Rattle.hunt_reports.proofs.Ends.{take_past}
use Rattle.hunt_command.specs.declared.sources.Assembled.{Assembled}
use Rattle.hunt_command.specs.declared.sources.Sources.{Sources}
use Rattle.hunt_command.specs.Sources.{AreSources}
use Rattle.hunt_command.proofs.SourceLaws.{first_left, sources_more}
use Rattle.hunt_command.proofs.sources.read_sources.Goals as goal

pub returns-in_err-read-clause-comes : goal.returns-in_err-read-clause-comes
returns-in_err-read-clause-comes g c = λ told is next.
    let s = c.loop-source.invariant in
    let p = err_from_is_err_and c.from_residual.result c.from_residual.ensures.1 in
    rw (p.1, p.2)
    (source_comes {V = Sources} told (sources_task 0 (map named c.args.names.now) [] next) (map named c.args.names.now) c.loop-source.sources.images.items c.name-name.result.now c.loop-source.number c.loop-source.source-index (named c.source-item.result) next (λ v. next v.images.items) _ _ _ (Err c.in_err-read.field-0.0)
    s.count (first_left c.args.names.now c.loop-source.source-index c.source-item.result (omega arith) c.source-item.is) c.name-name.ensures s.kept (s.leads told is next)
    (c.in_err-read.ensures.comes told (s.same ∙ is) _))

pub loop-source-preserved : goal.loop-source-preserved
loop-source-preserved g c = record {
  count = omega arith;
  made = omega (arith, ap length c.in-Ok.ensures.images, length-append c.loop-source.sources.images.items (c.in_ok-read.read.image ∷ []));
  same = c.read_source.ensures.same ∙ c.loop-source.invariant.same;
  kept = c.in_ok-read.ensures.kept ∙ c.loop-source.invariant.kept;
  leads = λ told is next.
      let s = c.loop-source.invariant in
      let at = c.loop-source.source-index in
      let names = map named c.args.names.now in
      let go : Image → Task = λ image. sources_task (at + 1) (drop (at + 1) names) (c.loop-source.sources.images.items ++ image ∷ []) next in
      subst (λ (images : List Image). Leads told (sources_task 0 names [] next) (sources_task (at + 1) (drop (at + 1) names) images next)) (sym {A = List Image} c.in-Ok.ensures.images)
      (source_comes {V = Assembled} told (sources_task 0 names [] next) names c.loop-source.sources.images.items c.name-name.result.now c.loop-source.number at (named c.source-item.result) next (λ a. go a.image) _ _ (g.T.Store.ledger c.read_source.new.files) (Ok c.in_ok-read.read)
      s.count (first_left c.args.names.now at c.source-item.result (omega arith) c.source-item.is) c.name-name.ensures s.kept (s.leads told is next)
      (c.in_ok-read.ensures.comes told (s.same ∙ is) go));
  listed = λ told is.
      let s = c.loop-source.invariant in
      sources_more told c.args.names.now c.loop-source.source-index c.source-item.result c.name-name.result.now c.in_ok-read.read.lines.items _ c.loop-source.sources.listed.items _ (omega arith) c.source-item.is c.name-name.ensures
      (c.in_ok-read.ensures.lines told (s.same ∙ is)) (c.in_ok-read.ensures.statements told (s.same ∙ is)) c.in-Ok.ensures.listed (s.listed told is);
}

pub returns-clause-comes : goal.returns-clause-comes
returns-clause-comes g c = λ told is next.
    let s = c.loop-source.invariant in
    let none : drop c.loop-source.source-index (map named c.args.names.now) ≡ [] = drop_all c.loop-source.source-index (map named c.args.names.now) (rw length-map (omega arith)) in
    subst (λ l. Leads told (sources_task 0 (map named c.args.names.now) [] next) (sources_task c.loop-source.source-index l c.loop-source.sources.images.items next)) none (s.leads told is next)

pub returns-clause-listed : goal.returns-clause-listed
returns-clause-listed g c = λ told is.
    subst (λ names. AreSources told names c.loop-source.sources.listed.items) (take_past (map named c.args.names.now) c.loop-source.source-index (rw length-map (omega arith))) (c.loop-source.invariant.listed told is)
