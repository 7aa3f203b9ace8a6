use Rattle.std.proofs.Common.{◌≡◌, ◌++◌, [], drop, map, ap, sym, ◌∙◌, arith, append-nil}
use Rattle.std.proofs.Math.ListN.{drop_of_length-le}
use Rattle.cell_load.specs.Entries.{entry_of}
use Rattle.cell_load.specs.Sources.{named, sources_from}
use Rattle.cell_load.proofs.SourceLemmas.{next_few, next_sources, rest_at}
use Rattle.cell_load.proofs.source.sources_in.Goals as goal

pub loop-line-preserved : goal.loop-line-preserved
loop-line-preserved c =
    let cut = rest_at c.args.lines.now c.loop-line.line-index c.line-item.result (omega arith) c.line-item.is in
    rw (c.in_ok-spes.ensures.spes, c.in_ok-spes.ensures.kept) record {
      few = next_few c.loop-line.spes _ _ _ cut c.loop-line.invariant.few;
      so_far = next_sources (map named c.loop-line.sources.items) c.loop-line.spes _ _ _ _ cut c.loop-line.invariant.so_far;
    }

pub returns : goal.returns
unfolding sources_from
returns c =
    let none : drop c.loop-line.line-index c.args.lines.now ≡ [] = drop_of_length-le c.args.lines.now (omega arith) in
    sym (append-nil (map named c.loop-line.sources.items))
    ∙ sym (ap (λ rest. map named c.loop-line.sources.items ++ sources_from c.loop-line.spes (map entry_of rest)) none)
    ∙ c.loop-line.invariant.so_far
