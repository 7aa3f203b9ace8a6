use Rattle.std.proofs.Common.{◌≡◌, ◌+◌, ◌-◌, ◌<◌, true, length, take, get_or, sym, ap, ◌∙◌, arith}
use Rattle.std.proofs.lemmas.List.{take_more}
use Rattle.cell_machine.specs.declared.effect.Place.TheVariants.{Memory}
use Rattle.run_progress.specs.declared.writes.Write.{Write}
use Rattle.run_progress.specs.Progress.{overlap}
use Rattle.run_progress.specs.Tracks.{last_write}
use Rattle.run_progress.proofs.Kept.{last_write-found}
use Rattle.run_progress.proofs.writes.writer_of.Goals as goal

pub returns-then-overlap : goal.returns-then-overlap
returns-then-overlap c =
    let writes = c.args.writes.now in
    let read = c.args.read in
    let i = c.loop-left.left - 1 in
    let low : i < length writes = omega (arith, c.loop-left.invariant.within, c.loop-left-test.true) in
    let next : i + 1 ≡ c.loop-left.left = omega (arith, c.loop-left-test.true) in
    let d : Write = record { place = 0; span = record { place = Memory; at = 0; len = 0 } } in
    let w = get_or writes i d in
    let over : overlap w.span read ≡ true = sym c.overlap.ensures ∙ c.if-overlap.true in
    sym (c.loop-left.invariant.none ∙ ap (λ n. last_write read (take n writes)) (sym next) ∙ ap (last_write read) (take_more writes i d low) ∙ last_write-found read (take i writes) w over)
