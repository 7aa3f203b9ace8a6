use Rattle.std.proofs.Common.{sym, ap, ◌∙◌}
use Rattle.std.specs.Prelude.{Some, slice_get}
use Rattle.hunt_tally.specs.Tallies.{Tallied, told_in}
use Rattle.hunt_tally.proofs.Entries.{told_at}
use Rattle.hunt_tally.proofs.tally.Tally.get.Goals as goal

pub returns : goal.returns
returns c =
    let at = told_at c.self.inside.entries.entries c.args.place (c.in-Some.key.now, c.in-Some.counted.now) c.in-Some.ensures.entry in
    ap (λ (t : Tallied). slice_get (told_in t) c.args.place) (sym c.self.view_is) ∙ at
    ∙ (λ i. Some (record { key = sym c.as_slice.ensures.value i; shown = sym c.as_slice-2.ensures.value i; runs = c.in-Some.counted.now.runs; first = c.in-Some.counted.now.first }))
