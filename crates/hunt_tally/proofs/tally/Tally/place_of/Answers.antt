use Rattle.std.proofs.Common.{ap, ◌∙◌}
use Rattle.std.specs.List.{position}
use Rattle.std.specs.Str.{bytes_eq}
use Rattle.hunt_tally.specs.Tallies.{Told, Tallied, told_in}
use Rattle.hunt_tally.proofs.Entries.{position_told}
use Rattle.hunt_tally.proofs.tally.Tally.place_of.Goals as goal

pub returns : goal.returns
returns c = c.get_index_of.ensures.index ∙ position_told c.args.key.now c.self.inside.entries.entries
    ∙ ap (λ (t : Tallied). position (λ (u : Told). bytes_eq c.args.key.now u.key) (told_in t)) c.self.view_is
