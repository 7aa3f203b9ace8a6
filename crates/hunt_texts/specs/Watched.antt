-- What a watched byte of the code stands for.
use Rattle.std.specs.Prelude.{ℕ, List, Option, None, Some}
use Rattle.std.specs.Borrow.{Bor}
use Rattle.hunt_texts.specs.declared.watches.Watch.{Watch as AWatch}
use Rattle.hunt_texts.specs.Watches.{Watch}

abbrev pub word_of : Option (Bor (List ℕ)) → Option (List ℕ)
word_of None = None
word_of (Some r) = Some r.now

abbrev pub watched : AWatch → Watch
watched w = record { spe = word_of w.spe; at = w.at }
