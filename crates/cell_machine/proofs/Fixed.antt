-- Where no request is pending, no status is fixed.
use Rattle.std.proofs.Common.{◌≡◌, refl, sym, ◌∙◌, true≢false}
use Rattle.std.specs.Prelude.{Option, Some, None, is_some, Bool, false}
use Rattle.std.specs.Option.{option_map_or}
use Rattle.tag_groups.specs.declared.Request.{Request}
use Rattle.tag_groups.specs.declared.Tags.{Tags}
use Rattle.cell_machine.specs.Spe.{Moves}
use Rattle.cell_machine.specs.Effects.{is_fixed}

none_met : (f : Request → Bool) (o : Option Request) (b : Bool) → b ≡ is_some o → b ≡ false → false ≡ option_map_or f o false
none_met f None b is off = refl
none_met f (Some r) b is off = absurd (true≢false (sym is ∙ off))

pub not-pending : (t : Tags) (m : Moves) (b : Bool) → b ≡ is_some t.request → b ≡ false → false ≡ is_fixed t m
not-pending t m b is off = none_met _ t.request b is off
