-- A tag group that a status shows has nothing outstanding.
use Rattle.std.proofs.Common.{◌≡◌, ℕ, ◌-◌, ◌/◌, ◌^◌, Bool, true, false, arith, refl, sym, ◌∙◌, ap, min}
use Rattle.std.specs.Prelude.{Some, slice_get, IsBitSet}
use Rattle.std.specs.Int.{bit_at, bit_not, w32}
use Rattle.std.proofs.lemmas.Nat.{and_mask, bit_set_by_shift}
use Rattle.std.proofs.lemmas.Nat.Bits.{bit_at_and, bit_at_not}
use Rattle.mfc_command.specs.declared.command.Command.{Command}
use Rattle.tag_groups.specs.Settle.{idle_groups}
use Rattle.cell_machine.specs.Spe.{Moves}
use Rattle.cell_machine.specs.Moves.{is_complete, busy}
use Rattle.cell_machine.proofs.BusyGroups.{busy-on, busy-small}
use Rattle.race_order.proofs.StatusSteps.{AreFit}

-- the commands of a group that is shown are complete
pub idle-complete : (m : Moves) (mask c : ℕ) (d : Command) → AreFit m → slice_get m.issued c ≡ Some d → IsBitSet (idle_groups (busy m) mask) d.tag → is_complete m c ≡ true
idle-complete m mask c d fit at set = on (is_complete m c) refl
  where
    shown : bit_at (idle_groups (busy m) mask) d.tag ≡ 1
    shown = sym (and_mask (idle_groups (busy m) mask / 2 ^ d.tag) 1) ∙ (bit_set_by_shift (idle_groups (busy m) mask) d.tag).1 set

    both_bits : bit_at (idle_groups (busy m) mask) d.tag ≡ min (bit_at mask d.tag) (1 - bit_at (busy m) d.tag)
    both_bits = bit_at_and mask (bit_not w32 (busy m)) d.tag ∙ ap (min (bit_at mask d.tag)) (bit_at_not w32 (busy m) d.tag (busy-small m (λ k e there. (fit.fits k e there).1)) (fit.fits c d at).1)

    on : (b : Bool) → is_complete m c ≡ b → is_complete m c ≡ true
    on true e = e
    on false e = absurd (let one = busy-on m c d at e in omega (arith, shown, both_bits, one))
