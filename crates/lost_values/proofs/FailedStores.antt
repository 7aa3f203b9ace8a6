-- Of the atomic commands only a PUTLLC that fails writes no byte.
use Rattle.std.proofs.Common.{◌≡◌, ℕ, ap, refl, sym, ◌∙◌, length, true≢false}
use Rattle.std.specs.Prelude.{◌↔◌, ◌==◌, Bool, true, false, if◌then◌else◌, Option, Some, None, IsSomeAnd, nat_lt, slice_get}
use Rattle.std.specs.Option.{option_and_then, option_map}
use Rattle.std.proofs.lemmas.Option.{none-some, same_Some}
use Rattle.cell_base.specs.declared.steps.Step.TheVariants.{Atomic}
use Rattle.mfc_command.specs.declared.command.AtomicOp.{AtomicOp}
use Rattle.cell_machine.specs.declared.effect.Effect.{Effect}
use Rattle.cell_machine.specs.Atomic.{Fate, Got, Stored, Lost, atomic, fate}
use Rattle.cell_machine.specs.Effects.{effect_in, effect_of, line_effect}
use Rattle.cell_machine.specs.Memory.{MainMemory}
use Rattle.cell_machine.specs.Run.{Ran, state_of}
use Rattle.cell_machine.specs.Spe.{Spe}
use Rattle.cell_machine.specs.State.{State}
use Rattle.cell_machine.specs.Transfers.{Left}
use Rattle.lost_values.specs.Failing.{Fails, FailsIn}

is_lost : Fate → Bool
is_lost Lost = true
is_lost Got = false
is_lost Stored = false

by-fate : (p : ℕ) (a : AtomicOp) (Q : Spe) (f : Fate) (e : Effect) → line_effect p a Q f ≡ e → ((e.writes.len == 0) ≡ true) ↔ (f ≡ Lost)
unfolding is_lost
by-fate p a Q Got e is = (λ h. absurd (true≢false (sym h ∙ sym (ap (λ (x : Effect). x.writes.len == 0) is))), λ h. absurd (true≢false (sym (ap is_lost h))))
by-fate p a Q Stored e is = (λ h. absurd (true≢false (sym h ∙ sym (ap (λ (x : Effect). x.writes.len == 0) is))), λ h. absurd (true≢false (sym (ap is_lost h))))
by-fate p a Q Lost e is = (λ h. refl, λ h. sym (ap (λ (x : Effect). x.writes.len == 0) is))

by-slot : (memory : MainMemory) (p : ℕ) (P : Spe) (e : Effect) (x : Option Left) (slot : Option AtomicOp) → option_and_then (λ y. option_map (λ a. line_effect p a y.spe (fate memory P a)) slot) x ≡ Some e → ((e.writes.len == 0) ≡ true) ↔ IsSomeAnd slot (λ a. fate memory P a ≡ Lost)
by-slot memory p P e None slot is = absurd (none-some e is)
by-slot memory p P e (Some y) None is = absurd (none-some e is)
by-slot memory p P e (Some y) (Some a) is = by-fate p a y.spe (fate memory P a) e (same_Some (line_effect p a y.spe (fate memory P a)) e is)

by-spe : (memory : MainMemory) (p : ℕ) (e : Effect) (o : Option Spe) → option_and_then (λ P. option_and_then (λ x. option_map (λ a. line_effect p a x.spe (fate memory P a)) P.channels.slot) (atomic memory P)) o ≡ Some e
    → ((e.writes.len == 0) ≡ true) ↔ IsSomeAnd o (λ P. IsSomeAnd P.channels.slot (λ a. fate memory P a ≡ Lost))
by-spe memory p e None is = absurd (none-some e is)
by-spe memory p e (Some P) is = by-slot memory p P e (atomic memory P) P.channels.slot is

fails-in : (M : State) (p : ℕ) (e : Effect) → effect_of M (Atomic p) ≡ Some e → ((e.writes.len == 0) ≡ true) ↔ FailsIn M p
unfolding effect_of
fails-in M p e is = by-spe M.memory p e (slice_get M.spes p) is

pub fails-told : (m : Ran) (p : ℕ) (e : Effect) → effect_in m (Atomic p) ≡ Some e → ((e.writes.len == 0) ≡ true) ↔ Fails m p
fails-told m p e is = by (nat_lt (length m.steps) m.setup.budget) (state_of m) is
  where
    by : (b : Bool) (o : Option State) → (if b then option_and_then (λ M. effect_of M (Atomic p)) o else None) ≡ Some e → ((e.writes.len == 0) ≡ true) ↔ IsSomeAnd o (λ M. FailsIn M p)
    by true (Some M) is = fails-in M p e is
    by true None is = absurd (none-some e is)
    by false o is = absurd (none-some e is)
