-- Which plain instructions are local.
use Rattle.std.proofs.Common.{◌≡◌, ℕ, refl, sym, subst, ◌∙◌}
use Rattle.std.specs.Prelude.{Option, Some, None, IsSomeAnd, Bool, true, false, not, ◌==◌, ◌&&◌, if◌then◌else◌}
use Rattle.cell_base.specs.declared.steps.Step.TheVariants.{Exec}
use Rattle.cell_machine.specs.declared.effect.Effect.{Effect}
use Rattle.cell_machine.specs.declared.effect.Note.TheVariants.{Nothing}
use Rattle.cell_machine.specs.Effects.{effect_in}
use Rattle.cell_machine.specs.Exec.{asks}
use Rattle.cell_machine.specs.Reaches.{IsPlain}
use Rattle.cell_machine.specs.Run.{Ran, spe_of}
use Rattle.cell_machine.specs.Spe.{Spe}
use Rattle.cell_hunt.specs.Locals.{has_no_command, is_in_registers, is_local_at}

if-not : (r b h : Bool) → not r ≡ b → (if r then true else h) ≡ (if b then h else true)
if-not true b h e = subst (λ x. true ≡ (if x then h else true)) e refl
if-not false b h e = subst (λ x. h ≡ (if x then h else true)) e refl

plain-local : (m : Ran) (p : ℕ) (P : Spe) (bytes : Bool) → IsPlain m p bytes → spe_of m p ≡ Some P → is_local_at m p ≡ (if bytes then has_no_command P else true)
plain-local m p P bytes is at = on (effect_in m (Exec p)) refl is.effect
  where
    quiet : asks P ≡ None
    quiet = subst (λ o. IsSomeAnd o (λ Q. asks Q ≡ None)) at is.asks

    on : (o : Option Effect) → effect_in m (Exec p) ≡ o → IsSomeAnd o (λ e. (e.note ≡ Nothing) × (not (e.reads.len == 0 && e.writes.len == 0) ≡ bytes)) → is_local_at m p ≡ (if bytes then has_no_command P else true)
    on None e h = absurd h
    on (Some x) e h = rw (at, e, h.0, quiet) (if-not (is_in_registers x) bytes (has_no_command P) h.1)

spe-there : (m : Ran) (p : ℕ) (bytes : Bool) → IsPlain m p bytes → (P : Spe) × (spe_of m p ≡ Some P)
spe-there m p bytes is = on (spe_of m p) refl is.asks
  where
    on : (o : Option Spe) → spe_of m p ≡ o → IsSomeAnd o (λ Q. asks Q ≡ None) → (P : Spe) × (spe_of m p ≡ Some P)
    on None e h = absurd h
    on (Some P) e h = (P, e)

pub registers-local : (m : Ran) (p : ℕ) → IsPlain m p false → true ≡ is_local_at m p
registers-local m p is = let there = spe-there m p false is in sym (plain-local m p there.0 false is there.1)

pub store-local : (m : Ran) (p : ℕ) (r : Bool) → IsPlain m p true → ((P : Spe) → spe_of m p ≡ Some P → r ≡ has_no_command P) → r ≡ is_local_at m p
store-local m p r is has = let there = spe-there m p true is in has there.0 there.1 ∙ sym (plain-local m p there.0 true is there.1)
