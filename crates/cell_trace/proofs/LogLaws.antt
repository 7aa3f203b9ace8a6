-- The changes of a step: the registers that differ, and the span that it wrote.
use Rattle.std.proofs.Common.{◌≡◌, ℕ, suc, ◌+◌, ◌-◌, ◌<◌, ◌≤◌, Bool, true, false, if◌then◌else◌, nat_lt, List, [], ◌∷◌, ◌++◌, length, arith, refl, sym, ap, ap₂, ◌∙◌, append_assoc}
use Rattle.std.specs.Prelude.{Option, Some, None, IsSome, IfSome, IsSomeAnd, filter, slice_get}
use Rattle.std.specs.List.{flat_map, range_with_len}
use Rattle.std.specs.Option.{option_and_then, option_map_or}
use Rattle.std.proofs.lemmas.List.{append-nil}
use Rattle.cell_base.specs.declared.steps.Step.{Step}
use Rattle.spu_regs.specs.Registers.{register}
use Rattle.cell_machine.specs.declared.effect.Effect.{Effect}
use Rattle.cell_machine.specs.declared.effect.Place.{Place}
use Rattle.cell_machine.specs.declared.effect.Place.TheVariants.{Memory, Local}
use Rattle.cell_machine.specs.EffectLaws.{bytes_of}
use Rattle.cell_machine.specs.Effects.{effect_of, effect_in}
use Rattle.cell_machine.specs.Sound.{EffectsFit, IsSound}
use Rattle.cell_machine.specs.Spe.{Spe}
use Rattle.cell_machine.specs.State.{State}
use Rattle.cell_machine.specs.Run.{Ran, state_of, next_of}
use Rattle.cell_trace.specs.declared.looking.Before.{Before}
use Rattle.cell_trace.specs.Effects.{before_in, after_in, line_by, grown}
use Rattle.cell_trace.specs.Logs.{registers_in, is_changed, register_field, register_fields, log_line, log_between, room_of, LiesWithin}
use Rattle.cell_trace.proofs.Lemmas.{of_state, around, line_at}

-- ---- the span that a step writes

room : (lines n : ℕ) (M : State) → IsSound lines n M → (place : Place) → length (bytes_of M place) ≤ room_of lines place
room lines n M sound Memory = let long = sound.long in omega (arith, long)
room lines n M sound (Local p) = on (slice_get M.spes p) refl
  where
    on : (o : Option Spe) → slice_get M.spes p ≡ o → length (option_map_or (λ (P : Spe). P.store) o []) ≤ 262144
    on None e = omega arith
    on (Some P) e = let long = (sound.whole p P e).store in omega (arith, long)

from_effect : (t : Bool) (o : Option State) (s : Step) (e : Effect) → (if t then option_and_then (λ M. effect_of M s) o else None) ≡ Some e → (M : State) × (o ≡ Some M) × (effect_of M s ≡ Some e)
from_effect false o s e is = absurd (cc)
from_effect true None s e is = absurd (cc)
from_effect true (Some M) s e is = (M, refl, is)

writes_within : (m : Ran) (s : Step) (e : Effect) → EffectsFit → IsSomeAnd (state_of m) (IsSound m.setup.lines (length m.steps)) → effect_in m s ≡ Some e → LiesWithin m e.writes
writes_within m s e fit sound is =
    let k = from_effect (nat_lt (length m.steps) m.setup.budget) (state_of m) s e is in
    let good = of_state (state_of m) (IsSound m.setup.lines (length m.steps)) k.0 k.1 sound in
    let high = (fit m.setup.lines (length m.steps) k.0 s e good k.2).writes in
    let all = room m.setup.lines (length m.steps) k.0 good e.writes.place in
    omega (arith, high, all)

pub within : (m : Ran) (s : Step) (o : Option Effect) → EffectsFit → IsSomeAnd (state_of m) (IsSound m.setup.lines (length m.steps)) → o ≡ effect_in m s → IfSome o (λ e. LiesWithin m e.writes)
within m s None fit sound is = tt
within m s (Some e) fit sound is = writes_within m s e fit sound (sym is)

-- ---- the line of a step

-- what was written is the line of the step
pub line_written : (m : Ran) (s : Step) (e : Effect) (before : Before) (registers : List (List ℕ)) (out new : List ℕ) → IsSome (next_of m s) → effect_in m s ≡ Some e
    → ((M : State) → state_of m ≡ Some M → before ≡ before_in M s e) → ((M : State) → state_of m ≡ Some M → registers ≡ registers_in M s)
    → ((N : State) → state_of (grown m s) ≡ Some N → new ≡ out ++ log_line registers N s e before (after_in N s before.asked))
    → (line : List ℕ) × (line_by log_between m s ≡ Some line) × (new ≡ out ++ line)
line_written m s e before registers out new allowed is looks_before looks_registers wrote =
    let k = around m s allowed in
    let M = k.0 in
    let N = k.1 in
    let b : before ≡ before_in M s e = looks_before M k.2 in
    let r : registers ≡ registers_in M s = looks_registers M k.2 in (
      log_between M N s e,
      line_at log_between m s M N e k.2 k.3 is,
      wrote N k.5 ∙ ap₂ (λ (x : Before) (y : List (List ℕ)). out ++ log_line y N s e x (after_in N s x.asked)) b r,
    )

-- ---- the registers that differ

filtered : (g : ℕ → List ℕ) (h : ℕ → Bool) (xs : List ℕ) → flat_map g (filter h xs) ≡ flat_map (λ x. if h x then g x else []) xs
filtered g h [] = refl
filtered g h (x ∷ xs) = on (h x) refl (filtered g h xs)
  where
    on : (b : Bool) → h x ≡ b → flat_map g (filter h xs) ≡ flat_map (λ x. if h x then g x else []) xs → flat_map g (filter h (x ∷ xs)) ≡ flat_map (λ x. if h x then g x else []) (x ∷ xs)
    on true e rest = rw e (ap (λ t. g x ++ t) rest)
    on false e rest = rw e rest

-- the field of register r, if it has other bytes
abbrev pub field_of : ℕ → List (List ℕ) → List (List ℕ) → ℕ → List ℕ
field_of p before after r = if is_changed before after r then register_field p r (register after r) else []

-- those of the registers from number r on
unfoldable pub fields_left : ℕ → List (List ℕ) → List (List ℕ) → ℕ → List ℕ
fields_left p before after r = flat_map (field_of p before after) (range_with_len r (128 - r))

pub first_register : (out : List ℕ) (p : ℕ) (before after : List (List ℕ)) → out ++ fields_left p before after 0 ≡ out ++ register_fields p before after
unfolding register_fields fields_left
first_register out p before after =
    ap (λ t. out ++ t) (sym (filtered (λ r. register_field p r (register after r)) (is_changed before after) (range_with_len 0 128)))

pub one_register : (out new whole : List ℕ) (p : ℕ) (before after : List (List ℕ)) (r : ℕ) → r < 128 → new ≡ out ++ field_of p before after r → out ++ fields_left p before after r ≡ whole
    → new ++ fields_left p before after (r + 1) ≡ whole
unfolding fields_left
one_register out new whole p before after r lt wrote so_far =
    let f = field_of p before after in
    let cut : 128 - r ≡ suc (128 - (r + 1)) = omega (arith, lt) in
    let rest = fields_left p before after (r + 1) in
    let here : fields_left p before after r ≡ f r ++ rest = ap (λ k. flat_map f (range_with_len r k)) cut in
    ap (λ t. t ++ rest) wrote ∙ append_assoc out (f r) rest ∙ ap (λ t. out ++ t) (sym here) ∙ so_far

pub no_register : (out whole : List ℕ) (p : ℕ) (before after : List (List ℕ)) (r : ℕ) → 128 ≤ r → out ++ fields_left p before after r ≡ whole → out ≡ whole
unfolding fields_left
no_register out whole p before after r le so_far =
    let none : 128 - r ≡ 0 = omega (arith, le) in
    sym (append-nil out) ∙ ap (λ k. out ++ flat_map (field_of p before after) (range_with_len r k)) (sym none) ∙ so_far
