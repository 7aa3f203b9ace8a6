-- The bytes that a step touches are within the local stores.
use Rattle.std.proofs.Common.{◌≡◌, ℕ, ◌+◌, ◌*◌, ◌<◌, ◌≤◌, ap, refl, sym, subst, ◌∙◌, arith, List, [], ◌∷◌, length}
use Rattle.std.specs.Prelude.{Bool, true, false, cond, Option, Some, None, nat_lt, slice_get}
use Rattle.std.specs.Option.{option_and_then, option_map_or}
use Rattle.std.proofs.lemmas.Option.{slice_get_within}
use Rattle.cell_base.specs.declared.steps.Step.{Step}
use Rattle.cell_machine.specs.declared.effect.Effect.{Effect}
use Rattle.cell_machine.specs.declared.effect.Place.{Place}
use Rattle.cell_machine.specs.declared.effect.Place.TheVariants.{Local}
use Rattle.cell_machine.specs.declared.effect.Span.{Span}
use Rattle.cell_machine.specs.EffectLaws.{bytes_of}
use Rattle.cell_machine.specs.Effects.{effect_in, effect_of}
use Rattle.cell_machine.specs.Limits.{IsOpening}
use Rattle.cell_machine.specs.Next.{next}
use Rattle.cell_machine.specs.Opening.{Opening, opening, opening_spe}
use Rattle.cell_machine.specs.Run.{Ran, replay, state_of}
use Rattle.cell_machine.specs.Sound.{AreWhole}
use Rattle.cell_machine.specs.Spe.{Spe}
use Rattle.cell_machine.specs.State.{State}
use Rattle.cell_machine.proofs.Bounds.{act-length}
use Rattle.cell_machine.proofs.Completion.{next-act, some-of}
use Rattle.cell_machine.proofs.EffectsFitted.{effects-fit}
use Rattle.cell_machine.proofs.Openings.{length-enumerate}
use Rattle.cell_machine.proofs.Same.{some_same}
use Rattle.cell_machine.proofs.Sounds.{runs-are-sound}
use Rattle.cell_machine.proofs.StepBytes.{of_then}
use Rattle.unwritten_reads.specs.Ranges.{IsInside}
use Rattle.unwritten_reads.specs.Reads.{is_in}
use Rattle.unwritten_reads.proofs.Spans.{has}

-- ---- a run keeps its processors

replay-count : (M : State) (steps : List Step) (N : State) → replay M steps ≡ Some N → length N.spes ≡ length M.spes
replay-count M [] N run = ap (λ (K : State). length K.spes) (sym (some_same M N run))
replay-count M (s ∷ steps) N run =
    let first = some-of (λ K. replay K steps) (next M s) N run in
    let acted = next-act M s first.0 first.1 in
    replay-count first.0 steps N first.2 ∙ ap length (sym acted.2) ∙ act-length M s acted.0 acted.1

opening-count : (S : Opening) → length (opening S).spes ≡ length S.entries
unfolding opening
opening-count S = length-enumerate (opening_spe S) 0 S.entries

-- ---- a span that lies in its place

stored : (M : State) → AreWhole M.spes → (p x : ℕ) (o : Option Spe) → slice_get M.spes p ≡ o → x < length (option_map_or (λ (P : Spe). P.store) o []) → (p < length M.spes) × (x < 262144)
stored M whole p x None at low = absurd (omega (arith, low))
stored M whole p x (Some P) at low = (slice_get_within M.spes p P at, (let store = (whole p P at).store in omega (arith, low, store)))

inside : (M : State) → AreWhole M.spes → (span : Span) → span.at + span.len ≤ length (bytes_of M span.place) → (p x : ℕ) → is_in span p x ≡ true → (p < length M.spes) × (x < 262144)
inside M whole span fits p x is =
    let h = has span p x is in
    let high = h.high in
    let fit : span.at + span.len ≤ length (bytes_of M (Local p)) = subst (λ (q : Place). span.at + span.len ≤ length (bytes_of M q)) h.place fits in
    stored M whole p x (slice_get M.spes p) refl (omega (arith, high, fit))

-- ---- the next step of a run

pub record TouchesInside (words : ℕ) (e : Effect) : Type 0 where
  pub reads : IsInside words e.reads
  pub writes : IsInside words e.writes

pub touches-inside : (m : Ran) (s : Step) (e : Effect) → effect_in m s ≡ Some e → IsOpening m.setup → (words : ℕ) → words ≡ 4096 * length m.setup.entries → TouchesInside words e
touches-inside m s e has_effect may_open words long = on (nat_lt (length m.steps) m.setup.budget) has_effect
  where
    on : (b : Bool) → cond b (option_and_then (λ M. effect_of M s) (state_of m)) None ≡ Some e → TouchesInside words e
    on true is = of_then (λ M. effect_of M s) (state_of m) e (TouchesInside words) is (λ M at effect.
        let sound = runs-are-sound m.setup m.steps M may_open at in
        let fits = effects-fit m.setup.lines (length m.steps) M s e sound effect in
        let count : length M.spes ≡ length m.setup.entries = replay-count (opening m.setup) m.steps M at ∙ opening-count m.setup in
        record {
          reads = λ p x has. (let h = inside M sound.whole e.reads fits.reads p x has in let low = h.0 in (omega (arith, low, count, long), h.1));
          writes = λ p x has. (let h = inside M sound.whole e.writes fits.writes p x has in let low = h.0 in (omega (arith, low, count, long), h.1));
        })
    on false is = absurd (cc)
