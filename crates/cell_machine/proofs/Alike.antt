-- Processors that differ in their signal registers and events alone, and what delivers and raises them.
use Rattle.std.proofs.Common.{◌≡◌, ℕ, zero, suc, ◌+◌, List, [], ◌∷◌, map, length, slice_set, refl, sym, ◌∙◌, ap, false}
use Rattle.std.specs.Prelude.{Option, Some, None, slice_get}
use Rattle.std.specs.Option.{option_map, option_map_or}
use Rattle.std.specs.List.{enumerate_from}
use Rattle.std.proofs.lemmas.List.{map-set, length-map}
use Rattle.std.proofs.lemmas.Option.{slice_get-map}
use Rattle.cell_base.specs.declared.steps.Step.{Step}
use Rattle.cell_signals.specs.Registers.{opening_signals}
use Rattle.cell_signals.specs.Events.{opening_events}
use Rattle.cell_machine.specs.declared.signals.Delivery.{Delivery}
use Rattle.cell_machine.specs.Spe.{Spe}
use Rattle.cell_machine.specs.State.{State}
use Rattle.cell_machine.specs.Signals.{with_signal, delivered_in, sent_in}
use Rattle.cell_machine.specs.Raised.{with_raised, raised_at}
use Rattle.cell_machine.specs.Tags.{settled}
use Rattle.cell_machine.specs.Transfers.{Left}
use Rattle.cell_machine.specs.Next.{with_left, with_events, closed_in}
use Rattle.cell_machine.specs.Shows.{reservations}
use Rattle.cell_machine.proofs.MemoryShown.{set-same}

abbrev pub plain : Spe → Spe
plain P = record P { signals = opening_signals false false; events = opening_events }

abbrev pub AreAlike : List Spe → List Spe → Type 0
AreAlike xs ys = map plain xs ≡ map plain ys

-- events make no difference
raised_alike : (g : ℕ → ℕ) (n : ℕ) (xs : List Spe) → AreAlike xs (map (λ x. with_raised x.1 (g x.0)) (enumerate_from n xs))
raised_alike g n [] = refl
raised_alike g n (P ∷ xs) = ap (λ ys. plain P ∷ ys) (raised_alike g (n + 1) xs)

pub events-alike : (M : State) (s : Step) (N : State) → AreAlike N.spes (with_events M s N).spes
events-alike M s N = raised_alike (raised_at M s N) 0 N.spes

-- nor does a value that is delivered
delivered_alike : (spes : List Spe) (d : Delivery) → AreAlike spes (delivered_in spes d)
delivered_alike spes d = on (slice_get spes d.spe) refl
  where
    on : (o : Option Spe) → slice_get spes d.spe ≡ o → AreAlike spes (option_map_or (λ P. slice_set spes d.spe (with_signal P d.register d.value)) o spes)
    on None at = refl
    on (Some P) at =
        sym (set-same (map plain spes) d.spe (plain P) (slice_get-map plain spes d.spe ∙ ap (option_map plain) at)) ∙ sym (map-set plain spes d.spe (with_signal P d.register d.value))

pub sent-alike : (spes : List Spe) (o : Option Delivery) → AreAlike spes (sent_in spes o)
sent-alike spes None = refl
sent-alike spes (Some d) = delivered_alike spes d

pub left-alike : (M : State) (p : ℕ) (x : Left) → AreAlike (slice_set M.spes p x.spe) (with_left M p x).spes
left-alike M p x = sent-alike (slice_set M.spes p x.spe) x.sent

plain_settled : (xs : List Spe) → map plain (map settled xs) ≡ map settled (map plain xs)
plain_settled [] = refl
plain_settled (P ∷ xs) = ap (λ ys. settled (plain P) ∷ ys) (plain_settled xs)

-- at the end of a step the processors are as after it, but settled
pub closed-alike : (M : State) (s : Step) (N : State) (base : List Spe) → AreAlike base N.spes → AreAlike (map settled base) (closed_in M s N).spes
closed-alike M s N base alike =
    plain_settled base ∙ ap (map settled) (alike ∙ events-alike M s N) ∙ sym (plain_settled (with_events M s N).spes)

-- ---- what is the same of them

pub alike-at : (xs ys : List Spe) (p : ℕ) (P : Spe) → AreAlike xs ys → slice_get xs p ≡ Some P → (Q : Spe) × (slice_get ys p ≡ Some Q) × (plain P ≡ plain Q)
alike-at [] ys p P alike at = absurd (cc)
alike-at (x ∷ xs) [] p P alike at = absurd (cc)
alike-at (x ∷ xs) (y ∷ ys) zero P alike at = (y, refl, (let e : x ≡ P = cc in let h : plain x ≡ plain y = cc in ap plain (sym e) ∙ h))
alike-at (x ∷ xs) (y ∷ ys) (suc p) P alike at = alike-at xs ys p P (cc) at

pub alike-length : (xs ys : List Spe) → AreAlike xs ys → length xs ≡ length ys
alike-length xs ys alike = sym (length-map xs plain) ∙ ap length alike ∙ length-map ys plain

plain_reserved : (xs : List Spe) → reservations (map plain xs) ≡ reservations xs
plain_reserved [] = refl
plain_reserved (P ∷ xs) = ap (λ ys. P.reserved ∷ ys) (plain_reserved xs)

pub alike-reserved : (xs ys : List Spe) → AreAlike xs ys → reservations xs ≡ reservations ys
alike-reserved xs ys alike = sym (plain_reserved xs) ∙ ap reservations alike ∙ plain_reserved ys

-- the store of the processor at a place, of no processor none
plain_store : (o : Option Spe) → option_map_or (λ (P : Spe). P.store) (option_map plain o) [] ≡ option_map_or (λ (P : Spe). P.store) o []
plain_store None = refl
plain_store (Some P) = refl

pub alike-store : (xs ys : List Spe) (q : ℕ) → AreAlike xs ys → option_map_or (λ (P : Spe). P.store) (slice_get xs q) [] ≡ option_map_or (λ (P : Spe). P.store) (slice_get ys q) []
alike-store xs ys q alike =
    sym (plain_store (slice_get xs q)) ∙ ap (λ o. option_map_or (λ (P : Spe). P.store) o []) (sym (slice_get-map plain xs q) ∙ ap (λ zs. slice_get zs q) alike ∙ slice_get-map plain ys q)
    ∙ plain_store (slice_get ys q)
