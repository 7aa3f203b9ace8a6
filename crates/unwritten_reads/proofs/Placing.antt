-- The bytes that the machine file placed, and a run with no step.
use Rattle.std.proofs.Common.{◌≡◌, ℕ, ◌+◌, ◌*◌, ◌<◌, ◌≤◌, ap, refl, sym, subst, ◌∙◌, arith, List, [], ◌∷◌, length, map, take, get_or, inl, inr}
use Rattle.std.specs.Prelude.{Bool, true, ◌||◌, Some, slice_get, All, replicate}
use Rattle.std.specs.List.{list_any}
use Rattle.std.proofs.lemmas.List.{get_or-map, length-map}
use Rattle.std.proofs.lemmas.List.Folds.{list_any_more}
use Rattle.std.proofs.lemmas.Option.{none-some}
use Rattle.cell_base.specs.declared.steps.Step.{Step}
use Rattle.cell_machine.specs.declared.setup.PlacedBytes.{PlacedBytes}
use Rattle.cell_machine.specs.Limits.{FitsStore, IsOpening, shown}
use Rattle.cell_machine.specs.Opening.{Opening, Placed}
use Rattle.cell_machine.specs.Run.{Ran}
use Rattle.unwritten_reads.specs.declared.reads.UnwrittenReads.{UnwrittenReads}
use Rattle.unwritten_reads.specs.ByMarks.{has}
use Rattle.unwritten_reads.specs.Keeping.{Knows}
use Rattle.unwritten_reads.specs.Marks.{is_marked}
use Rattle.unwritten_reads.specs.Ranges.{IsWithin, in_range, number, range_in}
use Rattle.unwritten_reads.specs.Reads.{AreAllUnwritten, IsKnown, is_placed, places}
use Rattle.unwritten_reads.proofs.Spans.{has-at-end, has_at, store-is}
use Rattle.unwritten_reads.proofs.Words.{none-marked}

-- placed bytes as the setup has them
abbrev pub one_shown : PlacedBytes → Placed
one_shown b = record { spe = b.spe; at = b.at; bytes = b.bytes.items }

-- whether one of these has the byte
abbrev pub are_placed : List PlacedBytes → ℕ → ℕ → Bool
are_placed pieces p x = list_any (λ b. places (one_shown b) p x) pieces

any-map : {A B : Type 0} (f : A → B) (t : B → Bool) (xs : List A) → list_any t (map f xs) ≡ list_any (λ x. t (f x)) xs
any-map f t [] = refl
any-map f t (x ∷ xs) = ap (λ b. t (f x) || b) (any-map f t xs)

-- each of them fits its store
pub item-fits : (S : Opening) (pieces : List PlacedBytes) → shown pieces ≡ S.placed → IsOpening S → (i : ℕ) (b : PlacedBytes) → i < length pieces → b ≡ get_or pieces i b → FitsStore (length S.entries) (one_shown b)
item-fits S pieces is opening i b low item =
    subst (λ (c : PlacedBytes). FitsStore (length S.entries) (one_shown c)) (sym item)
    (subst (FitsStore (length S.entries)) (get_or-map one_shown pieces i b (one_shown b) low)
    (subst (All (FitsStore (length S.entries))) (sym is) opening.placed i (one_shown b) (let long : length (shown pieces) ≡ length pieces = length-map pieces one_shown in omega (arith, long, low))))

pub piece-within : (spes words p at len : ℕ) → words ≡ 4096 * spes → p < spes → at + len ≤ 262144 → IsWithin words (range_in p at len)
piece-within spes words p at len long low fits some = omega (arith, long, low, fits)

-- one more of them is marked
pub placed-more : (old new : List ℕ) (pieces : List PlacedBytes) (i : ℕ) (b : PlacedBytes) → i < length pieces → b ≡ get_or pieces i b → b.at + length b.bytes.items ≤ 262144
    → ((p x : ℕ) → x < 262144 → is_marked old (number p x) ≡ are_placed (take i pieces) p x)
    → ((k : ℕ) → is_marked new k ≡ (is_marked old k || in_range (range_in b.spe b.at (length b.bytes.items)) k))
    → (p x : ℕ) → x < 262144 → is_marked new (number p x) ≡ are_placed (take (i + 1) pieces) p x
placed-more old new pieces i b low item fits were marked p x inside =
    marked (number p x) ∙ ap (λ t. t || in_range (range_in b.spe b.at (length b.bytes.items)) (number p x)) (were p x inside)
    ∙ ap (λ t. are_placed (take i pieces) p x || t) (store-is b.spe b.at (length b.bytes.items) (λ y is. below b.at (length b.bytes.items) y fits is) p x inside)
    ∙ ap (λ (c : PlacedBytes). are_placed (take i pieces) p x || places (one_shown c) p x) item
    ∙ sym (list_any_more (λ c. places (one_shown c) p x) pieces i b low)
  where
    below : (at len y : ℕ) → at + len ≤ 262144 → has_at at len y ≡ true → y < 262144
    below at len y fit is = (let high = has-at-end at len y is in omega (arith, fit, high))

pub none-placed : (words : ℕ) (marks : List ℕ) → marks ≡ replicate words 0 → (pieces : List PlacedBytes) (p x : ℕ) → is_marked marks (number p x) ≡ are_placed (take 0 pieces) p x
none-placed words marks is pieces p x = ap (λ xs. is_marked xs (number p x)) is ∙ none-marked words (number p x)

pub all-placed : (S : Opening) (pieces : List PlacedBytes) → shown pieces ≡ S.placed → (p x : ℕ) → are_placed pieces p x ≡ is_placed S p x
all-placed S pieces is p x = sym (any-map one_shown (λ b. places b p x) pieces) ∙ ap (list_any (λ b. places b p x)) is

-- ---- a run with no step

none-made : (m : Ran) (k : ℕ) (s : Step) → m.steps ≡ [] → slice_get m.steps k ≡ Some s → ⊥
none-made m k s none at = none-some s (sym (ap (λ (xs : List Step). slice_get xs k) none) ∙ at)

pub knows-none : (m : Ran) (S : Opening) (reads : UnwrittenReads) → m.setup ≡ S → m.steps ≡ [] → IsOpening S → length reads.known.marks ≡ 4096 * length S.entries → ((p x : ℕ) → x < 262144 → has reads.known p x ≡ is_placed S p x) → reads.found.items ≡ [] → Knows m reads
knows-none m S reads is none may_open long placed found = record {
  opening = subst IsOpening (sym is) may_open;
  long = long ∙ ap (λ (T : Opening). 4096 * length T.entries) (sym is);
  bytes = λ p x low. (
    λ marked. inl (ap (λ (T : Opening). is_placed T p x) is ∙ sym (placed p x low) ∙ marked),
    λ known. placed p x low ∙ ap (λ (T : Opening). is_placed T p x) (sym is) ∙ by p x known,
  );
  found = subst (AreAllUnwritten m) (sym found) (record {
    each = λ k d low. absurd (omega (arith, low));
    all = λ u h. absurd (none-made m u.place h.step none h.made.at);
    order = λ i j d less low. absurd (omega (arith, low));
  });
}
  where
    by : (p x : ℕ) → IsKnown m (length m.steps) p x → is_placed m.setup p x ≡ true
    by p x (inl is_placed) = is_placed
    by p x (inr t) = absurd (none-made m t.place t.step none t.made.at)
