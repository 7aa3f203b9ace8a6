-- One more step of a run whose unwritten reads are known.
use Rattle.std.proofs.Common.{◌≡◌, ℕ, ◌<◌, ◌≤◌, ap, sym, subst, ◌∙◌, arith, [], ◌∷◌, ◌++◌, length, get_or, inl, inr, true≢false}
use Rattle.std.specs.Prelude.{◌⊎◌, true, ◌||◌, Option, Some, None, Contains}
use Rattle.std.specs.Option.{option_to_list}
use Rattle.std.proofs.lemmas.Bool.{cases_order, false_from_ne_true, or_cases, or_left, or_right}
use Rattle.std.proofs.lemmas.List.{append-nil}
use Rattle.std.proofs.lemmas.List.Elements.{All-push, Contains-append_left, Contains-push}
use Rattle.std.proofs.lemmas.List.Quantifiers.{all_pairs_push}
use Rattle.std.proofs.lemmas.Option.{slice_get_within}
use Rattle.cell_base.specs.declared.steps.Step.{Step}
use Rattle.cell_machine.specs.declared.effect.Effect.{Effect}
use Rattle.cell_machine.specs.declared.effect.Span.{Span}
use Rattle.cell_machine.specs.Effects.{effect_in}
use Rattle.cell_machine.specs.Run.{Ran}
use Rattle.unwritten_reads.specs.declared.known.Known.{Known}
use Rattle.unwritten_reads.specs.declared.reads.UnwrittenReads.{UnwrittenReads}
use Rattle.unwritten_reads.specs.declared.unwritten.Unwritten.{Unwritten}
use Rattle.unwritten_reads.specs.ByMarks.{IsUnwrittenBy, ReadsUnwritten, has}
use Rattle.unwritten_reads.specs.Keeping.{Adds, Knows}
use Rattle.unwritten_reads.specs.Ranges.{in_range, number, range_of}
use Rattle.unwritten_reads.specs.Reads.{AreAllUnwritten, IsKnown, IsUnwritten, is_in, is_instruction, touches, with_step}
use Rattle.unwritten_reads.proofs.Fits.{TouchesInside, touches-inside}
use Rattle.unwritten_reads.proofs.Spans.{one-place, range-is}
use Rattle.unwritten_reads.proofs.Spans.{has as has-in}
use Rattle.unwritten_reads.proofs.Steps.{known-back, known-more, known-new, known-old, known-on, made-end, made-last, unwritten-back, unwritten-inside, unwritten-on}

abbrev read_at : ℕ → ℕ → ℕ → Unwritten
read_at i p a = record { place = i; spe = p; at = a }

read-is : (i j p q a b : ℕ) → i ≡ j → p ≡ q → a ≡ b → read_at i p a ≡ read_at j q b
read-is i j p q a b e f g = ap (λ k. read_at k p a) e ∙ ap (λ k. read_at j k a) f ∙ ap (λ k. read_at j q k) g

-- there is one first byte
one-read : (known : Known) (s : Step) (span : Span) (p q a b : ℕ) → ReadsUnwritten known s span p a → ReadsUnwritten known s span q b → (p ≡ q) × (a ≡ b)
one-read known s span p q a b g h = (same, by (cases_order a b))
  where
    same : p ≡ q
    same = one-place span p q a b (has-in span p a g.read) (has-in span q b h.read)

    by : (a ≡ b) ⊎ ((a < b) ⊎ (b < a)) → a ≡ b
    by (inl e) = e
    by (inr (inl less)) =
        absurd (true≢false (sym (h.first a less (subst (λ k. is_in span k a ≡ true) same g.read)) ∙ ap (λ k. has known k a) (sym same) ∙ g.unknown))
    by (inr (inr more)) =
        absurd (true≢false (sym (g.first b more (subst (λ k. is_in span k b ≡ true) (sym same) h.read)) ∙ ap (λ k. has known k b) same ∙ h.unknown))

module _ (m : Ran) (s : Step) (e : Effect) (has_effect : effect_in m s ≡ Some e) (old : UnwrittenReads) (knows : Knows m old) where
  abbrev n : Ran
  n = with_step m s

  abbrev last : ℕ
  last = length m.steps

  inside : TouchesInside (length old.known.marks) e
  inside = touches-inside m s e has_effect knows.opening (length old.known.marks) knows.long

  -- ---- the last step

  read-from : (u : Unwritten) → u.place ≡ last → IsUnwritten n u → ReadsUnwritten old.known s e.reads u.spe u.at
  read-from u end h =
      let is = made-end m s e has_effect u.place h.step h.effect end h.made in
      let reads : h.effect.reads ≡ e.reads = ap (λ (d : Effect). d.reads) is.1 in
      let upto : u.place ≤ last = omega (arith, end) in
      let into : (x : ℕ) → is_in e.reads u.spe x ≡ true → is_in h.effect.reads u.spe x ≡ true = λ x has. ap (λ (span : Span). is_in span u.spe x) reads ∙ has in
      let read : is_in e.reads u.spe u.at ≡ true = sym (ap (λ (span : Span). is_in span u.spe u.at) reads) ∙ h.read in
      let within : (x : ℕ) → is_in e.reads u.spe x ≡ true → x < 262144 = λ x has. (inside.reads u.spe x has).1 in
      record {
        read = read;
        unknown = false_from_ne_true (has old.known u.spe u.at) (λ marked. h.unknown (subst (λ k. IsKnown n k u.spe u.at) (sym end) (known-on m s last u.spe u.at ((knows.bytes u.spe u.at (within u.at read)).0 marked))));
        first = λ x less is_read. (knows.bytes u.spe x (within x is_read)).1 (subst (λ k. IsKnown m k u.spe x) end (known-back m s u.place u.spe x upto (h.first x less (into x is_read))));
        none = λ load x is_read. false_from_ne_true (has old.known u.spe x)
            (λ marked. h.none (ap is_instruction is.0 ∙ load) x (into x is_read) (subst (λ k. IsKnown n k u.spe x) (sym end) (known-on m s last u.spe x ((knows.bytes u.spe x (within x is_read)).0 marked))));
      }

  read-to : (u : Unwritten) → u.place ≡ last → ReadsUnwritten old.known s e.reads u.spe u.at → IsUnwritten n u
  read-to u end g =
      let within : (x : ℕ) → is_in e.reads u.spe x ≡ true → x < 262144 = λ x has. (inside.reads u.spe x has).1 in
      let before : (x : ℕ) → IsKnown n u.place u.spe x → IsKnown m last u.spe x = λ x known. known-back m s last u.spe x (omega arith) (subst (λ k. IsKnown n k u.spe x) end known) in
      record {
        step = s;
        effect = e;
        made = made-last m s e has_effect u.place end;
        read = g.read;
        unknown = λ known. true≢false (sym ((knows.bytes u.spe u.at (within u.at g.read)).1 (before u.at known)) ∙ g.unknown);
        first = λ x less is_read. subst (λ k. IsKnown n k u.spe x) (sym end) (known-on m s last u.spe x ((knows.bytes u.spe x (within x is_read)).0 (g.first x less is_read)));
        none = λ load x is_read known. true≢false (sym ((knows.bytes u.spe x (within x is_read)).1 (before x known)) ∙ g.none load x is_read);
      }

  -- ---- all reads

  found-none : IsUnwrittenBy old.known s e.reads last None → AreAllUnwritten n old.found.items
  found-none none = record {
    each = λ k d low. unwritten-on m s (get_or old.found.items k d) (knows.found.each k d low);
    all = λ u h. elim (unwritten-inside m s u h) [
      | inl low ↦ knows.found.all u (unwritten-back m s u low h)
      | inr end ↦ absurd (none u.spe u.at (read-from u end h))
    ];
    order = knows.found.order;
  }

  found-some : (u : Unwritten) → IsUnwrittenBy old.known s e.reads last (Some u) → AreAllUnwritten n (old.found.items ++ u ∷ [])
  found-some u unwritten = record {
    each = All-push (IsUnwritten n) old.found.items u (λ k d low. unwritten-on m s (get_or old.found.items k d) (knows.found.each k d low)) (read-to u unwritten.0 unwritten.1);
    all = λ v h. elim (unwritten-inside m s v h) [
      | inl low ↦ Contains-append_left old.found.items (u ∷ []) v (knows.found.all v (unwritten-back m s v low h))
      | inr end ↦ (let same = one-read old.known s e.reads u.spe v.spe u.at v.at unwritten.1 (read-from v end h) in
          subst (Contains (old.found.items ++ u ∷ [])) (read-is u.place v.place u.spe v.spe u.at v.at (unwritten.0 ∙ sym end) same.0 same.1) (Contains-push old.found.items u))
    ];
    order = all_pairs_push (λ a b. a.place < b.place) old.found.items u knows.found.order
        (λ k d low. (let a = get_or old.found.items k d in let h = knows.found.each k d low in let before : a.place < last = slice_get_within m.steps a.place h.step h.made.at in let end = unwritten.0 in omega (arith, before, end)));
  }

  found-more : (unwritten : Option Unwritten) → IsUnwrittenBy old.known s e.reads last unwritten → AreAllUnwritten n (old.found.items ++ option_to_list unwritten)
  found-more None is = subst (AreAllUnwritten n) (sym (append-nil old.found.items)) (found-none is)
  found-more (Some u) is = found-some u is

  -- ---- all bytes

  module _ (new : UnwrittenReads) (adds : Adds s e last old new) where
    marks-are : (p x : ℕ) → x < 262144 → has new.known p x ≡ (has old.known p x || touches e p x)
    marks-are p x low =
        adds.marks (number p x)
        ∙ ap (λ t. has old.known p x || (t || in_range (range_of e.writes) (number p x))) (range-is (length old.known.marks) e.reads inside.reads p x low)
        ∙ ap (λ t. has old.known p x || (is_in e.reads p x || t)) (range-is (length old.known.marks) e.writes inside.writes p x low)

    known-if : (p x : ℕ) → x < 262144 → has new.known p x ≡ true → IsKnown n (length n.steps) p x
    known-if p x low marked = by (or_cases (has old.known p x) (touches e p x) (sym (marks-are p x low) ∙ marked))
      where
        by : (has old.known p x ≡ true) ⊎ (touches e p x ≡ true) → IsKnown n (length n.steps) p x
        by (inl was) = known-old m s e has_effect p x ((knows.bytes p x low).0 was)
        by (inr touch) = known-new m s e has_effect p x touch

    if-known : (p x : ℕ) → x < 262144 → IsKnown n (length n.steps) p x → has new.known p x ≡ true
    if-known p x low known = marks-are p x low ∙ by (known-more m s e has_effect p x known)
      where
        by : IsKnown m last p x ⊎ (touches e p x ≡ true) → (has old.known p x || touches e p x) ≡ true
        by (inl was) = or_left (has old.known p x) (touches e p x) ((knows.bytes p x low).1 was)
        by (inr touch) = or_right (has old.known p x) (touches e p x) touch

    knows-last : Knows n new
    knows-last = record {
      opening = knows.opening;
      long = adds.long ∙ knows.long;
      bytes = λ p x low. (known-if p x low, if-known p x low);
      found = subst (AreAllUnwritten n) (sym adds.found) (found-more adds.unwritten adds.is);
    }

  pub knows-more : (place : ℕ) (new : UnwrittenReads) → last ≡ place → Adds s e place old new → Knows n new
  knows-more place new at adds = knows-last new (subst (λ (k : ℕ). Adds s e k old new) (sym at) adds)
