-- From a step in a state with the recorded bytes to the step in any state that is reached.
use Rattle.std.proofs.Common.{◌≡◌, ℕ, zero, suc, ◌+◌, ◌-◌, ◌<◌, ◌≤◌, refl, sym, ◌∙◌, ap, subst, arith, List, [], ◌∷◌, ◌++◌, length, map, take, drop, Some, None, cond, inl, inr}
use Rattle.std.specs.Prelude.{slice_index, slice_get, slice_index_or, option_and_then, ◌⊎◌}
use Rattle.std.specs.Option.{option_map_or}
use Rattle.std.specs.List.{range_with_len}
use Rattle.std.proofs.Math.Seq.{drop-cons}
use Rattle.std.proofs.lemmas.List.{length-map, map-append}
use mathlib.Core.Path.{fun_ext}
use Rattle.cell_machine.specs.Spe.{Spe}
use Rattle.cell_machine.specs.State.{State}
use Rattle.cell_machine.specs.Next.{next}
use Rattle.cell_machine.specs.Run.{replay}
use Rattle.cell_machine.specs.declared.effect.Place.{Place}
use Rattle.cell_machine.specs.declared.effect.Place.TheVariants.{Memory, Local}
use Rattle.cell_machine.specs.declared.effect.Span.{Span}
use Rattle.cell_machine.specs.Written.{written_by}
use Rattle.cell_machine.specs.EffectLaws.{bytes_of, bytes_in, new_of, new_bytes, at_store, bare, SameBut, DoesTheSame}
use Rattle.cell_machine.specs.Sound.{IsSound, Fits, covers, byte_of}
use Rattle.cell_machine.specs.ByteRuns.{Bytes, Had, in_span, after}
use Rattle.cell_machine.proofs.EffectBytes.{looks-alone}
use Rattle.cell_machine.proofs.EffectsFitted.{effects-fit, each-byte}
use Rattle.cell_machine.proofs.Replays.{replay-snoc}
use Rattle.reorder_laws.specs.Cuts.{IsFront, Shows}
use Rattle.reorder_laws.specs.Recorded.{Recorded, IsRecorded, spe_in, no_spe, act_at}
use Rattle.reorder_laws.specs.Described.{Describes, DescribesSpe}
use Rattle.reorder_laws.specs.Steps.{HasSameBytes, MakesStep, StepsAlike, bytes_after, Reaches, HasRecorded}

-- ---- the elements of a range, one by one

one_by_one : (xs : List ℕ) (n a : ℕ) → a + n ≤ length xs → map (λ i. slice_index xs i) (range_with_len a n) ≡ take n (drop a xs)
one_by_one xs zero a h = refl
one_by_one xs (suc n) a h =
    let e : suc a ≡ a + 1 = omega arith in
    ap (λ ys. slice_index xs a ∷ ys) (one_by_one xs n (a + 1) (omega arith) ∙ ap (λ k. take n (drop k xs)) (sym e))
    ∙ sym (ap (take (suc n)) (drop-cons xs a 0 (let l : a < length xs = omega arith in l)))

in_span_is : (M : State) (x : Span) → x.at + x.len ≤ length (bytes_of M x.place) → in_span (byte_of M) x ≡ bytes_in M x
in_span_is M x h =
    let e : x.len ≡ x.at + x.len - x.at = omega arith in
    one_by_one (bytes_of M x.place) x.len x.at h ∙ ap (λ k. take k (drop x.at (bytes_of M x.place))) e

-- ---- a state with other bytes

abbrev stores_of : List Spe → List Spe → List Spe
stores_of [] Qs = []
stores_of (P ∷ Ps) [] = P ∷ Ps
stores_of (P ∷ Ps) (Q ∷ Qs) = at_store P Q.store ∷ stores_of Ps Qs

abbrev with_bytes : State → State → State
with_bytes M N = record M { spes = stores_of M.spes N.spes; memory = record M.memory { bytes = N.memory.bytes } }

bare_same : (Ps Qs : List Spe) → map bare Ps ≡ map bare (stores_of Ps Qs)
bare_same [] Qs = refl
bare_same (P ∷ Ps) [] = refl
bare_same (P ∷ Ps) (Q ∷ Qs) = ap (λ rest. bare P ∷ rest) (bare_same Ps Qs)

same_back : (M N : State) → SameBut M N → SameBut N M
same_back M N s = record { spes = sym s.spes; long = sym s.long; versions = sym s.versions; host = sym s.host; steps = sym s.steps }

with_bytes_same : (M N : State) → length M.memory.bytes ≡ length N.memory.bytes → SameBut (with_bytes M N) M
with_bytes_same M N long = record { spes = sym (bare_same M.spes N.spes); long = sym long; versions = refl; host = refl; steps = refl }

stores_are : (Ps Qs : List Spe) (p : ℕ) → length Ps ≡ length Qs → (slice_index_or (stores_of Ps Qs) p no_spe).store ≡ (slice_index_or Qs p no_spe).store
stores_are [] [] p e = refl
stores_are [] (Q ∷ Qs) p e = absurd (omega (arith, e))
stores_are (P ∷ Ps) [] p e = absurd (omega (arith, e))
stores_are (P ∷ Ps) (Q ∷ Qs) zero e = refl
stores_are (P ∷ Ps) (Q ∷ Qs) (suc p) e = stores_are Ps Qs p (omega (arith, e))

with_bytes_has : (M N : State) → length M.spes ≡ length N.spes → HasSameBytes (with_bytes M N) N
with_bytes_has M N e = record { memory = refl; stores = λ p. stores_are M.spes N.spes p e }

pub bytes_at : (spes : List Spe) (p : ℕ) → option_map_or (λ P. P.store) (slice_get spes p) [] ≡ (slice_index_or spes p no_spe).store
unfolding no_spe
bytes_at [] p = refl
bytes_at (P ∷ spes) zero = refl
bytes_at (P ∷ spes) (suc p) = bytes_at spes p

bytes_same : (M N : State) (place : Place) → HasSameBytes M N → bytes_of M place ≡ bytes_of N place
bytes_same M N Memory h = h.memory
bytes_same M N (Local p) h = bytes_at M.spes p ∙ h.stores p ∙ sym (bytes_at N.spes p)

-- ---- what is described doesn't look at bytes

bare_at : (xs ys : List Spe) (p : ℕ) → map bare xs ≡ map bare ys → bare (slice_index_or xs p no_spe) ≡ bare (slice_index_or ys p no_spe)
bare_at [] [] p e = refl
bare_at [] (y ∷ ys) p e = absurd (cc)
bare_at (x ∷ xs) [] p e = absurd (cc)
bare_at (x ∷ xs) (y ∷ ys) zero e = cc
bare_at (x ∷ xs) (y ∷ ys) (suc p) e = bare_at xs ys p (cc)

describes_bare : (r : Recorded) (p : ℕ) (D : List ℕ) (P : Spe) → DescribesSpe r p D P → DescribesSpe r p D (bare P)
describes_bare r p D P d = record {
  program = record { place = d.program.place; within = d.program.within; cut = d.program.cut; program = d.program.program; tags = d.program.tags; stalls = d.program.stalls };
  read = d.read;
  done = d.done;
  retired = d.retired;
  elements = d.elements;
  locking = d.locking;
  boxes = d.boxes;
  heard = d.heard;
}

describes_full : (r : Recorded) (p : ℕ) (D : List ℕ) (P : Spe) → DescribesSpe r p D (bare P) → DescribesSpe r p D P
describes_full r p D P d = record {
  program = record { place = d.program.place; within = d.program.within; cut = d.program.cut; program = d.program.program; tags = d.program.tags; stalls = d.program.stalls };
  read = d.read;
  done = d.done;
  retired = d.retired;
  elements = d.elements;
  locking = d.locking;
  boxes = d.boxes;
  heard = d.heard;
}

bare_long : (xs ys : List Spe) → map bare xs ≡ map bare ys → length ys ≡ length xs
bare_long xs ys e = sym (length-map ys bare) ∙ sym (ap length e) ∙ length-map xs bare

describes_same : (r : Recorded) (D : List ℕ) (M N : State) → SameBut M N → Describes r D M → Describes r D N
describes_same r D M N same d = record {
  inside = d.inside;
  count = bare_long M.spes N.spes same.spes ∙ d.count;
  long = sym same.long ∙ d.long;
  versions = sym same.versions ∙ d.versions;
  host = subst (Shows r.size _ _ D) same.host d.host;
  spes = λ p low. describes_full r p D (spe_in N p) (subst (DescribesSpe r p D) (bare_at M.spes N.spes p same.spes) (describes_bare r p D (spe_in M p) (d.spes p low)));
}

-- ---- bytes of a step

bytes_after-more : (r : Recorded) (bytes : Bytes) (D : List ℕ) (j : ℕ) → bytes_after r bytes (D ++ j ∷ []) ≡ after (bytes_after r bytes D) (act_at r j)
bytes_after-more r bytes [] j = refl
bytes_after-more r bytes (k ∷ D) j = bytes_after-more r (after bytes (act_at r k)) D j

-- ---- the lengths of places

at_get : (spes : List Spe) (p : ℕ) → ((slice_get spes p ≡ Some (slice_index_or spes p no_spe)) × (p < length spes)) ⊎ ((slice_get spes p ≡ None) × (length spes ≤ p))
at_get [] p = inr (refl, omega arith)
at_get (P ∷ spes) zero = inl (refl, omega arith)
at_get (P ∷ spes) (suc p) =
    elim (at_get spes p) [
      | inl h ↦ inl (h.0, omega (arith, h.1))
      | inr h ↦ inr (h.0, omega (arith, h.1))
    ]

long_same : (lines n k : ℕ) (M N : State) (place : Place) → IsSound lines n M → IsSound lines k N → length M.spes ≡ length N.spes → length (bytes_of M place) ≡ length (bytes_of N place)
long_same lines n k M N Memory a b e = a.long ∙ sym b.long
long_same lines n k M N (Local p) a b e =
    elim (at_get M.spes p) [
      | inl h ↦ elim (at_get N.spes p) [
        | inl g ↦ ap (λ o. length (option_map_or (λ P. P.store) o [])) h.0 ∙ (a.whole p (spe_in M p) h.0).store ∙ sym (b.whole p (spe_in N p) g.0).store ∙ sym (ap (λ o. length (option_map_or (λ P. P.store) o [])) g.0)
        | inr g ↦ absurd (omega (arith, h.1, g.1, e))
      ]
      | inr h ↦ elim (at_get N.spes p) [
        | inl g ↦ absurd (omega (arith, h.1, g.1, e))
        | inr g ↦ ap (λ o. length (option_map_or (λ P. P.store) o [])) h.0 ∙ sym (ap (λ o. length (option_map_or (λ P. P.store) o [])) g.0)
      ]
    ]

-- ---- the step

module _ (r : Recorded) (rec : IsRecorded r) (Before : ℕ → ℕ → Type 0) (alike : StepsAlike Before r) (D : List ℕ) (j : ℕ) (M : State) (n : ℕ) (sound : IsSound rec.lines n M) (front : IsFront Before r.size D j) (reach : Reaches r D M)
    (shown : Describes r (range_with_len 0 j) (r.state j)) (had : HasRecorded r D j) where
  abbrev K : State
  K = r.state j

  abbrev H : State
  H = with_bytes M K

  counts : length M.spes ≡ length K.spes
  counts = reach.describes.count ∙ sym shown.count

  longs : length M.memory.bytes ≡ length K.memory.bytes
  longs = reach.describes.long ∙ sym shown.long

  as_M : SameBut H M
  as_M = with_bytes_same M K longs

  low : j < r.size
  low = front.low

  sound_K : IsSound rec.lines j K
  sound_K = rec.sound j (let l = front.low in omega (arith, l))

  makes : MakesStep r D j H
  makes = alike D j H front (describes_same r D M H (same_back H M as_M) reach.describes) shown (with_bytes_has M K counts)

  -- a span that holds as many bytes in M as in K, and in which M has the recorded bytes
  span_same : (x y : Span) → y.at + y.len ≤ length (bytes_of K y.place) → x ≡ y → in_span (bytes_after r (byte_of (r.state 0)) D) y ≡ in_span (byte_of K) y → (bytes_in H x ≡ bytes_in M x) × (bytes_in M x ≡ in_span (byte_of M) y)
  span_same x y fit e h =
      let fit_M : y.at + y.len ≤ length (bytes_of M y.place) = omega (arith, fit, long_same rec.lines n j M K y.place sound sound_K counts) in
      let of_K : bytes_in H y ≡ bytes_in K y = ap (λ bytes. take (y.at + y.len - y.at) (drop y.at bytes)) (bytes_same H K y.place (with_bytes_has M K counts)) in
      let of_M : in_span (byte_of M) y ≡ bytes_in M y = in_span_is M y fit_M in
      let told : in_span (byte_of M) y ≡ in_span (byte_of K) y = ap (λ bytes. in_span bytes y) reach.bytes ∙ h in
      (ap (bytes_in H) e ∙ of_K ∙ sym (in_span_is K y fit) ∙ sym told ∙ of_M ∙ ap (bytes_in M) (sym e), ap (bytes_in M) e ∙ sym of_M)

  abbrev Same : Span → Span → Type 0
  Same x y = (bytes_in H x ≡ bytes_in M x) × (bytes_in M x ≡ in_span (byte_of M) y)

  fits_K : Fits K (r.step j) (r.effect j)
  fits_K = effects-fit rec.lines j K (r.step j) (r.effect j) sound_K (rec.told j low)

  fetches : Same makes.effect.fetch (r.effect j).fetch
  fetches = span_same makes.effect.fetch (r.effect j).fetch fits_K.fetch makes.spans.fetch (ap (λ (h : Had). h.fetched) had)

  reads : Same makes.effect.reads (r.effect j).reads
  reads = span_same makes.effect.reads (r.effect j).reads fits_K.reads makes.spans.reads (ap (λ (h : Had). h.read) had)

  does : DoesTheSame H M (r.step j) makes.effect makes.after
  does = looks-alone H M makes.after (r.step j) makes.effect as_M makes.effect_is makes.next_is fetches.0 reads.0

  new_is : new_bytes M (r.step j) makes.effect ≡ new_of (written_by K (r.step j)) (in_span (byte_of M) (r.effect j).reads)
  new_is = does.new ∙ ap (λ w. new_of w (bytes_in H makes.effect.reads)) makes.written ∙ ap (new_of (written_by K (r.step j))) (reads.0 ∙ reads.1)

  bytes_are : byte_of does.after ≡ after (byte_of M) (act_at r j)
  bytes_are =
      fun_ext (λ place. fun_ext (λ x.
      each-byte rec.lines n M does.after (r.step j) makes.effect sound does.next_is does.effect place x
      ∙ ap (λ w. cond (covers w place x) (slice_index (new_bytes M (r.step j) makes.effect) (x - w.at)) (byte_of M place x)) makes.spans.writes
      ∙ ap (λ new. cond (covers (r.effect j).writes place x) (slice_index new (x - (r.effect j).writes.at)) (byte_of M place x)) new_is))

  pub one-more : (N : State) × Reaches r (D ++ j ∷ []) N
  one-more = (
    does.after,
    record {
      run = ap (replay (r.state 0)) (map-append r.step D (j ∷ [])) ∙ replay-snoc (r.state 0) (map r.step D) (r.step j) ∙ ap (option_and_then (λ N. next N (r.step j))) reach.run ∙ does.next_is;
      describes = describes_same r (D ++ j ∷ []) makes.after does.after does.same makes.describes;
      bytes = bytes_are ∙ ap (λ b. after b (act_at r j)) reach.bytes ∙ sym (bytes_after-more r (byte_of (r.state 0)) D j);
    },
  )
