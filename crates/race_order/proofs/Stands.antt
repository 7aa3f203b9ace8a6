-- An orderer stands for the longer run after a step.
use Rattle.std.proofs.Common.{◌≡◌, ℕ, ◌+◌, ◌*◌, ◌%◌, ◌<◌, ◌≤◌, ◌^◌, ◌==◌, Bool, true, false, ◌&&◌, List, [], ◌∷◌, ◌++◌, length, take, Some, ◌⊎◌, inl, inr, refl, sym, ap, ap₂, ◌∙◌, subst, arith, length-set, get_or-set_same, get_or-set_other}
use Rattle.std.specs.Prelude.{slice_get, slice_index, cond}
use Rattle.std.proofs.lemmas.Bool.{cases_eq, eqb-true, eq-eqb, and_from, and_parts, false_from_ne_true}
use Rattle.std.proofs.lemmas.List.Sums.{count_by-le-length}
use Rattle.order_sets.specs.declared.facts.At.{At}
use Rattle.cell_base.specs.declared.steps.Step.{Step}
use Rattle.cell_machine.specs.declared.effect.Note.{Note}
use Rattle.cell_machine.specs.declared.effect.Note.TheVariants.{AtomicIssue, AtomicRead, Put, Take, Ended, Awaited}
use Rattle.race_order.specs.Trace.{Event, Trace, puts, takes, is_put, is_take, mailbox_size}
use Rattle.race_order.specs.Lines.{moves_line}
use Rattle.race_order.specs.declared.roles.Role.TheVariants.{OfBox}
use Rattle.race_order.specs.declared.boxes.Boxes.{Boxes}
use Rattle.cell_base.specs.declared.steps.Step.TheVariants.{Exec, Piece, Elem, Retire, Atomic, Host}
use Rattle.race_order.specs.Stamps.{stamp, chain_of}
use Rattle.race_order.specs.Counted.{Shows, Fits, one_more, counts_after_put, counts_after_take}
use Rattle.race_order.specs.Listed.{read_roles_by, write_roles_by, note_reads_by, note_writes_by, box_of}
use Rattle.race_order.specs.Roles.{read_roles, write_roles, note_reads, note_writes, step_reads, step_writes, line_roles, put_role, take_role, fact_in}
use Rattle.race_order.specs.Tables.{FitsChains}
use Rattle.race_order.specs.Orderly.{MayCome, IsOrderly, IsNoted, IsWithin}
use Rattle.race_order.specs.Standing.{AreNamed}
use Rattle.race_order.proofs.Counts.{count_more}
use Rattle.race_order.proofs.Places.{place_of, take_front, take_before, get_front, get_last, longer}

pub orderly_next : (n : ℕ) (trace : Trace) (e : Event) → IsOrderly n trace → MayCome n trace e → IsOrderly n (trace ++ (e ∷ []))
orderly_next n trace e o may i f at = by (place_of trace e i f at)
  where
    by : ((i < length trace) × (slice_get trace i ≡ Some f)) ⊎ ((i ≡ length trace) × (e ≡ f)) → MayCome n (take i (trace ++ (e ∷ []))) f
    by (inl q) = subst (λ t. MayCome n t f) (sym (take_front trace e i (omega arith))) (o i f q.1)
    by (inr q) = subst (λ t. MayCome n t f) (sym (subst (λ k. take k (trace ++ (e ∷ [])) ≡ trace) (sym q.0) (take_before trace e))) (subst (MayCome n trace) q.1 may)

one_place : (q m x y : ℕ) → m < 3 → y < 3 → 3 * q + m ≡ 3 * x + y → (q ≡ x) × (m ≡ y)
one_place q m x y a b e = (omega arith, omega arith)

itself_of : (q m : ℕ) → ((q == q) && (m == m)) ≡ true
itself_of q m = and_from _ _ (eq-eqb q q refl) (eq-eqb m m refl)

more_of : (counts : List ℕ) (x y q m n c : ℕ) → 3 * x + y < length counts → y < 3 → m < 3 → slice_index counts (3 * q + m) ≡ c → slice_index (one_more counts (3 * x + y)) (3 * q + m) ≡ c + cond ((x == q) && (y == m)) 1 0
more_of counts x y q m n c low a b is = by (cases_eq (3 * q + m) (3 * x + y))
  where
    by : (3 * q + m ≡ 3 * x + y) ⊎ (3 * q + m ≡ 3 * x + y → ⊥) → slice_index (one_more counts (3 * x + y)) (3 * q + m) ≡ c + cond ((x == q) && (y == m)) 1 0
    by (inl e) =
        let s : (q ≡ x) × (m ≡ y) = one_place q m x y b a e in
        let t : ((x == q) && (y == m)) ≡ true = and_from _ _ (eq-eqb x q (sym s.0)) (eq-eqb y m (sym s.1)) in
        let one : cond {A = ℕ} ((x == q) && (y == m)) 1 0 ≡ 1 = ap (λ (v : Bool). cond {A = ℕ} v 1 0) t in
        let there : slice_index (one_more counts (3 * x + y)) (3 * q + m) ≡ slice_index counts (3 * x + y) + 1 =
        ap (slice_index (one_more counts (3 * x + y))) e ∙ get_or-set_same counts (3 * x + y) (slice_index counts (3 * x + y) + 1) 0 low in
        let before : slice_index counts (3 * x + y) ≡ c = ap (slice_index counts) (sym e) ∙ is in
        omega arith
    by (inr ne) =
        let t : ((x == q) && (y == m)) ≡ false = false_from_ne_true _ (λ u. let p = and_parts _ _ u in let g : x ≡ q = eqb-true x q p.0 in let h : y ≡ m = eqb-true y m p.1 in ne (omega arith)) in
        let none : cond {A = ℕ} ((x == q) && (y == m)) 1 0 ≡ 0 = ap (λ (v : Bool). cond {A = ℕ} v 1 0) t in
        let there : slice_index (one_more counts (3 * x + y)) (3 * q + m) ≡ slice_index counts (3 * q + m) = get_or-set_other counts (3 * x + y) (3 * q + m) (slice_index counts (3 * x + y) + 1) 0 ne in
        omega arith

module _ (n : ℕ) (trace : Trace) (boxes : Boxes) (shows : Shows n boxes trace) where
  put_size : (q m : ℕ) → q < n → m < 3 → 3 * q + m < length boxes.puts.items
  put_size q m a b = let s : length boxes.puts.items ≡ 3 * n = shows.puts_size in omega arith

  take_size : (q m : ℕ) → q < n → m < 3 → 3 * q + m < length boxes.takes.items
  take_size q m a b = let s : length boxes.takes.items ≡ 3 * n = shows.takes_size in omega arith

  pub counts_fit : (note : Note) → IsNoted n note → length trace + 1 < 2 ^ 32 → Fits boxes note
  counts_fit (Put q m) w room =
      let c : slice_index boxes.puts.items (3 * q + m) ≡ puts q m trace = shows.put q m w.0 w.1 in
      let d : puts q m trace ≤ length trace = count_by-le-length (λ (e : Event). is_put q m e.effect.note) trace in
      (put_size q m w.0 w.1, omega arith)
  counts_fit (Take q m) w room =
      let c : slice_index boxes.takes.items (3 * q + m) ≡ takes q m trace = shows.taken q m w.0 w.1 in
      let d : takes q m trace ≤ length trace = count_by-le-length (λ (e : Event). is_take q m e.effect.note) trace in
      (take_size q m w.0 w.1, omega arith)
  counts_fit _ w room = tt

  put_same : (q m : ℕ) → q < n → m < 3 → box_of boxes.puts.items q m ≡ put_role q m trace
  put_same q m a b = ap (λ k. OfBox q m (k % mailbox_size m)) (shows.put q m a b)

  take_same : (q m : ℕ) → q < n → m < 3 → box_of boxes.takes.items q m ≡ take_role q m trace
  take_same q m a b = ap (λ k. OfBox q m (k % mailbox_size m)) (shows.taken q m a b)

  reads_same : (s : Step) (note : Note) → IsNoted n note → note_reads_by boxes.puts.items boxes.takes.items s note ≡ note_reads trace s note
  reads_same s (Put q m) w = ap (λ r. r ∷ []) (put_same q m w.0 w.1)
  reads_same s (Take q m) w = ap (λ r. r ∷ []) (take_same q m w.0 w.1)
  reads_same s AtomicIssue w = refl
  reads_same s AtomicRead w = refl
  reads_same s (Awaited p) w = refl
  reads_same s _ w = refl

  writes_same : (s : Step) (note : Note) → IsNoted n note → note_writes_by boxes.puts.items boxes.takes.items s note ≡ note_writes trace s note
  writes_same s (Put q m) w = ap (λ r. r ∷ []) (put_same q m w.0 w.1)
  writes_same s (Take q m) w = ap (λ r. r ∷ []) (take_same q m w.0 w.1)
  writes_same s AtomicIssue w = refl
  writes_same s Ended w = refl
  writes_same s _ w = refl

  pub read_same : (e : Event) (whole : Bool) → whole ≡ moves_line trace e.step → IsNoted n e.effect.note → read_roles_by boxes.puts.items boxes.takes.items whole e ≡ read_roles trace e
  read_same e whole is w = ap₂ (λ b l. step_reads e.step ++ (l ++ line_roles b e.effect)) is (reads_same e.step e.effect.note w)

  pub write_same : (e : Event) (whole : Bool) → whole ≡ moves_line trace e.step → IsNoted n e.effect.note → write_roles_by boxes.puts.items boxes.takes.items whole e ≡ write_roles trace e
  write_same e whole is w = ap₂ (λ b l. step_writes e.step ++ (l ++ line_roles b e.effect)) is (writes_same e.step e.effect.note w)

  put_more : (note : Note) → IsNoted n note → (q m : ℕ) → q < n → m < 3 → slice_index (counts_after_put boxes.puts.items note) (3 * q + m) ≡ puts q m trace + cond (is_put q m note) 1 0
  put_more (Put x y) w q m a b = more_of boxes.puts.items x y q m n (puts q m trace) (put_size x y w.0 w.1) w.1 b (shows.put q m a b)
  put_more _ w q m a b = let h : slice_index boxes.puts.items (3 * q + m) ≡ puts q m trace = shows.put q m a b in omega arith

  take_more : (note : Note) → IsNoted n note → (q m : ℕ) → q < n → m < 3 → slice_index (counts_after_take boxes.takes.items note) (3 * q + m) ≡ takes q m trace + cond (is_take q m note) 1 0
  take_more (Take x y) w q m a b = more_of boxes.takes.items x y q m n (takes q m trace) (take_size x y w.0 w.1) w.1 b (shows.taken q m a b)
  take_more _ w q m a b = let h : slice_index boxes.takes.items (3 * q + m) ≡ takes q m trace = shows.taken q m a b in omega arith

  put_long : (note : Note) → length (counts_after_put boxes.puts.items note) ≡ 3 * n
  put_long (Put x y) = length-set boxes.puts.items (3 * x + y) (slice_index boxes.puts.items (3 * x + y) + 1) ∙ shows.puts_size
  put_long _ = shows.puts_size

  take_long : (note : Note) → length (counts_after_take boxes.takes.items note) ≡ 3 * n
  take_long (Take x y) = length-set boxes.takes.items (3 * x + y) (slice_index boxes.takes.items (3 * x + y) + 1) ∙ shows.takes_size
  take_long _ = shows.takes_size

  pub counts_next : (e : Event) (boxes' : Boxes) → IsNoted n e.effect.note → boxes'.puts.items ≡ counts_after_put boxes.puts.items e.effect.note → boxes'.takes.items ≡ counts_after_take boxes.takes.items e.effect.note → Shows n boxes' (trace ++ (e ∷ []))
  counts_next e boxes' w p t =
      record {
        puts_size = ap length p ∙ put_long e.effect.note;
        takes_size = ap length t ∙ take_long e.effect.note;
        put = λ q m a b. ap (λ l. slice_index l (3 * q + m)) p ∙ (put_more e.effect.note w q m a b ∙ sym (count_more (λ (f : Event). is_put q m f.effect.note) trace e));
        taken = λ q m a b. ap (λ l. slice_index l (3 * q + m)) t ∙ (take_more e.effect.note w q m a b ∙ sym (count_more (λ (f : Event). is_take q m f.effect.note) trace e));
      }

pub names_next : (n : ℕ) (trace : Trace) (e : Event) (names : List At) → AreNamed n trace names → AreNamed n (trace ++ (e ∷ [])) (names ++ (stamp n (length trace) e ∷ []))
names_next n trace e names h =
    record { long = longer names (stamp n (length trace) e) ∙ (ap (λ k. k + 1) h.long ∙ sym (longer trace e)); named = λ i f at. by i f (place_of trace e i f at) }
  where
    by : (i : ℕ) (f : Event) → ((i < length trace) × (slice_get trace i ≡ Some f)) ⊎ ((i ≡ length trace) × (e ≡ f)) → slice_get (names ++ (stamp n (length trace) e ∷ [])) i ≡ Some (stamp n i f)
    by i f (inl q) = let l : length names ≡ length trace = h.long in get_front names (stamp n (length trace) e ∷ []) i (omega arith) ∙ h.named i f q.1
    by i f (inr q) =
        let l : i ≡ length names = q.0 ∙ sym h.long in
        subst (λ k. slice_get (names ++ (stamp n (length trace) e ∷ [])) k ≡ Some (stamp n (length trace) e)) (sym l) (get_last names (stamp n (length trace) e))
        ∙ ap₂ (λ k g. Some (stamp n k g)) (sym q.0) q.1

pub chain_low : (n : ℕ) (s : Step) → IsWithin n s → chain_of n s < 3 * n + 1
chain_low n (Exec p) w = omega arith
chain_low n (Piece p c x k) w = omega arith
chain_low n (Elem p c) w = omega arith
chain_low n (Retire p c) w = omega arith
chain_low n (Atomic p) w = omega arith
chain_low n Host w = omega arith

-- what names a step in a set is of one of the chains
pub fact_fits : (n : ℕ) (only : Bool) (a : At) (s : Step) → IsWithin n s → FitsChains (3 * n + 1) (fact_in n only a s)
fact_fits n true a s w = tt
fact_fits n false a (Exec p) w = omega arith
fact_fits n false a (Piece p c x k) w = tt
fact_fits n false a (Elem p c) w = tt
fact_fits n false a (Retire p c) w = tt
fact_fits n false a (Atomic p) w = omega arith
fact_fits n false a Host w = omega arith
