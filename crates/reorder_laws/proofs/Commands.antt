-- What stands in a state that is reached by some places of a run of a command whose steps stand there as far as the place j.
use Rattle.std.proofs.Common.{◌≡◌, ℕ, zero, suc, ◌+◌, ◌-◌, ◌<◌, ◌≤◌, refl, sym, ◌∙◌, ap, arith, Bool, true, false, List, [], ◌∷◌, ◌++◌, length, Option, Some, None, cond, inl, inr, append_assoc, append-nil}
use Rattle.std.specs.Prelude.{slice_get, ◌==◌, ◌&&◌, ◌||◌, nat_lt}
use Rattle.std.specs.List.{range_with_len, filter_map, list_any, cons_option}
use Rattle.std.specs.Option.{option_map_or}
use Rattle.std.proofs.lemmas.Bool.{cases_lt, eq-eqb, eqb-true, lt-ltb, false≢true}
use Rattle.std.proofs.lemmas.Bool.Decides.{nat_tests}
use Rattle.std.proofs.lemmas.List.{length-append}
use Rattle.cell_base.specs.declared.steps.Step.{Step}
use Rattle.cell_base.specs.declared.steps.Step.TheVariants.{Exec, Piece, Elem, Retire, Atomic, Host}
use Rattle.mfc_command.specs.declared.command.Command.{Command}
use Rattle.mfc_command.specs.Order.{goes_before}
use Rattle.cell_machine.specs.Spe.{Spe, PartDone, is_faulted}
use Rattle.cell_machine.specs.State.{State}
use Rattle.cell_machine.specs.Moves.{read_of, is_done, is_resumed, was_retired, is_complete, may_begin}
use Rattle.cell_machine.specs.Order.{is_step_of}
use Rattle.cell_machine.proofs.Staying.{IsMore, complete-more}
use Rattle.cell_machine.proofs.Same.{complete-at, complete-none, get-left, eq_is}
use Rattle.reorder_laws.specs.Cuts.{has, IsFront, IsCut}
use Rattle.reorder_laws.specs.Recorded.{Recorded, count_of, spe_in, spe_before, Program, is_exec, is_elem, done_by, retired_by}
use Rattle.reorder_laws.specs.OrderLaws.{Orders}
use Rattle.reorder_laws.specs.Frames.{IsFaultless, Acknowledges, Issues, HasFrames}
use Rattle.reorder_laws.proofs.Controlling.{begins-behind, begun-behind, goes-alike}
use Rattle.reorder_laws.specs.Described.{Describes, DescribesSpe}
use Rattle.reorder_laws.proofs.Cuts.{shown_at}

-- ---- tests over places

-- whether a place of the list passes
abbrev pub any_at : (ℕ → Bool) → List ℕ → Bool
any_at h [] = false
any_at h (i ∷ D) = h i || any_at h D

pub any_of : {X : Type 0} (f : X → Bool) (g : ℕ → Option X) (D : List ℕ) → list_any f (filter_map g D) ≡ any_at (λ i. option_map_or f (g i) false) D
any_of f g [] = refl
any_of {X = X} f g (i ∷ D) = on (g i) (any_of f g D)
  where
    on : (o : Option X) → list_any f (filter_map g D) ≡ any_at (λ i. option_map_or f (g i) false) D
        → list_any f (cons_option o (filter_map g D)) ≡ (option_map_or f o false || any_at (λ i. option_map_or f (g i) false) D)
    on None rec = rec
    on (Some x) rec = ap (λ b. f x || b) rec

any_true : (h : ℕ → Bool) (D : List ℕ) → any_at h D ≡ true → (i : ℕ) × (has D i ≡ true) × (h i ≡ true)
unfolding has
any_true h [] e = absurd (false≢true e)
any_true h (k ∷ D) e = go (h k) refl (any_true h D) e
  where
    or_true : (a : Bool) → (a || true) ≡ true
    or_true true = refl
    or_true false = refl

    go : (b : Bool) → h k ≡ b → (any_at h D ≡ true → (i : ℕ) × (has D i ≡ true) × (h i ≡ true)) → (b || any_at h D) ≡ true → (i : ℕ) × ((k == i || has D i) ≡ true) × (h i ≡ true)
    go true q rec f = (k, ap (λ b. b || has D k) (eq-eqb k k refl), q)
    go false q rec f = let t = rec f in (t.0, ap (λ b. (k == t.0) || b) t.1 ∙ or_true (k == t.0), t.2)

pub any_from : (h : ℕ → Bool) (D : List ℕ) (i : ℕ) → has D i ≡ true → h i ≡ true → any_at h D ≡ true
unfolding has
any_from h [] i e f = absurd (false≢true e)
any_from h (k ∷ D) i e f = go (k == i) refl (any_from h D i) e
  where
    or_true : (a : Bool) → (a || true) ≡ true
    or_true true = refl
    or_true false = refl

    go : (b : Bool) → (k == i) ≡ b → (has D i ≡ true → h i ≡ true → any_at h D ≡ true) → (b || has D i) ≡ true → (h k || any_at h D) ≡ true
    go true q rec g = ap (λ b. b || any_at h D) (ap h (eqb-true k i q) ∙ f)
    go false q rec g = ap (λ b. h k || b) (rec g f) ∙ or_true (h k)

in_range : (a m i : ℕ) → has (range_with_len a m) i ≡ true → i < a + m
unfolding has
in_range a zero i e = absurd (false≢true e)
in_range a (suc m) i e = go (a == i) refl (in_range (a + 1) m i) e
  where
    go : (b : Bool) → (a == i) ≡ b → (has (range_with_len (a + 1) m) i ≡ true → i < a + 1 + m) → (b || has (range_with_len (a + 1) m) i) ≡ true → i < a + suc m
    go true q rec e = let s : a ≡ i = eqb-true a i q in omega (arith, s)
    go false q rec e = omega (arith, rec e)

pub below_range : (j i : ℕ) → has (range_with_len 0 j) i ≡ true → i < j
below_range j i e = let h = in_range 0 j i e in omega (arith, h)

-- ---- which parts were copied and which commands retired, by the places at which that happened

parts_test : ℕ → ℕ → ℕ → PartDone → Bool
parts_test c e k d = d.cmd == c && d.elem == e && d.part == k

both : (a b : Bool) → (a && b) ≡ true → (a ≡ true) × (b ≡ true)
both true b h = (refl, h)
both false b h = absurd (false≢true h)

piece_is : (p c e k : ℕ) (s : Step) → option_map_or (parts_test c e k) (done_by p s) false ≡ true → s ≡ Piece p c e k
unfolding parts_test
piece_is p c e k (Exec q) h = absurd (false≢true h)
piece_is p c e k (Elem q d) h = absurd (false≢true h)
piece_is p c e k (Retire q d) h = absurd (false≢true h)
piece_is p c e k (Atomic q) h = absurd (false≢true h)
piece_is p c e k Host h = absurd (false≢true h)
piece_is p c e k (Piece q d f n) h = go (q == p) refl h
  where
    go : (b : Bool) → (q == p) ≡ b → option_map_or (parts_test c e k) (cond b (Some (record { cmd = d; elem = f; part = n })) None) false ≡ true → Piece q d f n ≡ Piece p c e k
    go false x t = absurd (false≢true t)
    go true x t =
        let l = both (d == c && f == e) (n == k) t in
        let m = both (d == c) (f == e) l.0 in
        ap (λ q. Piece q d f n) (eq_is q p x) ∙ ap (λ d. Piece p d f n) (eq_is d c m.0) ∙ ap (λ f. Piece p c f n) (eq_is f e m.1) ∙ ap (Piece p c e) (eq_is n k l.1)

same_eq : (a : ℕ) → (a == a) ≡ true
same_eq a = eq-eqb a a refl

is_piece : (p c e k : ℕ) → option_map_or (parts_test c e k) (done_by p (Piece p c e k)) false ≡ true
unfolding parts_test
is_piece p c e k = rw (same_eq p, same_eq c, same_eq e, same_eq k) refl

pub done_is : (r : Recorded) (p c e k : ℕ) (E : List ℕ) (xs : List PartDone) → xs ≡ filter_map (λ i. done_by p (r.step i)) E → is_done xs c e k ≡ true → (i : ℕ) × (has E i ≡ true) × (r.step i ≡ Piece p c e k)
unfolding is_done parts_test
done_is r p c e k E xs q h =
    let t = any_true (λ i. option_map_or (parts_test c e k) (done_by p (r.step i)) false) E (sym (any_of (parts_test c e k) (λ i. done_by p (r.step i)) E) ∙ ap (list_any (parts_test c e k)) (sym q) ∙ h) in
    (t.0, t.1, piece_is p c e k (r.step t.0) t.2)

pub done_from : (r : Recorded) (p c e k : ℕ) (E : List ℕ) (xs : List PartDone) → xs ≡ filter_map (λ i. done_by p (r.step i)) E → (i : ℕ) → has E i ≡ true → r.step i ≡ Piece p c e k → is_done xs c e k ≡ true
unfolding is_done parts_test
done_from r p c e k E xs q i h s =
    ap (list_any (parts_test c e k)) q ∙ any_of (parts_test c e k) (λ i. done_by p (r.step i)) E
    ∙ any_from (λ i. option_map_or (parts_test c e k) (done_by p (r.step i)) false) E i h (ap (λ s. option_map_or (parts_test c e k) (done_by p s) false) s ∙ is_piece p c e k)

retire_is : (p c : ℕ) (s : Step) → option_map_or (λ d. d == c) (retired_by p s) false ≡ true → s ≡ Retire p c
retire_is p c (Exec q) h = absurd (false≢true h)
retire_is p c (Elem q d) h = absurd (false≢true h)
retire_is p c (Piece q d e k) h = absurd (false≢true h)
retire_is p c (Atomic q) h = absurd (false≢true h)
retire_is p c Host h = absurd (false≢true h)
retire_is p c (Retire q d) h = go (q == p) refl h
  where
    go : (b : Bool) → (q == p) ≡ b → option_map_or (λ d. d == c) (cond b (Some d) None) false ≡ true → Retire q d ≡ Retire p c
    go false x t = absurd (false≢true t)
    go true x t = ap (λ q. Retire q d) (eq_is q p x) ∙ ap (Retire p) (eq_is d c t)

is_retire : (p c : ℕ) → option_map_or (λ d. d == c) (retired_by p (Retire p c)) false ≡ true
is_retire p c = rw (same_eq p) (same_eq c)

pub retired_is : (r : Recorded) (p c : ℕ) (E : List ℕ) (xs : List ℕ) → xs ≡ filter_map (λ i. retired_by p (r.step i)) E → was_retired xs c ≡ true → (i : ℕ) × (has E i ≡ true) × (r.step i ≡ Retire p c)
retired_is r p c E xs q h =
    let t = any_true (λ i. option_map_or (λ d. d == c) (retired_by p (r.step i)) false) E (sym (any_of (λ d. d == c) (λ i. retired_by p (r.step i)) E) ∙ ap (list_any (λ d. d == c)) (sym q) ∙ h) in
    (t.0, t.1, retire_is p c (r.step t.0) t.2)

pub retired_from : (r : Recorded) (p c : ℕ) (E : List ℕ) (xs : List ℕ) → xs ≡ filter_map (λ i. retired_by p (r.step i)) E → (i : ℕ) → has E i ≡ true → r.step i ≡ Retire p c → was_retired xs c ≡ true
retired_from r p c E xs q i h s =
    ap (list_any (λ d. d == c)) q ∙ any_of (λ d. d == c) (λ i. retired_by p (r.step i)) E
    ∙ any_from (λ i. option_map_or (λ d. d == c) (retired_by p (r.step i)) false) E i h (ap (λ s. option_map_or (λ d. d == c) (retired_by p s) false) s ∙ is_retire p c)

-- ---- along the run

-- a step of command c is the reading of an element, a piece or a retirement
pub data StepOf (p c : ℕ) (s : Step) : Type 0 where
  IsElem : s ≡ Elem p c → StepOf p c s
  IsPiece : (e k : ℕ) → s ≡ Piece p c e k → StepOf p c s
  IsRetire : s ≡ Retire p c → StepOf p c s

pub step_of : (p c : ℕ) (s : Step) → is_step_of p c s ≡ true → StepOf p c s
step_of p c (Exec q) h = absurd (false≢true h)
step_of p c (Atomic q) h = absurd (false≢true h)
step_of p c Host h = absurd (false≢true h)
step_of p c (Elem q d) h = let t = both (q == p) (d == c) h in IsElem (ap (λ q. Elem q d) (eq_is q p t.0) ∙ ap (Elem p) (eq_is d c t.1))
step_of p c (Retire q d) h = let t = both (q == p) (d == c) h in IsRetire (ap (λ q. Retire q d) (eq_is q p t.0) ∙ ap (Retire p) (eq_is d c t.1))
step_of p c (Piece q d e k) h = let t = both (q == p) (d == c) h in IsPiece e k (ap (λ q. Piece q d e k) (eq_is q p t.0) ∙ ap (λ d. Piece p d e k) (eq_is d c t.1))

pub elem_of : (p c : ℕ) (s : Step) → is_elem p c s ≡ true → s ≡ Elem p c
elem_of p c (Exec q) h = absurd (false≢true h)
elem_of p c (Atomic q) h = absurd (false≢true h)
elem_of p c Host h = absurd (false≢true h)
elem_of p c (Elem q d) h = let t = both (q == p) (d == c) h in ap (λ q. Elem q d) (eq_is q p t.0) ∙ ap (Elem p) (eq_is d c t.1)
elem_of p c (Retire q d) h = absurd (false≢true h)
elem_of p c (Piece q d e k) h = absurd (false≢true h)

module _ (r : Recorded) (frames : HasFrames r) (p : ℕ) (low_p : p < count_of r) where
  grown : (x m : ℕ) → x + m ≤ r.size → (later : List Command) × ((spe_before r p (x + m)).moves.issued ≡ (spe_before r p x).moves.issued ++ later)
  grown x zero h = let e : x + 0 ≡ x = omega arith in ([], ap (λ y. (spe_before r p y).moves.issued) e ∙ sym (append-nil (spe_before r p x).moves.issued))
  grown x (suc m) h =
      let e : x + suc m ≡ suc (x + m) = omega arith in
      let before = grown x m (omega (arith, h)) in
      let more = frames.grows (x + m) p (omega (arith, h)) low_p in
      (before.0 ++ more.0, ap (λ y. (spe_before r p y).moves.issued) e ∙ more.1 ∙ ap (λ xs. xs ++ more.0) before.1 ∙ append_assoc (spe_before r p x).moves.issued before.0 more.0)

  pub grown_to : (x y : ℕ) → x ≤ y → y ≤ r.size → (later : List Command) × ((spe_before r p y).moves.issued ≡ (spe_before r p x).moves.issued ++ later)
  grown_to x y h g =
      let m : (m : ℕ) × (y ≡ x + m) = (y - x, omega (arith, h)) in
      let t = grown x m.0 (omega (arith, m.1, g)) in
      (t.0, ap (λ y. (spe_before r p y).moves.issued) m.1 ∙ t.1)

  complete_on : (c x m : ℕ) → x + m ≤ r.size → is_complete (spe_before r p x).moves c ≡ true → is_complete (spe_before r p (x + m)).moves c ≡ true
  complete_on c x zero h t = let e : x + 0 ≡ x = omega arith in ap (λ y. is_complete (spe_before r p y).moves c) e ∙ t
  complete_on c x (suc m) h t =
      let e : x + suc m ≡ suc (x + m) = omega arith in
      ap (λ y. is_complete (spe_before r p y).moves c) e ∙ frames.stays (x + m) p c (omega (arith, h)) low_p (complete_on c x m (omega (arith, h)) t)

  pub complete_to : (c x y : ℕ) → x ≤ y → y ≤ r.size → is_complete (spe_before r p x).moves c ≡ true → is_complete (spe_before r p y).moves c ≡ true
  complete_to c x y h g t =
      let m : (m : ℕ) × (y ≡ x + m) = (y - x, omega (arith, h)) in
      ap (λ y. is_complete (spe_before r p y).moves c) m.1 ∙ complete_on c x m.0 (omega (arith, m.1, g)) t

  -- what is complete at a place makes no step from there on
  pub no_step : (c x i : ℕ) → x ≤ i → i < r.size → is_complete (spe_before r p x).moves c ≡ true → is_step_of p c (r.step i) ≡ true → ⊥
  no_step c x i h g t s =
      let m : (m : ℕ) × (i ≡ x + m) = (i - x, omega (arith, h)) in
      let complete : is_complete (spe_before r p i).moves c ≡ true = ap (λ y. is_complete (spe_before r p y).moves c) m.1 ∙ complete_on c x m.0 (omega (arith, m.1, g)) t in
      false≢true (sym (frames.there i p c g low_p s).2 ∙ complete)

  resumed_on : (c e x m : ℕ) → x + m ≤ r.size → is_resumed (spe_before r p x).moves.resumed c e ≡ true → is_resumed (spe_before r p (x + m)).moves.resumed c e ≡ true
  resumed_on c e x zero h t = let q : x + 0 ≡ x = omega arith in ap (λ y. is_resumed (spe_before r p y).moves.resumed c e) q ∙ t
  resumed_on c e x (suc m) h t =
      let q : x + suc m ≡ suc (x + m) = omega arith in
      ap (λ y. is_resumed (spe_before r p y).moves.resumed c e) q ∙ frames.more_resumed (x + m) p c e (omega (arith, h)) low_p (resumed_on c e x m (omega (arith, h)) t)

  resumed_same : (c e x m : ℕ) → x + m ≤ r.size → ((i : ℕ) → x ≤ i → i < x + m → Acknowledges r i p c → ⊥) → is_resumed (spe_before r p (x + m)).moves.resumed c e ≡ is_resumed (spe_before r p x).moves.resumed c e
  resumed_same c e x zero h none = let q : x + 0 ≡ x = omega arith in ap (λ y. is_resumed (spe_before r p y).moves.resumed c e) q
  resumed_same c e x (suc m) h none =
      let q : x + suc m ≡ suc (x + m) = omega arith in
      ap (λ y. is_resumed (spe_before r p y).moves.resumed c e) q ∙ frames.resumed (x + m) p c e (omega (arith, h)) low_p (none (x + m) (omega arith) (omega arith))
      ∙ resumed_same c e x m (omega (arith, h)) (λ i l g. none i l (omega (arith, g)))

  -- a stall that was resumed by place y was so by place x, or was acknowledged between
  pub resumed_by : (c e x y : ℕ) → x ≤ r.size → y ≤ r.size → ((i : ℕ) → x ≤ i → i < y → Acknowledges r i p c → ⊥) → is_resumed (spe_before r p y).moves.resumed c e ≡ true → is_resumed (spe_before r p x).moves.resumed c e ≡ true
  resumed_by c e x y hx hy none t =
      elim (cases_lt x y) [
        | inl less ↦ let m : (m : ℕ) × (y ≡ x + m) = (y - x, omega (arith, less)) in
            sym (resumed_same c e x m.0 (omega (arith, m.1, hy)) (λ i l g. none i l (omega (arith, m.1, g)))) ∙ ap (λ y. is_resumed (spe_before r p y).moves.resumed c e) (sym m.1) ∙ t
        | inr more ↦ let m : (m : ℕ) × (x ≡ y + m) = (x - y, omega (arith, more)) in
            ap (λ y. is_resumed (spe_before r p y).moves.resumed c e) m.1 ∙ resumed_on c e y m.0 (omega (arith, m.1, hx)) t
      ]

-- ---- at the front

module _ (r : Recorded) (frames : HasFrames r) (Before : ℕ → ℕ → Type 0) (orders : Orders Before r) (D : List ℕ) (j : ℕ) (M : State) (front : IsFront Before r.size D j) (describes : Describes r D M) (shown : Describes r (range_with_len 0 j) (r.state j))
    (p : ℕ) (low_p : p < count_of r) where
  abbrev K : Spe
  K = spe_before r p j

  abbrev P : Spe
  P = spe_in M p

  of_P : DescribesSpe r p D P
  of_P = describes.spes p low_p

  of_K : DescribesSpe r p (range_with_len 0 j) K
  of_K = shown.spes p low_p

  is_exec_step : (i : ℕ) → r.step i ≡ Exec p → is_exec p (r.step i) ≡ true
  is_exec_step i s = ap (is_exec p) s ∙ same_eq p

  -- a place of an instruction that stands in D lies below that up to which D has come
  exec_below : (i : ℕ) → i < r.size → r.step i ≡ Exec p → has D i ≡ true → i < of_P.program.place
  exec_below i low s h = lt_of i of_P.program.place (sym (of_P.program.cut i low (is_exec_step i s)) ∙ h)
    where
      lt_of : (a b : ℕ) → nat_lt a b ≡ true → a < b
      lt_of a b h = grind (arith, nat_tests)

  exec_there : (i : ℕ) → i < r.size → r.step i ≡ Exec p → i < of_P.program.place → has D i ≡ true
  exec_there i low s h = of_P.program.cut i low (is_exec_step i s) ∙ lt-ltb i of_P.program.place h

  step_low : j < r.size
  step_low = front.low

  -- how far command b has come in K, of whose steps and acknowledgements all below j stand in D, and no reading of an element from j on
  pub record StandsTo (b : ℕ) : Type 0 where
    pub past : (i : ℕ) → i < j → is_step_of p b (r.step i) ≡ true → has D i ≡ true
    pub later : (i : ℕ) → j ≤ i → i < r.size → is_elem p b (r.step i) ≡ true → has D i ≡ false
    pub resumed : (i : ℕ) → i < j → Acknowledges r i p b → has D i ≡ true

  elem_is_step : (b i : ℕ) → is_elem p b (r.step i) ≡ true → is_step_of p b (r.step i) ≡ true
  elem_is_step b i = on (r.step i)
    where
      on : (s : Step) → is_elem p b s ≡ true → is_step_of p b s ≡ true
      on (Exec q) h = absurd (false≢true h)
      on (Piece q c e k) h = absurd (false≢true h)
      on (Elem q c) h = h
      on (Retire q c) h = absurd (false≢true h)
      on (Atomic q) h = absurd (false≢true h)
      on Host h = absurd (false≢true h)

  piece_is_step : (b e k i : ℕ) → r.step i ≡ Piece p b e k → is_step_of p b (r.step i) ≡ true
  piece_is_step b e k i s = ap (is_step_of p b) s ∙ rw (same_eq p, same_eq b) refl

  retire_is_step : (b i : ℕ) → r.step i ≡ Retire p b → is_step_of p b (r.step i) ≡ true
  retire_is_step b i s = ap (is_step_of p b) s ∙ rw (same_eq p, same_eq b) refl

  pub read_at : (b : ℕ) → IsCut r.size (λ i. is_elem p b (r.step i)) D j → read_of P.moves.read b ≡ read_of K.moves.read b
  read_at b cut =
      shown_at r.size (λ i. is_elem p b (r.step i)) (λ x. read_of (spe_before r p x).moves.read b) (λ i low out. frames.elements i p b low low_p out) D j (read_of P.moves.read b) (let l = front.low in omega (arith, l)) cut (of_P.elements b)

  pub same_read : (b : ℕ) → StandsTo b → read_of P.moves.read b ≡ read_of K.moves.read b
  same_read b st =
      shown_at r.size (λ i. is_elem p b (r.step i)) (λ x. read_of (spe_before r p x).moves.read b) (λ i low out. frames.elements i p b low low_p out) D j (read_of P.moves.read b) (let l = front.low in omega (arith, l)) cut (of_P.elements b)
    where
      ge_not : (i j : ℕ) → j ≤ i → nat_lt i j ≡ false
      ge_not i j h = grind (arith, nat_tests)

      cut : IsCut r.size (λ i. is_elem p b (r.step i)) D j
      cut i low h = elim (cases_lt i j) [
        | inl less ↦ st.past i less (elem_is_step b i h) ∙ sym (lt-ltb i j less)
        | inr more ↦ st.later i more low h ∙ sym (ge_not i j more)
      ]

  pub more_of : (b : ℕ) → StandsTo b → IsMore K.moves P.moves b
  more_of b st = record {
    read = same_read b st;
    done = λ e k h.
        let t = done_is r p b e k (range_with_len 0 j) K.moves.done of_K.done h in
        done_from r p b e k D P.moves.done of_P.done t.0 (st.past t.0 (below_range j t.0 t.1) (piece_is_step b e k t.0 t.2)) t.2;
    resumed = λ e h.
        ap (λ (g : Program). is_resumed g.resumed b e) of_P.program.program
        ∙ resumed_by r frames p low_p b e of_P.program.place j of_P.program.within (let l = front.low in omega (arith, l)) (none e) h;
    retired = λ h.
        let t = retired_is r p b (range_with_len 0 j) K.moves.retired of_K.retired h in
        retired_from r p b D P.moves.retired of_P.retired t.0 (st.past t.0 (below_range j t.0 t.1) (retire_is_step b t.0 t.2)) t.2;
  }
    where
      none : (e i : ℕ) → of_P.program.place ≤ i → i < j → Acknowledges r i p b → ⊥
      none e i low less ack =
          let l = front.low in
          let h = exec_below i (omega (arith, l, less)) ack.step (st.resumed i less ack) in
          omega (arith, h, low)

  -- ---- the commands up to one that was issued below j

  issued_below : (c : ℕ) (d : Command) → slice_get K.moves.issued c ≡ Some d → (i : ℕ) × (i < j) × Issues r i p c d
  issued_below c d at = frames.issued_at j p c d (let l = front.low in omega (arith, l)) low_p at

  -- commands up to c are the same, where the place at which c was issued stands in D
  same_issued : (c : ℕ) (d : Command) (i : ℕ) → i < j → Issues r i p c d → has D i ≡ true → (b : ℕ) → b ≤ c → slice_get P.moves.issued b ≡ slice_get K.moves.issued b
  same_issued c d i less issue h b small =
      let l = front.low in
      let low : i < r.size = omega (arith, l, less) in
      let below = exec_below i low issue.step h in
      let now = frames.issues i p c d low low_p issue in
      let number = frames.number i p c d low low_p issue in
      let to_P = grown_to r frames p low_p (suc i) of_P.program.place below of_P.program.within in
      let to_K = grown_to r frames p low_p (suc i) j less (omega (arith, l)) in
      let long : b < length (spe_before r p (suc i)).moves.issued = long_of (spe_before r p i).moves.issued (spe_before r p (suc i)).moves.issued d b c now number small in
      ap (λ (g : Program). slice_get g.issued b) of_P.program.program
      ∙ ap (λ xs. slice_get xs b) to_P.1 ∙ get-left (spe_before r p (suc i)).moves.issued to_P.0 b long
      ∙ sym (ap (λ xs. slice_get xs b) to_K.1 ∙ get-left (spe_before r p (suc i)).moves.issued to_K.0 b long)
    where
      long_of : (xs ys : List Command) (d : Command) (b c : ℕ) → ys ≡ xs ++ d ∷ [] → length xs ≡ c → b ≤ c → b < length ys
      long_of xs ys d b c e n small = omega (arith, n, small, ap length e, length-append xs (d ∷ []))

  -- what is complete in K, and all of whose steps and acknowledgements stand in D, is complete in P
  pub complete_there : (b : ℕ) → slice_get P.moves.issued b ≡ slice_get K.moves.issued b → is_complete K.moves b ≡ true → StandsTo b → is_complete P.moves b ≡ true
  complete_there b same h st = on (slice_get K.moves.issued b) refl
    where
      on : (o : Option Command) → slice_get K.moves.issued b ≡ o → is_complete P.moves b ≡ true
      on None e = absurd (false≢true (sym (complete-none K.moves b e) ∙ h))
      on (Some d) e = complete-at P.moves b d (same ∙ e) ∙ complete-more K.moves P.moves b d (more_of b st) (sym (complete-at K.moves b d e) ∙ h)

  -- ---- a step of a command

  module _ (c : ℕ) (is_of : is_step_of p c (r.step j) ≡ true) where
    command : (d : Command) × (slice_get K.moves.issued c ≡ Some d) × (is_complete K.moves c ≡ false)
    command = frames.there j p c front.low low_p is_of

    issue : (i : ℕ) × (i < j) × Issues r i p c command.0
    issue = issued_below c command.0 command.1

    issue_there : has D issue.0 ≡ true
    issue_there =
        let l = front.low in
        let less = issue.1 in
        front.past issue.0 (omega (arith, l, less)) (orders.issued issue.0 j p c command.0 issue.1 front.low issue.2.step issue.2.note is_of)

    pub same_commands : (b : ℕ) → b ≤ c → slice_get P.moves.issued b ≡ slice_get K.moves.issued b
    same_commands b small = same_issued c command.0 issue.0 issue.1 issue.2 issue_there b small

    -- a command that goes before it, which is complete
    stands_before : (b : ℕ) → goes_before K.moves.issued b c ≡ true → is_complete K.moves b ≡ true → StandsTo b
    stands_before b goes complete = record {
      past = λ i less s. let l = front.low in front.past i (omega (arith, l, less)) (orders.queue i j p b c less front.low s is_of goes);
      later = λ i more low h. absurd (no_step r frames p low_p b j i more low complete (elem_is_step b i h));
      resumed = λ i less ack. let l = front.low in front.past i (omega (arith, l, less)) (orders.resumed_earlier i j p b c ack.command less front.low ack.step ack.stalled ack.is ack.tag is_of goes);
    }

    pub begins_there : may_begin K.moves c ≡ true → may_begin P.moves c ≡ true
    begins_there begun =
        begins-behind P.moves c (λ b less goes.
        let same = goes-alike K.moves.issued P.moves.issued b c (same_commands b (omega (arith, less))) (same_commands c (omega arith)) in
        let goes_K : goes_before K.moves.issued b c ≡ true = sym same ∙ goes in
        let complete = begun-behind K b c begun goes_K in
        complete_there b (same_commands b (omega (arith, less))) complete (stands_before b goes_K complete))

  pub sound_there : IsFaultless r → is_faulted P.status ≡ false
  sound_there faultless = ap (λ (g : Program). is_faulted g.status) of_P.program.program ∙ faultless of_P.program.place p of_P.program.within low_p
