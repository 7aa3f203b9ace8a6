-- What is described after a step, from what is described of its processor.
use Rattle.std.proofs.Common.{◌≡◌, ◌≢◌, ℕ, zero, suc, ◌<◌, refl, sym, ◌∙◌, ap, subst, arith, true, false, List, [], ◌∷◌, ◌++◌, length, Option, Some, None, cond, inl, inr, append-nil}
use Rattle.std.specs.Prelude.{slice_get, slice_set, ◌==◌, ◌&&◌, slice_index_or}
use Rattle.std.specs.List.{filter_map, cons_option, fold, last_or}
use Rattle.std.specs.Option.{option_map, option_map_or}
use Rattle.std.proofs.lemmas.Bool.{cases_eq}
use Rattle.std.proofs.lemmas.Option.{get_or_from_slice_get}
use Rattle.std.proofs.lemmas.List.Elements.{filter_map-append}
use Rattle.cell_base.specs.declared.steps.Step.{Step}
use Rattle.cell_base.specs.declared.steps.Step.TheVariants.{Exec, Piece, Elem, Retire, Atomic, Host}
use Rattle.lock_lines.specs.Versions.{raised}
use Rattle.tag_groups.specs.declared.Tags.{Tags}
use Rattle.tag_groups.specs.Settle.{settled_tags}
use Rattle.cell_machine.specs.Spe.{Spe}
use Rattle.cell_machine.specs.Moves.{busy, read_of}
use Rattle.cell_machine.specs.declared.effect.Note.{Note}
use Rattle.cell_machine.specs.State.{State}
use Rattle.cell_machine.specs.Tags.{settled}
use Rattle.cell_machine.specs.Signals.{sent_in}
use Rattle.cell_machine.specs.Raised.{with_raised, raised_at}
use Rattle.cell_machine.specs.Next.{ended_by, with_left}
use Rattle.cell_machine.specs.Transfers.{Left}
use Rattle.cell_machine.specs.Locks.{stored_by}
use Rattle.cell_machine.specs.EffectLaws.{maker}
use Rattle.cell_machine.proofs.Same.{eq_off}
use Rattle.cell_machine.proofs.CommandsShown.{set-here, set-other}
use Rattle.reorder_laws.proofs.Hosting.{closed-there, closed-long}
use Rattle.reorder_laws.proofs.Settling.{settled-twice}
use Rattle.reorder_laws.specs.Cuts.{has}
use Rattle.reorder_laws.specs.Recorded.{Recorded, count_of, spe_in, no_spe, spe_before, is_exec, is_elem, is_host, is_atomic_step, is_atomic_note, is_put_note, is_take_note, locking_of, box_of, done_by, retired_by, element_by, element_at, asked}
use Rattle.reorder_laws.specs.Frames.{HasFrames, listed}
use Rattle.reorder_laws.specs.Described.{Describes, DescribesSpe, ShowsBox}
use Rattle.reorder_laws.proofs.Cuts.{has_there, cut_skip, shows_skip}

-- ---- the processors of a list

pub get_in : (spes : List Spe) (p : ℕ) → p < length spes → slice_get spes p ≡ Some (slice_index_or spes p no_spe)
get_in [] p h = absurd (omega (arith, h))
get_in (P ∷ spes) zero h = refl
get_in (P ∷ spes) (suc p) h = get_in spes p (omega (arith, h))

pub set_long : (spes : List Spe) (p : ℕ) (Q : Spe) → length (slice_set spes p Q) ≡ length spes
set_long [] p Q = refl
set_long (P ∷ spes) zero Q = refl
set_long (P ∷ spes) (suc p) Q = ap suc (set_long spes p Q)

-- a processor at the end of a step
pub closed_spe : (M K : State) (s : Step) (q : ℕ) (P : Spe) → slice_get K.spes q ≡ Some P → spe_in (ended_by M s K) q ≡ settled (with_raised P (raised_at M s K q))
closed_spe M K s q P at = get_or_from_slice_get (ended_by M s K).spes q (settled (with_raised P (raised_at M s K q))) no_spe (closed-there M K s q P at)

-- its events are no part of what is described
pub raised_described : (r : Recorded) (p : ℕ) (D : List ℕ) (P : Spe) (bits : ℕ) → DescribesSpe r p D (settled P) → DescribesSpe r p D (settled (with_raised P bits))
raised_described r p D P bits d = record {
  program = record { place = d.program.place; within = d.program.within; cut = d.program.cut; program = d.program.program; tags = d.program.tags; stalls = d.program.stalls };
  read = d.read;
  done = d.done;
  retired = d.retired;
  elements = d.elements;
  locking = d.locking;
  boxes = d.boxes;
  heard = d.heard;
}

pub closed_described : (r : Recorded) (p : ℕ) (D : List ℕ) (M K : State) (s : Step) (P : Spe) → slice_get K.spes p ≡ Some P → DescribesSpe r p D (settled P) → DescribesSpe r p D (spe_in (ended_by M s K) p)
closed_described r p D M K s P at d = subst (DescribesSpe r p D) (sym (closed_spe M K s p P at)) (raised_described r p D P (raised_at M s K p) d)

-- ---- one more place

pub map_more : {X : Type 0} (h : ℕ → Option X) (D : List ℕ) (j : ℕ) → filter_map h (D ++ j ∷ []) ≡ filter_map h D ++ listed (h j)
map_more {X = X} h D j = filter_map-append h D (j ∷ []) ∙ ap (λ xs. filter_map h D ++ xs) (on (h j))
  where
    on : (o : Option X) → cons_option o [] ≡ listed o
    on None = refl
    on (Some x) = refl

pub map_same : {X : Type 0} (h : ℕ → Option X) (D : List ℕ) (j : ℕ) (xs : List X) → h j ≡ None → xs ≡ filter_map h D → xs ≡ filter_map h (D ++ j ∷ [])
map_same h D j xs none e = e ∙ sym (map_more h D j ∙ ap (λ o. filter_map h D ++ listed o) none ∙ append-nil (filter_map h D))

pub map_added : {X : Type 0} (h : ℕ → Option X) (D : List ℕ) (j : ℕ) (xs ys : List X) → xs ≡ filter_map h D → ys ≡ xs ++ listed (h j) → ys ≡ filter_map h (D ++ j ∷ [])
map_added h D j xs ys e f = f ∙ ap (λ zs. zs ++ listed (h j)) e ∙ sym (map_more h D j)

-- ---- a processor whose tags follow is settled

abbrev with_tags : Spe → Tags → Spe
with_tags P t = record P { tags = t }

pub settled_here : (Q : Spe) (t : Tags) → Q.tags ≡ settled_tags (busy Q.moves) (length Q.moves.issued) t → settled Q ≡ Q
settled_here Q t e =
    let is : Q ≡ settled (with_tags Q t) = ap (with_tags Q) e in
    ap settled is ∙ settled-twice (with_tags Q t) ∙ sym is

-- ---- another processor than the step's

module _ (r : Recorded) (frames : HasFrames r) (D : List ℕ) (j : ℕ) (low : j < r.size) where
  not_own : (p q : ℕ) → q ≢ p → (p == q) ≡ false
  not_own p q ne = eq_off p q (λ e. ne (sym e))

  off_exec : (s : Step) (p q : ℕ) → maker s ≡ Some p → q ≢ p → is_exec q s ≡ false
  off_exec (Exec a) p q e ne = let x : a ≡ p = cc in ap (λ a. a == q) x ∙ not_own p q ne
  off_exec (Piece a c n k) p q e ne = refl
  off_exec (Elem a c) p q e ne = refl
  off_exec (Retire a c) p q e ne = refl
  off_exec (Atomic a) p q e ne = refl
  off_exec Host p q e ne = refl

  off_elem : (s : Step) (p q b : ℕ) → maker s ≡ Some p → q ≢ p → is_elem q b s ≡ false
  off_elem (Elem a c) p q b e ne = let x : a ≡ p = cc in ap (λ a. (a == q) && (c == b)) x ∙ ap (λ t. t && (c == b)) (not_own p q ne)
  off_elem (Piece a c n k) p q b e ne = refl
  off_elem (Exec a) p q b e ne = refl
  off_elem (Retire a c) p q b e ne = refl
  off_elem (Atomic a) p q b e ne = refl
  off_elem Host p q b e ne = refl

  off_done : (s : Step) (p q : ℕ) → maker s ≡ Some p → q ≢ p → done_by q s ≡ None
  off_done (Piece a c n k) p q e ne = let x : a ≡ p = cc in ap (λ a. cond (a == q) (Some (record { cmd = c; elem = n; part = k })) None) x ∙ ap (λ t. cond t (Some (record { cmd = c; elem = n; part = k })) None) (not_own p q ne)
  off_done (Exec a) p q e ne = refl
  off_done (Elem a c) p q e ne = refl
  off_done (Retire a c) p q e ne = refl
  off_done (Atomic a) p q e ne = refl
  off_done Host p q e ne = refl

  off_retired : (s : Step) (p q : ℕ) → maker s ≡ Some p → q ≢ p → retired_by q s ≡ None
  off_retired (Retire a c) p q e ne = let x : a ≡ p = cc in ap (λ a. cond (a == q) (Some c) None) x ∙ ap (λ t. cond t (Some c) None) (not_own p q ne)
  off_retired (Exec a) p q e ne = refl
  off_retired (Elem a c) p q e ne = refl
  off_retired (Piece a c n k) p q e ne = refl
  off_retired (Atomic a) p q e ne = refl
  off_retired Host p q e ne = refl

  off_element : (s : Step) (p q : ℕ) (Q : Spe) → maker s ≡ Some p → q ≢ p → element_by q s Q ≡ None
  off_element (Elem a c) p q Q e ne =
      let x : a ≡ p = cc in
      ap (λ a. cond (a == q) (option_map (λ x. record { cmd = c; element = x }) (last_or None (read_of Q.moves.read c))) None) x
      ∙ ap (λ t. cond t (option_map (λ x. record { cmd = c; element = x }) (last_or None (read_of Q.moves.read c))) None) (not_own p q ne)
  off_element (Exec a) p q Q e ne = refl
  off_element (Retire a c) p q Q e ne = refl
  off_element (Piece a c n k) p q Q e ne = refl
  off_element (Atomic a) p q Q e ne = refl
  off_element Host p q Q e ne = refl

  off_atomic : (s : Step) (p q : ℕ) (note : Note) → maker s ≡ Some p → q ≢ p → is_atomic_step q s note ≡ false
  off_atomic (Elem a c) p q note e ne = refl
  off_atomic (Exec a) p q note e ne = let x : a ≡ p = cc in ap (λ a. (a == q) && is_atomic_note note) x ∙ ap (λ t. t && is_atomic_note note) (not_own p q ne)
  off_atomic (Retire a c) p q note e ne = refl
  off_atomic (Piece a c n k) p q note e ne = refl
  off_atomic (Atomic a) p q note e ne = let x : a ≡ p = cc in ap (λ a. a == q) x ∙ not_own p q ne
  off_atomic Host p q note e ne = refl

  -- a step that doesn't concern the processor
  pub record Spares (q : ℕ) : Type 0 where
    pub exec : is_exec q (r.step j) ≡ false
    pub elem : (b : ℕ) → is_elem q b (r.step j) ≡ false
    pub done : done_by q (r.step j) ≡ None
    pub retired : retired_by q (r.step j) ≡ None
    pub element : element_at r q j ≡ None
    pub atomic : is_atomic_step q (r.step j) (r.effect j).note ≡ false
    pub put : (m : ℕ) → is_put_note q m (r.effect j).note ≡ false
    pub take : (m : ℕ) → is_take_note q m (r.effect j).note ≡ false

  spares_own : (p q : ℕ) → maker (r.step j) ≡ Some p → q ≢ p → Spares q
  spares_own p q e ne = record {
    exec = off_exec (r.step j) p q e ne;
    elem = λ b. off_elem (r.step j) p q b e ne;
    done = off_done (r.step j) p q e ne;
    retired = off_retired (r.step j) p q e ne;
    element = off_element (r.step j) p q (spe_before r q (suc j)) e ne;
    atomic = off_atomic (r.step j) p q (r.effect j).note e ne;
    put = λ m. (frames.own_notes j p q m low e ne).0;
    take = λ m. (frames.own_notes j p q m low e ne).1;
  }

  spared : (q : ℕ) (Q : Spe) → Spares q → DescribesSpe r q D Q → DescribesSpe r q (D ++ j ∷ []) Q
  spared q Q s d = record {
    program = record {
      place = d.program.place;
      within = d.program.within;
      cut = cut_skip r.size (λ i. is_exec q (r.step i)) D j d.program.place s.exec d.program.cut;
      program = d.program.program;
      tags = d.program.tags;
      stalls = d.program.stalls;
    };
    read = map_same (element_at r q) D j Q.moves.read s.element d.read;
    done = map_same (λ i. done_by q (r.step i)) D j Q.moves.done s.done d.done;
    retired = map_same (λ i. retired_by q (r.step i)) D j Q.moves.retired s.retired d.retired;
    elements = λ b. shows_skip r.size (λ i. is_elem q b (r.step i)) (λ x. read_of (spe_before r q x).moves.read b) D j (read_of Q.moves.read b) (read_of Q.moves.read b) (s.elem b) refl (d.elements b);
    locking = shows_skip r.size (λ i. is_atomic_step q (r.step i) (r.effect i).note) (λ x. locking_of (spe_before r q x)) D j (locking_of Q) (locking_of Q) s.atomic refl d.locking;
    boxes = λ m small. box_kept m (s.put m) (s.take m) (d.boxes m small);
    heard = d.heard;
  }
    where
      box_kept : (m : ℕ) → is_put_note q m (r.effect j).note ≡ false → is_take_note q m (r.effect j).note ≡ false → ShowsBox r q m D (box_of m Q) → ShowsBox r q m (D ++ j ∷ []) (box_of m Q)
      box_kept m a b box = record {
        put_place = box.put_place;
        take_place = box.take_place;
        put_within = box.put_within;
        take_within = box.take_within;
        put_cut = cut_skip r.size (λ i. is_put_note q m (r.effect i).note) D j box.put_place a box.put_cut;
        take_cut = cut_skip r.size (λ i. is_take_note q m (r.effect i).note) D j box.take_place b box.take_cut;
        values_are = box.values_are;
      }

  -- and it is settled
  pub spared_settled : (q : ℕ) (Q : Spe) → Spares q → DescribesSpe r q D Q → DescribesSpe r q (D ++ j ∷ []) (settled Q)
  spared_settled q Q s d = subst (DescribesSpe r q (D ++ j ∷ [])) (sym (settled_here Q (record { mask = Q.tags.mask; request = asked r q d.program.place; status = None }) d.program.tags)) (spared q Q s d)

  -- ---- the state after a step of one processor

  fold_listed : (v : List ℕ) (xs : List ℕ) (o : Option ℕ) → fold raised v (xs ++ listed o) ≡ option_map_or (raised (fold raised v xs)) o (fold raised v xs)
  fold_listed v [] None = refl
  fold_listed v [] (Some x) = refl
  fold_listed v (y ∷ xs) o = fold_listed (raised v y) xs o

  pub versions_more : (v w : List ℕ) → v ≡ fold raised (r.state 0).memory.versions (filter_map (λ i. stored_by (r.state i) (r.step i)) D) → w ≡ option_map_or (raised v) (stored_by (r.state j) (r.step j)) v
      → w ≡ fold raised (r.state 0).memory.versions (filter_map (λ i. stored_by (r.state i) (r.step i)) (D ++ j ∷ []))
  versions_more v w e f =
      f ∙ ap (λ v. option_map_or (raised v) (stored_by (r.state j) (r.step j)) v) e
      ∙ sym (fold_listed (r.state 0).memory.versions (filter_map (λ i. stored_by (r.state i) (r.step i)) D) (stored_by (r.state j) (r.step j)))
      ∙ sym (ap (fold raised (r.state 0).memory.versions) (map_more (λ i. stored_by (r.state i) (r.step i)) D j))

  pub inside_more : ((i : ℕ) → has D i ≡ true → i < r.size) → (i : ℕ) → has (D ++ j ∷ []) i ≡ true → i < r.size
  inside_more h i e = elim (cases_eq j i) [
    | inl same ↦ subst (λ k. k < r.size) same low
    | inr ne ↦ h i (sym (has_there D j i ne) ∙ e)
  ]

  host_off : (s : Step) (p : ℕ) → maker s ≡ Some p → is_host s ≡ false
  host_off (Exec a) p e = refl
  host_off (Elem a c) p e = refl
  host_off (Retire a c) p e = refl
  host_off (Piece a c n k) p e = refl
  host_off (Atomic a) p e = refl
  host_off Host p e = absurd (cc)

  pub describes_own : (M : State) (p : ℕ) (x : Left) → maker (r.step j) ≡ Some p → p < count_of r → Describes r D M → DescribesSpe r p (D ++ j ∷ []) (settled x.spe)
      → length x.memory.bytes ≡ length M.memory.bytes → x.memory.versions ≡ option_map_or (raised M.memory.versions) (stored_by (r.state j) (r.step j)) M.memory.versions → x.sent ≡ None
      → Describes r (D ++ j ∷ []) (ended_by M (r.step j) (with_left M p x))
  describes_own M p x by low_p d own long versions sent = record {
    inside = inside_more d.inside;
    count = closed-long M K (r.step j) ∙ ap length spes_are ∙ set_long M.spes p x.spe ∙ d.count;
    long = long ∙ d.long;
    versions = versions_more M.memory.versions x.memory.versions d.versions versions;
    host = shows_skip r.size (λ i. is_host (r.step i)) (λ i. (r.state i).host) D j M.host M.host (host_off (r.step j) p by) refl d.host;
    spes = λ q low_q. elim (cases_eq q p) [
      | inl e ↦ subst (λ q. DescribesSpe r q (D ++ j ∷ []) (spe_in (ended_by M (r.step j) K) q)) (sym e)
          (closed_described r p (D ++ j ∷ []) M K (r.step j) x.spe (ap (λ xs. slice_get xs p) spes_are ∙ set-here M.spes p x.spe (omega (arith, low_p, d.count))) own)
      | inr ne ↦ closed_described r q (D ++ j ∷ []) M K (r.step j) (spe_in M q)
          (ap (λ xs. slice_get xs q) spes_are ∙ set-other M.spes p q x.spe (λ e. ne (sym e)) ∙ get_in M.spes q (omega (arith, low_q, d.count)))
          (spared_settled q (spe_in M q) (spares_own p q by ne) (d.spes q low_q))
    ];
  }
    where
      K : State
      K = with_left M p x

      spes_are : K.spes ≡ slice_set M.spes p x.spe
      spes_are = ap (sent_in (slice_set M.spes p x.spe)) sent
