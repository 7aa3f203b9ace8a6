-- Where all places were made, the state is that of the recorded order, but for the record and the order of some lists.
use Rattle.std.proofs.Common.{◌≡◌, ℕ, suc, ◌+◌, ◌<◌, ◌≤◌, refl, sym, ◌∙◌, ap, ap₂, subst, arith, Bool, false, List, [], ◌∷◌, ◌++◌, length, Option, Some, None, cond, inl, inr, append-nil, get_or, set}
use Rattle.std.specs.Prelude.{◌/◌, slice_get, slice_index_or, slice_index, IsPermutation, ◌==◌, ◌&&◌, is_some, drop}
use Rattle.std.specs.List.{range_with_len, filter_map, cons_option, fold, filter}
use Rattle.std.specs.Option.{option_map_or}
use Rattle.std.proofs.lemmas.Option.{slice_get_within, get_or_from_slice_get}
use Rattle.std.proofs.lemmas.Bool.{cases_eq, lt-ltb}
use Rattle.std.proofs.lemmas.List.{ext_get_or, set_comm, get_or-set_other}
use Rattle.std.proofs.lemmas.List.Elements.{filter_map-append}
use Rattle.std.proofs.lemmas.List.Sorted.{IsPermutation-refl, IsPermutation-trans, IsPermutation-append_comm, IsPermutation-append_left, IsPermutation-append_right, list_any-IsPermutation}
use mathlib.Core.Path.{fun_ext}
use Rattle.mfc_command.specs.declared.command.Command.{Command}
use Rattle.mfc_command.specs.Order.{busy_groups, with_group}
use Rattle.tag_groups.specs.declared.Tags.{Tags}
use Rattle.tag_groups.specs.Settle.{settled_tags}
use Rattle.lock_lines.specs.Versions.{raised, is_current}
use Rattle.cell_machine.specs.declared.effect.Place.TheVariants.{Memory, Local}
use Rattle.cell_machine.specs.Spe.{Spe, Moves, PartDone}
use Rattle.cell_machine.specs.State.{State}
use Rattle.cell_machine.specs.Memory.{MainMemory}
use Rattle.reorder_laws.proofs.Runs.{has_below}
use Rattle.cell_machine.specs.Opening.{no_moves}
use Rattle.cell_machine.specs.Moves.{busy, read_of, is_done, is_resumed, is_complete, is_stalled}
use Rattle.cell_machine.specs.Shows.{AllTwo}
use Rattle.cell_machine.specs.Locks.{stored_by}
use Rattle.cell_machine.specs.Sound.{IsSound, byte_of}
use Rattle.cell_machine.proofs.Same.{SameOf, same-complete, same-stall}
use Rattle.race_check.specs.Reorderings.{KeepsOrder}
use Rattle.race_check.proofs.Exchanges.{by_exchanges}
use Rattle.reorder_laws.specs.Cuts.{IsCut, Shows}
use Rattle.reorder_laws.specs.Recorded.{Recorded, IsRecorded, Program, program_of, Listening, listening_of, Locking, locking_of, spe_in, no_spe, spe_before, count_of, is_exec, is_elem, is_host, is_atomic_step, is_put_note, is_take_note, done_by, retired_by, element_at, asked, owes, stalled_groups, is_stalled_number, box_of, put_values, taken_values}
use Rattle.reorder_laws.specs.Frames.{HasFrames}
use Rattle.reorder_laws.specs.Described.{Describes, DescribesSpe}
use Rattle.reorder_laws.specs.Theorem.{IsSameSpe, IsSameEnd}
use Rattle.reorder_laws.proofs.Cuts.{same_look, shown_at}
use Rattle.reorder_laws.proofs.Fronts.{has_all}
use Rattle.reorder_laws.proofs.After.{get_in}
use Rattle.reorder_laws.proofs.AllowedAlike.{rest_of, IsAlike, outstanding_same, allowed_alike}
use Rattle.reorder_laws.proofs.ByteSteps.{bytes_at}

-- ---- lists made from the places of an order

swap_cons : {X : Type 0} (a b : Option X) (R : List X) → IsPermutation (cons_option a (cons_option b R)) (cons_option b (cons_option a R))
swap_cons None b R = IsPermutation-refl (cons_option b R)
swap_cons (Some x) None R = IsPermutation-refl (x ∷ R)
swap_cons (Some x) (Some y) R = IsPermutation-append_left R (x ∷ y ∷ []) (y ∷ x ∷ []) (IsPermutation-append_comm (x ∷ []) (y ∷ []))

pub same_list : {X : Type 0} (Before : ℕ → ℕ → Type 0) (n : ℕ) (order : List ℕ) → KeepsOrder Before n order → (f : ℕ → Option X) → IsPermutation (filter_map f (range_with_len 0 n)) (filter_map f order)
same_list Before n order keeps f =
    by_exchanges Before n (λ ks. IsPermutation (filter_map f (range_with_len 0 n)) (filter_map f ks))
    (λ front rest a b free h.
    IsPermutation-trans _ (filter_map f (front ++ a ∷ b ∷ rest)) (filter_map f (front ++ b ∷ a ∷ rest)) h
    (subst (λ xs. IsPermutation xs (filter_map f (front ++ b ∷ a ∷ rest))) (sym (filter_map-append f front (a ∷ b ∷ rest)))
    (subst (IsPermutation (filter_map f front ++ filter_map f (a ∷ b ∷ rest))) (sym (filter_map-append f front (b ∷ a ∷ rest)))
    (IsPermutation-append_right (filter_map f front) _ _ (swap_cons (f a) (f b) (filter_map f rest))))))
    (IsPermutation-refl (filter_map f (range_with_len 0 n))) order keeps

raised_comm : (v : List ℕ) (a b : ℕ) → raised (raised v a) b ≡ raised (raised v b) a
raised_comm v a b = elim (cases_eq a b) [
  | inl e ↦ ap (λ b. raised (raised v a) b) (sym e) ∙ ap (λ b. raised (raised v b) a) e
  | inr ne ↦
      ap (λ n. set (set v a (get_or v a 0 + 1)) b (n + 1)) (get_or-set_other v a b (get_or v a 0 + 1) 0 (λ e. ne (sym e)))
      ∙ set_comm v a b (get_or v a 0 + 1) (get_or v b 0 + 1) ne
      ∙ sym (ap (λ n. set (set v b (get_or v b 0 + 1)) a (n + 1)) (get_or-set_other v b a (get_or v b 0 + 1) 0 ne))
]

fold-more : (v : List ℕ) (xs ys : List ℕ) → fold raised v (xs ++ ys) ≡ fold raised (fold raised v xs) ys
fold-more v [] ys = refl
fold-more v (x ∷ xs) ys = fold-more (raised v x) xs ys

swap_raised : (a b : Option ℕ) (v R : List ℕ) → fold raised v (cons_option a (cons_option b R)) ≡ fold raised v (cons_option b (cons_option a R))
swap_raised None b v R = refl
swap_raised (Some x) None v R = refl
swap_raised (Some x) (Some y) v R = ap (λ v. fold raised v R) (raised_comm v x y)

same_versions : (Before : ℕ → ℕ → Type 0) (n : ℕ) (order : List ℕ) → KeepsOrder Before n order → (f : ℕ → Option ℕ) (v : List ℕ) → fold raised v (filter_map f order) ≡ fold raised v (filter_map f (range_with_len 0 n))
same_versions Before n order keeps f v =
    by_exchanges Before n (λ ks. fold raised v (filter_map f ks) ≡ fold raised v (filter_map f (range_with_len 0 n)))
    (λ front rest a b free h.
    ap (fold raised v) (filter_map-append f front (b ∷ a ∷ rest)) ∙ fold-more v (filter_map f front) (filter_map f (b ∷ a ∷ rest)) ∙ swap_raised (f b) (f a) (fold raised v (filter_map f front)) (filter_map f rest)
    ∙ sym (fold-more v (filter_map f front) (filter_map f (a ∷ b ∷ rest))) ∙ sym (ap (fold raised v) (filter_map-append f front (a ∷ b ∷ rest))) ∙ h)
    refl order keeps

all_two : (R : Spe → Spe → Type 0) (xs ys : List Spe) → length xs ≡ length ys → ((p : ℕ) → p < length xs → R (slice_index_or xs p no_spe) (slice_index_or ys p no_spe)) → AllTwo R xs ys
all_two R [] [] e h = tt
all_two R [] (y ∷ ys) e h = absurd (omega (arith, e))
all_two R (x ∷ xs) [] e h = absurd (omega (arith, e))
all_two R (x ∷ xs) (y ∷ ys) e h = (h 0 (omega arith), all_two R xs ys (omega (arith, e)) (λ p low. h (suc p) (omega (arith, low))))

-- ---- a processor by its parts

spe_eq : (P K : Spe) → program_of P ≡ program_of K → P.store ≡ K.store → P.inbound ≡ K.inbound → P.outbound ≡ K.outbound → P.interrupt ≡ K.interrupt → P.tags ≡ K.tags → P.channels.stalls ≡ K.channels.stalls → locking_of P ≡ locking_of K
    → listening_of P ≡ listening_of K → rest_of P ≡ rest_of K
spe_eq P K g s i o t tags stalls l h =
    ap₂ (λ (x : Program × List ℕ) (y : List ℕ × List ℕ × List ℕ). of x.0 x.1 y P.tags P.channels.stalls (locking_of P) (listening_of P)) (pair g s) (triple i o t)
    ∙ ap (λ t. of (program_of K) K.store (K.inbound, K.outbound, K.interrupt) t P.channels.stalls (locking_of P) (listening_of P)) tags
    ∙ ap (λ n. of (program_of K) K.store (K.inbound, K.outbound, K.interrupt) K.tags n (locking_of P) (listening_of P)) stalls
    ∙ ap (λ l. of (program_of K) K.store (K.inbound, K.outbound, K.interrupt) K.tags K.channels.stalls l (listening_of P)) l
    ∙ ap (of (program_of K) K.store (K.inbound, K.outbound, K.interrupt) K.tags K.channels.stalls (locking_of K)) h
  where
    pair : {a b : Program} {s t : List ℕ} → a ≡ b → s ≡ t → ◌≡◌ {A = Program × List ℕ} (a, s) (b, t)
    pair e f = ap₂ (λ a b. (a, b)) e f

    triple : {a b c x y z : List ℕ} → a ≡ x → b ≡ y → c ≡ z → ◌≡◌ {A = List ℕ × List ℕ × List ℕ} (a, b, c) (x, y, z)
    triple {b = b} {c = c} {x = x} {y = y} e f g = ap (λ a. (a, b, c)) e ∙ ap (λ b. (x, b, c)) f ∙ ap (λ c. (x, y, c)) g

    of : Program → List ℕ → List ℕ × List ℕ × List ℕ → Tags → ℕ → Locking → Listening → Spe
    of g s y t n l h = record {
      status = g.status;
      pc = g.pc;
      registers = g.registers;
      store = s;
      inbound = y.0;
      outbound = y.1;
      interrupt = y.2;
      channels = record { params = g.params; slot = l.slot; atomic = l.atomic; stalls = n };
      tags = t;
      signals = h.signals;
      events = record { mask = h.mask; pending = 0 };
      moves = no_moves;
      reserved = l.reserved;
    }

stalled_same : (m n : Moves) → n.issued ≡ m.issued → is_stalled_number n ≡ is_stalled_number m → stalled_groups n ≡ stalled_groups m
unfolding stalled_groups
stalled_same m n e f = ap (λ xs. fold (with_group xs) 0 (filter (is_stalled_number n) (range_with_len 0 (length xs)))) e ∙ ap (λ t. fold (with_group m.issued) 0 (filter t (range_with_len 0 (length m.issued)))) f

busy_same : (m n : Moves) → n.issued ≡ m.issued → is_complete n ≡ is_complete m → busy n ≡ busy m
busy_same m n e f = ap (busy_groups (is_complete n)) e ∙ ap (λ t. busy_groups t m.issued) f

module _ (r : Recorded) where
  pub asked_frame : (p i : ℕ) → is_exec p (r.step i) ≡ false → asked r p (suc i) ≡ asked r p i
  unfolding asked
  asked_frame p i h = rw h refl

  pub owes_frame : (p i : ℕ) → is_exec p (r.step i) ≡ false → owes r p (suc i) ≡ owes r p i
  unfolding owes
  owes_frame p i h = rw h refl

  put_frame : (p m i : ℕ) → is_put_note p m (r.effect i).note ≡ false → put_values r p m (suc i) ≡ put_values r p m i
  unfolding put_values
  put_frame p m i h = rw h (append-nil (put_values r p m i))

  taken_frame : (p m i : ℕ) → is_take_note p m (r.effect i).note ≡ false → taken_values r p m (suc i) ≡ taken_values r p m i
  unfolding taken_values
  taken_frame p m i h = rw h (omega arith)

module _ (r : Recorded) (frames : HasFrames r) (Before : ℕ → ℕ → Type 0) (order : List ℕ) (keeps : KeepsOrder Before r.size order) (M : State) (describes : Describes r order M) (shown : Describes r (range_with_len 0 r.size) (r.state r.size)) where
  abbrev n : ℕ
  n = r.size

  abbrev N : State
  N = r.state r.size

  -- all places stand in the order, and in the recorded one
  all_cut : (C : ℕ → Bool) → IsCut n C order n
  all_cut C i low h = has_all Before n order keeps i low ∙ sym (lt-ltb i n low)

  range_cut : (C : ℕ → Bool) → IsCut n C (range_with_len 0 n) n
  range_cut C i low h = has_below n i low ∙ sym (lt-ltb i n low)

  whole : n ≤ n
  whole = omega arith

  at_end : (C : ℕ → Bool) {V : Type 0} (look : ℕ → V) (frame : (i : ℕ) → i < n → C i ≡ false → look (suc i) ≡ look i) (v w : V) → Shows n C look order v → Shows n C look (range_with_len 0 n) w → v ≡ w
  at_end C look frame v w s t = shown_at n C look frame order n v whole (all_cut C) s ∙ sym (shown_at n C look frame (range_with_len 0 n) n w whole (range_cut C) t)

  module _ (p : ℕ) (low_p : p < count_of r) where
    abbrev P : Spe
    P = spe_in M p

    abbrev K : Spe
    K = spe_in N p

    of_P : DescribesSpe r p order P
    of_P = describes.spes p low_p

    of_K : DescribesSpe r p (range_with_len 0 n) K
    of_K = shown.spes p low_p

    abbrev execs : ℕ → Bool
    execs i = is_exec p (r.step i)

    program_here : program_of P ≡ program_of K
    program_here =
        at_end execs (λ x. program_of (spe_before r p x)) (λ i low out. frames.program i p low low_p out) (program_of P) (program_of K)
        record { place = of_P.program.place; within = of_P.program.within; cut = of_P.program.cut; same = of_P.program.program }
        record { place = of_K.program.place; within = of_K.program.within; cut = of_K.program.cut; same = of_K.program.program }

    asked_here : asked r p of_P.program.place ≡ asked r p of_K.program.place
    asked_here =
        same_look n execs (asked r p) (λ i low out. asked_frame r p i out) order of_P.program.place n of_P.program.within whole of_P.program.cut (all_cut execs)
        ∙ sym (same_look n execs (asked r p) (λ i low out. asked_frame r p i out) (range_with_len 0 n) of_K.program.place n of_K.program.within whole of_K.program.cut (range_cut execs))

    owes_here : owes r p of_P.program.place ≡ owes r p of_K.program.place
    owes_here =
        same_look n execs (owes r p) (λ i low out. owes_frame r p i out) order of_P.program.place n of_P.program.within whole of_P.program.cut (all_cut execs)
        ∙ sym (same_look n execs (owes r p) (λ i low out. owes_frame r p i out) (range_with_len 0 n) of_K.program.place n of_K.program.within whole of_K.program.cut (range_cut execs))

    read_perm : IsPermutation K.moves.read P.moves.read
    read_perm = subst (IsPermutation K.moves.read) (sym of_P.read) (subst (λ xs. IsPermutation xs (filter_map (element_at r p) order)) (sym of_K.read) (same_list Before n order keeps (element_at r p)))

    done_perm : IsPermutation K.moves.done P.moves.done
    done_perm = subst (IsPermutation K.moves.done) (sym of_P.done) (subst (λ xs. IsPermutation xs (filter_map (λ i. done_by p (r.step i)) order)) (sym of_K.done) (same_list Before n order keeps (λ i. done_by p (r.step i))))

    retired_perm : IsPermutation K.moves.retired P.moves.retired
    retired_perm = subst (IsPermutation K.moves.retired) (sym of_P.retired) (subst (λ xs. IsPermutation xs (filter_map (λ i. retired_by p (r.step i)) order)) (sym of_K.retired) (same_list Before n order keeps (λ i. retired_by p (r.step i))))

    issued_here : P.moves.issued ≡ K.moves.issued
    issued_here = ap (λ (g : Program). g.issued) program_here

    resumed_here : P.moves.resumed ≡ K.moves.resumed
    resumed_here = ap (λ (g : Program). g.resumed) program_here

    done_same : (c : ℕ) → is_done P.moves.done c ≡ is_done K.moves.done c
    unfolding is_done
    done_same c = fun_ext (λ e. fun_ext (λ k. sym (list_any-IsPermutation (λ (d : PartDone). d.cmd == c && d.elem == e && d.part == k) K.moves.done P.moves.done done_perm)))

    command_same : (c : ℕ) → SameOf K.moves P.moves c
    command_same c = record {
      read = at_end (λ i. is_elem p c (r.step i)) (λ x. read_of (spe_before r p x).moves.read c) (λ i low out. frames.elements i p c low low_p out) (read_of P.moves.read c) (read_of K.moves.read c) (of_P.elements c) (of_K.elements c);
      done = done_same c;
      retired = sym (list_any-IsPermutation (λ d. d == c) K.moves.retired P.moves.retired retired_perm);
      resumed = ap (λ xs. is_resumed xs c) resumed_here;
    }

    complete_same : is_complete P.moves ≡ is_complete K.moves
    complete_same = fun_ext (λ c. same-complete K.moves P.moves c issued_here (command_same c))

    stalled_number : (c : ℕ) → is_stalled_number P.moves c ≡ is_stalled_number K.moves c
    stalled_number c = ap (λ xs. option_map_or (is_stalled P.moves c) (slice_get xs c) false) issued_here ∙ on (slice_get K.moves.issued c)
      where
        on : (o : Option Command) → option_map_or (is_stalled P.moves c) o false ≡ option_map_or (is_stalled K.moves c) o false
        on None = refl
        on (Some d) = ap is_some (same-stall K.moves P.moves c d (command_same c))

    tags_here : P.tags ≡ K.tags
    tags_here =
        of_P.program.tags
        ∙ ap (λ b. settled_tags b (length P.moves.issued) (record { mask = P.tags.mask; request = asked r p of_P.program.place; status = None })) (busy_same K.moves P.moves issued_here complete_same)
        ∙ ap (λ xs. settled_tags (busy K.moves) (length xs) (record { mask = P.tags.mask; request = asked r p of_P.program.place; status = None })) issued_here
        ∙ ap (λ (g : Program). settled_tags (busy K.moves) (length K.moves.issued) (record { mask = g.mask; request = asked r p of_P.program.place; status = None })) program_here
        ∙ ap (λ q. settled_tags (busy K.moves) (length K.moves.issued) (record { mask = K.tags.mask; request = q; status = None })) asked_here
        ∙ sym of_K.program.tags

    stalls_here : P.channels.stalls ≡ K.channels.stalls
    stalls_here =
        of_P.program.stalls ∙ ap (λ b. cond b 0 (stalled_groups P.moves)) owes_here
        ∙ ap (cond (owes r p of_K.program.place) 0) (stalled_same K.moves P.moves issued_here (fun_ext stalled_number)) ∙ sym of_K.program.stalls

    locking_here : locking_of P ≡ locking_of K
    locking_here = at_end (λ i. is_atomic_step p (r.step i) (r.effect i).note) (λ x. locking_of (spe_before r p x)) (λ i low out. frames.locking i p low low_p out) (locking_of P) (locking_of K) of_P.locking of_K.locking

    box_here : (m : ℕ) → m < 3 → box_of m P ≡ box_of m K
    box_here m small =
        let a = of_P.boxes m small in
        let b = of_K.boxes m small in
        let puts : ℕ → Bool = λ i. is_put_note p m (r.effect i).note in
        let takes : ℕ → Bool = λ i. is_take_note p m (r.effect i).note in
        a.values_are
        ∙ ap (λ k. drop k (put_values r p m a.put_place)) (same_look n takes (taken_values r p m) (λ i low out. taken_frame r p m i out) order a.take_place n a.take_within whole a.take_cut (all_cut takes)
        ∙ sym (same_look n takes (taken_values r p m) (λ i low out. taken_frame r p m i out) (range_with_len 0 n) b.take_place n b.take_within whole b.take_cut (range_cut takes)))
        ∙ ap (drop (taken_values r p m b.take_place)) (same_look n puts (put_values r p m) (λ i low out. put_frame r p m i out) order a.put_place n a.put_within whole a.put_cut (all_cut puts)
        ∙ sym (same_look n puts (put_values r p m) (λ i low out. put_frame r p m i out) (range_with_len 0 n) b.put_place n b.put_within whole b.put_cut (range_cut puts)))
        ∙ sym b.values_are

    alike_spe : P.store ≡ K.store → (spe_before r p 0).events.mask ≡ 0 → IsAlike P K
    alike_spe store masked = record {
      rest = spe_eq P K program_here store (box_here 0 (omega arith)) (box_here 1 (omega arith)) (box_here 2 (omega arith)) tags_here stalls_here locking_here (of_P.heard ∙ sym of_K.heard);
      issued = issued_here;
      each = command_same;
      masked = ap (λ (l : Listening). l.mask) of_K.heard ∙ masked;
    }

    same_spe : IsAlike P K → IsSameSpe K P
    same_spe alike =
        let rest : rest_of K ≡ rest_of P = sym alike.rest in
        record {
          status = ap (λ (S : Spe). S.status) rest;
          pc = ap (λ (S : Spe). S.pc) rest;
          registers = ap (λ (S : Spe). S.registers) rest;
          store = ap (λ (S : Spe). S.store) rest;
          inbound = ap (λ (S : Spe). S.inbound) rest;
          outbound = ap (λ (S : Spe). S.outbound) rest;
          interrupt = ap (λ (S : Spe). S.interrupt) rest;
          channels = ap (λ (S : Spe). S.channels) rest;
          tags = ap (λ (S : Spe). S.tags) rest;
          signals = ap (λ (S : Spe). S.signals) rest;
          mask = ap (λ (S : Spe). S.events.mask) rest;
          moves = record { issued = sym issued_here; read = read_perm; done = done_perm; retired = retired_perm; resumed = subst (IsPermutation K.moves.resumed) (sym resumed_here) (IsPermutation-refl K.moves.resumed) };
          outstanding = sym (outstanding_same K.moves P.moves issued_here complete_same);
          reserved = ap (λ (S : Spe). S.reserved) rest;
        }

  -- ---- the bytes

  module _ (rec : IsRecorded r) (k : ℕ) (sound : IsSound rec.lines k M) (bytes : byte_of M ≡ byte_of N) (masked : (p : ℕ) → p < count_of r → (spe_before r p 0).events.mask ≡ 0) (long : length N.steps ≡ length M.steps) where
    sound_N : IsSound rec.lines r.size N
    sound_N = rec.sound r.size whole

    memory_bytes : M.memory.bytes ≡ N.memory.bytes
    memory_bytes = ext_get_or 0 M.memory.bytes N.memory.bytes (describes.long ∙ sym shown.long) (λ i low. ap (λ b. b Memory i) bytes)

    store_bytes : (p : ℕ) → p < count_of r → (spe_in M p).store ≡ (spe_in N p).store
    store_bytes p low =
        let at_M = get_in M.spes p (omega (arith, low, describes.count)) in
        let at_N = get_in N.spes p (omega (arith, low, shown.count)) in
        ext_get_or 0 (spe_in M p).store (spe_in N p).store ((sound.whole p (spe_in M p) at_M).store ∙ sym (sound_N.whole p (spe_in N p) at_N).store)
        (λ i l. ap (λ xs. slice_index xs i) (sym (bytes_at M.spes p)) ∙ ap (λ b. b (Local p) i) bytes ∙ ap (λ xs. slice_index xs i) (bytes_at N.spes p))

    alike : (p : ℕ) (low : p < count_of r) → IsAlike (spe_in M p) (spe_in N p)
    alike p low = alike_spe p low (store_bytes p low) (masked p low)

    pub same_end : IsSameEnd N M
    same_end = record {
      spes = all_two IsSameSpe N.spes M.spes (shown.count ∙ sym describes.count) (λ p low. let l : p < count_of r = omega (arith, low, shown.count) in same_spe p l (alike p l));
      memory = same_memory;
      host = host_here;
      held = λ p line P Q at_N at_M. ap₂ (λ (memory : MainMemory) reserved. option_map_or (is_current memory.versions line) reserved false) same_memory (reserved_same p P Q at_N at_M);
      allowed = λ s. sym (allowed_alike M N (all_two IsAlike M.spes N.spes (describes.count ∙ sym shown.count) (λ p low. alike p (omega (arith, low, describes.count)))) (ap (λ xs. length xs / 128) memory_bytes) (sym host_here) s);
      long = long;
    }
      where
        host_here : N.host ≡ M.host
        host_here = sym (at_end (λ i. is_host (r.step i)) (λ j. (r.state j).host) (λ i low out. frames.host i low out) M.host N.host describes.host shown.host)

        memory_eq : (a b : MainMemory) → a.bytes ≡ b.bytes → a.versions ≡ b.versions → a ≡ b
        memory_eq a b e f = ap₂ (λ x y. make x y) e f
          where
            make : List ℕ → List ℕ → MainMemory
            make x y = record { bytes = x; versions = y }

        reserved_same : (p : ℕ) (P Q : Spe) → slice_get N.spes p ≡ Some P → slice_get M.spes p ≡ Some Q → P.reserved ≡ Q.reserved
        reserved_same p P Q at_N at_M =
            let low : p < count_of r = omega (arith, slice_get_within N.spes p P at_N, shown.count) in
            ap (λ (S : Spe). S.reserved) (sym (get_or_from_slice_get N.spes p P no_spe at_N)) ∙ (same_spe p low (alike p low)).reserved ∙ ap (λ (S : Spe). S.reserved) (get_or_from_slice_get M.spes p Q no_spe at_M)

        same_memory : N.memory ≡ M.memory
        same_memory = memory_eq N.memory M.memory (sym memory_bytes) (sym (describes.versions ∙ same_versions Before n order keeps (λ i. stored_by (r.state i) (r.step i)) (r.state 0).memory.versions ∙ sym shown.versions))
