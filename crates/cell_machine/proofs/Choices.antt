-- The steps that are allowed.
use Rattle.std.proofs.Common.{◌≡◌, ◌≢◌, ℕ, zero, suc, ◌<◌, ◌≤◌, ◌+◌, ◌-◌, ◌%◌, ◌==◌, ◌&&◌, not, List, [], ◌∷◌, ◌++◌, map, length, arith, refl, sym, subst, ◌∙◌, slice_index_or, ap, true, false, Bool, ◌⊎◌, inl, inr, true≢false}
use Rattle.std.specs.Prelude.{slice_get, Option, Some, None, is_some, option_map, option_and_then, filter, flat_map, cond}
use Rattle.std.specs.List.{range_with_len}
use Rattle.std.specs.Option.{option_map_or}
use Rattle.cell_base.specs.declared.steps.Actor.{Actor}
use Rattle.cell_base.specs.declared.steps.Actor.TheVariants.{Spu, Mfc, Host as TheHost}
use Rattle.cell_base.specs.declared.steps.Step.{Step}
use Rattle.cell_base.specs.declared.steps.Step.TheVariants.{Exec, Piece, Elem, Retire, Atomic, Host}
use Rattle.mfc_command.specs.declared.command.Command.{Command}
use Rattle.mfc_command.specs.Order.{outstanding as outstanding_of}
use Rattle.mfc_lists.specs.declared.Element.{Element}
use Rattle.cell_machine.specs.declared.processor.Processor.{Processor}
use Rattle.cell_machine.specs.declared.memory.SharedMemory.{SharedMemory}
use Rattle.cell_machine.specs.Spe.{Spe, is_faulted}
use Rattle.cell_host.specs.Script.{Progress}
use Rattle.cell_machine.specs.State.{State}
use Rattle.cell_machine.specs.Exec.{exec}
use Rattle.cell_machine.specs.Moves.{outstanding, is_complete, present, parts_in}
use Rattle.cell_machine.specs.Transfers.{piece, piece_of, elem, after_element, next_element, retire, may_of, may_piece, may_elem, may_retire, has_part, has_element, is_left}
use Rattle.cell_machine.specs.Memory.{MainMemory, lines_of}
use Rattle.cell_machine.specs.Atomic.{may_atomic, atomic, after_atomic}
use Rattle.cell_machine.specs.Next.{act, act_in, own, left, next, ended_by, with_left}
use Rattle.cell_machine.specs.Hosts.{host as host_step}
use Rattle.cell_machine.specs.Run.{steps_of, steps_of_mfc, steps_of_number, steps_of_command, pieces_of, allowed, picked, actors, first_allowed, HasEnded, CanGoOn}
use Rattle.cell_machine.specs.Choices.{may, allowed_of_number, allowed_of_mfc, all_of_spus, all_of_mfcs, allowed_at, allowed_of_queued, steps_of_queued}
use Rattle.cell_machine.specs.MovesShown.{AreElements}
use Rattle.cell_machine.specs.Shows.{Shows, ShowsSpe}
use Rattle.cell_machine.proofs.AllTwo.{two_at, two_none, two_found, two_length, is_some_map, none_of}
use Rattle.cell_machine.proofs.Steps.{act-absent}
use Rattle.cell_machine.proofs.SpeShown.{second_of_both, get-either, complete-no_part, complete-no_element, complete-not_left}
use Rattle.cell_machine.proofs.MovesShown.{get-within, eq_is, eq_not}
use Rattle.cell_machine.proofs.Elements.{part-is}
use Rattle.cell_machine.proofs.Bounds.{may-is}
use Rattle.cell_machine.proofs.Places.{filter-both, queued_steps}

-- a step is allowed where it is allowed for its processor
act-own : (M : State) (p : ℕ) (s : Step) (P : Spe) → slice_get M.spes p ≡ Some P → is_some (act_in M p s) ≡ is_some (own M.memory s P)
act-own M p s P at =
    ap (λ o. is_some (option_and_then (λ Q. option_map (with_left M p) (own M.memory s Q)) o)) at ∙ is_some_map (with_left M p) (own M.memory s P)

next-own : (M : State) (p : ℕ) (s : Step) (P : Spe) → slice_get M.spes p ≡ Some P → is_some (option_map (ended_by M s) (act_in M p s)) ≡ is_some (own M.memory s P)
next-own M p s P at = is_some_map (ended_by M s) (act_in M p s) ∙ act-own M p s P at

-- the processor's test says whether its instruction is allowed
pub next-exec : {memory : SharedMemory} {host : Progress} (processors : List Processor) (M : State) (p : ℕ) (x : Processor) (b : Bool) → Shows processors memory host M → p < length processors → x ≡ slice_index_or processors p x
    → ((lines : ℕ) (P : Spe) → ShowsSpe x P → b ≡ is_some (exec lines P))
    → is_some (next M (Exec p)) ≡ b
next-exec processors M p x b shows h at test =
    let two = two_at ShowsSpe processors M.spes p x shows.spes h in
    next-own M p (Exec p) two.0 two.1
    ∙ is_some_map (left M.memory) (exec (lines_of M.memory) two.0)
    ∙ sym (test (lines_of M.memory) two.0 (subst (λ y. ShowsSpe y two.0) (sym at) two.2))

allowed-one : (M : State) (s : Step) (xs : List Step) → xs ≡ s ∷ [] → is_some (next M s) ≡ true → filter (λ t. is_some (next M t)) xs ≡ s ∷ []
allowed-one M s xs e h = rw e (rw h refl)

allowed-no_one : (M : State) (s : Step) (xs : List Step) → xs ≡ s ∷ [] → is_some (next M s) ≡ false → filter (λ t. is_some (next M t)) xs ≡ []
allowed-no_one M s xs e h = rw e (rw h refl)

pub allowed-spu : (M : State) (p : ℕ) → is_some (next M (Exec p)) ≡ true → allowed M (Spu p) ≡ Exec p ∷ []
allowed-spu M p h = allowed-one M (Exec p) (Exec p ∷ []) refl h

pub allowed-no_spu : (M : State) (p : ℕ) → is_some (next M (Exec p)) ≡ false → allowed M (Spu p) ≡ []
allowed-no_spu M p h = allowed-no_one M (Exec p) (Exec p ∷ []) refl h

pub no_next : (M : State) (s : Step) → act M s ≡ None → is_some (next M s) ≡ false
no_next M s h = rw h refl

pub next-host : (M : State) → is_some (next M Host) ≡ is_some (host_step M)
next-host M = is_some_map (ended_by M Host) (host_step M)

pub allowed-host : (M : State) (b : Bool) → b ≡ is_some (host_step M) → b ≡ true → allowed M TheHost ≡ Host ∷ []
allowed-host M b test on = allowed-one M Host (Host ∷ []) refl (next-host M ∙ sym test ∙ on)

pub allowed-no_host : (M : State) (b : Bool) → b ≡ is_some (host_step M) → b ≡ false → allowed M TheHost ≡ []
allowed-no_host M b test off = allowed-no_one M Host (Host ∷ []) refl (next-host M ∙ sym test ∙ off)

-- what the flow controller may do is what the machine allows
some_mapped : {X Y : Type 0} (o : Option X) (f : X → Y) (x : X) → o ≡ Some x → is_some (option_map f o) ≡ true
some_mapped o f x e = ap (λ q. is_some (option_map f q)) e

is_some_if : {X : Type 0} (b : Bool) (o : Option X) → (b ≡ true → is_some o ≡ true) → is_some (cond b o None) ≡ b
is_some_if true o h = h refl
is_some_if false o h = refl

piece_may : (memory : MainMemory) (P : Spe) (c e k : ℕ) → is_some (piece memory P c e k) ≡ may_piece P c e k
unfolding piece may_piece
piece_may memory P c e k = is_some_if (may_of P c (has_part P.moves c e k)) _ (λ may.
    let is = may-is P c (has_part P.moves c e k) may in
    let of = part-is P.moves c e k is.0 is.2 in
    ap (λ o. is_some (option_and_then (λ d. option_map (piece_of memory P c k d) (present P.moves.read c d)) o)) is.1
    ∙ some_mapped (present P.moves.read c is.0) (piece_of memory P c k is.0) of.element of.there)

elem_may : (lines : ℕ) (P : Spe) (c : ℕ) → is_some (elem lines P c) ≡ may_elem P c
unfolding elem may_elem
elem_may lines P c = is_some_if (may_of P c (has_element P.moves c)) _ (λ may.
    let is = may-is P c (has_element P.moves c) may in
    some_mapped (slice_get P.moves.issued c) (λ d. after_element P c d (next_element lines P c d)) is.0 is.1)

retire_may : (P : Spe) (c : ℕ) → is_some (retire P c) ≡ may_retire P c
unfolding retire
retire_may P c = is_some_if (may_retire P c) _ (λ may. refl)

atomic_may : (memory : MainMemory) (P : Spe) → is_some (atomic memory P) ≡ may_atomic P
unfolding atomic may_atomic
atomic_may memory P = is_some_if (not (is_faulted P.status) && is_some P.channels.slot) _ (λ may. is_some_map (after_atomic memory P) P.channels.slot ∙ second_of_both (not (is_faulted P.status)) (is_some P.channels.slot) may)

pub next-piece : (M : State) (p c e k : ℕ) (P : Spe) → slice_get M.spes p ≡ Some P → is_some (next M (Piece p c e k)) ≡ may_piece P c e k
next-piece M p c e k P at = next-own M p (Piece p c e k) P at ∙ piece_may M.memory P c e k

pub next-elem : (M : State) (p c : ℕ) (P : Spe) → slice_get M.spes p ≡ Some P → is_some (next M (Elem p c)) ≡ may_elem P c
next-elem M p c P at = next-own M p (Elem p c) P at ∙ is_some_map (left M.memory) (elem (lines_of M.memory) P c) ∙ elem_may (lines_of M.memory) P c

pub next-retire : (M : State) (p c : ℕ) (P : Spe) → slice_get M.spes p ≡ Some P → is_some (next M (Retire p c)) ≡ may_retire P c
next-retire M p c P at = next-own M p (Retire p c) P at ∙ is_some_map (left M.memory) (retire P c) ∙ retire_may P c

pub next-atomic : (M : State) (p : ℕ) (P : Spe) → slice_get M.spes p ≡ Some P → is_some (next M (Atomic p)) ≡ may_atomic P
next-atomic M p P at = next-own M p (Atomic p) P at ∙ atomic_may M.memory P

same_pieces : (t u : Step → Bool) (g : ℕ → Step) (ks : List ℕ) → ((k : ℕ) → t (g k) ≡ u (g k)) → filter t (map g ks) ≡ filter u (map g ks)
same_pieces t u g [] same = refl
same_pieces t u g (k ∷ ks) same = rw (same k, same_pieces t u g ks same) refl

same_head : (t u : Step → Bool) (x : Step) (xs : List Step) → t x ≡ u x → filter t xs ≡ filter u xs → filter t (x ∷ xs) ≡ filter u (x ∷ xs)
same_head t u x xs e h = rw (e, h) refl

same_number : (M : State) (p : ℕ) (P : Spe) (c : ℕ) → slice_get M.spes p ≡ Some P → filter (λ s. is_some (next M s)) (steps_of_number p P c) ≡ allowed_of_number p P c
same_number M p P c at = on (slice_get P.moves.issued c)
  where
    in_element : (o : Option Element) → filter (λ s. is_some (next M s)) (option_map_or (pieces_of p c) o []) ≡ filter (may P) (option_map_or (pieces_of p c) o [])
    in_element None = refl
    in_element (Some x) = same_pieces (λ s. is_some (next M s)) (may P) (Piece p c x.number) (range_with_len 0 (parts_in x)) (λ k. next-piece M p c x.number k P at)

    on : (o : Option Command) → filter (λ s. is_some (next M s)) (option_map_or (steps_of_command p P.moves.read c) o []) ≡ filter (may P) (option_map_or (steps_of_command p P.moves.read c) o [])
    on None = refl
    on (Some d) =
        let pieces = option_map_or (pieces_of p c) (present P.moves.read c d) [] in
        same_head (λ s. is_some (next M s)) (may P) (Elem p c) (Retire p c ∷ pieces) (next-elem M p c P at)
        (same_head (λ s. is_some (next M s)) (may P) (Retire p c) pieces (next-retire M p c P at) (in_element (present P.moves.read c d)))

same_numbers : (M : State) (p : ℕ) (P : Spe) (cs : List ℕ) → slice_get M.spes p ≡ Some P
    → filter (λ s. is_some (next M s)) (flat_map (steps_of_number p P) cs) ≡ filter (may P) (flat_map (steps_of_number p P) cs)
same_numbers M p P [] at = refl
same_numbers M p P (c ∷ cs) at =
    filter-both (λ s. is_some (next M s)) (steps_of_number p P c) (flat_map (steps_of_number p P) cs)
    ∙ ap (λ xs. xs ++ filter (λ s. is_some (next M s)) (flat_map (steps_of_number p P) cs)) (same_number M p P c at)
    ∙ ap (λ xs. allowed_of_number p P c ++ xs) (same_numbers M p P cs at)
    ∙ sym (filter-both (may P) (steps_of_number p P c) (flat_map (steps_of_number p P) cs))

allowed_mfc : {memory : SharedMemory} {host : Progress} (processors : List Processor) (M : State) (p : ℕ) (P : Spe) → Shows processors memory host M → slice_get M.spes p ≡ Some P → allowed M (Mfc p) ≡ allowed_of_mfc p P
allowed_mfc processors M p P shows at =
    ap (λ o. filter (λ s. is_some (next M s)) (option_map_or (steps_of_mfc p) o [])) at
    ∙ same_head (λ s. is_some (next M s)) (may P) (Atomic p) (flat_map (steps_of_number p P) (outstanding P)) (next-atomic M p P at) (same_numbers M p P (outstanding P) at)

pub allowed-no_mfc : {memory : SharedMemory} {host : Progress} (processors : List Processor) (M : State) (p : ℕ) → Shows processors memory host M → length processors ≤ p → allowed M (Mfc p) ≡ []
allowed-no_mfc processors M p shows h = ap (λ o. filter (λ s. is_some (next M s)) (option_map_or (steps_of_mfc p) o [])) (two_none ShowsSpe processors M.spes p shows.spes h)

-- what the processor at p says of its steps
pub mfc-says : {memory : SharedMemory} {host : Progress} (processors : List Processor) (M : State) (p : ℕ) (x : Processor) (Q : List Step → Type 0) → Shows processors memory host M → p < length processors → x ≡ slice_index_or processors p x
    → ((P : Spe) → ShowsSpe x P → Q (allowed_of_mfc p P)) → Q (allowed M (Mfc p))
mfc-says processors M p x Q shows h at says =
    let two = two_at ShowsSpe processors M.spes p x shows.spes h in
    subst Q (sym (allowed_mfc processors M p two.0 shows two.1)) (says two.0 (subst (λ y. ShowsSpe y two.0) (sym at) two.2))

-- what is chosen of one step, and of none
pub pick_one : (xs : List Step) (s : Step) (choice : ℕ) → xs ≡ s ∷ [] → slice_get xs (choice % length xs) ≡ Some s
pick_one xs s choice e = let z : choice % 1 ≡ 0 = omega arith in rw e (rw z refl)

pub pick_none : (xs : List Step) (choice : ℕ) → xs ≡ [] → slice_get xs choice ≡ None
pick_none xs choice e = rw e refl

-- the allowed steps of n actors from a on
abbrev pub from_actor : State → (ℕ → Actor) → ℕ → ℕ → List Step
from_actor M g a n = flat_map (allowed M) (map g (range_with_len a n))

pub from-skip : (M : State) (g : ℕ → Actor) (a n : ℕ) → a < n → allowed M (g a) ≡ [] → from_actor M g a (n - a) ≡ from_actor M g (a + 1) (n - (a + 1))
from-skip M g a n h none = let e : n - a ≡ suc (n - (a + 1)) = omega arith in rw e (rw none refl)

first_head : (xs ys : List Step) (s : Step) → slice_get xs 0 ≡ Some s → slice_get (xs ++ ys) 0 ≡ Some s
first_head [] ys s h = absurd (cc)
first_head (x ∷ xs) ys s h = h

pub from-found : (M : State) (g : ℕ → Actor) (a n : ℕ) (s : Step) → a < n → slice_get (allowed M (g a)) 0 ≡ Some s → slice_get (from_actor M g a (n - a)) 0 ≡ Some s
from-found M g a n s h one = let e : n - a ≡ suc (n - (a + 1)) = omega arith in rw e (first_head (allowed M (g a)) (from_actor M g (a + 1) (n - (a + 1))) s one)

pub from-end : (M : State) (g : ℕ → Actor) (a n : ℕ) → n ≤ a → from_actor M g a (n - a) ≡ []
from-end M g a n h = let e : n - a ≡ 0 = omega arith in rw e refl

pub first_none : (xs : List Step) → slice_get xs 0 ≡ None → xs ≡ []
first_none [] h = refl
first_none (x ∷ xs) h = absurd (cc)

-- where there is none, no actor has one
append_none : (xs ys : List Step) → xs ++ ys ≡ [] → (xs ≡ []) × (ys ≡ [])
append_none [] ys h = (refl, h)
append_none (x ∷ xs) ys h = absurd (cc)

each_none : (M : State) (g : ℕ → Actor) (a n k : ℕ) → from_actor M g a n ≡ [] → k < n → allowed M (g (a + k)) ≡ []
each_none M g a zero k h less = absurd (omega arith)
each_none M g a (suc n) zero h less = let e : a + 0 ≡ a = omega arith in subst (λ q. allowed M (g q) ≡ []) (sym e) (append_none (allowed M (g a)) (from_actor M g (a + 1) n) h).0
each_none M g a (suc n) (suc k) h less =
    let e : a + suc k ≡ a + 1 + k = omega arith in
    subst (λ q. allowed M (g q) ≡ []) (sym e) (each_none M g (a + 1) n k (append_none (allowed M (g a)) (from_actor M g (a + 1) n) h).1 (omega arith))

actor_none : (M : State) (g : ℕ → Actor) (n p : ℕ) → from_actor M g 0 n ≡ [] → p < n → allowed M (g p) ≡ []
actor_none M g n p h less = let e : 0 + p ≡ p = omega arith in subst (λ q. allowed M (g q) ≡ []) e (each_none M g 0 n p h less)

assoc : (xs ys zs : List Step) → (xs ++ ys) ++ zs ≡ xs ++ (ys ++ zs)
assoc [] ys zs = refl
assoc (x ∷ xs) ys zs = ap (λ ws. x ∷ ws) (assoc xs ys zs)

flat_both : (f : Actor → List Step) (xs ys : List Actor) → flat_map f (xs ++ ys) ≡ flat_map f xs ++ flat_map f ys
flat_both f [] ys = refl
flat_both f (x ∷ xs) ys = ap (λ zs. f x ++ zs) (flat_both f xs ys) ∙ sym (assoc (f x) (flat_map f xs) (flat_map f ys))

append_nothing : (xs : List Step) → xs ++ [] ≡ xs
append_nothing [] = refl
append_nothing (x ∷ xs) = ap (λ ys. x ∷ ys) (append_nothing xs)

-- all allowed steps: those of the processors, of their flow controllers, and of the host
all_parts : (M : State) → flat_map (allowed M) (actors M) ≡ all_of_spus M ++ (all_of_mfcs M ++ allowed M TheHost)
all_parts M =
    flat_both (allowed M) (map Spu (range_with_len 0 (length M.spes)) ++ map Mfc (range_with_len 0 (length M.spes))) (TheHost ∷ [])
    ∙ ap (λ xs. xs ++ flat_map (allowed M) (TheHost ∷ [])) (flat_both (allowed M) (map Spu (range_with_len 0 (length M.spes))) (map Mfc (range_with_len 0 (length M.spes))))
    ∙ ap (λ xs. (all_of_spus M ++ all_of_mfcs M) ++ xs) (append_nothing (allowed M TheHost))
    ∙ assoc (all_of_spus M) (all_of_mfcs M) (allowed M TheHost)

first_of_both : (xs ys : List Step) (o : Option Step) → o ≡ slice_get xs 0 → is_some o ≡ true → o ≡ slice_get (xs ++ ys) 0
first_of_both [] ys o e h = absurd (true≢false (sym h ∙ ap is_some e))
first_of_both (x ∷ xs) ys o e h = e

rest_of_both : (xs ys : List Step) (o : Option Step) → o ≡ slice_get xs 0 → is_some o ≡ false → slice_get (xs ++ ys) 0 ≡ slice_get ys 0
rest_of_both [] ys o e h = refl
rest_of_both (x ∷ xs) ys o e h = absurd (true≢false (sym (ap is_some e) ∙ h))

pub first-spu : (M : State) (o : Option Step) → o ≡ slice_get (all_of_spus M) 0 → is_some o ≡ true → o ≡ first_allowed M
first-spu M o e h = first_of_both (all_of_spus M) (all_of_mfcs M ++ allowed M TheHost) o e h ∙ sym (ap (λ xs. slice_get xs 0) (all_parts M))

pub first-mfc : (M : State) (o q : Option Step) → q ≡ slice_get (all_of_spus M) 0 → is_some q ≡ false → o ≡ slice_get (all_of_mfcs M) 0 → is_some o ≡ true → o ≡ first_allowed M
first-mfc M o q a b e h =
    first_of_both (all_of_mfcs M) (allowed M TheHost) o e h ∙ sym (rest_of_both (all_of_spus M) (all_of_mfcs M ++ allowed M TheHost) q a b) ∙ sym (ap (λ xs. slice_get xs 0) (all_parts M))

pub first-host : (M : State) (o q r : Option Step) → q ≡ slice_get (all_of_spus M) 0 → is_some q ≡ false → r ≡ slice_get (all_of_mfcs M) 0 → is_some r ≡ false → o ≡ slice_get (allowed M TheHost) 0 → o ≡ first_allowed M
first-host M o q r a b c d e =
    e ∙ sym (rest_of_both (all_of_mfcs M) (allowed M TheHost) r c d) ∙ sym (rest_of_both (all_of_spus M) (all_of_mfcs M ++ allowed M TheHost) q a b) ∙ sym (ap (λ xs. slice_get xs 0) (all_parts M))

filter_none : (t : Step → Bool) (s : Step) (xs : List Step) → filter t (s ∷ xs) ≡ [] → (t s ≡ false) × (filter t xs ≡ [])
filter_none t s xs h = on (t s) refl h
  where
    on : (b : Bool) → t s ≡ b → cond b (s ∷ filter t xs) (filter t xs) ≡ [] → (t s ≡ false) × (filter t xs ≡ [])
    on true e g = absurd (cc)
    on false e g = (e, g)

-- neither the atomic command nor a queued one
none_of_mfc : (p : ℕ) (P : Spe) → allowed_of_mfc p P ≡ [] → (may_atomic P ≡ false) × (queued_steps p P ≡ [])
none_of_mfc p P none = filter_none (may P) (Atomic p) (flat_map (steps_of_number p P) (outstanding P)) none

-- where no command has an allowed step, neither has one of them
none_in : (t : Step → Bool) (f : ℕ → List Step) (u : ℕ → Bool) (a n c : ℕ) → filter t (flat_map f (filter u (range_with_len a n))) ≡ [] → u c ≡ true → a ≤ c → c < a + n → filter t (f c) ≡ []
none_in t f u a zero c h is low high = absurd (omega arith)
none_in t f u a (suc n) c h is low high = on (u a) refl h (a == c) refl (λ g differs. none_in t f u (a + 1) n c g is (omega arith) (omega arith))
  where
    on : (b : Bool) → u a ≡ b → filter t (flat_map f (cond b (a ∷ filter u (range_with_len (a + 1) n)) (filter u (range_with_len (a + 1) n)))) ≡ [] → (q : Bool) → (a == c) ≡ q
        → (filter t (flat_map f (filter u (range_with_len (a + 1) n))) ≡ [] → a ≢ c → filter t (f c) ≡ []) → filter t (f c) ≡ []
    on true e g true q later = subst (λ j. filter t (f j) ≡ []) (eq_is a c q) (append_none (filter t (f a)) (filter t (flat_map f (filter u (range_with_len (a + 1) n)))) (sym (filter-both t (f a) (flat_map f (filter u (range_with_len (a + 1) n)))) ∙ g)).0
    on true e g false q later = later (append_none (filter t (f a)) (filter t (flat_map f (filter u (range_with_len (a + 1) n)))) (sym (filter-both t (f a) (flat_map f (filter u (range_with_len (a + 1) n)))) ∙ g)).1 (eq_not a c q)
    on false e g true q later = absurd (true≢false (sym is ∙ subst (λ j. u j ≡ false) (eq_is a c q) e))
    on false e g false q later = later g (eq_not a c q)

none_of_part : (t : Step → Bool) (g : ℕ → Step) (a n k : ℕ) → filter t (map g (range_with_len a n)) ≡ [] → a ≤ k → k < a + n → t (g k) ≡ false
none_of_part t g a zero k h low high = absurd (omega arith)
none_of_part t g a (suc n) k h low high = on (a == k) refl (filter_none t (g a) (map g (range_with_len (a + 1) n)) h) (λ r differs. none_of_part t g (a + 1) n k r (omega arith) (omega arith))
  where
    on : (b : Bool) → (a == k) ≡ b → (t (g a) ≡ false) × (filter t (map g (range_with_len (a + 1) n)) ≡ []) → (filter t (map g (range_with_len (a + 1) n)) ≡ [] → a ≢ k → t (g k) ≡ false) → t (g k) ≡ false
    on true e both later = subst (λ j. t (g j) ≡ false) (eq_is a k e) both.0
    on false e both later = later both.1 (eq_not a k e)

command_none : (p : ℕ) (P : Spe) (c : ℕ) (d : Command) → allowed_of_mfc p P ≡ [] → slice_get P.moves.issued c ≡ Some d → is_complete P.moves c ≡ false → filter (may P) (steps_of_command p P.moves.read c d) ≡ []
unfolding outstanding_of
command_none p P c d none at open_yet =
    ap (λ o. filter (may P) (option_map_or (steps_of_command p P.moves.read c) o [])) (sym at)
    ∙ none_in (may P) (steps_of_number p P) (λ j. not (is_complete P.moves j)) 0 (length P.moves.issued) c (none_of_mfc p P none).1 (ap not open_yet) (omega arith) (let l = get-within P.moves.issued c d at in omega arith)

-- neither an element, nor a retirement, nor a piece
none_of_command : (p : ℕ) (P : Spe) (c : ℕ) (d : Command) → allowed_of_mfc p P ≡ [] → slice_get P.moves.issued c ≡ Some d → is_complete P.moves c ≡ false
    → (may_elem P c ≡ false) × (may_retire P c ≡ false) × (filter (may P) (option_map_or (pieces_of p c) (present P.moves.read c d) []) ≡ [])
none_of_command p P c d none at open_yet =
    let one = filter_none (may P) (Elem p c) (Retire p c ∷ option_map_or (pieces_of p c) (present P.moves.read c d) []) (command_none p P c d none at open_yet) in
    let two = filter_none (may P) (Retire p c) (option_map_or (pieces_of p c) (present P.moves.read c d) []) one.1 in
    (one.0, two.0, two.1)

-- a command that has a step isn't complete
pub open_if : (b t : Bool) → t ≡ true → (b ≡ true → t ≡ false) → b ≡ false
open_if true t h k = absurd (true≢false (sym h ∙ k refl))
open_if false t h k = refl

off_if : (b : Bool) → (b ≡ true → b ≡ false) → b ≡ false
off_if true h = h refl
off_if false h = refl

no_piece : (p : ℕ) (P : Spe) (c e k : ℕ) → allowed_of_mfc p P ≡ [] → may_piece P c e k ≡ false
unfolding may_piece
no_piece p P c e k none = off_if (may_of P c (has_part P.moves c e k)) (λ h.
    let is = may-is P c (has_part P.moves c e k) h in
    let of = part-is P.moves c e k is.0 is.2 in
    let open_yet = open_if (is_complete P.moves c) (has_part P.moves c e k is.0) is.2 (complete-no_part P.moves c e k is.0 is.1) in
    let pieces : filter (may P) (pieces_of p c of.element) ≡ [] = ap (λ o. filter (may P) (option_map_or (pieces_of p c) o [])) (sym of.there) ∙ (none_of_command p P c is.0 none is.1 open_yet).2 in
    let within = of.within in
    let off : may_piece P c of.element.number k ≡ false = none_of_part (may P) (Piece p c of.element.number) 0 (parts_in of.element) k pieces (omega arith) (omega (arith, within)) in
    subst (λ j. may_piece P c j k ≡ false) of.number off)

no_elem : (p : ℕ) (P : Spe) (c : ℕ) → ((d : Command) → slice_get P.moves.issued c ≡ Some d → AreElements P.moves c d) → allowed_of_mfc p P ≡ [] → may_elem P c ≡ false
unfolding may_elem
no_elem p P c els none = off_if (may_of P c (has_element P.moves c)) (λ h.
    let is = may-is P c (has_element P.moves c) h in
    (none_of_command p P c is.0 none is.1 (open_if (is_complete P.moves c) (has_element P.moves c is.0) is.2 (complete-no_element P.moves c is.0 (els is.0 is.1) is.1))).0)

no_retire : (p : ℕ) (P : Spe) (c : ℕ) → allowed_of_mfc p P ≡ [] → may_retire P c ≡ false
unfolding may_retire
no_retire p P c none = off_if (may_of P c (is_left P.moves c)) (λ h.
    let is = may-is P c (is_left P.moves c) h in
    (none_of_command p P c is.0 none is.1 (open_if (is_complete P.moves c) (is_left P.moves c is.0) is.2 (complete-not_left P.moves c is.0 is.1))).1)

-- a processor that is there has no step where none is allowed
spe_none : {memory : SharedMemory} {host : Progress} (processors : List Processor) (M : State) (p : ℕ) (s : Step) → Shows processors memory host M → all_of_mfcs M ≡ [] → (slice_get M.spes p ≡ None → next M s ≡ None)
    → ((P : Spe) → slice_get M.spes p ≡ Some P → allowed_of_mfc p P ≡ [] → next M s ≡ None) → next M s ≡ None
spe_none processors M p s shows all absent there =
    get-either M.spes p (next M s ≡ None) absent (λ P at.
    there P at (sym (allowed_mfc processors M p P shows at) ∙ actor_none M Mfc (length M.spes) p all (get-within M.spes p P at)))

-- the elements of its commands are in order
pub spe_elements : {memory : SharedMemory} {host : Progress} (processors : List Processor) (M : State) (p : ℕ) (P : Spe) (c : ℕ) (d : Command) → Shows processors memory host M → slice_get M.spes p ≡ Some P → slice_get P.moves.issued c ≡ Some d → AreElements P.moves c d
spe_elements processors M p P c d shows at there = elim (two_found ShowsSpe processors M.spes p shows.spes) as (λ _. AreElements P.moves c d) [
  | inl none ↦ absurd (no_spe (sym none ∙ at))
  | inr two ↦ let same : two.1 ≡ P = same_spe two.1 P (sym two.2 ∙ at) in shown two.0 (subst (λ y. ShowsSpe two.0 y) same two.3)
]
  where
    no_spe : None ≡ Some P → ⊥
    no_spe e = cc

    same_spe : (x y : Spe) → Some x ≡ Some y → x ≡ y
    same_spe x y e = cc

    shown : (x : Processor) → ShowsSpe x P → AreElements P.moves c d
    shown x shows = let q = shows.queue in q.moves.done.elements c d there

-- where no step is first, the machine has ended
pub has_ended : {memory : SharedMemory} {host : Progress} (processors : List Processor) (M : State) → Shows processors memory host M → first_allowed M ≡ None → HasEnded M
has_ended processors M shows h (Exec p) =
    let all = append_none (all_of_spus M) (all_of_mfcs M ++ allowed M TheHost) (sym (all_parts M) ∙ first_none (flat_map (allowed M) (actors M)) h) in
    get-either M.spes p (next M (Exec p) ≡ None) (λ none. rw none refl) (λ P at.
    none_of (next M (Exec p)) (filter_none (λ s. is_some (next M s)) (Exec p) [] (actor_none M Spu (length M.spes) p all.0 (get-within M.spes p P at))).0)
has_ended processors M shows h (Piece p c e k) =
    let all = append_none (all_of_spus M) (all_of_mfcs M ++ allowed M TheHost) (sym (all_parts M) ∙ first_none (flat_map (allowed M) (actors M)) h) in
    spe_none processors M p (Piece p c e k) shows (append_none (all_of_mfcs M) (allowed M TheHost) all.1).0 (λ none. rw none refl)
    (λ P at none. none_of (next M (Piece p c e k)) (next-piece M p c e k P at ∙ no_piece p P c e k none))
has_ended processors M shows h (Elem p c) =
    let all = append_none (all_of_spus M) (all_of_mfcs M ++ allowed M TheHost) (sym (all_parts M) ∙ first_none (flat_map (allowed M) (actors M)) h) in
    spe_none processors M p (Elem p c) shows (append_none (all_of_mfcs M) (allowed M TheHost) all.1).0 (λ none. rw none refl)
    (λ P at none. none_of (next M (Elem p c)) (next-elem M p c P at ∙ no_elem p P c (λ d. spe_elements processors M p P c d shows at) none))
has_ended processors M shows h (Retire p c) =
    let all = append_none (all_of_spus M) (all_of_mfcs M ++ allowed M TheHost) (sym (all_parts M) ∙ first_none (flat_map (allowed M) (actors M)) h) in
    spe_none processors M p (Retire p c) shows (append_none (all_of_mfcs M) (allowed M TheHost) all.1).0 (λ none. rw none refl)
    (λ P at none. none_of (next M (Retire p c)) (next-retire M p c P at ∙ no_retire p P c none))
has_ended processors M shows h (Atomic p) =
    let all = append_none (all_of_spus M) (all_of_mfcs M ++ allowed M TheHost) (sym (all_parts M) ∙ first_none (flat_map (allowed M) (actors M)) h) in
    spe_none processors M p (Atomic p) shows (append_none (all_of_mfcs M) (allowed M TheHost) all.1).0 (λ none. rw none refl)
    (λ P at none. none_of (next M (Atomic p)) (next-atomic M p P at ∙ (none_of_mfc p P none).0))
has_ended processors M shows h Host =
    let all = append_none (all_of_spus M) (all_of_mfcs M ++ allowed M TheHost) (sym (all_parts M) ∙ first_none (flat_map (allowed M) (actors M)) h) in
    none_of (next M Host) (filter_none (λ s. is_some (next M s)) Host [] (append_none (all_of_mfcs M) (allowed M TheHost) all.1).1).0

pub allowed-absent : {memory : SharedMemory} {host : Progress} (processors : List Processor) (M : State) (p : ℕ) → Shows processors memory host M → length processors ≤ p → allowed M (Spu p) ≡ []
allowed-absent processors M p shows h = allowed-no_spu M p (no_next M (Exec p) (act-absent _ processors M p shows h))

-- no processor has an allowed step below this one, nor has this one
pub spu-on : {memory : SharedMemory} {host : Progress} (processors : List Processor) (M : State) (p : ℕ) (x : Processor) (b : Bool) → Shows processors memory host M → p < length processors → x ≡ slice_index_or processors p x
    → ((lines : ℕ) (P : Spe) → ShowsSpe x P → b ≡ is_some (exec lines P)) → b ≡ false
    → all_of_spus M ≡ from_actor M Spu p (length M.spes - p)
    → all_of_spus M ≡ from_actor M Spu (p + 1) (length M.spes - (p + 1))
spu-on processors M p x b shows h at test off so_far =
    let same : length M.spes ≡ length processors = two_length ShowsSpe processors M.spes shows.spes in
    so_far ∙ from-skip M Spu p (length M.spes) (omega arith) (allowed-no_spu M p (next-exec processors M p x b shows h at test ∙ off))

-- this one has
pub spu-found : {memory : SharedMemory} {host : Progress} (processors : List Processor) (M : State) (p : ℕ) (x : Processor) (b : Bool) → Shows processors memory host M → p < length processors → x ≡ slice_index_or processors p x
    → ((lines : ℕ) (P : Spe) → ShowsSpe x P → b ≡ is_some (exec lines P)) → b ≡ true
    → all_of_spus M ≡ from_actor M Spu p (length M.spes - p)
    → Some (Exec p) ≡ slice_get (all_of_spus M) 0
spu-found processors M p x b shows h at test on so_far =
    let same : length M.spes ≡ length processors = two_length ShowsSpe processors M.spes shows.spes in
    sym (ap (λ xs. slice_get xs 0) so_far ∙ from-found M Spu p (length M.spes) (Exec p) (omega arith) (ap (λ xs. slice_get xs 0) (allowed-spu M p (next-exec processors M p x b shows h at test ∙ on))))

-- and so for the flow controllers
pub mfc-on : {memory : SharedMemory} {host : Progress} (processors : List Processor) (M : State) (p : ℕ) (x : Processor) (o : Option Step) → Shows processors memory host M → p < length processors → x ≡ slice_index_or processors p x
    → ((P : Spe) → ShowsSpe x P → o ≡ slice_get (allowed_of_mfc p P) 0) → is_some o ≡ false
    → all_of_mfcs M ≡ from_actor M Mfc p (length M.spes - p)
    → all_of_mfcs M ≡ from_actor M Mfc (p + 1) (length M.spes - (p + 1))
mfc-on processors M p x o shows h at says off so_far =
    let same : length M.spes ≡ length processors = two_length ShowsSpe processors M.spes shows.spes in
    let first : o ≡ slice_get (allowed M (Mfc p)) 0 = mfc-says processors M p x (λ xs. o ≡ slice_get xs 0) shows h at says in
    so_far ∙ from-skip M Mfc p (length M.spes) (omega arith) (first_none (allowed M (Mfc p)) (sym first ∙ none_of o off))

pub mfc-found : {memory : SharedMemory} {host : Progress} (processors : List Processor) (M : State) (p : ℕ) (x : Processor) (o : Option Step) → Shows processors memory host M → p < length processors → x ≡ slice_index_or processors p x
    → ((P : Spe) → ShowsSpe x P → o ≡ slice_get (allowed_of_mfc p P) 0) → is_some o ≡ true
    → all_of_mfcs M ≡ from_actor M Mfc p (length M.spes - p)
    → o ≡ slice_get (all_of_mfcs M) 0
mfc-found processors M p x None shows h at says on so_far = absurd (true≢false (sym on))
mfc-found processors M p x (Some s) shows h at says on so_far =
    let same : length M.spes ≡ length processors = two_length ShowsSpe processors M.spes shows.spes in
    let first : Some s ≡ slice_get (allowed M (Mfc p)) 0 = mfc-says processors M p x (λ xs. Some s ≡ slice_get xs 0) shows h at says in
    sym (ap (λ xs. slice_get xs 0) so_far ∙ from-found M Mfc p (length M.spes) s (omega arith) (sym first))

pub none-left : {memory : SharedMemory} {host : Progress} (processors : List Processor) (M : State) (g : ℕ → Actor) (p : ℕ) (xs : List Step) → Shows processors memory host M → length processors ≤ p
    → xs ≡ from_actor M g p (length M.spes - p) → None ≡ slice_get xs 0
none-left processors M g p xs shows h so_far =
    let same : length M.spes ≡ length processors = two_length ShowsSpe processors M.spes shows.spes in
    sym (ap (λ ys. slice_get ys 0) (so_far ∙ from-end M g p (length M.spes) (omega arith)))

pub none-before : (M : State) (g : ℕ → Actor) (n : ℕ) → from_actor M g 0 n ≡ from_actor M g 0 (n - 0)
none-before M g n = let e : n - 0 ≡ n = omega arith in rw e refl

-- the host's step is picked, where it is allowed
pub pick-host : (M : State) (choice : ℕ) (o : Option Step) → o ≡ slice_get (allowed M TheHost) 0 → o ≡ picked M TheHost choice
pick-host M choice o h = on (is_some (next M Host)) refl
  where
    on : (b : Bool) → is_some (next M Host) ≡ b → o ≡ picked M TheHost choice
    on true e = let xs = allowed-one M Host (Host ∷ []) refl e in h ∙ ap (λ ys. slice_get ys 0) xs ∙ sym (pick_one (allowed M TheHost) Host choice xs)
    on false e = let xs = allowed-no_one M Host (Host ∷ []) refl e in h ∙ ap (λ ys. slice_get ys 0) xs ∙ sym (pick_none (allowed M TheHost) (choice % length (allowed M TheHost)) xs)

-- each element of a filtered list passes, and so does the first of several
filter_head : (t : Step → Bool) (xs rest : List Step) (s : Step) → slice_get (filter t xs ++ rest) 0 ≡ Some s → (t s ≡ true) ⊎ (slice_get rest 0 ≡ Some s)
filter_head t [] rest s h = inr h
filter_head t (x ∷ xs) rest s h = on (t x) refl h (filter_head t xs rest s)
  where
    on : (b : Bool) → t x ≡ b → slice_get (cond b (x ∷ filter t xs) (filter t xs) ++ rest) 0 ≡ Some s → (slice_get (filter t xs ++ rest) 0 ≡ Some s → (t s ≡ true) ⊎ (slice_get rest 0 ≡ Some s)) → (t s ≡ true) ⊎ (slice_get rest 0 ≡ Some s)
    on true e g k = let same : x ≡ s = cc in inl (subst (λ y. t y ≡ true) same e)
    on false e g k = k g

first_passes : (M : State) (all : List Actor) (s : Step) → slice_get (flat_map (allowed M) all) 0 ≡ Some s → is_some (next M s) ≡ true
first_passes M [] s h = absurd (cc)
first_passes M (a ∷ all) s h = elim (filter_head (λ t. is_some (next M t)) (steps_of M a) (flat_map (allowed M) all) s h) as (λ _. is_some (next M s) ≡ true) [ inl here ↦ here | inr later ↦ first_passes M all s later ]

pub can_go_on : (M : State) (o : Option Step) → o ≡ first_allowed M → is_some o ≡ true → CanGoOn M
can_go_on M None e h = absurd (cc)
can_go_on M (Some s) e h = (s, first_passes M (actors M) s (sym e))

pub ended_at : {memory : SharedMemory} {host : Progress} (processors : List Processor) (M : State) (o : Option Step) → Shows processors memory host M → o ≡ first_allowed M → is_some o ≡ false → HasEnded M
ended_at processors M o shows e h = has_ended processors M shows (sym e ∙ none_of o h)

pub first_allowed-allowed : (M : State) (s : Step) → first_allowed M ≡ Some s → is_some (next M s) ≡ true
first_allowed-allowed M s h = first_passes M (actors M) s h

-- the steps of one command that its processor allows are those that the machine allows
queued_same : (M : State) (p i : ℕ) (P : Spe) → slice_get M.spes p ≡ Some P → allowed_of_queued M p i ≡ allowed_at p P i
queued_same M p i P at = ap (λ o. filter (λ s. is_some (next M s)) (option_map_or (steps_of_queued p i) o [])) at ∙ on (slice_get (outstanding P) i)
  where
    on : (o : Option ℕ) → filter (λ s. is_some (next M s)) (option_map_or (steps_of_number p P) o []) ≡ option_map_or (allowed_of_number p P) o []
    on None = refl
    on (Some c) = same_number M p P c at

pub queued-says : {memory : SharedMemory} {host : Progress} (processors : List Processor) (M : State) (p i : ℕ) (x : Processor) (Q : List Step → Type 0) → Shows processors memory host M → p < length processors → x ≡ slice_index_or processors p x
    → ((P : Spe) → ShowsSpe x P → Q (allowed_at p P i)) → Q (allowed_of_queued M p i)
queued-says processors M p i x Q shows h at says =
    let two = two_at ShowsSpe processors M.spes p x shows.spes h in
    subst Q (sym (queued_same M p i two.0 two.1)) (says two.0 (subst (λ y. ShowsSpe y two.0) (sym at) two.2))

pub queued-no_spe : {memory : SharedMemory} {host : Progress} (processors : List Processor) (M : State) (p i : ℕ) → Shows processors memory host M → length processors ≤ p → allowed_of_queued M p i ≡ []
queued-no_spe processors M p i shows h = ap (λ o. filter (λ s. is_some (next M s)) (option_map_or (steps_of_queued p i) o [])) (two_none ShowsSpe processors M.spes p shows.spes h)

-- whether the command in a slot can be done
pub atomic-says : {memory : SharedMemory} {host : Progress} (processors : List Processor) (M : State) (p : ℕ) (x : Processor) (b : Bool) → Shows processors memory host M → p < length processors → x ≡ slice_index_or processors p x
    → ((P : Spe) → ShowsSpe x P → b ≡ may_atomic P) → b ≡ is_some (next M (Atomic p))
atomic-says processors M p x b shows h at says =
    let two = two_at ShowsSpe processors M.spes p x shows.spes h in
    says two.0 (subst (λ y. ShowsSpe y two.0) (sym at) two.2) ∙ sym (next-atomic M p two.0 two.1)

pub atomic-no_spe : {memory : SharedMemory} {host : Progress} (processors : List Processor) (M : State) (p : ℕ) → Shows processors memory host M → length processors ≤ p → false ≡ is_some (next M (Atomic p))
atomic-no_spe processors M p shows h = let none = two_none ShowsSpe processors M.spes p shows.spes h in rw none refl
