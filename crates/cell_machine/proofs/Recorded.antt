-- On a run each step is one that a record can have.
use Rattle.std.proofs.Common.{◌≡◌, ℕ, zero, suc, ◌+◌, ◌-◌, ◌/◌, ◌<◌, ◌≤◌, ◌==◌, Bool, true, false, List, [], ◌∷◌, ◌++◌, length, arith, refl, sym, ◌∙◌, ap, subst, length-append}
use Rattle.std.specs.Prelude.{Option, Some, None, slice_get, cond, is_some, map, filter, option_and_then}
use Rattle.std.specs.List.{AllByRecursion, last_or}
use Rattle.cell_base.specs.declared.steps.Step.{Step}
use Rattle.cell_base.specs.declared.steps.Step.TheVariants.{Exec, Piece, Elem, Retire, Atomic, Host}
use Rattle.cell_base.specs.Records.{InBounds, AreSteps}
use Rattle.mfc_command.specs.declared.command.Command.{Command}
use Rattle.mfc_command.specs.Order.{is_list}
use Rattle.mfc_command.specs.Parts.{parts_of}
use Rattle.mfc_lists.specs.declared.Element.{Element}
use Rattle.cell_host.specs.Script.{Progress}
use Rattle.cell_machine.specs.declared.memory.SharedMemory.{SharedMemory}
use Rattle.cell_machine.specs.declared.processor.Processor.{Processor}
use Rattle.cell_machine.specs.Spe.{Spe, Moves, ElementRead}
use Rattle.cell_machine.specs.State.{State}
use Rattle.cell_machine.specs.Memory.{lines_of}
use Rattle.cell_machine.specs.Moves.{read_of, whole, elements_of, present}
use Rattle.cell_machine.specs.Transfers.{has_part, has_element, is_left, may_piece, may_elem, may_retire}
use Rattle.cell_machine.specs.Next.{act_in, next}
use Rattle.cell_machine.specs.Opening.{Opening, opening, opening_spe}
use Rattle.cell_machine.specs.Run.{Ran, replay}
use Rattle.cell_machine.specs.Shows.{IsMachine}
use Rattle.cell_machine.proofs.Same.{get-within}
use Rattle.cell_machine.proofs.Elements.{last-number, part-is, present-last}
use Rattle.cell_machine.proofs.Bounds.{Does, stays, issues, resumes, Moved, executes, copies, reads, refuses, retires, locks, acts, Seen, another, goes, kind-small, read-is, may-is, act-seen, act-length}
use Rattle.cell_machine.proofs.Choices.{next-piece, next-elem, next-retire}
use Rattle.cell_machine.proofs.Completion.{next-act, some-of}
use Rattle.cell_machine.proofs.Replays.{replay-snoc}
use Rattle.cell_machine.proofs.ListSteps.{same_got}
use Rattle.cell_machine.proofs.ListOrder.{get-there, opening-moves, run-follows}
use Rattle.cell_machine.proofs.Openings.{length-enumerate}

-- ---- what was issued and read is small

abbrev IsSmall : Command → Type 0
IsSmall d = d.size ≤ 16384

abbrev IsSmallElement : Element → Type 0
IsSmallElement x = x.size ≤ 16384

record AreSmall (n : ℕ) (m : Moves) : Type 0 where
  few : length m.issued ≤ n
  issued : AllByRecursion IsSmall m.issued
  read : AllByRecursion (λ r. IsSmallElement r.element) m.read

all-snoc : {X : Type 0} (P : X → Type 0) (xs : List X) (x : X) → AllByRecursion P xs → P x → AllByRecursion P (xs ++ x ∷ [])
all-snoc P [] x all is = (is, tt)
all-snoc P (y ∷ xs) x all is = (all.0, all-snoc P xs x all.1 is)

all-get : {X : Type 0} (P : X → Type 0) (xs : List X) (i : ℕ) (x : X) → AllByRecursion P xs → slice_get xs i ≡ Some x → P x
all-get P [] i x all at = absurd (cc)
all-get P (y ∷ xs) zero x all at = let same : y ≡ x = cc in subst P same all.0
all-get P (y ∷ xs) (suc i) x all at = all-get P xs i x all.1 at

same-small : (n : ℕ) (m k : Moves) → k ≡ m → AreSmall n m → AreSmall (n + 1) k
same-small n m k same is = subst (AreSmall (n + 1)) (sym same) (record { few = let f = is.few in omega arith; issued = is.issued; read = is.read })

does-small : (lines n : ℕ) (asked : Option _) (m k : Moves) → Does lines asked m k → AreSmall n m → AreSmall (n + 1) k
does-small lines n asked m k (stays same) is = same-small n m k same is
does-small lines n asked m k (issues d fit same) is = subst (AreSmall (n + 1)) (sym same) (record {
  few = let f = is.few in let a = length-append m.issued (d ∷ []) in omega arith;
  issued = all-snoc IsSmall m.issued d is.issued (kind-small lines d d.kind fit).0;
  read = is.read;
})
does-small lines n asked m k (resumes tag of same) is = subst (AreSmall (n + 1)) (sym same) (record { few = let f = is.few in omega arith; issued = is.issued; read = is.read })

moved-small : (lines n : ℕ) (s : Step) (p : ℕ) (P Q : Spe) → Moved lines s p P Q → AreSmall n P.moves → AreSmall (n + 1) Q.moves
moved-small lines n s p P Q (executes of did) is = does-small lines n _ P.moves Q.moves did is
moved-small lines n s p P Q (copies c e k d of at has same) is = subst (AreSmall (n + 1)) (sym same) (record { few = let f = is.few in omega arith; issued = is.issued; read = is.read })
moved-small lines n s p P Q (reads c d x of at has got same) is = subst (AreSmall (n + 1)) (sym same) (record {
  few = let f = is.few in omega arith;
  issued = is.issued;
  read = all-snoc (λ r. IsSmallElement r.element) P.moves.read (record { cmd = c; element = x }) is.read (read-is lines P c d x got).0.size;
})
moved-small lines n s p P Q (refuses c of fault same) is = same-small n P.moves Q.moves same is
moved-small lines n s p P Q (retires c d of at left same) is = subst (AreSmall (n + 1)) (sym same) (record { few = let f = is.few in omega arith; issued = is.issued; read = is.read })
moved-small lines n s p P Q (locks of same) is = same-small n P.moves Q.moves same is
moved-small lines n s p P Q (acts of same) is = same-small n P.moves Q.moves same is

seen-small : (lines n : ℕ) (s : Step) (p : ℕ) (P Q : Spe) → Seen lines s p P Q → AreSmall n P.moves → AreSmall (n + 1) Q.moves
seen-small lines n s p P Q (another other same status reserved) is = same-small n P.moves Q.moves same is
seen-small lines n s p P Q (goes g) is = moved-small lines n s p P Q g.moved is

-- ---- a step of a command that has small elements

-- so are the elements of a command
small-if : (read : List ElementRead) (c : ℕ) (r : ElementRead) (b : Bool) → IsSmallElement r.element → AllByRecursion IsSmallElement (map (λ (x : ElementRead). x.element) (filter (λ x. x.cmd == c) read))
    → AllByRecursion IsSmallElement (map (λ (x : ElementRead). x.element) (cond b (r ∷ filter (λ x. x.cmd == c) read) (filter (λ x. x.cmd == c) read)))
small-if read c r true first rest = (first, rest)
small-if read c r false first rest = rest

small-read : (read : List ElementRead) (c : ℕ) → AllByRecursion (λ r. IsSmallElement r.element) read → AllByRecursion IsSmallElement (read_of read c)
unfolding read_of
small-read [] c all = tt
small-read (r ∷ read) c all = small-if read c r (r.cmd == c) all.0 (small-read read c all.1)

small-elements : (read : List ElementRead) (c : ℕ) (d : Command) (b : Bool) → IsSmall d → AllByRecursion (λ r. IsSmallElement r.element) read
    → AllByRecursion IsSmallElement (cond b (read_of read c) (whole d ∷ []))
small-elements read c d true small all = small-read read c all
small-elements read c d false small all = (small, tt)

small-last : (o : Option Element) (xs : List Element) (x : Element) → ((y : Element) → o ≡ Some y → IsSmallElement y) → AllByRecursion IsSmallElement xs → last_or o xs ≡ Some x → IsSmallElement x
small-last o [] x first all at = first x at
small-last o (y ∷ xs) x first all at = small-last (Some y) xs x (λ z e. let same : y ≡ z = cc in subst IsSmallElement same all.0) all.1 at

small-present : (n : ℕ) (m : Moves) (c : ℕ) (d : Command) (x : Element) → AreSmall n m → slice_get m.issued c ≡ Some d → present m.read c d ≡ Some x → IsSmallElement x
small-present n m c d x is at there =
    small-last None (elements_of m.read c d) x (λ y e. absurd (cc))
    (small-elements m.read c d (is_list d.kind) (all-get IsSmall m.issued c d is.issued at) is.read)
    (sym (present-last m.read c d) ∙ there)

few-elements : (d : Command) (b : Bool) → IsSmall d → cond b (d.size / 8) 1 ≤ 2048
few-elements d true small = omega (arith, small)
few-elements d false small = omega arith

few-parts : (ea size : ℕ) → size ≤ 16384 → parts_of ea size ≤ 129
few-parts ea size small = on (size == 0)
  where
    on : (b : Bool) → cond b 0 ((ea + size - 1) / 128 - ea / 128 + 1) ≤ 129
    on true = omega arith
    on false = omega (arith, small)

-- ---- runs

-- a processor that makes a step is there
own-there : (M N : State) (p : ℕ) (s : Step) → act_in M p s ≡ Some N → (P : Spe) × (slice_get M.spes p ≡ Some P)
own-there M N p s made = let first = some-of _ (slice_get M.spes p) N made in (first.0, first.1)

-- a state that a run comes to after n steps
record Comes (S : Opening) (steps : List Step) (M : State) : Type 0 where
  run : replay (opening S) steps ≡ Some M
  few : length M.spes ≤ 16
  small : (p : ℕ) (P : Spe) → slice_get M.spes p ≡ Some P → AreSmall (length steps) P.moves

maker-in : (S : Opening) (steps : List Step) (M : State) (p : ℕ) (P : Spe) → Comes S steps M → slice_get M.spes p ≡ Some P → p ≤ 15
maker-in S steps M p P is at = let low = get-within M.spes p P at in let few = is.few in omega (arith, low, few)

command-in : (S : Opening) (steps : List Step) (M : State) (p c : ℕ) (P : Spe) (d : Command) → Comes S steps M → length steps < 1000000 → slice_get M.spes p ≡ Some P → slice_get P.moves.issued c ≡ Some d → c ≤ 999999
command-in S steps M p c P d is room at there = let low = get-within P.moves.issued c d there in let few = (is.small p P at).few in omega (arith, low, few, room)

piece-is : (P : Spe) (c e k : ℕ) → may_piece P c e k ≡ true → (d : Command) × (slice_get P.moves.issued c ≡ Some d) × (has_part P.moves c e k d ≡ true)
unfolding may_piece
piece-is P c e k h = may-is P c (has_part P.moves c e k) h

elem-is : (P : Spe) (c : ℕ) → may_elem P c ≡ true → (d : Command) × (slice_get P.moves.issued c ≡ Some d) × (has_element P.moves c d ≡ true)
unfolding may_elem
elem-is P c h = may-is P c (has_element P.moves c) h

retire-is : (P : Spe) (c : ℕ) → may_retire P c ≡ true → (d : Command) × (slice_get P.moves.issued c ≡ Some d) × (is_left P.moves c d ≡ true)
unfolding may_retire
retire-is P c h = may-is P c (is_left P.moves c) h

piece-in : (S : Opening) (steps : List Step) (M : State) (p c e k : ℕ) (P : Spe) → Comes S steps M → length steps < 1000000 → slice_get M.spes p ≡ Some P → may_piece P c e k ≡ true → InBounds (Piece p c e k)
piece-in S steps M p c e k P is room at may =
    let d = piece-is P c e k may in
    let part = part-is P.moves c e k d.0 d.2 in
    let small = is.small p P at in
    let order = (run-follows S steps M p P is.run at).order.elements c d.0 d.1 in
    let last = last-number P.moves c d.0 part.element order part.there in
    let few = order.few in
    let most = few-elements d.0 (is_list d.0.kind) (all-get IsSmall P.moves.issued c d.0 small.issued d.1) in
    let parts = few-parts part.element.ea part.element.size (small-present (length steps) P.moves c d.0 part.element small d.1 part.there) in
    let number = part.number in
    let within = part.within in
    (maker-in S steps M p P is at, command-in S steps M p c P d.0 is room at d.1, omega (arith, last, few, most, number), omega (arith, parts, within))

step-in : (S : Opening) (steps : List Step) (M N : State) (s : Step) → Comes S steps M → length steps < 1000000 → next M s ≡ Some N → InBounds s
step-in S steps M N (Exec p) is room made = let a = next-act M (Exec p) N made in let P = own-there M a.0 p (Exec p) a.1 in maker-in S steps M p P.0 is P.1
step-in S steps M N (Atomic p) is room made = let a = next-act M (Atomic p) N made in let P = own-there M a.0 p (Atomic p) a.1 in maker-in S steps M p P.0 is P.1
step-in S steps M N (Elem p c) is room made =
    let a = next-act M (Elem p c) N made in
    let P = own-there M a.0 p (Elem p c) a.1 in
    let d = elem-is P.0 c (sym (next-elem M p c P.0 P.1) ∙ ap is_some made) in
    (maker-in S steps M p P.0 is P.1, command-in S steps M p c P.0 d.0 is room P.1 d.1)
step-in S steps M N (Retire p c) is room made =
    let a = next-act M (Retire p c) N made in
    let P = own-there M a.0 p (Retire p c) a.1 in
    let d = retire-is P.0 c (sym (next-retire M p c P.0 P.1) ∙ ap is_some made) in
    (maker-in S steps M p P.0 is P.1, command-in S steps M p c P.0 d.0 is room P.1 d.1)
step-in S steps M N (Piece p c e k) is room made =
    let a = next-act M (Piece p c e k) N made in
    let P = own-there M a.0 p (Piece p c e k) a.1 in
    piece-in S steps M p c e k P.0 is room P.1 (sym (next-piece M p c e k P.0 P.1) ∙ ap is_some made)
step-in S steps M N Host is room made = tt

-- a processor after a step is one from before it
small-after : (S : Opening) (steps : List Step) (M N : State) (s : Step) → Comes S steps M → next M s ≡ Some N → (p : ℕ) (Q : Spe) → slice_get N.spes p ≡ Some Q → AreSmall (length steps + 1) Q.moves
small-after S steps M N s is made p Q at =
    let a = next-act M s N made in
    let count : length N.spes ≡ length M.spes = ap length (sym a.2) ∙ act-length M s a.0 a.1 in
    let low = get-within N.spes p Q at in
    let was = get-there M.spes p (omega (arith, low, count)) in
    let k = act-seen M s a.0 p was.0 a.1 was.1 in
    let same : k.0 ≡ Q = same_got (slice_get N.spes p) k.0 Q (subst (λ xs. slice_get xs p ≡ Some k.0) a.2 k.1) at in
    seen-small (lines_of M.memory) (length steps) s p was.0 Q (subst (Seen (lines_of M.memory) s p was.0) same k.2) (is.small p was.0 was.1)

comes-next : (S : Opening) (steps : List Step) (M N : State) (s : Step) → Comes S steps M → next M s ≡ Some N → Comes S (steps ++ s ∷ []) N
comes-next S steps M N s is made =
    let a = next-act M s N made in
    let count : length N.spes ≡ length M.spes = ap length (sym a.2) ∙ act-length M s a.0 a.1 in
    let few = is.few in
    let longer : length (steps ++ s ∷ []) ≡ length steps + 1 = length-append steps (s ∷ []) in
    record {
      run = replay-snoc (opening S) steps s ∙ ap (option_and_then (λ K. next K s)) is.run ∙ made;
      few = omega (arith, count, few);
      small = λ p Q at. subst (λ n. AreSmall n Q.moves) (sym longer) (small-after S steps M N s is made p Q at);
    }

steps-in : (S : Opening) (before more : List Step) (M N : State) → Comes S before M → replay M more ≡ Some N → length before + length more ≤ 1000000 → AllByRecursion InBounds more
steps-in S before [] M N is run room = tt
steps-in S before (s ∷ more) M N is run room =
    let first = some-of (λ K. replay K more) (next M s) N run in
    let longer : length (before ++ s ∷ []) ≡ length before + 1 = length-append before (s ∷ []) in (
      step-in S before M first.0 s is (omega (arith, room)) first.1,
      steps-in S (before ++ s ∷ []) more first.0 N (comes-next S before M first.0 s is first.1) first.2 (omega (arith, room, longer)),
    )

opening-count : (S : Opening) → length (opening S).spes ≡ length S.entries
unfolding opening
opening-count S = length-enumerate (opening_spe S) 0 S.entries

comes-first : (S : Opening) → length S.entries ≤ 16 → Comes S [] (opening S)
comes-first S few = record {
  run = refl;
  few = let count = opening-count S in omega (arith, few, count);
  small = λ p P at. subst (AreSmall 0) (sym (opening-moves S p P at)) (record { few = omega arith; issued = tt; read = tt });
}

pub machine-recorded : (setup : Opening) (steps : List Step) (capacity : ℕ) (processors : List Processor) (memory : SharedMemory) (host : Progress) (m : Ran)
    → IsMachine setup steps capacity processors memory host → record { setup = setup; steps = steps } ≡ m → AreSteps m.steps
machine-recorded setup steps capacity processors memory host m is view =
    let within = is.within in
    let small = is.small in
    subst (λ (r : Ran). AreSteps r.steps) view
    (omega (arith, within, small), steps-in setup [] steps (opening setup) is.state (comes-first setup is.setup_is.spes) is.replayed (omega (arith, within, small)))
