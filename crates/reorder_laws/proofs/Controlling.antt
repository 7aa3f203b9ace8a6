-- What a step of a flow controller looks at and changes.
use Rattle.std.proofs.Common.{◌≡◌, ℕ, zero, suc, ◌+◌, ◌*◌, ◌<◌, refl, sym, ◌∙◌, ap, ap₂, List, [], ◌∷◌, ◌++◌, length, true≢false}
use Rattle.std.specs.Prelude.{Option, Some, None, is_some, slice_get, option_map, option_and_then, Bool, true, false, cond, not, ◌&&◌, ◌||◌, ◌==◌, nat_lt, filter, Result, Ok, Err}
use Rattle.std.specs.Option.{option_map_or}
use Rattle.std.specs.List.{list_any, list_all, range_with_len}
use mathlib.Core.Path.{fun_ext}
use Rattle.local_store.specs.Store.{word_at}
use Rattle.lock_lines.specs.Versions.{Reserved, version_of, is_current}
use Rattle.mfc_command.specs.declared.command.Command.{Command}
use Rattle.mfc_command.specs.declared.command.AtomicOp.{AtomicOp}
use Rattle.mfc_command.specs.declared.command.Kind.{Kind}
use Rattle.mfc_command.specs.declared.command.Kind.TheVariants.{Put as PutKind, Get, PutList, GetList, Barrier, PutQueued, Signal}
use Rattle.mfc_command.specs.declared.command.DmaFault.{DmaFault as Fault}
use Rattle.mfc_command.specs.declared.range.Part.{Part}
use Rattle.mfc_command.specs.Order.{goes_before, precedes, may_start, outstanding as outstanding_of, is_list}
use Rattle.mfc_lists.specs.declared.Element.{Element}
use Rattle.mfc_lists.specs.Elements.{element_of}
use Rattle.cell_machine.specs.Spe.{Spe, Moves, is_faulted}
use Rattle.cell_machine.specs.Memory.{MainMemory}
use Rattle.cell_machine.specs.Moves.{is_moved, elements_in, elements_of, present, parts_in, is_done, is_finished, is_stalled, is_at_rest, is_complete, may_begin}
use Rattle.cell_machine.specs.Transfers.{begins, may_of, piece, piece_of, elem, retire, may_piece, may_elem, may_retire, is_part_left, has_part, has_element, is_left, after_element, next_element, notified, told, is_put, is_signal, delivery, part_in, copied, sent, moved as moved_part, with_done, with_read}
use Rattle.cell_machine.specs.Atomic.{Fate, Got, Stored, Lost, atomic, may_atomic, after_atomic, answered, moved, fate, holds, fate_of, status_of, reserved_after}
use Rattle.cell_machine.proofs.Same.{SameOf, same-present, same-stall, same-complete_as, done-more, read-more, some_same, eq_is, lt_is, elements_by, ended, complete-at, complete-none}
use Rattle.cell_machine.proofs.Staying.{both}
use Rattle.cell_machine.proofs.StepBytes.{none_is}
use Rattle.cell_machine.proofs.Completion.{begun}
use Rattle.reorder_laws.specs.Controllers.{moved_on, store_after, memory_after, part_left, PieceLeaves, PieceMade, element_left, ElemLeaves, ElemMade, RetireLeaves, RetireMade, line_left, AtomicLeaves, AtomicMade, SameCommand, SeesCommand, CommandsAllowed, BeginsBehind, BegunBehind, GoesAlike, AtomicsAllowed}

-- ---- what is left

notified_on : (P : Spe) (c : ℕ) (d : Command) → notified P c d ≡ moved_on P P.moves c d
notified_on P c d = on (is_stalled P.moves c d)
  where
    on : (b : Bool) → cond b (told P d.tag) P ≡ record P { channels = record P.channels { stalls = cond b (told P d.tag).channels.stalls P.channels.stalls } }
    on true = refl
    on false = refl

moved_is : (memory : MainMemory) (P : Spe) (kind : Kind) (x : Part)
    → moved_part memory P kind x ≡ record { spe = record P { store = store_after memory P kind x }; memory = memory_after memory P (is_put kind) x; sent = cond (is_signal kind) (Some (delivery P x)) None }
unfolding copied sent
moved_is memory P PutKind x = refl
moved_is memory P Get x = refl
moved_is memory P PutList x = refl
moved_is memory P GetList x = refl
moved_is memory P Barrier x = refl
moved_is memory P PutQueued x = refl
moved_is memory P Signal x = refl

pub piece_is : (memory : MainMemory) (P : Spe) (c k : ℕ) (d : Command) (x : Element) → piece_of memory P c k d x ≡ part_left memory P c k d x
piece_is memory P c k d x =
    ap (λ (Q : Spe). moved_part memory Q d.kind (part_in x k)) (notified_on (record P { moves = with_done P.moves c x.number k }) c d)
    ∙ moved_is memory (moved_on P (with_done P.moves c x.number k) c d) d.kind (part_in x k)

if_some : {X : Type 0} (b : Bool) (o : Option X) (x : X) → cond b o None ≡ Some x → (b ≡ true) × (o ≡ Some x)
if_some true o x h = (refl, h)
if_some false o x h = none_is _ x h

then_some : {X Y : Type 0} (f : X → Option Y) (o : Option X) (y : Y) → option_and_then f o ≡ Some y → (x : X) × (o ≡ Some x) × (f x ≡ Some y)
then_some f None y h = none_is _ y h
then_some f (Some x) y h = (x, refl, h)

map_some : {X Y : Type 0} (f : X → Y) (o : Option X) (y : Y) → option_map f o ≡ Some y → (x : X) × (o ≡ Some x) × (f x ≡ y)
map_some f None y h = none_is _ y h
map_some f (Some x) y h = (x, refl, some_same (f x) y h)

-- a piece is of the present element
of_present : (m : Moves) (c e k : ℕ) (d : Command) (x : Element) → has_part m c e k d ≡ true → present m.read c d ≡ Some x → x.number ≡ e
of_present m c e k d x h at =
    let r = (both (is_moved d) _ h).1 in
    let s : is_part_left m.done c e k x ≡ true = sym (ap (λ o. option_map_or (is_part_left m.done c e k) o false) at) ∙ r in
    eq_is x.number e (both (x.number == e) (nat_lt k (parts_in x)) (both (x.number == e && nat_lt k (parts_in x)) (not (is_done m.done c e k)) s).0).0

of_begins : (m : Moves) (c : ℕ) (f : Command → Bool) (d : Command) → begins m c f ≡ true → slice_get m.issued c ≡ Some d → f d ≡ true
of_begins m c f d h at = sym (ap (λ o. option_map_or f o false) at) ∙ (both (option_map_or f (slice_get m.issued c) false) (may_begin m c) h).0

pub piece_number : (P : Spe) (c e k : ℕ) (d : Command) (x : Element) → may_piece P c e k ≡ true → slice_get P.moves.issued c ≡ Some d → present P.moves.read c d ≡ Some x → x.number ≡ e
unfolding may_piece
piece_number P c e k d x may at there =
    of_present P.moves c e k d x (of_begins P.moves c (has_part P.moves c e k) d (both (not (is_faulted P.status)) (begins P.moves c (has_part P.moves c e k)) may).1 at) there

pub piece-leaves : PieceLeaves
unfolding piece
piece-leaves memory P c e k x is =
    let r = if_some (may_piece P c e k) _ x is in
    let s = then_some _ (slice_get P.moves.issued c) x r.1 in
    let t = map_some (piece_of memory P c k s.0) (present P.moves.read c s.0) x s.2 in
    record {
      may = r.0;
      command = s.0;
      at = s.1;
      element = t.0;
      present_is = t.1;
      number = piece_number P c e k s.0 t.0 r.0 s.1 t.1;
      is = sym t.2 ∙ piece_is memory P c k s.0 t.0;
    }

pub piece-made : PieceMade
unfolding piece
piece-made memory P c e k d x may at there = rw (may, at, there) (ap Some (piece_is memory P c k d x))

pub element_is : (P : Spe) (c : ℕ) (d : Command) (r : Result Element Fault) → after_element P c d r ≡ element_left P c d r
element_is P c d (Ok x) = notified_on (record P { moves = with_read P.moves c x }) c d
element_is P c d (Err kind) = refl

pub elem-leaves : ElemLeaves
unfolding elem
elem-leaves lines P c Q is =
    let r = if_some (may_elem P c) _ Q is in
    let s = map_some _ (slice_get P.moves.issued c) Q r.1 in
    record { may = r.0; command = s.0; at = s.1; is = sym s.2 ∙ element_is P c s.0 (next_element lines P c s.0) }

pub elem-made : ElemMade
unfolding elem
elem-made lines P c d may at = rw (may, at) (ap Some (element_is P c d (next_element lines P c d)))

pub retire-leaves : RetireLeaves
unfolding retire
retire-leaves P c Q is = let r = if_some (may_retire P c) _ Q is in (r.0, sym (some_same _ Q r.1))

pub retire-made : RetireMade
unfolding retire
retire-made P c may = rw may refl

pub line_is : (memory : MainMemory) (P : Spe) (a : AtomicOp) (f : Fate) → moved memory (answered memory P a) a f ≡ line_left memory P a f
unfolding copied
line_is memory P a Got = refl
line_is memory P a Stored = refl
line_is memory P a Lost = refl

pub atomic-leaves : AtomicLeaves
unfolding atomic
atomic-leaves memory P x is =
    let r = if_some (may_atomic P) _ x is in
    let s = map_some (after_atomic memory P) P.channels.slot x r.1 in
    record { may = r.0; command = s.0; slot = s.1; is = sym s.2 ∙ line_is memory P s.0 (fate memory P s.0) }

pub atomic-made : AtomicMade
unfolding atomic
atomic-made memory P a may at = rw (may, at) (ap Some (line_is memory P a (fate memory P a)))

-- ---- what is looked at

same_of : (m n : Moves) (c : ℕ) → SameCommand m n c → SameOf m n c
same_of m n c s = record { read = s.read; done = s.done; retired = s.retired; resumed = s.resumed }

same_done : (m n : Moves) (c e k : ℕ) → SameOf m n c → SameOf (with_done m c e k) (with_done n c e k) c
same_done m n c e k s = record {
  read = s.read;
  done = fun_ext (λ e2. fun_ext (λ k2. done-more n c e k c e2 k2 ∙ ap (λ f. f e2 k2 || (c == c && e == e2 && k == k2)) s.done ∙ sym (done-more m c e k c e2 k2)));
  retired = s.retired;
  resumed = s.resumed;
}

same_read : (m n : Moves) (c : ℕ) (x : Element) → SameOf m n c → SameOf (with_read m c x) (with_read n c x) c
same_read m n c x s = record {
  read = read-more n c x ∙ ap (λ xs. xs ++ x ∷ []) s.read ∙ sym (read-more m c x);
  done = s.done;
  retired = s.retired;
  resumed = s.resumed;
}

same_stalled : (m n : Moves) (c : ℕ) (d : Command) → SameOf m n c → is_stalled n c d ≡ is_stalled m c d
same_stalled m n c d s = ap is_some (same-stall m n c d s)

same_part : (m n : Moves) (c e k : ℕ) (d : Command) → SameOf m n c → has_part n c e k d ≡ has_part m c e k d
same_part m n c e k d s =
    ap₂ (λ f o. is_moved d && option_map_or (λ x. x.number == e && nat_lt k (parts_in x) && not (f e k)) o false) s.done (same-present m n c d s)

same_rest : (m n : Moves) (c : ℕ) (d : Command) → SameOf m n c → is_at_rest n c d ≡ is_at_rest m c d
unfolding is_finished
same_rest m n c d s =
    ap₂ (λ f xs. list_all (ended f) (elements_by d xs) && not (is_stalled n c d)) s.done s.read
    ∙ ap (λ b. list_all (ended (is_done m.done c)) (elements_of m.read c d) && not b) (same_stalled m n c d s)

same_element : (m n : Moves) (c : ℕ) (d : Command) → SameOf m n c → has_element n c d ≡ has_element m c d
same_element m n c d s =
    ap₂ (λ xs b. is_list d.kind && not (length (elements_by d xs) == elements_in d) && b) s.read (same_rest m n c d s)

same_left : (m n : Moves) (c : ℕ) (d : Command) → SameOf m n c → is_left n c d ≡ is_left m c d
same_left m n c d s = ap (λ b. not (is_moved d) && not b) s.retired

may_again : (P Q : Spe) (c : ℕ) (f g : Command → Bool) → SeesCommand P Q c → ((d : Command) → g d ≡ f d) → may_of P c f ≡ true → may_of Q c g ≡ true
may_again P Q c f g sees same may =
    let begins_is = (both (not (is_faulted P.status)) (begins P.moves c f) may).1 in
    let passes = (both (option_map_or f (slice_get P.moves.issued c) false) (may_begin P.moves c) begins_is).0 in
    let e : option_map_or g (slice_get Q.moves.issued c) false ≡ true =
    ap (λ o. option_map_or g o false) sees.same.issued ∙ ap (λ h. option_map_or h (slice_get P.moves.issued c) false) (fun_ext same) ∙ passes in
    rw (sees.sound, e, sees.begins) refl

sees_complete : (m n : Moves) (c : ℕ) → SameCommand m n c → is_complete n c ≡ is_complete m c
sees_complete m n c s = on (slice_get m.issued c) refl
  where
    on : (o : Option Command) → slice_get m.issued c ≡ o → is_complete n c ≡ is_complete m c
    on None at = complete-none n c (s.issued ∙ at) ∙ sym (complete-none m c at)
    on (Some d) at = complete-at n c d (s.issued ∙ at) ∙ same-complete_as m n c d (same_of m n c s) ∙ sym (complete-at m c d at)

pub commands-allowed : CommandsAllowed
unfolding may_piece may_elem may_retire
commands-allowed P Q c sees =
    let s = same_of P.moves Q.moves c sees.same in
    record {
      piece = λ e k may. may_again P Q c (has_part P.moves c e k) (has_part Q.moves c e k) sees (λ d. same_part P.moves Q.moves c e k d s) may;
      elem = λ may. may_again P Q c (has_element P.moves c) (has_element Q.moves c) sees (λ d. same_element P.moves Q.moves c d s) may;
      retire = λ may. may_again P Q c (is_left P.moves c) (is_left Q.moves c) sees (λ d. same_left P.moves Q.moves c d s) may;
      present_is = λ d. same-present P.moves Q.moves c d s;
      stalled = λ d. same_stalled P.moves Q.moves c d s;
      stalled_piece = λ e k d. same_stalled (with_done P.moves c e k) (with_done Q.moves c e k) c d (same_done P.moves Q.moves c e k s);
      stalled_elem = λ x d. same_stalled (with_read P.moves c x) (with_read Q.moves c x) c d (same_read P.moves Q.moves c x s);
      complete = sees_complete P.moves Q.moves c sees.same;
      element = λ lines d h. ap₂ (λ xs store. element_of d.ls xs lines (word_at store (d.ea + 8 * length xs)) (word_at store (d.ea + 8 * length xs + 4))) s.read h;
    }

-- ---- the order of commands

not_is : (b : Bool) → not b ≡ true → b ≡ false
not_is true h = absurd (true≢false (sym h))
not_is false h = refl

or_none : (a b : Bool) → a ≡ false → b ≡ false → (a || b) ≡ false
or_none a b g h = rw (g, h) refl

-- none of those that pass t has p, where p is of those alone that don't pass
none_has : (t p : ℕ → Bool) (lo n : ℕ) → ((b : ℕ) → p b ≡ true → t b ≡ false) → list_any p (filter t (range_with_len lo n)) ≡ false
none_has t p lo zero h = refl
none_has t p lo (suc n) h = on (none_has t p (lo + 1) n h) (t lo) refl (p lo) refl
  where
    on : list_any p (filter t (range_with_len (lo + 1) n)) ≡ false → (x : Bool) → t lo ≡ x → (y : Bool) → p lo ≡ y → list_any p (cond x (lo ∷ filter t (range_with_len (lo + 1) n)) (filter t (range_with_len (lo + 1) n))) ≡ false
    on rest true e true f = absurd (true≢false (sym e ∙ h lo f))
    on rest true e false f = or_none (p lo) _ f rest
    on rest false e y f = rest

goes_lower : (issued : List Command) (b c : ℕ) → goes_before issued b c ≡ true → b < c
unfolding goes_before
goes_lower issued b c h = lt_is b c (both (nat_lt b c) _ h).0

pub begins-behind : BeginsBehind
unfolding may_start outstanding_of
begins-behind m c h =
    ap not (none_has (λ b. not (is_complete m b)) (λ b. goes_before m.issued b c) 0 (length m.issued) (λ b g. ap not (h b (goes_lower m.issued b c g) g)))

pub begun-behind : BegunBehind
begun-behind P b c may before = begun P b c may before

pub goes-alike : GoesAlike
unfolding goes_before
goes-alike issued later b c first second = ap₂ (λ o u. nat_lt b c && option_map_or (λ first. option_map_or (λ second. precedes first second) u false) o false) first second

-- ---- an atomic command

holds_is : (memory other : MainMemory) (P Q : Spe) (line : ℕ) → Q.reserved ≡ P.reserved → version_of other.versions line ≡ version_of memory.versions line → holds other Q line ≡ holds memory P line
holds_is memory other P Q line same version =
    ap (λ r. option_map_or (is_current other.versions line) r false) same
    ∙ ap (λ v. option_map_or (λ (r : Reserved). r.line == line && r.version == v) P.reserved false) version

pub atomics-allowed : AtomicsAllowed
unfolding may_atomic
atomics-allowed memory other P Q sees =
    let held : (a : AtomicOp) → P.channels.slot ≡ Some a → holds other Q a.line ≡ holds memory P a.line = λ a at. holds_is memory other P Q a.line sees.reserved (sees.version a at) in
    record {
      may = λ may. let there = (both (not (is_faulted P.status)) (is_some P.channels.slot) may).1 in ap₂ (λ x o. not x && is_some o) sees.sound sees.slot ∙ there;
      fate_is = λ a at. ap (fate_of a.kind) (held a at);
      status = λ a at. ap (λ b. Some (status_of a.kind b)) (held a at);
      reserved = λ a at. ap₂ (λ v was. reserved_after a.kind (record { line = a.line; version = v }) was) (sees.version a at) sees.reserved;
    }
