-- The steps of a flow controller, as the code makes them.
use Rattle.std.proofs.Common.{◌≡◌, ℕ, suc, ◌+◌, ◌*◌, ◌<◌, ◌≤◌, ◌==◌, ◌&&◌, not, Bool, true, false, List, [], ◌∷◌, length, arith, refl, sym, ◌∙◌, ap, subst, true≢false}
use Rattle.std.specs.Prelude.{Option, Some, None, All, slice_get, cond, if◌then◌else◌, map, filter, Ok}
use Rattle.std.specs.List.{last_or}
use Rattle.mfc_command.specs.declared.command.Command.{Command}
use Rattle.mfc_command.specs.declared.command.Kind.{Kind}
use Rattle.mfc_command.specs.declared.command.Kind.TheVariants.{Put, Get, PutList, GetList, Barrier, PutQueued, Signal}
use Rattle.mfc_command.specs.declared.command.DmaFault.{DmaFault as Fault}
use Rattle.mfc_command.specs.Check.{KindFits, SignalFits, transfer_fault}
use Rattle.mfc_command.specs.Order.{is_list, is_barrier}
use Rattle.mfc_lists.specs.declared.Element.{Element}
use Rattle.mfc_lists.specs.Elements.{ElementFits, element_of, element_by, unless}
use Rattle.mfc_lists.specs.Readings.{next_at as next_of_reading, next_element as element_of_reading}
use Rattle.local_store.specs.Store.{word_at}
use Rattle.cell_machine.specs.Spe.{Spe, Moves, ElementRead, is_faulted}
use Rattle.cell_machine.specs.Moves.{read_of, present, whole, is_moved, is_stalled, parts_in, may_begin}
use Rattle.cell_machine.specs.Transfers.{begins, told, notified, moved, has_part, may_piece, is_signal, with_done, after_part, part_in, piece_of, piece, has_element, may_elem, next_at, next_element, after_element, elem, is_left, may_retire, with_retired, retire}
use Rattle.lock_lines.specs.Versions.{Reserved}
use Rattle.cell_machine.specs.Memory.{MainMemory}
use Rattle.cell_machine.specs.declared.memory.SharedMemory.{SharedMemory}
use Rattle.cell_machine.specs.declared.processor.Processor.{Processor}
use Rattle.cell_machine.specs.declared.signals.RemoteChange.{RemoteChange}
use Rattle.cell_machine.specs.Kept.{IsKept}
use Rattle.cell_machine.specs.MovesShown.{reading}
use Rattle.cell_machine.specs.Shows.{IsBounded, CanStep, CanGo, CanIssue, ShowsSpe, ShowsMemory, IsSignal, Makes, IsRemoteChange}
use Rattle.cell_machine.proofs.Same.{some_same}
use Rattle.cell_machine.proofs.SpeShown.{first_of_both, second_of_both, not_of, get-either, begins-at, begins-none, part-facts, present-plain}
use Rattle.cell_machine.proofs.MovesShown.{present-list}
use Rattle.cell_machine.proofs.ListsGo.{next-is}

-- ---- what may be done

pub begins-has : (m : Moves) (c : ℕ) (d : Command) (f : Command → Bool) → slice_get m.issued c ≡ Some d → begins m c f ≡ true → f d ≡ true
begins-has m c d f at h = first_of_both (f d) (may_begin m c) (sym (begins-at m c d f at) ∙ h)

pub piece-may : (P : Spe) (c e k : ℕ) → is_faulted P.status ≡ false → may_piece P c e k ≡ begins P.moves c (has_part P.moves c e k)
unfolding may_piece
piece-may P c e k sound = rw sound refl

pub elem-may : (P : Spe) (c : ℕ) → is_faulted P.status ≡ false → may_elem P c ≡ begins P.moves c (has_element P.moves c)
unfolding may_elem
elem-may P c sound = rw sound refl

pub retire-may : (P : Spe) (c : ℕ) → is_faulted P.status ≡ false → may_retire P c ≡ begins P.moves c (is_left P.moves c)
unfolding may_retire
retire-may P c sound = rw sound refl

pub elem-faulted : (P : Spe) (c : ℕ) → is_faulted P.status ≡ true → may_elem P c ≡ false
unfolding may_elem
elem-faulted P c h = rw h refl

pub retire-faulted : (P : Spe) (c : ℕ) → is_faulted P.status ≡ true → may_retire P c ≡ false
unfolding may_retire
retire-faulted P c h = rw h refl

pub piece-faulted : (P : Spe) (c e k : ℕ) → is_faulted P.status ≡ true → may_piece P c e k ≡ false
unfolding may_piece
piece-faulted P c e k h = rw h refl

pub piece-off : (memory : MainMemory) (P : Spe) (c e k : ℕ) → may_piece P c e k ≡ false → piece memory P c e k ≡ None
unfolding piece
piece-off memory P c e k h = rw h refl

pub elem-off : (lines : ℕ) (P : Spe) (c : ℕ) → may_elem P c ≡ false → elem lines P c ≡ None
unfolding elem
elem-off lines P c h = rw h refl

pub retire-off : (P : Spe) (c : ℕ) → may_retire P c ≡ false → retire P c ≡ None
unfolding retire
retire-off P c h = rw h refl

pub retire-on : (P : Spe) (c : ℕ) → may_retire P c ≡ true → retire P c ≡ Some (record P { moves = with_retired P.moves c })
unfolding retire
retire-on P c h = rw h refl

pub piece-on : (memory : MainMemory) (P : Spe) (c e k : ℕ) (d : Command) (x : Element) → may_piece P c e k ≡ true → slice_get P.moves.issued c ≡ Some d → present P.moves.read c d ≡ Some x
    → piece memory P c e k ≡ Some (piece_of memory P c k d x)
unfolding piece
piece-on memory P c e k d x h at p = rw (h, at) (rw p refl)

pub elem-on : (lines : ℕ) (P : Spe) (c : ℕ) (d : Command) → may_elem P c ≡ true → slice_get P.moves.issued c ≡ Some d → elem lines P c ≡ Some (after_element P c d (next_element lines P c d))
unfolding elem
elem-on lines P c d h at = rw (h, at) refl

-- ---- an element fits

all-read : (read : List ElementRead) (c : ℕ) (lines : ℕ) (o : Option Element) (x : Element) → All (λ (r : ElementRead). ElementFits lines r.element) read → ((y : Element) → o ≡ Some y → ElementFits lines y)
    → last_or o (map (λ (r : ElementRead). r.element) (filter (λ (r : ElementRead). r.cmd == c) read)) ≡ Some x → ElementFits lines x
all-read [] c lines o x all before h = before x h
all-read (r ∷ read) c lines o x all before h = on (r.cmd == c) h (λ p q. all-read read c lines p x (λ i d less. all (suc i) d (omega arith)) q)
  where
    on : (b : Bool) → last_or o (map (λ (s : ElementRead). s.element) (cond b (r ∷ filter (λ (s : ElementRead). s.cmd == c) read) (filter (λ (s : ElementRead). s.cmd == c) read))) ≡ Some x
        → ((p : Option Element) → ((y : Element) → p ≡ Some y → ElementFits lines y) → last_or p (map (λ (s : ElementRead). s.element) (filter (λ (s : ElementRead). s.cmd == c) read)) ≡ Some x → ElementFits lines x) → ElementFits lines x
    on true g rest = rest (Some r.element) (λ y e. let same : r.element ≡ y = cc in subst (ElementFits lines) same (all 0 r (omega arith))) g
    on false g rest = rest o before g

pub element-fits : (lines n : ℕ) (P : Spe) (c : ℕ) (d : Command) (x : Element) → IsBounded lines n P → slice_get P.moves.issued c ≡ Some d → is_moved d ≡ true → present P.moves.read c d ≡ Some x → ElementFits lines x
unfolding read_of
element-fits lines n P c d x bounded at moved p = by (is_list d.kind) refl
  where
    whole_fits : (k : Kind) → is_list k ≡ false → is_barrier k ≡ false → KindFits lines d k → ElementFits lines (whole d)
    whole_fits Put l b f = record { size = f.size; store = f.store; memory = f.memory }
    whole_fits Get l b f = record { size = f.size; store = f.store; memory = f.memory }
    whole_fits PutList l b f = absurd (true≢false l)
    whole_fits GetList l b f = absurd (true≢false l)
    whole_fits Barrier l b f = absurd (true≢false b)
    whole_fits PutQueued l b f = let g = f.fits in record { size = g.size; store = g.store; memory = g.memory }
    whole_fits Signal l b f =
        let four = f.size in
        let low = f.register in
        let some = bounded.some in
        record { size = (let e : d.size ≤ 16384 = omega arith in e); store = f.store; memory = (let e : d.ea + d.size ≤ 128 * lines = omega arith in e) }

    no_barrier : (b s : Bool) → (not b && s) ≡ true → b ≡ false
    no_barrier true s h = absurd (true≢false (sym h))
    no_barrier false s h = refl

    by : (b : Bool) → is_list d.kind ≡ b → ElementFits lines x
    by true list = all-read P.moves.read c lines None x bounded.elements (λ y e. absurd (cc)) (sym (present-list P.moves.read c d list) ∙ p)
    by false plain =
        let same : whole d ≡ x = some_is (whole d) x (sym (present-plain P.moves c d plain) ∙ p) in
        subst (ElementFits lines) same (whole_fits d.kind plain (no_barrier (is_barrier d.kind) (not (d.size == 0)) moved) (bounded.fits c d at))
      where
        some_is : (a b : Element) → Some a ≡ Some b → a ≡ b
        some_is a b h = cc

-- and a signal is one
pub element-signal : (lines n : ℕ) (P : Spe) (c : ℕ) (d : Command) (x : Element) → IsBounded lines n P → slice_get P.moves.issued c ≡ Some d → present P.moves.read c d ≡ Some x → is_signal d.kind ≡ true → IsSignal x
element-signal lines n P c d x bounded at p = on d.kind refl (bounded.fits c d at)
  where
    some_is : (a b : Element) → Some a ≡ Some b → a ≡ b
    some_is a b h = cc

    of_whole : SignalFits d → IsSignal (whole d)
    of_whole f = record { size = f.size; aligned = f.aligned; store = f.store; register = f.register }

    on : (k : Kind) → d.kind ≡ k → KindFits lines d k → is_signal k ≡ true → IsSignal x
    on Put e f h = absurd (true≢false (sym h))
    on Get e f h = absurd (true≢false (sym h))
    on PutList e f h = absurd (true≢false (sym h))
    on GetList e f h = absurd (true≢false (sym h))
    on Barrier e f h = absurd (true≢false (sym h))
    on PutQueued e f h = absurd (true≢false (sym h))
    on Signal e f h = subst IsSignal (some_is (whole d) x (sym (present-plain P.moves c d (ap is_list e)) ∙ p)) (of_whole f)

-- what a part that may be copied says
pub record CanCopy (lines : ℕ) (m : Moves) (c e k : ℕ) (d : Command) (x : Element) : Type 0 where
  pub has : has_part m c e k d ≡ true
  pub within : k < parts_in x
  pub number : x.number ≡ e
  pub fits : ElementFits lines x
  pub signal : is_signal d.kind ≡ true → IsSignal x

pub can-copy : (lines n : ℕ) (P : Spe) (c e k : ℕ) (d : Command) (x : Element) → IsBounded lines n P → slice_get P.moves.issued c ≡ Some d → begins P.moves c (has_part P.moves c e k) ≡ true
    → present P.moves.read c d ≡ Some x → CanCopy lines P.moves c e k d x
can-copy lines n P c e k d x bounded at begun p =
    let has = begins-has P.moves c d (has_part P.moves c e k) at begun in
    let f = part-facts P.moves c e k d has in
    let same : f.element ≡ x = some_same f.element x (sym f.present_is ∙ p) in
    record {
      has = has;
      within = subst (λ y. k < parts_in y) same f.within;
      number = subst (λ (y : Element). y.number ≡ e) same f.number;
      fits = element-fits lines n P c d x bounded at f.moved p;
      signal = element-signal lines n P c d x bounded at p;
    }

-- a processor that can make a step knows its queue
pub kept-of : (lines : ℕ) (c : Processor) → CanStep lines c → IsKept c.commands.queue
kept-of lines c can =
    let q = can.shows.queue in
    record { calls = q.calls; stands = q.stands; numbered = let e = ap length q.moves.done.issued in let few = can.bounded.few in omega arith }

pub can-kept : (processors : List Processor) (memory : SharedMemory) → CanGo processors memory → All (λ c. IsKept c.commands.queue) processors
can-kept processors memory can k d h = kept-of can.lines _ (can.each k d h)

pub can-lines : (lines n : ℕ) (c : Processor) → lines ≡ n → CanStep lines c → CanStep n c
can-lines lines n c same can = subst (λ k. CanStep k c) same can

pub issue-of : (lines : ℕ) (c : Processor) → CanStep lines c → CanIssue c.commands
issue-of lines c can = record { moves = can.spe.moves; shows = can.shows.queue; few = let few = can.bounded.few in omega arith }

-- ---- a stall is told

pub told-as : (P : Spe) (store : List ℕ) (m : Moves) (c : ℕ) (d : Command) (stalls : Bool) → stalls ≡ is_stalled m c d
    → (if stalls then told (record P { store = store; moves = m }) d.tag else record P { store = store; moves = m }) ≡ record (notified (record P { moves = m }) c d) { store = store }
told-as P store m c d stalls is = on (is_stalled m c d) refl is
  where
    on : (b : Bool) → is_stalled m c d ≡ b → stalls ≡ b → (if stalls then told (record P { store = store; moves = m }) d.tag else record P { store = store; moves = m }) ≡ record (notified (record P { moves = m }) c d) { store = store }
    on true e f = rw (e, f) refl
    on false e f = rw (e, f) refl

pub notified-store : (P : Spe) (m : Moves) (c : ℕ) (d : Command) → (notified (record P { moves = m }) c d).store ≡ P.store
notified-store P m c d = on (is_stalled m c d)
  where
    on : (b : Bool) → (if b then told (record P { moves = m }) d.tag else record P { moves = m }).store ≡ P.store
    on true = refl
    on false = refl

pub told-moves : (P : Spe) (m : Moves) (c : ℕ) (d : Command) (stalls : Bool) → stalls ≡ is_stalled m c d
    → (if stalls then told (record P { moves = m }) d.tag else record P { moves = m }) ≡ notified (record P { moves = m }) c d
told-moves P m c d stalls is = rw is refl

-- what a piece that is moved, marked and told leaves
pub piece-made : (new : Processor) (P : Spe) (memory : SharedMemory) (m : MainMemory) (reserved : List (Option Reserved)) (store store2 : List ℕ) (c e k : ℕ) (stalls : Bool) (d : Command) (x : Element) (r : RemoteChange) → may_piece P c e k ≡ true → slice_get P.moves.issued c ≡ Some d → present P.moves.read c d ≡ Some x
    → x.number ≡ e → P.store ≡ store → stalls ≡ is_stalled (with_done P.moves c e k) c d
    → ((Q : Spe) → Q.store ≡ store → (moved m Q d.kind (part_in x k)).spe ≡ record Q { store = store2 })
    → ((Q : Spe) → Q.store ≡ store → ShowsMemory memory (moved m Q d.kind (part_in x k)).memory reserved)
    → ((Q : Spe) → Q.store ≡ store → IsRemoteChange r m reserved (moved m Q d.kind (part_in x k)))
    → ShowsSpe new (if stalls then told (record P { store = store2; moves = with_done P.moves c e k }) d.tag else record P { store = store2; moves = with_done P.moves c e k })
    → Makes (Some r) (piece m P c e k) (λ z y. ShowsSpe new y.spe × ShowsMemory memory y.memory reserved × IsRemoteChange z m reserved y)
piece-made new P memory m reserved store store2 c e k stalls d x r may at p number same stalled stores copies reaches shows =
    let Q : Spe = after_part P c e k d in
    let was : Q.store ≡ store = notified-store P (with_done P.moves c e k) c d ∙ same in
    let left : piece_of m P c k d x ≡ moved m Q d.kind (part_in x k) = ap (λ n. moved m (after_part P c n k d) d.kind (part_in x k)) number in
    let spe : ShowsSpe new (moved m Q d.kind (part_in x k)).spe =
    subst (ShowsSpe new) (told-as P store2 (with_done P.moves c e k) c d stalls stalled ∙ sym (stores Q was)) shows in
    rw (piece-on m P c e k d x may at p ∙ ap (λ y. Some y) left) (spe, copies Q was, reaches Q was)

-- a command that may be retired isn't moved
pub retire-facts : (P : Spe) (c : ℕ) → may_retire P c ≡ true → (d : Command) × (slice_get P.moves.issued c ≡ Some d) × (is_moved d ≡ false)
unfolding may_retire
retire-facts P c h =
    let begun : begins P.moves c (is_left P.moves c) ≡ true = second_of_both (not (is_faulted P.status)) (begins P.moves c (is_left P.moves c)) h in
    get-either P.moves.issued c _ (λ none. absurd (true≢false (sym begun ∙ begins-none P.moves c (is_left P.moves c) none)))
    (λ d at. (d, at, not_of (is_moved d) (first_of_both (not (is_moved d)) _ (begins-has P.moves c d (is_left P.moves c) at begun))))

pub part-number : (m : Moves) (c e k : ℕ) (d : Command) (x : Element) → has_part m c e k d ≡ true → present m.read c d ≡ Some x → x.number ≡ e
part-number m c e k d x has p =
    let f = part-facts m c e k d has in
    subst (λ (y : Element). y.number ≡ e) (some_same f.element x (sym f.present_is ∙ p)) f.number

pub part-inside : (m : Moves) (c e k : ℕ) (d : Command) (x : Element) → has_part m c e k d ≡ true → present m.read c d ≡ Some x → k < parts_in x
part-inside m c e k d x has p =
    let f = part-facts m c e k d has in
    subst (λ y. k < parts_in y) (some_same f.element x (sym f.present_is ∙ p)) f.within

-- ---- an element is read

pub elem-facts : (m : Moves) (c : ℕ) → begins m c (has_element m c) ≡ true → (d : Command) × (slice_get m.issued c ≡ Some d) × (has_element m c d ≡ true)
elem-facts m c begun =
    get-either m.issued c _ (λ none. absurd (true≢false (sym begun ∙ begins-none m c (has_element m c) none))) (λ d at. (d, at, begins-has m c d (has_element m c) at begun))

-- the words that the code reads are those of the next element
pub element-words : (lines : ℕ) (P : Spe) (c at w0 w1 : ℕ) (store : List ℕ) (d : Command) → P.store ≡ store → next_of_reading (reading P.moves c d) ≡ Some at → w0 ≡ word_at store at → w1 ≡ word_at store (at + 4)
    → element_of_reading (reading P.moves c d) lines w0 w1 ≡ next_element lines P c d
element-words lines P c at w0 w1 store d same next first second =
    let is : at ≡ next_at P.moves c d = next-is P.moves c at d next in
    let a : w0 ≡ word_at P.store (next_at P.moves c d) = first ∙ ap (λ s. word_at s at) (sym same) ∙ ap (word_at P.store) is in
    let b : w1 ≡ word_at P.store (next_at P.moves c d + 4) = second ∙ ap (λ s. word_at s (at + 4)) (sym same) ∙ ap (λ n. word_at P.store (n + 4)) is in
    ap (λ w. element_of_reading (reading P.moves c d) lines w w1) a ∙ ap (λ w. element_of d.ls (read_of P.moves.read c) lines (word_at P.store (next_at P.moves c d)) w) b

pub element-number : (ls : ℕ) (before : List Element) (lines w0 w1 : ℕ) (x : Element) → element_of ls before lines w0 w1 ≡ Ok x → x.number ≡ length before
unfolding element_of
element-number ls before lines w0 w1 x h = on (transfer_fault (element_by ls before w0 w1).ls (element_by ls before w0 w1).ea (element_by ls before w0 w1).size lines) h
  where
    on : (o : Option Fault) → unless o (element_by ls before w0 w1) ≡ Ok x → x.number ≡ length before
    on (Some kind) g = absurd (cc)
    on None g = let same : element_by ls before w0 w1 ≡ x = cc in ap (λ (y : Element). y.number) (sym same)
