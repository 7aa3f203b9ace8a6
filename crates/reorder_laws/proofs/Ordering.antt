-- The ordered pairs of a run, said by its states.
use Rattle.std.proofs.Common.{◌≡◌, ◌≢◌, ℕ, zero, suc, ◌+◌, ◌-◌, ◌<◌, ◌≤◌, refl, sym, ◌∙◌, ap, ap₂, subst, arith, List, [], ◌∷◌, length, take, true≢false, ◌⊎◌, inl, inr, length-append, length-take}
use Rattle.std.proofs.lemmas.Bool.{cases_eq}
use Rattle.std.specs.Prelude.{Option, Some, None, slice_get, option_map, Bool, true, false, cond, ◌&&◌, ◌==◌}
use Rattle.std.specs.Option.{option_map_or, option_and_then}
use Rattle.std.proofs.lemmas.List.{take-take}
use Rattle.std.proofs.lemmas.Option.{slice_get_within}
use Rattle.cell_base.specs.declared.steps.Step.{Step}
use Rattle.cell_base.specs.declared.steps.Step.TheVariants.{Exec, Piece, Elem, Retire, Atomic, Host}
use Rattle.mfc_command.specs.declared.command.Command.{Command}
use Rattle.mfc_command.specs.Order.{is_list, goes_before, precedes}
use Rattle.mfc_lists.specs.declared.Element.{Element}
use Rattle.cell_machine.specs.declared.effect.Note.{Note}
use Rattle.cell_machine.specs.declared.effect.Note.TheVariants.{Nothing, Issue, AtomicIssue, TagRead, StallRead, Ack, AtomicRead, Put, Take, Ended, Awaited, Element as Reading, Signal}
use Rattle.cell_machine.specs.Spe.{Spe, Moves, is_faulted}
use Rattle.cell_machine.specs.State.{State}
use Rattle.cell_machine.specs.Memory.{MainMemory}
use Rattle.cell_machine.specs.Moves.{read_of, is_stalled, present, elements_of}
use Rattle.cell_machine.specs.Transfers.{with_read}
use Rattle.cell_machine.specs.Next.{next}
use Rattle.cell_machine.specs.Opening.{opening}
use Rattle.cell_machine.specs.Order.{is_step_of}
use Rattle.cell_machine.specs.Run.{Ran}
use Rattle.cell_machine.specs.Traces.{Event, event, trace_from}
use Rattle.cell_machine.specs.EffectLaws.{maker}
use Rattle.cell_machine.proofs.Same.{some_same, eq_same, eq_is, lt_is, read-more}
use Rattle.cell_machine.proofs.Staying.{both, get_more}
use Rattle.cell_machine.proofs.StepBytes.{none_is}
use Rattle.cell_machine.proofs.Elements.{element-is, list-elements, last-number}
use Rattle.cell_machine.proofs.ListOrder.{run-follows}
use Rattle.cell_machine.proofs.CommandsShown.{plain-unstalled}
use Rattle.race_order.specs.Trace.{Trace, IsStep, Notes, IsStepOf, is_of, is_put, is_take, puts, takes, mailbox_size, PutsNth, TakesNth}
use Rattle.race_order.specs.Queue.{Has, Before, ReadsElement, IsStepOfElement, Resumes}
use Rattle.race_order.specs.Rules.{Program, Script, Issued, AtomicIssued, NextAtomic, AtomicSeen, Passed, PlaceFree, Finished, Ordered, One, Then, Rule as RuleByTrace}
use Rattle.race_order.specs.StatusRules.{Queue, ElementPiece, NextElement, StallSeen, Resumed, ResumedEarlier, TagSeen, Rule}
use Rattle.race_order.specs.Stages.{KeepsStatus, progress_of}
use Rattle.race_order.specs.Orderly.{MayCome}
use Rattle.race_order.specs.RunLaws.{count_of as count_of_run}
use Rattle.race_order.specs.Told.{trace_in}
use Rattle.race_order.proofs.Runs.{keeps-status, is-orderly}
use Rattle.race_order.proofs.CountedRules.{ordered_from}
use Rattle.race_order.proofs.Places.{get_take, take_step}
use Rattle.race_order.proofs.Counts.{count_more}
use Rattle.reorder_laws.specs.Happens.{Happens, Passes, Executes, Copies, Reads, Faults, Retires, Answers, Hosts, HostPasses}
use Rattle.reorder_laws.specs.Recorded.{Recorded, IsRecorded, spe_before, count_of, is_put_note, is_take_note, is_elem, is_stalled_number, taken_values}
use Rattle.reorder_laws.specs.Frames.{IsFaultless, HasFrames}
use Rattle.reorder_laws.specs.OrderLaws.{puts_before, IsOfElement, Orders, OrdersElements}
use Rattle.reorder_laws.specs.OrderedLaws.{IsOrdered, IsRecordOf, RunsOrder, BoxesFit, RunsFit, AtomicsTaken}
use Rattle.reorder_laws.proofs.Frames.{runs-have_frames, spe-at, happens-at, maker-low, step_own, step_made_by}

-- ---- the trace of a part of a run

trace_taken : (M : State) (steps : List Step) (trace : List Event) (j : ℕ) → trace_from M steps ≡ Some trace → trace_from M (take j steps) ≡ Some (take j trace)
trace_taken M steps trace zero h = refl
trace_taken M [] trace (suc j) h = let e : [] ≡ trace = cc in ap (λ t. Some (take (suc j) t)) e
trace_taken M (s ∷ steps) trace (suc j) h = on (event M s) refl h (λ N x i. trace_taken N steps x j i)
  where
    more : (N : State) (e : Event) (o : Option (List Event)) → trace_from N steps ≡ o → option_map (λ events. e ∷ events) o ≡ Some trace → ((x : List Event) → trace_from N steps ≡ Some x → trace_from N (take j steps) ≡ Some (take j x))
        → option_map (λ events. e ∷ events) (trace_from N (take j steps)) ≡ Some (take (suc j) trace)
    more N e None at g later = none_is _ trace g
    more N e (Some x) at g later = ap (option_map (λ events. e ∷ events)) (later x at) ∙ ap (λ t. Some (take (suc j) t)) (some_same (e ∷ x) trace g)

    by : (e : Event) (o : Option State) → next M s ≡ o → option_and_then (λ N. option_map (λ events. e ∷ events) (trace_from N steps)) o ≡ Some trace
        → ((N : State) (x : List Event) → trace_from N steps ≡ Some x → trace_from N (take j steps) ≡ Some (take j x))
        → option_and_then (λ N. option_map (λ events. e ∷ events) (trace_from N (take j steps))) o ≡ Some (take (suc j) trace)
    by e None at g later = none_is _ trace g
    by e (Some N) at g later = more N e (trace_from N steps) refl g (later N)

    on : (o : Option Event) → event M s ≡ o → option_and_then (λ e. option_and_then (λ N. option_map (λ events. e ∷ events) (trace_from N steps)) (next M s)) o ≡ Some trace
        → ((N : State) (x : List Event) → trace_from N steps ≡ Some x → trace_from N (take j steps) ≡ Some (take j x))
        → option_and_then (λ e. option_and_then (λ N. option_map (λ events. e ∷ events) (trace_from N (take j steps))) (next M s)) o ≡ Some (take (suc j) trace)
    on None at g later = none_is _ trace g
    on (Some e) at g later = by e (next M s) refl g later

-- ---- notes and steps

put_same : (q m : ℕ) (n : Note) → is_put q m n ≡ is_put_note q m n
put_same q m Nothing = refl
put_same q m (Issue c d) = refl
put_same q m AtomicIssue = refl
put_same q m (TagRead g i) = refl
put_same q m (StallRead g) = refl
put_same q m (Ack t) = refl
put_same q m AtomicRead = refl
put_same q m (Put x y) = refl
put_same q m (Take x y) = refl
put_same q m Ended = refl
put_same q m (Awaited x) = refl
put_same q m (Signal x y) = refl
put_same q m (Reading n k f) = refl

take_same : (q m : ℕ) (n : Note) → is_take q m n ≡ is_take_note q m n
take_same q m Nothing = refl
take_same q m (Issue c d) = refl
take_same q m AtomicIssue = refl
take_same q m (TagRead g i) = refl
take_same q m (StallRead g) = refl
take_same q m (Ack t) = refl
take_same q m AtomicRead = refl
take_same q m (Put x y) = refl
take_same q m (Take x y) = refl
take_same q m Ended = refl
take_same q m (Awaited x) = refl
take_same q m (Signal x y) = refl
take_same q m (Reading n k f) = refl

of_same : (p c : ℕ) (s : Step) → is_of p c s ≡ is_step_of p c s
of_same p c (Exec q) = refl
of_same p c (Piece q d e k) = refl
of_same p c (Elem q d) = refl
of_same p c (Retire q d) = refl
of_same p c (Atomic q) = refl
of_same p c Host = refl

-- ---- the order of commands

goes_is : (issued : List Command) (c d : ℕ) → goes_before issued c d ≡ true
    → (c < d) × ((x : Command) × (y : Command) × (slice_get issued c ≡ Some x) × (slice_get issued d ≡ Some y) × (precedes x y ≡ true))
unfolding goes_before
goes_is issued c d h =
    let two = both _ _ h in
    (lt_is c d two.0, on (slice_get issued c) refl (slice_get issued d) refl two.1)
  where
    on : (o : Option Command) → slice_get issued c ≡ o → (u : Option Command) → slice_get issued d ≡ u → option_map_or (λ first. option_map_or (λ second. precedes first second) u false) o false ≡ true
        → (x : Command) × (y : Command) × (slice_get issued c ≡ Some x) × (slice_get issued d ≡ Some y) × (precedes x y ≡ true)
    on None at u there g = absurd (true≢false (sym g))
    on (Some x) at None there g = absurd (true≢false (sym g))
    on (Some x) at (Some y) there g = (x, y, at, there, g)

ordered_below : (T : Trace) (i j : ℕ) → Ordered RuleByTrace T i j → i < j
ordered_below T i j (One e) = e.below
ordered_below T i j (Then {i = a} {k = k} {j = b} o e) = let l = ordered_below T a k o in let m = e.below in omega (arith, l, m)

ordered_trans : (T : Trace) (i k j : ℕ) → Ordered RuleByTrace T i k → Ordered RuleByTrace T k j → Ordered RuleByTrace T i j
ordered_trans T i k j o (One e) = Then o e
ordered_trans T i k j o (Then {i = a} {k = x} {j = b} u e) = Then (ordered_trans T i a x o u) e

stalled_list : (m : Moves) (c : ℕ) (d : Command) → is_stalled m c d ≡ true → is_list d.kind ≡ true
stalled_list m c d h = on (is_list d.kind) refl
  where
    on : (b : Bool) → is_list d.kind ≡ b → is_list d.kind ≡ true
    on true e = e
    on false e = absurd (true≢false (sym h ∙ plain-unstalled m c d e))

stalled_at : (m : Moves) (c : ℕ) → is_stalled_number m c ≡ true → (d : Command) × (slice_get m.issued c ≡ Some d) × (is_stalled m c d ≡ true)
stalled_at m c h = on (slice_get m.issued c) refl h
  where
    on : (o : Option Command) → slice_get m.issued c ≡ o → option_map_or (is_stalled m c) o false ≡ true → (d : Command) × (slice_get m.issued c ≡ Some d) × (is_stalled m c d ≡ true)
    on None at g = absurd (true≢false (sym g))
    on (Some d) at g = (d, at, g)

list_read : (m : Moves) (c : ℕ) (d : Command) (n : ℕ) → is_list d.kind ≡ true → length (read_of m.read c) ≡ n → (progress_of m c d).read ≡ n
list_read m c d n list h = ap (λ b. cond b (length (read_of m.read c)) 0) list ∙ h

-- the element step of a command: which command it is, and that it is a list
record IsElement (P Q : Spe) (c : ℕ) : Type 0 where
  command : Command
  at : slice_get P.moves.issued c ≡ Some command
  list : is_list command.kind ≡ true

elem_only : (P Q : Spe) (p c : ℕ) (s : Step) (note : Note) (memory : MainMemory) → Happens memory s note p P Q → s ≡ Elem p c → IsElement P Q c
elem_only P Q p c s note memory (Passes q by ne is) st = absurd (ne (some_same q p (sym by ∙ ap maker st)))
elem_only P Q p c s note memory (Executes d st2 made told is) st = let e = sym st2 ∙ st in absurd (cc)
elem_only P Q p c s note memory (Copies c2 e k d x store st2 at has there number told is) st = let e = sym st2 ∙ st in absurd (cc)
elem_only P Q p c s note memory (Reads c2 d x st2 at has el told is) st =
    let e : Elem p c2 ≡ Elem p c = sym st2 ∙ st in
    let same : c2 ≡ c = cc in
    record { command = d; at = ap (slice_get P.moves.issued) (sym same) ∙ at; list = (element-is P.moves c2 d has).list }
elem_only P Q p c s note memory (Faults c2 d kind st2 at has told is) st =
    let e : Elem p c2 ≡ Elem p c = sym st2 ∙ st in
    let same : c2 ≡ c = cc in
    record { command = d; at = ap (slice_get P.moves.issued) (sym same) ∙ at; list = (element-is P.moves c2 d has).list }
elem_only P Q p c s note memory (Retires c2 d st2 at left told is) st = let e = sym st2 ∙ st in absurd (cc)
elem_only P Q p c s note memory (Answers a store st2 slot told is) st = let e = sym st2 ∙ st in absurd (cc)
elem_only P Q p c s note memory (Hosts a st2 of may told is) st = let e = sym st2 ∙ st in absurd (cc)
elem_only P Q p c s note memory (HostPasses a st2 of told is) st = let e = sym st2 ∙ st in absurd (cc)

-- it reads one element more
elem_more : (P Q : Spe) (p c : ℕ) (s : Step) (note : Note) (memory : MainMemory) → Happens memory s note p P Q → s ≡ Elem p c → is_faulted Q.status ≡ false → length (read_of Q.moves.read c) ≡ length (read_of P.moves.read c) + 1
elem_more P Q p c s note memory (Passes q by ne is) st sound = absurd (ne (some_same q p (sym by ∙ ap maker st)))
elem_more P Q p c s note memory (Executes d st2 made told is) st sound = let e = sym st2 ∙ st in absurd (cc)
elem_more P Q p c s note memory (Copies c2 e k d x store st2 at has there number told is) st sound = let e = sym st2 ∙ st in absurd (cc)
elem_more P Q p c s note memory (Reads c2 d x st2 at has el told is) st sound =
    let e : Elem p c2 ≡ Elem p c = sym st2 ∙ st in
    let same : c2 ≡ c = cc in
    ap (λ (K : Spe). length (read_of K.moves.read c)) is ∙ ap (λ n. length (read_of (with_read P.moves n x).read c)) same ∙ ap length (read-more P.moves c x) ∙ length-append (read_of P.moves.read c) (x ∷ [])
elem_more P Q p c s note memory (Faults c2 d kind st2 at has told is) st sound = absurd (true≢false (sym (ap (λ (K : Spe). is_faulted K.status) is) ∙ sound))
elem_more P Q p c s note memory (Retires c2 d st2 at left told is) st sound = let e = sym st2 ∙ st in absurd (cc)
elem_more P Q p c s note memory (Answers a store st2 slot told is) st sound = let e = sym st2 ∙ st in absurd (cc)
elem_more P Q p c s note memory (Hosts a st2 of may told is) st sound = let e = sym st2 ∙ st in absurd (cc)
elem_more P Q p c s note memory (HostPasses a st2 of told is) st sound = let e = sym st2 ∙ st in absurd (cc)

-- a piece of a command: which command it is, and of which element
record IsPieceOf (P : Spe) (c n : ℕ) : Type 0 where
  command : Command
  at : slice_get P.moves.issued c ≡ Some command
  element : Element
  there : present P.moves.read c command ≡ Some element
  number : element.number ≡ n

piece_only : (P Q : Spe) (p c n k : ℕ) (s : Step) (note : Note) (memory : MainMemory) → Happens memory s note p P Q → s ≡ Piece p c n k → IsPieceOf P c n
piece_only P Q p c n k s note memory (Passes q by ne is) st = absurd (ne (some_same q p (sym by ∙ ap maker st)))
piece_only P Q p c n k s note memory (Executes d st2 made told is) st = let e = sym st2 ∙ st in absurd (cc)
piece_only P Q p c n k s note memory (Copies c2 n2 k2 d x store st2 at has there number told is) st =
    let e : Piece p c2 n2 k2 ≡ Piece p c n k = sym st2 ∙ st in
    let same : c2 ≡ c = cc in
    let same2 : n2 ≡ n = cc in
    record { command = d; at = ap (slice_get P.moves.issued) (sym same) ∙ at; element = x; there = ap (λ y. present P.moves.read y d) (sym same) ∙ there; number = number ∙ same2 }
piece_only P Q p c n k s note memory (Reads c2 d x st2 at has el told is) st = let e = sym st2 ∙ st in absurd (cc)
piece_only P Q p c n k s note memory (Faults c2 d kind st2 at has told is) st = let e = sym st2 ∙ st in absurd (cc)
piece_only P Q p c n k s note memory (Retires c2 d st2 at left told is) st = let e = sym st2 ∙ st in absurd (cc)
piece_only P Q p c n k s note memory (Answers a store st2 slot told is) st = let e = sym st2 ∙ st in absurd (cc)
piece_only P Q p c n k s note memory (Hosts a st2 of may told is) st = let e = sym st2 ∙ st in absurd (cc)
piece_only P Q p c n k s note memory (HostPasses a st2 of told is) st = let e = sym st2 ∙ st in absurd (cc)

elem_is : (p c : ℕ) (s : Step) → is_elem p c s ≡ true → s ≡ Elem p c
elem_is p c (Exec q) h = absurd (true≢false (sym h))
elem_is p c (Piece q d e k) h = absurd (true≢false (sym h))
elem_is p c (Elem q d) h = let two = both (q == p) (d == c) h in ap₂ Elem (eq_is q p two.0) (eq_is d c two.1)
elem_is p c (Retire q d) h = absurd (true≢false (sym h))
elem_is p c (Atomic q) h = absurd (true≢false (sym h))
elem_is p c Host h = absurd (true≢false (sym h))

-- ---- a run and its record

module _ (m : Ran) (r : Recorded) (of : IsRecordOf m r) (rec : IsRecorded r) (sound : IsFaultless r) where
  frames : HasFrames r
  frames = runs-have_frames r rec sound

  -- the trace up to a later place
  abbrev upto : ℕ → Trace
  upto j = take (j + 1) (trace_in m)

  event_in : (k j : ℕ) → k ≤ j → j < r.size → slice_get (upto j) k ≡ Some (record { step = r.step k; effect = r.effect k })
  event_in k j h low = get_take (trace_in m) (j + 1) k (omega (arith, h)) ∙ of.event k (omega (arith, h, low))

  front : (k j : ℕ) → k ≤ j → take k (upto j) ≡ take k (trace_in m)
  front k j h = take-take k (j + 1) (trace_in m) (omega (arith, h))

  step_in : (k j : ℕ) (s : Step) → k ≤ j → j < r.size → r.step k ≡ s → IsStep (upto j) k s
  step_in k j s h low is = record { event = record { step = r.step k; effect = r.effect k }; at = event_in k j h low; is = is }

  notes_in : (k j : ℕ) (s : Step) (n : Note) → k ≤ j → j < r.size → r.step k ≡ s → (r.effect k).note ≡ n → Notes (upto j) k s n
  notes_in k j s n h low is notes = record { event = record { step = r.step k; effect = r.effect k }; at = event_in k j h low; is = is; notes = notes }

  of_in : (k j p c : ℕ) → k ≤ j → j < r.size → is_step_of p c (r.step k) ≡ true → IsStepOf (upto j) k p c
  of_in k j p c h low is = record { event = record { step = r.step k; effect = r.effect k }; at = event_in k j h low; is = of_same p c (r.step k) ∙ is }

  -- what stands at a place of the trace is what the run does there
  step_out : (k j : ℕ) (s : Step) → k ≤ j → j < r.size → IsStep (upto j) k s → r.step k ≡ s
  step_out k j s h low x =
      let same : record { step = r.step k; effect = r.effect k } ≡ x.event = some_same _ x.event (sym (event_in k j h low) ∙ x.at) in
      ap (λ (e : Event). e.step) same ∙ x.is

  makes : (i j : ℕ) → i < j → Rule (upto j) i j → IsOrdered m i j
  makes i j h rule = ordered_from (trace_in m) (is-orderly m (trace_in m) of.told).1 i j (One (record { below = h; rule = rule }))

  -- how far the commands have come
  keeps : (j p : ℕ) → j ≤ r.size → p < count_of r → KeepsStatus p (take j (trace_in m)) (spe_before r p j)
  keeps j p h low =
      keeps-status (record m { steps = take j m.steps }) (take j (trace_in m)) (r.state j) p (spe_before r p j)
      (trace_taken (opening m.setup) m.steps (trace_in m) j of.told) (of.at j h) (spe-at r rec sound j p h low)

  has_at : (j p c : ℕ) (d : Command) → j ≤ r.size → p < count_of r → slice_get (spe_before r p j).moves.issued c ≡ Some d → Has (take j (trace_in m)) p c (progress_of (spe_before r p j).moves c d)
  has_at j p c d h low at = record { is = (keeps j p h low).come (sound j p h low) c ∙ ap (option_map (progress_of (spe_before r p j).moves c)) at }

  has_front : (k j p c : ℕ) (d : Command) → k ≤ j → j < r.size → p < count_of r → slice_get (spe_before r p k).moves.issued c ≡ Some d → Has (take k (upto j)) p c (progress_of (spe_before r p k).moves c d)
  has_front k j p c d h low low_p at = subst (λ t. Has t p c (progress_of (spe_before r p k).moves c d)) (sym (front k j h)) (has_at k p c d (omega (arith, h, low)) low_p at)

  -- commands keep their numbers
  stays_issued : (n k p c : ℕ) (d : Command) → k + n ≤ r.size → p < count_of r → slice_get (spe_before r p k).moves.issued c ≡ Some d → slice_get (spe_before r p (k + n)).moves.issued c ≡ Some d
  stays_issued zero k p c d h low at = let e : k + 0 ≡ k = omega arith in ap (λ j. slice_get (spe_before r p j).moves.issued c) e ∙ at
  stays_issued (suc n) k p c d h low at =
      let e : k + suc n ≡ suc (k + n) = omega arith in
      let was = stays_issued n k p c d (omega (arith, h)) low at in
      let more = frames.grows (k + n) p (omega (arith, h)) low in
      ap (λ j. slice_get (spe_before r p j).moves.issued c) e ∙ ap (λ xs. slice_get xs c) more.1 ∙ get_more (spe_before r p (k + n)).moves.issued more.0 c d was

  later_issued : (k j p c : ℕ) (d : Command) → k ≤ j → j ≤ r.size → p < count_of r → slice_get (spe_before r p k).moves.issued c ≡ Some d → slice_get (spe_before r p j).moves.issued c ≡ Some d
  later_issued k j p c d h low low_p at =
      let e : k + (j - k) ≡ j = omega (arith, h) in
      ap (λ x. slice_get (spe_before r p x).moves.issued c) (sym e) ∙ stays_issued (j - k) k p c d (omega (arith, h, low)) low_p at

  has_upto : (j p c : ℕ) (d : Command) → j < r.size → p < count_of r → slice_get (spe_before r p j).moves.issued c ≡ Some d → Has (upto j) p c (progress_of (spe_before r p (suc j)).moves c d)
  has_upto j p c d low low_p at =
      let e : suc j ≡ j + 1 = omega arith in
      subst (λ k. Has (take k (trace_in m)) p c (progress_of (spe_before r p (suc j)).moves c d)) e
      (has_at (suc j) p c d (omega (arith, low)) low_p (later_issued j (suc j) p c d (omega arith) (omega (arith, low)) low_p at))

  before_in : (j p c d : ℕ) → j < r.size → p < count_of r → goes_before (spe_before r p j).moves.issued c d ≡ true → Before (upto j) p c d
  before_in j p c d low low_p goes =
      let g = goes_is (spe_before r p j).moves.issued c d goes in
      let x = g.1 in
      record {
        lower = g.0;
        first = progress_of (spe_before r p (suc j)).moves c x.0;
        second = progress_of (spe_before r p (suc j)).moves d x.1;
        first_is = has_upto j p c x.0 low low_p x.2;
        second_is = has_upto j p d x.1 low low_p x.3;
        goes = x.4;
      }

  -- the maker of a step of a command
  of_low : (i p c : ℕ) → i < r.size → is_step_of p c (r.step i) ≡ true → p < count_of r
  of_low i p c h is =
      let by = step_made_by p c (r.step i) is in
      maker-low r rec sound i p h (by.1 ∙ ap Some (step_own p c by.0 (r.step i) is by.1))

  exec_low : (i p : ℕ) → i < r.size → r.step i ≡ Exec p → p < count_of r
  exec_low i p h is = maker-low r rec sound i p h (ap maker is)

  elem_low : (i p c : ℕ) → i < r.size → r.step i ≡ Elem p c → p < count_of r
  elem_low i p c h is = maker-low r rec sound i p h (ap maker is)

  element_at_place : (i p c : ℕ) → i < r.size → r.step i ≡ Elem p c → IsElement (spe_before r p i) (spe_before r p (suc i)) c
  element_at_place i p c h is = elem_only (spe_before r p i) (spe_before r p (suc i)) p c (r.step i) (r.effect i).note (r.state i).memory (happens-at r rec sound i p h (elem_low i p c h is)) is

  reads_in : (i j p c n : ℕ) → i ≤ j → j < r.size → r.step i ≡ Elem p c → length (read_of (spe_before r p i).moves.read c) ≡ n → ReadsElement (upto j) i p c n
  reads_in i j p c n h low is number =
      let x = element_at_place i p c (omega (arith, h, low)) is in
      record {
        step = step_in i j (Elem p c) h low is;
        progress = progress_of (spe_before r p i).moves c x.command;
        has = has_front i j p c x.command h low (elem_low i p c (omega (arith, h, low)) is) x.at;
        number = list_read (spe_before r p i).moves c x.command n x.list number;
      }

  element_in : (i j p c n : ℕ) → i ≤ j → j < r.size → IsOfElement r i p c n → IsStepOfElement (upto j) i p c n
  element_in i j p c n h low (inl x) = inl (reads_in i j p c n h low x.0 x.1)
  element_in i j p c n h low (inr x) = inr (x.0, step_in i j (Piece p c n x.0) h low x.1)

  resumes_in : (i j p c : ℕ) (d : Command) → i ≤ j → j < r.size → r.step i ≡ Exec p → is_stalled_number (spe_before r p i).moves c ≡ true → slice_get (spe_before r p i).moves.issued c ≡ Some d
      → (r.effect i).note ≡ Ack d.tag → Resumes (upto j) i p c
  resumes_in i j p c d h low is stalled at note =
      let s = stalled_at (spe_before r p i).moves c stalled in
      let same : s.0 ≡ d = some_same s.0 d (sym s.1 ∙ at) in
      record {
        progress = progress_of (spe_before r p i).moves c d;
        has = has_front i j p c d h low (exec_low i p (omega (arith, h, low)) is) at;
        stalled = ap (is_stalled (spe_before r p i).moves c) (sym same) ∙ s.2;
        acknowledges = notes_in i j (Exec p) (Ack d.tag) h low is note;
      }

  -- ---- mailboxes

  puts_is : (q k j : ℕ) → j ≤ r.size → puts q k (take j (trace_in m)) ≡ puts_before r q k j
  unfolding puts_before
  puts_is q k zero h = refl
  puts_is q k (suc j) h =
      ap (puts q k) (take_step (trace_in m) j (record { step = r.step j; effect = r.effect j }) (of.event j (omega (arith, h))))
      ∙ count_more (λ (e : Event). is_put q k e.effect.note) (take j (trace_in m)) (record { step = r.step j; effect = r.effect j })
      ∙ ap₂ (λ n b. n + cond b 1 0) (puts_is q k j (omega (arith, h))) (put_same q k (r.effect j).note)

  takes_is : (q k j : ℕ) → j ≤ r.size → takes q k (take j (trace_in m)) ≡ taken_values r q k j
  unfolding taken_values
  takes_is q k zero h = refl
  takes_is q k (suc j) h =
      ap (takes q k) (take_step (trace_in m) j (record { step = r.step j; effect = r.effect j }) (of.event j (omega (arith, h))))
      ∙ count_more (λ (e : Event). is_take q k e.effect.note) (take j (trace_in m)) (record { step = r.step j; effect = r.effect j })
      ∙ ap₂ (λ n b. n + cond b 1 0) (takes_is q k j (omega (arith, h))) (take_same q k (r.effect j).note)

  put_in : (i j q k n : ℕ) → i ≤ j → j < r.size → is_put_note q k (r.effect i).note ≡ true → puts_before r q k i ≡ n → PutsNth (upto j) i q k n
  put_in i j q k n h low is number = record {
    event = record { step = r.step i; effect = r.effect i };
    at = event_in i j h low;
    is = put_same q k (r.effect i).note ∙ is;
    number = ap (puts q k) (front i j h) ∙ puts_is q k i (omega (arith, h, low)) ∙ number;
  }

  take_in : (i j q k n : ℕ) → i ≤ j → j < r.size → is_take_note q k (r.effect i).note ≡ true → taken_values r q k i ≡ n → TakesNth (upto j) i q k n
  take_in i j q k n h low is number = record {
    event = record { step = r.step i; effect = r.effect i };
    at = event_in i j h low;
    is = take_same q k (r.effect i).note ∙ is;
    number = ap (takes q k) (front i j h) ∙ takes_is q k i (omega (arith, h, low)) ∙ number;
  }

  -- what stands at a place may come there
  may_at : (i : ℕ) → i < r.size → MayCome (count_of_run m) (take i (trace_in m)) (record { step = r.step i; effect = r.effect i })
  may_at i h = (is-orderly m (trace_in m) of.told).0 i (record { step = r.step i; effect = r.effect i }) (of.event i h)

  -- an atomic step has its issue before it
  pub atomics-taken : AtomicsTaken r
  atomics-taken j p h is =
      let t = (may_at j h).slot p is in
      let within = slice_get_within (take j (trace_in m)) t.place t.issue.event t.issue.at in
      let long = length-take (j) (trace_in m) in
      let low : t.place < j = omega (arith, within, long) in
      let same : t.issue.event ≡ record { step = r.step t.place; effect = r.effect t.place } =
      some_same t.issue.event _ (sym t.issue.at ∙ get_take (trace_in m) j t.place low ∙ of.event t.place (omega (arith, low, h))) in (
        t.place,
        low,
        sym (ap (λ (e : Event). e.step) same) ∙ t.issue.is,
        sym (ap (λ (e : Event). e.effect.note) same) ∙ t.issue.notes,
        λ y above below st. t.none y above (record { event = record { step = r.step y; effect = r.effect y }; at = get_take (trace_in m) j y below ∙ of.event y (omega (arith, below, h)); is = st }),
      )

  pub boxes-fit : BoxesFit r
  boxes-fit = record {
    full = λ i q k h is.
        let f = (may_at i h).full q k (take_same q k (r.effect i).note ∙ is) in
        let a = takes_is q k i (omega (arith, h)) in
        let b = puts_is q k i (omega (arith, h)) in
        omega (arith, f, a, b);
    free = λ i q k h is.
        let f = (may_at i h).free q k (put_same q k (r.effect i).note ∙ is) in
        let a = takes_is q k i (omega (arith, h)) in
        let b = puts_is q k i (omega (arith, h)) in
        omega (arith, f, a, b);
  }

  -- ---- all edges

  at_end : (j : ℕ) → j ≤ j
  at_end j = omega arith

  pub orders : Orders (IsOrdered m) r
  orders = record {
    trans = λ i k j a b. ordered_trans (trace_in m) i k j a b;
    below = λ i j a. ordered_below (trace_in m) i j a;
    program = λ i j p h low a b. makes i j h (inl (Program p (step_in i j (Exec p) (omega (arith, h)) low a) (step_in j j (Exec p) (at_end j) low b)));
    script = λ i j h low a b. makes i j h (inl (Script (step_in i j Host (omega (arith, h)) low a) (step_in j j Host (at_end j) low b)));
    issued = λ i j p c d h low a n b. makes i j h (inl (Issued p c d (notes_in i j (Exec p) (Issue c d) (omega (arith, h)) low a n) (of_in j j p c (at_end j) low b)));
    atomic_issued = λ i j p h low a n b none.
        makes i j h (inl (AtomicIssued p (notes_in i j (Exec p) AtomicIssue (omega (arith, h)) low a n) (step_in j j (Atomic p) (at_end j) low b)
        (λ k above below x. none k above below (step_out k j (Atomic p) (omega (arith, below)) low x))));
    next_atomic = λ i j p h low a b n. makes i j h (inl (NextAtomic p (step_in i j (Atomic p) (omega (arith, h)) low a) (notes_in j j (Exec p) AtomicIssue (at_end j) low b n)));
    atomic_seen = λ i j p h low a b n. makes i j h (inl (AtomicSeen p (step_in i j (Atomic p) (omega (arith, h)) low a) (notes_in j j (Exec p) AtomicRead (at_end j) low b n)));
    passed = λ i j q k h low a b same. makes i j h (inl (Passed q k (taken_values r q k j) (put_in i j q k (taken_values r q k j) (omega (arith, h)) low a same) (take_in j j q k (taken_values r q k j) (at_end j) low b refl)));
    place_free = λ i j q k h low a b same.
        makes i j h (inl (PlaceFree q k (taken_values r q k i) (take_in i j q k (taken_values r q k i) (omega (arith, h)) low a refl) (put_in j j q k (taken_values r q k i + mailbox_size k) (at_end j) low b (sym same))));
    finished = λ i j p h low a n b o. makes i j h (inl (Finished p (inl (notes_in i j (Exec p) Ended (omega (arith, h)) low a n)) (notes_in j j Host (Awaited p) (at_end j) low b o)));
    queue = λ i j p c d h low a b goes.
        makes i j h (inr (Queue p c d (of_in i j p c (omega (arith, h)) low a) (of_in j j p d (at_end j) low b) (before_in j p c d low (of_low j p d low b) goes)));
    element_piece = λ i j p c n k h low a number b. makes i j h (inr (ElementPiece p c n k (reads_in i j p c n (omega (arith, h)) low a number) (step_in j j (Piece p c n k) (at_end j) low b)));
    next_element = λ i j p c n h low a b number. makes i j h (inr (NextElement p c n (element_in i j p c n (omega (arith, h)) low a) (reads_in j j p c (n + 1) (at_end j) low b number)));
    stall_seen = λ i x j p c n groups d h low a early stall b note at set.
        let low_p = exec_low j p low b in
        let s = stalled_at (spe_before r p x).moves c stall.stalled in
        let same : s.0 ≡ d = some_same s.0 d (sym (later_issued x j p c s.0 early (omega (arith, low)) low_p s.1) ∙ at) in
        let there = ap (λ y. Some y) same in
        let stalled = ap (is_stalled (spe_before r p x).moves c) (sym same) ∙ s.2 in
        makes i j h (inr (StallSeen p c n x groups (element_in i j p c n (omega (arith, h)) low a) early (record {
          progress = progress_of (spe_before r p x).moves c d;
          has = has_front x j p c d early low low_p (s.1 ∙ there);
          stalled = stalled;
          number = list_read (spe_before r p x).moves c d (n + 1) (stalled_list (spe_before r p x).moves c d stalled) stall.last;
        }) (notes_in j j (Exec p) (StallRead groups) (at_end j) low b note) set));
    resumed = λ i j p c d h low a stalled at note b. makes i j h (inr (Resumed p c (resumes_in i j p c d (omega (arith, h)) low a stalled at note) (of_in j j p c (at_end j) low b)));
    resumed_earlier = λ i j p c b d h low a stalled at note x goes.
        makes i j h (inr (ResumedEarlier p c b (resumes_in i j p c d (omega (arith, h)) low a stalled at note) (of_in j j p b (at_end j) low x) (before_in j p c b low (of_low j p b low x) goes)));
    tag_seen = λ i j p c groups count d h low a b note at set less.
        makes i j h (inr (TagSeen p c groups count (progress_of (spe_before r p (suc j)).moves c d) (of_in i j p c (omega (arith, h)) low a) (has_upto j p c d low (exec_low j p low b) at)
        (notes_in j j (Exec p) (TagRead groups count) (at_end j) low b note) set less));
  }

  -- ---- the elements of one list, in turn

  more_at : (j p c : ℕ) → j < r.size → r.step j ≡ Elem p c → length (read_of (spe_before r p (suc j)).moves.read c) ≡ length (read_of (spe_before r p j).moves.read c) + 1
  more_at j p c low is =
      let low_p = elem_low j p c low is in
      elem_more (spe_before r p j) (spe_before r p (suc j)) p c (r.step j) (r.effect j).note (r.state j).memory (happens-at r rec sound j p low low_p) is (sound (suc j) p (omega (arith, low)) low_p)

  same_at : (j p c : ℕ) → j < r.size → p < count_of r → is_elem p c (r.step j) ≡ false → length (read_of (spe_before r p (suc j)).moves.read c) ≡ length (read_of (spe_before r p j).moves.read c)
  same_at j p c low low_p off = ap length (frames.elements j p c low low_p off)

  -- the number of the element of a piece
  pub number_at : (j p c n k : ℕ) (d : Command) → j < r.size → r.step j ≡ Piece p c n k → slice_get (spe_before r p j).moves.issued c ≡ Some d → is_list d.kind ≡ true → length (read_of (spe_before r p j).moves.read c) ≡ n + 1
  number_at j p c n k d low is at list =
      let P = spe_before r p j in
      let low_p = maker-low r rec sound j p low (ap maker is) in
      let x = piece_only P (spe_before r p (suc j)) p c n k (r.step j) (r.effect j).note (r.state j).memory (happens-at r rec sound j p low low_p) is in
      let same : x.command ≡ d = some_same x.command d (sym x.at ∙ at) in
      let els = (run-follows m.setup (take j m.steps) (r.state j) p P (of.at j (omega (arith, low))) (spe-at r rec sound j p (omega (arith, low)) low_p)).order.elements c x.command x.at in
      let last = last-number P.moves c x.command x.element els x.there in
      let all : elements_of P.moves.read c x.command ≡ read_of P.moves.read c = list-elements P.moves.read c x.command (ap (λ (y : Command). is_list y.kind) same ∙ list) in
      sym (ap length all) ∙ sym last ∙ ap (λ y. y + 1) x.number

  -- the last element that was read before j, from i on
  pub record Last (i j p c : ℕ) : Type 0 where
    pub place : ℕ
    pub low : place < j
    pub is : r.step place ≡ Elem p c
    pub count : length (read_of (spe_before r p j).moves.read c) ≡ length (read_of (spe_before r p place).moves.read c) + 1
    pub chain : (i ≡ place) ⊎ IsOrdered m i place

  chained : (i k j : ℕ) → (i ≡ k) ⊎ IsOrdered m i k → IsOrdered m k j → IsOrdered m i j
  chained i k j (inl e) o = subst (λ x. IsOrdered m x j) (sym e) o
  chained i k j (inr a) o = orders.trans i k j a o

  last_before : (i j p c : ℕ) → j < r.size → r.step j ≡ Elem p c → Last i j p c → IsOrdered m i j
  last_before i j p c low is l = chained i l.place j l.chain (orders.next_element l.place j p c (length (read_of (spe_before r p l.place).moves.read c)) l.low low (inl (l.is, refl)) is l.count)

  pub reached : (j i p c : ℕ) → i < j → j ≤ r.size → r.step i ≡ Elem p c → Last i j p c
  reached zero i p c h low is = absurd (omega (arith, h))
  reached (suc j) i p c h low is = on (is_elem p c (r.step j)) refl (cases_eq i j) (λ less. reached j i p c less (omega (arith, low)) is)
    where
      on : (b : Bool) → is_elem p c (r.step j) ≡ b → (i ≡ j) ⊎ (i ≢ j) → (i < j → Last i j p c) → Last i (suc j) p c
      on true e (inl same) earlier = record { place = j; low = omega arith; is = elem_is p c (r.step j) e; count = more_at j p c (omega (arith, low)) (elem_is p c (r.step j) e); chain = inl same }
      on true e (inr differs) earlier =
          let st = elem_is p c (r.step j) e in
          let l = earlier (omega (arith, h, differs)) in
          record { place = j; low = omega arith; is = st; count = more_at j p c (omega (arith, low)) st; chain = inr (last_before i j p c (omega (arith, low)) st l) }
      on false e (inl same) earlier = absurd (true≢false (sym (ap (λ k. is_elem p c (r.step k)) (sym same) ∙ ap (is_elem p c) is ∙ ap₂ (λ a b. a && b) (eq_same p) (eq_same c)) ∙ e))
      on false e (inr differs) earlier =
          let l = earlier (omega (arith, h, differs)) in
          let below = l.low in
          record { place = l.place; low = omega (arith, below); is = l.is; count = same_at j p c (omega (arith, low)) (elem_low i p c (omega (arith, h, low)) is) e ∙ l.count; chain = l.chain }

  -- the first element that was read from i on, before j
  pub record First (i j p c : ℕ) : Type 0 where
    pub place : ℕ
    pub above : i < place
    pub low : place < j
    pub is : r.step place ≡ Elem p c
    pub count : length (read_of (spe_before r p place).moves.read c) ≡ length (read_of (spe_before r p i).moves.read c)

  pub first_from : (j i p c : ℕ) → i < j → j ≤ r.size → p < count_of r → is_elem p c (r.step i) ≡ false → (length (read_of (spe_before r p j).moves.read c) ≡ length (read_of (spe_before r p i).moves.read c)) ⊎ First i j p c
  first_from zero i p c h low low_p off = absurd (omega (arith, h))
  first_from (suc j) i p c h low low_p off = on (cases_eq i j) (λ less. first_from j i p c less (omega (arith, low)) low_p off)
    where
      by : (b : Bool) → is_elem p c (r.step j) ≡ b → i < j → (length (read_of (spe_before r p j).moves.read c) ≡ length (read_of (spe_before r p i).moves.read c)) ⊎ First i j p c
          → (length (read_of (spe_before r p (suc j)).moves.read c) ≡ length (read_of (spe_before r p i).moves.read c)) ⊎ First i (suc j) p c
      by b e less (inr f) = let below = f.low in inr (record { place = f.place; above = f.above; low = omega (arith, below); is = f.is; count = f.count })
      by true e less (inl same) = inr (record { place = j; above = less; low = omega arith; is = elem_is p c (r.step j) e; count = same })
      by false e less (inl same) = inl (same_at j p c (omega (arith, low)) low_p e ∙ same)

      on : (i ≡ j) ⊎ (i ≢ j) → (i < j → (length (read_of (spe_before r p j).moves.read c) ≡ length (read_of (spe_before r p i).moves.read c)) ⊎ First i j p c)
          → (length (read_of (spe_before r p (suc j)).moves.read c) ≡ length (read_of (spe_before r p i).moves.read c)) ⊎ First i (suc j) p c
      on (inl same) earlier =
          inl (same_at j p c (omega (arith, low)) low_p (ap (λ k. is_elem p c (r.step k)) (sym same) ∙ off) ∙ ap (λ k. length (read_of (spe_before r p k).moves.read c)) (sym same))
      on (inr differs) earlier = let less : i < j = omega (arith, h, differs) in by (is_elem p c (r.step j)) refl less (earlier less)

  elements_in_turn : (i j p c : ℕ) → i < j → j < r.size → r.step i ≡ Elem p c → r.step j ≡ Elem p c → IsOrdered m i j
  elements_in_turn i j p c h low a b = last_before i j p c low b (reached j i p c h (omega (arith, low)) a)

  pub elements-ordered : OrdersElements (IsOrdered m) r
  elements-ordered = record {
    elements = elements_in_turn;
    piece_element = λ i j p c e k h low a b.
        let y = element_at_place j p c low b in
        let low_p = elem_low j p c low b in
        let x = piece_only (spe_before r p i) (spe_before r p (suc i)) p c e k (r.step i) (r.effect i).note (r.state i).memory (happens-at r rec sound i p (omega (arith, h, low)) low_p) a in
        let same : x.command ≡ y.command = some_same x.command y.command (sym (later_issued i j p c x.command (omega (arith, h)) (omega (arith, low)) low_p x.at) ∙ y.at) in
        let number = number_at i p c e k x.command (omega (arith, h, low)) a x.at (ap (λ (z : Command). is_list z.kind) same ∙ y.list) in
        by_first i j p c e k h low a b number (first_from j i p c h (omega (arith, low)) low_p (ap (is_elem p c) a));
    element_pieces = λ i j p c e k h low a b.
        let x = element_at_place i p c (omega (arith, h, low)) a in
        let low_p = elem_low i p c (omega (arith, h, low)) a in
        let l = reached j i p c h (omega (arith, low)) a in
        let number = number_at j p c e k x.command low b (later_issued i j p c x.command (omega (arith, h)) (omega (arith, low)) low_p x.at) x.list in
        let count = l.count in
        let same : length (read_of (spe_before r p l.place).moves.read c) ≡ e = omega (arith, number, count) in
        chained i l.place j l.chain (orders.element_piece l.place j p c e k l.low low l.is same b);
  }
    where
      by_first : (i j p c e k : ℕ) → i < j → j < r.size → r.step i ≡ Piece p c e k → r.step j ≡ Elem p c → length (read_of (spe_before r p i).moves.read c) ≡ e + 1
          → (length (read_of (spe_before r p j).moves.read c) ≡ length (read_of (spe_before r p i).moves.read c)) ⊎ First i j p c → IsOrdered m i j
      by_first i j p c e k h low a b number (inl same) = orders.next_element i j p c e h low (inr (k, a)) b (same ∙ number)
      by_first i j p c e k h low a b number (inr f) =
          let below = f.low in
          orders.trans i f.place j (orders.next_element i f.place p c e f.above (omega (arith, below, low)) (inr (k, a)) f.is (f.count ∙ number)) (elements_in_turn f.place j p c f.low low f.is b)

pub runs-order : RunsOrder
runs-order m r of rec sound = (orders m r of rec sound, elements-ordered m r of rec sound)

pub runs-fit : RunsFit
runs-fit m r of rec sound = boxes-fit m r of rec sound
