-- Where two states are the same but for the order of what the flow controllers did, and for events that no mask shows, the same steps are allowed.
use Rattle.std.proofs.Common.{◌≡◌, ℕ, zero, suc, ◌-◌, ◌==◌, ◌&&◌, not, Bool, true, false, List, [], ◌∷◌, length, refl, sym, ◌∙◌, ap, ap₂, cond}
use Rattle.std.specs.Prelude.{nat_lt, slice_get, Option, Some, None, is_some, is_none, option_map, option_and_then, bit_and}
use Rattle.std.specs.List.{list_all, range_with_len}
use Rattle.std.specs.Option.{option_map_or}
use Rattle.std.specs.Int.Bits.{and_zero_r}
use mathlib.Core.Path.{fun_ext}
use Rattle.cell_base.specs.declared.steps.ChannelOp.{ChannelOp}
use Rattle.cell_base.specs.declared.steps.ChannelOp.TheVariants.{Read, Count, Write}
use Rattle.cell_base.specs.declared.steps.Step.{Step}
use Rattle.cell_base.specs.declared.steps.Step.TheVariants.{Exec, Piece, Elem, Retire, Atomic, Host}
use Rattle.spu_decode.specs.declared.Instr.{Instr}
use Rattle.spu_decode.specs.Spelling.{instr_of}
use Rattle.spu_exec.specs.declared.flow.Flow.{Flow}
use Rattle.spu_exec.specs.declared.flow.Flow.TheVariants.{Next, Stop, Halt, Channel}
use Rattle.spu_exec.specs.Meaning.{meaning}
use Rattle.local_store.specs.Store.{word_at}
use Rattle.mfc_command.specs.declared.command.Command.{Command}
use Rattle.mfc_command.specs.Order.{is_list, may_start, outstanding as outstanding_of}
use Rattle.mfc_lists.specs.declared.Element.{Element}
use Rattle.tag_groups.specs.declared.TagStatus.{TagStatus}
use Rattle.cell_channels.specs.declared.channels.Counts.{Counts}
use Rattle.cell_channels.specs.State.{count_of}
use Rattle.cell_channels.specs.Table.{way_of}
use Rattle.cell_signals.specs.declared.events.Events.{Events}
use Rattle.cell_signals.specs.Registers.{register_of}
use Rattle.cell_signals.specs.Events.{status_of}
use Rattle.cell_host.specs.declared.HostAction.{HostAction}
use Rattle.cell_host.specs.declared.HostAction.TheVariants.{Send, Take, TakeIntr, Store, Await, Signal}
use Rattle.cell_host.specs.Script.{Progress}
use Rattle.cell_machine.specs.declared.status.Status.{Status}
use Rattle.cell_machine.specs.Spe.{Spe, Moves, Stall, is_running, is_faulted}
use Rattle.cell_machine.specs.State.{State, with_spe}
use Rattle.cell_machine.specs.Memory.{lines_of}
use Rattle.cell_machine.specs.Opening.{no_moves}
use Rattle.cell_machine.specs.Moves.{is_moved, elements_in, present, parts_in, is_finished, stall_of, is_complete, outstanding, read_of}
use Rattle.cell_machine.specs.Channels.{is_read, is_write, counts, count, is_atomic, may_read, may_write, read_inbound, read_status, read_atomic, read_by, channel}
use Rattle.cell_machine.specs.Exec.{followed, exec_instr, exec}
use Rattle.cell_machine.specs.Transfers.{may_of, has_part, may_piece, is_part_left, has_element, may_elem, is_left, may_retire}
use Rattle.cell_machine.specs.Atomic.{may_atomic}
use Rattle.cell_machine.specs.Hosts.{Given, Acted, given, taken_of, taken_interrupt_of, acted, after_action, host as host_step}
use Rattle.cell_machine.specs.Next.{own, left, with_left, act_in, ended_by, next}
use Rattle.cell_machine.specs.Shows.{AllTwo}
use Rattle.cell_machine.proofs.AllTwo.{is_some_map}
use Rattle.cell_machine.proofs.Choices.{next-host, next-piece, next-elem, next-retire, next-atomic}
use Rattle.cell_machine.proofs.Same.{SameOf, elements_by, same-complete, same-present, same-stall}

-- all of a processor but its commands and its pending events
abbrev pub rest_of : Spe → Spe
rest_of P = record P { moves = no_moves; events = record P.events { pending = 0 } }

-- of each command the same was done, and no event is in the mask
pub record IsAlike (P K : Spe) : Type 0 where
  pub rest : rest_of P ≡ rest_of K
  pub issued : P.moves.issued ≡ K.moves.issued
  pub each : (c : ℕ) → SameOf K.moves P.moves c
  pub masked : K.events.mask ≡ 0

pub outstanding_same : (m n : Moves) → n.issued ≡ m.issued → is_complete n ≡ is_complete m → outstanding_of (is_complete n) n.issued ≡ outstanding_of (is_complete m) m.issued
outstanding_same m n e f = ap (outstanding_of (is_complete n)) e ∙ ap (λ t. outstanding_of t m.issued) f

pick : {X Y : Type 0} (b : Bool) (x y : Option X) (u v : Option Y) → is_some x ≡ is_some u → is_some y ≡ is_some v → is_some (cond b x y) ≡ is_some (cond b u v)
pick true x y u v e f = e
pick false x y u v e f = f

-- ---- steps of commands

module _ (P K : Spe) (alike : IsAlike P K) where
  complete_same : is_complete P.moves ≡ is_complete K.moves
  complete_same = fun_ext (λ c. same-complete K.moves P.moves c alike.issued (alike.each c))

  abbrev may : ℕ → Status → List Command → (ℕ → Bool) → (Command → Bool) → Bool
  may c status issued complete f = not (is_faulted status) && (option_map_or f (slice_get issued c) false && may_start complete issued c)

  may_same : (c : ℕ) (f g : Command → Bool) → ((d : Command) → f d ≡ g d) → may_of P c f ≡ may_of K c g
  may_same c f g same =
      ap (λ (S : Spe). may c S.status P.moves.issued (is_complete P.moves) f) alike.rest
      ∙ ap (λ xs. may c K.status xs (is_complete P.moves) f) alike.issued
      ∙ ap (λ t. may c K.status K.moves.issued t f) complete_same
      ∙ ap (may c K.status K.moves.issued (is_complete K.moves)) (fun_ext same)

  part_same : (c e k : ℕ) (d : Command) → has_part P.moves c e k d ≡ has_part K.moves c e k d
  part_same c e k d =
      ap (λ (f : ℕ → ℕ → Bool). is_moved d && option_map_or (λ (x : Element). x.number == e && nat_lt k (parts_in x) && not (f e k)) (present P.moves.read c d) false) (alike.each c).done
      ∙ ap (λ o. is_moved d && option_map_or (is_part_left K.moves.done c e k) o false) (same-present K.moves P.moves c d (alike.each c))

  piece_same : (c e k : ℕ) → may_piece P c e k ≡ may_piece K c e k
  unfolding may_piece
  piece_same c e k = may_same c (has_part P.moves c e k) (has_part K.moves c e k) (part_same c e k)

  finished_same : (c : ℕ) → is_finished P.moves.done c ≡ is_finished K.moves.done c
  unfolding is_finished
  finished_same c = ap finished (alike.each c).done
    where
      finished : (ℕ → ℕ → Bool) → Element → Bool
      finished f x = list_all (f x.number) (range_with_len 0 (parts_in x))

  abbrev element_by : Command → List Element → (Element → Bool) → Option Stall → Bool
  element_by d xs finished stall = is_list d.kind && not (length (elements_by d xs) == elements_in d) && (list_all finished (elements_by d xs) && not (is_some stall))

  element_same : (c : ℕ) (d : Command) → has_element P.moves c d ≡ has_element K.moves c d
  element_same c d =
      ap (λ xs. element_by d xs (is_finished P.moves.done c) (stall_of P.moves c d)) (alike.each c).read
      ∙ ap (λ f. element_by d (read_of K.moves.read c) f (stall_of P.moves c d)) (finished_same c)
      ∙ ap (element_by d (read_of K.moves.read c) (is_finished K.moves.done c)) (same-stall K.moves P.moves c d (alike.each c))

  elem_same : (c : ℕ) → may_elem P c ≡ may_elem K c
  unfolding may_elem
  elem_same c = may_same c (has_element P.moves c) (has_element K.moves c) (element_same c)

  retire_same : (c : ℕ) → may_retire P c ≡ may_retire K c
  unfolding may_retire
  retire_same c = may_same c (is_left P.moves c) (is_left K.moves c) (λ d. ap (λ b. not (is_moved d) && not b) (alike.each c).retired)

  atomic_same : may_atomic P ≡ may_atomic K
  unfolding may_atomic
  atomic_same = ap (λ (S : Spe). not (is_faulted S.status) && is_some S.channels.slot) alike.rest

-- ---- instructions

status_some : (P K : Spe) (rt : ℕ) (o : Option TagStatus) → is_some (read_status P rt o) ≡ is_some (read_status K rt o)
status_some P K rt None = refl
status_some P K rt (Some t) = refl

answer_some : (P K : Spe) (rt : ℕ) (o : Option ℕ) → is_some (read_atomic P rt o) ≡ is_some (read_atomic K rt o)
answer_some P K rt None = refl
answer_some P K rt (Some status) = refl

inbound_some : (P K : Spe) (rt : ℕ) (values : List ℕ) → is_some (read_inbound P rt values) ≡ is_some (read_inbound K rt values)
inbound_some P K rt [] = refl
inbound_some P K rt (value ∷ later) = refl

-- with other commands and events, of which as many are outstanding and the same ones show
module _ (K : Spe) (m : Moves) (e : Events) (free : outstanding_of (is_complete m) m.issued ≡ outstanding K) (shown : status_of e ≡ status_of K.events) where
  abbrev other : Spe
  other = record K { moves = m; events = e }

  abbrev counts_by : List ℕ → ℕ → Counts
  counts_by numbers bits = record {
    free = 16 - length numbers;
    tags = is_some K.tags.status;
    inbound = length K.inbound;
    outbound = 1 - length K.outbound;
    intr = 1 - length K.interrupt;
    sig1 = (register_of K.signals 1).ready;
    sig2 = (register_of K.signals 2).ready;
    event = not (bits == 0);
  }

  counts_same : counts other ≡ counts K
  counts_same = ap₂ counts_by free shown

  count_same : (ch : ℕ) → count other ch ≡ count K ch
  unfolding count
  count_same ch = ap (λ c. option_map_or (λ n. n) (count_of K.channels c ch) 0) counts_same

  write_same : (ch value : ℕ) → may_write other ch value ≡ may_write K ch value
  unfolding may_write
  write_same ch value = ap (λ n. cond (ch == 21 && is_atomic value) (is_none K.channels.slot) (nat_lt 0 n)) (count_same ch)

  read_some : (rt ch : ℕ) → is_some (read_by other rt ch) ≡ is_some (read_by K rt ch)
  unfolding read_by
  read_some rt ch =
      pick (ch == 0) _ _ _ _ refl (pick (ch == 3) _ _ _ _ refl (pick (ch == 4) _ _ _ _ refl (pick (ch == 11) _ _ _ _ refl (pick (ch == 12) _ _ _ _ refl
      (pick (ch == 24) _ _ _ _ (status_some other K rt K.tags.status) (pick (ch == 25) _ _ _ _ refl
      (pick (ch == 27) _ _ _ _ (answer_some other K rt K.channels.atomic) (pick (ch == 29) _ _ _ _ (inbound_some other K rt K.inbound) refl))))))))

  channel_some : (lines : ℕ) (op : ChannelOp) → is_some (channel lines other op) ≡ is_some (channel lines K op)
  unfolding channel
  channel_some lines (Read rt ch) =
      pick (is_read (way_of ch)) _ _ _ _
      (ap (λ n. is_some (cond (nat_lt 0 n) (read_by other rt ch) None)) (count_same ch) ∙ pick (may_read K ch) (read_by other rt ch) None (read_by K rt ch) None (read_some rt ch) refl)
      refl
  channel_some lines (Count rt ch) = pick (is_some (way_of ch)) _ _ _ _ refl refl
  channel_some lines (Write ch value) =
      pick (is_write (way_of ch)) _ _ _ _ (pick (may_write other ch value) _ _ _ _ refl refl ∙ ap (λ b. is_some (cond b (Some K) None)) (write_same ch value) ∙ pick (may_write K ch value) _ _ _ _ refl refl) refl

  followed_some : (lines : ℕ) (flow : Flow) → is_some (followed lines other flow) ≡ is_some (followed lines K flow)
  followed_some lines (Next pc) = refl
  followed_some lines (Stop code next) = refl
  followed_some lines (Halt next) = refl
  followed_some lines (Channel op) = channel_some lines op

exec_other : (lines : ℕ) (K : Spe) (m : Moves) (e : Events) → outstanding_of (is_complete m) m.issued ≡ outstanding K → status_of e ≡ status_of K.events
    → is_some (exec lines (record K { moves = m; events = e })) ≡ is_some (exec lines K)
unfolding exec
exec_other lines K m e free shown = pick (is_running K.status) _ _ _ _ (on (instr_of (word_at K.store K.pc))) refl
  where
    on : (o : Option Instr) → is_some (exec_instr lines (record K { moves = m; events = e }) o) ≡ is_some (exec_instr lines K o)
    on None = refl
    on (Some i) =
        let o = meaning i K.pc K.registers K.store in
        followed_some (record K { registers = o.regs; store = o.store }) m e free shown lines o.flow

exec_same : (lines : ℕ) (P K : Spe) → IsAlike P K → is_some (exec lines P) ≡ is_some (exec lines K)
exec_same lines P K alike =
    ap (λ (S : Spe). is_some (exec lines (record S { moves = P.moves; events = P.events }))) alike.rest
    ∙ exec_other lines K P.moves P.events (outstanding_same K.moves P.moves alike.issued (complete_same P K alike)) (none P.events (ap (λ (S : Spe). S.events.mask) alike.rest ∙ alike.masked) ∙ sym (none K.events alike.masked))
  where
    none : (e : Events) → e.mask ≡ 0 → status_of e ≡ 0
    none e masked = ap (bit_and e.pending) masked ∙ and_zero_r e.pending

-- ---- the host

taken_some : (P K : Spe) (values : List ℕ) → is_some (taken_of P values) ≡ is_some (taken_of K values)
taken_some P K [] = refl
taken_some P K (value ∷ later) = refl

interrupt_some : (P K : Spe) (values : List ℕ) → is_some (taken_interrupt_of P values) ≡ is_some (taken_interrupt_of K values)
interrupt_some P K [] = refl
interrupt_some P K (value ∷ later) = refl

given_rest : (a : HostAction) (P : Spe) → is_some (given a P) ≡ is_some (given a (rest_of P))
given_rest (Send p value) P = pick (nat_lt (length P.inbound) 4) _ _ _ _ refl refl
given_rest (Take p) P = taken_some P (rest_of P) P.outbound
given_rest (TakeIntr p) P = interrupt_some P (rest_of P) P.interrupt
given_rest (Store ea len bytes) P = refl
given_rest (Await p) P = pick (is_running P.status) _ _ _ _ refl refl
given_rest (Signal p r value) P = refl

given_same : (a : HostAction) (P K : Spe) → IsAlike P K → is_some (given a P) ≡ is_some (given a K)
given_same a P K alike = given_rest a P ∙ ap (λ S. is_some (given a S)) alike.rest ∙ sym (given_rest a K)

-- ---- states

two_each : (xs ys : List Spe) (p : ℕ) (Q : Type 0) → AllTwo IsAlike xs ys → (slice_get xs p ≡ None → slice_get ys p ≡ None → Q)
    → ((P K : Spe) → slice_get xs p ≡ Some P → slice_get ys p ≡ Some K → IsAlike P K → Q) → Q
two_each [] [] p Q all none some = none refl refl
two_each [] (y ∷ ys) p Q all none some = absurd all
two_each (x ∷ xs) [] p Q all none some = absurd all
two_each (x ∷ xs) (y ∷ ys) zero Q all none some = some x y refl refl all.0
two_each (x ∷ xs) (y ∷ ys) (suc p) Q all none some = two_each xs ys p Q all.1 none some

next-exec : (M : State) (p : ℕ) (P : Spe) → slice_get M.spes p ≡ Some P → is_some (next M (Exec p)) ≡ is_some (exec (lines_of M.memory) P)
next-exec M p P at =
    is_some_map (ended_by M (Exec p)) (act_in M p (Exec p))
    ∙ ap (λ o. is_some (option_and_then (λ Q. option_map (with_left M p) (own M.memory (Exec p) Q)) o)) at
    ∙ is_some_map (with_left M p) (own M.memory (Exec p) P)
    ∙ is_some_map (left M.memory) (exec (lines_of M.memory) P)

module _ (M N : State) (spes : AllTwo IsAlike M.spes N.spes) (lines : lines_of M.memory ≡ lines_of N.memory) (host : M.host ≡ N.host) where
  abbrev Same : Step → Type 0
  Same s = is_some (next M s) ≡ is_some (next N s)

  given_at : (p : ℕ) (a : HostAction) (f g : Given → Acted)
      → is_some (option_and_then (λ P. option_map f (given a P)) (slice_get M.spes p)) ≡ is_some (option_and_then (λ P. option_map g (given a P)) (slice_get N.spes p))
  given_at p a f g =
      two_each M.spes N.spes p (is_some (option_and_then (λ P. option_map f (given a P)) (slice_get M.spes p)) ≡ is_some (option_and_then (λ P. option_map g (given a P)) (slice_get N.spes p))) spes
      (λ at_M at_N. rw at_M (rw at_N refl))
      (λ P K at_M at_N alike. rw at_M (rw at_N (is_some_map f (given a P) ∙ given_same a P K alike ∙ sym (is_some_map g (given a K)))))

  acted_same : (a : HostAction) → is_some (acted M a) ≡ is_some (acted N a)
  unfolding acted
  acted_same (Send p value) = given_at p (Send p value) (λ g. record { state = with_spe M p g.spe; took = g.took }) (λ g. record { state = with_spe N p g.spe; took = g.took })
  acted_same (Take p) = given_at p (Take p) (λ g. record { state = with_spe M p g.spe; took = g.took }) (λ g. record { state = with_spe N p g.spe; took = g.took })
  acted_same (TakeIntr p) = given_at p (TakeIntr p) (λ g. record { state = with_spe M p g.spe; took = g.took }) (λ g. record { state = with_spe N p g.spe; took = g.took })
  acted_same (Store ea len bytes) = refl
  acted_same (Await p) = given_at p (Await p) (λ g. record { state = with_spe M p g.spe; took = g.took }) (λ g. record { state = with_spe N p g.spe; took = g.took })
  acted_same (Signal p r value) = given_at p (Signal p r value) (λ g. record { state = with_spe M p g.spe; took = g.took }) (λ g. record { state = with_spe N p g.spe; took = g.took })

  host_same : is_some (host_step M) ≡ is_some (host_step N)
  unfolding host_step
  host_same = ap (λ (h : Progress). is_some (option_and_then (λ a. option_map after_action (acted M a)) (slice_get h.script h.done))) host ∙ on (slice_get N.host.script N.host.done)
    where
      on : (o : Option HostAction) → is_some (option_and_then (λ a. option_map after_action (acted M a)) o) ≡ is_some (option_and_then (λ a. option_map after_action (acted N a)) o)
      on None = refl
      on (Some a) = is_some_map after_action (acted M a) ∙ acted_same a ∙ sym (is_some_map after_action (acted N a))

  pub allowed_alike : (s : Step) → is_some (next M s) ≡ is_some (next N s)
  allowed_alike (Exec p) =
      two_each M.spes N.spes p (Same (Exec p)) spes (λ at_M at_N. rw at_M (rw at_N refl))
      (λ P K at_M at_N alike. next-exec M p P at_M ∙ ap (λ n. is_some (exec n P)) lines ∙ exec_same (lines_of N.memory) P K alike ∙ sym (next-exec N p K at_N))
  allowed_alike (Piece p c e k) =
      two_each M.spes N.spes p (Same (Piece p c e k)) spes (λ at_M at_N. rw at_M (rw at_N refl))
      (λ P K at_M at_N alike. next-piece M p c e k P at_M ∙ piece_same P K alike c e k ∙ sym (next-piece N p c e k K at_N))
  allowed_alike (Elem p c) =
      two_each M.spes N.spes p (Same (Elem p c)) spes (λ at_M at_N. rw at_M (rw at_N refl))
      (λ P K at_M at_N alike. next-elem M p c P at_M ∙ elem_same P K alike c ∙ sym (next-elem N p c K at_N))
  allowed_alike (Retire p c) =
      two_each M.spes N.spes p (Same (Retire p c)) spes (λ at_M at_N. rw at_M (rw at_N refl))
      (λ P K at_M at_N alike. next-retire M p c P at_M ∙ retire_same P K alike c ∙ sym (next-retire N p c K at_N))
  allowed_alike (Atomic p) =
      two_each M.spes N.spes p (Same (Atomic p)) spes (λ at_M at_N. rw at_M (rw at_N refl))
      (λ P K at_M at_N alike. next-atomic M p P at_M ∙ atomic_same P K alike ∙ sym (next-atomic N p K at_N))
  allowed_alike Host = next-host M ∙ host_same ∙ sym (next-host N)
