-- What a step with its effect does to a processor, its own or another.
use Rattle.std.proofs.Common.{◌≡◌, ℕ, ◌<◌, ◌==◌, ◌&&◌, not, Bool, true, false, length, refl, sym, ◌∙◌, ap, subst, true≢false, ◌⊎◌, inl, inr}
use Rattle.std.specs.Prelude.{Option, Some, None, is_some, slice_get, cond, nat_lt, Result, Ok, Err, if◌then◌else◌}
use Rattle.cell_base.specs.declared.steps.Step.{Step}
use Rattle.cell_base.specs.declared.steps.Step.TheVariants.{Exec, Piece, Elem, Retire, Atomic, Host}
use Rattle.mfc_command.specs.declared.command.AtomicOp.{AtomicOp}
use Rattle.mfc_command.specs.declared.command.Command.{Command}
use Rattle.mfc_command.specs.declared.command.DmaFault.{DmaFault as Fault}
use Rattle.mfc_command.specs.declared.command.Kind.{Kind}
use Rattle.mfc_command.specs.declared.range.Part.{Part}
use Rattle.mfc_lists.specs.declared.Element.{Element}
use Rattle.tag_groups.specs.declared.Tags.{Tags}
use Rattle.tag_groups.specs.declared.TagStatus.{TagStatus}
use Rattle.cell_machine.specs.declared.effect.Note.{Note}
use Rattle.cell_machine.specs.declared.effect.Note.TheVariants.{Nothing, Issue, AtomicIssue, TagRead, StallRead, Ack, AtomicRead, Put, Take, Ended, Awaited, Element as Reading, Signal}
use Rattle.cell_machine.specs.declared.effect.Effect.{Effect}
use Rattle.cell_machine.specs.Spe.{Spe, Moves, is_running, is_faulted}
use Rattle.cell_machine.specs.Memory.{MainMemory, lines_of}
use Rattle.cell_machine.specs.Moves.{read_of, present, parts_in, is_stalled, stalls_of_tag, may_begin}
use Rattle.cell_machine.specs.Channels.{with_issued, with_resumed}
use Rattle.cell_machine.specs.Exec.{exec, asks}
use Rattle.cell_machine.specs.Transfers.{Left, told as told_stall, may_of, begins, may_piece, may_elem, may_retire, has_part, has_element, is_left, is_put as puts_out, is_signal, part_in, copied, sent, moved as moved_piece, with_done, with_read, with_retired, after_part, after_element, next_element, piece_of}
use Rattle.cell_machine.specs.Atomic.{Fate, fate, answered, moved, after_atomic, may_atomic, line_part}
use Rattle.cell_machine.specs.Next.{own}
use Rattle.cell_machine.specs.Effects.{told, ends, fixes, exec_effect, part_effect, copy_effect, signal_effect, told_delivery, elem_effect, plain_effect, line_effect, told_element}
use Rattle.cell_machine.specs.EffectLaws.{maker}
use Rattle.cell_machine.proofs.Same.{some_same, eq_same, eq_is}
use Rattle.cell_machine.proofs.Staying.{both, not_true}
use Rattle.cell_machine.proofs.Elements.{part-is}
use Rattle.cell_machine.proofs.Bounds.{passes, may-is, may-begun, read-is, running-not}
use Rattle.cell_machine.proofs.StepBytes.{own_effect, exec-is, piece-is, elem-is, retire-is, atomic-is, none_is}
use Rattle.race_order.specs.declared.progress.Progress.{Progress}
use Rattle.race_order.specs.Trace.{is_of, is_put, is_take}
use Rattle.race_order.specs.Status.{stepped, first_status, after_ack, issued_as}
use Rattle.race_order.specs.Premises.{is_spe}
use Rattle.race_order.proofs.Moving.{IsFit}
use Rattle.race_order.proofs.Telling.{DoesMoves, DoesSlot, DoesStatus, BoxStep, NamesOwn, IsOfExec, same-box, exec-tells}

-- ---- the commands

-- the step is no step of a command of p, and neither issues nor acknowledges one
pub record IsIdle (p : ℕ) (s : Step) (note : Note) : Type 0 where
  pub stays : (c : ℕ) (t : Progress) → stepped p c t s note ≡ t
  pub fresh : (c : ℕ) → first_status p c s note ≡ None
  pub none : (c : ℕ) → is_of p c s ≡ false

-- a piece tells nothing, or the signal that it delivers
abbrev pub TellsPiece : Command → Note → Type 0
TellsPiece d note = (note ≡ Nothing) ⊎ ((is_signal d.kind ≡ true) × ((q : ℕ) × (r : ℕ) × (note ≡ Signal q r)))

-- what becomes of the moves m of processor p, which is at fault after the step where `gone`
pub data Works (p : ℕ) (s : Step) (note : Note) (m n : Moves) (gone : Bool) : Type 0 where
  rests : n ≡ m → IsIdle p s note → Works p s note m n gone
  issues : (d : Command) → s ≡ Exec p → note ≡ Issue (length m.issued) d → n ≡ with_issued m d → IsFit d → d.tag < 32 → Works p s note m n gone
  acks : (tag : ℕ) → s ≡ Exec p → note ≡ Ack tag → n ≡ with_resumed m (stalls_of_tag m tag) → Works p s note m n gone
  copies : (c e k : ℕ) (d : Command) → s ≡ Piece p c e k → TellsPiece d note → slice_get m.issued c ≡ Some d → has_part m c e k d ≡ true → n ≡ with_done m c e k → Works p s note m n gone
  reads : (c : ℕ) (d : Command) (x : Element) → s ≡ Elem p c → note ≡ Reading x.number (parts_in x) x.flagged → slice_get m.issued c ≡ Some d → has_element m c d ≡ true
      → x.number ≡ length (read_of m.read c) → n ≡ with_read m c x → Works p s note m n gone
  fails : (c : ℕ) (d : Command) → s ≡ Elem p c → (note ≡ Nothing) ⊎ (note ≡ Ended) → slice_get m.issued c ≡ Some d → has_element m c d ≡ true → n ≡ m → gone ≡ true → Works p s note m n gone
  retires : (c : ℕ) (d : Command) → s ≡ Retire p c → note ≡ Nothing → slice_get m.issued c ≡ Some d → is_left m c d ≡ true → n ≡ with_retired m c → Works p s note m n gone

-- ---- all of it, before processor p, which was P and is Q, is settled

pub record Turn (p : ℕ) (P Q : Spe) (s : Step) (e : Effect) : Type 0 where
  pub works : Works p s e.note P.moves Q.moves (is_faulted Q.status)
  pub faulted : is_faulted P.status ≡ true → is_faulted Q.status ≡ true
  -- a slot that is taken was taken by this step, or before it and not freed
  pub slot : is_some Q.channels.slot ≡ true → ((s ≡ Exec p) × (e.note ≡ AtomicIssue)) ⊎ ((s ≡ Atomic p → ⊥) × (is_some P.channels.slot ≡ true))
  pub status : (Q.tags.status ≡ P.tags.status) ⊎ (Q.tags.status ≡ None)
  pub inbound : BoxStep p 0 e.note (length P.inbound) (length Q.inbound)
  pub outbound : BoxStep p 1 e.note (length P.outbound) (length Q.outbound)
  pub interrupt : BoxStep p 2 e.note (length P.interrupt) (length Q.interrupt)
  -- a status is fixed by a step of p alone
  pub own : is_spe p s ≡ true → e.fixed ≡ fixes Q
  pub another : is_spe p s ≡ false → (Q.tags ≡ P.tags) × (Q.moves ≡ P.moves)

-- what the step asks of its processor
pub record Asks (p : ℕ) (P : Spe) (s : Step) (e : Effect) : Type 0 where
  pub whole : is_faulted P.status ≡ false
  pub atomic : s ≡ Atomic p → is_some P.channels.slot ≡ true
  pub status : (groups issued : ℕ) → s ≡ Exec p → e.note ≡ TagRead groups issued → P.tags.status ≡ Some (record { groups = groups; issued = issued })
  pub begun : (c : ℕ) → is_of p c s ≡ true → may_begin P.moves c ≡ true
  pub names : NamesOwn p e.note

-- ---- instructions

idle_exec : (p : ℕ) (note : Note) → ((t : Progress) → after_ack t note ≡ t) → ((c : ℕ) → issued_as c note ≡ None) → IsIdle p (Exec p) note
idle_exec p note a b = record { stays = λ c t. ap (λ x. cond x (after_ack t note) t) (eq_same p) ∙ a t; fresh = λ c. ap (λ x. cond x (issued_as c note) None) (eq_same p) ∙ b c; none = λ c. refl }

exec_works : (p : ℕ) (note : Note) (m n : Moves) (gone : Bool) → IsOfExec note → DoesMoves note m n → Works p (Exec p) note m n gone
exec_works p (Issue c d) m n gone k h = issues d refl (ap (λ x. Issue x d) h.0) h.1 h.2 h.3
exec_works p (Ack tag) m n gone k h = acks tag refl refl h
exec_works p Nothing m n gone k h = rests h (idle_exec p Nothing (λ t. refl) (λ c. refl))
exec_works p AtomicIssue m n gone k h = rests h (idle_exec p AtomicIssue (λ t. refl) (λ c. refl))
exec_works p (TagRead g i) m n gone k h = rests h (idle_exec p (TagRead g i) (λ t. refl) (λ c. refl))
exec_works p (StallRead g) m n gone k h = rests h (idle_exec p (StallRead g) (λ t. refl) (λ c. refl))
exec_works p AtomicRead m n gone k h = rests h (idle_exec p AtomicRead (λ t. refl) (λ c. refl))
exec_works p (Put q b) m n gone k h = rests h (idle_exec p (Put q b) (λ t. refl) (λ c. refl))
exec_works p (Take q b) m n gone k h = rests h (idle_exec p (Take q b) (λ t. refl) (λ c. refl))
exec_works p Ended m n gone k h = rests h (idle_exec p Ended (λ t. refl) (λ c. refl))
exec_works p (Signal q r) m n gone k h = rests h (idle_exec p (Signal q r) (λ t. refl) (λ c. refl))
exec_works p (Awaited q) m n gone k h = absurd k
exec_works p (Reading a b c) m n gone k h = absurd k

no_atomic : (p : ℕ) → Exec p ≡ Atomic p → ⊥
no_atomic p e = cc

exec_slot : (p : ℕ) (note : Note) (a b : Option AtomicOp) → DoesSlot note a b → is_some b ≡ true → ((Exec p ≡ Exec p) × (note ≡ AtomicIssue)) ⊎ ((Exec p ≡ Atomic p → ⊥) × (is_some a ≡ true))
exec_slot p AtomicIssue a b h g = inl (refl, refl)
exec_slot p (Issue c d) a b h g = inr (no_atomic p, ap is_some (sym h) ∙ g)
exec_slot p (Ack tag) a b h g = inr (no_atomic p, ap is_some (sym h) ∙ g)
exec_slot p Nothing a b h g = inr (no_atomic p, ap is_some (sym h) ∙ g)
exec_slot p (TagRead x i) a b h g = inr (no_atomic p, ap is_some (sym h) ∙ g)
exec_slot p (StallRead x) a b h g = inr (no_atomic p, ap is_some (sym h) ∙ g)
exec_slot p AtomicRead a b h g = inr (no_atomic p, ap is_some (sym h) ∙ g)
exec_slot p (Put q c) a b h g = inr (no_atomic p, ap is_some (sym h) ∙ g)
exec_slot p (Take q c) a b h g = inr (no_atomic p, ap is_some (sym h) ∙ g)
exec_slot p (Signal q r) a b h g = inr (no_atomic p, ap is_some (sym h) ∙ g)
exec_slot p Ended a b h g = inr (no_atomic p, ap is_some (sym h) ∙ g)
exec_slot p (Awaited q) a b h g = inr (no_atomic p, ap is_some (sym h) ∙ g)
exec_slot p (Reading x y z) a b h g = inr (no_atomic p, ap is_some (sym h) ∙ g)

exec_status : (note : Note) (a b : Option TagStatus) → DoesStatus note a b → (b ≡ a) ⊎ (b ≡ None)
exec_status (TagRead x i) a b h = inr h.1
exec_status AtomicIssue a b h = h
exec_status (Issue c d) a b h = h
exec_status (Ack tag) a b h = h
exec_status Nothing a b h = h
exec_status (StallRead x) a b h = h
exec_status AtomicRead a b h = h
exec_status (Put q c) a b h = h
exec_status (Take q c) a b h = h
exec_status (Signal q r) a b h = h
exec_status Ended a b h = h
exec_status (Awaited q) a b h = h
exec_status (Reading x y z) a b h = h

exec_reads : (note : Note) (groups issued : ℕ) (a b : Option TagStatus) → note ≡ TagRead groups issued → DoesStatus note a b → a ≡ Some (record { groups = groups; issued = issued })
exec_reads note groups issued a b e h = (subst (λ k. DoesStatus k a b) e h).0

not_faulted : (P : Spe) → is_running P.status ≡ true → is_faulted P.status ≡ false
not_faulted P runs = on (is_faulted P.status) refl
  where
    on : (b : Bool) → is_faulted P.status ≡ b → is_faulted P.status ≡ false
    on true e = absurd (running-not P.status runs e)
    on false e = e

-- a step of one processor, with what it asks
pub record Own (p : ℕ) (P Q : Spe) (s : Step) (e : Effect) : Type 0 where
  pub turn : Turn p P Q s e
  pub asks : Asks p P s e

exec_own : (p : ℕ) (m : MainMemory) (P Q : Spe) → exec (lines_of m) P ≡ Some Q → Own p P Q (Exec p) (exec_effect p P Q)
exec_own p m P Q made =
    let t = exec-tells (lines_of m) p P Q made in
    let x = t.0 in
    let note : Note = told p P Q (asks P) in
    record {
      turn = record {
        works = exec_works p note P.moves Q.moves (is_faulted Q.status) x.fits x.moves;
        faulted = λ f. absurd (true≢false (sym f ∙ not_faulted P t.1));
        slot = exec_slot p note P.channels.slot Q.channels.slot x.slot;
        status = exec_status note P.tags.status Q.tags.status x.status;
        inbound = x.inbound;
        outbound = x.outbound;
        interrupt = x.interrupt;
        own = λ h. refl;
        another = λ h. absurd (true≢false (sym (eq_same p) ∙ h));
      };
      asks = record {
        whole = not_faulted P t.1;
        atomic = λ e. absurd (no_atomic p e);
        status = λ groups issued a b. exec_reads note groups issued P.tags.status Q.tags.status b x.status;
        begun = λ c h. absurd (true≢false (sym h));
        names = x.own;
      };
    }

-- ---- the flow controller

-- a part that is copied, and a bit of the stall status, have nothing to do with these
record Alike (P Q : Spe) : Type 0 where
  moves : Q.moves ≡ P.moves
  status : Q.status ≡ P.status
  slot : Q.channels.slot ≡ P.channels.slot
  tags : Q.tags ≡ P.tags
  inbound : Q.inbound ≡ P.inbound
  outbound : Q.outbound ≡ P.outbound
  interrupt : Q.interrupt ≡ P.interrupt

alike_then : (P Q R : Spe) → Alike P Q → Alike Q R → Alike P R
alike_then P Q R a b = record {
  moves = b.moves ∙ a.moves;
  status = b.status ∙ a.status;
  slot = b.slot ∙ a.slot;
  tags = b.tags ∙ a.tags;
  inbound = b.inbound ∙ a.inbound;
  outbound = b.outbound ∙ a.outbound;
  interrupt = b.interrupt ∙ a.interrupt;
}

told_alike : (b : Bool) (P : Spe) (tag : ℕ) → Alike P (cond b (told_stall P tag) P)
told_alike true P tag = record { moves = refl; status = refl; slot = refl; tags = refl; inbound = refl; outbound = refl; interrupt = refl }
told_alike false P tag = record { moves = refl; status = refl; slot = refl; tags = refl; inbound = refl; outbound = refl; interrupt = refl }

copied_alike : (memory : MainMemory) (P : Spe) (b : Bool) (x : Part) → Alike P (copied memory P b x).spe
unfolding copied
copied_alike memory P true x = record { moves = refl; status = refl; slot = refl; tags = refl; inbound = refl; outbound = refl; interrupt = refl }
copied_alike memory P false x = record { moves = refl; status = refl; slot = refl; tags = refl; inbound = refl; outbound = refl; interrupt = refl }

sent_alike : (memory : MainMemory) (P : Spe) (x : Part) → Alike P (sent memory P x).spe
unfolding sent
sent_alike memory P x = record { moves = refl; status = refl; slot = refl; tags = refl; inbound = refl; outbound = refl; interrupt = refl }

moved_piece_alike : (memory : MainMemory) (P : Spe) (kind : Kind) (x : Part) → Alike P (moved_piece memory P kind x).spe
moved_piece_alike memory P kind x = on (is_signal kind)
  where
    on : (b : Bool) → Alike P (if b then sent memory P x else copied memory P (puts_out kind) x).spe
    on true = sent_alike memory P x
    on false = copied_alike memory P (puts_out kind) x

-- a step of a command of p
abbrev IsOfQueue : ℕ → Step → Type 0
IsOfQueue p (Piece q c e k) = q ≡ p
IsOfQueue p (Elem q c) = q ≡ p
IsOfQueue p (Retire q c) = q ≡ p
IsOfQueue p (Exec q) = ⊥
IsOfQueue p (Atomic q) = ⊥
IsOfQueue p Host = ⊥

queue_spe : (p : ℕ) (s : Step) → IsOfQueue p s → is_spe p s ≡ true
queue_spe p (Piece q c e k) h = ap (λ x. x == p) h ∙ eq_same p
queue_spe p (Elem q c) h = ap (λ x. x == p) h ∙ eq_same p
queue_spe p (Retire q c) h = ap (λ x. x == p) h ∙ eq_same p
queue_spe p (Exec q) h = absurd h
queue_spe p (Atomic q) h = absurd h
queue_spe p Host h = absurd h

queue_atomic : (p : ℕ) (s : Step) → IsOfQueue p s → s ≡ Atomic p → ⊥
queue_atomic p (Piece q c e k) h e2 = cc
queue_atomic p (Elem q c) h e = cc
queue_atomic p (Retire q c) h e = cc
queue_atomic p (Exec q) h e = h
queue_atomic p (Atomic q) h e = h
queue_atomic p Host h e = h

queue_exec : (p : ℕ) (s : Step) → IsOfQueue p s → s ≡ Exec p → ⊥
queue_exec p (Piece q c e k) h e2 = cc
queue_exec p (Elem q c) h e = cc
queue_exec p (Retire q c) h e = cc
queue_exec p (Exec q) h e = h
queue_exec p (Atomic q) h e = h
queue_exec p Host h e = h

-- no mailbox is named
record IsQuiet (p : ℕ) (note : Note) : Type 0 where
  put : (k : ℕ) → is_put p k note ≡ false
  take : (k : ℕ) → is_take p k note ≡ false
  names : NamesOwn p note

-- what it does to all but the commands
record Beside (P Q : Spe) : Type 0 where
  slot : Q.channels.slot ≡ P.channels.slot
  tags : Q.tags ≡ P.tags
  inbound : Q.inbound ≡ P.inbound
  outbound : Q.outbound ≡ P.outbound
  interrupt : Q.interrupt ≡ P.interrupt

beside : (P K Q : Spe) → Beside P K → Alike K Q → Beside P Q
beside P K Q b a = record { slot = a.slot ∙ b.slot; tags = a.tags ∙ b.tags; inbound = a.inbound ∙ b.inbound; outbound = a.outbound ∙ b.outbound; interrupt = a.interrupt ∙ b.interrupt }

queue_turn : (p : ℕ) (P Q : Spe) (s : Step) (e : Effect) → IsOfQueue p s → Works p s e.note P.moves Q.moves (is_faulted Q.status) → is_faulted P.status ≡ false → IsQuiet p e.note → Beside P Q → e.fixed ≡ fixes Q
    → ((c : ℕ) → is_of p c s ≡ true → may_begin P.moves c ≡ true) → Own p P Q s e
queue_turn p P Q s e of works whole quiet like fixed begun = record {
  turn = record {
    works = works;
    faulted = λ f. absurd (true≢false (sym f ∙ whole));
    slot = λ h. inr (queue_atomic p s of, ap is_some (sym like.slot) ∙ h);
    status = inl (ap (λ (t : Tags). t.status) like.tags);
    inbound = same-box p 0 _ _ e.note (quiet.put 0) (quiet.take 0) (ap length like.inbound);
    outbound = same-box p 1 _ _ e.note (quiet.put 1) (quiet.take 1) (ap length like.outbound);
    interrupt = same-box p 2 _ _ e.note (quiet.put 2) (quiet.take 2) (ap length like.interrupt);
    own = λ h. fixed;
    another = λ h. absurd (true≢false (sym (queue_spe p s of) ∙ h));
  };
  asks = record { whole = whole; atomic = λ h. absurd (queue_atomic p s of h); status = λ groups issued a b. absurd (queue_exec p s of a); begun = begun; names = quiet.names };
}

nothing_quiet : (p : ℕ) → IsQuiet p Nothing
nothing_quiet p = record { put = λ k. refl; take = λ k. refl; names = tt }

signal_quiet : (p q r : ℕ) → IsQuiet p (Signal q r)
signal_quiet p q r = record { put = λ k. refl; take = λ k. refl; names = tt }

delivery_is : (n : ℕ) (o : _) → (told_delivery n o ≡ Nothing) ⊎ ((q : ℕ) × (r : ℕ) × (told_delivery n o ≡ Signal q r))
delivery_is n None = inl refl
delivery_is n (Some d) = on (nat_lt d.spe n)
  where
    on : (b : Bool) → ((if b then Signal d.spe d.register else Nothing) ≡ Nothing) ⊎ ((q : ℕ) × (r : ℕ) × ((if b then Signal d.spe d.register else Nothing) ≡ Signal q r))
    on true = inr (d.spe, d.register, refl)
    on false = inl refl

piece_tells : (n p : ℕ) (d : Command) (x : Part) (left : Left) → TellsPiece d (part_effect n p d x left).note × ((part_effect n p d x left).fixed ≡ fixes left.spe)
piece_tells n p d x left = on (is_signal d.kind) refl
  where
    on : (b : Bool) → is_signal d.kind ≡ b
        → TellsPiece d (if b then signal_effect n p x left else copy_effect p (puts_out d.kind) x left.spe).note × ((if b then signal_effect n p x left else copy_effect p (puts_out d.kind) x left.spe).fixed ≡ fixes left.spe)
    on false is = (inl refl, refl)
    on true is = (told (delivery_is n left.sent), refl)
      where
        told : (told_delivery n left.sent ≡ Nothing) ⊎ ((q : ℕ) × (r : ℕ) × (told_delivery n left.sent ≡ Signal q r)) → TellsPiece d (told_delivery n left.sent)
        told (inl h) = inl h
        told (inr h) = inr (is, h)

piece_quiet : (p : ℕ) (d : Command) (note : Note) → TellsPiece d note → IsQuiet p note
piece_quiet p d note (inl h) = subst (IsQuiet p) (sym h) (nothing_quiet p)
piece_quiet p d note (inr h) = subst (IsQuiet p) (sym h.1.2) (signal_quiet p h.1.0 h.1.1)

whole_of : (P : Spe) (c : ℕ) (f : Command → Bool) → may_of P c f ≡ true → is_faulted P.status ≡ false
whole_of P c f h = not_true _ (both (not (is_faulted P.status)) (begins P.moves c f) h).0

-- of the command that a step is of
pub own-command : (p c d : ℕ) → (p == p && c == d) ≡ true → c ≡ d
own-command p c d h = eq_is c d (both (p == p) (c == d) h).1

piece_own : (n p c e0 k : ℕ) (m : MainMemory) (P : Spe) (d : Command) (z : Element) → may_piece P c e0 k ≡ true → slice_get P.moves.issued c ≡ Some d → present P.moves.read c d ≡ Some z
    → Own p P (piece_of m P c k d z).spe (Piece p c e0 k) (part_effect n p d (part_in z k) (piece_of m P c k d z))
unfolding may_piece
piece_own n p c e0 k m P d z may at there =
    let has = passes P c (has_part P.moves c e0 k) d may at in
    let of = part-is P.moves c e0 k d has in
    let same : of.element ≡ z = some_same of.element z (sym of.there ∙ there) in
    let number : z.number ≡ e0 = sym (ap (λ (y : Element). y.number) same) ∙ of.number in
    let K : Spe = record P { moves = with_done P.moves c z.number k } in
    let Q : Spe = (piece_of m P c k d z).spe in
    let like : Alike K Q = alike_then K (after_part P c z.number k d) Q (told_alike (is_stalled (with_done P.moves c z.number k) c d) K d.tag) (moved_piece_alike m (after_part P c z.number k d) d.kind (part_in z k)) in
    let e : Effect = part_effect n p d (part_in z k) (piece_of m P c k d z) in
    let tells = piece_tells n p d (part_in z k) (piece_of m P c k d z) in
    queue_turn p P Q (Piece p c e0 k) e refl
    (copies c e0 k d refl tells.0 at has (like.moves ∙ ap (λ n. with_done P.moves c n k) number))
    (whole_of P c (has_part P.moves c e0 k) may) (piece_quiet p d e.note tells.0) (beside P K Q (record { slot = refl; tags = refl; inbound = refl; outbound = refl; interrupt = refl }) like) tells.1
    (λ b h. subst (λ x. may_begin P.moves x ≡ true) (own-command p c b h) (may-begun P c (has_part P.moves c e0 k) may))

ended_quiet : (p : ℕ) (b : Bool) → IsQuiet p (if b then Ended else Nothing)
ended_quiet p true = record { put = λ k. refl; take = λ k. refl; names = tt }
ended_quiet p false = record { put = λ k. refl; take = λ k. refl; names = tt }

ended_is : (b : Bool) → ((if b then Ended else Nothing) ≡ Nothing) ⊎ ((if b then Ended else Nothing) ≡ Ended)
ended_is true = inr refl
ended_is false = inl refl

elem_own : (p c : ℕ) (m : MainMemory) (P : Spe) (d : Command) → may_elem P c ≡ true → slice_get P.moves.issued c ≡ Some d
    → Own p P (after_element P c d (next_element (lines_of m) P c d)) (Elem p c) (elem_effect (lines_of m) p c P (after_element P c d (next_element (lines_of m) P c d)) d)
unfolding may_elem
elem_own p c m P d may at = on (next_element (lines_of m) P c d) refl
  where
    has : has_element P.moves c d ≡ true
    has = passes P c (has_element P.moves c) d may at

    begun : (b : ℕ) → is_of p b (Elem p c) ≡ true → may_begin P.moves b ≡ true
    begun b h = subst (λ x. may_begin P.moves x ≡ true) (own-command p c b h) (may-begun P c (has_element P.moves c) may)

    effect : Spe → Effect
    effect Q = elem_effect (lines_of m) p c P Q d

    on : (r : Result Element Fault) → next_element (lines_of m) P c d ≡ r → Own p P (after_element P c d r) (Elem p c) (elem_effect (lines_of m) p c P (after_element P c d r) d)
    on (Ok x) is =
        let K : Spe = record P { moves = with_read P.moves c x } in
        let Q : Spe = after_element P c d (Ok x) in
        let like : Alike K Q = told_alike (is_stalled (with_read P.moves c x) c d) K d.tag in
        let note : (elem_effect (lines_of m) p c P Q d).note ≡ Reading x.number (parts_in x) x.flagged = ap (told_element P Q) is in
        queue_turn p P Q (Elem p c) (elem_effect (lines_of m) p c P Q d) refl
        (reads c d x refl note at has (read-is (lines_of m) P c d x is).1 like.moves)
        (whole_of P c (has_element P.moves c) may) (subst (IsQuiet p) (sym note) (record { put = λ k. refl; take = λ k. refl; names = tt }))
        (beside P K Q (record { slot = refl; tags = refl; inbound = refl; outbound = refl; interrupt = refl }) like) refl begun
    on (Err kind) is =
        let Q : Spe = after_element P c d (Err kind) in
        let note : (elem_effect (lines_of m) p c P Q d).note ≡ (if ends P Q then Ended else Nothing) = ap (told_element P Q) is in
        queue_turn p P Q (Elem p c) (elem_effect (lines_of m) p c P Q d) refl
        (fails c d refl (subst (λ n. (n ≡ Nothing) ⊎ (n ≡ Ended)) (sym note) (ended_is (ends P Q))) at has refl refl)
        (whole_of P c (has_element P.moves c) may) (subst (IsQuiet p) (sym note) (ended_quiet p (ends P Q)))
        (record { slot = refl; tags = refl; inbound = refl; outbound = refl; interrupt = refl }) refl begun

retire_own : (p c : ℕ) (P : Spe) → may_retire P c ≡ true → Own p P (record P { moves = with_retired P.moves c }) (Retire p c) (plain_effect (record P { moves = with_retired P.moves c }))
unfolding may_retire
retire_own p c P may =
    let is = may-is P c (is_left P.moves c) may in
    let Q : Spe = record P { moves = with_retired P.moves c } in
    queue_turn p P Q (Retire p c) (plain_effect Q) refl (retires c is.0 refl refl is.1 is.2 refl) (whole_of P c (is_left P.moves c) may) (nothing_quiet p)
    (record { slot = refl; tags = refl; inbound = refl; outbound = refl; interrupt = refl }) refl
    (λ b h. subst (λ x. may_begin P.moves x ≡ true) (own-command p c b h) (may-begun P c (is_left P.moves c) may))

-- ---- the atomic command

moved_alike : (memory : MainMemory) (P : Spe) (a : AtomicOp) (f : Fate) → Alike P (moved memory P a f).spe
moved_alike memory P a Fate.Got = copied_alike memory P false (line_part a)
moved_alike memory P a Fate.Stored = copied_alike memory P true (line_part a)
moved_alike memory P a Fate.Lost = record { moves = refl; status = refl; slot = refl; tags = refl; inbound = refl; outbound = refl; interrupt = refl }

line_note : (p : ℕ) (a : AtomicOp) (Q : Spe) (f : Fate) → ((line_effect p a Q f).note ≡ Nothing) × ((line_effect p a Q f).fixed ≡ fixes Q)
line_note p a Q Fate.Got = (refl, refl)
line_note p a Q Fate.Stored = (refl, refl)
line_note p a Q Fate.Lost = (refl, refl)

atomic_own : (p : ℕ) (m : MainMemory) (P : Spe) (a : AtomicOp) → may_atomic P ≡ true → P.channels.slot ≡ Some a → Own p P (after_atomic m P a).spe (Atomic p) (line_effect p a (after_atomic m P a).spe (fate m P a))
unfolding may_atomic
atomic_own p m P a may at =
    let K : Spe = answered m P a in
    let Q : Spe = (after_atomic m P a).spe in
    let like : Alike K Q = moved_alike m K a (fate m P a) in
    let e : Effect = line_effect p a Q (fate m P a) in
    let told = line_note p a Q (fate m P a) in
    let quiet : IsQuiet p e.note = subst (IsQuiet p) (sym told.0) (nothing_quiet p) in
    let whole : is_faulted P.status ≡ false = not_true _ (both (not (is_faulted P.status)) (is_some P.channels.slot) may).0 in
    record {
      turn = record {
        works = rests like.moves (record { stays = λ c t. refl; fresh = λ c. refl; none = λ c. refl });
        faulted = λ f. absurd (true≢false (sym f ∙ whole));
        slot = λ h. absurd (true≢false (sym (ap is_some (sym like.slot) ∙ h)));
        status = inl (ap (λ (t : Tags). t.status) like.tags);
        inbound = same-box p 0 _ _ e.note (quiet.put 0) (quiet.take 0) (ap length like.inbound);
        outbound = same-box p 1 _ _ e.note (quiet.put 1) (quiet.take 1) (ap length like.outbound);
        interrupt = same-box p 2 _ _ e.note (quiet.put 2) (quiet.take 2) (ap length like.interrupt);
        own = λ h. told.1;
        another = λ h. absurd (true≢false (sym (eq_same p) ∙ h));
      };
      asks = record { whole = whole; atomic = λ h. ap is_some at; status = λ groups issued x y. absurd (not_exec x); begun = λ c h. absurd (true≢false (sym h)); names = quiet.names };
    }
  where
    not_exec : Atomic p ≡ Exec p → ⊥
    not_exec e = cc

-- ---- any step of processor p

pub own-turn : (n p : ℕ) (m : MainMemory) (s : Step) (P : Spe) (x : Left) (e : Effect) → maker s ≡ Some p → own m s P ≡ Some x → own_effect n p m s P ≡ Some e → Own p P x.spe s e
own-turn n p m (Exec q) P x e by is effect =
    let same : q ≡ p = some_same q p by in
    subst (λ k. Own p P x.spe (Exec k) e) (sym same) (exec-is n p q m P x e (λ y f. Own p P y.spe (Exec p) f) is effect (λ Q made. exec_own p m P Q made))
own-turn n p m (Piece q c e0 k) P x e by is effect =
    let same : q ≡ p = some_same q p by in
    subst (λ j. Own p P x.spe (Piece j c e0 k) e) (sym same) (piece-is n p q c e0 k m P x e (λ y f. Own p P y.spe (Piece p c e0 k) f) is effect (λ d z may at there. piece_own n p c e0 k m P d z may at there))
own-turn n p m (Elem q c) P x e by is effect =
    let same : q ≡ p = some_same q p by in
    subst (λ j. Own p P x.spe (Elem j c) e) (sym same) (elem-is n p q c m P x e (λ y f. Own p P y.spe (Elem p c) f) is effect (λ d may at. elem_own p c m P d may at))
own-turn n p m (Retire q c) P x e by is effect =
    let same : q ≡ p = some_same q p by in
    subst (λ j. Own p P x.spe (Retire j c) e) (sym same) (retire-is n p q c m P x e (λ y f. Own p P y.spe (Retire p c) f) is effect (λ may. retire_own p c P may))
own-turn n p m (Atomic q) P x e by is effect =
    let same : q ≡ p = some_same q p by in
    subst (λ j. Own p P x.spe (Atomic j) e) (sym same) (atomic-is n p q m P x e (λ y f. Own p P y.spe (Atomic p) f) is effect (λ a may at. atomic_own p m P a may at))
own-turn n p m Host P x e by is effect = none_is _ p by
