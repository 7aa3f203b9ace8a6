-- Who puts a value into a mailbox, or takes one out of it.
use Rattle.std.proofs.Common.{◌≡◌, ◌≢◌, ℕ, ◌<◌, refl, sym, ap, subst, true≢false, ◌⊎◌, inl, inr}
use Rattle.std.specs.Prelude.{Some, true, false, cond, ◌&&◌, ◌==◌}
use Rattle.cell_base.specs.declared.steps.Step.{Step}
use Rattle.cell_base.specs.declared.steps.Step.TheVariants.{Exec, Host}
use Rattle.cell_host.specs.declared.HostAction.{HostAction}
use Rattle.cell_host.specs.declared.HostAction.TheVariants.{Send, Take as TakeOut, TakeIntr, Store, Await, Signal as SignalTo}
use Rattle.cell_machine.specs.declared.effect.Note.{Note}
use Rattle.cell_machine.specs.declared.effect.Note.TheVariants.{Nothing, Ended, Element as Reading, Signal}
use Rattle.cell_machine.specs.Spe.{Spe}
use Rattle.cell_machine.specs.Memory.{MainMemory}
use Rattle.cell_machine.specs.Moves.{parts_in}
use Rattle.cell_machine.specs.Effects.{host_tells}
use Rattle.cell_machine.specs.EffectLaws.{maker}
use Rattle.cell_machine.proofs.Same.{eq_is}
use Rattle.cell_machine.proofs.Staying.{both}
use Rattle.reorder_laws.specs.Deeds.{Did, Ends, Goes, Plain, SetParams, SetMask, AskTags, TakeTags, TakeStalls, TakeAtomic, TakeValue, Queue, FillSlot, Resume, PutValue, PutInterrupt, TakeSignal, LeaveEvents, note_of}
use Rattle.reorder_laws.specs.Happens.{TellsSignal, Happens, Passes, Executes, Copies, Reads, Faults, Retires, Answers, Hosts, HostPasses}
use Rattle.reorder_laws.specs.Recorded.{Recorded, IsRecorded, count_of, is_put_note, is_take_note}
use Rattle.reorder_laws.specs.Frames.{IsFaultless}
use Rattle.reorder_laws.proofs.Steps.{not_true_false, IsOff}
use Rattle.reorder_laws.proofs.Frames.{happens-at, off-at}

-- values come into mailbox 0 from the host, and into the others from their processor
abbrev pub putter : ℕ → ℕ → Step
putter p m = cond (m == 0) Host (Exec p)

-- and go the other way
abbrev pub taker : ℕ → ℕ → Step
taker p m = cond (m == 0) (Exec p) Host

-- what is so of a note that puts, or takes
abbrev Puts : ℕ → ℕ → Note → Step → Type 0
Puts p m note s = (is_put_note p m note ≡ true → s ≡ putter p m) × (is_take_note p m note ≡ true → s ≡ taker p m)

none_of : (p m : ℕ) (note : Note) (s : Step) → (is_put_note p m note ≡ false) × (is_take_note p m note ≡ false) → Puts p m note s
none_of p m note s off = (λ h. not_true_false _ (is_put_note p m note) h off.0, λ h. not_true_false _ (is_take_note p m note) h off.1)

at_box : (p m k : ℕ) → ((p == p) && (k == m)) ≡ true → k ≡ m
at_box p m k h = eq_is k m (both (p == p) (k == m) h).1

did_puts : (p m : ℕ) (d : Did) → Puts p m (note_of p d) (Exec p)
did_puts p m (Ends status x) = (λ h. absurd (true≢false (sym h)), λ h. absurd (true≢false (sym h)))
did_puts p m (Goes x Plain) = (λ h. absurd (true≢false (sym h)), λ h. absurd (true≢false (sym h)))
did_puts p m (Goes x (SetParams y)) = (λ h. absurd (true≢false (sym h)), λ h. absurd (true≢false (sym h)))
did_puts p m (Goes x (SetMask y)) = (λ h. absurd (true≢false (sym h)), λ h. absurd (true≢false (sym h)))
did_puts p m (Goes x (TakeSignal y)) = (λ h. absurd (true≢false (sym h)), λ h. absurd (true≢false (sym h)))
did_puts p m (Goes x (LeaveEvents y)) = (λ h. absurd (true≢false (sym h)), λ h. absurd (true≢false (sym h)))
did_puts p m (Goes x (AskTags y)) = (λ h. absurd (true≢false (sym h)), λ h. absurd (true≢false (sym h)))
did_puts p m (Goes x (TakeTags y)) = (λ h. absurd (true≢false (sym h)), λ h. absurd (true≢false (sym h)))
did_puts p m (Goes x (TakeStalls y)) = (λ h. absurd (true≢false (sym h)), λ h. absurd (true≢false (sym h)))
did_puts p m (Goes x TakeAtomic) = (λ h. absurd (true≢false (sym h)), λ h. absurd (true≢false (sym h)))
did_puts p m (Goes x TakeValue) = (λ h. absurd (true≢false (sym h)), λ h. ap (λ k. taker p k) (at_box p m 0 h))
did_puts p m (Goes x (Queue n y)) = (λ h. absurd (true≢false (sym h)), λ h. absurd (true≢false (sym h)))
did_puts p m (Goes x (FillSlot y)) = (λ h. absurd (true≢false (sym h)), λ h. absurd (true≢false (sym h)))
did_puts p m (Goes x (Resume t y)) = (λ h. absurd (true≢false (sym h)), λ h. absurd (true≢false (sym h)))
did_puts p m (Goes x (PutValue y)) = (λ h. ap (λ k. putter p k) (at_box p m 1 h), λ h. absurd (true≢false (sym h)))
did_puts p m (Goes x (PutInterrupt y)) = (λ h. ap (λ k. putter p k) (at_box p m 2 h), λ h. absurd (true≢false (sym h)))

host_at : (q p m k : ℕ) → ((q == p) && (k == m)) ≡ true → k ≡ m
host_at q p m k h = eq_is k m (both (q == p) (k == m) h).1

host_puts : (p m : ℕ) (a : HostAction) → Puts p m (host_tells a) Host
host_puts p m (Send q value) = (λ h. ap (λ k. putter p k) (host_at q p m 0 h), λ h. absurd (true≢false (sym h)))
host_puts p m (TakeOut q) = (λ h. absurd (true≢false (sym h)), λ h. ap (λ k. taker p k) (host_at q p m 1 h))
host_puts p m (TakeIntr q) = (λ h. absurd (true≢false (sym h)), λ h. ap (λ k. taker p k) (host_at q p m 2 h))
host_puts p m (Store ea len bytes) = (λ h. absurd (true≢false (sym h)), λ h. absurd (true≢false (sym h)))
host_puts p m (Await q) = (λ h. absurd (true≢false (sym h)), λ h. absurd (true≢false (sym h)))
host_puts p m (SignalTo q register value) = (λ h. absurd (true≢false (sym h)), λ h. absurd (true≢false (sym h)))

puts_as : (p m : ℕ) (note n : Note) (s t : Step) → note ≡ n → s ≡ t → Puts p m n t → Puts p m note s
puts_as p m note n s t told st h = subst (λ k. Puts p m k s) (sym told) (subst (Puts p m n) (sym st) h)

signal_puts : (p m : ℕ) (note : Note) (s : Step) → TellsSignal note → Puts p m note s
signal_puts p m note s (inl e) = puts_as p m note Nothing s s e refl (none_of p m Nothing s (refl, refl))
signal_puts p m note s (inr (q, r, e)) = puts_as p m note (Signal q r) s s e refl (none_of p m (Signal q r) s (refl, refl))

fault_puts : (p m : ℕ) (note : Note) (s : Step) → (note ≡ Nothing) ⊎ (note ≡ Ended) → Puts p m note s
fault_puts p m note s (inl e) = puts_as p m note Nothing s s e refl (none_of p m Nothing s (refl, refl))
fault_puts p m note s (inr e) = puts_as p m note Ended s s e refl (none_of p m Ended s (refl, refl))

step_puts : (memory : MainMemory) (s : Step) (note : Note) (p m : ℕ) (P Q : Spe) → ((q : ℕ) → maker s ≡ Some q → q ≢ p → IsOff p note) → Happens memory s note p P Q → Puts p m note s
step_puts memory s note p m P Q others (Passes q by ne is) = none_of p m note s (others q by ne m)
step_puts memory s note p m P Q others (Executes d st made told is) = puts_as p m note (note_of p d) s (Exec p) told st (did_puts p m d)
step_puts memory s note p m P Q others (Copies c e k d x store st at has there number told is) = signal_puts p m note s told
step_puts memory s note p m P Q others (Reads c d x st at has el told is) = puts_as p m note (Reading x.number (parts_in x) x.flagged) s s told refl (none_of p m (Reading x.number (parts_in x) x.flagged) s (refl, refl))
step_puts memory s note p m P Q others (Faults c d kind st at has told is) = fault_puts p m note s told
step_puts memory s note p m P Q others (Retires c d st at left told is) = puts_as p m note Nothing s s told refl (none_of p m Nothing s (refl, refl))
step_puts memory s note p m P Q others (Answers a store st slot told is) = puts_as p m note Nothing s s told refl (none_of p m Nothing s (refl, refl))
step_puts memory s note p m P Q others (Hosts a st of may told is) = puts_as p m note (host_tells a) s Host told st (host_puts p m a)
step_puts memory s note p m P Q others (HostPasses a st of told is) = puts_as p m note (host_tells a) s Host told st (host_puts p m a)

module _ (r : Recorded) (rec : IsRecorded r) (sound : IsFaultless r) (i p m : ℕ) (h : i < r.size) (low : p < count_of r) where
  here : Puts p m (r.effect i).note (r.step i)
  here =
      step_puts (r.state i).memory (r.step i) (r.effect i).note p m _ _
      (λ q by ne. off-at r rec sound i q p h by (λ e. ne (sym e))) (happens-at r rec sound i p h low)

  pub put-maker : is_put_note p m (r.effect i).note ≡ true → r.step i ≡ putter p m
  put-maker = here.0

  pub take-maker : is_take_note p m (r.effect i).note ≡ true → r.step i ≡ taker p m
  take-maker = here.1
