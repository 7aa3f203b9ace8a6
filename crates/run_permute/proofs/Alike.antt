-- Two runs with the same first steps: what is so at a place of these in one of them is so in the other.
use Rattle.std.proofs.Common.{◌≡◌, ℕ, ◌+◌, ◌<◌, ◌≤◌, Bool, true, List, [], ◌∷◌, length, map, take, refl, sym, ap, ◌∙◌, subst, arith, ◌⊎◌, inl, inr, Some}
use Rattle.std.specs.Prelude.{◌↔◌, slice_get, Contains}
use Rattle.std.proofs.lemmas.List.{take-take}
use Rattle.cell_base.specs.declared.steps.Step.{Step}
use Rattle.cell_base.specs.declared.steps.Step.TheVariants.{Host}
use Rattle.cell_base.specs.declared.steps.ChannelOp.{ChannelOp}
use Rattle.cell_base.specs.declared.steps.ChannelOp.TheVariants.{Write}
use Rattle.mfc_command.specs.declared.command.Command.{Command}
use Rattle.mfc_command.specs.Order.{is_list}
use Rattle.cell_machine.specs.declared.effect.Note.{Note}
use Rattle.cell_machine.specs.declared.effect.Note.TheVariants.{Signal}
use Rattle.cell_machine.specs.Run.{Ran, spe_of}
use Rattle.cell_machine.specs.Traces.{trace_of}
use Rattle.race_order.specs.Trace.{IsStep, IsStepOf, Notes}
use Rattle.race_order.specs.Queue.{Has}
use Rattle.race_order.specs.Told.{trace_in}
use Rattle.race_order.specs.declared.progress.Progress.{Progress as Come}
use Rattle.race_order.proofs.Places.{get_take}
use Rattle.run_walk.specs.Ordered.{IsOrdered}
use Rattle.race_check.proofs.Prefixes.{first_of, ordered-first, trace_in-first}
use Rattle.reorder_laws.specs.Places.{until, Asks, IssuesAtomic}
use Rattle.run_permute.specs.declared.kept.Kept.{Kept}
use Rattle.run_permute.specs.declared.watch.Watch.{Watch}
use Rattle.run_permute.specs.SettledLists.{Each, IsIn}
use Rattle.run_permute.specs.Online.{Does, Pends, IsShutAt, AreFewOpen, IsStalledList, HasStalledList, IsStalledTag, IsStallRead, IsRequested, IsAtomicIssued, MayQueue, MayReadStall, IsSettledAt, is_read_of, is_write_to}
use Rattle.run_permute.specs.Watches.{IsKnown, IsShut, IsKept, AreKept, Watches, AreWatches}

-- the first j steps of the two runs are the same, and so are their traces and their order
pub record Alike (m n : Ran) (j : ℕ) : Type 0 where
  pub setup : m.setup ≡ n.setup
  pub runs : (k : ℕ) → k ≤ j → until m k ≡ until n k
  pub steps : (k : ℕ) → k < j → slice_get m.steps k ≡ slice_get n.steps k
  pub traces : (k : ℕ) → k ≤ j → take k (trace_in m) ≡ take k (trace_in n)
  pub events : (k : ℕ) → k < j → slice_get (trace_in m) k ≡ slice_get (trace_in n) k
  pub to : (i k : ℕ) → k < j → IsOrdered m i k → IsOrdered n i k
  pub from : (i k : ℕ) → k < j → IsOrdered n i k → IsOrdered m i k

pub flipped : (m n : Ran) (j : ℕ) → Alike m n j → Alike n m j
flipped m n j a = record {
  setup = sym a.setup;
  runs = λ k low. sym (a.runs k low);
  steps = λ k low. sym (a.steps k low);
  traces = λ k low. sym (a.traces k low);
  events = λ k low. sym (a.events k low);
  to = a.from;
  from = a.to;
}

-- a run and its first j steps
pub alike-first : (m n : Ran) (j : ℕ) → trace_of n ≡ Some (trace_in n) → m ≡ first_of n j → Alike m n j
alike-first m n j told first =
    let trace : trace_in m ≡ take j (trace_in n) = ap trace_in first ∙ trace_in-first n j told in
    let steps : m.steps ≡ take j n.steps = ap (λ (r : Ran). r.steps) first in
    let setup : m.setup ≡ n.setup = ap (λ (r : Ran). r.setup) first in
    record {
      setup = setup;
      runs = λ k low. ap (λ (r : Ran). until r k) first ∙ ap (λ (xs : List Step). let r : Ran = record { setup = n.setup; steps = xs } in r) (take-take k j n.steps low);
      steps = λ k low. ap (λ xs. slice_get xs k) steps ∙ get_take n.steps j k low;
      traces = λ k low. ap (take k) trace ∙ take-take k j (trace_in n) low;
      events = λ k low. ap (λ t. slice_get t k) trace ∙ get_take (trace_in n) j k low;
      to = λ i k low o. (ordered-first n j i k told low).0 (subst (λ r. IsOrdered r i k) first o);
      from = λ i k low o. subst (λ r. IsOrdered r i k) (sym first) ((ordered-first n j i k told low).1 o);
    }

module _ (m n : Ran) (j : ℕ) (a : Alike m n j) where
  -- ---- at a place

  asks-on : (k p : ℕ) (op : ChannelOp) → k < j → Asks m k p op → Asks n k p op
  asks-on k p op low x = record { step = sym (a.steps k low) ∙ x.step; spe = x.spe; at = ap (λ r. spe_of r p) (sym (a.runs k (omega arith))) ∙ x.at; asks_is = x.asks_is }

  does-on : (test : ChannelOp → Bool) (p k : ℕ) → k < j → Does test m p k → Does test n p k
  does-on test p k low d = record { op = d.op; asked = asks-on k p d.op low d.asked; passes = d.passes }

  notes-on : (k : ℕ) (step : Step) (note : Note) → k < j → Notes (trace_in m) k step note → Notes (trace_in n) k step note
  notes-on k step note low x = record { event = x.event; at = sym (a.events k low) ∙ x.at; is = x.is; notes = x.notes }

  step-on : (k : ℕ) (step : Step) → k < j → IsStep (trace_in m) k step → IsStep (trace_in n) k step
  step-on k step low x = record { event = x.event; at = sym (a.events k low) ∙ x.at; is = x.is }

  of-on : (k p c : ℕ) → k < j → IsStepOf (trace_in m) k p c → IsStepOf (trace_in n) k p c
  of-on k p c low x = record { event = x.event; at = sym (a.events k low) ∙ x.at; is = x.is }

  of-back : (k p c : ℕ) → k < j → IsStepOf (trace_in n) k p c → IsStepOf (trace_in m) k p c
  of-back k p c low x = record { event = x.event; at = a.events k low ∙ x.at; is = x.is }

  has-on : (k p c : ℕ) (s : Come) → k ≤ j → Has (take k (trace_in m)) p c s → Has (take k (trace_in n)) p c s
  has-on k p c s low h = subst (λ t. Has t p c s) (a.traces k low) h

  has-back : (k p c : ℕ) (s : Come) → k ≤ j → Has (take k (trace_in n)) p c s → Has (take k (trace_in m)) p c s
  has-back k p c s low h = subst (λ t. Has t p c s) (sym (a.traces k low)) h

  shut-on : (p c k : ℕ) → k < j → IsShutAt m p c k → IsShutAt n p c k
  shut-on p c k low s = record {
    progress = s.progress;
    has = has-on k p c s.progress (omega arith) s.has;
    complete = s.complete;
    ordered = λ i less own. a.to i k low (s.ordered i less (of-back i p c (omega arith) own));
  }

  few-on : (p k : ℕ) → k < j → AreFewOpen m p k → AreFewOpen n p k
  few-on p k low f = record {
    unclosed = f.unclosed;
    few = f.few;
    others = λ c s h. elim (f.others c s (has-back k p c s (omega arith) h)) [ inl among ↦ inl among | inr shut ↦ inr (shut-on p c k low shut) ];
  }

-- what begins and ends may be told of either run
pends-on : (A B C D : ℕ → Type 0) (j k : ℕ) → k ≤ j → ((x : ℕ) → x < j → A x → C x) → ((x : ℕ) → x < j → D x → B x) → Pends A B k → Pends C D k
pends-on A B C D j k low begins ends p =
    let below : p.place < k = p.below in
    record { place = p.place; below = p.below; begins = begins p.place (omega arith) p.begins; goes_on = λ x above less d. p.goes_on x above less (ends x (omega arith) d) }

module _ (m n : Ran) (j : ℕ) (a : Alike m n j) where
  back : Alike n m j
  back = flipped m n j a

  list-on : (p k c : ℕ) (s : Come) → k < j → IsStalledList m p k c s → IsStalledList n p k c s
  list-on p k c s low l = record {
    has = has-on m n j a k p c s (omega arith) l.has;
    list = l.list;
    is_open = λ shut. l.is_open (shut-on n m j back p c k low shut);
    only = λ d t h listed. elim (l.only d t (has-back m n j a k p d t (omega arith) h) listed) [ inl same ↦ inl same | inr shut ↦ inr (shut-on m n j a p d k low shut) ];
    stalled = l.stalled;
  }

  has-list-on : (p k : ℕ) → k < j → HasStalledList m p k → HasStalledList n p k
  has-list-on p k low h = record { list = h.list; progress = h.progress; is = list-on p k h.list h.progress low h.is }

  requested-on : (p k : ℕ) → k ≤ j → IsRequested m p k → IsRequested n p k
  requested-on p k low r = pends-on _ _ _ _ j k low (λ x less d. does-on m n j a (is_write_to 23) p x less d) (λ x less d. does-on n m j back (is_read_of 24) p x less d) r

  read-on : (p k : ℕ) → k ≤ j → IsStallRead m p k → IsStallRead n p k
  read-on p k low r = pends-on _ _ _ _ j k low (λ x less d. does-on m n j a (is_read_of 25) p x less d) (λ x less d. does-on n m j back (is_write_to 26) p x less d) r

  atomic-on : (p k : ℕ) → k ≤ j → IsAtomicIssued m p k → IsAtomicIssued n p k
  atomic-on p k low r = pends-on _ _ _ _ j k low (λ x less d. notes-on m n j a x _ _ less d) (λ x less d. does-on n m j back (is_read_of 27) p x less d) r

  tag-on : (p k tag : ℕ) → k ≤ j → IsStalledTag m p k tag → IsStalledTag n p k tag
  unfolding read-on pends-on has-list-on
  tag-on p k tag low t =
      let below : t.read.place < k = t.read.below in
      record { read = read-on p k low t.read; stalled = has-list-on p t.read.place (omega arith) t.stalled; same = t.same }

module _ (m n : Ran) (j : ℕ) (a : Alike m n j) where
  other : Alike n m j
  other = flipped m n j a

  -- ---- a settled run

  pub settled-on : (p k : ℕ) → k < j → IsSettledAt m p k → IsSettledAt n p k
  settled-on p k low s =
      let far : k ≤ j = omega arith in
      record {
        operation = λ op x. s.operation op (asks-on n m j other k p op low x);
        queues = λ c command x.
            let q = s.queues c command (notes-on n m j other k _ _ low x) in
            record {
              requested = λ r. q.requested (requested-on n m j other p k far r);
              room = few-on m n j a p k low q.room;
              list = λ l r. q.list l (read-on n m j other p k far r);
              unsent = q.unsent;
            };
        stalls = λ d.
            let q = s.stalls (does-on n m j other (is_read_of 25) p k low d) in
            record { none = λ r. q.none (read-on n m j other p k far r); stalled = has-list-on m n j a p k low q.stalled };
        acknowledges = λ tag x. tag-on m n j a p k tag far (s.acknowledges tag (asks-on n m j other k p (Write 26 tag) low x));
        atomic = λ x r. s.atomic (notes-on n m j other k _ _ low x) (atomic-on n m j other p k far r);
        host = λ q register x. s.host q register (notes-on n m j other k _ _ low x);
      }

  -- ---- what is kept

  known-on : (p i : ℕ) → IsKnown m p j i → IsKnown n p j i
  known-on p i k = record { place = k.place; below = k.below; step = step-on m n j a k.place _ k.below k.step; ordered = a.to i k.place k.below k.ordered }

  commands-shut : (p c : ℕ) (s : Come) → IsShut m p j j c s → IsShut n p j j c s
  commands-shut p c s h = record { complete = h.complete; known = λ i low own. known-on p i (h.known i low (of-back m n j a i p c low own)) }

  command-on : (p : ℕ) (o : Kept) → IsKept m p j j o → IsKept n p j j o
  command-on p o k = record {
    has = has-on m n j a j p o.cmd o.progress (omega arith) k.has;
    steps = λ i among. let s = k.steps i among in (s.0, of-on m n j a i p o.cmd s.0 s.1);
    left = λ i low own. elim (k.left i low (of-back m n j a i p o.cmd low own)) [ inl among ↦ inl among | inr known ↦ inr (known-on p i known) ];
  }

  each-on : (p : ℕ) (os : List Kept) → Each (IsKept m p j j) os → Each (IsKept n p j j) os
  each-on p [] e = tt
  each-on p (o ∷ os) e = (command-on p o e.0, each-on p os e.1)

  commands-on : (p : ℕ) (kept : List Kept) → AreKept m p j j kept → AreKept n p j j kept
  commands-on p kept k = record {
    each = each-on p kept k.each;
    all = λ c s h. elim (k.all c s (has-back m n j a j p c s (omega arith) h)) [ inl among ↦ inl among | inr shut ↦ inr (commands-shut p c s shut) ];
    apart = k.apart;
  }

  watch-on : (p : ℕ) (w : Watch) → Watches m p j j w → Watches n p j j w
  watch-on p w x =
      let far : j ≤ j = omega arith in
      record {
        requested = (λ h. requested-on m n j a p j far (x.requested.0 h), λ r. x.requested.1 (requested-on n m j other p j far r));
        atomic = (λ h. atomic-on m n j a p j far (x.atomic.0 h), λ r. x.atomic.1 (atomic-on n m j other p j far r));
        stalled = (λ h. read-on m n j a p j far (x.stalled.0 h), λ r. x.stalled.1 (read-on n m j other p j far r));
        tag = λ h. tag-on m n j a p j w.tag far (x.tag h);
        commands = commands-on p w.kept.items x.commands;
      }

  pub watches-on : (ws : List Watch) → AreWatches m j ws → AreWatches n j ws
  watches-on ws w = record { many = w.many ∙ ap (λ s. length s.entries) a.setup; each = λ p v e. watch-on p v (w.each p v e) }
