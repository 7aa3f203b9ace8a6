-- What a watch answers of a step is what a settled run asks of it.
use Rattle.std.proofs.Common.{◌≡◌, ℕ, zero, suc, ◌+◌, ◌<◌, ◌≤◌, ◌==◌, ◌||◌, ◌&&◌, Bool, true, false, List, [], ◌∷◌, length, take, refl, sym, ap, ◌∙◌, subst, arith, ◌⊎◌, inl, inr, Option, Some, None}
use Rattle.std.proofs.lemmas.Bool.Decides.{nat_tests}
use Rattle.std.proofs.lemmas.List.{length-map}
use Rattle.std.specs.Prelude.{◌↔◌, not, is_some, nat_le, if◌then◌else◌, Contains, slice_index_or}
use Rattle.std.specs.Option.{option_map_or}
use Rattle.std.proofs.lemmas.Bool.{and_parts, and_from, eqb-true, eq-eqb, both_ways}
use Rattle.cell_base.specs.declared.steps.Step.TheVariants.{Exec}
use Rattle.cell_base.specs.declared.steps.ChannelOp.{ChannelOp}
use Rattle.cell_base.specs.declared.steps.ChannelOp.TheVariants.{Read, Count, Write}
use Rattle.cell_machine.specs.declared.effect.Note.{Note}
use Rattle.cell_machine.specs.declared.effect.Note.TheVariants.{Nothing, Issue, AtomicIssue, TagRead, StallRead, Ack, AtomicRead, Put, Take, Ended, Awaited, Element, Signal}
use Rattle.cell_machine.specs.Transfers.{is_signal}
use Rattle.cell_machine.specs.Run.{Ran}
use Rattle.mfc_command.specs.declared.command.Command.{Command}
use Rattle.mfc_command.specs.Order.{is_list}
use Rattle.race_order.specs.Trace.{IsStep}
use Rattle.race_order.specs.Queue.{Has}
use Rattle.race_order.specs.Told.{trace_in}
use Rattle.race_order.specs.declared.progress.Progress.{Progress as Come}
use Rattle.run_permute.specs.declared.kept.Kept.{Kept}
use Rattle.run_permute.specs.declared.watch.Watch.{Watch}
use Rattle.run_permute.specs.SettledLists.{Each, IsIn}
use Rattle.run_permute.specs.Online.{IsShutAt, AreFewOpen, HasStalledList, IsStalledTag, MayQueue, MayReadStall, IsSettledAt, is_plain, is_read_of}
use Rattle.run_permute.specs.Watches.{IsShut, IsKept, AreKept, AreLeft, Watches, MayOperate, MayTell, cmds_of, does, tag_of, may_acknowledge, may_operate, may_tell, is_issue, stalled_from}
use Rattle.run_permute.proofs.Apart.{fit-in}
use Rattle.run_permute.proofs.SettledEntries.{in-found, Found}
use Rattle.run_permute.proofs.Sweeps.{shut-now}
use Rattle.run_permute.proofs.Stalls.{only-from, from-only, tag-at, only-at, stalled-once}

never : false ≡ true → ⊥
never h = cc

-- ---- numbers among others

pub contained : (x : ℕ) (xs : List ℕ) → Contains xs x → IsIn x xs
contained x [] h = absurd (omega (arith, h.1))
contained x (y ∷ ys) h = on h.0 h.1 h.2 (λ r. contained x ys r)
  where
    on : (k : ℕ) → k < length (y ∷ ys) → slice_index_or (y ∷ ys) k x ≡ x → (Contains ys x → IsIn x ys) → IsIn x (y ∷ ys)
    on zero low e rest = inl e
    on (suc k) low e rest = inr (rest (k, omega arith, e))

pub contains : (x : ℕ) (xs : List ℕ) → IsIn x xs → Contains xs x
contains x [] h = absurd h
contains x (y ∷ ys) (inl e) = (0, omega arith, e)
contains x (y ∷ ys) (inr h) = let r = contains x ys h in (r.0 + 1, (let l : r.0 < length ys = r.1 in omega arith), more r.0 r.2)
  where
    more : (k : ℕ) → slice_index_or ys k x ≡ x → slice_index_or (y ∷ ys) (k + 1) x ≡ x
    more k e = let s : k + 1 ≡ suc k = omega arith in ap (λ n. slice_index_or (y ∷ ys) n x) s ∙ e

-- ---- how many aren't closed

module _ (m : Ran) (p j : ℕ) (here : IsStep (trace_in m) j (Exec p)) (kept : List Kept) (k : AreKept m p j (j + 1) kept) where
  pub few-open : length kept ≤ 15 → AreFewOpen m p j
  few-open few = record {
    unclosed = cmds_of kept;
    few = let same : length (cmds_of kept) ≡ length kept = length-map kept (λ (o : Kept). o.cmd) in omega arith;
    others = λ c s h. on c s h (k.all c s h);
  }
    where
      on : (c : ℕ) (s : Come) → Has (take j (trace_in m)) p c s → IsIn c (cmds_of kept) ⊎ IsShut m p j (j + 1) c s → Contains (cmds_of kept) c ⊎ IsShutAt m p c j
      on c s h (inl i) = inl (contains c (cmds_of kept) i)
      on c s h (inr shut) = inr (shut-now m p j c s here h shut)

  pub open-few : AreLeft m p j kept → AreFewOpen m p j → length kept ≤ 15
  open-few left f =
      let same : length (cmds_of kept) ≡ length kept = length-map kept (λ (o : Kept). o.cmd) in
      let low : length (cmds_of kept) ≤ length f.unclosed = fit-in (cmds_of kept) f.unclosed k.apart inside in
      let few : length f.unclosed ≤ 15 = f.few in
      omega arith
    where
      both : (os : List Kept) → Each (IsKept m p j (j + 1)) os → AreLeft m p j os → Each (λ o. IsKept m p j (j + 1) o × (IsShutAt m p o.cmd j → ⊥)) os
      both [] h g = tt
      both (o ∷ os) h g = ((h.0, g.0), both os h.1 g.1)

      inside : (c : ℕ) → IsIn c (cmds_of kept) → IsIn c f.unclosed
      inside c i = on (in-found (λ (o : Kept). o.cmd) (λ o. IsKept m p j (j + 1) o × (IsShutAt m p o.cmd j → ⊥)) kept c (both kept k.each left) i)
        where
          on : Found (λ (o : Kept). o.cmd) (λ o. IsKept m p j (j + 1) o × (IsShutAt m p o.cmd j → ⊥)) c → IsIn c f.unclosed
          on x = or (f.others x.entry.cmd x.entry.progress x.holds.0.has)
            where
              or : Contains f.unclosed x.entry.cmd ⊎ IsShutAt m p x.entry.cmd j → IsIn c f.unclosed
              or (inl h) = subst (λ d. IsIn d f.unclosed) x.is (contained x.entry.cmd f.unclosed h)
              or (inr shut) = absurd (x.holds.1 shut)

-- ---- operations

is-read : (ch : ℕ) (o : Option ChannelOp) → does (is_read_of ch) o ≡ true → (rt : ℕ) × (o ≡ Some (Read rt ch))
is-read ch None h = absurd (never h)
is-read ch (Some (Read rt c)) h = (rt, ap (λ x. Some (Read rt x)) (eqb-true c ch h))
is-read ch (Some (Count rt c)) h = absurd (never h)
is-read ch (Some (Write c v)) h = absurd (never h)

is-ack : (o : Option ChannelOp) (t : ℕ) → tag_of o ≡ Some t → o ≡ Some (Write 26 t)
is-ack None t h = absurd (cc)
is-ack (Some (Read rt c)) t h = absurd (cc)
is-ack (Some (Count rt c)) t h = absurd (cc)
is-ack (Some (Write c v)) t h = on (c == 26) refl h
  where
    on : (b : Bool) → (c == 26) ≡ b → (if b then Some v else None) ≡ Some t → Some (Write c v) ≡ Some (Write 26 t)
    on true e q = let s : c ≡ 26 = eqb-true c 26 e in let u : v ≡ t = cc in cc
    on false e q = absurd (cc)

some-op : (a b : ChannelOp) → Some a ≡ Some b → a ≡ b
some-op a b h = cc

module _ (m : Ran) (p j : ℕ) (here : IsStep (trace_in m) j (Exec p)) (w : Watch) (ws : Watches m p j (j + 1) w) (earlier : (k : ℕ) → k < j → IsSettledAt m p k) where
  -- a read of the stall status
  stalls-to : (left : AreLeft m p j w.kept.items) → (not w.stalled && is_some (stalled_from None w.kept.items)) ≡ true → MayReadStall m p j
  stalls-to left h =
      let parts = and_parts _ _ h in
      record { none = λ r. none w.stalled parts.0 (ws.stalled.1 r); stalled = some (stalled_from None w.kept.items) refl parts.1 }
    where
      none : (b : Bool) → not b ≡ true → b ≡ true → ⊥
      none true h g = never h
      none false h g = never g

      some : (o : Option ℕ) → stalled_from None w.kept.items ≡ o → is_some o ≡ true → HasStalledList m p j
      some None e h = absurd (never h)
      some (Some t) e h = (tag-at m p j here w.kept.items ws.commands left t (only-from t w.kept.items e)).stalled

  stalls-from : (left : AreLeft m p j w.kept.items) → MayReadStall m p j → (not w.stalled && is_some (stalled_from None w.kept.items)) ≡ true
  stalls-from left may = and_from _ _ (none w.stalled refl) (ap is_some (from-only may.stalled.progress.command.tag w.kept.items (only-at m p j here w.kept.items ws.commands left may.stalled.progress.command.tag (record { stalled = may.stalled; same = refl }))))
    where
      none : (b : Bool) → w.stalled ≡ b → not b ≡ true
      none true e = absurd (may.none (ws.stalled.0 e))
      none false e = refl

  module _ (o : Option ChannelOp) (left : does (is_read_of 25) o ≡ true → AreLeft m p j w.kept.items) where
    plain-of : does (is_read_of 25) o ≡ true → (op : ChannelOp) → o ≡ Some op → is_plain op ≡ true
    plain-of h op e =
        let r = is-read 25 o h in
        subst (λ x. is_plain x ≡ true) (some-op (Read r.0 25) op (sym r.1 ∙ e)) refl

    no-ack : does (is_read_of 25) o ≡ true → (t : ℕ) → o ≡ Some (Write 26 t) → ⊥
    no-ack h t e = never (sym (ap (does (is_read_of 25)) e) ∙ h)

    acks-to : (t : Option ℕ) → tag_of o ≡ t → does (is_read_of 25) o ≡ false → may_acknowledge w o t ≡ true → MayOperate m p j o
    acks-to (Some t) e off h =
        let parts = and_parts _ _ h in
        let is = is-ack o t e in
        record {
          plain = λ op q. subst (λ x. is_plain x ≡ true) (some-op (Write 26 t) op (sym is ∙ q)) refl;
          stalls = λ on. absurd (both_ways _ off on);
          acknowledges = λ u q. subst (IsStalledTag m p j) (eqb-true w.tag t parts.1 ∙ same t u (sym is ∙ q)) (ws.tag parts.0);
        }
      where
        same : (t u : ℕ) → Some (Write 26 t) ≡ Some (Write 26 u) → t ≡ u
        same t u q = cc
    acks-to None e off h = record {
      plain = λ op q. sym (ap (λ x. option_map_or is_plain x true) q) ∙ h;
      stalls = λ on. absurd (both_ways _ off on);
      acknowledges = λ u q. absurd (none u (sym e ∙ ap tag_of q));
    }
      where
        none : (u : ℕ) → None ≡ Some u → ⊥
        none u q = cc

    acks-from : (t : Option ℕ) → tag_of o ≡ t → MayOperate m p j o → may_acknowledge w o t ≡ true
    acks-from (Some t) e may =
        let is = is-ack o t e in
        let tagged = may.acknowledges t is in
        let flag = ws.stalled.1 tagged.read in
        and_from _ _ flag (eq-eqb w.tag t (stalled-once m p j earlier w.tag t (ws.tag flag) tagged))
    acks-from None e may = on o refl
      where
        on : (x : Option ChannelOp) → o ≡ x → option_map_or is_plain x true ≡ true
        on None q = refl
        on (Some op) q = may.plain op q

    pub operates : (may_operate w o ≡ true) ↔ MayOperate m p j o
    operates = on (does (is_read_of 25) o) refl
      where
        on : (b : Bool) → does (is_read_of 25) o ≡ b → ((if b then not w.stalled && is_some (stalled_from None w.kept.items) else may_acknowledge w o (tag_of o)) ≡ true) ↔ MayOperate m p j o
        on true e = (
          λ h. record { plain = plain-of e; stalls = λ q. stalls-to (left e) h; acknowledges = λ t q. absurd (no-ack e t q) },
          λ may. stalls-from (left e) (may.stalls e),
        )
        on false e = (λ h. acks-to (tag_of o) refl e h, λ may. acks-from (tag_of o) refl may)

  -- ---- notes

  le-nat : (a b : ℕ) → nat_le a b ≡ true → a ≤ b
  le-nat a b h = grind (arith, nat_tests)

  nat-le : (a b : ℕ) → a ≤ b → nat_le a b ≡ true
  nat-le a b h = grind (arith, nat_tests)

  not-or : (a b : Bool) → not (a || b) ≡ true → (a ≡ false) × (b ≡ false)
  not-or true b h = absurd (never h)
  not-or false true h = absurd (never h)
  not-or false false h = (refl, refl)

  not-true : (b : Bool) → not b ≡ true → b ≡ false
  not-true true h = absurd (never h)
  not-true false h = refl

  true-not : (b : Bool) → b ≡ false → not b ≡ true
  true-not true h = absurd (never (sym h))
  true-not false h = refl

  or-not : (a b : Bool) → (a ≡ true → ⊥) → (b ≡ true → ⊥) → not (a || b) ≡ true
  or-not true b f g = absurd (f refl)
  or-not false true f g = absurd (g refl)
  or-not false false f g = refl

  issue-same : (c d : ℕ) (a b : Command) → Issue c a ≡ Issue d b → a ≡ b
  issue-same c d a b h = cc

  pub tells : (note : Note) → (is_issue note ≡ true → AreLeft m p j w.kept.items) → (may_tell w note ≡ true) ↔ MayTell m p j note
  tells (Issue c command) left = (
    λ h.
        let whole = and_parts _ _ h in
        let parts = and_parts _ _ whole.1 in
        let flags = not-or w.requested (w.stalled && is_list command.kind) parts.0 in
        record {
          queues = λ d other q. subst (MayQueue m p j) (issue-same c d command other q)
              (record {
                unsent = not-true (is_signal command.kind) whole.0;
                requested = λ r. both_ways _ flags.0 (ws.requested.1 r);
                room = few-open m p j here w.kept.items ws.commands (le-nat (length w.kept.items) 15 parts.1);
                list = λ list r. both_ways _ flags.1 (and_from _ _ (ws.stalled.1 r) list);
              });
          atomic = λ q r. absurd (no-atomic q);
        },
    λ may.
        let queue = may.queues c command refl in
        and_from _ _ (true-not (is_signal command.kind) queue.unsent) (and_from _ _
        (or-not w.requested (w.stalled && is_list command.kind) (λ r. queue.requested (ws.requested.0 r)) (λ b. let parts = and_parts _ _ b in queue.list parts.1 (ws.stalled.0 parts.0)))
        (nat-le (length w.kept.items) 15 (open-few m p j here w.kept.items ws.commands (left refl) queue.room))),
  )
    where
      no-atomic : Issue c command ≡ AtomicIssue → ⊥
      no-atomic q = cc
  tells AtomicIssue left = (λ h. record { queues = λ d other q. absurd (no-issue d other q); atomic = λ q r. none w.atomic h (ws.atomic.1 r) }, λ may. free w.atomic refl may)
    where
      no-issue : (d : ℕ) (other : Command) → AtomicIssue ≡ Issue d other → ⊥
      no-issue d other q = cc

      none : (b : Bool) → not b ≡ true → b ≡ true → ⊥
      none true h g = never h
      none false h g = never g

      free : (b : Bool) → w.atomic ≡ b → MayTell m p j AtomicIssue → not b ≡ true
      free true e may = absurd (may.atomic refl (ws.atomic.0 e))
      free false e may = refl
  tells Nothing left = (λ h. record { queues = λ d other q. cc; atomic = λ q r. cc }, λ may. refl)
  tells (TagRead a b) left = (λ h. record { queues = λ d other q. cc; atomic = λ q r. cc }, λ may. refl)
  tells (StallRead a) left = (λ h. record { queues = λ d other q. cc; atomic = λ q r. cc }, λ may. refl)
  tells (Ack a) left = (λ h. record { queues = λ d other q. cc; atomic = λ q r. cc }, λ may. refl)
  tells AtomicRead left = (λ h. record { queues = λ d other q. cc; atomic = λ q r. cc }, λ may. refl)
  tells (Put a b) left = (λ h. record { queues = λ d other q. cc; atomic = λ q r. cc }, λ may. refl)
  tells (Take a b) left = (λ h. record { queues = λ d other q. cc; atomic = λ q r. cc }, λ may. refl)
  tells Ended left = (λ h. record { queues = λ d other q. cc; atomic = λ q r. cc }, λ may. refl)
  tells (Awaited a) left = (λ h. record { queues = λ d other q. cc; atomic = λ q r. cc }, λ may. refl)
  tells (Signal a y) left = (λ h. record { queues = λ d other q. cc; atomic = λ q r. cc }, λ may. refl)
  tells (Element a b c) left = (λ h. record { queues = λ d other q. cc; atomic = λ q r. cc }, λ may. refl)
