-- What holds of each processor after the steps of a run, and that each step keeps it.
use Rattle.std.proofs.Common.{◌≡◌, ℕ, zero, suc, ◌+◌, ◌<◌, ◌≤◌, Bool, true, false, List, [], ◌∷◌, ◌++◌, length, arith, refl, sym, ◌∙◌, ap, subst, true≢false, ◌⊎◌, inl, inr, length-append, zero-add}
use Rattle.std.specs.Prelude.{Option, Some, None, is_some, slice_get, cond, option_map, count_by, take, IsBitSet}
use Rattle.std.specs.Option.{option_map_or}
use Rattle.std.proofs.lemmas.List.Sums.{sum_by-append}
use Rattle.cell_base.specs.declared.steps.Step.{Step}
use Rattle.cell_base.specs.declared.steps.Step.TheVariants.{Exec, Atomic}
use Rattle.mfc_command.specs.declared.command.Command.{Command}
use Rattle.tag_groups.specs.declared.Tags.{Tags}
use Rattle.tag_groups.specs.declared.Request.{Request}
use Rattle.tag_groups.specs.declared.TagStatus.{TagStatus}
use Rattle.tag_groups.specs.Settle.{is_met, fixed_at, settled_tags, idle_groups}
use Rattle.cell_machine.specs.declared.effect.Note.TheVariants.{AtomicIssue}
use Rattle.cell_machine.specs.Traces.{Event}
use Rattle.cell_machine.specs.Spe.{Spe, Moves, is_faulted}
use Rattle.cell_machine.specs.Moves.{busy}
use Rattle.cell_machine.specs.Tags.{settled}
use Rattle.cell_machine.specs.Effects.{fixes}
use Rattle.cell_machine.proofs.Same.{get-within, get-last, get-cases, get-past, some_same, complete-at}
use Rattle.cell_machine.proofs.Staying.{get_more}
use Rattle.cell_machine.proofs.ListSteps.{AreInOrder}
use Rattle.race_order.specs.declared.progress.Progress.{Progress}
use Rattle.race_order.specs.Trace.{Trace, IsStep, puts, takes, is_put, is_take}
use Rattle.race_order.specs.Status.{status}
use Rattle.race_order.specs.Queue.{Has}
use Rattle.race_order.specs.Stages.{progress_of, KeepsStatus}
use Rattle.race_order.specs.Orderly.{IsTaken}
use Rattle.race_order.specs.Premises.{is_spe, IsNext, IsStatus}
use Rattle.race_order.proofs.Small.{get-there, not-yet}
use Rattle.race_order.proofs.Telling.{BoxStep, one_if}
use Rattle.race_order.proofs.Turns.{Turn}
use Rattle.race_order.proofs.StatusSteps.{AreFit, status-step, order-step, fit-step}
use Rattle.race_order.proofs.Tagging.{idle-complete}

-- ---- the invariant

-- as many values were put into a mailbox and not taken as it has
abbrev pub HoldsBox : ℕ → ℕ → Trace → List ℕ → Type 0
HoldsBox p k trace values = puts p k trace ≡ takes p k trace + length values

pub record SpeKeeps (p : ℕ) (trace : Trace) (P : Spe) : Type 0 where
  pub still : settled P ≡ P
  pub order : AreInOrder P.moves
  pub fit : AreFit P.moves
  pub status : KeepsStatus p trace P
  pub slot : is_some P.channels.slot ≡ true → IsTaken trace p
  pub inbound : HoldsBox p 0 trace P.inbound
  pub outbound : HoldsBox p 1 trace P.outbound
  pub interrupt : HoldsBox p 2 trace P.interrupt
  -- an unread tag status is the one that was fixed last
  pub tags : is_faulted P.status ≡ false → (st : TagStatus) → P.tags.status ≡ Some st → IsStatus trace p st.groups st.issued

-- ---- one more event at the end

take-whole : {X : Type 0} (xs : List X) (x : X) → take (length xs + 1) (xs ++ x ∷ []) ≡ xs ++ x ∷ []
take-whole xs x = whole (xs ++ x ∷ []) (length xs + 1) (length-append xs (x ∷ []))
  where
    whole : {X : Type 0} (ys : List X) (n : ℕ) → length ys ≡ n → take n ys ≡ ys
    whole [] zero h = refl
    whole [] (suc n) h = refl
    whole (y ∷ ys) zero h = absurd (omega (arith, h))
    whole (y ∷ ys) (suc n) h = ap (λ l. y ∷ l) (whole ys n (omega (arith, h)))

pub take-less : {X : Type 0} (xs ys : List X) (n : ℕ) → n ≤ length xs → take n (xs ++ ys) ≡ take n xs
take-less xs ys zero h = refl
take-less [] ys (suc n) h = absurd (omega (arith, h))
take-less (x ∷ xs) ys (suc n) h = ap (λ l. x ∷ l) (take-less xs ys n (omega (arith, h)))

pub take-all : {X : Type 0} (xs ys : List X) → take (length xs) (xs ++ ys) ≡ xs
take-all [] ys = refl
take-all (x ∷ xs) ys = ap (λ l. x ∷ l) (take-all xs ys)

count-snoc : (f : Event → Bool) (xs : List Event) (x : Event) → count_by f (xs ++ x ∷ []) ≡ count_by f xs + one_if (f x)
count-snoc f xs x = sum_by-append (λ y. one_if (f y)) xs (x ∷ []) ∙ ap (λ n. count_by f xs + n) (zero-add (one_if (f x)))

-- ---- the slot

-- nothing stands behind the last place
past_last : (trace : Trace) (e : Event) (k : ℕ) (step : Step) → length trace < k → IsStep (trace ++ e ∷ []) k step → ⊥
past_last trace e k step past is = let low = get-within (trace ++ e ∷ []) k is.event is.at in let long = length-append trace (e ∷ []) in omega (arith, low, long, past)

slot_new : (p : ℕ) (trace : Trace) (e : Event) → e.step ≡ Exec p → e.effect.note ≡ AtomicIssue → IsTaken (trace ++ e ∷ []) p
slot_new p trace e is told = record {
  place = length trace;
  issue = record { event = e; at = get-last trace e; is = is; notes = told };
  none = λ k past step. past_last trace e k (Atomic p) past step;
}

slot_old : (p : ℕ) (trace : Trace) (e : Event) → (e.step ≡ Atomic p → ⊥) → IsTaken trace p → IsTaken (trace ++ e ∷ []) p
slot_old p trace e other was = record {
  place = was.place;
  issue = record { event = was.issue.event; at = get_more trace (e ∷ []) was.place was.issue.event was.issue.at; is = was.issue.is; notes = was.issue.notes };
  none = λ k past step. get-cases trace e step.event k ⊥ step.at (λ last same. other (sym (ap (λ (x : Event). x.step) same) ∙ step.is)) (λ old. was.none k past (record { event = step.event; at = old; is = step.is }));
}

-- ---- the mailboxes

box_next : (p k : ℕ) (trace : Trace) (e : Event) (xs ys : List ℕ) → BoxStep p k e.effect.note (length xs) (length ys) → HoldsBox p k trace xs → HoldsBox p k (trace ++ e ∷ []) ys
box_next p k trace e xs ys step was =
    let more = count-snoc (λ x. is_put p k x.effect.note) trace e in
    let less = count-snoc (λ x. is_take p k x.effect.note) trace e in
    let moved = step.moved in
    omega (arith, more, less, moved, was)

-- ---- the tag status

pub issued-next : (p : ℕ) (trace : Trace) (P : Spe) → KeepsStatus p trace P → IsNext trace p (length P.moves.issued)
issued-next p trace P keeps = record {
  below = λ b low. on b (status p b trace) refl (get-there P.moves.issued b low) (keeps.issued b);
  above = λ b high. none (status p b trace) (keeps.issued b ∙ get-past P.moves.issued b high);
}
  where
    nothing : (x : Command) → None ≡ Some x → ⊥
    nothing x e = cc

    on : (b : ℕ) (o : Option Progress) → status p b trace ≡ o → (x : Command) × (slice_get P.moves.issued b ≡ Some x) → option_map (λ (s : Progress). s.command) (status p b trace) ≡ slice_get P.moves.issued b → (s : Progress) × Has trace p b s
    on b (Some s) at x same = (s, record { is = at })
    on b None at x same = absurd (nothing x.0 (sym (ap (option_map (λ (s : Progress). s.command)) at) ∙ same ∙ x.1))

    none : (o : Option Progress) → option_map (λ (s : Progress). s.command) o ≡ None → o ≡ None
    none None h = refl
    none (Some s) h = absurd (cc)

-- what is told of a command, where the flow controller isn't at fault
pub record IsCome (p : ℕ) (trace : Trace) (P : Spe) (c : ℕ) (s : Progress) : Type 0 where
  pub command : Command
  pub at : slice_get P.moves.issued c ≡ Some command
  pub same : s ≡ progress_of P.moves c command

pub has-come : (p : ℕ) (trace : Trace) (P : Spe) (c : ℕ) (s : Progress) → KeepsStatus p trace P → is_faulted P.status ≡ false → Has trace p c s → IsCome p trace P c s
has-come p trace P c s keeps whole has = on (slice_get P.moves.issued c) refl (sym has.is ∙ keeps.come whole c)
  where
    nothing : Some s ≡ None → ⊥
    nothing e = cc

    on : (o : Option Command) → slice_get P.moves.issued c ≡ o → Some s ≡ option_map (progress_of P.moves c) o → IsCome p trace P c s
    on None at e = absurd (nothing e)
    on (Some d) at e = record { command = d; at = at; same = some_same s (progress_of P.moves c d) e }

-- a status that is fixed by the last step
status_new : (p : ℕ) (trace : Trace) (e : Event) (Q : Spe) (mask : ℕ) → KeepsStatus p (trace ++ e ∷ []) Q → AreFit Q.moves → is_faulted Q.status ≡ false → is_spe p e.step ≡ true → e.effect.fixed ≡ true
    → IsStatus (trace ++ e ∷ []) p (idle_groups (busy Q.moves) mask) (length Q.moves.issued)
status_new p trace e Q mask keeps fit whole own fixed =
    let all : take (length trace + 1) (trace ++ e ∷ []) ≡ trace ++ e ∷ [] = take-whole trace e in
    record {
      place = length trace;
      fixed = record { event = e; at = get-last trace e; is = own; fixed = fixed };
      last = λ g past f. let low = get-within (trace ++ e ∷ []) g f.event f.at in let long = length-append trace (e ∷ []) in omega (arith, low, long, past);
      number = subst (λ (t : Trace). IsNext t p (length Q.moves.issued)) (sym all) (issued-next p (trace ++ e ∷ []) Q keeps);
      done = λ c s has set.
          let come = has-come p (trace ++ e ∷ []) Q c s keeps whole (subst (λ (t : Trace). Has t p c s) all has) in
          let tag : s.command.tag ≡ come.command.tag = ap (λ (x : Progress). x.command.tag) come.same in
          ap (λ (x : Progress). x.done) come.same ∙ sym (complete-at Q.moves c come.command come.at)
          ∙ idle-complete Q.moves mask c come.command fit come.at (subst (IsBitSet (idle_groups (busy Q.moves) mask)) tag set);
    }

status_old : (p : ℕ) (trace : Trace) (e : Event) (groups issued : ℕ) → (is_spe p e.step ≡ true → e.effect.fixed ≡ true → ⊥) → IsStatus trace p groups issued → IsStatus (trace ++ e ∷ []) p groups issued
status_old p trace e groups issued none was =
    let low = get-within trace was.place was.fixed.event was.fixed.at in
    let same : take (was.place + 1) (trace ++ e ∷ []) ≡ take (was.place + 1) trace = take-less trace (e ∷ []) (was.place + 1) (omega (arith, low)) in
    record {
      place = was.place;
      fixed = record { event = was.fixed.event; at = get_more trace (e ∷ []) was.place was.fixed.event was.fixed.at; is = was.fixed.is; fixed = was.fixed.fixed };
      last = λ g past f. get-cases trace e f.event g ⊥ f.at
          (λ end same_e. none (ap (λ (x : Event). is_spe p x.step) (sym same_e) ∙ f.is) (ap (λ (x : Event). x.effect.fixed) (sym same_e) ∙ f.fixed))
          (λ old. was.last g past (record { event = f.event; at = old; is = f.is; fixed = f.fixed }));
      number = subst (λ (t : Trace). IsNext t p issued) (sym same) was.number;
      done = λ c s has set. was.done c s (subst (λ (t : Trace). Has t p c s) same has) set;
    }

-- where the request isn't met, or there is none, nothing is fixed
unmet : (b n : ℕ) (t : Tags) (o : Option Request) → option_map_or (is_met b) o false ≡ false → fixed_at b n t o ≡ t
unmet b n t None h = refl
unmet b n t (Some r) h = ap (λ x. cond x (record { mask = t.mask; request = None; status = Some (record { groups = idle_groups b r.mask; issued = n }) }) t) h

met : (b n : ℕ) (t : Tags) (o : Option Request) (st : TagStatus) → option_map_or (is_met b) o false ≡ true → (fixed_at b n t o).status ≡ Some st → (mask : ℕ) × (st.groups ≡ idle_groups b mask) × (st.issued ≡ n)
met b n t None st h e = absurd (true≢false (sym h))
met b n t (Some r) st h e =
    let same : Some (record { groups = idle_groups b r.mask; issued = n }) ≡ Some st = sym (ap (λ x. (cond x (record { mask = t.mask; request = None; status = Some (record { groups = idle_groups b r.mask; issued = n }) }) t).status) h) ∙ e in
    let own : record { groups = idle_groups b r.mask; issued = n } ≡ st = some_same _ st same in
    (r.mask, ap (λ (x : TagStatus). x.groups) (sym own), ap (λ (x : TagStatus). x.issued) (sym own))

-- settling twice is settling once
settle_again : (b n : ℕ) (t : Tags) (o : Option Request) → t.request ≡ o → settled_tags b n (fixed_at b n t o) ≡ fixed_at b n t o
settle_again b n t None h = ap (fixed_at b n t) h
settle_again b n t (Some r) h = on (is_met b r) refl
  where
    done : Tags
    done = record { mask = t.mask; request = None; status = Some (record { groups = idle_groups b r.mask; issued = n }) }

    on : (x : Bool) → is_met b r ≡ x → settled_tags b n (cond x done t) ≡ cond x done t
    on true e = refl
    on false e = ap (fixed_at b n t) h ∙ ap (λ x. cond x done t) e

pub settled-still : (P : Spe) → settled (settled P) ≡ settled P
settled-still P = ap (λ (t : Tags). record P { tags = t }) (settle_again (busy P.moves) (length P.moves.issued) P.tags P.tags.request refl)

tags_next : (p : ℕ) (trace : Trace) (P Q : Spe) (e : Event) → SpeKeeps p trace P → Turn p P Q e.step e.effect → KeepsStatus p (trace ++ e ∷ []) Q → AreFit Q.moves
    → is_faulted Q.status ≡ false → (st : TagStatus) → (settled Q).tags.status ≡ Some st → IsStatus (trace ++ e ∷ []) p st.groups st.issued
tags_next p trace P Q e was turn keeps fit whole st is = on (is_spe p e.step) refl (fixes Q) refl
  where
    same_status : (o : Option TagStatus) → (Q.tags.status ≡ P.tags.status) ⊎ (Q.tags.status ≡ None) → Q.tags.status ≡ Some st → P.tags.status ≡ Some st
    same_status o (inl h) g = sym h ∙ g
    same_status o (inr h) g = absurd (nothing (sym h ∙ g))
      where
        nothing : None ≡ Some st → ⊥
        nothing x = cc

    sound : is_faulted P.status ≡ false
    sound = not-yet (is_faulted P.status) (is_faulted Q.status) turn.faulted whole

    later : (is_spe p e.step ≡ true → e.effect.fixed ≡ true → ⊥) → Q.tags.status ≡ Some st → IsStatus (trace ++ e ∷ []) p st.groups st.issued
    later none at = status_old p trace e st.groups st.issued none (was.tags sound st (same_status Q.tags.status turn.status at))

    on : (own : Bool) → is_spe p e.step ≡ own → (b : Bool) → fixes Q ≡ b → IsStatus (trace ++ e ∷ []) p st.groups st.issued
    on true mine true f =
        let m = met (busy Q.moves) (length Q.moves.issued) Q.tags Q.tags.request st f is in
        subst (λ g. IsStatus (trace ++ e ∷ []) p g st.issued) (sym m.1) (subst (λ n. IsStatus (trace ++ e ∷ []) p (idle_groups (busy Q.moves) m.0) n) (sym m.2)
        (status_new p trace e Q m.0 keeps fit whole mine (turn.own mine ∙ f)))
    on true mine false f = later (λ h g. true≢false (sym g ∙ turn.own mine ∙ f)) (sym (ap (λ (t : Tags). t.status) (unmet (busy Q.moves) (length Q.moves.issued) Q.tags Q.tags.request f)) ∙ is)
    on false other b f =
        let a = turn.another other in
        let tags : settled_tags (busy Q.moves) (length Q.moves.issued) Q.tags ≡ Q.tags = ap (λ (m : Moves). settled_tags (busy m) (length m.issued) Q.tags) a.1 ∙ ap (settled_tags (busy P.moves) (length P.moves.issued)) a.0 ∙ ap (λ (X : Spe). X.tags) was.still ∙ sym a.0 in
        later (λ h g. true≢false (sym h ∙ other)) (sym (ap (λ (t : Tags). t.status) tags) ∙ is)

-- a step keeps all of it
pub spe-next : (p : ℕ) (trace : Trace) (P Q : Spe) (e : Event) → SpeKeeps p trace P → Turn p P Q e.step e.effect → SpeKeeps p (trace ++ e ∷ []) (settled Q)
spe-next p trace P Q e was turn =
    let order = order-step p e.step e.effect.note P.moves Q.moves (is_faulted Q.status) turn.works was.order in
    let fit = fit-step p e.step e.effect.note P.moves Q.moves (is_faulted Q.status) turn.works was.fit in
    let keeps = status-step p trace P Q e was.order order was.fit turn was.status in
    let same : KeepsStatus p (trace ++ e ∷ []) Q = record { issued = keeps.issued; come = keeps.come } in
    record {
      still = settled-still Q;
      order = order;
      fit = fit;
      status = keeps;
      slot = λ h. slot (turn.slot h);
      inbound = box_next p 0 trace e P.inbound Q.inbound turn.inbound was.inbound;
      outbound = box_next p 1 trace e P.outbound Q.outbound turn.outbound was.outbound;
      interrupt = box_next p 2 trace e P.interrupt Q.interrupt turn.interrupt was.interrupt;
      tags = λ whole st is. tags_next p trace P Q e was turn same fit whole st is;
    }
  where
    slot : ((e.step ≡ Exec p) × (e.effect.note ≡ AtomicIssue)) ⊎ ((e.step ≡ Atomic p → ⊥) × (is_some P.channels.slot ≡ true)) → IsTaken (trace ++ e ∷ []) p
    slot (inl h) = slot_new p trace e h.0 h.1
    slot (inr h) = slot_old p trace e h.0 (was.slot h.1)
