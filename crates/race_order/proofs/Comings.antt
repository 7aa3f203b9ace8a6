-- What a step with its effect does to the whole machine.
use Rattle.std.proofs.Common.{◌≡◌, ℕ, suc, ◌+◌, ◌<◌, ◌==◌, ◌&&◌, Bool, true, false, List, [], ◌∷◌, ◌++◌, length, arith, refl, sym, ◌∙◌, ap, subst, true≢false, inl, inr, map, slice_set, length-append}
use Rattle.std.specs.Prelude.{Option, Some, None, is_some, slice_get, cond, nat_lt, option_map, option_and_then}
use Rattle.std.proofs.lemmas.Bool.Decides.{nat_tests}
use Rattle.std.proofs.lemmas.List.{length-set}
use Rattle.cell_base.specs.declared.steps.Step.{Step}
use Rattle.cell_base.specs.declared.steps.Step.TheVariants.{Exec, Piece, Elem, Retire, Atomic, Host}
use Rattle.cell_host.specs.declared.HostAction.{HostAction}
use Rattle.cell_host.specs.declared.HostAction.TheVariants.{Send, Take as TakeOut, TakeIntr, Store, Await, Signal as SignalTo}
use Rattle.cell_machine.specs.declared.effect.Note.{Note}
use Rattle.cell_machine.specs.declared.effect.Note.TheVariants.{Nothing, Issue, AtomicIssue, TagRead, StallRead, Ack, AtomicRead, Put, Take, Ended, Awaited, Element as Reading, Signal}
use Rattle.cell_machine.specs.declared.effect.Effect.{Effect}
use Rattle.cell_machine.specs.Spe.{Spe, is_faulted, is_running}
use Rattle.cell_machine.specs.State.{State, with_spe}
use Rattle.cell_machine.specs.Tags.{settled}
use Rattle.cell_machine.specs.Hosts.{Given, Acted, sent, taken_of, taken_interrupt_of, awaited, given, at_spe, acted, after_action, host as host_step}
use Rattle.cell_machine.specs.Next.{next, ended_by, closed_in, with_left}
use Rattle.cell_machine.specs.Effects.{effect_of, host_effect}
use Rattle.cell_machine.specs.EffectLaws.{maker}
use Rattle.cell_machine.proofs.Same.{some_same, eq_same, get-within}
use Rattle.cell_machine.proofs.Bounds.{set_got}
use Rattle.cell_machine.proofs.StepBytes.{none_is, of_map, of_then}
use Rattle.cell_machine.proofs.Alike.{AreAlike, closed-alike, left-alike}
use Rattle.cell_machine.proofs.StateBytes.{effect-own, next-own, there}
use Rattle.race_order.specs.Trace.{is_put, is_take}
use Rattle.race_order.specs.Status.{after_ack, issued_as}
use Rattle.race_order.specs.Premises.{is_spe}
use Rattle.race_order.specs.Orderly.{IsNoted, IsWithin}
use Rattle.race_order.proofs.Small.{and-off, and-false, off-same}
use Rattle.race_order.proofs.Telling.{BoxStep, NamesOwn, same-box}
use Rattle.race_order.proofs.Turns.{IsIdle, rests, Turn, Asks, own-turn}

-- ---- another's step

idle-else : (p : ℕ) (s : Step) (note : Note) → is_spe p s ≡ false → IsIdle p s note
idle-else p (Exec q) note h = record { stays = λ c t. ap (λ x. cond x (after_ack t note) t) h; fresh = λ c. ap (λ x. cond x (issued_as c note) None) h; none = λ c. refl }
idle-else p (Piece q d e k) note h = record { stays = λ c t. off-same (q == p && d == c) _ t (and-off (q == p) (d == c) h); fresh = λ c. refl; none = λ c. and-off (q == p) (d == c) h }
idle-else p (Elem q d) note h = record { stays = λ c t. off-same (q == p && d == c) _ t (and-off (q == p) (d == c) h); fresh = λ c. refl; none = λ c. and-off (q == p) (d == c) h }
idle-else p (Retire q d) note h = record { stays = λ c t. off-same (q == p && d == c) _ t (and-off (q == p) (d == c) h); fresh = λ c. refl; none = λ c. and-off (q == p) (d == c) h }
idle-else p (Atomic q) note h = record { stays = λ c t. refl; fresh = λ c. refl; none = λ c. refl }
idle-else p Host note h = record { stays = λ c t. refl; fresh = λ c. refl; none = λ c. refl }

not_own_atomic : (p : ℕ) (s : Step) → is_spe p s ≡ false → s ≡ Atomic p → ⊥
not_own_atomic p s h e = true≢false (sym (ap (is_spe p) e ∙ eq_same p) ∙ h)

put-else : (q p k : ℕ) (note : Note) → NamesOwn q note → (q == p) ≡ false → is_put p k note ≡ false
put-else q p k (Put r m) n h = and-off (r == p) (m == k) (ap (λ x. x == p) n.0 ∙ h)
put-else q p k (Take r m) n h = refl
put-else q p k Nothing n h = refl
put-else q p k (Issue c d) n h = refl
put-else q p k AtomicIssue n h = refl
put-else q p k (TagRead g i) n h = refl
put-else q p k (StallRead g) n h = refl
put-else q p k (Ack t) n h = refl
put-else q p k AtomicRead n h = refl
put-else q p k (Signal x r) n h = refl
put-else q p k Ended n h = refl
put-else q p k (Awaited r) n h = refl
put-else q p k (Reading x y z) n h = refl

take-else : (q p k : ℕ) (note : Note) → NamesOwn q note → (q == p) ≡ false → is_take p k note ≡ false
take-else q p k (Take r m) n h = and-off (r == p) (m == k) (ap (λ x. x == p) n.0 ∙ h)
take-else q p k (Put r m) n h = refl
take-else q p k Nothing n h = refl
take-else q p k (Issue c d) n h = refl
take-else q p k AtomicIssue n h = refl
take-else q p k (TagRead g i) n h = refl
take-else q p k (StallRead g) n h = refl
take-else q p k (Ack t) n h = refl
take-else q p k AtomicRead n h = refl
take-else q p k (Signal x r) n h = refl
take-else q p k Ended n h = refl
take-else q p k (Awaited r) n h = refl
take-else q p k (Reading x y z) n h = refl

-- where processor q is another than p, whose mailboxes alone are named
turn-else : (q p : ℕ) (P : Spe) (s : Step) (e : Effect) → is_spe p s ≡ false → NamesOwn q e.note → (q == p) ≡ false → Turn p P P s e
turn-else q p P s e away names differs = record {
  works = rests refl (idle-else p s e.note away);
  faulted = λ h. h;
  slot = λ h. inr (not_own_atomic p s away, h);
  status = inl refl;
  inbound = same-box p 0 _ _ e.note (put-else q p 0 e.note names differs) (take-else q p 0 e.note names differs) refl;
  outbound = same-box p 1 _ _ e.note (put-else q p 1 e.note names differs) (take-else q p 1 e.note names differs) refl;
  interrupt = same-box p 2 _ _ e.note (put-else q p 2 e.note names differs) (take-else q p 2 e.note names differs) refl;
  own = λ h. absurd (true≢false (sym h ∙ away));
  another = λ h. (refl, refl);
}

-- ---- the host

-- an action leaves all but the mailboxes
record HostDid (q : ℕ) (note : Note) (P Q : Spe) : Type 0 where
  moves : Q.moves ≡ P.moves
  status : Q.status ≡ P.status
  slot : Q.channels.slot ≡ P.channels.slot
  tags : Q.tags ≡ P.tags
  inbound : BoxStep q 0 note (length P.inbound) (length Q.inbound)
  outbound : BoxStep q 1 note (length P.outbound) (length Q.outbound)
  interrupt : BoxStep q 2 note (length P.interrupt) (length Q.interrupt)

host_turn : (q : ℕ) (P Q : Spe) (e : Effect) → HostDid q e.note P Q → Turn q P Q Host e
host_turn q P Q e d = record {
  works = rests d.moves (record { stays = λ c t. refl; fresh = λ c. refl; none = λ c. refl });
  faulted = λ h. ap is_faulted d.status ∙ h;
  slot = λ h. inr (no, ap is_some (sym d.slot) ∙ h);
  status = inl (ap (λ t. t.status) d.tags);
  inbound = d.inbound;
  outbound = d.outbound;
  interrupt = d.interrupt;
  own = λ h. absurd (true≢false (sym h));
  another = λ h. (d.tags, d.moves);
}
  where
    no : Host ≡ Atomic q → ⊥
    no e = cc

sent_did : (q value : ℕ) (P : Spe) (g : Given) → sent value P ≡ Some g → HostDid q (Put q 0) P g.spe
sent_did q value P g h = on (nat_lt (length P.inbound) 4) refl h
  where
    made : HostDid q (Put q 0) P (record P { inbound = P.inbound ++ value ∷ [] })
    made = record {
      moves = refl;
      status = refl;
      slot = refl;
      tags = refl;
      inbound = record { moved = let long : length (P.inbound ++ value ∷ []) ≡ length P.inbound + 1 = length-append P.inbound (value ∷ []) in rw (eq_same q) (omega (arith, long)); free = λ x. room (nat_lt (length P.inbound) 4) refl h };
      outbound = same-box q 1 _ _ (Put q 0) (and-false (q == q)) refl refl;
      interrupt = same-box q 2 _ _ (Put q 0) (and-false (q == q)) refl refl;
    }
      where
        room : (b : Bool) → nat_lt (length P.inbound) 4 ≡ b → cond b (Some (record { spe = record P { inbound = P.inbound ++ value ∷ [] }; took = None })) None ≡ Some g → length P.inbound < 4
        room true e k = grind (arith, nat_tests, e)
        room false e k = none_is _ g k

    on : (b : Bool) → nat_lt (length P.inbound) 4 ≡ b → cond b (Some (record { spe = record P { inbound = P.inbound ++ value ∷ [] }; took = None })) None ≡ Some g → HostDid q (Put q 0) P g.spe
    on true e k = subst (λ (x : Given). HostDid q (Put q 0) P x.spe) (some_same _ g k) made
    on false e k = none_is _ g k

taken_did : (q : ℕ) (P : Spe) (xs : List ℕ) (g : Given) → P.outbound ≡ xs → taken_of P xs ≡ Some g → HostDid q (Take q 1) P g.spe
taken_did q P [] g at h = none_is _ g h
taken_did q P (x ∷ xs) g at h = subst (λ (y : Given). HostDid q (Take q 1) P y.spe) (some_same _ g h) (record {
  moves = refl;
  status = refl;
  slot = refl;
  tags = refl;
  inbound = same-box q 0 _ _ (Take q 1) refl (and-false (q == q)) refl;
  outbound = record { moved = let long : length P.outbound ≡ suc (length xs) = ap length at in rw (eq_same q) (omega (arith, long)); free = λ z. absurd (true≢false (sym z)) };
  interrupt = same-box q 2 _ _ (Take q 1) refl (and-false (q == q)) refl;
})

interrupt_did : (q : ℕ) (P : Spe) (xs : List ℕ) (g : Given) → P.interrupt ≡ xs → taken_interrupt_of P xs ≡ Some g → HostDid q (Take q 2) P g.spe
interrupt_did q P [] g at h = none_is _ g h
interrupt_did q P (x ∷ xs) g at h = subst (λ (y : Given). HostDid q (Take q 2) P y.spe) (some_same _ g h) (record {
  moves = refl;
  status = refl;
  slot = refl;
  tags = refl;
  inbound = same-box q 0 _ _ (Take q 2) refl (and-false (q == q)) refl;
  outbound = same-box q 1 _ _ (Take q 2) refl (and-false (q == q)) refl;
  interrupt = record { moved = let long : length P.interrupt ≡ suc (length xs) = ap length at in rw (eq_same q) (omega (arith, long)); free = λ z. absurd (true≢false (sym z)) };
})

waited_did : (q r : ℕ) (P : Spe) (g : Given) → awaited P ≡ Some g → HostDid q (Awaited r) P g.spe
waited_did q r P g h = on (is_running P.status) h
  where
    on : (b : Bool) → cond b None (Some (record { spe = P; took = None })) ≡ Some g → HostDid q (Awaited r) P g.spe
    on true k = none_is _ g k
    on false k = subst (λ (y : Given). HostDid q (Awaited r) P y.spe) (some_same _ g k)
        (record { moves = refl; status = refl; slot = refl; tags = refl; inbound = same-box q 0 _ _ (Awaited r) refl refl refl; outbound = same-box q 1 _ _ (Awaited r) refl refl refl; interrupt = same-box q 2 _ _ (Awaited r) refl refl refl })

signal_did : (q r value : ℕ) (P : Spe) (g : Given) → given (SignalTo q r value) P ≡ Some g → HostDid q (Signal q r) P g.spe
signal_did q r value P g h = subst (λ (y : Given). HostDid q (Signal q r) P y.spe) (some_same _ g h)
    (record { moves = refl; status = refl; slot = refl; tags = refl; inbound = same-box q 0 _ _ (Signal q r) refl refl refl; outbound = same-box q 1 _ _ (Signal q r) refl refl refl; interrupt = same-box q 2 _ _ (Signal q r) refl refl refl })

-- ---- the whole machine

-- the machine before a step, and after it but not settled, and with nothing delivered or raised
pub record Came (old new : List Spe) (s : Step) (e : Effect) : Type 0 where
  pub each : (p : ℕ) (P : Spe) → slice_get old p ≡ Some P → (Q : Spe) × (slice_get new p ≡ Some Q) × Turn p P Q s e
  pub count : length new ≡ length old
  pub asks : (p : ℕ) → maker s ≡ Some p → (P : Spe) × (slice_get old p ≡ Some P) × Asks p P s e
  pub noted : IsNoted (length old) e.note
  pub within : IsWithin (length old) s

-- one processor's change
set_came : (old : List Spe) (q : ℕ) (P Q : Spe) (s : Step) (e : Effect) → slice_get old q ≡ Some P → Turn q P Q s e → ((p : ℕ) → (q == p) ≡ false → is_spe p s ≡ false) → NamesOwn q e.note
    → (p : ℕ) (R : Spe) → slice_get old p ≡ Some R → (S : Spe) × (slice_get (slice_set old q Q) p ≡ Some S) × Turn p R S s e
set_came old q P Q s e at turn away names p R here =
    set_got old q p Q R ((S : Spe) × (slice_get (slice_set old q Q) p ≡ Some S) × Turn p R S s e) here
    (λ same got. let own : P ≡ R = some_same P R (sym at ∙ ap (slice_get old) same ∙ here) in (Q, got, subst (λ K. Turn p K Q s e) own (subst (λ k. Turn k P Q s e) same turn)))
    (λ differs got. (R, got, turn-else q p R s e (away p differs) names differs))

noted_own : (n q : ℕ) (note : Note) → q < n → NamesOwn q note → IsNoted n note
noted_own n q (Put r m) l h = (subst (λ k. k < n) (sym h.0) l, h.1)
noted_own n q (Take r m) l h = (subst (λ k. k < n) (sym h.0) l, h.1)
noted_own n q Nothing l h = tt
noted_own n q (Issue c d) l h = tt
noted_own n q AtomicIssue l h = tt
noted_own n q (TagRead g i) l h = tt
noted_own n q (StallRead g) l h = tt
noted_own n q (Ack t) l h = tt
noted_own n q AtomicRead l h = tt
noted_own n q (Signal x r) l h = tt
noted_own n q Ended l h = tt
noted_own n q (Awaited r) l h = tt
noted_own n q (Reading x y z) l h = tt

away_of : (q : ℕ) (s : Step) → maker s ≡ Some q → (p : ℕ) → (q == p) ≡ false → is_spe p s ≡ false
away_of q (Exec r) by p h = ap (λ x. x == p) (some_same r q by) ∙ h
away_of q (Piece r c e k) by p h = ap (λ x. x == p) (some_same r q by) ∙ h
away_of q (Elem r c) by p h = ap (λ x. x == p) (some_same r q by) ∙ h
away_of q (Retire r c) by p h = ap (λ x. x == p) (some_same r q by) ∙ h
away_of q (Atomic r) by p h = ap (λ x. x == p) (some_same r q by) ∙ h
away_of q Host by p h = refl

within_of : (n q : ℕ) (s : Step) → maker s ≡ Some q → q < n → IsWithin n s
within_of n q (Exec r) by l = subst (λ k. k < n) (sym (some_same r q by)) l
within_of n q (Piece r c e k) by l = subst (λ k. k < n) (sym (some_same r q by)) l
within_of n q (Elem r c) by l = subst (λ k. k < n) (sym (some_same r q by)) l
within_of n q (Retire r c) by l = subst (λ k. k < n) (sym (some_same r q by)) l
within_of n q (Atomic r) by l = subst (λ k. k < n) (sym (some_same r q by)) l
within_of n q Host by l = tt

-- a step of processor q
own_came : (M N : State) (s : Step) (q : ℕ) (e : Effect) → maker s ≡ Some q → next M s ≡ Some N → effect_of M s ≡ Some e → (new : List Spe) × AreAlike (map settled new) N.spes × Came M.spes new s e
own_came M N s q e by made effect = there M s q e ((new : List Spe) × AreAlike (map settled new) N.spes × Came M.spes new s e) by effect (λ P at.
    let left = next-own M N s q P by at made in
    let own = own-turn (length M.spes) q M.memory s P left.0 e by left.1 (sym (effect-own M s q P by at) ∙ effect) in
    let low = get-within M.spes q P at in (
      slice_set M.spes q left.0.spe,
      subst (λ (K : State). AreAlike (map settled (slice_set M.spes q left.0.spe)) K.spes) left.2 (closed-alike M s (with_left M q left.0) (slice_set M.spes q left.0.spe) (left-alike M q left.0)),
      record {
        each = set_came M.spes q P left.0.spe s e at own.turn (away_of q s by) own.asks.names;
        count = length-set M.spes q left.0.spe;
        asks = λ p h. let same : q ≡ p = some_same q p (sym by ∙ h) in (P, subst (λ k. slice_get M.spes k ≡ Some P) same at, subst (λ k. Asks k P s e) same own.asks);
        noted = noted_own (length M.spes) q e.note low own.asks.names;
        within = within_of (length M.spes) q s by low;
      },
    ))

no_maker : (p : ℕ) → maker Host ≡ Some p → ⊥
no_maker p e = cc

-- an action that changes no processor
still_came : (old : List Spe) (e : Effect) → ((p : ℕ) (P : Spe) → HostDid p e.note P P) → IsNoted (length old) e.note → Came old old Host e
still_came old e did noted = record { each = λ p P at. (P, at, host_turn p P P e (did p P)); count = refl; asks = λ p h. absurd (no_maker p h); noted = noted; within = tt }

-- an action on processor q
at_came : (M : State) (q : ℕ) (f : Spe → Option Given) (d : Acted) (e : Effect) → at_spe M q f ≡ Some d → ((P : Spe) (g : Given) → f P ≡ Some g → HostDid q e.note P g.spe) → NamesOwn q e.note → Came M.spes d.state.spes Host e
at_came M q f d e h did names =
    of_then _ (slice_get M.spes q) d (λ d. Came M.spes d.state.spes Host e) h (λ P at made.
    of_map (λ g. record { state = with_spe M q g.spe; took = g.took }) (f P) d (λ d. Came M.spes d.state.spes Host e) made (λ g got. record {
      each = set_came M.spes q P g.spe Host e at (host_turn q P g.spe e (did P g got)) (λ p x. refl) names;
      count = length-set M.spes q g.spe;
      asks = λ p x. absurd (no_maker p x);
      noted = noted_own (length M.spes) q e.note (get-within M.spes q P at) names;
      within = tt;
    }))

acted_came : (M : State) (a : HostAction) (d : Acted) → acted M a ≡ Some d → Came M.spes d.state.spes Host (host_effect a)
unfolding acted
acted_came M (Send q value) d h = at_came M q (given (Send q value)) d (host_effect (Send q value)) h (λ P g got. sent_did q value P g got) (refl, omega arith)
acted_came M (TakeOut q) d h = at_came M q (given (TakeOut q)) d (host_effect (TakeOut q)) h (λ P g got. taken_did q P P.outbound g refl got) (refl, omega arith)
acted_came M (TakeIntr q) d h = at_came M q (given (TakeIntr q)) d (host_effect (TakeIntr q)) h (λ P g got. interrupt_did q P P.interrupt g refl got) (refl, omega arith)
acted_came M (Await q) d h = at_came M q (given (Await q)) d (host_effect (Await q)) h (λ P g got. waited_did q q P g got) tt
acted_came M (SignalTo q r value) d h = at_came M q (given (SignalTo q r value)) d (host_effect (SignalTo q r value)) h (λ P g got. signal_did q r value P g got) tt
acted_came M (Store ea len bytes) d h = subst (λ (x : Acted). Came M.spes x.state.spes Host (host_effect (Store ea len bytes))) (some_same _ d h)
    (still_came M.spes (host_effect (Store ea len bytes)) (λ p P. record { moves = refl; status = refl; slot = refl; tags = refl; inbound = same-box p 0 _ _ Nothing refl refl refl; outbound = same-box p 1 _ _ Nothing refl refl refl; interrupt = same-box p 2 _ _ Nothing refl refl refl }) tt)

host_came : (M N : State) (e : Effect) → next M Host ≡ Some N → effect_of M Host ≡ Some e → (new : List Spe) × AreAlike (map settled new) N.spes × Came M.spes new Host e
unfolding host_step effect_of
host_came M N e made effect =
    of_map (ended_by M Host) (host_step M) N (λ N. (new : List Spe) × AreAlike (map settled new) N.spes × Came M.spes new Host e) made (λ K is.
    of_then _ (slice_get M.host.script M.host.done) K (λ K. (new : List Spe) × AreAlike (map settled new) (closed_in M Host K).spes × Came M.spes new Host e) is (λ a at acts.
    of_map after_action (acted M a) K (λ K. (new : List Spe) × AreAlike (map settled new) (closed_in M Host K).spes × Came M.spes new Host e) acts (λ d did.
    let told : host_effect a ≡ e = some_same _ e (sym (ap (option_and_then (λ a. option_map (λ d. host_effect a) (acted M a))) at ∙ ap (option_map (λ d. host_effect a)) did) ∙ effect) in
    (d.state.spes, closed-alike M Host (after_action d) d.state.spes refl, subst (Came M.spes d.state.spes Host) told (acted_came M a d did)))))

-- any step
pub came : (M N : State) (s : Step) (e : Effect) → next M s ≡ Some N → effect_of M s ≡ Some e → (new : List Spe) × AreAlike (map settled new) N.spes × Came M.spes new s e
came M N (Exec q) e made effect = own_came M N (Exec q) q e refl made effect
came M N (Piece q c f k) e made effect = own_came M N (Piece q c f k) q e refl made effect
came M N (Elem q c) e made effect = own_came M N (Elem q c) q e refl made effect
came M N (Retire q c) e made effect = own_came M N (Retire q c) q e refl made effect
came M N (Atomic q) e made effect = own_came M N (Atomic q) q e refl made effect
came M N Host e made effect = host_came M N e made effect
