-- What an instruction does to its processor, by what its step tells.
use Rattle.std.proofs.Common.{◌≡◌, ℕ, suc, ◌+◌, ◌-◌, ◌<◌, ◌==◌, ◌&&◌, not, Bool, true, false, List, [], ◌∷◌, ◌++◌, length, arith, refl, sym, ◌∙◌, ap, subst, true≢false, length-append, ◌⊎◌, inl, inr}
use Rattle.std.specs.Prelude.{Option, Some, None, IfSome, is_some, cond, nat_lt, Result, Ok, Err, if◌then◌else◌}
use Rattle.std.specs.Option.{option_map_or}
use Rattle.std.proofs.lemmas.Bool.Decides.{nat_tests}
use Rattle.cell_base.specs.declared.steps.ChannelOp.{ChannelOp}
use Rattle.cell_base.specs.declared.steps.ChannelOp.TheVariants.{Read, Count, Write}
use Rattle.cell_channels.specs.Table.{way_of}
use Rattle.cell_channels.specs.State.{count_of}
use Rattle.mfc_command.specs.declared.command.AtomicOp.{AtomicOp}
use Rattle.mfc_command.specs.declared.command.DmaFault.{DmaFault as Fault}
use Rattle.mfc_command.specs.declared.command.Order.{Order}
use Rattle.mfc_command.specs.declared.command.Order.TheVariants.{Queued, Atomic as AtomicOrder}
use Rattle.mfc_command.specs.Check.{OrderFits, checked}
use Rattle.mfc_command.proofs.CheckLemmas.{checked-fits}
use Rattle.local_store.specs.Store.{word_at}
use Rattle.spu_decode.specs.declared.Instr.{Instr}
use Rattle.spu_decode.specs.Spelling.{instr_of}
use Rattle.spu_exec.specs.declared.flow.Flow.{Flow}
use Rattle.spu_exec.specs.declared.flow.Flow.TheVariants.{Next, Stop, Halt, Channel}
use Rattle.spu_exec.specs.Meaning.{meaning}
use Rattle.tag_groups.specs.declared.TagStatus.{TagStatus}
use Rattle.cell_machine.specs.declared.effect.Note.{Note}
use Rattle.cell_machine.specs.declared.effect.Note.TheVariants.{Nothing, Issue, AtomicIssue, TagRead, StallRead, Ack, AtomicRead, Put, Take, Ended, Awaited, Element as Reading, Signal}
use Rattle.tag_groups.specs.Settle.{requested}
use Rattle.cell_machine.specs.Spe.{Spe, Moves, is_running}
use Rattle.cell_machine.specs.Moves.{stalls_of_tag}
use Rattle.cell_machine.specs.Channels.{given, went_on, bad_channel, refused, is_read, is_write, count, may_read, may_write, channel, read_by, read_signal, read_status, read_inbound, read_atomic, read_stalls, issued_by, commanded, acknowledged, parameterized, written, with_issued, with_resumed}
use Rattle.cell_machine.specs.Exec.{exec, exec_instr, followed, asks, asked_by, op_of}
use Rattle.cell_machine.specs.Effects.{ends, told, told_by}
use Rattle.cell_machine.proofs.Same.{eq_same, get-last, get-past}
use Rattle.cell_machine.proofs.Bounds.{if_cond, if_so, if_is}
use Rattle.race_order.specs.Trace.{is_put, is_take, mailbox_size}
use Rattle.race_order.proofs.Small.{and-false}
use Rattle.race_order.proofs.Moving.{IsFit, fit-of}

-- ---- what it does, by its note

abbrev pub DoesMoves : Note → Moves → Moves → Type 0
DoesMoves (Issue c d) m n = (c ≡ length m.issued) × (n ≡ with_issued m d) × IsFit d × (d.tag < 32)
DoesMoves (Ack tag) m n = n ≡ with_resumed m (stalls_of_tag m tag)
DoesMoves _ m n = n ≡ m

abbrev pub DoesSlot : Note → Option AtomicOp → Option AtomicOp → Type 0
DoesSlot AtomicIssue a b = is_some b ≡ true
DoesSlot _ a b = b ≡ a

-- the tag status that was read is gone; any other step leaves it, or takes it away
abbrev pub DoesStatus : Note → Option TagStatus → Option TagStatus → Type 0
DoesStatus (TagRead groups issued) a b = (a ≡ Some (record { groups = groups; issued = issued })) × (b ≡ None)
DoesStatus _ a b = (b ≡ a) ⊎ (b ≡ None)

abbrev pub one_if : Bool → ℕ
one_if b = if b then 1 else 0

-- a mailbox k of processor p, which had x values, has y
pub record BoxStep (p k : ℕ) (note : Note) (x y : ℕ) : Type 0 where
  pub moved : y + one_if (is_take p k note) ≡ x + one_if (is_put p k note)
  pub free : is_put p k note ≡ true → x < mailbox_size k

-- a mailbox that the note names is one of p's
abbrev pub NamesOwn : ℕ → Note → Type 0
NamesOwn p (Put q m) = (q ≡ p) × (m < 3)
NamesOwn p (Take q m) = (q ≡ p) × (m < 3)
NamesOwn p _ = Unit {0}

-- an element is told by no instruction, nor is it seen that a processor doesn't run
abbrev pub IsOfExec : Note → Type 0
IsOfExec (Reading number parts flag) = ⊥
IsOfExec (Awaited q) = ⊥
IsOfExec _ = Unit {0}

pub record Executed (p : ℕ) (P Q : Spe) (note : Note) : Type 0 where
  pub moves : DoesMoves note P.moves Q.moves
  pub slot : DoesSlot note P.channels.slot Q.channels.slot
  pub status : DoesStatus note P.tags.status Q.tags.status
  pub inbound : BoxStep p 0 note (length P.inbound) (length Q.inbound)
  pub outbound : BoxStep p 1 note (length P.outbound) (length Q.outbound)
  pub interrupt : BoxStep p 2 note (length P.interrupt) (length Q.interrupt)
  pub own : NamesOwn p note
  pub fits : IsOfExec note

-- ---- a note of which nothing else is asked

abbrev pub is_silent : Note → Bool
is_silent Nothing = true
is_silent (StallRead groups) = true
is_silent AtomicRead = true
is_silent Ended = true
is_silent (Signal q r) = true
is_silent _ = false

pub same-box : (p k x y : ℕ) (note : Note) → is_put p k note ≡ false → is_take p k note ≡ false → y ≡ x → BoxStep p k note x y
same-box p k x y note a b e = record { moved = rw (a, b) (ap (λ n. n + 0) e); free = λ h. absurd (true≢false (sym h ∙ a)) }

silent : (p : ℕ) (P Q : Spe) (note : Note) → is_silent note ≡ true → Q.moves ≡ P.moves → Q.channels.slot ≡ P.channels.slot → (Q.tags.status ≡ P.tags.status) ⊎ (Q.tags.status ≡ None)
    → Q.inbound ≡ P.inbound → Q.outbound ≡ P.outbound → Q.interrupt ≡ P.interrupt → Executed p P Q note
silent p P Q Nothing h a b s i o t = record { moves = a; slot = b; status = s; inbound = same-box p 0 _ _ Nothing refl refl (ap length i); outbound = same-box p 1 _ _ Nothing refl refl (ap length o); interrupt = same-box p 2 _ _ Nothing refl refl (ap length t); own = tt; fits = tt }
silent p P Q (StallRead g) h a b s i o t = record { moves = a; slot = b; status = s; inbound = same-box p 0 _ _ (StallRead g) refl refl (ap length i); outbound = same-box p 1 _ _ (StallRead g) refl refl (ap length o); interrupt = same-box p 2 _ _ (StallRead g) refl refl (ap length t); own = tt; fits = tt }
silent p P Q AtomicRead h a b s i o t = record { moves = a; slot = b; status = s; inbound = same-box p 0 _ _ AtomicRead refl refl (ap length i); outbound = same-box p 1 _ _ AtomicRead refl refl (ap length o); interrupt = same-box p 2 _ _ AtomicRead refl refl (ap length t); own = tt; fits = tt }
silent p P Q Ended h a b s i o t = record { moves = a; slot = b; status = s; inbound = same-box p 0 _ _ Ended refl refl (ap length i); outbound = same-box p 1 _ _ Ended refl refl (ap length o); interrupt = same-box p 2 _ _ Ended refl refl (ap length t); own = tt; fits = tt }
silent p P Q (Signal q r) h a b s i o t = record { moves = a; slot = b; status = s; inbound = same-box p 0 _ _ (Signal q r) refl refl (ap length i); outbound = same-box p 1 _ _ (Signal q r) refl refl (ap length o); interrupt = same-box p 2 _ _ (Signal q r) refl refl (ap length t); own = tt; fits = tt }
silent p P Q (Issue c d) h a b s i o t = absurd (true≢false (sym h))
silent p P Q AtomicIssue h a b s i o t = absurd (true≢false (sym h))
silent p P Q (TagRead g n) h a b s i o t = absurd (true≢false (sym h))
silent p P Q (Ack n) h a b s i o t = absurd (true≢false (sym h))
silent p P Q (Put q m) h a b s i o t = absurd (true≢false (sym h))
silent p P Q (Take q m) h a b s i o t = absurd (true≢false (sym h))
silent p P Q (Awaited q) h a b s i o t = absurd (true≢false (sym h))
silent p P Q (Reading x y z) h a b s i o t = absurd (true≢false (sym h))

-- ---- whether it ceases to run

goes_on : (r : Bool) → (r && not r) ≡ false
goes_on true = refl
goes_on false = refl

-- what it tells where it runs on, and where it doesn't
told-on : (p : ℕ) (P Q : Spe) (o : Option ChannelOp) → Q.status ≡ P.status → told p P Q o ≡ option_map_or (told_by p P Q) o Nothing
told-on p P Q o same = ap (λ s. cond (is_running P.status && not (is_running s)) Ended (option_map_or (told_by p P Q) o Nothing)) same ∙ ap (λ b. cond b Ended (option_map_or (told_by p P Q) o Nothing)) (goes_on (is_running P.status))

told-end : (p : ℕ) (P Q : Spe) (o : Option ChannelOp) → is_running P.status ≡ true → is_running Q.status ≡ false → told p P Q o ≡ Ended
told-end p P Q o runs ended = ap (λ b. cond (b && not (is_running Q.status)) Ended (option_map_or (told_by p P Q) o Nothing)) runs ∙ ap (λ b. cond (not b) Ended (option_map_or (told_by p P Q) o Nothing)) ended

-- ---- reads

-- a number is this one, or another
is_or_not : (n k : ℕ) (T : Type 0) → (n ≡ k → T) → ((n == k) ≡ false → T) → T
is_or_not n k T h g = on (n == k) refl
  where
    on : (b : Bool) → (n == k) ≡ b → T
    on true e = h (grind (arith, nat_tests, e))
    on false e = g e

abbrev Tells : ℕ → Spe → ChannelOp → Spe → Type 0
Tells p P op Q = Executed p P Q (told p P Q (Some op))

-- the note that it tells, and what it does by it
by_note : (p : ℕ) (P Q : Spe) (op : ChannelOp) (note : Note) → Q.status ≡ P.status → told_by p P Q op ≡ note → Executed p P Q note → Tells p P op Q
by_note p P Q op note same e x = subst (Executed p P Q) (sym (told-on p P Q (Some op) same ∙ e)) x

plain_read : (p : ℕ) (P Q : Spe) (rt k : ℕ) (note : Note) → is_silent note ≡ true → told_by p P Q (Read rt k) ≡ note → Q.status ≡ P.status → Q.moves ≡ P.moves → Q.channels.slot ≡ P.channels.slot → Q.tags.status ≡ P.tags.status
    → Q.inbound ≡ P.inbound → Q.outbound ≡ P.outbound → Q.interrupt ≡ P.interrupt → Tells p P (Read rt k) Q
plain_read p P Q rt k note quiet is same a b s i o t = by_note p P Q (Read rt k) note same is (silent p P Q note quiet a b (inl s) i o t)

status_tells : (p : ℕ) (P : Spe) (rt : ℕ) (o : Option TagStatus) → P.tags.status ≡ o → IfSome (read_status P rt o) (Tells p P (Read rt 24))
status_tells p P rt None at = tt
status_tells p P rt (Some st) at =
    let Q : Spe = given (record P { tags = record P.tags { status = None } }) rt st.groups in
    by_note p P Q (Read rt 24) (TagRead st.groups st.issued) refl (ap (λ o. option_map_or (λ (t : TagStatus). TagRead t.groups t.issued) o Nothing) at)
    (record { moves = refl; slot = refl; status = (at, refl); inbound = same-box p 0 _ _ _ refl refl refl; outbound = same-box p 1 _ _ _ refl refl refl; interrupt = same-box p 2 _ _ _ refl refl refl; own = tt; fits = tt })

atomic_tells : (p : ℕ) (P : Spe) (rt : ℕ) (o : Option ℕ) → IfSome (read_atomic P rt o) (Tells p P (Read rt 27))
atomic_tells p P rt None = tt
atomic_tells p P rt (Some st) = plain_read p P (given (record P { channels = record P.channels { atomic = None } }) rt st) rt 27 AtomicRead refl refl refl refl refl refl refl refl refl

inbound_tells : (p : ℕ) (P : Spe) (rt : ℕ) (xs : List ℕ) → P.inbound ≡ xs → IfSome (read_inbound P rt xs) (Tells p P (Read rt 29))
inbound_tells p P rt [] at = tt
inbound_tells p P rt (x ∷ xs) at =
    let Q : Spe = given (record P { inbound = xs }) rt x in
    by_note p P Q (Read rt 29) (Take p 0) refl refl
    (record {
      moves = refl;
      slot = refl;
      status = inl refl;
      inbound = record { moved = ap (λ b. length xs + one_if (b && true)) (eq_same p) ∙ let long : length P.inbound ≡ suc (length xs) = ap length at in omega (arith, long); free = λ h. absurd (true≢false (sym h)) };
      outbound = same-box p 1 _ _ (Take p 0) refl (ap (λ b. b && false) (eq_same p)) refl;
      interrupt = same-box p 2 _ _ (Take p 0) refl (ap (λ b. b && false) (eq_same p)) refl;
      own = (refl, omega arith);
      fits = tt;
    })

read_tells : (p : ℕ) (P : Spe) (rt ch : ℕ) → IfSome (read_by P rt ch) (Tells p P (Read rt ch))
unfolding read_by
read_tells p P rt ch =
    let T : ℕ → Type 0 = λ c. IfSome (read_by P rt c) (Tells p P (Read rt c)) in
    is_or_not ch 0 (T ch) (λ e. subst T (sym e) (plain_read p P _ rt 0 Nothing refl refl refl refl refl refl refl refl refl))
    (λ n0. is_or_not ch 3 (T ch) (λ e. subst T (sym e) (plain_read p P (read_signal P rt 1) rt 3 (Signal p 1) refl refl refl refl refl refl refl refl refl))
    (λ n3. is_or_not ch 4 (T ch) (λ e. subst T (sym e) (plain_read p P (read_signal P rt 2) rt 4 (Signal p 2) refl refl refl refl refl refl refl refl refl))
    (λ n4. is_or_not ch 11 (T ch) (λ e. subst T (sym e) (plain_read p P (given P rt P.events.mask) rt 11 Nothing refl refl refl refl refl refl refl refl refl))
    (λ n11. is_or_not ch 12 (T ch) (λ e. subst T (sym e) (plain_read p P (given P rt P.tags.mask) rt 12 Nothing refl refl refl refl refl refl refl refl refl))
    (λ n12. is_or_not ch 24 (T ch) (λ e. subst T (sym e) (status_tells p P rt P.tags.status refl))
    (λ n24. is_or_not ch 25 (T ch) (λ e. subst T (sym e) (plain_read p P (read_stalls P rt) rt 25 (StallRead P.channels.stalls) refl refl refl refl refl refl refl refl refl))
    (λ n25. is_or_not ch 27 (T ch) (λ e. subst T (sym e) (atomic_tells p P rt P.channels.atomic))
    (λ n27. is_or_not ch 29 (T ch) (λ e. subst T (sym e) (inbound_tells p P rt P.inbound refl))
    (λ n29. rw (n0, n3, n4, n11, n12, n24, n25, n27, n29) tt)))))))))

-- ---- writes

ended_tells : (p : ℕ) (P Q : Spe) (o : Option ChannelOp) → is_running P.status ≡ true → is_running Q.status ≡ false → Q.moves ≡ P.moves → Q.channels.slot ≡ P.channels.slot → Q.tags.status ≡ P.tags.status
    → Q.inbound ≡ P.inbound → Q.outbound ≡ P.outbound → Q.interrupt ≡ P.interrupt → Executed p P Q (told p P Q o)
ended_tells p P Q o runs ended a b s i u t = subst (Executed p P Q) (sym (told-end p P Q o runs ended)) (silent p P Q Ended refl a b (inl s) i u t)

issued_tells : (lines p : ℕ) (P : Spe) (value : ℕ) (r : Result Order Fault) → is_running P.status ≡ true → ((o : Order) → r ≡ Ok o → OrderFits lines o) → Tells p P (Write 21 value) (issued_by P r)
issued_tells lines p P value (Ok (Queued d)) runs fits =
    let Q : Spe = issued_by P (Ok (Queued d)) in
    let fit = fits (Queued d) refl in
    by_note p P Q (Write 21 value) (Issue (length P.moves.issued) d) refl (ap (λ o. option_map_or (Issue (length P.moves.issued)) o AtomicIssue) (get-last P.moves.issued d))
    (record { moves = (refl, refl, fit-of lines d fit.1, fit.0); slot = refl; status = inl refl; inbound = same-box p 0 _ _ _ refl refl refl; outbound = same-box p 1 _ _ _ refl refl refl; interrupt = same-box p 2 _ _ _ refl refl refl; own = tt; fits = tt })
issued_tells lines p P value (Ok (AtomicOrder a)) runs fits =
    let Q : Spe = issued_by P (Ok (AtomicOrder a)) in
    by_note p P Q (Write 21 value) AtomicIssue refl (ap (λ o. option_map_or (Issue (length P.moves.issued)) o AtomicIssue) (get-past P.moves.issued (length P.moves.issued) (omega arith)))
    (record { moves = refl; slot = refl; status = inl refl; inbound = same-box p 0 _ _ AtomicIssue refl refl refl; outbound = same-box p 1 _ _ AtomicIssue refl refl refl; interrupt = same-box p 2 _ _ AtomicIssue refl refl refl; own = tt; fits = tt })
issued_tells lines p P value (Err kind) runs fits = ended_tells p P (refused P kind) (Some (Write 21 value)) runs refl refl refl refl refl refl refl

commanded_tells : (lines p : ℕ) (P : Spe) (value : ℕ) → is_running P.status ≡ true → Tells p P (Write 21 value) (commanded lines P value)
unfolding commanded
commanded_tells lines p P value runs = issued_tells lines p P value (checked P.channels.params value lines) runs (λ o e. checked-fits P.channels.params value lines o e)

plain_write : (p : ℕ) (P Q : Spe) (ch value : ℕ) → told_by p P Q (Write ch value) ≡ Nothing → Q.status ≡ P.status → Q.moves ≡ P.moves → Q.channels.slot ≡ P.channels.slot → (Q.tags.status ≡ P.tags.status) ⊎ (Q.tags.status ≡ None)
    → Q.inbound ≡ P.inbound → Q.outbound ≡ P.outbound → Q.interrupt ≡ P.interrupt → Tells p P (Write ch value) Q
plain_write p P Q ch value is same a b s i o t = by_note p P Q (Write ch value) Nothing same is (silent p P Q Nothing refl a b s i o t)

acknowledged_tells : (p : ℕ) (P : Spe) (value : ℕ) → Tells p P (Write 26 value) (went_on (acknowledged P value))
unfolding acknowledged
acknowledged_tells p P value =
    by_note p P (went_on (acknowledged P value)) (Write 26 value) (Ack value) refl refl
    (record { moves = refl; slot = refl; status = inl refl; inbound = same-box p 0 _ _ (Ack value) refl refl refl; outbound = same-box p 1 _ _ (Ack value) refl refl refl; interrupt = same-box p 2 _ _ (Ack value) refl refl refl; own = tt; fits = tt })

put_box : (p k x : ℕ) (xs : List ℕ) → length xs ≡ 0 → 0 < mailbox_size k → BoxStep p k (Put p k) (length xs) (length (xs ++ x ∷ []))
put_box p k x xs none room = record {
  moved = let long : length (xs ++ x ∷ []) ≡ length xs + 1 = length-append xs (x ∷ []) in rw (eq_same p, eq_same k) (omega (arith, long));
  free = λ h. subst (λ n. n < mailbox_size k) (sym none) room;
}

other_box : (p k j x : ℕ) → (k == j) ≡ false → BoxStep p j (Put p k) x x
other_box p k j x off = same-box p j x x (Put p k) (ap (λ b. (p == p) && b) off ∙ and-false (p == p)) refl refl

room-out : (P : Spe) (value : ℕ) → may_write P 28 value ≡ true → length P.outbound ≡ 0
unfolding may_write count count_of
room-out P value h = on (length P.outbound) h
  where
    on : (n : ℕ) → nat_lt 0 (1 - n) ≡ true → n ≡ 0
    on n g = grind (arith, nat_tests, g)

room-intr : (P : Spe) (value : ℕ) → may_write P 30 value ≡ true → length P.interrupt ≡ 0
unfolding may_write count count_of
room-intr P value h = on (length P.interrupt) h
  where
    on : (n : ℕ) → nat_lt 0 (1 - n) ≡ true → n ≡ 0
    on n g = grind (arith, nat_tests, g)

out_tells : (p : ℕ) (P : Spe) (value : ℕ) → length P.outbound ≡ 0 → Tells p P (Write 28 value) (went_on (record P { outbound = P.outbound ++ value ∷ [] }))
out_tells p P value none =
    by_note p P (went_on (record P { outbound = P.outbound ++ value ∷ [] })) (Write 28 value) (Put p 1) refl refl
    (record { moves = refl; slot = refl; status = inl refl; inbound = other_box p 1 0 _ refl; outbound = put_box p 1 value P.outbound none (omega arith); interrupt = other_box p 1 2 _ refl; own = (refl, omega arith); fits = tt })

intr_tells : (p : ℕ) (P : Spe) (value : ℕ) → length P.interrupt ≡ 0 → Tells p P (Write 30 value) (went_on (record P { interrupt = P.interrupt ++ value ∷ [] }))
intr_tells p P value none =
    by_note p P (went_on (record P { interrupt = P.interrupt ++ value ∷ [] })) (Write 30 value) (Put p 2) refl refl
    (record { moves = refl; slot = refl; status = inl refl; inbound = other_box p 2 0 _ refl; outbound = other_box p 2 1 _ refl; interrupt = put_box p 2 value P.interrupt none (omega arith); own = (refl, omega arith); fits = tt })

written_tells : (lines p : ℕ) (P : Spe) (ch value : ℕ) → is_running P.status ≡ true → may_write P ch value ≡ true → Tells p P (Write ch value) (written lines P ch value)
unfolding written
written_tells lines p P ch value runs may =
    let T : ℕ → Type 0 = λ c. Tells p P (Write c value) (written lines P c value) in
    is_or_not ch 1 (T ch) (λ e. subst T (sym e) (plain_write p P (went_on (record P { events = record P.events { mask = value } })) 1 value refl refl refl refl (inl refl) refl refl refl))
    (λ n1. is_or_not ch 2 (T ch) (λ e. subst T (sym e) (plain_write p P _ 2 value refl refl refl refl (inl refl) refl refl refl))
    (λ n2. is_or_not ch 21 (T ch) (λ e. subst T (sym e) (commanded_tells lines p P value runs))
    (λ n21. is_or_not ch 22 (T ch) (λ e. subst T (sym e) (plain_write p P (went_on (record P { tags = record P.tags { mask = value } })) 22 value refl refl refl refl (inl refl) refl refl refl))
    (λ n22. is_or_not ch 23 (T ch) (λ e. subst T (sym e) (plain_write p P (went_on (record P { tags = requested P.tags value })) 23 value refl refl refl refl (inr refl) refl refl refl))
    (λ n23. is_or_not ch 26 (T ch) (λ e. subst T (sym e) (acknowledged_tells p P value))
    (λ n26. is_or_not ch 28 (T ch) (λ e. subst T (sym e) (out_tells p P value (room-out P value (subst (λ c. may_write P c value ≡ true) e may))))
    (λ n28. is_or_not ch 30 (T ch) (λ e. subst T (sym e) (intr_tells p P value (room-intr P value (subst (λ c. may_write P c value ≡ true) e may))))
    (λ n30. subst (Tells p P (Write ch value)) (sym (elsewhere n1 n2 n21 n22 n23 n26 n28 n30)) (plain_write p P (went_on (parameterized P ch value)) ch value (rw (n21, n26, n28, n30) refl) refl refl refl (inl refl) refl refl refl)))))))))
  where
    elsewhere : (ch == 1) ≡ false → (ch == 2) ≡ false → (ch == 21) ≡ false → (ch == 22) ≡ false → (ch == 23) ≡ false → (ch == 26) ≡ false → (ch == 28) ≡ false → (ch == 30) ≡ false → written lines P ch value ≡ went_on (parameterized P ch value)
    elsewhere x y a b c d e f = rw (x, y, a, b, c, d, e, f) refl

-- ---- an instruction

channel_tells : (lines p : ℕ) (P : Spe) (op : ChannelOp) → is_running P.status ≡ true → IfSome (channel lines P op) (Tells p P op)
unfolding channel
channel_tells lines p P (Read rt ch) runs =
    let R : Spe → Type 0 = Tells p P (Read rt ch) in
    if_cond (is_read (way_of ch)) _ _ R (if_cond (may_read P ch) _ _ R (read_tells p P rt ch) tt) (ended_tells p P (bad_channel P) (Some (Read rt ch)) runs refl refl refl refl refl refl refl)
channel_tells lines p P (Count rt ch) runs =
    let R : Spe → Type 0 = Tells p P (Count rt ch) in
    if_cond (is_some (way_of ch)) (Some (given P rt (count P ch))) (Some (bad_channel P)) R
    (by_note p P (given P rt (count P ch)) (Count rt ch) Nothing refl refl (silent p P (given P rt (count P ch)) Nothing refl refl refl (inl refl) refl refl refl))
    (ended_tells p P (bad_channel P) (Some (Count rt ch)) runs refl refl refl refl refl refl refl)
channel_tells lines p P (Write ch value) runs =
    let R : Spe → Type 0 = Tells p P (Write ch value) in
    if_cond (is_write (way_of ch)) _ _ R (if_so (may_write P ch value) _ R (λ may. written_tells lines p P ch value runs may)) (ended_tells p P (bad_channel P) (Some (Write ch value)) runs refl refl refl refl refl refl refl)

followed_tells : (lines p : ℕ) (P : Spe) (flow : Flow) → is_running P.status ≡ true → IfSome (followed lines P flow) (λ Q. Executed p P Q (told p P Q (op_of flow)))
followed_tells lines p P (Next pc) runs = subst (Executed p P (record P { pc = pc })) (sym (told-on p P (record P { pc = pc }) None refl)) (silent p P (record P { pc = pc }) Nothing refl refl refl (inl refl) refl refl refl)
followed_tells lines p P (Stop code next) runs = ended_tells p P _ None runs refl refl refl refl refl refl refl
followed_tells lines p P (Halt next) runs = ended_tells p P _ None runs refl refl refl refl refl refl refl
followed_tells lines p P (Channel op) runs = channel_tells lines p P op runs

if_on : {X : Type 0} (o : Option X) (A B : X → Type 0) → ((x : X) → A x → B x) → IfSome o A → IfSome o B
if_on None A B k h = tt
if_on (Some x) A B k h = k x h

-- registers and bytes have nothing to do with it
told_alike : (p : ℕ) (P Q : Spe) (registers : List (List ℕ)) (store : List ℕ) (op : ChannelOp) → told_by p (record P { registers = registers; store = store }) Q op ≡ told_by p P Q op
told_alike p P Q registers store (Read rt ch) = refl
told_alike p P Q registers store (Count rt ch) = refl
told_alike p P Q registers store (Write ch value) = refl

told_same : (p : ℕ) (P Q : Spe) (registers : List (List ℕ)) (store : List ℕ) (o : Option ChannelOp) → told p (record P { registers = registers; store = store }) Q o ≡ told p P Q o
told_same p P Q registers store None = refl
told_same p P Q registers store (Some op) = ap (λ n. cond (ends P Q) Ended n) (told_alike p P Q registers store op)

instr_tells : (lines p : ℕ) (P : Spe) (o : Option Instr) → is_running P.status ≡ true → IfSome (exec_instr lines P o) (λ Q. Executed p P Q (told p P Q (asked_by P o)))
instr_tells lines p P None runs = ended_tells p P _ None runs refl refl refl refl refl refl refl
instr_tells lines p P (Some i) runs =
    let o = meaning i P.pc P.registers P.store in
    let K : Spe = record P { registers = o.regs; store = o.store } in
    if_on (followed lines K o.flow) (λ Q. Executed p K Q (told p K Q (op_of o.flow))) (λ Q. Executed p P Q (told p P Q (op_of o.flow)))
    (λ Q x. subst (Executed p P Q) (told_same p P Q o.regs o.store (op_of o.flow))
    (record { moves = x.moves; slot = x.slot; status = x.status; inbound = x.inbound; outbound = x.outbound; interrupt = x.interrupt; own = x.own; fits = x.fits }))
    (followed_tells lines p K o.flow runs)

-- what an allowed instruction does
pub exec-tells : (lines p : ℕ) (P Q : Spe) → exec lines P ≡ Some Q → Executed p P Q (told p P Q (asks P)) × (is_running P.status ≡ true)
unfolding exec asks
exec-tells lines p P Q made = on (is_running P.status) refl made
  where
    none : None ≡ Some Q → ⊥
    none e = cc

    on : (b : Bool) → is_running P.status ≡ b → cond b (exec_instr lines P (instr_of (word_at P.store P.pc))) None ≡ Some Q → Executed p P Q (told p P Q (asked_by P (instr_of (word_at P.store P.pc)))) × (is_running P.status ≡ true)
    on false runs e = absurd (none e)
    on true runs e = (if_is (exec_instr lines P (instr_of (word_at P.store P.pc))) Q (λ K. Executed p P K (told p P K (asked_by P (instr_of (word_at P.store P.pc))))) e (instr_tells lines p P (instr_of (word_at P.store P.pc)) runs), runs)
