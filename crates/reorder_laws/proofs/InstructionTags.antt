-- Tags and stall bits after an instruction, in another order.
use Rattle.std.proofs.Common.{◌≡◌, ◌≢◌, ℕ, suc, ◌<◌, refl, sym, ◌∙◌, ap, arith, Bool, true, false, length, Option, Some, None, cond}
use Rattle.std.specs.Prelude.{slice_get, ◌==◌, ◌||◌}
use Rattle.std.proofs.lemmas.Bool.{eq-eqb, false≢true}
use Rattle.cell_base.specs.declared.steps.ChannelOp.{ChannelOp}
use Rattle.cell_base.specs.declared.steps.ChannelOp.TheVariants.{Read, Count, Write}
use Rattle.cell_base.specs.declared.steps.Step.TheVariants.{Exec}
use Rattle.mfc_command.specs.declared.command.Command.{Command}
use Rattle.tag_groups.specs.declared.Tags.{Tags}
use Rattle.tag_groups.specs.declared.TagStatus.{TagStatus}
use Rattle.tag_groups.specs.declared.Request.{Request}
use Rattle.tag_groups.specs.Settle.{settled_tags, is_met, idle_groups}
use Rattle.cell_machine.specs.Spe.{Spe, Moves}
use Rattle.cell_machine.specs.Exec.{asks}
use Rattle.cell_machine.specs.Moves.{busy}
use Rattle.cell_machine.specs.Channels.{with_issued, with_resumed}
use Rattle.cell_machine.proofs.Same.{eq_is, eq_off}
use Rattle.cell_machine.proofs.Staying.{resumed-keeps}
use Rattle.reorder_laws.specs.Deeds.{Did, Ends, Goes, Plain, SetParams, SetMask, AskTags, TakeTags, TakeStalls, TakeAtomic, TakeValue, Queue, FillSlot, Resume, PutValue, PutInterrupt, TakeSignal, LeaveEvents, Flowed, did}
use Rattle.reorder_laws.specs.SameDeeds.{OpKind, AsksTags, ReadsTags, ReadsStalls, Resumes, OtherOp, op_kind, did_kind, Found}
use Rattle.reorder_laws.specs.Recorded.{Recorded, spe_before, is_exec, asked, owes, asked_after, owes_after}
use Rattle.reorder_laws.specs.Facts.{AsksForAll}
use Rattle.reorder_laws.proofs.Tagging.{IsLater, tags_late}

-- ---- the request and the debt after an operation, by its kind

abbrev pub asked_by : ℕ → OpKind → Option Request → Option Request
asked_by mask (AsksTags how) was = Some (record { how = how; mask = mask })
asked_by mask ReadsTags was = None
asked_by mask ReadsStalls was = was
asked_by mask (Resumes tag) was = was
asked_by mask OtherOp was = was

abbrev pub owes_by : OpKind → Bool → Bool
owes_by (AsksTags how) was = was
owes_by ReadsTags was = was
owes_by ReadsStalls was = true
owes_by (Resumes tag) was = false
owes_by OtherOp was = was

asked_kind_is : (P : Spe) (op : Option ChannelOp) (was : Option Request) → asked_after P op was ≡ asked_by P.tags.mask (op_kind op) was
asked_kind_is P None was = refl
asked_kind_is P (Some (Read rt ch)) was = on (ch == 24) (ch == 25)
  where
    on : (a b : Bool) → cond a None was ≡ asked_by P.tags.mask (cond a ReadsTags (cond b ReadsStalls OtherOp)) was
    on true b = refl
    on false true = refl
    on false false = refl
asked_kind_is P (Some (Count rt ch)) was = refl
asked_kind_is P (Some (Write ch value)) was = on (ch == 23) (ch == 26)
  where
    on : (a b : Bool) → cond a (Some (record { how = value; mask = P.tags.mask })) was ≡ asked_by P.tags.mask (cond a (AsksTags value) (cond b (Resumes value) OtherOp)) was
    on true b = refl
    on false true = refl
    on false false = refl

apart : (ch a b : ℕ) → a ≢ b → (ch == a) ≡ true → (ch == b) ≡ false
apart ch a b ne h = eq_off ch b (λ e. ne (sym (eq_is ch a h) ∙ e))

owes_kind_is : (op : Option ChannelOp) (was : Bool) → owes_after op was ≡ owes_by (op_kind op) was
owes_kind_is None was = refl
owes_kind_is (Some (Read rt ch)) was = on (ch == 24) refl (ch == 25) refl
  where
    on : (a : Bool) → (ch == 24) ≡ a → (b : Bool) → (ch == 25) ≡ b → (b || was) ≡ owes_by (cond a ReadsTags (cond b ReadsStalls OtherOp)) was
    on true x true y = absurd (false≢true (sym (apart ch 24 25 (λ e. omega (arith, e)) x) ∙ y))
    on true x false y = refl
    on false x true y = refl
    on false x false y = refl
owes_kind_is (Some (Count rt ch)) was = refl
owes_kind_is (Some (Write ch value)) was = on (ch == 23) refl (ch == 26) refl
  where
    on : (a : Bool) → (ch == 23) ≡ a → (b : Bool) → (ch == 26) ≡ b → cond b false was ≡ owes_by (cond a (AsksTags value) (cond b (Resumes value) OtherOp)) was
    on true x true y = absurd (false≢true (sym (apart ch 23 26 (λ e. omega (arith, e)) x) ∙ y))
    on true x false y = refl
    on false x true y = refl
    on false x false y = refl

pub asked_next : (r : Recorded) (p j : ℕ) (d : Did) → r.step j ≡ Exec p → op_kind (asks (spe_before r p j)) ≡ did_kind d → asked r p (suc j) ≡ asked_by (spe_before r p j).tags.mask (did_kind d) (asked r p j)
unfolding asked
asked_next r p j d s k =
    ap (λ s. cond (is_exec p s) (asked_after (spe_before r p j) (asks (spe_before r p j)) (asked r p j)) (asked r p j)) s
    ∙ ap (λ b. cond b (asked_after (spe_before r p j) (asks (spe_before r p j)) (asked r p j)) (asked r p j)) (eq-eqb p p refl)
    ∙ asked_kind_is (spe_before r p j) (asks (spe_before r p j)) (asked r p j) ∙ ap (λ k. asked_by (spe_before r p j).tags.mask k (asked r p j)) k

pub owes_next : (r : Recorded) (p j : ℕ) (d : Did) → r.step j ≡ Exec p → op_kind (asks (spe_before r p j)) ≡ did_kind d → owes r p (suc j) ≡ owes_by (did_kind d) (owes r p j)
unfolding owes
owes_next r p j d s k =
    ap (λ s. cond (is_exec p s) (owes_after (asks (spe_before r p j)) (owes r p j)) (owes r p j)) s
    ∙ ap (λ b. cond b (owes_after (asks (spe_before r p j)) (owes r p j)) (owes r p j)) (eq-eqb p p refl)
    ∙ owes_kind_is (asks (spe_before r p j)) (owes r p j) ∙ ap (λ k. owes_by k (owes r p j)) k

-- ---- the tags after a deed of P, which has the unanswered request q

abbrev open_tags : ℕ → Option Request → Tags
open_tags mask request = record { mask = mask; request = request; status = None }

abbrev ended : Moves → Tags → Tags
ended m t = settled_tags (busy m) (length m.issued) t

-- with another mask
masked : (b n mask other : ℕ) (q : Option Request) → settled_tags b n (record (settled_tags b n (open_tags mask q)) { mask = other }) ≡ settled_tags b n (open_tags other q)
masked b n mask other None = refl
masked b n mask other (Some q) = on (is_met b q) refl
  where
    fixed : Tags
    fixed = record { mask = other; request = None; status = Some (record { groups = idle_groups b q.mask; issued = n }) }

    on : (x : Bool) → is_met b q ≡ x
        → settled_tags b n (record (cond x (record { mask = mask; request = None; status = Some (record { groups = idle_groups b q.mask; issued = n }) }) (open_tags mask (Some q))) { mask = other }) ≡ cond x (record { mask = other; request = None; status = Some (record { groups = idle_groups b q.mask; issued = n }) }) (open_tags other (Some q))
    on true e = refl
    on false e = ap (λ x. cond x (record { mask = other; request = None; status = Some (record { groups = idle_groups b q.mask; issued = n }) }) (open_tags other (Some q))) e

-- a status that is read leaves no request
taken : (b n mask : ℕ) (q : Option Request) (t : Tags) (s : TagStatus) → t ≡ settled_tags b n (open_tags mask q) → t.status ≡ Some s → record t { status = None } ≡ open_tags mask None
taken b n mask None t s e f = absurd (nothing (sym (ap (λ (t : Tags). t.status) e) ∙ f))
  where
    nothing : None ≡ Some s → ⊥
    nothing e = cc
taken b n mask (Some q) t s e f = on (is_met b q) e
  where
    nothing : None ≡ Some s → ⊥
    nothing e = cc

    on : (x : Bool) → t ≡ cond x (record { mask = mask; request = None; status = Some (record { groups = idle_groups b q.mask; issued = n }) }) (open_tags mask (Some q)) → record t { status = None } ≡ open_tags mask None
    on true e = ap (λ (t : Tags). record t { status = None }) e
    on false e = absurd (nothing (sym (ap (λ (t : Tags). t.status) e) ∙ f))

module _ (P : Spe) (q : Option Request) (all : (x : Request) → q ≡ Some x → AsksForAll x) (small : (c : ℕ) (d : Command) → slice_get P.moves.issued c ≡ Some d → d.tag < 32)
    (tags_P : P.tags ≡ ended P.moves (open_tags P.tags.mask q)) where
  same_later : IsLater P.moves P.moves
  same_later = record { issued = refl; complete = λ c h. h }

  -- settled once more
  again : ended P.moves P.tags ≡ ended P.moves (open_tags P.tags.mask q)
  again = ap (ended P.moves) tags_P ∙ tags_late P P.moves P.tags.mask q same_later all small

  -- where no command is queued while a request is unanswered
  pub tags_of : (d : Did) → Found P d → ((x : Flowed) (n : ℕ) (c : Command) → d ≡ Goes x (Queue n c) → q ≡ None)
      → ended (did d P).moves (did d P).tags ≡ ended (did d P).moves (open_tags (did d P).tags.mask (asked_by P.tags.mask (did_kind d) q))
  tags_of (Ends status x) found none = again
  tags_of (Goes x Plain) found none = again
  tags_of (Goes x (SetParams params)) found none = again
  tags_of (Goes x (SetMask mask)) found none =
      ap (λ (t : Tags). ended P.moves (record t { mask = mask })) tags_P ∙ masked (busy P.moves) (length P.moves.issued) P.tags.mask mask q
  tags_of (Goes x (AskTags how)) found none = refl
  tags_of (Goes x (TakeTags t)) found none = ap (ended P.moves) (taken (busy P.moves) (length P.moves.issued) P.tags.mask q P.tags t tags_P found.0)
  tags_of (Goes x (TakeStalls bits)) found none = again
  tags_of (Goes x TakeAtomic) found none = again
  tags_of (Goes x TakeValue) found none = again
  tags_of (Goes x (Queue number d)) found none =
      let e = none x number d refl in
      ap (ended (with_issued P.moves d)) (tags_P ∙ ap (λ q. ended P.moves (open_tags P.tags.mask q)) e) ∙ ap (λ q. ended (with_issued P.moves d) (open_tags P.tags.mask q)) (sym e)
  tags_of (Goes x (FillSlot a)) found none = again
  tags_of (Goes x (Resume tag stalls)) found none =
      ap (ended (with_resumed P.moves stalls)) tags_P ∙ tags_late P (with_resumed P.moves stalls) P.tags.mask q (record { issued = refl; complete = (resumed-keeps P.moves stalls).complete }) all small
  tags_of (Goes x (PutValue value)) found none = again
  tags_of (Goes x (PutInterrupt value)) found none = again
  tags_of (Goes x (TakeSignal r)) found none = again
  tags_of (Goes x (LeaveEvents events)) found none = again
