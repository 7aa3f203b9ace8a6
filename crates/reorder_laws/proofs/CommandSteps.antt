-- What is described of a processor after a step of one of its commands.
use Rattle.std.proofs.Common.{◌≡◌, ℕ, ◌<◌, refl, sym, ◌∙◌, ap, subst, Bool, true, false, List, [], ◌∷◌, ◌++◌, length, Option, Some, None, cond}
use Rattle.std.specs.Prelude.{slice_get}
use Rattle.std.proofs.lemmas.Bool.{false≢true}
use Rattle.cell_base.specs.declared.steps.Step.{Step}
use Rattle.cell_base.specs.declared.steps.Step.TheVariants.{Exec, Piece, Elem, Retire, Atomic, Host}
use Rattle.mfc_command.specs.declared.command.Command.{Command}
use Rattle.tag_groups.specs.declared.Tags.{Tags}
use Rattle.tag_groups.specs.declared.Request.{Request}
use Rattle.tag_groups.specs.Settle.{settled_tags, is_met, fixed_at, idle_groups}
use Rattle.cell_machine.specs.declared.effect.Note.{Note}
use Rattle.cell_machine.specs.Spe.{Spe}
use Rattle.cell_machine.specs.Tags.{settled}
use Rattle.cell_machine.specs.Moves.{busy, read_of}
use Rattle.cell_machine.specs.Order.{is_step_of}
use Rattle.reorder_laws.specs.Cuts.{Shows}
use Rattle.reorder_laws.specs.Recorded.{Recorded, Program, program_of, listening_of, locking_of, count_of, spe_before, is_exec, is_elem, is_atomic_step, is_put_note, is_take_note, done_by, retired_by, element_at, asked, owes, stalled_groups, box_of}
use Rattle.reorder_laws.specs.Frames.{HasFrames, listed}
use Rattle.reorder_laws.specs.Described.{DescribesSpe, ShowsBox}
use Rattle.reorder_laws.specs.Facts.{RequestsAll, HasTags}
use Rattle.reorder_laws.proofs.Cuts.{cut_skip, shows_skip}
use Rattle.reorder_laws.proofs.After.{map_added}
use Rattle.reorder_laws.proofs.Tagging.{IsLater, tags_late}

-- settling keeps the mask
pub mask_kept : (busy_ n : ℕ) (t : Tags) → (settled_tags busy_ n t).mask ≡ t.mask
mask_kept busy_ n t = on t.request
  where
    test : (b : Bool) (u : Tags) → u.mask ≡ t.mask → (cond b u t).mask ≡ t.mask
    test true u e = e
    test false u e = refl

    on : (o : Option Request) → (fixed_at busy_ n t o).mask ≡ t.mask
    on None = refl
    on (Some q) = test (is_met busy_ q) (record { mask = t.mask; request = None; status = Some (record { groups = idle_groups busy_ q.mask; issued = n }) }) refl

module _ (r : Recorded) (frames : HasFrames r) (requests : RequestsAll r) (tags : HasTags r) (D : List ℕ) (j : ℕ) (low : j < r.size) (p : ℕ) (low_p : p < count_of r) (c : ℕ) (is_of : is_step_of p c (r.step j) ≡ true) (P : Spe) (of_P : DescribesSpe r p D P) where
  -- what the step of the command left of the processor
  pub record Leaves (Q : Spe) : Type 0 where
    pub program : program_of Q ≡ program_of P
    pub same_tags : Q.tags ≡ P.tags
    pub read : Q.moves.read ≡ P.moves.read ++ listed (element_at r p j)
    pub done : Q.moves.done ≡ P.moves.done ++ listed (done_by p (r.step j))
    pub retired : Q.moves.retired ≡ P.moves.retired ++ listed (retired_by p (r.step j))
    pub elements : (b : ℕ) → Shows r.size (λ i. is_elem p b (r.step i)) (λ x. read_of (spe_before r p x).moves.read b) (D ++ j ∷ []) (read_of Q.moves.read b)
    pub locking : locking_of Q ≡ locking_of P
    pub boxes : (m : ℕ) → box_of m Q ≡ box_of m P
    pub heard : listening_of Q ≡ listening_of P
    pub later : IsLater P.moves Q.moves
    pub stalls : Q.channels.stalls ≡ cond (owes r p of_P.program.place) 0 (stalled_groups Q.moves)

  off_exec : (s : Step) → is_step_of p c s ≡ true → is_exec p s ≡ false
  off_exec (Exec q) h = absurd (false≢true h)
  off_exec (Piece q d e k) h = refl
  off_exec (Elem q d) h = refl
  off_exec (Retire q d) h = refl
  off_exec (Atomic q) h = absurd (false≢true h)
  off_exec Host h = absurd (false≢true h)

  off_atomic : (s : Step) (note : Note) → is_step_of p c s ≡ true → is_atomic_step p s note ≡ false
  off_atomic (Exec q) note h = absurd (false≢true h)
  off_atomic (Piece q d e k) note h = refl
  off_atomic (Elem q d) note h = refl
  off_atomic (Retire q d) note h = refl
  off_atomic (Atomic q) note h = absurd (false≢true h)
  off_atomic Host note h = absurd (false≢true h)

  tags_there : (b : ℕ) (d : Command) → slice_get P.moves.issued b ≡ Some d → d.tag < 32
  tags_there b d at = tags of_P.program.place p b d of_P.program.within low_p (sym (ap (λ (g : Program). slice_get g.issued b) of_P.program.program) ∙ at)

  tags_after : (Q : Spe) → Leaves Q → settled_tags (busy Q.moves) (length Q.moves.issued) Q.tags ≡ settled_tags (busy Q.moves) (length Q.moves.issued) (record { mask = P.tags.mask; request = asked r p of_P.program.place; status = None })
  tags_after Q l =
      ap (settled_tags (busy Q.moves) (length Q.moves.issued)) (l.same_tags ∙ of_P.program.tags)
      ∙ tags_late P Q.moves P.tags.mask (asked r p of_P.program.place) l.later (λ q e. requests of_P.program.place p q of_P.program.within low_p e) tags_there

  pub described : (Q : Spe) → Leaves Q → DescribesSpe r p (D ++ j ∷ []) (settled Q)
  described Q l = record {
    program = record {
      place = of_P.program.place;
      within = of_P.program.within;
      cut = cut_skip r.size (λ i. is_exec p (r.step i)) D j of_P.program.place (off_exec (r.step j) is_of) of_P.program.cut;
      program = ap (λ m. record (program_of Q) { mask = m }) (mask_kept (busy Q.moves) (length Q.moves.issued) Q.tags) ∙ l.program ∙ of_P.program.program;
      tags =
          tags_after Q l
          ∙ ap (λ m. settled_tags (busy Q.moves) (length Q.moves.issued) (record { mask = m; request = asked r p of_P.program.place; status = None }))
          (sym (mask_kept (busy Q.moves) (length Q.moves.issued) Q.tags ∙ ap (λ (t : Tags). t.mask) l.same_tags));
      stalls = l.stalls;
    };
    read = map_added (element_at r p) D j P.moves.read Q.moves.read of_P.read l.read;
    done = map_added (λ i. done_by p (r.step i)) D j P.moves.done Q.moves.done of_P.done l.done;
    retired = map_added (λ i. retired_by p (r.step i)) D j P.moves.retired Q.moves.retired of_P.retired l.retired;
    elements = l.elements;
    locking = shows_skip r.size (λ i. is_atomic_step p (r.step i) (r.effect i).note) (λ x. locking_of (spe_before r p x)) D j (locking_of P) (locking_of Q) (off_atomic (r.step j) (r.effect j).note is_of) l.locking of_P.locking;
    boxes = λ m small. subst (ShowsBox r p m (D ++ j ∷ [])) (sym (l.boxes m)) (kept m (of_P.boxes m small));
    heard = l.heard ∙ of_P.heard;
  }
    where
      kept : (m : ℕ) → ShowsBox r p m D (box_of m P) → ShowsBox r p m (D ++ j ∷ []) (box_of m P)
      kept m box = record {
        put_place = box.put_place;
        take_place = box.take_place;
        put_within = box.put_within;
        take_within = box.take_within;
        put_cut = cut_skip r.size (λ i. is_put_note p m (r.effect i).note) D j box.put_place (frames.quiet_notes j p c p m low is_of).0 box.put_cut;
        take_cut = cut_skip r.size (λ i. is_take_note p m (r.effect i).note) D j box.take_place (frames.quiet_notes j p c p m low is_of).1 box.take_cut;
        values_are = box.values_are;
      }
