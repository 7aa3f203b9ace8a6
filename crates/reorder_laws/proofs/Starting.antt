-- The state in which a run begins is described by no place.
use Rattle.std.proofs.Common.{◌≡◌, ℕ, zero, suc, ◌<◌, refl, sym, ◌∙◌, ap, subst, arith, Bool, true, false, List, [], ◌∷◌, length, map, None, cond}
use Rattle.std.specs.Prelude.{slice_index_or, ◌==◌, drop}
use Rattle.std.specs.List.{enumerate_from}
use Rattle.std.proofs.lemmas.Bool.{false≢true}
use Rattle.tag_groups.specs.declared.Tags.{Tags}
use Rattle.tag_groups.specs.Settle.{settled_tags, opening_tags}
use Rattle.cell_machine.specs.Spe.{Spe, Moves}
use Rattle.cell_machine.specs.Moves.{busy, read_of}
use Rattle.cell_machine.specs.Opening.{Opening, opening, opening_spe, no_moves}
use Rattle.cell_machine.specs.State.{State}
use Rattle.reorder_laws.specs.Recorded.{Recorded, spe_in, no_spe, spe_before, count_of, is_exec, is_elem, is_host, is_atomic_step, is_put_note, is_take_note, locking_of, asked, owes, stalled_groups, box_of, put_values, taken_values}
use Rattle.reorder_laws.specs.Described.{Describes, DescribesSpe}
use Rattle.reorder_laws.proofs.Cuts.{has_none, cut_none, shows_none}

-- nothing was done yet
record IsFresh (P : Spe) : Type 0 where
  tags : P.tags ≡ opening_tags
  moves : P.moves ≡ no_moves
  stalls : P.channels.stalls ≡ 0
  inbound : P.inbound ≡ []
  outbound : P.outbound ≡ []
  interrupt : P.interrupt ≡ []
  masked : P.events.mask ≡ 0

fresh_in : (S : Opening) (xs : List (ℕ × ℕ)) (p : ℕ) → p < length (map (opening_spe S) xs) → IsFresh (slice_index_or (map (opening_spe S) xs) p no_spe)
fresh_in S [] p h = absurd (omega (arith, h))
fresh_in S (x ∷ xs) zero h = record { tags = refl; moves = refl; stalls = refl; inbound = refl; outbound = refl; interrupt = refl; masked = refl }
fresh_in S (x ∷ xs) (suc p) h = fresh_in S xs p (omega (arith, h))

fresh_opening : (S : Opening) (p : ℕ) → p < length (opening S).spes → IsFresh (spe_in (opening S) p)
unfolding opening
fresh_opening S p h = fresh_in S (enumerate_from 0 S.entries) p h

fresh_start : (r : Recorded) (S : Opening) → r.state 0 ≡ opening S → (p : ℕ) → p < count_of r → IsFresh (spe_before r p 0)
fresh_start r S is p low = subst (λ M. IsFresh (spe_in M p)) (sym is) (fresh_opening S p (subst (λ (M : State). p < length M.spes) is low))

-- no event is in the mask
pub masked_start : (r : Recorded) (S : Opening) → r.state 0 ≡ opening S → (p : ℕ) → p < count_of r → (spe_before r p 0).events.mask ≡ 0
masked_start r S is p low = (fresh_start r S is p low).masked

no_groups : stalled_groups no_moves ≡ 0
unfolding stalled_groups
no_groups = refl

asked_none : (r : Recorded) (p : ℕ) → asked r p 0 ≡ None
unfolding asked
asked_none r p = refl

owes_none : (r : Recorded) (p : ℕ) → owes r p 0 ≡ false
unfolding owes
owes_none r p = refl

put_none : (r : Recorded) (p m : ℕ) → put_values r p m 0 ≡ []
unfolding put_values
put_none r p m = refl

taken_none : (r : Recorded) (p m : ℕ) → taken_values r p m 0 ≡ 0
unfolding taken_values
taken_none r p m = refl

tags_none : (P : Spe) (b n : ℕ) → P.tags ≡ opening_tags → P.tags ≡ settled_tags b n (record { mask = P.tags.mask; request = None; status = None })
tags_none P b n e = e ∙ ap (λ (t : Tags). settled_tags b n (record { mask = t.mask; request = None; status = None })) (sym e)

box_none : (P : Spe) (m : ℕ) → IsFresh P → box_of m P ≡ []
box_none P m f = on (m == 0) (m == 1)
  where
    on : (a b : Bool) → cond a P.inbound (cond b P.outbound P.interrupt) ≡ []
    on true b = f.inbound
    on false true = f.outbound
    on false false = f.interrupt

pub describes_start : (r : Recorded) (S : Opening) → r.state 0 ≡ opening S → Describes r [] (r.state 0)
describes_start r S is = record {
  inside = λ i h. absurd (false≢true (sym (has_none i) ∙ h));
  count = refl;
  long = refl;
  versions = refl;
  host = shows_none r.size (λ i. is_host (r.step i)) (λ j. (r.state j).host) (r.state 0).host refl;
  spes = λ p low. of_spe p (fresh_start r S is p low);
}
  where
    of_spe : (p : ℕ) → IsFresh (spe_before r p 0) → DescribesSpe r p [] (spe_before r p 0)
    of_spe p f = record {
      program = record {
        place = 0;
        within = omega arith;
        cut = cut_none r.size (λ i. is_exec p (r.step i));
        program = refl;
        tags = tags_none (spe_before r p 0) (busy (spe_before r p 0).moves) (length (spe_before r p 0).moves.issued) f.tags
            ∙ ap (λ q. settled_tags (busy (spe_before r p 0).moves) (length (spe_before r p 0).moves.issued) (record { mask = (spe_before r p 0).tags.mask; request = q; status = None })) (sym (asked_none r p));
        stalls = f.stalls ∙ sym (ap stalled_groups f.moves ∙ no_groups) ∙ ap (λ b. cond b 0 (stalled_groups (spe_before r p 0).moves)) (sym (owes_none r p));
      };
      read = ap (λ (m : Moves). m.read) f.moves;
      done = ap (λ (m : Moves). m.done) f.moves;
      retired = ap (λ (m : Moves). m.retired) f.moves;
      elements = λ c. shows_none r.size (λ i. is_elem p c (r.step i)) (λ j. read_of (spe_before r p j).moves.read c) (read_of (spe_before r p 0).moves.read c) refl;
      locking = shows_none r.size (λ i. is_atomic_step p (r.step i) (r.effect i).note) (λ j. locking_of (spe_before r p j)) (locking_of (spe_before r p 0)) refl;
      boxes = λ m small. record {
        put_place = 0;
        take_place = 0;
        put_within = omega arith;
        take_within = omega arith;
        put_cut = cut_none r.size (λ i. is_put_note p m (r.effect i).note);
        take_cut = cut_none r.size (λ i. is_take_note p m (r.effect i).note);
        values_are = box_none (spe_before r p 0) m f ∙ sym (ap (λ n. drop n (put_values r p m 0)) (taken_none r p m) ∙ put_none r p m);
      };
      heard = refl;
    }
