-- The places of losses and reads, and one warning more.
use Rattle.std.proofs.Common.{◌≡◌, ℕ, ◌+◌, ◌<◌, List, [], ◌∷◌, ◌++◌, length, map, take, get_or, refl, sym, ap, ◌∙◌, append-nil, append_assoc, Option, Some, None}
use Rattle.std.specs.Prelude.{IfSome}
use Rattle.std.specs.List.{AllZip}
use Rattle.std.proofs.lemmas.List.{map_push}
use Rattle.std.proofs.lemmas.Option.{slice_get_within}
use Rattle.cell_machine.specs.Run.{Ran}
use Rattle.lost_values.specs.declared.loss.Loss.{Loss}
use Rattle.lost_values.specs.declared.loss.LossKind.{LossKind}
use Rattle.lost_values.specs.Losses.{IsLoss, IsLost}
use Rattle.unwritten_reads.specs.declared.unwritten.Unwritten.{Unwritten}
use Rattle.unwritten_reads.specs.Reads.{IsUnwritten}
use Rattle.hunt_tally.specs.Tallies.{Tells, distinct, firsts}
use Rattle.hunt_reports.specs.declared.origins.Places.{Places}
use Rattle.hunt_reports.specs.declared.warnings.Lost.{Lost}
use Rattle.hunt_reports.specs.declared.warnings.UnwrittenRead.{UnwrittenRead}
use Rattle.hunt_reports.specs.Taking.{with_telling}
use Rattle.hunt_reports.specs.Warnings.{AreTold, IsLostAt, IsReadAt, lost_told, read_told}
use Rattle.hunt_reports.proofs.Lists.{zip_more}
use Rattle.hunt_reports.proofs.Told.{distinct_push}

-- ---- the steps of a loss and of a read are in the run

module _ (m : Ran) (x : LossKind) (i : ℕ) where
  set_within : (by : Option ℕ) → IsLost m x i by → i < length m.steps
  set_within (Some j) is = slice_get_within m.steps i is.lost.step is.lost.at
  set_within None is = slice_get_within m.steps i is.1.lost.step is.1.lost.at

  replaced_within : (by : Option ℕ) → IsLost m x i by → IfSome by (λ j. j < length m.steps)
  replaced_within (Some j) is = slice_get_within m.steps j is.by.step is.by.at
  replaced_within None is = tt

pub lost_within : (m : Ran) (l : Loss) → IsLoss m l → l.lost < length m.steps
lost_within m l is = set_within m l.kind l.lost l.by is

pub by_within : (m : Ran) (l : Loss) → IsLoss m l → IfSome l.by (λ j. j < length m.steps)
by_within m l is = replaced_within m l.kind l.lost l.by is

pub read_within : (m : Ran) (u : Unwritten) → IsUnwritten m u → u.place < length m.steps
read_within m u is = slice_get_within m.steps u.place is.step is.made.at

-- ---- warnings

pub none_warned : (m : Ran) (places : Places) (warnings : List Tells) → warnings ≡ [] → AreTold m places [] [] warnings
unfolding firsts
none_warned m places warnings none = record { losts = []; lost_sites = tt; unwritten = []; read_sites = tt; told = none }

none_read : {X Y : Type 0} (R : X → Y → Type 0) (ys : List Y) → AllZip R [] ys → ys ≡ []
none_read R [] none = refl
none_read R (y ∷ ys) none = absurd none

module _ (m : Ran) (places : Places) (losses : List Loss) where
  -- one loss more
  pub lost_more : (i : ℕ) (d : Loss) (old new : List Tells) (x : Lost) → i < length losses → AreTold m places (take i losses) [] old → IsLostAt m (get_or losses i d) x
      → new ≡ with_telling (lost_told places x) old → AreTold m places (take (i + 1) losses) [] new
  lost_more i d old new x inside so_far is made =
      let before : List Tells = map (lost_told places) so_far.losts in
      let told_before : old ≡ distinct before
      = so_far.told ∙ ap (λ us. distinct (before ++ map (read_told places) us)) (none_read (IsReadAt m) so_far.unwritten so_far.read_sites) ∙ ap distinct (append-nil before) in
      let all : List Tells = map (lost_told places) (so_far.losts ++ x ∷ []) in
      record {
        losts = so_far.losts ++ x ∷ [];
        lost_sites = zip_more (IsLostAt m) losses so_far.losts i d x inside so_far.lost_sites is;
        unwritten = [];
        read_sites = tt;
        told = made ∙ ap (with_telling (lost_told places x)) told_before ∙ sym (distinct_push before (lost_told places x))
            ∙ sym (ap distinct (map_push (lost_told places) so_far.losts x)) ∙ ap distinct (sym (append-nil all));
      }

  -- one read more
  pub read_more : (reads : List Unwritten) (i : ℕ) (d : Unwritten) (old new : List Tells) (x : UnwrittenRead) → i < length reads → AreTold m places losses (take i reads) old
      → IsReadAt m (get_or reads i d) x → new ≡ with_telling (read_told places x) old → AreTold m places losses (take (i + 1) reads) new
  read_more reads i d old new x inside so_far is made =
      let first : List Tells = map (lost_told places) so_far.losts in
      let before : List Tells = map (read_told places) so_far.unwritten in
      record {
        losts = so_far.losts;
        lost_sites = so_far.lost_sites;
        unwritten = so_far.unwritten ++ x ∷ [];
        read_sites = zip_more (IsReadAt m) reads so_far.unwritten i d x inside so_far.read_sites is;
        told = made ∙ ap (with_telling (read_told places x)) so_far.told ∙ sym (distinct_push (first ++ before) (read_told places x))
            ∙ ap distinct (append_assoc first before (read_told places x ∷ []) ∙ ap (λ ts. first ++ ts) (sym (map_push (read_told places) so_far.unwritten x)));
      }
