-- The warnings of a run: the values that it loses, and its reads of bytes that nothing wrote.
use Rattle.std.specs.Prelude.{◌≡◌, ℕ, Bool, true, false, List, [], ◌++◌, codes, map, Option, Some, None}
use Rattle.std.specs.List.{AllZip}
use Rattle.std.specs.Fmt.{decimal}
use Rattle.cell_base.specs.Hex.{hex}
use Rattle.cell_base.specs.Records.{line_feed}
use Rattle.cell_machine.specs.Run.{Ran}
use Rattle.cell_hunt.specs.declared.site.Site.{Site}
use Rattle.cell_hunt.specs.Sites.{IsSite}
use Rattle.lost_values.specs.declared.loss.Loss.{Loss}
use Rattle.lost_values.specs.declared.loss.LossKind.{LossKind}
use Rattle.lost_values.specs.declared.loss.LossKind.TheVariants.{Signal, FailedStore, TagStatus}
use Rattle.lost_values.specs.Losses.{AreAllLosses}
use Rattle.unwritten_reads.specs.declared.unwritten.Unwritten.{Unwritten}
use Rattle.unwritten_reads.specs.Reads.{AreAllUnwritten}
use Rattle.hunt_tally.specs.Tallies.{Tells, distinct}
use Rattle.hunt_reports.specs.declared.origins.Places.{Places}
use Rattle.hunt_reports.specs.declared.warnings.Lost.{Lost}
use Rattle.hunt_reports.specs.declared.warnings.UnwrittenRead.{UnwrittenRead}
use Rattle.hunt_reports.specs.Lists.{BothOrNone}
use Rattle.hunt_reports.specs.Locations.{spu_text}
use Rattle.hunt_reports.specs.Places.{origin_text}
use Rattle.hunt_reports.specs.RaceLines.{site_line, step_line}

-- ---- a lost value

-- the first word of its key
abbrev pub loss_word : LossKind → List ℕ
loss_word (Signal p r) = codes "lost-signal"
loss_word (FailedStore p) = codes "unread-putllc"
loss_word (TagStatus p) = codes "unread-tags"

abbrev pub register_text : ℕ → List ℕ
register_text r = codes " sets signal register " ++ decimal r

unfoldable pub signal_text : ℕ → ℕ → List ℕ
signal_text p r = register_text r ++ codes " of " ++ spu_text p ++ codes " to a value that is never read"

-- what the step did that set the value
abbrev pub set_text : LossKind → List ℕ
set_text (Signal p r) = signal_text p r
set_text (FailedStore p) = codes " stores nothing, and its status is never read"
set_text (TagStatus p) = codes " sets a tag status that is never read"

-- the step that replaces the value; without one the run ends
abbrev pub by_text : Places → Option Site → List ℕ
by_text places (Some site) = origin_text places site
by_text places None = codes " | end"

abbrev pub by_line : Places → Option Site → List ℕ
by_line places (Some site) = step_line places site (codes " replaces it")
by_line places None = codes "  the run ends before it is read\n"

abbrev pub lost_key : Places → Lost → List ℕ
lost_key places x = loss_word x.kind ++ origin_text places x.lost ++ by_text places x.by

abbrev pub lost_shown : Places → Lost → List ℕ
lost_shown places x = step_line places x.lost (set_text x.kind) ++ by_line places x.by

abbrev pub lost_told : Places → Lost → Tells
lost_told places x = record { key = lost_key places x; shown = lost_shown places x }

-- ---- a read of unwritten bytes

-- the first byte that its step reads and that nothing wrote, in the local store of processor p
abbrev pub first_line : ℕ → ℕ → List ℕ
first_line p at = codes "  it reads bytes that nothing wrote, the first at 0x" ++ hex 5 at ++ codes " in the local store of " ++ spu_text p ++ line_feed

abbrev pub read_key : Places → UnwrittenRead → List ℕ
read_key places x = codes "unwritten-bytes" ++ origin_text places x.by

abbrev pub read_shown : Places → UnwrittenRead → List ℕ
read_shown places x = site_line places x.by ++ first_line x.spe x.at

abbrev pub read_told : Places → UnwrittenRead → Tells
read_told places x = record { key = read_key places x; shown = read_shown places x }

-- ---- the warnings of a run

-- the lost value, with the sites of its steps
pub record IsLostAt (m : Ran) (loss : Loss) (x : Lost) : Type 0 where
  pub kind : x.kind ≡ loss.kind
  pub lost : IsSite m loss.lost x.lost
  pub by : BothOrNone (IsSite m) loss.by x.by

-- the read of unwritten bytes, with the site of its step
pub record IsReadAt (m : Ran) (u : Unwritten) (x : UnwrittenRead) : Type 0 where
  pub by : IsSite m u.place x.by
  pub spe : x.spe ≡ u.spe
  pub at : x.at ≡ u.at

-- of the losses, and then of the reads, one of each key
pub record AreTold (m : Ran) (places : Places) (losses : List Loss) (reads : List Unwritten) (warnings : List Tells) : Type 0 where
  pub losts : List Lost
  pub lost_sites : AllZip (IsLostAt m) losses losts
  pub unwritten : List UnwrittenRead
  pub read_sites : AllZip (IsReadAt m) reads unwritten
  pub told : warnings ≡ distinct (map (lost_told places) losts ++ map (read_told places) unwritten)

-- of all values that the run loses, and of all its reads of bytes that nothing wrote
pub record AreAllWarnings (m : Ran) (places : Places) (warnings : List Tells) : Type 0 where
  pub losses : List Loss
  pub all_losses : AreAllLosses m losses
  pub reads : List Unwritten
  pub all_reads : AreAllUnwritten m reads
  pub told : AreTold m places losses reads warnings

-- if they are asked for
abbrev pub AreWarnings : Ran → Places → Bool → List Tells → Type 0
AreWarnings m places true warnings = AreAllWarnings m places warnings
AreWarnings m places false warnings = warnings ≡ []
