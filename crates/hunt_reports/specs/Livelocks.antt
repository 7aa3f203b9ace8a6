-- The finding of a livelock.
use Rattle.std.specs.Prelude.{ℕ, ◌-◌, ◌==◌, List, [], ◌++◌, codes, take, length, Option, Some, None, if◌then◌else◌}
use Rattle.std.specs.List.{flat_map}
use Rattle.std.specs.Fmt.{decimal}
use Rattle.cell_base.specs.Hex.{hex}
use Rattle.cell_hunt.specs.declared.site.Site.{Site}
use Rattle.hunt_tally.specs.Tallies.{Tells}
use Rattle.hunt_reports.specs.declared.locations.Location.{Location}
use Rattle.hunt_reports.specs.declared.origins.Places.{Places}
use Rattle.hunt_reports.specs.declared.spent.Loop.{Loop}
use Rattle.hunt_reports.specs.declared.spent.Polled.{Polled}
use Rattle.hunt_reports.specs.declared.spent.Spent.{Spent}
use Rattle.hunt_reports.specs.Locations.{location_of, note_line, short_shown, spu_text}
use Rattle.hunt_reports.specs.Waits.{location_key, lines_shown}

-- ---- what a processor polls

abbrev pub bytes_text : ℕ → List ℕ
bytes_text n = if n == 1 then codes "1 byte" else decimal n ++ codes " bytes"

unfoldable pub written_at : Places → Location → List ℕ
written_at places l = codes "last written at " ++ short_shown places l ++ codes " by " ++ spu_text l.spe

-- who wrote them last: an instruction of a processor, or the host
abbrev pub written_by : Places → Option Location → List ℕ
written_by places (Some l) = written_at places l
written_by places None = codes "last written by the host"

abbrev pub written_text : Places → Option Site → List ℕ
written_text places (Some site) = written_by places (location_of site)
written_text places None = codes "never written"

abbrev pub poll_text : Places → Polled → List ℕ
poll_text places p = codes "; polls " ++ bytes_text p.len ++ codes " at 0x" ++ hex 8 p.at ++ codes ", " ++ written_text places p.writer

abbrev pub polled_text : Places → Option Polled → List ℕ
polled_text places (Some p) = poll_text places p
polled_text places None = []

-- ---- its line

-- it loops up to an instruction, or waits in one
abbrev pub does_text : Places → ℕ → Option ℕ → List ℕ
does_text places spe (Some at) = codes " loops up to " ++ short_shown places (record { spe = spe; at = at })
does_text places spe None = codes " waits"

abbrev pub loop_line : Places → Loop → List ℕ
loop_line places o = note_line places o.first (spu_text o.first.spe ++ does_text places o.first.spe o.last ++ polled_text places o.polled)

-- ---- the finding

-- no step was a change
unfoldable pub never_text : ℕ → List ℕ
never_text budget = codes "  no progress in " ++ decimal budget ++ codes " steps"

-- this step was the last change
unfoldable pub after_text : ℕ → ℕ → List ℕ
after_text step budget = codes "  no progress after step " ++ decimal step ++ codes " of " ++ decimal budget

abbrev pub since_text : ℕ → ℕ → List ℕ
since_text change budget = if change == 0 then never_text budget else after_text (change - 1) budget

abbrev pub no_progress_line : Spent → List ℕ
no_progress_line s = since_text s.last_change s.budget ++ codes ": no mailbox, signal, status or byte of memory changed\n"

abbrev pub loops_shown : Places → List Loop → List ℕ
loops_shown places loops = lines_shown (length loops) (flat_map (loop_line places) (take 4 loops))

abbrev pub loop_key : Places → Loop → List ℕ
loop_key places o = location_key places o.first

abbrev pub livelock_told : Places → Spent → Tells
livelock_told places s = record {
  key = codes "livelock" ++ flat_map (loop_key places) s.loops.items;
  shown = loops_shown places s.loops.items ++ no_progress_line s;
}
