use Rattle.std.proofs.Common.{◌≡◌, length, arith}
use Rattle.cell_base.specs.Words.{lines_of}
use Rattle.cell_base.proofs.WordLaws.{no_lines}
use Rattle.hunt_command.proofs.PlacingLaws.{one_line, all_lines}
use Rattle.hunt_command.proofs.placings.placings_in.Goals as goal

pub loop-rest-preserved : goal.loop-rest-preserved
loop-rest-preserved c = record {
  spes = omega (arith, c.loop-rest.invariant.spes, c.first_line.ensures.less, c.spes_after.ensures.few);
  sources = omega (arith, c.loop-rest.invariant.sources, c.first_line.ensures.less, c.sources_after.ensures.few);
  so_far =
      one_line c.loop-rest.placings.items c.keep.new.placings.items _ c.loop-rest.counts.spes c.loop-rest.counts.sources c.spes_after.result c.sources_after.result (lines_of c.loop-rest.rest.now) c.first_line.result.0.now
      (lines_of c.first_line.result.1.now) c.said_by-said.result c.placing_of.result c.first_line.ensures.line c.said_by-said.ensures c.placing_of.ensures c.spes_after.ensures.after c.sources_after.ensures.after c.in_ok-keep.ensures c.loop-rest.invariant.so_far;
}

pub returns : goal.returns
returns c =
    let empty : length c.loop-rest.rest.now ≡ 0 = grind arith in
    all_lines c.loop-rest.placings.items _ c.loop-rest.counts.spes c.loop-rest.counts.sources (lines_of c.loop-rest.rest.now) (no_lines c.loop-rest.rest.now empty) c.loop-rest.invariant.so_far
