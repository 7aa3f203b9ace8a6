use Rattle.std.proofs.Common.{◌∙◌}
use Rattle.cell_debug.proofs.TurnLemmas.{until_on, until_over, until_done, turn_until-setup, was_made, was_none, stayed}
use Rattle.cell_debug.proofs.turns.make_turns_until.Goals as goal

pub loop-t-preserved : goal.loop-t-preserved
loop-t-preserved c =
    let made = was_made c.make_turn_until.result _ _ c.make_turn_until.ensures.turn c.if-not-make_turn_until.false in
    record {
      setup = turn_until-setup c.loop-t.t c.args.spe c.args.at c.loop-t.m c.make_turn_until.new.m made ∙ c.loop-t.invariant.setup;
      so_far = until_on c.args.most c.loop-t.t c.args.spe c.args.at c.loop-t.m c.make_turn_until.new.m c.args.m.now c.loop-t-test.true made c.loop-t.invariant.so_far;
    }

pub returns-then-not-make_turn_until : goal.returns-then-not-make_turn_until
returns-then-not-make_turn_until c =
    stayed c.make_turn_until.result c.loop-t.m c.make_turn_until.new.m c.make_turn_until.ensures.stays c.if-not-make_turn_until.true
    ∙ until_over c.args.most c.loop-t.t c.args.spe c.args.at c.loop-t.m c.args.m.now c.loop-t-test.true
    (was_none c.make_turn_until.result _ c.make_turn_until.new.m c.make_turn_until.ensures.turn c.if-not-make_turn_until.true) c.loop-t.invariant.so_far

pub returns : goal.returns
returns c = until_done c.args.most c.loop-t.t c.args.spe c.args.at c.loop-t.m c.args.m.now c.loop-t-test.false c.loop-t.invariant.so_far
