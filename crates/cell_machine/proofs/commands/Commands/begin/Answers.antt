use Rattle.std.proofs.Common.{◌≢◌, sym, ◌∙◌, subst, arith, ◌∷◌, [], ◌++◌}
use Rattle.mfc_queue.specs.Calls.{SetParts}
use Rattle.mfc_lists.specs.Readings.{StandsFor as StandsForReading, with_element}
use Rattle.cell_machine.specs.MovesShown.{reading}
use Rattle.cell_machine.specs.Moves.{parts_in}
use Rattle.cell_machine.proofs.CommandsShown.{element-open, outstanding-set, read-list, element-current, element-reads}
use Rattle.cell_machine.proofs.commands.Commands.begin.Goals as goal

pub set_parts-requires-clause-there : goal.set_parts-requires-clause-there
set_parts-requires-clause-there c =
    let s = c.requires.read in
    record { calls = s.shows.calls; stands = s.shows.stands; outstanding = element-open s.shows.calls s.moves c.args.cmd s.command s.shows.moves s.at s.has }

pub finish-requires-clause-one : goal.finish-requires-clause-one
finish-requires-clause-one c =
    let s = c.requires.read in
    record {
      calls = s.shows.calls ++ SetParts c.args.cmd c.parts-parts.result ∷ [];
      stands = c.set_parts.ensures.stands s.shows.calls s.shows.stands;
      outstanding = outstanding-set s.shows.calls c.args.cmd c.parts-parts.result ∙ element-open s.shows.calls s.moves c.args.cmd s.command s.shows.moves s.at s.has;
    }

pub returns-then-parts-eq0 : goal.returns-then-parts-eq0
returns-then-parts-eq0 c = λ m d shows at has number stands.
    let reads = element-reads m c.args.cmd d c.args.x (shows.moves.done.elements c.args.cmd d at) has number in
    c.finish.ensures _ d (with_element (reading m c.args.cmd d) c.args.x) c.args.x
    (read-list c.args.self.now.queue _ c.args.self.now.progress m c.args.cmd c.parts-parts.result d c.args.x shows at has number c.parts-parts.ensures.count (c.set_parts.ensures.stands shows.calls shows.stands) c.set_parts.ensures.places)
    at reads.list reads.size stands (element-current (reading m c.args.cmd d) c.args.x) (reads.empty (sym c.parts-parts.ensures.count ∙ c.if-parts-eq0.true))

pub keep-requires : goal.keep-requires
keep-requires c =
    let s = c.requires.read in
    record {
      calls = s.shows.calls ++ SetParts c.args.cmd c.parts-parts.result ∷ [];
      stands = c.set_parts.ensures.stands s.shows.calls s.shows.stands;
      outstanding = outstanding-set s.shows.calls c.args.cmd c.parts-parts.result ∙ element-open s.shows.calls s.moves c.args.cmd s.command s.shows.moves s.at s.has;
    }

pub returns : goal.returns
returns c = λ m d shows at has number stands.
    let reads = element-reads m c.args.cmd d c.args.x (shows.moves.done.elements c.args.cmd d at) has number in
    let some : parts_in c.args.x ≢ 0 = (let n = c.parts-parts.ensures.count in let e = c.if-parts-eq0.false in omega arith) in
    let goes = reads.moved some in (
      c.keep.ensures _ d
          (read-list c.args.self.now.queue _ c.args.self.now.progress m c.args.cmd c.parts-parts.result d c.args.x shows at has number c.parts-parts.ensures.count (c.set_parts.ensures.stands shows.calls shows.stands) c.set_parts.ensures.places)
          at reads.list reads.size (subst (StandsForReading c.args.list) (sym goes.0) stands),
      goes.1,
    )
