use Rattle.std.proofs.Common.{refl, sym, ◌∙◌, ap, subst}
use Rattle.std.specs.Prelude.{IsSome}
use Rattle.mfc_lists.specs.Readings.{is_complete as is_complete_reading}
use Rattle.cell_machine.specs.Transfers.{with_done}
use Rattle.cell_machine.specs.MovesShown.{reading}
use Rattle.cell_machine.proofs.SpeShown.{part-facts, list-kind, plain-kind}
use Rattle.cell_machine.proofs.MovesShown.{mark-waits, mark-ends, complete-reading, eq_off}
use Rattle.cell_machine.proofs.CommandsShown.{part-open, part-within, part-current, part-ended, moved-size}
use Rattle.cell_machine.proofs.commands.Commands.ends_by_part.Goals as goal

pub completes-requires : goal.completes-requires
completes-requires c =
    let s = c.requires in
    record {
      calls = s.shows.calls;
      stands = s.shows.stands;
      outstanding = part-open s.shows.calls s.moves c.args.cmd s.elem c.args.k s.command s.shows.moves s.at s.has;
      within = part-within s.shows.calls s.moves c.args.cmd s.elem c.args.k s.command s.shows.moves s.at s.has;
    }

pub returns-then-not-completes : goal.returns-then-not-completes
returns-then-not-completes c = λ m d e shows at has. sym (mark-waits shows.calls m c.args.cmd e c.args.k d shows.moves at has (sym (c.completes.ensures shows.calls shows.stands) ∙ c.if-not-completes.true))

pub list_of-requires : goal.list_of-requires
list_of-requires c =
    let s = c.requires in
    record { calls = s.shows.calls; stands = s.shows.stands; outstanding = part-open s.shows.calls s.moves c.args.cmd s.elem c.args.k s.command s.shows.moves s.at s.has }

pub ends-requires : goal.ends-requires
ends-requires c =
    let s = c.requires in
    let l = list-kind s.moves c.args.cmd s.command c.list_of.result c.in-Some.list (c.list_of.ensures s.moves s.command s.shows s.at) c.in-Some.is in
    let f = part-facts s.moves c.args.cmd s.elem c.args.k s.command s.has in
    subst IsSome (sym (part-current s.moves c.args.cmd s.elem c.args.k s.command l.0 f) ∙ l.1.current) refl

pub returns-in-Some : goal.returns-in-Some
returns-in-Some c = λ m d e shows at has.
    let l = list-kind m c.args.cmd d c.list_of.result c.in-Some.list (c.list_of.ensures m d shows at) c.in-Some.is in
    let f = part-facts m c.args.cmd e c.args.k d has in
    c.ends.ensures (reading m c.args.cmd d) f.element l.1 (part-current m c.args.cmd e c.args.k d l.0 f)
    ∙ sym (complete-reading (with_done m c.args.cmd e c.args.k) c.args.cmd d at l.0 (eq_off d.size 0 (moved-size d f.moved))
    ∙ ap is_complete_reading (part-ended shows.calls m c.args.cmd e c.args.k d shows.moves at l.0 has f (sym (c.completes.ensures shows.calls shows.stands) ∙ c.if-not-completes.false)))

pub returns-in-None : goal.returns-in-None
returns-in-None c = λ m d e shows at has.
    sym (mark-ends shows.calls m c.args.cmd e c.args.k d shows.moves at (plain-kind m c.args.cmd d c.list_of.result (c.list_of.ensures m d shows at) c.in-None.is) has (sym (c.completes.ensures shows.calls shows.stands) ∙ c.if-not-completes.false))
