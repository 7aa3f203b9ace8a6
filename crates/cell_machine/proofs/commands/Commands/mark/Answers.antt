use Rattle.std.proofs.Common.{refl, sym, ◌∙◌, subst, ◌∷◌, [], ◌++◌}
use Rattle.std.specs.Prelude.{IsSome}
use Rattle.mfc_queue.specs.Calls.{Mark}
use Rattle.mfc_queue.proofs.CallLaws.{outstanding-marked}
use Rattle.cell_machine.proofs.SpeShown.{part-facts, list-kind, plain-kind}
use Rattle.cell_machine.proofs.CommandsShown.{part-open, part-within, part-current, part-ended, mark-left, mark-plain, mark-list, moved-size}
use Rattle.cell_machine.proofs.commands.Commands.mark.Goals as goal

pub list_of-list-requires : goal.list_of-list-requires
list_of-list-requires c =
    let s = c.requires in
    record { calls = s.shows.calls; stands = s.shows.stands; outstanding = part-open s.shows.calls s.moves c.args.cmd s.elem c.args.k s.command s.shows.moves s.at s.has }

pub mark-requires : goal.mark-requires
mark-requires c =
    let s = c.requires in
    record {
      calls = s.shows.calls;
      stands = s.shows.stands;
      outstanding = part-open s.shows.calls s.moves c.args.cmd s.elem c.args.k s.command s.shows.moves s.at s.has;
      within = part-within s.shows.calls s.moves c.args.cmd s.elem c.args.k s.command s.shows.moves s.at s.has;
    }

pub returns-then-not-mark : goal.returns-then-not-mark
returns-then-not-mark c = λ m d e shows at has.
    mark-left c.args.self.now.queue _ c.args.self.now.progress m c.args.cmd e c.args.k d shows at has
    (sym (c.mark.ensures.all shows.calls shows.stands) ∙ c.if-not-mark.true) (c.mark.ensures.stands shows.calls shows.stands) c.mark.ensures.places

pub finish-requires-clause-one : goal.finish-requires-clause-one
finish-requires-clause-one c =
    let s = c.requires in
    record {
      calls = s.shows.calls ++ Mark c.args.cmd c.args.k ∷ [];
      stands = c.mark.ensures.stands s.shows.calls s.shows.stands;
      outstanding = outstanding-marked s.shows.calls c.args.cmd c.args.k c.args.cmd ∙ part-open s.shows.calls s.moves c.args.cmd s.elem c.args.k s.command s.shows.moves s.at s.has;
    }

pub finish-requires-clause-progress : goal.finish-requires-clause-progress
finish-requires-clause-progress c =
    let s = c.requires in
    let l = list-kind s.moves c.args.cmd s.command c.list_of-list.result c.in-Some.list (c.list_of-list.ensures s.moves s.command s.shows s.at) c.in-Some.is in
    let f = part-facts s.moves c.args.cmd s.elem c.args.k s.command s.has in
    subst IsSome (sym (part-current s.moves c.args.cmd s.elem c.args.k s.command l.0 f) ∙ l.1.current) refl

pub retire-requires : goal.retire-requires
retire-requires c =
    let s = c.requires in
    record {
      calls = s.shows.calls ++ Mark c.args.cmd c.args.k ∷ [];
      stands = c.mark.ensures.stands s.shows.calls s.shows.stands;
      outstanding = outstanding-marked s.shows.calls c.args.cmd c.args.k c.args.cmd ∙ part-open s.shows.calls s.moves c.args.cmd s.elem c.args.k s.command s.shows.moves s.at s.has;
    }

pub returns-in-Some : goal.returns-in-Some
returns-in-Some c = λ m d e shows at has.
    let l = list-kind m c.args.cmd d c.list_of-list.result c.in-Some.list (c.list_of-list.ensures m d shows at) c.in-Some.is in
    let f = part-facts m c.args.cmd e c.args.k d has in
    c.finish.ensures _ d _ f.element (mark-list c.args.self.now.queue _ c.args.self.now.progress m c.args.cmd e c.args.k d shows at l.0 has (c.mark.ensures.stands shows.calls shows.stands) c.mark.ensures.places)
    at l.0 (moved-size d f.moved) l.1 (part-current m c.args.cmd e c.args.k d l.0 f)
    (part-ended shows.calls m c.args.cmd e c.args.k d shows.moves at l.0 has f (sym (c.mark.ensures.all shows.calls shows.stands) ∙ c.if-not-mark.false))

pub returns-in-None : goal.returns-in-None
returns-in-None c = λ m d e shows at has.
    mark-plain c.args.self.now.queue c.mark.new.self _ c.args.self.now.progress m c.args.cmd e c.args.k d shows at (plain-kind m c.args.cmd d c.list_of-list.result (c.list_of-list.ensures m d shows at) c.in-None.is) has
    (sym (c.mark.ensures.all shows.calls shows.stands) ∙ c.if-not-mark.false) (c.retire.ensures.stands _ (c.mark.ensures.stands shows.calls shows.stands)) c.mark.ensures.places c.retire.ensures.places
