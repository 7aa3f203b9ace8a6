use Rattle.std.proofs.Common.{◌≡◌, length, arith, refl, true≢false, sym, ◌∙◌, ap, subst, ◌∷◌, [], ◌++◌}
use Rattle.std.specs.Prelude.{Some, None}
use Rattle.mfc_queue.specs.Calls.{Issue, SetParts}
use Rattle.mfc_lists.specs.Readings.{StandsFor as StandsForReading, opening_reading}
use Rattle.cell_machine.specs.Channels.{with_issued}
use Rattle.cell_machine.specs.MovesShown.{IsListOf, ShowsQueue, reading}
use Rattle.cell_machine.proofs.MovesShown.{whole-elements}
use Rattle.cell_machine.proofs.ListsGo.{issued-own}
use Rattle.cell_machine.proofs.CommandsShown.{new-outstanding, outstanding-set, issue-queue}
use Rattle.cell_machine.proofs.commands.Commands.issue.Goals as goal

pub set_parts-requires-clause-there : goal.set_parts-requires-clause-there
set_parts-requires-clause-there c =
    let s = c.requires.number.shows in
    record { calls = s.calls ++ Issue c.args.command ∷ []; stands = c.in-Ok.ensures.issued s.calls s.stands; outstanding = new-outstanding _ s.calls c.args.command c.in-Ok.cmd s.stands (c.in-Ok.ensures.number s.calls s.stands) }

pub set_progress-requires : goal.set_progress-requires
set_progress-requires c =
    let s = c.requires.number.shows in
    record {
      calls = (s.calls ++ Issue c.args.command ∷ []) ++ SetParts c.in-Ok.cmd c.parts_begun-parts.result ∷ [];
      stands = c.set_parts.ensures.stands _ (c.in-Ok.ensures.issued s.calls s.stands);
      outstanding = outstanding-set (s.calls ++ Issue c.args.command ∷ []) c.in-Ok.cmd _ ∙ new-outstanding _ s.calls c.args.command c.in-Ok.cmd s.stands (c.in-Ok.ensures.number s.calls s.stands);
    }

pub returns-then-is_list : goal.returns-then-is_list
returns-then-is_list c = λ m shows.
    let f = issue-queue c.args.self.now.queue c.set_parts.new.self c.args.self.now.progress m c.in-Ok.cmd c.parts_begun-parts.result c.args.command shows (whole-elements c.args.lines c.args.command c.requires.fits.1)
    (c.in-Ok.ensures.number shows.calls shows.stands) c.parts_begun-parts.ensures.count (c.set_parts.ensures.stands _ (c.in-Ok.ensures.issued shows.calls shows.stands)) (λ o differs. c.set_parts.ensures.places o ∙ c.in-Ok.ensures.places o differs) in
    let is : c.in-Ok.cmd ≡ length m.issued = c.in-Ok.ensures.number shows.calls shows.stands ∙ ap length shows.moves.done.issued in
    let list = sym c.is_list.ensures ∙ c.if-is_list.true in
    let opens : reading (with_issued m c.args.command) c.in-Ok.cmd c.args.command ≡ opening_reading c.args.command =
    subst (λ k. reading (with_issued m c.args.command) k c.args.command ≡ opening_reading c.args.command) (sym is) (issued-own m c.args.command list (shows.moves.done.fresh (length m.issued) (omega arith))) in
    let own : IsListOf (Some c.new-list.result) (with_issued m c.args.command) c.in-Ok.cmd c.args.command =
    (λ l. subst (StandsForReading c.new-list.result) (sym opens) c.new-list.ensures, λ plain. absurd (true≢false (sym list ∙ plain))) in
    subst (λ q. ShowsQueue q c.set_progress.new.self.progress (with_issued m c.args.command)) (sym c.set_progress.ensures.queue)
    (f.2 c.set_progress.new.self.progress (c.set_progress.ensures.progress (with_issued m c.args.command) c.args.command f.1 f.0
    (record { list = subst (λ o. IsListOf o (with_issued m c.args.command) c.in-Ok.cmd c.args.command) (sym c.new.ensures.list) own; others = c.new.ensures.others _ c.in-Ok.cmd c.args.command own c.is_moved-moves.ensures })))

pub set_progress-requires-else-is_list : goal.set_progress-requires-else-is_list
set_progress-requires-else-is_list c =
    let s = c.requires.number.shows in
    record {
      calls = (s.calls ++ Issue c.args.command ∷ []) ++ SetParts c.in-Ok.cmd c.parts_begun-parts.result ∷ [];
      stands = c.set_parts.ensures.stands _ (c.in-Ok.ensures.issued s.calls s.stands);
      outstanding = outstanding-set (s.calls ++ Issue c.args.command ∷ []) c.in-Ok.cmd _ ∙ new-outstanding _ s.calls c.args.command c.in-Ok.cmd s.stands (c.in-Ok.ensures.number s.calls s.stands);
    }

pub returns-else-is_list : goal.returns-else-is_list
returns-else-is_list c = λ m shows.
    let f = issue-queue c.args.self.now.queue c.set_parts.new.self c.args.self.now.progress m c.in-Ok.cmd c.parts_begun-parts.result c.args.command shows (whole-elements c.args.lines c.args.command c.requires.fits.1)
    (c.in-Ok.ensures.number shows.calls shows.stands) c.parts_begun-parts.ensures.count (c.set_parts.ensures.stands _ (c.in-Ok.ensures.issued shows.calls shows.stands)) (λ o differs. c.set_parts.ensures.places o ∙ c.in-Ok.ensures.places o differs) in
    let plain = sym c.is_list.ensures ∙ c.if-is_list.false in
    let own : IsListOf None (with_issued m c.args.command) c.in-Ok.cmd c.args.command = (λ list. absurd (true≢false (sym list ∙ plain)), λ p. refl) in
    subst (λ q. ShowsQueue q c.set_progress-else-is_list.new.self.progress (with_issued m c.args.command)) (sym c.set_progress-else-is_list.ensures.queue)
    (f.2 c.set_progress-else-is_list.new.self.progress (c.set_progress-else-is_list.ensures.progress (with_issued m c.args.command) c.args.command f.1 f.0
    (record { list = subst (λ o. IsListOf o (with_issued m c.args.command) c.in-Ok.cmd c.args.command) (sym c.new-else-is_list.ensures.list) own; others = c.new-else-is_list.ensures.others _ c.in-Ok.cmd c.args.command own c.is_moved-moves.ensures })))
