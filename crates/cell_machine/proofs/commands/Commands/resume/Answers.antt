use Rattle.std.proofs.Common.{◌≡◌, ◌==◌, true, false, sym, ◌∙◌, subst, ◌∷◌, [], inl, inr, arith}
use Rattle.std.proofs.lemmas.Bool.Decides.{nat_tests}
use Rattle.mfc_lists.specs.Readings.{StandsFor as StandsForReading}
use Rattle.cell_machine.specs.Channels.{with_resumed}
use Rattle.cell_machine.specs.MovesShown.{ShowsQueue}
use Rattle.cell_machine.proofs.SpeShown.{issued-at, list-kind, plain-kind}
use Rattle.cell_machine.proofs.ListsGo.{acknowledged}
use Rattle.cell_machine.proofs.CommandsShown.{plain-unstalled}
use Rattle.cell_machine.proofs.Acknowledged.{resume-none, resume-one, stall-none, stall-some, stalled-size}
use Rattle.cell_machine.proofs.commands.Commands.resume.Goals as goal

pub returns-then-from-tag : goal.returns-then-from-tag
returns-then-from-tag c = λ m shows.
    let at = issued-at shows.calls m c.args.cmd c.command.result shows.moves (c.command.ensures.command shows.calls shows.stands) in
    let off : (c.command.result.tag == c.args.tag) ≡ false = (let e = c.from.ensures in let n = c.if-from-tag.true in grind (arith, nat_tests)) in
    resume-none c.args.self.now.queue c.args.self.now.progress m c.args.tag c.args.cmd shows (stall-none m c.args.tag c.args.cmd c.command.result at (inl off))

pub returns-then-not-stalled : goal.returns-then-not-stalled
returns-then-not-stalled c = λ m shows.
    let at = issued-at shows.calls m c.args.cmd c.command.result shows.moves (c.command.ensures.command shows.calls shows.stands) in
    let l = list-kind m c.args.cmd c.command.result c.list_of.result c.in-Some.list (c.list_of.ensures m c.command.result shows at) c.in-Some.is in
    resume-none c.args.self.now.queue c.args.self.now.progress m c.args.tag c.args.cmd shows (stall-none m c.args.tag c.args.cmd c.command.result at (inr (sym (c.stalled.ensures.stalled _ l.1) ∙ c.if-not-stalled.true)))

pub returns-in_default : goal.returns-in_default
returns-in_default c = λ m shows.
    let at = issued-at shows.calls m c.args.cmd c.command.result shows.moves (c.command.ensures.command shows.calls shows.stands) in
    resume-none c.args.self.now.queue c.args.self.now.progress m c.args.tag c.args.cmd shows
    (stall-none m c.args.tag c.args.cmd c.command.result at (inr (plain-unstalled m c.args.cmd c.command.result (plain-kind m c.args.cmd c.command.result c.list_of.result (c.list_of.ensures m c.command.result shows at) c.in_default.is))))

pub returns : goal.returns
returns c = λ m shows.
    let d = c.command.result in
    let at = issued-at shows.calls m c.args.cmd d shows.moves (c.command.ensures.command shows.calls shows.stands) in
    let l = list-kind m c.args.cmd d c.list_of.result c.in-Some.list (c.list_of.ensures m d shows at) c.in-Some.is in
    let same : (d.tag == c.args.tag) ≡ true = (let e = c.from.ensures in let n = c.if-from-tag.false in grind (arith, nat_tests)) in
    let stalled = sym (c.stalled.ensures.stalled _ l.1) ∙ c.if-not-stalled.false in
    let s = stall-some m c.args.tag c.args.cmd d at same stalled in
    subst (λ xs. ShowsQueue c.keep.new.self.queue c.keep.new.self.progress (with_resumed m xs)) (sym s.2)
    (c.keep.ensures (with_resumed m (s.0 ∷ [])) d (resume-one c.args.self.now.queue c.args.self.now.progress m c.args.cmd d s.0 shows at s.1) at l.0
    (stalled-size m c.args.cmd d (shows.moves.done.elements c.args.cmd d at) l.0 stalled)
    (subst (StandsForReading c.resume.new.self) (sym (acknowledged m c.args.cmd d s.0 l.0 s.1)) (c.resume.ensures _ l.1)))
