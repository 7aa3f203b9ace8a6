use Rattle.std.proofs.Common.{◌+◌, sym, ◌∙◌, ap, ap₂, not}
use Rattle.std.specs.Prelude.{length}
use Rattle.cell_machine.specs.Moves.{is_moved}
use Rattle.cell_machine.specs.Transfers.{has_element}
use Rattle.cell_machine.proofs.Places.{waits-none, count-begun, elem-begun, retire-begun}
use Rattle.cell_machine.proofs.SpeShown.{not_of, on_of, begin-is, issued-at, open-of}
use Rattle.cell_machine.proofs.processor.Processor.count_of_command.Goals as goal

pub returns-then-not-w-clause-count : goal.returns-then-not-w-clause-count
returns-then-not-w-clause-count c = λ spe P shows sound.
    let q = shows.queue in
    let w = c.requires.waits q.calls q.stands in
    let at = issued-at q.calls P.moves c.args.cmd c.args.w.command q.moves w.command in
    sym (ap length (waits-none spe P c.args.cmd c.args.w.command at (sym (begin-is q.calls P.moves c.args.cmd q.moves) ∙ sym w.may_start ∙ not_of _ c.if-not-w.true)))

pub returns-clause-count : goal.returns-clause-count
returns-clause-count c = λ spe P shows sound.
    let q = shows.queue in
    let d = c.args.w.command in
    let w = c.requires.waits q.calls q.stands in
    let at = issued-at q.calls P.moves c.args.cmd d q.moves w.command in
    let begun = sym (begin-is q.calls P.moves c.args.cmd q.moves) ∙ sym w.may_start ∙ on_of _ c.if-not-w.false in
    let open_yet = open-of q.calls P.moves c.args.cmd q.moves w.outstanding in
    ap₂ (λ a b. a + b) (c.from.ensures ∙ c.others.ensures P.moves d q at) c.from-2.ensures
    ∙ count-begun q.calls spe P c.args.cmd d (has_element P.moves c.args.cmd d) (not (is_moved d)) c.args.w.left q.moves at sound begun
    (elem-begun P c.args.cmd d at sound begun) (retire-begun P c.args.cmd d at sound begun open_yet) w.left
