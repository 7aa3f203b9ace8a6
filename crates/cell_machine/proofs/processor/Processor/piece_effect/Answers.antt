use Rattle.std.proofs.Common.{arith, sym, ◌∙◌, ap, ap₂}
use Rattle.std.specs.Prelude.{is_some, Some}
use Rattle.tag_groups.specs.declared.Tags.{Tags}
use Rattle.cell_machine.specs.Spe.{is_faulted}
use Rattle.cell_machine.specs.Transfers.{with_done, after_part, piece_of, part_in, is_put}
use Rattle.cell_machine.specs.Effects.{nowhere, is_fixed, copy_effect}
use Rattle.cell_machine.proofs.SpeShown.{issued-at}
use Rattle.cell_machine.proofs.Controllers.{piece-faulted, piece-may, begins-has, can-copy, part-number, part-inside, kept-of, notified-store}
use Rattle.cell_machine.proofs.StepEffects.{piece-none, piece-some, piece-fixes, part-copied, part-sent}
use Rattle.cell_machine.proofs.processor.Processor.piece_effect.Goals as goal

pub returns-then-is_faulted : goal.returns-then-is_faulted
returns-then-is_faulted c = λ P m shows. piece-none m c.args.spes c.args.spe P c.args.cmd c.args.elem c.args.k (piece-faulted P c.args.cmd c.args.elem c.args.k (ap is_faulted shows.status ∙ sym c.is_faulted.ensures ∙ c.if-is_faulted.true))

pub part_left-requires : goal.part_left-requires
part_left-requires c = kept-of c.requires.0 c.args.self.now c.requires.1

pub returns-in_default : goal.returns-in_default
returns-in_default c = λ P m shows. piece-none m c.args.spes c.args.spe P c.args.cmd c.args.elem c.args.k
    (piece-may P c.args.cmd c.args.elem c.args.k (ap is_faulted shows.status ∙ sym c.is_faulted.ensures ∙ c.if-is_faulted.false) ∙ sym (c.part_left.ensures.may P.moves shows.queue) ∙ ap is_some c.in_default.is)

pub part-copied-requires-clause-few : goal.part-copied-requires-clause-few
part-copied-requires-clause-few c =
    let s = c.requires.1 in
    let q = s.shows.queue in
    let at = issued-at q.calls s.spe.moves c.args.cmd c.command-command.result q.moves (c.command-command.ensures.command q.calls q.stands) in
    (can-copy c.requires.0 999999 s.spe c.args.cmd c.args.elem c.args.k c.command-command.result c.in-Some.x s.bounded at
    (sym (c.part_left.ensures.may s.spe.moves q) ∙ ap is_some c.in-Some.is) (c.in-Some.ensures.some s.spe.moves c.command-command.result q at)).fits.size

pub part-copied-requires-clause-fits : goal.part-copied-requires-clause-fits
part-copied-requires-clause-fits c =
    let s = c.requires.1 in
    let q = s.shows.queue in
    let at = issued-at q.calls s.spe.moves c.args.cmd c.command-command.result q.moves (c.command-command.ensures.command q.calls q.stands) in
    let can = can-copy c.requires.0 999999 s.spe c.args.cmd c.args.elem c.args.k c.command-command.result c.in-Some.x s.bounded at
    (sym (c.part_left.ensures.may s.spe.moves q) ∙ ap is_some c.in-Some.is) (c.in-Some.ensures.some s.spe.moves c.command-command.result q at) in
    let store = can.fits.store in
    let memory = can.fits.memory in
    let few = c.requires.2 in
    (omega arith, omega arith)

pub part-copied-requires-clause-there : goal.part-copied-requires-clause-there
part-copied-requires-clause-there c =
    let s = c.requires.1 in
    let q = s.shows.queue in
    let at = issued-at q.calls s.spe.moves c.args.cmd c.command-command.result q.moves (c.command-command.ensures.command q.calls q.stands) in
    (can-copy c.requires.0 999999 s.spe c.args.cmd c.args.elem c.args.k c.command-command.result c.in-Some.x s.bounded at
    (sym (c.part_left.ensures.may s.spe.moves q) ∙ ap is_some c.in-Some.is) (c.in-Some.ensures.some s.spe.moves c.command-command.result q at)).within

pub fixes_by_piece-fixed-requires : goal.fixes_by_piece-fixed-requires
fixes_by_piece-fixed-requires c =
    let s = c.requires.1 in
    let q = s.shows.queue in
    let at = issued-at q.calls s.spe.moves c.args.cmd c.command-command.result q.moves (c.command-command.ensures.command q.calls q.stands) in
    record { moves = s.spe.moves; command = c.command-command.result; elem = c.args.elem; shows = q; at = at; has = begins-has s.spe.moves c.args.cmd c.command-command.result _ at (sym (c.part_left.ensures.may s.spe.moves q) ∙ ap is_some c.in-Some.is) }

pub signal-requires : goal.signal-requires
signal-requires c =
    let s = c.requires.1 in
    let q = s.shows.queue in
    let at = issued-at q.calls s.spe.moves c.args.cmd c.command-command.result q.moves (c.command-command.ensures.command q.calls q.stands) in
    (can-copy c.requires.0 999999 s.spe c.args.cmd c.args.elem c.args.k c.command-command.result c.in-Some.x s.bounded at
    (sym (c.part_left.ensures.may s.spe.moves q) ∙ ap is_some c.in-Some.is) (c.in-Some.ensures.some s.spe.moves c.command-command.result q at)).signal (sym c.is_signal.ensures ∙ c.if-is_signal.true)

pub returns-then-is_signal : goal.returns-then-is_signal
returns-then-is_signal c = λ P m shows.
    let q = shows.queue in
    let d = c.command-command.result in
    let x = c.in-Some.x in
    let at = issued-at q.calls P.moves c.args.cmd d q.moves (c.command-command.ensures.command q.calls q.stands) in
    let begun = sym (c.part_left.ensures.may P.moves q) ∙ ap is_some c.in-Some.is in
    let may = piece-may P c.args.cmd c.args.elem c.args.k (ap is_faulted shows.status ∙ sym c.is_faulted.ensures ∙ c.if-is_faulted.false) ∙ begun in
    let has = begins-has P.moves c.args.cmd d _ at begun in
    let there = c.in-Some.ensures.some P.moves d q at in
    let A = after_part P c.args.cmd x.number c.args.k d in
    let s = c.requires.1 in
    let own = issued-at s.shows.queue.calls s.spe.moves c.args.cmd d s.shows.queue.moves (c.command-command.ensures.command s.shows.queue.calls s.shows.queue.stands) in
    let signal = (can-copy c.requires.0 999999 s.spe c.args.cmd c.args.elem c.args.k d x s.bounded own
    (sym (c.part_left.ensures.may s.spe.moves s.shows.queue) ∙ ap is_some c.in-Some.is) (c.in-Some.ensures.some s.spe.moves d s.shows.queue own)).signal (sym c.is_signal.ensures ∙ c.if-is_signal.true) in
    let fixed = c.fixes_by_piece-fixed.ensures P.moves d c.args.elem q at has
    ∙ ap (λ (t : Tags). is_fixed t (with_done P.moves c.args.cmd c.args.elem c.args.k)) (sym shows.tags)
    ∙ ap (λ e. is_fixed P.tags (with_done P.moves c.args.cmd e c.args.k)) (sym (part-number P.moves c.args.cmd c.args.elem c.args.k d x has there))
    ∙ sym (piece-fixes m P c.args.cmd c.args.k d x) in
    let told = part-sent c.args.spes c.args.spe c.args.k m P A d x c.signal.result c.fixes_by_piece-fixed.result (sym c.is_signal.ensures ∙ c.if-is_signal.true) signal
    (part-inside P.moves c.args.cmd c.args.elem c.args.k d x has there) (notified-store P (with_done P.moves c.args.cmd x.number c.args.k) c.args.cmd d)
    (λ Q was. c.signal.ensures.sent Q (was ∙ shows.store)) fixed in
    ap Some (c.looking.ensures ∙ ap₂ (λ reads note. record { fetch = nowhere; reads = reads; writes = nowhere; note = note; fixed = c.fixes_by_piece-fixed.result }) c.in_store.ensures c.told_delivery-note.ensures ∙ told) ∙ piece-some m c.args.spes c.args.spe P c.args.cmd c.args.elem c.args.k d x may at there

pub returns : goal.returns
returns c = λ P m shows.
    let q = shows.queue in
    let d = c.command-command.result in
    let x = c.in-Some.x in
    let at = issued-at q.calls P.moves c.args.cmd d q.moves (c.command-command.ensures.command q.calls q.stands) in
    let begun = sym (c.part_left.ensures.may P.moves q) ∙ ap is_some c.in-Some.is in
    let may = piece-may P c.args.cmd c.args.elem c.args.k (ap is_faulted shows.status ∙ sym c.is_faulted.ensures ∙ c.if-is_faulted.false) ∙ begun in
    let has = begins-has P.moves c.args.cmd d _ at begun in
    let there = c.in-Some.ensures.some P.moves d q at in
    let Q = (piece_of m P c.args.cmd c.args.k d x).spe in
    let fixed = c.fixes_by_piece-fixed.ensures P.moves d c.args.elem q at has
    ∙ ap (λ (t : Tags). is_fixed t (with_done P.moves c.args.cmd c.args.elem c.args.k)) (sym shows.tags)
    ∙ ap (λ e. is_fixed P.tags (with_done P.moves c.args.cmd e c.args.k)) (sym (part-number P.moves c.args.cmd c.args.elem c.args.k d x has there))
    ∙ sym (piece-fixes m P c.args.cmd c.args.k d x) in
    ap Some (c.copying.ensures Q fixed ∙ ap (λ b. copy_effect c.args.spe b c.part-copied.result Q) c.is_put.ensures ∙ ap (λ y. copy_effect c.args.spe (is_put d.kind) y Q) c.part-copied.ensures.ends
    ∙ part-copied c.args.spes c.args.spe d (part_in x c.args.k) (piece_of m P c.args.cmd c.args.k d x) (sym c.is_signal.ensures ∙ c.if-is_signal.false))
    ∙ piece-some m c.args.spes c.args.spe P c.args.cmd c.args.elem c.args.k d x may at there
