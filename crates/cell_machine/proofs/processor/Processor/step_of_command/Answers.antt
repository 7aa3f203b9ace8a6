use Rattle.std.proofs.Common.{◌≡◌, ◌+◌, [], ◌∷◌, not, sym, ◌∙◌, ap, subst, arith}
use Rattle.std.specs.Prelude.{Ok, Err, if◌then◌else◌}
use Rattle.cell_base.specs.declared.steps.Step.TheVariants.{Elem, Retire}
use Rattle.mfc_queue.specs.At.{IsAt}
use Rattle.mfc_queue.proofs.AtLemmas.{at-here, at-behind, behind-of}
use Rattle.cell_machine.proofs.Places.{number-cut, waits-none, elem-begun, retire-begun}
use Rattle.cell_machine.proofs.SpeShown.{begin-is, issued-at, open-of}
use Rattle.cell_machine.proofs.processor.Processor.step_of_command.Goals as goal

pub returns-then-not-w : goal.returns-then-not-w
returns-then-not-w c = λ P shows sound.
    let q = shows.queue in
    let w = c.requires.seen.waits q.calls q.stands in
    let at = issued-at q.calls P.moves c.args.cmd c.args.w.command q.moves w.command in
    subst (IsAt (Err c.args.n) c.args.n) (sym (waits-none c.args.spe P c.args.cmd c.args.w.command at (sym (begin-is q.calls P.moves c.args.cmd q.moves) ∙ sym w.may_start ∙ c.if-not-w.true)))
    (let e : c.args.n ≡ 0 + c.args.n = omega arith in e)

pub returns-in-Ok : goal.returns-in-Ok
returns-in-Ok c = λ P shows sound.
    let q = shows.queue in
    let d = c.args.w.command in
    let w = c.requires.seen.waits q.calls q.stands in
    let at = issued-at q.calls P.moves c.args.cmd d q.moves w.command in
    let begun = sym (begin-is q.calls P.moves c.args.cmd q.moves) ∙ sym w.may_start ∙ c.if-not-w.false in
    let open_yet = open-of q.calls P.moves c.args.cmd q.moves w.outstanding in
    let first = subst (λ b. IsAt c.alone.result c.args.n (if b then Elem c.args.spe c.args.cmd ∷ [] else [])) (c.has_element.ensures P.moves d q at ∙ sym (elem-begun P c.args.cmd d at sound begun)) c.alone.ensures in
    subst (IsAt (Ok c.in-Ok.step) c.args.n) (sym (number-cut c.args.spe P c.args.cmd d at)) (at-here c.alone.result c.args.n _ _ c.in-Ok.step c.in-Ok.is first)

pub returns-in-Ok-alone : goal.returns-in-Ok-alone
returns-in-Ok-alone c = λ P shows sound.
    let q = shows.queue in
    let d = c.args.w.command in
    let w = c.requires.seen.waits q.calls q.stands in
    let at = issued-at q.calls P.moves c.args.cmd d q.moves w.command in
    let begun = sym (begin-is q.calls P.moves c.args.cmd q.moves) ∙ sym w.may_start ∙ c.if-not-w.false in
    let open_yet = open-of q.calls P.moves c.args.cmd q.moves w.outstanding in
    let first = subst (λ b. IsAt c.alone.result c.args.n (if b then Elem c.args.spe c.args.cmd ∷ [] else [])) (c.has_element.ensures P.moves d q at ∙ sym (elem-begun P c.args.cmd d at sound begun)) c.alone.ensures in
    let second = subst (λ b. IsAt c.alone-2.result c.in-Err.behind (if b then Retire c.args.spe c.args.cmd ∷ [] else [])) (ap not c.is_moved.ensures ∙ sym (retire-begun P c.args.cmd d at sound begun open_yet)) c.alone-2.ensures in
    subst (IsAt (Ok c.in-Ok-alone.step) c.args.n) (sym (number-cut c.args.spe P c.args.cmd d at))
    (at-behind (Ok c.in-Ok-alone.step) c.args.n c.in-Err.behind _ _ (behind-of c.alone.result c.args.n c.in-Err.behind _ c.in-Err.is first)
    (at-here c.alone-2.result c.in-Err.behind _ _ c.in-Ok-alone.step c.in-Ok-alone.is second))

pub returns-in-Err-alone : goal.returns-in-Err-alone
returns-in-Err-alone c = λ P shows sound.
    let q = shows.queue in
    let d = c.args.w.command in
    let w = c.requires.seen.waits q.calls q.stands in
    let at = issued-at q.calls P.moves c.args.cmd d q.moves w.command in
    let begun = sym (begin-is q.calls P.moves c.args.cmd q.moves) ∙ sym w.may_start ∙ c.if-not-w.false in
    let open_yet = open-of q.calls P.moves c.args.cmd q.moves w.outstanding in
    let first = subst (λ b. IsAt c.alone.result c.args.n (if b then Elem c.args.spe c.args.cmd ∷ [] else [])) (c.has_element.ensures P.moves d q at ∙ sym (elem-begun P c.args.cmd d at sound begun)) c.alone.ensures in
    let second = subst (λ b. IsAt c.alone-2.result c.in-Err.behind (if b then Retire c.args.spe c.args.cmd ∷ [] else [])) (ap not c.is_moved.ensures ∙ sym (retire-begun P c.args.cmd d at sound begun open_yet)) c.alone-2.ensures in
    subst (IsAt c.piece_at.result c.args.n) (sym (number-cut c.args.spe P c.args.cmd d at))
    (at-behind c.piece_at.result c.args.n c.in-Err.behind _ _ (behind-of c.alone.result c.args.n c.in-Err.behind _ c.in-Err.is first)
    (at-behind c.piece_at.result c.in-Err.behind c.in-Err-alone.behind _ _ (behind-of c.alone-2.result c.in-Err.behind c.in-Err-alone.behind _ c.in-Err-alone.is second) (c.piece_at.ensures P d shows sound begun at)))
