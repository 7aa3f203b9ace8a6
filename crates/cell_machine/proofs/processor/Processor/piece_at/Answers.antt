use Rattle.std.proofs.lemmas.Result.{err_from_is_err_and}
use Rattle.std.proofs.Common.{◌≡◌, ◌+◌, ◌&&◌, arith, sym, ◌∙◌, ap, subst, inr}
use Rattle.std.specs.Prelude.{Ok, Err}
use Rattle.mfc_queue.specs.At.{IsAt}
use Rattle.mfc_queue.specs.Calls.{left}
use Rattle.mfc_queue.proofs.AtLemmas.{got-map, behind-map}
use Rattle.cell_base.specs.declared.steps.Step.TheVariants.{Piece}
use Rattle.cell_machine.specs.Transfers.{has_part}
use Rattle.cell_machine.proofs.Places.{pieces-left, no-pieces, piece-none}
use Rattle.cell_machine.proofs.SpeShown.{begins-at}
use Rattle.cell_machine.specs.Moves.{may_begin, present}
use Rattle.cell_machine.proofs.processor.Processor.piece_at.Goals as goal

pub left_at-requires : goal.left_at-requires
left_at-requires c = let s = c.requires.kept in record { calls = s.calls; stands = s.stands; outstanding = (c.requires.seen.waits s.calls s.stands).outstanding }

pub returns-in_default : goal.returns-in_default
returns-in_default c = λ P d shows sound begins at.
    let q = shows.queue in
    subst (IsAt (Err c.args.n) c.args.n) (sym (no-pieces c.args.spe P c.args.cmd (present P.moves.read c.args.cmd d) (λ e k. piece-none P c.args.cmd e k (inr (begins-at P.moves c.args.cmd d (has_part P.moves c.args.cmd e k) at ∙ ap (λ b. b && may_begin P.moves c.args.cmd) (c.in_default.ensures.none P.moves d e k q at)))))) (let e : c.args.n ≡ 0 + c.args.n = omega arith in e)

pub returns : goal.returns
returns c = λ P d shows sound begins at.
    let q = shows.queue in
    subst (IsAt (Ok (Piece c.args.spe c.args.cmd c.in-Some.x.number c.in_ok-part.part)) c.args.n) (sym (pieces-left q.calls c.args.spe P c.args.cmd d c.in-Some.x q.moves at (c.in-Some.ensures.some P.moves d q at) sound begins))
    (got-map (Piece c.args.spe c.args.cmd c.in-Some.x.number) (left q.calls c.args.cmd) c.args.n c.in_ok-part.part (c.in_ok-part.ensures.left q.calls q.stands))

pub returns-in_err-part : goal.returns-in_err-part
returns-in_err-part c = λ P d shows sound begins at.
    let q = shows.queue in
    let behind = c.in_err-part.ensures.left q.calls q.stands in
    let p = err_from_is_err_and c.from_residual.result c.from_residual.ensures.1 in
    subst (IsAt c.from_residual.result c.args.n) (sym (pieces-left q.calls c.args.spe P c.args.cmd d c.in-Some.x q.moves at (c.in-Some.ensures.some P.moves d q at) sound begins))
    (rw (p.1, p.2) (behind-map (Piece c.args.spe c.args.cmd c.in-Some.x.number) (left q.calls c.args.cmd) c.args.n c.in_err-part.field-0.0 behind))
