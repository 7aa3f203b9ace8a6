use Rattle.std.proofs.Common.{◌+◌, refl, sym, subst}
use Rattle.std.specs.Prelude.{slice_set}
use Rattle.cell_base.specs.declared.steps.Step.TheVariants.{Exec, Piece, Elem, Retire, Atomic, Host}
use Rattle.run_permute.specs.Watches.{AreWatches}
use Rattle.run_permute.proofs.Following.{ready, step-within, watch-at, in-watches, ok-all, all-idle, all-settled, host-settled, one-taken, one-settled, of-exec, of-piece, of-elem, of-retire, of-atomic, of-host}
use Rattle.run_permute.proofs.watches.follow.Goals as goal

pub bounds-watches-from : goal.bounds-watches-from
bounds-watches-from g c =
    let r = ready g.m c.args.place c.args.step (Exec c.in-Exec.spe) c.args.made.now c.requires.0.run c.requires.1.0 c.requires.1.1.0 c.in-Exec.is in
    in-watches g.m c.args.place c.from.result c.in-Exec.spe c.args.watches.now c.requires.1.1.1.0 c.from.ensures (step-within g.m c.args.place (Exec c.in-Exec.spe) c.args.made.now r.run r.is)

pub execute-requires : goal.execute-requires
execute-requires g c =
    let r = ready g.m c.args.place c.args.step (Exec c.in-Exec.spe) c.args.made.now c.requires.0.run c.requires.1.0 c.requires.1.1.0 c.in-Exec.is in
    let low = in-watches g.m c.args.place c.from.result c.in-Exec.spe c.args.watches.now c.requires.1.1.1.0 c.from.ensures (step-within g.m c.args.place (Exec c.in-Exec.spe) c.args.made.now r.run r.is) in
    (c.requires.0, (r.at, (r.is, (λ k less. c.requires.1.1.1.1 c.in-Exec.spe k less, watch-at g.m c.args.place c.from.result c.in-Exec.spe c.args.watches.now c.index-watches-from.result c.requires.1.1.1.0 c.from.ensures low))))

pub returns-in-Exec-clause-settled : goal.returns-in-Exec-clause-settled
returns-in-Exec-clause-settled g c =
    let r = ready g.m c.args.place c.args.step (Exec c.in-Exec.spe) c.args.made.now c.requires.0.run c.requires.1.0 c.requires.1.1.0 c.in-Exec.is in
    ok-all c.execute.result _ _ (λ b h. one-settled g.m c.args.place (Exec c.in-Exec.spe) c.args.made.now r.run r.at r.is c.in-Exec.spe (of-exec c.in-Exec.spe) (λ e. cc) b h) c.execute.ensures.settled

pub returns-in-Exec-clause-watches : goal.returns-in-Exec-clause-watches
returns-in-Exec-clause-watches g c =
    let r = ready g.m c.args.place c.args.step (Exec c.in-Exec.spe) c.args.made.now c.requires.0.run c.requires.1.0 c.requires.1.1.0 c.in-Exec.is in
    ok-all c.execute.result _ _
    (λ b h t. subst (λ q. AreWatches g.m (c.args.place + 1) (slice_set c.args.watches.now q c.execute.new.self)) (sym c.from.ensures) (one-taken g.m c.args.place (Exec c.in-Exec.spe) c.args.made.now r.run r.at r.is c.in-Exec.spe (of-exec c.in-Exec.spe) (λ e. cc) c.args.watches.now c.execute.new.self c.requires.1.1.1.0 (h t)))
    c.execute.ensures.watches

pub bounds-watches-from-in-Piece : goal.bounds-watches-from-in-Piece
bounds-watches-from-in-Piece g c =
    let r = ready g.m c.args.place c.args.step (Piece c.in-Piece.spe c.in-Piece.cmd c.in-Piece.elem c.in-Piece.part) c.args.made.now c.requires.0.run c.requires.1.0 c.requires.1.1.0 c.in-Piece.is in
    in-watches g.m c.args.place c.from-in-Piece.result c.in-Piece.spe c.args.watches.now c.requires.1.1.1.0 c.from-in-Piece.ensures (step-within g.m c.args.place (Piece c.in-Piece.spe c.in-Piece.cmd c.in-Piece.elem c.in-Piece.part) c.args.made.now r.run r.is)

pub transfer-requires : goal.transfer-requires
transfer-requires g c =
    let r = ready g.m c.args.place c.args.step (Piece c.in-Piece.spe c.in-Piece.cmd c.in-Piece.elem c.in-Piece.part) c.args.made.now c.requires.0.run c.requires.1.0 c.requires.1.1.0 c.in-Piece.is in
    let low = in-watches g.m c.args.place c.from-in-Piece.result c.in-Piece.spe c.args.watches.now c.requires.1.1.1.0 c.from-in-Piece.ensures (step-within g.m c.args.place (Piece c.in-Piece.spe c.in-Piece.cmd c.in-Piece.elem c.in-Piece.part) c.args.made.now r.run r.is) in
    (r.run, (r.at, (refl, (r.is, watch-at g.m c.args.place c.from-in-Piece.result c.in-Piece.spe c.args.watches.now c.index-watches-from-in-Piece.result c.requires.1.1.1.0 c.from-in-Piece.ensures low))))

pub returns-in_ok-transfer-in-Piece-clause-settled : goal.returns-in_ok-transfer-in-Piece-clause-settled
returns-in_ok-transfer-in-Piece-clause-settled g c =
    let r = ready g.m c.args.place c.args.step (Piece c.in-Piece.spe c.in-Piece.cmd c.in-Piece.elem c.in-Piece.part) c.args.made.now c.requires.0.run c.requires.1.0 c.requires.1.1.0 c.in-Piece.is in
    all-settled g.m c.args.place (Piece c.in-Piece.spe c.in-Piece.cmd c.in-Piece.elem c.in-Piece.part) c.args.made.now r.run r.at r.is (λ q e. absurd (cc)) (λ e. cc)

pub returns-in_ok-transfer-in-Piece-clause-watches : goal.returns-in_ok-transfer-in-Piece-clause-watches
returns-in_ok-transfer-in-Piece-clause-watches g c t =
    let r = ready g.m c.args.place c.args.step (Piece c.in-Piece.spe c.in-Piece.cmd c.in-Piece.elem c.in-Piece.part) c.args.made.now c.requires.0.run c.requires.1.0 c.requires.1.1.0 c.in-Piece.is in
    subst (λ q. AreWatches g.m (c.args.place + 1) (slice_set c.args.watches.now q c.transfer.new.self)) (sym c.from-in-Piece.ensures) (one-taken g.m c.args.place (Piece c.in-Piece.spe c.in-Piece.cmd c.in-Piece.elem c.in-Piece.part) c.args.made.now r.run r.at r.is c.in-Piece.spe (of-piece c.in-Piece.spe c.in-Piece.cmd c.in-Piece.elem c.in-Piece.part) (λ e. cc) c.args.watches.now c.transfer.new.self c.requires.1.1.1.0 c.in_ok-transfer-in-Piece.ensures)

pub bounds-watches-from-in-Elem : goal.bounds-watches-from-in-Elem
bounds-watches-from-in-Elem g c =
    let r = ready g.m c.args.place c.args.step (Elem c.in-Elem.spe c.in-Elem.cmd) c.args.made.now c.requires.0.run c.requires.1.0 c.requires.1.1.0 c.in-Elem.is in
    in-watches g.m c.args.place c.from-in-Elem.result c.in-Elem.spe c.args.watches.now c.requires.1.1.1.0 c.from-in-Elem.ensures (step-within g.m c.args.place (Elem c.in-Elem.spe c.in-Elem.cmd) c.args.made.now r.run r.is)

pub transfer-requires-in-Elem : goal.transfer-requires-in-Elem
transfer-requires-in-Elem g c =
    let r = ready g.m c.args.place c.args.step (Elem c.in-Elem.spe c.in-Elem.cmd) c.args.made.now c.requires.0.run c.requires.1.0 c.requires.1.1.0 c.in-Elem.is in
    let low = in-watches g.m c.args.place c.from-in-Elem.result c.in-Elem.spe c.args.watches.now c.requires.1.1.1.0 c.from-in-Elem.ensures (step-within g.m c.args.place (Elem c.in-Elem.spe c.in-Elem.cmd) c.args.made.now r.run r.is) in
    (r.run, (r.at, (refl, (r.is, watch-at g.m c.args.place c.from-in-Elem.result c.in-Elem.spe c.args.watches.now c.index-watches-from-in-Elem.result c.requires.1.1.1.0 c.from-in-Elem.ensures low))))

pub returns-in_ok-transfer-in-Elem-clause-settled : goal.returns-in_ok-transfer-in-Elem-clause-settled
returns-in_ok-transfer-in-Elem-clause-settled g c =
    let r = ready g.m c.args.place c.args.step (Elem c.in-Elem.spe c.in-Elem.cmd) c.args.made.now c.requires.0.run c.requires.1.0 c.requires.1.1.0 c.in-Elem.is in
    all-settled g.m c.args.place (Elem c.in-Elem.spe c.in-Elem.cmd) c.args.made.now r.run r.at r.is (λ q e. absurd (cc)) (λ e. cc)

pub returns-in_ok-transfer-in-Elem-clause-watches : goal.returns-in_ok-transfer-in-Elem-clause-watches
returns-in_ok-transfer-in-Elem-clause-watches g c t =
    let r = ready g.m c.args.place c.args.step (Elem c.in-Elem.spe c.in-Elem.cmd) c.args.made.now c.requires.0.run c.requires.1.0 c.requires.1.1.0 c.in-Elem.is in
    subst (λ q. AreWatches g.m (c.args.place + 1) (slice_set c.args.watches.now q c.transfer-in-Elem.new.self)) (sym c.from-in-Elem.ensures) (one-taken g.m c.args.place (Elem c.in-Elem.spe c.in-Elem.cmd) c.args.made.now r.run r.at r.is c.in-Elem.spe (of-elem c.in-Elem.spe c.in-Elem.cmd) (λ e. cc) c.args.watches.now c.transfer-in-Elem.new.self c.requires.1.1.1.0 c.in_ok-transfer-in-Elem.ensures)

pub bounds-watches-from-in-Retire : goal.bounds-watches-from-in-Retire
bounds-watches-from-in-Retire g c =
    let r = ready g.m c.args.place c.args.step (Retire c.in-Retire.spe c.in-Retire.cmd) c.args.made.now c.requires.0.run c.requires.1.0 c.requires.1.1.0 c.in-Retire.is in
    in-watches g.m c.args.place c.from-in-Retire.result c.in-Retire.spe c.args.watches.now c.requires.1.1.1.0 c.from-in-Retire.ensures (step-within g.m c.args.place (Retire c.in-Retire.spe c.in-Retire.cmd) c.args.made.now r.run r.is)

pub transfer-requires-in-Retire : goal.transfer-requires-in-Retire
transfer-requires-in-Retire g c =
    let r = ready g.m c.args.place c.args.step (Retire c.in-Retire.spe c.in-Retire.cmd) c.args.made.now c.requires.0.run c.requires.1.0 c.requires.1.1.0 c.in-Retire.is in
    let low = in-watches g.m c.args.place c.from-in-Retire.result c.in-Retire.spe c.args.watches.now c.requires.1.1.1.0 c.from-in-Retire.ensures (step-within g.m c.args.place (Retire c.in-Retire.spe c.in-Retire.cmd) c.args.made.now r.run r.is) in
    (r.run, (r.at, (refl, (r.is, watch-at g.m c.args.place c.from-in-Retire.result c.in-Retire.spe c.args.watches.now c.index-watches-from-in-Retire.result c.requires.1.1.1.0 c.from-in-Retire.ensures low))))

pub returns-in_ok-transfer-in-Retire-clause-settled : goal.returns-in_ok-transfer-in-Retire-clause-settled
returns-in_ok-transfer-in-Retire-clause-settled g c =
    let r = ready g.m c.args.place c.args.step (Retire c.in-Retire.spe c.in-Retire.cmd) c.args.made.now c.requires.0.run c.requires.1.0 c.requires.1.1.0 c.in-Retire.is in
    all-settled g.m c.args.place (Retire c.in-Retire.spe c.in-Retire.cmd) c.args.made.now r.run r.at r.is (λ q e. absurd (cc)) (λ e. cc)

pub returns-in_ok-transfer-in-Retire-clause-watches : goal.returns-in_ok-transfer-in-Retire-clause-watches
returns-in_ok-transfer-in-Retire-clause-watches g c t =
    let r = ready g.m c.args.place c.args.step (Retire c.in-Retire.spe c.in-Retire.cmd) c.args.made.now c.requires.0.run c.requires.1.0 c.requires.1.1.0 c.in-Retire.is in
    subst (λ q. AreWatches g.m (c.args.place + 1) (slice_set c.args.watches.now q c.transfer-in-Retire.new.self)) (sym c.from-in-Retire.ensures) (one-taken g.m c.args.place (Retire c.in-Retire.spe c.in-Retire.cmd) c.args.made.now r.run r.at r.is c.in-Retire.spe (of-retire c.in-Retire.spe c.in-Retire.cmd) (λ e. cc) c.args.watches.now c.transfer-in-Retire.new.self c.requires.1.1.1.0 c.in_ok-transfer-in-Retire.ensures)

pub returns-in-Atomic-clause-settled : goal.returns-in-Atomic-clause-settled
returns-in-Atomic-clause-settled g c =
    let r = ready g.m c.args.place c.args.step (Atomic c.in-Atomic.spe) c.args.made.now c.requires.0.run c.requires.1.0 c.requires.1.1.0 c.in-Atomic.is in
    all-settled g.m c.args.place (Atomic c.in-Atomic.spe) c.args.made.now r.run r.at r.is (λ q. (of-atomic c.in-Atomic.spe q).1) (λ e. cc)

pub returns-in-Atomic-clause-watches : goal.returns-in-Atomic-clause-watches
returns-in-Atomic-clause-watches g c t =
    let r = ready g.m c.args.place c.args.step (Atomic c.in-Atomic.spe) c.args.made.now c.requires.0.run c.requires.1.0 c.requires.1.1.0 c.in-Atomic.is in
    all-idle g.m c.args.place (Atomic c.in-Atomic.spe) c.args.made.now r.run r.at r.is (of-atomic c.in-Atomic.spe) c.args.watches.now c.requires.1.1.1.0

pub returns-in-Host-clause-settled : goal.returns-in-Host-clause-settled
returns-in-Host-clause-settled g c =
    let r = ready g.m c.args.place c.args.step (Host) c.args.made.now c.requires.0.run c.requires.1.0 c.requires.1.1.0 c.in-Host.is in
    host-settled g.m c.args.place (Host) c.args.made.now r.run r.at r.is refl c.may_act.result c.may_act.ensures

pub returns-in-Host-clause-watches : goal.returns-in-Host-clause-watches
returns-in-Host-clause-watches g c t =
    let r = ready g.m c.args.place c.args.step (Host) c.args.made.now c.requires.0.run c.requires.1.0 c.requires.1.1.0 c.in-Host.is in
    all-idle g.m c.args.place (Host) c.args.made.now r.run r.at r.is (of-host) c.args.watches.now c.requires.1.1.1.0
