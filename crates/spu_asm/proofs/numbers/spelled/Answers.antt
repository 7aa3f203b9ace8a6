use Rattle.std.proofs.Common.{ℕ, pos, get_or, rules}
use Rattle.std.proofs.lemmas.Result.{err_from_is_err_and}
use Rattle.std.proofs.lemmas.Int.{to_z-of_z}
use Rattle.std.specs.Global.{Vec}
use mir.Val.{SFits}
use mir.Syntax.{w128}
use Rattle.spu_asm.specs.Outcomes.{on_line}
use Rattle.spu_asm.specs.Encoding.{spelled}
use Rattle.spu_asm.proofs.NumbersLemmas.{next_bytes, no_bytes, all_bytes}
use Rattle.spu_asm.proofs.OutcomeLemmas.{shows_err}
use Rattle.spu_asm.proofs.numbers.spelled.Goals as goal

pub returns-in_err-allowed : goal.returns-in_err-allowed
returns-in_err-allowed c =
    let vs = c.args.values.now in
    let v = get_or vs c.loop-v.v-index (pos 0) in
    let f : SFits w128 v = search rules in
    let e = c.in_err-allowed.field-0.0 in
    let total = spelled c.args.size vs in
    let p = err_from_is_err_and c.from_residual.result c.from_residual.ensures.1 in
    rw (p.1, p.2) (shows_err (λ (v : Vec ℕ). v.items) e (on_line c.args.number total) (no_bytes c.args.number c.args.size c.loop-v.out.items vs c.loop-v.v-index total c.loop-v-test.true c.loop-v.invariant e (rw (to_z-of_z w128 v f) at c.in_err-allowed.ensures)))

pub loop-v-preserved : goal.loop-v-preserved
loop-v-preserved c =
    let vs = c.args.values.now in
    let v = get_or vs c.loop-v.v-index (pos 0) in
    let f : SFits w128 v = search rules in
    let g : SFits w128 c.in_ok-allowed.allowed = search rules in
    rw (c.in_ok-spell.ensures.ok, to_z-of_z w128 c.in_ok-allowed.allowed g) (next_bytes c.args.number c.args.size c.loop-v.out.items vs c.loop-v.v-index (spelled c.args.size vs) c.loop-v-test.true c.loop-v.invariant c.in_ok-allowed.allowed (rw (to_z-of_z w128 v f) at c.in_ok-allowed.ensures))

pub returns : goal.returns
returns c =
    let vs = c.args.values.now in
    all_bytes c.args.number c.args.size c.loop-v.out.items vs c.loop-v.v-index (spelled c.args.size vs) c.loop-v-test.false c.loop-v.invariant
