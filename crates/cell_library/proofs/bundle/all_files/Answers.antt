use Rattle.std.proofs.Common.{◌≡◌, ◌<◌, length, sym, subst, arith, rules}
use Rattle.std.proofs.lemmas.Result.{err_from_is_err_and}
use Rattle.cell_library.proofs.BundleLaws.{GoesOn, no_files, one_file, all_files, no_file, not_kept}
use Rattle.cell_library.proofs.bundle.all_files.Goals as goal

pub loop-rest-init : goal.loop-rest-init
loop-rest-init c = subst (GoesOn c.args.bytes.now c.args.bytes.now) (sym c.new-files.ensures.items) (no_files c.args.bytes.now)

pub returns-in_default : goal.returns-in_default
returns-in_default c =
    let some : 0 < length c.loop-rest.rest.now = grind arith in
    no_file c.args.bytes.now c.loop-rest.rest.now c.loop-rest.files.items some (search rules) c.loop-rest.invariant

pub returns-in_err-keep_file : goal.returns-in_err-keep_file
returns-in_err-keep_file c =
    let p = err_from_is_err_and c.from_residual.result c.from_residual.ensures.1 in
    rw (p.1, p.2) (not_kept c.args.bytes.now c.loop-rest.rest.now c.in-Some.behind.now c.loop-rest.files.items c.keep_file.new.files.items _ c.in_err-keep_file.field-0.0 c.in-Some.ensures c.in_err-keep_file.ensures c.loop-rest.invariant)

pub loop-rest-preserved : goal.loop-rest-preserved
loop-rest-preserved c =
    one_file c.args.bytes.now c.loop-rest.rest.now c.in-Some.behind.now c.loop-rest.files.items c.keep_file.new.files.items _ c.in-Some.ensures c.in_ok-keep_file.ensures.1 c.in_ok-keep_file.ensures.0 c.loop-rest.invariant

pub returns : goal.returns
returns c =
    let empty : length c.loop-rest.rest.now ≡ 0 = grind arith in
    all_files c.args.bytes.now c.loop-rest.rest.now c.loop-rest.files.items empty c.loop-rest.invariant
