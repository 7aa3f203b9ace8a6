use Rattle.std.proofs.Common.{◌∙◌, ap₂, arith, not, bytes_eq, if◌then◌else◌, [], ◌++◌}
use Rattle.std.proofs.lemmas.List.{get_or_default}
use Rattle.cell_trace.specs.Logs.{register_field}
use Rattle.cell_trace.proofs.LogLaws.{first_register, one_register, no_register}
use Rattle.cell_trace.proofs.logs.put_registers.Goals as goal

pub loop-r-init : goal.loop-r-init
loop-r-init c = first_register c.args.out.now.items c.args.spe c.args.before.now c.args.after.now

pub loop-r-preserved : goal.loop-r-preserved
loop-r-preserved c =
    let r = c.loop-r.r in
    let few = c.requires.before in
    let many = c.requires.after in
    let before = c.index-before-r.is ∙ get_or_default c.args.before.now r c.index-before-r.result [] (omega (arith, few)) in
    let after = c.index-after-r.is ∙ get_or_default c.args.after.now r c.index-after-r.result [] (omega (arith, many)) in
    one_register c.loop-r.out.items c.put_register.new.out.items _ c.args.spe c.args.before.now c.args.after.now r (omega arith)
    (c.in_ok-put_register.ensures ∙ ap₂ (λ x y. c.loop-r.out.items ++ (if not (bytes_eq x y) then register_field c.args.spe r y else [])) before after)
    c.loop-r.invariant

pub returns : goal.returns
returns c = no_register c.loop-r.out.items _ c.args.spe c.args.before.now c.args.after.now c.loop-r.r (omega arith) c.loop-r.invariant
