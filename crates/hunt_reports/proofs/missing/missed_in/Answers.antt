use Rattle.std.proofs.Common.{ℕ, ap, ◌∙◌, get_or, Vec}
use Rattle.std.specs.declared.alloc.Global.{Global}
use Rattle.hunt_reports.specs.Missing.{missed_in, with_line}
use Rattle.hunt_reports.specs.Lists.{bytes_in}
use Rattle.hunt_reports.proofs.Ends.{take_past}
use Rattle.hunt_reports.proofs.Lists.{missed_more}
use Rattle.hunt_reports.proofs.missing.missed_in.Goals as goal

pub loop-line-preserved : goal.loop-line-preserved
loop-line-preserved c =
    let line = c.as_slice.ensures.value ∙ ap (λ (v : Vec ℕ Global). v.items) c.line-item.is in
    c.in_ok-take_line.ensures ∙ ap (λ l. with_line c.args.text.now l (bytes_in c.loop-line.missed.items)) line
    ∙ ap (with_line c.args.text.now (get_or c.args.expected.now c.loop-line.line-index c.line-item.result).items) c.loop-line.invariant
    ∙ missed_more c.args.text.now c.args.expected.now c.loop-line.line-index c.line-item.result c.loop-line-test.true

pub returns : goal.returns
returns c = c.loop-line.invariant ∙ ap (λ es. missed_in c.args.text.now (bytes_in es)) (take_past c.args.expected.now c.loop-line.line-index c.loop-line-test.false)
