use Rattle.std.proofs.Common.{ℕ, List, sym, ap, ◌∙◌}
use Rattle.std.specs.List.{list_any}
use Rattle.std.specs.Str.{bytes_eq}
use Rattle.hunt_reports.specs.Missing.{has_line}
use Rattle.hunt_reports.proofs.Lists.{no_lines, is_nil}
use Rattle.hunt_reports.proofs.missing.has_line.Goals as goal

pub returns : goal.returns
returns c =
    let nil = is_nil c.loop-line.rest.now (sym c.is_empty.ensures ∙ c.loop-line-test.false) in
    ap (list_any (λ (l : List ℕ). bytes_eq c.args.line.now l)) (sym no_lines) ∙ ap (λ text. has_line text c.args.line.now) (sym nil) ∙ c.loop-line.invariant
