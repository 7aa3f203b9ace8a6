use Rattle.std.proofs.Common.{ℕ, sym, ap, ◌∙◌, Vec}
use Rattle.std.specs.declared.alloc.Global.{Global}
use Rattle.std.specs.List.{list_any}
use Rattle.std.specs.Str.{bytes_eq}
use Rattle.std.proofs.lemmas.List.Folds.{list_any_at}
use Rattle.hunt_reports.proofs.Ends.{take_past}
use Rattle.hunt_reports.proofs.Lists.{any_map}
use Rattle.hunt_reports.proofs.races.is_among.Goals as goal

pub returns : goal.returns
returns c = sym c.loop-other.invariant ∙ ap (list_any (λ (v : Vec ℕ Global). bytes_eq c.args.key.now v.items)) (take_past c.args.passed.now c.loop-other.other-index c.loop-other-test.false)
    ∙ any_map (bytes_eq c.args.key.now) (λ (v : Vec ℕ Global). v.items) c.args.passed.now

pub returns-then-eq : goal.returns-then-eq
returns-then-eq c =
    let line = c.as_slice.ensures.value ∙ ap (λ (v : Vec ℕ Global). v.items) c.other-item.is in
    let is = ap (bytes_eq c.args.key.now) (sym line) ∙ sym c.eq.ensures ∙ c.if-eq.true in
    sym (list_any_at (λ (v : Vec ℕ Global). bytes_eq c.args.key.now v.items) c.args.passed.now c.loop-other.other-index c.other-item.result c.loop-other-test.true is)
    ∙ any_map (bytes_eq c.args.key.now) (λ (v : Vec ℕ Global). v.items) c.args.passed.now
