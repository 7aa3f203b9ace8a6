use Rattle.std.proofs.Common.{◌≡◌, max, arith}
use Rattle.std.proofs.lemmas.Bool.{ltb-true, lt-ltb}
use Rattle.race_check.proofs.Meets.{meets_from, meets_parts, Parts}
use Rattle.race_check.proofs.access.meet.Goals as goal

pub returns-then-in_first : goal.returns-then-in_first
returns-then-in_first c =
    let start : c.from-start.result ≡ max c.args.a.now.at c.args.b.now.at = (cc) in (
      λ t. meets_from _ _ c.from-start.result start (cc) (omega arith) (omega (arith, ltb-true _ _ t)),
      λ m. let p : Parts c.args.a.now c.args.b.now c.from-start.result = meets_parts _ _ _ start m in lt-ltb _ _ (omega arith),
    )
