use Rattle.std.proofs.Common.{◌++◌, map, ap, ◌∙◌, arith}
use Rattle.hunt_tally.specs.Tallies.{Told, told_in}
use Rattle.hunt_texts.specs.Findings.{Found, is_of_kind, of_kind}
use Rattle.hunt_texts.specs.Founds.{found_by}
use Rattle.hunt_texts.proofs.FoundLemmas.{shown_more}
use Rattle.hunt_texts.proofs.RowLemmas.{take_past}
use Rattle.hunt_texts.proofs.found.add_kind.Goals as goal

pub loop-place-preserved : goal.loop-place-preserved
loop-place-preserved c =
    let view : Told → Found = λ t. record { kind = c.args.kind; told = t } in
    shown_more (is_of_kind c.args.kind) view (told_in c.args.findings.now) (map found_by c.args.found.now.items) _ _ c.loop-place.place _ c.get.ensures c.loop-place.invariant c.in_ok-add_if_of.ensures

pub returns : goal.returns
returns c =
    let long = c.len-place-end.ensures in
    let past = c.loop-place-test.false in
    c.loop-place.invariant ∙ ap (λ ts. map found_by c.args.found.now.items ++ of_kind c.args.kind ts) (take_past (told_in c.args.findings.now) c.loop-place.place (omega (arith, long, past)))
