use Rattle.std.proofs.Common.{rules, ◌≡◌, ◌<◌, length, get_or, sym, ap, ◌∙◌, subst, arith}
use Rattle.std.specs.Prelude.{IfSome}
use Rattle.std.proofs.lemmas.List.FromFn.{get_or-map-range_with_len, length-map-range_with_len}
use Rattle.run_progress.specs.declared.progress.Poll.{Poll}
use Rattle.run_progress.specs.declared.progress.SpeProgress.{SpeProgress}
use Rattle.run_progress.specs.Made.{made_of}
use Rattle.run_progress.specs.Progress.{spe_progress}
use Rattle.hunt_reports.specs.Spent.{DidLoop}
use Rattle.hunt_reports.proofs.Spending.{writer_within}
use Rattle.hunt_reports.proofs.spent.loop_of.Goals as goal

pub index-did-requires : goal.index-did-requires
index-did-requires c =
    let place : c.from.result ≡ c.args.here.spe = search rules in
    let long : length c.args.progress.now.spes.items ≡ length c.args.run.now.setup.entries = ap length c.requires.spes ∙ length-map-range_with_len (spe_progress (made_of c.args.run.now)) 0 (length c.args.run.now.setup.entries) in
    let inside = c.requires.spe in
    omega (arith, place, long, inside)

pub polled_of-requires : goal.polled_of-requires
polled_of-requires c =
    let place : c.from.result ≡ c.args.here.spe = search rules in
    let inside = c.requires.spe in
    let did : c.index-did.result.now ≡ spe_progress (made_of c.args.run.now) c.args.here.spe
    = c.index-did.ensures ∙ ap (λ xs. get_or xs c.from.result c.index-did.result.now) c.requires.spes
    ∙ get_or-map-range_with_len (spe_progress (made_of c.args.run.now)) 0 (length c.args.run.now.setup.entries) c.from.result c.args.here.spe c.index-did.result.now (omega (arith, place, inside)) (omega (arith, place)) in
    subst (λ (progress : SpeProgress). IfSome progress.polled (λ (poll : Poll). IfSome poll.writer (λ i. i < length c.args.run.now.steps))) (sym did)
    (writer_within c.args.run.now c.args.here.spe c.requires.long)

pub returns : goal.returns
returns c =
    let place : c.from.result ≡ c.args.here.spe = search rules in
    let inside = c.requires.spe in
    let did : c.index-did.result.now ≡ spe_progress (made_of c.args.run.now) c.args.here.spe
    = c.index-did.ensures ∙ ap (λ xs. get_or xs c.from.result c.index-did.result.now) c.requires.spes
    ∙ get_or-map-range_with_len (spe_progress (made_of c.args.run.now)) 0 (length c.args.run.now.setup.entries) c.from.result c.args.here.spe c.index-did.result.now (omega (arith, place, inside)) (omega (arith, place)) in
    subst (λ (progress : SpeProgress). DidLoop progress c.args.run.now c.args.here (record { first = c.first_in.result; last = c.last_in.result; polled = c.polled_of.result })) did
    (record { first = c.first_in.ensures; last = c.last_in.ensures; polled = c.polled_of.ensures })
