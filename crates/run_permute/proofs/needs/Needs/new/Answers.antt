use Rattle.std.proofs.Common.{[], sym}
use Rattle.cell_machine.specs.Run.{Ran}
use Rattle.run_permute.specs.Walks.{Here}
use Rattle.run_permute.proofs.GatheringNeeds.{begun-gathers}
use Rattle.run_permute.proofs.needs.Needs.new.Goals as goal

pub returns : goal.returns
returns c = λ setup many.
    (let begun : Ran = record { setup = setup; steps = [] } in
    let here : Here = record { run = begun; place = 0 } in
    begun-gathers setup _ (sym many) c.in_ok-tracks.ensures.long (c.in_ok-tracks.ensures.tracks here) c.in_ok-needs.ensures.items)
