use Rattle.reorder_laws.proofs.step_frames.instructions_are_deeds.Goals as goal
use Rattle.reorder_laws.proofs.Doing.{exec-does, exec-tells}
use Rattle.reorder_laws.proofs.SameDeeds.{exec-same_deed, exec-finds, exec-kinds}

pub returns : goal.returns
returns c = record { does = exec-does; tells = exec-tells; same_deed = exec-same_deed; finds = exec-finds; kinds = exec-kinds }
