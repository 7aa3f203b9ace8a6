-- What a worker is after its turns.
use Rattle.std.specs.Prelude.{◌≡◌}
use Rattle.spe_workers.specs.declared.worker.Worker.{Worker}
use Rattle.spe_workers.specs.Worked.{Worked}

-- the same worker, whose pass has seen the end
pub record Works (v w : Worker) : Type 0 where
  pub number : w.number ≡ v.number
  pub actor : w.actor ≡ v.actor
  pub pass : Worked v.pass w.pass
