-- Who takes turns at a machine.
use Rattle.std.specs.Prelude.{◌≡◌, ℕ, List, [], ◌∷◌, ◌++◌, length, map}
use Rattle.std.specs.List.{range_with_len}
use Rattle.cell_base.specs.declared.steps.Actor.{Actor}
use Rattle.cell_base.specs.declared.steps.Actor.TheVariants.{Spu, Mfc, Host}
use Rattle.spe_workers.specs.declared.worker.Worker.{Worker}

-- the actors of a machine with so many processors
abbrev pub actors_of : ℕ → List Actor
actors_of spes = map Spu (range_with_len 0 spes) ++ map Mfc (range_with_len 0 spes) ++ Host ∷ []

-- there is a worker for each of them, in order, and they are numbered from 0
pub record AreSeated (spes : ℕ) (workers : List Worker) : Type 0 where
  pub actors : map (λ w. w.actor) workers ≡ actors_of spes
  pub numbers : map (λ w. w.number) workers ≡ range_with_len 0 (length workers)
