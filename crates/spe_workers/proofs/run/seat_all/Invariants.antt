use Rattle.std.proofs.Common.{◌≡◌, ◌+◌, ◌*◌, ◌≤◌, All, vec_len, vec_capacity}
use Rattle.cell_turn.specs.Known.{Belongs}
use Rattle.spe_workers.specs.Worked.{IsNew}
use Rattle.spe_workers.proofs.Seating.{SeatedSoFar}
use Rattle.spe_workers.proofs.run.seat_all.Given as goal

abbrev pub invariant-loop-number : goal.invariant-loop-number
invariant-loop-number l = record {
  own : Belongs l.first l.shared;
  tokens : l.first.tokens + l.number ≡ 2 * l.spes + 1;
  within : l.number ≤ 2 * l.spes;
  count : vec_len l.workers ≡ l.number;
  room : 2 * l.spes + 1 ≤ vec_capacity l.workers;
  seated : SeatedSoFar l.spes l.number l.workers.items;
  new : All (λ w. IsNew w.pass l.shared) l.workers.items;
}
