-- How the order of a run is chosen.
use Rattle.std.specs.Prelude.{ℕ, ◌+◌, ◌-◌, ◌*◌, ◌/◌, ◌%◌, false, true, nat_le, nat_lt, if◌then◌else◌, slice_index_or}
use Rattle.cell_base.specs.declared.steps.Actor.{Actor}
use Rattle.cell_base.specs.declared.steps.Actor.TheVariants.{Spu, Mfc, Host}
use Rattle.cell_hunt.specs.declared.strategy.Strategy.{Strategy}
use Rattle.cell_hunt.specs.declared.strategy.TheConstants.{STRATEGIES}

-- the strategies are taken in turn
abbrev pub strategy_of : ℕ → Strategy
strategy_of run = slice_index_or STRATEGIES (run % 4) (record { local = false; walks = true; late = false; polls_last = false; least_rate = 0 })

-- the strategy of the choice after so many steps: once three quarters of the budget are spent, that of run 0, which is a random walk
abbrev pub strategy_at : Strategy → ℕ → ℕ → Strategy
strategy_at strategy steps budget = if nat_le (3 * budget) (4 * steps) then strategy_of 0 else strategy

-- how much likelier a walk draws a processor, or the host, than an MFC
abbrev pub weight_of : Strategy → ℕ
weight_of strategy = if strategy.late then 16 else 1

-- the actor of a ticket: each processor has `weight` tickets, then each MFC one, and the host the rest
abbrev pub actor_of : ℕ → ℕ → ℕ → Actor
actor_of weight spes ticket =
    if nat_lt ticket (weight * spes) then Spu (ticket / weight)
    else if nat_lt ticket (weight * spes + spes) then Mfc (ticket - weight * spes)
    else Host

-- the actor that a word draws among those of so many processors
abbrev pub actor_drawn : Strategy → ℕ → ℕ → Actor
actor_drawn strategy spes word = actor_of (weight_of strategy) spes (word % (weight_of strategy * spes + spes + weight_of strategy))
