-- What a pass stands for, and what is true of each one.
use Rattle.std.specs.Prelude.{◌≡◌, ◌<◌, ◌^◌, false, [], length}
use Rattle.cell_turn.specs.Known.{Known}
use Rattle.cell_turn.specs.declared.pass.Pass.TheInside.{Inside}

abbrev pub known : Inside → Known
known p = let v = p.seat.me.0 in record { table = p.seat.table_id; setup = v.setup; passes = v.passes; seen = v.seen; told = v.told; tokens = v.tokens; tries = v.tries; found = v.found; holds = v.holds }

-- it holds no slot and has no turn, and its numbers are those of its view
pub record IsAtRest (p : Inside) : Type 0 where
  pub empty : p.seat.me.1 ≡ []
  pub no_turn : p.seat.me.0.holds ≡ false
  pub settled : p.seat.me.0.joined ≡ []
  pub tokens : p.tokens ≡ p.seat.me.0.tokens
  pub front : p.front ≡ length p.seat.me.0.seen
  pub made : p.made ≡ length p.seat.me.0.told
  pub live : 0 < p.tokens
  pub few : p.seat.me.0.passes < 2 ^ 32
