use Rattle.std.proofs.Common.{◌≡◌, true, ap, arith}
use Rattle.std.specs.Prelude.{is_some, is_ok}
use Rattle.cell_host.proofs.ScriptLemmas.{room_left, sound_taken, sound_done, placed_within, placed_taken, left_inside, takes_inside, advanced_inside}
use Rattle.cell_host.proofs.Host.advance.Goals as goal

pub invariant_of-self : goal.invariant_of-self
invariant_of-self c =
    let left = left_inside _ _ c.self.view_is c.requires.left in
    let takes = takes_inside _ _ _ true c.self.view_is c.requires.taken (ap is_some c.in-Some.is) in
    let ok : is_ok c.push.result ≡ true = c.push.ensures.succeeds (room_left _ _ _ _ c.self.invariant.0 left takes) in
    (sound_taken _ _ _ _ _ _ c.self.invariant.0 left takes (rw ok at c.push.ensures.len) c.push.ensures.capacity, placed_taken _ _ _ _ (rw ok at c.push.ensures.items) c.self.invariant.1)

pub invariant_of-self-in_default : goal.invariant_of-self-in_default
invariant_of-self-in_default c = (
  sound_done _ _ _ _ c.self.invariant.0 (left_inside _ _ c.self.view_is c.requires.left)
      (takes_inside _ _ _ _ c.self.view_is c.requires.taken (ap is_some c.in_default.is)),
  placed_within _ _ _ (omega arith) c.self.invariant.1,
)

pub returns-in-Some : goal.returns-in-Some
returns-in-Some c =
    let left = left_inside _ _ c.self.view_is c.requires.left in
    let takes = takes_inside _ _ _ true c.self.view_is c.requires.taken (ap is_some c.in-Some.is) in
    let ok : is_ok c.push.result ≡ true = c.push.ensures.succeeds (room_left _ _ _ _ c.self.invariant.0 left takes) in
    advanced_inside _ _ _ c.in-Some.value _ c.self.view_is c.in-Some.is (rw ok at c.push.ensures.items)
