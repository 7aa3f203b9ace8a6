-- What goes into the set of a command that a step touches.
use Rattle.std.proofs.Common.{◌≡◌, ℕ, Bool, true, ◌||◌, ◌&&◌, not, sym, ap, ◌∙◌}
use Rattle.order_sets.specs.declared.facts.At.{At}
use Rattle.cell_base.specs.declared.steps.Step.{Step}
use Rattle.cell_machine.specs.declared.effect.Note.{Note}
use Rattle.race_order.specs.declared.lives.Live.{Live}
use Rattle.race_order.specs.declared.roles.QueueRole.{QueueRole}
use Rattle.race_order.specs.declared.roles.QueueRole.TheVariants.{Waits}
use Rattle.race_order.specs.declared.moves.Move.{Move}
use Rattle.race_order.specs.Passes.{into_stalled, stall_any}
use Rattle.race_order.specs.Lives.{goes_in, is_touched, moved, own_has, touch_brings}
use Rattle.race_order.specs.Tables.{same_role}

pub touch_is : (n : ℕ) (step : Step) (note : Note) (after : At → Bool) (r : QueueRole) (a : At) (l next : Live) → next ≡ moved l step note → is_touched l step note ≡ true
    → (same_role (Waits l.spe l.cmd) r && ((goes_in l step note && after a) || own_has n next a)) ≡ touch_brings n step note after r a l
touch_is n step note after r a l next e touched =
    ap (λ (v : Live). same_role (Waits l.spe l.cmd) r && ((goes_in l step note && after a) || own_has n v a)) e
    ∙ sym (ap (λ b. b && (same_role (Waits l.spe l.cmd) r && ((goes_in l step note && after a) || own_has n (moved l step note) a))) touched)

pub stall_is : (g : Move → Bool) (step : Step) (note : Note) (l next : Live) → next ≡ moved l step note → ((not l.progress.stalled && next.progress.stalled) && g (into_stalled l)) ≡ stall_any g step note l
stall_is g step note l next e = ap (λ (v : Live). (not l.progress.stalled && v.progress.stalled) && g (into_stalled l)) e
