use Rattle.std.proofs.Common.{sym, ◌∙◌, ap}
use Rattle.std.specs.Prelude.{Some}
use Rattle.std.specs.Option.{option_and_then, option_map}
use Rattle.cell_channels.specs.declared.channels.Channels.{Channels}
use Rattle.cell_machine.specs.Spe.{is_faulted}
use Rattle.cell_machine.specs.Atomic.{after_atomic, fate}
use Rattle.cell_machine.specs.Effects.{line_effect}
use Rattle.cell_machine.proofs.AtomicSteps.{atomic-faulted, atomic-free}
use Rattle.cell_machine.proofs.StepEffects.{atomic-some, atomic-fixes}
use Rattle.cell_machine.proofs.processor.Processor.atomic_effect.Goals as goal

pub returns-then-is_faulted : goal.returns-then-is_faulted
returns-then-is_faulted c = λ P m reserved shows memory at.
    ap (option_and_then (λ x. option_map (λ a. line_effect c.args.spe a x.spe (fate m P a)) P.channels.slot)) (sym (atomic-faulted m P (ap is_faulted shows.status ∙ sym c.is_faulted.ensures ∙ c.if-is_faulted.true)))

pub returns-in_default : goal.returns-in_default
returns-in_default c = λ P m reserved shows memory at.
    ap (option_and_then (λ x. option_map (λ a. line_effect c.args.spe a x.spe (fate m P a)) P.channels.slot)) (sym (atomic-free m P (ap (λ (k : Channels). k.slot) shows.channels ∙ sym c.slot.ensures ∙ c.in_default.is)))

pub returns : goal.returns
returns c = λ P m reserved shows memory at.
    let a = c.in-Some.a in
    ap Some (c.line_effect.ensures P (after_atomic m P a).spe m reserved memory at (c.fixes.ensures P shows ∙ sym (atomic-fixes m P a)))
    ∙ atomic-some m c.args.spe P a (ap is_faulted shows.status ∙ sym c.is_faulted.ensures ∙ c.if-is_faulted.false) (ap (λ (k : Channels). k.slot) shows.channels ∙ sym c.slot.ensures ∙ c.in-Some.is)
