use Rattle.std.proofs.Common.{ap, ap₂, sym, ◌∙◌}
use Rattle.std.specs.Prelude.{not, ◌==◌}
use Rattle.cell_channels.specs.declared.channels.Channels.{Channels}
use Rattle.cell_machine.proofs.processor.Processor.load.Goals as goal

pub returns : goal.returns
returns c = λ P shows.
    ap₂ (λ f s. record { is_full = f; has_stall = s }) (c.is_queue_full.ensures P shows) (c.has_stall.ensures ∙ ap (λ (k : Channels). not (k.stalls == 0)) (sym shows.channels))
