use Rattle.std.proofs.Common.{refl, ap, ap₂, sym, ◌∙◌}
use Rattle.cell_base.specs.Bits.{has_bit}
use Rattle.cell_signals.specs.Registers.{number_of, opening_signals}
use Rattle.cell_base.specs.Bytes.{zeros}
use Rattle.cell_machine.specs.Opening.{placed_in}
use Rattle.cell_machine.specs.Limits.{shown}
use Rattle.cell_machine.proofs.processor.Processor.new.Goals as goal

pub returns : goal.returns
returns c = λ S modes placed. record {
  status = refl;
  pc = refl;
  registers = sym c.in_ok-registers.ensures;
  store = ap (placed_in (zeros 262144) c.args.spe) placed
      ∙ ap (λ store. placed_in store c.args.spe (shown c.args.placed.now)) (sym c.in_ok-store.ensures)
      ∙ sym c.place_bytes.ensures;
  inbound = sym c.new-3.ensures;
  outbound = sym c.new-4.ensures;
  interrupt = sym c.new-5.ensures;
  channels = sym c.new-6.ensures;
  tags = sym c.new-7.ensures;
  signals = ap₂ opening_signals (ap (λ m. has_bit m (number_of c.args.spe 1)) modes ∙ sym c.is_or.ensures) (ap (λ m. has_bit m (number_of c.args.spe 2)) modes ∙ sym c.is_or-2.ensures) ∙ sym c.new-8.ensures;
  events = sym c.new-9.ensures;
  queue = c.new-10.ensures;
}
