-- What the next instruction of a processor asks of a channel.
use Rattle.std.proofs.Common.{◌≡◌, refl, ap, ◌∙◌}
use Rattle.std.specs.Prelude.{Option, Some, None}
use Rattle.std.specs.Option.{option_and_then}
use Rattle.local_store.specs.Store.{word_at}
use Rattle.spu_decode.specs.declared.Instr.{Instr}
use Rattle.spu_decode.specs.Spelling.{instr_of}
use Rattle.spu_exec.specs.Meaning.{meaning}
use Rattle.cell_machine.specs.declared.processor.Processor.{Processor}
use Rattle.cell_machine.specs.Spe.{Spe}
use Rattle.cell_machine.specs.Exec.{op_of, asked_by, asks}
use Rattle.cell_machine.specs.Shows.{ShowsSpe}

asks-is : (P : Spe) (o : Option Instr) → instr_of (word_at P.store P.pc) ≡ o → asks P ≡ asked_by P o
unfolding asks
asks-is P o e = ap (asked_by P) e

-- it is what the code's processor asks
pub asks-shown : (c : Processor) (P : Spe) (o : Option Instr) → ShowsSpe c P → instr_of (word_at c.store c.pc) ≡ o
    → asks P ≡ option_and_then (λ i. op_of (meaning i c.pc c.registers c.store).flow) o
asks-shown c P o shows e = asks-is P o (rw (shows.store, shows.pc) e) ∙ on o
  where
    on : (o : Option Instr) → asked_by P o ≡ option_and_then (λ i. op_of (meaning i c.pc c.registers c.store).flow) o
    on None = refl
    on (Some i) = rw (shows.pc, shows.registers, shows.store) refl
