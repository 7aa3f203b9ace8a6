-- What a halt instruction compared.
use Rattle.std.specs.Prelude.{ℕ, ◌%◌, ◌==◌, ◌&&◌, nat_lt, List, [], ◌++◌, codes, if◌then◌else◌}
use Rattle.std.specs.Fmt.{decimal}
use Rattle.std.specs.Option.{option_map_or}
use Rattle.cell_base.specs.Hex.{hex}
use Rattle.cell_base.specs.Lanes.{first_word}
use Rattle.spu_decode.specs.declared.Instr.{Instr}
use Rattle.spu_decode.specs.declared.row.Row.{Row}
use Rattle.spu_decode.specs.declared.row.Row.TheVariants.{Heq, Hgt, Hlgt, Heqi, Hgti, Hlgti}
use Rattle.spu_decode.specs.Spelling.{instr_of}
use Rattle.spu_regs.specs.Registers.{register}
use Rattle.local_store.specs.Store.{word_at}
use Rattle.cell_machine.specs.Spe.{Spe}
use Rattle.hunt_reports.specs.declared.compared.Operand.{Operand}
use Rattle.hunt_reports.specs.declared.compared.Compared.{Compared}
use Rattle.hunt_reports.specs.declared.compared.Compared.TheVariants.{Nothing, One, Two}

-- a register of a processor, and its preferred word
abbrev pub operand_of : Spe → ℕ → Operand
operand_of P r = record { register = r; word = first_word (register P.registers r) }

-- the registers that an instruction of a row compares, if these are its RA and RB
abbrev pub compared_by : Row → Operand → Operand → Compared
compared_by Heq a b = Two a b
compared_by Hgt a b = Two a b
compared_by Hlgt a b = Two a b
compared_by Heqi a b = One a
compared_by Hgti a b = One a
compared_by Hlgti a b = One a
compared_by _ a b = Nothing

abbrev pub compared_in : Spe → Instr → Compared
compared_in P i = compared_by i.row (operand_of P i.ra) (operand_of P i.rb)

-- the same of the instruction at an address of its local store
abbrev pub compared_at : Spe → ℕ → Compared
compared_at P at = if (at % 4 == 0) && nat_lt at 262144 then option_map_or (compared_in P) (instr_of (word_at P.store at)) Nothing else Nothing

-- ---- as text

abbrev pub operand_text : Operand → List ℕ
operand_text a = codes "$" ++ decimal a.register ++ codes " = 0x" ++ hex 8 a.word

abbrev pub compared_text : Compared → List ℕ
compared_text Nothing = []
compared_text (One a) = codes ": " ++ operand_text a
compared_text (Two a b) = codes ": " ++ operand_text a ++ codes ", " ++ operand_text b
