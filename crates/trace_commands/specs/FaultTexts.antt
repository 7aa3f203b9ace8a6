-- The texts of refusals, without a line feed.
use Rattle.std.specs.Prelude.{ℕ, List, ◌++◌, codes}
use Rattle.std.specs.Fmt.{decimal}
use Rattle.cell_commands.specs.FaultTexts.{fault_text as input_text}
use Rattle.trace_commands.specs.declared.fault.Fault.{Fault}
use Rattle.trace_commands.specs.declared.fault.Fault.TheVariants.{Usage, Input, TooShort, ReadFault, TooLong, Choices, WriteFault, Memory}

unfoldable pub fault_text : Fault → List ℕ
fault_text Usage =
    codes "words: alone M, choose M CHOICES, (effects|log|before|states) M RECORD, (before|states) M RECORD NUMBER, go M RECORD STEPS CHOICES, lines SOURCE, plan M"
fault_text (Input fault) = input_text fault
fault_text (TooShort steps) = codes "the record has fewer than " ++ decimal steps ++ codes " steps"
fault_text ReadFault = codes "cannot read choice file"
fault_text TooLong = codes "choice file is too long"
fault_text Choices = codes "a word of the choice file is no number"
fault_text WriteFault = codes "cannot write"
fault_text Memory = codes "out of memory"
