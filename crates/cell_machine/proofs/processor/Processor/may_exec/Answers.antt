use Rattle.std.proofs.Common.{sym, ◌∙◌, ap, refl}
use Rattle.std.specs.Option.{option_map}
use Rattle.spu_decode.specs.declared.Instr.{Instr}
use Rattle.std.specs.Prelude.{is_some}
use Rattle.spu_decode.specs.Spelling.{instr_of}
use Rattle.cell_machine.specs.Spe.{is_running}
use Rattle.cell_machine.proofs.Execs.{exec-stopped, may-bad_word, may-quiet, none_there}
use Rattle.cell_machine.proofs.processor.Processor.may_exec.Goals as goal

pub returns-then-not-is_running : goal.returns-then-not-is_running
returns-then-not-is_running c = λ lines P shows. sym (ap is_some (exec-stopped lines P (ap is_running shows.status ∙ sym c.is_running.ensures ∙ c.if-not-is_running.true)))

pub returns-in_default : goal.returns-in_default
returns-in_default c = λ lines P shows.
    may-bad_word lines c.args.self.now P shows (sym c.is_running.ensures ∙ c.if-not-is_running.false)
    (ap instr_of (sym c.word-word.ensures) ∙ sym c.decode.ensures.means ∙ none_there c.decode.result c.in_default.not-Some)

pub returns : goal.returns
returns c = λ lines P shows.
    c.may_make.ensures lines P shows (sym c.is_running.ensures ∙ c.if-not-is_running.false) (ap instr_of (sym c.word-word.ensures) ∙ sym c.decode.ensures.means ∙ c.in-Some.is)

pub returns-then-not-may_operate : goal.returns-then-not-may_operate
returns-then-not-may_operate c = λ lines P shows.
    may-quiet lines c.args.self.now P _ shows (sym c.is_running.ensures ∙ c.if-not-is_running.false) refl
    (λ i is. c.may_operate.ensures i c.args.self.now.pc c.args.self.now.registers c.args.self.now.store
    (c.row_spelled.ensures ∙ ap (option_map (λ (j : Instr). j.row)) (ap instr_of c.word-word.ensures ∙ is)) c.if-not-may_operate.true)
