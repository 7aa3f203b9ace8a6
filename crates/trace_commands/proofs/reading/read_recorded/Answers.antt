use Rattle.std.proofs.Common.{sym, subst}
use Rattle.trace_commands.specs.Files.{RecordRefuses, ReadsRecord}
use Rattle.trace_commands.proofs.FilesLaws.{to_text, record_refuses, record_read, record_comes}
use Rattle.trace_commands.proofs.reading.read_recorded.Goals as goal

pub returns-in-Err-clause-comes : goal.returns-in-Err-clause-comes
returns-in-Err-clause-comes g c = λ told is.
    subst (RecordRefuses told c.args.name.now _ _) (sym c.fault_of.ensures.told) (record_refuses told c.args.name.now _ _ c.in-Err.fault (c.in-Err.ensures.comes told is to_text) c.in-Err.ensures.cause)

pub returns-clause-comes : goal.returns-clause-comes
returns-clause-comes g c = λ told is.
    record_comes told c.args.name.now _ _ c.in-Ok.text.items c.recorded_in.result (record_read told c.args.name.now c.in-Ok.text.items (c.in-Ok.ensures.comes told is to_text))
    (subst (λ t. ReadsRecord t c.recorded_in.result) c.as_slice.ensures.value c.recorded_in.ensures)
