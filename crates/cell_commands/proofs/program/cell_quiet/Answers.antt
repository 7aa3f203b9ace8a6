use Rattle.std.proofs.Common.{refl, le_refl}
use Rattle.cell_commands.specs.declared.fault.Fault.TheVariants.{Usage}
use Rattle.cell_commands.specs.declared.fault.Status.TheVariants.{Refused}
use Rattle.cell_commands.specs.Answer.{Sinks}
use Rattle.cell_commands.specs.Promises.{Stores}
use Rattle.cell_commands.specs.Words.{check, asm, debug, permute, no_form}
use Rattle.cell_commands.proofs.Answered.{no_usage, promised, promised_still}
use Rattle.cell_commands.proofs.program.cell_quiet.Goals as goal

pub returns-in-Check : goal.returns-in-Check
returns-in-Check g c =
    let e = c.check.ensures in
    let said = check c.in-Check.machine.now c.in-Check.record_file.now in
    promised said _ c.in-Check.ensures _ _ _ _ _ (λ n is. cc) e.same e.store_count e.sink_count e.answer e.read_fault e.quiet (no_usage said _ (λ is. cc) e.usage)

pub returns-in-Asm : goal.returns-in-Asm
returns-in-Asm g c =
    let e = c.asm.ensures in
    let said = asm c.in-Asm.source.now in
    promised said _ c.in-Asm.ensures _ _ _ _ _ (λ n is. cc) e.same e.store_count e.sink_count e.answer e.read_fault e.quiet (no_usage said _ (λ is. cc) e.usage)

pub returns-in-Debug : goal.returns-in-Debug
returns-in-Debug g c =
    let e = c.debug.ensures in
    let said = debug c.in-Debug.machine.now c.in-Debug.script.now in
    promised said _ c.in-Debug.ensures _ _ _ _ _ (λ n is. cc) e.same e.store_count e.sink_count e.answer e.read_fault e.quiet (no_usage said _ (λ is. cc) e.usage)

pub returns-in-Permute : goal.returns-in-Permute
returns-in-Permute g c =
    let e = c.permute.ensures in
    let said = permute c.in-Permute.machine.now c.in-Permute.record_file.now c.in-Permute.n in
    promised said _ c.in-Permute.ensures _ _ _ _ _ (λ n is. cc) e.same e.store_count e.sink_count e.answer e.read_fault e.quiet (no_usage said _ (λ is. cc) e.usage)

pub returns-in-NoForm : goal.returns-in-NoForm
returns-in-NoForm g c =
    let store : Stores = record { files = g.T.Store.files c.args.files.now; ledger = g.T.Store.ledger c.args.files.now } in
    let sink : Sinks = record { taken = g.K.Sink.taken c.args.out.now; faults = g.K.Sink.faults c.args.out.now } in
    promised_still no_form _ c.in-NoForm.ensures store sink sink (Refused Usage) (le_refl sink.faults) (λ files. refl) tt refl (λ e. refl, λ e. refl)
