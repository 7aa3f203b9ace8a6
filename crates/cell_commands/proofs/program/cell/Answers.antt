use Rattle.cell_commands.specs.Promises.{Stores}
use Rattle.cell_commands.specs.Words.{run, gen}
use Rattle.cell_commands.proofs.Answered.{no_usage, promised, promised_still}
use Rattle.cell_commands.proofs.program.cell.Goals as goal

pub returns-in-Run : goal.returns-in-Run
returns-in-Run g c =
    let e = c.run.ensures in
    let said = run c.in-Run.machine.now in
    promised said _ c.in-Run.ensures _ _ _ _ _ (λ n is. cc) e.same e.store_count e.sink_count e.answer e.read_fault e.quiet (no_usage said _ (λ is. cc) e.usage)

pub returns-in-Gen : goal.returns-in-Gen
returns-in-Gen g c =
    let e = c.run_generated.ensures in
    let said = gen c.in-Gen.n in
    let ledger = g.T.Store.ledger c.args.files.now in
    let store : Stores = record { files = g.T.Store.files c.args.files.now; ledger = ledger } in
    promised_still said _ c.in-Gen.ensures store _ _ _ e.sink_count (λ files. e.answer files ledger ledger) (e.read_fault ledger ledger) e.quiet (no_usage said _ (λ is. cc) e.usage)
