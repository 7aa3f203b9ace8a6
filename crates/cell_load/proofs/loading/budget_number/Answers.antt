use Rattle.std.proofs.Common.{◌≡◌, unwrap_or, sym, ap, ◌∙◌, arith}
use Rattle.std.proofs.Common.{ℕ, None, refl}
use Rattle.cell_load.specs.declared.line.Line.{Line}
use Rattle.cell_load.specs.declared.line.Line.TheVariants as line
use Rattle.cell_load.specs.Entries.{entry_of}
use Rattle.cell_load.specs.Loaded.{budget_number}
use Rattle.cell_load.proofs.CutLemmas.{cut_at, cut_end}
use Rattle.cell_load.proofs.LoadLemmas.{first_here, first_later, first_none}
use Rattle.cell_load.proofs.loading.budget_number.Goals as goal

other : (l : Line) → ((n : ℕ) → l ≡ line.Budget n → ⊥) → budget_number (entry_of l) ≡ None
other line.Head differs = refl
other (line.Lines n) differs = refl
other (line.Budget n) differs = absurd (differs n refl)
other line.Spe differs = refl
other (line.Entry at) differs = refl
other (line.Code at bytes) differs = refl
other (line.Bytes at bytes) differs = refl
other (line.Source name) differs = refl
other (line.MemoryBytes at bytes) differs = refl
other (line.Host action) differs = refl
other (line.OrMode spe register) differs = refl
other (line.ShowLocal spe at len) differs = refl
other (line.ShowMemory at len) differs = refl

pub returns-in-Budget : goal.returns-in-Budget
returns-in-Budget c =
    let cut = cut_at entry_of c.args.lines.now c.loop-line.line-index c.line-item.result (omega arith) c.line-item.is in
    sym (ap (λ o. unwrap_or o 0) (c.loop-line.invariant ∙ first_here budget_number _ _ _ c.in-Budget.n cut (ap (λ (l : Line). budget_number (entry_of l)) c.in-Budget.is)))

pub loop-line-preserved : goal.loop-line-preserved
loop-line-preserved c =
    let cut = cut_at entry_of c.args.lines.now c.loop-line.line-index c.line-item.result (omega arith) c.line-item.is in
    c.loop-line.invariant ∙ first_later budget_number _ _ _ cut (other c.line-item.result c.in_default.not-Budget)

pub returns : goal.returns
returns c = sym (ap (λ o. unwrap_or o 0) (c.loop-line.invariant ∙ first_none budget_number _ (cut_end entry_of c.args.lines.now c.loop-line.line-index (omega arith))))
