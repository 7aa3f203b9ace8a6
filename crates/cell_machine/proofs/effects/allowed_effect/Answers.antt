use Rattle.std.proofs.Common.{◌≡◌, arith, refl, sym, ap, ◌∙◌, true}
use Rattle.std.specs.Option.{option_map, option_and_then}
use Rattle.std.specs.Prelude.{Option, Some, None, is_some}
use Rattle.cell_machine.specs.declared.effect.Effect.{Effect}
use Rattle.cell_machine.specs.Spe.{Spe}
use Rattle.cell_machine.specs.Exec.{exec}
use Rattle.cell_machine.specs.Memory.{lines_of}
use Rattle.cell_machine.specs.Effects.{effect_of, exec_effect}
use Rattle.cell_machine.proofs.Steps.{lines-is}
use Rattle.cell_machine.proofs.StepEffects.{effect-at}
use Rattle.cell_machine.proofs.effects.allowed_effect.Goals as goal

some-mapped : {A B : Type 0} (f : A → B) (o : Option A) → is_some (option_map f o) ≡ is_some o
some-mapped f None = refl
some-mapped f (Some x) = refl

pub returns-then-spe-processors : goal.returns-then-spe-processors
unfolding effect_of
returns-then-spe-processors c = λ M shows. rw c.in-Exec.is (λ some.
    effect-at _ M c.in-Exec.spe _ _ _ shows (omega arith) c.index-processors-spe.is (λ P at seen.
    let same = sym (lines-is M.memory _ c.lines.result shows.memory_is.bytes c.lines.ensures.count) in
    let f : Spe → Option Effect = λ P. option_map (exec_effect c.in-Exec.spe P) (exec (lines_of M.memory) P) in
    let there : is_some (exec (lines_of M.memory) P) ≡ true = sym (some-mapped (exec_effect c.in-Exec.spe P) (exec (lines_of M.memory) P)) ∙ sym (ap (λ o. is_some (option_and_then f o)) at) ∙ some in
    c.allowed_effect.ensures P seen (ap (λ lines. is_some (exec lines P)) same ∙ there) ∙ ap (λ lines. option_map (exec_effect c.in-Exec.spe P) (exec lines P)) same))
