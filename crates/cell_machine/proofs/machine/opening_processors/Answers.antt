use Rattle.std.proofs.Common.{◌≡◌, ℕ, List, take, map, length, arith, ap, sym, subst, ◌∙◌}
use Rattle.std.specs.List.{enumerate_from}
use Rattle.std.proofs.Math.Seq.{take-length}
use Rattle.cell_machine.specs.Opening.{opening_spe}
use Rattle.cell_machine.specs.Shows.{AllTwo, ShowsSpe}
use Rattle.cell_machine.proofs.AllTwo.{two_snoc}
use Rattle.cell_machine.proofs.Openings.{spes-more}
use Rattle.cell_machine.proofs.machine.opening_processors.Goals as goal

pub loop-spe-preserved : goal.loop-spe-preserved
loop-spe-preserved c = λ S modes placed.
    rw (c.in_ok-push.ensures.items, spes-more (opening_spe S) c.loop-spe.spe c.args.entries.now (omega arith))
    (two_snoc ShowsSpe _ _ _ _ (c.loop-spe.invariant S modes placed) (c.in_ok-new.ensures S modes placed))

pub returns : goal.returns
returns c = λ S entries modes placed.
    let all : take c.loop-spe.spe c.args.entries.now ≡ S.entries = (let n : c.loop-spe.spe ≡ length c.args.entries.now = omega arith in ap (λ k. take k c.args.entries.now) n) ∙ take-length c.args.entries.now ∙ sym entries in
    subst (λ (es : List ℕ). AllTwo ShowsSpe c.loop-spe.processors.items (map (opening_spe S) (enumerate_from 0 es))) all (c.loop-spe.invariant S modes placed)
