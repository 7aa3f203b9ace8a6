use Rattle.std.proofs.Common.{◌∙◌, sym, arith, true≢false}
use Rattle.run_permute.proofs.Ends.{end-from}
use Rattle.run_permute.proofs.chain.is_apart.Goals as goal

pub returns : goal.returns
returns g c = λ t.
    end-from g.here.run g.here.place c.args.chain.now 0 c.requires.1 (omega arith) (λ low o. true≢false (sym (c.is_known.ensures.1 (low, o)) ∙ c.if-is_known.false)) (λ some. absurd (omega arith))
