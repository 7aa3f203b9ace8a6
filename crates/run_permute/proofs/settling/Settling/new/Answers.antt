use Rattle.std.proofs.Common.{refl, sym, ◌∙◌}
use Rattle.run_permute.proofs.Settlings.{begun-follows}
use Rattle.run_permute.proofs.settling.Settling.new.Goals as goal

pub returns : goal.returns
returns c = λ setup many. begun-follows setup _ refl (c.in_ok-watches.ensures.many ∙ sym many) c.in_ok-watches.ensures.fresh
