use Rattle.std.proofs.Common.{rules}
use Rattle.std.specs.Prelude.{not}
use Rattle.std.proofs.lemmas.Fn.{filter_same}
use Rattle.lost_values.specs.declared.unread.Unread.{Unread}
use Rattle.lost_values.specs.Touches.{is_same}
use Rattle.lost_values.proofs.unread.drop_kind.Goals as goal

pub returns : goal.returns
returns c = filter_same _ (λ (v : Unread). not (is_same c.args.kind v.kind)) _ (λ x b f k. search rules) _ _ c.retain.ensures.filtered
