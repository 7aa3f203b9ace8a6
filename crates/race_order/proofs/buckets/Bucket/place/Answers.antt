use Rattle.std.proofs.Common.{◌≡◌, ◌+◌, ◌*◌, ◌-◌, length, get_or, sym, ap, ◌∙◌, subst, arith}
use Rattle.std.specs.List.{list_any}
use Rattle.std.proofs.lemmas.List.{get_or_push, length_push}
use Rattle.std.proofs.lemmas.List.Elements.{All-push}
use Rattle.race_order.specs.declared.buckets.Row.{Row}
use Rattle.race_order.specs.Tables.{same_role, row_has, AreRowsOf}
use Rattle.race_order.proofs.Rows.{any_push_none, and_none}
use Rattle.race_order.proofs.SameRoles.{same_role_itself}
use Rattle.race_order.proofs.buckets.Bucket.place.Goals as goal
use Rattle.race_order.proofs.buckets.Bucket.place.Goals.{After-len}

abbrev made : (c : After-len) → Row
made c = record { role = c.args.role; known = c.in_ok-known.known }

pub returns-clause-has : goal.returns-clause-has
returns-clause-has c = λ r at.
    ap (list_any (row_has r at)) c.in_ok-push.ensures.items
    ∙ any_push_none (row_has r at) c.args.self.now.rows.items (made c) (and_none (same_role c.args.role r) _ (c.in_ok-known.ensures.empty at))

pub returns-clause-rows : goal.returns-clause-rows
returns-clause-rows c = subst (AreRowsOf (3 * c.args.spes + 1)) (sym c.in_ok-push.ensures.items) (All-push (λ (row : Row). row.known.chains ≡ 3 * c.args.spes + 1) c.args.self.now.rows.items (made c) c.requires.rows c.in_ok-known.ensures.chains)

pub returns-clause-role : goal.returns-clause-role
returns-clause-role c = λ d.
    let long : length c.push.new.self.items ≡ length c.args.self.now.rows.items + 1 = ap length c.in_ok-push.ensures.items ∙ length_push c.args.self.now.rows.items (made c) in
    let last : length c.args.self.now.rows.items ≡ c.len.result - 1 = omega (arith, long, c.len.ensures) in
    ap (λ (row : Row). same_role row.role c.args.role) (ap (λ rows. get_or rows (c.len.result - 1) d) c.in_ok-push.ensures.items ∙ get_or_push c.args.self.now.rows.items (made c) d (c.len.result - 1) last)
    ∙ same_role_itself c.args.role
