use Rattle.std.proofs.Common.{rules, ◌≡◌, ◌+◌, ◌*◌, ◌≤◌, true, false, sym, ap, ◌∙◌, subst}
use Rattle.std.specs.Prelude.{not, bytes_eq}
use Rattle.cell_machine.specs.Run.{Ran}
use Rattle.run_progress.specs.Changes.{is_shared}
use Rattle.run_progress.proofs.Repeating.{repeated-compared, repeated-local, repeated-seen, shared-fits}
use Rattle.run_progress.proofs.repeat.repeat.Goals as goal

pub returns-then-is_seen-clause-repeated : goal.returns-then-is_seen-clause-repeated
returns-then-is_seen-clause-repeated c =
    repeated-seen c.args.again.now c.make.new.again c.args.step c.allowed_effect-effect.result c.allowed_effect-effect.ensures c.make.ensures (sym c.is_seen.ensures ∙ c.if-is_seen.true)

pub returns-then-not-is_shared-clause-repeated : goal.returns-then-not-is_shared-clause-repeated
returns-then-not-is_shared-clause-repeated c =
    let shared : is_shared c.allowed_effect-effect.result.writes ≡ false = sym c.is_shared.ensures ∙ search rules in
    repeated-local c.args.again.now c.make-then-not-is_shared.new.again c.args.step c.allowed_effect-effect.result c.allowed_effect-effect.ensures c.make-then-not-is_shared.ensures (sym c.is_seen.ensures ∙ c.if-is_seen.false) shared

pub shared_bytes-requires : goal.shared_bytes-requires
shared_bytes-requires c =
    let shared : is_shared c.allowed_effect-effect.result.writes ≡ true = sym c.is_shared.ensures ∙ search rules in
    shared-fits c.args.again.now c.args.step c.allowed_effect-effect.result c.requires.opening c.allowed_effect-effect.ensures shared

pub shared_bytes-requires-2 : goal.shared_bytes-requires-2
shared_bytes-requires-2 c =
    let e = c.allowed_effect-effect.result in
    let shared : is_shared e.writes ≡ true = sym c.is_shared.ensures ∙ search rules in
    subst (λ (r : Ran). e.writes.at + e.writes.len ≤ 128 * r.setup.lines) (sym c.make-2.ensures) (shared-fits c.args.again.now c.args.step e c.requires.opening c.allowed_effect-effect.ensures shared)

pub returns-clause-repeated : goal.returns-clause-repeated
returns-clause-repeated c =
    let e = c.allowed_effect-effect.result in
    let shared : is_shared e.writes ≡ true = sym c.is_shared.ensures ∙ search rules in
    let before = c.in_ok-before.before.items in
    let after = c.in_ok-after.after.items in
    let differ : c.ne-changes.result ≡ not (bytes_eq before after) = c.ne-changes.ensures ∙ ap (λ xs. not (bytes_eq xs c.as_slice-2.result.now)) c.as_slice.ensures.value ∙ ap (λ xs. not (bytes_eq before xs)) c.as_slice-2.ensures.value in
    repeated-compared c.args.again.now c.make-2.new.again c.args.step e before after c.ne-changes.result c.allowed_effect-effect.ensures c.make-2.ensures (sym c.is_seen.ensures ∙ c.if-is_seen.false) shared c.in_ok-before.ensures c.in_ok-after.ensures differ
