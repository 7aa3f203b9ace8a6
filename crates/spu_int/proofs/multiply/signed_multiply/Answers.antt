use Rattle.std.proofs.Common.{rules, ◌≡◌, ap₂, ◌∙◌, ◌*ℤ◌}
use Rattle.std.specs.Int.{w16, w32, cast_unsigned, cast_signed}
use Rattle.std.specs.Prelude.{FitsSigned}
use Rattle.std.proofs.lemmas.Int.{to_z-of_z}
use Rattle.spu_int.proofs.multiply.signed_multiply.Goals as goal

pub returns : goal.returns
returns c =
    let x : FitsSigned w16 c.cast_signed.result = search rules in
    let y : FitsSigned w16 c.cast_signed-2.result = search rules in
    let wide-x : FitsSigned w32 c.from.result = search rules in
    let wide-y : FitsSigned w32 c.from-2.result = search rules in
    let product : FitsSigned w32 (c.from.result *ℤ c.from-2.result) = search rules in
    let is-x : c.from.result ≡ cast_signed w16 c.args.x = (simp to_z-of_z at c.from.ensures) ∙ c.cast_signed.ensures in
    let is-y : c.from-2.result ≡ cast_signed w16 c.args.y = (simp to_z-of_z at c.from-2.ensures) ∙ c.cast_signed-2.ensures in
    (simp to_z-of_z at c.cast_unsigned.ensures) ∙ ap₂ (λ a b. cast_unsigned w32 (a *ℤ b)) is-x is-y
