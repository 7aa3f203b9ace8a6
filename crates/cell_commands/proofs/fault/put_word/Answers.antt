use Rattle.std.proofs.Common.{◌≡◌, ◌∷◌, ◌-◌, ◌^◌, [], List, ℕ, Option, Some, false, ap, refl, subst}
use Rattle.std.proofs.Output.{has_written_of_eq}
use Rattle.std.specs.Fmt.{DisplaysOnOk, option_append, padded_integral, styled_digits_output, format_spec, digits}
use Rattle.cell_commands.specs.FaultTexts.{hex_text}
use Rattle.cell_commands.proofs.HexTexts.{padded_hex}
use Rattle.cell_commands.proofs.fault.put_word.Goals as goal

pub returns : goal.returns
unfolding hex_text
returns g c plain ok =
    let shown : styled_digits_output c.in_radix.result c.laid_out.result ≡ Some (padded_integral (format_spec 32 0 4 8 (2 ^ 64 - 1)) false [] (digits 16 false c.args.word)) = rw (c.in_radix.ensures, c.laid_out.ensures) refl in
    let written = subst (λ (o : Option (List ℕ)). DisplaysOnOk g.W.Write.write_str_gives c.args.f.now c.write.result (option_append (Some (48 ∷ 120 ∷ [])) o) c.write.new.self) shown c.write.ensures.writes in
    has_written_of_eq _ _ _ _ _ (ap (λ (x : List ℕ). 48 ∷ 120 ∷ x) (padded_hex 8 c.args.word)) (written plain ok)
