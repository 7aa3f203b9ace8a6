-- What `{:05x}` and `{:08x}` write.
use Rattle.std.proofs.Common.{◌≡◌, ℕ, ◌-◌, ◌^◌, false, List, [], ◌++◌, length, refl, ap, ◌∙◌, arith}
use Rattle.std.specs.Prelude.{replicate}
use Rattle.std.proofs.lemmas.List.{append-nil}
use Rattle.std.specs.Fmt.{padded_integral, number_padding, format_spec, digits, char_count}

pub padded_hex : (width n : ℕ) → padded_integral (format_spec 32 0 4 width (2 ^ 64 - 1)) false [] (digits 16 false n) ≡ replicate (width - length (digits 16 false n)) 48 ++ digits 16 false n
unfolding padded_integral char_count
padded_hex width n =
    let same : number_padding (format_spec 32 0 4 width (2 ^ 64 - 1)) false [] (length (digits 16 false n)) ≡ width - length (digits 16 false n) = omega arith in
    ap (λ (k : ℕ). replicate k 48 ++ (digits 16 false n ++ [])) same ∙ ap (λ (x : List ℕ). replicate (width - length (digits 16 false n)) 48 ++ x) (append-nil (digits 16 false n))
