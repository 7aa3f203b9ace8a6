-- The lines of a record, written one after the other.
use Rattle.std.proofs.Common.{◌≡◌, ℕ, suc, ◌+◌, ◌-◌, ◌≤◌, List, [], ◌∷◌, ◌++◌, length, take, drop, refl, sym, ap, ◌∙◌, append_assoc, arith}
use Rattle.std.specs.List.{flat_map, prefix_len}
use Rattle.std.proofs.lemmas.List.{append-nil, nil_from_length, take_all, length-drop}
use Rattle.std.proofs.lemmas.List.Concat.{flat_map-cons}
use Rattle.cell_base.specs.declared.format.Format.TheVariants.{One, Two}
use Rattle.cell_base.specs.declared.steps.Step.{Step}
use Rattle.cell_base.specs.Records.{step_line, stretch_line, line_text, are_of_one, stretches, lines, head_line}
use Rattle.cell_base.proofs.Stretches.{first_line}

-- the lines of steps that are still to be written
abbrev pub to_write : List Step → List ℕ
to_write steps = flat_map (line_text Two) (stretches steps)

-- one line more
pub one_stretch : (out whole : List ℕ) (s : Step) (behind : List Step) (more : ℕ) → more ≡ prefix_len (are_of_one s) behind → out ++ to_write (s ∷ behind) ≡ whole → (out ++ stretch_line s (more + 1)) ++ to_write (drop more behind) ≡ whole
one_stretch out whole s behind more is so_far =
    let count : more + 1 ≡ suc (prefix_len (are_of_one s) behind) = omega (arith, is) in
    let line : to_write (s ∷ behind) ≡ stretch_line s (more + 1) ++ to_write (drop more behind) =
    ap (λ ls. flat_map (line_text Two) ls) (first_line s behind)
    ∙ flat_map-cons (line_text Two) (s, suc (prefix_len (are_of_one s) behind)) (stretches (drop (prefix_len (are_of_one s) behind) behind))
    ∙ rw (← count, ← is) refl in
    append_assoc out (stretch_line s (more + 1)) (to_write (drop more behind)) ∙ ap (λ t. out ++ t) (sym line) ∙ so_far

pub all_written : (out whole : List ℕ) → out ++ to_write [] ≡ whole → out ≡ whole
unfolding stretches
all_written out whole so_far = sym (append-nil out) ∙ so_far

-- in format 1 a line is a step's
pub lines_alone : (steps : List Step) → flat_map (line_text One) (lines One steps) ≡ flat_map step_line steps
lines_alone [] = refl
lines_alone (s ∷ steps) = flat_map-cons (line_text One) (s, 1) (lines One steps) ∙ ap (λ t. step_line s ++ t) (lines_alone steps) ∙ sym (flat_map-cons step_line s steps)

all_behind : (n : ℕ) (steps : List Step) → take (length steps - n) (drop n steps) ≡ drop n steps
all_behind n steps = take_all (length steps - n) (drop n steps) (omega (arith, length-drop n steps))

-- the same as a loop does it
pub next_stretch : (out new whole : List ℕ) (rest behind : List Step) (s : Step) (more : ℕ) → rest ≡ s ∷ behind → more ≡ prefix_len (are_of_one s) behind → out ++ to_write rest ≡ whole → new ≡ out ++ stretch_line s (more + 1)
    → new ++ to_write (take (length behind - more) (drop more behind)) ≡ whole
next_stretch out new whole rest behind s more parts is so_far wrote =
    ap (λ t. new ++ to_write t) (all_behind more behind) ∙ ap (λ t. t ++ to_write (drop more behind)) wrote ∙ one_stretch out whole s behind more is (ap (λ t. out ++ to_write t) (sym parts) ∙ so_far)

pub rest_short : (behind : List Step) (more : ℕ) → length (take (length behind - more) (drop more behind)) ≤ length behind
rest_short behind more =
    let same = ap length (all_behind more behind) in
    let short = length-drop more behind in
    omega (arith, same, short)

-- the last line behind all others
pub counted : (out new count : List ℕ) (rest steps : List Step) → length rest ≡ 0 → out ++ to_write rest ≡ head_line Two ++ to_write steps → new ≡ out ++ count → new ≡ head_line Two ++ to_write steps ++ count
counted out new count rest steps none so_far wrote =
    let done : out ≡ head_line Two ++ to_write steps = all_written out (head_line Two ++ to_write steps) (ap (λ t. out ++ to_write t) (sym (nil_from_length rest none)) ∙ so_far) in
    wrote ∙ ap (λ t. t ++ count) done

pub counted_alone : (out new count : List ℕ) (n : ℕ) (steps : List Step) → length steps ≤ n → out ≡ head_line One ++ flat_map step_line (take n steps) → new ≡ out ++ count → new ≡ head_line One ++ flat_map (line_text One) (lines One steps) ++ count
counted_alone out new count n steps all so_far wrote =
    wrote ∙ ap (λ t. t ++ count) (so_far ∙ ap (λ t. head_line One ++ flat_map step_line t) (take_all n steps all) ∙ ap (λ t. head_line One ++ t) (sym (lines_alone steps)))
