-- How long a record is at most.
use Rattle.std.proofs.Common.{◌≡◌, ℕ, ◌+◌, ◌*◌, ◌≤◌, List, [], ◌∷◌, ◌++◌, length, replicate, Option, Some, None, arith, ap, length-append}
use Rattle.std.specs.List.{flat_map}
use Rattle.std.proofs.lemmas.List.{length-replicate}
use Rattle.std.specs.Fmt.{decimal}
use Rattle.std.proofs.lemmas.Fmt.{length-decimal-le}
use Rattle.cell_base.specs.declared.format.Format.TheVariants.{Two}
use Rattle.cell_base.specs.declared.steps.Step.{Step}
use Rattle.cell_base.specs.declared.steps.Step.TheVariants.{Exec, Piece, Elem, Retire, Atomic, Host}
use Rattle.cell_base.specs.Records.{Line, step_line, stretch_line, line_text, stretches, spelling, InBounds, AreSteps}
use Rattle.cell_base.proofs.Stretches.{all_steps, AreLines, lines_are, steps_again}
use Rattle.cell_commands.specs.Forms.{record_limit}

two-digits : (n : ℕ) → n ≤ 15 → length (decimal n) ≤ 2
two-digits n low = length-decimal-le 2 n (omega arith) (omega (arith, low)) (omega (arith, low))

three-digits : (n : ℕ) → n ≤ 128 → length (decimal n) ≤ 3
three-digits n low = length-decimal-le 3 n (omega arith) (omega (arith, low)) (omega (arith, low))

four-digits : (n : ℕ) → n ≤ 2047 → length (decimal n) ≤ 4
four-digits n low = length-decimal-le 4 n (omega arith) (omega (arith, low)) (omega (arith, low))

six-digits : (n : ℕ) → n ≤ 999999 → length (decimal n) ≤ 6
six-digits n low = length-decimal-le 6 n (omega arith) (omega (arith, low)) (omega (arith, low))

seven-digits : (n : ℕ) → n ≤ 1000000 → length (decimal n) ≤ 7
seven-digits n low = length-decimal-le 7 n (omega arith) (omega (arith, low)) (omega (arith, low))

line-short : (s : Step) → InBounds s → length (step_line s) ≤ 21
line-short (Exec p) le = let a = two-digits p le in simp length-append (omega (arith, a))
line-short (Piece p c e k) le =
    let a = two-digits p le.0 in
    let b = six-digits c le.1 in
    let d = four-digits e le.2 in
    let f = three-digits k le.3 in
    simp length-append (omega (arith, a, b, d, f))
line-short (Elem p c) le = let a = two-digits p le.0 in let b = six-digits c le.1 in simp length-append (omega (arith, a, b))
line-short (Retire p c) le = let a = two-digits p le.0 in let b = six-digits c le.1 in simp length-append (omega (arith, a, b))
line-short (Atomic p) le = let a = two-digits p le in simp length-append (omega (arith, a))
line-short Host le = omega arith

-- the line of a stretch, beside the steps that it stands for
stretch-short : (s : Step) (n : ℕ) → InBounds s → n ≤ 1000000 → length (stretch_line s n) ≤ 21
stretch-short (Exec p) n le few = let a = two-digits p le in let b = seven-digits n few in simp length-append (omega (arith, a, b))
stretch-short (Piece p c e k) n le few = line-short (Piece p c e k) le
stretch-short (Elem p c) n le few = line-short (Elem p c) le
stretch-short (Retire p c) n le few = line-short (Retire p c) le
stretch-short (Atomic p) n le few = line-short (Atomic p) le
stretch-short Host n le few = line-short Host le

lines-short : (last : Option Step) (ls : List Line) → AreLines Two last ls → length (all_steps ls) ≤ 1000000 → length (flat_map (line_text Two) ls) ≤ 21 * length (all_steps ls)
lines-short last [] are few = omega arith
lines-short last ((s, n) ∷ ls) are few =
    let long = length-append (replicate n s) (all_steps ls) in
    let count = length-replicate n s in
    let some = are.0.1 in
    let one = stretch-short s n are.0.0 (omega (arith, few, long, count)) in
    let rest = lines-short (Some s) ls are.2 (omega (arith, few, long)) in
    let both : length (stretch_line s n ++ flat_map (line_text Two) ls) ≡ length (stretch_line s n) + length (flat_map (line_text Two) ls) = length-append (stretch_line s n) (flat_map (line_text Two) ls) in
    omega (arith, one, rest, both, long, count, some)

record-short : (steps : List Step) → AreSteps steps → length (spelling Two steps) ≤ 21000028
record-short steps are =
    let few = are.0 in
    let same = ap length (steps_again Two steps) in
    let lines = lines-short None (stretches steps) (lines_are Two steps are.1) (omega (arith, few, same)) in
    let number = seven-digits (length steps) are.0 in
    simp length-append (omega (arith, few, same, lines, number))

-- a record and its states
pub both-short : (steps : List Step) (first second : List ℕ) → AreSteps steps → first ≡ spelling Two steps → length second ≤ 700000 → length (first ++ second) ≤ record_limit
both-short steps first second are is small =
    let record_is = record-short steps are in
    let same : length first ≡ length (spelling Two steps) = ap length is in
    let both : length (first ++ second) ≡ length first + length second = length-append first second in
    omega (arith, record_is, same, both, small)
