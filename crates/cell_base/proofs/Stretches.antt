-- The lines of a record: what they stand for, and which lists of lines a record has.
use Rattle.std.proofs.Common.{◌≡◌, ℕ, zero, suc, ◌+◌, ◌<◌, Bool, true, false, cond, List, [], ◌∷◌, ◌++◌, replicate, drop, refl, sym, ap, subst, ◌∙◌, arith}
use Rattle.std.specs.Prelude.{Option, Some, None}
use Rattle.std.specs.List.{AllByRecursion, prefix_len}
use Rattle.std.proofs.lemmas.Bool.{eqb-true}
use Rattle.cell_base.specs.declared.format.Format.{Format}
use Rattle.cell_base.specs.declared.format.Format.TheVariants.{One, Two}
use Rattle.cell_base.specs.declared.steps.Step.{Step}
use Rattle.cell_base.specs.declared.steps.Step.TheVariants.{Exec, Piece, Elem, Retire, Atomic, Host}
use Rattle.cell_base.specs.Records.{Line, are_of_one, in_front, stretches, lines, InBounds}

-- ---- lines as steps

-- the steps that a line stands for
abbrev pub steps_of : Line → List Step
steps_of (s, n) = replicate n s

-- the steps that the lines stand for
abbrev pub all_steps : List Line → List Step
all_steps [] = []
all_steps (l ∷ ls) = steps_of l ++ all_steps ls

-- whether a step behind another belongs to its line
abbrev pub joins : Format → Step → Step → Bool
joins One s t = false
joins Two s t = are_of_one s t

abbrev pub joins_last : Format → Option Step → Step → Bool
joins_last format None s = false
joins_last format (Some t) s = joins format t s

-- a line has a step, and no second one but in a stretch
abbrev pub Fits : Format → Line → Type 0
Fits format (s, n) = InBounds s × (0 < n) × (joins format s s ≡ false → n ≡ 1)

-- the lines are as long as can be, the first behind a line of this step
abbrev pub AreLines : Format → Option Step → List Line → Type 0
AreLines format last [] = Unit {0}
AreLines format last ((s, n) ∷ ls) = Fits format (s, n) × (joins_last format last s ≡ false) × AreLines format (Some s) ls

of_one_same : (s t : Step) → are_of_one s t ≡ true → s ≡ t
of_one_same (Exec p) (Exec q) e = ap Exec (eqb-true p q e)
of_one_same (Exec p) (Piece a b c d) e = absurd cc
of_one_same (Exec p) (Elem a b) e = absurd cc
of_one_same (Exec p) (Retire a b) e = absurd cc
of_one_same (Exec p) (Atomic a) e = absurd cc
of_one_same (Exec p) Host e = absurd cc
of_one_same (Piece a b c d) t e = absurd cc
of_one_same (Elem a b) t e = absurd cc
of_one_same (Retire a b) t e = absurd cc
of_one_same (Atomic a) t e = absurd cc
of_one_same Host t e = absurd cc

of_one_both : (s t : Step) → are_of_one s t ≡ true → are_of_one t t ≡ true
of_one_both s t e = let same = of_one_same s t e in subst (λ (x : Step). are_of_one x t ≡ true) same e

-- ---- the lines of steps stand for these steps

-- whether the step belongs to the first line
abbrev pub first_joins : Step → List Line → Bool
first_joins s [] = false
first_joins s (l ∷ ls) = are_of_one s l.0

in_front_apart : (s : Step) (ls : List Line) → first_joins s ls ≡ false → in_front s ls ≡ (s, 1) ∷ ls
in_front_apart s [] e = refl
in_front_apart s ((t, n) ∷ ls) e = rw e refl

more_of_one : (s : Step) (n : ℕ) (steps : List Step) → are_of_one s s ≡ true → first_joins s (stretches steps) ≡ false → stretches (replicate (suc n) s ++ steps) ≡ (s, suc n) ∷ stretches steps
unfolding stretches
more_of_one s zero steps one apart = in_front_apart s (stretches steps) apart
more_of_one s (suc n) steps one apart = ap (in_front s) (more_of_one s n steps one apart) ∙ rw one refl

-- a line in front of others is the line of its steps
pub line_first : (s : Step) (n : ℕ) (steps : List Step) → 0 < n → (are_of_one s s ≡ false → n ≡ 1) → first_joins s (stretches steps) ≡ false → stretches (replicate n s ++ steps) ≡ (s, n) ∷ stretches steps
unfolding stretches
line_first s zero steps some alone apart = absurd (omega (arith, some))
line_first s (suc n) steps some alone apart = on (are_of_one s s) refl
  where
    on : (b : Bool) → are_of_one s s ≡ b → stretches (replicate (suc n) s ++ steps) ≡ (s, suc n) ∷ stretches steps
    on true e = more_of_one s n steps e apart
    on false e =
        let one : n ≡ 0 = omega (arith, alone e) in
        rw one (in_front_apart s (stretches steps) apart)

apart_of : (s : Step) (ls : List Line) → AreLines Two (Some s) ls → first_joins s ls ≡ false
apart_of s [] are = refl
apart_of s ((t, n) ∷ ls) are = are.1

pub lines_again : (format : Format) (last : Option Step) (ls : List Line) → AreLines format last ls → lines format (all_steps ls) ≡ ls
unfolding stretches
lines_again One last [] are = refl
lines_again One last ((s, n) ∷ ls) are =
    let one : n ≡ 1 = are.0.2 refl in
    rw one (ap (λ (t : List Line). (s, 1) ∷ t) (lines_again One (Some s) ls are.2))
lines_again Two last [] are = refl
lines_again Two last ((s, n) ∷ ls) are =
    let rest = lines_again Two (Some s) ls are.2 in
    line_first s n (all_steps ls) are.0.1 are.0.2 (ap (first_joins s) rest ∙ apart_of s ls are.2) ∙ ap (λ (t : List Line). (s, n) ∷ t) rest

pub lines_are_one : (last : Option Step) (steps : List Step) → AllByRecursion InBounds steps → AreLines One last (lines One steps)
lines_are_one last [] all = tt
lines_are_one None (s ∷ steps) all = ((all.0, omega arith, λ e. refl), refl, lines_are_one (Some s) steps all.1)
lines_are_one (Some t) (s ∷ steps) all = ((all.0, omega arith, λ e. refl), refl, lines_are_one (Some s) steps all.1)

behind : (s : Step) (ls : List Line) → first_joins s ls ≡ false → AreLines Two None ls → AreLines Two (Some s) ls
behind s [] apart are = tt
behind s ((t, n) ∷ ls) apart are = (are.0, apart, are.2)

front_are : (s : Step) (ls : List Line) → InBounds s → AreLines Two None ls → AreLines Two None (in_front s ls)
front_are s [] fits are = ((fits, omega arith, λ e. refl), refl, tt)
front_are s ((t, n) ∷ ls) fits are = on (are_of_one s t) refl
  where
    on : (b : Bool) → are_of_one s t ≡ b → AreLines Two None (cond b ((t, suc n) ∷ ls) ((s, 1) ∷ (t, n) ∷ ls))
    on true e =
        let same : are_of_one t t ≡ true = of_one_both s t e in
        ((are.0.0, omega arith, λ no. absurd (cc (no, same))), refl, are.2)
    on false e = ((fits, omega arith, λ no. refl), refl, (are.0, e, are.2))

front_steps : (s : Step) (ls : List Line) → all_steps (in_front s ls) ≡ s ∷ all_steps ls
front_steps s [] = refl
front_steps s ((t, n) ∷ ls) = on (are_of_one s t) refl
  where
    on : (b : Bool) → are_of_one s t ≡ b → all_steps (cond b ((t, suc n) ∷ ls) ((s, 1) ∷ (t, n) ∷ ls)) ≡ s ∷ all_steps ((t, n) ∷ ls)
    on true e = ap (λ (x : Step). x ∷ (replicate n t ++ all_steps ls)) (sym (of_one_same s t e))
    on false e = refl

pub lines_are : (format : Format) (steps : List Step) → AllByRecursion InBounds steps → AreLines format None (lines format steps)
unfolding stretches
lines_are One steps all = lines_are_one None steps all
lines_are Two [] all = tt
lines_are Two (s ∷ steps) all = front_are s (stretches steps) all.0 (lines_are Two steps all.1)

pub steps_again : (format : Format) (steps : List Step) → all_steps (lines format steps) ≡ steps
unfolding stretches
steps_again One [] = refl
steps_again One (s ∷ steps) = ap (λ (t : List Step). s ∷ t) (steps_again One steps)
steps_again Two [] = refl
steps_again Two (s ∷ steps) = front_steps s (stretches steps) ∙ ap (λ (t : List Step). s ∷ t) (steps_again Two steps)

some_in_bounds : (s : Step) (n : ℕ) (rest : List Step) → InBounds s → AllByRecursion InBounds rest → AllByRecursion InBounds (replicate n s ++ rest)
some_in_bounds s zero rest fits all = all
some_in_bounds s (suc n) rest fits all = (fits, some_in_bounds s n rest fits all)

pub lines_in_bounds : (format : Format) (last : Option Step) (ls : List Line) → AreLines format last ls → AllByRecursion InBounds (all_steps ls)
lines_in_bounds format last [] are = tt
lines_in_bounds format last ((s, n) ∷ ls) are = some_in_bounds s n (all_steps ls) are.0.0 (lines_in_bounds format (Some s) ls are.2)

-- ---- the first line of steps

-- how many steps from the front on go on with the stretch of this one
abbrev pub further : Step → List Step → ℕ
further s steps = prefix_len (are_of_one s) steps

pub first_line : (s : Step) (steps : List Step) → stretches (s ∷ steps) ≡ (s, suc (further s steps)) ∷ stretches (drop (further s steps) steps)
unfolding stretches
first_line s [] = refl
first_line s (t ∷ steps) = on (first_line t steps) (are_of_one s t) refl
  where
    on : stretches (t ∷ steps) ≡ (t, suc (further t steps)) ∷ stretches (drop (further t steps) steps) → (b : Bool) → are_of_one s t ≡ b
        → in_front s (stretches (t ∷ steps)) ≡ (s, suc (cond b (1 + further s steps) 0)) ∷ stretches (drop (cond b (1 + further s steps) 0) (t ∷ steps))
    on next true e =
        let same = of_one_same s t e in
        let more : 1 + further s steps ≡ suc (further s steps) = omega arith in
        ap (in_front s) next ∙ rw (e, more) (ap (λ (x : Step). (x, suc (suc (further x steps))) ∷ stretches (drop (further x steps) steps)) (sym same))
    on next false e = ap (in_front s) next ∙ rw e (ap (λ (ls : List Line). (s, 1) ∷ ls) (sym next))
