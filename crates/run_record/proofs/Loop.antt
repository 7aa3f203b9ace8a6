-- Reading lines one after the other, as a loop does.
use Rattle.std.proofs.Common.{◌≡◌, ℕ, zero, suc, ◌-◌, ◌+◌, ◌≤◌, ◌<◌, List, ◌++◌, replicate, Option, Some, None, Result, Ok, Err, refl, sym, ap, subst, ◌∙◌, append_assoc, arith}
use Rattle.std.proofs.lemmas.List.{append-nil}
use Rattle.cell_base.specs.declared.format.Format.{Format}
use Rattle.cell_base.specs.declared.steps.Step.{Step}
use Rattle.cell_base.specs.Records.{Line}
use Rattle.run_record.specs.Reading.{line_at, count_at, lines_at, with_line, ending}

-- what was read before, and what is still read
abbrev pub with_front : List Step → Result (List Step × List ℕ) ℕ → Result (List Step × List ℕ) ℕ
with_front front (Ok x) = Ok (front ++ x.0, x.1)
with_front front (Err line) = Err line

regroup : (front : List Step) (l : Line) (read : Result (List Step × List ℕ) ℕ) → with_front front (with_line l read) ≡ with_front (front ++ replicate l.1 l.0) read
regroup front (s, n) (Ok x) = ap (λ (ss : List Step). Ok (ss, x.1)) (sym (append_assoc front (replicate n s) x.0))
regroup front (s, n) (Err line) = refl

-- what is read from here on, behind k lines of n steps
abbrev pub from_here : Format → List Step → ℕ → ℕ → Option Step → List ℕ → Result (List Step × List ℕ) ℕ
from_here format front k n last bytes = with_front front (lines_at format (1000000 - k) k n last bytes)

goes_on : (format : Format) (front : List Step) (k n : ℕ) (last : Option Step) (bytes : List ℕ) (l : Line) (rest : List ℕ) (total : Result (List Step × List ℕ) ℕ) → k < 1000000
    → line_at format (1000000 - n) last bytes ≡ Some (l, rest) → from_here format front k n last bytes ≡ total → from_here format (front ++ replicate l.1 l.0) (k + 1) (n + l.1) (Some l.0) rest ≡ total
unfolding lines_at
goes_on format front k n last bytes l rest total lt h so_far =
    let more : 1000000 - k ≡ suc (1000000 - suc k) = omega (arith, lt) in
    let one : suc k ≡ k + 1 = omega arith in
    let here : from_here format front k n last bytes ≡ from_here format (front ++ replicate l.1 l.0) (suc k) (n + l.1) (Some l.0) rest =
    rw (more, h) (regroup front l (lines_at format (1000000 - suc k) (suc k) (n + l.1) (Some l.0) rest)) in
    subst (λ (m : ℕ). from_here format (front ++ replicate l.1 l.0) m (n + l.1) (Some l.0) rest ≡ total) one (sym here ∙ so_far)

-- the same by how many steps there is room for
pub goes_on_within : (format : Format) (front : List Step) (k room : ℕ) (last : Option Step) (bytes : List ℕ) (l : Line) (rest : List ℕ) (total : Result (List Step × List ℕ) ℕ) → k < 1000000 → room ≤ 1000000 → l.1 ≤ room
    → line_at format room last bytes ≡ Some (l, rest) → from_here format front k (1000000 - room) last bytes ≡ total → from_here format (front ++ replicate l.1 l.0) (k + 1) (1000000 - (room - l.1)) (Some l.0) rest ≡ total
goes_on_within format front k room last bytes l rest total lt le small h so_far =
    let same : 1000000 - (1000000 - room) ≡ room = omega (arith, le) in
    let next : (1000000 - room) + l.1 ≡ 1000000 - (room - l.1) = omega (arith, le, small) in
    subst (λ (n : ℕ). from_here format (front ++ replicate l.1 l.0) (k + 1) n (Some l.0) rest ≡ total) next (goes_on format front k (1000000 - room) last bytes l rest total lt (ap (λ (m : ℕ). line_at format m last bytes) same ∙ h) so_far)

-- no line comes any more
is_over : (format : Format) (front : List Step) (k n : ℕ) (last : Option Step) (bytes : List ℕ) (total : Result (List Step × List ℕ) ℕ) → line_at format (1000000 - n) last bytes ≡ None
    → from_here format front k n last bytes ≡ total → with_front front (ending k (count_at n bytes)) ≡ total
unfolding lines_at
is_over format front k n last bytes total none so_far = by_most (1000000 - k) so_far
  where
    by_most : (most : ℕ) → with_front front (lines_at format most k n last bytes) ≡ total → with_front front (ending k (count_at n bytes)) ≡ total
    by_most zero so_far = so_far
    by_most (suc most) so_far = rw none at so_far

-- the same by how many steps there is room for
pub is_over_within : (format : Format) (front : List Step) (k room : ℕ) (last : Option Step) (bytes : List ℕ) (total : Result (List Step × List ℕ) ℕ) → room ≤ 1000000 → line_at format room last bytes ≡ None
    → from_here format front k (1000000 - room) last bytes ≡ total → with_front front (ending k (count_at (1000000 - room) bytes)) ≡ total
is_over_within format front k room last bytes total le none so_far =
    let same : 1000000 - (1000000 - room) ≡ room = omega (arith, le) in
    is_over format front k (1000000 - room) last bytes total (ap (λ (m : ℕ). line_at format m last bytes) same ∙ none) so_far

pub counted : (front : List Step) (k n : ℕ) (bytes rest : List ℕ) (total : Result (List Step × List ℕ) ℕ) → count_at n bytes ≡ Some rest → with_front front (ending k (count_at n bytes)) ≡ total → total ≡ Ok (front, rest)
counted front k n bytes rest total is so_far = sym (rw is at so_far) ∙ ap (λ (ss : List Step). Ok (ss, rest)) (append-nil front)

pub uncounted : (front : List Step) (k n : ℕ) (bytes : List ℕ) (total : Result (List Step × List ℕ) ℕ) → count_at n bytes ≡ None → with_front front (ending k (count_at n bytes)) ≡ total → total ≡ Err (k + 2)
uncounted front k n bytes total is so_far = sym (rw is at so_far)
