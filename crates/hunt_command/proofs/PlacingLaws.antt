-- What lines place, one after the other.
use Rattle.std.proofs.Common.{◌≡◌, ℕ, List, [], ◌∷◌, ◌++◌, Option, sym, ap, ◌∙◌, append-nil, append_assoc}
use Rattle.std.specs.Option.{option_to_list}
use Rattle.cell_base.specs.Words.{words_of}
use Rattle.hunt_reports.specs.declared.origins.Placing.{Placing}
use Rattle.hunt_command.specs.declared.placings.Said.{Said}
use Rattle.hunt_command.specs.Placings.{said_by, spes_after, sources_after, placing_of, placings_from}

-- what was placed, in front of what the other lines place, is all
pub one_line : (old new all : List Placing) (spes sources spes_then sources_then : ℕ) (lines : List (List ℕ)) (line : List ℕ) (rest : List (List ℕ)) (says : Said) (placing : Option Placing)
    → lines ≡ line ∷ rest → says ≡ said_by (words_of line) → placing ≡ placing_of spes sources says → spes_then ≡ spes_after spes says → sources_then ≡ sources_after sources says
    → new ≡ old ++ option_to_list placing → old ++ placings_from spes sources lines ≡ all → new ++ placings_from spes_then sources_then rest ≡ all
unfolding placings_from
one_line old new all spes sources spes_then sources_then lines line rest says placing cut is_said is_placed spes_are sources_are more so_far =
    rw (more, is_placed, spes_are, sources_are, is_said) (append_assoc old (option_to_list (placing_of spes sources (said_by (words_of line)))) (placings_from (spes_after spes (said_by (words_of line))) (sources_after sources (said_by (words_of line))) rest)
    ∙ ap (λ l. old ++ placings_from spes sources l) (sym cut) ∙ so_far)

pub all_lines : (old all : List Placing) (spes sources : ℕ) (lines : List (List ℕ)) → lines ≡ [] → old ++ placings_from spes sources lines ≡ all → old ≡ all
unfolding placings_from
all_lines old all spes sources lines none so_far = sym (append-nil old) ∙ sym (ap (λ l. old ++ placings_from spes sources l) none) ∙ so_far
