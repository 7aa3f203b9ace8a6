-- Conflicts of the steps at two places.
use Rattle.std.proofs.Common.{ℕ, ◌<◌, List, length, get_or, sym, subst₂}
use Rattle.std.proofs.lemmas.Option.{slice_get-get_or, get_or_from_slice_get}
use Rattle.race_check.specs.declared.access.Access.{Access}
use Rattle.race_check.specs.Races.{Conflict, ConflictAt}

pub conflict_at : (steps : List Access) (i j : ℕ) (d e : Access) → i < length steps → j < length steps → Conflict (get_or steps i d) (get_or steps j e) → ConflictAt steps i j
conflict_at steps i j d e low high c =
    record { first = get_or steps i d; second = get_or steps j e; first_at = slice_get-get_or steps i d low; second_at = slice_get-get_or steps j e high; conflict = c }

pub conflict_from : (steps : List Access) (i j : ℕ) (d e : Access) → ConflictAt steps i j → Conflict (get_or steps i d) (get_or steps j e)
conflict_from steps i j d e c =
    subst₂ Conflict (sym (get_or_from_slice_get steps i c.first d c.first_at)) (sym (get_or_from_slice_get steps j c.second e c.second_at)) c.conflict
