-- The mnemonics of the code are those of specs/Table.antt.
use Rattle.std.proofs.Common.{◌≡◌, ℕ, List, map, slice_get, get_or, Some, sym, ◌∙◌, ap}
use Rattle.std.proofs.Math.ListN.{get_or-map}
use Rattle.std.specs.Option.{option_map}
use Rattle.std.proofs.lemmas.Option.{slice_get-map, get_or_from_slice_get}
use Rattle.spu_decode.specs.declared.table.TheConstants.{ROWS}
use Rattle.spu_decode.specs.declared.row.Row.{Row}

-- an entry of a list that lies beside the rows
pub entry_beside : {X Y : Type 0} (view : X → Y) (of : Row → Y) (xs : List X) (k : ℕ) (row : Row) (d : X) → map view xs ≡ map of ROWS → slice_get ROWS k ≡ Some row → view (get_or xs k d) ≡ of row
entry_beside view of xs k row d beside at =
    sym (get_or-map view xs k d)
    ∙ ap (λ ys. get_or ys k (view d)) beside
    ∙ get_or_from_slice_get (map of ROWS) k (of row) (view d) (slice_get-map of ROWS k ∙ ap (option_map of) at)
