-- Lists of texts, and optional values.
use Rattle.std.specs.Prelude.{ℕ, ⊤, List, map, Vec, Option, Some, None}
use Rattle.std.specs.declared.alloc.Global.{Global}

abbrev pub bytes_in : List (Vec ℕ Global) → List (List ℕ)
bytes_in texts = map (λ text. text.items) texts

-- both are there and related, or neither is there
abbrev pub BothOrNone : {X Y : Type 0} → (X → Y → Type 0) → Option X → Option Y → Type 0
BothOrNone R (Some x) (Some y) = R x y
BothOrNone R None None = ⊤
BothOrNone R (Some x) None = ⊥
BothOrNone R None (Some y) = ⊥
