-- An expression is a number, a label, or a label followed by `+` or `-` and a number, with `-` allowed before a number;
-- a label's expression may end with `@h` or `@l`.
use Rattle.std.specs.Prelude.{ℕ, ◌^◌, ℤ, pos, neg_ℤ, ◌≤ℤ◌, List, [], ◌∷◌, length, Option, None, Some, IfSome, if◌then◌else◌, drop, codes}
use Rattle.std.specs.Str.{bytes_eq}
use Rattle.spu_lex.specs.declared.Token.{Token}
use Rattle.spu_lex.specs.Order.{LiesIn}
use Rattle.spu_asm.specs.declared.syntax.Part.{Part}
use Rattle.spu_asm.specs.declared.syntax.Part.TheVariants.{Whole, High, Low}
use Rattle.spu_asm.specs.declared.syntax.Expression.{Expression}
use Rattle.spu_asm.specs.Reading.{◌>>=◌, word, is_name, begins_with_mark, name_at, number_at}

-- a number with or without `-` (45)
unfoldable pub signed_at : List ℕ → List Token → Option (ℤ × List Token)
signed_at text ts =
    if begins_with_mark text 45 ts
    then (number_at text (drop 1 ts) >>= λ n. Some (neg_ℤ (pos n.0), n.1))
    else (number_at text ts >>= λ n. Some (pos n.0, n.1))

-- what is added to a label: `+` (43) or `-` and a number, or nothing
unfoldable pub offset_at : List ℕ → List Token → Option (ℤ × List Token)
offset_at text ts =
    if begins_with_mark text 43 ts then signed_at text (drop 1 ts)
    else (if begins_with_mark text 45 ts then (signed_at text (drop 1 ts) >>= λ n. Some (neg_ℤ n.0, n.1))
    else Some (pos 0, ts))

abbrev pub part_named : List ℕ → Option Part
part_named name = if bytes_eq name (codes "h") then Some High else (if bytes_eq name (codes "l") then Some Low else None)

-- `@` (64) and the part's name, or nothing
unfoldable pub part_at : List ℕ → List Token → Option (Part × List Token)
part_at text ts =
    if begins_with_mark text 64 ts
    then (name_at (drop 1 ts) >>= λ name. part_named (word text name.0) >>= λ part. Some (part, name.1))
    else Some (Whole, ts)

unfoldable pub labelled_at : List ℕ → Token → List Token → Option (Expression × List Token)
labelled_at text name ts = do
  offset ← offset_at text ts
  part ← part_at text offset.1
  Some (record { label = Some name; offset = offset.0; part = part.0 }, part.1)

abbrev pub number_only : ℤ → Expression
number_only n = record { label = None; offset = n; part = Whole }

unfoldable pub expression_at : List ℕ → List Token → Option (Expression × List Token)
expression_at text [] = None
expression_at text (t ∷ ts) =
    if is_name t.kind then labelled_at text t ts
    else (signed_at text (t ∷ ts) >>= λ n. Some (number_only n.0, n.1))

-- an expression of a text: its label lies in it, and its number has at most 64 bits, with or without `-`
abbrev pub IsOf : List ℕ → Expression → Type 0
IsOf text e = (neg_ℤ (pos (2 ^ 64)) ≤ℤ e.offset) × (e.offset ≤ℤ pos (2 ^ 64)) × IfSome e.label (LiesIn (length text))
