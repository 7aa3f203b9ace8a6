-- Expressions and bytes of strings, counted one by one.
use Rattle.std.proofs.Common.{◌≡◌, ◌≢◌, ℕ, zero, suc, ◌+◌, ◌-◌, ◌≤◌, ◌<◌, false, eqb, List, [], ◌∷◌, ◌++◌, append_assoc, length, take, drop, get_or, Option, None, Some, refl, sym, ap, ◌∙◌, arith}
use Rattle.std.specs.Option.{option_map}
use Rattle.std.proofs.lemmas.Bool.{ne_eqb}
use Rattle.std.proofs.lemmas.List.{length-drop, take_all, append-nil}
use Rattle.spu_lex.specs.declared.Token.{Token}
use Rattle.spu_asm.specs.declared.syntax.Expression.{Expression}
use Rattle.spu_asm.specs.Reading.{◌>>=◌, mark_at}
use Rattle.spu_asm.specs.Expressions.{expression_at}
use Rattle.spu_asm.specs.Statements.{expressions_in, expressions_or_none}
use Rattle.spu_asm.specs.Strings.{unescaped, escape_value, string_value}

one_more : (count : ℕ) (e : Expression) (read : Option (List Expression)) → option_map (λ es. count + length es) (read >>= λ others. Some (e ∷ others)) ≡ option_map (λ es. (count + 1) + length es) read
one_more count e (Some es) = ap Some (omega arith)
one_more count e None = refl

module _ (text : List ℕ) (count i len : ℕ) (rest : List Token) (total : Option ℕ) (lt : i < len) (so_far : option_map (λ es. count + length es) (expressions_in (len - i) text rest) ≡ total) where
  pub no_expression : None ≡ expression_at text rest → total ≡ None
  unfolding expressions_in
  no_expression none =
      let k : len - i ≡ suc (len - (i + 1)) = omega arith in
      let one : option_map (λ es. count + length es) (expressions_in (len - i) text rest) ≡ None = rw (k, ← none) refl in
      sym so_far ∙ one

  pub last_expression : (e : Expression) (after : List Token) → Some (e, after) ≡ expression_at text rest → length after ≡ 0 → total ≡ Some (count + 1)
  unfolding expressions_in
  last_expression e after is none =
      let k : len - i ≡ suc (len - (i + 1)) = omega arith in
      let one : option_map (λ es. count + length es) (expressions_in (len - i) text rest) ≡ Some (count + 1) = rw (k, ← is, none) refl in
      sym so_far ∙ one

  pub no_comma : (e : Expression) (after : List Token) → Some (e, after) ≡ expression_at text rest → 0 < length after → None ≡ mark_at text 44 after → total ≡ None
  unfolding expressions_in
  no_comma e after is some none =
      let k : len - i ≡ suc (len - (i + 1)) = omega arith in
      let more : eqb (length after) 0 ≡ false = ne_eqb _ _ (omega arith) in
      let one : option_map (λ es. count + length es) (expressions_in (len - i) text rest) ≡ None = rw (k, ← is, more, ← none) refl in
      sym so_far ∙ one

  pub next_expression : (e : Expression) (after others : List Token) → Some (e, after) ≡ expression_at text rest → 0 < length after → Some others ≡ mark_at text 44 after
      → option_map (λ es. (count + 1) + length es) (expressions_in (len - (i + 1)) text others) ≡ total
  unfolding expressions_in
  next_expression e after others is some comma =
      let k : len - i ≡ suc (len - (i + 1)) = omega arith in
      let more : eqb (length after) 0 ≡ false = ne_eqb _ _ (omega arith) in
      let one : option_map (λ es. count + length es) (expressions_in (len - i) text rest) ≡ option_map (λ es. (count + 1) + length es) (expressions_in (len - (i + 1)) text others) = rw (k, ← is, more, ← comma) (one_more count e (expressions_in (len - (i + 1)) text others)) in
      sym one ∙ so_far

pub too_many : (text : List ℕ) (count i len : ℕ) (rest : List Token) (total : Option ℕ) → len ≤ i → option_map (λ es. count + length es) (expressions_in (len - i) text rest) ≡ total → total ≡ None
unfolding expressions_in
too_many text count i len rest total le so_far =
    let k : len - i ≡ 0 = omega arith in
    let one : option_map (λ es. count + length es) (expressions_in (len - i) text rest) ≡ None = rw k refl in
    sym so_far ∙ one

-- the bytes so far and those of the rest are all
pub record Counts (len : ℕ) (rest : List ℕ) (total : ℕ) : Type 0 where
  pub room : ℕ
  pub enough : length rest ≤ room
  pub is : len + length (unescaped room rest) ≡ total

pub escaped_counts : (len b : ℕ) (bs : List ℕ) (total : ℕ) → b ≡ 92 → Counts len (b ∷ bs) total → Counts (len + 1) (drop (escape_value bs).1 bs) total
unfolding unescaped
escaped_counts len b bs total slash so_far = by so_far.room so_far.enough so_far.is
  where
    by : (room : ℕ) → length (b ∷ bs) ≤ room → len + length (unescaped room (b ∷ bs)) ≡ total → Counts (len + 1) (drop (escape_value bs).1 bs) total
    by zero enough is = absurd (omega arith)
    by (suc room) enough is =
        let one : length (unescaped (suc room) (b ∷ bs)) ≡ suc (length (unescaped room (drop (escape_value bs).1 bs))) = rw slash refl in
        record { room = room; enough = omega (arith, length-drop (escape_value bs).1 bs); is = omega (arith, one, is) }

pub plain_counts : (len b : ℕ) (bs : List ℕ) (total : ℕ) → b ≢ 92 → Counts len (b ∷ bs) total → Counts (len + 1) bs total
unfolding unescaped
plain_counts len b bs total plain so_far = by so_far.room so_far.enough so_far.is
  where
    by : (room : ℕ) → length (b ∷ bs) ≤ room → len + length (unescaped room (b ∷ bs)) ≡ total → Counts (len + 1) bs total
    by zero enough is = absurd (omega arith)
    by (suc room) enough is =
        let one : length (unescaped (suc room) (b ∷ bs)) ≡ suc (length (unescaped room bs)) = rw (ne_eqb _ _ plain) refl in
        record { room = room; enough = omega arith; is = omega (arith, one, is) }

pub done_counts : (len : ℕ) (rest : List ℕ) (total : ℕ) → length rest ≡ 0 → Counts len rest total → len ≡ total
unfolding unescaped
done_counts len [] total none so_far = by so_far.room so_far.is
  where
    by : (room : ℕ) → len + length (unescaped room []) ≡ total → len ≡ total
    by zero is = omega (arith, is)
    by (suc room) is = omega (arith, is)
done_counts len (b ∷ bs) total none so_far = absurd (omega arith)

pub begin_counts : (quoted inside : List ℕ) → inside ≡ take (length quoted - 2) (drop 1 quoted) → length inside ≤ length quoted → Counts 0 inside (length (string_value quoted))
begin_counts quoted inside is le = record { room = length quoted; enough = le; is = rw is (omega arith) }

pub escaped_more : (len : ℕ) (rest : List ℕ) (total : ℕ) → 0 < length rest → get_or rest 0 0 ≡ 92 → Counts len rest total → Counts (len + 1) (drop (escape_value (drop 1 rest)).1 (drop 1 rest)) total
escaped_more len [] total some slash so_far = absurd (omega arith)
escaped_more len (b ∷ bs) total some slash so_far = escaped_counts len b bs total slash so_far

pub plain_more : (len : ℕ) (rest : List ℕ) (total : ℕ) → 0 < length rest → get_or rest 0 0 ≢ 92 → Counts len rest total → Counts (len + 1) (drop 1 rest) total
plain_more len [] total some plain so_far = absurd (omega arith)
plain_more len (b ∷ bs) total some plain so_far = plain_counts len b bs total plain so_far

-- what a slice from n on is
pub cut_at : {X : Type 0} (n : ℕ) (xs : List X) → take (length xs - n) (drop n xs) ≡ drop n xs
cut_at n xs = take_all (length xs - n) (drop n xs) (omega (arith, length-drop n xs))

front_more : (front : List Expression) (e : Expression) (read : Option (List Expression)) → option_map (λ es. front ++ es) (read >>= λ others. Some (e ∷ others)) ≡ option_map (λ es. (front ++ e ∷ []) ++ es) read
front_more front e (Some es) = ap Some (simp append_assoc)
front_more front e None = refl

pub record Lists (text : List ℕ) (front : List Expression) (n : ℕ) (rest : List Token) (total : Option (List Expression)) : Type 0 where
  pub is : option_map (λ es. front ++ es) (expressions_in n text rest) ≡ total

pub begin_list : (text : List ℕ) (front : List Expression) (n : ℕ) (rest : List Token) → front ≡ [] → Lists text front n rest (expressions_in n text rest)
begin_list text front n rest none = record { is = rw none (same (expressions_in n text rest)) }
  where
    same : (r : Option (List Expression)) → option_map (λ (es : List Expression). [] ++ es) r ≡ r
    same (Some es) = refl
    same None = refl

module _ (text : List ℕ) (front : List Expression) (i len : ℕ) (rest : List Token) (total : Option (List Expression)) (lt : i < len) (so_far : Lists text front (len - i) rest total) where
  pub no_item : None ≡ expression_at text rest → [] ≡ expressions_or_none total
  unfolding expressions_in
  no_item none =
      let k : len - i ≡ suc (len - (i + 1)) = omega arith in
      let one : option_map (λ es. front ++ es) (expressions_in (len - i) text rest) ≡ None = rw (k, ← none) refl in
      rw (← so_far.is, one) refl

  pub last_item : (e : Expression) (after : List Token) → Some (e, after) ≡ expression_at text rest → length after ≡ 0 → front ++ e ∷ [] ≡ expressions_or_none total
  unfolding expressions_in
  last_item e after is none =
      let k : len - i ≡ suc (len - (i + 1)) = omega arith in
      let one : option_map (λ es. front ++ es) (expressions_in (len - i) text rest) ≡ Some (front ++ e ∷ []) = rw (k, ← is, none) refl in
      rw (← so_far.is, one) refl

  pub no_separator : (e : Expression) (after : List Token) → Some (e, after) ≡ expression_at text rest → 0 < length after → None ≡ mark_at text 44 after → [] ≡ expressions_or_none total
  unfolding expressions_in
  no_separator e after is some none =
      let k : len - i ≡ suc (len - (i + 1)) = omega arith in
      let more : eqb (length after) 0 ≡ false = ne_eqb _ _ (omega arith) in
      let one : option_map (λ es. front ++ es) (expressions_in (len - i) text rest) ≡ None = rw (k, ← is, more, ← none) refl in
      rw (← so_far.is, one) refl

  pub next_item : (e : Expression) (after others : List Token) → Some (e, after) ≡ expression_at text rest → 0 < length after → Some others ≡ mark_at text 44 after → Lists text (front ++ e ∷ []) (len - (i + 1)) others total
  unfolding expressions_in
  next_item e after others is some comma =
      let k : len - i ≡ suc (len - (i + 1)) = omega arith in
      let more : eqb (length after) 0 ≡ false = ne_eqb _ _ (omega arith) in
      let one : option_map (λ es. front ++ es) (expressions_in (len - i) text rest) ≡ option_map (λ es. (front ++ e ∷ []) ++ es) (expressions_in (len - (i + 1)) text others) = rw (k, ← is, more, ← comma) (front_more front e (expressions_in (len - (i + 1)) text others)) in
      record { is = sym one ∙ so_far.is }

pub no_room : (text : List ℕ) (front : List Expression) (i len : ℕ) (rest : List Token) (total : Option (List Expression)) → len ≤ i → Lists text front (len - i) rest total → [] ≡ expressions_or_none total
unfolding expressions_in
no_room text front i len rest total le so_far =
    let k : len - i ≡ 0 = omega arith in
    let one : option_map (λ es. front ++ es) (expressions_in (len - i) text rest) ≡ None = rw k refl in
    rw (← so_far.is, one) refl

-- the bytes so far and those of the rest are all
pub record Spells (front rest total : List ℕ) : Type 0 where
  pub room : ℕ
  pub enough : length rest ≤ room
  pub is : front ++ unescaped room rest ≡ total

pub escaped_spells : (front rest total : List ℕ) → 0 < length rest → get_or rest 0 0 ≡ 92 → Spells front rest total → Spells (front ++ (escape_value (drop 1 rest)).0 ∷ []) (drop (escape_value (drop 1 rest)).1 (drop 1 rest)) total
unfolding unescaped
escaped_spells front [] total some slash so_far = absurd (omega arith)
escaped_spells front (b ∷ bs) total some slash so_far = by so_far.room so_far.enough so_far.is
  where
    by : (room : ℕ) → length (b ∷ bs) ≤ room → front ++ unescaped room (b ∷ bs) ≡ total → Spells (front ++ (escape_value bs).0 ∷ []) (drop (escape_value bs).1 bs) total
    by zero enough is = absurd (omega arith)
    by (suc room) enough is =
        let one : unescaped (suc room) (b ∷ bs) ≡ (escape_value bs).0 ∷ unescaped room (drop (escape_value bs).1 bs) = rw slash refl in
        record { room = room; enough = omega (arith, length-drop (escape_value bs).1 bs); is = rw append_assoc (ap (λ (xs : List ℕ). front ++ xs) (sym one) ∙ is) }

pub plain_spells : (front rest total : List ℕ) → 0 < length rest → get_or rest 0 0 ≢ 92 → Spells front rest total → Spells (front ++ get_or rest 0 0 ∷ []) (drop 1 rest) total
unfolding unescaped
plain_spells front [] total some plain so_far = absurd (omega arith)
plain_spells front (b ∷ bs) total some plain so_far = by so_far.room so_far.enough so_far.is
  where
    by : (room : ℕ) → length (b ∷ bs) ≤ room → front ++ unescaped room (b ∷ bs) ≡ total → Spells (front ++ b ∷ []) bs total
    by zero enough is = absurd (omega arith)
    by (suc room) enough is =
        let one : unescaped (suc room) (b ∷ bs) ≡ b ∷ unescaped room bs = rw (ne_eqb _ _ plain) refl in
        record { room = room; enough = omega arith; is = rw append_assoc (ap (λ (xs : List ℕ). front ++ xs) (sym one) ∙ is) }

pub done_spells : (front rest total : List ℕ) → length rest ≡ 0 → Spells front rest total → front ≡ total
unfolding unescaped
done_spells front [] total none so_far = by so_far.room so_far.is
  where
    by : (room : ℕ) → front ++ unescaped room [] ≡ total → front ≡ total
    by zero is = sym (append-nil front) ∙ is
    by (suc room) is = sym (append-nil front) ∙ is
done_spells front (b ∷ bs) total none so_far = absurd (omega arith)

pub begin_spells : (front quoted inside : List ℕ) → front ≡ [] → inside ≡ take (length quoted - 2) (drop 1 quoted) → length inside ≤ length quoted → Spells front inside (string_value quoted)
begin_spells front quoted inside none is le = record { room = length quoted; enough = le; is = rw (none, is) refl }
