-- The labels in a map are those in a list.
use Rattle.std.proofs.Common.{◌≡◌, ℕ, ◌≤◌, Bool, true, false, cond, List, [], ◌∷◌, ◌++◌, length, drop, get_or, Option, None, Some, Ok, Err, is_some, refl, sym, ap, ◌∙◌, arith}
use Rattle.std.specs.Borrow.{Bor}
use Rattle.std.specs.Map.{lookup}
use Rattle.std.specs.Str.{bytes_eq}
use Rattle.std.proofs.lemmas.List.{map_push}
use Rattle.indexmap.specs.IndexMap.{IndexMap, get, insert_entry}
use Rattle.indexmap.proofs.CallerLemmas.{insert_entry-new}
use Rattle.spu_asm.specs.declared.error.AsmError.TheVariants.{At}
use Rattle.spu_asm.specs.declared.error.AsmKind.TheVariants.{Twice}
use Rattle.spu_lex.specs.declared.Token.{Token}
use Rattle.spu_lex.specs.declared.TokenKind.TheVariants.{Name as Word}
use Rattle.spu_asm.specs.Outcomes.{on_line}
use Rattle.spu_asm.specs.Reading.{word}
use Rattle.spu_asm.specs.Source.{Labels, labels_view, line_of, is_label, labels_of, after_labels, with_label, with_labels}
use Rattle.spu_asm.proofs.OutcomeLemmas.{line_ok}

abbrev pub Name : Type 0
Name = Bor (List ℕ)

abbrev pub same : Name → Name → Bool
same x y = bytes_eq x.now y.now

by_head : (b : Bool) (n : ℕ) (x y : Option ℕ) → x ≡ y → cond b (Some n) x ≡ cond b (Some n) y
by_head true n x y e = refl
by_head false n x y e = e

pub line_of_view : (name : List ℕ) (es : List (Name × ℕ)) → line_of (labels_view es) name ≡ lookup (λ k. bytes_eq name k.now) es
line_of_view name [] = refl
line_of_view name (e ∷ es) = by_head (bytes_eq name e.0.now) e.1 (line_of (labels_view es) name) (lookup (λ k. bytes_eq name k.now) es) (line_of_view name es)

by_test : {A : Type 0} (o : Option ℕ) (b : Bool) (x y : A) → b ≡ is_some o → cond (is_some o) x y ≡ cond b x y
by_test o b x y e = ap (λ (t : Bool). cond t x y) (sym e)

none_is : (o : Option ℕ) → is_some o ≡ false → o ≡ None
none_is None e = refl
none_is (Some n) e = absurd cc

module _ {S : Type 0} (m : IndexMap Name ℕ S) (k : Name) (number : ℕ) where
  pub taken : (old : Option ℕ) → old ≡ get same m k → true ≡ is_some old → on_line number (with_label (labels_view m.entries) number k.now) ≡ Err (At number Twice)
  unfolding with_label
  taken old is some = rw (line_of_view k.now m.entries, ← is, ← some) refl

  pub added : (old : Option ℕ) (after : List (Name × ℕ)) → old ≡ get same m k → is_some old ≡ false → after ≡ insert_entry same m.entries k number
      → on_line number (with_label (labels_view m.entries) number k.now) ≡ Ok (labels_view after)
  unfolding with_label
  added old after is none made =
      let absent : get same m k ≡ None = sym is ∙ none_is old none in
      let pushed : after ≡ m.entries ++ (k, number) ∷ [] = made ∙ insert_entry-new same m k number absent in
      rw (line_of_view k.now m.entries, ← is, none, pushed) (ap Ok (sym (map_push (λ (e : Name × ℕ). (e.0.now, e.1)) m.entries (k, number))))

-- what a read past the end would give
abbrev pub any_token : Token
any_token = record { kind = Word; start = 0; end = 0; line = 0 }

pub after_one : (text : List ℕ) (rest : List Token) → 2 ≤ length rest → true ≡ is_label text (get_or rest 0 any_token) (get_or rest 1 any_token) → after_labels text (drop 2 rest) ≡ after_labels text rest
unfolding after_labels
after_one text [] some is = absurd (omega arith)
after_one text (t ∷ []) some is = absurd (omega arith)
after_one text (t ∷ u ∷ ts) some is = rw (← is) refl

pub add_one : (text : List ℕ) (rest : List Token) (labels more : Labels) (number : ℕ) → 2 ≤ length rest → true ≡ is_label text (get_or rest 0 any_token) (get_or rest 1 any_token)
    → on_line number (with_label labels number (word text (get_or rest 0 any_token))) ≡ Ok more
    → with_labels more number (labels_of text (drop 2 rest)) ≡ with_labels labels number (labels_of text rest)
unfolding labels_of with_labels
add_one text [] labels more number some is added = absurd (omega arith)
add_one text (t ∷ []) labels more number some is added = absurd (omega arith)
add_one text (t ∷ u ∷ ts) labels more number some is added = rw (← is, line_ok number (with_label labels number (word text t)) more added) refl
