-- A setup as it is made.
use Rattle.std.proofs.Common.{◌≡◌, ◌≤◌, ◌<◌, ◌+◌, ℕ, length, List, [], ◌∷◌, ◌++◌, fold, slice_set, Option, Some, None, sym, ap, subst, ◌∙◌, arith}
use Rattle.std.specs.Prelude.{All, IfSome}
use Rattle.std.specs.Option.{option_to_list}
use Rattle.std.proofs.lemmas.List.{append_assoc, length-append}
use Rattle.std.proofs.lemmas.List.FromFn.{get_or-map-range_with_len, length-map-range_with_len, map-range_with_len_more}
use Rattle.std.proofs.lemmas.List.Sums.{fold-append}
use Rattle.std.proofs.Math.Seq.{set-append_seam}
use Rattle.cell_host.specs.declared.HostAction.{HostAction}
use Rattle.cell_machine.specs.Opening.{InMemory, Opening, Placed}
use Rattle.cell_machine.specs.declared.setup.Show.{Show}
use Rattle.cell_machine.specs.Limits.{FitsAction, FitsShow, MayAct, MayShow}
use Rattle.cell_load.specs.Loaded.{Load, start_of, starts_of, with_register}

pub added_spe : (S T U : Opening) (n at : ℕ) → n ≡ length S.entries → T ≡ record S { entries = S.entries ++ 0 ∷ [] } → U ≡ record T { entries = slice_set T.entries n at } → U ≡ record S { entries = S.entries ++ at ∷ [] }
added_spe S T U n at here first next =
    next ∙ ap (λ (V : Opening). record V { entries = slice_set V.entries n at }) first
    ∙ ap (λ es. record S { entries = es }) (ap (λ k. slice_set (S.entries ++ 0 ∷ []) k at) here ∙ set-append_seam S.entries 0 [] at)

pub next_start : (S T U : Opening) (loads : List Load) (n : ℕ) → T ≡ record S { entries = starts_of loads n } → U ≡ record T { entries = T.entries ++ start_of loads n ∷ [] } → U ≡ record S { entries = starts_of loads (n + 1) }
next_start S T U loads n so_far next =
    next ∙ ap (λ (V : Opening). record V { entries = V.entries ++ start_of loads n ∷ [] }) so_far
    ∙ ap (λ es. record S { entries = es }) (sym (map-range_with_len_more (start_of loads) 0 n n (omega arith)))

pub starts-length : (loads : List Load) (n : ℕ) → length (starts_of loads n) ≡ n
starts-length loads n = length-map-range_with_len (start_of loads) 0 n

pub start_at : (P : ℕ → Type 0) (loads : List Load) (n k : ℕ) → All P (starts_of loads n) → k < n → P (start_of loads k)
start_at P loads n k all within =
    let long : k < length (starts_of loads n) = omega (arith, starts-length loads n) in
    subst P (get_or-map-range_with_len (start_of loads) 0 n k k 0 within (omega arith)) (all k 0 long)

pub next_placed : (S T U : Opening) (front more all : List Placed) → T ≡ record S { placed = S.placed ++ front } → U ≡ record T { placed = T.placed ++ more } → all ≡ front ++ more → U ≡ record S { placed = S.placed ++ all }
next_placed S T U front more all so_far next is =
    next ∙ ap (λ (V : Opening). record V { placed = V.placed ++ more }) so_far
    ∙ ap (λ ps. record S { placed = ps }) (append_assoc S.placed front more ∙ ap (λ ps. S.placed ++ ps) (sym is))

pub next_filled : (S T U : Opening) (front more all : List InMemory) → T ≡ record S { memory = S.memory ++ front } → U ≡ record T { memory = T.memory ++ more } → all ≡ front ++ more → U ≡ record S { memory = S.memory ++ all }
next_filled S T U front more all so_far next is =
    next ∙ ap (λ (V : Opening). record V { memory = V.memory ++ more }) so_far
    ∙ ap (λ ps. record S { memory = ps }) (append_assoc S.memory front more ∙ ap (λ ps. S.memory ++ ps) (sym is))

pub next_acted : (S T U : Opening) (front more all : List HostAction) → T ≡ record S { actions = S.actions ++ front } → U ≡ record T { actions = T.actions ++ more } → all ≡ front ++ more → U ≡ record S { actions = S.actions ++ all }
next_acted S T U front more all so_far next is =
    next ∙ ap (λ (V : Opening). record V { actions = V.actions ++ more }) so_far
    ∙ ap (λ ps. record S { actions = ps }) (append_assoc S.actions front more ∙ ap (λ ps. S.actions ++ ps) (sym is))

pub next_shown : (S T U : Opening) (front more all : List Show) → T ≡ record S { shows = S.shows ++ front } → U ≡ record T { shows = T.shows ++ more } → all ≡ front ++ more → U ≡ record S { shows = S.shows ++ all }
next_shown S T U front more all so_far next is =
    next ∙ ap (λ (V : Opening). record V { shows = V.shows ++ more }) so_far
    ∙ ap (λ ps. record S { shows = ps }) (append_assoc S.shows front more ∙ ap (λ ps. S.shows ++ ps) (sym is))

-- one more register is in OR mode
pub next_moded : (S T U : Opening) (front more all : List (ℕ × ℕ)) → T ≡ record S { or_modes = fold with_register S.or_modes front } → U ≡ record T { or_modes = fold with_register T.or_modes more } → all ≡ front ++ more → U ≡ record S { or_modes = fold with_register S.or_modes all }
next_moded S T U front more all so_far next is =
    next ∙ ap (λ (V : Opening). record V { or_modes = fold with_register V.or_modes more }) so_far
    ∙ ap (λ bits. record S { or_modes = bits }) (sym (fold-append with_register S.or_modes front more) ∙ ap (fold with_register S.or_modes) (sym is))

-- one more range may be shown
pub may_show : (S T : Opening) (front : List Show) (o : Option Show) (most : ℕ) → T ≡ record S { shows = S.shows ++ front } → length (front ++ option_to_list o) ≤ most → length S.shows + most ≤ 64 → IfSome o (FitsShow S.lines (length S.entries)) → IfSome o (MayShow T)
may_show S T front None most is few room fits = tt
may_show S T front (Some s) most is few room fits =
    let long : length (front ++ s ∷ []) ≡ length front + 1 = length-append front (s ∷ []) in
    let all : length (S.shows ++ front) ≡ length S.shows + length front = length-append S.shows front in
    subst (λ (V : Opening). MayShow V s) (sym is) (omega (arith, few, long, all), fits)

-- one more action may be done
pub may_act : (S T : Opening) (front : List HostAction) (o : Option HostAction) (most : ℕ) → T ≡ record S { actions = S.actions ++ front } → length (front ++ option_to_list o) ≤ most → length S.actions + most ≤ 4096 → IfSome o (FitsAction S.lines (length S.entries)) → IfSome o (MayAct T)
may_act S T front None most is few room fits = tt
may_act S T front (Some a) most is few room fits =
    let long : length (front ++ a ∷ []) ≡ length front + 1 = length-append front (a ∷ []) in
    let all : length (S.actions ++ front) ≡ length S.actions + length front = length-append S.actions front in
    subst (λ (V : Opening). MayAct V a) (sym is) (omega (arith, few, long, all), fits)
