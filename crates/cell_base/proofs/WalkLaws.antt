-- Walking over the lines of a text, as a loop does.
use Rattle.std.proofs.Common.{◌≡◌, ℕ, suc, ◌+◌, List, [], ◌∷◌, ◌++◌, length, Option, Some, None, Result, Ok, Err, refl, sym, ap, subst, ◌∙◌, append_assoc, arith}
use Rattle.std.proofs.lemmas.List.{append-nil}
use Rattle.cell_base.specs.Walk.{LineStep, with_item, follow, at_end, walk, state_after, items_of, Leads, Faults, IsFirstFault}

-- what was read before, and what is still read
abbrev pub with_front : {X F : Type 0} → List X → Result (List X) (ℕ × F) → Result (List X) (ℕ × F)
with_front front (Ok xs) = Ok (front ++ xs)
with_front front (Err e) = Err e

regroup : {X F : Type 0} (front : List X) (x : X) (read : Result (List X) (ℕ × F)) → with_front front (with_item x read) ≡ with_front (front ++ x ∷ []) read
regroup {X} {F} front x (Ok xs) = let done : List X → Result (List X) (ℕ × F) = λ v. Ok v in ap done (sym (append_assoc front (x ∷ []) xs))
regroup front x (Err e) = refl

pub walk_item : {S X F : Type 0} (step : LineStep S X F) (lacks : S → Option F) (front : List X) (k : ℕ) (s : S) (lines : List (List ℕ)) (line : List ℕ) (more : List (List ℕ)) (x : X) (t : S) (total : Result (List X) (ℕ × F))
    → lines ≡ line ∷ more → step s line ≡ Ok (Some (x, t)) → with_front front (walk step lacks k s lines) ≡ total → with_front (front ++ x ∷ []) (walk step lacks (k + 1) t more) ≡ total
unfolding walk
walk_item step lacks front k s lines line more x t total cut is so_far =
    let one : suc k ≡ k + 1 = omega arith in
    let here : with_front front (walk step lacks k s lines) ≡ with_front (front ++ x ∷ []) (walk step lacks (suc k) t more) = rw (cut, is) (regroup front x (walk step lacks (suc k) t more)) in
    subst (λ (n : ℕ). with_front (front ++ x ∷ []) (walk step lacks n t more) ≡ total) one (sym here ∙ so_far)

pub walk_skip : {S X F : Type 0} (step : LineStep S X F) (lacks : S → Option F) (front : List X) (k : ℕ) (s : S) (lines : List (List ℕ)) (line : List ℕ) (more : List (List ℕ)) (total : Result (List X) (ℕ × F))
    → lines ≡ line ∷ more → step s line ≡ Ok None → with_front front (walk step lacks k s lines) ≡ total → with_front front (walk step lacks (k + 1) s more) ≡ total
unfolding walk
walk_skip step lacks front k s lines line more total cut is so_far =
    let one : suc k ≡ k + 1 = omega arith in
    let here : with_front front (walk step lacks k s lines) ≡ with_front front (walk step lacks (suc k) s more) = rw (cut, is) refl in
    subst (λ (n : ℕ). with_front front (walk step lacks n s more) ≡ total) one (sym here ∙ so_far)

-- a line that has its place
pub walk_on : {S X F : Type 0} (step : LineStep S X F) (lacks : S → Option F) (front : List X) (k : ℕ) (s : S) (lines : List (List ℕ)) (line : List ℕ) (more : List (List ℕ)) (done : Option (X × S)) (total : Result (List X) (ℕ × F))
    → lines ≡ line ∷ more → step s line ≡ Ok done → with_front front (walk step lacks k s lines) ≡ total → with_front (front ++ items_of done) (walk step lacks (k + 1) (state_after s done) more) ≡ total
walk_on step lacks front k s lines line more None total cut is so_far =
    rw (append-nil front) (walk_skip step lacks front k s lines line more total cut is so_far)
walk_on step lacks front k s lines line more (Some x) total cut is so_far = walk_item step lacks front k s lines line more x.0 x.1 total cut is so_far

pub walk_fault : {S X F : Type 0} (step : LineStep S X F) (lacks : S → Option F) (front : List X) (k : ℕ) (s : S) (lines : List (List ℕ)) (line : List ℕ) (more : List (List ℕ)) (e : F) (total : Result (List X) (ℕ × F))
    → lines ≡ line ∷ more → step s line ≡ Err e → with_front front (walk step lacks k s lines) ≡ total → total ≡ Err (k, e)
unfolding walk
walk_fault step lacks front k s lines line more e total cut is so_far =
    let here : with_front front (walk step lacks k s lines) ≡ Err (k, e) = rw (cut, is) refl in
    sym so_far ∙ here

pub walk_end : {S X F : Type 0} (step : LineStep S X F) (lacks : S → Option F) (front : List X) (k : ℕ) (s : S) (lines : List (List ℕ)) (total : Result (List X) (ℕ × F))
    → lines ≡ [] → with_front front (walk step lacks k s lines) ≡ total → total ≡ with_front front (at_end k (lacks s))
unfolding walk
walk_end step lacks front k s lines total none so_far =
    let here : with_front front (walk step lacks k s lines) ≡ with_front front (at_end k (lacks s)) = rw none refl in
    sym so_far ∙ here

-- ---- the fault is the first one

abbrev From : {S X F : Type 0} → LineStep S X F → (S → Option F) → ℕ → S → List (List ℕ) → ℕ → F → Type 0
From {S} step lacks k s lines n e = (before rest : List (List ℕ)) × (t : S) × (lines ≡ before ++ rest) × (n ≡ length before + k) × Leads step s before t × Faults step lacks t rest e

pub walk_first : {S X F : Type 0} (step : LineStep S X F) (lacks : S → Option F) (k : ℕ) (s : S) (lines : List (List ℕ)) (n : ℕ) (e : F) → walk step lacks k s lines ≡ Err (n, e) → From step lacks k s lines n e
unfolding walk
walk_first {S} {X} {F} step lacks k s [] n e is = by_end (lacks s) refl is
  where
    by_end : (o : Option F) → lacks s ≡ o → at_end {X = X} k o ≡ Err (n, e) → From step lacks k s [] n e
    by_end None o is = absurd cc
    by_end (Some f) o is =
        let same : ◌≡◌ {A = ℕ × F} (k, f) (n, e) = cc in
        let number : n ≡ 0 + k = omega (arith, ap (λ (p : ℕ × F). p.0) same) in
        let why : lacks s ≡ Some e = o ∙ ap (λ (p : ℕ × F). Some p.1) same in
        ([], [], s, refl, number, refl, why)
walk_first {S} {X} {F} step lacks k s (line ∷ lines) n e is = by_step (λ t h. walk_first step lacks (suc k) t lines n e h) (step s line) refl is
  where
    later : (done : Option (X × S)) → step s line ≡ Ok done → From step lacks (suc k) (state_after s done) lines n e → From step lacks k s (line ∷ lines) n e
    later done o more =
        let number : n ≡ suc (length more.0) + k = omega (arith, more.4) in
        (line ∷ more.0, more.1, more.2, ap (λ (ls : List (List ℕ)). line ∷ ls) more.3, number, (done, o, more.5), more.6)

    item_err : (x : X) (read : Result (List X) (ℕ × F)) → with_item x read ≡ Err (n, e) → read ≡ Err (n, e)
    item_err x (Ok xs) is = absurd cc
    item_err x (Err f) is = cc

    by_step : ((t : S) → walk step lacks (suc k) t lines ≡ Err (n, e) → From step lacks (suc k) t lines n e) → (o : Result (Option (X × S)) F) → step s line ≡ o → follow k s (λ t. walk step lacks (suc k) t lines) o ≡ Err (n, e) → From step lacks k s (line ∷ lines) n e
    by_step go (Ok None) o is = later None o (go s is)
    by_step go (Ok (Some x)) o is = later (Some x) o (go x.1 (item_err x.0 (walk step lacks (suc k) x.1 lines) is))
    by_step go (Err f) o is =
        let same : ◌≡◌ {A = ℕ × F} (k, f) (n, e) = cc in
        let number : n ≡ 0 + k = omega (arith, ap (λ (p : ℕ × F). p.0) same) in
        ([], line ∷ lines, s, refl, number, refl, o ∙ ap (λ (p : ℕ × F). Err p.1) same)

pub walk_is_first : {S X F : Type 0} (step : LineStep S X F) (lacks : S → Option F) (s : S) (lines : List (List ℕ)) (n : ℕ) (e : F) → walk step lacks 1 s lines ≡ Err (n, e) → IsFirstFault step lacks s lines n e
walk_is_first step lacks s lines n e is =
    let f = walk_first step lacks 1 s lines n e is in
    record { before = f.0; rest = f.1; state = f.2; parts = f.3; counted = f.4; leads = f.5; faults = f.6 }
