-- What is left of a list of words from a place on.
use Rattle.std.proofs.Common.{◌≡◌, ℕ, ◌+◌, ◌<◌, Bool, true, false, List, [], ◌∷◌, ◌++◌, length, map, get_or, drop, ap, sym, refl, ◌∙◌, arith, add-one, drop-cons, append_assoc}
use Rattle.std.specs.Prelude.{codes}
use Rattle.hunt_command.specs.Heard.{is_word}
use Rattle.hunt_command.specs.Words.{asks_help}
use Rattle.std.proofs.lemmas.List.{drop_all, append-nil}
use Rattle.std.proofs.Math.ListN.{get_or-map, length-map}

-- what is left from a place on begins with the word there
pub first_left : {A : Type 0} (f : A → List ℕ) (xs : List A) (at : ℕ) (x : A) → at < length xs → x ≡ get_or xs at x → drop at (map f xs) ≡ f x ∷ drop (at + 1) (map f xs)
first_left f xs at x h is =
    let within : at < length (map f xs) = rw length-map h in
    let here : get_or (map f xs) at (f x) ≡ f x = get_or-map f xs at x ∙ ap f (sym is) in
    let first : drop at (map f xs) ≡ get_or (map f xs) at (f x) ∷ drop (at + 1) (map f xs) = rw add-one (drop-cons (map f xs) at (f x) within) in
    first ∙ ap (λ y. y ∷ drop (at + 1) (map f xs)) here

pub none_left : {A : Type 0} (f : A → List ℕ) (xs : List A) (at : ℕ) → length xs ≡ at → drop at (map f xs) ≡ []
none_left f xs at e = drop_all at (map f xs) (rw length-map (omega (arith, e)))

pub helps : (word : List ℕ) (words left : List (List ℕ)) (whole : Bool) → left ≡ word ∷ words → is_word word (codes "--help") ≡ true → asks_help left ≡ whole → whole ≡ true
helps word words left whole is asks same = sym same ∙ ap asks_help is ∙ rw asks refl

pub no_help : (word : List ℕ) (words left : List (List ℕ)) (whole : Bool) → left ≡ word ∷ words → is_word word (codes "--help") ≡ false → asks_help left ≡ whole → asks_help words ≡ whole
no_help word words left whole is doesnt same = (let e : asks_help (word ∷ words) ≡ asks_help words = rw doesnt refl in sym e) ∙ ap asks_help (sym is) ∙ same

-- one more of them is done, in front of what is left
pub left_on : {A : Type 0} (f : A → List ℕ) (xs : List A) (at : ℕ) (d : A) (front : List (List ℕ)) (y : List ℕ) (all : List (List ℕ)) → at < length xs → y ≡ f (get_or xs at d) → front ++ drop at (map f xs) ≡ all → (front ++ y ∷ []) ++ drop (at + 1) (map f xs) ≡ all
left_on f xs at d front y all inside is same =
    let within : at < length (map f xs) = rw length-map inside in
    let first : drop at (map f xs) ≡ get_or (map f xs) at (f d) ∷ drop (at + 1) (map f xs) = rw add-one (drop-cons (map f xs) at (f d) within) in
    append_assoc front (y ∷ []) (drop (at + 1) (map f xs))
    ∙ ap (λ (l : List (List ℕ)). front ++ l) (ap (λ z. z ∷ drop (at + 1) (map f xs)) (is ∙ sym (get_or-map f xs at d)) ∙ sym first)
    ∙ same

pub all_done : {A : Type 0} (f : A → List ℕ) (xs : List A) (at : ℕ) (front all : List (List ℕ)) → length xs ≡ at → front ++ drop at (map f xs) ≡ all → front ≡ all
all_done f xs at front all e same = sym (append-nil front) ∙ ap (λ (l : List (List ℕ)). front ++ l) (sym (none_left f xs at e)) ∙ same
