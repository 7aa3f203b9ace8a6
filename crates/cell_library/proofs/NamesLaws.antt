-- Names that none of the files before has.
use Rattle.std.proofs.Common.{◌≡◌, ℕ, ◌+◌, ◌<◌, length, get_or, drop, drop-cons, add-one, Bool, true, false, not, ◌&&◌, ◌||◌, List, [], ◌∷◌, ◌++◌, map, refl, sym, ap, true≢false, ◌∙◌}
use Rattle.std.specs.Prelude.{find, is_none, Some, if◌then◌else◌}
use Rattle.std.specs.Borrow.{Bor}
use Rattle.std.specs.List.{list_any, list_all}
use Rattle.std.specs.Str.{bytes_eq}
use Rattle.std.proofs.lemmas.List.{map_push}
use Rattle.std.proofs.lemmas.List.Folds.{list_any-append}
use Rattle.cell_io.specs.Files.{File, are_different, is_called}

-- whether a file has one of the names
abbrev pub is_among : List (List ℕ) → List ℕ → Bool
is_among names name = list_any (λ n. bytes_eq name n) names

-- whether no file has one of the names or the name of an earlier file
abbrev pub are_new : List (List ℕ) → List File → Bool
are_new names [] = true
are_new names (file ∷ files) = not (is_among names file.name) && are_new (names ++ file.name ∷ []) files

abbrev none_among : List (List ℕ) → List File → Bool
none_among names files = list_all (λ (f : File). not (is_among names f.name)) files

no_more : (a b : Bool) → (a || (b || false)) ≡ (a || b)
no_more true b = refl
no_more false true = refl
no_more false false = refl

among_more : (names : List (List ℕ)) (name other : List ℕ) → is_among (names ++ name ∷ []) other ≡ (is_among names other || bytes_eq other name)
among_more names name other = list_any-append (λ n. bytes_eq other n) names (name ∷ []) ∙ no_more (is_among names other) (bytes_eq other name)

four : (a b c d : Bool) → (not (a || b) && (c && d)) ≡ ((not a && c) && (not b && d))
four true b c d = refl
four false true true d = refl
four false true false d = refl
four false false c d = refl

none_more : (names : List (List ℕ)) (name : List ℕ) (files : List File) → none_among (names ++ name ∷ []) files ≡ (none_among names files && is_none (find (is_called name) files))
none_more names name [] = refl
none_more names name (file ∷ files) =
    ap (λ b. not b && none_among (names ++ name ∷ []) files) (among_more names name file.name)
    ∙ ap (λ b. not (is_among names file.name || bytes_eq file.name name) && b) (none_more names name files)
    ∙ four (is_among names file.name) (bytes_eq file.name name) (none_among names files) (is_none (find (is_called name) files))
    ∙ ap (λ b. (not (is_among names file.name) && none_among names files) && b) (by (bytes_eq file.name name))
  where
    by : (b : Bool) → (not b && is_none (find (is_called name) files)) ≡ is_none (if b then Some file else find (is_called name) files)
    by true = refl
    by false = refl

turned : (a b c d : Bool) → (a && ((b && c) && d)) ≡ ((a && b) && (c && d))
turned false b c d = refl
turned true false c d = refl
turned true true c d = refl

new_is : (names : List (List ℕ)) (files : List File) → are_new names files ≡ (none_among names files && are_different files)
new_is names [] = refl
new_is names (file ∷ files) =
    ap (λ b. not (is_among names file.name) && b) (new_is (names ++ file.name ∷ []) files)
    ∙ ap (λ b. not (is_among names file.name) && (b && are_different files)) (none_more names file.name files)
    ∙ turned (not (is_among names file.name)) (none_among names files) (is_none (find (is_called file.name) files)) (are_different files)

none_of_none : (files : List File) → none_among [] files ≡ true
none_of_none [] = refl
none_of_none (file ∷ files) = none_of_none files

pub all_new : (files : List File) → are_new [] files ≡ are_different files
all_new files = new_is [] files ∙ ap (λ b. b && are_different files) (none_of_none files)

-- ---- names by references

-- a set of names has one exactly if it is among them
among_names : (name : Bor (List ℕ)) (names : List (Bor (List ℕ))) → list_any (λ n. bytes_eq name.now n.now) names ≡ is_among (map (λ n. n.now) names) name.now
among_names name [] = refl
among_names name (n ∷ names) = ap (λ b. bytes_eq name.now n.now || b) (among_names name names)

-- the file at a place, of those that are left
left_at : (files : List File) (i : ℕ) (file : File) → i < length files → file ≡ get_or files i file → drop i files ≡ file ∷ drop (i + 1) files
left_at files i file inside is = rw add-one (drop-cons files i file inside) ∙ ap (λ f. f ∷ drop (i + 1) files) (sym is)

-- one that has a name of these, or none of them
pub found : (files : List File) (names : List (Bor (List ℕ))) (i : ℕ) (file : File) (name : Bor (List ℕ)) (all : Bool) → i < length files → file ≡ get_or files i file → name.now ≡ file.name
    → are_new (map (λ n. n.now) names) (drop i files) ≡ all → list_any (λ n. bytes_eq name.now n.now) names ≡ true → false ≡ all
found files names i file name all inside is called so_far has =
    let among : is_among (map (λ n. n.now) names) file.name ≡ true = ap (is_among (map (λ n. n.now) names)) (sym called) ∙ sym (among_names name names) ∙ has in
    let here : are_new (map (λ n. n.now) names) (file ∷ drop (i + 1) files) ≡ false = rw among refl in
    sym here ∙ ap (are_new (map (λ n. n.now) names)) (sym (left_at files i file inside is)) ∙ so_far

pub not_found : (files : List File) (names : List (Bor (List ℕ))) (i : ℕ) (file : File) (name : Bor (List ℕ)) (all : Bool) → i < length files → file ≡ get_or files i file → name.now ≡ file.name
    → are_new (map (λ n. n.now) names) (drop i files) ≡ all → list_any (λ n. bytes_eq name.now n.now) names ≡ false → are_new (map (λ n. n.now) (names ++ name ∷ [])) (drop (i + 1) files) ≡ all
not_found files names i file name all inside is called so_far none =
    let among : is_among (map (λ n. n.now) names) file.name ≡ false = ap (is_among (map (λ n. n.now) names)) (sym called) ∙ sym (among_names name names) ∙ none in
    let more : map (λ n. n.now) (names ++ name ∷ []) ≡ map (λ n. n.now) names ++ file.name ∷ [] = map_push (λ n. n.now) names name ∙ ap (λ n. map (λ n. n.now) names ++ n ∷ []) called in
    let here : are_new (map (λ n. n.now) names) (file ∷ drop (i + 1) files) ≡ are_new (map (λ n. n.now) names ++ file.name ∷ []) (drop (i + 1) files) = rw among refl in
    ap (λ ns. are_new ns (drop (i + 1) files)) more ∙ sym here ∙ ap (are_new (map (λ n. n.now) names)) (sym (left_at files i file inside is)) ∙ so_far

-- ---- what was added to a set

pub was_there : (added has : Bool) → added ≡ not has → added ≡ false → has ≡ true
was_there added true is false_ = refl
was_there added false is false_ = absurd (true≢false (sym is ∙ false_))

pub was_new : (added has : Bool) → added ≡ not has → added ≡ true → has ≡ false
was_new added true is true_ = absurd (true≢false (sym true_ ∙ is))
was_new added false is true_ = refl

pub with_new : (names keys : List (Bor (List ℕ))) (name : Bor (List ℕ)) (has : Bool) → has ≡ false → keys ≡ (if has then names else names ++ name ∷ []) → keys ≡ names ++ name ∷ []
with_new names keys name true none is = absurd (true≢false none)
with_new names keys name false none is = is
