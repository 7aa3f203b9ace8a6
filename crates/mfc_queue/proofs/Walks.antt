-- Walks over the commands that a queue holds.
use Rattle.std.proofs.Common.{◌≡◌, ℕ, zero, suc, ◌+◌, ◌<◌, ◌≤◌, ◌==◌, not, Bool, true, false, List, [], ◌∷◌, length, map, drop, slice_index_or, arith, refl, sym, ◌∙◌, ap}
use Rattle.std.specs.Prelude.{find, filter, Some, slice_get}
use Rattle.std.proofs.lemmas.Option.{slice_get_read}
use Rattle.std.specs.List.{list_any}
use Rattle.mfc_queue.specs.declared.Held.{Held}

-- the numbers of those from place i on
abbrev pub numbers_from : List Held → ℕ → List ℕ
numbers_from held i = map (λ h. h.cmd) (drop i held)

pub numbers-on : (held : List Held) (i : ℕ) (h : Held) → i < length held → h ≡ slice_index_or held i h → numbers_from held i ≡ h.cmd ∷ numbers_from held (i + 1)
numbers-on [] i h within at = absurd (omega arith)
numbers-on (g ∷ held) zero h within at = ap (λ (x : Held). x.cmd ∷ map (λ h. h.cmd) held) (sym at)
numbers-on (g ∷ held) (suc i) h within at = let e : suc i + 1 ≡ suc (i + 1) = omega arith in numbers-on held i h (omega arith) at ∙ ap (λ k. h.cmd ∷ numbers_from (g ∷ held) k) (sym e)

pub numbers-end : (held : List Held) (i : ℕ) → length held ≤ i → numbers_from held i ≡ []
numbers-end [] zero h = refl
numbers-end [] (suc i) h = refl
numbers-end (g ∷ held) zero h = absurd (omega arith)
numbers-end (g ∷ held) (suc i) h = numbers-end held i (omega arith)

-- a test of the rest, where its first element passes, or fails
pub any-skip : {X : Type 0} (p : X → Bool) (x : X) (all rest rest2 : List X) → list_any p all ≡ list_any p rest → rest ≡ x ∷ rest2 → p x ≡ false → list_any p all ≡ list_any p rest2
any-skip p x all rest rest2 h e off = h ∙ ap (list_any p) e ∙ rw off refl

pub any-found : {X : Type 0} (p : X → Bool) (x : X) (all rest rest2 : List X) → list_any p all ≡ list_any p rest → rest ≡ x ∷ rest2 → p x ≡ true → list_any p all ≡ true
any-found p x all rest rest2 h e on = h ∙ ap (list_any p) e ∙ rw on refl

pub any-end : {X : Type 0} (p : X → Bool) (all rest : List X) → list_any p all ≡ list_any p rest → rest ≡ [] → list_any p all ≡ false
any-end p all rest h e = h ∙ ap (list_any p) e

pub find-found : {X : Type 0} (p : X → Bool) (x : X) (all rest rest2 : List X) → find p all ≡ find p rest → rest ≡ x ∷ rest2 → p x ≡ true → find p all ≡ Some x
find-found p x all rest rest2 h e on = h ∙ ap (find p) e ∙ rw on refl

-- what is held from place i on
pub held-on : (held : List Held) (i : ℕ) (h : Held) → i < length held → h ≡ slice_index_or held i h → drop i held ≡ h ∷ drop (i + 1) held
held-on [] i h within at = absurd (omega arith)
held-on (g ∷ held) zero h within at = ap (λ (x : Held). x ∷ held) (sym at)
held-on (g ∷ held) (suc i) h within at = let e : suc i + 1 ≡ suc (i + 1) = omega arith in held-on held i h (omega arith) at ∙ ap (λ k. h ∷ drop k (g ∷ held)) (sym e)

pub get-at : (held : List Held) (i : ℕ) (h : Held) → i < length held → h ≡ slice_index_or held i h → slice_get held i ≡ Some h
get-at held i h within at = slice_get_read held (length held) i h refl within at

-- all but one number of the rest, where its first one is that, or another
pub filter-skip : (cmd x : ℕ) (rest rest2 : List ℕ) → rest ≡ x ∷ rest2 → (cmd == x) ≡ true → filter (λ k. not (cmd == k)) rest ≡ filter (λ k. not (cmd == k)) rest2
filter-skip cmd x rest rest2 e is = ap (filter (λ k. not (cmd == k))) e ∙ rw is refl

pub filter-keep : (cmd x : ℕ) (rest rest2 : List ℕ) → rest ≡ x ∷ rest2 → (cmd == x) ≡ false → filter (λ k. not (cmd == k)) rest ≡ x ∷ filter (λ k. not (cmd == k)) rest2
filter-keep cmd x rest rest2 e other = ap (filter (λ k. not (cmd == k))) e ∙ rw other refl
