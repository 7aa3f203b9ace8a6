-- The actors of a machine by their numbers, and workers seated one by one.
use Rattle.std.proofs.Common.{◌≡◌, ℕ, zero, suc, ◌+◌, ◌*◌, ◌<◌, ◌≤◌, List, [], ◌∷◌, ◌++◌, length, Some, map, take, slice_get, refl, sym, ap, ◌∙◌, arith, length-append, zero-add}
use Rattle.std.specs.List.{range_with_len}
use Rattle.std.proofs.lemmas.List.FromFn.{length-map-range_with_len}
use Rattle.cell_base.specs.declared.steps.Actor.{Actor}
use Rattle.cell_base.specs.declared.steps.Actor.TheVariants.{Spu, Mfc, Host}
use Rattle.spe_workers.specs.declared.worker.Worker.{Worker}
use Rattle.spe_workers.specs.Seated.{actors_of, AreSeated}

module _ {A : Type 0} where
  get_front : (xs ys : List A) (n : ℕ) → n < length xs → slice_get (xs ++ ys) n ≡ slice_get xs n
  get_front [] ys n h = absurd (omega arith)
  get_front (x ∷ xs) ys zero h = refl
  get_front (x ∷ xs) ys (suc n) h = get_front xs ys n (omega arith)

  get_behind : (xs ys : List A) (n k : ℕ) → n ≡ length xs + k → slice_get (xs ++ ys) n ≡ slice_get ys k
  get_behind [] ys n k e = ap (slice_get ys) (e ∙ zero-add k)
  get_behind (x ∷ xs) ys zero k e = absurd (omega arith)
  get_behind (x ∷ xs) ys (suc n) k e = get_behind xs ys n k (omega arith)

  take_one : (xs : List A) (n : ℕ) (x : A) → slice_get xs n ≡ Some x → take (suc n) xs ≡ take n xs ++ x ∷ []
  take_one [] n x h = absurd (cc)
  take_one (y ∷ xs) zero x h = cc
  take_one (y ∷ xs) (suc n) x h = ap (λ l. y ∷ l) (take_one xs n x h)

  take_all : (xs : List A) (n : ℕ) → length xs ≤ n → take n xs ≡ xs
  take_all [] zero h = refl
  take_all [] (suc n) h = refl
  take_all (x ∷ xs) zero h = absurd (omega arith)
  take_all (x ∷ xs) (suc n) h = ap (λ l. x ∷ l) (take_all xs n (omega arith))

map_more : {A : Type 0} (f : Worker → A) (xs : List Worker) (w : Worker) → map f (xs ++ w ∷ []) ≡ map f xs ++ f w ∷ []
map_more f [] w = refl
map_more f (x ∷ xs) w = ap (λ l. f x ∷ l) (map_more f xs w)

range_more : (a n k : ℕ) → k ≡ a + n → range_with_len a (suc n) ≡ range_with_len a n ++ k ∷ []
range_more a zero k e = ap (λ (i : ℕ). i ∷ []) (omega arith)
range_more a (suc n) k e = ap (λ l. a ∷ l) (range_more (a + 1) n k (omega arith))

get_range : (f : ℕ → Actor) (a n k i : ℕ) → k < n → i ≡ a + k → slice_get (map f (range_with_len a n)) k ≡ Some (f i)
get_range f a zero k i h e = absurd (omega arith)
get_range f a (suc n) zero i h e = ap (λ j. Some (f j)) (omega arith)
get_range f a (suc n) (suc k) i h e = get_range f (a + 1) n k i (omega arith) (omega arith)

-- the processors, and their flow controllers
abbrev spus : ℕ → List Actor
spus spes = map Spu (range_with_len 0 spes)

abbrev mfcs : ℕ → List Actor
mfcs spes = map Mfc (range_with_len 0 spes)

counted : (spes : ℕ) → (length (spus spes) ≡ spes) × (length (spus spes ++ mfcs spes) ≡ 2 * spes)
counted spes =
    let a = length-map-range_with_len Spu 0 spes in
    let b = length-map-range_with_len Mfc 0 spes in
    let c = length-append (spus spes) (mfcs spes) in
    (a, omega arith)

pub spu_at : (spes n : ℕ) → n < spes → slice_get (actors_of spes) n ≡ Some (Spu n)
spu_at spes n h =
    let c = counted spes in
    get_front (spus spes ++ mfcs spes) (Host ∷ []) n (omega arith) ∙ get_front (spus spes) (mfcs spes) n (omega arith) ∙ get_range Spu 0 spes n n h (omega arith)

pub mfc_at : (spes n k : ℕ) → k < spes → n ≡ spes + k → slice_get (actors_of spes) n ≡ Some (Mfc k)
mfc_at spes n k h e =
    let c = counted spes in
    get_front (spus spes ++ mfcs spes) (Host ∷ []) n (omega arith) ∙ get_behind (spus spes) (mfcs spes) n k (omega arith) ∙ get_range Mfc 0 spes k k h (omega arith)

pub host_at : (spes n : ℕ) → n ≡ 2 * spes → slice_get (actors_of spes) n ≡ Some Host
host_at spes n e =
    let c = counted spes in get_behind (spus spes ++ mfcs spes) (Host ∷ []) n 0 (omega arith)

pub length-actors_of : (spes : ℕ) → length (actors_of spes) ≡ 2 * spes + 1
length-actors_of spes = let c = counted spes in let a = length-append (spus spes ++ mfcs spes) (Host ∷ []) in omega arith

-- so many workers have the first actors, and are numbered from 0
pub record SeatedSoFar (spes count : ℕ) (workers : List Worker) : Type 0 where
  pub actors : map (λ w. w.actor) workers ≡ take count (actors_of spes)
  pub numbers : map (λ w. w.number) workers ≡ range_with_len 0 count

pub seats_more : (spes n : ℕ) (xs ys : List Worker) (w : Worker) → SeatedSoFar spes n xs → ys ≡ xs ++ w ∷ [] → slice_get (actors_of spes) n ≡ Some w.actor → w.number ≡ n → SeatedSoFar spes (n + 1) ys
seats_more spes n xs ys w h e actor number =
    let more : suc n ≡ n + 1 = omega arith in record {
      actors = ap (map (λ (v : Worker). v.actor)) e ∙ map_more (λ v. v.actor) xs w ∙ ap (λ l. l ++ w.actor ∷ []) h.actors ∙ sym (take_one (actors_of spes) n w.actor actor) ∙ ap (λ k. take k (actors_of spes)) more;
      numbers = ap (map (λ (v : Worker). v.number)) e ∙ map_more (λ v. v.number) xs w ∙ ap (λ l. l ++ w.number ∷ []) h.numbers ∙ sym (range_more 0 n w.number (omega arith)) ∙ ap (range_with_len 0) more;
    }

pub seated : (spes n : ℕ) (xs : List Worker) → n ≡ 2 * spes + 1 → length xs ≡ n → SeatedSoFar spes n xs → AreSeated spes xs
seated spes n xs e count h = record {
  actors = h.actors ∙ take_all (actors_of spes) n (let a = length-actors_of spes in omega arith);
  numbers = h.numbers ∙ ap (range_with_len 0) (sym count);
}
