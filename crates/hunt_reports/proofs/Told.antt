-- The data races of a run, and the same with one more.
use Rattle.std.proofs.Common.{◌≡◌, ℕ, ◌+◌, ◌<◌, take, get_or, Bool, true, false, not, ◌||◌, List, [], ◌∷◌, ◌++◌, length, map, codes, refl, sym, ap, ◌∙◌, append-nil, if◌then◌else◌}
use Rattle.std.specs.Str.{bytes_eq}
use Rattle.std.proofs.lemmas.Slice.Eq.{bytes_eq-Decides}
use Rattle.std.proofs.lemmas.List.{map_push, take_more}
use Rattle.std.proofs.lemmas.List.Folds.{list_any-append}
use Rattle.cell_hunt.specs.declared.racing.Racing.{Racing}
use Rattle.hunt_tally.specs.Tallies.{Tells, has, firsts, distinct}
use Rattle.hunt_reports.specs.declared.origins.Places.{Places}
use Rattle.hunt_reports.specs.Places.{sites_text, key_of}
use Rattle.hunt_reports.specs.RaceLines.{race_shown}
use Rattle.hunt_reports.specs.Races.{race_told, race_finding, is_passed, unpassed, races_told, race_findings, leaves_out}
use Rattle.hunt_reports.specs.Taking.{with_race}
use Rattle.hunt_reports.proofs.Lists.{filter_push}

or_true : (b : Bool) → (b || true) ≡ true
or_true true = refl
or_true false = refl

or_false : (b : Bool) → (b || false) ≡ b
or_false true = refl
or_false false = refl

moved : (x y z : Bool) → (y || (x || z)) ≡ ((x || y) || z)
moved true true z = refl
moved true false z = refl
moved false y z = refl

-- one telling more
firsts_push : (before ts : List Tells) (t : Tells) → firsts before (ts ++ t ∷ []) ≡ (if has t.key ts || has t.key before then firsts before ts else firsts before ts ++ t ∷ [])
unfolding firsts
firsts_push before [] t = elim (has t.key before) as (λ b. (if b then [] else t ∷ []) ≡ (if b then [] else t ∷ [])) [ true ↦ refl | false ↦ refl ]
firsts_push before (u ∷ us) t = by (has u.key before) (has t.key us || has t.key (u ∷ before)) (moved (bytes_eq t.key u.key) (has t.key us) (has t.key before)) (firsts_push (u ∷ before) us t)
  where
    by : (b c : Bool) → c ≡ ((bytes_eq t.key u.key || has t.key us) || has t.key before) → firsts (u ∷ before) (us ++ t ∷ []) ≡ (if c then firsts (u ∷ before) us else firsts (u ∷ before) us ++ t ∷ [])
        → (if b then firsts (u ∷ before) (us ++ t ∷ []) else u ∷ firsts (u ∷ before) (us ++ t ∷ []))
        ≡ (if (bytes_eq t.key u.key || has t.key us) || has t.key before then (if b then firsts (u ∷ before) us else u ∷ firsts (u ∷ before) us)
        else (if b then firsts (u ∷ before) us else u ∷ firsts (u ∷ before) us) ++ t ∷ [])
    by true c e rest = rw (← e) rest
    by false true e rest = rw (← e) (ap (λ xs. u ∷ xs) rest)
    by false false e rest = rw (← e) (ap (λ xs. u ∷ xs) rest)

-- a key is among them where it is among all
has_firsts : (k : List ℕ) (before ts : List Tells) → (has k (firsts before ts) || has k before) ≡ (has k ts || has k before)
unfolding firsts
has_firsts k before [] = refl
has_firsts k before (u ∷ us) = by (has u.key before) refl (bytes_eq k u.key) refl (has_firsts k (u ∷ before) us)
  where
    by : (b : Bool) → has u.key before ≡ b → (s : Bool) → bytes_eq k u.key ≡ s → (has k (firsts (u ∷ before) us) || (bytes_eq k u.key || has k before)) ≡ (has k us || (bytes_eq k u.key || has k before))
        → (has k (if b then firsts (u ∷ before) us else u ∷ firsts (u ∷ before) us) || has k before) ≡ ((bytes_eq k u.key || has k us) || has k before)
    by true e true s rest =
        let there : has k before ≡ true = ap (λ x. has x before) ((bytes_eq-Decides k u.key).0 s) ∙ e in
        rw (s, there) (or_true (has k (firsts (u ∷ before) us)))
    by true e false s rest = rw s (sym (ap (λ x. has k (firsts (u ∷ before) us) || (x || has k before)) s) ∙ rest ∙ ap (λ x. has k us || (x || has k before)) s)
    by false e true s rest = rw s refl
    by false e false s rest = rw s (sym (ap (λ x. has k (firsts (u ∷ before) us) || (x || has k before)) s) ∙ rest ∙ ap (λ x. has k us || (x || has k before)) s)

has_distinct : (k : List ℕ) (ts : List Tells) → has k (distinct ts) ≡ has k ts
has_distinct k ts = sym (or_false (has k (firsts [] ts))) ∙ has_firsts k [] ts ∙ or_false (has k ts)

pub distinct_push : (ts : List Tells) (t : Tells) → distinct (ts ++ t ∷ []) ≡ (if has t.key (distinct ts) then distinct ts else distinct ts ++ t ∷ [])
distinct_push ts t = firsts_push [] ts t ∙ ap (λ b. if b then distinct ts else distinct ts ++ t ∷ []) (or_false (has t.key ts) ∙ sym (has_distinct t.key ts))

-- ---- one race more

map_more : {X Y : Type 0} (f : X → Y) (b : Bool) (xs : List X) (x : X) → map f (xs ++ (if b then x ∷ [] else [])) ≡ map f xs ++ (if b then f x ∷ [] else [])
map_more f true xs x = map_push f xs x
map_more f false xs x = ap (map f) (append-nil xs) ∙ sym (append-nil (map f xs))

module _ (places : Places) (passed : List (List ℕ)) (f : Racing → Tells) where
  abbrev kept : List Racing → List Tells
  kept races = distinct (map f (unpassed places passed races))

  kept_more : (races : List Racing) (r : Racing) → with_race (is_passed passed (key_of places r.sites)) (has (f r).key (kept races)) (f r) (kept races) ≡ kept (races ++ r ∷ [])
  kept_more races r =
      let ts : List Tells = map f (unpassed places passed races) in
      let all : map f (unpassed places passed (races ++ r ∷ [])) ≡ ts ++ (if not (is_passed passed (key_of places r.sites)) then f r ∷ [] else [])
      = ap (map f) (filter_push (λ (x : Racing). not (is_passed passed (key_of places x.sites))) races r) ∙ map_more f (not (is_passed passed (key_of places r.sites))) (unpassed places passed races) r in
      by (is_passed passed (key_of places r.sites)) ts ∙ ap distinct (sym all)
    where
      by : (b : Bool) (ts : List Tells) → with_race b (has (f r).key (distinct ts)) (f r) (distinct ts) ≡ distinct (ts ++ (if not b then f r ∷ [] else []))
      by true ts = ap distinct (sym (append-nil ts))
      by false ts = sym (distinct_push ts (f r))

-- a race is known by its key as a finding, too
same_known : (places : Places) (key : List ℕ) (races : List Racing) → has (codes "race" ++ key) (map (race_finding places) races) ≡ has key (map (race_told places) races)
same_known places key [] = refl
same_known places key (r ∷ races) = ap (λ b. bytes_eq key (key_of places r.sites) || b) (same_known places key races)

known_too : (places : Places) (passed : List (List ℕ)) (races : List Racing) (key : List ℕ) → has key (races_told places passed races) ≡ has (codes "race" ++ key) (race_findings places passed races)
known_too places passed races key =
    has_distinct key (map (race_told places) (unpassed places passed races)) ∙ sym (same_known places key (unpassed places passed races))
    ∙ sym (has_distinct (codes "race" ++ key) (map (race_finding places) (unpassed places passed races)))

leaves_more : (places : Places) (passed : List (List ℕ)) (races : List Racing) (r : Racing)
    → (leaves_out places passed races || is_passed passed (key_of places r.sites)) ≡ leaves_out places passed (races ++ r ∷ [])
leaves_more places passed races r =
    sym (list_any-append (λ (x : Racing). is_passed passed (key_of places x.sites)) races (r ∷ []) ∙ ap (λ b. leaves_out places passed races || b) (or_false (is_passed passed (key_of places r.sites))))

pub none_told : (places : Places) (passed : List (List ℕ)) → [] ≡ races_told places passed []
unfolding firsts
none_told places passed = refl

pub none_found : (places : Places) (passed : List (List ℕ)) → [] ≡ race_findings places passed []
unfolding firsts
none_found places passed = refl

module _ (places : Places) (passed : List (List ℕ)) (races : List Racing) (i : ℕ) (d : Racing) (key : List ℕ) where
  -- of the races up to a place
  pub told_step : (old new : List Tells) → i < length races → key ≡ key_of places (get_or races i d).sites → old ≡ races_told places passed (take i races)
      → new ≡ with_race (is_passed passed key) (has key old) (record { key = key; shown = sites_text (get_or races i d).sites }) old → new ≡ races_told places passed (take (i + 1) races)
  told_step old new inside is so_far made =
      made ∙ (λ j. with_race (is_passed passed (is j)) (has (is j) (so_far j)) (record { key = is j; shown = sites_text (get_or races i d).sites }) (so_far j))
      ∙ kept_more places passed (race_told places) (take i races) (get_or races i d) ∙ ap (races_told places passed) (sym (take_more races i d inside))

  pub found_step : (told old new : List Tells) → i < length races → key ≡ key_of places (get_or races i d).sites → told ≡ races_told places passed (take i races) → old ≡ race_findings places passed (take i races)
      → new ≡ with_race (is_passed passed key) (has key told) (record { key = codes "race" ++ key; shown = race_shown places (get_or races i d).sites }) old → new ≡ race_findings places passed (take (i + 1) races)
  found_step told old new inside is known so_far made =
      let r : Racing = get_or races i d in
      let same : has key told ≡ has (codes "race" ++ key_of places r.sites) (race_findings places passed (take i races)) = (λ j. has (is j) (known j)) ∙ known_too places passed (take i races) (key_of places r.sites) in
      made ∙ (λ j. with_race (is_passed passed (is j)) (same j) (record { key = codes "race" ++ is j; shown = race_shown places r.sites }) (so_far j))
      ∙ kept_more places passed (race_finding places) (take i races) r ∙ ap (race_findings places passed) (sym (take_more races i d inside))

  pub left_step : (old new : Bool) → i < length races → key ≡ key_of places (get_or races i d).sites → old ≡ leaves_out places passed (take i races)
      → new ≡ (old || is_passed passed key) → new ≡ leaves_out places passed (take (i + 1) races)
  left_step old new inside is so_far made =
      made ∙ (λ j. so_far j || is_passed passed (is j)) ∙ leaves_more places passed (take i races) (get_or races i d) ∙ ap (leaves_out places passed) (sym (take_more races i d inside))
