-- What a change of the map is to the entries that it stands for.
use Rattle.std.proofs.Common.{◌≡◌, ℕ, zero, suc, ◌+◌, ◌<◌, Bool, true, false, cond, not, eqb, List, [], ◌∷◌, ◌++◌, length, map, Option, Some, None, is_some, true≢false, refl, sym, ap, ◌∙◌, arith}
use Rattle.std.specs.Prelude.{Vec, slice_get, nat_lt}
use Rattle.std.specs.declared.alloc.Global.{Global}
use Rattle.std.specs.List.{position_or_len, position}
use Rattle.std.specs.Str.{bytes_eq}
use Rattle.std.specs.Map.{lookup, keys_of, values_of}
use Rattle.std.proofs.lemmas.Option.{none-some, same_Some}
use Rattle.indexmap.specs.IndexMap.{set_value_at}
use Rattle.hunt_tally.specs.declared.counted.Counted.{Counted}
use Rattle.hunt_tally.specs.Tallies.{Told, Entry}
use Rattle.hunt_tally.specs.Takes.{counted, put}
use Rattle.hunt_tally.specs.Joins.{runs_telling}
use Rattle.hunt_tally.specs.Views.{entry_in, entries_in}

abbrev pub Kept : Type 0
Kept = Vec ℕ Global × Counted

-- the entry at a place, by its value
pub entry_at : (es : List Kept) (i : ℕ) (w : Counted) → slice_get (values_of es) i ≡ Some w → (k : Vec ℕ Global) × (slice_get (entries_in es) i ≡ Some (entry_in (k, w)))
entry_at [] i w at = absurd (none-some w at)
entry_at (e ∷ es) zero w at = (e.0, ap (λ v. Some (entry_in (e.0, v))) (same_Some _ _ at))
entry_at (e ∷ es) (suc i) w at = entry_at es i w at

pub none_is : {X : Type 0} (o : Option X) → is_some o ≡ false → o ≡ None
none_is None e = refl
none_is (Some x) e = absurd (true≢false e)

pub found : (n len i : ℕ) → Some i ≡ cond (nat_lt n len) (Some n) None → (n ≡ i) × (n < len)
found n len i is = by (nat_lt n len) refl
  where
    by : (b : Bool) → nat_lt n len ≡ b → (n ≡ i) × (n < len)
    by true e = (sym (same_Some _ _ (is ∙ ap (λ t. cond t (Some n) None) e)), grind (arith, e))
    by false e = absurd (none-some i (sym (is ∙ ap (λ t. cond t (Some n) None) e)))

module _ (key : List ℕ) (change : Entry → Entry) (new : Entry) where
  -- an entry is changed where its key is
  pub put_at : (es : List Kept) (i : ℕ) (w v : Counted) → ((k : Vec ℕ Global) → entry_in (k, v) ≡ change (entry_in (k, w)))
      → slice_get (values_of es) i ≡ Some w → position_or_len (λ (k : Vec ℕ Global). bytes_eq key k.items) (keys_of es) ≡ i
      → entries_in (set_value_at es i v) ≡ put key change new (entries_in es)
  put_at [] i w v is at place = absurd (none-some w at)
  put_at (e ∷ es) zero w v is at place = by (bytes_eq key e.0.items) refl
    where
      by : (b : Bool) → bytes_eq key e.0.items ≡ b → entries_in ((e.0, v) ∷ es) ≡ put key change new (entries_in (e ∷ es))
      by true same = rw same (ap (λ x. x ∷ entries_in es) (is e.0 ∙ ap (λ x. change (entry_in (e.0, x))) (sym (same_Some _ _ at))))
      by false other = absurd (let none : cond (not (bytes_eq key e.0.items)) (1 + position_or_len (λ (k : Vec ℕ Global). bytes_eq key k.items) (keys_of es)) 0 ≡ 0 = place in
          let some : 1 + position_or_len (λ (k : Vec ℕ Global). bytes_eq key k.items) (keys_of es) ≡ 0 = sym (ap (λ (s : Bool). cond (not s) (1 + position_or_len (λ (k : Vec ℕ Global). bytes_eq key k.items) (keys_of es)) 0) other) ∙ none in omega (arith, some))
  put_at (e ∷ es) (suc i) w v is at place = by (bytes_eq key e.0.items) refl (put_at es i w v is at)
    where
      by : (b : Bool) → bytes_eq key e.0.items ≡ b → (position_or_len (λ (k : Vec ℕ Global). bytes_eq key k.items) (keys_of es) ≡ i → entries_in (set_value_at es i v) ≡ put key change new (entries_in es))
          → entries_in (e ∷ set_value_at es i v) ≡ put key change new (entries_in (e ∷ es))
      by true same rest = absurd (let none : 0 ≡ suc i = sym (ap (λ (s : Bool). cond (not s) (1 + position_or_len (λ (k : Vec ℕ Global). bytes_eq key k.items) (keys_of es)) 0) same) ∙ place in omega (arith, none))
      by false other rest = let some : 1 + position_or_len (λ (k : Vec ℕ Global). bytes_eq key k.items) (keys_of es) ≡ suc i = sym (ap (λ (s : Bool). cond (not s) (1 + position_or_len (λ (k : Vec ℕ Global). bytes_eq key k.items) (keys_of es)) 0) other) ∙ place in
          rw other (ap (λ x. entry_in e ∷ x) (rest (omega (arith, some))))

  -- and else a new one goes last
  pub put_new : (es : List Kept) → lookup (λ (k : Vec ℕ Global). bytes_eq key k.items) es ≡ None → put key change new (entries_in es) ≡ entries_in es ++ new ∷ []
  put_new [] none = refl
  put_new (e ∷ es) none = by (bytes_eq key e.0.items) refl (put_new es)
    where
      by : (b : Bool) → bytes_eq key e.0.items ≡ b → (lookup (λ (k : Vec ℕ Global). bytes_eq key k.items) es ≡ None → put key change new (entries_in es) ≡ entries_in es ++ new ∷ [])
          → put key change new (entries_in (e ∷ es)) ≡ entry_in e ∷ (entries_in es ++ new ∷ [])
      by true same rest = absurd (none-some e.1 (sym none ∙ ap (λ (s : Bool). cond s (Some e.1) (lookup (λ (k : Vec ℕ Global). bytes_eq key k.items) es)) same))
      by false other rest = rw other (ap (λ x. entry_in e ∷ x) (rest (sym (ap (λ (s : Bool). cond s (Some e.1) (lookup (λ (k : Vec ℕ Global). bytes_eq key k.items) es)) other) ∙ none)))

-- so many runs tell the key that is found
pub telling_at : (key : List ℕ) (es : List Kept) (i : ℕ) (w : Counted) → slice_get (values_of es) i ≡ Some w → position_or_len (λ (k : Vec ℕ Global). bytes_eq key k.items) (keys_of es) ≡ i
    → runs_telling key (entries_in es) ≡ w.runs
telling_at key [] i w at place = absurd (none-some w at)
telling_at key (e ∷ es) zero w at place = by (bytes_eq key e.0.items) refl
  where
    by : (b : Bool) → bytes_eq key e.0.items ≡ b → cond b e.1.runs (runs_telling key (entries_in es)) ≡ w.runs
    by true same = ap (λ (x : Counted). x.runs) (same_Some _ _ at)
    by false other = absurd (let none : cond (not (bytes_eq key e.0.items)) (1 + position_or_len (λ (k : Vec ℕ Global). bytes_eq key k.items) (keys_of es)) 0 ≡ 0 = place in
        let some : 1 + position_or_len (λ (k : Vec ℕ Global). bytes_eq key k.items) (keys_of es) ≡ 0 = sym (ap (λ (s : Bool). cond (not s) (1 + position_or_len (λ (k : Vec ℕ Global). bytes_eq key k.items) (keys_of es)) 0) other) ∙ none in omega (arith, some))
telling_at key (e ∷ es) (suc i) w at place = by (bytes_eq key e.0.items) refl (telling_at key es i w at)
  where
    by : (b : Bool) → bytes_eq key e.0.items ≡ b → (position_or_len (λ (k : Vec ℕ Global). bytes_eq key k.items) (keys_of es) ≡ i → runs_telling key (entries_in es) ≡ w.runs)
        → cond b e.1.runs (runs_telling key (entries_in es)) ≡ w.runs
    by true same rest = absurd (let none : 0 ≡ suc i = sym (ap (λ (s : Bool). cond (not s) (1 + position_or_len (λ (k : Vec ℕ Global). bytes_eq key k.items) (keys_of es)) 0) same) ∙ place in omega (arith, none))
    by false other rest = let some : 1 + position_or_len (λ (k : Vec ℕ Global). bytes_eq key k.items) (keys_of es) ≡ suc i = sym (ap (λ (s : Bool). cond (not s) (1 + position_or_len (λ (k : Vec ℕ Global). bytes_eq key k.items) (keys_of es)) 0) other) ∙ place in
        rest (omega (arith, some))

pub entries_push : (es : List Kept) (e : Kept) → entries_in (es ++ e ∷ []) ≡ entries_in es ++ entry_in e ∷ []
entries_push [] e = refl
entries_push (x ∷ es) e = ap (λ y. entry_in x ∷ y) (entries_push es e)

pub counted_is : (run : ℕ) (w v : Counted) → v ≡ (cond (eqb w.last run) w (record w { runs = w.runs + 1; last = run })) → (k : Vec ℕ Global) → entry_in (k, v) ≡ counted run (entry_in (k, w))
counted_is run w v is k = by (eqb w.last run) refl
  where
    by : (b : Bool) → eqb w.last run ≡ b → entry_in (k, v) ≡ counted run (entry_in (k, w))
    by true e = rw e (ap (λ x. entry_in (k, x)) (is ∙ ap (λ s. cond s w (record w { runs = w.runs + 1; last = run })) e))
    by false e = rw e (ap (λ x. entry_in (k, x)) (is ∙ ap (λ s. cond s w (record w { runs = w.runs + 1; last = run })) e))

abbrev pub tolds : List Kept → List Told
tolds es = map (λ (e : Entry). e.told) (entries_in es)

pub told_at : (es : List Kept) (i : ℕ) (e : Kept) → Some e ≡ slice_get es i → slice_get (tolds es) i ≡ Some (entry_in e).told
told_at [] i e at = absurd (none-some e (sym at))
told_at (x ∷ es) zero e at = ap (λ y. Some (entry_in y).told) (sym (same_Some _ _ at))
told_at (x ∷ es) (suc i) e at = told_at es i e at

place_told : (key : List ℕ) (es : List Kept) → position_or_len (λ (k : Vec ℕ Global). bytes_eq key k.items) (keys_of es) ≡ position_or_len (λ (t : Told). bytes_eq key t.key) (tolds es)
place_told key [] = refl
place_told key (e ∷ es) = ap (λ n. cond (not (bytes_eq key e.0.items)) (1 + n) 0) (place_told key es)

long_told : (es : List Kept) → length (keys_of es) ≡ length (tolds es)
long_told [] = refl
long_told (e ∷ es) = ap suc (long_told es)

pub position_told : (key : List ℕ) (es : List Kept) → position (λ (k : Vec ℕ Global). bytes_eq key k.items) (keys_of es) ≡ position (λ (t : Told). bytes_eq key t.key) (tolds es)
position_told key es = λ i. cond (nat_lt (place_told key es i) (long_told es i)) (Some (place_told key es i)) None
