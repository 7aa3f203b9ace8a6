-- A value that is put into a mailbox or taken out of it, in another order.
use Rattle.std.proofs.Common.{◌≡◌, ℕ, zero, suc, ◌+◌, ◌-◌, ◌<◌, ◌≤◌, refl, sym, ◌∙◌, ap, ap₂, subst, arith, Bool, true, false, List, [], ◌∷◌, ◌++◌, length, drop, Option, Some, None, cond, inl, inr, append-nil, append_assoc, length-append, length-drop}
use Rattle.std.specs.Prelude.{slice_get, ◌==◌, nat_lt}
use Rattle.std.specs.List.{range_with_len, last_or}
use Rattle.std.specs.Option.{option_map_or}
use Rattle.std.proofs.lemmas.Bool.{cases_lt, cases_order, lt-ltb}
use Rattle.std.proofs.lemmas.Bool.Decides.{nat_tests}
use Rattle.reorder_laws.specs.Boxes.{later_of, first_of}
use Rattle.reorder_laws.specs.Cuts.{has, IsFront, IsCut}
use Rattle.reorder_laws.specs.Recorded.{Recorded, count_of, spe_before, is_put_note, is_take_note, box_of, put_values, taken_values}
use Rattle.reorder_laws.specs.OrderLaws.{puts_before, Orders}
use Rattle.reorder_laws.specs.Frames.{HasFrames}
use Rattle.reorder_laws.specs.OrderedLaws.{BoxesFit}
use Rattle.reorder_laws.specs.Described.{ShowsBox}
use Rattle.reorder_laws.proofs.Cuts.{cut_skip, cut_step, same_look}
use Rattle.reorder_laws.proofs.Commands.{below_range}
use Rattle.reorder_laws.proofs.Runs.{has_below}

-- ---- lists

abbrev size_of : ℕ → ℕ
size_of m = cond (m == 0) 4 1

drop_more : (xs ys : List ℕ) (n : ℕ) → n ≤ length xs → drop n (xs ++ ys) ≡ drop n xs ++ ys
drop_more xs ys zero h = refl
drop_more [] ys (suc n) h = absurd (omega (arith, h))
drop_more (x ∷ xs) ys (suc n) h = drop_more xs ys n (omega (arith, h))

drop_first : (xs : List ℕ) (n : ℕ) → first_of (drop n xs) ≡ slice_get xs n
drop_first [] zero = refl
drop_first (x ∷ xs) zero = refl
drop_first [] (suc n) = refl
drop_first (x ∷ xs) (suc n) = drop_first xs n

drop_later : (xs : List ℕ) (n : ℕ) → later_of (drop n xs) ≡ drop (suc n) xs
drop_later [] zero = refl
drop_later (x ∷ xs) zero = refl
drop_later [] (suc n) = refl
drop_later (x ∷ xs) (suc n) = drop_later xs n

get_front : (xs ys : List ℕ) (n : ℕ) → n < length xs → slice_get (xs ++ ys) n ≡ slice_get xs n
get_front [] ys n h = absurd (omega (arith, h))
get_front (x ∷ xs) ys zero h = refl
get_front (x ∷ xs) ys (suc n) h = get_front xs ys n (omega (arith, h))

one_if : Bool → ℕ
one_if b = cond b 1 0

range_cut : (n j : ℕ) (C : ℕ → Bool) → IsCut n C (range_with_len 0 j) j
range_cut n j C i low in_C = elim (cases_lt i j) [
  | inl less ↦ has_below j i less ∙ sym (lt-ltb i j less)
  | inr more ↦ not_on (has (range_with_len 0 j) i) (λ h. let l = below_range j i h in omega (arith, l, more)) ∙ sym (off i j more)
]
  where
    not_on : (b : Bool) → (b ≡ true → ⊥) → b ≡ false
    not_on true h = absurd (h refl)
    not_on false h = refl

    off : (i j : ℕ) → j ≤ i → nat_lt i j ≡ false
    off i j h = grind (arith, nat_tests)

is_below : (i t : ℕ) → nat_lt i t ≡ true → i < t
is_below i t h = grind (arith, nat_tests)

-- ---- what was put and taken on a run

module _ (r : Recorded) (frames : HasFrames r) (q m : ℕ) (low_q : q < count_of r) (small : m < 3) where
  pub puts_on : (j : ℕ) → is_put_note q m (r.effect j).note ≡ true → puts_before r q m (suc j) ≡ puts_before r q m j + 1
  unfolding puts_before
  puts_on j h = ap (λ b. puts_before r q m j + cond b 1 0) h

  puts_off : (j : ℕ) → is_put_note q m (r.effect j).note ≡ false → puts_before r q m (suc j) ≡ puts_before r q m j
  unfolding puts_before
  puts_off j h = ap (λ b. puts_before r q m j + cond b 1 0) h ∙ omega arith

  pub takes_on : (j : ℕ) → is_take_note q m (r.effect j).note ≡ true → taken_values r q m (suc j) ≡ taken_values r q m j + 1
  unfolding taken_values
  takes_on j h = ap (λ b. taken_values r q m j + cond b 1 0) h

  takes_off : (j : ℕ) → is_take_note q m (r.effect j).note ≡ false → taken_values r q m (suc j) ≡ taken_values r q m j
  unfolding taken_values
  takes_off j h = ap (λ b. taken_values r q m j + cond b 1 0) h ∙ omega arith

  pub values_on : (j v : ℕ) → is_put_note q m (r.effect j).note ≡ true → box_of m (spe_before r q (suc j)) ≡ box_of m (spe_before r q j) ++ v ∷ [] → put_values r q m (suc j) ≡ put_values r q m j ++ v ∷ []
  unfolding put_values
  values_on j v h is =
      ap (λ b. put_values r q m j ++ cond b (option_map_or (λ v. v ∷ []) (last_or None (box_of m (spe_before r q (suc j)))) []) []) h
      ∙ ap (λ o. put_values r q m j ++ option_map_or (λ v. v ∷ []) o []) (ap (last_or None) is ∙ last_of (box_of m (spe_before r q j)) v None)
    where
      last_of : (xs : List ℕ) (v : ℕ) (o : Option ℕ) → last_or o (xs ++ v ∷ []) ≡ Some v
      last_of [] v o = refl
      last_of (x ∷ xs) v o = last_of xs v (Some x)

  values_off : (j : ℕ) → is_put_note q m (r.effect j).note ≡ false → put_values r q m (suc j) ≡ put_values r q m j
  unfolding put_values
  values_off j h = ap (λ b. put_values r q m j ++ cond b (option_map_or (λ v. v ∷ []) (last_or None (box_of m (spe_before r q (suc j)))) []) []) h ∙ append-nil (put_values r q m j)

  long : (j : ℕ) → j ≤ r.size → length (put_values r q m j) ≡ puts_before r q m j
  unfolding put_values puts_before
  long zero h = refl
  long (suc j) h = on (is_put_note q m (r.effect j).note) refl (long j (omega (arith, h)))
    where
      on : (b : Bool) → is_put_note q m (r.effect j).note ≡ b → length (put_values r q m j) ≡ puts_before r q m j → length (put_values r q m (suc j)) ≡ puts_before r q m (suc j)
      on true e was =
          let put = frames.put j q m (omega (arith, h)) low_q small e in
          ap length (values_on j put.0 e put.1) ∙ length-append (put_values r q m j) (put.0 ∷ []) ∙ ap (λ n. n + 1) was ∙ sym (puts_on j e)
      on false e was = ap length (values_off j e) ∙ was ∙ sym (puts_off j e)

  -- they only grow
  more_values : (n i : ℕ) → i + n ≤ r.size → (later : List ℕ) × (put_values r q m (i + n) ≡ put_values r q m i ++ later)
  more_values zero i h = let e : i + 0 ≡ i = omega arith in ([], ap (put_values r q m) e ∙ sym (append-nil (put_values r q m i)))
  more_values (suc n) i h = on (is_put_note q m (r.effect (i + n)).note) refl (more_values n i (omega (arith, h)))
    where
      e : i + suc n ≡ suc (i + n)
      e = omega arith

      on : (b : Bool) → is_put_note q m (r.effect (i + n)).note ≡ b → (later : List ℕ) × (put_values r q m (i + n) ≡ put_values r q m i ++ later) → (later : List ℕ) × (put_values r q m (i + suc n) ≡ put_values r q m i ++ later)
      on true f was =
          let put = frames.put (i + n) q m (omega (arith, h)) low_q small f in
          (was.0 ++ put.0 ∷ [], ap (put_values r q m) e ∙ values_on (i + n) put.0 f put.1 ∙ ap (λ xs. xs ++ put.0 ∷ []) was.1 ∙ append_assoc (put_values r q m i) was.0 (put.0 ∷ []))
      on false f was = (was.0, ap (put_values r q m) e ∙ values_off (i + n) f ∙ was.1)

  same_value : (a b n : ℕ) → a ≤ r.size → b ≤ r.size → n < puts_before r q m a → n < puts_before r q m b → slice_get (put_values r q m a) n ≡ slice_get (put_values r q m b) n
  same_value a b n low high in_a in_b = elim (cases_lt a b) [
    | inl less ↦ sym (up a b (omega (arith, less)) high in_a)
    | inr more ↦ up b a more low in_b
  ]
    where
      up : (a b : ℕ) → a ≤ b → b ≤ r.size → n < puts_before r q m a → slice_get (put_values r q m b) n ≡ slice_get (put_values r q m a) n
      up a b h high in_a =
          let x = more_values (b - a) a (omega (arith, h, high)) in
          let e : b ≡ a + (b - a) = omega (arith, h) in
          let l = long a (omega (arith, h, high)) in
          ap (λ k. slice_get (put_values r q m k) n) e ∙ ap (λ xs. slice_get xs n) x.1 ∙ get_front (put_values r q m a) x.0 n (omega (arith, l, in_a))

  rise : (f : ℕ → ℕ) → ((j : ℕ) → f j ≤ f (suc j)) → (n i : ℕ) → f i ≤ f (i + n)
  rise f up zero i = let e : f i ≡ f (i + 0) = ap f (let x : i ≡ i + 0 = omega arith in x) in omega (arith, e)
  rise f up (suc n) i = let e : f (suc (i + n)) ≡ f (i + suc n) = ap f (let x : suc (i + n) ≡ i + suc n = omega arith in x) in let a = rise f up n i in let b = up (i + n) in omega (arith, e, a, b)

  puts_up : (j : ℕ) → puts_before r q m j ≤ puts_before r q m (suc j)
  puts_up j = on (is_put_note q m (r.effect j).note) refl
    where
      on : (b : Bool) → is_put_note q m (r.effect j).note ≡ b → puts_before r q m j ≤ puts_before r q m (suc j)
      on true e = let x = puts_on j e in omega (arith, x)
      on false e = let x = puts_off j e in omega (arith, x)

  takes_up : (j : ℕ) → taken_values r q m j ≤ taken_values r q m (suc j)
  takes_up j = on (is_take_note q m (r.effect j).note) refl
    where
      on : (b : Bool) → is_take_note q m (r.effect j).note ≡ b → taken_values r q m j ≤ taken_values r q m (suc j)
      on true e = let x = takes_on j e in omega (arith, x)
      on false e = let x = takes_off j e in omega (arith, x)

  puts_rise : (i j : ℕ) → i ≤ j → puts_before r q m i ≤ puts_before r q m j
  puts_rise i j h = let x = rise (puts_before r q m) puts_up (j - i) i in let e : puts_before r q m (i + (j - i)) ≡ puts_before r q m j = ap (puts_before r q m) (omega (arith, h)) in omega (arith, x, e)

  takes_rise : (i j : ℕ) → i ≤ j → taken_values r q m i ≤ taken_values r q m j
  takes_rise i j h = let x = rise (taken_values r q m) takes_up (j - i) i in let e : taken_values r q m (i + (j - i)) ≡ taken_values r q m j = ap (taken_values r q m) (omega (arith, h)) in omega (arith, x, e)

  none_put : puts_before r q m 0 ≡ 0
  unfolding puts_before
  none_put = refl

  none_taken : taken_values r q m 0 ≡ 0
  unfolding taken_values
  none_taken = refl

  -- the place at which the value of number k was put, or taken
  put_at : (j k : ℕ) → k < puts_before r q m j → (i : ℕ) × (i < j) × (is_put_note q m (r.effect i).note ≡ true) × (puts_before r q m i ≡ k)
  put_at zero k h = absurd (let z = none_put in omega (arith, h, z))
  put_at (suc j) k h = on (is_put_note q m (r.effect j).note) refl (λ g. up (put_at j k g))
    where
      up : (i : ℕ) × (i < j) × (is_put_note q m (r.effect i).note ≡ true) × (puts_before r q m i ≡ k) → (i : ℕ) × (i < suc j) × (is_put_note q m (r.effect i).note ≡ true) × (puts_before r q m i ≡ k)
      up x = let l = x.1 in (x.0, omega (arith, l), x.2, x.3)

      on : (b : Bool) → is_put_note q m (r.effect j).note ≡ b → (k < puts_before r q m j → (i : ℕ) × (i < suc j) × (is_put_note q m (r.effect i).note ≡ true) × (puts_before r q m i ≡ k))
          → (i : ℕ) × (i < suc j) × (is_put_note q m (r.effect i).note ≡ true) × (puts_before r q m i ≡ k)
      on true e earlier = elim (cases_lt k (puts_before r q m j)) [
        | inl less ↦ earlier less
        | inr more ↦ (j, omega arith, e, let x = puts_on j e in omega (arith, more, h, x))
      ]
      on false e earlier = earlier (let x = puts_off j e in omega (arith, h, x))

  take_at : (j k : ℕ) → k < taken_values r q m j → (i : ℕ) × (i < j) × (is_take_note q m (r.effect i).note ≡ true) × (taken_values r q m i ≡ k)
  take_at zero k h = absurd (let z = none_taken in omega (arith, h, z))
  take_at (suc j) k h = on (is_take_note q m (r.effect j).note) refl (λ g. up (take_at j k g))
    where
      up : (i : ℕ) × (i < j) × (is_take_note q m (r.effect i).note ≡ true) × (taken_values r q m i ≡ k) → (i : ℕ) × (i < suc j) × (is_take_note q m (r.effect i).note ≡ true) × (taken_values r q m i ≡ k)
      up x = let l = x.1 in (x.0, omega (arith, l), x.2, x.3)

      on : (b : Bool) → is_take_note q m (r.effect j).note ≡ b → (k < taken_values r q m j → (i : ℕ) × (i < suc j) × (is_take_note q m (r.effect i).note ≡ true) × (taken_values r q m i ≡ k))
          → (i : ℕ) × (i < suc j) × (is_take_note q m (r.effect i).note ≡ true) × (taken_values r q m i ≡ k)
      on true e earlier = elim (cases_lt k (taken_values r q m j)) [
        | inl less ↦ earlier less
        | inr more ↦ (j, omega arith, e, let x = takes_on j e in omega (arith, more, h, x))
      ]
      on false e earlier = earlier (let x = takes_off j e in omega (arith, h, x))

  module _ (Before : ℕ → ℕ → Type 0) (orders : Orders Before r) (fit : BoxesFit r) (D : List ℕ) (j : ℕ) (front : IsFront Before r.size D j) (inside : (i : ℕ) → has D i ≡ true → i < r.size) (values : List ℕ) (box : ShowsBox r q m D values) where
    -- ---- a value is put in at j

    pub record PutsThere : Type 0 where
      pub room : length values < cond (m == 0) 4 1
      pub after : (v : ℕ) → box_of m (spe_before r q (suc j)) ≡ box_of m (spe_before r q j) ++ v ∷ [] → ShowsBox r q m (D ++ j ∷ []) (values ++ v ∷ [])

    pub puts_there : is_put_note q m (r.effect j).note ≡ true → is_take_note q m (r.effect j).note ≡ false → IsCut r.size (λ i. is_put_note q m (r.effect i).note) D j
        → ((i : ℕ) → j < i → i < r.size → is_put_note q m (r.effect i).note ≡ true → Before j i) → PutsThere
    puts_there is off cut chain = record {
      room =
          let l = ap length now in
          let d = length-drop (taken_values r q m box.take_place) (put_values r q m j) in
          let n = long j (omega (arith, low)) in
          omega (arith, l, d, n, enough, few);
      after = λ v more. record {
        put_place = suc j;
        take_place = box.take_place;
        put_within = low;
        take_within = box.take_within;
        put_cut = cut_step r.size (λ i. is_put_note q m (r.effect i).note) D j cut;
        take_cut = cut_skip r.size (λ i. is_take_note q m (r.effect i).note) D j box.take_place off box.take_cut;
        values_are =
            ap (λ xs. xs ++ v ∷ []) now ∙ sym (drop_more (put_values r q m j) (v ∷ []) (taken_values r q m box.take_place) (let n = long j (omega (arith, low)) in omega (arith, n, few)))
            ∙ ap (drop (taken_values r q m box.take_place)) (sym (values_on j v is more));
      };
    }
      where
        low : j < r.size
        low = front.low

        now : values ≡ drop (taken_values r q m box.take_place) (put_values r q m j)
        now = box.values_are ∙ ap (drop (taken_values r q m box.take_place))
            (same_look r.size (λ i. is_put_note q m (r.effect i).note) (put_values r q m) (λ i h g. values_off i g) D box.put_place j box.put_within (omega (arith, low)) box.put_cut cut)

        -- each value that must be out of the way was taken
        enough : puts_before r q m j < taken_values r q m box.take_place + cond (m == 0) 4 1
        enough = elim (cases_lt (puts_before r q m j) (cond (m == 0) 4 1)) [
          | inl less ↦ omega (arith, less)
          | inr more ↦ by more (take_at j (puts_before r q m j - cond (m == 0) 4 1) (let f = fit.free j q m low is in let s = positive m in omega (arith, f, more, s)))
        ]
          where
            positive : (m : ℕ) → 0 < cond (m == 0) 4 1
            positive m = on (m == 0)
              where
                on : (b : Bool) → 0 < cond b 4 1
                on true = omega arith
                on false = omega arith

            by : cond (m == 0) 4 1 ≤ puts_before r q m j → (i : ℕ) × (i < j) × (is_take_note q m (r.effect i).note ≡ true) × (taken_values r q m i ≡ puts_before r q m j - cond (m == 0) 4 1)
                → puts_before r q m j < taken_values r q m box.take_place + cond (m == 0) 4 1
            by more x =
                let less = x.1 in
                let number = x.3 in
                let b = orders.place_free x.0 j q m less low x.2 is (omega (arith, more, number)) in
                let there = front.past x.0 (omega (arith, less, low)) b in
                let before = is_below x.0 box.take_place (sym (box.take_cut x.0 (omega (arith, less, low)) x.2) ∙ there) in
                let up = takes_rise (suc x.0) box.take_place (omega (arith, before)) in
                let one = takes_on x.0 x.2 in
                omega (arith, more, number, up, one)

        -- and none was taken that wasn't put
        few : taken_values r q m box.take_place ≤ puts_before r q m j
        few = elim (cases_lt 0 (taken_values r q m box.take_place)) [
          | inl some ↦ by some (take_at box.take_place (taken_values r q m box.take_place - 1) (omega (arith, some)))
          | inr none ↦ omega (arith, none)
        ]
          where
            by : 0 < taken_values r q m box.take_place → (i : ℕ) × (i < box.take_place) × (is_take_note q m (r.effect i).note ≡ true) × (taken_values r q m i ≡ taken_values r q m box.take_place - 1) → taken_values r q m box.take_place ≤ puts_before r q m j
            by some x =
                let less = x.1 in
                let within = box.take_within in
                let number = x.3 in
                let low_x : x.0 < r.size = omega (arith, less, within) in
                let there : has D x.0 ≡ true = box.take_cut x.0 low_x x.2 ∙ lt-ltb x.0 box.take_place less in
                let full = fit.full x.0 q m low_x x.2 in
                at x.0 low_x there x.2 (put_at x.0 (taken_values r q m x.0) full) number
              where
                at : (i : ℕ) → i < r.size → has D i ≡ true → is_take_note q m (r.effect i).note ≡ true → (k : ℕ) × (k < i) × (is_put_note q m (r.effect k).note ≡ true) × (puts_before r q m k ≡ taken_values r q m i)
                    → taken_values r q m i ≡ taken_values r q m box.take_place - 1 → taken_values r q m box.take_place ≤ puts_before r q m j
                at i low_i there take y number =
                    let less = y.1 in
                    let b = orders.passed y.0 i q m less low_i y.2 take y.3 in
                    elim (cases_order y.0 j) [
                      | inl same ↦ absurd (front.future i low_i there (subst (λ k. Before k i) same b))
                      | inr (inl below) ↦
                          let up = puts_rise (suc y.0) j (omega (arith, below)) in
                          let one = puts_on y.0 y.2 in
                          let e = y.3 in
                          omega (arith, up, one, e, number, some)
                      | inr (inr above) ↦ absurd (front.future i low_i there (orders.trans j y.0 i (chain y.0 above (omega (arith, less, low_i)) y.2) b))
                    ]

    -- ---- a value is taken out at j

    pub record TakesThere : Type 0 where
      pub first : first_of values ≡ first_of (box_of m (spe_before r q j))
      pub some : 0 < length values
      pub after : ShowsBox r q m (D ++ j ∷ []) (later_of values)

    pub takes_there : is_take_note q m (r.effect j).note ≡ true → is_put_note q m (r.effect j).note ≡ false → IsCut r.size (λ i. is_take_note q m (r.effect i).note) D j
        → ShowsBox r q m (range_with_len 0 j) (box_of m (spe_before r q j)) → TakesThere
    takes_there is off cut shown = record {
      first = ap first_of now ∙ drop_first (put_values r q m box.put_place) (taken_values r q m j) ∙ same_value box.put_place j (taken_values r q m j) box.put_within (omega (arith, low)) more (fit.full j q m low is)
          ∙ sym (drop_first (put_values r q m j) (taken_values r q m j)) ∙ sym (ap first_of recorded);
      some = let l = ap length now in let d = length-drop (taken_values r q m j) (put_values r q m box.put_place) in let n = long box.put_place box.put_within in omega (arith, l, d, n, more);
      after = record {
        put_place = box.put_place;
        take_place = suc j;
        put_within = box.put_within;
        take_within = low;
        put_cut = cut_skip r.size (λ i. is_put_note q m (r.effect i).note) D j box.put_place off box.put_cut;
        take_cut = cut_step r.size (λ i. is_take_note q m (r.effect i).note) D j cut;
        values_are =
            ap later_of now ∙ drop_later (put_values r q m box.put_place) (taken_values r q m j)
            ∙ ap (λ n. drop n (put_values r q m box.put_place)) (let one = takes_on j is in let e : suc (taken_values r q m j) ≡ taken_values r q m (suc j) = omega (arith, one) in e);
      };
    }
      where
        low : j < r.size
        low = front.low

        now : values ≡ drop (taken_values r q m j) (put_values r q m box.put_place)
        now = box.values_are ∙ ap (λ n. drop n (put_values r q m box.put_place))
            (same_look r.size (λ i. is_take_note q m (r.effect i).note) (taken_values r q m) (λ i h g. takes_off i g) D box.take_place j box.take_within (omega (arith, low)) box.take_cut cut)

        recorded : box_of m (spe_before r q j) ≡ drop (taken_values r q m j) (put_values r q m j)
        recorded =
            shown.values_are
            ∙ ap₂ drop
            (same_look r.size (λ i. is_take_note q m (r.effect i).note) (taken_values r q m) (λ i h g. takes_off i g) (range_with_len 0 j) shown.take_place j shown.take_within (omega (arith, low)) shown.take_cut (range_cut r.size j (λ i. is_take_note q m (r.effect i).note)))
            (same_look r.size (λ i. is_put_note q m (r.effect i).note) (put_values r q m) (λ i h g. values_off i g) (range_with_len 0 j) shown.put_place j shown.put_within (omega (arith, low)) shown.put_cut (range_cut r.size j (λ i. is_put_note q m (r.effect i).note)))

        -- the value was put in
        more : taken_values r q m j < puts_before r q m box.put_place
        more = by (put_at j (taken_values r q m j) (fit.full j q m low is))
          where
            by : (i : ℕ) × (i < j) × (is_put_note q m (r.effect i).note ≡ true) × (puts_before r q m i ≡ taken_values r q m j) → taken_values r q m j < puts_before r q m box.put_place
            by x =
                let less = x.1 in
                let number = x.3 in
                let b = orders.passed x.0 j q m less low x.2 is number in
                let there = front.past x.0 (omega (arith, less, low)) b in
                let before = is_below x.0 box.put_place (sym (box.put_cut x.0 (omega (arith, less, low)) x.2) ∙ there) in
                let up = puts_rise (suc x.0) box.put_place (omega (arith, before)) in
                let one = puts_on x.0 x.2 in
                omega (arith, up, one, number)
