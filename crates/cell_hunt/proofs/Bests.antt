-- The first of several steps with the greatest key, and one step more.
use Rattle.std.proofs.Common.{◌≡◌, ℕ, zero, suc, ◌+◌, ◌<◌, ◌≤◌, ◌∙◌, ap, refl, sym, subst, arith, List, [], ◌∷◌, ◌++◌, length, append-nil, append_assoc, inl, inr, true≢false}
use Rattle.std.specs.Option.{option_map_or}
use Rattle.std.specs.Prelude.{Option, Some, None, IfSome, IsSomeAnd, is_some, Bool, true, false, ◌⊎◌, option_to_list, slice_get}
use Rattle.std.proofs.lemmas.Bool.{cases_lt}
use Rattle.std.proofs.lemmas.Bool.Decides.{nat_tests}
use Rattle.std.proofs.lemmas.Option.{none-some, same_Some, slice_get_within}
use Rattle.cell_base.specs.declared.steps.Step.{Step}
use Rattle.cell_base.specs.declared.steps.Step.TheVariants.{Exec, Atomic, Host}
use Rattle.cell_machine.specs.Spe.{Spe}
use Rattle.cell_machine.specs.Moves.{outstanding}
use Rattle.cell_machine.specs.Run.{Ran, next_of, spe_of}
use Rattle.cell_hunt.specs.declared.offers.Keyed.{Keyed}
use Rattle.cell_machine.specs.Choices.{queued_of}
use Rattle.cell_hunt.specs.Offers.{IsGreatest, offered, offered_by, offered_by_first, offered_by_queue, offers, queue_length}
use Rattle.cell_hunt.specs.Bests.{IsBestOf, is_beaten}
use Rattle.cell_hunt.proofs.Places.{get-front, get-last, get-more}

-- ---- one step more

kept : (key : Step → ℕ) (xs : List Step) (b s : Step) → IsGreatest key xs b → key s ≤ key b → IsGreatest key (xs ++ s ∷ []) b
kept key xs b s best less =
    let inside = slice_get_within xs best.index b best.is in
    record {
      index = best.index;
      is = get-front xs (s ∷ []) best.index inside ∙ best.is;
      greatest = λ k t h. elim (get-more xs s k t h) [ inl old ↦ best.greatest k t old | inr new ↦ subst (λ x. key x ≤ key b) new.1 less ];
      first = λ k t before h. elim (get-more xs s k t h) [ inl old ↦ best.first k t before old | inr new ↦ absurd (let e = new.0 in omega (arith, e, before, inside)) ];
    }

newest : (key : Step → ℕ) (xs : List Step) (s : Step) → ((k : ℕ) (t : Step) → slice_get xs k ≡ Some t → key t < key s) → IsGreatest key (xs ++ s ∷ []) s
newest key xs s less = record {
  index = length xs;
  is = get-last xs s;
  greatest = λ k t h. elim (get-more xs s k t h) [
    | inl old ↦ (let l = less k t old in omega (arith, l))
    | inr new ↦ (let e : key s ≡ key t = ap key new.1 in omega (arith, e))
  ];
  first = λ k t before h. elim (get-more xs s k t h) [ inl old ↦ less k t old | inr new ↦ absurd (let e = new.0 in omega (arith, e, before)) ];
}

-- where its key isn't greater the best stays
pub best-kept : (key : Step → ℕ) (xs : List Step) (b : Keyed) (s : Step) (k : ℕ) → k ≡ key s → k ≤ b.key → IsBestOf key xs (Some b) → IsBestOf key (xs ++ s ∷ []) (Some b)
best-kept key xs b s k is less (best, keyed) = (kept key xs b.step s best (omega (arith, is, less, keyed)), keyed)

pub best-first : (key : Step → ℕ) (xs : List Step) (s : Step) (k : ℕ) → k ≡ key s → IsBestOf key xs None → IsBestOf key (xs ++ s ∷ []) (Some (record { key = k; step = s }))
best-first key xs s k is none = (newest key xs s (λ i t h. absurd (none-some t (sym (ap (λ (ys : List Step). slice_get ys i) none) ∙ h))), is)

pub best-new : (key : Step → ℕ) (xs : List Step) (b : Keyed) (s : Step) (k : ℕ) → k ≡ key s → b.key < k → IsBestOf key xs (Some b) → IsBestOf key (xs ++ s ∷ []) (Some (record { key = k; step = s }))
best-new key xs b s k is more (best, keyed) = (newest key xs s (λ i t h. (let l = best.greatest i t h in omega (arith, l, is, more, keyed))), is)

-- ---- a step that is offered or not

pub offered-one : (m : Ran) (s : Step) → is_some (next_of m s) ≡ true → offered m s ≡ s ∷ []
offered-one m s h = rw h refl

pub offered-none : (m : Ran) (s : Step) → is_some (next_of m s) ≡ false → offered m s ≡ []
offered-none m s h = rw h refl

pub best-same : (key : Step → ℕ) (xs ys : List Step) (best : Option Keyed) → ys ≡ [] → IsBestOf key xs best → IsBestOf key (xs ++ ys) best
best-same key xs ys best none is = subst (λ zs. IsBestOf key zs best) (sym (ap (λ (zs : List Step). xs ++ zs) none ∙ append-nil xs)) is

pub best-more : (key : Step → ℕ) (xs ys : List Step) (s : Step) (best : Option Keyed) → ys ≡ s ∷ [] → IsBestOf key (xs ++ s ∷ []) best → IsBestOf key (xs ++ ys) best
best-more key xs ys s best one is = subst (λ zs. IsBestOf key (xs ++ zs) best) (sym one) is

pub best-less : (key : Step → ℕ) (m : Ran) (xs : List Step) (b : Keyed) (s : Step) (k : ℕ) → k ≡ key s → k ≤ b.key → IsBestOf key xs (Some b) → IsBestOf key (xs ++ offered m s) (Some b)
best-less key m xs b s k is less so_far = on (is_some (next_of m s)) refl
  where
    on : (o : Bool) → is_some (next_of m s) ≡ o → IsBestOf key (xs ++ offered m s) (Some b)
    on true e = best-more key xs (offered m s) s (Some b) (offered-one m s e) (best-kept key xs b s k is less so_far)
    on false e = best-same key xs (offered m s) (Some b) (offered-none m s e) so_far

-- where the best so far has a key that is at least as great, it stays
pub best-beaten : (key : Step → ℕ) (m : Ran) (xs : List Step) (best : Option Keyed) (s : Step) (k : ℕ) → k ≡ key s → is_beaten k best ≡ true → IsBestOf key xs best → IsBestOf key (xs ++ offered m s) best
best-beaten key m xs None s k is beaten so_far = absurd (true≢false (sym beaten))
best-beaten key m xs (Some b) s k is beaten so_far = best-less key m xs b s k is (grind (arith, nat_tests, beaten)) so_far

pub step-beaten : (key : Step → ℕ) (xs : List Step) (best : Option Keyed) (s : Step) (k : ℕ) → k ≡ key s → is_beaten k best ≡ true → IsBestOf key xs best → IsBestOf key (xs ++ s ∷ []) best
step-beaten key xs None s k is beaten so_far = absurd (true≢false (sym beaten))
step-beaten key xs (Some b) s k is beaten so_far = best-kept key xs b s k is (grind (arith, nat_tests, beaten)) so_far

-- otherwise the step is the best
pub step-best : (key : Step → ℕ) (xs : List Step) (best : Option Keyed) (s : Step) (k : ℕ) → k ≡ key s → is_beaten k best ≡ false → IsBestOf key xs best → IsBestOf key (xs ++ s ∷ []) (Some (record { key = k; step = s }))
step-best key xs None s k is beaten so_far = best-first key xs s k is so_far
step-best key xs (Some b) s k is beaten so_far = best-new key xs b s k is (grind (arith, nat_tests, beaten)) so_far

-- ---- of two there is none better

pub greatest-one : (key : Step → ℕ) (xs : List Step) (s t : Step) → IsGreatest key xs s → IsGreatest key xs t → s ≡ t
greatest-one key xs s t a b = elim (cases_lt a.index b.index) [
  | inl below ↦ absurd (let less = b.first a.index s below a.is in let least = a.greatest b.index t b.is in omega (arith, less, least))
  | inr above ↦ elim (cases_lt b.index a.index) [
    | inl below ↦ absurd (let less = a.first b.index t below b.is in let least = b.greatest a.index s a.is in omega (arith, less, least))
    | inr other ↦ (let same : a.index ≡ b.index = omega (arith, above, other) in same_Some s t (sym a.is ∙ ap (slice_get xs) same ∙ b.is))
  ]
]

pub empty-greatest : (key : Step → ℕ) (xs : List Step) (s : Step) → xs ≡ [] → IsGreatest key xs s → ⊥
empty-greatest key xs s none best = none-some s (sym (ap (λ (ys : List Step). slice_get ys best.index) none) ∙ best.is)

-- ---- the offers, one after the other

queue_suc : (m : Ran) (word p n : ℕ) → offered_by_queue m word p (suc n) ≡ offered_by_queue m word p n ++ option_to_list (queued_of m p n word)
unfolding offered_by_queue
queue_suc m word p n = refl

queue_zero : (m : Ran) (word p : ℕ) → offered_by_queue m word p zero ≡ []
unfolding offered_by_queue
queue_zero m word p = refl

pub queue-init : (key : Step → ℕ) (m : Ran) (word p : ℕ) (xs : List Step) (best : Option Keyed) → IsBestOf key xs best → IsBestOf key (xs ++ offered_by_queue m word p 0) best
queue-init key m word p xs best is = best-same key xs (offered_by_queue m word p 0) best (queue_zero m word p) is

queue_more : (m : Ran) (word p n : ℕ) (xs : List Step) → xs ++ offered_by_queue m word p (n + 1) ≡ (xs ++ offered_by_queue m word p n) ++ option_to_list (queued_of m p n word)
queue_more m word p n xs =
    let e : n + 1 ≡ suc n = omega arith in
    ap (λ k. xs ++ offered_by_queue m word p k) e ∙ ap (λ (ys : List Step). xs ++ ys) (queue_suc m word p n) ∙ sym (append_assoc xs (offered_by_queue m word p n) (option_to_list (queued_of m p n word)))

pub queue-next : (key : Step → ℕ) (m : Ran) (word p n : ℕ) (xs : List Step) (best : Option Keyed) → IsBestOf key ((xs ++ offered_by_queue m word p n) ++ option_to_list (queued_of m p n word)) best → IsBestOf key (xs ++ offered_by_queue m word p (n + 1)) best
queue-next key m word p n xs best is = subst (λ ys. IsBestOf key ys best) (sym (queue_more m word p n xs)) is

-- all that a processor offers
pub processor-all : (key : Step → ℕ) (m : Ran) (word p : ℕ) (xs : List Step) (best : Option Keyed)
    → IsBestOf key (((xs ++ offered m (Exec p)) ++ offered m (Atomic p)) ++ offered_by_queue m word p (queue_length m p)) best → IsBestOf key (xs ++ offered_by m word p) best
processor-all key m word p xs best is =
    subst (λ ys. IsBestOf key ys best) (ap (λ (ys : List Step). ys ++ offered_by_queue m word p (queue_length m p)) (append_assoc xs (offered m (Exec p)) (offered m (Atomic p)))
    ∙ append_assoc xs (offered m (Exec p) ++ offered m (Atomic p)) (offered_by_queue m word p (queue_length m p))) is

first_zero : (m : Ran) (word : ℕ) → offered_by_first m word zero ≡ []
unfolding offered_by_first
first_zero m word = refl

first_suc : (m : Ran) (word n : ℕ) → offered_by_first m word (suc n) ≡ offered_by_first m word n ++ offered_by m word n
unfolding offered_by_first
first_suc m word n = refl

pub first-init : (key : Step → ℕ) (m : Ran) (word : ℕ) → IsBestOf key (offered_by_first m word 0) None
first-init key m word = first_zero m word

pub first-next : (key : Step → ℕ) (m : Ran) (word n : ℕ) (best : Option Keyed) → IsBestOf key (offered_by_first m word n ++ offered_by m word n) best → IsBestOf key (offered_by_first m word (n + 1)) best
first-next key m word n best is =
    let e : n + 1 ≡ suc n = omega arith in
    subst (λ ys. IsBestOf key ys best) (sym (ap (offered_by_first m word) e ∙ first_suc m word n)) is

-- how many commands the queue holds, as the machine says
pub length-is : (m : Ran) (p n : ℕ) → IsSomeAnd (spe_of m p) (λ P. n ≡ length (outstanding P)) → n ≡ queue_length m p
length-is m p n some = on (spe_of m p) some
  where
    on : (o : Option Spe) → IsSomeAnd o (λ P. n ≡ length (outstanding P)) → n ≡ option_map_or (λ (P : Spe). length (outstanding P)) o 0
    on None is = absurd is
    on (Some P) is = is

-- where nothing is the best, nothing is offered
pub none-is : (key : Step → ℕ) (xs : List Step) (best : Option Keyed) → best ≡ None → IsBestOf key xs best → xs ≡ []
none-is key xs best none is = subst (IsBestOf key xs) none is

pub some-is : (key : Step → ℕ) (xs : List Step) (best : Option Keyed) (b : Keyed) → best ≡ Some b → IsBestOf key xs best → IsGreatest key xs b.step
some-is key xs best b some is = let both : IsBestOf key xs (Some b) = subst (IsBestOf key xs) some is in both.0

-- all that is offered
pub all-is : (key : Step → ℕ) (m : Ran) (word n : ℕ) (best : Option Keyed) → n ≡ length m.setup.entries → IsBestOf key (offered_by_first m word n ++ offered m Host) best → IsBestOf key (offers m word) best
all-is key m word n best count is = subst (λ k. IsBestOf key (offered_by_first m word k ++ offered m Host) best) count is

pub if_none : (P : Step → Type 0) (o : Option Step) → o ≡ None → IfSome o P
if_none P o e = subst (λ x. IfSome x P) (sym e) tt
