-- The latest of steps that may be unsafe.
use Rattle.std.proofs.Common.{◌≡◌, ℕ, ◌≤◌, false, Option, Some, None, ◌⊎◌, inl, inr, refl, sym, subst, arith}
use Rattle.std.specs.Prelude.{IfSome, is_some}
use Rattle.race_check.specs.Crowds.{IsLater, IsSafe, IsUnsafeOne, StepsTell, UpTo}

pub none_of : (o : Option ℕ) → is_some o ≡ false → o ≡ None
none_of None e = refl
none_of (Some i) e = absurd (cc)

pub if_then : (o : Option ℕ) (P Q : ℕ → Type 0) → IfSome o P → ((i : ℕ) → P i → Q i) → IfSome o Q
if_then None P Q x f = tt
if_then (Some i) P Q x f = f i x

-- what is up to a step is up to a later one
pub up_from : (latest : Option ℕ) (i s : ℕ) → i ≤ s → UpTo latest s → UpTo latest i
up_from None i s low up = up
up_from (Some k) i s low up = let far : s ≤ k = up in omega arith

-- the one, the other, and the later one of them
pub later_one : (a b : Option ℕ) → (later : Option ℕ) → (later ≡ a) ⊎ (later ≡ b) → ((s : ℕ) → UpTo a s → UpTo later s) → ((s : ℕ) → UpTo b s → UpTo later s) → IsLater a b later
later_one a b later one first second = record { one = one; first = first; second = second }

pub of_both : (a b later : Option ℕ) (P : ℕ → Type 0) → IsLater a b later → IfSome a P → IfSome b P → IfSome later P
of_both a b later P is x y = by is.one
  where
    by : (later ≡ a) ⊎ (later ≡ b) → IfSome later P
    by (inl e) = subst (λ o. IfSome o P) (sym e) x
    by (inr e) = subst (λ o. IfSome o P) (sym e) y

-- safe, or up to another step that is no earlier
pub still : (Safe : Type 0) (a later : Option ℕ) (s : ℕ) → ((s : ℕ) → UpTo a s → UpTo later s) → Safe ⊎ UpTo a s → Safe ⊎ UpTo later s
still Safe a later s to (inl safe) = inl safe
still Safe a later s to (inr up) = inr (to s up)

pub safe_of : (Safe : Type 0) (s : ℕ) → Safe ⊎ UpTo None s → Safe
safe_of Safe s (inl safe) = safe
safe_of Safe s (inr up) = absurd up

module _ (Before : ℕ → ℕ → Type 0) (last : ℕ) where
  pub steps_same : (P Q : ℕ → Type 0) (latest : Option ℕ) → ((s : ℕ) → P s → Q s) → ((s : ℕ) → Q s → P s) → StepsTell Before last P latest → StepsTell Before last Q latest
  steps_same P Q latest to from tells = record {
    clash = if_then latest (IsUnsafeOne Before last P) (IsUnsafeOne Before last Q) tells.clash (λ s u. record { is = to s u.is; unsafe = u.unsafe });
    rest = λ s is. tells.rest s (from s is);
  }

  -- of steps of the one kind or the other
  pub steps_both : (P Q : ℕ → Type 0) (a b later : Option ℕ) → IsLater a b later → StepsTell Before last P a → StepsTell Before last Q b → StepsTell Before last (λ s. P s ⊎ Q s) later
  steps_both P Q a b later is one other = record {
    clash = of_both a b later (IsUnsafeOne Before last (λ s. P s ⊎ Q s)) is
        (if_then a (IsUnsafeOne Before last P) (IsUnsafeOne Before last (λ s. P s ⊎ Q s)) one.clash (λ s u. record { is = inl u.is; unsafe = u.unsafe }))
        (if_then b (IsUnsafeOne Before last Q) (IsUnsafeOne Before last (λ s. P s ⊎ Q s)) other.clash (λ s u. record { is = inr u.is; unsafe = u.unsafe }));
    rest = rest;
  }
    where
      rest : (s : ℕ) → P s ⊎ Q s → IsSafe Before s last ⊎ UpTo later s
      rest s (inl p) = still (IsSafe Before s last) a later s is.first (one.rest s p)
      rest s (inr q) = still (IsSafe Before s last) b later s is.second (other.rest s q)
