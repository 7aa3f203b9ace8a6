-- What a writing and a reading entry leave of a line.
use Rattle.std.proofs.Common.{◌≡◌, ℕ, Bool, true, false, Option, None, List, ◌⊎◌, inl, inr, refl, subst}
use Rattle.std.specs.Prelude.{IfSome}
use Rattle.std.proofs.lemmas.Bool.{both_ways}
use Rattle.cell_machine.specs.declared.effect.Place.{Place}
use Rattle.race_check.specs.declared.entry.Entry.{Entry}
use Rattle.race_check.specs.declared.crowd.Crowd.{Crowd}
use Rattle.race_check.specs.declared.line.Line.{Line}
use Rattle.race_check.specs.Entries.{Holds}
use Rattle.race_check.specs.Crowds.{Clashes, Has, IsJoined, IsLater, IsSafe, IsTrimmed, Tells, UpTo}
use Rattle.race_check.specs.Lines.{InLine, IsVisited, LineClashes}
use Rattle.race_check.proofs.Latest.{if_then, of_both, safe_of, still}

-- each step of the list at a byte of the new entry is its step or before it
abbrev AreSafe : (ℕ → ℕ → Type 0) → Entry → List Crowd → Type 0
AreSafe Before new crowds = (s : ℕ) (p : Place) (x : ℕ) → Has crowds s p x → Holds new p x → IsSafe Before s new.step

-- a clash with a writer, or of a writer with a reader
with_writer : (Before : ℕ → ℕ → Type 0) (new : Entry) (before : Line) (writes : Bool) (s : ℕ) → Clashes Before new before.writes.items s → LineClashes Before new writes before s
with_writer Before new before writes s c = record { kind = true; place = c.place; at = c.at; has = inl c.has; in_new = c.in_new; one_writes = inl refl; unsafe = c.unsafe }

with_reader : (Before : ℕ → ℕ → Type 0) (new : Entry) (before : Line) (s : ℕ) → Clashes Before new before.reads.items s → LineClashes Before new true before s
with_reader Before new before s c = record { kind = false; place = c.place; at = c.at; has = inr (refl, c.has); in_new = c.in_new; one_writes = inr refl; unsafe = c.unsafe }

-- what a writer clashes with
module _ (Before : ℕ → ℕ → Type 0) (new : Entry) (before : Line) (a b latest : Option ℕ) (is : IsLater a b latest) (writers : Tells Before new before.writes.items a) (readers : Tells Before new before.reads.items b) where
  clash : IfSome latest (LineClashes Before new true before)
  clash = of_both a b latest (LineClashes Before new true before) is
      (if_then a (Clashes Before new before.writes.items) (LineClashes Before new true before) writers.clash (with_writer Before new before true))
      (if_then b (Clashes Before new before.reads.items) (LineClashes Before new true before) readers.clash (with_reader Before new before))

  clear : (w : Bool) (s : ℕ) (p : Place) (x : ℕ) → InLine before w s p x → Holds new p x → IsSafe Before s new.step ⊎ UpTo latest s
  clear w s p x (inl has) h = still (IsSafe Before s new.step) a latest s is.first (writers.rest s p x has h)
  clear w s p x (inr (reading, has)) h = still (IsSafe Before s new.step) b latest s is.second (readers.rest s p x has h)

  -- it is put beside what was there
  pub beside : (after : Line) → IsJoined Before new before.writes.items after.writes.items → after.reads ≡ before.reads → IsVisited Before new true before after latest
  beside after put same = record { clash = clash; clear = λ w s p x has h one. clear w s p x has h; left = λ w s p x has. left w s p x has; own = λ p x h. inl (put.own p x h); rest = λ w s p x has. rest w s p x has }
    where
      left : (w : Bool) (s : ℕ) (p : Place) (x : ℕ) → InLine before w s p x → InLine after w s p x ⊎ (InLine after w new.step p x × IsSafe Before s new.step)
      left w s p x (inl has) = at (put.left s p x has)
        where
          at : Has after.writes.items s p x ⊎ (Holds new p x × IsSafe Before s new.step) → InLine after w s p x ⊎ (InLine after w new.step p x × IsSafe Before s new.step)
          at (inl kept) = inl (inl kept)
          at (inr (h, safe)) = inr (inl (put.own p x h), safe)
      left w s p x (inr (reading, has)) = inl (inr (reading, rw same has))

      rest : (w : Bool) (s : ℕ) (p : Place) (x : ℕ) → InLine after w s p x → InLine before w s p x ⊎ ((w ≡ true → true ≡ true) × Holds new p x × (s ≡ new.step))
      rest w s p x (inr (reading, has)) = inl (inr (reading, subst (λ v. Has v.items s p x) same has))
      rest w s p x (inl has) = at (put.rest s p x has)
        where
          at : Has before.writes.items s p x ⊎ (Holds new p x × (s ≡ new.step)) → InLine before w s p x ⊎ ((w ≡ true → true ≡ true) × Holds new p x × (s ≡ new.step))
          at (inl old) = inl (inl old)
          at (inr (h, is)) = inr (λ t. refl, h, is)

-- where none clashes, all are safe
pub writers_safe : (Before : ℕ → ℕ → Type 0) (new : Entry) (crowds : List Crowd) (a b : Option ℕ) → IsLater a b None → Tells Before new crowds a → AreSafe Before new crowds
writers_safe Before new crowds a b is tells s p x has h = safe_of (IsSafe Before s new.step) s (still (IsSafe Before s new.step) a None s is.first (tells.rest s p x has h))

pub readers_safe : (Before : ℕ → ℕ → Type 0) (new : Entry) (crowds : List Crowd) (a b : Option ℕ) → IsLater a b None → Tells Before new crowds b → AreSafe Before new crowds
readers_safe Before new crowds a b is tells s p x has h = safe_of (IsSafe Before s new.step) s (still (IsSafe Before s new.step) b None s is.second (tells.rest s p x has h))

module _ (Before : ℕ → ℕ → Type 0) (new : Entry) (before after : Line) where
  -- a writer came, and clashes with none
  module _ (trimmed : List Crowd) (writers : AreSafe Before new before.writes.items) (readers : AreSafe Before new before.reads.items)
      (reads : IsTrimmed new before.reads.items after.reads.items) (writes : IsTrimmed new before.writes.items trimmed) (put : IsJoined Before new trimmed after.writes.items) where
    all_safe : (w : Bool) (s : ℕ) (p : Place) (x : ℕ) → InLine before w s p x → Holds new p x → IsSafe Before s new.step
    all_safe w s p x (inl has) h = writers s p x has h
    all_safe w s p x (inr (reading, has)) h = readers s p x has h

    new_there : (w : Bool) (p : Place) (x : ℕ) → Holds new p x → InLine after w new.step p x
    new_there w p x h = inl (put.own p x h)

    pub written : IsVisited Before new true before after None
    written = record { clash = tt; clear = λ w s p x has h one. inl (all_safe w s p x has h); left = λ w s p x has. left w s p x has; own = λ p x h. new_there true p x h; rest = λ w s p x has. rest w s p x has }
      where
        left : (w : Bool) (s : ℕ) (p : Place) (x : ℕ) → InLine before w s p x → InLine after w s p x ⊎ (InLine after w new.step p x × IsSafe Before s new.step)
        left w s p x (inl has) = at (writes.left s p x has)
          where
            on : Has after.writes.items s p x ⊎ (Holds new p x × IsSafe Before s new.step) → InLine after w s p x ⊎ (InLine after w new.step p x × IsSafe Before s new.step)
            on (inl kept) = inl (inl kept)
            on (inr (h, safe)) = inr (new_there w p x h, safe)

            at : Has trimmed s p x ⊎ Holds new p x → InLine after w s p x ⊎ (InLine after w new.step p x × IsSafe Before s new.step)
            at (inl kept) = on (put.left s p x kept)
            at (inr h) = inr (new_there w p x h, writers s p x has h)
        left w s p x (inr (reading, has)) = at (reads.left s p x has)
          where
            at : Has after.reads.items s p x ⊎ Holds new p x → InLine after w s p x ⊎ (InLine after w new.step p x × IsSafe Before s new.step)
            at (inl kept) = inl (inr (reading, kept))
            at (inr h) = inr (new_there w p x h, readers s p x has h)

        rest : (w : Bool) (s : ℕ) (p : Place) (x : ℕ) → InLine after w s p x → InLine before w s p x ⊎ ((w ≡ true → true ≡ true) × Holds new p x × (s ≡ new.step))
        rest w s p x (inr (reading, has)) = inl (inr (reading, reads.rest s p x has))
        rest w s p x (inl has) = at (put.rest s p x has)
          where
            at : Has trimmed s p x ⊎ (Holds new p x × (s ≡ new.step)) → InLine before w s p x ⊎ ((w ≡ true → true ≡ true) × Holds new p x × (s ≡ new.step))
            at (inl old) = inl (inl (writes.rest s p x old))
            at (inr (h, is)) = inr (λ t. refl, h, is)

  -- a reader came
  module _ (latest : Option ℕ) (writers : Tells Before new before.writes.items latest) (same : after.writes ≡ before.writes) (reads : IsJoined Before new before.reads.items after.reads.items) where
    pub read : IsVisited Before new false before after latest
    read = record { clash = if_then latest (Clashes Before new before.writes.items) (LineClashes Before new false before) writers.clash (with_writer Before new before false); clear = λ w s p x has h one. clear w s p x has h one; left = λ w s p x has. left w s p x has; own = λ p x h. inr (refl, reads.own p x h); rest = λ w s p x has. rest w s p x has }
      where
        clear : (w : Bool) (s : ℕ) (p : Place) (x : ℕ) → InLine before w s p x → Holds new p x → (w ≡ true) ⊎ (false ≡ true) → IsSafe Before s new.step ⊎ UpTo latest s
        clear w s p x (inl has) h one = writers.rest s p x has h
        clear w s p x (inr (reading, has)) h (inl writing) = absurd (both_ways w reading writing)
        clear w s p x (inr (reading, has)) h (inr wrong) = absurd (let e : false ≡ true = wrong in cc)

        left : (w : Bool) (s : ℕ) (p : Place) (x : ℕ) → InLine before w s p x → InLine after w s p x ⊎ (InLine after w new.step p x × IsSafe Before s new.step)
        left w s p x (inl has) = inl (inl (rw same has))
        left w s p x (inr (reading, has)) = at (reads.left s p x has)
          where
            at : Has after.reads.items s p x ⊎ (Holds new p x × IsSafe Before s new.step) → InLine after w s p x ⊎ (InLine after w new.step p x × IsSafe Before s new.step)
            at (inl kept) = inl (inr (reading, kept))
            at (inr (h, safe)) = inr (inr (reading, reads.own p x h), safe)

        rest : (w : Bool) (s : ℕ) (p : Place) (x : ℕ) → InLine after w s p x → InLine before w s p x ⊎ ((w ≡ true → false ≡ true) × Holds new p x × (s ≡ new.step))
        rest w s p x (inl has) = inl (inl (subst (λ v. Has v.items s p x) same has))
        rest w s p x (inr (reading, has)) = at (reads.rest s p x has)
          where
            at : Has before.reads.items s p x ⊎ (Holds new p x × (s ≡ new.step)) → InLine before w s p x ⊎ ((w ≡ true → false ≡ true) × Holds new p x × (s ≡ new.step))
            at (inl old) = inl (inr (reading, old))
            at (inr (h, is)) = inr (λ t. absurd (both_ways w reading t), h, is)
