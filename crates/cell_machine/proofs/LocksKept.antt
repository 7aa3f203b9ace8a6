-- On a run a PUTLLC stores exactly where its line is reserved.
use Rattle.std.proofs.Common.{◌≡◌, ℕ, ◌+◌, ◌<◌, ◌≤◌, ◌↔◌, ◌==◌, ◌&&◌, Bool, true, false, List, [], ◌∷◌, ◌++◌, length, arith, refl, sym, ◌∙◌, ap, subst, true≢false, append_assoc, append-nil}
use Rattle.std.specs.Prelude.{Option, Some, None, slice_get, cond, option_and_then}
use Rattle.std.specs.Option.{option_map_or}
use Rattle.std.proofs.lemmas.Bool.Decides.{nat_tests}
use Rattle.cell_base.specs.declared.steps.Step.{Step}
use Rattle.cell_base.specs.declared.steps.Step.TheVariants.{Exec, Piece, Elem, Retire, Atomic, Host}
use Rattle.mfc_command.specs.declared.command.AtomicOp.{AtomicOp}
use Rattle.mfc_command.specs.declared.command.AtomicKind.{AtomicKind}
use Rattle.mfc_command.specs.declared.command.AtomicKind.TheVariants.{GetLine, PutCond, PutLine}
use Rattle.lock_lines.specs.Versions.{Reserved, version_of, raised, is_current}
use Rattle.lock_lines.proofs.VersionLaws.{version-same, version-other}
use Rattle.cell_machine.specs.Spe.{Spe}
use Rattle.cell_machine.specs.State.{State}
use Rattle.cell_machine.specs.Memory.{MainMemory}
use Rattle.cell_machine.specs.Atomic.{holds, reserved_after}
use Rattle.cell_machine.specs.Next.{next}
use Rattle.cell_machine.specs.Opening.{opening}
use Rattle.cell_machine.specs.Run.{Ran, replay, spe_of, state_of}
use Rattle.cell_machine.specs.Order.{after_steps}
use Rattle.cell_machine.proofs.Same.{eq_is}
use Rattle.cell_machine.proofs.Completion.{some-of}
use Rattle.cell_machine.proofs.Replays.{replay-snoc}
use Rattle.cell_machine.specs.Locks.{stored_by_atomic, stored_by, StoresTo, Does, is_lock, IsReserved, AreLocksKept}

-- ---- the versions after a step

-- after a store to a line, if there is one
abbrev pub raised_by : List ℕ → Option ℕ → List ℕ
raised_by versions None = versions
raised_by versions (Some line) = raised versions line

-- ---- a version, and who is at it

-- no reservation is of a later version than its line has
abbrev pub IsPast : List ℕ → Option Reserved → Type 0
IsPast versions o = (r : Reserved) → o ≡ Some r → r.version ≤ version_of versions r.line

abbrev pub IsIn : List ℕ → Option ℕ → Type 0
IsIn versions o = (line : ℕ) → o ≡ Some line → line < length versions

num-eq : (a b : ℕ) → a ≡ b → (a == b) ≡ true
num-eq a b e = grind (arith, nat_tests)

pub raised-other : (versions : List ℕ) (o : Option ℕ) (line : ℕ) → (o ≡ Some line → ⊥) → version_of (raised_by versions o) line ≡ version_of versions line
raised-other versions None line h = refl
raised-other versions (Some l) line h = on (l == line) refl
  where
    on : (b : Bool) → (l == line) ≡ b → version_of (raised versions l) line ≡ version_of versions line
    on true e = absurd (h (ap Some (eq_is l line e)))
    on false e = version-other versions l line (version_of versions l + 1) e

pub raised-own : (versions : List ℕ) (o : Option ℕ) (line : ℕ) → IsIn versions o → o ≡ Some line → version_of versions line < version_of (raised_by versions o) line
raised-own versions None line inside h = absurd (cc)
raised-own versions (Some l) line inside h =
    let same : l ≡ line = cc in
    let new : version_of (raised versions l) line ≡ version_of versions l + 1 = version-same versions l line (version_of versions l + 1) (inside l refl) (num-eq l line same) in
    let old : version_of versions l ≡ version_of versions line = ap (version_of versions) same in
    omega arith

-- the line of a reservation, by the versions
abbrev at_line : List ℕ → ℕ → Option Reserved → Bool
at_line versions line o = option_map_or (is_current versions line) o false

stays-at : (versions : List ℕ) (o : Option ℕ) (line : ℕ) (was : Option Reserved) → (o ≡ Some line → ⊥) → at_line (raised_by versions o) line was ≡ at_line versions line was
stays-at versions o line was h = ap (λ n. option_map_or (λ (r : Reserved). r.line == line && r.version == n) was false) (raised-other versions o line h)

-- a reservation that is at its line after a step was there before, and the step didn't store to the line
not-stored : (versions : List ℕ) (o : Option ℕ) (line : ℕ) (was : Option Reserved) → IsPast versions was → IsIn versions o → at_line (raised_by versions o) line was ≡ true → o ≡ Some line → ⊥
not-stored versions o line None past inside h e = true≢false (sym h)
not-stored versions o line (Some r) past inside h e =
    let two = parts (r.line == line) (r.version == version_of (raised_by versions o) line) h in
    let to : r.line ≡ line = eq_is r.line line two.0 in
    let at : r.version ≡ version_of (raised_by versions o) line = eq_is r.version (version_of (raised_by versions o) line) two.1 in
    let low : r.version ≤ version_of versions line = subst (λ l. r.version ≤ version_of versions l) to (past r refl) in
    let up : version_of versions line < version_of (raised_by versions o) line = raised-own versions o line inside e in
    omega arith
  where
    parts : (a b : Bool) → (a && b) ≡ true → (a ≡ true) × (b ≡ true)
    parts true b k = (refl, k)
    parts false b k = absurd (true≢false (sym k))

-- ---- the reservation after a step

-- by the command in the slot
abbrev pub locked_by : List ℕ → Spe → Option AtomicOp → Option Reserved
locked_by versions P None = P.reserved
locked_by versions P (Some a) = reserved_after a.kind (record { line = a.line; version = version_of versions a.line }) P.reserved

-- what processor p, which is P, reserves after the step
abbrev pub reserved_next : List ℕ → Step → ℕ → Spe → Option Reserved
reserved_next versions (Atomic q) p P = cond (q == p) (locked_by versions P P.channels.slot) P.reserved
reserved_next versions (Exec q) p P = P.reserved
reserved_next versions (Piece q c e k) p P = P.reserved
reserved_next versions (Elem q c) p P = P.reserved
reserved_next versions (Retire q c) p P = P.reserved
reserved_next versions Host p P = P.reserved

-- it is a GETLLAR or PUTLLC of the processor, or the reservation stays
next_cases : (versions : List ℕ) (s : Step) (p : ℕ) (P : Spe) (G : Type 0)
    → ((a : AtomicOp) → s ≡ Atomic p → P.channels.slot ≡ Some a → is_lock a.kind ≡ true → reserved_next versions s p P ≡ locked_by versions P (Some a) → G)
    → (((a : AtomicOp) → s ≡ Atomic p → P.channels.slot ≡ Some a → is_lock a.kind ≡ false) → reserved_next versions s p P ≡ P.reserved → G) → G
next_cases versions (Exec q) p P G locks stays = stays (λ a e. absurd (cc)) refl
next_cases versions (Piece q c e k) p P G locks stays = stays (λ a f. absurd (cc)) refl
next_cases versions (Elem q c) p P G locks stays = stays (λ a e. absurd (cc)) refl
next_cases versions (Retire q c) p P G locks stays = stays (λ a e. absurd (cc)) refl
next_cases versions Host p P G locks stays = stays (λ a e. absurd (cc)) refl
next_cases versions (Atomic q) p P G locks stays = on (q == p) refl
  where
    same : (q ≡ p) → Atomic q ≡ Atomic p
    same e = ap Atomic e

    other : (q == p) ≡ false → Atomic q ≡ Atomic p → ⊥
    other e f = let g : q ≡ p = cc in true≢false (sym (num-eq q p g) ∙ e)

    one : (a b : AtomicOp) → Some a ≡ Some b → a ≡ b
    one a b e = cc

    kinds : (q == p) ≡ true → (a : AtomicOp) → P.channels.slot ≡ Some a → (k : AtomicKind) → a.kind ≡ k → G
    kinds e a at GetLine is = locks a (same (eq_is q p e)) at (ap is_lock is) (rw (e, at) refl)
    kinds e a at PutCond is = locks a (same (eq_is q p e)) at (ap is_lock is) (rw (e, at) refl)
    kinds e a at PutLine is = stays (λ b f g. ap (λ (x : AtomicOp). is_lock x.kind) (one b a (sym g ∙ at)) ∙ ap is_lock is) (rw (e, at, is) refl)

    slots : (q == p) ≡ true → (o : Option AtomicOp) → P.channels.slot ≡ o → G
    slots e None at = stays (λ a f g. absurd (cc)) (rw (e, at) refl)
    slots e (Some a) at = kinds e a at a.kind refl

    on : (b : Bool) → (q == p) ≡ b → G
    on true e = slots e P.channels.slot refl
    on false e = stays (λ a f. absurd (other e f)) (rw e refl)

-- ---- one step of a machine, for one processor

-- what a step from M to N does to processor p, which is P there and Q here
pub record Stepped (M : State) (s : Step) (N : State) (p : ℕ) (P Q : Spe) : Type 0 where
  pub versions : N.memory.versions ≡ raised_by M.memory.versions (stored_by M s)
  pub reserved : Q.reserved ≡ reserved_next M.memory.versions s p P
  pub inside : IsIn M.memory.versions (stored_by M s)
  pub past : IsPast M.memory.versions P.reserved

-- a GETLLAR or PUTLLC of its, by its slot
abbrev Locks : Step → ℕ → Spe → AtomicOp → Type 0
Locks s p P a = (s ≡ Atomic p) × (P.channels.slot ≡ Some a)

-- why it holds the line: it got it now, or it held it before
data Why (M : State) (s : Step) (p line : ℕ) (P : Spe) : Type 0 where
  gets : (a : AtomicOp) → Locks s p P a → a.kind ≡ GetLine → a.line ≡ line → Why M s p line P
  stays : ((a : AtomicOp) → Locks s p P a → is_lock a.kind ≡ false) → holds M.memory P line ≡ true → (stored_by M s ≡ Some line → ⊥) → Why M s p line P

held-why : (M : State) (s : Step) (N : State) (p line : ℕ) (P Q : Spe) → Stepped M s N p P Q → holds N.memory Q line ≡ true → Why M s p line P
held-why M s N p line P Q step h =
    next_cases M.memory.versions s p P (Why M s p line P)
    (λ a is at lock next. locked a is at lock (sym (same ∙ ap (at_line after line) next) ∙ h))
    (λ none next.
    let now : at_line after line P.reserved ≡ true = sym (same ∙ ap (at_line after line) next) ∙ h in
    let other : stored_by M s ≡ Some line → ⊥ = not-stored M.memory.versions (stored_by M s) line P.reserved step.past step.inside now in
    stays (λ a l. none a l.0 l.1) (sym (stays-at M.memory.versions (stored_by M s) line P.reserved other) ∙ now) other)
  where
    after : List ℕ
    after = raised_by M.memory.versions (stored_by M s)

    same : at_line N.memory.versions line Q.reserved ≡ at_line after line (reserved_next M.memory.versions s p P)
    same = ap (λ v. at_line v line Q.reserved) step.versions ∙ ap (at_line after line) step.reserved

    locked : (a : AtomicOp) → s ≡ Atomic p → P.channels.slot ≡ Some a → is_lock a.kind ≡ true → at_line after line (locked_by M.memory.versions P (Some a)) ≡ true → Why M s p line P
    locked a is at lock g = kinds a.kind refl
      where
        head : (x y : Bool) → (x && y) ≡ true → x ≡ true
        head true y k = refl
        head false y k = absurd (true≢false (sym k))

        kinds : (k : AtomicKind) → a.kind ≡ k → Why M s p line P
        kinds GetLine e =
            let now : Reserved = record { line = a.line; version = version_of M.memory.versions a.line } in
            let got : at_line after line (Some now) ≡ true = sym (ap (λ k. at_line after line (reserved_after k now P.reserved)) e) ∙ g in
            gets a (is, at) e (eq_is a.line line (head (a.line == line) (now.version == version_of after line) got))
        kinds PutCond e =
            let now : Reserved = record { line = a.line; version = version_of M.memory.versions a.line } in
            absurd (true≢false (sym (sym (ap (λ k. at_line after line (reserved_after k now P.reserved)) e) ∙ g)))
        kinds PutLine e = absurd (true≢false (sym lock ∙ ap is_lock e))

-- a line that it holds stays held by each step that is no lock of its and doesn't store to the line
held-stays : (M : State) (s : Step) (N : State) (p line : ℕ) (P Q : Spe) → Stepped M s N p P Q → ((a : AtomicOp) → Locks s p P a → is_lock a.kind ≡ false)
    → (stored_by M s ≡ Some line → ⊥) → holds M.memory P line ≡ true → holds N.memory Q line ≡ true
held-stays M s N p line P Q step none other h =
    next_cases M.memory.versions s p P (holds N.memory Q line ≡ true)
    (λ a is at lock next. absurd (true≢false (sym lock ∙ none a (is, at))))
    (λ k next.
    ap (λ v. at_line v line Q.reserved) step.versions ∙ ap (at_line (raised_by M.memory.versions (stored_by M s)) line) (step.reserved ∙ next)
    ∙ stays-at M.memory.versions (stored_by M s) line P.reserved other ∙ h)

-- a line is held after its GETLLAR
got-held : (M : State) (N : State) (p : ℕ) (P Q : Spe) (a : AtomicOp) → Stepped M (Atomic p) N p P Q → slice_get M.spes p ≡ Some P → P.channels.slot ≡ Some a → a.kind ≡ GetLine → holds N.memory Q a.line ≡ true
got-held M N p P Q a step there at is =
    let none : stored_by M (Atomic p) ≡ None = rw (there, at, is) refl in
    let next : reserved_next M.memory.versions (Atomic p) p P ≡ Some (record { line = a.line; version = version_of M.memory.versions a.line }) = rw (num-eq p p refl, at, is) refl in
    ap (λ v. at_line v a.line Q.reserved) (step.versions ∙ ap (raised_by M.memory.versions) none)
    ∙ ap (at_line M.memory.versions a.line) (step.reserved ∙ next)
    ∙ both (a.line == a.line) (version_of M.memory.versions a.line == version_of M.memory.versions a.line) (num-eq a.line a.line refl) (num-eq (version_of M.memory.versions a.line) (version_of M.memory.versions a.line) refl)
  where
    both : (x y : Bool) → x ≡ true → y ≡ true → (x && y) ≡ true
    both x y e f = rw (e, f) refl

-- ---- on a run

-- what each step of a run does to each processor
pub record StepsAre (m : Ran) : Type 0 where
  pub steps : (before : List Step) (s : Step) (M N : State) (p : ℕ) (Q : Spe) → state_of (after_steps m before) ≡ Some M → next M s ≡ Some N → slice_get N.spes p ≡ Some Q
      → (P : Spe) × (slice_get M.spes p ≡ Some P) × Stepped M s N p P Q
  pub starts : (p : ℕ) (P : Spe) → slice_get (opening m.setup).spes p ≡ Some P → P.reserved ≡ None

-- the last step of a run
last_step : (m : Ran) (before : List Step) (s : Step) (N : State) → state_of (after_steps m (before ++ s ∷ [])) ≡ Some N
    → (M : State) × (state_of (after_steps m before) ≡ Some M) × (next M s ≡ Some N)
last_step m before s N e = some-of (λ K. next K s) (replay (opening m.setup) before) N (sym (replay-snoc (opening m.setup) before s) ∙ e)

does-slot : (m : Ran) (before : List Step) (s : Step) (M : State) (p : ℕ) (P : Spe) (a : AtomicOp) → state_of (after_steps m before) ≡ Some M → slice_get M.spes p ≡ Some P → Does m before p a s → P.channels.slot ≡ Some a
does-slot m before s M p P a e at does = sym (ap (λ o. option_and_then (λ (R : Spe). R.channels.slot) (option_and_then (λ (L : State). slice_get L.spes p) o)) e ∙ ap (option_and_then (λ (R : Spe). R.channels.slot)) at) ∙ does.slot

slot-does : (m : Ran) (before : List Step) (s : Step) (M : State) (p : ℕ) (P : Spe) (a : AtomicOp) → state_of (after_steps m before) ≡ Some M → slice_get M.spes p ≡ Some P → Locks s p P a → Does m before p a s
slot-does m before s M p P a e at locks = record {
  step = locks.0;
  slot = ap (λ o. option_and_then (λ (R : Spe). R.channels.slot) (option_and_then (λ (L : State). slice_get L.spes p) o)) e ∙ ap (option_and_then (λ (R : Spe). R.channels.slot)) at ∙ locks.1;
}

stores-here : (m : Ran) (before : List Step) (s : Step) (M : State) (line : ℕ) → state_of (after_steps m before) ≡ Some M → StoresTo m before s line → stored_by M s ≡ Some line
stores-here m before s M line e stores = sym (ap (option_and_then (λ (L : State). stored_by L s)) e) ∙ stores

here-stores : (m : Ran) (before : List Step) (s : Step) (M : State) (line : ℕ) → state_of (after_steps m before) ≡ Some M → stored_by M s ≡ Some line → StoresTo m before s line
here-stores m before s M line e stores = ap (option_and_then (λ (L : State). stored_by L s)) e ∙ stores

-- the last of some steps is the last, or stands among the earlier ones
split_last : {X : Type 0} (xs x y : List X) (s t : X) (G : Type 0) → xs ++ s ∷ [] ≡ x ++ t ∷ y → (xs ≡ x → s ≡ t → G) → ((z : List X) → xs ≡ x ++ t ∷ z → G) → G
split_last [] [] y s t G e last among = last refl (cc)
split_last [] (u ∷ []) y s t G e last among = absurd (cc)
split_last [] (u ∷ v ∷ x) y s t G e last among = absurd (cc)
split_last (w ∷ xs) [] y s t G e last among = among xs (let same : w ≡ t = cc in ap (λ k. k ∷ xs) same)
split_last (w ∷ xs) (u ∷ x) y s t G e last among =
    let same : w ≡ u = cc in
    let rest : xs ++ s ∷ [] ≡ x ++ t ∷ y = cc in
    split_last xs x y s t G rest (λ f g. last (ap (λ k. k ∷ xs) same ∙ ap (λ k. u ∷ k) f) g) (λ z f. among z (ap (λ k. k ∷ xs) same ∙ ap (λ k. u ∷ k) f))

no_split : {X : Type 0} (x y : List X) (t : X) → [] ≡ x ++ t ∷ y → ⊥
no_split [] y t e = cc
no_split (u ∷ x) y t e = cc

-- reserved by a GETLLAR
reserved-got : (m : Ran) (before : List Step) (s : Step) (p : ℕ) (a : AtomicOp) → Does m before p a s → a.kind ≡ GetLine → IsReserved m (before ++ s ∷ []) p a.line
reserved-got m before s p a does kind = record {
  first = before;
  got = s;
  between = [];
  cut = refl;
  op = a;
  does = does;
  gets = kind;
  line_is = refl;
  latest = λ x y t b e d. absurd (no_split x y t e);
  untouched = λ x y t e d. absurd (no_split x y t e);
}

-- and still after a step that is no lock of its and doesn't store to the line
reserved-more : (m : Ran) (before : List Step) (s : Step) (p line : ℕ) → IsReserved m before p line → ((a : AtomicOp) → Does m before p a s → is_lock a.kind ≡ false)
    → (StoresTo m before s line → ⊥) → IsReserved m (before ++ s ∷ []) p line
reserved-more m before s p line r none other = record {
  first = r.first;
  got = r.got;
  between = r.between ++ s ∷ [];
  cut = ap (λ k. k ++ s ∷ []) r.cut ∙ append_assoc r.first (r.got ∷ r.between) (s ∷ []);
  op = r.op;
  does = r.does;
  gets = r.gets;
  line_is = r.line_is;
  latest = λ x y t b e d. split_last r.between x y s t (is_lock b.kind ≡ false) e
      (λ f g. none b (subst (λ k. Does m k p b s) (ap (λ k. r.first ++ r.got ∷ k) (sym f) ∙ sym r.cut) (subst (Does m (r.first ++ r.got ∷ x) p b) (sym g) d)))
      (λ z f. r.latest x z t b f d);
  untouched = λ x y t e d. split_last r.between x y s t ⊥ e
      (λ f g. other (subst (λ k. StoresTo m k s line) (ap (λ k. r.first ++ r.got ∷ k) (sym f) ∙ sym r.cut) (subst (λ k. StoresTo m (r.first ++ r.got ∷ x) k line) (sym g) d)))
      (λ z f. r.untouched x z t f d);
}

-- what holds at the start and is kept by each step holds after all
walked : (K : List Step → Type 0) → ((done : List Step) (s : Step) → K done → K (done ++ s ∷ [])) → (done rest : List Step) → K done → K (done ++ rest)
walked K step done [] k = subst K (sym (append-nil done)) k
walked K step done (s ∷ rest) k = subst K (append_assoc done (s ∷ []) rest) (walked K step (done ++ s ∷ []) rest (step done s k))

-- a line that is held is reserved
abbrev HeldIs : Ran → ℕ → ℕ → List Step → Type 0
HeldIs m p line done = (M : State) (P : Spe) → state_of (after_steps m done) ≡ Some M → slice_get M.spes p ≡ Some P → holds M.memory P line ≡ true → IsReserved m done p line

held-more : (m : Ran) (p line : ℕ) → StepsAre m → (done : List Step) (s : Step) → HeldIs m p line done → HeldIs m p line (done ++ s ∷ [])
held-more m p line are done s is N Q e at h =
    let last = last_step m done s N e in
    let was = are.steps done s last.0 N p Q last.1 last.2 at in
    on last.0 was.0 last.1 was.1 (held-why last.0 s N p line was.0 Q was.2 h)
  where
    on : (M : State) (P : Spe) → state_of (after_steps m done) ≡ Some M → slice_get M.spes p ≡ Some P → Why M s p line P → IsReserved m (done ++ s ∷ []) p line
    on M P f there (gets a locks kind to) = subst (IsReserved m (done ++ s ∷ []) p) to (reserved-got m done s p a (slot-does m done s M p P a f there locks) kind)
    on M P f there (stays none held other) =
        reserved-more m done s p line (is M P f there held)
        (λ a does. none a (does.step, does-slot m done s M p P a f there does))
        (λ stores. other (stores-here m done s M line f stores))

held-none : (m : Ran) (p line : ℕ) → StepsAre m → HeldIs m p line []
held-none m p line are M P e at h =
    let same : opening m.setup ≡ M = cc in
    let none : P.reserved ≡ None = are.starts p P (subst (λ (L : State). slice_get L.spes p ≡ Some P) (sym same) at) in
    absurd (true≢false (sym h ∙ ap (at_line M.memory.versions line) none))

held-reserved : (m : Ran) (p line : ℕ) → StepsAre m → (done : List Step) → HeldIs m p line done
held-reserved m p line are done = walked (HeldIs m p line) (held-more m p line are) [] done (held-none m p line are)

-- it is held behind these steps
abbrev HeldAt : Ran → ℕ → ℕ → List Step → Type 0
HeldAt m p line steps = (N : State) (Q : Spe) → state_of (after_steps m steps) ≡ Some N → slice_get N.spes p ≡ Some Q → holds N.memory Q line ≡ true

-- and a line that is reserved is held
reserved-held : (m : Ran) (p line : ℕ) → StepsAre m → (before : List Step) → IsReserved m before p line → (M : State) (P : Spe) → state_of (after_steps m before) ≡ Some M → slice_get M.spes p ≡ Some P → holds M.memory P line ≡ true
reserved-held m p line are before r M P e at = ends [] r.between refl begin M P (subst (λ k. state_of (after_steps m k) ≡ Some M) r.cut e) at
  where
    begin : HeldAt m p line (r.first ++ r.got ∷ [])
    begin N Q f there =
        let last = last_step m r.first r.got N f in
        let was = are.steps r.first r.got last.0 N p Q last.1 last.2 there in
        let slot = does-slot m r.first r.got last.0 p was.0 r.op last.1 was.1 r.does in
        let step : Stepped last.0 (Atomic p) N p was.0 Q = subst (λ s. Stepped last.0 s N p was.0 Q) r.does.step was.2 in
        subst (λ l. holds N.memory Q l ≡ true) r.line_is (got-held last.0 N p was.0 Q r.op step was.1 slot r.gets)

    more : (x y : List Step) (s : Step) → r.between ≡ x ++ s ∷ y → HeldAt m p line (r.first ++ r.got ∷ x) → HeldAt m p line (r.first ++ r.got ∷ (x ++ s ∷ []))
    more x y s cut held N Q f there =
        let last = last_step m (r.first ++ r.got ∷ x) s N (subst (λ k. state_of (after_steps m k) ≡ Some N) (sym (append_assoc r.first (r.got ∷ x) (s ∷ []))) f) in
        let was = are.steps (r.first ++ r.got ∷ x) s last.0 N p Q last.1 last.2 there in
        held-stays last.0 s N p line was.0 Q was.2
        (λ a locks. r.latest x y s a cut (slot-does m (r.first ++ r.got ∷ x) s last.0 p was.0 a last.1 was.1 locks))
        (λ stores. r.untouched x y s cut (here-stores m (r.first ++ r.got ∷ x) s last.0 line last.1 stores))
        (held last.0 was.0 last.1 was.1)

    ends : (x y : List Step) → r.between ≡ x ++ y → HeldAt m p line (r.first ++ r.got ∷ x) → HeldAt m p line (r.first ++ r.got ∷ r.between)
    ends x [] cut held = subst (λ k. HeldAt m p line (r.first ++ r.got ∷ k)) (sym (cut ∙ append-nil x)) held
    ends x (s ∷ y) cut held = ends (x ++ s ∷ []) y (cut ∙ sym (append_assoc x (s ∷ []) y)) (more x y s cut held)

-- a PUTLLC stores where its processor holds the line
stores-held : (memory : MainMemory) (P : Spe) (a : AtomicOp) → a.kind ≡ PutCond → (stored_by_atomic memory P a ≡ Some a.line → holds memory P a.line ≡ true) × (holds memory P a.line ≡ true → stored_by_atomic memory P a ≡ Some a.line)
stores-held memory P a is = (to (holds memory P a.line) refl, λ h. rw (is, h) refl)
  where
    to : (b : Bool) → holds memory P a.line ≡ b → stored_by_atomic memory P a ≡ Some a.line → b ≡ true
    to true e f = refl
    to false e f = let lost : stored_by_atomic memory P a ≡ None = rw (is, e) refl in absurd (let g : None ≡ Some a.line = sym lost ∙ f in cc)

pub locks-kept : (m : Ran) → StepsAre m → AreLocksKept m
locks-kept m are = record { stores = λ before after s p a e does is. each before s p a does is }
  where
    found : (before : List Step) (p : ℕ) (a : AtomicOp) → option_and_then (λ (P : Spe). P.channels.slot) (spe_of (after_steps m before) p) ≡ Some a
        → (M : State) × (P : Spe) × (state_of (after_steps m before) ≡ Some M) × (slice_get M.spes p ≡ Some P) × (P.channels.slot ≡ Some a)
    found before p a e =
        let spe = some-of (λ (P : Spe). P.channels.slot) (spe_of (after_steps m before) p) a e in
        let state = some-of (λ (M : State). slice_get M.spes p) (state_of (after_steps m before)) spe.0 spe.1 in
        (state.0, spe.0, state.1, state.2, spe.2)

    each : (before : List Step) (s : Step) (p : ℕ) (a : AtomicOp) → Does m before p a s → a.kind ≡ PutCond → StoresTo m before s a.line ↔ IsReserved m before p a.line
    each before s p a does is =
        let f = found before p a does.slot in
        let M = f.0 in
        let P = f.1 in
        let at : stored_by M (Atomic p) ≡ stored_by_atomic M.memory P a = rw (f.3, f.4) refl in
        let two = stores-held M.memory P a is in (
          λ stores. held-reserved m p a.line are before M P f.2 f.3 (two.0 (sym at ∙ ap (stored_by M) (sym does.step) ∙ stores-here m before s M a.line f.2 stores)),
          λ reserved. here-stores m before s M a.line f.2 (ap (stored_by M) does.step ∙ at ∙ two.1 (reserved-held m p a.line are before reserved M P f.2 f.3)),
        )
