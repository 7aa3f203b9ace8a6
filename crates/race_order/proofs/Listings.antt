-- The lists of a step are what they have to be.
use Rattle.std.proofs.Common.{◌≡◌, ℕ, ◌<◌, ◌==◌, ◌&&◌, Bool, true, false, ◌||◌, List, [], ◌∷◌, ◌++◌, map, Option, Some, None, ◌⊎◌, inl, inr, refl, sym, ap, ap₂, ◌∙◌, subst}
use Rattle.std.specs.Prelude.{◌↔◌, filter, IsBitSet, cond}
use Rattle.std.proofs.lemmas.Nat.{bit_set_by_shift}
use Rattle.order_sets.specs.declared.facts.At.{At}
use Rattle.race_order.specs.Roles.{read_roles}
use Rattle.race_order.proofs.Among.{Among, Found}
use Rattle.race_order.proofs.Sees.{LooksAt}
use Rattle.race_order.proofs.Answering.{IsKnown}
use Rattle.std.specs.List.{list_any}
use Rattle.std.proofs.lemmas.Bool.{or_cases, or_left, or_right, and_from, and_parts, eqb-true, eq-eqb}
use Rattle.std.proofs.lemmas.List.Folds.{list_any-append}
use Rattle.cell_base.specs.declared.steps.Step.{Step}
use Rattle.cell_base.specs.declared.steps.Step.TheVariants.{Exec, Piece, Elem, Retire, Atomic, Host}
use Rattle.mfc_command.specs.declared.command.Command.{Command}
use Rattle.cell_machine.specs.declared.effect.Note.{Note}
use Rattle.cell_machine.specs.declared.effect.Note.TheVariants.{Issue, TagRead, StallRead}
use Rattle.race_order.specs.Trace.{Event, Trace, is_of}
use Rattle.race_order.specs.declared.roles.Role.{Role}
use Rattle.race_order.specs.Roles.{write_roles, is_among as is_among_base}
use Rattle.race_order.specs.declared.lists.Issued.{Issued}
use Rattle.race_order.specs.declared.moves.Move.{Move}
use Rattle.race_order.specs.declared.roles.QueueRole.{QueueRole}
use Rattle.race_order.specs.declared.roles.QueueRole.TheVariants.{Base, Waits, Complete, Fixed, Stalled}
use Rattle.race_order.specs.Premises.{is_spe}
use Rattle.race_order.proofs.Nexts.{IssuesNow}
use Rattle.race_order.specs.Passes.{from_class, classes_ahead}
use Rattle.race_order.specs.Ordering.{issued_note, issued_in, self_roles, issue_list, spe_in, below, fix_move, fix_list, own_waits, seen_in, has_bit}
use Rattle.race_order.specs.Tables.{same_role, is_among}
use Rattle.race_order.proofs.Passed.{any_map, none_any}
use Rattle.race_order.proofs.Tags.{below_any, any_below}
use Rattle.race_order.proofs.Causes.{AreLists, IsIssue, IsFix}

note_is : (p : ℕ) (note : Note) (i : Issued) → issued_note p note ≡ Some i → (note ≡ Issue i.cmd i.command) × (p ≡ i.spe)
note_is p (Issue c command) i e = let s : record { spe = p; cmd = c; command = command } ≡ i = cc in (ap (λ (x : Issued). Issue x.cmd x.command) s, ap (λ (x : Issued). x.spe) s)
note_is p _ i e = cc

pub issued_is : (step : Step) (note : Note) (i : Issued) → issued_in step note ≡ Some i → (step ≡ Exec i.spe) × (note ≡ Issue i.cmd i.command)
issued_is (Exec p) note i e = let h = note_is p note i e in (ap Exec h.1, h.0)
issued_is _ note i e = cc

spe_is : (p : ℕ) (step : Step) → spe_in step ≡ Some p → is_spe p step ≡ true
spe_is p (Exec q) e = eq-eqb q p cc
spe_is p (Piece q d x k) e = eq-eqb q p cc
spe_is p (Elem q d) e = eq-eqb q p cc
spe_is p (Retire q d) e = eq-eqb q p cc
spe_is p (Atomic q) e = eq-eqb q p cc
spe_is p Host e = cc

is_spe_in : (p : ℕ) (step : Step) → is_spe p step ≡ true → spe_in step ≡ Some p
is_spe_in p (Exec q) e = ap Some (eqb-true q p e)
is_spe_in p (Piece q d x k) e = ap Some (eqb-true q p e)
is_spe_in p (Elem q d) e = ap Some (eqb-true q p e)
is_spe_in p (Retire q d) e = ap Some (eqb-true q p e)
is_spe_in p (Atomic q) e = ap Some (eqb-true q p e)
is_spe_in p Host e = cc

module _ (trace : Trace) (e : Event) where
  abbrev pub into_list : List QueueRole
  into_list = map Base (write_roles trace e) ++ self_roles (issued_in e.step e.effect.note)

  among_into : (r : QueueRole) → is_among r into_list ≡ (list_any (λ w. same_role (Base w) r) (write_roles trace e) || is_among r (self_roles (issued_in e.step e.effect.note)))
  among_into r = list_any-append (λ w. same_role w r) (map Base (write_roles trace e)) (self_roles (issued_in e.step e.effect.note)) ∙ ap (λ b. b || is_among r (self_roles (issued_in e.step e.effect.note))) (any_map (λ w. same_role w r) Base (write_roles trace e))

  never : false ≡ true → ⊥
  never x = cc

  no_base : (r : QueueRole) → ((w : Role) → same_role (Base w) r ≡ false) → list_any (λ w. same_role (Base w) r) (write_roles trace e) ≡ false
  no_base r h = none_any (λ w. same_role (Base w) r) (write_roles trace e) h

  self_of : (r : QueueRole) (o : Option Issued) → is_among r (self_roles o) ≡ true → (i : Issued) × (o ≡ Some i) × (same_role (Waits i.spe i.cmd) r ≡ true)
  self_of r None x = cc
  self_of r (Some i) x = (i, refl, one (or_cases (same_role (Waits i.spe i.cmd) r) false x))
    where
      one : (same_role (Waits i.spe i.cmd) r ≡ true) ⊎ (false ≡ true) → same_role (Waits i.spe i.cmd) r ≡ true
      one (inl y) = y
      one (inr y) = cc

  -- a role that isn't a plain one is that of the command issued
  only_self : (r : QueueRole) → ((w : Role) → same_role (Base w) r ≡ false) → is_among r into_list ≡ true → is_among r (self_roles (issued_in e.step e.effect.note)) ≡ true
  only_self r h x = ap (λ b. b || is_among r (self_roles (issued_in e.step e.effect.note))) (sym (no_base r h)) ∙ (sym (among_into r) ∙ x)

  base_is : (w : Role) → (is_among (Base w) into_list ≡ true) ↔ (is_among_base w (write_roles trace e) ≡ true)
  base_is w = (λ x. to (or_cases _ _ (sym (among_into (Base w)) ∙ x)), λ x. among_into (Base w) ∙ or_left _ _ x)
    where
      to : (list_any (λ v. same_role (Base v) (Base w)) (write_roles trace e) ≡ true) ⊎ (is_among (Base w) (self_roles (issued_in e.step e.effect.note)) ≡ true) → is_among_base w (write_roles trace e) ≡ true
      to (inl y) = y
      to (inr y) = let s = self_of (Base w) (issued_in e.step e.effect.note) y in absurd (never s.2)

  waits_is : (p d : ℕ) → (is_among (Waits p d) into_list ≡ true) ↔ ((command : Command) × IssuesNow e p d command)
  waits_is p d = (to, from)
    where
      to : is_among (Waits p d) into_list ≡ true → (command : Command) × IssuesNow e p d command
      to x =
          let s = self_of (Waits p d) (issued_in e.step e.effect.note) (only_self (Waits p d) (λ w. refl) x) in
          let h = issued_is e.step e.effect.note s.0 s.1 in
          let a = and_parts (s.0.spe == p) (s.0.cmd == d) s.2 in
          let sp : s.0.spe ≡ p = eqb-true s.0.spe p a.0 in
          let sc : s.0.cmd ≡ d = eqb-true s.0.cmd d a.1 in
          (s.0.command, record { is = h.0 ∙ ap Exec sp; notes = h.1 ∙ ap (λ v. Issue v s.0.command) sc })

      from : (command : Command) × IssuesNow e p d command → is_among (Waits p d) into_list ≡ true
      from h =
          let q : issued_in e.step e.effect.note ≡ Some record { spe = p; cmd = d; command = h.0 } = ap₂ issued_in h.1.is h.1.notes in
          among_into (Waits p d) ∙ or_right _ _ (subst (λ o. is_among (Waits p d) (self_roles o) ≡ true) (sym q) (or_left _ _ (and_from _ _ (eq-eqb p p refl) (eq-eqb d d refl))))

  issues_is : (g : Move → Bool) → (list_any g (issue_list (issued_in e.step e.effect.note)) ≡ true) ↔ IsIssue e g
  issues_is g = (λ x. to (issued_in e.step e.effect.note) refl x, from)
    where
      to : (o : Option Issued) → issued_in e.step e.effect.note ≡ o → list_any g (issue_list o) ≡ true → IsIssue e g
      to None q x = absurd (never x)
      to (Some i) q x = let h = issued_is e.step e.effect.note i q in record { p = i.spe; d = i.cmd; command = i.command; issues = record { is = h.0; notes = h.1 }; any = sym (any_map g (from_class i.spe i.cmd) (classes_ahead i.command)) ∙ x }

      from : IsIssue e g → list_any g (issue_list (issued_in e.step e.effect.note)) ≡ true
      from i =
          let q : issued_in e.step e.effect.note ≡ Some record { spe = i.p; cmd = i.d; command = i.command } = ap₂ issued_in i.issues.is i.issues.notes in
          subst (λ o. list_any g (issue_list o) ≡ true) (sym q) (any_map g (from_class i.p i.d) (classes_ahead i.command) ∙ i.any)

  fixes_is : (g : Move → Bool) → (list_any g (fix_list e.effect.fixed (spe_in e.step)) ≡ true) ↔ IsFix e g
  fixes_is g = (λ x. to e.effect.fixed refl (spe_in e.step) refl x, from)
    where
      to : (b : Bool) → e.effect.fixed ≡ b → (o : Option ℕ) → spe_in e.step ≡ o → list_any g (fix_list b o) ≡ true → IsFix e g
      to true f None q x = absurd (never x)
      to false f None q x = absurd (never x)
      to false f (Some p) q x = absurd (never x)
      to true f (Some p) q x =
          let t = below_any (λ k. g (fix_move p k)) 32 (sym (any_map g (fix_move p) (below 32)) ∙ x) in
          record { p = p; tag = t.0; low = t.1; fixes = record { is = spe_is p e.step q; fixed = f }; passes = t.2 }

      from : IsFix e g → list_any g (fix_list e.effect.fixed (spe_in e.step)) ≡ true
      from i =
          subst (λ b. list_any g (fix_list b (spe_in e.step)) ≡ true) (sym i.fixes.fixed)
          (subst (λ o. list_any g (fix_list true o) ≡ true) (sym (is_spe_in i.p e.step i.fixes.is)) (any_map g (fix_move i.p) (below 32) ∙ any_below (λ k. g (fix_move i.p k)) 32 i.tag i.low i.passes))

  -- the lists that the code makes
  pub are_lists : AreLists trace e into_list (issue_list (issued_in e.step e.effect.note)) (fix_list e.effect.fixed (spe_in e.step))
  are_lists =
      record {
        base = base_is;
        waits = waits_is;
        complete = λ p class x. never (self_of (Complete p class) (issued_in e.step e.effect.note) (only_self (Complete p class) (λ w. refl) x)).2;
        fixed = λ p g x. never (self_of (Fixed p g) (issued_in e.step e.effect.note) (only_self (Fixed p g) (λ w. refl) x)).2;
        stalled = λ p g x. never (self_of (Stalled p g) (issued_in e.step e.effect.note) (only_self (Stalled p g) (λ w. refl) x)).2;
        issues = issues_is;
        fixes = fixes_is;
      }

any_filter : {X : Type 0} (p q : X → Bool) (xs : List X) → list_any q (filter p xs) ≡ list_any (λ x. p x && q x) xs
any_filter p q [] = refl
any_filter p q (x ∷ xs) = by (p x) refl (any_filter p q xs)
  where
    by : (b : Bool) → p x ≡ b → list_any q (filter p xs) ≡ list_any (λ y. p y && q y) xs → list_any q (cond (p x) (x ∷ filter p xs) (filter p xs)) ≡ ((p x && q x) || list_any (λ y. p y && q y) xs)
    by true f h = ap (λ (b : Bool). list_any q (cond b (x ∷ filter p xs) (filter p xs))) f ∙ (ap (λ b. q x || b) h ∙ ap (λ (b : Bool). (b && q x) || list_any (λ y. p y && q y) xs) (sym f))
    by false f h = ap (λ (b : Bool). list_any q (cond b (x ∷ filter p xs) (filter p xs))) f ∙ (h ∙ ap (λ (b : Bool). (b && q x) || list_any (λ y. p y && q y) xs) (sym f))

-- what a step looks at, as a list
module _ (trace : Trace) (e : Event) where
  abbrev pub looked_list : List QueueRole
  looked_list = map Base (read_roles trace e) ++ (own_waits e.step ++ seen_in e.step e.effect.note)

  bit_is : (groups g : ℕ) → has_bit groups g ≡ true → IsBitSet groups g
  bit_is groups g x = (bit_set_by_shift groups g).0 (eqb-true _ 1 x)

  is_bit : (groups g : ℕ) → IsBitSet groups g → has_bit groups g ≡ true
  is_bit groups g x = eq-eqb _ 1 ((bit_set_by_shift groups g).1 x)

  -- a role of the list
  pub record Listed (r : QueueRole) (xs : List QueueRole) : Type 0 where
    pub among : list_any (λ w. same_role w r) xs ≡ true

  tag_found : (f : QueueRole → Bool) (mk : ℕ → QueueRole) (groups : ℕ) → list_any f (map mk (filter (has_bit groups) (below 32))) ≡ true → (g : ℕ) × (g < 32) × (has_bit groups g ≡ true) × (f (mk g) ≡ true)
  tag_found f mk groups x = by (below_any (λ g. has_bit groups g && f (mk g)) 32 (sym (any_filter (has_bit groups) (λ g. f (mk g)) (below 32)) ∙ (sym (any_map f mk (filter (has_bit groups) (below 32))) ∙ x)))
    where
      by : (g : ℕ) × (g < 32) × ((has_bit groups g && f (mk g)) ≡ true) → (g : ℕ) × (g < 32) × (has_bit groups g ≡ true) × (f (mk g) ≡ true)
      by h = let a = and_parts (has_bit groups h.0) (f (mk h.0)) h.2 in (h.0, h.1, a.0, a.1)

  found_tag : (f : QueueRole → Bool) (mk : ℕ → QueueRole) (groups g : ℕ) → g < 32 → has_bit groups g ≡ true → f (mk g) ≡ true → list_any f (map mk (filter (has_bit groups) (below 32))) ≡ true
  found_tag f mk groups g low b x =
      any_map f mk (filter (has_bit groups) (below 32)) ∙ (any_filter (has_bit groups) (λ k. f (mk k)) (below 32) ∙ any_below (λ k. has_bit groups k && f (mk k)) 32 g low (and_from _ _ b x))

  of_itself : (p c : ℕ) → ((p == p) && (c == c)) ≡ true
  of_itself p c = and_from _ _ (eq-eqb p p refl) (eq-eqb c c refl)

  seen_found : (f : QueueRole → Bool) (step : Step) (note : Note) → e.step ≡ step → e.effect.note ≡ note → list_any f (seen_in step note) ≡ true → Found (LooksAt trace e) (λ r. f r ≡ true)
  seen_found f (Exec p) (TagRead groups issued) q t x =
      let h = tag_found f (Fixed p) groups x in
      record { one = Fixed p h.0; first = record { groups = groups; issued = issued; is = q; notes = t; bit = bit_is groups h.0 h.2; low = h.1 }; second = h.3 }
  seen_found f (Exec p) (StallRead groups) q t x =
      let h = tag_found f (Stalled p) groups x in
      record { one = Stalled p h.0; first = record { groups = groups; is = q; notes = t; bit = bit_is groups h.0 h.2; low = h.1 }; second = h.3 }
  seen_found f (Exec p) _ q t x = cc
  seen_found f _ note q t x = cc

  own_found : (f : QueueRole → Bool) (step : Step) → e.step ≡ step → list_any f (own_waits step) ≡ true → Found (LooksAt trace e) (λ r. f r ≡ true)
  own_found f (Piece p c x k) q h = record { one = Waits p c; first = ap (is_of p c) q ∙ of_itself p c; second = last (or_cases (f (Waits p c)) false h) }
    where
      last : (f (Waits p c) ≡ true) ⊎ (false ≡ true) → f (Waits p c) ≡ true
      last (inl y) = y
      last (inr y) = cc
  own_found f (Elem p c) q h = record { one = Waits p c; first = ap (is_of p c) q ∙ of_itself p c; second = last (or_cases (f (Waits p c)) false h) }
    where
      last : (f (Waits p c) ≡ true) ⊎ (false ≡ true) → f (Waits p c) ≡ true
      last (inl y) = y
      last (inr y) = cc
  own_found f (Retire p c) q h = record { one = Waits p c; first = ap (is_of p c) q ∙ of_itself p c; second = last (or_cases (f (Waits p c)) false h) }
    where
      last : (f (Waits p c) ≡ true) ⊎ (false ≡ true) → f (Waits p c) ≡ true
      last (inl y) = y
      last (inr y) = cc
  own_found f _ q h = cc

  base_found : (f : QueueRole → Bool) (xs : List Role) → list_any (λ w. f (Base w)) xs ≡ true → Found (λ w. Among (λ v. v ≡ w) xs) (λ w. f (Base w) ≡ true)
  base_found f [] h = cc
  base_found f (x ∷ xs) h = by (or_cases (f (Base x)) (list_any (λ w. f (Base w)) xs) h) (λ g. base_found f xs g)
    where
      by : (f (Base x) ≡ true) ⊎ (list_any (λ w. f (Base w)) xs ≡ true) → (list_any (λ w. f (Base w)) xs ≡ true → Found (λ w. Among (λ v. v ≡ w) xs) (λ w. f (Base w) ≡ true)) → Found (λ w. Among (λ v. v ≡ w) (x ∷ xs)) (λ w. f (Base w) ≡ true)
      by (inl g) rest = record { one = x; first = inl refl; second = g }
      by (inr g) rest = let r = rest g in record { one = r.one; first = inr r.first; second = r.second }

  found_base : (f : QueueRole → Bool) (xs : List Role) (w : Role) → Among (λ v. v ≡ w) xs → f (Base w) ≡ true → list_any (λ v. f (Base v)) xs ≡ true
  found_base f [] w h g = absurd h
  found_base f (x ∷ xs) w (inl h) g = or_left _ _ (ap (λ v. f (Base v)) h ∙ g)
  found_base f (x ∷ xs) w (inr h) g = or_right _ _ (found_base f xs w h g)

  -- what passes in the list is what passes of what the step looks at
  pub looked_found : (f : QueueRole → Bool) → list_any f looked_list ≡ true → Found (LooksAt trace e) (λ r. f r ≡ true)
  looked_found f x = by (or_cases _ _ (sym (list_any-append f (map Base (read_roles trace e)) (own_waits e.step ++ seen_in e.step e.effect.note)) ∙ x))
    where
      rest : (list_any f (own_waits e.step) ≡ true) ⊎ (list_any f (seen_in e.step e.effect.note) ≡ true) → Found (LooksAt trace e) (λ r. f r ≡ true)
      rest (inl y) = own_found f e.step refl y
      rest (inr y) = seen_found f e.step e.effect.note refl refl y

      by : (list_any f (map Base (read_roles trace e)) ≡ true) ⊎ (list_any f (own_waits e.step ++ seen_in e.step e.effect.note) ≡ true) → Found (LooksAt trace e) (λ r. f r ≡ true)
      by (inl y) = let h = base_found f (read_roles trace e) (sym (any_map f Base (read_roles trace e)) ∙ y) in record { one = Base h.one; first = h.first; second = h.second }
      by (inr y) = rest (or_cases _ _ (sym (list_any-append f (own_waits e.step) (seen_in e.step e.effect.note)) ∙ y))

  own_of : (f : QueueRole → Bool) (p d : ℕ) (step : Step) → is_of p d step ≡ true → f (Waits p d) ≡ true → list_any f (own_waits step) ≡ true
  own_of f p d (Exec q) h g = cc
  own_of f p d (Atomic q) h g = cc
  own_of f p d Host h g = cc
  own_of f p d (Piece q c x k) h g = let a = and_parts (q == p) (c == d) h in or_left _ _ (ap₂ (λ u v. f (Waits u v)) (eqb-true q p a.0) (eqb-true c d a.1) ∙ g)
  own_of f p d (Elem q c) h g = let a = and_parts (q == p) (c == d) h in or_left _ _ (ap₂ (λ u v. f (Waits u v)) (eqb-true q p a.0) (eqb-true c d a.1) ∙ g)
  own_of f p d (Retire q c) h g = let a = and_parts (q == p) (c == d) h in or_left _ _ (ap₂ (λ u v. f (Waits u v)) (eqb-true q p a.0) (eqb-true c d a.1) ∙ g)

  pub found_looked : (f : QueueRole → Bool) (r : QueueRole) → LooksAt trace e r → f r ≡ true → list_any f looked_list ≡ true
  found_looked f r looks x = list_any-append f (map Base (read_roles trace e)) (own_waits e.step ++ seen_in e.step e.effect.note) ∙ by r looks x
    where
      in_rest : (list_any f (own_waits e.step) || list_any f (seen_in e.step e.effect.note)) ≡ true → (list_any f (map Base (read_roles trace e)) || list_any f (own_waits e.step ++ seen_in e.step e.effect.note)) ≡ true
      in_rest y = or_right _ _ (list_any-append f (own_waits e.step) (seen_in e.step e.effect.note) ∙ y)

      by : (r : QueueRole) → LooksAt trace e r → f r ≡ true → (list_any f (map Base (read_roles trace e)) || list_any f (own_waits e.step ++ seen_in e.step e.effect.note)) ≡ true
      by (Base w) l g = or_left _ _ (any_map f Base (read_roles trace e) ∙ found_base f (read_roles trace e) w l g)
      by (Waits p d) l g = in_rest (or_left _ _ (own_of f p d e.step l g))
      by (Complete p class) l g = absurd l
      by (Fixed p k) l g = in_rest (or_right (list_any f (own_waits e.step)) _ (ap₂ (λ u v. list_any f (seen_in u v)) l.is l.notes ∙ found_tag f (Fixed p) l.groups k l.low (is_bit l.groups k l.bit) g))
      by (Stalled p k) l g = in_rest (or_right (list_any f (own_waits e.step)) _ (ap₂ (λ u v. list_any f (seen_in u v)) l.is l.notes ∙ found_tag f (Stalled p) l.groups k l.low (is_bit l.groups k l.bit) g))

  -- what the code gathers is what is known
  pub is_known : (sets : QueueRole → At → Bool) (known : At → Bool) → ((a : At) → known a ≡ list_any (λ r. sets r a) looked_list) → IsKnown sets trace e known
  is_known sets known h = record { from = λ a x. looked_found (λ r. sets r a) (sym (h a) ∙ x); has = λ a r l x. h a ∙ found_looked (λ r. sets r a) r l x }
