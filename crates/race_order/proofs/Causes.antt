-- Why a step is in a set after the passes.
use Rattle.std.proofs.Common.{◌≡◌, ℕ, ◌<◌, Bool, true, false, ◌&&◌, ◌||◌, not, List, Some, ◌⊎◌, inl, inr, refl, sym, ap, ◌∙◌, subst}
use Rattle.std.specs.Prelude.{slice_get, ◌↔◌}
use Rattle.std.specs.List.{list_any}
use Rattle.std.proofs.lemmas.Bool.{or_cases, or_left, or_right, and_from, and_parts}
use Rattle.order_sets.specs.declared.facts.At.{At}
use Rattle.mfc_command.specs.declared.command.Command.{Command}
use Rattle.race_order.specs.Trace.{Event, Trace}
use Rattle.race_order.specs.declared.roles.Role.{Role}
use Rattle.race_order.specs.Roles.{write_roles, is_among as is_among_base}
use Rattle.race_order.specs.declared.lives.Live.{Live}
use Rattle.race_order.specs.declared.moves.Move.{Move}
use Rattle.race_order.specs.declared.roles.Class.{Class}
use Rattle.race_order.specs.declared.roles.Class.TheVariants.{Tag}
use Rattle.race_order.specs.declared.roles.QueueRole.{QueueRole}
use Rattle.race_order.specs.declared.roles.QueueRole.TheVariants.{Base, Waits, Complete, Fixed, Stalled}
use Rattle.race_order.specs.Sources.{is_in}
use Rattle.race_order.proofs.Nexts.{GoesAhead, IssuesNow, Fixes}
use Rattle.race_order.specs.Lives.{is_touched, goes_in, own_has, moved, touch_brings}
use Rattle.race_order.specs.Ordering.{issued_in, issue_list, fix_list, spe_in}
use Rattle.race_order.specs.Bringing.{nexts, AreStepped}
use Rattle.race_order.specs.Passes.{View, with_into, brings, classes_ahead, classes_of, from_class, into_class, into_waits, into_stalled, is_ahead, done_any, stall_any}
use Rattle.race_order.specs.Tables.{same_class, same_role, is_among}
use Rattle.race_order.proofs.SameRoles.{same_class_is, same_class_itself, same_role_is, same_role_itself}
use Rattle.race_order.proofs.Passed.{Picked, picked, pick, classes_sound, classes_full, ahead_sound, ahead_any, any_map}

pub record IsIssue (e : Event) (g : Move → Bool) : Type 0 where
  pub p : ℕ
  pub d : ℕ
  pub command : Command
  pub issues : IssuesNow e p d command
  pub any : list_any (λ class. g (from_class p d class)) (classes_ahead command) ≡ true

pub record IsFix (e : Event) (g : Move → Bool) : Type 0 where
  pub p : ℕ
  pub tag : ℕ
  pub low : tag < 32
  pub fixes : Fixes e p
  pub passes : g record { from = Complete p (Tag tag); to = Fixed p tag } ≡ true

-- what the lists of a step are, by the tests that something of them passes
pub record AreLists (trace : Trace) (e : Event) (into : List QueueRole) (issue fix : List Move) : Type 0 where
  pub base : (w : Role) → (is_among (Base w) into ≡ true) ↔ (is_among_base w (write_roles trace e) ≡ true)
  pub waits : (p d : ℕ) → (is_among (Waits p d) into ≡ true) ↔ ((command : Command) × IssuesNow e p d command)
  pub complete : (p : ℕ) (class : Class) → is_among (Complete p class) into ≡ true → ⊥
  pub fixed : (p g : ℕ) → is_among (Fixed p g) into ≡ true → ⊥
  pub stalled : (p g : ℕ) → is_among (Stalled p g) into ≡ true → ⊥
  pub issues : (g : Move → Bool) → (list_any g issue ≡ true) ↔ IsIssue e g
  pub fixes : (g : Move → Bool) → (list_any g fix ≡ true) ↔ IsFix e g

module _ (n : ℕ) (trace : Trace) (e : Event) (brought : At → Bool) (lives : List Live) (sets : View) (into : List QueueRole) (lists : AreLists trace e into (issue_list (issued_in e.step e.effect.note)) (fix_list e.effect.fixed (spe_in e.step))) (final : View) (passed : AreStepped n e.step e.effect (brought) lives into sets final) where
  abbrev next_of : Live → Live
  next_of l = moved l e.step e.effect.note

  abbrev pub after_it : List Live
  after_it = nexts e.step e.effect lives

  pub record In (l : Live) : Type 0 where
    pub place : ℕ
    pub at : slice_get lives place ≡ Some l

  pub data Cause (r : QueueRole) (a : At) : Type 0 where
    CStay : sets r a ≡ true → Cause r a
    CInto : is_among r into ≡ true → brought a ≡ true → Cause r a
    CTouch : (l : Live) → In l → is_touched l e.step e.effect.note ≡ true → r ≡ Waits l.spe l.cmd → ((goes_in l e.step e.effect.note ≡ true) × (brought a ≡ true)) ⊎ (own_has n (next_of l) a ≡ true) → Cause r a
    CIssue : (p d : ℕ) (command : Command) (class : Class) → IssuesNow e p d command → GoesAhead command class → r ≡ Waits p d → passed.issued (Complete p class) a ≡ true → Cause r a
    CStall : (l : Live) → In l → l.progress.stalled ≡ false → (next_of l).progress.stalled ≡ true → r ≡ Stalled l.spe l.progress.command.tag → passed.stalled (Waits l.spe l.cmd) a ≡ true → Cause r a
    CClass : (l : Live) (class : Class) → In l → (next_of l).progress.done ≡ true → is_in class (next_of l).progress.command ≡ true → r ≡ Complete l.spe class → passed.done (Waits l.spe l.cmd) a ≡ true → Cause r a
    CWaits : (l d : Live) → In l → In d → (next_of l).progress.done ≡ true → is_ahead (next_of l) (next_of d) ≡ true → r ≡ Waits d.spe d.cmd → passed.done (Waits l.spe l.cmd) a ≡ true → Cause r a
    CFixed : (p tag : ℕ) → tag < 32 → Fixes e p → r ≡ Fixed p tag → final (Complete p (Tag tag)) a ≡ true → Cause r a

  not_true : (b : Bool) → not b ≡ true → b ≡ false
  not_true true x = cc
  not_true false x = refl

  cause2 : (r : QueueRole) (a : At) → passed.touched r a ≡ true → Cause r a
  cause2 r a x = by (or_cases (with_into into (brought) sets r a) (list_any (touch_brings n e.step e.effect.note (brought) r a) lives) (sym (passed.is_touched r a) ∙ x))
    where
      first : (sets r a ≡ true) ⊎ ((is_among r into && brought a) ≡ true) → Cause r a
      first (inl y) = CStay y
      first (inr y) = let b = and_parts (is_among r into) (brought a) y in CInto b.0 b.1

      by : (with_into into (brought) sets r a ≡ true) ⊎ (list_any (touch_brings n e.step e.effect.note (brought) r a) lives ≡ true) → Cause r a
      by (inl y) = first (or_cases (sets r a) (is_among r into && brought a) y)
      by (inr y) = touched (picked (touch_brings n e.step e.effect.note (brought) r a) lives y)
        where
          touched : Picked (touch_brings n e.step e.effect.note (brought) r a) lives → Cause r a
          touched p =
              let u = and_parts (is_touched p.one e.step e.effect.note) (same_role (Waits p.one.spe p.one.cmd) r && ((goes_in p.one e.step e.effect.note && brought a) || own_has n (next_of p.one) a)) p.passes in
              let v = and_parts (same_role (Waits p.one.spe p.one.cmd) r) ((goes_in p.one e.step e.effect.note && brought a) || own_has n (next_of p.one) a) u.1 in
              CTouch p.one record { place = p.place; at = p.at } u.0 (sym (same_role_is r (Waits p.one.spe p.one.cmd) v.0)) (what (or_cases (goes_in p.one e.step e.effect.note && brought a) (own_has n (next_of p.one) a) v.1))
            where
              what : ((goes_in p.one e.step e.effect.note && brought a) ≡ true) ⊎ (own_has n (next_of p.one) a ≡ true) → ((goes_in p.one e.step e.effect.note ≡ true) × (brought a ≡ true)) ⊎ (own_has n (next_of p.one) a ≡ true)
              what (inl w) = let z = and_parts (goes_in p.one e.step e.effect.note) (brought a) w in inl (z.0, z.1)
              what (inr w) = inr w

  cause3 : (r : QueueRole) (a : At) → passed.issued r a ≡ true → Cause r a
  cause3 r a x = by (or_cases _ _ (passed.is_issued.only r a x))
    where
      by : (passed.touched r a ≡ true) ⊎ (list_any (brings passed.issued r a) (issue_list (issued_in e.step e.effect.note)) ≡ true) → Cause r a
      by (inl y) = cause2 r a y
      by (inr y) = issued ((lists.issues (brings passed.issued r a)).0 y)
        where
          issued : IsIssue e (brings passed.issued r a) → Cause r a
          issued i = of (picked (λ class. brings passed.issued r a (from_class i.p i.d class)) (classes_ahead i.command) i.any)
            where
              of : Picked (λ class. brings passed.issued r a (from_class i.p i.d class)) (classes_ahead i.command) → Cause r a
              of p =
                  let u = and_parts (same_role (Waits i.p i.d) r) (passed.issued (Complete i.p p.one) a) p.passes in
                  CIssue i.p i.d i.command p.one i.issues (ahead_sound i.command p.one (pick (λ y. same_class y p.one) (classes_ahead i.command) p.place p.one p.at (same_class_itself p.one))) (sym (same_role_is r (Waits i.p i.d) u.0)) u.1

  cause4 : (r : QueueRole) (a : At) → passed.stalled r a ≡ true → Cause r a
  cause4 r a x = by (or_cases _ _ (passed.is_stalled.only r a x))
    where
      by : (passed.issued r a ≡ true) ⊎ (list_any (stall_any (brings passed.stalled r a) e.step e.effect.note) lives ≡ true) → Cause r a
      by (inl y) = cause3 r a y
      by (inr y) = stalled (picked (stall_any (brings passed.stalled r a) e.step e.effect.note) lives y)
        where
          stalled : Picked (stall_any (brings passed.stalled r a) e.step e.effect.note) lives → Cause r a
          stalled p =
              let u = and_parts (not p.one.progress.stalled && (next_of p.one).progress.stalled) (brings passed.stalled r a (into_stalled p.one)) p.passes in
              let v = and_parts (not p.one.progress.stalled) ((next_of p.one).progress.stalled) u.0 in
              let w = and_parts (same_role (Stalled p.one.spe p.one.progress.command.tag) r) (passed.stalled (Waits p.one.spe p.one.cmd) a) u.1 in
              CStall p.one record { place = p.place; at = p.at } (not_true p.one.progress.stalled v.0) v.1 (sym (same_role_is r (Stalled p.one.spe p.one.progress.command.tag) w.0)) w.1

  cause5 : (r : QueueRole) (a : At) → passed.done r a ≡ true → Cause r a
  cause5 r a x = by (or_cases _ _ (passed.is_done.only r a x))
    where
      by : (passed.stalled r a ≡ true) ⊎ (list_any (done_any (brings passed.done r a) after_it) after_it ≡ true) → Cause r a
      by (inl y) = cause4 r a y
      by (inr y) = done (picked (λ l. done_any (brings passed.done r a) after_it (next_of l)) lives (sym (any_map (done_any (brings passed.done r a) after_it) (λ l. moved l e.step e.effect.note) lives) ∙ y))
        where
          done : Picked (λ l. done_any (brings passed.done r a) after_it (next_of l)) lives → Cause r a
          done p = which (or_cases (list_any (λ class. brings passed.done r a (into_class (next_of p.one) class)) (classes_of (next_of p.one).progress.command)) (list_any (λ d. is_ahead (next_of p.one) d && brings passed.done r a (into_waits (next_of p.one) d)) after_it) u.1)
            where
              u : ((next_of p.one).progress.done ≡ true) × ((list_any (λ class. brings passed.done r a (into_class (next_of p.one) class)) (classes_of (next_of p.one).progress.command) || list_any (λ d. is_ahead (next_of p.one) d && brings passed.done r a (into_waits (next_of p.one) d)) after_it) ≡ true)
              u = let v = and_parts ((next_of p.one).progress.done) (list_any (λ class. brings passed.done r a (into_class (next_of p.one) class)) (classes_of (next_of p.one).progress.command) || list_any (λ d. is_ahead (next_of p.one) d && brings passed.done r a (into_waits (next_of p.one) d)) after_it) p.passes in (v.0, v.1)

              of_class : Picked (λ class. brings passed.done r a (into_class (next_of p.one) class)) (classes_of (next_of p.one).progress.command) → Cause r a
              of_class q =
                  let v = and_parts (same_role (Complete p.one.spe q.one) r) (passed.done (Waits p.one.spe p.one.cmd) a) q.passes in
                  CClass p.one q.one record { place = p.place; at = p.at } u.0
                  (classes_sound (next_of p.one).progress.command q.one (pick (λ y. same_class y q.one) (classes_of (next_of p.one).progress.command) q.place q.one q.at (same_class_itself q.one)))
                  (sym (same_role_is r (Complete p.one.spe q.one) v.0)) v.1

              of_waits : Picked (λ d. is_ahead (next_of p.one) (next_of d) && brings passed.done r a (into_waits (next_of p.one) (next_of d))) lives → Cause r a
              of_waits q =
                  let v = and_parts (is_ahead (next_of p.one) (next_of q.one)) (brings passed.done r a (into_waits (next_of p.one) (next_of q.one))) q.passes in
                  let w = and_parts (same_role (Waits q.one.spe q.one.cmd) r) (passed.done (Waits p.one.spe p.one.cmd) a) v.1 in
                  CWaits p.one q.one record { place = p.place; at = p.at } record { place = q.place; at = q.at } u.0 v.0 (sym (same_role_is r (Waits q.one.spe q.one.cmd) w.0)) w.1

              which : (list_any (λ class. brings passed.done r a (into_class (next_of p.one) class)) (classes_of (next_of p.one).progress.command) ≡ true) ⊎ (list_any (λ d. is_ahead (next_of p.one) d && brings passed.done r a (into_waits (next_of p.one) d)) after_it ≡ true) → Cause r a
              which (inl w) = of_class (picked (λ class. brings passed.done r a (into_class (next_of p.one) class)) (classes_of (next_of p.one).progress.command) w)
              which (inr w) = of_waits (picked (λ d. is_ahead (next_of p.one) (next_of d) && brings passed.done r a (into_waits (next_of p.one) (next_of d))) lives (sym (any_map (λ d. is_ahead (next_of p.one) d && brings passed.done r a (into_waits (next_of p.one) d)) (λ l. moved l e.step e.effect.note) lives) ∙ w))

  -- why a step is in a set
  pub cause : (r : QueueRole) (a : At) → final r a ≡ true → Cause r a
  cause r a x = by (or_cases _ _ (passed.is_fixed.only r a x))
    where
      by : (passed.done r a ≡ true) ⊎ (list_any (brings final r a) (fix_list e.effect.fixed (spe_in e.step)) ≡ true) → Cause r a
      by (inl y) = cause5 r a y
      by (inr y) = fixed ((lists.fixes (brings final r a)).0 y)
        where
          fixed : IsFix e (brings final r a) → Cause r a
          fixed i = let u = and_parts (same_role (Fixed i.p i.tag) r) (final (Complete i.p (Tag i.tag)) a) i.passes in CFixed i.p i.tag i.low i.fixes (sym (same_role_is r (Fixed i.p i.tag) u.0)) u.1

  pub up5 : (r : QueueRole) (a : At) → passed.done r a ≡ true → final r a ≡ true
  up5 r a x = passed.is_fixed.has r a (or_left (passed.done r a) _ x)

  pub up4 : (r : QueueRole) (a : At) → passed.stalled r a ≡ true → passed.done r a ≡ true
  up4 r a x = passed.is_done.has r a (or_left (passed.stalled r a) _ x)

  pub up3 : (r : QueueRole) (a : At) → passed.issued r a ≡ true → passed.stalled r a ≡ true
  up3 r a x = passed.is_stalled.has r a (or_left (passed.issued r a) _ x)

  pub up2 : (r : QueueRole) (a : At) → passed.touched r a ≡ true → passed.issued r a ≡ true
  up2 r a x = passed.is_issued.has r a (or_left (passed.touched r a) _ x)

  pub up0 : (r : QueueRole) (a : At) → sets r a ≡ true → passed.touched r a ≡ true
  up0 r a x = passed.is_touched r a ∙ or_left (with_into into (brought) sets r a) _ (or_left (sets r a) _ x)

  pub up_into : (r : QueueRole) (a : At) → is_among r into ≡ true → brought a ≡ true → passed.touched r a ≡ true
  up_into r a x y = passed.is_touched r a ∙ or_left (with_into into (brought) sets r a) _ (or_right (sets r a) _ (and_from _ _ x y))

  pub up_touch : (l : Live) (a : At) → In l → is_touched l e.step e.effect.note ≡ true → ((goes_in l e.step e.effect.note && brought a) || own_has n (next_of l) a) ≡ true → passed.touched (Waits l.spe l.cmd) a ≡ true
  up_touch l a i x y =
      passed.is_touched (Waits l.spe l.cmd) a
      ∙ or_right (with_into into (brought) sets (Waits l.spe l.cmd) a) _
      (pick (touch_brings n e.step e.effect.note (brought) (Waits l.spe l.cmd) a) lives i.place l i.at (and_from _ _ x (and_from _ _ (same_role_itself (Waits l.spe l.cmd)) y)))

  pub up_issue : (p d : ℕ) (command : Command) (class : Class) (a : At) → IssuesNow e p d command → GoesAhead command class → passed.touched (Complete p class) a ≡ true → passed.issued (Waits p d) a ≡ true
  up_issue p d command class a h g x =
      passed.is_issued.has (Waits p d) a
      (or_right (passed.touched (Waits p d) a) _
      ((lists.issues (brings passed.touched (Waits p d) a)).1 record { p = p; d = d; command = command; issues = h; any = ahead_any command class (λ y. brings passed.touched (Waits p d) a (from_class p d y)) g (and_from _ _ (same_role_itself (Waits p d)) x) }))

  pub up_stall : (l : Live) (a : At) → In l → l.progress.stalled ≡ false → (next_of l).progress.stalled ≡ true → passed.issued (Waits l.spe l.cmd) a ≡ true → passed.stalled (Stalled l.spe l.progress.command.tag) a ≡ true
  up_stall l a i x y z =
      passed.is_stalled.has (Stalled l.spe l.progress.command.tag) a
      (or_right (passed.issued (Stalled l.spe l.progress.command.tag) a) _
      (pick (stall_any (brings passed.issued (Stalled l.spe l.progress.command.tag) a) e.step e.effect.note) lives i.place l i.at
      (and_from _ _ (and_from _ _ (ap not x) y) (and_from _ _ (same_role_itself (Stalled l.spe l.progress.command.tag)) z))))

  pub up_class : (l : Live) (class : Class) (a : At) → In l → (next_of l).progress.done ≡ true → is_in class (next_of l).progress.command ≡ true → passed.stalled (Waits l.spe l.cmd) a ≡ true → passed.done (Complete l.spe class) a ≡ true
  up_class l class a i d c x =
      passed.is_done.has (Complete l.spe class) a
      (or_right (passed.stalled (Complete l.spe class) a) _
      (any_map (done_any (brings passed.stalled (Complete l.spe class) a) after_it) (λ y. moved y e.step e.effect.note) lives
      ∙ pick (λ y. done_any (brings passed.stalled (Complete l.spe class) a) after_it (next_of y)) lives i.place l i.at (and_from _ _ d (or_left _ _ (found (picked (λ y. same_class y class) (classes_of (next_of l).progress.command) (classes_full (next_of l).progress.command class c)))))))
    where
      found : Picked (λ y. same_class y class) (classes_of (next_of l).progress.command) → list_any (λ y. brings passed.stalled (Complete l.spe class) a (into_class (next_of l) y)) (classes_of (next_of l).progress.command) ≡ true
      found p =
          let q : p.one ≡ class = same_class_is p.one class p.passes in
          pick (λ y. brings passed.stalled (Complete l.spe class) a (into_class (next_of l) y)) (classes_of (next_of l).progress.command) p.place p.one p.at (and_from _ _ (subst (λ y. same_role (Complete l.spe y) (Complete l.spe class) ≡ true) (sym q) (same_role_itself (Complete l.spe class))) x)

  pub up_waits : (l d : Live) (a : At) → In l → In d → (next_of l).progress.done ≡ true → is_ahead (next_of l) (next_of d) ≡ true → passed.stalled (Waits l.spe l.cmd) a ≡ true → passed.done (Waits d.spe d.cmd) a ≡ true
  up_waits l d a i j x y z =
      passed.is_done.has (Waits d.spe d.cmd) a
      (or_right (passed.stalled (Waits d.spe d.cmd) a) _
      (any_map (done_any (brings passed.stalled (Waits d.spe d.cmd) a) after_it) (λ y. moved y e.step e.effect.note) lives
      ∙ pick (λ y. done_any (brings passed.stalled (Waits d.spe d.cmd) a) after_it (next_of y)) lives i.place l i.at
      (and_from _ _ x
      (or_right (list_any (λ class. brings passed.stalled (Waits d.spe d.cmd) a (into_class (next_of l) class)) (classes_of (next_of l).progress.command)) _
      (any_map (λ v. is_ahead (next_of l) v && brings passed.stalled (Waits d.spe d.cmd) a (into_waits (next_of l) v)) (λ y. moved y e.step e.effect.note) lives
      ∙ pick (λ v. is_ahead (next_of l) (next_of v) && brings passed.stalled (Waits d.spe d.cmd) a (into_waits (next_of l) (next_of v))) lives j.place d j.at (and_from _ _ y (and_from _ _ (same_role_itself (Waits d.spe d.cmd)) z)))))))

  pub up_fixed : (p tag : ℕ) (a : At) → tag < 32 → Fixes e p → passed.done (Complete p (Tag tag)) a ≡ true → final (Fixed p tag) a ≡ true
  up_fixed p tag a low f x =
      passed.is_fixed.has (Fixed p tag) a
      (or_right (passed.done (Fixed p tag) a) _ ((lists.fixes (brings passed.done (Fixed p tag) a)).1 record { p = p; tag = tag; low = low; fixes = f; passes = and_from _ _ (same_role_itself (Fixed p tag)) x }))
