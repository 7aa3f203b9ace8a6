-- Moves of sets, one after the other.
use Rattle.std.proofs.Common.{◌≡◌, ℕ, ◌+◌, ◌<◌, Bool, true, false, ◌&&◌, ◌||◌, not, List, [], ◌∷◌, ◌++◌, length, take, get_or, ◌⊎◌, inl, inr, refl, sym, ap, ◌∙◌}
use Rattle.std.specs.List.{list_any}
use Rattle.std.proofs.lemmas.Bool.{or_cases, or_left, or_right, and_from, and_parts}
use Rattle.std.proofs.lemmas.List.Folds.{list_any-append, list_any_more}
use Rattle.cell_base.specs.declared.steps.Step.{Step}
use Rattle.cell_machine.specs.declared.effect.Note.{Note}
use Rattle.order_sets.specs.declared.facts.At.{At}
use Rattle.race_order.specs.declared.lives.Live.{Live}
use Rattle.race_order.specs.declared.moves.Move.{Move}
use Rattle.race_order.specs.declared.roles.QueueRole.{QueueRole}
use Rattle.race_order.specs.Lives.{moved}
use Rattle.race_order.specs.Passes.{View, brings, AreMoved, classes_of, into_class, into_waits, into_stalled, is_ahead, done_any, stall_any}
use Rattle.race_order.specs.Tables.{same_role}

pub any_up : {X : Type 0} (p q : X → Bool) (xs : List X) → ((x : X) → p x ≡ true → q x ≡ true) → list_any p xs ≡ true → list_any q xs ≡ true
any_up p q [] h e = e
any_up p q (x ∷ xs) h e = by (or_cases (p x) (list_any p xs) e) (λ f. any_up p q xs h f)
  where
    by : (p x ≡ true) ⊎ (list_any p xs ≡ true) → (list_any p xs ≡ true → list_any q xs ≡ true) → list_any q (x ∷ xs) ≡ true
    by (inl f) rest = or_left (q x) _ (h x f)
    by (inr f) rest = or_right (q x) _ (rest f)

-- where one test passes all that another one passes, so does what some move passes
pub record IsMonotone (some : (Move → Bool) → Bool) : Type 0 where
  pub up : (g h : Move → Bool) → ((m : Move) → g m ≡ true → h m ≡ true) → some g ≡ true → some h ≡ true

pub up_one : (m : Move) → IsMonotone (λ g. g m)
up_one m = record { up = λ g h k x. k m x }

pub up_any : {X : Type 0} (f : (Move → Bool) → X → Bool) (xs : List X) → ((x : X) → IsMonotone (λ g. f g x)) → IsMonotone (λ g. list_any (f g) xs)
up_any f xs each = record { up = λ g h k x. any_up (f g) (f h) xs (λ y z. (each y).up g h k z) x }

pub up_list : (ms : List Move) → IsMonotone (λ g. list_any g ms)
up_list ms = up_any (λ g m. g m) ms up_one

pub up_and : (b : Bool) (some : (Move → Bool) → Bool) → IsMonotone some → IsMonotone (λ g. b && some g)
up_and b some u = record { up = λ g h k x. let a = and_parts b (some g) x in and_from b (some h) a.0 (u.up g h k a.1) }

pub up_or : (f g : (Move → Bool) → Bool) → IsMonotone f → IsMonotone g → IsMonotone (λ h. f h || g h)
up_or f g u v = record { up = λ x y k z. by x y k (or_cases (f x) (g x) z) }
  where
    by : (x y : Move → Bool) → ((m : Move) → x m ≡ true → y m ≡ true) → (f x ≡ true) ⊎ (g x ≡ true) → (f y || g y) ≡ true
    by x y k (inl z) = or_left (f y) _ (u.up x y k z)
    by x y k (inr z) = or_right (f y) _ (v.up x y k z)

brings_up : (t u : View) → ((r : QueueRole) (a : At) → t r a ≡ true → u r a ≡ true) → (r : QueueRole) (a : At) (m : Move) → brings t r a m ≡ true → brings u r a m ≡ true
brings_up t u h r a m x = let p = and_parts (same_role m.to r) (t m.from a) x in and_from (same_role m.to r) (u m.from a) p.0 (h m.from a p.1)

-- no move is made
pub still : (some : (Move → Bool) → Bool) (t : View) → ((g : Move → Bool) → some g ≡ false) → AreMoved some t t
still some t none = record { has = λ r a x. by (t r a) (some (brings t r a)) (none (brings t r a)) x; only = λ r a x. or_left (t r a) _ x }
  where
    by : (b c : Bool) → c ≡ false → (b || c) ≡ true → b ≡ true
    by true c e x = refl
    by false c e x = sym e ∙ x

-- the moves are made at once
pub at_once : (some : (Move → Bool) → Bool) (t u : View) → IsMonotone some → ((r : QueueRole) (a : At) → u r a ≡ (t r a || some (brings t r a))) → AreMoved some t u
at_once some t u mono is =
    record { has = λ r a x. is r a ∙ x; only = λ r a x. by r a (or_cases (t r a) (some (brings t r a)) (sym (is r a) ∙ x)) }
  where
    by : (r : QueueRole) (a : At) → (t r a ≡ true) ⊎ (some (brings t r a) ≡ true) → (t r a || some (brings u r a)) ≡ true
    by r a (inl x) = or_left (t r a) _ x
    by r a (inr x) = or_right (t r a) _ (mono.up (brings t r a) (brings u r a) (brings_up t u (λ w b y. is w b ∙ or_left (t w b) _ y) r a) x)

-- some moves, and then others
pub in_turn : (f g : (Move → Bool) → Bool) (t u v : View) → IsMonotone f → IsMonotone g → AreMoved f t u → AreMoved g u v → AreMoved (λ h. f h || g h) t v
in_turn f g t u v mf mg first second =
    record {
      has = λ r a x. has r a (or_cases (t r a) (f (brings t r a) || g (brings t r a)) x);
      only = λ r a x. only r a (or_cases (u r a) (g (brings v r a)) (second.only r a x));
    }
  where
    up1 : (r : QueueRole) (a : At) → t r a ≡ true → u r a ≡ true
    up1 r a x = first.has r a (or_left (t r a) _ x)

    up2 : (r : QueueRole) (a : At) → u r a ≡ true → v r a ≡ true
    up2 r a x = second.has r a (or_left (u r a) _ x)

    has : (r : QueueRole) (a : At) → (t r a ≡ true) ⊎ ((f (brings t r a) || g (brings t r a)) ≡ true) → v r a ≡ true
    has r a (inl x) = up2 r a (up1 r a x)
    has r a (inr x) = which (or_cases (f (brings t r a)) (g (brings t r a)) x)
      where
        which : (f (brings t r a) ≡ true) ⊎ (g (brings t r a) ≡ true) → v r a ≡ true
        which (inl y) = up2 r a (first.has r a (or_right (t r a) _ y))
        which (inr y) = second.has r a (or_right (u r a) _ (mg.up (brings t r a) (brings u r a) (brings_up t u up1 r a) y))

    only : (r : QueueRole) (a : At) → (u r a ≡ true) ⊎ (g (brings v r a) ≡ true) → (t r a || (f (brings v r a) || g (brings v r a))) ≡ true
    only r a (inr y) = or_right (t r a) _ (or_right (f (brings v r a)) _ y)
    only r a (inl y) = which (or_cases (t r a) (f (brings u r a)) (first.only r a y))
      where
        which : (t r a ≡ true) ⊎ (f (brings u r a) ≡ true) → (t r a || (f (brings v r a) || g (brings v r a))) ≡ true
        which (inl z) = or_left (t r a) _ z
        which (inr z) = or_right (t r a) _ (or_left (f (brings v r a)) _ (mf.up (brings u r a) (brings v r a) (brings_up u v up2 r a) z))

-- the same moves in other words
pub moved_as : (f g : (Move → Bool) → Bool) (t u : View) → ((h : Move → Bool) → f h ≡ g h) → AreMoved f t u → AreMoved g t u
moved_as f g t u same m =
    record { has = λ r a x. m.has r a (ap (λ b. t r a || b) (same (brings t r a)) ∙ x); only = λ r a x. ap (λ b. t r a || b) (sym (same (brings u r a))) ∙ m.only r a x }

-- a loop over moves
pub none_yet : {X : Type 0} (f : (Move → Bool) → X → Bool) (xs : List X) (t : View) → AreMoved (λ g. list_any (f g) (take 0 xs)) t t
none_yet f xs t = still (λ g. list_any (f g) (take 0 xs)) t (λ g. refl)

pub one_more : {X : Type 0} (f : (Move → Bool) → X → Bool) (xs : List X) (i : ℕ) (d : X) (t u v : View) → ((y : X) → IsMonotone (λ g. f g y)) → i < length xs
    → AreMoved (λ g. list_any (f g) (take i xs)) t u → AreMoved (λ g. f g (get_or xs i d)) u v → AreMoved (λ g. list_any (f g) (take (i + 1) xs)) t v
one_more f xs i d t u v each low first second =
    moved_as (λ g. list_any (f g) (take i xs) || f g (get_or xs i d)) (λ g. list_any (f g) (take (i + 1) xs)) t v (λ g. sym (list_any_more (f g) xs i d low))
    (in_turn (λ g. list_any (f g) (take i xs)) (λ g. f g (get_or xs i d)) t u v (up_any f (take i xs) each) (each (get_or xs i d)) first second)

pub or_none : (b : Bool) → b ≡ (b || false)
or_none true = refl
or_none false = refl

-- moves of one list, and then of another
pub lists_in_turn : (ms ns : List Move) (t u v : View) → AreMoved (λ g. list_any g ms) t u → AreMoved (λ g. list_any g ns) u v → AreMoved (λ g. list_any g (ms ++ ns)) t v
lists_in_turn ms ns t u v first second =
    moved_as (λ g. list_any g ms || list_any g ns) (λ g. list_any g (ms ++ ns)) t v (λ g. sym (list_any-append g ms ns))
    (in_turn (λ g. list_any g ms) (λ g. list_any g ns) t u v (up_list ms) (up_list ns) first second)

up_some : {X : Type 0} (p : X → Bool) (move : X → Move) (xs : List X) → IsMonotone (λ g. list_any (λ x. p x && g (move x)) xs)
up_some p move xs = up_any (λ g x. p x && g (move x)) xs (λ x. up_and (p x) (λ g. g (move x)) (up_one (move x)))

-- the moves of a command that is complete
pub up_done : (next : List Live) (c : Live) → IsMonotone (λ g. done_any g next c)
up_done next c =
    up_and c.progress.done (λ g. list_any (λ class. g (into_class c class)) (classes_of c.progress.command) || list_any (λ d. is_ahead c d && g (into_waits c d)) next)
    (up_or (λ g. list_any (λ class. g (into_class c class)) (classes_of c.progress.command)) (λ g. list_any (λ d. is_ahead c d && g (into_waits c d)) next)
    (up_any (λ g class. g (into_class c class)) (classes_of c.progress.command) (λ class. up_one (into_class c class)))
    (up_some (λ d. is_ahead c d) (into_waits c) next))

-- and of a list that is stalled by a step
pub up_stall : (step : Step) (note : Note) (l : Live) → IsMonotone (λ g. stall_any g step note l)
up_stall step note l = up_and (not l.progress.stalled && (moved l step note).progress.stalled) (λ g. g (into_stalled l)) (up_one (into_stalled l))
