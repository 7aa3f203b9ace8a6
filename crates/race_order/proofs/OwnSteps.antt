-- An instruction that looks at nothing but the instructions before it.
use Rattle.std.proofs.Common.{◌≡◌, ℕ, ◌==◌, ◌&&◌, ◌||◌, Bool, true, false, List, [], ◌∷◌, ◌++◌, map, Some, None, refl, sym, ap, subst, ◌∙◌}
use Rattle.std.specs.Prelude.{filter, not}
use Rattle.std.specs.List.{list_any}
use Rattle.std.proofs.lemmas.List.Folds.{list_any_none}
use Rattle.cell_base.specs.declared.steps.Step.{Step}
use Rattle.cell_base.specs.declared.steps.Step.TheVariants.{Exec}
use Rattle.cell_machine.specs.declared.effect.Note.{Note}
use Rattle.cell_machine.specs.declared.effect.Note.TheVariants.{Nothing}
use Rattle.cell_machine.specs.declared.effect.Effect.{Effect}
use Rattle.order_sets.specs.declared.facts.At.{At}
use Rattle.order_sets.specs.declared.facts.Fact.TheVariants.{Upto}
use Rattle.race_order.specs.declared.lives.Live.{Live}
use Rattle.race_order.specs.declared.roles.QueueRole.{QueueRole}
use Rattle.race_order.specs.declared.roles.QueueRole.TheVariants.{Base}
use Rattle.race_order.specs.declared.roles.Role.TheVariants.{OfExec}
use Rattle.race_order.specs.Trace.{Trace}
use Rattle.race_order.specs.Lines.{moves_line}
use Rattle.race_order.specs.Stamps.{event_of}
use Rattle.race_order.specs.Roles.{step_reads, step_writes, note_reads, note_writes, line_roles, fact_of}
use Rattle.race_order.specs.Ordering.{own_waits, seen_in, self_roles, issue_list, issued_in, fix_list, spe_in}
use Rattle.race_order.specs.Lives.{moved, is_touched, touch_brings, AreOutstanding}
use Rattle.race_order.specs.Passes.{View, stall_any, done_any}
use Rattle.race_order.specs.Standing.{with_issued}
use Rattle.race_order.specs.Bringing.{nexts, AreKept, IsPlain}
use Rattle.race_order.specs.Tables.{same_role, is_among}
use Rattle.race_order.proofs.Listings.{into_list, looked_list}
use Rattle.race_order.proofs.Moved.{still, or_none}
use Rattle.race_order.proofs.SameRoles.{same_role_is}
use Rattle.race_order.proofs.Small.{and-off, and-false}
use Rattle.race_order.proofs.Passed.{none_any}
use Rattle.race_order.proofs.Untouched.{not_moved, not_stalled, all_same, none_dropped, none_passes}

-- what it looks at
looked_own : (trace : Trace) (step : Step) (effect : Effect) (p : ℕ) → IsPlain step effect p → looked_list trace (event_of step effect) ≡ Base (OfExec p) ∷ []
looked_own trace step effect p plain = ap (λ x. of x effect.note) plain.is ∙ ap (λ x. of (Exec p) x) plain.note
  where
    of : Step → Note → List QueueRole
    of s n = map Base (step_reads s ++ (note_reads trace s n ++ line_roles (moves_line trace s) effect)) ++ (own_waits s ++ seen_in s n)

-- and what it goes into
entered_own : (trace : Trace) (step : Step) (effect : Effect) (p : ℕ) → IsPlain step effect p → into_list trace (event_of step effect) ≡ Base (OfExec p) ∷ []
entered_own trace step effect p plain = ap (λ x. of x effect.note) plain.is ∙ ap (λ x. of (Exec p) x) plain.note
  where
    of : Step → Note → List QueueRole
    of s n = map Base (step_writes s ++ (note_writes trace s n ++ line_roles (moves_line trace s) effect)) ++ self_roles (issued_in s n)

-- how it is named
pub fact_own : (n k : ℕ) (step : Step) (effect : Effect) (p : ℕ) → IsPlain step effect p → fact_of n k (event_of step effect) ≡ Upto p k
fact_own n k step effect p plain = ap (λ s. fact_of n k (event_of s effect)) plain.is

-- it touches no command
untouched_by : (l : Live) (p : ℕ) → is_touched l (Exec p) Nothing ≡ false
untouched_by l p = and-false (p == l.spe)

untouched : (l : Live) (step : Step) (effect : Effect) (p : ℕ) → IsPlain step effect p → is_touched l step effect.note ≡ false
untouched l step effect p plain = ap (λ x. is_touched l x effect.note) plain.is ∙ (ap (λ x. is_touched l (Exec p) x) plain.note ∙ untouched_by l p)

same_lives : (step : Step) (effect : Effect) (p : ℕ) (lives : List Live) → IsPlain step effect p → nexts step effect lives ≡ lives
same_lives step effect p lives plain = all_same (λ (l : Live). moved l step effect.note) lives (λ l. not_moved l step effect.note (untouched l step effect p plain))

none_done : (lives : List Live) → AreOutstanding lives → list_any (λ (l : Live). l.progress.done) lives ≡ false
none_done lives live = list_any_none (λ (l : Live). l.progress.done) lives live

-- it issues none, and fixes no status
none_issued : (step : Step) (effect : Effect) (p : ℕ) → IsPlain step effect p → issued_in step effect.note ≡ None
none_issued step effect p plain = ap (λ x. issued_in x effect.note) plain.is ∙ ap (λ x. issued_in (Exec p) x) plain.note

none_fixed : (step : Step) (effect : Effect) (p : ℕ) → IsPlain step effect p → fix_list effect.fixed (spe_in step) ≡ []
none_fixed step effect p plain = ap (λ x. fix_list effect.fixed (spe_in x)) plain.is ∙ ap (λ x. fix_list x (Some p)) plain.fixed

-- the outstanding commands stay as they are
pub lives_own : (step : Step) (effect : Effect) (p : ℕ) (lives : List Live) → IsPlain step effect p → AreOutstanding lives
    → lives ≡ with_issued (issued_in step effect.note) (filter (λ l. not l.progress.done) (nexts step effect lives))
lives_own step effect p lives plain live =
    none_dropped lives (none_done lives live)
    ∙ (ap (filter (λ (l : Live). not l.progress.done)) (sym (same_lives step effect p lives plain))
    ∙ ap (λ i. with_issued i (filter (λ (l : Live). not l.progress.done) (nexts step effect lives))) (sym (none_issued step effect p plain)))

-- what the set of these instructions has is what is known before it
pub own_known : (trace : Trace) (step : Step) (effect : Effect) (p : ℕ) (sets : View) (a : At) → IsPlain step effect p → sets (Base (OfExec p)) a ≡ list_any (λ r. sets r a) (looked_list trace (event_of step effect))
own_known trace step effect p sets a plain = or_none (sets (Base (OfExec p)) a) ∙ ap (list_any (λ r. sets r a)) (sym (looked_own trace step effect p plain))

-- what is there already may be brought
widened : (o s k c n : Bool) → (s ≡ true → k ≡ true → o ≡ true) → n ≡ (o || (s && c)) → n ≡ (o || (s && (k || c)))
widened true s k c n h e = e
widened false false k c n h e = e
widened false true true c n h e = let f : false ≡ true = h refl refl in absurd cc
widened false true false c n h e = e

own_brought : (t : View) (p : ℕ) (r : QueueRole) (a : At) (covered new : Bool) → new ≡ (t r a || (same_role (Base (OfExec p)) r && covered)) → new ≡ (t r a || (same_role (Base (OfExec p)) r && (t (Base (OfExec p)) a || covered)))
own_brought t p r a covered new e =
    widened (t r a) (same_role (Base (OfExec p)) r) (t (Base (OfExec p)) a) covered new (λ same k. subst (λ x. t x a ≡ true) (same_role_is r (Base (OfExec p)) same) k) e

no_more : (b x : Bool) → x ≡ false → b ≡ (b || x)
no_more true x e = refl
no_more false x e = sym e

among_one : (o s k : Bool) → (o || (s && k)) ≡ (o || ((s || false) && k))
among_one true s k = refl
among_one false true k = refl
among_one false false k = refl

touched_own : (n p : ℕ) (step : Step) (effect : Effect) (after : At → Bool) (lives : List Live) (t : View) (r : QueueRole) (a : At) (new : Bool) → IsPlain step effect p → new ≡ (t r a || (same_role (Base (OfExec p)) r && after a))
    → new ≡ ((t r a || ((same_role (Base (OfExec p)) r || false) && after a)) || list_any (touch_brings n step effect.note after r a) lives)
touched_own n p step effect after lives t r a new plain is =
    (is ∙ among_one (t r a) (same_role (Base (OfExec p)) r) (after a))
    ∙ no_more _ _ (none_any (touch_brings n step effect.note after r a) lives (λ l. and-off _ _ (untouched l step effect p plain)))

-- where only what names it goes into the set of these instructions, the sets become what they have to
pub own_kept : (n : ℕ) (trace : Trace) (step : Step) (effect : Effect) (p : ℕ) (named : At → Bool) (lives : List Live) (old new : View) → IsPlain step effect p → AreOutstanding lives
    → ((r : QueueRole) (a : At) → new r a ≡ (old r a || (same_role (Base (OfExec p)) r && named a)))
    → AreKept n step effect (λ a. old (Base (OfExec p)) a || named a) lives (into_list trace (event_of step effect)) old new
own_kept n trace step effect p named lives old new plain live is =
    record {
      all = new;
      stepped = record {
        touched = new;
        issued = new;
        stalled = new;
        done = new;
        is_touched = λ r a.
            subst (λ into. new r a ≡ ((old r a || (is_among r into && after a)) || list_any (touch_brings n step effect.note after r a) lives)) (sym (entered_own trace step effect p plain))
            (touched_own n p step effect after lives old r a (new r a) plain (own_brought old p r a (named a) (new r a) (is r a)));
        is_issued = still (λ g. list_any g (issue_list (issued_in step effect.note))) new (λ g. ap (λ i. list_any g (issue_list i)) (none_issued step effect p plain));
        is_stalled = still (λ g. list_any (stall_any g step effect.note) lives) new (λ g. none_any (stall_any g step effect.note) lives (λ l. not_stalled g l step effect.note (untouched l step effect p plain)));
        is_done = still (λ g. list_any (done_any g (nexts step effect lives)) (nexts step effect lives)) new
            (λ g. none_passes g (nexts step effect lives) (nexts step effect lives) (ap (list_any (λ (l : Live). l.progress.done)) (same_lives step effect p lives plain) ∙ none_done lives live));
        is_fixed = still (λ g. list_any g (fix_list effect.fixed (spe_in step))) new (λ g. ap (list_any g) (none_fixed step effect p plain));
      };
      kept = λ r a none. refl;
    }
  where
    after : At → Bool
    after a = old (Base (OfExec p)) a || named a
