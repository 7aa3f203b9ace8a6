-- Texts that grow, and lines one after the other.
use Rattle.std.proofs.Common.{◌≡◌, ℕ, zero, suc, ◌+◌, ◌-◌, ◌<◌, ◌≤◌, Bool, true, false, if◌then◌else◌, nat_lt, List, [], ◌∷◌, ◌++◌, take, drop, drop-cons, get_or, length, arith, refl, sym, ap, ap₂, ◌∙◌, append_assoc, length-append}
use Rattle.std.specs.Prelude.{Option, Some, None, IsSome, Result, Ok, Err, is_err, is_some, IsOk, IfOk, OnOk, OnErr, IsSomeAnd, slice_get}
use Rattle.std.specs.Option.{option_and_then, option_map, option_map_or}
use Rattle.std.proofs.Math.Seq.{take-append-add}
use Rattle.std.proofs.lemmas.List.{append-nil, nil_from_length, length-drop, take-append-drop, take_more}
use Rattle.cell_base.specs.declared.steps.Step.{Step}
use Rattle.cell_base.specs.declared.steps.Step.TheVariants.{Exec, Piece, Elem, Retire, Atomic, Host}
use Rattle.cell_base.specs.Records.{step_line}
use Rattle.cell_machine.specs.declared.effect.Effect.{Effect}
use Rattle.cell_machine.specs.State.{State}
use Rattle.cell_machine.specs.Next.{next}
use Rattle.cell_machine.specs.Memory.{MainMemory}
use Rattle.cell_machine.specs.Spe.{Spe}
use Rattle.cell_machine.specs.Shown.{line_held_by, line_reserved_by}
use Rattle.cell_machine.specs.Opening.{opening}
use Rattle.cell_trace.specs.Flows.{flow_front, flow_back, reserved_fields, flow_line, spe_flow, spe_flows}
use Rattle.cell_machine.specs.Effects.{effect_in}
use Rattle.cell_machine.specs.Run.{Ran, state_of, next_of}
use Rattle.cell_machine.proofs.Replays.{replay-snoc}
use Rattle.cell_trace.specs.declared.looking.Before.{Before}
use Rattle.cell_trace.specs.declared.looking.After.{After}
use Rattle.cell_trace.specs.Effects.{asked_in, before_in, after_in, effect_line, Between, line_between, line_by, line_in, lines_by, refused_in, grown, StopsAt}

-- ---- the step as its line, without its end

pub popped : (old line made new : List ℕ) (n : ℕ) → made ≡ old ++ line → n ≡ length made → new ≡ take (n - 1) made → 0 < length line → new ≡ old ++ take (length line - 1) line
popped old line made new n wrote count cut some =
    let long : length made ≡ length old + length line = ap length wrote ∙ length-append old line in
    let at : n - 1 ≡ length old + (length line - 1) = omega (arith, count, long, some) in
    cut ∙ ap (λ k. take k made) at ∙ ap (take (length old + (length line - 1))) wrote ∙ take-append-add old line (length line - 1)

pub line_some : (s : Step) → 0 < length (step_line s)
line_some (Exec p) = omega arith
line_some (Piece p c e k) = omega arith
line_some (Elem p c) = omega arith
line_some (Retire p c) = omega arith
line_some (Atomic p) = omega arith
line_some Host = omega arith

-- ---- the line of a step

some_of_is : {X : Type 0} (o : Option X) → IsSome o → (x : X) × (o ≡ Some x)
some_of_is None h = absurd (cc)
some_of_is (Some x) h = (x, refl)

from_next : (t : Bool) (o : Option State) (s : Step) (N : State) → (if t then option_and_then (λ M. next M s) o else None) ≡ Some N → (M : State) × (o ≡ Some M) × (next M s ≡ Some N)
from_next false o s N e = absurd (cc)
from_next true None s N e = absurd (cc)
from_next true (Some M) s N e = (M, refl, e)

-- the state before a step that is allowed, and the one after it
pub around : (m : Ran) (s : Step) → IsSome (next_of m s) → (M : State) × (N : State) × (state_of m ≡ Some M) × (next_of m s ≡ Some N) × (next M s ≡ Some N) × (state_of (grown m s) ≡ Some N)
around m s h =
    let n = some_of_is (next_of m s) h in
    let k = from_next (nat_lt (length m.steps) m.setup.budget) (state_of m) s n.0 n.1 in
    (k.0, n.0, k.1, n.1, k.2, replay-snoc (opening m.setup) m.steps s ∙ ap (option_and_then (λ K. next K s)) k.1 ∙ k.2)

no_effect : (f : Between) (o n : Option State) (s : Step) (x : Option Effect) → x ≡ None → option_and_then (λ M. option_and_then (λ N. option_map (f M N s) x) n) o ≡ None
no_effect f None n s x none = refl
no_effect f (Some M) None s x none = refl
no_effect f (Some M) (Some N) s x none = rw none refl

pub line_none : (f : Between) (m : Ran) (s : Step) → effect_in m s ≡ None → line_by f m s ≡ None
unfolding line_by
line_none f m s none = no_effect f (state_of m) (next_of m s) s (effect_in m s) none

built : (f : Between) (o n : Option State) (x : Option Effect) (M N : State) (s : Step) (e : Effect) → o ≡ Some M → n ≡ Some N → x ≡ Some e
    → option_and_then (λ K. option_and_then (λ L. option_map (f K L s) x) n) o ≡ Some (f M N s e)
built f o n x M N s e a b c = rw (a, b, c) refl

-- the line of a step that is allowed is the one between the states around it
pub line_at : (f : Between) (m : Ran) (s : Step) (M N : State) (e : Effect) → state_of m ≡ Some M → next_of m s ≡ Some N → effect_in m s ≡ Some e → line_by f m s ≡ Some (f M N s e)
unfolding line_by
line_at f m s M N e old new is = built f (state_of m) (next_of m s) (effect_in m s) M N s e old new is

pub line_is : (m : Ran) (s : Step) (e : Effect) (before : Before) (after : After) → IsSome (next_of m s) → effect_in m s ≡ Some e
    → ((M : State) → state_of m ≡ Some M → before ≡ before_in M s e) → ((N : State) → state_of (grown m s) ≡ Some N → after ≡ after_in N s before.asked)
    → line_in m s ≡ Some (effect_line s e before after)
line_is m s e before after allowed is looks_before looks_after =
    let k = around m s allowed in
    let M = k.0 in
    let N = k.1 in
    let b : before ≡ before_in M s e = looks_before M k.2 in
    let a : after ≡ after_in N s (asked_in M s) = looks_after N k.5 ∙ ap (λ (x : Before). after_in N s x.asked) b in
    line_at line_between m s M N e k.2 k.3 is ∙ ap Some (sym (ap₂ (effect_line s e) b a))

-- ---- the lines of steps

pub one_line : (f : Between) (out new whole line : List ℕ) (m n : Ran) (s d : Step) (i : ℕ) (steps : List Step) → i < length steps → s ≡ get_or steps i d → line_by f m s ≡ Some line → new ≡ out ++ line → n ≡ grown m s
    → out ++ lines_by f m (drop i steps) ≡ whole → new ++ lines_by f n (drop (i + 1) steps) ≡ whole
unfolding lines_by
one_line f out new whole line m n s d i steps lt same is wrote made so_far =
    let next : suc i ≡ i + 1 = omega arith in
    let here : lines_by f m (drop i steps) ≡ line ++ lines_by f (grown m s) (drop (suc i) steps) = rw (drop-cons steps i d lt, ← same, is) refl in
    rw (← next, made, wrote) (append_assoc out line (lines_by f (grown m s) (drop (suc i) steps)) ∙ ap (λ t. out ++ t) (sym here) ∙ so_far)

-- whatever line is written, it is there for the same steps
pub same_lines : (f g : Between) (m : Ran) (s : Step) → is_some (line_by f m s) ≡ is_some (line_by g m s)
unfolding line_by
same_lines f g m s = on (state_of m) (next_of m s) (effect_in m s)
  where
    on : (o n : Option State) (x : Option Effect) → is_some (option_and_then (λ M. option_and_then (λ N. option_map (f M N s) x) n) o) ≡ is_some (option_and_then (λ M. option_and_then (λ N. option_map (g M N s) x) n) o)
    on None n x = refl
    on (Some M) None x = refl
    on (Some M) (Some N) None = refl
    on (Some M) (Some N) (Some e) = refl

there_too : (o : Option (List ℕ)) (line : List ℕ) (p : Option (List ℕ)) → p ≡ Some line → is_some p ≡ is_some o → (other : List ℕ) × (o ≡ Some other)
there_too None line p is same = let e : is_some p ≡ true = rw is refl in absurd (cc)
there_too (Some other) line p is same = (other, refl)

none_too : (o p : Option (List ℕ)) → p ≡ None → is_some p ≡ is_some o → o ≡ None
none_too None p is same = refl
none_too (Some other) p is same = let e : is_some p ≡ false = rw is refl in absurd (cc)

pub refused_later : (f : Between) (o : Option Step) (line : List ℕ) (m n : Ran) (s d : Step) (i : ℕ) (steps : List Step) → i < length steps → s ≡ get_or steps i d → line_by f m s ≡ Some line → n ≡ grown m s
    → refused_in m (drop i steps) ≡ o → refused_in n (drop (i + 1) steps) ≡ o
unfolding refused_in
refused_later f o line m n s d i steps lt same is made so_far =
    let next : suc i ≡ i + 1 = omega arith in
    let there = there_too (line_in m s) line (line_by f m s) is (same_lines f line_between m s) in
    let told = there.1 in
    let here : refused_in m (drop i steps) ≡ refused_in (grown m s) (drop (suc i) steps) = rw (drop-cons steps i d lt, ← same, told) refl in
    rw (← next, made) (sym here ∙ so_far)

pub last_line : (f : Between) (out new whole : List ℕ) (m : Ran) (s d : Step) (i : ℕ) (steps : List Step) → i < length steps → s ≡ get_or steps i d → line_by f m s ≡ None → new ≡ out ++ []
    → out ++ lines_by f m (drop i steps) ≡ whole → new ≡ whole
unfolding lines_by
last_line f out new whole m s d i steps lt same is wrote so_far =
    let here : lines_by f m (drop i steps) ≡ [] = rw (drop-cons steps i d lt, ← same, is) refl in
    wrote ∙ ap (λ t. out ++ t) (sym here) ∙ so_far

pub refused_here : (f : Between) (o : Option Step) (m : Ran) (s d : Step) (i : ℕ) (steps : List Step) → i < length steps → s ≡ get_or steps i d → line_by f m s ≡ None
    → refused_in m (drop i steps) ≡ o → Some s ≡ o
unfolding refused_in
refused_here f o m s d i steps lt same is so_far =
    let none = none_too (line_in m s) (line_by f m s) is (same_lines f line_between m s) in
    let here : refused_in m (drop i steps) ≡ Some s = rw (drop-cons steps i d lt, ← same, none) refl in
    sym here ∙ so_far

pub all_lines : (f : Between) (out whole : List ℕ) (m : Ran) (i : ℕ) (steps : List Step) → length steps ≤ i → out ++ lines_by f m (drop i steps) ≡ whole → out ≡ whole
unfolding lines_by
all_lines f out whole m i steps le so_far =
    let none : drop i steps ≡ [] = nil_from_length (drop i steps) (omega (arith, length-drop i steps)) in
    sym (append-nil out) ∙ (rw none at so_far)

pub none_refused : (o : Option Step) (m : Ran) (i : ℕ) (steps : List Step) → length steps ≤ i → refused_in m (drop i steps) ≡ o → None ≡ o
unfolding refused_in
none_refused o m i steps le so_far =
    let none : drop i steps ≡ [] = nil_from_length (drop i steps) (omega (arith, length-drop i steps)) in
    (rw none at so_far)

-- what a step that was made leaves
pub made_of : {X E : Type 0} (r : Result X E) (A : X → Type 0) (P : Type 0) → is_err r ≡ false → IfOk r (λ x. A x × P) → P
made_of (Ok x) A P is h = h.1
made_of (Err e) A P is h = absurd (cc)

pub is_there : {X : Type 0} (o : Option X) (x : X) → o ≡ Some x → IsSome o
is_there None x e = absurd (cc)
is_there (Some y) x e = refl

pub told_none : {X : Type 0} (o : Option X) → o ≡ None → false ≡ is_some o
told_none o e = rw e refl

pub told_some : {X : Type 0} (o : Option X) (x : X) → o ≡ Some x → true ≡ is_some o
told_some o x e = rw e refl

pub text_none : (out : List ℕ) (o : Option (List ℕ)) → o ≡ None → out ≡ out ++ option_map_or (λ line. line) o []
text_none out o e = rw e (sym (append-nil out))

pub text_some : (out new line : List ℕ) (o : Option (List ℕ)) → new ≡ out ++ line → o ≡ Some line → new ≡ out ++ option_map_or (λ line. line) o []
text_some out new line o wrote e = rw e wrote

pub line_of_told : (o : Option (List ℕ)) (b : Bool) → b ≡ is_some o → b ≡ true → (line : List ℕ) × (o ≡ Some line)
line_of_told None b told holds = absurd (cc)
line_of_told (Some line) b told holds = (line, refl)

pub none_of_told : (o : Option (List ℕ)) (b : Bool) → b ≡ is_some o → b ≡ false → o ≡ None
none_of_told None b told fails = refl
none_of_told (Some line) b told fails = absurd (cc)

pub text_of_some : (out new line : List ℕ) (o : Option (List ℕ)) → o ≡ Some line → new ≡ out ++ option_map_or (λ line. line) o [] → new ≡ out ++ line
text_of_some out new line o is wrote = rw is at wrote

pub text_of_none : (out new : List ℕ) (o : Option (List ℕ)) → o ≡ None → new ≡ out ++ option_map_or (λ line. line) o [] → new ≡ out ++ []
text_of_none out new o is wrote = rw is at wrote

pub grown_of : (n x y : Ran) (b : Bool) → b ≡ true → n ≡ (if b then x else y) → n ≡ x
grown_of n x y b holds made = rw holds at made

pub kept_of : (n x y : Ran) (b : Bool) → b ≡ false → n ≡ (if b then x else y) → n ≡ y
kept_of n x y b fails made = rw fails at made

-- ---- where a machine stops

pub kept_by : {X E : Type 0} (r : Result X E) (P : Type 0) → is_err r ≡ true → OnErr r P → P
kept_by (Ok x) P is h = absurd (cc)
kept_by (Err e) P is h = h

pub not_allowed : {X E Y : Type 0} (r : Result X E) (o : Option Y) → is_err r ≡ true → (IsSome o → IsOk r) → o ≡ None
not_allowed r None is h = refl
not_allowed (Ok x) (Some y) is h = absurd (cc)
not_allowed (Err e) (Some y) is h = let holds : false ≡ true = h refl in absurd (cc)

pub not_some : {X : Type 0} (o : Option X) (b : Bool) → b ≡ is_some o → b ≡ false → o ≡ None
not_some None b told fails = refl
not_some (Some x) b told fails = absurd (cc)

pub stops : (m l n : Ran) (steps : List Step) (i : ℕ) (s d : Step) → i < length steps → s ≡ get_or steps i d → l ≡ record m { steps = m.steps ++ take i steps } → n ≡ l → next_of l s ≡ None → StopsAt m steps n s
stops m l n steps i s d lt same stands kept none = record {
  before = take i steps;
  after = drop (suc i) steps;
  parts = sym (take-append-drop i steps) ∙ ap (λ (t : List Step). take i steps ++ t) (drop-cons steps i d lt ∙ ap (λ (x : Step). x ∷ drop (suc i) steps) (sym same));
  made = kept ∙ stands;
  refused = ap (λ (x : Ran). next_of x s) kept ∙ none;
}

pub goes_on : (m l n : Ran) (steps : List Step) (i : ℕ) (s d : Step) → i < length steps → s ≡ get_or steps i d → l ≡ record m { steps = m.steps ++ take i steps } → n ≡ grown l s → n ≡ record m { steps = m.steps ++ take (i + 1) steps }
goes_on m l n steps i s d lt same stands made =
    let more : take (i + 1) steps ≡ take i steps ++ s ∷ [] = take_more steps i d lt ∙ ap (λ (x : Step). take i steps ++ x ∷ []) (sym same) in
    let here : (m.steps ++ take i steps) ++ s ∷ [] ≡ m.steps ++ take (i + 1) steps = append_assoc m.steps (take i steps) (s ∷ []) ∙ ap (λ (t : List Step). m.steps ++ t) (sym more) in
    made ∙ ap (λ (x : Ran). grown x s) stands ∙ ap (λ (t : List Step). record m { steps = t }) here

-- ---- processors

pub on_ok : {A E : Type 0} (r : Result A E) (P Q : Type 0) → (P → Q) → OnOk r P → OnOk r Q
on_ok (Ok x) P Q k h = k h
on_ok (Err e) P Q k h = h

-- what holds of the state holds of this one
pub of_state : (o : Option State) (A : State → Type 0) (M : State) → o ≡ Some M → IsSomeAnd o A → A M
of_state o A M is h = rw is at h

-- what holds of the processor holds of this one
pub of_spe : (o : Option State) (p : ℕ) (M : State) (P : Spe) (A : Spe → Type 0) → o ≡ Some M → slice_get M.spes p ≡ Some P → IsSomeAnd (option_and_then (λ N. slice_get N.spes p) o) A → A P
of_spe o p M P A is there h = let k : IsSomeAnd (slice_get M.spes p) A = rw is at h in rw there at k

pub got_within : {X : Type 0} (xs : List X) (c : ℕ) → c < length xs → (x : X) × (slice_get xs c ≡ Some x)
got_within [] c lt = absurd (omega (arith, lt))
got_within (x ∷ xs) zero lt = (x, refl)
got_within (x ∷ xs) (suc c) lt = got_within xs c (omega (arith, lt))

pub flow_written : (out first second new : List ℕ) (memory : MainMemory) (p : ℕ) (P : Spe) (line held : Option ℕ) → first ≡ out ++ flow_front p P → second ≡ first ++ reserved_fields line held → line ≡ line_reserved_by P
    → held ≡ line_held_by memory P → new ≡ second ++ flow_back P → new ≡ out ++ flow_line memory p P
unfolding flow_line
flow_written out first second new memory p P line held a b last is d =
    d ∙ ap (λ t. t ++ flow_back P) (b ∙ ap (λ t. t ++ reserved_fields line held) a ∙ append_assoc out (flow_front p P) (reserved_fields line held))
    ∙ append_assoc out (flow_front p P ++ reserved_fields line held) (flow_back P) ∙ ap₂ (λ l h. out ++ ((flow_front p P ++ reserved_fields l h) ++ flow_back P)) last is

pub flows_one : (out whole : List ℕ) (memory : MainMemory) (p i : ℕ) (P : Spe) (spes : List Spe) → slice_get spes i ≡ Some P → out ++ spe_flows memory p (drop i spes) ≡ whole
    → (out ++ spe_flow memory p P) ++ spe_flows memory (p + 1) (drop (i + 1) spes) ≡ whole
unfolding spe_flows
flows_one out whole memory p i P [] there so_far = absurd (cc)
flows_one out whole memory p zero P (Q ∷ spes) there so_far =
    let one : suc p ≡ p + 1 = omega arith in
    let same : Q ≡ P = cc in
    rw (← one, ← same) (append_assoc out (spe_flow memory p Q) (spe_flows memory (suc p) spes) ∙ so_far)
flows_one out whole memory p (suc i) P (Q ∷ spes) there so_far =
    let e : suc i + 1 ≡ suc (i + 1) = omega arith in
    rw e (flows_one out whole memory p i P spes there so_far)

pub flows_none : (out whole : List ℕ) (memory : MainMemory) (p i : ℕ) (spes : List Spe) → length spes ≤ i → out ++ spe_flows memory p (drop i spes) ≡ whole → out ≡ whole
unfolding spe_flows
flows_none out whole memory p i spes le so_far =
    let none : drop i spes ≡ [] = nil_from_length (drop i spes) (omega (arith, length-drop i spes)) in
    sym (append-nil out) ∙ (rw none at so_far)

pub held_of : (o : Option State) (p : ℕ) (M : State) (P : Spe) (held : Option ℕ) → o ≡ Some M → slice_get M.spes p ≡ Some P
    → IsSomeAnd o (λ N. IsSomeAnd (slice_get N.spes p) (λ Q. held ≡ line_held_by N.memory Q)) → held ≡ line_held_by M.memory P
held_of o p M P held is there h = let k : IsSomeAnd (slice_get M.spes p) (λ Q. held ≡ line_held_by M.memory Q) = rw is at h in rw there at k
