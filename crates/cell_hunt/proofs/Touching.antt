-- What is kept of touches, when one more is taken in.
use Rattle.std.proofs.Common.{◌≡◌, ℕ, zero, suc, ◌+◌, ◌<◌, ap, refl, sym, subst, ◌∙◌, List, [], ◌∷◌, ◌++◌, map, append_assoc, append-nil}
use Rattle.std.specs.Prelude.{Some, flat_map}
use Rattle.std.specs.List.{range_with_len}
use Rattle.std.specs.Option.{option_map_or}
use Rattle.std.proofs.lemmas.List.Concat.{flat_map-append}
use Rattle.std.proofs.lemmas.List.FromFn.{fill_by_all}
use Rattle.cell_base.specs.declared.steps.Step.{Step}
use Rattle.cell_machine.specs.declared.effect.Effect.{Effect}
use Rattle.cell_machine.specs.Effects.{effect_in}
use Rattle.cell_machine.specs.Opening.{Opening, opening}
use Rattle.cell_machine.specs.Run.{Ran}
use Rattle.cell_machine.specs.Traces.{Event, trace_of}
use Rattle.race_order.proofs.OrderedRuns.{follows, trace-snoc}
use Rattle.race_order.specs.Told.{trace_in}
use Rattle.cell_hunt.specs.declared.touches.Touch.{Touch}
use Rattle.cell_hunt.specs.declared.touched.Touched.{Touched}
use Rattle.cell_hunt.specs.declared.executed.Executed.{Executed}
use Rattle.cell_hunt.specs.Executed.{executed_by, executed_in}
use Rattle.cell_hunt.specs.Kinds.{digest, kind_of, touchable, touched, touchers, touches, touches_in}
use Rattle.cell_hunt.specs.Runs.{with_step}
use Rattle.cell_hunt.specs.Touched.{AreDigests, HasTouched, touched_from}

-- four lists of touches, one behind the other
pub four_more : (digests : List ℕ) (ts a b c d : List Touch) → AreDigests (ts ++ a ++ b ++ c ++ d) digests → AreDigests (ts ++ (a ++ b ++ c ++ d)) digests
four_more digests ts a b c d are =
    let all : ts ++ a ++ b ++ c ++ d ≡ ts ++ (a ++ b ++ c ++ d)
    = ap (λ xs. xs ++ c ++ d) (append_assoc ts a b) ∙ ap (λ xs. xs ++ d) (append_assoc ts (a ++ b) c) ∙ append_assoc ts (a ++ b ++ c) d in
    subst (λ xs. AreDigests xs digests) all are

-- ---- of a run

pub none_touched : (S : Opening) → touches_in (record { setup = S; steps = [] }) ≡ []
unfolding touches_in
none_touched S = refl

-- a step more
pub touches_more : (m : Ran) (s : Step) (e : Effect) → trace_of m ≡ Some (trace_in m) → effect_in m s ≡ Some e → touches_in (with_step m s) ≡ touches_in m ++ touches s e
unfolding touches_in
touches_more m s e is effect =
    let f = follows m s e effect in
    let x : Event = record { step = s; effect = e } in
    let F : List Event → List Touch = flat_map (λ (y : Event). touches y.step y.effect) in
    let more = trace-snoc (opening m.setup) f.state m.steps (trace_in m) s e is f.at f.effect in
    ap (λ o. option_map_or F o []) more ∙ flat_map-append (λ (y : Event). touches y.step y.effect) (trace_in m) (x ∷ [])
    ∙ ap (λ ts. F (trace_in m) ++ ts) (append-nil (touches s e)) ∙ ap (λ o. option_map_or F o [] ++ touches s e) (sym is)

-- ---- executed instructions

pub none_executed : (S : Opening) → executed_in (record { setup = S; steps = [] }) ≡ []
unfolding executed_in
none_executed S = refl

-- a step more
pub executed_more : (m : Ran) (s : Step) (e : Effect) → trace_of m ≡ Some (trace_in m) → effect_in m s ≡ Some e → executed_in (with_step m s) ≡ executed_in m ++ executed_by s e
unfolding executed_in
executed_more m s e is effect =
    let f = follows m s e effect in
    let x : Event = record { step = s; effect = e } in
    let F : List Event → List Executed = flat_map (λ (y : Event). executed_by y.step y.effect) in
    let more = trace-snoc (opening m.setup) f.state m.steps (trace_in m) s e is f.at f.effect in
    ap (λ o. option_map_or F o []) more ∙ flat_map-append (λ (y : Event). executed_by y.step y.effect) (trace_in m) (x ∷ [])
    ∙ ap (λ ts. F (trace_in m) ++ ts) (append-nil (executed_by s e)) ∙ ap (λ o. option_map_or F o [] ++ executed_by s e) (sym is)

-- what is kept of a run tells its kind
told_from : (f : ℕ → ℕ) (a n : ℕ) → touched_from a (map f (range_with_len a n)) ≡ flat_map (λ what. touched what (f what)) (range_with_len a n)
told_from f a zero = refl
told_from f a (suc n) = ap (λ ks. touched a (f a) ++ ks) (told_from f (a + 1) n)

pub kind_is : (m : Ran) (t : Touched) → HasTouched m t → digest (touched_from 0 t.digests) ≡ kind_of m
kind_is m t has =
    let f : ℕ → ℕ = λ what. digest (touchers what (touches_in m)) in
    ap (λ ks. digest (touched_from 0 ks)) (fill_by_all f t.digests (touchable m.setup.lines) 0 has.long (λ k low. has.are k (subst (λ n. k < n) (sym has.long) low)))
    ∙ ap digest (told_from f 0 (touchable m.setup.lines))
