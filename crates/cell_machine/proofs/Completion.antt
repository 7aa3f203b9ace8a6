-- On a run every step of a command stands after the place at which each command that goes before it became complete,
-- and a command keeps its number, and stays complete where it is.
use Rattle.std.proofs.Common.{◌≡◌, ◌≢◌, ℕ, zero, suc, ◌+◌, ◌<◌, ◌≤◌, ◌==◌, ◌&&◌, ◌||◌, not, Bool, true, false, List, [], ◌∷◌, ◌++◌, length, arith, refl, sym, ◌∙◌, ap, subst, true≢false}
use Rattle.std.specs.Prelude.{Option, Some, None, slice_get, nat_lt, filter, cond, is_some, option_map, option_and_then}
use Rattle.std.specs.List.{list_any, range_with_len}
use Rattle.std.specs.Option.{option_map_or}
use Rattle.mfc_command.specs.declared.command.Command.{Command}
use Rattle.mfc_command.specs.Order.{goes_before, may_start, outstanding, precedes}
use Rattle.cell_base.specs.declared.steps.Step.{Step}
use Rattle.cell_base.specs.declared.steps.Step.TheVariants.{Exec, Piece, Elem, Retire, Atomic, Host}
use Rattle.cell_machine.specs.declared.memory.SharedMemory.{SharedMemory}
use Rattle.cell_machine.specs.Spe.{Spe}
use Rattle.cell_machine.specs.State.{State}
use Rattle.cell_machine.specs.Moves.{is_complete, may_begin}
use Rattle.cell_machine.specs.Transfers.{may_piece, may_elem, may_retire, has_part, has_element, is_left}
use Rattle.cell_machine.specs.Next.{act, next, ended_by, closed_in}
use Rattle.cell_machine.specs.Opening.{Opening, opening}
use Rattle.cell_machine.specs.Run.{Ran, IsRun, replay, spe_of}
use Rattle.cell_host.specs.Script.{Progress}
use Rattle.cell_machine.specs.declared.processor.Processor.{Processor}
use Rattle.cell_machine.specs.Shows.{IsMachine}
use Rattle.cell_machine.specs.Order.{is_step_of, IsInOrder}
use Rattle.cell_machine.proofs.SpeShown.{first_of_both, second_of_both, not_of}
use Rattle.cell_machine.proofs.MovesShown.{eq_is, eq_not, get-within}
use Rattle.cell_machine.proofs.Choices.{next-piece, next-elem, next-retire}
use Rattle.cell_machine.proofs.Elements.{not_on}
use Rattle.cell_machine.proofs.Staying.{Keeps, keeps-same, keeps-then}
use Rattle.cell_machine.proofs.Bounds.{may-begun, act-keeps}

or_off : (a b : Bool) → (a || b) ≡ false → (a ≡ false) × (b ≡ false)
or_off true b h = absurd (true≢false h)
or_off false b h = (refl, h)

-- none of a range that passes t passes g
none_on : (t g : ℕ → Bool) (a k : ℕ) (rest : List ℕ) (b : Bool) → t a ≡ b → list_any g (cond b (a ∷ rest) rest) ≡ false → g k ≡ true → (list_any g rest ≡ false → a ≢ k → t k ≡ false) → t k ≡ false
none_on t g a k rest true e h go later =
    not_on (t k) (λ p. by (a == k) refl p)
  where
    by : (b : Bool) → (a == k) ≡ b → t k ≡ true → ⊥
    by true q p = true≢false (sym go ∙ subst (λ j. g j ≡ false) (eq_is a k q) (or_off (g a) (list_any g rest) h).0)
    by false q p = true≢false (sym p ∙ later (or_off (g a) (list_any g rest) h).1 (eq_not a k q))
none_on t g a k rest false e h go later = by (a == k) refl
  where
    by : (b : Bool) → (a == k) ≡ b → t k ≡ false
    by true q = subst (λ j. t j ≡ false) (eq_is a k q) e
    by false q = later h (eq_not a k q)

none-passes : (t g : ℕ → Bool) (a n k : ℕ) → list_any g (filter t (range_with_len a n)) ≡ false → a ≤ k → k < a + n → g k ≡ true → t k ≡ false
none-passes t g a zero k h low high go = absurd (omega arith)
none-passes t g a (suc n) k h low high go =
    none_on t g a k (filter t (range_with_len (a + 1) n)) (t a) refl h go (λ rest differs. none-passes t g (a + 1) n k rest (omega arith) (omega arith) go)

not_not : (b : Bool) → not b ≡ false → b ≡ true
not_not true h = refl
not_not false h = absurd (true≢false h)

-- a command may start only where each that goes before it is complete
may-start-complete : (complete : ℕ → Bool) (issued : List Command) (c d : ℕ) → may_start complete issued d ≡ true → c < length issued → goes_before issued c d ≡ true → complete c ≡ true
unfolding may_start outstanding
may-start-complete complete issued c d may there before =
    not_not (complete c) (none-passes (λ k. not (complete k)) (λ k. goes_before issued k d) 0 (length issued) c (not_of _ may) (omega arith) (omega arith) before)

before-issued : (issued : List Command) (c d : ℕ) → goes_before issued c d ≡ true → c < length issued
unfolding goes_before
before-issued issued c d h = on (slice_get issued c) refl (second_of_both (nat_lt c d) _ h)
  where
    on : (o : Option Command) → slice_get issued c ≡ o → option_map_or (λ first. option_map_or (λ second. precedes first second) (slice_get issued d) false) o false ≡ true → c < length issued
    on None e g = absurd (true≢false (sym g))
    on (Some x) e g = get-within issued c x e

pub begun : (P : Spe) (c d : ℕ) → may_begin P.moves d ≡ true → goes_before P.moves.issued c d ≡ true → is_complete P.moves c ≡ true
begun P c d may before = may-start-complete (is_complete P.moves) P.moves.issued c d may (before-issued P.moves.issued c d before) before

piece-begun : (P : Spe) (d e k : ℕ) → may_piece P d e k ≡ true → may_begin P.moves d ≡ true
unfolding may_piece
piece-begun P d e k h = may-begun P d (has_part P.moves d e k) h

elem-begun : (P : Spe) (d : ℕ) → may_elem P d ≡ true → may_begin P.moves d ≡ true
unfolding may_elem
elem-begun P d h = may-begun P d (has_element P.moves d) h

retire-begun : (P : Spe) (d : ℕ) → may_retire P d ≡ true → may_begin P.moves d ≡ true
unfolding may_retire
retire-begun P d h = may-begun P d (is_left P.moves d) h

-- where a step of b is allowed that waits for b's turn, and it is a step of d
begun-at : (M : State) (q p b c d : ℕ) (P : Spe) (r : Bool) → (r ≡ true → slice_get M.spes q ≡ Some P → may_begin P.moves b ≡ true) → r ≡ true → (q == p && b == d) ≡ true
    → slice_get M.spes p ≡ Some P → goes_before P.moves.issued c d ≡ true → is_complete P.moves c ≡ true
begun-at M q p b c d P r begins allowed of at before =
    let is_p : q ≡ p = eq_is q p (first_of_both (q == p) (b == d) of) in
    let is_d : b ≡ d = eq_is b d (second_of_both (q == p) (b == d) of) in
    let at_q : slice_get M.spes q ≡ Some P = subst (λ j. slice_get M.spes j ≡ Some P) (sym is_p) at in
    begun P c d (subst (λ j. may_begin P.moves j ≡ true) is_d (begins allowed at_q)) before

-- an allowed step of d comes only where each command that goes before d is complete
step-waits : (M : State) (s : Step) (p c d : ℕ) (P : Spe) → is_some (next M s) ≡ true → is_step_of p d s ≡ true → slice_get M.spes p ≡ Some P → goes_before P.moves.issued c d ≡ true → is_complete P.moves c ≡ true
step-waits M (Piece q b e k) p c d P allowed of at before =
    begun-at M q p b c d P (is_some (next M (Piece q b e k))) (λ h there. piece-begun P b e k (sym (next-piece M q b e k P there) ∙ h)) allowed of at before
step-waits M (Elem q b) p c d P allowed of at before =
    begun-at M q p b c d P (is_some (next M (Elem q b))) (λ h there. elem-begun P b (sym (next-elem M q b P there) ∙ h)) allowed of at before
step-waits M (Retire q b) p c d P allowed of at before =
    begun-at M q p b c d P (is_some (next M (Retire q b))) (λ h there. retire-begun P b (sym (next-retire M q b P there) ∙ h)) allowed of at before
step-waits M (Exec q) p c d P allowed of at before = absurd (true≢false (sym of))
step-waits M (Atomic q) p c d P allowed of at before = absurd (true≢false (sym of))
step-waits M Host p c d P allowed of at before = absurd (true≢false (sym of))

pub replay-part : (M : State) (before after : List Step) (s : Step) → is_some (replay M (before ++ s ∷ after)) ≡ true → (N : State) → replay M before ≡ Some N → is_some (next N s) ≡ true
replay-part M [] after s run N at = on (next M s) refl run
  where
    on : (o : Option State) → next M s ≡ o → is_some (option_and_then (λ K. replay K after) o) ≡ true → is_some (next N s) ≡ true
    on None e g = absurd (true≢false (sym g))
    on (Some K) e g = let same : M ≡ N = cc in subst (λ L. is_some (next L s) ≡ true) same (ap is_some e)
replay-part M (t ∷ before) after s run N at = on (next M t) run at (λ K r a. replay-part K before after s r N a)
  where
    on : (o : Option State) → is_some (option_and_then (λ K. replay K (before ++ s ∷ after)) o) ≡ true → option_and_then (λ K. replay K before) o ≡ Some N
        → ((K : State) → is_some (replay K (before ++ s ∷ after)) ≡ true → replay K before ≡ Some N → is_some (next N s) ≡ true) → is_some (next N s) ≡ true
    on None g a k = absurd (true≢false (sym g))
    on (Some K) g a k = k K g a

pub some-of : {X Y : Type 0} (f : X → Option Y) (o : Option X) (y : Y) → option_and_then f o ≡ Some y → (x : X) × (o ≡ Some x) × (f x ≡ Some y)
some-of f None y h = absurd (cc)
some-of f (Some x) y h = (x, refl, h)

-- on a run, every step of d stands after the place at which c became complete, for each c that goes before d
run-waits : (S : Opening) (before after : List Step) (s : Step) (p c d : ℕ) (P : Spe) → IsRun S (before ++ s ∷ after) → is_step_of p d s ≡ true
    → spe_of (record { setup = S; steps = before }) p ≡ Some P → goes_before P.moves.issued c d ≡ true → is_complete P.moves c ≡ true
run-waits S before after s p c d P run of at goes =
    let M = some-of (λ (N : State). slice_get N.spes p) (replay (opening S) before) P at in
    step-waits M.0 s p c d P (replay-part (opening S) before after s run.0 M.0 M.1) of M.2 goes

pub next-act : (M : State) (s : Step) (N : State) → next M s ≡ Some N → (K : State) × (act M s ≡ Some K) × ((closed_in M s K).spes ≡ N.spes)
next-act M s N e = on (act M s) refl e
  where
    on : (o : Option State) → act M s ≡ o → option_map (ended_by M s) o ≡ Some N → (K : State) × (act M s ≡ Some K) × ((closed_in M s K).spes ≡ N.spes)
    on None a g = absurd (cc)
    on (Some K) a g = (K, a, (let same : ended_by M s K ≡ N = cc in ap (λ (x : State). x.spes) same))

-- through these steps a command keeps its number, and stays complete where it is
replay-keeps : (M : State) (steps : List Step) (N : State) (p : ℕ) (P Q : Spe) → replay M steps ≡ Some N → slice_get M.spes p ≡ Some P → slice_get N.spes p ≡ Some Q → Keeps P.moves Q.moves
replay-keeps M [] N p P Q run at last = let same : P ≡ Q = cc in subst (λ (y : Spe). Keeps P.moves y.moves) same (keeps-same P.moves)
replay-keeps M (s ∷ steps) N p P Q run at last =
    let first = some-of (λ K. replay K steps) (next M s) N run in
    let acted = next-act M s first.0 first.1 in
    let kept = act-keeps M s acted.0 p P acted.1 at in
    let there : slice_get first.0.spes p ≡ Some kept.0 = subst (λ xs. slice_get xs p ≡ Some kept.0) acted.2 kept.1 in
    keeps-then P.moves kept.0.moves Q.moves kept.2 (replay-keeps first.0 steps N p kept.0 Q first.2 there last)

pub replay-rest : (M : State) (before between : List Step) (N K : State) → replay M before ≡ Some N → replay M (before ++ between) ≡ Some K → replay N between ≡ Some K
replay-rest M [] between N K e f = let same : M ≡ N = cc in subst (λ L. replay L between ≡ Some K) same f
replay-rest M (s ∷ before) between N K e f =
    let first = some-of (λ L. replay L before) (next M s) N e in
    replay-rest first.0 before between N K first.2 (subst (λ o. option_and_then (λ L. replay L (before ++ between)) o ≡ Some K) first.1 f)

run-keeps : (S : Opening) (before between : List Step) (p : ℕ) (P Q : Spe) → spe_of (record { setup = S; steps = before }) p ≡ Some P
    → spe_of (record { setup = S; steps = before ++ between }) p ≡ Some Q → Keeps P.moves Q.moves
run-keeps S before between p P Q early late =
    let M = some-of (λ (N : State). slice_get N.spes p) (replay (opening S) before) P early in
    let N = some-of (λ (N : State). slice_get N.spes p) (replay (opening S) (before ++ between)) Q late in
    replay-keeps M.0 between N.0 p P Q (replay-rest (opening S) before between M.0 N.0 M.1 N.1) M.2 N.2

pub machine-in_order : (setup : Opening) (steps : List Step) (capacity : ℕ) (processors : List Processor) (memory : SharedMemory) (host : Progress) (m : Ran)
    → IsMachine setup steps capacity processors memory host → record { setup = setup; steps = steps } ≡ m → IsInOrder m
machine-in_order setup steps capacity processors memory host m is view =
    subst IsInOrder view (record {
      waits = λ before after s p c d P e of at goes.
          let run : IsRun setup steps = (ap is_some is.replayed, is.within) in
          run-waits setup before after s p c d P (subst (IsRun setup) e run) of at goes;
      stays = λ before between after p c P Q e early late. (run-keeps setup before between p P Q early late).complete c;
      grows = λ before between after p P Q e early late. let k = run-keeps setup before between p P Q early late in (k.later, k.issued);
    })
