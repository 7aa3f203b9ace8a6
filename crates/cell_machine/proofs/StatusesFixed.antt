-- A tag status is fixed at the end of a step exactly where a request was pending then, and isn't any more.
use Rattle.std.proofs.Common.{◌≡◌, ℕ, zero, suc, List, [], ◌∷◌, refl, sym, ◌∙◌, ap, slice_set}
use Rattle.std.specs.Prelude.{Option, Some, None, length, slice_get, Bool, true, false, cond}
use Rattle.std.specs.Option.{option_map, option_and_then}
use Rattle.cell_base.specs.declared.steps.Step.{Step}
use Rattle.cell_base.specs.declared.steps.Step.TheVariants.{Exec, Piece, Elem, Retire, Atomic, Host}
use Rattle.mfc_command.specs.declared.command.AtomicOp.{AtomicOp}
use Rattle.mfc_command.specs.declared.command.Command.{Command}
use Rattle.mfc_command.specs.declared.range.Part.{Part}
use Rattle.cell_machine.specs.declared.effect.Effect.{Effect}
use Rattle.cell_machine.specs.State.{State}
use Rattle.cell_machine.specs.Spe.{Spe}
use Rattle.cell_machine.specs.Moves.{present, busy}
use Rattle.cell_machine.specs.Memory.{MainMemory, lines_of}
use Rattle.cell_machine.specs.Exec.{exec}
use Rattle.cell_machine.specs.Transfers.{Left, piece, elem, retire, is_put, is_signal, part_in}
use Rattle.cell_machine.specs.Atomic.{Fate, Got, Stored, Lost, atomic, fate}
use Rattle.cell_machine.specs.Next.{act, act_in, own, left, with_left}
use Rattle.cell_machine.specs.Effects.{effect_of, fixes, exec_effect, piece_effect, part_effect, signal_effect, copy_effect, elem_effect, plain_effect, line_effect, of_command}
use Rattle.cell_machine.specs.EffectLaws.{FixesOnce, maker}
use Rattle.cell_machine.proofs.Alike.{left-alike, alike-at}
use Rattle.cell_machine.proofs.Raising.{once}

-- ---- what made an option

then_got : {X Y : Type 0} (f : X → Option Y) (o : Option X) (y : Y) → option_and_then f o ≡ Some y → (x : X) × (o ≡ Some x) × (f x ≡ Some y)
then_got f None y h = absurd (cc)
then_got f (Some x) y h = (x, refl, h)

map_got : {X Y : Type 0} (f : X → Y) (o : Option X) (y : Y) → option_map f o ≡ Some y → (x : X) × (o ≡ Some x) × (f x ≡ y)
map_got f None y h = absurd (cc)
map_got f (Some x) y h = (x, refl, (cc))

set_at : {X : Type 0} (xs : List X) (p : ℕ) (x y z : X) → slice_get xs p ≡ Some x → slice_get (slice_set xs p y) p ≡ Some z → y ≡ z
set_at [] p x y z h k = absurd (cc)
set_at (w ∷ xs) zero x y z h k = (cc)
set_at (w ∷ xs) (suc p) x y z h k = set_at xs p x y z h k

-- ---- the effect of each kind of step

-- it says of the processor that the step leaves whether its request is met
abbrev Says : State → Step → (Spe → Option Effect) → Type 0
Says M s f = (P : Spe) (x : Left) (e : Effect) → own M.memory s P ≡ Some x → f P ≡ Some e → e.fixed ≡ fixes x.spe

mapped : (memory : MainMemory) (o : Option Spe) (g : Spe → Effect) (x : Left) (e : Effect) → ((Q : Spe) → (g Q).fixed ≡ fixes Q)
    → option_map (left memory) o ≡ Some x → option_map g o ≡ Some e → e.fixed ≡ fixes x.spe
mapped memory None g x e all h k = absurd (cc)
mapped memory (Some Q) g x e all h k =
    let a : left memory Q ≡ x = cc in
    let b : g Q ≡ e = cc in
    sym (ap (λ (f : Effect). f.fixed) b) ∙ all Q ∙ ap (λ (y : Left). fixes y.spe) a

exec_says : (M : State) (p : ℕ) → Says M (Exec p) (λ P. option_map (exec_effect p P) (exec (lines_of M.memory) P))
exec_says M p P x e h k = mapped M.memory (exec (lines_of M.memory) P) (exec_effect p P) x e (λ Q. refl) h k

retire_says : (M : State) (p c : ℕ) → Says M (Retire p c) (λ P. option_map plain_effect (retire P c))
retire_says M p c P x e h k = mapped M.memory (retire P c) plain_effect x e (λ Q. refl) h k

part_says : (spes p : ℕ) (d : Command) (y : Part) (x : Left) → (part_effect spes p d y x).fixed ≡ fixes x.spe
part_says spes p d y x = on (is_signal d.kind)
  where
    on : (b : Bool) → (cond b (signal_effect spes p y x) (copy_effect p (is_put d.kind) y x.spe)).fixed ≡ fixes x.spe
    on true = refl
    on false = refl

piece_says : (M : State) (p c n k : ℕ) → Says M (Piece p c n k) (λ P. option_and_then (λ x. of_command P c (piece_effect (length M.spes) p c k P x)) (piece M.memory P c n k))
piece_says M p c n k P x e h was =
    let made = then_got _ (piece M.memory P c n k) e was in
    let of = then_got _ (slice_get P.moves.issued c) e made.2 in
    let at = map_got _ (present P.moves.read c of.0) e of.2 in
    let same : made.0 ≡ x = let a = made.1 in cc in
    sym (ap (λ (f : Effect). f.fixed) at.2) ∙ part_says (length M.spes) p of.0 (part_in at.0 k) made.0 ∙ ap (λ (y : Left). fixes y.spe) same

elem_says : (M : State) (p c : ℕ) → Says M (Elem p c) (λ P. option_and_then (λ Q. of_command P c (λ d. Some (elem_effect (lines_of M.memory) p c P Q d))) (elem (lines_of M.memory) P c))
elem_says M p c P x e h was =
    let made = then_got _ (elem (lines_of M.memory) P c) e was in
    let of = then_got _ (slice_get P.moves.issued c) e made.2 in
    let left_is = map_got (left M.memory) (elem (lines_of M.memory) P c) x h in
    let same : made.0 ≡ left_is.0 = let a = made.1 in let b = left_is.1 in cc in
    let is : elem_effect (lines_of M.memory) p c P made.0 of.0 ≡ e = let a = of.2 in cc in
    sym (ap (λ (f : Effect). f.fixed) is) ∙ ap fixes same ∙ ap (λ (y : Left). fixes y.spe) left_is.2

line_says : (p : ℕ) (a : AtomicOp) (Q : Spe) (f : Fate) → (line_effect p a Q f).fixed ≡ fixes Q
line_says p a Q Got = refl
line_says p a Q Stored = refl
line_says p a Q Lost = refl

atomic_says : (M : State) (p : ℕ) → Says M (Atomic p) (λ P. option_and_then (λ x. option_map (λ a. line_effect p a x.spe (fate M.memory P a)) P.channels.slot) (atomic M.memory P))
atomic_says M p P x e h was =
    let made = then_got _ (atomic M.memory P) e was in
    let of = map_got _ P.channels.slot e made.2 in
    let same : made.0 ≡ x = let a = made.1 in cc in
    sym (ap (λ (f : Effect). f.fixed) of.2) ∙ line_says p of.0 made.0.spe (fate M.memory P of.0) ∙ ap (λ (y : Left). fixes y.spe) same

-- ---- all of them

of_own : (M N : State) (q p : ℕ) (s : Step) (P : Spe) (e : Effect) (f : Spe → Option Effect) → Says M s f → Some q ≡ Some p → act_in M q s ≡ Some N → slice_get N.spes p ≡ Some P
    → option_and_then f (slice_get M.spes q) ≡ Some e → e.fixed ≡ fixes P
of_own M N q p s P e f says is made at effect =
    let before = then_got _ (slice_get M.spes q) N made in
    let own_is = map_got (with_left M q) (own M.memory s before.0) N before.2 in
    let seen = then_got f (slice_get M.spes q) e effect in
    let same : seen.0 ≡ before.0 = let a = seen.1 in let b = before.1 in cc in
    let spe : slice_get (with_left M q own_is.0).spes q ≡ Some P =
    ap (λ (O : State). slice_get O.spes q) own_is.2 ∙ ap (λ o. option_and_then (slice_get N.spes) o) is ∙ at in
    let was = alike-at (with_left M q own_is.0).spes (slice_set M.spes q own_is.0.spe) q P (sym (left-alike M q own_is.0)) spe in
    says before.0 own_is.0 e own_is.1 (ap f (sym same) ∙ seen.2) ∙ ap fixes (set_at M.spes q before.0 own_is.0.spe was.0 before.1 was.1) ∙ sym (ap (λ (X : Spe). fixes X) was.2)

fixed-is : (M N : State) (s : Step) (p : ℕ) (P : Spe) (e : Effect) → maker s ≡ Some p → act M s ≡ Some N → slice_get N.spes p ≡ Some P → effect_of M s ≡ Some e → e.fixed ≡ fixes P
unfolding effect_of
fixed-is M N (Exec q) p P e is made at was = of_own M N q p (Exec q) P e _ (exec_says M q) is made at was
fixed-is M N (Piece q c n k) p P e is made at was = of_own M N q p (Piece q c n k) P e _ (piece_says M q c n k) is made at was
fixed-is M N (Elem q c) p P e is made at was = of_own M N q p (Elem q c) P e _ (elem_says M q c) is made at was
fixed-is M N (Retire q c) p P e is made at was = of_own M N q p (Retire q c) P e _ (retire_says M q c) is made at was
fixed-is M N (Atomic q) p P e is made at was = of_own M N q p (Atomic q) P e _ (atomic_says M q) is made at was
fixed-is M N Host p P e is made at was = absurd (cc)

pub fixes-once : FixesOnce
fixes-once M N s p P e is made at was = fixed-is M N s p P e is made at was ∙ once (busy P.moves) (length P.moves.issued) P.tags P.tags.request refl
