-- A step that is made again changes what other actors can see if its bytes differ.
use Rattle.std.proofs.Common.{◌≡◌, ℕ, ◌+◌, ◌*◌, ◌≤◌, Bool, true, false, List, length, refl, sym, ap, ◌∙◌, subst, Option, Some}
use Rattle.std.specs.Prelude.{◌&&◌, ◌||◌, ◌==◌, not, bytes_eq, IsSomeAnd, slice_range}
use Rattle.cell_base.specs.declared.steps.Step.{Step}
use Rattle.cell_machine.specs.declared.effect.Effect.{Effect}
use Rattle.cell_machine.specs.declared.effect.Place.{Place}
use Rattle.cell_machine.specs.declared.effect.Place.TheVariants.{Memory, Local}
use Rattle.cell_machine.specs.declared.effect.Span.{Span}
use Rattle.cell_machine.specs.State.{State}
use Rattle.cell_machine.specs.EffectLaws.{bytes_in, bytes_of, same_place}
use Rattle.cell_machine.specs.Effects.{effect_in}
use Rattle.cell_machine.specs.Limits.{IsOpening}
use Rattle.cell_machine.specs.Run.{Ran, state_of}
use Rattle.run_progress.specs.Made.{Made}
use Rattle.run_progress.specs.Changes.{changes, changes_memory, is_host, is_shared, is_visible}
use Rattle.run_progress.specs.Repeats.{IsRepeated}
use Rattle.run_progress.proofs.Replays.{fits-more, long-before, made-more, made_as, makes, state-more, with_step}

in-memory : (p : Place) (b : Bool) → (same_place p Memory && b) ≡ true → p ≡ Memory
in-memory Memory b h = refl
in-memory (Local q) b h = absurd (cc)

-- the bytes of a span of main memory
shared-bytes : (M : State) (x : Span) → is_shared x ≡ true → bytes_in M x ≡ slice_range M.memory.bytes x.at (x.at + x.len)
shared-bytes M x shared = ap (λ p. slice_range (bytes_of M p) x.at (x.at + x.len)) (in-memory x.place (not (x.len == 0)) shared)

of-some : {X : Type 0} (o : Option X) (P : X → Type 0) (x : X) → o ≡ Some x → IsSomeAnd o P → P x
of-some o P x e h = subst (λ q. IsSomeAnd q P) e h

-- they lie in the memory
pub shared-fits : (m : Ran) (s : Step) (e : Effect) → IsOpening m.setup → effect_in m s ≡ Some e → is_shared e.writes ≡ true → e.writes.at + e.writes.len ≤ 128 * m.setup.lines
shared-fits m s e is effect shared =
    let x = makes m s e effect in
    let place : e.writes.place ≡ Memory = in-memory e.writes.place (not (e.writes.len == 0)) shared in
    let fits : e.writes.at + e.writes.len ≤ length x.before.memory.bytes = subst (λ p. e.writes.at + e.writes.len ≤ length (bytes_of x.before p)) place (fits-more m s e x is).writes in
    subst (λ n. e.writes.at + e.writes.len ≤ n) (long-before m s e x is) fits

-- ---- whether it changes what others can see

-- by what is known of it
changes-by : (x : Made) (seen : Bool) → (is_host x.step || is_visible x.effect.note) ≡ seen → changes x ≡ (seen || changes_memory x)
unfolding changes
changes-by x seen h = ap (λ b. b || changes_memory x) h

pub repeated-seen : (m n : Ran) (s : Step) (e : Effect) → effect_in m s ≡ Some e → n ≡ with_step m s → (is_host s || is_visible e.note) ≡ true → IsRepeated m n (record { step = s; effect = e; changes = true })
repeated-seen m n s e effect to seen =
    let x = makes m s e effect in
    let made = made_as x.before s e x.after in
    subst (λ r. IsRepeated m r (record { step = s; effect = e; changes = true })) (sym to) (record {
      made = made;
      more = made-more m s e x;
      is = record { step = refl; effect = refl; changes_is = changes-by made true seen };
    })

pub repeated-local : (m n : Ran) (s : Step) (e : Effect) → effect_in m s ≡ Some e → n ≡ with_step m s → (is_host s || is_visible e.note) ≡ false → is_shared e.writes ≡ false
    → IsRepeated m n (record { step = s; effect = e; changes = false })
repeated-local m n s e effect to seen shared =
    let x = makes m s e effect in
    let made = made_as x.before s e x.after in
    let none : changes_memory made ≡ false = ap (λ b. b && not (bytes_eq (bytes_in x.before e.writes) (bytes_in x.after e.writes))) shared in
    subst (λ r. IsRepeated m r (record { step = s; effect = e; changes = false })) (sym to) (record {
      made = made;
      more = made-more m s e x;
      is = record { step = refl; effect = refl; changes_is = changes-by made false seen ∙ none };
    })

-- the bytes in a span after a run
abbrev pub AreBytes : Ran → Span → List ℕ → Type 0
AreBytes m x bytes = IsSomeAnd (state_of m) (λ M. bytes ≡ slice_range M.memory.bytes x.at (x.at + x.len))

pub repeated-compared : (m n : Ran) (s : Step) (e : Effect) (before after : List ℕ) (differ : Bool) → effect_in m s ≡ Some e → n ≡ with_step m s → (is_host s || is_visible e.note) ≡ false → is_shared e.writes ≡ true
    → AreBytes m e.writes before → AreBytes n e.writes after → differ ≡ not (bytes_eq before after) → IsRepeated m n (record { step = s; effect = e; changes = differ })
repeated-compared m n s e before after differ effect to seen shared first last is =
    let x = makes m s e effect in
    let made = made_as x.before s e x.after in
    let old : before ≡ bytes_in x.before e.writes = of-some (state_of m) (λ M. before ≡ slice_range M.memory.bytes e.writes.at (e.writes.at + e.writes.len)) x.before x.at first ∙ sym (shared-bytes x.before e.writes shared) in
    let new : after ≡ bytes_in x.after e.writes = of-some (state_of n) (λ M. after ≡ slice_range M.memory.bytes e.writes.at (e.writes.at + e.writes.len)) x.after (ap state_of to ∙ state-more m s e x) last ∙ sym (shared-bytes x.after e.writes shared) in
    let all : changes_memory made ≡ not (bytes_eq (bytes_in x.before e.writes) (bytes_in x.after e.writes)) = ap (λ b. b && not (bytes_eq (bytes_in x.before e.writes) (bytes_in x.after e.writes))) shared in
    let same : not (bytes_eq before after) ≡ not (bytes_eq (bytes_in x.before e.writes) (bytes_in x.after e.writes)) = ap (λ bytes. not (bytes_eq bytes after)) old ∙ ap (λ bytes. not (bytes_eq (bytes_in x.before e.writes) bytes)) new in
    subst (λ r. IsRepeated m r (record { step = s; effect = e; changes = differ })) (sym to) (record {
      made = made;
      more = made-more m s e x;
      is = record { step = refl; effect = refl; changes_is = changes-by made false seen ∙ all ∙ sym same ∙ sym is };
    })
