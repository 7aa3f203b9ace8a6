-- A command that a step doesn't touch is as before.
use Rattle.std.proofs.Common.{◌≡◌, ◌==◌, ◌&&◌, ◌||◌, not, Bool, true, false, List, [], ◌∷◌, map, filter, refl, sym, ap, ap₂, ◌∙◌}
use Rattle.std.specs.Prelude.{if◌then◌else◌}
use Rattle.std.specs.List.{list_any}
use Rattle.cell_base.specs.declared.steps.Step.{Step}
use Rattle.cell_base.specs.declared.steps.Step.TheVariants.{Exec, Piece, Elem, Retire, Atomic, Host}
use Rattle.cell_machine.specs.declared.effect.Note.{Note}
use Rattle.cell_machine.specs.declared.effect.Note.TheVariants.{Ack}
use Rattle.race_order.specs.declared.progress.Progress.{Progress}
use Rattle.race_order.specs.declared.lives.Live.{Live}
use Rattle.race_order.specs.declared.moves.Move.{Move}
use Rattle.race_order.specs.Status.{stepped, after_ack, after_piece, after_element, is_by, is_last}
use Rattle.race_order.specs.Lives.{acked_by, is_touched, moved}
use Rattle.race_order.specs.Passes.{into_stalled, stall_any, done_any}
use Rattle.race_order.proofs.Small.{off-same}

not_acked : (s : Progress) (note : Note) → acked_by s note ≡ false → after_ack s note ≡ s
not_acked s (Ack tag) h = ap (λ b. if b then record s { stalled = false; done = is_last s } else s) h
not_acked s _ h = refl

own : (b : Bool) → (b || false) ≡ false → b ≡ false
own true x = x
own false x = refl

not_stepped : (l : Live) (step : Step) (note : Note) → is_touched l step note ≡ false → stepped l.spe l.cmd l.progress step note ≡ l.progress
not_stepped l (Exec q) note h = by (q == l.spe) refl
  where
    by : (b : Bool) → (q == l.spe) ≡ b → (if q == l.spe then after_ack l.progress note else l.progress) ≡ l.progress
    by true x = ap (λ b. if b then after_ack l.progress note else l.progress) x ∙ not_acked l.progress note (ap (λ b. b && acked_by l.progress note) (sym x) ∙ h)
    by false x = ap (λ b. if b then after_ack l.progress note else l.progress) x
not_stepped l (Piece q d e k) note h = off-same (is_by l.spe l.cmd q d) (after_piece l.progress) l.progress (own (is_by l.spe l.cmd q d) h)
not_stepped l (Elem q d) note h = off-same (is_by l.spe l.cmd q d) (after_element l.progress note) l.progress (own (is_by l.spe l.cmd q d) h)
not_stepped l (Retire q d) note h = off-same (is_by l.spe l.cmd q d) (record l.progress { stalled = false; done = true }) l.progress (own (is_by l.spe l.cmd q d) h)
not_stepped l (Atomic q) note h = refl
not_stepped l Host note h = refl

pub not_moved : (l : Live) (step : Step) (note : Note) → is_touched l step note ≡ false → moved l step note ≡ l
not_moved l step note h = ap (λ (s : Progress). record l { progress = s }) (not_stepped l step note h)

-- it is not stalled by the step
pub not_stalled : (g : Move → Bool) (l : Live) (step : Step) (note : Note) → is_touched l step note ≡ false → stall_any g step note l ≡ false
not_stalled g l step note h = ap (λ (x : Live). (not l.progress.stalled && x.progress.stalled) && g (into_stalled l)) (not_moved l step note h) ∙ never l.progress.stalled
  where
    never : (b : Bool) → ((not b && b) && g (into_stalled l)) ≡ false
    never true = refl
    never false = refl

pub all_same : {X : Type 0} (f : X → X) (xs : List X) → ((x : X) → f x ≡ x) → map f xs ≡ xs
all_same f [] h = refl
all_same f (x ∷ xs) h = ap₂ (λ y ys. y ∷ ys) (h x) (all_same f xs h)

-- where no command is complete, none is dropped, and no set goes out
pub none_dropped : (lives : List Live) → list_any (λ l. l.progress.done) lives ≡ false → lives ≡ filter (λ l. not l.progress.done) lives
none_dropped [] h = refl
none_dropped (l ∷ ls) h = by l.progress.done refl h (λ f. none_dropped ls f)
  where
    by : (b : Bool) → l.progress.done ≡ b → (b || list_any (λ l. l.progress.done) ls) ≡ false → (list_any (λ l. l.progress.done) ls ≡ false → ls ≡ filter (λ l. not l.progress.done) ls) → l ∷ ls ≡ filter (λ l. not l.progress.done) (l ∷ ls)
    by true e f rest = absurd cc
    by false e f rest = ap (λ xs. l ∷ xs) (rest f) ∙ ap (λ b. if not b then l ∷ filter (λ x. not x.progress.done) ls else filter (λ x. not x.progress.done) ls) (sym e)

none_of : (b x rest : Bool) → b ≡ false → rest ≡ false → ((b && x) || rest) ≡ false
none_of true x rest e f = absurd cc
none_of false x rest e f = f

pub none_passes : (g : Move → Bool) (next lives : List Live) → list_any (λ l. l.progress.done) lives ≡ false → list_any (done_any g next) lives ≡ false
none_passes g next [] h = refl
none_passes g next (l ∷ ls) h = by l.progress.done refl h (λ f. none_passes g next ls f)
  where
    by : (b : Bool) → l.progress.done ≡ b → (b || list_any (λ l. l.progress.done) ls) ≡ false → (list_any (λ l. l.progress.done) ls ≡ false → list_any (done_any g next) ls ≡ false) → list_any (done_any g next) (l ∷ ls) ≡ false
    by true e f rest = absurd cc
    by false e f rest = none_of l.progress.done _ (list_any (done_any g next) ls) e (rest f)
