use Rattle.std.proofs.Common.{◌≡◌, ◌<◌, length, sym, subst, ap, ◌∙◌}
use Rattle.std.specs.Prelude.{Some, filter, not, slice_set}
use Rattle.cell_machine.proofs.Same.{some_same}
use Rattle.race_order.specs.Bringing.{has_brought, entered, nexts, AreKept}
use Rattle.race_order.specs.Lives.{HaveRoom, AreOutstanding, AreWithin, lives_of, near}
use Rattle.race_order.specs.Ordering.{issued_in, spe_in}
use Rattle.race_order.specs.Standing.{with_issued}
use Rattle.race_order.specs.Tables.{sets_have}
use Rattle.race_order.proofs.LivesOf.{lives_at, lives_set, lives_kept}
use Rattle.race_order.proofs.applying.take_in.Goals as goal

pub take_own-requires-clause-room : goal.take_own-requires-clause-room
take_own-requires-clause-room c =
    let who : spe_in c.args.brought.now.step ≡ Some c.from.result = sym c.spe_of.ensures ∙ (c.in-Some.is ∙ ap Some (sym c.from.ensures)) in
    subst HaveRoom (ap (near c.args.lives.now.items) who ∙ lives_at c.args.lives.now.items c.from.result c.index_mut.result.now (c.requires.spe c.from.result who) c.index_mut.ensures.value) c.requires.room

pub take_own-requires-clause-live : goal.take_own-requires-clause-live
take_own-requires-clause-live c =
    let who : spe_in c.args.brought.now.step ≡ Some c.from.result = sym c.spe_of.ensures ∙ (c.in-Some.is ∙ ap Some (sym c.from.ensures)) in
    subst AreOutstanding (ap (near c.args.lives.now.items) who ∙ lives_at c.args.lives.now.items c.from.result c.index_mut.result.now (c.requires.spe c.from.result who) c.index_mut.ensures.value) c.requires.live

pub take_own-requires-clause-within : goal.take_own-requires-clause-within
take_own-requires-clause-within c =
    let who : spe_in c.args.brought.now.step ≡ Some c.from.result = sym c.spe_of.ensures ∙ (c.in-Some.is ∙ ap Some (sym c.from.ensures)) in
    subst (AreWithin c.args.brought.now.spes) (ap (near c.args.lives.now.items) who ∙ lives_at c.args.lives.now.items c.from.result c.index_mut.result.now (c.requires.spe c.from.result who) c.index_mut.ensures.value) c.requires.within

pub returns-in_ok-take_own-in-Some-clause-stepped : goal.returns-in_ok-take_own-in-Some-clause-stepped
returns-in_ok-take_own-in-Some-clause-stepped c =
    let b = c.args.brought.now in
    let who : spe_in c.args.brought.now.step ≡ Some c.from.result = sym c.spe_of.ensures ∙ (c.in-Some.is ∙ ap Some (sym c.from.ensures)) in
    subst (λ l. AreKept b.spes b.step b.effect.now (has_brought c.args.brought.now) l (entered c.args.boxes.now c.args.brought.now) (sets_have c.args.sets.now) (sets_have c.take_own.new.sets))
    (sym (ap (near c.args.lives.now.items) who ∙ lives_at c.args.lives.now.items c.from.result c.index_mut.result.now (c.requires.spe c.from.result who) c.index_mut.ensures.value)) c.in_ok-take_own-in-Some.ensures.stepped

pub returns-in_ok-take_own-in-Some-clause-own : goal.returns-in_ok-take_own-in-Some-clause-own
returns-in_ok-take_own-in-Some-clause-own c = λ p h.
    let b = c.args.brought.now in
    let lists = c.args.lives.now.items in
    let who : spe_in c.args.brought.now.step ≡ Some c.from.result = sym c.spe_of.ensures ∙ (c.in-Some.is ∙ ap Some (sym c.from.ensures)) in
    let low : c.from.result < length c.args.lives.now.items = c.requires.spe c.from.result who in
    let same : c.from.result ≡ p = some_same c.from.result p (sym who ∙ h) in
    subst (λ q. lives_of (slice_set c.args.lives.now.items c.from.result c.take_own.new.lives) q ≡ with_issued (issued_in b.step b.effect.now.note) (filter (λ l. not l.progress.done) (nexts b.step b.effect.now (lives_of lists q)))) same
    (lives_set lists c.from.result c.take_own.new.lives low
    ∙ (c.in_ok-take_own-in-Some.ensures.lives
    ∙ ap (λ l. with_issued (issued_in b.step b.effect.now.note) (filter (λ x. not x.progress.done) (nexts b.step b.effect.now l))) (sym (lives_at lists c.from.result c.index_mut.result.now low c.index_mut.ensures.value))))

pub returns-in_ok-take_own-in-Some-clause-others : goal.returns-in_ok-take_own-in-Some-clause-others
returns-in_ok-take_own-in-Some-clause-others c = λ p other.
    let who : spe_in c.args.brought.now.step ≡ Some c.from.result = sym c.spe_of.ensures ∙ (c.in-Some.is ∙ ap Some (sym c.from.ensures)) in
    lives_kept c.args.lives.now.items c.from.result p c.take_own.new.lives (λ e. other (who ∙ ap Some e))
