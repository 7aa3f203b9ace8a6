use Rattle.std.proofs.Common.{rules, ◌≡◌, true, false, [], ◌∷◌, ◌++◌, sym, ap, ◌∙◌, subst, arith}
use Rattle.std.specs.Prelude.{Some, None, slice_set}
use Rattle.cell_machine.specs.declared.effect.Span.{Span}
use Rattle.run_progress.specs.Changes.{is_shared}
use Rattle.run_progress.specs.Tracks.{AreReads, copier}
use Rattle.run_progress.proofs.Kept.{not-shared, reads-changed, reads-more, reads-same, past-copy, no-copy}
use Rattle.run_progress.proofs.reads.add_step.Goals as goal

pub returns-then-repeated-clause-reads : goal.returns-then-repeated-clause-reads
returns-then-repeated-clause-reads c = λ run made of reads. reads-changed run made c.forget.new.reads (of.changes_is ∙ c.if-repeated.true) c.forget.ensures.none

pub returns-then-not-is_shared-clause-reads : goal.returns-then-not-is_shared-clause-reads
returns-then-not-is_shared-clause-reads c = λ run made of reads.
    let shared : is_shared made.effect.reads ≡ false = ap (λ e. is_shared e.reads) of.effect ∙ sym c.is_shared.ensures ∙ search rules in
    reads-same run made c.args.reads.now (of.changes_is ∙ c.if-repeated.false) reads (λ p low. not-shared made p shared)

pub returns-then-index-reads-clause-reads : goal.returns-then-index-reads-clause-reads
returns-then-index-reads-clause-reads c = λ run made of reads.
    let shared : is_shared made.effect.reads ≡ true = ap (λ e. is_shared e.reads) of.effect ∙ sym c.is_shared.ensures ∙ search rules in
    let place : c.from-index.result ≡ c.in-Some.spe = search rules in
    let copy : copier made.step ≡ Some c.from-index.result = ap copier of.step ∙ sym c.copier.ensures ∙ c.in-Some.is ∙ ap Some (sym place) in
    subst (λ (s : Span). AreReads (run ++ made ∷ []) (slice_set c.args.reads.now c.from-index.result (Some s))) (ap (λ e. e.reads) of.effect)
    (reads-more run made c.args.reads.now c.from-index.result (of.changes_is ∙ c.if-repeated.false) reads c.if-index-reads.true copy shared)

pub returns-else-index-reads-clause-reads : goal.returns-else-index-reads-clause-reads
returns-else-index-reads-clause-reads c = λ run made of reads.
    let place : c.from-index.result ≡ c.in-Some.spe = search rules in
    let copy : copier made.step ≡ Some c.from-index.result = ap copier of.step ∙ sym c.copier.ensures ∙ c.in-Some.is ∙ ap Some (sym place) in
    reads-same run made c.args.reads.now (of.changes_is ∙ c.if-repeated.false) reads (λ p low. past-copy made p c.from-index.result copy (omega (arith, low, c.if-index-reads.false)))

pub returns-in_default-clause-reads : goal.returns-in_default-clause-reads
returns-in_default-clause-reads c = λ run made of reads.
    let copy : copier made.step ≡ None = ap copier of.step ∙ sym c.copier.ensures ∙ c.in_default.is in
    reads-same run made c.args.reads.now (of.changes_is ∙ c.if-repeated.false) reads (λ p low. no-copy made p copy)
