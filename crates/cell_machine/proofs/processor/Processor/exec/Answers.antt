use Rattle.std.proofs.Common.{◌≡◌, refl, sym, ◌∙◌, ap, subst}
use Rattle.std.specs.Prelude.{None}
use Rattle.spu_decode.specs.Spelling.{instr_of}
use Rattle.local_store.specs.Store.{word_at}
use Rattle.cell_machine.specs.declared.status.Status.TheVariants.{BadWord}
use Rattle.cell_machine.specs.Spe.{is_running}
use Rattle.cell_machine.specs.Shows.{ShowsSpe}
use Rattle.cell_machine.proofs.AllTwo.{none_of}
use Rattle.cell_machine.proofs.Freed.{kept-same}
use Rattle.cell_machine.proofs.Execs.{exec-stopped, exec-bad_word, exec-follows, exec-refused, place-prop, none_there}
use Rattle.cell_machine.proofs.Marks.{never-blocked}
use Rattle.cell_machine.proofs.processor.Processor.exec.Goals as goal

pub returns-then-not-is_running-clause-made : goal.returns-then-not-is_running-clause-made
returns-then-not-is_running-clause-made c = λ P shows. exec-stopped c.args.lines P (ap is_running shows.status ∙ sym c.is_running.ensures ∙ c.if-not-is_running.true)

pub returns-in_default-clause-made : goal.returns-in_default-clause-made
returns-in_default-clause-made c = λ P shows.
    let none : instr_of (word_at c.args.self.now.store c.args.self.now.pc) ≡ None =
    ap instr_of (sym c.word.ensures) ∙ sym c.decode.ensures.means ∙ none_there c.decode.result c.in_default.not-Some in
    let bad = exec-bad_word c.args.lines c.args.self.now P shows (sym c.is_running.ensures ∙ c.if-not-is_running.false) none in
    rw bad (subst (ShowsSpe _) (sym (kept-same P (record P { status = BadWord }) refl).is) (record { status = refl; pc = shows.pc; registers = shows.registers; store = shows.store; inbound = shows.inbound; outbound = shows.outbound; interrupt = shows.interrupt; channels = shows.channels; tags = shows.tags; signals = shows.signals; events = shows.events; queue = shows.queue }))

pub returns-then-not-may_make-clause-made : goal.returns-then-not-may_make-clause-made
returns-then-not-may_make-clause-made c = λ P shows.
    none_of _ (sym (c.may_make.ensures c.args.lines P (record { status = shows.status; pc = shows.pc; registers = shows.registers; store = shows.store; inbound = shows.inbound; outbound = shows.outbound; interrupt = shows.interrupt; channels = shows.channels; tags = shows.tags; signals = shows.signals; events = shows.events; queue = shows.queue }) (sym c.is_running.ensures ∙ c.if-not-is_running.false) (ap instr_of (sym c.word.ensures) ∙ sym c.decode.ensures.means ∙ c.in-Some.is)) ∙ c.if-not-may_make.true)

pub returns-clause-made : goal.returns-clause-made
returns-clause-made c = λ P shows.
    exec-follows c.args.lines c.args.self.now P c.in-Some.instruction _ _ _ shows (sym c.is_running.ensures ∙ c.if-not-is_running.false)
    (ap instr_of (sym c.word.ensures) ∙ sym c.decode.ensures.means ∙ c.in-Some.is)
    c.exec-flow.ensures.means
    (c.follow.ensures.made (record P { registers = c.exec-flow.new.regs; store = c.exec-flow.new.ls }) (record { status = shows.status; pc = shows.pc; registers = refl; store = refl; inbound = shows.inbound; outbound = shows.outbound; interrupt = shows.interrupt; channels = shows.channels; tags = shows.tags; signals = shows.signals; events = shows.events; queue = shows.queue }))

pub returns-clause-refused : goal.returns-clause-refused
returns-clause-refused c =
    exec-refused c.follow.result c.args.self.now _ c.follow.new.self c.exec-flow.result c.follow.ensures.refused c.follow.ensures.only
    (λ op is. let kept = c.exec-flow.ensures.channel op is in rw (kept.0, kept.1) (ap (λ here. record c.args.self.now { here = here }) (place-prop _ _ _)))

pub returns-then-not-is_running-clause-blocked : goal.returns-then-not-is_running-clause-blocked
returns-then-not-is_running-clause-blocked c = λ lines P shows. exec-stopped lines P (ap is_running shows.status ∙ sym c.is_running.ensures ∙ c.if-not-is_running.true)

pub returns-clause-blocked : goal.returns-clause-blocked
returns-clause-blocked c =
    never-blocked c.follow.result c.args.lines c.args.self.now _ _ (returns-clause-refused c) (returns-clause-made c)
    (λ P shows. sym (c.may_make.ensures c.args.lines P (record { status = shows.status; pc = shows.pc; registers = shows.registers; store = shows.store; inbound = shows.inbound; outbound = shows.outbound; interrupt = shows.interrupt; channels = shows.channels; tags = shows.tags; signals = shows.signals; events = shows.events; queue = shows.queue }) (sym c.is_running.ensures ∙ c.if-not-is_running.false) (ap instr_of (sym c.word.ensures) ∙ sym c.decode.ensures.means ∙ c.in-Some.is)) ∙ c.if-not-may_make.false)
