use Rattle.std.proofs.Common.{◌≡◌, refl, sym, ◌∙◌, ap, subst}
use Rattle.std.specs.Prelude.{is_some, Some, Ok, Err, if◌then◌else◌}
use Rattle.mfc_command.specs.declared.command.Command.{Command}
use Rattle.cell_machine.specs.Transfers.{told, next_element, after_element, with_read}
use Rattle.cell_machine.specs.Shows.{ShowsSpe}
use Rattle.cell_machine.specs.Spe.{is_faulted}
use Rattle.cell_machine.proofs.SpeShown.{command-is}
use Rattle.cell_machine.proofs.Controllers.{kept-of, elem-facts, element-words, element-number, told-moves, elem-may, elem-faulted, elem-off, elem-on}
use Rattle.cell_machine.proofs.processor.Processor.elem.Goals as goal

pub returns-then-is_faulted-clause-made : goal.returns-then-is_faulted-clause-made
returns-then-is_faulted-clause-made c = λ P shows. elem-off c.args.lines P c.args.cmd (elem-faulted P c.args.cmd (ap is_faulted shows.status ∙ sym c.is_faulted.ensures ∙ c.if-is_faulted.true))

pub next_list-requires : goal.next_list-requires
next_list-requires c = kept-of c.args.lines c.args.self.now c.requires.can

pub returns-in_default-clause-made : goal.returns-in_default-clause-made
returns-in_default-clause-made c = λ P shows. elem-off c.args.lines P c.args.cmd
    (elem-may P c.args.cmd (ap is_faulted shows.status ∙ sym c.is_faulted.ensures ∙ c.if-is_faulted.false) ∙ sym (c.next_list.ensures.may P.moves shows.queue) ∙ ap is_some c.in_default.is)

pub begin-stalls-requires-clause-read : goal.begin-stalls-requires-clause-read
begin-stalls-requires-clause-read c =
    let s = c.requires.can in
    let q = s.shows.queue in
    let f = elem-facts s.spe.moves c.args.cmd (sym (c.next_list.ensures.may s.spe.moves q) ∙ ap is_some c.in-Some.is) in
    record { moves = s.spe.moves; command = f.0; shows = q; at = f.1; has = f.2; stands = (rw c.in-Ok.is at c.read_element.ensures.ok) _ (c.in-Some.ensures.some s.spe.moves f.0 q f.1) }

pub returns-in-Ok-clause-made : goal.returns-in-Ok-clause-made
returns-in-Ok-clause-made c = λ P shows.
    let q = shows.queue in
    let begun = sym (c.next_list.ensures.may P.moves q) ∙ ap is_some c.in-Some.is in
    let f = elem-facts P.moves c.args.cmd begun in
    let d = f.0 in
    let stands = c.in-Some.ensures.some P.moves d q f.1 in
    let words = element-words c.args.lines P c.args.cmd c.in-Some-next_at.at c.word.result c.word-2.result c.args.self.now.store d shows.store (sym (c.next_at.ensures.next _ stands) ∙ c.in-Some-next_at.is) c.word.ensures c.word-2.ensures in
    let read : next_element c.args.lines P c.args.cmd d ≡ Ok c.in-Ok.x = sym words ∙ sym (c.read_element.ensures.element _ stands) ∙ c.in-Ok.is in
    let may = elem-may P c.args.cmd (ap is_faulted shows.status ∙ sym c.is_faulted.ensures ∙ c.if-is_faulted.false) ∙ begun in
    let begins = c.begin-stalls.ensures P.moves d q f.1 f.2 (element-number _ _ _ _ _ c.in-Ok.x read) ((rw c.in-Ok.is at c.read_element.ensures.ok) _ stands) in
    rw (elem-on c.args.lines P c.args.cmd d may f.1 ∙ ap (λ r. Some (after_element P c.args.cmd d r)) read)
    (subst (ShowsSpe c.tell.new.self) (told-moves P (with_read P.moves c.args.cmd c.in-Ok.x) c.args.cmd d c.begin-stalls.result begins.1)
    (subst (λ n. ShowsSpe c.tell.new.self (if c.begin-stalls.result then told (record P { moves = with_read P.moves c.args.cmd c.in-Ok.x }) n else record P { moves = with_read P.moves c.args.cmd c.in-Ok.x }))
    (ap (λ (y : Command). y.tag) (command-is q.calls P.moves c.args.cmd c.command-tag.result d q.moves (c.command-tag.ensures.command q.calls q.stands) f.1))
    (c.tell.ensures (record P { moves = with_read P.moves c.args.cmd c.in-Ok.x }) (record { status = shows.status; pc = shows.pc; registers = shows.registers; store = shows.store; inbound = shows.inbound; outbound = shows.outbound; interrupt = shows.interrupt; channels = shows.channels; tags = shows.tags; signals = shows.signals; events = shows.events; queue = begins.0 }))))

pub returns-in-Err-clause-made : goal.returns-in-Err-clause-made
returns-in-Err-clause-made c = λ P shows.
    let q = shows.queue in
    let begun = sym (c.next_list.ensures.may P.moves q) ∙ ap is_some c.in-Some.is in
    let f = elem-facts P.moves c.args.cmd begun in
    let d = f.0 in
    let stands = c.in-Some.ensures.some P.moves d q f.1 in
    let words = element-words c.args.lines P c.args.cmd c.in-Some-next_at.at c.word.result c.word-2.result c.args.self.now.store d shows.store (sym (c.next_at.ensures.next _ stands) ∙ c.in-Some-next_at.is) c.word.ensures c.word-2.ensures in
    let read : next_element c.args.lines P c.args.cmd d ≡ Err c.in-Err.kind = sym words ∙ sym (c.read_element.ensures.element _ stands) ∙ c.in-Err.is in
    let may = elem-may P c.args.cmd (ap is_faulted shows.status ∙ sym c.is_faulted.ensures ∙ c.if-is_faulted.false) ∙ begun in
    rw (elem-on c.args.lines P c.args.cmd d may f.1 ∙ ap (λ r. Some (after_element P c.args.cmd d r)) read)
    (record { status = refl; pc = shows.pc; registers = shows.registers; store = shows.store; inbound = shows.inbound; outbound = shows.outbound; interrupt = shows.interrupt; channels = shows.channels; tags = shows.tags; signals = shows.signals; events = shows.events; queue = q })
