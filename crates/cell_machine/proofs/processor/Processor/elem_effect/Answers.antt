use Rattle.std.proofs.Common.{◌≡◌, sym, ◌∙◌, ap}
use Rattle.std.specs.Prelude.{is_some, Some, Ok, Err, if◌then◌else◌}
use Rattle.tag_groups.specs.declared.Tags.{Tags}
use Rattle.cell_machine.specs.declared.effect.Note.TheVariants.{Nothing, Ended}
use Rattle.cell_machine.specs.Spe.{is_faulted, is_running}
use Rattle.cell_machine.specs.Transfers.{next_element, with_read}
use Rattle.cell_machine.specs.Effects.{is_fixed}
use Rattle.cell_machine.proofs.ListsGo.{next-is}
use Rattle.cell_machine.proofs.Controllers.{kept-of, elem-facts, element-words, element-number, elem-may, elem-faulted}
use Rattle.cell_machine.proofs.StepEffects.{elem-none, read-effect, fault-effect}
use Rattle.cell_machine.proofs.processor.Processor.elem_effect.Goals as goal

pub returns-then-is_faulted : goal.returns-then-is_faulted
returns-then-is_faulted c = λ P shows. elem-none c.args.lines c.args.spe P c.args.cmd (elem-faulted P c.args.cmd (ap is_faulted shows.status ∙ sym c.is_faulted.ensures ∙ c.if-is_faulted.true))

pub next_list-requires : goal.next_list-requires
next_list-requires c = kept-of c.args.lines c.args.self.now c.requires.can

pub returns-in_default : goal.returns-in_default
returns-in_default c = λ P shows. elem-none c.args.lines c.args.spe P c.args.cmd
    (elem-may P c.args.cmd (ap is_faulted shows.status ∙ sym c.is_faulted.ensures ∙ c.if-is_faulted.false) ∙ sym (c.next_list.ensures.may P.moves shows.queue) ∙ ap is_some c.in_default.is)

pub fixes_by_element-fixed-requires-clause-read : goal.fixes_by_element-fixed-requires-clause-read
fixes_by_element-fixed-requires-clause-read c =
    let s = c.requires.can in
    let q = s.shows.queue in
    let f = elem-facts s.spe.moves c.args.cmd (sym (c.next_list.ensures.may s.spe.moves q) ∙ ap is_some c.in-Some.is) in
    record { moves = s.spe.moves; command = f.0; shows = q; at = f.1; has = f.2; stands = (rw c.in-Ok.is at c.read_element.ensures.ok) _ (c.in-Some.ensures.some s.spe.moves f.0 q f.1) }

pub returns-in-Ok : goal.returns-in-Ok
returns-in-Ok c = λ P shows.
    let q = shows.queue in
    let begun = sym (c.next_list.ensures.may P.moves q) ∙ ap is_some c.in-Some.is in
    let f = elem-facts P.moves c.args.cmd begun in
    let d = f.0 in
    let stands = c.in-Some.ensures.some P.moves d q f.1 in
    let next = sym (c.next_at.ensures.next _ stands) ∙ c.in-Some-next_at.is in
    let words = element-words c.args.lines P c.args.cmd c.in-Some-next_at.at c.word.result c.word-2.result c.args.self.now.store d shows.store next c.word.ensures c.word-2.ensures in
    let read : next_element c.args.lines P c.args.cmd d ≡ Ok c.in-Ok.x = sym words ∙ sym (c.read_element.ensures.element _ stands) ∙ c.in-Ok.is in
    let may = elem-may P c.args.cmd (ap is_faulted shows.status ∙ sym c.is_faulted.ensures ∙ c.if-is_faulted.false) ∙ begun in
    let fixed = c.fixes_by_element-fixed.ensures P.moves d q f.1 f.2 (element-number _ _ _ _ _ c.in-Ok.x read) ((rw c.in-Ok.is at c.read_element.ensures.ok) _ stands)
    ∙ ap (λ (t : Tags). is_fixed t (with_read P.moves c.args.cmd c.in-Ok.x)) (sym shows.tags) in
    ap Some c.looking.ensures
    ∙ read-effect c.args.lines c.args.spe P c.args.cmd c.in-Some-next_at.at d c.in-Ok.x _ _ _ may f.1 read (next-is P.moves c.args.cmd c.in-Some-next_at.at d next) c.in_store-reads.ensures c.told_element.ensures fixed

pub returns-in-Err : goal.returns-in-Err
returns-in-Err c = λ P shows.
    let q = shows.queue in
    let begun = sym (c.next_list.ensures.may P.moves q) ∙ ap is_some c.in-Some.is in
    let f = elem-facts P.moves c.args.cmd begun in
    let d = f.0 in
    let stands = c.in-Some.ensures.some P.moves d q f.1 in
    let next = sym (c.next_at.ensures.next _ stands) ∙ c.in-Some-next_at.is in
    let words = element-words c.args.lines P c.args.cmd c.in-Some-next_at.at c.word.result c.word-2.result c.args.self.now.store d shows.store next c.word.ensures c.word-2.ensures in
    let read : next_element c.args.lines P c.args.cmd d ≡ Err _ = sym words ∙ sym (c.read_element.ensures.element _ stands) ∙ c.in-Err.is in
    let may = elem-may P c.args.cmd (ap is_faulted shows.status ∙ sym c.is_faulted.ensures ∙ c.if-is_faulted.false) ∙ begun in
    ap Some c.looking-in-Err.ensures
    ∙ fault-effect c.args.lines c.args.spe P c.args.cmd c.in-Some-next_at.at d _ _ _ _ may f.1 read (next-is P.moves c.args.cmd c.in-Some-next_at.at d next) c.in_store-reads.ensures
    (c.tells_fault.ensures ∙ ap (λ s. if is_running s then Ended else Nothing) (sym shows.status)) (c.fixes.ensures P shows)
