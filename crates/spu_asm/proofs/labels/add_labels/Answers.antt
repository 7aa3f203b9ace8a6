use Rattle.std.proofs.Common.{◌≡◌, length, Ok, sym, ◌∙◌, get_or}
use Rattle.std.proofs.lemmas.List.Elements.{All-drop}
use Rattle.spu_lex.specs.Order.{LiesIn}
use Rattle.spu_asm.specs.Outcomes.{on_line}
use Rattle.spu_asm.specs.Reading.{word}
use Rattle.spu_asm.specs.Source.{labels_view, with_label}
use Rattle.spu_asm.proofs.Counting.{cut_at}
use Rattle.spu_asm.proofs.LabelLemmas.{add_one, any_token}
use Rattle.spu_asm.proofs.labels.add_labels.Goals as goal

pub loop-rest-preserved : goal.loop-rest-preserved
loop-rest-preserved c =
    let text = c.args.text.now in
    let rest = c.loop-rest.rest.now in
    let old = labels_view c.loop-rest.labels.entries in
    let new = labels_view c.add_label.new.labels.entries in
    let added : on_line c.args.number (with_label old c.args.number (word text (get_or rest 0 any_token))) ≡ Ok new = rw c.word.ensures at c.in_ok-add_label.ensures in
    let one = add_one text rest old new c.args.number c.in-len2-up.len_at_least (sym c.if-not-is_label.false ∙ c.is_label.ensures) added in
    record {
      added = rw (cut_at 2 rest) (one ∙ c.loop-rest.invariant.added);
      within = rw (cut_at 2 rest) (All-drop (LiesIn (length text)) 2 rest c.loop-rest.invariant.within);
    }
