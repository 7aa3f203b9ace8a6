use Rattle.std.proofs.Common.{length, sym, ◌∙◌}
use Rattle.std.proofs.lemmas.List.Elements.{All-drop}
use Rattle.spu_lex.specs.Order.{LiesIn}
use Rattle.spu_asm.proofs.Counting.{cut_at}
use Rattle.spu_asm.proofs.LabelLemmas.{after_one}
use Rattle.spu_asm.proofs.labels.after_labels.Goals as goal

pub loop-rest-preserved : goal.loop-rest-preserved
loop-rest-preserved c =
    let text = c.args.text.now in
    let rest = c.loop-rest.rest.now in
    let one = after_one text rest c.in-len2-up.len_at_least (sym c.if-not-is_label.false ∙ c.is_label.ensures) in
    record {
      after = rw (cut_at 2 rest) (one ∙ c.loop-rest.invariant.after);
      within = rw (cut_at 2 rest) (All-drop (LiesIn (length text)) 2 rest c.loop-rest.invariant.within);
    }
