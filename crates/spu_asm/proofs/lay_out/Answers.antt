use Rattle.std.proofs.Common.{◌≡◌, ℕ, length, Ok, Err, refl, ap, ◌∙◌}
use Rattle.std.specs.Prelude.{codes}
use Rattle.std.specs.Global.{Vec}
use Rattle.std.proofs.lemmas.Result.{err_from_is_err_and}
use Rattle.spu_asm.specs.Assembling.{laid_out, entry_of, sections_of, sections_view}
use Rattle.spu_asm.specs.Layout.{places_from, section_end}
use Rattle.spu_asm.specs.Outcomes.{Shows}
use Rattle.spu_asm.specs.declared.syntax.Section.TheVariants.{Text}
use Rattle.spu_asm.specs.Source.{source_view, labels_view, lines_in, lines_left}
use Rattle.spu_asm.specs.Values.{value_of_label}
use Rattle.spu_asm.proofs.LengthLaws.{each_long}
use Rattle.spu_asm.proofs.LayoutLemmas.{length_places}
use Rattle.spu_asm.proofs.OutcomeLemmas.{gives_err}
use Rattle.spu_asm.proofs.ImageLemmas.{laid_places, laid_sections, laid_image}
use Rattle.spu_asm.proofs.lay_out.Goals as goal

pub returns-in_err-at-clause-image : goal.returns-in_err-at-clause-image
returns-in_err-at-clause-image c =
    let text = c.args.text.now in
    let tokens = c.args.tokens.now in
    let source = source_view text tokens c.args.labels.now.entries in
    let all = c.all_lines-lines.ensures in
    let same : lines_left text c.all_lines-lines.result ≡ lines_in text tokens = rw (all.number, all.section, all.tokens) refl in
    let start = c.next_multiple-start.result in
    let e = c.in_err-at.field-0.0 in
    let p = err_from_is_err_and c.from_residual-in_err-at.result c.from_residual-in_err-at.ensures.1 in
    let in_text : section_end Text 0 (lines_in text tokens) ≡ Ok c.in_ok-text_end.field-0 = rw same at c.in_ok-text_end.ensures.end in
    let placed : Shows (λ (v : Vec ℕ). v.items) (Err e) (places_from 0 start (lines_in text tokens)) = rw same at c.in_err-at.ensures.places in
    rw (p.1, p.2) (gives_err (λ (v : Vec ℕ). v.items) e (places_from 0 start (lines_in text tokens)) (laid_out text source) placed (λ is. laid_places text source c.in_ok-text_end.field-0 start in_text c.next_multiple-start.ensures ∙ rw is refl))

pub make_sections-requires-clause-len : goal.make_sections-requires-clause-len
make_sections-requires-clause-len c =
    ap length c.deref.ensures.value ∙ length_places (lines_left c.args.text.now c.all_lines-lines.result) 0 c.next_multiple-start.result c.in_ok-at.at.items c.in_ok-at.ensures.places

pub returns-in_err-made-clause-image : goal.returns-in_err-made-clause-image
returns-in_err-made-clause-image c =
    let text = c.args.text.now in
    let tokens = c.args.tokens.now in
    let labels = labels_view c.args.labels.now.entries in
    let source = source_view text tokens c.args.labels.now.entries in
    let all = c.all_lines-lines.ensures in
    let same : lines_left text c.all_lines-lines.result ≡ lines_in text tokens = rw (all.number, all.section, all.tokens) refl in
    let start = c.next_multiple-start.result in
    let at = c.in_ok-at.at.items in
    let e = c.in_err-made.field-0.0 in
    let p = err_from_is_err_and c.from_residual-in_err-made.result c.from_residual-in_err-made.ensures.1 in
    let in_text : section_end Text 0 (lines_in text tokens) ≡ Ok c.in_ok-text_end.field-0 = rw same at c.in_ok-text_end.ensures.end in
    let placed : places_from 0 start (lines_in text tokens) ≡ Ok at = rw same at c.in_ok-at.ensures.places in
    let made : Shows sections_view (Err e) (sections_of text labels at (lines_in text tokens) at) = rw (same, c.deref.ensures.value) at c.in_err-made.ensures in
    rw (p.1, p.2) (gives_err sections_view e (sections_of text labels at (lines_in text tokens) at) (laid_out text source) made (λ is. laid_sections text source c.in_ok-text_end.field-0 start in_text c.next_multiple-start.ensures at placed ∙ rw is refl))

pub returns-clause-image : goal.returns-clause-image
returns-clause-image c =
    let text = c.args.text.now in
    let tokens = c.args.tokens.now in
    let labels = labels_view c.args.labels.now.entries in
    let source = source_view text tokens c.args.labels.now.entries in
    let all = c.all_lines-lines.ensures in
    let same : lines_left text c.all_lines-lines.result ≡ lines_in text tokens = rw (all.number, all.section, all.tokens) refl in
    let start = c.next_multiple-start.result in
    let at = c.in_ok-at.at.items in
    let in_text : section_end Text 0 (lines_in text tokens) ≡ Ok c.in_ok-text_end.field-0 = rw same at c.in_ok-text_end.ensures.end in
    let placed : places_from 0 start (lines_in text tokens) ≡ Ok at = rw same at c.in_ok-at.ensures.places in
    let made : sections_of text labels at (lines_in text tokens) at ≡ Ok (sections_view c.in_ok-made.made) = rw (same, c.deref.ensures.value) at c.in_ok-made.ensures in
    let value : c.value_of_label.result ≡ value_of_label labels at (codes "_start") = rw c.deref-2.ensures.value at c.value_of_label.ensures in
    let entry : c.entry-entry.result ≡ entry_of (value_of_label labels at (codes "_start")) = c.entry-entry.ensures.entry ∙ ap entry_of value in
    laid_sections text source c.in_ok-text_end.field-0 start in_text c.next_multiple-start.ensures at placed ∙ rw (made, ← entry) refl

pub invariant_of-result : goal.invariant_of-result
invariant_of-result c =
    let text = c.args.text.now in
    let tokens = c.args.tokens.now in
    let labels = labels_view c.args.labels.now.entries in
    let all = c.all_lines-lines.ensures in
    let same : lines_left text c.all_lines-lines.result ≡ lines_in text tokens = rw (all.number, all.section, all.tokens) refl in
    let start = c.next_multiple-start.result in
    let at = c.in_ok-at.at.items in
    let in_text : section_end Text 0 (lines_in text tokens) ≡ Ok c.in_ok-text_end.field-0 = rw same at c.in_ok-text_end.ensures.end in
    let placed : places_from 0 start (lines_in text tokens) ≡ Ok at = rw same at c.in_ok-at.ensures.places in
    let made : sections_of text labels at (lines_in text tokens) at ≡ Ok (sections_view c.in_ok-made.made) = rw (same, c.deref.ensures.value) at c.in_ok-made.ensures in
    (laid_image text labels (lines_in text tokens) c.in_ok-text_end.field-0 start c.entry-entry.result at (sections_view c.in_ok-made.made) c.requires.read in_text c.in_ok-text_end.ensures.bound c.next_multiple-start.ensures placed made
    c.entry-entry.ensures.aligned c.entry-entry.ensures.within).0

pub returns-clause-lengths : goal.returns-clause-lengths
returns-clause-lengths c =
    let text = c.args.text.now in
    let tokens = c.args.tokens.now in
    let labels = labels_view c.args.labels.now.entries in
    let all = c.all_lines-lines.ensures in
    let same : lines_left text c.all_lines-lines.result ≡ lines_in text tokens = rw (all.number, all.section, all.tokens) refl in
    let start = c.next_multiple-start.result in
    let at = c.in_ok-at.at.items in
    let in_text : section_end Text 0 (lines_in text tokens) ≡ Ok c.in_ok-text_end.field-0 = rw same at c.in_ok-text_end.ensures.end in
    let placed : places_from 0 start (lines_in text tokens) ≡ Ok at = rw same at c.in_ok-at.ensures.places in
    let made : sections_of text labels at (lines_in text tokens) at ≡ Ok (sections_view c.in_ok-made.made) = rw (same, c.deref.ensures.value) at c.in_ok-made.ensures in (
      each_long text (lines_in text tokens) c.requires.read,
      (laid_image text labels (lines_in text tokens) c.in_ok-text_end.field-0 start c.entry-entry.result at (sections_view c.in_ok-made.made) c.requires.read in_text c.in_ok-text_end.ensures.bound c.next_multiple-start.ensures placed made
          c.entry-entry.ensures.aligned c.entry-entry.ensures.within).1,
    )
