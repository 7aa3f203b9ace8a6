use Rattle.std.proofs.Common.{ap, ◌∙◌, ◌+◌, map, drop}
use Rattle.cell_io.specs.Files.{File}
use Rattle.cell_library.proofs.NamesLaws.{are_new, all_new, found, not_found, was_there, was_new, with_new}
use Rattle.cell_library.proofs.bundle.are_different.Goals as goal

pub loop-file-init : goal.loop-file-init
loop-file-init c = ap (λ ks. are_new (map (λ n. n.now) ks) c.args.files.now) c.new-seen.ensures.empty ∙ all_new c.args.files.now

pub returns-then-not-branch : goal.returns-then-not-branch
returns-then-not-branch c =
    let name = c.as_str.ensures.value ∙ ap (λ (f : File). f.name) c.file.view_is in
    found c.args.files.now c.loop-file.seen.keys c.loop-file.file-index c.file-item.result c.as_str.result _ c.loop-file-test.true c.file-item.is name c.loop-file.invariant
    (was_there c.in_ok-insert.field-0 _ c.in_ok-insert.ensures.added c.if-not-branch.true)

pub loop-file-preserved : goal.loop-file-preserved
loop-file-preserved c =
    let name = c.as_str.ensures.value ∙ ap (λ (f : File). f.name) c.file.view_is in
    let none = was_new c.in_ok-insert.field-0 _ c.in_ok-insert.ensures.added c.if-not-branch.false in
    ap (λ ks. are_new (map (λ n. n.now) ks) (drop (c.loop-file.file-index + 1) c.args.files.now)) (with_new c.loop-file.seen.keys c.insert.new.self.keys c.as_str.result _ none c.in_ok-insert.ensures.keys)
    ∙ not_found c.args.files.now c.loop-file.seen.keys c.loop-file.file-index c.file-item.result c.as_str.result _ c.loop-file-test.true c.file-item.is name c.loop-file.invariant none
