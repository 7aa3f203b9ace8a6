use Rattle.std.proofs.Common.{◌≡◌, ◌∙◌, ◌∷◌, ◌++◌, ℕ, List, [], String, length, map, string_bytes, ap, arith}
use Rattle.std.specs.declared.alloc.Global.{Global}
use Rattle.std.proofs.lemmas.List.{map_push}
use Rattle.std.proofs.lemmas.Result.{err_from_is_err_and}
use Rattle.cell_library.proofs.WordsLaws.{one_word, all_words, no_word}
use Rattle.cell_library.proofs.bundle.words_of.Goals as goal

pub returns-in_err-text_of : goal.returns-in_err-text_of
returns-in_err-text_of c =
    let p = err_from_is_err_and c.from_residual.result c.from_residual.ensures.1 in
    rw (p.1, p.2) (no_word c.args.bytes.now c.loop-rest.rest.now c.first_line.result.0.now c.first_line.result.1.now (map string_bytes c.loop-rest.words.items) c.in_err-text_of.field-0.0 c.first_line.ensures.line c.in_err-text_of.ensures c.loop-rest.invariant)

pub loop-rest-preserved : goal.loop-rest-preserved
loop-rest-preserved c =
    let so_far : List (List ℕ) = map string_bytes c.loop-rest.words.items in
    let kept = ap (λ (xs : List (String Global)). map string_bytes xs) c.in_ok-push.ensures.items
    ∙ map_push string_bytes c.loop-rest.words.items c.in_ok-text_of.field-0
    ∙ ap (λ (w : List ℕ). so_far ++ w ∷ []) c.in_ok-text_of.ensures.0 in
    one_word c.args.bytes.now c.loop-rest.rest.now c.first_line.result.0.now c.first_line.result.1.now so_far _ c.first_line.ensures.line c.in_ok-text_of.ensures.1 kept c.loop-rest.invariant

pub returns : goal.returns
returns c =
    let empty : length c.loop-rest.rest.now ≡ 0 = grind arith in
    all_words c.args.bytes.now c.loop-rest.rest.now (map string_bytes c.loop-rest.words.items) empty c.loop-rest.invariant
