use Rattle.std.proofs.Common.{◌≡◌, ℕ, ◌-◌, List, length, take, drop, sym, ap, arith}
use Rattle.std.proofs.lemmas.Bool.{eqb-false, eqb-true}
use Rattle.std.proofs.lemmas.List.{take_all, length-drop}
use Rattle.std.proofs.lemmas.Result.{err_from_is_err_and}
use Rattle.spu_lex.specs.Tokens.{tokens_of}
use Rattle.spu_lex.proofs.Laws.{one_more}
use Rattle.spu_lex.proofs.Steps.{begins, goes_on, fault_ends, is_done, gives_err}
use Rattle.spu_lex.proofs.lex.Goals as goal

pub loop-rest-init : goal.loop-rest-init
loop-rest-init c =
    let e = sym c.new-items.ensures.items in
    record {
      so_far = rw c.new-items.ensures.items (begins c.args.text.now);
      place = omega arith;
      ordered = rw c.new-items.ensures.items (omega arith);
      lines = omega arith;
    }

pub loop-rest-preserved : goal.loop-rest-preserved
loop-rest-preserved c =
    let rest = c.loop-rest.rest.now in
    let n = c.in_ok-piece.piece.len in
    let within = c.in_ok-piece.ensures.within in
    let cut : take (length rest - n) (drop n rest) ≡ drop n rest = take_all (length rest - n) (drop n rest) (omega (arith, length-drop n rest)) in
    let next = goes_on c.loop-rest.items.items c.loop-rest.at c.loop-rest.line rest (tokens_of c.args.text.now) c.in_ok-piece.piece (omega (arith, within)) within.0 within.1 (sym c.in_ok-piece.ensures.located) c.loop-rest.invariant.so_far in
    record {
      so_far = rw (c.in_ok-push_token.ensures.ok, c.line_after-line.ensures.line, cut) next;
      place = omega (arith, ap (λ (xs : List ℕ). length xs) cut, length-drop n rest, within, c.loop-rest.invariant.place);
      ordered = rw c.in_ok-push_token.ensures.ok (one_more 0 c.loop-rest.at c.loop-rest.line n c.loop-rest.items.items c.in_ok-piece.piece.token within.0 c.loop-rest.invariant.ordered);
      lines = omega (arith, c.line_after-line.ensures.bound, within, c.loop-rest.invariant.lines);
    }

pub returns-in_err-piece-clause-tokens : goal.returns-in_err-piece-clause-tokens
returns-in_err-piece-clause-tokens c =
    let p = err_from_is_err_and c.from_residual.result c.from_residual.ensures.1 in
    let some = c.loop-rest-test.ensures in
    let total = fault_ends c.loop-rest.items.items c.loop-rest.at c.loop-rest.line c.loop-rest.rest.now (tokens_of c.args.text.now) c.in_err-piece.field-0.0 (omega (arith, eqb-false _ 0 (sym c.loop-rest-test.ensures))) (sym c.in_err-piece.ensures.located) c.loop-rest.invariant.so_far in
    rw (p.1, p.2) (gives_err c.in_err-piece.field-0.0 (tokens_of c.args.text.now) total)

pub returns-clause-tokens : goal.returns-clause-tokens
returns-clause-tokens c =
    is_done c.loop-rest.items.items c.loop-rest.at c.loop-rest.line c.loop-rest.rest.now (tokens_of c.args.text.now) (eqb-true _ _ (sym c.loop-rest-test.ensures)) c.loop-rest.invariant.so_far
