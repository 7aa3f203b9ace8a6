use Rattle.std.proofs.Common.{◌≡◌, ℕ, ◌-◌, List, length, take, drop, refl, ap, ◌∙◌, arith}
use Rattle.std.proofs.lemmas.List.{length-drop, length-take}
use Rattle.spu_asm.specs.Strings.{string_value, escape_value}
use Rattle.spu_asm.proofs.Counting.{done_counts, begin_counts, escaped_more, plain_more, cut_at}
use Rattle.spu_asm.proofs.strings.string_len.Goals as goal

pub returns-then-quoted-lt2 : goal.returns-then-quoted-lt2
returns-then-quoted-lt2 c =
    let quoted = c.args.quoted.now in
    let none : length quoted - 2 ≡ 0 = omega arith in
    done_counts 0 (take (length quoted - 2) (drop 1 quoted)) (length (string_value quoted)) (rw none refl) (begin_counts quoted _ refl (rw none (omega arith)))

pub loop-rest-init : goal.loop-rest-init
loop-rest-init c =
    let quoted = c.args.quoted.now in
    let two : length quoted - 1 - 1 ≡ length quoted - 2 = omega arith in
    record {
      counts = begin_counts quoted _ (ap (λ (n : ℕ). take n (drop 1 quoted)) two) (omega (arith, length-take (length quoted - 1 - 1) (drop 1 quoted), length-drop 1 quoted));
      place = omega (arith, length-take (length quoted - 1 - 1) (drop 1 quoted), length-drop 1 quoted);
    }

pub loop-rest-preserved-then-b-eq92 : goal.loop-rest-preserved-then-b-eq92
loop-rest-preserved-then-b-eq92 c =
    let rest = c.loop-rest.rest.now in
    let after = cut_at 1 rest in
    let taken : c.escape_value-taken.result.1 ≡ (escape_value (drop 1 rest)).1 = ap (λ (x : ℕ × ℕ). x.1) c.escape_value-taken.ensures.value ∙ ap (λ (xs : List ℕ). (escape_value xs).1) after in
    let more = escaped_more c.loop-rest.len rest (length (string_value c.args.quoted.now)) (omega arith) c.if-b-eq92.true c.loop-rest.invariant.counts in
    record {
      counts = rw (after, taken, cut_at (escape_value (drop 1 rest)).1 (drop 1 rest)) more;
      place = rw (after, taken, cut_at (escape_value (drop 1 rest)).1 (drop 1 rest)) (omega (arith, length-drop (escape_value (drop 1 rest)).1 (drop 1 rest), length-drop 1 rest, c.loop-rest.invariant.place));
    }

pub loop-rest-preserved : goal.loop-rest-preserved
loop-rest-preserved c =
    let rest = c.loop-rest.rest.now in
    let after = cut_at 1 rest in
    record {
      counts = rw after (plain_more c.loop-rest.len rest (length (string_value c.args.quoted.now)) (omega arith) c.if-b-eq92.false c.loop-rest.invariant.counts);
      place = rw after (omega (arith, length-drop 1 rest, c.loop-rest.invariant.place));
    }

pub returns : goal.returns
returns c = done_counts c.loop-rest.len c.loop-rest.rest.now (length (string_value c.args.quoted.now)) (omega arith) c.loop-rest.invariant.counts
