use Rattle.std.proofs.Common.{◌≡◌, ℕ, ◌-◌, length, take, drop, refl, ap, ◌∙◌, arith}
use Rattle.std.proofs.lemmas.List.{length-drop, length-take}
use Rattle.spu_asm.specs.Strings.{string_value, escape_value}
use Rattle.spu_asm.proofs.Counting.{escaped_spells, plain_spells, done_spells, begin_spells, cut_at}
use Rattle.spu_asm.proofs.strings.string_bytes.Goals as goal

pub returns-then-quoted-lt2 : goal.returns-then-quoted-lt2
returns-then-quoted-lt2 c =
    let quoted = c.args.quoted.now in
    let none : length quoted - 2 ≡ 0 = omega arith in
    done_spells c.new-out.result.items (take (length quoted - 2) (drop 1 quoted)) (string_value quoted) (rw none refl) (begin_spells c.new-out.result.items quoted _ c.new-out.ensures.items refl (rw none (omega arith)))

pub loop-rest-init : goal.loop-rest-init
loop-rest-init c =
    let quoted = c.args.quoted.now in
    let two : length quoted - 1 - 1 ≡ length quoted - 2 = omega arith in
    begin_spells c.new-out.result.items quoted _ c.new-out.ensures.items (ap (λ (n : ℕ). take n (drop 1 quoted)) two) (omega (arith, length-take (length quoted - 1 - 1) (drop 1 quoted), length-drop 1 quoted))

pub loop-rest-preserved-then-b-eq92 : goal.loop-rest-preserved-then-b-eq92
loop-rest-preserved-then-b-eq92 c =
    let rest = c.loop-rest.rest.now in
    let after = cut_at 1 rest in
    let both : c.escape_value-byte.result ≡ escape_value (drop 1 rest) = c.escape_value-byte.ensures.value ∙ ap escape_value after in
    let more = escaped_spells c.loop-rest.out.items rest (string_value c.args.quoted.now) (omega arith) c.if-b-eq92.true c.loop-rest.invariant in
    rw (c.in_ok-push.ensures.items, after, both, cut_at (escape_value (drop 1 rest)).1 (drop 1 rest)) more

pub loop-rest-preserved : goal.loop-rest-preserved
loop-rest-preserved c =
    let rest = c.loop-rest.rest.now in
    rw (c.in_ok-push-2.ensures.items, cut_at 1 rest) (plain_spells c.loop-rest.out.items rest (string_value c.args.quoted.now) (omega arith) c.if-b-eq92.false c.loop-rest.invariant)

pub returns : goal.returns
returns c = done_spells c.loop-rest.out.items c.loop-rest.rest.now (string_value c.args.quoted.now) (omega arith) c.loop-rest.invariant
