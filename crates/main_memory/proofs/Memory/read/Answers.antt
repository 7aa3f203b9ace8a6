use Rattle.std.proofs.Common.{◌≡◌, ◌≤◌, ◌<◌, ◌+◌, ◌-◌, ◌*◌, ◌/◌, ◌%◌, ◌∙◌, ap, sym, suc, length, slice_range, vec_len, arith, rules}
use Rattle.std.specs.Prelude.{slice_index}
use Rattle.std.proofs.lemmas.List.{get_or_default}
use Rattle.main_memory.proofs.PageLaws.{unwritten, within_of, written}
use Rattle.main_memory.proofs.Memory.read.Goals as goal

pub index-requires : goal.index-requires
index-requires c =
    let m = c.self.inside in
    let within = within_of (128 * m.lines) m.numbers.items m.kept.items c.args.self.now (c.args.at + length c.args.into.now) c.self.view_is c.requires.within in
    let len : vec_len m.numbers ≡ length m.numbers.items = search rules in
    omega (arith, within, len, c.self.invariant)

pub returns-then-number-eq0 : goal.returns-then-number-eq0
returns-then-number-eq0 c =
    let m = c.self.inside in
    let at = c.args.at in
    let n = length c.args.into.now in
    let within = within_of (128 * m.lines) m.numbers.items m.kept.items c.args.self.now (at + n) c.self.view_is c.requires.within in
    let there : at / 4096 < length m.numbers.items = omega (arith, within, c.self.invariant) in
    let number = sym (c.index.ensures ∙ get_or_default m.numbers.items (at / 4096) c.index.result.now 0 there) ∙ c.if-number-eq0.true in
    c.fill.ensures.after (λ y same. same) ∙ sym (unwritten (128 * m.lines) m.numbers.items m.kept.items at n within c.requires.one number)
    ∙ ap (λ xs. slice_range xs at (at + n)) c.self.view_is

pub slice_bounds-copy_from_slice-end : goal.slice_bounds-copy_from_slice-end
slice_bounds-copy_from_slice-end c =
    let m = c.self.inside in
    let at = c.args.at in
    let n = length c.args.into.now in
    let within = within_of (128 * m.lines) m.numbers.items m.kept.items c.args.self.now (at + n) c.self.view_is c.requires.within in
    let there : at / 4096 < length m.numbers.items = omega (arith, within, c.self.invariant) in
    let number : c.index.result.now ≡ slice_index m.numbers.items (at / 4096) = c.index.ensures ∙ get_or_default m.numbers.items (at / 4096) c.index.result.now 0 there in
    let low = c.self.invariant.3.within (at / 4096) in
    let some : 0 < c.index.result.now = omega arith in
    let inside : (c.index.result.now - 1) * 4096 + at % 4096 + n ≤ length c.deref.result.now = omega (arith, ap length c.deref.ensures.value) in
    search rules

pub returns : goal.returns
returns c =
    let m = c.self.inside in
    let at = c.args.at in
    let n = length c.args.into.now in
    let start = (c.index.result.now - 1) * 4096 + at % 4096 in
    let within = within_of (128 * m.lines) m.numbers.items m.kept.items c.args.self.now (at + n) c.self.view_is c.requires.within in
    let there : at / 4096 < length m.numbers.items = omega (arith, within, c.self.invariant) in
    let number : c.index.result.now ≡ slice_index m.numbers.items (at / 4096) = c.index.ensures ∙ get_or_default m.numbers.items (at / 4096) c.index.result.now 0 there in
    let low = c.self.invariant.3.within (at / 4096) in
    let some : 0 < c.index.result.now = omega arith in
    let index : slice_index m.numbers.items (at / 4096) ≡ suc (c.index.result.now - 1) = omega arith in
    let inside : start + n ≤ length m.kept.items = omega arith in
    c.copy_from_slice.ensures.after ∙ ap (λ xs. slice_range xs start (start + n)) c.deref.ensures.value
    ∙ sym (written (128 * m.lines) m.numbers.items m.kept.items at n (c.index.result.now - 1) within c.requires.one index inside) ∙ ap (λ xs. slice_range xs at (at + n)) c.self.view_is
