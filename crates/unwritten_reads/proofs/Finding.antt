-- The unwritten read by a step.
use Rattle.std.proofs.Common.{◌≡◌, ℕ, ◌+◌, ◌-◌, ◌*◌, ◌<◌, ◌≤◌, ap, refl, sym, subst, ◌∙◌, arith, true≢false}
use Rattle.std.specs.Prelude.{true, false, Some, None}
use Rattle.cell_base.specs.declared.steps.Step.{Step}
use Rattle.cell_machine.specs.declared.effect.Place.{Place}
use Rattle.cell_machine.specs.declared.effect.Place.TheVariants.{Memory, Local}
use Rattle.cell_machine.specs.declared.effect.Span.{Span}
use Rattle.unwritten_reads.specs.declared.known.Known.{Known}
use Rattle.unwritten_reads.specs.declared.range.ByteRange.{ByteRange}
use Rattle.unwritten_reads.specs.ByMarks.{IsUnwrittenBy}
use Rattle.unwritten_reads.specs.Marks.{HasMarked, IsFirst, is_marked}
use Rattle.unwritten_reads.specs.Ranges.{in_range, number, range_in}
use Rattle.unwritten_reads.specs.Reads.{is_in, is_instruction}
use Rattle.unwritten_reads.proofs.Bits.{in-here}
use Rattle.unwritten_reads.proofs.Spans.{is-in, local-is}
use Rattle.unwritten_reads.proofs.Spans.{has as has-in}

pub read-memory : (known : Known) (s : Step) (span : Span) (place : ℕ) → span.place ≡ Memory → IsUnwrittenBy known s span place None
read-memory known s span place is = λ p at unwritten.
    (let h = has-in span p at unwritten.read in let e : (let v : Place = Memory in v) ≡ (let w : Place = Local p in w) = sym is ∙ h.place in cc)

module _ (known : Known) (s : Step) (span : Span) (place spe : ℕ) (local : span.place ≡ Local spe) where
  abbrev r : ByteRange
  r = range_in spe span.at span.len

  -- a byte of the span is one of this store
  same-store : (p x : ℕ) → is_in span p x ≡ true → p ≡ spe
  same-store p x is = local-is p spe (sym (has-in span p x is).place ∙ local)

  there : (x : ℕ) → span.at ≤ x → x < span.at + span.len → is_in span spe x ≡ true
  there x low high = is-in span spe x (record { place = local; low = low; high = high })

  pub read-known : IsFirst (is_marked known.marks) false r None → IsUnwrittenBy known s span place None
  read-known all = λ p at unwritten.
      (let same = same-store p at unwritten.read in
      let h = has-in span p at unwritten.read in
      let low = h.low in
      let high = h.high in
      true≢false (sym (all (number p at) (omega (arith, same, low)) (omega (arith, same, high))) ∙ unwritten.unknown))

  pub read-loads : is_instruction s ≡ true → HasMarked known.marks r → IsUnwrittenBy known s span place None
  read-loads load some = λ p at unwritten.
      (let same = same-store p at unwritten.read in
      let b = some.0 in
      let low : number spe span.at ≤ b = some.1.0 in
      let high : b < number spe span.at + span.len = some.1.1 in
      let x : ℕ = b - 262144 * spe in
      let at_b : number spe x ≡ b = omega (arith, low) in
      let is : is_in span p x ≡ true = subst (λ q. is_in span q x ≡ true) (sym same) (there x (omega (arith, low)) (omega (arith, low, high))) in
      let number_is : number p x ≡ b = ap (λ q. number q x) same ∙ at_b in
      true≢false (sym some.1.2 ∙ sym (ap (is_marked known.marks) number_is) ∙ unwritten.none load x is))

  module _ (first : ℕ) (is : IsFirst (is_marked known.marks) false r (Some first)) where
    pub from-start : 262144 * spe ≤ first
    from-start = let low = is.0 in omega (arith, low)

    number-is : number spe (first - 262144 * spe) ≡ first
    number-is = let low = from-start in omega (arith, low)

    pub in-span : is_in span spe (first - 262144 * spe) ≡ true
    in-span = let low = is.0 in let high = is.1 in there (first - 262144 * spe) (omega (arith, low)) (omega (arith, low, high))

    pub read-some : (is_instruction s ≡ true → (b : ℕ) → in_range r b ≡ true → is_marked known.marks b ≡ false) → IsUnwrittenBy known s span place (Some (record { place = place; spe = spe; at = first - 262144 * spe }))
    read-some none = (
      refl,
      record {
        read = in-span;
        unknown = ap (is_marked known.marks) number-is ∙ is.2;
        first = λ x less has.
            (let h = has-in span spe x has in let low = h.low in is.3 (number spe x) (omega (arith, low)) (omega (arith, less)));
        none = λ load x has.
            (let h = has-in span spe x has in let low = h.low in let high = h.high in
            none load (number spe x) (in-here r (number spe x) (omega (arith, low)) (omega (arith, high))));
      },
    )
