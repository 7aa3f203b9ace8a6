-- The bytes of lines are as long as their addresses say.
use Rattle.std.proofs.Common.{◌≡◌, ℕ, zero, suc, ℤ, ◌+◌, ◌-◌, ◌*◌, ◌/◌, ◌%◌, ◌^◌, ◌<◌, ◌≤◌, max, Bool, true, false, cond, not, List, [], ◌∷◌, ◌++◌, length, Result, Ok, Err, refl, sym, ap, ◌∙◌, arith}
use Rattle.std.specs.Prelude.{nat_lt, slice_index}
use Rattle.std.specs.List.{repeat}
use Rattle.std.proofs.lemmas.List.{length-append}
use Rattle.std.proofs.lemmas.Bool.{ltb-false, eqb-true}
use Rattle.std.proofs.lemmas.Nat.{pow_pos, pow-add}
use Rattle.std.proofs.Math.Nat.{mul-mod_right, mul_comm, mul_assoc, suc-mul, mul-suc}
use Rattle.spu_lex.specs.declared.Token.{Token}
use Rattle.spu_decode.specs.declared.row.Row.{Row}
use Rattle.spu_asm.specs.declared.error.AsmKind.{AsmKind}
use Rattle.spu_asm.specs.declared.error.AsmKind.TheVariants.{NotMultiple, Overlap, OutsideStore}
use Rattle.spu_asm.specs.declared.syntax.Expression.{Expression}
use Rattle.spu_asm.specs.declared.syntax.Given.{Given}
use Rattle.spu_asm.specs.declared.syntax.Section.{Section}
use Rattle.spu_asm.specs.declared.syntax.Section.TheVariants.{Text, Data}
use Rattle.spu_asm.specs.declared.syntax.Size.{Size}
use Rattle.spu_asm.specs.declared.syntax.Size.TheVariants.{Byte, Half, Word, Double}
use Rattle.spu_asm.specs.declared.syntax.Statement.{Statement}
use Rattle.spu_asm.specs.declared.syntax.Statement.TheVariants.{Nothing, Choose, Align, Org, Skip, Values, Bytes, Instruction}
use Rattle.spu_asm.specs.Outcomes.{on_line}
use Rattle.spu_asm.specs.ReadLines.{IsRead, AllRead}
use Rattle.spu_asm.specs.Source.{Labels, SourceLine}
use Rattle.spu_asm.specs.Statements.{expressions_among, string_among}
use Rattle.spu_asm.specs.Layout.{next_multiple, alignment, bytes_in, address_after, is_not_multiple, overlaps, placed, is_multiple_of_4, stepped, addresses, present, places, section_end, data_start}
use Rattle.spu_asm.specs.Encoding.{values_of, spelled, value_bytes, number_bytes, defined, allowed, range_of_size, encoded, valued, instr_at, instr_bytes, lnop, filling, text_bytes, bytes_of}
use Rattle.spu_asm.specs.Assembling.{Sections, onto, sections_of, AreAsLong, EndsWith}
use Rattle.spu_asm.specs.Images.{IsImage}
use Rattle.spu_asm.proofs.OutcomeLemmas.{bind_ok, line_ok, ok_is}

length-repeat : (n : ℕ) (xs : List ℕ) → length (repeat n xs) ≡ n * length xs
length-repeat zero xs = omega arith
length-repeat (suc n) xs =
    let both = length-append xs (repeat n xs) in
    let rest = length-repeat n xs in
    let times = suc-mul n (length xs) in
    omega arith

-- a statement that stands where it may
pub record IsPlaced (section : Section) (at : ℕ) (statement : Statement) (next : ℕ) : Type 0 where
  pub multiple : is_not_multiple section at statement ≡ false
  pub above : overlaps at statement ≡ false
  pub is : next ≡ address_after section at statement

tests : (a b c : Bool) (n next : ℕ) → cond a (Err NotMultiple) (cond b (Err Overlap) (cond c (Err OutsideStore) (Ok n))) ≡ Ok next → (a ≡ false) × (b ≡ false) × (next ≡ n)
tests true b c n next e = absurd cc
tests false true c n next e = absurd cc
tests false false true n next e = absurd cc
tests false false false n next e = (refl, refl, sym (ok_is n next e))

placed_is : (section : Section) (at : ℕ) (statement : Statement) (next : ℕ) → placed section at statement ≡ Ok next → IsPlaced section at statement next
unfolding placed
placed_is section at statement next is =
    let t = tests (is_not_multiple section at statement) (overlaps at statement) (nat_lt 262144 (address_after section at statement)) (address_after section at statement) next is in
    record { multiple = t.0; above = t.1; is = t.2 }

-- values and their bytes

length_values : (text : List ℕ) (labels : Labels) (all : List ℕ) (es : List Expression) (vs : List ℤ) → values_of text labels all es ≡ Ok vs → length vs ≡ length es
unfolding values_of
length_values text labels all [] vs is = ap length (sym (ok_is [] vs is))
length_values text labels all (e ∷ es) vs is =
    let one = bind_ok (defined text labels all e) _ vs is in
    let others = bind_ok (values_of text labels all es) _ vs one.2 in
    let front = ok_is (one.0 ∷ others.0) vs others.2 in
    ap length (sym front) ∙ ap suc (length_values text labels all es others.0 others.1)

length_number : (size : Size) (v : ℤ) → length (number_bytes size v) ≡ bytes_in size
length_number Byte v = refl
length_number Half v = refl
length_number Word v = refl
length_number Double v = refl

length_spelled : (size : Size) (vs : List ℤ) (bytes : List ℕ) → spelled size vs ≡ Ok bytes → length bytes ≡ bytes_in size * length vs
unfolding spelled
length_spelled size [] bytes is = ap length (sym (ok_is [] bytes is)) ∙ omega arith
length_spelled size (v ∷ vs) bytes is =
    let one = bind_ok (allowed (range_of_size size) v) _ bytes is in
    let others = bind_ok (spelled size vs) _ bytes one.2 in
    let front = ok_is (number_bytes size one.0 ++ others.0) bytes others.2 in
    omega (arith, ap length (sym front), length-append (number_bytes size one.0) others.0, length_number size one.0, length_spelled size vs others.0 others.1, mul-suc (bytes_in size) (length vs))

length_value_bytes : (text : List ℕ) (labels : Labels) (all : List ℕ) (size : Size) (es : List Expression) (bytes : List ℕ) → value_bytes text labels all size es ≡ Ok bytes → length bytes ≡ bytes_in size * length es
length_value_bytes text labels all size es bytes is =
    let one = bind_ok (values_of text labels all es) (spelled size) bytes is in
    length_spelled size one.0 bytes one.2 ∙ ap (λ (n : ℕ). bytes_in size * n) (length_values text labels all es one.0 one.1)

length_instr : (i : Rattle.spu_decode.specs.declared.Instr.Instr) → length (instr_bytes i) ≡ 4
unfolding instr_bytes
length_instr i = refl

length_encoded : (text : List ℕ) (labels : Labels) (all : List ℕ) (at : ℕ) (row : Row) (g : Given) (bytes : List ℕ) → encoded text labels all at row g ≡ Ok bytes → length bytes ≡ 4
unfolding encoded
length_encoded text labels all at row g bytes is =
    let value = bind_ok (valued text labels all g.value) _ bytes is in
    let second = bind_ok (valued text labels all g.second) _ bytes value.2 in
    let made = bind_ok (instr_at at row g value.0) _ bytes second.2 in
    ap length (sym (ok_is (instr_bytes made.0) bytes made.2)) ∙ length_instr made.0

-- multiples

next_multiple_ge : (m n : ℕ) → 0 < m → n ≤ next_multiple m n
next_multiple_ge m n some =
    let x = n + (m - 1) in
    let parts : m * (x / m) + x % m ≡ x = omega arith in
    let left : x % m < m = omega arith in
    let turned : x / m * m ≡ m * (x / m) = mul_comm (x / m) m in
    omega (arith, parts, left, turned)

four : (n : ℕ) → 2 ^ max 2 n ≡ 4 * 2 ^ (max 2 n - 2)
four n =
    let split : max 2 n ≡ 2 + (max 2 n - 2) = omega arith in
    ap (λ (k : ℕ). 2 ^ k) split ∙ pow-add 2 2 (max 2 n - 2)

-- an alignment in text is to a multiple of 4
aligned_text : (n at : ℕ) → next_multiple (alignment Text n) at % 4 ≡ 0
aligned_text n at =
    let q = (at + (2 ^ max 2 n - 1)) / 2 ^ max 2 n in
    let p = 2 ^ (max 2 n - 2) in
    let turned : q * (4 * p) ≡ 4 * (q * p) = omega (arith, mul_assoc q 4 p, mul_comm q 4, mul_assoc 4 q p) in
    ap (λ (k : ℕ). k % 4) (ap (λ (k : ℕ). q * k) (four n) ∙ turned) ∙ mul-mod_right 4 (q * p)

negated : (b : Bool) → not b ≡ false → b ≡ true
negated true e = refl
negated false e = absurd cc

multiple_is : (n : ℕ) → not (is_multiple_of_4 n) ≡ false → n % 4 ≡ 0
multiple_is n e = eqb-true (n % 4) 0 (negated (is_multiple_of_4 n) e)

-- a line's bytes

module _ (text : List ℕ) (labels : Labels) (all : List ℕ) (at number : ℕ) where
  abbrev pub made : Section → Statement → List Token → Result (List ℕ) AsmKind
  made section statement arguments = bytes_of text labels all at (record { number = number; section = section; statement = statement; arguments = arguments })

  zeros_length : (n : ℕ) (bytes : List ℕ) → ◌≡◌ {A = Result (List ℕ) AsmKind} (Ok (repeat n (0 ∷ []))) (Ok bytes) → length bytes ≡ n
  zeros_length n bytes is = ap length (sym (ok_is (repeat n (0 ∷ [])) bytes is)) ∙ length-repeat n (0 ∷ []) ∙ omega arith

  filled_length : (section : Section) (n : ℕ) (bytes : List ℕ) → (section ≡ Text → at % 4 ≡ 0) → ◌≡◌ {A = Result (List ℕ) AsmKind} (Ok (filling section (next_multiple (alignment section n) at - at))) (Ok bytes) → at + length bytes ≡ next_multiple (alignment section n) at
  filled_length Text n bytes aligned is =
      let after = next_multiple (alignment Text n) at in
      let long : length bytes ≡ (after - at) / 4 * 4 = ap length (sym (ok_is (filling Text (after - at)) bytes is)) ∙ length-repeat ((after - at) / 4) (instr_bytes lnop) ∙ ap (λ (k : ℕ). (after - at) / 4 * k) (length_instr lnop) in
      omega (arith, long, aligned refl, aligned_text n at, next_multiple_ge (alignment Text n) at (pow_pos (max 2 n)))
  filled_length Data n bytes aligned is =
      omega (arith, zeros_length (next_multiple (alignment Data n) at - at) bytes is, next_multiple_ge (alignment Data n) at (pow_pos n))

  line_length : (section : Section) (statement : Statement) (arguments : List Token) (next : ℕ) (bytes : List ℕ) → (section ≡ Text → at % 4 ≡ 0) → IsRead text section statement arguments
      → IsPlaced section at statement next → made section statement arguments ≡ Ok bytes → at + length bytes ≡ next
  unfolding bytes_of address_after
  line_length section Nothing arguments next bytes aligned read stands is = omega (arith, ap length (sym (ok_is [] bytes is)), stands.is)
  line_length section (Choose other) arguments next bytes aligned read stands is = omega (arith, ap length (sym (ok_is [] bytes is)), stands.is)
  line_length section (Align n) arguments next bytes aligned read stands is = filled_length section n bytes aligned is ∙ sym stands.is
  line_length section (Org n) arguments next bytes aligned read stands is =
      let above : at ≤ n = ltb-false n at stands.above in
      omega (arith, zeros_length (n - at) bytes is, stands.is, above)
  line_length section (Skip n) arguments next bytes aligned read stands is = omega (arith, zeros_length (at + n - at) bytes is, stands.is)
  line_length section (Values size count) arguments next bytes aligned read stands is =
      ap (λ (k : ℕ). at + k) (length_value_bytes text labels all size (expressions_among text arguments) bytes is ∙ ap (λ (k : ℕ). bytes_in size * k) (sym read.0)) ∙ sym stands.is
  line_length section (Bytes n zero_byte) arguments next bytes aligned read stands is =
      let whole = ap length (sym (ok_is (text_bytes text arguments zero_byte) bytes is)) in
      omega (arith, whole, length-append (string_among text arguments) (cond zero_byte (0 ∷ []) []), last_length zero_byte, read.0, stands.is)
    where
      last_length : (z : Bool) → length {A = ℕ} (cond z (0 ∷ []) []) ≡ cond z 1 0
      last_length true = refl
      last_length false = refl
  line_length section (Instruction row g) arguments next bytes aligned read stands is = omega (arith, length_encoded text labels all at row g bytes is, stands.is)

  -- in text every line ends at a multiple of 4
  line_aligned : (statement : Statement) (arguments : List Token) (next : ℕ) → at % 4 ≡ 0 → IsRead text Text statement arguments → IsPlaced Text at statement next → next % 4 ≡ 0
  unfolding address_after
  line_aligned Nothing arguments next aligned read stands = omega (arith, aligned, stands.is)
  line_aligned (Choose other) arguments next aligned read stands = omega (arith, aligned, stands.is)
  line_aligned (Align n) arguments next aligned read stands = ap (λ (k : ℕ). k % 4) stands.is ∙ aligned_text n at
  line_aligned (Org n) arguments next aligned read stands = ap (λ (k : ℕ). k % 4) stands.is ∙ multiple_is n stands.multiple
  line_aligned (Skip n) arguments next aligned read stands = omega (arith, aligned, multiple_is n stands.multiple, stands.is)
  line_aligned (Values Byte count) arguments next aligned read stands = absurd cc
  line_aligned (Values Half count) arguments next aligned read stands = absurd cc
  line_aligned (Values Word count) arguments next aligned read stands = omega (arith, aligned, stands.is)
  line_aligned (Values Double count) arguments next aligned read stands = omega (arith, aligned, stands.is)
  line_aligned (Bytes n zero_byte) arguments next aligned read stands = absurd cc
  line_aligned (Instruction row g) arguments next aligned read stands = omega (arith, aligned, stands.is)

-- all lines

-- each line that was read is as long as its addresses say
pub each_long : (text : List ℕ) (lines : List SourceLine) → AllRead text lines → AreAsLong text lines
each_long text [] read = tt
each_long text (l ∷ ls) read = (
  λ labels all at next bytes aligned stands is.
      line_length text labels all at l.number l.section l.statement l.arguments next bytes aligned read.0 (placed_is l.section at l.statement next stands) is,
  each_long text ls read.1,
)

pub record Ends (text_at data_at : List ℕ) (count t d : ℕ) (s : Sections) : Type 0 where
  pub text : slice_index text_at count ≡ t + length s.text
  pub data_end : slice_index data_at count ≡ d + length s.data_bytes
  pub words : slice_index text_at count % 4 ≡ 0

module _ (text : List ℕ) (labels : Labels) (all : List ℕ) where
  -- a line moves its own section alone
  one_line : (number : ℕ) (section : Section) (statement : Statement) (arguments : List Token) (t d t_next d_next : ℕ) (bytes : List ℕ) (others : Sections) → t % 4 ≡ 0 → IsRead text section statement arguments
      → stepped Text t (record { number = number; section = section; statement = statement; arguments = arguments }) ≡ Ok t_next
      → stepped Data d (record { number = number; section = section; statement = statement; arguments = arguments }) ≡ Ok d_next
      → on_line number (made text labels all (present section t d) number section statement arguments) ≡ Ok bytes
      → (t + length (onto section bytes others).text ≡ t_next + length others.text) × (d + length (onto section bytes others).data_bytes ≡ d_next + length others.data_bytes) × (t_next % 4 ≡ 0)
  one_line number Text statement arguments t d t_next d_next bytes others aligned read in_text in_data is =
      let p = placed_is Text t statement t_next (line_ok number (placed Text t statement) t_next in_text) in
      let same : d ≡ d_next = ok_is d d_next in_data in
      let long = line_length text labels all t number Text statement arguments t_next bytes (λ _. aligned) read p (line_ok number (made text labels all t number Text statement arguments) bytes is) in
      (omega (arith, long, length-append bytes others.text), omega (arith, same), line_aligned text labels all t number statement arguments t_next aligned read p)
  one_line number Data statement arguments t d t_next d_next bytes others aligned read in_text in_data is =
      let p = placed_is Data d statement d_next (line_ok number (placed Data d statement) d_next in_data) in
      let same : t ≡ t_next = ok_is t t_next in_text in
      let long = line_length text labels all d number Data statement arguments d_next bytes (λ e. absurd cc) read p (line_ok number (made text labels all d number Data statement arguments) bytes is) in
      (omega (arith, same), omega (arith, long, length-append bytes others.data_bytes), omega (arith, same, aligned))

  pub lengths : (lines : List SourceLine) (t d : ℕ) (text_at data_at : List ℕ) (s : Sections) → t % 4 ≡ 0 → AllRead text lines
      → addresses Text t lines ≡ Ok text_at → addresses Data d lines ≡ Ok data_at → sections_of text labels all lines (places lines text_at data_at) ≡ Ok s
      → Ends text_at data_at (length lines) t d s
  unfolding addresses places sections_of
  lengths [] t d text_at data_at s aligned read in_text in_data is =
      let a = ok_is (t ∷ []) text_at in_text in
      let b = ok_is (d ∷ []) data_at in_data in
      let e = ok_is (record { text = []; data_bytes = [] }) s is in
      rw (← a, ← b, ← e) (record { text = omega arith; data_end = omega arith; words = aligned })
  lengths (line ∷ lines) t d text_at data_at s aligned read in_text in_data is =
      let t_step = bind_ok (stepped Text t line) _ text_at in_text in
      let t_rest = bind_ok (addresses Text t_step.0 lines) _ text_at t_step.2 in
      let d_step = bind_ok (stepped Data d line) _ data_at in_data in
      let d_rest = bind_ok (addresses Data d_step.0 lines) _ data_at d_step.2 in
      let a = ok_is (t ∷ t_rest.0) text_at t_rest.2 in
      let b = ok_is (d ∷ d_rest.0) data_at d_rest.2 in
      let here = bind_ok (on_line line.number (bytes_of text labels all (present line.section t d) line)) _ s (rw (← a, ← b) at is) in
      let rest = bind_ok (sections_of text labels all lines (places lines t_rest.0 d_rest.0)) _ s here.2 in
      let front = ok_is (onto line.section here.0 rest.0) s rest.2 in
      let one = one_line line.number line.section line.statement line.arguments t d t_step.0 d_step.0 here.0 rest.0 aligned read.0 t_step.1 d_step.1 here.1 in
      let more = lengths lines t_step.0 d_step.0 t_rest.0 d_rest.0 rest.0 one.2 read.1 t_rest.1 d_rest.1 rest.1 in
      rw (← a, ← b, ← front) (record { text = more.text ∙ sym one.0; data_end = more.data_end ∙ sym one.1; words = more.words })

-- where a section ends, by its addresses
pub ends : (section : Section) (at : ℕ) (lines : List SourceLine) (found : List ℕ) (last : ℕ) → addresses section at lines ≡ Ok found → slice_index found (length lines) ≡ last → section_end section at lines ≡ Ok last
ends section at lines found last is eq = rw is (ap Ok eq)

-- an image that is laid out
pub laid : (text : List ℕ) (labels : Labels) (lines : List SourceLine) (text_at data_at : List ℕ) (start entry : ℕ) (s : Sections) → AllRead text lines
    → addresses Text 0 lines ≡ Ok text_at → start ≡ data_start (slice_index text_at (length lines)) → addresses Data start lines ≡ Ok data_at
    → sections_of text labels (places lines text_at data_at) lines (places lines text_at data_at) ≡ Ok s
    → slice_index data_at (length lines) ≤ 262144 → entry % 4 ≡ 0 → entry < 262144
    → IsImage (record { text = s.text; bytes = s.data_bytes; bytes_at = start; entry = entry }) × EndsWith lines (record { text = s.text; bytes = s.data_bytes; bytes_at = start; entry = entry })
laid text labels lines text_at data_at start entry s read in_text begins in_data is bound aligned within =
    let e = lengths text labels (places lines text_at data_at) lines 0 start text_at data_at s refl read in_text in_data is in (
      record {
        words = omega (arith, e.text, e.words);
        before = omega (arith, e.text, begins);
        line = omega (arith, begins);
        fits = omega (arith, e.data_end, bound);
        aligned = aligned;
        within = within;
      },
      (ends Text 0 lines text_at (length s.text) in_text (omega (arith, e.text)), ends Data start lines data_at (start + length s.data_bytes) in_data e.data_end),
    )
