-- The lines of a text, read one by one.
use Rattle.std.proofs.Common.{◌≡◌, ℕ, suc, ◌+◌, ◌<◌, Bool, true, false, cond, not, List, [], ◌∷◌, length, take, drop, Result, Ok, Err, refl, sym, ap, ◌∙◌, arith}
use Rattle.std.specs.List.{onto_first}
use Rattle.spu_lex.specs.declared.Token.{Token}
use Rattle.spu_asm.specs.declared.error.AsmError.{AsmError}
use Rattle.spu_asm.specs.declared.error.AsmError.TheVariants.{At, Memory}
use Rattle.spu_asm.specs.Outcomes.{◌>>=◌, on_line, Shows}
use Rattle.spu_asm.specs.declared.syntax.Section.{Section}
use Rattle.spu_asm.specs.declared.syntax.Section.TheVariants.{Text}
use Rattle.spu_asm.specs.declared.syntax.Statement.{Statement}
use Rattle.spu_asm.specs.Reading.{is_line_end}
use Rattle.spu_asm.specs.Statements.{statement_of}
use Rattle.spu_asm.specs.ReadLines.{IsRead, AllRead}
use Rattle.spu_asm.specs.Source.{lines_of, line_len, labels_of, after_labels, Labels, with_labels, SourceLine, Source, section_after, source_from, source_of, or_nothing, stated, lines_from, lines_in}
use Rattle.spu_asm.proofs.OutcomeLemmas.{bind_ok, line_ok, ok_is}

-- the labels alone
abbrev pub labels_only : Result Source AsmError → Result Labels AsmError
labels_only read = read >>= λ s. Ok s.labels

step : (b : Bool) (t : Token) (ts : List Token) → (0 < length ts → lines_of ts ≡ take (line_len ts) ts ∷ lines_of (drop (line_len ts + 1) ts))
    → cond b ([] ∷ lines_of ts) (onto_first t (lines_of ts))
    ≡ take (cond (not b) (1 + line_len ts) 0) (t ∷ ts) ∷ lines_of (drop (cond (not b) (1 + line_len ts) 0 + 1) (t ∷ ts))
unfolding lines_of
step true t ts ih = refl
step false t [] ih = refl
step false t (u ∷ us) ih =
    let k = line_len (u ∷ us) in
    let two : (1 + k) + 1 ≡ suc (k + 1) = omega arith in
    let one : 1 + k ≡ suc k = omega arith in
    rw (two, one, ih (omega arith)) refl

-- the first line, and the others
pub first_line : (rest : List Token) → 0 < length rest → lines_of rest ≡ take (line_len rest) rest ∷ lines_of (drop (line_len rest + 1) rest)
unfolding lines_of
first_line [] some = absurd (omega arith)
first_line (t ∷ ts) some = step (is_line_end t.kind) t ts (first_line ts)

-- the lines of a text that has no fault are those that are read again
lines_are : (text : List ℕ) (number : ℕ) (section : Section) (labels : Labels) (lines : List (List Token)) (s : Source) → source_from text number section labels lines ≡ Ok s → s.lines ≡ lines_from text number section lines
unfolding source_from lines_from
lines_are text number section labels [] s is = ap (λ (x : Source). x.lines) (sym (ok_is (record { lines = []; labels = labels }) s is))
lines_are text number section labels (line ∷ lines) s is =
    let one = bind_ok (on_line number (statement_of text section (after_labels text line))) _ s is in
    let more = bind_ok (on_line number (with_labels labels number (labels_of text line))) _ s one.2 in
    let rest = bind_ok (source_from text (number + 1) (section_after section one.0) more.0 lines) _ s more.2 in
    let front = ok_is (record { lines = with_statement one.0 ∷ rest.0.lines; labels = rest.0.labels }) s rest.2 in
    let statement : stated text section line ≡ one.0 = ap or_nothing (line_ok number (statement_of text section (after_labels text line)) one.0 one.1) in
    let others = lines_are text (number + 1) (section_after section one.0) more.0 lines rest.0 rest.1 in
    ap (λ (x : Source). x.lines) (sym front) ∙ ap (λ (xs : List SourceLine). with_statement one.0 ∷ xs) others ∙ ap (λ (x : Statement). with_statement x ∷ lines_from text (number + 1) (section_after section x) lines) (sym statement)
  where
    with_statement : Statement → SourceLine
    with_statement statement = record { number = number; section = section; statement = statement; arguments = drop 1 (after_labels text line) }

-- no tokens, no lines
pub no_lines : (text : List ℕ) (number : ℕ) (section : Section) (rest : List Token) → length rest ≡ 0 → lines_from text number section (lines_of rest) ≡ []
unfolding lines_of lines_from
no_lines text number section [] none = refl
no_lines text number section (t ∷ ts) none = absurd (omega arith)

-- where there are lines, there are tokens
pub some_lines : (text : List ℕ) (number : ℕ) (section : Section) (rest : List Token) → 0 < length (lines_from text number section (lines_of rest)) → 0 < length rest
unfolding lines_of lines_from
some_lines text number section [] some = absurd (omega arith)
some_lines text number section (t ∷ ts) some = omega arith

-- the first line, and those that are left
pub next_line : (text : List ℕ) (number : ℕ) (section : Section) (rest : List Token) → 0 < length rest
    → lines_from text number section (lines_of rest)
    ≡ record { number = number; section = section; statement = stated text section (take (line_len rest) rest); arguments = drop 1 (after_labels text (take (line_len rest) rest)) }
    ∷ lines_from text (number + 1) (section_after section (stated text section (take (line_len rest) rest))) (lines_of (drop (line_len rest + 1) rest))
unfolding lines_from
next_line text number section rest some = rw (first_line rest some) refl

pub next_line_is : (text : List ℕ) (number : ℕ) (section : Section) (rest : List Token) → 0 < length rest → (statement : Statement) (arguments : List Token) (next : ℕ) (after : Section) (others : List Token)
    → statement ≡ stated text section (take (line_len rest) rest) → arguments ≡ drop 1 (after_labels text (take (line_len rest) rest)) → next ≡ number + 1 → after ≡ section_after section statement → others ≡ drop (line_len rest + 1) rest
    → lines_from text number section (lines_of rest) ≡ record { number = number; section = section; statement = statement; arguments = arguments } ∷ lines_from text next after (lines_of others)
next_line_is text number section rest some statement arguments next after others a b c d e = rw (c, d, e, a, b) (next_line text number section rest some)

-- the labels so far and those of the rest are all, and so it is with what is known of the lines
pub record Reads (text : List ℕ) (number : ℕ) (section : Section) (labels : Labels) (rest tokens : List Token) : Type 0 where
  pub is : labels_only (source_from text number section labels (lines_of rest)) ≡ labels_only (source_of text tokens)
  pub read : AllRead text (lines_from text number section (lines_of rest)) → AllRead text (lines_in text tokens)

pub begins : (text : List ℕ) (number : ℕ) (section : Section) (labels : Labels) (rest tokens : List Token) → number ≡ 1 → section ≡ Text → labels ≡ [] → rest ≡ tokens → Reads text number section labels rest tokens
begins text number section labels rest tokens a b c d = rw (a, b, c, d) (record { is = refl; read = λ r. r })

regroup : (line : SourceLine) (read : Result Source AsmError) → labels_only (read >>= λ s. Ok (record { lines = line ∷ s.lines; labels = s.labels })) ≡ labels_only read
regroup line (Ok s) = refl
regroup line (Err e) = refl

not_only : (read : Result Source AsmError) (e : AsmError) → labels_only read ≡ Err e → read ≡ Err e
not_only (Ok s) e is = absurd cc
not_only (Err k) e is = let p : k ≡ e = cc in ap Err p

module _ (text : List ℕ) (number : ℕ) (section : Section) (labels : Labels) (rest tokens : List Token) (some : 0 < length rest) (so_far : Reads text number section labels rest tokens) where
  abbrev pub tokens_here : List Token
  tokens_here = take (line_len rest) rest

  pub goes_on : (statement : Statement) (more : Labels) → on_line number (statement_of text section (after_labels text tokens_here)) ≡ Ok statement → on_line number (with_labels labels number (labels_of text tokens_here)) ≡ Ok more
      → IsRead text section statement (drop 1 (after_labels text tokens_here)) → Reads text (number + 1) (section_after section statement) more (drop (line_len rest + 1) rest) tokens
  unfolding source_from
  goes_on statement more given labelled read =
      let line : SourceLine = record { number = number; section = section; statement = statement; arguments = drop 1 (after_labels text tokens_here) } in
      let others = source_from text (number + 1) (section_after section statement) more (lines_of (drop (line_len rest + 1) rest)) in
      let one : labels_only (source_from text number section labels (lines_of rest)) ≡ labels_only others = rw (first_line rest some, given, labelled) (regroup line others) in
      let is_statement : stated text section tokens_here ≡ statement = ap or_nothing (line_ok number (statement_of text section (after_labels text tokens_here)) statement given) in
      let next : lines_from text number section (lines_of rest) ≡ line ∷ lines_from text (number + 1) (section_after section statement) (lines_of (drop (line_len rest + 1) rest)) = next_line text number section rest some ∙ ap (λ (x : Statement). with_statement x ∷ lines_from text (number + 1) (section_after section x) (lines_of (drop (line_len rest + 1) rest))) is_statement in
      record { is = sym one ∙ so_far.is; read = λ all. so_far.read (rw next (read, all)) }
    where
      with_statement : Statement → SourceLine
      with_statement statement = record { number = number; section = section; statement = statement; arguments = drop 1 (after_labels text tokens_here) }

  pub wrong_statement : (e : AsmError) → on_line number (statement_of text section (after_labels text tokens_here)) ≡ Err e → source_of text tokens ≡ Err e
  unfolding source_from
  wrong_statement e given =
      let one : labels_only (source_from text number section labels (lines_of rest)) ≡ Err e = rw (first_line rest some, given) refl in
      not_only (source_of text tokens) e (sym so_far.is ∙ one)

  pub wrong_label : (statement : Statement) (e : AsmError) → on_line number (statement_of text section (after_labels text tokens_here)) ≡ Ok statement → on_line number (with_labels labels number (labels_of text tokens_here)) ≡ Err e
      → source_of text tokens ≡ Err e
  unfolding source_from
  wrong_label statement e given labelled =
      let one : labels_only (source_from text number section labels (lines_of rest)) ≡ Err e = rw (first_line rest some, given, labelled) refl in
      not_only (source_of text tokens) e (sym so_far.is ∙ one)

whole : (read : Result Source AsmError) (lines : List SourceLine) (labels : Labels) → labels_only read ≡ Ok labels → ((s : Source) → read ≡ Ok s → s.lines ≡ lines) → read ≡ Ok (record { lines = lines; labels = labels })
whole (Ok s) lines labels is same =
    let a : s.lines ≡ lines = same s refl in
    let b : s.labels ≡ labels = ok_is s.labels labels is in
    rw (← a, ← b) refl
whole (Err e) lines labels is same = absurd cc

pub is_done : (text : List ℕ) (number : ℕ) (section : Section) (labels : Labels) (rest tokens : List Token) → length rest ≡ 0 → Reads text number section labels rest tokens
    → source_of text tokens ≡ Ok (record { lines = lines_in text tokens; labels = labels })
unfolding lines_of source_from
is_done text number section labels [] tokens none so_far =
    whole (source_of text tokens) (lines_in text tokens) labels (sym so_far.is) (λ s is. lines_are text 1 Text [] (lines_of tokens) s is)
is_done text number section labels (t ∷ ts) tokens none so_far = absurd (omega arith)

pub all_read : (text : List ℕ) (number : ℕ) (section : Section) (labels : Labels) (rest tokens : List Token) → length rest ≡ 0 → Reads text number section labels rest tokens → AllRead text (lines_in text tokens)
all_read text number section labels rest tokens none so_far = so_far.read (rw (no_lines text number section rest none) tt)

pub added_err : {B : Type 0} (e : AsmError) (shown : Unit {0} → Labels) (given : Result Labels AsmError) (see : B → Source) (total : Result Source AsmError) → Shows shown (Err e) given → (given ≡ Err e → total ≡ Err e) → Shows see (Err e) total
added_err (At line kind) shown given see total adds go = go adds
added_err Memory shown given see total adds go = tt
