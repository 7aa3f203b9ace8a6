-- The laws of whole records: what is read is spelled so, what is spelled so is read, and a fault is the first one.
use Rattle.std.proofs.Common.{◌≡◌, ◌≢◌, ℕ, zero, suc, ◌+◌, ◌-◌, ◌^◌, ◌<◌, ◌≤◌, false, List, [], ◌∷◌, ◌++◌, length, replicate, drop, Option, Some, None, Result, Ok, Err, refl, sym, ap, subst, ◌∙◌, append_assoc, arith, inl, inr, lit<}
use Rattle.std.specs.List.{flat_map}
use Rattle.std.proofs.lemmas.List.{length-append, length-replicate, drop_at}
use Rattle.std.specs.Prelude.{IsErrOf}
use Rattle.std.proofs.lemmas.List.Concat.{flat_map-cons}
use Rattle.cell_base.specs.declared.format.Format.{Format}
use Rattle.cell_base.specs.declared.format.Format.TheVariants.{One, Two}
use Rattle.cell_base.specs.declared.steps.Step.{Step}
use Rattle.run_record.specs.declared.error.RecordError.{RecordError}
use Rattle.run_record.specs.declared.error.RecordError.TheVariants as errors
use Rattle.cell_base.specs.Records.{Line, lines, line_text, count_line, head_line, spelling, AreSteps}
use Rattle.cell_base.proofs.Stretches.{all_steps, joins_last, Fits, AreLines, lines_again, lines_are, steps_again, lines_in_bounds}
use Rattle.run_record.specs.Form.{Reading, BeginsWith, MayFollow, IsFirstFault, IsFault, IsOrMemory}
use Rattle.run_record.specs.Reading.{after, line_at, count_at, ending, with_line, either, lines_at, record_at, Fails}
use Rattle.run_record.proofs.Lines.{after_takes, after_again, count_takes, count_again}
use Rattle.run_record.proofs.NextLine.{line_takes, line_again, no_line, no_room}

regroup : (a b c d : List ℕ) → ((a ++ b) ++ c) ++ d ≡ a ++ (b ++ (c ++ d))
regroup a b c d = append_assoc (a ++ b) c d ∙ append_assoc a b (c ++ d)

first_text : (format : Format) (l : Line) (ls : List Line) (rest : List ℕ) → flat_map (line_text format) (l ∷ ls) ++ rest ≡ line_text format l ++ (flat_map (line_text format) ls ++ rest)
first_text format l ls rest = ap (λ (t : List ℕ). t ++ rest) (flat_map-cons (line_text format) l ls) ∙ append_assoc (line_text format l) (flat_map (line_text format) ls) rest

-- how many steps the first line and the others stand for
first_length : (s : Step) (n : ℕ) (ls : List Line) → length (all_steps ((s, n) ∷ ls)) ≡ n + length (all_steps ls)
first_length s n ls = length-append (replicate n s) (all_steps ls) ∙ ap (λ (k : ℕ). k + length (all_steps ls)) (length-replicate n s)

small_room : (n : ℕ) → 1000000 - n < 2 ^ 64
small_room n = let wide : 1000001 ≤ 2 ^ 64 = lit< tt in omega (arith, wide)

-- the last line of these, or what came before
abbrev last_after : Option Step → List Line → Option Step
last_after last [] = last
last_after last (l ∷ ls) = last_after (Some l.0) ls

-- ---- what is read is spelled so

-- the steps that follow n steps are those of lines, the first of which comes behind a line of this step
record Spells (format : Format) (n : ℕ) (last : Option Step) (bytes : List ℕ) (x : List Step × List ℕ) : Type 0 where
  pub ls : List Line
  pub are : AreLines format last ls
  pub steps : x.0 ≡ all_steps ls
  pub within : n + length (all_steps ls) ≤ 1000000
  pub is : bytes ≡ flat_map (line_text format) ls ++ (count_line (n + length (all_steps ls)) ++ x.1)

ending_spells : (format : Format) (k n : ℕ) (last : Option Step) (bytes : List ℕ) (x : List Step × List ℕ) → n ≤ 1000000 → ending k (count_at n bytes) ≡ Ok x → Spells format n last bytes x
ending_spells format k n last bytes x few e = of (count_at n bytes) refl e
  where
    of : (o : Option (List ℕ)) → count_at n bytes ≡ o → ending k o ≡ Ok x → Spells format n last bytes x
    of None is e = absurd cc
    of (Some rest) is e =
        let made : ([], rest) ≡ x = cc in
        let same : n + length {A = Step} [] ≡ n = omega arith in
        subst (Spells format n last bytes) made
        (record { ls = []; are = tt; steps = refl; within = omega (arith, few); is = count_takes n bytes rest is ∙ ap (λ (m : ℕ). count_line m ++ rest) (sym same) })

with_line_ok : (l : Line) (r : Result (List Step × List ℕ) ℕ) (x : List Step × List ℕ) → with_line l r ≡ Ok x → (y : List Step × List ℕ) × (r ≡ Ok y) × ((replicate l.1 l.0 ++ y.0, y.1) ≡ x)
with_line_ok (s, n) (Ok y) x e = (y, refl, cc)
with_line_ok (s, n) (Err line) x e = absurd cc

line_spells : (format : Format) (n : ℕ) (last : Option Step) (bytes : List ℕ) (first : Line × List ℕ) (x y : List Step × List ℕ) → line_at format (1000000 - n) last bytes ≡ Some first → Spells format (n + first.0.1) (Some first.0.0) first.1 y → (replicate first.0.1 first.0.0 ++ y.0, y.1) ≡ x
    → Spells format n last bytes x
line_spells format n last bytes ((s, c), rest) x y is more made =
    let took = line_takes format (1000000 - n) last bytes ((s, c), rest) (small_room n) is in
    let long = first_length s c more.ls in
    let within = more.within in
    let same : (n + c) + length (all_steps more.ls) ≡ n + length (all_steps ((s, c) ∷ more.ls)) = omega (arith, long) in
    subst (Spells format n last bytes) made
    (record {
      ls = (s, c) ∷ more.ls;
      are = (took.fits, took.apart, more.are);
      steps = ap (λ (t : List Step). replicate c s ++ t) more.steps;
      within = omega (arith, within, same);
      is = took.is ∙ ap (λ (t : List ℕ). line_text format (s, c) ++ t) (more.is ∙ ap (λ (m : ℕ). flat_map (line_text format) more.ls ++ (count_line m ++ y.1)) same) ∙ sym (first_text format (s, c) more.ls _);
    })

lines_take : (format : Format) (most k n : ℕ) (last : Option Step) (bytes : List ℕ) (x : List Step × List ℕ) → n ≤ 1000000 → lines_at format most k n last bytes ≡ Ok x → Spells format n last bytes x
unfolding lines_at
lines_take format zero k n last bytes x few e = ending_spells format k n last bytes x few e
lines_take format (suc most) k n last bytes x few e = of (λ l bs y le h. lines_take format most (suc k) (n + l.1) (Some l.0) bs y le h) (line_at format (1000000 - n) last bytes) refl e
  where
    of : ((l : Line) (bs : List ℕ) (y : List Step × List ℕ) → n + l.1 ≤ 1000000 → lines_at format most (suc k) (n + l.1) (Some l.0) bs ≡ Ok y → Spells format (n + l.1) (Some l.0) bs y) → (o : Option (Line × List ℕ)) → line_at format (1000000 - n) last bytes ≡ o
        → either o (λ l rest. with_line l (lines_at format most (suc k) (n + l.1) (Some l.0) rest)) (ending k (count_at n bytes)) ≡ Ok x → Spells format n last bytes x
    of later None is e = ending_spells format k n last bytes x few e
    of later (Some first) is e =
        let y = with_line_ok first.0 (lines_at format most (suc k) (n + first.0.1) (Some first.0.0) first.1) x e in
        let took = line_takes format (1000000 - n) last bytes first (small_room n) is in
        let small = took.small in
        line_spells format n last bytes first x y.0 is (later first.0 first.1 y.0 (omega (arith, small, few)) y.1) y.2

-- ---- what is spelled so is read

lines_read : (format : Format) (ls : List Line) (most k n : ℕ) (last : Option Step) (rest : List ℕ) → AreLines format last ls → length ls ≤ most → n + length (all_steps ls) ≤ 1000000
    → lines_at format most k n last (flat_map (line_text format) ls ++ (count_line (n + length (all_steps ls)) ++ rest)) ≡ Ok (all_steps ls, rest)
unfolding lines_at
lines_read format [] zero k n last rest are le few =
    let same : n + length (all_steps []) ≡ n = omega arith in
    rw (same, count_again n rest (omega (arith, few))) refl
lines_read format [] (suc most) k n last rest are le few =
    let same : n + length (all_steps []) ≡ n = omega arith in
    rw (same, no_line format (1000000 - n) last n rest, count_again n rest (omega (arith, few))) refl
lines_read format (l ∷ ls) zero k n last rest are le few = absurd (omega (arith, le))
lines_read format ((s, c) ∷ ls) (suc most) k n last rest are le few =
    let long = first_length s c ls in
    let same : n + length (all_steps ((s, c) ∷ ls)) ≡ (n + c) + length (all_steps ls) = omega (arith, long) in
    let behind = count_line ((n + c) + length (all_steps ls)) ++ rest in
    let whole = ap (λ (m : ℕ). flat_map (line_text format) ((s, c) ∷ ls) ++ (count_line m ++ rest)) same ∙ first_text format (s, c) ls behind in
    let next = line_again format (1000000 - n) last (s, c) (flat_map (line_text format) ls ++ behind) (small_room n) are.0 are.1 (omega (arith, few, long)) in
    let later = lines_read format ls most (suc k) (n + c) (Some s) rest are.2 (omega (arith, le)) (omega (arith, few, long)) in
    ap (lines_at format (suc most) k n last) whole ∙ rw (next, later) refl

-- no line stands for no step
few_lines : (format : Format) (last : Option Step) (ls : List Line) → AreLines format last ls → length ls ≤ length (all_steps ls)
few_lines format last [] are = omega arith
few_lines format last ((s, n) ∷ ls) are =
    let long = first_length s n ls in
    let rest = few_lines format (Some s) ls are.2 in
    let some = are.0.1 in
    omega (arith, long, rest, some)

-- ---- a fault is the first one

-- behind these lines stands none that may come next
record Stops (format : Format) (k n : ℕ) (last : Option Step) (bytes : List ℕ) (line : ℕ) : Type 0 where
  pub before : List Line
  pub rest : List ℕ
  pub are : AreLines format last before
  pub within : n + length (all_steps before) ≤ 1000000
  pub number : line ≡ (k + length before) + 2
  pub parts : bytes ≡ flat_map (line_text format) before ++ rest
  pub no_count : count_at (n + length (all_steps before)) rest ≡ None
  pub no_next : line_at format (1000000 - (n + length (all_steps before))) (last_after last before) rest ≡ None

ending_stops : (format : Format) (k n : ℕ) (last : Option Step) (bytes : List ℕ) (line : ℕ) → n ≤ 1000000 → line_at format (1000000 - n) last bytes ≡ None → ending k (count_at n bytes) ≡ Err line → Stops format k n last bytes line
ending_stops format k n last bytes line few none e = of (count_at n bytes) refl e
  where
    of : (o : Option (List ℕ)) → count_at n bytes ≡ o → ending k o ≡ Err line → Stops format k n last bytes line
    of None is e =
        let same : n + length (all_steps []) ≡ n = omega arith in
        let line_is : k + 2 ≡ line = cc in
        let number : line ≡ (k + length {A = Line} []) + 2 = omega (arith, line_is) in
        record {
          before = [];
          rest = bytes;
          are = tt;
          within = omega (arith, few);
          number = number;
          parts = refl;
          no_count = ap (λ (m : ℕ). count_at m bytes) same ∙ is;
          no_next = ap (λ (m : ℕ). line_at format (1000000 - m) last bytes) same ∙ none;
        }
    of (Some rest) is e = absurd cc

with_line_err : (l : Line) (r : Result (List Step × List ℕ) ℕ) (line : ℕ) → with_line l r ≡ Err line → r ≡ Err line
with_line_err (s, n) (Ok y) line e = absurd cc
with_line_err (s, n) (Err other) line e = cc

line_stops : (format : Format) (k n : ℕ) (last : Option Step) (bytes : List ℕ) (first : Line × List ℕ) (line : ℕ) → line_at format (1000000 - n) last bytes ≡ Some first → Stops format (suc k) (n + first.0.1) (Some first.0.0) first.1 line → Stops format k n last bytes line
line_stops format k n last bytes ((s, c), rest) line is more =
    let took = line_takes format (1000000 - n) last bytes ((s, c), rest) (small_room n) is in
    let long = first_length s c more.before in
    let within = more.within in
    let number = more.number in
    let same : n + length (all_steps ((s, c) ∷ more.before)) ≡ (n + c) + length (all_steps more.before) = omega (arith, long) in
    record {
      before = (s, c) ∷ more.before;
      rest = more.rest;
      are = (took.fits, took.apart, more.are);
      within = omega (arith, within, same);
      number = omega (arith, number);
      parts = took.is ∙ ap (λ (t : List ℕ). line_text format (s, c) ++ t) more.parts ∙ sym (first_text format (s, c) more.before more.rest);
      no_count = ap (λ (m : ℕ). count_at m more.rest) same ∙ more.no_count;
      no_next = ap (λ (m : ℕ). line_at format (1000000 - m) (last_after (Some s) more.before) more.rest) same ∙ more.no_next;
    }

lines_stop : (format : Format) (most k n : ℕ) (last : Option Step) (bytes : List ℕ) (line : ℕ) → n ≤ 1000000 → 1000000 ≤ most + n → lines_at format most k n last bytes ≡ Err line → Stops format k n last bytes line
unfolding lines_at
lines_stop format zero k n last bytes line few all e =
    let full : 1000000 - n ≡ 0 = omega (arith, all) in
    ending_stops format k n last bytes line few (ap (λ (m : ℕ). line_at format m last bytes) full ∙ no_room format last bytes) e
lines_stop format (suc most) k n last bytes line few all e =
    of (λ l bs le more h. lines_stop format most (suc k) (n + l.1) (Some l.0) bs line le more h) (line_at format (1000000 - n) last bytes) refl e
  where
    of : ((l : Line) (bs : List ℕ) → n + l.1 ≤ 1000000 → 1000000 ≤ most + (n + l.1) → lines_at format most (suc k) (n + l.1) (Some l.0) bs ≡ Err line → Stops format (suc k) (n + l.1) (Some l.0) bs line) → (o : Option (Line × List ℕ)) → line_at format (1000000 - n) last bytes ≡ o
        → either o (λ l rest. with_line l (lines_at format most (suc k) (n + l.1) (Some l.0) rest)) (ending k (count_at n bytes)) ≡ Err line → Stops format k n last bytes line
    of later None is e = ending_stops format k n last bytes line few is e
    of later (Some first) is e =
        let took = line_takes format (1000000 - n) last bytes first (small_room n) is in
        let small = took.small in
        let some = took.fits.1 in
        let more = later first.0 first.1 (omega (arith, small, few)) (omega (arith, all, some)) (with_line_err first.0 (lines_at format most (suc k) (n + first.0.1) (Some first.0.0) first.1) line e) in
        line_stops format k n last bytes first line is more

-- where a fault is told, nothing else is read
stops_read : (format : Format) (before : List Line) (most k n line : ℕ) (last : Option Step) (rest : List ℕ) → AreLines format last before → length before ≤ most → n + length (all_steps before) ≤ 1000000
    → count_at (n + length (all_steps before)) rest ≡ None → line_at format (1000000 - (n + length (all_steps before))) (last_after last before) rest ≡ None → line ≡ (k + length before) + 2
    → lines_at format most k n last (flat_map (line_text format) before ++ rest) ≡ Err line
unfolding lines_at
stops_read format [] zero k n line last rest are le few no_count no_next number =
    let same : n + length (all_steps []) ≡ n = omega arith in
    let is : line ≡ k + 2 = omega (arith, number) in
    rw (is, ap (λ (m : ℕ). count_at m rest) (sym same) ∙ no_count) refl
stops_read format [] (suc most) k n line last rest are le few no_count no_next number =
    let same : n + length (all_steps []) ≡ n = omega arith in
    let is : line ≡ k + 2 = omega (arith, number) in
    rw (is, ap (λ (m : ℕ). line_at format (1000000 - m) last rest) (sym same) ∙ no_next, ap (λ (m : ℕ). count_at m rest) (sym same) ∙ no_count) refl
stops_read format (l ∷ before) zero k n line last rest are le few no_count no_next number = absurd (omega (arith, le))
stops_read format ((s, c) ∷ before) (suc most) k n line last rest are le few no_count no_next number =
    let long = first_length s c before in
    let same : (n + c) + length (all_steps before) ≡ n + length (all_steps ((s, c) ∷ before)) = omega (arith, long) in
    let next = line_again format (1000000 - n) last (s, c) (flat_map (line_text format) before ++ rest) (small_room n) are.0 are.1 (omega (arith, few, long)) in
    let later =
    stops_read format before most (suc k) (n + c) line (Some s) rest are.2 (omega (arith, le)) (omega (arith, few, long)) (ap (λ (m : ℕ). count_at m rest) same ∙ no_count)
    (ap (λ (m : ℕ). line_at format (1000000 - m) (last_after (Some s) before) rest) same ∙ no_next) (omega (arith, number)) in
    ap (lines_at format (suc most) k n last) (first_text format (s, c) before rest) ∙ rw (next, later) refl

-- ---- the whole record

spelled : (format : Format) (ls : List Line) (rest : List ℕ) → AreLines format None ls → spelling format (all_steps ls) ++ rest ≡ head_line format ++ (flat_map (line_text format) ls ++ (count_line (length (all_steps ls)) ++ rest))
spelled format ls rest are =
    regroup (head_line format) (flat_map (line_text format) (lines format (all_steps ls))) (count_line (length (all_steps ls))) rest
    ∙ ap (λ (t : List Line). head_line format ++ (flat_map (line_text format) t ++ (count_line (length (all_steps ls)) ++ rest))) (lines_again format None ls are)

-- the heads differ
other_head : (rest : List ℕ) → after (head_line One) (head_line Two ++ rest) ≡ None
unfolding after
other_head rest = refl

-- what stands behind the head of a format decides
headed : (format : Format) (rest : List ℕ) → record_at (head_line format ++ rest) ≡ lines_at format 1000000 0 0 None rest
unfolding record_at
headed One rest = rw (after_again (head_line One) rest) refl
headed Two rest = rw (other_head rest, after_again (head_line Two) rest) refl

-- the format of a record, and what stands behind its head; or there is no head
data Headed (text : List ℕ) : Type 0 where
  has_head : (format : Format) (rest : List ℕ) → text ≡ head_line format ++ rest → Headed text
  no_head : ((format : Format) (more : List ℕ) → text ≢ head_line format ++ more) → record_at text ≡ Err 1 → Headed text

head_of : (text : List ℕ) → Headed text
unfolding record_at
head_of text = on (after (head_line One) text) refl (after (head_line Two) text) refl
  where
    on : (a : Option (List ℕ)) → after (head_line One) text ≡ a → (b : Option (List ℕ)) → after (head_line Two) text ≡ b → Headed text
    on (Some rest) is b other = has_head One rest (after_takes (head_line One) text rest is)
    on None is (Some rest) other = has_head Two rest (after_takes (head_line Two) text rest other)
    on None is None other = no_head none (rw (is, other) refl)
      where
        none : (format : Format) (more : List ℕ) → text ≢ head_line format ++ more
        none One more e = let there : after (head_line One) text ≡ Some more = ap (after (head_line One)) e ∙ after_again (head_line One) more in cc
        none Two more e = let there : after (head_line Two) text ≡ Some more = ap (after (head_line Two)) e ∙ after_again (head_line Two) more in cc

-- the text begins with the record of these steps, of some format
abbrev pub Takes : List ℕ → List Step × List ℕ → Type 0
Takes text x = AreSteps x.0 × ((format : Format) × (text ≡ spelling format x.0 ++ x.1))

pub record_takes : (text : List ℕ) (x : List Step × List ℕ) → record_at text ≡ Ok x → Takes text x
record_takes text x e = of (head_of text)
  where
    of : Headed text → Takes text x
    of (no_head none err) = absurd (cc (err, e))
    of (has_head format rest is) =
        let read : lines_at format 1000000 0 0 None rest ≡ Ok x = sym (ap record_at is ∙ headed format rest) ∙ e in
        let s = lines_take format 1000000 0 0 None rest x (omega arith) read in
        let within = s.within in
        let zero_is : 0 + length (all_steps s.ls) ≡ length (all_steps s.ls) = omega arith in
        let text_is : text ≡ spelling format (all_steps s.ls) ++ x.1 =
        is ∙ ap (λ (t : List ℕ). head_line format ++ t) (s.is ∙ ap (λ (m : ℕ). flat_map (line_text format) s.ls ++ (count_line m ++ x.1)) zero_is) ∙ sym (spelled format s.ls x.1 s.are) in
        subst (λ (t : List Step). AreSteps t × ((f : Format) × (text ≡ spelling f t ++ x.1))) (sym s.steps) ((omega (arith, within, zero_is), lines_in_bounds format None s.ls s.are), (format, text_is))

-- the lines of these steps
module _ (format : Format) (steps : List Step) (are : AreSteps steps) where
  are_lines : AreLines format None (lines format steps)
  are_lines = lines_are format steps are.1

  as_many : length (all_steps (lines format steps)) ≡ length steps
  as_many = ap length (steps_again format steps)

  enough : length (lines format steps) ≤ 1000000
  enough =
      let few = few_lines format None (lines format steps) are_lines in
      let all = as_many in
      let within = are.0 in
      omega (arith, few, all, within)

pub record_again : (format : Format) (steps : List Step) (rest : List ℕ) → AreSteps steps → record_at (spelling format steps ++ rest) ≡ Ok (steps, rest)
record_again format steps rest are =
    let ls = lines format steps in
    let within = are.0 in
    let all = as_many format steps are in
    let zero_is : 0 + length (all_steps ls) ≡ length steps = omega (arith, all) in
    let read = lines_read format ls 1000000 0 0 None rest (are_lines format steps are) (enough format steps are) (omega (arith, all, within)) in
    ap record_at (regroup (head_line format) (flat_map (line_text format) ls) (count_line (length steps)) rest)
    ∙ headed format (flat_map (line_text format) ls ++ (count_line (length steps) ++ rest))
    ∙ ap (λ (m : ℕ). lines_at format 1000000 0 0 None (flat_map (line_text format) ls ++ (count_line m ++ rest))) (sym zero_is)
    ∙ read
    ∙ ap (λ (t : List Step). Ok (t, rest)) (steps_again format steps)

-- ---- what may come next

all_steps-append : (ls more : List Line) → all_steps (ls ++ more) ≡ all_steps ls ++ all_steps more
all_steps-append [] more = refl
all_steps-append (l ∷ ls) more = ap (λ (t : List Step). replicate l.1 l.0 ++ t) (all_steps-append ls more) ∙ sym (append_assoc (replicate l.1 l.0) (all_steps ls) (all_steps more))

-- one line more
more_length : (ls : List Line) (s : Step) (n : ℕ) → length (all_steps (ls ++ (s, n) ∷ [])) ≡ length (all_steps ls) + n
more_length ls s n =
    let whole = ap length (all_steps-append ls ((s, n) ∷ [])) ∙ length-append (all_steps ls) (all_steps ((s, n) ∷ [])) in
    let one = first_length s n [] in
    omega (arith, whole, one)

last_line : (format : Format) (last : Option Step) (ls : List Line) (l : Line) → AreLines format last (ls ++ l ∷ []) → Fits format l × (joins_last format (last_after last ls) l.0 ≡ false)
last_line format last [] (s, n) are = (are.0, are.1)
last_line format last ((t, m) ∷ ls) l are = last_line format (Some t) ls l are.2

more_lines : (format : Format) (last : Option Step) (ls : List Line) (l : Line) → AreLines format last ls → Fits format l → joins_last format (last_after last ls) l.0 ≡ false → AreLines format last (ls ++ l ∷ [])
more_lines format last [] (s, n) are fits apart = (fits, apart, tt)
more_lines format last ((t, m) ∷ ls) l are fits apart = (are.0, are.1, more_lines format (Some t) ls l are.2 fits apart)

-- behind the lines of these steps none may come where none is read
none_next : (format : Format) (ls : List Line) (steps : List Step) (rest : List ℕ) → lines format steps ≡ ls → length steps ≡ length (all_steps ls) → length steps ≤ 1000000 → count_at (length steps) rest ≡ None
    → line_at format (1000000 - length steps) (last_after None ls) rest ≡ None → (next more : List ℕ) → MayFollow format steps next → rest ≢ next ++ more
none_next format ls steps rest same long few no_count no_next next more (inl (after, (s, n), are, is, text)) e =
    let whole : lines format after ≡ ls ++ (s, n) ∷ [] = is ∙ ap (λ (t : List Line). t ++ (s, n) ∷ []) same in
    let last = last_line format None ls (s, n) (subst (AreLines format None) whole (lines_are format after are.1)) in
    let count = sym (ap length (steps_again format after)) ∙ ap (λ (t : List Line). length (all_steps t)) whole ∙ more_length ls s n in
    let within = are.0 in
    let read = line_again format (1000000 - length steps) (last_after None ls) (s, n) more (small_room (length steps)) last.0 last.1 (omega (arith, count, within, long)) in
    let there : line_at format (1000000 - length steps) (last_after None ls) rest ≡ Some ((s, n), more) = ap (line_at format (1000000 - length steps) (last_after None ls)) (e ∙ ap (λ (t : List ℕ). t ++ more) text) ∙ read in
    cc
none_next format ls steps rest same long few no_count no_next next more (inr is) e =
    let read : count_at (length steps) rest ≡ Some more = ap (count_at (length steps)) (e ∙ ap (λ (t : List ℕ). t ++ more) is) ∙ count_again (length steps) more few in
    cc

-- ---- the first fault

pub record_faults : (text : List ℕ) (line : ℕ) → record_at text ≡ Err line → IsFault text line
record_faults text line e = of (head_of text)
  where
    of : Headed text → IsFault text line
    of (no_head none err) = inl (let same : 1 ≡ line = cc in sym same, none)
    of (has_head format rest is) =
        let read : lines_at format 1000000 0 0 None rest ≡ Err line = sym (ap record_at is ∙ headed format rest) ∙ e in
        let s = lines_stop format 1000000 0 0 None rest line (omega arith) (omega arith) read in
        let within = s.within in
        let same = lines_again format None s.before s.are in
        let zero_is : 0 + length (all_steps s.before) ≡ length (all_steps s.before) = omega arith in
        let number : line ≡ length s.before + 2 = (let n = s.number in omega (arith, n)) in
        inr (record {
          format = format;
          before = all_steps s.before;
          rest = s.rest;
          are_steps = (omega (arith, within, zero_is), lines_in_bounds format None s.before s.are);
          number = number ∙ ap (λ (t : List Line). length t + 2) (sym same);
          parts = is ∙ ap (λ (t : List ℕ). head_line format ++ t) (s.parts ∙ ap (λ (t : List Line). flat_map (line_text format) t ++ s.rest) (sym same)) ∙ sym (append_assoc (head_line format) (flat_map (line_text format) (lines format (all_steps s.before))) s.rest);
          none = none_next format s.before (all_steps s.before) s.rest same refl (omega (arith, within, zero_is)) (ap (λ (m : ℕ). count_at m s.rest) (sym zero_is) ∙ s.no_count)
              (ap (λ (m : ℕ). line_at format (1000000 - m) (last_after None s.before) s.rest) (sym zero_is) ∙ s.no_next);
        })

-- what stands behind a fault's lines is neither the number of the steps nor a further line
module _ (text : List ℕ) (line : ℕ) (f : IsFirstFault text line) where
  no_count_there : count_at (length f.before) f.rest ≡ None
  no_count_there = of (count_at (length f.before) f.rest) refl
    where
      of : (o : Option (List ℕ)) → count_at (length f.before) f.rest ≡ o → o ≡ None
      of None is = refl
      of (Some more) is = absurd (f.none (count_line (length f.before)) more (inr refl) (count_takes (length f.before) f.rest more is))

  no_line_there : line_at f.format (1000000 - length f.before) (last_after None (lines f.format f.before)) f.rest ≡ None
  no_line_there = of (line_at f.format (1000000 - length f.before) (last_after None (lines f.format f.before)) f.rest) refl
    where
      of : (o : Option (Line × List ℕ)) → line_at f.format (1000000 - length f.before) (last_after None (lines f.format f.before)) f.rest ≡ o → o ≡ None
      of None is = refl
      of (Some ((s, n), more)) is =
          let took = line_takes f.format (1000000 - length f.before) (last_after None (lines f.format f.before)) f.rest ((s, n), more) (small_room (length f.before)) is in
          let are = more_lines f.format None (lines f.format f.before) (s, n) (are_lines f.format f.before f.are_steps) took.fits took.apart in
          let count = more_length (lines f.format f.before) s n in
          let all = as_many f.format f.before f.are_steps in
          let small = took.small in
          let within = f.are_steps.0 in
          absurd (f.none (line_text f.format (s, n)) more
          (inl (all_steps (lines f.format f.before ++ (s, n) ∷ []), (s, n), (omega (arith, count, all, small, within), lines_in_bounds f.format None (lines f.format f.before ++ (s, n) ∷ []) are), lines_again f.format None (lines f.format f.before ++ (s, n) ∷ []) are, refl))
          took.is)

pub record_faulted : (text : List ℕ) (line : ℕ) → IsFault text line → record_at text ≡ Err line
record_faulted text line (inl f) = of (head_of text)
  where
    of : Headed text → record_at text ≡ Err line
    of (has_head format rest is) = absurd (f.1 format rest is)
    of (no_head none err) = err ∙ ap (λ (k : ℕ). Err k) (sym f.0)
record_faulted text line (inr f) =
    let ls = lines f.format f.before in
    let all = as_many f.format f.before f.are_steps in
    let within = f.are_steps.0 in
    let number = f.number in
    let same : 0 + length (all_steps ls) ≡ length f.before = omega (arith, all) in
    let read =
    stops_read f.format ls 1000000 0 0 line None f.rest (are_lines f.format f.before f.are_steps) (enough f.format f.before f.are_steps) (omega (arith, same, within)) (ap (λ (m : ℕ). count_at m f.rest) same ∙ no_count_there text line f)
    (ap (λ (m : ℕ). line_at f.format (1000000 - m) (last_after None ls) f.rest) same ∙ no_line_there text line f) (omega (arith, number)) in
    ap record_at (f.parts ∙ append_assoc (head_line f.format) (flat_map (line_text f.format) ls) f.rest) ∙ headed f.format (flat_map (line_text f.format) ls ++ f.rest) ∙ read

-- ---- one record

-- the heads tell the formats apart
same_format : (f g : Format) (ours theirs : List ℕ) → head_line f ++ ours ≡ head_line g ++ theirs → f ≡ g
same_format One One ours theirs e = refl
same_format Two Two ours theirs e = refl
same_format One Two ours theirs e =
    let here : after (head_line One) (head_line One ++ ours) ≡ Some ours = after_again (head_line One) ours in
    let there : after (head_line One) (head_line One ++ ours) ≡ None = ap (after (head_line One)) e ∙ other_head theirs in
    absurd (cc (here, there))
same_format Two One ours theirs e =
    let here : after (head_line One) (head_line One ++ theirs) ≡ Some theirs = after_again (head_line One) theirs in
    let there : after (head_line One) (head_line One ++ theirs) ≡ None = ap (after (head_line One)) (sym e) ∙ other_head ours in
    absurd (cc (here, there))

pub one_record : (text : List ℕ) (f g : Format) (ours theirs : List Step) (ours_behind theirs_behind : List ℕ) → AreSteps ours → AreSteps theirs → text ≡ spelling f ours ++ ours_behind → text ≡ spelling g theirs ++ theirs_behind
    → (f ≡ g) × (ours ≡ theirs) × (ours_behind ≡ theirs_behind)
one_record text f g ours theirs ours_behind theirs_behind are others is also =
    let first : record_at text ≡ Ok (ours, ours_behind) = ap record_at is ∙ record_again f ours ours_behind are in
    let second : record_at text ≡ Ok (theirs, theirs_behind) = ap record_at also ∙ record_again g theirs theirs_behind others in
    let both : ◌≡◌ {A = Result (List Step × List ℕ) ℕ} (Ok (ours, ours_behind)) (Ok (theirs, theirs_behind)) = sym first ∙ second in
    let same : ◌≡◌ {A = List Step × List ℕ} (ours, ours_behind) (theirs, theirs_behind) = cc in
    let whole = sym (regroup (head_line f) (flat_map (line_text f) (lines f ours)) (count_line (length ours)) ours_behind) ∙ sym is ∙ also ∙ regroup (head_line g) (flat_map (line_text g) (lines g theirs)) (count_line (length theirs)) theirs_behind in
    (same_format f g _ _ whole, ap (λ (x : List Step × List ℕ). x.0) same, ap (λ (x : List Step × List ℕ). x.1) same)

-- ---- the clauses of read_record

-- the end is where the rest begins
rest_is : (text spelled rest : List ℕ) → text ≡ spelled ++ rest → (length text - length rest ≡ length spelled) × (drop (length text - length rest) text ≡ rest)
rest_is text spelled rest e =
    let len : length text ≡ length spelled + length rest = ap length e ∙ length-append spelled rest in
    let k : length text - length rest ≡ length spelled = omega arith in
    (k, rw (k, e) (drop_at spelled rest (length spelled) refl))

pub is_within : (text : List ℕ) (x : List Step × List ℕ) → record_at text ≡ Ok x → length x.1 ≤ length text
is_within text x e =
    let t = record_takes text x e in
    let len = ap length t.1.1 ∙ length-append (spelling t.1.0 x.0) x.1 in
    omega (arith, len)

-- what is answered where this is read
abbrev pub reading_of : List ℕ → List Step × List ℕ → Reading
reading_of text x = record { steps = x.0; end = length text - length x.1 }

pub is_found : (text : List ℕ) (x : List Step × List ℕ) → record_at text ≡ Ok x → BeginsWith text (reading_of text x)
is_found text x e =
    let t = record_takes text x e in
    let r = rest_is text (spelling t.1.0 x.0) x.1 t.1.1 in
    (t.0, (t.1.0, (r.0, t.1.1 ∙ ap (λ (rest : List ℕ). spelling t.1.0 x.0 ++ rest) (sym r.1))))

pub is_read : (text : List ℕ) (x : List Step × List ℕ) (format : Format) (steps : List Step) (rest : List ℕ) → record_at text ≡ Ok x → AreSteps steps → text ≡ spelling format steps ++ rest → reading_of text x ≡ record { steps = steps; end = length (spelling format steps) }
is_read text x format steps rest e are is =
    let again : record_at text ≡ Ok (steps, rest) = ap record_at is ∙ record_again format steps rest are in
    let same : x ≡ (steps, rest) = cc in
    ap (reading_of text) same ∙ ap (λ (k : ℕ). record { steps = steps; end = k }) (rest_is text (spelling format steps) rest is).0

pub is_not_faulted : (text : List ℕ) (x : List Step × List ℕ) (line : ℕ) → record_at text ≡ Ok x → IsFault text line → ⊥
is_not_faulted text x line e f = let other : record_at text ≡ Err line = record_faulted text line f in cc

pub is_refused : {X : Type 0} (text : List ℕ) (e : RecordError) (wanted : Result X RecordError) (format : Format) (steps : List Step) (rest : List ℕ) → Fails e (record_at text) → AreSteps steps → text ≡ spelling format steps ++ rest → IsOrMemory (Err e) wanted
is_refused text errors.Memory wanted format steps rest fails are is = inr refl
is_refused text (errors.BadLine line) wanted format steps rest fails are is =
    let again : record_at text ≡ Ok (steps, rest) = ap record_at is ∙ record_again format steps rest are in
    absurd (cc (again, fails))

pub is_fault : {X : Type 0} (text : List ℕ) (e : RecordError) (line : ℕ) → Fails e (record_at text) → IsErrOf {T = X} (Err e) (errors.BadLine line) → IsFault text line
is_fault text errors.Memory line fails is = absurd cc
is_fault text (errors.BadLine l) line fails is =
    let same : l ≡ line = cc in
    record_faults text line (fails ∙ ap (λ (k : ℕ). Err k) same)

pub is_faulted : {X : Type 0} (text : List ℕ) (e : RecordError) (line : ℕ) → Fails e (record_at text) → IsFault text line → IsOrMemory {X = X} (Err e) (Err (errors.BadLine line))
is_faulted text errors.Memory line fails f = inr refl
is_faulted text (errors.BadLine l) line fails f =
    let read : record_at text ≡ Err line = record_faulted text line f in
    let same : l ≡ line = cc in
    inl (ap (λ (k : ℕ). Err (errors.BadLine k)) same)
