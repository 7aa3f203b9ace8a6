-- What a step adds.
use Rattle.std.proofs.Common.{◌≡◌, ℕ, ap, refl, sym, ◌∙◌, List, ◌++◌, length, inl, inr, true≢false}
use Rattle.std.specs.Prelude.{Bool, true, false, ◌||◌, Option, None}
use Rattle.std.specs.Option.{option_to_list}
use Rattle.std.proofs.lemmas.Bool.{or_cases}
use Rattle.std.proofs.lemmas.List.{append-nil}
use Rattle.cell_base.specs.declared.steps.Step.{Step}
use Rattle.cell_machine.specs.declared.effect.Effect.{Effect}
use Rattle.unwritten_reads.specs.declared.range.ByteRange.{ByteRange}
use Rattle.unwritten_reads.specs.declared.reads.UnwrittenReads.{UnwrittenReads}
use Rattle.unwritten_reads.specs.declared.unwritten.Unwritten.{Unwritten}
use Rattle.unwritten_reads.specs.ByMarks.{IsUnwrittenBy}
use Rattle.unwritten_reads.specs.Keeping.{Adds}
use Rattle.unwritten_reads.specs.Marks.{is_marked}
use Rattle.unwritten_reads.specs.Ranges.{IsInside, in_range, number, range_of}
use Rattle.unwritten_reads.proofs.Spans.{has-not, none-of, range-is}

absorbed : (a b : Bool) → (b ≡ true → a ≡ true) → a ≡ (a || b)
absorbed true b h = refl
absorbed false true h = h refl
absorbed false false h = refl

or-assoc : (a b c : Bool) → ((a || b) || c) ≡ (a || (b || c))
or-assoc true b c = refl
or-assoc false b c = refl

-- all bytes of the range are marked
abbrev pub AreMarked : List ℕ → ByteRange → Type 0
AreMarked marks r = (b : ℕ) → in_range r b ≡ true → is_marked marks b ≡ true

-- a step that touches only marked bytes adds nothing
adds-nothing : (s : Step) (e : Effect) (place : ℕ) (old : UnwrittenReads) → IsUnwrittenBy old.known s e.reads place None → AreMarked old.known.marks (range_of e.reads) → AreMarked old.known.marks (range_of e.writes) → Adds s e place old old
adds-nothing s e place old none reads writes = record {
  unwritten = None;
  is = none;
  found = sym (append-nil old.found.items);
  long = refl;
  marks = λ b. absorbed (is_marked old.known.marks b) (in_range (range_of e.reads) b || in_range (range_of e.writes) b)
      (λ is. elim (or_cases (in_range (range_of e.reads) b) (in_range (range_of e.writes) b) is) [ inl r ↦ reads b r | inr w ↦ writes b w ]);
}

pub adds-none : (s : Step) (e : Effect) (place : ℕ) (old : UnwrittenReads) → e.reads.len ≡ 0 → e.writes.len ≡ 0 → Adds s e place old old
adds-none s e place old reads writes =
    adds-nothing s e place old (λ p at unwritten. has-not e.reads p at reads unwritten.read) (λ b is. absurd (true≢false (sym is ∙ none-of e.reads b reads)))
    (λ b is. absurd (true≢false (sym is ∙ none-of e.writes b writes)))

pub adds-known : (s : Step) (e : Effect) (place : ℕ) (old : UnwrittenReads) → IsInside (length old.known.marks) e.reads → AreMarked old.known.marks (range_of e.reads) → AreMarked old.known.marks (range_of e.writes) → Adds s e place old old
adds-known s e place old inside reads writes =
    adds-nothing s e place old
    (λ p at unwritten. true≢false (sym (reads (number p at) (range-is (length old.known.marks) e.reads inside p at (inside p at unwritten.read).1 ∙ unwritten.read)) ∙ unwritten.unknown)) reads writes

pub adds-new : (s : Step) (e : Effect) (place : ℕ) (old : UnwrittenReads) (unwritten : Option Unwritten) → IsUnwrittenBy old.known s e.reads place unwritten → (one two : List ℕ) (reads writes : ByteRange) → reads ≡ range_of e.reads → writes ≡ range_of e.writes
    → length one ≡ length old.known.marks → length two ≡ length one → ((b : ℕ) → is_marked one b ≡ (is_marked old.known.marks b || in_range reads b)) → ((b : ℕ) → is_marked two b ≡ (is_marked one b || in_range writes b)) → (new : UnwrittenReads)
    → new.found.items ≡ old.found.items ++ option_to_list unwritten → new.known.marks ≡ two → Adds s e place old new
adds-new s e place old unwritten is one two reads writes reads_is writes_is long_one long_two marked_one marked_two new found now = record {
  unwritten = unwritten;
  is = is;
  found = found;
  long = ap length now ∙ long_two ∙ long_one;
  marks = λ b.
      ap (λ xs. is_marked xs b) now ∙ marked_two b ∙ ap (λ t. t || in_range writes b) (marked_one b) ∙ or-assoc (is_marked old.known.marks b) (in_range reads b) (in_range writes b)
      ∙ ap (λ r. is_marked old.known.marks b || (in_range r b || in_range writes b)) reads_is
      ∙ ap (λ r. is_marked old.known.marks b || (in_range (range_of e.reads) b || in_range r b)) writes_is;
}
