-- The lines of a listing, found line by line.
use Rattle.std.proofs.Common.{◌≡◌, ℕ, List, [], ◌∷◌, ◌++◌, Result, Ok, Err, refl, sym, ap, ◌∙◌, subst, append_assoc}
use Rattle.std.specs.Global.{Vec}
use Rattle.std.proofs.lemmas.List.{append-nil}
use Rattle.spu_asm.specs.declared.error.AsmError.{AsmError}
use Rattle.spu_asm.specs.declared.error.AsmError.TheVariants.{At, Memory}
use Rattle.spu_asm.specs.declared.syntax.ListedLine.{ListedLine}
use Rattle.spu_asm.specs.declared.syntax.Section.TheVariants.{Text}
use Rattle.spu_asm.specs.Assembling.{laid_out, sections_of}
use Rattle.spu_asm.specs.Images.{Image}
use Rattle.spu_asm.specs.Layout.{both_stepped, data_start, places_from, section_end}
use Rattle.spu_asm.specs.Listings.{listed_from, listed_line}
use Rattle.spu_asm.specs.Outcomes.{◌>>=◌, Shows}
use Rattle.spu_asm.specs.Source.{Source, SourceLine}
use Rattle.spu_asm.proofs.ImageLemmas.{image_at, laid_out_by}
use Rattle.spu_asm.proofs.OutcomeLemmas.{bind_ok, ok_is}

-- lines before those that are still found
abbrev pub behind : List ListedLine → Result (List ListedLine) AsmError → Result (List ListedLine) AsmError
behind front read = read >>= λ s. Ok (front ++ s)

pub record Lists (front : List ListedLine) (text_at data_at : ℕ) (lines : List SourceLine) (total : Result (List ListedLine) AsmError) : Type 0 where
  pub is : behind front (listed_from text_at data_at lines) ≡ total

regroup : (front : List ListedLine) (at : ListedLine) (read : Result (List ListedLine) AsmError) → behind front (read >>= λ s. Ok (at ∷ s)) ≡ behind (front ++ at ∷ []) read
regroup front at (Ok s) = ap Ok (simp append_assoc)
regroup front at (Err e) = refl

pub begins : (front : List ListedLine) (text_at data_at : ℕ) (lines : List SourceLine) → front ≡ [] → Lists front text_at data_at lines (listed_from text_at data_at lines)
begins front text_at data_at lines none = record { is = rw none (same (listed_from text_at data_at lines)) }
  where
    same : (r : Result (List ListedLine) AsmError) → behind [] r ≡ r
    same (Ok s) = refl
    same (Err e) = refl

module _ (front : List ListedLine) (text_at data_at : ℕ) (line : SourceLine) (lines : List SourceLine) (total : Result (List ListedLine) AsmError) (so_far : Lists front text_at data_at (line ∷ lines) total) where
  pub goes_on : (next : ℕ × ℕ) → both_stepped text_at data_at line ≡ Ok next → Lists (front ++ listed_line line text_at data_at next ∷ []) next.0 next.1 lines total
  unfolding listed_from
  goes_on next is =
      let here = listed_line line text_at data_at next in
      let one : behind front (listed_from text_at data_at (line ∷ lines)) ≡ behind (front ++ here ∷ []) (listed_from next.0 next.1 lines) = rw is (regroup front here (listed_from next.0 next.1 lines)) in
      record { is = sym one ∙ so_far.is }

  pub wrong : (e : AsmError) → both_stepped text_at data_at line ≡ Err e → total ≡ Err e
  unfolding listed_from
  wrong e is =
      let one : behind front (listed_from text_at data_at (line ∷ lines)) ≡ Err e = rw is refl in
      sym so_far.is ∙ one

pub is_done : (front : List ListedLine) (text_at data_at : ℕ) (lines : List SourceLine) (total : Result (List ListedLine) AsmError) → lines ≡ [] → Lists front text_at data_at lines total → total ≡ Ok front
unfolding listed_from
is_done front text_at data_at lines total none so_far =
    let one : behind front (listed_from text_at data_at lines) ≡ Ok front = rw (none, append-nil) refl in
    sym so_far.is ∙ one

-- lines that have places have a listing
pub is_listed : (lines : List SourceLine) (text_at data_at : ℕ) (at : List ℕ) → places_from text_at data_at lines ≡ Ok at → (found : List ListedLine) × (listed_from text_at data_at lines ≡ Ok found)
unfolding places_from listed_from
is_listed [] text_at data_at at is = ([], refl)
is_listed (line ∷ lines) text_at data_at at is =
    let next = bind_ok (both_stepped text_at data_at line) _ at is in
    let rest = bind_ok (places_from next.0.0 next.0.1 lines) _ at next.2 in
    let others = is_listed lines next.0.0 next.0.1 rest.0 rest.1 in
    let here = listed_line line text_at data_at next.0 in
    let on : ℕ × ℕ → Result (List ListedLine) AsmError = λ n. listed_from n.0 n.1 lines >>= λ rest. Ok (listed_line line text_at data_at n ∷ rest) in
    let one : (both_stepped text_at data_at line >>= on) ≡ on next.0 = ap (λ (r : Result (ℕ × ℕ) AsmError). r >>= on) next.1 in
    let two : on next.0 ≡ Ok (here ∷ others.0) = ap (λ (r : Result (List ListedLine) AsmError). r >>= λ rest. Ok (here ∷ rest)) others.1 in
    (here ∷ others.0, one ∙ two)

-- so have those of an image
pub image_lists : (text : List ℕ) (source : Source) (image : Image) → laid_out text source ≡ Ok image → (found : List ListedLine) × (listed_from 0 image.bytes_at source.lines ≡ Ok found)
image_lists text source image is =
    let end = bind_ok (section_end Text 0 source.lines) (λ end. places_from 0 (data_start end) source.lines >>= image_at text source (data_start end)) image (sym (laid_out_by text source) ∙ is) in
    let at = bind_ok (places_from 0 (data_start end.0) source.lines) (image_at text source (data_start end.0)) image end.2 in
    let made = bind_ok (sections_of text source.labels at.0 source.lines at.0) _ image at.2 in
    let start : data_start end.0 ≡ image.bytes_at = ap (λ (i : Image). i.bytes_at) (ok_is _ image made.2) in
    subst (λ (start : ℕ). (found : List ListedLine) × (listed_from 0 start source.lines ≡ Ok found)) start (is_listed source.lines 0 (data_start end.0) at.0 at.1)

-- nothing but memory fails them
only_memory : (e : AsmError) (read : Result (List ListedLine) AsmError) (found : List ListedLine) → read ≡ Ok found → Shows (λ (v : Vec ListedLine). v.items) (Err e) read → e ≡ Memory
only_memory Memory read found is wrong = refl
only_memory (At line kind) read found is wrong = absurd (let p : ◌≡◌ {A = Result (List ListedLine) AsmError} (Ok found) (Err (At line kind)) = sym is ∙ wrong in cc)

pub image_fails : (text : List ℕ) (source : Source) (image : Image) (start : ℕ) (lines : List SourceLine) (e : AsmError) → laid_out text source ≡ Ok image → start ≡ image.bytes_at → lines ≡ source.lines
    → Shows (λ (v : Vec ListedLine). v.items) (Err e) (listed_from 0 start lines) → e ≡ Memory
image_fails text source image start lines e is begins same wrong =
    let found = image_lists text source image is in
    only_memory e (listed_from 0 start lines) found.0 (rw (begins, same) found.1) wrong
