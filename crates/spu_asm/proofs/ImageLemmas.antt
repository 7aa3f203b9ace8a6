-- An image that is laid out, by the steps of the code.
use Rattle.std.proofs.Common.{◌≡◌, ◌<◌, ◌≤◌, ◌%◌, ℕ, List, length, Result, Ok, Err, refl, sym, ap, ◌∙◌, arith}
use Rattle.std.specs.Prelude.{slice_index, codes}
use Rattle.spu_asm.specs.declared.error.AsmError.{AsmError}
use Rattle.spu_asm.specs.declared.syntax.Section.TheVariants.{Text, Data}
use Rattle.spu_asm.specs.Outcomes.{◌>>=◌}
use Rattle.spu_asm.specs.ReadLines.{AllRead}
use Rattle.spu_asm.specs.Assembling.{Sections, sections_of, laid_out, entry_of, EndsWith}
use Rattle.spu_asm.specs.Images.{Image, IsImage}
use Rattle.spu_asm.specs.Layout.{addresses, places, places_from, section_end, data_start}
use Rattle.spu_asm.specs.Source.{Labels, SourceLine, Source}
use Rattle.spu_asm.specs.Values.{value_of_label}
use Rattle.spu_asm.proofs.LayoutLemmas.{places_are, end_within}
use Rattle.spu_asm.proofs.LengthLaws.{ends, laid}
use Rattle.spu_asm.proofs.OutcomeLemmas.{bind_ok, ok_is}

-- the image behind the places
abbrev pub image_at : List ℕ → Source → ℕ → List ℕ → Result Image AsmError
image_at text source start at =
    sections_of text source.labels at source.lines at >>= λ made. Ok (record {
      text = made.text;
      bytes = made.data_bytes;
      bytes_at = start;
      entry = entry_of (value_of_label source.labels at (codes "_start"));
    })

-- the steps of the code
abbrev pub laid_by : List ℕ → Source → Result Image AsmError
laid_by text source = section_end Text 0 source.lines >>= λ end. places_from 0 (data_start end) source.lines >>= image_at text source (data_start end)

pub laid_out_by : (text : List ℕ) (source : Source) → laid_out text source ≡ laid_by text source
unfolding laid_out
laid_out_by text source = by (addresses Text 0 source.lines) refl
  where
    lines : List SourceLine
    lines = source.lines

    regroup : {A B C : Type 0} (r : Result A AsmError) (f : A → B) (g : B → Result C AsmError) → (r >>= λ x. g (f x)) ≡ ((r >>= λ x. Ok (f x)) >>= g)
    regroup (Ok x) f g = refl
    regroup (Err e) f g = refl

    by : (r : Result (List ℕ) AsmError) → addresses Text 0 lines ≡ r
        → (r >>= λ text_at. addresses Data (data_start (slice_index text_at (length lines))) lines >>= λ data_at. image_at text source (data_start (slice_index text_at (length lines))) (places lines text_at data_at))
        ≡ ((r >>= λ found. Ok (slice_index found (length lines))) >>= λ end. places_from 0 (data_start end) lines >>= image_at text source (data_start end))
    by (Ok text_at) is =
        let start = data_start (slice_index text_at (length lines)) in
        rw (places_are lines 0 start text_at is) (regroup (addresses Data start lines) (λ data_at. places lines text_at data_at) (image_at text source start))
    by (Err e) is = refl

module _ (text : List ℕ) (source : Source) (text_end start : ℕ) (in_text : section_end Text 0 source.lines ≡ Ok text_end) (begins : start ≡ data_start text_end) where
  pub laid_places : laid_out text source ≡ (places_from 0 start source.lines >>= image_at text source start)
  laid_places = laid_out_by text source ∙ rw (in_text, begins) refl

  pub laid_sections : (at : List ℕ) → places_from 0 start source.lines ≡ Ok at → laid_out text source ≡ image_at text source start at
  laid_sections at is = laid_places ∙ rw is refl

-- what is known of an image
pub laid_image : (text : List ℕ) (labels : Labels) (lines : List SourceLine) (text_end start entry : ℕ) (at : List ℕ) (made : Sections)
    → AllRead text lines → section_end Text 0 lines ≡ Ok text_end → text_end ≤ 262144 → start ≡ data_start text_end → places_from 0 start lines ≡ Ok at
    → sections_of text labels at lines at ≡ Ok made → entry % 4 ≡ 0 → entry < 262144
    → IsImage (record { text = made.text; bytes = made.data_bytes; bytes_at = start; entry = entry })
    × EndsWith lines (record { text = made.text; bytes = made.data_bytes; bytes_at = start; entry = entry })
laid_image text labels lines text_end start entry at made read in_text within begins placed is aligned below =
    let texts = bind_ok (addresses Text 0 lines) _ text_end in_text in
    let last : slice_index texts.0 (length lines) ≡ text_end = ok_is _ text_end texts.2 in
    let datas = bind_ok (addresses Data start lines) _ at (sym (places_are lines 0 start texts.0 texts.1) ∙ placed) in
    let here : places lines texts.0 datas.0 ≡ at = ok_is _ at datas.2 in
    let data_end = ends Data start lines datas.0 (slice_index datas.0 (length lines)) datas.1 refl in
    let bound = end_within Data lines start (slice_index datas.0 (length lines)) (omega (arith, begins, within)) data_end in
    laid text labels lines texts.0 datas.0 start entry made read texts.1 (begins ∙ ap data_start (sym last)) datas.1 (rw (← here) at is) bound aligned below
