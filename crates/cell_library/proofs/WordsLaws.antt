-- Words that are read one behind the other.
use Rattle.std.proofs.Common.{◌≡◌, ◌∙◌, ℕ, List, [], ◌∷◌, ◌++◌, length, Err, sym, ap, subst, append_assoc, append-nil}
use Rattle.std.specs.Str.{IsUtf8}
use Rattle.cell_base.specs.Words.{lines_of}
use Rattle.cell_base.proofs.WordLaws.{no_lines}
use Rattle.cell_library.specs.declared.bundle.BundleError.{BundleError}
use Rattle.cell_library.specs.declared.bundle.BundleError.TheVariants.{Form, Memory}
use Rattle.cell_library.specs.Question.{AreTexts}
use Rattle.cell_library.specs.Reading.{IsText, ReadsWords}

-- the lines are the words so far, each a text, and those of what is left
pub record LinesLeft (all rest : List ℕ) (so_far : List (List ℕ)) : Type 0 where
  pub lines : lines_of all ≡ so_far ++ lines_of rest
  pub texts : AreTexts so_far

more_texts : (words : List (List ℕ)) (word : List ℕ) → AreTexts words → IsUtf8 word → AreTexts (words ++ word ∷ [])
more_texts [] word ts t = (t, tt)
more_texts (x ∷ words) word ts t = (ts.0, more_texts words word ts.1 t)

text_in : (words : List (List ℕ)) (word : List ℕ) (more : List (List ℕ)) → AreTexts (words ++ word ∷ more) → IsUtf8 word
text_in [] word more ts = ts.0
text_in (x ∷ words) word more ts = text_in words word more ts.1

pub one_word : (all rest line left : List ℕ) (so_far new : List (List ℕ)) → lines_of rest ≡ line ∷ lines_of left → IsUtf8 line → new ≡ so_far ++ line ∷ [] → LinesLeft all rest so_far → LinesLeft all left new
one_word all rest line left so_far new split text is h = record {
  lines = h.lines ∙ ap (λ (ls : List (List ℕ)). so_far ++ ls) split ∙ sym (append_assoc so_far (line ∷ []) (lines_of left)) ∙ ap (λ (ws : List (List ℕ)). ws ++ lines_of left) (sym is);
  texts = subst AreTexts (sym is) (more_texts so_far line h.texts text);
}

pub all_words : (all rest : List ℕ) (so_far : List (List ℕ)) → length rest ≡ 0 → LinesLeft all rest so_far → (so_far ≡ lines_of all) × AreTexts (lines_of all)
all_words all rest so_far none h =
    let is : so_far ≡ lines_of all = sym (append-nil so_far) ∙ ap (λ (ls : List (List ℕ)). so_far ++ ls) (sym (no_lines rest none)) ∙ sym h.lines in
    (is, subst AreTexts is h.texts)

pub no_word : (all rest line left : List ℕ) (so_far : List (List ℕ)) (error : BundleError) → lines_of rest ≡ line ∷ lines_of left → IsText line (Err error) → LinesLeft all rest so_far → ReadsWords all (Err error)
no_word all rest line left so_far Form split lacks h = λ texts. lacks (text_in so_far line (lines_of left) (subst AreTexts (h.lines ∙ ap (λ (ls : List (List ℕ)). so_far ++ ls) split) texts))
no_word all rest line left so_far Memory split lacks h = tt
