-- The bytes of text and data, made line by line.
use Rattle.std.proofs.Common.{◌≡◌, ℕ, List, [], ◌∷◌, ◌++◌, length, Result, Ok, Err, refl, sym, ap, ◌∙◌, append_assoc, arith}
use Rattle.std.proofs.lemmas.List.{append-nil}
use Rattle.spu_asm.specs.declared.error.AsmError.{AsmError}
use Rattle.spu_asm.specs.declared.error.AsmError.TheVariants.{At, Memory}
use Rattle.spu_asm.specs.declared.syntax.Section.{Section}
use Rattle.spu_asm.specs.declared.syntax.Section.TheVariants.{Text, Data}
use Rattle.spu_asm.specs.Outcomes.{◌>>=◌, on_line, Shows}
use Rattle.spu_asm.specs.Source.{Labels, SourceLine}
use Rattle.spu_asm.specs.Encoding.{bytes_of}
use Rattle.spu_asm.specs.Assembling.{Sections, onto, joined, added_to, sections_of}

-- bytes before those that are still made
abbrev pub ahead : Sections → Result Sections AsmError → Result Sections AsmError
ahead front read = read >>= λ h. Ok (record { text = front.text ++ h.text; data_bytes = front.data_bytes ++ h.data_bytes })

pub record Makes (text : List ℕ) (labels : Labels) (places : List ℕ) (front : Sections) (lines : List SourceLine) (rest : List ℕ) (total : Result Sections AsmError) : Type 0 where
  pub is : ahead front (sections_of text labels places lines rest) ≡ total

regroup : (section : Section) (front : Sections) (bytes : List ℕ) (read : Result Sections AsmError) → ahead front (read >>= λ h. Ok (onto section bytes h)) ≡ ahead (joined section front bytes) read
regroup Text front bytes (Ok h) = ap (λ (xs : List ℕ). Ok (record { text = xs; data_bytes = front.data_bytes ++ h.data_bytes })) (sym (append_assoc front.text bytes h.text))
regroup Data front bytes (Ok h) = ap (λ (xs : List ℕ). Ok (record { text = front.text ++ h.text; data_bytes = xs })) (sym (append_assoc front.data_bytes bytes h.data_bytes))
regroup Text front bytes (Err e) = refl
regroup Data front bytes (Err e) = refl

same : (r : Result Sections AsmError) → ahead (record { text = []; data_bytes = [] }) r ≡ r
same (Ok s) = refl
same (Err e) = refl

pub begins : (text : List ℕ) (labels : Labels) (places : List ℕ) (front : Sections) (lines : List SourceLine) (rest : List ℕ) → front.text ≡ [] → front.data_bytes ≡ [] → Makes text labels places front lines rest (sections_of text labels places lines rest)
begins text labels places front lines rest a b = record { is = rw (a, b) (same (sections_of text labels places lines rest)) }

module _ (text : List ℕ) (labels : Labels) (places : List ℕ) (front : Sections) (line : SourceLine) (lines : List SourceLine) (at : ℕ) (rest : List ℕ) (total : Result Sections AsmError)
    (so_far : Makes text labels places front (line ∷ lines) (at ∷ rest) total) where
  abbrev pub given : Result (List ℕ) AsmError
  given = on_line line.number (bytes_of text labels places at line)

  pub goes_on : (bytes : List ℕ) → given ≡ Ok bytes → Makes text labels places (joined line.section front bytes) lines rest total
  unfolding sections_of
  goes_on bytes is =
      let others = sections_of text labels places lines rest in
      let one : ahead front (sections_of text labels places (line ∷ lines) (at ∷ rest)) ≡ ahead (joined line.section front bytes) others = rw is (regroup line.section front bytes others) in
      record { is = sym one ∙ so_far.is }

  pub wrong : (e : AsmError) → given ≡ Err e → total ≡ Err e
  unfolding sections_of
  wrong e is =
      let one : ahead front (sections_of text labels places (line ∷ lines) (at ∷ rest)) ≡ Err e = rw is refl in
      sym so_far.is ∙ one

pub no_elements : {X : Type 0} (xs : List X) → length xs ≡ 0 → xs ≡ []
no_elements [] none = refl
no_elements (x ∷ xs) none = absurd (omega arith)

pub is_done : (text : List ℕ) (labels : Labels) (places : List ℕ) (front : Sections) (lines : List SourceLine) (rest : List ℕ) (total : Result Sections AsmError) → lines ≡ [] → Makes text labels places front lines rest total → total ≡ Ok front
unfolding sections_of
is_done text labels places front lines rest total none so_far =
    let one : ahead front (sections_of text labels places lines rest) ≡ Ok front = rw (none, append-nil, append-nil) refl in
    sym so_far.is ∙ one

-- what a line adds
added : (given : Result (List ℕ) AsmError) (section : Section) (before after : Sections) → (given >>= λ bytes. Ok (joined section before bytes)) ≡ Ok after → (bytes : List ℕ) × (given ≡ Ok bytes) × (after ≡ joined section before bytes)
added (Ok bytes) section before after is = let p : joined section before bytes ≡ after = cc in (bytes, refl, sym p)
added (Err e) section before after is = absurd cc

not_added : (given : Result (List ℕ) AsmError) (f : List ℕ → Sections) (e : AsmError) → (given >>= λ bytes. Ok (f bytes)) ≡ Err e → given ≡ Err e
not_added (Ok bytes) f e is = absurd cc
not_added (Err k) f e is = let p : k ≡ e = cc in ap Err p

module _ (text : List ℕ) (labels : Labels) (places : List ℕ) (front : Sections) (line : SourceLine) (lines : List SourceLine) (at : ℕ) (rest : List ℕ) (total : Result Sections AsmError)
    (so_far : Makes text labels places front (line ∷ lines) (at ∷ rest) total) where
  abbrev pub adding : Result Sections AsmError
  adding = added_to line.section front (given text labels places front line lines at rest total so_far)

  pub grows : (after : Sections) → adding ≡ Ok after → Makes text labels places after lines rest total
  grows after is =
      let a = added _ _ front after is in
      rw a.2 (goes_on text labels places front line lines at rest total so_far a.0 a.1)

  pub fails : {B : Type 0} (shown : Unit {0} → Sections) (see : B → Sections) (e : AsmError) → Shows shown (Err e) adding → Shows see (Err e) total
  fails shown see (At number kind) is = wrong text labels places front line lines at rest total so_far (At number kind) (not_added _ (joined line.section front) (At number kind) is)
  fails shown see Memory is = tt
