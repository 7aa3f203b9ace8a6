-- The sources of lines, one line after another.
use Rattle.std.proofs.Common.{◌≡◌, ◌≤◌, ◌<◌, ◌+◌, ℕ, suc, length, drop, slice_index_or, List, ◌∷◌, ◌++◌, map, refl, sym, ap, ◌∙◌, arith}
use Rattle.std.proofs.lemmas.List.{append_assoc}
use Rattle.std.proofs.Math.Seq.{drop-cons}
use Rattle.cell_load.specs.declared.line.Line.{Line}
use Rattle.cell_load.specs.Entries.{Entry, entry_of, Head, Lines, Budget, Spe, Entrance, Code, Bytes, Source, MemoryBytes, Host, OrMode, ShowLocal, ShowMemory}
use Rattle.cell_load.specs.Sources.{Named, source_of, sources_from, spes_after, spes_in}

pub spes_after-add : (n m : ℕ) (e : Entry) → spes_after n e + m ≡ n + spes_after m e
spes_after-add n m Spe = omega arith
spes_after-add n m Head = refl
spes_after-add n m (Lines k) = refl
spes_after-add n m (Budget k) = refl
spes_after-add n m (Entrance at) = refl
spes_after-add n m (Code at bytes) = refl
spes_after-add n m (Bytes at bytes) = refl
spes_after-add n m (Source name) = refl
spes_after-add n m (MemoryBytes at bytes) = refl
spes_after-add n m (Host action) = refl
spes_after-add n m (OrMode spe register) = refl
spes_after-add n m (ShowLocal spe at len) = refl
spes_after-add n m (ShowMemory at len) = refl

-- what is left from place i on begins with the line there
pub rest_at : (lines : List Line) (i : ℕ) (x : Line) → i < length lines → x ≡ slice_index_or lines i x → map entry_of (drop i lines) ≡ entry_of x ∷ map entry_of (drop (i + 1) lines)
rest_at lines i x within at =
    let e : suc i ≡ i + 1 = omega arith in
    ap (map entry_of) (drop-cons lines i x within)
    ∙ ap (λ y. entry_of y ∷ map entry_of (drop (suc i) lines)) (sym at)
    ∙ ap (λ k. entry_of x ∷ map entry_of (drop k lines)) e

pub next_few : (spes : ℕ) (entries : List Entry) (e : Entry) (rest : List Entry) → entries ≡ e ∷ rest → spes + spes_in entries ≤ 16 → spes_after spes e + spes_in rest ≤ 16
unfolding spes_in
next_few spes entries e rest cut few =
    let here : spes + spes_in entries ≡ spes + spes_after (spes_in rest) e = ap (λ es. spes + spes_in es) cut in
    omega (arith, here, few, spes_after-add spes (spes_in rest) e)

pub next_sources : (front : List Named) (spes : ℕ) (entries : List Entry) (e : Entry) (rest : List Entry) (total : List Named) → entries ≡ e ∷ rest → front ++ sources_from spes entries ≡ total → (front ++ source_of spes e) ++ sources_from (spes_after spes e) rest ≡ total
unfolding sources_from
next_sources front spes entries e rest total cut so_far =
    append_assoc front (source_of spes e) (sources_from (spes_after spes e) rest) ∙ sym (ap (λ es. front ++ sources_from spes es) cut) ∙ so_far
