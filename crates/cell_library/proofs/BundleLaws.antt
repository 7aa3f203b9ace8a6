-- Files that are read one behind the other.
use Rattle.std.proofs.Common.{◌≡◌, ℕ, ◌<◌, List, [], ◌∷◌, ◌++◌, length, Option, Some, None, Err, refl, sym, ap, subst, append_assoc, append-nil}
use Rattle.std.specs.Option.{option_map}
use Rattle.std.specs.Str.{IsUtf8}
use Rattle.std.proofs.lemmas.List.{nil_from_length}
use Rattle.cell_io.specs.Files.{File}
use Rattle.cell_library.specs.declared.bundle.BundleError.{BundleError}
use Rattle.cell_library.specs.declared.bundle.BundleError.TheVariants.{Form, Memory}
use Rattle.cell_library.specs.Question.{Bundles, End, Then, NoFile, NoName, file_at, with_file}
use Rattle.cell_library.specs.Reading.{KeepsFile, ReadsAll}

-- files with those so far in front
abbrev pub behind : List File → Option (List File) → Option (List File)
behind so_far more = option_map (λ files. so_far ++ files) more

-- what is left of the bytes says what all of them are
pub record GoesOn (all rest : List ℕ) (so_far : List File) : Type 0 where
  pub on : (more : Option (List File)) → Bundles rest more → Bundles all (behind so_far more)

behind_none : (more : Option (List File)) → more ≡ behind [] more
behind_none None = refl
behind_none (Some files) = refl

behind_one : (so_far : List File) (file : File) (more : Option (List File)) → behind so_far (with_file file more) ≡ behind (so_far ++ file ∷ []) more
behind_one so_far file None = refl
behind_one so_far file (Some files) = ap Some (sym (append_assoc so_far (file ∷ []) files))

pub no_files : (all : List ℕ) → GoesOn all all []
no_files all = record { on = λ more b. subst (Bundles all) (behind_none more) b }

pub one_file : (all rest left : List ℕ) (so_far new : List File) (file : File) → file_at rest ≡ Some (file, left) → IsUtf8 file.name → new ≡ so_far ++ file ∷ [] → GoesOn all rest so_far → GoesOn all left new
one_file all rest left so_far new file at text is h = record {
  on = λ more b. subst (λ (fs : List File). Bundles all (behind fs more)) (sym is) (subst (Bundles all) (behind_one so_far file more) (h.on (with_file file more) (Then at text b)));
}

pub all_files : (all rest : List ℕ) (so_far : List File) → length rest ≡ 0 → GoesOn all rest so_far → Bundles all (Some so_far)
all_files all rest so_far none h =
    subst (λ (fs : List File). Bundles all (Some fs)) (append-nil so_far) (h.on (Some []) (subst (λ (r : List ℕ). Bundles r (Some [])) (sym (nil_from_length rest none)) End))

pub no_file : (all rest : List ℕ) (so_far : List File) → 0 < length rest → file_at rest ≡ None → GoesOn all rest so_far → Bundles all None
no_file all rest so_far some none h = h.on None (NoFile some none)

pub not_kept : (all rest left : List ℕ) (so_far new : List File) (file : File) (error : BundleError) → file_at rest ≡ Some (file, left) → KeepsFile {T = Unit {0}} file so_far new (Err error) → GoesOn all rest so_far → ReadsAll all (Err error)
not_kept all rest left so_far new file Form at lacks h = h.on None (NoName at lacks)
not_kept all rest left so_far new file Memory at lacks h = tt
