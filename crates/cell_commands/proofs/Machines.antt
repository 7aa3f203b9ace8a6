-- Two tasks that read one machine file.
use Rattle.std.proofs.Common.{ℕ, ◌+◌, List, [], ◌∷◌, ◌++◌, Result, Ok, Err}
use Rattle.cell_io.specs.Files.{File}
use Rattle.spu_asm.specs.Images.{Image}
use Rattle.spu_asm.specs.Assembling.{assembled}
use Rattle.spu_asm.specs.declared.error.AsmError.{AsmError}
use Rattle.spu_asm.specs.declared.error.AsmError.TheVariants.{At, Memory as AsmMemory}
use Rattle.cell_load.specs.Entries.{Entry}
use Rattle.cell_load.specs.Order.{machine_at}
use Rattle.cell_load.specs.Sources.{Named, sources_of}
use Rattle.cell_load.specs.Loaded.{loaded, NoRow}
use Rattle.cell_machine.specs.Opening.{Opening}
use Rattle.cell_commands.specs.declared.fault.Fault.{Fault}
use Rattle.cell_commands.specs.declared.fault.FileId.{FileId}
use Rattle.cell_commands.specs.declared.fault.FileId.TheVariants.{Machine, Source}
use Rattle.cell_commands.specs.Task.{Task, Work}
use Rattle.cell_commands.specs.Course.{Given, nothing, too_long, whole, given, WithGiven, Settles}
use Rattle.cell_commands.specs.Forms.{text_limit, with_image, sources_task, with_setup, with_plan, planned_task, machine_task}

module _ (files : List File) (work : Work) (next other : Opening → Task) where
  -- work that is come to from a setup, while the second task goes on with the same setup
  abbrev WithSetup : (Result Work Fault → Type 0) → Type 0
  WithSetup Second = (setup : Opening) × Settles files (next setup) (Ok work) × ((result : Result Work Fault) → Settles files (other setup) result → Second result)

  -- where the first comes to work, it goes on with a setup, and the second goes on with the same
  abbrev GoesOn : Task → Task → Type 0
  GoesOn first second = Settles files first (Ok work) → WithSetup (Settles files second)

  loaded-on : (r : Result Opening NoRow) → GoesOn (with_setup r next) (with_setup r other)
  loaded-on (Err found) e = absurd cc
  loaded-on (Ok S) e = (S, e, λ result s. s)

  pub given-on : (file : FileId) (g : Given) (first second : List ℕ → Task) → ((bytes : List ℕ) → GoesOn (first bytes) (second bytes))
      → WithGiven file g (Ok work) (λ bytes. Settles files (first bytes) (Ok work)) → WithSetup (λ result. WithGiven file g result (λ bytes. Settles files (second bytes) result))
  given-on file nothing first second h e = absurd cc
  given-on file too_long first second h e = absurd cc
  given-on file (whole bytes) first second h e = h bytes e

  image-on : (file : FileId) (r : Result Image AsmError) (first second : Image → Task) → ((image : Image) → GoesOn (first image) (second image)) → GoesOn (with_image file r first) (with_image file r second)
  image-on file (Err (At line kind)) first second h e = absurd cc
  image-on file (Err AsmMemory) first second h e = absurd cc
  image-on file (Ok image) first second h e = h image e

  sources-on : (sources : List Named) (i : ℕ) (so_far : List Image) (first second : List Image → Task) → ((images : List Image) → GoesOn (first images) (second images))
      → GoesOn (sources_task i sources so_far first) (sources_task i sources so_far second)
  sources-on [] i so_far first second h e = h so_far e
  sources-on (source ∷ sources) i so_far first second h e =
      given-on (Source i) (given files source.name text_limit)
      (λ text. with_image (Source i) (assembled text) (λ image. sources_task (i + 1) sources (so_far ++ image ∷ []) first))
      (λ text. with_image (Source i) (assembled text) (λ image. sources_task (i + 1) sources (so_far ++ image ∷ []) second))
      (λ text. image-on (Source i) (assembled text) _ _ (λ image. sources-on sources (i + 1) (so_far ++ image ∷ []) first second h)) e

  planned-on : (entries : List Entry) → GoesOn (planned_task entries next) (planned_task entries other)
  planned-on entries e = sources-on (sources_of entries) 0 [] _ _ (λ images. loaded-on (loaded entries images)) e

  plan-on : {F : Type 0} (r : Result (List Entry) (ℕ × F)) → GoesOn (with_plan r (λ entries. planned_task entries next)) (with_plan r (λ entries. planned_task entries other))
  plan-on (Err fault) e = absurd cc
  plan-on (Ok entries) e = planned-on entries e

  pub machine-on : (machine : List ℕ) → GoesOn (machine_task machine next) (machine_task machine other)
  machine-on machine e =
      given-on Machine (given files machine text_limit) (λ text. with_plan (machine_at text) (λ entries. planned_task entries next)) (λ text. with_plan (machine_at text) (λ entries. planned_task entries other))
      (λ text. plan-on (machine_at text)) e
