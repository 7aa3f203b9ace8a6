-- What is read of files.
use Rattle.std.proofs.Common.{◌≡◌, ℕ, List, [], ◌∷◌, ◌++◌, Option, Some, None, Vec, Ok, Err, refl, ap, subst}
use Rattle.std.specs.declared.alloc.Global.{Global}
use Rattle.cell_io.specs.Files.{File}
use Rattle.cell_io.specs.Store.{Ledger, FailedAt}
use Rattle.cell_machine.specs.Opening.{Opening}
use Rattle.cell_commands.specs.declared.fault.Fault.{Fault as InputFault}
use Rattle.cell_commands.specs.declared.fault.Fault.TheVariants as input
use Rattle.cell_commands.specs.Task.{Task, run_of, ready}
use Rattle.cell_commands.specs.Forms.{run_task}
use Rattle.cell_commands.specs.Answer.{Leads, RefusesIn}
use Rattle.hunt_command.specs.Heard.{Word}
use Rattle.hunt_reports.specs.declared.origins.Places.{Places}
use Rattle.hunt_reports.specs.Lists.{bytes_in}
use Rattle.hunt_command.specs.declared.fault.Fault.{Fault}
use Rattle.hunt_command.specs.declared.fault.Fault.TheVariants.{Machine, ReadFault, TooLong, Pass as BadPass, Memory}
use Rattle.hunt_command.specs.declared.fault.FileId.TheVariants.{Expect, Pass}
use Rattle.hunt_command.specs.Sources.{HasPlaces}
use Rattle.hunt_command.specs.Files.{told_as, StandsFor, MachineRefuses, FileFailsBy, FailsBy, ExpectedComes, PassedComes, RefusesFiles, Expects, Passes}

-- what is done with the setup of a machine file
abbrev pub to_run : Opening → Task
to_run setup = ready (run_of setup)

pub refuses_as : (files : List File) (machine : Word) (old new : Ledger) (fault : InputFault) → RefusesIn files (run_task machine) old new fault → MachineRefuses files machine old new (told_as fault)
refuses_as files machine old new input.Memory r = tt
refuses_as files machine old new fault r = r

pub stands : (files : List File) (machine : Word) (setup : Opening) → Leads files (run_task machine) (to_run setup) → StandsFor files machine setup
stands files machine setup leads = leads.settles (Ok (run_of setup)) refl

-- ---- the files of options

pub expected_cause : (machine : Word) (expect pass : Option Word) (old now new : Ledger) (fault : Fault) → now ≡ old → FileFailsBy Expect expect now new fault → FailsBy machine expect pass old new fault
expected_cause machine None pass old now new fault kept r = absurd r
expected_cause machine (Some name) pass old now new (ReadFault Expect) kept r = subst (λ o. FailedAt name o new) kept r.1
expected_cause machine (Some name) pass old now new (ReadFault Pass) kept r = absurd cc
expected_cause machine (Some name) pass old now new (Machine fault) kept r = absurd r
expected_cause machine (Some name) pass old now new other kept r = tt

pub passed_cause : (machine : Word) (expect pass : Option Word) (old now new : Ledger) (fault : Fault) → now ≡ old → FileFailsBy Pass pass now new fault → FailsBy machine expect pass old new fault
passed_cause machine expect None old now new fault kept r = absurd r
passed_cause machine expect (Some name) old now new (ReadFault Pass) kept r = subst (λ o. FailedAt name o new) kept r.1
passed_cause machine expect (Some name) old now new (ReadFault Expect) kept r = absurd cc
passed_cause machine expect (Some name) old now new (Machine fault) kept r = absurd r
passed_cause machine expect (Some name) old now new other kept r = tt

pub expected_refuses : (files : List File) (machine : Word) (expect pass : Option Word) (setup : Opening) (old now new : Ledger) (fault : Fault) → now ≡ old → StandsFor files machine setup
    → FileFailsBy Expect expect now new fault → ExpectedComes files expect (Err fault) → RefusesFiles files machine expect pass old new fault
expected_refuses files machine None pass setup old now new fault kept stood r e = absurd r
expected_refuses files machine (Some name) pass setup old now new (ReadFault Expect) kept stood r e = ((setup, stood), subst (λ o. FailedAt name o new) kept r.1)
expected_refuses files machine (Some name) pass setup old now new (ReadFault Pass) kept stood r e = absurd cc
expected_refuses files machine (Some name) pass setup old now new (TooLong Expect) kept stood r e = ((setup, stood), e.1)
expected_refuses files machine (Some name) pass setup old now new (TooLong Pass) kept stood r e = absurd cc
expected_refuses files machine (Some name) pass setup old now new Memory kept stood r e = tt
expected_refuses files machine (Some name) pass setup old now new other kept stood r e = absurd e

pub passed_refuses : (files : List File) (machine : Word) (expect pass : Option Word) (setup : Opening) (places : Places) (lines : List (List ℕ)) (old now new : Ledger) (fault : Fault) → now ≡ old
    → StandsFor files machine setup → HasPlaces files machine places → Expects files expect lines
    → FileFailsBy Pass pass now new fault → PassedComes files pass setup places (Err fault) → RefusesFiles files machine expect pass old new fault
passed_refuses files machine expect None setup places lines old now new fault kept stood placed expected r e = absurd r
passed_refuses files machine expect (Some name) setup places lines old now new (ReadFault Pass) kept stood placed expected r e = (((setup, stood), (lines, expected)), subst (λ o. FailedAt name o new) kept r.1)
passed_refuses files machine expect (Some name) setup places lines old now new (ReadFault Expect) kept stood placed expected r e = absurd cc
passed_refuses files machine expect (Some name) setup places lines old now new (TooLong Pass) kept stood placed expected r e = (((setup, stood), (lines, expected)), e.1)
passed_refuses files machine expect (Some name) setup places lines old now new (TooLong Expect) kept stood placed expected r e = absurd cc
passed_refuses files machine expect (Some name) setup places lines old now new (BadPass line) kept stood placed expected r e =
    (((setup, stood), (lines, expected)), (setup, places, stood, placed, e))
passed_refuses files machine expect (Some name) setup places lines old now new Memory kept stood placed expected r e = tt
passed_refuses files machine expect (Some name) setup places lines old now new other kept stood placed expected r e = absurd e

pub expects : (files : List File) (expect : Option Word) (lines : Vec (Vec ℕ Global) Global) → ExpectedComes files expect (Ok lines) → Expects files expect (bytes_in lines.items)
expects files None lines e = e
expects files (Some name) lines e = e

pub passes : (files : List File) (pass : Option Word) (setup : Opening) (places : Places) (keys : Vec (Vec ℕ Global) Global) → PassedComes files pass setup places (Ok keys) → Passes files pass setup places (bytes_in keys.items)
passes files None setup places keys e = e
passes files (Some name) setup places keys e = e

pub bytes_more : (xs : List (Vec ℕ Global)) (x : Vec ℕ Global) → bytes_in (xs ++ x ∷ []) ≡ bytes_in xs ++ x.items ∷ []
bytes_more [] x = refl
bytes_more (y ∷ xs) x = ap (λ l. y.items ∷ l) (bytes_more xs x)
