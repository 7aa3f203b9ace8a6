-- What is promised follows from the cause of the answer.
use Rattle.std.proofs.Common.{◌≡◌, ◌≤◌, ◌↔◌, ℕ, List, refl, subst, le_refl}
use Rattle.std.specs.Prelude.{◌≢◌}
use Rattle.std.specs.Option.{ForSome}
use Rattle.cell_io.specs.Files.{File}
use Rattle.cell_io.specs.Store.{Ledger, NoneFell}
use Rattle.cell_commands.specs.declared.fault.Fault.TheVariants.{Usage}
use Rattle.cell_commands.specs.declared.fault.Status.{Status}
use Rattle.cell_commands.specs.declared.fault.Status.TheVariants.{Refused}
use Rattle.cell_commands.specs.Answer.{Sinks, Answers, IsQuiet, ReadFails}
use Rattle.cell_commands.specs.Words.{Spoken, gen, no_form, task_of, FailsIn}
use Rattle.cell_commands.specs.Promises.{Stores, IsAnswer, Promises}
use Rattle.cell_commands.proofs.Complete.{exact, complete}
use Rattle.cell_commands.proofs.Judged.{judges}
use Rattle.cell_commands.proofs.ReadBack.{read_back}
use Rattle.cell_commands.proofs.Settled.{settles_one}

-- all that an answer is with files follows from its cause alone
pub of_cause : (files : List File) (spoken : Spoken) (old new : Ledger) (before after : Sinks) (status : Status) → Answers files (task_of spoken) old new before after status → IsAnswer files spoken old new before after status
of_cause files spoken old new before after status a = record {
  answer = a;
  exactly = exact files (task_of spoken) old new before after status a;
  complete = complete files (task_of spoken) old new before after status a;
  judges = judges files spoken old new before after status a;
  read_back = read_back files spoken old new before after status a;
}

-- the words are a form, and no answer says otherwise
pub no_usage : (said : Spoken) (status : Status) → said ≢ no_form → status ≢ Refused Usage → (status ≡ Refused Usage) ↔ (said ≡ no_form)
no_usage said status form not_usage = (λ e. absurd (not_usage e), λ e. absurd (form e))

none_fell : (l : Ledger) → NoneFell l l
none_fell l = record { faults = le_refl l.faults; short = le_refl l.short }

module _ (said spoken : Spoken) (is_said : said ≡ spoken) (store store_after : Stores) (sink sink_after : Sinks) (status : Status) where
  -- files are read, so the answer is one with those that are told
  pub promised : ((n : ℕ) → said ≢ gen n) → store_after.files ≡ store.files → NoneFell store.ledger store_after.ledger → sink.faults ≤ sink_after.faults
      → ForSome store.files (λ told. Answers told (task_of said) store.ledger store_after.ledger sink sink_after status)
      → ReadFails (FailsIn said) store.ledger store_after.ledger status → IsQuiet sink sink_after status → ((status ≡ Refused Usage) ↔ (said ≡ no_form))
      → Promises spoken store store_after sink sink_after status
  promised no_number same store_count sink_count answer read_fault quiet usage = subst (λ s. Promises s store store_after sink sink_after status) is_said (record {
    same = same;
    store_count = store_count;
    sink_count = sink_count;
    settles = λ words files. settles_one files words;
    told = λ files is. of_cause files said store.ledger store_after.ledger sink sink_after status (answer files is);
    number = λ n is. absurd (no_number n is);
    read_fault = read_fault;
    quiet = quiet;
    usage = usage;
  })

-- no file is read, so the answer is one with any
pub promised_still : (said spoken : Spoken) (is_said : said ≡ spoken) (store : Stores) (sink sink_after : Sinks) (status : Status) → sink.faults ≤ sink_after.faults
    → ((files : List File) → Answers files (task_of said) store.ledger store.ledger sink sink_after status)
    → ReadFails (FailsIn said) store.ledger store.ledger status → IsQuiet sink sink_after status → ((status ≡ Refused Usage) ↔ (said ≡ no_form))
    → Promises spoken store store sink sink_after status
promised_still said spoken is_said store sink sink_after status sink_count answer read_fault quiet usage =
    let any : (files : List File) → IsAnswer files said store.ledger store.ledger sink sink_after status = λ files. of_cause files said store.ledger store.ledger sink sink_after status (answer files) in
    subst (λ s. Promises s store store sink sink_after status) is_said (record {
      same = refl;
      store_count = none_fell store.ledger;
      sink_count = sink_count;
      settles = λ words files. settles_one files words;
      told = λ files is. any files;
      number = λ n is files. any files;
      read_fault = read_fault;
      quiet = quiet;
      usage = usage;
    })
