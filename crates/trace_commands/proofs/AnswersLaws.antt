-- What is promised of an answer.
use Rattle.std.proofs.Common.{◌≡◌, ◌≢◌, ◌≤◌, ℕ, List, refl, subst, ap, arith}
use Rattle.std.specs.Option.{ForSome}
use Rattle.cell_io.specs.Files.{File}
use Rattle.cell_io.specs.Store.{Ledger, NoneFell}
use Rattle.cell_commands.specs.Answer.{Sinks}
use Rattle.cell_commands.specs.Promises.{Stores}
use Rattle.trace_commands.specs.declared.fault.Fault.{Fault}
use Rattle.trace_commands.specs.declared.fault.Fault.TheVariants.{Usage, WriteFault}
use Rattle.trace_commands.specs.declared.fault.Status.{Status}
use Rattle.trace_commands.specs.declared.fault.Status.TheVariants.{Done, Refused}
use Rattle.trace_commands.specs.Words.{Spoken, alone, choose, asked, go, lined, planned, no_form}
use Rattle.trace_commands.specs.Files.{IsOfFiles}
use Rattle.trace_commands.specs.Answers.{Writes, Refuses, FailsBy, Answers, ReadFails, IsQuiet, Promises, Ends, TellsUsage}

le_refl : (n : ℕ) → n ≤ n
le_refl n = omega arith

-- ---- refusals

no_file_usage : (fault : Fault) → IsOfFiles fault → fault ≡ Usage → ⊥
no_file_usage fault h is = subst IsOfFiles is h

not_write : (spoken : Spoken) → TellsUsage spoken WriteFault → ⊥
not_write (alone machine) h = h
not_write (choose machine choices) h = h
not_write (asked machine record_file ask) h = h
not_write (go machine record_file count choices) h = h
not_write (lined source) h = h
not_write (planned machine) h = h
not_write no_form h = absurd (cc)

usage_form : (spoken : Spoken) (fault : Fault) → TellsUsage spoken fault → fault ≡ Usage → spoken ≡ no_form
usage_form (alone machine) fault h is = absurd (no_file_usage fault h is)
usage_form (choose machine choices) fault h is = absurd (no_file_usage fault h is)
usage_form (asked machine record_file ask) fault h is = absurd (no_file_usage fault h is)
usage_form (go machine record_file count choices) fault h is = absurd (no_file_usage fault h is)
usage_form (lined source) fault h is = absurd (no_file_usage fault h is)
usage_form (planned machine) fault h is = absurd (no_file_usage fault h is)
usage_form no_form fault h is = refl

form_usage : (spoken : Spoken) (fault : Fault) → TellsUsage spoken fault → spoken ≡ no_form → Refused fault ≡ Refused Usage
form_usage spoken fault h is = ap Refused (subst (λ s. TellsUsage s fault) is h)

refused_is : (fault : Fault) → Refused fault ≡ Refused Usage → fault ≡ Usage
refused_is fault is = cc

answers_refused : (files : List File) (spoken : Spoken) (old new : Ledger) (before after : Sinks) (fault : Fault) → TellsUsage spoken fault → Refuses files spoken old new fault → Answers files spoken old new before after (Refused fault)
answers_refused files spoken old new before after WriteFault h r = absurd (not_write spoken h)
answers_refused files spoken old new before after fault h r = r

fails_refused : (spoken : Spoken) (old new : Ledger) (fault : Fault) → FailsBy spoken old new fault → ReadFails spoken old new (Refused fault)
fails_refused spoken old new WriteFault f = tt
fails_refused spoken old new fault f = f

quiet_refused : (spoken : Spoken) (sink : Sinks) (fault : Fault) → TellsUsage spoken fault → IsQuiet sink sink (Refused fault)
quiet_refused spoken sink WriteFault h = absurd (not_write spoken h)
quiet_refused spoken sink fault h = refl

pub refused : (spoken : Spoken) (store store_after : Stores) (sink : Sinks) (fault : Fault) → store_after.files ≡ store.files → NoneFell store.ledger store_after.ledger → TellsUsage spoken fault
    → ForSome store.files (λ files. Refuses files spoken store.ledger store_after.ledger fault) → FailsBy spoken store.ledger store_after.ledger fault
    → Promises spoken store store_after sink sink (Refused fault)
refused spoken store store_after sink fault same count usage told fails = record {
  same = same;
  store_count = count;
  sink_count = le_refl sink.faults;
  told = λ files is. answers_refused files spoken store.ledger store_after.ledger sink sink fault usage (told files is);
  read_fault = fails_refused spoken store.ledger store_after.ledger fault fails;
  quiet = quiet_refused spoken sink fault usage;
  usage = (λ is. usage_form spoken fault usage (refused_is fault is), form_usage spoken fault usage);
}

-- ---- a text that was written

answers_text : (files : List File) (spoken : Spoken) (old new : Ledger) (before after : Sinks) (text : List ℕ) (result : Status) → Ends text before after result → Writes files spoken text → Answers files spoken old new before after result
answers_text files spoken old new before after text Done e w = (text, w, e)
answers_text files spoken old new before after text (Refused WriteFault) e w = (text, w, e.1)
answers_text files spoken old new before after text (Refused fault) e w = absurd e

fails_text : (spoken : Spoken) (old new : Ledger) (before after : Sinks) (text : List ℕ) (result : Status) → Ends text before after result → ReadFails spoken old new result
fails_text spoken old new before after text Done e = tt
fails_text spoken old new before after text (Refused WriteFault) e = tt
fails_text spoken old new before after text (Refused fault) e = absurd e

quiet_text : (before after : Sinks) (text : List ℕ) (result : Status) → Ends text before after result → IsQuiet before after result
quiet_text before after text Done e = tt
quiet_text before after text (Refused WriteFault) e = e.0
quiet_text before after text (Refused fault) e = absurd e

text_no_usage : (before after : Sinks) (text : List ℕ) (result : Status) → Ends text before after result → result ≡ Refused Usage → ⊥
text_no_usage before after text result e is = subst (Ends text before after) is e

pub written : (spoken : Spoken) (store store_after : Stores) (sink sink_after : Sinks) (text : List ℕ) (result : Status) → spoken ≢ no_form → store_after.files ≡ store.files → NoneFell store.ledger store_after.ledger → sink.faults ≤ sink_after.faults
    → ForSome store.files (λ files. Writes files spoken text) → Ends text sink sink_after result
    → Promises spoken store store_after sink sink_after result
written spoken store store_after sink sink_after text result form same count faults told ends = record {
  same = same;
  store_count = count;
  sink_count = faults;
  told = λ files is. answers_text files spoken store.ledger store_after.ledger sink sink_after text result ends (told files is);
  read_fault = fails_text spoken store.ledger store_after.ledger sink sink_after text result ends;
  quiet = quiet_text sink sink_after text result ends;
  usage = (λ is. absurd (text_no_usage sink sink_after text result ends is), λ is. absurd (form is));
}
