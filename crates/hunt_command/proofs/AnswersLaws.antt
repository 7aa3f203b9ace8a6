-- What is promised follows from how the parts end.
use Rattle.std.proofs.Common.{◌≡◌, ◌≤◌, ◌↔◌, ℕ, Bool, List, refl, sym, subst, le_refl}
use Rattle.std.specs.Prelude.{◌≢◌}
use Rattle.std.specs.Option.{ForSome}
use Rattle.cell_io.specs.Files.{File}
use Rattle.cell_io.specs.Store.{Ledger, NoneFell}
use Rattle.cell_commands.specs.Answer.{Sinks}
use Rattle.hunt_command.specs.declared.fault.Fault.{Fault}
use Rattle.hunt_command.specs.declared.fault.Fault.TheVariants.{Usage, WriteFault, Memory}
use Rattle.hunt_command.specs.declared.fault.Status.{Status}
use Rattle.hunt_command.specs.declared.fault.Status.TheVariants.{Clean, Found, Refused}
use Rattle.hunt_command.specs.Words.{Spoken, hunt, each, record_of, help, no_form}
use Rattle.hunt_command.specs.declared.help.TheConstants.{HELP}
use Rattle.hunt_command.specs.Files.{IsOfFiles}
use Rattle.hunt_command.specs.Answers.{Stores, Promises, Answers, Writes, Refuses, ReadFails, IsQuiet, EndsText, EndsBy}

-- ---- files that are refused

answers_refused : (files : List File) (spoken : Spoken) (stopped : Bool) (old new : Ledger) (before after : Sinks) (fault : Fault) → IsOfFiles fault → Refuses files spoken old new fault → Answers files spoken stopped old new before after (Refused fault)
answers_refused files spoken stopped old new before after WriteFault input r = absurd input
answers_refused files spoken stopped old new before after fault input r = r

quiet_refused : (sink : Sinks) (fault : Fault) → IsOfFiles fault → IsQuiet sink sink (Refused fault)
quiet_refused sink WriteFault input = absurd input
quiet_refused sink fault input = refl

no_usage : (spoken : Spoken) (status : Status) → spoken ≢ no_form → status ≢ Refused Usage → (status ≡ Refused Usage) ↔ (spoken ≡ no_form)
no_usage spoken status form other = (λ e. absurd (other e), λ e. absurd (form e))

not_usage : (fault : Fault) → IsOfFiles fault → Refused fault ≢ Refused Usage
not_usage fault input e = let same : fault ≡ Usage = cc in subst IsOfFiles same input

pub refused : (spoken : Spoken) (stopped : Bool) (store store_after : Stores) (sink : Sinks) (fault : Fault) → spoken ≢ no_form → IsOfFiles fault → store_after.files ≡ store.files → NoneFell store.ledger store_after.ledger
    → ForSome store.files (λ files. Refuses files spoken store.ledger store_after.ledger fault) → ReadFails spoken store.ledger store_after.ledger (Refused fault)
    → Promises spoken stopped store store_after sink sink (Refused fault)
refused spoken stopped store store_after sink fault form input same count told fails = record {
  same = same;
  store_count = count;
  sink_count = le_refl sink.faults;
  told = λ files is. answers_refused files spoken stopped store.ledger store_after.ledger sink sink fault input (told files is);
  read_fault = fails;
  quiet = quiet_refused sink fault input;
  usage = no_usage spoken (Refused fault) form (not_usage fault input);
}

pub none_fell : (l : Ledger) → NoneFell l l
none_fell l = record { faults = le_refl l.faults; short = le_refl l.short }

-- ---- a text that was written

-- what tells is what the words ask for
abbrev pub IsAsked : (Status → List ℕ → Type 0) → List File → Spoken → Bool → Type 0
IsAsked Tells files spoken stopped = (status : Status) (text : List ℕ) → Tells status text → Writes files spoken stopped status text

answers_by : (Tells : Status → List ℕ → Type 0) (files : List File) (spoken : Spoken) (stopped : Bool) (old new : Ledger) (before after : Sinks) (result : Status) → Refuses files spoken old new Memory → IsAsked Tells files spoken stopped → EndsBy Tells before after result → Answers files spoken stopped old new before after result
answers_by Tells files spoken stopped old new before after Clean short is e = (e.0, is Clean e.0 e.1, e.2)
answers_by Tells files spoken stopped old new before after Found short is e = (e.0, is Found e.0 e.1, e.2)
answers_by Tells files spoken stopped old new before after (Refused WriteFault) short is e = (e.0, (e.1.0, e.1.1, is e.1.0 e.1.1 e.1.2, e.1.3))
answers_by Tells files spoken stopped old new before after (Refused Memory) short is e = short
answers_by Tells files spoken stopped old new before after (Refused fault) short is e = absurd e

fails_by : (Tells : Status → List ℕ → Type 0) (spoken : Spoken) (old new : Ledger) (before after : Sinks) (result : Status) → EndsBy Tells before after result → ReadFails spoken old new result
fails_by Tells (hunt a) old new before after (Refused WriteFault) e = tt
fails_by Tells (hunt a) old new before after (Refused Memory) e = tt
fails_by Tells (hunt a) old new before after (Refused fault) e = absurd e
fails_by Tells (each machine from runs seed) old new before after (Refused WriteFault) e = tt
fails_by Tells (each machine from runs seed) old new before after (Refused Memory) e = tt
fails_by Tells (each machine from runs seed) old new before after (Refused fault) e = absurd e
fails_by Tells (record_of machine run seed) old new before after (Refused WriteFault) e = tt
fails_by Tells (record_of machine run seed) old new before after (Refused Memory) e = tt
fails_by Tells (record_of machine run seed) old new before after (Refused fault) e = absurd e
fails_by Tells spoken old new before after result e = tt

quiet_by : (Tells : Status → List ℕ → Type 0) (before after : Sinks) (result : Status) → EndsBy Tells before after result → IsQuiet before after result
quiet_by Tells before after Clean e = tt
quiet_by Tells before after Found e = tt
quiet_by Tells before after (Refused WriteFault) e = e.0
quiet_by Tells before after (Refused Memory) e = e
quiet_by Tells before after (Refused fault) e = absurd e

by_no_usage : (Tells : Status → List ℕ → Type 0) (before after : Sinks) (result : Status) → EndsBy Tells before after result → result ≢ Refused Usage
by_no_usage Tells before after result e is = subst (EndsBy Tells before after) is e

pub ended : (Tells : Status → List ℕ → Type 0) (spoken : Spoken) (stopped : Bool) (store store_after : Stores) (sink sink_after : Sinks) (result : Status) → spoken ≢ no_form
    → store_after.files ≡ store.files → NoneFell store.ledger store_after.ledger → sink.faults ≤ sink_after.faults
    → ((files : List File) → Refuses files spoken store.ledger store_after.ledger Memory) → ForSome store.files (λ files. IsAsked Tells files spoken stopped)
    → EndsBy Tells sink sink_after result → Promises spoken stopped store store_after sink sink_after result
ended Tells spoken stopped store store_after sink sink_after result form same count faults short told ends = record {
  same = same;
  store_count = count;
  sink_count = faults;
  told = λ files is. answers_by Tells files spoken stopped store.ledger store_after.ledger sink sink_after result (short files) (told files is) ends;
  read_fault = fails_by Tells spoken store.ledger store_after.ledger sink sink_after result ends;
  quiet = quiet_by Tells sink sink_after result ends;
  usage = no_usage spoken result form (by_no_usage Tells sink sink_after result ends);
}

-- ---- a text that was put

pub text_ends : (Tells : Status → List ℕ → Type 0) (before after : Sinks) (text items : List ℕ) (status found result : Status) → Tells found items → text ≡ items → status ≡ found → EndsText text status before after result → EndsBy Tells before after result
text_ends Tells before after text items status found result tells same is ends =
    by_text result (subst (λ s. Tells s text) (sym is) (subst (Tells found) (sym same) tells)) ends
  where
    by_text : (r : Status) → Tells status text → EndsText text status before after r → EndsBy Tells before after r
    by_text Clean t e = (text, subst (λ s. Tells s text) (sym e.0) t, e.1)
    by_text Found t e = (text, subst (λ s. Tells s text) (sym e.0) t, e.1)
    by_text (Refused WriteFault) t e = (e.0, (status, text, t, e.1))
    by_text (Refused fault) t e = absurd e

-- ---- the text of --help

answers_help : (files : List File) (stopped : Bool) (old new : Ledger) (before after : Sinks) (result : Status) → EndsText HELP.now Clean before after result → Answers files help stopped old new before after result
answers_help files stopped old new before after Clean e = (HELP.now, (refl, refl), e.1)
answers_help files stopped old new before after Found e = (HELP.now, (e.0, refl), e.1)
answers_help files stopped old new before after (Refused WriteFault) e = (e.0, (Clean, HELP.now, (refl, refl), e.1))
answers_help files stopped old new before after (Refused fault) e = absurd e

quiet_help : (before after : Sinks) (result : Status) → EndsText HELP.now Clean before after result → IsQuiet before after result
quiet_help before after Clean e = tt
quiet_help before after Found e = tt
quiet_help before after (Refused WriteFault) e = e.0
quiet_help before after (Refused fault) e = absurd e

pub helped : (stopped : Bool) (store : Stores) (sink sink_after : Sinks) (result : Status) → sink.faults ≤ sink_after.faults → EndsText HELP.now Clean sink sink_after result → Promises help stopped store store sink sink_after result
helped stopped store sink sink_after result faults ends = record {
  same = refl;
  store_count = none_fell store.ledger;
  sink_count = faults;
  told = λ files is. answers_help files stopped store.ledger store.ledger sink sink_after result ends;
  read_fault = tt;
  quiet = quiet_help sink sink_after result ends;
  usage = no_usage help result (λ e. cc) (λ is. subst (EndsText HELP.now Clean sink sink_after) is ends);
}

-- ---- words

pub as_spoken : {said spoken : Spoken} {stopped : Bool} {store store_after : Stores} {sink sink_after : Sinks} {status : Status} → said ≡ spoken → Promises said stopped store store_after sink sink_after status → Promises spoken stopped store store_after sink sink_after status
as_spoken {stopped = stopped} {store = store} {store_after = store_after} {sink = sink} {sink_after = sink_after} {status = status} is promises = subst (λ s. Promises s stopped store store_after sink sink_after status) is promises
