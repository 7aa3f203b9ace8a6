-- What an instruction tells, and whether it fixes a tag status, by its channel operation.
use Rattle.std.proofs.Common.{◌≡◌, ◌≢◌, ℕ, List, [], ◌∷◌, ◌++◌, length, refl, sym, ◌∙◌, ap, arith}
use Rattle.std.specs.Prelude.{Option, Some, None, Ok, Err, is_some, slice_get, Bool, true, false, not, ◌&&◌, ◌==◌, cond, nat_le}
use Rattle.std.specs.Option.{option_map_or}
use Rattle.std.proofs.lemmas.Bool.Decides.{nat_tests}
use Rattle.std.proofs.lemmas.Option.{slice_get_past}
use Rattle.cell_base.specs.declared.steps.ChannelOp.{ChannelOp}
use Rattle.cell_base.specs.declared.steps.ChannelOp.TheVariants.{Read, Count, Write}
use Rattle.cell_channels.specs.Table.{way_of}
use Rattle.mfc_command.specs.declared.command.Command.{Command}
use Rattle.mfc_command.specs.declared.command.AtomicOp.{AtomicOp}
use Rattle.mfc_command.specs.declared.command.DmaFault.{DmaFault as Fault}
use Rattle.mfc_command.specs.declared.command.Order.TheVariants.{Queued, Atomic}
use Rattle.mfc_command.specs.Check.{checked}
use Rattle.tag_groups.specs.declared.TagStatus.{TagStatus}
use Rattle.tag_groups.specs.Settle.{requested}
use Rattle.spu_exec.specs.declared.flow.Flow.{Flow}
use Rattle.spu_exec.specs.declared.flow.Flow.TheVariants.{Next, Stop, Halt, Channel}
use Rattle.cell_machine.specs.declared.effect.Note.TheVariants.{Nothing, Issue, AtomicIssue, Ended}
use Rattle.cell_machine.specs.Spe.{Spe, is_running}
use Rattle.cell_machine.specs.Exec.{followed}
use Rattle.cell_machine.specs.Channels.{channel, is_read, is_write, may_read, may_write, read_by, read_status, read_atomic, read_inbound, written, commanded, went_on, bad_channel, acknowledged, with_issued, with_resumed}
use Rattle.cell_machine.specs.Moves.{stalls_of_tag}
use Rattle.cell_machine.specs.Effects.{ends, told, told_by, is_fixed, fixes}
use Rattle.cell_machine.proofs.ChannelSteps.{read-bad, write-bad, write-param, count-bad, count-given, command-off, commanded-queued, commanded-line, commanded-fault}

-- ---- whether a processor ceases to run

and_not : (b : Bool) → (b && not b) ≡ false
and_not true = refl
and_not false = refl

pub told-on : (p : ℕ) (P Q : Spe) (op : Option ChannelOp) → Q.status ≡ P.status → told p P Q op ≡ option_map_or (told_by p P Q) op Nothing
told-on p P Q op same =
    let stays : ends P Q ≡ false = rw same (and_not (is_running P.status)) in
    rw stays refl

pub told-off : (p : ℕ) (P Q : Spe) (op : Option ChannelOp) → is_running P.status ≡ true → is_running Q.status ≡ false → told p P Q op ≡ Ended
told-off p P Q op on off = rw (on, off) refl

-- ---- reads

off : (ch k : ℕ) → ch ≢ k → (ch == k) ≡ false
off ch k h = grind (arith, nat_tests)

-- a read that is allowed is one of a channel that is read
read_on : (b c : Bool) (o : Option Spe) (bad Q : Spe) → cond b (cond c o None) (Some bad) ≡ Some Q → b ≡ true → o ≡ Some Q
read_on true true o bad Q h e = h
read_on true false o bad Q h e = absurd (cc)
read_on false c o bad Q h e = absurd (cc)

read_got : (lines : ℕ) (R Q : Spe) (rt ch : ℕ) → is_read (way_of ch) ≡ true → channel lines R (Read rt ch) ≡ Some Q → read_by R rt ch ≡ Some Q
unfolding channel
read_got lines R Q rt ch way made = read_on (is_read (way_of ch)) (may_read R ch) (read_by R rt ch) (bad_channel R) Q made way

-- what a read leaves: the status, and what a request waits for
pub record Leaves (R Q : Spe) : Type 0 where
  pub status : Q.status ≡ R.status
  pub fixes : fixes Q ≡ fixes R

leaves_by : (R A Q : Spe) → Some A ≡ Some Q → A.status ≡ R.status → fixes A ≡ fixes R → Leaves R Q
leaves_by R A Q is status fixed = let same : A ≡ Q = cc in record { status = rw (← same) status; fixes = rw (← same) fixed }

status_leaves : (R Q : Spe) (rt : ℕ) (o : Option TagStatus) → read_status R rt o ≡ Some Q → Leaves R Q
status_leaves R Q rt None h = absurd (cc)
status_leaves R Q rt (Some status) h = leaves_by R _ Q h refl refl

atomic_leaves : (R Q : Spe) (rt : ℕ) (o : Option ℕ) → read_atomic R rt o ≡ Some Q → Leaves R Q
atomic_leaves R Q rt None h = absurd (cc)
atomic_leaves R Q rt (Some status) h = leaves_by R _ Q h refl refl

inbound_leaves : (R Q : Spe) (rt : ℕ) (xs : List ℕ) → read_inbound R rt xs ≡ Some Q → Leaves R Q
inbound_leaves R Q rt [] h = absurd (cc)
inbound_leaves R Q rt (x ∷ xs) h = leaves_by R _ Q h refl refl

pub read-0 : (lines : ℕ) (R Q : Spe) (rt : ℕ) → channel lines R (Read rt 0) ≡ Some Q → Leaves R Q
unfolding way_of read_by
read-0 lines R Q rt made = leaves_by R _ Q (read_got lines R Q rt 0 refl made) refl refl

pub read-3 : (lines : ℕ) (R Q : Spe) (rt : ℕ) → channel lines R (Read rt 3) ≡ Some Q → Leaves R Q
unfolding way_of read_by
read-3 lines R Q rt made = leaves_by R _ Q (read_got lines R Q rt 3 refl made) refl refl

pub read-4 : (lines : ℕ) (R Q : Spe) (rt : ℕ) → channel lines R (Read rt 4) ≡ Some Q → Leaves R Q
unfolding way_of read_by
read-4 lines R Q rt made = leaves_by R _ Q (read_got lines R Q rt 4 refl made) refl refl

pub read-11 : (lines : ℕ) (R Q : Spe) (rt : ℕ) → channel lines R (Read rt 11) ≡ Some Q → Leaves R Q
unfolding way_of read_by
read-11 lines R Q rt made = leaves_by R _ Q (read_got lines R Q rt 11 refl made) refl refl

pub read-12 : (lines : ℕ) (R Q : Spe) (rt : ℕ) → channel lines R (Read rt 12) ≡ Some Q → Leaves R Q
unfolding way_of read_by
read-12 lines R Q rt made = leaves_by R _ Q (read_got lines R Q rt 12 refl made) refl refl

pub read-24 : (lines : ℕ) (R Q : Spe) (rt : ℕ) → channel lines R (Read rt 24) ≡ Some Q → Leaves R Q
unfolding way_of read_by
read-24 lines R Q rt made = status_leaves R Q rt R.tags.status (read_got lines R Q rt 24 refl made)

pub read-25 : (lines : ℕ) (R Q : Spe) (rt : ℕ) → channel lines R (Read rt 25) ≡ Some Q → Leaves R Q
unfolding way_of read_by
read-25 lines R Q rt made = leaves_by R _ Q (read_got lines R Q rt 25 refl made) refl refl

pub read-27 : (lines : ℕ) (R Q : Spe) (rt : ℕ) → channel lines R (Read rt 27) ≡ Some Q → Leaves R Q
unfolding way_of read_by
read-27 lines R Q rt made = atomic_leaves R Q rt R.channels.atomic (read_got lines R Q rt 27 refl made)

pub read-29 : (lines : ℕ) (R Q : Spe) (rt : ℕ) → channel lines R (Read rt 29) ≡ Some Q → Leaves R Q
unfolding way_of read_by
read-29 lines R Q rt made = inbound_leaves R Q rt R.inbound (read_got lines R Q rt 29 refl made)

-- a channel that isn't read
pub bad-off : (R Q : Spe) (o : Option Spe) → o ≡ Some (bad_channel R) → o ≡ Some Q → (is_running Q.status ≡ false) × (fixes Q ≡ fixes R)
bad-off R Q o bad made = let same : bad_channel R ≡ Q = cc in rw (← same) (refl, refl)

pub read-rest : (lines : ℕ) (R Q : Spe) (rt ch : ℕ) → ch ≢ 0 → ch ≢ 3 → ch ≢ 4 → ch ≢ 11 → ch ≢ 12 → ch ≢ 24 → ch ≢ 25 → ch ≢ 27 → ch ≢ 29 → channel lines R (Read rt ch) ≡ Some Q → is_running Q.status ≡ false
read-rest lines R Q rt ch s t u v a b d e f made = (bad-off R Q _ (read-bad lines R rt ch s t u v a b d e f) made).0

-- ---- counts

pub count-there : (lines : ℕ) (R Q : Spe) (rt ch : ℕ) → is_some (way_of ch) ≡ true → channel lines R (Count rt ch) ≡ Some Q → Leaves R Q
count-there lines R Q rt ch there made = leaves_by R _ Q (sym (count-given lines R rt ch there) ∙ made) refl refl

pub count-absent : (lines : ℕ) (R Q : Spe) (rt ch : ℕ) → is_some (way_of ch) ≡ false → channel lines R (Count rt ch) ≡ Some Q → is_running Q.status ≡ false
count-absent lines R Q rt ch absent made = (bad-off R Q _ (count-bad lines R rt ch absent) made).0

-- ---- writes

write_made : (lines : ℕ) (R Q : Spe) (ch value : ℕ) → is_write (way_of ch) ≡ true → channel lines R (Write ch value) ≡ Some Q → Some (written lines R ch value) ≡ Some Q
unfolding channel
write_made lines R Q ch value way made = read_on (is_write (way_of ch)) (may_write R ch value) (Some (written lines R ch value)) (bad_channel R) Q made way

pub write-1 : (lines : ℕ) (R Q : Spe) (value : ℕ) → channel lines R (Write 1 value) ≡ Some Q → Leaves R Q
unfolding way_of written
write-1 lines R Q value made = leaves_by R _ Q (write_made lines R Q 1 value refl made) refl refl

pub write-2 : (lines : ℕ) (R Q : Spe) (value : ℕ) → channel lines R (Write 2 value) ≡ Some Q → Leaves R Q
unfolding way_of written
write-2 lines R Q value made = leaves_by R _ Q (write_made lines R Q 2 value refl made) refl refl

pub write-22 : (lines : ℕ) (R Q : Spe) (value : ℕ) → channel lines R (Write 22 value) ≡ Some Q → Leaves R Q
unfolding way_of written
write-22 lines R Q value made = leaves_by R _ Q (write_made lines R Q 22 value refl made) refl refl

pub write-28 : (lines : ℕ) (R Q : Spe) (value : ℕ) → channel lines R (Write 28 value) ≡ Some Q → Leaves R Q
unfolding way_of written
write-28 lines R Q value made = leaves_by R _ Q (write_made lines R Q 28 value refl made) refl refl

pub write-30 : (lines : ℕ) (R Q : Spe) (value : ℕ) → channel lines R (Write 30 value) ≡ Some Q → Leaves R Q
unfolding way_of written
write-30 lines R Q value made = leaves_by R _ Q (write_made lines R Q 30 value refl made) refl refl

pub write-of_param : (lines : ℕ) (R Q : Spe) (ch value : ℕ) → (nat_le 16 ch && nat_le ch 20) ≡ true → channel lines R (Write ch value) ≡ Some Q → Leaves R Q
write-of_param lines R Q ch value is made = leaves_by R _ Q (sym (write-param lines R ch value is) ∙ made) refl refl

pub write-rest : (lines : ℕ) (R Q : Spe) (ch value : ℕ) → (nat_le 16 ch && nat_le ch 20) ≡ false → ch ≢ 1 → ch ≢ 2 → ch ≢ 21 → ch ≢ 22 → ch ≢ 23 → ch ≢ 26 → ch ≢ 28 → ch ≢ 30 → channel lines R (Write ch value) ≡ Some Q → is_running Q.status ≡ false
write-rest lines R Q ch value p s t a b d e f g made = (bad-off R Q _ (write-bad lines R ch value p s t a b d e f g) made).0

pub param-told : (spe : ℕ) (P Q : Spe) (ch value : ℕ) → ch ≢ 21 → ch ≢ 26 → ch ≢ 28 → ch ≢ 30 → told_by spe P Q (Write ch value) ≡ Nothing
param-told spe P Q ch value a b d e = rw (off ch 21 a, off ch 26 b, off ch 28 d, off ch 30 e) refl

-- what a step leaves that changes what a request waits for
pub record Brings (R Q : Spe) (fixed : Bool) : Type 0 where
  pub status : Q.status ≡ R.status
  pub fixes : fixes Q ≡ fixed

brings_by : (R A Q : Spe) (fixed : Bool) → Some A ≡ Some Q → A.status ≡ R.status → fixes A ≡ fixed → Brings R Q fixed
brings_by R A Q fixed is status fixes_so = let same : A ≡ Q = cc in record { status = rw (← same) status; fixes = rw (← same) fixes_so }

pub write-23 : (lines : ℕ) (R Q : Spe) (value : ℕ) → channel lines R (Write 23 value) ≡ Some Q → Brings R Q (is_fixed (requested R.tags value) R.moves)
unfolding way_of written
write-23 lines R Q value made = brings_by R _ Q _ (write_made lines R Q 23 value refl made) refl refl

pub write-26 : (lines : ℕ) (R Q : Spe) (value : ℕ) → channel lines R (Write 26 value) ≡ Some Q → Brings R Q (is_fixed R.tags (with_resumed R.moves (stalls_of_tag R.moves value)))
unfolding way_of written acknowledged
write-26 lines R Q value made = brings_by R _ Q _ (write_made lines R Q 26 value refl made) refl refl

-- ---- commands

command_made : (lines : ℕ) (R Q : Spe) (op : ℕ) → channel lines R (Write 21 op) ≡ Some Q → Some (commanded lines R op) ≡ Some Q
unfolding way_of written
command_made lines R Q op made = write_made lines R Q 21 op refl made

pub command-queued : (lines : ℕ) (R Q : Spe) (op : ℕ) (d : Command) → checked R.channels.params op lines ≡ Ok (Queued d) → channel lines R (Write 21 op) ≡ Some Q
    → Brings R Q (is_fixed R.tags (with_issued R.moves d)) × (Q.moves.issued ≡ R.moves.issued ++ d ∷ [])
command-queued lines R Q op d is made =
    let came : Some (went_on (record R { moves = with_issued R.moves d })) ≡ Some Q = ap Some (sym (commanded-queued lines R op d is)) ∙ command_made lines R Q op made in
    let same : went_on (record R { moves = with_issued R.moves d }) ≡ Q = cc in
    (brings_by R _ Q _ came refl refl, sym (ap (λ (S : Spe). S.moves.issued) same))

pub command-line : (lines : ℕ) (R Q : Spe) (op : ℕ) (a : AtomicOp) → checked R.channels.params op lines ≡ Ok (Atomic a) → channel lines R (Write 21 op) ≡ Some Q
    → Leaves R Q × (Q.moves.issued ≡ R.moves.issued)
command-line lines R Q op a is made =
    let came : Some (went_on (record R { channels = record R.channels { slot = Some a } })) ≡ Some Q = ap Some (sym (commanded-line lines R op a is)) ∙ command_made lines R Q op made in
    let same : went_on (record R { channels = record R.channels { slot = Some a } }) ≡ Q = cc in
    (leaves_by R _ Q came refl refl, sym (ap (λ (S : Spe). S.moves.issued) same))

pub command-fault : (lines : ℕ) (R Q : Spe) (op : ℕ) (kind : Fault) → checked R.channels.params op lines ≡ Err kind → channel lines R (Write 21 op) ≡ Some Q
    → (is_running Q.status ≡ false) × (fixes Q ≡ fixes R)
command-fault lines R Q op kind is made =
    let same : commanded lines R op ≡ Q = let m = command_made lines R Q op made in cc in
    rw (← same, commanded-fault lines R op kind is) (refl, refl)

-- a command that isn't allowed isn't made
pub never-made : (lines : ℕ) (R Q : Spe) (op : ℕ) → may_write R 21 op ≡ false → channel lines R (Write 21 op) ≡ Some Q → ⊥
never-made lines R Q op off made = let none = command-off lines R op off in absurd (cc)

at_end : (xs : List Command) (d : Command) → slice_get (xs ++ d ∷ []) (length xs) ≡ Some d
at_end [] d = refl
at_end (x ∷ xs) d = at_end xs d

pub queued-told : (lines spe op : ℕ) (P Q : Spe) (registers : List (List ℕ)) (store : List ℕ) (d : Command) → checked P.channels.params op lines ≡ Ok (Queued d)
    → channel lines (record P { registers = registers; store = store }) (Write 21 op) ≡ Some Q → told spe P Q (Some (Write 21 op)) ≡ Issue (length P.moves.issued) d
queued-told lines spe op P Q registers store d is made =
    let came = command-queued lines (record P { registers = registers; store = store }) Q op d is made in
    told-on spe P Q (Some (Write 21 op)) came.0.status
    ∙ ap (λ o. option_map_or (Issue (length P.moves.issued)) o AtomicIssue) (ap (λ xs. slice_get xs (length P.moves.issued)) came.1 ∙ at_end P.moves.issued d)

pub line-told : (lines spe op : ℕ) (P Q : Spe) (registers : List (List ℕ)) (store : List ℕ) (a : AtomicOp) → checked P.channels.params op lines ≡ Ok (Atomic a)
    → channel lines (record P { registers = registers; store = store }) (Write 21 op) ≡ Some Q → told spe P Q (Some (Write 21 op)) ≡ AtomicIssue
line-told lines spe op P Q registers store a is made =
    let came = command-line lines (record P { registers = registers; store = store }) Q op a is made in
    told-on spe P Q (Some (Write 21 op)) came.0.status
    ∙ ap (λ o. option_map_or (Issue (length P.moves.issued)) o AtomicIssue) (ap (λ xs. slice_get xs (length P.moves.issued)) came.1 ∙ slice_get_past P.moves.issued (length P.moves.issued) (omega arith))

-- ---- statuses fixed by the other operations

-- what each of some outcomes leaves, the one that comes leaves
by_test : (b : Bool) (A B R : Spe) → fixes A ≡ fixes R → fixes B ≡ fixes R → fixes (cond b A B) ≡ fixes R
by_test true A B R x y = x
by_test false A B R x y = y

written_fixes : (lines : ℕ) (R : Spe) (ch value : ℕ) → ch ≢ 21 → ch ≢ 23 → ch ≢ 26 → fixes (written lines R ch value) ≡ fixes R
unfolding written
written_fixes lines R ch value a b d =
    rw (off ch 21 a, off ch 23 b, off ch 26 d)
    (by_test (ch == 1) _ _ R refl (by_test (ch == 2) _ _ R refl (by_test (ch == 22) _ _ R refl (by_test (ch == 28) _ _ R refl (by_test (ch == 30) _ _ R refl refl)))))

made_fixes : (b c : Bool) (A bad Q R : Spe) → cond b (cond c (Some A) None) (Some bad) ≡ Some Q → fixes A ≡ fixes R → fixes bad ≡ fixes R → fixes Q ≡ fixes R
made_fixes true true A bad Q R h x y = let same : A ≡ Q = cc in rw (← same) x
made_fixes true false A bad Q R h x y = absurd (cc)
made_fixes false c A bad Q R h x y = let same : bad ≡ Q = cc in rw (← same) y

pub write-fixes : (lines : ℕ) (R Q : Spe) (ch value : ℕ) → ch ≢ 21 → ch ≢ 23 → ch ≢ 26 → channel lines R (Write ch value) ≡ Some Q → fixes Q ≡ fixes R
unfolding channel
write-fixes lines R Q ch value a b d made = made_fixes (is_write (way_of ch)) (may_write R ch value) _ (bad_channel R) Q R made (written_fixes lines R ch value a b d) refl

if_fixes : (b : Bool) (o r : Option Spe) (Q R : Spe) → (o ≡ Some Q → fixes Q ≡ fixes R) → (r ≡ Some Q → fixes Q ≡ fixes R) → cond b o r ≡ Some Q → fixes Q ≡ fixes R
if_fixes true o r Q R h k made = h made
if_fixes false o r Q R h k made = k made

read_by_fixes : (R Q : Spe) (rt ch : ℕ) → read_by R rt ch ≡ Some Q → fixes Q ≡ fixes R
unfolding read_by
read_by_fixes R Q rt ch h =
    let stays : (A : Spe) → A.status ≡ R.status → fixes A ≡ fixes R → Some A ≡ Some Q → fixes Q ≡ fixes R = λ A s f e. (leaves_by R A Q e s f).fixes in
    if_fixes (ch == 0) _ _ Q R (stays _ refl refl) (if_fixes (ch == 3) _ _ Q R (stays _ refl refl) (if_fixes (ch == 4) _ _ Q R (stays _ refl refl) (if_fixes (ch == 11) _ _ Q R (stays _ refl refl)
    (if_fixes (ch == 12) _ _ Q R (stays _ refl refl) (if_fixes (ch == 24) _ _ Q R (λ e. (status_leaves R Q rt R.tags.status e).fixes)
    (if_fixes (ch == 25) _ _ Q R (stays _ refl refl) (if_fixes (ch == 27) _ _ Q R (λ e. (atomic_leaves R Q rt R.channels.atomic e).fixes)
    (if_fixes (ch == 29) _ _ Q R (λ e. (inbound_leaves R Q rt R.inbound e).fixes) (λ e. absurd (let none : None ≡ Some Q = e in cc)))))))))) h

read_fixes : (lines : ℕ) (R Q : Spe) (rt ch : ℕ) → channel lines R (Read rt ch) ≡ Some Q → fixes Q ≡ fixes R
unfolding channel
read_fixes lines R Q rt ch made = on (is_read (way_of ch)) (may_read R ch) (read_by R rt ch) (read_by_fixes R Q rt ch) made
  where
    on : (b c : Bool) (o : Option Spe) → (o ≡ Some Q → fixes Q ≡ fixes R) → cond b (cond c o None) (Some (bad_channel R)) ≡ Some Q → fixes Q ≡ fixes R
    on true true o h k = h k
    on true false o h k = absurd (cc)
    on false c o h k = (bad-off R Q _ refl k).1

count_fixes : (lines : ℕ) (R Q : Spe) (rt ch : ℕ) → channel lines R (Count rt ch) ≡ Some Q → fixes Q ≡ fixes R
count_fixes lines R Q rt ch made = on (is_some (way_of ch)) refl
  where
    on : (b : Bool) → is_some (way_of ch) ≡ b → fixes Q ≡ fixes R
    on true there = (count-there lines R Q rt ch there made).fixes
    on false absent = (bad-off R Q _ (count-bad lines R rt ch absent) made).1

-- ---- what follows an instruction

flow_made : (A Q : Spe) → Some A ≡ Some Q → A ≡ Q
flow_made A Q h = cc

pub next-told : (lines spe pc : ℕ) (P Q : Spe) (registers : List (List ℕ)) (store : List ℕ) → followed lines (record P { registers = registers; store = store }) (Next pc) ≡ Some Q → told spe P Q None ≡ Nothing
next-told lines spe pc P Q registers store made = told-on spe P Q None (sym (ap (λ (S : Spe). S.status) (flow_made _ Q made)))

pub stop-told : (lines spe code next : ℕ) (P Q : Spe) (registers : List (List ℕ)) (store : List ℕ) → is_running P.status ≡ true → followed lines (record P { registers = registers; store = store }) (Stop code next) ≡ Some Q → told spe P Q None ≡ Ended
stop-told lines spe code next P Q registers store on made = told-off spe P Q None on (sym (ap (λ (S : Spe). is_running S.status) (flow_made _ Q made)))

pub halt-told : (lines spe next : ℕ) (P Q : Spe) (registers : List (List ℕ)) (store : List ℕ) → is_running P.status ≡ true → followed lines (record P { registers = registers; store = store }) (Halt next) ≡ Some Q → told spe P Q None ≡ Ended
halt-told lines spe next P Q registers store on made = told-off spe P Q None on (sym (ap (λ (S : Spe). is_running S.status) (flow_made _ Q made)))

-- all but a channel operation leaves what a request waits for
pub flow-fixes : (lines : ℕ) (R Q : Spe) (flow : Flow) → ((op : ChannelOp) → flow ≡ Channel op → ⊥) → followed lines R flow ≡ Some Q → fixes Q ≡ fixes R
flow-fixes lines R Q (Next pc) other made = sym (ap fixes (flow_made _ Q made))
flow-fixes lines R Q (Stop code next) other made = sym (ap fixes (flow_made _ Q made))
flow-fixes lines R Q (Halt next) other made = sym (ap fixes (flow_made _ Q made))
flow-fixes lines R Q (Channel op) other made = absurd (other op refl)

-- and so does all but a write
pub operation-fixes : (lines : ℕ) (R Q : Spe) (op : ChannelOp) → ((ch value : ℕ) → op ≡ Write ch value → ⊥) → channel lines R op ≡ Some Q → fixes Q ≡ fixes R
operation-fixes lines R Q (Read rt ch) other made = read_fixes lines R Q rt ch made
operation-fixes lines R Q (Count rt ch) other made = count_fixes lines R Q rt ch made
operation-fixes lines R Q (Write ch value) other made = absurd (other ch value refl)
