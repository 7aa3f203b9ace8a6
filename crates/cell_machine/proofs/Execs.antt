-- One instruction of a processor, as the code comes to it.
use Rattle.std.proofs.Props.{props}
use Rattle.std.proofs.Common.{ℕ, ◌≡◌, true≢false, Bool, refl, sym, ◌∙◌, ap, true, false}
use Rattle.std.specs.Prelude.{Option, Some, None, is_some, IsSome, IsSomeAnd, MatchBool}
use Rattle.std.specs.Bool.{OnFalse}
use Rattle.spu_decode.specs.declared.Instr.{Instr}
use Rattle.spu_decode.specs.Spelling.{instr_of}
use Rattle.spu_exec.specs.declared.flow.Flow.{Flow}
use Rattle.spu_exec.specs.declared.flow.Flow.TheVariants.{Next, Stop, Halt, Channel}
use Rattle.spu_exec.specs.Meaning.{meaning, Outcome}
use Rattle.spu_exec.specs.Places.{IsPlace}
use Rattle.local_store.specs.Store.{word_at}
use Rattle.cell_machine.specs.declared.processor.Processor.{Processor}
use Rattle.cell_machine.specs.declared.status.Status.TheVariants.{BadWord}
use Rattle.cell_machine.specs.Spe.{Spe, is_running}
use Rattle.cell_machine.specs.Channels.{channel}
use Rattle.cell_base.specs.declared.steps.ChannelOp.{ChannelOp}
use Rattle.cell_machine.specs.Exec.{exec, exec_instr, followed, op_of}
use Rattle.cell_machine.specs.Shows.{ShowsSpe, ShowsChannels}

-- one that doesn't run makes no instruction
pub exec-stopped : (lines : ℕ) (P : Spe) → is_running P.status ≡ false → exec lines P ≡ None
unfolding exec
exec-stopped lines P off = rw off refl

-- the instruction at the PC is made of what the code holds
exec-at : (lines : ℕ) (c : Processor) (P : Spe) → ShowsSpe c P → is_running c.status ≡ true → exec lines P ≡ exec_instr lines P (instr_of (word_at c.store c.pc))
unfolding exec
exec-at lines c P shows on = rw (shows.status, on, shows.store, shows.pc) refl

pub exec-bad_word : (lines : ℕ) (c : Processor) (P : Spe) → ShowsSpe c P → is_running c.status ≡ true → instr_of (word_at c.store c.pc) ≡ None → exec lines P ≡ Some (record P { status = BadWord })
exec-bad_word lines c P shows on none = exec-at lines c P shows on ∙ ap (exec_instr lines P) none

pub exec-made : (lines : ℕ) (c : Processor) (P : Spe) (i : Instr) (o : Outcome) → ShowsSpe c P → is_running c.status ≡ true → instr_of (word_at c.store c.pc) ≡ Some i
    → o ≡ meaning i c.pc c.registers c.store → exec lines P ≡ followed lines (record P { registers = o.regs; store = o.store }) o.flow
exec-made lines c P i o shows on some means =
    exec-at lines c P shows on ∙ ap (exec_instr lines P) some
    ∙ rw (shows.pc, shows.registers, shows.store, ← means) refl

-- no value is there
pub none_there : {A : Type 0} (o : Option A) → ((x : A) → o ≡ Some x → ⊥) → o ≡ None
none_there None lacks = refl
none_there (Some x) lacks = absurd (lacks x refl)

-- the code did what follows the instruction, or that isn't allowed
pub exec-follows : (lines : ℕ) (c : Processor) (P : Spe) (i : Instr) (o : Outcome) (b : Bool) (Q : Spe → Type 0) → ShowsSpe c P → is_running c.status ≡ true → instr_of (word_at c.store c.pc) ≡ Some i
    → o ≡ meaning i c.pc c.registers c.store
    → MatchBool b (IsSomeAnd (followed lines (record P { registers = o.regs; store = o.store }) o.flow) Q) (followed lines (record P { registers = o.regs; store = o.store }) o.flow ≡ None)
    → MatchBool b (IsSomeAnd (exec lines P) Q) (exec lines P ≡ None)
exec-follows lines c P i o b Q shows on some means did = rw (exec-made lines c P i o shows on some means) did

-- what an instruction asks for is what its flow asks for
follows-op : (lines : ℕ) (P : Spe) (flow : Flow) (op : ChannelOp) → op_of flow ≡ Some op → followed lines P flow ≡ channel lines P op
follows-op lines P (Next pc) op h = absurd (cc)
follows-op lines P (Stop code next) op h = absurd (cc)
follows-op lines P (Halt next) op h = absurd (cc)
follows-op lines P (Channel asked) op h = let same : asked ≡ op = cc in ap (channel lines P) same

follows-none : (lines : ℕ) (P : Spe) (flow : Flow) → op_of flow ≡ None → is_some (followed lines P flow) ≡ true
follows-none lines P (Next pc) h = refl
follows-none lines P (Stop code next) h = refl
follows-none lines P (Halt next) h = refl
follows-none lines P (Channel op) h = absurd (cc)

-- whether the instruction is allowed
pub may-bad_word : (lines : ℕ) (c : Processor) (P : Spe) → ShowsSpe c P → is_running c.status ≡ true → instr_of (word_at c.store c.pc) ≡ None → true ≡ is_some (exec lines P)
may-bad_word lines c P shows on none = sym (ap is_some (exec-bad_word lines c P shows on none))

pub may-operate : (lines : ℕ) (c : Processor) (P : Spe) (i : Instr) (op : ChannelOp) (b : Bool) → ShowsSpe c P → is_running c.status ≡ true → instr_of (word_at c.store c.pc) ≡ Some i
    → Some op ≡ op_of (meaning i c.pc c.registers c.store).flow → ((lines : ℕ) (Q : Spe) → ShowsChannels c Q → b ≡ is_some (channel lines Q op)) → b ≡ is_some (exec lines P)
may-operate lines c P i op b shows on some asks ready =
    let o = meaning i c.pc c.registers c.store in
    let Q : Spe = record P { registers = o.regs; store = o.store } in
    ready lines Q (record { channels = shows.channels; tags = shows.tags; signals = shows.signals; events = shows.events; queue = shows.queue; inbound = shows.inbound; outbound = shows.outbound; interrupt = shows.interrupt })
    ∙ sym (ap is_some (exec-made lines c P i o shows on some refl ∙ follows-op lines Q o.flow op (sym asks)))

pub may-go_on : (lines : ℕ) (c : Processor) (P : Spe) (i : Instr) → ShowsSpe c P → is_running c.status ≡ true → instr_of (word_at c.store c.pc) ≡ Some i
    → None ≡ op_of (meaning i c.pc c.registers c.store).flow → true ≡ is_some (exec lines P)
may-go_on lines c P i shows on some asks =
    let o = meaning i c.pc c.registers c.store in
    let Q : Spe = record P { registers = o.regs; store = o.store } in
    sym (ap is_some (exec-made lines c P i o shows on some refl) ∙ follows-none lines Q o.flow (sym asks))

-- an address is a place in one way
pub place-prop : (pc : ℕ) → IsProp (IsPlace pc)
place-prop pc = hlevel props

-- only a channel operation is refused, and it leaves the processor as it was
channel_of : (flow : Flow) → IsSome (op_of flow) → (op : ChannelOp) × (flow ≡ Channel op)
channel_of (Next pc) h = absurd (true≢false (sym h))
channel_of (Stop code next) h = absurd (true≢false (sym h))
channel_of (Halt next) h = absurd (true≢false (sym h))
channel_of (Channel op) h = (op, refl)

pub exec-refused : (b : Bool) (x y z : Processor) (flow : Flow) → OnFalse b (z ≡ y) → OnFalse b (IsSome (op_of flow)) → ((op : ChannelOp) → flow ≡ Channel op → y ≡ x) → OnFalse b (z ≡ x)
exec-refused true x y z flow same only kept = tt
exec-refused false x y z flow same only kept = let is = channel_of flow only in same ∙ kept is.0 is.1

-- an instruction that asks for no channel is allowed, and a bad word too
pub may-quiet : (lines : ℕ) (c : Processor) (P : Spe) (o : Option Instr) → ShowsSpe c P → is_running c.status ≡ true → instr_of (word_at c.store c.pc) ≡ o
    → ((i : Instr) → o ≡ Some i → op_of (meaning i c.pc c.registers c.store).flow ≡ None) → true ≡ is_some (exec lines P)
may-quiet lines c P None shows on is none = may-bad_word lines c P shows on is
may-quiet lines c P (Some i) shows on is none = may-go_on lines c P i shows on is (sym (none i refl))
