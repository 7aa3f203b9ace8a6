-- The reach of a processor's next instruction, and its effect.
use Rattle.std.proofs.Common.{◌≡◌, ℕ, ◌<◌, ◌≤◌, ap, refl, sym, subst, ◌∙◌, arith, List, length, true≢false}
use Rattle.std.specs.Prelude.{Option, Some, None, Bool, true, false, not, ◌==◌, ◌&&◌, is_none, is_some, IsSomeAnd, nat_lt, slice_get}
use Rattle.std.specs.Option.{option_map}
use Rattle.std.proofs.lemmas.Bool.Decides.{nat_tests}
use Rattle.cell_base.specs.declared.steps.Step.TheVariants.{Exec}
use Rattle.spu_decode.specs.declared.Instr.{Instr}
use Rattle.spu_regs.specs.Registers.{register}
use Rattle.spu_exec.specs.declared.flow.Flow.{Flow}
use Rattle.spu_exec.specs.declared.flow.Flow.TheVariants.{Next, Stop, Halt, Channel}
use Rattle.spu_exec.specs.Meaning.{flow_of, loaded_at, meaning, stored_at}
use Rattle.cell_machine.specs.declared.processor.Processor.{Processor}
use Rattle.cell_machine.specs.declared.effect.Reach.{Reach}
use Rattle.cell_machine.specs.declared.effect.Reach.TheVariants.{Registers, Store, Other}
use Rattle.cell_machine.specs.declared.effect.Span.{Span}
use Rattle.cell_machine.specs.declared.effect.Note.TheVariants.{Nothing}
use Rattle.cell_machine.specs.declared.effect.Effect.{Effect}
use Rattle.cell_machine.specs.Spe.{Spe, is_running}
use Rattle.cell_machine.specs.State.{State}
use Rattle.cell_machine.specs.Memory.{lines_of}
use Rattle.cell_machine.specs.Exec.{asks, asked_by, exec, exec_instr, followed, op_of}
use Rattle.cell_machine.specs.Effects.{effect_in, effect_of, exec_effect, fixes, in_store, instr, nowhere, quad_in, told}
use Rattle.cell_machine.specs.Run.{Ran, spe_of, state_of}
use Rattle.cell_machine.specs.Reaches.{reach, reach_in, reach_of, HasReach, IsPlain}
use Rattle.cell_machine.specs.ReachLaws.{goes_on, uses_no_bytes, FitsReach}
use Rattle.cell_machine.specs.Shows.{ShowsSpe}
use Rattle.cell_machine.proofs.InstructionEffects.{instr_shown, instruction-effect}
use Rattle.cell_machine.proofs.MachineEffects.{effect-allowed}
use Rattle.cell_machine.proofs.Telling.{told-on}

-- ---- a flow that goes on

next_flow : (flow : Flow) → goes_on flow ≡ true → (pc : ℕ) × (flow ≡ Next pc)
next_flow (Next pc) goes = (pc, refl)
next_flow (Stop code next) goes = absurd (true≢false (sym goes))
next_flow (Halt next) goes = absurd (true≢false (sym goes))
next_flow (Channel op) goes = absurd (true≢false (sym goes))

goes-tells : (lines spe : ℕ) (P Q R : Spe) (flow : Flow) → goes_on flow ≡ true → R.status ≡ P.status → followed lines R flow ≡ Some Q → Nothing ≡ told spe P Q (op_of flow)
goes-tells lines spe P Q R (Next pc) goes status made = sym (told-on spe P Q None (ap (λ (S : Spe). S.status) (sym (let same : record R { pc = pc } ≡ Q = cc in same)) ∙ status))
goes-tells lines spe P Q R (Stop code next) goes status made = absurd (true≢false (sym goes))
goes-tells lines spe P Q R (Halt next) goes status made = absurd (true≢false (sym goes))
goes-tells lines spe P Q R (Channel op) goes status made = absurd (true≢false (sym goes))

goes-fixes : (lines : ℕ) (P Q R : Spe) (flow : Flow) → goes_on flow ≡ true → fixes R ≡ fixes P → followed lines R flow ≡ Some Q → fixes P ≡ fixes Q
goes-fixes lines P Q R (Next pc) goes same made = sym same ∙ ap fixes (let is : record R { pc = pc } ≡ Q = cc in is)
goes-fixes lines P Q R (Stop code next) goes same made = absurd (true≢false (sym goes))
goes-fixes lines P Q R (Halt next) goes same made = absurd (true≢false (sym goes))
goes-fixes lines P Q R (Channel op) goes same made = absurd (true≢false (sym goes))

goes-on : (lines : ℕ) (R : Spe) (flow : Flow) → goes_on flow ≡ true → (Q : Spe) × (followed lines R flow ≡ Some Q)
goes-on lines R (Next pc) goes = (record R { pc = pc }, refl)
goes-on lines R (Stop code next) goes = absurd (true≢false (sym goes))
goes-on lines R (Halt next) goes = absurd (true≢false (sym goes))
goes-on lines R (Channel op) goes = absurd (true≢false (sym goes))

goes-asks : (flow : Flow) → goes_on flow ≡ true → op_of flow ≡ None
goes-asks (Next pc) goes = refl
goes-asks (Stop code next) goes = absurd (true≢false (sym goes))
goes-asks (Halt next) goes = absurd (true≢false (sym goes))
goes-asks (Channel op) goes = absurd (true≢false (sym goes))

-- ---- bytes

no-bytes : (spe : ℕ) (x y : Option ℕ) → (is_none x && is_none y) ≡ true → (nowhere ≡ quad_in spe x) × (nowhere ≡ quad_in spe y)
no-bytes spe None None h = (refl, refl)
no-bytes spe None (Some y) h = absurd (true≢false (sym h))
no-bytes spe (Some x) y h = absurd (true≢false (sym h))

bytes-of : (spe : ℕ) (x y : Option ℕ) (b : Bool) → (is_none x && is_none y) ≡ b → ((quad_in spe x).len == 0 && (quad_in spe y).len == 0) ≡ b
bytes-of spe None None b h = h
bytes-of spe None (Some y) b h = h
bytes-of spe (Some x) y b h = h

-- ---- the effect of an instruction that goes on

flow_is : (i : Instr) (pc : ℕ) (registers : List (List ℕ)) (store : List ℕ)
    → (meaning i pc registers store).flow ≡ flow_of i i.row pc (register registers i.ra) (register registers i.rb) (register registers i.rt)
unfolding meaning
flow_is i pc registers store = refl

pub going-effect : (lines spe : ℕ) (c : Processor) (P : Spe) (i : Instr) (fetch reads writes : Span) (fixed : Bool) → ShowsSpe c P → is_some (exec lines P) ≡ true → instr P ≡ Some i
    → ((pc : ℕ) (a b t : List ℕ) → goes_on (flow_of i i.row pc a b t) ≡ true)
    → fetch ≡ in_store spe c.pc 4
    → reads ≡ quad_in spe (loaded_at i.row i.imm c.pc (register c.registers i.ra) (register c.registers i.rb))
    → writes ≡ quad_in spe (stored_at i.row i.imm c.pc (register c.registers i.ra) (register c.registers i.rb))
    → fixed ≡ fixes P
    → Some (record { fetch = fetch; reads = reads; writes = writes; note = Nothing; fixed = fixed }) ≡ option_map (exec_effect spe P) (exec lines P)
going-effect lines spe c P i fetch reads writes fixed shows may some goes fetch_is reads_is writes_is fixed_is =
    let a = register c.registers i.ra in
    let b = register c.registers i.rb in
    let t = register c.registers i.rt in
    let flow = flow_of i i.row c.pc a b t in
    let on = goes c.pc a b t in
    instruction-effect lines spe c P i flow fetch reads writes Nothing fixed shows may (instr_shown c P (Some i) shows some)
    (λ store. sym (flow_is i c.pc c.registers store)) fetch_is reads_is writes_is
    (λ Q registers store runs made. goes-tells lines spe P Q (record P { registers = registers; store = store }) flow on refl made)
    (λ Q registers store made. fixed_is ∙ goes-fixes lines P Q (record P { registers = registers; store = store }) flow on refl made)

-- of one that uses registers alone
pub registers-effect : (lines spe : ℕ) (c : Processor) (P : Spe) (i : Instr) (fetch reads writes : Span) (fixed : Bool) → ShowsSpe c P → is_some (exec lines P) ≡ true → instr P ≡ Some i
    → ((pc : ℕ) (a b t : List ℕ) → goes_on (flow_of i i.row pc a b t) ≡ true) → ((imm pc : ℕ) (a b : List ℕ) → uses_no_bytes i.row imm pc a b ≡ true)
    → fetch ≡ in_store spe c.pc 4 → reads ≡ nowhere → writes ≡ nowhere → fixed ≡ fixes P
    → Some (record { fetch = fetch; reads = reads; writes = writes; note = Nothing; fixed = fixed }) ≡ option_map (exec_effect spe P) (exec lines P)
registers-effect lines spe c P i fetch reads writes fixed shows may some goes none fetch_is reads_is writes_is fixed_is =
    let a = register c.registers i.ra in
    let b = register c.registers i.rb in
    let bytes = no-bytes spe (loaded_at i.row i.imm c.pc a b) (stored_at i.row i.imm c.pc a b) (none i.imm c.pc a b) in
    going-effect lines spe c P i fetch reads writes fixed shows may some goes fetch_is (reads_is ∙ bytes.0) (writes_is ∙ bytes.1) fixed_is

-- the instruction that has a reach other than Other
pub instr-reached : (o : Option Instr) (r : Reach) → reach_of o ≡ r → (r ≡ Other → ⊥) → (i : Instr) × (o ≡ Some i)
instr-reached None r is apart = absurd (apart (sym is))
instr-reached (Some i) r is apart = (i, refl)

-- ---- a reach that isn't Other

reach-of : (P : Spe) (r : Reach) → r ≡ reach P → (r ≡ Other → ⊥) → (i : Instr) × (is_running P.status ≡ true) × (instr P ≡ Some i)
reach-of P r is apart = on (is_running P.status) (instr P) refl refl
  where
    on : (b : Bool) (o : Option Instr) → is_running P.status ≡ b → instr P ≡ o → (i : Instr) × (is_running P.status ≡ true) × (instr P ≡ Some i)
    on true None run some = absurd (apart (is ∙ rw (run, some) refl))
    on true (Some i) run some = (i, run, some)
    on false o run some = absurd (apart (is ∙ rw run refl))

-- it is allowed, asks for no channel, tells nothing, and uses bytes or none
record IsPlainSpe (lines spe : ℕ) (P : Spe) (bytes : Bool) : Type 0 where
  asks : asks P ≡ None
  effect : IsSomeAnd (option_map (exec_effect spe P) (exec lines P)) (λ e. (e.note ≡ Nothing) × (not (e.reads.len == 0 && e.writes.len == 0) ≡ bytes))

instr_at : (P : Spe) (o : Option Instr) → instr P ≡ o → asks P ≡ asked_by P o
unfolding asks
instr_at P o is = ap (asked_by P) is

exec_at : (lines : ℕ) (P : Spe) (i : Instr) → is_running P.status ≡ true → instr P ≡ Some i → exec lines P ≡ exec_instr lines P (Some i)
unfolding exec
exec_at lines P i run some = rw run (ap (exec_instr lines P) some)

plain-spe : (lines spe : ℕ) (P : Spe) (i : Instr) (none : Bool) → is_running P.status ≡ true → instr P ≡ Some i
    → ((pc : ℕ) (a b t : List ℕ) → goes_on (flow_of i i.row pc a b t) ≡ true) → ((imm pc : ℕ) (a b : List ℕ) → uses_no_bytes i.row imm pc a b ≡ none)
    → IsPlainSpe lines spe P (not none)
plain-spe lines spe P i none run some goes uses =
    let o = meaning i P.pc P.registers P.store in
    let a = register P.registers i.ra in
    let b = register P.registers i.rb in
    let t = register P.registers i.rt in
    let on : goes_on o.flow ≡ true = ap goes_on (flow_is i P.pc P.registers P.store) ∙ goes P.pc a b t in
    let R : Spe = record P { registers = o.regs; store = o.store } in
    let next = goes-on lines R o.flow on in
    let Q = next.0 in
    let made : exec lines P ≡ Some Q = exec_at lines P i run some ∙ next.1 in
    let quiet : asks P ≡ None = instr_at P (Some i) some ∙ goes-asks o.flow on in
    let tells : Nothing ≡ told spe P Q (op_of o.flow) = goes-tells lines spe P Q R o.flow on refl next.1 in
    let note : told spe P Q (asks P) ≡ Nothing = ap (told spe P Q) (quiet ∙ sym (goes-asks o.flow on)) ∙ sym tells in
    let bytes = bytes-of spe (loaded_at i.row i.imm P.pc a b) (stored_at i.row i.imm P.pc a b) none (uses i.imm P.pc a b) in
    record {
      asks = quiet;
      effect = rw made (note, rw some (ap not bytes));
    }

-- ---- of a machine

at-of : (m : Ran) (M : State) (p : ℕ) (P : Spe) → state_of m ≡ Some M → slice_get M.spes p ≡ Some P → spe_of m p ≡ Some P
at-of m M p P stands at = rw stands at

effect-at : (m : Ran) (M : State) (p : ℕ) (P : Spe) → state_of m ≡ Some M → slice_get M.spes p ≡ Some P → length m.steps < m.setup.budget
    → effect_in m (Exec p) ≡ option_map (exec_effect p P) (exec (lines_of M.memory) P)
unfolding effect_of
effect-at m M p P stands at within =
    let e : nat_lt (length m.steps) m.setup.budget ≡ true = grind (arith, nat_tests) in
    rw (e, stands, at) refl

some_effect : (o : Option Effect) (Q : Effect → Type 0) → IsSomeAnd o Q → is_some o ≡ true
some_effect None Q h = absurd h
some_effect (Some e) Q h = refl

plain : (m : Ran) (M : State) (p : ℕ) (P : Spe) (bytes : Bool) → state_of m ≡ Some M → slice_get M.spes p ≡ Some P → length m.steps < m.setup.budget
    → IsPlainSpe (lines_of M.memory) p P bytes → IsPlain m p bytes
plain m M p P bytes stands at within is =
    let e = effect-at m M p P stands at within in
    let Q : Effect → Type 0 = λ x. (x.note ≡ Nothing) × (not (x.reads.len == 0 && x.writes.len == 0) ≡ bytes) in
    let effect = subst (λ o. IsSomeAnd o Q) (sym e) is.effect in
    record {
      allowed = (effect-allowed m (Exec p) (effect_in m (Exec p)) refl).0 (some_effect (effect_in m (Exec p)) Q effect);
      asks = rw (at-of m M p P stands at) is.asks;
      effect = effect;
    }

pub registers≢other : Registers ≡ Other → ⊥
registers≢other e = cc

pub store≢other : Store ≡ Other → ⊥
store≢other e = cc

pub has-reach : (m : Ran) (M : State) (p : ℕ) (P : Spe) (r : Reach) → state_of m ≡ Some M → slice_get M.spes p ≡ Some P → length m.steps < m.setup.budget
    → r ≡ reach P → ((i : Instr) → instr P ≡ Some i → FitsReach r i.row) → HasReach r m p
has-reach m M p P Registers stands at within is fits =
    let here = reach-of P Registers is registers≢other in
    let row = fits here.0 here.2 in
    plain m M p P false stands at within (plain-spe (lines_of M.memory) p P here.0 true here.1 here.2 (λ pc a b t. row.goes here.0 pc a b t registers≢other) (λ imm pc a b. row.registers imm pc a b refl))
has-reach m M p P Store stands at within is fits =
    let here = reach-of P Store is store≢other in
    let row = fits here.0 here.2 in
    plain m M p P true stands at within (plain-spe (lines_of M.memory) p P here.0 false here.1 here.2 (λ pc a b t. row.goes here.0 pc a b t store≢other) (λ imm pc a b. row.store imm pc a b refl))
has-reach m M p P Other stands at within is fits = tt

pub reach-is : (m : Ran) (M : State) (p : ℕ) (P : Spe) (r : Reach) → state_of m ≡ Some M → slice_get M.spes p ≡ Some P → length m.steps < m.setup.budget → r ≡ reach P → r ≡ reach_in m p
reach-is m M p P r stands at within is =
    let e : nat_lt (length m.steps) m.setup.budget ≡ true = grind (arith, nat_tests) in
    is ∙ sym (rw (e, stands, at) refl)

pub reach-spent : (m : Ran) (p : ℕ) → m.setup.budget ≤ length m.steps → Other ≡ reach_in m p
reach-spent m p spent =
    let e : nat_lt (length m.steps) m.setup.budget ≡ false = grind (arith, nat_tests) in rw e refl
