-- The effect of an instruction, as the code comes to it.
use Rattle.std.proofs.Common.{◌≡◌, ℕ, List, refl, sym, ◌∙◌, ap, true≢false}
use Rattle.std.specs.Prelude.{Option, Some, None, is_some, Bool, true, false}
use Rattle.std.specs.Option.{option_map, option_and_then}
use Rattle.spu_decode.specs.declared.Instr.{Instr}
use Rattle.spu_decode.specs.Spelling.{instr_of}
use Rattle.spu_regs.specs.Registers.{register}
use Rattle.local_store.specs.Store.{word_at}
use Rattle.spu_exec.specs.declared.flow.Flow.{Flow}
use Rattle.spu_exec.specs.Meaning.{meaning, loaded_at, stored_at}
use Rattle.cell_machine.specs.declared.processor.Processor.{Processor}
use Rattle.cell_machine.specs.declared.status.Status.TheVariants.{BadWord}
use Rattle.cell_machine.specs.declared.effect.Span.{Span}
use Rattle.cell_machine.specs.declared.effect.Note.{Note}
use Rattle.cell_machine.specs.declared.effect.Note.TheVariants.{Ended}
use Rattle.cell_machine.specs.declared.effect.Effect.{Effect}
use Rattle.cell_machine.specs.Spe.{Spe, is_running}
use Rattle.cell_machine.specs.Exec.{exec, followed, op_of, asks, asked_by}
use Rattle.cell_machine.specs.Effects.{nowhere, in_store, quad_in, instr, loads_at, stores_at, told, fixes, exec_effect}
use Rattle.cell_machine.specs.Shows.{ShowsSpe}
use Rattle.cell_machine.proofs.Execs.{exec-stopped, exec-bad_word, exec-made}
use Rattle.cell_machine.proofs.Telling.{told-off}

-- one that is allowed is of a processor that runs
pub exec-runs : (lines : ℕ) (P : Spe) → is_some (exec lines P) ≡ true → is_running P.status ≡ true
exec-runs lines P h = on (is_running P.status) refl
  where
    on : (b : Bool) → is_running P.status ≡ b → b ≡ true
    on true e = refl
    on false e = absurd (true≢false (sym h ∙ ap is_some (exec-stopped lines P e)))

abbrev of : Span → Span → Span → Note → Bool → Effect
of a b c n f = record { fetch = a; reads = b; writes = c; note = n; fixed = f }

same : (a a2 b b2 c c2 : Span) (n n2 : Note) (f f2 : Bool) → a ≡ a2 → b ≡ b2 → c ≡ c2 → n ≡ n2 → f ≡ f2 → Some (of a b c n f) ≡ Some (of a2 b2 c2 n2 f2)
same a a2 b b2 c c2 n n2 f f2 d e g h k = rw (d, e, g, h, k) refl

pub instr_is : (c : Processor) (P : Spe) (o : Option Instr) → ShowsSpe c P → instr_of (word_at c.store c.pc) ≡ o → instr P ≡ o
instr_is c P o shows is = rw (shows.store, shows.pc) is

asks_is : (P : Spe) (o : Option Instr) → instr P ≡ o → asks P ≡ asked_by P o
unfolding asks
asks_is P o is = ap (asked_by P) is

pub bad_word-effect : (lines spe : ℕ) (c : Processor) (P : Spe) (fetch reads writes : Span) (fixed : Bool) → ShowsSpe c P → is_some (exec lines P) ≡ true → instr_of (word_at c.store c.pc) ≡ None
    → fetch ≡ in_store spe c.pc 4 → reads ≡ nowhere → writes ≡ nowhere → fixed ≡ fixes P
    → Some (of fetch reads writes Ended fixed) ≡ option_map (exec_effect spe P) (exec lines P)
bad_word-effect lines spe c P fetch reads writes fixed shows may none fetch_is reads_is writes_is fixed_is =
    let runs = exec-runs lines P may in
    let Q : Spe = record P { status = BadWord } in
    let bad = instr_is c P None shows none in
    same _ _ _ _ _ _ _ _ _ _ (fetch_is ∙ ap (λ at. in_store spe at 4) (sym shows.pc))
    (reads_is ∙ ap (λ o. quad_in spe (option_and_then (loads_at P) o)) (sym bad))
    (writes_is ∙ ap (λ o. quad_in spe (option_and_then (stores_at P) o)) (sym bad))
    (sym (told-off spe P Q (asks P) runs refl)) fixed_is
    ∙ ap (option_map (exec_effect spe P)) (sym (exec-bad_word lines c P shows (ap is_running (sym shows.status) ∙ runs) none))

pub instruction-effect : (lines spe : ℕ) (c : Processor) (P : Spe) (i : Instr) (flow : Flow) (fetch reads writes : Span) (note : Note) (fixed : Bool) → ShowsSpe c P → is_some (exec lines P) ≡ true → instr_of (word_at c.store c.pc) ≡ Some i
    → ((store : List ℕ) → flow ≡ (meaning i c.pc c.registers store).flow)
    → fetch ≡ in_store spe c.pc 4
    → reads ≡ quad_in spe (loaded_at i.row i.imm c.pc (register c.registers i.ra) (register c.registers i.rb))
    → writes ≡ quad_in spe (stored_at i.row i.imm c.pc (register c.registers i.ra) (register c.registers i.rb))
    → ((Q : Spe) (registers : List (List ℕ)) (store : List ℕ) → is_running P.status ≡ true → followed lines (record P { registers = registers; store = store }) flow ≡ Some Q → note ≡ told spe P Q (op_of flow))
    → ((Q : Spe) (registers : List (List ℕ)) (store : List ℕ) → followed lines (record P { registers = registers; store = store }) flow ≡ Some Q → fixed ≡ fixes Q)
    → Some (of fetch reads writes note fixed) ≡ option_map (exec_effect spe P) (exec lines P)
instruction-effect lines spe c P i flow fetch reads writes note fixed shows may some flow_is fetch_is reads_is writes_is tells fixes_so = on (exec lines P) refl may
  where
    on : (o : Option Spe) → exec lines P ≡ o → is_some o ≡ true → Some (of fetch reads writes note fixed) ≡ option_map (exec_effect spe P) o
    on None is there = absurd (true≢false (sym there))
    on (Some Q) is there =
        let runs = exec-runs lines P may in
        let o = meaning i c.pc c.registers c.store in
        let made : followed lines (record P { registers = o.regs; store = o.store }) flow ≡ Some Q =
        ap (followed lines (record P { registers = o.regs; store = o.store })) (flow_is c.store) ∙ sym (exec-made lines c P i o shows (ap is_running (sym shows.status) ∙ runs) some refl) ∙ is in
        let here = instr_is c P (Some i) shows some in
        let asks_so : op_of flow ≡ asks P =
        ap op_of (flow_is P.store) ∙ rw (← shows.pc, ← shows.registers) refl ∙ sym (asks_is P (Some i) here) in
        same _ _ _ _ _ _ _ _ _ _ (fetch_is ∙ ap (λ at. in_store spe at 4) (sym shows.pc))
        (reads_is ∙ rw (← shows.pc, ← shows.registers) refl ∙ ap (λ x. quad_in spe (option_and_then (loads_at P) x)) (sym here))
        (writes_is ∙ rw (← shows.pc, ← shows.registers) refl ∙ ap (λ x. quad_in spe (option_and_then (stores_at P) x)) (sym here))
        (tells Q o.regs o.store runs made ∙ ap (told spe P Q) asks_so)
        (fixes_so Q o.regs o.store made)

-- the same word as the code holds it
pub instr_shown : (c : Processor) (P : Spe) (o : Option Instr) → ShowsSpe c P → instr P ≡ o → instr_of (word_at c.store c.pc) ≡ o
instr_shown c P o shows is = rw (← shows.store, ← shows.pc) is
