-- An instruction with other bytes in the store: but for what it fetches, loads and stores, it is the same.
use Rattle.std.proofs.Common.{◌≡◌, ℕ, refl, sym, ◌∙◌, ap, List, [], ◌∷◌, ◌++◌}
use Rattle.std.specs.Prelude.{Option, Some, None, is_some, option_map, option_and_then, Bool, true, false, cond, ◌==◌, Result, Ok, Err}
use Rattle.cell_base.specs.declared.steps.ChannelOp.{ChannelOp}
use Rattle.cell_base.specs.declared.steps.ChannelOp.TheVariants.{Read, Count, Write}
use Rattle.mfc_command.specs.declared.command.Order.{Order}
use Rattle.mfc_command.specs.declared.command.Order.TheVariants.{Queued, Atomic as AtomicOrder}
use Rattle.mfc_command.specs.declared.command.DmaFault.{DmaFault as Fault}
use Rattle.mfc_command.specs.Check.{checked}
use Rattle.cell_channels.specs.Table.{way_of}
use Rattle.tag_groups.specs.Settle.{requested}
use Rattle.tag_groups.specs.declared.TagStatus.{TagStatus}
use Rattle.spu_decode.specs.declared.Instr.{Instr}
use Rattle.spu_decode.specs.declared.row.Row.{Row}
use Rattle.spu_decode.specs.declared.row.Row.TheVariants.{Lqd, Lqx, Lqa, Lqr}
use Rattle.spu_regs.specs.Registers.{register}
use Rattle.spu_exec.specs.declared.flow.Flow.{Flow}
use Rattle.spu_exec.specs.declared.flow.Flow.TheVariants.{Next, Stop, Halt, Channel}
use Rattle.spu_exec.specs.Meaning.{meaning, value_of, with_value, with_stored, loaded_at}
use Rattle.local_store.specs.Store.{quad_at}
use Rattle.cell_machine.specs.Spe.{Spe, is_running}
use Rattle.cell_signals.specs.Events.{cleared}
use Rattle.cell_machine.specs.Channels.{went_on, is_read, is_write, count, may_read, may_write, channel, read_by, read_inbound, read_status, read_atomic, issued_by, commanded, acknowledged, parameterized, written}
use Rattle.cell_machine.specs.Exec.{exec, followed, outcome}
use Rattle.cell_machine.specs.Effects.{instr, loads_at, stores_at}
use Rattle.cell_machine.specs.EffectLaws.{at_store}

-- f of what a test chooses
map_if : {X Y : Type 0} (f : X → Y) (b : Bool) (x y : Option X) (u v : Option Y) → u ≡ option_map f x → v ≡ option_map f y → cond b u v ≡ option_map f (cond b x y)
map_if f true x y u v g h = g
map_if f false x y u v g h = h

pub of_if : {X Y : Type 0} (f : X → Y) (b : Bool) (x y : X) (u v : Y) → u ≡ f x → v ≡ f y → cond b u v ≡ f (cond b x y)
of_if f true x y u v g h = g
of_if f false x y u v g h = h

-- a store after an instruction of P
abbrev pub store_after : Spe → Option Instr → List ℕ → List ℕ
store_after P None s = s
store_after P (Some i) s = with_stored (stores_at P i) (register P.registers i.rt) s

module _ (lines : ℕ) (P : Spe) (s : List ℕ) where
  issued_moved : (r : Result Order Fault) → issued_by (at_store P s) r ≡ at_store (issued_by P r) s
  issued_moved (Ok (Queued d)) = refl
  issued_moved (Ok (AtomicOrder a)) = refl
  issued_moved (Err kind) = refl

  commanded_moved : (op : ℕ) → commanded lines (at_store P s) op ≡ at_store (commanded lines P op) s
  unfolding commanded
  commanded_moved op = issued_moved (checked P.channels.params op lines)

  written_moved : (ch value : ℕ) → written lines (at_store P s) ch value ≡ at_store (written lines P ch value) s
  unfolding written acknowledged
  written_moved ch value =
      let w22 = went_on (record P { tags = record P.tags { mask = value } }) in
      let w23 = went_on (record P { tags = requested P.tags value }) in
      let w26 = went_on (acknowledged P value) in
      let w28 = went_on (record P { outbound = P.outbound ++ value ∷ [] }) in
      let w30 = went_on (record P { interrupt = P.interrupt ++ value ∷ [] }) in
      let g30 = cond (ch == 30) w30 (went_on (parameterized P ch value)) in
      let g28 = cond (ch == 28) w28 g30 in
      let g26 = cond (ch == 26) w26 g28 in
      let g23 = cond (ch == 23) w23 g26 in
      let g22 = cond (ch == 22) w22 g23 in
      let w1 = went_on (record P { events = record P.events { mask = value } }) in
      let w2 = went_on (record P { events = cleared P.events value }) in
      let g21 = cond (ch == 21) (commanded lines P value) g22 in
      let g2 = cond (ch == 2) w2 g21 in
      of_if (λ Q. at_store Q s) (ch == 1) w1 g2 _ _ refl
      (of_if (λ Q. at_store Q s) (ch == 2) w2 g21 _ _ refl
      (of_if (λ Q. at_store Q s) (ch == 21) (commanded lines P value) g22 _ _ (commanded_moved value)
      (of_if (λ Q. at_store Q s) (ch == 22) w22 g23 _ _ refl
      (of_if (λ Q. at_store Q s) (ch == 23) w23 g26 _ _ refl
      (of_if (λ Q. at_store Q s) (ch == 26) w26 g28 _ _ refl
      (of_if (λ Q. at_store Q s) (ch == 28) w28 g30 _ _ refl
      (of_if (λ Q. at_store Q s) (ch == 30) w30 (went_on (parameterized P ch value)) _ _ refl refl)))))))

  status_moved : (rt : ℕ) (o : Option TagStatus) → read_status (at_store P s) rt o ≡ option_map (λ Q. at_store Q s) (read_status P rt o)
  status_moved rt None = refl
  status_moved rt (Some status) = refl

  atomic_moved : (rt : ℕ) (o : Option ℕ) → read_atomic (at_store P s) rt o ≡ option_map (λ Q. at_store Q s) (read_atomic P rt o)
  atomic_moved rt None = refl
  atomic_moved rt (Some status) = refl

  inbound_moved : (rt : ℕ) (xs : List ℕ) → read_inbound (at_store P s) rt xs ≡ option_map (λ Q. at_store Q s) (read_inbound P rt xs)
  inbound_moved rt [] = refl
  inbound_moved rt (x ∷ xs) = refl

  read_moved : (rt ch : ℕ) → read_by (at_store P s) rt ch ≡ option_map (λ Q. at_store Q s) (read_by P rt ch)
  unfolding read_by
  read_moved rt ch =
      map_if (λ Q. at_store Q s) (ch == 0) _ _ _ _ refl
      (map_if (λ Q. at_store Q s) (ch == 3) _ _ _ _ refl
      (map_if (λ Q. at_store Q s) (ch == 4) _ _ _ _ refl
      (map_if (λ Q. at_store Q s) (ch == 11) _ _ _ _ refl
      (map_if (λ Q. at_store Q s) (ch == 12) _ _ _ _ refl
      (map_if (λ Q. at_store Q s) (ch == 24) _ _ _ _ (status_moved rt P.tags.status)
      (map_if (λ Q. at_store Q s) (ch == 25) _ _ _ _ refl
      (map_if (λ Q. at_store Q s) (ch == 27) _ _ _ _ (atomic_moved rt P.channels.atomic)
      (map_if (λ Q. at_store Q s) (ch == 29) _ _ _ _ (inbound_moved rt P.inbound) refl))))))))

  pub channel-moved : (op : ChannelOp) → channel lines (at_store P s) op ≡ option_map (λ Q. at_store Q s) (channel lines P op)
  unfolding channel count may_write
  channel-moved (Read rt ch) =
      map_if (λ Q. at_store Q s) (is_read (way_of ch)) _ _ _ _ (map_if (λ Q. at_store Q s) (may_read P ch) _ _ _ _ (read_moved rt ch) refl) refl
  channel-moved (Count rt ch) = map_if (λ Q. at_store Q s) (is_some (way_of ch)) _ _ _ _ refl refl
  channel-moved (Write ch value) =
      map_if (λ Q. at_store Q s) (is_write (way_of ch)) _ _ _ _ (map_if (λ Q. at_store Q s) (may_write P ch value) _ _ _ _ (ap Some (written_moved ch value)) refl) refl

  pub followed-moved : (flow : Flow) → followed lines (at_store P s) flow ≡ option_map (λ Q. at_store Q s) (followed lines P flow)
  followed-moved (Next pc) = refl
  followed-moved (Stop code next) = refl
  followed-moved (Halt next) = refl
  followed-moved (Channel op) = channel-moved op

-- what RT becomes depends on the store at the address that the row loads alone
value-same : (row : Row) (imm pc : ℕ) (a b c t s1 s2 : List ℕ)
    → option_map (quad_at s1) (loaded_at row imm pc a b) ≡ option_map (quad_at s2) (loaded_at row imm pc a b) → value_of row imm pc a b c t s1 ≡ value_of row imm pc a b c t s2
value-same Lqd imm pc a b c t s1 s2 h = h
value-same Lqx imm pc a b c t s1 s2 h = h
value-same Lqa imm pc a b c t s1 s2 h = h
value-same Lqr imm pc a b c t s1 s2 h = h
value-same row imm pc a b c t s1 s2 h = refl

instr_moved : (lines : ℕ) (P : Spe) (s : List ℕ) (i : Instr) → option_map (quad_at P.store) (loads_at P i) ≡ option_map (quad_at s) (loads_at P i)
    → outcome lines (at_store P s) (meaning i P.pc P.registers s) ≡ option_map (λ Q. at_store Q (with_stored (stores_at P i) (register P.registers i.rt) s)) (outcome lines P (meaning i P.pc P.registers P.store))
unfolding meaning
instr_moved lines P s i h =
    let a = register P.registers i.ra in
    let b = register P.registers i.rb in
    let t = register P.registers i.rt in
    let c = register P.registers i.rc in
    let same : value_of i.row i.imm P.pc a b c t P.store ≡ value_of i.row i.imm P.pc a b c t s = value-same i.row i.imm P.pc a b c t P.store s h in
    let o = meaning i P.pc P.registers s in
    let n = meaning i P.pc P.registers P.store in
    ap (λ v. followed lines (record P { registers = with_value i.rt v P.registers; store = o.store }) o.flow) (sym same)
    ∙ followed-moved lines (record P { registers = n.regs; store = n.store }) o.store o.flow

-- the instruction at the PC, with another store that has the same word there and the same bytes where it loads
pub exec-moved : (lines : ℕ) (P : Spe) (s : List ℕ) (o : Option Instr) → o ≡ instr P → instr (at_store P s) ≡ o
    → option_map (quad_at P.store) (option_and_then (loads_at P) o) ≡ option_map (quad_at s) (option_and_then (loads_at P) o)
    → exec lines (at_store P s) ≡ option_map (λ Q. at_store Q (store_after P o s)) (exec lines P)
unfolding exec
exec-moved lines P s None e f h = rw (← e, f) (map_if (λ Q. at_store Q s) (is_running P.status) _ _ _ _ refl refl)
exec-moved lines P s (Some i) e f h =
    rw (← e, f) (map_if (λ Q. at_store Q (with_stored (stores_at P i) (register P.registers i.rt) s)) (is_running P.status) _ _ _ _ (instr_moved lines P s i h) refl)
