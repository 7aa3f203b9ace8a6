-- What settledness gives of tag requests and stalls, said by the states; and two laws on stall bits.
use Rattle.std.specs.Prelude.{◌≡◌, ◌≢◌, ◌⊎◌, length, ℕ, ◌<◌, ◌≤◌, ◌^◌, true, false, List, if◌then◌else◌, Some, None, slice_get, bit_or}
use Rattle.mfc_command.specs.declared.command.Command.{Command}
use Rattle.mfc_command.specs.Order.{is_list}
use Rattle.tag_groups.specs.declared.Request.{Request}
use Rattle.cell_base.specs.declared.steps.Step.TheVariants.{Exec, Host}
use Rattle.cell_machine.specs.declared.effect.Note.TheVariants.{Issue, Signal}
use Rattle.cell_machine.specs.Spe.{Moves}
use Rattle.cell_machine.specs.Moves.{is_stalled, is_complete}
use Rattle.cell_machine.specs.Exec.{asks}
use Rattle.cell_machine.specs.Transfers.{is_signal}
use Rattle.cell_machine.specs.Order.{is_step_of}
use Rattle.reorder_laws.specs.SameDeeds.{IsOfEvents}
use Rattle.reorder_laws.specs.Cuts.{has, IsFront, IsCut}
use Rattle.reorder_laws.specs.Recorded.{Recorded, count_of, spe_before, is_exec, asked, owes, stalled_groups, is_stalled_number}

-- each unanswered request is one for all groups of its mask
pub record AsksForAll (request : Request) : Type 0 where
  pub all : 1 < request.how

abbrev pub RequestsAll : Recorded → Type 0
RequestsAll r = (j p : ℕ) (request : Request) → j ≤ r.size → p < count_of r → asked r p j ≡ Some request → AsksForAll request

abbrev pub HasTags : Recorded → Type 0
HasTags r = (j p c : ℕ) (d : Command) → j ≤ r.size → p < count_of r → slice_get (spe_before r p j).moves.issued c ≡ Some d → d.tag < 32

-- where a command comes into the queue, no request is unanswered
abbrev pub QueuesUnasked : Recorded → Type 0
QueuesUnasked r = (j p c : ℕ) (d : Command) → j < r.size → p < count_of r → r.step j ≡ Exec p → (r.effect j).note ≡ Issue c d → asked r p j ≡ None

-- of the commands below n all but fifteen are complete at place j, with all their steps ordered before it
pub record HasRoomBefore (Before : ℕ → ℕ → Type 0) (r : Recorded) (j p n : ℕ) : Type 0 where
  pub unclosed : List ℕ
  pub few : length unclosed ≤ 15
  pub closed : (b : ℕ) → b < n → (has unclosed b ≡ true) ⊎ ((is_complete (spe_before r p j).moves b ≡ true) × ((i : ℕ) → i < r.size → is_step_of p b (r.step i) ≡ true → Before i j))

abbrev pub QueuesHaveRoom : (ℕ → ℕ → Type 0) → Recorded → Type 0
QueuesHaveRoom Before r = (j p c : ℕ) (d : Command) → j < r.size → p < count_of r → r.step j ≡ Exec p → (r.effect j).note ≡ Issue c d → HasRoomBefore Before r j p c

-- while a stall was read and not acknowledged, no step of a list comes
abbrev pub OwedListsRest : (ℕ → ℕ → Type 0) → Recorded → Type 0
OwedListsRest Before r = (D : List ℕ) (j x p c : ℕ) (d : Command) → IsFront Before r.size D j → p < count_of r → x ≤ r.size → IsCut r.size (λ i. is_exec p (r.step i)) D x → owes r p x ≡ true
    → is_step_of p c (r.step j) ≡ true → slice_get (spe_before r p j).moves.issued c ≡ Some d → is_list d.kind ≡ false

-- no command is a signal; no instruction is on a channel of events or signals; and the host signals nothing
abbrev pub SendsNothing : Recorded → Type 0
SendsNothing r = (j p c : ℕ) (d : Command) → j ≤ r.size → p < count_of r → slice_get (spe_before r p j).moves.issued c ≡ Some d → is_signal d.kind ≡ false

abbrev pub HearsNothing : Recorded → Type 0
HearsNothing r = (j p : ℕ) → j < r.size → p < count_of r → r.step j ≡ Exec p → IsOfEvents (asks (spe_before r p j)) → ⊥

abbrev pub HostSignalsNothing : Recorded → Type 0
HostSignalsNothing r = (j q x : ℕ) → j < r.size → r.step j ≡ Host → (r.effect j).note ≡ Signal q x → ⊥

-- where a step lets one command stall at most, the groups get that command's bit at most
abbrev pub StalledMore : Type 0
StalledMore = (m n : Moves) (c : ℕ) (d : Command) → n.issued ≡ m.issued → slice_get m.issued c ≡ Some d → is_stalled m c d ≡ false → ((b : ℕ) → b ≢ c → is_stalled_number n b ≡ is_stalled_number m b)
    → stalled_groups n ≡ (if is_stalled n c d then bit_or (stalled_groups m) (2 ^ d.tag) else stalled_groups m)
