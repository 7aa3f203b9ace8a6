-- What the code moves of a part: between the store and the memory, or to a signal register.
use Rattle.std.proofs.Common.{◌≡◌, ℕ, ◌<◌, Bool, true, false, List, refl, sym, ◌∙◌, ap}
use Rattle.std.specs.Prelude.{Option, Some, None}
use Rattle.lock_lines.specs.Versions.{Reserved}
use Rattle.mfc_command.specs.declared.command.Kind.{Kind}
use Rattle.mfc_command.specs.declared.range.Part.{Part}
use Rattle.mfc_lists.specs.declared.Element.{Element}
use Rattle.cell_machine.specs.declared.memory.SharedMemory.{SharedMemory}
use Rattle.cell_machine.specs.declared.signals.Delivery.{Delivery}
use Rattle.cell_machine.specs.Spe.{Spe}
use Rattle.cell_machine.specs.Memory.{MainMemory}
use Rattle.cell_machine.specs.Moves.{parts_in}
use Rattle.cell_machine.specs.Transfers.{copied, sent, moved, delivery, is_put, is_signal, part_in}
use Rattle.cell_machine.specs.Shows.{ShowsMemory, Loses, IsRemoteChange, IsSignal}
use Rattle.cell_machine.proofs.MemoryShown.{none-loses}
use Rattle.cell_machine.proofs.Raising.{signal-first}

pub sent-spe : (m : MainMemory) (P : Spe) (kind : Kind) (x : Part) (store : List ℕ) → is_signal kind ≡ true → P.store ≡ store → (moved m P kind x).spe ≡ record P { store = store }
unfolding sent
sent-spe m P kind x store h was = rw h (ap (λ s. record P { store = s }) was)

pub sent-memory : (new : SharedMemory) (m : MainMemory) (reserved : List (Option Reserved)) (P : Spe) (kind : Kind) (x : Part) → is_signal kind ≡ true → ShowsMemory new m reserved → ShowsMemory new (moved m P kind x).memory reserved
unfolding sent
sent-memory new m reserved P kind x h shows = rw h shows

pub sent-reaches : (m : MainMemory) (reserved : List (Option Reserved)) (P : Spe) (kind : Kind) (x : Element) (k : ℕ) (d : Delivery) → is_signal kind ≡ true → IsSignal x → k < parts_in x → d ≡ delivery P (part_in x 0)
    → IsRemoteChange (record { sent = Some d; losers = 0 }) m reserved (moved m P kind (part_in x k))
unfolding sent
sent-reaches m reserved P kind x k d h is less does =
    let first : k ≡ 0 = signal-first x k is less in
    rw h (record { sent = ap Some (sym (does ∙ ap (λ j. delivery P (part_in x j)) (sym first))); losers = none-loses m reserved })

pub copied-spe : (m : MainMemory) (P : Spe) (kind : Kind) (x : Part) (store : List ℕ) → is_signal kind ≡ false → (copied m P (is_put kind) x).spe ≡ record P { store = store } → (moved m P kind x).spe ≡ record P { store = store }
copied-spe m P kind x store h is = rw h is

pub copied-memory : (new : SharedMemory) (m : MainMemory) (reserved : List (Option Reserved)) (P : Spe) (kind : Kind) (x : Part) → is_signal kind ≡ false → ShowsMemory new (copied m P (is_put kind) x).memory reserved → ShowsMemory new (moved m P kind x).memory reserved
copied-memory new m reserved P kind x h shows = rw h shows

copied_none : (m : MainMemory) (P : Spe) (b : Bool) (x : Part) → (copied m P b x).sent ≡ None
unfolding copied
copied_none m P true x = refl
copied_none m P false x = refl

pub copied-reaches : (losers : ℕ) (m : MainMemory) (reserved : List (Option Reserved)) (P : Spe) (kind : Kind) (x : Part) → is_signal kind ≡ false → Loses losers m reserved (copied m P (is_put kind) x).memory
    → IsRemoteChange (record { sent = None; losers = losers }) m reserved (moved m P kind x)
copied-reaches losers m reserved P kind x h loses = rw h (record { sent = copied_none m P (is_put kind) x; losers = loses })
