-- The tag groups that are busy after a step of a queued command.
use Rattle.std.proofs.Common.{◌≡◌, ℕ, ◌||◌, ◌==◌, Bool, true, false, List, [], ◌∷◌, ◌++◌, length, ◌/◌, refl, sym, ◌∙◌, ap}
use Rattle.std.specs.Prelude.{if◌then◌else◌}
use mathlib.Core.Path.{fun_ext}
use Rattle.mfc_command.specs.Order.{busy_groups}
use Rattle.mfc_lists.specs.declared.Element.{Element}
use Rattle.mfc_lists.specs.Readings.{Reading, with_element, is_complete as is_complete_reading}
use Rattle.mfc_queue.specs.Calls.{Call, Retire, issued, is_retired, retires, busy as busy_calls}
use Rattle.mfc_queue.proofs.CallLaws.{retired-more, issued-retired}
use Rattle.cell_machine.specs.Spe.{Moves}
use Rattle.cell_machine.specs.Moves.{is_complete, busy}
use Rattle.cell_machine.specs.MovesShown.{ShowsOthers}
use Rattle.cell_machine.proofs.MovesShown.{others-closed, others-open}
use Rattle.cell_machine.proofs.SpeShown.{busy-same, and_off}

-- calls that issue and retire the same leave the same groups busy, and the same without one command
same-busy : (calls calls2 : List Call) → issued calls2 ≡ issued calls → is_retired calls2 ≡ is_retired calls → busy_calls calls2 ≡ busy_calls calls
same-busy calls calls2 issues retires_same = ap (λ f. busy_groups f (issued calls2)) retires_same ∙ ap (busy_groups (is_retired calls)) issues

same-without : (calls calls2 : List Call) (c : ℕ) → issued calls2 ≡ issued calls → is_retired calls2 ≡ is_retired calls → busy_calls (calls2 ++ Retire c ∷ []) ≡ busy_calls (calls ++ Retire c ∷ [])
same-without calls calls2 c issues retires_same =
    same-busy (calls ++ Retire c ∷ []) (calls2 ++ Retire c ∷ []) (issued-retired calls2 c ∙ issues ∙ sym (issued-retired calls c))
    (fun_ext (λ k. retired-more calls2 (Retire c) k ∙ ap (λ f. f k || retires k (Retire c)) retires_same ∙ sym (retired-more calls (Retire c) k)))

-- one command may be complete, or not
pub busy-of : (calls calls2 : List Call) (n : Moves) (c : ℕ) (b : Bool) → issued calls2 ≡ issued calls → is_retired calls2 ≡ is_retired calls → ShowsOthers calls2 n c → b ≡ is_complete n c
    → (if b then busy_calls (calls ++ Retire c ∷ []) else busy_calls calls) ≡ busy n
busy-of calls calls2 n c true issues retires_same others is = sym (same-without calls calls2 c issues retires_same) ∙ busy-same (calls2 ++ Retire c ∷ []) n (others-closed calls2 n c others (sym is))
busy-of calls calls2 n c false issues retires_same others is = sym (same-busy calls calls2 issues retires_same) ∙ busy-same calls2 n (others-open calls2 n c others (sym is))

-- a list whose element is in progress isn't complete
pub element-incomplete : (r : Reading) (x : Element) → is_complete_reading (with_element r x) ≡ false
element-incomplete r x = and_off (length (r.read ++ x ∷ []) == r.command.size / 8) false refl
