-- Where two runs end alike, the text of the states that the one ends in is that of the other's, with the same end word.
use Rattle.std.proofs.Common.{◌≡◌, ℕ, zero, suc, ◌+◌, ◌<◌, ◌==◌, ◌&&◌, not, false, List, [], ◌∷◌, ◌++◌, length, Option, Some, None, refl, sym, ◌∙◌, ap, ap₂, subst}
use Rattle.std.specs.Prelude.{is_some, is_none, IsSome, slice_get, slice_range}
use Rattle.std.specs.List.{flat_map, list_all}
use mathlib.Core.Path.{fun_ext}
use Rattle.cell_machine.specs.declared.status.End.{End}
use Rattle.cell_machine.specs.declared.status.End.TheVariants.{AllStopped, Stuck, Budget}
use Rattle.cell_machine.specs.declared.setup.Show.{Show}
use Rattle.cell_machine.specs.declared.setup.Show.TheVariants.{Memory, Local}
use Rattle.cell_machine.specs.Opening.{Opening}
use Rattle.cell_machine.specs.Spe.{Spe, is_running}
use Rattle.cell_machine.specs.State.{State}
use Rattle.cell_machine.specs.Memory.{MainMemory}
use Rattle.cell_machine.specs.Moves.{outstanding}
use Rattle.cell_machine.specs.Next.{next}
use Rattle.cell_machine.specs.Shows.{AllTwo}
use Rattle.cell_machine.specs.Run.{Ran, IsRun, IsEnd, HasEnded, CanGoOn, is_quiet, is_quiet_spe, state_of}
use Rattle.reorder_laws.specs.Theorem.{IsSameSpe, IsSameEnd}
use Rattle.state_lines.specs.Lines.{end_line, spe_line, local_bytes, memory_line, local_line, show_line}
use Rattle.cell_report.specs.States.{register_lines, spe_text, spes_text, host_text, states_of}
use Rattle.cell_commands.specs.Checks.{TellsEnd}
use Rattle.run_permute.specs.Nth.{EndsAlike}

-- ---- the text

same_spe_text : (p : ℕ) (P Q : Spe) → IsSameSpe P Q → spe_text p P ≡ spe_text p Q
same_spe_text p P Q same =
    ap₂ (λ status pc. spe_line p status pc (length (outstanding P)) ++ register_lines 0 P.registers) same.status same.pc
    ∙ ap₂ (λ (commands : List ℕ) registers. spe_line p Q.status Q.pc (length commands) ++ register_lines 0 registers) same.outstanding same.registers

same_spes_text : (p : ℕ) (xs ys : List Spe) → AllTwo IsSameSpe xs ys → spes_text p xs ≡ spes_text p ys
unfolding spes_text
same_spes_text p [] [] all = refl
same_spes_text p [] (y ∷ ys) all = absurd all
same_spes_text p (x ∷ xs) [] all = absurd all
same_spes_text p (x ∷ xs) (y ∷ ys) all = ap₂ (λ text rest. text ++ rest) (same_spe_text p x y all.0) (same_spes_text (suc p) xs ys all.1)

same_local : (xs ys : List Spe) (p at len : ℕ) → AllTwo IsSameSpe xs ys → local_bytes at len (slice_get xs p) ≡ local_bytes at len (slice_get ys p)
same_local [] [] p at len all = refl
same_local [] (y ∷ ys) p at len all = absurd all
same_local (x ∷ xs) [] p at len all = absurd all
same_local (x ∷ xs) (y ∷ ys) zero at len all = ap (λ store. slice_range store at (at + len)) all.0.store
same_local (x ∷ xs) (y ∷ ys) (suc p) at len all = same_local xs ys p at len all.1

module _ (M N : State) (same : IsSameEnd M N) where
  same_show : (show : Show) → show_line M show ≡ show_line N show
  same_show (Memory at len) = ap (λ (memory : MainMemory). memory_line at (slice_range memory.bytes at (at + len))) same.memory
  same_show (Local p at len) = ap (local_line p at) (same_local M.spes N.spes p at len same.spes)

  pub same_text : (shows : List Show) (end : Option End) → states_of M shows end ≡ states_of N shows end
  same_text shows end =
      ap (λ text. end_line end ++ text ++ host_text M.host ++ flat_map (show_line M) shows) (same_spes_text 0 M.spes N.spes same.spes)
      ∙ ap (λ host. end_line end ++ spes_text 0 N.spes ++ host_text host ++ flat_map (show_line M) shows) same.host
      ∙ ap (λ f. end_line end ++ spes_text 0 N.spes ++ host_text N.host ++ flat_map f shows) (fun_ext same_show)

-- ---- the end word

same_quiet_spe : (P Q : Spe) → IsSameSpe P Q → is_quiet_spe P ≡ is_quiet_spe Q
same_quiet_spe P Q same =
    ap₂ (λ status free. not (is_running status) && free && length (outstanding P) == 0) same.status free_slot
    ∙ ap (λ (commands : List ℕ). not (is_running Q.status) && is_none Q.channels.slot && length commands == 0) same.outstanding
  where
    free_slot : is_none P.channels.slot ≡ is_none Q.channels.slot
    free_slot = cc (same.channels)

same_quiet : (xs ys : List Spe) → AllTwo IsSameSpe xs ys → list_all is_quiet_spe xs ≡ list_all is_quiet_spe ys
same_quiet [] [] all = refl
same_quiet [] (y ∷ ys) all = absurd all
same_quiet (x ∷ xs) [] all = absurd all
same_quiet (x ∷ xs) (y ∷ ys) all = ap₂ (λ a b. a && b) (same_quiet_spe x y all.0) (same_quiet xs ys all.1)

module _ (M N : State) (same : IsSameEnd M N) where
  none_of : {X : Type 0} (o : Option X) → is_some o ≡ false → o ≡ None
  none_of None e = refl
  none_of (Some x) e = absurd cc

  same_ended : HasEnded N → HasEnded M
  same_ended ended s = none_of (next M s) (same.allowed s ∙ ap is_some (ended s))

  same_open : CanGoOn N → CanGoOn M
  same_open go = (go.0, same.allowed go.0 ∙ go.1)

  quiet : is_quiet M ≡ is_quiet N
  quiet = same_quiet M.spes N.spes same.spes

  pub same_end_word : (budget : ℕ) (end : Option End) → IsEnd N budget end → IsEnd M budget end
  same_end_word budget (Some AllStopped) is = (same_ended is.0, quiet ∙ is.1)
  same_end_word budget (Some Stuck) is = (same_ended is.0, quiet ∙ is.1)
  same_end_word budget (Some Budget) is = (same_open is.0, same.long ∙ is.1)
  same_end_word budget None is = (same_open is.0, subst (λ n. n < budget) (sym same.long) is.1)

-- ---- a run from the same setup that ends alike

pub same_states : (m again : Ran) (text : List ℕ) → IsRun m.setup m.steps → again.setup ≡ m.setup → EndsAlike m again → TellsEnd again text → TellsEnd m text
same_states m again text run setup alike tells = on (state_of m) refl run.0
  where
    on : (o : Option State) → state_of m ≡ o → IsSome o → TellsEnd m text
    on None is some = absurd cc
    on (Some M) is some =
        let same : IsSameEnd M tells.last = alike M tells.last is tells.there in
        record {
          last = M;
          end = tells.end;
          there = is;
          ended = same_end_word M tells.last same m.setup.budget tells.end (subst (λ (S : Opening). IsEnd tells.last S.budget tells.end) setup tells.ended);
          told = tells.told ∙ ap (λ (S : Opening). states_of tells.last S.shows tells.end) setup ∙ sym (same_text M tells.last same m.setup.shows tells.end);
        }
