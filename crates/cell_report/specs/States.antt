-- The text of a machine's last state.
use Rattle.std.specs.Prelude.{ℕ, suc, ◌++◌, ◌==◌, Bool, List, [], ◌∷◌, length, codes, if◌then◌else◌, Option}
use Rattle.std.specs.List.{flat_map, list_all}
use Rattle.std.specs.Fmt.{decimal}
use Rattle.cell_base.specs.Hex.{hex}
use Rattle.cell_base.specs.Records.{line_feed}
use Rattle.cell_host.specs.declared.Took.{Took}
use Rattle.cell_host.specs.Script.{Progress}
use Rattle.cell_machine.specs.declared.status.End.{End}
use Rattle.cell_machine.specs.declared.setup.Show.{Show}
use Rattle.cell_machine.specs.Spe.{Spe}
use Rattle.cell_machine.specs.State.{State}
use Rattle.cell_machine.specs.Moves.{outstanding}
use Rattle.state_lines.specs.Lines.{end_line, spe_line, register_line, show_line}

abbrev pub is_zero : List ℕ → Bool
is_zero bytes = list_all (λ b. b == 0) bytes

-- a register that isn't zero
abbrev pub nonzero_line : ℕ → List ℕ → List ℕ
nonzero_line r bytes = if is_zero bytes then [] else register_line r bytes

-- the registers from number r on
unfoldable pub register_lines : ℕ → List (List ℕ) → List ℕ
register_lines r [] = []
register_lines r (q ∷ qs) = nonzero_line r q ++ register_lines (suc r) qs

-- the lines of processor p
abbrev pub spe_text : ℕ → Spe → List ℕ
spe_text p P = spe_line p P.status P.pc (length (outstanding P)) ++ register_lines 0 P.registers

-- the lines of the processors from number p on
unfoldable pub spes_text : ℕ → List Spe → List ℕ
spes_text p [] = []
spes_text p (P ∷ spes) = spe_text p P ++ spes_text (suc p) spes

-- how many actions of the host script are done, of how many
abbrev pub host_line : ℕ → ℕ → List ℕ
host_line done all = codes "host " ++ decimal done ++ codes " of " ++ decimal all ++ line_feed

-- the value that an action took, and the action's number, from 0
abbrev pub took_line : Took → List ℕ
took_line t = codes "took " ++ decimal t.action ++ codes " 0x" ++ hex 8 t.value ++ line_feed

-- the values taken, the earliest first
abbrev pub took_lines : List Took → List ℕ
took_lines took = flat_map took_line took

-- how far the host script has come, and what it took
abbrev pub host_text : Progress → List ℕ
host_text host = host_line host.done (length host.script) ++ took_lines host.took

-- the states of M, whose end word this is, and the ranges that are shown
abbrev pub states_of : State → List Show → Option End → List ℕ
states_of M shows end = end_line end ++ spes_text 0 M.spes ++ host_text M.host ++ flat_map (show_line M) shows

-- what is left in M: what the host took, and the ranges that are shown
abbrev pub result_of : State → List Show → List ℕ
result_of M shows = took_lines M.host.took ++ flat_map (show_line M) shows
