-- The order of the steps of a list, on a run.
use Rattle.std.specs.Prelude.{◌≡◌, ℕ, ◌+◌, ◌<◌, ◌==◌, ◌&&◌, Bool, true, false, List, [], ◌∷◌, ◌++◌, length, Some, count_by, slice_get}
use Rattle.cell_base.specs.declared.steps.ChannelOp.TheVariants.{Write}
use Rattle.cell_base.specs.declared.steps.Step.{Step}
use Rattle.cell_base.specs.declared.steps.Step.TheVariants.{Exec, Piece, Elem, Retire, Atomic, Host}
use Rattle.mfc_command.specs.declared.command.Command.{Command}
use Rattle.mfc_command.specs.Order.{is_list}
use Rattle.mfc_lists.specs.declared.Element.{Element}
use Rattle.cell_machine.specs.Spe.{Spe}
use Rattle.cell_machine.specs.Moves.{read_of, present, parts_in}
use Rattle.cell_machine.specs.Exec.{asks}
use Rattle.cell_machine.specs.Run.{Ran, spe_of}
use Rattle.cell_machine.specs.Order.{after_steps}

-- whether it reads an element of command c of processor p
abbrev pub is_reading : ℕ → ℕ → Step → Bool
is_reading p c (Elem q d) = q == p && d == c
is_reading p c (Exec q) = false
is_reading p c (Piece q d e k) = false
is_reading p c (Retire q d) = false
is_reading p c (Atomic q) = false
is_reading p c Host = false

-- whether it copies part k of element n of that command
abbrev pub is_part : ℕ → ℕ → ℕ → ℕ → Step → Bool
is_part p c n k (Piece q d e j) = q == p && d == c && e == n && j == k
is_part p c n k (Exec q) = false
is_part p c n k (Elem q d) = false
is_part p c n k (Retire q d) = false
is_part p c n k (Atomic q) = false
is_part p c n k Host = false

-- among the steps `between`, which come after `before`, processor p acknowledges the stall of a tag
pub record HasAck (m : Ran) (before between : List Step) (p tag : ℕ) : Type 0 where
  pub first : List Step
  pub last : List Step
  pub cut : between ≡ first ++ Exec p ∷ last
  pub spe : Spe
  pub there : spe_of (after_steps m (before ++ first)) p ≡ Some spe
  pub acknowledges : asks spe ≡ Some (Write 26 tag)

-- the steps of each list, d, which is command c of processor p
pub record ListsAreInOrder (m : Ran) : Type 0 where
  -- its elements are read by their numbers
  pub numbered : (before after : List Step) (p c : ℕ) (P : Spe) → m.steps ≡ before ++ Elem p c ∷ after
      → spe_of (after_steps m before) p ≡ Some P → count_by (is_reading p c) before ≡ length (read_of P.moves.read c)
  -- a piece of element n stands behind the readings of n + 1 elements, and each part is copied once
  pub pieces : (before after : List Step) (p c n k : ℕ) (P : Spe) (d : Command) → m.steps ≡ before ++ Piece p c n k ∷ after
      → spe_of (after_steps m before) p ≡ Some P → slice_get P.moves.issued c ≡ Some d → is_list d.kind ≡ true
      → (count_by (is_reading p c) before ≡ n + 1) × (count_by (is_part p c n k) before ≡ 0)
  -- each part of an element, x, stands before any later reading
  pub finished : (before between after : List Step) (p c k : ℕ) (P : Spe) (d : Command) (x : Element)
      → m.steps ≡ (before ++ Elem p c ∷ []) ++ between ++ Elem p c ∷ after → spe_of (after_steps m (before ++ Elem p c ∷ [])) p ≡ Some P
      → slice_get P.moves.issued c ≡ Some d → present P.moves.read c d ≡ Some x → k < parts_in x → count_by (is_part p c x.number k) between ≡ 1
  -- and so does an acknowledgement of its tag, if it is flagged
  pub resumed : (before between after : List Step) (p c : ℕ) (P : Spe) (d : Command) (x : Element)
      → m.steps ≡ (before ++ Elem p c ∷ []) ++ between ++ Elem p c ∷ after → spe_of (after_steps m (before ++ Elem p c ∷ [])) p ≡ Some P
      → slice_get P.moves.issued c ≡ Some d → present P.moves.read c d ≡ Some x → x.flagged ≡ true
      → HasAck m (before ++ Elem p c ∷ []) between p d.tag
