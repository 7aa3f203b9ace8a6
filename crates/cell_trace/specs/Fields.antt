-- The fields of the lines that tools read. Each stands behind a bar, with its name and its words between blanks; numbers are decimal.
use Rattle.std.specs.Prelude.{ℕ, Bool, if◌then◌else◌, List, [], ◌∷◌, ◌++◌, codes}
use Rattle.std.specs.List.{flat_map}
use Rattle.cell_base.specs.Records.{field}
use Rattle.mfc_command.specs.declared.command.Kind.{Kind}
use Rattle.mfc_command.specs.declared.command.Kind.TheVariants.{Put, Get, PutList, GetList, Barrier, PutQueued, Signal}
use Rattle.mfc_command.specs.declared.command.Mark.{Mark}
use Rattle.mfc_command.specs.declared.command.Mark.TheVariants.{Plain, Fenced, Barred}
use Rattle.mfc_command.specs.declared.command.Command.{Command}
use Rattle.mfc_command.specs.declared.command.AtomicOp.{AtomicOp}
use Rattle.mfc_command.specs.declared.command.AtomicKind.{AtomicKind}
use Rattle.mfc_command.specs.declared.command.AtomicKind.TheVariants.{GetLine, PutCond, PutLine}

-- a word behind a blank
abbrev pub word : List ℕ → List ℕ
word name = codes " " ++ name

-- numbers, each behind a blank
abbrev pub numbers : List ℕ → List ℕ
numbers ns = flat_map field ns

-- a field of a name and numbers
abbrev pub named : List ℕ → List ℕ → List ℕ
named name ns = codes " | " ++ name ++ numbers ns

abbrev pub bit : Bool → ℕ
bit holds = if holds then 1 else 0

abbrev pub kind_name : Kind → List ℕ
kind_name Put = codes "put"
kind_name Get = codes "get"
kind_name PutList = codes "putl"
kind_name GetList = codes "getl"
kind_name Barrier = codes "barrier"
kind_name PutQueued = codes "putqlluc"
kind_name Signal = codes "sndsig"

abbrev pub mark_name : Mark → List ℕ
mark_name Plain = codes "-"
mark_name Fenced = codes "fence"
mark_name Barred = codes "barrier"

abbrev pub atomic_name : AtomicKind → List ℕ
atomic_name GetLine = codes "getllar"
atomic_name PutCond = codes "putllc"
atomic_name PutLine = codes "putlluc"

-- a command's number, kind, mark and tag, its addresses, of which the effective one has two halves, the high one 0, and its size
abbrev pub command_words : ℕ → Command → List ℕ
command_words c d = field c ++ word (kind_name d.kind) ++ word (mark_name d.mark) ++ numbers (d.tag ∷ d.ls ∷ 0 ∷ d.ea ∷ d.size ∷ [])

-- an atomic command's kind, local store address, and the number of its line
abbrev pub atomic_field : AtomicOp → List ℕ
atomic_field a = named (codes "atomic") [] ++ word (atomic_name a.kind) ++ numbers (a.ls ∷ a.line ∷ [])

-- the unread status of an atomic command
abbrev pub status_field : ℕ → List ℕ
status_field status = named (codes "status") (status ∷ [])
