-- What the flow controllers hold at a state, a line a processor and a line a command.
use Rattle.std.specs.Prelude.{ℕ, suc, ◌/◌, ◌==◌, ◌&&◌, if◌then◌else◌, List, [], ◌∷◌, ◌++◌, length, codes, Option, is_some}
use Rattle.std.specs.List.{flat_map}
use Rattle.std.specs.Option.{option_map_or}
use Rattle.cell_base.specs.Records.{field, line_feed}
use Rattle.mfc_command.specs.declared.command.Params.{Params}
use Rattle.mfc_command.specs.Order.{is_list}
use Rattle.mfc_lists.specs.declared.Element.{Element}
use Rattle.tag_groups.specs.declared.Tags.{Tags}
use Rattle.tag_groups.specs.declared.Request.{Request}
use Rattle.tag_groups.specs.declared.TagStatus.{TagStatus}
use Rattle.cell_channels.specs.declared.channels.Channels.{Channels}
use Rattle.cell_signals.specs.declared.signals.Signals.{Signals}
use Rattle.cell_signals.specs.declared.events.Events.{Events}
use Rattle.cell_signals.specs.Registers.{register_of, value_in}
use Rattle.cell_machine.specs.declared.outstanding.Outstanding.{Outstanding}
use Rattle.cell_machine.specs.Spe.{Spe}
use Rattle.cell_machine.specs.State.{State}
use Rattle.cell_machine.specs.Memory.{MainMemory}
use Rattle.cell_machine.specs.Moves.{outstanding}
use Rattle.cell_machine.specs.Shown.{line_held_by, line_reserved_by, shown_at}
use Rattle.cell_trace.specs.Fields.{word, named, bit, command_words, atomic_field, status_field}

-- the parameters of the next command
abbrev pub params_field : Params → List ℕ
params_field x = named (codes "params") (x.lsa ∷ x.eah ∷ x.eal ∷ x.size ∷ x.tag ∷ [])

-- a request for a tag status that is pending, and a tag status that wasn't read
abbrev pub request_field : Request → List ℕ
request_field r = named (codes "request") (r.how ∷ r.mask ∷ [])

abbrev pub fixed_field : TagStatus → List ℕ
fixed_field s = named (codes "fixed") (s.groups ∷ s.issued ∷ [])

unfoldable pub tags_fields : Tags → List ℕ
tags_fields t = named (codes "mask") (t.mask ∷ []) ++ option_map_or request_field t.request [] ++ option_map_or fixed_field t.status []

-- the unread stalls
abbrev pub stalls_field : ℕ → List ℕ
stalls_field stalls = if stalls == 0 then [] else named (codes "stalls") (stalls ∷ [])

-- beside these the atomic command in the slot, and the unread status of one
unfoldable pub slot_fields : Channels → List ℕ
slot_fields c = stalls_field c.stalls ++ option_map_or atomic_field c.slot [] ++ option_map_or status_field c.atomic []

-- a line that was reserved last, and whether it is held still
abbrev pub reserved_field : ℕ → Option ℕ → List ℕ
reserved_field line held = named (codes "reserved") (line ∷ []) ++ (if is_some held then word (codes "held") else word (codes "lost"))

-- of processors that have reserved one
unfoldable pub reserved_fields : Option ℕ → Option ℕ → List ℕ
reserved_fields line held = option_map_or (λ l. reserved_field l held) line []

-- the mask of the events and those that are pending, where there are such
unfoldable pub events_field : Events → List ℕ
events_field e = if e.mask == 0 && e.pending == 0 then [] else named (codes "events") (e.mask ∷ e.pending ∷ [])

-- a signal register that is ready
abbrev pub signal_field : List ℕ → ℕ → List ℕ
signal_field name value = named name (value ∷ [])

unfoldable pub signals_fields : Signals → List ℕ
signals_fields s =
    option_map_or (signal_field (codes "sig1")) (value_in (register_of s 1)) [] ++ option_map_or (signal_field (codes "sig2")) (value_in (register_of s 2)) []

-- a mailbox that has values, the oldest first
abbrev pub mailbox_field : List ℕ → List ℕ → List ℕ
mailbox_field name values = if length values == 0 then [] else named name values

-- the line of processor p, before its reservation and behind it
unfoldable pub flow_front : ℕ → Spe → List ℕ
flow_front p P = codes "flow" ++ field p ++ params_field P.channels.params ++ tags_fields P.tags ++ slot_fields P.channels

unfoldable pub flow_back : Spe → List ℕ
flow_back P =
    events_field P.events ++ signals_fields P.signals
    ++ mailbox_field (codes "in") P.inbound ++ mailbox_field (codes "out") P.outbound ++ mailbox_field (codes "intr") P.interrupt ++ line_feed

-- processor p, but for its commands
unfoldable pub flow_line : MainMemory → ℕ → Spe → List ℕ
flow_line memory p P = flow_front p P ++ reserved_fields (line_reserved_by P) (line_held_by memory P) ++ flow_back P

-- the parts that are left, of all
abbrev pub left_field : Outstanding → List ℕ
left_field it = named (codes "left") (it.left ∷ it.parts ∷ [])

-- the element of a list that is in progress
abbrev pub element_fields : Outstanding → Element → List ℕ
element_fields it x = named (codes "element") (x.number ∷ it.parts ∷ bit x.flagged ∷ x.ea ∷ x.size ∷ []) ++ left_field it

-- how many elements of a list were read, of all, the one in progress, and whether the list stalls
unfoldable pub list_fields : Outstanding → List ℕ
list_fields it =
    named (codes "read") (it.read ∷ it.command.size / 8 ∷ []) ++ option_map_or (element_fields it) it.element []
    ++ (if it.stalled then named (codes "stalled") [] else [])

unfoldable pub progress_fields : Outstanding → List ℕ
progress_fields it = if is_list it.command.kind then list_fields it else left_field it

-- an outstanding command of processor p
unfoldable pub command_line : ℕ → Outstanding → List ℕ
command_line p it =
    codes "command" ++ field p ++ command_words it.number it.command ++ progress_fields it ++ line_feed

-- those of processor p, of these numbers
unfoldable pub command_lines : ℕ → Spe → List ℕ → List ℕ
command_lines p P numbers = flat_map (λ c. option_map_or (command_line p) (shown_at P.moves c) []) numbers

abbrev pub spe_flow : MainMemory → ℕ → Spe → List ℕ
spe_flow memory p P = flow_line memory p P ++ command_lines p P (outstanding P)

-- the processors from number p on
unfoldable pub spe_flows : MainMemory → ℕ → List Spe → List ℕ
spe_flows memory p [] = []
spe_flows memory p (P ∷ spes) = spe_flow memory p P ++ spe_flows memory (suc p) spes

-- how many actions of the host script are done, of how many
abbrev pub script_line : ℕ → ℕ → List ℕ
script_line done all = codes "script" ++ field done ++ field all ++ line_feed

-- all of them
abbrev pub flows_of : State → List ℕ
flows_of M = spe_flows M.memory 0 M.spes ++ script_line M.host.done (length M.host.script)
