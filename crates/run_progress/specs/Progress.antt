-- Whether a run still made progress at its end: the last change that other actors can see, and for each processor its loop and what it polls.
use Rattle.std.specs.Prelude.{ℕ, suc, ◌+◌, ◌-◌, ◌==◌, ◌&&◌, Bool, false, nat_lt, if◌then◌else◌, min, max, List, [], ◌∷◌, length, map, drop, filter, fold, Option, Some, None}
use Rattle.std.specs.List.{last_or}
use Rattle.std.specs.Option.{option_map, option_map_or}
use Rattle.cell_base.specs.declared.steps.Step.{Step}
use Rattle.cell_base.specs.declared.steps.Step.TheVariants.{Exec, Piece, Elem, Retire, Atomic, Host}
use Rattle.cell_machine.specs.declared.effect.Span.{Span}
use Rattle.run_progress.specs.declared.progress.AddressRange.{AddressRange}
use Rattle.run_progress.specs.declared.progress.Poll.{Poll}
use Rattle.run_progress.specs.declared.progress.SpeProgress.{SpeProgress}
use Rattle.run_progress.specs.Made.{Made}
use Rattle.run_progress.specs.Changes.{changes, is_shared}

-- the place of the last element with this property, None if none has it
abbrev pub last_place : {X : Type 0} → (X → Bool) → List X → Option ℕ
last_place f [] = None
last_place f (x ∷ xs) = option_map_or (λ i. Some (suc i)) (last_place f xs) (if f x then Some 0 else None)

-- how many steps the run has up to the last one that changes what other actors can see, and with it; 0 if none does
unfoldable pub last_change : List Made → ℕ
last_change run = option_map_or suc (last_place changes run) 0

-- the steps after it
abbrev pub after_change : List Made → List Made
after_change run = drop (last_change run) run

-- ---- the loop of a processor

abbrev pub is_exec_of : ℕ → Step → Bool
is_exec_of p (Exec q) = q == p
is_exec_of p (Piece q c e k) = false
is_exec_of p (Elem q c) = false
is_exec_of p (Retire q c) = false
is_exec_of p (Atomic q) = false
is_exec_of p Host = false

-- the addresses of the instructions that processor p executed, in their order
unfoldable pub executed : ℕ → List Made → List ℕ
executed p run = map (λ x. x.effect.fetch.at) (filter (λ x. is_exec_of p x.step) run)

-- the last n elements, or all of them if there are fewer
abbrev pub last_ones : {X : Type 0} → ℕ → List X → List X
last_ones n xs = drop (length xs - n) xs

-- the least and the greatest address, None of no address
abbrev pub range_of : List ℕ → Option AddressRange
range_of [] = None
range_of (at ∷ others) = Some (record { least = fold min at others; greatest = fold max at others })

-- ---- what it polls

-- a step in which the MFC of processor p copies bytes
abbrev pub is_copy_of : ℕ → Step → Bool
is_copy_of p (Piece q c e k) = q == p
is_copy_of p (Atomic q) = q == p
is_copy_of p (Exec q) = false
is_copy_of p (Elem q c) = false
is_copy_of p (Retire q c) = false
is_copy_of p Host = false

-- that MFC reads main memory
abbrev pub is_read_by : ℕ → Made → Bool
is_read_by p x = is_copy_of p x.step && is_shared x.effect.reads

-- what it read last after the last change, None if nothing
unfoldable pub polled : ℕ → List Made → Option Span
polled p run = option_map (λ (x : Made). x.effect.reads) (last_or None (filter (is_read_by p) (after_change run)))

-- both have a byte, if they are of one place
abbrev pub overlap : Span → Span → Bool
overlap x y = nat_lt x.at (y.at + y.len) && nat_lt y.at (x.at + x.len)

-- the step writes a byte of main memory that is in this span
abbrev pub writes_in : Span → Made → Bool
writes_in read x = is_shared x.effect.writes && overlap x.effect.writes read

abbrev pub poll_of : List Made → Span → Poll
poll_of run read = record { at = read.at; len = read.len; writer = last_place (writes_in read) run }

-- ---- both

-- of its instructions after the last change, the last 1,000 are its loop
unfoldable pub spe_progress : List Made → ℕ → SpeProgress
spe_progress run p = record { executed = range_of (last_ones 1000 (executed p (after_change run))); polled = option_map (poll_of run) (polled p run) }
