-- What steps do to bytes, without the machine, and that on a run it is what the machine does.
use Rattle.std.specs.Prelude.{◌≡◌, ℕ, ◌-◌, if◌then◌else◌, List, [], ◌∷◌, map, Option, Some, slice_index}
use Rattle.std.specs.List.{range_with_len}
use Rattle.std.specs.Option.{option_and_then, option_map}
use Rattle.cell_base.specs.declared.steps.Step.{Step}
use Rattle.cell_machine.specs.State.{State}
use Rattle.cell_machine.specs.Next.{next}
use Rattle.cell_machine.specs.Opening.{opening}
use Rattle.cell_machine.specs.Run.{Ran, state_of}
use Rattle.cell_machine.specs.declared.effect.Place.{Place}
use Rattle.cell_machine.specs.declared.effect.Span.{Span}
use Rattle.cell_machine.specs.declared.effect.Effect.{Effect}
use Rattle.cell_machine.specs.Effects.{effect_of}
use Rattle.cell_machine.specs.Written.{Written, written_by}
use Rattle.cell_machine.specs.EffectLaws.{new_of}
use Rattle.cell_machine.specs.Sound.{covers, byte_of}

-- the number that stands in each byte of each place
abbrev pub Bytes : Type 0
Bytes = Place → ℕ → ℕ

pub record Action : Type 0 where
  pub effect : Effect
  pub written : Written

-- what a step fetched and read
pub record Had : Type 0 where
  pub fetched : List ℕ
  pub read : List ℕ

abbrev pub in_span : Bytes → Span → List ℕ
in_span bytes x = map (bytes x.place) (range_with_len x.at x.len)

abbrev pub had_by : Bytes → Action → Had
had_by bytes a = record { fetched = in_span bytes a.effect.fetch; read = in_span bytes a.effect.reads }

-- the bytes after the action, which first fetches and reads and then writes
abbrev pub after : Bytes → Action → Bytes
after bytes a place x =
    if covers a.effect.writes place x then slice_index (new_of a.written (had_by bytes a).read) (x - a.effect.writes.at) else bytes place x

-- what each action of a run had, in turn, and the bytes at the end
pub record ByteRan : Type 0 where
  pub had : List Had
  pub bytes : Bytes

abbrev pub byte_run : Bytes → List Action → ByteRan
byte_run bytes [] = record { had = []; bytes = bytes }
byte_run bytes (a ∷ rest) = record { had = had_by bytes a ∷ (byte_run (after bytes a) rest).had; bytes = (byte_run (after bytes a) rest).bytes }

abbrev pub action_of : State → Step → Effect → Action
action_of M s e = record { effect = e; written = written_by M s }

-- the actions of these steps, each in the state that the ones before leave
abbrev pub actions : State → List Step → Option (List Action)
actions M [] = Some []
actions M (s ∷ steps) = option_and_then (λ e. option_and_then (λ N. option_map (λ made. action_of M s e ∷ made) (actions N steps)) (next M s)) (effect_of M s)

-- what these steps fetch and read of the machine
abbrev pub haves : State → List Step → Option (List Had)
haves M [] = Some []
haves M (s ∷ steps) = option_and_then (λ e. option_and_then (λ N. option_map (λ hs. had_by (byte_of M) (action_of M s e) ∷ hs) (haves N steps)) (next M s)) (effect_of M s)

-- the actions of a run, made on the bytes that the machine begins with, have what the machine's steps have, and leave its bytes
abbrev pub RunsOnBytes : Ran → Type 0
RunsOnBytes m = (M : State) (made : List Action) → state_of m ≡ Some M → actions (opening m.setup) m.steps ≡ Some made
    → (Some (byte_run (byte_of (opening m.setup)) made).had ≡ haves (opening m.setup) m.steps) × ((byte_run (byte_of (opening m.setup)) made).bytes ≡ byte_of M)
