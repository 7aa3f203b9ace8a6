-- What a table of sets has.
use Rattle.std.specs.Prelude.{◌≡◌, ℕ, zero, suc, ◌+◌, ◌*◌, ◌/◌, ◌%◌, ◌<◌, ◌≤◌, ◌==◌, ◌||◌, ◌&&◌, Bool, true, false, ⊤, List, [], ◌∷◌, Option, Some, None, length, slice_get, slice_index, All as Each}
use Rattle.std.specs.List.{list_any}
use Rattle.order_sets.specs.declared.facts.At.{At}
use Rattle.order_sets.specs.declared.facts.Fact.{Fact}
use Rattle.order_sets.specs.declared.facts.Fact.TheVariants.{Upto}
use Rattle.order_sets.specs.Facts.{covers}
use Rattle.order_sets.specs.Stands.{has_at}
use Rattle.race_order.specs.Roles.{same_role as same_base}
use Rattle.race_order.specs.declared.roles.Role.{Role}
use Rattle.race_order.specs.declared.roles.Role.TheVariants.{OfExec, OfHost, OfSlot, OfAtomic, OfLine, OfBox, OfSignal, OfEnd}
use Rattle.race_order.specs.declared.roles.Class.{Class}
use Rattle.race_order.specs.declared.roles.Class.TheVariants.{All, Tag, BarredTag, Barriers}
use Rattle.race_order.specs.declared.roles.QueueRole.{QueueRole}
use Rattle.race_order.specs.declared.roles.QueueRole.TheVariants.{Base, Waits, Complete, Fixed, Stalled}
use Rattle.race_order.specs.declared.moves.Move.{Move}
use Rattle.race_order.specs.declared.buckets.Row.{Row}
use Rattle.race_order.specs.declared.buckets.Bucket.{Bucket}
use Rattle.race_order.specs.declared.own.Own.{Own}
use Rattle.race_order.specs.declared.table.Table.{Table}
use Rattle.race_order.specs.declared.sets.Sets.{Sets}

abbrev pub same_class : Class → Class → Bool
same_class All All = true
same_class (Tag g) (Tag h) = g == h
same_class (BarredTag g) (BarredTag h) = g == h
same_class Barriers Barriers = true
same_class _ _ = false

abbrev pub same_role : QueueRole → QueueRole → Bool
same_role (Base r) (Base s) = same_base r s
same_role (Waits p c) (Waits q d) = p == q && c == d
same_role (Complete p c) (Complete q d) = p == q && same_class c d
same_role (Fixed p g) (Fixed q h) = p == q && g == h
same_role (Stalled p g) (Stalled q h) = p == q && g == h
same_role _ _ = false

abbrev pub is_among : QueueRole → List QueueRole → Bool
is_among r roles = list_any (λ w. same_role w r) roles

abbrev pub row_has : QueueRole → At → Row → Bool
row_has r at row = same_role row.role r && has_at row.known at

abbrev pub bucket_has : QueueRole → At → Bucket → Bool
bucket_has r at b = list_any (row_has r at) b.rows.items

-- the bucket of number k has it
abbrev pub has_in : List Bucket → ℕ → QueueRole → At → Bool
has_in [] k r at = false
has_in (b ∷ bs) zero r at = bucket_has r at b
has_in (b ∷ bs) (suc k) r at = has_in bs k r at

-- the number of a role
abbrev pub class_number : Class → ℕ
class_number All = 16
class_number Barriers = 17
class_number (Tag g) = 32 + g
class_number (BarredTag g) = 64 + g

abbrev pub base_number : Role → ℕ
base_number (OfExec p) = 256 * p
base_number (OfSlot p) = 256 * p + 1
base_number (OfAtomic p) = 256 * p + 2
base_number (OfEnd p) = 256 * p + 3
base_number (OfBox q m r) = 256 * q + 4 + 4 * m + r
base_number (OfSignal q r) = 256 * q + 18 + r
base_number OfHost = 18
base_number (OfLine a) = 256 * (a / 128 / 32 % 16) + 224 + a / 128 % 32

abbrev pub number : QueueRole → ℕ
number (Base r) = base_number r
number (Waits p c) = 256 * p + 160 + c % 64
number (Complete p class) = 256 * p + class_number class
number (Fixed p g) = 256 * p + 96 + g
number (Stalled p g) = 256 * p + 128 + g

-- the fact is of one of so many chains
abbrev pub FitsChains : ℕ → Fact → Type 0
FitsChains chains (Upto chain place) = chain < chains
FitsChains chains _ = ⊤

-- one more than the place of a role's bucket, or 0
abbrev pub place_of : List ℕ → QueueRole → ℕ
place_of places r = slice_index places (number r)

-- the bucket that such a number names has it
abbrev pub named_has : List Bucket → ℕ → QueueRole → At → Bool
named_has bs zero r at = false
named_has bs (suc k) r at = has_in bs k r at

-- the set of the role in a table
abbrev pub table_has : Table → QueueRole → At → Bool
table_has table r at = named_has table.buckets.items (place_of table.places.items r) r at

-- the table has no set of a role with the number of this one
abbrev pub IsUnplaced : Table → QueueRole → Type 0
IsUnplaced table role = (r : QueueRole) (at : At) → number r ≡ number role → table_has table r at ≡ false

-- an instruction of the processor up to the last one
abbrev pub upto_last : ℕ → Option ℕ → At → Bool
upto_last p None at = false
upto_last p (Some place) at = covers (Upto p place) at

-- the set of a processor's instructions
abbrev pub own_has : Own → At → Bool
own_has own at = upto_last own.spe own.last at || has_at own.known at

-- it is one of so many chains
abbrev pub IsOwnOf : ℕ → Own → Type 0
IsOwnOf chains own = (own.known.chains ≡ chains) × (own.spe < chains)

-- the set of a processor's instructions, which stands apart
abbrev pub own_of : List Own → QueueRole → Option Own
own_of own (Base (OfExec p)) = slice_get own p
own_of own _ = None

abbrev pub has_or : Option Own → At → Bool → Bool
has_or (Some own) at other = own_has own at
has_or None at other = other

-- the set of the role
abbrev pub sets_have : Sets → QueueRole → At → Bool
sets_have sets r at = has_or (own_of sets.own.items r) at (table_has sets.table r at)

abbrev pub AreRowsOf : ℕ → List Row → Type 0
AreRowsOf chains rows = Each (λ row. row.known.chains ≡ chains) rows

-- it is of 1 to 16 processors, and each set has that many chains
abbrev pub IsTableOf : ℕ → Table → Type 0
IsTableOf chains table = (1 ≤ table.spes) × (table.spes ≤ 16) × (3 * table.spes + 1 ≡ chains) × Each (λ b. AreRowsOf chains b.rows.items) table.buckets.items

-- the same of all sets, of which each processor has its own
abbrev pub AreOf : ℕ → Sets → Type 0
AreOf chains sets = IsTableOf chains sets.table × (length sets.own.items ≡ sets.table.spes) × Each (IsOwnOf chains) sets.own.items

-- the move brings the step into the role's set
abbrev pub moves_to : Sets → QueueRole → At → Move → Bool
moves_to sets r at m = same_role m.to r && sets_have sets m.from at
