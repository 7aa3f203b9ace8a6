-- What lines that all have their place stand for is within the limits of a setup.
use Rattle.std.proofs.Common.{◌≡◌, ◌≤◌, ◌<◌, ◌+◌, ◌-◌, ◌*◌, ◌%◌, ◌==◌, ◌&&◌, ◌||◌, not, fold, nat_le, nat_lt, ℕ, zero, suc, Bool, true, false, List, [], ◌∷◌, ◌++◌, length, slice_get, Option, Some, None, is_none, unwrap_or, cond, Result, Ok, Err, refl, sym, ap, subst, ◌∙◌, arith, lit≤}
use Rattle.std.specs.Prelude.{All, IfSome}
use Rattle.std.specs.List.{cons_option, filter_map}
use Rattle.std.specs.Option.{option_or, option_to_list}
use Rattle.std.proofs.lemmas.Bool.Decides.{nat_tests}
use Rattle.std.proofs.lemmas.List.FromFn.{get_or-map-range_with_len, length-map-range_with_len}
use Rattle.spu_asm.specs.Images.{Image}
use Rattle.cell_host.specs.declared.HostAction.{HostAction}
use Rattle.cell_host.specs.declared.HostAction.TheVariants.{Send, Take, TakeIntr, Store, Await, Signal}
use Rattle.cell_machine.specs.Opening.{InMemory}
use Rattle.cell_machine.specs.declared.setup.Show.{Show}
use Rattle.cell_machine.specs.Limits.{AreMachineLimits, FitsAction, FitsMemory, FitsShow, FitsStore, IsOpening, IsRegister}
use Rattle.cell_load.specs.declared.line.Refusal.{Refusal}
use Rattle.cell_load.specs.declared.line.Refusal.TheVariants.{Form}
use Rattle.cell_load.specs.declared.line.Counts.{Counts}
use Rattle.cell_load.specs.declared.line.Stage.TheVariants.{Start, Headed, Sized, Body}
use Rattle.cell_load.specs.Entries.{Entry, Head, Lines, Budget, Spe, Entrance, Code, Bytes, Source, MemoryBytes, Host, OrMode, ShowLocal, ShowMemory}
use Rattle.cell_load.specs.Form.{◌>>=◌}
use Rattle.cell_load.specs.Order.{nothing, admit, admit_all, counted, fits_action, in_body, in_memory, ends_well, in_local, has_spe, is_register, is_shown, limited, IsMachine}
use Rattle.cell_load.specs.Sources.{spes_after, spes_in}
use Rattle.cell_load.specs.Loaded as loaded
use Rattle.cell_load.specs.Loaded.{Load, Part, first_of, for_spe, given_to, image_start, images_after, line_start, loads_from, loads_of, machine_of, host_action, memory_piece, or_register, parts_of, placed_of, placed_part, shown_range, start_of, starts_of, with_register}
use Rattle.cell_load.specs.LoadViews.{AllTakeFit, FitsRegister, TakesFit}
use Rattle.cell_load.proofs.SetupLemmas.{starts-length}
use Rattle.cell_load.proofs.SourceLemmas.{spes_after-add}
use Rattle.cell_load.proofs.Admitted.{counted-spes, few_spes, limited-ok, only_if-ok, ok_same}

-- ---- what holds of each

abbrev Each : {X : Type 0} → (X → Type 0) → List X → Type 0
Each P [] = Unit {0}
Each P (x ∷ xs) = P x × Each P xs

each-append : {X : Type 0} (P : X → Type 0) (xs ys : List X) → Each P xs → Each P ys → Each P (xs ++ ys)
each-append P [] ys first last = last
each-append P (x ∷ xs) ys first last = (first.0, each-append P xs ys first.1 last)

all_each : {X : Type 0} (P : X → Type 0) (xs : List X) → Each P xs → All P xs
all_each P [] each k d within = absurd (omega arith)
all_each P (x ∷ xs) each zero d within = each.0
all_each P (x ∷ xs) each (suc k) d within = all_each P xs each.1 k d (omega arith)

-- ---- tests

both : (a b : Bool) → (a && b) ≡ true → (a ≡ true) × (b ≡ true)
both true true e = (refl, refl)
both true false e = absurd cc
both false b e = absurd cc

-- ---- what a line that has its place says of itself

abbrev IsStart : ℕ → Type 0
IsStart at = (at < 262144) × (at % 4 ≡ 0)

abbrev Within : Counts → Entry → Type 0
Within c (Entrance at) = (0 < c.spes) × IsStart at
Within c (Code at bytes) = (0 < c.spes) × (at + length bytes ≤ 262144)
Within c (Bytes at bytes) = (0 < c.spes) × (at + length bytes ≤ 262144)
Within c (Source name) = 0 < c.spes
Within c (ShowLocal spe at len) = (spe < c.spes) × (0 < len) × (len ≤ 4096) × (at + len ≤ 262144) × (c.shows < 64)
Within c (MemoryBytes at bytes) = at + length bytes ≤ 128 * c.lines
Within c (Host action) = FitsAction c.lines c.spes action × (c.actions < 4096)
Within c (OrMode spe register) = (spe < c.spes) × IsRegister register
Within c (ShowMemory at len) = (0 < len) × (len ≤ 4096) × (at + len ≤ 128 * c.lines) × (c.shows < 64)
Within c other = Unit {0}

-- a number that is tested to be that of a register is one
register_within : (register : ℕ) → is_register register ≡ true → IsRegister register
register_within register is = by_first (register == 1) refl is
  where
    by_first : (b : Bool) → (register == 1) ≡ b → (b || register == 2) ≡ true → IsRegister register
    by_first true e is =
        let one : register ≡ 1 = grind (arith, nat_tests) in
        (omega (arith, one), omega (arith, one))
    by_first false e is =
        let test : (register == 2) ≡ true = is in
        let two : register ≡ 2 = grind (arith, nat_tests) in
        (omega (arith, two), omega (arith, two))

action_within : (c : Counts) (a : HostAction) → fits_action c a ≡ true → FitsAction c.lines c.spes a
action_within c (Send spe value) is = let there : nat_lt spe c.spes ≡ true = is in grind (arith, nat_tests)
action_within c (Take spe) is = let there : nat_lt spe c.spes ≡ true = is in grind (arith, nat_tests)
action_within c (TakeIntr spe) is = let there : nat_lt spe c.spes ≡ true = is in grind (arith, nat_tests)
action_within c (Await spe) is = let there : nat_lt spe c.spes ≡ true = is in grind (arith, nat_tests)
action_within c (Signal spe register value) is =
    let b = both (nat_lt spe c.spes) (is_register register) is in
    let there : nat_lt spe c.spes ≡ true = b.0 in
    (grind (arith, nat_tests), register_within register b.1)
action_within c (Store ea len bytes) is =
    let b = both (nat_le 1 len && nat_le len 16 && nat_le (ea % 128 + len) 128 && in_memory c.lines ea len) (length bytes == 16) is in
    let m = both (nat_le 1 len && nat_le len 16 && nat_le (ea % 128 + len) 128) (in_memory c.lines ea len) b.0 in
    let l = both (nat_le 1 len && nat_le len 16) (nat_le (ea % 128 + len) 128) m.0 in
    let n = both (nat_le 1 len) (nat_le len 16) l.0 in
    let some : nat_le 1 len ≡ true = n.0 in
    let few : nat_le len 16 ≡ true = n.1 in
    let line : nat_le (ea % 128 + len) 128 ≡ true = l.1 in
    let low : nat_le (ea + len) (128 * c.lines) ≡ true = m.1 in
    let full : (length bytes == 16) ≡ true = b.1 in
    (grind (arith, nat_tests), grind (arith, nat_tests), grind (arith, nat_tests), grind (arith, nat_tests), grind (arith, nat_tests))

counted-within : (c : Counts) (e : Entry) (d : Counts) → counted c e ≡ Ok d → Within c e
unfolding counted
counted-within c Head d is = tt
counted-within c (Lines n) d is = tt
counted-within c (Budget n) d is = tt
counted-within c Spe d is = tt
counted-within c (Entrance at) d is =
    let b = both (has_spe c && not c.entry && at % 4 == 0) (nat_lt at 262144) (only_if-ok _ _ d is).0 in
    let a = both (has_spe c && not c.entry) (at % 4 == 0) b.0 in
    let s = both (has_spe c) (not c.entry) a.0 in
    let spe : nat_lt 0 c.spes ≡ true = s.0 in
    let four : (at % 4 == 0) ≡ true = a.1 in
    let low : nat_lt at 262144 ≡ true = b.1 in
    (grind (arith, nat_tests), (grind (arith, nat_tests), grind (arith, nat_tests)))
counted-within c (Code at bytes) d is =
    let b = both (has_spe c && at % 4 == 0 && length bytes % 4 == 0) (in_local at (length bytes)) (only_if-ok _ _ d is).0 in
    let a = both (has_spe c && at % 4 == 0) (length bytes % 4 == 0) b.0 in
    let s = both (has_spe c) (at % 4 == 0) a.0 in
    let spe : nat_lt 0 c.spes ≡ true = s.0 in
    let low : nat_le (at + length bytes) 262144 ≡ true = b.1 in
    (grind (arith, nat_tests), grind (arith, nat_tests))
counted-within c (Bytes at bytes) d is =
    let s = both (has_spe c) (in_local at (length bytes)) (only_if-ok _ _ d is).0 in
    let spe : nat_lt 0 c.spes ≡ true = s.0 in
    let low : nat_le (at + length bytes) 262144 ≡ true = s.1 in
    (grind (arith, nat_tests), grind (arith, nat_tests))
counted-within c (Source name) d is =
    let spe : nat_lt 0 c.spes ≡ true = (only_if-ok _ _ d is).0 in
    grind (arith, nat_tests)
counted-within c (MemoryBytes at bytes) d is =
    let low : nat_le (at + length bytes) (128 * c.lines) ≡ true = (only_if-ok _ _ d is).0 in
    grind (arith, nat_tests)
counted-within c (Host action) d is =
    let o = only_if-ok _ _ d is in
    let room : nat_lt c.actions 4096 ≡ true = (limited-ok _ _ d o.1).0 in
    (action_within c action o.0, grind (arith, nat_tests))
counted-within c (OrMode spe register) d is =
    let b = both (nat_lt spe c.spes) (is_register register) (only_if-ok _ _ d is).0 in
    let there : nat_lt spe c.spes ≡ true = b.0 in
    (grind (arith, nat_tests), register_within register b.1)
counted-within c (ShowMemory at len) d is =
    let o = only_if-ok _ _ d is in
    let l = both (is_shown len) (nat_lt c.shows 64) (limited-ok _ _ d o.1).0 in
    let m = both (nat_le 1 len) (nat_le len 4096) l.0 in
    let low : nat_le (at + len) (128 * c.lines) ≡ true = o.0 in
    let some : nat_le 1 len ≡ true = m.0 in
    let few : nat_le len 4096 ≡ true = m.1 in
    let room : nat_lt c.shows 64 ≡ true = l.1 in
    (grind (arith, nat_tests), grind (arith, nat_tests), grind (arith, nat_tests), grind (arith, nat_tests))
counted-within c (ShowLocal spe at len) d is =
    let o = only_if-ok _ _ d is in
    let s = both (nat_lt spe c.spes) (in_local at len) o.0 in
    let l = both (is_shown len) (nat_lt c.shows 64) (limited-ok _ _ d o.1).0 in
    let m = both (nat_le 1 len) (nat_le len 4096) l.0 in
    let there : nat_lt spe c.spes ≡ true = s.0 in
    let low : nat_le (at + len) 262144 ≡ true = s.1 in
    let some : nat_le 1 len ≡ true = m.0 in
    let few : nat_le len 4096 ≡ true = m.1 in
    let room : nat_lt c.shows 64 ≡ true = l.1 in
    (grind (arith, nat_tests), grind (arith, nat_tests), grind (arith, nat_tests), grind (arith, nat_tests), grind (arith, nat_tests))

-- the counts after a line that has its place
abbrev after : Counts → Entry → Counts
after c Spe = record c { spes = c.spes + 1; entry = false }
after c (Entrance at) = record c { entry = true }
after c (Source name) = record c { sources = c.sources + 1 }
after c (Host action) = record c { actions = c.actions + 1 }
after c (ShowLocal spe at len) = record c { shows = c.shows + 1 }
after c (ShowMemory at len) = record c { shows = c.shows + 1 }
after c other = c

counted-after : (c : Counts) (e : Entry) (d : Counts) → counted c e ≡ Ok d → after c e ≡ d
unfolding counted
counted-after c Head d is = absurd cc
counted-after c (Lines n) d is = absurd cc
counted-after c (Budget n) d is = absurd cc
counted-after c Spe d is = (limited-ok _ _ d is).1
counted-after c (Entrance at) d is = ok_same _ d (only_if-ok _ _ d is).1
counted-after c (Code at bytes) d is = ok_same _ d (only_if-ok _ _ d is).1
counted-after c (Bytes at bytes) d is = ok_same _ d (only_if-ok _ _ d is).1
counted-after c (Source name) d is = (limited-ok _ _ d (only_if-ok _ _ d is).1).1
counted-after c (MemoryBytes at bytes) d is = ok_same _ d (only_if-ok _ _ d is).1
counted-after c (Host action) d is = (limited-ok _ _ d (only_if-ok _ _ d is).1).1
counted-after c (OrMode spe register) d is = ok_same _ d (only_if-ok _ _ d is).1
counted-after c (ShowLocal spe at len) d is = (limited-ok _ _ d (only_if-ok _ _ d is).1).1
counted-after c (ShowMemory at len) d is = (limited-ok _ _ d (only_if-ok _ _ d is).1).1

-- a line keeps the number of memory lines, and counts the action or the range that it names up to the most of these
record Moves (c d : Counts) (e : Entry) : Type 0 where
  lines : d.lines ≡ c.lines
  actions : d.actions ≡ c.actions + length (option_to_list (host_action e))
  few_actions : c.actions ≤ 4096 → d.actions ≤ 4096
  shows : d.shows ≡ c.shows + length (option_to_list (shown_range e))
  few_shows : c.shows ≤ 64 → d.shows ≤ 64

still : (c d : Counts) (e : Entry) → d.lines ≡ c.lines → d.actions ≡ c.actions → d.shows ≡ c.shows → length (option_to_list (host_action e)) ≡ 0 → length (option_to_list (shown_range e)) ≡ 0 → Moves c d e
still c d e lines actions shows no_action no_range = record {
  lines = lines;
  actions = omega (arith, actions, no_action);
  few_actions = λ few. omega (arith, actions, few);
  shows = omega (arith, shows, no_range);
  few_shows = λ few. omega (arith, shows, few);
}

moves : (c : Counts) (e : Entry) → Within c e → Moves c (after c e) e
moves c Head within = still c (after c Head) Head refl refl refl refl refl
moves c (Lines n) within = still c (after c (Lines n)) (Lines n) refl refl refl refl refl
moves c (Budget n) within = still c (after c (Budget n)) (Budget n) refl refl refl refl refl
moves c Spe within = still c (after c Spe) Spe refl refl refl refl refl
moves c (Entrance at) within = still c (after c (Entrance at)) (Entrance at) refl refl refl refl refl
moves c (Code at bytes) within = still c (after c (Code at bytes)) (Code at bytes) refl refl refl refl refl
moves c (Bytes at bytes) within = still c (after c (Bytes at bytes)) (Bytes at bytes) refl refl refl refl refl
moves c (Source name) within = still c (after c (Source name)) (Source name) refl refl refl refl refl
moves c (MemoryBytes at bytes) within = still c (after c (MemoryBytes at bytes)) (MemoryBytes at bytes) refl refl refl refl refl
moves c (Host action) within = record { lines = refl; actions = omega arith; few_actions = λ few. let room = within.1 in omega (arith, room); shows = omega arith; few_shows = λ few. few }
moves c (OrMode spe register) within = still c (after c (OrMode spe register)) (OrMode spe register) refl refl refl refl refl
moves c (ShowLocal spe at len) within = record { lines = refl; actions = omega arith; few_actions = λ few. few; shows = omega arith; few_shows = λ few. let room = within.4 in omega (arith, room) }
moves c (ShowMemory at len) within = record { lines = refl; actions = omega arith; few_actions = λ few. few; shows = omega arith; few_shows = λ few. let room = within.3 in omega (arith, room) }

counted-moves : (c : Counts) (e : Entry) (d : Counts) → counted c e ≡ Ok d → Moves c d e
counted-moves c e d is = subst (λ (x : Counts). Moves c x e) (counted-after c e d is) (moves c e (counted-within c e d is))

-- a first line with its place, and the lines behind it
record Step (c : Counts) (e : Entry) (es : List Entry) : Type 0 where
  next : Counts
  is : counted c e ≡ Ok next
  later : ends_well (admit_all (Body next) es) ≡ true

body_step : (c : Counts) (e : Entry) (es : List Entry) → ends_well (admit_all (Body c) (e ∷ es)) ≡ true → Step c e es
unfolding admit_all admit
body_step c e es ends = by_counts (counted c e) refl ends
  where
    by_counts : (o : Result Counts Refusal) → counted c e ≡ o → ends_well (in_body o >>= λ n. admit_all n es) ≡ true → Step c e es
    by_counts (Err f) o ends = absurd cc
    by_counts (Ok d) o ends = record { next = d; is = o; later = ends }

-- ---- what the lines give fits

abbrev FitsPart : Part → Type 0
FitsPart (loaded.Text at bytes) = at + length bytes ≤ 262144
FitsPart (loaded.Data at bytes) = at + length bytes ≤ 262144
FitsPart (loaded.Start at) = IsStart at
FitsPart (loaded.ImageEntry at) = IsStart at

abbrev FitsLoad : ℕ → Load → Type 0
FitsLoad n load = (load.spe < n) × FitsPart load.part

parts_fit : (c : Counts) (e : Entry) (images : List Image) → Within c e → TakesFit images e → Each FitsPart (parts_of (slice_get images 0) e)
parts_fit c Head images within takes = none (slice_get images 0)
  where
    none : (o : Option Image) → Each FitsPart (parts_of o Head)
    none None = tt
    none (Some i) = tt
parts_fit c (Lines n) images within takes = none (slice_get images 0)
  where
    none : (o : Option Image) → Each FitsPart (parts_of o (Lines n))
    none None = tt
    none (Some i) = tt
parts_fit c (Budget n) images within takes = none (slice_get images 0)
  where
    none : (o : Option Image) → Each FitsPart (parts_of o (Budget n))
    none None = tt
    none (Some i) = tt
parts_fit c Spe images within takes = none (slice_get images 0)
  where
    none : (o : Option Image) → Each FitsPart (parts_of o Spe)
    none None = tt
    none (Some i) = tt
parts_fit c (ShowLocal spe at len) images within takes = none (slice_get images 0)
  where
    none : (o : Option Image) → Each FitsPart (parts_of o (ShowLocal spe at len))
    none None = tt
    none (Some i) = tt
parts_fit c (MemoryBytes at bytes) images within takes = none (slice_get images 0)
  where
    none : (o : Option Image) → Each FitsPart (parts_of o (MemoryBytes at bytes))
    none None = tt
    none (Some i) = tt
parts_fit c (Host action) images within takes = none (slice_get images 0)
  where
    none : (o : Option Image) → Each FitsPart (parts_of o (Host action))
    none None = tt
    none (Some i) = tt
parts_fit c (OrMode spe register) images within takes = none (slice_get images 0)
  where
    none : (o : Option Image) → Each FitsPart (parts_of o (OrMode spe register))
    none None = tt
    none (Some i) = tt
parts_fit c (ShowMemory at len) images within takes = none (slice_get images 0)
  where
    none : (o : Option Image) → Each FitsPart (parts_of o (ShowMemory at len))
    none None = tt
    none (Some i) = tt
parts_fit c (Entrance at) images within takes = (within.1, tt)
parts_fit c (Code at bytes) images within takes = (within.1, tt)
parts_fit c (Bytes at bytes) images within takes = (within.1, tt)
parts_fit c (Source name) [] within takes = tt
parts_fit c (Source name) (image ∷ images) within takes = (omega (arith, takes.before, takes.fits), (takes.fits, ((takes.within, takes.aligned), tt)))

given_fit : (n spe : ℕ) (parts : List Part) → (0 < length parts → spe < n) → Each FitsPart parts → Each (FitsLoad n) (given_to spe parts)
given_fit n spe [] below fit = tt
given_fit n spe (part ∷ parts) below fit = ((below (omega arith), fit.0), given_fit n spe parts (λ some. below (omega arith)) fit.1)

-- a line gives something only where a processor came before
has_processor : (c : Counts) (e : Entry) (images : List Image) → Within c e → 0 < length (parts_of (slice_get images 0) e) → 0 < c.spes
has_processor c Head images within some = absurd (none (slice_get images 0) some)
  where
    none : (o : Option Image) → 0 < length (parts_of o Head) → ⊥
    none None h = omega arith
    none (Some i) h = omega arith
has_processor c (Lines n) images within some = absurd (none (slice_get images 0) some)
  where
    none : (o : Option Image) → 0 < length (parts_of o (Lines n)) → ⊥
    none None h = omega arith
    none (Some i) h = omega arith
has_processor c (Budget n) images within some = absurd (none (slice_get images 0) some)
  where
    none : (o : Option Image) → 0 < length (parts_of o (Budget n)) → ⊥
    none None h = omega arith
    none (Some i) h = omega arith
has_processor c Spe images within some = absurd (none (slice_get images 0) some)
  where
    none : (o : Option Image) → 0 < length (parts_of o Spe) → ⊥
    none None h = omega arith
    none (Some i) h = omega arith
has_processor c (ShowLocal spe at len) images within some = omega (arith, within.0)
has_processor c (MemoryBytes at bytes) images within some = absurd (none (slice_get images 0) some)
  where
    none : (o : Option Image) → 0 < length (parts_of o (MemoryBytes at bytes)) → ⊥
    none None h = omega arith
    none (Some i) h = omega arith
has_processor c (Host action) images within some = absurd (none (slice_get images 0) some)
  where
    none : (o : Option Image) → 0 < length (parts_of o (Host action)) → ⊥
    none None h = omega arith
    none (Some i) h = omega arith
has_processor c (OrMode spe register) images within some = omega (arith, within.0)
has_processor c (ShowMemory at len) images within some = absurd (none (slice_get images 0) some)
  where
    none : (o : Option Image) → 0 < length (parts_of o (ShowMemory at len)) → ⊥
    none None h = omega arith
    none (Some i) h = omega arith
has_processor c (Entrance at) images within some = within.0
has_processor c (Code at bytes) images within some = within.0
has_processor c (Bytes at bytes) images within some = within.0
has_processor c (Source name) images within some = within

loads_fit : (n : ℕ) (c : Counts) (entries : List Entry) (images : List Image) → ends_well (admit_all (Body c) entries) ≡ true → AllTakeFit entries images → c.spes + spes_in entries ≤ n → Each (FitsLoad n) (loads_from c.spes entries images)
unfolding loads_from spes_in AllTakeFit
loads_fit n c [] images ends takes few = tt
loads_fit n c (e ∷ es) images ends takes few =
    let step = body_step c e es ends in
    let within = counted-within c e step.next step.is in
    let more : step.next.spes ≡ spes_after c.spes e = (counted-spes c e step.next step.is).counts in
    let all : spes_after c.spes e + spes_in es ≡ c.spes + spes_after (spes_in es) e = spes_after-add c.spes (spes_in es) e in
    let rest : Each (FitsLoad n) (loads_from step.next.spes es (images_after images e)) = loads_fit n step.next es (images_after images e) step.later takes.1 (omega (arith, more, all, few)) in
    each-append (FitsLoad n) (given_to (c.spes - 1) (parts_of (slice_get images 0) e)) (loads_from (spes_after c.spes e) es (images_after images e))
    (given_fit n (c.spes - 1) (parts_of (slice_get images 0) e) (λ some. let spe = has_processor c e images within some in omega (arith, spe, few)) (parts_fit c e images within takes.0))
    (subst (λ k. Each (FitsLoad n) (loads_from k es (images_after images e))) more rest)

-- ---- what is placed fits

placed_fit : (n : ℕ) (loads : List Load) → Each (FitsLoad n) loads → Each (FitsStore n) (placed_of loads)
placed_fit n [] fit = tt
placed_fit n (load ∷ loads) fit = by_part load.part fit.0.1 (placed_fit n loads fit.1)
  where
    by_part : (part : Part) → FitsPart part → Each (FitsStore n) (placed_of loads) → Each (FitsStore n) (cons_option (placed_part load.spe part) (placed_of loads))
    by_part (loaded.Text at bytes) fits rest = ((fit.0.0, fits), rest)
    by_part (loaded.Data at bytes) fits rest = ((fit.0.0, fits), rest)
    by_part (loaded.Start at) fits rest = rest
    by_part (loaded.ImageEntry at) fits rest = rest

-- ---- the starts are places

first_fit : (P : ℕ → Type 0) (f : Load → Option ℕ) (Q : Load → Type 0) → ((load : Load) → Q load → IfSome (f load) P) → (loads : List Load) → Each Q loads → IfSome (first_of f loads) P
unfolding first_of
first_fit P f Q one [] fit = tt
first_fit P f Q one (load ∷ loads) fit = by_one (f load) (one load fit.0) (first_fit P f Q one loads fit.1)
  where
    by_one : (o : Option ℕ) → IfSome o P → IfSome (first_of f loads) P → IfSome (option_or o (first_of f loads)) P
    by_one None here rest = rest
    by_one (Some at) here rest = here

line_fits : (p : ℕ) (part : Part) (b : Bool) → FitsPart part → IfSome (cond b (line_start part) None) IsStart
line_fits p (loaded.Text at bytes) true fits = tt
line_fits p (loaded.Data at bytes) true fits = tt
line_fits p (loaded.Start at) true fits = fits
line_fits p (loaded.ImageEntry at) true fits = tt
line_fits p part false fits = tt

image_fits : (p : ℕ) (part : Part) (b : Bool) → FitsPart part → IfSome (cond b (image_start part) None) IsStart
image_fits p (loaded.Text at bytes) true fits = tt
image_fits p (loaded.Data at bytes) true fits = tt
image_fits p (loaded.Start at) true fits = tt
image_fits p (loaded.ImageEntry at) true fits = fits
image_fits p part false fits = tt

start_fits : (n : ℕ) (loads : List Load) (p : ℕ) → Each (FitsLoad n) loads → IsStart (start_of loads p)
start_fits n loads p fit = by_starts (first_of (for_spe p line_start) loads) (first_of (for_spe p image_start) loads)
    (first_fit IsStart (for_spe p line_start) (FitsLoad n) (λ load fits. line_fits p load.part (load.spe == p) fits.1) loads fit)
    (first_fit IsStart (for_spe p image_start) (FitsLoad n) (λ load fits. image_fits p load.part (load.spe == p) fits.1) loads fit)
  where
    by_starts : (a b : Option ℕ) → IfSome a IsStart → IfSome b IsStart → IsStart (unwrap_or (option_or a b) 0)
    by_starts (Some x) b f g = f
    by_starts None (Some y) f g = g
    by_starts None None f g = (omega arith, refl)

starts_fit : (n : ℕ) (loads : List Load) (m : ℕ) → Each (FitsLoad n) loads → All IsStart (starts_of loads m)
starts_fit n loads m fit k d within =
    let below : k < m = omega (arith, within, length-map-range_with_len (start_of loads) 0 m) in
    subst IsStart (sym (get_or-map-range_with_len (start_of loads) 0 m k k d below (omega arith))) (start_fits n loads k fit)

-- ---- what is placed in memory, the host actions and the ranges that are shown fit

-- what holds of what h gives of each line that has its place
each_fits : {X : Type 0} (h : Entry → Option X) (P : X → Type 0) (lines n : ℕ) → ((c : Counts) (e : Entry) → c.lines ≡ lines → c.spes ≤ n → Within c e → IfSome (h e) P)
    → (c : Counts) (entries : List Entry) → c.lines ≡ lines → ends_well (admit_all (Body c) entries) ≡ true → c.spes + spes_in entries ≤ n → Each P (filter_map h entries)
unfolding spes_in
each_fits h P lines n one c [] same ends few = tt
each_fits {X = X} h P lines n one c (e ∷ es) same ends few =
    let step = body_step c e es ends in
    let more : step.next.spes ≡ spes_after c.spes e = (counted-spes c e step.next step.is).counts in
    let all : spes_after c.spes e + spes_in es ≡ c.spes + spes_after (spes_in es) e = spes_after-add c.spes (spes_in es) e in
    let kept : step.next.lines ≡ lines = (counted-moves c e step.next step.is).lines ∙ same in
    with_first (h e) (one c e same (omega (arith, few)) (counted-within c e step.next step.is)) (each_fits h P lines n one step.next es kept step.later (omega (arith, more, all, few)))
  where
    with_first : (o : Option X) → IfSome o P → Each P (filter_map h es) → Each P (cons_option o (filter_map h es))
    with_first None here rest = rest
    with_first (Some x) here rest = (here, rest)

memory_fits : (lines n : ℕ) (c : Counts) (e : Entry) → c.lines ≡ lines → c.spes ≤ n → Within c e → IfSome (memory_piece e) (FitsMemory lines)
memory_fits lines n c (MemoryBytes at bytes) same few within = omega (arith, same, within)
memory_fits lines n c Head same few within = tt
memory_fits lines n c (Lines k) same few within = tt
memory_fits lines n c (Budget k) same few within = tt
memory_fits lines n c Spe same few within = tt
memory_fits lines n c (Entrance at) same few within = tt
memory_fits lines n c (Code at bytes) same few within = tt
memory_fits lines n c (Bytes at bytes) same few within = tt
memory_fits lines n c (Source name) same few within = tt
memory_fits lines n c (Host action) same few within = tt
memory_fits lines n c (OrMode spe register) same few within = tt
memory_fits lines n c (ShowLocal spe at len) same few within = tt
memory_fits lines n c (ShowMemory at len) same few within = tt

later_action : (lines few many : ℕ) (a : HostAction) → few ≤ many → FitsAction lines few a → FitsAction lines many a
later_action lines few many (Send spe value) more fits = omega (arith, more, fits)
later_action lines few many (Take spe) more fits = omega (arith, more, fits)
later_action lines few many (TakeIntr spe) more fits = omega (arith, more, fits)
later_action lines few many (Await spe) more fits = omega (arith, more, fits)
later_action lines few many (Signal spe register value) more fits = (omega (arith, more, fits.0), fits.1)
later_action lines few many (Store ea len bytes) more fits = fits

action_fits : (lines n : ℕ) (c : Counts) (e : Entry) → c.lines ≡ lines → c.spes ≤ n → Within c e → IfSome (host_action e) (FitsAction lines n)
action_fits lines n c (Host action) same few within = subst (λ k. FitsAction k n action) same (later_action c.lines c.spes n action few within.0)
action_fits lines n c Head same few within = tt
action_fits lines n c (Lines k) same few within = tt
action_fits lines n c (Budget k) same few within = tt
action_fits lines n c Spe same few within = tt
action_fits lines n c (Entrance at) same few within = tt
action_fits lines n c (Code at bytes) same few within = tt
action_fits lines n c (Bytes at bytes) same few within = tt
action_fits lines n c (Source name) same few within = tt
action_fits lines n c (MemoryBytes at bytes) same few within = tt
action_fits lines n c (OrMode spe register) same few within = tt
action_fits lines n c (ShowLocal spe at len) same few within = tt
action_fits lines n c (ShowMemory at len) same few within = tt

show_fits : (lines n : ℕ) (c : Counts) (e : Entry) → c.lines ≡ lines → c.spes ≤ n → Within c e → IfSome (shown_range e) (FitsShow lines n)
show_fits lines n c (ShowLocal spe at len) same few within = (omega (arith, within.0, few), within.1, within.2, within.3)
show_fits lines n c (ShowMemory at len) same few within = (within.0, within.1, omega (arith, same, within.2))
show_fits lines n c Head same few within = tt
show_fits lines n c (Lines k) same few within = tt
show_fits lines n c (Budget k) same few within = tt
show_fits lines n c Spe same few within = tt
show_fits lines n c (Entrance at) same few within = tt
show_fits lines n c (Code at bytes) same few within = tt
show_fits lines n c (Bytes at bytes) same few within = tt
show_fits lines n c (Source name) same few within = tt
show_fits lines n c (MemoryBytes at bytes) same few within = tt
show_fits lines n c (Host action) same few within = tt
show_fits lines n c (OrMode spe register) same few within = tt

register_fits : (lines n : ℕ) (c : Counts) (e : Entry) → c.lines ≡ lines → c.spes ≤ n → Within c e → IfSome (or_register e) (FitsRegister n)
register_fits lines n c (OrMode spe register) same few within = (omega (arith, within.0, few), within.1)
register_fits lines n c Head same few within = tt
register_fits lines n c (Lines k) same few within = tt
register_fits lines n c (Budget k) same few within = tt
register_fits lines n c Spe same few within = tt
register_fits lines n c (Entrance at) same few within = tt
register_fits lines n c (Code at bytes) same few within = tt
register_fits lines n c (Bytes at bytes) same few within = tt
register_fits lines n c (Source name) same few within = tt
register_fits lines n c (MemoryBytes at bytes) same few within = tt
register_fits lines n c (Host action) same few within = tt
register_fits lines n c (ShowLocal spe at len) same few within = tt
register_fits lines n c (ShowMemory at len) same few within = tt

cons-long : {X : Type 0} (o : Option X) (xs : List X) → length (cons_option o xs) ≡ length (option_to_list o) + length xs
cons-long None xs = omega arith
cons-long (Some x) xs = omega arith

-- lines that are counted up to the most of them are no more than that
few_given : {X : Type 0} (h : Entry → Option X) (count : Counts → ℕ) (most : ℕ) → ((c : Counts) (e : Entry) (d : Counts) → counted c e ≡ Ok d → count d ≡ count c + length (option_to_list (h e)))
    → ((c : Counts) (e : Entry) (d : Counts) → counted c e ≡ Ok d → count c ≤ most → count d ≤ most)
    → (c : Counts) (entries : List Entry) → ends_well (admit_all (Body c) entries) ≡ true → count c ≤ most → count c + length (filter_map h entries) ≤ most
few_given h count most adds stays c [] ends few = omega (arith, few)
few_given h count most adds stays c (e ∷ es) ends few =
    let step = body_step c e es ends in
    let rest = few_given h count most adds stays step.next es step.later (stays c e step.next step.is few) in
    omega (arith, rest, adds c e step.next step.is, cons-long (h e) (filter_map h es))

actions_few : (c : Counts) (entries : List Entry) → ends_well (admit_all (Body c) entries) ≡ true → c.actions ≤ 4096 → c.actions + length (filter_map host_action entries) ≤ 4096
actions_few = few_given host_action (λ (c : Counts). c.actions) 4096 (λ c e d is. (counted-moves c e d is).actions) (λ c e d is. (counted-moves c e d is).few_actions)

shows_few : (c : Counts) (entries : List Entry) → ends_well (admit_all (Body c) entries) ≡ true → c.shows ≤ 64 → c.shows + length (filter_map shown_range entries) ≤ 64
shows_few = few_given shown_range (λ (c : Counts). c.shows) 64 (λ c e d is. (counted-moves c e d is).shows) (λ c e d is. (counted-moves c e d is).few_shows)

-- ---- there is a processor

some_from : (c : Counts) (entries : List Entry) → ends_well (admit_all (Body c) entries) ≡ true → 0 < c.spes + spes_in entries
unfolding spes_in admit_all
some_from c [] ends = by_count (c.spes == 0) refl ends
  where
    by_count : (b : Bool) → (c.spes == 0) ≡ b → is_none (cond b (Some Form) None) ≡ true → 0 < c.spes + 0
    by_count true e ends = absurd cc
    by_count false e ends = grind (arith, nat_tests)
some_from c (e ∷ es) ends =
    let step = body_step c e es ends in
    let more : step.next.spes ≡ spes_after c.spes e = (counted-spes c e step.next step.is).counts in
    let all : spes_after c.spes e + spes_in es ≡ c.spes + spes_after (spes_in es) e = spes_after-add c.spes (spes_in es) e in
    omega (arith, more, all, some_from step.next es step.later)

-- ---- the first three lines

record Whole (entries : List Entry) : Type 0 where
  lines : ℕ
  budget : ℕ
  body : List Entry
  is : entries ≡ Head ∷ Lines lines ∷ Budget budget ∷ body
  limits : AreMachineLimits lines budget
  ends : ends_well (admit_all (Body (nothing lines)) body) ≡ true

record Sizes (entries : List Entry) : Type 0 where
  lines : ℕ
  rest : List Entry
  is : entries ≡ Lines lines ∷ rest
  limits : (0 < lines) × (lines ≤ 524288)
  ends : ends_well (admit_all (Sized lines) rest) ≡ true

record Budgets (lines : ℕ) (entries : List Entry) : Type 0 where
  budget : ℕ
  rest : List Entry
  is : entries ≡ Budget budget ∷ rest
  limits : (0 < budget) × (budget ≤ 1000000)
  ends : ends_well (admit_all (Body (nothing lines)) rest) ≡ true

sizes : (entries : List Entry) → ends_well (admit_all Headed entries) ≡ true → Sizes entries
unfolding admit_all admit
sizes [] ends = absurd cc
sizes (Lines n ∷ es) ends = by_limits (nat_le 1 n && nat_le n 524288) refl ends
  where
    by_limits : (b : Bool) → (nat_le 1 n && nat_le n 524288) ≡ b → ends_well (limited b (Sized n) >>= λ s. admit_all s es) ≡ true → Sizes (Lines n ∷ es)
    by_limits false e ends = absurd cc
    by_limits true e ends =
        let t = both (nat_le 1 n) (nat_le n 524288) e in
        let low : nat_le 1 n ≡ true = t.0 in
        let high : nat_le n 524288 ≡ true = t.1 in
        record { lines = n; rest = es; is = refl; limits = (grind (arith, nat_tests), grind (arith, nat_tests)); ends = ends }
sizes (other ∷ es) ends = absurd cc

budgets : (lines : ℕ) (entries : List Entry) → ends_well (admit_all (Sized lines) entries) ≡ true → Budgets lines entries
unfolding admit_all admit
budgets lines [] ends = absurd cc
budgets lines (Budget n ∷ es) ends = by_limits (nat_le 1 n && nat_le n 1000000) refl ends
  where
    by_limits : (b : Bool) → (nat_le 1 n && nat_le n 1000000) ≡ b → ends_well (limited b (Body (nothing lines)) >>= λ s. admit_all s es) ≡ true → Budgets lines (Budget n ∷ es)
    by_limits false e ends = absurd cc
    by_limits true e ends =
        let t = both (nat_le 1 n) (nat_le n 1000000) e in
        let low : nat_le 1 n ≡ true = t.0 in
        let high : nat_le n 1000000 ≡ true = t.1 in
        record { budget = n; rest = es; is = refl; limits = (grind (arith, nat_tests), grind (arith, nat_tests)); ends = ends }
budgets lines (other ∷ es) ends = absurd cc

whole_file : (entries : List Entry) → ends_well (admit_all Start entries) ≡ true → Whole entries
unfolding admit_all admit
whole_file [] ends = absurd cc
whole_file (Head ∷ es) ends =
    let s = sizes es ends in
    let b = budgets s.lines s.rest s.ends in
    record {
      lines = s.lines;
      budget = b.budget;
      body = b.rest;
      is = ap (λ xs. Head ∷ xs) (s.is ∙ ap (λ xs. Lines s.lines ∷ xs) b.is);
      limits = (s.limits.0, s.limits.1, b.limits.0, b.limits.1);
      ends = b.ends;
    }
whole_file (other ∷ es) ends = absurd cc

-- ---- the whole

opening_of : (lines budget n modes : ℕ) (loads : List Load) (memory : List InMemory) (actions : List HostAction) (shows : List Show) → AreMachineLimits lines budget → n ≤ 16 → Each (FitsLoad n) loads
    → Each (FitsMemory lines) memory → Each (FitsAction lines n) actions → length actions ≤ 4096 → Each (FitsShow lines n) shows → length shows ≤ 64
    → IsOpening (record { lines = lines; budget = budget; entries = starts_of loads n; or_modes = modes; placed = placed_of loads; memory = memory; actions = actions; shows = shows })
opening_of lines budget n modes loads memory actions shows limits few placed filled acts acted ranges shown =
    let long : length (starts_of loads n) ≡ n = starts-length loads n in
    record {
      limits = limits;
      spes = omega (arith, long, few);
      entries = starts_fit n loads n placed;
      placed = subst (λ k. All (FitsStore k) (placed_of loads)) (sym long) (all_each (FitsStore n) (placed_of loads) (placed_fit n loads placed));
      memory = all_each (FitsMemory lines) memory filled;
      few = acted;
      actions = subst (λ k. All (FitsAction lines k) actions) (sym long) (all_each (FitsAction lines n) actions acts);
      shown = shown;
      shows = subst (λ k. All (FitsShow lines k) shows) (sym long) (all_each (FitsShow lines n) shows ranges);
    }

-- a line that gives nothing
record Idle (e : Entry) : Type 0 where
  parts : (o : Option Image) → parts_of o e ≡ []
  images : (is : List Image) → images_after is e ≡ is
  spes : (n : ℕ) → spes_after n e ≡ n

skip_loads : (n : ℕ) (e : Entry) (es : List Entry) (images : List Image) → Idle e → loads_from n (e ∷ es) images ≡ loads_from n es images
unfolding loads_from
skip_loads n e es images idle =
    ap (λ parts. given_to (n - 1) parts ++ loads_from (spes_after n e) es (images_after images e)) (idle.parts (slice_get images 0))
    ∙ ap (λ is. loads_from (spes_after n e) es is) (idle.images images)
    ∙ ap (λ k. loads_from k es images) (idle.spes n)

skip_takes : (e : Entry) (es : List Entry) (images : List Image) → Idle e → AllTakeFit (e ∷ es) images → AllTakeFit es images
unfolding AllTakeFit
skip_takes e es images idle takes = subst (λ is. AllTakeFit es is) (idle.images images) takes.1

idle_head : Idle Head
idle_head = record { parts = parts; images = images; spes = λ n. refl }
  where
    parts : (o : Option Image) → parts_of o Head ≡ []
    parts None = refl
    parts (Some i) = refl

    images : (is : List Image) → images_after is Head ≡ is
    images [] = refl
    images (i ∷ is) = refl

idle_lines : (n : ℕ) → Idle (Lines n)
idle_lines n = record { parts = parts; images = images; spes = λ k. refl }
  where
    parts : (o : Option Image) → parts_of o (Lines n) ≡ []
    parts None = refl
    parts (Some i) = refl

    images : (is : List Image) → images_after is (Lines n) ≡ is
    images [] = refl
    images (i ∷ is) = refl

idle_budget : (n : ℕ) → Idle (Budget n)
idle_budget n = record { parts = parts; images = images; spes = λ k. refl }
  where
    parts : (o : Option Image) → parts_of o (Budget n) ≡ []
    parts None = refl
    parts (Some i) = refl

    images : (is : List Image) → images_after is (Budget n) ≡ is
    images [] = refl
    images (i ∷ is) = refl

body_opening : (lines budget : ℕ) (body : List Entry) (images : List Image) → AreMachineLimits lines budget → ends_well (admit_all (Body (nothing lines)) body) ≡ true → spes_in body ≤ 16
    → AllTakeFit body images → IsOpening (machine_of (Head ∷ Lines lines ∷ Budget budget ∷ body) (loads_from 0 body images))
unfolding first_of spes_in
body_opening lines budget body images limits ends few takes =
    let n : 0 + spes_in body ≡ spes_in body = omega arith in
    let acted : length (filter_map host_action body) ≤ 4096 = omega (arith, actions_few (nothing lines) body ends (lit≤ tt)) in
    let shown : length (filter_map shown_range body) ≤ 64 = omega (arith, shows_few (nothing lines) body ends (lit≤ tt)) in
    opening_of lines budget (spes_in body) (fold with_register 0 (filter_map or_register body)) (loads_from 0 body images) (filter_map memory_piece body) (filter_map host_action body) (filter_map shown_range body) limits few
    (loads_fit (spes_in body) (nothing lines) body images ends takes (omega (arith, n)))
    (each_fits memory_piece (FitsMemory lines) lines (spes_in body) (memory_fits lines (spes_in body)) (nothing lines) body refl ends (omega (arith, n)))
    (each_fits host_action (FitsAction lines (spes_in body)) lines (spes_in body) (action_fits lines (spes_in body)) (nothing lines) body refl ends (omega (arith, n)))
    acted
    (each_fits shown_range (FitsShow lines (spes_in body)) lines (spes_in body) (show_fits lines (spes_in body)) (nothing lines) body refl ends (omega (arith, n)))
    shown

file_opening : (lines budget : ℕ) (body : List Entry) (images : List Image) → AreMachineLimits lines budget → ends_well (admit_all (Body (nothing lines)) body) ≡ true → spes_in body ≤ 16
    → AllTakeFit (Head ∷ Lines lines ∷ Budget budget ∷ body) images → IsOpening (machine_of (Head ∷ Lines lines ∷ Budget budget ∷ body) (loads_of (Head ∷ Lines lines ∷ Budget budget ∷ body) images))
file_opening lines budget body images limits ends few takes =
    let same : loads_from 0 (Head ∷ Lines lines ∷ Budget budget ∷ body) images ≡ loads_from 0 body images =
    skip_loads 0 Head (Lines lines ∷ Budget budget ∷ body) images idle_head
    ∙ skip_loads 0 (Lines lines) (Budget budget ∷ body) images (idle_lines lines)
    ∙ skip_loads 0 (Budget budget) body images (idle_budget budget) in
    let rest = skip_takes (Budget budget) body images (idle_budget budget) (skip_takes (Lines lines) (Budget budget ∷ body) images (idle_lines lines) (skip_takes Head (Lines lines ∷ Budget budget ∷ body) images idle_head takes)) in
    subst (λ loads. IsOpening (machine_of (Head ∷ Lines lines ∷ Budget budget ∷ body) loads)) (sym same) (body_opening lines budget body images limits ends few rest)

body_spes : (lines budget : ℕ) (body : List Entry) → spes_in (Head ∷ Lines lines ∷ Budget budget ∷ body) ≡ spes_in body
unfolding spes_in
body_spes lines budget body = refl

pub is_opening : (entries : List Entry) (images : List Image) → IsMachine entries → AllTakeFit entries images → IsOpening (machine_of entries (loads_of entries images))
is_opening entries images whole takes =
    let w = whole_file entries whole in
    let few : spes_in w.body ≤ 16 = omega (arith, few_spes entries whole, ap spes_in w.is, body_spes w.lines w.budget w.body) in
    subst (λ es. IsOpening (machine_of es (loads_of es images))) (sym w.is)
    (file_opening w.lines w.budget w.body images w.limits w.ends few (subst (λ es. AllTakeFit es images) w.is takes))

-- the registers that are put into OR mode are those of processors that are there
pub registers_fit : (entries : List Entry) → IsMachine entries → All (FitsRegister (spes_in entries)) (filter_map or_register entries)
registers_fit entries whole =
    let w = whole_file entries whole in
    let same : spes_in entries ≡ spes_in w.body = ap spes_in w.is ∙ body_spes w.lines w.budget w.body in
    let n : 0 + spes_in w.body ≡ spes_in w.body = omega arith in
    let fit = all_each (FitsRegister (spes_in w.body)) (filter_map or_register w.body) (each_fits or_register (FitsRegister (spes_in w.body)) w.lines (spes_in w.body) (register_fits w.lines (spes_in w.body)) (nothing w.lines) w.body refl w.ends (omega (arith, n))) in
    subst (λ k. All (FitsRegister k) (filter_map or_register entries)) (sym same) (subst (λ es. All (FitsRegister (spes_in w.body)) (filter_map or_register es)) (sym w.is) fit)

pub some_spes : (entries : List Entry) → IsMachine entries → 0 < spes_in entries
some_spes entries whole =
    let w = whole_file entries whole in
    omega (arith, ap spes_in w.is, body_spes w.lines w.budget w.body, some_from (nothing w.lines) w.body w.ends)
