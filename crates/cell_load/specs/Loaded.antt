-- What the lines of a machine file and the images of its sources put into a machine.
use Rattle.std.specs.Prelude.{◌≡◌, ℕ, ◌+◌, ◌-◌, ◌*◌, ◌^◌, ◌==◌, ◌&&◌, bit_or, fold, nat_lt, nat_le, Bool, false, List, [], ◌∷◌, ◌++◌, length, map, Option, Some, None, is_none, unwrap_or, slice_get, Result, Ok, Err, if◌then◌else◌}
use Rattle.std.specs.List.{filter_map, find, list_any, range_with_len}
use Rattle.std.specs.Option.{option_map, option_or}
use Rattle.local_store.specs.Store.{word_at}
use Rattle.spu_decode.specs.Spelling.{instr_of}
use Rattle.spu_asm.specs.Images.{Image}
use Rattle.cell_base.specs.Bytes.{zeros}
use Rattle.cell_host.specs.declared.HostAction.{HostAction}
use Rattle.cell_signals.specs.Registers.{number_of}
use Rattle.cell_machine.specs.Opening.{Opening, Placed, InMemory, placed_in}
use Rattle.cell_machine.specs.declared.setup.Show.{Show}
use Rattle.cell_machine.specs.declared.setup.Show.TheVariants as show
use Rattle.cell_load.specs.declared.loading.LoadError.{LoadError}
use Rattle.cell_load.specs.declared.loading.LoadError.TheVariants.{NotInTable, Memory}
use Rattle.cell_load.specs.Entries.{Entry, Lines, Budget, Entrance, Code, Bytes, Source, MemoryBytes, Host, OrMode, ShowLocal, ShowMemory}
use Rattle.cell_load.specs.Sources.{spes_after, spes_in}

-- what is given to a processor: bytes whose words are instructions, other bytes,
-- the start address of its own line, and the entry of an image
pub data Part : Type 0 where
  Text : (at : ℕ) (bytes : List ℕ) → Part
  Data : (at : ℕ) (bytes : List ℕ) → Part
  Start : (at : ℕ) → Part
  ImageEntry : (at : ℕ) → Part

pub record Load : Type 0 where
  pub spe : ℕ
  pub part : Part

abbrev pub parts_of_image : Image → List Part
parts_of_image i = Text 0 i.text ∷ Data i.bytes_at i.bytes ∷ ImageEntry i.entry ∷ []

-- what a line gives to the latest processor; a source line gives its image
abbrev pub parts_of : Option Image → Entry → List Part
parts_of image (Entrance at) = Start at ∷ []
parts_of image (Code at bytes) = Text at bytes ∷ []
parts_of image (Bytes at bytes) = Data at bytes ∷ []
parts_of (Some i) (Source name) = parts_of_image i
parts_of image other = []

-- the images that are left behind a line
abbrev pub images_after : List Image → Entry → List Image
images_after (image ∷ images) (Source name) = images
images_after images other = images

abbrev pub given_to : ℕ → List Part → List Load
given_to spe parts = map (λ part. record { spe = spe; part = part }) parts

-- what these lines give, where so many processors came before; the source lines take the images in their order
unfoldable pub loads_from : ℕ → List Entry → List Image → List Load
loads_from spes [] images = []
loads_from spes (entry ∷ entries) images =
    given_to (spes - 1) (parts_of (slice_get images 0) entry)
    ++ loads_from (spes_after spes entry) entries (images_after images entry)

-- what a machine file and the images of its sources give, in the order of the lines
abbrev pub loads_of : List Entry → List Image → List Load
loads_of entries images = loads_from 0 entries images

-- the first that f gives of these
unfoldable pub first_of : {X Y : Type 0} → (X → Option Y) → List X → Option Y
first_of f [] = None
first_of f (x ∷ xs) = option_or (f x) (first_of f xs)

-- ---- what is placed

abbrev pub placed_part : ℕ → Part → Option Placed
placed_part spe (Text at bytes) = Some (record { spe = spe; at = at; bytes = bytes })
placed_part spe (Data at bytes) = Some (record { spe = spe; at = at; bytes = bytes })
placed_part spe other = None

-- the bytes that are placed, in their order
abbrev pub placed_of : List Load → List Placed
placed_of loads = filter_map (λ load. placed_part load.spe load.part) loads

-- ---- where a processor starts

abbrev pub line_start : Part → Option ℕ
line_start (Start at) = Some at
line_start other = None

abbrev pub image_start : Part → Option ℕ
image_start (ImageEntry at) = Some at
image_start other = None

-- what f gives of a part for processor p
abbrev pub for_spe : ℕ → (Part → Option ℕ) → Load → Option ℕ
for_spe p f load = if load.spe == p then f load.part else None

-- the address of the processor's entry line, else the entry of its first source, else 0
abbrev pub start_of : List Load → ℕ → ℕ
start_of loads p = unwrap_or (option_or (first_of (for_spe p line_start) loads) (first_of (for_spe p image_start) loads)) 0

-- where each of so many processors starts
abbrev pub starts_of : List Load → ℕ → List ℕ
starts_of loads spes = map (start_of loads) (range_with_len 0 spes)

-- ---- the whole machine

abbrev pub lines_number : Entry → Option ℕ
lines_number (Lines n) = Some n
lines_number other = None

abbrev pub budget_number : Entry → Option ℕ
budget_number (Budget n) = Some n
budget_number other = None

abbrev pub memory_piece : Entry → Option InMemory
memory_piece (MemoryBytes at bytes) = Some (record { at = at; bytes = bytes })
memory_piece other = None

abbrev pub host_action : Entry → Option HostAction
host_action (Host action) = Some action
host_action other = None

abbrev pub shown_range : Entry → Option Show
shown_range (ShowLocal spe at len) = Some (show.Local spe at len)
shown_range (ShowMemory at len) = Some (show.Memory at len)
shown_range other = None

-- the processor and the signal register of its that a line puts into OR mode
abbrev pub or_register : Entry → Option (ℕ × ℕ)
or_register (OrMode spe register) = Some (spe, register)
or_register other = None

-- one more register in OR mode
abbrev pub with_register : ℕ → ℕ × ℕ → ℕ
with_register bits x = bit_or bits (2 ^ number_of x.0 x.1)

abbrev pub machine_of : List Entry → List Load → Opening
machine_of entries loads = record {
  lines = unwrap_or (first_of lines_number entries) 0;
  budget = unwrap_or (first_of budget_number entries) 0;
  entries = starts_of loads (spes_in entries);
  or_modes = fold with_register 0 (filter_map or_register entries);
  placed = placed_of loads;
  memory = filter_map memory_piece entries;
  actions = filter_map host_action entries;
  shows = filter_map shown_range entries;
}

-- what the lines of a machine file and the images of its sources stand for
abbrev pub setup_of : List Entry → List Image → Opening
setup_of entries images = machine_of entries (loads_of entries images)

-- ---- text words

abbrev pub in_text : ℕ → Part → Bool
in_text a (Text at bytes) = nat_le at a && nat_lt a (at + length bytes)
in_text a other = false

-- address a of processor p lies in the text of a `code` line or of an image
abbrev pub is_text : List Load → ℕ → ℕ → Bool
is_text loads p a = list_any (λ load. (load.spe == p) && in_text a load.part) loads

-- the word at an address is no instruction of the table
abbrev pub lacks_row : List ℕ → ℕ → Bool
lacks_row store a = is_none (instr_of (word_at store a))

-- the addresses of n words from word k on
unfoldable pub places_from : ℕ → ℕ → List ℕ
places_from k n = map (λ i. 4 * i) (range_with_len k n)

-- the addresses of a store's words
abbrev pub places : List ℕ
places = places_from 0 65536

-- a text word without a row
pub record NoRow : Type 0 where
  pub spe : ℕ
  pub address : ℕ
  pub word : ℕ

-- processor p's word at an address of its store
abbrev pub told : ℕ → List ℕ → ℕ → NoRow
told p store a = record { spe = p; address = a; word = word_at store a }

-- the first address of these that is text, and whose word in the store has no row
abbrev pub first_without_row : (ℕ → Bool) → ℕ → List ℕ → List ℕ → Option NoRow
first_without_row text p store addresses = option_map (told p store) (find (λ a. text a && lacks_row store a) addresses)

-- the first text word of processor p without a row, once everything is placed
abbrev pub bad_word : List Load → ℕ → Option NoRow
bad_word loads p = first_without_row (is_text loads p) p (placed_in (zeros 262144) p (placed_of loads)) places

-- that of the first processor, of n from p on, that has one
abbrev pub bad_word_from : List Load → ℕ → ℕ → Option NoRow
bad_word_from loads p n = first_of (bad_word loads) (range_with_len p n)

abbrev pub unless : Opening → Option NoRow → Result Opening NoRow
unless S None = Ok S
unless S (Some bad) = Err bad

-- what the lines and the images stand for, or the first text word without a row, by processor and then by address
unfoldable pub loaded : List Entry → List Image → Result Opening NoRow
loaded entries images = unless (setup_of entries images) (bad_word_from (loads_of entries images) 0 (spes_in entries))

-- What a function returned, seen by view, is what is given, unless memory ran out.
abbrev pub LoadGives : {X : Type 0} → (X → Opening) → Result X LoadError → Result Opening NoRow → Type 0
LoadGives view (Ok x) given = given ≡ Ok (view x)
LoadGives view (Err (NotInTable spe address word)) given = given ≡ Err (record { spe = spe; address = address; word = word })
LoadGives view (Err Memory) given = Unit {0}

-- No word is bad, or the one that the error names, unless memory ran out.
abbrev pub Finds : {X : Type 0} → Result X LoadError → Option NoRow → Type 0
Finds (Ok x) bad = bad ≡ None
Finds (Err (NotInTable spe address word)) bad = bad ≡ Some (record { spe = spe; address = address; word = word })
Finds (Err Memory) bad = Unit {0}
