-- The memory as the machine keeps it, in arrays, and the map from addresses to bytes that it stands for.
use Rattle.std.specs.Prelude.{ℕ, ◌≡◌, ◌+◌, ◌-◌, ◌*◌, ◌<◌, ◌≤◌, ◌&&◌, true, false, if◌then◌else◌, List, length, Option, Some, None, Result, Ok, Err, slice_index_or}
use Rattle.rv_isa.specs.declared.rv.Rv.{Rv}
use Rattle.rv_isa.specs.Decode.{decode_of}
use Rattle.rv_isa.specs.Memory.{Segments, Permission, read, in_text, in_data, in_stack, touches_guard, is_permitted, is_aligned, text_start, data_start, stack_start}
use Rattle.rv_isa.specs.declared.memory_map.TheConstants.{STACK_SIZE}
use Rattle.elf_object.specs.declared.image.TheConstants.{LARGEST_TEXT, LARGEST_DATA}
use Rattle.rv_machine.specs.Bytes.{held}
use Rattle.rv_machine.specs.declared.stop.Stop.{Stop}
use Rattle.rv_machine.specs.declared.stop.Stop.TheVariants.{Access, Illegal}
use Rattle.rv_machine.specs.declared.stop.Stop.TheVariants as stop
use Rattle.rv_machine.specs.declared.memory.Place.{Place}
use Rattle.rv_machine.specs.declared.memory.Place.TheVariants.{Text, Data, Stack}

-- the bytes of the text, of the data and of the stack
pub record Contents : Type 0 where
  pub text : List ℕ
  pub data_bytes : List ℕ
  pub stack : List ℕ

-- the text and the data as segments
abbrev pub segments_of : Contents → Segments
segments_of c = record { text = c.text; data_bytes = c.data_bytes }

-- the byte at an address: zero where nothing stands
unfoldable pub bytes_of : Contents → ℕ → ℕ
bytes_of c a =
    if in_text (segments_of c) a 1 then held c.text (a - text_start)
    else (if in_data (segments_of c) a 1 then held c.data_bytes (a - data_start)
    else (if in_stack a 1 then held c.stack (a - stack_start) else 0))

-- the bounds of the parts
pub record IsMapped (c : Contents) : Type 0 where
  pub text_most : length c.text ≤ LARGEST_TEXT
  pub data_most : length c.data_bytes ≤ LARGEST_DATA
  pub stack_size : length c.stack ≡ STACK_SIZE

-- the instructions of the text's words, in order
pub record IsDecoded (text : List ℕ) (code : List (Option Rv)) : Type 0 where
  pub words : 4 * length code ≡ length text
  pub each : (k : ℕ) → k < length code → slice_index_or code k None ≡ decode_of (read (held text) 4 (4 * k))

pub record IsCoded (c : Contents) (code : List (Option Rv)) : Type 0 where
  pub mapped : IsMapped c
  pub decoded : IsDecoded c.text code

-- the stop of an access to n bytes that is refused. The guard is tested first, then permission and alignment
abbrev pub refusal : Segments → Permission → ℕ → ℕ → Option Stop
refusal s permission a n =
    if touches_guard a n then Some (stop.Stack a)
    else (if is_permitted s permission a n && is_aligned a n then None else Some (Access a))

-- the place has the n bytes from an address on
abbrev pub IsAt : Contents → ℕ → ℕ → Place → Type 0
IsAt c a n (Text at) = (a ≡ text_start + at) × (at + n ≤ length c.text)
IsAt c a n (Data at) = (a ≡ data_start + at) × (at + n ≤ length c.data_bytes)
IsAt c a n (Stack at) = (a ≡ stack_start + at) × (at + n ≤ length c.stack)

-- an access to n bytes that a place of the memory has whole, where no guard is touched
pub record IsPlaced (c : Contents) (a n : ℕ) (place : Place) : Type 0 where
  pub free : touches_guard a n ≡ false
  pub aligned : is_aligned a n ≡ true
  pub within : IsAt c a n place

-- an answer, unless the access is refused
abbrev pub unless_refused : {A : Type 0} → Option Stop → A → Result A Stop
unless_refused (Some refused) v = Err refused
unless_refused None v = Ok v

-- the instruction of a word; a word that has none stops the machine
abbrev pub or_illegal : ℕ → Option Rv → Result Rv Stop
or_illegal w (Some i) = Ok i
or_illegal w None = Err (Illegal w)

-- the instruction that is fetched, or the stop
abbrev pub fetched : Option Stop → ℕ → Result Rv Stop
fetched (Some refused) w = Err refused
fetched None w = or_illegal w (decode_of w)

-- the parts stay as long as they are, and the text as it is
pub record KeepsText (old new : Contents) : Type 0 where
  pub text : new.text ≡ old.text
  pub data_size : length new.data_bytes ≡ length old.data_bytes
