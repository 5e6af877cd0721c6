-- The machine's memory: a map from addresses to bytes, and what may be done at which addresses.
use Rattle.std.specs.Prelude.{ℕ, zero, suc, ◌+◌, ◌-◌, ◌*◌, ◌/◌, ◌%◌, Bool, ◌&&◌, ◌||◌, nat_eq, nat_le, nat_lt, if◌then◌else◌, List, length, slice_index_or}
use Rattle.rv_isa.specs.declared.memory_map.TheConstants.{TEXT_START, DATA_START, GUARD_START, STACK_START, STACK_END, STACK_SIZE}

-- what is loaded: the bytes of the text and of the data
pub record Segments : Type 0 where
  pub text : List ℕ
  pub data_bytes : List ℕ

-- ---- bytes, little-endian

-- the number of the n bytes from an address on
unfoldable pub read : (ℕ → ℕ) → ℕ → ℕ → ℕ
read bytes zero a = 0
read bytes (suc n) a = bytes a + 256 * read bytes n (a + 1)

abbrev pub with_byte : (ℕ → ℕ) → ℕ → ℕ → ℕ → ℕ
with_byte bytes a v q = if nat_eq q a then v else bytes q

-- the bytes after the n low bytes of a number were written from an address on
unfoldable pub write : (ℕ → ℕ) → ℕ → ℕ → ℕ → ℕ → ℕ
write bytes zero a v = bytes
write bytes (suc n) a v = write (with_byte bytes a (v % 256)) n (a + 1) (v / 256)

-- ---- the parts of memory

abbrev pub text_start : ℕ
text_start = TEXT_START

abbrev pub data_start : ℕ
data_start = DATA_START

-- the stack grows downwards from its end; below its start lies the guard
abbrev pub guard_start : ℕ
guard_start = GUARD_START

abbrev pub stack_start : ℕ
stack_start = STACK_START

abbrev pub stack_end : ℕ
stack_end = STACK_END

-- from its start to its end
abbrev pub stack_size : ℕ
stack_size = STACK_SIZE

-- n bytes from an address on lie between two addresses
abbrev pub is_between : ℕ → ℕ → ℕ → ℕ → Bool
is_between low high a n = nat_le low a && nat_le (a + n) high

abbrev pub in_text : Segments → ℕ → ℕ → Bool
in_text s a n = is_between text_start (text_start + length s.text) a n

abbrev pub in_data : Segments → ℕ → ℕ → Bool
in_data s a n = is_between data_start (data_start + length s.data_bytes) a n

abbrev pub in_stack : ℕ → ℕ → Bool
in_stack a n = is_between stack_start stack_end a n

-- one of n bytes from an address on lies in the guard
abbrev pub touches_guard : ℕ → ℕ → Bool
touches_guard a n = nat_lt a stack_start && nat_lt guard_start (a + n)

-- what an access asks of its bytes
pub data Permission : Type 0 where
  Executable : Permission
  Readable : Permission
  Writable : Permission

-- n bytes have a permission: the text can be read and executed, the data and the stack read and written
abbrev pub is_permitted : Segments → Permission → ℕ → ℕ → Bool
is_permitted s Executable a n = in_text s a n
is_permitted s Readable a n = in_text s a n || in_data s a n || in_stack a n
is_permitted s Writable a n = in_data s a n || in_stack a n

-- an access to n bytes has an address that is a multiple of n
abbrev pub is_aligned : ℕ → ℕ → Bool
is_aligned a n = nat_eq (a % n) 0

-- the bytes at load: the text, the data, and zeros
abbrev pub bytes_at_load : Segments → ℕ → ℕ
bytes_at_load s a =
    if in_text s a 1 then slice_index_or s.text (a - text_start) 0
    else (if in_data s a 1 then slice_index_or s.data_bytes (a - data_start) 0 else 0)
