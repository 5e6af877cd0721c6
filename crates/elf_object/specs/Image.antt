-- An executable image as contracts see it: the text, the data and the symbols.
use Rattle.std.specs.Prelude.{◌≡◌, ◌≢◌, ℕ, ◌+◌, ◌*◌, ◌%◌, ◌<◌, ◌≤◌, List, [], ◌∷◌, ◌++◌, length, All, IsTrue}
use Rattle.std.specs.List.{flat_map}
use Rattle.rv_isa.specs.Memory.{Segments}
use Rattle.elf_object.specs.declared.symbol.Symbol.{Symbol}
use Rattle.elf_object.specs.declared.image.TheConstants.{LEAST_TEXT, LARGEST_TEXT, LARGEST_DATA, LARGEST_TABLES}

pub record Parts : Type 0 where
  pub text : List ℕ
  pub data_bytes : List ℕ
  pub symbols : List Symbol

-- what is loaded of an image
abbrev pub loaded_segments : Parts → Segments
loaded_segments i = record { text = i.text; data_bytes = i.data_bytes }

-- the string table: a zero byte, then each symbol's name with a zero byte after it
abbrev pub string_table : List Symbol → List ℕ
string_table symbols = 0 ∷ flat_map (λ s. s.name ++ 0 ∷ []) symbols

-- the bytes of a symbol table with these symbols: 16 for each, and 16 for the zero entry before them
abbrev pub symbol_table_size : List Symbol → ℕ
symbol_table_size symbols = 16 * (length symbols + 1)

-- the symbol's name has a byte, and no zero byte
pub record IsNamed (s : Symbol) : Type 0 where
  pub not_empty : 0 < length s.name
  pub no_zero : All (λ b. b ≢ 0) s.name

-- the symbol's numbers are words of 32 bits, as those of the Rust type always are
pub record HasWords (s : Symbol) : Type 0 where
  pub value : s.value < 4294967296
  pub size : s.size < 4294967296

-- after a global symbol stand global ones alone
abbrev pub IsLocalFirst : List Symbol → Type 0
IsLocalFirst [] = Unit {0}
IsLocalFirst (s ∷ ss) = (IsTrue s.global → All (λ t. IsTrue t.global) ss) × IsLocalFirst ss

-- the bounds of an image
pub record IsImage (i : Parts) : Type 0 where
  pub text_least : LEAST_TEXT ≤ length i.text
  pub text_most : length i.text ≤ LARGEST_TEXT
  pub text_words : length i.text % 4 ≡ 0
  pub data_most : length i.data_bytes ≤ LARGEST_DATA
  pub named : All IsNamed i.symbols
  pub local_first : IsLocalFirst i.symbols
  pub symbols_most : symbol_table_size i.symbols + length (string_table i.symbols) ≤ LARGEST_TABLES
