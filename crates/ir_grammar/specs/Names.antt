-- The names of a text in order of first appearance, and the numbers of what has no name.
use Rattle.std.specs.Prelude.{◌≡◌, ℕ, ◌+◌, ◌-◌, ◌*◌, ◌&&◌, nat_le, List, [], ◌∷◌, ◌++◌, length, position, Option, Some, None, if◌then◌else◌}
use Rattle.std.specs.Str.{bytes_eq}
use Rattle.std.specs.Fmt.{decimal}
use Rattle.ir_core.specs.declared.module.SymId.{SymId}
use Rattle.ir_core.specs.declared.ty.TypeName.{TypeName}
use Rattle.ir_core.specs.declared.op.LocalId.{LocalId}
use Rattle.ir_grammar.specs.Sets.{are_digits}

pub record Names : Type 0 where
  pub symbols : List (List ℕ)
  pub types : List (List ℕ)
  -- those of the function that is being read
  pub locals : List (List ℕ)
  -- the number of what has no name in it: one more than the greatest name of at most 30 digits, or 0
  pub next : ℕ

abbrev pub no_names : Names
no_names = record { symbols = []; types = []; locals = []; next = 0 }

-- these names begin a list of names
abbrev pub Begins : List (List ℕ) → List (List ℕ) → Type 0
Begins all names = (rest : List (List ℕ)) × (names ++ rest ≡ all)

-- the place of a name in a list, and the list with the name
abbrev pub placed : Option ℕ → List ℕ → List (List ℕ) → ℕ × List (List ℕ)
placed (Some k) name order = (k, order)
placed None name order = (length order, order ++ name ∷ [])

unfoldable pub numbered : List ℕ → List (List ℕ) → ℕ × List (List ℕ)
numbered name order = placed (position (bytes_eq name) order) name order

-- a name after `@` appears
unfoldable pub symbol : List ℕ → Names → SymId × Names
symbol name s = (record { 0 = (numbered name s.symbols).0 }, record s { symbols = (numbered name s.symbols).1 })

-- a type name appears
unfoldable pub type_name : List ℕ → Names → TypeName × Names
type_name name s = (record { 0 = (numbered name s.types).0 }, record s { types = (numbered name s.types).1 })

-- a parameter, a register or a label appears
unfoldable pub local : List ℕ → Names → LocalId × Names
local name s = (record { 0 = (numbered name s.locals).0 }, record s { locals = (numbered name s.locals).1 })

abbrev pub greater : ℕ → ℕ → ℕ
greater a b = if nat_le a b then b else a

-- a decimal digit after a number
abbrev pub appended : ℕ → ℕ → ℕ
appended n digit = n * 10 + (digit - 48)

-- the number that decimal digits write after a number
abbrev pub written_after : ℕ → List ℕ → ℕ
written_after n [] = n
written_after n (digit ∷ digits) = written_after (appended n digit) digits

abbrev pub written : List ℕ → ℕ
written digits = written_after 0 digits

-- the number of what has no name, after a definition of this name
unfoldable pub next_after : List ℕ → ℕ → ℕ
next_after name n = if are_digits name && nat_le (length name) 30 then greater n (written name + 1) else n

-- a parameter, a register or a label is defined
unfoldable pub define : List ℕ → Names → LocalId × Names
define name s = local name (record s { next = next_after name s.next })

unfoldable pub define_next : Names → LocalId × Names
define_next s = define (decimal s.next) s

-- a function begins
abbrev pub no_locals : Names → Names
no_locals s = record s { locals = []; next = 0 }
