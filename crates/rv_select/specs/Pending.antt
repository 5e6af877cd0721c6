-- Drafts of a code, whose blocks have no places yet, and the items that they become.
use Rattle.std.specs.Prelude.{ℕ, ◌+◌, ◌<◌, Bool, true, false, List, [], ◌∷◌, ◌++◌, ℤ, pos, ◌-ℤ◌}
use Rattle.rv_isa.specs.declared.rv.Rv.{Rv}
use Rattle.rv_isa.specs.declared.rv.Rv.TheVariants.{Jal, Beq, Bne}
use Rattle.rv_isa.specs.Words.{InRange}
use Rattle.rv_select.specs.declared.item.Item.{Item}
use Rattle.rv_select.specs.declared.item.Item.TheVariants.{Word, CallHigh, CallLow, AddressHigh, AddressLow}
use Rattle.rv_select.specs.declared.item.Test.{Test}
use Rattle.rv_select.specs.declared.item.Test.TheVariants.{Equal, NotEqual}
use Rattle.rv_select.specs.declared.item.Draft.{Draft}
use Rattle.rv_select.specs.declared.item.Draft.TheVariants.{Fixed, Jump, Near}
use Rattle.rv_select.specs.Parts.{zero_register}
use Rattle.rv_select.specs.Branches.{is_long, place}

-- ---- drafts

abbrev pub word : Rv → Draft
word i = Fixed (Word i)

-- instructions
abbrev pub words : List Rv → List Draft
words [] = []
words (i ∷ is) = word i ∷ words is

-- its instruction has a word, or its register is one of the machine's
abbrev pub IsItem : Item → Type 0
IsItem (Word i) = InRange i
IsItem (CallHigh f) = Unit {0}
IsItem (CallLow f) = Unit {0}
IsItem (AddressHigh r g k) = r < 32
IsItem (AddressLow r g k) = r < 32

abbrev pub IsDraft : Draft → Type 0
IsDraft (Fixed i) = IsItem i
IsDraft (Jump b) = Unit {0}
IsDraft (Near t r q b) = (r < 32) × (q < 32)

-- ---- items

-- the branch that a test of two registers takes
abbrev pub branch : Test → ℕ → ℕ → ℤ → Rv
branch Equal r q distance = Beq r q distance
branch NotEqual r q distance = Bne r q distance

abbrev pub opposite : Test → Test
opposite Equal = NotEqual
opposite NotEqual = Equal

-- the distance in bytes from one place to another
abbrev pub distance : ℕ → ℕ → ℤ
distance at to = pos to -ℤ pos at

-- a `jal` from one place to another that keeps no return address
abbrev pub jump : ℕ → ℕ → Item
jump at to = Word (Jal zero_register (distance at to))

-- a branch from one place to another, short or long
abbrev pub branch_items : Bool → Test → ℕ → ℕ → ℕ → ℕ → List Item
branch_items false t r q at to = Word (branch t r q (distance at to)) ∷ []
branch_items true t r q at to = Word (branch (opposite t) r q (pos 8)) ∷ jump (at + 4) to ∷ []

-- the items of a draft at a place, where blocks have these places
abbrev pub draft_items : (ℕ → ℕ) → Bool → ℕ → Draft → List Item
draft_items places long at (Fixed i) = i ∷ []
draft_items places long at (Jump b) = jump at (places b.0) ∷ []
draft_items places long at (Near t r q b) = branch_items long t r q at (places b.0)

-- the items of the drafts from number k on, under a choice of long branches
abbrev pub items_from : (ℕ → ℕ) → List Bool → ℕ → List Draft → List Item
items_from places longs k [] = []
items_from places longs k (d ∷ ds) = draft_items places (is_long longs k) (place longs k) d ++ items_from places longs (k + 1) ds
