-- A code in an object: its items as instructions, with the addresses of functions and globals filled in.
use Rattle.std.specs.Prelude.{ℕ, ◌+◌, ◌-◌, ◌%◌, List, [], ◌∷◌, pos}
use Rattle.rv_isa.specs.declared.rv.Rv.{Rv}
use Rattle.rv_isa.specs.declared.rv.Rv.TheVariants.{Auipc, Jalr, Lui, Addi, Ecall}
use Rattle.rv_select.specs.declared.item.Item.{Item}
use Rattle.rv_select.specs.declared.item.Item.TheVariants.{Word, CallHigh, CallLow, AddressHigh, AddressLow}
use Rattle.rv_select.specs.Parts.{zero_register, ra, a7, hi, lo}

-- where each function begins, and where each global lies
pub record Link : Type 0 where
  pub entry : ℕ → ℕ
  pub global_at : ℕ → ℕ

-- how far it is from one address to another; addresses have 32 bits and wrap around
abbrev pub distance : ℕ → ℕ → ℕ
distance from to = (to + (4294967296 - from)) % 4294967296

-- the address so many bytes after a global
abbrev pub address_of : Link → ℕ → ℕ → ℕ
address_of l g k = (l.global_at g + k) % 4294967296

-- the instruction that an item becomes at an address; the second of a call's pair counts from the first
abbrev pub instruction_at : Link → ℕ → Item → Rv
instruction_at l at (Word i) = i
instruction_at l at (CallHigh f) = Auipc ra (hi (distance at (l.entry f.0)))
instruction_at l at (CallLow f) = Jalr ra ra (lo (distance (at - 4) (l.entry f.0)))
instruction_at l at (AddressHigh r g k) = Lui r (hi (address_of l g k))
instruction_at l at (AddressLow r g k) = Addi r r (lo (address_of l g k))

-- those that items from an address on become
abbrev pub linked : Link → ℕ → List Item → List Rv
linked l at [] = []
linked l at (i ∷ is) = instruction_at l at i ∷ linked l (at + 4) is

-- where an object begins: it calls `main` and exits with its result
abbrev pub stub : ℕ → List Item
stub main = CallHigh (record { 0 = main }) ∷ CallLow (record { 0 = main }) ∷ Word (Addi a7 zero_register (pos 3)) ∷ Word Ecall ∷ []
