-- The bytes of the data: those of the memory that a run begins with, where pointers have become addresses.
use Rattle.std.specs.Prelude.{ℕ, ◌+◌, ◌-◌, ◌/◌, ◌%◌, ◌^◌, List, [], ◌∷◌, ◌++◌, length, map, replicate}
use Rattle.std.specs.Int.{next_multiple_of}
use Rattle.ir_core.specs.Memory.{Byte, Unset, PoisonByte, Octet, PartOf, Memory}
use Rattle.rv_select.specs.Linked.{Link, address_of}

-- a byte of memory; one that is unset or poison is zero, and a part of a pointer is that byte of its address
abbrev pub byte_in : Link → Byte → ℕ
byte_in l Unset = 0
byte_in l PoisonByte = 0
byte_in l (Octet n) = n
byte_in l (PartOf b o k) = (address_of l b o / 256 ^ k) % 256

-- the bytes of blocks that stand one after another from a place on, with zeros between them
abbrev pub bytes_from : Link → ℕ → Memory → List ℕ
bytes_from l from [] = []
bytes_from l from (b ∷ bs) =
    let at = next_multiple_of from b.align in replicate (at - from) 0 ++ map (byte_in l) b.bytes ++ bytes_from l (at + length b.bytes) bs
