-- Loads and stores keep the offsets of pointers to 32 bits.
use Rattle.std.proofs.Common.{◌≡◌, ℕ, zero, suc, ◌+◌, ◌/◌, Bool, true, false, not, ◌&&◌, nat_lt, if◌then◌else◌, List, [], ◌∷◌, ◌++◌, length, take, drop, replicate, Option, Some, None, slice_get, slice_set, refl, subst}
use Rattle.std.specs.List.{AllByRecursion as Each}
use Rattle.ir_core.specs.declared.flat.Scalar.{Scalar}
use Rattle.ir_core.specs.declared.flat.Scalar.TheVariants.{Word, Pointer}
use Rattle.oi_base.specs.Words.{modulus}
use Rattle.ir_core.specs.Memory.{Value, Bits, At, NullPointer, Poisoned, Byte, Unset, PoisonByte, Octet, PartOf, Block, Memory, scalar_size, octets, number, stored, are_parts, bits_below, null_or_poison, pointer_of, loaded, is_within, load_from, load, written, store_to, store, fresh, killed_at, kill, kill_all}
use Rattle.ir_core.proofs.Lists.{each_from, each_of, has_at, at_has}
use Rattle.ir_safety.specs.TypedRuns.{HasOffset, HasPartOffset, HoldsOffsets}

-- ---- bytes

both : (xs ys : List Byte) → Each HasPartOffset xs → Each HasPartOffset ys → Each HasPartOffset (xs ++ ys)
both [] ys h k = k
both (x ∷ xs) ys h k = (h.0, both xs ys h.1 k)

taken : (n : ℕ) (xs : List Byte) → Each HasPartOffset xs → Each HasPartOffset (take n xs)
taken zero xs h = tt
taken (suc n) [] h = tt
taken (suc n) (x ∷ xs) h = (h.0, taken n xs h.1)

dropped : (n : ℕ) (xs : List Byte) → Each HasPartOffset xs → Each HasPartOffset (drop n xs)
dropped zero xs h = h
dropped (suc n) [] h = tt
dropped (suc n) (x ∷ xs) h = dropped n xs h.1

octets_have : (n a : ℕ) → Each HasPartOffset (octets n a)
octets_have zero a = tt
octets_have (suc n) a = (tt, octets_have n (a / 256))

poison_has : (n : ℕ) → Each HasPartOffset (replicate n PoisonByte)
poison_has zero = tt
poison_has (suc n) = (tt, poison_has n)

unset_has : (n : ℕ) → Each HasPartOffset (replicate n Unset)
unset_has zero = tt
unset_has (suc n) = (tt, unset_has n)

stored_has : (s : Scalar) (v : Value) → HasOffset v → Each HasPartOffset (stored s v)
stored_has s (Bits a) h = octets_have (scalar_size s) a
stored_has s (At b o) h = (h, (h, (h, (h, tt))))
stored_has s NullPointer h = octets_have (scalar_size s) 0
stored_has s Poisoned h = poison_has (scalar_size s)

-- ---- what a load gives

below_offset : (m : ℕ) (o : Option ℕ) → HasOffset (bits_below m o)
below_offset m None = tt
below_offset m (Some a) = at (nat_lt a m)
  where
    at : (t : Bool) → HasOffset (if t then Bits a else Poisoned)
    at true = tt
    at false = tt

null_offset : (o : Option ℕ) → HasOffset (null_or_poison o)
null_offset None = tt
null_offset (Some zero) = tt
null_offset (Some (suc a)) = tt

pointer_offset : (bs : List Byte) → Each HasPartOffset bs → HasOffset (pointer_of bs)
pointer_offset [] h = null_offset (number [])
pointer_offset (Unset ∷ bs) h = null_offset (number (Unset ∷ bs))
pointer_offset (PoisonByte ∷ bs) h = null_offset (number (PoisonByte ∷ bs))
pointer_offset (Octet a ∷ bs) h = null_offset (number (Octet a ∷ bs))
pointer_offset (PartOf b o k ∷ bs) h = at (are_parts b o 0 (PartOf b o k ∷ bs))
  where
    at : (t : Bool) → HasOffset (if t then At b o else Poisoned)
    at true = h.0
    at false = tt

loaded_offset : (s : Scalar) (bs : List Byte) → Each HasPartOffset bs → HasOffset (loaded s bs)
loaded_offset (Word w) bs h = below_offset (modulus w) (number bs)
loaded_offset Pointer bs h = pointer_offset bs h

abbrev pub GivesOffset : Option Value → Type 0
GivesOffset None = Unit {0}
GivesOffset (Some v) = HasOffset v

-- the bytes of a block
pub each_byte : (mem : Memory) → HoldsOffsets mem → (i : ℕ) (b : Block) → slice_get mem i ≡ Some b → Each HasPartOffset b.bytes
each_byte mem h i b e = each_from HasPartOffset b.bytes (λ c has. let k = at_has b.bytes c has in h i b e k.0 c k.1)

pub load_offset : (mem : Memory) → HoldsOffsets mem → (s : Scalar) (align : ℕ) (v : Value) → GivesOffset (load mem s align v)
load_offset mem h s align (Bits a) = tt
load_offset mem h s align NullPointer = tt
load_offset mem h s align Poisoned = tt
load_offset mem h s align (At b o) = from (slice_get mem b) refl
  where
    from : (x : Option Block) → slice_get mem b ≡ x → GivesOffset (load_from s align o x)
    from None e = tt
    from (Some k) e = at (is_within k o (scalar_size s) align) (loaded_offset s (take (scalar_size s) (drop o k.bytes)) (taken (scalar_size s) (drop o k.bytes) (dropped o k.bytes (each_byte mem h b k e))))
      where
        at : (t : Bool) → HasOffset (loaded s (take (scalar_size s) (drop o k.bytes))) → GivesOffset (if t then Some (loaded s (take (scalar_size s) (drop o k.bytes))) else None)
        at true g = g
        at false g = tt

-- ---- memories

-- one more block
pub added : (mem : Memory) (b : Block) → HoldsOffsets mem → Each HasPartOffset b.bytes → HoldsOffsets (mem ++ b ∷ [])
added [] b h k zero c e = let same : b ≡ c = cc in λ j x at. each_of HasPartOffset c.bytes x (subst (λ (y : Block). Each HasPartOffset y.bytes) same k) (has_at c.bytes j x at)
added [] b h k (suc i) c e = absurd (no_block e)
  where
    no_block : None ≡ Some c → ⊥
    no_block z = cc
added (d ∷ mem) b h k zero c e = h zero c e
added (d ∷ mem) b h k (suc i) c e = added mem b (λ j. h (suc j)) k i c e

-- another block in the place of one
pub replaced : (mem : Memory) (i : ℕ) (b : Block) → HoldsOffsets mem → Each HasPartOffset b.bytes → HoldsOffsets (slice_set mem i b)
replaced [] i b h k j c e = h j c e
replaced (d ∷ mem) zero b h k zero c e = let same : b ≡ c = cc in λ j x at. each_of HasPartOffset c.bytes x (subst (λ (y : Block). Each HasPartOffset y.bytes) same k) (has_at c.bytes j x at)
replaced (d ∷ mem) zero b h k (suc j) c e = h (suc j) c e
replaced (d ∷ mem) (suc i) b h k zero c e = h zero c e
replaced (d ∷ mem) (suc i) b h k (suc j) c e = replaced mem i b (λ n. h (suc n)) k j c e

abbrev pub KeepsOffsets : Option Memory → Type 0
KeepsOffsets None = Unit {0}
KeepsOffsets (Some mem) = HoldsOffsets mem

pub store_keeps : (mem : Memory) → HoldsOffsets mem → (s : Scalar) (align : ℕ) (v a : Value) → HasOffset v → KeepsOffsets (store mem s align v a)
store_keeps mem h s align v (Bits a) g = tt
store_keeps mem h s align v NullPointer g = tt
store_keeps mem h s align v Poisoned g = tt
store_keeps mem h s align v (At b o) g = from (slice_get mem b) refl
  where
    from : (x : Option Block) → slice_get mem b ≡ x → KeepsOffsets (store_to mem b s align v o x)
    from None e = tt
    from (Some k) e = at (is_within k o (scalar_size s) align && not k.constant)
      where
        new : List Byte
        new = written k.bytes o (stored s v)

        old : Each HasPartOffset k.bytes
        old = each_byte mem h b k e

        at : (t : Bool) → KeepsOffsets (if t then Some (slice_set mem b (record k { bytes = written k.bytes o (stored s v) })) else None)
        at true = replaced mem b (record k { bytes = written k.bytes o (stored s v) }) h
            (both (take o k.bytes ++ stored s v) (drop (o + length (stored s v)) k.bytes) (both (take o k.bytes) (stored s v) (taken o k.bytes old) (stored_has s v g)) (dropped (o + length (stored s v)) k.bytes old))
        at false = tt

pub fresh_holds : (mem : Memory) (size align : ℕ) → HoldsOffsets mem → HoldsOffsets (mem ++ fresh size align ∷ [])
fresh_holds mem size align h = added mem (fresh size align) h (unset_has size)

pub kill_keeps : (mem : Memory) (i : ℕ) → HoldsOffsets mem → HoldsOffsets (kill mem i)
kill_keeps mem i h = at (slice_get mem i) refl
  where
    at : (x : Option Block) → slice_get mem i ≡ x → HoldsOffsets (killed_at mem i x)
    at None e = h
    at (Some b) e = replaced mem i (record b { live = false }) h (each_byte mem h i b e)

pub kill_all_keeps : (is : List ℕ) (mem : Memory) → HoldsOffsets mem → HoldsOffsets (kill_all mem is)
kill_all_keeps [] mem h = h
kill_all_keeps (i ∷ is) mem h = kill_all_keeps is (kill mem i) (kill_keeps mem i h)
