-- Blocks that stand one after another, each at the next multiple of its alignment: where they lie and what their bytes are.
use Rattle.std.proofs.Common.{◌≡◌, ◌≢◌, ◌⊎◌, inl, inr, ℕ, zero, suc, ◌+◌, ◌-◌, ◌%◌, ◌<◌, ◌≤◌, refl, ap, ap₂, ◌∙◌, subst, arith, List, [], ◌∷◌, ◌++◌, map, replicate, length, length-append, append_assoc, get_or, All, Option, Some, None, slice_get}
use Rattle.std.specs.Prelude.{unwrap_or}
use Rattle.std.specs.Int.{next_multiple_of}
use Rattle.std.proofs.lemmas.Bool.{cases_lt}
use Rattle.std.proofs.lemmas.Bool.Decides.{nat_tests}
use Rattle.std.proofs.lemmas.List.{get_or-append-add, get_or_append_left, get_or-map, length-map, length-replicate}
use Rattle.std.proofs.lemmas.List.Elements.{All-head, All-tail}
use Rattle.std.proofs.lemmas.Option.{slice_get_within, get_or_from_slice_get}
use Rattle.ir_core.specs.Formed.{IsAlign}
use Rattle.ir_core.specs.Memory.{Byte, Unset, PoisonByte, Octet, PartOf, Block, Memory, PointsWithin}
use Rattle.ir_core.proofs.Lists.{Has, has_in}
use Rattle.rv_isa.specs.Memory.{bytes_at_load, data_start}
use Rattle.rv_select.specs.Linked.{Link}
use Rattle.rv_select.specs.Stands.{Object, IsByteOf, DataIsLaid}
use Rattle.image_layout.specs.Addresses.{places, end_of, global_address}
use Rattle.image_layout.specs.DataBytes.{byte_in, bytes_from}

-- the next multiple of an alignment is one, and not below
pub record IsNext (n a : ℕ) : Type 0 where
  pub up : n ≤ next_multiple_of n a
  pub multiple : next_multiple_of n a % a ≡ 0
  pub some : (data_start + next_multiple_of n a) % a ≡ 0

pub is_next : (n a : ℕ) → IsAlign a → IsNext n a
is_next n a h = by (has_in (1 ∷ 2 ∷ 4 ∷ 8 ∷ 16 ∷ []) a h)
  where
    by : Has (1 ∷ 2 ∷ 4 ∷ 8 ∷ 16 ∷ []) a → IsNext n a
    by (inl e) = subst (IsNext n) e (record { up = omega arith; multiple = omega arith; some = omega arith })
    by (inr (inl e)) = subst (IsNext n) e (record { up = omega arith; multiple = omega arith; some = omega arith })
    by (inr (inr (inl e))) = subst (IsNext n) e (record { up = omega arith; multiple = omega arith; some = omega arith })
    by (inr (inr (inr (inl e)))) = subst (IsNext n) e (record { up = omega arith; multiple = omega arith; some = omega arith })
    by (inr (inr (inr (inr (inl e))))) = subst (IsNext n) e (record { up = omega arith; multiple = omega arith; some = omega arith })
    by (inr (inr (inr (inr (inr h))))) = absurd h

abbrev pub AreAligned : Memory → Type 0
AreAligned bs = All (λ (b : Block). IsAlign b.align) bs

no_block : {A : Type 0} {x : A} → None ≡ Some x → ⊥
no_block e = cc

-- ---- places

some_same : {A : Type 0} {x y : A} → Some x ≡ Some y → x ≡ y
some_same e = cc

abbrev block_aligned : Block → Type 0
block_aligned b = IsAlign b.align

pub place_of : (from : ℕ) (bs : Memory) → AreAligned bs → (g : ℕ) (b : Block) → slice_get bs g ≡ Some b → (p : ℕ) × (slice_get (places from bs) g ≡ Some p) × ((data_start + p) % b.align ≡ 0)
place_of from [] h g b e = absurd (no_block e)
place_of from (d ∷ bs) h zero b e =
    (next_multiple_of from d.align, refl, subst (λ (x : Block). (data_start + next_multiple_of from d.align) % x.align ≡ 0) (some_same e) (is_next from d.align (All-head block_aligned d bs h)).some)
place_of from (d ∷ bs) h (suc g) b e = place_of (next_multiple_of from d.align + length d.bytes) bs (All-tail block_aligned d bs h) g b e

pub end_up : (from : ℕ) (bs : Memory) → AreAligned bs → from ≤ end_of from bs
end_up from [] h = omega arith
end_up from (d ∷ bs) h =
    let up = (is_next from d.align (All-head block_aligned d bs h)).up in
    let more = end_up (next_multiple_of from d.align + length d.bytes) bs (All-tail block_aligned d bs h) in
    omega (arith, up, more)

pub place_within : (from : ℕ) (bs : Memory) → AreAligned bs → (g : ℕ) (b : Block) (p : ℕ) → slice_get bs g ≡ Some b → slice_get (places from bs) g ≡ Some p → (from ≤ p) × (p + length b.bytes ≤ end_of from bs)
place_within from [] h g b p e at = absurd (no_block e)
place_within from (d ∷ bs) h zero b p e at =
    let same = some_same at in
    let size = ap (λ (x : Block). length x.bytes) (some_same e) in
    let up = (is_next from d.align (All-head block_aligned d bs h)).up in
    let more = end_up (next_multiple_of from d.align + length d.bytes) bs (All-tail block_aligned d bs h) in
    (omega (arith, same, up), omega (arith, same, size, more))
place_within from (d ∷ bs) h (suc g) b p e at =
    let up = (is_next from d.align (All-head block_aligned d bs h)).up in
    let more = place_within (next_multiple_of from d.align + length d.bytes) bs (All-tail block_aligned d bs h) g b p e at in
    (omega (arith, up, more.0), more.1)

pub places_apart : (from : ℕ) (bs : Memory) → AreAligned bs → (g k : ℕ) (b c : Block) (p q : ℕ) → slice_get bs g ≡ Some b → slice_get bs k ≡ Some c → slice_get (places from bs) g ≡ Some p → slice_get (places from bs) k ≡ Some q → g < k → p + length b.bytes ≤ q
places_apart from [] h g k b c p q e f at at' lt = absurd (no_block e)
places_apart from (d ∷ bs) h zero zero b c p q e f at at' lt = absurd (omega (arith, lt))
places_apart from (d ∷ bs) h (suc g) zero b c p q e f at at' lt = absurd (omega (arith, lt))
places_apart from (d ∷ bs) h zero (suc k) b c p q e f at at' lt =
    let same = some_same at in
    let size = ap (λ (x : Block). length x.bytes) (some_same e) in
    let low = place_within (next_multiple_of from d.align + length d.bytes) bs (All-tail block_aligned d bs h) k c q f at' in
    omega (arith, same, size, low.0)
places_apart from (d ∷ bs) h (suc g) (suc k) b c p q e f at at' lt =
    places_apart (next_multiple_of from d.align + length d.bytes) bs (All-tail block_aligned d bs h) g k b c p q e f at at' (omega (arith, lt))

-- ---- bytes

module _ (l : Link) where
  abbrev padding : ℕ → Block → List ℕ
  padding from b = replicate (next_multiple_of from b.align - from) 0

  abbrev own : Block → List ℕ
  own b = map (byte_in l) b.bytes

  first_length : (from : ℕ) (b : Block) → IsAlign b.align → from + length (padding from b ++ own b) ≡ next_multiple_of from b.align + length b.bytes
  first_length from b h =
      let up = (is_next from b.align h).up in
      let a = length-append (padding from b) (own b) in
      let p = length-replicate (next_multiple_of from b.align - from) zero in
      let n = length-map b.bytes (byte_in l) in
      omega (arith, up, a, p, n)

  pub data_length : (from : ℕ) (bs : Memory) → AreAligned bs → from + length (bytes_from l from bs) ≡ end_of from bs
  data_length from [] h = omega arith
  data_length from (b ∷ bs) h =
      let at = next_multiple_of from b.align + length b.bytes in
      let first = first_length from b (All-head block_aligned b bs h) in
      let rest = data_length at bs (All-tail block_aligned b bs h) in
      let a = length-append (padding from b ++ own b) (bytes_from l at bs) in
      omega (arith, first, rest, a)

  -- the byte of a block
  pub byte_at : (from : ℕ) (bs : Memory) → AreAligned bs → (g : ℕ) (b : Block) (p k : ℕ) (c : Byte) → slice_get bs g ≡ Some b → slice_get (places from bs) g ≡ Some p → slice_get b.bytes k ≡ Some c → (i : ℕ) → from + i ≡ p + k → get_or (bytes_from l from bs) i 0 ≡ byte_in l c
  byte_at from [] h g b p k c e at there i place = absurd (no_block e)
  byte_at from (d ∷ bs) h zero b p k c e at there i place =
      let same : d ≡ b = some_same e in
      let begin : next_multiple_of from d.align ≡ p = some_same at in
      let up = (is_next from d.align (All-head block_aligned d bs h)).up in
      let n = length-replicate (next_multiple_of from d.align - from) zero in
      let there' : slice_get d.bytes k ≡ Some c = ap (λ (x : Block). slice_get x.bytes k) same ∙ there in
      let within = slice_get_within d.bytes k c there' in
      let m = length-map d.bytes (byte_in l) in
      let index : i ≡ length (padding from d) + k = omega (arith, place, begin, up, n) in
      let rest = bytes_from l (next_multiple_of from d.align + length d.bytes) bs in
      ap₂ (λ (xs : List ℕ) (j : ℕ). get_or xs j 0) (append_assoc (padding from d) (own d) rest) index
      ∙ get_or-append-add (padding from d) (own d ++ rest) k 0
      ∙ get_or_append_left (own d) rest 0 k (omega (arith, within, m))
      ∙ get_or-map (byte_in l) d.bytes k c 0 within
      ∙ ap (byte_in l) (get_or_from_slice_get d.bytes k c c there')
  byte_at from (d ∷ bs) h (suc g) b p k c e at there i place =
      let first = first_length from d (All-head block_aligned d bs h) in
      let next = next_multiple_of from d.align + length d.bytes in
      let low = place_within next bs (All-tail block_aligned d bs h) g b p e at in
      let j = p + k - next in
      let index : i ≡ length (padding from d ++ own d) + j = omega (arith, first, place, low.0) in
      ap (λ (x : ℕ). get_or (padding from d ++ own d ++ bytes_from l next bs) x 0) index
      ∙ get_or-append-add (padding from d ++ own d) (bytes_from l next bs) j 0
      ∙ byte_at next bs (All-tail block_aligned d bs h) g b p k c e at there j (omega (arith, low.0))

-- ---- the data of an object

module _ (o : Object) (globals : Memory) (aligned : AreAligned globals) (link : o.link.global_at ≡ global_address globals) (bytes : o.segments.data_bytes ≡ bytes_from o.link 0 globals) (text : length o.segments.text ≤ 4194304) (pointers : PointsWithin globals) where
  abbrev data_size : ℕ
  data_size = length o.segments.data_bytes

  size_is : data_size ≡ end_of 0 globals
  size_is = let n = data_length o.link 0 globals aligned in let same = ap (λ (bs : List ℕ). length bs) bytes in omega (arith, n, same)

  at_load : (i : ℕ) → i < data_size → bytes_at_load o.segments (data_start + i) ≡ get_or o.segments.data_bytes i 0
  at_load i h = grind (arith, nat_tests, text)

  record IsAt (g : ℕ) (b : Block) : Type 0 where
    place : ℕ
    there : slice_get (places 0 globals) g ≡ Some place
    address : o.link.global_at g ≡ data_start + place
    multiple : (data_start + place) % b.align ≡ 0
    inside : place + length b.bytes ≤ data_size

  at : (g : ℕ) (b : Block) → slice_get globals g ≡ Some b → IsAt g b
  at g b e =
      let p = place_of 0 globals aligned g b e in
      let w = place_within 0 globals aligned g b p.0 e p.1 in
      record {
        place = p.0;
        there = p.1;
        address = ap (λ (f : ℕ → ℕ). f g) link ∙ ap (λ (x : Option ℕ). data_start + unwrap_or x 0) p.1;
        multiple = p.2;
        inside = omega (arith, w.1, size_is);
      }

  byte_is : (g : ℕ) (b : Block) (k : ℕ) (c : Byte) → slice_get globals g ≡ Some b → slice_get b.bytes k ≡ Some c → bytes_at_load o.segments (o.link.global_at g + k) ≡ byte_in o.link c
  byte_is g b k c e there =
      let a = at g b e in
      let within = slice_get_within b.bytes k c there in
      let address = a.address in
      let inside = a.inside in
      ap (bytes_at_load o.segments) (let z : o.link.global_at g + k ≡ data_start + (a.place + k) = omega (arith, address) in z)
      ∙ at_load (a.place + k) (omega (arith, within, inside))
      ∙ ap (λ (bs : List ℕ). get_or bs (a.place + k) 0) bytes
      ∙ byte_at o.link 0 globals aligned g b a.place k c e a.there there (a.place + k) (omega arith)

  stands_for : (c : Byte) (x : ℕ) → x ≡ byte_in o.link c → IsByteOf globals o.link.global_at c x
  stands_for Unset x e = tt
  stands_for PoisonByte x e = tt
  stands_for (Octet n) x e = e
  stands_for (PartOf b q k) x e = λ live. e

  pub data_laid : DataIsLaid o globals
  data_laid = record {
    blocks = λ g b e.
        let a = at g b e in
        let address = a.address in
        record {
          each = λ k c there. stands_for c (bytes_at_load o.segments (o.link.global_at g + k)) (byte_is g b k c e there);
          aligned = ap (λ (n : ℕ). n % b.align) address ∙ a.multiple;
        };
    inside = λ g b e. let a = at g b e in let address = a.address in let within = a.inside in (omega (arith, address), omega (arith, address, within));
    apart = λ g k b c e f differ. by_order g k b c e f differ (cases_lt g k);
    pointers = pointers;
  }
    where
      by_order : (g k : ℕ) (b c : Block) → slice_get globals g ≡ Some b → slice_get globals k ≡ Some c → g ≢ k → (g < k) ⊎ (k ≤ g) → (o.link.global_at g + length b.bytes ≤ o.link.global_at k) ⊎ (o.link.global_at k + length c.bytes ≤ o.link.global_at g)
      by_order g k b c e f differ (inl lt) =
          let a = at g b e in
          let d = at k c f in
          let x = a.address in
          let y = d.address in
          let far = places_apart 0 globals aligned g k b c a.place d.place e f a.there d.there lt in
          inl (omega (arith, x, y, far))
      by_order g k b c e f differ (inr le) =
          let a = at g b e in
          let d = at k c f in
          let x = a.address in
          let y = d.address in
          let far = places_apart 0 globals aligned k g c b d.place a.place f e d.there a.there (omega (arith, le, differ)) in
          inr (omega (arith, x, y, far))
