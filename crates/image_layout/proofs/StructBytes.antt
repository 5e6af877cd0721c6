-- The bytes of a struct's fields so far, and the zeros after them.
use Rattle.std.proofs.Common.{◌≡◌, ℕ, ◌+◌, ◌-◌, ◌≤◌, List, [], ◌∷◌, ◌++◌, map, replicate, length, length-append, append_assoc, append-nil, refl, sym, ap, ap₂, ◌∙◌, subst, arith}
use Rattle.std.specs.Int.{next_multiple_of}
use Rattle.std.proofs.lemmas.List.{length-map, length-replicate, map-append}
use Rattle.ir_core.specs.declared.constant.TypedConst.{TypedConst}
use Rattle.ir_core.specs.declared.module.Module.{Module}
use Rattle.ir_core.specs.Constants.{gap, filled_up, initial_bytes}
use Rattle.ir_core.specs.Memory.{Byte, Unset}
use Rattle.ir_core.specs.Sizes.{size, align}
use Rattle.rv_select.specs.Linked.{Link}
use Rattle.image_layout.specs.DataBytes.{byte_in}
use Rattle.image_layout.specs.Initialisers.{FillsType, fields_from}
use Rattle.image_layout.proofs.WrittenBytes.{copies_written}

module _ (l : Link) (m : Module) where
  abbrev out : List Byte → List ℕ
  out bs = map (byte_in l) bs

  -- a field more
  one_field : (start : ℕ) (c : TypedConst) (cs : List TypedConst) (bytes padded written all : List ℕ)
      → start ≤ length bytes
      → FillsType m c.ty c.value
      → padded ≡ bytes ++ replicate (next_multiple_of (length bytes - start) (align m.types.defs c.ty) - (length bytes - start)) 0
      → written ≡ padded ++ out (initial_bytes m c.ty c.value)
      → bytes ++ out (fields_from m (length bytes - start) (c ∷ cs)) ≡ all
      → (start ≤ length written) × (written ++ out (fields_from m (length written - start) cs) ≡ all)
  one_field start c cs bytes padded written all low fills p w before =
      let from = length bytes - start in
      let at = next_multiple_of from (align m.types.defs c.ty) in
      let next = at + size m.types.defs c.ty in
      let zeros = replicate (at - from) 0 in
      let own = out (initial_bytes m c.ty c.value) in
      let rest = out (fields_from m next cs) in
      let whole : written ≡ (bytes ++ zeros) ++ own = w ∙ ap (λ (bs : List ℕ). bs ++ own) p in
      let first = length-append (bytes ++ zeros) own in
      let second = length-append bytes zeros in
      let third = length-replicate (at - from) (let z : ℕ = 0 in z) in
      let fourth = length-map (initial_bytes m c.ty c.value) (byte_in l) in
      let fifth = fills.1 in
      let count : length written ≡ length bytes + (at - from) + size m.types.defs c.ty = ap (λ (bs : List ℕ). length bs) whole ∙ omega (arith, first, second, third, fourth, fifth) in
      let up : from ≤ at = omega arith in
      let place : length written - start ≡ next = omega (arith, count, low, up) in
      let gap_out : out (gap (at - from)) ≡ zeros = copies_written l Unset (at - from) refl in
      let parts : out (fields_from m from (c ∷ cs)) ≡ (zeros ++ own) ++ rest =
      map-append (byte_in l) (gap (at - from) ++ initial_bytes m c.ty c.value) (fields_from m next cs)
      ∙ ap (λ (bs : List ℕ). bs ++ rest) (map-append (byte_in l) (gap (at - from)) (initial_bytes m c.ty c.value) ∙ ap (λ (bs : List ℕ). bs ++ own) gap_out) in (
        omega (arith, count, low),
        ap₂ (λ (bs : List ℕ) (n : ℕ). bs ++ out (fields_from m n cs)) whole place
            ∙ append_assoc (bytes ++ zeros) own rest
            ∙ append_assoc bytes zeros (own ++ rest)
            ∙ ap (λ (bs : List ℕ). bytes ++ bs) (sym (append_assoc zeros own rest) ∙ sym parts)
            ∙ before,
      )

  -- the fields are all there
  filled : (old bytes new : List ℕ) (size : ℕ) (fields : List Byte)
      → bytes ++ [] ≡ old ++ out fields
      → new ≡ bytes ++ replicate (size - (length bytes - length old)) 0
      → new ≡ old ++ out (filled_up size fields)
  filled old bytes new size fields done w =
      let whole : bytes ≡ old ++ out fields = sym (append-nil bytes) ∙ done in
      let first = length-append old (out fields) in
      let second = length-map fields (byte_in l) in
      let count : length bytes - length old ≡ length fields = ap (λ (bs : List ℕ). length bs - length old) whole ∙ omega (arith, first, second) in
      w
      ∙ ap₂ (λ (bs : List ℕ) (n : ℕ). bs ++ replicate (size - n) 0) whole count
      ∙ append_assoc old (out fields) (replicate (size - length fields) 0)
      ∙ ap (λ (bs : List ℕ). old ++ bs) (ap (λ (bs : List ℕ). out fields ++ bs) (sym (copies_written l Unset (size - length fields) refl)) ∙ sym (map-append (byte_in l) fields (gap (size - length fields))))

  -- the same of a field that is the first of those left, whose alignment was asked for
  pub next_field : (start : ℕ) (c : TypedConst) (cs left : List TypedConst) (a : ℕ) (bytes padded written all : List ℕ)
      → left ≡ c ∷ cs
      → a ≡ align m.types.defs c.ty
      → start ≤ length bytes
      → FillsType m c.ty c.value
      → padded ≡ bytes ++ replicate (next_multiple_of (length bytes - start) a - (length bytes - start)) 0
      → written ≡ padded ++ out (initial_bytes m c.ty c.value)
      → bytes ++ out (fields_from m (length bytes - start) left) ≡ all
      → (start ≤ length written) × (written ++ out (fields_from m (length written - start) cs) ≡ all)
  next_field start c cs left a bytes padded written all first aligned low fills p w before =
      let from = length bytes - start in
      one_field start c cs bytes padded written all low fills
      (subst (λ (k : ℕ). padded ≡ bytes ++ replicate (next_multiple_of from k - from) 0) aligned p)
      w
      (subst (λ (fs : List TypedConst). bytes ++ out (fields_from m from fs) ≡ all) first before)

  -- and of the zeros where none is left, and the size was asked for
  pub all_filled : (start at count size : ℕ) (left : List TypedConst) (old bytes new : List ℕ) (fields : List Byte)
      → left ≡ []
      → start ≡ length old
      → count ≡ size
      → bytes ++ out (fields_from m at left) ≡ old ++ out fields
      → new ≡ bytes ++ replicate (count - (length bytes - start)) 0
      → new ≡ old ++ out (filled_up size fields)
  all_filled start at count size left old bytes new fields none begun sized before w =
      filled old bytes new size fields (subst (λ (fs : List TypedConst). bytes ++ out (fields_from m at fs) ≡ old ++ out fields) none before)
      (w ∙ ap₂ (λ (n s : ℕ). bytes ++ replicate (n - (length bytes - s)) 0) sized begun)
