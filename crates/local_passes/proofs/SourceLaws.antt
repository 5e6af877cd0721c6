-- What holds of a register holds of its source.
use Rattle.std.proofs.Common.{◌≡◌, ◌≢◌, inl, inr, ⊎_elim, ℕ, zero, suc, Bool, true, false, nat_eq, if◌then◌else◌, List, [], ◌∷◌, Option, Some, None, slice_get, refl, sym, ap, ◌∙◌, subst, arith}
use Rattle.std.proofs.lemmas.Bool.Decides.{nat_tests}
use Rattle.std.proofs.lemmas.Bool.{cases_lt}
use Rattle.std.proofs.lemmas.List.Elements.{All-contains}
use Rattle.oi_base.specs.declared.ids.RegId.{RegId}
use Rattle.ir_core.specs.declared.flat.Scalar.{Scalar}
use Rattle.ir_core.specs.declared.flat.FlatOp.{FlatOp}
use Rattle.ir_core.specs.declared.flat.FlatOp.TheVariants.{Reg, Word, Null, Address, Poison}
use Rattle.ir_core.specs.declared.flat.FlatInstr.{FlatInstr}
use Rattle.ir_core.specs.declared.flat.FlatInstr.TheVariants.{Bin, Icmp, Select, Cast, Copy, Alloca, Load, Store, Gep, Call, Put, Get, Exit}
use Rattle.ir_core.specs.declared.flat.FlatBlock.{FlatBlock}
use Rattle.ir_core.specs.declared.flat.FlatBody.{FlatBody}
use Rattle.ir_core.specs.Formed.{FuncType, IsBlock, IsPath, ComesFirst, IsFormedBody, IsParamOrWritten, written_by, all_uses, uses}
use Rattle.ir_core.proofs.Lists.{contains, has_at, has_part}
use Rattle.local_passes.specs.LocalCopies.{operand_source, source_given, redefined, with_write, past, source}
use Rattle.local_passes.proofs.Needing.{of_instr}

-- ---- from place to place

module _ (code : List FlatInstr) (P : ℕ → ℕ → Type 0)
    (grows : (n r : ℕ) → P n r → P (suc n) r)
    (was : (n r : ℕ) → ((i : FlatInstr) → slice_get code n ≡ Some i → written_by i ≢ Some r) → P (suc n) r → P n r)
    (copies : (n : ℕ) (x y : RegId) → slice_get code n ≡ Some (Copy x (Reg y)) → P (suc n) x.0 → P n y.0) where
  abbrev Keeps : ℕ → Type 0
  Keeps n = (r : ℕ) → P n r → P n (source code n r)

  module _ (n : ℕ) (before : Keeps n) where
    -- the source of a copy's operand
    operand_keeps : (d : RegId) (a : FlatOp) → slice_get code n ≡ Some (Copy d a) → P (suc n) d.0 → P (suc n) (operand_source (source code n) d.0 a)
    operand_keeps d (Reg y) at p = grows n (source code n y.0) (before y.0 (copies n d y at p))
    operand_keeps d (Word a) at p = p
    operand_keeps d Null at p = p
    operand_keeps d (Address g k) at p = p
    operand_keeps d Poison at p = p

    given_keeps : (i : FlatInstr) (d : ℕ) → slice_get code n ≡ Some i → written_by i ≡ Some d → P (suc n) d → P (suc n) (source_given (source code n) d i)
    given_keeps (Copy x a) d at w p =
        let same : x.0 ≡ d = cc in
        subst (λ m. P (suc n) (operand_source (source code n) m a)) same (operand_keeps x a at (subst (P (suc n)) (sym same) p))
    given_keeps (Bin x op w a b) d at w' p = p
    given_keeps (Icmp x c t a b) d at w p = p
    given_keeps (Select x c a b) d at w p = p
    given_keeps (Cast x c from to a) d at w p = p
    given_keeps (Alloca x size align) d at w p = p
    given_keeps (Load x t align a) d at w p = p
    given_keeps (Store t align v a) d at w p = p
    given_keeps (Gep x a k ts) d at w p = p
    given_keeps (Call x f args) d at w p = p
    given_keeps (Put x a) d at w p = p
    given_keeps (Get x) d at w p = p
    given_keeps (Exit a) d at w p = p

    module _ (i : FlatInstr) (at : slice_get code n ≡ Some i) where
      written_keeps : (d : ℕ) → written_by i ≡ Some d → (r : ℕ) → P (suc n) r → P (suc n) (redefined (source code n) d (source_given (source code n) d i) r)
      written_keeps d w r p = by_same (nat_eq r d) refl
        where
          other : r ≢ d → P (suc n) (source code n r)
          other ne = grows n (source code n r) (before r (was n r (λ j here same. ne (
              let one : Some i ≡ Some j = sym at ∙ here in
              let eq : i ≡ j = cc in
              let both : Some r ≡ Some d = sym same ∙ ap written_by (sym eq) ∙ w in
              cc)) p))

          by_source : (t : Bool) → r ≢ d → P (suc n) (if t then r else source code n r)
          by_source true ne = p
          by_source false ne = other ne

          by_same : (t : Bool) → nat_eq r d ≡ t → P (suc n) (if t then source_given (source code n) d i else (if nat_eq (source code n r) d then r else source code n r))
          by_same true e = let same : r ≡ d = grind (arith, nat_tests) in given_keeps i d at w (subst (P (suc n)) same p)
          by_same false e = by_source (nat_eq (source code n r) d) (λ same. absurd (grind (arith, nat_tests)))

      by_write : (w : Option ℕ) → written_by i ≡ w → (r : ℕ) → P (suc n) r → P (suc n) (with_write (source code n) i w r)
      by_write (Some d) w r p = written_keeps d w r p
      by_write None w r p = grows n (source code n r) (before r (was n r (λ j here same.
          let one : Some i ≡ Some j = sym at ∙ here in
          let eq : i ≡ j = cc in
          let both : None ≡ Some r = sym w ∙ ap written_by eq ∙ same in
          absurd cc) p))

    by_instr : (o : Option FlatInstr) → slice_get code n ≡ o → (r : ℕ) → P (suc n) r → P (suc n) (past (source code n) o r)
    by_instr (Some i) at r p = by_write i at (written_by i) refl r p
    by_instr None at r p = grows n (source code n r) (before r (was n r (λ j here same. absurd (let none : None ≡ Some j = sym at ∙ here in cc)) p))

  pub source_keeps : (n r : ℕ) → P n r → P n (source code n r)
  unfolding source
  source_keeps zero r p = p
  source_keeps (suc n) r p = by_instr n (source_keeps n) (slice_get code n) refl r p

-- ---- in a formed body

module _ (types : ℕ → Scalar) (funcs : ℕ → FuncType) (own : FuncType) (body : FlatBody) (h : IsFormedBody types funcs own body) where
  module _ (b : ℕ) (k : FlatBlock) (is : IsBlock body b k) where
    copy_typed : (n : ℕ) (x y : RegId) → slice_get k.code n ≡ Some (Copy x (Reg y)) → types y.0 ≡ types x.0
    copy_typed n x y at = h.code b n k (Copy x (Reg y)) is at

    -- a source has its register's type
    pub source_typed : (n r : ℕ) → types (source k.code n r) ≡ types r
    source_typed n r = source_keeps k.code (λ m q. types q ≡ types r) (λ m q p. p) (λ m q none p. p) (λ m x y at p. copy_typed m x y at ∙ p) n r refl

    copy_used : (n : ℕ) (x y : RegId) → slice_get k.code n ≡ Some (Copy x (Reg y)) → IsParamOrWritten body (Reg y)
    copy_used n x y at =
        All-contains (IsParamOrWritten body) (all_uses body) (Reg y) h.used
        (contains (all_uses body) (Reg y) (has_part uses body.blocks k (Reg y) (has_at body.blocks b k is) (of_instr k (Copy x (Reg y)) (Reg y) (has_at k.code n (Copy x (Reg y)) at) (inl refl))))

    -- and is a parameter or written somewhere
    pub source_there : (n r : ℕ) → IsParamOrWritten body (Reg (record { 0 = r })) → IsParamOrWritten body (Reg (record { 0 = source k.code n r }))
    source_there n r p = source_keeps k.code (λ m q. IsParamOrWritten body (Reg (record { 0 = q }))) (λ m q g. g) (λ m q none g. g) (λ m x y at g. copy_used m x y at) n r p

    -- and comes first where its register does
    module _ (older : List ℕ) (path : IsPath body (b ∷ older)) where
      abbrev First : ℕ → ℕ → Type 0
      First n r = ComesFirst body older k n (Reg (record { 0 = r }))

      later : (n r : ℕ) → First n r → First (suc n) r
      later n r (inl (inl phi)) = inl (inl phi)
      later n r (inl (inr w)) = let lt = w.2 in inl (inr (w.0, w.1, omega (arith, lt), w.3, w.4))
      later n r (inr c) = inr c

      sooner : (n r : ℕ) → ((i : FlatInstr) → slice_get k.code n ≡ Some i → written_by i ≢ Some r) → First (suc n) r → First n r
      sooner n r none (inl (inl phi)) = inl (inl phi)
      sooner n r none (inl (inr w)) = ⊎_elim
          (λ lt. inl (inr (w.0, w.1, lt, w.3, w.4)))
          (λ le. let lt = w.2 in let same : w.0 ≡ n = omega (arith, lt, le) in absurd (none w.1 (ap (slice_get k.code) (sym same) ∙ w.3) w.4))
          (cases_lt w.0 n)
      sooner n r none (inr c) = inr c

      pub source_first : (n r : ℕ) → First n r → First n (source k.code n r)
      source_first n r p = source_keeps k.code First later sooner (λ m x y at g.
          All-contains (ComesFirst body older k m) (Reg y ∷ []) (Reg y) (h.defined_first.by_code b older k m (Copy x (Reg y)) path is at) (contains (Reg y ∷ []) (Reg y) (inl refl))) n r p
