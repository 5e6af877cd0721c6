-- The memory that a run of a valid module begins with: how its blocks are aligned, and how many bytes they have.
use Rattle.std.proofs.Common.{◌≡◌, ◌⊎◌, inl, inr, ℕ, zero, suc, ◌+◌, ◌<◌, ◌≤◌, max, List, [], ◌∷◌, ◌++◌, map, take, fold, length, Option, Some, None, Contains, IsSome, refl, sym, ap, ap₂, ◌∙◌, subst, arith}
use Rattle.std.specs.Prelude.{unwrap_or}
use Rattle.std.specs.List.{flat_map, AllByRecursion as Each}
use Rattle.std.specs.Int.{next_multiple_of}
use Rattle.std.proofs.lemmas.Bool.{cases_lt}
use Rattle.std.proofs.lemmas.List.Elements.{All-from_recursion}
use Rattle.ir_core.specs.declared.layout.Layout.{Layout}
use Rattle.ir_core.specs.declared.ty.TypeDef.{TypeDef}
use Rattle.ir_core.specs.declared.ty.IrType.{IrType, Void, Int, Ptr, Array', Struct', Named}
use Rattle.ir_core.specs.declared.module.GlobalVar.{GlobalVar}
use Rattle.ir_core.specs.declared.module.Module.{Module}
use Rattle.ir_core.specs.declared.limits.TheConstants.{MOST_DATA}
use Rattle.ir_core.specs.Constants.{aligned_as, initial_bytes, global_block, global_memory}
use Rattle.ir_core.specs.Formed.{IsAlign}
use Rattle.ir_core.specs.Memory.{Block}
use Rattle.ir_core.specs.Parts.{const_types}
use Rattle.ir_core.specs.Sizes.{empty, layout, size}
use Rattle.ir_core.specs.Valid.{IsValid}
use Rattle.ir_core.specs.ValidConsts.{HasType}
use Rattle.ir_core.specs.ValidModule.{global_align, data_end}
use Rattle.ir_core.specs.ValidTypes.{value_use, value_uses, type_uses, func_uses}
use Rattle.ir_core.proofs.Lists.{Has, each_from, contains, has_in, has_left, has_right, has_part, has_mapped, map_source, element}
use Rattle.ir_safety.proofs.Decided.{so, is_at_most, is_align}
use Rattle.ir_safety.proofs.Safe.{NotFalse, true_too, and_so, in_turn}
use Rattle.ir_safety.proofs.TypeSizes.{aligned_well}
use Rattle.image_layout.specs.Addresses.{end_of}
use Rattle.image_layout.proofs.DataLaid.{AreAligned}
use Rattle.image_layout.proofs.LaidTypes.{struct_named, use_laid}
use Rattle.image_layout.proofs.InitialBytes.{OkType, init_length}

some_of : {A : Type 0} (o : Option A) → IsSome o → (x : A) × (o ≡ Some x)
some_of None h = absurd cc
some_of (Some x) h = (x, refl)

each_not_false : {A : Type 0} (P : A → Type 0) (xs : List A) → ((x : A) → Has xs x → NotFalse (P x)) → NotFalse (Each P xs)
each_not_false P [] h = true_too tt
each_not_false P (x ∷ xs) h = and_so (h x (inl refl)) (λ p. in_turn (each_not_false P xs (λ y k. h y (inr k))) (λ q. (p, q)))

module _ (m : Module) (valid : IsValid m) where
  abbrev defs : List TypeDef
  defs = m.types.defs

  -- ---- a global

  module _ (g : GlobalVar) (stands : Has m.globals g) where
    pub inside : Contains m.globals g
    inside = contains m.globals g stands

    pub typed : NotFalse (HasType m g.init g.ty)
    typed n = valid.initialisers g.place (g, inside, refl, n)

    pub aligned : IsAlign (aligned_as defs g.align g.ty)
    aligned = so (is_align (aligned_as defs g.align g.ty)) (λ n. valid.alignments g.place (inl (g, inside, refl, λ good. n (aligned_well defs g.align g.ty good))))

    used : (ts : List IrType) (t : IrType) → Has ts t → Has (value_uses g.place ts) (value_use g.place t)
    used ts t h = has_mapped (value_use g.place) ts t h

    pub in_module : (t : IrType) → Has (g.ty ∷ const_types g.init) t → Has (type_uses m) (value_use g.place t)
    in_module t h =
        let before = map (λ (d : TypeDef). value_use d.place d.ty) m.types.defs in
        let globals = flat_map (λ (x : GlobalVar). value_uses x.place (x.ty ∷ const_types x.init)) m.globals in
        let u = value_use g.place t in
        has_left (before ++ globals) (flat_map func_uses m.funcs) u
        (has_right before globals u (has_part (λ (x : GlobalVar). value_uses x.place (x.ty ∷ const_types x.init)) m.globals g u stands (used (g.ty ∷ const_types g.init) t h)))

    laid : (l : Layout) × (layout defs g.ty ≡ Some l)
    laid = some_of (layout defs g.ty) (use_laid m valid.type_names g.place g.ty (in_module g.ty (inl refl)))

    named : (t : IrType) → Has (g.ty ∷ const_types g.init) t → NotFalse (OkType m t)
    named Void h = true_too tt
    named (Int w) h = true_too tt
    named Ptr h = true_too tt
    named (Array' k a ts) h = true_too tt
    named (Struct' k ts) h = true_too tt
    named (Named x) h = struct_named m valid.type_names g.place (Named x) (in_module (Named x) h) x (contains (x ∷ []) x (inl refl))

    pub names : NotFalse (Each (OkType m) (g.ty ∷ const_types g.init))
    names = each_not_false (OkType m) (g.ty ∷ const_types g.init) named

    pub bytes_length : length (initial_bytes m g.ty g.init) ≡ size defs g.ty
    bytes_length =
        let n = length (initial_bytes m g.ty g.init) in
        let same : size defs g.ty ≡ laid.0.size = ap (λ (o : Option Layout). (unwrap_or o empty).size) laid.1 in
        let whole : NotFalse (n ≡ laid.0.size) = and_so typed (λ h. in_turn names (λ n. init_length m g.ty g.init h n.1 n.0 laid.0 laid.1)) in
        let low = so (is_at_most n laid.0.size) (in_turn whole (λ e. omega (arith, e))) in
        let high = so (is_at_most laid.0.size n) (in_turn whole (λ e. omega (arith, e))) in
        omega (arith, same, low, high)

  -- ---- all globals

  pub are_aligned : AreAligned (global_memory m)
  are_aligned = All-from_recursion (λ (b : Block). IsAlign b.align) (global_memory m) (each_from (λ (b : Block). IsAlign b.align) (global_memory m) of_block)
    where
      of_block : (b : Block) → Has (global_memory m) b → IsAlign b.align
      of_block b h = let g = map_source (global_block m) m.globals b h in subst (λ (x : Block). IsAlign x.align) g.2 (aligned g.0 g.1)

  -- an alignment that is stated is no less than 1
  stated_same : (g : GlobalVar) → IsAlign (aligned_as defs g.align g.ty) → aligned_as defs g.align g.ty ≡ global_align defs g
  stated_same g h = by g.align refl h
    where
      by : (o : Option ℕ) → g.align ≡ o → IsAlign (aligned_as defs o g.ty) → aligned_as defs g.align g.ty ≡ global_align defs g
      by None e h = ap (λ (x : Option ℕ). aligned_as defs x g.ty) e ∙ sym (ap (λ (x : Option ℕ). global_align defs (record g { align = x })) e)
      by (Some a) e h = ap (λ (x : Option ℕ). aligned_as defs x g.ty) e ∙ at_least (has_in (1 ∷ 2 ∷ 4 ∷ 8 ∷ 16 ∷ []) a h) ∙ sym (ap (λ (x : Option ℕ). global_align defs (record g { align = x })) e)
        where
          at_least : Has (1 ∷ 2 ∷ 4 ∷ 8 ∷ 16 ∷ []) a → a ≡ max a 1
          at_least (inl f) = omega (arith, f)
          at_least (inr (inl f)) = omega (arith, f)
          at_least (inr (inr (inl f))) = omega (arith, f)
          at_least (inr (inr (inr (inl f)))) = omega (arith, f)
          at_least (inr (inr (inr (inr (inl f))))) = omega (arith, f)
          at_least (inr (inr (inr (inr (inr f))))) = absurd f

  ends_alike : (from : ℕ) (gs : List GlobalVar) → ((g : GlobalVar) → Has gs g → Has m.globals g) → end_of from (map (global_block m) gs) ≡ fold (λ (end : ℕ) (g : GlobalVar). next_multiple_of end (global_align defs g) + size defs g.ty) from gs
  ends_alike from [] h = refl
  ends_alike from (g ∷ gs) h =
      ap₂ (λ (a n : ℕ). end_of (next_multiple_of from a + n) (map (global_block m) gs)) (stated_same g (aligned g (h g (inl refl)))) (bytes_length g (h g (inl refl)))
      ∙ ends_alike (next_multiple_of from (global_align defs g) + size defs g.ty) gs (λ x k. h x (inr k))

  all_taken : {A : Type 0} (xs : List A) (n : ℕ) → n ≡ length xs → take n xs ≡ xs
  all_taken [] zero e = refl
  all_taken [] (suc n) e = refl
  all_taken (x ∷ xs) zero e = absurd (omega (arith, e))
  all_taken (x ∷ xs) (suc n) e = ap (λ (ys : List _). x ∷ ys) (all_taken xs n (omega (arith, e)))

  no_element : {A : Type 0} (xs : List A) → length xs ≡ 0 → xs ≡ []
  no_element [] e = refl
  no_element (x ∷ xs) e = absurd (omega (arith, e))

  pub data_fits : end_of 0 (global_memory m) ≤ MOST_DATA
  data_fits = by_count (length m.globals) refl
    where
      ends : end_of 0 (global_memory m) ≡ data_end defs m.globals
      ends = ends_alike 0 m.globals (λ g h. h)

      by_count : (n : ℕ) → length m.globals ≡ n → end_of 0 (global_memory m) ≤ MOST_DATA
      by_count zero e = let none = ap (data_end defs) (no_element m.globals e) in omega (arith, ends, none)
      by_count (suc n) e = by_less (cases_lt MOST_DATA (end_of 0 (global_memory m)))
        where
          by_less : (MOST_DATA < end_of 0 (global_memory m)) ⊎ (end_of 0 (global_memory m) ≤ MOST_DATA) → end_of 0 (global_memory m) ≤ MOST_DATA
          by_less (inr le) = le
          by_less (inl lt) =
              let g = element m.globals n (omega (arith, e)) in
              let all : take (n + 1) m.globals ≡ m.globals = all_taken m.globals (n + 1) (omega (arith, e)) in
              let too_much : MOST_DATA < data_end defs (take (n + 1) m.globals) = subst (λ (gs : List GlobalVar). MOST_DATA < data_end defs gs) (sym all) (omega (arith, lt, ends)) in
              absurd (valid.totals g.0.place (inl (n, g.0, g.1, refl, too_much)))
