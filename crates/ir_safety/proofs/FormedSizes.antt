-- Sizes, alignments, strides and cases in the plain bodies of a proper and valid module are those of formed bodies.
use Rattle.std.proofs.Common.{◌≡◌, ◌≢◌, inl, inr, ⊎_elim, ℕ, suc, ◌*◌, ◌<◌, ◌≤◌, Bool, true, false, ℤ, pos, negsuc, unsigned_abs, List, [], ◌∷◌, length, map, Option, Some, None, slice_get, slice_index_or, All, AllPairs, Contains, refl, sym, ap, ◌∙◌, subst, arith}
use Rattle.std.proofs.Math.Nat.{mod-lt, mul_comm}
use Rattle.std.proofs.lemmas.Bool.{cases_lt}
use Rattle.std.proofs.lemmas.List.{length-map}
use Rattle.std.proofs.lemmas.List.Elements.{All-head, All-tail, All-map, All-contains}
use Rattle.std.proofs.lemmas.List.Kept.{AllPairs-cons}
use Rattle.ir_core.specs.declared.limits.TheConstants.{LARGEST}
use Rattle.oi_base.specs.declared.ids.Place.{Place}
use Rattle.oi_base.specs.declared.ids.RegId.{RegId}
use Rattle.oi_base.specs.declared.words.Width.{Width}
use Rattle.oi_base.specs.declared.words.Width.TheVariants.{W1, W8, W16, W32}
use Rattle.oi_base.specs.Words.{modulus, word_of}
use Rattle.ir_core.specs.declared.flat.Case.{Case}
use Rattle.ir_core.specs.declared.flat.Term.{Term}
use Rattle.ir_core.specs.declared.flat.FlatInstr.{FlatInstr}
use Rattle.ir_core.specs.declared.flat.FlatInstr.TheVariants as flat
use Rattle.ir_core.specs.declared.flat.FlatEnd.{FlatEnd}
use Rattle.ir_core.specs.declared.flat.FlatEnd.TheVariants as flat_end
use Rattle.ir_core.specs.declared.flat.FlatBlock.{FlatBlock}
use Rattle.ir_core.specs.declared.ty.IrType.{IrType, Void, Int, Ptr, Array', Struct', Named}
use Rattle.ir_core.specs.declared.constant.Const.{Const}
use Rattle.ir_core.specs.declared.constant.Const as consts
use Rattle.ir_core.specs.declared.constant.TypedCount.{TypedCount}
use Rattle.ir_core.specs.declared.module.SymId.{SymId}
use Rattle.ir_core.specs.declared.module.Module.{Module}
use Rattle.ir_core.specs.declared.op.LocalId.{LocalId}
use Rattle.ir_core.specs.declared.op.Operand.{Operand}
use Rattle.ir_core.specs.declared.op.Operand.TheVariants as operands
use Rattle.ir_core.specs.declared.op.TypedOperand.{TypedOperand}
use Rattle.ir_core.specs.declared.op.SwitchCase.{SwitchCase}
use Rattle.ir_core.specs.declared.op.Op.{Op}
use Rattle.ir_core.specs.declared.op.Op.TheVariants as ops
use Rattle.ir_core.specs.declared.op.End.{End}
use Rattle.ir_core.specs.declared.op.End.TheVariants as ends
use Rattle.ir_core.specs.declared.func.Instr.{Instr}
use Rattle.ir_core.specs.declared.func.Block.{Block}
use Rattle.ir_core.specs.declared.func.Func.{Func}
use Rattle.ir_core.specs.Parts.{instrs, op_values}
use Rattle.ir_core.specs.Operands.{Does, Ends, steps, op_operands}
use Rattle.ir_core.specs.Memory.{scalar_size}
use Rattle.ir_core.specs.Words.{bit}
use Rattle.ir_core.specs.Constants.{width_of, field_number, constant, path}
use Rattle.ir_core.specs.Formed.{DifferentCases, IsBlock}
use Rattle.ir_core.specs.Sizes.{size}
use Rattle.ir_core.specs.Instructions.{register, operand, typed, index, func_number, call, instruction, switch_case, terminator}
use Rattle.ir_core.specs.Plain.{Numbers, other_operand, other_term, other_instr, other_case, other_end, numbers, plain_body}
use Rattle.ir_core.specs.Proper.{HasFewArguments, IsCount, HasItsCount, IsProper, IsProperFunc}
use Rattle.ir_core.specs.Valid.{IsValid, IsValidFunc}
use Rattle.ir_core.specs.ValidConsts.{Meaning, IsWord, meaning}
use Rattle.ir_core.specs.ValidOps.{IsScalar, OperandAgrees, OpAgrees, EndAgrees, StepAgrees, IsCaseWord, HasGoodCases}
use Rattle.ir_core.specs.ValidTypes.{MakesTooMuch, PromisesWell, op_sized, sources_in_values, step_sized}
use Rattle.ir_core.proofs.Lists.{Has, has_left, has_at, contains, all_at}
use Rattle.ir_safety.proofs.Safe.{NotFalse, and_so, in_turn}
use Rattle.ir_safety.proofs.Decided.{Decided, so, always, both, is_less, is_at_most, each_element, is_align, HasGoodSizes, HasFlatCases}
use Rattle.ir_safety.proofs.Typed.{some_words, word_small}
use Rattle.ir_safety.proofs.Elements.{mapped_twice}
use Rattle.ir_safety.proofs.PlainEdges.{block_of}
use Rattle.ir_safety.proofs.PlainRows.{call_is}
use Rattle.ir_safety.proofs.PlainSources.{is_instr, does, ends, step_agrees, code_source}
use Rattle.ir_safety.proofs.TypeSizes.{aligned_well, within_alignment, IsSmall, small_size, path_strides, HasSmallStride}

-- ---- these facts can be decided

good_sizes : (i : FlatInstr) → Decided (HasGoodSizes i)
good_sizes (flat.Alloca d size align) = both (is_align align) (is_less size 4294967296)
good_sizes (flat.Load d s align a) = both (is_align align) (is_at_most (scalar_size s) align)
good_sizes (flat.Store s align v a) = both (is_align align) (is_at_most (scalar_size s) align)
good_sizes (flat.Gep d a k ts) = both (is_less k 4294967296) (each_element (λ (t : Term). t.stride < 4294967296) (λ (t : Term). is_less t.stride 4294967296) ts)
good_sizes (flat.Call d f args) = is_at_most (length args) 8
good_sizes i = always

-- that words differ says what is not so
different_cases : (e : FlatEnd) → NotFalse (HasFlatCases e) → HasFlatCases e
different_cases (flat_end.Switch a w cases other) h = (
  so (each_element (λ (c : Case). c.word < modulus w) (λ (c : Case). is_less c.word (modulus w)) cases) (in_turn h (λ p. p.0)),
  λ i j d less lt same. h (λ p. p.1 i j d less lt same),
)
different_cases e h = tt

-- ---- instructions

module _ (m : Module) (n : Numbers) where
  abbrev IsGoodRow : FlatInstr → Type 0
  IsGoodRow i = HasGoodSizes (other_instr n i)

  abbrev IsGoodMade : Option FlatInstr → Type 0
  IsGoodMade None = Unit {0}
  IsGoodMade (Some i) = IsGoodRow i

  -- the type of what is loaded or stored is one of registers
  abbrev MovesScalar : Op → Type 0
  MovesScalar (ops.Load t a stated) = IsScalar t
  MovesScalar (ops.Store a p stated) = IsScalar a.ty
  MovesScalar _ = Unit {0}

  moves_scalar : (f : Func) (op : Op) → All (OperandAgrees m.types.defs f) (op_operands op) → OpAgrees m.types.defs op → MovesScalar op
  moves_scalar f (ops.Load t a stated) h k = k.0
  moves_scalar f (ops.Store a p stated) h k = (All-head (OperandAgrees m.types.defs f) a (p ∷ []) h).0
  moves_scalar f op h k = tt

  -- the types that have a greatest size are not too large
  abbrev AreSmall : Op → Type 0
  AreSmall op = (t : IrType) → Has (op_sized op) t → IsSmall m.types.defs t

  call_sizes : (d : Option RegId) (s : SymId) (as' : List TypedOperand) → length as' ≤ 8 → IsGoodRow (call m d s (map (typed m) as'))
  call_sizes d s as' few = call_is m d s (map (typed m) as') IsGoodRow good tt tt (λ e p q. tt)
    where
      good : IsGoodRow (flat.Call d (record { 0 = func_number m s }) (map (typed m) as'))
      good = let e = length-map (map (typed m) as') (other_operand n) ∙ length-map as' (typed m) in omega (arith, e, few)

  -- the size of an alloca, times its count
  counted : (p : Place) (r : Option LocalId) (t : IrType) (c : TypedCount) (stated : Option ℕ) → (MakesTooMuch m.types.defs (record { place = p; result = r; op = ops.Alloca t (Some c) stated }) → ⊥)
      → (z : ℤ) → c.count ≡ z → IsCount z → size m.types.defs t * unsigned_abs z < 4294967296
  counted p r t c stated much (pos k) e h =
      let bound : k * size m.types.defs t ≤ LARGEST = ⊎_elim (λ big. absurd (much (t, c, stated, k, refl, e, big))) (λ le. le) (cases_lt LARGEST (k * size m.types.defs t)) in
      subst (λ (x : ℕ). x < 4294967296) (mul_comm k (size m.types.defs t)) (omega (arith, bound))
  counted p r t c stated much (negsuc k) e h = absurd h

  op_sizes : (p : Place) (r : Option LocalId) (op : Op) → AreSmall op → (MakesTooMuch m.types.defs (record { place = p; result = r; op = op }) → ⊥)
      → PromisesWell m.types.defs op → MovesScalar op → HasFewArguments op → HasItsCount op → IsGoodMade (instruction m r op)
  op_sizes p (Some d) (ops.Bin op t a b) small much promise moves few count = tt
  op_sizes p (Some d) (ops.Icmp test t a b) small much promise moves few count = tt
  op_sizes p (Some d) (ops.Select i a b) small much promise moves few count = tt
  op_sizes p (Some d) (ops.Cast cast a t) small much promise moves few count = tt
  op_sizes p (Some d) (ops.Alloca t None stated) small much promise moves few count =
      (aligned_well m.types.defs stated t promise, let le = small_size m.types.defs t (small t (inl refl)) in omega (arith, le))
  op_sizes p (Some d) (ops.Alloca t (Some c) stated) small much promise moves few count = (aligned_well m.types.defs stated t promise, counted p (Some d) t c stated much c.count refl count)
  op_sizes p (Some d) (ops.Load t a stated) small much promise moves few count = (aligned_well m.types.defs stated t promise, within_alignment m.types.defs stated t moves promise)
  op_sizes p (Some d) (ops.Gep t a is) small much promise moves few count = (
    mod-lt _ (omega arith),
    All-map HasSmallStride (other_term n) (path m.types.defs t (map (index m) is)).terms (path_strides m.types.defs (map (index m) is) t (small t (inl refl))),
  )
  op_sizes p (Some d) (ops.Store a q stated) small much promise moves few count = (aligned_well m.types.defs stated a.ty promise, within_alignment m.types.defs stated a.ty moves promise)
  op_sizes p (Some d) (ops.Call t s as') small much promise moves few count = call_sizes (Some (register d)) s as' few
  op_sizes p (Some d) (ops.Phi t es) small much promise moves few count = tt
  op_sizes p None (ops.Store a q stated) small much promise moves few count = (aligned_well m.types.defs stated a.ty promise, within_alignment m.types.defs stated a.ty moves promise)
  op_sizes p None (ops.Call t s as') small much promise moves few count = call_sizes None s as' few
  op_sizes p None op small much promise moves few count = tt

-- ---- the cases of a switch

no_pairs : {A : Type 0} (R : A → A → Type 0) → AllPairs R []
no_pairs R i j d less lt = absurd (omega (arith, lt))

pairs_mapped : {A B : Type 0} (P : A → Type 0) (R : A → A → Type 0) (S : B → B → Type 0) (f : A → B) → ((x y : A) → P x → P y → R x y → S (f x) (f y))
    → (xs : List A) → All P xs → AllPairs R xs → AllPairs S (map f xs)
pairs_mapped P R S f h [] all pairs = no_pairs S
pairs_mapped P R S f h (x ∷ xs) all pairs =
    let later = All-tail P x xs all in
    AllPairs-cons S (f x) (map f xs)
    (All-map (S (f x)) f xs (λ k d lt. h x (slice_index_or xs k d) (All-head P x xs all) (later k d lt) (pairs 0 (suc k) d (omega arith) (omega (arith, lt)))))
    (pairs_mapped P R S f h xs later (λ i j d less lt. pairs (suc i) (suc j) d (omega (arith, less)) (omega (arith, lt))))

bit_small : (w : Width) (b : Bool) → bit b < modulus w
bit_small W1 true = omega arith
bit_small W8 true = omega arith
bit_small W16 true = omega arith
bit_small W32 true = omega arith
bit_small w false = some_words w

module _ (m : Module) (n : Numbers) where
  abbrev IsTheWord : IrType → Const → ℕ → Type 0
  IsTheWord t c a = (field_number (constant m t c) ≡ a) × (a < modulus (width_of t))

  bit_word : (t : IrType) (b : Bool) (a : ℕ) → IsWord (bit b) ≡ IsWord a → IsTheWord t (consts.Bool b) a
  bit_word t b a e = let same : bit b ≡ a = cc in (same, subst (λ (k : ℕ). k < modulus (width_of t)) same (bit_small (width_of t) b))

  -- what means a word is that word
  constant_word : (t : IrType) (c : Const) (a : ℕ) → meaning m.types.defs t (operands.Const c) ≡ IsWord a → IsTheWord t c a
  constant_word (Int w) (consts.Int z) a e = let same : word_of (modulus w) z ≡ a = cc in (same, subst (λ (k : ℕ). k < modulus w) same (word_small w z))
  constant_word (Int w) consts.Undef a e = let same : 0 ≡ a = cc in (same, subst (λ (k : ℕ). k < modulus w) same (some_words w))
  constant_word Void (consts.Bool b) a e = bit_word Void b a e
  constant_word (Int w) (consts.Bool b) a e = bit_word (Int w) b a e
  constant_word Ptr (consts.Bool b) a e = bit_word Ptr b a e
  constant_word (Array' k l items) (consts.Bool b) a e = bit_word (Array' k l items) b a e
  constant_word (Struct' l fields) (consts.Bool b) a e = bit_word (Struct' l fields) b a e
  constant_word (Named x) (consts.Bool b) a e = bit_word (Named x) b a e
  constant_word t c a e = cc

  operand_word : (t : IrType) (v : Operand) (a : ℕ) → meaning m.types.defs t v ≡ IsWord a → (field_number (operand m t v) ≡ a) × (a < modulus (width_of t))
  operand_word t (operands.Local x) a e = cc
  operand_word t (operands.Const c) a e = constant_word t c a e

  abbrev mean : SwitchCase → Meaning
  mean c = meaning m.types.defs c.value.ty c.value.value

  abbrev case_row : SwitchCase → Case
  case_row c = other_case n (switch_case m c)

  case_small : (t : IrType) (c : SwitchCase) → IsCaseWord m.types.defs c → c.value.ty ≡ t → (case_row c).word < modulus (width_of t)
  case_small t c word same =
      let r = operand_word c.value.ty c.value.value word.0 word.1 in
      subst (λ (u : IrType). (case_row c).word < modulus (width_of u)) same (subst (λ (k : ℕ). k < modulus (width_of c.value.ty)) (sym r.0) r.1)

  cases_differ : (c d : SwitchCase) → IsCaseWord m.types.defs c → IsCaseWord m.types.defs d → mean c ≢ mean d → (case_row c).word ≢ (case_row d).word
  cases_differ c d x y differ same =
      let r = operand_word c.value.ty c.value.value x.0 x.1 in
      let s = operand_word d.value.ty d.value.value y.0 y.1 in
      differ (x.1 ∙ ap IsWord (sym r.0 ∙ same ∙ s.0) ∙ sym y.1)

  end_cases : (f : Func) (e : End) → EndAgrees f e → HasGoodCases m.types.defs e → HasFlatCases (other_end n (terminator m e))
  end_cases f (ends.Switch a other cases) h k =
      subst (λ (cs : List Case). All (λ (c : Case). c.word < modulus (width_of a.ty)) cs × DifferentCases cs) (sym (mapped_twice (other_case n) (switch_case m) cases)) (
        All-map (λ (c : Case). c.word < modulus (width_of a.ty)) case_row cases (λ i d lt. case_small a.ty (slice_index_or cases i d) (k.0 i d lt) (h.1 i d lt)),
        pairs_mapped (IsCaseWord m.types.defs) (λ (c d : SwitchCase). mean c ≢ mean d) (λ (c d : Case). c.word ≢ d.word) case_row cases_differ cases k.0 k.1,
      )
  end_cases f e h k = tt

-- ---- a function of a proper and valid module

module _ (m : Module) (g : ℕ) (f : Func) (proper : IsProper m) (valid : IsValid m) (found : slice_get m.funcs g ≡ Some f) where
  rules : IsValidFunc m f
  rules = all_at (IsValidFunc m) m.funcs g f valid.each_func found

  proper_func : IsProperFunc f
  proper_func = all_at IsProperFunc m.funcs g f proper.each_func found

  is_func : Contains m.funcs f
  is_func = contains m.funcs f (has_at m.funcs g f found)

  module _ (b : Block) (here : Has f.blocks b) where
    module _ (i : Instr) (inside : Has b.code i) where
      is_step : Has (steps f) (Does i)
      is_step = does f b here i inside

      stands : Contains (instrs f) i
      stands = is_instr f b here i inside

      are_small : AreSmall m (numbers f) i.op
      are_small t h large =
          let sized : Has (step_sized (Does i)) t = has_left (op_sized i.op) (sources_in_values (op_values i.op)) t h in
          valid.sizes i.place (inr (f, is_func, inl (Does i, contains (steps f) (Does i) is_step, refl, (t, contains (step_sized (Does i)) t sized, large))))

      instr_sizes : NotFalse (IsGoodMade m (numbers f) (instruction m i.result i.op))
      instr_sizes =
          and_so (step_agrees m f rules (Does i) is_step) (λ (agrees : StepAgrees m.types.defs f (Does i)).
          in_turn (λ (wrong : PromisesWell m.types.defs i.op → ⊥). valid.alignments i.place (inr (f, is_func, (i, stands, refl, wrong)))) (λ (promise : PromisesWell m.types.defs i.op).
          op_sizes m (numbers f) i.place i.result i.op are_small
          (λ (much : MakesTooMuch m.types.defs i). valid.sizes i.place (inr (f, is_func, inr (i, stands, refl, much)))) promise (moves_scalar m (numbers f) f i.op agrees.0 agrees.1)
          (All-contains (λ (j : Instr). HasFewArguments j.op) (instrs f) i proper_func.arguments stands)
          (All-contains (λ (j : Instr). HasItsCount j.op) (instrs f) i proper_func.counts stands)))

      row_sizes : (row it : FlatInstr) → instruction m i.result i.op ≡ Some row → other_instr (numbers f) row ≡ it → HasGoodSizes it
      row_sizes row it made same =
          so (good_sizes it) (in_turn instr_sizes (λ (good : IsGoodMade m (numbers f) (instruction m i.result i.op)). subst HasGoodSizes same (subst (IsGoodMade m (numbers f)) made good)))

    block_cases : HasFlatCases (other_end (numbers f) (terminator m b.end))
    block_cases =
        different_cases (other_end (numbers f) (terminator m b.end))
        (and_so (step_agrees m f rules (Ends b) (ends f b here)) (λ (agrees : StepAgrees m.types.defs f (Ends b)).
        in_turn (λ (wrong : HasGoodCases m.types.defs b.end → ⊥). rules.cases b.end_place (b, contains f.blocks b here, refl, wrong))
        (λ (good : HasGoodCases m.types.defs b.end). end_cases m (numbers f) f b.end agrees.1 good)))

  -- ---- the plain body

  pub code_sizes : (x p : ℕ) (k : FlatBlock) (i : FlatInstr) → IsBlock (plain_body m f) x k → slice_get k.code p ≡ Some i → HasGoodSizes i
  code_sizes x p k i at e =
      let b = block_of m f x k at in
      let s = code_source m f b.0 i (subst (λ (l : FlatBlock). Has l.code i) (sym b.2) (has_at k.code p i e)) in
      row_sizes b.0 (has_at f.blocks x b.0 b.1) s.0 s.2 s.1 i s.3 s.4

  pub flat_cases : (x : ℕ) (k : FlatBlock) → IsBlock (plain_body m f) x k → HasFlatCases k.end
  flat_cases x k at =
      let b = block_of m f x k at in
      subst (λ (l : FlatBlock). HasFlatCases l.end) b.2 (block_cases b.0 (has_at f.blocks x b.0 b.1))
