-- The plain body of a `main` of which all is built is one of sums and differences.
use Rattle.std.proofs.Common.{◌≡◌, ◌⊎◌, inl, inr, ℕ, zero, suc, ◌+◌, ◌<◌, ◌≤◌, Bool, true, false, cond, not, ◌&&◌, List, [], ◌∷◌, ◌++◌, map, length, Option, Some, None, All, slice_get, pos, negsuc, refl, sym, ap, ap₂, ◌∙◌, subst, arith}
use Rattle.std.specs.Prelude.{unwrap_or}
use Rattle.std.specs.List.{flat_map, filter_map, cons_option, position_or_len, AllByRecursion as Each}
use Rattle.std.specs.Option.{option_map}
use Rattle.std.proofs.lemmas.List.{append-nil}
use Rattle.std.proofs.lemmas.List.Elements.{All-nil, All-cons}
use Rattle.oi_base.specs.declared.ids.RegId.{RegId}
use Rattle.oi_base.specs.declared.words.Width.TheVariants.{W32}
use Rattle.ir_core.specs.declared.flat.Scalar.{Scalar}
use Rattle.ir_core.specs.declared.flat.Scalar.TheVariants as scalar
use Rattle.ir_core.specs.declared.flat.BinOp.{BinOp}
use Rattle.ir_core.specs.declared.flat.BinOp.TheVariants as bin
use Rattle.ir_core.specs.declared.flat.FlatOp.{FlatOp}
use Rattle.ir_core.specs.declared.flat.FlatInstr.{FlatInstr}
use Rattle.ir_core.specs.declared.flat.FlatInstr.TheVariants.{Bin}
use Rattle.ir_core.specs.declared.flat.FlatEnd.{FlatEnd}
use Rattle.ir_core.specs.declared.flat.FlatEnd.TheVariants.{Ret}
use Rattle.ir_core.specs.declared.flat.Phi.{Phi}
use Rattle.ir_core.specs.declared.flat.FlatBlock.{FlatBlock}
use Rattle.ir_core.specs.declared.flat.FlatBody.{FlatBody}
use Rattle.ir_core.specs.declared.ty.IrType.{IrType, Int}
use Rattle.ir_core.specs.declared.constant.Const as consts
use Rattle.ir_core.specs.declared.op.LocalId.{LocalId}
use Rattle.ir_core.specs.declared.op.Operand.{Operand}
use Rattle.ir_core.specs.declared.op.Operand.TheVariants as operands
use Rattle.ir_core.specs.declared.op.Op.{Op}
use Rattle.ir_core.specs.declared.op.Op.TheVariants as ops
use Rattle.ir_core.specs.declared.op.End.{End}
use Rattle.ir_core.specs.declared.op.End.TheVariants as ends
use Rattle.ir_core.specs.declared.func.Instr.{Instr}
use Rattle.ir_core.specs.declared.func.Block.{Block}
use Rattle.ir_core.specs.declared.func.Func.{Func}
use Rattle.ir_core.specs.declared.func.Param.{Param}
use Rattle.ir_core.specs.declared.module.Module.{Module}
use Rattle.ir_core.specs.Types.{is_word}
use Rattle.ir_core.specs.Instructions as rows
use Rattle.ir_core.specs.Instructions.{instruction, phi, terminator, block_rows}
use Rattle.ir_core.specs.Constants.{width_of}
use Rattle.ir_core.specs.Formed.{FuncType, IsFormed}
use Rattle.ir_core.specs.WellFormed.{IsWellFormed}
use Rattle.ir_core.specs.Plain.{Numbers, other_operand, other_instr, other_end, other_phi, renumbered, numbers, registers, results, plain_body, plain_program}
use Rattle.ir_core.specs.Proper.{IsProper}
use Rattle.ir_core.specs.Source.{is_main, main_number}
use Rattle.ir_core.specs.Valid.{IsValid}
use Rattle.ir_safety.specs.PlainTypes.{plain_types, plain_funcs, HasFewOwn, HasFewNumbers}
use Rattle.ir_safety.proofs.FormedBodies.{plain_is_formed}
use Rattle.module_rules.proofs.WalkLaws.{word_decides}
use Rattle.rv_select.specs.Stands.{body_in, empty_body}
use Rattle.optinline.specs.declared.unbuilt.TheConstants.{MOST_OPS}
use Rattle.optinline.specs.Unbuilt.{is_simple, adds_or_subtracts, is_sum, returns_simple}
use Rattle.optinline.specs.Object.{main_body}
use Rattle.optinline.proofs.Built.{left_passes, right_passes}
use Rattle.optinline.proofs.OneMain.{IsSumInstr, IsOneMain}
use Rattle.optinline.proofs.SumBodies.{IsNoAddress, IsAddition, IsSumBody}

-- ---- rows

adds_or_is_other : (kind : BinOp) → adds_or_subtracts kind ≡ true → (kind ≡ bin.Add) ⊎ (kind ≡ bin.Sub)
adds_or_is_other bin.Add e = inl refl
adds_or_is_other bin.Sub e = inr refl
adds_or_is_other bin.Mul e = absurd cc
adds_or_is_other bin.Udiv e = absurd cc
adds_or_is_other bin.Sdiv e = absurd cc
adds_or_is_other bin.Urem e = absurd cc
adds_or_is_other bin.Srem e = absurd cc
adds_or_is_other bin.Shl e = absurd cc
adds_or_is_other bin.Lshr e = absurd cc
adds_or_is_other bin.Ashr e = absurd cc
adds_or_is_other bin.And e = absurd cc
adds_or_is_other bin.Or e = absurd cc
adds_or_is_other bin.Xor e = absurd cc

-- the row of an operation
pub record IsRow (o : Option FlatInstr) (P : FlatInstr → Type 0) : Type 0 where
  pub row : FlatInstr
  pub is : o ≡ Some row
  pub so : P row

module _ (m : Module) (n : Numbers) where
  abbrev other : FlatInstr → FlatInstr
  other i = other_instr n i

  free : (t : IrType) (o : Operand) → is_simple o ≡ true → IsNoAddress (other_operand n (rows.operand m t o))
  free t (operands.Local x) e = tt
  free t (operands.Const (consts.Int z)) e = tt
  free t (operands.Const (consts.Bool b)) e = absurd cc
  free t (operands.Const consts.Null) e = absurd cc
  free t (operands.Const consts.Undef) e = absurd cc
  free t (operands.Const consts.Poison) e = absurd cc
  free t (operands.Const (consts.Address a)) e = absurd cc
  free t (operands.Const (consts.Gep u a is)) e = absurd cc
  free t (operands.Const consts.Zero) e = absurd cc
  free t (operands.Const (consts.Bytes b)) e = absurd cc
  free t (operands.Const (consts.Array' k cs)) e = absurd cc
  free t (operands.Const (consts.Struct' k cs)) e = absurd cc

  row : (d : LocalId) (op : Op) → is_sum op ≡ true → IsRow (instruction m (Some d) op) (λ (i : FlatInstr). IsAddition (other i))
  row d (ops.Bin kind t a c) e =
      let parts = right_passes (adds_or_subtracts kind) (is_word t && (is_simple a && is_simple c)) e in
      let simple = right_passes (is_word t) (is_simple a && is_simple c) parts in
      let word = (word_decides t).0 (left_passes (is_word t) (is_simple a && is_simple c) parts) in
      let x = other_operand n (rows.operand m t a) in
      let y = other_operand n (rows.operand m t c) in
      let r : RegId = record { 0 = n.reg d.0 } in
      record {
        row = Bin (rows.register d) kind (width_of t) (rows.operand m t a) (rows.operand m t c);
        is = refl;
        so = record {
          reg = r;
          op = kind;
          left = x;
          right = y;
          is = ap (λ (u : IrType). Bin r kind (width_of u) x y) word;
          adds = adds_or_is_other kind (left_passes (adds_or_subtracts kind) (is_word t && (is_simple a && is_simple c)) e);
          left_free = free t a (left_passes (is_simple a) (is_simple c) simple);
          right_free = free t c (right_passes (is_simple a) (is_simple c) simple);
        };
      }
  row d (ops.Icmp c t a y) e = absurd cc
  row d (ops.Select c a y) e = absurd cc
  row d (ops.Cast c a t) e = absurd cc
  row d (ops.Alloca t count align) e = absurd cc
  row d (ops.Load t a align) e = absurd cc
  row d (ops.Store a p align) e = absurd cc
  row d (ops.Gep t a is) e = absurd cc
  row d (ops.Phi t es) e = absurd cc
  row d (ops.Call t g as') e = absurd cc

  abbrev rows_of : List Instr → List FlatInstr
  rows_of code = filter_map (λ (i : Instr). instruction m i.result i.op) code

  code_rows : (code : List Instr) → Each IsSumInstr code → Each IsAddition (map other (rows_of code)) × (length (map other (rows_of code)) ≡ length code)
  code_rows [] h = (tt, refl)
  code_rows (i ∷ is) h =
      let r = row h.0.0.0 i.op h.0.1 in
      let first : instruction m i.result i.op ≡ Some r.row = ap (λ (x : Option LocalId). instruction m x i.op) h.0.0.1 ∙ r.is in
      let rest = code_rows is h.1 in
      subst (λ (o : Option FlatInstr). Each IsAddition (map other (cons_option o (rows_of is))) × (length (map other (cons_option o (rows_of is))) ≡ length (i ∷ is))) (sym first)
      ((r.so, rest.0), ap suc rest.1)

  no_phi : (r : Option LocalId) (op : Op) → is_sum op ≡ true → phi m r op ≡ None
  no_phi None op e = refl
  no_phi (Some d) (ops.Bin kind t a c) e = refl
  no_phi (Some d) (ops.Icmp c t a y) e = refl
  no_phi (Some d) (ops.Select c a y) e = refl
  no_phi (Some d) (ops.Cast c a t) e = refl
  no_phi (Some d) (ops.Alloca t count align) e = refl
  no_phi (Some d) (ops.Load t a align) e = refl
  no_phi (Some d) (ops.Store a p align) e = refl
  no_phi (Some d) (ops.Gep t a is) e = refl
  no_phi (Some d) (ops.Phi t es) e = absurd cc
  no_phi (Some d) (ops.Call t g as') e = refl

  no_phis : (code : List Instr) → Each IsSumInstr code → filter_map (λ (i : Instr). phi m i.result i.op) code ≡ []
  no_phis [] h = refl
  no_phis (i ∷ is) h = ap (λ (o : Option Phi). cons_option o (filter_map (λ (j : Instr). phi m j.result j.op) is)) (no_phi i.result i.op h.0.1) ∙ no_phis is h.1

  end_row : (e : End) → returns_simple e ≡ true → (o : FlatOp) × (other_end n (terminator m e) ≡ Ret (Some o)) × IsNoAddress o
  end_row (ends.Ret (Some v)) e =
      (other_operand n (rows.typed m v), refl, free v.ty v.value (right_passes (is_word v.ty) (is_simple v.value) e))
  end_row (ends.Ret None) e = absurd cc
  end_row (ends.Br x) e = absurd cc
  end_row (ends.Cond c t x) e = absurd cc
  end_row (ends.Switch a others cases) e = absurd cc
  end_row ends.Unreachable e = absurd cc

-- ---- the body

results_few : (code : List Instr) → length (filter_map (λ (i : Instr). i.result) code) ≤ length code
results_few [] = omega arith
results_few (i ∷ is) = by i.result (results_few is)
  where
    by : (r : Option LocalId) → length (filter_map (λ (j : Instr). j.result) is) ≤ length is → length (cons_option r (filter_map (λ (j : Instr). j.result) is)) ≤ length (i ∷ is)
    by None h = omega (arith, h)
    by (Some d) h = omega (arith, h)

module _ (m : Module) (f : Func) (b : Block) (shape : IsOneMain m f b) where
  abbrev own : Numbers
  own = numbers f

  abbrev block_of_rows : Block → FlatBlock
  block_of_rows c = renumbered own (block_rows m c)

  pub sum_body : IsSumBody MOST_OPS (plain_body m f)
  sum_body =
      let code = code_rows m own b.code shape.code in
      let end = end_row m own b.end shape.end in
      let few = shape.few in
      record {
        code = map (other_instr own) (rows_of m own b.code);
        value = end.0;
        params = ap (λ (ps : List Param). length ps) shape.params;
        blocks =
            ap (λ (bs : List Block). map block_of_rows bs) shape.blocks
            ∙ ap₂ (λ (qs : List Phi) (e : FlatEnd). record { phis = map (other_phi own) qs; code = map (other_instr own) (rows_of m own b.code); end = e } ∷ []) (no_phis m own b.code shape.code) end.1;
        sums = code.0;
        returned = end.2;
        few = (let count = code.1 in omega (arith, count, few));
      }

  func_at : slice_get m.funcs 0 ≡ Some f
  func_at = ap (λ (fs : List Func). slice_get fs 0) shape.funcs

  pub main_first : main_number m ≡ 0
  main_first = ap (position_or_len (is_main m)) shape.funcs ∙ ap (λ (t : Bool). cond (not t) (1 + 0) 0) shape.named

  pub body_is : (plain_program m).body (main_number m) ≡ Some (plain_body m f)
  body_is = ap (plain_program m).body main_first ∙ ap (option_map (plain_body m)) func_at

  pub main_is : main_body m ≡ plain_body m f
  main_is = ap (λ (o : Option FlatBody). unwrap_or o empty_body) body_is

  few_own : HasFewOwn f
  few_own =
      let regs : registers f ≡ results b =
      ap (λ (ps : List Param). map (λ (p : Param). p.name) ps ++ flat_map results f.blocks) shape.params ∙ ap (flat_map results) shape.blocks ∙ append-nil (results b) in
      let count = ap (λ (xs : List LocalId). length xs) regs in
      let short = results_few b.code in
      let few = shape.few in
      let blocks = ap (λ (bs : List Block). length bs) shape.blocks in
      (omega (arith, count, short, few), omega (arith, blocks))

  few_numbers : HasFewNumbers m
  few_numbers = subst (All HasFewOwn) (sym shape.funcs) (All-cons HasFewOwn f [] few_own (All-nil HasFewOwn))

  module _ (proper : IsProper m) (valid : IsValid m) where
    formed : IsFormed (plain_program m) (plain_types m) (plain_funcs m)
    formed = plain_is_formed m proper valid few_numbers

    pub well : IsWellFormed (plain_body m f)
    well = record {
      types = plain_types m (main_number m);
      funcs = plain_funcs m;
      own = plain_funcs m (main_number m);
      formed = formed.bodies (main_number m) (plain_body m f) body_is;
    }

    pub returns_word : well.own.result ≡ Some (scalar.Word W32)
    unfolding well
    returns_word = formed.main_type.1
