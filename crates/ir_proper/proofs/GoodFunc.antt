-- Functions that are right in view of the names that there are in the end.
use Rattle.std.proofs.Common.{◌≡◌, ℕ, ◌≤◌, ◌<◌, List, [], ◌∷◌, ◌++◌, length, map, refl, arith}
use Rattle.std.specs.Prelude.{All, AllPairs, ◌≢◌}
use Rattle.std.specs.List.{flat_map, AllByRecursion as Each}
use Rattle.std.proofs.lemmas.List.Elements.{All-from_recursion}
use Rattle.std.proofs.lemmas.List.Kept.{AllPairs-cons}
use Rattle.ir_core.specs.declared.constant.Const.{Const}
use Rattle.ir_core.specs.declared.op.LocalId.{LocalId}
use Rattle.ir_core.specs.declared.op.Operand.{Operand}
use Rattle.ir_core.specs.declared.op.Operand.TheVariants as operands
use Rattle.ir_core.specs.declared.func.Instr.{Instr}
use Rattle.ir_core.specs.declared.func.Block.{Block}
use Rattle.ir_core.specs.declared.func.Param.{Param}
use Rattle.ir_core.specs.declared.func.Func.{Func}
use Rattle.ir_core.specs.Parts.{listed, op_values, op_types, op_labels, op_callee, end_values, end_types, targets, instrs, block_values, block_types, func_values, func_types, operand_locals, operand_consts, instr_locals, block_locals, func_locals, func_consts, func_symbols, const_symbols, const_types, typed_consts}
use Rattle.ir_core.specs.Proper.{IsValue, HasItsResult, HasEntries, HasFewArguments, HasItsCount, AllDiffer, IsProperFunc}
use Rattle.ir_grammar.specs.Names.{Names}
use Rattle.ir_grammar.specs.Tokens.{Limits, stated}
use Rattle.ir_proper.proofs.Kept.{each_append, Once}
use Rattle.ir_proper.proofs.KeptNames.{KnownSymbol, KnownLocal}
use Rattle.ir_proper.proofs.Good.{each_flat, each_map, each_more, GoodType, GoodValue, GoodOperand}
use Rattle.ir_proper.proofs.GoodCode.{GoodInstr, GoodBlock}

pub record GoodParam (n : Names) (p : Param) : Type 0 where
  pub ty : GoodType n p.ty
  pub name : KnownLocal n p.name

-- the parts of a function
pub record GoodParts (l : Limits) (n : Names) (f : Func) : Type 0 where
  pub name : KnownSymbol n f.name
  pub result : GoodType n f.result
  pub params : Each (GoodParam n) f.params
  pub few : l ≡ stated → length f.params ≤ 8
  pub blocks : Each (GoodBlock l n) f.blocks
  pub some : 1 ≤ length f.blocks

-- ---- one block

module _ (n : Names) where
  operand_locals_good : (o : Operand) → GoodOperand n o → Each (KnownLocal n) (operand_locals o)
  operand_locals_good (operands.Local x) h = (h, tt)
  operand_locals_good (operands.Const c) h = tt

  operand_consts_good : (o : Operand) → GoodOperand n o → Each (GoodValue n) (operand_consts o)
  operand_consts_good (operands.Local x) h = tt
  operand_consts_good (operands.Const c) h = (h, tt)

  values_locals : (os : List Operand) → Each (GoodOperand n) os → Each (KnownLocal n) (flat_map operand_locals os)
  values_locals os h = each_flat (KnownLocal n) operand_locals os (each_more (GoodOperand n) (λ (o : Operand). Each (KnownLocal n) (operand_locals o)) operand_locals_good os h)

  block_values_good : (b : Block) → GoodBlock stated n b → Each (GoodOperand n) (block_values b)
  block_values_good b h =
      each_append (GoodOperand n) (flat_map (λ (i : Instr). op_values i.op) b.code) (end_values b.end)
      (each_flat (GoodOperand n) (λ (i : Instr). op_values i.op) b.code (each_more (GoodInstr stated n) (λ (i : Instr). Each (GoodOperand n) (op_values i.op)) (λ i g. g.op.values) b.code h.code)) h.end.values

  block_types_good : (b : Block) → GoodBlock stated n b → Each (GoodType n) (block_types b)
  block_types_good b h =
      each_append (GoodType n) (flat_map (λ (i : Instr). op_types i.op) b.code) (end_types b.end)
      (each_flat (GoodType n) (λ (i : Instr). op_types i.op) b.code (each_more (GoodInstr stated n) (λ (i : Instr). Each (GoodType n) (op_types i.op)) (λ i g. g.op.types) b.code h.code)) h.end.types

  instr_locals_good : (i : Instr) → GoodInstr stated n i → Each (KnownLocal n) (instr_locals i)
  instr_locals_good i h =
      each_append (KnownLocal n) (listed i.result ++ flat_map operand_locals (op_values i.op)) (op_labels i.op)
      (each_append (KnownLocal n) (listed i.result) (flat_map operand_locals (op_values i.op)) h.known (values_locals (op_values i.op) h.op.values)) h.op.labels

  block_locals_good : (b : Block) → GoodBlock stated n b → Each (KnownLocal n) (block_locals b)
  block_locals_good b h = (
    h.label,
    each_append (KnownLocal n) (flat_map instr_locals b.code ++ flat_map operand_locals (end_values b.end)) (targets b.end)
        (each_append (KnownLocal n) (flat_map instr_locals b.code) (flat_map operand_locals (end_values b.end))
        (each_flat (KnownLocal n) instr_locals b.code (each_more (GoodInstr stated n) (λ (i : Instr). Each (KnownLocal n) (instr_locals i)) instr_locals_good b.code h.code))
        (values_locals (end_values b.end) h.end.values)) h.end.targets,
  )

-- ---- a function

module _ (n : Names) (f : Func) (h : GoodParts stated n f) where
  instrs_good : Each (GoodInstr stated n) (instrs f)
  instrs_good = each_flat (GoodInstr stated n) (λ (b : Block). b.code) f.blocks (each_more (GoodBlock stated n) (λ (b : Block). Each (GoodInstr stated n) b.code) (λ b g. g.code) f.blocks h.blocks)

  consts_good : Each (GoodValue n) (func_consts f)
  consts_good =
      each_flat (GoodValue n) operand_consts (func_values f) (each_more (GoodOperand n) (λ (o : Operand). Each (GoodValue n) (operand_consts o)) (operand_consts_good n) (func_values f)
      (each_flat (GoodOperand n) block_values f.blocks (each_more (GoodBlock stated n) (λ (b : Block). Each (GoodOperand n) (block_values b)) (block_values_good n) f.blocks h.blocks)))

  locals_good : Each (KnownLocal n) (func_locals f)
  locals_good =
      each_append (KnownLocal n) (map (λ (p : Param). p.name) f.params) (flat_map block_locals f.blocks)
      (each_map (KnownLocal n) (λ (p : Param). p.name) f.params (each_more (GoodParam n) (λ (p : Param). KnownLocal n p.name) (λ p g. g.name) f.params h.params))
      (each_flat (KnownLocal n) block_locals f.blocks (each_more (GoodBlock stated n) (λ (b : Block). Each (KnownLocal n) (block_locals b)) (block_locals_good n) f.blocks h.blocks))

  pub types_good : Each (GoodType n) (func_types f)
  types_good = (
    h.result,
    each_append (GoodType n) (map (λ (p : Param). p.ty) f.params) (flat_map block_types f.blocks)
        (each_map (GoodType n) (λ (p : Param). p.ty) f.params (each_more (GoodParam n) (λ (p : Param). GoodType n p.ty) (λ p g. g.ty) f.params h.params))
        (each_flat (GoodType n) block_types f.blocks (each_more (GoodBlock stated n) (λ (b : Block). Each (GoodType n) (block_types b)) (block_types_good n) f.blocks h.blocks)),
  )

  pub const_types_good : Each (GoodType n) (typed_consts (func_consts f))
  const_types_good = each_flat (GoodType n) const_types (func_consts f) (each_more (GoodValue n) (λ (c : Const). Each (GoodType n) (const_types c)) (λ c g. g.1.types) (func_consts f) consts_good)

  pub symbols_good : Each (KnownSymbol n) (func_symbols f)
  symbols_good = (
    h.name,
    each_append (KnownSymbol n) (flat_map (λ (i : Instr). op_callee i.op) (instrs f)) (flat_map const_symbols (func_consts f))
        (each_flat (KnownSymbol n) (λ (i : Instr). op_callee i.op) (instrs f) (each_more (GoodInstr stated n) (λ (i : Instr). Each (KnownSymbol n) (op_callee i.op)) (λ i g. g.op.callee) (instrs f) instrs_good))
        (each_flat (KnownSymbol n) const_symbols (func_consts f) (each_more (GoodValue n) (λ (c : Const). Each (KnownSymbol n) (const_symbols c)) (λ c g. g.1.symbols) (func_consts f) consts_good)),
  )

  all_instrs : (P : Instr → Type 0) → ((i : Instr) → GoodInstr stated n i → P i) → All P (instrs f)
  all_instrs P more = All-from_recursion P (instrs f) (each_more (GoodInstr stated n) P more (instrs f) instrs_good)

-- ---- names that differ

no_pairs : {A : Type 0} (R : A → A → Type 0) → AllPairs R []
no_pairs R i j d a b = absurd (omega (arith, b))

pub once_differ : (xs : List (List ℕ)) → Once xs → AllDiffer xs
once_differ [] h = no_pairs (λ (x y : List ℕ). x ≢ y)
once_differ (x ∷ xs) h = AllPairs-cons (λ (x y : List ℕ). x ≢ y) x xs (All-from_recursion (λ (y : List ℕ). x ≢ y) xs h.0) (once_differ xs h.1)

-- a function whose locals are those that there are in the end
pub proper_func : (n : Names) (f : Func) → GoodParts stated n f → Once n.locals → f.locals ≡ n.locals → IsProperFunc f
proper_func n f h once e = record {
  has_blocks = let some = h.some in omega (arith, some);
  entries = all_instrs n f h (λ (i : Instr). HasEntries i.op) (λ i g. g.op.entries);
  values = All-from_recursion IsValue (func_consts f) (each_more (GoodValue n) IsValue (λ c g. g.0) (func_consts f) (consts_good n f h));
  results = all_instrs n f h HasItsResult (λ i g. g.result);
  locals_known = rw e (All-from_recursion (λ (x : LocalId). x.0 < length n.locals) (func_locals f) (locals_good n f h));
  locals_once = rw e (once_differ n.locals once);
  params = h.few refl;
  arguments = all_instrs n f h (λ (i : Instr). HasFewArguments i.op) (λ i g. g.op.few refl);
  counts = all_instrs n f h (λ (i : Instr). HasItsCount i.op) (λ i g. g.op.count refl);
}
