-- A body that weighs little has few registers and blocks: each result has a row or an entry of a phi, and each block an end.
use Rattle.std.proofs.Common.{◌≡◌, inl, inr, ℕ, ◌+◌, ◌≤◌, List, [], ◌∷◌, length, map, sum_by, Option, Some, None, refl, ◌∙◌, arith}
use Rattle.std.specs.List.{flat_map, filter_map, cons_option}
use Rattle.std.proofs.lemmas.List.{length-append, length-map}
use Rattle.std.proofs.lemmas.List.Elements.{All-contains}
use Rattle.std.proofs.lemmas.List.Sums.{sum_by-cons}
use Rattle.ir_core.specs.declared.flat.FlatInstr.{FlatInstr}
use Rattle.ir_core.specs.declared.flat.FlatEnd.{FlatEnd}
use Rattle.ir_core.specs.declared.flat.FlatEnd.TheVariants as flat_end
use Rattle.ir_core.specs.declared.flat.FlatBlock.{FlatBlock}
use Rattle.ir_core.specs.declared.flat.Phi.{Phi}
use Rattle.ir_core.specs.declared.op.LocalId.{LocalId}
use Rattle.ir_core.specs.declared.op.Op.{Op}
use Rattle.ir_core.specs.declared.op.Op.TheVariants as ops
use Rattle.ir_core.specs.declared.func.Instr.{Instr}
use Rattle.ir_core.specs.declared.func.Block.{Block}
use Rattle.ir_core.specs.declared.func.Func.{Func}
use Rattle.ir_core.specs.declared.func.Param.{Param}
use Rattle.ir_core.specs.declared.module.Module.{Module}
use Rattle.ir_core.specs.Instructions.{entry, phi, instruction, block_rows}
use Rattle.ir_core.specs.Parts.{instrs}
use Rattle.ir_core.specs.Plain.{Numbers, other_entry, other_phi, other_instr, renumbered, results, registers, numbers, plain_body}
use Rattle.ir_core.specs.Proper.{HasEntries, IsProperFunc}
use Rattle.ir_core.specs.Weight.{phi_weight, end_weight, block_weight, weight}
use Rattle.ir_core.proofs.Lists.{Has, has_part, contains}

module _ (m : Module) (n : Numbers) where
  -- what the rows of an instruction weigh
  abbrev of_phi : Option Phi → ℕ
  of_phi None = 0
  of_phi (Some q) = phi_weight (other_phi n q)

  abbrev one_or_none : {A : Type 0} → Option A → ℕ
  one_or_none None = 0
  one_or_none (Some x) = 1

  -- an instruction with a result is a phi with an entry, or has a row
  one_each : (r : Option LocalId) (op : Op) → HasEntries op → one_or_none r ≤ of_phi (phi m r op) + one_or_none (instruction m r op)
  one_each None op h = omega arith
  one_each (Some d) (ops.Bin op t a b) h = omega arith
  one_each (Some d) (ops.Icmp c t a b) h = omega arith
  one_each (Some d) (ops.Select c a b) h = omega arith
  one_each (Some d) (ops.Cast c a t) h = omega arith
  one_each (Some d) (ops.Alloca t count stated) h = omega arith
  one_each (Some d) (ops.Load t a stated) h = omega arith
  one_each (Some d) (ops.Gep t a is) h = omega arith
  one_each (Some d) (ops.Store a p stated) h = omega arith
  one_each (Some d) (ops.Call t s as') h = omega arith
  one_each (Some d) (ops.Phi t es) h = let e = length-map (map (entry m t) es) (other_entry n) ∙ length-map es (entry m t) in omega (arith, e, h)

  abbrev phi_of : Instr → Option Phi
  phi_of i = phi m i.result i.op

  abbrev row_of : Instr → Option FlatInstr
  row_of i = instruction m i.result i.op

  -- ---- one more of each

  more_results : (o : Option LocalId) (xs : List LocalId) → length (cons_option o xs) ≡ one_or_none o + length xs
  more_results None xs = omega arith
  more_results (Some x) xs = omega arith

  more_phis : (o : Option Phi) (qs : List Phi) → sum_by phi_weight (map (other_phi n) (cons_option o qs)) ≡ of_phi o + sum_by phi_weight (map (other_phi n) qs)
  more_phis None qs = omega arith
  more_phis (Some q) qs = sum_by-cons phi_weight (other_phi n q) (map (other_phi n) qs)

  more_rows : (o : Option FlatInstr) (ws : List FlatInstr) → length (map (other_instr n) (cons_option o ws)) ≡ one_or_none o + length (map (other_instr n) ws)
  more_rows None ws = omega arith
  more_rows (Some w) ws = omega arith

  -- ---- blocks

  code_within : (is : List Instr) → ((i : Instr) → Has is i → HasEntries i.op) →
      length (filter_map (λ (i : Instr). i.result) is) ≤ sum_by phi_weight (map (other_phi n) (filter_map phi_of is)) + length (map (other_instr n) (filter_map row_of is))
  code_within [] h = omega arith
  code_within (i ∷ is) h =
      let here = one_each i.result i.op (h i (inl refl)) in
      let rest = code_within is (λ j k. h j (inr k)) in
      let a = more_results i.result (filter_map (λ (j : Instr). j.result) is) in
      let b = more_phis (phi_of i) (filter_map phi_of is) in
      let c = more_rows (row_of i) (filter_map row_of is) in
      omega (arith, here, rest, a, b, c)

  end_counts : (e : FlatEnd) → 1 ≤ end_weight e
  end_counts (flat_end.Ret v) = omega arith
  end_counts (flat_end.Br b) = omega arith
  end_counts (flat_end.Cond c t f) = omega arith
  end_counts (flat_end.Switch v w cases b) = omega arith
  end_counts flat_end.Unreachable = omega arith

  abbrev row : Block → FlatBlock
  row b = renumbered n (block_rows m b)

  block_within : (b : Block) → ((i : Instr) → Has b.code i → HasEntries i.op) → length (results b) + 1 ≤ block_weight (row b)
  block_within b h = let code = code_within b.code h in let last = end_counts (row b).end in omega (arith, code, last)

  blocks_within : (bs : List Block) → ((b : Block) → Has bs b → (i : Instr) → Has b.code i → HasEntries i.op) → length (flat_map results bs) + length bs ≤ sum_by block_weight (map row bs)
  blocks_within [] h = omega arith
  blocks_within (b ∷ bs) h =
      let here = block_within b (h b (inl refl)) in
      let rest = blocks_within bs (λ c k. h c (inr k)) in
      let a = length-append (results b) (flat_map results bs) in
      let s = sum_by-cons block_weight (row b) (map row bs) in
      omega (arith, here, rest, a, s)

-- a body's registers but its parameters, and its blocks, are no more than it weighs
pub numbers_within : (m : Module) (f : Func) → IsProperFunc f → (length (registers f) ≤ 8 + weight (plain_body m f)) × (length f.blocks ≤ weight (plain_body m f))
numbers_within m f proper =
    let all = blocks_within m (numbers f) f.blocks (λ b k i h. All-contains (λ (j : Instr). HasEntries j.op) (instrs f) i proper.entries (contains (instrs f) i (has_part (λ (c : Block). c.code) f.blocks b i k h))) in
    let both = length-append (map (λ (p : Param). p.name) f.params) (flat_map results f.blocks) in
    let params = length-map f.params (λ (p : Param). p.name) in
    let few = proper.params in
    (omega (arith, all, both, params, few), omega (arith, all))
