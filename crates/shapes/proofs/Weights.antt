-- The weight of a plain body by the function's text.
use Rattle.std.proofs.Common.{◌≡◌, ℕ, ◌+◌, List, [], ◌∷◌, length, map, sum_by, Option, Some, None, refl, sym, ap, ap₂, ◌∙◌, arith}
use Rattle.std.specs.List.{filter_map, cons_option}
use Rattle.std.proofs.lemmas.List.{length-map}
use Rattle.std.proofs.lemmas.List.Sums.{sum_by-cons}
use Rattle.std.specs.Option.{option_map_or}
use Rattle.ir_core.specs.declared.flat.FlatEnd.{FlatEnd}
use Rattle.ir_core.specs.declared.flat.FlatEnd.TheVariants.{Ret, Br, Cond, Switch, Unreachable}
use Rattle.ir_core.specs.declared.flat.FlatBlock.{FlatBlock}
use Rattle.ir_core.specs.declared.flat.FlatInstr.{FlatInstr}
use Rattle.ir_core.specs.declared.flat.Phi.{Phi}
use Rattle.ir_core.specs.declared.func.Instr.{Instr}
use Rattle.ir_core.specs.declared.func.Block.{Block}
use Rattle.ir_core.specs.declared.func.Func.{Func}
use Rattle.ir_core.specs.declared.module.Module.{Module}
use Rattle.ir_core.specs.Instructions.{phi, instruction, terminator, block_rows}
use Rattle.ir_core.specs.Plain.{Numbers, plain_body, numbers, renumbered, other_phi, other_instr, other_end, other_entry, other_case}
use Rattle.ir_core.specs.Weight.{phi_weight, end_weight, block_weight, weight}
use Rattle.shapes.specs.Weight.{gives_value, value_returns}
use Rattle.shapes.specs.SourceWeight.{instr_weight, code_weight, source_weight}

-- one phi or instruction more
with_phi : (n : Numbers) (o : Option Phi) (rest : List Phi) → sum_by phi_weight (map (other_phi n) (cons_option o rest)) ≡ option_map_or phi_weight o 0 + sum_by phi_weight (map (other_phi n) rest)
with_phi n None rest = omega arith
with_phi n (Some p) rest = sum_by-cons phi_weight (other_phi n p) (map (other_phi n) rest) ∙ ap (λ (k : ℕ). k + sum_by phi_weight (map (other_phi n) rest)) (length-map p.entries (other_entry n))

with_instr : (n : Numbers) (o : Option FlatInstr) (rest : List FlatInstr) → length (map (other_instr n) (cons_option o rest)) ≡ option_map_or (λ (r : FlatInstr). 1) o 0 + length (map (other_instr n) rest)
with_instr n None rest = omega arith
with_instr n (Some r) rest = omega arith

of_code : (m : Module) (n : Numbers) (is : List Instr) → sum_by phi_weight (map (other_phi n) (filter_map (λ (i : Instr). phi m i.result i.op) is)) + length (map (other_instr n) (filter_map (λ (i : Instr). instruction m i.result i.op) is)) ≡ sum_by (instr_weight m) is
of_code m n [] = refl
of_code m n (i ∷ is) =
    let rest = of_code m n is in
    let phis = with_phi n (phi m i.result i.op) (filter_map (λ (i : Instr). phi m i.result i.op) is) in
    let code = with_instr n (instruction m i.result i.op) (filter_map (λ (i : Instr). instruction m i.result i.op) is) in
    let more = sum_by-cons (instr_weight m) i is in
    omega (arith, rest, phis, code, more)

same_end : (n : Numbers) (e : FlatEnd) → end_weight (other_end n e) ≡ end_weight e
same_end n (Ret a) = refl
same_end n (Br b) = refl
same_end n (Cond c t f) = refl
same_end n (Switch a w cases other) = ap (λ (k : ℕ). k + 1) (length-map cases (other_case n))
same_end n Unreachable = refl

of_block : (m : Module) (n : Numbers) (b : Block) → block_weight (renumbered n (block_rows m b)) ≡ code_weight m b
of_block m n b = ap₂ (λ (j k : ℕ). j + k) (of_code m n b.code) (same_end n (terminator m b.end))

of_blocks : (m : Module) (n : Numbers) (bs : List Block) → sum_by block_weight (map (λ (b : Block). renumbered n (block_rows m b)) bs) ≡ sum_by (code_weight m) bs
of_blocks m n [] = refl
of_blocks m n (b ∷ bs) =
    let row = λ (b : Block). renumbered n (block_rows m b) in
    sum_by-cons block_weight (row b) (map row bs) ∙ ap₂ (λ (j k : ℕ). j + k) (of_block m n b) (of_blocks m n bs) ∙ sym (sum_by-cons (code_weight m) b bs)

pub of_func : (m : Module) (f : Func) → weight (plain_body m f) ≡ source_weight m f
of_func m f = of_blocks m (numbers f) f.blocks

same_value : (n : Numbers) (e : FlatEnd) → gives_value (other_end n e) ≡ gives_value e
same_value n (Ret None) = refl
same_value n (Ret (Some a)) = refl
same_value n (Br b) = refl
same_value n (Cond c t f) = refl
same_value n (Switch a w cases other) = refl
same_value n Unreachable = refl

values_of_blocks : (m : Module) (n : Numbers) (bs : List Block) → sum_by (λ (k : FlatBlock). gives_value k.end) (map (λ (b : Block). renumbered n (block_rows m b)) bs) ≡ sum_by (λ (b : Block). gives_value (terminator m b.end)) bs
values_of_blocks m n [] = refl
values_of_blocks m n (b ∷ bs) =
    let row = λ (b : Block). renumbered n (block_rows m b) in
    sum_by-cons (λ (k : FlatBlock). gives_value k.end) (row b) (map row bs) ∙ ap₂ (λ (j k : ℕ). j + k) (same_value n (terminator m b.end)) (values_of_blocks m n bs)
    ∙ sym (sum_by-cons (λ (b : Block). gives_value (terminator m b.end)) b bs)

pub values_of_func : (m : Module) (f : Func) → value_returns (plain_body m f) ≡ sum_by (λ (b : Block). gives_value (terminator m b.end)) f.blocks
values_of_func m f = values_of_blocks m (numbers f) f.blocks
