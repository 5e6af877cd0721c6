-- A body with one of its calls replaced by the callee's body, and bodies in which calls are replaced one after another.
use Rattle.std.specs.Prelude.{ℕ, ◌+◌, nat_lt, nat_le, if◌then◌else◌, List, [], ◌∷◌, ◌++◌, length, map, take, drop, slice_get, Option, Some, None}
use Rattle.std.specs.List.{flat_map, filter_map}
use Rattle.oi_base.specs.declared.ids.RegId.{RegId}
use Rattle.ir_core.specs.declared.flat.FlatOp.{FlatOp}
use Rattle.ir_core.specs.declared.flat.Entry.{Entry}
use Rattle.ir_core.specs.declared.flat.Phi.{Phi}
use Rattle.ir_core.specs.declared.flat.FlatInstr.{FlatInstr}
use Rattle.ir_core.specs.declared.flat.FlatInstr.TheVariants.{Copy, Call}
use Rattle.ir_core.specs.declared.flat.FlatEnd.{FlatEnd}
use Rattle.ir_core.specs.declared.flat.FlatEnd.TheVariants.{Ret, Br}
use Rattle.ir_core.specs.declared.flat.FlatBlock.{FlatBlock}
use Rattle.ir_core.specs.declared.flat.FlatBody.{FlatBody}
use Rattle.ir_core.specs.Formed.{written_by, writes}
use Rattle.ir_core.specs.Plain.{Numbers, other_reg, other_operand, other_instr, other_phi, other_end}

-- where a body is cut, and what comes between: block `block` is cut in two at its instruction number `place`, before which
-- the body defines `defined` registers; the callee has `regs` registers and `blocks` blocks
pub record Cut : Type 0 where
  pub block : ℕ
  pub place : ℕ
  pub defined : ℕ
  pub regs : ℕ
  pub blocks : ℕ

-- ---- numbers after

-- a register of the caller, and one of the callee
abbrev pub outer_reg : Cut → ℕ → ℕ
outer_reg c r = if nat_lt r c.defined then r else r + c.regs

abbrev pub inner_reg : Cut → ℕ → ℕ
inner_reg c r = c.defined + r

-- the first and the last part of a block of the caller, a block of the callee, and the second half of the block that is cut
abbrev pub first_part : Cut → ℕ → ℕ
first_part c x = if nat_le x c.block then x else x + (c.blocks + 1)

abbrev pub last_part : Cut → ℕ → ℕ
last_part c x = if nat_lt x c.block then x else x + (c.blocks + 1)

abbrev pub inner_part : Cut → ℕ → ℕ
inner_part c x = c.block + 1 + x

abbrev pub second_part : Cut → ℕ
second_part c = c.block + (c.blocks + 1)

-- for the caller's branches and for its phis, and for the callee
abbrev pub outer : Cut → Numbers
outer c = record { reg = outer_reg c; block = first_part c }

abbrev pub outer_phis : Cut → Numbers
outer_phis c = record { reg = outer_reg c; block = last_part c }

abbrev pub inner : Cut → Numbers
inner c = record { reg = inner_reg c; block = inner_part c }

-- ---- blocks

-- a block of the caller that is not cut
abbrev pub outer_block : Cut → FlatBlock → FlatBlock
outer_block c k = record { phis = map (other_phi (outer_phis c)) k.phis; code = map (other_instr (outer c)) k.code; end = other_end (outer c) k.end }

-- a block of the callee, whose returns lead to the second half
abbrev pub inner_end : Cut → FlatEnd → FlatEnd
inner_end c (Ret a) = Br (record { 0 = second_part c })
inner_end c e = other_end (inner c) e

abbrev pub inner_block : Cut → FlatBlock → FlatBlock
inner_block c k = record { phis = map (other_phi (inner c)) k.phis; code = map (other_instr (inner c)) k.code; end = inner_end c k.end }

-- the arguments, each copied into its parameter, from parameter q on
abbrev pub copies : Cut → ℕ → List FlatOp → List FlatInstr
copies c q [] = []
copies c q (a ∷ as') = Copy (record { 0 = inner_reg c q }) (other_operand (outer c) a) ∷ copies c (q + 1) as'

abbrev pub first_half : Cut → List FlatOp → FlatBlock → FlatBlock
first_half c args k = record {
  phis = map (other_phi (outer_phis c)) k.phis;
  code = map (other_instr (outer c)) (take c.place k.code) ++ copies c 0 args;
  end = Br (record { 0 = inner_part c 0 });
}

-- what the callee's returning blocks give, the first of them being block x
abbrev pub return_of : Cut → ℕ → FlatEnd → List Entry → List Entry
return_of c x (Ret (Some a)) rest = record { from = record { 0 = inner_part c x }; value = other_operand (inner c) a } ∷ rest
return_of c x e rest = rest

abbrev pub returns : Cut → ℕ → List FlatBlock → List Entry
returns c x [] = []
returns c x (k ∷ ks) = return_of c x k.end (returns c (x + 1) ks)

abbrev pub result : Cut → List FlatBlock → Option RegId → List Phi
result c ks None = []
result c ks (Some d) = record { reg = other_reg (outer c) d; entries = returns c 0 ks } ∷ []

abbrev pub second_half : Cut → List FlatBlock → Option RegId → FlatBlock → FlatBlock
second_half c ks d k = record {
  phis = result c ks d;
  code = map (other_instr (outer c)) (drop (c.place + 1) k.code);
  end = other_end (outer c) k.end;
}

-- the blocks, where that which is cut is k and its call has the result d and the arguments args
abbrev pub joined : Cut → List FlatBlock → List FlatBlock → FlatBlock → Option RegId → List FlatOp → List FlatBlock
joined c own ks k d args =
    map (outer_block c) (take c.block own) ++ first_half c args k ∷ (map (inner_block c) ks ++ second_half c ks d k ∷ map (outer_block c) (drop (c.block + 1) own))

-- ---- bodies

-- how many registers are defined before place i of block b
abbrev pub defined_before : FlatBody → ℕ → ℕ → FlatBlock → ℕ
defined_before body b i k = body.params + (length (flat_map writes (take b body.blocks)) + (length k.phis + length (filter_map written_by (take i k.code))))

abbrev pub cut_at : FlatBody → FlatBody → ℕ → ℕ → FlatBlock → Cut
cut_at body callee b i k = record { block = b; place = i; defined = defined_before body b i k; regs = callee.regs; blocks = length callee.blocks }

abbrev pub with_call : FlatBody → FlatBody → ℕ → ℕ → FlatBlock → Option FlatInstr → FlatBody
with_call body callee b i k (Some (Call d f args)) =
    record { params = body.params; regs = body.regs + callee.regs; blocks = joined (cut_at body callee b i k) body.blocks callee.blocks k d args }
with_call body callee b i k _ = body

abbrev pub with_block : FlatBody → FlatBody → ℕ → ℕ → Option FlatBlock → FlatBody
with_block body callee b i None = body
with_block body callee b i (Some k) = with_call body callee b i k (slice_get k.code i)

-- the body whose call at place i of block b is replaced by the callee's body
unfoldable pub replaced : FlatBody → ℕ → ℕ → FlatBody → FlatBody
replaced body b i callee = with_block body callee b i (slice_get body.blocks b)
