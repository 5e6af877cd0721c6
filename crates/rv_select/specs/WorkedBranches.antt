-- Codes of bodies with branches at the edges of what a branch reaches and beyond them, worked out by a plain model of the table.
use Rattle.std.specs.Prelude.{◌≡◌, ℕ, ◌+◌, List, [], ◌∷◌, ◌++◌, Some, None, length, map, take, drop, replicate, pos, neg_ℤ}
use Rattle.oi_base.specs.declared.words.Width.TheVariants.{W32}
use Rattle.ir_core.specs.declared.flat.Cmp.TheVariants as cmp
use Rattle.ir_core.specs.declared.flat.Scalar.TheVariants as scalar
use Rattle.ir_core.specs.declared.flat.FlatOp.TheVariants as operand
use Rattle.ir_core.specs.declared.flat.FlatInstr.{FlatInstr}
use Rattle.ir_core.specs.declared.flat.FlatInstr.TheVariants as flat
use Rattle.ir_core.specs.declared.flat.FlatEnd.TheVariants as ends
use Rattle.ir_core.specs.declared.flat.FlatBody.{FlatBody}
use Rattle.rv_isa.specs.declared.rv.Rv.TheVariants as rv
use Rattle.rv_select.specs.declared.item.Item.{Item}
use Rattle.rv_select.specs.declared.item.Item.TheVariants as items
use Rattle.rv_select.specs.Code.{code, code_bytes}
use Rattle.rv_select.specs.Worked.{text_bytes}

-- a body, the size of its code in bytes, and its items from one place on, among them its branches
pub record WorkedBranch : Type 0 where
  pub body : FlatBody
  pub bytes : ℕ
  pub first : ℕ
  pub expected : List Item

abbrev pub HaveSizes : List WorkedBranch → Type 0
HaveSizes ws = map (λ (w : WorkedBranch). code_bytes w.body) ws ≡ map (λ (w : WorkedBranch). w.bytes) ws

abbrev pub HaveBranches : List WorkedBranch → Type 0
HaveBranches ws = map (λ (w : WorkedBranch). take (length w.expected) (drop w.first (code w.body))) ws ≡ map (λ (w : WorkedBranch). w.expected) ws

-- a byte is put
abbrev pub put : FlatInstr
put = flat.Put None (operand.Word 65)

abbrev pub branches : List WorkedBranch
branches =
    -- a branch 4092 after
    record { body = record { params = 0; regs = 1; blocks = record { phis = []; code = []; end = ends.Cond (operand.Word 1) (record { 0 = 2 }) (record { 0 = 1 }) } ∷ record { phis = []; code = replicate 340 put ++ flat.Copy (record { 0 = 0 }) (operand.Word 5) ∷ []; end = ends.Br (record { 0 = 2 }) } ∷ record { phis = []; code = []; end = ends.Ret None } ∷ [] }; bytes = 4116; first = 3; expected = items.Word (rv.Bne 5 0 (pos 4092)) ∷ [] } ∷
    -- a branch 4096 after
    record { body = record { params = 0; regs = 1; blocks = record { phis = []; code = []; end = ends.Cond (operand.Word 1) (record { 0 = 2 }) (record { 0 = 1 }) } ∷ record { phis = []; code = replicate 340 put ++ flat.Copy (record { 0 = 0 }) (operand.Word 5) ∷ []; end = ends.Unreachable } ∷ record { phis = []; code = []; end = ends.Ret None } ∷ [] }; bytes = 4124; first = 3; expected = items.Word (rv.Beq 5 0 (pos 8)) ∷ items.Word (rv.Jal 0 (pos 4096)) ∷ [] } ∷
    -- a branch 4096 before
    record { body = record { params = 0; regs = 1; blocks = record { phis = []; code = []; end = ends.Br (record { 0 = 1 }) } ∷ record { phis = []; code = replicate 341 put; end = ends.Cond (operand.Word 1) (record { 0 = 1 }) (record { 0 = 2 }) } ∷ record { phis = []; code = []; end = ends.Ret None } ∷ [] }; bytes = 4120; first = 1026; expected = items.Word (rv.Bne 5 0 (neg_ℤ (pos 4096))) ∷ [] } ∷
    -- a branch 4100 before
    record { body = record { params = 0; regs = 1; blocks = record { phis = []; code = []; end = ends.Br (record { 0 = 1 }) } ∷ record { phis = []; code = replicate 340 put ++ flat.Copy (record { 0 = 0 }) (operand.Word 5) ∷ flat.Copy (record { 0 = 0 }) (operand.Word 5) ∷ []; end = ends.Cond (operand.Word 1) (record { 0 = 1 }) (record { 0 = 2 }) } ∷ record { phis = []; code = []; end = ends.Ret None } ∷ [] }; bytes = 4128; first = 1027; expected = items.Word (rv.Beq 5 0 (pos 8)) ∷ items.Word (rv.Jal 0 (neg_ℤ (pos 4104))) ∷ [] } ∷
    -- a branch past its first block 4096 after
    record { body = record { params = 0; regs = 1; blocks = record { phis = []; code = []; end = ends.Cond (operand.Word 1) (record { 0 = 1 }) (record { 0 = 2 }) } ∷ record { phis = []; code = replicate 340 put ++ flat.Copy (record { 0 = 0 }) (operand.Word 5) ∷ []; end = ends.Unreachable } ∷ record { phis = []; code = []; end = ends.Ret None } ∷ [] }; bytes = 4124; first = 3; expected = items.Word (rv.Bne 5 0 (pos 8)) ∷ items.Word (rv.Jal 0 (pos 4096)) ∷ [] } ∷
    -- a switch
    record { body = record { params = 0; regs = 1; blocks = record { phis = []; code = []; end = ends.Switch (operand.Word 1) W32 (record { word = 0; to = (record { 0 = 2 }) } ∷ record { word = 70000; to = (record { 0 = 3 }) } ∷ record { word = 2; to = (record { 0 = 1 }) } ∷ []) (record { 0 = 1 }) } ∷ record { phis = []; code = replicate 339 put; end = ends.Unreachable } ∷ record { phis = []; code = []; end = ends.Ret None } ∷ record { phis = []; code = []; end = ends.Unreachable } ∷ [] }; bytes = 4136; first = 4; expected = items.Word (rv.Bne 5 6 (pos 8)) ∷ items.Word (rv.Jal 0 (pos 4100)) ∷ items.Word (rv.Lui 6 (pos 17)) ∷ items.Word (rv.Addi 6 6 (pos 368)) ∷ items.Word (rv.Bne 5 6 (pos 8)) ∷ items.Word (rv.Jal 0 (pos 4096)) ∷ items.Word (rv.Addi 6 0 (pos 2)) ∷ items.Word (rv.Beq 5 6 (pos 4)) ∷ [] } ∷
    -- one grows after the other
    record { body = record { params = 0; regs = 1; blocks = record { phis = []; code = []; end = ends.Cond (operand.Word 1) (record { 0 = 3 }) (record { 0 = 1 }) } ∷ record { phis = []; code = []; end = ends.Cond (operand.Word 1) (record { 0 = 4 }) (record { 0 = 2 }) } ∷ record { phis = []; code = replicate 340 put; end = ends.Br (record { 0 = 3 }) } ∷ record { phis = []; code = put ∷ []; end = ends.Br (record { 0 = 4 }) } ∷ record { phis = []; code = flat.Copy (record { 0 = 0 }) (operand.Word 5) ∷ []; end = ends.Ret None } ∷ [] }; bytes = 4144; first = 3; expected = items.Word (rv.Beq 5 0 (pos 8)) ∷ items.Word (rv.Jal 0 (pos 4096)) ∷ items.Word (rv.Addi 5 0 (pos 1)) ∷ items.Word (rv.Beq 5 0 (pos 8)) ∷ items.Word (rv.Jal 0 (pos 4096)) ∷ [] } ∷
    []

-- a byte is got, and where it is 0 a branch leads past so many puts
abbrev pub past_puts : ℕ → List FlatBody
past_puts n = record { params = 0; regs = n + 2; blocks = record { phis = []; code = flat.Get (Some (record { 0 = 0 })) ∷ flat.Icmp (record { 0 = 1 }) cmp.Eq (scalar.Word W32) (operand.Reg (record { 0 = 0 })) (operand.Word 0) ∷ []; end = ends.Cond (operand.Reg (record { 0 = 1 })) (record { 0 = 2 }) (record { 0 = 1 }) } ∷ record { phis = []; code = replicate n put; end = ends.Ret (Some (operand.Word 0)) } ∷ record { phis = []; code = []; end = ends.Ret (Some (operand.Word 1)) } ∷ [] } ∷ []

-- bytes are put as they come, and the results of the puts are dropped
abbrev pub bytes_through_without_results : List FlatBody
bytes_through_without_results = record { params = 0; regs = 3; blocks = record { phis = []; code = []; end = ends.Br (record { 0 = 1 }) } ∷ record { phis = []; code = flat.Get (Some (record { 0 = 0 })) ∷ flat.Icmp (record { 0 = 1 }) cmp.Eq (scalar.Word W32) (operand.Reg (record { 0 = 0 })) (operand.Word 4294967295) ∷ []; end = ends.Cond (operand.Reg (record { 0 = 1 })) (record { 0 = 3 }) (record { 0 = 2 }) } ∷ record { phis = []; code = flat.Put None (operand.Reg (record { 0 = 0 })) ∷ []; end = ends.Br (record { 0 = 1 }) } ∷ record { phis = []; code = []; end = ends.Ret (Some (operand.Word 0)) } ∷ [] } ∷ []

pub record WorkedBranches : Type 0 where
  pub text_of_bytes_through : text_bytes bytes_through_without_results ≡ 96
  pub text_past_four_puts : text_bytes (past_puts 4) ≡ 144
  pub text_past_many_puts : text_bytes (past_puts 400) ≡ 4900
  pub sizes_of_branches : HaveSizes branches
  pub branches_are_right : HaveBranches branches
