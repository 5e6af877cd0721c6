-- The expanded body of a tree's function: its segments as blocks, where blocks and registers have their positions in textual
-- order as numbers.
use Rattle.std.specs.Prelude.{ℕ, ◌==◌, Bool, true, false, ◌&&◌, List, [], ◌∷◌, ◌++◌, length, map, slice_get, Option, Some, None}
use Rattle.std.specs.List.{flat_map, filter_map, position_or_len}
use Rattle.std.specs.Option.{option_map, option_map_or}
use Rattle.ir_core.specs.declared.flat.Entry.{Entry}
use Rattle.ir_core.specs.declared.flat.Phi.{Phi}
use Rattle.ir_core.specs.declared.flat.FlatInstr.{FlatInstr}
use Rattle.ir_core.specs.declared.flat.FlatInstr.TheVariants.{Copy}
use Rattle.ir_core.specs.declared.flat.FlatEnd.{FlatEnd}
use Rattle.ir_core.specs.declared.flat.FlatEnd.TheVariants.{Ret, Br}
use Rattle.ir_core.specs.declared.flat.FlatBlock.{FlatBlock}
use Rattle.ir_core.specs.declared.flat.FlatBody.{FlatBody}
use Rattle.ir_core.specs.declared.op.LocalId.{LocalId}
use Rattle.ir_core.specs.declared.op.TypedOperand.{TypedOperand}
use Rattle.ir_core.specs.declared.op.End.{End}
use Rattle.ir_core.specs.declared.op.End.TheVariants as ends
use Rattle.ir_core.specs.declared.func.Instr.{Instr}
use Rattle.ir_core.specs.declared.func.Block.{Block}
use Rattle.ir_core.specs.declared.func.Param.{Param}
use Rattle.ir_core.specs.declared.func.Func.{Func}
use Rattle.ir_core.specs.declared.module.Module.{Module}
use Rattle.ir_core.specs.Instructions.{typed, phi, instruction, terminator, register}
use Rattle.ir_core.specs.Plain.{Numbers, other_reg, other_operand, other_instr, other_phi, other_end}
use Rattle.shapes.specs.Tree.{Tree, func}
use Rattle.site_inliner.specs.Segments.{CallString, Triple, Pair, Segment, Begin, AtBlock, AfterCall, Finish, AtEnd, AtCall, segments}

-- ---- registers in textual order

abbrev pub pair : CallString → LocalId → Pair
pair w x = record { string = w; reg = x.0 }

abbrev pub params_of : CallString → Func → List Pair
params_of w f = map (λ (p : Param). pair w p.name) f.params

abbrev pub result_pair : CallString → Option LocalId → List Pair
result_pair w None = []
result_pair w (Some d) = pair w d ∷ []

-- the result of the inlined call after which the segment stands
abbrev pub begin_pairs : CallString → Begin → List Pair
begin_pairs w AtBlock = []
begin_pairs w (AfterCall s callee d) = result_pair w d

-- the parameters of the callee that is inlined there
abbrev pub finish_pairs : CallString → Finish → List Pair
finish_pairs w (AtEnd e) = []
finish_pairs w (AtCall s callee args) = params_of (w ++ s ∷ []) callee

abbrev pub pairs_of : Segment → List Pair
pairs_of g = begin_pairs g.name.string g.begin ++ filter_map (λ (i : Instr). option_map (pair g.name.string) i.result) g.code ++ finish_pairs g.name.string g.finish

-- ---- numbers are positions

abbrev pub same_string : CallString → CallString → Bool
same_string [] [] = true
same_string (s ∷ v) (t ∷ w) = s == t && same_string v w
same_string _ _ = false

abbrev pub is_pair : CallString → ℕ → Pair → Bool
is_pair w x p = same_string w p.string && p.reg == x

abbrev pub is_triple : Triple → Segment → Bool
is_triple t g = same_string t.string g.name.string && (g.name.block == t.block && g.name.segment == t.segment)

-- the first segment of a block, and its last
abbrev pub is_first : CallString → ℕ → Segment → Bool
is_first w x g = is_triple (record { string = w; block = x; segment = 0 }) g

abbrev pub is_end : Finish → Bool
is_end (AtEnd e) = true
is_end (AtCall s callee args) = false

abbrev pub is_last : CallString → ℕ → Segment → Bool
is_last w x g = same_string w g.name.string && (g.name.block == x && is_end g.finish)

module _ (m : Module) (all : List Segment) (pairs : List Pair) where
  abbrev pub reg_at : CallString → ℕ → ℕ
  reg_at w x = position_or_len (is_pair w x) pairs

  -- for branches, which lead to a block's first segment
  abbrev pub to_first : CallString → Numbers
  to_first w = record { reg = reg_at w; block = λ x. position_or_len (is_first w x) all }

  -- for phis, whose entries name a block's last segment
  abbrev pub to_last : CallString → Numbers
  to_last w = record { reg = reg_at w; block = λ x. position_or_len (is_last w x) all }

  abbrev pub number_of : Triple → ℕ
  number_of t = position_or_len (is_triple t) all

  -- ---- blocks

  -- what a returning block of the callee at the string gives
  abbrev pub return_entry : CallString → Block → Option Entry
  return_entry w b = of_end b.end
    where
      of_end : End → Option Entry
      of_end (ends.Ret (Some a)) = Some (record { from = record { 0 = position_or_len (is_last w b.label.0) all }; value = other_operand (to_first w) (typed m a) })
      of_end _ = None

  abbrev pub result_phi : CallString → ℕ → Func → Option LocalId → List Phi
  result_phi w s callee None = []
  result_phi w s callee (Some d) = record { reg = other_reg (to_first w) (register d); entries = filter_map (return_entry (w ++ s ∷ [])) callee.blocks } ∷ []

  abbrev pub begin_phis : CallString → Begin → List Phi
  begin_phis w AtBlock = []
  begin_phis w (AfterCall s callee d) = result_phi w s callee d

  -- the arguments, each copied into its parameter
  abbrev pub copies : CallString → CallString → List Param → List TypedOperand → List FlatInstr
  copies v w (p ∷ ps) (a ∷ as') = Copy (other_reg (to_first w) (register p.name)) (other_operand (to_first v) (typed m a)) ∷ copies v w ps as'
  copies v w _ _ = []

  abbrev pub finish_code : CallString → Finish → List FlatInstr
  finish_code w (AtEnd e) = []
  finish_code w (AtCall s callee args) = copies w (w ++ s ∷ []) callee.params args

  abbrev pub entry_label : Func → ℕ
  entry_label f = option_map_or (λ (b : Block). b.label.0) (slice_get f.blocks 0) 0

  abbrev pub leave : Option Triple → FlatEnd → FlatEnd
  leave (Some t) (Ret a) = Br (record { 0 = number_of t })
  leave t e = e

  abbrev pub finish_end : CallString → Option Triple → Finish → FlatEnd
  finish_end w t (AtEnd e) = leave t (other_end (to_first w) (terminator m e))
  finish_end w t (AtCall s callee args) = Br (record { 0 = position_or_len (is_first (w ++ s ∷ []) (entry_label callee)) all })

  abbrev pub block_of : Segment → FlatBlock
  block_of g = record {
    phis = begin_phis g.name.string g.begin ++ map (other_phi (to_last g.name.string)) (filter_map (λ (i : Instr). phi m i.result i.op) g.code);
    code = map (other_instr (to_first g.name.string)) (filter_map (λ (i : Instr). instruction m i.result i.op) g.code) ++ finish_code g.name.string g.finish;
    end = finish_end g.name.string g.returns_to g.finish;
  }

-- the body of a function with these segments
abbrev pub body_of : Module → Func → List Segment → FlatBody
body_of m f all =
    let pairs = params_of [] f ++ flat_map pairs_of all in
    record { params = length f.params; regs = length pairs; blocks = map (block_of m all pairs) all }

-- the expanded body of a tree's function, where it is one of the module
abbrev pub flat : Module → Tree → Option FlatBody
flat m t = option_map (λ (f : Func). body_of m f (segments m t)) (slice_get m.funcs (func t).0)
