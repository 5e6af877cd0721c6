-- The expanded body of a tree's function by where the bodies of its callees lie in it. A callee's registers and blocks are
-- numbered one after the other, so where the first of them lies gives all of them.
use Rattle.std.specs.Prelude.{ℕ, suc, ◌+◌, ◌==◌, Bool, true, false, if◌then◌else◌, List, [], ◌∷◌, ◌++◌, length, map, take, drop, slice_get, slice_index_or, Option, Some, None, is_some}
use Rattle.std.specs.List.{cons_option}
use Rattle.std.specs.Option.{option_map, option_map_or}
use Rattle.oi_base.specs.declared.ids.FuncId.{FuncId}
use Rattle.ir_core.specs.declared.flat.FlatOp.{FlatOp}
use Rattle.ir_core.specs.declared.flat.Entry.{Entry}
use Rattle.ir_core.specs.declared.flat.Phi.{Phi}
use Rattle.ir_core.specs.declared.flat.FlatInstr.{FlatInstr}
use Rattle.ir_core.specs.declared.flat.FlatInstr.TheVariants.{Copy}
use Rattle.ir_core.specs.declared.flat.FlatEnd.{FlatEnd}
use Rattle.ir_core.specs.declared.flat.FlatEnd.TheVariants.{Ret, Br}
use Rattle.ir_core.specs.declared.flat.FlatBlock.{FlatBlock}
use Rattle.ir_core.specs.declared.flat.FlatBody.{FlatBody}
use Rattle.ir_core.specs.declared.op.LocalId.{LocalId}
use Rattle.ir_core.specs.declared.op.TypedOperand.{TypedOperand}
use Rattle.ir_core.specs.declared.func.Instr.{Instr}
use Rattle.ir_core.specs.declared.func.Block.{Block}
use Rattle.ir_core.specs.declared.func.Param.{Param}
use Rattle.ir_core.specs.declared.func.Func.{Func}
use Rattle.ir_core.specs.declared.module.Module.{Module}
use Rattle.ir_core.specs.Plain.{Numbers, other_reg, other_operand, other_instr, other_phi, other_end, registers}
use Rattle.call_graph.specs.Sites.{site_of}
use Rattle.shapes.specs.Tree.{Tree, node, Callees, none, more, func}
use Rattle.site_inliner.specs.Segments.{arguments, first_site}
use Rattle.site_inliner.specs.Parts.{Part, reg_in, typed_in, instr_row, instr_phi, end_in}

-- ---- how many

abbrev pub own_params : Module → FuncId → ℕ
own_params m f = option_map_or (λ (d : Func). length d.params) (slice_get m.funcs f.0) 0

abbrev pub own_regs : Module → FuncId → ℕ
own_regs m f = option_map_or (λ (d : Func). length (registers d)) (slice_get m.funcs f.0) 0

abbrev pub own_blocks : Module → FuncId → ℕ
own_blocks m f = option_map_or (λ (d : Func). length d.blocks) (slice_get m.funcs f.0) 0

-- registers and blocks of a tree's body; each inlined call cuts a block in two
abbrev mutual
  pub regs_of : Module → Tree → ℕ
  regs_of m (node f w ks) = own_regs m f + inner_regs m ks

  pub inner_regs : Module → Callees → ℕ
  inner_regs m none = 0
  inner_regs m (more s t ks) = regs_of m t + inner_regs m ks

abbrev mutual
  pub blocks_of : Module → Tree → ℕ
  blocks_of m (node f w ks) = own_blocks m f + inner_blocks m ks

  pub inner_blocks : Module → Callees → ℕ
  inner_blocks m none = 0
  inner_blocks m (more s t ks) = blocks_of m t + 1 + inner_blocks m ks

-- ---- places

-- how many registers and blocks the whole body has, which are the numbers of what is not there
pub record Whole : Type 0 where
  pub regs : ℕ
  pub blocks : ℕ

-- where the body of a tree lies in the whole: its first register and its first block, and the block to which its returns lead
pub record Start : Type 0 where
  pub reg : ℕ
  pub block : ℕ
  pub next : Option ℕ

-- an inlined callee: its site, its numbers of parameters, registers and blocks, and what it is at a place: its blocks, and what
-- its returning blocks give
pub record Callee : Type 0 where
  pub site : ℕ
  pub params : ℕ
  pub regs : ℕ
  pub blocks : ℕ
  pub place : Start → List FlatBlock
  pub returns : Start → List Entry

-- a point in the text of a function: the number of the next site, of the next register and of the block, and the callees that
-- are still to come
pub record Point : Type 0 where
  pub site : ℕ
  pub reg : ℕ
  pub block : ℕ
  pub left : List Callee

-- the callee that is inlined at the next site, and where the next instruction is a site or not
abbrev pub next_inlined : Point → Option Callee
next_inlined p = first p.left
  where
    first : List Callee → Option Callee
    first [] = None
    first (c ∷ cs) = if c.site == p.site then Some c else None

abbrev pub here : Point → Bool → Option Callee
here p false = None
here p true = next_inlined p

-- after the call or the callee
abbrev pub past_site : Point → Option Callee → Point
past_site p None = record { site = suc p.site; reg = p.reg; block = p.block; left = p.left }
past_site p (Some c) = record { site = suc p.site; reg = p.reg + c.regs; block = p.block + (c.blocks + 1); left = drop 1 p.left }

abbrev pub past : Point → Bool → Point
past p false = p
past p true = past_site p (next_inlined p)

-- after a result
abbrev pub written : Point → Option LocalId → Point
written p None = p
written p (Some d) = record { site = p.site; reg = suc p.reg; block = p.block; left = p.left }

abbrev pub if_result : ℕ → Option LocalId → List ℕ
if_result r None = []
if_result r (Some d) = r ∷ []

abbrev pub after_block : Point → Point
after_block p = record { site = p.site; reg = p.reg; block = suc p.block; left = p.left }

module _ (funcs : List Func) (caller : FuncId) where
  abbrev pub is_site : Instr → Bool
  is_site i = is_some (site_of funcs caller i)

  abbrev pub next : Point → Instr → Point
  next p i = written (past p (is_site i)) i.result

  abbrev pub code_end : Point → List Instr → Point
  code_end p [] = p
  code_end p (i ∷ is) = code_end (next p i) is

  abbrev pub next_block : Point → Block → Point
  next_block p b = after_block (code_end p b.code)

  -- ---- the numbers of a function's own registers and blocks, in text order

  abbrev pub code_regs : Point → List Instr → List ℕ
  code_regs p [] = []
  code_regs p (i ∷ is) = if_result (past p (is_site i)).reg i.result ++ code_regs (next p i) is

  abbrev pub block_regs : Point → List Block → List ℕ
  block_regs p [] = []
  block_regs p (b ∷ bs) = code_regs p b.code ++ block_regs (next_block p b) bs

  -- a block's first part, and its last
  abbrev pub firsts : Point → List Block → List ℕ
  firsts p [] = []
  firsts p (b ∷ bs) = p.block ∷ firsts (next_block p b) bs

  abbrev pub lasts : Point → List Block → List ℕ
  lasts p [] = []
  lasts p (b ∷ bs) = (code_end p b.code).block ∷ lasts (next_block p b) bs

-- the numbers of parameters, from one on
abbrev pub counted : ℕ → List Param → List ℕ
counted r [] = []
counted r (p ∷ ps) = r ∷ counted (suc r) ps

-- the numbers that tables give, else the numbers of registers and of blocks
abbrev pub numbers_by : List ℕ → List ℕ → ℕ → ℕ → Numbers
numbers_by reg_table block_table regs blocks = record { reg = λ x. slice_index_or reg_table x regs; block = λ x. slice_index_or block_table x blocks }

-- ---- blocks

-- the numbers of a function's registers, and of the first and the last parts of its blocks
pub record Tables : Type 0 where
  pub regs : List ℕ
  pub firsts : List ℕ
  pub lasts : List ℕ

-- the arguments, each copied into its parameter, from register r on
abbrev pub copies : ℕ → List FlatOp → List FlatInstr
copies r [] = []
copies r (a ∷ as') = Copy (record { 0 = r }) a ∷ copies (suc r) as'

module _ (p : Part) (caller : FuncId) (all : Whole) (tables : Tables) where
  -- for branches and rows, and for phis
  abbrev pub to_firsts : Numbers
  to_firsts = numbers_by tables.regs tables.firsts all.regs all.blocks

  abbrev pub to_lasts : Numbers
  to_lasts = numbers_by tables.regs tables.lasts all.regs all.blocks

  abbrev pub row_at : Instr → Option FlatInstr
  row_at i = option_map (other_instr to_firsts) (instr_row p i)

  abbrev pub phi_at : Instr → Option Phi
  phi_at i = option_map (other_phi to_lasts) (instr_phi p i)

  abbrev pub end_at : Option ℕ → FlatEnd → FlatEnd
  end_at (Some x) (Ret a) = Br (record { 0 = x })
  end_at n e = e

  abbrev pub argument_at : TypedOperand → FlatOp
  argument_at a = other_operand to_firsts (typed_in p a)

  abbrev pub result_at : Option LocalId → List Entry → List Phi
  result_at None es = []
  result_at (Some d) es = record { reg = other_reg to_firsts (reg_in p d); entries = es } ∷ []

  abbrev pub callee_start : Point → Callee → Start
  callee_start at c = record { reg = at.reg; block = suc at.block; next = Some (at.block + (c.blocks + 1)) }

  -- one instruction more, where `rest` has the blocks from after it on, with the phis and the rows before them
  abbrev pub cut_at : List Phi → List FlatInstr → Point → Instr → (List Phi → List FlatInstr → List FlatBlock) → Option Callee → List FlatBlock
  cut_at phis code at i rest None = rest (phis ++ cons_option (phi_at i) []) (code ++ cons_option (row_at i) [])
  cut_at phis code at i rest (Some c) =
      record { phis = phis; code = code ++ copies at.reg (map argument_at (take c.params (arguments i.op))); end = Br (record { 0 = suc at.block }) }
      ∷ (c.place (callee_start at c) ++ rest (result_at i.result (c.returns (callee_start at c))) [])

  -- the blocks of the rest of a block from a point on, where the phis and the rows so far are these
  abbrev pub cut_from : List Phi → List FlatInstr → Point → List Instr → FlatEnd → List FlatBlock
  cut_from phis code at [] end = record { phis = phis; code = code; end = end } ∷ []
  cut_from phis code at (i ∷ is) end = cut_at phis code at i (λ qs rows. cut_from qs rows (next p.source.funcs caller at i) is end) (here at (is_site p.source.funcs caller i))

  abbrev pub placed_blocks : Option ℕ → Point → List Block → List FlatBlock
  placed_blocks n at [] = []
  placed_blocks n at (b ∷ bs) = cut_from [] [] at b.code (end_at n (other_end to_firsts (end_in p b.end))) ++ placed_blocks n (next_block p.source.funcs caller at b) bs

  -- what the returning blocks give, each from its last part
  abbrev pub return_at : ℕ → FlatEnd → List Entry
  return_at x (Ret (Some a)) = record { from = record { 0 = x }; value = a } ∷ []
  return_at x e = []

  abbrev pub returns_from : Point → List Block → List Entry
  returns_from at [] = []
  returns_from at (b ∷ bs) = return_at (code_end p.source.funcs caller at b.code).block (other_end to_firsts (end_in p b.end)) ++ returns_from (next_block p.source.funcs caller at b) bs

-- ---- trees

-- where the text of a function begins, after the parameters
abbrev pub start_point : Module → FuncId → Func → List Callee → Start → Point
start_point m f d cs x = record { site = first_site m.funcs f; reg = x.reg + length d.params; block = x.block; left = cs }

abbrev pub tables_of : Module → FuncId → Func → List Callee → Start → Tables
tables_of m f d cs x = let at = start_point m f d cs x in record {
  regs = counted x.reg d.params ++ block_regs m.funcs f at d.blocks;
  firsts = firsts m.funcs f at d.blocks;
  lasts = lasts m.funcs f at d.blocks;
}

abbrev pub part_of : Module → Func → Part
part_of m d = record { source = m; func = d }

abbrev pub placed_func : Module → Whole → FuncId → Func → List Callee → Start → List FlatBlock
placed_func m all f d cs x = placed_blocks (part_of m d) f all (tables_of m f d cs x) x.next (start_point m f d cs x) d.blocks

abbrev pub returned_func : Module → Whole → FuncId → Func → List Callee → Start → List Entry
returned_func m all f d cs x = returns_from (part_of m d) f all (tables_of m f d cs x) (start_point m f d cs x) d.blocks

abbrev mutual
  pub placed : Module → Whole → Tree → Start → List FlatBlock
  placed m all (node f w ks) x = option_map_or (λ (d : Func). placed_func m all f d (all_callees m all ks) x) (slice_get m.funcs f.0) []

  pub returned : Module → Whole → Tree → Start → List Entry
  returned m all (node f w ks) x = option_map_or (λ (d : Func). returned_func m all f d (all_callees m all ks) x) (slice_get m.funcs f.0) []

  pub all_callees : Module → Whole → Callees → List Callee
  all_callees m all none = []
  all_callees m all (more s t ks) = record {
    site = s.0;
    params = own_params m (func t);
    regs = regs_of m t;
    blocks = blocks_of m t;
    place = placed m all t;
    returns = returned m all t;
  } ∷ all_callees m all ks

-- a callee of a site, as it stands in the list of them
abbrev pub callee_of : Module → Whole → ℕ → Tree → Callee
callee_of m all s t = record {
  site = s;
  params = own_params m (func t);
  regs = regs_of m t;
  blocks = blocks_of m t;
  place = placed m all t;
  returns = returned m all t;
}

-- the whole body
abbrev pub placed_body : Module → Tree → FlatBody
placed_body m t = record {
  params = own_params m (func t);
  regs = regs_of m t;
  blocks = placed m (record { regs = regs_of m t; blocks = blocks_of m t }) t (record { reg = 0; block = 0; next = None });
}
