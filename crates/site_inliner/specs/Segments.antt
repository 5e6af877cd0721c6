-- The blocks of a function in which calls give way to the bodies of their callees, spelled out by call strings. The empty
-- string stands for the function itself; a string followed by an inlined site of the function to which it leads is a string.
-- Inlined sites cut a block into segments, and a block of the expanded body is a string, a block and a segment of it.
use Rattle.std.specs.Prelude.{ℕ, suc, ◌+◌, ◌==◌, if◌then◌else◌, List, [], ◌∷◌, ◌++◌, length, map, take, slice_get, Option, Some, None}
use Rattle.std.specs.Option.{option_map_or}
use Rattle.oi_base.specs.declared.ids.FuncId.{FuncId}
use Rattle.ir_core.specs.declared.op.LocalId.{LocalId}
use Rattle.ir_core.specs.declared.op.TypedOperand.{TypedOperand}
use Rattle.ir_core.specs.declared.op.Op.{Op}
use Rattle.ir_core.specs.declared.op.Op.TheVariants.{Call}
use Rattle.ir_core.specs.declared.op.End.{End}
use Rattle.ir_core.specs.declared.func.Instr.{Instr}
use Rattle.ir_core.specs.declared.func.Block.{Block}
use Rattle.ir_core.specs.declared.func.Func.{Func}
use Rattle.ir_core.specs.declared.module.Module.{Module}
use Rattle.call_graph.specs.declared.sites.Site.{Site}
use Rattle.call_graph.specs.Sites.{site_of, block_sites, sites_from}
use Rattle.shapes.specs.Tree.{Tree, node, Callees, none, more, func}

-- ---- names

-- the numbers of sites, the first of them in the function itself
abbrev pub CallString : Type 0
CallString = List ℕ

-- a segment of a block, by the block's label, in the function to which a string leads
pub record Triple : Type 0 where
  pub string : CallString
  pub block : ℕ
  pub segment : ℕ

-- a register of the function to which a string leads
pub record Pair : Type 0 where
  pub string : CallString
  pub reg : ℕ

abbrev pub within : ℕ → Triple → Triple
within s t = record { string = s ∷ t.string; block = t.block; segment = t.segment }

-- ---- segments

-- a segment begins where its block does, or after an inlined call, whose result it takes
pub data Begin : Type 0 where
  AtBlock : Begin
  AfterCall : (site : ℕ) (callee : Func) (result : Option LocalId) → Begin

-- it ends as its block does, or at an inlined call
pub data Finish : Type 0 where
  AtEnd : (end : End) → Finish
  AtCall : (site : ℕ) (callee : Func) (args : List TypedOperand) → Finish

-- a segment, and where the returns of its function lead, which of the function itself is nowhere
pub record Segment : Type 0 where
  pub name : Triple
  pub returns_to : Option Triple
  pub begin : Begin
  pub code : List Instr
  pub finish : Finish

-- a segment of a callee in its caller, where the call's site has this number and `next` is the segment after the call
abbrev pub under : ℕ → Triple → Segment → Segment
under s next g = record {
  name = within s g.name;
  returns_to = Some (option_map_or (within s) g.returns_to next);
  begin = g.begin;
  code = g.code;
  finish = g.finish;
}

-- a callee that is inlined: the number of the site, the function, and its segments
pub record Inlined : Type 0 where
  pub site : ℕ
  pub callee : Func
  pub segments : List Segment

abbrev pub inlined_at : List Inlined → ℕ → Option Inlined
inlined_at [] s = None
inlined_at (i ∷ is) s = if i.site == s then Some i else inlined_at is s

abbrev pub arguments : Op → List TypedOperand
arguments (Call t s args) = args
arguments _ = []

-- the segments of a block with one more instruction before them
abbrev pub after : Instr → List Segment → List Segment
after i [] = []
after i (g ∷ gs) = record { name = g.name; returns_to = g.returns_to; begin = g.begin; code = i ∷ g.code; finish = g.finish } ∷ gs

module _ (funcs : List Func) (caller : FuncId) (inlines : List Inlined) where
  abbrev pub segment : ℕ → ℕ → Triple
  segment x k = record { string = []; block = x; segment = k }

  -- the number of the next site after an instruction
  abbrev pub next_site : ℕ → Option Site → ℕ
  next_site n None = n
  next_site n (Some s) = suc n

  abbrev pub inlined_here : ℕ → Option Site → Option Inlined
  inlined_here n None = None
  inlined_here n (Some s) = inlined_at inlines n

  -- the rest of block x from an instruction on, which stands in its segment k: where its call gives way to a callee, the segment
  -- ends there, and the callee's segments come before the next one; `rest` has those after the instruction
  abbrev pub from_instr : ℕ → ℕ → Begin → ℕ → Instr → (ℕ → Begin → List Segment) → Option Inlined → List Segment
  from_instr x k begin n i rest None = after i (rest k begin)
  from_instr x k begin n i rest (Some c) =
      record { name = segment x k; returns_to = None; begin = begin; code = []; finish = AtCall n c.callee (arguments i.op) }
      ∷ (map (under n (segment x (suc k))) c.segments ++ rest (suc k) (AfterCall n c.callee i.result))

  -- the rest of block x from its segment k on, which begins so, where the next site has the number n
  abbrev pub rest_of : ℕ → End → ℕ → Begin → ℕ → List Instr → List Segment
  rest_of x end k begin n [] = record { name = segment x k; returns_to = None; begin = begin; code = []; finish = AtEnd end } ∷ []
  rest_of x end k begin n (i ∷ is) = from_instr x k begin n i (λ k begin. rest_of x end k begin (next_site n (site_of funcs caller i)) is) (inlined_here n (site_of funcs caller i))

  -- the segments of blocks of which the first site has the number n
  abbrev pub of_blocks : ℕ → List Block → List Segment
  of_blocks n [] = []
  of_blocks n (b ∷ bs) = rest_of b.label.0 b.end 0 AtBlock n b.code ++ of_blocks (n + length (block_sites funcs caller b)) bs

-- the number of the first site of a function or of one after it
abbrev pub first_site : List Func → FuncId → ℕ
first_site funcs f = suc (length (sites_from funcs 0 (take f.0 funcs)))

-- the segments of a tree's function, in textual order: a segment, then those of the callee that is inlined there, then the next
abbrev pub of_func : Module → FuncId → List Inlined → List Segment
of_func m f inlines = option_map_or (λ (d : Func). of_blocks m.funcs f inlines (first_site m.funcs f) d.blocks) (slice_get m.funcs f.0) []

abbrev pub with_callee : ℕ → List Segment → Option Func → List Inlined → List Inlined
with_callee s gs None is = is
with_callee s gs (Some d) is = record { site = s; callee = d; segments = gs } ∷ is

abbrev mutual
  pub segments : Module → Tree → List Segment
  segments m (node f w ks) = of_func m f (all_inlined m ks)

  pub all_inlined : Module → Callees → List Inlined
  all_inlined m none = []
  all_inlined m (more s t ks) = with_callee s.0 (segments m t) (slice_get m.funcs (func t).0) (all_inlined m ks)
