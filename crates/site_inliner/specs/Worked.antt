-- Expanded bodies of small modules, worked out; the expected bodies are those of an independent model.
use Rattle.std.specs.Prelude.{◌≡◌, ℕ, List, [], ◌∷◌, codes, Some, None}
use Rattle.oi_base.specs.declared.ids.RegId.{RegId}
use Rattle.oi_base.specs.declared.ids.BlockId.{BlockId}
use Rattle.oi_base.specs.declared.ids.FuncId.{FuncId}
use Rattle.oi_base.specs.declared.ids.SiteId.{SiteId}
use Rattle.oi_base.specs.declared.words.Width.TheVariants.{W1, W32}
use Rattle.ir_core.specs.declared.flat.BinOp.TheVariants.{Add}
use Rattle.ir_core.specs.declared.flat.Cmp.TheVariants.{Eq}
use Rattle.ir_core.specs.declared.flat.Scalar.TheVariants as scalar
use Rattle.ir_core.specs.declared.flat.FlatOp.{FlatOp}
use Rattle.ir_core.specs.declared.flat.FlatOp.TheVariants.{Reg, Word}
use Rattle.ir_core.specs.declared.flat.Entry.{Entry}
use Rattle.ir_core.specs.declared.flat.Phi.{Phi}
use Rattle.ir_core.specs.declared.flat.FlatInstr.{FlatInstr}
use Rattle.ir_core.specs.declared.flat.FlatInstr.TheVariants.{Bin, Icmp, Copy, Alloca, Load, Store, Call, Put}
use Rattle.ir_core.specs.declared.flat.FlatEnd.{FlatEnd}
use Rattle.ir_core.specs.declared.flat.FlatEnd.TheVariants.{Ret, Br, Cond}
use Rattle.ir_core.specs.declared.flat.FlatBlock.{FlatBlock}
use Rattle.ir_core.specs.declared.flat.FlatBody.{FlatBody}
use Rattle.ir_core.specs.declared.ty.IrType.{Void, Int}
use Rattle.ir_core.specs.declared.op.LocalId.{LocalId}
use Rattle.ir_core.specs.declared.op.Op.TheVariants as ops
use Rattle.ir_core.specs.declared.op.End.{End}
use Rattle.ir_core.specs.declared.op.End.TheVariants as ends
use Rattle.ir_core.specs.declared.func.Func.{Func}
use Rattle.ir_core.specs.declared.module.Module.{Module}
use Rattle.ir_core.specs.SourceExamples.{reg, number, the, sets, does, block, returns, from, function, call, load, store}
use Rattle.shapes.specs.Tree.{Tree, node, none, more}
use Rattle.site_inliner.specs.Flat.{flat}
use Rattle.site_inliner.specs.Expanded.{expanded}
use Rattle.site_inliner.specs.Placed.{placed_body}

-- ---- words

abbrev pub label : ℕ → LocalId
label n = record { 0 = n }

abbrev pub goes_to : ℕ → End
goes_to n = ends.Br (label n)

abbrev pub r : ℕ → RegId
r n = record { 0 = n }

abbrev pub b : ℕ → BlockId
b n = record { 0 = n }

abbrev pub fn : ℕ → FuncId
fn n = record { 0 = n }

abbrev pub site : ℕ → SiteId
site n = record { 0 = n }

abbrev pub entry : ℕ → FlatOp → Entry
entry n v = record { from = b n; value = v }

abbrev pub flat_block : List Phi → List FlatInstr → FlatEnd → FlatBlock
flat_block phis code end = record { phis = phis; code = code; end = end }

abbrev pub module_of : List (List ℕ) → List Func → Module
module_of symbols funcs = record { symbols = symbols; types = record { names = []; defs = [] }; globals = []; funcs = funcs; declared = []; layout = None; triple = None }

-- ---- modules

-- `main` returns what `f` gives for 6, and `f` adds 1
abbrev pub once : Module
once = module_of (codes "main" ∷ codes "f" ∷ codes "putchar" ∷ codes "getchar" ∷ codes "exit" ∷ [])
    (
    function 0 (Int W32) []
    (
    block 0 (sets 1 (call (Int W32) 1 ((the (Int W32) (number 6)) ∷ [])) ∷ []) (returns (reg 1)) ∷ []) ∷
    function 1 (Int W32) (record { ty = (Int W32); name = label 0 } ∷ [])
    (
    block 1 (sets 2 (ops.Bin Add (Int W32) (reg 0) (number 1)) ∷ []) (returns (reg 2)) ∷ []) ∷ [])

-- `main` calls `f` in a loop, with the phi that counts, and `f` keeps its parameter in memory
abbrev pub looping : Module
looping = module_of (codes "main" ∷ codes "f" ∷ codes "putchar" ∷ codes "getchar" ∷ codes "exit" ∷ [])
    (
    function 0 (Int W32) []
    (
    block 0 [] (goes_to 1) ∷
    block 1 (sets 2 (ops.Phi (Int W32) (from 0 (number 0) ∷ from 1 (reg 3) ∷ [])) ∷ sets 4 (call (Int W32) 1 ((the (Int W32) (reg 2)) ∷ [])) ∷ sets 3 (ops.Bin Add (Int W32) (reg 2) (number 1)) ∷ sets 5 (ops.Icmp Eq (Int W32) (reg 3) (number 3)) ∷ []) (ends.Cond (the (Int W1) (reg 5)) (label 6) (label 1)) ∷
    block 6 [] (returns (reg 4)) ∷ []) ∷
    function 1 (Int W32) (record { ty = (Int W32); name = label 0 } ∷ [])
    (
    block 1 (sets 2 (ops.Alloca (Int W32) None None) ∷ does (store (Int W32) (reg 0) (reg 2)) ∷ sets 3 (load (Int W32) (reg 2)) ∷ []) (returns (reg 3)) ∷ []) ∷ [])

-- `main` calls `f` twice, the second time after a test, and `f` returns at two places
abbrev pub choosing : Module
choosing = module_of (codes "main" ∷ codes "f" ∷ codes "putchar" ∷ codes "getchar" ∷ codes "exit" ∷ [])
    (
    function 0 (Int W32) []
    (
    block 0 (sets 1 (call (Int W32) 1 ((the (Int W32) (number 3)) ∷ [])) ∷ sets 2 (ops.Icmp Eq (Int W32) (reg 1) (number 3)) ∷ []) (ends.Cond (the (Int W1) (reg 2)) (label 3) (label 4)) ∷
    block 3 (sets 5 (call (Int W32) 1 ((the (Int W32) (reg 1)) ∷ [])) ∷ []) (goes_to 4) ∷
    block 4 (sets 6 (ops.Phi (Int W32) (from 0 (number 7) ∷ from 3 (reg 5) ∷ [])) ∷ []) (returns (reg 6)) ∷ []) ∷
    function 1 (Int W32) (record { ty = (Int W32); name = label 0 } ∷ [])
    (
    block 1 (sets 2 (ops.Icmp Eq (Int W32) (reg 0) (number 3)) ∷ []) (ends.Cond (the (Int W1) (reg 2)) (label 3) (label 4)) ∷
    block 3 [] (returns (reg 0)) ∷
    block 4 (sets 5 (ops.Bin Add (Int W32) (reg 0) (number 1)) ∷ []) (returns (reg 5)) ∷ []) ∷ [])

-- `main` calls `a`, `a` and `b`, and `b` calls `c` twice; `a` and `c` put a byte
abbrev pub nested : Module
nested = module_of (codes "main" ∷ codes "a" ∷ codes "b" ∷ codes "putchar" ∷ codes "c" ∷ codes "getchar" ∷ codes "exit" ∷ [])
    (
    function 0 (Int W32) []
    (
    block 0 (does (call Void 1 []) ∷ does (call Void 1 []) ∷ does (call Void 2 []) ∷ []) (returns (number 0)) ∷ []) ∷
    function 1 Void []
    (
    block 0 (sets 1 (call (Int W32) 3 ((the (Int W32) (number 65)) ∷ [])) ∷ []) (ends.Ret None) ∷ []) ∷
    function 2 Void []
    (
    block 0 (does (call Void 4 []) ∷ does (call Void 4 []) ∷ []) (ends.Ret None) ∷ []) ∷
    function 4 Void []
    (
    block 0 (sets 1 (call (Int W32) 3 ((the (Int W32) (number 65)) ∷ [])) ∷ []) (ends.Ret None) ∷ []) ∷ [])

-- ---- bodies

-- by call strings, one call replaced after another, and by where bodies lie in it
pub record IsBody (m : Module) (t : Tree) (body : FlatBody) : Type 0 where
  pub by_strings : flat m t ≡ Some body
  pub by_calls : expanded m t ≡ Some body
  pub by_places : placed_body m t ≡ body

pub record WorkedBodies : Type 0 where
  pub once_inlined : IsBody once (node (fn 0) 0 (more (site 1) (node (fn 1) 0 none) none)) ((record {
    params = 0;
    regs = 3;
    blocks = (
        flat_block [] (Copy (r 0) (Word 6) ∷ []) (Br (b 1)) ∷
        flat_block [] (Bin (r 1) Add W32 (Reg (r 0)) (Word 1) ∷ []) (Br (b 2)) ∷
        flat_block (record { reg = r 2; entries = (entry 1 (Reg (r 1)) ∷ []) } ∷ []) [] (Ret (Some (Reg (r 2)))) ∷ []);
  }))
  pub looping_inlined : IsBody looping (node (fn 0) 0 (more (site 1) (node (fn 1) 0 none) none)) ((record {
    params = 0;
    regs = 7;
    blocks = (
        flat_block [] [] (Br (b 1)) ∷
        flat_block (record { reg = r 0; entries = (entry 0 (Word 0) ∷ entry 3 (Reg (r 5)) ∷ []) } ∷ []) (Copy (r 1) (Reg (r 0)) ∷ []) (Br (b 2)) ∷
        flat_block [] (Alloca (r 2) 4 4 ∷ Store (scalar.Word W32) 4 (Reg (r 1)) (Reg (r 2)) ∷ Load (r 3) (scalar.Word W32) 4 (Reg (r 2)) ∷ []) (Br (b 3)) ∷
        flat_block (record { reg = r 4; entries = (entry 2 (Reg (r 3)) ∷ []) } ∷ []) (Bin (r 5) Add W32 (Reg (r 0)) (Word 1) ∷ Icmp (r 6) Eq (scalar.Word W32) (Reg (r 5)) (Word 3) ∷ []) (Cond (Reg (r 6)) (b 4) (b 1)) ∷
        flat_block [] [] (Ret (Some (Reg (r 4)))) ∷ []);
  }))
  pub choosing_inlined : IsBody choosing (node (fn 0) 0 (more (site 1) (node (fn 1) 0 none) (more (site 2) (node (fn 1) 0 none) none))) ((record {
    params = 0;
    regs = 10;
    blocks = (
        flat_block [] (Copy (r 0) (Word 3) ∷ []) (Br (b 1)) ∷
        flat_block [] (Icmp (r 1) Eq (scalar.Word W32) (Reg (r 0)) (Word 3) ∷ []) (Cond (Reg (r 1)) (b 2) (b 3)) ∷
        flat_block [] [] (Br (b 4)) ∷
        flat_block [] (Bin (r 2) Add W32 (Reg (r 0)) (Word 1) ∷ []) (Br (b 4)) ∷
        flat_block (record { reg = r 3; entries = (entry 2 (Reg (r 0)) ∷ entry 3 (Reg (r 2)) ∷ []) } ∷ []) (Icmp (r 4) Eq (scalar.Word W32) (Reg (r 3)) (Word 3) ∷ []) (Cond (Reg (r 4)) (b 5) (b 10)) ∷
        flat_block [] (Copy (r 5) (Reg (r 3)) ∷ []) (Br (b 6)) ∷
        flat_block [] (Icmp (r 6) Eq (scalar.Word W32) (Reg (r 5)) (Word 3) ∷ []) (Cond (Reg (r 6)) (b 7) (b 8)) ∷
        flat_block [] [] (Br (b 9)) ∷
        flat_block [] (Bin (r 7) Add W32 (Reg (r 5)) (Word 1) ∷ []) (Br (b 9)) ∷
        flat_block (record { reg = r 8; entries = (entry 7 (Reg (r 5)) ∷ entry 8 (Reg (r 7)) ∷ []) } ∷ []) [] (Br (b 10)) ∷
        flat_block (record { reg = r 9; entries = (entry 4 (Word 7) ∷ entry 9 (Reg (r 8)) ∷ []) } ∷ []) [] (Ret (Some (Reg (r 9)))) ∷ []);
  }))
  pub choosing_second : IsBody choosing (node (fn 0) 0 (more (site 2) (node (fn 1) 0 none) none)) ((record {
    params = 0;
    regs = 7;
    blocks = (
        flat_block [] (Call (Some (r 0)) (fn 1) ((Word 3) ∷ []) ∷ Icmp (r 1) Eq (scalar.Word W32) (Reg (r 0)) (Word 3) ∷ []) (Cond (Reg (r 1)) (b 1) (b 6)) ∷
        flat_block [] (Copy (r 2) (Reg (r 0)) ∷ []) (Br (b 2)) ∷
        flat_block [] (Icmp (r 3) Eq (scalar.Word W32) (Reg (r 2)) (Word 3) ∷ []) (Cond (Reg (r 3)) (b 3) (b 4)) ∷
        flat_block [] [] (Br (b 5)) ∷
        flat_block [] (Bin (r 4) Add W32 (Reg (r 2)) (Word 1) ∷ []) (Br (b 5)) ∷
        flat_block (record { reg = r 5; entries = (entry 3 (Reg (r 2)) ∷ entry 4 (Reg (r 4)) ∷ []) } ∷ []) [] (Br (b 6)) ∷
        flat_block (record { reg = r 6; entries = (entry 0 (Word 7) ∷ entry 5 (Reg (r 5)) ∷ []) } ∷ []) [] (Ret (Some (Reg (r 6)))) ∷ []);
  }))
  pub nested_all_inlined : IsBody nested (node (fn 0) 0 (more (site 1) (node (fn 1) 0 none) (more (site 2) (node (fn 1) 0 none) (more (site 3) (node (fn 2) 0 (more (site 4) (node (fn 3) 0 none) (more (site 5) (node (fn 3) 0 none) none))) none)))) ((record {
    params = 0;
    regs = 4;
    blocks = (
        flat_block [] [] (Br (b 1)) ∷
        flat_block [] (Put (Some (r 0)) (Word 65) ∷ []) (Br (b 2)) ∷
        flat_block [] [] (Br (b 3)) ∷
        flat_block [] (Put (Some (r 1)) (Word 65) ∷ []) (Br (b 4)) ∷
        flat_block [] [] (Br (b 5)) ∷
        flat_block [] [] (Br (b 6)) ∷
        flat_block [] (Put (Some (r 2)) (Word 65) ∷ []) (Br (b 7)) ∷
        flat_block [] [] (Br (b 8)) ∷
        flat_block [] (Put (Some (r 3)) (Word 65) ∷ []) (Br (b 9)) ∷
        flat_block [] [] (Br (b 10)) ∷
        flat_block [] [] (Ret (Some (Word 0))) ∷ []);
  }))
  pub nested_some_inlined : IsBody nested (node (fn 0) 0 (more (site 2) (node (fn 1) 0 none) (more (site 3) (node (fn 2) 0 (more (site 5) (node (fn 3) 0 none) none)) none))) ((record {
    params = 0;
    regs = 2;
    blocks = (
        flat_block [] (Call None (fn 1) [] ∷ []) (Br (b 1)) ∷
        flat_block [] (Put (Some (r 0)) (Word 65) ∷ []) (Br (b 2)) ∷
        flat_block [] [] (Br (b 3)) ∷
        flat_block [] (Call None (fn 3) [] ∷ []) (Br (b 4)) ∷
        flat_block [] (Put (Some (r 1)) (Word 65) ∷ []) (Br (b 5)) ∷
        flat_block [] [] (Br (b 6)) ∷
        flat_block [] [] (Ret (Some (Word 0))) ∷ []);
  }))
  pub nested_second_of_b : IsBody nested (node (fn 2) 0 (more (site 5) (node (fn 3) 0 none) none)) ((record {
    params = 0;
    regs = 1;
    blocks = (
        flat_block [] (Call None (fn 3) [] ∷ []) (Br (b 1)) ∷
        flat_block [] (Put (Some (r 0)) (Word 65) ∷ []) (Br (b 2)) ∷
        flat_block [] [] (Ret None) ∷ []);
  }))
