-- Modules that break a rule, each at its place.
use Rattle.std.proofs.Common.{◌≡◌, inl, inr, ℕ, ◌+◌, ◌<◌, zero, suc, true, false, List, [], ◌∷◌, codes, Some, None, pos, negsuc, refl, sym, ap, subst, arith}
use Rattle.std.specs.Prelude.{Contains, slice_get, slice_index_or}
use Rattle.oi_base.specs.declared.ids.Place.{Place}
use Rattle.oi_base.specs.declared.words.Width.TheVariants.{W1, W32}
use Rattle.ir_core.specs.declared.ty.IrType.{Int, Ptr}
use Rattle.ir_core.specs.declared.module.Module.{Module}
use Rattle.ir_core.specs.declared.constant.Const as consts
use Rattle.ir_core.specs.declared.op.LocalId.{LocalId}
use Rattle.ir_core.specs.declared.op.Operand.TheVariants as operands
use Rattle.ir_core.specs.declared.op.TypedOperand.{TypedOperand}
use Rattle.ir_core.specs.declared.op.Op.TheVariants.{Bin}
use Rattle.ir_core.specs.declared.op.End.{End}
use Rattle.ir_core.specs.declared.op.End.TheVariants.{Ret, Br, Cond}
use Rattle.ir_core.specs.declared.flat.BinOp.TheVariants.{Add}
use Rattle.ir_core.specs.declared.func.Instr.{Instr}
use Rattle.ir_core.specs.declared.func.Block.{Block}
use Rattle.ir_core.specs.declared.func.Func.{Func}
use Rattle.ir_core.specs.ValidConsts.{meaning, IsWord, IsNull}
use Rattle.ir_core.specs.ValidModule.{BreaksMain, BreaksSymbolTwice, BreaksTarget}
use Rattle.ir_core.specs.ValidFunc.{BreaksNames, BreaksEntry}
use Rattle.ir_core.specs.ValidPaths.{IsPathOf, IsSuccessor, IsBlockOf, Writes, IsAssigned, BreaksAssignment}

-- the place of a line's column
abbrev pub at : ℕ → ℕ → Place
at l c = record { line = l; column = c }

abbrev pub name : ℕ → LocalId
name x = record { 0 = x }

-- a module of these functions, of which the first name after `@` is `main`
abbrev pub of_funcs : List Func → Module
of_funcs fs = record {
  symbols = codes "main" ∷ [];
  types = record { names = []; defs = [] };
  globals = [];
  funcs = fs;
  declared = [];
  layout = None;
  triple = None;
}

-- a block that ends at column 3 of the line after its label
abbrev pub block : ℕ → ℕ → End → Block
block line label end = record { place = at line 1; label = name label; code = []; end = end; end_place = at (line + 1) 3 }

-- `i32 @main()` with these names and blocks
abbrev pub main_of : ℕ → List (List ℕ) → List Block → Func
main_of line locals blocks = record {
  place = at line 1;
  name = record { 0 = 0 };
  internal = false;
  noinline = false;
  result = Int W32;
  params = [];
  locals = locals;
  blocks = blocks;
}

abbrev pub number : TypedOperand
number = record { ty = Int W32; value = operands.Const (consts.Int (pos 7)) }

abbrev pub entry_label : List (List ℕ)
entry_label = codes "entry" ∷ []

-- the empty text
no_main : BreaksMain (of_funcs []) (at 1 1)
no_main = (refl, λ h. let c = h.1.1 in omega (arith, c))

-- two definitions of `main`, on lines 1 and 5
main_twice : BreaksSymbolTwice (of_funcs (main_of 1 entry_label (block 2 0 (Ret (Some number)) ∷ []) ∷ main_of 5 entry_label (block 6 0 (Ret (Some number)) ∷ []) ∷ [])) (at 5 1)
main_twice = (0, 1, record { name = record { 0 = 0 }; place = at 1 1 }, record { name = record { 0 = 0 }; place = at 5 1 }, λ e. omega (arith, e), refl, refl, refl, refl, refl)

-- `target triple = "x86_64"`
another_triple : BreaksTarget (record (of_funcs []) { triple = Some (codes "x86_64") }) (at 1 1)
another_triple = (refl, inr (λ h. let e = h.1 in cc))

-- the blocks of lines 2 and 4 have one label
label_twice : BreaksNames (main_of 1 entry_label (block 2 0 (Br (name 0)) ∷ block 4 0 (Ret (Some number)) ∷ [])) (at 4 1)
label_twice = (0, 1, record { name = name 0; place = at 2 1 }, record { name = name 0; place = at 4 1 }, omega arith, refl, refl, refl, refl)

-- the entry, whose terminator stands on line 3, branches to itself
back_to_entry : BreaksEntry (main_of 1 entry_label (block 2 0 (Br (name 0)) ∷ [])) (at 3 3)
back_to_entry = (block 2 0 (Br (name 0)), refl, (block 2 0 (Br (name 0)), (0, omega arith, refl), refl, (0, omega arith, refl)))

-- `i1 1`, `i1 -1` and `i1 true` are one word
minus_one_bit : meaning [] (Int W1) (operands.Const (consts.Int (negsuc 0))) ≡ IsWord 1
minus_one_bit = refl

true_bit : meaning [] (Int W1) (operands.Const (consts.Bool true)) ≡ IsWord 1
true_bit = refl

undef_pointer : meaning [] Ptr (operands.Const consts.Undef) ≡ IsNull
undef_pointer = refl

-- a branch on `true` to `a` or `b`; `a`, which writes `x` and goes to `b`; and `b`, which returns `x` on line 8
abbrev first : Block
first = block 2 0 (Cond (record { ty = Int W1; value = operands.Const (consts.Bool true) }) (name 1) (name 3))

abbrev second : Block
second = record {
  place = at 4 1;
  label = name 1;
  code = record { place = at 5 3; result = Some (name 2); op = Bin Add (Int W32) number.value number.value } ∷ [];
  end = Br (name 3);
  end_place = at 6 3;
}

abbrev third : Block
third = block 7 3 (Ret (Some (record { ty = Int W32; value = operands.Local (name 2) })))

abbrev branching : Func
branching = main_of 1 (codes "entry" ∷ codes "a" ∷ codes "x" ∷ codes "b" ∷ []) (first ∷ second ∷ third ∷ [])

from_first : (a b : ℕ) → 0 ≡ a → 2 ≡ b → IsSuccessor branching a b
from_first a b e g = subst (λ (c : ℕ). IsSuccessor branching c b) e (subst (λ (c : ℕ). IsSuccessor branching 0 c) g (first, third, refl, refl, (1, omega arith, refl)))

around_a : IsPathOf branching (0 ∷ 2 ∷ [])
around_a = (refl, by_step)
  where
    by_step : (n a b : ℕ) → slice_get (0 ∷ 2 ∷ []) n ≡ Some a → slice_get (0 ∷ 2 ∷ []) (suc n) ≡ Some b → IsSuccessor branching a b
    by_step zero a b h k = let e : 0 ≡ a = cc in let g : 2 ≡ b = cc in from_first a b e g
    by_step (suc n) a b h k = cc

not_written : (l : Block) (n : ℕ) → l.code ≡ [] → Writes l n (name 2) → ⊥
not_written l n e w = let none : slice_get [] w.0 ≡ Some w.1 = subst (λ (code : List Instr). slice_get code w.0 ≡ Some w.1) e w.3 in cc

at_first : (a : ℕ) (l : Block) → Contains (0 ∷ []) a → IsBlockOf branching a l → l.code ≡ []
at_first a l c h = by_place c.0 c.1 c.2
  where
    by_place : (k : ℕ) → k < 1 → slice_index_or (0 ∷ []) k a ≡ a → l.code ≡ []
    by_place zero lt e = let same : Some first ≡ Some l = subst (λ (b : ℕ). IsBlockOf branching b l) (sym e) h in let block : first ≡ l = cc in sym (ap Block.code block)
    by_place (suc k) lt e = absurd (omega arith)

not_assigned : IsAssigned branching (0 ∷ []) 2 0 (name 2) → ⊥
not_assigned (inl q) = let c = q.1.1 in omega (arith, c)
not_assigned (inr (inl w)) = let lt = w.2.2 in omega (arith, lt)
not_assigned (inr (inr w)) = not_written w.1 _ (at_first w.0 w.1 w.2 w.3) w.4

-- the path over the first block and the third passes the definition of `x` by
x_passed_by : BreaksAssignment branching (at 8 3)
x_passed_by = (0 ∷ [], 2, name 2, (0, around_a, inr (inl (third, refl, refl, refl, (0, omega arith, refl))), not_assigned))
