-- The calls of functions that a module defines are no more than its call sites.
use Rattle.std.proofs.Common.{◌≡◌, ℕ, ◌+◌, ◌≤◌, Bool, true, false, cond, List, [], ◌∷◌, ◌++◌, length, refl, ap, ◌∙◌, arith}
use Rattle.std.specs.Prelude.{Option, Some, None, filter, ◌==◌, ◌||◌}
use Rattle.std.specs.List.{flat_map, filter_map, cons_option, position_from, list_any}
use Rattle.std.proofs.lemmas.Grind.{flat_map-append}
use Rattle.std.proofs.lemmas.List.{length-append}
use Rattle.std.proofs.lemmas.List.Elements.{filter-append}
use Rattle.oi_base.specs.declared.ids.FuncId.{FuncId}
use Rattle.ir_core.specs.declared.module.SymId.{SymId}
use Rattle.ir_core.specs.declared.module.Module.{Module}
use Rattle.ir_core.specs.declared.op.Op.{Op}
use Rattle.ir_core.specs.declared.op.Op.TheVariants as ops
use Rattle.ir_core.specs.declared.func.Instr.{Instr}
use Rattle.ir_core.specs.declared.func.Block.{Block}
use Rattle.ir_core.specs.declared.func.Func.{Func}
use Rattle.ir_core.specs.Parts.{op_callee, instrs, is_defined, sites}
use Rattle.call_graph.specs.Sites.{is_named, site_of, block_sites, func_sites, sites_from, all_sites}

-- where a function has the name, it is found
found : (s : SymId) (fs : List Func) (i : ℕ) → list_any (λ (f : Func). f.name.0 == s.0) fs ≡ true → (k : ℕ) × (position_from (is_named s) i fs ≡ Some k)
found s [] i h = absurd cc
found s (f ∷ fs) i h = by (f.name.0 == s.0) refl h (λ more. found s fs (i + 1) more)
  where
    by : (c : Bool) → (f.name.0 == s.0) ≡ c → (c || list_any (λ (g : Func). g.name.0 == s.0) fs) ≡ true → (list_any (λ (g : Func). g.name.0 == s.0) fs ≡ true → (k : ℕ) × (position_from (is_named s) (i + 1) fs ≡ Some k)) → (k : ℕ) × (position_from (is_named s) i (f ∷ fs) ≡ Some k)
    by true e k go = (i, rw e refl)
    by false e k go = let x = go k in (x.0, rw e x.1)

filter_count : {A : Type 0} (p : A → Bool) (xs ys : List A) → length (filter p (xs ++ ys)) ≡ length (filter p xs) + length (filter p ys)
filter_count p xs ys = ap (λ zs. length zs) (filter-append p xs ys) ∙ length-append (filter p xs) (filter p ys)

cons_count : {A : Type 0} (o : Option A) (xs : List A) → length (cons_option o xs) ≡ length (cons_option o []) + length xs
cons_count None xs = omega arith
cons_count (Some s) xs = omega arith

module _ (m : Module) where
  abbrev called : Instr → List SymId
  called i = op_callee i.op

  of_op : (caller : FuncId) (i : Instr) (o : Op) → length (filter (is_defined m) (op_callee o)) ≤ length (cons_option (site_of m.funcs caller (record i { op = o })) [])
  of_op caller i (ops.Bin op t a b) = omega arith
  of_op caller i (ops.Icmp c t a b) = omega arith
  of_op caller i (ops.Select c a b) = omega arith
  of_op caller i (ops.Cast c a t) = omega arith
  of_op caller i (ops.Alloca t n align) = omega arith
  of_op caller i (ops.Load t a align) = omega arith
  of_op caller i (ops.Store a p align) = omega arith
  of_op caller i (ops.Gep t a is) = omega arith
  of_op caller i (ops.Phi t es) = omega arith
  of_op caller i (ops.Call t x args) = by (is_defined m x) refl
    where
      by : (c : Bool) → is_defined m x ≡ c → length (cond c (x ∷ []) []) ≤ length (cons_option (site_of m.funcs caller (record i { op = ops.Call t x args })) [])
      by true e = let y = found x m.funcs 0 e in rw y.1 (omega arith)
      by false e = omega arith

  code_count : (caller : FuncId) (code : List Instr) → length (filter (is_defined m) (flat_map called code)) ≤ length (filter_map (site_of m.funcs caller) code)
  code_count caller [] = omega arith
  code_count caller (i ∷ is) =
      let one = of_op caller i i.op in
      let rest = code_count caller is in
      let split = filter_count (is_defined m) (called i) (flat_map called is) in
      let parts = cons_count (site_of m.funcs caller i) (filter_map (site_of m.funcs caller) is) in
      omega (arith, one, rest, split, parts)

  block_count : (caller : FuncId) (bs : List Block) → length (filter (is_defined m) (flat_map called (flat_map (λ (b : Block). b.code) bs))) ≤ length (flat_map (block_sites m.funcs caller) bs)
  block_count caller [] = omega arith
  block_count caller (b ∷ bs) =
      let one = code_count caller b.code in
      let rest = block_count caller bs in
      let joins = ap (λ xs. length (filter (is_defined m) xs)) (flat_map-append called b.code (flat_map (λ (b : Block). b.code) bs)) in
      let split = filter_count (is_defined m) (flat_map called b.code) (flat_map called (flat_map (λ (b : Block). b.code) bs)) in
      let parts = length-append (block_sites m.funcs caller b) (flat_map (block_sites m.funcs caller) bs) in
      omega (arith, one, rest, joins, split, parts)

  abbrev calls_in : Func → List SymId
  calls_in f = flat_map called (instrs f)

  from_count : (n : ℕ) (fs : List Func) → length (filter (is_defined m) (flat_map calls_in fs)) ≤ length (sites_from m.funcs n fs)
  from_count n [] = omega arith
  from_count n (f ∷ fs) =
      let one = block_count (record { 0 = n }) f.blocks in
      let rest = from_count (n + 1) fs in
      let split = filter_count (is_defined m) (calls_in f) (flat_map calls_in fs) in
      let parts = length-append (func_sites m.funcs (record { 0 = n }) f) (sites_from m.funcs (n + 1) fs) in
      omega (arith, one, rest, split, parts)

  pub no_more_sites : length (sites m) ≤ length (all_sites m.funcs)
  no_more_sites = from_count 0 m.funcs
