-- Modules that are the same but for places have as many call sites.
use Rattle.std.proofs.Common.{◌≡◌, ℕ, ◌+◌, arith, refl, sym, ap, ap₂, ◌∙◌, Bool, true, false, List, [], ◌∷◌, ◌++◌, map, length, length-append, Option, Some, None, cond}
use Rattle.std.specs.Prelude.{is_some}
use Rattle.std.specs.List.{flat_map, filter_map, cons_option, position_from}
use Rattle.std.specs.Option.{option_map}
use Rattle.oi_base.specs.declared.ids.FuncId.{FuncId}
use Rattle.ir_core.specs.declared.module.SymId.{SymId}
use Rattle.ir_core.specs.declared.module.Module as modules
use Rattle.ir_core.specs.declared.op.Op.{Op}
use Rattle.ir_core.specs.declared.op.Op.TheVariants as ops
use Rattle.ir_core.specs.declared.func.Instr.{Instr}
use Rattle.ir_core.specs.declared.func.Block.{Block}
use Rattle.ir_core.specs.declared.func.Func.{Func}
use Rattle.ir_core.specs.Places.{unplaced_instr, unplaced_block, unplaced_func, unplaced, AreSameButForPlaces}
use Rattle.call_graph.specs.declared.sites.Site.{Site}
use Rattle.call_graph.specs.Sites.{is_named, func_id, site_of, block_sites, func_sites, sites_from, all_sites}

-- ---- lists of what there is

one_if : Bool → ℕ
one_if true = 1
one_if false = 0

with_one : {A : Type 0} (o : Option A) (xs : List A) → length (cons_option o xs) ≡ one_if (is_some o) + length xs
unfolding one_if
with_one None xs = omega arith
with_one (Some x) xs = omega arith

some_mapped : {A B : Type 0} (f : A → B) (o : Option A) → is_some (option_map f o) ≡ is_some o
some_mapped f None = refl
some_mapped f (Some x) = refl

made_alike : {A B C D : Type 0} (f : A → Option B) (g : C → Option D) (h : A → C) → ((x : A) → is_some (f x) ≡ is_some (g (h x))) → (xs : List A) → length (filter_map f xs) ≡ length (filter_map g (map h xs))
made_alike f g h same [] = refl
made_alike f g h same (x ∷ xs) =
    with_one (f x) (filter_map f xs) ∙ ap₂ (λ (b : Bool) (n : ℕ). one_if b + n) (same x) (made_alike f g h same xs) ∙ sym (with_one (g (h x)) (filter_map g (map h xs)))

parts_alike : {A B C D : Type 0} (f : A → List B) (g : C → List D) (h : A → C) → ((x : A) → length (f x) ≡ length (g (h x))) → (xs : List A) → length (flat_map f xs) ≡ length (flat_map g (map h xs))
parts_alike f g h same [] = refl
parts_alike f g h same (x ∷ xs) =
    length-append (f x) (flat_map f xs) ∙ ap₂ (λ (a b : ℕ). a + b) (same x) (parts_alike f g h same xs) ∙ sym (length-append (g (h x)) (flat_map g (map h xs)))

-- ---- functions by their names

placed_alike : (s : SymId) (n : ℕ) (fs : List Func) → position_from (is_named s) n fs ≡ position_from (is_named s) n (map unplaced_func fs)
placed_alike s n [] = refl
placed_alike s n (f ∷ fs) = ap (cond (is_named s f) (Some n)) (placed_alike s (n + 1) fs)

func_alike : (fs : List Func) (s : SymId) → func_id fs s ≡ func_id (map unplaced_func fs) s
func_alike fs s = ap (option_map (λ (n : ℕ). record { 0 = n })) (placed_alike s 0 fs)

-- ---- sites

-- whether an operation is a call of a function that is defined
calls : List Func → Op → Bool
calls fs (ops.Call t s args) = is_some (func_id fs s)
calls fs _ = false

is_site : (fs : List Func) (caller : FuncId) (i : Instr) → is_some (site_of fs caller i) ≡ calls fs i.op
unfolding calls
is_site fs caller i = by_op i.op
  where
    by_op : (op : Op) → is_some (site_of fs caller (record i { op = op })) ≡ calls fs op
    by_op (ops.Call t s args) = some_mapped _ (func_id fs s)
    by_op (ops.Bin kind t a b) = refl
    by_op (ops.Icmp c t a b) = refl
    by_op (ops.Select c a b) = refl
    by_op (ops.Cast c a t) = refl
    by_op (ops.Alloca t count align) = refl
    by_op (ops.Load t a align) = refl
    by_op (ops.Store a p align) = refl
    by_op (ops.Gep t a is) = refl
    by_op (ops.Phi t es) = refl

calls_alike : (fs : List Func) (op : Op) → calls fs op ≡ calls (map unplaced_func fs) op
unfolding calls
calls_alike fs (ops.Call t s args) = ap (λ (o : Option FuncId). is_some o) (func_alike fs s)
calls_alike fs (ops.Bin kind t a b) = refl
calls_alike fs (ops.Icmp c t a b) = refl
calls_alike fs (ops.Select c a b) = refl
calls_alike fs (ops.Cast c a t) = refl
calls_alike fs (ops.Alloca t count align) = refl
calls_alike fs (ops.Load t a align) = refl
calls_alike fs (ops.Store a p align) = refl
calls_alike fs (ops.Gep t a is) = refl
calls_alike fs (ops.Phi t es) = refl

module _ (fs : List Func) where
  abbrev gs : List Func
  gs = map unplaced_func fs

  block_alike : (caller : FuncId) (b : Block) → length (block_sites fs caller b) ≡ length (block_sites gs caller (unplaced_block b))
  block_alike caller b = made_alike (site_of fs caller) (site_of gs caller) unplaced_instr (λ i. is_site fs caller i ∙ calls_alike fs i.op ∙ sym (is_site gs caller (unplaced_instr i))) b.code

  func_sites_alike : (caller : FuncId) (f : Func) → length (func_sites fs caller f) ≡ length (func_sites gs caller (unplaced_func f))
  func_sites_alike caller f = parts_alike (block_sites fs caller) (block_sites gs caller) unplaced_block (block_alike caller) f.blocks

  from_alike : (n : ℕ) (hs : List Func) → length (sites_from fs n hs) ≡ length (sites_from gs n (map unplaced_func hs))
  from_alike n [] = refl
  from_alike n (f ∷ hs) =
      length-append (func_sites fs (record { 0 = n }) f) (sites_from fs (n + 1) hs) ∙ ap₂ (λ (a b : ℕ). a + b) (func_sites_alike (record { 0 = n }) f) (from_alike (n + 1) hs)
      ∙ sym (length-append (func_sites gs (record { 0 = n }) (unplaced_func f)) (sites_from gs (n + 1) (map unplaced_func hs)))

pub as_many_sites : (m n : modules.Module) → AreSameButForPlaces m n → length (all_sites m.funcs) ≡ length (all_sites n.funcs)
as_many_sites m n same =
    from_alike m.funcs 0 m.funcs ∙ ap (λ (x : modules.Module). length (all_sites x.funcs)) same ∙ sym (from_alike n.funcs 0 n.funcs)
