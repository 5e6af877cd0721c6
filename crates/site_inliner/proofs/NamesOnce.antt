-- No name of a module or a function stands twice among its numbers, and where a name stands among them.
use Rattle.std.proofs.Common.{◌≡◌, ◌≢◌, ℕ, zero, suc, ◌+◌, ◌<◌, ◌==◌, ◌||◌, Bool, not, cond, nat_eq, List, [], ◌∷◌, ◌++◌, map, length, Option, Some, None, slice_get, refl, sym, ap, ◌∙◌, subst, arith}
use Rattle.std.specs.List.{flat_map, filter_map, cons_option, list_any, position_or_len}
use Rattle.std.specs.Option.{option_map}
use Rattle.std.proofs.lemmas.Bool.Decides.{nat_tests}
use Rattle.std.proofs.lemmas.List.{map-append, length-append, length-map}
use Rattle.std.proofs.lemmas.Option.{slice_get-map}
use Rattle.ir_core.specs.declared.module.Module.{Module}
use Rattle.ir_core.specs.declared.module.GlobalVar.{GlobalVar}
use Rattle.ir_core.specs.declared.module.Declaration.{Declaration}
use Rattle.ir_core.specs.declared.module.SymId.{SymId}
use Rattle.ir_core.specs.declared.op.LocalId.{LocalId}
use Rattle.ir_core.specs.declared.func.Instr.{Instr}
use Rattle.ir_core.specs.declared.func.Block.{Block}
use Rattle.ir_core.specs.declared.func.Func.{Func}
use Rattle.ir_core.specs.declared.func.Param.{Param}
use Rattle.ir_core.specs.Plain.{results, registers, is_local}
use Rattle.ir_core.specs.Source.{is_labelled}
use Rattle.ir_core.specs.Parts.{is_defined}
use Rattle.ir_core.specs.Instructions.{func_number as function_number, is_named}
use Rattle.ir_core.specs.Constants.{global_number as global_position, is_global}
use Rattle.ir_core.specs.Valid.{IsValid, IsValidFunc}
use Rattle.ir_core.specs.ValidModule.{Introduced, introduced, introduced_globals, introduced_funcs}
use Rattle.ir_core.proofs.Lists.{Apart, all_at, each_of, has_at, apart_mapped, mapped_parts}
use Rattle.module_rules.specs.Faults.{numbers_of, global_number}
use Rattle.module_rules.proofs.Distinct.{IsDistinct, distinct_numbers, at_in_first, at_in_next}
use Rattle.ir_safety.proofs.Elements.{mapped_twice}
use Rattle.ir_safety.proofs.Named.{introduced_once, same_symbol}
use Rattle.ir_safety.proofs.Once.{registers_once, labels_once}
use Rattle.site_inliner.specs.Parts.{result_number, result_numbers, block_numbers, param_number, register_numbers, label_number, func_number, Part, reg_in, block_in}
use Rattle.oi_base.specs.declared.ids.RegId.{RegId}
use Rattle.oi_base.specs.declared.ids.BlockId.{BlockId}

-- ---- no number stands twice

one_place : (x n : ℕ) (xs : List ℕ) (j : ℕ) → Apart (x ∷ xs) → Some x ≡ Some n → slice_get xs j ≡ Some n → ⊥
one_place x n xs j a e g = let same : x ≡ n = cc in each_of (λ y. x ≢ y) xs n a.0 (has_at xs j n g) same

pub distinct_of : (ns : List ℕ) → Apart ns → IsDistinct ns
distinct_of [] a i j n e g = absurd (let clash : None ≡ Some n = e in cc)
distinct_of (x ∷ xs) a zero zero n e g = refl
distinct_of (x ∷ xs) a zero (suc j) n e g = absurd (one_place x n xs j a e g)
distinct_of (x ∷ xs) a (suc i) zero n e g = absurd (one_place x n xs i a g e)
distinct_of (x ∷ xs) a (suc i) (suc j) n e g = ap suc (distinct_of xs a.1 i j n e g)

pub same_numbers : (ns : List ℕ) → Apart ns → numbers_of ns ≡ ns
same_numbers ns a = distinct_numbers ns (distinct_of ns a)

-- ---- the registers of a function

first_number : (r : Option LocalId) (xs : List LocalId) → result_number r ++ map (λ (x : LocalId). x.0) xs ≡ map (λ (x : LocalId). x.0) (cons_option r xs)
first_number None xs = refl
first_number (Some x) xs = refl

code_numbers : (code : List Instr) → flat_map result_numbers code ≡ map (λ (x : LocalId). x.0) (filter_map (λ (i : Instr). i.result) code)
code_numbers [] = refl
code_numbers (i ∷ is) = ap (λ ns. result_numbers i ++ ns) (code_numbers is) ∙ first_number i.result (filter_map (λ (j : Instr). j.result) is)

blocks_numbers : (bs : List Block) → flat_map block_numbers bs ≡ map (λ (x : LocalId). x.0) (flat_map results bs)
blocks_numbers bs = sym (mapped_parts (λ (x : LocalId). x.0) results block_numbers (λ b. sym (code_numbers b.code)) bs)

pub of_registers : (f : Func) → register_numbers f ≡ map (λ (x : LocalId). x.0) (registers f)
of_registers f =
    ap (λ ns. map param_number f.params ++ ns) (blocks_numbers f.blocks)
    ∙ ap (λ ns. ns ++ map (λ (x : LocalId). x.0) (flat_map results f.blocks)) (sym (mapped_twice (λ (x : LocalId). x.0) (λ (q : Param). q.name) f.params))
    ∙ sym (map-append (λ (x : LocalId). x.0) (map (λ (q : Param). q.name) f.params) (flat_map results f.blocks))

pub count_registers : (f : Func) → length (register_numbers f) ≡ length (registers f)
count_registers f = ap length (of_registers f) ∙ length-map (registers f) (λ (x : LocalId). x.0)

pub few_params : (f : Func) → length (register_numbers f) < 4294967296 → length f.params < 4294967296
few_params f few =
    let one : length (map param_number f.params ++ flat_map block_numbers f.blocks) ≡ length (map param_number f.params) + length (flat_map block_numbers f.blocks) = length-append (map param_number f.params) (flat_map block_numbers f.blocks) in
    let two = length-map f.params param_number in
    omega (arith, few, one, two)

module _ (m : Module) (f : Func) (rules : IsValidFunc m f) where
  pub same_registers : numbers_of (register_numbers f) ≡ register_numbers f
  same_registers = same_numbers (register_numbers f) (subst Apart (sym (of_registers f)) (registers_once m f rules))

  pub same_labels : numbers_of (map label_number f.blocks) ≡ map label_number f.blocks
  same_labels = same_numbers (map label_number f.blocks) (labels_once m f rules)

-- the same of a function that stands in a valid module
module _ (m n : Module) (same : n ≡ m) (valid : IsValid n) (f : Func) (here : (g : ℕ) × (slice_get m.funcs g ≡ Some f)) where
  rules_of : IsValidFunc m f
  rules_of = all_at (IsValidFunc m) m.funcs here.0 f (subst IsValid same valid).each_func here.1

  pub found_registers : numbers_of (register_numbers f) ≡ register_numbers f
  found_registers = same_registers m f rules_of

  pub found_labels : numbers_of (map label_number f.blocks) ≡ map label_number f.blocks
  found_labels = same_labels m f rules_of

-- ---- the names of a module

module _ (m : Module) (valid : IsValid m) where
  abbrev of_global : GlobalVar → Introduced
  of_global g = record { name = g.name; place = g.place }

  abbrev of_func : Func → Introduced
  of_func f = record { name = f.name; place = f.place }

  abbrev declared_names : List Introduced
  declared_names = map (λ (d : Declaration). record { name = d.name; place = d.place }) m.declared

  global_at : (k : ℕ) (g : GlobalVar) → slice_get m.globals k ≡ Some g → slice_get (introduced m) k ≡ Some (of_global g)
  global_at k g e =
      at_in_first (introduced_globals m ++ introduced_funcs m) declared_names k (of_global g)
      (at_in_first (introduced_globals m) (introduced_funcs m) k (of_global g) (slice_get-map of_global m.globals k ∙ ap (option_map of_global) e))

  func_at : (k : ℕ) (f : Func) → slice_get m.funcs k ≡ Some f → slice_get (introduced m) (length (introduced_globals m) + k) ≡ Some (of_func f)
  func_at k f e =
      at_in_first (introduced_globals m ++ introduced_funcs m) declared_names (length (introduced_globals m) + k) (of_func f)
      (at_in_next (introduced_globals m) (introduced_funcs m) k (of_func f) (slice_get-map of_func m.funcs k ∙ ap (option_map of_func) e))

  pub same_globals : numbers_of (map global_number m.globals) ≡ map global_number m.globals
  same_globals =
      same_numbers (map global_number m.globals)
      (apart_mapped global_number m.globals (λ i j a b lt ei ej e. introduced_once m valid (of_global a) (of_global b) (i, j, lt, global_at i a ei, global_at j b ej) (same_symbol a.name b.name e)))

  pub same_funcs : numbers_of (map func_number m.funcs) ≡ map func_number m.funcs
  same_funcs =
      same_numbers (map func_number m.funcs)
      (apart_mapped func_number m.funcs (λ i j a b lt ei ej e.
      introduced_once m valid (of_func a) (of_func b) (length (introduced_globals m) + i, length (introduced_globals m) + j, omega (arith, lt), func_at i a ei, func_at j b ej) (same_symbol a.name b.name e)))

-- ---- where a name stands

turned : (a b : ℕ) → nat_eq a b ≡ (b == a)
turned a b = grind (arith, nat_tests)

pub position_by : {A : Type 0} (number : A → ℕ) (p : A → Bool) (x : ℕ) → ((y : A) → nat_eq x (number y) ≡ p y) → (xs : List A) → position_or_len (nat_eq x) (map number xs) ≡ position_or_len p xs
position_by number p x same [] = refl
position_by number p x same (y ∷ ys) =
    ap (λ (t : Bool). cond (not t) (1 + position_or_len (nat_eq x) (map number ys)) 0) (same y)
    ∙ ap (λ (k : ℕ). cond (not (p y)) (1 + k) 0) (position_by number p x same ys)

pub any_by : {A : Type 0} (number : A → ℕ) (p : A → Bool) (x : ℕ) → ((y : A) → nat_eq x (number y) ≡ p y) → (xs : List A) → list_any (nat_eq x) (map number xs) ≡ list_any p xs
any_by number p x same [] = refl
any_by number p x same (y ∷ ys) = ap (λ (t : Bool). t || list_any (nat_eq x) (map number ys)) (same y) ∙ ap (λ (t : Bool). p y || t) (any_by number p x same ys)

pub register_at : (f : Func) (ns : List ℕ) (x : ℕ) → ns ≡ register_numbers f → position_or_len (nat_eq x) ns ≡ position_or_len (is_local x) (registers f)
register_at f ns x e = ap (position_or_len (nat_eq x)) (e ∙ of_registers f) ∙ position_by (λ (r : LocalId). r.0) (is_local x) x (λ r. turned x r.0) (registers f)

pub label_at : (f : Func) (ns : List ℕ) (x : ℕ) → ns ≡ map label_number f.blocks → position_or_len (nat_eq x) ns ≡ position_or_len (is_labelled x) f.blocks
label_at f ns x e = ap (position_or_len (nat_eq x)) e ∙ position_by label_number (is_labelled x) x (λ b. turned x b.label.0) f.blocks

pub global_found : (m : Module) (ns : List ℕ) (s : SymId) → ns ≡ map global_number m.globals → position_or_len (nat_eq s.0) ns ≡ global_position m s
global_found m ns s e = ap (position_or_len (nat_eq s.0)) e ∙ position_by global_number (is_global s) s.0 (λ g. turned s.0 g.name.0) m.globals

pub func_found : (m : Module) (ns : List ℕ) (s : SymId) → ns ≡ map func_number m.funcs → position_or_len (nat_eq s.0) ns ≡ function_number m s
func_found m ns s e = ap (position_or_len (nat_eq s.0)) e ∙ position_by func_number (is_named s) s.0 (λ f. turned s.0 f.name.0) m.funcs

pub defined_found : (m : Module) (ns : List ℕ) (s : SymId) → ns ≡ map func_number m.funcs → list_any (nat_eq s.0) ns ≡ is_defined m s
defined_found m ns s e = ap (list_any (nat_eq s.0)) e ∙ any_by func_number (λ (f : Func). f.name.0 == s.0) s.0 (λ f. turned s.0 f.name.0) m.funcs

abbrev reg_id : ℕ → RegId
reg_id k = record { 0 = k }

abbrev block_id : ℕ → BlockId
block_id k = record { 0 = k }

pub reg_at : (p : Part) (ns : List ℕ) (x : LocalId) (k : ℕ) → k ≡ position_or_len (nat_eq x.0) ns → ns ≡ register_numbers p.func → ◌≡◌ {A = RegId} (record { 0 = k }) (reg_in p x)
reg_at p ns x k e same = ap reg_id (e ∙ register_at p.func ns x.0 same)

pub block_at : (p : Part) (ns : List ℕ) (x : LocalId) (k : ℕ) → k ≡ position_or_len (nat_eq x.0) ns → ns ≡ map label_number p.func.blocks → ◌≡◌ {A = BlockId} (record { 0 = k }) (block_in p x)
block_at p ns x k e same = ap block_id (e ∙ label_at p.func ns x.0 same)
