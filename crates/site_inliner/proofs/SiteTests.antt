-- A call is a site exactly where the module defines the function of its name.
use Rattle.std.proofs.Common.{◌≡◌, ℕ, ◌+◌, ◌==◌, ◌||◌, Bool, true, false, cond, List, [], ◌∷◌, Option, Some, None, is_some, refl, sym, ap, ◌∙◌}
use Rattle.std.specs.List.{position_from, list_any}
use Rattle.std.specs.Option.{option_map}
use Rattle.oi_base.specs.declared.ids.FuncId.{FuncId}
use Rattle.ir_core.specs.declared.ty.IrType.{IrType}
use Rattle.ir_core.specs.declared.module.SymId.{SymId}
use Rattle.ir_core.specs.declared.module.Module.{Module}
use Rattle.ir_core.specs.declared.op.Op.{Op}
use Rattle.ir_core.specs.declared.op.Op.TheVariants as ops
use Rattle.ir_core.specs.declared.op.TypedOperand.{TypedOperand}
use Rattle.ir_core.specs.declared.func.Instr.{Instr}
use Rattle.ir_core.specs.declared.func.Func.{Func}
use Rattle.ir_core.specs.Parts.{is_defined}
use Rattle.call_graph.specs.declared.sites.Site.{Site}
use Rattle.call_graph.specs.Sites.{is_named, func_id, site_of}

found : (s : SymId) (i : ℕ) (fs : List Func) → is_some (position_from (is_named s) i fs) ≡ list_any (λ (f : Func). f.name.0 == s.0) fs
found s i [] = refl
found s i (f ∷ fs) = by (f.name.0 == s.0) (found s (i + 1) fs)
  where
    by : (t : Bool) → is_some (position_from (is_named s) (i + 1) fs) ≡ list_any (λ (f : Func). f.name.0 == s.0) fs → is_some (cond t (Some i) (position_from (is_named s) (i + 1) fs)) ≡ (t || list_any (λ (f : Func). f.name.0 == s.0) fs)
    by true h = refl
    by false h = h

mapped : {A B : Type 0} (g : A → B) (o : Option A) → is_some (option_map g o) ≡ is_some o
mapped g None = refl
mapped g (Some x) = refl

pub site_is : (m : Module) (f : FuncId) (i : Instr) (t : IrType) (s : SymId) (args : List TypedOperand) → i.op ≡ ops.Call t s args → is_defined m s ≡ is_some (site_of m.funcs f i)
site_is m f i t s args is =
    let site : is_some (site_of m.funcs f i) ≡ is_some (option_map (λ (callee : FuncId). let x : Site = record { caller = f; callee = callee; place = i.place } in x) (func_id m.funcs s)) = ap (λ (o : Op). is_some (site_of m.funcs f (record i { op = o }))) is in
    sym (site ∙ mapped (λ (callee : FuncId). let x : Site = record { caller = f; callee = callee; place = i.place } in x) (func_id m.funcs s) ∙ mapped (λ (n : ℕ). let x : FuncId = record { 0 = n } in x) (position_from (is_named s) 0 m.funcs) ∙ found s 0 m.funcs)
