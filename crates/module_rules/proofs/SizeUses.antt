-- The types that have a greatest size stand in the module, so they have layouts where the rule of type names is broken nowhere.
use Rattle.std.proofs.Common.{inl, inr, refl, ap, ⊎_elim, List, [], ◌∷◌, ◌++◌, map}
use Rattle.std.specs.List.{flat_map}
use Rattle.oi_base.specs.declared.ids.Place.{Place}
use Rattle.ir_core.specs.declared.ty.IrType.{IrType}
use Rattle.ir_core.specs.declared.module.GlobalVar.{GlobalVar}
use Rattle.ir_core.specs.declared.module.Module.{Module}
use Rattle.ir_core.specs.declared.constant.Const.{Const, Row_of-TypedConst, end_of-TypedConst, more_of-TypedConst}
use Rattle.ir_core.specs.declared.constant.Const as consts
use Rattle.ir_core.specs.declared.op.Operand.{Operand}
use Rattle.ir_core.specs.declared.op.Op.{Op}
use Rattle.ir_core.specs.declared.op.Op.TheVariants.{Bin, Icmp, Select, Cast, Alloca, Load, Store, Gep, Phi, Call}
use Rattle.ir_core.specs.declared.func.Func.{Func}
use Rattle.ir_core.specs.Parts.{op_values, end_values, end_types, operand_consts, const_types, consts_types}
use Rattle.ir_core.specs.Sizes.{IsLaid}
use Rattle.ir_core.specs.Operands.{Step, Does, Ends, steps, place_of}
use Rattle.ir_core.specs.ValidTypes.{TypeUse, value_use, value_uses, op_uses, types_in_values, step_uses, func_uses, type_uses, const_sources, consts_sources, sources_in_values, op_sized, step_sized, BreaksTypeNames}
use Rattle.ir_core.proofs.Lists.{Has, has_left, has_right, has_part, contains}
use Rattle.module_rules.specs.TypeFaults.{def_use, global_uses, param_types}
use Rattle.module_rules.proofs.Faulty.{has_in}
use Rattle.module_rules.proofs.LaidUses.{use_laid}
use Rattle.module_rules.proofs.Sets.{has_made}

-- ---- constants

mutual
  source_stands : (c : Const) (t : IrType) → Has (const_sources c) t → Has (const_types c) t
  source_stands (consts.Gep u s is) t (inl same) = inl same
  source_stands (consts.Gep u s is) t (inr h) = absurd h
  source_stands (consts.Array' _ items) t h = source_in t items h
  source_stands (consts.Struct' _ fields) t h = source_in t fields h
  source_stands _ t h = absurd h

  source_in : (t : IrType) {m : _} (row : Row_of-TypedConst m) → Has (consts_sources row) t → Has (consts_types row) t
  source_in t end_of-TypedConst h = absurd h
  source_in t (more_of-TypedConst u c cs) h =
      ⊎_elim (λ g. inr (has_left (const_types c) (consts_types cs) t (source_stands c t g))) (λ g. inr (has_right (const_types c) (consts_types cs) t (source_in t cs g)))
      (has_in (const_sources c) (consts_sources cs) t h)

in_values : (vs : List Operand) (t : IrType) → Has (sources_in_values vs) t → Has (types_in_values vs) t
in_values vs t h =
    let c = has_made const_sources (flat_map operand_consts vs) t h in
    has_part const_types (flat_map operand_consts vs) c.0 t c.1 (source_stands c.0 t c.2)

-- ---- instructions and terminators

used : (p : Place) (ts : List IrType) (t : IrType) → Has ts t → Has (value_uses p ts) (value_use p t)
used p [] t h = absurd h
used p (u ∷ us) t (inl same) = inl (ap (value_use p) same)
used p (u ∷ us) t (inr h) = inr (used p us t h)

sized_used : (p : Place) (op : Op) (t : IrType) → Has (op_sized op) t → Has (op_uses p op) (value_use p t)
sized_used p (Alloca u count a) t (inl same) = inl (ap (value_use p) same)
sized_used p (Alloca u count a) t (inr h) = absurd h
sized_used p (Gep u a is) t (inl same) = inl (ap (value_use p) same)
sized_used p (Gep u a is) t (inr h) = absurd h
sized_used p (Bin op u a b) t h = absurd h
sized_used p (Icmp c u a b) t h = absurd h
sized_used p (Select c a b) t h = absurd h
sized_used p (Cast c a u) t h = absurd h
sized_used p (Load u a align) t h = absurd h
sized_used p (Store a q align) t h = absurd h
sized_used p (Phi u es) t h = absurd h
sized_used p (Call u f as') t h = absurd h

step_used : (s : Step) (t : IrType) → Has (step_sized s) t → Has (step_uses s) (value_use (place_of s) t)
step_used (Does i) t h =
    ⊎_elim (λ g. has_left (op_uses i.place i.op) of_values (value_use i.place t) (sized_used i.place i.op t g))
    (λ g. has_right (op_uses i.place i.op) of_values (value_use i.place t) (used i.place (types_in_values (op_values i.op)) t (in_values (op_values i.op) t g)))
    (has_in (op_sized i.op) (sources_in_values (op_values i.op)) t h)
  where
    of_values : List TypeUse
    of_values = value_uses i.place (types_in_values (op_values i.op))
step_used (Ends b) t h =
    used b.end_place (end_types b.end ++ types_in_values (end_values b.end)) t
    (has_right (end_types b.end) (types_in_values (end_values b.end)) t (in_values (end_values b.end) t h))

-- ---- modules

module _ (m : Module) (unbroken : (p : Place) → BreaksTypeNames m p → ⊥) where
  abbrev defs : List TypeUse
  defs = map def_use m.types.defs

  abbrev globals : List TypeUse
  globals = flat_map global_uses m.globals

  abbrev funcs : List TypeUse
  funcs = flat_map func_uses m.funcs

  laid : (p : Place) (t : IrType) → Has (type_uses m) (value_use p t) → IsLaid m.types.defs t
  laid p t h = use_laid m unbroken (value_use p t) (contains (type_uses m) (value_use p t) h) refl

  pub global_laid : (g : GlobalVar) → Has m.globals g → (t : IrType) → Has (g.ty ∷ const_sources g.init) t → IsLaid m.types.defs t
  global_laid g stands t h =
      laid g.place t
      (has_left (defs ++ globals) funcs (value_use g.place t)
      (has_right defs globals (value_use g.place t) (has_part global_uses m.globals g (value_use g.place t) stands (used g.place (g.ty ∷ const_types g.init) t (in_global h)))))
    where
      in_global : Has (g.ty ∷ const_sources g.init) t → Has (g.ty ∷ const_types g.init) t
      in_global (inl same) = inl same
      in_global (inr k) = inr (source_stands g.init t k)

  pub step_laid : (f : Func) → Has m.funcs f → (s : Step) → Has (steps f) s → (t : IrType) → Has (step_sized s) t → IsLaid m.types.defs t
  step_laid f in_module s in_func t h =
      laid (place_of s) t
      (has_right (defs ++ globals) funcs it
      (has_part func_uses m.funcs f it in_module (inr (has_right (value_uses f.place (param_types f)) (flat_map step_uses (steps f)) it (has_part step_uses (steps f) s it in_func (step_used s t h))))))
    where
      it : TypeUse
      it = value_use (place_of s) t
