-- Which types have layouts: those whose type names are defined, lead to no `void`, and never back to themselves.
use Rattle.std.specs.Prelude.{◌≡◌, Bool, List, [], ◌∷◌, Some, IsTrue, Contains, ⊤}
use Rattle.ir_core.specs.declared.ty.TypeName.{TypeName}
use Rattle.ir_core.specs.declared.ty.TypeDef.{TypeDef}
use Rattle.ir_core.specs.declared.ty.IrType.{IrType, Void, Int, Ptr, Array', Struct', Named, Row_of-IrType, end_of-IrType, more_of-IrType}
use Rattle.ir_core.specs.Sizes.{definition}
use Rattle.ir_core.specs.Parts.{names_in_type}

-- no `void` stands in the type
abbrev mutual
  pub HasNoVoid : IrType → Type 0
  HasNoVoid Void = ⊥
  HasNoVoid (Int w) = ⊤
  HasNoVoid Ptr = ⊤
  HasNoVoid (Array' n _ items) = HaveNoVoid items
  HasNoVoid (Struct' _ fields) = HaveNoVoid fields
  HasNoVoid (Named x) = ⊤

  pub HaveNoVoid : {m : _} → Row_of-IrType m → Type 0
  HaveNoVoid end_of-IrType = ⊤
  HaveNoVoid (more_of-IrType t ts) = HasNoVoid t × HaveNoVoid ts

-- a name stands in another's definition
abbrev pub Holds : List TypeDef → TypeName → TypeName → Type 0
Holds defs x y = (d : TypeDef) × (definition defs x ≡ Some d) × Contains (names_in_type d.ty) y

-- each name holds the next
abbrev pub Leads : List TypeDef → TypeName → List TypeName → TypeName → Type 0
Leads defs x [] z = Holds defs x z
Leads defs x (y ∷ ys) z = Holds defs x y × Leads defs y ys z

-- a name that leads back to itself
abbrev pub HoldsItself : List TypeDef → TypeName → Type 0
HoldsItself defs x = (between : List TypeName) × Leads defs x between x

-- the names of a set are defined without `void` and by names of the set alone, and none of them leads back to itself
pub record IsAcyclic (defs : List TypeDef) (among : TypeName → Bool) : Type 0 where
  pub defined : (x : TypeName) → IsTrue (among x) → (d : TypeDef) × (definition defs x ≡ Some d) × HasNoVoid d.ty × ((y : TypeName) → Contains (names_in_type d.ty) y → IsTrue (among y))
  pub no_cycle : (x : TypeName) → IsTrue (among x) → HoldsItself defs x → ⊥
