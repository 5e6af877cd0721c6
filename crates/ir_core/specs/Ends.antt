-- Where the chains of type names end.
use Rattle.std.specs.Prelude.{◌≡◌, ℕ, ◌+◌, ◌≤◌, List, length, slice_get, Some, slice_index_or, ⊤}
use Rattle.ir_core.specs.declared.chains.Chain.{Chain}
use Rattle.ir_core.specs.declared.chains.Chain.TheVariants.{Unseen, Seen, Ended}
use Rattle.ir_core.specs.declared.ty.IrType.{IrType, Named}
use Rattle.ir_core.specs.declared.ty.TypeDef.{TypeDef}
use Rattle.ir_core.specs.Sizes.{resolved}

abbrev pub named : ℕ → IrType
named x = Named (record { 0 = x })

-- with the definitions of so many names or more, a name is resolved to the type of the definition at this position
pub record EndsAt (defs : List TypeDef) (x at names : ℕ) : Type 0 where
  pub end : TypeDef
  pub there : slice_get defs at ≡ Some end
  pub few : names ≤ length defs
  pub comes : (n : ℕ) → resolved (n + names) defs (named x) ≡ end.ty

abbrev pub IsRightChain : List TypeDef → ℕ → Chain → Type 0
IsRightChain defs x Unseen = ⊤
IsRightChain defs x Seen = ⊤
IsRightChain defs x (Ended at names) = EndsAt defs x at names

-- nothing is known of a name beyond the list
abbrev pub chain_at : List Chain → ℕ → Chain
chain_at chains x = slice_index_or chains x Unseen

-- what is said of the names' chains is so
abbrev pub AreRight : List Chain → List TypeDef → Type 0
AreRight chains defs = (x : ℕ) → IsRightChain defs x (chain_at chains x)
