-- The sites of a module, and what chains of them lead to.
use Rattle.std.specs.Prelude.{◌≡◌, ◌⊎◌, ℕ, ◌+◌, ◌==◌, Bool, true, false, List, [], ◌∷◌, ◌++◌, Contains, Option, Some, None, slice_get}
use Rattle.std.specs.List.{flat_map, filter_map, position_from}
use Rattle.std.specs.Option.{option_map}
use Rattle.oi_base.specs.declared.ids.FuncId.{FuncId}
use Rattle.ir_core.specs.declared.module.SymId.{SymId}
use Rattle.ir_core.specs.declared.op.Op.{Op}
use Rattle.ir_core.specs.declared.op.Op.TheVariants.{Call}
use Rattle.ir_core.specs.declared.func.Instr.{Instr}
use Rattle.ir_core.specs.declared.func.Block.{Block}
use Rattle.ir_core.specs.declared.func.Func.{Func}
use Rattle.call_graph.specs.declared.sites.Site.{Site}

-- ---- sites

abbrev pub is_named : SymId → Func → Bool
is_named s f = f.name.0 == s.0

-- the function of a name, by its position in text order
abbrev pub func_id : List Func → SymId → Option FuncId
func_id funcs s = option_map (λ (n : ℕ). record { 0 = n }) (position_from (is_named s) 0 funcs)

-- a call of a function that is defined
abbrev pub site_of : List Func → FuncId → Instr → Option Site
site_of funcs caller i = of_op i.op
  where
    of_op : Op → Option Site
    of_op (Call t s args) = option_map (λ (callee : FuncId). record { caller = caller; callee = callee; place = i.place }) (func_id funcs s)
    of_op _ = None

abbrev pub block_sites : List Func → FuncId → Block → List Site
block_sites funcs caller b = filter_map (site_of funcs caller) b.code

abbrev pub func_sites : List Func → FuncId → Func → List Site
func_sites funcs caller f = flat_map (block_sites funcs caller) f.blocks

-- the sites of functions from a position on
abbrev pub sites_from : List Func → ℕ → List Func → List Site
sites_from funcs n [] = []
sites_from funcs n (f ∷ fs) = func_sites funcs (record { 0 = n }) f ++ sites_from funcs (n + 1) fs

-- all sites, in text order; the first has the number 1
abbrev pub all_sites : List Func → List Site
all_sites funcs = sites_from funcs 0 funcs

-- ---- chains

-- a chain of sites, of none or more, leads from one function to another
pub data Leads (sites : List Site) : ℕ → ℕ → Type 0 where
  stays : (f : ℕ) → Leads sites f f
  goes : (s : Site) (f : ℕ) → Contains sites s → Leads sites s.callee.0 f → Leads sites s.caller.0 f

abbrev pub IsExternal : List Func → ℕ → Type 0
IsExternal funcs n = (f : Func) × (slice_get funcs n ≡ Some f) × (f.internal ≡ false)

-- a chain of sites leads to the function from an external one
abbrev pub IsReached : List Func → ℕ → Type 0
IsReached funcs n = (e : ℕ) × IsExternal funcs e × Leads (all_sites funcs) e n

-- the function isn't `noinline`, or that has no effect
abbrev pub MayBeInlined : List Func → Bool → ℕ → Type 0
MayBeInlined funcs free n = (f : Func) × (slice_get funcs n ≡ Some f) × ((f.noinline ≡ false) ⊎ (free ≡ true))

-- A site whose caller is reached, from whose callee no chain of sites leads back to the caller, and whose callee may be inlined
pub record IsCandidate (funcs : List Func) (free : Bool) (s : Site) : Type 0 where
  pub reached : IsReached funcs s.caller.0
  pub no_cycle : Leads (all_sites funcs) s.callee.0 s.caller.0 → ⊥
  pub may : MayBeInlined funcs free s.callee.0

-- a chain of one candidate or more leads from one function to another
pub data CandidatesLead (funcs : List Func) (free : Bool) : ℕ → ℕ → Type 0 where
  by_one : (s : Site) → Contains (all_sites funcs) s → IsCandidate funcs free s → CandidatesLead funcs free s.caller.0 s.callee.0
  by_more : (s : Site) (f : ℕ) → Contains (all_sites funcs) s → IsCandidate funcs free s → CandidatesLead funcs free s.callee.0 f → CandidatesLead funcs free s.caller.0 f
