-- Codes of which an image is made, and the programs that they are of.
use Rattle.std.specs.Prelude.{◌≡◌, ℕ, ◌<◌, ◌≤◌, List, length, map, All, AllPairs, Contains, Some}
use Rattle.oi_base.specs.declared.ids.FuncId.{FuncId}
use Rattle.ir_core.specs.declared.flat.FlatBody.{FlatBody}
use Rattle.ir_core.specs.declared.module.Module.{Module}
use Rattle.ir_core.specs.Constants.{global_memory}
use Rattle.ir_core.specs.Flat.{Program}
use Rattle.ir_core.specs.Source.{main_number}
use Rattle.ir_core.specs.WellFormed.{IsWellFormed}
use Rattle.frame_layout.specs.declared.laying.TheConstants.{LARGEST_FRAME}
use Rattle.frame_layout.specs.Frame.{frame}
use Rattle.rv_select.specs.declared.item.Item.{Item}
use Rattle.rv_select.specs.declared.item.Item.TheVariants.{Word, CallHigh, CallLow, AddressHigh, AddressLow}
use Rattle.rv_select.specs.Pending.{IsItem}
use Rattle.rv_select.specs.Code.{code, ArePaired}
use Rattle.rv_select.specs.Linked.{Link}
use Rattle.image_layout.specs.Addresses.{Codes, entry, global_address}

-- the function has a code
abbrev pub HasCode : Codes → ℕ → Type 0
HasCode codes f = Contains (map (λ (c : FuncId × List Item). c.0.0) codes) f

-- what an item refers to is there: the function that it calls has a code, the global of its address is one of the module's
abbrev pub IsKnown : Module → Codes → Item → Type 0
IsKnown m codes (Word i) = Unit {0}
IsKnown m codes (CallHigh f) = HasCode codes f.0
IsKnown m codes (CallLow f) = HasCode codes f.0
IsKnown m codes (AddressHigh r g k) = g < length m.globals
IsKnown m codes (AddressLow r g k) = g < length m.globals

-- codes of definitions of the module, in text order and none twice, that of `main` among them; what they refer to is there,
-- and the halves of their calls stand in pairs
pub record AreCodes (m : Module) (codes : Codes) : Type 0 where
  pub definitions : All (λ (c : FuncId × List Item). c.0.0 < length m.funcs) codes
  pub ascending : AllPairs (λ (a b : FuncId × List Item). a.0.0 < b.0.0) codes
  pub main : HasCode codes (main_number m)
  pub known : All (λ (c : FuncId × List Item). All (IsKnown m codes) c.1) codes
  pub paired : All (λ (c : FuncId × List Item). ArePaired c.1) codes

-- the link gives the address of each function that has a code, and of each global
pub record Links (m : Module) (codes : Codes) (l : Link) : Type 0 where
  pub entries : (f : ℕ) → HasCode codes f → l.entry f ≡ entry m codes f
  pub globals : l.global_at ≡ global_address (global_memory m)

-- a function's body has this code
pub record HasBody (codes : Codes) (f : ℕ) (b : FlatBody) : Type 0 where
  pub formed : IsWellFormed b
  pub small : frame b ≤ LARGEST_FRAME
  pub has : Contains codes (record { 0 = f }, code b)

-- a program over the module's globals whose bodies have these codes, of which each instruction has a word
pub record IsProgramOf (m : Module) (codes : Codes) (p : Program) : Type 0 where
  pub items : All (λ (c : FuncId × List Item). All IsItem c.1) codes
  pub globals : p.globals ≡ global_memory m
  pub main : p.main ≡ main_number m
  pub bodies : (f : ℕ) (b : FlatBody) → p.body f ≡ Some b → HasBody codes f b
