-- Where functions and globals lie in an object. The code of each function stands after the one before it, the first after the
-- stub; globals stand in text order, each at the next multiple of its alignment.
use Rattle.std.specs.Prelude.{ℕ, ◌+◌, ◌*◌, ◌==◌, if◌then◌else◌, List, [], ◌∷◌, length, unwrap_or, slice_get}
use Rattle.std.specs.Int.{next_multiple_of}
use Rattle.oi_base.specs.declared.ids.FuncId.{FuncId}
use Rattle.ir_core.specs.declared.module.Module.{Module}
use Rattle.ir_core.specs.Memory.{Memory}
use Rattle.ir_core.specs.Constants.{global_memory}
use Rattle.ir_core.specs.Source.{main_number}
use Rattle.rv_isa.specs.Memory.{text_start, data_start}
use Rattle.rv_select.specs.declared.item.Item.{Item}
use Rattle.rv_select.specs.Linked.{Link, stub}

-- functions with their codes, in the order in which these stand in the text
abbrev pub Codes : Type 0
Codes = List (FuncId × List Item)

-- how many items stand in the codes before that of a function
abbrev pub items_before : ℕ → Codes → ℕ
items_before f [] = 0
items_before f (c ∷ codes) = if c.0.0 == f then 0 else length c.1 + items_before f codes

-- the address of a function's code
abbrev pub entry : Module → Codes → ℕ → ℕ
entry m codes f = text_start + 4 * (length (stub (main_number m)) + items_before f codes)

-- the places from a place on at which blocks begin that stand one after another
abbrev pub places : ℕ → Memory → List ℕ
places from [] = []
places from (b ∷ bs) = let at = next_multiple_of from b.align in at ∷ places (at + length b.bytes) bs

-- the address of a global
abbrev pub global_address : Memory → ℕ → ℕ
global_address globals g = data_start + unwrap_or (slice_get (places 0 globals) g) 0

-- where the last of such blocks ends
abbrev pub end_of : ℕ → Memory → ℕ
end_of from [] = from
end_of from (b ∷ bs) = end_of (next_multiple_of from b.align + length b.bytes) bs

abbrev pub link_of : Module → Codes → Link
link_of m codes = record { entry = entry m codes; global_at = global_address (global_memory m) }

-- addresses in lists: where each function's code begins, where each global begins in bytes from the data's start, and the names of
-- the globals
pub record Located : Type 0 where
  pub entries : List ℕ
  pub places : List ℕ
  pub names : List ℕ

-- the link by them
abbrev pub link_in : Located → Link
link_in a = record { entry = λ f. unwrap_or (slice_get a.entries f) 0; global_at = λ g. data_start + unwrap_or (slice_get a.places g) 0 }
