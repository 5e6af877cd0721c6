-- Where symbols are introduced again.
use Rattle.std.specs.Prelude.{ℕ, nat_eq, if◌then◌else◌, List, [], ◌∷◌, map, fold, Option, Some, None}
use Rattle.std.specs.Map.{lookup}
use Rattle.indexmap.specs.IndexMap.{insert_entry}
use Rattle.oi_base.specs.declared.ids.Place.{Place}
use Rattle.ir_core.specs.Operands.{is_up_to}
use Rattle.ir_core.specs.ValidModule.{Introduced, introduced_globals, introduced_funcs}
use Rattle.ir_core.specs.declared.module.Declaration.{Declaration}
use Rattle.ir_core.specs.declared.module.Module.{Module}
use Rattle.module_rules.specs.First.{earliest}

-- the later of two places
abbrev pub later : Place → Place → Place
later p q = if is_up_to p q then q else p

abbrev pub sooner : Place → Place → Place
sooner p q = if is_up_to p q then p else q

-- the least place so far of each name, and the first place at which one of them stood again
pub record Symbols : Type 0 where
  pub least : List (ℕ × Place)
  pub first : Option Place

abbrev pub no_symbols : Symbols
no_symbols = record { least = []; first = None }

-- the place at which a name stands again, with one that is known for it or none
abbrev pub again_at : Option Place → Place → List Place
again_at None p = []
again_at (Some q) p = later q p ∷ []

abbrev pub least_with : Option Place → Place → Place
least_with None p = p
least_with (Some q) p = sooner q p

abbrev pub with_symbol : Symbols → Introduced → Symbols
with_symbol s a = record {
  least = insert_entry nat_eq s.least a.name.0 (least_with (lookup (nat_eq a.name.0) s.least) a.place);
  first = earliest s.first (again_at (lookup (nat_eq a.name.0) s.least) a.place);
}

abbrev pub with_symbols : Symbols → List Introduced → Symbols
with_symbols s as' = fold with_symbol s as'

abbrev pub introduced_declared : Module → List Introduced
introduced_declared m = map (λ (d : Declaration). record { name = d.name; place = d.place }) m.declared

abbrev pub symbols_of : Module → Symbols
symbols_of m = with_symbols (with_symbols (with_symbols no_symbols (introduced_globals m)) (introduced_funcs m)) (introduced_declared m)
