-- A module that was read from a text is proper.
use Rattle.std.proofs.Common.{◌≡◌, ◌≢◌, ℕ, ◌≤◌, ◌<◌, Bool, false, List, ◌∷◌, ◌++◌, length, map, refl, sym, ap, ◌∙◌, subst, arith, Result, Ok, Err, IfOk}
use Rattle.std.specs.List.{flat_map, AllByRecursion as Each}
use Rattle.std.proofs.lemmas.List.{length-map}
use Rattle.std.proofs.lemmas.List.Elements.{All-from_recursion}
use Rattle.ir_core.specs.declared.limits.TheConstants.{MOST_FUNCTIONS, MOST_SITES}
use Rattle.ir_core.specs.declared.ty.TypeName.{TypeName}
use Rattle.ir_core.specs.declared.ty.TypeDef.{TypeDef}
use Rattle.ir_core.specs.declared.ty.IrType.{IrType}
use Rattle.ir_core.specs.declared.module.SymId.{SymId}
use Rattle.ir_core.specs.declared.module.GlobalVar.{GlobalVar}
use Rattle.ir_core.specs.declared.module.Declaration.{Declaration}
use Rattle.ir_core.specs.declared.module.Module as modules
use Rattle.ir_core.specs.declared.func.Func.{Func}
use Rattle.ir_core.specs.Parts.{const_symbols, const_types, func_symbols, func_types, typed_consts, func_consts, names_in_type, module_symbols, module_types, module_type_names, sites}
use Rattle.ir_core.specs.Proper.{IsSymbol, IsProperFunc, IsProper}
use Rattle.ir_grammar.specs.declared.kinds.Kind.TheVariants as kinds
use Rattle.ir_grammar.specs.declared.parts.Definition.{Definition}
use Rattle.ir_grammar.specs.declared.parts.Draft.{Draft}
use Rattle.ir_grammar.specs.Pieces.{Piece, pieces}
use Rattle.ir_grammar.specs.Names.{Names, no_names}
use Rattle.ir_grammar.specs.Forms.{act}
use Rattle.ir_grammar.specs.Tokens.{stated, expect, kind}
use Rattle.ir_grammar.specs.Entities.{no_entities, function_of, module_of, next_entity, next_set, text_form}
use Rattle.ir_grammar.specs.Reading.{ReadsWithinLimits}
use Rattle.call_graph.specs.Sites.{all_sites}
use Rattle.ir_proper.proofs.Kept.{each_append, IsClean, Clean, Fine, grows_same}
use Rattle.ir_proper.proofs.KeptNames.{KnownSymbol, KnownType}
use Rattle.ir_proper.proofs.Good.{each_flat, each_map, each_more, GoodType}
use Rattle.ir_proper.proofs.GoodFunc.{once_differ}
use Rattle.ir_proper.proofs.Ends.{Ends, ends_then, ends_rounds}
use Rattle.ir_proper.proofs.KeptDefinitions.{GoodFunc}
use Rattle.ir_proper.proofs.KeptEntities.{GoodTypeDef, GoodGlobal, GoodDraft, keeps_text_form}
use Rattle.ir_proper.proofs.CleanPieces.{clean_pieces}
use Rattle.ir_proper.proofs.SiteCount.{no_more_sites}

-- ---- the names at the end are those of the module

abbrev NamesAre : modules.Module → Names → Type 0
NamesAre m t = (m.symbols ≡ t.symbols) × (m.types.names ≡ t.types)

made_names : (d : Draft) → Ends (act (λ s. (module_of d s, s))) NamesAre
made_names d = record { so = λ s u m t r. subst (λ (q : modules.Module × Names). NamesAre q.0 q.1) r.1 (refl, refl) }

text_names : Ends (text_form stated) NamesAre
unfolding text_form
text_names = ends_rounds (λ (d : Draft). next_set d.declares) (λ (d : Draft). next_entity stated d d.declares) (λ (d : Draft). ends_then (expect (kind kinds.End)) (λ (e : Unit). made_names d)) no_entities

-- ---- functions

-- whether a function is `noinline` is settled at the end
settled_proper : (f : Func) (b : Bool) → IsProperFunc f → IsProperFunc (record f { noinline = b })
settled_proper f b h = record {
  has_blocks = h.has_blocks;
  entries = h.entries;
  values = h.values;
  results = h.results;
  locals_known = h.locals_known;
  locals_once = h.locals_once;
  params = h.params;
  arguments = h.arguments;
  counts = h.counts;
}

settled_good : (n : Names) (noinline : List (List ℕ)) (x : Definition) → GoodFunc n x.func → GoodFunc n (function_of noinline x)
settled_good n noinline x h = record { proper = settled_proper x.func (function_of noinline x).noinline h.proper; symbols = h.symbols; types = h.types; consts = h.consts }

-- ---- modules

module _ (n : Names) (d : Draft) (s : Names) (h : GoodDraft n d) where
  abbrev made : modules.Module
  made = module_of d s

  funcs_good : Each (GoodFunc n) made.funcs
  funcs_good =
      each_map (GoodFunc n) (function_of d.noinline) d.definitions
      (each_more (λ (x : Definition). GoodFunc n x.func) (λ (x : Definition). GoodFunc n (function_of d.noinline x)) (settled_good n d.noinline) d.definitions h.definitions)

  abbrev global_symbols : GlobalVar → List SymId
  global_symbols g = g.name ∷ const_symbols g.init

  abbrev global_types : GlobalVar → List IrType
  global_types g = g.ty ∷ const_types g.init

  abbrev all_types : Func → List IrType
  all_types f = func_types f ++ typed_consts (func_consts f)

  symbols_good : Each (KnownSymbol n) (module_symbols made)
  symbols_good =
      each_append (KnownSymbol n) (flat_map global_symbols made.globals ++ flat_map func_symbols made.funcs) (map (λ (x : Declaration). x.name) made.declared)
      (each_append (KnownSymbol n) (flat_map global_symbols made.globals) (flat_map func_symbols made.funcs)
      (each_flat (KnownSymbol n) global_symbols made.globals (each_more (GoodGlobal n) (λ (g : GlobalVar). Each (KnownSymbol n) (global_symbols g)) (λ g k. (k.name, k.init.symbols)) made.globals h.globals))
      (each_flat (KnownSymbol n) func_symbols made.funcs (each_more (GoodFunc n) (λ (f : Func). Each (KnownSymbol n) (func_symbols f)) (λ f k. k.symbols) made.funcs funcs_good)))
      (each_map (KnownSymbol n) (λ (x : Declaration). x.name) made.declared h.declared)

  types_good : Each (GoodType n) (module_types made)
  types_good =
      each_append (GoodType n) (map (λ (x : TypeDef). x.ty) made.types.defs ++ flat_map global_types made.globals) (flat_map all_types made.funcs)
      (each_append (GoodType n) (map (λ (x : TypeDef). x.ty) made.types.defs) (flat_map global_types made.globals)
      (each_map (GoodType n) (λ (x : TypeDef). x.ty) made.types.defs (each_more (GoodTypeDef n) (λ (x : TypeDef). GoodType n x.ty) (λ x k. k.ty) made.types.defs h.types))
      (each_flat (GoodType n) global_types made.globals (each_more (GoodGlobal n) (λ (g : GlobalVar). Each (GoodType n) (global_types g)) (λ g k. (k.ty, k.init.types)) made.globals h.globals)))
      (each_flat (GoodType n) all_types made.funcs (each_more (GoodFunc n) (λ (f : Func). Each (GoodType n) (all_types f)) (λ f k. each_append (GoodType n) (func_types f) (typed_consts (func_consts f)) k.types k.consts) made.funcs funcs_good))

  names_good : Each (KnownType n) (module_type_names made)
  names_good =
      each_append (KnownType n) (map (λ (x : TypeDef). x.name) made.types.defs) (flat_map names_in_type (module_types made))
      (each_map (KnownType n) (λ (x : TypeDef). x.name) made.types.defs (each_more (GoodTypeDef n) (λ (x : TypeDef). KnownType n x.name) (λ x k. k.name) made.types.defs h.types))
      (each_flat (KnownType n) names_in_type (module_types made) types_good)

  proper_made : Fine n → s.symbols ≡ n.symbols → s.types ≡ n.types → length (sites made) ≤ MOST_SITES → IsProper made
  proper_made w e f few = record {
    each_func = All-from_recursion IsProperFunc made.funcs (each_more (GoodFunc n) IsProperFunc (λ f k. k.proper) made.funcs funcs_good);
    symbols_known = rw e (All-from_recursion (λ (x : SymId). x.0 < length n.symbols) (module_symbols made) symbols_good);
    type_names_known = rw f (All-from_recursion (λ (x : TypeName). x.0 < length n.types) (module_type_names made) names_good);
    symbols_once = rw e (once_differ n.symbols w.symbols);
    type_names_once = rw f (once_differ n.types w.types);
    symbols = rw e (All-from_recursion IsSymbol n.symbols (each_more IsClean IsSymbol (λ name k. (k.0, All-from_recursion (λ (b : ℕ). b ≢ 0) name k.1)) n.symbols w.clean));
    funcs = let less = h.few in let same = length-map d.definitions (function_of d.noinline) in omega (arith, less, same);
    site_count = few;
  }

-- ---- texts

no_names_fine : Fine no_names
no_names_fine = record { symbols = tt; types = tt; locals = tt; clean = tt }

proper_text : (ts : List Piece) (m : modules.Module) (t : Names) → Clean ts → (text_form stated).reads no_names ts m t → length (sites m) ≤ MOST_SITES → IsProper m
proper_text ts m t c r few =
    let x = (keeps_text_form {n = t} {H = Unit {0}}).holds tt no_names ts m t c no_names_fine r (grows_same false t) in
    let g = x.0 in
    let names = text_names.so no_names ts m t r in
    let symbols = sym (ap (λ (y : modules.Module). y.symbols) g.3) ∙ names.0 in
    let types = sym (ap (λ (y : modules.Module). y.types.names) g.3) ∙ names.1 in
    let count = subst (λ (y : modules.Module). length (sites y) ≤ MOST_SITES) g.3 few in
    subst IsProper (sym g.3) (proper_made t g.0 g.1 g.2 x.1 symbols types count)

-- a text within the limits defines no more functions
pub few_functions : (bytes : List ℕ) (m : modules.Module) → ReadsWithinLimits bytes m → length m.funcs ≤ MOST_FUNCTIONS
few_functions bytes m h =
    let g = ((keeps_text_form {n = h.0} {H = Unit {0}}).holds tt no_names (pieces bytes) m h.0 (clean_pieces bytes) no_names_fine h.1 (grows_same false h.0)).0 in
    let less = g.2.few in
    let same = length-map g.0.definitions (function_of g.0.noinline) in
    let funcs = ap (λ (y : modules.Module). length y.funcs) g.3 in
    omega (arith, less, same, funcs)

pub read_is_proper : (bytes : List ℕ) (m : modules.Module) → ReadsWithinLimits bytes m → length (sites m) ≤ MOST_SITES → IsProper m
read_is_proper bytes m h few = proper_text (pieces bytes) m h.0 (clean_pieces bytes) h.1 few

pub read_with_few_sites : (bytes : List ℕ) (m : modules.Module) → ReadsWithinLimits bytes m → length (all_sites m.funcs) ≤ MOST_SITES → IsProper m
read_with_few_sites bytes m h few = let e = no_more_sites m in read_is_proper bytes m h (omega (arith, e, few))

pub answer_is_proper : (E : Type 0) (bytes : List ℕ) (r : Result modules.Module E) → IfOk r (λ (m : modules.Module). ReadsWithinLimits bytes m × (length (all_sites m.funcs) ≤ MOST_SITES)) → IfOk r IsProper
answer_is_proper E bytes (Ok m) h = read_with_few_sites bytes m h.0 h.1
answer_is_proper E bytes (Err e) h = h
