-- A module is printed as it is without its places.
use Rattle.std.proofs.Common.{◌≡◌, refl, ap, ◌∙◌, ℕ, List, [], ◌∷◌, ◌++◌, map}
use Rattle.std.specs.Prelude.{Option, Some, None}
use Rattle.std.specs.List.{flat_map}
use Rattle.ir_core.specs.declared.func.Instr.{Instr}
use Rattle.ir_core.specs.declared.func.Block.{Block}
use Rattle.ir_core.specs.declared.func.Func.{Func}
use Rattle.ir_core.specs.declared.ty.TypeDef.{TypeDef}
use Rattle.ir_core.specs.declared.module.GlobalVar.{GlobalVar}
use Rattle.ir_core.specs.declared.module.Declaration.{Declaration}
use Rattle.ir_core.specs.declared.module.Module as modules
use Rattle.ir_core.specs.Places.{unplaced_instr, unplaced_block, unplaced_func, unplaced_type, unplaced_global, unplaced_declaration, unplaced}
use Rattle.ir_printer.specs.declared.words.Word.{Word}
use Rattle.ir_printer.specs.declared.words.Word.TheVariants as words
use Rattle.ir_printer.specs.declared.marks.Mark.{Mark}
use Rattle.ir_printer.specs.declared.marks.Mark.TheVariants as marks
use Rattle.ir_printer.specs.declared.marks.Sign.TheVariants as signs
use Rattle.ir_printer.specs.declared.demands.Demand.{Demand}
use Rattle.ir_printer.specs.declared.order.Kind.{Kind}
use Rattle.ir_printer.specs.declared.order.Kind.TheVariants as kinds
use Rattle.ir_printer.specs.Layout.{tables, marks_text}
use Rattle.ir_printer.specs.Marks.{instr_marks, end_marks, block_marks, head_marks, func_marks}
use Rattle.ir_printer.specs.Order.{demand, order}
use Rattle.ir_printer.specs.Printed.{Entity, TargetLine, DefinedType, Variable, Definition, Declared, Left, entity_text, kind_of, all_of, placed, type_demand, global_demand, func_demand, declaration_demand, demands_of, target_line, entities_of, blank_line, page, printed}

code_marks : (is : List Instr) → flat_map instr_marks (map unplaced_instr is) ≡ flat_map instr_marks is
code_marks [] = refl
code_marks (i ∷ is) = ap (λ ms. instr_marks i ++ ms) (code_marks is)

lines_marks : (b : Block) → block_marks (unplaced_block b) ≡ block_marks b
lines_marks b = ap (λ ms. marks.Line ∷ marks.Label b.label ∷ (ms ++ (marks.Indented ∷ end_marks b.end))) (code_marks b.code)

all_marks : (bs : List Block) → flat_map block_marks (map unplaced_block bs) ≡ flat_map block_marks bs
all_marks [] = refl
all_marks (b ∷ bs) = ap (λ ms. ms ++ flat_map block_marks (map unplaced_block bs)) (lines_marks b) ∙ ap (λ ms. block_marks b ++ ms) (all_marks bs)

func_same : (f : Func) → func_marks (unplaced_func f) ≡ func_marks f
func_same f = ap (λ ms. head_marks f ++ (marks.Spaced signs.OpenCurly ∷ (ms ++ marks.Line ∷ marks.Spaced signs.CloseCurly ∷ []))) (all_marks f.blocks)

-- ---- entities

abbrev unplaced_entity : Entity → Entity
unplaced_entity (TargetLine w said) = TargetLine w said
unplaced_entity (DefinedType d) = DefinedType (unplaced_type d)
unplaced_entity (Variable g) = Variable (unplaced_global g)
unplaced_entity (Definition f) = Definition (unplaced_func f)
unplaced_entity (Declared d) = Declared (unplaced_declaration d)

text_same : (symbols types : List (List ℕ)) (e : Entity) → entity_text symbols types (unplaced_entity e) ≡ entity_text symbols types e
text_same symbols types (TargetLine w said) = refl
text_same symbols types (DefinedType d) = refl
text_same symbols types (Variable g) = refl
text_same symbols types (Definition f) = ap (λ (ms : List Mark). marks_text (tables symbols types f.locals) [] ms ++ 10 ∷ []) (func_same f)
text_same symbols types (Declared d) = refl

kind_same : (e : Entity) → kind_of (unplaced_entity e) ≡ kind_of e
kind_same (TargetLine w said) = refl
kind_same (DefinedType d) = refl
kind_same (Variable g) = refl
kind_same (Definition f) = refl
kind_same (Declared d) = refl

page_same : (symbols types : List (List ℕ)) (es : List Entity) (before : Option Kind) → page symbols types before (map unplaced_entity es) ≡ page symbols types before es
page_same symbols types [] before = refl
page_same symbols types (e ∷ es) before =
    ap (λ (k : Kind). blank_line before k ++ (entity_text symbols types (unplaced_entity e) ++ page symbols types (Some k) (map unplaced_entity es))) (kind_same e)
    ∙ ap (λ (bs : List ℕ). blank_line before (kind_of e) ++ (bs ++ page symbols types (Some (kind_of e)) (map unplaced_entity es))) (text_same symbols types e)
    ∙ ap (λ (bs : List ℕ). blank_line before (kind_of e) ++ (entity_text symbols types e ++ bs)) (page_same symbols types es (Some (kind_of e)))

-- ---- their order

demands_same : {A : Type 0} (asks : A → Demand) (f : A → A) → ((a : A) → asks (f a) ≡ asks a) → (as' : List A) → map asks (map f as') ≡ map asks as'
demands_same asks f h [] = refl
demands_same asks f h (a ∷ as') = ap (λ (d : Demand). d ∷ map asks (map f as')) (h a) ∙ ap (λ (ds : List Demand). asks a ∷ ds) (demands_same asks f h as')

all_demands : (m : modules.Module) → demands_of (unplaced m) ≡ demands_of m
all_demands m =
    ap (λ (ds : List Demand). record { types = ds; globals = map global_demand (map unplaced_global m.globals); funcs = map func_demand (map unplaced_func m.funcs); declared = map (declaration_demand m.symbols) (map unplaced_declaration m.declared) }) (demands_same type_demand unplaced_type (λ d. refl) m.types.defs)
    ∙ ap (λ (ds : List Demand). record { types = map type_demand m.types.defs; globals = ds; funcs = map func_demand (map unplaced_func m.funcs); declared = map (declaration_demand m.symbols) (map unplaced_declaration m.declared) }) (demands_same global_demand unplaced_global (λ g. refl) m.globals)
    ∙ ap (λ (ds : List Demand). record { types = map type_demand m.types.defs; globals = map global_demand m.globals; funcs = ds; declared = map (declaration_demand m.symbols) (map unplaced_declaration m.declared) }) (demands_same func_demand unplaced_func (λ f. ap demand (func_same f)) m.funcs)
    ∙ ap (λ (ds : List Demand). record { types = map type_demand m.types.defs; globals = map global_demand m.globals; funcs = map func_demand m.funcs; declared = ds }) (demands_same (declaration_demand m.symbols) unplaced_declaration (λ d. refl) m.declared)

abbrev unplaced_left : Left → Left
unplaced_left l = record { types = map unplaced_type l.types; globals = map unplaced_global l.globals; funcs = map unplaced_func l.funcs; declared = map unplaced_declaration l.declared }

abbrev left : List TypeDef → List GlobalVar → List Func → List Declaration → Left
left types globals funcs declared = record { types = types; globals = globals; funcs = funcs; declared = declared }

placed_same : (ks : List Kind) (t : List TypeDef) (g : List GlobalVar) (f : List Func) (d : List Declaration) → placed ks (unplaced_left (left t g f d)) ≡ map unplaced_entity (placed ks (left t g f d))
placed_same [] t g f d = refl
placed_same (kinds.Target ∷ ks) t g f d = placed_same ks t g f d
placed_same (kinds.Type ∷ ks) [] g f d = placed_same ks [] g f d
placed_same (kinds.Type ∷ ks) (x ∷ xs) g f d = ap (λ (es : List Entity). DefinedType (unplaced_type x) ∷ es) (placed_same ks xs g f d)
placed_same (kinds.Global ∷ ks) t [] f d = placed_same ks t [] f d
placed_same (kinds.Global ∷ ks) t (x ∷ xs) f d = ap (λ (es : List Entity). Variable (unplaced_global x) ∷ es) (placed_same ks t xs f d)
placed_same (kinds.Func ∷ ks) t g [] d = placed_same ks t g [] d
placed_same (kinds.Func ∷ ks) t g (x ∷ xs) d = ap (λ (es : List Entity). Definition (unplaced_func x) ∷ es) (placed_same ks t g xs d)
placed_same (kinds.Declared ∷ ks) t g f [] = placed_same ks t g f []
placed_same (kinds.Declared ∷ ks) t g f (x ∷ xs) = ap (λ (es : List Entity). Declared (unplaced_declaration x) ∷ es) (placed_same ks t g f xs)

-- ---- the text

line_same : (w : Word) (o : Option (List ℕ)) (es : List Entity) → target_line w o ++ map unplaced_entity es ≡ map unplaced_entity (target_line w o ++ es)
line_same w None es = refl
line_same w (Some said) es = refl

entities_same : (m : modules.Module) → entities_of (unplaced m) ≡ map unplaced_entity (entities_of m)
entities_same m =
    ap (λ q. target_line words.DataLayout m.layout ++ (target_line words.Triple m.triple ++ placed (order q) (all_of (unplaced m)))) (all_demands m)
    ∙ ap (λ (es : List Entity). target_line words.DataLayout m.layout ++ (target_line words.Triple m.triple ++ es)) (placed_same (order (demands_of m)) m.types.defs m.globals m.funcs m.declared)
    ∙ ap (λ (es : List Entity). target_line words.DataLayout m.layout ++ es) (line_same words.Triple m.triple (placed (order (demands_of m)) (all_of m)))
    ∙ line_same words.DataLayout m.layout (target_line words.Triple m.triple ++ placed (order (demands_of m)) (all_of m))

pub printed_unplaced : (m : modules.Module) → printed (unplaced m) ≡ printed m
unfolding printed
printed_unplaced m = ap (page m.symbols m.types.names None) (entities_same m) ∙ page_same m.symbols m.types.names (entities_of m) None
