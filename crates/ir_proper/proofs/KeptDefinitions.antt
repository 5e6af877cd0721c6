-- A definition keeps the names of its module, and its function is proper.
use Rattle.std.proofs.Common.{◌≡◌, ℕ, ◌≤◌, ◌+◌, Bool, true, false, nat_lt, List, refl, sym, ap, ◌∙◌, subst, arith}
use Rattle.std.specs.Prelude.{⊤, codes}
use Rattle.std.specs.List.{AllByRecursion as Each}
use Rattle.std.specs.Str.{bytes_eq}
use Rattle.std.proofs.lemmas.Bool.Decides.{nat_tests}
use Rattle.oi_base.specs.declared.ids.Place.{Place}
use Rattle.ir_lexer.specs.declared.table.Token.{Token}
use Rattle.ir_lexer.specs.declared.table.Token.TheVariants as tokens
use Rattle.ir_core.specs.declared.limits.TheConstants.{MOST_FUNCTIONS}
use Rattle.ir_core.specs.declared.ty.IrType.{IrType}
use Rattle.ir_core.specs.declared.module.SymId.{SymId}
use Rattle.ir_core.specs.declared.op.LocalId.{LocalId}
use Rattle.ir_core.specs.declared.func.Block.{Block}
use Rattle.ir_core.specs.declared.func.Param.{Param}
use Rattle.ir_core.specs.declared.func.Func.{Func}
use Rattle.ir_core.specs.Parts.{func_types, typed_consts, func_consts, func_symbols}
use Rattle.ir_core.specs.Proper.{IsProperFunc}
use Rattle.ir_grammar.specs.declared.kinds.Kind.TheVariants as kinds
use Rattle.ir_grammar.specs.declared.kinds.Barred.TheVariants as barred
use Rattle.ir_grammar.specs.declared.parts.Marks.{Marks}
use Rattle.ir_grammar.specs.declared.parts.Entity.{Entity}
use Rattle.ir_grammar.specs.declared.parts.Entity.TheVariants as entities
use Rattle.ir_grammar.specs.Pieces.{Piece}
use Rattle.ir_grammar.specs.Names.{Names, no_locals}
use Rattle.ir_grammar.specs.Forms.{Form, act, ret, Takes, ◌>>=◌}
use Rattle.ir_grammar.specs.Tokens.{Limits, stated, is_past, kind}
use Rattle.ir_grammar.specs.Types.{type_form}
use Rattle.ir_grammar.specs.Values.{global}
use Rattle.ir_grammar.specs.Attributes.{no_marks, attribute_list, attributes_and_notes}
use Rattle.ir_grammar.specs.Operations.{in_brackets}
use Rattle.ir_grammar.specs.Bodies.{body}
use Rattle.ir_grammar.specs.Entities.{param_name, param, define_if, define_of, without_groups, locals_so_far, forget_locals, definition}
use Rattle.ir_proper.proofs.Kept.{each_right, CleanPiece, Clean, Fine, begins_same, Grows, grows_same, Any, Keeps, keeps_ret, keeps_act, keeps_token, keeps_then, keeps_either, keeps_located}
use Rattle.ir_proper.proofs.KeptNames.{KnownSymbol, KnownLocal, keeps_define, keeps_define_next}
use Rattle.ir_proper.proofs.KeptTokens.{keeps_text}
use Rattle.ir_proper.proofs.Good.{GoodType}
use Rattle.ir_proper.proofs.GoodFunc.{GoodParam, GoodParts, types_good, const_types_good, symbols_good, proper_func}
use Rattle.ir_proper.proofs.KeptTypes.{keeps_type}
use Rattle.ir_proper.proofs.KeptValues.{keeps_global}
use Rattle.ir_proper.proofs.KeptAttributes.{keeps_attribute_list, keeps_attributes_and_notes}
use Rattle.ir_proper.proofs.KeptLists.{keeps_in_brackets}
use Rattle.ir_proper.proofs.KeptBodies.{keeps_body}
use Rattle.ir_proper.proofs.Ends.{Ends, ends_then}

-- ---- parameters

keeps_param_name : {n : Names} {H : Type 0} → Keeps true n H param_name (KnownLocal n)
unfolding param_name
keeps_param_name = keeps_either (kind kinds.Local) (keeps_then (keeps_text kinds.Local) (λ (name : List ℕ). keeps_define name)) keeps_define_next

keeps_param : {n : Names} {H : Type 0} (l : Limits) → Keeps true n H (param l) (GoodParam n)
unfolding param
keeps_param l =
    keeps_then (keeps_type l) (λ (t : IrType). keeps_then (keeps_attribute_list barred.Values no_marks) (λ (m : Marks). keeps_then keeps_param_name (λ (x : LocalId). keeps_ret (record { ty = t; name = x }) (λ g. record { ty = g.1.1.0; name = g.0 }))))

-- ---- the word `define`

define_few : (c past : Bool) (u : Unit) → define_if c past ≡ Takes u → past ≡ false
define_few true true u e = absurd cc
define_few true false u e = refl
define_few false past u e = absurd cc

few_before : (k : ℕ) → nat_lt MOST_FUNCTIONS (k + 1) ≡ false → k + 1 ≤ MOST_FUNCTIONS
few_before k e = grind (arith, nat_tests)

define_right : (l : Limits) (k : ℕ) (t : Token) (u : Unit) → define_of l k t ≡ Takes u → l ≡ stated → k + 1 ≤ MOST_FUNCTIONS
define_right l k (tokens.Word w) u e same = few_before k (subst (λ (x : Limits). is_past x.functions (k + 1) ≡ false) same (define_few (bytes_eq w (codes "define")) (is_past l.functions (k + 1)) u e))
define_right l k (tokens.Int n) u e same = absurd cc
define_right l k (tokens.Label n) u e same = absurd cc
define_right l k (tokens.Local n) u e same = absurd cc
define_right l k (tokens.Global n) u e same = absurd cc
define_right l k (tokens.Str n) u e same = absurd cc
define_right l k (tokens.CStr n) u e same = absurd cc
define_right l k (tokens.Meta n) u e same = absurd cc
define_right l k (tokens.Hash n) u e same = absurd cc
define_right l k (tokens.Sign n) u e same = absurd cc
define_right l k tokens.End u e same = absurd cc

-- ---- what stands after it

abbrev made : Place → SymId → Marks → IrType → List Param → List Block → List (List ℕ) → Entity
made p f m t ps bs names = entities.Define (record {
  func = record { place = p; name = f; internal = m.internal; noinline = m.noinline; result = t; params = ps; locals = names; blocks = bs };
  groups = m.groups;
})

abbrev Parts_form : Limits → Place → Form Entity
Parts_form l p = do
  m1 ← attribute_list barred.Values no_marks
  t ← type_form l
  f ← global
  ps ← in_brackets l (param l)
  m ← attributes_and_notes (without_groups m1)
  bs ← body l
  names ← act locals_so_far
  ret (made p f m t ps bs names)

abbrev MadeWell : Limits → Names → Entity → Type 0
MadeWell l n (entities.Define d) = GoodParts l n d.func
MadeWell l n e = ⊥

keeps_parts : {n : Names} {H : Type 0} (l : Limits) (p : Place) → Keeps true n H (Parts_form l p) (MadeWell l n)
keeps_parts {n = n} l p =
    keeps_then (keeps_attribute_list barred.Values no_marks) (λ (m1 : Marks). keeps_then (keeps_type l) (λ (t : IrType). keeps_then keeps_global (λ (f : SymId). keeps_then (keeps_in_brackets l (GoodParam n) (keeps_param l)) (λ (ps : List Param).
    keeps_then (keeps_attributes_and_notes (without_groups m1)) (λ (m : Marks). keeps_then (keeps_body l) (λ (bs : List Block). keeps_then (keeps_act {P = Any} locals_so_far (grows_same true) (λ g s w k. (tt, w))) (λ (names : List (List ℕ)). keeps_ret (made p f m t ps bs names)
    (λ g. record { name = g.1.1.1.1.0; result = g.1.1.1.1.1.0; params = g.1.1.1.0.0; few = g.1.1.1.0.1; blocks = g.1.0.0; some = g.1.0.1 }))))))))

-- the function's locals are those at the end
abbrev LocalsAre : Entity → Names → Type 0
LocalsAre (entities.Define d) t = d.func.locals ≡ t.locals
LocalsAre e t = ⊤

locals_end : (p : Place) (f : SymId) (m : Marks) (t : IrType) (ps : List Param) (bs : List Block) → Ends (act locals_so_far >>= (λ (names : List (List ℕ)). ret (made p f m t ps bs names))) LocalsAre
locals_end p f m t ps bs = record { so = at }
  where
    at : (s : Names) (u : List Piece) (e : Entity) (s' : Names) → (act locals_so_far >>= (λ (names : List (List ℕ)). ret (made p f m t ps bs names))).reads s u e s' → LocalsAre e s'
    at s u e s' r =
        let names : s.locals ≡ r.0 = ap (λ (q : List (List ℕ) × Names). q.0) r.5.1 in
        let same : s ≡ r.1 = ap (λ (q : List (List ℕ) × Names). q.1) r.5.1 in
        subst (λ (q : Entity × Names). LocalsAre q.0 q.1) r.6.1 (sym names ∙ ap (λ (x : Names). x.locals) same)

parts_locals : (l : Limits) (p : Place) → Ends (Parts_form l p) LocalsAre
parts_locals l p =
    ends_then (attribute_list barred.Values no_marks) (λ (m1 : Marks). ends_then (type_form l) (λ (t : IrType). ends_then global (λ (f : SymId). ends_then (in_brackets l (param l)) (λ (ps : List Param).
    ends_then (attributes_and_notes (without_groups m1)) (λ (m : Marks). ends_then (body l) (λ (bs : List Block). locals_end p f m t ps bs))))))

-- ---- definitions

-- a function that is proper, of which the symbols and type names are there
pub record GoodFunc (n : Names) (f : Func) : Type 0 where
  pub proper : IsProperFunc f
  pub symbols : Each (KnownSymbol n) (func_symbols f)
  pub types : Each (GoodType n) (func_types f)
  pub consts : Each (GoodType n) (typed_consts (func_consts f))

-- so many definitions came before
abbrev pub GoodDefine : Names → ℕ → Entity → Type 0
GoodDefine n k (entities.Define d) = GoodFunc n d.func × (k + 1 ≤ MOST_FUNCTIONS)
GoodDefine n k e = ⊥

-- within the limits of a text
abbrev pub GoodWithin : Limits → Names → ℕ → Entity → Type 0
GoodWithin l n k e = l ≡ stated → GoodDefine n k e

-- the names at the end of a function, among those of the module
abbrev within : Names → Names → Names
within n t = record n { locals = t.locals }

made_good : (n t : Names) (k : ℕ) (e : Entity) → Fine t → MadeWell stated (within n t) e → LocalsAre e t → k + 1 ≤ MOST_FUNCTIONS → GoodDefine n k e
made_good n t k (entities.Define d) w h same few = (
  record {
    proper = proper_func (within n t) d.func h w.locals same;
    symbols = symbols_good (within n t) d.func h;
    types = types_good (within n t) d.func h;
    consts = const_types_good (within n t) d.func h;
  },
  few,
)
made_good n t k entities.Nothing w h same few = absurd h
made_good n t k (entities.Layout s) w h same few = absurd h
made_good n t k (entities.Triple s) w h same few = absurd h
made_good n t k (entities.NoInline s) w h same few = absurd h
made_good n t k (entities.Type d) w h same few = absurd h
made_good n t k (entities.Global g) w h same few = absurd h
made_good n t k (entities.Declare d) w h same few = absurd h

grows_within : (n t : Names) → Grows false t n → Grows true t (within n t)
grows_within n t h = record { symbols = h.symbols; types = h.types; locals = begins_same t.locals }

no_locals_fine : (s : Names) → Fine s → Fine (no_locals s)
no_locals_fine s w = record { symbols = w.symbols; types = w.types; locals = tt; clean = w.clean }

abbrev Forgetting : Limits → Place → Form Entity
Forgetting l p = act forget_locals >>= (λ (u : Unit). Parts_form l p)

-- the parts are read where no locals are left
forgotten : (l : Limits) (p : Place) (s : Names) (u : List Piece) (e : Entity) (t : Names) → (Forgetting l p).reads s u e t → (v : List Piece) × (Clean u → Clean v) × (Parts_form l p).reads (no_locals s) v e t
forgotten l p s u e t r = (r.3, λ c. each_right CleanPiece r.2 r.3 (subst Clean r.4 c), subst (λ (q : Unit × Names). (Parts_form l p).reads q.1 r.3 e t) (sym r.5.1) r.6)

keeps_forgetting : {n : Names} {H : Type 0} (l : Limits) (p : Place) (k : ℕ) → (H → l ≡ stated → k + 1 ≤ MOST_FUNCTIONS) → Keeps false n H (Forgetting l p) (GoodWithin l n k)
keeps_forgetting {n = n} l p k few = record {
  grows = λ s u e t r.
      let y = forgotten l p s u e t r in
      let h = (keeps_parts {n = t} {H = Unit {0}} l p).grows (no_locals s) y.0 e t y.2 in
      record { symbols = h.symbols; types = h.types; locals = tt };
  holds = λ g s u e t c w r more.
      let y = forgotten l p s u e t r in
      let x = (keeps_parts {n = within n t} {H = Unit {0}} l p).holds tt (no_locals s) y.0 e t (y.1 c) (no_locals_fine s w) y.2 (grows_within n t more) in
      (λ same. made_good n t k e x.1 (subst (λ (z : Limits). MadeWell z (within n t) e) same x.0) ((parts_locals l p).so (no_locals s) y.0 e t y.2) (few g same), x.1);
}

pub keeps_definition : {n : Names} {H : Type 0} (l : Limits) (k : ℕ) → Keeps false n H (definition l k) (GoodWithin l n k)
unfolding definition
keeps_definition l k =
    keeps_then (keeps_located (keeps_token {P = λ (u : Unit). l ≡ stated → k + 1 ≤ MOST_FUNCTIONS} (define_of l k) (λ g t u c e. define_right l k t u e))) (λ (w : Place × Unit). keeps_forgetting l w.0 k (λ g. g.0))
