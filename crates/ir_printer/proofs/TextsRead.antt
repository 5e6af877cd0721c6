-- A text that was read, as the list of its entities, and what of them is printed.
use Rattle.std.proofs.Common.{◌≡◌, ◌⊎◌, inl, inr, refl, sym, ap, ◌∙◌, subst, ℕ, zero, suc, Bool, true, false, List, [], ◌∷◌, ◌++◌, map, length}
use Rattle.std.specs.Prelude.{Option, Some, None, fold}
use Rattle.std.specs.List.{flat_map, AllByRecursion as Every}
use Rattle.std.proofs.lemmas.List.{append_assoc, append-nil, map-append}
use Rattle.ir_core.specs.declared.ty.TypeDef.{TypeDef}
use Rattle.ir_core.specs.declared.func.Func.{Func}
use Rattle.ir_core.specs.declared.module.GlobalVar.{GlobalVar}
use Rattle.ir_core.specs.declared.module.Declaration.{Declaration}
use Rattle.ir_core.specs.declared.module.Module as modules
use Rattle.ir_core.specs.Places.{unplaced_func, unplaced_type, unplaced_global, unplaced_declaration, unplaced}
use Rattle.ir_grammar.specs.declared.kinds.Barred.TheVariants as barred
use Rattle.ir_grammar.specs.declared.parts.Definition.{Definition as Defined}
use Rattle.ir_grammar.specs.declared.parts.Draft.{Draft}
use Rattle.ir_grammar.specs.declared.parts.Entity as read_entities
use Rattle.ir_grammar.specs.declared.parts.Entity.TheVariants as entities
use Rattle.ir_grammar.specs.Pieces.{Piece}
use Rattle.ir_grammar.specs.Names.{Names, no_names}
use Rattle.ir_grammar.specs.Forms.{Rounds}
use Rattle.ir_grammar.specs.Tokens.{Limits}
use Rattle.ir_grammar.specs.Entities.{entity, no_entities, added, function_of, module_of, note_or_metadata, rest_of_note_or_metadata, after_declaration, next_entity, text_end, text_form}
use Rattle.ir_printer.specs.declared.words.Word.TheVariants as words
use Rattle.ir_printer.specs.declared.demands.Known.{Known}
use Rattle.ir_printer.specs.Layout.{Tables, tables}
use Rattle.ir_printer.specs.Order.{demand, known_beyond, fits}
use Rattle.ir_printer.specs.Printed.{Entity, TargetLine, entity_marks, locals_of}
use Rattle.ir_printer.specs.Tokens.{tokens_of, Are, AreSpellable}
use Rattle.ir_printer.specs.Reprints.{Front, AreSound}
use Rattle.ir_printer.proofs.Reprinting.{Indexed, sound_first, sound_last}
use Rattle.ir_printer.proofs.QuietForms.{quiet_token, quiet_note_rest, quiet_attribute, quiet_metadata_rest}
use Rattle.ir_printer.proofs.PrintedForms.{known, printed_entity, printed_of, IsReadEntity, PrintsEntities}
use Rattle.ir_printer.proofs.EntityOrder.{type_in, global_in, func_in, declared_in, Fitted, known_after}

-- ---- what a round of the text reads

-- the entities so far, whatever the last one is
abbrev plain : Draft → Draft
plain d = record d { declares = false }

-- a round says nothing, or reads an entity
abbrev Says : Limits → Draft → Names → List Piece → Draft → Names → Type 0
Says l d s u d1 t = ((plain d1 ≡ plain d) × (s ≡ t)) ⊎ ((x : read_entities.Entity) × (entity l (length d.definitions)).reads s u x t × (plain d1 ≡ plain (added d x)))

rest_says : (l : Limits) (d : Draft) (s : Names) (u : List Piece) (d1 : Draft) (t : Names) → (rest_of_note_or_metadata d).reads s u d1 t → (plain d1 ≡ plain d) × (s ≡ t)
rest_says l d s u d1 t (inl r) = (ap (λ (x : Draft × Names). plain x.0) (sym r.6.1), quiet_note_rest.same s r.2 r.0 r.1 r.5 ∙ ap (λ (x : Draft × Names). x.1) r.6.1)
rest_says l d s u d1 t (inr r) = (ap (λ (x : Draft × Names). plain x.0) (sym r.6.1), quiet_metadata_rest.same s r.2 r.0 r.1 r.5 ∙ ap (λ (x : Draft × Names). x.1) r.6.1)

note_says : (l : Limits) (d : Draft) (s : Names) (u : List Piece) (d1 : Draft) (t : Names) → (note_or_metadata d).reads s u d1 t → (plain d1 ≡ plain d) × (s ≡ t)
unfolding note_or_metadata
note_says l d s u d1 t r = let q = rest_says l d r.1 r.3 d1 t r.6 in (q.0, (quiet_token _).same s r.2 r.0 r.1 r.5 ∙ q.1)

says_entity : (l : Limits) (d : Draft) (s : Names) (u u1 u2 : List Piece) (x : read_entities.Entity) (s1 : Names) (d1 : Draft) (t : Names) → u ≡ u1 ++ u2 → (entity l (length d.definitions)).reads s u1 x s1 → u2 ≡ [] → ◌≡◌ {A = Draft × Names} (added d x, s1) (d1, t) → Says l d s u d1 t
says_entity l d s u u1 u2 x s1 d1 t whole r none e =
    let same : u1 ≡ u = sym (append-nil u1) ∙ ap (λ (v : List Piece). u1 ++ v) (sym none) ∙ sym whole in
    inr (x, subst (λ (v : List Piece). (entity l (length d.definitions)).reads s v x t) same (subst (λ (z : Draft × Names). (entity l (length d.definitions)).reads s u1 x z.1) e r), ap (λ (z : Draft × Names). plain z.0) (sym e))

after_says : (l : Limits) (d : Draft) (s : Names) (u : List Piece) (d1 : Draft) (t : Names) → (after_declaration l d).reads s u d1 t → Says l d s u d1 t
unfolding after_declaration entity
after_says l d s u d1 t (inl r) = inl (note_says l d s u d1 t r)
after_says l d s u d1 t (inr (inl r)) = inl (ap (λ (x : Draft × Names). plain x.0) (sym r.6.1), (quiet_attribute barred.Nothing).same s r.2 r.0 r.1 r.5 ∙ ap (λ (x : Draft × Names). x.1) r.6.1)
after_says l d s u d1 t (inr (inr r)) = says_entity l d s u r.2 r.3 r.0 r.1 d1 t r.4 (inr r.5) r.6.0 r.6.1

round_says : (l : Limits) (d : Draft) (b : Bool) (s : Names) (u : List Piece) (d1 : Draft) (t : Names) → (next_entity l d b).reads s u d1 t → Says l d s u d1 t
round_says l d true s u d1 t r = after_says l d s u d1 t r
round_says l d false s u d1 t r = says_entity l d s u r.2 r.3 r.0 r.1 d1 t r.4 r.5 r.6.0 r.6.1

-- ---- the entities of a text

-- these entities were read one after the other
abbrev pub HasRead : Limits → Names → List read_entities.Entity → Names → Type 0
HasRead l s [] t = s ≡ t
HasRead l s (x ∷ xs) t = (count : ℕ) × (u : List Piece) × (s1 : Names) × AreSound u × (entity l count).reads s u x s1 × HasRead l s1 xs t

added_plain : (d e : Draft) (x : read_entities.Entity) → plain d ≡ plain e → plain (added d x) ≡ plain (added e x)
added_plain d e entities.Nothing h = h
added_plain d e (entities.Layout said) h = ap (λ (y : Draft). record y { layout = Some said }) h
added_plain d e (entities.Triple said) h = ap (λ (y : Draft). record y { triple = Some said }) h
added_plain d e (entities.NoInline name) h = ap (λ (y : Draft). record y { noinline = y.noinline ++ name ∷ [] }) h
added_plain d e (entities.Type x) h = ap (λ (y : Draft). record y { types = y.types ++ x ∷ [] }) h
added_plain d e (entities.Global x) h = ap (λ (y : Draft). record y { globals = y.globals ++ x ∷ [] }) h
added_plain d e (entities.Define x) h = ap (λ (y : Draft). record y { definitions = y.definitions ++ x ∷ [] }) h
added_plain d e (entities.Declare x) h = ap (λ (y : Draft). record y { declared = y.declared ++ x ∷ [] }) h

fold_plain : (xs : List read_entities.Entity) (d e : Draft) → plain d ≡ plain e → plain (fold added d xs) ≡ plain (fold added e xs)
fold_plain [] d e h = h
fold_plain (x ∷ xs) d e h = fold_plain xs (added d x) (added e x) (added_plain d e x h)

-- the module of a text, by its entities
abbrev IsRead : Limits → Draft → Names → modules.Module → Names → Type 0
IsRead l d s m t = (xs : List read_entities.Entity) × HasRead l s xs t × (m ≡ module_of (fold added d xs) t)

rounds_read : (l : Limits) (c : ℕ) (d : Draft) (s : Names) (u : List Piece) (m : modules.Module) (t : Names) → Rounds (λ (e : Draft). next_entity l e e.declares) text_end c d s u m t → AreSound u → IsRead l d s m t
rounds_read l zero d s u m t r sound = ([], r.5.3 ∙ ap (λ (x : modules.Module × Names). x.1) r.6.1, ap (λ (x : modules.Module × Names). x.0) (sym r.6.1) ∙ ap (module_of d) (ap (λ (x : modules.Module × Names). x.1) r.6.1))
rounds_read l (suc c) d s u m t r sound = at (rounds_read l c r.0 r.1 r.3 m t r.6 (sound_last r.2 r.3 both)) (round_says l d d.declares s r.2 r.0 r.1 r.5)
  where
    both : AreSound (r.2 ++ r.3)
    both = subst AreSound r.4 sound

    at : IsRead l r.0 r.1 m t → Says l d s r.2 r.0 r.1 → IsRead l d s m t
    at more (inl q) = (more.0, subst (λ (y : Names). HasRead l y more.0 t) (sym q.1) more.1, more.2 ∙ ap (λ (y : Draft). module_of y t) (fold_plain more.0 r.0 d q.0))
    at more (inr q) = (q.0 ∷ more.0, (length d.definitions, r.2, r.1, sound_first r.2 r.3 both, q.1, more.1), more.2 ∙ ap (λ (y : Draft). module_of y t) (fold_plain more.0 r.0 (added d q.0) q.2))

pub text_read : (l : Limits) (u : List Piece) (m : modules.Module) (t : Names) → (text_form l).reads no_names u m t → AreSound u → IsRead l no_entities no_names m t
unfolding text_form
text_read l u m t r sound = rounds_read l r.0 no_entities no_names u m t r.1 sound

-- ---- what is printed of them

abbrev pub one_or_none : Option Entity → List Entity
one_or_none None = []
one_or_none (Some e) = e ∷ []

abbrev pub part_of : List (List ℕ) → read_entities.Entity → List Entity
part_of noinline x = one_or_none (printed_of noinline x)

abbrev pub parts_of : List (List ℕ) → List read_entities.Entity → List Entity
parts_of noinline xs = flat_map (part_of noinline) xs

-- an entity can be spelled, and is read from its marks wherever its names have come or are the next ones
abbrev pub IsPrintable : Tables → Limits → Entity → Type 0
IsPrintable n l e = AreSpellable (tables n.symbols n.types (locals_of e)) (entity_marks n.symbols e) × (
    (s2 : Names) (us : List Piece) → Front false n s2 → fits (known s2) (demand (entity_marks n.symbols e)) ≡ true → Are us (tokens_of (tables n.symbols n.types (locals_of e)) (entity_marks n.symbols e)) →
    (t2 : Names) × (printed_entity l).reads s2 us e t2 × Front false n t2 × (known t2 ≡ known_beyond (known s2) (demand (entity_marks n.symbols e))))

-- what is said of entities that were read from these names to those
pub record AreReprinted (n : Tables) (l : Limits) (s : Names) (es : List Entity) (t : Names) : Type 0 where
  pub front : Front false n s
  pub fitted : Fitted n.symbols (known s) es
  pub counted : known_after n.symbols (known s) es ≡ known t
  pub each : Every (IsPrintable n l) es

pub read_indexed : (n : Tables) (l : Limits) (noinline : List (List ℕ)) → PrintsEntities n l noinline → (xs : List read_entities.Entity) (s t : Names) → HasRead l s xs t → Indexed s → Indexed t
read_indexed n l noinline p [] s t r i = subst Indexed r i
read_indexed n l noinline p (x ∷ xs) s t r i = read_indexed n l noinline p xs r.2 t r.5 ((p r.0 s r.1 x r.2 r.4).indexed i)

pub read_reprinted : (n : Tables) (l : Limits) (noinline : List (List ℕ)) → PrintsEntities n l noinline → (xs : List read_entities.Entity) (s t : Names) → HasRead l s xs t → Front false n t → AreReprinted n l s (parts_of noinline xs) t
read_reprinted n l noinline p [] s t r front = record {
  front = subst (λ (y : Names). Front false n y) (sym r) front;
  fitted = tt;
  counted = ap known r;
  each = tt;
}
read_reprinted n l noinline p (x ∷ xs) s t r front = at (read_reprinted n l noinline p xs r.2 t r.5 front) (printed_of noinline x) refl
  where
    one : IsReadEntity n l noinline s r.1 x r.2
    one = p r.0 s r.1 x r.2 r.4

    at : AreReprinted n l r.2 (parts_of noinline xs) t → (o : Option Entity) → printed_of noinline x ≡ o → AreReprinted n l s (one_or_none o ++ parts_of noinline xs) t
    at more None e = subst (λ (y : Names). AreReprinted n l y (parts_of noinline xs) t) (sym (one.left_out e)) more
    at more (Some y) e =
        let h = one.prints more.front r.3 y e in
        record {
          front = one.fronts more.front;
          fitted = (h.fitting, subst (λ (l : Known). Fitted n.symbols l (parts_of noinline xs)) h.counted more.fitted);
          counted = ap (λ (l : Known). known_after n.symbols l (parts_of noinline xs)) (sym h.counted) ∙ more.counted;
          each = ((h.spellable, h.rereads), more.each);
        }

-- ---- the parts of the module

-- what a list of the entities so far holds, by the parts that are printed
fold_lists : {A B : Type 0} (get : Draft → List A) (f : A → B) (own : Entity → List B) (noinline : List (List ℕ)) →
    ((d : Draft) (x : read_entities.Entity) → map f (get (added d x)) ≡ map f (get d) ++ flat_map own (part_of noinline x)) →
    (xs : List read_entities.Entity) (d : Draft) → map f (get (fold added d xs)) ≡ map f (get d) ++ flat_map own (parts_of noinline xs)
fold_lists get f own noinline one [] d = sym (append-nil (map f (get d)))
fold_lists get f own noinline one (x ∷ xs) d =
    fold_lists get f own noinline one xs (added d x) ∙ ap (λ ys. ys ++ flat_map own (parts_of noinline xs)) (one d x)
    ∙ append_assoc (map f (get d)) (flat_map own (part_of noinline x)) (flat_map own (parts_of noinline xs))
    ∙ ap (λ ys. map f (get d) ++ ys) (sym (flat_both own (part_of noinline x) (parts_of noinline xs)))
  where
    flat_both : {C : Type 0} (g : Entity → List C) (es fs : List Entity) → flat_map g (es ++ fs) ≡ flat_map g es ++ flat_map g fs
    flat_both g [] fs = refl
    flat_both g (e ∷ es) fs = ap (λ ys. g e ++ ys) (flat_both g es fs) ∙ sym (append_assoc (g e) (flat_map g es) (flat_map g fs))

abbrev settled_func : List (List ℕ) → Defined → Func
settled_func noinline d = unplaced_func (function_of noinline d)

type_parts : (noinline : List (List ℕ)) (d : Draft) (x : read_entities.Entity) → map unplaced_type (added d x).types ≡ map unplaced_type d.types ++ flat_map type_in (part_of noinline x)
type_parts noinline d entities.Nothing = sym (append-nil _)
type_parts noinline d (entities.Layout said) = sym (append-nil _)
type_parts noinline d (entities.Triple said) = sym (append-nil _)
type_parts noinline d (entities.NoInline name) = sym (append-nil _)
type_parts noinline d (entities.Type x) = map-append unplaced_type d.types (x ∷ [])
type_parts noinline d (entities.Global x) = sym (append-nil _)
type_parts noinline d (entities.Define x) = sym (append-nil _)
type_parts noinline d (entities.Declare x) = sym (append-nil _)

global_parts : (noinline : List (List ℕ)) (d : Draft) (x : read_entities.Entity) → map unplaced_global (added d x).globals ≡ map unplaced_global d.globals ++ flat_map global_in (part_of noinline x)
global_parts noinline d entities.Nothing = sym (append-nil _)
global_parts noinline d (entities.Layout said) = sym (append-nil _)
global_parts noinline d (entities.Triple said) = sym (append-nil _)
global_parts noinline d (entities.NoInline name) = sym (append-nil _)
global_parts noinline d (entities.Type x) = sym (append-nil _)
global_parts noinline d (entities.Global x) = map-append unplaced_global d.globals (x ∷ [])
global_parts noinline d (entities.Define x) = sym (append-nil _)
global_parts noinline d (entities.Declare x) = sym (append-nil _)

func_parts : (noinline : List (List ℕ)) (d : Draft) (x : read_entities.Entity) → map (settled_func noinline) (added d x).definitions ≡ map (settled_func noinline) d.definitions ++ flat_map func_in (part_of noinline x)
func_parts noinline d entities.Nothing = sym (append-nil _)
func_parts noinline d (entities.Layout said) = sym (append-nil _)
func_parts noinline d (entities.Triple said) = sym (append-nil _)
func_parts noinline d (entities.NoInline name) = sym (append-nil _)
func_parts noinline d (entities.Type x) = sym (append-nil _)
func_parts noinline d (entities.Global x) = sym (append-nil _)
func_parts noinline d (entities.Define x) = map-append (settled_func noinline) d.definitions (x ∷ [])
func_parts noinline d (entities.Declare x) = sym (append-nil _)

declared_parts : (noinline : List (List ℕ)) (d : Draft) (x : read_entities.Entity) → map unplaced_declaration (added d x).declared ≡ map unplaced_declaration d.declared ++ flat_map declared_in (part_of noinline x)
declared_parts noinline d entities.Nothing = sym (append-nil _)
declared_parts noinline d (entities.Layout said) = sym (append-nil _)
declared_parts noinline d (entities.Triple said) = sym (append-nil _)
declared_parts noinline d (entities.NoInline name) = sym (append-nil _)
declared_parts noinline d (entities.Type x) = sym (append-nil _)
declared_parts noinline d (entities.Global x) = sym (append-nil _)
declared_parts noinline d (entities.Define x) = sym (append-nil _)
declared_parts noinline d (entities.Declare x) = map-append unplaced_declaration d.declared (x ∷ [])

-- ---- the lines of the layout and of the triple

abbrev pub layout_after : Option (List ℕ) → Entity → Option (List ℕ)
layout_after o (TargetLine words.DataLayout said) = Some said
layout_after o e = o

abbrev pub triple_after : Option (List ℕ) → Entity → Option (List ℕ)
triple_after o (TargetLine words.Triple said) = Some said
triple_after o e = o

layout_parts : (noinline : List (List ℕ)) (d : Draft) (x : read_entities.Entity) → (added d x).layout ≡ fold layout_after d.layout (part_of noinline x)
layout_parts noinline d entities.Nothing = refl
layout_parts noinline d (entities.Layout said) = refl
layout_parts noinline d (entities.Triple said) = refl
layout_parts noinline d (entities.NoInline name) = refl
layout_parts noinline d (entities.Type x) = refl
layout_parts noinline d (entities.Global x) = refl
layout_parts noinline d (entities.Define x) = refl
layout_parts noinline d (entities.Declare x) = refl

triple_parts : (noinline : List (List ℕ)) (d : Draft) (x : read_entities.Entity) → (added d x).triple ≡ fold triple_after d.triple (part_of noinline x)
triple_parts noinline d entities.Nothing = refl
triple_parts noinline d (entities.Layout said) = refl
triple_parts noinline d (entities.Triple said) = refl
triple_parts noinline d (entities.NoInline name) = refl
triple_parts noinline d (entities.Type x) = refl
triple_parts noinline d (entities.Global x) = refl
triple_parts noinline d (entities.Define x) = refl
triple_parts noinline d (entities.Declare x) = refl

fold_both : {A B : Type 0} (f : B → A → B) (b : B) (xs ys : List A) → fold f b (xs ++ ys) ≡ fold f (fold f b xs) ys
fold_both f b [] ys = refl
fold_both f b (x ∷ xs) ys = fold_both f (f b x) xs ys

fold_lines : (get : Draft → Option (List ℕ)) (step : Option (List ℕ) → Entity → Option (List ℕ)) (noinline : List (List ℕ)) →
    ((d : Draft) (x : read_entities.Entity) → get (added d x) ≡ fold step (get d) (part_of noinline x)) →
    (xs : List read_entities.Entity) (d : Draft) → get (fold added d xs) ≡ fold step (get d) (parts_of noinline xs)
fold_lines get step noinline one [] d = refl
fold_lines get step noinline one (x ∷ xs) d =
    fold_lines get step noinline one xs (added d x) ∙ ap (λ (o : Option (List ℕ)). fold step o (parts_of noinline xs)) (one d x)
    ∙ sym (fold_both step (get d) (part_of noinline x) (parts_of noinline xs))

-- ---- the module

-- the module of entities that are printed, and of names
abbrev pub assembled : List Entity → Names → modules.Module
assembled es t = record {
  symbols = t.symbols;
  types = record { names = t.types; defs = flat_map type_in es };
  globals = flat_map global_in es;
  funcs = flat_map func_in es;
  declared = flat_map declared_in es;
  layout = fold layout_after None es;
  triple = fold triple_after None es;
}

mapped_twice : {A B C : Type 0} (f : B → C) (g : A → B) (xs : List A) → map f (map g xs) ≡ map (λ x. f (g x)) xs
mapped_twice f g [] = refl
mapped_twice f g (x ∷ xs) = ap (λ ys. f (g x) ∷ ys) (mapped_twice f g xs)

same_modules : (t : Names) {a a2 : List TypeDef} {b b2 : List GlobalVar} {c c2 : List Func} {d d2 : List Declaration} {l l2 r r2 : Option (List ℕ)} → a ≡ a2 → b ≡ b2 → c ≡ c2 → d ≡ d2 → l ≡ l2 → r ≡ r2 →
    ◌≡◌ {A = modules.Module} (record { symbols = t.symbols; types = record { names = t.types; defs = a }; globals = b; funcs = c; declared = d; layout = l; triple = r })
    (record { symbols = t.symbols; types = record { names = t.types; defs = a2 }; globals = b2; funcs = c2; declared = d2; layout = l2; triple = r2 })
same_modules t {a2 = a2} {b = b} {b2 = b2} {c = c} {c2 = c2} {d = d} {d2 = d2} {l = l} {l2 = l2} {r = r} e f g h i j =
    ap (λ (x : List TypeDef). made x b c d l r) e ∙ ap (λ (x : List GlobalVar). made a2 x c d l r) f ∙ ap (λ (x : List Func). made a2 b2 x d l r) g
    ∙ ap (λ (x : List Declaration). made a2 b2 c2 x l r) h ∙ ap (λ (x : Option (List ℕ)). made a2 b2 c2 d2 x r) i ∙ ap (λ (x : Option (List ℕ)). made a2 b2 c2 d2 l2 x) j
  where
    made : List TypeDef → List GlobalVar → List Func → List Declaration → Option (List ℕ) → Option (List ℕ) → modules.Module
    made x y z w p q = record { symbols = t.symbols; types = record { names = t.types; defs = x }; globals = y; funcs = z; declared = w; layout = p; triple = q }

-- the module that was read, without its places
pub module_read : (xs : List read_entities.Entity) (t : Names) → unplaced (module_of (fold added no_entities xs) t) ≡ assembled (parts_of (fold added no_entities xs).noinline xs) t
module_read xs t =
    let d = fold added no_entities xs in
    let noinline = d.noinline in
    same_modules t
    (fold_lists (λ (y : Draft). y.types) unplaced_type type_in noinline (type_parts noinline) xs no_entities)
    (fold_lists (λ (y : Draft). y.globals) unplaced_global global_in noinline (global_parts noinline) xs no_entities)
    (mapped_twice unplaced_func (function_of noinline) d.definitions ∙ fold_lists (λ (y : Draft). y.definitions) (settled_func noinline) func_in noinline (func_parts noinline) xs no_entities)
    (fold_lists (λ (y : Draft). y.declared) unplaced_declaration declared_in noinline (declared_parts noinline) xs no_entities)
    (fold_lines (λ (y : Draft). y.layout) layout_after noinline (layout_parts noinline) xs no_entities)
    (fold_lines (λ (y : Draft). y.triple) triple_after noinline (triple_parts noinline) xs no_entities)
