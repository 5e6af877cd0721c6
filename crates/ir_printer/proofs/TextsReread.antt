-- A printed text is read as its entities.
use Rattle.std.proofs.Common.{◌≡◌, inr, refl, sym, ap, ◌∙◌, subst, ℕ, ◌+◌, ◌≤◌, arith, zero, suc, Bool, true, false, if◌then◌else◌, List, [], ◌∷◌, ◌++◌, length}
use Rattle.std.proofs.lemmas.Bool.Decides.{nat_tests}
use Rattle.std.specs.Prelude.{Option, Some, None, fold}
use Rattle.std.specs.List.{flat_map, AllByRecursion as Every}
use Rattle.std.proofs.lemmas.List.{append_assoc, append-nil, length-append}
use Rattle.oi_base.specs.declared.ids.Place.{Place}
use Rattle.ir_lexer.specs.declared.table.Token.{Token}
use Rattle.ir_lexer.specs.declared.table.Token.TheVariants as tokens
use Rattle.ir_lexer.specs.declared.table.Spot.{Spot}
use Rattle.ir_lexer.specs.Lexing.{unread, next_token, gap_len}
use Rattle.ir_lexer.specs.Places.{next_place}
use Rattle.ir_lexer.specs.Table.{token_at}
use Rattle.ir_lexer.proofs.After.{past_separator}
use Rattle.ir_grammar.specs.declared.kinds.Kind.TheVariants as kinds
use Rattle.ir_grammar.specs.declared.parts.Draft.{Draft}
use Rattle.ir_grammar.specs.declared.parts.Entity as read_entities
use Rattle.ir_grammar.specs.declared.parts.Entity.TheVariants as entities
use Rattle.ir_grammar.specs.Pieces.{Piece, Is, then_more, pieces_at, pieces_of}
use Rattle.ir_grammar.specs.Names.{Names}
use Rattle.ir_grammar.specs.Sets.{has}
use Rattle.ir_grammar.specs.Forms.{Rounds}
use Rattle.ir_grammar.specs.Tokens.{Limits, is_past, kind, allows}
use Rattle.ir_grammar.specs.Entities.{entity, other_entity, added, module_of, after_declaration, next_entity, text_end}
use Rattle.ir_printer.specs.declared.order.Kind.{Kind}
use Rattle.ir_printer.specs.Layout.{Tables, tables, marks_text}
use Rattle.ir_printer.specs.Printed.{Entity, TargetLine, DefinedType, Variable, Definition, Declared, entity_marks, locals_of, kind_of, is_apart, page}
use Rattle.ir_printer.specs.Tokens.{tokens_of, Are}
use Rattle.ir_printer.specs.Reprints.{Front}
use Rattle.ir_grammar.proofs.Stream.{pieces_step}
use Rattle.ir_printer.proofs.TextTokens.{text_tokens}
use Rattle.ir_printer.proofs.PrintedForms.{known, printed_of, HasRoom, RereadsEntities}
use Rattle.ir_printer.proofs.EntityOrder.{func_in, Fitted, known_after}
use Rattle.ir_printer.proofs.TextsRead.{one_or_none, parts_of, IsPrintable}

-- ---- the pieces of a printed text

-- those of entities and then the end
abbrev pub PiecesAre : Tables → List Piece → List Entity → Type 0
PiecesAre n us [] = (end : Spot) × (us ≡ Is end ∷ []) × (end.token ≡ tokens.End)
PiecesAre n us (e ∷ es) = (u v : List Piece) × (us ≡ u ++ v) × Are u (tokens_of (tables n.symbols n.types (locals_of e)) (entity_marks n.symbols e)) × PiecesAre n v es

-- what stands after a line's end
line_end : (rest : List ℕ) (p : Place) → pieces_of (unread (10 ∷ rest) p) ≡ pieces_of (unread rest (next_place p 10))
line_end rest p =
    pieces_step (unread (10 ∷ rest) p) ∙ ap (λ o. then_more o (λ v. pieces_of v)) (past_separator 10 rest p refl) ∙ sym (pieces_step (unread rest (next_place p 10)))

blank_read : (b : Bool) (rest : List ℕ) (p : Place) → (q : Place) × (pieces_of (unread ((if b then 10 ∷ [] else []) ++ rest) p) ≡ pieces_of (unread rest q))
blank_read true rest p = (next_place p 10, line_end rest p)
blank_read false rest p = (p, refl)

text_end_piece : (p : Place) → pieces_of (unread [] p) ≡ Is (record { token = tokens.End; place = p }) ∷ []
unfolding pieces_of pieces_at next_token gap_len token_at
text_end_piece p = refl

pub page_pieces : (n : Tables) (l : Limits) (es : List Entity) (before : Option Kind) (p : Place) → Every (IsPrintable n l) es → PiecesAre n (pieces_of (unread (page n.symbols n.types before es) p)) es
page_pieces n l [] before p h = (record { token = tokens.End; place = p }, text_end_piece p, refl)
page_pieces n l (e ∷ es) before p h =
    let rest = page n.symbols n.types (Some (kind_of e)) es in
    let ms = entity_marks n.symbols e in
    let t = tables n.symbols n.types (locals_of e) in
    let text = marks_text t [] ms in
    let start = blank_read (is_apart before (kind_of e)) ((text ++ 10 ∷ []) ++ rest) p in
    let here = text_tokens t [] ms (10 ∷ rest) start.0 refl h.0.0 refl in
    let more = next_place here.1 10 in (
      here.0,
      pieces_of (unread rest more),
      start.1 ∙ ap (λ (bs : List ℕ). pieces_of (unread bs start.0)) (append_assoc text (10 ∷ []) rest) ∙ here.3 ∙ ap (λ (us : List Piece). here.0 ++ us) (line_end rest here.1),
      here.2,
      page_pieces n l es (Some (kind_of e)) more h.1,
    )

-- ---- they are read

-- entities are read again after others
pub record Reread (n : Tables) (l : Limits) (d : Draft) (s : Names) (us : List Piece) (es : List Entity) : Type 0 where
  pub entities : List read_entities.Entity
  pub after : Names
  pub count : ℕ
  pub rounds : Rounds (λ (e : Draft). next_entity l e e.declares) text_end count d s us (module_of (fold added d entities) after) after
  pub same : parts_of [] entities ≡ es
  pub groups : (fold added d entities).noinline ≡ d.noinline
  pub front : Front false n after
  pub counted : known after ≡ known_after n.symbols (known s) es

no_group : (d : Draft) (x : read_entities.Entity) (e : Entity) → printed_of [] x ≡ Some e → (added d x).noinline ≡ d.noinline
no_group d entities.Nothing e h = refl
no_group d (entities.Layout said) e h = refl
no_group d (entities.Triple said) e h = refl
no_group d (entities.NoInline name) e h = absurd cc
no_group d (entities.Type x) e h = refl
no_group d (entities.Global x) e h = refl
no_group d (entities.Define x) e h = refl
no_group d (entities.Declare x) e h = refl

next_reads : (l : Limits) (d : Draft) (b : Bool) (s : Names) (u : List Piece) (x : read_entities.Entity) (t : Names) → (other_entity l (length d.definitions)).reads s u x t → (next_entity l d b).reads s u (added d x) t
unfolding after_declaration entity
next_reads l d true s u x t r = inr (inr (x, t, u, [], sym (append-nil u), r, (refl, refl)))
next_reads l d false s u x t r = (x, t, u, [], sym (append-nil u), inr r, (refl, refl))

-- ---- room for definitions

past_less : (most : Option ℕ) (j k : ℕ) → j ≤ k → is_past most k ≡ false → is_past most j ≡ false
past_less None j k h e = refl
past_less (Some n) j k h e = grind (arith, nat_tests)

-- how many definitions there are with an entity
abbrev defined : List Entity → ℕ
defined es = length (flat_map func_in es)

one_more : (d : Draft) (x : read_entities.Entity) (e : Entity) → printed_of [] x ≡ Some e → length (added d x).definitions ≡ length d.definitions + length (func_in e)
one_more d x e h = at x h
  where
    is_printed : (f : Entity) → Some f ≡ Some e → f ≡ e
    is_printed f g = cc

    same : (f : Entity) → Some f ≡ Some e → length (func_in f) ≡ 0 → length d.definitions ≡ length d.definitions + length (func_in e)
    same f g z = let no : length (func_in e) ≡ 0 = ap (λ (y : Entity). length (func_in y)) (sym (is_printed f g)) ∙ z in omega (arith, no)

    at : (y : read_entities.Entity) → printed_of [] y ≡ Some e → length (added d y).definitions ≡ length d.definitions + length (func_in e)
    at entities.Nothing g = absurd cc
    at (entities.Layout said) g = same _ g refl
    at (entities.Triple said) g = same _ g refl
    at (entities.NoInline name) g = absurd cc
    at (entities.Type t) g = same _ g refl
    at (entities.Global v) g = same _ g refl
    at (entities.Define f) g = length-append d.definitions (f ∷ []) ∙ ap (λ (y : Entity). length d.definitions + length (func_in y)) (is_printed _ g)
    at (entities.Declare v) g = same _ g refl

-- where there is room for these definitions, there is for the first entity
has_room : (l : Limits) (count : ℕ) (e : Entity) (es : List Entity) → is_past l.functions (count + defined (e ∷ es)) ≡ false → HasRoom l count e
has_room l count (TargetLine w said) es h = tt
has_room l count (DefinedType d) es h = tt
has_room l count (Variable g) es h = tt
has_room l count (Definition f) es h = past_less l.functions (count + 1) (count + defined (Definition f ∷ es)) (omega arith) h
has_room l count (Declared d) es h = tt

-- and for those after it
room_after : (l : Limits) (d : Draft) (x : read_entities.Entity) (e : Entity) (es : List Entity) → printed_of [] x ≡ Some e → is_past l.functions (length d.definitions + defined (e ∷ es)) ≡ false → is_past l.functions (length (added d x).definitions + defined es) ≡ false
room_after l d x e es h room =
    let one = one_more d x e h in
    let both = length-append (func_in e) (flat_map func_in es) in
    let same : length (added d x).definitions + defined es ≡ length d.definitions + defined (e ∷ es) = omega (arith, one, both) in
    ap (λ (j : ℕ). is_past l.functions j) same ∙ room

pub reread : (n : Tables) (l : Limits) → RereadsEntities l → (es : List Entity) (d : Draft) (s : Names) (us : List Piece) → is_past l.functions (length d.definitions + length (flat_map func_in es)) ≡ false → Every (IsPrintable n l) es → Fitted n.symbols (known s) es → Front false n s → PiecesAre n us es → Reread n l d s us es
reread n l again [] d s us room every fitted front p = record {
  entities = [];
  after = s;
  count = zero;
  rounds = (tt, s, us, [], sym (append-nil us), (p.0, p.1, ap (λ (t : Token). allows (has (kind kinds.End) t)) p.2, refl), (refl, refl));
  same = refl;
  groups = refl;
  front = front;
  counted = refl;
}
reread n l again (e ∷ es) d s us room every fitted front p =
    let h = every.0.1 s p.0 front fitted.0 p.3 in
    let x = again (length d.definitions) s p.0 e h.0 (has_room l (length d.definitions) e es room) h.1 in
    let more = reread n l again es (added d x.0) h.0 p.1 (room_after l d x.0 e es x.2 room) every.1 (subst (λ l. Fitted n.symbols l es) (sym h.3) fitted.1) h.2 p.4 in
    record {
      entities = x.0 ∷ more.entities;
      after = more.after;
      count = suc more.count;
      rounds = (added d x.0, h.0, p.0, p.1, p.2, next_reads l d d.declares s p.0 x.0 h.0 x.1, more.rounds);
      same = ap (λ (o : Option Entity). one_or_none o ++ parts_of [] more.entities) x.2 ∙ ap (λ (ys : List Entity). e ∷ ys) more.same;
      groups = more.groups ∙ no_group d x.0 e x.2;
      front = more.front;
      counted = more.counted ∙ ap (λ l. known_after n.symbols l es) h.3;
    }
