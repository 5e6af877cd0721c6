-- Names are printed as they appear.
use Rattle.std.proofs.Common.{◌≡◌, refl, sym, ap, ◌∙◌, subst, ℕ, ◌+◌, ◌<◌, ◌≤◌, Bool, true, false, not, ◌||◌, List, [], ◌∷◌, ◌++◌, length}
use Rattle.std.specs.Prelude.{max}
use Rattle.std.proofs.lemmas.List.{append-nil}
use Rattle.ir_lexer.specs.declared.table.Token.{Token}
use Rattle.ir_lexer.specs.declared.table.Token.TheVariants as tokens
use Rattle.ir_lexer.specs.declared.table.Spot.{Spot}
use Rattle.ir_core.specs.declared.module.SymId.{SymId}
use Rattle.ir_core.specs.declared.ty.TypeName.{TypeName}
use Rattle.ir_grammar.specs.declared.kinds.Kind.TheVariants as kinds
use Rattle.ir_grammar.specs.Pieces.{Piece, Is, Bad}
use Rattle.ir_grammar.specs.Names.{Names, Begins, numbered, symbol, type_name}
use Rattle.ir_grammar.specs.Sets.{is_debug, are_digits, kind_if, kind_fits, OfKind}
use Rattle.ir_grammar.specs.Forms.{Form, act, token, Verdict, Takes, ◌>>=◌}
use Rattle.ir_grammar.specs.Tokens.{text_of, text_if, text}
use Rattle.ir_printer.specs.declared.marks.Mark.{Mark}
use Rattle.ir_printer.specs.declared.marks.Mark.TheVariants as marks
use Rattle.ir_printer.specs.Layout.{Tables, name_at}
use Rattle.ir_printer.specs.Tokens.{Are, IsName}
use Rattle.ir_printer.specs.Reprints.{counts, Front, IsSound, AreSound, IsReprinted}
use Rattle.ir_printer.proofs.Positions.{IsNamed, is_named, is_again, numbered_indexed}
use Rattle.ir_printer.proofs.Reprinting.{Indexed, IndexedTables, Prints, none_left}

-- ---- tokens with a name

pub global_is : (t : Token) (name : List ℕ) → text_of kinds.Global t ≡ Takes name → t ≡ tokens.Global name
global_is (tokens.Global x) name h = cc
global_is (tokens.Meta x) name h = at (is_debug x) h
  where
    at : (b : Bool) → text_if (kind_fits (kind_if (not b) kinds.Meta) (OfKind kinds.Global) || false) x ≡ Takes name → tokens.Meta x ≡ tokens.Global name
    at true h = cc
    at false h = cc
global_is (tokens.Hash x) name h = at (are_digits x) h
  where
    at : (b : Bool) → text_if (kind_fits (kind_if b kinds.Hash) (OfKind kinds.Global) || false) x ≡ Takes name → tokens.Hash x ≡ tokens.Global name
    at true h = cc
    at false h = cc
global_is (tokens.Int x) name h = cc
global_is (tokens.Word x) name h = cc
global_is (tokens.Label x) name h = cc
global_is (tokens.Local x) name h = cc
global_is (tokens.Str x) name h = cc
global_is (tokens.CStr x) name h = cc
global_is (tokens.Sign x) name h = cc
global_is tokens.End name h = cc

pub local_is : (t : Token) (name : List ℕ) → text_of kinds.Local t ≡ Takes name → t ≡ tokens.Local name
local_is (tokens.Local x) name h = cc
local_is (tokens.Meta x) name h = at (is_debug x) h
  where
    at : (b : Bool) → text_if (kind_fits (kind_if (not b) kinds.Meta) (OfKind kinds.Local) || false) x ≡ Takes name → tokens.Meta x ≡ tokens.Local name
    at true h = cc
    at false h = cc
local_is (tokens.Hash x) name h = at (are_digits x) h
  where
    at : (b : Bool) → text_if (kind_fits (kind_if b kinds.Hash) (OfKind kinds.Local) || false) x ≡ Takes name → tokens.Hash x ≡ tokens.Local name
    at true h = cc
    at false h = cc
local_is (tokens.Int x) name h = cc
local_is (tokens.Word x) name h = cc
local_is (tokens.Label x) name h = cc
local_is (tokens.Global x) name h = cc
local_is (tokens.Str x) name h = cc
local_is (tokens.CStr x) name h = cc
local_is (tokens.Sign x) name h = cc
local_is tokens.End name h = cc

pub label_is : (t : Token) (name : List ℕ) → text_of kinds.Label t ≡ Takes name → t ≡ tokens.Label name
label_is (tokens.Global x) name h = cc
label_is (tokens.Meta x) name h = at (is_debug x) h
  where
    at : (b : Bool) → text_if (kind_fits (kind_if (not b) kinds.Meta) (OfKind kinds.Label) || false) x ≡ Takes name → tokens.Meta x ≡ tokens.Label name
    at true h = cc
    at false h = cc
label_is (tokens.Hash x) name h = at (are_digits x) h
  where
    at : (b : Bool) → text_if (kind_fits (kind_if b kinds.Hash) (OfKind kinds.Label) || false) x ≡ Takes name → tokens.Hash x ≡ tokens.Label name
    at true h = cc
    at false h = cc
label_is (tokens.Int x) name h = cc
label_is (tokens.Word x) name h = cc
label_is (tokens.Label x) name h = cc
label_is (tokens.Local x) name h = cc
label_is (tokens.Str x) name h = cc
label_is (tokens.CStr x) name h = cc
label_is (tokens.Sign x) name h = cc
label_is tokens.End name h = cc

-- the piece of one token
abbrev pub One : Token → List Piece → Type 0
One t us = (q : Spot) × (us ≡ Is q ∷ []) × (q.token ≡ t)

pub one_piece : (t : Token) (us : List Piece) → Are us (t ∷ []) → One t us
one_piece t [] h = absurd h
one_piece t (Bad e ∷ us) h = absurd h
one_piece t (Is q ∷ us) h = (q, ap (λ (vs : List Piece). Is q ∷ vs) (none_left us h.1), h.0)

-- ---- symbols

symbol_is : (name : List ℕ) (s : Names) → symbol name s ≡ (record { 0 = (numbered name s.symbols).0 }, record s { symbols = (numbered name s.symbols).1 })
unfolding symbol
symbol_is name s = refl

abbrev pub symbol_form : Form SymId
symbol_form = text kinds.Global >>= λ n. act (symbol n)

abbrev pub symbol_mark : SymId → List Mark
symbol_mark x = marks.Symbol x ∷ []

-- what a name after `@` is
record IsSymbol (inside : Bool) (n : Tables) (s : Names) (a : SymId) (t : Names) (name : List ℕ) : Type 0 where
  named : IsNamed n.symbols s.symbols a.0 name t.symbols
  types : t.types ≡ s.types
  locals : t.locals ≡ s.locals

symbol_facts : (inside : Bool) (n : Tables) (name : List ℕ) (s : Names) (a : SymId) (t : Names) → symbol name s ≡ (a, t) → Front inside n t → IsSymbol inside n s a t name
symbol_facts inside n name s a t e front =
    let r = sym (symbol_is name s) ∙ e in
    subst (λ (x : SymId × Names). IsSymbol inside n s x.0 x.1 name) r (record {
      named = is_named n.symbols s.symbols name (subst (λ (x : SymId × Names). Begins n.symbols x.1.symbols) (sym r) front.0);
      types = refl;
      locals = refl;
    })

symbol_front : (inside : Bool) (n : Tables) (s : Names) (a : SymId) (t : Names) (name : List ℕ) → IsSymbol inside n s a t name → Front inside n t → Front inside n s
symbol_front inside n s a t name h front = (h.named.front, subst (λ (xs : List (List ℕ)). Begins n.types xs) h.types front.1, λ i. subst (λ (xs : List (List ℕ)). Begins n.locals xs) h.locals (front.2 i))

symbol_indexed : (name : List ℕ) (s : Names) (a : SymId) (t : Names) → symbol name s ≡ (a, t) → Indexed s → Indexed t
symbol_indexed name s a t e i = subst (λ (x : SymId × Names). Indexed x.1) (sym (symbol_is name s) ∙ e) (numbered_indexed name s.symbols i.0, i.1, i.2)

symbol_again : (inside : Bool) (n : Tables) (a : SymId) (s2 : Names) → IndexedTables n → Front inside n s2 → a.0 ≤ length s2.symbols → a.0 < length n.symbols →
    (t2 : Names) × (symbol (name_at n.symbols a.0) s2 ≡ (a, t2)) × Front inside n t2 × (counts t2 ≡ record (counts s2) { symbols = max (length s2.symbols) (a.0 + 1) })
symbol_again inside n a s2 i front next within =
    let name = name_at n.symbols a.0 in
    let g = is_again n.symbols s2.symbols a.0 i.0 front.0 next within in (
      record s2 { symbols = (numbered name s2.symbols).1 },
      symbol_is name s2 ∙ ap (λ (k : ℕ). (record { 0 = k }, record s2 { symbols = (numbered name s2.symbols).1 })) g.0,
      (g.1, front.1, front.2),
      ap (λ (k : ℕ). record (counts s2) { symbols = k }) g.2,
    )

-- a token with a name after `@`, and the name appears
abbrev pub symbol_by : (Token → Verdict (List ℕ)) → Form SymId
symbol_by v = token v >>= λ n. act (symbol n)

pub prints_symbol_by : {inside : Bool} {n : Tables} (v : Token → Verdict (List ℕ)) → ((t : Token) (name : List ℕ) → v t ≡ Takes name → t ≡ tokens.Global name) → IndexedTables n → Prints inside n (symbol_by v) (symbol_by v) [] symbol_mark
prints_symbol_by {inside = inside} {n = n} v is i = record {
  indexed = λ s u a t r x. symbol_indexed r.0 r.1 a t r.6.1 (subst Indexed r.5.3 x);
  fronts = λ s u a t r front. subst (λ (x : Names). Front inside n x) (sym r.5.3) (symbol_front inside n r.1 a t r.0 (symbol_facts inside n r.0 r.1 a t r.6.1 front) front);
  prints = λ s u a t r front sound. (
    symbol_mark a,
    refl,
    subst (λ (x : Names). IsReprinted inside n (symbol_by v) x a t (symbol_mark a)) (sym r.5.3)
        (made r.1 a t r.0 (ap v (sym (is r.5.0.token r.0 r.5.2)) ∙ r.5.2) (symbol_facts inside n r.0 r.1 a t r.6.1 front) (name_sound u r.2 r.3 r.5.0 r.0 r.4 r.5.1 (is r.5.0.token r.0 r.5.2) sound)),
  );
}
  where
    name_sound : (u u1 u2 : List Piece) (q : Spot) (name : List ℕ) → u ≡ u1 ++ u2 → u1 ≡ Is q ∷ [] → q.token ≡ tokens.Global name → AreSound u → IsName name
    name_sound u u1 u2 q name e f g sound =
        let all : AreSound (Is q ∷ u2) = subst AreSound (e ∙ ap (λ (vs : List Piece). vs ++ u2) f) sound in
        subst IsSound g all.0

    made : (s : Names) (a : SymId) (t : Names) (name : List ℕ) → v (tokens.Global name) ≡ Takes name → IsSymbol inside n s a t name → IsName name → IsReprinted inside n (symbol_by v) s a t (symbol_mark a)
    made s a t name takes h sound = record {
      ready = (h.named.next, tt);
      counted = counted;
      spellable = (subst IsName (sym h.named.named) sound, tt);
      rereads = λ s2 us front ready are. again s2 us front ready.0 (one_piece (tokens.Global (name_at n.symbols a.0)) us are);
    }
      where
        counted : counts t ≡ record (counts s) { symbols = max (length s.symbols) (a.0 + 1) }
        counted = ap (λ (k : ℕ). record (counts t) { symbols = k }) h.named.longer ∙ ap (λ (xs : List (List ℕ)). record { symbols = max (length s.symbols) (a.0 + 1); types = length xs; locals = length t.locals }) h.types ∙ ap (λ (xs : List (List ℕ)). record { symbols = max (length s.symbols) (a.0 + 1); types = length s.types; locals = length xs }) h.locals

        again : (s2 : Names) (us : List Piece) → Front inside n s2 → a.0 ≤ length s2.symbols → One (tokens.Global (name_at n.symbols a.0)) us → (t2 : Names) × (symbol_by v).reads s2 us a t2 × Front inside n t2 × (counts t2 ≡ record (counts s2) { symbols = max (length s2.symbols) (a.0 + 1) })
        again s2 us front next o =
            let name2 = name_at n.symbols a.0 in
            let g = symbol_again inside n a s2 i front next h.named.within in
            let takes2 : v (tokens.Global name2) ≡ Takes name2 = subst (λ (x : List ℕ). v (tokens.Global x) ≡ Takes x) (sym h.named.named) takes in
            (g.0, (name2, s2, us, [], sym (append-nil us), (o.0, o.1, ap v o.2 ∙ takes2, refl), (refl, g.1)), g.2, g.3)

pub prints_symbol : {inside : Bool} {n : Tables} → IndexedTables n → Prints inside n symbol_form symbol_form [] symbol_mark
prints_symbol i = prints_symbol_by (text_of kinds.Global) global_is i

-- ---- type names

type_is : (name : List ℕ) (s : Names) → type_name name s ≡ (record { 0 = (numbered name s.types).0 }, record s { types = (numbered name s.types).1 })
unfolding type_name
type_is name s = refl

abbrev pub type_form : Form TypeName
type_form = text kinds.Local >>= λ n. act (type_name n)

abbrev pub type_mark : TypeName → List Mark
type_mark x = marks.TypeName x ∷ []

-- what a name after `%` of a type is
record IsTypeName (inside : Bool) (n : Tables) (s : Names) (a : TypeName) (t : Names) (name : List ℕ) : Type 0 where
  named : IsNamed n.types s.types a.0 name t.types
  symbols : t.symbols ≡ s.symbols
  locals : t.locals ≡ s.locals

type_facts : (inside : Bool) (n : Tables) (name : List ℕ) (s : Names) (a : TypeName) (t : Names) → type_name name s ≡ (a, t) → Front inside n t → IsTypeName inside n s a t name
type_facts inside n name s a t e front =
    let r = sym (type_is name s) ∙ e in
    subst (λ (x : TypeName × Names). IsTypeName inside n s x.0 x.1 name) r (record {
      named = is_named n.types s.types name (subst (λ (x : TypeName × Names). Begins n.types x.1.types) (sym r) front.1);
      symbols = refl;
      locals = refl;
    })

type_front : (inside : Bool) (n : Tables) (s : Names) (a : TypeName) (t : Names) (name : List ℕ) → IsTypeName inside n s a t name → Front inside n t → Front inside n s
type_front inside n s a t name h front = (subst (λ (xs : List (List ℕ)). Begins n.symbols xs) h.symbols front.0, h.named.front, λ i. subst (λ (xs : List (List ℕ)). Begins n.locals xs) h.locals (front.2 i))

type_indexed : (name : List ℕ) (s : Names) (a : TypeName) (t : Names) → type_name name s ≡ (a, t) → Indexed s → Indexed t
type_indexed name s a t e i = subst (λ (x : TypeName × Names). Indexed x.1) (sym (type_is name s) ∙ e) (i.0, numbered_indexed name s.types i.1, i.2)

type_again : (inside : Bool) (n : Tables) (a : TypeName) (s2 : Names) → IndexedTables n → Front inside n s2 → a.0 ≤ length s2.types → a.0 < length n.types →
    (t2 : Names) × (type_name (name_at n.types a.0) s2 ≡ (a, t2)) × Front inside n t2 × (counts t2 ≡ record (counts s2) { types = max (length s2.types) (a.0 + 1) })
type_again inside n a s2 i front next within =
    let name = name_at n.types a.0 in
    let g = is_again n.types s2.types a.0 i.1 front.1 next within in (
      record s2 { types = (numbered name s2.types).1 },
      type_is name s2 ∙ ap (λ (k : ℕ). (record { 0 = k }, record s2 { types = (numbered name s2.types).1 })) g.0,
      (front.0, g.1, front.2),
      ap (λ (k : ℕ). record (counts s2) { types = k }) g.2,
    )

pub prints_type_name : {inside : Bool} {n : Tables} → IndexedTables n → Prints inside n type_form type_form [] type_mark
prints_type_name {inside = inside} {n = n} i = record {
  indexed = λ s u a t r x. type_indexed r.0 r.1 a t r.6.1 (subst Indexed r.5.3 x);
  fronts = λ s u a t r front. subst (λ (x : Names). Front inside n x) (sym r.5.3) (type_front inside n r.1 a t r.0 (type_facts inside n r.0 r.1 a t r.6.1 front) front);
  prints = λ s u a t r front sound. (type_mark a, refl, subst (λ (x : Names). IsReprinted inside n type_form x a t (type_mark a)) (sym r.5.3) (made r.1 a t r.0 (type_facts inside n r.0 r.1 a t r.6.1 front) (name_sound u r.2 r.3 r.5.0 r.0 r.4 r.5.1 (local_is r.5.0.token r.0 r.5.2) sound)));
}
  where
    name_sound : (u u1 u2 : List Piece) (q : Spot) (name : List ℕ) → u ≡ u1 ++ u2 → u1 ≡ Is q ∷ [] → q.token ≡ tokens.Local name → AreSound u → IsName name
    name_sound u u1 u2 q name e f g sound =
        let all : AreSound (Is q ∷ u2) = subst AreSound (e ∙ ap (λ (vs : List Piece). vs ++ u2) f) sound in
        subst IsSound g all.0

    made : (s : Names) (a : TypeName) (t : Names) (name : List ℕ) → IsTypeName inside n s a t name → IsName name → IsReprinted inside n type_form s a t (type_mark a)
    made s a t name h sound = record {
      ready = (h.named.next, tt);
      counted = counted;
      spellable = (subst IsName (sym h.named.named) sound, tt);
      rereads = λ s2 us front ready are. again s2 us front ready.0 (one_piece (tokens.Local (name_at n.types a.0)) us are);
    }
      where
        counted : counts t ≡ record (counts s) { types = max (length s.types) (a.0 + 1) }
        counted = ap (λ (k : ℕ). record (counts t) { types = k }) h.named.longer ∙ ap (λ (xs : List (List ℕ)). record { symbols = length xs; types = max (length s.types) (a.0 + 1); locals = length t.locals }) h.symbols ∙ ap (λ (xs : List (List ℕ)). record { symbols = length s.symbols; types = max (length s.types) (a.0 + 1); locals = length xs }) h.locals

        again : (s2 : Names) (us : List Piece) → Front inside n s2 → a.0 ≤ length s2.types → One (tokens.Local (name_at n.types a.0)) us → (t2 : Names) × type_form.reads s2 us a t2 × Front inside n t2 × (counts t2 ≡ record (counts s2) { types = max (length s2.types) (a.0 + 1) })
        again s2 us front next o =
            let name = name_at n.types a.0 in
            let g = type_again inside n a s2 i front next h.named.within in
            (g.0, (name, s2, us, [], sym (append-nil us), (o.0, o.1, ap (text_of kinds.Local) o.2, refl), (refl, g.1)), g.2, g.3)
