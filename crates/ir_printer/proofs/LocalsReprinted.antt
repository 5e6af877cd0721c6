-- Local names are printed as they appear, those without a name too.
use Rattle.std.proofs.Common.{◌≡◌, refl, sym, ap, ◌∙◌, subst, ℕ, ◌+◌, ◌<◌, ◌≤◌, true, false, ◌==◌, List, [], ◌∷◌, ◌++◌, length, arith}
use Rattle.std.specs.Prelude.{max, decimal}
use Rattle.std.specs.List.{list_all, list_any}
use Rattle.std.proofs.lemmas.List.{append-nil}
use Rattle.std.proofs.lemmas.Bool.Decides.{nat_tests}
use Rattle.ir_lexer.specs.declared.table.Token.{Token}
use Rattle.ir_lexer.specs.declared.table.Token.TheVariants as tokens
use Rattle.ir_lexer.specs.declared.table.Spot.{Spot}
use Rattle.ir_lexer.specs.Strings.{is_name}
use Rattle.ir_core.specs.declared.op.LocalId.{LocalId}
use Rattle.ir_grammar.specs.declared.kinds.Kind.{Kind}
use Rattle.ir_grammar.specs.declared.kinds.Kind.TheVariants as kinds
use Rattle.ir_grammar.specs.Pieces.{Piece, Is}
use Rattle.ir_grammar.specs.Names.{Names, Begins, numbered, local, define, define_next}
use Rattle.ir_grammar.specs.Forms.{Form, act, Takes, ◌>>=◌}
use Rattle.ir_grammar.specs.Tokens.{text_of, text}
use Rattle.ir_printer.specs.declared.marks.Mark.{Mark}
use Rattle.ir_printer.specs.declared.marks.Mark.TheVariants as marks
use Rattle.ir_printer.specs.Layout.{Tables, name_at}
use Rattle.std.specs.Char.{is_ascii_digit}
use Rattle.ir_printer.specs.Tokens.{is_byte, tokens_of, Are, IsName, AreSpellable}
use Rattle.ir_printer.specs.Reprints.{Counts, counts, after, AreReady, Front, IsSound, AreSound, IsReprinted}
use Rattle.ir_printer.proofs.Strings.{both, lt_true}
use Rattle.ir_printer.proofs.Digits.{decimal_digits, decimal_some}
use Rattle.ir_printer.proofs.Positions.{IsIndexed, IsNamed, is_named, is_again, numbered_indexed}
use Rattle.ir_printer.proofs.Reprinting.{Indexed, IndexedTables, Prints}
use Rattle.ir_printer.proofs.NamesReprinted.{One, one_piece, local_is, label_is}

-- how a local name may stand in a text
pub data Use : Type 0 where
  AsLocal : Use
  AsLabel : Use

abbrev pub kind_of : Use → Kind
kind_of AsLocal = kinds.Local
kind_of AsLabel = kinds.Label

abbrev pub mark_of : Use → LocalId → List Mark
mark_of AsLocal x = marks.Local x ∷ []
mark_of AsLabel x = marks.Label x ∷ []

abbrev token_of : Use → List ℕ → Token
token_of AsLocal name = tokens.Local name
token_of AsLabel name = tokens.Label name

token_is : (w : Use) (t : Token) (name : List ℕ) → text_of (kind_of w) t ≡ Takes name → t ≡ token_of w name
token_is AsLocal t name h = local_is t name h
token_is AsLabel t name h = label_is t name h

token_taken : (w : Use) (name : List ℕ) → text_of (kind_of w) (token_of w name) ≡ Takes name
token_taken AsLocal name = refl
token_taken AsLabel name = refl

token_sound : (w : Use) (name : List ℕ) → IsSound (token_of w name) → IsName name
token_sound AsLocal name h = h
token_sound AsLabel name h = h

mark_tokens : (w : Use) (n : Tables) (x : LocalId) → tokens_of n (mark_of w x) ≡ token_of w (name_at n.locals x.0) ∷ []
mark_tokens AsLocal n x = refl
mark_tokens AsLabel n x = refl

mark_ready : (w : Use) (c : Counts) (x : LocalId) → x.0 ≤ c.locals → AreReady c (mark_of w x)
mark_ready AsLocal c x h = (h, tt)
mark_ready AsLabel c x h = (h, tt)

ready_mark : (w : Use) (c : Counts) (x : LocalId) → AreReady c (mark_of w x) → x.0 ≤ c.locals
ready_mark AsLocal c x h = h.0
ready_mark AsLabel c x h = h.0

mark_after : (w : Use) (c : Counts) (x : LocalId) → after c (mark_of w x) ≡ record c { locals = max c.locals (x.0 + 1) }
mark_after AsLocal c x = refl
mark_after AsLabel c x = refl

mark_spellable : (w : Use) (n : Tables) (x : LocalId) → IsName (name_at n.locals x.0) → AreSpellable n (mark_of w x)
mark_spellable AsLocal n x h = (h, tt)
mark_spellable AsLabel n x h = (h, tt)

-- ---- acts on local names

-- the act numbers the name among the local names and leaves the others
pub record Numbers (h : Names → LocalId × Names) (name : List ℕ) : Type 0 where
  pub value : (s : Names) → (h s).0.0 ≡ (numbered name s.locals).0
  pub locals : (s : Names) → (h s).1.locals ≡ (numbered name s.locals).1
  pub symbols : (s : Names) → (h s).1.symbols ≡ s.symbols
  pub types : (s : Names) → (h s).1.types ≡ s.types

pub local_numbers : (name : List ℕ) → Numbers (local name) name
unfolding local
local_numbers name = record { value = λ s. refl; locals = λ s. refl; symbols = λ s. refl; types = λ s. refl }

pub define_numbers : (name : List ℕ) → Numbers (define name) name
unfolding define local
define_numbers name = record { value = λ s. refl; locals = λ s. refl; symbols = λ s. refl; types = λ s. refl }

-- what the name is, read from s to t
record IsLocal (n : Tables) (s : Names) (a : LocalId) (t : Names) (name : List ℕ) : Type 0 where
  named : IsNamed n.locals s.locals a.0 name t.locals
  symbols : t.symbols ≡ s.symbols
  types : t.types ≡ s.types

local_facts : (n : Tables) (h : Names → LocalId × Names) (name : List ℕ) (s : Names) (a : LocalId) (t : Names) → Numbers h name → h s ≡ (a, t) → Front true n t → IsLocal n s a t name
local_facts n h name s a t k e front =
    subst (λ (x : LocalId × Names). IsLocal n s x.0 x.1 name) e (record {
      named = subst (λ (xs : List (List ℕ)). IsNamed n.locals s.locals (h s).0.0 name xs) (sym (k.locals s))
          (subst (λ (j : ℕ). IsNamed n.locals s.locals j name (numbered name s.locals).1) (sym (k.value s))
          (is_named n.locals s.locals name (subst (λ (xs : List (List ℕ)). Begins n.locals xs) (ap (λ (x : LocalId × Names). x.1.locals) (sym e) ∙ k.locals s) (front.2 refl))));
      symbols = k.symbols s;
      types = k.types s;
    })

local_front : (n : Tables) (s : Names) (a : LocalId) (t : Names) (name : List ℕ) → IsLocal n s a t name → Front true n t → Front true n s
local_front n s a t name h front = (subst (λ (xs : List (List ℕ)). Begins n.symbols xs) h.symbols front.0, subst (λ (xs : List (List ℕ)). Begins n.types xs) h.types front.1, λ i. h.named.front)

local_indexed : (h : Names → LocalId × Names) (name : List ℕ) (s : Names) (a : LocalId) (t : Names) → Numbers h name → h s ≡ (a, t) → Indexed s → Indexed t
local_indexed h name s a t k e i = subst (λ (x : LocalId × Names). Indexed x.1) e
    (subst IsIndexed (sym (k.symbols s)) i.0, subst IsIndexed (sym (k.types s)) i.1, subst IsIndexed (sym (k.locals s)) (numbered_indexed name s.locals i.2))

same_counts : (s t : Names) (k : ℕ) → t.symbols ≡ s.symbols → t.types ≡ s.types → length t.locals ≡ k → counts t ≡ record (counts s) { locals = k }
same_counts s t k e f g =
    ap (λ (xs : List (List ℕ)). record { symbols = length xs; types = length t.types; locals = length t.locals }) e
    ∙ ap (λ (xs : List (List ℕ)). record { symbols = length s.symbols; types = length xs; locals = length t.locals }) f
    ∙ ap (λ (j : ℕ). record { symbols = length s.symbols; types = length s.types; locals = j }) g

abbrev pub local_form : Use → (List ℕ → Names → LocalId × Names) → Form LocalId
local_form w h = text (kind_of w) >>= λ name. act (h name)

local_again : (n : Tables) (w : Use) (h : List ℕ → Names → LocalId × Names) → ((name : List ℕ) → Numbers (h name) name) → IndexedTables n → (a : LocalId) → a.0 < length n.locals →
    (s2 : Names) (us : List Piece) → Front true n s2 → a.0 ≤ length s2.locals → One (token_of w (name_at n.locals a.0)) us →
    (t2 : Names) × (local_form w h).reads s2 us a t2 × Front true n t2 × (counts t2 ≡ record (counts s2) { locals = max (length s2.locals) (a.0 + 1) })
local_again n w h k i a within s2 us front next o =
    let name = name_at n.locals a.0 in
    let t2 = (h name s2).1 in
    let g = is_again n.locals s2.locals a.0 i.2 (front.2 refl) next within in
    let value : (h name s2).0 ≡ a = ap (λ (j : ℕ). record { 0 = j }) ((k name).value s2 ∙ g.0) in (
      t2,
      (name, s2, us, [], sym (append-nil us), (o.0, o.1, ap (text_of (kind_of w)) o.2 ∙ token_taken w name, refl), (refl, ap (λ (x : LocalId). (x, t2)) value)),
      (subst (λ (xs : List (List ℕ)). Begins n.symbols xs) (sym ((k name).symbols s2)) front.0, subst (λ (xs : List (List ℕ)). Begins n.types xs) (sym ((k name).types s2)) front.1, λ e. subst (λ (xs : List (List ℕ)). Begins n.locals xs) (sym ((k name).locals s2)) g.1),
      same_counts s2 t2 (max (length s2.locals) (a.0 + 1)) ((k name).symbols s2) ((k name).types s2) (ap length ((k name).locals s2) ∙ g.2),
    )

local_reprinted : (n : Tables) (w : Use) (h : List ℕ → Names → LocalId × Names) → ((name : List ℕ) → Numbers (h name) name) → IndexedTables n → (s : Names) (a : LocalId) (t : Names) (name : List ℕ) → IsLocal n s a t name → IsName name → IsReprinted true n (local_form w h) s a t (mark_of w a)
local_reprinted n w h k i s a t name l sound = record {
  ready = mark_ready w (counts s) a l.named.next;
  counted = same_counts s t (max (length s.locals) (a.0 + 1)) l.symbols l.types l.named.longer ∙ sym (mark_after w (counts s) a);
  spellable = mark_spellable w n a (subst IsName (sym l.named.named) sound);
  rereads = λ s2 us front ready are.
      (let r = local_again n w h k i a l.named.within s2 us front (ready_mark w (counts s2) a ready) (one_piece (token_of w (name_at n.locals a.0)) us (subst (λ (ts : List Token). Are us ts) (mark_tokens w n a) are)) in
      (r.0, r.1, r.2, r.3 ∙ sym (mark_after w (counts s2) a)));
}

name_sound : (w : Use) (u u1 u2 : List Piece) (q : Spot) (name : List ℕ) → u ≡ u1 ++ u2 → u1 ≡ Is q ∷ [] → q.token ≡ token_of w name → AreSound u → IsName name
name_sound w u u1 u2 q name e f g sound =
    let all : AreSound (Is q ∷ u2) = subst AreSound (e ∙ ap (λ (vs : List Piece). vs ++ u2) f) sound in
    token_sound w name (subst IsSound g all.0)

prints_act : {n : Tables} (w : Use) (h : List ℕ → Names → LocalId × Names) → ((name : List ℕ) → Numbers (h name) name) → IndexedTables n → Prints true n (local_form w h) (local_form w h) [] (mark_of w)
prints_act {n = n} w h k i = record {
  indexed = λ s u a t r x. local_indexed (h r.0) r.0 r.1 a t (k r.0) r.6.1 (subst Indexed r.5.3 x);
  fronts = λ s u a t r front. subst (λ (x : Names). Front true n x) (sym r.5.3) (local_front n r.1 a t r.0 (local_facts n (h r.0) r.0 r.1 a t (k r.0) r.6.1 front) front);
  prints = λ s u a t r front sound. (
    mark_of w a,
    refl,
    subst (λ (x : Names). IsReprinted true n (local_form w h) x a t (mark_of w a)) (sym r.5.3)
        (local_reprinted n w h k i r.1 a t r.0 (local_facts n (h r.0) r.0 r.1 a t (k r.0) r.6.1 front) (name_sound w u r.2 r.3 r.5.0 r.0 r.4 r.5.1 (token_is w r.5.0.token r.0 r.5.2) sound)),
  );
}

-- a use of a local name
pub prints_local : {n : Tables} → IndexedTables n → Prints true n (text kinds.Local >>= λ name. act (local name)) (text kinds.Local >>= λ name. act (local name)) [] (λ x. marks.Local x ∷ [])
prints_local i = prints_act AsLocal local local_numbers i

-- a definition of a local name
pub prints_define : {n : Tables} → IndexedTables n → Prints true n (text kinds.Local >>= λ name. act (define name)) (text kinds.Local >>= λ name. act (define name)) [] (λ x. marks.Local x ∷ [])
prints_define i = prints_act AsLocal define define_numbers i

pub prints_label : {n : Tables} → IndexedTables n → Prints true n (text kinds.Label >>= λ name. act (define name)) (text kinds.Label >>= λ name. act (define name)) [] (λ x. marks.Label x ∷ [])
prints_label i = prints_act AsLabel define define_numbers i

-- ---- what has no name

digit_named : (b : ℕ) → is_ascii_digit b ≡ true → ((b == 0) ≡ false) × (is_byte b ≡ true)
digit_named b h = (grind (arith, nat_tests), grind (arith, nat_tests))

digits_named : (bs : List ℕ) → list_all is_ascii_digit bs ≡ true → (list_any (λ b. b == 0) bs ≡ false) × (list_all is_byte bs ≡ true)
digits_named [] h = (refl, refl)
digits_named (b ∷ bs) h =
    let k = both (is_ascii_digit b) (list_all is_ascii_digit bs) h in
    let one = digit_named b k.0 in
    let more = digits_named bs k.1 in
    (rw one.0 more.0, rw one.1 more.1)

decimal_named : (k : ℕ) → IsName (decimal k)
unfolding is_name
decimal_named k = let d = digits_named (decimal k) (decimal_digits k) in (rw (lt_true 0 (length (decimal k)) (decimal_some k), d.0) refl, d.1)

next_is : (s : Names) → define_next s ≡ define (decimal s.next) s
unfolding define_next
next_is s = refl

-- what has no name is printed with the number that it takes
prints_next : {n : Tables} (w : Use) → IndexedTables n → Prints true n (act define_next) (local_form w define) [] (mark_of w)
prints_next {n = n} w i = record {
  indexed = λ s u a t r x. local_indexed (define (decimal s.next)) (decimal s.next) s a t (define_numbers (decimal s.next)) (sym (next_is s) ∙ r.1) x;
  fronts = λ s u a t r front. local_front n s a t (decimal s.next) (local_facts n (define (decimal s.next)) (decimal s.next) s a t (define_numbers (decimal s.next)) (sym (next_is s) ∙ r.1) front) front;
  prints = λ s u a t r front sound. (mark_of w a, refl, local_reprinted n w define define_numbers i s a t (decimal s.next) (local_facts n (define (decimal s.next)) (decimal s.next) s a t (define_numbers (decimal s.next)) (sym (next_is s) ∙ r.1) front) (decimal_named s.next));
}

pub prints_next_local : {n : Tables} → IndexedTables n → Prints true n (act define_next) (text kinds.Local >>= λ name. act (define name)) [] (λ x. marks.Local x ∷ [])
prints_next_local i = prints_next AsLocal i

pub prints_next_label : {n : Tables} → IndexedTables n → Prints true n (act define_next) (text kinds.Label >>= λ name. act (define name)) [] (λ x. marks.Label x ∷ [])
prints_next_label i = prints_next AsLabel i
