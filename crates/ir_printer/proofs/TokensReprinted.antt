-- Tokens and what is skipped.
use Rattle.std.proofs.Common.{◌≡◌, refl, sym, ap, ◌∙◌, subst, ℕ, ℤ, pos, negsuc, ◌^◌, ◌<◌, Bool, true, false, List, [], ◌∷◌, arith}
use Rattle.std.specs.Prelude.{Option, Some, None, if◌then◌else◌, nat_abs, nat_lt}
use Rattle.std.specs.Str.{bytes_eq}
use Rattle.ir_lexer.specs.declared.table.Token.{Token}
use Rattle.ir_lexer.specs.declared.table.Token.TheVariants as tokens
use Rattle.ir_grammar.specs.declared.which.Which.{Which}
use Rattle.ir_grammar.specs.declared.which.Which.TheVariants as limits
use Rattle.ir_grammar.specs.Pieces.{Piece}
use Rattle.ir_grammar.specs.Names.{Names}
use Rattle.ir_grammar.specs.Sets.{Set, has}
use Rattle.ir_grammar.specs.Forms.{Form, ret, Verdict, Takes, Over, token, ◌>>=◌, choose}
use Rattle.ir_grammar.specs.Tokens.{is_past, allows, expect, sign, look, word_of, one_word, int_of, int, in_range, number_of, number, over}
use Rattle.ir_printer.specs.declared.words.Word.{Word}
use Rattle.ir_printer.specs.declared.marks.Mark.{Mark}
use Rattle.ir_printer.specs.declared.marks.Mark.TheVariants as marks
use Rattle.ir_printer.specs.Words.{word_text}
use Rattle.ir_printer.specs.Marks.{comma}
use Rattle.ir_printer.specs.Layout.{Tables}
use Rattle.std.proofs.lemmas.List.{append-nil}
use Rattle.ir_printer.specs.Tokens.{tokens_of, IsSpellable}
use Rattle.ir_printer.specs.Reprints.{Front, IsSound, AreSound, IsReprinted}
use Rattle.ir_printer.proofs.Reprinting.{Indexed, Prints, is_plain, prints_token, prints_then, prints_done, prints_in, sound_last, none_left}

-- ---- a token that says nothing but itself

pub prints_expect : {inside : Bool} {n : Tables} (z : Set) (m : Mark) (t : Token) → is_plain m ≡ true → IsSpellable n m → tokens_of n (m ∷ []) ≡ t ∷ [] → has z t ≡ true → Prints inside n (expect z) (expect z) [] (λ u. m ∷ [])
prints_expect z m t plain spellable told h = prints_token (λ t1 a e sound. (m, t, refl, record { plain = plain; spellable = spellable; told = told; takes = ap allows h }))

pub prints_comma : {inside : Bool} {n : Tables} → Prints inside n (expect (sign 44)) (expect (sign 44)) [] (λ u. comma ∷ [])
prints_comma = prints_expect (sign 44) comma (tokens.Sign 44) refl tt refl refl

-- ---- a word of a table

-- each value of the table is printed as a word that the table has for it
abbrev pub Entries : {A : Type 0} → List (List ℕ × A) → (A → List Mark) → List (List ℕ × A) → Type 0
Entries table all [] = Unit {0}
Entries table all (e ∷ es) = ((w : Word) × (all e.1 ≡ marks.Word w ∷ []) × (look table (word_text w) ≡ Takes e.1)) × Entries table all es

abbrev pub IsWordOf : {A : Type 0} → List (List ℕ × A) → (A → List Mark) → A → Type 0
IsWordOf table all a = (w : Word) × (all a ≡ marks.Word w ∷ []) × (look table (word_text w) ≡ Takes a)

found_by : {A : Type 0} (table : List (List ℕ × A)) (all : A → List Mark) (b : Bool) (e a : A) (o : Verdict A) → IsWordOf table all e → (o ≡ Takes a → IsWordOf table all a) → (if b then Takes e else o) ≡ Takes a → IsWordOf table all a
found_by table all true e a o here more h = let same : e ≡ a = cc in subst (λ x. IsWordOf table all x) same here
found_by table all false e a o here more h = more h

pub found_word : {A : Type 0} (table : List (List ℕ × A)) (all : A → List Mark) (es : List (List ℕ × A)) → Entries table all es → (w : List ℕ) (a : A) → look es w ≡ Takes a → IsWordOf table all a
found_word table all [] h w a e = absurd cc
found_word table all (x ∷ es) h w a e = found_by table all (bytes_eq w x.0) x.1 a (look es w) h.0 (found_word table all es h.1 w a) e

-- a token that is a word of a table, or another word of its own
pub prints_look : {A : Type 0} {inside : Bool} {n : Tables} (v : Token → Verdict A) (table : List (List ℕ × A)) (all : A → List Mark) → Entries table all table →
    ((t : Token) (a : A) → v t ≡ Takes a → (w : List ℕ) × (look table w ≡ Takes a)) → ((w : List ℕ) (a : A) → look table w ≡ Takes a → v (tokens.Word w) ≡ Takes a) → Prints inside n (token v) (token v) [] all
prints_look v table all es from to = prints_token (λ t a e sound. (let f = from t a e in let w = found_word table all table es f.0 a f.1 in
    (marks.Word w.0, tokens.Word (word_text w.0), w.1, record { plain = refl; spellable = tt; told = refl; takes = to (word_text w.0) a w.2 })))

word_from : {A : Type 0} (table : List (List ℕ × A)) (t : Token) (a : A) → word_of table t ≡ Takes a → (w : List ℕ) × (look table w ≡ Takes a)
word_from table (tokens.Word w) a h = (w, h)
word_from table (tokens.Int x) a h = absurd cc
word_from table (tokens.Label x) a h = absurd cc
word_from table (tokens.Local x) a h = absurd cc
word_from table (tokens.Global x) a h = absurd cc
word_from table (tokens.Str x) a h = absurd cc
word_from table (tokens.CStr x) a h = absurd cc
word_from table (tokens.Meta x) a h = absurd cc
word_from table (tokens.Hash x) a h = absurd cc
word_from table (tokens.Sign x) a h = absurd cc
word_from table tokens.End a h = absurd cc

pub prints_table : {A : Type 0} {inside : Bool} {n : Tables} (table : List (List ℕ × A)) (all : A → List Mark) → Entries table all table → Prints inside n (one_word table) (one_word table) [] all
prints_table table all es = prints_look (word_of table) table all es (word_from table) (λ w a h. h)

-- ---- integers

pub int_is : (t : Token) (i : ℤ) → int_of t ≡ Takes i → t ≡ tokens.Int i
int_is (tokens.Int x) i h = cc
int_is (tokens.Word w) i h = absurd cc
int_is (tokens.Label x) i h = absurd cc
int_is (tokens.Local x) i h = absurd cc
int_is (tokens.Global x) i h = absurd cc
int_is (tokens.Str x) i h = absurd cc
int_is (tokens.CStr x) i h = absurd cc
int_is (tokens.Meta x) i h = absurd cc
int_is (tokens.Hash x) i h = absurd cc
int_is (tokens.Sign x) i h = absurd cc
int_is tokens.End i h = absurd cc

pub prints_int : {inside : Bool} {n : Tables} → Prints inside n int int [] (λ i. marks.Int i ∷ [])
prints_int = prints_token (λ t i e sound. (marks.Int i, tokens.Int i, refl, record { plain = refl; spellable = subst IsSound (int_is t i e) sound; told = refl; takes = refl }))

-- a number in range is read as it is, and without a limit what is below zero as zero
in_range_by : (b : Bool) (j k : ℕ) → (if b then Over limits.Length else Takes j) ≡ Takes k → (b ≡ false) × (j ≡ k)
in_range_by true j k h = absurd cc
in_range_by false j k h = (refl, cc)

ranged : (most : Option ℕ) (i : ℤ) (k : ℕ) → in_range most i ≡ Takes k → nat_abs i < 10 ^ 30 → k < 10 ^ 30
ranged most (pos x) k h small = subst (λ (j : ℕ). j < 10 ^ 30) (in_range_by (is_past most x) x k h).1 small
ranged None (negsuc x) k h small = let same : 0 ≡ k = cc in subst (λ (j : ℕ). j < 10 ^ 30) same (omega arith)
ranged (Some n) (negsuc x) k h small = absurd cc

-- it is in range again
ranged_again : (most : Option ℕ) (i : ℤ) (k : ℕ) → in_range most i ≡ Takes k → in_range most (pos k) ≡ Takes k
ranged_again None i k h = refl
ranged_again (Some n) (pos x) k h =
    let q = in_range_by (nat_lt n x) x k h in
    subst (λ (j : ℕ). in_range (Some n) (pos j) ≡ Takes j) q.1 (ap (λ (b : Bool). if b then Over limits.Length else Takes x) q.0)
ranged_again (Some n) (negsuc x) k h = absurd cc

-- an integer that is a number
number_is : (most : Option ℕ) (t : Token) (k : ℕ) → number_of most t ≡ Takes k → (i : ℤ) × (t ≡ tokens.Int i) × (in_range most i ≡ Takes k)
number_is most (tokens.Int x) k h = (x, refl, h)
number_is most (tokens.Word w) k h = absurd cc
number_is most (tokens.Label x) k h = absurd cc
number_is most (tokens.Local x) k h = absurd cc
number_is most (tokens.Global x) k h = absurd cc
number_is most (tokens.Str x) k h = absurd cc
number_is most (tokens.CStr x) k h = absurd cc
number_is most (tokens.Meta x) k h = absurd cc
number_is most (tokens.Hash x) k h = absurd cc
number_is most (tokens.Sign x) k h = absurd cc
number_is most tokens.End k h = absurd cc

-- a number can be spelled, and is in range where it was read
abbrev pub IsNumber : Option ℕ → ℕ → Type 0
IsNumber most k = (k < 10 ^ 30) × (in_range most (pos k) ≡ Takes k)

pub number_sound : (most : Option ℕ) (t : Token) (k : ℕ) → number_of most t ≡ Takes k → IsSound t → IsNumber most k
number_sound most t k h sound = let i = number_is most t k h in (ranged most i.0 k i.2 (subst IsSound i.1 sound), ranged_again most i.0 k i.2)

pub prints_number : {inside : Bool} {n : Tables} (most : Option ℕ) → Prints inside n (number most) (number most) [] (λ k. marks.Int (pos k) ∷ [])
prints_number most = prints_token (λ t k e sound. (let h = number_sound most t k e sound in (marks.Int (pos k), tokens.Int (pos k), refl, record { plain = refl; spellable = h.0; told = refl; takes = h.1 })))

-- ---- a limit that is exceeded

-- what exceeds a limit reads nothing
pub prints_unless_past : {A : Type 0} {inside : Bool} {n : Tables} {f f2 : Form A} {before : List Mark} {all : A → List Mark} (past : Bool) (w : Which) → Prints inside n f f2 before all → Prints inside n (choose past (over w) f) (choose past (over w) f2) before all
prints_unless_past true w h = prints_token (λ t a e sound. absurd cc)
prints_unless_past false w h = h

-- ---- another value

pub prints_mapped : {A B : Type 0} {inside : Bool} {n : Tables} (f : Form A) (g : A → B) (own : A → List Mark) (all : B → List Mark) → Prints inside n f f [] own → ((a : A) → all (g a) ≡ own a) → Prints inside n (f >>= λ a. ret (g a)) (f >>= λ a. ret (g a)) [] all
prints_mapped f g own all h e = prints_then h (λ a. prints_done (e a))

-- an act after a token, and the same with another value
abbrev pub AsActs : {A B : Type 0} → (List ℕ → Names → A × Names) → (A → B) → List ℕ → Names → B × Names
AsActs h g name s = (g (h name s).0, (h name s).1)

-- ---- what is skipped

-- a form leaves the names as they are
pub record Quiet {A : Type 0} (f : Form A) : Type 0 where
  pub same : (s : Names) (u : List Piece) (a : A) (t : Names) → f.reads s u a t → s ≡ t

-- a form reads no piece
abbrev pub Silent : {A : Type 0} → Form A → A → Type 0
Silent f a = (s : Names) → f.reads s [] a s

-- what a form reads without saying it is left out
pub prints_drop : {A B : Type 0} {inside : Bool} {n : Tables} {g h : Form B} {before : List Mark} {all : B → List Mark} (f : Form A) → Quiet f → Prints inside n g h before all → Prints inside n (f >>= λ x. g) h before all
prints_drop {inside = inside} {n = n} {h = h} f quiet p = record {
  indexed = λ s u b t r i. p.indexed r.1 r.3 b t r.6 (subst Indexed (quiet.same s r.2 r.0 r.1 r.5) i);
  fronts = λ s u b t r k. subst (λ (x : Names). Front inside n x) (sym (quiet.same s r.2 r.0 r.1 r.5)) (p.fronts r.1 r.3 b t r.6 k);
  prints = λ s u b t r front sound. (let m = p.prints r.1 r.3 b t r.6 front (sound_last r.2 r.3 (subst AreSound r.4 sound)) in
      (m.0, m.1, subst (λ (x : Names). IsReprinted inside n h x b t m.0) (sym (quiet.same s r.2 r.0 r.1 r.5)) m.2));
}

pub prints_past : {A B : Type 0} {inside : Bool} {n : Tables} {g g2 : Form B} {before : List Mark} {all : B → List Mark} (f : Form A) (a0 : A) → Quiet f → Silent f a0 → Prints inside n g g2 before all → Prints inside n (f >>= λ x. g) (f >>= λ x. g2) before all
prints_past f a0 quiet silent h = prints_in (prints_drop f quiet h) (λ s u b t r. (a0, s, [], u, refl, silent s, r))

-- a form that says nothing is left out, where another form reads its value from nothing
pub prints_nothing : {A : Type 0} {inside : Bool} {n : Tables} {before : List Mark} {all : A → List Mark} (f g : Form A) → Quiet f → ((s : Names) (u : List Piece) (a : A) (t : Names) → f.reads s u a t → (all a ≡ before) × Silent g a) → Prints inside n f g before all
prints_nothing {A = A} {inside = inside} {n = n} {before = before} {all = all} f g quiet says = record {
  indexed = λ s u a t r i. subst Indexed (quiet.same s u a t r) i;
  fronts = λ s u a t r k. subst (λ (x : Names). Front inside n x) (sym (quiet.same s u a t r)) k;
  prints = λ s u a t r front sound. (let m = says s u a t r in ([], m.0 ∙ sym (append-nil before), subst (λ (x : Names). IsReprinted inside n g s a x []) (quiet.same s u a t r) (nothing s a m.1)));
}
  where
    nothing : (s : Names) (a : A) → Silent g a → IsReprinted inside n g s a s []
    nothing s a silent = record { ready = tt; counted = refl; spellable = tt; rereads = λ s2 us front ready are. (s2, subst (λ (v : List Piece). g.reads s2 v a s2) (sym (none_left us are)) (silent s2), front, refl) }
