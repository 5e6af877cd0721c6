-- The type `void` is the word, and every other type is one of a value.
use Rattle.std.proofs.Common.{◌≡◌, ◌⊎◌, inl, inr, refl, ap, ℕ, zero, suc, Bool, true, false, ◌||◌, List}
use Rattle.std.specs.Prelude.{if◌then◌else◌, Option, Some, codes}
use Rattle.std.specs.Str.{bytes_eq}
use Rattle.oi_base.specs.declared.words.Width.{Width}
use Rattle.oi_base.specs.declared.words.Width.TheVariants.{W1, W8, W16, W32}
use Rattle.ir_lexer.specs.declared.table.Token.{Token}
use Rattle.ir_lexer.specs.declared.table.Token.TheVariants as tokens
use Rattle.ir_core.specs.declared.ty.IrType.{IrType, Void, Int, Ptr, Array', Struct', Named}
use Rattle.ir_grammar.specs.declared.which.Which.TheVariants as limits
use Rattle.ir_grammar.specs.Pieces.{Piece}
use Rattle.ir_grammar.specs.Names.{Names, define_next}
use Rattle.ir_grammar.specs.Sets.{has}
use Rattle.ir_grammar.specs.Forms.{Verdict, Takes, Refuses, Over}
use Rattle.ir_grammar.specs.Tokens.{Limits, allows, expect, look, word_of}
use Rattle.ir_grammar.specs.Types.{named, value_types, scalars, last_of, type_in, type_form, value_type}
use Rattle.ir_grammar.specs.Operations.{result_of}
use Rattle.ir_grammar.specs.Bodies.{void_word}

-- a type of values: a call gives a result of it
pub record IsValued (t : IrType) : Type 0 where
  pub valued : t ≡ Void → ⊥
  pub result : (s : Names) → result_of t s ≡ (Some (define_next s).0, (define_next s).1)

pub void_or_valued : (t : IrType) → (t ≡ Void) ⊎ IsValued t
void_or_valued Void = inl refl
void_or_valued (Int w) = inr (record { valued = λ e. cc; result = λ s. refl })
void_or_valued Ptr = inr (record { valued = λ e. cc; result = λ s. refl })
void_or_valued (Array' n m row) = inr (record { valued = λ e. cc; result = λ s. refl })
void_or_valued (Struct' m row) = inr (record { valued = λ e. cc; result = λ s. refl })
void_or_valued (Named x) = inr (record { valued = λ e. cc; result = λ s. refl })

-- ---- words

-- the word of a type of values
valued_by : (b : Bool) (o : Verdict IrType) (t : IrType) → IsValued t → (if b then Takes Void else o) ≡ Takes t → o ≡ Takes t
valued_by true o t v h = let e : t ≡ Void = cc in absurd (v.valued e)
valued_by false o t v h = h

valued_word : (x : Token) (t : IrType) → IsValued t → word_of (scalars true) x ≡ Takes t → word_of (scalars false) x ≡ Takes t
valued_word (tokens.Word w) t v h = valued_by (bytes_eq w (codes "void")) (look value_types w) t v h
valued_word (tokens.Int x) t v h = h
valued_word (tokens.Label x) t v h = h
valued_word (tokens.Local x) t v h = h
valued_word (tokens.Global x) t v h = h
valued_word (tokens.Str x) t v h = h
valued_word (tokens.CStr x) t v h = h
valued_word (tokens.Meta x) t v h = h
valued_word (tokens.Hash x) t v h = h
valued_word (tokens.Sign x) t v h = h
valued_word tokens.End t v h = h

valued_last : (x : Token) (t : IrType) → IsValued t → last_of true x ≡ Takes t → last_of false x ≡ Takes t
valued_last (tokens.Word w) t v h = valued_by (bytes_eq w (codes "void")) (look value_types w) t v h
valued_last (tokens.Int x) t v h = h
valued_last (tokens.Label x) t v h = h
valued_last (tokens.Local x) t v h = h
valued_last (tokens.Global x) t v h = h
valued_last (tokens.Str x) t v h = h
valued_last (tokens.CStr x) t v h = h
valued_last (tokens.Meta x) t v h = h
valued_last (tokens.Hash x) t v h = h
valued_last (tokens.Sign x) t v h = h
valued_last tokens.End t v h = h

-- no word of a type of values is `void`
not_here : (b : Bool) (a : IrType) (o : Verdict IrType) → (a ≡ Void → ⊥) → (o ≡ Takes Void → ⊥) → (if b then Takes a else o) ≡ Takes Void → ⊥
not_here true a o h more e = let same : a ≡ Void = cc in h same
not_here false a o h more e = more e

not_int : (w : Width) → Int w ≡ Void → ⊥
not_int w e = cc

not_pointer : Ptr ≡ Void → ⊥
not_pointer e = cc

abbrev refused : Verdict IrType
refused = Refuses

not_refused : refused ≡ Takes Void → ⊥
not_refused e = cc

not_among : (w : List ℕ) → look value_types w ≡ Takes Void → ⊥
not_among w = not_here _ (Int W32) _ (not_int W32) (not_here _ Ptr _ not_pointer (not_here _ (Int W8) _ (not_int W8) (not_here _ (Int W1) _ (not_int W1) (not_here _ (Int W16) _ (not_int W16) not_refused))))

void_by : (b : Bool) (w : List ℕ) → (if b then Takes Void else look value_types w) ≡ Takes Void → (b || false) ≡ true
void_by true w h = refl
void_by false w h = absurd (not_among w h)

void_token : (x : Token) → word_of (scalars true) x ≡ Takes Void → has void_word x ≡ true
void_token (tokens.Word w) h = void_by (bytes_eq w (codes "void")) w h
void_token (tokens.Int x) h = absurd cc
void_token (tokens.Label x) h = absurd cc
void_token (tokens.Local x) h = absurd cc
void_token (tokens.Global x) h = absurd cc
void_token (tokens.Str x) h = absurd cc
void_token (tokens.CStr x) h = absurd cc
void_token (tokens.Meta x) h = absurd cc
void_token (tokens.Hash x) h = absurd cc
void_token (tokens.Sign x) h = absurd cc
void_token tokens.End h = absurd cc

-- a word of the last level is a word of a type
last_word : (x : Token) (t : IrType) → last_of true x ≡ Takes t → word_of (scalars true) x ≡ Takes t
last_word (tokens.Word w) t h = h
last_word (tokens.Sign c) t h = at _ h
  where
    at : (b : Bool) → (if b then Over limits.Nesting else Refuses) ≡ Takes t → word_of (scalars true) (tokens.Sign c) ≡ Takes t
    at true e = absurd cc
    at false e = absurd cc
last_word (tokens.Int x) t h = h
last_word (tokens.Label x) t h = h
last_word (tokens.Local x) t h = h
last_word (tokens.Global x) t h = h
last_word (tokens.Str x) t h = h
last_word (tokens.CStr x) t h = h
last_word (tokens.Meta x) t h = h
last_word (tokens.Hash x) t h = h
last_word tokens.End t h = h

-- the word `void` gives the type
given_by : (b : Bool) (o : Verdict IrType) → allows (b || false) ≡ Takes tt → (if b then Takes Void else o) ≡ Takes Void
given_by true o h = refl
given_by false o h = absurd cc

void_given : (x : Token) → allows (has void_word x) ≡ Takes tt → (word_of (scalars true) x ≡ Takes Void) × (last_of true x ≡ Takes Void)
void_given (tokens.Word w) h = let g = given_by (bytes_eq w (codes "void")) (look value_types w) h in (g, g)
void_given (tokens.Int x) h = absurd cc
void_given (tokens.Label x) h = absurd cc
void_given (tokens.Local x) h = absurd cc
void_given (tokens.Global x) h = absurd cc
void_given (tokens.Str x) h = absurd cc
void_given (tokens.CStr x) h = absurd cc
void_given (tokens.Meta x) h = absurd cc
void_given (tokens.Hash x) h = absurd cc
void_given (tokens.Sign x) h = absurd cc
void_given tokens.End h = absurd cc

-- ---- types

-- a type of values is read without `void`
valued_in : (most : Option ℕ) (k : ℕ) (s : Names) (u : List Piece) (t : IrType) (s2 : Names) → IsValued t → (type_in true most k).reads s u t s2 → (type_in false most k).reads s u t s2
unfolding type_in
valued_in most zero s u t s2 v (inl r) = inl r
valued_in most zero s u t s2 v (inr r) = inr (r.0, r.1, valued_last r.0.token t v r.2, r.3)
valued_in most (suc k) s u t s2 v (inl r) = inl r
valued_in most (suc k) s u t s2 v (inr (inl r)) = inr (inl (r.0, r.1, valued_word r.0.token t v r.2, r.3))
valued_in most (suc k) s u t s2 v (inr (inr r)) = inr (inr r)

pub reads_valued : (l : Limits) (s : Names) (u : List Piece) (t : IrType) (s2 : Names) → IsValued t → (type_form l).reads s u t s2 → (value_type l).reads s u t s2
unfolding type_form value_type
reads_valued l s u t s2 v r = valued_in l.length l.levels s u t s2 v r

-- what is read as `void` is the word
void_in : (most : Option ℕ) (k : ℕ) (s : Names) (u : List Piece) (s2 : Names) → (type_in true most k).reads s u Void s2 → (expect void_word).reads s u tt s2
unfolding type_in named
void_in most zero s u s2 (inl r) = let e = ap (λ (x : IrType × Names). x.0) r.6.1 in absurd (cc)
void_in most zero s u s2 (inr r) = (r.0, r.1, ap allows (void_token r.0.token (last_word r.0.token Void r.2)), r.3)
void_in most (suc k) s u s2 (inl r) = let e = ap (λ (x : IrType × Names). x.0) r.6.1 in absurd (cc)
void_in most (suc k) s u s2 (inr (inl r)) = (r.0, r.1, ap allows (void_token r.0.token r.2), r.3)
void_in most (suc k) s u s2 (inr (inr (inl r))) = let e = ap (λ (x : IrType × Names). x.0) r.6.6.6.6.6.1 in absurd (cc)
void_in most (suc k) s u s2 (inr (inr (inr r))) = let e = ap (λ (x : IrType × Names). x.0) r.6.6.6.1 in absurd (cc)

pub void_is_word : (l : Limits) (s : Names) (u : List Piece) (s2 : Names) → (type_form l).reads s u Void s2 → (expect void_word).reads s u tt s2
unfolding type_form
void_is_word l s u s2 r = void_in l.length l.levels s u s2 r

-- the word is read as `void`
word_in : (most : Option ℕ) (k : ℕ) (s : Names) (u : List Piece) (s2 : Names) → (expect void_word).reads s u tt s2 → (type_in true most k).reads s u Void s2
unfolding type_in
word_in most zero s u s2 r = inr (r.0, r.1, (void_given r.0.token r.2).1, r.3)
word_in most (suc k) s u s2 r = inr (inl (r.0, r.1, (void_given r.0.token r.2).0, r.3))

pub word_is_void : (l : Limits) (s : Names) (u : List Piece) (s2 : Names) → (expect void_word).reads s u tt s2 → (type_form l).reads s u Void s2
unfolding type_form
word_is_void l s u s2 r = word_in l.length l.levels s u s2 r
