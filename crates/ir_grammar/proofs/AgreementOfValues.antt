-- Types, values and initialisers with wider limits.
use Rattle.std.proofs.Common.{◌≡◌, inl, inr, ℕ, ℤ, ◌≤◌, ◌-◌, zero, suc, pos, negsuc, Bool, true, false, nat_eq, nat_lt, List, [], ◌∷◌, length, Err, refl, arith}
use Rattle.std.proofs.lemmas.Bool.Decides.{nat_tests}
use Rattle.std.specs.Prelude.{if◌then◌else◌, not, Option, Some, None, codes}
use Rattle.std.specs.Str.{bytes_eq}
use Rattle.oi_base.specs.declared.ids.Place.{Place}
use Rattle.ir_lexer.specs.declared.table.Token.{Token}
use Rattle.ir_lexer.specs.declared.table.Token.TheVariants as tokens
use Rattle.ir_core.specs.declared.ty.IrType.{IrType}
use Rattle.ir_core.specs.declared.ty.IrType as types
use Rattle.ir_core.specs.declared.module.SymId.{SymId}
use Rattle.ir_core.specs.declared.constant.Const.{Const}
use Rattle.ir_core.specs.declared.constant.Const as consts
use Rattle.ir_core.specs.declared.constant.TypedConst.{TypedConst}
use Rattle.ir_core.specs.declared.constant.TypedCount.{TypedCount}
use Rattle.ir_core.specs.declared.op.Operand.{Operand}
use Rattle.ir_core.specs.declared.op.Operand.TheVariants as operands
use Rattle.ir_grammar.specs.declared.kinds.Kind.TheVariants as kinds
use Rattle.ir_grammar.specs.declared.which.Which.TheVariants as limits
use Rattle.ir_grammar.specs.Pieces.{Piece, Is, Bad}
use Rattle.ir_grammar.specs.Names.{Names}
use Rattle.ir_grammar.specs.Sets.{are_digits, is_debug, has}
use Rattle.ir_grammar.specs.Forms.{Left, Outcome, Form, Refused, Exceeds, judged, token, Takes, Refuses, Over, either}
use Rattle.ir_grammar.specs.Tokens.{Limits, sign, word, kind, look, words_of, one_word, in_range, number_of, number}
use Rattle.ir_grammar.specs.Types.{scalars, named, last_of, type_set, array, struct, type_in, type_form, value_type}
use Rattle.ir_grammar.specs.Values.{const_words, gep_word, index, gep_rest, gep, const_at, constant, value, typed, last_const_of, typed_init, array_init, struct_init, init_at, init}
use Rattle.ir_grammar.proofs.Apart.{or_false}
use Rattle.ir_grammar.proofs.FormLaws.{after, left, shrinks}
use Rattle.ir_grammar.proofs.Rules.{or}
use Rattle.ir_grammar.proofs.LawsOfTokens.{is_sign, law_int}
use Rattle.ir_grammar.proofs.LawsOfTypes.{law_named, law_type}
use Rattle.ir_grammar.proofs.LawsOfValues.{law_gep_flags, law_global, law_address, law_integer, law_const_word, law_local_value, law_zero, law_bytes, law_typed_init, law_array_init, law_struct_init, law_init_at}
use Rattle.ir_grammar.proofs.Agreement.{Agrees, passed_here, Agree, Widens, agree_same, agree_ret, agree_less, agree_token, agree_one, agree_expect, agree_then, agree_deeper, agree_either, agree_after_comma, agree_many, agree_listed}

-- a limit is at most another; it is exceeded only where k tokens are no more than one
abbrev pub AtMost : ℕ → Option ℕ → Option ℕ → Type 0
AtMost k None None = Unit {0}
AtMost k None (Some n) = ⊥
AtMost k (Some m) None = k ≤ 1
AtMost k (Some m) (Some n) = (m ≤ n) × (k ≤ 1)

pub at_most_less : (j k : ℕ) (a b : Option ℕ) → j ≤ k → AtMost k a b → AtMost j a b
at_most_less j k None None e h = tt
at_most_less j k None (Some n) e h = h
at_most_less j k (Some m) None e h = omega (arith, h)
at_most_less j k (Some m) (Some n) e h = (h.0, omega (arith, h.1))

-- limits that are at most others, and are exceeded only by at least k tokens
pub record Wider (k : ℕ) (l m : Limits) : Type 0 where
  pub functions : AtMost k l.functions m.functions
  pub params : AtMost k l.params m.params
  pub lengths : AtMost k l.length m.length
  pub levels : l.levels ≤ m.levels
  pub deep : k ≤ suc l.levels

-- ---- numbers

wider_range : (k : ℕ) (a b : Option ℕ) (n : ℤ) → AtMost k a b → Widens k (in_range a n) (in_range b n)
wider_range k None None (pos n) h = refl
wider_range k None None (negsuc n) h = refl
wider_range k None (Some m) n h = absurd h
wider_range k (Some a) None (negsuc n) h = h
wider_range k (Some a) (Some b) (negsuc n) h = h.1
wider_range k (Some a) None (pos n) h = at (nat_lt a n)
  where
    at : (c : Bool) → Widens {A = ℕ} k (if c then Over limits.Length else Takes n) (Takes n)
    at true = h
    at false = refl
wider_range k (Some a) (Some b) (pos n) h = at (nat_lt a n) (nat_lt b n) refl refl
  where
    at : (c d : Bool) → nat_lt a n ≡ c → nat_lt b n ≡ d → Widens {A = ℕ} k (if c then Over limits.Length else Takes n) (if d then Over limits.Length else Takes n)
    at true d e f = h.1
    at false false e f = refl
    at false true e f = let less = h.0 in absurd (grind (arith, nat_tests))

pub agree_number : {k : ℕ} (a b : Option ℕ) → AtMost k a b → Agree k (number a) (number b)
agree_number {k = k} a b h = agree_token (number_of a) (number_of b) at
  where
    at : (t : Token) → Widens k (number_of a t) (number_of b t)
    at (tokens.Int n) = wider_range k a b n h
    at (tokens.Word n) = refl
    at (tokens.Label n) = refl
    at (tokens.Local n) = refl
    at (tokens.Global n) = refl
    at (tokens.Str n) = refl
    at (tokens.CStr n) = refl
    at (tokens.Meta n) = refl
    at (tokens.Hash n) = refl
    at (tokens.Sign n) = refl
    at tokens.End = refl

-- ---- types

agree_array : {k : ℕ} (a b : Option ℕ) {f g : Form IrType} → AtMost k a b → Agree k f g → Agree (suc k) (array a f) (array b g)
agree_array a b e h =
    agree_deeper (is_sign 91 refl) refl (λ (o : Unit). agree_then (agree_number a b e) (λ (n : ℕ). agree_then (agree_expect (word (codes "x"))) (λ (x : Unit). agree_then h (λ (t : IrType).
    agree_then (agree_expect (sign 93)) (λ (c : Unit). agree_ret (types.Array n t))))))

agree_struct : {k : ℕ} {f g : Form IrType} → Agree k f g → Agree (suc k) (struct f) (struct g)
agree_struct h =
    agree_deeper (is_sign 123 refl) refl (λ (o : Unit). agree_then (agree_listed (type_set true) h) (λ (ts : List IrType). agree_then (agree_expect (sign 125)) (λ (c : Unit). agree_ret (types.Struct ts))))

-- a word that a table lacks
unknown : {A : Type 0} (table : List (List ℕ × A)) (w : List ℕ) → has (words_of table) (tokens.Word w) ≡ false → look table w ≡ Refuses
unknown [] w e = refl
unknown {A = A} (r ∷ table) w e = let both = or_false (bytes_eq w r.0) (has (words_of table) (tokens.Word w)) e in rw both.0 (unknown table w both.1)

either_way : {X : Type 0} (c : Bool) (x : X) → x ≡ (if c then x else x)
either_way true x = refl
either_way false x = refl

after_test : {X : Type 0} (c : Bool) (x y z : X) → c ≡ false → y ≡ z → (if c then x else y) ≡ (if c then x else z)
after_test true x y z e h = absurd cc
after_test false x y z e h = h

abbrev NoLevel : Bool → Option ℕ → Option ℕ → ℕ → ℕ → Names → List Piece → Type 0
NoLevel void a b m k s ts = Agrees k (left s ts) ((type_in void a zero).parse (left s ts)) ((type_in void b (suc m)).parse (left s ts))

-- what a type with no level left reads, and one with more
no_level : (void : Bool) (a b : Option ℕ) (m k : ℕ) → k ≤ 1 → (s : Names) (ts : List Piece) → NoLevel void a b m k s ts
unfolding type_in
no_level void a b m k few s [] = inl refl
no_level void a b m k few s (Bad f ∷ ts) = inl refl
no_level void a b m k few s (Is t ∷ ts) = one t.place t.token
  where
    refused : Place → Token → Outcome IrType
    refused p t = Err (record { at = Is (record { token = t; place = p }) ∷ ts; why = Refused })

    by_word : (w : List ℕ) (p : Place) (c : Bool) → (c ≡ false → look (scalars void) w ≡ Refuses) → judged (look (scalars void) w) s (record { token = tokens.Word w; place = p }) ts ≡ (if c then judged (look (scalars void) w) s (record { token = tokens.Word w; place = p }) ts else refused p (tokens.Word w))
    by_word w p true h = refl
    by_word w p false h = rw (h refl) refl

    opens : (c : ℕ) (p : Place) → (token (last_of void)).parse (left s (Is (record { token = tokens.Sign c; place = p }) ∷ ts)) ≡ Err (record { at = Is (record { token = tokens.Sign c; place = p }) ∷ ts; why = Exceeds limits.Nesting }) → NoLevel void a b m k s (Is (record { token = tokens.Sign c; place = p }) ∷ ts)
    opens c p e = inr (passed_here k limits.Nesting (left s (Is (record { token = tokens.Sign c; place = p }) ∷ ts)) _ _ e (shrinks (type_in void b (suc m)) _ (law_type {w = true} void b (suc m)) (left s (Is (record { token = tokens.Sign c; place = p }) ∷ ts))) (omega (arith, few)))

    by_sign : (c : ℕ) (p : Place) (x y : Bool) → nat_eq c 91 ≡ x → nat_eq c 123 ≡ y → NoLevel void a b m k s (Is (record { token = tokens.Sign c; place = p }) ∷ ts)
    by_sign c p true y e f = opens c p (rw e refl)
    by_sign c p false true e f = opens c p (rw (e, f) refl)
    by_sign c p false false e f = inl (rw (e, f) (either_way (has (words_of (scalars void)) (tokens.Sign c)) (refused p (tokens.Sign c))))

    other : (p : Place) (t : Token) → refused p t ≡ (if has (words_of (scalars void)) t then refused p t else refused p t)
    other p t = either_way (has (words_of (scalars void)) t) (refused p t)

    meta_local : (n : List ℕ) → has (kind kinds.Local) (tokens.Meta n) ≡ false
    meta_local n = at (not (is_debug n)) refl
      where
        at : (c : Bool) → not (is_debug n) ≡ c → has (kind kinds.Local) (tokens.Meta n) ≡ false
        at true e = rw e refl
        at false e = rw e refl

    hash_local : (n : List ℕ) → has (kind kinds.Local) (tokens.Hash n) ≡ false
    hash_local n = at (are_digits n) refl
      where
        at : (c : Bool) → are_digits n ≡ c → has (kind kinds.Local) (tokens.Hash n) ≡ false
        at true e = rw e refl
        at false e = rw e refl

    one : (p : Place) (t : Token) → NoLevel void a b m k s (Is (record { token = t; place = p }) ∷ ts)
    one p (tokens.Word w) = inl (by_word w p (has (words_of (scalars void)) (tokens.Word w)) (λ e. unknown (scalars void) w e))
    one p (tokens.Sign c) = by_sign c p (nat_eq c 91) (nat_eq c 123) refl refl
    one p (tokens.Int n) = inl (other p (tokens.Int n))
    one p (tokens.Label n) = inl (other p (tokens.Label n))
    one p (tokens.Local n) = inl refl
    one p (tokens.Global n) = inl (other p (tokens.Global n))
    one p (tokens.Str n) = inl (other p (tokens.Str n))
    one p (tokens.CStr n) = inl (other p (tokens.CStr n))
    one p (tokens.Meta n) = inl (after_test (has (kind kinds.Local) (tokens.Meta n)) (named.parse (left s (Is (record { token = tokens.Meta n; place = p }) ∷ ts))) _ _ (meta_local n) (other p (tokens.Meta n)))
    one p (tokens.Hash n) = inl (after_test (has (kind kinds.Local) (tokens.Hash n)) (named.parse (left s (Is (record { token = tokens.Hash n; place = p }) ∷ ts))) _ _ (hash_local n) (other p (tokens.Hash n)))
    one p tokens.End = inl (other p tokens.End)

pub agree_type : (void : Bool) (a b : Option ℕ) (n m k : ℕ) → AtMost k a b → n ≤ m → k ≤ suc n → Agree k (type_in void a n) (type_in void b m)
unfolding type_in
agree_type void a b zero zero k e less deep = agree_same (law_type void b zero)
agree_type void a b zero (suc m) k e less deep = record { shrinking = λ l. shrinks (type_in void b (suc m)) _ (law_type {w = true} void b (suc m)) l; agree = λ l. no_level void a b m k (omega arith) l.names l.tokens }
agree_type void a b (suc n) zero k e less deep = absurd (omega arith)
agree_type void a b (suc n) (suc m) k e less deep =
    let e2 = at_most_less (k - 1) k a b (omega arith) e in
    let inner = agree_type true a b n m (k - 1) e2 (omega arith) (omega arith) in
    agree_either (kind kinds.Local) (agree_same law_named) (agree_either (words_of (scalars void)) (agree_one _)
    (agree_either (sign 91) (agree_less (agree_array a b e2 inner) (omega arith)) (agree_less (agree_struct inner) (omega arith))))

pub agree_type_form : {k : ℕ} (l m : Limits) → Wider k l m → Agree k (type_form l) (type_form m)
unfolding type_form
agree_type_form {k = k} l m h = agree_type true l.length m.length l.levels m.levels k h.lengths h.levels h.deep

pub agree_value_type : {k : ℕ} (l m : Limits) → Wider k l m → Agree k (value_type l) (value_type m)
unfolding value_type
agree_value_type {k = k} l m h = agree_type false l.length m.length l.levels m.levels k h.lengths h.levels h.deep

-- ---- values

agree_index : (a b : Option ℕ) (n m k : ℕ) → AtMost k a b → n ≤ m → k ≤ suc n → Agree k (index a n) (index b m)
agree_index a b n m k e less deep = agree_then (agree_type true a b n m k e less deep) (λ (t : IrType). agree_then (agree_same law_int) (λ (i : ℤ). agree_ret (record { ty = t; count = i })))

pub agree_gep_rest : (a b : Option ℕ) (n m k : ℕ) → AtMost k a b → n ≤ m → k ≤ suc n → Agree k (gep_rest a n) (gep_rest b m)
unfolding gep_rest
agree_gep_rest a b n m k e less deep =
    agree_then (agree_expect (sign 40)) (λ (o : Unit). agree_then (agree_type true a b n m k e less deep) (λ (t : IrType). agree_then (agree_expect (sign 44)) (λ (c : Unit). agree_then (agree_expect (word (codes "ptr"))) (λ (p : Unit).
    agree_then (agree_same law_global) (λ (g : SymId). agree_then (agree_many (sign 44) (agree_after_comma (agree_index a b n m k e less deep)) []) (λ (is : List TypedCount). agree_then (agree_expect (sign 41)) (λ (d : Unit). agree_ret (consts.Gep t g is))))))))

pub agree_gep : (a b : Option ℕ) (n m k : ℕ) → AtMost k a b → n ≤ m → k ≤ suc n → Agree k (gep a n) (gep b m)
unfolding gep
agree_gep a b n m k e less deep = agree_then (agree_expect gep_word) (λ (u : Unit). agree_then (agree_same law_gep_flags) (λ (f : Unit). agree_gep_rest a b n m k e less deep))

pub agree_constant : {k : ℕ} (l m : Limits) → Wider k l m → Agree k (constant l) (constant m)
unfolding constant const_at
agree_constant {k = k} l m h =
    agree_either (kind kinds.Global) (agree_same law_address) (agree_either gep_word (agree_gep l.length m.length l.levels m.levels k h.lengths h.levels h.deep) (agree_either (kind kinds.Int) (agree_same law_integer) (agree_one _)))

pub agree_value : {k : ℕ} (l m : Limits) → Wider k l m → Agree k (value l) (value m)
unfolding value
agree_value l m h = agree_either (kind kinds.Local) (agree_same law_local_value) (agree_then (agree_constant l m h) (λ (c : Const). agree_ret (operands.Const c)))

pub agree_typed : {k : ℕ} (l m : Limits) → Wider k l m → Agree k (typed l) (typed m)
unfolding typed
agree_typed l m h = agree_then (agree_type_form l m h) (λ (t : IrType). agree_then (agree_value l m h) (λ (v : Operand). agree_ret (record { ty = t; value = v })))

-- ---- initialisers

agree_typed_init : (a b : Option ℕ) (n m k : ℕ) {f g : Form Const} → AtMost k a b → n ≤ m → k ≤ suc n → Agree k f g → Agree k (typed_init f a n) (typed_init g b m)
agree_typed_init a b n m k e less deep h = agree_then (agree_type true a b n m k e less deep) (λ (t : IrType). agree_then h (λ (c : Const). agree_ret (record { ty = t; value = c })))

agree_array_init : {k : ℕ} {f g : Form TypedConst} → Agree k f g → Agree (suc k) (array_init f) (array_init g)
agree_array_init h = agree_deeper (is_sign 91 refl) refl (λ (o : Unit). agree_then (agree_listed (type_set true) h) (λ (cs : List TypedConst). agree_then (agree_expect (sign 93)) (λ (c : Unit). agree_ret (consts.Array cs))))

agree_struct_init : {k : ℕ} {f g : Form TypedConst} → Agree k f g → Agree (suc k) (struct_init f) (struct_init g)
agree_struct_init h = agree_deeper (is_sign 123 refl) refl (λ (o : Unit). agree_then (agree_listed (type_set true) h) (λ (cs : List TypedConst). agree_then (agree_expect (sign 125)) (λ (c : Unit). agree_ret (consts.Struct cs))))

-- what stands after the other choices of an initialiser with more levels
abbrev After : Option ℕ → ℕ → Form Const
After b m = either (sign 91) (array_init (typed_init (init_at b m) b m)) (either (sign 123) (struct_init (typed_init (init_at b m) b m)) (one_word const_words))

after_short : (b : Option ℕ) (m : ℕ) (l : Left) → length (after ((After b m).parse l)) ≤ length l.tokens
after_short b m l =
    let inner = law_typed_init {w = true} (init_at b m) b m (law_init_at b m) in
    shrinks (After b m) _ (or (law_array_init (typed_init (init_at b m) b m) inner) (or (law_struct_init (typed_init (init_at b m) b m) inner) law_const_word refl refl) refl refl) l

abbrev NoConst : Option ℕ → ℕ → ℕ → Names → List Piece → Type 0
NoConst b m k s ts = Agrees k (left s ts) ((token last_const_of).parse (left s ts)) ((After b m).parse (left s ts))

no_const : (b : Option ℕ) (m k : ℕ) → k ≤ 1 → (s : Names) (ts : List Piece) → NoConst b m k s ts
no_const b m k few s [] = inl refl
no_const b m k few s (Bad f ∷ ts) = inl refl
no_const b m k few s (Is t ∷ ts) = one t.place t.token
  where
    opens : (c : ℕ) (p : Place) → (token last_const_of).parse (left s (Is (record { token = tokens.Sign c; place = p }) ∷ ts)) ≡ Err (record { at = Is (record { token = tokens.Sign c; place = p }) ∷ ts; why = Exceeds limits.Nesting }) → NoConst b m k s (Is (record { token = tokens.Sign c; place = p }) ∷ ts)
    opens c p e = inr (passed_here k limits.Nesting (left s (Is (record { token = tokens.Sign c; place = p }) ∷ ts)) _ _ e (after_short b m (left s (Is (record { token = tokens.Sign c; place = p }) ∷ ts))) (omega (arith, few)))

    by_sign : (c : ℕ) (p : Place) (x y : Bool) → nat_eq c 91 ≡ x → nat_eq c 123 ≡ y → NoConst b m k s (Is (record { token = tokens.Sign c; place = p }) ∷ ts)
    by_sign c p true y e f = opens c p (rw e refl)
    by_sign c p false true e f = opens c p (rw (e, f) refl)
    by_sign c p false false e f = inl (rw (e, f) refl)

    one : (p : Place) (t : Token) → NoConst b m k s (Is (record { token = t; place = p }) ∷ ts)
    one p (tokens.Word w) = inl refl
    one p (tokens.Sign c) = by_sign c p (nat_eq c 91) (nat_eq c 123) refl refl
    one p (tokens.Int n) = inl refl
    one p (tokens.Label n) = inl refl
    one p (tokens.Local n) = inl refl
    one p (tokens.Global n) = inl refl
    one p (tokens.Str n) = inl refl
    one p (tokens.CStr n) = inl refl
    one p (tokens.Meta n) = inl refl
    one p (tokens.Hash n) = inl refl
    one p tokens.End = inl refl

agree_last : (b : Option ℕ) (m k : ℕ) → k ≤ 1 → Agree k (token last_const_of) (After b m)
agree_last b m k few = record { shrinking = λ l. after_short b m l; agree = λ l. no_const b m k few l.names l.tokens }

agree_init_at : (a b : Option ℕ) (n m k : ℕ) → AtMost k a b → n ≤ m → k ≤ suc n → Agree k (init_at a n) (init_at b m)
unfolding init_at
agree_init_at a b zero zero k e less deep =
    agree_either (kind kinds.Global) (agree_same law_address) (agree_either gep_word (agree_gep a b zero zero k e less deep) (agree_either (kind kinds.Int) (agree_same law_integer)
    (agree_either (word (codes "zeroinitializer")) (agree_same law_zero) (agree_either (kind kinds.CStr) (agree_same law_bytes) (agree_one last_const_of)))))
agree_init_at a b zero (suc m) k e less deep =
    agree_either (kind kinds.Global) (agree_same law_address) (agree_either gep_word (agree_gep a b zero (suc m) k e less deep) (agree_either (kind kinds.Int) (agree_same law_integer)
    (agree_either (word (codes "zeroinitializer")) (agree_same law_zero) (agree_either (kind kinds.CStr) (agree_same law_bytes) (agree_last b m k (omega arith))))))
agree_init_at a b (suc n) zero k e less deep = absurd (omega arith)
agree_init_at a b (suc n) (suc m) k e less deep =
    let e2 = at_most_less (k - 1) k a b (omega arith) e in
    let item = agree_typed_init a b n m (k - 1) e2 (omega arith) (omega arith) (agree_init_at a b n m (k - 1) e2 (omega arith) (omega arith)) in
    agree_either (kind kinds.Global) (agree_same law_address) (agree_either gep_word (agree_gep a b (suc n) (suc m) k e less deep) (agree_either (kind kinds.Int) (agree_same law_integer)
    (agree_either (word (codes "zeroinitializer")) (agree_same law_zero) (agree_either (kind kinds.CStr) (agree_same law_bytes)
    (agree_either (sign 91) (agree_less (agree_array_init item) (omega arith)) (agree_either (sign 123) (agree_less (agree_struct_init item) (omega arith)) (agree_one _)))))))

pub agree_init : {k : ℕ} (l m : Limits) → Wider k l m → Agree k (init l) (init m)
unfolding init
agree_init {k = k} l m h = agree_init_at l.length m.length l.levels m.levels k h.lengths h.levels h.deep
