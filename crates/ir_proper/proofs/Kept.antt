-- What a reading keeps. Where a form is read names are only put after those that are there, no name stands twice in one, each symbol is
-- proper, and what is read is right in view of all names that there are in the end. Each way of making forms keeps this.
use Rattle.std.proofs.Common.{◌≡◌, ◌≢◌, inl, inr, ℕ, ◌≤◌, zero, suc, Bool, true, false, List, [], ◌∷◌, ◌++◌, length, refl, sym, ap, ◌∙◌, subst, arith}
use Rattle.std.specs.Prelude.{⊤}
use Rattle.std.specs.List.{AllByRecursion as Each}
use Rattle.std.proofs.lemmas.List.{append_assoc, append-nil, length-append}
use Rattle.oi_base.specs.declared.ids.Place.{Place}
use Rattle.ir_lexer.specs.declared.table.Token.{Token}
use Rattle.ir_lexer.specs.declared.table.Token.TheVariants as tokens
use Rattle.ir_grammar.specs.Pieces.{Piece, Is, Bad}
use Rattle.ir_grammar.specs.Names.{Names, Begins}
use Rattle.ir_grammar.specs.Sets.{Set}
use Rattle.ir_grammar.specs.Forms.{Form, act, ret, Verdict, Takes, token, ◌>>=◌, either, choose, Rounds, rounds, located}
use Rattle.ir_grammar.specs.Tokens.{expect, sign, skip, many, after_comma, listed}

-- ---- all of a list

pub each_append : {A : Type 0} (P : A → Type 0) (xs ys : List A) → Each P xs → Each P ys → Each P (xs ++ ys)
each_append P [] ys h k = k
each_append P (x ∷ xs) ys h k = (h.0, each_append P xs ys h.1 k)

pub each_left : {A : Type 0} (P : A → Type 0) (xs ys : List A) → Each P (xs ++ ys) → Each P xs
each_left P [] ys h = tt
each_left P (x ∷ xs) ys h = (h.0, each_left P xs ys h.1)

pub each_right : {A : Type 0} (P : A → Type 0) (xs ys : List A) → Each P (xs ++ ys) → Each P ys
each_right P [] ys h = h
each_right P (x ∷ xs) ys h = each_right P xs ys h.1

pub each_push : {A : Type 0} (P : A → Type 0) (xs : List A) (y : A) → Each P xs → P y → Each P (xs ++ y ∷ [])
each_push P xs y h k = each_append P xs (y ∷ []) h (k, tt)

-- ---- tokens, and states of the names

-- a name that a symbol may have
abbrev pub IsClean : List ℕ → Type 0
IsClean name = (name ≢ []) × Each (λ (b : ℕ). b ≢ 0) name

abbrev pub CleanToken : Token → Type 0
CleanToken (tokens.Global name) = IsClean name
CleanToken t = ⊤

abbrev pub CleanPiece : Piece → Type 0
CleanPiece (Is s) = CleanToken s.token
CleanPiece (Bad e) = ⊤

abbrev pub Clean : List Piece → Type 0
Clean u = Each CleanPiece u

-- none stands twice
abbrev pub Once : List (List ℕ) → Type 0
Once [] = ⊤
Once (x ∷ xs) = Each (λ (y : List ℕ). x ≢ y) xs × Once xs

pub record Fine (s : Names) : Type 0 where
  pub symbols : Once s.symbols
  pub types : Once s.types
  pub locals : Once s.locals
  pub clean : Each IsClean s.symbols

-- ---- names that begin a list of names

pub begins_same : (xs : List (List ℕ)) → Begins xs xs
begins_same xs = ([], append-nil xs)

pub begins_then : (xs ys zs : List (List ℕ)) → Begins ys xs → Begins zs ys → Begins zs xs
begins_then xs ys zs h k = (h.0 ++ k.0, sym (append_assoc xs h.0 k.0) ∙ ap (λ (vs : List (List ℕ)). vs ++ k.0) h.1 ∙ k.1)

pub begins_length : (xs ys : List (List ℕ)) → Begins ys xs → length xs ≤ length ys
begins_length xs ys h = let e = length-append xs h.0 in let same = ap (λ (vs : List (List ℕ)). length vs) h.1 in omega (arith, e, same)

-- where this is so, locals count
abbrev pub LocalsGrow : Bool → Names → Names → Type 0
LocalsGrow true s t = Begins t.locals s.locals
LocalsGrow false s t = ⊤

-- the names of the one begin those of the other
pub record Grows (b : Bool) (s t : Names) : Type 0 where
  pub symbols : Begins t.symbols s.symbols
  pub types : Begins t.types s.types
  pub locals : LocalsGrow b s t

locals_same : (b : Bool) (s : Names) → LocalsGrow b s s
locals_same true s = begins_same s.locals
locals_same false s = tt

pub grows_same : (b : Bool) (s : Names) → Grows b s s
grows_same b s = record { symbols = begins_same s.symbols; types = begins_same s.types; locals = locals_same b s }

locals_then : (b : Bool) (r s t : Names) → LocalsGrow b r s → LocalsGrow b s t → LocalsGrow b r t
locals_then true r s t h k = begins_then r.locals s.locals t.locals h k
locals_then false r s t h k = tt

pub grows_then : (b : Bool) (r s t : Names) → Grows b r s → Grows b s t → Grows b r t
grows_then b r s t h k = record { symbols = begins_then r.symbols s.symbols t.symbols h.symbols k.symbols; types = begins_then r.types s.types t.types h.types k.types; locals = locals_then b r s t h.locals k.locals }

-- Given H the form keeps the names, and what it reads is P, where n has all names that there are in the end
pub record Keeps {A : Type 0} (b : Bool) (n : Names) (H : Type 0) (f : Form A) (P : A → Type 0) : Type 0 where
  pub grows : (s : Names) (u : List Piece) (a : A) (t : Names) → f.reads s u a t → Grows b s t
  pub holds : H → (s : Names) (u : List Piece) (a : A) (t : Names) → Clean u → Fine s → f.reads s u a t → Grows b t n → P a × Fine t

-- nothing
abbrev pub Any : {A : Type 0} → A → Type 0
Any a = ⊤

pub keeps_more : {A : Type 0} {b : Bool} {n : Names} {H : Type 0} {f : Form A} {P Q : A → Type 0} → Keeps b n H f P → (H → (a : A) → P a → Q a) → Keeps b n H f Q
keeps_more h more = record {
  grows = h.grows;
  holds = λ g s u a t c w r k. let x = h.holds g s u a t c w r k in (more g a x.0, x.1);
}

pub keeps_if : {A : Type 0} {b : Bool} {n : Names} {G H : Type 0} {f : Form A} {P : A → Type 0} → Keeps b n H f P → (G → H) → Keeps b n G f P
keeps_if h e = record { grows = h.grows; holds = λ g. h.holds (e g) }

-- ---- no token

pub keeps_ret : {A : Type 0} {b : Bool} {n : Names} {H : Type 0} {P : A → Type 0} (a : A) → (H → P a) → Keeps b n H (ret a) P
keeps_ret {A = A} {b = b} {n = n} {H = H} {P = P} a p = record {
  grows = λ s u x t r. subst (λ (y : Names). Grows b s y) (ap (λ (q : A × Names). q.1) r.1) (grows_same b s);
  holds = λ g s u x t c w r k. (subst P (ap (λ (q : A × Names). q.0) r.1) (p g), subst Fine (ap (λ (q : A × Names). q.1) r.1) w);
}

pub keeps_act : {A : Type 0} {b : Bool} {n : Names} {H : Type 0} {P : A → Type 0} (h : Names → A × Names)
    → ((s : Names) → Grows b s (h s).1) → (H → (s : Names) → Fine s → Grows b (h s).1 n → P (h s).0 × Fine (h s).1) → Keeps b n H (act h) P
keeps_act {A = A} {b = b} {n = n} {H = H} {P = P} h more right = record {
  grows = λ s u x t r. subst (λ (q : A × Names). Grows b s q.1) r.1 (more s);
  holds = λ g s u x t c w r k. subst (λ (q : A × Names). P q.0 × Fine q.1) r.1 (right g s w (subst (λ (q : A × Names). Grows b q.1 n) (sym r.1) k));
}

-- ---- one token

pub keeps_token : {A : Type 0} {b : Bool} {n : Names} {H : Type 0} {P : A → Type 0} (v : Token → Verdict A) → (H → (t : Token) (a : A) → CleanToken t → v t ≡ Takes a → P a) → Keeps b n H (token v) P
keeps_token {A = A} {b = b} {n = n} {H = H} {P = P} v p = record {
  grows = λ s u x t r. subst (λ (y : Names). Grows b s y) r.3 (grows_same b s);
  holds = λ g s u x t c w r k. (p g r.0.token x (subst Clean r.1 c).0 r.2, subst Fine r.3 w);
}

pub keeps_any : {A : Type 0} {b : Bool} {n : Names} {H : Type 0} (v : Token → Verdict A) → Keeps b n H (token v) Any
keeps_any v = keeps_token v (λ g t a c e. tt)

pub keeps_expect : {b : Bool} {n : Names} {H : Type 0} (z : Set) → Keeps b n H (expect z) Any
keeps_expect z = keeps_any _

-- ---- one form and then another

pub keeps_then : {A B : Type 0} {b : Bool} {n : Names} {H : Type 0} {f : Form A} {g : A → Form B} {P : A → Type 0} {Q : B → Type 0}
    → Keeps b n H f P → ((a : A) → Keeps b n (P a × H) (g a) Q) → Keeps b n H (f >>= g) Q
keeps_then {A = A} {B = B} {b = b} {n = n} {H = H} {f = f} {g = g} {P = P} {Q = Q} hf hg = record {
  grows = λ s u x t r. grows_then b s r.1 t (hf.grows s r.2 r.0 r.1 r.5) ((hg r.0).grows r.1 r.3 x t r.6);
  holds = λ h s u x t c w r k.
      let clean = subst Clean r.4 c in
      let first = hf.holds h s r.2 r.0 r.1 (each_left CleanPiece r.2 r.3 clean) w r.5 (grows_then b r.1 t n ((hg r.0).grows r.1 r.3 x t r.6) k) in
      (hg r.0).holds (first.0, h) r.1 r.3 x t (each_right CleanPiece r.2 r.3 clean) first.1 r.6 k;
}

-- ---- one form or another

pub keeps_either : {A : Type 0} {b : Bool} {n : Names} {H : Type 0} (z : Set) {f g : Form A} {P : A → Type 0} → Keeps b n H f P → Keeps b n H g P → Keeps b n H (either z f g) P
keeps_either {A = A} {b = b} {n = n} {H = H} z {f = f} {g = g} {P = P} hf hg = record { grows = more; holds = right }
  where
    more : (s : Names) (u : List Piece) (a : A) (t : Names) → (either z f g).reads s u a t → Grows b s t
    more s u a t (inl r) = hf.grows s u a t r
    more s u a t (inr r) = hg.grows s u a t r

    right : H → (s : Names) (u : List Piece) (a : A) (t : Names) → Clean u → Fine s → (either z f g).reads s u a t → Grows b t n → P a × Fine t
    right h s u a t c w (inl r) k = hf.holds h s u a t c w r k
    right h s u a t c w (inr r) k = hg.holds h s u a t c w r k

pub keeps_choose : {A : Type 0} {b : Bool} {n : Names} {H : Type 0} (c : Bool) {f g : Form A} {P : A → Type 0} → Keeps b n ((c ≡ true) × H) f P → Keeps b n ((c ≡ false) × H) g P → Keeps b n H (choose c f g) P
keeps_choose true hf hg = record { grows = hf.grows; holds = λ h. hf.holds (refl, h) }
keeps_choose false hf hg = record { grows = hg.grows; holds = λ h. hg.holds (refl, h) }

-- ---- rounds

pub keeps_rounds : {X Y : Type 0} {b : Bool} {n : Names} {H : Type 0} (z : X → Set) {go : X → Form X} {stop : X → Form Y} (I : X → Type 0) {Q : Y → Type 0}
    → ((x : X) → Keeps b n (I x × H) (go x) I) → ((x : X) → Keeps b n (I x × H) (stop x) Q) → (x : X) → (H → I x) → Keeps b n H (rounds z go stop x) Q
keeps_rounds {X = X} {Y = Y} {b = b} {n = n} {H = H} z {go = go} {stop = stop} I {Q = Q} hg hs x0 i0 = record {
  grows = λ s u y t r. more r.0 x0 s u y t r.1;
  holds = λ h s u y t c w r k. right r.0 x0 (i0 h) h s u y t c w r.1 k;
}
  where
    more : (m : ℕ) (x : X) (s : Names) (u : List Piece) (y : Y) (t : Names) → Rounds go stop m x s u y t → Grows b s t
    more zero x s u y t r = (hs x).grows s u y t r
    more (suc m) x s u y t r = grows_then b s r.1 t ((hg x).grows s r.2 r.0 r.1 r.5) (more m r.0 r.1 r.3 y t r.6)

    right : (m : ℕ) (x : X) → I x → H → (s : Names) (u : List Piece) (y : Y) (t : Names) → Clean u → Fine s → Rounds go stop m x s u y t → Grows b t n → Q y × Fine t
    right zero x i h s u y t c w r k = (hs x).holds (i, h) s u y t c w r k
    right (suc m) x i h s u y t c w r k =
        let clean = subst Clean r.4 c in
        let first = (hg x).holds (i, h) s r.2 r.0 r.1 (each_left CleanPiece r.2 r.3 clean) w r.5 (grows_then b r.1 t n (more m r.0 r.1 r.3 y t r.6) k) in
        right m r.0 first.0 h r.1 r.3 y t (each_right CleanPiece r.2 r.3 clean) first.1 r.6 k

-- ---- a form with its place

pub keeps_located : {A : Type 0} {b : Bool} {n : Names} {H : Type 0} {f : Form A} {P : A → Type 0} → Keeps b n H f P → Keeps b n H (located f) (λ (p : Place × A). P p.1)
keeps_located h = record {
  grows = λ s u p t r. h.grows s u p.1 t r.1;
  holds = λ g s u p t c w r k. h.holds g s u p.1 t c w r.1 k;
}

-- ---- many

pub keeps_skip : {b : Bool} {n : Names} {H : Type 0} (z : Set) {f : Form Unit} → Keeps b n H f Any → Keeps b n H (skip z f) Any
keeps_skip z h = keeps_rounds (λ x. z) Any (λ (x : Unit). keeps_if h (λ g. g.1)) (λ (x : Unit). keeps_ret tt (λ g. tt)) tt (λ g. tt)

pub keeps_after_comma : {A : Type 0} {b : Bool} {n : Names} {H : Type 0} {f : Form A} {P : A → Type 0} → Keeps b n H f P → Keeps b n H (after_comma f) P
keeps_after_comma h = keeps_then (keeps_expect (sign 44)) (λ (c : Unit). keeps_if h (λ g. g.1))

pub keeps_many : {A : Type 0} {b : Bool} {n : Names} {H : Type 0} (z : Set) {f : Form A} (P : A → Type 0) → Keeps b n H f P → (xs : List A) → (H → Each P xs) → Keeps b n H (many z f xs) (Each P)
keeps_many {A = A} z P h xs e =
    keeps_rounds (λ xs. z) (Each P)
    (λ (xs : List A). keeps_then (keeps_if h (λ g. g.1)) (λ (x : A). keeps_ret (xs ++ x ∷ []) (λ g. each_push P xs x g.1.0 g.0)))
    (λ (xs : List A). keeps_ret xs (λ g. g.0)) xs e

pub keeps_listed : {A : Type 0} {b : Bool} {n : Names} {H : Type 0} (z : Set) {f : Form A} (P : A → Type 0) → Keeps b n H f P → Keeps b n H (listed z f) (Each P)
keeps_listed {A = A} z P h =
    keeps_either z (keeps_then h (λ (a : A). keeps_many (sign 44) P (keeps_after_comma (keeps_if h (λ g. g.1))) (a ∷ []) (λ g. (g.0, tt))))
    (keeps_ret [] (λ g. tt))
