-- The law of groups.
use Rattle.std.proofs.Common.{◌≡◌, ℕ, ◌≤◌, nat_eq, Bool, true, false, ◌||◌, List, [], ◌∷◌, ◌++◌, length, Ok, Err, refl, sym, ap, ◌∙◌, subst, arith}
use Rattle.std.specs.Prelude.{Option, Some, None}
use Rattle.std.proofs.lemmas.List.{length-append}
use Rattle.std.proofs.lemmas.Bool.Decides.{nat_tests}
use Rattle.ir_lexer.specs.declared.table.Token.{Token}
use Rattle.ir_lexer.specs.declared.table.Token.TheVariants as tokens
use Rattle.ir_lexer.specs.Lexing.{is_end}
use Rattle.ir_grammar.specs.Pieces.{Piece, Is, Bad, is_last}
use Rattle.ir_grammar.specs.Names.{Names}
use Rattle.ir_grammar.specs.Forms.{Left, Outcome, Refused}
use Rattle.ir_grammar.specs.Sets.{Any, has, in_set}
use Rattle.ir_grammar.specs.Tokens.{sign}
use Rattle.ir_grammar.specs.Groups.{sign_awaits, token_awaits, awaits, Inside, is_noinline, sees_noinline, fed, inside_at, inside, group}
use Rattle.ir_grammar.proofs.FormLaws.{Law, Heads, Traced, Faulted, any_token, after, left}
use Rattle.ir_grammar.proofs.Rules.{spot, begins_with, seq, expects}

awaited : (a : ℕ) (as' : List ℕ) → sign_awaits a as' a ≡ Some as'
awaited a as' = let e : nat_eq a a ≡ true = grind (arith, nat_tests) in rw e refl

-- each list of awaited signs can be closed
closing : (as' : List ℕ) → (v : List Piece) × Inside v as'
closing [] = ([], tt)
closing (a ∷ as') = let h = closing as' in (Is (spot (tokens.Sign a)) ∷ h.0, (as', awaited a as', h.1))

abbrev TracedIn : List Piece → List ℕ → Bool → Names → Outcome Bool → Type 0
TracedIn ts as' b s (Ok r) = (u : List Piece) × (ts ≡ u ++ r.1.tokens) × Inside u as' × (r.0 ≡ sees_noinline b u) × (s ≡ r.1.names)
TracedIn ts as' b s (Err d) = (u v : List Piece) × (ts ≡ u ++ d.at) × Inside (u ++ v) as'

traced : (ts : List Piece) (as' : List ℕ) (b : Bool) (s : Names) → TracedIn ts as' b s (inside_at ts as' b s)
unfolding inside_at
traced [] [] b s = ([], refl, tt, refl, refl)
traced (t ∷ ts) [] b s = ([], refl, tt, refl, refl)
traced [] (a ∷ as') b s = let h = closing (a ∷ as') in ([], h.0, refl, h.1)
traced (t ∷ ts) (a ∷ as') b s = at (awaits a as' t) refl (λ next. traced ts next (b || is_noinline t) s)
  where
    step : (next : List ℕ) → awaits a as' t ≡ Some next → (o : Outcome Bool) → TracedIn ts next (b || is_noinline t) s o → TracedIn (t ∷ ts) (a ∷ as') b s o
    step next e (Ok r) h = (t ∷ h.0, ap (λ x. t ∷ x) h.1, (next, e, h.2), h.3, h.4)
    step next e (Err d) h = (t ∷ h.0, h.1, ap (λ x. t ∷ x) h.2, (next, e, h.3))

    at : (o : Option (List ℕ)) → awaits a as' t ≡ o → ((next : List ℕ) → TracedIn ts next (b || is_noinline t) s (inside_at ts next (b || is_noinline t) s)) → TracedIn (t ∷ ts) (a ∷ as') b s (fed o (λ next. inside_at ts next (b || is_noinline t) s) (Err (record { at = t ∷ ts; why = Refused })))
    at None e ih = let h = closing (a ∷ as') in ([], h.0, refl, h.1)
    at (Some next) e ih = step next e (inside_at ts next (b || is_noinline t) s) (ih next)

whole : (u rest : List Piece) (as' : List ℕ) (b : Bool) (s : Names) → Inside u as' → inside_at (u ++ rest) as' b s ≡ Ok (sees_noinline b u, left s rest)
unfolding inside_at
whole [] [] [] b s h = refl
whole [] (t ∷ ts) [] b s h = refl
whole [] rest (a ∷ as') b s h = absurd h
whole (t ∷ u) rest [] b s h = absurd h
whole (t ∷ u) rest (a ∷ as') b s h = ap (λ o. fed o (λ next. inside_at (u ++ rest) next (b || is_noinline t) s) (Err (record { at = t ∷ u ++ rest; why = Refused }))) h.1 ∙ whole u rest h.0 (b || is_noinline t) s h.2

shrinks_in : (ts : List Piece) (as' : List ℕ) (b : Bool) (s : Names) (o : Outcome Bool) → TracedIn ts as' b s o → length (after o) ≤ length ts
shrinks_in ts as' b s (Ok r) h = omega (arith, ap length h.1 ∙ length-append h.0 r.1.tokens)
shrinks_in ts as' b s (Err d) h = omega (arith, ap length h.2 ∙ length-append h.0 d.at)

goes : (u : List Piece) (t : Piece) (v rest : List Piece) (as' : List ℕ) (b : Bool) (s : Names) → Inside (u ++ t ∷ v) as' → length (after (inside_at (u ++ t ∷ rest) as' b s)) ≤ length rest
unfolding inside_at
goes [] t v rest [] b s h = absurd h
goes [] t v rest (a ∷ as') b s h = subst (λ o. length (after (fed o (λ next. inside_at rest next (b || is_noinline t) s) (Err (record { at = t ∷ rest; why = Refused })))) ≤ length rest) (sym h.1) (shrinks_in rest h.0 (b || is_noinline t) s (inside_at rest h.0 (b || is_noinline t) s) (traced rest h.0 (b || is_noinline t) s))
goes (q ∷ u) t v rest [] b s h = absurd h
goes (q ∷ u) t v rest (a ∷ as') b s h = subst (λ o. length (after (fed o (λ next. inside_at (u ++ t ∷ rest) next (b || is_noinline q) s) (Err (record { at = q ∷ u ++ t ∷ rest; why = Refused })))) ≤ length rest) (sym h.1) (goes u t v rest h.0 (b || is_noinline q) s h.2)

abbrev NotOver : Outcome Bool → Type 0
NotOver (Ok r) = Unit {0}
NotOver (Err d) = d.why ≡ Refused

refuses : (ts : List Piece) (as' : List ℕ) (b : Bool) (s : Names) → NotOver (inside_at ts as' b s)
unfolding inside_at
refuses [] [] b s = tt
refuses (t ∷ ts) [] b s = tt
refuses [] (a ∷ as') b s = refl
refuses (t ∷ ts) (a ∷ as') b s = at (awaits a as' t) (λ next. refuses ts next (b || is_noinline t) s)
  where
    at : (o : Option (List ℕ)) → ((next : List ℕ) → NotOver (inside_at ts next (b || is_noinline t) s)) → NotOver (fed o (λ next. inside_at ts next (b || is_noinline t) s) (Err (record { at = t ∷ ts; why = Refused })))
    at None ih = refl
    at (Some next) ih = ih next

-- no lexical fault stands in a group
any : (t : Piece) (a : ℕ) (as' next : List ℕ) → awaits a as' t ≡ Some next → in_set (Any ∷ []) t ≡ true
any (Is s) a as' next e = any_token [] s.token
any (Bad b) a as' next e = absurd cc

-- neither does the end
not_awaited : (t : Token) (a : ℕ) (as' next : List ℕ) → token_awaits a as' t ≡ Some next → is_end t ≡ true → ⊥
not_awaited (tokens.Int n) a as' next e h = cc
not_awaited (tokens.Word n) a as' next e h = cc
not_awaited (tokens.Label n) a as' next e h = cc
not_awaited (tokens.Local n) a as' next e h = cc
not_awaited (tokens.Global n) a as' next e h = cc
not_awaited (tokens.Str n) a as' next e h = cc
not_awaited (tokens.CStr n) a as' next e h = cc
not_awaited (tokens.Meta n) a as' next e h = cc
not_awaited (tokens.Hash n) a as' next e h = cc
not_awaited (tokens.Sign n) a as' next e h = cc
not_awaited tokens.End a as' next e h = cc

inner : (t : Piece) (a : ℕ) (as' next : List ℕ) → awaits a as' t ≡ Some next → is_last t ≡ true → ⊥
inner (Is s) a as' next e h = not_awaited s.token a as' next e h
inner (Bad b) a as' next e h = cc

no_last : (v : List Piece) (e : Piece) (x : List Piece) (as' : List ℕ) → Inside (v ++ e ∷ x) as' → is_last e ≡ true → ⊥
no_last [] e x [] h last = h
no_last [] e x (a ∷ as') h last = inner e a as' h.0 h.1 last
no_last (q ∷ v) e x [] h last = h
no_last (q ∷ v) e x (a ∷ as') h last = no_last v e x h.0 h.2 last

law_inside : {w : Bool} (a : ℕ) → Law w (inside a) (begins_with (Any ∷ []))
law_inside {w = w} a = record {
  traced = λ l. as_form l (inside_at l.tokens (a ∷ []) false l.names) (traced l.tokens (a ∷ []) false l.names);
  heads = λ s u x s' r. headed u r.0;
  whole = λ s u x s' rest r n. whole u rest (a ∷ []) false s r.0 ∙ ap (λ (p : Bool × Names). Ok (p.0, left p.1 rest)) (both (sees_noinline false u) x s s' r.1 r.2);
  goes = λ s u t v x s' rest r. goes u t v rest (a ∷ []) false s r.0;
  sample = λ e s. let h = closing (a ∷ []) in (h.0, sees_noinline false h.0, s, (h.1, refl, refl));
  excess = λ l. excesses l (inside_at l.tokens (a ∷ []) false l.names) (refuses l.tokens (a ∷ []) false l.names);
  starts = λ s u y r. absurd r;
  over = λ s u t y rest r. absurd r;
  closes = λ s u x s' v e k r eq last. absurd (no_last v e k (a ∷ []) (subst (λ q. Inside q (a ∷ [])) eq r.0) last);
}
  where
    excesses : (l : Left) (o : Outcome Bool) → NotOver o → Faulted (inside a) l o
    excesses l (Ok r) h = tt
    excesses l (Err d) h = rw h tt

    both : (x y : Bool) (s s' : Names) → y ≡ x → s ≡ s' → ◌≡◌ {A = Bool × Names} (x, s) (y, s')
    both x y s s' e f = cc

    headed : (u : List Piece) → Inside u (a ∷ []) → Heads (begins_with (Any ∷ [])) u
    headed [] h = absurd h
    headed (t ∷ u) h = any t a [] h.0 h.1

    as_form : (l : Left) (o : Outcome Bool) → TracedIn l.tokens (a ∷ []) false l.names o → Traced w (inside a) l o
    as_form l (Ok r) h = (h.0, h.1, (h.2, h.3, h.4))
    as_form l (Err d) h = (h.0, h.2, λ e. (h.1, sees_noinline false (h.0 ++ h.1), l.names, (h.3, refl, refl)))

-- the sign that opens, and what follows up to the sign that closes
pub law_group : {w : Bool} (c a : ℕ) → has (sign c) (tokens.Sign c) ≡ true → Law w (group c a) (begins_with (sign c))
unfolding group
law_group c a e = seq (expects (sign c) (tokens.Sign c) e) (λ (o : Unit). law_inside a) refl
