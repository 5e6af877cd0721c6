-- A text has one list of tokens, or one first fault.
use Rattle.std.proofs.Common.{◌≡◌, true, false, List, [], ◌∷◌, ◌++◌, Result, Ok, Err, refl, sym, ap, ◌∙◌, subst}
use Rattle.oi_base.specs.declared.ids.Place.{Place}
use Rattle.ir_lexer.specs.declared.fault.LexFault.{LexFault}
use Rattle.ir_lexer.specs.declared.table.Token.{Token}
use Rattle.ir_lexer.specs.declared.table.Token.TheVariants as tokens
use Rattle.ir_lexer.specs.declared.table.Spot.{Spot}
use Rattle.ir_lexer.specs.Lexing.{Unread, next_token, is_end, Passes, Lexes}

abbrev Next : Type 0
Next = Result ((Token × Place) × Unread) LexFault

-- no token but the end comes next
abbrev Stops : Next → Type 0
Stops (Ok n) = is_end n.0.0 ≡ true
Stops (Err e) = Unit {0}

no_more : (o : Next) (n : (Token × Place) × Unread) → Stops o → o ≡ Ok n → is_end n.0.0 ≡ false → ⊥
no_more (Ok m) n stop e more = cc
no_more (Err f) n stop e more = cc

abbrev spot_of : Spot → Next → Spot
spot_of s (Ok n) = record { token = n.0.0; place = n.0.1 }
spot_of s (Err e) = s

abbrev rest_of : Unread → Next → Unread
rest_of u (Ok n) = n.1
rest_of u (Err e) = u

at_end : (o : Next) (p : Place) (w : Unread) → o ≡ Ok ((tokens.End, p), w) → Stops o
at_end o p w e = subst Stops (sym e) refl

at_fault : (o : Next) (f : LexFault) → o ≡ Err f → Stops o
at_fault o f e = subst Stops (sym e) tt

-- two ways from one text to a stop are one
one_way : (u : Unread) (f g : List Spot) (v w : Unread) → Passes u f v → Passes u g w → Stops (next_token v) → Stops (next_token w) → (f ≡ g) × (v ≡ w)
one_way u [] [] v w p q sv sw = (refl, sym p ∙ q)
one_way u [] (t ∷ ts) v w p q sv sw = absurd (no_more (next_token v) ((t.token, t.place), q.0) sv (ap next_token (sym p) ∙ q.1) q.2)
one_way u (s ∷ ss) [] v w p q sv sw = absurd (no_more (next_token w) ((s.token, s.place), p.0) sw (ap next_token (sym q) ∙ p.1) p.2)
one_way u (s ∷ ss) (t ∷ ts) v w p q sv sw =
    let same = sym p.1 ∙ q.1 in
    let spot : s ≡ t = ap (spot_of s) same in
    let rest : p.0 ≡ q.0 = ap (rest_of u) same in
    let more = one_way p.0 ss ts v w p.3 (subst (λ (x : Unread). Passes x ts w) (sym rest) q.3) sv sw in
    (cc, more.1)

ends_alike : (f g : List Spot) (p q : Place) → f ≡ g → p ≡ q → f ++ record { token = tokens.End; place = p } ∷ [] ≡ g ++ record { token = tokens.End; place = q } ∷ []
ends_alike f g p q e h = cc

abbrev place_of : Place → Next → Place
place_of p (Ok n) = n.0.1
place_of p (Err e) = p

abbrev fault_of : LexFault → Next → LexFault
fault_of f (Ok n) = f
fault_of f (Err e) = e

-- a text gives one thing
pub one_answer : (u : Unread) (a b : Result (List Spot) LexFault) → Lexes u a → Lexes u b → a ≡ b
one_answer u (Ok xs) (Ok ys) h k =
    let way = one_way u h.0 k.0 h.1 k.1 h.5 k.5 (at_end _ h.2 h.3 h.6) (at_end _ k.2 k.3 k.6) in
    let end : h.2 ≡ k.2 = ap (place_of h.2) (sym h.6 ∙ ap next_token way.1 ∙ k.6) in
    ap Ok (h.4 ∙ ends_alike h.0 k.0 h.2 k.2 way.0 end ∙ sym k.4)
one_answer u (Ok xs) (Err f) h k =
    let way = one_way u h.0 k.0 h.1 k.1.0 h.5 k.1.1 (at_end _ h.2 h.3 h.6) (at_fault _ f k.1.2) in
    let same = sym h.6 ∙ ap next_token way.1 ∙ k.1.2 in
    cc
one_answer u (Err e) (Ok ys) h k =
    let way = one_way u h.0 k.0 h.1.0 k.1 h.1.1 k.5 (at_fault _ e h.1.2) (at_end _ k.2 k.3 k.6) in
    let same = sym h.1.2 ∙ ap next_token way.1 ∙ k.6 in
    cc
one_answer u (Err e) (Err f) h k =
    let way = one_way u h.0 k.0 h.1.0 k.1.0 h.1.1 k.1.1 (at_fault _ e h.1.2) (at_fault _ f k.1.2) in
    ap Err (ap (fault_of e) (sym h.1.2 ∙ ap next_token way.1 ∙ k.1.2))
