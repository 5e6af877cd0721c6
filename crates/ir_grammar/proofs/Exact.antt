-- What follows from the laws of a form: it is read exactly where the relation holds, with one value, and a fault
-- stands at the first token with which what was read so far begins no text of the form.
use Rattle.std.proofs.Common.{◌≡◌, true, List, [], ◌∷◌, ◌++◌, length, Ok, Err, refl, sym, ap, ◌∙◌, subst, append_assoc, arith}
use Rattle.std.specs.Prelude.{Bool}
use Rattle.std.proofs.lemmas.List.{append-nil}
use Rattle.ir_grammar.specs.Pieces.{Piece}
use Rattle.ir_grammar.specs.Names.{Names}
use Rattle.ir_grammar.specs.Forms.{Left, Fault, Outcome, Form}
use Rattle.ir_grammar.proofs.FormLaws.{Shape, Law, Begins, Traced, after, left}

pub read_whole : {A : Type 0} {w : Bool} (f : Form A) (z : Shape) → Law w f z → (s : Names) (ts : List Piece) (a : A) (s' : Names) → f.reads s ts a s' → f.parse (left s ts) ≡ Ok (a, left s' [])
read_whole f z law s ts a s' r = ap (λ x. f.parse (left s x)) (sym (append-nil ts)) ∙ law.whole s ts a s' [] r refl

same_ok : {A : Type 0} (p q : A × Left) (x y : Outcome A) → x ≡ Ok p → y ≡ Ok q → x ≡ y → p ≡ q
same_ok p q x y e f g = cc

pub one_value : {A : Type 0} {w : Bool} (f : Form A) (z : Shape) → Law w f z → (s : Names) (ts : List Piece) (a b : A) (s' s'' : Names) → f.reads s ts a s' → f.reads s ts b s'' → (a ≡ b) × (s' ≡ s'')
one_value f z law s ts a b s' s'' r q =
    let p = same_ok (a, left s' []) (b, left s'' []) (f.parse (left s ts)) (f.parse (left s ts)) (read_whole f z law s ts a s' r) (read_whole f z law s ts b s'' q) refl in
    (ap (λ x. x.0) p, ap (λ x. x.1.names) p)

-- at a fault: what stands before it is a front, and with its token it is none
pub first_fault : {A : Type 0} {w : Bool} (f : Form A) (z : Shape) → Law w f z → w ≡ true → (s : Names) (ts : List Piece) (d : Fault) → f.parse (left s ts) ≡ Err d → (u : List Piece) × (ts ≡ u ++ d.at) × Begins f s u × ((t : Piece) (rest : List Piece) → d.at ≡ t ∷ rest → Begins f s (u ++ t ∷ []) → ⊥)
first_fault {A = A} {w = w} f z law free s ts d e =
    let h = subst (λ o. Traced w f (left s ts) o) e (law.traced (left s ts)) in
    (h.0, h.1, h.2 free, λ t rest e2 k. none h.0 t rest (h.1 ∙ ap (λ x. h.0 ++ x) e2) e2 k)
  where
    none : (u : List Piece) (t : Piece) (rest : List Piece) → ts ≡ u ++ t ∷ rest → d.at ≡ t ∷ rest → Begins f s (u ++ t ∷ []) → ⊥
    none u t rest e1 e2 h =
        let r = subst (λ x. f.reads s x h.1 h.2) (append_assoc u (t ∷ []) h.0) h.3 in
        let short = law.goes s u t h.0 h.1 h.2 rest r in
        let here : after (f.parse (left s (u ++ t ∷ rest))) ≡ t ∷ rest = ap (λ x. after (f.parse (left s x))) (sym e1) ∙ ap after e ∙ e2 in
        omega (arith, ap length here)
