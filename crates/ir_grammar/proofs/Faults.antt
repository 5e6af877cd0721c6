-- What a fault says of a text, and what is read.
use Rattle.std.proofs.Common.{◌≡◌, ◌⊎◌, inl, inr, ℕ, ◌≤◌, ◌<◌, ◌+◌, suc, Bool, true, false, List, [], ◌∷◌, ◌++◌, length, Ok, Err, refl, sym, ap, ◌∙◌, subst, append_assoc, arith}
use Rattle.std.proofs.lemmas.List.{length-append, append-nil, append_cancel_right, append_cancel_left}
use Rattle.ir_lexer.specs.declared.table.Spot.{Spot}
use Rattle.ir_core.specs.declared.module.Module as modules
use Rattle.ir_grammar.specs.declared.which.Which.{Which}
use Rattle.ir_grammar.specs.Pieces.{Piece, Is, pieces}
use Rattle.ir_grammar.specs.Names.{Names, no_names}
use Rattle.ir_grammar.specs.Forms.{Left, Why, Refused, Exceeds, Fault, Outcome, Form}
use Rattle.ir_grammar.specs.Tokens.{Limits, stated, unlimited}
use Rattle.ir_grammar.specs.Entities.{text_form}
use Rattle.ir_grammar.specs.Reading.{ReadsPieces, ReadsWithinLimits, IsFront, FirstRefused, ExceedsAt, read}
use Rattle.ir_grammar.proofs.FormLaws.{Shape, Law, Begins, Traced, Faulted, after, left, split}
use Rattle.ir_grammar.proofs.LawsOfEntities.{text_shape, law_text_form}
use Rattle.ir_grammar.proofs.Exact.{read_whole, first_fault}
use Rattle.ir_grammar.proofs.Agreement.{IsExceeded, Agrees, Agree}
use Rattle.ir_grammar.proofs.AgreementOfEntities.{agree_text}
use Rattle.ir_grammar.proofs.Ends.{OneLast, nothing_after_last, has_last, last_of_pieces, text_ends}

-- ---- the laws of texts

law_limited : (l : Limits) → Law false (text_form l) text_shape
law_limited l = law_text_form l (λ e. absurd cc) (λ e. absurd cc)

law_unlimited : (n : ℕ) → Law true (text_form (unlimited n)) text_shape
law_unlimited n = law_text_form (unlimited n) (λ e k. refl) (λ e k. refl)

from_stated : (n : ℕ) → 64 ≤ n → Agree 0 (text_form stated) (text_form (unlimited n))
from_stated n h = agree_text stated (unlimited n) (record { functions = omega arith; params = omega arith; lengths = omega arith; levels = h; deep = omega arith })

more_levels : (n m : ℕ) → n ≤ m → Agree (suc n) (text_form (unlimited n)) (text_form (unlimited m))
more_levels n m h = agree_text (unlimited n) (unlimited m) (record { functions = tt; params = tt; lengths = tt; levels = h; deep = omega arith })

-- ---- what is read

read_of : {A : Type 0} {w : Bool} (f : Form A) (z : Shape) → Law w f z → (s : Names) (ts : List Piece) (a : A) (s' : Names) → f.parse (left s ts) ≡ Ok (a, left s' []) → f.reads s ts a s'
read_of {w = w} f z law s ts a s' e =
    let h = subst (λ o. Traced w f (left s ts) o) e (law.traced (left s ts)) in
    subst (λ u. f.reads s u a s') (sym (h.1 ∙ append-nil h.0)) h.2

same_ok : {A : Type 0} (k : ℕ) (l : Left) (o o2 : Outcome A) (r : A × Left) → Agrees k l o o2 → o ≡ Ok r → o2 ≡ Ok r
same_ok k l o o2 r (inl e) h = sym e ∙ h
same_ok k l (Ok q) o2 r (inr p) h = absurd p
same_ok k l (Err d) o2 r (inr p) h = absurd cc

same_short : {A : Type 0} (k : ℕ) (l : Left) (o o2 : Outcome A) → Agrees k l o o2 → length l.tokens < k → o ≡ o2
same_short k l o o2 (inl e) h = e
same_short k l (Ok q) o2 (inr p) h = absurd p
same_short k l (Err d) o2 (inr p) h = absurd (omega (arith, p.2, h))

-- what one form reads whole the other has
carried : (k : ℕ) (l m : Limits) → Agree k (text_form l) (text_form m) → (ts : List Piece) (a : modules.Module) → ReadsPieces l ts a → ReadsPieces m ts a
carried k l m h ts a r =
    let one = read_whole (text_form l) _ (law_limited l) no_names ts a r.0 r.1 in
    let two = same_ok k (left no_names ts) ((text_form l).parse (left no_names ts)) ((text_form m).parse (left no_names ts)) (a, left r.0 []) (h.agree (left no_names ts)) one in
    (r.0, read_of (text_form m) _ (law_limited m) no_names ts a r.0 two)

-- fewer levels than these are enough
fewer_levels : (n m : ℕ) (ts : List Piece) (a : modules.Module) → n ≤ m → length ts ≤ n → ReadsPieces (unlimited m) ts a → ReadsPieces (unlimited n) ts a
fewer_levels n m ts a h k r =
    let one = read_whole (text_form (unlimited m)) _ (law_limited (unlimited m)) no_names ts a r.0 r.1 in
    let same = same_short (suc n) (left no_names ts) ((text_form (unlimited n)).parse (left no_names ts)) ((text_form (unlimited m)).parse (left no_names ts)) ((more_levels n m h).agree (left no_names ts)) (omega (arith, k)) in
    (r.0, read_of (text_form (unlimited n)) _ (law_limited (unlimited n)) no_names ts a r.0 (same ∙ one))

-- as many levels as tokens are enough
pub enough_levels : (n : ℕ) (ts : List Piece) (a : modules.Module) → ReadsPieces (unlimited n) ts a → ReadsPieces (unlimited (length ts)) ts a
enough_levels n ts a r =
    let m = n + length ts in
    fewer_levels (length ts) m ts a (omega arith) (omega arith) (carried (suc n) (unlimited n) (unlimited m) (more_levels n m (omega arith)) ts a r)

pub limits_lifted : (ts : List Piece) (a : modules.Module) → ReadsPieces stated ts a → ReadsPieces (unlimited (length ts)) ts a
limits_lifted ts a r = enough_levels 64 ts a (carried 0 stated (unlimited 64) (from_stated 64 (omega arith)) ts a r)

-- what is read ends the text, since only its last piece is the end
pub read_to_end : (bytes : List ℕ) (m : modules.Module) (l : Left) → read bytes ≡ Ok (m, l) → ReadsWithinLimits bytes m
read_to_end bytes m l e =
    let h = subst (λ o. Traced false (text_form stated) (left no_names (pieces bytes)) o) e ((law_limited stated).traced (left no_names (pieces bytes))) in
    let k = text_ends stated no_names h.0 m l.names h.2 in
    let whole = h.1 ∙ ap (λ u. u ++ l.tokens) k.2 ∙ append_assoc k.0 (Is k.1 ∷ []) l.tokens in
    let none = nothing_after_last k.0 (Is k.1) l.tokens (subst OneLast whole (last_of_pieces bytes)) k.3 in
    (l.names, subst (λ u. (text_form stated).reads no_names u m l.names) (sym (h.1 ∙ ap (λ x. h.0 ++ x) none ∙ append-nil h.0)) h.2)

pub read_exactly : (bytes : List ℕ) (m : modules.Module) → ReadsWithinLimits bytes m → (s : Names) × (read bytes ≡ Ok (m, record { names = s; tokens = [] }))
read_exactly bytes m r = (r.0, read_whole (text_form stated) text_shape (law_limited stated) no_names (pieces bytes) m r.0 r.1)

-- ---- the refused token

same_refused : {A : Type 0} (k : ℕ) (l : Left) (o o2 : Outcome A) (at : List Piece) → Agrees k l o o2 → o ≡ Err (record { at = at; why = Refused }) → o2 ≡ Err (record { at = at; why = Refused })
same_refused k l o o2 at (inl e) h = sym e ∙ h
same_refused k l (Ok r) o2 at (inr p) h = absurd p
same_refused k l (Err d) o2 at (inr p) h = let same : d.why ≡ Refused = cc in absurd (subst IsExceeded same p.0)

-- a fault without limits, where so many levels are enough for what is read
refused_freely : (n : ℕ) (ts at : List Piece) → 64 ≤ n → (text_form stated).parse (left no_names ts) ≡ Err (record { at = at; why = Refused }) → (text_form (unlimited n)).parse (left no_names ts) ≡ Err (record { at = at; why = Refused })
refused_freely n ts at h e = same_refused 0 (left no_names ts) ((text_form stated).parse (left no_names ts)) ((text_form (unlimited n)).parse (left no_names ts)) at ((from_stated n h).agree (left no_names ts)) e

front_of : (n : ℕ) (u : List Piece) → Begins (text_form (unlimited n)) no_names u → IsFront u
front_of n u b = (n, b.0, b.1, (b.2, b.3))

begins_of : (n m : ℕ) (u v : List Piece) (a : modules.Module) → n ≤ m → ReadsPieces (unlimited n) (u ++ v) a → Begins (text_form (unlimited m)) no_names u
begins_of n m u v a h r = let k = carried (suc n) (unlimited n) (unlimited m) (more_levels n m h) (u ++ v) a r in (v, a, k.0, k.1)

-- what is read before the refused token is a front, and with it none
pub refused_front : (ts at : List Piece) → (text_form stated).parse (left no_names ts) ≡ Err (record { at = at; why = Refused }) → (u : List Piece) × (ts ≡ u ++ at) × Begins (text_form (unlimited 64)) no_names u × ((t : Piece) (rest : List Piece) → at ≡ t ∷ rest → IsFront (u ++ t ∷ []) → ⊥)
refused_front ts at e =
    let h = first_fault (text_form (unlimited 64)) text_shape (law_unlimited 64) refl no_names ts (record { at = at; why = Refused }) (refused_freely 64 ts at (omega arith) e) in
    (h.0, h.1, h.2, λ t rest e2 f. none h.0 h.1 t rest e2 f)
  where
    none : (u : List Piece) → ts ≡ u ++ at → (t : Piece) (rest : List Piece) → at ≡ t ∷ rest → IsFront (u ++ t ∷ []) → ⊥
    none u e1 t rest e2 f =
        let n = f.0 + 64 in
        let h = first_fault (text_form (unlimited n)) text_shape (law_unlimited n) refl no_names ts (record { at = at; why = Refused }) (refused_freely n ts at (omega arith) e) in
        let same : h.0 ≡ u = append_cancel_right h.0 u at (sym h.1 ∙ e1) in
        h.3 t rest e2 (subst (λ x. Begins (text_form (unlimited n)) no_names (x ++ t ∷ [])) (sym same) (begins_of f.0 n (u ++ t ∷ []) f.1 f.2 (omega arith) f.3))

-- the last piece of a text is not after a fault
not_after : (bytes : List ℕ) → (text_form stated).parse (left no_names (pieces bytes)) ≡ Err (record { at = []; why = Refused }) → ⊥
not_after bytes e =
    let h = refused_front (pieces bytes) [] e in
    let b = h.2 in
    let whole : pieces bytes ≡ h.0 = h.1 ∙ append-nil h.0 in
    let k = has_last (pieces bytes) (last_of_pieces bytes) in
    let cut : h.0 ++ b.0 ≡ k.0 ++ k.1 ∷ b.0 = ap (λ x. x ++ b.0) (sym whole ∙ k.2) ∙ append_assoc k.0 (k.1 ∷ []) b.0 in
    let none = ((law_unlimited 64).closes no_names (h.0 ++ b.0) b.1 b.2 k.0 k.1 b.0 b.3 cut k.3).1 in
    let all : (text_form (unlimited 64)).reads no_names (pieces bytes) b.1 b.2 = subst (λ x. (text_form (unlimited 64)).reads no_names x b.1 b.2) (ap (λ x. h.0 ++ x) none ∙ append-nil h.0 ∙ sym whole) b.3 in
    let one = read_whole (text_form (unlimited 64)) text_shape (law_unlimited 64) no_names (pieces bytes) b.1 b.2 all in
    cc (one, refused_freely 64 (pieces bytes) [] (omega arith) e)

pub first_refused : (bytes : List ℕ) (at : List Piece) → read bytes ≡ Err (record { at = at; why = Refused }) → (u rest : List Piece) × (t : Piece) × (at ≡ t ∷ rest) × FirstRefused bytes u t rest
first_refused bytes [] e = absurd (not_after bytes e)
first_refused bytes (t ∷ rest) e = let h = refused_front (pieces bytes) (t ∷ rest) e in (h.0, rest, t, refl, (h.1, front_of 64 h.0 h.2, h.3 t rest refl))

shorter_front : (u v : List Piece) → IsFront (u ++ v) → IsFront u
shorter_front u v f = (f.0, v ++ f.1, f.2, subst (λ x. ReadsPieces (unlimited f.0) x f.2) (append_assoc u v f.1) f.3)

-- the first refused token is one
pub one_refused : (bytes : List ℕ) (u v : List Piece) (t q : Piece) (rest more : List Piece) → FirstRefused bytes u t rest → FirstRefused bytes v q more → u ≡ v
one_refused bytes u v t q rest more h k = at (split u rest v (q ∷ more) t (sym h.0 ∙ k.0))
  where
    longer : (a b : List Piece) (p : Piece) (w : List Piece) → b ≡ a ++ p ∷ w → IsFront b → IsFront (a ++ p ∷ [])
    longer a b p w e f = shorter_front (a ++ p ∷ []) w (subst IsFront (e ∙ sym (append_assoc a (p ∷ []) w)) f)

    read_further : (w : List Piece) → u ≡ v ++ w → q ∷ more ≡ w ++ t ∷ rest → u ≡ v
    read_further [] e f = e ∙ append-nil v
    read_further (p ∷ w) e f = let same : q ≡ p = cc in absurd (k.2 (subst (λ x. IsFront (v ++ x ∷ [])) (sym same) (longer v u p w e h.1)))

    at : ((w : List Piece) × (v ≡ u ++ t ∷ w) × (rest ≡ w ++ q ∷ more)) ⊎ ((w : List Piece) × (u ≡ v ++ w) × (q ∷ more ≡ w ++ t ∷ rest)) → u ≡ v
    at (inl c) = absurd (h.2 (longer u v t c.0 c.1 k.1))
    at (inr c) = read_further c.0 c.1 c.2

-- ---- the limit that is exceeded

pub exceeded_place : (bytes : List ℕ) (at : List Piece) (w : Which) → read bytes ≡ Err (record { at = at; why = Exceeds w }) → (u rest : List Piece) × (t : Spot) × (at ≡ Is t ∷ rest) × ExceedsAt bytes w u t rest
exceeded_place bytes at w e =
    let h = subst (λ o. Faulted (text_form stated) (left no_names (pieces bytes)) o) e ((law_limited stated).excess (left no_names (pieces bytes))) in
    (h.0, h.1, h.2, h.4, (h.3 ∙ ap (λ x. h.0 ++ x) h.4, h.5))

pub exceeded_told : (bytes : List ℕ) (w : Which) (u : List Piece) (t : Spot) (rest : List Piece) → ExceedsAt bytes w u t rest → read bytes ≡ Err (record { at = Is t ∷ rest; why = Exceeds w })
exceeded_told bytes w u t rest h = ap (λ ts. (text_form stated).parse (left no_names ts)) h.0 ∙ (law_limited stated).over no_names u t w rest h.1

-- two cuts of one list
longer_front : (u v at more : List Piece) → u ++ at ≡ v ++ more → length more ≤ length at → (x : List Piece) × (v ≡ u ++ x)
longer_front [] v at more e h = (v, refl)
longer_front (p ∷ u) [] at more e h = absurd (omega (arith, ap length e, length-append u at))
longer_front (p ∷ u) (q ∷ v) at more e h =
    let e2 : u ++ at ≡ v ++ more = cc in
    let same : p ≡ q = cc in
    let k = longer_front u v at more e2 h in
    (k.0, cc (k.1, same))

-- what is read at least up to there begins a text
front_before : (n : ℕ) (ts u at : List Piece) → ts ≡ u ++ at → length (after ((text_form (unlimited n)).parse (left no_names ts))) ≤ length at → IsFront u
front_before n ts u at e h = by_outcome ((text_form (unlimited n)).parse (left no_names ts)) ((law_unlimited n).traced (left no_names ts)) h
  where
    by_outcome : (o : Outcome modules.Module) → Traced true (text_form (unlimited n)) (left no_names ts) o → length (after o) ≤ length at → IsFront u
    by_outcome (Ok r) k less =
        let x = longer_front u k.0 at r.1.tokens (sym e ∙ k.1) less in
        (n, x.0, r.0, (r.1.names, subst (λ q. (text_form (unlimited n)).reads no_names q r.0 r.1.names) x.1 k.2))
    by_outcome (Err d) k less =
        let x = longer_front u k.0 at d.at (sym e ∙ k.1) less in
        let b = k.2 refl in
        (n, x.0 ++ b.0, b.1, (b.2, subst (λ q. (text_form (unlimited n)).reads no_names q b.1 b.2) (ap (λ q. q ++ b.0) x.1 ∙ append_assoc u x.0 b.0) b.3))

reads_on : {A : Type 0} (k : ℕ) (l : Left) (o o2 : Outcome A) (d : Fault) → Agrees k l o o2 → o ≡ Err d → length (after o2) ≤ length d.at
reads_on k l o o2 d (inl e) h = let same : after o2 ≡ d.at = ap after (sym e ∙ h) in omega (arith, ap length same)
reads_on k l (Ok r) o2 d (inr p) h = absurd p
reads_on k l (Err c) o2 d (inr p) h = let same : c.at ≡ d.at = ap after h in omega (arith, p.1, ap length same)

pub exceeded_front : (bytes : List ℕ) (w : Which) (u : List Piece) (t : Spot) (rest : List Piece) → ExceedsAt bytes w u t rest → IsFront u
exceeded_front bytes w u t rest h =
    let l = left no_names (pieces bytes) in
    front_before 64 (pieces bytes) u (Is t ∷ rest) h.0 (reads_on 0 l ((text_form stated).parse l) ((text_form (unlimited 64)).parse l) (record { at = Is t ∷ rest; why = Exceeds w }) ((from_stated 64 (omega arith)).agree l) (exceeded_told bytes w u t rest h))

abbrev why_of : {A : Type 0} → Outcome A → Why
why_of (Ok r) = Refused
why_of (Err d) = d.why

pub one_exceeded : (bytes : List ℕ) (w w2 : Which) (u v : List Piece) (t q : Spot) (rest more : List Piece) → ExceedsAt bytes w u t rest → ExceedsAt bytes w2 v q more → (w ≡ w2) × (u ≡ v)
one_exceeded bytes w w2 u v t q rest more h k =
    let e = sym (exceeded_told bytes w u t rest h) ∙ exceeded_told bytes w2 v q more k in
    let same : Is t ∷ rest ≡ Is q ∷ more = ap after e in
    let limit : Exceeds w ≡ Exceeds w2 = ap why_of e in
    (cc, append_cancel_right u v (Is q ∷ more) (ap (λ x. u ++ x) (sym same) ∙ sym h.0 ∙ k.0))

piece_of : (bytes : List ℕ) (at : List Piece) (y : Why) → read bytes ≡ Err (record { at = at; why = y }) → (u rest : List Piece) × (t : Piece) × (at ≡ t ∷ rest) × (pieces bytes ≡ u ++ t ∷ rest)
piece_of bytes at Refused e = let h = first_refused bytes at e in (h.0, h.1, h.2, h.3, h.4.0)
piece_of bytes at (Exceeds w) e = let h = exceeded_place bytes at w e in (h.0, h.1, Is h.2, h.3, h.4.0)

-- no fault stands after the last piece
pub fault_at_piece : (bytes : List ℕ) (d : Fault) → read bytes ≡ Err d → (u rest : List Piece) × (t : Piece) × (d.at ≡ t ∷ rest) × (pieces bytes ≡ u ++ t ∷ rest)
fault_at_piece bytes d e = piece_of bytes d.at d.why e

-- the first refused token is told where no limit is exceeded
pub refused_told : (bytes : List ℕ) (u : List Piece) (t : Piece) (rest : List Piece) → FirstRefused bytes u t rest → ((w : Which) (v : List Piece) (q : Spot) (more : List Piece) → ExceedsAt bytes w v q more → ⊥) → read bytes ≡ Err (record { at = t ∷ rest; why = Refused })
refused_told bytes u t rest h free = by_outcome (read bytes) refl
  where
    by_fault : (at : List Piece) (y : Why) → read bytes ≡ Err (record { at = at; why = y }) → read bytes ≡ Err (record { at = t ∷ rest; why = Refused })
    by_fault at (Exceeds w) e = let k = exceeded_place bytes at w e in absurd (free w k.0 k.2 k.1 k.4)
    by_fault at Refused e =
        let k = first_refused bytes at e in
        let same = one_refused bytes k.0 u k.2 t k.1 rest k.4 h in
        let cut : at ≡ t ∷ rest = k.3 ∙ append_cancel_left u (k.2 ∷ k.1) (t ∷ rest) (ap (λ x. x ++ k.2 ∷ k.1) (sym same) ∙ sym k.4.0 ∙ h.0) in
        e ∙ ap (λ (x : List Piece). Err (record { at = x; why = Refused })) cut

    by_outcome : (o : Outcome modules.Module) → read bytes ≡ o → read bytes ≡ Err (record { at = t ∷ rest; why = Refused })
    by_outcome (Ok r) e =
        let k = limits_lifted (pieces bytes) r.0 (read_to_end bytes r.0 r.1 e) in
        absurd (h.2 (length (pieces bytes), rest, r.0, subst (λ x. ReadsPieces (unlimited (length (pieces bytes))) x r.0) (h.0 ∙ sym (append_assoc u (t ∷ []) rest)) k))
    by_outcome (Err d) e = by_fault d.at d.why e
