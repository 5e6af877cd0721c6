-- What the reading's faults say of a text, and that it is read exactly within the limits.
use Rattle.std.proofs.Common.{◌≡◌, inl, inr, ℕ, ◌≤◌, Bool, true, false, List, [], ◌∷◌, length, Option, Some, None, Ok, Err, refl, sym, ap, ◌∙◌, subst, arith}
use Rattle.std.specs.Prelude.{slice_get}
use Rattle.std.specs.Option.{option_map}
use Rattle.std.proofs.lemmas.Option.{slice_get_cases, slice_get_within}
use Rattle.oi_base.specs.declared.ids.Place.{Place}
use Rattle.ir_lexer.specs.declared.table.Spot.{Spot}
use Rattle.ir_core.specs.declared.func.Func.{Func}
use Rattle.ir_core.specs.declared.limits.TheConstants.{MOST_SITES}
use Rattle.ir_core.specs.declared.module.Module as modules
use Rattle.call_graph.specs.declared.sites.Site.{Site}
use Rattle.call_graph.specs.Sites.{all_sites}
use Rattle.ir_grammar.specs.declared.which.Which.{Which}
use Rattle.ir_grammar.specs.declared.which.Which.TheVariants as limits
use Rattle.ir_grammar.specs.Pieces.{Piece, Is, Bad}
use Rattle.ir_grammar.specs.Words.{is_left_out}
use Rattle.ir_grammar.specs.Forms.{Left, Fault, Why, Refused, Exceeds, Outcome, place_of}
use Rattle.ir_grammar.specs.Reading.{FirstRefused, read}
use Rattle.ir_grammar.proofs.OneModule.{one_module_within}
use Rattle.ir_grammar.proofs.Faults.{read_to_end, read_exactly, first_refused, exceeded_place, exceeded_told}
use Rattle.ir_phrases.specs.declared.fault.ReadFault.{ReadFault}
use Rattle.ir_phrases.specs.declared.fault.ReadFault.TheVariants as faults
use Rattle.ir_phrases.specs.Gives.{left_out_if, refused, said, fault_of, Fails}
use Rattle.ir_reader.specs.Refusals.{ReadsWithin, ExceedsNone, IsRefusal}

one_fault : {A : Type 0} (o : Outcome A) (x y : Fault) → o ≡ Err x → o ≡ Err y → x ≡ y
one_fault o x y e f = cc

other_why : (w : Which) → Refused ≡ Exceeds w → ⊥
other_why w e = absurd cc

none_exceeds : (bytes : List ℕ) (at : List Piece) → read bytes ≡ Err (record { at = at; why = Refused }) → ExceedsNone bytes
none_exceeds bytes at e w u t rest h =
    other_why w (ap (λ (d : Fault). d.why) (one_fault (read bytes) (record { at = at; why = Refused }) (record { at = Is t ∷ rest; why = Exceeds w }) e (exceeded_told bytes w u t rest h)))

refused_token : (bytes : List ℕ) (u rest : List Piece) (t : Spot) (named : Bool) → is_left_out t.token ≡ named → FirstRefused bytes u (Is t) rest → ExceedsNone bytes → IsRefusal bytes (left_out_if named t.place)
refused_token bytes u rest t true e h none = (u, rest, t, h, refl, e, none)
refused_token bytes u rest t false e h none = (u, rest, t, h, refl, e, none)

refused_piece : (bytes : List ℕ) (u rest : List Piece) (t : Piece) → FirstRefused bytes u t rest → ExceedsNone bytes → IsRefusal bytes (refused (t ∷ rest))
refused_piece bytes u rest (Is t) h none = refused_token bytes u rest t (is_left_out t.token) refl h none
refused_piece bytes u rest (Bad e) h none = ((u, rest, h), none)

refusal_at : (bytes : List ℕ) (at : List Piece) → read bytes ≡ Err (record { at = at; why = Refused }) → IsRefusal bytes (refused at)
refusal_at bytes at e =
    let h = first_refused bytes at e in
    rw h.3 (refused_piece bytes h.0 h.1 h.2 h.4 (none_exceeds bytes at e))

limit_at : (bytes : List ℕ) (at : List Piece) (w : Which) → read bytes ≡ Err (record { at = at; why = Exceeds w }) → IsRefusal bytes (faults.Limit (place_of at) w)
limit_at bytes at w e =
    let h = exceeded_place bytes at w e in
    rw h.3 (inl (h.0, h.1, h.2, h.4, refl))

refusal_by : (bytes : List ℕ) (at : List Piece) (why : Why) → read bytes ≡ Err (record { at = at; why = why }) → IsRefusal bytes (said why at)
refusal_by bytes at Refused e = refusal_at bytes at e
refusal_by bytes at (Exceeds w) e = limit_at bytes at w e

refusal_of : (bytes : List ℕ) (e : ReadFault) → (d : Fault) × (read bytes ≡ Err d) × (fault_of d ≡ e) → IsRefusal bytes e
refusal_of bytes e h = subst (IsRefusal bytes) h.2 (refusal_by bytes h.0.at h.0.why h.1)

-- a fault that is answered refuses the text
pub refusal : (bytes : List ℕ) (e : ReadFault) → Fails e (read bytes) → IsRefusal bytes e
refusal bytes (faults.Lexical f) h = refusal_of bytes (faults.Lexical f) h
refusal bytes (faults.Syntax p) h = refusal_of bytes (faults.Syntax p) h
refusal bytes (faults.LeftOut p) h = refusal_of bytes (faults.LeftOut p) h
refusal bytes (faults.Limit p w) h = refusal_of bytes (faults.Limit p w) h
refusal bytes faults.NoMemory h = tt

fails_no_more : {A : Type 0} (e : ReadFault) (o : Outcome A) (r : A × Left) → o ≡ Ok r → Fails e o → e ≡ faults.NoMemory
fails_no_more (faults.Lexical f) o r k h = absurd (cc (k, h.1))
fails_no_more (faults.Syntax p) o r k h = absurd (cc (k, h.1))
fails_no_more (faults.LeftOut p) o r k h = absurd (cc (k, h.1))
fails_no_more (faults.Limit p w) o r k h = absurd (cc (k, h.1))
fails_no_more faults.NoMemory o r k h = refl

-- the text of a module within the limits is not refused
pub within_is_read : (bytes : List ℕ) (m : modules.Module) (e : ReadFault) → ReadsWithin bytes m → Fails e (read bytes) → e ≡ faults.NoMemory
within_is_read bytes m e h k = let r = read_exactly bytes m h.0 in fails_no_more e (read bytes) (m, record { names = r.0; tokens = [] }) r.1 k

-- ---- the limit on call sites

-- what is found of the sites of a list of functions is told of an equal one
pub told_of : (funcs listed : List Func) (o r : Option Place) → listed ≡ funcs → o ≡ option_map (λ (s : Site). s.place) (slice_get (all_sites listed) MOST_SITES) → o ≡ r → option_map (λ (s : Site). s.place) (slice_get (all_sites funcs) MOST_SITES) ≡ r
told_of funcs listed o r same e f = rw (← same) (sym e ∙ f)

pub place_there : (sites : List Site) (n : ℕ) (p : Place) → option_map (λ (s : Site). s.place) (slice_get sites n) ≡ Some p → (s : Site) × (slice_get sites n ≡ Some s) × (s.place ≡ p)
place_there sites n p e = there (slice_get sites n) refl
  where
    there : (o : Option Site) → slice_get sites n ≡ o → (s : Site) × (slice_get sites n ≡ Some s) × (s.place ≡ p)
    there None h = absurd (cc (h, e))
    there (Some s) h = (s, h, cc (h, e))

pub beyond_refused : (bytes : List ℕ) (m : modules.Module) (l : Left) (p : Place) → read bytes ≡ Ok (m, l) → option_map (λ (s : Site). s.place) (slice_get (all_sites m.funcs) MOST_SITES) ≡ Some p → IsRefusal bytes (faults.Limit p limits.Sites)
beyond_refused bytes m l p e h = let s = place_there (all_sites m.funcs) MOST_SITES p h in inr (refl, (m, read_to_end bytes m l e, s.0, s.1, s.2))

pub beyond_is_not_within : (bytes : List ℕ) (m n : modules.Module) (l : Left) (p : Place) → read bytes ≡ Ok (m, l) → option_map (λ (s : Site). s.place) (slice_get (all_sites m.funcs) MOST_SITES) ≡ Some p → ReadsWithin bytes n → ⊥
beyond_is_not_within bytes m n l p e h k =
    let s = place_there (all_sites m.funcs) MOST_SITES p h in
    let lt = slice_get_within (all_sites m.funcs) MOST_SITES s.0 s.1 in
    let same = one_module_within bytes n m k.0 (read_to_end bytes m l e) in
    let le : length (all_sites m.funcs) ≤ MOST_SITES = subst (λ (x : modules.Module). length (all_sites x.funcs) ≤ MOST_SITES) same k.1 in
    absurd (omega arith)

pub none_beyond : (sites : List Site) (n : ℕ) → option_map (λ (s : Site). s.place) (slice_get sites n) ≡ None → length sites ≤ n
none_beyond sites n e = elim (slice_get_cases sites n).1 [
  | inl h ↦ absurd (cc (h.2, e))
  | inr h ↦ h.0
]

pub within : (bytes : List ℕ) (m : modules.Module) (l : Left) → read bytes ≡ Ok (m, l) → option_map (λ (s : Site). s.place) (slice_get (all_sites m.funcs) MOST_SITES) ≡ None → ReadsWithin bytes m
within bytes m l e h = (read_to_end bytes m l e, none_beyond (all_sites m.funcs) MOST_SITES h)
