-- A group, as a loop goes over its tokens.
use Rattle.std.proofs.Common.{◌≡◌, ℕ, ◌<◌, Bool, true, false, List, [], ◌∷◌, ◌++◌, length, Ok, Err, refl, sym, ◌∙◌, subst, arith}
use Rattle.std.specs.Prelude.{◌||◌, Option, Some, None, reverse}
use Rattle.std.proofs.lemmas.List.{reverse-append}
use Rattle.ir_grammar.specs.Pieces.{Piece}
use Rattle.ir_grammar.specs.Names.{Names}
use Rattle.ir_grammar.specs.Forms.{Outcome, Refused}
use Rattle.ir_grammar.specs.Groups.{awaits, is_noinline, fed, inside_at}
use Rattle.std.specs.Option.{option_map}
use Rattle.ir_phrases.specs.declared.fault.ReadFault.{ReadFault}
use Rattle.ir_phrases.specs.declared.groups.Step.{Step}
use Rattle.ir_grammar.specs.Pieces.{Is, Bad}
use Rattle.ir_grammar.specs.Words.{is_left_out}
use Rattle.ir_phrases.specs.Gives.{rest_of, refused, left_out_if, Fails}
use Rattle.ir_phrases.specs.Signs.{put_back, head_awaits, head_noinline}

-- a token that is refused
pub fails_refused : {A : Type 0} (ts : List Piece) (e : ReadFault) (o : Outcome A) → e ≡ refused ts → o ≡ Err (record { at = ts; why = Refused }) → Fails e o
fails_refused [] e o k h = rw k (record { at = []; why = Refused }, h, refl)
fails_refused (Is t ∷ ts) e o k h = rw k (said (is_left_out t.token) refl)
  where
    said : (b : Bool) → is_left_out t.token ≡ b → Fails (left_out_if b t.place) o
    said true r = (record { at = Is t ∷ ts; why = Refused }, h, rw r refl)
    said false r = (record { at = Is t ∷ ts; why = Refused }, h, rw r refl)
fails_refused (Bad f ∷ ts) e o k h = rw k (record { at = Bad f ∷ ts; why = Refused }, h, refl)

-- the signs that are left, where the last one is taken
pub taken : (signs left : List ℕ) (a : ℕ) → signs ≡ left ++ a ∷ [] → reverse signs ≡ a ∷ reverse left
taken signs left a e = rw e (reverse-append left (a ∷ []))

pub inside_next : (ts : List Piece) (a : ℕ) (as' next : List ℕ) (b : Bool) (s : Names) (o : Outcome Bool) → head_awaits a as' ts ≡ Some next → inside_at ts (a ∷ as') b s ≡ o → inside_at (rest_of ts) next (b || head_noinline ts) s ≡ o
unfolding inside_at
inside_next [] a as' next b s o e h = absurd cc
inside_next (t ∷ ts) a as' next b s o e h = sym (step (awaits a as' t) e) ∙ h
  where
    step : (x : Option (List ℕ)) → x ≡ Some next → fed x (λ next. inside_at ts next (b || is_noinline t) s) (Err (record { at = t ∷ ts; why = Refused })) ≡ inside_at ts next (b || is_noinline t) s
    step (Some n) k = let same : n ≡ next = cc in rw same refl
    step None k = absurd cc

pub inside_refused : (ts : List Piece) (a : ℕ) (as' : List ℕ) (b : Bool) (s : Names) (o : Outcome Bool) → head_awaits a as' ts ≡ None → inside_at ts (a ∷ as') b s ≡ o → o ≡ Err (record { at = ts; why = Refused })
unfolding inside_at
inside_refused [] a as' b s o e h = sym h
inside_refused (t ∷ ts) a as' b s o e h = sym h ∙ rw e refl

pub inside_end : (ts : List Piece) (b : Bool) (s : Names) (o : Outcome Bool) → inside_at ts [] b s ≡ o → o ≡ Ok (b, record { names = s; tokens = ts })
unfolding inside_at
inside_end [] b s o h = sym h
inside_end (t ∷ ts) b s o h = sym h

pub awaited_less : (ts : List Piece) (a : ℕ) (as' next : List ℕ) → head_awaits a as' ts ≡ Some next → length (rest_of ts) < length ts
awaited_less [] a as' next e = absurd cc
awaited_less (t ∷ ts) a as' next e = omega arith

abbrev pub Steps : ℕ → List Piece → Option Step → Type 0
Steps a ts step = (below : List ℕ) → head_awaits a below ts ≡ option_map (put_back a below) step

pub group_refused : (ts : List Piece) (signs below : List ℕ) (a : ℕ) (step : Option Step) (b : Bool) (s : Names) (e : ReadFault) (o : Outcome Bool) → signs ≡ below ++ a ∷ [] → Steps a ts step → step ≡ None → e ≡ refused ts → inside_at ts (reverse signs) b s ≡ o → Fails e o
group_refused ts signs below a step b s e o h k none f so_far =
    let no : head_awaits a (reverse below) ts ≡ None = k (reverse below) ∙ rw none refl in
    fails_refused ts e o f (inside_refused ts a (reverse below) b s o no (rw (← taken signs below a h) so_far))

pub group_next : (ts : List Piece) (signs below after : List ℕ) (a : ℕ) (step : Option Step) (x : Step) (b seen : Bool) (s : Names) (o : Outcome Bool) → signs ≡ below ++ a ∷ [] → Steps a ts step → step ≡ Some x → reverse after ≡ put_back a (reverse below) x → seen ≡ (b || head_noinline ts) → inside_at ts (reverse signs) b s ≡ o → inside_at (rest_of ts) (reverse after) seen s ≡ o
group_next ts signs below after a step x b seen s o h k some put sees so_far =
    let yes : head_awaits a (reverse below) ts ≡ Some (put_back a (reverse below) x) = k (reverse below) ∙ rw some refl in
    rw (put, sees) (inside_next ts a (reverse below) (put_back a (reverse below) x) b s o yes (rw (← taken signs below a h) so_far))

pub group_less : (ts : List Piece) (a : ℕ) (step : Option Step) (x : Step) → Steps a ts step → step ≡ Some x → length (rest_of ts) < length ts
group_less ts a step x k some = awaited_less ts a [] (put_back a [] x) (k [] ∙ rw some refl)

pub group_end : (ts : List Piece) (signs : List ℕ) (b : Bool) (s : Names) (o : Outcome Bool) → signs ≡ [] → inside_at ts (reverse signs) b s ≡ o → o ≡ Ok (b, record { names = s; tokens = ts })
group_end ts signs b s o e so_far = inside_end ts b s o (subst (λ x. inside_at ts (reverse x) b s ≡ o) e so_far)
