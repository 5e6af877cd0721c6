-- The first of the places at which a rule is broken.
use Rattle.std.proofs.Common.{◌≡◌, ◌⊎◌, inl, inr, refl, sym, ap, ◌∙◌, subst, Bool, true, false, cond, if◌then◌else◌, IsTrue, List, [], ◌∷◌, Option, Some, None, arith}
use Rattle.std.proofs.lemmas.Bool.Decides.{nat_tests}
use Rattle.oi_base.specs.declared.ids.Place.{Place}
use Rattle.ir_core.specs.Parts.{listed}
use Rattle.ir_core.specs.Operands.{is_up_to}
use Rattle.ir_core.specs.FirstBroken.{IsFirstPlace}
use Rattle.ir_core.proofs.Lists.{Has}
use Rattle.module_rules.specs.First.{earlier, earliest, IsFound}

-- ---- the order of places

pub up_to_itself : (p : Place) → is_up_to p p ≡ true
up_to_itself p = grind (arith, nat_tests)

pub up_to_trans : (p q r : Place) → is_up_to p q ≡ true → is_up_to q r ≡ true → is_up_to p r ≡ true
up_to_trans p q r h g = grind (arith, nat_tests)

pub up_to_total : (p q : Place) → is_up_to p q ≡ false → is_up_to q p ≡ true
up_to_total p q h = grind (arith, nat_tests)

-- ---- the first of some places is one of them, and up to each

one_more : (q p : Place) → (r : Place) × (earlier (Some q) p ≡ Some r) × ((r ≡ q) ⊎ (r ≡ p)) × (is_up_to r q ≡ true) × (is_up_to r p ≡ true)
one_more q p = by_test (is_up_to q p) refl
  where
    by_test : (t : Bool) → is_up_to q p ≡ t → (r : Place) × (cond t (Some q) (Some p) ≡ Some r) × ((r ≡ q) ⊎ (r ≡ p)) × (is_up_to r q ≡ true) × (is_up_to r p ≡ true)
    by_test true t = (q, refl, inl refl, up_to_itself q, t)
    by_test false t = (p, refl, inr refl, up_to_total q p t, up_to_itself p)

pub record IsLeast (q : Place) (ps : List Place) (r : Place) : Type 0 where
  pub one : (r ≡ q) ⊎ Has ps r
  pub up_to_it : is_up_to r q ≡ true
  pub up_to_each : (p : Place) → Has ps p → is_up_to r p ≡ true

pub least : (q : Place) (ps : List Place) → (r : Place) × (earliest (Some q) ps ≡ Some r) × IsLeast q ps r
least q [] = (q, refl, record { one = inl refl; up_to_it = up_to_itself q; up_to_each = λ p h. absurd h })
least q (p ∷ ps) = let s = one_more q p in let rest = least s.0 ps in (rest.0, ap (λ o. earliest o ps) s.1 ∙ rest.1, joined s.0 rest.0 s.2 s.3 s.4 rest.2)
  where
    joined : (s r : Place) → (s ≡ q) ⊎ (s ≡ p) → is_up_to s q ≡ true → is_up_to s p ≡ true → IsLeast s ps r → IsLeast q (p ∷ ps) r
    joined s r which to_q to_p l = record {
      one = of_one which l.one;
      up_to_it = up_to_trans r s q l.up_to_it to_q;
      up_to_each = each;
    }
      where
        of_one : (s ≡ q) ⊎ (s ≡ p) → (r ≡ s) ⊎ Has ps r → (r ≡ q) ⊎ Has (p ∷ ps) r
        of_one w (inr h) = inr (inr h)
        of_one (inl e) (inl g) = inl (g ∙ e)
        of_one (inr e) (inl g) = inr (inl (sym (g ∙ e)))

        each : (x : Place) → Has (p ∷ ps) x → is_up_to r x ≡ true
        each x (inl e) = subst (λ y. is_up_to r y ≡ true) e (up_to_trans r s p l.up_to_it to_p)
        each x (inr h) = l.up_to_each x h

-- places at which the rule is broken, and all of them
pub found : (Breaks : Place → Type 0) (ps : List Place) → ((p : Place) → Has ps p → Breaks p) → ((p : Place) → Breaks p → Has ps p) → IsFound Breaks (earliest None ps)
found Breaks [] sound all = λ p b. all p b
found Breaks (q ∷ ps) sound all = let l = least q ps in subst (IsFound Breaks) (sym l.1) (first l.0 l.2)
  where
    first : (r : Place) → IsLeast q ps r → IsFirstPlace Breaks r
    first r l = record { broken = of_one l.one; first = λ p b. of_each p (all p b) }
      where
        of_one : (r ≡ q) ⊎ Has ps r → Breaks r
        of_one (inl e) = sound r (inl (sym e))
        of_one (inr h) = sound r (inr h)

        of_each : (p : Place) → Has (q ∷ ps) p → IsTrue (is_up_to r p)
        of_each p (inl e) = subst (λ x. IsTrue (is_up_to r x)) e l.up_to_it
        of_each p (inr h) = l.up_to_each p h

-- ---- one more place

-- a rule that is broken where another is, and at r, and elsewhere after r alone
pub found_more : (P Q : Place → Type 0) (o : Option Place) (r : Place) → IsFound P o → ((p : Place) → P p → Q p) → Q r → ((p : Place) → Q p → P p ⊎ (is_up_to r p ≡ true)) → IsFound Q (earlier o r)
found_more P Q None r f up here only = record { broken = here; first = λ p q. of_only p (only p q) }
  where
    of_only : (p : Place) → P p ⊎ (is_up_to r p ≡ true) → IsTrue (is_up_to r p)
    of_only p (inl h) = absurd (f p h)
    of_only p (inr h) = h
found_more P Q (Some x) r f up here only = by_test (is_up_to x r) refl
  where
    after : (p : Place) → is_up_to x r ≡ true → P p ⊎ (is_up_to r p ≡ true) → IsTrue (is_up_to x p)
    after p t (inl h) = f.first p h
    after p t (inr h) = up_to_trans x r p t h

    before : (p : Place) → is_up_to x r ≡ false → P p ⊎ (is_up_to r p ≡ true) → IsTrue (is_up_to r p)
    before p t (inl h) = up_to_trans r x p (up_to_total x r t) (f.first p h)
    before p t (inr h) = h

    by_test : (t : Bool) → is_up_to x r ≡ t → IsFound Q (if t then Some x else Some r)
    by_test true t = record { broken = up x f.broken; first = λ p q. after p t (only p q) }
    by_test false t = record { broken = here; first = λ p q. before p t (only p q) }

-- a rule that is broken at the same places
pub found_same : (P Q : Place → Type 0) (o : Option Place) → IsFound P o → ((p : Place) → P p → Q p) → ((p : Place) → Q p → P p) → IsFound Q o
found_same P Q None f up down = λ p q. f p (down p q)
found_same P Q (Some x) f up down = record { broken = up x f.broken; first = λ p q. f.first p (down p q) }

-- a rule that is broken where another is, and elsewhere after r alone, where r makes no difference
pub found_beside : (P Q : Place → Type 0) (o : Option Place) (r : Place) → IsFound P o → earlier o r ≡ o → ((p : Place) → P p → Q p) → ((p : Place) → Q p → P p ⊎ (is_up_to r p ≡ true)) → IsFound Q o
found_beside P Q None r f same up only = absurd (let clash : Some r ≡ None = same in cc)
found_beside P Q (Some x) r f same up only = record { broken = up x f.broken; first = λ p q. of_only p (only p q) }
  where
    up_to_r : (t : Bool) → is_up_to x r ≡ t → cond t (Some x) (Some r) ≡ Some x → is_up_to x r ≡ true
    up_to_r true t e = t
    up_to_r false t e = let is : r ≡ x = cc in subst (λ (z : Place). is_up_to x z ≡ true) (sym is) (up_to_itself x)

    of_only : (p : Place) → P p ⊎ (is_up_to r p ≡ true) → IsTrue (is_up_to x p)
    of_only p (inl h) = f.first p h
    of_only p (inr h) = up_to_trans x r p (up_to_r (is_up_to x r) refl same) h

-- a rule that is broken where another is and at some places
pub found_also : (P : Place → Type 0) (o : Option Place) (ps : List Place) → IsFound P o → IsFound (λ (p : Place). P p ⊎ Has ps p) (earliest o ps)
found_also P o [] f = found_same P (λ (p : Place). P p ⊎ ⊥) o f (λ p h. inl h) (λ p h. left p h)
  where
    left : (p : Place) → P p ⊎ ⊥ → P p
    left p (inl h) = h
    left p (inr h) = absurd h
found_also P o (r ∷ rs) f =
    found_same (λ (p : Place). (P p ⊎ (r ≡ p)) ⊎ Has rs p) (λ (p : Place). P p ⊎ Has (r ∷ rs) p) (earliest (earlier o r) rs)
    (found_also (λ (p : Place). P p ⊎ (r ≡ p)) (earlier o r) rs (found_more P (λ (p : Place). P p ⊎ (r ≡ p)) o r f (λ p h. inl h) (inr refl) only)) there back
  where
    only : (p : Place) → P p ⊎ (r ≡ p) → P p ⊎ (is_up_to r p ≡ true)
    only p (inl h) = inl h
    only p (inr e) = inr (subst (λ (z : Place). is_up_to r z ≡ true) e (up_to_itself r))

    there : (p : Place) → (P p ⊎ (r ≡ p)) ⊎ Has rs p → P p ⊎ Has (r ∷ rs) p
    there p (inl (inl h)) = inl h
    there p (inl (inr e)) = inr (inl e)
    there p (inr h) = inr (inr h)

    back : (p : Place) → P p ⊎ Has (r ∷ rs) p → (P p ⊎ (r ≡ p)) ⊎ Has rs p
    back p (inl h) = inl (inl h)
    back p (inr (inl e)) = inl (inr e)
    back p (inr (inr h)) = inr h

-- one rule or another
pub found_either : (P Q : Place → Type 0) (o r : Option Place) → IsFound P o → IsFound Q r → IsFound (λ (p : Place). P p ⊎ Q p) (earliest o (listed r))
found_either P Q o None f g = found_same P (λ (p : Place). P p ⊎ Q p) o f (λ p h. inl h) left
  where
    left : (p : Place) → P p ⊎ Q p → P p
    left p (inl h) = h
    left p (inr h) = absurd (g p h)
found_either P Q o (Some r) f g = found_more P (λ (p : Place). P p ⊎ Q p) o r f (λ p h. inl h) (inr g.broken) only
  where
    only : (p : Place) → P p ⊎ Q p → P p ⊎ (is_up_to r p ≡ true)
    only p (inl h) = inl h
    only p (inr h) = inr (g.first p h)
