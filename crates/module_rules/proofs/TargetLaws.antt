-- When the rule of the target is broken.
use Rattle.std.proofs.Common.{◌≡◌, ◌⊎◌, inl, inr, refl, sym, ap, ◌∙◌, subst, Bool, true, false, ◌&&◌, ◌||◌, ◌==◌, nat_eq, ℕ, zero, suc, List, [], ◌∷◌, ◌++◌, length, take, drop, codes, Option, Some, None, IsTrue, arith}
use Rattle.std.specs.Bool.{Decides}
use Rattle.std.specs.List.{starts_with}
use Rattle.std.proofs.lemmas.Bool.Decides.{nat_tests, Decides-and}
use Rattle.std.proofs.lemmas.Slice.Eq.{bytes_eq-Decides}
use Rattle.oi_base.specs.declared.ids.Place.{Place}
use Rattle.ir_core.specs.declared.module.Module.{Module}
use Rattle.ir_core.specs.Operands.{start, is_up_to}
use Rattle.ir_core.specs.ValidModule.{EndsAPart, BeginsAPart, HasPart, IsLayout, IsTriple, IsWrong, BreaksTarget}
use Rattle.module_rules.specs.First.{IsFound}
use Rattle.module_rules.specs.Target.{begins_a_part, is_part_here, has_part_from, has_part, is_layout, is_triple, is_good, has_good_target}
use Rattle.module_rules.proofs.Decided.{false_is_not_true}
use Rattle.module_rules.proofs.Earliest.{up_to_itself}

-- ---- what a text begins with

take_all : (xs ys : List ℕ) → take (length xs) (xs ++ ys) ≡ xs
take_all [] ys = take_none ys
  where
    take_none : (zs : List ℕ) → take 0 zs ≡ []
    take_none [] = refl
    take_none (z ∷ zs) = refl
take_all (x ∷ xs) ys = ap (λ zs. x ∷ zs) (take_all xs ys)

drop_all : (xs ys : List ℕ) → drop (length xs) (xs ++ ys) ≡ ys
drop_all [] ys = refl
drop_all (x ∷ xs) ys = drop_all xs ys

take_drop : (n : ℕ) (xs : List ℕ) → take n xs ++ drop n xs ≡ xs
take_drop zero [] = refl
take_drop zero (x ∷ xs) = refl
take_drop (suc n) [] = refl
take_drop (suc n) (x ∷ xs) = ap (λ zs. x ∷ zs) (take_drop n xs)

starts : (text part : List ℕ) → Decides (starts_with nat_eq text part) ((rest : List ℕ) × (text ≡ part ++ rest))
starts text part = (of_test, to_test)
  where
    of_test : starts_with nat_eq text part ≡ true → (rest : List ℕ) × (text ≡ part ++ rest)
    of_test e = (drop (length part) text, sym (take_drop (length part) text) ∙ ap (λ xs. xs ++ drop (length part) text) (sym ((bytes_eq-Decides part (take (length part) text)).0 e)))

    to_test : ((rest : List ℕ) × (text ≡ part ++ rest)) → starts_with nat_eq text part ≡ true
    to_test r = (bytes_eq-Decides part (take (length part) text)).1 (sym (ap (take (length part)) r.1 ∙ take_all part r.0))

begins_part : (text : List ℕ) → Decides (begins_a_part text) (BeginsAPart text)
begins_part [] = (λ e. inl refl, λ h. refl)
begins_part (b ∷ bs) = (of_test, to_test)
  where
    of_test : (b == 45) ≡ true → BeginsAPart (b ∷ bs)
    of_test e = inr (bs, ap (λ c. c ∷ bs) (let same : b ≡ 45 = grind (arith, nat_tests) in same))

    to_test : BeginsAPart (b ∷ bs) → (b == 45) ≡ true
    to_test (inl h) = absurd (let clash : b ∷ bs ≡ [] = h in cc)
    to_test (inr h) = let both : b ∷ bs ≡ 45 ∷ h.0 = h.1 in let same : b ≡ 45 = cc in grind (arith, nat_tests)

abbrev IsHere : List ℕ → List ℕ → Type 0
IsHere part text = (further : List ℕ) × (text ≡ part ++ further) × BeginsAPart further

here : (part text : List ℕ) → Decides (is_part_here part text) (IsHere part text)
here part text = (of_test, to_test)
  where
    both : Decides (starts_with nat_eq text part && begins_a_part (drop (length part) text)) (((rest : List ℕ) × (text ≡ part ++ rest)) × BeginsAPart (drop (length part) text))
    both = Decides-and (starts_with nat_eq text part) (begins_a_part (drop (length part) text)) (starts text part) (begins_part (drop (length part) text))

    of_test : is_part_here part text ≡ true → IsHere part text
    of_test e =
        let h = both.0 e in
        let rest : drop (length part) text ≡ h.0.0 = ap (drop (length part)) h.0.1 ∙ drop_all part h.0.0 in
        (h.0.0, h.0.1, subst BeginsAPart rest h.1)

    to_test : IsHere part text → is_part_here part text ≡ true
    to_test h =
        let rest : drop (length part) text ≡ h.0 = ap (drop (length part)) h.1 ∙ drop_all part h.0 in
        both.1 ((h.0, h.1), subst BeginsAPart (sym rest) h.2)

-- ---- one of the parts

-- where a text begins a part or not, a part of it begins after these bytes
abbrev Begins : Bool → List ℕ → Type 0
Begins begins before = ((before ≡ []) × (begins ≡ true)) ⊎ ((more : List ℕ) × (before ≡ more ++ 45 ∷ []))

abbrev HasFrom : List ℕ → Bool → List ℕ → Type 0
HasFrom part begins text = (before further : List ℕ) × (text ≡ before ++ part ++ further) × Begins begins before × BeginsAPart further

dash : (b : ℕ) → (b == 45) ≡ true → b ≡ 45
dash b e = grind (arith, nat_tests)

is_dash : (b : ℕ) → b ≡ 45 → (b == 45) ≡ true
is_dash b e = grind (arith, nat_tests)

either_true : (s t : Bool) → (s || t) ≡ true → (s ≡ true) ⊎ (t ≡ true)
either_true true t e = inl refl
either_true false t e = inr e

left_true : (s t : Bool) → s ≡ true → (s || t) ≡ true
left_true true t e = refl
left_true false t e = absurd (false_is_not_true e)

right_true : (s t : Bool) → t ≡ true → (s || t) ≡ true
right_true true t e = refl
right_true false t e = e

and_true : (s t : Bool) → (s && t) ≡ true → (s ≡ true) × (t ≡ true)
and_true true t e = (refl, e)
and_true false t e = absurd (false_is_not_true e)

true_and : (s t : Bool) → s ≡ true → t ≡ true → (s && t) ≡ true
true_and s t e f = rw e f

found_here : (part text : List ℕ) (begins : Bool) → (begins && is_part_here part text) ≡ true → HasFrom part begins text
found_here part text begins e =
    let both = and_true begins (is_part_here part text) e in
    let h = (here part text).0 both.1 in
    ([], h.0, h.1, inl (refl, both.0), h.2)

here_found : (part text further : List ℕ) (begins : Bool) → text ≡ part ++ further → begins ≡ true → BeginsAPart further → (begins && is_part_here part text) ≡ true
here_found part text further begins e b p = true_and begins (is_part_here part text) b ((here part text).1 (further, e, p))

sound : (part text : List ℕ) (begins : Bool) → has_part_from part begins text ≡ true → HasFrom part begins text
sound part [] begins e = found_here part [] begins e
sound part (b ∷ bs) begins e = by_test (either_true (begins && is_part_here part (b ∷ bs)) (has_part_from part (b == 45) bs) e) (sound part bs (b == 45))
  where
    next : HasFrom part (b == 45) bs → HasFrom part begins (b ∷ bs)
    next h = (b ∷ h.0, h.1, ap (λ cs. b ∷ cs) h.2, inr (ends h.3), h.4)
      where
        ends : Begins (b == 45) h.0 → (more : List ℕ) × (b ∷ h.0 ≡ more ++ 45 ∷ [])
        ends (inl g) = ([], let same : b ≡ 45 = dash b g.1 in ap (λ c. c ∷ h.0) same ∙ ap (λ cs. 45 ∷ cs) g.0)
        ends (inr g) = (b ∷ g.0, ap (λ cs. b ∷ cs) g.1)

    by_test : ((begins && is_part_here part (b ∷ bs)) ≡ true) ⊎ (has_part_from part (b == 45) bs ≡ true) → (has_part_from part (b == 45) bs ≡ true → HasFrom part (b == 45) bs) → HasFrom part begins (b ∷ bs)
    by_test (inl g) rest = found_here part (b ∷ bs) begins g
    by_test (inr g) rest = next (rest g)

no_last : (more : List ℕ) → [] ≡ more ++ 45 ∷ [] → ⊥
no_last [] e = let clash : [] ≡ 45 ∷ [] = e in cc
no_last (c ∷ cs) e = let clash : [] ≡ c ∷ (cs ++ 45 ∷ []) = e in cc

complete : (part text : List ℕ) (begins : Bool) → HasFrom part begins text → has_part_from part begins text ≡ true
complete part [] begins h = by_before h.0 h.2 h.3
  where
    by_before : (before : List ℕ) → [] ≡ before ++ part ++ h.1 → Begins begins before → has_part_from part begins [] ≡ true
    by_before [] e (inl g) = here_found part [] h.1 begins e g.1 h.4
    by_before [] e (inr g) = absurd (no_last g.0 g.1)
    by_before (c ∷ cs) e g = absurd (let clash : [] ≡ c ∷ (cs ++ part ++ h.1) = e in cc)
complete part (b ∷ bs) begins h = by_before h.0 h.2 h.3 (complete part bs (b == 45))
  where
    by_before : (before : List ℕ) → b ∷ bs ≡ before ++ part ++ h.1 → Begins begins before → (HasFrom part (b == 45) bs → has_part_from part (b == 45) bs ≡ true) → has_part_from part begins (b ∷ bs) ≡ true
    by_before [] e (inl g) rest = left_true (begins && is_part_here part (b ∷ bs)) (has_part_from part (b == 45) bs) (here_found part (b ∷ bs) h.1 begins e g.1 h.4)
    by_before [] e (inr g) rest = absurd (no_last g.0 g.1)
    by_before (c ∷ cs) e (inl g) rest = absurd (let clash : c ∷ cs ≡ [] = g.0 in cc)
    by_before (c ∷ cs) e (inr g) rest =
        right_true (begins && is_part_here part (b ∷ bs)) (has_part_from part (b == 45) bs) (rest (cs, h.1, further, after g.0 g.1, h.4))
      where
        both : b ∷ bs ≡ c ∷ (cs ++ part ++ h.1)
        both = e

        further : bs ≡ cs ++ part ++ h.1
        further = cc

        first : b ≡ c
        first = cc

        after : (more : List ℕ) → c ∷ cs ≡ more ++ 45 ∷ [] → Begins (b == 45) cs
        after [] q = let pair : c ∷ cs ≡ 45 ∷ [] = q in let none : cs ≡ [] = cc in let one : c ≡ 45 = cc in inl (none, is_dash b (first ∙ one))
        after (d ∷ ds) q = let pair : c ∷ cs ≡ d ∷ (ds ++ 45 ∷ []) = q in let rest' : cs ≡ ds ++ 45 ∷ [] = cc in inr (ds, rest')

part_decides : (part text : List ℕ) → Decides (has_part part text) (HasPart part text)
part_decides part text = (λ e. of_from (sound part text true e), λ h. complete part text true (to_from h))
  where
    of_from : HasFrom part true text → HasPart part text
    of_from h = (h.0, h.1, h.2, ends h.3, h.4)
      where
        ends : Begins true h.0 → EndsAPart h.0
        ends (inl g) = inl g.0
        ends (inr g) = inr g

    to_from : HasPart part text → HasFrom part true text
    to_from h = (h.0, h.1, h.2, begins h.3, h.4)
      where
        begins : EndsAPart h.0 → Begins true h.0
        begins (inl g) = inl (g, refl)
        begins (inr g) = inr g

-- ---- the whole

layout_decides : (text : List ℕ) → Decides (is_layout text) (IsLayout text)
layout_decides text = Decides-and (has_part (codes "e") text) (has_part (codes "p:32:32") text) (part_decides (codes "e") text) (part_decides (codes "p:32:32") text)

triple_decides : (text : List ℕ) → Decides (is_triple text) (IsTriple text)
triple_decides text = starts text (codes "riscv32")

-- a text that isn't there is not wrong
wrong : (test : List ℕ → Bool) (Is : List ℕ → Type 0) → ((text : List ℕ) → Decides (test text) (Is text)) → (o : Option (List ℕ)) → (is_good test o ≡ true → IsWrong Is o → ⊥) × (is_good test o ≡ false → IsWrong Is o)
wrong test Is d None = (λ e h. h, λ e. absurd (false_is_not_true (sym e)))
wrong test Is d (Some text) = (λ e h. h ((d text).0 e), λ e h. false_is_not_true (sym e ∙ (d text).1 h))

pub target_good : (m : Module) → has_good_target m ≡ true → (p : Place) → BreaksTarget m p → ⊥
target_good m e p b = by_part b.1
  where
    both : (is_good is_layout m.layout ≡ true) × (is_good is_triple m.triple ≡ true)
    both = and_true (is_good is_layout m.layout) (is_good is_triple m.triple) e

    by_part : IsWrong IsLayout m.layout ⊎ IsWrong IsTriple m.triple → ⊥
    by_part (inl h) = (wrong is_layout IsLayout layout_decides m.layout).0 both.0 h
    by_part (inr h) = (wrong is_triple IsTriple triple_decides m.triple).0 both.1 h

pub target_broken : (m : Module) → has_good_target m ≡ false → IsFound (BreaksTarget m) (Some start)
target_broken m e = record { broken = (refl, by_tests (is_good is_layout m.layout) (is_good is_triple m.triple) refl refl e); first = λ q h. subst (λ (p : Place). IsTrue (is_up_to start p)) (sym h.0) (up_to_itself start) }
  where
    by_tests : (s t : Bool) → is_good is_layout m.layout ≡ s → is_good is_triple m.triple ≡ t → (s && t) ≡ false → IsWrong IsLayout m.layout ⊎ IsWrong IsTriple m.triple
    by_tests false t a b g = inl ((wrong is_layout IsLayout layout_decides m.layout).1 a)
    by_tests true false a b g = inr ((wrong is_triple IsTriple triple_decides m.triple).1 b)
    by_tests true true a b g = absurd (false_is_not_true (sym g))
