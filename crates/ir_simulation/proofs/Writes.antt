-- Which register an effect writes, and what the ends of blocks do.
use Rattle.std.proofs.Common.{◌≡◌, ℕ, Bool, true, false, nat_eq, ◌&&◌, ◌||◌, if◌then◌else◌, List, [], ◌∷◌, ◌++◌, map, Option, Some, None, refl, ap, ◌∙◌, arith}
use Rattle.std.specs.List.{list_any}
use Rattle.std.proofs.lemmas.Bool.Decides.{nat_tests}
use Rattle.oi_base.specs.declared.ids.RegId.{RegId}
use Rattle.oi_base.specs.declared.ids.BlockId.{BlockId}
use Rattle.ir_core.specs.declared.flat.Case.{Case}
use Rattle.ir_core.specs.declared.flat.FlatInstr.{FlatInstr}
use Rattle.ir_core.specs.declared.flat.FlatInstr.TheVariants.{Bin, Icmp, Select, Cast, Copy, Alloca, Load, Store, Gep, Call, Put, Get, Exit}
use Rattle.ir_core.specs.declared.flat.FlatEnd.{FlatEnd}
use Rattle.ir_core.specs.declared.flat.FlatEnd.TheVariants.{Ret, Br, Cond, Switch, Unreachable}
use Rattle.oi_base.specs.Words.{modulus}
use Rattle.ir_core.specs.Memory.{Value, Memory, load, store}
use Rattle.ir_core.specs.Rows.{Answer, Gives, NoGood, Mistyped, Read, Is, IsPoison, IsOther, as_word, bin, icmp, choose, cast_read, moved, is_pointer, is_of}
use Rattle.ir_core.specs.Flat.{Regs, Effect, Sets, Allocates, Stores, Puts, Takes, Enters, Goes, Returns, Stops, NoMeaning, NoValue, value_of, using, word_in, answered, load_gives, store_gives, if_typed, Distance, Far, PoisonFar, NoDistance, distance, gep_gives, effect, case_for, end_effect}
use Rattle.ir_core.specs.Formed.{of_result, written_by, targets}

-- the effect of an instruction that writes this register
abbrev pub Writes : Option ℕ → Effect → Type 0
Writes w (Sets d v) = w ≡ Some d.0
Writes w (Allocates d size align) = w ≡ Some d.0
Writes w (Stores m) = w ≡ None
Writes w (Puts d b) = w ≡ of_result d
Writes w (Takes d) = w ≡ of_result d
Writes w (Enters d f args) = w ≡ of_result d
Writes w (Goes b) = ⊥
Writes w (Returns v) = ⊥
Writes w (Stops a) = Unit {0}
Writes w NoMeaning = Unit {0}
Writes w NoValue = Unit {0}

use_value : (w : Option ℕ) (o : Option Value) (go : Value → Effect) → ((v : Value) → Writes w (go v)) → Writes w (using o go)
use_value w None go k = tt
use_value w (Some v) go k = k v

use_word : (w : Option ℕ) (x : Read) (go : ℕ → Effect) → ((a : ℕ) → Writes w (go a)) → Writes w (word_in x go)
use_word w (Is a) go k = k a
use_word w IsPoison go k = tt
use_word w IsOther go k = tt

answer_writes : (d : RegId) (x : Answer) → Writes (Some d.0) (answered d x)
answer_writes d (Gives v) = refl
answer_writes d NoGood = tt
answer_writes d Mistyped = tt

load_writes : (d : RegId) (o : Option Value) → Writes (Some d.0) (load_gives d o)
load_writes d None = tt
load_writes d (Some v) = refl

store_writes : (o : Option Memory) → Writes None (store_gives o)
store_writes None = tt
store_writes (Some m) = refl

typed_writes : (w : Option ℕ) (t : Bool) (e : Effect) → Writes w e → Writes w (if_typed t e)
typed_writes w true e h = h
typed_writes w false e h = tt

gep_writes : (d : RegId) (v : Value) (k : Distance) → Writes (Some d.0) (gep_gives d v k)
gep_writes d v (Far k) = answer_writes d (moved v k)
gep_writes d v PoisonFar = refl
gep_writes d v NoDistance = tt

pub effect_writes : (regs : Regs) (m : Memory) (i : FlatInstr) → Writes (written_by i) (effect regs m i)
effect_writes regs m (Bin d op w a b) = use_value (Some d.0) (value_of regs a) _ (λ x. use_value (Some d.0) (value_of regs b) _ (λ y. answer_writes d (bin op w x y)))
effect_writes regs m (Icmp d c s a b) = use_value (Some d.0) (value_of regs a) _ (λ x. use_value (Some d.0) (value_of regs b) _ (λ y. answer_writes d (icmp m c s x y)))
effect_writes regs m (Select d c a b) =
    use_value (Some d.0) (value_of regs c) _ (λ z. use_value (Some d.0) (value_of regs a) _ (λ x. use_value (Some d.0) (value_of regs b) _ (λ y. answer_writes d (choose (as_word 2 z) x y))))
effect_writes regs m (Cast d c from to a) = use_value (Some d.0) (value_of regs a) _ (λ x. answer_writes d (cast_read c from to (as_word (modulus from) x)))
effect_writes regs m (Copy d a) = use_value (Some d.0) (value_of regs a) _ (λ x. refl)
effect_writes regs m (Alloca d size align) = refl
effect_writes regs m (Load d s align a) = use_value (Some d.0) (value_of regs a) _ (λ x. typed_writes (Some d.0) (is_pointer x) _ (load_writes d (load m s align x)))
effect_writes regs m (Store s align v a) = use_value None (value_of regs v) _ (λ x. use_value None (value_of regs a) _ (λ y. typed_writes None (is_of s x && is_pointer y) _ (store_writes (store m s align x y))))
effect_writes regs m (Gep d a k ts) = use_value (Some d.0) (value_of regs a) _ (λ x. gep_writes d x (distance regs k ts))
effect_writes regs m (Call d f args) = refl
effect_writes regs m (Put d a) = use_value (of_result d) (value_of regs a) _ (λ x. use_word (of_result d) (as_word 4294967296 x) _ (λ c. refl))
effect_writes regs m (Get d) = refl
effect_writes regs m (Exit a) = use_value None (value_of regs a) _ (λ x. use_word None (as_word 4294967296 x) _ (λ c. tt))

-- ---- ends of blocks

-- what the end of a block does: it goes to one of its targets, returns, or nothing good
abbrev pub Ends : FlatEnd → Effect → Type 0
Ends e (Goes c) = list_any (λ t. nat_eq t c) (targets e) ≡ true
Ends e (Returns v) = Unit {0}
Ends e NoMeaning = Unit {0}
Ends e NoValue = Unit {0}
Ends e (Sets d v) = ⊥
Ends e (Allocates d size align) = ⊥
Ends e (Stores m) = ⊥
Ends e (Puts d b) = ⊥
Ends e (Takes d) = ⊥
Ends e (Enters d f args) = ⊥
Ends e (Stops w) = ⊥

end_value : (e : FlatEnd) (o : Option Value) (go : Value → Effect) → ((v : Value) → Ends e (go v)) → Ends e (using o go)
end_value e None go k = tt
end_value e (Some v) go k = k v

end_word : (e : FlatEnd) (x : Read) (go : ℕ → Effect) → ((a : ℕ) → Ends e (go a)) → Ends e (word_in x go)
end_word e (Is a) go k = k a
end_word e IsPoison go k = tt
end_word e IsOther go k = tt

same_here : (a : ℕ) → nat_eq a a ≡ true
same_here a = grind (arith, nat_tests)

goes_first : (a : ℕ) (t : Bool) → (nat_eq a a || t) ≡ true
goes_first a t = rw (same_here a) refl

branch_has : (z : Bool) (t f : ℕ) → (nat_eq t (if z then f else t) || (nat_eq f (if z then f else t) || false)) ≡ true
branch_has true t f = grind (arith, nat_tests)
branch_has false t f = grind (arith, nat_tests)

or_true : (t : Bool) → (t || true) ≡ true
or_true true = refl
or_true false = refl

case_has : (a : ℕ) (cases : List Case) (other : BlockId) → list_any (λ t. nat_eq t (case_for a cases other).0) (map (λ (c : Case). c.to.0) cases ++ other.0 ∷ []) ≡ true
case_has a [] other = rw (same_here other.0) refl
case_has a (c ∷ cs) other = by_test (nat_eq c.word a) (case_has a cs other)
  where
    by_test : (t : Bool) → list_any (λ t. nat_eq t (case_for a cs other).0) (map (λ (c : Case). c.to.0) cs ++ other.0 ∷ []) ≡ true
        → list_any (λ u. nat_eq u (if t then c.to else case_for a cs other).0) (c.to.0 ∷ (map (λ (c : Case). c.to.0) cs ++ other.0 ∷ [])) ≡ true
    by_test true h = goes_first c.to.0 _
    by_test false h = ap (λ t. nat_eq c.to.0 (case_for a cs other).0 || t) h ∙ or_true _

pub end_ends : (regs : Regs) (e : FlatEnd) → Ends e (end_effect regs e)
end_ends regs (Ret None) = tt
end_ends regs (Ret (Some a)) = end_value (Ret (Some a)) (value_of regs a) _ (λ x. tt)
end_ends regs (Br b) = goes_first b.0 false
end_ends regs (Cond c t f) = end_value (Cond c t f) (value_of regs c) _ (λ x. end_word (Cond c t f) (as_word 2 x) _ (λ z. branch_has (nat_eq z 0) t.0 f.0))
end_ends regs (Switch a w cases other) = end_value (Switch a w cases other) (value_of regs a) _ (λ x. end_word (Switch a w cases other) (as_word (modulus w) x) _ (λ z. case_has z cases other))
end_ends regs Unreachable = tt
