-- Instructions and terminators whose operands stay as they are, and bodies in which there is nothing to fold.
use Rattle.std.proofs.Common.{◌≡◌, ℕ, zero, suc, Bool, true, false, ◌||◌, nat_eq, is_some, is_none, if◌then◌else◌, List, [], ◌∷◌, map, Option, Some, None, slice_get, refl, sym, ap, ap₂, ◌∙◌}
use Rattle.std.specs.List.{fold, filter, list_any, AllByRecursion as Each}
use Rattle.std.specs.Option.{option_map, unwrap_or}
use Rattle.oi_base.specs.declared.ids.RegId.{RegId}
use Rattle.oi_base.specs.declared.words.Width.TheVariants.{W1}
use Rattle.ir_core.specs.declared.flat.FlatOp.{FlatOp}
use Rattle.ir_core.specs.declared.flat.FlatOp.TheVariants.{Reg, Word, Null, Address, Poison}
use Rattle.ir_core.specs.declared.flat.Term.{Term}
use Rattle.ir_core.specs.declared.flat.Entry.{Entry}
use Rattle.ir_core.specs.declared.flat.Phi.{Phi}
use Rattle.ir_core.specs.declared.flat.FlatInstr.{FlatInstr}
use Rattle.ir_core.specs.declared.flat.FlatInstr.TheVariants.{Bin, Icmp, Select, Cast, Copy, Alloca, Load, Store, Gep, Call, Put, Get, Exit}
use Rattle.ir_core.specs.declared.flat.FlatEnd.{FlatEnd}
use Rattle.ir_core.specs.declared.flat.FlatEnd.TheVariants.{Ret, Br, Cond, Switch, Unreachable}
use Rattle.ir_core.specs.declared.flat.FlatBlock.{FlatBlock}
use Rattle.ir_core.specs.declared.flat.FlatBody.{FlatBody}
use Rattle.ir_core.specs.Formed.{used_by, used_at_end}
use Rattle.ir_core.proofs.Lists.{each_from}
use Rattle.const_fold.specs.Operands.{with_operand, with_operands, end_with_operands, word_in}
use Rattle.const_fold.specs.FoldConstants.{no_facts, known, is_variable, with_word, with_term, address_of, choice_of, shortened, entry_with, phi_with, instr_with, block_with, body_with, block_noted, all_facts, constants_folded}
use Rattle.const_fold.specs.Shortening.{is_word, moves_nothing, shortens, block_shortens}

-- ---- lists

pub map_same_at : {A : Type 0} (f : A → A) (xs : List A) → ((n : ℕ) (x : A) → slice_get xs n ≡ Some x → f x ≡ x) → map f xs ≡ xs
map_same_at f [] same = refl
map_same_at f (x ∷ xs) same = ap₂ (λ y ys. y ∷ ys) (same 0 x refl) (map_same_at f xs (λ n y at. same (suc n) y at))

pub map_same : {A : Type 0} (f : A → A) → ((x : A) → f x ≡ x) → (xs : List A) → map f xs ≡ xs
map_same f same xs = map_same_at f xs (λ n x at. same x)

pub left_fails : (s t : Bool) → (s || t) ≡ false → s ≡ false
left_fails false t e = refl
left_fails true t e = e

pub right_fails : (s t : Bool) → (s || t) ≡ false → t ≡ false
right_fails false t e = e
right_fails true t e = absurd (let none : true ≡ false = e in cc)

pub none_passes : {A : Type 0} (p : A → Bool) (xs : List A) (n : ℕ) (x : A) → list_any p xs ≡ false → slice_get xs n ≡ Some x → p x ≡ false
none_passes p [] n x e at = absurd cc
none_passes p (y ∷ ys) zero x e at = let same : y ≡ x = cc in ap p (sym same) ∙ left_fails (p y) (list_any p ys) e
none_passes p (y ∷ ys) (suc n) x e at = none_passes p ys n x (right_fails (p y) (list_any p ys) e) at

-- ---- operands that f leaves as they are

args_same : (f : FlatOp → FlatOp) (os : List FlatOp) → Each (λ o. f o ≡ o) os → map f os ≡ os
args_same f [] e = refl
args_same f (o ∷ os) e = ap₂ (λ x xs. x ∷ xs) e.0 (args_same f os e.1)

terms_same : (f : FlatOp → FlatOp) (ts : List Term) → Each (λ o. f o ≡ o) (map (λ (t : Term). t.operand) ts) → map (with_operand f) ts ≡ ts
terms_same f [] e = refl
terms_same f (t ∷ ts) e = ap₂ (λ x xs. x ∷ xs) (ap (λ o. record t { operand = o }) e.0) (terms_same f ts e.1)

pub instr_same : (f : FlatOp → FlatOp) (i : FlatInstr) → Each (λ o. f o ≡ o) (used_by i) → with_operands f i ≡ i
instr_same f (Bin d op w a b) e = ap₂ (Bin d op w) e.0 e.1.0
instr_same f (Icmp d c s a b) e = ap₂ (Icmp d c s) e.0 e.1.0
instr_same f (Select d c a b) e = ap (λ o. Select d o (f a) (f b)) e.0 ∙ ap₂ (Select d c) e.1.0 e.1.1.0
instr_same f (Cast d c from to a) e = ap (Cast d c from to) e.0
instr_same f (Copy d a) e = ap (Copy d) e.0
instr_same f (Alloca d size align) e = refl
instr_same f (Load d s align a) e = ap (Load d s align) e.0
instr_same f (Store s align v a) e = ap₂ (Store s align) e.0 e.1.0
instr_same f (Gep d a k ts) e = ap₂ (λ o us. Gep d o k us) e.0 (terms_same f ts e.1)
instr_same f (Call d g args) e = ap (Call d g) (args_same f args e)
instr_same f (Put d a) e = ap (Put d) e.0
instr_same f (Get d) e = refl
instr_same f (Exit a) e = ap Exit e.0

pub end_same : (f : FlatOp → FlatOp) (e : FlatEnd) → Each (λ o. f o ≡ o) (used_at_end e) → end_with_operands f e ≡ e
end_same f (Ret None) h = refl
end_same f (Ret (Some a)) h = ap (λ o. Ret (Some o)) h.0
end_same f (Br b) h = refl
end_same f (Cond c t e) h = ap (λ o. Cond o t e) h.0
end_same f (Switch a w cases other) h = ap (λ o. Switch o w cases other) h.0
end_same f Unreachable h = refl

-- ---- instructions in their shortest form

choice_same : (d : RegId) (z : Option ℕ) (c a b : FlatOp) → is_some z ≡ false → choice_of d z c a b ≡ Select d c a b
choice_same d None c a b e = refl
choice_same d (Some z) c a b e = absurd (let none : true ≡ false = e in cc)

word_of_none : (t : Term) (o : Option ℕ) → is_some o ≡ false → (k : ℕ) → (unwrap_or (option_map (with_term k t) o) k ≡ k) × (is_none o ≡ true)
word_of_none t None e k = (refl, refl)
word_of_none t (Some a) e k = absurd (let none : true ≡ false = e in cc)

sum_same : (k : ℕ) (ts : List Term) → list_any is_word ts ≡ false → fold with_word k ts ≡ k
sum_same k [] e = refl
sum_same k (t ∷ ts) e =
    ap (λ j. fold with_word j ts) (word_of_none t (word_in t.width t.operand) (left_fails (is_word t) (list_any is_word ts) e) k).0
    ∙ sum_same k ts (right_fails (is_word t) (list_any is_word ts) e)

all_variable : (ts : List Term) → list_any is_word ts ≡ false → filter is_variable ts ≡ ts
all_variable [] e = refl
all_variable (t ∷ ts) e =
    ap (λ (b : Bool). if b then t ∷ filter is_variable ts else filter is_variable ts) (word_of_none t (word_in t.width t.operand) (left_fails (is_word t) (list_any is_word ts) e) 0).1
    ∙ ap (λ us. t ∷ us) (all_variable ts (right_fails (is_word t) (list_any is_word ts) e))

address_same : (d : RegId) (a : FlatOp) (k : ℕ) (ts : List Term) → moves_nothing k ts ≡ false → address_of d a k ts ≡ Gep d a k ts
address_same d a k [] e = ap (λ (t : Bool). if t then Copy d a else Gep d a k []) e
address_same d a k (t ∷ ts) e = refl

shortest : (i : FlatInstr) → shortens i ≡ false → shortened i ≡ i
shortest (Bin d op w a b) e = refl
shortest (Icmp d c s a b) e = refl
shortest (Select d c a b) e = choice_same d (word_in W1 c) c a b e
shortest (Cast d c from to a) e = refl
shortest (Copy d a) e = refl
shortest (Alloca d size align) e = refl
shortest (Load d s align a) e = refl
shortest (Store s align v a) e = refl
shortest (Gep d a k ts) e =
    let no_words = left_fails (list_any is_word ts) (moves_nothing k ts) e in
    ap₂ (address_of d a) (sum_same k ts no_words) (all_variable ts no_words) ∙ address_same d a k ts (right_fails (list_any is_word ts) (moves_nothing k ts) e)
shortest (Call d f args) e = refl
shortest (Put d a) e = refl
shortest (Get d) e = refl
shortest (Exit a) e = refl

-- ---- nothing is known

unknown : (o : FlatOp) → known no_facts o ≡ o
unknown (Reg r) = refl
unknown (Word a) = refl
unknown Null = refl
unknown (Address g k) = refl
unknown Poison = refl

all_unknown : (os : List FlatOp) → Each (λ o. known no_facts o ≡ o) os
all_unknown os = each_from (λ o. known no_facts o ≡ o) os (λ o in_os. unknown o)

phi_same : (f : Phi) → phi_with no_facts f ≡ f
phi_same f = ap (λ es. record f { entries = es }) (map_same (entry_with no_facts) (λ e. ap (λ o. record e { value = o }) (unknown e.value)) f.entries)

block_same : (k : FlatBlock) → block_shortens k ≡ false → block_with no_facts k ≡ k
block_same k short =
    let code = map_same_at (instr_with no_facts) k.code (λ n i at. ap shortened (instr_same (known no_facts) i (all_unknown (used_by i))) ∙ shortest i (none_passes shortens k.code n i short at)) in
    ap (λ fs. record { phis = fs; code = map (instr_with no_facts) k.code; end = end_with_operands (known no_facts) k.end }) (map_same (phi_with no_facts) phi_same k.phis)
    ∙ ap₂ (λ is e. record { phis = k.phis; code = is; end = e }) code (end_same (known no_facts) k.end (all_unknown (used_at_end k.end)))

-- where nothing is known and nothing has a shorter form, the body stays as it is
pub nothing_folded : (b : FlatBody) → all_facts b ≡ no_facts → list_any block_shortens b.blocks ≡ false → b ≡ constants_folded b
unfolding constants_folded
nothing_folded b none short =
    sym (ap (λ facts. body_with facts b) none ∙ ap (λ ks. record b { blocks = ks }) (map_same_at (block_with no_facts) b.blocks (λ n k at. block_same k (none_passes block_shortens b.blocks n k short at))))
