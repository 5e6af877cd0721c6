-- Instructions in which facts stand in the places of registers.
use Rattle.std.proofs.Common.{◌≡◌, ◌⊎◌, inl, inr, ℕ, suc, ◌<◌, ◌≤◌, Bool, true, false, cond, nat_eq, if◌then◌else◌, List, [], ◌∷◌, map, length, Option, Some, None, All, refl, sym, ap, subst, arith}
use Rattle.std.proofs.Math.Nat.{mod-lt}
use Rattle.std.specs.List.{fold, filter}
use Rattle.std.specs.Option.{option_map, unwrap_or}
use Rattle.std.proofs.lemmas.List.Elements.{All-filter, All-map}
use Rattle.oi_base.specs.declared.ids.RegId.{RegId}
use Rattle.oi_base.specs.declared.words.Width.TheVariants.{W1}
use Rattle.ir_core.specs.declared.flat.Scalar.{Scalar}
use Rattle.ir_core.specs.declared.flat.Scalar.TheVariants as scalar
use Rattle.ir_core.specs.declared.flat.FlatOp.{FlatOp}
use Rattle.ir_core.specs.declared.flat.Term.{Term}
use Rattle.ir_core.specs.declared.flat.FlatInstr.{FlatInstr}
use Rattle.ir_core.specs.declared.flat.FlatInstr.TheVariants.{Bin, Icmp, Select, Cast, Copy, Alloca, Load, Store, Gep, Call, Put, Get, Exit}
use Rattle.ir_core.specs.Formed.{HasType, FuncType, IsTyped, written_by, used_by}
use Rattle.ir_core.proofs.Lists.{Has, map_source}
use Rattle.const_fold.specs.Operands.{with_operand, with_operands, word_in}
use Rattle.const_fold.proofs.WithOperands as rows
use Rattle.const_fold.specs.FoldConstants.{Facts, known, with_term, is_variable, with_word, address_of, choice_of, shortened, instr_with}

-- ---- what is written

choice_writes : (d : RegId) (o : Option ℕ) (c a b : FlatOp) → written_by (choice_of d o c a b) ≡ Some d.0
choice_writes d None c a b = refl
choice_writes d (Some z) c a b = refl

address_writes : (d : RegId) (a : FlatOp) (k : ℕ) (ts : List Term) → written_by (address_of d a k ts) ≡ Some d.0
address_writes d a k [] = by_test (nat_eq k 0)
  where
    by_test : (t : Bool) → written_by (if t then Copy d a else Gep d a k []) ≡ Some d.0
    by_test true = refl
    by_test false = refl
address_writes d a k (t ∷ ts) = refl

pub writes_same : (facts : Facts) (i : FlatInstr) → written_by (instr_with facts i) ≡ written_by i
writes_same facts (Bin d op w a b) = refl
writes_same facts (Icmp d c s a b) = refl
writes_same facts (Select d c a b) = choice_writes d (word_in W1 (known facts c)) (known facts c) (known facts a) (known facts b)
writes_same facts (Cast d c from to a) = refl
writes_same facts (Copy d a) = refl
writes_same facts (Alloca d size align) = refl
writes_same facts (Load d s align a) = refl
writes_same facts (Store s align v a) = refl
writes_same facts (Gep d a k ts) = address_writes d (known facts a) (fold with_word k (map (with_operand (known facts)) ts)) (filter is_variable (map (with_operand (known facts)) ts))
writes_same facts (Call d f args) = refl
writes_same facts (Put d a) = refl
writes_same facts (Get d) = refl
writes_same facts (Exit a) = refl

-- ---- what is used

if_one : (t : Bool) (a b o : FlatOp) → Has ((if t then b else a) ∷ []) o → Has (a ∷ b ∷ []) o
if_one true a b o h = inr h
if_one false a b o (inl e) = inl e
if_one false a b o (inr h) = absurd h

choice_uses : (d : RegId) (z : Option ℕ) (c a b o : FlatOp) → Has (used_by (choice_of d z c a b)) o → Has (c ∷ a ∷ b ∷ []) o
choice_uses d None c a b o h = h
choice_uses d (Some z) c a b o h = inr (if_one (nat_eq z 0) a b o h)

operand_left : (ts : List Term) (o : FlatOp) → Has (map (λ (t : Term). t.operand) (filter is_variable ts)) o → Has (map (λ (t : Term). t.operand) ts) o
operand_left [] o h = h
operand_left (t ∷ ts) o h = by_test (is_variable t) h (λ g. operand_left ts o g)
  where
    by_test : (b : Bool) → Has (map (λ (t : Term). t.operand) (cond b (t ∷ filter is_variable ts) (filter is_variable ts))) o → (Has (map (λ (t : Term). t.operand) (filter is_variable ts)) o → Has (map (λ (t : Term). t.operand) ts) o) → (t.operand ≡ o) ⊎ Has (map (λ (t : Term). t.operand) ts) o
    by_test true (inl e) rest = inl e
    by_test true (inr g) rest = inr (rest g)
    by_test false g rest = inr (rest g)

address_uses : (d : RegId) (a : FlatOp) (k : ℕ) (ts : List Term) (o : FlatOp) → Has (used_by (address_of d a k ts)) o → Has (a ∷ map (λ (t : Term). t.operand) ts) o
address_uses d a k [] o h = by_test (nat_eq k 0) h
  where
    by_test : (t : Bool) → Has (used_by (if t then Copy d a else Gep d a k [])) o → Has (a ∷ []) o
    by_test true h = h
    by_test false h = h
address_uses d a k (t ∷ ts) o h = h

shortened_uses : (i : FlatInstr) (o : FlatOp) → Has (used_by (shortened i)) o → Has (used_by i) o
shortened_uses (Bin d op w a b) o h = h
shortened_uses (Icmp d c s a b) o h = h
shortened_uses (Select d c a b) o h = choice_uses d (word_in W1 c) c a b o h
shortened_uses (Cast d c from to a) o h = h
shortened_uses (Copy d a) o h = h
shortened_uses (Alloca d size align) o h = h
shortened_uses (Load d s align a) o h = h
shortened_uses (Store s align v a) o h = h
shortened_uses (Gep d a k ts) o h = by_place (address_uses d a (fold with_word k ts) (filter is_variable ts) o h)
  where
    by_place : Has (a ∷ map (λ (t : Term). t.operand) (filter is_variable ts)) o → Has (a ∷ map (λ (t : Term). t.operand) ts) o
    by_place (inl e) = inl e
    by_place (inr g) = inr (operand_left ts o g)
shortened_uses (Call d f args) o h = h
shortened_uses (Put d a) o h = h
shortened_uses (Get d) o h = h
shortened_uses (Exit a) o h = h

-- an operand is what is known of an operand
pub instr_uses : (facts : Facts) (i : FlatInstr) (o : FlatOp) → Has (used_by (instr_with facts i)) o → (p : FlatOp) × Has (used_by i) p × (known facts p ≡ o)
instr_uses facts i o h = map_source (known facts) (used_by i) o (subst (λ os. Has os o) (rows.uses_mapped (known facts) i) (shortened_uses (with_operands (known facts) i) o h))

-- ---- types

module _ (types : ℕ → Scalar) (funcs : ℕ → FuncType) where
  choice_typed : (d : RegId) (o : Option ℕ) (c a b : FlatOp) → IsTyped types funcs (Select d c a b) → IsTyped types funcs (choice_of d o c a b)
  choice_typed d None c a b h = h
  choice_typed d (Some z) c a b h = by_test (nat_eq z 0)
    where
      by_test : (t : Bool) → HasType types (if t then b else a) (types d.0)
      by_test true = h.2
      by_test false = h.1

  part_small : (ts : List Term) (k : ℕ) → k < 4294967296 → fold with_word k ts < 4294967296
  part_small [] k lt = lt
  part_small (t ∷ ts) k lt = part_small ts (with_word k t) (by_word (word_in t.width t.operand))
    where
      by_word : (o : Option ℕ) → unwrap_or (option_map (with_term k t) o) k < 4294967296
      by_word None = lt
      by_word (Some a) = let some : 0 < 4294967296 = omega arith in mod-lt _ some

  address_typed : (d : RegId) (a : FlatOp) (k : ℕ) (ts : List Term) → IsTyped types funcs (Gep d a k ts) → IsTyped types funcs (address_of d a k ts)
  address_typed d a k [] h = by_test (nat_eq k 0)
    where
      by_test : (t : Bool) → IsTyped types funcs (if t then Copy d a else Gep d a k [])
      by_test true = subst (HasType types a) (sym h.0) h.1
      by_test false = h
  address_typed d a k (t ∷ ts) h = h

  shortened_typed : (i : FlatInstr) → IsTyped types funcs i → IsTyped types funcs (shortened i)
  shortened_typed (Bin d op w a b) h = h
  shortened_typed (Icmp d c s a b) h = h
  shortened_typed (Select d c a b) h = choice_typed d (word_in W1 c) c a b h
  shortened_typed (Cast d c from to a) h = h
  shortened_typed (Copy d a) h = h
  shortened_typed (Alloca d size align) h = h
  shortened_typed (Load d s align a) h = h
  shortened_typed (Store s align v a) h = h
  shortened_typed (Gep d a k ts) h = address_typed d a (fold with_word k ts) (filter is_variable ts) (h.0, h.1, part_small ts k h.2, All-filter is_variable (λ (t : Term). HasType types t.operand (scalar.Word t.width) × (t.stride < 4294967296)) ts h.3)
  shortened_typed (Call d f args) h = h
  shortened_typed (Put d a) h = h
  shortened_typed (Get d) h = h
  shortened_typed (Exit a) h = h

  pub instr_typed : (facts : Facts) (typed : (o : FlatOp) (s : Scalar) → HasType types o s → HasType types (known facts o) s) (i : FlatInstr) → IsTyped types funcs i → IsTyped types funcs (instr_with facts i)
  instr_typed facts typed i h = shortened_typed (with_operands (known facts) i) (rows.instr_typed types funcs (known facts) typed i h)
