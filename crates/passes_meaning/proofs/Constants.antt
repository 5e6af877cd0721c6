-- A program follows itself once what is known to be constant stands in its place in one function.
use Rattle.std.proofs.Common.{◌≡◌, ◌≢◌, ◌⊎◌, inl, inr, ⊎_elim, ℕ, zero, suc, ◌+◌, ◌<◌, ◌≤◌, ◌%◌, Bool, true, false, ◌&&◌, is_some, is_none, nat_eq, nat_lt, if◌then◌else◌, List, [], ◌∷◌, map, Option, Some, None, slice_get, refl, sym, ap, ap₂, ◌∙◌, subst, arith}
use Rattle.std.specs.List.{fold, filter, list_all, AllByRecursion as Each}
use Rattle.std.specs.Option.{option_map, option_and_then, unwrap_or}
use Rattle.std.proofs.lemmas.Bool.Decides.{nat_tests}
use Rattle.std.proofs.lemmas.Bool.{cases_lt}
use Rattle.std.proofs.lemmas.Option.{none-some, same_Some}
use Rattle.oi_base.specs.declared.ids.RegId.{RegId}
use Rattle.oi_base.specs.declared.words.Width.{Width}
use Rattle.oi_base.specs.declared.words.Width.TheVariants.{W1}
use Rattle.oi_base.specs.Words.{modulus}
use Rattle.oi_base.specs.Follows.{Going, Stuck, Follows}
use Rattle.ir_core.specs.declared.flat.BinOp.{BinOp}
use Rattle.ir_core.specs.declared.flat.Cmp.{Cmp}
use Rattle.ir_core.specs.declared.flat.Scalar.TheVariants as scalar
use Rattle.ir_core.specs.declared.flat.FlatOp.{FlatOp}
use Rattle.ir_core.specs.declared.flat.FlatOp.TheVariants.{Reg, Word, Null, Address, Poison}
use Rattle.ir_core.specs.declared.flat.Term.{Term}
use Rattle.ir_core.specs.declared.flat.Entry.{Entry}
use Rattle.ir_core.specs.declared.flat.Phi.{Phi}
use Rattle.ir_core.specs.declared.flat.FlatInstr.{FlatInstr}
use Rattle.ir_core.specs.declared.flat.FlatInstr.TheVariants.{Bin, Icmp, Select, Cast, Copy, Alloca, Load, Store, Gep, Call, Put, Get, Exit}
use Rattle.ir_core.specs.declared.flat.FlatBlock.{FlatBlock}
use Rattle.ir_core.specs.declared.flat.FlatBody.{FlatBody}
use Rattle.ir_core.specs.Words.{Outcome, Known, NoWord, NoMeaning as no_meaning, word_op, word_test, word_cast, bit}
use Rattle.ir_core.specs.Memory.{Value, Bits, At, Memory}
use Rattle.ir_core.specs.Rows.{Answer, Gives, NoGood, Mistyped, Is, IsOther, as_word, outcome, bin, bin_read, icmp, test_read, choose, cast_read, moved}
use Rattle.ir_core.specs.Flat.{Program, Run, Regs, Effect, Sets, Allocates, Stores, Puts, Takes, Enters, Goes, Returns, Stops, NoMeaning, NoValue, with_reg, value_of, using, operand, answered, Distance, Far, PoisonFar, NoDistance, distance, gep_gives, entry_for, entry_value, with_phi, after_phis, effect, end_effect, flat_run}
use Rattle.ir_core.specs.Formed.{written_by, used_by, used_at_end}
use Rattle.ir_core.proofs.Lists.{Has}
use Rattle.ir_safety.specs.TypedRuns.{HasOffset}
use Rattle.const_fold.specs.Operands.{with_operand, with_operands, word_of_op, word_in, constant, same_op}
use Rattle.ir_simulation.specs.Replaced.{with_body}
use Rattle.const_fold.specs.FoldConstants.{Facts, known, on_words, outcome_fact, chosen, choice_fact, converts, converted, summed, address_fact, instr_fact, entries_fact, with_term, is_variable, with_word, choice_of, entry_with, phi_with, instr_with, block_with, body_with}
use Rattle.ir_simulation.proofs.Moved.{IsBad}
use Rattle.ir_simulation.proofs.Writes.{Writes, effect_writes, Ends, end_ends}
use Rattle.ir_simulation.proofs.Named.{EndsSo, SameBlocks, Keeps, same_blocks_follow}
use Rattle.ir_simulation.proofs.Reached.{Reached, reached_on, reached_not_stuck}
use Rattle.flow_fold.proofs.Listed.{map_at, map_past}
use Rattle.passes_meaning.proofs.Rewritten.{Same, same_effect, same_end}
use Rattle.passes_meaning.proofs.Addresses.{word_is, in_word, Near, near_all, address_same}
use Rattle.passes_meaning.proofs.Facts.{Justified}

abbrev Alike : Effect → Effect → Type 0
Alike new old = (new ≡ old) ⊎ IsBad old

-- ---- what is known is true

-- the value that a constant has in whatever registers
abbrev pub IsConst : FlatOp → Value → Type 0
IsConst c v = (regs : Regs) → value_of regs c ≡ Some v

-- each register with a fact is unwritten or holds it
abbrev pub Holds : Facts → Regs → Type 0
Holds facts regs = (q : ℕ) (c : FlatOp) → facts q ≡ Some c → (regs q ≡ None) ⊎ ((v : Value) × (regs q ≡ Some v) × IsConst c v)

const_any : (o c : FlatOp) → constant o ≡ Some c → (regs other : Regs) → value_of regs c ≡ value_of other o
const_any (Reg r) c e regs other = absurd cc
const_any (Word a) c e regs other = let same : Word a ≡ c = cc in ap (value_of regs) (sym same)
const_any Null c e regs other = let same : Null ≡ c = cc in ap (value_of regs) (sym same)
const_any (Address g k) c e regs other = let same : Address g k ≡ c = cc in ap (value_of regs) (sym same)
const_any Poison c e regs other = let same : Poison ≡ c = cc in ap (value_of regs) (sym same)

module _ (facts : Facts) (regs : Regs) (holds : Holds facts regs) where
  -- an operand whose value is there has it under what is known too
  known_value : (o : FlatOp) (v : Value) → value_of regs o ≡ Some v → value_of regs (known facts o) ≡ Some v
  known_value (Reg r) v e = by_fact (facts r.0) refl
    where
      by_fact : (o : Option FlatOp) → facts r.0 ≡ o → value_of regs (unwrap_or o (Reg r)) ≡ Some v
      by_fact None is = e
      by_fact (Some c) is = ⊎_elim
          (λ none. absurd (let both : None ≡ Some v = sym none ∙ e in cc))
          (λ there. there.2 regs ∙ sym there.1 ∙ e)
          (holds r.0 c is)
  known_value (Word a) v e = e
  known_value Null v e = e
  known_value (Address g k) v e = e
  known_value Poison v e = e

  -- an operand that is a word has it
  known_word : (o : FlatOp) (v : Value) (a : ℕ) → value_of regs o ≡ Some v → word_of_op (known facts o) ≡ Some a → v ≡ Bits a
  known_word o v a e w =
      let is : value_of regs (known facts o) ≡ Some (Bits a) = ap (value_of regs) (word_is (known facts o) a w) in
      let both : Some v ≡ Some (Bits a) = sym (known_value o v e) ∙ is in
      cc

  known_const : (o : FlatOp) (v : Value) (c : FlatOp) → value_of regs o ≡ Some v → constant (known facts o) ≡ Some c → IsConst c v
  known_const o v c e k other = const_any (known facts o) c k other regs ∙ known_value o v e

-- ---- an instruction whose fact is known gives it

using_sets : (o : Option Value) (go : Value → Effect) (d : RegId) (v : Value) → using o go ≡ Sets d v → (x : Value) × (o ≡ Some x) × (go x ≡ Sets d v)
using_sets None go d v e = absurd cc
using_sets (Some x) go d v e = (x, refl, e)

answered_sets : (d : RegId) (a : Answer) (e : RegId) (v : Value) → answered d a ≡ Sets e v → a ≡ Gives v
answered_sets d (Gives u) e v is = let same : u ≡ v = cc in ap Gives same
answered_sets d NoGood e v is = absurd cc
answered_sets d Mistyped e v is = absurd cc

pub on_words_are : (x y : Option ℕ) (f : ℕ → ℕ → Option FlatOp) (c : FlatOp) → on_words x y f ≡ Some c → (a b : ℕ) × (x ≡ Some a) × (y ≡ Some b) × (f a b ≡ Some c)
on_words_are None y f c e = absurd cc
on_words_are (Some a) None f c e = absurd cc
on_words_are (Some a) (Some b) f c e = (a, b, refl, refl, e)

outcome_const : (o : Outcome) (v : Value) (c : FlatOp) → outcome o ≡ Gives v → outcome_fact o ≡ Some c → IsConst c v
outcome_const (Known a) v c g e = let same : Bits a ≡ v = cc in let is : Word a ≡ c = cc in λ regs. ap (value_of regs) (sym is) ∙ ap Some same
outcome_const NoWord v c g e = absurd cc
outcome_const no_meaning v c g e = absurd cc

bin_const : (op : BinOp) (w : Width) (a b : ℕ) (v : Value) (c : FlatOp) → bin op w (Bits a) (Bits b) ≡ Gives v → outcome_fact (word_op op w a b) ≡ Some c → IsConst c v
bin_const op w a b v c g e = by_tests (nat_lt a (modulus w)) (nat_lt b (modulus w)) g
  where
    by_tests : (s t : Bool) → bin_read op w (if s then Is a else IsOther) (if t then Is b else IsOther) ≡ Gives v → IsConst c v
    by_tests true true g = outcome_const (word_op op w a b) v c g e
    by_tests true false g = absurd cc
    by_tests false true g = absurd cc
    by_tests false false g = absurd cc

icmp_const : (m : Memory) (t : Cmp) (w : Width) (a b : ℕ) (v : Value) (c : FlatOp) → icmp m t (scalar.Word w) (Bits a) (Bits b) ≡ Gives v → Some (Word (bit (word_test t w a b))) ≡ Some c → IsConst c v
icmp_const m t w a b v c g e = by_tests (nat_lt a (modulus w)) (nat_lt b (modulus w)) g
  where
    by_tests : (x y : Bool) → test_read t w (if x then Is a else IsOther) (if y then Is b else IsOther) ≡ Gives v → IsConst c v
    by_tests true true g = let same : Bits (bit (word_test t w a b)) ≡ v = cc in let is : Word (bit (word_test t w a b)) ≡ c = cc in λ regs. ap (value_of regs) (sym is) ∙ ap Some same
    by_tests true false g = absurd cc
    by_tests false true g = absurd cc
    by_tests false false g = absurd cc

-- what a select on a word chooses
choose_word : (z : ℕ) (x y v : Value) → choose (as_word 2 (Bits z)) x y ≡ Gives v → v ≡ (if nat_eq z 0 then y else x)
choose_word z x y v g = by_test (nat_lt z 2) g
  where
    by_word : (z : ℕ) → choose (Is z) x y ≡ Gives v → v ≡ (if nat_eq z 0 then y else x)
    by_word zero g = let same : y ≡ v = cc in sym same
    by_word (suc n) g = let same : x ≡ v = cc in let apart : nat_eq (suc n) 0 ≡ false = grind (arith, nat_tests) in sym same ∙ sym (ap (λ (t : Bool). if t then y else x) apart)

    by_test : (t : Bool) → choose (if t then Is z else IsOther) x y ≡ Gives v → v ≡ (if nat_eq z 0 then y else x)
    by_test true g = by_word z g
    by_test false g = absurd cc

cast_const : (t : _) (from into : Width) (a : ℕ) (v : Value) (c : FlatOp) → cast_read t from into (as_word (modulus from) (Bits a)) ≡ Gives v → Word (word_cast t from into a) ≡ c → IsConst c v
cast_const t from into a v c g is = by_test (nat_lt a (modulus from)) g
  where
    by_test : (x : Bool) → cast_read t from into (if x then Is a else IsOther) ≡ Gives v → IsConst c v
    by_test true g = let same : Bits (word_cast t from into a) ≡ v = cc in λ regs. ap (value_of regs) (sym is) ∙ ap Some same
    by_test false g = absurd cc

-- what a choice of two constants is
pub choice_is : (z : ℕ) (a b c : FlatOp) → choice_fact (Some z) a b ≡ Some c → (x y : FlatOp) × (constant a ≡ Some x) × (constant b ≡ Some y) × (chosen z a b ≡ c)
choice_is z a b c e = by_parts (constant a) (constant b) refl refl e
  where
    by_parts : (x y : Option FlatOp) → constant a ≡ x → constant b ≡ y → (if is_some x && is_some y then Some (chosen z a b) else None) ≡ Some c → (x y : FlatOp) × (constant a ≡ Some x) × (constant b ≡ Some y) × (chosen z a b ≡ c)
    by_parts None y ex ey e = absurd cc
    by_parts (Some x) None ex ey e = absurd cc
    by_parts (Some x) (Some y) ex ey e = (x, y, ex, ey, cc)

own_constant : (o c : FlatOp) → constant o ≡ Some c → constant o ≡ Some o
own_constant (Reg r) c e = absurd cc
own_constant (Word a) c e = refl
own_constant Null c e = refl
own_constant (Address g k) c e = refl
own_constant Poison c e = refl

if_const : (t : Bool) (a b : FlatOp) (x y : Value) → IsConst a x → IsConst b y → IsConst (if t then b else a) (if t then y else x)
if_const true a b x y p q = q
if_const false a b x y p q = p

-- ---- sums of words

-- terms that are all words leave no variable ones
sum_terms : (facts : Facts) (ts : List Term) (k n : ℕ) → fold (summed facts) (Some k) ts ≡ Some n → (filter is_variable (map (with_operand (known facts)) ts) ≡ []) × (fold with_word k (map (with_operand (known facts)) ts) ≡ n)
sum_terms facts [] k n e = (refl, cc)
sum_terms facts (t ∷ ts) k n e = by_word (word_in t.width (known facts t.operand)) refl (λ j f. sum_terms facts ts j n f) e
  where
    none_left : (us : List Term) → fold (summed facts) None us ≡ Some n → ⊥
    none_left [] e = cc
    none_left (u ∷ us) e = by_none (word_in u.width (known facts u.operand)) (none_left us) e
      where
        by_none : (o : Option ℕ) → (fold (summed facts) None us ≡ Some n → ⊥) → fold (summed facts) (option_and_then (λ a. option_map (λ j. with_term j u a) None) o) us ≡ Some n → ⊥
        by_none None rest e = rest e
        by_none (Some a) rest e = rest e

    by_word : (o : Option ℕ) → word_in t.width (known facts t.operand) ≡ o
        → ((j : ℕ) → fold (summed facts) (Some j) ts ≡ Some n → (filter is_variable (map (with_operand (known facts)) ts) ≡ []) × (fold with_word j (map (with_operand (known facts)) ts) ≡ n))
        → fold (summed facts) (option_and_then (λ a. option_map (λ j. with_term j t a) (Some k)) o) ts ≡ Some n
        → (filter is_variable (map (with_operand (known facts)) (t ∷ ts)) ≡ []) × (fold with_word k (map (with_operand (known facts)) (t ∷ ts)) ≡ n)
    by_word None is rest e = absurd (none_left ts e)
    by_word (Some a) is rest e =
        let r = rest (with_term k t a) e in (
          ap (λ (o : Option ℕ). if is_none o then with_operand (known facts) t ∷ filter is_variable (map (with_operand (known facts)) ts) else filter is_variable (map (with_operand (known facts)) ts)) is ∙ r.0,
          ap (λ (o : Option ℕ). fold with_word (unwrap_or (option_map (with_term k (with_operand (known facts) t)) o) k) (map (with_operand (known facts)) ts)) is ∙ r.1,
        )

pub address_is : (o : FlatOp) (n : Option ℕ) (c : FlatOp) → address_fact o n ≡ Some c → (g k j : ℕ) × (o ≡ Address g k) × (n ≡ Some j) × (Address g ((k + j) % 4294967296) ≡ c)
address_is (Address g k) (Some j) c e = (g, k, j, refl, refl, cc)
address_is (Address g k) None c e = absurd cc
address_is (Reg r) n c e = absurd (by_sum n e)
  where
    by_sum : (n : Option ℕ) → address_fact (Reg r) n ≡ Some c → ⊥
    by_sum None e = cc
    by_sum (Some j) e = cc
address_is (Word a) n c e = absurd (by_sum n e)
  where
    by_sum : (n : Option ℕ) → address_fact (Word a) n ≡ Some c → ⊥
    by_sum None e = cc
    by_sum (Some j) e = cc
address_is Null n c e = absurd (by_sum n e)
  where
    by_sum : (n : Option ℕ) → address_fact Null n ≡ Some c → ⊥
    by_sum None e = cc
    by_sum (Some j) e = cc
address_is Poison n c e = absurd (by_sum n e)
  where
    by_sum : (n : Option ℕ) → address_fact Poison n ≡ Some c → ⊥
    by_sum None e = cc
    by_sum (Some j) e = cc

-- an address that is moved by a distance near to a sum
moved_const : (d e : RegId) (g k j : ℕ) (x : Distance) (v : Value) (c : FlatOp) → Near 0 x (Far j) → gep_gives d (At g k) x ≡ Sets e v → Address g ((k + j) % 4294967296) ≡ c → IsConst c v
moved_const d e g k j (Far n) v c near is same =
    let far : j ≡ near.0 = by_far near.0 near.1 in
    let eq = near.2 in
    let one : At g ((k + n) % 4294967296) ≡ v = cc in
    let offset : (k + j) % 4294967296 ≡ (k + n) % 4294967296 = omega (arith, far, eq) in
    λ regs. ap (value_of regs) (sym same) ∙ ap (λ m. Some (At g m)) offset ∙ ap Some one
  where
    by_far : (m : ℕ) → Far j ≡ Far m → j ≡ m
    by_far m e = cc
moved_const d e g k j PoisonFar v c near is same = absurd cc
moved_const d e g k j NoDistance v c near is same = absurd cc

-- ---- what an instruction sets is its fact

-- an operand's value is there, and a pointer among them has an offset of 32 bits
abbrev pub IsReady : Regs → FlatOp → Type 0
IsReady regs o = (v : Value) × (value_of regs o ≡ Some v) × HasOffset v

module _ (facts : Facts) (regs : Regs) (holds : Holds facts regs) (m : Memory) where
  ready_same : (o : FlatOp) → IsReady regs o → Same regs (known facts) o
  ready_same o h = known_value facts regs holds o h.0 h.1 ∙ sym h.1

  all_same : (os : List FlatOp) → Each (IsReady regs) os → Each (Same regs (known facts)) os
  all_same [] h = tt
  all_same (o ∷ os) h = (ready_same o h.0, all_same os h.1)

  abbrev IsIn : FlatOp → ℕ → Type 0
  IsIn o a = word_of_op (known facts o) ≡ Some a

  bits_in : (o : FlatOp) (v : Value) (a : ℕ) → value_of regs o ≡ Some v → IsIn o a → v ≡ Bits a
  bits_in o v a e w = known_word facts regs holds o v a e w

  two_set : (a b : FlatOp) (go : Value → Value → Answer) (d e : RegId) (v : Value) (x y : ℕ) → IsIn a x → IsIn b y → operand regs a (λ u. operand regs b (λ w. answered d (go u w))) ≡ Sets e v → go (Bits x) (Bits y) ≡ Gives v
  two_set a b go d e v x y wx wy is =
      let u = using_sets (value_of regs a) (λ u. operand regs b (λ w. answered d (go u w))) e v is in
      let w = using_sets (value_of regs b) (λ w. answered d (go u.0 w)) e v u.2 in
      ap₂ go (sym (bits_in a u.0 x u.1 wx)) (sym (bits_in b w.0 y w.1 wy)) ∙ answered_sets d (go u.0 w.0) e v w.2

  pub fact_true : (i : FlatInstr) → Each (IsReady regs) (used_by i) → (c : FlatOp) → instr_fact facts i ≡ Some c → (e : RegId) (v : Value) → effect regs m i ≡ Sets e v → IsConst c v
  fact_true (Bin d op w a b) ready c f e v is =
      let z = on_words_are (word_in w (known facts a)) (word_in w (known facts b)) (λ x y. outcome_fact (word_op op w x y)) c f in
      bin_const op w z.0 z.1 v c (two_set a b (bin op w) d e v z.0 z.1 (in_word w (known facts a) z.0 z.2).0 (in_word w (known facts b) z.1 z.3).0 is) z.4
  fact_true (Icmp d t scalar.Pointer a b) ready c f e v is = absurd cc
  fact_true (Icmp d t (scalar.Word w) a b) ready c f e v is =
      let z = on_words_are (word_in w (known facts a)) (word_in w (known facts b)) (λ x y. Some (Word (bit (word_test t w x y)))) c f in
      icmp_const m t w z.0 z.1 v c (two_set a b (icmp m t (scalar.Word w)) d e v z.0 z.1 (in_word w (known facts a) z.0 z.2).0 (in_word w (known facts b) z.1 z.3).0 is) z.4
  fact_true (Select d z a b) ready c f e v is = by_word (word_in W1 (known facts z)) refl f
    where
      by_word : (o : Option ℕ) → word_in W1 (known facts z) ≡ o → choice_fact o (known facts a) (known facts b) ≡ Some c → IsConst c v
      by_word None w f = absurd cc
      by_word (Some n) w f =
          let parts = choice_is n (known facts a) (known facts b) c f in
          let u = using_sets (value_of regs z) (λ k. operand regs a (λ x. operand regs b (λ y. answered d (choose (as_word 2 k) x y)))) e v is in
          let x = using_sets (value_of regs a) (λ x. operand regs b (λ y. answered d (choose (as_word 2 u.0) x y))) e v u.2 in
          let y = using_sets (value_of regs b) (λ y. answered d (choose (as_word 2 u.0) x.0 y)) e v x.2 in
          let gives : choose (as_word 2 (Bits n)) x.0 y.0 ≡ Gives v = ap (λ k. choose (as_word 2 k) x.0 y.0) (sym (bits_in z u.0 n u.1 (in_word W1 (known facts z) n w).0)) ∙ answered_sets d (choose (as_word 2 u.0) x.0 y.0) e v y.2 in
          let is_a = known_const facts regs holds a x.0 (known facts a) x.1 (own_constant (known facts a) parts.0 parts.2) in
          let is_b = known_const facts regs holds b y.0 (known facts b) y.1 (own_constant (known facts b) parts.1 parts.3) in
          subst (λ k. IsConst k v) parts.4 (subst (λ u. IsConst (chosen n (known facts a) (known facts b)) u) (sym (choose_word n x.0 y.0 v gives)) (if_const (nat_eq n 0) (known facts a) (known facts b) x.0 y.0 is_a is_b))
  fact_true (Cast d t from into a) ready c f e v is = by_word (converts t from into) (word_in from (known facts a)) refl f
    where
      by_word : (b : Bool) (o : Option ℕ) → word_in from (known facts a) ≡ o → converted b t from into o ≡ Some c → IsConst c v
      by_word false o w f = absurd cc
      by_word true None w f = absurd cc
      by_word true (Some n) w f =
          let u = using_sets (value_of regs a) (λ x. answered d (cast_read t from into (as_word (modulus from) x))) e v is in
          cast_const t from into n v c (ap (λ k. cast_read t from into (as_word (modulus from) k)) (sym (bits_in a u.0 n u.1 (in_word from (known facts a) n w).0)) ∙ answered_sets d _ e v u.2) cc
  fact_true (Copy d a) ready c f e v is =
      let u = using_sets (value_of regs a) (λ x. Sets d x) e v is in
      let one : u.0 ≡ v = by_sets u.0 u.2 in
      subst (λ k. IsConst c k) one (known_const facts regs holds a u.0 c u.1 f)
    where
      by_sets : (x : Value) → Sets d x ≡ Sets e v → x ≡ v
      by_sets x is = cc
  fact_true (Gep d a k ts) ready c f e v is =
      let z = address_is (known facts a) (fold (summed facts) (Some k) ts) c f in
      let parts = sum_terms facts ts k z.2 z.4 in
      let near : Near 0 (distance regs k (map (with_operand (known facts)) ts)) (Far z.2) =
      subst (λ us. Near 0 (distance regs k (map (with_operand (known facts)) ts)) (distance regs z.2 us)) parts.0
      (subst (λ j. Near 0 (distance regs k (map (with_operand (known facts)) ts)) (distance regs j (filter is_variable (map (with_operand (known facts)) ts)))) parts.1 (near_all regs (map (with_operand (known facts)) ts) k k 0 (omega arith))) in
      let there : value_of regs (known facts a) ≡ Some (At z.0 z.1) = ap (value_of regs) z.3 in
      let whole : gep_gives d (At z.0 z.1) (distance regs k (map (with_operand (known facts)) ts)) ≡ Sets e v =
      sym (ap (λ o. using o (λ x. gep_gives d x (distance regs k (map (with_operand (known facts)) ts)))) there) ∙ same_effect regs (known facts) m (Gep d a k ts) (all_same (used_by (Gep d a k ts)) ready) ∙ is in
      moved_const d e z.0 z.1 z.2 (distance regs k (map (with_operand (known facts)) ts)) v c near whole z.5
  fact_true (Alloca d size align) ready c f e v is = absurd cc
  fact_true (Load d s align a) ready c f e v is = absurd cc
  fact_true (Store s align x a) ready c f e v is = absurd cc
  fact_true (Call d g args) ready c f e v is = absurd cc
  fact_true (Put d a) ready c f e v is = absurd cc
  fact_true (Get d) ready c f e v is = absurd cc
  fact_true (Exit a) ready c f e v is = absurd cc

  -- ---- what is written instead does the same

  choice_same : (d : RegId) (o : Option ℕ) (c a b : FlatOp) → word_in W1 c ≡ o → IsReady regs a → IsReady regs b → Alike (effect regs m (choice_of d o c a b)) (effect regs m (Select d c a b))
  choice_same d None c a b e ra rb = inl refl
  choice_same d (Some z) c a b e ra rb =
      subst (λ o. Alike (effect regs m (Copy d (chosen z a b))) (effect regs m (Select d o a b))) (sym (word_is c z (in_word W1 c z e).0))
      (subst (λ x. Alike (effect regs m (Copy d (chosen z a b))) x) (sym both) (by_test (nat_lt z 2)))
    where
      both : effect regs m (Select d (Word z) a b) ≡ answered d (choose (as_word 2 (Bits z)) ra.0 rb.0)
      both = ap₂ (λ u w. using u (λ x. using w (λ y. answered d (choose (as_word 2 (Bits z)) x y)))) ra.1 rb.1

      is_chosen : (t : Bool) → effect regs m (Copy d (if t then b else a)) ≡ Sets d (if t then rb.0 else ra.0)
      is_chosen true = ap (λ u. using u (λ x. Sets d x)) rb.1
      is_chosen false = ap (λ u. using u (λ x. Sets d x)) ra.1

      by_word : (z : ℕ) → Sets d (if nat_eq z 0 then rb.0 else ra.0) ≡ answered d (choose (Is z) ra.0 rb.0)
      by_word zero = refl
      by_word (suc n) = let apart : nat_eq (suc n) 0 ≡ false = grind (arith, nat_tests) in ap (λ (t : Bool). Sets d (if t then rb.0 else ra.0)) apart

      by_test : (t : Bool) → Alike (effect regs m (Copy d (chosen z a b))) (answered d (choose (if t then Is z else IsOther) ra.0 rb.0))
      by_test true = inl (is_chosen (nat_eq z 0) ∙ by_word z)
      by_test false = inr (inr refl)

  known_ready : (o : FlatOp) → IsReady regs o → IsReady regs (known facts o)
  known_ready o h = (h.0, known_value facts regs holds o h.0 h.1, h.2)

  short_same : (i : FlatInstr) → Each (IsReady regs) (used_by i) → Alike (effect regs m (instr_with facts i)) (effect regs m (with_operands (known facts) i))
  short_same (Bin d op w a b) h = inl refl
  short_same (Icmp d t s a b) h = inl refl
  short_same (Select d c a b) h = choice_same d (word_in W1 (known facts c)) (known facts c) (known facts a) (known facts b) refl (known_ready a h.1.0) (known_ready b h.1.1.0)
  short_same (Cast d t from into a) h = inl refl
  short_same (Copy d a) h = inl refl
  short_same (Alloca d size align) h = inl refl
  short_same (Load d s align a) h = inl refl
  short_same (Store s align v a) h = inl refl
  short_same (Gep d a k ts) h = let r = known_ready a h.0 in address_same regs m d (known facts a) k (map (with_operand (known facts)) ts) r.0 r.1 r.2
  short_same (Call d g args) h = inl refl
  short_same (Put d a) h = inl refl
  short_same (Get d) h = inl refl
  short_same (Exit a) h = inl refl

  pub instr_same : (i : FlatInstr) → Each (IsReady regs) (used_by i) → Alike (effect regs m (instr_with facts i)) (effect regs m i)
  instr_same i h =
      let same = same_effect regs (known facts) m i (all_same (used_by i) h) in
      subst (λ e. Alike (effect regs m (instr_with facts i)) e) same (short_same i h)

-- ---- registers that are written

module _ (facts : Facts) (regs : Regs) (holds : Holds facts regs) where
  set_holds : (d : ℕ) (v : Value) → ((c : FlatOp) → facts d ≡ Some c → IsConst c v) → Holds facts (with_reg regs d v)
  set_holds d v h q c e = by_test (nat_eq q d) refl
    where
      by_test : (t : Bool) → nat_eq q d ≡ t → ((if t then Some v else regs q) ≡ None) ⊎ ((u : Value) × ((if t then Some v else regs q) ≡ Some u) × IsConst c u)
      by_test true is = let same : q ≡ d = grind (arith, nat_tests) in inr (v, refl, h c (ap facts (sym same) ∙ e))
      by_test false is = holds q c e

-- ---- phis

module _ (facts : Facts) (old : Regs) (holds : Holds facts old) (b : ℕ) where
  -- an operand of a phi that is one of constants alone
  one_entry : (c : FlatOp) (es : List Entry) → list_all (λ (x : Entry). same_op (known facts x.value) c) es ≡ true → (o : FlatOp) → entry_for b es ≡ Some o → same_op (known facts o) c ≡ true
  one_entry c [] all o e = absurd cc
  one_entry c (x ∷ xs) all o e =
      let both = and_parts (same_op (known facts x.value) c) (list_all (λ (y : Entry). same_op (known facts y.value) c) xs) all in
      by_test (nat_eq x.from.0 b) both.0 (one_entry c xs both.1 o) e
    where
      and_parts : (s t : Bool) → (s && t) ≡ true → (s ≡ true) × (t ≡ true)
      and_parts s t e = grind (arith, nat_tests)

      by_test : (t : Bool) → same_op (known facts x.value) c ≡ true → (entry_for b xs ≡ Some o → same_op (known facts o) c ≡ true) → (if t then Some x.value else entry_for b xs) ≡ Some o → same_op (known facts o) c ≡ true
      by_test true own rest e = let same : x.value ≡ o = cc in ap (λ u. same_op (known facts u) c) (sym same) ∙ own
      by_test false own rest e = rest e

  same_const : (o c : FlatOp) (k : FlatOp) → constant c ≡ Some k → same_op o c ≡ true → o ≡ c
  same_const (Word a) (Word e) k h s = let same : a ≡ e = grind (arith, nat_tests) in ap Word same
  same_const Null Null k h s = refl
  same_const (Address g j) (Address i l) k h s = let one : g ≡ i = grind (arith, nat_tests) in let two : j ≡ l = grind (arith, nat_tests) in ap₂ Address one two
  same_const Poison Poison k h s = refl
  same_const o (Reg r) k h s = absurd cc
  same_const (Reg r) (Word e) k h s = absurd cc
  same_const Null (Word e) k h s = absurd cc
  same_const (Address g j) (Word e) k h s = absurd cc
  same_const Poison (Word e) k h s = absurd cc
  same_const (Reg r) Null k h s = absurd cc
  same_const (Word a) Null k h s = absurd cc
  same_const (Address g j) Null k h s = absurd cc
  same_const Poison Null k h s = absurd cc
  same_const (Reg r) (Address i l) k h s = absurd cc
  same_const (Word a) (Address i l) k h s = absurd cc
  same_const Null (Address i l) k h s = absurd cc
  same_const Poison (Address i l) k h s = absurd cc
  same_const (Reg r) Poison k h s = absurd cc
  same_const (Word a) Poison k h s = absurd cc
  same_const Null Poison k h s = absurd cc
  same_const (Address g j) Poison k h s = absurd cc

  constant_own : (o d : FlatOp) → constant o ≡ Some d → constant d ≡ Some d
  constant_own (Reg r) d e = absurd cc
  constant_own (Word a) d e = let same : Word a ≡ d = cc in subst (λ o. constant o ≡ Some o) same refl
  constant_own Null d e = let same : Null ≡ d = cc in subst (λ o. constant o ≡ Some o) same refl
  constant_own (Address g k) d e = let same : Address g k ≡ d = cc in subst (λ o. constant o ≡ Some o) same refl
  constant_own Poison d e = let same : Poison ≡ d = cc in subst (λ o. constant o ≡ Some o) same refl

  -- the operand that is taken has the value of the fact
  entry_const : (es : List Entry) (c : FlatOp) → entries_fact facts es ≡ Some c → (o : FlatOp) → entry_for b es ≡ Some o → (v : Value) → value_of old o ≡ Some v → IsConst c v
  entry_const [] c f o e v value = absurd cc
  entry_const (x ∷ xs) c f o e v value = by_first (constant (known facts x.value)) refl f
    where
      by_first : (u : Option FlatOp) → constant (known facts x.value) ≡ u → option_and_then (λ d. if list_all (λ (y : Entry). same_op (known facts y.value) d) xs then Some d else None) u ≡ Some c → IsConst c v
      by_first None is f = absurd cc
      by_first (Some d) is f = by_all (list_all (λ (y : Entry). same_op (known facts y.value) d) xs) refl f
        where
          by_all : (t : Bool) → list_all (λ (y : Entry). same_op (known facts y.value) d) xs ≡ t → (if t then Some d else None) ≡ Some c → IsConst c v
          by_all false all f = absurd cc
          by_all true all f = let one : d ≡ c = cc in subst (λ u. IsConst u v) one (by_test (nat_eq x.from.0 b) e)
            where
              by_test : (t : Bool) → (if t then Some x.value else entry_for b xs) ≡ Some o → IsConst d v
              by_test true e = let same : x.value ≡ o = cc in known_const facts old holds o v d value (ap (λ u. constant (known facts u)) (sym same) ∙ is)
              by_test false e =
                  let own = constant_own (known facts x.value) d is in
                  let same = same_const (known facts o) d d own (one_entry d xs all o e) in
                  known_const facts old holds o v d value (ap constant same ∙ own)

  entry_there : (es : List Entry) (v : Value) → entry_value old (entry_for b es) ≡ Some v → (o : FlatOp) × (entry_for b es ≡ Some o) × (value_of old o ≡ Some v)
  entry_there es v e = by_entry (entry_for b es) refl e
    where
      by_entry : (u : Option FlatOp) → entry_for b es ≡ u → entry_value old u ≡ Some v → (o : FlatOp) × (entry_for b es ≡ Some o) × (value_of old o ≡ Some v)
      by_entry None is e = absurd cc
      by_entry (Some o) is e = (o, is, e)

  with_phi_is : (r : ℕ) (o : Option Value) (rest : Option Regs) (regs : Regs) → with_phi r o rest ≡ Some regs → (v : Value) × (u : Regs) × (o ≡ Some v) × (rest ≡ Some u) × (with_reg u r v ≡ regs)
  with_phi_is r None rest regs e = absurd (none-some regs e)
  with_phi_is r (Some v) None regs e = absurd (none-some regs e)
  with_phi_is r (Some v) (Some u) regs e = (v, u, refl, refl, same_Some (with_reg u r v) regs e)

  pub phis_hold : (fs : List Phi) → ((f : Phi) → Has fs f → (c : FlatOp) → facts f.reg.0 ≡ Some c → entries_fact facts f.entries ≡ Some c) → (regs : Regs) → after_phis old b fs ≡ Some regs → Holds facts regs
  phis_hold [] h regs e = subst (Holds facts) (same_Some old regs e) holds
  phis_hold (f ∷ fs) h regs e =
      let z = with_phi_is f.reg.0 (entry_value old (entry_for b f.entries)) (after_phis old b fs) regs e in
      let o = entry_there f.entries z.0 z.2 in
      subst (Holds facts) z.4 (set_holds facts z.1 (phis_hold fs (λ g has. h g (inr has)) z.1 z.3) f.reg.0 z.0 (λ c k. entry_const f.entries c (h f (inl refl) c k) o.0 o.1 z.0 o.2))

  entry_known : (es : List Entry) → entry_for b (map (entry_with facts) es) ≡ option_map (known facts) (entry_for b es)
  entry_known [] = refl
  entry_known (x ∷ xs) = by_test (nat_eq x.from.0 b) (entry_known xs)
    where
      by_test : (t : Bool) → entry_for b (map (entry_with facts) xs) ≡ option_map (known facts) (entry_for b xs) → (if t then Some (known facts x.value) else entry_for b (map (entry_with facts) xs)) ≡ option_map (known facts) (if t then Some x.value else entry_for b xs)
      by_test true rest = refl
      by_test false rest = rest

  pub phis_same : (fs : List Phi) (regs : Regs) → after_phis old b fs ≡ Some regs → after_phis old b (map (phi_with facts) fs) ≡ Some regs
  phis_same [] regs e = e
  phis_same (f ∷ fs) regs e =
      let z = with_phi_is f.reg.0 (entry_value old (entry_for b f.entries)) (after_phis old b fs) regs e in
      let o = entry_there f.entries z.0 z.2 in
      let value : entry_value old (entry_for b (map (entry_with facts) f.entries)) ≡ Some z.0 = ap (entry_value old) (entry_known f.entries ∙ ap (option_map (known facts)) o.1) ∙ known_value facts old holds o.0 z.0 o.2 in
      ap₂ (with_phi f.reg.0) value (phis_same fs z.1 z.3) ∙ ap Some z.4

-- ---- instructions with facts set registers alone

abbrev OnlySets : Effect → Type 0
OnlySets (Sets d v) = Unit {0}
OnlySets NoMeaning = Unit {0}
OnlySets NoValue = Unit {0}
OnlySets e = ⊥

use_only : (o : Option Value) (go : Value → Effect) → ((v : Value) → OnlySets (go v)) → OnlySets (using o go)
use_only None go h = tt
use_only (Some v) go h = h v

answer_only : (d : RegId) (a : Answer) → OnlySets (answered d a)
answer_only d (Gives v) = tt
answer_only d NoGood = tt
answer_only d Mistyped = tt

gep_only : (d : RegId) (v : Value) (x : Distance) → OnlySets (gep_gives d v x)
gep_only d v (Far k) = answer_only d (moved v k)
gep_only d v PoisonFar = tt
gep_only d v NoDistance = tt

fact_sets : (facts : Facts) (regs : Regs) (m : Memory) (i : FlatInstr) (c : FlatOp) → instr_fact facts i ≡ Some c → OnlySets (effect regs m i)
fact_sets facts regs m (Bin d op w a b) c f = use_only (value_of regs a) _ (λ x. use_only (value_of regs b) _ (λ y. answer_only d (bin op w x y)))
fact_sets facts regs m (Icmp d t s a b) c f = use_only (value_of regs a) _ (λ x. use_only (value_of regs b) _ (λ y. answer_only d (icmp m t s x y)))
fact_sets facts regs m (Select d z a b) c f = use_only (value_of regs z) _ (λ u. use_only (value_of regs a) _ (λ x. use_only (value_of regs b) _ (λ y. answer_only d (choose (as_word 2 u) x y))))
fact_sets facts regs m (Cast d t from into a) c f = use_only (value_of regs a) _ (λ x. answer_only d (cast_read t from into (as_word (modulus from) x)))
fact_sets facts regs m (Copy d a) c f = use_only (value_of regs a) _ (λ x. tt)
fact_sets facts regs m (Gep d a k ts) c f = use_only (value_of regs a) _ (λ x. gep_only d x (distance regs k ts))
fact_sets facts regs m (Alloca d size align) c f = absurd cc
fact_sets facts regs m (Load d s align a) c f = absurd cc
fact_sets facts regs m (Store s align x a) c f = absurd cc
fact_sets facts regs m (Call d g args) c f = absurd cc
fact_sets facts regs m (Put d a) c f = absurd cc
fact_sets facts regs m (Get d) c f = absurd cc
fact_sets facts regs m (Exit a) c f = absurd cc

-- ---- the whole

module _ (p : Program) (f : ℕ) (old : FlatBody) (facts : Facts) (just : Justified facts old) where
  abbrev new : FlatBody
  new = body_with facts old

  abbrev True : ℕ → ℕ → Regs → Type 0
  True b n regs = Holds facts regs

  block_at : (b : ℕ) (k : FlatBlock) → slice_get old.blocks b ≡ Some k → slice_get new.blocks b ≡ Some (block_with facts k)
  block_at b k e = map_at (block_with facts) old.blocks b k e

  same_block : (b : ℕ) (k l : FlatBlock) → slice_get old.blocks b ≡ Some k → slice_get new.blocks b ≡ Some l → l ≡ block_with facts k
  same_block b k l e g = let both : Some l ≡ Some (block_with facts k) = sym g ∙ block_at b k e in cc

  module _ (r : Run) (k : FlatBlock) (found : slice_get old.blocks r.top.block ≡ Some k) (holds : Holds facts r.top.regs) where
    module _ (i : FlatInstr) (here : slice_get k.code r.top.place ≡ Some i) (ready : Each (IsReady r.top.regs) (used_by i)) where
      -- another register than one with a fact
      unknown : (d : ℕ) → written_by i ≡ Some d → (OnlySets (effect r.top.regs r.memory i) → ⊥) → (v : Value) (c : FlatOp) → facts d ≡ Some c → IsConst c v
      unknown d w bad v c e = absurd (bad (fact_sets facts r.top.regs r.memory i c (just.by_code r.top.block r.top.place k i d c found here w e)))

      keeps : (e : Effect) → effect r.top.regs r.memory i ≡ e → Writes (written_by i) e → Keeps p f old new (λ b. b) True r e
      keeps (Sets d v) is w = set_holds facts r.top.regs holds d.0 v (λ c e. fact_true facts r.top.regs holds r.memory i ready c (just.by_code r.top.block r.top.place k i d.0 c found here w e) d v is)
      keeps (Allocates d size align) is w = λ v. set_holds facts r.top.regs holds d.0 v (unknown d.0 w (λ only. subst OnlySets is only) v)
      keeps (Stores m) is w = holds
      keeps (Puts None b) is w = holds
      keeps (Puts (Some d) b) is w = λ v. set_holds facts r.top.regs holds d.0 v (unknown d.0 w (λ only. subst OnlySets is only) v)
      keeps (Takes None) is w = holds
      keeps (Takes (Some d)) is w = λ v. set_holds facts r.top.regs holds d.0 v (unknown d.0 w (λ only. subst OnlySets is only) v)
      keeps (Enters None g args) is w = holds
      keeps (Enters (Some d) g args) is w = λ v. set_holds facts r.top.regs holds d.0 v (unknown d.0 w (λ only. subst OnlySets is only) v)
      keeps (Goes c) is w = absurd w
      keeps (Returns v) is w = absurd w
      keeps (Stops x) is w = tt
      keeps NoMeaning is w = tt
      keeps NoValue is w = tt

    ends_so : (e : Effect) → Ends k.end e → end_effect r.top.regs (block_with facts k).end ≡ e → EndsSo p f old new (λ b. b) True r (block_with facts k) e
    ends_so (Goes c) a same = (
      same,
      λ l regs at' phis. (
        block_with facts l,
        block_at c l at',
        phis_same facts r.top.regs holds r.top.block l.phis regs phis,
        phis_hold facts r.top.regs holds r.top.block l.phis (λ g has c' e. just.by_phi c l g c' at' has e) regs phis,
      ),
    )
    ends_so (Returns v) a same = same
    ends_so NoMeaning a same = tt
    ends_so NoValue a same = tt
    ends_so (Sets d v) a same = absurd a
    ends_so (Allocates d size align) a same = absurd a
    ends_so (Stores m) a same = absurd a
    ends_so (Puts d b) a same = absurd a
    ends_so (Takes d) a same = absurd a
    ends_so (Enters d g args) a same = absurd a
    ends_so (Stops w) a same = absurd a

  -- at each place that the run comes to, the operands there are ready
  pub record Ready (input : List ℕ) : Type 0 where
    pub at_code : (r : Run) → Reached p input r → r.status ≡ Going → r.top.func ≡ f → (k : FlatBlock) (i : FlatInstr) → slice_get old.blocks r.top.block ≡ Some k → slice_get k.code r.top.place ≡ Some i → Each (IsReady r.top.regs) (used_by i)
    pub at_end : (r : Run) → Reached p input r → r.status ≡ Going → r.top.func ≡ f → (k : FlatBlock) → slice_get old.blocks r.top.block ≡ Some k → slice_get k.code r.top.place ≡ None → Each (IsReady r.top.regs) (used_at_end k.end)

  module _ (is_old : p.body f ≡ Some old) (own : (q : ℕ) → q < old.params → facts q ≡ None) (input : List ℕ) (never : (n : ℕ) → (flat_run p input n).status ≢ Stuck) (ready : Ready input) where
    at_start : (regs : Regs) → ((r : ℕ) → old.params ≤ r → regs r ≡ None) → Holds facts regs
    at_start regs none q c e = ⊎_elim (λ lt. absurd (let both : None ≡ Some c = sym (own q lt) ∙ e in cc)) (λ le. inl (none q le)) (cases_lt q old.params)

    same_blocks : SameBlocks p f old new (λ b. b) True (Reached p input)
    same_blocks = record {
      is_old = is_old;
      same_params = refl;
      fine_on = reached_on p input;
      not_stuck = reached_not_stuck p input never;
      entry = refl;
      starts = at_start;
      blocks = λ b n regs k inv found. (block_with facts k, block_at b k found);
      code = λ r fine going is holds k l found found_new i here.
          let now = ready.at_code r fine going is k i found here in
          ⊎_elim
          (λ same. inr (
            instr_with facts i,
            subst (λ (z : FlatBlock). slice_get z.code r.top.place ≡ Some (instr_with facts i)) (sym (same_block r.top.block k l found found_new)) (map_at (instr_with facts) k.code r.top.place i here),
            same,
            keeps r k found holds i here now (effect r.top.regs r.memory i) refl (effect_writes r.top.regs r.memory i),
          ))
          (λ bad. inl bad)
          (instr_same facts r.top.regs holds r.memory i now);
      ends = λ r fine going is holds k l found found_new past.
          let now = ready.at_end r fine going is k found past in
          subst (λ (z : FlatBlock). (slice_get z.code r.top.place ≡ None) × EndsSo p f old new (λ b. b) True r z (end_effect r.top.regs k.end)) (sym (same_block r.top.block k l found found_new))
          (map_past (instr_with facts) k.code r.top.place past, ends_so r k found holds (end_effect r.top.regs k.end) (end_ends r.top.regs k.end) (same_end r.top.regs (known facts) k.end (all_same facts r.top.regs holds r.memory (used_at_end k.end) now)));
    }

    pub constants_follow : Follows (flat_run p input) (flat_run (with_body p f (body_with facts old)) input)
    constants_follow = same_blocks_follow p f old new (λ b. b) True (Reached p input) same_blocks input (0, refl)
