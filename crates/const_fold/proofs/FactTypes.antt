-- Facts are of the types of their registers.
use Rattle.std.proofs.Common.{◌≡◌, ℕ, ◌+◌, ◌<◌, ◌%◌, Bool, true, false, ◌&&◌, nat_eq, nat_lt, is_some, if◌then◌else◌, List, [], ◌∷◌, Option, Some, None, refl, sym, ap, ap₂, ◌∙◌, subst, arith}
use Rattle.std.proofs.Math.Nat.{mod-lt}
use Rattle.std.specs.List.{fold, list_all, AllByRecursion as Each}
use Rattle.std.specs.Option.{option_and_then, unwrap_or}
use Rattle.std.proofs.lemmas.Bool.Decides.{nat_tests}
use Rattle.std.proofs.lemmas.List.Elements.{All-contains}
use Rattle.oi_base.specs.declared.ids.RegId.{RegId}
use Rattle.oi_base.specs.declared.words.Width.{Width}
use Rattle.oi_base.specs.declared.words.Width.TheVariants.{W1}
use Rattle.oi_base.specs.Words.{modulus}
use Rattle.ir_core.specs.declared.flat.Scalar.{Scalar}
use Rattle.ir_core.specs.declared.flat.Scalar.TheVariants as scalar
use Rattle.ir_core.specs.declared.flat.FlatOp.{FlatOp}
use Rattle.ir_core.specs.declared.flat.FlatOp.TheVariants.{Reg, Word, Null, Address, Poison}
use Rattle.ir_core.specs.declared.flat.Entry.{Entry}
use Rattle.ir_core.specs.declared.flat.Phi.{Phi}
use Rattle.ir_core.specs.declared.flat.FlatInstr.{FlatInstr}
use Rattle.ir_core.specs.declared.flat.FlatInstr.TheVariants.{Bin, Icmp, Select, Cast, Copy, Alloca, Load, Store, Gep, Call, Put, Get, Exit}
use Rattle.ir_core.specs.declared.flat.FlatBlock.{FlatBlock}
use Rattle.ir_core.specs.declared.flat.FlatBody.{FlatBody}
use Rattle.ir_core.specs.Memory.{Bits}
use Rattle.ir_core.specs.Words.{Outcome, Known, NoWord, NoMeaning, word_op, word_test, word_cast, bit}
use Rattle.ir_core.specs.Rows.{Is, bin_read, outcome}
use Rattle.ir_core.specs.Formed.{HasType, FuncType, IsTyped, written_by, IsFormedBody}
use Rattle.ir_core.proofs.Lists.{each_from, at_has, contains}
use Rattle.ir_safety.proofs.Typed.{Answers, tested, bin_of, cast_of}
use Rattle.const_fold.specs.Operands.{word_in, word_of_op, fitting, constant, same_op}
use Rattle.const_fold.specs.FoldConstants.{Facts, no_facts, known, noted, on_words, outcome_fact, chosen, choice_fact, converted, converts, summed, address_fact, instr_fact, entries_fact, phi_noted, instr_noted, block_noted, all_facts}
use Rattle.const_fold.proofs.Folds.{read_word}

-- a constant of a type
abbrev pub Fits : FlatOp → Scalar → Type 0
Fits (Reg r) s = ⊥
Fits (Word a) (scalar.Word w) = a < modulus w
Fits (Word a) scalar.Pointer = ⊥
Fits Null s = s ≡ scalar.Pointer
Fits (Address g k) s = (s ≡ scalar.Pointer) × (k < 4294967296)
Fits Poison s = Unit {0}

-- ---- what parts of a fact are

-- a word of a width is one
in_width : (w : Width) (o : FlatOp) (a : ℕ) → word_in w o ≡ Some a → a < modulus w
in_width w o a e = by_word (word_of_op o) e
  where
    by_word : (u : Option ℕ) → fitting w u ≡ Some a → a < modulus w
    by_word None e = absurd cc
    by_word (Some b) e = by_test (nat_lt b (modulus w)) refl e
      where
        by_test : (t : Bool) → nat_lt b (modulus w) ≡ t → (if t then Some b else None) ≡ Some a → a < modulus w
        by_test true is e = let same : b ≡ a = cc in let less : b < modulus w = grind (arith, nat_tests) in subst (λ n. n < modulus w) same less
        by_test false is e = absurd cc

of_two_words : (x y : Option ℕ) (f : ℕ → ℕ → Option FlatOp) (c : FlatOp) → on_words x y f ≡ Some c → (a b : ℕ) × (x ≡ Some a) × (y ≡ Some b) × (f a b ≡ Some c)
of_two_words None y f c e = absurd cc
of_two_words (Some a) None f c e = absurd cc
of_two_words (Some a) (Some b) f c e = (a, b, refl, refl, e)

outcome_fits : (w : Width) (o : Outcome) (c : FlatOp) → Answers (scalar.Word w) (outcome o) → outcome_fact o ≡ Some c → Fits c (scalar.Word w)
outcome_fits w (Known a) c h e = let same : Word a ≡ c = cc in let less : a < modulus w = grind (arith, nat_tests) in subst (λ k. Fits k (scalar.Word w)) same less
outcome_fits w NoWord c h e = absurd cc
outcome_fits w NoMeaning c h e = absurd cc

own_constant : (o c : FlatOp) → constant o ≡ Some c → constant o ≡ Some o
own_constant (Reg r) c e = absurd cc
own_constant (Word a) c e = refl
own_constant Null c e = refl
own_constant (Address g k) c e = refl
own_constant Poison c e = refl

-- what a choice of two constants is
choice_is : (z : ℕ) (a b c : FlatOp) → choice_fact (Some z) a b ≡ Some c → (constant a ≡ Some a) × (constant b ≡ Some b) × (chosen z a b ≡ c)
choice_is z a b c e = by_parts (constant a) (constant b) refl refl e
  where
    by_parts : (x y : Option FlatOp) → constant a ≡ x → constant b ≡ y → (if is_some x && is_some y then Some (chosen z a b) else None) ≡ Some c → (constant a ≡ Some a) × (constant b ≡ Some b) × (chosen z a b ≡ c)
    by_parts None y ex ey e = absurd cc
    by_parts (Some x) None ex ey e = absurd cc
    by_parts (Some x) (Some y) ex ey e = (own_constant a x ex, own_constant b y ey, cc)

address_fits : (o : FlatOp) (n : Option ℕ) (c : FlatOp) → address_fact o n ≡ Some c → Fits c scalar.Pointer
address_fits (Address g k) (Some j) c e =
    let same : Address g ((k + j) % 4294967296) ≡ c = cc in
    let some : 0 < 4294967296 = omega arith in
    subst (λ z. Fits z scalar.Pointer) same (refl, mod-lt (k + j) some)
address_fits (Address g k) None c e = absurd cc
address_fits (Reg r) None c e = absurd cc
address_fits (Reg r) (Some j) c e = absurd cc
address_fits (Word a) None c e = absurd cc
address_fits (Word a) (Some j) c e = absurd cc
address_fits Null None c e = absurd cc
address_fits Null (Some j) c e = absurd cc
address_fits Poison None c e = absurd cc
address_fits Poison (Some j) c e = absurd cc

bit_fits : (t : Bool) (c : FlatOp) → Some (Word (bit t)) ≡ Some c → Fits c (scalar.Word W1)
bit_fits true c e = let same : Word 1 ≡ c = cc in subst (λ k. Fits k (scalar.Word W1)) same (omega arith)
bit_fits false c e = let same : Word 0 ≡ c = cc in subst (λ k. Fits k (scalar.Word W1)) same (omega arith)

if_fits : (t : Bool) (a b : FlatOp) (s : Scalar) → Fits a s → Fits b s → Fits (if t then b else a) s
if_fits true a b s p q = q
if_fits false a b s p q = p

module _ (types : ℕ → Scalar) where
  pub fits_typed : (c : FlatOp) (s : Scalar) → Fits c s → HasType types c s
  fits_typed (Reg r) s h = absurd h
  fits_typed (Word a) (scalar.Word w) h = h
  fits_typed (Word a) scalar.Pointer h = h
  fits_typed Null s h = h
  fits_typed (Address g k) s h = h
  fits_typed Poison s h = h

  typed_fits : (o : FlatOp) (s : Scalar) (c : FlatOp) → HasType types o s → constant o ≡ Some c → Fits c s
  typed_fits (Reg r) s c h e = absurd cc
  typed_fits (Word a) (scalar.Word w) c h e = let same : Word a ≡ c = cc in subst (λ k. Fits k (scalar.Word w)) same h
  typed_fits (Word a) scalar.Pointer c h e = absurd h
  typed_fits Null s c h e = let same : Null ≡ c = cc in subst (λ k. Fits k s) same h
  typed_fits (Address g k) s c h e = let same : Address g k ≡ c = cc in subst (λ z. Fits z s) same h
  typed_fits Poison s c h e = let same : Poison ≡ c = cc in subst (λ k. Fits k s) same h

  -- each fact is a constant of its register's type
  abbrev pub FactsFit : Facts → Type 0
  FactsFit facts = (q : ℕ) (c : FlatOp) → facts q ≡ Some c → Fits c (types q)

  pub known_typed : (facts : Facts) → FactsFit facts → (o : FlatOp) (s : Scalar) → HasType types o s → HasType types (known facts o) s
  known_typed facts fit (Reg r) s e = by_fact (facts r.0) refl
    where
      by_fact : (f : Option FlatOp) → facts r.0 ≡ f → HasType types (unwrap_or f (Reg r)) s
      by_fact None is = e
      by_fact (Some c) is = subst (HasType types c) e (fits_typed c (types r.0) (fit r.0 c is))
  known_typed facts fit (Word a) s e = e
  known_typed facts fit Null s e = e
  known_typed facts fit (Address g k) s e = e
  known_typed facts fit Poison s e = e

  noted_fits : (facts : Facts) → FactsFit facts → (w : Option ℕ) (o : Option FlatOp) → ((d : ℕ) (c : FlatOp) → w ≡ Some d → o ≡ Some c → Fits c (types d)) → FactsFit (noted facts w o)
  noted_fits facts fit None o new q c e = fit q c e
  noted_fits facts fit (Some r) None new q c e = fit q c e
  noted_fits facts fit (Some r) (Some k) new q c e = by_test (nat_eq q r) refl e
    where
      by_test : (t : Bool) → nat_eq q r ≡ t → (if t then Some k else facts q) ≡ Some c → Fits c (types q)
      by_test true is e = let same : r ≡ q = grind (arith, nat_tests) in new q c (ap Some same) e
      by_test false is e = fit q c e

  module _ (funcs : ℕ → FuncType) (facts : Facts) (fit : FactsFit facts) where
    at_result : (r : RegId) (d : ℕ) (c : FlatOp) → Some r.0 ≡ Some d → Fits c (types r.0) → Fits c (types d)
    at_result r d c e h = let same : r.0 ≡ d = cc in subst (λ n. Fits c (types n)) same h

    constant_fits : (o : FlatOp) (s : Scalar) (c : FlatOp) → HasType types o s → constant (known facts o) ≡ Some c → Fits c s
    constant_fits o s c h e = typed_fits (known facts o) s c (known_typed facts fit o s h) e

    fact_fits : (i : FlatInstr) → IsTyped types funcs i → (d : ℕ) (c : FlatOp) → written_by i ≡ Some d → instr_fact facts i ≡ Some c → Fits c (types d)
    fact_fits (Bin r op w a b) h d c e f =
        let z = of_two_words (word_in w (known facts a)) (word_in w (known facts b)) (λ x y. outcome_fact (word_op op w x y)) c f in
        let x = in_width w (known facts a) z.0 z.2 in
        let y = in_width w (known facts b) z.1 z.3 in
        let gives = subst (Answers (scalar.Word w)) (ap₂ (bin_read op w) (read_word w z.0 x) (read_word w z.1 y)) (bin_of op w (Bits z.0) (Bits z.1) (tested z.0 (modulus w) x) (tested z.1 (modulus w) y)) in
        at_result r d c e (subst (Fits c) (sym h.0) (outcome_fits w (word_op op w z.0 z.1) c gives z.4))
    fact_fits (Icmp r t scalar.Pointer a b) h d c e f = absurd cc
    fact_fits (Icmp r t (scalar.Word w) a b) h d c e f =
        let z = of_two_words (word_in w (known facts a)) (word_in w (known facts b)) (λ x y. Some (Word (bit (word_test t w x y)))) c f in
        at_result r d c e (subst (Fits c) (sym h.0) (bit_fits (word_test t w z.0 z.1) c z.4))
    fact_fits (Select r z a b) h d c e f = by_word (word_in W1 (known facts z)) f
      where
        by_word : (o : Option ℕ) → choice_fact o (known facts a) (known facts b) ≡ Some c → Fits c (types d)
        by_word None f = absurd cc
        by_word (Some n) f =
            let parts = choice_is n (known facts a) (known facts b) c f in
            at_result r d c e (subst (λ k. Fits k (types r.0)) parts.2
            (if_fits (nat_eq n 0) (known facts a) (known facts b) (types r.0) (constant_fits a (types r.0) (known facts a) h.1 parts.0) (constant_fits b (types r.0) (known facts b) h.2 parts.1)))
    fact_fits (Cast r t from to a) h d c e f = by_test (converts t from to) (word_in from (known facts a)) refl f
      where
        by_test : (u : Bool) (o : Option ℕ) → word_in from (known facts a) ≡ o → converted u t from to o ≡ Some c → Fits c (types d)
        by_test false o is f = absurd cc
        by_test true None is f = absurd cc
        by_test true (Some x) is f =
            let gives = cast_of t from to (Is x) h.2 (in_width from (known facts a) x is) in
            let less : word_cast t from to x < modulus to = grind (arith, nat_tests, gives) in
            let same : Word (word_cast t from to x) ≡ c = cc in
            at_result r d c e (subst (Fits c) (sym h.0) (subst (λ k. Fits k (scalar.Word to)) same less))
    fact_fits (Copy r a) h d c e f = at_result r d c e (constant_fits a (types r.0) c h f)
    fact_fits (Gep r a k ts) h d c e f = at_result r d c e (subst (Fits c) (sym h.0) (address_fits (known facts a) (fold (summed facts) (Some k) ts) c f))
    fact_fits (Alloca r size align) h d c e f = absurd cc
    fact_fits (Load r s align a) h d c e f = absurd cc
    fact_fits (Store s align v a) h d c e f = absurd cc
    fact_fits (Call r g args) h d c e f = absurd cc
    fact_fits (Put r a) h d c e f = absurd cc
    fact_fits (Get r) h d c e f = absurd cc
    fact_fits (Exit a) h d c e f = absurd cc

    entries_fit : (es : List Entry) (s : Scalar) (c : FlatOp) → Each (λ x. HasType types x.value s) es → entries_fact facts es ≡ Some c → Fits c s
    entries_fit [] s c h f = absurd cc
    entries_fit (x ∷ xs) s c h f = by_first (constant (known facts x.value)) refl f
      where
        by_first : (o : Option FlatOp) → constant (known facts x.value) ≡ o → option_and_then (λ k. if list_all (λ (y : Entry). same_op (known facts y.value) k) xs then Some k else None) o ≡ Some c → Fits c s
        by_first None is f = absurd cc
        by_first (Some k) is f = by_all (list_all (λ (y : Entry). same_op (known facts y.value) k) xs) f
          where
            by_all : (t : Bool) → (if t then Some k else None) ≡ Some c → Fits c s
            by_all false f = absurd cc
            by_all true f = let same : k ≡ c = cc in constant_fits x.value s c h.0 (is ∙ ap Some same)

  -- ---- the sweep

  abbrev PhiTyped : Phi → Type 0
  PhiTyped f = Each (λ x. HasType types x.value (types f.reg.0)) f.entries

  phis_fit : (fs : List Phi) (facts : Facts) → FactsFit facts → Each PhiTyped fs → FactsFit (fold phi_noted facts fs)
  phis_fit [] facts fit h = fit
  phis_fit (f ∷ fs) facts fit h = phis_fit fs (phi_noted facts f)
      (noted_fits facts fit (Some f.reg.0) (entries_fact facts f.entries) (λ d c e is.
      let same : f.reg.0 ≡ d = cc in
      subst (λ n. Fits c (types n)) same (entries_fit (λ n. record { params = []; result = None }) facts fit f.entries (types f.reg.0) c h.0 is))) h.1

  module _ (funcs : ℕ → FuncType) where
    code_fit : (is : List FlatInstr) (facts : Facts) → FactsFit facts → Each (IsTyped types funcs) is → FactsFit (fold instr_noted facts is)
    code_fit [] facts fit h = fit
    code_fit (i ∷ is) facts fit h = code_fit is (instr_noted facts i) (noted_fits facts fit (written_by i) (instr_fact facts i) (fact_fits funcs facts fit i h.0)) h.1

    abbrev BlockTyped : FlatBlock → Type 0
    BlockTyped k = Each PhiTyped k.phis × Each (IsTyped types funcs) k.code

    blocks_fit : (ks : List FlatBlock) (facts : Facts) → FactsFit facts → Each BlockTyped ks → FactsFit (fold block_noted facts ks)
    blocks_fit [] facts fit h = fit
    blocks_fit (k ∷ ks) facts fit h = blocks_fit ks (block_noted facts k) (code_fit k.code (fold phi_noted facts k.phis) (phis_fit k.phis facts fit h.0.0) h.0.1) h.1

    pub facts_fit : (own : FuncType) (body : FlatBody) → IsFormedBody types funcs own body → FactsFit (all_facts body)
    facts_fit own body h = blocks_fit body.blocks no_facts (λ q c e. absurd cc) (each_from BlockTyped body.blocks (λ k in_it.
        let b = at_has body.blocks k in_it in (
          each_from PhiTyped k.phis (λ f in_k.
              let typed = (h.phis b.0 k f b.1 (contains k.phis f in_k)).2 in
              each_from (λ x. HasType types x.value (types f.reg.0)) f.entries (λ x in_f. All-contains (λ x. HasType types x.value (types f.reg.0)) f.entries x typed (contains f.entries x in_f))),
          each_from (IsTyped types funcs) k.code (λ i in_k. let n = at_has k.code i in_k in h.code b.0 n.0 k i b.1 n.1),
        )))
