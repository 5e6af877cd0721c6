-- The facts of a body name only globals that the body names.
use Rattle.std.proofs.Common.{◌≡◌, inl, inr, ℕ, ◌<◌, Bool, true, false, nat_eq, if◌then◌else◌, List, [], ◌∷◌, Option, Some, None, refl, subst}
use Rattle.std.specs.List.{fold, list_all}
use Rattle.std.specs.Option.{option_and_then, unwrap_or}
use Rattle.oi_base.specs.declared.words.Width.{Width}
use Rattle.oi_base.specs.declared.words.Width.TheVariants.{W1}
use Rattle.ir_core.specs.declared.flat.CastOp.{CastOp}
use Rattle.ir_core.specs.declared.flat.Scalar.TheVariants as scalar
use Rattle.ir_core.specs.declared.flat.FlatOp.{FlatOp}
use Rattle.ir_core.specs.declared.flat.FlatOp.TheVariants.{Reg, Word, Null, Address, Poison}
use Rattle.ir_core.specs.declared.flat.Entry.{Entry}
use Rattle.ir_core.specs.declared.flat.FlatInstr.{FlatInstr}
use Rattle.ir_core.specs.declared.flat.FlatInstr.TheVariants.{Bin, Icmp, Select, Cast, Copy, Alloca, Load, Store, Gep, Call, Put, Get, Exit}
use Rattle.ir_core.specs.declared.flat.FlatBlock.{FlatBlock}
use Rattle.ir_core.specs.declared.flat.FlatBody.{FlatBody}
use Rattle.ir_core.specs.Words.{Outcome, Known, NoWord, NoMeaning, word_op, word_test, word_cast, bit}
use Rattle.ir_core.specs.Formed.{NamesGlobal, written_by, used_by, uses, all_uses}
use Rattle.ir_core.proofs.Lists.{Has, has_part, has_mapped}
use Rattle.const_fold.specs.Operands.{word_in, constant, same_op}
use Rattle.const_fold.specs.FoldConstants.{Facts, no_facts, known, noted, outcome_fact, choice_fact, converts, converted, summed, instr_fact, entries_fact, phi_noted, instr_noted, block_noted, all_facts}
use Rattle.local_passes.proofs.Needing.{of_phi, of_instr}
use Rattle.passes_meaning.proofs.Constants.{on_words_are, choice_is, address_is}

-- what each step of a fold keeps, the fold keeps
fold_keeps : {A S : Type 0} (P : S → Type 0) (next : S → A → S) (xs : List A) → ((s : S) (x : A) → Has xs x → P s → P (next s x)) → (s : S) → P s → P (fold next s xs)
fold_keeps P next [] keeps s h = h
fold_keeps P next (x ∷ xs) keeps s h = fold_keeps P next xs (λ t y has. keeps t y (inr has)) (next s x) (keeps s x (inl refl) h)

module _ (n : ℕ) where
  abbrev Names : FlatOp → Type 0
  Names o = NamesGlobal n o

  abbrev pub AllName : Facts → Type 0
  AllName facts = (q : ℕ) (c : FlatOp) → facts q ≡ Some c → Names c

  word_named : (a : ℕ) (c : FlatOp) → Word a ≡ c → Names c
  word_named a c e = subst Names e tt

  outcome_named : (o : Outcome) (c : FlatOp) → outcome_fact o ≡ Some c → Names c
  outcome_named (Known a) c e = word_named a c cc
  outcome_named NoWord c e = absurd cc
  outcome_named NoMeaning c e = absurd cc

  constant_named : (o c : FlatOp) → Names o → constant o ≡ Some c → Names c
  constant_named (Reg r) c h e = absurd cc
  constant_named (Word a) c h e = word_named a c cc
  constant_named Null c h e = let same : Null ≡ c = cc in subst Names same tt
  constant_named (Address g k) c h e = let same : Address g k ≡ c = cc in subst Names same h
  constant_named Poison c h e = let same : Poison ≡ c = cc in subst Names same tt

  cast_named : (b : Bool) (t : CastOp) (from into : Width) (o : Option ℕ) (c : FlatOp) → converted b t from into o ≡ Some c → Names c
  cast_named false t from into o c e = absurd cc
  cast_named true t from into None c e = absurd cc
  cast_named true t from into (Some x) c e = word_named (word_cast t from into x) c cc

  if_named : (t : Bool) (a b : FlatOp) → Names a → Names b → Names (if t then b else a)
  if_named true a b h g = g
  if_named false a b h g = h

  module _ (facts : Facts) (named : AllName facts) where
    pub known_named : (o : FlatOp) → Names o → Names (known facts o)
    known_named (Reg r) h = by_fact (facts r.0) refl
      where
        by_fact : (u : Option FlatOp) → facts r.0 ≡ u → Names (unwrap_or u (Reg r))
        by_fact None is = tt
        by_fact (Some c) is = named r.0 c is
    known_named (Word a) h = tt
    known_named Null h = tt
    known_named (Address g k) h = h
    known_named Poison h = tt

    choice_named : (o : Option ℕ) (a b c : FlatOp) → Names a → Names b → choice_fact o a b ≡ Some c → Names c
    choice_named None a b c h g e = absurd cc
    choice_named (Some z) a b c h g e = subst Names (choice_is z a b c e).4 (if_named (nat_eq z 0) a b h g)

    instr_named : (i : FlatInstr) → ((o : FlatOp) → Has (used_by i) o → Names o) → (c : FlatOp) → instr_fact facts i ≡ Some c → Names c
    instr_named (Bin d op w a b) h c e =
        let z = on_words_are (word_in w (known facts a)) (word_in w (known facts b)) (λ x y. outcome_fact (word_op op w x y)) c e in
        outcome_named (word_op op w z.0 z.1) c z.4
    instr_named (Icmp d t scalar.Pointer a b) h c e = absurd cc
    instr_named (Icmp d t (scalar.Word w) a b) h c e =
        let z = on_words_are (word_in w (known facts a)) (word_in w (known facts b)) (λ x y. Some (Word (bit (word_test t w x y)))) c e in
        let is = z.4 in
        word_named (bit (word_test t w z.0 z.1)) c cc
    instr_named (Select d z a b) h c e =
        choice_named (word_in W1 (known facts z)) (known facts a) (known facts b) c (known_named a (h a (inr (inl refl)))) (known_named b (h b (inr (inr (inl refl))))) e
    instr_named (Cast d t from into a) h c e = cast_named (converts t from into) t from into (word_in from (known facts a)) c e
    instr_named (Copy d a) h c e = constant_named (known facts a) c (known_named a (h a (inl refl))) e
    instr_named (Gep d a k ts) h c e =
        let z = address_is (known facts a) (fold (summed facts) (Some k) ts) c e in
        let base : z.0 < n = subst Names z.3 (known_named a (h a (inl refl))) in
        subst Names z.5 base
    instr_named (Alloca d size align) h c e = absurd cc
    instr_named (Load d s align a) h c e = absurd cc
    instr_named (Store s align x a) h c e = absurd cc
    instr_named (Call d g args) h c e = absurd cc
    instr_named (Put d a) h c e = absurd cc
    instr_named (Get d) h c e = absurd cc
    instr_named (Exit a) h c e = absurd cc

    entries_named : (es : List Entry) → ((x : Entry) → Has es x → Names x.value) → (c : FlatOp) → entries_fact facts es ≡ Some c → Names c
    entries_named [] h c e = absurd cc
    entries_named (x ∷ xs) h c e = by_first (constant (known facts x.value)) refl e
      where
        by_first : (u : Option FlatOp) → constant (known facts x.value) ≡ u → option_and_then (λ d. if list_all (λ (y : Entry). same_op (known facts y.value) d) xs then Some d else None) u ≡ Some c → Names c
        by_first None is e = absurd cc
        by_first (Some d) is e = by_all (list_all (λ (y : Entry). same_op (known facts y.value) d) xs) e
          where
            by_all : (t : Bool) → (if t then Some d else None) ≡ Some c → Names c
            by_all true e = let same : d ≡ c = cc in subst Names same (constant_named (known facts x.value) d (known_named x.value (h x (inl refl))) is)
            by_all false e = absurd cc

    noted_named : (r : Option ℕ) (u : Option FlatOp) → ((c : FlatOp) → u ≡ Some c → Names c) → AllName (noted facts r u)
    noted_named None u h q d e = named q d e
    noted_named (Some r) None h q d e = named q d e
    noted_named (Some r) (Some c) h q d e = by_test (nat_eq q r) e
      where
        by_test : (t : Bool) → (if t then Some c else facts q) ≡ Some d → Names d
        by_test true e = let same : c ≡ d = cc in subst Names same (h c refl)
        by_test false e = named q d e

  -- ---- the sweep

  module _ (body : FlatBody) (h : (o : FlatOp) → Has (all_uses body) o → Names o) where
    block_named : (k : FlatBlock) → ((o : FlatOp) → Has (uses k) o → Names o) → (facts : Facts) → AllName facts → AllName (block_noted facts k)
    block_named k g facts named =
        fold_keeps AllName instr_noted k.code (λ s i has named. noted_named s named (written_by i) (instr_fact s i) (instr_named s named i (λ o used. g o (of_instr k i o has used))))
        (fold phi_noted facts k.phis)
        (fold_keeps AllName phi_noted k.phis (λ s f has named. noted_named s named (Some f.reg.0) (entries_fact s f.entries) (entries_named s named f.entries (λ x used. g x.value (of_phi k f x.value has (has_mapped (λ (e : Entry). e.value) f.entries x used))))) facts named)

    pub all_named : AllName (all_facts body)
    all_named = fold_keeps AllName block_noted body.blocks (λ s k has named. block_named k (λ o used. h o (has_part uses body.blocks k o has used)) s named) no_facts (λ q c e. absurd cc)
