-- Where no register is written twice, each fact that the sweep leaves follows from the facts that it leaves.
use Rattle.std.proofs.Common.{◌≡◌, ◌≢◌, inl, inr, ℕ, Bool, true, false, ◌&&◌, nat_eq, is_some, if◌then◌else◌, List, [], ◌∷◌, ◌++◌, map, Option, Some, None, slice_get, refl, sym, ap, ap₂, ◌∙◌, subst, arith}
use Rattle.std.specs.List.{fold, filter_map, cons_option, flat_map, list_all, AllByRecursion as Each}
use Rattle.std.specs.Option.{option_map, option_and_then, unwrap_or}
use Rattle.std.proofs.lemmas.Bool.Decides.{nat_tests}
use Rattle.oi_base.specs.declared.words.Width.{Width}
use Rattle.oi_base.specs.declared.words.Width.TheVariants.{W1}
use Rattle.ir_core.specs.declared.flat.Scalar.TheVariants as scalar
use Rattle.ir_core.specs.declared.flat.FlatOp.{FlatOp}
use Rattle.ir_core.specs.declared.flat.FlatOp.TheVariants.{Reg, Word, Null, Address, Poison}
use Rattle.ir_core.specs.declared.flat.Term.{Term}
use Rattle.ir_core.specs.declared.flat.Entry.{Entry}
use Rattle.ir_core.specs.declared.flat.Phi.{Phi}
use Rattle.ir_core.specs.declared.flat.FlatInstr.{FlatInstr}
use Rattle.ir_core.specs.declared.flat.FlatInstr.TheVariants.{Bin, Icmp, Select, Cast, Copy, Alloca, Load, Store, Gep, Call, Put, Get, Exit}
use Rattle.ir_core.specs.declared.flat.FlatBlock.{FlatBlock}
use Rattle.ir_core.specs.declared.flat.FlatBody.{FlatBody}
use Rattle.ir_core.specs.Formed.{written_by, writes, all_writes}
use Rattle.ir_core.proofs.Lists.{Has, Apart, has_at, has_part, has_left, has_right, has_mapped}
use Rattle.const_fold.specs.Operands.{word_in, constant, same_op}
use Rattle.const_fold.specs.FoldConstants.{Facts, no_facts, with_fact, noted, known, on_words, chosen, choice_fact, converts, converted, with_term, summed, address_fact, instr_fact, entries_fact, phi_noted, block_noted, all_facts}

-- ---- more facts

-- each fact of the first is one of the second
abbrev pub Within : Facts → Facts → Type 0
Within few many = (q : ℕ) (c : FlatOp) → few q ≡ Some c → many q ≡ Some c

module _ (few many : Facts) (within : Within few many) where
  -- a constant that is known stays known
  word_stays : (w : Width) (o : FlatOp) (a : ℕ) → word_in w (known few o) ≡ Some a → word_in w (known many o) ≡ Some a
  word_stays w (Reg r) a e = by_fact (few r.0) refl e
    where
      by_fact : (o : Option FlatOp) → few r.0 ≡ o → word_in w (unwrap_or o (Reg r)) ≡ Some a → word_in w (unwrap_or (many r.0) (Reg r)) ≡ Some a
      by_fact None is e = absurd cc
      by_fact (Some c) is e = ap (λ o. word_in w (unwrap_or o (Reg r))) (within r.0 c is) ∙ e
  word_stays w (Word b) a e = e
  word_stays w Null a e = e
  word_stays w (Address g k) a e = e
  word_stays w Poison a e = e

  constant_stays : (o : FlatOp) (c : FlatOp) → constant (known few o) ≡ Some c → known many o ≡ known few o
  constant_stays (Reg r) c e = by_fact (few r.0) refl e
    where
      by_fact : (o : Option FlatOp) → few r.0 ≡ o → constant (unwrap_or o (Reg r)) ≡ Some c → unwrap_or (many r.0) (Reg r) ≡ unwrap_or o (Reg r)
      by_fact None is e = absurd cc
      by_fact (Some d) is e = ap (λ o. unwrap_or o (Reg r)) (within r.0 d is)
  constant_stays (Word b) c e = refl
  constant_stays Null c e = refl
  constant_stays (Address g k) c e = refl
  constant_stays Poison c e = refl

  words_stay : (w : Width) (a b : FlatOp) (f : ℕ → ℕ → Option FlatOp) (c : FlatOp) → on_words (word_in w (known few a)) (word_in w (known few b)) f ≡ Some c → on_words (word_in w (known many a)) (word_in w (known many b)) f ≡ Some c
  words_stay w a b f c e = by_words (word_in w (known few a)) (word_in w (known few b)) refl refl e
    where
      by_words : (x y : Option ℕ) → word_in w (known few a) ≡ x → word_in w (known few b) ≡ y → on_words x y f ≡ Some c → on_words (word_in w (known many a)) (word_in w (known many b)) f ≡ Some c
      by_words None y ex ey e = absurd cc
      by_words (Some x) None ex ey e = absurd cc
      by_words (Some x) (Some y) ex ey e = ap₂ (λ u v. on_words u v f) (word_stays w a x ex) (word_stays w b y ey) ∙ e

  choice_stays : (z a b : FlatOp) (c : FlatOp) → choice_fact (word_in W1 (known few z)) (known few a) (known few b) ≡ Some c → choice_fact (word_in W1 (known many z)) (known many a) (known many b) ≡ Some c
  choice_stays z a b c e = by_parts (word_in W1 (known few z)) (constant (known few a)) (constant (known few b)) refl refl refl e
    where
      by_parts : (w : Option ℕ) (x y : Option FlatOp) → word_in W1 (known few z) ≡ w → constant (known few a) ≡ x → constant (known few b) ≡ y → choice_fact w (known few a) (known few b) ≡ Some c → choice_fact (word_in W1 (known many z)) (known many a) (known many b) ≡ Some c
      by_parts None x y ew ex ey e = absurd cc
      by_parts (Some w) None y ew ex ey e =
          let none : (if is_some (constant (known few a)) && is_some (constant (known few b)) then Some (chosen w (known few a) (known few b)) else None) ≡ None = ap (λ o. if is_some o && is_some (constant (known few b)) then Some (chosen w (known few a) (known few b)) else None) ex in
          absurd (let both : None ≡ Some c = sym none ∙ e in cc)
      by_parts (Some w) (Some x) None ew ex ey e =
          let none : (if is_some (constant (known few a)) && is_some (constant (known few b)) then Some (chosen w (known few a) (known few b)) else None) ≡ None = ap₂ (λ o u. if is_some o && is_some u then Some (chosen w (known few a) (known few b)) else None) ex ey in
          absurd (let both : None ≡ Some c = sym none ∙ e in cc)
      by_parts (Some w) (Some x) (Some y) ew ex ey e =
          ap (λ o. choice_fact o (known many a) (known many b)) (word_stays W1 z w ew) ∙ ap₂ (choice_fact (Some w)) (constant_stays a x ex) (constant_stays b y ey) ∙ e

  no_sum : (facts : Facts) (ts : List Term) (n : ℕ) → fold (summed facts) None ts ≡ Some n → ⊥
  no_sum facts [] n e = cc
  no_sum facts (t ∷ ts) n e = by_word (word_in t.width (known facts t.operand)) (λ f. no_sum facts ts n f) e
    where
      by_word : (o : Option ℕ) → (fold (summed facts) None ts ≡ Some n → ⊥) → fold (summed facts) (option_and_then (λ a. option_map (λ j. with_term j t a) None) o) ts ≡ Some n → ⊥
      by_word None rest e = rest e
      by_word (Some a) rest e = rest e

  sum_stays : (ts : List Term) (k : Option ℕ) (n : ℕ) → fold (summed few) k ts ≡ Some n → fold (summed many) k ts ≡ Some n
  sum_stays [] k n e = e
  sum_stays (t ∷ ts) k n e = by_word (word_in t.width (known few t.operand)) refl (λ u f. sum_stays ts u n f) e
    where
      by_word : (o : Option ℕ) → word_in t.width (known few t.operand) ≡ o → ((u : Option ℕ) → fold (summed few) u ts ≡ Some n → fold (summed many) u ts ≡ Some n)
          → fold (summed few) (option_and_then (λ a. option_map (λ j. with_term j t a) k) o) ts ≡ Some n → fold (summed many) (summed many k t) ts ≡ Some n
      by_word None is rest e = absurd (no_sum few ts n e)
      by_word (Some a) is rest e =
          ap (λ o. fold (summed many) (option_and_then (λ a. option_map (λ j. with_term j t a) k) o) ts) (word_stays t.width t.operand a is) ∙ rest (option_map (λ j. with_term j t a) k) e

  address_stays : (a : FlatOp) (k : ℕ) (ts : List Term) (c : FlatOp) → address_fact (known few a) (fold (summed few) (Some k) ts) ≡ Some c → address_fact (known many a) (fold (summed many) (Some k) ts) ≡ Some c
  address_stays a k ts c e = by_sum (fold (summed few) (Some k) ts) refl (known few a) refl e
    where
      by_sum : (n : Option ℕ) → fold (summed few) (Some k) ts ≡ n → (o : FlatOp) → known few a ≡ o → address_fact o n ≡ Some c → address_fact (known many a) (fold (summed many) (Some k) ts) ≡ Some c
      by_sum (Some n) is (Address g j) at e =
          ap₂ address_fact (constant_stays a (Address g j) (ap constant at) ∙ at) (sum_stays ts (Some k) n is) ∙ e
      by_sum None is (Address g j) at e = absurd cc
      by_sum None is (Reg r) at e = absurd cc
      by_sum None is (Word b) at e = absurd cc
      by_sum None is Null at e = absurd cc
      by_sum None is Poison at e = absurd cc
      by_sum (Some n) is (Reg r) at e = absurd cc
      by_sum (Some n) is (Word b) at e = absurd cc
      by_sum (Some n) is Null at e = absurd cc
      by_sum (Some n) is Poison at e = absurd cc

  pub instr_stays : (i : FlatInstr) (c : FlatOp) → instr_fact few i ≡ Some c → instr_fact many i ≡ Some c
  instr_stays (Bin d op w a b) c e = words_stay w a b _ c e
  instr_stays (Icmp d t scalar.Pointer a b) c e = absurd cc
  instr_stays (Icmp d t (scalar.Word w) a b) c e = words_stay w a b _ c e
  instr_stays (Select d z a b) c e = choice_stays z a b c e
  instr_stays (Cast d t from to a) c e = by_word (converts t from to) (word_in from (known few a)) refl e
    where
      by_word : (b : Bool) (o : Option ℕ) → word_in from (known few a) ≡ o → converted b t from to o ≡ Some c → converted b t from to (word_in from (known many a)) ≡ Some c
      by_word false o is e = absurd cc
      by_word true None is e = absurd cc
      by_word true (Some x) is e = ap (converted true t from to) (word_stays from a x is) ∙ e
  instr_stays (Copy d a) c e = ap constant (constant_stays a c e) ∙ e
  instr_stays (Gep d a k ts) c e = address_stays a k ts c e
  instr_stays (Alloca d size align) c e = absurd cc
  instr_stays (Load d s align a) c e = absurd cc
  instr_stays (Store s align v a) c e = absurd cc
  instr_stays (Call d f args) c e = absurd cc
  instr_stays (Put d a) c e = absurd cc
  instr_stays (Get d) c e = absurd cc
  instr_stays (Exit a) c e = absurd cc

  -- entries that are one constant stay so
  all_stay : (c : FlatOp) (es : List Entry) → is_some (constant c) ≡ true → list_all (λ (x : Entry). same_op (known few x.value) c) es ≡ true → list_all (λ (x : Entry). same_op (known many x.value) c) es ≡ true
  all_stay c [] k e = refl
  all_stay c (x ∷ xs) k e =
      let both = and_parts (same_op (known few x.value) c) (list_all (λ (x : Entry). same_op (known few x.value) c) xs) e in
      ap₂ (λ s t. s && t) (ap (λ o. same_op o c) (constant_stays x.value (known few x.value) (constant_of (known few x.value) c k both.0)) ∙ both.0) (all_stay c xs k both.1)
    where
      and_parts : (s t : Bool) → (s && t) ≡ true → (s ≡ true) × (t ≡ true)
      and_parts s t e = grind (arith, nat_tests)

      constant_of : (o c : FlatOp) → is_some (constant c) ≡ true → same_op o c ≡ true → constant o ≡ Some o
      constant_of (Word a) c k e = refl
      constant_of Null c k e = refl
      constant_of (Address g j) c k e = refl
      constant_of Poison c k e = refl
      constant_of (Reg r) (Reg q) k e = absurd cc
      constant_of (Reg r) (Word a) k e = absurd cc
      constant_of (Reg r) Null k e = absurd cc
      constant_of (Reg r) (Address g j) k e = absurd cc
      constant_of (Reg r) Poison k e = absurd cc

  pub entries_stay : (es : List Entry) (c : FlatOp) → entries_fact few es ≡ Some c → entries_fact many es ≡ Some c
  entries_stay [] c e = e
  entries_stay (x ∷ xs) c e = by_first (constant (known few x.value)) refl e
    where
      own : (o d : FlatOp) → constant o ≡ Some d → is_some (constant d) ≡ true
      own (Reg r) d e = absurd cc
      own (Word a) d e = let same : Word a ≡ d = cc in ap (λ o. is_some (constant o)) (sym same)
      own Null d e = let same : Null ≡ d = cc in ap (λ o. is_some (constant o)) (sym same)
      own (Address g k) d e = let same : Address g k ≡ d = cc in ap (λ o. is_some (constant o)) (sym same)
      own Poison d e = let same : Poison ≡ d = cc in ap (λ o. is_some (constant o)) (sym same)

      by_first : (o : Option FlatOp) → constant (known few x.value) ≡ o
          → option_and_then (λ d. if list_all (λ (y : Entry). same_op (known few y.value) d) xs then Some d else None) o ≡ Some c
          → option_and_then (λ d. if list_all (λ (y : Entry). same_op (known many y.value) d) xs then Some d else None) (constant (known many x.value)) ≡ Some c
      by_first None is e = absurd cc
      by_first (Some d) is e =
          ap (option_and_then (λ d. if list_all (λ (y : Entry). same_op (known many y.value) d) xs then Some d else None)) (ap constant (constant_stays x.value d is) ∙ is)
          ∙ by_all (list_all (λ (y : Entry). same_op (known few y.value) d) xs) refl e
        where
          by_all : (t : Bool) → list_all (λ (y : Entry). same_op (known few y.value) d) xs ≡ t → (if t then Some d else None) ≡ Some c → (if list_all (λ (y : Entry). same_op (known many y.value) d) xs then Some d else None) ≡ Some c
          by_all false all e = absurd cc
          by_all true all e = ap (λ t. if t then Some d else None) (all_stay d xs (own (known few x.value) d is) all) ∙ e

-- ---- the sweep over what writes registers, in order

-- a phi or an instruction: the register that it writes, and its fact, which stays where more is known
pub record Source : Type 0 where
  pub writes_to : Option ℕ
  pub fact : Facts → Option FlatOp
  pub stays : (few many : Facts) → Within few many → (c : FlatOp) → fact few ≡ Some c → fact many ≡ Some c

abbrev pub of_phi : Phi → Source
of_phi f = record { writes_to = Some f.reg.0; fact = λ facts. entries_fact facts f.entries; stays = λ few many within c e. entries_stay few many within f.entries c e }

abbrev pub of_instr : FlatInstr → Source
of_instr i = record { writes_to = written_by i; fact = λ facts. instr_fact facts i; stays = λ few many within c e. instr_stays few many within i c e }

abbrev pub sources : FlatBlock → List Source
sources k = map of_phi k.phis ++ map of_instr k.code

abbrev pub note : Facts → Source → Facts
note facts x = noted facts x.writes_to (x.fact facts)

abbrev pub written : List Source → List ℕ
written xs = filter_map (λ (x : Source). x.writes_to) xs

abbrev pub Free : Facts → List ℕ → Type 0
Free facts rs = Each (λ r. facts r ≡ None) rs

with_other : (facts : Facts) (r : ℕ) (c : FlatOp) (q : ℕ) → q ≢ r → with_fact facts r c q ≡ facts q
with_other facts r c q apart = let t : nat_eq q r ≡ false = grind (arith, nat_tests) in ap (λ (b : Bool). if b then Some c else facts q) t

with_own : (facts : Facts) (r : ℕ) (c : FlatOp) → with_fact facts r c r ≡ Some c
with_own facts r c = let t : nat_eq r r ≡ true = grind (arith, nat_tests) in ap (λ (b : Bool). if b then Some c else facts r) t

noted_other : (facts : Facts) (w : Option ℕ) (o : Option FlatOp) (q : ℕ) → (w ≡ Some q → ⊥) → noted facts w o q ≡ facts q
noted_other facts None o q apart = refl
noted_other facts (Some r) None q apart = refl
noted_other facts (Some r) (Some c) q apart = with_other facts r c q (λ same. apart (ap Some (sym same)))

-- what no source writes has the fact that it had
untouched : (xs : List Source) (facts : Facts) (q : ℕ) → Each (λ r. q ≢ r) (written xs) → fold note facts xs q ≡ facts q
untouched [] facts q h = refl
untouched (x ∷ xs) facts q h = untouched xs (note facts x) q (tail x.writes_to h) ∙ noted_other facts x.writes_to (x.fact facts) q (λ e. head x.writes_to e h)
  where
    tail : (w : Option ℕ) → Each (λ r. q ≢ r) (cons_option w (written xs)) → Each (λ r. q ≢ r) (written xs)
    tail None h = h
    tail (Some r) h = h.1

    head : (w : Option ℕ) → w ≡ Some q → Each (λ r. q ≢ r) (cons_option w (written xs)) → ⊥
    head None e h = cc
    head (Some r) e h = let same : r ≡ q = cc in h.0 (sym same)

each_apart : (facts : Facts) (q : ℕ) (c : FlatOp) → facts q ≡ Some c → (rs : List ℕ) → Free facts rs → Each (λ r. q ≢ r) rs
each_apart facts q c e [] h = tt
each_apart facts q c e (r ∷ rs) h = (λ same. let both : Some c ≡ None = sym e ∙ ap facts same ∙ h.0 in absurd cc, each_apart facts q c e rs h.1)

free_next : (facts : Facts) (w : Option ℕ) (o : Option FlatOp) (rs : List ℕ) → Each (λ r. w ≡ Some r → ⊥) rs → Free facts rs → Free (noted facts w o) rs
free_next facts w o [] a h = tt
free_next facts w o (r ∷ rs) a h = (noted_other facts w o r a.0 ∙ h.0, free_next facts w o rs a.1 h.1)

not_some : (d : ℕ) (rs : List ℕ) → Each (λ r. d ≢ r) rs → Each (λ r. Some d ≡ Some r → ⊥) rs
not_some d [] h = tt
not_some d (r ∷ rs) h = (λ e. let same : d ≡ r = cc in h.0 same, not_some d rs h.1)

none_some : (rs : List ℕ) → Each (λ r. None ≡ Some r → ⊥) rs
none_some [] = tt
none_some (r ∷ rs) = (λ e. cc, none_some rs)

-- the fact of a source's register follows from all facts
pub each_follows : (xs : List Source) (facts : Facts) → Apart (written xs) → Free facts (written xs) → (x : Source) → Has xs x → (d : ℕ) → x.writes_to ≡ Some d → (c : FlatOp) → fold note facts xs d ≡ Some c → x.fact (fold note facts xs) ≡ Some c
each_follows [] facts once free x h d w c e = absurd h
each_follows (y ∷ ys) facts once free x (inr h) d w c e =
    let rest = split y.writes_to once free in
    each_follows ys (note facts y) rest.0 rest.1 x h d w c e
  where
    split : (u : Option ℕ) → Apart (cons_option u (written ys)) → Free facts (cons_option u (written ys)) → Apart (written ys) × Free (noted facts u (y.fact facts)) (written ys)
    split None once free = (once, free)
    split (Some r) once free = (once.1, free_next facts (Some r) (y.fact facts) (written ys) (not_some r (written ys) once.0) free.1)
each_follows (y ∷ ys) facts once free x (inl same) d w c e =
    let is : y.writes_to ≡ Some d = ap (λ (z : Source). z.writes_to) same ∙ w in
    let apart = subst (λ u. Apart (cons_option u (written ys))) is once in
    let frees = subst (λ u. Free facts (cons_option u (written ys))) is free in
    let left : note facts y d ≡ Some c = sym (untouched ys (note facts y) d apart.0) ∙ e in
    let fact = by_fact (y.fact facts) frees.0 (ap (λ u. noted facts u (y.fact facts) d) (sym is) ∙ left) in
    let more : Within facts (fold note facts (y ∷ ys)) = λ q k held. untouched (y ∷ ys) facts q (each_apart facts q k held (written (y ∷ ys)) free) ∙ held in
    subst (λ (z : Source). z.fact (fold note facts (y ∷ ys)) ≡ Some c) same (y.stays facts (fold note facts (y ∷ ys)) more c fact)
  where
    by_fact : (o : Option FlatOp) → facts d ≡ None → noted facts (Some d) o d ≡ Some c → o ≡ Some c
    by_fact None none e = absurd (let both : None ≡ Some c = sym none ∙ e in cc)
    by_fact (Some k) none e = sym (with_own facts d k) ∙ e

-- ---- a body's sweep

fold_joined : {S A : Type 0} (next : S → A → S) (s : S) (xs ys : List A) → fold next s (xs ++ ys) ≡ fold next (fold next s xs) ys
fold_joined next s [] ys = refl
fold_joined next s (x ∷ xs) ys = fold_joined next (next s x) xs ys

fold_mapped : {S A B : Type 0} (next : S → B → S) (f : A → B) (s : S) (xs : List A) → fold next s (map f xs) ≡ fold (λ t x. next t (f x)) s xs
fold_mapped next f s [] = refl
fold_mapped next f s (x ∷ xs) = fold_mapped next f (next s (f x)) xs

block_sweep : (facts : Facts) (k : FlatBlock) → fold note facts (sources k) ≡ block_noted facts k
block_sweep facts k =
    fold_joined note facts (map of_phi k.phis) (map of_instr k.code)
    ∙ ap (λ t. fold note t (map of_instr k.code)) (fold_mapped note of_phi facts k.phis)
    ∙ fold_mapped note of_instr (fold phi_noted facts k.phis) k.code

pub sweep : (ks : List FlatBlock) (facts : Facts) → fold note facts (flat_map sources ks) ≡ fold block_noted facts ks
sweep [] facts = refl
sweep (k ∷ ks) facts = fold_joined note facts (sources k) (flat_map sources ks) ∙ ap (λ t. fold note t (flat_map sources ks)) (block_sweep facts k) ∙ sweep ks (block_noted facts k)

written_joined : (xs ys : List Source) → written (xs ++ ys) ≡ written xs ++ written ys
written_joined [] ys = refl
written_joined (x ∷ xs) ys = by_first x.writes_to (written_joined xs ys)
  where
    by_first : (w : Option ℕ) → written (xs ++ ys) ≡ written xs ++ written ys → cons_option w (written (xs ++ ys)) ≡ cons_option w (written xs) ++ written ys
    by_first None e = e
    by_first (Some r) e = ap (λ rs. r ∷ rs) e

phis_written : (fs : List Phi) → written (map of_phi fs) ≡ map (λ (f : Phi). f.reg.0) fs
phis_written [] = refl
phis_written (f ∷ fs) = ap (λ rs. f.reg.0 ∷ rs) (phis_written fs)

code_written : (is : List FlatInstr) → written (map of_instr is) ≡ filter_map written_by is
code_written [] = refl
code_written (i ∷ is) = ap (cons_option (written_by i)) (code_written is)

pub all_written : (ks : List FlatBlock) → written (flat_map sources ks) ≡ flat_map writes ks
all_written [] = refl
all_written (k ∷ ks) =
    written_joined (sources k) (flat_map sources ks)
    ∙ ap₂ (λ xs ys. xs ++ ys) (written_joined (map of_phi k.phis) (map of_instr k.code) ∙ ap₂ (λ xs ys. xs ++ ys) (phis_written k.phis) (code_written k.code)) (all_written ks)

all_free : (rs : List ℕ) → Free no_facts rs
all_free [] = tt
all_free (r ∷ rs) = (refl, all_free rs)

-- each fact of all follows from all, and is of a register that is written
pub record Justified (facts : Facts) (body : FlatBody) : Type 0 where
  pub by_phi : (b : ℕ) (k : FlatBlock) (f : Phi) (c : FlatOp) → slice_get body.blocks b ≡ Some k → Has k.phis f → facts f.reg.0 ≡ Some c → entries_fact facts f.entries ≡ Some c
  pub by_code : (b n : ℕ) (k : FlatBlock) (i : FlatInstr) (d : ℕ) (c : FlatOp) → slice_get body.blocks b ≡ Some k → slice_get k.code n ≡ Some i → written_by i ≡ Some d → facts d ≡ Some c → instr_fact facts i ≡ Some c
  pub of_written : (q : ℕ) → Each (λ r. q ≢ r) (all_writes body) → facts q ≡ None

module _ (body : FlatBody) (once : Apart (all_writes body)) where
  every : List Source
  every = flat_map sources body.blocks

  same_sweep : fold note no_facts (flat_map sources body.blocks) ≡ all_facts body
  same_sweep = sweep body.blocks no_facts

  follows : (x : Source) → Has (flat_map sources body.blocks) x → (d : ℕ) → x.writes_to ≡ Some d → (c : FlatOp) → all_facts body d ≡ Some c → x.fact (all_facts body) ≡ Some c
  follows x h d w c e = subst (λ (t : Facts). t d ≡ Some c → x.fact t ≡ Some c) same_sweep
      (each_follows (flat_map sources body.blocks) no_facts (subst Apart (sym (all_written body.blocks)) once) (all_free _) x h d w c) e

  pub justified : Justified (all_facts body) body
  justified = record {
    by_phi = λ b k f c at' h e. follows (of_phi f) (has_part sources body.blocks k (of_phi f) (has_at body.blocks b k at') (has_left (map of_phi k.phis) (map of_instr k.code) (of_phi f) (has_mapped of_phi k.phis f h))) f.reg.0 refl c e;
    by_code = λ b n k i d c at' here w e. follows (of_instr i) (has_part sources body.blocks k (of_instr i) (has_at body.blocks b k at') (has_right (map of_phi k.phis) (map of_instr k.code) (of_instr i) (has_mapped of_instr k.code i (has_at k.code n i here)))) d w c e;
    of_written = λ q h. ap (λ (t : Facts). t q) (sym same_sweep) ∙ untouched (flat_map sources body.blocks) no_facts q (subst (Each (λ r. q ≢ r)) (sym (all_written body.blocks)) h);
  }
