-- A program follows itself once the branches of one function that can be decided are plain ones.
use Rattle.std.proofs.Common.{◌≡◌, ◌≢◌, ◌⊎◌, inl, inr, ⊎_elim, ℕ, Bool, true, false, not, ◌&&◌, nat_eq, nat_lt, if◌then◌else◌, List, [], ◌∷◌, Option, Some, None, slice_get, refl, sym, ap, ◌∙◌, subst, arith}
use Rattle.std.proofs.lemmas.Bool.Decides.{nat_tests}
use Rattle.oi_base.specs.declared.ids.BlockId.{BlockId}
use Rattle.oi_base.specs.declared.words.Width.{Width}
use Rattle.oi_base.specs.Words.{modulus}
use Rattle.oi_base.specs.Follows.{Stuck, Follows}
use Rattle.ir_core.specs.declared.flat.Case.{Case}
use Rattle.ir_core.specs.declared.flat.Entry.{Entry}
use Rattle.ir_core.specs.declared.flat.FlatOp.{FlatOp}
use Rattle.ir_core.specs.declared.flat.FlatOp.TheVariants.{Reg, Word, Null, Address, Poison}
use Rattle.ir_core.specs.declared.flat.FlatEnd.{FlatEnd}
use Rattle.ir_core.specs.declared.flat.FlatEnd.TheVariants.{Ret, Br, Cond, Switch, Unreachable}
use Rattle.ir_core.specs.declared.flat.FlatBlock.{FlatBlock}
use Rattle.ir_core.specs.declared.flat.FlatBody.{FlatBody}
use Rattle.ir_core.specs.Memory.{Value, Bits}
use Rattle.ir_core.specs.Rows.{Read, Is, IsPoison, IsOther, as_word}
use Rattle.ir_core.specs.Flat.{Program, Run, Regs, Effect, Sets, Allocates, Stores, Puts, Takes, Enters, Goes, Returns, Stops, NoMeaning, NoValue, value_of, using, word_in, end_effect, case_for, flat_run}
use Rattle.flow_fold.specs.Targets.{goes_to}
use Rattle.const_fold.specs.Operands.{word_of_op}
use Rattle.ir_simulation.specs.Replaced.{with_body}
use Rattle.flow_fold.specs.Blocks.{by_number}
use Rattle.flow_fold.specs.FoldBranches.{decided, cond_decided, switch_decided, leaves, still_comes, block_decided, branches_folded}
use Rattle.ir_simulation.proofs.Moved.{IsBad}
use Rattle.ir_simulation.proofs.Writes.{Ends, end_ends}
use Rattle.ir_simulation.proofs.Named.{EndsSo, SameBlocks, Keeps, same_blocks_follow}
use Rattle.ir_simulation.proofs.Reached.{Reached, reached_on, reached_not_stuck}
use Rattle.flow_fold.proofs.Listed.{numbered_at}
use Rattle.passes_meaning.proofs.Entries.{phis_stay}

word_is : (o : FlatOp) (a : ℕ) → word_of_op o ≡ Some a → o ≡ Word a
word_is (Word b) a e = ap Word cc
word_is (Reg r) a e = absurd cc
word_is Null a e = absurd cc
word_is (Address g k) a e = absurd cc
word_is Poison a e = absurd cc

-- the same effect, where the old one isn't bad
abbrev Same : Effect → Effect → Type 0
Same new old = (new ≡ old) ⊎ IsBad old

-- a branch with two equal targets
same_targets : (x : Read) (t f : ℕ) → t ≡ f → Same (Goes t) (word_in x (λ z. Goes (if nat_eq z 0 then f else t)))
same_targets (Is z) t f e = inl (by_test (nat_eq z 0))
  where
    by_test : (c : Bool) → Goes t ≡ Goes (if c then f else t)
    by_test true = ap Goes e
    by_test false = refl
same_targets IsPoison t f e = inr (inl refl)
same_targets IsOther t f e = inr (inr refl)

same_operand : (v : Option Value) (t f : ℕ) → t ≡ f → Same (Goes t) (using v (λ x. word_in (as_word 2 x) (λ z. Goes (if nat_eq z 0 then f else t))))
same_operand None t f e = inr (inr refl)
same_operand (Some v) t f e = same_targets (as_word 2 v) t f e

-- a word that is an operand, or none
read_word : (m z : ℕ) (go : ℕ → Effect) → Same (go z) (word_in (as_word m (Bits z)) go)
read_word m z go = by_test (nat_lt z m)
  where
    by_test : (t : Bool) → Same (go z) (word_in (if t then Is z else IsOther) go)
    by_test true = inl refl
    by_test false = inr (inr refl)

if_block : (c : Bool) (t f : BlockId) → Goes (if c then f else t).0 ≡ Goes (if c then f.0 else t.0)
if_block true t f = refl
if_block false t f = refl

cond_same : (regs : Regs) (c : FlatOp) (t f : BlockId) (o : Option ℕ) → word_of_op c ≡ o → Same (end_effect regs (cond_decided o c t f)) (end_effect regs (Cond c t f))
cond_same regs c t f (Some z) e = subst (λ (u : FlatOp). Same (end_effect regs (Br (if nat_eq z 0 then f else t))) (end_effect regs (Cond u t f))) (sym (word_is c z e))
    (subst (λ (u : Effect). Same u (end_effect regs (Cond (Word z) t f))) (sym (if_block (nat_eq z 0) t f)) (read_word 2 z (λ y. Goes (if nat_eq y 0 then f.0 else t.0))))
cond_same regs c t f None e = by_test (nat_eq t.0 f.0) refl
  where
    by_test : (k : Bool) → nat_eq t.0 f.0 ≡ k → Same (end_effect regs (if k then Br t else Cond c t f)) (end_effect regs (Cond c t f))
    by_test false k = inl refl
    by_test true k = same_operand (value_of regs c) t.0 f.0 (grind (arith, nat_tests))

default_read : (x : Read) (o : ℕ) → Same (Goes o) (word_in x (λ z. Goes o))
default_read (Is z) o = inl refl
default_read IsPoison o = inr (inl refl)
default_read IsOther o = inr (inr refl)

default_only : (w : Width) (v : Option Value) (o : ℕ) → Same (Goes o) (using v (λ x. word_in (as_word (modulus w) x) (λ z. Goes o)))
default_only w None o = inr (inr refl)
default_only w (Some v) o = default_read (as_word (modulus w) v) o

switch_same : (regs : Regs) (a : FlatOp) (w : Width) (cases : List Case) (other : BlockId) (o : Option ℕ) → word_of_op a ≡ o → Same (end_effect regs (switch_decided o a w cases other)) (end_effect regs (Switch a w cases other))
switch_same regs a w cases other (Some z) e =
    subst (λ (u : FlatOp). Same (end_effect regs (Br (case_for z cases other))) (end_effect regs (Switch u w cases other))) (sym (word_is a z e)) (read_word (modulus w) z (λ y. Goes (case_for y cases other).0))
switch_same regs a w [] other None e = default_only w (value_of regs a) other.0
switch_same regs a w (c ∷ cs) other None e = inl refl

decided_same : (regs : Regs) (e : FlatEnd) → Same (end_effect regs (decided e)) (end_effect regs e)
decided_same regs (Ret v) = inl refl
decided_same regs (Br b) = inl refl
decided_same regs (Cond c t f) = cond_same regs c t f (word_of_op c) refl
decided_same regs (Switch a w cases other) = switch_same regs a w cases other (word_of_op a) refl
decided_same regs Unreachable = inl refl

-- ---- phi entries

-- an edge along which control goes is still there
still_there : (old : FlatBody) (b c : ℕ) (k : FlatBlock) → slice_get old.blocks b ≡ Some k → goes_to c (decided k.end) ≡ true → (e : Entry) → e.from.0 ≡ b → still_comes old c e ≡ true
still_there old b c k found goes e from =
    ap (λ (n : ℕ). not (leaves c (slice_get old.blocks n))) from ∙ ap (λ (o : Option FlatBlock). not (leaves c o)) found
    ∙ ap (λ t. not (goes_to c k.end && not t)) goes ∙ not_false (goes_to c k.end)
  where
    not_false : (t : Bool) → not (t && false) ≡ true
    not_false true = refl
    not_false false = refl

goes_back : (regs : Regs) (e : FlatEnd) (c : ℕ) → end_effect regs e ≡ Goes c → goes_to c e ≡ true
goes_back regs e c is = subst (λ (x : Effect). Ends e x) is (end_ends regs e)

-- ---- the whole

module _ (p : Program) (f : ℕ) (old : FlatBody) where
  abbrev new : FlatBody
  new = record old { blocks = by_number (block_decided old) 0 old.blocks }

  abbrev Always : ℕ → ℕ → Regs → Type 0
  Always b n regs = Unit {0}

  block_at : (b : ℕ) (k : FlatBlock) → slice_get old.blocks b ≡ Some k → slice_get new.blocks b ≡ Some (block_decided old b k)
  block_at b k e = numbered_at (block_decided old) old.blocks b k e

  same_block : (b : ℕ) (k l : FlatBlock) → slice_get old.blocks b ≡ Some k → slice_get new.blocks b ≡ Some l → l ≡ block_decided old b k
  same_block b k l e g = let both : Some l ≡ Some (block_decided old b k) = sym g ∙ block_at b k e in cc

  always_kept : (r : Run) (e : Effect) → Keeps p f old new (λ b. b) Always r e
  always_kept r (Sets d v) = tt
  always_kept r (Allocates d size align) = λ v. tt
  always_kept r (Stores m) = tt
  always_kept r (Puts None b) = tt
  always_kept r (Puts (Some d) b) = λ v. tt
  always_kept r (Takes None) = tt
  always_kept r (Takes (Some d)) = λ v. tt
  always_kept r (Enters None g args) = tt
  always_kept r (Enters (Some d) g args) = λ v. tt
  always_kept r (Goes c) = tt
  always_kept r (Returns v) = tt
  always_kept r (Stops w) = tt
  always_kept r NoMeaning = tt
  always_kept r NoValue = tt

  bad_ends : (r : Run) (l : FlatBlock) (e : Effect) → IsBad e → EndsSo p f old new (λ b. b) Always r l e
  bad_ends r l e bad = ⊎_elim (λ is. subst (λ x. EndsSo p f old new (λ b. b) Always r l x) (sym is) tt) (λ is. subst (λ x. EndsSo p f old new (λ b. b) Always r l x) (sym is) tt) bad

  good_ends : (r : Run) (k : FlatBlock) → slice_get old.blocks r.top.block ≡ Some k → (e : Effect) → Ends k.end e → end_effect r.top.regs (decided k.end) ≡ e → EndsSo p f old new (λ b. b) Always r (block_decided old r.top.block k) e
  good_ends r k found (Goes c) a same = (
    same,
    λ l regs at' phis. (
      block_decided old c l,
      block_at c l at',
      phis_stay (still_comes old c) r.top.block (still_there old r.top.block c k found (goes_back r.top.regs (decided k.end) c same)) r.top.regs l.phis ∙ phis,
      tt,
    ),
  )
  good_ends r k found (Returns v) a same = same
  good_ends r k found NoMeaning a same = tt
  good_ends r k found NoValue a same = tt
  good_ends r k found (Sets d v) a same = absurd a
  good_ends r k found (Allocates d size align) a same = absurd a
  good_ends r k found (Stores m) a same = absurd a
  good_ends r k found (Puts d b) a same = absurd a
  good_ends r k found (Takes d) a same = absurd a
  good_ends r k found (Enters d g args) a same = absurd a
  good_ends r k found (Stops w) a same = absurd a

  module _ (is_old : p.body f ≡ Some old) (input : List ℕ) (never : (n : ℕ) → (flat_run p input n).status ≢ Stuck) where
    same_blocks : SameBlocks p f old new (λ b. b) Always (Reached p input)
    same_blocks = record {
      is_old = is_old;
      same_params = refl;
      fine_on = reached_on p input;
      not_stuck = reached_not_stuck p input never;
      entry = refl;
      starts = λ regs none. tt;
      blocks = λ b n regs k inv found. (block_decided old b k, block_at b k found);
      code = λ r fine going is inv k l found found_new i at'.
          inr (i, subst (λ (z : FlatBlock). slice_get z.code r.top.place ≡ Some i) (sym (same_block r.top.block k l found found_new)) at', refl, always_kept r _);
      ends = λ r fine going is inv k l found found_new past.
          subst (λ (z : FlatBlock). (slice_get z.code r.top.place ≡ None) × EndsSo p f old new (λ b. b) Always r z (end_effect r.top.regs k.end)) (sym (same_block r.top.block k l found found_new))
          (past, ⊎_elim (λ same. good_ends r k found (end_effect r.top.regs k.end) (end_ends r.top.regs k.end) same) (λ bad. bad_ends r (block_decided old r.top.block k) (end_effect r.top.regs k.end) bad) (decided_same r.top.regs k.end));
    }

    pub branches_follow : Follows (flat_run p input) (flat_run (with_body p f (branches_folded old)) input)
    unfolding branches_folded
    branches_follow = same_blocks_follow p f old new (λ b. b) Always (Reached p input) same_blocks input (0, refl)
