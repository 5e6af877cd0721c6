-- A program follows itself once the copies within the blocks of one function are replaced by what they copy.
use Rattle.std.proofs.Common.{◌≡◌, ◌≢◌, inr, ℕ, zero, suc, ⊎_elim, ◌+◌, ◌≤◌, Bool, true, false, nat_eq, if◌then◌else◌, List, [], ◌∷◌, map, length, Option, Some, None, slice_get, refl, sym, ap, ap₂, ◌∙◌, subst, arith}
use Rattle.std.proofs.lemmas.Bool.Decides.{nat_tests}
use Rattle.oi_base.specs.declared.ids.RegId.{RegId}
use Rattle.oi_base.specs.Follows.{Stuck, Follows}
use Rattle.ir_core.specs.declared.flat.FlatOp.{FlatOp}
use Rattle.ir_core.specs.declared.flat.FlatOp.TheVariants.{Reg, Word, Null, Address, Poison}
use Rattle.ir_core.specs.declared.flat.Entry.{Entry}
use Rattle.ir_core.specs.declared.flat.Phi.{Phi}
use Rattle.ir_core.specs.declared.flat.FlatInstr.{FlatInstr}
use Rattle.ir_core.specs.declared.flat.FlatInstr.TheVariants.{Bin, Icmp, Select, Cast, Copy, Alloca, Load, Store, Gep, Call, Put, Get, Exit}
use Rattle.ir_core.specs.declared.flat.FlatBlock.{FlatBlock}
use Rattle.ir_core.specs.declared.flat.FlatBody.{FlatBody}
use Rattle.ir_core.specs.Memory.{Value}
use Rattle.ir_core.specs.Flat.{Program, Run, Regs, Effect, Sets, Allocates, Stores, Puts, Takes, Enters, Goes, Returns, Stops, NoMeaning, NoValue, with_reg, value_of, using, entry_for, entry_value, with_phi, after_phis, effect, end_effect, flat_run}
use Rattle.ir_core.specs.Formed.{written_by, used_by, used_at_end}
use Rattle.std.proofs.lemmas.Option.{slice_get_within, slice_get_cases}
use Rattle.ir_simulation.specs.Replaced.{with_body}
use Rattle.flow_fold.specs.Blocks.{by_number}
use Rattle.local_passes.specs.LocalCopies.{Sources, operand_source, source_given, redefined, with_write, past, source, from_source, end_sources, sources_from, entry_copied, phi_copied, instr_copied, block_copied, all_ends, copies_replaced}
use Rattle.ir_simulation.proofs.Writes.{Writes, effect_writes, Ends, end_ends}
use Rattle.ir_simulation.proofs.Named.{EndsSo, SameBlocks, Keeps, same_blocks_follow}
use Rattle.ir_simulation.proofs.Reached.{Reached, reached_on, reached_not_stuck}
use Rattle.const_fold.proofs.Shapes.{mapped_at}
use Rattle.flow_fold.proofs.Listed.{numbered_at}
use Rattle.passes_meaning.proofs.Rewritten.{same_effect, same_end, each_same}

-- ---- the sources

-- each register holds what its source holds
abbrev pub Holds : Sources → Regs → Type 0
Holds s regs = (r : ℕ) → regs (s r) ≡ regs r

source_value : (s : Sources) (regs : Regs) → Holds s regs → (o : FlatOp) → value_of regs (from_source s o) ≡ value_of regs o
source_value s regs h (Reg r) = h r.0
source_value s regs h (Word a) = refl
source_value s regs h Null = refl
source_value s regs h (Address g k) = refl
source_value s regs h Poison = refl

-- a register has another value
module _ (s : Sources) (regs : Regs) (h : Holds s regs) (d : ℕ) (v : Value) where
  other : (q : ℕ) → nat_eq q d ≡ false → with_reg regs d v q ≡ regs q
  other q e = ap (λ (t : Bool). if t then Some v else regs q) e

  own : (q : ℕ) → nat_eq q d ≡ true → with_reg regs d v q ≡ Some v
  own q e = ap (λ (t : Bool). if t then Some v else regs q) e

  itself : with_reg regs d v d ≡ Some v
  itself = own d (grind (arith, nat_tests))

  -- its source holds this value too
  rewritten : (c : ℕ) → with_reg regs d v c ≡ Some v → Holds (redefined s d c) (with_reg regs d v)
  rewritten c value r = by_test (nat_eq r d) (nat_eq (s r) d) refl refl
    where
      by_test : (t u : Bool) → nat_eq r d ≡ t → nat_eq (s r) d ≡ u → with_reg regs d v (if t then c else (if u then r else s r)) ≡ with_reg regs d v r
      by_test true u is same = value ∙ sym (own r is)
      by_test false true is same = refl
      by_test false false is same = other (s r) same ∙ h r ∙ sym (other r is)

  copied_value : (a : FlatOp) → value_of regs a ≡ Some v → with_reg regs d v (operand_source s d a) ≡ Some v
  copied_value (Reg y) value = by_test (nat_eq (s y.0) d) refl
    where
      by_test : (t : Bool) → nat_eq (s y.0) d ≡ t → with_reg regs d v (s y.0) ≡ Some v
      by_test true is = own (s y.0) is
      by_test false is = other (s y.0) is ∙ h y.0 ∙ value
  copied_value (Word a) value = itself
  copied_value Null value = itself
  copied_value (Address g k) value = itself
  copied_value Poison value = itself

-- ---- the sources before and after an instruction

next_source : (code : List FlatInstr) (n : ℕ) (i : FlatInstr) → slice_get code n ≡ Some i → source code (n + 1) ≡ with_write (source code n) i (written_by i)
unfolding source
next_source code n i here = let e : n + 1 ≡ suc n = omega arith in ap (source code) e ∙ ap (past (source code n)) here

starts_plain : (code : List FlatInstr) (regs : Regs) → Holds (source code 0) regs
unfolding source
starts_plain code regs r = refl

numbered_past : {A B : Type 0} (f : ℕ → A → B) (n : ℕ) (xs : List A) (k : ℕ) → slice_get xs k ≡ None → slice_get (by_number f n xs) k ≡ None
numbered_past f n [] k e = refl
numbered_past f n (y ∷ ys) zero e = absurd cc
numbered_past f n (y ∷ ys) (suc k) e = numbered_past f (suc n) ys k e

-- ---- the whole

module _ (p : Program) (f : ℕ) (old : FlatBody) where
  abbrev new : FlatBody
  new = record old { blocks = map (block_copied (all_ends old)) old.blocks }

  abbrev Known : ℕ → ℕ → Regs → Type 0
  Known b n regs = (k : FlatBlock) → slice_get old.blocks b ≡ Some k → (n ≤ length k.code) × Holds (source k.code n) regs

  block_at : (b : ℕ) (k : FlatBlock) → slice_get old.blocks b ≡ Some k → slice_get new.blocks b ≡ Some (block_copied (all_ends old) k)
  block_at b k e = mapped_at (block_copied (all_ends old)) old.blocks b k e

  one_block : (b : ℕ) (k l : FlatBlock) → slice_get old.blocks b ≡ Some k → slice_get old.blocks b ≡ Some l → k ≡ l
  one_block b k l e g = let both : Some k ≡ Some l = sym e ∙ g in cc

  same_block : (b : ℕ) (k l : FlatBlock) → slice_get old.blocks b ≡ Some k → slice_get new.blocks b ≡ Some l → l ≡ block_copied (all_ends old) k
  same_block b k l e g = let both : Some l ≡ Some (block_copied (all_ends old) k) = sym g ∙ block_at b k e in cc

  -- ---- behind an instruction

  -- an instruction that is no copy
  abbrev Plain : FlatInstr → Type 0
  Plain (Copy d a) = ⊥
  Plain i = Unit {0}

  module _ (r : Run) (k : FlatBlock) (found : slice_get old.blocks r.top.block ≡ Some k) (known : Holds (source k.code r.top.place) r.top.regs) where
    abbrev sources : Sources
    sources = source k.code r.top.place

    next_known : (i : FlatInstr) → slice_get k.code r.top.place ≡ Some i → (regs : Regs) → Holds (with_write sources i (written_by i)) regs → Known r.top.block (r.top.place + 1) regs
    next_known i here regs h l at' =
        let lt = slice_get_within k.code r.top.place i here in
        subst (λ (z : FlatBlock). (r.top.place + 1 ≤ length z.code) × Holds (source z.code (r.top.place + 1)) regs) (one_block r.top.block k l found at') (
          omega (arith, lt),
          subst (λ (s : Sources). Holds s regs) (sym (next_source k.code r.top.place i here)) h,
        )

    plain_source : (i : FlatInstr) → Plain i → (d : ℕ) → source_given sources d i ≡ d
    plain_source (Bin x op w a b) h d = refl
    plain_source (Icmp x c s a b) h d = refl
    plain_source (Select x c a b) h d = refl
    plain_source (Cast x c from to a) h d = refl
    plain_source (Copy x a) h d = absurd h
    plain_source (Alloca x size align) h d = refl
    plain_source (Load x s align a) h d = refl
    plain_source (Store s align v a) h d = refl
    plain_source (Gep x a j ts) h d = refl
    plain_source (Call x g args) h d = refl
    plain_source (Put x a) h d = refl
    plain_source (Get x) h d = refl
    plain_source (Exit a) h d = refl

    set_holds : (i : FlatInstr) → Plain i → (d : ℕ) (v : Value) → written_by i ≡ Some d → Holds (with_write sources i (written_by i)) (with_reg r.top.regs d v)
    set_holds i plain d v w = subst (λ (o : Option ℕ). Holds (with_write sources i o) (with_reg r.top.regs d v)) (sym w)
        (rewritten sources r.top.regs known d v (source_given sources d i) (ap (with_reg r.top.regs d v) (plain_source i plain d) ∙ itself sources r.top.regs known d v))

    none_holds : (i : FlatInstr) → Plain i → written_by i ≡ None → Holds (with_write sources i (written_by i)) r.top.regs
    none_holds i plain w = subst (λ (o : Option ℕ). Holds (with_write sources i o) r.top.regs) (sym w) known

    abbrev Keeps_it : Effect → Type 0
    Keeps_it e = Keeps p f old new (λ b. b) Known r e

    plain_keeps : (i : FlatInstr) → Plain i → slice_get k.code r.top.place ≡ Some i → (e : Effect) → Writes (written_by i) e → Keeps_it e
    plain_keeps i plain here (Sets d v) w = next_known i here _ (set_holds i plain d.0 v w)
    plain_keeps i plain here (Allocates d size align) w = λ v. next_known i here _ (set_holds i plain d.0 v w)
    plain_keeps i plain here (Stores m) w = next_known i here _ (none_holds i plain w)
    plain_keeps i plain here (Puts None b) w = next_known i here _ (none_holds i plain w)
    plain_keeps i plain here (Puts (Some d) b) w = λ v. next_known i here _ (set_holds i plain d.0 v w)
    plain_keeps i plain here (Takes None) w = next_known i here _ (none_holds i plain w)
    plain_keeps i plain here (Takes (Some d)) w = λ v. next_known i here _ (set_holds i plain d.0 v w)
    plain_keeps i plain here (Enters None g args) w = next_known i here _ (none_holds i plain w)
    plain_keeps i plain here (Enters (Some d) g args) w = λ v. next_known i here _ (set_holds i plain d.0 v w)
    plain_keeps i plain here (Goes c) w = absurd w
    plain_keeps i plain here (Returns v) w = absurd w
    plain_keeps i plain here (Stops x) w = tt
    plain_keeps i plain here NoMeaning w = tt
    plain_keeps i plain here NoValue w = tt

    copy_keeps : (d : RegId) (a : FlatOp) → slice_get k.code r.top.place ≡ Some (Copy d a) → (o : Option Value) → value_of r.top.regs a ≡ o → Keeps_it (using o (λ x. Sets d x))
    copy_keeps d a here None value = tt
    copy_keeps d a here (Some v) value =
        next_known (Copy d a) here _ (rewritten sources r.top.regs known d.0 v (operand_source sources d.0 a) (copied_value sources r.top.regs known d.0 v a value))

    plainly : (i : FlatInstr) → Plain i → slice_get k.code r.top.place ≡ Some i → Keeps_it (effect r.top.regs r.memory i)
    plainly i plain here = plain_keeps i plain here (effect r.top.regs r.memory i) (effect_writes r.top.regs r.memory i)

    all_keep : (i : FlatInstr) → slice_get k.code r.top.place ≡ Some i → Keeps_it (effect r.top.regs r.memory i)
    all_keep (Copy d a) here = copy_keeps d a here (value_of r.top.regs a) refl
    all_keep (Bin d op w a b) here = plainly (Bin d op w a b) tt here
    all_keep (Icmp d c s a b) here = plainly (Icmp d c s a b) tt here
    all_keep (Select d c a b) here = plainly (Select d c a b) tt here
    all_keep (Cast d c from to a) here = plainly (Cast d c from to a) tt here
    all_keep (Alloca d size align) here = plainly (Alloca d size align) tt here
    all_keep (Load d s align a) here = plainly (Load d s align a) tt here
    all_keep (Store s align v a) here = plainly (Store s align v a) tt here
    all_keep (Gep d a j ts) here = plainly (Gep d a j ts) tt here
    all_keep (Call d g args) here = plainly (Call d g args) tt here
    all_keep (Put d a) here = plainly (Put d a) tt here
    all_keep (Get d) here = plainly (Get d) tt here
    all_keep (Exit a) here = plainly (Exit a) tt here

    -- ---- at the end of the block

    module _ (few : r.top.place ≤ length k.code) (over : slice_get k.code r.top.place ≡ None) where
      at_end : Holds (end_sources k) r.top.regs
      at_end =
          let long : length k.code ≤ r.top.place = ⊎_elim (λ x. absurd (let both : Some x.0 ≡ None = sym x.2 ∙ over in cc)) (λ x. x.0) (slice_get_cases k.code r.top.place).1 in
          let same : r.top.place ≡ length k.code = omega (arith, few, long) in
          subst (λ n. Holds (source k.code n) r.top.regs) same known

      from_here : Holds (all_ends old r.top.block) r.top.regs
      from_here = subst (λ (o : Option FlatBlock). Holds (sources_from o) r.top.regs) (sym found) at_end

      entry_same : (es : List Entry) → entry_value r.top.regs (entry_for r.top.block (map (entry_copied (all_ends old)) es)) ≡ entry_value r.top.regs (entry_for r.top.block es)
      entry_same [] = refl
      entry_same (e ∷ es) = by_test (nat_eq e.from.0 r.top.block) refl (entry_same es)
        where
          by_test : (t : Bool) → nat_eq e.from.0 r.top.block ≡ t → entry_value r.top.regs (entry_for r.top.block (map (entry_copied (all_ends old)) es)) ≡ entry_value r.top.regs (entry_for r.top.block es)
              → entry_value r.top.regs (if t then Some (from_source (all_ends old e.from.0) e.value) else entry_for r.top.block (map (entry_copied (all_ends old)) es)) ≡ entry_value r.top.regs (if t then Some e.value else entry_for r.top.block es)
          by_test true is rest =
              let same : e.from.0 ≡ r.top.block = grind (arith, nat_tests) in
              ap (λ n. value_of r.top.regs (from_source (all_ends old n) e.value)) same ∙ source_value (all_ends old r.top.block) r.top.regs from_here e.value
          by_test false is rest = rest

      phis_same : (fs : List Phi) → after_phis r.top.regs r.top.block (map (phi_copied (all_ends old)) fs) ≡ after_phis r.top.regs r.top.block fs
      phis_same [] = refl
      phis_same (g ∷ gs) = ap₂ (with_phi g.reg.0) (entry_same g.entries) (phis_same gs)

      ends_so : (e : Effect) → Ends k.end e → end_effect r.top.regs (block_copied (all_ends old) k).end ≡ e → EndsSo p f old new (λ b. b) Known r (block_copied (all_ends old) k) e
      ends_so (Goes c) a same = (same, λ l regs at' phis. (block_copied (all_ends old) l, block_at c l at', phis_same l.phis ∙ phis, λ z found_z. (omega arith, starts_plain z.code regs)))
      ends_so (Returns v) a same = same
      ends_so NoMeaning a same = tt
      ends_so NoValue a same = tt
      ends_so (Sets d v) a same = absurd a
      ends_so (Allocates d size align) a same = absurd a
      ends_so (Stores m) a same = absurd a
      ends_so (Puts d b) a same = absurd a
      ends_so (Takes d) a same = absurd a
      ends_so (Enters d g args) a same = absurd a
      ends_so (Stops w) a same = absurd a

  module _ (is_old : p.body f ≡ Some old) (input : List ℕ) (never : (n : ℕ) → (flat_run p input n).status ≢ Stuck) where
    same_blocks : SameBlocks p f old new (λ b. b) Known (Reached p input)
    same_blocks = record {
      is_old = is_old;
      same_params = refl;
      fine_on = reached_on p input;
      not_stuck = reached_not_stuck p input never;
      entry = refl;
      starts = λ regs none k found. (omega arith, starts_plain k.code regs);
      blocks = λ b n regs k inv found. (block_copied (all_ends old) k, block_at b k found);
      code = λ r fine going is known k l found found_new i here.
          let now = (known k found).1 in
          let s = source k.code r.top.place in
          inr (
            instr_copied k.code r.top.place i,
            subst (λ (z : FlatBlock). slice_get z.code r.top.place ≡ Some (instr_copied k.code r.top.place i)) (sym (same_block r.top.block k l found found_new)) (numbered_at (instr_copied k.code) k.code r.top.place i here),
            same_effect r.top.regs (from_source s) r.memory i (each_same _ (source_value s r.top.regs now) (used_by i)),
            all_keep r k found now i here,
          );
      ends = λ r fine going is known k l found found_new over.
          let few = (known k found).0 in
          let now = (known k found).1 in
          subst (λ (z : FlatBlock). (slice_get z.code r.top.place ≡ None) × EndsSo p f old new (λ b. b) Known r z (end_effect r.top.regs k.end)) (sym (same_block r.top.block k l found found_new))
          (numbered_past (instr_copied k.code) 0 k.code r.top.place over, ends_so r k found now few over (end_effect r.top.regs k.end) (end_ends r.top.regs k.end) (same_end r.top.regs (from_source (end_sources k)) k.end (each_same _ (source_value (end_sources k) r.top.regs (at_end r k found now few over)) (used_at_end k.end))));
    }

    pub copies_follow : Follows (flat_run p input) (flat_run (with_body p f (copies_replaced old)) input)
    unfolding copies_replaced
    copies_follow = same_blocks_follow p f old new (λ b. b) Known (Reached p input) same_blocks input (0, refl)
