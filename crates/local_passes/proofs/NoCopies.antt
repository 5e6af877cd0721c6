-- Code without copies of registers stays as it is.
use Rattle.std.proofs.Common.{◌≡◌, ℕ, zero, suc, Bool, true, false, not, ◌&&◌, ◌||◌, nat_eq, if◌then◌else◌, List, [], ◌∷◌, map, length, Option, Some, None, slice_get, refl, sym, ap, ap₂, ◌∙◌, arith}
use Rattle.std.specs.List.{list_any, AllByRecursion as Each}
use Rattle.std.proofs.lemmas.Bool.Decides.{nat_tests}
use Rattle.ir_core.specs.declared.flat.FlatOp.{FlatOp}
use Rattle.ir_core.specs.declared.flat.FlatOp.TheVariants.{Reg, Word, Null, Address, Poison}
use Rattle.ir_core.specs.declared.flat.Term.{Term}
use Rattle.ir_core.specs.declared.flat.Entry.{Entry}
use Rattle.ir_core.specs.declared.flat.Phi.{Phi}
use Rattle.ir_core.specs.declared.flat.FlatInstr.{FlatInstr}
use Rattle.ir_core.specs.declared.flat.FlatInstr.TheVariants.{Bin, Icmp, Select, Cast, Copy, Alloca, Load, Store, Gep, Call, Put, Get, Exit}
use Rattle.ir_core.specs.declared.flat.FlatEnd.{FlatEnd}
use Rattle.ir_core.specs.declared.flat.FlatEnd.TheVariants.{Ret, Br, Cond, Switch, Unreachable}
use Rattle.ir_core.specs.declared.flat.FlatBlock.{FlatBlock}
use Rattle.ir_core.specs.declared.flat.FlatBody.{FlatBody}
use Rattle.ir_core.specs.Formed.{written_by, used_by, used_at_end}
use Rattle.ir_core.proofs.Lists.{each_from}
use Rattle.const_fold.specs.Operands.{with_operands, end_with_operands}
use Rattle.const_fold.proofs.Unchanged.{map_same, map_same_at, none_passes, instr_same, end_same}
use Rattle.flow_fold.specs.Blocks.{by_number}
use Rattle.local_passes.specs.declared.copy_table.Span.{Span}
use Rattle.local_passes.specs.declared.copy_table.CopyTable.{CopyTable}
use Rattle.local_passes.specs.LocalCopies.{Sources, no_copies, source_given, with_write, past, source, from_source, entry_copied, phi_copied, instr_copied, code_copied, sources_from, end_sources, block_copied, all_ends, copies_replaced}
use Rattle.local_passes.specs.CopyTables.{definition, source_if, is_between, source_in, sources_in, sources_told, ends_told, phis_copied, IsTimed, copies_register, block_copies}
use Rattle.local_passes.proofs.CopySteps.{fresh}

-- ---- lists

number_same : {A : Type 0} (f : ℕ → A → A) → ((n : ℕ) (x : A) → f n x ≡ x) → (m : ℕ) (xs : List A) → by_number f m xs ≡ xs
number_same f same m [] = refl
number_same f same m (x ∷ xs) = ap₂ (λ y ys. y ∷ ys) (same m x) (number_same f same (suc m) xs)

-- ---- the same operands

same_operand : (o : FlatOp) → from_source no_copies o ≡ o
same_operand (Reg r) = refl
same_operand (Word a) = refl
same_operand Null = refl
same_operand (Address g k) = refl
same_operand Poison = refl

all_same : (os : List FlatOp) → Each (λ o. from_source no_copies o ≡ o) os
all_same os = each_from (λ o. from_source no_copies o ≡ o) os (λ o in_os. same_operand o)

abbrev no_ends_at : ℕ → Sources
no_ends_at b = no_copies

entry_same : (e : Entry) → entry_copied no_ends_at e ≡ e
entry_same e = ap (λ o. record e { value = o }) (same_operand e.value)

phi_same : (f : Phi) → phi_copied no_ends_at f ≡ f
phi_same f = ap (λ es. record f { entries = es }) (map_same (entry_copied no_ends_at) entry_same f.entries)

-- ---- no sources

given_same : (d : ℕ) (i : FlatInstr) → copies_register i ≡ false → source_given no_copies d i ≡ d
given_same d (Copy x (Reg y)) e = absurd (let none : true ≡ false = e in cc)
given_same d (Copy x (Word a)) e = refl
given_same d (Copy x Null) e = refl
given_same d (Copy x (Address g k)) e = refl
given_same d (Copy x Poison) e = refl
given_same d (Bin x op w a b) e = refl
given_same d (Icmp x c t a b) e = refl
given_same d (Select x c a b) e = refl
given_same d (Cast x c from to a) e = refl
given_same d (Alloca x size align) e = refl
given_same d (Load x t align a) e = refl
given_same d (Store t align v a) e = refl
given_same d (Gep x a k ts) e = refl
given_same d (Call x f args) e = refl
given_same d (Put x a) e = refl
given_same d (Get x) e = refl
given_same d (Exit a) e = refl

write_same : (i : FlatInstr) (w : Option ℕ) → copies_register i ≡ false → (r : ℕ) → with_write no_copies i w r ≡ r
write_same i None e r = refl
write_same i (Some d) e r = by_test (nat_eq r d) refl
  where
    inner : (t : Bool) → (if t then r else r) ≡ r
    inner true = refl
    inner false = refl

    by_test : (t : Bool) → nat_eq r d ≡ t → (if t then source_given no_copies d i else (if nat_eq r d then r else r)) ≡ r
    by_test true is = given_same d i e ∙ (let same : d ≡ r = grind (arith, nat_tests) in same)
    by_test false is = inner (nat_eq r d)

past_same : (o : Option FlatInstr) → ((i : FlatInstr) → o ≡ Some i → copies_register i ≡ false) → past no_copies o ≡ no_copies
past_same None none = refl
past_same (Some i) none = λ k r. write_same i (written_by i) (none i refl) r k

module _ (code : List FlatInstr) (none : list_any copies_register code ≡ false) where
  pub no_source : (n : ℕ) → source code n ≡ no_copies
  unfolding source
  no_source zero = refl
  no_source (suc n) = ap (λ s. past s (slice_get code n)) (no_source n) ∙ past_same (slice_get code n) (λ i at. none_passes copies_register code n i none at)

  pub code_same : code ≡ code_copied code
  code_same = sym (number_same (instr_copied code) (λ n i. ap (λ s. with_operands (from_source s) i) (no_source n) ∙ instr_same (from_source no_copies) i (all_same (used_by i))) 0 code)

  -- nothing is noted, and no register is a copy
  pub idle_sources : (t : CopyTable) → sources_in t t.time ≡ source code (length code)
  idle_sources t = fresh t.definitions.items t.time ∙ sym (no_source (length code))

-- ---- tables without definitions

module _ (t : CopyTable) (timed : IsTimed t) (zero_time : t.time ≡ 0) where
  nothing_defined : (q : ℕ) → (definition t.definitions.items q).time ≡ 0
  nothing_defined q = let le = timed.each q in omega (arith, le, zero_time)

  no_source_told : (start end r : ℕ) → source_in t.definitions.items start end r ≡ r
  no_source_told start end r =
      let d = definition t.definitions.items r in
      ap (λ n. source_if (is_between start end n && not (is_between n end (definition t.definitions.items d.source.0).time)) d.source.0 r) (nothing_defined r)
      ∙ ap (λ b. source_if b d.source.0 r) (out start end (not (is_between 0 end (definition t.definitions.items d.source.0).time)))
    where
      out : (s e : ℕ) (b : Bool) → (is_between s e 0 && b) ≡ false
      out s e b = grind (arith, nat_tests)

  no_ends : (spans : List Span) → ends_told t.definitions.items spans ≡ (λ b. no_copies)
  no_ends spans = λ i b. told (slice_get spans b) i
    where
      told : (o : Option Span) → sources_told t.definitions.items o ≡ no_copies
      told None = refl
      told (Some s) = λ i r. no_source_told s.start s.end r i

  pub phis_same : (spans : List Span) (blocks : List FlatBlock) → blocks ≡ map (phis_copied (ends_told t.definitions.items spans)) blocks
  phis_same spans blocks = sym (ap (λ e. map (phis_copied e) blocks) (no_ends spans) ∙ map_same (phis_copied no_ends_at) block_same blocks)
    where
      block_same : (k : FlatBlock) → phis_copied no_ends_at k ≡ k
      block_same k = ap (λ fs. record k { phis = fs }) (map_same (phi_copied no_ends_at) phi_same k.phis)

-- ---- bodies without copies

pub body_same : (b : FlatBody) → list_any block_copies b.blocks ≡ false → b ≡ copies_replaced b
unfolding copies_replaced
body_same b none = ap (λ (ks : List FlatBlock). record b { blocks = ks }) (sym (ap (λ e. map (block_copied e) b.blocks) ends ∙ map_same_at (block_copied no_ends_at) b.blocks block_same))
  where
    ends : all_ends b ≡ no_ends_at
    ends = λ i n. by_block n (slice_get b.blocks n) refl i
      where
        by_block : (n : ℕ) (o : Option FlatBlock) → slice_get b.blocks n ≡ o → sources_from o ≡ no_copies
        by_block n None at = refl
        by_block n (Some k) at = no_source k.code (none_passes block_copies b.blocks n k none at) (length k.code)

    block_same : (n : ℕ) (k : FlatBlock) → slice_get b.blocks n ≡ Some k → block_copied no_ends_at k ≡ k
    block_same n k at =
        let idle = none_passes block_copies b.blocks n k none at in
        ap (λ fs. record { phis = fs; code = code_copied k.code; end = end_with_operands (from_source (end_sources k)) k.end }) (map_same (phi_copied no_ends_at) phi_same k.phis)
        ∙ ap (λ is. record { phis = k.phis; code = is; end = end_with_operands (from_source (end_sources k)) k.end }) (sym (code_same k.code idle))
        ∙ ap (λ e. record { phis = k.phis; code = k.code; end = e }) (ap (λ s. end_with_operands (from_source s) k.end) (no_source k.code idle (length k.code)) ∙ end_same (from_source no_copies) k.end (all_same (used_at_end k.end)))
