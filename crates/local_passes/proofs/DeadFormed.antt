-- A formed body without its dead code is formed.
use Rattle.std.proofs.Common.{◌≡◌, ◌⊎◌, inl, inr, ⊎_elim, ℕ, ◌<◌, ◌≤◌, Bool, true, false, nat_eq, if◌then◌else◌, List, [], ◌∷◌, ◌++◌, map, length, Option, Some, None, slice_get, Contains, refl, sym, ap, ◌∙◌, subst, arith}
use Rattle.std.specs.List.{flat_map, filter, filter_map}
use Rattle.std.proofs.lemmas.Bool.Decides.{nat_tests}
use Rattle.std.proofs.lemmas.List.Elements.{All-contains}
use Rattle.oi_base.specs.declared.ids.RegId.{RegId}
use Rattle.ir_core.specs.declared.flat.Scalar.{Scalar}
use Rattle.ir_core.specs.declared.flat.FlatOp.{FlatOp}
use Rattle.ir_core.specs.declared.flat.FlatOp.TheVariants.{Reg, Word, Null, Address, Poison}
use Rattle.ir_core.specs.declared.flat.Entry.{Entry}
use Rattle.ir_core.specs.declared.flat.Phi.{Phi}
use Rattle.ir_core.specs.declared.flat.FlatInstr.{FlatInstr}
use Rattle.ir_core.specs.declared.flat.FlatInstr.TheVariants.{Bin, Icmp, Select, Cast, Copy, Alloca, Load, Store, Gep, Call, Put, Get, Exit}
use Rattle.ir_core.specs.declared.flat.FlatBlock.{FlatBlock}
use Rattle.ir_core.specs.declared.flat.FlatBody.{FlatBody}
use Rattle.ir_core.specs.Formed.{FuncType, IsTyped, Receives, IsBlock, IsEdge, IsPath, IsWritten, ComesIn, DefinedFirst, ComesFirst, IsPhi, IsFormedBody, IsEndTyped, IsParamOrWritten, of_result, written_by, used_by, used_at_end, targets, writes, all_writes, uses, all_uses}
use Rattle.ir_core.specs.WellFormed.{IsWellFormed}
use Rattle.ir_core.proofs.Lists.{Has, at_has, contains, has_in, has_at, has_left, has_right, has_mapped, has_part, has_made, has_source, map_source}
use Rattle.ir_safety.proofs.Elements.{split, in_part}
use Rattle.const_fold.proofs.Shapes as shapes
use Rattle.flow_fold.proofs.DroppedFormed.{pairs_apart, apart_pairs}
use Rattle.local_passes.specs.DropDead.{values, used_by_act, acts_in, all_acts, if_same, used_in, used_for, is_needed, result_kept, kept_if, instr_kept, block_kept, only_registers, dead_dropped}
use Rattle.local_passes.proofs.Needing.{by_act, by_use, written_within, of_phi, of_instr, of_end}
use Rattle.local_passes.proofs.Sublists.{each_all, Sub, sub_has, sub_apart, sub_joined, sub_filter, sub_made, sub_parts, filter_has, filter_from, count, made_from, made_at, made_before, count_all}

-- ---- one instruction

kept_is : (t : Bool) (i j : FlatInstr) → kept_if t i ≡ Some j → (t ≡ true) × (i ≡ j)
kept_is true i j e = let same : i ≡ j = cc in (refl, same)
kept_is false i j e = absurd cc

module _ (keep : ℕ → Bool) where
  -- it uses what it used
  pub used_same : (i j : FlatInstr) → instr_kept keep i ≡ Some j → used_by j ≡ used_by i
  used_same (Bin d op w a b) j e = ap used_by (sym (kept_is (keep d.0) (Bin d op w a b) j e).1)
  used_same (Icmp d c s a b) j e = ap used_by (sym (kept_is (keep d.0) (Icmp d c s a b) j e).1)
  used_same (Select d c a b) j e = ap used_by (sym (kept_is (keep d.0) (Select d c a b) j e).1)
  used_same (Cast d c from to a) j e = ap used_by (sym (kept_is (keep d.0) (Cast d c from to a) j e).1)
  used_same (Copy d a) j e = ap used_by (sym (kept_is (keep d.0) (Copy d a) j e).1)
  used_same (Alloca d size align) j e = ap used_by (sym (kept_is (keep d.0) (Alloca d size align) j e).1)
  used_same (Load d s align a) j e = ap used_by (sym (kept_is (keep d.0) (Load d s align a) j e).1)
  used_same (Gep d a k ts) j e = ap used_by (sym (kept_is (keep d.0) (Gep d a k ts) j e).1)
  used_same (Store s align v a) j e = let same : j ≡ Store s align v a = cc in ap used_by same
  used_same (Call d f args) j e = let same : j ≡ Call (result_kept keep d) f args = cc in ap used_by same
  used_same (Put d a) j e = let same : j ≡ Put (result_kept keep d) a = cc in ap used_by same
  used_same (Get d) j e = let same : j ≡ Get (result_kept keep d) = cc in ap used_by same
  used_same (Exit a) j e = let same : j ≡ Exit a = cc in ap used_by same

  -- it acts, or its result is left
  pub why_kept : (i j : FlatInstr) → instr_kept keep i ≡ Some j → (used_by_act i ≡ used_by i) ⊎ ((d : ℕ) × (written_by i ≡ Some d) × (keep d ≡ true))
  why_kept (Bin d op w a b) j e = inr (d.0, refl, (kept_is (keep d.0) (Bin d op w a b) j e).0)
  why_kept (Icmp d c s a b) j e = inr (d.0, refl, (kept_is (keep d.0) (Icmp d c s a b) j e).0)
  why_kept (Select d c a b) j e = inr (d.0, refl, (kept_is (keep d.0) (Select d c a b) j e).0)
  why_kept (Cast d c from to a) j e = inr (d.0, refl, (kept_is (keep d.0) (Cast d c from to a) j e).0)
  why_kept (Copy d a) j e = inr (d.0, refl, (kept_is (keep d.0) (Copy d a) j e).0)
  why_kept (Alloca d size align) j e = inl refl
  why_kept (Load d s align a) j e = inr (d.0, refl, (kept_is (keep d.0) (Load d s align a) j e).0)
  why_kept (Gep d a k ts) j e = inr (d.0, refl, (kept_is (keep d.0) (Gep d a k ts) j e).0)
  why_kept (Store s align v a) j e = inl refl
  why_kept (Call d f args) j e = inl refl
  why_kept (Put d a) j e = inl refl
  why_kept (Get d) j e = inl refl
  why_kept (Exit a) j e = inl refl

  result_same : (d : Option RegId) → (of_result (result_kept keep d) ≡ None) ⊎ (of_result (result_kept keep d) ≡ of_result d)
  result_same None = inl refl
  result_same (Some x) = by_test (keep x.0)
    where
      by_test : (t : Bool) → (of_result (if t then Some x else None) ≡ None) ⊎ (of_result (if t then Some x else None) ≡ Some x.0)
      by_test true = inr refl
      by_test false = inl refl

  -- it writes what it wrote, or nothing
  pub writes_same : (i j : FlatInstr) → instr_kept keep i ≡ Some j → (written_by j ≡ None) ⊎ (written_by j ≡ written_by i)
  writes_same (Bin d op w a b) j e = inr (ap written_by (sym (kept_is (keep d.0) (Bin d op w a b) j e).1))
  writes_same (Icmp d c s a b) j e = inr (ap written_by (sym (kept_is (keep d.0) (Icmp d c s a b) j e).1))
  writes_same (Select d c a b) j e = inr (ap written_by (sym (kept_is (keep d.0) (Select d c a b) j e).1))
  writes_same (Cast d c from to a) j e = inr (ap written_by (sym (kept_is (keep d.0) (Cast d c from to a) j e).1))
  writes_same (Copy d a) j e = inr (ap written_by (sym (kept_is (keep d.0) (Copy d a) j e).1))
  writes_same (Alloca d size align) j e = inr (ap written_by (sym (kept_is (keep d.0) (Alloca d size align) j e).1))
  writes_same (Load d s align a) j e = inr (ap written_by (sym (kept_is (keep d.0) (Load d s align a) j e).1))
  writes_same (Gep d a k ts) j e = inr (ap written_by (sym (kept_is (keep d.0) (Gep d a k ts) j e).1))
  writes_same (Store s align v a) j e = let same : j ≡ Store s align v a = cc in inr (ap written_by same)
  writes_same (Call d f args) j e = let same : j ≡ Call (result_kept keep d) f args = cc in ⊎_elim (λ g. inl (ap written_by same ∙ g)) (λ g. inr (ap written_by same ∙ g)) (result_same d)
  writes_same (Put d a) j e = let same : j ≡ Put (result_kept keep d) a = cc in ⊎_elim (λ g. inl (ap written_by same ∙ g)) (λ g. inr (ap written_by same ∙ g)) (result_same d)
  writes_same (Get d) j e = let same : j ≡ Get (result_kept keep d) = cc in ⊎_elim (λ g. inl (ap written_by same ∙ g)) (λ g. inr (ap written_by same ∙ g)) (result_same d)
  writes_same (Exit a) j e = let same : j ≡ Exit a = cc in inr (ap written_by same)

  -- what writes a register that is left is left, and writes it
  abbrev Writes : FlatInstr → ℕ → Type 0
  Writes i r = (j : FlatInstr) × (instr_kept keep i ≡ Some j) × (written_by j ≡ Some r)

  if_left : (d : RegId) (r : ℕ) → Some d.0 ≡ Some r → keep r ≡ true → keep d.0 ≡ true
  if_left d r e k = let same : d.0 ≡ r = cc in ap keep same ∙ k

  result_left : (d : Option RegId) (r : ℕ) → of_result d ≡ Some r → keep r ≡ true → of_result (result_kept keep d) ≡ Some r
  result_left None r e k = absurd cc
  result_left (Some x) r e k = ap (λ t. of_result (if t then Some x else None)) (if_left x r e k) ∙ e

  pub writer_left : (i : FlatInstr) (r : ℕ) → written_by i ≡ Some r → keep r ≡ true → Writes i r
  writer_left (Bin d op w a b) r e k = (Bin d op w a b, ap (λ t. kept_if t (Bin d op w a b)) (if_left d r e k), e)
  writer_left (Icmp d c s a b) r e k = (Icmp d c s a b, ap (λ t. kept_if t (Icmp d c s a b)) (if_left d r e k), e)
  writer_left (Select d c a b) r e k = (Select d c a b, ap (λ t. kept_if t (Select d c a b)) (if_left d r e k), e)
  writer_left (Cast d c from to a) r e k = (Cast d c from to a, ap (λ t. kept_if t (Cast d c from to a)) (if_left d r e k), e)
  writer_left (Copy d a) r e k = (Copy d a, ap (λ t. kept_if t (Copy d a)) (if_left d r e k), e)
  writer_left (Alloca d size align) r e k = (Alloca d size align, ap (λ t. kept_if t (Alloca d size align)) (if_left d r e k), e)
  writer_left (Load d s align a) r e k = (Load d s align a, ap (λ t. kept_if t (Load d s align a)) (if_left d r e k), e)
  writer_left (Gep d a n ts) r e k = (Gep d a n ts, ap (λ t. kept_if t (Gep d a n ts)) (if_left d r e k), e)
  writer_left (Store s align v a) r e k = absurd cc
  writer_left (Call d f args) r e k = (Call (result_kept keep d) f args, refl, result_left d r e k)
  writer_left (Put d a) r e k = (Put (result_kept keep d) a, refl, result_left d r e k)
  writer_left (Get d) r e k = (Get (result_kept keep d), refl, result_left d r e k)
  writer_left (Exit a) r e k = absurd cc

  receives : (types : ℕ → Scalar) (d : Option RegId) (s : Option Scalar) → Receives types d s → Receives types (result_kept keep d) s
  receives types None s h = h
  receives types (Some x) s h = by_test (keep x.0)
    where
      by_test : (t : Bool) → Receives types (if t then Some x else None) s
      by_test true = h
      by_test false = tt

  pub typed_left : (types : ℕ → Scalar) (funcs : ℕ → FuncType) (i j : FlatInstr) → instr_kept keep i ≡ Some j → IsTyped types funcs i → IsTyped types funcs j
  typed_left types funcs (Bin d op w a b) j e h = subst (IsTyped types funcs) (kept_is (keep d.0) (Bin d op w a b) j e).1 h
  typed_left types funcs (Icmp d c s a b) j e h = subst (IsTyped types funcs) (kept_is (keep d.0) (Icmp d c s a b) j e).1 h
  typed_left types funcs (Select d c a b) j e h = subst (IsTyped types funcs) (kept_is (keep d.0) (Select d c a b) j e).1 h
  typed_left types funcs (Cast d c from to a) j e h = subst (IsTyped types funcs) (kept_is (keep d.0) (Cast d c from to a) j e).1 h
  typed_left types funcs (Copy d a) j e h = subst (IsTyped types funcs) (kept_is (keep d.0) (Copy d a) j e).1 h
  typed_left types funcs (Alloca d size align) j e h = subst (IsTyped types funcs) (kept_is (keep d.0) (Alloca d size align) j e).1 h
  typed_left types funcs (Load d s align a) j e h = subst (IsTyped types funcs) (kept_is (keep d.0) (Load d s align a) j e).1 h
  typed_left types funcs (Gep d a k ts) j e h = subst (IsTyped types funcs) (kept_is (keep d.0) (Gep d a k ts) j e).1 h
  typed_left types funcs (Store s align v a) j e h = let same : Store s align v a ≡ j = cc in subst (IsTyped types funcs) same h
  typed_left types funcs (Call d f args) j e h = let same : Call (result_kept keep d) f args ≡ j = cc in subst (IsTyped types funcs) same (h.0, h.1, receives types d (funcs f.0).result h.2)
  typed_left types funcs (Put d a) j e h = let same : Put (result_kept keep d) a ≡ j = cc in subst (IsTyped types funcs) same (h.0, receives types d _ h.1)
  typed_left types funcs (Get d) j e h = let same : Get (result_kept keep d) ≡ j = cc in subst (IsTyped types funcs) same (receives types d _ h)
  typed_left types funcs (Exit a) j e h = let same : Exit a ≡ j = cc in subst (IsTyped types funcs) same h

-- ---- a body

own_has : (d : ℕ) (os : List FlatOp) (o : FlatOp) → Has os o → Has (if_same d (Some d) os) o
own_has d os o h = by_test (nat_eq d d) refl
  where
    by_test : (t : Bool) → nat_eq d d ≡ t → Has (if t then os else []) o
    by_test true e = h
    by_test false e = absurd (grind (arith, nat_tests))

module _ (types : ℕ → Scalar) (funcs : ℕ → FuncType) (own : FuncType) (old : FlatBody) (h : IsFormedBody types funcs own old) where
  abbrev keep : ℕ → Bool
  keep = is_needed old

  abbrev left : FlatBlock → FlatBlock
  left k = block_kept keep k

  abbrev new : FlatBody
  new = only_registers keep old

  well : IsWellFormed old
  well = record { types = types; funcs = funcs; own = own; formed = h }

  module _ (b : ℕ) (k : FlatBlock) (is : IsBlock old b k) where
    here : Has old.blocks k
    here = has_at old.blocks b k is

    written_in : (r : ℕ) → Has (writes k) r → r < old.regs
    written_in r w = written_within old well r (contains (all_writes old) r (has_part writes old.blocks k r here w))

    -- what the definition of a needed register uses is needed
    by_definition : (d r : ℕ) → Has (writes k) d → keep d ≡ true → Has (used_in d k) (Reg (record { 0 = r })) → keep r ≡ true
    by_definition d r w e g = by_use old d r (written_in d w) e (contains (used_for old d) (Reg (record { 0 = r })) (has_part (used_in d) old.blocks k (Reg (record { 0 = r })) here g))

    pub phi_needs : (f : Phi) (r : ℕ) → Has k.phis f → keep f.reg.0 ≡ true → Has (values f) (Reg (record { 0 = r })) → keep r ≡ true
    phi_needs f r in_it e g =
        by_definition f.reg.0 r (has_left (map (λ (f : Phi). f.reg.0) k.phis) (filter_map written_by k.code) f.reg.0 (has_mapped (λ (f : Phi). f.reg.0) k.phis f in_it)) e
        (has_left (flat_map (λ (x : Phi). if_same f.reg.0 (Some x.reg.0) (values x)) k.phis) (flat_map (λ (i : FlatInstr). if_same f.reg.0 (written_by i) (used_by i)) k.code) (Reg (record { 0 = r }))
        (has_part (λ (x : Phi). if_same f.reg.0 (Some x.reg.0) (values x)) k.phis f (Reg (record { 0 = r })) in_it (own_has f.reg.0 (values f) (Reg (record { 0 = r })) g)))

    act_needs : (r : ℕ) → Has (acts_in k) (Reg (record { 0 = r })) → keep r ≡ true
    act_needs r g = by_act old r (contains (all_acts old) (Reg (record { 0 = r })) (has_part acts_in old.blocks k (Reg (record { 0 = r })) here g))

    pub instr_needs : (i j : FlatInstr) (r : ℕ) → Has k.code i → instr_kept keep i ≡ Some j → Has (used_by i) (Reg (record { 0 = r })) → keep r ≡ true
    instr_needs i j r in_it e g = ⊎_elim
        (λ acts. act_needs r (has_left (flat_map used_by_act k.code) (used_at_end k.end) (Reg (record { 0 = r })) (has_part used_by_act k.code i (Reg (record { 0 = r })) in_it (subst (λ os. Has os (Reg (record { 0 = r }))) (sym acts) g))))
        (λ d. by_definition d.0 r
        (has_right (map (λ (f : Phi). f.reg.0) k.phis) (filter_map written_by k.code) d.0 (has_made written_by k.code i d.0 in_it d.1)) d.2
        (has_right (flat_map (λ (x : Phi). if_same d.0 (Some x.reg.0) (values x)) k.phis) (flat_map (λ (y : FlatInstr). if_same d.0 (written_by y) (used_by y)) k.code) (Reg (record { 0 = r }))
        (has_part (λ (y : FlatInstr). if_same d.0 (written_by y) (used_by y)) k.code i (Reg (record { 0 = r })) in_it (subst (λ w. Has (if_same d.0 w (used_by i)) (Reg (record { 0 = r }))) (sym d.1) (own_has d.0 (used_by i) (Reg (record { 0 = r })) g)))))
        (why_kept keep i j e)

    pub end_needs : (r : ℕ) → Has (used_at_end k.end) (Reg (record { 0 = r })) → keep r ≡ true
    end_needs r g = act_needs r (has_right (flat_map used_by_act k.code) (used_at_end k.end) (Reg (record { 0 = r })) g)

  -- ---- paths

  from_old : (b : ℕ) (l : FlatBlock) → IsBlock new b l → (k : FlatBlock) × IsBlock old b k × (l ≡ left k)
  from_old b l e = let r = shapes.made_at left old.blocks b l e in (r.0, r.1, sym r.2)

  edge_back : (a b : ℕ) → IsEdge new a b → IsEdge old a b
  edge_back a b e = let k = from_old a e.0 e.1 in (k.0, k.1, subst (λ (l : FlatBlock). Contains (targets l.end) b) k.2 e.2)

  edge_forth : (a b : ℕ) → IsEdge old a b → IsEdge new a b
  edge_forth a b e = (left e.0, shapes.mapped_at left old.blocks a e.0 e.1, e.2)

  path_back : (path : List ℕ) → IsPath new path → IsPath old path
  path_back [] p = p
  path_back (b ∷ []) p = p
  path_back (b ∷ a ∷ older) p = (edge_back a b p.0, path_back (a ∷ older) p.1)

  -- ---- what is written

  abbrev place : FlatBlock → ℕ → ℕ
  place k m = count (instr_kept keep) k.code m

  still_written : (k : FlatBlock) (m r : ℕ) → keep r ≡ true → IsWritten k m r → IsWritten (left k) (place k m) r
  still_written k m r e (inl phi) =
      let f = map_source (λ (f : Phi). f.reg.0) k.phis r (has_in (map (λ (f : Phi). f.reg.0) k.phis) r phi) in
      let in_left = filter_has (λ (f : Phi). keep f.reg.0) k.phis f.0 f.1 (ap keep f.2 ∙ e) in
      inl (contains (map (λ (f : Phi). f.reg.0) (left k).phis) r (subst (Has (map (λ (f : Phi). f.reg.0) (left k).phis)) f.2 (has_mapped (λ (f : Phi). f.reg.0) (left k).phis f.0 in_left)))
  still_written k m r e (inr w) =
      let j = writer_left keep w.1 r w.4 e in
      inr (place k w.0, j.0, made_before (instr_kept keep) k.code w.0 m w.1 j.0 w.3 j.1 w.2, made_at (instr_kept keep) k.code w.0 w.1 j.0 w.3 j.1, j.2)

  still_in : (older : List ℕ) (r : ℕ) → keep r ≡ true → ComesIn old older r → ComesIn new older r
  still_in [] r e c = c
  still_in (b ∷ older) r e (inl c) = inl (left c.0, shapes.mapped_at left old.blocks b c.0 c.1, subst (λ n. IsWritten (left c.0) n r) (count_all (instr_kept keep) c.0.code) (still_written c.0 (length c.0.code) r e c.2))
  still_in (b ∷ older) r e (inr c) = inr (still_in older r e c)

  still_first : (older : List ℕ) (k : FlatBlock) (m : ℕ) (o : FlatOp) → ((r : ℕ) → o ≡ Reg (record { 0 = r }) → keep r ≡ true) → ComesFirst old older k m o → ComesFirst new older (left k) (place k m) o
  still_first older k m (Reg r) needs (inl w) = inl (still_written k m r.0 (needs r.0 refl) w)
  still_first older k m (Reg r) needs (inr c) = inr (still_in older r.0 (needs r.0 refl) c)
  still_first older k m (Word a) needs c = tt
  still_first older k m Null needs c = tt
  still_first older k m (Address g n) needs c = tt
  still_first older k m Poison needs c = tt

  first_at_end : (older : List ℕ) (k : FlatBlock) (o : FlatOp) → ((r : ℕ) → o ≡ Reg (record { 0 = r }) → keep r ≡ true) → ComesFirst old older k (length k.code) o → ComesFirst new older (left k) (length (left k).code) o
  first_at_end older k o needs c = subst (λ n. ComesFirst new older (left k) n o) (count_all (instr_kept keep) k.code) (still_first older k (length k.code) o needs c)

  fewer_writes : Sub (all_writes new) (all_writes old)
  fewer_writes = sub_parts writes left (λ k. sub_joined (map (λ (f : Phi). f.reg.0) (left k).phis) (map (λ (f : Phi). f.reg.0) k.phis) (filter_map written_by (left k).code) (filter_map written_by k.code)
      (sub_filter (λ (f : Phi). f.reg.0) (λ (f : Phi). keep f.reg.0) k.phis) (sub_made (instr_kept keep) written_by (λ i j e. writes_same keep i j e) k.code)) old.blocks

  still_writes : (k : FlatBlock) (r : ℕ) → keep r ≡ true → Has (writes k) r → Has (writes (left k)) r
  still_writes k r e w = ⊎_elim
      (λ g.
      let f = map_source (λ (f : Phi). f.reg.0) k.phis r g in
      has_left (map (λ (f : Phi). f.reg.0) (left k).phis) (filter_map written_by (left k).code) r (subst (Has (map (λ (f : Phi). f.reg.0) (left k).phis)) f.2 (has_mapped (λ (f : Phi). f.reg.0) (left k).phis f.0 (filter_has (λ (f : Phi). keep f.reg.0) k.phis f.0 f.1 (ap keep f.2 ∙ e)))))
      (λ g.
      let i = has_source written_by k.code r g in
      let j = writer_left keep i.0 r i.2 e in
      has_right (map (λ (f : Phi). f.reg.0) (left k).phis) (filter_map written_by (left k).code) r (has_made written_by (left k).code j.0 r (has_made (instr_kept keep) k.code i.0 j.0 i.1 j.1) j.2))
      (split (map (λ (f : Phi). f.reg.0) k.phis) (filter_map written_by k.code) r w)

  -- ---- what is used

  still_there : (o : FlatOp) → ((r : ℕ) → o ≡ Reg (record { 0 = r }) → keep r ≡ true) → Has (all_uses old) o → IsParamOrWritten new o
  still_there (Reg r) needs g = by_case (All-contains (IsParamOrWritten old) (all_uses old) (Reg r) h.used (contains (all_uses old) (Reg r) g))
    where
      by_case : (r.0 < old.params) ⊎ Contains (all_writes old) r.0 → (r.0 < old.params) ⊎ Contains (all_writes new) r.0
      by_case (inl p) = inl p
      by_case (inr w) =
          let part = in_part writes old.blocks r.0 (has_in (all_writes old) r.0 w) in
          inr (contains (all_writes new) r.0 (has_part writes new.blocks (left part.0) r.0 (has_mapped left old.blocks part.0 part.1) (still_writes part.0 r.0 (needs r.0 refl) part.2)))
  still_there (Word a) needs g = tt
  still_there Null needs g = tt
  still_there (Address n k) needs g = tt
  still_there Poison needs g = tt

  named : (xs : List FlatOp) (o : FlatOp) (r : ℕ) → Has xs o → o ≡ Reg (record { 0 = r }) → Has xs (Reg (record { 0 = r }))
  named xs o r g e = subst (Has xs) e g

  pub used_left : (b : ℕ) (k : FlatBlock) → IsBlock old b k → (o : FlatOp) → Has (uses (left k)) o → Has (uses k) o × ((r : ℕ) → o ≡ Reg (record { 0 = r }) → keep r ≡ true)
  used_left b k is o g = ⊎_elim
      (λ first. ⊎_elim of_phis of_code (split (flat_map values (left k).phis) (flat_map used_by (left k).code) o first))
      of_terminator
      (split (flat_map values (left k).phis ++ flat_map used_by (left k).code) (used_at_end k.end) o g)
    where
      of_phis : Has (flat_map values (left k).phis) o → Has (uses k) o × ((r : ℕ) → o ≡ Reg (record { 0 = r }) → keep r ≡ true)
      of_phis in_it =
          let f = in_part values (left k).phis o in_it in
          let was = filter_from (λ (f : Phi). keep f.reg.0) k.phis f.0 f.1 in
          (of_phi k f.0 o was.0 f.2, λ r e. phi_needs b k is f.0 r was.0 was.1 (named (values f.0) o r f.2 e))

      of_code : Has (flat_map used_by (left k).code) o → Has (uses k) o × ((r : ℕ) → o ≡ Reg (record { 0 = r }) → keep r ≡ true)
      of_code in_it =
          let j = in_part used_by (left k).code o in_it in
          let i = has_source (instr_kept keep) k.code j.0 j.1 in
          let used = subst (λ os. Has os o) (used_same keep i.0 j.0 i.2) j.2 in
          (of_instr k i.0 o i.1 used, λ r e. instr_needs b k is i.0 j.0 r i.1 i.2 (named (used_by i.0) o r used e))

      of_terminator : Has (used_at_end k.end) o → Has (uses k) o × ((r : ℕ) → o ≡ Reg (record { 0 = r }) → keep r ≡ true)
      of_terminator in_it = (of_end k o in_it, λ r e. end_needs b k is r (named (used_at_end k.end) o r in_it e))

  all_there : (o : FlatOp) → Has (all_uses new) o → IsParamOrWritten new o
  all_there o g =
      let part = in_part uses (map left old.blocks) o g in
      let k = map_source left old.blocks part.0 part.1 in
      let at = at_has old.blocks k.0 k.1 in
      let was = used_left at.0 k.0 at.1 o (subst (λ (l : FlatBlock). Has (uses l) o) (sym k.2) part.2) in
      still_there o was.1 (has_part uses old.blocks k.0 o k.1 was.0)

  -- ---- the new body

  phi_from : (b : ℕ) (l : FlatBlock) (f : Phi) → IsBlock new b l → Contains l.phis f → (k : FlatBlock) × IsBlock old b k × Contains k.phis f × (keep f.reg.0 ≡ true)
  phi_from b l f e in_it =
      let k = from_old b l e in
      let was = filter_from (λ (f : Phi). keep f.reg.0) k.0.phis f (has_in (left k.0).phis f (subst (λ (x : FlatBlock). Contains x.phis f) k.2 in_it)) in
      (k.0, k.1, contains k.0.phis f was.0, was.1)

  pub instr_from : (b n : ℕ) (l : FlatBlock) (j : FlatInstr) → IsBlock new b l → slice_get l.code n ≡ Some j → (k : FlatBlock) × (m : ℕ) × (i : FlatInstr) × IsBlock old b k × (slice_get k.code m ≡ Some i) × (instr_kept keep i ≡ Some j) × (place k m ≡ n) × (l ≡ left k)
  instr_from b n l j e at =
      let k = from_old b l e in
      let i = made_from (instr_kept keep) k.0.code n j (subst (λ (x : FlatBlock). slice_get x.code n ≡ Some j) k.2 at) in
      (k.0, i.0, i.1, k.1, i.2, i.3, i.4, k.2)

  is_phi : (b : ℕ) (f : Phi) → IsPhi old b f → IsPhi new b f
  is_phi b f i = record {
    only = λ e in_it. edge_forth e.from.0 b (i.only e in_it);
    each = λ a edge. i.each a (edge_back a b edge);
    equal = i.equal;
  }

  first_defined : DefinedFirst new
  first_defined = record {
    by_code = λ b older l n j path e at.
        let i = instr_from b n l j e at in
        let first = h.defined_first.by_code b older i.0 i.1 i.2 (path_back (b ∷ older) path) i.3 i.4 in
        each_all (ComesFirst new older l n) (used_by j) (λ o in_it.
        let used = subst (λ os. Has os o) (used_same keep i.2 j i.5) in_it in
        subst (λ (z : FlatBlock). ComesFirst new older z n o) (sym i.7) (subst (λ m. ComesFirst new older (left i.0) m o) i.6
        (still_first older i.0 i.1 o (λ r is. instr_needs b i.0 i.3 i.2 j r (has_at i.0.code i.1 i.2 i.4) i.5 (named (used_by i.2) o r used is)) (All-contains (ComesFirst old older i.0 i.1) (used_by i.2) o first (contains (used_by i.2) o used)))));
    by_end = λ b older l path e.
        let k = from_old b l e in
        let first = h.defined_first.by_end b older k.0 (path_back (b ∷ older) path) k.1 in
        each_all (ComesFirst new older l (length l.code)) (used_at_end l.end) (λ o in_it.
        let used = subst (λ (x : FlatBlock). Has (used_at_end x.end) o) k.2 in_it in
        subst (λ (z : FlatBlock). ComesFirst new older z (length z.code) o) (sym k.2)
        (first_at_end older k.0 o (λ r is. end_needs b k.0 k.1 r (named (used_at_end k.0.end) o r used is)) (All-contains (ComesFirst old older k.0 (length k.0.code)) (used_at_end k.0.end) o first (contains (used_at_end k.0.end) o used))));
    by_phi = λ b c older l z f e path is_l is_z in_z in_f from.
        let k = from_old b l is_l in
        let g = phi_from c z f is_z in_z in
        let first = h.defined_first.by_phi b c older k.0 g.0 f e (path_back (c ∷ b ∷ older) path) k.1 g.1 g.2 in_f from in
        let used = has_mapped (λ (e : Entry). e.value) f.entries e (has_in f.entries e in_f) in
        subst (λ (x : FlatBlock). ComesFirst new older x (length x.code) e.value) (sym k.2)
        (first_at_end older k.0 e.value (λ r is. phi_needs c g.0 g.1 f r (has_in g.0.phis f g.2) g.3 (named (values f) e.value r used is)) first);
  }

  pub dropped_formed : IsFormedBody types funcs own new
  dropped_formed = record {
    entry =
        let k = h.entry in
        (left k.0, shapes.mapped_at left old.blocks 0 k.0 k.1, ap (filter (λ (f : Phi). keep f.reg.0)) k.2);
    no_way_back = λ a e. h.no_way_back a (edge_back a 0 e);
    few_params = h.few_params;
    numbers = (h.numbers.0, subst (λ n. n < 4294967296) (sym (shapes.map_length left old.blocks)) h.numbers.1);
    own_params = h.own_params;
    in_range = λ b c e. subst (λ n. c < n) (sym (shapes.map_length left old.blocks)) (h.in_range b c (edge_back b c e));
    phis = λ b l f e in_it.
        let g = phi_from b l f e in_it in
        let old_phi = h.phis b g.0 f g.1 g.2 in
        (is_phi b f old_phi.0, old_phi.1, old_phi.2);
    code = λ b n l j e at. let i = instr_from b n l j e at in typed_left keep types funcs i.2 j i.5 (h.code b i.1 i.0 i.2 i.3 i.4);
    written_once = pairs_apart (all_writes new) (sub_apart (all_writes new) (all_writes old) fewer_writes (apart_pairs (all_writes old) h.written_once));
    written = each_all (λ (r : ℕ). (old.params ≤ r) × (r < old.regs)) (all_writes new) (λ r in_it. All-contains (λ (q : ℕ). (old.params ≤ q) × (q < old.regs)) (all_writes old) r h.written (contains (all_writes old) r (sub_has (all_writes new) (all_writes old) r fewer_writes in_it)));
    used = each_all (IsParamOrWritten new) (all_uses new) all_there;
    ends = λ b l e. let k = from_old b l e in subst (λ (x : FlatBlock). IsEndTyped types own.result x.end) (sym k.2) (h.ends b k.0 k.1);
    defined_first = first_defined;
  }

pub dead_formed : (types : ℕ → Scalar) (funcs : ℕ → FuncType) (own : FuncType) (b : FlatBody) → IsFormedBody types funcs own b → IsFormedBody types funcs own (dead_dropped b)
unfolding dead_dropped
dead_formed types funcs own b h = dropped_formed types funcs own b h
