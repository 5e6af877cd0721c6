-- The calls and the operands of a body after one merge are those of the body before it.
use Rattle.std.proofs.Common.{◌≡◌, ◌⊎◌, inl, inr, ⊎_elim, ℕ, zero, suc, List, [], ◌∷◌, ◌++◌, map, Option, slice_set, refl, sym, ap, ◌∙◌, subst}
use Rattle.std.specs.List.{flat_map}
use Rattle.oi_base.specs.declared.ids.RegId.{RegId}
use Rattle.oi_base.specs.declared.ids.FuncId.{FuncId}
use Rattle.ir_core.specs.declared.flat.FlatOp.{FlatOp}
use Rattle.ir_core.specs.declared.flat.FlatOp.TheVariants.{Poison}
use Rattle.ir_core.specs.declared.flat.Entry.{Entry}
use Rattle.ir_core.specs.declared.flat.Phi.{Phi}
use Rattle.ir_core.specs.declared.flat.FlatInstr.{FlatInstr}
use Rattle.ir_core.specs.declared.flat.FlatInstr.TheVariants.{Call}
use Rattle.ir_core.specs.declared.flat.FlatBlock.{FlatBlock}
use Rattle.ir_core.specs.declared.flat.FlatBody.{FlatBody}
use Rattle.ir_core.specs.Formed.{NamesGlobal, used_by, used_at_end, uses, all_uses}
use Rattle.ir_core.proofs.Lists.{Has, has_at, at_has, has_part, map_source}
use Rattle.ir_safety.proofs.Elements.{split, in_part}
use Rattle.flow_fold.specs.Blocks.{entry_renamed, phi_renamed}
use Rattle.flow_fold.specs.MergeBlocks.{first_value, as_copy, joined, empty_block, renamed_in}
use Rattle.local_passes.specs.DropDead.{values}
use Rattle.local_passes.proofs.Needing.{of_phi, of_instr, of_end}
use Rattle.ir_simulation.proofs.ReplacedFormed.{IsCalled}

-- an element of a list with one element replaced
set_has : {A : Type 0} (xs : List A) (i : ℕ) (y z : A) → Has (slice_set xs i y) z → (y ≡ z) ⊎ Has xs z
set_has [] i y z h = absurd h
set_has (x ∷ xs) zero y z (inl same) = inl same
set_has (x ∷ xs) zero y z (inr h) = inr (inr h)
set_has (x ∷ xs) (suc i) y z (inl same) = inr (inl same)
set_has (x ∷ xs) (suc i) y z (inr h) = ⊎_elim (λ same. inl same) (λ g. inr (inr g)) (set_has xs i y z h)

module _ (bs : List FlatBlock) (n m : ℕ) (k l : FlatBlock) (name : ℕ → ℕ) (at_n : Has bs k) (at_m : Has bs l) where
  abbrev after : List FlatBlock
  after = map (renamed_in name) (slice_set (slice_set bs n (joined k l)) m empty_block)

  -- a block after the merge is an empty one, the joined one, or one of before
  data From (y : FlatBlock) : Type 0 where
    from_none : renamed_in name empty_block ≡ y → From y
    from_both : renamed_in name (joined k l) ≡ y → From y
    from_old : (z : FlatBlock) → Has bs z → renamed_in name z ≡ y → From y

  block_from : (y : FlatBlock) → Has after y → From y
  block_from y h =
      let z = map_source (renamed_in name) (slice_set (slice_set bs n (joined k l)) m empty_block) y h in
      ⊎_elim
      (λ same. from_none (ap (renamed_in name) same ∙ z.2))
      (λ g. ⊎_elim (λ same. from_both (ap (renamed_in name) same ∙ z.2)) (λ old. from_old z.0 old z.2) (set_has bs n (joined k l) z.0 g))
      (set_has (slice_set bs n (joined k l)) m empty_block z.0 z.1)

  -- ---- calls

  abbrev Calls : FuncId → List FlatInstr → Type 0
  Calls g is = (d : Option RegId) × (args : List FlatOp) × Has is (Call d g args)

  no_copy : (g : FuncId) (fs : List Phi) → Calls g (map as_copy fs) → ⊥
  no_copy g fs c = let f = map_source as_copy fs (Call c.0 g c.1) c.2 in let e = f.2 in cc

  abbrev CalledBefore : FuncId → Type 0
  CalledBefore g = (z : FlatBlock) × Has bs z × Calls g z.code

  called_in : (g : FuncId) (y : FlatBlock) → From y → Calls g y.code → CalledBefore g
  called_in g y (from_none same) c = absurd (subst (λ (x : FlatBlock). Has x.code (Call c.0 g c.1)) (sym same) c.2)
  called_in g y (from_both same) c = ⊎_elim
      (λ h. ⊎_elim (λ a. (k, at_n, (c.0, c.1, a))) (λ b. absurd (no_copy g l.phis (c.0, c.1, b))) (split k.code (map as_copy l.phis) (Call c.0 g c.1) h))
      (λ h. (l, at_m, (c.0, c.1, h)))
      (split (k.code ++ map as_copy l.phis) l.code (Call c.0 g c.1) (subst (λ (x : FlatBlock). Has x.code (Call c.0 g c.1)) (sym same) c.2))
  called_in g y (from_old z old same) c = (z, old, (c.0, c.1, subst (λ (x : FlatBlock). Has x.code (Call c.0 g c.1)) (sym same) c.2))

  -- ---- operands

  abbrev UsedBefore : FlatOp → Type 0
  UsedBefore o = (o ≡ Poison) ⊎ ((z : FlatBlock) × Has bs z × Has (uses z) o)

  values_renamed : (es : List Entry) → map (λ (e : Entry). e.value) (map (entry_renamed name) es) ≡ map (λ (e : Entry). e.value) es
  values_renamed [] = refl
  values_renamed (e ∷ es) = ap (λ os. e.value ∷ os) (values_renamed es)

  phis_renamed : (fs : List Phi) → flat_map values (map (phi_renamed name) fs) ≡ flat_map values fs
  phis_renamed [] = refl
  phis_renamed (f ∷ fs) = ap (λ os. os ++ flat_map values (map (phi_renamed name) fs)) (values_renamed f.entries) ∙ ap (λ os. values f ++ os) (phis_renamed fs)

  uses_renamed : (z : FlatBlock) (o : FlatOp) → Has (uses (renamed_in name z)) o → Has (uses z) o
  uses_renamed z o h = subst (λ os. Has (os ++ flat_map used_by z.code ++ used_at_end z.end) o) (phis_renamed z.phis) h

  first_used : (es : List Entry) → (first_value es ≡ Poison) ⊎ Has (map (λ (e : Entry). e.value) es) (first_value es)
  first_used [] = inl refl
  first_used (e ∷ es) = inr (inl refl)

  in_joined : (o : FlatOp) → Has (uses (joined k l)) o → UsedBefore o
  in_joined o h = ⊎_elim
      (λ g. ⊎_elim
      (λ in_phis. let f = in_part values k.phis o in_phis in inr (k, at_n, of_phi k f.0 o f.1 f.2))
      of_code
      (split (flat_map values k.phis) (flat_map used_by (joined k l).code) o g))
      (λ at_end. inr (l, at_m, of_end l o at_end))
      (split (flat_map values k.phis ++ flat_map used_by (joined k l).code) (used_at_end l.end) o h)
    where
      of_copy : (i : FlatInstr) → Has (map as_copy l.phis) i → Has (used_by i) o → UsedBefore o
      of_copy i in_it used =
          let f = map_source as_copy l.phis i in_it in
          let one : Has (first_value f.0.entries ∷ []) o = subst (λ j. Has (used_by j) o) (sym f.2) used in
          ⊎_elim
          (λ same. ⊎_elim
          (λ poison. inl (sym same ∙ poison))
          (λ value. inr (l, at_m, of_phi l f.0 o f.1 (subst (Has (values f.0)) same value)))
          (first_used f.0.entries))
          (λ none. absurd none)
          one

      of_code : Has (flat_map used_by (joined k l).code) o → UsedBefore o
      of_code in_code =
          let i = in_part used_by (joined k l).code o in_code in
          ⊎_elim
          (λ g. ⊎_elim (λ a. inr (k, at_n, of_instr k i.0 o a i.2)) (λ b. of_copy i.0 b i.2) (split k.code (map as_copy l.phis) i.0 g))
          (λ g. inr (l, at_m, of_instr l i.0 o g i.2))
          (split (k.code ++ map as_copy l.phis) l.code i.0 i.1)

  used_in : (o : FlatOp) (y : FlatBlock) → From y → Has (uses y) o → UsedBefore o
  used_in o y (from_none same) h = absurd (uses_renamed empty_block o (subst (λ x. Has (uses x) o) (sym same) h))
  used_in o y (from_both same) h = in_joined o (uses_renamed (joined k l) o (subst (λ x. Has (uses x) o) (sym same) h))
  used_in o y (from_old z old same) h = inr (z, old, uses_renamed z o (subst (λ x. Has (uses x) o) (sym same) h))

-- ---- the same of bodies

module _ (body : FlatBody) (n m : ℕ) (k l : FlatBlock) (name : ℕ → ℕ) (at_n : Has body.blocks k) (at_m : Has body.blocks l) where
  abbrev merged_body : FlatBody
  merged_body = record body { blocks = map (renamed_in name) (slice_set (slice_set body.blocks n (joined k l)) m empty_block) }

  pub call_before : (g : FuncId) → IsCalled merged_body g → IsCalled body g
  call_before g call =
      let y = has_at merged_body.blocks call.block call.code call.is_block in
      let c = called_in body.blocks n m k l name at_n at_m g call.code (block_from body.blocks n m k l name at_n at_m call.code y) (call.result, call.args, has_at call.code.code call.place (Call call.result g call.args) call.is_call) in
      let b = at_has body.blocks c.0 c.1 in
      let i = at_has c.0.code (Call c.2.0 g c.2.1) c.2.2 in
      record { block = b.0; place = i.0; code = c.0; result = c.2.0; args = c.2.1; is_block = b.1; is_call = i.1 }

  pub names_before : (globals : ℕ) → ((o : FlatOp) → Has (all_uses body) o → NamesGlobal globals o) → (o : FlatOp) → Has (all_uses merged_body) o → NamesGlobal globals o
  names_before globals h o has =
      let part = in_part uses merged_body.blocks o has in
      ⊎_elim
      (λ poison. subst (NamesGlobal globals) (sym poison) tt)
      (λ z. h o (has_part uses body.blocks z.0 o z.1 z.2))
      (used_in body.blocks n m k l name at_n at_m o part.0 (block_from body.blocks n m k l name at_n at_m part.0 part.1) part.2)
