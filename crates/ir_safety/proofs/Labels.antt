-- Blocks and labels of plain bodies: the entry block has no phis, each target is a block, and each phi has an entry for each block
-- before it.
use Rattle.std.proofs.Common.{◌≡◌, inl, inr, ℕ, ◌<◌, List, [], ◌∷◌, map, length, Some, slice_get, Contains, refl, sym, ap, ◌∙◌, subst, arith}
use Rattle.std.proofs.lemmas.List.{length-map}
use Rattle.std.proofs.lemmas.List.Elements.{All-contains}
use Rattle.ir_core.specs.declared.flat.Entry.{Entry}
use Rattle.ir_core.specs.declared.flat.Phi.{Phi}
use Rattle.ir_core.specs.declared.flat.FlatBlock.{FlatBlock}
use Rattle.ir_core.specs.declared.module.Module.{Module}
use Rattle.ir_core.specs.declared.op.LocalId.{LocalId}
use Rattle.ir_core.specs.declared.func.Instr.{Instr}
use Rattle.ir_core.specs.declared.func.Block.{Block}
use Rattle.ir_core.specs.declared.func.Func.{Func}
use Rattle.ir_core.specs.Parts.{targets, instrs}
use Rattle.ir_core.specs.Operands.{Ends, steps}
use Rattle.ir_core.specs.Formed.{IsBlock, IsEdge}
use Rattle.ir_core.specs.Instructions.{entry}
use Rattle.ir_core.specs.Plain.{other_entry, numbers, plain_body}
use Rattle.ir_core.specs.Proper.{HasEntries, IsProperFunc, IsProper}
use Rattle.ir_core.specs.Valid.{IsValid, IsValidFunc}
use Rattle.ir_core.specs.ValidFunc.{IsLabel}
use Rattle.ir_core.specs.ValidPaths.{HasGoodEntries}
use Rattle.ir_core.proofs.Lists.{Has, has_at, contains, element, place, place_within, all_at, has_in, has_mapped}
use Rattle.ir_safety.proofs.Safe.{NotFalse, in_turn}
use Rattle.ir_safety.proofs.Elements.{own_place}
use Rattle.ir_safety.proofs.Once.{label, labels_once}
use Rattle.ir_safety.proofs.PlainEdges.{row, IsFrom, GoesFrom, block_of, block_there, edge_of, labelled}
use Rattle.ir_safety.proofs.PlainSources.{is_instr, ends, Source, source_of, good_entries}

abbrev HasEntryFrom : ℕ → List Entry → Type 0
HasEntryFrom a entries = (e : Entry) × Contains entries e × (e.from.0 ≡ a)

-- ---- what the rules give

module _ (m : Module) (proper : IsProper m) (valid : IsValid m) (g : ℕ) (f : Func) (at : slice_get m.funcs g ≡ Some f) where
  rules : IsValidFunc m f
  rules = all_at (IsValidFunc m) m.funcs g f valid.each_func at

  is_proper : IsProperFunc f
  is_proper = all_at IsProperFunc m.funcs g f proper.each_func at

  has_entries : (b : Block) (entries : List Entry) (s : Source m f b entries) → Has f.blocks b → 0 < length s.pairs
  has_entries b entries s h =
      subst HasEntries s.is_phi
      (All-contains (λ (i : Instr). HasEntries i.op) (instrs f) s.instr is_proper.entries (is_instr f b h s.instr s.stands))

  -- an entry of a phi of the entry block comes from a block before it, and there is none
  no_phi : (b : Block) → slice_get f.blocks 0 ≡ Some b → (q : Phi) → Has (row m f b).phis q → ⊥
  no_phi b e q h =
      let here : Has f.blocks b = has_at f.blocks 0 b e in
      let s = source_of m f b q h in
      let first = element s.pairs 0 (has_entries b q.entries s here) in
      good_entries m f b q.entries s rules here
      (λ (good : HasGoodEntries m.types.defs f b.label s.ty s.pairs).
      let before = good.only first.0 (contains s.pairs first.0 (has_at s.pairs 0 first.0 first.1)) in
      rules.entry before.0.end_place (b, e, (before.0, before.1, refl, before.3)))

  pub entry_safe : NotFalse ((k : FlatBlock) × IsBlock (plain_body m f) 0 k × (k.phis ≡ []))
  entry_safe not =
      let b = element f.blocks 0 is_proper.has_blocks in
      not (row m f b.0, block_there m f 0 b.0 b.1, none (row m f b.0).phis (no_phi b.0 b.1))
    where
      none : (qs : List Phi) → ((q : Phi) → Has qs q → ⊥) → qs ≡ []
      none [] away = refl
      none (q ∷ qs) away = absurd (away q (inl refl))

  pub in_range_safe : (b c : ℕ) → IsEdge (plain_body m f) b c → NotFalse (c < length (plain_body m f).blocks)
  in_range_safe b c h =
      let e = edge_of m f b c h in
      in_turn (known e.0 e.2.0 (has_at f.blocks b e.0 e.1) e.2.1)
      (λ (l : IsLabel f e.2.0).
      let lt : place label f.blocks (label l.0) < length f.blocks = place_within label f.blocks l.0 (has_in f.blocks l.0 l.1) in
      let same : place label f.blocks (label l.0) ≡ c = ap (λ (x : LocalId). place label f.blocks x.0) l.2 ∙ e.2.2 in
      let n : length (plain_body m f).blocks ≡ length f.blocks = length-map f.blocks (row m f) in
      omega (arith, lt, same, n))
    where
      known : (k : Block) (x : LocalId) → Has f.blocks k → Has (targets k.end) x → NotFalse (IsLabel f x)
      known k x hk hx bad =
          rules.references k.end_place
          (Ends k, contains (steps f) (Ends k) (ends f k hk), refl, inr (x, contains (targets k.end) x hx, bad))

  -- where block c ends in a branch to block d, a phi of d has an entry from c
  entry_from : (a : ℕ) (c d : Block) (x : LocalId) (entries : List Entry) → slice_get f.blocks a ≡ Some c → Has (targets c.end) x → x ≡ d.label → Has f.blocks d
      → Source m f d entries → NotFalse (HasEntryFrom a entries)
  entry_from a c d x entries is goes named here s =
      in_turn (good_entries m f d entries s rules here)
      (λ (good : HasGoodEntries m.types.defs f d.label s.ty s.pairs).
      let to : Contains (targets c.end) d.label = subst (Contains (targets c.end)) named (contains (targets c.end) x goes) in
      let p = good.each c.label (c, contains f.blocks c (has_at f.blocks a c is), refl, to) in
      let made : Entry = other_entry (numbers f) (entry m s.ty p.0) in
      let has = has_mapped (other_entry (numbers f)) (map (entry m s.ty) s.pairs) (entry m s.ty p.0) (has_mapped (entry m s.ty) s.pairs p.0 (has_in s.pairs p.0 p.1)) in (
        made,
        contains entries made (subst (λ (es : List Entry). Has es made) (sym s.made) has),
        ap (λ (y : LocalId). place label f.blocks y.0) p.2 ∙ own_place label f.blocks a c (labels_once m f rules) is,
      ))

  pub phis_safe : (a b : ℕ) (k : FlatBlock) (q : Phi) → IsEdge (plain_body m f) a b → IsBlock (plain_body m f) b k → Contains k.phis q → NotFalse (HasEntryFrom a q.entries)
  phis_safe a b k q h is stands = from_block (edge_of m f a b h) (block_of m f b k is)
    where
      from_block : GoesFrom m f a b → IsFrom m f b k → NotFalse (HasEntryFrom a q.entries)
      from_block (c, at_c, (x, goes, to)) (d, at_d, same) =
          let s : Source m f d q.entries = source_of m f d q (subst (λ (l : FlatBlock). Has l.phis q) (sym same) (has_in k.phis q stands)) in
          entry_from a c d x q.entries at_c goes (labelled f b d x at_d to) (has_at f.blocks b d at_d) s
