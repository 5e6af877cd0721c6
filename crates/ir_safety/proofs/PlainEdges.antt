-- The blocks and edges of a plain body are those of its function.
use Rattle.std.proofs.Common.{◌≡◌, inl, inr, ℕ, List, [], ◌∷◌, ◌++◌, map, Some, slice_get, refl, sym, ap, ◌∙◌, subst}
use Rattle.std.specs.Option.{option_map}
use Rattle.std.proofs.lemmas.Option.{slice_get-map}
use Rattle.ir_core.specs.declared.flat.Case.{Case}
use Rattle.ir_core.specs.declared.flat.FlatBlock.{FlatBlock}
use Rattle.ir_core.specs.declared.module.Module.{Module}
use Rattle.ir_core.specs.declared.op.LocalId.{LocalId}
use Rattle.ir_core.specs.declared.op.SwitchCase.{SwitchCase}
use Rattle.ir_core.specs.declared.op.End.{End}
use Rattle.ir_core.specs.declared.op.End.TheVariants as ends
use Rattle.ir_core.specs.declared.func.Block.{Block}
use Rattle.ir_core.specs.declared.func.Func.{Func}
use Rattle.ir_core.specs.Parts.{targets}
use Rattle.ir_core.specs.Formed as formed
use Rattle.ir_core.specs.Formed.{IsBlock, IsEdge}
use Rattle.ir_core.specs.Instructions.{switch_case, terminator, block_rows}
use Rattle.ir_core.specs.Plain.{Numbers, other_case, other_end, renumbered, numbers, plain_body}
use Rattle.ir_core.proofs.SoundRules.{same_name}
use Rattle.ir_core.proofs.Lists.{Has, has_left, has_right, contains, has_in, mapped, place_has}

-- ---- targets

module _ (m : Module) (n : Numbers) where
  abbrev case_number : SwitchCase → ℕ
  case_number c = n.block c.to.0

  abbrev case_numbers : List SwitchCase → List ℕ
  case_numbers cs = map (λ (c : Case). c.to.0) (map (other_case n) (map (switch_case m) cs))

  -- the number of one of the labels
  abbrev IsNumberOf : List LocalId → ℕ → Type 0
  IsNumberOf xs t = (x : LocalId) × Has xs x × (n.block x.0 ≡ t)

  case_target : (other : LocalId) (cs : List SwitchCase) (t : ℕ) → Has (case_numbers cs ++ n.block other.0 ∷ []) t → IsNumberOf (other ∷ map (λ (c : SwitchCase). c.to) cs) t
  case_target other [] t (inl e) = (other, inl refl, e)
  case_target other [] t (inr h) = absurd h
  case_target other (c ∷ cs) t (inl e) = (c.to, inr (inl refl), e)
  case_target other (c ∷ cs) t (inr h) = past (case_target other cs t h)
    where
      past : IsNumberOf (other ∷ map (λ (c : SwitchCase). c.to) cs) t → IsNumberOf (other ∷ map (λ (c : SwitchCase). c.to) (c ∷ cs)) t
      past (x, inl e, is) = (x, inl e, is)
      past (x, inr g, is) = (x, inr (inr g), is)

  -- a target of a row's end is the number of a target of the terminator
  end_target : (e : End) (t : ℕ) → Has (formed.targets (other_end n (terminator m e))) t → IsNumberOf (targets e) t
  end_target (ends.Ret a) t h = absurd h
  end_target (ends.Br b) t (inl e) = (b, inl refl, e)
  end_target (ends.Br b) t (inr h) = absurd h
  end_target (ends.Cond c x y) t (inl e) = (x, inl refl, e)
  end_target (ends.Cond c x y) t (inr (inl e)) = (y, inr (inl refl), e)
  end_target (ends.Cond c x y) t (inr (inr h)) = absurd h
  end_target (ends.Switch a other cases) t h = case_target other cases t h
  end_target ends.Unreachable t h = absurd h

  case_there : (cs : List SwitchCase) (x : LocalId) → Has (map (λ (c : SwitchCase). c.to) cs) x → Has (case_numbers cs) (n.block x.0)
  case_there [] x h = absurd h
  case_there (c ∷ cs) x (inl e) = inl (ap (λ (y : LocalId). n.block y.0) e)
  case_there (c ∷ cs) x (inr h) = inr (case_there cs x h)

  -- and each number of a target is one of the row's end
  target_there : (e : End) (x : LocalId) → Has (targets e) x → Has (formed.targets (other_end n (terminator m e))) (n.block x.0)
  target_there (ends.Ret a) x h = absurd h
  target_there (ends.Br b) x (inl e) = inl (ap (λ (y : LocalId). n.block y.0) e)
  target_there (ends.Br b) x (inr h) = absurd h
  target_there (ends.Cond c y z) x (inl e) = inl (ap (λ (y : LocalId). n.block y.0) e)
  target_there (ends.Cond c y z) x (inr (inl e)) = inr (inl (ap (λ (y : LocalId). n.block y.0) e))
  target_there (ends.Cond c y z) x (inr (inr h)) = absurd h
  target_there (ends.Switch a other cases) x (inl e) = has_right (case_numbers cases) (n.block other.0 ∷ []) (n.block x.0) (inl (ap (λ (y : LocalId). n.block y.0) e))
  target_there (ends.Switch a other cases) x (inr h) = has_left (case_numbers cases) (n.block other.0 ∷ []) (n.block x.0) (case_there cases x h)
  target_there ends.Unreachable x h = absurd h

-- ---- blocks and edges

-- a label with the number of a block is its own
pub labelled : (f : Func) (n : ℕ) (b : Block) (x : LocalId) → slice_get f.blocks n ≡ Some b → (numbers f).block x.0 ≡ n → x ≡ b.label
labelled f n b x at is =
    same_name x b.label
    (sym (place_has (λ (c : Block). c.label.0) f.blocks x.0 b (ap (slice_get f.blocks) is ∙ at)))

module _ (m : Module) (f : Func) where
  abbrev pub row : Block → FlatBlock
  row b = renumbered (numbers f) (block_rows m b)

  -- the block of the function from which a plain block comes
  abbrev pub IsFrom : ℕ → FlatBlock → Type 0
  IsFrom n k = (b : Block) × (slice_get f.blocks n ≡ Some b) × (row b ≡ k)

  -- the block at position a names a label with the number b at its end
  abbrev pub GoesFrom : ℕ → ℕ → Type 0
  GoesFrom a b = (c : Block) × (slice_get f.blocks a ≡ Some c) × ((x : LocalId) × Has (targets c.end) x × ((numbers f).block x.0 ≡ b))

  pub block_of : (n : ℕ) (k : FlatBlock) → IsBlock (plain_body m f) n k → IsFrom n k
  block_of n k e = mapped row (slice_get f.blocks n) k (sym (slice_get-map row f.blocks n) ∙ e)

  pub block_there : (n : ℕ) (b : Block) → slice_get f.blocks n ≡ Some b → IsBlock (plain_body m f) n (row b)
  block_there n b e = slice_get-map row f.blocks n ∙ ap (option_map row) e

  pub edge_of : (a b : ℕ) → IsEdge (plain_body m f) a b → GoesFrom a b
  edge_of a b h =
      let c = block_of a h.0 h.1 in
      let goes : Has (formed.targets (row c.0).end) b = subst (λ (k : FlatBlock). Has (formed.targets k.end) b) (sym c.2) (has_in (formed.targets h.0.end) b h.2) in
      (c.0, c.1, end_target m (numbers f) c.0.end b goes)

  pub edge_there : (a b : ℕ) → GoesFrom a b → IsEdge (plain_body m f) a b
  edge_there a b (c, at, (x, goes, is)) =
      let there : Has (formed.targets (row c).end) b = subst (Has (formed.targets (row c).end)) is (target_there m (numbers f) c.end x goes) in
      (row c, block_there a c at, contains (formed.targets (row c).end) b there)
