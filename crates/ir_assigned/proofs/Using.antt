-- The uses that are listed are all uses.
use Rattle.std.proofs.Common.{◌≡◌, ◌⊎◌, inl, inr, ⊎_elim, ℕ, zero, suc, ◌+◌, ◌<◌, List, [], ◌∷◌, ◌++◌, length, Option, Some, None, slice_get, refl, sym, ap, ◌∙◌, subst, arith}
use Rattle.std.specs.List.{flat_map}
use Rattle.std.proofs.lemmas.Option.{slice_get_within}
use Rattle.oi_base.specs.declared.ids.Place.{Place}
use Rattle.ir_core.specs.declared.ty.IrType.{IrType}
use Rattle.ir_core.specs.declared.op.LocalId.{LocalId}
use Rattle.ir_core.specs.declared.op.Operand.{Operand}
use Rattle.ir_core.specs.declared.op.Operand.TheVariants.{Local, Const}
use Rattle.ir_core.specs.declared.op.Pair.{Pair}
use Rattle.ir_core.specs.declared.op.Op.{Op}
use Rattle.ir_core.specs.declared.op.Op.TheVariants.{Bin, Icmp, Select, Cast, Alloca, Load, Store, Gep, Phi, Call}
use Rattle.ir_core.specs.declared.func.Instr.{Instr}
use Rattle.ir_core.specs.declared.func.Block.{Block}
use Rattle.ir_core.specs.declared.func.Func.{Func}
use Rattle.ir_core.specs.Parts.{op_values, end_values, operand_locals}
use Rattle.ir_core.specs.ValidFunc.{IsPhi}
use Rattle.ir_core.specs.ValidPaths.{IsBlockOf, IsUsedInCode, IsUsedAtEnd, IsUsedByPhi, IsUse}
use Rattle.ir_core.proofs.Lists.{Has, has_left, has_right, has_part, has_at, at_has, contains}
use Rattle.ir_assigned.specs.declared.uses.Reader.{Reader}
use Rattle.ir_assigned.specs.declared.uses.Use.{Use}
use Rattle.ir_assigned.specs.Names.{found, AreLabels, LabelsDiffer}
use Rattle.ir_assigned.specs.Uses.{use_at, uses_of, uses_in, at_end, op_uses, entry_uses, phi_uses, instr_uses, code_uses, block_uses, blocks_uses, all_uses}
use Rattle.ir_assigned.proofs.Tables.{some_value, one_at}
use Rattle.ir_assigned.proofs.Paths.{has_contained}

-- ---- lists

has_cases : {A : Type 0} (xs ys : List A) (x : A) → Has (xs ++ ys) x → Has xs x ⊎ Has ys x
has_cases [] ys x h = inr h
has_cases (z ∷ zs) ys x (inl e) = inl (inl e)
has_cases (z ∷ zs) ys x (inr h) = ⊎_elim (λ l. inl (inr l)) (λ r. inr r) (has_cases zs ys x h)

has_from : {A B : Type 0} (g : A → List B) (xs : List A) (y : B) → Has (flat_map g xs) y → (x : A) × Has xs x × Has (g x) y
has_from g [] y h = absurd h
has_from g (x ∷ xs) y h = ⊎_elim (λ l. (x, inl refl, l)) (λ r. let s = has_from g xs y r in (s.0, inr s.1, s.2)) (has_cases (g x) (flat_map g xs) y h)

-- ---- what one thing reads

is_use_at : (r : Reader) (vs : List Operand) (u : Use) → Has (uses_in r vs) u → (x : LocalId) × (use_at r x ≡ u) × Has (flat_map operand_locals vs) x
is_use_at r [] u h = absurd h
is_use_at r (Local x ∷ vs) u (inl e) = (x, e, inl refl)
is_use_at r (Local x ∷ vs) u (inr h) = let s = is_use_at r vs u h in (s.0, s.1, inr s.2)
is_use_at r (Const c ∷ vs) u h = is_use_at r vs u h

has_use_at : (r : Reader) (vs : List Operand) (x : LocalId) → Has (flat_map operand_locals vs) x → Has (uses_in r vs) (use_at r x)
has_use_at r [] x h = absurd h
has_use_at r (Local y ∷ vs) x (inl e) = inl (ap (use_at r) e)
has_use_at r (Local y ∷ vs) x (inr h) = inr (has_use_at r vs x h)
has_use_at r (Const c ∷ vs) x h = has_use_at r vs x h

-- an instruction that is no phi reads its values
plain : (r : Reader) (op : Op) (u : Use) → Has (op_uses r op) u → (IsPhi op → ⊥) × Has (uses_in r (op_values op)) u
plain r (Bin o t a b) u h = (λ p. p, h)
plain r (Icmp o t a b) u h = (λ p. p, h)
plain r (Select o a b) u h = (λ p. p, h)
plain r (Cast o a t) u h = (λ p. p, h)
plain r (Alloca t n a) u h = (λ p. p, h)
plain r (Load t a n) u h = (λ p. p, h)
plain r (Store a p n) u h = (λ p. p, h)
plain r (Gep t a is) u h = (λ p. p, h)
plain r (Phi t es) u h = absurd h
plain r (Call t g as') u h = (λ p. p, h)

plain_has : (r : Reader) (op : Op) (u : Use) → (IsPhi op → ⊥) → Has (uses_in r (op_values op)) u → Has (op_uses r op) u
plain_has r (Bin o t a b) u free h = h
plain_has r (Icmp o t a b) u free h = h
plain_has r (Select o a b) u free h = h
plain_has r (Cast o a t) u free h = h
plain_has r (Alloca t n a) u free h = h
plain_has r (Load t a n) u free h = h
plain_has r (Store a p n) u free h = h
plain_has r (Gep t a is) u free h = h
plain_has r (Phi t es) u free h = absurd (free tt)
plain_has r (Call t g as') u free h = h

module _ (labels : List (Option ℕ)) (blocks : List Block) where
  phi_from : (p : Place) (op : Op) (u : Use) → Has (phi_uses labels blocks p op) u → (t : IrType) × (es : List Pair) × (op ≡ Phi t es) × Has (flat_map (entry_uses labels blocks p) es) u
  phi_from p (Bin o t a b) u h = absurd h
  phi_from p (Icmp o t a b) u h = absurd h
  phi_from p (Select o a b) u h = absurd h
  phi_from p (Cast o a t) u h = absurd h
  phi_from p (Alloca t n a) u h = absurd h
  phi_from p (Load t a n) u h = absurd h
  phi_from p (Store a q n) u h = absurd h
  phi_from p (Gep t a is) u h = absurd h
  phi_from p (Phi t es) u h = (t, es, refl, h)
  phi_from p (Call t g as') u h = absurd h

  -- an entry, where its label is known
  pub entry_at : (p : Place) (e : Pair) (b : ℕ) (k : Block) → found labels e.from.0 ≡ Some b → slice_get blocks b ≡ Some k → entry_uses labels blocks p e ≡ uses_of (at_end b k p) e.value
  entry_at p e b k leads at = rw leads (rw at refl)

  pub entry_none : (p : Place) (e : Pair) → found labels e.from.0 ≡ None → entry_uses labels blocks p e ≡ []
  entry_none p e none = rw none refl

  pub entry_past : (p : Place) (e : Pair) (b : ℕ) → found labels e.from.0 ≡ Some b → slice_get blocks b ≡ None → entry_uses labels blocks p e ≡ []
  entry_past p e b leads none = rw leads (rw none refl)

  -- where an entry's use comes from
  entry_from : (p : Place) (e : Pair) (u : Use) → Has (entry_uses labels blocks p e) u → (b : ℕ) × (k : Block) × (x : LocalId) × (found labels e.from.0 ≡ Some b) × (slice_get blocks b ≡ Some k) × (use_at (at_end b k p) x ≡ u) × (e.value ≡ Local x)
  entry_from p e u h = by_label (found labels e.from.0) refl
    where
      by_value : (b : ℕ) (k : Block) (v : Operand) → Has (uses_of (at_end b k p) v) u → (x : LocalId) × (use_at (at_end b k p) x ≡ u) × (v ≡ Local x)
      by_value b k (Local x) (inl s) = (x, s, refl)
      by_value b k (Local x) (inr s) = absurd s
      by_value b k (Const c) s = absurd s

      by_block : (b : ℕ) (o : Option Block) → found labels e.from.0 ≡ Some b → slice_get blocks b ≡ o → (c : ℕ) × (k : Block) × (x : LocalId) × (found labels e.from.0 ≡ Some c) × (slice_get blocks c ≡ Some k) × (use_at (at_end c k p) x ≡ u) × (e.value ≡ Local x)
      by_block b None leads at = absurd (subst (λ us. Has us u) (entry_past p e b leads at) h)
      by_block b (Some k) leads at = let r = by_value b k e.value (subst (λ us. Has us u) (entry_at p e b k leads at) h) in (b, k, r.0, leads, at, r.1, r.2)

      by_label : (o : Option ℕ) → found labels e.from.0 ≡ o → (c : ℕ) × (k : Block) × (x : LocalId) × (found labels e.from.0 ≡ Some c) × (slice_get blocks c ≡ Some k) × (use_at (at_end c k p) x ≡ u) × (e.value ≡ Local x)
      by_label None none = absurd (subst (λ us. Has us u) (entry_none p e none) h)
      by_label (Some b) leads = by_block b (slice_get blocks b) leads refl

module _ (f : Func) (labels : List (Option ℕ)) (are : AreLabels f labels) where
  abbrev Used : Use → Type 0
  Used u = IsUse f u.block u.at u.local u.place

  -- ---- what is listed is a use

  module _ (b : ℕ) (k : Block) (here : IsBlockOf f b k) (u : Use) where
    phi_used : (i : Instr) → Has k.code i → Has (phi_uses labels f.blocks i.place i.op) u → Used u
    phi_used i among h =
        let r = phi_from labels f.blocks i.place i.op u h in
        let e = has_from (entry_uses labels f.blocks i.place) r.1 u r.3 in
        let s = entry_from labels f.blocks i.place e.0 u e.2 in
        let l = are.only e.0.from s.0 s.3 in
        let same : l.0 ≡ s.1 = one_at f.blocks s.0 l.0 s.1 l.1 s.4 in
        let from : e.0.from ≡ s.1.label = sym (sym (ap Block.label same) ∙ l.2) in
        subst Used s.5 (inr (inr (s.1, k, i, r.0, r.1, e.0, s.4, refl, contains f.blocks k (has_at f.blocks b k here), contains k.code i among, refl, r.2, contains r.1 e.0 e.1, from, s.6)))

    instr_used : (n : ℕ) (i : Instr) → slice_get k.code n ≡ Some i → Has (instr_uses labels f.blocks b n i) u → Used u
    instr_used n i at h = ⊎_elim
        (λ l.
        let p = plain (record { block = b; at = n; place = i.place }) i.op u l in
        let x = is_use_at (record { block = b; at = n; place = i.place }) (op_values i.op) u p.1 in
        subst Used x.1 (inl (k, i, here, at, refl, p.0, contains (flat_map operand_locals (op_values i.op)) x.0 x.2)))
        (phi_used i (has_at k.code n i at))
        (has_cases (op_uses (record { block = b; at = n; place = i.place }) i.op) (phi_uses labels f.blocks i.place i.op) u h)

    code_used : (is : List Instr) (n : ℕ) → ((j : ℕ) (i : Instr) → slice_get is j ≡ Some i → slice_get k.code (n + j) ≡ Some i) → Has (code_uses labels f.blocks b n is) u → Used u
    code_used [] n at h = absurd h
    code_used (i ∷ is) n at h = ⊎_elim
        (instr_used n i (let z : n + 0 ≡ n = omega arith in subst (λ m. slice_get k.code m ≡ Some i) z (at 0 i refl)))
        (code_used is (n + 1) (λ j d e. let z : n + suc j ≡ n + 1 + j = omega arith in subst (λ m. slice_get k.code m ≡ Some d) z (at (suc j) d e)))
        (has_cases (instr_uses labels f.blocks b n i) (code_uses labels f.blocks b (n + 1) is) u h)

    block_used : Has (block_uses labels f.blocks b k) u → Used u
    block_used h = ⊎_elim
        (code_used k.code 0 (λ j i e. let z : j ≡ 0 + j = omega arith in subst (λ m. slice_get k.code m ≡ Some i) z e))
        (λ r.
        let x = is_use_at (at_end b k k.end_place) (end_values k.end) u r in
        subst Used x.1 (inr (inl (k, here, refl, refl, contains (flat_map operand_locals (end_values k.end)) x.0 x.2))))
        (has_cases (code_uses labels f.blocks b 0 k.code) (uses_in (at_end b k k.end_place) (end_values k.end)) u h)

  blocks_used : (ks : List Block) (b : ℕ) (u : Use) → ((j : ℕ) (k : Block) → slice_get ks j ≡ Some k → IsBlockOf f (b + j) k) → Has (blocks_uses labels f.blocks b ks) u → Used u
  blocks_used [] b u at h = absurd h
  blocks_used (k ∷ ks) b u at h = ⊎_elim
      (block_used b k (let z : b + 0 ≡ b = omega arith in subst (λ m. IsBlockOf f m k) z (at 0 k refl)) u)
      (blocks_used ks (b + 1) u (λ j l e. let z : b + suc j ≡ b + 1 + j = omega arith in subst (λ m. IsBlockOf f m l) z (at (suc j) l e)))
      (has_cases (block_uses labels f.blocks b k) (blocks_uses labels f.blocks (b + 1) ks) u h)

  pub listed_is_use : (u : Use) → Has (all_uses labels f.blocks) u → Used u
  listed_is_use u h = blocks_used f.blocks 0 u (λ j k e. let z : j ≡ 0 + j = omega arith in subst (λ m. IsBlockOf f m k) z e) h

  -- ---- a use is listed

  in_blocks : (ks : List Block) (b j : ℕ) (k : Block) (u : Use) → slice_get ks j ≡ Some k → Has (block_uses labels f.blocks (b + j) k) u → Has (blocks_uses labels f.blocks b ks) u
  in_blocks [] b j k u e h = cc
  in_blocks (l ∷ ks) b zero k u e h =
      let same : l ≡ k = cc in
      let z : b + 0 ≡ b = omega arith in
      has_left (block_uses labels f.blocks b l) (blocks_uses labels f.blocks (b + 1) ks) u (subst (λ w. Has (block_uses labels f.blocks b w) u) (sym same) (subst (λ m. Has (block_uses labels f.blocks m k) u) z h))
  in_blocks (l ∷ ks) b (suc j) k u e h =
      let z : b + suc j ≡ b + 1 + j = omega arith in
      has_right (block_uses labels f.blocks b l) (blocks_uses labels f.blocks (b + 1) ks) u (in_blocks ks (b + 1) j k u e (subst (λ m. Has (block_uses labels f.blocks m k) u) z h))

  in_code : (is : List Instr) (b n j : ℕ) (i : Instr) (u : Use) → slice_get is j ≡ Some i → Has (instr_uses labels f.blocks b (n + j) i) u → Has (code_uses labels f.blocks b n is) u
  in_code [] b n j i u e h = cc
  in_code (d ∷ is) b n zero i u e h =
      let same : d ≡ i = cc in
      let z : n + 0 ≡ n = omega arith in
      has_left (instr_uses labels f.blocks b n d) (code_uses labels f.blocks b (n + 1) is) u (subst (λ w. Has (instr_uses labels f.blocks b n w) u) (sym same) (subst (λ m. Has (instr_uses labels f.blocks b m i) u) z h))
  in_code (d ∷ is) b n (suc j) i u e h =
      let z : n + suc j ≡ n + 1 + j = omega arith in
      has_right (instr_uses labels f.blocks b n d) (code_uses labels f.blocks b (n + 1) is) u (in_code is b (n + 1) j i u e (subst (λ m. Has (instr_uses labels f.blocks b m i) u) z h))

  in_block : (b : ℕ) (k : Block) (u : Use) → IsBlockOf f b k → Has (block_uses labels f.blocks b k) u → Has (all_uses labels f.blocks) u
  in_block b k u at h = let z : b ≡ 0 + b = omega arith in in_blocks f.blocks 0 b k u at (subst (λ m. Has (block_uses labels f.blocks m k) u) z h)

  in_instr : (b n : ℕ) (k : Block) (i : Instr) (u : Use) → IsBlockOf f b k → slice_get k.code n ≡ Some i → Has (instr_uses labels f.blocks b n i) u → Has (all_uses labels f.blocks) u
  in_instr b n k i u at here h =
      let z : n ≡ 0 + n = omega arith in
      in_block b k u at (has_left (code_uses labels f.blocks b 0 k.code) (uses_in (at_end b k k.end_place) (end_values k.end)) u (in_code k.code b 0 n i u here (subst (λ m. Has (instr_uses labels f.blocks b m i) u) z h)))

  abbrev made : ℕ → ℕ → LocalId → Place → Use
  made b n x p = record { block = b; at = n; place = p; local = x }

  code_listed : (b n : ℕ) (x : LocalId) (p : Place) → IsUsedInCode f b n x p → Has (all_uses labels f.blocks) (made b n x p)
  code_listed b n x p (k, i, at, here, place, free, among) =
      let r : Reader = record { block = b; at = n; place = i.place } in
      let h = has_use_at r (op_values i.op) x (has_contained (flat_map operand_locals (op_values i.op)) x among) in
      let h' = has_left (op_uses r i.op) (phi_uses labels f.blocks i.place i.op) (use_at r x) (plain_has r i.op (use_at r x) free h) in
      subst (λ q. Has (all_uses labels f.blocks) (made b n x q)) place (in_instr b n k i (use_at r x) at here h')

  end_listed : (b n : ℕ) (x : LocalId) (p : Place) → IsUsedAtEnd f b n x p → Has (all_uses labels f.blocks) (made b n x p)
  end_listed b n x p (k, at, last, place, among) =
      let r = at_end b k k.end_place in
      let h = has_use_at r (end_values k.end) x (has_contained (flat_map operand_locals (end_values k.end)) x among) in
      let h' = in_block b k (use_at r x) at (has_right (code_uses labels f.blocks b 0 k.code) (uses_in r (end_values k.end)) (use_at r x) h) in
      subst (λ m. Has (all_uses labels f.blocks) (made b m x p)) (sym last) (subst (λ q. Has (all_uses labels f.blocks) (made b (length k.code) x q)) place h')

  module _ (apart : LabelsDiffer f) where
    phi_listed : (b n : ℕ) (x : LocalId) (p : Place) → IsUsedByPhi f b n x p → Has (all_uses labels f.blocks) (made b n x p)
    phi_listed b n x p (k, l, i, t, es, e, at, last, in_func, in_code', place, phi, in_phi, from, value) =
        let v = some_value (found labels k.label.0) (are.each k.label b (slice_get_within f.blocks b k at) (k, at, refl)) in
        let there : v.0 ≡ b = apart k.label v.0 b (are.only k.label v.0 v.1) (k, at, refl) in
        let leads : found labels e.from.0 ≡ Some b = ap (λ (z : LocalId). found labels z.0) from ∙ v.1 ∙ ap Some there in
        let u = use_at (at_end b k i.place) x in
        let first : Has (uses_of (at_end b k i.place) e.value) u = subst (λ w. Has (uses_of (at_end b k i.place) w) u) (sym value) (inl refl) in
        let entry = subst (λ us. Has us u) (sym (entry_at labels f.blocks i.place e b k leads at)) first in
        let all = has_part (entry_uses labels f.blocks i.place) es e u (has_contained es e in_phi) entry in
        let h = subst (λ o. Has (phi_uses labels f.blocks i.place o) u) (sym phi) all in
        let m = at_has f.blocks l (has_contained f.blocks l in_func) in
        let j = at_has l.code i (has_contained l.code i in_code') in
        let h' = in_instr m.0 j.0 l i u m.1 j.1 (has_right (op_uses (record { block = m.0; at = j.0; place = i.place }) i.op) (phi_uses labels f.blocks i.place i.op) u h) in
        subst (λ o. Has (all_uses labels f.blocks) (made b o x p)) (sym last) (subst (λ q. Has (all_uses labels f.blocks) (made b (length k.code) x q)) place h')

    pub use_is_listed : (b n : ℕ) (x : LocalId) (p : Place) → IsUse f b n x p → Has (all_uses labels f.blocks) (record { block = b; at = n; place = p; local = x })
    use_is_listed b n x p (inl h) = code_listed b n x p h
    use_is_listed b n x p (inr (inl h)) = end_listed b n x p h
    use_is_listed b n x p (inr (inr h)) = phi_listed b n x p h

-- a use is in a block of the function
pub use_within : (f : Func) (b n : ℕ) (x : LocalId) (p : Place) → IsUse f b n x p → b < length f.blocks
use_within f b n x p (inl h) = slice_get_within f.blocks b h.0 h.2
use_within f b n x p (inr (inl h)) = slice_get_within f.blocks b h.0 h.1
use_within f b n x p (inr (inr h)) = slice_get_within f.blocks b h.0 h.6
