-- A formed body with its constants folded is formed.
use Rattle.std.proofs.Common.{◌≡◌, ◌≢◌, ◌⊎◌, inl, inr, ℕ, ◌<◌, ◌≤◌, List, [], ◌∷◌, ◌++◌, map, length, Option, Some, None, slice_get, All, AllPairs, Contains, refl, sym, ap, ap₂, ◌∙◌, subst}
use Rattle.std.specs.List.{flat_map}
use Rattle.std.specs.Option.{unwrap_or}
use Rattle.std.proofs.lemmas.List.Elements.{All-contains, All-contains_itself, All-map}
use Rattle.ir_core.specs.declared.flat.Scalar.{Scalar}
use Rattle.ir_core.specs.declared.flat.FlatOp.{FlatOp}
use Rattle.ir_core.specs.declared.flat.FlatOp.TheVariants.{Reg, Word, Null, Address, Poison}
use Rattle.ir_core.specs.declared.flat.Entry.{Entry}
use Rattle.ir_core.specs.declared.flat.Phi.{Phi}
use Rattle.ir_core.specs.declared.flat.FlatInstr.{FlatInstr}
use Rattle.ir_core.specs.declared.flat.FlatBlock.{FlatBlock}
use Rattle.ir_core.specs.declared.flat.FlatBody.{FlatBody}
use Rattle.ir_core.specs.Formed.{FuncType, HasType, IsTyped, IsBlock, IsEdge, DefinedFirst, ComesFirst, IsPhi, IsFormedBody, IsEndTyped, IsParamOrWritten, written_by, used_by, used_at_end, uses, all_uses}
use Rattle.ir_core.proofs.Lists.{Has, contains, has_in, has_left, has_right, has_part, has_mapped, map_source}
use Rattle.ir_safety.proofs.Elements.{split, in_part}
use Rattle.const_fold.specs.Operands.{end_with_operands}
use Rattle.const_fold.specs.FoldConstants.{Facts, known, all_facts, entry_with, phi_with, instr_with, block_with, body_with, constants_folded}
use Rattle.const_fold.proofs.Shapes.{made_at, mapped_at, map_length, SameShape, same_length, Reshaped, edge_back, path_back, comes_first, writes_same, param_or_written}
use Rattle.const_fold.proofs.FactTypes.{Fits, FactsFit, known_typed, facts_fit}
use Rattle.const_fold.proofs.WithFacts as rows
use Rattle.const_fold.proofs.WithOperands as operands

each_all : {A : Type 0} (P : A → Type 0) (xs : List A) → ((x : A) → Has xs x → P x) → All P xs
each_all P xs h = λ k d lt. h _ (has_in xs _ (All-contains_itself xs k d lt))

-- what holds of an operand and of constants holds of what is known of it
known_keeps : (types : ℕ → Scalar) (facts : Facts) → FactsFit types facts → (P : FlatOp → Type 0) → ((c : FlatOp) (s : Scalar) → Fits c s → P c) → (o : FlatOp) → P o → P (known facts o)
known_keeps types facts fit P const (Reg r) h = by_fact (facts r.0) refl
  where
    by_fact : (f : Option FlatOp) → facts r.0 ≡ f → P (unwrap_or f (Reg r))
    by_fact None is = h
    by_fact (Some c) is = const c (types r.0) (fit r.0 c is)
known_keeps types facts fit P const (Word a) h = h
known_keeps types facts fit P const Null h = h
known_keeps types facts fit P const (Address g k) h = h
known_keeps types facts fit P const Poison h = h

constant_first : (body : FlatBody) (older : List ℕ) (k : FlatBlock) (n : ℕ) (c : FlatOp) (s : Scalar) → Fits c s → ComesFirst body older k n c
constant_first body older k n (Reg r) s h = absurd h
constant_first body older k n (Word a) s h = tt
constant_first body older k n Null s h = tt
constant_first body older k n (Address g j) s h = tt
constant_first body older k n Poison s h = tt

constant_there : (body : FlatBody) (c : FlatOp) (s : Scalar) → Fits c s → IsParamOrWritten body c
constant_there body (Reg r) s h = absurd h
constant_there body (Word a) s h = tt
constant_there body Null s h = tt
constant_there body (Address g j) s h = tt
constant_there body Poison s h = tt

same_regs : (facts : Facts) (fs : List Phi) → map (λ (g : Phi). g.reg.0) (map (phi_with facts) fs) ≡ map (λ (g : Phi). g.reg.0) fs
same_regs facts [] = refl
same_regs facts (f ∷ fs) = ap (λ rs. f.reg.0 ∷ rs) (same_regs facts fs)

same_code : (facts : Facts) (is : List FlatInstr) → map written_by (map (instr_with facts) is) ≡ map written_by is
same_code facts [] = refl
same_code facts (i ∷ is) = ap₂ (λ w ws. w ∷ ws) (rows.writes_same facts i) (same_code facts is)

module _ (types : ℕ → Scalar) (funcs : ℕ → FuncType) (own : FuncType) (old : FlatBody) (facts : Facts) (fit : FactsFit types facts) (h : IsFormedBody types funcs own old) where
  abbrev new : FlatBody
  new = body_with facts old

  shape : (k : FlatBlock) → SameShape k (block_with facts k)
  shape k = record {
    phis = same_regs facts k.phis;
    code = same_code facts k.code;
    edges = λ c in_it. subst (λ ts. Contains ts c) (operands.same_targets (known facts) k.end) in_it;
  }

  pub from_old : (b : ℕ) (l : FlatBlock) → IsBlock new b l → (k : FlatBlock) × IsBlock old b k × (l ≡ block_with facts k)
  from_old b l e = let r = made_at (block_with facts) old.blocks b l e in (r.0, r.1, sym r.2)

  pub reshaped : Reshaped old new
  reshaped = record {
    params = refl;
    count = map_length (block_with facts) old.blocks;
    back = λ b l e. let k = from_old b l e in (k.0, k.1, subst (SameShape k.0) (sym k.2) (shape k.0));
    forth = λ b k e. (block_with facts k, mapped_at (block_with facts) old.blocks b k e, shape k);
  }

  edge_forth : (a b : ℕ) → IsEdge old a b → IsEdge new a b
  edge_forth a b e = (block_with facts e.0, mapped_at (block_with facts) old.blocks a e.0 e.1, subst (λ ts. Contains ts b) (sym (operands.same_targets (known facts) e.0.end)) e.2)

  entry_from : (f : Phi) (e : Entry) → Contains (map (entry_with facts) f.entries) e → (x : Entry) × Contains f.entries x × (entry_with facts x ≡ e)
  entry_from f e in_it = let x = map_source (entry_with facts) f.entries e (has_in (map (entry_with facts) f.entries) e in_it) in (x.0, contains f.entries x.0 x.1, x.2)

  is_phi : (b : ℕ) (g : Phi) → IsPhi old b g → IsPhi new b (phi_with facts g)
  is_phi b g i = record {
    only = λ e in_it.
        let x = entry_from g e in_it in
        subst (λ (y : Entry). IsEdge new y.from.0 b) x.2 (edge_forth x.0.from.0 b (i.only x.0 x.1));
    each = λ a edge.
        let x = i.each a (edge_back old new reshaped a b edge) in
        (entry_with facts x.0, contains (map (entry_with facts) g.entries) (entry_with facts x.0) (has_mapped (entry_with facts) g.entries x.0 (has_in g.entries x.0 x.1)), x.2);
    equal = λ e f in_e in_f same.
        let x = entry_from g e in_e in
        let y = entry_from g f in_f in
        let from : x.0.from.0 ≡ y.0.from.0 = ap (λ (z : Entry). z.from.0) x.2 ∙ same ∙ sym (ap (λ (z : Entry). z.from.0) y.2) in
        sym (ap (λ (z : Entry). z.value) x.2) ∙ ap (known facts) (i.equal x.0 y.0 x.1 y.1 from) ∙ ap (λ (z : Entry). z.value) y.2;
  }

  phi_from : (b : ℕ) (l : FlatBlock) (g : Phi) → IsBlock new b l → Contains l.phis g → (k : FlatBlock) × (f : Phi) × IsBlock old b k × Contains k.phis f × (phi_with facts f ≡ g)
  phi_from b l g e in_it =
      let k = from_old b l e in
      let f = map_source (phi_with facts) k.0.phis g (has_in (map (phi_with facts) k.0.phis) g (subst (λ (x : FlatBlock). Contains x.phis g) k.2 in_it)) in
      (k.0, f.0, k.1, contains k.0.phis f.0 f.1, f.2)

  instr_from : (b n : ℕ) (l : FlatBlock) (i : FlatInstr) → IsBlock new b l → slice_get l.code n ≡ Some i → (k : FlatBlock) × (j : FlatInstr) × IsBlock old b k × (slice_get k.code n ≡ Some j) × (instr_with facts j ≡ i) × (l ≡ block_with facts k)
  instr_from b n l i e at' =
      let k = from_old b l e in
      let j = made_at (instr_with facts) k.0.code n i (subst (λ (x : FlatBlock). slice_get x.code n ≡ Some i) k.2 at') in
      (k.0, j.0, k.1, j.1, j.2, k.2)

  -- ---- operands

  abbrev phi_uses : List Phi → List FlatOp
  phi_uses fs = flat_map (λ (f : Phi). map (λ (e : Entry). e.value) f.entries) fs

  abbrev code_uses : List FlatInstr → List FlatOp
  code_uses is = flat_map used_by is

  -- an operand that is used is what is known of one that was used
  uses_from : (k : FlatBlock) (o : FlatOp) → Has (uses (block_with facts k)) o → (p : FlatOp) × Has (uses k) p × (known facts p ≡ o)
  uses_from k o g = by_part (split (phi_uses (map (phi_with facts) k.phis) ++ code_uses (map (instr_with facts) k.code)) (used_at_end (end_with_operands (known facts) k.end)) o g)
    where
      of_phis : Has (phi_uses (map (phi_with facts) k.phis)) o → (p : FlatOp) × Has (uses k) p × (known facts p ≡ o)
      of_phis g =
          let part = in_part (λ (f : Phi). map (λ (e : Entry). e.value) f.entries) (map (phi_with facts) k.phis) o g in
          let f = map_source (phi_with facts) k.phis part.0 part.1 in
          let e = map_source (λ (e : Entry). e.value) part.0.entries o part.2 in
          let x = map_source (entry_with facts) f.0.entries e.0 (subst (λ (y : Phi). Has y.entries e.0) (sym f.2) e.1) in (
            x.0.value,
            has_left (phi_uses k.phis ++ code_uses k.code) (used_at_end k.end) x.0.value
                (has_left (phi_uses k.phis) (code_uses k.code) x.0.value
                (has_part (λ (f : Phi). map (λ (e : Entry). e.value) f.entries) k.phis f.0 x.0.value f.1 (has_mapped (λ (e : Entry). e.value) f.0.entries x.0 x.1))),
            ap (λ (y : Entry). y.value) x.2 ∙ e.2,
          )

      of_code : Has (code_uses (map (instr_with facts) k.code)) o → (p : FlatOp) × Has (uses k) p × (known facts p ≡ o)
      of_code g =
          let part = in_part used_by (map (instr_with facts) k.code) o g in
          let j = map_source (instr_with facts) k.code part.0 part.1 in
          let p = rows.instr_uses facts j.0 o (subst (λ i. Has (used_by i) o) (sym j.2) part.2) in (
            p.0,
            has_left (phi_uses k.phis ++ code_uses k.code) (used_at_end k.end) p.0 (has_right (phi_uses k.phis) (code_uses k.code) p.0 (has_part used_by k.code j.0 p.0 j.1 p.1)),
            p.2,
          )

      by_first : Has (phi_uses (map (phi_with facts) k.phis)) o ⊎ Has (code_uses (map (instr_with facts) k.code)) o → (p : FlatOp) × Has (uses k) p × (known facts p ≡ o)
      by_first (inl g) = of_phis g
      by_first (inr g) = of_code g

      by_part : Has (phi_uses (map (phi_with facts) k.phis) ++ code_uses (map (instr_with facts) k.code)) o ⊎ Has (used_at_end (end_with_operands (known facts) k.end)) o → (p : FlatOp) × Has (uses k) p × (known facts p ≡ o)
      by_part (inl g) = by_first (split (phi_uses (map (phi_with facts) k.phis)) (code_uses (map (instr_with facts) k.code)) o g)
      by_part (inr g) = let p = operands.end_uses (known facts) k.end o g in (p.0, has_right (phi_uses k.phis ++ code_uses k.code) (used_at_end k.end) p.0 p.1, p.2)

  pub all_uses_from : (o : FlatOp) → Has (all_uses new) o → (p : FlatOp) × Has (all_uses old) p × (known facts p ≡ o)
  all_uses_from o g =
      let part = in_part uses (map (block_with facts) old.blocks) o g in
      let k = map_source (block_with facts) old.blocks part.0 part.1 in
      let p = uses_from k.0 o (subst (λ (l : FlatBlock). Has (uses l) o) (sym k.2) part.2) in
      (p.0, has_part uses old.blocks k.0 p.0 k.1 p.1, p.2)

  -- ---- what comes first

  first_of : (older : List ℕ) (k : FlatBlock) (n : ℕ) (p : FlatOp) → ComesFirst old older k n p → ComesFirst new older (block_with facts k) n (known facts p)
  first_of older k n p first =
      known_keeps types facts fit (ComesFirst new older (block_with facts k) n) (constant_first new older (block_with facts k) n) p (comes_first old new reshaped older k (block_with facts k) (shape k) n p first)

  first_at_end : (older : List ℕ) (k : FlatBlock) (p : FlatOp) → ComesFirst old older k (length k.code) p → ComesFirst new older (block_with facts k) (length (block_with facts k).code) (known facts p)
  first_at_end older k p first = subst (λ n. ComesFirst new older (block_with facts k) n (known facts p)) (sym (same_length k (block_with facts k) (shape k))) (first_of older k (length k.code) p first)

  first_defined : DefinedFirst new
  first_defined = record {
    by_code = λ b older l n i path e at'.
        let j = instr_from b n l i e at' in
        let first = h.defined_first.by_code b older j.0 n j.1 (path_back old new reshaped (b ∷ older) path) j.2 j.3 in
        each_all (ComesFirst new older l n) (used_by i) (λ o in_it.
        let p = rows.instr_uses facts j.1 o (subst (λ x. Has (used_by x) o) (sym j.4) in_it) in
        subst (λ z. ComesFirst new older z n o) (sym j.5) (subst (ComesFirst new older (block_with facts j.0) n) p.2
        (first_of older j.0 n p.0 (All-contains (ComesFirst old older j.0 n) (used_by j.1) p.0 first (contains (used_by j.1) p.0 p.1)))));
    by_end = λ b older l path e.
        let k = from_old b l e in
        let first = h.defined_first.by_end b older k.0 (path_back old new reshaped (b ∷ older) path) k.1 in
        each_all (ComesFirst new older l (length l.code)) (used_at_end l.end) (λ o in_it.
        let p = operands.end_uses (known facts) k.0.end o (subst (λ (x : FlatBlock). Has (used_at_end x.end) o) k.2 in_it) in
        subst (λ (z : FlatBlock). ComesFirst new older z (length z.code) o) (sym k.2) (subst (ComesFirst new older (block_with facts k.0) (length (block_with facts k.0).code)) p.2
        (first_at_end older k.0 p.0 (All-contains (ComesFirst old older k.0 (length k.0.code)) (used_at_end k.0.end) p.0 first (contains (used_at_end k.0.end) p.0 p.1)))));
    by_phi = λ b c older l z g e path is_l is_z in_z in_g from.
        let k = from_old b l is_l in
        let f = phi_from c z g is_z in_z in
        let x = entry_from f.1 e (subst (λ (y : Phi). Contains y.entries e) (sym f.4) in_g) in
        let was : x.0.from.0 ≡ b = ap (λ (y : Entry). y.from.0) x.2 ∙ from in
        let first = h.defined_first.by_phi b c older k.0 f.0 f.1 x.0 (path_back old new reshaped (c ∷ b ∷ older) path) k.1 f.2 f.3 x.1 was in
        subst (λ (z : FlatBlock). ComesFirst new older z (length z.code) e.value) (sym k.2) (subst (ComesFirst new older (block_with facts k.0) (length (block_with facts k.0).code)) (ap (λ (y : Entry). y.value) x.2)
        (first_at_end older k.0 x.0.value first));
  }

  pub with_facts_formed : IsFormedBody types funcs own new
  with_facts_formed = record {
    entry =
        let k = h.entry in
        (block_with facts k.0, mapped_at (block_with facts) old.blocks 0 k.0 k.1, ap (map (phi_with facts)) k.2);
    no_way_back = λ a e. h.no_way_back a (edge_back old new reshaped a 0 e);
    few_params = h.few_params;
    numbers = (h.numbers.0, subst (λ n. n < 4294967296) (sym reshaped.count) h.numbers.1);
    own_params = h.own_params;
    in_range = λ b c e. subst (λ n. c < n) (sym reshaped.count) (h.in_range b c (edge_back old new reshaped b c e));
    phis = λ b l g e in_it.
        let f = phi_from b l g e in_it in
        let old_phi = h.phis b f.0 f.1 f.2 f.3 in
        subst (λ (x : Phi). IsPhi new b x × (x.reg.0 < old.regs) × All (λ (y : Entry). HasType types y.value (types x.reg.0)) x.entries) f.4
        (is_phi b f.1 old_phi.0, old_phi.1, All-map (λ (y : Entry). HasType types y.value (types f.1.reg.0)) (entry_with facts) f.1.entries (λ n d lt. known_typed types facts fit _ _ (old_phi.2 n d lt)));
    code = λ b n l i e at'.
        let j = instr_from b n l i e at' in
        subst (IsTyped types funcs) j.4 (rows.instr_typed types funcs facts (known_typed types facts fit) j.1 (h.code b n j.0 j.1 j.2 j.3));
    written_once = subst (AllPairs (λ r s. r ≢ s)) (sym (writes_same old new reshaped)) h.written_once;
    written = subst (All (λ r. (old.params ≤ r) × (r < old.regs))) (sym (writes_same old new reshaped)) h.written;
    used = each_all (IsParamOrWritten new) (all_uses new) (λ o in_it.
        let p = all_uses_from o in_it in
        subst (IsParamOrWritten new) p.2 (known_keeps types facts fit (IsParamOrWritten new) (constant_there new) p.0
        (param_or_written old new reshaped p.0 (All-contains (IsParamOrWritten old) (all_uses old) p.0 h.used (contains (all_uses old) p.0 p.1)))));
    ends = λ b l e. let k = from_old b l e in subst (λ (x : FlatBlock). IsEndTyped types own.result x.end) (sym k.2) (operands.end_typed types funcs (known facts) (known_typed types facts fit) own.result k.0.end (h.ends b k.0 k.1));
    defined_first = first_defined;
  }

pub constants_formed : (types : ℕ → Scalar) (funcs : ℕ → FuncType) (own : FuncType) (b : FlatBody) → IsFormedBody types funcs own b → IsFormedBody types funcs own (constants_folded b)
unfolding constants_folded
constants_formed types funcs own b h = with_facts_formed types funcs own b (all_facts b) (facts_fit types funcs own b h) h
