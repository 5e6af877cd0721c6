-- A formed body with its copies replaced is formed.
use Rattle.std.proofs.Common.{◌≡◌, ◌≢◌, ⊎_elim, ℕ, ◌<◌, ◌≤◌, List, [], ◌∷◌, ◌++◌, map, length, Option, Some, None, slice_get, All, AllPairs, Contains, refl, sym, ap, ap₂, ◌∙◌, subst}
use Rattle.std.specs.List.{flat_map}
use Rattle.std.proofs.lemmas.List.Elements.{All-contains, All-map}
use Rattle.ir_core.specs.declared.flat.Scalar.{Scalar}
use Rattle.ir_core.specs.declared.flat.FlatOp.{FlatOp}
use Rattle.ir_core.specs.declared.flat.FlatOp.TheVariants.{Reg, Word, Null, Address, Poison}
use Rattle.ir_core.specs.declared.flat.Entry.{Entry}
use Rattle.ir_core.specs.declared.flat.Phi.{Phi}
use Rattle.ir_core.specs.declared.flat.FlatInstr.{FlatInstr}
use Rattle.ir_core.specs.declared.flat.FlatBlock.{FlatBlock}
use Rattle.ir_core.specs.declared.flat.FlatBody.{FlatBody}
use Rattle.ir_core.specs.Formed.{FuncType, HasType, IsTyped, IsBlock, IsEdge, IsPath, DefinedFirst, ComesFirst, IsPhi, IsFormedBody, IsEndTyped, IsParamOrWritten, written_by, used_by, used_at_end, uses, all_uses}
use Rattle.ir_core.proofs.Lists.{Has, at_has, contains, has_in, has_at, has_mapped, has_part, map_source}
use Rattle.ir_safety.proofs.Elements.{split, in_part}
use Rattle.const_fold.specs.Operands.{end_with_operands}
use Rattle.const_fold.proofs.Shapes.{made_at, mapped_at, map_length, SameShape, same_length, Reshaped, edge_back, path_back, comes_first, writes_same, param_or_written}
use Rattle.const_fold.proofs.WithOperands.{same_targets, end_typed}
use Rattle.const_fold.proofs.WithOperands as rows
use Rattle.local_passes.specs.LocalCopies.{Sources, source, from_source, end_sources, sources_from, entry_copied, phi_copied, instr_copied, code_copied, block_copied, all_ends, copies_replaced}
use Rattle.local_passes.specs.DropDead.{values}
use Rattle.local_passes.proofs.Needing.{of_phi, of_instr, of_end}
use Rattle.local_passes.proofs.Numbered.{numbered_source, numbered_same}
use Rattle.local_passes.proofs.SourceLaws.{source_typed, source_there, source_first}
use Rattle.local_passes.proofs.Sublists.{each_all}

-- what holds of a register's source holds of an operand
with_source : (s : Sources) (P Q : FlatOp → Type 0) → ((r : ℕ) → P (Reg (record { 0 = r })) → Q (Reg (record { 0 = s r }))) → ((o : FlatOp) → P o → Q o) → (o : FlatOp) → P o → Q (from_source s o)
with_source s P Q reg other (Reg r) h = reg r.0 h
with_source s P Q reg other (Word a) h = other (Word a) h
with_source s P Q reg other Null h = other Null h
with_source s P Q reg other (Address g k) h = other (Address g k) h
with_source s P Q reg other Poison h = other Poison h

same_regs : (ends : ℕ → Sources) (fs : List Phi) → map (λ (g : Phi). g.reg.0) (map (phi_copied ends) fs) ≡ map (λ (g : Phi). g.reg.0) fs
same_regs ends [] = refl
same_regs ends (f ∷ fs) = ap (λ rs. f.reg.0 ∷ rs) (same_regs ends fs)

module _ (types : ℕ → Scalar) (funcs : ℕ → FuncType) (own : FuncType) (old : FlatBody) (h : IsFormedBody types funcs own old) where
  abbrev ends : ℕ → Sources
  ends = all_ends old

  abbrev copied : FlatBlock → FlatBlock
  copied k = block_copied ends k

  abbrev new : FlatBody
  new = record old { blocks = map copied old.blocks }

  shape : (k : FlatBlock) → SameShape k (copied k)
  shape k = record {
    phis = same_regs ends k.phis;
    code = numbered_same (instr_copied k.code) written_by (λ n i. rows.writes_same (from_source (source k.code n)) i) 0 k.code;
    edges = λ c in_it. subst (λ ts. Contains ts c) (same_targets (from_source (end_sources k)) k.end) in_it;
  }

  from_old : (b : ℕ) (l : FlatBlock) → IsBlock new b l → (k : FlatBlock) × IsBlock old b k × (l ≡ copied k)
  from_old b l e = let r = made_at copied old.blocks b l e in (r.0, r.1, sym r.2)

  reshaped : Reshaped old new
  reshaped = record {
    params = refl;
    count = map_length copied old.blocks;
    back = λ b l e. let k = from_old b l e in (k.0, k.1, subst (SameShape k.0) (sym k.2) (shape k.0));
    forth = λ b k e. (copied k, mapped_at copied old.blocks b k e, shape k);
  }

  edge_forth : (a b : ℕ) → IsEdge old a b → IsEdge new a b
  edge_forth a b e = (copied e.0, mapped_at copied old.blocks a e.0 e.1, subst (λ ts. Contains ts b) (sym (same_targets (from_source (end_sources e.0)) e.0.end)) e.2)

  entry_from : (f : Phi) (e : Entry) → Contains (map (entry_copied ends) f.entries) e → (x : Entry) × Contains f.entries x × (entry_copied ends x ≡ e)
  entry_from f e in_it = let x = map_source (entry_copied ends) f.entries e (has_in (map (entry_copied ends) f.entries) e in_it) in (x.0, contains f.entries x.0 x.1, x.2)

  is_phi : (b : ℕ) (g : Phi) → IsPhi old b g → IsPhi new b (phi_copied ends g)
  is_phi b g i = record {
    only = λ e in_it.
        let x = entry_from g e in_it in
        subst (λ (y : Entry). IsEdge new y.from.0 b) x.2 (edge_forth x.0.from.0 b (i.only x.0 x.1));
    each = λ a edge.
        let x = i.each a (edge_back old new reshaped a b edge) in
        (entry_copied ends x.0, contains (map (entry_copied ends) g.entries) (entry_copied ends x.0) (has_mapped (entry_copied ends) g.entries x.0 (has_in g.entries x.0 x.1)), x.2);
    equal = λ e f in_e in_f same.
        let x = entry_from g e in_e in
        let y = entry_from g f in_f in
        let from : x.0.from.0 ≡ y.0.from.0 = ap (λ (z : Entry). z.from.0) x.2 ∙ same ∙ sym (ap (λ (z : Entry). z.from.0) y.2) in
        sym (ap (λ (z : Entry). z.value) x.2) ∙ ap₂ (λ n v. from_source (ends n) v) from (i.equal x.0 y.0 x.1 y.1 from) ∙ ap (λ (z : Entry). z.value) y.2;
  }

  phi_from : (b : ℕ) (l : FlatBlock) (g : Phi) → IsBlock new b l → Contains l.phis g → (k : FlatBlock) × (f : Phi) × IsBlock old b k × Contains k.phis f × (phi_copied ends f ≡ g)
  phi_from b l g e in_it =
      let k = from_old b l e in
      let f = map_source (phi_copied ends) k.0.phis g (has_in (map (phi_copied ends) k.0.phis) g (subst (λ (x : FlatBlock). Contains x.phis g) k.2 in_it)) in
      (k.0, f.0, k.1, contains k.0.phis f.0 f.1, f.2)

  instr_from : (b n : ℕ) (l : FlatBlock) (i : FlatInstr) → IsBlock new b l → slice_get l.code n ≡ Some i → (k : FlatBlock) × (j : FlatInstr) × IsBlock old b k × (slice_get k.code n ≡ Some j) × (instr_copied k.code n j ≡ i) × (l ≡ copied k)
  instr_from b n l i e at' =
      let k = from_old b l e in
      let j = numbered_source (instr_copied k.0.code) k.0.code n i (subst (λ (x : FlatBlock). slice_get x.code n ≡ Some i) k.2 at') in
      (k.0, j.0, k.1, j.1, j.2, k.2)

  -- ---- types

  reg_typed : (b : ℕ) (k : FlatBlock) → IsBlock old b k → (n : ℕ) (o : FlatOp) (s : Scalar) → HasType types o s → HasType types (from_source (source k.code n) o) s
  reg_typed b k is n o s = with_source (source k.code n) (λ p. HasType types p s) (λ p. HasType types p s) (λ r t. source_typed types funcs own old h b k is n r ∙ t) (λ p t. t) o

  ends_typed : (b : ℕ) (o : FlatOp) (s : Scalar) → HasType types o s → HasType types (from_source (ends b) o) s
  ends_typed b o s t = by_block (slice_get old.blocks b) refl
    where
      by_block : (x : Option FlatBlock) → slice_get old.blocks b ≡ x → HasType types (from_source (sources_from x) o) s
      by_block (Some k) is = reg_typed b k is (length k.code) o s t
      by_block None is = with_source (λ r. r) (λ p. HasType types p s) (λ p. HasType types p s) (λ r u. u) (λ p u. u) o t

  -- ---- operands

  there : (b : ℕ) (k : FlatBlock) → IsBlock old b k → (n : ℕ) (o : FlatOp) → Has (uses k) o → IsParamOrWritten new (from_source (source k.code n) o)
  there b k is n o g =
      param_or_written old new reshaped (from_source (source k.code n) o)
      (with_source (source k.code n) (IsParamOrWritten old) (IsParamOrWritten old) (source_there types funcs own old h b k is n) (λ p q. q) o
      (All-contains (IsParamOrWritten old) (all_uses old) o h.used (contains (all_uses old) o (has_part uses old.blocks k o (has_at old.blocks b k is) g))))

  ends_there : (b : ℕ) (o : FlatOp) → IsParamOrWritten old o → IsParamOrWritten old (from_source (ends b) o)
  ends_there b o p = by_block (slice_get old.blocks b) refl
    where
      by_block : (x : Option FlatBlock) → slice_get old.blocks b ≡ x → IsParamOrWritten old (from_source (sources_from x) o)
      by_block (Some k) is = with_source (end_sources k) (IsParamOrWritten old) (IsParamOrWritten old) (source_there types funcs own old h b k is (length k.code)) (λ q u. u) o p
      by_block None is = with_source (λ r. r) (IsParamOrWritten old) (IsParamOrWritten old) (λ r u. u) (λ q u. u) o p

  used_there : (b : ℕ) (k : FlatBlock) → IsBlock old b k → (o : FlatOp) → Has (uses (copied k)) o → IsParamOrWritten new o
  used_there b k is o g = ⊎_elim
      (λ first. ⊎_elim of_phis of_code (split (flat_map values (map (phi_copied ends) k.phis)) (flat_map used_by (code_copied k.code)) o first))
      of_terminator
      (split (flat_map values (map (phi_copied ends) k.phis) ++ flat_map used_by (code_copied k.code)) (used_at_end (end_with_operands (from_source (end_sources k)) k.end)) o g)
    where
      of_phis : Has (flat_map values (map (phi_copied ends) k.phis)) o → IsParamOrWritten new o
      of_phis in_it =
          let part = in_part values (map (phi_copied ends) k.phis) o in_it in
          let f = map_source (phi_copied ends) k.phis part.0 part.1 in
          let e = map_source (λ (e : Entry). e.value) part.0.entries o part.2 in
          let x = map_source (entry_copied ends) f.0.entries e.0 (subst (λ (y : Phi). Has y.entries e.0) (sym f.2) e.1) in
          let used = of_phi k f.0 x.0.value f.1 (has_mapped (λ (e : Entry). e.value) f.0.entries x.0 x.1) in
          let was = All-contains (IsParamOrWritten old) (all_uses old) x.0.value h.used (contains (all_uses old) x.0.value (has_part uses old.blocks k x.0.value (has_at old.blocks b k is) used)) in
          subst (IsParamOrWritten new) (ap (λ (y : Entry). y.value) x.2 ∙ e.2) (param_or_written old new reshaped (from_source (ends x.0.from.0) x.0.value) (ends_there x.0.from.0 x.0.value was))

      of_code : Has (flat_map used_by (code_copied k.code)) o → IsParamOrWritten new o
      of_code in_it =
          let part = in_part used_by (code_copied k.code) o in_it in
          let place = at_has (code_copied k.code) part.0 part.1 in
          let j = numbered_source (instr_copied k.code) k.code place.0 part.0 place.1 in
          let p = rows.instr_uses (from_source (source k.code place.0)) j.0 o (subst (λ i. Has (used_by i) o) (sym j.2) part.2) in
          subst (IsParamOrWritten new) p.2 (there b k is place.0 p.0 (of_instr k j.0 p.0 (has_at k.code place.0 j.0 j.1) p.1))

      of_terminator : Has (used_at_end (end_with_operands (from_source (end_sources k)) k.end)) o → IsParamOrWritten new o
      of_terminator in_it = let p = rows.end_uses (from_source (end_sources k)) k.end o in_it in subst (IsParamOrWritten new) p.2 (there b k is (length k.code) p.0 (of_end k p.0 p.1))

  all_there : (o : FlatOp) → Has (all_uses new) o → IsParamOrWritten new o
  all_there o g =
      let part = in_part uses (map copied old.blocks) o g in
      let k = map_source copied old.blocks part.0 part.1 in
      let place = at_has old.blocks k.0 k.1 in
      used_there place.0 k.0 place.1 o (subst (λ (l : FlatBlock). Has (uses l) o) (sym k.2) part.2)

  -- ---- what comes first

  first_of : (b : ℕ) (older : List ℕ) (k : FlatBlock) → IsPath old (b ∷ older) → IsBlock old b k → (n : ℕ) (p : FlatOp) → ComesFirst old older k n p → ComesFirst new older (copied k) n (from_source (source k.code n) p)
  first_of b older k path is n p first =
      comes_first old new reshaped older k (copied k) (shape k) n (from_source (source k.code n) p)
      (with_source (source k.code n) (ComesFirst old older k n) (ComesFirst old older k n) (source_first types funcs own old h b k is older path n) (λ o c. c) p first)

  first_at_end : (b : ℕ) (older : List ℕ) (k : FlatBlock) → IsPath old (b ∷ older) → IsBlock old b k → (p : FlatOp) → ComesFirst old older k (length k.code) p → ComesFirst new older (copied k) (length (copied k).code) (from_source (end_sources k) p)
  first_at_end b older k path is p first = subst (λ n. ComesFirst new older (copied k) n (from_source (end_sources k) p)) (sym (same_length k (copied k) (shape k))) (first_of b older k path is (length k.code) p first)

  first_defined : DefinedFirst new
  first_defined = record {
    by_code = λ b older l n i path e at'.
        let j = instr_from b n l i e at' in
        let was = path_back old new reshaped (b ∷ older) path in
        let first = h.defined_first.by_code b older j.0 n j.1 was j.2 j.3 in
        each_all (ComesFirst new older l n) (used_by i) (λ o in_it.
        let p = rows.instr_uses (from_source (source j.0.code n)) j.1 o (subst (λ x. Has (used_by x) o) (sym j.4) in_it) in
        subst (λ z. ComesFirst new older z n o) (sym j.5) (subst (ComesFirst new older (copied j.0) n) p.2
        (first_of b older j.0 was j.2 n p.0 (All-contains (ComesFirst old older j.0 n) (used_by j.1) p.0 first (contains (used_by j.1) p.0 p.1)))));
    by_end = λ b older l path e.
        let k = from_old b l e in
        let was = path_back old new reshaped (b ∷ older) path in
        let first = h.defined_first.by_end b older k.0 was k.1 in
        each_all (ComesFirst new older l (length l.code)) (used_at_end l.end) (λ o in_it.
        let p = rows.end_uses (from_source (end_sources k.0)) k.0.end o (subst (λ (x : FlatBlock). Has (used_at_end x.end) o) k.2 in_it) in
        subst (λ (z : FlatBlock). ComesFirst new older z (length z.code) o) (sym k.2) (subst (ComesFirst new older (copied k.0) (length (copied k.0).code)) p.2
        (first_at_end b older k.0 was k.1 p.0 (All-contains (ComesFirst old older k.0 (length k.0.code)) (used_at_end k.0.end) p.0 first (contains (used_at_end k.0.end) p.0 p.1)))));
    by_phi = λ b c older l z g e path is_l is_z in_z in_g from.
        let k = from_old b l is_l in
        let f = phi_from c z g is_z in_z in
        let x = entry_from f.1 e (subst (λ (y : Phi). Contains y.entries e) (sym f.4) in_g) in
        let was : x.0.from.0 ≡ b = ap (λ (y : Entry). y.from.0) x.2 ∙ from in
        let before = path_back old new reshaped (c ∷ b ∷ older) path in
        let first = h.defined_first.by_phi b c older k.0 f.0 f.1 x.0 before k.1 f.2 f.3 x.1 was in
        let told : ends x.0.from.0 ≡ end_sources k.0 = ap ends was ∙ ap sources_from k.1 in
        subst (λ (z : FlatBlock). ComesFirst new older z (length z.code) e.value) (sym k.2) (subst (ComesFirst new older (copied k.0) (length (copied k.0).code)) (ap (λ s. from_source s x.0.value) (sym told) ∙ ap (λ (y : Entry). y.value) x.2)
        (first_at_end b older k.0 before.1 k.1 x.0.value first));
  }

  pub copied_formed : IsFormedBody types funcs own new
  copied_formed = record {
    entry =
        let k = h.entry in
        (copied k.0, mapped_at copied old.blocks 0 k.0 k.1, ap (map (phi_copied ends)) k.2);
    no_way_back = λ a e. h.no_way_back a (edge_back old new reshaped a 0 e);
    few_params = h.few_params;
    numbers = (h.numbers.0, subst (λ n. n < 4294967296) (sym reshaped.count) h.numbers.1);
    own_params = h.own_params;
    in_range = λ b c e. subst (λ n. c < n) (sym reshaped.count) (h.in_range b c (edge_back old new reshaped b c e));
    phis = λ b l g e in_it.
        let f = phi_from b l g e in_it in
        let old_phi = h.phis b f.0 f.1 f.2 f.3 in
        subst (λ (x : Phi). IsPhi new b x × (x.reg.0 < old.regs) × All (λ (y : Entry). HasType types y.value (types x.reg.0)) x.entries) f.4
        (is_phi b f.1 old_phi.0, old_phi.1, All-map (λ (y : Entry). HasType types y.value (types f.1.reg.0)) (entry_copied ends) f.1.entries (λ n d lt. ends_typed _ _ _ (old_phi.2 n d lt)));
    code = λ b n l i e at'.
        let j = instr_from b n l i e at' in
        subst (IsTyped types funcs) j.4 (rows.instr_typed types funcs (from_source (source j.0.code n)) (reg_typed b j.0 j.2 n) j.1 (h.code b n j.0 j.1 j.2 j.3));
    written_once = subst (AllPairs (λ r s. r ≢ s)) (sym (writes_same old new reshaped)) h.written_once;
    written = subst (All (λ r. (old.params ≤ r) × (r < old.regs))) (sym (writes_same old new reshaped)) h.written;
    used = each_all (IsParamOrWritten new) (all_uses new) all_there;
    ends = λ b l e. let k = from_old b l e in subst (λ (x : FlatBlock). IsEndTyped types own.result x.end) (sym k.2) (end_typed types funcs (from_source (end_sources k.0)) (reg_typed b k.0 k.1 (length k.0.code)) own.result k.0.end (h.ends b k.0 k.1));
    defined_first = first_defined;
  }

pub copies_formed : (types : ℕ → Scalar) (funcs : ℕ → FuncType) (own : FuncType) (b : FlatBody) → IsFormedBody types funcs own b → IsFormedBody types funcs own (copies_replaced b)
unfolding copies_replaced
copies_formed types funcs own b h = copied_formed types funcs own b h
