-- In a formed body a block that is behind another is one that may be merged into it.
use Rattle.std.proofs.Common.{◌≡◌, ◌≢◌, ◌⊎◌, inl, inr, ⊎_elim, ℕ, ◌<◌, ◌≤◌, Bool, true, false, nat_eq, if◌then◌else◌, List, [], ◌∷◌, map, length, Some, slice_get, Contains, refl, sym, ap, ◌∙◌, subst, arith}
use Rattle.std.specs.List.{filter_map}
use Rattle.std.proofs.lemmas.Bool.Decides.{nat_tests}
use Rattle.std.proofs.lemmas.List.Elements.{All-contains}
use Rattle.oi_base.specs.declared.ids.RegId.{RegId}
use Rattle.oi_base.specs.declared.ids.BlockId.{BlockId}
use Rattle.ir_core.specs.declared.flat.Scalar.{Scalar}
use Rattle.ir_core.specs.declared.flat.FlatOp.TheVariants.{Reg}
use Rattle.ir_core.specs.declared.flat.Entry.{Entry}
use Rattle.ir_core.specs.declared.flat.Phi.{Phi}
use Rattle.ir_core.specs.declared.flat.FlatEnd.{FlatEnd}
use Rattle.ir_core.specs.declared.flat.FlatEnd.TheVariants.{Ret, Br, Cond, Switch, Unreachable}
use Rattle.ir_core.specs.declared.flat.FlatBlock.{FlatBlock}
use Rattle.ir_core.specs.declared.flat.FlatBody.{FlatBody}
use Rattle.ir_core.specs.Flat.{Program, entry_for}
use Rattle.ir_core.specs.Formed.{FuncType, IsEdge, IsPath, IsWritten, ComesIn, ComesFirst, IsPhi, IsFormedBody, targets, written_by, writes, all_writes}
use Rattle.ir_core.proofs.Lists.{Has, Apart, each_from, each_of, has_in, contains, has_at, has_part, has_left, has_right, has_mapped, has_made, apart_left, apart_part}
use Rattle.flow_fold.specs.Targets.{goes_to}
use Rattle.flow_fold.specs.MergeBlocks.{comes_only, plain_target, first_value}
use Rattle.flow_fold.proofs.BranchesFormed.{has_goes}
use Rattle.flow_fold.proofs.DroppedFormed.{apart_pairs}
use Rattle.flow_fold.proofs.MergedFormed.{only_from}
use Rattle.passes_meaning.proofs.OneWriter.{one_part}
use Rattle.passes_meaning.proofs.Merges.{TakesFirst, LeavesAlone, InOrder, IsMerge}

plain_end : (e : FlatEnd) (m : ℕ) → plain_target e ≡ Some m → (b : BlockId) × (e ≡ Br b) × (b.0 ≡ m)
plain_end (Br b) m e = (b, refl, cc)
plain_end (Ret a) m e = absurd cc
plain_end (Cond c t f) m e = absurd cc
plain_end (Switch a w cases other) m e = absurd cc
plain_end Unreachable m e = absurd cc

has_or_not : (xs : List ℕ) (m : ℕ) → Has xs m ⊎ (Has xs m → ⊥)
has_or_not [] m = inr (λ h. h)
has_or_not (x ∷ xs) m = at (nat_eq x m) refl (has_or_not xs m)
  where
    at : (t : Bool) → nat_eq x m ≡ t → Has xs m ⊎ (Has xs m → ⊥) → ((x ≡ m) ⊎ Has xs m) ⊎ (((x ≡ m) ⊎ Has xs m) → ⊥)
    at true e rest = inl (inl (grind (arith, nat_tests)))
    at false e (inl h) = inl (inr h)
    at false e (inr none) = inr (λ h. ⊎_elim (λ same. absurd (grind (arith, nat_tests))) none h)

module _ (types : ℕ → Scalar) (funcs : ℕ → FuncType) (own : FuncType) (p : Program) (f : ℕ) (old : FlatBody) (h : IsFormedBody types funcs own old) (n m : ℕ) (k l : FlatBlock) (is_first : slice_get old.blocks n ≡ Some k) (is_second : slice_get old.blocks m ≡ Some l)
    (plain : plain_target k.end ≡ Some m) (inner : m ≢ 0) (apart : m ≢ n) (sole : comes_only n m 0 old.blocks ≡ true) where
  goes_there : (b : BlockId) × (k.end ≡ Br b) × (b.0 ≡ m)
  goes_there = plain_end k.end m plain

  only : (b : ℕ) (z : FlatBlock) → slice_get old.blocks b ≡ Some z → goes_to m z.end ≡ true → b ≡ n
  only b z at' goes = let e = only_from n m 0 old.blocks b z sole at' goes in omega (arith, e)

  -- the one way out of block n
  only_target : (c : ℕ) → IsEdge old n c → c ≡ m
  only_target c e =
      let both : Some e.0 ≡ Some k = sym e.1 ∙ is_first in
      let one : e.0 ≡ k = cc in
      let in_it : Contains (targets k.end) c = subst (λ (z : FlatBlock). Contains (targets z.end) c) one e.2 in
      let in_br : Has (targets (Br goes_there.0)) c = subst (λ z. Has (targets z) c) goes_there.1 (has_in (targets k.end) c in_it) in
      ⊎_elim (λ same. sym same ∙ goes_there.2) (λ none. absurd none) in_br

  edge : IsEdge old n m
  edge = (k, is_first, subst (λ z. Contains (targets z) m) (sym goes_there.1) (contains (targets (Br goes_there.0)) m (inl goes_there.2)))

  from_n : (b : ℕ) → IsEdge old b m → b ≡ n
  from_n b e = only b e.0 e.1 (has_goes (targets e.0.end) m (has_in (targets e.0.end) m e.2))

  -- ---- phis of block m have entries for block n alone

  record First (x : Phi) : Type 0 where
    entry : Entry
    in_it : Has x.entries entry
    from : entry.from.0 ≡ n
    value : first_value x.entries ≡ entry.value
    takes : TakesFirst n x

  first_of : (x : Phi) → Has l.phis x → First x
  first_of x has = by_entries x.entries refl
    where
      is_phi : IsPhi old m x
      is_phi = (h.phis m l x is_second (contains l.phis x has)).0

      by_entries : (es : List Entry) → x.entries ≡ es → First x
      by_entries [] e = absurd (let some = is_phi.each n edge in has_in [] some.0 (subst (λ zs. Contains zs some.0) e some.1))
      by_entries (y ∷ ys) e =
          let in_it : Has x.entries y = subst (λ zs. Has zs y) (sym e) (inl refl) in
          let from : y.from.0 ≡ n = from_n y.from.0 (is_phi.only y (contains x.entries y in_it)) in
          let test : nat_eq y.from.0 n ≡ true = grind (arith, nat_tests) in
          record {
            entry = y;
            in_it = in_it;
            from = from;
            value = ap first_value e;
            takes = ap (entry_for n) e ∙ ap (λ t. if t then Some y.value else entry_for n ys) test ∙ ap Some (sym (ap first_value e));
          }

  entries : (c : ℕ) (z : FlatBlock) (g : Phi) (e : Entry) → c ≢ m → slice_get old.blocks c ≡ Some z → Has z.phis g → Has g.entries e → e.from.0 ≢ n
  entries c z g e away at' has in_it same =
      away (only_target c (subst (λ b. IsEdge old b c) same ((h.phis c z g at' (contains z.phis g has)).0.only e (contains g.entries e in_it))))

  -- ---- a path to block n that doesn't pass m

  record Around : Type 0 where
    older : List ℕ
    path : IsPath old (n ∷ older)
    without : Has older m → ⊥

  around : (xs : List ℕ) → IsPath old xs → Has xs m → Around
  around [] path has = absurd path
  around (b ∷ []) path has = ⊎_elim (λ same. absurd (inner (sym same ∙ path))) (λ none. absurd none) has
  around (b ∷ a ∷ rest) path has = by (has_or_not (a ∷ rest) m) (λ h. around (a ∷ rest) path.1 h)
    where
      by : Has (a ∷ rest) m ⊎ (Has (a ∷ rest) m → ⊥) → (Has (a ∷ rest) m → Around) → Around
      by (inl h) next = next h
      by (inr none) next =
          let here : b ≡ m = ⊎_elim (λ same. same) (λ deeper. absurd (none deeper)) has in
          let before : a ≡ n = from_n a (subst (λ x. IsEdge old a x) here path.0) in
          record { older = rest; path = subst (λ x. IsPath old (x ∷ rest)) before path.1; without = λ deeper. none (inr deeper) }

  cut : (older : List ℕ) → IsPath old (n ∷ older) → Around
  cut older path = by (has_or_not older m)
    where
      tail : (xs : List ℕ) → IsPath old (n ∷ xs) → Has xs m → Around
      tail [] p has = absurd has
      tail (x ∷ xs) p has = around (x ∷ xs) p.1 has

      by : Has older m ⊎ (Has older m → ⊥) → Around
      by (inl has) = tail older path has
      by (inr none) = record { older = older; path = path; without = none }

  -- ---- no phi of block m reads what one writes

  once : Apart (all_writes old)
  once = apart_pairs (all_writes old) h.written_once

  phi_writes : (x : Phi) → Has l.phis x → Has (writes l) x.reg.0
  phi_writes x has = has_left (map (λ (g : Phi). g.reg.0) l.phis) (filter_map written_by l.code) x.reg.0 (has_mapped (λ (g : Phi). g.reg.0) l.phis x has)

  written_has : (z : FlatBlock) (i r : ℕ) → IsWritten z i r → Has (writes z) r
  written_has z i r (inl phi) = has_left (map (λ (g : Phi). g.reg.0) z.phis) (filter_map written_by z.code) r (has_in (map (λ (g : Phi). g.reg.0) z.phis) r phi)
  written_has z i r (inr w) = has_right (map (λ (g : Phi). g.reg.0) z.phis) (filter_map written_by z.code) r (has_made written_by z.code w.1 r (has_at z.code w.0 w.1 w.3) w.4)

  not_before : (x : Phi) → Has l.phis x → (older : List ℕ) → (Has older m → ⊥) → ComesIn old older x.reg.0 → ⊥
  not_before x has [] none lt =
      let range = (All-contains (λ (r : ℕ). (old.params ≤ r) × (r < old.regs)) (all_writes old) x.reg.0 h.written (contains (all_writes old) x.reg.0 (has_part writes old.blocks l x.reg.0 (has_at old.blocks m l is_second) (phi_writes x has)))).0 in
      let lt' : x.reg.0 < old.params = lt in
      absurd (omega (arith, range, lt'))
  not_before x has (b ∷ older) none (inl w) = none (inl (one_part writes old.blocks b m w.0 l x.reg.0 once w.1 is_second (written_has w.0 (length w.0.code) x.reg.0 w.2) (phi_writes x has)))
  not_before x has (b ∷ older) none (inr c) = not_before x has older (λ deeper. none (inr deeper)) c

  reads_other : Around → (x y : Phi) → Has l.phis x → Has l.phis y → (q : RegId) → first_value y.entries ≡ Reg q → q.0 ≢ x.reg.0
  reads_other a x y has_x has_y q is same =
      let e = first_of y has_y in
      let first = h.defined_first.by_phi n m a.older k l y e.entry (edge, a.path) is_first is_second (contains l.phis y has_y) (contains y.entries e.entry e.in_it) e.from in
      let reg : ComesFirst old a.older k (length k.code) (Reg q) = subst (λ o. ComesFirst old a.older k (length k.code) o) (sym e.value ∙ is) first in
      ⊎_elim
      (λ w. apart (sym (one_part writes old.blocks n m k l x.reg.0 once is_first is_second (subst (Has (writes k)) same (written_has k (length k.code) q.0 w)) (phi_writes x has_x))))
      (λ c. not_before x has_x a.older a.without (subst (ComesIn old a.older) same c))
      reg

  in_order : Around → (fs : List Phi) → ((x : Phi) → Has fs x → Has l.phis x) → Apart (map (λ (g : Phi). g.reg.0) fs) → InOrder fs
  in_order a [] among once' = tt
  in_order a (x ∷ xs) among once' = (
    each_from (LeavesAlone x.reg.0) xs (λ y has. (
      λ same. each_of (λ (r : ℕ). x.reg.0 ≢ r) (map (λ (g : Phi). g.reg.0) xs) y.reg.0 once'.0 (has_mapped (λ (g : Phi). g.reg.0) xs y has) (sym same),
      reads_other a x y (among x (inl refl)) (among y (inr has)),
    )),
    in_order a xs (λ y has. among y (inr has)) once'.1,
  )

  pub may_merge : IsMerge p f old n m k l
  may_merge = record {
    apart = apart;
    inner = inner;
    is_first = is_first;
    is_second = is_second;
    goes_there = goes_there;
    only = only;
    first = each_from (TakesFirst n) l.phis (λ x has. (first_of x has).takes);
    order = λ older path. in_order (cut older path) l.phis (λ x has. has) (apart_left (map (λ (g : Phi). g.reg.0) l.phis) (filter_map written_by l.code) (apart_part writes old.blocks l once (has_at old.blocks m l is_second)));
    entries = entries;
  }
