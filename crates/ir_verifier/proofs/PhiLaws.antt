-- The places at which the rule of phis is broken.
use Rattle.std.proofs.Common.{◌≡◌, ◌⊎◌, inl, inr, refl, sym, ap, ◌∙◌, subst, Bool, true, false, not, ◌&&◌, nat_eq, ℕ, List, [], ◌∷◌, Option, Some, None, Contains}
use Rattle.std.specs.Bool.{Decides}
use Rattle.std.specs.List.{list_any, list_all, position}
use Rattle.std.proofs.lemmas.Bool.Decides.{Decides-not}
use Rattle.oi_base.specs.declared.ids.Place.{Place}
use Rattle.ir_core.specs.declared.ty.TypeDef.{TypeDef}
use Rattle.ir_core.specs.declared.ty.IrType.{IrType}
use Rattle.ir_core.specs.declared.module.Module.{Module}
use Rattle.ir_core.specs.declared.op.LocalId.{LocalId}
use Rattle.ir_core.specs.declared.op.Pair.{Pair}
use Rattle.ir_core.specs.declared.op.Op.{Op}
use Rattle.ir_core.specs.declared.op.Op.TheVariants.{Bin, Icmp, Select, Cast, Alloca, Load, Store, Gep, Phi, Call}
use Rattle.ir_core.specs.declared.func.Instr.{Instr}
use Rattle.ir_core.specs.declared.func.Block.{Block}
use Rattle.ir_core.specs.declared.func.Func.{Func}
use Rattle.ir_core.specs.ValidConsts.{Meaning, meaning}
use Rattle.ir_core.specs.ValidPaths.{HasGoodEntries, BreaksPhis}
use Rattle.ir_core.proofs.Lists.{Has, has_part, contains}
use Rattle.module_rules.specs.First.{earliest, IsFound}
use Rattle.ir_verifier.specs.PhiFaults.{row_at, sources_of, same_meaning, Values, no_values, is_value, agrees_at, with_value_at, are_listed, entries_agree, has_good_entries, is_good_phi, block_phi_faults, phi_faults}
use Rattle.module_rules.proofs.Decided.{never, passes, false_is_not_true}
use Rattle.module_rules.proofs.Earliest.{found}
use Rattle.module_rules.proofs.Faulty.{has}
use Rattle.module_rules.proofs.Faulty.{has_fault, fault_has}
use Rattle.module_rules.proofs.Sets.{local_of as same_local}
use Rattle.module_rules.proofs.Sets.{number_decides, has_made}
use Rattle.ir_verifier.proofs.PredecessorLaws.{of_one, to_one, HasSources, block_sources}
use Rattle.ir_verifier.proofs.ValueLaws.{of_same, to_same, Knows, IsFine, knows_label, one_value, some_value, More, not_listed, keeps, knows_new, knew, more_fine}

all_pass : {A : Type 0} (test : A → Bool) (xs : List A) → ((x : A) → Has xs x → test x ≡ true) → list_all test xs ≡ true
all_pass test [] all = refl
all_pass test (x ∷ xs) all = rw (all x (inl refl)) (all_pass test xs (λ y h. all y (inr h)))

listed_decides : (ns more : List ℕ) → Decides (are_listed ns more) ((n : ℕ) → Has more n → Has ns n)
listed_decides ns more = (
  λ e n h. (number_decides n ns).0 (passes (λ (k : ℕ). list_any (nat_eq k) ns) more n e h),
  λ all. all_pass (λ (k : ℕ). list_any (nat_eq k) ns) more (λ n h. (number_decides n ns).1 (all n h)),
)

module _ (defs : List TypeDef) (row : List ℕ) (t : IrType) where
  abbrev mean : Pair → Meaning
  mean e = meaning defs t e.value

  -- entries that agree with each other and with the values so far, and have a block for each of the row
  record AreGood (s : Values) (es : List Pair) : Type 0 where
    only : (e : Pair) → Has es e → Has row e.from.0
    each : (n : ℕ) → Has row n → Has s.labels n ⊎ ((e : Pair) × Has es e × (e.from.0 ≡ n))
    known : (e : Pair) (m : Meaning) → Has es e → Knows s e.from.0 m → m ≡ mean e
    equal : (e g : Pair) → Has es e → Has es g → e.from ≡ g.from → mean e ≡ mean g

  no_entries : (s : Values) → Decides (entries_agree defs row t s []) (AreGood s [])
  no_entries s = let d = listed_decides s.labels row in (λ e. record { only = λ g h. absurd h; each = λ n h. inl (d.0 e n h); known = λ g m h. absurd h; equal = λ g k h. absurd h }, λ good. d.1 (λ n h. of_each n (good.each n h)))
    where
      of_each : (n : ℕ) → Has s.labels n ⊎ ((e : Pair) × Has [] e × (e.from.0 ≡ n)) → Has s.labels n
      of_each n (inl h) = h
      of_each n (inr h) = absurd h.1

  module _ (e : Pair) (es : List Pair) (s : Values) (fine : IsFine s) where
    abbrev x : ℕ
    x = e.from.0

    -- the values where the entry's counts
    abbrev Next : Values → Type 0
    Next next = (y : ℕ) (m : Meaning) → Knows s y m → Knows next y m

    pair_only : Has row x → ((g : Pair) → Has es g → Has row g.from.0) → (g : Pair) → (e ≡ g) ⊎ Has es g → Has row g.from.0
    pair_only in_row rest g (inl same) = subst (λ (k : Pair). Has row k.from.0) same in_row
    pair_only in_row rest g (inr h) = rest g h

    -- an entry that has the value of its block, and others
    pair_equal : (next : Values) → Knows next x (mean e) → AreGood next es → (g k : Pair) → (e ≡ g) ⊎ Has es g → (e ≡ k) ⊎ Has es k → g.from ≡ k.from → mean g ≡ mean k
    pair_equal next knows good g k (inl p) (inl q) same = ap mean (sym p ∙ q)
    pair_equal next knows good g k (inl p) (inr h) same =
        ap mean (sym p) ∙ good.known k (mean e) h (subst (λ (y : ℕ). Knows next y (mean e)) (ap (λ (a : Pair). a.from.0) p ∙ ap (λ (y : LocalId). y.0) same) knows)
    pair_equal next knows good g k (inr h) (inl q) same =
        sym (good.known g (mean e) h (subst (λ (y : ℕ). Knows next y (mean e)) (ap (λ (a : Pair). a.from.0) q ∙ ap (λ (y : LocalId). y.0) (sym same)) knows)) ∙ ap mean q
    pair_equal next knows good g k (inr h) (inr j) same = good.equal g k h j same

    -- ---- the entry's block has no value yet

    module _ (new : position (nat_eq x) s.labels ≡ None) where
      abbrev N : Values
      N = More s x (mean e) fine new

      new_of : Has row x → AreGood N es → AreGood s (e ∷ es)
      new_of in_row good = record {
        only = pair_only in_row good.only;
        each = λ n h. of_each n (good.each n h);
        known = of_known;
        equal = pair_equal N (knows_new s x (mean e) fine new) good;
      }
        where
          of_label : (n : ℕ) → Has s.labels n ⊎ (x ≡ n) → Has s.labels n ⊎ ((g : Pair) × Has (e ∷ es) g × (g.from.0 ≡ n))
          of_label n (inl h) = inl h
          of_label n (inr h) = inr (e, inl refl, h)

          of_each : (n : ℕ) → Has N.labels n ⊎ ((g : Pair) × Has es g × (g.from.0 ≡ n)) → Has s.labels n ⊎ ((g : Pair) × Has (e ∷ es) g × (g.from.0 ≡ n))
          of_each n (inl h) = of_label n (of_one s.labels x n h)
          of_each n (inr h) = inr (h.0, inr h.1, h.2)

          of_known : (g : Pair) (m : Meaning) → (e ≡ g) ⊎ Has es g → Knows s g.from.0 m → m ≡ mean g
          of_known g m (inl same) k = absurd (not_listed s x (mean e) fine new (subst (λ (a : Pair). Has s.labels a.from.0) (sym same) (knows_label s g.from.0 m k)))
          of_known g m (inr h) k = good.known g m h (keeps s x (mean e) fine new g.from.0 m k)

      new_to : AreGood s (e ∷ es) → AreGood N es
      new_to good = record {
        only = λ g h. good.only g (inr h);
        each = λ n h. of_each n (good.each n h);
        known = λ g m h k. of_known g m h (knew s x (mean e) fine new g.from.0 m k);
        equal = λ g k h j. good.equal g k (inr h) (inr j);
      }
        where
          of_pair : (n : ℕ) (g : Pair) → (e ≡ g) ⊎ Has es g → g.from.0 ≡ n → Has N.labels n ⊎ ((k : Pair) × Has es k × (k.from.0 ≡ n))
          of_pair n g (inl same) f = inl (to_one s.labels x n (inr (ap (λ (a : Pair). a.from.0) same ∙ f)))
          of_pair n g (inr h) f = inr (g, h, f)

          of_each : (n : ℕ) → Has s.labels n ⊎ ((g : Pair) × Has (e ∷ es) g × (g.from.0 ≡ n)) → Has N.labels n ⊎ ((g : Pair) × Has es g × (g.from.0 ≡ n))
          of_each n (inl h) = inl (to_one s.labels x n (inl h))
          of_each n (inr h) = of_pair n h.0 h.1 h.2

          of_known : (g : Pair) (m : Meaning) → Has es g → Knows s g.from.0 m ⊎ ((x ≡ g.from.0) × (mean e ≡ m)) → m ≡ mean g
          of_known g m h (inl k) = good.known g m (inr h) k
          of_known g m h (inr k) = sym k.1 ∙ good.equal e g (inl refl) (inr h) (same_local e.from g.from k.0)

    -- ---- the entry's block has this value

    module _ (knows : Knows s x (mean e)) where
      old_of : Has row x → AreGood s es → AreGood s (e ∷ es)
      old_of in_row good = record {
        only = pair_only in_row good.only;
        each = λ n h. of_each n (good.each n h);
        known = of_known;
        equal = pair_equal s knows good;
      }
        where
          of_each : (n : ℕ) → Has s.labels n ⊎ ((g : Pair) × Has es g × (g.from.0 ≡ n)) → Has s.labels n ⊎ ((g : Pair) × Has (e ∷ es) g × (g.from.0 ≡ n))
          of_each n (inl h) = inl h
          of_each n (inr h) = inr (h.0, inr h.1, h.2)

          of_known : (g : Pair) (m : Meaning) → (e ≡ g) ⊎ Has es g → Knows s g.from.0 m → m ≡ mean g
          of_known g m (inl same) k = one_value s x m (mean e) fine (subst (λ (a : Pair). Knows s a.from.0 m) (sym same) k) knows ∙ ap mean same
          of_known g m (inr h) k = good.known g m h k

      old_to : AreGood s (e ∷ es) → AreGood s es
      old_to good = record {
        only = λ g h. good.only g (inr h);
        each = λ n h. of_each n (good.each n h);
        known = λ g m h k. good.known g m (inr h) k;
        equal = λ g k h j. good.equal g k (inr h) (inr j);
      }
        where
          of_pair : (n : ℕ) (g : Pair) → (e ≡ g) ⊎ Has es g → g.from.0 ≡ n → Has s.labels n ⊎ ((k : Pair) × Has es k × (k.from.0 ≡ n))
          of_pair n g (inl same) f = inl (subst (Has s.labels) (ap (λ (a : Pair). a.from.0) same ∙ f) (knows_label s x (mean e) knows))
          of_pair n g (inr h) f = inr (g, h, f)

          of_each : (n : ℕ) → Has s.labels n ⊎ ((g : Pair) × Has (e ∷ es) g × (g.from.0 ≡ n)) → Has s.labels n ⊎ ((g : Pair) × Has es g × (g.from.0 ≡ n))
          of_each n (inl h) = inl h
          of_each n (inr h) = of_pair n h.0 h.1 h.2

    -- ---- both

    abbrev Rest : Type 0
    Rest = (r : Values) → IsFine r → Decides (entries_agree defs row t r es) (AreGood r es)

    by_same : (k : ℕ) (m : Meaning) → Knows s x m → (u : Bool) → same_meaning m (mean e) ≡ u → Has row x → Rest → Decides (u && entries_agree defs row t s es) (AreGood s (e ∷ es))
    by_same k m knows false u in_row rest = never (λ (g : AreGood s (e ∷ es)). false_is_not_true (sym u ∙ to_same m (mean e) (g.known e m (inl refl) knows)))
    by_same k m knows true u in_row rest =
        let this : Knows s x (mean e) = subst (Knows s x) (of_same m (mean e) u) knows in
        let d = rest s fine in (λ a. old_of this in_row (d.0 a), λ g. d.1 (old_to this g))

    by_place : (o : Option ℕ) → position (nat_eq x) s.labels ≡ o → Has row x → Rest → Decides (agrees_at s o (mean e) && entries_agree defs row t (with_value_at s o x (mean e)) es) (AreGood s (e ∷ es))
    by_place None new in_row rest = let d = rest (N new) (more_fine s x (mean e) fine new) in (λ a. new_of new in_row (d.0 a), λ g. d.1 (new_to new g))
    by_place (Some k) at in_row rest =
        let v = some_value s x k fine at in
        subst (λ (o : Option Meaning). Decides (is_value o (mean e) && entries_agree defs row t s es) (AreGood s (e ∷ es))) (sym v.1)
        (by_same k v.0 v.2 (same_meaning v.0 (mean e)) refl in_row rest)

    by_row : (u : Bool) → list_any (nat_eq x) row ≡ u → Rest → Decides (u && (agrees_at s (position (nat_eq x) s.labels) (mean e) && entries_agree defs row t (with_value_at s (position (nat_eq x) s.labels) x (mean e)) es)) (AreGood s (e ∷ es))
    by_row false u rest = never (λ (g : AreGood s (e ∷ es)). false_is_not_true (sym u ∙ (number_decides x row).1 (g.only e (inl refl))))
    by_row true u rest = by_place (position (nat_eq x) s.labels) refl ((number_decides x row).0 u) rest

  entries_decide : (es : List Pair) (s : Values) → IsFine s → Decides (entries_agree defs row t s es) (AreGood s es)
  entries_decide [] s fine = no_entries s
  entries_decide (e ∷ es) s fine = by_row e es s fine (list_any (nat_eq e.from.0) row) refl (λ r f. entries_decide es r f)

nothing_fine : IsFine no_values
nothing_fine = record { distinct = λ i j n e. absurd (let clash : None ≡ Some n = e in cc); paired = refl }

-- ---- functions

module _ (m : Module) (f : Func) where
  abbrev Defs : List TypeDef
  Defs = m.types.defs

  phi_decides : (own : LocalId) (t : IrType) (es : List Pair) → HasSources f own → Decides (has_good_entries Defs (row_at (sources_of f) own) t es) (HasGoodEntries Defs f own t es)
  phi_decides own t es h =
      subst (λ (o : Option (List ℕ)). Decides (has_good_entries Defs o t es) (HasGoodEntries Defs f own t es)) (sym h.is_row) (λ a. of_good (d.0 a), λ g. d.1 (to_good g))
    where
      d : Decides (entries_agree Defs h.row t no_values es) (AreGood Defs h.row t no_values es)
      d = entries_decide Defs h.row t es no_values nothing_fine

      of_good : AreGood Defs h.row t no_values es → HasGoodEntries Defs f own t es
      of_good good = record {
        only = λ e c. h.of_row e.from (good.only e (has es e c));
        each = λ x p. of_each x (good.each x.0 (h.to_row x p));
        equal = λ e g c k same. good.equal e g (has es e c) (has es g k) same;
      }
        where
          of_each : (x : LocalId) → Has [] x.0 ⊎ ((e : Pair) × Has es e × (e.from.0 ≡ x.0)) → (e : Pair) × Contains es e × (e.from ≡ x)
          of_each x (inl none) = absurd none
          of_each x (inr r) = (r.0, contains es r.0 r.1, same_local r.0.from x r.2)

      to_good : HasGoodEntries Defs f own t es → AreGood Defs h.row t no_values es
      to_good good = record {
        only = λ e k. h.to_row e.from (good.only e (contains es e k));
        each = λ n k. inr (of_label n (h.label n k) k);
        known = λ e v k none. absurd (let clash : None ≡ Some v = none.2 in cc);
        equal = λ e g k j same. good.equal e g (contains es e k) (contains es g j) same;
      }
        where
          of_label : (n : ℕ) → (x : LocalId) × (x.0 ≡ n) → Has h.row n → (e : Pair) × Has es e × (e.from.0 ≡ n)
          of_label n x k =
              let r = good.each x.0 (h.of_row x.0 (subst (Has h.row) (sym x.1) k)) in
              (r.0, has es r.0 r.1, ap (λ (y : LocalId). y.0) r.2 ∙ x.1)

  abbrev IsBadPhi : LocalId → Op → Type 0
  IsBadPhi own op = (t : IrType) × (es : List Pair) × (op ≡ Phi t es) × (HasGoodEntries Defs f own t es → ⊥)

  bad_phi : (own : LocalId) (op : Op) → HasSources f own → not (is_good_phi Defs (row_at (sources_of f) own) op) ≡ true → IsBadPhi own op
  bad_phi own (Phi t es) h e = (t, es, refl, (Decides-not (has_good_entries Defs (row_at (sources_of f) own) t es) (phi_decides own t es h)).0 e)
  bad_phi own (Bin op t a b) h e = absurd (false_is_not_true e)
  bad_phi own (Icmp c t a b) h e = absurd (false_is_not_true e)
  bad_phi own (Select c a b) h e = absurd (false_is_not_true e)
  bad_phi own (Cast c a t) h e = absurd (false_is_not_true e)
  bad_phi own (Alloca t count align) h e = absurd (false_is_not_true e)
  bad_phi own (Load t a align) h e = absurd (false_is_not_true e)
  bad_phi own (Store a p align) h e = absurd (false_is_not_true e)
  bad_phi own (Gep t a is) h e = absurd (false_is_not_true e)
  bad_phi own (Call t g as') h e = absurd (false_is_not_true e)

  phi_bad : (own : LocalId) (op : Op) → HasSources f own → IsBadPhi own op → not (is_good_phi Defs (row_at (sources_of f) own) op) ≡ true
  phi_bad own op h b =
      subst (λ (o : Op). not (is_good_phi Defs (row_at (sources_of f) own) o) ≡ true) (sym b.2)
      ((Decides-not (has_good_entries Defs (row_at (sources_of f) own) b.0 b.1) (phi_decides own b.0 b.1 h)).1 b.3)

  sources : (b : Block) → Has f.blocks b → HasSources f b.label
  sources b h = block_sources f b.label (b, contains f.blocks b h, refl)

  abbrev Bad : Block → Instr → Bool
  Bad b i = not (is_good_phi Defs (row_at (sources_of f) b.label) i.op)

  abbrev at : Instr → Place
  at i = i.place

  pub phis_found : IsFound (BreaksPhis m f) (earliest None (phi_faults Defs (sources_of f) f))
  phis_found = found (BreaksPhis m f) (phi_faults Defs (sources_of f) f) sound complete
    where
      sound : (p : Place) → Has (phi_faults Defs (sources_of f) f) p → BreaksPhis m f p
      sound p h =
          let b = has_made (block_phi_faults Defs (sources_of f)) f.blocks p h in
          let i = fault_has (Bad b.0) at b.0.code p b.2 in
          let r = bad_phi b.0.label i.0.op (sources b.0 b.1) i.3 in
          (b.0, i.0, r.0, r.1, contains f.blocks b.0 b.1, contains b.0.code i.0 i.1, i.2, r.2, r.3)

      complete : (p : Place) → BreaksPhis m f p → Has (phi_faults Defs (sources_of f) f) p
      complete p k =
          let b = k.0 in let i = k.1 in
          let block = has f.blocks b k.4 in
          let bad = phi_bad b.label i.op (sources b block) (k.2, k.3, k.7, k.8) in
          has_part (block_phi_faults Defs (sources_of f)) f.blocks b p block (subst (Has (block_phi_faults Defs (sources_of f) b)) k.6 (has_fault (Bad b) at b.code i (has b.code i k.5) bad))
