-- Names after merges, and blocks of which none is merged yet.
use Rattle.std.proofs.Common.{◌≡◌, ◌≢◌, inl, inr, ℕ, zero, suc, ◌<◌, Bool, true, false, nat_eq, nat_lt, if◌then◌else◌, List, [], ◌∷◌, ◌++◌, map, length, replicate, Some, slice_get, slice_set, slice_index_or, Contains, refl, sym, ap, ap₂, ◌∙◌, subst, arith}
use Rattle.std.proofs.lemmas.Bool.Decides.{nat_tests}
use Rattle.ir_core.specs.declared.flat.Entry.{Entry}
use Rattle.ir_core.specs.declared.flat.Phi.{Phi}
use Rattle.ir_core.specs.declared.flat.FlatBlock.{FlatBlock}
use Rattle.ir_core.specs.declared.flat.FlatBody.{FlatBody}
use Rattle.ir_core.specs.Formed.{targets}
use Rattle.ir_core.proofs.Lists.{Has, contains, has_in, has_left, has_right}
use Rattle.flow_fold.specs.declared.merger.Merge.{Merge}
use Rattle.flow_fold.specs.declared.merger.Merger.{Merger}
use Rattle.flow_fold.specs.Blocks.{entry_renamed, phi_renamed, only_blocks}
use Rattle.flow_fold.specs.MergeBlocks.{Merging, one_name, renamed_in}
use Rattle.flow_fold.specs.Merges.{names, name_in, count_in, edge_count, IsSound, Shows}
use Rattle.flow_fold.specs.Walks.{marked_in}
use Rattle.flow_fold.proofs.Edges.{set_length, index_own, index_other}
use Rattle.flow_fold.proofs.OneMerge.{names_more}

-- ---- the last merge first

name_own : (ns : List ℕ) (b n : ℕ) → b < length ns → name_in (slice_set ns b n) b ≡ n
name_own ns b n lt = index_own ns b n b lt

pub last_within : (left rest : List Merge) (x : Merge) (size : ℕ) → left ≡ rest ++ x ∷ [] → ((y : Merge) → Contains left y → y.from.0 < size) → x.from.0 < size
last_within left rest x size e h = h x (subst (λ ms. Contains ms x) (sym e) (contains (rest ++ x ∷ []) x (has_right rest (x ∷ []) x (inl refl))))

pub rest_within : (left rest : List Merge) (x : Merge) (size : ℕ) → left ≡ rest ++ x ∷ [] → ((y : Merge) → Contains left y → y.from.0 < size) → (y : Merge) → Contains rest y → y.from.0 < size
rest_within left rest x size e h y in_it = h y (subst (λ ms. Contains ms y) (sym e) (contains (rest ++ x ∷ []) y (has_left rest (x ∷ []) y (has_in rest y in_it))))

pub name_next : (ns : List ℕ) (left rest : List Merge) (x : Merge) (into : ℕ) (all : ℕ → ℕ) → left ≡ rest ++ x ∷ [] → x.from.0 < length ns → into ≡ name_in ns x.into.0
    → ((b : ℕ) → name_in ns (names left b) ≡ all b) → (b : ℕ) → name_in (slice_set ns x.from.0 into) (names rest b) ≡ all b
name_next ns left rest x into all e lt is h b = by_test (nat_eq (names rest b) x.from.0) refl
  where
    whole : name_in ns (one_name x.into.0 x.from.0 (names rest b)) ≡ all b
    whole = ap (λ (f : ℕ → ℕ). name_in ns (f b)) (sym (ap names e ∙ names_more rest x)) ∙ h b

    by_test : (t : Bool) → nat_eq (names rest b) x.from.0 ≡ t → name_in (slice_set ns x.from.0 into) (names rest b) ≡ all b
    by_test true same =
        let eq : names rest b ≡ x.from.0 = grind (arith, nat_tests) in
        ap (name_in (slice_set ns x.from.0 into)) eq ∙ name_own ns x.from.0 into lt ∙ is ∙ sym (ap (λ (t : Bool). name_in ns (if t then x.into.0 else names rest b)) same) ∙ whole
    by_test false same =
        let apart : names rest b ≢ x.from.0 = λ z. absurd (grind (arith, nat_tests)) in
        index_other ns x.from.0 (names rest b) into (names rest b) apart ∙ sym (ap (λ (t : Bool). name_in ns (if t then x.into.0 else names rest b)) same) ∙ whole

-- ---- none is merged yet

own_entries : (es : List Entry) → map (entry_renamed (λ b. b)) es ≡ es
own_entries [] = refl
own_entries (e ∷ es) = ap (λ xs. e ∷ xs) (own_entries es)

own_phis : (fs : List Phi) → map (phi_renamed (λ b. b)) fs ≡ fs
own_phis [] = refl
own_phis (f ∷ fs) = ap₂ (λ x xs. x ∷ xs) (ap (λ es. record f { entries = es }) (own_entries f.entries)) (own_phis fs)

own_blocks : (ks : List FlatBlock) → map (renamed_in (λ b. b)) ks ≡ ks
own_blocks [] = refl
own_blocks (k ∷ ks) = ap₂ (λ x xs. x ∷ xs) (ap (λ fs. record k { phis = fs }) (own_phis k.phis)) (own_blocks ks)

all_left : (n b : ℕ) → nat_lt b n ≡ marked_in (replicate n true) b
all_left n b = by_test (nat_lt b n) refl
  where
    past : (n b : ℕ) → nat_lt b n ≡ false → marked_in (replicate n true) b ≡ false
    past zero zero e = refl
    past zero (suc b) e = refl
    past (suc n) zero e = absurd (let t : nat_lt 0 (suc n) ≡ true = grind (arith, nat_tests) in let both : true ≡ false = sym t ∙ e in cc)
    past (suc n) (suc b) e = past n b (let t : nat_lt b n ≡ false = grind (arith, nat_tests) in t)

    here : (n b : ℕ) → b < n → marked_in (replicate n true) b ≡ true
    here zero b lt = absurd (omega (arith, lt))
    here (suc n) zero lt = refl
    here (suc n) (suc b) lt = here n b (omega (arith, lt))

    by_test : (t : Bool) → nat_lt b n ≡ t → t ≡ marked_in (replicate n true) b
    by_test true e = sym (here n b (grind (arith, nat_tests)))
    by_test false e = sym (past n b e)

long_all : (n : ℕ) → length (replicate n true) ≡ n
long_all zero = refl
long_all (suc n) = ap suc (long_all n)

module _ (bs : List FlatBlock) (c : Merger) (blocks : c.blocks.items ≡ bs) (left : c.left ≡ replicate (length bs) true) (merges : c.merges ≡ []) where
  pub begins_sound : length c.counts ≡ length bs → ((t : ℕ) → count_in c.counts t ≡ edge_count t bs) → ((a t : ℕ) (k : FlatBlock) → slice_get bs a ≡ Some k → Contains (targets k.end) t → t < length bs) → IsSound (length bs) c
  begins_sound long counts within = record {
    long = ap length blocks;
    long_left = ap length left ∙ long_all (length bs);
    long_counts = long;
    counted = λ t. counts t ∙ ap (edge_count t) (sym blocks);
    within = λ a t k e in_it. within a t k (ap (λ ks. slice_get ks a) (sym blocks) ∙ e) in_it;
    merges = λ x in_it. absurd (has_in [] x (subst (λ ms. Contains ms x) merges in_it));
  }

  pub begins_shown : Shows (record { blocks = bs; left = λ b. nat_lt b (length bs) }) c
  begins_shown = record {
    blocks = sym (own_blocks bs) ∙ ap₂ (λ ms ks. map (renamed_in (names ms)) ks) (sym merges) (sym blocks);
    left = (λ i b. all_left (length bs) b i) ∙ ap marked_in (sym left);
  }

-- ---- all are merged

pub finish_so : (c : Merger) (ns : List ℕ) (bs : List FlatBlock) (params regs : ℕ) (new : FlatBody) → ((b : ℕ) → name_in ns b ≡ names c.merges b) → bs ≡ map (renamed_in (name_in ns)) c.blocks.items → new ≡ only_blocks (marked_in c.left) (record { params = params; regs = regs; blocks = bs })
    → (s : Merging) → Shows s c → new ≡ only_blocks s.left (record { params = params; regs = regs; blocks = s.blocks })
finish_so c ns bs params regs new same made is s shows =
    is ∙ ap₂ (λ keep ks. only_blocks keep (record { params = params; regs = regs; blocks = ks })) (sym shows.left)
    (made ∙ ap (λ f. map (renamed_in f) c.blocks.items) (λ i b. same b i) ∙ sym shows.blocks)
