-- A formed body is formed after one merge, with an empty block in the place of the one that was merged.
use Rattle.std.proofs.Common.{◌≡◌, ◌≢◌, ◌⊎◌, inl, inr, ⊎_elim, ℕ, zero, suc, ◌+◌, ◌<◌, ◌≤◌, Bool, true, false, not, ◌&&◌, nat_eq, if◌then◌else◌, List, [], ◌∷◌, ◌++◌, map, length, length-append, Option, Some, None, slice_get, slice_set, All, AllPairs, Contains, refl, sym, ap, ap₂, ◌∙◌, subst, arith, append_assoc}
use Rattle.std.specs.List.{flat_map, filter_map, AllByRecursion as Each}
use Rattle.std.proofs.lemmas.Bool.Decides.{nat_tests}
use Rattle.std.proofs.lemmas.Option.{slice_get_within}
use Rattle.std.proofs.lemmas.List.Elements.{All-contains, All-contains_itself, All-map}
use Rattle.ir_core.specs.declared.flat.Scalar.{Scalar}
use Rattle.ir_core.specs.declared.flat.FlatOp.{FlatOp}
use Rattle.ir_core.specs.declared.flat.FlatOp.TheVariants.{Reg, Word, Null, Address, Poison}
use Rattle.ir_core.specs.declared.flat.Entry.{Entry}
use Rattle.ir_core.specs.declared.flat.Phi.{Phi}
use Rattle.ir_core.specs.declared.flat.FlatInstr.{FlatInstr}
use Rattle.ir_core.specs.declared.flat.FlatBlock.{FlatBlock}
use Rattle.ir_core.specs.declared.flat.FlatBody.{FlatBody}
use Rattle.ir_core.specs.Formed.{FuncType, HasType, IsTyped, IsBlock, IsEdge, IsPath, IsWritten, ComesIn, ComesFirst, DefinedFirst, IsPhi, IsFormedBody, IsEndTyped, IsParamOrWritten, written_by, used_by, used_at_end, targets, uses, all_uses, writes, all_writes}
use Rattle.ir_core.proofs.Lists.{Has, Apart, contains, has_in, has_at, at_has, has_left, has_right, has_part, has_mapped, map_source, apart_part, each_from}
use Rattle.ir_safety.proofs.Elements.{split, in_part, mapped_twice}
use Rattle.const_fold.proofs.Shapes.{made_at, mapped_at, map_length}
use Rattle.flow_fold.specs.Blocks.{entry_renamed, phi_renamed}
use Rattle.flow_fold.specs.MergeBlocks.{first_value, as_copy, joined, empty_block, one_name, renamed_in}
use Rattle.flow_fold.proofs.DroppedFormed.{apart_joined, apart_pairs, pairs_apart}
use Rattle.flow_fold.proofs.Edges.{set_length, get_other, get_own}
use Rattle.flow_fold.proofs.JoinedLists.{set_there, left_place, right_place, Place, in_left, in_right, place_of, made_joined, parts_disjoint, parts_apart}

each_all : {A : Type 0} (P : A → Type 0) (xs : List A) → ((x : A) → Has xs x → P x) → All P xs
each_all P xs h = λ k d lt. h _ (has_in xs _ (All-contains_itself xs k d lt))

-- ---- renamed phis

regs_same : (name : ℕ → ℕ) (fs : List Phi) → map (λ (f : Phi). f.reg.0) (map (phi_renamed name) fs) ≡ map (λ (f : Phi). f.reg.0) fs
regs_same name [] = refl
regs_same name (f ∷ fs) = ap (λ rs. f.reg.0 ∷ rs) (regs_same name fs)

values_same : (name : ℕ → ℕ) (es : List Entry) → map (λ (e : Entry). e.value) (map (entry_renamed name) es) ≡ map (λ (e : Entry). e.value) es
values_same name [] = refl
values_same name (e ∷ es) = ap (λ vs. e.value ∷ vs) (values_same name es)

abbrev phi_uses : List Phi → List FlatOp
phi_uses fs = flat_map (λ (f : Phi). map (λ (e : Entry). e.value) f.entries) fs

phi_uses_same : (name : ℕ → ℕ) (fs : List Phi) → phi_uses (map (phi_renamed name) fs) ≡ phi_uses fs
phi_uses_same name [] = refl
phi_uses_same name (f ∷ fs) = ap₂ (λ a b. a ++ b) (values_same name f.entries) (phi_uses_same name fs)

writes_same : (name : ℕ → ℕ) (k : FlatBlock) → writes (renamed_in name k) ≡ writes k
writes_same name k = ap (λ rs. rs ++ filter_map written_by k.code) (regs_same name k.phis)

uses_same : (name : ℕ → ℕ) (k : FlatBlock) → uses (renamed_in name k) ≡ uses k
uses_same name k = ap (λ os. os ++ flat_map used_by k.code ++ used_at_end k.end) (phi_uses_same name k.phis)

copies_write : (fs : List Phi) → filter_map written_by (map as_copy fs) ≡ map (λ (f : Phi). f.reg.0) fs
copies_write [] = refl
copies_write (f ∷ fs) = ap (λ rs. f.reg.0 ∷ rs) (copies_write fs)

joined_writes : (k l : FlatBlock) → writes (joined k l) ≡ writes k ++ writes l
joined_writes k l =
    let regs_k = map (λ (f : Phi). f.reg.0) k.phis in
    let regs_l = map (λ (f : Phi). f.reg.0) l.phis in
    let code_k = filter_map written_by k.code in
    let code_l = filter_map written_by l.code in
    ap (λ rs. map (λ (f : Phi). f.reg.0) k.phis ++ rs) (made_joined written_by (k.code ++ map as_copy l.phis) l.code ∙ ap (λ rs. rs ++ filter_map written_by l.code) (made_joined written_by k.code (map as_copy l.phis) ∙ ap (λ rs. filter_map written_by k.code ++ rs) (copies_write l.phis)))
    ∙ four (map (λ (f : Phi). f.reg.0) k.phis) (filter_map written_by k.code) (map (λ (f : Phi). f.reg.0) l.phis) (filter_map written_by l.code)
  where
    four : (a b c d : List ℕ) → a ++ ((b ++ c) ++ d) ≡ (a ++ b) ++ (c ++ d)
    four a b c d = simp append_assoc

-- the value of the first entry is one of the values, or poison
first_used : (es : List Entry) → Has (map (λ (e : Entry). e.value) es) (first_value es) ⊎ (first_value es ≡ Poison)
first_used [] = inr refl
first_used (e ∷ es) = inl (inl refl)

first_typed : (types : ℕ → Scalar) (s : Scalar) (es : List Entry) → All (λ (e : Entry). HasType types e.value s) es → HasType types (first_value es) s
first_typed types s [] h = tt
first_typed types s (e ∷ es) h = All-contains (λ (e : Entry). HasType types e.value s) (e ∷ es) e h (contains (e ∷ es) e (inl refl))

module _ (types : ℕ → Scalar) (funcs : ℕ → FuncType) (own : FuncType) (old : FlatBody) (h : IsFormedBody types funcs own old) (n m : ℕ) (k l : FlatBlock)
    (at_n : IsBlock old n k) (at_m : IsBlock old m l) (plain : targets k.end ≡ m ∷ []) (not_entry : m ≢ 0) (apart : m ≢ n) (only : (a : ℕ) → IsEdge old a m → a ≡ n) where
  abbrev name : ℕ → ℕ
  name = one_name n m

  abbrev new : FlatBody
  new = record old { blocks = map (renamed_in (one_name n m)) (slice_set (slice_set old.blocks n (joined k l)) m empty_block) }

  abbrev J : FlatBlock
  J = renamed_in (one_name n m) (joined k l)

  abbrev before : List FlatInstr
  before = k.code ++ map as_copy l.phis

  one_block : (b : ℕ) (x y : FlatBlock) → IsBlock old b x → IsBlock old b y → x ≡ y
  one_block b x y e f = let both : Some x ≡ Some y = sym e ∙ f in cc

  not_n : n ≢ m
  not_n e = apart (sym e)

  -- ---- blocks

  data Which (b : ℕ) (y : FlatBlock) : Type 0 where
    is_first : b ≡ n → y ≡ J → Which b y
    is_gone : b ≡ m → y ≡ renamed_in (one_name n m) empty_block → Which b y
    is_other : (z : FlatBlock) → IsBlock old b z → b ≢ n → b ≢ m → y ≡ renamed_in (one_name n m) z → Which b y

  which : (b : ℕ) (y : FlatBlock) → IsBlock new b y → Which b y
  which b y e = by_tests (nat_eq b m) (nat_eq b n) refl refl
    where
      made : (x : FlatBlock) × (slice_get (slice_set (slice_set old.blocks n (joined k l)) m empty_block) b ≡ Some x) × (renamed_in (one_name n m) x ≡ y)
      made = made_at (renamed_in (one_name n m)) (slice_set (slice_set old.blocks n (joined k l)) m empty_block) b y e

      by_tests : (s t : Bool) → nat_eq b m ≡ s → nat_eq b n ≡ t → Which b y
      by_tests true t es et =
          let same : b ≡ m = grind (arith, nat_tests) in
          let is_empty = get_own (slice_set old.blocks n (joined k l)) m empty_block made.0 (ap (slice_get (slice_set (slice_set old.blocks n (joined k l)) m empty_block)) (sym same) ∙ made.1) in
          is_gone same (sym made.2 ∙ ap (renamed_in (one_name n m)) is_empty)
      by_tests false true es et =
          let same : b ≡ n = grind (arith, nat_tests) in
          let is_joined = get_own old.blocks n (joined k l) made.0 (sym (get_other (slice_set old.blocks n (joined k l)) m n empty_block not_n) ∙ ap (slice_get (slice_set (slice_set old.blocks n (joined k l)) m empty_block)) (sym same) ∙ made.1) in
          is_first same (sym made.2 ∙ ap (renamed_in (one_name n m)) is_joined)
      by_tests false false es et =
          let not_m : b ≢ m = λ z. absurd (grind (arith, nat_tests)) in
          let not_first : b ≢ n = λ z. absurd (grind (arith, nat_tests)) in
          is_other made.0 (sym (get_other old.blocks n b (joined k l) not_first) ∙ sym (get_other (slice_set old.blocks n (joined k l)) m b empty_block not_m) ∙ made.1) not_first not_m (sym made.2)

  at_first : IsBlock new n J
  at_first = mapped_at (renamed_in (one_name n m)) (slice_set (slice_set old.blocks n (joined k l)) m empty_block) n (joined k l) (get_other (slice_set old.blocks n (joined k l)) m n empty_block not_n ∙ set_there old.blocks n (joined k l) k at_n)

  at_other : (b : ℕ) (z : FlatBlock) → IsBlock old b z → b ≢ n → b ≢ m → IsBlock new b (renamed_in (one_name n m) z)
  at_other b z e not_first not_m = mapped_at (renamed_in (one_name n m)) (slice_set (slice_set old.blocks n (joined k l)) m empty_block) b z (get_other (slice_set old.blocks n (joined k l)) m b empty_block not_m ∙ get_other old.blocks n b (joined k l) not_first ∙ e)

  -- ---- edges

  first_edge : IsEdge old n m
  first_edge = (k, at_n, subst (λ ts. Contains ts m) (sym plain) (contains (m ∷ []) m (inl refl)))

  from_n : (b : ℕ) → IsEdge old n b → b ≡ m
  from_n b e =
      let same = one_block n e.0 k e.1 at_n in
      ⊎_elim (λ is. sym is) (λ none. absurd none) (has_in (m ∷ []) b (subst (λ ts. Contains ts b) (ap (λ (z : FlatBlock). targets z.end) same ∙ plain) e.2))

  data Edge (a b : ℕ) : Type 0 where
    behind : a ≡ n → IsEdge old m b → Edge a b
    elsewhere : a ≢ n → a ≢ m → IsEdge old a b → Edge a b

  edge_back : (a b : ℕ) → IsEdge new a b → Edge a b
  edge_back a b e = by_block (which a e.0 e.1)
    where
      by_block : Which a e.0 → Edge a b
      by_block (is_first at' is) = behind at' (l, at_m, subst (λ (z : FlatBlock). Contains (targets z.end) b) is e.2)
      by_block (is_gone at' is) = absurd (has_in [] b (subst (λ (z : FlatBlock). Contains (targets z.end) b) is e.2))
      by_block (is_other z at' not_first not_m is) = elsewhere not_first not_m (z, at', subst (λ (y : FlatBlock). Contains (targets y.end) b) is e.2)

  edge_behind : (b : ℕ) → IsEdge old m b → IsEdge new n b
  edge_behind b e = (J, at_first, subst (λ (z : FlatBlock). Contains (targets z.end) b) (one_block m e.0 l e.1 at_m) e.2)

  edge_elsewhere : (a b : ℕ) → IsEdge old a b → a ≢ n → a ≢ m → IsEdge new a b
  edge_elsewhere a b e not_first not_m = (renamed_in (one_name n m) e.0, at_other a e.0 e.1 not_first not_m, e.2)

  old_edge : (a b : ℕ) → IsEdge new a b → (c : ℕ) × IsEdge old c b
  old_edge a b e = by_edge (edge_back a b e)
    where
      by_edge : Edge a b → (c : ℕ) × IsEdge old c b
      by_edge (behind at' f) = (m, f)
      by_edge (elsewhere p q f) = (a, f)

  not_gone : (a b : ℕ) → IsEdge new a b → b ≢ m
  not_gone a b e same = by_edge (edge_back a b e)
    where
      by_edge : Edge a b → ⊥
      by_edge (behind at' f) = apart (only m (subst (λ c. IsEdge old m c) same f))
      by_edge (elsewhere p q f) = p (only a (subst (λ c. IsEdge old a c) same f))

  head_left : (b : ℕ) (older : List ℕ) → IsPath new (b ∷ older) → b ≢ m
  head_left b [] e same = not_entry (sym same ∙ e)
  head_left b (a ∷ older) e same = not_gone a b e.0 same

  -- ---- paths

  abbrev expanded : Bool → ℕ → List ℕ → List ℕ
  expanded true b bs = m ∷ b ∷ bs
  expanded false b bs = b ∷ bs

  abbrev expand : List ℕ → List ℕ
  expand [] = []
  expand (b ∷ bs) = expanded (nat_eq b n) b (expand bs)

  path_back : (b : ℕ) (older : List ℕ) → IsPath new (b ∷ older) → IsPath old (b ∷ expand older)
  path_back b [] e = e
  path_back b (a ∷ older) e = by_test (nat_eq a n) refl (path_back a older e.1) (edge_back a b e.0)
    where
      by_test : (t : Bool) → nat_eq a n ≡ t → IsPath old (a ∷ expand older) → Edge a b → IsPath old (b ∷ expanded t a (expand older))
      by_test true is rest (behind at' f) = (f, (subst (λ c. IsEdge old c m) (sym at') first_edge, rest))
      by_test true is rest (elsewhere p q f) = absurd (p (grind (arith, nat_tests)))
      by_test false is rest (behind at' f) = absurd (grind (arith, nat_tests))
      by_test false is rest (elsewhere p q f) = (f, rest)

  path_behind : (older : List ℕ) → IsPath new (n ∷ older) → IsPath old (m ∷ n ∷ expand older)
  path_behind older e = (first_edge, path_back n older e)

  -- ---- what is written

  long_before : ℕ
  long_before = length before

  from_k : (j i r : ℕ) → j ≤ i → IsWritten k j r → IsWritten J i r
  from_k j i r le (inl phi) = inl (subst (λ rs. Contains rs r) (sym (regs_same (one_name n m) k.phis)) phi)
  from_k j i r le (inr w) = let less = w.2 in inr (w.0, w.1, omega (arith, less, le), left_place before l.code w.0 w.1 (left_place k.code (map as_copy l.phis) w.0 w.1 w.3), w.4)

  from_l : (j i r : ℕ) → length before + j ≤ i → IsWritten l j r → IsWritten J i r
  from_l j i r le (inl phi) =
      let f = map_source (λ (f : Phi). f.reg.0) l.phis r (has_in (map (λ (f : Phi). f.reg.0) l.phis) r phi) in
      let p = at_has l.phis f.0 f.1 in
      let less = slice_get_within l.phis p.0 f.0 p.1 in
      let long = length-append k.code (map as_copy l.phis) in
      let copies = map_length as_copy l.phis in
      inr (length k.code + p.0, as_copy f.0, omega (arith, less, long, copies, le), left_place before l.code (length k.code + p.0) (as_copy f.0) (right_place k.code (map as_copy l.phis) p.0 (as_copy f.0) (mapped_at as_copy l.phis p.0 f.0 p.1)), ap Some f.2)
  from_l j i r le (inr w) = let less = w.2 in inr (length before + w.0, w.1, omega (arith, less, le), right_place before l.code w.0 w.1 w.3, w.4)

  from_other : (z : FlatBlock) (i r : ℕ) → IsWritten z i r → IsWritten (renamed_in (one_name n m) z) i r
  from_other z i r (inl phi) = inl (subst (λ rs. Contains rs r) (sym (regs_same (one_name n m) z.phis)) phi)
  from_other z i r (inr w) = inr w

  long_j : length J.code ≡ length before + length l.code
  long_j = length-append before l.code

  k_before : length k.code ≤ length before
  k_before = let long = length-append k.code (map as_copy l.phis) in omega (arith, long)

  comes_in : (b : ℕ) (older : List ℕ) → IsPath new (b ∷ older) → (r : ℕ) → ComesIn old (expand older) r → ComesIn new older r
  comes_in b [] e r c = c
  comes_in b (a ∷ older) e r c = by_test (nat_eq a n) refl (λ d. comes_in a older e.1 r d) c
    where
      by_test : (t : Bool) → nat_eq a n ≡ t → (ComesIn old (expand older) r → ComesIn new older r) → ComesIn old (expanded t a (expand older)) r → ComesIn new (a ∷ older) r
      by_test true is rest (inl w) =
          let same : n ≡ a = grind (arith, nat_tests) in
          let block = one_block m w.0 l w.1 at_m in
          let long = long_j in
          inl (J, subst (λ c. IsBlock new c J) same at_first, from_l (length l.code) (length J.code) r (omega (arith, long)) (subst (λ (z : FlatBlock). IsWritten z (length z.code) r) block w.2))
      by_test true is rest (inr (inl w)) =
          let same : n ≡ a = grind (arith, nat_tests) in
          let block = one_block n w.0 k (subst (λ c. IsBlock old c w.0) (sym same) w.1) at_n in
          let long = long_j in
          let le = k_before in
          inl (J, subst (λ c. IsBlock new c J) same at_first, from_k (length k.code) (length J.code) r (omega (arith, long, le)) (subst (λ (z : FlatBlock). IsWritten z (length z.code) r) block w.2))
      by_test true is rest (inr (inr d)) = inr (rest d)
      by_test false is rest (inl w) =
          let not_first : a ≢ n = λ same. absurd (grind (arith, nat_tests)) in
          inl (renamed_in (one_name n m) w.0, at_other a w.0 w.1 not_first (head_left a older e.1), from_other w.0 (length w.0.code) r w.2)
      by_test false is rest (inr d) = inr (rest d)

  first_k : (b : ℕ) (older : List ℕ) → IsPath new (b ∷ older) → (j i : ℕ) (o : FlatOp) → j ≤ i → ComesFirst old (expand older) k j o → ComesFirst new older J i o
  first_k b older path j i (Reg r) le (inl w) = inl (from_k j i r.0 le w)
  first_k b older path j i (Reg r) le (inr c) = inr (comes_in b older path r.0 c)
  first_k b older path j i (Word a) le c = tt
  first_k b older path j i Null le c = tt
  first_k b older path j i (Address g q) le c = tt
  first_k b older path j i Poison le c = tt

  first_l : (b : ℕ) (older : List ℕ) → IsPath new (b ∷ older) → (j i : ℕ) (o : FlatOp) → length before + j ≤ i → ComesFirst old (n ∷ expand older) l j o → ComesFirst new older J i o
  first_l b older path j i (Reg r) le (inl w) = inl (from_l j i r.0 le w)
  first_l b older path j i (Reg r) le (inr (inl w)) =
      let block = one_block n w.0 k w.1 at_n in
      let less = k_before in
      inl (from_k (length k.code) i r.0 (omega (arith, less, le)) (subst (λ (z : FlatBlock). IsWritten z (length z.code) r.0) block w.2))
  first_l b older path j i (Reg r) le (inr (inr c)) = inr (comes_in b older path r.0 c)
  first_l b older path j i (Word a) le c = tt
  first_l b older path j i Null le c = tt
  first_l b older path j i (Address g q) le c = tt
  first_l b older path j i Poison le c = tt

  first_other : (b : ℕ) (older : List ℕ) → IsPath new (b ∷ older) → (z : FlatBlock) (i : ℕ) (o : FlatOp) → ComesFirst old (expand older) z i o → ComesFirst new older (renamed_in (one_name n m) z) i o
  first_other b older path z i (Reg r) (inl w) = inl (from_other z i r.0 w)
  first_other b older path z i (Reg r) (inr c) = inr (comes_in b older path r.0 c)
  first_other b older path z i (Word a) c = tt
  first_other b older path z i Null c = tt
  first_other b older path z i (Address g q) c = tt
  first_other b older path z i Poison c = tt

  -- ---- phis

  name_cases : (q : ℕ) → ((q ≡ m) × (one_name n m q ≡ n)) ⊎ ((q ≢ m) × (one_name n m q ≡ q))
  name_cases q = by_test (nat_eq q m) refl
    where
      by_test : (t : Bool) → nat_eq q m ≡ t → ((q ≡ m) × ((if t then n else q) ≡ n)) ⊎ ((q ≢ m) × ((if t then n else q) ≡ q))
      by_test true e = inl (grind (arith, nat_tests), refl)
      by_test false e = inr ((λ same. absurd (grind (arith, nat_tests))), refl)

  entry_back : (f : Phi) (e : Entry) → Contains (map (entry_renamed (one_name n m)) f.entries) e → (x : Entry) × Contains f.entries x × (entry_renamed (one_name n m) x ≡ e)
  entry_back f e in_it = let x = map_source (entry_renamed (one_name n m)) f.entries e (has_in (map (entry_renamed (one_name n m)) f.entries) e in_it) in (x.0, contains f.entries x.0 x.1, x.2)

  is_phi : (b : ℕ) (f : Phi) → b ≢ m → IsPhi old b f → IsPhi new b (phi_renamed (one_name n m) f)
  is_phi b f left i = record {
    only = λ e in_it.
        let x = entry_back f e in_it in
        subst (λ (y : Entry). IsEdge new y.from.0 b) x.2 (from_entry x.0 (i.only x.0 x.1));
    each = λ a edge. by_edge a (edge_back a b edge);
    equal = λ e g in_e in_g same.
        let x = entry_back f e in_e in
        let y = entry_back f g in_g in
        let names : one_name n m x.0.from.0 ≡ one_name n m y.0.from.0 = ap (λ (z : Entry). z.from.0) x.2 ∙ same ∙ sym (ap (λ (z : Entry). z.from.0) y.2) in
        sym (ap (λ (z : Entry). z.value) x.2) ∙ i.equal x.0 y.0 x.1 y.1 (same_from x.0 y.0 (i.only x.0 x.1) (i.only y.0 y.1) names) ∙ ap (λ (z : Entry). z.value) y.2;
  }
    where
      not_from_n : (q : ℕ) → IsEdge old q b → q ≢ n
      not_from_n q e same = left (from_n b (subst (λ c. IsEdge old c b) same e))

      from_entry : (x : Entry) → IsEdge old x.from.0 b → IsEdge new (one_name n m x.from.0) b
      from_entry x e = ⊎_elim
          (λ c. subst (λ q. IsEdge new q b) (sym c.1) (edge_behind b (subst (λ q. IsEdge old q b) c.0 e)))
          (λ c. subst (λ q. IsEdge new q b) (sym c.1) (edge_elsewhere x.from.0 b e (not_from_n x.from.0 e) c.0))
          (name_cases x.from.0)

      renamed_entry : (x : Entry) (a : ℕ) → Contains f.entries x → one_name n m x.from.0 ≡ a → (e : Entry) × Contains (map (entry_renamed (one_name n m)) f.entries) e × (e.from.0 ≡ a)
      renamed_entry x a in_it is = (entry_renamed (one_name n m) x, contains (map (entry_renamed (one_name n m)) f.entries) (entry_renamed (one_name n m) x) (has_mapped (entry_renamed (one_name n m)) f.entries x (has_in f.entries x in_it)), is)

      by_edge : (a : ℕ) → Edge a b → (e : Entry) × Contains (map (entry_renamed (one_name n m)) f.entries) e × (e.from.0 ≡ a)
      by_edge a (behind at' e) =
          let x = i.each m e in
          ⊎_elim (λ c. renamed_entry x.0 a x.1 (c.1 ∙ sym at')) (λ c. absurd (c.0 x.2)) (name_cases x.0.from.0)
      by_edge a (elsewhere p q e) =
          let x = i.each a e in
          ⊎_elim (λ c. absurd (q (sym x.2 ∙ c.0))) (λ c. renamed_entry x.0 a x.1 (c.1 ∙ x.2)) (name_cases x.0.from.0)

      same_from : (x y : Entry) → IsEdge old x.from.0 b → IsEdge old y.from.0 b → one_name n m x.from.0 ≡ one_name n m y.from.0 → x.from.0 ≡ y.from.0
      same_from x y ex ey names = ⊎_elim
          (λ c. ⊎_elim (λ d. c.0 ∙ sym d.0) (λ d. absurd (not_from_n y.from.0 ey (sym d.1 ∙ sym names ∙ c.1))) (name_cases y.from.0))
          (λ c. ⊎_elim (λ d. absurd (not_from_n x.from.0 ex (sym c.1 ∙ names ∙ d.1))) (λ d. sym c.1 ∙ names ∙ d.1) (name_cases y.from.0))
          (name_cases x.from.0)

  record OldPhi (b : ℕ) (g : Phi) : Type 0 where
    left : b ≢ m
    block : FlatBlock
    is_block : IsBlock old b block
    phi : Phi
    in_block : Contains block.phis phi
    same : phi_renamed (one_name n m) phi ≡ g

  phi_back : (b : ℕ) (y : FlatBlock) (g : Phi) → IsBlock new b y → Contains y.phis g → OldPhi b g
  phi_back b y g e in_it = by_block (which b y e)
    where
      by_block : Which b y → OldPhi b g
      by_block (is_first at' is) =
          let f = map_source (phi_renamed (one_name n m)) k.phis g (subst (λ (z : FlatBlock). Has z.phis g) is (has_in y.phis g in_it)) in
          record { left = λ same. not_n (sym at' ∙ same); block = k; is_block = subst (λ c. IsBlock old c k) (sym at') at_n; phi = f.0; in_block = contains k.phis f.0 f.1; same = f.2 }
      by_block (is_gone at' is) = absurd (subst (λ (z : FlatBlock). Has z.phis g) is (has_in y.phis g in_it))
      by_block (is_other z at' not_first not_m is) =
          let f = map_source (phi_renamed (one_name n m)) z.phis g (subst (λ (x : FlatBlock). Has x.phis g) is (has_in y.phis g in_it)) in
          record { left = not_m; block = z; is_block = at'; phi = f.0; in_block = contains z.phis f.0 f.1; same = f.2 }

  -- ---- where an instruction of the joined block comes from

  data Origin (i : ℕ) (x : FlatInstr) : Type 0 where
    of_k : slice_get k.code i ≡ Some x → Origin i x
    of_phi : (f : Phi) → Has l.phis f → length k.code ≤ i → x ≡ as_copy f → Origin i x
    of_l : (j : ℕ) → i ≡ length before + j → slice_get l.code j ≡ Some x → Origin i x

  origin : (i : ℕ) (x : FlatInstr) → slice_get J.code i ≡ Some x → Origin i x
  origin i x e = by_place (place_of before l.code i x e)
    where
      by_front : Place k.code (map as_copy l.phis) i x → Origin i x
      by_front (in_left f) = of_k f
      by_front (in_right j s f) =
          let p = made_at as_copy l.phis j x f in
          of_phi p.0 (has_at l.phis j p.0 p.1) (omega (arith, s)) (sym p.2)

      by_place : Place before l.code i x → Origin i x
      by_place (in_left f) = by_front (place_of k.code (map as_copy l.phis) i x f)
      by_place (in_right j s f) = of_l j s f

  from_n_alone : (f : Phi) (x : Entry) → Has l.phis f → Contains f.entries x → x.from.0 ≡ n
  from_n_alone f x in_l in_f = only x.from.0 ((h.phis m l f at_m (contains l.phis f in_l)).0.only x in_f)

  -- the value that a copy takes comes first
  copy_first : (older : List ℕ) → IsPath new (n ∷ older) → (f : Phi) (i : ℕ) → Has l.phis f → length k.code ≤ i → ComesFirst new older J i (first_value f.entries)
  copy_first older path f i in_l le = by_entries f.entries refl
    where
      by_entries : (es : List Entry) → f.entries ≡ es → ComesFirst new older J i (first_value es)
      by_entries [] is = tt
      by_entries (e ∷ es) is =
          let in_f : Contains f.entries e = subst (λ xs. Contains xs e) (sym is) (contains (e ∷ es) e (inl refl)) in
          first_k n older path (length k.code) i e.value le (h.defined_first.by_phi n m (expand older) k l f e (path_behind older path) at_n at_m (contains l.phis f in_l) in_f (from_n_alone f e in_l in_f))

  first_defined : DefinedFirst new
  first_defined = record {
    by_code = λ b older y i x path is_y at'. code b older y i x path at' (which b y is_y);
    by_end = λ b older y path is_y. end' b older y path (which b y is_y);
    by_phi = λ b c older y z g e path is_y is_z in_z in_g from.
        let f = phi_back c z g is_z in_z in
        let x = entry_back f.phi e (subst (λ (u : Phi). Contains u.entries e) (sym f.same) in_g) in
        let edge = (h.phis c f.block f.phi f.is_block f.in_block).0.only x.0 x.1 in
        let named : one_name n m x.0.from.0 ≡ b = ap (λ (u : Entry). u.from.0) x.2 ∙ from in
        subst (λ o. ComesFirst new older y (length y.code) o) (ap (λ (u : Entry). u.value) x.2)
        (⊎_elim (λ d. phi_behind b c older y f.block f.phi x.0 path.1 f.left (which b y is_y) f.is_block f.in_block x.1 (sym named ∙ d.1) d.0 edge) (λ d. phi_elsewhere b c older y f.block f.phi x.0 path.1 f.left (which b y is_y) f.is_block f.in_block x.1 (sym d.1 ∙ named) d.0 edge) (name_cases x.0.from.0));
  }
    where
      code : (b : ℕ) (older : List ℕ) (y : FlatBlock) (i : ℕ) (x : FlatInstr) → IsPath new (b ∷ older) → slice_get y.code i ≡ Some x → Which b y → All (ComesFirst new older y i) (used_by x)
      code b older y i x path at' (is_first here is) = subst (λ (z : FlatBlock). All (ComesFirst new older z i) (used_by x)) (sym is) (by_origin (origin i x (subst (λ (z : FlatBlock). slice_get z.code i ≡ Some x) is at')))
        where
          path_n : IsPath new (n ∷ older)
          path_n = subst (λ c. IsPath new (c ∷ older)) here path

          by_origin : Origin i x → All (ComesFirst new older J i) (used_by x)
          by_origin (of_k e) =
              let first = h.defined_first.by_code n (expand older) k i x (path_back n older path_n) at_n e in
              each_all (ComesFirst new older J i) (used_by x) (λ o in_it. first_k n older path_n i i o (omega arith) (All-contains (ComesFirst old (expand older) k i) (used_by x) o first (contains (used_by x) o in_it)))
          by_origin (of_phi f in_l le is_copy) =
              subst (λ z. All (ComesFirst new older J i) (used_by z)) (sym is_copy) (each_all (ComesFirst new older J i) (used_by (as_copy f)) (λ o in_it.
              ⊎_elim (λ same. subst (ComesFirst new older J i) same (copy_first older path_n f i in_l le)) (λ none. absurd none) in_it))
          by_origin (of_l j s e) =
              let first = h.defined_first.by_code m (n ∷ expand older) l j x (path_behind older path_n) at_m e in
              each_all (ComesFirst new older J i) (used_by x) (λ o in_it. first_l n older path_n j i o (omega (arith, s)) (All-contains (ComesFirst old (n ∷ expand older) l j) (used_by x) o first (contains (used_by x) o in_it)))
      code b older y i x path at' (is_gone here is) = absurd (head_left b older path here)
      code b older y i x path at' (is_other z here p q is) =
          let first = h.defined_first.by_code b (expand older) z i x (path_back b older path) here (subst (λ (u : FlatBlock). slice_get u.code i ≡ Some x) is at') in
          subst (λ (u : FlatBlock). All (ComesFirst new older u i) (used_by x)) (sym is) (each_all (ComesFirst new older (renamed_in (one_name n m) z) i) (used_by x) (λ o in_it.
          first_other b older path z i o (All-contains (ComesFirst old (expand older) z i) (used_by x) o first (contains (used_by x) o in_it))))

      end' : (b : ℕ) (older : List ℕ) (y : FlatBlock) → IsPath new (b ∷ older) → Which b y → All (ComesFirst new older y (length y.code)) (used_at_end y.end)
      end' b older y path (is_first here is) =
          let path_n : IsPath new (n ∷ older) = subst (λ c. IsPath new (c ∷ older)) here path in
          let first = h.defined_first.by_end m (n ∷ expand older) l (path_behind older path_n) at_m in
          let long = long_j in
          subst (λ (z : FlatBlock). All (ComesFirst new older z (length z.code)) (used_at_end z.end)) (sym is) (each_all (ComesFirst new older J (length J.code)) (used_at_end l.end) (λ o in_it.
          first_l n older path_n (length l.code) (length J.code) o (omega (arith, long)) (All-contains (ComesFirst old (n ∷ expand older) l (length l.code)) (used_at_end l.end) o first (contains (used_at_end l.end) o in_it))))
      end' b older y path (is_gone here is) = absurd (head_left b older path here)
      end' b older y path (is_other z here p q is) =
          let first = h.defined_first.by_end b (expand older) z (path_back b older path) here in
          subst (λ (u : FlatBlock). All (ComesFirst new older u (length u.code)) (used_at_end u.end)) (sym is) (each_all (ComesFirst new older (renamed_in (one_name n m) z) (length z.code)) (used_at_end z.end) (λ o in_it.
          first_other b older path z (length z.code) o (All-contains (ComesFirst old (expand older) z (length z.code)) (used_at_end z.end) o first (contains (used_at_end z.end) o in_it))))

      -- an entry for the block that was merged
      phi_behind : (b c : ℕ) (older : List ℕ) (y z : FlatBlock) (f : Phi) (x : Entry) → IsPath new (b ∷ older) → c ≢ m → Which b y → IsBlock old c z → Contains z.phis f → Contains f.entries x → b ≡ n → x.from.0 ≡ m → IsEdge old x.from.0 c → ComesFirst new older y (length y.code) x.value
      phi_behind b c older y z f x path left (is_first here is) at_c in_z in_f at_b from edge =
          let path_n : IsPath new (n ∷ older) = subst (λ q. IsPath new (q ∷ older)) here path in
          let long = long_j in
          let first = h.defined_first.by_phi m c (n ∷ expand older) l z f x (subst (λ q. IsEdge old q c) from edge, path_behind older path_n) at_m at_c in_z in_f from in
          subst (λ (u : FlatBlock). ComesFirst new older u (length u.code) x.value) (sym is) (first_l n older path_n (length l.code) (length J.code) x.value (omega (arith, long)) first)
      phi_behind b c older y z f x path left (is_gone here is) at_c in_z in_f at_b from edge = absurd (head_left b older path here)
      phi_behind b c older y z f x path left (is_other w here p q is) at_c in_z in_f at_b from edge = absurd (p at_b)

      phi_elsewhere : (b c : ℕ) (older : List ℕ) (y z : FlatBlock) (f : Phi) (x : Entry) → IsPath new (b ∷ older) → c ≢ m → Which b y → IsBlock old c z → Contains z.phis f → Contains f.entries x → x.from.0 ≡ b → x.from.0 ≢ m → IsEdge old x.from.0 c → ComesFirst new older y (length y.code) x.value
      phi_elsewhere b c older y z f x path left (is_first here is) at_c in_z in_f from not_m edge = absurd (left (from_n c (subst (λ q. IsEdge old q c) (from ∙ here) edge)))
      phi_elsewhere b c older y z f x path left (is_gone here is) at_c in_z in_f from not_m edge = absurd (head_left b older path here)
      phi_elsewhere b c older y z f x path left (is_other w here p q is) at_c in_z in_f from not_m edge =
          let first = h.defined_first.by_phi b c (expand older) w z f x (subst (λ v. IsEdge old v c) from edge, path_back b older path) here at_c in_z in_f from in
          subst (λ (u : FlatBlock). ComesFirst new older u (length u.code) x.value) (sym is) (first_other b older path w (length w.code) x.value first)

  -- ---- what is written, and by which block

  record Writer (b r : ℕ) : Type 0 where
    number : ℕ
    block : FlatBlock
    is_block : IsBlock old number block
    writes_it : Has (writes block) r
    stands : one_name n m number ≡ b

  writer : (b : ℕ) (y : FlatBlock) (r : ℕ) → IsBlock new b y → Has (writes y) r → Writer b r
  writer b y r e has = by_block (which b y e)
    where
      own_name : (q : ℕ) → q ≢ m → one_name n m q ≡ q
      own_name q p = ⊎_elim (λ c. absurd (p c.0)) (λ c. c.1) (name_cases q)

      name_m : one_name n m m ≡ n
      name_m = ⊎_elim (λ c. c.1) (λ c. absurd (c.0 refl)) (name_cases m)

      by_block : Which b y → Writer b r
      by_block (is_first here is) = ⊎_elim
          (λ g. record { number = n; block = k; is_block = at_n; writes_it = g; stands = own_name n not_n ∙ sym here })
          (λ g. record { number = m; block = l; is_block = at_m; writes_it = g; stands = name_m ∙ sym here })
          (split (writes k) (writes l) r (subst (λ rs. Has rs r) (writes_same (one_name n m) (joined k l) ∙ joined_writes k l) (subst (λ (z : FlatBlock). Has (writes z) r) is has)))
      by_block (is_gone here is) = absurd (subst (λ (z : FlatBlock). Has (writes z) r) is has)
      by_block (is_other z here p q is) = record { number = b; block = z; is_block = here; writes_it = subst (λ rs. Has rs r) (writes_same (one_name n m) z) (subst (λ (u : FlatBlock). Has (writes u) r) is has); stands = own_name b q }

  once : Apart (all_writes old)
  once = apart_pairs (all_writes old) h.written_once

  own_apart : (b : ℕ) (z : FlatBlock) → IsBlock old b z → Apart (writes z)
  own_apart b z e = apart_part writes old.blocks z once (has_at old.blocks b z e)

  new_apart : (b : ℕ) (y : FlatBlock) → IsBlock new b y → Apart (writes y)
  new_apart b y e = by_block (which b y e)
    where
      by_block : Which b y → Apart (writes y)
      by_block (is_first here is) = subst (λ (z : FlatBlock). Apart (writes z)) (sym is) (subst Apart (sym (writes_same (one_name n m) (joined k l) ∙ joined_writes k l))
          (apart_joined (writes k) (writes l) (own_apart n k at_n) (own_apart m l at_m) (each_from (λ r. Each (λ s. r ≢ s) (writes l)) (writes k) (λ r in_k. each_from (λ s. r ≢ s) (writes l) (λ s in_l same.
          parts_disjoint writes old.blocks n m k l once not_n at_n at_m r in_k (subst (Has (writes l)) (sym same) in_l))))))
      by_block (is_gone here is) = subst (λ (z : FlatBlock). Apart (writes z)) (sym is) tt
      by_block (is_other z here p q is) = subst (λ (u : FlatBlock). Apart (writes u)) (sym is) (subst Apart (sym (writes_same (one_name n m) z)) (own_apart b z here))

  new_disjoint : (i j : ℕ) (x y : FlatBlock) → i ≢ j → IsBlock new i x → IsBlock new j y → (r : ℕ) → Has (writes x) r → Has (writes y) r → ⊥
  new_disjoint i j x y differ ei ej r hx hy = by_test (nat_eq u.number v.number) refl
    where
      u : Writer i r
      u = writer i x r ei hx

      v : Writer j r
      v = writer j y r ej hy

      by_test : (t : Bool) → nat_eq u.number v.number ≡ t → ⊥
      by_test true e = let same : u.number ≡ v.number = grind (arith, nat_tests) in differ (sym u.stands ∙ ap (one_name n m) same ∙ v.stands)
      by_test false e =
          let different : u.number ≢ v.number = λ same. absurd (grind (arith, nat_tests)) in
          parts_disjoint writes old.blocks u.number v.number u.block v.block once different u.is_block v.is_block r u.writes_it v.writes_it

  was_written : (r : ℕ) → Has (all_writes new) r → Has (all_writes old) r
  was_written r has =
      let part = in_part writes new.blocks r has in
      let place = at_has new.blocks part.0 part.1 in
      let w = writer place.0 part.0 r place.1 part.2 in
      has_part writes old.blocks w.block r (has_at old.blocks w.number w.block w.is_block) w.writes_it

  pub still_written : (r : ℕ) → Has (all_writes old) r → Has (all_writes new) r
  still_written r has =
      let part = in_part writes old.blocks r has in
      let place = at_has old.blocks part.0 part.1 in
      by_tests place.0 part.0 place.1 part.2 (nat_eq place.0 n) (nat_eq place.0 m) refl refl
    where
      in_j : Has (writes k ++ writes l) r → Has (all_writes new) r
      in_j g = has_part writes new.blocks J r (has_at new.blocks n J at_first) (subst (λ rs. Has rs r) (sym (writes_same (one_name n m) (joined k l) ∙ joined_writes k l)) g)

      by_tests : (q : ℕ) (z : FlatBlock) → IsBlock old q z → Has (writes z) r → (s t : Bool) → nat_eq q n ≡ s → nat_eq q m ≡ t → Has (all_writes new) r
      by_tests q z e g true t es et =
          let same : q ≡ n = grind (arith, nat_tests) in
          let block = one_block n z k (subst (λ c. IsBlock old c z) same e) at_n in
          in_j (has_left (writes k) (writes l) r (subst (λ (u : FlatBlock). Has (writes u) r) block g))
      by_tests q z e g false true es et =
          let same : q ≡ m = grind (arith, nat_tests) in
          let block = one_block m z l (subst (λ c. IsBlock old c z) same e) at_m in
          in_j (has_right (writes k) (writes l) r (subst (λ (u : FlatBlock). Has (writes u) r) block g))
      by_tests q z e g false false es et =
          let p : q ≢ n = λ same. absurd (grind (arith, nat_tests)) in
          let u : q ≢ m = λ same. absurd (grind (arith, nat_tests)) in
          has_part writes new.blocks (renamed_in (one_name n m) z) r (has_at new.blocks q (renamed_in (one_name n m) z) (at_other q z e p u)) (subst (λ rs. Has rs r) (sym (writes_same (one_name n m) z)) g)

  -- ---- what is used

  param_or_written : (o : FlatOp) → IsParamOrWritten old o → IsParamOrWritten new o
  param_or_written (Reg r) (inl p) = inl p
  param_or_written (Reg r) (inr w) = inr (contains (all_writes new) r.0 (still_written r.0 (has_in (all_writes old) r.0 w)))
  param_or_written (Word a) c = tt
  param_or_written Null c = tt
  param_or_written (Address g q) c = tt
  param_or_written Poison c = tt

  of_use : (b : ℕ) (z : FlatBlock) (o : FlatOp) → IsBlock old b z → Has (uses z) o → IsParamOrWritten new o
  of_use b z o e has = param_or_written o (All-contains (IsParamOrWritten old) (all_uses old) o h.used (contains (all_uses old) o (has_part uses old.blocks z o (has_at old.blocks b z e) has)))

  abbrev code_uses : List FlatInstr → List FlatOp
  code_uses is = flat_map used_by is

  in_phis : (b : ℕ) (z : FlatBlock) (o : FlatOp) → IsBlock old b z → Has (phi_uses z.phis) o → IsParamOrWritten new o
  in_phis b z o e g = of_use b z o e (has_left (phi_uses z.phis ++ code_uses z.code) (used_at_end z.end) o (has_left (phi_uses z.phis) (code_uses z.code) o g))

  in_code : (b : ℕ) (z : FlatBlock) (x : FlatInstr) (o : FlatOp) → IsBlock old b z → Has z.code x → Has (used_by x) o → IsParamOrWritten new o
  in_code b z x o e in_z g = of_use b z o e (has_left (phi_uses z.phis ++ code_uses z.code) (used_at_end z.end) o (has_right (phi_uses z.phis) (code_uses z.code) o (has_part used_by z.code x o in_z g)))

  in_end : (b : ℕ) (z : FlatBlock) (o : FlatOp) → IsBlock old b z → Has (used_at_end z.end) o → IsParamOrWritten new o
  in_end b z o e g = of_use b z o e (has_right (phi_uses z.phis ++ code_uses z.code) (used_at_end z.end) o g)

  copy_used : (f : Phi) (o : FlatOp) → Has l.phis f → Has (used_by (as_copy f)) o → IsParamOrWritten new o
  copy_used f o in_l (inr none) = absurd none
  copy_used f o in_l (inl same) = subst (IsParamOrWritten new) same (⊎_elim
      (λ g. in_phis m l (first_value f.entries) at_m (has_part (λ (x : Phi). map (λ (e : Entry). e.value) x.entries) l.phis f (first_value f.entries) in_l g))
      (λ poison. subst (IsParamOrWritten new) (sym poison) tt)
      (first_used f.entries))

  used_now : (b : ℕ) (y : FlatBlock) (o : FlatOp) → IsBlock new b y → Has (uses y) o → IsParamOrWritten new o
  used_now b y o e has = by_block (which b y e)
    where
      of_instr : (x : FlatInstr) → Has J.code x → Has (used_by x) o → IsParamOrWritten new o
      of_instr x in_j g = let p = at_has J.code x in_j in by_origin (origin p.0 x p.1)
        where
          by_origin : {i : ℕ} → Origin i x → IsParamOrWritten new o
          by_origin {i} (of_k f) = in_code n k x o at_n (has_at k.code i x f) g
          by_origin {i} (of_phi f in_l le is) = copy_used f o in_l (subst (λ z. Has (used_by z) o) is g)
          by_origin {i} (of_l j s f) = in_code m l x o at_m (has_at l.code j x f) g

      by_block : Which b y → IsParamOrWritten new o
      by_block (is_first here is) =
          let g = subst (λ os. Has os o) (uses_same (one_name n m) (joined k l)) (subst (λ (z : FlatBlock). Has (uses z) o) is has) in
          ⊎_elim
          (λ c. ⊎_elim (λ d. in_phis n k o at_n d) (λ d. let part = in_part used_by J.code o d in of_instr part.0 part.1 part.2) (split (phi_uses k.phis) (code_uses J.code) o c))
          (λ c. in_end m l o at_m c)
          (split (phi_uses k.phis ++ code_uses J.code) (used_at_end l.end) o g)
      by_block (is_gone here is) = absurd (subst (λ (z : FlatBlock). Has (uses z) o) is has)
      by_block (is_other z here p q is) = of_use b z o here (subst (λ os. Has os o) (uses_same (one_name n m) z) (subst (λ (u : FlatBlock). Has (uses u) o) is has))

  -- ---- the body

  count_same : length new.blocks ≡ length old.blocks
  count_same = map_length (renamed_in (one_name n m)) (slice_set (slice_set old.blocks n (joined k l)) m empty_block) ∙ set_length (slice_set old.blocks n (joined k l)) m empty_block ∙ set_length old.blocks n (joined k l)

  entry_now : (y : FlatBlock) × IsBlock new 0 y × (y.phis ≡ [])
  entry_now = by_test (nat_eq 0 n) refl
    where
      by_test : (t : Bool) → nat_eq 0 n ≡ t → (y : FlatBlock) × IsBlock new 0 y × (y.phis ≡ [])
      by_test true e =
          let same : n ≡ 0 = grind (arith, nat_tests) in
          let block = one_block 0 k h.entry.0 (subst (λ c. IsBlock old c k) same at_n) h.entry.1 in
          (J, subst (λ c. IsBlock new c J) same at_first, ap (map (phi_renamed (one_name n m))) (ap (λ (z : FlatBlock). z.phis) block ∙ h.entry.2))
      by_test false e =
          let p : 0 ≢ n = λ same. absurd (grind (arith, nat_tests)) in
          let z = h.entry in
          (renamed_in (one_name n m) z.0, at_other 0 z.0 z.1 p (λ same. not_entry (sym same)), ap (map (phi_renamed (one_name n m))) z.2)

  code_typed : (b i : ℕ) (y : FlatBlock) (x : FlatInstr) → slice_get y.code i ≡ Some x → Which b y → IsTyped types funcs x
  code_typed b i y x e (is_first here is) = by_origin (origin i x (subst (λ (z : FlatBlock). slice_get z.code i ≡ Some x) is e))
    where
      by_origin : Origin i x → IsTyped types funcs x
      by_origin (of_k f) = h.code n i k x at_n f
      by_origin (of_phi f in_l le is_copy) = subst (IsTyped types funcs) (sym is_copy) (first_typed types (types f.reg.0) f.entries (h.phis m l f at_m (contains l.phis f in_l)).2)
      by_origin (of_l j s f) = h.code m j l x at_m f
  code_typed b i y x e (is_gone here is) = absurd (let none : None ≡ Some x = subst (λ (z : FlatBlock). slice_get z.code i ≡ Some x) is e in cc)
  code_typed b i y x e (is_other z here p q is) = h.code b i z x here (subst (λ (u : FlatBlock). slice_get u.code i ≡ Some x) is e)

  end_typed : (b : ℕ) (y : FlatBlock) → Which b y → IsEndTyped types own.result y.end
  end_typed b y (is_first here is) = subst (λ (z : FlatBlock). IsEndTyped types own.result z.end) (sym is) (h.ends m l at_m)
  end_typed b y (is_gone here is) = subst (λ (z : FlatBlock). IsEndTyped types own.result z.end) (sym is) tt
  end_typed b y (is_other z here p q is) = subst (λ (u : FlatBlock). IsEndTyped types own.result u.end) (sym is) (h.ends b z here)

  pub merge_formed : IsFormedBody types funcs own new
  merge_formed = record {
    entry = entry_now;
    no_way_back = λ a e. let o = old_edge a 0 e in h.no_way_back o.0 o.1;
    few_params = h.few_params;
    numbers = (h.numbers.0, subst (λ q. q < 4294967296) (sym count_same) h.numbers.1);
    own_params = h.own_params;
    in_range = λ b c e. let o = old_edge b c e in subst (λ q. c < q) (sym count_same) (h.in_range o.0 c o.1);
    phis = λ b y g e in_it.
        let f = phi_back b y g e in_it in
        let was = h.phis b f.block f.phi f.is_block f.in_block in
        subst (λ (u : Phi). IsPhi new b u × (u.reg.0 < old.regs) × All (λ (x : Entry). HasType types x.value (types u.reg.0)) u.entries) f.same
        (is_phi b f.phi f.left was.0, was.1, All-map (λ (x : Entry). HasType types x.value (types f.phi.reg.0)) (entry_renamed (one_name n m)) f.phi.entries was.2);
    code = λ b i y x e at'. code_typed b i y x at' (which b y e);
    written_once = pairs_apart (all_writes new) (parts_apart writes new.blocks new_apart new_disjoint);
    written = each_all (λ r. (old.params ≤ r) × (r < old.regs)) (all_writes new) (λ r has. All-contains (λ r. (old.params ≤ r) × (r < old.regs)) (all_writes old) r h.written (contains (all_writes old) r (was_written r has)));
    used = each_all (IsParamOrWritten new) (all_uses new) (λ o has.
        let part = in_part uses new.blocks o has in
        let place = at_has new.blocks part.0 part.1 in
        used_now place.0 part.0 o place.1 part.2);
    ends = λ b y e. end_typed b y (which b y e);
    defined_first = first_defined;
  }

  -- ---- which blocks are left

  -- no edge leads to the block that was merged, and others only to where one led before
  pub edges_now : (a b : ℕ) → IsEdge new a b → (b ≢ m) × ((c : ℕ) × IsEdge old c b)
  edges_now a b e = (not_gone a b e, old_edge a b e)

  -- blocks that are not left are empty
  pub empty_now : (left : ℕ → Bool) → ((b : ℕ) (z : FlatBlock) → IsBlock old b z → left b ≡ false → z ≡ empty_block)
      → (b : ℕ) (y : FlatBlock) → IsBlock new b y → (not (nat_eq b m) && left b) ≡ false → y ≡ empty_block
  empty_now left was b y e gone = by_block (which b y e)
    where
      not_left : b ≢ m → left b ≡ false
      not_left p = let other : nat_eq b m ≡ false = grind (arith, nat_tests) in ap (λ t. not t && left b) (sym other) ∙ gone

      by_block : Which b y → y ≡ empty_block
      by_block (is_first here is) =
          let is_empty = was n k at_n (subst (λ c. left c ≡ false) here (not_left (λ same. not_n (sym here ∙ same)))) in
          absurd (subst (λ (ts : List ℕ). Has ts m) (sym plain ∙ ap (λ (z : FlatBlock). targets z.end) is_empty) (inl refl))
      by_block (is_gone here is) = is
      by_block (is_other z here p q is) = is ∙ ap (renamed_in (one_name n m)) (was b z here (not_left q))
