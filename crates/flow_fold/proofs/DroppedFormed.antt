-- A formed body without blocks to which no edge leads from those that are left is formed, where what those use is written.
use Rattle.std.proofs.Common.{◌≡◌, ◌≢◌, ◌⊎◌, inl, inr, ⊎_elim, ℕ, zero, suc, ◌<◌, ◌≤◌, Bool, true, false, if◌then◌else◌, List, [], ◌∷◌, ◌++◌, map, length, Option, Some, slice_get, slice_index_or, All, AllPairs, Contains, refl, sym, ap, ap₂, ◌∙◌, subst, arith}
use Rattle.std.specs.List.{flat_map, filter, filter_map, AllByRecursion as Each}
use Rattle.std.proofs.lemmas.Option.{slice_get_within, get_or_from_slice_get}
use Rattle.std.proofs.lemmas.List.Elements.{All-contains, All-contains_itself, All-filter, All-map}
use Rattle.oi_base.specs.Words.{modulus}
use Rattle.ir_core.specs.declared.flat.Scalar.{Scalar}
use Rattle.ir_core.specs.declared.flat.Case.{Case}
use Rattle.ir_core.specs.declared.flat.Entry.{Entry}
use Rattle.ir_core.specs.declared.flat.Phi.{Phi}
use Rattle.ir_core.specs.declared.flat.FlatOp.{FlatOp}
use Rattle.ir_core.specs.declared.flat.FlatOp.TheVariants.{Reg, Word, Null, Address, Poison}
use Rattle.ir_core.specs.declared.flat.FlatInstr.{FlatInstr}
use Rattle.ir_core.specs.declared.flat.FlatEnd.{FlatEnd}
use Rattle.ir_core.specs.declared.flat.FlatEnd.TheVariants.{Ret, Br, Cond, Switch, Unreachable}
use Rattle.ir_core.specs.declared.flat.FlatBlock.{FlatBlock}
use Rattle.ir_core.specs.declared.flat.FlatBody.{FlatBody}
use Rattle.ir_core.specs.Formed.{FuncType, HasType, IsBlock, IsEdge, IsPath, IsWritten, ComesIn, ComesFirst, DefinedFirst, IsPhi, IsFormedBody, IsEndTyped, IsParamOrWritten, used_by, used_at_end, targets, uses, all_uses, writes, all_writes, written_by}
use Rattle.ir_core.proofs.Lists.{Has, Apart, each_from, each_of, contains, has_in, has_at, at_has, has_left, has_right, has_part, has_mapped, has_made, map_source, apart_left, apart_right, apart_across, element}
use Rattle.ir_safety.proofs.Elements.{split, in_part}
use Rattle.flow_fold.specs.Blocks.{kept_from, number_of, with_entries, entry_renamed, phi_renamed, case_renamed, end_renamed, left_in, only_blocks}
use Rattle.flow_fold.proofs.BranchesFormed.{has_goes, filter_from, filter_has}
use Rattle.flow_fold.proofs.Listed.{map_at}
use Rattle.const_fold.proofs.Shapes.{made_at}
use Rattle.flow_fold.proofs.Kept.{kept_at, kept_back, one_number}
use Rattle.flow_fold.proofs.Reaching.{IsClosed}

-- ---- lists

each_all : {A : Type 0} (P : A → Type 0) (xs : List A) → ((x : A) → Has xs x → P x) → All P xs
each_all P xs h = λ k d lt. h _ (has_in xs _ (All-contains_itself xs k d lt))

each_at : {A : Type 0} (P : A → Type 0) (xs : List A) (i : ℕ) (d : A) → Each P xs → i < length xs → P (slice_index_or xs i d)
each_at P [] i d h lt = absurd (omega (arith, lt))
each_at P (x ∷ xs) zero d h lt = h.0
each_at P (x ∷ xs) (suc i) d h lt = each_at P xs i d h.1 (omega (arith, lt))

pub pairs_apart : (xs : List ℕ) → Apart xs → AllPairs (λ r s. r ≢ s) xs
pairs_apart [] a = λ i j d less within. absurd (omega (arith, within))
pairs_apart (x ∷ xs) a = at (pairs_apart xs a.1)
  where
    at : AllPairs (λ r s. r ≢ s) xs → (i j : ℕ) (d : ℕ) → i < j → j < length (x ∷ xs) → slice_index_or (x ∷ xs) i d ≢ slice_index_or (x ∷ xs) j d
    at rest i zero d less within = absurd (omega (arith, less))
    at rest zero (suc j) d less within = each_at (λ (y : ℕ). x ≢ y) xs j d a.0 (omega (arith, within))
    at rest (suc i) (suc j) d less within = rest i j d (omega (arith, less)) (omega (arith, within))

pub apart_joined : (xs ys : List ℕ) → Apart xs → Apart ys → Each (λ x. Each (λ y. x ≢ y) ys) xs → Apart (xs ++ ys)
apart_joined [] ys a b c = b
apart_joined (x ∷ xs) ys a b c = (both xs ys a.0 c.0, apart_joined xs ys a.1 b c.1)
  where
    both : (us vs : List ℕ) → Each (λ y. x ≢ y) us → Each (λ y. x ≢ y) vs → Each (λ y. x ≢ y) (us ++ vs)
    both [] vs p q = q
    both (u ∷ us) vs p q = (p.0, both us vs p.1 q)

kept_length : {A : Type 0} (keep : ℕ → Bool) (n : ℕ) (xs : List A) → length (kept_from keep n xs) ≤ length xs
kept_length keep n [] = omega arith
kept_length keep n (x ∷ xs) = at (keep n) (kept_length keep (suc n) xs)
  where
    at : (t : Bool) → length (kept_from keep (suc n) xs) ≤ length xs → length (if t then x ∷ kept_from keep (suc n) xs else kept_from keep (suc n) xs) ≤ suc (length xs)
    at true h = omega (arith, h)
    at false h = omega (arith, h)

map_length : {A B : Type 0} (f : A → B) (xs : List A) → length (map f xs) ≡ length xs
map_length f [] = refl
map_length f (x ∷ xs) = ap suc (map_length f xs)

get_map : (f : Case → Case) (xs : List Case) (i : ℕ) (d : Case) → i < length xs → slice_index_or (map f xs) i d ≡ f (slice_index_or xs i d)
get_map f [] i d lt = absurd (omega (arith, lt))
get_map f (x ∷ xs) zero d lt = refl
get_map f (x ∷ xs) (suc i) d lt = get_map f xs i d (omega (arith, lt))

pub apart_pairs : (xs : List ℕ) → AllPairs (λ r s. r ≢ s) xs → Apart xs
apart_pairs [] h = tt
apart_pairs (x ∷ xs) h = (
  each_from (λ (y : ℕ). x ≢ y) xs (λ y has. let k = at_has xs y has in let lt = slice_get_within xs k.0 y k.1 in subst (λ (z : ℕ). x ≢ z) (get_or_from_slice_get xs k.0 y y k.1) (h 0 (suc k.0) y (omega arith) (omega (arith, lt)))),
  apart_pairs xs (λ i j d less within. h (suc i) (suc j) d (omega (arith, less)) (omega (arith, within))),
)

-- ---- blocks that are left

module _ (keep : ℕ → Bool) where
  same_regs : (fs : List Phi) → map (λ (g : Phi). g.reg.0) (map (λ (f : Phi). phi_renamed (number_of keep) (with_entries (λ (e : Entry). keep e.from.0) f)) fs) ≡ map (λ (g : Phi). g.reg.0) fs
  same_regs [] = refl
  same_regs (f ∷ fs) = ap (λ rs. f.reg.0 ∷ rs) (same_regs fs)

  same_writes : (k : FlatBlock) → writes (left_in keep k) ≡ writes k
  same_writes k = ap (λ rs. rs ++ filter_map written_by k.code) (same_regs k.phis)

  all_same : (ks : List FlatBlock) → flat_map writes (map (left_in keep) ks) ≡ flat_map writes ks
  all_same [] = refl
  all_same (k ∷ ks) = ap₂ (λ xs ys. xs ++ ys) (same_writes k) (all_same ks)

  kept_has : (n : ℕ) (ks : List FlatBlock) (r : ℕ) → Has (flat_map writes (kept_from keep n ks)) r → Has (flat_map writes ks) r
  kept_has n [] r h = h
  kept_has n (k ∷ ks) r h = at (keep n) h (λ g. kept_has (suc n) ks r g)
    where
      at : (t : Bool) → Has (flat_map writes (if t then k ∷ kept_from keep (suc n) ks else kept_from keep (suc n) ks)) r → (Has (flat_map writes (kept_from keep (suc n) ks)) r → Has (flat_map writes ks) r) → Has (writes k ++ flat_map writes ks) r
      at true h rest = ⊎_elim (λ g. has_left (writes k) (flat_map writes ks) r g) (λ g. has_right (writes k) (flat_map writes ks) r (rest g)) (split (writes k) (flat_map writes (kept_from keep (suc n) ks)) r h)
      at false h rest = has_right (writes k) (flat_map writes ks) r (rest h)

  kept_apart : (n : ℕ) (ks : List FlatBlock) → Apart (flat_map writes ks) → Apart (flat_map writes (kept_from keep n ks))
  kept_apart n [] a = a
  kept_apart n (k ∷ ks) a = at (keep n) (kept_apart (suc n) ks (apart_right (writes k) (flat_map writes ks) a))
    where
      at : (t : Bool) → Apart (flat_map writes (kept_from keep (suc n) ks)) → Apart (flat_map writes (if t then k ∷ kept_from keep (suc n) ks else kept_from keep (suc n) ks))
      at true rest = apart_joined (writes k) (flat_map writes (kept_from keep (suc n) ks)) (apart_left (writes k) (flat_map writes ks) a) rest
          (each_from (λ (x : ℕ). Each (λ (y : ℕ). x ≢ y) (flat_map writes (kept_from keep (suc n) ks))) (writes k) (λ x in_it. each_from (λ (y : ℕ). x ≢ y) (flat_map writes (kept_from keep (suc n) ks)) (λ y has.
          each_of (λ (z : ℕ). x ≢ z) (flat_map writes ks) y (each_of (λ (u : ℕ). Each (λ (z : ℕ). u ≢ z) (flat_map writes ks)) (writes k) x (apart_across (writes k) (flat_map writes ks) a) in_it) (kept_has (suc n) ks y has))))
      at false rest = rest

  -- ---- terminators

  renamed_targets : (e : FlatEnd) → targets (end_renamed (number_of keep) e) ≡ map (number_of keep) (targets e)
  renamed_targets (Ret a) = refl
  renamed_targets (Br b) = refl
  renamed_targets (Cond c t f) = refl
  renamed_targets (Switch a w cases other) = by_cases cases
    where
      by_cases : (cs : List Case) → map (λ (c : Case). c.to.0) (map (case_renamed (number_of keep)) cs) ++ (number_of keep other.0) ∷ [] ≡ map (number_of keep) (map (λ (c : Case). c.to.0) cs ++ other.0 ∷ [])
      by_cases [] = refl
      by_cases (c ∷ cs) = ap (λ xs. number_of keep c.to.0 ∷ xs) (by_cases cs)
  renamed_targets Unreachable = refl

  same_used : (e : FlatEnd) → used_at_end (end_renamed (number_of keep) e) ≡ used_at_end e
  same_used (Ret a) = refl
  same_used (Br b) = refl
  same_used (Cond c t f) = refl
  same_used (Switch a w cases other) = refl
  same_used Unreachable = refl

  same_typed : (types : ℕ → Scalar) (result : Option Scalar) (e : FlatEnd) → IsEndTyped types result e → IsEndTyped types result (end_renamed (number_of keep) e)
  same_typed types result (Ret a) h = h
  same_typed types result (Br b) h = h
  same_typed types result (Cond c t f) h = h
  same_typed types result (Switch a w cases other) h = (
    h.0,
    All-map (λ (c : Case). c.word < modulus w) (case_renamed (number_of keep)) cases h.1,
    λ i j d less within.
        let long = map_length (case_renamed (number_of keep)) cases in
        let lt_j : j < length cases = omega (arith, within, long) in
        let lt_i : i < length cases = omega (arith, less, lt_j) in
        λ same. h.2 i j d less lt_j (ap (λ (c : Case). c.word) (sym (get_map (case_renamed (number_of keep)) cases i d lt_i)) ∙ same ∙ ap (λ (c : Case). c.word) (get_map (case_renamed (number_of keep)) cases j d lt_j)),
  )
  same_typed types result Unreachable h = h

module _ (types : ℕ → Scalar) (funcs : ℕ → FuncType) (own : FuncType) (old : FlatBody) (h : IsFormedBody types funcs own old) (keep : ℕ → Bool) (closed : IsClosed keep old) where
  abbrev new : FlatBody
  new = only_blocks keep old

  -- ---- blocks and edges

  pub record Source (x : ℕ) (l : FlatBlock) : Type 0 where
    pub number : ℕ
    left : keep number ≡ true
    named : number_of keep number ≡ x
    pub block : FlatBlock
    pub is_block : IsBlock old number block
    pub same : l ≡ left_in keep block

  pub source : (x : ℕ) (l : FlatBlock) → IsBlock new x l → Source x l
  source x l e =
      let z = made_at (left_in keep) (kept_from keep 0 old.blocks) x l e in
      let b = kept_back keep old.blocks x z.0 z.1 in
      record { number = b.0; left = b.1; named = b.2; block = z.0; is_block = b.3; same = sym z.2 }

  block_at : (b : ℕ) (k : FlatBlock) → IsBlock old b k → keep b ≡ true → IsBlock new (number_of keep b) (left_in keep k)
  block_at b k e left = map_at (left_in keep) (kept_from keep 0 old.blocks) (number_of keep b) k (kept_at keep old.blocks b k e left)

  goes_on : (a b : ℕ) → IsEdge old a b → keep a ≡ true → keep b ≡ true
  goes_on a b e left = closed.on a b e.0 e.1 left (has_goes (targets e.0.end) b (has_in (targets e.0.end) b e.2))

  edge_forth : (a b : ℕ) → IsEdge old a b → keep a ≡ true → IsEdge new (number_of keep a) (number_of keep b)
  edge_forth a b e left = (
    left_in keep e.0,
    block_at a e.0 e.1 left,
    contains (targets (left_in keep e.0).end) (number_of keep b)
        (subst (λ ts. Has ts (number_of keep b)) (sym (renamed_targets keep e.0.end)) (has_mapped (number_of keep) (targets e.0.end) b (has_in (targets e.0.end) b e.2))),
  )

  record Edge (x y : ℕ) : Type 0 where
    from : ℕ
    to : ℕ
    left : keep from ≡ true
    named : number_of keep from ≡ x
    named_to : number_of keep to ≡ y
    edge : IsEdge old from to

  edge_back : (x y : ℕ) → IsEdge new x y → Edge x y
  edge_back x y e =
      let s = source x e.0 e.1 in
      let in_it = subst (λ (z : FlatBlock). Has (targets z.end) y) s.same (has_in (targets e.0.end) y e.2) in
      let t = map_source (number_of keep) (targets s.block.end) y (subst (λ ts. Has ts y) (renamed_targets keep s.block.end) in_it) in
      record { from = s.number; to = t.0; left = s.left; named = s.named; named_to = t.2; edge = (s.block, s.is_block, contains (targets s.block.end) t.0 t.1) }

  -- ---- paths

  abbrev Pairs : List ℕ → List ℕ → Type 0
  Pairs [] [] = Unit {0}
  Pairs (b ∷ bs) (x ∷ xs) = (keep b ≡ true) × (number_of keep b ≡ x) × Pairs bs xs
  Pairs [] (x ∷ xs) = ⊥
  Pairs (b ∷ bs) [] = ⊥

  record Way (x : ℕ) (xs : List ℕ) : Type 0 where
    first : ℕ
    older : List ℕ
    path : IsPath old (first ∷ older)
    left : keep first ≡ true
    named : number_of keep first ≡ x
    pairs : Pairs older xs

  way : (x : ℕ) (xs : List ℕ) → IsPath new (x ∷ xs) → Way x xs
  way x [] e = record { first = 0; older = []; path = refl; left = closed.entry; named = sym e; pairs = tt }
  way x (y ∷ ys) e =
      let w = way y ys e.1 in
      let s = edge_back y x e.0 in
      let same : s.from ≡ w.first = one_number keep s.from w.first s.left w.left (s.named ∙ sym w.named) in
      let edge : IsEdge old w.first s.to = subst (λ a. IsEdge old a s.to) same s.edge in
      record { first = s.to; older = w.first ∷ w.older; path = (edge, w.path); left = goes_on w.first s.to edge w.left; named = s.named_to; pairs = (w.left, w.named, w.pairs) }

  written_same : (k : FlatBlock) (n r : ℕ) → IsWritten k n r → IsWritten (left_in keep k) n r
  written_same k n r (inl phi) = inl (subst (λ rs. Contains rs r) (sym (same_regs keep k.phis)) phi)
  written_same k n r (inr w) = inr w

  comes_in : (bs xs : List ℕ) → Pairs bs xs → (r : ℕ) → ComesIn old bs r → ComesIn new xs r
  comes_in [] [] h' r c = c
  comes_in [] (x ∷ xs) h' r c = absurd h'
  comes_in (b ∷ bs) [] h' r c = absurd h'
  comes_in (b ∷ bs) (x ∷ xs) h' r (inl w) = inl (left_in keep w.0, subst (λ n. IsBlock new n (left_in keep w.0)) h'.1 (block_at b w.0 w.1 h'.0), written_same w.0 (length w.0.code) r w.2)
  comes_in (b ∷ bs) (x ∷ xs) h' r (inr c) = inr (comes_in bs xs h'.2 r c)

  comes_first : (bs xs : List ℕ) → Pairs bs xs → (k : FlatBlock) (n : ℕ) (o : FlatOp) → ComesFirst old bs k n o → ComesFirst new xs (left_in keep k) n o
  comes_first bs xs pairs k n (Reg r) (inl w) = inl (written_same k n r.0 w)
  comes_first bs xs pairs k n (Reg r) (inr c) = inr (comes_in bs xs pairs r.0 c)
  comes_first bs xs pairs k n (Word a) c = tt
  comes_first bs xs pairs k n Null c = tt
  comes_first bs xs pairs k n (Address g j) c = tt
  comes_first bs xs pairs k n Poison c = tt

  -- a source is the block of a way that ends there
  same_source : (x : ℕ) (xs : List ℕ) (l : FlatBlock) (w : Way x xs) (s : Source x l) → IsBlock new x l → IsBlock old w.first s.block
  same_source x xs l w s e = subst (λ b. IsBlock old b s.block) (one_number keep s.number w.first s.left w.left (s.named ∙ sym w.named)) s.is_block

  -- ---- phis

  abbrev change : Phi → Phi
  change g = phi_renamed (number_of keep) (with_entries (λ (e : Entry). keep e.from.0) g)

  record FromEntry (g : Phi) (e : Entry) : Type 0 where
    entry : Entry
    in_it : Has g.entries entry
    left : keep entry.from.0 ≡ true
    same : entry_renamed (number_of keep) entry ≡ e

  entry_back : (g : Phi) (e : Entry) → Has (change g).entries e → FromEntry g e
  entry_back g e has =
      let z = map_source (entry_renamed (number_of keep)) (filter (λ (x : Entry). keep x.from.0) g.entries) e has in
      let f = filter_from (λ (x : Entry). keep x.from.0) g.entries z.0 z.1 in
      record { entry = z.0; in_it = f.0; left = f.1; same = z.2 }

  entry_forth : (g : Phi) (e : Entry) → Has g.entries e → keep e.from.0 ≡ true → Has (change g).entries (entry_renamed (number_of keep) e)
  entry_forth g e has left = has_mapped (entry_renamed (number_of keep)) (filter (λ (x : Entry). keep x.from.0) g.entries) e (filter_has (λ (x : Entry). keep x.from.0) g.entries e has left)

  is_phi : (b : ℕ) (g : Phi) → keep b ≡ true → IsPhi old b g → IsPhi new (number_of keep b) (change g)
  is_phi b g left i = record {
    only = λ e in_it.
        let z = entry_back g e (has_in (change g).entries e in_it) in
        subst (λ (x : Entry). IsEdge new x.from.0 (number_of keep b)) z.same (edge_forth z.entry.from.0 b (i.only z.entry (contains g.entries z.entry z.in_it)) z.left);
    each = λ a edge.
        let s = edge_back a (number_of keep b) edge in
        let same : s.to ≡ b = one_number keep s.to b (goes_on s.from s.to s.edge s.left) left s.named_to in
        let x = i.each s.from (subst (λ c. IsEdge old s.from c) same s.edge) in
        let stays : keep x.0.from.0 ≡ true = ap keep x.2 ∙ s.left in
        (entry_renamed (number_of keep) x.0, contains (change g).entries (entry_renamed (number_of keep) x.0) (entry_forth g x.0 (has_in g.entries x.0 x.1) stays), ap (number_of keep) x.2 ∙ s.named);
    equal = λ e f in_e in_f same.
        let y = entry_back g e (has_in (change g).entries e in_e) in
        let z = entry_back g f (has_in (change g).entries f in_f) in
        let numbers : number_of keep y.entry.from.0 ≡ number_of keep z.entry.from.0 = ap (λ (x : Entry). x.from.0) y.same ∙ same ∙ sym (ap (λ (x : Entry). x.from.0) z.same) in
        let one = one_number keep y.entry.from.0 z.entry.from.0 y.left z.left numbers in
        sym (ap (λ (x : Entry). x.value) y.same) ∙ i.equal y.entry z.entry (contains g.entries y.entry y.in_it) (contains g.entries z.entry z.in_it) one ∙ ap (λ (x : Entry). x.value) z.same;
  }

  -- ---- what comes first

  first_defined : DefinedFirst new
  first_defined = record {
    by_code = λ x xs l n i path e at'.
        let w = way x xs path in
        let s = source x l e in
        let first = h.defined_first.by_code w.first w.older s.block n i w.path (same_source x xs l w s e) (subst (λ (z : FlatBlock). slice_get z.code n ≡ Some i) s.same at') in
        each_all (ComesFirst new xs l n) (used_by i) (λ o in_it. subst (λ (z : FlatBlock). ComesFirst new xs z n o) (sym s.same)
        (comes_first w.older xs w.pairs s.block n o (All-contains (ComesFirst old w.older s.block n) (used_by i) o first (contains (used_by i) o in_it))));
    by_end = λ x xs l path e.
        let w = way x xs path in
        let s = source x l e in
        let first = h.defined_first.by_end w.first w.older s.block w.path (same_source x xs l w s e) in
        subst (λ (z : FlatBlock). All (ComesFirst new xs z (length z.code)) (used_at_end z.end)) (sym s.same)
        (each_all (ComesFirst new xs (left_in keep s.block) (length s.block.code)) (used_at_end (left_in keep s.block).end) (λ o in_it.
        comes_first w.older xs w.pairs s.block (length s.block.code) o (All-contains (ComesFirst old w.older s.block (length s.block.code)) (used_at_end s.block.end) o first (contains (used_at_end s.block.end) o (subst (λ os. Has os o) (same_used keep s.block.end) in_it)))));
    by_phi = λ x y xs k l g e path is_k is_l in_l in_g from.
        let w = way x xs path.1 in
        let s = source x k is_k in
        let d = edge_back x y path.0 in
        let start : d.from ≡ w.first = one_number keep d.from w.first d.left w.left (d.named ∙ sym w.named) in
        let edge : IsEdge old w.first d.to = subst (λ a. IsEdge old a d.to) start d.edge in
        let z = source y l is_l in
        let target : z.number ≡ d.to = one_number keep z.number d.to z.left (goes_on w.first d.to edge w.left) (z.named ∙ sym d.named_to) in
        let f = map_source change z.block.phis g (subst (λ (u : FlatBlock). Has u.phis g) z.same (has_in l.phis g in_l)) in
        let v = entry_back f.0 e (subst (λ (u : Phi). Has u.entries e) (sym f.2) (has_in g.entries e in_g)) in
        let coming : v.entry.from.0 ≡ w.first = one_number keep v.entry.from.0 w.first v.left w.left (ap (λ (u : Entry). u.from.0) v.same ∙ from ∙ sym w.named) in
        let first = h.defined_first.by_phi w.first d.to w.older s.block z.block f.0 v.entry (edge, w.path) (same_source x xs k w s is_k) (subst (λ b. IsBlock old b z.block) target z.is_block) (contains z.block.phis f.0 f.1) (contains f.0.entries v.entry v.in_it) coming in
        subst (λ (u : FlatBlock). ComesFirst new xs u (length u.code) e.value) (sym s.same)
        (subst (λ o. ComesFirst new xs (left_in keep s.block) (length s.block.code) o) (ap (λ (u : Entry). u.value) v.same) (comes_first w.older xs w.pairs s.block (length s.block.code) v.entry.value first));
  }

  -- ---- registers that are used are still written

  kept_path : (xs : List ℕ) → IsPath old xs → Each (λ b. keep b ≡ true) xs
  kept_path [] e = tt
  kept_path (b ∷ []) e = (subst (λ n. keep n ≡ true) (sym e) closed.entry, tt)
  kept_path (b ∷ a ∷ older) e = let rest = kept_path (a ∷ older) e.1 in (goes_on a b e.0 rest.0, rest)

  written_has : (k : FlatBlock) (n r : ℕ) → IsWritten k n r → Has (writes k) r
  written_has k n r (inl phi) = has_left (map (λ (g : Phi). g.reg.0) k.phis) (filter_map written_by k.code) r (has_in (map (λ (g : Phi). g.reg.0) k.phis) r phi)
  written_has k n r (inr w) = has_right (map (λ (g : Phi). g.reg.0) k.phis) (filter_map written_by k.code) r (has_made written_by k.code w.1 r (has_at k.code w.0 w.1 w.3) w.4)

  pub still_written : (b : ℕ) (k : FlatBlock) (r : ℕ) → IsBlock old b k → keep b ≡ true → Has (writes k) r → Contains (all_writes new) r
  still_written b k r e left has = contains (all_writes new) r (has_part writes new.blocks (left_in keep k) r (has_at new.blocks (number_of keep b) (left_in keep k) (block_at b k e left)) (subst (λ rs. Has rs r) (sym (same_writes keep k)) has))

  came_in : (bs : List ℕ) (r : ℕ) → Each (λ b. keep b ≡ true) bs → ComesIn old bs r → (r < old.params) ⊎ Contains (all_writes new) r
  came_in [] r left c = inl c
  came_in (b ∷ bs) r left (inl w) = inr (still_written b w.0 r w.1 left.0 (written_has w.0 (length w.0.code) r w.2))
  came_in (b ∷ bs) r left (inr c) = came_in bs r left.1 c

  came_first : (b : ℕ) (bs : List ℕ) (k : FlatBlock) (n : ℕ) (o : FlatOp) → IsBlock old b k → keep b ≡ true → IsPath old (b ∷ bs) → ComesFirst old bs k n o → IsParamOrWritten new o
  came_first b bs k n (Reg r) e left path (inl w) = inr (still_written b k r.0 e left (written_has k n r.0 w))
  came_first b bs k n (Reg r) e left path (inr c) = came_in bs r.0 (kept_path (b ∷ bs) path).1 c
  came_first b bs k n (Word a) e left path c = tt
  came_first b bs k n Null e left path c = tt
  came_first b bs k n (Address g j) e left path c = tt
  came_first b bs k n Poison e left path c = tt

  abbrev phi_uses : List Phi → List FlatOp
  phi_uses fs = flat_map (λ (x : Phi). map (λ (y : Entry). y.value) x.entries) fs

  abbrev code_uses : List FlatInstr → List FlatOp
  code_uses is = flat_map used_by is

  -- where a path leads to each block that is left
  module _ (paths : (b : ℕ) → keep b ≡ true → (older : List ℕ) × IsPath old (b ∷ older)) where
    block_used : (b : ℕ) (k : FlatBlock) → IsBlock old b k → keep b ≡ true → (o : FlatOp) → Has (uses (left_in keep k)) o → IsParamOrWritten new o
    block_used b k e left o has = ⊎_elim (λ x. ⊎_elim in_phis in_code (split (phi_uses (map change k.phis)) (code_uses k.code) o x)) at_end (split (phi_uses (map change k.phis) ++ code_uses k.code) (used_at_end (left_in keep k).end) o has)
      where
        way_to : (older : List ℕ) × IsPath old (b ∷ older)
        way_to = paths b left

        in_phis : Has (phi_uses (map change k.phis)) o → IsParamOrWritten new o
        in_phis g =
            let part = in_part (λ (x : Phi). map (λ (y : Entry). y.value) x.entries) (map change k.phis) o g in
            let f = map_source change k.phis part.0 part.1 in
            let en = map_source (λ (y : Entry). y.value) part.0.entries o part.2 in
            let v = entry_back f.0 en.0 (subst (λ (x : Phi). Has x.entries en.0) (sym f.2) en.1) in
            let edge = (h.phis b k f.0 e (contains k.phis f.0 f.1)).0.only v.entry (contains f.0.entries v.entry v.in_it) in
            let before = paths v.entry.from.0 v.left in
            let first = h.defined_first.by_phi v.entry.from.0 b before.0 edge.0 k f.0 v.entry (edge, before.1) edge.1 e (contains k.phis f.0 f.1) (contains f.0.entries v.entry v.in_it) refl in
            subst (IsParamOrWritten new) (ap (λ (y : Entry). y.value) v.same ∙ en.2) (came_first v.entry.from.0 before.0 edge.0 (length edge.0.code) v.entry.value edge.1 v.left before.1 first)

        in_code : Has (code_uses k.code) o → IsParamOrWritten new o
        in_code g =
            let part = in_part used_by k.code o g in
            let place = at_has k.code part.0 part.1 in
            let first = h.defined_first.by_code b way_to.0 k place.0 part.0 way_to.1 e place.1 in
            came_first b way_to.0 k place.0 o e left way_to.1 (All-contains (ComesFirst old way_to.0 k place.0) (used_by part.0) o first (contains (used_by part.0) o part.2))

        at_end : Has (used_at_end (left_in keep k).end) o → IsParamOrWritten new o
        at_end g =
            let first = h.defined_first.by_end b way_to.0 k way_to.1 e in
            came_first b way_to.0 k (length k.code) o e left way_to.1 (All-contains (ComesFirst old way_to.0 k (length k.code)) (used_at_end k.end) o first (contains (used_at_end k.end) o (subst (λ os. Has os o) (same_used keep k.end) g)))

    pub used_on_paths : (o : FlatOp) → Has (all_uses new) o → IsParamOrWritten new o
    used_on_paths o has =
        let part = in_part uses new.blocks o has in
        let place = at_has new.blocks part.0 part.1 in
        let s = source place.0 part.0 place.1 in
        block_used s.number s.block s.is_block s.left o (subst (λ (u : FlatBlock). Has (uses u) o) s.same part.2)

  pub new_writes : all_writes new ≡ flat_map writes (kept_from keep 0 old.blocks)
  new_writes = all_same keep (kept_from keep 0 old.blocks)

  -- where what is used is written in what is left
  pub dropped_formed : ((o : FlatOp) → Has (all_uses new) o → IsParamOrWritten new o) → IsFormedBody types funcs own new
  dropped_formed used_new = record {
    entry = let k = h.entry in (left_in keep k.0, block_at 0 k.0 k.1 closed.entry, ap (map change) k.2);
    no_way_back = λ a e.
        let s = edge_back a 0 e in
        h.no_way_back s.from (subst (λ c. IsEdge old s.from c) (one_number keep s.to 0 (goes_on s.from s.to s.edge s.left) closed.entry s.named_to) s.edge);
    few_params = h.few_params;
    numbers =
        let few = h.numbers.1 in
        let less = kept_length keep 0 old.blocks in
        let long = map_length (left_in keep) (kept_from keep 0 old.blocks) in
        (h.numbers.0, omega (arith, few, less, long));
    own_params = h.own_params;
    in_range = λ x y e.
        let s = edge_back x y e in
        let z = element old.blocks s.to (h.in_range s.from s.to s.edge) in
        subst (λ c. c < length new.blocks) s.named_to (slice_get_within new.blocks (number_of keep s.to) (left_in keep z.0) (block_at s.to z.0 z.1 (goes_on s.from s.to s.edge s.left)));
    phis = λ x l g e in_it.
        let s = source x l e in
        let f = map_source change s.block.phis g (subst (λ (u : FlatBlock). Has u.phis g) s.same (has_in l.phis g in_it)) in
        let was = h.phis s.number s.block f.0 s.is_block (contains s.block.phis f.0 f.1) in
        subst (λ (u : Phi). IsPhi new x u × (u.reg.0 < old.regs) × All (λ (y : Entry). HasType types y.value (types u.reg.0)) u.entries) f.2 (
          subst (λ n. IsPhi new n (change f.0)) s.named (is_phi s.number f.0 s.left was.0),
          was.1,
          All-map (λ (y : Entry). HasType types y.value (types f.0.reg.0)) (entry_renamed (number_of keep)) (filter (λ (y : Entry). keep y.from.0) f.0.entries)
              (All-filter (λ (y : Entry). keep y.from.0) (λ (y : Entry). HasType types y.value (types f.0.reg.0)) f.0.entries was.2),
        );
    code = λ x n l i e at'. let s = source x l e in h.code s.number n s.block i s.is_block (subst (λ (u : FlatBlock). slice_get u.code n ≡ Some i) s.same at');
    written_once = pairs_apart (all_writes new) (subst Apart (sym new_writes) (kept_apart keep 0 old.blocks (apart_pairs (all_writes old) h.written_once)));
    written = each_all (λ r. (old.params ≤ r) × (r < old.regs)) (all_writes new) (λ r has.
        All-contains (λ r. (old.params ≤ r) × (r < old.regs)) (all_writes old) r h.written (contains (all_writes old) r (kept_has keep 0 old.blocks r (subst (λ rs. Has rs r) new_writes has))));
    used = each_all (IsParamOrWritten new) (all_uses new) used_new;
    ends = λ x l e. let s = source x l e in subst (λ (u : FlatBlock). IsEndTyped types own.result u.end) (sym s.same) (same_typed keep types own.result s.block.end (h.ends s.number s.block s.is_block));
    defined_first = first_defined;
  }

  -- ---- operands are old ones

  pub old_use : (b : ℕ) (k : FlatBlock) (o : FlatOp) → Has (uses (left_in keep k)) o → Has (uses k) o
  old_use b k o has = ⊎_elim (λ x. ⊎_elim in_phis in_code (split (phi_uses (map change k.phis)) (code_uses k.code) o x)) at_end (split (phi_uses (map change k.phis) ++ code_uses k.code) (used_at_end (left_in keep k).end) o has)
    where
      in_phis : Has (phi_uses (map change k.phis)) o → Has (uses k) o
      in_phis g =
          let part = in_part (λ (x : Phi). map (λ (y : Entry). y.value) x.entries) (map change k.phis) o g in
          let f = map_source change k.phis part.0 part.1 in
          let en = map_source (λ (y : Entry). y.value) part.0.entries o part.2 in
          let v = entry_back f.0 en.0 (subst (λ (x : Phi). Has x.entries en.0) (sym f.2) en.1) in
          has_left (phi_uses k.phis ++ code_uses k.code) (used_at_end k.end) o (has_left (phi_uses k.phis) (code_uses k.code) o
          (has_part (λ (x : Phi). map (λ (y : Entry). y.value) x.entries) k.phis f.0 o f.1 (subst (λ z. Has (map (λ (y : Entry). y.value) f.0.entries) z) (ap (λ (y : Entry). y.value) v.same ∙ en.2) (has_mapped (λ (y : Entry). y.value) f.0.entries v.entry v.in_it))))

      in_code : Has (code_uses k.code) o → Has (uses k) o
      in_code g = has_left (phi_uses k.phis ++ code_uses k.code) (used_at_end k.end) o (has_right (phi_uses k.phis) (code_uses k.code) o g)

      at_end : Has (used_at_end (left_in keep k).end) o → Has (uses k) o
      at_end g = has_right (phi_uses k.phis ++ code_uses k.code) (used_at_end k.end) o (subst (λ os. Has os o) (same_used keep k.end) g)
