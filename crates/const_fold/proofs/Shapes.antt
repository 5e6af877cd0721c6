-- A body with the writes of another at its places, and no edge more: paths, and what comes first on them, carry over.
use Rattle.std.proofs.Common.{◌≡◌, inl, inr, ℕ, zero, suc, ◌<◌, List, [], ◌∷◌, ◌++◌, map, length, Option, Some, slice_get, Contains, refl, sym, ap, ap₂, ◌∙◌, subst, arith}
use Rattle.std.specs.List.{flat_map, filter_map, cons_option}
use Rattle.ir_core.specs.declared.flat.FlatOp.{FlatOp}
use Rattle.ir_core.specs.declared.flat.FlatOp.TheVariants.{Reg, Word, Null, Address, Poison}
use Rattle.ir_core.specs.declared.flat.Phi.{Phi}
use Rattle.ir_core.specs.declared.flat.FlatBlock.{FlatBlock}
use Rattle.ir_core.specs.declared.flat.FlatBody.{FlatBody}
use Rattle.ir_core.specs.Formed.{IsBlock, IsEdge, IsPath, IsWritten, ComesIn, ComesFirst, written_by, targets, writes, all_writes, IsParamOrWritten}

-- ---- lists

pub made_at : {A B : Type 0} (f : A → B) (xs : List A) (k : ℕ) (y : B) → slice_get (map f xs) k ≡ Some y → (x : A) × (slice_get xs k ≡ Some x) × (f x ≡ y)
made_at f [] k y e = absurd cc
made_at f (x ∷ xs) zero y e = (x, refl, cc)
made_at f (x ∷ xs) (suc k) y e = made_at f xs k y e

pub mapped_at : {A B : Type 0} (f : A → B) (xs : List A) (k : ℕ) (x : A) → slice_get xs k ≡ Some x → slice_get (map f xs) k ≡ Some (f x)
mapped_at f [] k x e = cc
mapped_at f (y ∷ ys) zero x e = let same : y ≡ x = cc in ap (λ z. Some (f z)) same
mapped_at f (y ∷ ys) (suc k) x e = mapped_at f ys k x e

pub map_length : {A B : Type 0} (f : A → B) (xs : List A) → length (map f xs) ≡ length xs
map_length f [] = refl
map_length f (x ∷ xs) = ap suc (map_length f xs)

pub no_elements : {A B : Type 0} (f : A → B) (xs : List A) → map f xs ≡ [] → xs ≡ []
no_elements f [] e = refl
no_elements f (x ∷ xs) e = absurd cc

made_twice : {A : Type 0} (f : A → Option ℕ) (xs : List A) → filter_map f xs ≡ filter_map (λ (o : Option ℕ). o) (map f xs)
made_twice f [] = refl
made_twice f (x ∷ xs) = ap (cons_option (f x)) (made_twice f xs)

parts_same : {A B : Type 0} (f : A → List B) (xs ys : List A) → length xs ≡ length ys → ((k : ℕ) (x y : A) → slice_get xs k ≡ Some x → slice_get ys k ≡ Some y → f x ≡ f y) → flat_map f xs ≡ flat_map f ys
parts_same f [] [] l h = refl
parts_same f [] (y ∷ ys) l h = absurd (omega (arith, l))
parts_same f (x ∷ xs) [] l h = absurd (omega (arith, l))
parts_same f (x ∷ xs) (y ∷ ys) l h = ap₂ (λ a b. a ++ b) (h 0 x y refl refl) (parts_same f xs ys (omega (arith, l)) (λ k a b ea eb. h (suc k) a b ea eb))

-- ---- shapes

-- what block l writes is what block k writes, place by place, and it goes only where k goes
pub record SameShape (k l : FlatBlock) : Type 0 where
  pub phis : map (λ (g : Phi). g.reg.0) l.phis ≡ map (λ (g : Phi). g.reg.0) k.phis
  pub code : map written_by l.code ≡ map written_by k.code
  pub edges : (c : ℕ) → Contains (targets l.end) c → Contains (targets k.end) c

pub record Reshaped (old new : FlatBody) : Type 0 where
  pub params : new.params ≡ old.params
  pub count : length new.blocks ≡ length old.blocks
  pub back : (b : ℕ) (l : FlatBlock) → IsBlock new b l → (k : FlatBlock) × IsBlock old b k × SameShape k l
  pub forth : (b : ℕ) (k : FlatBlock) → IsBlock old b k → (l : FlatBlock) × IsBlock new b l × SameShape k l

pub same_writes : (k l : FlatBlock) → SameShape k l → writes l ≡ writes k
same_writes k l s = ap₂ (λ a b. a ++ b) s.phis (made_twice written_by l.code ∙ ap (filter_map (λ (o : Option ℕ). o)) s.code ∙ sym (made_twice written_by k.code))

pub same_length : (k l : FlatBlock) → SameShape k l → length l.code ≡ length k.code
same_length k l s = sym (map_length written_by l.code) ∙ ap length s.code ∙ map_length written_by k.code

pub written_in : (k l : FlatBlock) → SameShape k l → (n r : ℕ) → IsWritten k n r → IsWritten l n r
written_in k l s n r (inl phi) = inl (subst (λ rs. Contains rs r) (sym s.phis) phi)
written_in k l s n r (inr h) =
    let at' : slice_get (map written_by l.code) h.0 ≡ Some (Some r) = ap (λ ws. slice_get ws h.0) s.code ∙ mapped_at written_by k.code h.0 h.1 h.3 ∙ ap Some h.4 in
    let x = made_at written_by l.code h.0 (Some r) at' in
    inr (h.0, x.0, h.2, x.1, x.2)

module _ (old new : FlatBody) (s : Reshaped old new) where
  pub edge_back : (a b : ℕ) → IsEdge new a b → IsEdge old a b
  edge_back a b e = let k = s.back a e.0 e.1 in (k.0, k.1, k.2.edges b e.2)

  pub path_back : (path : List ℕ) → IsPath new path → IsPath old path
  path_back [] h = h
  path_back (b ∷ []) h = h
  path_back (b ∷ a ∷ older) h = (edge_back a b h.0, path_back (a ∷ older) h.1)

  comes_in : (older : List ℕ) (r : ℕ) → ComesIn old older r → ComesIn new older r
  comes_in [] r h = subst (λ n. r < n) (sym s.params) h
  comes_in (b ∷ older) r (inl h) =
      let l = s.forth b h.0 h.1 in
      inl (l.0, l.1, subst (λ n. IsWritten l.0 n r) (sym (same_length h.0 l.0 l.2)) (written_in h.0 l.0 l.2 (length h.0.code) r h.2))
  comes_in (b ∷ older) r (inr h) = inr (comes_in older r h)

  pub comes_first : (older : List ℕ) (k l : FlatBlock) → SameShape k l → (n : ℕ) (o : FlatOp) → ComesFirst old older k n o → ComesFirst new older l n o
  comes_first older k l same n (Reg r) (inl w) = inl (written_in k l same n r.0 w)
  comes_first older k l same n (Reg r) (inr c) = inr (comes_in older r.0 c)
  comes_first older k l same n (Word a) h = tt
  comes_first older k l same n Null h = tt
  comes_first older k l same n (Address g j) h = tt
  comes_first older k l same n Poison h = tt

  pub writes_same : all_writes new ≡ all_writes old
  writes_same = parts_same writes new.blocks old.blocks s.count (λ b l k el ek.
      let x = s.back b l el in
      let both : Some x.0 ≡ Some k = sym x.1 ∙ ek in
      let one : x.0 ≡ k = cc in
      same_writes x.0 l x.2 ∙ ap writes one)

  pub param_or_written : (o : FlatOp) → IsParamOrWritten old o → IsParamOrWritten new o
  param_or_written (Reg r) (inl p) = inl (subst (λ n. r.0 < n) (sym s.params) p)
  param_or_written (Reg r) (inr w) = inr (subst (λ rs. Contains rs r.0) (sym writes_same) w)
  param_or_written (Word a) h = tt
  param_or_written Null h = tt
  param_or_written (Address g j) h = tt
  param_or_written Poison h = tt
