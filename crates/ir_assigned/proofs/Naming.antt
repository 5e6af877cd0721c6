-- Where no two things of a function have one name, no two blocks have one label, and no two instructions write one register.
use Rattle.std.proofs.Common.{◌≡◌, ⊎_elim, ℕ, zero, suc, ◌<◌, List, [], ◌∷◌, ◌++◌, map, Option, Some, None, slice_get, refl, sym, ap, ◌∙◌, subst, arith}
use Rattle.std.specs.List.{flat_map}
use Rattle.std.proofs.lemmas.Bool.{cases_lt}
use Rattle.oi_base.specs.declared.ids.Place.{Place}
use Rattle.ir_core.specs.declared.op.LocalId.{LocalId}
use Rattle.ir_core.specs.declared.func.Instr.{Instr}
use Rattle.ir_core.specs.declared.func.Block.{Block}
use Rattle.ir_core.specs.declared.func.Func.{Func}
use Rattle.ir_core.specs.declared.func.Param.{Param}
use Rattle.ir_core.specs.ValidFunc.{LocalAt, instr_local, block_locals_at, BreaksNames}
use Rattle.ir_core.specs.ValidPaths.{IsBlockOf}
use Rattle.ir_assigned.specs.declared.names.Spot.{Spot}
use Rattle.ir_assigned.specs.Names.{LabelsDiffer, IsWriter, IsDefinition, RegistersDiffer}
use Rattle.ir_assigned.proofs.Tables.{one_at}

-- x stands at some index, and y at a later one
abbrev Before : {A : Type 0} → List A → A → A → Type 0
Before xs x y = (i j : ℕ) × (i < j) × (slice_get xs i ≡ Some x) × (slice_get xs j ≡ Some y)

abbrev Stands : {A : Type 0} → List A → A → Type 0
Stands xs x = (i : ℕ) × (slice_get xs i ≡ Some x)

stands_left : {A : Type 0} (xs ys : List A) (x : A) → Stands xs x → Stands (xs ++ ys) x
stands_left [] ys x (i, e) = cc
stands_left (z ∷ zs) ys x (zero, e) = (0, e)
stands_left (z ∷ zs) ys x (suc i, e) = let r = stands_left zs ys x (i, e) in (suc r.0, r.1)

stands_right : {A : Type 0} (xs ys : List A) (y : A) → Stands ys y → Stands (xs ++ ys) y
stands_right [] ys y s = s
stands_right (z ∷ zs) ys y s = let r = stands_right zs ys y s in (suc r.0, r.1)

at_left : {A : Type 0} (xs ys : List A) (k : ℕ) (x : A) → slice_get xs k ≡ Some x → slice_get (xs ++ ys) k ≡ Some x
at_left [] ys k x e = cc
at_left (z ∷ zs) ys zero x e = e
at_left (z ∷ zs) ys (suc k) x e = at_left zs ys k x e

before_left : {A : Type 0} (xs ys : List A) (x y : A) → Before xs x y → Before (xs ++ ys) x y
before_left xs ys x y (i, j, lt, a, b) = (i, j, lt, at_left xs ys i x a, at_left xs ys j y b)

before_right : {A : Type 0} (xs ys : List A) (x y : A) → Before ys x y → Before (xs ++ ys) x y
before_right [] ys x y h = h
before_right (z ∷ zs) ys x y h = let r = before_right zs ys x y h in let lt = r.2 in (suc r.0, suc r.1, omega (arith, lt), r.3, r.4)

before_across : {A : Type 0} (xs ys : List A) (x y : A) → Stands xs x → Stands ys y → Before (xs ++ ys) x y
before_across [] ys x y (i, e) s = cc
before_across (z ∷ zs) ys x y (zero, e) s = let r = stands_right zs ys y s in (0, suc r.0, omega arith, e, r.1)
before_across (z ∷ zs) ys x y (suc i, e) s = let r = before_across zs ys x y (i, e) s in let lt = r.2 in (suc r.0, suc r.1, omega (arith, lt), r.3, r.4)

module _ {A B : Type 0} (g : A → List B) where
  stands_in : (xs : List A) (k : ℕ) (x : A) (u : B) → slice_get xs k ≡ Some x → Stands (g x) u → Stands (flat_map g xs) u
  stands_in [] k x u e s = cc
  stands_in (z ∷ zs) zero x u e s = let same : z ≡ x = cc in stands_left (g z) (flat_map g zs) u (subst (λ w. Stands (g w) u) (sym same) s)
  stands_in (z ∷ zs) (suc k) x u e s = stands_right (g z) (flat_map g zs) u (stands_in zs k x u e s)

  before_in : (xs : List A) (k : ℕ) (x : A) (u v : B) → slice_get xs k ≡ Some x → Before (g x) u v → Before (flat_map g xs) u v
  before_in [] k x u v e h = cc
  before_in (z ∷ zs) zero x u v e h = let same : z ≡ x = cc in before_left (g z) (flat_map g zs) u v (subst (λ w. Before (g w) u v) (sym same) h)
  before_in (z ∷ zs) (suc k) x u v e h = before_right (g z) (flat_map g zs) u v (before_in zs k x u v e h)

  before_from : (xs : List A) (k l : ℕ) (x y : A) (u v : B) → k < l → slice_get xs k ≡ Some x → slice_get xs l ≡ Some y → Stands (g x) u → Stands (g y) v → Before (flat_map g xs) u v
  before_from [] k l x y u v lt a b s t = cc
  before_from (z ∷ zs) zero zero x y u v lt a b s t = absurd (omega (arith, lt))
  before_from (z ∷ zs) zero (suc l) x y u v lt a b s t =
      let same : z ≡ x = cc in
      before_across (g z) (flat_map g zs) u v (subst (λ w. Stands (g w) u) (sym same) s) (stands_in zs l y v b t)
  before_from (z ∷ zs) (suc k) zero x y u v lt a b s t = absurd (omega (arith, lt))
  before_from (z ∷ zs) (suc k) (suc l) x y u v lt a b s t = before_right (g z) (flat_map g zs) u v (before_from zs k l x y u v (omega (arith, lt)) a b s t)

module _ (f : Func) (names : (p : Place) → BreaksNames f p → ⊥) where
  -- two things of one name, the second after the first
  never : (x y : LocalAt) → Before (flat_map block_locals_at f.blocks) x y → x.name ≡ y.name → ⊥
  never x y h same =
      let all = before_right (map (λ (q : Param). record { name = q.name; place = f.place }) f.params) (flat_map block_locals_at f.blocks) x y h in
      names y.place (all.0, all.1, x, y, all.2, all.3, all.4, same, refl)

  abbrev label_at : Block → LocalAt
  label_at k = record { name = k.label; place = k.place }

  label_stands : (k : Block) → Stands (block_locals_at k) (label_at k)
  label_stands k = (0, refl)

  two_labels : (a b : ℕ) (k l : Block) → a < b → IsBlockOf f a k → IsBlockOf f b l → k.label ≡ l.label → ⊥
  two_labels a b k l lt at bt same = never (label_at k) (label_at l) (before_from block_locals_at f.blocks a b k l (label_at k) (label_at l) lt at bt (label_stands k) (label_stands l)) same

  pub labels_differ : LabelsDiffer f
  labels_differ x a b ha hb = ⊎_elim
      (λ lt. absurd (two_labels a b ha.0 hb.0 lt ha.1 hb.1 (ha.2 ∙ sym hb.2)))
      (λ ge. ⊎_elim (λ gt. absurd (two_labels b a hb.0 ha.0 gt hb.1 ha.1 (hb.2 ∙ sym ha.2))) (λ le. omega (arith, ge, le)) (cases_lt b a))
      (cases_lt a b)

  abbrev register_at : Instr → LocalId → LocalAt
  register_at i x = record { name = x; place = i.place }

  result_stands : (i : Instr) (x : LocalId) → i.result ≡ Some x → Stands (instr_local i) (register_at i x)
  result_stands i x e = by_result i.result refl e
    where
      by_result : (r : Option LocalId) → i.result ≡ r → r ≡ Some x → Stands (instr_local i) (register_at i x)
      by_result None a b = cc
      by_result (Some y) a b =
          let one : y ≡ x = cc in
          (0, first (instr_local i) (local_is a) ∙ ap (λ z. Some (register_at i z)) one)
        where
          local_is : i.result ≡ Some y → instr_local i ≡ register_at i y ∷ []
          local_is h = rw h refl

          first : (xs : List LocalAt) → xs ≡ register_at i y ∷ [] → slice_get xs 0 ≡ Some (register_at i y)
          first xs h = ap (λ zs. slice_get zs 0) h

  registers_in : (k : Block) (s : ℕ) (x : LocalId) (w : IsWriter k s x) → Stands (flat_map instr_local k.code) (register_at w.0 x)
  registers_in k s x w = stands_in instr_local k.code s w.0 (register_at w.0 x) w.1 (result_stands w.0 x w.2)

  writer_stands : (k : Block) (s : ℕ) (x : LocalId) (w : IsWriter k s x) → Stands (block_locals_at k) (register_at w.0 x)
  writer_stands k s x w = let r = registers_in k s x w in (suc r.0, r.1)

  two_blocks : (x : LocalId) (a b s t : ℕ) (k l : Block) → a < b → IsBlockOf f a k → IsBlockOf f b l → IsWriter k s x → IsWriter l t x → ⊥
  two_blocks x a b s t k l lt at bt w v = never (register_at w.0 x) (register_at v.0 x) (before_from block_locals_at f.blocks a b k l (register_at w.0 x) (register_at v.0 x) lt at bt (writer_stands k s x w) (writer_stands l t x v)) refl

  two_writers : (x : LocalId) (a s t : ℕ) (k : Block) → s < t → IsBlockOf f a k → IsWriter k s x → IsWriter k t x → ⊥
  two_writers x a s t k lt at w v =
      let inside = before_from instr_local k.code s t w.0 v.0 (register_at w.0 x) (register_at v.0 x) lt w.1 v.1 (result_stands w.0 x w.2) (result_stands v.0 x v.2) in
      let here = before_right (label_at k ∷ []) (flat_map instr_local k.code) (register_at w.0 x) (register_at v.0 x) inside in
      never (register_at w.0 x) (register_at v.0 x) (before_in block_locals_at f.blocks a k (register_at w.0 x) (register_at v.0 x) at here) refl

  one_block : (x : LocalId) (s t : Spot) → IsDefinition f x s → IsDefinition f x t → s.block ≡ t.block
  one_block x s t d e = ⊎_elim
      (λ lt. absurd (two_blocks x s.block t.block s.at t.at d.0 e.0 lt d.1 e.1 d.2 e.2))
      (λ ge. ⊎_elim (λ gt. absurd (two_blocks x t.block s.block t.at s.at e.0 d.0 gt e.1 d.1 e.2 d.2)) (λ le. omega (arith, ge, le)) (cases_lt t.block s.block))
      (cases_lt s.block t.block)

  pub registers_differ : RegistersDiffer f
  registers_differ x s t d e =
      let same = one_block x s t d e in
      let k = one_at f.blocks t.block d.0 e.0 (subst (λ b. IsBlockOf f b d.0) same d.1) e.1 in
      let w : IsWriter e.0 s.at x = subst (λ (b : Block). IsWriter b s.at x) k d.2 in (
        same,
        ⊎_elim
            (λ lt. absurd (two_writers x t.block s.at t.at e.0 lt e.1 w e.2))
            (λ ge. ⊎_elim (λ gt. absurd (two_writers x t.block t.at s.at e.0 gt e.1 e.2 w)) (λ le. omega (arith, ge, le)) (cases_lt t.at s.at))
            (cases_lt s.at t.at),
      )
