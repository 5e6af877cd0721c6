-- BlockPaths and paths, and uses that are missed on them.
use Rattle.std.proofs.Common.{◌≡◌, inl, inr, ℕ, zero, suc, ◌<◌, List, [], ◌∷◌, ◌++◌, length, Option, Some, None, slice_get, Contains, refl, sym, ap, ◌∙◌, subst, arith}
use Rattle.std.proofs.lemmas.Option.{slice_get_within, slice_get-get_or}
use Rattle.ir_core.specs.declared.func.Block.{Block}
use Rattle.ir_core.specs.declared.func.Func.{Func}
use Rattle.ir_core.specs.ValidFunc.{IsParam}
use Rattle.ir_core.specs.ValidPaths.{IsBlockOf, IsSuccessor, Writes, IsAssigned}
use Rattle.ir_core.proofs.Lists.{Has, contains, has_at}
use Rattle.ir_assigned.specs.declared.names.Spot.{Spot}
use Rattle.ir_assigned.specs.declared.uses.Use.{Use}
use Rattle.ir_assigned.specs.Names.{found, IsWriter, IsDefinition, AreDefinitions, RegistersDiffer}
use Rattle.ir_assigned.specs.BlockPaths.{IsRoute, block_of, MissesOn, IsBefore}
use Rattle.ir_assigned.proofs.Tables.{some_value}

pub has_contained : {A : Type 0} (xs : List A) (x : A) → Contains xs x → Has xs x
has_contained xs x h = has_at xs h.0 x (slice_get-get_or xs h.0 x h.1 ∙ ap Some h.2)

module _ (f : Func) (around : Option ℕ) (b : ℕ) where
  abbrev Linked : List ℕ → Type 0
  Linked path = (n x y : ℕ) → slice_get path n ≡ Some x → slice_get path (suc n) ≡ Some y → IsSuccessor f x y

  abbrev Avoids : List ℕ → Type 0
  Avoids path = (a : ℕ) → Has path a → around ≡ Some a → ⊥

  first_of : (rest : List ℕ) → (w : ℕ) × (slice_get (rest ++ b ∷ []) 0 ≡ Some w)
  first_of [] = (b, refl)
  first_of (w ∷ rest) = (w, refl)

  pub path_of : (before : List ℕ) (v : ℕ) → slice_get (before ++ b ∷ []) 0 ≡ Some v → Linked (before ++ b ∷ []) → Avoids before → IsRoute f around b v before
  path_of [] v first links avoids = let same : b ≡ v = cc in sym same
  path_of (u ∷ rest) v first links avoids =
      let same : u ≡ v = cc in
      let w = first_of rest in
      (same, λ a. avoids u (inl refl) (a ∙ ap Some (sym same)), (w.0, subst (λ z. IsSuccessor f z w.0) same (links 0 u w.0 refl w.1), path_of rest w.0 w.1 (λ n x y. links (suc n) x y) (λ a h. avoids a (inr h))))

  pub first_on : (before : List ℕ) (v : ℕ) → IsRoute f around b v before → slice_get (before ++ b ∷ []) 0 ≡ Some v
  first_on [] v route = ap Some (sym route)
  first_on (u ∷ rest) v route = ap Some route.0

  pub links_on : (before : List ℕ) (v : ℕ) → IsRoute f around b v before → Linked (before ++ b ∷ [])
  links_on [] v route zero x y ex ey = absurd (let clash : None ≡ Some y = ey in cc)
  links_on [] v route (suc n) x y ex ey = absurd (let clash : None ≡ Some x = ex in cc)
  links_on (u ∷ rest) v route zero x y ex ey =
      let at : u ≡ x = cc in
      let next : Some route.2.0 ≡ Some y = sym (first_on rest route.2.0 route.2.2) ∙ ey in
      let to : route.2.0 ≡ y = cc in
      subst (λ z. IsSuccessor f z y) (sym route.0 ∙ at) (subst (λ z. IsSuccessor f v z) to route.2.1)
  links_on (u ∷ rest) v route (suc n) x y ex ey = links_on rest route.2.0 route.2.2 n x y ex ey

  pub avoids_on : (before : List ℕ) (v : ℕ) → IsRoute f around b v before → Avoids before
  avoids_on [] v route a h e = absurd h
  avoids_on (u ∷ rest) v route a (inl same) e = route.1 (e ∙ ap Some (sym (sym route.0 ∙ same)))
  avoids_on (u ∷ rest) v route a (inr h) e = avoids_on rest route.2.0 route.2.2 a h e

module _ (f : Func) (definitions : List (Option Spot)) (are : AreDefinitions f definitions) (u : Use) where
  abbrev around : Option ℕ
  around = block_of (found definitions u.local.0)

  pub param_misses_none : IsParam f u.local → (before : List ℕ) → MissesOn f u before → ⊥
  param_misses_none p before m = m.1 (inl p)

  -- the definition leads to a write
  writes_before : (k : Block) (at n : ℕ) → IsWriter k at u.local → at < n → Writes k n u.local
  writes_before k at n w lt = (at, w.0, lt, w.1, w.2)

  pub before_misses_none : (s : Spot) → found definitions u.local.0 ≡ Some s → s.block ≡ u.block → s.at < u.at → (before : List ℕ) → MissesOn f u before → ⊥
  before_misses_none s e here lt before m =
      let d = are.only u.local s e in
      m.1 (inr (inl (d.0, subst (λ b. IsBlockOf f b d.0) here d.1, writes_before d.0 s.at u.at d.2 lt)))

  block_found : (o : Option Spot) (a : ℕ) → block_of o ≡ Some a → (s : Spot) × (o ≡ Some s) × (s.block ≡ a)
  block_found None a e = cc
  block_found (Some s) a e = (s, refl, cc)

  pub path_when_missed : (before : List ℕ) → MissesOn f u before → IsRoute f around u.block 0 before
  path_when_missed before m = path_of f around u.block before 0 m.0.0 m.0.1 (λ a h e.
      let s = block_found (found definitions u.local.0) a e in
      let d = are.only u.local s.0 s.1 in
      m.1 (inr (inr (a, d.0, contains before a h, subst (λ b. IsBlockOf f b d.0) s.2 d.1, writes_before d.0 s.0.at (length d.0.code) d.2 (slice_get_within d.0.code s.0.at d.2.0 d.2.1)))))

  module _ (apart : RegistersDiffer f) where
    -- a write is where the table says
    at_definition : (a n : ℕ) (k : Block) → IsBlockOf f a k → Writes k n u.local → (s : Spot) × (found definitions u.local.0 ≡ Some s) × (s.block ≡ a) × (s.at < n)
    at_definition a n k at w =
        let here : IsDefinition f u.local (record { block = a; at = w.0 }) = (k, at, (w.1, w.3, w.4)) in
        let v = some_value (found definitions u.local.0) (are.each u.local (record { block = a; at = w.0 }) (slice_get_within f.blocks a k at) here) in
        let same = apart u.local v.0 (record { block = a; at = w.0 }) (are.only u.local v.0 v.1) here in
        let lt = w.2 in
        let there : v.0.at ≡ w.0 = same.1 in
        (v.0, v.1, same.0, omega (arith, lt, there))

    pub misses_on_path : (IsParam f u.local → ⊥) → (IsBefore (found definitions u.local.0) u → ⊥) → (before : List ℕ) → IsRoute f around u.block 0 before → MissesOn f u before
    misses_on_path no_param late before route = ((first_on f around u.block before 0 route, links_on f around u.block before 0 route), unassigned)
      where
        unassigned : IsAssigned f before u.block u.at u.local → ⊥
        unassigned (inl p) = no_param p
        unassigned (inr (inl h)) =
            let s = at_definition u.block u.at h.0 h.1 h.2 in
            late (subst (λ o. IsBefore o u) (sym s.1) (s.2, s.3))
        unassigned (inr (inr h)) =
            let s = at_definition h.0 (length h.1.code) h.1 h.3 h.4 in
            avoids_on f around u.block before 0 route h.0 (has_contained before h.0 h.2) (ap block_of s.1 ∙ ap Some s.2)
