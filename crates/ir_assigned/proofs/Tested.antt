-- What the test of one use tells.
use Rattle.std.proofs.Common.{◌≡◌, ◌≢◌, ℕ, List, Option, Some, None, Contains, sym, subst}
use Rattle.std.specs.Prelude.{MatchOption}
use Rattle.ir_core.specs.declared.op.LocalId.{LocalId}
use Rattle.ir_core.specs.declared.func.Func.{Func}
use Rattle.ir_core.specs.declared.func.Param.{Param}
use Rattle.ir_core.specs.ValidFunc.{IsParam}
use Rattle.ir_assigned.specs.declared.names.Spot.{Spot}
use Rattle.ir_assigned.specs.declared.uses.Use.{Use}
use Rattle.ir_assigned.specs.declared.search.Aim.{Aim}
use Rattle.ir_assigned.specs.Names.{found, AreDefinitions, RegistersDiffer}
use Rattle.ir_assigned.specs.Search.{State, IsClean}
use Rattle.ir_assigned.specs.Testing.{aim_of}
use Rattle.ir_assigned.specs.BlockPaths.{IsRoute, IsPathTo, block_of, IsBefore, MissesOn, Misses}
use Rattle.ir_assigned.proofs.Paths.{param_misses_none, before_misses_none, path_when_missed, misses_on_path}

module _ (f : Func) (definitions : List (Option Spot)) (are : AreDefinitions f definitions) (u : Use) where
  pub param_good : (params : List Param) → params ≡ f.params → (q : Param) × Contains params q × (q.name ≡ u.local) → (before : List ℕ) → MissesOn f u before → ⊥
  param_good params same p = param_misses_none f definitions are u (p.0, subst (λ ps. Contains ps p.0) same p.1, p.2)

  before_found : (o : Option Spot) → found definitions u.local.0 ≡ o → IsBefore o u → (before : List ℕ) → MissesOn f u before → ⊥
  before_found None e h = absurd h
  before_found (Some s) e h = before_misses_none f definitions are u s e h.0 h.1

  pub before_good : (o : Option Spot) → o ≡ found definitions u.local.0 → IsBefore o u → (before : List ℕ) → MissesOn f u before → ⊥
  before_good o e h = before_found o (sym e) h

  module _ (around : Option ℕ) (is : around ≡ block_of (found definitions u.local.0)) where
    pub path_good : (route : Option (List ℕ)) → route ≡ None → MatchOption route ((before : List ℕ) → IsRoute f around u.block 0 before → ⊥) (IsPathTo f around u.block) → (before : List ℕ) → MissesOn f u before → ⊥
    path_good route none exact before m =
        let none_there = subst (λ o. MatchOption o ((b : List ℕ) → IsRoute f around u.block 0 b → ⊥) (IsPathTo f around u.block)) none exact in
        none_there before (subst (λ a. IsRoute f a u.block 0 before) (sym is) (path_when_missed f definitions are u before m))

  pub path_missed : RegistersDiffer f → (params : List Param) → params ≡ f.params → ((q : Param) → Contains params q → q.name ≢ u.local) → (o : Option Spot) → o ≡ found definitions u.local.0 → (IsBefore o u → ⊥)
      → (around : Option ℕ) → around ≡ block_of (found definitions u.local.0) → (route : Option (List ℕ)) (path : List ℕ) → route ≡ Some path → MatchOption route ((before : List ℕ) → IsRoute f around u.block 0 before → ⊥) (IsPathTo f around u.block) → Misses f u path
  path_missed apart params same other o e late around is route path some exact =
      let w = subst (λ o. MatchOption o ((b : List ℕ) → IsRoute f around u.block 0 b → ⊥) (IsPathTo f around u.block)) some exact in
      let no_param : IsParam f u.local → ⊥ = (λ p. other p.0 (subst (λ ps. Contains ps p.0) (sym same) p.1) p.2) in
      (w.0, w.1, misses_on_path f definitions are u apart no_param (λ h. late (subst (λ z. IsBefore z u) (sym e) h)) w.0 (subst (λ a. IsRoute f a u.block 0 w.0) is w.2))

module _ (f : Func) (definitions : List (Option Spot)) (round : ℕ) (y : LocalId) (around : Option ℕ) (is : around ≡ block_of (found definitions y.0)) (s : State) where
  abbrev aim : Option ℕ → Aim
  aim a = record { round = round; around = a }

  pub cleaned : IsClean f (aim_of definitions round y) s → IsClean f (record { round = round; around = around }) s
  cleaned clean = subst (λ a. IsClean f (aim a) s) (sym is) clean

  pub still_clean : IsClean f (record { round = round; around = around }) s → (x : LocalId) → Some y ≡ Some x → IsClean f (aim_of definitions round x) s
  still_clean clean x e =
      let same : y ≡ x = cc in
      subst (λ (z : LocalId). IsClean f (aim_of definitions round z) s) same (subst (λ a. IsClean f (aim a) s) is clean)
