-- The body of a tree's function, where each inlined call is replaced by the body of its callee's tree, one call after another.
use Rattle.std.specs.Prelude.{ℕ, suc, ◌+◌, ◌==◌, if◌then◌else◌, List, [], ◌∷◌, length, slice_get, Option, Some, None}
use Rattle.std.specs.Option.{option_map, option_map_or, option_and_then}
use Rattle.oi_base.specs.declared.ids.FuncId.{FuncId}
use Rattle.ir_core.specs.declared.flat.FlatInstr.{FlatInstr}
use Rattle.ir_core.specs.declared.flat.FlatBody.{FlatBody}
use Rattle.ir_core.specs.declared.func.Instr.{Instr}
use Rattle.ir_core.specs.declared.func.Block.{Block}
use Rattle.ir_core.specs.declared.func.Func.{Func}
use Rattle.ir_core.specs.declared.module.Module.{Module}
use Rattle.ir_core.specs.Instructions.{instruction}
use Rattle.ir_core.specs.Plain.{plain_body}
use Rattle.call_graph.specs.declared.sites.Site.{Site}
use Rattle.call_graph.specs.Sites.{site_of, block_sites}
use Rattle.shapes.specs.Tree.{Tree, node, Callees, none, more}
use Rattle.site_inliner.specs.Segments.{first_site}
use Rattle.site_inliner.specs.Replaced.{replaced}

-- the block of a call in a plain body, and its place there
pub record Spot : Type 0 where
  pub block : ℕ
  pub place : ℕ

module _ (m : Module) (caller : FuncId) where
  -- the place of the site number s among instructions that are no phis, where the first of them has the place i and the next site
  -- the number n
  abbrev pub place_in : ℕ → ℕ → ℕ → List Instr → Option ℕ
  place_in s n i [] = None
  place_in s n i (x ∷ xs) = at (site_of m.funcs caller x) (place_in s (suc n) (suc i) xs) (place_in s n (option_map_or (λ (r : FlatInstr). suc i) (instruction m x.result x.op) i) xs)
    where
      at : Option Site → Option ℕ → Option ℕ → Option ℕ
      at None later other = other
      at (Some g) later other = if n == s then Some i else later

  abbrev pub spot_in : ℕ → ℕ → ℕ → List Block → Option Spot
  spot_in s n b [] = None
  spot_in s n b (k ∷ ks) = at (place_in s n 0 k.code) (spot_in s (n + length (block_sites m.funcs caller k)) (suc b) ks)
    where
      at : Option ℕ → Option Spot → Option Spot
      at (Some i) later = Some (record { block = b; place = i })
      at None later = later

abbrev pub spot_of : Module → FuncId → ℕ → Option Spot
spot_of m f s = option_and_then (λ (d : Func). spot_in m f s (first_site m.funcs f) 0 d.blocks) (slice_get m.funcs f.0)

abbrev pub at_spot : FlatBody → Option Spot → Option FlatBody → FlatBody
at_spot body (Some p) (Some callee) = replaced body p.block p.place callee
at_spot body _ _ = body

-- the last call is replaced first, so that the places of those that are still to come stay
abbrev mutual
  pub expanded : Module → Tree → Option FlatBody
  expanded m (node f w ks) = option_map (λ (d : Func). with_callees m f (plain_body m d) ks) (slice_get m.funcs f.0)

  pub with_callees : Module → FuncId → FlatBody → Callees → FlatBody
  with_callees m f body none = body
  with_callees m f body (more s t ks) = at_spot (with_callees m f body ks) (spot_of m f s.0) (expanded m t)
