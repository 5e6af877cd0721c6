-- A site that a map comes to label inline.
use Rattle.std.specs.Prelude.{refl, List, Option}
use Rattle.std.specs.Coded.{Coded, code_by, coded×, coded_list, coded_option}
use Rattle.oi_base.specs.declared.ids.FuncId.{FuncId}
use Rattle.oi_base.specs.declared.ids.SiteId.{SiteId}
use Rattle.oi_base.specs.contracts.ids.FuncId as of_func
use Rattle.oi_base.specs.contracts.ids.SiteId as of_site
use Rattle.shapes.specs.Tree.{Tree}
use Rattle.shapes.specs.TreeCode.{tree_code}

-- the trees of all functions before, and the site with its caller and the tree of its callee
pub record Added : Type 0 where
  pub trees : List (Option Tree)
  pub site : SiteId
  pub caller : FuncId
  pub callee : Tree

abbrev pub added_code : Coded Added
added_code =
    code_by (List (Option Tree) × (SiteId × (FuncId × Tree))) (coded× (coded_list (coded_option tree_code)) (coded× of_site.the_row.coded (coded× of_func.the_row.coded tree_code))) (λ a. (a.trees, (a.site, (a.caller, a.callee)))) (λ d. record { trees = d.0; site = d.1.0; caller = d.1.1.0; callee = d.1.1.1 })
    (λ _. refl)
