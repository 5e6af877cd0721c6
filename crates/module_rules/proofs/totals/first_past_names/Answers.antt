use Rattle.std.proofs.Common.{subst, List}
use Rattle.std.specs.List.Sorted.{IsPermutation}
use Rattle.module_rules.specs.declared.totals.Name.{Name}
use Rattle.module_rules.specs.First.{IsFound}
use Rattle.module_rules.specs.TotalFaults.{AreNamesPast}
use Rattle.module_rules.proofs.NameSums.{names_found}
use Rattle.module_rules.proofs.totals.first_past_names.Goals as goal

pub returns : goal.returns
returns c =
    let names = c.in_order-names.result.items in
    names_found c.args.most c.args.m.now names (subst (λ (ns : List Name). IsPermutation ns names) c.in_ok-sized_names.ensures c.in_order-names.ensures.same) c.first_past.result
    (subst (λ (ns : List Name). IsFound (AreNamesPast c.args.most ns) c.first_past.result) c.as_slice.ensures.value c.first_past.ensures)
