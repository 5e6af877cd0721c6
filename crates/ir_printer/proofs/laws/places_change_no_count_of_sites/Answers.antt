use Rattle.ir_printer.proofs.SiteCounts.{as_many_sites}
use Rattle.ir_printer.proofs.laws.places_change_no_count_of_sites.Goals as goal

pub returns : goal.returns
returns c = as_many_sites
