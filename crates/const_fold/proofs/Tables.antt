-- Tables that hold facts.
use Rattle.std.proofs.Common.{◌≡◌, ◌≢◌, ℕ, Bool, true, false, nat_eq, if◌then◌else◌, List, [], Option, Some, refl, ap, ◌∙◌, arith}
use Rattle.std.proofs.lemmas.Bool.Decides.{nat_tests}
use Rattle.ir_core.specs.declared.flat.FlatOp.{FlatOp}
use Rattle.const_fold.specs.FoldConstants.{Facts, no_facts, with_fact}
use Rattle.const_fold.specs.FactTables.{facts_of}

-- facts that are the same but for one register
pub by_point : (new old : Facts) (r : ℕ) (c : FlatOp) → new r ≡ Some c → ((q : ℕ) → q ≢ r → new q ≡ old q) → new ≡ with_fact old r c
by_point new old r c same others = λ i q. at q (nat_eq q r) refl i
  where
    at : (q : ℕ) (t : Bool) → nat_eq q r ≡ t → new q ≡ (if t then Some c else old q)
    at q true e = let here : q ≡ r = grind (arith, nat_tests) in ap new here ∙ same
    at q false e = others q (λ here. absurd (grind (arith, nat_tests)))

pub with_fact_is : (new old : List (Option FlatOp)) (r : ℕ) (c : FlatOp) → facts_of new r ≡ Some c → ((q : ℕ) → q ≢ r → facts_of new q ≡ facts_of old q) → facts_of new ≡ with_fact (facts_of old) r c
with_fact_is new old r c same others = by_point (facts_of new) (facts_of old) r c same others

-- an empty table knows nothing
pub nothing_known : (table : List (Option FlatOp)) → table ≡ [] → facts_of table ≡ no_facts
nothing_known table e = λ i q. ap (λ t. facts_of t q) e i
