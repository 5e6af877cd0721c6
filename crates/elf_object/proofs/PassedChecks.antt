-- What passed checks say of the numbers in a file.
use Rattle.std.proofs.Common.{◌≡◌, ℕ, ◌+◌, ◌≤◌, Bool, true, false, cond, List, [], ◌∷◌, length, refl, arith}
use Rattle.std.proofs.lemmas.Bool.{eqb-true}
use Rattle.elf_object.specs.declared.fault.ElfFault.{ElfFault}
use Rattle.elf_object.specs.declared.fault.ElfFault.TheVariants as faults
use Rattle.elf_object.specs.Layout.{sections_at}
use Rattle.elf_object.specs.Checks.{Check, first_failed, shoff, sizes, length_checks, end_checks, place_checks}
use Rattle.elf_object.proofs.CheckLaws.{passes, fails}

-- a check alone passes
holds_by : (ok : Bool) (e : ElfFault) → cond ok passes (fails e) ≡ passes → ok ≡ true
holds_by true e h = refl
holds_by false e h = absurd cc

pub holds : (c : Check) → first_failed (c ∷ []) ≡ passes → c.passes ≡ true
unfolding first_failed
holds c h = holds_by c.passes (faults.Field c.field c.offset c.found) h

passes_by : (ok : Bool) (e : ElfFault) → ok ≡ true → cond ok passes (fails e) ≡ passes
passes_by true e h = refl
passes_by false e h = absurd cc

pub one_passes : (c : Check) → c.passes ≡ true → first_failed (c ∷ []) ≡ passes
unfolding first_failed
one_passes c h = passes_by c.passes (faults.Field c.field c.offset c.found) h

pub length_passed : (file : List ℕ) → first_failed (length_checks file) ≡ passes → 116 ≤ length file
unfolding length_checks
length_passed file h = grind (arith, holds _ h)

pub end_passed : (file : List ℕ) → first_failed (end_checks file) ≡ passes → shoff file + 240 ≡ length file
unfolding end_checks
end_passed file h = eqb-true _ _ (holds _ h)

pub place_passed : (file : List ℕ) → first_failed (place_checks file) ≡ passes → shoff file ≡ sections_at (sizes file)
unfolding place_checks
place_passed file h = eqb-true _ _ (holds _ h)

pub ruleset passed_facts = (length_passed, end_passed, place_passed)
