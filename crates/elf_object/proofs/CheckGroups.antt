-- Groups of checks after each other, as `?` goes through them.
use Rattle.std.proofs.Common.{◌≡◌, List, ◌++◌}
use Rattle.elf_object.specs.declared.fault.ElfFault.{ElfFault}
use Rattle.elf_object.specs.Checks.{Check, first_failed}
use Rattle.elf_object.proofs.CheckLaws.{passes, fails, passed, failed}

pub after_passed : (xs ys : List Check) → first_failed xs ≡ passes → first_failed (xs ++ ys) ≡ first_failed ys
after_passed xs ys h = passed xs ys h

pub after_failed : (xs ys : List Check) (e : ElfFault) → first_failed xs ≡ fails e → first_failed (xs ++ ys) ≡ fails e
after_failed xs ys e h = failed xs ys e h

pub ruleset groups = (after_passed, after_failed)
