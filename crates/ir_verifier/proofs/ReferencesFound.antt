-- The first place at which the rule of references is broken.
use Rattle.std.proofs.Common.{◌≡◌, refl, sym, subst, not, ◌&&◌, List, None}
use Rattle.std.specs.List.{list_all}
use Rattle.oi_base.specs.declared.ids.Place.{Place}
use Rattle.ir_core.specs.declared.module.Module.{Module}
use Rattle.ir_core.specs.declared.func.Func.{Func}
use Rattle.ir_core.specs.Proper.{IsProperFunc}
use Rattle.ir_core.specs.Operands.{Step, Does, Ends, steps, place_of, operands_of, labels_of}
use Rattle.ir_core.specs.ValidFunc.{RefersWrongly, BreaksReferences}
use Rattle.module_rules.specs.First.{earliest, IsFound}
use Rattle.ir_verifier.specs.Faults.{is_known, is_label, step_is_known, scope_of, reference_faults, Scope}
use Rattle.module_rules.proofs.At.{found_in, step_places}
use Rattle.ir_verifier.proofs.ReferenceLaws.{wrong, right}
use Rattle.ir_verifier.proofs.PlainOperands.{plain_operands}

step_test : (c : Scope) (s : Step) → step_is_known c s ≡ (list_all (is_known c) (operands_of s) && list_all (is_label c) (labels_of s))
step_test c (Does i) = refl
step_test c (Ends b) = refl

pub references_found : (m : Module) (f : Func) → IsProperFunc f → IsFound (BreaksReferences m f) (earliest None (reference_faults (scope_of m f) f))
references_found m f proper =
    subst (λ (ps : List Place). IsFound (BreaksReferences m f) (earliest None ps)) (sym (step_places (λ (s : Step). not (step_is_known (scope_of m f) s)) f.blocks))
    (found_in (λ (s : Step). not (step_is_known (scope_of m f) s)) place_of (RefersWrongly m f) (steps f)
    (λ s h e. wrong m f s (plain_operands f proper s h) (step_is_known (scope_of m f) s) (step_test (scope_of m f) s) e)
    (λ s h w. right m f s (plain_operands f proper s h) (step_is_known (scope_of m f) s) (step_test (scope_of m f) s) w))
