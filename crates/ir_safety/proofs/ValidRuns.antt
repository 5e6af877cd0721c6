-- No run of a proper and valid module is stuck: it is the run of its plain bodies, which are safe.
use Rattle.std.proofs.Common.{◌≡◌, ◌≢◌, ℕ, ◌<◌, List, map, Some, slice_get, All, subst}
use Rattle.oi_base.specs.Follows.{Stuck, Seen}
use Rattle.ir_core.specs.declared.func.Func.{Func}
use Rattle.ir_core.specs.declared.module.SymId.{SymId}
use Rattle.ir_core.specs.declared.module.Module.{Module}
use Rattle.ir_core.specs.declared.ty.IrType.{IrType}
use Rattle.ir_core.specs.Constants.{scalar_of}
use Rattle.ir_core.specs.Instructions.{func_number}
use Rattle.ir_core.specs.Plain.{plain_program}
use Rattle.ir_core.specs.Proper.{IsProper}
use Rattle.ir_core.specs.Source.{src}
use Rattle.ir_core.specs.Valid.{IsValid, IsValidFunc}
use Rattle.ir_core.specs.ValidOps.{IsDefinedAs}
use Rattle.ir_core.proofs.SoundRules.{runs_as_the_source_where_valid}
use Rattle.ir_core.proofs.Lists.{all_at}
use Rattle.ir_safety.proofs.Safe.{NotFalse, true_too, IsSafe}
use Rattle.ir_safety.specs.PlainTypes.{result_scalar, plain_types, plain_funcs}
use Rattle.ir_safety.proofs.NeverStuck.{never_stuck}
use Rattle.ir_safety.proofs.Registers.{local_type, own_params, operand_typed}
use Rattle.ir_safety.proofs.Callees.{callee_type, has_main, main_type, called}
use Rattle.ir_safety.proofs.Agreement.{code_typed, phi_types, ends_typed}
use Rattle.ir_safety.proofs.Assigned.{code_comes_first, end_comes_first, phi_comes_first}
use Rattle.ir_safety.proofs.SafeBodies.{plain_bodies_safe}

module _ (m : Module) (proper : IsProper m) (valid : IsValid m) where
  func_valid : (g : ℕ) (f : Func) → slice_get m.funcs g ≡ Some f → IsValidFunc m f
  func_valid g f at = all_at (IsValidFunc m) m.funcs g f valid.each_func at

  callee : (s : SymId) (t : IrType) (ts : List IrType) → IsDefinedAs m s t ts → NotFalse (((plain_funcs m (func_number m s)).params ≡ map scalar_of ts) × ((plain_funcs m (func_number m s)).result ≡ result_scalar t))
  callee s t ts d = true_too (callee_type m valid s t ts d)

  pub plain_is_safe : IsSafe (plain_program m) (plain_types m) (plain_funcs m)
  plain_is_safe =
      plain_bodies_safe m proper valid own_params
      (λ g f at. phi_types m g f proper valid at (operand_typed m f (func_valid g f at)) (local_type m f (func_valid g f at)) callee)
      (λ g f at. code_typed m g f proper valid at (operand_typed m f (func_valid g f at)) (local_type m f (func_valid g f at)) callee)
      (λ g f at. ends_typed m g f proper valid at (operand_typed m f (func_valid g f at)) (local_type m f (func_valid g f at)) callee)
      (λ g f at. code_comes_first m proper valid g f at)
      (λ g f at. end_comes_first m proper valid g f at)
      (λ g f at. phi_comes_first m proper valid g f at)
      (has_main m valid) (main_type m valid proper) (called m valid)

  pub valid_never_stuck : (input : List ℕ) → All (λ b. b < 256) input → (n : ℕ) → (src m input n).status ≢ Stuck
  valid_never_stuck input small n = subst (λ (o : Seen). o.status ≢ Stuck) (runs_as_the_source_where_valid m valid input n) (never_stuck (plain_program m) (plain_types m) (plain_funcs m) plain_is_safe input small n)
