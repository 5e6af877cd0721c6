-- The plain bodies of a proper and valid module are formed, where registers and blocks have numbers of 32 bits.
use Rattle.std.proofs.Common.{◌≡◌, ℕ, ◌<◌, [], length, Option, Some, None, slice_get, All, sym, ap, subst}
use Rattle.std.specs.Option.{option_map, option_map_or}
use Rattle.std.proofs.lemmas.List.{length-map}
use Rattle.ir_core.specs.declared.flat.Scalar.{Scalar}
use Rattle.ir_core.specs.declared.ty.IrType.{Void}
use Rattle.ir_core.specs.declared.func.Func.{Func}
use Rattle.ir_core.specs.declared.module.Module.{Module}
use Rattle.ir_core.specs.Constants.{scalar_of, global_memory}
use Rattle.ir_core.specs.Formed.{FuncType, all_uses, NamesGlobal, IsFormedBody, IsFormed}
use Rattle.ir_core.specs.Plain.{plain_body, plain_program}
use Rattle.ir_core.specs.Proper.{IsProper}
use Rattle.ir_core.specs.Valid.{IsValid}
use Rattle.ir_core.proofs.Lists.{all_at}
use Rattle.ir_safety.specs.PlainTypes.{func_types, func_type, plain_types, plain_funcs, HasFewOwn, HasFewNumbers}
use Rattle.ir_safety.proofs.PlainEdges.{row}
use Rattle.ir_safety.proofs.Decided.{IsKnownBody, IsKnown, known, defined_first, typed, typed_end}
use Rattle.ir_safety.proofs.FormedNumbers.{no_way_back, few_params, written_once, written}
use Rattle.ir_safety.proofs.FormedUses.{used, addresses}
use Rattle.ir_safety.proofs.FormedPhis.{phi_formed, phi_register}
use Rattle.ir_safety.proofs.FormedSizes.{code_sizes, flat_cases}
use Rattle.ir_safety.proofs.GlobalPointers.{globals_within}
use Rattle.ir_safety.proofs.SafeBodies.{placed}
use Rattle.ir_safety.proofs.ValidRuns.{plain_is_safe}

module _ (m : Module) (proper : IsProper m) (valid : IsValid m) where
  facts : IsKnown (plain_program m) (plain_types m) (plain_funcs m)
  facts = known (plain_program m) (plain_types m) (plain_funcs m) (plain_is_safe m proper valid)

  body_formed : (g : ℕ) (f : Func) → slice_get m.funcs g ≡ Some f → HasFewOwn f → IsKnownBody (func_types f) (plain_funcs m) (func_type f) (plain_body m f) → IsFormedBody (func_types f) (plain_funcs m) (func_type f) (plain_body m f)
  body_formed g f at numbered h =
      record {
        entry = h.entry;
        no_way_back = no_way_back m proper valid g f at;
        few_params = few_params m proper valid g f at;
        numbers = (numbered.0, subst (λ (n : ℕ). n < 4294967296) (sym (length-map f.blocks (row m f))) numbered.1);
        own_params = h.own_params;
        in_range = h.in_range;
        phis = λ b k q is has. (phi_formed m proper valid g f at b k q is has, phi_register m proper valid g f at b k q is has, h.phi_types b k q is has);
        code = λ b n k i is there. typed (func_types f) (plain_funcs m) i (h.code b n k i is there) (code_sizes m g f proper valid at b n k i is there);
        written_once = written_once m proper valid g f at;
        written = written m proper valid g f at;
        used = used m proper valid g f at;
        ends = λ b k is. typed_end (func_types f) (func_type f).result k.end (h.ends b k is) (flat_cases m g f proper valid at b k is);
        defined_first = defined_first (func_types f) (plain_funcs m) (func_type f) (plain_body m f) h;
      }

  -- one function by itself
  pub one_is_formed : (g : ℕ) (f : Func) → slice_get m.funcs g ≡ Some f → HasFewOwn f → IsFormedBody (func_types f) (plain_funcs m) (func_type f) (plain_body m f)
  one_is_formed g f at numbered =
      let types : plain_types m g ≡ func_types f = ap (λ (o : Option Func). option_map_or func_types o (λ (r : ℕ). scalar_of Void)) at in
      let own : plain_funcs m g ≡ func_type f = ap (λ (o : Option Func). option_map_or func_type o (record { params = []; result = None })) at in
      let is : (plain_program m).body g ≡ Some (plain_body m f) = ap (option_map (plain_body m)) at in
      body_formed g f at numbered
      (subst (λ (t : ℕ → Scalar). IsKnownBody t (plain_funcs m) (func_type f) (plain_body m f)) types
      (subst (λ (t : FuncType). IsKnownBody (plain_types m g) (plain_funcs m) t (plain_body m f)) own (facts.bodies g (plain_body m f) is)))

  pub plain_is_formed : HasFewNumbers m → IsFormed (plain_program m) (plain_types m) (plain_funcs m)
  plain_is_formed few = record {
    bodies = λ g body e.
        placed m (λ types own x. IsKnownBody types (plain_funcs m) own x → IsFormedBody types (plain_funcs m) own x) g body
        (λ f at. body_formed g f at (all_at HasFewOwn m.funcs g f few at)) e (facts.bodies g body e);
    has_main = facts.has_main;
    main_type = facts.main_type;
    called = facts.called;
    addresses = λ g body e.
        placed m (λ types own x. All (NamesGlobal (length (global_memory m))) (all_uses x)) g body
        (addresses m proper valid g) e;
    pointers = globals_within m valid;
  }
