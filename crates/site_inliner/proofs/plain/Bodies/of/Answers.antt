use Rattle.std.proofs.Common.{sym, subst, ap, ◌∙◌, map}
use Rattle.ir_core.specs.Proper.{IsProper}
use Rattle.ir_core.specs.Valid.{IsValid}
use Rattle.module_rules.specs.Faults.{numbers_of, global_number}
use Rattle.site_inliner.specs.Parts.{func_number}
use Rattle.site_inliner.proofs.NamesOnce.{same_globals, same_funcs}
use Rattle.site_inliner.proofs.plain.Bodies.of.Goals as goal

pub invariant_of-result : goal.invariant_of-result
invariant_of-result c =
    let m = c.module-source.result.now in
    let valid = subst IsValid (sym c.module-source.ensures.same) c.module-source.ensures.valid in (
      subst IsProper (sym c.module-source.ensures.same) c.module-source.ensures.proper,
      valid,
      c.in_ok-globals.ensures.same ∙ c.in_ok-global_numbers.ensures ∙ ap (λ gs. numbers_of (map global_number gs)) c.as_slice.ensures ∙ same_globals m valid,
      c.in_ok-globals.ensures.few,
      c.in_ok-funcs.ensures.same ∙ c.in_ok-func_numbers.ensures ∙ ap (λ fs. numbers_of (map func_number fs)) c.as_slice-2.ensures ∙ same_funcs m valid,
      c.in_ok-funcs.ensures.few,
    )
