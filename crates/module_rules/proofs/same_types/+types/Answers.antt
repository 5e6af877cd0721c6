use Rattle.std.proofs.Common.{ap, ◌∙◌, arith}
use Rattle.std.proofs.lemmas.Bool.Decides.{nat_tests}
use Rattle.module_rules.specs.SameTypes.{same_type, same_types}
use Rattle.module_rules.proofs.SameTypeLaws.{arrays_alike, structs_alike}
use Rattle.module_rules.proofs.same_types.+types.Goals as goal

pub same_type-returns-then-k-l : goal.same_type-returns-then-k-l
same_type-returns-then-k-l t c =
    c.same_type.ensures ∙ ap (λ v. same_type v c.get-then-k-l.result.now) c.get.ensures ∙ ap (same_type c.in-Array-Array.item) c.get-then-k-l.ensures
    ∙ arrays_alike c.in-Array-Array.k c.in-Array-Array.l c.in-Array-Array.item c.in-Array-Array.other c.args.t.now c.args.u.now (let e = c.if-k-l.true in grind (arith, nat_tests, e)) c.in-Array-Array.is-0 c.in-Array-Array.is-1

pub same_type-returns-in-Struct-Struct : goal.same_type-returns-in-Struct-Struct
same_type-returns-in-Struct-Struct t c =
    c.same_types.ensures ∙ ap (λ vs. same_types vs c.as_slice-in-Struct-Struct.result.now) c.as_slice.ensures ∙ ap (same_types c.in-Struct-Struct.types) c.as_slice-in-Struct-Struct.ensures
    ∙ structs_alike c.in-Struct-Struct.types c.in-Struct-Struct.others c.args.t.now c.args.u.now c.in-Struct-Struct.is-0 c.in-Struct-Struct.is-1
