use Rattle.std.proofs.Common.{◌<◌, length, sym, subst}
use Rattle.std.specs.List.Sorted.{IsPermutation}
use Rattle.ir_core.specs.declared.func.Func.{Func}
use Rattle.ir_assigned.specs.Names.{AreLabels, RegistersDiffer}
use Rattle.ir_assigned.specs.Testing.{IsFirst}
use Rattle.ir_assigned.proofs.Breaking.{uses_within, none_broken, first_place, first_witness}
use Rattle.ir_assigned.proofs.definite.first_fault.Goals as goal

pub first_unassigned-requires-clause-apart : goal.first_unassigned-requires-clause-apart
first_unassigned-requires-clause-apart c = subst RegistersDiffer (sym c.in_ok-graph.ensures) c.requires.registers

pub first_unassigned-requires-clause-within : goal.first_unassigned-requires-clause-within
first_unassigned-requires-clause-within c k u at =
    subst (λ (g : Func). u.block < length g.blocks) (sym c.in_ok-graph.ensures)
    (uses_within c.args.f.now c.as_slice-2.result.now (subst (AreLabels c.args.f.now) (sym c.as_slice-2.ensures.value) c.in_ok-labels.ensures) c.requires.labels
    c.in_ok-uses.uses.items c.as_slice-4.result.now c.in_ok-uses.ensures (subst (IsPermutation c.in_ok-uses.uses.items) (sym c.as_slice-4.ensures.value) c.sort.ensures) k u at)

pub returns-in-Some-clause-first : goal.returns-in-Some-clause-first
returns-in-Some-clause-first c =
    let uses = c.as_slice-4.result.now in
    first_place c.args.f.now c.as_slice-2.result.now (subst (AreLabels c.args.f.now) (sym c.as_slice-2.ensures.value) c.in_ok-labels.ensures) c.requires.labels
    c.in_ok-uses.uses.items uses c.in_ok-uses.ensures (subst (IsPermutation c.in_ok-uses.uses.items) (sym c.as_slice-4.ensures.value) c.sort.ensures)
    c.in-Some.fault (subst (IsFirst c.args.f.now uses (length uses)) c.in-Some.is (subst (λ (g : Func). IsFirst g uses (length uses) c.in_ok-fault.field-0) c.in_ok-graph.ensures c.in_ok-fault.ensures))

pub returns-in-Some-clause-path : goal.returns-in-Some-clause-path
returns-in-Some-clause-path c =
    let uses = c.as_slice-4.result.now in
    first_witness c.args.f.now c.as_slice-2.result.now (subst (AreLabels c.args.f.now) (sym c.as_slice-2.ensures.value) c.in_ok-labels.ensures) c.requires.labels
    c.in_ok-uses.uses.items uses c.in_ok-uses.ensures (subst (IsPermutation c.in_ok-uses.uses.items) (sym c.as_slice-4.ensures.value) c.sort.ensures)
    c.in-Some.fault (subst (IsFirst c.args.f.now uses (length uses)) c.in-Some.is (subst (λ (g : Func). IsFirst g uses (length uses) c.in_ok-fault.field-0) c.in_ok-graph.ensures c.in_ok-fault.ensures))

pub returns-clause-ok : goal.returns-clause-ok
returns-clause-ok c =
    let uses = c.as_slice-4.result.now in
    none_broken c.args.f.now c.as_slice-2.result.now (subst (AreLabels c.args.f.now) (sym c.as_slice-2.ensures.value) c.in_ok-labels.ensures) c.requires.labels
    c.in_ok-uses.uses.items uses c.in_ok-uses.ensures (subst (IsPermutation c.in_ok-uses.uses.items) (sym c.as_slice-4.ensures.value) c.sort.ensures)
    (subst (IsFirst c.args.f.now uses (length uses)) c.in-None.is (subst (λ (g : Func). IsFirst g uses (length uses) c.in_ok-fault.field-0) c.in_ok-graph.ensures c.in_ok-fault.ensures))
