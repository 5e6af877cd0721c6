use Rattle.std.proofs.Common.{◌+◌, ◌∷◌, [], Some, take, length, ◌≡◌, refl, sym, ap, ◌∙◌, subst, arith}
use Rattle.std.specs.Option.{option_copied}
use Rattle.ir_core.proofs.ByPosition.{take_next}
use Rattle.local_passes.specs.CopyTables.{sources_in, IsTimed, Extends}
use Rattle.local_passes.specs.LocalCopies.{past, source, instr_copied}
use Rattle.local_passes.proofs.CopySteps.{extends_none, extends_more}
use Rattle.local_passes.proofs.CopySweeps.{source_start, source_next, instr_so_far}
use Rattle.local_passes.proofs.Numbered.{numbered_at, numbered_next, numbered_has, numbered_all, taken}
use Rattle.local_passes.proofs.copies.replace_copies.Goals as goal
use Rattle.local_passes.proofs.copies.replace_copies.Goals.{in-Some+in_ok-new+in_ok-note, in_default}

pub loop-at-init : goal.loop-at-init
loop-at-init c = record {
  code = refl;
  timed = c.requires.timed;
  extends = extends_none c.args.table.now;
  sources = source_start c.args.table.now c.time-start.result c.args.code.now c.time-start.ensures;
}

pub note-requires-clause-started : goal.note-requires-clause-started
note-requires-clause-started c = let le = c.loop-at.invariant.extends.time in let now = c.time-start.ensures in omega (arith, le, now)

pub loop-at-preserved : goal.loop-at-preserved
loop-at-preserved c =
    let code = c.args.code.now in
    let f = instr_copied code in
    let inv = c.loop-at.invariant in
    elim c.match-get.branch [
      | in-Some+in_ok-new+in_ok-note w ↦
          let here = numbered_at f code c.loop-at.code c.loop-at.at w.in-Some.instr.now inv.code w.in-Some.ensures.value in
          record {
            code = numbered_next f code c.loop-at.code c.match-get.code c.loop-at.at w.in-Some.instr.now w.in_ok-new.new inv.code w.in-Some.ensures.value (instr_so_far c.loop-at.table code c.time-start.result w.time-end.result c.loop-at.at w.in-Some.instr.now w.in_ok-new.new w.time-end.ensures inv.sources w.in_ok-new.ensures) (w.code-is ∙ w.set.ensures);
            timed = subst IsTimed (sym w.table-is) w.in_ok-note.ensures.timed;
            extends = subst (λ t. Extends c.args.table.now t (take (c.loop-at.at + 1) code)) (sym w.table-is)
                (subst (Extends c.args.table.now w.note.new.self) (sym (take_next code c.loop-at.at (c.loop-at.at + 1) w.in-Some.instr.now refl here))
                (extends_more c.args.table.now c.loop-at.table w.note.new.self (take c.loop-at.at code) (w.in-Some.instr.now ∷ []) inv.extends w.in_ok-note.ensures.extends));
            sources = ap (λ t. sources_in t c.time-start.result) w.table-is ∙ w.in_ok-note.ensures.sources ∙ ap (λ s. past s (Some w.in-Some.instr.now)) inv.sources ∙ source_next code c.loop-at.at w.in-Some.instr.now here;
          }
      | in_default w ↦ absurd (numbered_has f code c.loop-at.code c.loop-at.at c.len-at-end.result inv.code c.loop-at-test.true c.len-at-end.ensures (ap option_copied (sym w.in_default.is) ∙ c.get.ensures.value))
    ]

pub returns : goal.returns
returns c =
    let code = c.args.code.now in
    let inv = c.loop-at.invariant in
    let lo = c.loop-at-test.false in
    let hi = c.loop-at.auto.at-end in
    let long = c.len-at-end.ensures in
    let end : c.loop-at.at ≡ length code = omega (arith, lo, hi, long) in
    record {
      timed = inv.timed;
      extends = subst (Extends c.args.table.now c.loop-at.table) (taken code c.loop-at.at end) inv.extends;
      code = inv.code ∙ numbered_all (instr_copied code) code c.loop-at.at end;
      sources = ap (sources_in c.loop-at.table) (sym c.time-start.ensures) ∙ inv.sources ∙ ap (source code) end;
    }
