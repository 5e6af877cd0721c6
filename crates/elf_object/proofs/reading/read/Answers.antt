use Rattle.std.proofs.Common.{sym, ◌∙◌, arith}
use Rattle.std.proofs.lemmas.Result.{err_from_is_err_and}
use Rattle.elf_object.proofs.LayoutLaws.{is_ended}
use Rattle.elf_object.proofs.ReadLaws.{answers_fail, front_fails, layout_fails, table_fails, all_pass, laid_out}
use Rattle.elf_object.proofs.reading.read.Goals as goal

pub returns-in_err-check_front-clause-checked : goal.returns-in_err-check_front-clause-checked
returns-in_err-check_front-clause-checked c =
    let p = err_from_is_err_and c.from_residual.result c.from_residual.ensures.1 in
    rw (p.1, p.2) (answers_fail c.in_err-check_front.field-0.0 _ (front_fails c.args.bytes.now _ (sym c.check_front.ensures ∙ c.in_err-check_front.was)))

pub check_layout-requires : goal.check_layout-requires
check_layout-requires c = is_ended c.args.bytes.now c.requires (sym c.check_front.ensures ∙ c.in_ok-check_front.was)

pub returns-in_err-check_layout-clause-checked : goal.returns-in_err-check_layout-clause-checked
returns-in_err-check_layout-clause-checked c =
    let p = err_from_is_err_and c.from_residual-in_err-check_layout.result c.from_residual-in_err-check_layout.ensures.1 in
    rw (p.1, p.2) (answers_fail c.in_err-check_layout.field-0.0 _ (layout_fails c.args.bytes.now _ (sym c.check_front.ensures ∙ c.in_ok-check_front.was) (sym c.check_layout.ensures ∙ c.in_err-check_layout.was)))

pub symbols-requires : goal.symbols-requires
symbols-requires c = laid_out c.args.bytes.now (record { byte = λ i. omega (arith, c.type_inv.bytes i) }) c.requires (sym c.check_front.ensures ∙ c.in_ok-check_front.was) (sym c.check_layout.ensures ∙ c.in_ok-check_layout.was)

pub check_tables-requires-clause-laid_out : goal.check_tables-requires-clause-laid_out
check_tables-requires-clause-laid_out c = laid_out c.args.bytes.now (record { byte = λ i. omega (arith, c.type_inv.bytes i) }) c.requires (sym c.check_front.ensures ∙ c.in_ok-check_front.was) (sym c.check_layout.ensures ∙ c.in_ok-check_layout.was)

pub returns-in_err-check_tables-clause-checked : goal.returns-in_err-check_tables-clause-checked
returns-in_err-check_tables-clause-checked c =
    let p = err_from_is_err_and c.from_residual-in_err-check_tables.result c.from_residual-in_err-check_tables.ensures.1 in
    rw (p.1, p.2) (answers_fail c.in_err-check_tables.field-0.0 _
    (table_fails c.args.bytes.now _ (sym c.check_front.ensures ∙ c.in_ok-check_front.was) (sym c.check_layout.ensures ∙ c.in_ok-check_layout.was) (sym c.check_tables.ensures ∙ c.in_err-check_tables.was)))

pub image-requires-clause-passed : goal.image-requires-clause-passed
image-requires-clause-passed c = all_pass c.args.bytes.now (sym c.check_front.ensures ∙ c.in_ok-check_front.was) (sym c.check_layout.ensures ∙ c.in_ok-check_layout.was) (sym c.check_tables.ensures ∙ c.in_ok-check_tables.was)

pub returns-clause-checked : goal.returns-clause-checked
returns-clause-checked c = all_pass c.args.bytes.now (sym c.check_front.ensures ∙ c.in_ok-check_front.was) (sym c.check_layout.ensures ∙ c.in_ok-check_layout.was) (sym c.check_tables.ensures ∙ c.in_ok-check_tables.was)
