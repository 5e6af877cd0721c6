use Rattle.std.proofs.Common.{◌≡◌, ◌++◌, ◌∙◌, sym, ap, subst, List, OnOk, map}
use Rattle.ir_printer.specs.declared.marks.Mark.{Mark}
use Rattle.ir_printer.specs.Marks.{const_marks, typed_const_marks, in_square, in_curly}
use Rattle.ir_printer.proofs.Levels.{array_const, struct_const}
use Rattle.ir_printer.proofs.marks.Sheet.+constants.Goals as goal

pub constant-returns-in-Array : goal.constant-returns-in-Array
constant-returns-in-Array t c =
    subst (λ (ms : List Mark). OnOk c.constants.result (c.constants.new.self ≡ c.args.self.now ++ ms))
    (ap (λ xs. in_square (map typed_const_marks xs)) c.as_slice-in-Array.ensures ∙ sym (array_const c.in-Array.items) ∙ sym (ap const_marks c.in-Array.is))
    c.constants.ensures

pub constant-returns-in-Struct : goal.constant-returns-in-Struct
constant-returns-in-Struct t c =
    subst (λ (ms : List Mark). OnOk c.constants-in-Struct.result (c.constants-in-Struct.new.self ≡ c.args.self.now ++ ms))
    (ap (λ xs. in_curly (map typed_const_marks xs)) c.as_slice-in-Struct.ensures ∙ sym (struct_const c.in-Struct.fields) ∙ sym (ap const_marks c.in-Struct.is))
    c.constants-in-Struct.ensures
