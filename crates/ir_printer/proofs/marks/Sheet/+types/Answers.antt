use Rattle.std.proofs.Common.{◌≡◌, ◌++◌, ◌∙◌, sym, ap, subst, List, OnOk, map}
use Rattle.ir_printer.specs.declared.marks.Mark.{Mark}
use Rattle.ir_printer.specs.Marks.{array_marks, type_marks, in_curly}
use Rattle.ir_printer.proofs.Levels.{array_type, struct_type}
use Rattle.ir_printer.proofs.marks.Sheet.+types.Goals as goal

pub ty-returns-in-Array : goal.ty-returns-in-Array
ty-returns-in-Array t c =
    subst (λ (ms : List Mark). OnOk c.array.result (c.array.new.self ≡ c.args.self.now ++ ms))
    (ap (λ x. array_marks c.in-Array.count (type_marks x)) c.get.ensures ∙ sym (array_type c.in-Array.count c.in-Array.item) ∙ sym (ap type_marks c.in-Array.is))
    c.array.ensures

pub ty-returns-in-Struct : goal.ty-returns-in-Struct
ty-returns-in-Struct t c =
    subst (λ (ms : List Mark). OnOk c.structure.result (c.structure.new.self ≡ c.args.self.now ++ ms))
    (ap (λ xs. in_curly (map type_marks xs)) c.as_slice.ensures ∙ sym (struct_type c.in-Struct.fields) ∙ sym (ap type_marks c.in-Struct.is))
    c.structure.ensures
