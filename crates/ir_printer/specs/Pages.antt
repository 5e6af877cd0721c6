-- The text of a module so far.
use Rattle.std.specs.Prelude.{ℕ, List, [], ◌∷◌, ◌++◌, Option, Some, None}
use Rattle.ir_core.specs.declared.module.Module as modules
use Rattle.ir_printer.specs.declared.marks.Mark.{Mark}
use Rattle.ir_printer.specs.declared.order.Kind.{Kind}
use Rattle.ir_printer.specs.Layout.{tables, marks_text}
use Rattle.ir_printer.specs.Printed.{Entity, kind_of, locals_of, entity_marks, blank_line, page}

-- the names of the module, the kind of the last entity, and the text
pub record Written : Type 0 where
  pub symbols : List (List ℕ)
  pub types : List (List ℕ)
  pub before : Option Kind
  pub text : List ℕ

abbrev pub empty_page : modules.Module → Written
empty_page m = record { symbols = m.symbols; types = m.types.names; before = None; text = [] }

-- with an entity of this kind, these local names and these marks
abbrev pub with_lines : Written → Kind → List (List ℕ) → List Mark → Written
with_lines p kind locals ms = record p { before = Some kind; text = p.text ++ (blank_line p.before kind ++ (marks_text (tables p.symbols p.types locals) [] ms ++ 10 ∷ [])) }

abbrev pub with_entity : Written → Entity → Written
with_entity p e = with_lines p (kind_of e) (locals_of e) (entity_marks p.symbols e)

-- the whole text, where these entities are to come
abbrev pub all_text : Written → List Entity → List ℕ
all_text p es = p.text ++ page p.symbols p.types p.before es
