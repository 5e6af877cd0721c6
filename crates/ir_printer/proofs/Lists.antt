-- Marks of lists, one part after the other.
use Rattle.std.proofs.Common.{◌≡◌, refl, Bool, true, false, List, [], ◌∷◌, ◌++◌}
use Rattle.ir_printer.specs.declared.marks.Mark.{Mark}
use Rattle.ir_printer.specs.Marks.{separated, after_commas, comma_unless}

-- the parts that are left, where the first part is among them or not
abbrev pub left_parts : Bool → List (List Mark) → List Mark
left_parts true parts = separated parts
left_parts false parts = after_commas parts

pub next_part : (is_first : Bool) (part : List Mark) (parts : List (List Mark)) → left_parts is_first (part ∷ parts) ≡ comma_unless is_first ++ (part ++ left_parts false parts)
next_part true part parts = refl
next_part false part parts = refl

pub no_part : (is_first : Bool) → left_parts is_first [] ≡ []
no_part true = refl
no_part false = refl
