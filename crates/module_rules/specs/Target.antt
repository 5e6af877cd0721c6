-- Whether a datalayout and a triple are as they must be.
use Rattle.std.specs.Prelude.{ℕ, Bool, true, ◌==◌, nat_eq, ◌&&◌, ◌||◌, List, [], ◌∷◌, length, drop, codes, Option, Some, None}
use Rattle.std.specs.List.{starts_with}
use Rattle.ir_core.specs.declared.module.Module.{Module}

-- a text ends here, or a part of it does, before a sign `-`
abbrev pub begins_a_part : List ℕ → Bool
begins_a_part [] = true
begins_a_part (b ∷ bs) = b == 45

abbrev pub is_part_here : List ℕ → List ℕ → Bool
is_part_here part text = starts_with nat_eq text part && begins_a_part (drop (length part) text)

-- one of a text's parts between signs `-`, where the text begins a part or not
abbrev pub has_part_from : List ℕ → Bool → List ℕ → Bool
has_part_from part begins [] = begins && is_part_here part []
has_part_from part begins (b ∷ bs) = begins && is_part_here part (b ∷ bs) || has_part_from part (b == 45) bs

abbrev pub has_part : List ℕ → List ℕ → Bool
has_part part text = has_part_from part true text

abbrev pub is_layout : List ℕ → Bool
is_layout text = has_part (codes "e") text && has_part (codes "p:32:32") text

abbrev pub is_triple : List ℕ → Bool
is_triple text = starts_with nat_eq text (codes "riscv32")

abbrev pub is_good : (List ℕ → Bool) → Option (List ℕ) → Bool
is_good test None = true
is_good test (Some text) = test text

abbrev pub has_good_target : Module → Bool
has_good_target m = is_good is_layout m.layout && is_good is_triple m.triple
