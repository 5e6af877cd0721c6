-- Groups of attributes that have the same names settle functions alike.
use Rattle.std.proofs.Common.{◌≡◌, ℕ, ◌||◌, List, map, reverse, sym, ap, ◌∙◌}
use Rattle.std.specs.List.{list_any}
use Rattle.ir_core.specs.declared.func.Func.{Func}
use Rattle.ir_grammar.specs.declared.parts.Definition.{Definition}
use Rattle.ir_grammar.specs.Sets.{among}
use Rattle.ir_grammar.specs.Entities.{function_of}

same_functions : (xs ys : List (List ℕ)) → ((n : List ℕ) → among xs n ≡ among ys n) → function_of xs ≡ function_of ys
same_functions xs ys h = λ i (d : Definition). record d.func { noinline = d.func.noinline || list_any (λ n. h n i) d.groups }

pub settled_as : (groups told noinline : List (List ℕ)) (backwards : List Func) (defs : List Definition) → ((n : List ℕ) → among groups n ≡ among told n) → told ≡ noinline
    → reverse backwards ≡ map (function_of groups) defs → map (function_of noinline) defs ≡ reverse backwards
settled_as groups told noinline backwards defs h same e =
    ap (λ (f : Definition → Func). map f defs) (sym (same_functions groups noinline (λ n. h n ∙ ap (λ x. among x n) same))) ∙ sym e
