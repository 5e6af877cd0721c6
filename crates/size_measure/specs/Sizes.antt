-- Sizes in bytes: of a body, of the functions of a set that a map keeps, and of a map. A size is a number, or there is none.
use Rattle.std.specs.Prelude.{ℕ, ◌+◌, ◌≤◌, min, nat_lt, Bool, true, false, if◌then◌else◌, List, [], ◌∷◌, Option, Some, None, Result, Ok, Err}
use Rattle.std.specs.Option.{option_and_then}
use Rattle.ir_core.specs.declared.flat.FlatBody.{FlatBody}
use Rattle.ir_core.specs.declared.module.Module.{Module}
use Rattle.ir_core.specs.Weight.{weight}
use Rattle.call_graph.specs.Graph.{Graph}
use Rattle.component_split.specs.Over.{reached_from}
use Rattle.local_passes.specs.Simplify.{simplified}
use Rattle.frame_layout.specs.declared.laying.TheConstants.{LARGEST_FRAME}
use Rattle.frame_layout.specs.Frame.{frame}
use Rattle.rv_select.specs.declared.faults.NoSize.{NoSize}
use Rattle.rv_select.specs.declared.faults.Cause.TheVariants.{Weight, Frame, Code}
use Rattle.rv_select.specs.declared.selecting.TheConstants.{LARGEST_CODE}
use Rattle.rv_select.specs.Code.{code_bytes}
use Rattle.shapes.specs.Weight.{kept}
use Rattle.size_measure.specs.Maps.{Map}
use Rattle.size_measure.specs.Kept.{is_kept}
use Rattle.size_measure.specs.Trees.{body}

-- ---- numbers or none; none is above every number

abbrev pub Size : Type 0
Size = Option ℕ

abbrev pub plus : Size → Size → Size
plus None b = None
plus (Some a) None = None
plus (Some a) (Some b) = Some (a + b)

abbrev pub lesser : Size → Size → Size
lesser None b = b
lesser (Some a) None = Some a
lesser (Some a) (Some b) = Some (min a b)

abbrev pub IsAtMost : Size → Size → Type 0
IsAtMost a None = Unit {0}
IsAtMost None (Some b) = ⊥
IsAtMost (Some a) (Some b) = a ≤ b

-- the sum of the sizes of these functions
unfoldable pub total : (ℕ → Size) → List ℕ → Size
total v [] = Some 0
total v (f ∷ fs) = plus (v f) (total v fs)

-- ---- bodies

-- the heaviest body that has a size
abbrev pub heaviest : ℕ
heaviest = 8192

-- the size of a body's code, or the first limit that it exceeds
abbrev pub code_size : FlatBody → Result ℕ NoSize
code_size b =
    if nat_lt LARGEST_FRAME (frame b) then Err (record { cause = Frame; number = frame b })
    else (if nat_lt LARGEST_CODE (code_bytes b) then Err (record { cause = Code; number = min (code_bytes b) 18446744073709551615 }) else Ok (code_bytes b))

-- the size of the code of a body once it is simplified, or the first limit that it exceeds
unfoldable pub measured : FlatBody → Result ℕ NoSize
measured b = if nat_lt heaviest (weight b) then Err (record { cause = Weight; number = kept (weight b) }) else code_size (simplified b)

abbrev pub ok : Result ℕ NoSize → Size
ok (Ok n) = Some n
ok (Err e) = None

-- the size of a function's expanded body under a map
unfoldable pub body_size : Module → Graph → Map → ℕ → Size
body_size m g d f = option_and_then (λ (b : FlatBody). ok (measured b)) (body m g d f)

-- ---- maps

abbrev pub held_if : Bool → Size → Size
held_if true v = v
held_if false v = Some 0

-- a function that isn't kept has no code
abbrev pub held : Module → Graph → Map → ℕ → Size
held m g d f = held_if (is_kept g d f) (body_size m g d f)

-- the functions of a set that the map keeps
abbrev pub part : Module → Graph → Map → List ℕ → Size
part m g d fs = total (held m g d) fs

-- the text of the object: the stub's four instructions, and the codes of all functions that are kept
abbrev pub size : Module → Graph → Map → Size
size m g d = plus (Some 16) (part m g d (reached_from 0 g.funcs))
