use Rattle.std.proofs.Common.{◌≡◌, ℕ, ◌<◌, List, false, Option, Some, None, length, sym, ap, ◌∙◌, arith}
use Rattle.std.specs.Prelude.{IfSome, IfNone, slice_index}
use Rattle.std.specs.Option.{is_some}
use Rattle.component_split.specs.Graph.{has}
use Rattle.component_split.specs.Over.{func_numbers}
use Rattle.component_split.proofs.Lists.{has_at}
use Rattle.component_split.proofs.FuncSearch.{map_length}
use Rattle.component_split.proofs.places.is_among.Goals as goal

among : (fs : List ℕ) (f : ℕ) (o : Option ℕ) → IfSome o (λ at. at < length fs) → IfSome o (λ at. slice_index fs at ≡ f) → IfNone o (has fs f ≡ false) → is_some o ≡ has fs f
among fs f None h e a = sym a
among fs f (Some at) h e a = sym (ap (has fs) (sym e) ∙ has_at fs at h)

in_numbers : (n m : ℕ) (o : Option ℕ) → m ≡ n → IfSome o (λ at. at < n) → IfSome o (λ at. at < m)
in_numbers n m None e h = tt
in_numbers n m (Some at) e h = omega (arith, e, h)

pub returns : goal.returns
returns c =
    let e = c.place_of.ensures in
    let fs = c.args.funcs.now in
    c.is_some.ensures ∙ among (func_numbers fs) c.args.f.0 c.place_of.result (in_numbers (length fs) (length (func_numbers fs)) c.place_of.result (map_length fs) e.in_range) e.here e.absent
