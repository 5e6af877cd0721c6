-- A program with other bodies in the places of its functions'.
use Rattle.std.specs.Prelude.{ℕ, nat_eq, if◌then◌else◌, Option, Some}
use Rattle.std.specs.Option.{option_map}
use Rattle.ir_core.specs.declared.flat.FlatBody.{FlatBody}
use Rattle.ir_core.specs.Flat.{Program}

abbrev pub body_at : (ℕ → Option FlatBody) → ℕ → FlatBody → ℕ → Option FlatBody
body_at body f new g = if nat_eq g f then Some new else body g

-- the program with this body in the place of function f's
abbrev pub with_body : Program → ℕ → FlatBody → Program
with_body p f new = record p { body = body_at p.body f new }

-- the program with what a pass makes of it in the place of each body
abbrev pub with_all : Program → (FlatBody → FlatBody) → Program
with_all p pass = record p { body = λ g. option_map pass (p.body g) }
