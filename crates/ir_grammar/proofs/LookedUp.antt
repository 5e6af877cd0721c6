-- What a look-up in a table of words takes is what the table names so.
use Rattle.std.proofs.Common.{◌≡◌, ℕ, Bool, true, false, List, [], ◌∷◌, Option, Some, None, refl, sym, ap, ◌∙◌, if◌then◌else◌}
use Rattle.std.specs.Str.{bytes_eq}
use Rattle.ir_core.specs.Opcodes.{named}
use Rattle.ir_grammar.specs.Forms.{Verdict, Takes, Refuses}
use Rattle.ir_grammar.specs.Tokens.{look}

abbrev pub taken : {A : Type 0} → Option A → Verdict A
taken None = Refuses
taken (Some a) = Takes a

pub look_taken : {A : Type 0} (table : List (List ℕ × A)) (w : List ℕ) → look table w ≡ taken (named table w)
look_taken [] w = refl
look_taken (e ∷ es) w = by_test (bytes_eq w e.0) (look_taken es w)
  where
    by_test : (b : Bool) → look es w ≡ taken (named es w) → (if b then Takes e.1 else look es w) ≡ taken (if b then Some e.1 else named es w)
    by_test true more = refl
    by_test false more = more

-- what a search answers is what the look-up takes
pub look_told : {A : Type 0} (table : List (List ℕ × A)) (w : List ℕ) (told : Option A) → told ≡ named table w → look table w ≡ taken told
look_told table w told same = look_taken table w ∙ ap taken (sym same)
