-- A call whose result has no name, after its attributes.
use Rattle.std.proofs.Common.{◌≡◌, ℕ, length, Ok, refl}
use Rattle.ir_grammar.specs.Forms.{Left}
use Rattle.ir_grammar.specs.Tokens.{stated}
use Rattle.ir_grammar.specs.Operations.{call_head, unnamed_call}
use Rattle.ir_bodies.specs.Calls.{call_from_type}

pub counted : (l m : Left) (u : Unit) (k : ℕ) → call_head.parse l ≡ Ok (u, m) → k ≡ length m.names.types → (unnamed_call stated).parse l ≡ (call_from_type k).parse m
unfolding unnamed_call
counted l m u k e f = rw (e, f) refl
