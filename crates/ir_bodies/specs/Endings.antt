-- The ends of what is read: a value after which nothing but notes stands, or the end of a call.
use Rattle.ir_grammar.specs.Forms.{Form, ret, ◌>>=◌}
use Rattle.ir_grammar.specs.Attributes.{notes}
use Rattle.ir_grammar.specs.Operations.{call_end}

-- notes, and then this value
abbrev pub noted : {A : Type 0} → A → Form A
noted a = notes >>= λ n. ret a

-- the end of a call, and then this value
abbrev pub call_ended : {A : Type 0} → A → Form A
call_ended a = call_end >>= λ e. ret a
