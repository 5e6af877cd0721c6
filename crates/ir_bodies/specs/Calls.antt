-- The parts of a call whose result has no name.
use Rattle.std.specs.Prelude.{ℕ}
use Rattle.ir_core.specs.declared.ty.IrType.{IrType}
use Rattle.ir_grammar.specs.declared.kinds.Kind.TheVariants as kinds
use Rattle.ir_grammar.specs.Forms.{Form, ret, ◌>>=◌, choose}
use Rattle.ir_grammar.specs.Tokens.{text, stated}
use Rattle.ir_grammar.specs.Types.{type_form}
use Rattle.ir_grammar.specs.Operations.{Line, is_lifetime, lifetime, called, call_end}

-- after its type, where so many type names came before
abbrev pub call_after_type : ℕ → IrType → Form Line
call_after_type k t = text kinds.Global >>= λ n. choose (is_lifetime n) (lifetime k) (called stated t n) >>= λ r. call_end >>= λ e. ret r

-- after `call` and its attributes
abbrev pub call_from_type : ℕ → Form Line
call_from_type k = type_form stated >>= λ t. call_after_type k t
