use Rattle.ir_phrases.proofs.Many.{gives_as}
use Rattle.ir_bodies.specs.Calls.{call_from_type}
use Rattle.ir_bodies.proofs.Counted.{counted}
use Rattle.ir_bodies.proofs.calls.unnamed_call.Goals as goal

pub returns : goal.returns
returns c = gives_as c.call_from_type.result c.call_from_type.new.reader ((call_from_type c.type_count-types.result).parse c.call_head.new.reader) _ (counted c.args.reader.now c.call_head.new.reader c.in_ok-call_head.field-0 c.type_count-types.result c.in_ok-call_head.ensures c.type_count-types.ensures) c.call_from_type.ensures
