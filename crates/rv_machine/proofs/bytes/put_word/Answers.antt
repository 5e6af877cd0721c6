use Rattle.rv_machine.proofs.Numbers.{put_four}
use Rattle.rv_machine.proofs.bytes.put_word.Goals as goal

pub returns-clause-bytes : goal.returns-clause-bytes
returns-clause-bytes c = put_four _ _ _ _ _ c.args.at c.args.word c.put_byte.ensures.bytes c.put_byte-2.ensures.bytes c.put_byte-3.ensures.bytes c.put_byte-4.ensures.bytes
