-- Blocks and bodies.
use Rattle.std.specs.Prelude.{ℕ, Bool, true, false, List, [], ◌∷◌, ◌++◌, Option, Some, None, codes}
use Rattle.oi_base.specs.declared.ids.Place.{Place}
use Rattle.ir_core.specs.declared.ty.IrType.{IrType}
use Rattle.ir_core.specs.declared.ty.IrType as types
use Rattle.ir_core.specs.declared.constant.Const.{Const}
use Rattle.ir_core.specs.declared.op.LocalId.{LocalId}
use Rattle.ir_core.specs.declared.op.Operand.{Operand}
use Rattle.ir_core.specs.declared.op.Operand.TheVariants as operands
use Rattle.ir_core.specs.declared.op.SwitchCase.{SwitchCase}
use Rattle.ir_core.specs.declared.op.Op.{Op}
use Rattle.ir_core.specs.declared.op.End.{End}
use Rattle.ir_core.specs.declared.op.End.TheVariants as ends
use Rattle.ir_core.specs.declared.func.Instr.{Instr}
use Rattle.ir_core.specs.declared.func.Block.{Block}
use Rattle.ir_grammar.specs.declared.kinds.Kind.TheVariants as kinds
use Rattle.ir_grammar.specs.declared.parts.Lines.{Lines}
use Rattle.ir_grammar.specs.declared.parts.Progress.{Progress}
use Rattle.ir_grammar.specs.Names.{local, define, define_next}
use Rattle.ir_grammar.specs.Sets.{Set}
use Rattle.ir_grammar.specs.Forms.{Form, act, ret, ◌>>=◌, either, rounds, located}
use Rattle.ir_grammar.specs.Tokens.{Limits, expect, sign, word, kind, words_of, one_word, text, many, after_comma}
use Rattle.ir_grammar.specs.Types.{value_type, type_set}
use Rattle.ir_grammar.specs.Values.{address, integer, gep_word, gep_flags, gep_rest, const_words, value, typed}
use Rattle.ir_grammar.specs.Attributes.{note, notes}
use Rattle.ir_grammar.specs.Operations.{op, gep_op_rest, line_set, other_line_set, other_line, instr_at, instr}

-- ---- terminators

-- `label` LOCAL
unfoldable pub label : Form LocalId
label = expect (word (codes "label")) >>= λ w. text kinds.Local >>= λ n. act (local n)

abbrev pub void_word : Set
void_word = word (codes "void")

-- a terminator, and whether it is `ret void`, after which a value may stand
abbrev pub Ended : Type 0
Ended = End × Bool

-- `void`: with a note after it no value can come
abbrev pub after_void_word : Form Ended
after_void_word = either (sign 44) (after_comma note >>= λ m. notes >>= λ n. ret (ends.Ret None, false)) (ret (ends.Ret None, true))

unfoldable pub void_end : Form Ended
void_end = expect void_word >>= λ w. after_void_word

-- type value
abbrev pub value_end : Limits → Form Ended
value_end l = value_type l >>= λ t. value l >>= λ v. notes >>= λ n. ret (ends.Ret (Some (record { ty = t; value = v })), false)

-- ret void, or ret type value
unfoldable pub ret_end : Limits → Form Ended
ret_end l = expect (word (codes "ret")) >>= λ w. either void_word void_end (value_end l)

abbrev pub label_word : Set
label_word = word (codes "label")

abbrev pub label_end : Form End
label_end = label >>= λ b. notes >>= λ n. ret (ends.Br b)

-- type value , label LOCAL , label LOCAL
abbrev pub cond_end : Limits → Form End
cond_end l = do
  c ← typed l
  c1 ← expect (sign 44)
  t ← label
  c2 ← expect (sign 44)
  f ← label
  n ← notes
  ret (ends.Cond c t f)

-- br label LOCAL, or br type value , label LOCAL , label LOCAL
unfoldable pub br_end : Limits → Form End
br_end l = expect (word (codes "br")) >>= λ w. either label_word label_end (cond_end l)

-- type value , label LOCAL
unfoldable pub switch_case : Limits → Form SwitchCase
switch_case l = typed l >>= λ v. expect (sign 44) >>= λ c. label >>= λ b. ret (record { value = v; to = b })

-- switch type value , label LOCAL `[` { type value , label LOCAL } `]`
unfoldable pub switch_end : Limits → Form End
switch_end l = do
  w ← expect (word (codes "switch"))
  v ← typed l
  c ← expect (sign 44)
  b ← label
  open1 ← expect (sign 91)
  cs ← many (type_set true) (switch_case l) []
  close1 ← expect (sign 93)
  n ← notes
  ret (ends.Switch v b cs)

unfoldable pub unreachable_end : Form End
unreachable_end = expect (word (codes "unreachable")) >>= λ w. notes >>= λ n. ret ends.Unreachable

abbrev pub closed_end : Form End → Form Ended
closed_end f = f >>= λ e. ret (e, false)

unfoldable pub end_form : Limits → Form Ended
end_form l = either (word (codes "ret")) (ret_end l) (either (word (codes "br")) (closed_end (br_end l)) (either (word (codes "switch")) (closed_end (switch_end l)) (closed_end unreachable_end)))

abbrev pub end_set : Set
end_set = word (codes "ret") ++ word (codes "br") ++ word (codes "switch") ++ word (codes "unreachable")

-- ---- blocks

-- instructions, after those that are there
abbrev pub with_instr : List Instr → Option Instr → List Instr
with_instr is None = is
with_instr is (Some i) = is ++ i ∷ []

abbrev pub one_more_instr : Limits → List Instr → Form (List Instr)
one_more_instr l is = instr l >>= λ i. ret (with_instr is i)

unfoldable pub code : Limits → List Instr → Form (List Instr)
code l = rounds (λ is. line_set) (one_more_instr l) (λ is. ret is)

-- the terminator of a block with this label and these instructions
unfoldable pub finish : Limits → LocalId → List Instr → Form Lines
finish l b is = located (end_form l) >>= λ e. ret (record { label = b; code = is; end = e.1.0; end_place = e.0; bare = e.1.1 })

-- instructions and the terminator of a block with this label and these instructions before
unfoldable pub lines : Limits → LocalId → List Instr → Form Lines
lines l b is = code l is >>= λ js. finish l b js

-- LABEL, instructions and a terminator
unfoldable pub labelled : Limits → Form Lines
labelled l = text kinds.Label >>= λ n. act (define n) >>= λ b. lines l b []

unfoldable pub unlabelled : Limits → Form Lines
unlabelled l = act define_next >>= λ b. lines l b []

-- the block of these lines
abbrev pub block_of : Place → Lines → Block
block_of p x = record { place = p; label = x.label; code = x.code; end = x.end; end_place = x.end_place }

abbrev pub grown : List Block → Bool → Block → Progress
grown bs true b = record { done = bs; waits = Some b }
grown bs false b = record { done = bs ++ b ∷ []; waits = None }

-- [ LABEL ] { instr } end
unfoldable pub block : Limits → List Block → Form Progress
block l bs = located (either (kind kinds.Label) (labelled l) (unlabelled l)) >>= λ x. ret (grown bs x.1.bare (block_of x.0 x.1))

abbrev pub block_set : Set
block_set = kind kinds.Label ++ line_set ++ end_set

-- ---- bodies

-- the block ends in `ret void` and this value
abbrev pub valued : Block → Operand → Block
valued b v = record b { end = ends.Ret (Some (record { ty = types.Void; value = v })) }

abbrev pub settled : List Block → Block → Operand → Progress
settled bs b v = record { done = bs ++ valued b v ∷ []; waits = None }

-- a block that this first instruction begins
abbrev pub begun : Limits → List Block → Place → (LocalId × (LocalId × Op)) → Form Progress
begun l bs p x = lines l x.0 (record { place = p; result = Some x.1.0; op = x.1.1 } ∷ []) >>= λ y. ret (grown bs y.bare (block_of p y))

-- a block that the LOCAL of this name and place begins
abbrev pub local_begins : Limits → List Block → Place → List ℕ → Form Progress
local_begins l bs p n = expect (sign 61) >>= λ e. act define_next >>= λ k. act (define n) >>= λ r. op l >>= λ o. begun l bs p (k, (r, o))

abbrev pub local_settles : List Block → Block → List ℕ → Form Progress
local_settles bs b n = act (local n) >>= λ x. notes >>= λ e. ret (settled bs b (operands.Local x))

-- After `ret void`: LOCAL is its value, or with `=` the first instruction of the next block
unfoldable pub local_after : Limits → List Block → Block → Form Progress
local_after l bs b = located (text kinds.Local) >>= λ n. either (sign 61) (local_begins l (bs ++ b ∷ []) n.0 n.1) (local_settles bs b n.1)

abbrev pub gep_settles : Limits → List Block → Block → Form Progress
gep_settles l bs b = gep_rest l.length l.levels >>= λ c. notes >>= λ e. ret (settled bs b (operands.Const c))

-- a block that a `getelementptr` at this place begins
abbrev pub gep_begins : Limits → List Block → Place → Form Progress
gep_begins l bs p = act define_next >>= λ k. act define_next >>= λ r. gep_op_rest l >>= λ o. begun l bs p (k, (r, o))

-- After `ret void`: `getelementptr` is its value where a bracket follows, else the first instruction of the next block
unfoldable pub gep_after : Limits → List Block → Block → Form Progress
gep_after l bs b = do
  g ← located (expect gep_word)
  f ← gep_flags
  either (sign 40) (gep_settles l bs b) (gep_begins l (bs ++ b ∷ []) g.0)

abbrev pub plain_value_set : Set
plain_value_set = kind kinds.Global ++ kind kinds.Int ++ words_of const_words

abbrev pub plain_value : Form Const
plain_value = either (kind kinds.Global) address (either (kind kinds.Int) integer (one_word const_words))

-- After `ret void`: another value
unfoldable pub value_after : List Block → Block → Form Progress
value_after bs b = plain_value >>= λ c. notes >>= λ e. ret (settled bs b (operands.Const c))

-- such a first line, and the lines after it
abbrev pub lines_after : Limits → LocalId → Form Lines
lines_after l b = located (other_line l) >>= λ x. lines l b (with_instr [] (instr_at x.0 x.1))

-- the lines of a block without a label, of which the first begins with another word than `getelementptr`
unfoldable pub other_lines : Limits → LocalId → Form Lines
other_lines l b = either other_line_set (lines_after l b) (finish l b [])

unfoldable pub other_unlabelled : Limits → Form Lines
other_unlabelled l = act define_next >>= λ b. other_lines l b

unfoldable pub other_block : Limits → List Block → Form Progress
other_block l bs = located (either (kind kinds.Label) (labelled l) (other_unlabelled l)) >>= λ x. ret (grown bs x.1.bare (block_of x.0 x.1))

abbrev pub other_block_set : Set
other_block_set = kind kinds.Label ++ other_line_set ++ end_set

-- After `ret void`: its value, or the next block
unfoldable pub after_void : Limits → List Block → Block → Form Progress
after_void l bs b = either (kind kinds.Local) (local_after l bs b) (either gep_word (gep_after l bs b) (either plain_value_set (value_after bs b) (other_block l (bs ++ b ∷ []))))

-- what follows the blocks so far
abbrev pub next_block : Limits → List Block → Option Block → Form Progress
next_block l bs None = block l bs
next_block l bs (Some b) = after_void l bs b

abbrev pub next_set : Option Block → Set
next_set None = block_set
next_set (Some b) = kind kinds.Local ++ gep_word ++ plain_value_set ++ other_block_set

abbrev pub all_blocks : List Block → Option Block → List Block
all_blocks bs None = bs
all_blocks bs (Some b) = bs ++ b ∷ []

abbrev pub last_blocks : Progress → Form (List Block)
last_blocks p = expect (sign 125) >>= λ c. ret (all_blocks p.done p.waits)

-- { block } `}`
unfoldable pub more_blocks : Limits → Progress → Form (List Block)
more_blocks l = rounds (λ p. next_set p.waits) (λ p. next_block l p.done p.waits) (λ p. last_blocks p)

-- `{` block { block } `}`
unfoldable pub body : Limits → Form (List Block)
body l = expect (sign 123) >>= λ o. block l [] >>= λ p. more_blocks l p
