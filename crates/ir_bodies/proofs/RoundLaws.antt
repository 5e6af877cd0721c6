-- The laws of one round of each loop.
use Rattle.std.proofs.Common.{◌≡◌, true, false, List, [], ◌∷◌, ◌++◌, Option, refl}
use Rattle.ir_core.specs.declared.op.TypedOperand.{TypedOperand}
use Rattle.ir_core.specs.declared.func.Instr.{Instr}
use Rattle.ir_core.specs.declared.func.Param.{Param}
use Rattle.ir_grammar.specs.declared.parts.Progress.{Progress}
use Rattle.ir_grammar.specs.Sets.{Set, apart}
use Rattle.ir_grammar.specs.Forms.{Form}
use Rattle.ir_grammar.specs.Tokens.{stated}
use Rattle.ir_grammar.specs.Attributes.{argument}
use Rattle.ir_grammar.specs.Operations.{one_more_item}
use Rattle.ir_grammar.specs.Bodies.{with_instr, one_more_instr, next_block, switch_case}
use Rattle.ir_grammar.specs.Entities.{param}
use Rattle.ir_grammar.proofs.FormLaws.{Shape, Law}
use Rattle.ir_grammar.proofs.Rules.{seq, done, goes_on_with}
use Rattle.ir_grammar.proofs.LawsOfTokens.{is_sign}
use Rattle.ir_grammar.proofs.LawsOfAttributes.{law_argument}
use Rattle.ir_grammar.proofs.LawsOfOperations.{AnyParams, law_next_item, law_instr}
use Rattle.ir_grammar.proofs.LawsOfBodies as bodies
use Rattle.ir_grammar.proofs.LawsOfEntities.{law_param}

pub no_any_params : AnyParams false stated
no_any_params e = absurd cc

-- the law of a form that takes a token at least
abbrev pub Consumes : {A : Type 0} → Form A → Type 0
Consumes f = (z : Shape) × (z.empty ≡ false) × Law false f z

pub one_more : {A : Type 0} {f : Form A} {z g : Set} → Law false f (goes_on_with z g) → apart g [] ≡ true → (xs : List A) → Consumes (one_more_item stated f xs)
one_more {A = A} law e xs = (_, refl, seq (is_sign 44 refl) (λ (c : Unit). seq (law_next_item stated no_any_params law xs) (λ (x : A). done (xs ++ x ∷ [])) e) refl)

pub one_more_argument : (xs : List TypedOperand) → Consumes (one_more_item stated (argument stated) xs)
one_more_argument xs = one_more (law_argument stated) refl xs

pub one_more_param : (xs : List Param) → Consumes (one_more_item stated (param stated) xs)
one_more_param xs = one_more (law_param stated) refl xs

pub one_more_line : (is : List Instr) → Consumes (one_more_instr stated is)
one_more_line is = (_, refl, seq (law_instr stated no_any_params) (λ (i : Option Instr). done (with_instr is i)) refl)

pub one_more_block : (p : Progress) → Consumes (next_block stated p.done p.waits)
one_more_block p = (bodies.z p.waits, refl, bodies.law_next_block stated no_any_params p.done p.waits)

pub one_more_case : Consumes (switch_case stated)
one_more_case = (_, refl, bodies.law_switch_case stated)
