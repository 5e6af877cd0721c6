-- The forms of a printed text: each result and each block has its name, nothing is skipped, and there are no places.
use Rattle.std.proofs.Common.{◌≡◌, ◌⊎◌, ℕ, Bool, true, false, List, [], ◌∷◌, ◌++◌, ◌+◌, map, length}
use Rattle.std.specs.Prelude.{Option, Some, None, codes}
use Rattle.std.specs.List.{flat_map}
use Rattle.ir_core.specs.declared.ty.IrType as types
use Rattle.ir_core.specs.declared.op.LocalId.{LocalId}
use Rattle.ir_core.specs.declared.op.Op.{Op}
use Rattle.ir_core.specs.declared.op.Op.TheVariants as ops
use Rattle.ir_core.specs.declared.op.End.{End}
use Rattle.ir_core.specs.declared.op.End.TheVariants as ends
use Rattle.ir_core.specs.declared.func.Instr.{Instr}
use Rattle.ir_core.specs.declared.func.Block.{Block}
use Rattle.ir_core.specs.declared.func.Param.{Param}
use Rattle.ir_core.specs.declared.func.Func.{Func}
use Rattle.ir_core.specs.Places.{no_place, unplaced_instr, unplaced_block, unplaced_func, unplaced_type, unplaced_global, unplaced_declaration}
use Rattle.ir_grammar.specs.declared.kinds.Kind.TheVariants as kinds
use Rattle.ir_grammar.specs.declared.parts.Progress.{Progress}
use Rattle.ir_grammar.specs.declared.parts.Entity as read_entities
use Rattle.ir_grammar.specs.declared.parts.Entity.TheVariants as entities
use Rattle.ir_grammar.specs.Pieces.{Piece}
use Rattle.ir_grammar.specs.Names.{Names, define, type_name}
use Rattle.ir_grammar.specs.Forms.{Form, act, ret, token, Refuses, ◌>>=◌, either, rounds}
use Rattle.ir_grammar.specs.Tokens.{Limits, is_past, expect, sign, word, kind, one_word, text, number, skip}
use Rattle.ir_grammar.specs.Types.{type_form, value_type}
use Rattle.ir_grammar.specs.Values.{global, value, init}
use Rattle.ir_grammar.specs.Groups.{group}
use Rattle.ir_grammar.specs.Operations.{align_word, store_word, store, in_brackets, call_word, callee, arguments, op, Line, line, line_set}
use Rattle.ir_grammar.specs.Bodies.{void_word, br_end, switch_end, unreachable_end, code, grown, settled, all_blocks, next_set, last_blocks, body}
use Rattle.ir_grammar.specs.Entities.{function_of, entity, other_entity, equals, target_word, storage_words, define_word, forget_locals, locals_so_far, declare_word, before_name}
use Rattle.ir_printer.specs.declared.words.Word.{Word}
use Rattle.ir_printer.specs.declared.words.Word.TheVariants as words
use Rattle.ir_printer.specs.declared.marks.Mark.{Mark}
use Rattle.ir_printer.specs.declared.demands.Known.{Known}
use Rattle.ir_printer.specs.Layout.{Tables, tables}
use Rattle.ir_printer.specs.Marks.{result_marks, op_marks, instr_marks, body_marks}
use Rattle.ir_printer.specs.Order.{demand, known_beyond, fits}
use Rattle.ir_printer.specs.Printed.{Entity, TargetLine, DefinedType, Variable, Definition, Declared, entity_marks, locals_of}
use Rattle.ir_printer.specs.Tokens.{tokens_of, Are, AreSpellable}
use Rattle.ir_printer.specs.Reprints.{Front, AreSound, IsReprinted}
use Rattle.ir_printer.proofs.Reprinting.{Indexed}
use Rattle.ir_printer.proofs.Images.{PrintsAs}

-- ---- lines

-- LOCAL = op
abbrev pub printed_named : Limits → Form (Option LocalId × Op)
printed_named l = text kinds.Local >>= λ n. act (define n) >>= λ r. expect (sign 61) >>= λ e. op l >>= λ o. ret (Some r, o)

abbrev pub printed_store : Limits → Form (Option LocalId × Op)
printed_store l = store l >>= λ o. ret (None, o)

-- call void GLOBAL `(` .. `)`
abbrev pub printed_call : Limits → Form (Option LocalId × Op)
printed_call l = expect call_word >>= λ w. expect void_word >>= λ v. callee >>= λ f. arguments l >>= λ as'. ret (None, ops.Call types.Void f as')

abbrev pub printed_line : Limits → Form (Option LocalId × Op)
printed_line l = either (kind kinds.Local) (printed_named l) (either store_word (printed_store l) (printed_call l))

abbrev pub line_marks : Option LocalId × Op → List Mark
line_marks x = result_marks x.0 ++ op_marks x.1

abbrev pub unplaced_line : Option LocalId × Op → Instr
unplaced_line x = record { place = no_place; result = x.0; op = x.1 }

abbrev pub printed_code : Limits → List Instr → Form (List Instr)
printed_code l = rounds (λ is. line_set) (λ is. printed_line l >>= λ x. ret (is ++ unplaced_line x ∷ [])) (λ is. ret is)

-- ---- blocks

-- ret void, or ret type value
abbrev pub printed_ret : Limits → Form End
printed_ret l = expect (word (codes "ret")) >>= λ w. either void_word (expect void_word >>= λ v. ret (ends.Ret None)) (value_type l >>= λ t. value l >>= λ v. ret (ends.Ret (Some (record { ty = t; value = v }))))

-- a terminator; after `ret void` no note stands, since none may stand before its value
abbrev pub printed_end : Limits → Form End
printed_end l = either (word (codes "ret")) (printed_ret l) (either (word (codes "br")) (br_end l) (either (word (codes "switch")) (switch_end l) unreachable_end))

-- LABEL, lines and a terminator
abbrev pub printed_block : Limits → Form Block
printed_block l = text kinds.Label >>= λ n. act (define n) >>= λ b. printed_code l [] >>= λ is. printed_end l >>= λ e. ret (record { place = no_place; label = b; code = is; end = e; end_place = no_place })

-- a value may stand after it
abbrev pub is_bare : End → Bool
is_bare (ends.Ret None) = true
is_bare e = false

abbrev pub with_block : List Block → Block → Progress
with_block bs b = grown bs (is_bare b.end) b

-- the value of the `ret void` before it
abbrev pub printed_value : Limits → List Block → Option Block → Form Progress
printed_value l bs None = token (λ t. Refuses)
printed_value l bs (Some b) = value l >>= λ v. ret (settled bs b v)

abbrev pub printed_next : Limits → Progress → Form Progress
printed_next l p = either (kind kinds.Label) (printed_block l >>= λ b. ret (with_block (all_blocks p.done p.waits) b)) (printed_value l p.done p.waits)

abbrev pub printed_blocks : Limits → Progress → Form (List Block)
printed_blocks l = rounds (λ p. next_set p.waits) (λ p. printed_next l p) (λ p. last_blocks p)

abbrev pub printed_body : Limits → Form (List Block)
printed_body l = expect (sign 123) >>= λ o. printed_block l >>= λ b. printed_blocks l (with_block [] b)

-- ---- functions

abbrev pub printed_param : Limits → Form Param
printed_param l = type_form l >>= λ t. text kinds.Local >>= λ n. act (define n) >>= λ x. ret (record { ty = t; name = x })

-- whether a word stands there
abbrev pub may_stand : List ℕ → Form Bool
may_stand w = either (word w) (expect (word w) >>= λ x. ret true) (ret false)

abbrev pub printed_func : Limits → Form Func
printed_func l = do
  w ← expect define_word
  u ← act forget_locals
  i ← may_stand (codes "internal")
  t ← type_form l
  f ← global
  ps ← in_brackets l (printed_param l)
  is_noinline ← may_stand (codes "noinline")
  bs ← printed_body l
  names ← act locals_so_far
  ret (record { place = no_place; name = f; internal = i; noinline = is_noinline; result = t; params = ps; locals = names; blocks = bs })

-- ---- entities

abbrev pub line_words : List (List ℕ × Word)
line_words = (codes "datalayout", words.DataLayout) ∷ (codes "triple", words.Triple) ∷ []

abbrev pub printed_target : Form Entity
printed_target = expect target_word >>= λ w. one_word line_words >>= λ x. equals >>= λ e. text kinds.Str >>= λ s. ret (TargetLine x s)

abbrev pub printed_type : Limits → Form Entity
printed_type l = text kinds.Local >>= λ n. act (type_name n) >>= λ x. equals >>= λ e. expect (word (codes "type")) >>= λ w. type_form l >>= λ t. ret (DefinedType (record { place = no_place; name = x; ty = t }))

-- [ , align INT ]
abbrev pub printed_align : Limits → Form (Option ℕ)
printed_align l = either (sign 44) (expect (sign 44) >>= λ c. expect align_word >>= λ w. number l.length >>= λ x. ret (Some x)) (ret None)

abbrev pub printed_global : Limits → Form Entity
printed_global l = do
  g ← global
  e ← equals
  i ← may_stand (codes "internal")
  c ← one_word storage_words
  t ← type_form l
  v ← init l
  a ← printed_align l
  ret (Variable (record { place = no_place; name = g; internal = i; constant = c; ty = t; init = v; align = a }))

abbrev pub printed_declaration : Form Entity
printed_declaration = expect declare_word >>= λ w. skip before_name (expect before_name) >>= λ s. global >>= λ f. group 40 41 >>= λ g. ret (Declared (record { place = no_place; name = f }))

abbrev pub printed_entity : Limits → Form Entity
printed_entity l =
    either target_word printed_target (either (kind kinds.Local) (printed_type l) (either (kind kinds.Global) (printed_global l)
    (either define_word (printed_func l >>= λ f. ret (Definition f)) printed_declaration)))

-- ---- what is said of them

-- a line that was read is skipped, or printed
pub record IsPrintedLine (n : Tables) (l : Limits) (s : Names) (u : List Piece) (x : Line) (t : Names) : Type 0 where
  pub line : Option LocalId × Op
  pub told : x ≡ Some line
  pub indexed : Indexed s → Indexed t
  pub fronts : Front true n t → Front true n s
  pub prints : Front true n t → AreSound u → IsReprinted true n (printed_line l) s line t (line_marks line)

abbrev pub PrintsLines : Tables → Limits → Type 0
PrintsLines n l = (s : Names) (u : List Piece) (x : Line) (t : Names) → (line l).reads s u x t → ((x ≡ None) × (s ≡ t)) ⊎ IsPrintedLine n l s u x t

-- instructions after those that are there
abbrev pub PrintsCode : Tables → Limits → Type 0
PrintsCode n l = (is : List Instr) → PrintsAs true n (map unplaced_instr) (code l is) (printed_code l (map unplaced_instr is)) (flat_map instr_marks (map unplaced_instr is)) (flat_map instr_marks)

abbrev pub RereadsCode : Limits → Type 0
RereadsCode l = (is : List Instr) (s : Names) (u : List Piece) (js : List Instr) (t : Names) → (printed_code l (map unplaced_instr is)).reads s u js t → (more : List Instr) × (code l is).reads s u more t × (map unplaced_instr more ≡ js)

abbrev pub PrintsBody : Tables → Limits → Type 0
PrintsBody n l = PrintsAs true n (map unplaced_block) (body l) (printed_body l) [] body_marks

abbrev pub RereadsBody : Limits → Type 0
RereadsBody l = (s : Names) (u : List Piece) (bs : List Block) (t : Names) → (printed_body l).reads s u bs t → (more : List Block) × (body l).reads s u more t × (map unplaced_block more ≡ bs)

-- how many symbols and type names have come
abbrev pub known : Names → Known
known s = record { symbols = length s.symbols; types = length s.types }

-- An entity that was read from these names to those is printed: its names have come or are the next ones where it
-- stands, and its marks are read as it wherever that is so.
pub record IsEntityReprinted (n : Tables) (l : Limits) (s : Names) (e : Entity) (t : Names) : Type 0 where
  pub fitting : fits (known s) (demand (entity_marks n.symbols e)) ≡ true
  pub counted : known t ≡ known_beyond (known s) (demand (entity_marks n.symbols e))
  pub spellable : AreSpellable (tables n.symbols n.types (locals_of e)) (entity_marks n.symbols e)
  pub rereads : (s2 : Names) (us : List Piece) → Front false n s2 → fits (known s2) (demand (entity_marks n.symbols e)) ≡ true → Are us (tokens_of (tables n.symbols n.types (locals_of e)) (entity_marks n.symbols e)) →
      (t2 : Names) × (printed_entity l).reads s2 us e t2 × Front false n t2 × (known t2 ≡ known_beyond (known s2) (demand (entity_marks n.symbols e)))

-- what is printed of an entity that was read, where these groups of attributes have the word `noinline`
abbrev pub printed_of : List (List ℕ) → read_entities.Entity → Option Entity
printed_of noinline entities.Nothing = None
printed_of noinline (entities.Layout said) = Some (TargetLine words.DataLayout said)
printed_of noinline (entities.Triple said) = Some (TargetLine words.Triple said)
printed_of noinline (entities.NoInline name) = None
printed_of noinline (entities.Type d) = Some (DefinedType (unplaced_type d))
printed_of noinline (entities.Global g) = Some (Variable (unplaced_global g))
printed_of noinline (entities.Define d) = Some (Definition (unplaced_func (function_of noinline d)))
printed_of noinline (entities.Declare d) = Some (Declared (unplaced_declaration d))

-- an entity that was read is left out, or printed
pub record IsReadEntity (n : Tables) (l : Limits) (noinline : List (List ℕ)) (s : Names) (u : List Piece) (x : read_entities.Entity) (t : Names) : Type 0 where
  pub indexed : Indexed s → Indexed t
  pub fronts : Front false n t → Front false n s
  pub left_out : printed_of noinline x ≡ None → s ≡ t
  pub prints : Front false n t → AreSound u → (e : Entity) → printed_of noinline x ≡ Some e → IsEntityReprinted n l s e t

abbrev pub PrintsEntities : Tables → Limits → List (List ℕ) → Type 0
PrintsEntities n l noinline = (count : ℕ) (s : Names) (u : List Piece) (x : read_entities.Entity) (t : Names) → (entity l count).reads s u x t → IsReadEntity n l noinline s u x t

-- after so many definitions there is room for an entity
abbrev pub HasRoom : Limits → ℕ → Entity → Type 0
HasRoom l count (Definition f) = is_past l.functions (count + 1) ≡ false
HasRoom l count e = Unit {0}

-- a printed entity is read as an entity where there is room for it, and no group of attributes is named in it
abbrev pub RereadsEntities : Limits → Type 0
RereadsEntities l = (count : ℕ) (s : Names) (u : List Piece) (e : Entity) (t : Names) → HasRoom l count e → (printed_entity l).reads s u e t → (x : read_entities.Entity) × (other_entity l count).reads s u x t × (printed_of [] x ≡ Some e)
