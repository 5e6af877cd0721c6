-- Entities and texts with wider limits.
use Rattle.std.proofs.Common.{◌≡◌, ℕ, ◌+◌, Bool, true, false, nat_lt, List, length, refl, arith}
use Rattle.std.proofs.lemmas.Bool.Decides.{nat_tests}
use Rattle.std.specs.Prelude.{Option, Some, None, codes}
use Rattle.std.specs.Str.{bytes_eq}
use Rattle.oi_base.specs.declared.ids.Place.{Place}
use Rattle.ir_lexer.specs.declared.table.Token.{Token}
use Rattle.ir_lexer.specs.declared.table.Token.TheVariants as tokens
use Rattle.ir_core.specs.declared.ty.IrType.{IrType}
use Rattle.ir_core.specs.declared.ty.TypeName.{TypeName}
use Rattle.ir_core.specs.declared.constant.Const.{Const}
use Rattle.ir_core.specs.declared.op.LocalId.{LocalId}
use Rattle.ir_core.specs.declared.func.Block.{Block}
use Rattle.ir_core.specs.declared.func.Param.{Param}
use Rattle.ir_core.specs.declared.module.SymId.{SymId}
use Rattle.ir_grammar.specs.declared.kinds.Kind.TheVariants as kinds
use Rattle.ir_grammar.specs.declared.kinds.Barred.TheVariants as barred
use Rattle.ir_grammar.specs.declared.parts.Attribute.{Attribute}
use Rattle.ir_grammar.specs.declared.parts.Marks.{Marks}
use Rattle.ir_grammar.specs.declared.parts.Entity.{Entity}
use Rattle.ir_grammar.specs.declared.parts.Entity.TheVariants as entities
use Rattle.ir_grammar.specs.declared.parts.Draft.{Draft}
use Rattle.ir_grammar.specs.Names.{type_name}
use Rattle.ir_grammar.specs.Forms.{token}
use Rattle.ir_grammar.specs.Tokens.{Limits, is_past, sign, word, kind}
use Rattle.ir_grammar.specs.Attributes.{no_marks, attribute_set}
use Rattle.ir_grammar.specs.Operations.{align_word}
use Rattle.ir_grammar.specs.Entities.{source_word, target_word, attributes_word, type_def, global_end, global_var, param, define_if, define_of, define_word, without_groups, locals_so_far, forget_locals, definition, other_entity, entity, no_entities, added, after_declaration, next_entity, next_set, text_form}
use Rattle.ir_grammar.proofs.LawsOfValues.{law_global}
use Rattle.ir_grammar.proofs.LawsOfAttributes.{law_note, law_attribute, law_attribute_list, law_attributes_and_notes}
use Rattle.ir_grammar.proofs.LawsOfOperations.{law_local_name}
use Rattle.ir_grammar.proofs.LawsOfEntities.{law_source, law_target, law_attributes, law_metadata, law_linkage, law_param_name, law_param, law_declaration, law_note_or_metadata, law_text_end}
use Rattle.ir_grammar.proofs.Agreement.{Agree, Widens, agree_same, agree_act, agree_ret, agree_token, agree_one, agree_expect, agree_then, agree_either, agree_rounds, agree_located}
use Rattle.ir_grammar.proofs.AgreementOfValues.{AtMost, Wider, agree_number, agree_type_form, agree_init}
use Rattle.ir_grammar.proofs.AgreementOfOperations.{agree_in_brackets}
use Rattle.ir_grammar.proofs.AgreementOfBodies.{agree_body}

-- ---- types and globals

agree_type_def : {k : ℕ} (l m : Limits) → Wider k l m → Agree k (type_def l) (type_def m)
unfolding type_def
agree_type_def l m h =
    agree_then (agree_located (agree_same law_local_name)) (λ (n : Place × List ℕ). agree_then (agree_act (type_name n.1)) (λ (x : TypeName). agree_then (agree_expect (sign 61)) (λ (e : Unit). agree_then (agree_expect (word (codes "type"))) (λ (u : Unit).
    agree_then (agree_type_form l m h) (λ (t : IrType). agree_ret (entities.Type (record { place = n.0; name = x; ty = t })))))))

agree_global_end : {k : ℕ} (l m : Limits) (a : Option ℕ) → Wider k l m → Agree k (global_end l a) (global_end m a)
unfolding global_end
agree_global_end l m a h =
    agree_rounds (λ a. sign 44) (λ (a : Option ℕ). agree_then (agree_expect (sign 44)) (λ (c : Unit). agree_either align_word (agree_then (agree_expect align_word) (λ (u : Unit). agree_then (agree_number l.length m.length h.lengths) (λ (n : ℕ). agree_ret (Some n))))
    (agree_then (agree_same law_note) (λ (n : Unit). agree_ret a)))) (λ (a : Option ℕ). agree_ret a) a

agree_global_var : {k : ℕ} (l m : Limits) → Wider k l m → Agree k (global_var l) (global_var m)
unfolding global_var
agree_global_var l m h =
    agree_then (agree_located (agree_same law_global)) (λ (g : Place × SymId). agree_then (agree_expect (sign 61)) (λ (e : Unit). agree_then (agree_same (law_linkage false)) (λ (i : Bool). agree_then (agree_one _) (λ (c : Bool). agree_then (agree_type_form l m h) (λ (t : IrType).
    agree_then (agree_init l m h) (λ (v : Const). agree_then (agree_global_end l m None h) (λ (a : Option ℕ). agree_ret (entities.Global (record { place = g.0; name = g.1; internal = i; constant = c; ty = t; init = v; align = a })))))))))

-- ---- functions

agree_param : {k : ℕ} (l m : Limits) → Wider k l m → Agree k (param l) (param m)
unfolding param
agree_param l m h =
    agree_then (agree_type_form l m h) (λ (t : IrType). agree_then (agree_same (law_attribute_list barred.Values no_marks)) (λ (a : Marks). agree_then (agree_same law_param_name) (λ (n : LocalId). agree_ret (record { ty = t; name = n }))))

-- the word `define`, where one more definition is past one limit, and past another
wider_define : (k n : ℕ) (a b : Option ℕ) (c : Bool) → AtMost k a b → Widens k (define_if c (is_past a n)) (define_if c (is_past b n))
wider_define k n a b false h = refl
wider_define k n None None true h = refl
wider_define k n None (Some b) true h = absurd h
wider_define k n (Some a) None true h = at (nat_lt a n)
  where
    at : (p : Bool) → Widens k (define_if true p) (define_if true false)
    at true = h
    at false = refl
wider_define k n (Some a) (Some b) true h = at (nat_lt a n) (nat_lt b n) refl refl
  where
    at : (p q : Bool) → nat_lt a n ≡ p → nat_lt b n ≡ q → Widens k (define_if true p) (define_if true q)
    at true q e f = h.1
    at false false e f = refl
    at false true e f = let less = h.0 in absurd (grind (arith, nat_tests))

agree_define : {k : ℕ} (l m : Limits) (count : ℕ) → Wider k l m → Agree k (token (define_of l count)) (token (define_of m count))
agree_define {k = k} l m count h = agree_token (define_of l count) (define_of m count) at
  where
    at : (t : Token) → Widens k (define_of l count t) (define_of m count t)
    at (tokens.Word w) = wider_define k (count + 1) l.functions m.functions (bytes_eq w (codes "define")) h.functions
    at (tokens.Int n) = refl
    at (tokens.Label n) = refl
    at (tokens.Local n) = refl
    at (tokens.Global n) = refl
    at (tokens.Str n) = refl
    at (tokens.CStr n) = refl
    at (tokens.Meta n) = refl
    at (tokens.Hash n) = refl
    at (tokens.Sign n) = refl
    at tokens.End = refl

agree_definition : {k : ℕ} (l m : Limits) (count : ℕ) → Wider k l m → Agree k (definition l count) (definition m count)
unfolding definition
agree_definition l m count h =
    agree_then (agree_located (agree_define l m count h)) (λ (d : Place × Unit). agree_then (agree_act forget_locals) (λ (u : Unit {0}). agree_then (agree_same (law_attribute_list barred.Values no_marks)) (λ (m1 : Marks). agree_then (agree_type_form l m h) (λ (t : IrType).
    agree_then (agree_same law_global) (λ (f : SymId). agree_then (agree_in_brackets l m h (law_param m) refl (agree_param l m h)) (λ (ps : List Param). agree_then (agree_same (law_attributes_and_notes (without_groups m1))) (λ (a : Marks). agree_then (agree_body l m h) (λ (bs : List Block).
    agree_then (agree_act locals_so_far) (λ (names : List (List ℕ)). agree_ret (entities.Define (record {
      func = record { place = d.0; name = f; internal = a.internal; noinline = a.noinline; result = t; params = ps; locals = names; blocks = bs };
      groups = a.groups;
    })))))))))))

-- ---- texts

agree_other_entity : {k : ℕ} (l m : Limits) (count : ℕ) → Wider k l m → Agree k (other_entity l count) (other_entity m count)
unfolding other_entity
agree_other_entity l m count h =
    agree_either source_word (agree_same law_source) (agree_either target_word (agree_same law_target) (agree_either attributes_word (agree_same law_attributes) (agree_either (kind kinds.Local) (agree_type_def l m h)
    (agree_either (kind kinds.Global) (agree_global_var l m h) (agree_either define_word (agree_definition l m count h) (agree_same law_declaration))))))

agree_entity : {k : ℕ} (l m : Limits) (count : ℕ) → Wider k l m → Agree k (entity l count) (entity m count)
unfolding entity
agree_entity l m count h = agree_either (kind kinds.Meta) (agree_same law_metadata) (agree_other_entity l m count h)

agree_after_declaration : {k : ℕ} (l m : Limits) (d : Draft) → Wider k l m → Agree k (after_declaration l d) (after_declaration m d)
unfolding after_declaration
agree_after_declaration l m d h =
    agree_either (kind kinds.Meta) (agree_same (law_note_or_metadata d)) (agree_either (attribute_set barred.Nothing) (agree_then (agree_same (law_attribute barred.Nothing)) (λ (a : Attribute). agree_ret d))
    (agree_then (agree_other_entity l m (length d.definitions) h) (λ (e : Entity). agree_ret (added d e))))

agree_next_entity : {k : ℕ} (l m : Limits) (d : Draft) (b : Bool) → Wider k l m → Agree k (next_entity l d b) (next_entity m d b)
agree_next_entity l m d true h = agree_after_declaration l m d h
agree_next_entity l m d false h = agree_then (agree_entity l m (length d.definitions) h) (λ (e : Entity). agree_ret (added d e))

pub agree_text : {k : ℕ} (l m : Limits) → Wider k l m → Agree k (text_form l) (text_form m)
unfolding text_form
agree_text l m h = agree_rounds (λ (d : Draft). next_set d.declares) (λ (d : Draft). agree_next_entity l m d d.declares h) (λ (d : Draft). agree_same (law_text_end d)) no_entities
