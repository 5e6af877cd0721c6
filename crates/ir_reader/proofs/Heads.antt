-- The first tokens of an entity, and a definition's word.
use Rattle.std.proofs.Common.{◌≡◌, ℕ, Bool, true, false, ◌||◌, List, [], ◌∷◌, ◌++◌, Err, refl, subst}
use Rattle.std.specs.Prelude.{codes}
use Rattle.std.specs.Str.{bytes_eq}
use Rattle.ir_lexer.specs.declared.table.Token.{Token}
use Rattle.ir_lexer.specs.declared.table.Token.TheVariants as tokens
use Rattle.ir_grammar.specs.declared.kinds.Kind.TheVariants as kinds
use Rattle.ir_grammar.specs.Pieces.{Piece, Is, Bad}
use Rattle.ir_grammar.specs.Names.{Names}
use Rattle.ir_grammar.specs.Sets.{has, head_in}
use Rattle.ir_grammar.specs.Forms.{Refused, Refuses, parse_token}
use Rattle.ir_grammar.specs.Tokens.{kind, stated}
use Rattle.ir_grammar.specs.Entities.{source_word, target_word, attributes_word, define_word, define_of, declare_word, other_entity_set}
use Rattle.ir_bodies.proofs.Heads.{in_either}
use Rattle.ir_phrases.specs.declared.fault.ReadFault.{ReadFault}
use Rattle.ir_phrases.specs.Gives.{refused, Fails}
use Rattle.ir_phrases.proofs.GroupsRead.{fails_refused}

pub entity_heads : (ts : List Piece) (a b : Bool) → a ≡ head_in (source_word ++ target_word ++ attributes_word) ts → b ≡ head_in (kind kinds.Local ++ kind kinds.Global ++ define_word ++ declare_word) ts → (a || b) ≡ head_in other_entity_set ts
entity_heads ts a b e f = in_either (source_word ++ target_word ++ attributes_word) (kind kinds.Local ++ kind kinds.Global ++ define_word ++ declare_word) ts a b e f

-- another token than the word `define` is refused there
no_define : (n : ℕ) (t : Token) → has define_word t ≡ false → define_of stated n t ≡ Refuses
no_define n (tokens.Word w) e = by (bytes_eq w (codes "define")) refl
  where
    by : (b : Bool) → bytes_eq w (codes "define") ≡ b → define_of stated n (tokens.Word w) ≡ Refuses
    by true h = let k : (true || false) ≡ false = subst (λ b. (b || false) ≡ false) h e in absurd cc
    by false h = rw h refl
no_define n (tokens.Int i) e = refl
no_define n (tokens.Label w) e = refl
no_define n (tokens.Local w) e = refl
no_define n (tokens.Global w) e = refl
no_define n (tokens.Str w) e = refl
no_define n (tokens.CStr w) e = refl
no_define n (tokens.Meta w) e = refl
no_define n (tokens.Hash w) e = refl
no_define n (tokens.Sign c) e = refl
no_define n tokens.End e = refl

pub define_refused : (n : ℕ) (s : Names) (ts : List Piece) (e : ReadFault) → head_in define_word ts ≡ false → e ≡ refused ts → Fails e (parse_token (define_of stated n) s ts)
define_refused n s ts e h k = fails_refused ts e (parse_token (define_of stated n) s ts) k (at ts h)
  where
    at : (us : List Piece) → head_in define_word us ≡ false → parse_token (define_of stated n) s us ≡ Err (record { at = us; why = Refused })
    at [] h = refl
    at (Is t ∷ us) h = rw (no_define n t.token h) refl
    at (Bad f ∷ us) h = refl
