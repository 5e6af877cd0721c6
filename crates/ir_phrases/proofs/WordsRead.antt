-- A word that a form of one token refuses.
use Rattle.std.proofs.Common.{◌≡◌, ℕ, List, [], ◌∷◌, Err, refl, ap, ◌∙◌}
use Rattle.std.specs.Prelude.{Some}
use Rattle.ir_lexer.specs.declared.table.Token.{Token}
use Rattle.ir_lexer.specs.declared.table.Token.TheVariants as tokens
use Rattle.ir_phrases.specs.declared.fault.ReadFault.{ReadFault}
use Rattle.ir_grammar.specs.Pieces.{Piece, Is, Bad}
use Rattle.ir_grammar.specs.Names.{Names}
use Rattle.ir_grammar.specs.Forms.{Verdict, Refuses, Refused, judged, parse_token}
use Rattle.ir_phrases.specs.Gives.{refused, Fails, word_in, head_word}
use Rattle.ir_phrases.proofs.GroupsRead.{fails_refused}

is_word : (t : Token) (w : List ℕ) → word_in t ≡ Some w → t ≡ tokens.Word w
is_word (tokens.Word n) w e = let same : n ≡ w = cc in rw same refl
is_word (tokens.Int n) w e = absurd cc
is_word (tokens.Label n) w e = absurd cc
is_word (tokens.Local n) w e = absurd cc
is_word (tokens.Global n) w e = absurd cc
is_word (tokens.Str n) w e = absurd cc
is_word (tokens.CStr n) w e = absurd cc
is_word (tokens.Meta n) w e = absurd cc
is_word (tokens.Hash n) w e = absurd cc
is_word (tokens.Sign n) w e = absurd cc
is_word tokens.End w e = absurd cc

token_refused : {A : Type 0} (v : Token → Verdict A) (w : List ℕ) (s : Names) (ts : List Piece) → head_word ts ≡ Some w → v (tokens.Word w) ≡ Refuses → parse_token v s ts ≡ Err (record { at = ts; why = Refused })
token_refused v w s [] h e = absurd cc
token_refused v w s (Bad f ∷ ts) h e = absurd cc
token_refused v w s (Is t ∷ ts) h e = ap (λ x. judged x s t ts) (ap v (is_word t.token w h) ∙ e)

pub word_refused : {A : Type 0} (v : Token → Verdict A) (w : List ℕ) (s : Names) (ts : List Piece) (e : ReadFault) → head_word ts ≡ Some w → v (tokens.Word w) ≡ Refuses → e ≡ refused ts → Fails e (parse_token v s ts)
word_refused v w s ts e h k f = fails_refused ts e (parse_token v s ts) f (token_refused v w s ts h k)
