-- A token in one of two sets.
use Rattle.std.proofs.Common.{◌≡◌, Bool, ◌||◌, List, [], ◌∷◌, ◌++◌, refl, sym}
use Rattle.ir_grammar.specs.declared.kinds.Kind.TheVariants as kinds
use Rattle.ir_grammar.specs.Pieces.{Piece}
use Rattle.ir_grammar.specs.Sets.{Set, head_in}
use Rattle.ir_grammar.specs.Tokens.{kind, words_of}
use Rattle.ir_grammar.specs.Values.{gep_word}
use Rattle.ir_grammar.specs.Operations.{bin_words, icmp_word, select_word, cast_words, alloca_word, load_word, phi_word, other_words}
use Rattle.ir_grammar.specs.Bodies.{plain_value_set, other_block_set}
use Rattle.ir_grammar.proofs.Apart.{in_append}

pub in_either : (x y : Set) (ts : List Piece) (a b : Bool) → a ≡ head_in x ts → b ≡ head_in y ts → (a || b) ≡ head_in (x ++ y) ts
in_either x y [] a b e f = rw (e, f) refl
in_either x y (t ∷ ts) a b e f = rw (e, f) (sym (in_append x y t))

pub op_heads : (ts : List Piece) (a b : Bool) → a ≡ head_in (words_of bin_words ++ icmp_word ++ select_word) ts → b ≡ head_in (words_of cast_words ++ alloca_word ++ load_word ++ phi_word) ts → (a || b) ≡ head_in other_words ts
op_heads ts a b e f = in_either (words_of bin_words ++ icmp_word ++ select_word) (words_of cast_words ++ alloca_word ++ load_word ++ phi_word) ts a b e f

pub void_heads : (ts : List Piece) (a b : Bool) → a ≡ head_in (kind kinds.Local ++ gep_word ++ plain_value_set) ts → b ≡ head_in other_block_set ts → (a || b) ≡ head_in (kind kinds.Local ++ gep_word ++ plain_value_set ++ other_block_set) ts
void_heads ts a b e f = in_either (kind kinds.Local ++ gep_word ++ plain_value_set) other_block_set ts a b e f
