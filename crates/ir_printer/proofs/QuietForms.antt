-- Forms that leave the names as they are.
use Rattle.std.proofs.Common.{◌≡◌, ◌⊎◌, inl, inr, refl, ap, ◌∙◌, ℕ, ℤ, zero, suc, Bool, List}
use Rattle.ir_lexer.specs.declared.table.Token.{Token}
use Rattle.ir_grammar.specs.declared.kinds.Barred.{Barred}
use Rattle.ir_grammar.specs.declared.kinds.Kind.TheVariants as kinds
use Rattle.ir_grammar.specs.declared.parts.Attribute.{Attribute}
use Rattle.ir_grammar.specs.declared.parts.Marks.{Marks}
use Rattle.ir_grammar.specs.Pieces.{Piece}
use Rattle.ir_grammar.specs.Names.{Names}
use Rattle.ir_grammar.specs.Sets.{Set}
use Rattle.ir_grammar.specs.Forms.{Form, ret, Verdict, token, ◌>>=◌, either, Rounds, rounds}
use Rattle.ir_grammar.specs.Tokens.{expect, sign, kind, skip, after_comma}
use Rattle.ir_grammar.specs.Groups.{inside, group}
use Rattle.ir_grammar.specs.Values.{gep_flag, gep_flags}
use Rattle.ir_grammar.specs.Attributes.{node, note_rest, note, notes, attribute_words, attribute_argument, attribute_value, attribute_set, attribute, one_mark, attribute_list}
use Rattle.ir_grammar.specs.Entities.{distinct_word, metadata_rest}
use Rattle.ir_printer.proofs.TokensReprinted.{Quiet, Silent}

pub quiet_token : {A : Type 0} (v : Token → Verdict A) → Quiet (token v)
quiet_token v = record { same = λ s u a t r. r.3 }

pub quiet_ret : {A : Type 0} {a : A} → Quiet (ret a)
quiet_ret {A = A} = record { same = λ s u b t r. ap (λ (x : A × Names). x.1) r.1 }

pub quiet_then : {A B : Type 0} {f : Form A} {g : A → Form B} → Quiet f → ((a : A) → Quiet (g a)) → Quiet (f >>= g)
quiet_then hf hg = record { same = λ s u b t r. hf.same s r.2 r.0 r.1 r.5 ∙ (hg r.0).same r.1 r.3 b t r.6 }

pub quiet_either : {A : Type 0} {f g : Form A} (z : Set) → Quiet f → Quiet g → Quiet (either z f g)
quiet_either {A = A} {f = f} {g = g} z hf hg = record { same = same }
  where
    same : (s : Names) (u : List Piece) (a : A) (t : Names) → f.reads s u a t ⊎ g.reads s u a t → s ≡ t
    same s u a t (inl r) = hf.same s u a t r
    same s u a t (inr r) = hg.same s u a t r

quiet_in : {X Y : Type 0} (go : X → Form X) (stop : X → Form Y) → ((x : X) → Quiet (go x)) → ((x : X) → Quiet (stop x)) → (k : ℕ) (x : X) (s : Names) (u : List Piece) (y : Y) (t : Names) → Rounds go stop k x s u y t → s ≡ t
quiet_in go stop hg hs zero x s u y t r = (hs x).same s u y t r
quiet_in go stop hg hs (suc k) x s u y t r = (hg x).same s r.2 r.0 r.1 r.5 ∙ quiet_in go stop hg hs k r.0 r.1 r.3 y t r.6

pub quiet_rounds : {X Y : Type 0} {go : X → Form X} {stop : X → Form Y} (z : X → Set) (x : X) → ((x : X) → Quiet (go x)) → ((x : X) → Quiet (stop x)) → Quiet (rounds z go stop x)
quiet_rounds {go = go} {stop = stop} z x hg hs = record { same = λ s u y t r. quiet_in go stop hg hs r.0 x s u y t r.1 }

pub quiet_skip : {f : Form (Unit {0})} (z : Set) → Quiet f → Quiet (skip z f)
quiet_skip z h = quiet_rounds (λ x. z) tt (λ x. h) (λ x. quiet_ret)

pub silent_skip : (z : Set) (f : Form (Unit {0})) → Silent (skip z f) tt
silent_skip z f s = (zero, (refl, refl))

quiet_inside : (a : ℕ) → Quiet (inside a)
quiet_inside a = record { same = λ s u x t r. r.2 }

pub quiet_group : (c a : ℕ) → Quiet (group c a)
unfolding group
quiet_group c a = quiet_then (quiet_token _) (λ (o : Unit {0}). quiet_inside a)

-- ---- flags and notes

pub quiet_gep_flags : Quiet gep_flags
unfolding gep_flags
quiet_gep_flags = quiet_skip gep_flag (quiet_token _)

pub silent_gep_flags : Silent gep_flags tt
unfolding gep_flags
silent_gep_flags = silent_skip gep_flag (expect gep_flag)

pub quiet_node : Quiet node
unfolding node
quiet_node = quiet_then (quiet_token _) (λ (e : Unit {0}). quiet_then (quiet_group 123 125) (λ (g : Bool). quiet_ret))

pub quiet_note_rest : Quiet note_rest
unfolding note_rest
quiet_note_rest = quiet_either (sign 33) quiet_node (quiet_token _)

pub quiet_note : Quiet note
unfolding note
quiet_note = quiet_then (quiet_token _) (λ (m : Unit {0}). quiet_note_rest)

pub quiet_after : {A : Type 0} {f : Form A} → Quiet f → Quiet (after_comma f)
quiet_after h = quiet_then (quiet_token _) (λ (c : Unit {0}). h)

pub quiet_notes : Quiet notes
unfolding notes
quiet_notes = quiet_skip (sign 44) (quiet_after quiet_note)

pub silent_notes : Silent notes tt
unfolding notes
silent_notes = silent_skip (sign 44) (after_comma note)

-- ---- attributes

quiet_argument : Quiet attribute_argument
unfolding attribute_argument
quiet_argument = quiet_either (kind kinds.Int) (quiet_then (quiet_token _) (λ (n : ℤ). quiet_ret)) (quiet_either (sign 40) (quiet_then (quiet_group 40 41) (λ (g : Bool). quiet_ret)) quiet_ret)

pub quiet_attribute_value : Quiet attribute_value
unfolding attribute_value
quiet_attribute_value = quiet_either (sign 61) (quiet_then (quiet_token _) (λ (e : Unit {0}). quiet_then (quiet_token _) (λ (s : List ℕ). quiet_ret))) quiet_ret

pub quiet_attribute : (b : Barred) → Quiet (attribute b)
unfolding attribute
quiet_attribute b =
    quiet_either (attribute_words b) (quiet_then (quiet_token _) (λ (a : Attribute). quiet_then quiet_argument (λ (e : Unit {0}). quiet_ret)))
    (quiet_either (kind kinds.Str) (quiet_then (quiet_token _) (λ (s : List ℕ). quiet_then quiet_attribute_value (λ (e : Unit {0}). quiet_ret)))
    (quiet_then (quiet_token _) (λ (n : List ℕ). quiet_ret)))

pub quiet_one_mark : (b : Barred) (m : Marks) → Quiet (one_mark b m)
quiet_one_mark b m = quiet_then (quiet_attribute b) (λ (a : Attribute). quiet_ret)

pub quiet_attribute_list : (b : Barred) (m : Marks) → Quiet (attribute_list b m)
unfolding attribute_list
quiet_attribute_list b m = quiet_rounds (λ x. attribute_set b) m (λ x. quiet_one_mark b x) (λ x. quiet_ret)

pub silent_attribute_list : (b : Barred) (m : Marks) → Silent (attribute_list b m) m
unfolding attribute_list
silent_attribute_list b m s = (zero, (refl, refl))

pub quiet_metadata_rest : Quiet metadata_rest
unfolding metadata_rest
quiet_metadata_rest = quiet_then (quiet_token _) (λ (e : Unit {0}). quiet_then (quiet_either distinct_word (quiet_token _) quiet_ret) (λ (d : Unit {0}). quiet_node))
