-- Arguments, and items in round brackets.
use Rattle.std.proofs.Common.{◌≡◌, inl, inr, refl, sym, ap, ◌∙◌, subst, ℕ, ℤ, ◌<◌, ◌^◌, zero, suc, Bool, true, List, [], ◌∷◌, ◌++◌, ◌+◌, length, map}
use Rattle.std.specs.Prelude.{nat_abs}
use Rattle.std.proofs.lemmas.List.{append_assoc, append-nil}
use Rattle.ir_lexer.specs.declared.table.Token.TheVariants as tokens
use Rattle.ir_core.specs.declared.ty.IrType.{IrType}
use Rattle.ir_core.specs.declared.constant.Const.{Const}
use Rattle.ir_core.specs.declared.constant.Const as consts
use Rattle.ir_core.specs.declared.op.Operand.{Operand}
use Rattle.ir_core.specs.declared.op.Operand.TheVariants as operands
use Rattle.ir_grammar.specs.declared.kinds.Kind.TheVariants as kinds
use Rattle.ir_grammar.specs.declared.kinds.Barred.TheVariants as barred
use Rattle.ir_grammar.specs.declared.which.Which.TheVariants as limits
use Rattle.ir_grammar.specs.declared.parts.Stand.{Stand}
use Rattle.ir_grammar.specs.declared.parts.Stand.TheVariants.{Free, AfterWord, AfterInt}
use Rattle.ir_grammar.specs.declared.parts.Attribute.{Attribute}
use Rattle.ir_grammar.specs.Pieces.{Piece, Is}
use Rattle.ir_grammar.specs.Names.{Names}
use Rattle.ir_grammar.specs.Forms.{Form, ret, Rounds, ◌>>=◌}
use Rattle.ir_grammar.specs.Tokens.{Limits, is_past, sign, kind, int, int_of}
use Rattle.ir_grammar.specs.Types.{type_set}
use Rattle.ir_grammar.specs.Values.{gep_word, const_at, constant, value_set, value}
use Rattle.ir_grammar.specs.Attributes.{attribute_words, not_word, any_attribute, more, no_integer, last, argument_value, argument}
use Rattle.ir_grammar.specs.Operations.{more_items, in_brackets, arguments}
use Rattle.ir_printer.specs.declared.marks.Sign.TheVariants as signs
use Rattle.ir_printer.specs.declared.marks.Mark.{Mark}
use Rattle.ir_printer.specs.declared.marks.Mark.TheVariants as marks
use Rattle.ir_printer.specs.Layout.{Tables}
use Rattle.ir_printer.specs.Marks.{comma, separated, in_round, const_marks, value_marks, typed_marks}
use Rattle.ir_printer.specs.Reprints.{Front, IsSound, AreSound, IsReprinted}
use Rattle.ir_printer.proofs.Reprinting.{Indexed, IndexedTables, Prints, reprinted_token, prints_then, prints_done, prints_either, prints_cases, prints_in, sound_first, sound_last}
use Rattle.ir_printer.proofs.RoundsReprinted.{prints_rounds}
use Rattle.ir_printer.proofs.TokensReprinted.{Quiet, prints_expect, prints_comma, prints_unless_past, int_is}
use Rattle.ir_printer.proofs.ListsReprinted.{IsSome, some_more, separated_more}
use Rattle.ir_printer.proofs.TypesReprinted.{prints_type_form}
use Rattle.ir_printer.proofs.ValuesReprinted.{prints_address, prints_gep, prints_const_word, prints_local_value, prints_value}
use Rattle.ir_printer.proofs.QuietForms.{quiet_token, quiet_ret, quiet_then, quiet_either, quiet_group, quiet_attribute_value}

-- ---- what stands before an argument's value

quiet_not_word : Quiet (not_word barred.Values)
quiet_not_word = quiet_either (kind kinds.Str) (quiet_then (quiet_token _) (λ (s : List ℕ). quiet_then quiet_attribute_value (λ (e : Unit {0}). quiet_ret))) (quiet_then (quiet_token _) (λ (n : List ℕ). quiet_ret))

quiet_any : Quiet any_attribute
quiet_any = quiet_either (attribute_words barred.Values) (quiet_then (quiet_token _) (λ (a : Attribute). quiet_ret)) quiet_not_word

pub quiet_more : (x : Stand) → Quiet (more x)
quiet_more Free = quiet_any
quiet_more AfterWord = quiet_either (kind kinds.Int) (quiet_then (quiet_token _) (λ (n : ℤ). quiet_ret)) (quiet_either (sign 40) (quiet_then (quiet_group 40 41) (λ (g : Bool). quiet_ret)) quiet_any)
quiet_more (AfterInt n) = quiet_any

-- an integer that may be the value can be spelled
abbrev Spelled : Stand → Type 0
Spelled Free = Unit {0}
Spelled AfterWord = Unit {0}
Spelled (AfterInt j) = nat_abs j < 10 ^ 30

any_spelled : (s : Names) (u : List Piece) (x : Stand) (t : Names) → any_attribute.reads s u x t → Spelled x
any_spelled s u x t (inl r) = subst Spelled (ap (λ (y : Stand × Names). y.0) r.6.1) tt
any_spelled s u x t (inr (inl r)) = subst Spelled (ap (λ (y : Stand × Names). y.0) r.6.6.1) tt
any_spelled s u x t (inr (inr r)) = subst Spelled (ap (λ (y : Stand × Names). y.0) r.6.1) tt

more_spelled : (x : Stand) (s : Names) (u : List Piece) (y : Stand) (t : Names) → (more x).reads s u y t → AreSound u → Spelled y
more_spelled Free s u y t r sound = any_spelled s u y t r
more_spelled AfterWord s u y t (inl r) sound =
    let one : AreSound (Is r.5.0 ∷ r.3) = subst AreSound (r.4 ∙ ap (λ (v : List Piece). v ++ r.3) r.5.1) sound in
    subst Spelled (ap (λ (z : Stand × Names). z.0) r.6.1) (subst IsSound (int_is r.5.0.token r.0 r.5.2) one.0)
more_spelled AfterWord s u y t (inr (inl r)) sound = subst Spelled (ap (λ (z : Stand × Names). z.0) r.6.1) tt
more_spelled AfterWord s u y t (inr (inr r)) sound = any_spelled s u y t r
more_spelled (AfterInt j) s u y t r sound = any_spelled s u y t r

-- ---- the value

-- a constant of its own kind is a value
pub prints_const_as : {n : Tables} {f g : Form Const} → (l : Limits) → Prints true n f g [] const_marks → ((s : Names) (u : List Piece) (c : Const) (t : Names) → g.reads s u c t → (constant l).reads s u c t) → Prints true n (f >>= λ c. ret (operands.Const c)) (value l) [] value_marks
unfolding value
prints_const_as l h into = prints_in (prints_then h (λ (c : Const). prints_done refl)) (λ s u a t r. inr (r.0, r.1, r.2, r.3, r.4, into s r.2 r.0 r.1 r.5, r.6))

prints_no_integer : {n : Tables} → IndexedTables n → (l : Limits) → Prints true n (no_integer l) (value l) [] value_marks
unfolding value constant const_at
prints_no_integer i l =
    prints_cases (kind kinds.Local) (prints_in (prints_local_value i) (λ s u a t r. inl r))
    (prints_cases (kind kinds.Global) (prints_const_as l (prints_address i) (λ s u c t r. inl r))
    (prints_cases gep_word (prints_const_as l (prints_gep i l.length l.levels) (λ s u c t r. inr (inl r)))
    (prints_const_as l prints_const_word (λ s u c t r. inr (inr (inr r))))))

-- an integer is read as a value
int_value : (l : Limits) (s : Names) (u : List Piece) (j : ℤ) (t : Names) → int.reads s u j t → (value l).reads s u (operands.Const (consts.Int j)) t
unfolding value constant const_at
int_value l s u j t r = inr (consts.Int j, t, u, [], sym (append-nil u), inr (inr (inl (j, t, u, [], sym (append-nil u), r, (refl, refl)))), (refl, refl))

reprinted_int : (n : Tables) (l : Limits) (s : Names) (j : ℤ) → nat_abs j < 10 ^ 30 → IsReprinted true n (value l) s (operands.Const (consts.Int j)) s (marks.Int j ∷ [])
reprinted_int n l s j h =
    let one = reprinted_token true n int_of s j (marks.Int j) (tokens.Int j) (record { plain = refl; spellable = h; told = refl; takes = refl }) in
    record { ready = one.ready; counted = one.counted; spellable = one.spellable; rereads = λ s2 us front ready are. (let r = one.rereads s2 us front ready are in (r.0, int_value l s2 us j r.0 r.1, r.2, r.3)) }

prints_late : {n : Tables} (l : Limits) (j : ℤ) → nat_abs j < 10 ^ 30 → Prints true n (ret (operands.Const (consts.Int j))) (value l) [] value_marks
prints_late {n = n} l j h = record {
  indexed = λ s u a t r i. subst Indexed (ap (λ (x : Operand × Names). x.1) r.1) i;
  fronts = λ s u a t r f. subst (λ (x : Names). Front true n x) (sym (ap (λ (x : Operand × Names). x.1) r.1)) f;
  prints = λ s u a t r front sound. (marks.Int j ∷ [], ap (λ (x : Operand × Names). value_marks x.0) (sym r.1), subst (λ (x : Operand × Names). IsReprinted true n (value l) s x.0 x.1 (marks.Int j ∷ [])) r.1 (reprinted_int n l s j h));
}

prints_last : {n : Tables} → IndexedTables n → (l : Limits) (x : Stand) → Spelled x → Prints true n (last l x) (value l) [] value_marks
prints_last i l Free h = prints_value i l
prints_last i l AfterWord h = prints_no_integer i l
prints_last i l (AfterInt j) h = prints_cases value_set (prints_value i l) (prints_late l j h)

module _ (n : Tables) (i : IndexedTables n) (l : Limits) where
  value_in : (c : ℕ) (x : Stand) → Spelled x → (s : Names) (u : List Piece) (v : Operand) (t : Names) → Rounds more (last l) c x s u v t → AreSound u → Front true n t → (ms : List Mark) × (value_marks v ≡ ms) × IsReprinted true n (value l) s v t ms
  value_in zero x h s u v t r sound front = (prints_last i l x h).prints s u v t r front sound
  value_in (suc c) x h s u v t r sound front =
      let both = subst AreSound r.4 sound in
      let m = value_in c r.0 (more_spelled x s r.2 r.0 r.1 r.5 (sound_first r.2 r.3 both)) r.1 r.3 v t r.6 (sound_last r.2 r.3 both) front in
      (m.0, m.1, subst (λ (y : Names). IsReprinted true n (value l) y v t m.0) (sym ((quiet_more x).same s r.2 r.0 r.1 r.5)) m.2)

  last_indexed : (x : Stand) (s : Names) (u : List Piece) (v : Operand) (t : Names) → (last l x).reads s u v t → Indexed s → Indexed t
  last_indexed Free s u v t r g = (prints_value i l).indexed s u v t r g
  last_indexed AfterWord s u v t r g = (prints_no_integer i l).indexed s u v t r g
  last_indexed (AfterInt j) s u v t (inl r) g = (prints_value i l).indexed s u v t r g
  last_indexed (AfterInt j) s u v t (inr r) g = subst Indexed (ap (λ (x : Operand × Names). x.1) r.1) g

  last_fronts : (x : Stand) (s : Names) (u : List Piece) (v : Operand) (t : Names) → (last l x).reads s u v t → Front true n t → Front true n s
  last_fronts Free s u v t r f = (prints_value i l).fronts s u v t r f
  last_fronts AfterWord s u v t r f = (prints_no_integer i l).fronts s u v t r f
  last_fronts (AfterInt j) s u v t (inl r) f = (prints_value i l).fronts s u v t r f
  last_fronts (AfterInt j) s u v t (inr r) f = subst (λ (x : Names). Front true n x) (sym (ap (λ (x : Operand × Names). x.1) r.1)) f

  indexed_in : (c : ℕ) (x : Stand) (s : Names) (u : List Piece) (v : Operand) (t : Names) → Rounds more (last l) c x s u v t → Indexed s → Indexed t
  indexed_in zero x s u v t r g = last_indexed x s u v t r g
  indexed_in (suc c) x s u v t r g = indexed_in c r.0 r.1 r.3 v t r.6 (subst Indexed ((quiet_more x).same s r.2 r.0 r.1 r.5) g)

  fronts_in : (c : ℕ) (x : Stand) (s : Names) (u : List Piece) (v : Operand) (t : Names) → Rounds more (last l) c x s u v t → Front true n t → Front true n s
  fronts_in zero x s u v t r f = last_fronts x s u v t r f
  fronts_in (suc c) x s u v t r f = subst (λ (y : Names). Front true n y) (sym ((quiet_more x).same s r.2 r.0 r.1 r.5)) (fronts_in c r.0 r.1 r.3 v t r.6 f)

prints_argument_value : {n : Tables} → IndexedTables n → (l : Limits) → Prints true n (argument_value l) (argument_value l) [] value_marks
unfolding argument_value
prints_argument_value {n = n} i l = prints_in (record {
  indexed = λ s u v t r g. indexed_in n i l r.0 Free s u v t r.1 g;
  fronts = λ s u v t r f. fronts_in n i l r.0 Free s u v t r.1 f;
  prints = λ s u v t r front sound. value_in n i l r.0 Free tt s u v t r.1 sound front;
}) (λ s u v t r. (zero, r))

pub prints_argument : {n : Tables} → IndexedTables n → (l : Limits) → Prints true n (argument l) (argument l) [] typed_marks
unfolding argument
prints_argument i l = prints_then (prints_type_form i l) (λ (t : IrType). prints_then (prints_argument_value i l) (λ (v : Operand). prints_done refl))

-- ---- items in round brackets

item_more : {A : Type 0} (own : A → List Mark) (xs : List A) (x : A) → IsSome xs → separated (map own (xs ++ x ∷ [])) ≡ (separated (map own xs) ++ comma ∷ []) ++ own x
item_more own xs x h = separated_more own xs x h ∙ sym (append_assoc (separated (map own xs)) (comma ∷ []) (own x))

prints_items : {A : Type 0} {inside : Bool} {n : Tables} {f f2 : Form A} (l : Limits) (own : A → List Mark) (a : A) → Prints inside n f f2 [] own → Prints inside n (more_items l f (a ∷ [])) (more_items l f2 (a ∷ [])) (own a) (λ xs. separated (map own xs))
prints_items {A = A} {inside = inside} {n = n} {f = f} {f2 = f2} l own a h =
    subst (λ (before : List Mark). Prints inside n (more_items l f (a ∷ [])) (more_items l f2 (a ∷ [])) before (λ xs. separated (map own xs))) (append-nil (own a))
    (prints_rounds (λ xs. sign 44) (λ xs. separated (map own xs)) IsSome (λ x s u x1 s1 ok r. subst IsSome (ap (λ (y : List A × Names). y.0) r.6.6.1) (some_more x r.6.0))
    (λ xs ok. prints_then prints_comma (λ (c : Unit {0}). prints_then (prints_unless_past (is_past l.params (length xs + 1)) limits.Params h) (λ (x : A). prints_done (item_more own xs x ok)))) (λ xs ok. prints_done refl) (a ∷ []) tt)

pub prints_in_brackets : {A : Type 0} {inside : Bool} {n : Tables} {f f2 : Form A} (l : Limits) (own : A → List Mark) → Prints inside n f f2 [] own → Prints inside n (in_brackets l f) (in_brackets l f2) [] (λ xs. in_round (map own xs))
prints_in_brackets {A = A} l own h =
    prints_then (prints_expect (sign 40) (marks.Joined signs.OpenRound) (tokens.Sign 40) refl tt refl refl) (λ (o : Unit {0}).
    prints_then (prints_either (type_set true) (prints_then h (λ (a : A). prints_items l own a h)) (prints_done refl)) (λ (xs : List A).
    prints_then (prints_expect (sign 41) (marks.Closing signs.CloseRound) (tokens.Sign 41) refl tt refl refl) (λ (d : Unit {0}).
    prints_done refl)))

pub prints_arguments : {n : Tables} → IndexedTables n → (l : Limits) → Prints true n (arguments l) (arguments l) [] (λ xs. in_round (map typed_marks xs))
unfolding arguments
prints_arguments i l = prints_in_brackets l typed_marks (prints_argument i l)
