-- Globals and declarations are printed as they are read.
use Rattle.std.proofs.Common.{◌≡◌, inl, inr, refl, sym, ap, ◌∙◌, subst, ℕ, ◌^◌, ◌<◌, pos, zero, suc, Bool, true, false, ◌||◌, List, [], ◌∷◌, ◌++◌}
use Rattle.std.specs.Prelude.{Option, Some, None, codes, if◌then◌else◌}
use Rattle.std.specs.Str.{bytes_eq}
use Rattle.std.proofs.lemmas.List.{append_assoc, append-nil}
use Rattle.oi_base.specs.declared.ids.Place.{Place}
use Rattle.oi_base.specs.declared.words.Width.TheVariants.{W32}
use Rattle.ir_lexer.specs.declared.table.Token.{Token}
use Rattle.ir_lexer.specs.declared.table.Token.TheVariants as tokens
use Rattle.ir_core.specs.declared.ty.IrType.{IrType}
use Rattle.ir_core.specs.declared.constant.Const.{Const}
use Rattle.ir_core.specs.declared.module.SymId.{SymId}
use Rattle.ir_core.specs.Places.{no_place}
use Rattle.ir_grammar.specs.declared.parts.Entity as read_entities
use Rattle.ir_grammar.specs.Pieces.{Piece, Is, Bad}
use Rattle.ir_grammar.specs.Names.{Names}
use Rattle.ir_grammar.specs.Sets.{has}
use Rattle.ir_grammar.specs.Forms.{Form, ret, ◌>>=◌, Rounds}
use Rattle.ir_grammar.specs.Tokens.{Limits, allows, expect, sign, word, words_of, one_word, number, number_of, skip}
use Rattle.ir_grammar.specs.Groups.{token_awaits, is_noinline_word, group}
use Rattle.ir_grammar.specs.Types.{type_form}
use Rattle.ir_grammar.specs.Values.{global, init}
use Rattle.ir_grammar.specs.Operations.{align_word}
use Rattle.ir_grammar.specs.Entities.{equals, global_words, linkage, storage_words, align_or_note, one_global_end, global_end, global_var, declare_word, before_name, declaration}
use Rattle.ir_printer.specs.declared.words.Word.{Word}
use Rattle.ir_printer.specs.declared.words.Word.TheVariants as words
use Rattle.ir_printer.specs.declared.marks.Sign.TheVariants as signs
use Rattle.ir_printer.specs.declared.marks.Mark.{Mark}
use Rattle.ir_printer.specs.declared.marks.Mark.TheVariants as marks
use Rattle.ir_printer.specs.Words.{word_text}
use Rattle.ir_printer.specs.Layout.{Tables, tables, name_at}
use Rattle.ir_printer.specs.Marks.{comma, type_marks, const_marks, align_marks, word_if, storage_word, one_or_none, signature, in_round}
use Rattle.ir_printer.specs.Printed.{Entity, TargetLine, DefinedType, Variable, Definition, Declared, entity_marks}
use Rattle.ir_printer.specs.Tokens.{tokens_of, Are}
use Rattle.ir_printer.specs.Reprints.{Front, AreSound, IsReprinted}
use Rattle.ir_printer.proofs.Positions.{IsIndexed, none_indexed}
use Rattle.ir_printer.proofs.Reprinting.{none_left, Indexed, IndexedTables, Prints, reprinted_token, reprinted_then, reprinted_in, sound_first, sound_last}
use Rattle.ir_printer.proofs.Images.{PrintsAs, as_then, as_next, as_it_is, as_done, as_located}
use Rattle.ir_printer.proofs.TokensReprinted.{Quiet, Silent, prints_expect, prints_table, IsNumber, number_sound}
use Rattle.ir_printer.proofs.QuietForms.{quiet_token, quiet_ret, quiet_then, quiet_either, quiet_rounds, quiet_skip, quiet_group, quiet_note}
use Rattle.ir_printer.proofs.TypesReprinted.{prints_type_form}
use Rattle.ir_printer.proofs.ValuesReprinted.{prints_global, prints_init}
use Rattle.ir_printer.proofs.PrintedForms.{may_stand, printed_align, printed_global, printed_declaration, IsReadEntity}
use Rattle.ir_printer.proofs.EntitiesReprinted.{ends, image_of, IsFlat, read_flat, prints_equals}

-- ---- what is read from quiet pieces

-- no mark is read as what a form reads from nothing
reprinted_nothing : {A : Type 0} (inside : Bool) (n : Tables) (g : Form A) (s : Names) (a : A) → Silent g a → IsReprinted inside n g s a s []
reprinted_nothing inside n g s a silent = record {
  ready = tt;
  counted = refl;
  spellable = tt;
  rereads = λ s2 us front ready are. (s2, subst (λ (v : List Piece). g.reads s2 v a s2) (sym (none_left us are)) (silent s2), front, refl);
}

-- a quiet form is printed as what reads its value from these marks
pub as_quiet : {A B : Type 0} {inside : Bool} {n : Tables} {image : A → B} {g : Form B} {all : B → List Mark} (f : Form A) → Quiet f → ((s : Names) (u : List Piece) (a : A) (t : Names) → f.reads s u a t → AreSound u → IsReprinted inside n g s (image a) s (all (image a))) → PrintsAs inside n image f g [] all
as_quiet {inside = inside} {n = n} {image = image} {g = g} {all = all} f quiet h = record {
  indexed = λ s u a t r i. subst Indexed (quiet.same s u a t r) i;
  fronts = λ s u a t r k. subst (λ (x : Names). Front inside n x) (sym (quiet.same s u a t r)) k;
  prints = λ s u a t r front sound. (all (image a), refl, subst (λ (x : Names). IsReprinted inside n g s (image a) x (all (image a))) (quiet.same s u a t r) (h s u a t r sound));
}

pub prints_quiet : {A : Type 0} {inside : Bool} {n : Tables} {g : Form A} {all : A → List Mark} (f : Form A) → Quiet f → ((s : Names) (u : List Piece) (a : A) (t : Names) → f.reads s u a t → AreSound u → IsReprinted inside n g s a s (all a)) → Prints inside n f g [] all
prints_quiet f quiet h = let p = as_quiet f quiet h in record { indexed = p.indexed; fronts = p.fronts; prints = p.prints }

-- ---- a word that stands or not

pub reprinted_flag : (inside : Bool) (n : Tables) (w : Word) → has (word (word_text w)) (tokens.Word (word_text w)) ≡ true → (s : Names) (b : Bool) → IsReprinted inside n (may_stand (word_text w)) s b s (word_if b w)
reprinted_flag inside n w h s true =
    let one = reprinted_token inside n (λ t. allows (has (word (word_text w)) t)) s tt (marks.Word w) (tokens.Word (word_text w)) (record { plain = refl; spellable = tt; told = refl; takes = ap allows h }) in
    record { ready = one.ready; counted = one.counted; spellable = one.spellable; rereads = λ s2 us front ready are. (let r = one.rereads s2 us front ready are in (r.0, inl (tt, r.0, us, [], sym (append-nil us), r.1, (refl, refl)), r.2, r.3)) }
reprinted_flag inside n w h s false = reprinted_nothing inside n (may_stand (word_text w)) s false (λ s2. inr (refl, refl))

-- what a quiet form says is printed as a word or none
pub prints_flag : {inside : Bool} {n : Tables} (w : Word) → has (word (word_text w)) (tokens.Word (word_text w)) ≡ true → (f : Form Bool) → Quiet f → Prints inside n f (may_stand (word_text w)) [] (λ b. word_if b w)
prints_flag {inside = inside} {n = n} w h f quiet = prints_quiet f quiet (λ s u b t r sound. reprinted_flag inside n w h s b)

-- ---- globals

quiet_linkage : Quiet (linkage false)
unfolding linkage
quiet_linkage = quiet_rounds (λ b. words_of global_words) false (λ b. quiet_then (quiet_token _) (λ (i : Bool). quiet_ret)) (λ b. quiet_ret)

quiet_align_or_note : (l : Limits) (a : Option ℕ) → Quiet (align_or_note l a)
quiet_align_or_note l a = quiet_either align_word (quiet_then (quiet_token _) (λ (w : Unit {0}). quiet_then (quiet_token _) (λ (x : ℕ). quiet_ret))) (quiet_then quiet_note (λ (e : Unit {0}). quiet_ret))

quiet_global_end : (l : Limits) → Quiet (global_end l None)
unfolding global_end
quiet_global_end l = quiet_rounds (λ a. sign 44) None (λ a. quiet_then (quiet_token _) (λ (c : Unit {0}). quiet_align_or_note l a)) (λ a. quiet_ret)

-- an alignment that can be spelled, within its limit
abbrev IsSpelled : Limits → Option ℕ → Type 0
IsSpelled l None = Unit {0}
IsSpelled l (Some x) = IsNumber l.length x

align_spelled : (l : Limits) (a : Option ℕ) → IsSpelled l a → (s : Names) (u : List Piece) (b : Option ℕ) (t : Names) → (align_or_note l a).reads s u b t → AreSound u → IsSpelled l b
align_spelled l a h s u b t (inl r) sound =
    let after = sound_last r.2 r.3 (subst AreSound r.4 sound) in
    let one = subst AreSound r.6.5.1 (sound_first r.6.2 r.6.3 (subst AreSound r.6.4 after)) in
    ends (λ (y : Option ℕ) (z : Names). IsSpelled l y) r.6.6.1 (number_sound l.length r.6.5.0.token r.6.0 r.6.5.2 one.0)
align_spelled l a h s u b t (inr r) sound = ends (λ (y : Option ℕ) (z : Names). IsSpelled l y) r.6.1 h

end_spelled : (l : Limits) (c : ℕ) (a : Option ℕ) → IsSpelled l a → (s : Names) (u : List Piece) (b : Option ℕ) (t : Names) → Rounds (one_global_end l) (λ x. ret x) c a s u b t → AreSound u → IsSpelled l b
end_spelled l zero a h s u b t r sound = ends (λ (y : Option ℕ) (z : Names). IsSpelled l y) r.1 h
end_spelled l (suc c) a h s u b t r sound =
    let both = subst AreSound r.4 sound in
    let q = r.5 in
    let one = align_spelled l a h q.1 q.3 r.0 r.1 q.6 (sound_last q.2 q.3 (subst AreSound q.4 (sound_first r.2 r.3 both))) in
    end_spelled l c r.0 one r.1 r.3 b t r.6 (sound_last r.2 r.3 both)

global_end_spelled : (l : Limits) (s : Names) (u : List Piece) (b : Option ℕ) (t : Names) → (global_end l None).reads s u b t → AreSound u → IsSpelled l b
unfolding global_end
global_end_spelled l s u b t r sound = end_spelled l r.0 None tt s u b t r.1 sound

reprinted_align : (inside : Bool) (n : Tables) (l : Limits) (s : Names) (a : Option ℕ) → IsSpelled l a → IsReprinted inside n (printed_align l) s a s (align_marks a)
reprinted_align inside n l s None h = reprinted_nothing inside n (printed_align l) s None (λ s2. inr (refl, refl))
reprinted_align inside n l s (Some x) h =
    reprinted_in inside n (expect (sign 44) >>= λ c. after_sign) (printed_align l) (λ s2 u a t r. inl r) s (Some x) s (align_marks (Some x))
    (reprinted_then inside n (expect (sign 44)) (λ (c : Unit {0}). after_sign) s tt s (Some x) s (comma ∷ []) (marks.Word words.Align ∷ marks.Int (pos x) ∷ [])
    (reprinted_token inside n _ s tt comma (tokens.Sign 44) (record { plain = refl; spellable = tt; told = refl; takes = refl }))
    (reprinted_then inside n (expect align_word) (λ (w : Unit {0}). after_word) s tt s (Some x) s (marks.Word words.Align ∷ []) (marks.Int (pos x) ∷ [])
    (reprinted_token inside n _ s tt (marks.Word words.Align) (tokens.Word (codes "align")) (record { plain = refl; spellable = tt; told = refl; takes = refl }))
    (reprinted_then inside n (number l.length) (λ (y : ℕ). ret (Some y)) s x s (Some x) s (marks.Int (pos x) ∷ []) []
    (reprinted_token inside n (number_of l.length) s x (marks.Int (pos x)) (tokens.Int (pos x)) (record { plain = refl; spellable = h.0; told = refl; takes = h.1 }))
    (reprinted_nothing inside n (ret (Some x)) s (Some x) (λ s2. (refl, refl))))))
  where
    after_word : Form (Option ℕ)
    after_word = number l.length >>= λ (y : ℕ). ret (Some y)

    after_sign : Form (Option ℕ)
    after_sign = expect align_word >>= λ w. after_word

prints_global_end : {inside : Bool} {n : Tables} (l : Limits) → Prints inside n (global_end l None) (printed_align l) [] align_marks
prints_global_end {inside = inside} {n = n} l = prints_quiet (global_end l None) (quiet_global_end l) (λ s u a t r sound. reprinted_align inside n l s a (global_end_spelled l s u a t r sound))

global_marks_are : (g e w : Mark) (is ts cs as' : List Mark) → g ∷ e ∷ (is ++ (w ∷ (ts ++ (cs ++ as')))) ≡ (((((g ∷ e ∷ []) ++ is) ++ w ∷ []) ++ ts) ++ cs) ++ as'
global_marks_are g e w is ts cs as' = simp append_assoc

prints_global_var : (n : Tables) (l : Limits) (noinline : List (List ℕ)) → IndexedTables n → PrintsAs false n (image_of noinline) (global_var l) (printed_global l) [] (entity_marks n.symbols)
unfolding global_var
prints_global_var n l noinline i =
    as_then (λ (g : SymId). equals >>= λ e. may_stand (codes "internal") >>= λ is. one_word storage_words >>= λ c. type_form l >>= λ t. init l >>= λ v. printed_align l >>= λ a. ret (Variable (record { place = no_place; name = g; internal = is; constant = c; ty = t; init = v; align = a })))
    (as_located (as_it_is (prints_global i))) (λ (g : Place × SymId).
    as_next prints_equals (λ (e : Unit {0}).
    as_next (prints_flag words.Internal refl (linkage false) quiet_linkage) (λ (is : Bool).
    as_next (prints_table storage_words (λ (c : Bool). marks.Word (storage_word c) ∷ []) ((words.Global, refl, refl), ((words.Constant, refl, refl), tt))) (λ (c : Bool).
    as_next (prints_type_form i l) (λ (t : IrType).
    as_next (prints_init i l) (λ (v : Const).
    as_next (prints_global_end l) (λ (a : Option ℕ).
    as_done refl (global_marks_are (marks.Symbol g.1) (marks.Spaced signs.Equals) (marks.Word (storage_word c)) (word_if is words.Internal) (type_marks t) (const_marks v) (align_marks a)))))))))

pub read_global_var : (n : Tables) (l : Limits) (noinline : List (List ℕ)) → IsIndexed n.symbols → IsIndexed n.types → (s : Names) (u : List Piece) (x : read_entities.Entity) (t : Names) → (global_var l).reads s u x t → IsReadEntity n l noinline s u x t
unfolding global_var
read_global_var n l noinline i j s u x t r =
    read_flat n l noinline (global_var l) (printed_global l) (entity_marks n.symbols) (prints_global_var (tables n.symbols n.types []) l noinline (i, j, none_indexed)) (λ s2 v e t2 q. inr (inr (inl q))) s u x t r
    (ends (IsFlat noinline) r.6.6.6.6.6.6.6.1 (refl, refl)) refl

-- ---- declarations

-- a word before the name
reprinted_before_name : (inside : Bool) (n : Tables) (w : Word) (s : Names) → IsReprinted inside n (skip before_name (expect before_name)) s tt s (marks.Word w ∷ [])
reprinted_before_name inside n w s =
    let one = reprinted_token inside n (λ t. allows (has before_name t)) s tt (marks.Word w) (tokens.Word (word_text w)) (record { plain = refl; spellable = tt; told = refl; takes = refl }) in
    record { ready = one.ready; counted = one.counted; spellable = one.spellable; rereads = λ s2 us front ready are. (let r = one.rereads s2 us front ready are in (r.0, (suc zero, (tt, r.0, us, [], sym (append-nil us), r.1, (refl, refl))), r.2, r.3)) }

-- no word, or one that is not `noinline`
abbrev IsOrdinary : Option Word → Type 0
IsOrdinary None = Unit {0}
IsOrdinary (Some w) = is_noinline_word (tokens.Word (word_text w)) ≡ false

group_again : (o : Option Word) → IsOrdinary o → (n : Tables) (s : Names) (us : List Piece) → Are us (tokens_of n (in_round (one_or_none o))) → (group 40 41).reads s us false s
unfolding group
group_again None h n s [] are = absurd are
group_again None h n s (Bad e ∷ us) are = absurd are
group_again None h n s (Is p ∷ []) are = absurd are.1
group_again None h n s (Is p ∷ Bad e ∷ us) are = absurd are.1
group_again None h n s (Is p ∷ Is q ∷ Is x ∷ us) are = absurd are.1.1
group_again None h n s (Is p ∷ Is q ∷ Bad x ∷ us) are = absurd are.1.1
group_again None h n s (Is p ∷ Is q ∷ []) are =
    (tt, s, Is p ∷ [], Is q ∷ [], refl, (p, refl, ap (λ (t : Token). allows (has (sign 40) t)) are.0, refl), (([], ap (token_awaits 41 []) are.1.0, tt), sym (ap is_noinline_word are.1.0), refl))
group_again (Some w) h n s [] are = absurd are
group_again (Some w) h n s (Bad e ∷ us) are = absurd are
group_again (Some w) h n s (Is p ∷ []) are = absurd are.1
group_again (Some w) h n s (Is p ∷ Bad e ∷ us) are = absurd are.1
group_again (Some w) h n s (Is p ∷ Is q ∷ []) are = absurd are.1.1
group_again (Some w) h n s (Is p ∷ Is q ∷ Bad e ∷ us) are = absurd are.1.1
group_again (Some w) h n s (Is p ∷ Is q ∷ Is x ∷ Is y ∷ us) are = absurd are.1.1.1
group_again (Some w) h n s (Is p ∷ Is q ∷ Is x ∷ Bad y ∷ us) are = absurd are.1.1.1
group_again (Some w) h n s (Is p ∷ Is q ∷ Is x ∷ []) are = (
  tt,
  s,
  Is p ∷ [],
  Is q ∷ Is x ∷ [],
  refl,
  (p, refl, ap (λ (t : Token). allows (has (sign 40) t)) are.0, refl),
  ((41 ∷ [], ap (token_awaits 41 []) are.1.0, ([], ap (token_awaits 41 []) are.1.1.0, tt)), seen (is_noinline_word q.token) (is_noinline_word x.token) (ap is_noinline_word are.1.0 ∙ h) (ap is_noinline_word are.1.1.0), refl),
)
  where
    seen : (a b : Bool) → a ≡ false → b ≡ false → false ≡ (a || b)
    seen a b e f = cc

reprinted_group : (inside : Bool) (n : Tables) (o : Option Word) → IsOrdinary o → (s : Names) → IsReprinted inside n (group 40 41) s false s (in_round (one_or_none o))
reprinted_group inside n None h s = record { ready = (tt, (tt, tt)); counted = refl; spellable = (tt, (tt, tt)); rereads = λ s2 us front ready are. (s2, group_again None h n s2 us are, front, refl) }
reprinted_group inside n (Some w) h s = record { ready = (tt, (tt, (tt, tt))); counted = refl; spellable = (tt, (tt, (tt, tt))); rereads = λ s2 us front ready are. (s2, group_again (Some w) h n s2 us are, front, refl) }

-- the marks of a declaration, where these words stand for its types
abbrev declared_with : Word → Option Word → Entity → List Mark
declared_with w o (Declared d) = marks.Word words.Declare ∷ marks.Word w ∷ marks.Symbol d.name ∷ in_round (one_or_none o)
declared_with w o (TargetLine x said) = []
declared_with w o (DefinedType d) = []
declared_with w o (Variable g) = []
declared_with w o (Definition f) = []

abbrev no_word : Bool → Bool
no_word b = false

declared_is : (w : Word) (o : Option Word) (f : SymId) → declared_with w o (Declared (record { place = no_place; name = f })) ≡ (((marks.Word words.Declare ∷ []) ++ marks.Word w ∷ []) ++ marks.Symbol f ∷ []) ++ in_round (one_or_none o)
declared_is w o f = refl

prints_declaration : (n : Tables) (noinline : List (List ℕ)) (w : Word) (o : Option Word) → IsOrdinary o → IndexedTables n → PrintsAs false n (image_of noinline) declaration printed_declaration [] (declared_with w o)
unfolding declaration
prints_declaration n noinline w o h i =
    as_then (λ (x : Unit {0}). skip before_name (expect before_name) >>= λ s. global >>= λ f. group 40 41 >>= λ g. ret (Declared (record { place = no_place; name = f })))
    (as_located (as_it_is (prints_expect declare_word (marks.Word words.Declare) (tokens.Word (codes "declare")) refl tt refl refl))) (λ (x : Place × Unit {0}).
    as_next (prints_quiet {all = λ e. marks.Word w ∷ []} (skip before_name (expect before_name)) (quiet_skip before_name (quiet_token _)) (λ s u a t r sound. reprinted_before_name false n w s)) (λ (s : Unit {0}).
    as_next (prints_global i) (λ (f : SymId).
    as_then {first = no_word} {own = λ b. in_round (one_or_none o)} (λ (g : Bool). ret (Declared (record { place = no_place; name = f }))) (as_quiet {image = no_word} (group 40 41) (quiet_group 40 41) (λ s u a t r sound. reprinted_group false n o h s)) (λ (g : Bool).
    as_done refl (declared_is w o f)))))

-- the words of a declared function's types are ordinary ones
abbrev types_by : Bool → Bool → Bool → Word × Option Word
types_by a b c = if a then (words.Int W32, Some (words.Int W32)) else (if b then (words.Int W32, None) else (if c then (words.Void, Some (words.Int W32)) else (words.Void, None)))

ordinary_by : (a b c : Bool) → IsOrdinary (types_by a b c).1
ordinary_by true b c = refl
ordinary_by false true c = tt
ordinary_by false false true = refl
ordinary_by false false false = tt

ordinary : (name : List ℕ) → IsOrdinary (signature name).1
ordinary name = ordinary_by (bytes_eq name (codes "putchar")) (bytes_eq name (codes "getchar")) (bytes_eq name (codes "exit"))

pub read_declaration : (n : Tables) (l : Limits) (noinline : List (List ℕ)) → IsIndexed n.symbols → IsIndexed n.types → (s : Names) (u : List Piece) (x : read_entities.Entity) (t : Names) → declaration.reads s u x t → IsReadEntity n l noinline s u x t
unfolding declaration
read_declaration n l noinline i j s u x t r =
    let name = name_at n.symbols r.6.6.0.0 in
    read_flat n l noinline declaration printed_declaration (declared_with (signature name).0 (signature name).1)
    (prints_declaration (tables n.symbols n.types []) noinline (signature name).0 (signature name).1 (ordinary name) (i, j, none_indexed)) (λ s2 v e t2 q. inr (inr (inr (inr q)))) s u x t r
    (ends (IsFlat noinline) r.6.6.6.6.1 (refl, refl))
    (ends (λ (y : read_entities.Entity) (z : Names). declared_with (signature name).0 (signature name).1 (image_of noinline y) ≡ entity_marks n.symbols (image_of noinline y)) r.6.6.6.6.1 refl)
