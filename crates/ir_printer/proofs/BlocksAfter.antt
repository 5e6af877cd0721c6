-- After a bare `ret void` stands its value, or a block.
use Rattle.std.proofs.Common.{◌≡◌, ◌⊎◌, inl, inr, refl, sym, ap, ◌∙◌, subst, ℕ, zero, suc, List, [], ◌∷◌, ◌++◌}
use Rattle.std.specs.Prelude.{Some}
use Rattle.std.proofs.lemmas.List.{append_assoc, append-nil}
use Rattle.oi_base.specs.declared.ids.Place.{Place}
use Rattle.ir_lexer.specs.declared.table.Spot.{Spot}
use Rattle.ir_core.specs.declared.constant.Const.{Const}
use Rattle.ir_core.specs.declared.op.LocalId.{LocalId}
use Rattle.ir_core.specs.declared.op.Operand.TheVariants as operands
use Rattle.ir_core.specs.declared.op.Op.{Op}
use Rattle.ir_core.specs.declared.func.Block.{Block}
use Rattle.ir_grammar.specs.declared.kinds.Kind.TheVariants as kinds
use Rattle.ir_grammar.specs.declared.parts.Lines.{Lines}
use Rattle.ir_grammar.specs.declared.parts.Progress.{Progress}
use Rattle.ir_grammar.specs.Pieces.{Piece, Is}
use Rattle.ir_grammar.specs.Names.{Names, define_next}
use Rattle.ir_grammar.specs.Sets.{Set}
use Rattle.ir_grammar.specs.Forms.{Form, Takes, ret, ◌>>=◌, Rounds, place_of}
use Rattle.ir_grammar.specs.Tokens.{Limits, expect, text_of}
use Rattle.ir_grammar.specs.Values.{gep_word, gep_flag, gep_flags, gep, constant, const_at, local_value, value}
use Rattle.ir_grammar.specs.Attributes.{notes}
use Rattle.ir_grammar.specs.Operations.{gep_op, Line, line, instr_at, instr}
use Rattle.ir_grammar.specs.Bodies.{with_instr, code, finish, lines, labelled, unlabelled, block_of, grown, block, settled, begun, local_begins, local_settles, local_after, gep_settles, gep_begins, gep_after, plain_value, value_after, other_lines, other_unlabelled, other_block, after_void}
use Rattle.ir_printer.proofs.QuietForms.{quiet_gep_flags}

-- what a form reads before a value is made of it
pub mapped : {A B : Type 0} (f : Form A) (h : A → B) (s : Names) (u : List Piece) (b : B) (t : Names) → (f >>= λ a. ret (h a)).reads s u b t → (a : A) × f.reads s u a t × (h a ≡ b)
mapped {A = A} {B = B} f h s u b t r =
    let whole : u ≡ r.2 = r.4 ∙ ap (λ (v : List Piece). r.2 ++ v) r.6.0 ∙ append-nil r.2 in (
      r.0,
      subst (λ (v : List Piece). f.reads s v r.0 t) (sym whole) (subst (λ (x : Names). f.reads s r.2 r.0 x) (ap (λ (x : B × Names). x.1) r.6.1) r.5),
      ap (λ (x : B × Names). x.0) r.6.1,
    )

-- and back
pub mapping : {A B : Type 0} (f : Form A) (h : A → B) (s : Names) (u : List Piece) (a : A) (t : Names) → f.reads s u a t → (f >>= λ x. ret (h x)).reads s u (h a) t
mapping f h s u a t r = (a, t, u, [], sym (append-nil u), r, (refl, refl))

-- ---- a first instruction

-- a line begins the lines of a block
pub one_line : (l : Limits) (b : LocalId) (s : Names) (v : List Piece) (x : Line) (s1 : Names) (w : List Piece) (y : Lines) (t : Names) → (line l).reads s v x s1 → (lines l b (with_instr [] (instr_at (place_of v) x))).reads s1 w y t → (lines l b []).reads s (v ++ w) y t
unfolding lines code instr
one_line l b s v x s1 w y t h r =
    let one : (instr l).reads s v (instr_at (place_of v) x) s1 = ((place_of v, x), s1, v, [], sym (append-nil v), (refl, h), (refl, refl)) in
    let i = instr_at (place_of v) x in (
      r.0,
      r.1,
      v ++ r.2,
      r.3,
      ap (λ (p : List Piece). v ++ p) r.4 ∙ sym (append_assoc v r.2 r.3),
      (suc r.5.0, (with_instr [] i, s1, v, r.2, refl, (i, s1, v, [], sym (append-nil v), one, (refl, refl)), r.5.1)),
      r.6,
    )

-- lines without a label are a block
lines_are : (l : Limits) (bs : List Block) (s : Names) (u : List Piece) (b : LocalId) (s1 : Names) (y : Lines) (t : Names) → define_next s ≡ (b, s1) → (lines l b []).reads s1 u y t → (block l bs).reads s u (grown bs y.bare (block_of (place_of u) y)) t
unfolding block unlabelled
lines_are l bs s u b s1 y t e r = ((place_of u, y), t, u, [], sym (append-nil u), (refl, inr (b, s1, [], u, refl, (refl, e), r)), (refl, refl))

-- a block that a first instruction begins
begun_is : (l : Limits) (bs : List Block) (p : Place) (b r : LocalId) (o : Op) (s s1 s2 : Names) (v w : List Piece) (q : Progress) (t : Names) → define_next s ≡ (b, s1) → p ≡ place_of v → place_of v ≡ place_of (v ++ w) →
    (line l).reads s1 v (Some (Some r, o)) s2 → (begun l bs p (b, (r, o))).reads s2 w q t → (block l bs).reads s (v ++ w) q t
begun_is l bs p b r o s s1 s2 v w q t e f g h k =
    let m = mapped (lines l b (record { place = p; result = Some r; op = o } ∷ [])) (λ (y : Lines). grown bs y.bare (block_of p y)) s2 w q t k in
    let first = subst (λ (a : Place). (lines l b (record { place = a; result = Some r; op = o } ∷ [])).reads s2 w m.0 t) f m.1 in
    let whole = lines_are l bs s (v ++ w) b s1 m.0 t e (one_line l b s1 v (Some (Some r, o)) s2 w m.0 t h first) in
    subst (λ (x : Progress). (block l bs).reads s (v ++ w) x t) (ap (λ (a : Place). grown bs m.0.bare (block_of a m.0)) (sym g ∙ sym f) ∙ m.2) whole

-- ---- LOCAL

-- a value of the block before, and notes
abbrev pub noted_value : Limits → List Block → Block → Form Progress
noted_value l bs b = value l >>= λ v. notes >>= λ e. ret (settled bs b v)

abbrev After : Limits → List Block → Block → Names → List Piece → Progress → Names → Type 0
After l bs b s u q t = (block l (bs ++ b ∷ [])).reads s u q t ⊎ (noted_value l bs b).reads s u q t

-- a first piece is that of the whole
first_place : (u v w : List Piece) (x : Piece) → u ≡ v ++ w → v ≡ x ∷ [] → place_of v ≡ place_of u
first_place u v w x e f = ap place_of f ∙ ap (λ (p : List Piece). place_of (p ++ w)) (sym f) ∙ ap place_of (sym e)

-- nothing before the rest
past_nothing : (u v w : List Piece) → u ≡ v ++ w → v ≡ [] → u ≡ w
past_nothing u v w e f = e ∙ ap (λ (p : List Piece). p ++ w) f

local_begun : (l : Limits) (bs : List Block) (p : Place) (name : List ℕ) (s : Names) (x : Spot) (v w : List Piece) (q : Progress) (t : Names) → p ≡ place_of v → (v ≡ Is x ∷ []) → text_of kinds.Local x.token ≡ Takes name → (local_begins l bs p name).reads s w q t → (block l bs).reads s (v ++ w) q t
unfolding line
local_begun l bs p name s x v w q t e f g r =
    let a = r.6 in
    let c = a.6 in
    let d = c.6 in
    let one = v ++ (r.2 ++ d.2) in
    let rest : r.3 ≡ d.2 ++ d.3 = past_nothing r.3 a.2 a.3 a.4 a.5.0 ∙ past_nothing a.3 c.2 c.3 c.4 c.5.0 ∙ d.4 in
    let parts : one ++ d.3 ≡ v ++ w = append_assoc v (r.2 ++ d.2) d.3 ∙ ap (λ (z : List Piece). v ++ z) (append_assoc r.2 d.2 d.3 ∙ ap (λ (z : List Piece). r.2 ++ z) (sym rest) ∙ sym r.4) in
    let next : define_next s ≡ (a.0, a.1) = subst (λ (z : Names). define_next z ≡ (a.0, a.1)) (sym r.5.3) a.5.1 in
    let named : (line l).reads a.1 one (Some (Some c.0, d.0)) d.1 = inl (name, a.1, v, r.2 ++ d.2, refl, (x, f, g, refl), (c.0, c.1, [], r.2 ++ d.2, refl, (refl, c.5.1), (r.0, c.1, r.2, d.2, refl, (r.5.0, r.5.1, r.5.2, refl), (d.0, d.1, d.2, [], sym (append-nil d.2), d.5, (refl, refl))))) in
    let here : place_of v ≡ place_of one = first_place one v (r.2 ++ d.2) (Is x) refl f in
    let there : place_of v ≡ place_of (one ++ d.3) = first_place (one ++ d.3) v w (Is x) parts f in
    subst (λ (z : List Piece). (block l bs).reads s z q t) parts (begun_is l bs p a.0 c.0 d.0 s a.1 d.1 one d.3 q t next (e ∙ here) (sym here ∙ there) named d.6)

local_settled : (l : Limits) (bs : List Block) (b : Block) (name : List ℕ) (s : Names) (x : Spot) (v w : List Piece) (q : Progress) (t : Names) → v ≡ Is x ∷ [] → text_of kinds.Local x.token ≡ Takes name → (local_settles bs b name).reads s w q t → (noted_value l bs b).reads s (v ++ w) q t
unfolding value local_value
local_settled l bs b name s x v w q t f g r =
    (operands.Local r.0, r.1, v, r.3, ap (λ (z : List Piece). v ++ z) (past_nothing w r.2 r.3 r.4 r.5.0), inl (name, s, v, [], sym (append-nil v), (x, f, g, refl), (refl, ap (λ (y : LocalId × Names). (operands.Local y.0, y.1)) r.5.1)), r.6)

local_is : (l : Limits) (bs : List Block) (b : Block) (s : Names) (u : List Piece) (q : Progress) (t : Names) → (local_after l bs b).reads s u q t → After l bs b s u q t
unfolding local_after
local_is l bs b s u q t r = at r.1 r.5.1.3 r.6
  where
    at : (z : Names) → s ≡ z → ((local_begins l (bs ++ b ∷ []) r.0.0 r.0.1).reads z r.3 q t ⊎ (local_settles bs b r.0.1).reads z r.3 q t) → After l bs b s u q t
    at z e (inl k) =
        let begins = local_begun l (bs ++ b ∷ []) r.0.0 r.0.1 z r.5.1.0 r.2 r.3 q t r.5.0 r.5.1.1 r.5.1.2 k in
        inl (subst (λ (y : Names). (block l (bs ++ b ∷ [])).reads y u q t) (sym e) (subst (λ (p : List Piece). (block l (bs ++ b ∷ [])).reads z p q t) (sym r.4) begins))
    at z e (inr k) =
        let settles = local_settled l bs b r.0.1 z r.5.1.0 r.2 r.3 q t r.5.1.1 r.5.1.2 k in
        inr (subst (λ (y : Names). (noted_value l bs b).reads y u q t) (sym e) (subst (λ (p : List Piece). (noted_value l bs b).reads z p q t) (sym r.4) settles))

-- ---- `getelementptr`

flags_in : (z : Set) (k : ℕ) (x : Unit {0}) (s : Names) (u : List Piece) (y : Unit {0}) (t s2 : Names) → Rounds (λ (x : Unit {0}). expect z) (λ (x : Unit {0}). ret {A = Unit {0}} tt) k x s u y t → Rounds (λ (x : Unit {0}). expect z) (λ (x : Unit {0}). ret {A = Unit {0}} tt) k x s2 u y s2
flags_in z zero x s u y t s2 r = (r.0, refl)
flags_in z (suc k) x s u y t s2 r = (r.0, s2, r.2, r.3, r.4, (r.5.0, r.5.1, r.5.2, refl), flags_in z k r.0 r.1 r.3 y t s2 r.6)

-- flags are read from any names
flags_from : (s : Names) (u : List Piece) (y : Unit {0}) (t s2 : Names) → gep_flags.reads s u y t → gep_flags.reads s2 u y s2
unfolding gep_flags
flags_from s u y t s2 r = (r.0, flags_in gep_flag r.0 tt s u y t s2 r.1)

gep_begun : (l : Limits) (bs : List Block) (p : Place) (s s1 s2 : Names) (x : Spot) (v f w : List Piece) (y : Unit {0}) (q : Progress) (t : Names) → p ≡ place_of v → v ≡ Is x ∷ [] → (expect gep_word).reads s v tt s1 → gep_flags.reads s1 f y s2 → (gep_begins l bs p).reads s2 w q t → (block l bs).reads s (v ++ (f ++ w)) q t
unfolding line gep_op
gep_begun l bs p s s1 s2 x v f w y q t e one_token word flags a =
    let c = a.6 in
    let d = c.6 in
    let one = v ++ (f ++ d.2) in
    let rest : w ≡ d.2 ++ d.3 = past_nothing w a.2 a.3 a.4 a.5.0 ∙ past_nothing a.3 c.2 c.3 c.4 c.5.0 ∙ d.4 in
    let parts : one ++ d.3 ≡ v ++ (f ++ w) = append_assoc v (f ++ d.2) d.3 ∙ ap (λ (z : List Piece). v ++ z) (append_assoc f d.2 d.3 ∙ ap (λ (z : List Piece). f ++ z) (sym rest)) in
    let same : s ≡ s2 = word.3 ∙ quiet_gep_flags.same s1 f y s2 flags in
    let next : define_next s ≡ (a.0, a.1) = subst (λ (z : Names). define_next z ≡ (a.0, a.1)) (sym same) a.5.1 in
    let operation : (gep_op l).reads c.1 one d.0 d.1 = (tt, c.1, v, f ++ d.2, refl, (word.0, word.1, word.2, refl), (y, c.1, f, d.2, refl, flags_from s1 f y s2 c.1 flags, d.5)) in
    let named : (line l).reads a.1 one (Some (Some c.0, d.0)) d.1 = inr (inl (c.0, c.1, [], one, refl, (refl, c.5.1), (d.0, d.1, one, [], sym (append-nil one), operation, (refl, refl)))) in
    let here : place_of v ≡ place_of one = first_place one v (f ++ d.2) (Is x) refl one_token in
    let there : place_of v ≡ place_of (one ++ d.3) = first_place (one ++ d.3) v (f ++ w) (Is x) parts one_token in
    subst (λ (z : List Piece). (block l bs).reads s z q t) parts (begun_is l bs p a.0 c.0 d.0 s a.1 d.1 one d.3 q t next (e ∙ here) (sym here ∙ there) named d.6)

gep_settled : (l : Limits) (bs : List Block) (b : Block) (s s1 s2 : Names) (v f w : List Piece) (y : Unit {0}) (q : Progress) (t : Names) → (expect gep_word).reads s v tt s1 → gep_flags.reads s1 f y s2 → (gep_settles l bs b).reads s2 w q t → (noted_value l bs b).reads s (v ++ (f ++ w)) q t
unfolding value constant const_at gep
gep_settled l bs b s s1 s2 v f w y q t word flags r =
    let one = v ++ (f ++ r.2) in
    let parts : v ++ (f ++ w) ≡ one ++ r.3 = ap (λ (z : List Piece). v ++ z) (ap (λ (z : List Piece). f ++ z) r.4 ∙ sym (append_assoc f r.2 r.3)) ∙ sym (append_assoc v (f ++ r.2) r.3) in
    let read : (gep l.length l.levels).reads s one r.0 r.1 = (tt, s1, v, f ++ r.2, refl, word, (y, s2, f, r.2, refl, flags, r.5)) in
    (operands.Const r.0, r.1, one, r.3, parts, inr (r.0, r.1, one, [], sym (append-nil one), inr (inl read), (refl, refl)), r.6)

gep_is : (l : Limits) (bs : List Block) (b : Block) (s : Names) (u : List Piece) (q : Progress) (t : Names) → (gep_after l bs b).reads s u q t → After l bs b s u q t
unfolding gep_after
gep_is l bs b s u q t r = at r.6.6
  where
    parts : r.2 ++ (r.6.2 ++ r.6.3) ≡ u
    parts = ap (λ (z : List Piece). r.2 ++ z) (sym r.6.4) ∙ sym r.4

    at : ((gep_settles l bs b).reads r.6.1 r.6.3 q t ⊎ (gep_begins l (bs ++ b ∷ []) r.0.0).reads r.6.1 r.6.3 q t) → After l bs b s u q t
    at (inl k) = inr (subst (λ (z : List Piece). (noted_value l bs b).reads s z q t) parts (gep_settled l bs b s r.1 r.6.1 r.2 r.6.2 r.6.3 r.6.0 q t r.5.1 r.6.5 k))
    at (inr k) = inl (subst (λ (z : List Piece). (block l (bs ++ b ∷ [])).reads s z q t) parts (gep_begun l (bs ++ b ∷ []) r.0.0 s r.1 r.6.1 r.5.1.0 r.2 r.6.2 r.6.3 r.6.0 q t r.5.0 r.5.1.1 r.5.1 r.6.5 k))

-- ---- another value, or a block of its own

plain_is : (l : Limits) (s : Names) (u : List Piece) (c : Const) (t : Names) → plain_value.reads s u c t → (constant l).reads s u c t
unfolding constant const_at
plain_is l s u c t (inl r) = inl r
plain_is l s u c t (inr (inl r)) = inr (inr (inl r))
plain_is l s u c t (inr (inr r)) = inr (inr (inr r))

value_is : (l : Limits) (bs : List Block) (b : Block) (s : Names) (u : List Piece) (q : Progress) (t : Names) → (value_after bs b).reads s u q t → (noted_value l bs b).reads s u q t
unfolding value value_after
value_is l bs b s u q t r = (operands.Const r.0, r.1, r.2, r.3, r.4, inr (r.0, r.1, r.2, [], sym (append-nil r.2), plain_is l s r.2 r.0 r.1 r.5, (refl, refl)), r.6)

-- a block may have no line
no_lines : (l : Limits) (b : LocalId) (s : Names) (u : List Piece) (y : Lines) (t : Names) → (finish l b []).reads s u y t → (lines l b []).reads s u y t
unfolding lines code
no_lines l b s u y t r = ([], s, [], u, refl, (zero, (refl, refl)), r)

other_lines_are : (l : Limits) (b : LocalId) (s : Names) (u : List Piece) (y : Lines) (t : Names) → (other_lines l b).reads s u y t → (lines l b []).reads s u y t
unfolding other_lines line
other_lines_are l b s u y t (inl r) =
    subst (λ (z : List Piece). (lines l b []).reads s z y t) (sym r.4)
    (one_line l b s r.2 r.0.1 r.1 r.3 y t (inr (inr r.5.1)) (subst (λ (p : Place). (lines l b (with_instr [] (instr_at p r.0.1))).reads r.1 r.3 y t) r.5.0 r.6))
other_lines_are l b s u y t (inr r) = no_lines l b s u y t r

other_is : (l : Limits) (bs : List Block) (s : Names) (u : List Piece) (q : Progress) (t : Names) → (other_block l bs).reads s u q t → (block l bs).reads s u q t
unfolding other_block block other_unlabelled unlabelled
other_is l bs s u q t r = (r.0, r.1, r.2, r.3, r.4, (r.5.0, at r.5.1), r.6)
  where
    at : ((labelled l).reads s r.2 r.0.1 r.1 ⊎ (other_unlabelled l).reads s r.2 r.0.1 r.1) → (labelled l).reads s r.2 r.0.1 r.1 ⊎ (unlabelled l).reads s r.2 r.0.1 r.1
    at (inl k) = inl k
    at (inr k) = inr (k.0, k.1, k.2, k.3, k.4, k.5, other_lines_are l k.0 k.1 k.3 r.0.1 r.1 k.6)

pub after_is : (l : Limits) (bs : List Block) (b : Block) (s : Names) (u : List Piece) (q : Progress) (t : Names) → (after_void l bs b).reads s u q t → (block l (bs ++ b ∷ [])).reads s u q t ⊎ (noted_value l bs b).reads s u q t
unfolding after_void
after_is l bs b s u q t (inl r) = local_is l bs b s u q t r
after_is l bs b s u q t (inr (inl r)) = gep_is l bs b s u q t r
after_is l bs b s u q t (inr (inr (inl r))) = inr (value_is l bs b s u q t r)
after_is l bs b s u q t (inr (inr (inr r))) = inl (other_is l (bs ++ b ∷ []) s u q t r)
