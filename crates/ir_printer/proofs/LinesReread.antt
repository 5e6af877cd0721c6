-- What printed lines are read as, lines are: with a place each, and the same without them.
use Rattle.std.proofs.Common.{◌≡◌, inl, inr, refl, sym, ap, ◌∙◌, subst, ℕ, zero, suc, Bool, true, false, List, [], ◌∷◌, ◌++◌, length, map}
use Rattle.std.specs.Prelude.{Option, Some, None}
use Rattle.std.proofs.lemmas.List.{append-nil}
use Rattle.ir_lexer.specs.declared.table.Token.{Token}
use Rattle.ir_core.specs.declared.ty.IrType.{Void}
use Rattle.ir_core.specs.declared.op.LocalId.{LocalId}
use Rattle.ir_core.specs.declared.op.Op.{Op}
use Rattle.ir_core.specs.declared.func.Instr.{Instr}
use Rattle.ir_core.specs.Places.{unplaced_instr}
use Rattle.ir_grammar.specs.declared.kinds.Barred.TheVariants as barred
use Rattle.ir_grammar.specs.declared.kinds.Kind.TheVariants as kinds
use Rattle.ir_grammar.specs.Pieces.{Piece}
use Rattle.ir_grammar.specs.Names.{Names}
use Rattle.ir_grammar.specs.Forms.{Form, ret, Takes, choose, place_of, Rounds}
use Rattle.ir_grammar.specs.Tokens.{Limits, text_of, text}
use Rattle.ir_grammar.specs.Attributes.{no_marks}
use Rattle.ir_grammar.specs.Operations.{call_head, is_lifetime, callee_if, callee_of, callee, called, lifetime, unnamed_call, other_line, line, instr}
use Rattle.ir_grammar.specs.Bodies.{one_more_instr, code}
use Rattle.ir_printer.proofs.QuietForms.{silent_attribute_list}
use Rattle.ir_printer.proofs.CallsReprinted.{callee_is, silent_call_end}
use Rattle.ir_printer.proofs.VoidTypes.{word_is_void}
use Rattle.ir_printer.proofs.LinesReprinted.{next_printed, unplaced_more}
use Rattle.ir_printer.proofs.PrintedForms.{printed_call, printed_line, RereadsCode}

-- ---- the callee

not_lifetime : (b : Bool) (name : List ℕ) → callee_if b name ≡ Takes name → b ≡ false
not_lifetime true name h = absurd cc
not_lifetime false name h = refl

-- a callee's name is a name after `@`, and no name of a function for lifetimes
callee_name : (x : Token) (name : List ℕ) → callee_of x ≡ Takes name → (text_of kinds.Global x ≡ Takes name) × (is_lifetime name ≡ false)
callee_name x name h =
    let same = callee_is x name h in
    (ap (text_of kinds.Global) same, not_lifetime (is_lifetime name) name (ap callee_of (sym same) ∙ h))

-- ---- lines

-- the choice of what is no call for lifetimes
chosen : {A : Type 0} (b : Bool) (f g : Form A) (s : Names) (u : List Piece) (a : A) (t : Names) → b ≡ false → g.reads s u a t → (choose b f g).reads s u a t
chosen true f g s u a t e r = absurd cc
chosen false f g s u a t e r = r

rereads_call : (l : Limits) (s : Names) (u : List Piece) (x : Option LocalId × Op) (t : Names) → (printed_call l).reads s u x t → (unnamed_call l).reads s u (Some x) t
unfolding unnamed_call call_head callee called
rereads_call l s u x t r =
    let a = r.6 in let b = a.6 in let c = b.6 in let g = b.5 in
    let name = callee_name g.5.0.token g.0 g.5.2 in
    let symbol_first = b.4 ∙ ap (λ (v : List Piece). v ++ b.3) (g.4 ∙ ap (λ (v : List Piece). g.2 ++ v) g.6.0 ∙ append-nil g.2) in
    let named = subst (λ (y : Names). (text kinds.Global).reads a.1 g.2 g.0 y) g.5.3 (g.5.0, g.5.1, name.0, refl) in (
      tt,
      r.1,
      r.2,
      r.3,
      r.4,
      (tt, r.1, r.2, [], sym (append-nil r.2), inr r.5, (no_marks, r.1, [], [], refl, silent_attribute_list barred.Values no_marks r.1, (refl, refl))),
      (
        length r.1.types,
        r.1,
        [],
        r.3,
        refl,
        (refl, refl),
        (
          Void,
          a.1,
          a.2,
          a.3,
          a.4,
          word_is_void l r.1 a.2 a.1 a.5,
          (
            g.0,
            g.1,
            g.2,
            b.3,
            symbol_first,
            named,
            (
              Some x,
              t,
              b.3,
              [],
              sym (append-nil b.3),
              chosen (is_lifetime g.0) (lifetime (length r.1.types)) (called l Void g.0) g.1 b.3 (Some x) t name.1
                  (b.0, b.1, [], b.3, refl, (refl, g.6.1), (None, b.1, [], b.3, refl, (refl, refl), (c.0, c.1, c.2, c.3, c.4, c.5, (c.6.0, ap (λ (y : (Option LocalId × Op) × Names). (Some y.0, y.1)) c.6.1)))),
              (tt, t, [], [], refl, silent_call_end t, (refl, refl)),
            ),
          ),
        ),
      ),
    )

pub rereads_line : (l : Limits) (s : Names) (u : List Piece) (x : Option LocalId × Op) (t : Names) → (printed_line l).reads s u x t → (line l).reads s u (Some x) t
unfolding line other_line
rereads_line l s u x t (inl r) =
    let a = r.6 in let b = a.6 in let c = b.6 in
    inl (r.0, r.1, r.2, r.3, r.4, r.5, (a.0, a.1, a.2, a.3, a.4, a.5, (b.0, b.1, b.2, b.3, b.4, b.5, (c.0, c.1, c.2, c.3, c.4, c.5, (c.6.0, ap (λ (y : (Option LocalId × Op) × Names). (Some y.0, y.1)) c.6.1)))))
rereads_line l s u x t (inr (inl r)) = inr (inr (inr (inl (r.0, r.1, r.2, r.3, r.4, r.5, (r.6.0, ap (λ (y : (Option LocalId × Op) × Names). (Some y.0, y.1)) r.6.1)))))
rereads_line l s u x t (inr (inr r)) = inr (inr (inl (rereads_call l s u x t r)))

-- ---- code

-- a line at its place
abbrev placed_line : List Piece → Option LocalId × Op → Instr
placed_line u x = record { place = place_of u; result = x.0; op = x.1 }

-- one line is read with the place of its first token
rereads_instr : (l : Limits) (is : List Instr) (s : Names) (u : List Piece) (x : Option LocalId × Op) (t : Names) → (printed_line l).reads s u x t → (one_more_instr l is).reads s u (is ++ placed_line u x ∷ []) t
unfolding instr
rereads_instr l is s u x t r = (Some (placed_line u x), t, u, [], sym (append-nil u), ((place_of u, Some x), t, u, [], sym (append-nil u), (refl, rereads_line l s u x t r), (refl, refl)), (refl, refl))

rounds_again : (l : Limits) (m : ℕ) (is : List Instr) (s : Names) (u : List Piece) (js : List Instr) (t : Names) → Rounds (next_printed l) (λ (xs : List Instr). ret xs) m (map unplaced_instr is) s u js t →
    (more : List Instr) × Rounds (one_more_instr l) (λ (xs : List Instr). ret xs) m is s u more t × (map unplaced_instr more ≡ js)
rounds_again l zero is s u js t r = (is, (r.0, ap (λ (y : List Instr × Names). (is, y.1)) r.1), ap (λ (y : List Instr × Names). y.0) r.1)
rounds_again l (suc m) is s u js t r =
    let a = r.5 in
    let pieces : r.2 ≡ a.2 = a.4 ∙ ap (λ (v : List Piece). a.2 ++ v) a.6.0 ∙ append-nil a.2 in
    let names : a.1 ≡ r.1 = ap (λ (y : List Instr × Names). y.1) a.6.1 in
    let next = is ++ placed_line a.2 a.0 ∷ [] in
    let state : r.0 ≡ map unplaced_instr next = ap (λ (y : List Instr × Names). y.0) (sym a.6.1) ∙ sym (unplaced_more is (placed_line a.2 a.0)) in
    let h = rounds_again l m next r.1 r.3 js t (subst (λ (xs : List Instr). Rounds (next_printed l) (λ (ys : List Instr). ret ys) m xs r.1 r.3 js t) state r.6) in
    let one = subst (λ (y : Names). (one_more_instr l is).reads s a.2 next y) names (rereads_instr l is s a.2 a.0 a.1 a.5) in
    (h.0, (next, r.1, a.2, r.3, r.4 ∙ ap (λ (v : List Piece). v ++ r.3) pieces, one, h.1), h.2)

pub rereads_code : (l : Limits) → RereadsCode l
unfolding code
rereads_code l is s u js t r = let h = rounds_again l r.0 is s u js t r.1 in (h.0, (r.0, h.1), h.2)
