-- A call without a name is skipped, or it is one of `void`, or it is read with its result before it.
use Rattle.std.proofs.Common.{◌≡◌, ◌⊎◌, inl, inr, refl, sym, ap, ◌∙◌, subst, ℕ, Bool, true, false, List, [], ◌++◌, length}
use Rattle.std.specs.Prelude.{Option, Some, None, decimal}
use Rattle.std.proofs.lemmas.List.{append-nil}
use Rattle.ir_core.specs.declared.ty.IrType.{IrType, Void}
use Rattle.ir_core.specs.declared.module.SymId.{SymId}
use Rattle.ir_core.specs.declared.op.LocalId.{LocalId}
use Rattle.ir_core.specs.declared.op.TypedOperand.{TypedOperand}
use Rattle.ir_core.specs.declared.op.Op.{Op}
use Rattle.ir_core.specs.declared.op.Op.TheVariants as ops
use Rattle.ir_grammar.specs.declared.kinds.Kind.TheVariants as kinds
use Rattle.ir_grammar.specs.declared.kinds.Barred.TheVariants as barred
use Rattle.ir_grammar.specs.declared.parts.Marks.{Marks}
use Rattle.ir_grammar.specs.Pieces.{Piece}
use Rattle.ir_grammar.specs.Names.{Names, numbered, symbol, local, next_after, define, define_next}
use Rattle.ir_grammar.specs.Forms.{Form, act, ret, token, ◌>>=◌, choose}
use Rattle.ir_grammar.specs.Tokens.{Limits, expect, text}
use Rattle.ir_grammar.specs.Types.{type_form}
use Rattle.ir_grammar.specs.Attributes.{no_marks}
use Rattle.ir_grammar.specs.Operations.{tail_word, call_head, call_end, is_lifetime, callee_if, callee_of, callee, arguments, named_call, op, Line, result_of, called, keep_types, types_so_far, lifetime, unnamed_call}
use Rattle.ir_grammar.specs.Bodies.{void_word}
use Rattle.ir_printer.proofs.NamesReprinted.{global_is}
use Rattle.ir_printer.proofs.TokensReprinted.{Quiet}
use Rattle.ir_printer.proofs.QuietForms.{quiet_token, quiet_ret, quiet_then, quiet_either, quiet_group, quiet_attribute_list}
use Rattle.ir_printer.proofs.CallsReprinted.{quiet_call_end}
use Rattle.ir_printer.proofs.LocalFree.{with_locals, AddsTypes, free_type_form, free_call_head, types_kept}
use Rattle.ir_printer.proofs.VoidTypes.{IsValued, void_or_valued, reads_valued, void_is_word}

-- a call of `void`, with all that is not printed of it
abbrev pub void_call : Limits → Form (Option LocalId × Op)
void_call l = call_head >>= λ h. expect void_word >>= λ v. callee >>= λ f. arguments l >>= λ as'. call_end >>= λ e. ret (None, ops.Call Void f as')

-- an operation whose result has no name
abbrev pub next_line : Limits → Form (Option LocalId × Op)
next_line l = act define_next >>= λ r. op l >>= λ o. ret (Some r, o)

-- ---- the parts of a call

-- what was read of a call without a name that is not skipped, part by part
record IsCall (l : Limits) (s : Names) (u : List Piece) (ty : IrType) (f : SymId) (r : Option LocalId) (as' : List TypedOperand) (t : Names) : Type 0 where
  name : List ℕ
  headed : Names
  typed : Names
  named : Names
  given : Names
  argued : Names
  u1 : List Piece
  u2 : List Piece
  u3 : List Piece
  u4 : List Piece
  u5 : List Piece
  pieces : u ≡ u1 ++ (u2 ++ (u3 ++ (u4 ++ u5)))
  head : call_head.reads s u1 tt headed
  ty_read : (type_form l).reads headed u2 ty typed
  name_read : (token callee_of).reads typed u3 name typed
  symbol_is : symbol name typed ≡ (f, named)
  result_is : result_of ty named ≡ (r, given)
  args : (arguments l).reads given u4 as' argued
  end : call_end.reads argued u5 tt t

-- ---- a call of `void`

void_called : (l : Limits) (s : Names) (u : List Piece) (f : SymId) (r : Option LocalId) (as' : List TypedOperand) (t : Names) → IsCall l s u Void f r as' t → (void_call l).reads s u (r, ops.Call Void f as') t
unfolding callee
void_called l s u f r as' t c =
    let same : c.named ≡ c.given = ap (λ (x : Option LocalId × Names). x.1) c.result_is in
    let none : None ≡ r = ap (λ (x : Option LocalId × Names). x.0) c.result_is in (
      tt,
      c.headed,
      c.u1,
      c.u2 ++ (c.u3 ++ (c.u4 ++ c.u5)),
      c.pieces,
      c.head,
      (
        tt,
        c.typed,
        c.u2,
        c.u3 ++ (c.u4 ++ c.u5),
        refl,
        void_is_word l c.headed c.u2 c.typed c.ty_read,
        (
          f,
          c.named,
          c.u3,
          c.u4 ++ c.u5,
          refl,
          (c.name, c.typed, c.u3, [], sym (append-nil c.u3), c.name_read, (refl, c.symbol_is)),
          (
            as',
            c.argued,
            c.u4,
            c.u5,
            refl,
            subst (λ (x : Names). (arguments l).reads x c.u4 as' c.argued) (sym same) c.args,
            (tt, t, c.u5, [], sym (append-nil c.u5), c.end, (refl, ap (λ (x : Option LocalId). ((x, ops.Call Void f as'), t)) none)),
          ),
        ),
      ),
    )

-- ---- a call with a result

-- a name after `@` leaves the local names, and is read the same from others
symbol_locals : (name : List ℕ) (s : Names) (f : SymId) (t : Names) → symbol name s ≡ (f, t) → (t.locals ≡ s.locals) × (t.next ≡ s.next)
unfolding symbol
symbol_locals name s f t e = (ap (λ (x : SymId × Names). x.1.locals) (sym e), ap (λ (x : SymId × Names). x.1.next) (sym e))

symbol_moves : (name : List ℕ) (s : Names) (f : SymId) (t : Names) → symbol name s ≡ (f, t) → (locals : List (List ℕ)) (next : ℕ) → symbol name (with_locals locals next s) ≡ (f, with_locals locals next t)
unfolding symbol
symbol_moves name s f t e locals next = ap (λ (x : SymId × Names). (x.0, with_locals locals next x.1)) e

adds_locals : (s t : Names) → AddsTypes s t → (t.locals ≡ s.locals) × (t.next ≡ s.next)
adds_locals s t h = (ap (λ (x : Names). x.locals) h.1, ap (λ (x : Names). x.next) h.1)

-- what has no name takes the same number where the local names are the same
next_moves : (s t : Names) → t.locals ≡ s.locals → t.next ≡ s.next → define_next t ≡ ((define_next s).0, with_locals (define_next s).1.locals (define_next s).1.next t)
unfolding define_next define local
next_moves s t e g = ap (λ (xs : List (List ℕ)). numbers xs t.next) e ∙ ap (λ (j : ℕ). numbers s.locals j) g
  where
    numbers : List (List ℕ) → ℕ → LocalId × Names
    numbers xs j = (record { 0 = (numbered (decimal j) xs).0 }, record t { locals = (numbered (decimal j) xs).1; next = next_after (decimal j) j })

next_names : (s : Names) → (define_next s).1 ≡ with_locals (define_next s).1.locals (define_next s).1.next s
unfolding define_next define local
next_names s = refl

-- the result may come first: no part before it speaks of local names
valued_called : (l : Limits) (s : Names) (u : List Piece) (ty : IrType) (f : SymId) (r : Option LocalId) (as' : List TypedOperand) (t : Names) → IsValued ty → IsCall l s u ty f r as' t → (next_line l).reads s u (r, ops.Call ty f as') t
unfolding op named_call callee
valued_called l s u ty f r as' t v c =
    let locals = (define_next s).1.locals in
    let next = (define_next s).1.next in
    let one = adds_locals s c.headed (free_call_head.adds s c.u1 tt c.headed c.head) in
    let two = adds_locals c.headed c.typed ((free_type_form l).adds c.headed c.u2 ty c.typed c.ty_read) in
    let three = symbol_locals c.name c.typed f c.named c.symbol_is in
    let given = ap (λ (x : LocalId × Names). (Some x.0, x.1)) (sym (next_moves s c.named (three.0 ∙ two.0 ∙ one.0) (three.1 ∙ two.1 ∙ one.1))) ∙ sym (v.result c.named) ∙ c.result_is in
    let same : with_locals locals next c.named ≡ c.given = ap (λ (x : Option LocalId × Names). x.1) given in
    let result : Some (define_next s).0 ≡ r = ap (λ (x : Option LocalId × Names). x.0) given in (
      (define_next s).0,
      (define_next s).1,
      [],
      u,
      refl,
      (refl, refl),
      (
        ops.Call ty f as',
        t,
        u,
        [],
        sym (append-nil u),
        inl (
          tt,
          with_locals locals next c.headed,
          c.u1,
          c.u2 ++ (c.u3 ++ (c.u4 ++ c.u5)),
          c.pieces,
          subst (λ (x : Names). call_head.reads x c.u1 tt (with_locals locals next c.headed)) (sym (next_names s)) (free_call_head.moves s c.u1 tt c.headed c.head locals next),
          (
            ty,
            with_locals locals next c.typed,
            c.u2,
            c.u3 ++ (c.u4 ++ c.u5),
            refl,
            reads_valued l _ c.u2 ty _ v ((free_type_form l).moves c.headed c.u2 ty c.typed c.ty_read locals next),
            (
              f,
              with_locals locals next c.named,
              c.u3,
              c.u4 ++ c.u5,
              refl,
              (c.name, with_locals locals next c.typed, c.u3, [], sym (append-nil c.u3), (c.name_read.0, c.name_read.1, c.name_read.2, refl), (refl, symbol_moves c.name c.typed f c.named c.symbol_is locals next)),
              (
                as',
                c.argued,
                c.u4,
                c.u5,
                refl,
                subst (λ (x : Names). (arguments l).reads x c.u4 as' c.argued) (sym same) c.args,
                (tt, t, c.u5, [], sym (append-nil c.u5), c.end, (refl, refl)),
              ),
            ),
          ),
        ),
        (refl, ap (λ (x : Option LocalId). ((x, ops.Call ty f as'), t)) result),
      ),
    )

-- ---- all calls

-- what is said of a call without a name that was read
abbrev pub IsRead : Limits → Names → List Piece → Line → Names → Type 0
IsRead l s u x t = (y : Option LocalId × Op) × (x ≡ Some y) × ((void_call l).reads s u y t ⊎ (next_line l).reads s u y t)

-- by its type
one_read : (l : Limits) (s : Names) (u : List Piece) (ty : IrType) (f : SymId) (r : Option LocalId) (as' : List TypedOperand) (t : Names) → IsCall l s u ty f r as' t → (ty ≡ Void) ⊎ IsValued ty → (void_call l).reads s u (r, ops.Call ty f as') t ⊎ (next_line l).reads s u (r, ops.Call ty f as') t
one_read l s u ty f r as' t c (inl e) = inl (subst (λ (y : IrType). (void_call l).reads s u (r, ops.Call y f as') t) (sym e) (void_called l s u f r as' t (subst (λ (y : IrType). IsCall l s u y f r as' t) e c)))
one_read l s u ty f r as' t c (inr v) = inr (valued_called l s u ty f r as' t v c)

-- a skipped call takes back the type names
skipped : (m : ℕ) (s : Names) (u : List Piece) (x : Line) (t : Names) → (lifetime m).reads s u x t → (x ≡ None) × (t ≡ (keep_types m s).1)
unfolding lifetime
skipped m s u x t r = (
  ap (λ (y : Line × Names). y.0) (sym r.6.6.1),
  ap (λ (y : Line × Names). y.1) (sym r.6.6.1) ∙ ap (λ (y : Unit {0} × Names). y.1) (sym r.6.5.1) ∙ ap (λ (y : Names). (keep_types m y).1) (sym ((quiet_group 40 41).same s r.2 r.0 r.1 r.5)),
)

-- a name after `@` that is not skipped
callee_read : (s : Names) (u : List Piece) (name : List ℕ) (t : Names) → (text kinds.Global).reads s u name t → is_lifetime name ≡ false → (token callee_of).reads s u name s
callee_read s u name t r e = (r.0, r.1, ap callee_of (global_is r.0.token name r.2) ∙ ap (λ (b : Bool). callee_if b name) e, refl)

nothing_before : (u v w : List Piece) → u ≡ v ++ w → v ≡ [] → u ≡ w
nothing_before u v w e g = e ∙ ap (λ (x : List Piece). x ++ w) g

nothing_after : (u v w : List Piece) → u ≡ v ++ w → w ≡ [] → u ≡ v
nothing_after u v w e g = e ∙ ap (λ (x : List Piece). v ++ x) g ∙ append-nil v

quiet_call_head : Quiet call_head
unfolding call_head
quiet_call_head =
    quiet_then (quiet_either tail_word (quiet_then (quiet_token _) (λ (t : Unit {0}). quiet_token _)) (quiet_token _)) (λ (w : Unit {0}).
    quiet_then (quiet_attribute_list barred.Values no_marks) (λ (m : Marks). quiet_ret))

-- after a skipped call the names are those before it
names_kept : (s1 s2 s3 s4 : Names) (m : ℕ) → types_so_far s1 ≡ (m, s2) → AddsTypes s2 s3 → s3 ≡ s4 → (keep_types m s4).1 ≡ s1
names_kept s1 s2 s3 s4 m e h g =
    let same : s1 ≡ s2 = ap (λ (y : ℕ × Names). y.1) e in
    let count : m ≡ length s2.types = ap (λ (y : ℕ × Names). y.0) (sym e) ∙ ap (λ (y : Names). length y.types) same in
    ap (λ (y : Names). (keep_types m y).1) (sym g) ∙ ap (λ (j : ℕ). (keep_types j s3).1) count ∙ types_kept s2 s3 h ∙ sym same

pub reads_call : (l : Limits) (s : Names) (u : List Piece) (x : Line) (t : Names) → (unnamed_call l).reads s u x t → ((x ≡ None) × (s ≡ t)) ⊎ IsRead l s u x t
unfolding unnamed_call called
reads_call l s u x t h = at (is_lifetime h.6.6.6.0) refl h.6.6.6.6.5
  where
    at : (z : Bool) → is_lifetime h.6.6.6.0 ≡ z → (choose z (lifetime h.6.0) (called l h.6.6.0 h.6.6.6.0)).reads h.6.6.6.1 h.6.6.6.6.2 h.6.6.6.6.0 h.6.6.6.6.1 → ((x ≡ None) × (s ≡ t)) ⊎ IsRead l s u x t
    at true is r =
        let a = h.6 in let b = a.6 in let c = b.6 in let d = c.6 in let e = d.6 in
        let none = skipped a.0 c.1 d.2 d.0 d.1 r in
        let line : d.0 ≡ x = ap (λ (y : Line × Names). y.0) e.6.1 in
        let last : e.1 ≡ t = ap (λ (y : Line × Names). y.1) e.6.1 in
        let kept = names_kept h.1 a.1 b.1 c.1 a.0 a.5.1 ((free_type_form l).adds a.1 b.2 b.0 b.1 b.5) c.5.3 in
        inl (sym line ∙ none.0, quiet_call_head.same s h.2 h.0 h.1 h.5 ∙ sym kept ∙ sym none.1 ∙ quiet_call_end.same d.1 e.2 e.0 e.1 e.5 ∙ last)
    at false is r =
        let a = h.6 in let b = a.6 in let c = b.6 in let d = c.6 in let e = d.6 in
        let p = r.6 in let q = p.6 in
        let line : d.0 ≡ x = ap (λ (y : Line × Names). y.0) e.6.1 in
        let last : e.1 ≡ t = ap (λ (y : Line × Names). y.1) e.6.1 in
        let told : Some (p.0, ops.Call b.0 r.0 q.0) ≡ d.0 = ap (λ (y : Line × Names). y.0) q.6.1 in
        let argued : q.1 ≡ d.1 = ap (λ (y : Line × Names). y.1) q.6.1 in
        let headed : h.1 ≡ a.1 = ap (λ (y : ℕ × Names). y.1) a.5.1 in
        let given = nothing_after p.3 q.2 q.3 q.4 q.6.0 in
        let inner = nothing_before d.2 r.2 r.3 r.4 r.5.0 ∙ nothing_before r.3 p.2 p.3 p.4 p.5.0 ∙ given in
        let ended = nothing_after d.3 e.2 e.3 e.4 e.6.0 in
        let typed = nothing_before h.3 a.2 a.3 a.4 a.5.0 in
        let is_call : IsCall l s u b.0 r.0 p.0 q.0 t = record {
          name = c.0;
          headed = h.1;
          typed = b.1;
          named = r.1;
          given = p.1;
          argued = q.1;
          u1 = h.2;
          u2 = b.2;
          u3 = c.2;
          u4 = q.2;
          u5 = e.2;
          pieces = h.4 ∙ ap (λ (v : List Piece). h.2 ++ v) (typed ∙ b.4 ∙ ap (λ (v : List Piece). b.2 ++ v) (c.4 ∙ ap (λ (v : List Piece). c.2 ++ v) (d.4 ∙ ap (λ (v : List Piece). v ++ d.3) inner ∙ ap (λ (v : List Piece). q.2 ++ v) ended)));
          head = h.5;
          ty_read = subst (λ (y : Names). (type_form l).reads y b.2 b.0 b.1) (sym headed) b.5;
          name_read = callee_read b.1 c.2 c.0 c.1 c.5 is;
          symbol_is = subst (λ (y : Names). symbol c.0 y ≡ (r.0, r.1)) (sym c.5.3) r.5.1;
          result_is = p.5.1;
          args = q.5;
          end = subst (λ (y : Names). call_end.reads y e.2 tt t) (sym argued) (subst (λ (y : Names). call_end.reads d.1 e.2 tt y) last e.5);
        } in
        inr ((p.0, ops.Call b.0 r.0 q.0), sym line ∙ sym told, one_read l s u b.0 r.0 p.0 q.0 t is_call (void_or_valued b.0))
