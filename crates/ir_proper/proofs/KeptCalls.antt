-- Calls without a name keep the names. A skipped call takes the type names back that it brought in.
use Rattle.std.proofs.Common.{◌≡◌, ◌≢◌, ℕ, zero, suc, Bool, true, false, List, [], ◌∷◌, length, take, refl, sym, ap, ◌∙◌, subst}
use Rattle.std.specs.Prelude.{Option, Some, None}
use Rattle.std.specs.List.{AllByRecursion as Each}
use Rattle.std.proofs.lemmas.List.{append-nil, take_at}
use Rattle.ir_core.specs.declared.ty.IrType.{IrType, Void, Int, Ptr, Array', Struct', Named}
use Rattle.ir_core.specs.declared.module.SymId.{SymId}
use Rattle.ir_core.specs.declared.op.LocalId.{LocalId}
use Rattle.ir_core.specs.declared.op.TypedOperand.{TypedOperand}
use Rattle.ir_core.specs.declared.op.Op.TheVariants as ops
use Rattle.ir_core.specs.Parts.{listed}
use Rattle.ir_grammar.specs.declared.kinds.Kind.TheVariants as kinds
use Rattle.ir_grammar.specs.Pieces.{Piece}
use Rattle.ir_grammar.specs.Names.{Names, define_next}
use Rattle.ir_grammar.specs.Forms.{Form, act, ret, ◌>>=◌, choose}
use Rattle.ir_grammar.specs.Tokens.{Limits, text}
use Rattle.ir_grammar.specs.Types.{type_form}
use Rattle.ir_grammar.specs.Groups.{group}
use Rattle.ir_grammar.specs.Operations.{call_end, is_lifetime, Line, result_of, called, keep_types, lifetime, types_so_far, unnamed_call}
use Rattle.ir_proper.proofs.Kept.{each_left, each_right, IsClean, CleanPiece, Clean, Once, Fine, Grows, grows_same, grows_then, Keeps, keeps_ret, keeps_act, keeps_then}
use Rattle.ir_proper.proofs.KeptNames.{KnownLocal, keeps_symbol, define_next_grows, define_next_right}
use Rattle.ir_proper.proofs.KeptTokens.{keeps_global_text}
use Rattle.ir_proper.proofs.Good.{GoodType, NotVoid}
use Rattle.ir_proper.proofs.GoodCode.{ResultOfCall, good_call, call_gives, IfAny, GoodLine}
use Rattle.ir_proper.proofs.KeptTypes.{keeps_type}
use Rattle.ir_proper.proofs.KeptAttributes.{keeps_group}
use Rattle.ir_proper.proofs.KeptOperations.{keeps_call_head, keeps_call_end, keeps_arguments}

-- ---- a call that is there

abbrev GoodResult : Names → IrType → Option LocalId → Type 0
GoodResult n t r = Each (KnownLocal n) (listed r) × ResultOfCall t r

result_grows : (t : IrType) (s : Names) → Grows true s (result_of t s).1
result_grows Void s = grows_same true s
result_grows (Int w) s = define_next_grows s
result_grows Ptr s = define_next_grows s
result_grows (Array' m k items) s = define_next_grows s
result_grows (Struct' m fields) s = define_next_grows s
result_grows (Named x) s = define_next_grows s

some_right : (n : Names) (t : IrType) (s : Names) → Fine s → Grows true (define_next s).1 n → NotVoid t → GoodResult n t (Some (define_next s).0) × Fine (define_next s).1
some_right n t s w k h = let x = define_next_right n s w k in (((x.0, tt), call_gives t (define_next s).0 h), x.1)

result_right : (n : Names) (t : IrType) (s : Names) → Fine s → Grows true (result_of t s).1 n → GoodResult n t (result_of t s).0 × Fine (result_of t s).1
result_right n Void s w k = ((tt, λ f as' p. refl), w)
result_right n (Int w') s w k = some_right n (Int w') s w k tt
result_right n Ptr s w k = some_right n Ptr s w k tt
result_right n (Array' m j items) s w k = some_right n (Array' m j items) s w k tt
result_right n (Struct' m fields) s w k = some_right n (Struct' m fields) s w k tt
result_right n (Named y) s w k = some_right n (Named y) s w k tt

keeps_called : {n : Names} {H : Type 0} (l : Limits) (t : IrType) (name : List ℕ) → (H → GoodType n t × IsClean name) → Keeps true n H (called l t name) (IfAny (GoodLine l n))
unfolding called
keeps_called {n = n} l t name e =
    keeps_then (keeps_symbol name (λ g. (e g).1)) (λ (f : SymId). keeps_then (keeps_act {P = GoodResult n t} (result_of t) (result_grows t) (λ g s w k. result_right n t s w k)) (λ (r : Option LocalId).
    keeps_then (keeps_arguments l) (λ (as' : List TypedOperand). keeps_ret (Some (r, ops.Call t f as'))
    (λ g. record { op = good_call l n t f as' (e g.1.1.1).0 g.1.1.0 g.0.0 g.0.1; known = g.1.0.0; result = g.1.0.1 f as' }))))

-- with what stands after it
abbrev Closed : Form Line → Form Line
Closed f = f >>= λ r. call_end >>= λ e. ret r

keeps_closed : {l : Limits} {n : Names} {H : Type 0} {f : Form Line} → Keeps true n H f (IfAny (GoodLine l n)) → Keeps true n H (Closed f) (IfAny (GoodLine l n))
keeps_closed h = keeps_then h (λ (r : Line). keeps_then keeps_call_end (λ (e : Unit). keeps_ret r (λ g. g.1.0)))

-- ---- a call that is skipped

-- after the group only so many type names are left
record Skipped (k : ℕ) (s : Names) (u : List Piece) (r : Line) (t : Names) : Type 0 where
  before : Names
  noinline : Bool
  pieces : List Piece
  reads : (group 40 41).reads s pieces noinline before
  names : t ≡ record before { types = take k before.types }
  nothing : r ≡ None
  clean : Clean u → Clean pieces

skipped : (k : ℕ) (s : Names) (u : List Piece) (r : Line) (t : Names) → (lifetime k).reads s u r t → Skipped k s u r t
unfolding lifetime
skipped k s u r t h = after h.6
  where
    after : (act (keep_types k) >>= (λ (x : Unit). ret None)).reads h.1 h.3 r t → Skipped k s u r t
    after b = record {
      before = h.1;
      noinline = h.0;
      pieces = h.2;
      reads = h.5;
      names = sym (ap (λ (q : Line × Names). q.1) b.6.1) ∙ sym (ap (λ (q : Unit × Names). q.1) b.5.1);
      nothing = sym (ap (λ (q : Line × Names). q.0) b.6.1);
      clean = λ c. each_left CleanPiece h.2 h.3 (subst Clean h.4 c);
    }

-- a prefix of a list with no name twice
each_take : (P : List ℕ → Type 0) (k : ℕ) (xs : List (List ℕ)) → Each P xs → Each P (take k xs)
each_take P zero xs h = tt
each_take P (suc k) [] h = tt
each_take P (suc k) (x ∷ xs) h = (h.0, each_take P k xs h.1)

once_take : (k : ℕ) (xs : List (List ℕ)) → Once xs → Once (take k xs)
once_take zero xs h = tt
once_take (suc k) [] h = tt
once_take (suc k) (x ∷ xs) h = (each_take (λ (y : List ℕ). x ≢ y) k xs h.0, once_take k xs h.1)

fine_take : (k : ℕ) (s : Names) → Fine s → Fine (record s { types = take k s.types })
fine_take k s w = record { symbols = w.symbols; types = once_take k s.types w.types; locals = w.locals; clean = w.clean }

grows_take : (s t : Names) → Grows true s t → Grows true s (record t { types = take (length s.types) t.types })
grows_take s t h = record { symbols = h.symbols; types = ([], append-nil s.types ∙ sym (take_at s.types h.types.0 (length s.types) refl) ∙ ap (λ (xs : List (List ℕ)). take (length s.types) xs) h.types.1); locals = h.locals }

skipped_grows : (s0 s : Names) → Grows true s0 s → (u : List Piece) (r : Line) (t : Names) → (lifetime (length s0.types)).reads s u r t → Grows true s0 t
skipped_grows s0 s h u r t e =
    let x = skipped (length s0.types) s u r t e in
    subst (Grows true s0) (sym x.names) (grows_take s0 x.before (grows_then true s0 s x.before h ((keeps_group {b = true} {n = s} {H = Unit {0}} 40 41).grows s x.pieces x.noinline x.before x.reads)))

skipped_fine : (k : ℕ) (s : Names) (u : List Piece) (r : Line) (t : Names) → Clean u → Fine s → (lifetime k).reads s u r t → Fine t
skipped_fine k s u r t c w e =
    let x = skipped k s u r t e in
    let before = (keeps_group {b = true} {n = x.before} {H = Unit {0}} 40 41).holds tt s x.pieces x.noinline x.before (x.clean c) w x.reads (grows_same true x.before) in
    subst Fine (sym x.names) (fine_take k x.before before.1)

-- ---- both

abbrev End : Line → Form Line
End r = call_end >>= λ e. ret r

keeps_end : {l : Limits} {n : Names} {H : Type 0} (r : Line) → (H → IfAny (GoodLine l n) r) → Keeps true n H (End r) (IfAny (GoodLine l n))
keeps_end r h = keeps_then keeps_call_end (λ (e : Unit). keeps_ret r (λ g. h g.1))

abbrev Chosen : Limits → Bool → ℕ → IrType → List ℕ → Form Line
Chosen l c k ty name = Closed (choose c (lifetime k) (called l ty name))

called_closed : (l : Limits) (n : Names) (ty : IrType) (name : List ℕ) → Keeps true n (GoodType n ty × IsClean name) (Closed (called l ty name)) (IfAny (GoodLine l n))
called_closed l n ty name = keeps_closed (keeps_called l ty name (λ g. g))

chosen_grows : (l : Limits) (c : Bool) (ty : IrType) (name : List ℕ) (s0 s : Names) (u : List Piece) (x : Line) (t : Names) → Grows true s0 s → (Chosen l c (length s0.types) ty name).reads s u x t → Grows true s0 t
chosen_grows l true ty name s0 s u x t h r =
    grows_then true s0 r.1 t (skipped_grows s0 s h r.2 r.0 r.1 r.5) ((keeps_end {l = l} {n = t} {H = IfAny (GoodLine l t) r.0} r.0 (λ g. g)).grows r.1 r.3 x t r.6)
chosen_grows l false ty name s0 s u x t h r = grows_then true s0 s t h ((called_closed l t ty name).grows s u x t r)

none_good : (l : Limits) (n : Names) (r : Line) → r ≡ None → IfAny (GoodLine l n) r
none_good l n r e = subst (IfAny (GoodLine l n)) (sym e) tt

chosen_holds : (l : Limits) (c : Bool) (n : Names) (k : ℕ) (ty : IrType) (name : List ℕ) (s : Names) (u : List Piece) (x : Line) (t : Names) → Clean u → Fine s → (Grows true s n → GoodType n ty × IsClean name) → (Chosen l c k ty name).reads s u x t → Grows true t n → IfAny (GoodLine l n) x × Fine t
chosen_holds l true n k ty name s u x t c w e r g =
    let clean = subst Clean r.4 c in
    (keeps_end {l = l} {n = n} {H = IfAny (GoodLine l n) r.0} r.0 (λ h. h)).holds (none_good l n r.0 (skipped k s r.2 r.0 r.1 r.5).nothing) r.1 r.3 x t (each_right CleanPiece r.2 r.3 clean) (skipped_fine k s r.2 r.0 r.1 (each_left CleanPiece r.2 r.3 clean) w r.5) r.6 g
chosen_holds l false n k ty name s u x t c w e r g =
    let all = called_closed l n ty name in
    all.holds (e (grows_then true s t n (all.grows s u x t r) g)) s u x t c w r g

abbrev Named_type : Limits → ℕ → IrType → Form Line
Named_type l k ty = text kinds.Global >>= λ name. Chosen l (is_lifetime name) k ty name

abbrev Typed : Limits → ℕ → Form Line
Typed l k = type_form l >>= λ ty. Named_type l k ty

type_keeps : (l : Limits) (n : Names) → Keeps true n (Unit {0}) (type_form l) (GoodType n)
type_keeps l n = keeps_type l

text_keeps : (n : Names) → Keeps true n (Unit {0}) (text kinds.Global) IsClean
text_keeps n = keeps_global_text

named_grows : (l : Limits) (ty : IrType) (s0 s : Names) (u : List Piece) (x : Line) (t : Names) → Grows true s0 s → (Named_type l (length s0.types) ty).reads s u x t → Grows true s0 t
named_grows l ty s0 s u x t h r = chosen_grows l (is_lifetime r.0) ty r.0 s0 r.1 r.3 x t (grows_then true s0 s r.1 h ((text_keeps s).grows s r.2 r.0 r.1 r.5)) r.6

typed_grows : (l : Limits) (s : Names) (u : List Piece) (x : Line) (t : Names) → (Typed l (length s.types)).reads s u x t → Grows true s t
typed_grows l s u x t r = named_grows l r.0 s r.1 r.3 x t ((type_keeps l s).grows s r.2 r.0 r.1 r.5) r.6

named_holds : (l : Limits) (n : Names) (k : ℕ) (ty : IrType) (s : Names) (u : List Piece) (x : Line) (t : Names) → Clean u → Fine s → (Grows true s n → GoodType n ty) → (Named_type l k ty).reads s u x t → Grows true t n → IfAny (GoodLine l n) x × Fine t
named_holds l n k ty s u x t c w e r g =
    let clean = subst Clean r.4 c in
    let front = each_left CleanPiece r.2 r.3 clean in
    let more = (text_keeps r.1).grows s r.2 r.0 r.1 r.5 in
    let name = (text_keeps r.1).holds tt s r.2 r.0 r.1 front w r.5 (grows_same true r.1) in
    chosen_holds l (is_lifetime r.0) n k ty r.0 r.1 r.3 x t (each_right CleanPiece r.2 r.3 clean) name.1 (λ h. (e (grows_then true s r.1 n more h), name.0)) r.6 g

typed_holds : (l : Limits) (n : Names) (k : ℕ) (s : Names) (u : List Piece) (x : Line) (t : Names) → Clean u → Fine s → (Typed l k).reads s u x t → Grows true t n → IfAny (GoodLine l n) x × Fine t
typed_holds l n k s u x t c w r g =
    let clean = subst Clean r.4 c in
    let front = each_left CleanPiece r.2 r.3 clean in
    let fine = (type_keeps l r.1).holds tt s r.2 r.0 r.1 front w r.5 (grows_same true r.1) in
    named_holds l n k r.0 r.1 r.3 x t (each_right CleanPiece r.2 r.3 clean) fine.1 (λ h. ((type_keeps l n).holds tt s r.2 r.0 r.1 front w r.5 h).0) r.6 g

-- with the number of type names before it
abbrev Counted : Limits → Form Line
Counted l = act types_so_far >>= λ k. Typed l k

counted_typed : (l : Limits) (s : Names) (u : List Piece) (x : Line) (t : Names) → (Counted l).reads s u x t → (v : List Piece) × (Clean u → Clean v) × (Typed l (length s.types)).reads s v x t
counted_typed l s u x t r =
    (r.3, λ c. each_right CleanPiece r.2 r.3 (subst Clean r.4 c), subst (λ (p : ℕ × Names). (Typed l p.0).reads p.1 r.3 x t) (sym r.5.1) r.6)

keeps_counted : {n : Names} {H : Type 0} (l : Limits) → Keeps true n H (Counted l) (IfAny (GoodLine l n))
keeps_counted {n = n} l = record {
  grows = λ s u x t r. let y = counted_typed l s u x t r in typed_grows l s y.0 x t y.2;
  holds = λ g s u x t c w r k. let y = counted_typed l s u x t r in typed_holds l n (length s.types) s y.0 x t (y.1 c) w y.2 k;
}

pub keeps_unnamed_call : {n : Names} {H : Type 0} (l : Limits) → Keeps true n H (unnamed_call l) (IfAny (GoodLine l n))
unfolding unnamed_call
keeps_unnamed_call l = keeps_then keeps_call_head (λ (h : Unit). keeps_counted l)
