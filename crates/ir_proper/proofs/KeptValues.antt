-- Values and initialisers keep the names, and what stands in them is there.
use Rattle.std.proofs.Common.{◌≡◌, ℕ, ℤ, zero, suc, Bool, true, false, nat_eq, List, []}
use Rattle.std.specs.Prelude.{◌||◌, if◌then◌else◌, Option, codes}
use Rattle.std.specs.List.{AllByRecursion as Each}
use Rattle.ir_lexer.specs.declared.table.Token.{Token}
use Rattle.ir_lexer.specs.declared.table.Token.TheVariants as tokens
use Rattle.ir_core.specs.declared.ty.IrType.{IrType}
use Rattle.ir_core.specs.declared.module.SymId.{SymId}
use Rattle.ir_core.specs.declared.constant.Const.{Const}
use Rattle.ir_core.specs.declared.constant.Const.TheVariants as consts
use Rattle.ir_core.specs.declared.constant.TypedConst.{TypedConst}
use Rattle.ir_core.specs.declared.constant.TypedCount.{TypedCount}
use Rattle.ir_core.specs.declared.op.Operand.{Operand}
use Rattle.ir_core.specs.declared.op.Operand.TheVariants as operands
use Rattle.ir_grammar.specs.declared.kinds.Kind.TheVariants as kinds
use Rattle.ir_grammar.specs.declared.which.Which.TheVariants as limits
use Rattle.ir_grammar.specs.Names.{Names, local}
use Rattle.ir_grammar.specs.Forms.{Form, Takes, Refuses, Over}
use Rattle.ir_grammar.specs.Tokens.{Limits, sign, word, kind, one_word}
use Rattle.ir_grammar.specs.Types.{type_set}
use Rattle.ir_grammar.specs.Values.{const_words, gep_word, gep_flag, gep_flags, global, index, gep_rest, gep, address, integer, const_at, constant, local_value, value, typed, zero_init, bytes, last_const_of, typed_init, array_init, struct_init, init_at, init}
use Rattle.ir_proper.proofs.Kept.{Any, Keeps, keeps_more, keeps_if, keeps_ret, keeps_act, keeps_token, keeps_expect, keeps_then, keeps_either, keeps_skip, keeps_after_comma, keeps_many, keeps_listed}
use Rattle.ir_proper.proofs.KeptNames.{KnownSymbol, keeps_symbol, local_grows, local_right}
use Rattle.ir_proper.proofs.KeptTokens.{word_right, keeps_word, keeps_text, keeps_global_text, keeps_int}
use Rattle.ir_proper.proofs.Good.{each_map, GoodType, GoodConst, GoodTypedConst, GoodValue, GoodOperand, GoodTyped, good_array_const, good_struct_const}
use Rattle.ir_proper.proofs.KeptTypes.{keeps_inner_type, keeps_type}

pub keeps_gep_flags : {b : Bool} {n : Names} {H : Type 0} → Keeps b n H gep_flags Any
unfolding gep_flags
keeps_gep_flags = keeps_skip gep_flag (keeps_expect gep_flag)

pub keeps_global : {b : Bool} {n : Names} {H : Type 0} → Keeps b n H global (KnownSymbol n)
unfolding global
keeps_global = keeps_then keeps_global_text (λ (name : List ℕ). keeps_symbol name (λ g. g.0))

-- an index of a constant `getelementptr`
abbrev pub GoodCount : Names → TypedCount → Type 0
GoodCount n c = GoodType n c.ty

keeps_index : {b : Bool} {n : Names} {H : Type 0} (most : Option ℕ) (levels : ℕ) → Keeps b n H (index most levels) (GoodCount n)
keeps_index most levels = keeps_then (keeps_inner_type most levels) (λ (t : IrType). keeps_then keeps_int (λ (i : ℤ). keeps_ret (record { ty = t; count = i }) (λ g. g.1.0)))

good_gep : (n : Names) (t : IrType) (g : SymId) (is : List TypedCount) → GoodType n t → KnownSymbol n g → Each (GoodCount n) is → GoodValue n (consts.Gep t g is)
good_gep n t g is h k e = (tt, record { symbols = (k, tt); types = (h, each_map (GoodType n) (λ (i : TypedCount). i.ty) is e) })

pub keeps_gep_rest : {b : Bool} {n : Names} {H : Type 0} (most : Option ℕ) (levels : ℕ) → Keeps b n H (gep_rest most levels) (GoodValue n)
unfolding gep_rest
keeps_gep_rest {n = n} most levels =
    keeps_then (keeps_expect (sign 40)) (λ (o : Unit). keeps_then (keeps_inner_type most levels) (λ (t : IrType). keeps_then (keeps_expect (sign 44)) (λ (c : Unit). keeps_then (keeps_expect (word (codes "ptr"))) (λ (p : Unit).
    keeps_then keeps_global (λ (x : SymId). keeps_then (keeps_many (sign 44) (GoodCount n) (keeps_after_comma (keeps_index most levels)) [] (λ g. tt)) (λ (is : List TypedCount). keeps_then (keeps_expect (sign 41)) (λ (d : Unit).
    keeps_ret (consts.Gep t x is) (λ g. good_gep n t x is g.1.1.1.1.1.0 g.1.1.0 g.1.0))))))))

pub keeps_gep : {b : Bool} {n : Names} {H : Type 0} (most : Option ℕ) (levels : ℕ) → Keeps b n H (gep most levels) (GoodValue n)
unfolding gep
keeps_gep most levels = keeps_then (keeps_expect gep_word) (λ (w : Unit). keeps_then keeps_gep_flags (λ (f : Unit). keeps_gep_rest most levels))

pub keeps_address : {b : Bool} {n : Names} {H : Type 0} → Keeps b n H address (GoodValue n)
keeps_address = keeps_then keeps_global (λ (x : SymId). keeps_ret (consts.Address x) (λ g. (tt, record { symbols = (g.0, tt); types = tt })))

pub keeps_integer : {b : Bool} {n : Names} {H : Type 0} → Keeps b n H integer (GoodValue n)
keeps_integer = keeps_then keeps_int (λ (i : ℤ). keeps_ret (consts.Int i) (λ g. (tt, record { symbols = tt; types = tt })))

pub const_words_right : (n : Names) → Each (λ (e : List ℕ × Const). GoodValue n e.1) const_words
const_words_right n = ((tt, record { symbols = tt; types = tt }), ((tt, record { symbols = tt; types = tt }), ((tt, record { symbols = tt; types = tt }), ((tt, record { symbols = tt; types = tt }), ((tt, record { symbols = tt; types = tt }), tt)))))

pub keeps_const_word : {b : Bool} {n : Names} {H : Type 0} → Keeps b n H (one_word const_words) (GoodValue n)
keeps_const_word {n = n} = keeps_word const_words (λ g. const_words_right n)

keeps_const_at : {b : Bool} {n : Names} {H : Type 0} (most : Option ℕ) (levels : ℕ) → Keeps b n H (const_at most levels) (GoodValue n)
unfolding const_at
keeps_const_at most levels = keeps_either (kind kinds.Global) keeps_address (keeps_either gep_word (keeps_gep most levels) (keeps_either (kind kinds.Int) keeps_integer keeps_const_word))

pub keeps_constant : {b : Bool} {n : Names} {H : Type 0} (l : Limits) → Keeps b n H (constant l) (GoodValue n)
unfolding constant
keeps_constant l = keeps_const_at l.length l.levels

pub keeps_local_value : {n : Names} {H : Type 0} → Keeps true n H local_value (GoodOperand n)
unfolding local_value
keeps_local_value {n = n} =
    keeps_then (keeps_text kinds.Local) (λ (name : List ℕ). keeps_act (λ s. (operands.Local (local name s).0, (local name s).1)) (local_grows name)
    (λ h s w k. local_right n name s w k))

pub keeps_value : {n : Names} {H : Type 0} (l : Limits) → Keeps true n H (value l) (GoodOperand n)
unfolding value
keeps_value l = keeps_either (kind kinds.Local) keeps_local_value (keeps_then (keeps_constant l) (λ (c : Const). keeps_ret (operands.Const c) (λ g. g.0)))

pub keeps_typed : {n : Names} {H : Type 0} (l : Limits) → Keeps true n H (typed l) (GoodTyped n)
unfolding typed
keeps_typed l = keeps_then (keeps_type l) (λ (t : IrType). keeps_then (keeps_value l) (λ (v : Operand). keeps_ret (record { ty = t; value = v }) (λ g. record { ty = g.1.0; value = g.0 })))

-- ---- initialisers

keeps_zero_init : {b : Bool} {n : Names} {H : Type 0} → Keeps b n H zero_init (GoodConst n)
keeps_zero_init = keeps_then (keeps_expect (word (codes "zeroinitializer"))) (λ (w : Unit). keeps_ret consts.Zero (λ g. record { symbols = tt; types = tt }))

keeps_bytes : {b : Bool} {n : Names} {H : Type 0} → Keeps b n H bytes (GoodConst n)
keeps_bytes = keeps_then (keeps_text kinds.CStr) (λ (bs : List ℕ). keeps_ret (consts.Bytes bs) (λ g. record { symbols = tt; types = tt }))

none_left : {X : Type 0} (c : Bool) (a : Const) → (if c then Over limits.Nesting else Refuses) ≡ Takes a → X
none_left true a e = absurd cc
none_left false a e = absurd cc

last_right : (n : Names) (t : Token) (a : Const) → last_const_of t ≡ Takes a → GoodConst n a
last_right n (tokens.Word w) a e = (word_right (GoodValue n) const_words (const_words_right n) (tokens.Word w) a e).1
last_right n (tokens.Sign c) a e = none_left (nat_eq c 91 || nat_eq c 123) a e
last_right n (tokens.Int m) a e = absurd cc
last_right n (tokens.Label m) a e = absurd cc
last_right n (tokens.Local m) a e = absurd cc
last_right n (tokens.Global m) a e = absurd cc
last_right n (tokens.Str m) a e = absurd cc
last_right n (tokens.CStr m) a e = absurd cc
last_right n (tokens.Meta m) a e = absurd cc
last_right n (tokens.Hash m) a e = absurd cc
last_right n tokens.End a e = absurd cc

keeps_typed_init : {b : Bool} {n : Names} {H : Type 0} {f : Form Const} (most : Option ℕ) (levels : ℕ) → Keeps b n H f (GoodConst n) → Keeps b n H (typed_init f most levels) (GoodTypedConst n)
keeps_typed_init most levels h = keeps_then (keeps_inner_type most levels) (λ (t : IrType). keeps_then (keeps_if h (λ g. g.1)) (λ (c : Const). keeps_ret (record { ty = t; value = c }) (λ g. record { ty = g.1.0; value = g.0 })))

keeps_array_init : {b : Bool} {n : Names} {H : Type 0} {f : Form TypedConst} → Keeps b n H f (GoodTypedConst n) → Keeps b n H (array_init f) (GoodConst n)
keeps_array_init {n = n} h =
    keeps_then (keeps_expect (sign 91)) (λ (o : Unit). keeps_then (keeps_listed (type_set true) (GoodTypedConst n) (keeps_if h (λ g. g.1))) (λ (cs : List TypedConst). keeps_then (keeps_expect (sign 93)) (λ (c : Unit). keeps_ret (consts.Array cs) (λ g. good_array_const n cs g.1.0))))

keeps_struct_init : {b : Bool} {n : Names} {H : Type 0} {f : Form TypedConst} → Keeps b n H f (GoodTypedConst n) → Keeps b n H (struct_init f) (GoodConst n)
keeps_struct_init {n = n} h =
    keeps_then (keeps_expect (sign 123)) (λ (o : Unit). keeps_then (keeps_listed (type_set true) (GoodTypedConst n) (keeps_if h (λ g. g.1))) (λ (cs : List TypedConst). keeps_then (keeps_expect (sign 125)) (λ (c : Unit). keeps_ret (consts.Struct cs) (λ g. good_struct_const n cs g.1.0))))

-- the good form of a constant that is no operand alone
as_init : {b : Bool} {n : Names} {H : Type 0} {f : Form Const} → Keeps b n H f (GoodValue n) → Keeps b n H f (GoodConst n)
as_init h = keeps_more h (λ g a x. x.1)

keeps_init_at : {b : Bool} {n : Names} {H : Type 0} (most : Option ℕ) (levels : ℕ) → Keeps b n H (init_at most levels) (GoodConst n)
unfolding init_at
keeps_init_at {n = n} most zero =
    keeps_either (kind kinds.Global) (as_init keeps_address) (keeps_either gep_word (as_init (keeps_gep most zero)) (keeps_either (kind kinds.Int) (as_init keeps_integer)
    (keeps_either (word (codes "zeroinitializer")) keeps_zero_init (keeps_either (kind kinds.CStr) keeps_bytes (keeps_token last_const_of (λ g t a c e. last_right n t a e))))))
keeps_init_at most (suc levels) =
    let item = keeps_typed_init most levels (keeps_init_at most levels) in
    keeps_either (kind kinds.Global) (as_init keeps_address) (keeps_either gep_word (as_init (keeps_gep most (suc levels))) (keeps_either (kind kinds.Int) (as_init keeps_integer)
    (keeps_either (word (codes "zeroinitializer")) keeps_zero_init (keeps_either (kind kinds.CStr) keeps_bytes
    (keeps_either (sign 91) (keeps_array_init item) (keeps_either (sign 123) (keeps_struct_init item) (as_init keeps_const_word)))))))

pub keeps_init : {b : Bool} {n : Names} {H : Type 0} (l : Limits) → Keeps b n H (init l) (GoodConst n)
unfolding init
keeps_init l = keeps_init_at l.length l.levels
