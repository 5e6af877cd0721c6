-- Types keep the names, and stand for types that are there.
use Rattle.std.proofs.Common.{◌≡◌, ℕ, zero, suc, Bool, true, false, nat_eq, List}
use Rattle.std.specs.Prelude.{⊤, ◌||◌, if◌then◌else◌, Option, codes}
use Rattle.std.specs.List.{AllByRecursion as Each}
use Rattle.ir_lexer.specs.declared.table.Token.{Token}
use Rattle.ir_lexer.specs.declared.table.Token.TheVariants as tokens
use Rattle.ir_core.specs.declared.ty.IrType.{IrType}
use Rattle.ir_core.specs.declared.ty.IrType.TheVariants as types
use Rattle.ir_grammar.specs.declared.kinds.Kind.TheVariants as kinds
use Rattle.ir_grammar.specs.declared.which.Which.TheVariants as limits
use Rattle.ir_grammar.specs.Names.{Names, type_name}
use Rattle.ir_grammar.specs.Forms.{Form, Takes, Refuses, Over}
use Rattle.ir_grammar.specs.Tokens.{Limits, sign, word, kind, words_of}
use Rattle.ir_grammar.specs.Types.{scalars, named, last_of, type_set, array, struct, type_in, type_form, value_type}
use Rattle.ir_proper.proofs.Kept.{Keeps, keeps_more, keeps_if, keeps_ret, keeps_act, keeps_token, keeps_expect, keeps_then, keeps_either, keeps_listed}
use Rattle.ir_proper.proofs.KeptNames.{KnownType, type_name_grows, type_name_right}
use Rattle.ir_proper.proofs.KeptTokens.{word_right, keeps_word, keeps_text, keeps_any_number}
use Rattle.ir_proper.proofs.Good.{GoodType, NotVoid, good_array, good_struct}

-- with `void` any type, else one but `void`
abbrev pub Allowed : Bool → IrType → Type 0
Allowed true t = ⊤
Allowed false t = NotVoid t

abbrev pub GoodIn : Bool → Names → IrType → Type 0
GoodIn void n t = GoodType n t × Allowed void t

allowed_named : (void : Bool) (n s : Names) (name : List ℕ) → KnownType n (type_name name s).0 → GoodIn void n (types.Named (type_name name s).0)
allowed_named true n s name h = ((h, tt), tt)
allowed_named false n s name h = ((h, tt), tt)

keeps_named : {b : Bool} {n : Names} {H : Type 0} (void : Bool) → Keeps b n H named (GoodIn void n)
unfolding named
keeps_named {b = b} {n = n} void =
    keeps_then (keeps_text kinds.Local) (λ (name : List ℕ). keeps_act (λ s. (types.Named (type_name name s).0, (type_name name s).1)) (type_name_grows b name)
    (λ h s w k. let x = type_name_right b n name s w k in (allowed_named void n s name x.0, x.1)))

scalars_right : (void : Bool) (n : Names) → Each (λ (e : List ℕ × IrType). GoodIn void n e.1) (scalars void)
scalars_right true n = ((tt, tt), ((tt, tt), ((tt, tt), ((tt, tt), ((tt, tt), ((tt, tt), tt))))))
scalars_right false n = ((tt, tt), ((tt, tt), ((tt, tt), ((tt, tt), ((tt, tt), tt)))))

allowed_array : (void : Bool) (n : Names) (m : ℕ) (t : IrType) → GoodIn true n t → GoodIn void n (types.Array m t)
allowed_array true n m t h = (good_array n m t h.0, tt)
allowed_array false n m t h = (good_array n m t h.0, tt)

allowed_struct : (void : Bool) (n : Names) (ts : List IrType) → Each (GoodType n) ts → GoodIn void n (types.Struct ts)
allowed_struct true n ts h = (good_struct n ts h, tt)
allowed_struct false n ts h = (good_struct n ts h, tt)

keeps_array : {b : Bool} {n : Names} {H : Type 0} (void : Bool) (most : Option ℕ) {f : Form IrType} → Keeps b n H f (GoodIn true n) → Keeps b n H (array most f) (GoodIn void n)
keeps_array {n = n} void most h =
    keeps_then (keeps_expect (sign 91)) (λ (o : Unit). keeps_then (keeps_any_number most) (λ (m : ℕ). keeps_then (keeps_expect (word (codes "x"))) (λ (x : Unit). keeps_then (keeps_if h (λ g. g.1.1.1)) (λ (t : IrType).
    keeps_then (keeps_expect (sign 93)) (λ (c : Unit). keeps_ret (types.Array m t) (λ g. allowed_array void n m t g.1.0))))))

keeps_struct : {b : Bool} {n : Names} {H : Type 0} (void : Bool) {f : Form IrType} → Keeps b n H f (GoodIn true n) → Keeps b n H (struct f) (GoodIn void n)
keeps_struct {n = n} void h =
    keeps_then (keeps_expect (sign 123)) (λ (o : Unit). keeps_then (keeps_listed (type_set true) (GoodType n) (keeps_more (keeps_if h (λ g. g.1)) (λ g t x. x.0))) (λ (ts : List IrType).
    keeps_then (keeps_expect (sign 125)) (λ (c : Unit). keeps_ret (types.Struct ts) (λ g. allowed_struct void n ts g.1.0))))

none_left : {X : Type 0} (c : Bool) (t : IrType) → (if c then Over limits.Nesting else Refuses) ≡ Takes t → X
none_left true t e = absurd cc
none_left false t e = absurd cc

last_right : (void : Bool) (n : Names) (t : Token) (a : IrType) → last_of void t ≡ Takes a → GoodIn void n a
last_right void n (tokens.Word w) a e = word_right (GoodIn void n) (scalars void) (scalars_right void n) (tokens.Word w) a e
last_right void n (tokens.Sign c) a e = none_left (nat_eq c 91 || nat_eq c 123) a e
last_right void n (tokens.Int m) a e = absurd cc
last_right void n (tokens.Label m) a e = absurd cc
last_right void n (tokens.Local m) a e = absurd cc
last_right void n (tokens.Global m) a e = absurd cc
last_right void n (tokens.Str m) a e = absurd cc
last_right void n (tokens.CStr m) a e = absurd cc
last_right void n (tokens.Meta m) a e = absurd cc
last_right void n (tokens.Hash m) a e = absurd cc
last_right void n tokens.End a e = absurd cc

pub keeps_type_in : {b : Bool} {n : Names} {H : Type 0} (void : Bool) (most : Option ℕ) (levels : ℕ) → Keeps b n H (type_in void most levels) (GoodIn void n)
unfolding type_in
keeps_type_in {n = n} void most zero = keeps_either (kind kinds.Local) (keeps_named void) (keeps_token (last_of void) (λ g t a c e. last_right void n t a e))
keeps_type_in {n = n} void most (suc levels) =
    let inner = keeps_type_in true most levels in
    keeps_either (kind kinds.Local) (keeps_named void) (keeps_either (words_of (scalars void)) (keeps_word (scalars void) (λ g. scalars_right void n))
    (keeps_either (sign 91) (keeps_array void most inner) (keeps_struct void inner)))

pub keeps_inner_type : {b : Bool} {n : Names} {H : Type 0} (most : Option ℕ) (levels : ℕ) → Keeps b n H (type_in true most levels) (GoodType n)
keeps_inner_type most levels = keeps_more (keeps_type_in true most levels) (λ h t x. x.0)

pub keeps_type : {b : Bool} {n : Names} {H : Type 0} (l : Limits) → Keeps b n H (type_form l) (GoodType n)
unfolding type_form
keeps_type l = keeps_inner_type l.length l.levels

pub keeps_value_type : {b : Bool} {n : Names} {H : Type 0} (l : Limits) → Keeps b n H (value_type l) (GoodIn false n)
unfolding value_type
keeps_value_type l = keeps_type_in false l.length l.levels
