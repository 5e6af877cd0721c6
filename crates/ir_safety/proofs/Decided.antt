-- What can be decided is so where it is not false. So each fact of a safe program is so, and where sizes, alignments and
-- cases are as they are to be too, its instructions and ends of blocks are of their types.
use Rattle.std.proofs.Common.{◌≡◌, ◌⊎◌, inl, inr, ⊎_elim, ℕ, zero, suc, ◌<◌, ◌≤◌, nat_eq, if◌then◌else◌, List, [], ◌∷◌, map, length, All, Contains, Option, Some, None, slice_get, refl, sym, ap, ◌∙◌, subst, arith}
use Rattle.std.proofs.lemmas.Bool.{cases_lt, cases_eq}
use Rattle.std.proofs.lemmas.List.Elements.{All-nil, All-cons, All-head, All-tail}
use Rattle.oi_base.specs.declared.words.Width.{Width}
use Rattle.oi_base.specs.declared.words.Width.TheVariants.{W1, W8, W16, W32}
use Rattle.oi_base.specs.declared.ids.RegId.{RegId}
use Rattle.oi_base.specs.declared.ids.FuncId.{FuncId}
use Rattle.oi_base.specs.Words.{bits, modulus}
use Rattle.ir_core.specs.declared.flat.Scalar.{Scalar}
use Rattle.ir_core.specs.declared.flat.Scalar.TheVariants as scalar
use Rattle.ir_core.specs.declared.flat.CastOp.{CastOp}
use Rattle.ir_core.specs.declared.flat.CastOp.TheVariants.{Zext, Sext, Trunc}
use Rattle.ir_core.specs.declared.flat.FlatOp.{FlatOp}
use Rattle.ir_core.specs.declared.flat.FlatOp.TheVariants.{Reg, Word, Null, Address, Poison}
use Rattle.ir_core.specs.declared.flat.Term.{Term}
use Rattle.ir_core.specs.declared.flat.Case.{Case}
use Rattle.ir_core.specs.declared.flat.Entry.{Entry}
use Rattle.ir_core.specs.declared.flat.Phi.{Phi}
use Rattle.ir_core.specs.declared.flat.FlatInstr.{FlatInstr}
use Rattle.ir_core.specs.declared.flat.FlatInstr.TheVariants.{Bin, Icmp, Select, Cast, Copy, Alloca, Load, Store, Gep, Call, Put, Get, Exit}
use Rattle.ir_core.specs.declared.flat.FlatEnd.{FlatEnd}
use Rattle.ir_core.specs.declared.flat.FlatEnd.TheVariants.{Ret, Br, Cond, Switch, Unreachable}
use Rattle.ir_core.specs.declared.flat.FlatBlock.{FlatBlock}
use Rattle.ir_core.specs.declared.flat.FlatBody.{FlatBody}
use Rattle.ir_core.specs.Memory.{scalar_size}
use Rattle.ir_core.specs.Flat.{Program}
use Rattle.ir_core.specs.Formed.{FuncType, HasType, is_cast, IsAlign, Receives, AllTyped, IsTyped, ReturnsType, DifferentCases, IsEndTyped}
use Rattle.ir_core.specs.Formed.{IsBlock, IsEdge, IsPath, IsWritten, ComesIn, ComesFirst, DefinedFirst, written_by, used_by, used_at_end, targets}
use Rattle.ir_core.proofs.Lists.{Has, contains, has_in}
use Rattle.ir_safety.proofs.Elements.{none_is_none, same_some}
use Rattle.ir_safety.proofs.Safe.{NotFalse, IsTypedInstr, IsTypedEnd, IsSafeBody, IsSafe}

-- ---- what is decided

-- it is so, or it is not
abbrev pub Decided : Type 0 → Type 0
Decided P = P ⊎ (P → ⊥)

pub so : {P : Type 0} → Decided P → NotFalse P → P
so (inl p) h = p
so (inr n) h = absurd (h n)

pub always : Decided (Unit {0})
always = inl tt

pub never : Decided ⊥
never = inr (λ h. h)

-- of another fact that is so exactly where this one is
pub alike : {P Q : Type 0} → (P → Q) → (Q → P) → Decided P → Decided Q
alike f g (inl p) = inl (f p)
alike f g (inr n) = inr (λ q. n (g q))

pub both : {P Q : Type 0} → Decided P → Decided Q → Decided (P × Q)
both (inl p) (inl q) = inl (p, q)
both (inl p) (inr n) = inr (λ h. n h.1)
both (inr n) d = inr (λ h. n h.0)

pub all_three : {P Q R : Type 0} → Decided P → Decided Q → Decided R → Decided (P × Q × R)
all_three d e f = alike (λ h. (h.0, h.1.0, h.1.1)) (λ h. (h.0, (h.1, h.2))) (both d (both e f))

pub either : {P Q : Type 0} → Decided P → Decided Q → Decided (P ⊎ Q)
either (inl p) d = inl (inl p)
either (inr n) (inl q) = inl (inr q)
either (inr n) (inr k) = inr (λ h. ⊎_elim n k h)

pub is_less : (a b : ℕ) → Decided (a < b)
is_less a b = ⊎_elim (λ lt. inl lt) (λ ge. inr (λ lt. absurd (omega (arith, lt, ge)))) (cases_lt a b)

pub is_at_most : (a b : ℕ) → Decided (a ≤ b)
is_at_most a b = ⊎_elim (λ lt. inr (λ le. absurd (omega (arith, lt, le)))) (λ le. inl le) (cases_lt b a)

-- ---- options and lists

pub same_option : {A : Type 0} → ((x y : A) → Decided (x ≡ y)) → (o p : Option A) → Decided (o ≡ p)
same_option same None None = inl refl
same_option same None (Some y) = inr (λ e. none_is_none y e)
same_option same (Some x) None = inr (λ e. none_is_none x (sym e))
same_option same (Some x) (Some y) = alike (λ e. ap Some e) (λ e. same_some x y e) (same x y)

-- there is one, and it is P
pub one_is : {A : Type 0} (P : A → Type 0) → ((x : A) → Decided (P x)) → (o : Option A) → Decided ((x : A) × (o ≡ Some x) × P x)
one_is P test None = inr (λ h. none_is_none h.0 h.1)
one_is P test (Some x) = alike (λ p. (x, refl, p)) (λ h. subst P (sym (same_some x h.0 h.1)) h.2) (test x)

pub one_there : {A : Type 0} (o : Option A) → Decided ((x : A) × (o ≡ Some x))
one_there None = inr (λ h. none_is_none h.0 h.1)
one_there (Some x) = inl (x, refl)

is_empty : {A : Type 0} (xs : List A) → Decided (xs ≡ [])
is_empty [] = inl refl
is_empty (x ∷ xs) = inr (λ e. absurd cc)

one_of : {A : Type 0} (P : A → Type 0) → ((x : A) → Decided (P x)) → (xs : List A) → Decided ((x : A) × Has xs x × P x)
one_of P test [] = inr (λ h. h.1)
one_of {A} P test (y ∷ ys) = alike joined parted (either (test y) (one_of P test ys))
  where
    joined : P y ⊎ ((x : A) × Has ys x × P x) → (x : A) × Has (y ∷ ys) x × P x
    joined (inl p) = (y, inl refl, p)
    joined (inr h) = (h.0, inr h.1, h.2)

    by_place : (x : A) → Has (y ∷ ys) x → P x → P y ⊎ ((x : A) × Has ys x × P x)
    by_place x (inl e) p = inl (subst P (sym e) p)
    by_place x (inr h) p = inr (x, h, p)

    parted : ((x : A) × Has (y ∷ ys) x × P x) → P y ⊎ ((x : A) × Has ys x × P x)
    parted h = by_place h.0 h.1 h.2

-- some element is P
pub some_element : {A : Type 0} (P : A → Type 0) → ((x : A) → Decided (P x)) → (xs : List A) → Decided ((x : A) × Contains xs x × P x)
some_element P test xs = alike (λ h. (h.0, contains xs h.0 h.1, h.2)) (λ h. (h.0, has_in xs h.0 h.1, h.2)) (one_of P test xs)

pub each_element : {A : Type 0} (P : A → Type 0) → ((x : A) → Decided (P x)) → (xs : List A) → Decided (All P xs)
each_element P test [] = inl (All-nil P)
each_element P test (x ∷ xs) = alike (λ h. All-cons P x xs h.0 h.1) (λ h. (All-head P x xs h, All-tail P x xs h)) (both (test x) (each_element P test xs))

pub is_contained : {A : Type 0} → ((x y : A) → Decided (x ≡ y)) → (xs : List A) (x : A) → Decided (Contains xs x)
is_contained {A} same xs x = alike (λ h. subst (Contains xs) h.2 h.1) (λ h. (x, h, refl)) (some_element (λ (y : A). y ≡ x) (λ (y : A). same y x) xs)

-- one of the first n elements is P
module _ {A : Type 0} (P : A → Type 0) (test : (x : A) → Decided (P x)) (xs : List A) where
  abbrev Before : ℕ → Type 0
  Before n = (j : ℕ) × (x : A) × (j < n) × (slice_get xs j ≡ Some x) × P x

  abbrev At : ℕ → Type 0
  At n = (x : A) × (slice_get xs n ≡ Some x) × P x

  one_more : (n : ℕ) → At n ⊎ Before n → Before (suc n)
  one_more n (inl h) = (n, h.0, omega arith, h.1, h.2)
  one_more n (inr h) = let lt = h.2 in (h.0, h.1, omega (arith, lt), h.3, h.4)

  last_or_before : (n : ℕ) → Before (suc n) → At n ⊎ Before n
  last_or_before n h = by_place h.0 h.1 h.2 h.3 h.4 (cases_lt h.0 n)
    where
      by_place : (j : ℕ) (x : A) → j < suc n → slice_get xs j ≡ Some x → P x → (j < n) ⊎ (n ≤ j) → At n ⊎ Before n
      by_place j x lt e p (inl before) = inr (j, x, before, e, p)
      by_place j x lt e p (inr after) = let last : n ≡ j = omega (arith, lt, after) in inl (x, ap (slice_get xs) last ∙ e, p)

  pub one_before : (n : ℕ) → Decided (Before n)
  one_before zero = inr (λ h. let lt = h.2 in absurd (omega (arith, lt)))
  one_before (suc n) = alike (one_more n) (last_or_before n) (either (one_is P test (slice_get xs n)) (one_before n))

-- ---- types

abbrev width_of : ℕ → Width
width_of n = if nat_eq n 1 then W1 else if nat_eq n 8 then W8 else if nat_eq n 16 then W16 else W32

pub same_width : (v w : Width) → Decided (v ≡ w)
same_width v w = alike (λ e. sym (own v) ∙ ap width_of e ∙ own w) (λ e. ap bits e) (cases_eq (bits v) (bits w))
  where
    own : (u : Width) → width_of (bits u) ≡ u
    own W1 = refl
    own W8 = refl
    own W16 = refl
    own W32 = refl

pub same_scalar : (s t : Scalar) → Decided (s ≡ t)
same_scalar (scalar.Word v) (scalar.Word w) = alike (λ e. ap scalar.Word e) (λ e. inner e) (same_width v w)
  where
    inner : scalar.Word v ≡ scalar.Word w → v ≡ w
    inner e = cc
same_scalar (scalar.Word v) scalar.Pointer = inr (λ e. absurd cc)
same_scalar scalar.Pointer (scalar.Word w) = inr (λ e. absurd cc)
same_scalar scalar.Pointer scalar.Pointer = inl refl

same_result : (s t : Option Scalar) → Decided (s ≡ t)
same_result s t = same_option same_scalar s t

module _ (types : ℕ → Scalar) where
  pub has_type : (o : FlatOp) (s : Scalar) → Decided (HasType types o s)
  has_type (Reg r) s = same_scalar (types r.0) s
  has_type (Word a) (scalar.Word w) = is_less a (modulus w)
  has_type (Word a) scalar.Pointer = never
  has_type Null s = same_scalar s scalar.Pointer
  has_type (Address g k) s = both (same_scalar s scalar.Pointer) (is_less k 4294967296)
  has_type Poison s = always

  pub casts : (c : CastOp) (from to : Width) → Decided (is_cast c from to)
  casts Zext from to = is_less (bits from) (bits to)
  casts Sext from to = is_less (bits from) (bits to)
  casts Trunc from to = is_less (bits to) (bits from)

  pub receives : (d : Option RegId) (s : Option Scalar) → Decided (Receives types d s)
  receives None s = always
  receives (Some d) s = same_result s (Some (types d.0))

  pub all_typed : (os : List FlatOp) (ss : List Scalar) → Decided (AllTyped types os ss)
  all_typed [] [] = always
  all_typed [] (s ∷ ss) = never
  all_typed (o ∷ os) [] = never
  all_typed (o ∷ os) (s ∷ ss) = both (has_type o s) (all_typed os ss)

  abbrev IsTerm : Term → Type 0
  IsTerm t = HasType types t.operand (scalar.Word t.width)

  term_typed : (t : Term) → Decided (IsTerm t)
  term_typed t = has_type t.operand (scalar.Word t.width)

  pub instr_typed : (funcs : ℕ → FuncType) (i : FlatInstr) → Decided (IsTypedInstr types funcs i)
  instr_typed funcs (Bin d op w a b) = all_three (same_scalar (types d.0) (scalar.Word w)) (has_type a (scalar.Word w)) (has_type b (scalar.Word w))
  instr_typed funcs (Icmp d c s a b) = all_three (same_scalar (types d.0) (scalar.Word W1)) (has_type a s) (has_type b s)
  instr_typed funcs (Select d c a b) = all_three (has_type c (scalar.Word W1)) (has_type a (types d.0)) (has_type b (types d.0))
  instr_typed funcs (Cast d c from to a) = all_three (same_scalar (types d.0) (scalar.Word to)) (has_type a (scalar.Word from)) (casts c from to)
  instr_typed funcs (Copy d a) = has_type a (types d.0)
  instr_typed funcs (Alloca d size align) = same_scalar (types d.0) scalar.Pointer
  instr_typed funcs (Load d s align a) = both (same_scalar (types d.0) s) (has_type a scalar.Pointer)
  instr_typed funcs (Store s align v a) = both (has_type v s) (has_type a scalar.Pointer)
  instr_typed funcs (Gep d a k ts) = all_three (same_scalar (types d.0) scalar.Pointer) (has_type a scalar.Pointer) (each_element IsTerm term_typed ts)
  instr_typed funcs (Call d f args) = both (all_typed args (funcs f.0).params) (receives d (funcs f.0).result)
  instr_typed funcs (Put d a) = both (has_type a (scalar.Word W32)) (receives d (Some (scalar.Word W32)))
  instr_typed funcs (Get d) = receives d (Some (scalar.Word W32))
  instr_typed funcs (Exit a) = has_type a (scalar.Word W32)

  pub returns_type : (result : Option Scalar) (o : Option FlatOp) → Decided (ReturnsType types result o)
  returns_type None None = always
  returns_type (Some s) (Some a) = has_type a s
  returns_type None (Some a) = never
  returns_type (Some s) None = never

  pub end_typed : (result : Option Scalar) (e : FlatEnd) → Decided (IsTypedEnd types result e)
  end_typed result (Ret a) = returns_type result a
  end_typed result (Br b) = always
  end_typed result (Cond c t f) = has_type c (scalar.Word W1)
  end_typed result (Switch a w cases other) = has_type a (scalar.Word w)
  end_typed result Unreachable = always

pub is_align : (k : ℕ) → Decided (IsAlign k)
is_align k = is_contained cases_eq (1 ∷ 2 ∷ 4 ∷ 8 ∷ 16 ∷ []) k

-- ---- definitions on a path

pub is_written : (k : FlatBlock) (n r : ℕ) → Decided (IsWritten k n r)
is_written k n r =
    either (is_contained cases_eq (map (λ (f : Phi). f.reg.0) k.phis) r)
    (one_before (λ (i : FlatInstr). written_by i ≡ Some r) (λ (i : FlatInstr). same_option cases_eq (written_by i) (Some r)) k.code n)

pub comes_in : (body : FlatBody) (older : List ℕ) (r : ℕ) → Decided (ComesIn body older r)
comes_in body [] r = is_less r body.params
comes_in body (b ∷ older) r =
    either (one_is (λ (k : FlatBlock). IsWritten k (length k.code) r) (λ (k : FlatBlock). is_written k (length k.code) r) (slice_get body.blocks b)) (comes_in body older r)

pub comes_first : (body : FlatBody) (older : List ℕ) (k : FlatBlock) (n : ℕ) (o : FlatOp) → Decided (ComesFirst body older k n o)
comes_first body older k n (Reg r) = either (is_written k n r.0) (comes_in body older r.0)
comes_first body older k n (Word a) = always
comes_first body older k n Null = always
comes_first body older k n (Address g a) = always
comes_first body older k n Poison = always

-- ---- edges and operands

pub is_edge : (body : FlatBody) (a b : ℕ) → Decided (IsEdge body a b)
is_edge body a b = one_is (λ (k : FlatBlock). Contains (targets k.end) b) (λ (k : FlatBlock). is_contained cases_eq (targets k.end) b) (slice_get body.blocks a)

-- an operand as three numbers
abbrev kind : FlatOp → ℕ
kind (Reg r) = 0
kind (Word a) = 1
kind Null = 2
kind (Address g k) = 3
kind Poison = 4

abbrev number : FlatOp → ℕ
number (Reg r) = r.0
number (Word a) = a
number Null = 0
number (Address g k) = g
number Poison = 0

abbrev offset : FlatOp → ℕ
offset (Address g k) = k
offset o = 0

abbrev built : ℕ → ℕ → ℕ → FlatOp
built zero a k = Reg (record { 0 = a })
built (suc zero) a k = Word a
built (suc (suc zero)) a k = Null
built (suc (suc (suc zero))) a k = Address a k
built (suc (suc (suc (suc n)))) a k = Poison

rebuilt : (o : FlatOp) → built (kind o) (number o) (offset o) ≡ o
rebuilt (Reg r) = refl
rebuilt (Word a) = refl
rebuilt Null = refl
rebuilt (Address g k) = refl
rebuilt Poison = refl

pub same_operand : (a b : FlatOp) → Decided (a ≡ b)
same_operand a b = alike built_same (λ e. (ap kind e, ap number e, ap offset e)) (all_three (cases_eq (kind a) (kind b)) (cases_eq (number a) (number b)) (cases_eq (offset a) (offset b)))
  where
    built_same : (kind a ≡ kind b) × (number a ≡ number b) × (offset a ≡ offset b) → a ≡ b
    built_same e =
        sym (rebuilt a) ∙ ap (λ (x : ℕ). built x (number a) (offset a)) e.0 ∙ ap (λ (x : ℕ). built (kind b) x (offset a)) e.1 ∙ ap (λ (x : ℕ). built (kind b) (number b) x) e.2 ∙ rebuilt b

-- ---- bodies and programs

-- what is known of a safe body: each fact is so
pub record IsKnownBody (types : ℕ → Scalar) (funcs : ℕ → FuncType) (own : FuncType) (body : FlatBody) : Type 0 where
  pub own_params : (length own.params ≡ body.params) × ((q : ℕ) (s : Scalar) → slice_get own.params q ≡ Some s → types q ≡ s)
  pub entry : (k : FlatBlock) × IsBlock body 0 k × (k.phis ≡ [])
  pub in_range : (b c : ℕ) → IsEdge body b c → c < length body.blocks
  pub phis : (a b : ℕ) (k : FlatBlock) (f : Phi) → IsEdge body a b → IsBlock body b k → Contains k.phis f → (e : Entry) × Contains f.entries e × (e.from.0 ≡ a)
  pub phi_types : (b : ℕ) (k : FlatBlock) (f : Phi) → IsBlock body b k → Contains k.phis f → All (λ (e : Entry). HasType types e.value (types f.reg.0)) f.entries
  pub code : (b n : ℕ) (k : FlatBlock) (i : FlatInstr) → IsBlock body b k → slice_get k.code n ≡ Some i → IsTypedInstr types funcs i
  pub ends : (b : ℕ) (k : FlatBlock) → IsBlock body b k → IsTypedEnd types own.result k.end
  pub by_code : (b : ℕ) (older : List ℕ) (k : FlatBlock) (n : ℕ) (i : FlatInstr) → IsPath body (b ∷ older) → IsBlock body b k → slice_get k.code n ≡ Some i →
      All (ComesFirst body older k n) (used_by i)
  pub by_end : (b : ℕ) (older : List ℕ) (k : FlatBlock) → IsPath body (b ∷ older) → IsBlock body b k → All (ComesFirst body older k (length k.code)) (used_at_end k.end)
  pub by_phi : (b c : ℕ) (older : List ℕ) (k l : FlatBlock) (f : Phi) (e : Entry) → IsPath body (c ∷ b ∷ older) → IsBlock body b k → IsBlock body c l → Contains l.phis f →
      Contains f.entries e → e.from.0 ≡ b → ComesFirst body older k (length k.code) e.value

pub record IsKnown (p : Program) (types : ℕ → ℕ → Scalar) (funcs : ℕ → FuncType) : Type 0 where
  pub bodies : (f : ℕ) (body : FlatBody) → p.body f ≡ Some body → IsKnownBody (types f) funcs (funcs f) body
  pub has_main : (body : FlatBody) × (p.body p.main ≡ Some body)
  pub main_type : ((funcs p.main).params ≡ []) × ((funcs p.main).result ≡ Some (scalar.Word W32))
  pub called : (f b n : ℕ) (body : FlatBody) (k : FlatBlock) (d : Option RegId) (g : FuncId) (args : List FlatOp) → p.body f ≡ Some body → IsBlock body b k →
      slice_get k.code n ≡ Some (Call d g args) → (callee : FlatBody) × (p.body g.0 ≡ Some callee)

pub known_body : (types : ℕ → Scalar) (funcs : ℕ → FuncType) (own : FuncType) (body : FlatBody) → IsSafeBody types funcs own body → IsKnownBody types funcs own body
known_body types funcs own body s = record {
  own_params = s.own_params;
  entry = so (one_is (λ (k : FlatBlock). k.phis ≡ []) (λ (k : FlatBlock). is_empty k.phis) (slice_get body.blocks 0)) s.entry;
  in_range = λ b c edge. so (is_less c (length body.blocks)) (s.in_range b c edge);
  phis = λ a b k f edge is has. so (some_element (λ (e : Entry). e.from.0 ≡ a) (λ (e : Entry). cases_eq e.from.0 a) f.entries) (s.phis a b k f edge is has);
  phi_types = λ b k f is has. so (entries_typed f) (s.phi_types b k f is has);
  code = λ b n k i is at. so (instr_typed types funcs i) (s.code b n k i is at);
  ends = λ b k is. so (end_typed types own.result k.end) (s.ends b k is);
  by_code = λ b older k n i path is at. so (all_first older k n (used_by i)) (s.by_code b older k n i path is at);
  by_end = λ b older k path is. so (all_first older k (length k.code) (used_at_end k.end)) (s.by_end b older k path is);
  by_phi = λ b c older k l f e path is next has in_it from. so (comes_first body older k (length k.code) e.value) (s.by_phi b c older k l f e path is next has in_it from);
}
  where
    entries_typed : (f : Phi) → Decided (All (λ (e : Entry). HasType types e.value (types f.reg.0)) f.entries)
    entries_typed f = each_element (λ (e : Entry). HasType types e.value (types f.reg.0)) (λ (e : Entry). has_type types e.value (types f.reg.0)) f.entries

    all_first : (older : List ℕ) (k : FlatBlock) (n : ℕ) (os : List FlatOp) → Decided (All (ComesFirst body older k n) os)
    all_first older k n os = each_element (ComesFirst body older k n) (comes_first body older k n) os

pub known : (p : Program) (types : ℕ → ℕ → Scalar) (funcs : ℕ → FuncType) → IsSafe p types funcs → IsKnown p types funcs
known p types funcs s = record {
  bodies = λ f body is. known_body (types f) funcs (funcs f) body (s.bodies f body is);
  has_main = so (one_there (p.body p.main)) s.has_main;
  main_type = so (both (is_empty (funcs p.main).params) (same_result (funcs p.main).result (Some (scalar.Word W32)))) s.main_type;
  called = λ f b n body k d g args is at there. so (one_there (p.body g.0)) (s.called f b n body k d g args is at there);
}

pub defined_first : (types : ℕ → Scalar) (funcs : ℕ → FuncType) (own : FuncType) (body : FlatBody) → IsKnownBody types funcs own body → DefinedFirst body
defined_first types funcs own body h = record { by_code = h.by_code; by_end = h.by_end; by_phi = h.by_phi }

-- ---- sizes, alignments and cases

-- what an instruction of its types has to have besides
abbrev pub HasGoodSizes : FlatInstr → Type 0
HasGoodSizes (Alloca d size align) = IsAlign align × (size < 4294967296)
HasGoodSizes (Load d s align a) = IsAlign align × (scalar_size s ≤ align)
HasGoodSizes (Store s align v a) = IsAlign align × (scalar_size s ≤ align)
HasGoodSizes (Gep d a k ts) = (k < 4294967296) × All (λ (t : Term). t.stride < 4294967296) ts
HasGoodSizes (Call d f args) = length args ≤ 8
HasGoodSizes i = Unit {0}

-- the cases of a switch are different words of its width
abbrev pub HasFlatCases : FlatEnd → Type 0
HasFlatCases (Switch a w cases other) = All (λ (c : Case). c.word < modulus w) cases × DifferentCases cases
HasFlatCases e = Unit {0}

pub typed : (types : ℕ → Scalar) (funcs : ℕ → FuncType) (i : FlatInstr) → IsTypedInstr types funcs i → HasGoodSizes i → IsTyped types funcs i
typed types funcs (Bin d op w a b) t s = t
typed types funcs (Icmp d c k a b) t s = t
typed types funcs (Select d c a b) t s = t
typed types funcs (Cast d c from to a) t s = t
typed types funcs (Copy d a) t s = t
typed types funcs (Alloca d size align) t s = (t, s.0, s.1)
typed types funcs (Load d k align a) t s = (t.0, t.1, s.0, s.1)
typed types funcs (Store k align v a) t s = (t.0, t.1, s.0, s.1)
typed types funcs (Gep d a k ts) t s = (t.0, t.1, s.0, λ n e lt. (t.2 n e lt, s.1 n e lt))
typed types funcs (Call d f args) t s = (t.0, s, t.1)
typed types funcs (Put d a) t s = t
typed types funcs (Get d) t s = t
typed types funcs (Exit a) t s = t

pub typed_end : (types : ℕ → Scalar) (result : Option Scalar) (e : FlatEnd) → IsTypedEnd types result e → HasFlatCases e → IsEndTyped types result e
typed_end types result (Ret a) t s = t
typed_end types result (Br b) t s = t
typed_end types result (Cond c x y) t s = t
typed_end types result (Switch a w cases other) t s = (t, s.0, s.1)
typed_end types result Unreachable t s = t
