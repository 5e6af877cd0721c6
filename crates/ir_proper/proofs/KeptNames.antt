-- What becomes of the names where one appears.
use Rattle.std.proofs.Common.{◌≡◌, ◌≢◌, ℕ, ◌<◌, ◌+◌, Bool, true, false, cond, List, [], ◌∷◌, ◌++◌, length, refl, ◌∙◌, arith}
use Rattle.std.specs.Prelude.{Option, Some, None, position, nat_lt, not}
use Rattle.std.specs.List.{position_or_len, AllByRecursion as Each}
use Rattle.std.specs.Str.{bytes_eq}
use Rattle.std.proofs.lemmas.Bool.Decides.{nat_tests}
use Rattle.std.proofs.lemmas.List.{append-nil, length-append}
use Rattle.std.proofs.lemmas.Slice.Eq.{bytes_eq-Decides}
use Rattle.std.specs.Fmt.{decimal}
use Rattle.ir_core.specs.declared.module.SymId.{SymId}
use Rattle.ir_core.specs.declared.ty.TypeName.{TypeName}
use Rattle.ir_core.specs.declared.op.LocalId.{LocalId}
use Rattle.ir_grammar.specs.Names.{Names, Begins, placed, numbered, symbol, type_name, local, next_after, define, define_next}
use Rattle.ir_grammar.specs.Forms.{act}
use Rattle.ir_proper.proofs.Kept.{each_push, IsClean, Once, Fine, begins_same, begins_length, LocalsGrow, Grows, Keeps, keeps_act}

-- the place is within the list that there is then
pub placed_within : (o : Option ℕ) (name : List ℕ) (xs : List (List ℕ)) → ((k : ℕ) → o ≡ Some k → k < length xs) → (placed o name xs).0 < length (placed o name xs).1
placed_within (Some k) name xs h = h k refl
placed_within None name xs h = let e = length-append xs (name ∷ []) in omega (arith, e)

-- the name is put after the others, or is there
placed_begins : (o : Option ℕ) (name : List ℕ) (xs : List (List ℕ)) → Begins (placed o name xs).1 xs
placed_begins (Some k) name xs = begins_same xs
placed_begins None name xs = (name ∷ [], refl)

pub placed_clean : (o : Option ℕ) (name : List ℕ) (xs : List (List ℕ)) → Each IsClean xs → IsClean name → Each IsClean (placed o name xs).1
placed_clean (Some k) name xs h c = h
placed_clean None name xs h c = each_push IsClean xs name h c

once_push : (xs : List (List ℕ)) (name : List ℕ) → Once xs → Each (λ (x : List ℕ). x ≢ name) xs → Once (xs ++ name ∷ [])
once_push [] name h k = (tt, tt)
once_push (x ∷ xs) name h k = (each_push (λ (y : List ℕ). x ≢ y) xs name h.0 k.0, once_push xs name h.1 k.1)

pub placed_once : (o : Option ℕ) (name : List ℕ) (xs : List (List ℕ)) → Once xs → (o ≡ None → Each (λ (x : List ℕ). x ≢ name) xs) → Once (placed o name xs).1
placed_once (Some k) name xs h e = h
placed_once None name xs h e = once_push xs name h (e refl)

-- ---- a name's place in a list

found_within : {X : Type 0} (n : ℕ) (xs : List X) (c : Bool) (k : ℕ) → nat_lt n (length xs) ≡ c → cond c (Some n) None ≡ Some k → k < length xs
found_within n xs true k t e = let same : n ≡ k = cc in rw (← same) grind (arith, nat_tests)
found_within n xs false k t e = absurd cc

position_within : {X : Type 0} (p : X → Bool) (xs : List X) (k : ℕ) → position p xs ≡ Some k → k < length xs
position_within p xs k e = found_within (position_or_len p xs) xs (nat_lt (position_or_len p xs) (length xs)) k refl e

-- a list has no position that passes where none passes
lt_first : (n k : ℕ) → k ≡ n + 1 → nat_lt 0 k ≡ false → ⊥
lt_first n k e h = grind (arith, nat_tests)

lt_next : (m n k : ℕ) → k ≡ n + 1 → nat_lt (1 + m) k ≡ false → nat_lt m n ≡ false
lt_next m n k e h = grind (arith, nat_tests)

differs : (name x : List ℕ) → bytes_eq name x ≡ false → x ≢ name
differs name x e = λ same. grind (arith, bytes_eq-Decides name x, same)

none_is_it : (name : List ℕ) (xs : List (List ℕ)) → nat_lt (position_or_len (bytes_eq name) xs) (length xs) ≡ false → Each (λ (x : List ℕ). x ≢ name) xs
none_is_it name [] h = tt
none_is_it name (x ∷ xs) h = by (bytes_eq name x) refl h (none_is_it name xs)
  where
    by : (c : Bool) → bytes_eq name x ≡ c → nat_lt (cond (not c) (1 + position_or_len (bytes_eq name) xs) 0) (length (x ∷ xs)) ≡ false → (nat_lt (position_or_len (bytes_eq name) xs) (length xs) ≡ false → Each (λ (y : List ℕ). y ≢ name) xs) → Each (λ (y : List ℕ). y ≢ name) (x ∷ xs)
    by true e k more = absurd (lt_first (length xs) (length (x ∷ xs)) (omega arith) k)
    by false e k more = (differs name x e, more (lt_next (position_or_len (bytes_eq name) xs) (length xs) (length (x ∷ xs)) (omega arith) k))

absent_test : (n m : ℕ) (c : Bool) → cond c (Some n) None ≡ None → c ≡ false
absent_test n m true e = absurd cc
absent_test n m false e = refl

position_none : (name : List ℕ) (xs : List (List ℕ)) → position (bytes_eq name) xs ≡ None → Each (λ (x : List ℕ). x ≢ name) xs
position_none name xs e = none_is_it name xs (absent_test (position_or_len (bytes_eq name) xs) 0 (nat_lt (position_or_len (bytes_eq name) xs) (length xs)) e)

-- ---- a name appears

pub numbered_begins : (name : List ℕ) (xs : List (List ℕ)) → Begins (numbered name xs).1 xs
unfolding numbered
numbered_begins name xs = placed_begins (position (bytes_eq name) xs) name xs

pub numbered_within : (name : List ℕ) (xs : List (List ℕ)) → (numbered name xs).0 < length (numbered name xs).1
unfolding numbered
numbered_within name xs = placed_within (position (bytes_eq name) xs) name xs (λ k e. position_within (bytes_eq name) xs k e)

pub numbered_once : (name : List ℕ) (xs : List (List ℕ)) → Once xs → Once (numbered name xs).1
unfolding numbered
numbered_once name xs h = placed_once (position (bytes_eq name) xs) name xs h (λ e. position_none name xs e)

pub numbered_clean : (name : List ℕ) (xs : List (List ℕ)) → Each IsClean xs → IsClean name → Each IsClean (numbered name xs).1
unfolding numbered
numbered_clean name xs h c = placed_clean (position (bytes_eq name) xs) name xs h c

-- ---- acts on names

abbrev pub KnownSymbol : Names → SymId → Type 0
KnownSymbol n x = x.0 < length n.symbols

abbrev pub KnownType : Names → TypeName → Type 0
KnownType n x = x.0 < length n.types

abbrev pub KnownLocal : Names → LocalId → Type 0
KnownLocal n x = x.0 < length n.locals

pub locals_kept : (b : Bool) (s t : Names) → s.locals ≡ t.locals → LocalsGrow b s t
locals_kept true s t e = ([], append-nil s.locals ∙ e)
locals_kept false s t e = tt

symbol_grows : (b : Bool) (name : List ℕ) (s : Names) → Grows b s (symbol name s).1
unfolding symbol
symbol_grows b name s = record { symbols = numbered_begins name s.symbols; types = begins_same s.types; locals = locals_kept b s _ refl }

symbol_right : (b : Bool) (n : Names) (name : List ℕ) (s : Names) → IsClean name → Fine s → Grows b (symbol name s).1 n → KnownSymbol n (symbol name s).0 × Fine (symbol name s).1
unfolding symbol
symbol_right b n name s c w k =
    let e = numbered_within name s.symbols in let more = begins_length (numbered name s.symbols).1 n.symbols k.symbols in
    (omega (arith, e, more), record { symbols = numbered_once name s.symbols w.symbols; types = w.types; locals = w.locals; clean = numbered_clean name s.symbols w.clean c })

pub keeps_symbol : {b : Bool} {n : Names} {H : Type 0} (name : List ℕ) → (H → IsClean name) → Keeps b n H (act (symbol name)) (KnownSymbol n)
keeps_symbol {b = b} {n = n} name c = keeps_act (symbol name) (symbol_grows b name) (λ h s w k. symbol_right b n name s (c h) w k)

pub type_name_grows : (b : Bool) (name : List ℕ) (s : Names) → Grows b s (type_name name s).1
unfolding type_name
type_name_grows b name s = record { symbols = begins_same s.symbols; types = numbered_begins name s.types; locals = locals_kept b s _ refl }

pub type_name_right : (b : Bool) (n : Names) (name : List ℕ) (s : Names) → Fine s → Grows b (type_name name s).1 n → KnownType n (type_name name s).0 × Fine (type_name name s).1
unfolding type_name
type_name_right b n name s w k =
    let e = numbered_within name s.types in let more = begins_length (numbered name s.types).1 n.types k.types in
    (omega (arith, e, more), record { symbols = w.symbols; types = numbered_once name s.types w.types; locals = w.locals; clean = w.clean })

pub keeps_type_name : {b : Bool} {n : Names} {H : Type 0} (name : List ℕ) → Keeps b n H (act (type_name name)) (KnownType n)
keeps_type_name {b = b} {n = n} name = keeps_act (type_name name) (type_name_grows b name) (λ h s w k. type_name_right b n name s w k)

pub local_grows : (name : List ℕ) (s : Names) → Grows true s (local name s).1
unfolding local
local_grows name s = record { symbols = begins_same s.symbols; types = begins_same s.types; locals = numbered_begins name s.locals }

pub local_right : (n : Names) (name : List ℕ) (s : Names) → Fine s → Grows true (local name s).1 n → KnownLocal n (local name s).0 × Fine (local name s).1
unfolding local
local_right n name s w k =
    let e = numbered_within name s.locals in let more = begins_length (numbered name s.locals).1 n.locals k.locals in
    (omega (arith, e, more), record { symbols = w.symbols; types = w.types; locals = numbered_once name s.locals w.locals; clean = w.clean })

pub keeps_local : {n : Names} {H : Type 0} (name : List ℕ) → Keeps true n H (act (local name)) (KnownLocal n)
keeps_local {n = n} name = keeps_act (local name) (local_grows name) (λ h s w k. local_right n name s w k)

-- the next number changes alone
numbered_grows : (s : Names) (m : ℕ) (t : Names) → Grows true (record s { next = m }) t → Grows true s t
numbered_grows s m t k = record { symbols = k.symbols; types = k.types; locals = k.locals }

numbered_fine : (s : Names) (m : ℕ) → Fine s → Fine (record s { next = m })
numbered_fine s m w = record { symbols = w.symbols; types = w.types; locals = w.locals; clean = w.clean }

pub define_grows : (name : List ℕ) (s : Names) → Grows true s (define name s).1
unfolding define
define_grows name s = numbered_grows s (next_after name s.next) _ (local_grows name (record s { next = next_after name s.next }))

pub define_right : (n : Names) (name : List ℕ) (s : Names) → Fine s → Grows true (define name s).1 n → KnownLocal n (define name s).0 × Fine (define name s).1
unfolding define
define_right n name s w k = local_right n name (record s { next = next_after name s.next }) (numbered_fine s _ w) k

pub keeps_define : {n : Names} {H : Type 0} (name : List ℕ) → Keeps true n H (act (define name)) (KnownLocal n)
keeps_define {n = n} name = keeps_act (define name) (define_grows name) (λ h s w k. define_right n name s w k)

pub define_next_grows : (s : Names) → Grows true s (define_next s).1
unfolding define_next
define_next_grows s = define_grows (decimal s.next) s

pub define_next_right : (n s : Names) → Fine s → Grows true (define_next s).1 n → KnownLocal n (define_next s).0 × Fine (define_next s).1
unfolding define_next
define_next_right n s w k = define_right n (decimal s.next) s w k

pub keeps_define_next : {n : Names} {H : Type 0} → Keeps true n H (act define_next) (KnownLocal n)
keeps_define_next {n = n} = keeps_act define_next define_next_grows (λ h s w k. define_next_right n s w k)
