-- Names are ready exactly where as many symbols and type names have come as their demand needs, and the local names
-- are ready.
use Rattle.std.proofs.Common.{◌≡◌, refl, sym, ap, ◌∙◌, subst, ℕ, ◌+◌, ◌≤◌, Bool, true, false, nat_le, List, [], ◌∷◌, arith}
use Rattle.std.specs.Prelude.{max, fold, ◌&&◌, if◌then◌else◌, IsTrue}
use Rattle.std.proofs.lemmas.Bool.Decides.{nat_tests}
use Rattle.ir_lexer.specs.Strings.{is_name}
use Rattle.ir_printer.specs.declared.demands.Demand.{Demand}
use Rattle.ir_printer.specs.declared.demands.Known.{Known}
use Rattle.ir_printer.specs.declared.marks.Mark.{Mark}
use Rattle.ir_printer.specs.declared.marks.Mark.TheVariants as marks
use Rattle.ir_printer.specs.Layout.{tables}
use Rattle.ir_printer.specs.Order.{span_after, no_demand, demand_after, demand, known_beyond, fits}
use Rattle.ir_printer.specs.Tokens.{AreSpellable}
use Rattle.ir_printer.specs.Reprints.{Counts, past, after_mark, after, IsReady, AreReady}

-- ---- one name more

-- where a name is known or the next one, no more names are needed than there are
span_needs : (c x need reach : ℕ) → need ≤ c → x ≤ max c reach → (span_after (record { need = need; reach = reach }) x).need ≤ c
span_needs c x need reach h r = at (nat_le x reach) refl
  where
    at : (b : Bool) → nat_le x reach ≡ b → (if b then need else max need x) ≤ c
    at true e = h
    at false e = grind (arith, nat_tests)

-- what is needed after a name was needed before it
span_needed : (c x need reach : ℕ) → (span_after (record { need = need; reach = reach }) x).need ≤ c → need ≤ c
span_needed c x need reach = at (nat_le x reach) refl
  where
    at : (b : Bool) → nat_le x reach ≡ b → (if b then need else max need x) ≤ c → need ≤ c
    at true e h = h
    at false e h = omega arith

-- where no more names are needed than there are, a name is known or the next one
span_next : (c x need reach : ℕ) → (span_after (record { need = need; reach = reach }) x).need ≤ c → x ≤ max c reach
span_next c x need reach = at (nat_le x reach) refl
  where
    at : (b : Bool) → nat_le x reach ≡ b → (if b then need else max need x) ≤ c → x ≤ max c reach
    at true e h = grind (arith, nat_tests)
    at false e h = omega arith

past_reach : (c x reach : ℕ) → max (max c reach) (x + 1) ≡ max c (max reach (x + 1))
past_reach c x reach = omega arith

-- ---- one mark more

-- after a mark so many local names have come
abbrev pub local_after : ℕ → Mark → ℕ
local_after l (marks.Local x) = past l x.0
local_after l (marks.Label x) = past l x.0
local_after l m = l

-- a mark's local name has come, or is the next one
abbrev pub IsLocalReady : ℕ → Mark → Type 0
IsLocalReady l (marks.Local x) = x.0 ≤ l
IsLocalReady l (marks.Label x) = x.0 ≤ l
IsLocalReady l m = Unit {0}

abbrev pub AreLocalsReady : ℕ → List Mark → Type 0
AreLocalsReady l [] = Unit {0}
AreLocalsReady l (m ∷ ms) = IsLocalReady l m × AreLocalsReady (local_after l m) ms

-- as many have come as are needed
abbrev Meets : Known → Demand → Type 0
Meets k d = (d.symbols.need ≤ k.symbols) × (d.types.need ≤ k.types)

-- how many have come after marks of this demand
abbrev so_many : Known → Demand → ℕ → Counts
so_many k d l = record { symbols = max k.symbols d.symbols.reach; types = max k.types d.types.reach; locals = l }

-- what one more mark does
record OneMore (k : Known) (d : Demand) (l : ℕ) (m : Mark) : Type 0 where
  moves : after_mark (so_many k d l) m ≡ so_many k (demand_after d m) (local_after l m)
  meets : IsReady (so_many k d l) m → Meets k d → Meets k (demand_after d m)
  locals : IsReady (so_many k d l) m → IsLocalReady l m
  met : Meets k (demand_after d m) → Meets k d
  ready : Meets k (demand_after d m) → IsLocalReady l m → IsReady (so_many k d l) m

one_more : (k : Known) (d : Demand) (l : ℕ) (m : Mark) → OneMore k d l m
one_more k d l (marks.Symbol x) = record {
  moves = ap (λ (j : ℕ). record { symbols = j; types = max k.types d.types.reach; locals = l }) (past_reach k.symbols x.0 d.symbols.reach);
  meets = λ r h. (span_needs k.symbols x.0 d.symbols.need d.symbols.reach h.0 r, h.1);
  locals = λ r. tt;
  met = λ h. (span_needed k.symbols x.0 d.symbols.need d.symbols.reach h.0, h.1);
  ready = λ h o. span_next k.symbols x.0 d.symbols.need d.symbols.reach h.0;
}
one_more k d l (marks.TypeName x) = record {
  moves = ap (λ (j : ℕ). record { symbols = max k.symbols d.symbols.reach; types = j; locals = l }) (past_reach k.types x.0 d.types.reach);
  meets = λ r h. (h.0, span_needs k.types x.0 d.types.need d.types.reach h.1 r);
  locals = λ r. tt;
  met = λ h. (h.0, span_needed k.types x.0 d.types.need d.types.reach h.1);
  ready = λ h o. span_next k.types x.0 d.types.need d.types.reach h.1;
}
one_more k d l (marks.Local x) = record { moves = refl; meets = λ r h. h; locals = λ r. r; met = λ h. h; ready = λ h o. o }
one_more k d l (marks.Label x) = record { moves = refl; meets = λ r h. h; locals = λ r. r; met = λ h. h; ready = λ h o. o }
one_more k d l (marks.Word w) = record { moves = refl; meets = λ r h. h; locals = λ r. tt; met = λ h. h; ready = λ h o. tt }
one_more k d l (marks.Int i) = record { moves = refl; meets = λ r h. h; locals = λ r. tt; met = λ h. h; ready = λ h o. tt }
one_more k d l (marks.Str said) = record { moves = refl; meets = λ r h. h; locals = λ r. tt; met = λ h. h; ready = λ h o. tt }
one_more k d l (marks.CStr said) = record { moves = refl; meets = λ r h. h; locals = λ r. tt; met = λ h. h; ready = λ h o. tt }
one_more k d l (marks.Spaced s) = record { moves = refl; meets = λ r h. h; locals = λ r. tt; met = λ h. h; ready = λ h o. tt }
one_more k d l (marks.Closing s) = record { moves = refl; meets = λ r h. h; locals = λ r. tt; met = λ h. h; ready = λ h o. tt }
one_more k d l (marks.Opening s) = record { moves = refl; meets = λ r h. h; locals = λ r. tt; met = λ h. h; ready = λ h o. tt }
one_more k d l (marks.Joined s) = record { moves = refl; meets = λ r h. h; locals = λ r. tt; met = λ h. h; ready = λ h o. tt }
one_more k d l marks.Line = record { moves = refl; meets = λ r h. h; locals = λ r. tt; met = λ h. h; ready = λ h o. tt }
one_more k d l marks.Indented = record { moves = refl; meets = λ r h. h; locals = λ r. tt; met = λ h. h; ready = λ h o. tt }

-- ---- marks one after the other

all_meet : (k : Known) (d : Demand) (l : ℕ) (ms : List Mark) → AreReady (so_many k d l) ms → Meets k d → Meets k (fold demand_after d ms)
all_meet k d l [] r h = h
all_meet k d l (m ∷ ms) r h = let o = one_more k d l m in all_meet k (demand_after d m) (local_after l m) ms (subst (λ (c : Counts). AreReady c ms) o.moves r.1) (o.meets r.0 h)

all_locals : (k : Known) (d : Demand) (l : ℕ) (ms : List Mark) → AreReady (so_many k d l) ms → AreLocalsReady l ms
all_locals k d l [] r = tt
all_locals k d l (m ∷ ms) r = let o = one_more k d l m in (o.locals r.0, all_locals k (demand_after d m) (local_after l m) ms (subst (λ (c : Counts). AreReady c ms) o.moves r.1))

all_met : (k : Known) (d : Demand) (l : ℕ) (ms : List Mark) → Meets k (fold demand_after d ms) → Meets k d
all_met k d l [] h = h
all_met k d l (m ∷ ms) h = (one_more k d l m).met (all_met k (demand_after d m) (local_after l m) ms h)

all_ready : (k : Known) (d : Demand) (l : ℕ) (ms : List Mark) → Meets k (fold demand_after d ms) → AreLocalsReady l ms → AreReady (so_many k d l) ms
all_ready k d l [] h o = tt
all_ready k d l (m ∷ ms) h o =
    let one = one_more k d l m in
    (one.ready (all_met k (demand_after d m) (local_after l m) ms h) o.0, subst (λ (c : Counts). AreReady c ms) (sym one.moves) (all_ready k (demand_after d m) (local_after l m) ms h o.1))

all_after : (k : Known) (d : Demand) (l : ℕ) (ms : List Mark) → after (so_many k d l) ms ≡ so_many k (fold demand_after d ms) (fold local_after l ms)
all_after k d l [] = refl
all_after k d l (m ∷ ms) = ap (λ (c : Counts). after c ms) (one_more k d l m).moves ∙ all_after k (demand_after d m) (local_after l m) ms

-- ---- from the begin of a part

abbrev pub known_of : Counts → Known
known_of c = record { symbols = c.symbols; types = c.types }

pub max_zero : (k : ℕ) → max k 0 ≡ k
max_zero k = omega arith

at_first : (c : Counts) → so_many (known_of c) no_demand c.locals ≡ c
at_first c = ap (λ (j : ℕ). record { symbols = j; types = max c.types 0; locals = c.locals }) (max_zero c.symbols) ∙ ap (λ (j : ℕ). record { symbols = c.symbols; types = j; locals = c.locals }) (max_zero c.types)

fitting : (a b c d : ℕ) → a ≤ b → c ≤ d → (nat_le a b && nat_le c d) ≡ true
fitting a b c d h g = grind (arith, nat_tests)

fitted : (a b c d : ℕ) → (nat_le a b && nat_le c d) ≡ true → (a ≤ b) × (c ≤ d)
fitted a b c d h = (grind (arith, nat_tests), grind (arith, nat_tests))

-- where the names of marks are ready, their demand fits
pub ready_fits : (c : Counts) (ms : List Mark) → AreReady c ms → fits (known_of c) (demand ms) ≡ true
ready_fits c ms r =
    let h = all_meet (known_of c) no_demand c.locals ms (subst (λ (b : Counts). AreReady b ms) (sym (at_first c)) r) (omega arith, omega arith) in
    let d = demand ms in
    fitting d.symbols.need c.symbols d.types.need c.types h.0 h.1

-- and the local names are ready
pub ready_locals : (c : Counts) (ms : List Mark) → AreReady c ms → AreLocalsReady c.locals ms
ready_locals c ms r = all_locals (known_of c) no_demand c.locals ms (subst (λ (b : Counts). AreReady b ms) (sym (at_first c)) r)

-- where the demand of marks fits and their local names are ready, all their names are ready
pub fits_ready : (c : Counts) (ms : List Mark) → fits (known_of c) (demand ms) ≡ true → AreLocalsReady c.locals ms → AreReady c ms
fits_ready c ms h o =
    let d = demand ms in
    subst (λ (b : Counts). AreReady b ms) (at_first c) (all_ready (known_of c) no_demand c.locals ms (fitted d.symbols.need c.symbols d.types.need c.types h) o)

-- how many symbols and type names have come after marks
pub known_beyond_marks : (c : Counts) (ms : List Mark) → known_of (after c ms) ≡ known_beyond (known_of c) (demand ms)
known_beyond_marks c ms = ap (λ (b : Counts). known_of (after b ms)) (sym (at_first c)) ∙ ap known_of (all_after (known_of c) no_demand c.locals ms)

-- how many local names have come after marks
pub locals_after_marks : (c : Counts) (ms : List Mark) → (after c ms).locals ≡ fold local_after c.locals ms
locals_after_marks c ms = ap (λ (b : Counts). (after b ms).locals) (sym (at_first c)) ∙ ap (λ (b : Counts). b.locals) (all_after (known_of c) no_demand c.locals ms)

-- ---- marks without local names

no_empty_name : IsTrue (is_name []) → ⊥
unfolding is_name
no_empty_name h = absurd cc

-- what can be spelled without a table of local names names none
pub spellable_locals : (symbols types : List (List ℕ)) (ms : List Mark) → AreSpellable (tables symbols types []) ms → (l : ℕ) → AreLocalsReady l ms
spellable_locals symbols types [] h l = tt
spellable_locals symbols types (marks.Local x ∷ ms) h l = absurd (no_empty_name h.0.0)
spellable_locals symbols types (marks.Label x ∷ ms) h l = absurd (no_empty_name h.0.0)
spellable_locals symbols types (marks.Symbol x ∷ ms) h l = (tt, spellable_locals symbols types ms h.1 l)
spellable_locals symbols types (marks.TypeName x ∷ ms) h l = (tt, spellable_locals symbols types ms h.1 l)
spellable_locals symbols types (marks.Word w ∷ ms) h l = (tt, spellable_locals symbols types ms h.1 l)
spellable_locals symbols types (marks.Int i ∷ ms) h l = (tt, spellable_locals symbols types ms h.1 l)
spellable_locals symbols types (marks.Str said ∷ ms) h l = (tt, spellable_locals symbols types ms h.1 l)
spellable_locals symbols types (marks.CStr said ∷ ms) h l = (tt, spellable_locals symbols types ms h.1 l)
spellable_locals symbols types (marks.Spaced s ∷ ms) h l = (tt, spellable_locals symbols types ms h.1 l)
spellable_locals symbols types (marks.Closing s ∷ ms) h l = (tt, spellable_locals symbols types ms h.1 l)
spellable_locals symbols types (marks.Opening s ∷ ms) h l = (tt, spellable_locals symbols types ms h.1 l)
spellable_locals symbols types (marks.Joined s ∷ ms) h l = (tt, spellable_locals symbols types ms h.1 l)
spellable_locals symbols types (marks.Line ∷ ms) h l = (tt, spellable_locals symbols types ms h.1 l)
spellable_locals symbols types (marks.Indented ∷ ms) h l = (tt, spellable_locals symbols types ms h.1 l)
