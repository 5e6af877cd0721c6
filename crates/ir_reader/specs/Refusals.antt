-- When a text is refused, and with which fault. The first place in the text decides; at one place a lexical fault comes
-- before a limit, and this before a token that is left out, and this before any other. The limit on call sites comes last.
use Rattle.std.specs.Prelude.{◌≡◌, ◌⊎◌, ◌≤◌, ℕ, Bool, true, false, List, length, Some, slice_get}
use Rattle.oi_base.specs.declared.ids.Place.{Place}
use Rattle.ir_lexer.specs.declared.table.Spot.{Spot}
use Rattle.ir_core.specs.declared.limits.TheConstants.{MOST_SITES}
use Rattle.ir_core.specs.declared.module.Module as modules
use Rattle.call_graph.specs.declared.sites.Site.{Site}
use Rattle.call_graph.specs.Sites.{all_sites}
use Rattle.ir_grammar.specs.declared.which.Which.{Which}
use Rattle.ir_grammar.specs.declared.which.Which.TheVariants as limits
use Rattle.ir_grammar.specs.Pieces.{Piece, Is, Bad}
use Rattle.ir_grammar.specs.Words.{is_left_out}
use Rattle.ir_grammar.specs.Reading.{ReadsWithinLimits, FirstRefused, ExceedsAt}
use Rattle.ir_phrases.specs.declared.fault.ReadFault.{ReadFault}
use Rattle.ir_phrases.specs.declared.fault.ReadFault.TheVariants as faults

-- the text of a module within all limits
abbrev pub ReadsWithin : List ℕ → modules.Module → Type 0
ReadsWithin bytes m = ReadsWithinLimits bytes m × (length (all_sites m.funcs) ≤ MOST_SITES)

-- the text exceeds none of the limits but that on call sites
abbrev pub ExceedsNone : List ℕ → Type 0
ExceedsNone bytes = (w : Which) (u : List Piece) (t : Spot) (rest : List Piece) → ExceedsAt bytes w u t rest → ⊥

-- the token at this place, which is left out by name or not, is the first with which no accepted text goes on
abbrev pub RefusesToken : List ℕ → Place → Bool → Type 0
RefusesToken bytes p named = (u rest : List Piece) × (t : Spot) × FirstRefused bytes u (Is t) rest × (t.place ≡ p) × (is_left_out t.token ≡ named) × ExceedsNone bytes

-- the call site at this place is the first beyond the limit
abbrev pub ExceedsSites : List ℕ → Place → Type 0
ExceedsSites bytes p = (m : modules.Module) × ReadsWithinLimits bytes m × (s : Site) × (slice_get (all_sites m.funcs) MOST_SITES ≡ Some s) × (s.place ≡ p)

-- the token at this place exceeds this limit; no token exceeds that on call sites, which is tested last
abbrev pub ExceedsLimit : List ℕ → Which → Place → Type 0
ExceedsLimit bytes w p =
    ((u rest : List Piece) × (t : Spot) × ExceedsAt bytes w u t rest × (t.place ≡ p))
    ⊎ ((w ≡ limits.Sites) × ExceedsSites bytes p)

-- the text is refused so
abbrev pub IsRefusal : List ℕ → ReadFault → Type 0
IsRefusal bytes (faults.Lexical e) = ((u rest : List Piece) × FirstRefused bytes u (Bad e) rest) × ExceedsNone bytes
IsRefusal bytes (faults.Syntax p) = RefusesToken bytes p false
IsRefusal bytes (faults.LeftOut p) = RefusesToken bytes p true
IsRefusal bytes (faults.Limit p w) = ExceedsLimit bytes w p
IsRefusal bytes faults.NoMemory = Unit {0}
