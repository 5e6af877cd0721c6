-- Sites, labels and sets of functions, by their numbers.
use Rattle.std.specs.Prelude.{ℕ, Bool, true, false, ◌&&◌, ◌||◌, nat_eq, List, [], ◌∷◌, Option, Some, None, ◌≡◌, ◌≢◌, if◌then◌else◌}
use Rattle.decisions.specs.declared.maps.Label.{Label}
use Rattle.decisions.specs.declared.maps.Label.TheVariants.{Keep, Inline}

-- the sites that may be inlined, in text order, and the functions of each; every other site is kept
pub record SiteGraph : Type 0 where
  pub sites : List ℕ
  pub caller : ℕ → ℕ
  pub callee : ℕ → ℕ

-- the label of each site, none where it is undecided; a site that may not be inlined has the label keep
abbrev pub Labels : Type 0
Labels = ℕ → Option Label

abbrev pub with_label : Labels → ℕ → Label → Labels
with_label p s l q = if nat_eq q s then Some l else p q

abbrev pub is_open : Option Label → Bool
is_open None = true
is_open (Some l) = false

-- a site that isn't kept joins its functions
abbrev pub joins : Option Label → Bool
joins None = true
joins (Some Inline) = true
joins (Some Keep) = false

-- whether a number is in the list
abbrev pub has : List ℕ → ℕ → Bool
has [] f = false
has (x ∷ xs) f = nat_eq x f || has xs f

-- a site is inside a set where its caller and callee are
abbrev pub inside : SiteGraph → List ℕ → ℕ → Bool
inside g fs s = has fs (g.caller s) && has fs (g.callee s)

-- no number stands twice
abbrev pub Distinct : List ℕ → Type 0
Distinct [] = Unit {0}
Distinct (x ∷ xs) = (has xs x ≡ false) × Distinct xs

-- what isn't kept is a site, and each site with exactly one end in the set is kept
pub record Closed (g : SiteGraph) (p : Labels) (fs : List ℕ) : Type 0 where
  pub over : (s : ℕ) → p s ≢ Some Keep → has g.sites s ≡ true
  pub ends : (s : ℕ) → has fs (g.caller s) ≢ has fs (g.callee s) → p s ≡ Some Keep
  pub distinct : Distinct fs
