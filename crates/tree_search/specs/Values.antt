-- The value of a tree of the search, how many nodes it has, and the map that its taken leaves decide.
use Rattle.std.specs.Prelude.{ℕ, ◌+◌, max, Bool, true, false, nat_lt, if◌then◌else◌, List, [], ◌∷◌, Some, None}
use Rattle.decisions.specs.declared.maps.Label.TheVariants.{Keep, Inline}
use Rattle.component_split.specs.Graph.{SiteGraph, Labels, with_label, has}
use Rattle.component_split.specs.Split.{components}
use Rattle.inline_certificate.specs.Trees.{Tree, leaf, branch, cut, split, Parts, done, more}
use Rattle.size_measure.specs.Maps.{Map, filled}
use Rattle.size_measure.specs.Sizes.{Size, plus, lesser}

-- a cut child has none
abbrev mutual
  pub value : Tree → Size
  value (leaf v) = v
  value (branch s k i) = lesser (value k) (value i)
  value (cut s k b) = value k
  value (split hs ts) = values ts

  pub values : Parts → Size
  values done = Some 0
  values (more t ts) = plus (value t) (values ts)

-- a cut is one
abbrev mutual
  pub visits : Tree → ℕ
  visits (leaf v) = 1
  visits (branch s k i) = 1 + (visits k + visits i)
  visits (cut s k b) = 1 + (visits k + 1)
  visits (split hs ts) = 1 + visits_of ts

  pub visits_of : Parts → ℕ
  visits_of done = 0
  visits_of (more t ts) = visits t + visits_of ts

-- of the root 1
abbrev mutual
  pub depth : Tree → ℕ
  depth (leaf v) = 1
  depth (branch s k i) = 1 + max (depth k) (depth i)
  depth (cut s k b) = 1 + max (depth k) 1
  depth (split hs ts) = 1 + depth_of ts

  pub depth_of : Parts → ℕ
  depth_of done = 0
  depth_of (more t ts) = max (depth t) (depth_of ts)

-- whether the inline child is taken: it has a value, and the keep child has none or a greater one
abbrev pub takes_inline : Size → Size → Bool
takes_inline a None = false
takes_inline None (Some b) = true
takes_inline (Some a) (Some b) = nat_lt b a

-- the labels of the taken leaves; what no leaf decides is kept
abbrev mutual
  pub pick : SiteGraph → Labels → List ℕ → Tree → Map
  pick g p fs (leaf v) q = filled Keep p q
  pick g p fs (branch s k i) q = if takes_inline (value k) (value i) then pick g (with_label p s.0 Inline) fs i q else pick g (with_label p s.0 Keep) fs k q
  pick g p fs (cut s k b) q = pick g (with_label p s.0 Keep) fs k q
  pick g p fs (split hs ts) q = picks g p (components g p fs) ts q

  pub picks : SiteGraph → Labels → List (List ℕ) → Parts → Map
  picks g p [] done q = filled Keep p q
  picks g p [] (more t ts) q = filled Keep p q
  picks g p (c ∷ cs) done q = filled Keep p q
  picks g p (c ∷ cs) (more t ts) q = if has c (g.caller q) then pick g p c t q else picks g p cs ts q
