-- Trees depend on the labels of the sites inside the set alone.
use Rattle.std.proofs.Common.{◌≡◌, ℕ, refl, sym, ap, ap₂, ◌∙◌, subst, inl, inr, Bool, true, false, ◌&&◌, nat_eq, if◌then◌else◌, List, [], ◌∷◌, ◌++◌, length, map, Some}
use Rattle.std.specs.Prelude.{nat_lt}
use Rattle.std.specs.List.{filter}
use Rattle.std.proofs.lemmas.Bool.{and_parts, and_from}
use Rattle.ir_core.proofs.Lists.{Has, map_source}
use Rattle.decisions.specs.declared.maps.Label.{Label}
use Rattle.decisions.specs.declared.maps.Label.TheVariants.{Keep, Inline}
use Rattle.component_split.specs.Graph.{SiteGraph, Labels, with_label, has, inside, joins, is_open}
use Rattle.component_split.specs.Split.{joined_at, joins_inside, lowest_by, lowest, component, roots, components, open_sites, is_bridge}
use Rattle.component_split.specs.Chosen.{first_bridge, heaviest, chosen_of, chosen}
use Rattle.component_split.specs.Tree.{Tree, leaf, branch, split, Parts, done, more, is_empty, is_decided, is_several, IsTree, AreTrees}
use Rattle.component_split.specs.States.{AgreeInside, SamePoint, SamePoints, Point, HaveTrees}
use Rattle.component_split.proofs.Lists.{has_head, has_tail, filter_same}
use Rattle.component_split.proofs.Merge.{has_filter}

-- a component is a part of the set
pub part_inside : (g : SiteGraph) (p : Labels) (fs c : List ℕ) → Has (components g p fs) c → (s : ℕ) → inside g c s ≡ true → inside g fs s ≡ true
unfolding components
part_inside g p fs c h s i =
    let m = map_source (component g p fs) (roots g p fs) c h in
    wider m.0 (subst (λ (xs : List ℕ). inside g xs s ≡ true) (sym m.2) i)
  where
    within : (r f : ℕ) → has (component g p fs r) f ≡ true → has fs f ≡ true
    within r f h = (and_parts (nat_eq (lowest g p fs f) r) (has fs f) (sym (has_filter (λ f. nat_eq (lowest g p fs f) r) fs f) ∙ h)).1

    wider : (r : ℕ) → inside g (component g p fs r) s ≡ true → inside g fs s ≡ true
    wider r i =
        let ends = and_parts (has (component g p fs r) (g.caller s)) (has (component g p fs r) (g.callee s)) i in
        and_from (has fs (g.caller s)) (has fs (g.callee s)) (within r (g.caller s) ends.0) (within r (g.callee s) ends.1)

module _ (g : SiteGraph) (fs : List ℕ) (p q : Labels) (agree : AgreeInside g fs p q) where
  agree_joins : (s : ℕ) → has g.sites s ≡ true → joins_inside g p fs s ≡ joins_inside g q fs s
  agree_joins s h = one (inside g fs s) refl
    where
      one : (b : Bool) → inside g fs s ≡ b → joins_inside g p fs s ≡ joins_inside g q fs s
      one true e = ap (λ l. inside g fs s && joins l) (agree s h e)
      one false e = ap (λ b. b && joins (p s)) e ∙ sym (ap (λ b. b && joins (q s)) e)

  agree_by : (ss : List ℕ) → ((s : ℕ) → has ss s ≡ true → has g.sites s ≡ true) → (f : ℕ) → lowest_by g p fs ss f ≡ lowest_by g q fs ss f
  unfolding lowest_by
  agree_by [] h f = refl
  agree_by (s ∷ ss) h f =
      let rest : (x : ℕ) → lowest_by g p fs ss x ≡ lowest_by g q fs ss x = λ x. agree_by ss (λ t i. h t (has_tail s t ss i)) x in
      ap (λ b. joined_at b (lowest_by g p fs ss (g.caller s)) (lowest_by g p fs ss (g.callee s)) (lowest_by g p fs ss f)) (agree_joins s (h s (has_head s ss)))
      ∙ ap (λ x. joined_at (joins_inside g q fs s) x (lowest_by g p fs ss (g.callee s)) (lowest_by g p fs ss f)) (rest (g.caller s))
      ∙ ap (λ x. joined_at (joins_inside g q fs s) (lowest_by g q fs ss (g.caller s)) x (lowest_by g p fs ss f)) (rest (g.callee s))
      ∙ ap (λ x. joined_at (joins_inside g q fs s) (lowest_by g q fs ss (g.caller s)) (lowest_by g q fs ss (g.callee s)) x) (rest f)

  agree_lowest : lowest g p fs ≡ lowest g q fs
  agree_lowest = λ i f. agree_by g.sites (λ s h. h) f i

  agree_roots : roots g p fs ≡ roots g q fs
  agree_roots = ap (λ (low : ℕ → ℕ). filter (λ f. nat_eq (low f) f) fs) agree_lowest

  pub agree_components : components g p fs ≡ components g q fs
  unfolding components
  agree_components = ap (λ (low : ℕ → ℕ). map (λ r. filter (λ f. nat_eq (low f) r) fs) (filter (λ f. nat_eq (low f) f) fs)) agree_lowest

  agree_open : open_sites g p fs ≡ open_sites g q fs
  unfolding open_sites
  agree_open = filter_same (λ s. inside g fs s && is_open (p s)) (λ s. inside g fs s && is_open (q s)) g.sites (λ s h. one s h (inside g fs s) refl)
    where
      one : (s : ℕ) → has g.sites s ≡ true → (b : Bool) → inside g fs s ≡ b → (inside g fs s && is_open (p s)) ≡ (inside g fs s && is_open (q s))
      one s h true e = ap (λ l. inside g fs s && is_open l) (agree s h e)
      one s h false e = ap (λ b. b && is_open (p s)) e ∙ sym (ap (λ b. b && is_open (q s)) e)

  agree_decided : is_decided g p fs ≡ is_decided g q fs
  agree_decided = ap is_empty agree_open

  agree_several : is_several g p fs ≡ is_several g q fs
  agree_several = ap (λ (rs : List ℕ). nat_lt 1 (length rs)) agree_roots

  agree_label : (s : ℕ) (l : Label) → AgreeInside g fs (with_label p s l) (with_label q s l)
  agree_label s l t h i = ap (λ x. if nat_eq t s then Some l else x) (agree t h i)

agree_first : (g : SiteGraph) (fs : List ℕ) (p q : Labels) → AgreeInside g fs p q → (ss : List ℕ) (other : ℕ) → first_bridge g p fs ss other ≡ first_bridge g q fs ss other
agree_first g fs p q a [] other = refl
agree_first g fs p q a (s ∷ ss) other =
    let e : is_bridge g p fs s ≡ is_bridge g q fs s = ap (λ (cs : List (List ℕ)). nat_lt 1 (length cs)) (agree_components g fs (with_label p s Keep) (with_label q s Keep) (agree_label g fs p q a s Keep)) in
    ap₂ (λ b x. if b then s else x) e (agree_first g fs p q a ss other)

agree_chosen : (g : SiteGraph) (fs : List ℕ) (p q : Labels) → AgreeInside g fs p q → chosen g p fs ≡ chosen g q fs
unfolding chosen
agree_chosen g fs p q a = ap (chosen_of g p fs) (agree_open g fs p q a) ∙ one (open_sites g q fs)
  where
    one : (us : List ℕ) → chosen_of g p fs us ≡ chosen_of g q fs us
    one [] = refl
    one (s ∷ ss) = agree_first g fs p q a (s ∷ ss) (heaviest g (s ∷ ss) s ss)

mutual
  pub same_tree : (t : Tree) (g : SiteGraph) (fs : List ℕ) (p q : Labels) → AgreeInside g fs p q → IsTree g p fs t → IsTree g q fs t
  same_tree leaf g fs p q a h = sym (agree_decided g fs p q a) ∙ h
  same_tree (branch s k i) g fs p q a h = (
    sym (agree_decided g fs p q a) ∙ h.0,
    sym (agree_several g fs p q a) ∙ h.1,
    h.2 ∙ agree_chosen g fs p q a,
    same_tree k g fs (with_label p s Keep) (with_label q s Keep) (agree_label g fs p q a s Keep) h.3,
    same_tree i g fs (with_label p s Inline) (with_label q s Inline) (agree_label g fs p q a s Inline) h.4,
  )
  same_tree (split ts) g fs p q a h = (
    sym (agree_decided g fs p q a) ∙ h.0,
    sym (agree_several g fs p q a) ∙ h.1,
    subst (λ (cs : List (List ℕ)). AreTrees g q cs ts) (agree_components g fs p q a) (same_parts ts g p q (components g p fs) (λ c i s k j. a s k (part_inside g p fs c i s j)) h.2),
  )

  same_parts : (ts : Parts) (g : SiteGraph) (p q : Labels) (cs : List (List ℕ)) → ((c : List ℕ) → Has cs c → AgreeInside g c p q) → AreTrees g p cs ts → AreTrees g q cs ts
  same_parts done g p q [] a h = tt
  same_parts done g p q (c ∷ cs) a h = absurd h
  same_parts (more t ts) g p q [] a h = absurd h
  same_parts (more t ts) g p q (c ∷ cs) a h = (same_tree t g c p q (a c (inl refl)) h.0, same_parts ts g p q cs (λ d i. a d (inr i)) h.1)

-- ---- lists of states

pub same_refl : (g : SiteGraph) (xs : List Point) → SamePoints g xs xs
same_refl g [] = tt
same_refl g (x ∷ xs) = ((refl, λ s h i. refl), same_refl g xs)

pub same_more : (g : SiteGraph) (xs ys : List Point) (x y : Point) → SamePoints g xs ys → SamePoint g x y → SamePoints g (xs ++ x ∷ []) (ys ++ y ∷ [])
same_more g [] [] x y h i = (i, tt)
same_more g [] (y ∷ ys) x z h i = absurd h
same_more g (x ∷ xs) [] z y h i = absurd h
same_more g (x ∷ xs) (y ∷ ys) z w h i = (h.0, same_more g xs ys z w h.1 i)

-- states that are the same inside their sets have the same trees
pub same_trees : (g : SiteGraph) (xs ys : List Point) (ts : List Tree) → SamePoints g xs ys → HaveTrees g ys ts → HaveTrees g xs ts
same_trees g [] [] ts h i = i
same_trees g [] (y ∷ ys) ts h i = absurd h
same_trees g (x ∷ xs) [] ts h i = absurd h
same_trees g (x ∷ xs) (y ∷ ys) [] h i = i
same_trees g (x ∷ xs) (y ∷ ys) (t ∷ ts) h i = (same_tree t g x.1 y.0 x.0 (λ s k j. sym (h.0.1 s k j)) (subst (λ (fs : List ℕ). IsTree g y.0 fs t) (sym h.0.0) i.0), same_trees g xs ys ts h.1 i.1)
