-- What a certificate's tree is worth over a state, or the first clause that it breaks, in preorder; then the root, then the map.
use Rattle.std.specs.Prelude.{ℕ, ◌+◌, Bool, true, false, nat_eq, nat_le, if◌then◌else◌, List, [], ◌∷◌, length, Option, Some, None, Result, Ok, Err}
use Rattle.ir_core.specs.declared.module.Module.{Module}
use Rattle.call_graph.specs.Graph.{Graph}
use Rattle.decisions.specs.declared.maps.Label.TheVariants.{Keep, Inline}
use Rattle.component_split.specs.Graph.{Labels, with_label, has}
use Rattle.component_split.specs.Split.{open_sites, roots, components}
use Rattle.component_split.specs.Over.{site_graph, reached_from, func_numbers}
use Rattle.component_split.specs.States.{none_decided}
use Rattle.inline_certificate.specs.declared.certificates.Certificate.{Certificate}
use Rattle.inline_certificate.specs.Trees.{Tree, leaf, branch, cut, split, Parts, done, more, preorder}
use Rattle.size_measure.specs.Maps.{filled, map_of}
use Rattle.size_measure.specs.Sizes.{Size, plus, lesser, part, size}
use Rattle.size_measure.specs.Low.{low}
use Rattle.cert_checker.specs.declared.reason.Reason.{Reason}
use Rattle.cert_checker.specs.declared.reason.Reason.TheVariants as reasons
use Rattle.cert_checker.specs.Worth.{BoundOf}

-- the number of the node in preorder from 1, 0 for the root's size and the map; what is stated there, and what is so
pub record Broken : Type 0 where
  pub reason : Reason
  pub node : ℕ
  pub claimed : Size
  pub found : Size

abbrev pub broken : {A : Type 0} → Reason → ℕ → Size → Size → Result A Broken
broken r n a b = Err (record { reason = r; node = n; claimed = a; found = b })

-- goes on with what was found, where nothing is broken
abbrev pub then_with : {A B : Type 0} → Result A Broken → (A → Result B Broken) → Result B Broken
then_with (Ok a) f = f a
then_with (Err e) f = Err e

abbrev pub same : Size → Size → Bool
same None None = true
same (Some a) (Some b) = nat_eq a b
same _ _ = false

-- a size is no more than another, where none is above every number
abbrev pub at_most : Size → Size → Bool
at_most a None = true
at_most None (Some b) = false
at_most (Some a) (Some b) = nat_le a b

-- the numbers at the first place at which two lists differ, none for a list that has ended there
abbrev pub differ : List ℕ → List ℕ → Option (Size × Size)
differ [] [] = None
differ [] (y ∷ ys) = Some (None, Some y)
differ (x ∷ xs) [] = Some (Some x, None)
differ (x ∷ xs) (y ∷ ys) = if nat_eq x y then differ xs ys else Some (Some x, Some y)

abbrev pub judged_leaf : ℕ → List ℕ → Size → Size → Result Size Broken
judged_leaf n [] v x = if same v x then Ok v else broken reasons.Leaf n v x
judged_leaf n (s ∷ ss) v x = broken reasons.Open n None (Some s)

abbrev pub judged_cut : ℕ → Size → Size → Size → Result Size Broken
judged_cut n b bound a = if same b bound then (if at_most a b then Ok a else broken reasons.Cut n b a) else broken reasons.Cut n b bound

abbrev pub judged_heads : ℕ → Option (Size × Size) → Result Size Broken → Result Size Broken
judged_heads n None parts = parts
judged_heads n (Some d) parts = broken reasons.Split n d.0 d.1

module _ (m : Module) (g : Graph) (bound : BoundOf) where
  -- the first node's number is n
  unfoldable mutual
    pub judged : Tree → Labels → List ℕ → ℕ → Result Size Broken
    judged (leaf v) p fs n = judged_leaf n (open_sites (site_graph g) p fs) v (part m g (filled Keep p) fs)
    judged (branch s k i) p fs n =
        if has (open_sites (site_graph g) p fs) s.0 then then_with (judged k (with_label p s.0 Keep) fs (n + 1)) (λ a. then_with (judged i (with_label p s.0 Inline) fs (n + 1 + length (preorder k))) (λ b. Ok (lesser a b)))
        else broken reasons.Branch n (Some s.0) None
    judged (cut s k b) p fs n =
        if has (open_sites (site_graph g) p fs) s.0 then then_with (judged k (with_label p s.0 Keep) fs (n + 1)) (judged_cut (n + 1 + length (preorder k)) b (bound (with_label p s.0 Inline) fs))
        else broken reasons.Branch n (Some s.0) None
    judged (split hs ts) p fs n = judged_heads n (differ (func_numbers hs) (roots (site_graph g) p fs)) (judged_parts ts p (components (site_graph g) p fs) (n + 1))

    -- there are as many trees as components, where a split lists their lowest functions
    pub judged_parts : Parts → Labels → List (List ℕ) → ℕ → Result Size Broken
    judged_parts done p [] n = Ok (Some 0)
    judged_parts done p (c ∷ cs) n = broken reasons.Split n None None
    judged_parts (more t ts) p [] n = broken reasons.Split n None None
    judged_parts (more t ts) p (c ∷ cs) n = then_with (judged t p c n) (λ a. then_with (judged_parts ts p cs (n + length (preorder t))) (λ b. Ok (plus a b)))

-- the tree's worth and the stub are the stated size, and the map has it
abbrev pub judged_map : Module → Graph → Certificate → Size → Result ℕ Broken
judged_map m g c x =
    if same (plus x (Some 16)) (Some c.text) then (if same (size m g (map_of c.map)) (Some c.text) then Ok c.text else broken reasons.Map 0 (Some c.text) (size m g (map_of c.map)))
    else broken reasons.Root 0 (Some c.text) (plus x (Some 16))

-- the size that a certificate with this tree proves least, or the first clause that it breaks
abbrev pub judged_certificate : Module → Graph → Certificate → Tree → Result ℕ Broken
judged_certificate m g c t = then_with (judged m g (low m g) t (none_decided g) (reached_from 0 g.funcs) 1) (judged_map m g c)
