-- A text is that of one map.
use Rattle.std.proofs.Common.{◌≡◌, ℕ, Bool, true, false, cond, map, List, [], ◌∷◌, Some, refl, sym, ap, subst, ◌∙◌, arith}
use Rattle.std.specs.Prelude.{Option, ◌==◌}
use Rattle.std.proofs.lemmas.Bool.Decides.{nat_tests}
use Rattle.oi_base.specs.declared.ids.SiteId.{SiteId}
use Rattle.decisions.specs.declared.maps.Label.{Label}
use Rattle.decisions.specs.Maps.{label_of, sites_of}
use Rattle.oi_base.specs.Ascending.{IsAscending}
use Rattle.decisions.specs.Text.{line_of}
use Rattle.decisions.specs.Reading.{lines_of, entry_of, is_among, HaveWords, IsTextOf}
use Rattle.decisions.proofs.Entries.{entry_of_line}
use Rattle.decisions.proofs.LinesSoFar.{ascending_tail, above_first, same_number, or_left, or_right}
use Rattle.decisions.proofs.TextForm.{AreStatedAmong, lines_of_text, lines_among}

some_injective : (e f : SiteId × Label) → Some e ≡ Some f → e ≡ f
some_injective e f h = cc

-- lines are those of one list
same_lines : (a b : List SiteId) (es fs : List (SiteId × Label)) → AreStatedAmong a es → AreStatedAmong b fs → map line_of es ≡ map line_of fs → es ≡ fs
same_lines a b [] [] h k same = refl
same_lines a b [] (f ∷ fs) h k same = cc
same_lines a b (e ∷ es) [] h k same = cc
same_lines a b (e ∷ es) (f ∷ fs) h k same =
    let line : line_of e ≡ line_of f = cc in
    let lines : map line_of es ≡ map line_of fs = cc in
    let head = some_injective e f (sym (entry_of_line e.0 e.1 h.0) ∙ ap (λ (x : List ℕ). entry_of x) line ∙ entry_of_line f.0 f.1 k.0) in
    ap (λ (x : SiteId × Label). x ∷ es) head ∙ ap (λ (x : List (SiteId × Label)). f ∷ x) (same_lines a b es fs h.2 k.2 lines)

heads : (t u : Bool) (l k : Label) (o q : Option Label) → t ≡ true → u ≡ true → cond t (Some l) o ≡ cond u (Some k) q → l ≡ k
heads true true l k o q e f h = cc
heads true false l k o q e f h = cc
heads false u l k o q e f h = cc

tails : (t u : Bool) (l k : Label) (o q : Option Label) → t ≡ false → u ≡ false → cond t (Some l) o ≡ cond u (Some k) q → o ≡ q
tails false false l k o q e f h = h
tails false true l k o q e f h = cc
tails true u l k o q e f h = cc

-- maps over the same ascending sites with the same labels are one map
same_map : (d d' : List (SiteId × Label)) → IsAscending (sites_of d) → sites_of d ≡ sites_of d' → ((s : SiteId) → is_among (sites_of d) s ≡ true → label_of d s ≡ label_of d' s) → d ≡ d'
same_map [] [] up sites same = refl
same_map [] (f ∷ q) up sites same = cc
same_map (e ∷ r) [] up sites same = cc
same_map (e ∷ r) (f ∷ q) up sites same =
    let site : e.0 ≡ f.0 = cc in
    let others : sites_of r ≡ sites_of q = cc in
    let number : e.0.0 ≡ f.0.0 = ap (λ (x : SiteId). x.0) site in
    let here : (f.0.0 == e.0.0) ≡ true = grind (arith, nat_tests) in
    let label : e.1 ≡ f.1 = heads (e.0.0 == e.0.0) (f.0.0 == e.0.0) e.1 f.1 (label_of r e.0) (label_of q e.0) (same_number e.0) here (same e.0 (or_left (e.0.0 == e.0.0) (is_among (sites_of r) e.0) (same_number e.0))) in
    let rest = same_map r q (ascending_tail e.0 (sites_of r) up) others (λ s among. let no = above_first e.0 (sites_of r) up s among in let no' : (f.0.0 == s.0) ≡ false = subst (λ (x : SiteId). (x.0 == s.0) ≡ false) site no in tails (e.0.0 == s.0) (f.0.0 == s.0) e.1 f.1 (label_of r s) (label_of q s) no no' (same s (or_right (e.0.0 == s.0) (is_among (sites_of r) s) among))) in
    ap (λ (x : SiteId). (x, e.1) ∷ r) site ∙ ap (λ (x : Label). (f.0, x) ∷ r) label ∙ ap (λ (x : List (SiteId × Label)). f ∷ x) rest

-- a text is that of one map over the same sites
pub one_map : (sites : List SiteId) (bytes : List ℕ) (d : List (SiteId × Label)) → IsAscending sites → sites_of d ≡ sites → IsTextOf bytes d → (d' : List (SiteId × Label)) → HaveWords (sites_of d') → sites_of d' ≡ sites → IsTextOf bytes d' → d ≡ d'
one_map sites bytes d up over is d' words' over' is' =
    let both : sites_of d' ≡ sites_of d = over' ∙ sym over in
    let words : HaveWords (sites_of d) = subst (λ (x : List SiteId). HaveWords x) both words' in
    let among = lines_among bytes d words is in
    let among' = lines_among bytes d' words' is' in
    let texts : map line_of is.lines ≡ map line_of is'.lines = sym (lines_of_text (sites_of d) is.lines among) ∙ ap (λ (x : List ℕ). lines_of x) (sym is.text ∙ is'.text) ∙ lines_of_text (sites_of d') is'.lines among' in
    let lines : is.lines ≡ is'.lines = same_lines (sites_of d) (sites_of d') is.lines is'.lines among among' texts in
    same_map d d' (subst (λ (x : List SiteId). IsAscending x) (sym over) up) (sym both) (λ s _. sym (is.same s) ∙ ap (λ (x : List (SiteId × Label)). label_of x s) lines ∙ is'.same s)
