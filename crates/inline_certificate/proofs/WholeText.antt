-- A text in form has no fault, and is that of one certificate.
use Rattle.std.proofs.Common.{◌≡◌, ◌≢◌, ℕ, ◌+◌, ◌<◌, Bool, true, false, cond, length, map, List, [], ◌∷◌, ◌++◌, Some, None, refl, sym, ap, subst, ◌∙◌, arith, append_assoc, ◌==◌}
use Rattle.std.specs.Prelude.{Result, Ok, Err, IfOk, IfErr, Option, decimal, codes, flat_map, bytes_eq, is_none}
use Rattle.std.specs.List.{onto_first}
use Rattle.std.specs.Str.Parse.{AllDigits}
use Rattle.std.proofs.lemmas.Bool.Decides.{nat_tests}
use Rattle.std.proofs.lemmas.Slice.Eq.{bytes_eq-Decides}
use Rattle.std.proofs.lemmas.Str.Parse.{digit_from_value}
use Rattle.oi_base.specs.Ascending.{IsAscending}
use Rattle.oi_base.specs.declared.ids.SiteId.{SiteId}
use Rattle.oi_base.specs.declared.ids.FuncId.{FuncId}
use Rattle.decisions.specs.declared.maps.Label.{Label}
use Rattle.decisions.specs.declared.maps.Label.TheVariants.{Keep, Inline}
use Rattle.decisions.specs.Maps.{sites_of}
use Rattle.decisions.specs.Text.{line_of, text_of}
use Rattle.decisions.specs.Reading.{lines_of, HaveWords, IsTextOf, first_of}
use Rattle.decisions.specs.Reading as decisions
use Rattle.decisions.proofs.Entries.{line_is, after_space}
use Rattle.decisions.proofs.TextForm.{AreStatedAmong, lines_among, a_text_in_form_has_no_fault}
use Rattle.decisions.proofs.Uniqueness.{one_map}
use Rattle.inline_certificate.specs.declared.nodes.CertNode.{CertNode}
use Rattle.inline_certificate.specs.declared.nodes.CertNode.TheVariants.{Leaf, Branch, Split, Cut}
use Rattle.inline_certificate.specs.declared.certificates.Certificate.{Certificate}
use Rattle.inline_certificate.specs.declared.faults.CertFault.{CertFault}
use Rattle.inline_certificate.specs.declared.faults.CertFault.TheVariants.{NoMemory}
use Rattle.inline_certificate.specs.declared.heads.Head.{Head}
use Rattle.inline_certificate.specs.declared.forms.Form.{Form}
use Rattle.inline_certificate.specs.declared.places.Place.{Place}
use Rattle.inline_certificate.specs.Trees.{is_within, form_of, IsTreeIn}
use Rattle.inline_certificate.specs.Places.{root, below, fits, after}
use Rattle.inline_certificate.specs.Text.{value_word, func_word, node_line, nodes_text, version_line, text_line, tree_line}
use Rattle.inline_certificate.specs.Certificates.{IsCertificate, HasWords, IsSame, IsWord, IsVersion, IsValue, IsNode, AreFuncs, AreNodes}
use Rattle.inline_certificate.specs.Reading.{node_of, tree_fault, before_tree, after_tree, joined, map_fault, tree_part_fault, body_fault, fault_after_text, fault_after_version, fault_in_lines, first_fault, version_of, stated_text}
use Rattle.inline_certificate.specs.Steps.{ListsTwo}
use Rattle.inline_certificate.specs.Bodies.{StatesHead, StatesBody, BodyReads}
use Rattle.inline_certificate.proofs.Numerals.{digits_of}
use Rattle.inline_certificate.proofs.LinesStated.{node_of_line, version_by_line, stated_by_line}
use Rattle.inline_certificate.proofs.TreeLaws.{a_tree_fills, after_none, no_place, stands}

-- ---- whole lines

abbrev HasNoFeed : List ℕ → Type 0
HasNoFeed [] = Unit {0}
HasNoFeed (c ∷ cs) = ((c == 10) ≡ false) × HasNoFeed cs

no_feed-append : (xs ys : List ℕ) → HasNoFeed xs → HasNoFeed ys → HasNoFeed (xs ++ ys)
no_feed-append [] ys h k = k
no_feed-append (x ∷ xs) ys h k = (h.0, no_feed-append xs ys h.1 k)

digits_no_feed : (ds : List ℕ) → AllDigits 10 ds → HasNoFeed ds
digits_no_feed [] h = tt
digits_no_feed (d ∷ ds) h = (let r = digit_from_value d h.0 in grind (arith, nat_tests), digits_no_feed ds h.1)

number_no_feed : (n : ℕ) → IsWord n → HasNoFeed (decimal n)
number_no_feed n lt = digits_no_feed (decimal n) (digits_of n lt).1

value_no_feed : (v : Option ℕ) → IsValue v → HasNoFeed (value_word v)
value_no_feed None h = (refl, (refl, (refl, (refl, tt))))
value_no_feed (Some n) h = number_no_feed n h

funcs_no_feed : (fs : List FuncId) → AreFuncs fs → HasNoFeed (flat_map func_word fs)
funcs_no_feed [] h = tt
funcs_no_feed (f ∷ fs) h = (refl, no_feed-append (decimal f.0) (flat_map func_word fs) (number_no_feed f.0 h.0) (funcs_no_feed fs h.1))

onto : (c : ℕ) (ls : List (List ℕ)) (l : List ℕ) (rest : List (List ℕ)) (t : Bool) → t ≡ false → ls ≡ l ∷ rest → cond t ((c ∷ []) ∷ ls) (onto_first c ls) ≡ (c ∷ l) ∷ rest
onto c ls l rest true e h = cc
onto c ls l rest false e h = ap (λ (x : List (List ℕ)). onto_first c x) h

whole_line : (xs rest : List ℕ) → HasNoFeed xs → lines_of ((xs ++ 10 ∷ []) ++ rest) ≡ (xs ++ 10 ∷ []) ∷ lines_of rest
whole_line [] rest h = refl
whole_line (x ∷ xs) rest h = onto x (lines_of ((xs ++ 10 ∷ []) ++ rest)) (xs ++ 10 ∷ []) (lines_of rest) (x == 10) h.0 (whole_line xs rest h.1)

node_first : (n : CertNode) (rest : List ℕ) → IsNode n → lines_of (node_line n ++ rest) ≡ node_line n ∷ lines_of rest
unfolding node_line
node_first (Leaf v) rest h = whole_line (76 ∷ 32 ∷ value_word v) rest (refl, (refl, value_no_feed v h))
node_first (Branch s) rest h = whole_line (66 ∷ 32 ∷ decimal s.0) rest (refl, (refl, number_no_feed s.0 h))
node_first (Split fs) rest h = whole_line (83 ∷ flat_map func_word fs) rest (refl, funcs_no_feed fs h)
node_first (Cut v) rest h = whole_line (67 ∷ 32 ∷ value_word v) rest (refl, (refl, value_no_feed v h))

nodes_lines : (ns : List CertNode) → AreNodes ns → lines_of (nodes_text ns) ≡ map node_line ns
nodes_lines [] h = refl
nodes_lines (n ∷ ns) h = node_first n (nodes_text ns) h.0 ∙ ap (λ (l : List (List ℕ)). node_line n ∷ l) (nodes_lines ns h.1)

version_first : (v : ℕ) (rest : List ℕ) → IsWord v → lines_of (version_line v ++ rest) ≡ version_line v ∷ lines_of rest
version_first v rest h = whole_line (99 ∷ 101 ∷ 114 ∷ 116 ∷ 105 ∷ 102 ∷ 105 ∷ 99 ∷ 97 ∷ 116 ∷ 101 ∷ 32 ∷ decimal v) rest (refl, (refl, (refl, (refl, (refl, (refl, (refl, (refl, (refl, (refl, (refl, (refl, number_no_feed v h))))))))))))

text_first : (n : ℕ) (rest : List ℕ) → IsWord n → lines_of (text_line n ++ rest) ≡ text_line n ∷ lines_of rest
text_first n rest h = whole_line (116 ∷ 101 ∷ 120 ∷ 116 ∷ 32 ∷ decimal n) rest (refl, (refl, (refl, (refl, (refl, number_no_feed n h)))))

tree_first : (rest : List ℕ) → lines_of (tree_line ++ rest) ≡ tree_line ∷ lines_of rest
tree_first rest = whole_line (116 ∷ 114 ∷ 101 ∷ 101 ∷ []) rest (refl, (refl, (refl, (refl, tt))))

abbrev word_part : Label → List ℕ
word_part Keep = codes "keep"
word_part Inline = codes "inline"

entry_whole : (s : SiteId) (l : Label) → decimal s.0 ++ 32 ∷ after_space l ≡ (decimal s.0 ++ 32 ∷ word_part l) ++ 10 ∷ []
entry_whole s Keep = sym (append_assoc (decimal s.0) (32 ∷ word_part Keep) (10 ∷ []))
entry_whole s Inline = sym (append_assoc (decimal s.0) (32 ∷ word_part Inline) (10 ∷ []))

label_no_feed : (l : Label) → HasNoFeed (32 ∷ word_part l)
label_no_feed Keep = (refl, (refl, (refl, (refl, (refl, tt)))))
label_no_feed Inline = (refl, (refl, (refl, (refl, (refl, (refl, (refl, tt)))))))

entry_first : (e : SiteId × Label) (rest : List ℕ) → IsWord e.0.0 → lines_of (line_of e ++ rest) ≡ line_of e ∷ lines_of rest
entry_first e rest h =
    let whole : (decimal e.0.0 ++ 32 ∷ word_part e.1) ++ 10 ∷ [] ≡ line_of e = sym (line_is e.0 e.1 ∙ entry_whole e.0 e.1) in
    subst (λ (x : List ℕ). lines_of (x ++ rest) ≡ x ∷ lines_of rest) whole (whole_line (decimal e.0.0 ++ 32 ∷ word_part e.1) rest (no_feed-append (decimal e.0.0) (32 ∷ word_part e.1) (number_no_feed e.0.0 h) (label_no_feed e.1)))

-- ---- the map's lines and the line after them

head_digit : (ds more : List ℕ) → 0 < length ds → AllDigits 10 ds → ds ++ more ≡ tree_line → ⊥
head_digit [] more lt h e = omega arith
head_digit (d ∷ ds) more lt h e = let r = digit_from_value d h.0 in let k : d ≡ 116 = cc in omega (arith, r.0, r.1)

no_tree_line : (e : SiteId × Label) → IsWord e.0.0 → line_of e ≡ tree_line → ⊥
no_tree_line e h is = let p = digits_of e.0.0 h in head_digit (decimal e.0.0) (32 ∷ after_space e.1) p.0 p.1 (sym (line_is e.0 e.1) ∙ is)

is_false : (b : Bool) → (b ≡ true → ⊥) → b ≡ false
is_false true h = absurd (h refl)
is_false false h = refl

abbrev AreEntries : List (SiteId × Label) → Type 0
AreEntries [] = Unit {0}
AreEntries (e ∷ es) = IsWord e.0.0 × AreEntries es

entries_of : (candidates : List SiteId) (es : List (SiteId × Label)) → AreStatedAmong candidates es → AreEntries es
entries_of candidates [] h = tt
entries_of candidates (e ∷ es) h = (h.0, entries_of candidates es h.2)

map_lines_first : (es : List (SiteId × Label)) (rest : List ℕ) → AreEntries es → lines_of (text_of es ++ rest) ≡ map line_of es ++ lines_of rest
map_lines_first [] rest h = refl
map_lines_first (e ∷ es) rest h =
    ap (λ (l : List ℕ). lines_of l) (append_assoc (line_of e) (text_of es) rest)
    ∙ entry_first e (text_of es ++ rest) h.0
    ∙ ap (λ (l : List (List ℕ)). line_of e ∷ l) (map_lines_first es rest h.1)

map_ends : (es : List (SiteId × Label)) (lines : List (List ℕ)) → AreEntries es → (before_tree (map line_of es ++ tree_line ∷ lines) ≡ map line_of es) × (after_tree (map line_of es ++ tree_line ∷ lines) ≡ Some lines)
map_ends [] lines h = (refl, refl)
map_ends (e ∷ es) lines h =
    let out : bytes_eq (line_of e) tree_line ≡ false = is_false (bytes_eq (line_of e) tree_line) (λ k. no_tree_line e h.0 ((bytes_eq-Decides (line_of e) tree_line).0 k)) in
    let rest = map_ends es lines h.1 in
    (rw out (ap (λ (l : List (List ℕ)). line_of e ∷ l) rest.0), rw out rest.1)

joined_lines : (es : List (SiteId × Label)) → joined (map line_of es) ≡ text_of es
joined_lines [] = refl
joined_lines (e ∷ es) = ap (λ (l : List ℕ). line_of e ++ l) (joined_lines es)

-- ---- the tree's lines

abbrev AreTwo : List CertNode → Type 0
AreTwo [] = Unit {0}
AreTwo (n ∷ ns) = ListsTwo n × AreTwo ns

two_by : (n : CertNode) (f : Form) (p : Place) → fits f p n ≡ true → ListsTwo n
two_by (Leaf v) f p h = tt
two_by (Branch s) f p h = tt
two_by (Split fs) f p h = grind (arith, nat_tests)
two_by (Cut v) f p h = tt

no_place_any : (f : Form) (n : CertNode) (ns : List CertNode) (end : List Place) → after f [] (n ∷ ns) ≡ Some end → ⊥
unfolding after
no_place_any f n ns end e = cc

all_two : (ns : List CertNode) (f : Form) (places end : List Place) → after f places ns ≡ Some end → AreTwo ns
all_two [] f places end e = tt
all_two (n ∷ ns) f [] end e = absurd (no_place_any f n ns end e)
all_two (n ∷ ns) f (p ∷ places) end e = let s = stands f p places n ns end e in (two_by n f p s.place, all_two ns f (below p.depth n ++ places) end s.rest)

node_sound : (f : Form) (n : ℕ) (p : Place) (places : List Place) (node : CertNode) (lines : List (List ℕ)) → node_of (node_line node) ≡ Some node → fits f p node ≡ true → is_within f.deepest p.depth ≡ true → tree_fault f n (p ∷ places) (node_line node ∷ lines) ≡ tree_fault f (n + 1) (below p.depth node ++ places) lines
unfolding tree_fault
node_sound f n p places node lines h fit within = rw (h, fit, within) refl

tree_done : (f : Form) (n : ℕ) → tree_fault f n [] [] ≡ None
unfolding tree_fault
tree_done f n = refl

nodes_sound : (ns : List CertNode) (f : Form) (n : ℕ) (places : List Place) → AreNodes ns → after f places ns ≡ Some [] → tree_fault f n places (map node_line ns) ≡ None
nodes_sound [] f n places h e = let none : places ≡ [] = by_some places [] (sym (after_none f places) ∙ e) in ap (λ (q : List Place). tree_fault f n q []) none ∙ tree_done f n
  where
    by_some : (a b : List Place) → Some a ≡ Some b → a ≡ b
    by_some a b e = cc
nodes_sound (node ∷ ns) f n [] h e = absurd (no_place f node ns e)
nodes_sound (node ∷ ns) f n (p ∷ places) h e =
    let s = stands f p places node ns [] e in
    node_sound f n p places node (map node_line ns) (node_of_line node h.0 (two_by node f p s.place)) s.place s.within ∙ nodes_sound ns f (n + 1) (below p.depth node ++ places) h.1 s.rest

-- ---- the whole text

abbrev body_lines : List (SiteId × Label) → List CertNode → List (List ℕ)
body_lines es ns = map line_of es ++ tree_line ∷ map node_line ns

abbrev entries : (bytes : List ℕ) (c : Certificate) → IsCertificate bytes c → List (SiteId × Label)
entries bytes c is = is.map.lines

version_word : (c : Certificate) → IsVersion c.version
version_word c = (c.from_one, c.to_two)

are_entries : (bytes : List ℕ) (c : Certificate) → HaveWords (sites_of c.map) → (is : IsCertificate bytes c) → AreEntries (entries bytes c is)
are_entries bytes c words is = entries_of (sites_of c.map) is.map.lines (lines_among is.map_lines c.map words is.map)

certificate_lines : (bytes : List ℕ) (c : Certificate) → IsWord c.text → HaveWords (sites_of c.map) → AreNodes c.tree → (is : IsCertificate bytes c) → lines_of bytes ≡ version_line c.version ∷ text_line c.text ∷ body_lines (entries bytes c is) c.tree
certificate_lines bytes c text words nodes is =
    let v = version_word c in
    let es = entries bytes c is in
    ap (λ (l : List ℕ). lines_of l) is.lines
    ∙ version_first c.version (text_line c.text ++ (is.map_lines ++ (tree_line ++ nodes_text c.tree))) (omega (arith, v.1))
    ∙ ap (λ (l : List (List ℕ)). version_line c.version ∷ l) (text_first c.text (is.map_lines ++ (tree_line ++ nodes_text c.tree)) text)
    ∙ ap (λ (l : List ℕ). version_line c.version ∷ text_line c.text ∷ lines_of (l ++ (tree_line ++ nodes_text c.tree))) is.map.text
    ∙ ap (λ (l : List (List ℕ)). version_line c.version ∷ text_line c.text ∷ l) (map_lines_first es (tree_line ++ nodes_text c.tree) (are_entries bytes c words is) ∙ ap (λ (l : List (List ℕ)). map line_of es ++ l) (tree_first (nodes_text c.tree) ∙ ap (λ (l : List (List ℕ)). tree_line ∷ l) (nodes_lines c.tree nodes)))

none_then : (a b : Option CertFault) → a ≡ None → b ≡ None → first_of a b ≡ None
none_then None b h k = k
none_then (Some x) b h k = cc

body_sound : (bytes : List ℕ) (c : Certificate) → HasWords c → (is : IsCertificate bytes c) → body_fault (sites_of c.map) c.version (body_lines (entries bytes c is) c.tree) ≡ None
body_sound bytes c words is =
    let es = entries bytes c is in
    let ends = map_ends es (map node_line c.tree) (are_entries bytes c words.map is) in
    let text : joined (before_tree (body_lines es c.tree)) ≡ is.map_lines = ap (λ (l : List (List ℕ)). joined l) ends.0 ∙ joined_lines es ∙ sym is.map.text in
    let sound : decisions.first_fault (sites_of c.map) (joined (before_tree (body_lines es c.tree))) ≡ None = ap (λ (l : List ℕ). decisions.first_fault (sites_of c.map) l) text ∙ a_text_in_form_has_no_fault is.map_lines c.map words.map is.map in
    let n = length (before_tree (body_lines es c.tree)) in
    none_then _ _
    (ap (λ (o : Option (List (List ℕ))). map_fault (n + 3) (is_none o) (decisions.first_fault (sites_of c.map) (joined (before_tree (body_lines es c.tree))))) ends.1 ∙ ap (λ (o : Option _). map_fault (n + 3) false o) sound)
    (ap (λ (o : Option (List (List ℕ))). tree_part_fault (form_of c.version) (n + 4) o) ends.1 ∙ nodes_sound c.tree (form_of c.version) (n + 4) root words.tree (a_tree_fills (form_of c.version) c.tree is.tree))

-- a text in the form of a certificate has no first fault over the map's sites
pub a_certificate_has_no_fault : (bytes : List ℕ) (c : Certificate) → HasWords c → IsCertificate bytes c → first_fault (sites_of c.map) bytes ≡ None
a_certificate_has_no_fault bytes c words is =
    let es = entries bytes c is in
    ap (λ (l : List (List ℕ)). fault_in_lines (sites_of c.map) l) (certificate_lines bytes c words.text words.map words.tree is)
    ∙ ap (λ (o : Option ℕ). fault_after_version (sites_of c.map) o (text_line c.text ∷ body_lines es c.tree)) (version_by_line c.version (version_word c))
    ∙ ap (λ (o : Option ℕ). fault_after_text (sites_of c.map) c.version o (body_lines es c.tree)) (stated_by_line c.text words.text)
    ∙ body_sound bytes c words is

some_is_none : (e : CertFault) → Some e ≡ None → ⊥
some_is_none e h = cc

pub no_certificate : (sites : List SiteId) (bytes : List ℕ) (e : CertFault) → first_fault sites bytes ≡ Some e → (c : Certificate) → HasWords c → sites_of c.map ≡ sites → IsCertificate bytes c → ⊥
no_certificate sites bytes e fault c words same is = some_is_none e (sym fault ∙ ap (λ (l : List SiteId). first_fault l bytes) (sym same) ∙ a_certificate_has_no_fault bytes c words is)

-- ---- one certificate

some_number : (a b : ℕ) → Some a ≡ Some b → a ≡ b
some_number a b e = cc

some_node : (a b : CertNode) → Some a ≡ Some b → a ≡ b
some_node a b e = cc

some_lines : (a b : List (List ℕ)) → Some a ≡ Some b → a ≡ b
some_lines a b e = cc

line_head : (a b : List ℕ) (l k : List (List ℕ)) → a ∷ l ≡ b ∷ k → a ≡ b
line_head a b l k e = cc

line_tail : (a b : List ℕ) (l k : List (List ℕ)) → a ∷ l ≡ b ∷ k → l ≡ k
line_tail a b l k e = cc

same_nodes : (ns ms : List CertNode) → AreNodes ns → AreNodes ms → AreTwo ns → AreTwo ms → map node_line ns ≡ map node_line ms → ns ≡ ms
same_nodes [] [] h k t u e = refl
same_nodes [] (m ∷ ms) h k t u e = cc
same_nodes (n ∷ ns) [] h k t u e = cc
same_nodes (n ∷ ns) (m ∷ ms) h k t u e =
    let head : node_line n ≡ node_line m = line_head (node_line n) (node_line m) (map node_line ns) (map node_line ms) e in
    let one : n ≡ m = some_node n m (sym (node_of_line n h.0 t.0) ∙ ap (λ (l : List ℕ). node_of l) head ∙ node_of_line m k.0 u.0) in
    ap (λ (x : CertNode). x ∷ ns) one ∙ ap (λ (l : List CertNode). m ∷ l) (same_nodes ns ms h.1 k.1 t.1 u.1 (line_tail (node_line n) (node_line m) (map node_line ns) (map node_line ms) e))

two_of : (bytes : List ℕ) (c : Certificate) → IsCertificate bytes c → AreTwo c.tree
two_of bytes c is = all_two c.tree (form_of c.version) root [] (a_tree_fills (form_of c.version) c.tree is.tree)

pub one_certificate : (sites : List SiteId) (bytes : List ℕ) (c : Certificate) → IsAscending sites → sites_of c.map ≡ sites → IsWord c.text → AreNodes c.tree → IsCertificate bytes c → (d : Certificate) → HasWords d → sites_of d.map ≡ sites → IsCertificate bytes d → IsSame c d
one_certificate sites bytes c up over text nodes is d words' over' is' =
    let both : sites_of d.map ≡ sites_of c.map = over' ∙ sym over in
    let words : HaveWords (sites_of c.map) = subst (λ (l : List SiteId). HaveWords l) both words'.map in
    let es = entries bytes c is in
    let fs = entries bytes d is' in
    let all : version_line c.version ∷ text_line c.text ∷ body_lines es c.tree ≡ version_line d.version ∷ text_line d.text ∷ body_lines fs d.tree = sym (certificate_lines bytes c text words nodes is) ∙ certificate_lines bytes d words'.text words'.map words'.tree is' in
    let first : version_line c.version ≡ version_line d.version = line_head _ _ _ _ all in
    let others : text_line c.text ∷ body_lines es c.tree ≡ text_line d.text ∷ body_lines fs d.tree = line_tail _ _ _ _ all in
    let second : text_line c.text ≡ text_line d.text = line_head _ _ _ _ others in
    let body : body_lines es c.tree ≡ body_lines fs d.tree = line_tail _ _ _ _ others in
    let ends = map_ends es (map node_line c.tree) (are_entries bytes c words is) in
    let ends' = map_ends fs (map node_line d.tree) (are_entries bytes d words'.map is') in
    let map_lines : is.map_lines ≡ is'.map_lines = is.map.text ∙ sym (joined_lines es) ∙ ap (λ (l : List (List ℕ)). joined l) (sym ends.0 ∙ ap (λ (l : List (List ℕ)). before_tree l) body ∙ ends'.0) ∙ joined_lines fs ∙ sym is'.map.text in
    let tree_lines : map node_line c.tree ≡ map node_line d.tree = some_lines _ _ (sym ends.1 ∙ ap (λ (l : List (List ℕ)). after_tree l) body ∙ ends'.1) in
    let map' : IsTextOf is.map_lines d.map = subst (λ (l : List ℕ). IsTextOf l d.map) (sym map_lines) is'.map in record {
      version = some_number c.version d.version (sym (version_by_line c.version (version_word c)) ∙ ap (λ (l : List ℕ). version_of l) first ∙ version_by_line d.version (version_word d));
      text = some_number c.text d.text (sym (stated_by_line c.text text) ∙ ap (λ (l : List ℕ). stated_text l) second ∙ stated_by_line d.text words'.text);
      map = one_map sites is.map_lines c.map up over is.map d.map words'.map over' map';
      tree = same_nodes c.tree d.tree nodes words'.tree (two_of bytes c is) (two_of bytes d is') tree_lines;
    }

-- ---- what is read

body_is : (candidates : List SiteId) (bytes : List ℕ) (h : Head) (c : Certificate) → StatesHead bytes h → StatesBody candidates h.version h.text h.rest.now c → IsCertificate bytes c
body_is candidates bytes h c s b = record {
  map_lines = b.map_lines;
  lines = s.lines ∙ ap (λ (l : List ℕ). version_line h.version ++ (text_line h.text ++ l)) b.lines ∙ ap (λ (v : ℕ). version_line v ++ (text_line h.text ++ (b.map_lines ++ (tree_line ++ nodes_text c.tree)))) (sym b.same_version) ∙ ap (λ (n : ℕ). version_line c.version ++ (text_line n ++ (b.map_lines ++ (tree_line ++ nodes_text c.tree)))) (sym b.same_text);
  map = b.map;
  tree = subst (λ (v : ℕ). IsTreeIn (form_of v) c.tree) (sym b.same_version) b.tree;
}

pub only_read : (candidates : List SiteId) (bytes : List ℕ) (h : Head) (r : Result Certificate CertFault) → IsAscending candidates → StatesHead bytes h → BodyReads candidates h.version h.text h.rest.now r → IfOk r (λ c. (other : Certificate) → HasWords other → sites_of other.map ≡ candidates → IsCertificate bytes other → IsSame c other)
only_read candidates bytes h (Ok c) up s b = one_certificate candidates bytes c up b.sites (subst (λ (n : ℕ). IsWord n) (sym b.same_text) s.text) b.words (body_is candidates bytes h c s b)
only_read candidates bytes h (Err e) up s b = tt

pub complete_read : (candidates : List SiteId) (bytes : List ℕ) (h : Head) (r : Result Certificate CertFault) → StatesHead bytes h → BodyReads candidates h.version h.text h.rest.now r → IfErr r (λ e. e ≢ NoMemory → (c : Certificate) → HasWords c → sites_of c.map ≡ candidates → IsCertificate bytes c → ⊥)
complete_read candidates bytes h (Ok c) s b = tt
complete_read candidates bytes h (Err e) s b = λ other. no_certificate candidates bytes e (s.fault candidates ∙ b other)
