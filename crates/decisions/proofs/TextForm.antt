-- A text in form has no first fault.
use Rattle.std.proofs.Common.{◌≡◌, ℕ, ◌+◌, ◌<◌, Bool, true, false, cond, map, List, [], ◌∷◌, ◌++◌, Some, None, refl, sym, ap, subst, ◌∙◌, arith}
use mathlib.Core.Bool.{false≢true}
use Rattle.std.specs.Prelude.{Option, decimal, ◌==◌, ◌||◌, find, is_none, option_map, option_to_list}
use Rattle.std.specs.List.{onto_first}
use Rattle.std.specs.Str.Parse.{AllDigits}
use Rattle.std.proofs.lemmas.Bool.Decides.{nat_tests}
use Rattle.std.proofs.lemmas.Fmt.{decimal_is_IsNumeral}
use Rattle.std.proofs.lemmas.Str.Parse.{digit_from_value}
use Rattle.std.proofs.lemmas.List.{append_assoc, append-nil}
use Rattle.oi_base.specs.declared.ids.SiteId.{SiteId}
use Rattle.decisions.specs.declared.maps.Label.{Label}
use Rattle.decisions.specs.declared.maps.Label.TheVariants.{Keep, Inline}
use Rattle.decisions.specs.declared.faults.DecisionFault.{DecisionFault}
use Rattle.decisions.specs.declared.faults.DecisionFault.TheVariants.{Missing}
use Rattle.decisions.specs.Maps.{label_of, sites_of}
use Rattle.oi_base.specs.Ascending.{IsAscending}
use Rattle.decisions.specs.Text.{line_of, text_of, site_numbers}
use Rattle.decisions.specs.Reading.{lines_of, entry_of, is_among, line_fault, first_of, fault_from, first_fault, HaveWords, HasNoRepeats, IsTextOf}
use Rattle.decisions.proofs.Entries.{after_space, line_is, entry_of_line}
use Rattle.decisions.proofs.LinesSoFar.{ascending_tail, above_first, same_number, or_left, or_right}

no_feed : (c : ℕ) (cs : List ℕ) → AllDigits 10 (c ∷ cs) → (c == 10) ≡ false
no_feed c cs h = let r = digit_from_value c h.0 in grind (arith, nat_tests)

onto : (c : ℕ) (ls : List (List ℕ)) (l : List ℕ) (rest : List (List ℕ)) (t : Bool) → t ≡ false → ls ≡ l ∷ rest → cond t ((c ∷ []) ∷ ls) (onto_first c ls) ≡ (c ∷ l) ∷ rest
onto c ls l rest true e h = cc
onto c ls l rest false e h = ap (λ (x : List (List ℕ)). onto_first c x) h

line_then : (ds : List ℕ) (l : Label) (rest : List ℕ) → AllDigits 10 ds → lines_of ((ds ++ 32 ∷ after_space l) ++ rest) ≡ (ds ++ 32 ∷ after_space l) ∷ lines_of rest
line_then [] Keep rest h = refl
line_then [] Inline rest h = refl
line_then (c ∷ cs) l rest h = onto c (lines_of ((cs ++ 32 ∷ after_space l) ++ rest)) (cs ++ 32 ∷ after_space l) (lines_of rest) (c == 10) (no_feed c cs h) (line_then cs l rest h.1)

line_first : (e : SiteId × Label) (rest : List ℕ) → e.0.0 < site_numbers → lines_of (line_of e ++ rest) ≡ line_of e ∷ lines_of rest
line_first e rest lt = subst (λ (x : List ℕ). lines_of (x ++ rest) ≡ x ∷ lines_of rest) (sym (line_is e.0 e.1)) (line_then (decimal e.0.0) e.1 rest (decimal_is_IsNumeral e.0.0 (omega arith)).0.1)

-- every site that lines state is a candidate with a number of 32 bits
abbrev pub AreStatedAmong : List SiteId → List (SiteId × Label) → Type 0
AreStatedAmong candidates [] = Unit {0}
AreStatedAmong candidates (e ∷ es) = (e.0.0 < site_numbers) × (is_among candidates e.0 ≡ true) × AreStatedAmong candidates es

pub lines_of_text : (candidates : List SiteId) (es : List (SiteId × Label)) → AreStatedAmong candidates es → lines_of (text_of es) ≡ map line_of es
lines_of_text candidates [] h = refl
lines_of_text candidates (e ∷ es) h = line_first e (text_of es) h.0 ∙ ap (λ (x : List (List ℕ)). line_of e ∷ x) (lines_of_text candidates es h.2)

-- a site that a later pair has is not new
head_has : (t : Bool) (l : Label) (o : Option Label) → t ≡ true → cond t (Some l) o ≡ None → ⊥
head_has true l o e h = cc
head_has false l o e h = cc

tail_none : (t : Bool) (l : Label) (o : Option Label) → cond t (Some l) o ≡ None → o ≡ None
tail_none true l o h = cc
tail_none false l o h = h

differs : (xs : List (SiteId × Label)) (e : SiteId × Label) (es : List (SiteId × Label)) (x : SiteId) → label_of (xs ++ e ∷ es) x ≡ None → (x.0 == e.0.0) ≡ true → ⊥
differs [] e es x h t = head_has (e.0.0 == x.0) e.1 (label_of es x) (grind (arith, nat_tests)) h
differs (y ∷ ys) e es x h t = differs ys e es x (tail_none (y.0.0 == x.0) y.1 (label_of (ys ++ e ∷ es) x) h) t

new_by : (t : Bool) (l : Label) (o : Option Label) → (t ≡ true → ⊥) → o ≡ None → cond t (Some l) o ≡ None
new_by true l o never h = absurd (never refl)
new_by false l o never h = h

fresh : (earlier : List (SiteId × Label)) (e : SiteId × Label) (es : List (SiteId × Label)) → HasNoRepeats (earlier ++ e ∷ es) → label_of earlier e.0 ≡ None
fresh [] e es h = refl
fresh (x ∷ rest) e es h = new_by (x.0.0 == e.0.0) x.1 (label_of rest e.0) (differs rest e es x.0 h.0) (fresh rest e es h.1)

find_none : (p : SiteId → Bool) (cs : List SiteId) → ((s : SiteId) → is_among cs s ≡ true → p s ≡ false) → find p cs ≡ None
find_none p [] h = refl
find_none p (c ∷ cs) h = by_head (p c) (h c (or_left (c.0 == c.0) (is_among cs c) (same_number c))) (find_none p cs (λ s k. h s (or_right (c.0 == s.0) (is_among cs s) k)))
  where
    by_head : (t : Bool) → t ≡ false → find p cs ≡ None → cond t (Some c) (find p cs) ≡ None
    by_head true e k = cc
    by_head false e k = k

abbrev pub AreAllStated : List SiteId → List (SiteId × Label) → Type 0
AreAllStated candidates stated = (s : SiteId) → is_among candidates s ≡ true → is_none (label_of stated s) ≡ false

good_line : (candidates : List SiteId) (earlier : List (SiteId × Label)) (n : ℕ) (e : SiteId × Label) (o : Option (SiteId × Label)) → o ≡ Some e → is_among candidates e.0 ≡ true → label_of earlier e.0 ≡ None → (line_fault candidates earlier n o ≡ None) × (option_to_list o ≡ e ∷ [])
good_line candidates earlier n e o is among new = rw (is, among, new) (refl, refl)

none_then : (a b : Option DecisionFault) → a ≡ None → b ≡ None → first_of a b ≡ None
none_then None b h k = k
none_then (Some x) b h k = cc

no_fault_from : (candidates : List SiteId) (earlier : List (SiteId × Label)) (n : ℕ) (es : List (SiteId × Label)) → AreStatedAmong candidates es → HasNoRepeats (earlier ++ es) → AreAllStated candidates (earlier ++ es) → fault_from candidates earlier n (map line_of es) ≡ None
unfolding fault_from
no_fault_from candidates earlier n [] among once all =
    let all' : AreAllStated candidates earlier = subst (λ (x : List (SiteId × Label)). AreAllStated candidates x) (append-nil earlier) all in
    ap (λ (x : Option SiteId). option_map (λ s. Missing s) x) (find_none (λ s. is_none (label_of earlier s)) candidates all')
no_fault_from candidates earlier n (e ∷ es) among once all =
    let good = good_line candidates earlier n e (entry_of (line_of e)) (entry_of_line e.0 e.1 among.0) among.1 (fresh earlier e es once) in
    let shift : (earlier ++ e ∷ []) ++ es ≡ earlier ++ e ∷ es = append_assoc earlier (e ∷ []) es in
    let rest = no_fault_from candidates (earlier ++ e ∷ []) (n + 1) es among.2 (subst (λ (x : List (SiteId × Label)). HasNoRepeats x) (sym shift) once) (subst (λ (x : List (SiteId × Label)). AreAllStated candidates x) (sym shift) all) in
    none_then _ _ good.0 (ap (λ (x : List (SiteId × Label)). fault_from candidates (earlier ++ x) (n + 1) (map line_of es)) good.1 ∙ rest)

-- what each pair of a list states
has_head : (t : Bool) (l : Label) (o : Option Label) → t ≡ true → is_none (cond t (Some l) o) ≡ false
has_head true l o e = refl
has_head false l o e = cc

has_tail : (t : Bool) (l : Label) (o : Option Label) → is_none o ≡ false → is_none (cond t (Some l) o) ≡ false
has_tail true l o h = refl
has_tail false l o h = h

stated_among : (candidates : List SiteId) (es : List (SiteId × Label)) → ((s : SiteId) → is_none (label_of es s) ≡ false → (s.0 < site_numbers) × (is_among candidates s ≡ true)) → AreStatedAmong candidates es
stated_among candidates [] h = tt
stated_among candidates (e ∷ es) h =
    let here = h e.0 (has_head (e.0.0 == e.0.0) e.1 (label_of es e.0) (same_number e.0)) in
    (here.0, here.1, stated_among candidates es (λ s k. h s (has_tail (e.0.0 == s.0) e.1 (label_of es s) k)))

or_of : (t u : Bool) (l : Label) (o : Option Label) → (is_none o ≡ false → u ≡ true) → is_none (cond t (Some l) o) ≡ false → (t || u) ≡ true
or_of true u l o h k = refl
or_of false u l o h k = h k

label_of_or : (t u : Bool) (l : Label) (o : Option Label) → (u ≡ true → is_none o ≡ false) → (t || u) ≡ true → is_none (cond t (Some l) o) ≡ false
label_of_or true u l o h k = refl
label_of_or false u l o h k = h k

label_among : (d : List (SiteId × Label)) (s : SiteId) → is_none (label_of d s) ≡ false → is_among (sites_of d) s ≡ true
label_among [] s h = cc
label_among (e ∷ rest) s h = or_of (e.0.0 == s.0) (is_among (sites_of rest) s) e.1 (label_of rest s) (label_among rest s) h

among_label : (d : List (SiteId × Label)) (s : SiteId) → is_among (sites_of d) s ≡ true → is_none (label_of d s) ≡ false
among_label [] s h = cc
among_label (e ∷ rest) s h = label_of_or (e.0.0 == s.0) (is_among (sites_of rest) s) e.1 (label_of rest s) (among_label rest s) h

pub lines_among : (bytes : List ℕ) (d : List (SiteId × Label)) → HaveWords (sites_of d) → (is : IsTextOf bytes d) → AreStatedAmong (sites_of d) is.lines
lines_among bytes d words is = stated_among (sites_of d) is.lines (λ s k. let m = label_among d s (ap (λ (o : Option Label). is_none o) (sym (is.same s)) ∙ k) in (words s m, m))

-- a text in the form of a map has no first fault over the map's sites
pub a_text_in_form_has_no_fault : (bytes : List ℕ) (d : List (SiteId × Label)) → HaveWords (sites_of d) → IsTextOf bytes d → first_fault (sites_of d) bytes ≡ None
a_text_in_form_has_no_fault bytes d words is =
    let among = lines_among bytes d words is in
    let all : AreAllStated (sites_of d) is.lines = λ s k. ap (λ (o : Option Label). is_none o) (is.same s) ∙ among_label d s k in
    ap (λ (x : List ℕ). fault_from (sites_of d) [] 1 (lines_of x)) is.text ∙ ap (λ (x : List (List ℕ)). fault_from (sites_of d) [] 1 x) (lines_of_text (sites_of d) is.lines among) ∙ no_fault_from (sites_of d) [] 1 is.lines among is.once all

some_is_none : (e : DecisionFault) → Some e ≡ None → ⊥
some_is_none e h = cc

pub no_text : (sites : List SiteId) (bytes : List ℕ) (e : DecisionFault) → first_fault sites bytes ≡ Some e → (d : List (SiteId × Label)) → HaveWords (sites_of d) → sites_of d ≡ sites → IsTextOf bytes d → ⊥
no_text sites bytes e fault d words same is = some_is_none e (sym fault ∙ ap (λ (x : List SiteId). first_fault x bytes) (sym same) ∙ a_text_in_form_has_no_fault bytes d words is)

none_by : (o : Option Label) → (is_none o ≡ false → ⊥) → o ≡ None
none_by None h = refl
none_by (Some l) h = absurd (h refl)

-- ascending sites do not repeat
once_of : (d : List (SiteId × Label)) → IsAscending (sites_of d) → HasNoRepeats d
once_of [] up = tt
once_of (e ∷ rest) up = (none_by (label_of rest e.0) (λ h. false≢true (sym (above_first e.0 (sites_of rest) up e.0 (label_among rest e.0 h)) ∙ same_number e.0)), once_of rest (ascending_tail e.0 (sites_of rest) up))

-- the lines of ascending sites are a text in form
pub text_in_form : (bytes : List ℕ) (d : List (SiteId × Label)) → IsAscending (sites_of d) → bytes ≡ text_of d → IsTextOf bytes d
text_in_form bytes d up is = record { lines = d; text = is; once = once_of d up; same = λ s. refl }
