-- The lines that faults of a map name, and the first two lines.
use Rattle.std.proofs.Common.{◌≡◌, ◌≢◌, ℕ, suc, ◌+◌, ◌<◌, ◌≤◌, Bool, true, false, cond, length, List, [], ◌∷◌, ◌++◌, Some, None, inl, inr, refl, ap, subst, ◌∙◌, arith, ◌==◌}
use Rattle.std.specs.Prelude.{Option, ◌⊎◌, option_map, find, is_none, is_some, option_to_list}
use Rattle.std.specs.List.{onto_first}
use Rattle.oi_base.specs.declared.ids.SiteId.{SiteId}
use Rattle.decisions.specs.declared.maps.Label.{Label}
use Rattle.decisions.specs.declared.faults.DecisionFault.{DecisionFault}
use Rattle.decisions.specs.declared.faults.DecisionFault.TheVariants.{BadLine, NotCandidate, Twice, Missing, NoMemory}
use Rattle.decisions.specs.Maps.{label_of}
use Rattle.decisions.specs.Reading.{lines_of, entry_of, is_among, line_fault, first_of, fault_from, first_fault}
use Rattle.inline_certificate.specs.declared.faults.CertFault.TheVariants as faults
use Rattle.inline_certificate.specs.declared.heads.Head.{Head}
use Rattle.inline_certificate.specs.Parts.{IsCutAt}
use Rattle.inline_certificate.specs.Text.{version_line, text_line}
use Rattle.inline_certificate.specs.Certificates.{IsWord, IsVersion}
use Rattle.inline_certificate.specs.Reading.{version_of, stated_text, fault_after_text, fault_after_version, body_fault}
use Rattle.inline_certificate.specs.Reading as certificates
use Rattle.inline_certificate.specs.Steps.{IsWordOf}
use Rattle.inline_certificate.specs.Bodies.{StatesHead, HasRoom}
use Rattle.inline_certificate.proofs.LinesStated.{version_of_is, stated_text_is}

-- ---- the lines of a map's faults

abbrev IsBelow : ℕ → DecisionFault → Type 0
IsBelow m (BadLine k) = k ≤ m
IsBelow m (NotCandidate k s) = k ≤ m
IsBelow m (Twice k s) = k ≤ m
IsBelow m (Missing s) = Unit {0}
IsBelow m NoMemory = Unit {0}

further : (e : DecisionFault) (n m : ℕ) → n ≤ m → IsBelow n e → IsBelow m e
further (BadLine k) n m le h = omega arith
further (NotCandidate k s) n m le h = omega arith
further (Twice k s) n m le h = omega arith
further (Missing s) n m le h = tt
further NoMemory n m le h = tt

of_missing : (o : Option SiteId) (m : ℕ) (e : DecisionFault) → option_map (λ s. Missing s) o ≡ Some e → IsBelow m e
of_missing None m e h = cc
of_missing (Some s) m e h = let same : Missing s ≡ e = cc in subst (λ (x : DecisionFault). IsBelow m x) same tt

by_tests : (a b : Bool) (n : ℕ) (s : SiteId) (e : DecisionFault) → cond a (cond b (Some (Twice n s)) None) (Some (NotCandidate n s)) ≡ Some e → IsBelow n e
by_tests true true n s e h = let same : Twice n s ≡ e = cc in subst (λ (x : DecisionFault). IsBelow n x) same (omega arith)
by_tests true false n s e h = cc
by_tests false b n s e h = let same : NotCandidate n s ≡ e = cc in subst (λ (x : DecisionFault). IsBelow n x) same (omega arith)

of_line : (candidates : List SiteId) (earlier : List (SiteId × Label)) (n : ℕ) (o : Option (SiteId × Label)) (e : DecisionFault) → line_fault candidates earlier n o ≡ Some e → IsBelow n e
of_line candidates earlier n None e h = let same : BadLine n ≡ e = cc in subst (λ (x : DecisionFault). IsBelow n x) same (omega arith)
of_line candidates earlier n (Some x) e h = by_tests (is_among candidates x.0) (is_some (label_of earlier x.0)) n x.0 e h

either : (a b : Option DecisionFault) (e : DecisionFault) → first_of a b ≡ Some e → (a ≡ Some e) ⊎ (b ≡ Some e)
either None b e h = inr h
either (Some x) b e h = inl h

by_either : (e : DecisionFault) (n k : ℕ) (a b : Option DecisionFault) → (a ≡ Some e → IsBelow n e) → (b ≡ Some e → IsBelow (n + 1 + k) e) → (a ≡ Some e) ⊎ (b ≡ Some e) → IsBelow (n + suc k) e
by_either e n k a b here there (inl h) = further e n (n + suc k) (omega arith) (here h)
by_either e n k a b here there (inr h) = further e (n + 1 + k) (n + suc k) (omega arith) (there h)

fault_below : (lines : List (List ℕ)) (candidates : List SiteId) (earlier : List (SiteId × Label)) (n : ℕ) (e : DecisionFault) → fault_from candidates earlier n lines ≡ Some e → IsBelow (n + length lines) e
unfolding fault_from
fault_below [] candidates earlier n e h = of_missing (find (λ s. is_none (label_of earlier s)) candidates) (n + 0) e h
fault_below (line ∷ lines) candidates earlier n e h =
    by_either e n (length lines) (line_fault candidates earlier n (entry_of line)) (fault_from candidates (earlier ++ option_to_list (entry_of line)) (n + 1) lines)
    (of_line candidates earlier n (entry_of line) e)
    (fault_below lines candidates (earlier ++ option_to_list (entry_of line)) (n + 1) e)
    (either _ _ e h)

onto_length : (b : ℕ) (ls : List (List ℕ)) → length (onto_first b ls) ≤ suc (length ls)
onto_length b [] = omega arith
onto_length b (l ∷ ls) = omega arith

count_by : (t : Bool) (b : ℕ) (ls : List (List ℕ)) (n : ℕ) → length ls ≤ n → length (cond t ((b ∷ []) ∷ ls) (onto_first b ls)) ≤ suc n
count_by true b ls n h = omega arith
count_by false b ls n h = omega (arith, onto_length b ls)

few_lines : (bytes : List ℕ) → length (lines_of bytes) ≤ length bytes
few_lines [] = omega arith
few_lines (b ∷ bs) = count_by (b == 10) b (lines_of bs) (length bs) (few_lines bs)

room_by : (e : DecisionFault) (m : ℕ) → IsBelow m e → m + 2 < 4294967296 → HasRoom e
room_by (BadLine k) m h lt = omega arith
room_by (NotCandidate k s) m h lt = omega arith
room_by (Twice k s) m h lt = omega arith
room_by (Missing s) m h lt = tt
room_by NoMemory m h lt = tt

told : (e : DecisionFault) (candidates : List SiteId) (map_lines : List ℕ) → (e ≢ NoMemory → first_fault candidates map_lines ≡ Some e) → IsBelow (1 + length (lines_of map_lines)) e
told (BadLine k) candidates map_lines h = fault_below (lines_of map_lines) candidates [] 1 (BadLine k) (h (λ e. cc))
told (NotCandidate k s) candidates map_lines h = fault_below (lines_of map_lines) candidates [] 1 (NotCandidate k s) (h (λ e. cc))
told (Twice k s) candidates map_lines h = fault_below (lines_of map_lines) candidates [] 1 (Twice k s) (h (λ e. cc))
told (Missing s) candidates map_lines h = tt
told NoMemory candidates map_lines h = tt

pub has_room : (e : DecisionFault) (candidates : List SiteId) (map_lines : List ℕ) → (e ≢ NoMemory → first_fault candidates map_lines ≡ Some e) → length map_lines + 8 < 4294967295 → HasRoom e
has_room e candidates map_lines h lt = room_by e (1 + length (lines_of map_lines)) (told e candidates map_lines h) (omega (arith, few_lines map_lines))

-- ---- the first two lines

empty : (rest : List ℕ) → length rest ≡ 0 → rest ≡ []
empty [] e = refl
empty (c ∷ cs) e = absurd (omega arith)

pub no_second_line : (candidates : List SiteId) (bytes line next : List ℕ) (v : ℕ) → IsCutAt bytes line next → IsWordOf version_line IsVersion line v → length next ≡ 0 → certificates.first_fault candidates bytes ≡ Some (faults.BadLine 2)
no_second_line candidates bytes line next v cut w e =
    ap (λ (l : List (List ℕ)). certificates.fault_in_lines candidates l) cut.lines
    ∙ ap (λ (o : Option ℕ). fault_after_version candidates o (lines_of next)) (version_of_is line (Some v) w)
    ∙ ap (λ (l : List ℕ). fault_after_version candidates (Some v) (lines_of l)) (empty next e)

two_lines : (candidates : List SiteId) (bytes line next second rest : List ℕ) (v : ℕ) → IsCutAt bytes line next → IsWordOf version_line IsVersion line v → IsCutAt next second rest → certificates.first_fault candidates bytes ≡ fault_after_text candidates v (stated_text second) (lines_of rest)
two_lines candidates bytes line next second rest v cut w cut' =
    ap (λ (l : List (List ℕ)). certificates.fault_in_lines candidates l) cut.lines
    ∙ ap (λ (o : Option ℕ). fault_after_version candidates o (lines_of next)) (version_of_is line (Some v) w)
    ∙ ap (λ (l : List (List ℕ)). fault_after_version candidates (Some v) l) cut'.lines

pub no_number : (candidates : List SiteId) (bytes line next second rest : List ℕ) (v : ℕ) → IsCutAt bytes line next → IsWordOf version_line IsVersion line v → IsCutAt next second rest → ((n : ℕ) → IsWordOf text_line IsWord second n → ⊥) → certificates.first_fault candidates bytes ≡ Some (faults.BadLine 2)
no_number candidates bytes line next second rest v cut w cut' none =
    two_lines candidates bytes line next second rest v cut w cut' ∙ ap (λ (o : Option ℕ). fault_after_text candidates v o (lines_of rest)) (stated_text_is second None none)

pub head_stated : (bytes line next second : List ℕ) (h : Head) → IsCutAt bytes line next → IsWordOf version_line IsVersion line h.version → IsCutAt next second h.rest.now → IsWordOf text_line IsWord second h.text → StatesHead bytes h
head_stated bytes line next second h cut w cut' t = record {
  version = w.fits;
  text = t.fits;
  lines = cut.whole ∙ ap (λ (l : List ℕ). l ++ next) w.is ∙ ap (λ (l : List ℕ). version_line h.version ++ l) (cut'.whole ∙ ap (λ (l : List ℕ). l ++ h.rest.now) t.is);
  fault = λ candidates. two_lines candidates bytes line next second h.rest.now h.version cut w cut' ∙ ap (λ (o : Option ℕ). fault_after_text candidates h.version o (lines_of h.rest.now)) (stated_text_is second (Some h.text) t);
}
