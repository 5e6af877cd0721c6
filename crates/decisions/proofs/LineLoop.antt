-- One line after the other.
use Rattle.std.proofs.Common.{◌≡◌, ◌≢◌, ℕ, ◌+◌, ◌<◌, Bool, true, false, cond, length, take, drop, map, List, [], ◌∷◌, ◌++◌, Some, None, Err, refl, sym, ap, subst, ◌∙◌, arith, append_assoc}
use mathlib.Core.Bool.{false≢true}
use Rattle.std.specs.Prelude.{Option, ◌==◌, option_map}
use Rattle.std.proofs.lemmas.Bool.Decides.{nat_tests}
use Rattle.std.proofs.lemmas.Grind.{common_steps, flat_map-append}
use Rattle.std.proofs.lemmas.List.{append-nil}
use Rattle.oi_base.specs.declared.ids.SiteId.{SiteId}
use Rattle.decisions.specs.declared.maps.Label.{Label}
use Rattle.decisions.specs.declared.faults.DecisionFault.{DecisionFault}
use Rattle.decisions.specs.declared.faults.DecisionFault.TheVariants.{BadLine, NotCandidate, Twice, Missing, NoMemory}
use Rattle.decisions.specs.Maps.{label_of, sites_of, decided, SetsOnly}
use Rattle.oi_base.specs.Ascending.{IsAscending}
use Rattle.decisions.specs.Text.{line_of, text_of}
use Rattle.decisions.specs.Ends.{end_of}
use Rattle.decisions.specs.Reading.{lines_of, entry_of, is_among, line_fault, missing, first_of, fault_from, first_fault, HasNoRepeats, IsTextOf}
use Rattle.decisions.specs.Steps.{Gives, Takes, first_undecided}
use Rattle.decisions.proofs.Lookups.{same_site}
use Rattle.decisions.proofs.Entries.{line_of_entry}
use Rattle.decisions.proofs.LineSplits.{first_line}
use Rattle.decisions.proofs.LinesSoFar.{over, label_of-append, once_more, sites_over, label_over, undecided_over, from_labels, same_number}

pub record ReadsOn (sites : List SiteId) (bytes : List ℕ) (n : ℕ) (rest : List ℕ) (p : List (SiteId × Option Label)) (before : List (SiteId × Label)) : Type 0 where
  pub is_map : p ≡ over sites before
  pub text : bytes ≡ text_of before ++ rest
  pub once : HasNoRepeats before
  pub known : (s : SiteId) → is_among sites s ≡ false → label_of before s ≡ None
  pub fault : fault_from sites before (n + 1) (lines_of rest) ≡ first_fault sites bytes

was_by : (t : Bool) (o : Option Label) → cond t (Some o) None ≡ Some None → (t ≡ true) × (o ≡ None)
was_by true o e = (refl, cc)
was_by false o e = cc

had_by : (t : Bool) (o : Option Label) (l : Label) → cond t (Some o) None ≡ Some (Some l) → (t ≡ true) × (o ≡ Some l)
had_by true o l e = (refl, cc)
had_by false o l e = cc

out_by : (t : Bool) (o : Option Label) → cond t (Some o) None ≡ None → t ≡ false
out_by true o e = cc
out_by false o e = refl

added : (before : List (SiteId × Label)) (site : SiteId) (label : Label) → label_of before site ≡ None → label_of (before ++ (site, label) ∷ []) site ≡ Some label
added before site label none = label_of-append before ((site, label) ∷ []) site ∙ rw (none, same_number site) refl

first_none : (o : Option Label) → first_of o None ≡ o
first_none None = refl
first_none (Some l) = refl

kept : (before : List (SiteId × Label)) (site : SiteId) (label : Label) (x : SiteId) → (site.0 == x.0) ≡ false → label_of (before ++ (site, label) ∷ []) x ≡ label_of before x
kept before site label x differs = label_of-append before ((site, label) ∷ []) x ∙ rw differs (first_none (label_of before x))

set_over : (sites : List SiteId) → IsAscending sites → (before : List (SiteId × Label)) (site : SiteId) (label : Label) (p p' : List (SiteId × Option Label)) → p ≡ over sites before → SetsOnly p p' site (Some label) → label_of before site ≡ None → p' ≡ over sites (before ++ (site, label) ∷ [])
set_over sites up before site label p p' is sets none =
    let same : sites_of p' ≡ sites = sets.same_sites ∙ ap (λ (m : List (SiteId × Option Label)). sites_of m) is ∙ sites_over sites before in
    let f = λ (x : SiteId). label_of (before ++ (site, label) ∷ []) x in
    from_labels p' (subst IsAscending (sym same) up) f (λ x among. by_site x (subst (λ (l : List SiteId). is_among l x ≡ true) same among) (site.0 == x.0) refl) ∙ ap (λ (l : List SiteId). map (λ s. (s, f s)) l) same
  where
    by_site : (x : SiteId) → is_among sites x ≡ true → (t : Bool) → (site.0 == x.0) ≡ t → label_of p' x ≡ Some (label_of (before ++ (site, label) ∷ []) x)
    by_site x among true e =
        let here : site ≡ x = same_site site x (grind (arith, nat_tests)) in
        subst (λ (z : SiteId). label_of p' z ≡ Some (label_of (before ++ (site, label) ∷ []) z)) here (sets.this_site ∙ ap (λ (o : Option Label). Some o) (sym (added before site label none)))
    by_site x among false e =
        let differs : x ≢ site = λ same. let k : x.0 ≡ site.0 = ap (λ (z : SiteId). z.0) same in grind (arith, nat_tests) in
        sets.other_sites x differs ∙ ap (λ (m : List (SiteId × Option Label)). label_of m x) is ∙ label_over sites before x ∙ rw among refl ∙ ap (λ (o : Option Label). Some o) (sym (kept before site label x e))

fault_step : (sites : List SiteId) (before : List (SiteId × Label)) (m : ℕ) (line : List ℕ) (lines : List (List ℕ)) (e : SiteId × Label) → entry_of line ≡ Some e → is_among sites e.0 ≡ true → label_of before e.0 ≡ None → fault_from sites before m (line ∷ lines) ≡ fault_from sites (before ++ e ∷ []) (m + 1) lines
unfolding fault_from
fault_step sites before m line lines e h among none = rw (h, among, none) refl

fault_here : (sites : List SiteId) (before : List (SiteId × Label)) (m : ℕ) (line : List ℕ) (lines : List (List ℕ)) (f : DecisionFault) → line_fault sites before m (entry_of line) ≡ Some f → fault_from sites before m (line ∷ lines) ≡ Some f
unfolding fault_from
fault_here sites before m line lines f h = rw h refl

fault_end : (sites : List SiteId) (before : List (SiteId × Label)) (m : ℕ) → fault_from sites before m [] ≡ missing sites before
unfolding fault_from
fault_end sites before m = refl

lines_of_rest : (rest : List ℕ) (end : ℕ) → 0 < length rest → end ≡ end_of rest → lines_of rest ≡ take end rest ∷ lines_of (drop end rest)
lines_of_rest [] end lt e = absurd (omega arith)
lines_of_rest (b ∷ bs) end lt e = rw e (first_line b bs)

text_more : (before : List (SiteId × Label)) (e : SiteId × Label) → text_of (before ++ e ∷ []) ≡ text_of before ++ line_of e
text_more before e = flat_map-append line_of before (e ∷ []) ∙ ap (λ (x : List ℕ). text_of before ++ x) (append-nil (line_of e))

cut : (rest : List ℕ) (end : ℕ) → take end rest ++ drop end rest ≡ rest
cut rest end = grind (arith, common_steps)

pub step : (sites : List SiteId) → IsAscending sites → (bytes : List ℕ) (n : ℕ) (rest : List ℕ) (p p' : List (SiteId × Option Label)) (end : ℕ) → (before : List (SiteId × Label)) × ReadsOn sites bytes n rest p before → 0 < length rest → end ≡ end_of rest → Gives (take end rest) p p' → (before : List (SiteId × Label)) × ReadsOn sites bytes (n + 1) (drop end rest) p' before
step sites up bytes n rest p p' end state lt is_end g =
    let before = state.0 in
    let r = state.1 in
    let e : SiteId × Label = (g.site, g.label) in
    let was = was_by (is_among sites g.site) (label_of before g.site) (sym (label_over sites before g.site) ∙ ap (λ (m : List (SiteId × Option Label)). label_of m g.site) (sym r.is_map) ∙ g.was) in
    let line : take end rest ≡ line_of e = (line_of_entry (take end rest) e g.stated).1 in (
      before ++ e ∷ [],
      record {
        is_map = set_over sites up before g.site g.label p p' r.is_map g.sets was.1;
        text = r.text ∙ ap (λ (x : List ℕ). text_of before ++ x) (sym (cut rest end) ∙ ap (λ (x : List ℕ). x ++ drop end rest) line) ∙ sym (append_assoc (text_of before) (line_of e) (drop end rest)) ∙ ap (λ (x : List ℕ). x ++ drop end rest) (sym (text_more before e));
        once = once_more before e r.once was.1;
        known = λ s out. kept before g.site g.label s (differs s out was.0) ∙ r.known s out;
        fault = sym (fault_step sites before (n + 1) (take end rest) (lines_of (drop end rest)) e g.stated was.0 was.1) ∙ ap (λ (x : List (List ℕ)). fault_from sites before (n + 1) x) (sym (lines_of_rest rest end lt is_end)) ∙ r.fault;
      },
    )
  where
    differs_by : (s : SiteId) → is_among sites s ≡ false → is_among sites g.site ≡ true → (t : Bool) → (g.site.0 == s.0) ≡ t → (g.site.0 == s.0) ≡ false
    differs_by s out among true h = let same : g.site ≡ s = same_site g.site s (grind (arith, nat_tests)) in absurd (false≢true (sym out ∙ ap (λ (z : SiteId). is_among sites z) (sym same) ∙ among))
    differs_by s out among false h = h

    differs : (s : SiteId) → is_among sites s ≡ false → is_among sites g.site ≡ true → (g.site.0 == s.0) ≡ false
    differs s out among = differs_by s out among (g.site.0 == s.0) refl

faulty : (sites : List SiteId) (before : List (SiteId × Label)) (p p' : List (SiteId × Option Label)) (m : ℕ) (line : List ℕ) (f : DecisionFault) → p ≡ over sites before → Takes line m p p' (Err f) → f ≢ NoMemory → line_fault sites before m (entry_of line) ≡ Some f
faulty sites before p p' m line (BadLine k) is t other = rw (t.1, t.0) refl
faulty sites before p p' m line (NotCandidate k s) is t other =
    let out = out_by (is_among sites s) (label_of before s) (sym (label_over sites before s) ∙ ap (λ (z : List (SiteId × Option Label)). label_of z s) (sym is) ∙ t.1.has) in
    rw (t.1.stated, t.0, out) refl
faulty sites before p p' m line (Twice k s) is t other =
    let had = had_by (is_among sites s) (label_of before s) t.1 (sym (label_over sites before s) ∙ ap (λ (z : List (SiteId × Option Label)). label_of z s) (sym is) ∙ t.2.has) in
    rw (t.2.stated, t.0, had.0, had.1) refl
faulty sites before p p' m line (Missing s) is t other = absurd t
faulty sites before p p' m line NoMemory is t other = absurd (other refl)

pub stops : (sites : List SiteId) (bytes : List ℕ) (n : ℕ) (rest : List ℕ) (p p' : List (SiteId × Option Label)) (end : ℕ) (f : DecisionFault) → (before : List (SiteId × Label)) × ReadsOn sites bytes n rest p before → 0 < length rest → end ≡ end_of rest → Takes (take end rest) (n + 1) p p' (Err f) → f ≢ NoMemory → first_fault sites bytes ≡ Some f
stops sites bytes n rest p p' end f state lt is_end t other =
    sym state.1.fault ∙ ap (λ (x : List (List ℕ)). fault_from sites state.0 (n + 1) x) (lines_of_rest rest end lt is_end) ∙ fault_here sites state.0 (n + 1) (take end rest) (lines_of (drop end rest)) f (faulty sites state.0 p p' (n + 1) (take end rest) f state.1.is_map t other)

at_end : (sites : List SiteId) (bytes : List ℕ) (n : ℕ) (rest : List ℕ) (p : List (SiteId × Option Label)) (before : List (SiteId × Label)) → ReadsOn sites bytes n rest p before → length rest ≡ 0 → first_fault sites bytes ≡ option_map (λ s. Missing s) (first_undecided p)
at_end sites bytes n [] p before r e = sym r.fault ∙ fault_end sites before (n + 1) ∙ ap (λ (o : Option SiteId). option_map (λ s. Missing s) o) (sym (undecided_over sites before) ∙ ap (λ (m : List (SiteId × Option Label)). first_undecided m) (sym r.is_map))
at_end sites bytes n (b ∷ bs) p before r e = absurd (omega arith)

pub ends_missing : (sites : List SiteId) (bytes : List ℕ) (n : ℕ) (rest : List ℕ) (p : List (SiteId × Option Label)) → (before : List (SiteId × Label)) × ReadsOn sites bytes n rest p before → length rest ≡ 0 → first_fault sites bytes ≡ option_map (λ s. Missing s) (first_undecided p)
ends_missing sites bytes n rest p state e = at_end sites bytes n rest p state.0 state.1 e

sites_decided : (d : List (SiteId × Label)) → sites_of (decided d) ≡ sites_of d
sites_decided [] = refl
sites_decided (e ∷ rest) = ap (λ (x : List SiteId). e.0 ∷ x) (sites_decided rest)

pub ends_sites : (sites : List SiteId) (bytes : List ℕ) (n : ℕ) (rest : List ℕ) (p : List (SiteId × Option Label)) (d : List (SiteId × Label)) → (before : List (SiteId × Label)) × ReadsOn sites bytes n rest p before → decided d ≡ p → sites_of d ≡ sites
ends_sites sites bytes n rest p d state e = sym (sites_decided d) ∙ ap (λ (m : List (SiteId × Option Label)). sites_of m) (e ∙ state.1.is_map) ∙ sites_over sites state.0

some_by : (t : Bool) (l : Label) (o : Option Label) → cond t (Some (Some l)) (option_map (λ l. Some l) o) ≡ option_map (λ l. Some l) (cond t (Some l) o)
some_by true l o = refl
some_by false l o = refl

label_decided : (d : List (SiteId × Label)) (s : SiteId) → label_of (decided d) s ≡ option_map (λ l. Some l) (label_of d s)
label_decided [] s = refl
label_decided (e ∷ rest) s = ap (λ (o : Option (Option Label)). cond (e.0.0 == s.0) (Some (Some e.1)) o) (label_decided rest s) ∙ some_by (e.0.0 == s.0) e.1 (label_of rest s)

same_by : (t : Bool) (a o : Option Label) → (t ≡ false → a ≡ None) → option_map (λ l. Some l) o ≡ cond t (Some a) None → a ≡ o
same_by true a None known h = cc
same_by true a (Some l) known h = cc
same_by false a None known h = known refl
same_by false a (Some l) known h = cc

pub ends_text : (sites : List SiteId) (bytes : List ℕ) (n : ℕ) (rest : List ℕ) (p : List (SiteId × Option Label)) (d : List (SiteId × Label)) → (before : List (SiteId × Label)) × ReadsOn sites bytes n rest p before → length rest ≡ 0 → decided d ≡ p → IsTextOf bytes d
ends_text sites bytes n [] p d state e is = record {
  lines = state.0;
  text = state.1.text ∙ append-nil (text_of state.0);
  once = state.1.once;
  same = λ s. same_by (is_among sites s) (label_of state.0 s) (label_of d s) (state.1.known s) (sym (label_decided d s) ∙ ap (λ (m : List (SiteId × Option Label)). label_of m s) (is ∙ state.1.is_map) ∙ label_over sites state.0 s);
}
ends_text sites bytes n (b ∷ bs) p d state e is = absurd (omega arith)

undecided_nil : (sites : List SiteId) → map (λ s. (s, None)) sites ≡ over sites []
undecided_nil sites = refl

pub begins : (sites : List SiteId) (bytes : List ℕ) (p : List (SiteId × Option Label)) → p ≡ map (λ s. (s, None)) sites → (before : List (SiteId × Label)) × ReadsOn sites bytes 0 bytes p before
begins sites bytes p e = ([], record { is_map = e; text = refl; once = tt; known = λ s out. refl; fault = refl })

pub stops_at : (sites : List SiteId) (bytes : List ℕ) (n : ℕ) (rest : List ℕ) (p p' : List (SiteId × Option Label)) (end : ℕ) (f : DecisionFault) (line : List ℕ) → (before : List (SiteId × Label)) × ReadsOn sites bytes n rest p before → 0 < length rest → end ≡ end_of rest → line ≡ take end rest → Takes line (n + 1) p p' (Err f) → f ≢ NoMemory → first_fault sites bytes ≡ Some f
stops_at sites bytes n rest p p' end f line state lt is_end is_line t = stops sites bytes n rest p p' end f state lt is_end (subst (λ (x : List ℕ). Takes x (n + 1) p p' (Err f)) is_line t)
