-- What is read from a line.
use Rattle.std.proofs.Common.{◌≡◌, ◌≢◌, ℕ, ◌+◌, ◌<◌, Bool, true, false, length, take, List, [], ◌∷◌, ◌++◌, Some, None, refl, sym, ap, subst, ◌∙◌, arith, length-append}
use mathlib.Core.Bool.{false≢true}
use Rattle.std.specs.Prelude.{Option, decimal, codes, ◌==◌, not, ◌&&◌, nat_lt, bytes_eq, take_while, if◌then◌else◌}
use Rattle.std.specs.List.{position_or_len}
use Rattle.std.specs.Str.Parse.{AllDigits, digits_value}
use Rattle.std.proofs.lemmas.Bool.Decides.{nat_tests}
use Rattle.std.proofs.lemmas.Fmt.{decimal_is_IsNumeral}
use Rattle.std.proofs.lemmas.Slice.Eq.{bytes_eq-Decides}
use Rattle.std.proofs.lemmas.List.{take-append-le, take_all}
use Rattle.std.proofs.lemmas.Str.Parse.{digit_from_value}
use Rattle.oi_base.specs.declared.ids.SiteId.{SiteId}
use Rattle.decisions.specs.declared.maps.Label.{Label}
use Rattle.decisions.specs.declared.maps.Label.TheVariants.{Keep, Inline}
use Rattle.decisions.specs.Text.{line_of, site_numbers}
use Rattle.decisions.specs.Reading.{site_before_space, is_line_of, entry_of}
use Rattle.decisions.proofs.Lookups.{same_site}

-- what follows the space in a line
abbrev pub after_space : Label → List ℕ
after_space Keep = codes "keep\n"
after_space Inline = codes "inline\n"

pub line_is : (s : SiteId) (l : Label) → line_of (s, l) ≡ decimal s.0 ++ 32 ∷ after_space l
unfolding line_of
line_is s Keep = refl
line_is s Inline = refl

no_space : (c : ℕ) (cs : List ℕ) → AllDigits 10 (c ∷ cs) → (c == 32) ≡ false
no_space c cs h = let r = digit_from_value c h.0 in grind (arith, nat_tests)

pub space_at : (ds rest : List ℕ) → AllDigits 10 ds → position_or_len (λ b. b == 32) (ds ++ 32 ∷ rest) ≡ length ds
space_at [] rest h = refl
space_at (c ∷ cs) rest h = rw (no_space c cs h) (grind (arith, space_at cs rest h.1))

pub take-space : (ds rest : List ℕ) → AllDigits 10 ds → take_while (λ b. not (b == 32)) (ds ++ 32 ∷ rest) ≡ ds
take-space ds rest h = rw (space_at ds rest h) (take-append-le (length ds) ds (32 ∷ rest) (omega arith) ∙ take_all (length ds) ds (omega arith))

digits_of_number : (n : ℕ) → n < site_numbers → AllDigits 10 (decimal n) × (digits_value 10 (decimal n) ≡ n)
digits_of_number n lt = let p = decimal_is_IsNumeral n (omega arith) in (p.0.1, p.1)

site_of_line : (s : SiteId) (l : Label) → s.0 < site_numbers → site_before_space (line_of (s, l)) ≡ s
site_of_line s l lt =
    let p = digits_of_number s.0 lt in
    same_site (site_before_space (line_of (s, l))) s (ap (λ (x : List ℕ). digits_value 10 (take_while (λ b. not (b == 32)) x)) (line_is s l) ∙ ap (λ (x : List ℕ). digits_value 10 x) (take-space (decimal s.0) (after_space l) p.0) ∙ p.1)

-- a line has one label
pub one_label : (s : SiteId) → line_of (s, Inline) ≡ line_of (s, Keep) → ⊥
one_label s e =
    let k : length (line_of (s, Inline)) ≡ length (decimal s.0) + 8 = ap (λ (x : List ℕ). length x) (line_is s Inline) ∙ length-append (decimal s.0) (32 ∷ after_space Inline) in
    let m : length (line_of (s, Keep)) ≡ length (decimal s.0) + 6 = ap (λ (x : List ℕ). length x) (line_is s Keep) ∙ length-append (decimal s.0) (32 ∷ after_space Keep) in
    let same : length (line_of (s, Inline)) ≡ length (line_of (s, Keep)) = ap (λ (x : List ℕ). length x) e in
    omega arith

is_line_true : (s : SiteId) (l : Label) → s.0 < site_numbers → is_line_of (line_of (s, l)) (s, l) ≡ true
is_line_true s l lt =
    let same : bytes_eq (line_of (s, l)) (line_of (s, l)) ≡ true = (bytes_eq-Decides (line_of (s, l)) (line_of (s, l))).1 refl in
    let below : nat_lt s.0 site_numbers ≡ true = grind (arith, nat_tests) in
    rw (below, same) refl

abbrev pick : SiteId → Bool → Bool → Option (SiteId × Label)
pick s keep inline = if keep then Some (s, Keep) else if inline then Some (s, Inline) else None

chosen : (s : SiteId) (keep inline : Bool) (l : Label) → (l ≡ Keep → keep ≡ true) → (l ≡ Inline → (keep ≡ false) × (inline ≡ true)) → pick s keep inline ≡ Some (s, l)
chosen s keep inline Keep k i = rw (k refl) refl
chosen s keep inline Inline k i = let p = i refl in rw (p.0, p.1) refl

not_keep : (s : SiteId) (b c : Bool) → bytes_eq (line_of (s, Inline)) (line_of (s, Keep)) ≡ c → (b && c) ≡ false
not_keep s b true e = absurd (one_label s ((bytes_eq-Decides (line_of (s, Inline)) (line_of (s, Keep))).0 e))
not_keep s true false e = refl
not_keep s false false e = refl

entry_by : (line : List ℕ) (t : SiteId) (o : Option (SiteId × Label)) → site_before_space line ≡ t → pick t (is_line_of line (t, Keep)) (is_line_of line (t, Inline)) ≡ o → entry_of line ≡ o
unfolding entry_of
entry_by line t o e h = subst (λ (t : SiteId). pick t (is_line_of line (t, Keep)) (is_line_of line (t, Inline)) ≡ o) (sym e) h

picked : (s : SiteId) (l : Label) → s.0 < site_numbers → pick s (is_line_of (line_of (s, l)) (s, Keep)) (is_line_of (line_of (s, l)) (s, Inline)) ≡ Some (s, l)
picked s Keep lt = chosen s _ _ Keep (λ e. is_line_true s Keep lt) (λ e. cc)
picked s Inline lt = chosen s _ _ Inline (λ e. cc) (λ e. (not_keep s _ _ refl, is_line_true s Inline lt))

pub entry_of_line : (s : SiteId) (l : Label) → s.0 < site_numbers → entry_of (line_of (s, l)) ≡ Some (s, l)
entry_of_line s l lt = entry_by (line_of (s, l)) s (Some (s, l)) (site_of_line s l lt) (picked s l lt)

found : (line : List ℕ) (e : SiteId × Label) → is_line_of line e ≡ true → (e.0.0 < site_numbers) × (line ≡ line_of e)
found line e h = (grind (arith, nat_tests), (bytes_eq-Decides line (line_of e)).0 (grind (arith, nat_tests)))

neither : (line : List ℕ) (s : SiteId) (keep inline : Bool) → is_line_of line (s, Keep) ≡ keep → is_line_of line (s, Inline) ≡ inline → ((s : SiteId) (l : Label) → s.0 < site_numbers → line ≢ line_of (s, l)) → pick s keep inline ≡ None
neither line s true inline k i never = let f = found line (s, Keep) k in absurd (never s Keep f.0 f.1)
neither line s false true k i never = let f = found line (s, Inline) i in absurd (never s Inline f.0 f.1)
neither line s false false k i never = refl

pub no_entry : (line : List ℕ) → ((s : SiteId) (l : Label) → s.0 < site_numbers → line ≢ line_of (s, l)) → entry_of line ≡ None
unfolding entry_of
no_entry line never = neither line (site_before_space line) _ _ refl refl never

-- what is read is a line
some_of : (line : List ℕ) (s : SiteId) (keep inline : Bool) → is_line_of line (s, Keep) ≡ keep → is_line_of line (s, Inline) ≡ inline → (e : SiteId × Label) → pick s keep inline ≡ Some e → (e.0.0 < site_numbers) × (line ≡ line_of e)
some_of line s true inline k i e h = let same : (s, Keep) ≡ e = cc in subst (λ (e : SiteId × Label). (e.0.0 < site_numbers) × (line ≡ line_of e)) same (found line (s, Keep) k)
some_of line s false true k i e h = let same : (s, Inline) ≡ e = cc in subst (λ (e : SiteId × Label). (e.0.0 < site_numbers) × (line ≡ line_of e)) same (found line (s, Inline) i)
some_of line s false false k i e h = cc

pub line_of_entry : (line : List ℕ) (e : SiteId × Label) → entry_of line ≡ Some e → (e.0.0 < site_numbers) × (line ≡ line_of e)
unfolding entry_of
line_of_entry line e h = some_of line (site_before_space line) _ _ refl refl e h

pub entry_given : (line : List ℕ) (s : SiteId) (l : Label) → s.0 < site_numbers → line ≡ line_of (s, l) → entry_of line ≡ Some (s, l)
entry_given line s l lt e = ap (λ (x : List ℕ). entry_of x) e ∙ entry_of_line s l lt

pub never_other : (line : List ℕ) (t s : SiteId) (l : Label) (keep inline : Bool) → (line ≡ line_of (t, Keep) → keep ≡ true) → (line ≡ line_of (t, Inline) → inline ≡ true) → keep ≡ false → inline ≡ false → t ≡ s → line ≡ line_of (s, l) → ⊥
never_other line t s Keep keep inline k i not_keep not_inline same e = let h = k (e ∙ ap (λ (x : SiteId). line_of (x, Keep)) (sym same)) in false≢true (sym not_keep ∙ h)
never_other line t s Inline keep inline k i not_keep not_inline same e = let h = i (e ∙ ap (λ (x : SiteId). line_of (x, Inline)) (sym same)) in false≢true (sym not_inline ∙ h)

pub number_part : (line : List ℕ) (s : SiteId) (l : Label) (n : ℕ) → s.0 < site_numbers → line ≡ line_of (s, l) → n ≡ position_or_len (λ b. b == 32) line → take n line ≡ decimal s.0
number_part line s l n lt e place =
    let digits = digits_of_number s.0 lt in
    let is : line ≡ decimal s.0 ++ 32 ∷ after_space l = e ∙ line_is s l in
    let at : n ≡ length (decimal s.0) = place ∙ ap (λ (x : List ℕ). position_or_len (λ b. b == 32) x) is ∙ space_at (decimal s.0) (after_space l) digits.0 in
    rw (at, is) (take-append-le (length (decimal s.0)) (decimal s.0) (32 ∷ after_space l) (omega arith) ∙ take_all (length (decimal s.0)) (decimal s.0) (omega arith))

pub some_site : (n : ℕ) (s : SiteId) → Some n ≡ Some s.0 → Some (let x : SiteId = record { 0 = n } in x) ≡ Some s
some_site n s e = let same : n ≡ s.0 = cc in ap (λ (x : SiteId). Some x) (same_site (record { 0 = n }) s same)
