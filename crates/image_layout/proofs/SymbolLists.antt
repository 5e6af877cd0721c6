-- The symbols of one linkage so far.
use Rattle.std.proofs.Common.{◌≡◌, Bool, true, false, not, cond, if◌then◌else◌, List, [], ◌∷◌, ◌++◌, append_assoc, refl, sym, ap, ◌∙◌}
use Rattle.elf_object.specs.declared.symbol.Symbol.{Symbol}
use Rattle.image_layout.specs.Symbols.{with_linkage}

-- whether a symbol is of the linkage
abbrev pub is_of : Bool → Symbol → Bool
is_of global s = if global then s.global else not s.global

pub of_both : (global : Bool) (xs ys : List Symbol) → with_linkage global (xs ++ ys) ≡ with_linkage global xs ++ with_linkage global ys
of_both global [] ys = refl
of_both global (s ∷ xs) ys = by (is_of global s) (of_both global xs ys)
  where
    by : (t : Bool) → with_linkage global (xs ++ ys) ≡ with_linkage global xs ++ with_linkage global ys
        → cond t (s ∷ with_linkage global (xs ++ ys)) (with_linkage global (xs ++ ys)) ≡ cond t (s ∷ with_linkage global xs) (with_linkage global xs) ++ with_linkage global ys
    by true e = ap (λ (ss : List Symbol). s ∷ ss) e
    by false e = e

-- one more symbol, which is of the linkage, or isn't
pub with_one : (global : Bool) (s : Symbol) (ss before after all : List Symbol) → is_of global s ≡ true
    → after ≡ before ++ s ∷ [] → before ++ with_linkage global (s ∷ ss) ≡ all → after ++ with_linkage global ss ≡ all
with_one global s ss before after all is e h =
    ap (λ (xs : List Symbol). xs ++ with_linkage global ss) e ∙ append_assoc before (s ∷ []) (with_linkage global ss)
    ∙ ap (λ (t : Bool). before ++ cond t (s ∷ with_linkage global ss) (with_linkage global ss)) (sym is) ∙ h

pub without_one : (global : Bool) (s : Symbol) (ss before all : List Symbol) → is_of global s ≡ false
    → before ++ with_linkage global (s ∷ ss) ≡ all → before ++ with_linkage global ss ≡ all
without_one global s ss before all is h = ap (λ (t : Bool). before ++ cond t (s ∷ with_linkage global ss) (with_linkage global ss)) (sym is) ∙ h
