-- The order of kinds, turn by turn.
use Rattle.std.proofs.Common.{◌≡◌, refl, sym, ap, ◌∙◌, subst, ℕ, zero, suc, Bool, true, false, if◌then◌else◌, List, [], ◌∷◌, ◌++◌, Option, Some, None, length, arith}
use Rattle.std.specs.Option.{option_map_or}
use Rattle.std.proofs.lemmas.List.{append_assoc, append-nil}
use Rattle.ir_printer.specs.declared.demands.Demand.{Demand}
use Rattle.ir_printer.specs.declared.demands.Demands.{Demands}
use Rattle.ir_printer.specs.declared.demands.Known.{Known}
use Rattle.ir_printer.specs.declared.order.Kind.{Kind}
use Rattle.ir_printer.specs.declared.order.Kind.TheVariants as kinds
use Rattle.ir_printer.specs.Order.{turn, turns, first_fits, is_left, first_left, first_known, queue_of, rest, without_first, count}

-- an entity of the kind is left
abbrev pub Has : Demands → Option Kind → Type 0
Has q None = Unit {0}
Has q (Some kind) = is_left (queue_of kind q) ≡ true

pick : (b : Bool) (q : Demands) (kind : Kind) (other : Option Kind) → (b ≡ true → is_left (queue_of kind q) ≡ true) → Has q other → Has q (if b then Some kind else other)
pick true q kind other h o = h refl
pick false q kind other h o = o

fitting : (k : Known) (ds : List Demand) → first_fits k ds ≡ true → is_left ds ≡ true
fitting k [] h = h
fitting k (d ∷ ds) h = refl

left_has : (q : Demands) → Has q (first_left q)
left_has q =
    pick (is_left q.types) q kinds.Type _ (λ h. h)
    (pick (is_left q.globals) q kinds.Global _ (λ h. h)
    (pick (is_left q.funcs) q kinds.Func _ (λ h. h)
    (pick (is_left q.declared) q kinds.Declared _ (λ h. h) tt)))

turn_has : (k : Known) (q : Demands) → Has q (turn k q)
turn_has k q =
    pick (first_fits k q.types) q kinds.Type _ (fitting k q.types)
    (pick (first_fits k q.globals) q kinds.Global _ (fitting k q.globals)
    (pick (first_fits k q.funcs) q kinds.Func _ (fitting k q.funcs)
    (pick (first_fits k q.declared) q kinds.Declared _ (fitting k q.declared) (left_has q))))

rest_less : (ds : List Demand) → is_left ds ≡ true → length ds ≡ suc (length (rest ds))
rest_less [] h = cc
rest_less (d ∷ ds) h = refl

has_less : (kind : Kind) (q : Demands) → is_left (queue_of kind q) ≡ true → count q ≡ suc (count (without_first kind q))
has_less kinds.Target q h = cc
has_less kinds.Type q h = let l = rest_less q.types h in omega arith
has_less kinds.Global q h = let l = rest_less q.globals h in omega arith
has_less kinds.Func q h = let l = rest_less q.funcs h in omega arith
has_less kinds.Declared q h = let l = rest_less q.declared h in omega arith

-- a turn takes one entity away
pub one_less : (k : Known) (q : Demands) (kind : Kind) → turn k q ≡ Some kind → count q ≡ suc (count (without_first kind q))
one_less k q kind e = has_less kind q (subst (λ (t : Option Kind). Has q t) e (turn_has k q))

next_turn : (k : Known) (q : Demands) (kind : Kind) → turn k q ≡ Some kind → turns (count q) k q ≡ kind ∷ turns (count (without_first kind q)) (first_known k (queue_of kind q)) (without_first kind q)
next_turn k q kind e =
    ap (λ (n : ℕ). turns n k q) (one_less k q kind e)
    ∙ ap (λ (t : Option Kind). option_map_or (λ (x : Kind). x ∷ turns (count (without_first kind q)) (first_known k (queue_of x q)) (without_first x q)) t []) e

-- one more kind is found
pub turned : (ks more : List Kind) (k next : Known) (q others : Demands) (kind : Kind) (all : List Kind) →
    turn k q ≡ Some kind → more ≡ ks ++ kind ∷ [] → next ≡ first_known k (queue_of kind q) → others ≡ without_first kind q →
    ks ++ turns (count q) k q ≡ all → more ++ turns (count others) next others ≡ all
turned ks more k next q others kind all e pushed known taken so_far =
    ap (λ (xs : List Kind). xs ++ turns (count others) next others) pushed
    ∙ append_assoc ks (kind ∷ []) (turns (count others) next others)
    ∙ ap (λ (x : Known). ks ++ kind ∷ turns (count others) x others) known
    ∙ ap (λ (x : Demands). ks ++ kind ∷ turns (count x) (first_known k (queue_of kind q)) x) taken
    ∙ ap (λ (xs : List Kind). ks ++ xs) (sym (next_turn k q kind e))
    ∙ so_far

no_turns : (n : ℕ) (k : Known) (q : Demands) → turn k q ≡ None → turns n k q ≡ []
no_turns zero k q e = refl
no_turns (suc n) k q e = ap (λ (t : Option Kind). option_map_or (λ (x : Kind). x ∷ turns n (first_known k (queue_of x q)) (without_first x q)) t []) e

-- none is left
pub all_found : (ks : List Kind) (k : Known) (q : Demands) (all : List Kind) → turn k q ≡ None → ks ++ turns (count q) k q ≡ all → ks ≡ all
all_found ks k q all e so_far = sym (append-nil ks) ∙ ap (λ (xs : List Kind). ks ++ xs) (sym (no_turns (count q) k q e)) ∙ so_far
