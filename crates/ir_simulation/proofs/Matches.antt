-- What the effect of an instruction is matched by where it is made under other numbers, on values that may stand for the old ones.
use Rattle.std.proofs.Common.{◌≡◌, ℕ, refl, sym, subst, List, [], ◌∷◌, map, Option, Some, None, option_map}
use Rattle.oi_base.specs.declared.ids.RegId.{RegId}
use Rattle.ir_core.specs.declared.flat.FlatOp.{FlatOp}
use Rattle.ir_core.specs.declared.flat.FlatOp.TheVariants.{Reg, Word, Null, Address, Poison}
use Rattle.ir_core.specs.Memory.{Value, Bits, At, NullPointer, Poisoned, Memory}
use Rattle.ir_core.specs.Flat.{Regs, Effect, Sets, Allocates, Stores, Puts, Takes, Enters, Goes, Returns, Stops, NoMeaning, NoValue, value_of, using, operand, arguments}
use Rattle.ir_simulation.proofs.Below.{Below, MemoryBelow}
use Rattle.ir_simulation.specs.Renamed.{reg_to, op_to}

module _ (Twin : ℕ → ℕ → Type 0) where
  -- a value, where the source has one, has one above it
  abbrev pub OptionBelow : Option Value → Option Value → Type 0
  OptionBelow None y = Unit {0}
  OptionBelow (Some v) y = (u : Value) × (y ≡ Some u) × Below Twin v u

  abbrev pub AllBelow : List (Option Value) → List (Option Value) → Type 0
  AllBelow [] [] = Unit {0}
  AllBelow (x ∷ xs) (y ∷ ys) = OptionBelow x y × AllBelow xs ys
  AllBelow [] (y ∷ ys) = ⊥
  AllBelow (x ∷ xs) [] = ⊥

  -- an address stands for itself
  abbrev pub Fits : FlatOp → Type 0
  Fits (Address s k) = Twin s s
  Fits o = Unit {0}

  abbrev pub AllFit : List FlatOp → Type 0
  AllFit [] = Unit {0}
  AllFit (o ∷ os) = Fits o × AllFit os

  module _ (g : ℕ → ℕ) where
    -- each register that has a value has one above it, under its other number
    abbrev pub RegsBelow : Regs → Regs → Type 0
    RegsBelow old new = (r : ℕ) (v : Value) → old r ≡ Some v → (u : Value) × (new (g r) ≡ Some u) × Below Twin v u

    pub data Matches (h : ℕ → ℕ) : Effect → Effect → Type 0 where
      sets : {d : RegId} {v u : Value} → Below Twin v u → Matches h (Sets d v) (Sets (reg_to g d) u)
      allocates : {d : RegId} {size align : ℕ} → Matches h (Allocates d size align) (Allocates (reg_to g d) size align)
      stores : {m n : Memory} → MemoryBelow Twin m n → Matches h (Stores m) (Stores n)
      puts : {d : Option RegId} {b : ℕ} → Matches h (Puts d b) (Puts (option_map (reg_to g) d) b)
      takes : {d : Option RegId} → Matches h (Takes d) (Takes (option_map (reg_to g) d))
      enters : {d : Option RegId} {f : ℕ} {xs ys : List (Option Value)} → AllBelow xs ys → Matches h (Enters d f xs) (Enters (option_map (reg_to g) d) f ys)
      goes : {x : ℕ} → Matches h (Goes x) (Goes (h x))
      returns : {v u : Option Value} → OptionBelow v u → Matches h (Returns v) (Returns u)
      stops : {w : ℕ} → Matches h (Stops w) (Stops w)
      -- the source is undefined or stuck, or the follower is stuck
      broken : {e : Effect} → Matches h NoMeaning e
      no_source : {e : Effect} → Matches h NoValue e
      no_follower : {e : Effect} → Matches h e NoValue

    pub value_below : (old new : Regs) (o : FlatOp) → RegsBelow old new → Fits o → OptionBelow (value_of old o) (value_of new (op_to g o))
    value_below old new (Reg r) b f = by_value (old r.0) refl
      where
        by_value : (v : Option Value) → old r.0 ≡ v → OptionBelow v (new (g r.0))
        by_value None e = tt
        by_value (Some v) e = b r.0 v e
    value_below old new (Word a) b f = (Bits a, refl, refl)
    value_below old new Null b f = (NullPointer, refl, refl)
    value_below old new (Address s k) b f = (At s k, refl, (s, f, refl))
    value_below old new Poison b f = (Poisoned, refl, tt)

    pub using_matches : (h : ℕ → ℕ) (x y : Option Value) (go go' : Value → Effect) → OptionBelow x y → ((v u : Value) → Below Twin v u → Matches h (go v) (go' u)) → Matches h (using x go) (using y go')
    using_matches h None y go go' b k = no_source
    using_matches h (Some v) y go go' b k = subst (λ z. Matches h (go v) (using z go')) (sym b.1) (k v b.0 b.2)

    pub operand_matches : (h : ℕ → ℕ) (old new : Regs) (o : FlatOp) (go go' : Value → Effect) → RegsBelow old new → Fits o → ((v u : Value) → Below Twin v u → Matches h (go v) (go' u)) → Matches h (operand old o go) (operand new (op_to g o) go')
    operand_matches h old new o go go' b f k = using_matches h (value_of old o) (value_of new (op_to g o)) go go' (value_below old new o b f) k

    pub arguments_below : (old new : Regs) (os : List FlatOp) → RegsBelow old new → AllFit os → AllBelow (arguments old os) (arguments new (map (op_to g) os))
    arguments_below old new [] b f = tt
    arguments_below old new (o ∷ os) b f = (value_below old new o b f.0, arguments_below old new os b f.1)
