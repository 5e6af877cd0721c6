-- Every instruction's row respects what may stand for its operands, under other numbers of registers.
use Rattle.std.proofs.Common.{◌≡◌, ◌&&◌, ℕ, ◌%◌, refl, sym, ap₂, subst, Bool, true, false, nat_eq, if◌then◌else◌, List, [], ◌∷◌, map, Option, Some, None}
use Rattle.ir_core.specs.declared.flat.Scalar.{Scalar}
use Rattle.ir_core.specs.declared.flat.Scalar.TheVariants as scalar
use Rattle.ir_core.specs.declared.flat.Cmp.{Cmp}
use Rattle.oi_base.specs.declared.ids.RegId.{RegId}
use Rattle.ir_core.specs.declared.flat.FlatOp.{FlatOp}
use Rattle.ir_core.specs.declared.flat.Term.{Term}
use Rattle.ir_core.specs.declared.flat.FlatInstr.{FlatInstr}
use Rattle.ir_core.specs.declared.flat.FlatInstr.TheVariants.{Bin, Icmp, Select, Cast, Copy, Alloca, Load, Store, Gep, Call, Put, Get, Exit}
use Rattle.oi_base.specs.Words.{modulus}
use Rattle.ir_core.specs.Memory.{Value, Bits, At, NullPointer, Poisoned, Memory, load, store}
use Rattle.ir_core.specs.Rows.{Answer, Gives, Read, Is, IsPoison, IsOther, as_word, is_of, is_pointer, icmp, moved}
use Rattle.ir_core.specs.Flat.{Regs, Effect, Sets, Stores, Distance, Far, PoisonFar, NoDistance, further, read_option, distance, load_gives, store_gives, if_typed, gep_gives, answered, operand, value_of, effect}
use Rattle.ir_simulation.proofs.Below.{Below, MemoryBelow}
use Rattle.ir_simulation.specs.Renamed.{reg_to, op_to, term_to, instr_to}
use Rattle.ir_core.specs.Formed.{used_by}
use Rattle.ir_simulation.proofs.Matches.{OptionBelow, Fits, RegsBelow, Matches, sets, allocates, stores, puts, takes, enters, stops, broken, no_source, no_follower, value_below, operand_matches, arguments_below, AllFit}
use Rattle.ir_simulation.proofs.Respect.{AnswerBelow, answered_matches, ReadBelow, read_below, word_matches, bin_below, test_below, choose_below, cast_below}
use Rattle.ir_simulation.proofs.Places.{pointer_by}
use Rattle.ir_simulation.proofs.Loads.{load_too, store_too, sized}

module _ (Twin : ℕ → ℕ → Type 0) (g h : ℕ → ℕ) (m n : Memory) (mb : MemoryBelow Twin m n) (old new : Regs) (rb : RegsBelow Twin g old new) where
  icmp_below : (c : Cmp) (s : Scalar) (x y x' y' : Value) → Below Twin x x' → Below Twin y y' → AnswerBelow Twin (icmp m c s x y) (icmp n c s x' y')
  icmp_below c (scalar.Word w) x y x' y' a b = test_below Twin c w (as_word (modulus w) x) (as_word (modulus w) y) _ _ (read_below Twin (modulus w) x x' a) (read_below Twin (modulus w) y y' b)
  icmp_below c scalar.Pointer x y x' y' a b = pointer_by Twin m n mb c x y x' y' (is_pointer x) (is_pointer y) refl refl a b

  load_by : (d : RegId) (s : Scalar) (align : ℕ) (x x' : Value) (o : Option Value) → Below Twin x x' → load m s align x ≡ o → Matches Twin g h (load_gives d o) (load_gives (reg_to g d) (load n s align x'))
  load_by d s align x x' None b e = broken
  load_by d s align x x' (Some v) b e = let r = load_too Twin m n mb s align x x' v b e in subst (λ z. Matches Twin g h (Sets d v) (load_gives (reg_to g d) z)) (sym r.1) (sets r.2)

  -- both ask for values of a type
  typed_by : (c t : Bool) (e e' : Effect) → Matches Twin g h e e' → Matches Twin g h (if_typed c e) (if_typed t e')
  typed_by true true e e' k = k
  typed_by false t e e' k = no_source
  typed_by true false e e' k = no_follower

  store_by : (s : Scalar) (align : ℕ) (v u x x' : Value) (o : Option Memory) (c t : Bool) → Below Twin v u → Below Twin x x' → (t ≡ true → is_of s u ≡ true) → store m s align v x ≡ o → Matches Twin g h (if_typed c (store_gives o)) (if_typed t (store_gives (store n s align u x')))
  store_by s align v u x x' o false t vu xx et e = no_source
  store_by s align v u x x' o true false vu xx et e = no_follower
  store_by s align v u x x' None true true vu xx et e = broken
  store_by s align v u x x' (Some m') true true vu xx et e =
      let r = store_too Twin m n mb s align v u x x' m' vu (sized Twin s u (et refl)) xx e in
      subst (λ z. Matches Twin g h (Stores m') (store_gives z)) (sym r.1) (stores r.2)

  first_true : (a b : Bool) → (a && b) ≡ true → a ≡ true
  first_true true b e = refl
  first_true false b e = e

  -- ---- the distance of a GEP

  abbrev DistanceBelow : Distance → Distance → Type 0
  DistanceBelow (Far d) e = e ≡ Far d
  DistanceBelow PoisonFar e = Unit {0}
  DistanceBelow NoDistance e = Unit {0}

  option_read : (w : ℕ) (o o' : Option Value) → OptionBelow Twin o o' → ReadBelow Twin (read_option w o) (read_option w o')
  option_read w None o' b = tt
  option_read w (Some v) o' b = subst (λ z. ReadBelow Twin (as_word w v) (read_option w z)) (sym b.1) (read_below Twin w v b.0 b.2)

  further_below : (t : Term) (r r' : Read) (d d' : Distance) → ReadBelow Twin r r' → DistanceBelow d d' → DistanceBelow (further t r d) (further (term_to g t) r' d')
  further_below t (Is a) r' (Far d) d' b e = ap₂ (further (term_to g t)) b e
  further_below t IsPoison r' (Far d) d' b e = tt
  further_below t IsOther r' (Far d) d' b e = tt
  further_below t (Is a) r' NoDistance d' b e = tt
  further_below t IsPoison r' NoDistance d' b e = tt
  further_below t IsOther r' NoDistance d' b e = tt
  further_below t (Is a) r' PoisonFar d' b e = tt
  further_below t IsPoison r' PoisonFar d' b e = tt
  further_below t IsOther r' PoisonFar d' b e = tt

  distance_below : (k : ℕ) (ts : List Term) → AllFit Twin (map (λ (t : Term). t.operand) ts) → DistanceBelow (distance old k ts) (distance new k (map (term_to g) ts))
  distance_below k [] f = refl
  distance_below k (t ∷ ts) f = further_below t (read_option (modulus t.width) (value_of old t.operand)) _ (distance old k ts) _ (option_read (modulus t.width) (value_of old t.operand) _ (value_below Twin g old new t.operand rb f.0)) (distance_below k ts f.1)

  moved_below : (x x' : Value) (d : ℕ) → Below Twin x x' → AnswerBelow Twin (moved x d) (moved x' d)
  moved_below (Bits a) x' d b = tt
  moved_below (At c o) x' d b = subst (λ z. AnswerBelow Twin (moved (At c o) d) (moved z d)) (sym b.2) (b.0, b.1, refl)
  moved_below NullPointer x' d b = subst (λ z. AnswerBelow Twin (moved NullPointer d) (moved z d)) (sym b) (by_test (nat_eq (d % 4294967296) 0))
    where
      by_test : (c : Bool) → AnswerBelow Twin (if c then Gives NullPointer else Gives Poisoned) (if c then Gives NullPointer else Gives Poisoned)
      by_test true = refl
      by_test false = tt
  moved_below Poisoned x' d b = anything x'
    where
      by_test : (c : Bool) → AnswerBelow Twin (Gives Poisoned) (if c then Gives NullPointer else Gives Poisoned)
      by_test true = tt
      by_test false = tt

      anything : (x' : Value) → AnswerBelow Twin (Gives Poisoned) (moved x' d)
      anything (Bits a) = tt
      anything (At c o) = tt
      anything NullPointer = by_test (nat_eq (d % 4294967296) 0)
      anything Poisoned = tt

  poison_answer : (d : RegId) (a : Answer) → AnswerBelow Twin (Gives Poisoned) a → Matches Twin g h (Sets d Poisoned) (answered (reg_to g d) a)
  poison_answer d a b = answered_matches Twin g h d (Gives Poisoned) a b

  any_move : (x : Value) (k : ℕ) → AnswerBelow Twin (Gives Poisoned) (moved x k)
  any_move (Bits a) k = tt
  any_move (At b o) k = tt
  any_move Poisoned k = tt
  any_move NullPointer k = by_test (nat_eq (k % 4294967296) 0)
    where
      by_test : (c : Bool) → AnswerBelow Twin (Gives Poisoned) (if c then Gives NullPointer else Gives Poisoned)
      by_test true = tt
      by_test false = tt

  gep_by : (d : RegId) (x x' : Value) (e e' : Distance) → Below Twin x x' → DistanceBelow e e' → Matches Twin g h (gep_gives d x e) (gep_gives (reg_to g d) x' e')
  gep_by d x x' (Far k) e' b w = subst (λ z. Matches Twin g h (answered d (moved x k)) (gep_gives (reg_to g d) x' z)) (sym w) (answered_matches Twin g h d (moved x k) (moved x' k) (moved_below x x' k b))
  gep_by d x x' NoDistance e' b w = no_source
  gep_by d x x' PoisonFar (Far k) b w = poison_answer d (moved x' k) (any_move x' k)
  gep_by d x x' PoisonFar PoisonFar b w = sets tt
  gep_by d x x' PoisonFar NoDistance b w = no_follower

  with : (o : FlatOp) → Fits Twin o → (go go' : Value → Effect) → ((v u : Value) → Below Twin v u → Matches Twin g h (go v) (go' u)) → Matches Twin g h (operand old o go) (operand new (op_to g o) go')
  with o f go go' k = operand_matches Twin g h old new o go go' rb f k

  pub row : (i : FlatInstr) → AllFit Twin (used_by i) → Matches Twin g h (effect old m i) (effect new n (instr_to g i))
  row (Bin d op w a b) f = with a f.0 _ _ (λ x x' hx. with b f.1.0 _ _ (λ y y' hy. answered_matches Twin g h d _ _ (bin_below Twin op w x y x' y' hx hy)))
  row (Icmp d c s a b) f = with a f.0 _ _ (λ x x' hx. with b f.1.0 _ _ (λ y y' hy. answered_matches Twin g h d _ _ (icmp_below c s x y x' y' hx hy)))
  row (Select d c a b) f = with c f.0 _ _ (λ z z' hz. with a f.1.0 _ _ (λ x x' hx. with b f.1.1.0 _ _ (λ y y' hy. answered_matches Twin g h d _ _ (choose_below Twin (as_word 2 z) (as_word 2 z') x y x' y' (read_below Twin 2 z z' hz) hx hy))))
  row (Cast d c from to a) f = with a f.0 _ _ (λ x x' hx. answered_matches Twin g h d _ _ (cast_below Twin c from to (as_word (modulus from) x) (as_word (modulus from) x') (read_below Twin (modulus from) x x' hx)))
  row (Copy d a) f = with a f.0 _ _ (λ x x' hx. sets hx)
  row (Alloca d size align) f = allocates
  row (Load d s align a) f = with a f.0 _ _ (λ x x' hx. typed_by (is_pointer x) (is_pointer x') _ _ (load_by d s align x x' (load m s align x) hx refl))
  row (Store s align v a) f = with v f.0 _ _ (λ x x' hx. with a f.1.0 _ _ (λ y y' hy. store_by s align x x' y y' (store m s align x y) (is_of s x && is_pointer y) (is_of s x' && is_pointer y') hx hy (first_true (is_of s x') (is_pointer y')) refl))
  row (Gep d a k ts) f = with a f.0 _ _ (λ x x' hx. gep_by d x x' (distance old k ts) _ hx (distance_below k ts f.1))
  row (Call d g' args) f = enters (arguments_below Twin g old new args rb f)
  row (Put d a) f = with a f.0 _ _ (λ x x' hx. word_matches Twin g h (as_word 4294967296 x) (as_word 4294967296 x') _ _ (read_below Twin 4294967296 x x' hx) (λ c. puts))
  row (Get d) f = takes
  row (Exit a) f = with a f.0 _ _ (λ x x' hx. word_matches Twin g h (as_word 4294967296 x) (as_word 4294967296 x') _ _ (read_below Twin 4294967296 x x' hx) (λ c. stops))
