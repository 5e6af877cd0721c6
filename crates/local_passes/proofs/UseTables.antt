-- Tables of uses that grow.
use Rattle.std.proofs.Common.{◌≡◌, ℕ, ◌+◌, ◌<◌, ◌≤◌, Bool, true, false, nat_eq, if◌then◌else◌, List, [], ◌∷◌, ◌++◌, length, length-set, Some, slice_get, slice_index_or, slice_set, take, refl, sym, ap, ◌∙◌, subst, arith}
use Rattle.std.specs.List.{flat_map}
use Rattle.std.proofs.lemmas.Bool.Decides.{nat_tests}
use Rattle.std.proofs.lemmas.List.{append-nil, append_assoc, get_or-set_same, get_or-set_other}
use Rattle.std.proofs.lemmas.Grind.{flat_map-append}
use Rattle.ir_core.proofs.ByPosition.{take_next}
use Rattle.ir_core.specs.declared.flat.FlatOp.{FlatOp}
use Rattle.local_passes.specs.declared.use_table.UseTable.{UseTable}
use Rattle.local_passes.specs.DropDead.{if_same}
use Rattle.local_passes.specs.NeedTables.{uses_in, Adds}

pub adds_none : (t : UseTable) (more : ℕ → List FlatOp) → ((q : ℕ) → more q ≡ []) → Adds t t more
adds_none t more none = record {
  long = refl;
  each = λ q lt. sym (append-nil (uses_in t q)) ∙ ap (λ os. uses_in t q ++ os) (sym (none q));
}

pub adds_then : (a b c : UseTable) (f g h : ℕ → List FlatOp) → Adds a b f → Adds b c g → ((q : ℕ) → f q ++ g q ≡ h q) → Adds a c h
adds_then a b c f g h x y joined = record {
  long = y.long ∙ x.long;
  each = λ q lt.
      y.each q (subst (λ n. q < n) (sym x.long) lt)
      ∙ ap (λ os. os ++ g q) (x.each q lt)
      ∙ append_assoc (uses_in a q) (f q) (g q)
      ∙ ap (λ os. uses_in a q ++ os) (joined q);
}

-- the next part of a list
pub adds_next : {A : Type 0} (a b c : UseTable) (part : ℕ → A → List FlatOp) (xs : List A) (k : ℕ) (x : A) → slice_get xs k ≡ Some x → Adds a b (λ q. flat_map (part q) (take k xs)) → Adds b c (λ q. part q x) → Adds a c (λ q. flat_map (part q) (take (k + 1) xs))
adds_next a b c part xs k x here so_far one = adds_then a b c (λ q. flat_map (part q) (take k xs)) (λ q. part q x) (λ q. flat_map (part q) (take (k + 1) xs)) so_far one (λ q.
    sym (ap (flat_map (part q)) (take_next xs k (k + 1) x refl here)
    ∙ flat_map-append (part q) (take k xs) (x ∷ [])
    ∙ ap (λ os. flat_map (part q) (take k xs) ++ os) (append-nil (part q x))))

same_joined : (t : Bool) (xs ys : List FlatOp) → (if t then xs else []) ++ (if t then ys else []) ≡ (if t then xs ++ ys else [])
same_joined true xs ys = refl
same_joined false xs ys = refl

-- the next operand of a list, for one register
pub adds_operand : (a b c : UseTable) (r : ℕ) (os : List FlatOp) (k : ℕ) (o : FlatOp) → slice_get os k ≡ Some o → Adds a b (λ q. if_same q (Some r) (take k os)) → Adds b c (λ q. if_same q (Some r) (o ∷ [])) → Adds a c (λ q. if_same q (Some r) (take (k + 1) os))
adds_operand a b c r os k o here so_far one = adds_then a b c (λ q. if_same q (Some r) (take k os)) (λ q. if_same q (Some r) (o ∷ [])) (λ q. if_same q (Some r) (take (k + 1) os)) so_far one (λ q.
    same_joined (nat_eq r q) (take k os) (o ∷ []) ∙ ap (λ ys. if_same q (Some r) ys) (sym (take_next os k (k + 1) o refl here)))

abbrev if_list : Bool → List FlatOp
if_list t = if t then [] else []

pub adds_no_operand : (t : UseTable) (r : ℕ) → Adds t t (λ q. if_same q (Some r) [])
adds_no_operand t r = adds_none t (λ q. if_same q (Some r) []) (λ q. no_operand (nat_eq r q))
  where
    no_operand : (b : Bool) → if_list b ≡ []
    no_operand true = refl
    no_operand false = refl

-- an operand at a register of the table
pub adds_one : (old new : UseTable) (r : ℕ) (o : FlatOp) (os : List FlatOp) → r < length old.uses.items → os ≡ uses_in old r ++ o ∷ [] → new.uses.items ≡ slice_set old.uses.items r os → Adds old new (λ q. if_same q (Some r) (o ∷ []))
adds_one old new r o os lt more set = record {
  long = ap length set ∙ length-set old.uses.items r os;
  each = λ q within. at q (nat_eq r q) refl;
}
  where
    at : (q : ℕ) (t : Bool) → nat_eq r q ≡ t → uses_in new q ≡ uses_in old q ++ (if t then o ∷ [] else [])
    at q true e =
        let here : q ≡ r = grind (arith, nat_tests) in
        ap (λ n. uses_in new n) here ∙ ap (λ us. slice_index_or us r []) set ∙ get_or-set_same old.uses.items r os [] lt ∙ more ∙ ap (λ n. uses_in old n ++ o ∷ []) (sym here)
    at q false e =
        ap (λ us. slice_index_or us q []) set ∙ get_or-set_other old.uses.items r q os [] (λ same. absurd (grind (arith, nat_tests))) ∙ sym (append-nil (uses_in old q))

-- a register beyond the table
pub adds_beyond : (t : UseTable) (r : ℕ) (o : FlatOp) → length t.uses.items ≤ r → Adds t t (λ q. if_same q (Some r) (o ∷ []))
adds_beyond t r o le = record {
  long = refl;
  each = λ q within. at q within (nat_eq r q) refl;
}
  where
    at : (q : ℕ) → q < length t.uses.items → (b : Bool) → nat_eq r q ≡ b → uses_in t q ≡ uses_in t q ++ (if b then o ∷ [] else [])
    at q within true e = absurd (let same : r ≡ q = grind (arith, nat_tests) in omega (arith, same, within, le))
    at q within false e = sym (append-nil (uses_in t q))
