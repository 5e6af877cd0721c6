-- A code for each function of a valid module, whose items wait for no address: such codes have an image.
use Rattle.std.proofs.Common.{◌≡◌, ◌⊎◌, inl, inr, ℕ, ◌+◌, ◌<◌, ◌≤◌, List, [], ◌∷◌, ◌++◌, map, length, get_or, All, Some, None, slice_get, refl, sym, ap, ◌∙◌, arith}
use Rattle.std.specs.Option.{option_map}
use Rattle.std.proofs.lemmas.Bool.{cases_lt}
use Rattle.std.proofs.lemmas.List.{length-map, get_or-map, length_push, get_or_append_left, get_or_push}
use Rattle.std.proofs.lemmas.List.Elements.{All-weaker, All-nil, All-push}
use Rattle.std.proofs.lemmas.Option.{slice_get_past}
use Rattle.oi_base.specs.declared.ids.FuncId.{FuncId}
use Rattle.ir_core.specs.declared.flat.FlatBody.{FlatBody}
use Rattle.ir_core.specs.declared.module.Module.{Module}
use Rattle.ir_core.specs.Plain.{plain_body}
use Rattle.ir_core.specs.Source.{main_number}
use Rattle.ir_core.specs.Valid.{IsValid}
use Rattle.ir_safety.proofs.Callees.{has_main}
use Rattle.rv_select.specs.declared.item.Item.{Item}
use Rattle.rv_select.specs.declared.item.Item.TheVariants.{Word, CallHigh, CallLow, AddressHigh, AddressLow}
use Rattle.rv_select.specs.Code.{ArePaired}
use Rattle.image_layout.specs.Addresses.{Codes}
use Rattle.image_layout.specs.Codes.{IsKnown, AreCodes}
use Rattle.image_tests.specs.Words.{IsWord}

abbrev pub Coded : Type 0
Coded = FuncId × List Item

abbrev number_of : Coded → ℕ
number_of c = c.0.0

-- codes of so many first functions
pub record AreFirst (n : ℕ) (codes : Codes) : Type 0 where
  pub count : length codes ≡ n
  pub numbers : (k : ℕ) (d : Coded) → k < n → (get_or codes k d).0.0 ≡ k
  pub words : All (λ (c : Coded). All IsWord c.1) codes
  pub paired : All (λ (c : Coded). ArePaired c.1) codes

pub none_first : AreFirst 0 []
none_first = record {
  count = refl;
  numbers = λ k d lt. absurd (omega (arith, lt));
  words = All-nil (λ (c : Coded). All IsWord c.1);
  paired = All-nil (λ (c : Coded). ArePaired c.1);
}

pub one_more : (n : ℕ) (codes : Codes) (c : Coded) → AreFirst n codes → c.0.0 ≡ n → All IsWord c.1 → ArePaired c.1 → AreFirst (n + 1) (codes ++ c ∷ [])
one_more n codes c are number words paired =
    let size = length_push codes c in
    let count = are.count in
    record {
      count = omega (arith, size, count);
      numbers = λ k d lt. by k d lt (cases_lt k n);
      words = All-push (λ (d : Coded). All IsWord d.1) codes c are.words words;
      paired = All-push (λ (d : Coded). ArePaired d.1) codes c are.paired paired;
    }
  where
    by : (k : ℕ) (d : Coded) → k < n + 1 → (k < n) ⊎ (n ≤ k) → (get_or (codes ++ c ∷ []) k d).0.0 ≡ k
    by k d lt (inl before) =
        let count = are.count in
        ap number_of (get_or_append_left codes (c ∷ []) d k (omega (arith, before, count))) ∙ are.numbers k d before
    by k d lt (inr last) =
        let count = are.count in
        let here : n ≡ k = omega (arith, lt, last) in
        ap number_of (get_or_push codes c d k (omega (arith, here, count))) ∙ number ∙ here

main_within : (m : Module) → IsValid m → main_number m < length m.funcs
main_within m valid = by (cases_lt (main_number m) (length m.funcs))
  where
    clash : {b : FlatBody} → None ≡ Some b → ⊥
    clash e = cc

    by : (main_number m < length m.funcs) ⊎ (length m.funcs ≤ main_number m) → main_number m < length m.funcs
    by (inl lt) = lt
    by (inr le) = absurd (has_main m valid (λ h. clash (sym (ap (option_map (plain_body m)) (slice_get_past m.funcs (main_number m) le)) ∙ h.1)))

known : (m : Module) (codes : Codes) (i : Item) → IsWord i → IsKnown m codes i
known m codes (Word i) h = tt
known m codes (CallHigh f) h = absurd h
known m codes (CallLow f) h = absurd h
known m codes (AddressHigh r g k) h = absurd h
known m codes (AddressLow r g k) h = absurd h

pub all_coded : (m : Module) (codes : Codes) → IsValid m → AreFirst (length m.funcs) codes → AreCodes m codes
all_coded m codes valid are =
    let count = are.count in
    let within = main_within m valid in
    let n = length-map codes number_of in
    record {
      definitions = λ k d lt. let e = are.numbers k d (omega (arith, lt, count)) in omega (arith, e, lt, count);
      ascending = λ i j d lt within'. let a = are.numbers i d (omega (arith, lt, within', count)) in let b = are.numbers j d (omega (arith, within', count)) in omega (arith, a, b, lt);
      main = (main_number m, omega (arith, n, within, count), main_there);
      known = All-weaker (λ (c : Coded). All IsWord c.1) (λ (c : Coded). All (IsKnown m codes) c.1) (λ c. All-weaker IsWord (IsKnown m codes) (known m codes) c.1) codes are.words;
      paired = are.paired;
    }
  where
    main_there : get_or (map number_of codes) (main_number m) (main_number m) ≡ main_number m
    main_there =
        let count = are.count in
        let within = main_within m valid in
        let some : Coded = (record { 0 = 0 }, []) in
        get_or-map number_of codes (main_number m) some (main_number m) (omega (arith, within, count)) ∙ are.numbers (main_number m) some within
