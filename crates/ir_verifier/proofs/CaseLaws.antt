-- The places at which the rule of switches is broken.
use Rattle.std.proofs.Common.{◌≡◌, ◌≢◌, ◌⊎◌, inl, inr, refl, sym, ap, ◌∙◌, subst, Bool, true, false, not, ◌&&◌, ◌||◌, if◌then◌else◌, nat_eq, ℕ, zero, suc, ◌<◌, List, [], ◌∷◌, ◌++◌, length, slice_index_or, Option, Some, None, All, AllPairs, arith}
use Rattle.std.specs.List.{list_any}
use Rattle.std.proofs.lemmas.Bool.Decides.{nat_tests}
use Rattle.std.proofs.lemmas.List.Kept.{AllPairs-cons}
use Rattle.ir_core.specs.declared.ty.TypeDef.{TypeDef}
use Rattle.ir_core.specs.declared.module.Module.{Module}
use Rattle.ir_core.specs.declared.op.SwitchCase.{SwitchCase}
use Rattle.ir_core.specs.declared.op.End.{End}
use Rattle.ir_core.specs.declared.op.End.TheVariants.{Ret, Br, Cond, Switch, Unreachable}
use Rattle.ir_core.specs.declared.func.Block.{Block}
use Rattle.ir_core.specs.declared.func.Func.{Func}
use Rattle.ir_core.specs.ValidConsts.{Meaning, IsWord, meaning}
use Rattle.ir_core.specs.ValidOps.{IsCaseWord, HasGoodCases, BreaksCases}
use Rattle.ir_core.proofs.Lists.{Has, has_left, has_right}
use Rattle.module_rules.specs.First.{earliest, IsFound}
use Rattle.ir_verifier.specs.Faults.{word_value, is_new_word, with_word, are_good_cases, has_good_cases, case_faults}
use Rattle.std.specs.Bool.{Decides}
use Rattle.std.proofs.lemmas.Bool.Decides.{Decides-not}
use Rattle.module_rules.proofs.Decided.{always, never}
use Rattle.module_rules.proofs.Faulty.{has_in}
use Rattle.ir_verifier.proofs.CaseWords.{Agree, agrees}
use Rattle.module_rules.proofs.At.{found_at}

module _ (defs : List TypeDef) where
  abbrev mean : SwitchCase → Meaning
  mean c = meaning defs c.value.ty c.value.value

  abbrev word : SwitchCase → Option ℕ
  word c = word_value c.value.ty c.value.value

  abbrev Differ : SwitchCase → SwitchCase → Type 0
  Differ c d = mean c ≢ mean d

  -- the word of a case is none of these
  abbrev IsFresh : List ℕ → SwitchCase → Type 0
  IsFresh words c = (a : ℕ) → mean c ≡ IsWord a → Has words a → ⊥

  record AreGood (words : List ℕ) (cs : List SwitchCase) : Type 0 where
    are_words : All (IsCaseWord defs) cs
    fresh : All (IsFresh words) cs
    differ : AllPairs Differ cs

  head_of : (P : SwitchCase → Type 0) (c : SwitchCase) (cs : List SwitchCase) → All P (c ∷ cs) → P c
  head_of P c cs all = all 0 c (omega arith)

  tail_of : (P : SwitchCase → Type 0) (c : SwitchCase) (cs : List SwitchCase) → All P (c ∷ cs) → All P cs
  tail_of P c cs all = λ k d lt. all (suc k) d (omega (arith, lt))

  joined : (P : SwitchCase → Type 0) (c : SwitchCase) (cs : List SwitchCase) → P c → All P cs → All P (c ∷ cs)
  joined P c cs p all = by_index
    where
      by_index : (k : ℕ) (d : SwitchCase) → k < suc (length cs) → P (slice_index_or (c ∷ cs) k d)
      by_index zero d lt = p
      by_index (suc k) d lt = all k d (omega (arith, lt))

  first_pairs : (c : SwitchCase) (cs : List SwitchCase) → AllPairs Differ (c ∷ cs) → All (Differ c) cs
  first_pairs c cs pairs = λ k d lt. pairs 0 (suc k) d (omega arith) (omega (arith, lt))

  rest_pairs : (c : SwitchCase) (cs : List SwitchCase) → AllPairs Differ (c ∷ cs) → AllPairs Differ cs
  rest_pairs c cs pairs = λ i j d less lt. pairs (suc i) (suc j) d (omega (arith, less)) (omega (arith, lt))

  none_is_not_some : (a : ℕ) → None ≡ Some a → ⊥
  none_is_not_some a e = cc

  listed : (a : ℕ) (words : List ℕ) → list_any (nat_eq a) words ≡ true → Has words a
  listed a [] e = absurd (let clash : false ≡ true = e in cc)
  listed a (w ∷ ws) e = by_test (nat_eq a w) refl e (listed a ws)
    where
      by_test : (t : Bool) → nat_eq a w ≡ t → (t || list_any (nat_eq a) ws) ≡ true → (list_any (nat_eq a) ws ≡ true → Has ws a) → Has (w ∷ ws) a
      by_test true t g rest = inl (let same : w ≡ a = grind (arith, nat_tests) in same)
      by_test false t g rest = inr (rest g)

  not_listed : (a : ℕ) (words : List ℕ) → list_any (nat_eq a) words ≡ false → Has words a → ⊥
  not_listed a [] e h = absurd h
  not_listed a (w ∷ ws) e h = by_test (nat_eq a w) refl e (not_listed a ws) h
    where
      by_test : (t : Bool) → nat_eq a w ≡ t → (t || list_any (nat_eq a) ws) ≡ false → (list_any (nat_eq a) ws ≡ false → Has ws a → ⊥) → (w ≡ a) ⊎ Has ws a → ⊥
      by_test true t g rest h' = let clash : true ≡ false = g in cc
      by_test false t g rest (inl same) = grind (arith, nat_tests)
      by_test false t g rest (inr h') = rest g h'

  good : (cs : List SwitchCase) (words : List ℕ) → Decides (are_good_cases words cs) (AreGood words cs)
  good [] words = (λ e. record { are_words = λ k d lt. absurd (omega (arith, lt)); fresh = λ k d lt. absurd (omega (arith, lt)); differ = λ i j d less lt. absurd (omega (arith, lt)) }, λ g. refl)
  good (c ∷ cs) words = by_word (word c) (agrees defs c.value.ty c.value.value) (good cs)
    where
      by_test : (a : ℕ) → mean c ≡ IsWord a → (t : Bool) → list_any (nat_eq a) words ≡ t → ((ws : List ℕ) → Decides (are_good_cases ws cs) (AreGood ws cs)) → Decides (not t && are_good_cases (if t then words else words ++ a ∷ []) cs) (AreGood words (c ∷ cs))
      by_test a m true t rest = never (λ (g : AreGood words (c ∷ cs)). head_of (IsFresh words) c cs g.fresh a m (listed a words t))
      by_test a m false t rest = (of_rest, to_rest)
        where
          of_rest : are_good_cases (words ++ a ∷ []) cs ≡ true → AreGood words (c ∷ cs)
          of_rest e = let r = (rest (words ++ a ∷ [])).0 e in record {
            are_words = joined (IsCaseWord defs) c cs (a, m) r.are_words;
            fresh = joined (IsFresh words) c cs (λ b n h. not_listed a words t (subst (Has words) (let same : IsWord b ≡ IsWord a = sym n ∙ m in cc) h)) (λ k d lt b n h. r.fresh k d lt b n (has_left words (a ∷ []) b h));
            differ = AllPairs-cons Differ c cs (λ k d lt same. r.fresh k d lt a (sym same ∙ m) (has_right words (a ∷ []) a (inl refl))) r.differ;
          }

          to_rest : AreGood words (c ∷ cs) → are_good_cases (words ++ a ∷ []) cs ≡ true
          to_rest g = (rest (words ++ a ∷ [])).1 (record {
            are_words = tail_of (IsCaseWord defs) c cs g.are_words;
            fresh = λ k d lt b n h. apart k d lt b n (has_in words (a ∷ []) b h);
            differ = rest_pairs c cs g.differ;
          })
            where
              apart : (k : ℕ) (d : SwitchCase) → k < length cs → (b : ℕ) → mean (slice_index_or cs k d) ≡ IsWord b → Has words b ⊎ Has (a ∷ []) b → ⊥
              apart k d lt b n (inl h) = tail_of (IsFresh words) c cs g.fresh k d lt b n h
              apart k d lt b n (inr (inl same)) = first_pairs c cs g.differ k d lt (m ∙ ap IsWord same ∙ sym n)
              apart k d lt b n (inr (inr h)) = absurd h

      by_word : (o : Option ℕ) → Agree (mean c) o → ((ws : List ℕ) → Decides (are_good_cases ws cs) (AreGood ws cs)) → Decides (is_new_word words o && are_good_cases (with_word words o) cs) (AreGood words (c ∷ cs))
      by_word None ag rest = never (λ (g : AreGood words (c ∷ cs)). let w = head_of (IsCaseWord defs) c cs g.are_words in let clash : None ≡ Some w.0 = ag.word w.0 w.1 in none_is_not_some w.0 clash)
      by_word (Some a) ag rest = by_test a (ag.means a refl) (list_any (nat_eq a) words) refl rest

  end_decides : (e : End) → Decides (has_good_cases e) (HasGoodCases defs e)
  end_decides (Switch a other cases) =
      let g = good cases [] in (λ e. ((g.0 e).are_words, (g.0 e).differ), λ h. g.1 (record { are_words = h.0; fresh = λ k d lt b n none. none; differ = h.1 }))
  end_decides (Ret a) = always
  end_decides (Br b) = always
  end_decides (Cond c t e) = always
  end_decides Unreachable = always

module _ (m : Module) (f : Func) where
  abbrev IsBad : Block → Type 0
  IsBad b = HasGoodCases m.types.defs b.end → ⊥

  bad_decides : (b : Block) → Decides (not (has_good_cases b.end)) (IsBad b)
  bad_decides b = Decides-not (has_good_cases b.end) (end_decides m.types.defs b.end)

  pub cases_found : IsFound (BreaksCases m f) (earliest None (case_faults f))
  cases_found = found_at (λ (b : Block). not (has_good_cases b.end)) (λ (b : Block). b.end_place) IsBad (λ b. (bad_decides b).0) (λ b. (bad_decides b).1) f.blocks
