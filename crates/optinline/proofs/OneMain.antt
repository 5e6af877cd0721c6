-- A valid module of which all is built has one definition, `main`, of one block.
use Rattle.std.proofs.Common.{◌≡◌, ℕ, zero, suc, ◌≤◌, ◌<◌, Bool, true, false, not, if◌then◌else◌, codes, List, [], ◌∷◌, ◌++◌, map, drop, length, Option, Some, None, slice_get, All, Contains, refl, sym, ap, ◌∙◌, subst, arith}
use Rattle.std.specs.Prelude.{unwrap_or}
use Rattle.std.specs.List.{flat_map, AllByRecursion as Each}
use Rattle.std.proofs.lemmas.Option.{slice_get_within, get_or_from_slice_get}
use Rattle.std.proofs.lemmas.Slice.Eq.{bytes_eq-Decides}
use Rattle.std.proofs.lemmas.List.{append-nil}
use Rattle.oi_base.specs.declared.ids.Place.{Place}
use Rattle.ir_core.specs.declared.module.SymId.{SymId}
use Rattle.ir_core.specs.declared.module.Module.{Module}
use Rattle.ir_core.specs.declared.module.GlobalVar.{GlobalVar}
use Rattle.ir_core.specs.declared.module.Declaration.{Declaration}
use Rattle.ir_core.specs.declared.op.LocalId.{LocalId}
use Rattle.ir_core.specs.declared.func.Instr.{Instr}
use Rattle.ir_core.specs.declared.func.Block.{Block}
use Rattle.ir_core.specs.declared.func.Func.{Func}
use Rattle.ir_core.specs.declared.func.Param.{Param}
use Rattle.ir_core.specs.Parts.{instrs}
use Rattle.ir_core.specs.Proper.{IsProper, IsProperFunc, HasItsResult, AllDiffer}
use Rattle.ir_core.specs.Operands.{start, symbol_text, is_up_to}
use Rattle.ir_core.specs.Source.{is_main}
use Rattle.ir_core.specs.Valid.{IsValid}
use Rattle.ir_core.specs.ValidModule.{Introduced, introduced, introduced_funcs}
use Rattle.module_rules.specs.Faults.{place_if}
use Rattle.module_rules.proofs.Earliest.{up_to_total}
use Rattle.optinline.specs.declared.unbuilt.TheConstants.{MOST_OPS}
use Rattle.optinline.specs.Unbuilt.{is_sum, returns_simple, instr_places, block_places, instr_unbuilt, block_unbuilt, main_unbuilt, func_unbuilt, global_unbuilt, unbuilt}
use Rattle.optinline.proofs.Built.{first_none, rest_none, singles_none, parts_none, dropped_none, each_of_all, none_in, one_in, none_if, has_result}

-- a sum, and its result
abbrev pub IsSumInstr : Instr → Type 0
IsSumInstr i = ((d : LocalId) × (i.result ≡ Some d)) × (is_sum i.op ≡ true)

pub record IsOneMain (m : Module) (f : Func) (b : Block) : Type 0 where
  pub globals : m.globals ≡ []
  pub funcs : m.funcs ≡ f ∷ []
  pub named : is_main m f ≡ true
  pub params : f.params ≡ []
  pub blocks : f.blocks ≡ b ∷ []
  pub code : Each IsSumInstr b.code
  pub few : length b.code ≤ MOST_OPS
  pub end : returns_simple b.end ≡ true

-- ---- a block

sums : (code : List Instr) → All HasItsResult code → Each (λ (i : Instr). instr_unbuilt i ≡ []) code → Each IsSumInstr code
sums code all none = both code (each_of_all HasItsResult code all) none
  where
    both : (code : List Instr) → Each HasItsResult code → Each (λ (i : Instr). instr_unbuilt i ≡ []) code → Each IsSumInstr code
    both [] h e = tt
    both (i ∷ is) h e = let sum = none_if (is_sum i.op) i.place e.0 in ((has_result i h.0 sum, sum), both is h.1 e.1)

record IsSumBlock (b : Block) : Type 0 where
  code : Each IsSumInstr b.code
  few : length b.code ≤ MOST_OPS
  end : returns_simple b.end ≡ true

sum_block : (b : Block) → All HasItsResult b.code → block_unbuilt b ≡ [] → IsSumBlock b
sum_block b all none =
    let forms : List Place = flat_map instr_unbuilt b.code in
    let late : List Place = flat_map instr_places (drop MOST_OPS b.code) in
    let last : List Place = place_if (not (returns_simple b.end)) b.end_place in
    let before = first_none (forms ++ late) last none in
    record {
      code = sums b.code all (parts_none instr_unbuilt b.code (first_none forms late before));
      few = dropped_none MOST_OPS b.code (singles_none instr_places (λ i. i.place) (λ i. refl) (drop MOST_OPS b.code) (rest_none forms late before));
      end = none_if (returns_simple b.end) b.end_place (rest_none (forms ++ late) last none);
    }

-- ---- two functions of one name

same_text : (m : Module) (s : SymId) → symbol_text m s ≡ codes "main" → slice_get m.symbols s.0 ≡ Some (codes "main")
same_text m s e = by_symbol (slice_get m.symbols s.0) refl e
  where
    by_symbol : (o : Option (List ℕ)) → slice_get m.symbols s.0 ≡ o → unwrap_or o [] ≡ codes "main" → slice_get m.symbols s.0 ≡ Some (codes "main")
    by_symbol None at e = absurd cc
    by_symbol (Some text) at e = at ∙ ap Some e

same_place : (xs : List (List ℕ)) (x : List ℕ) (i j : ℕ) → AllDiffer xs → slice_get xs i ≡ Some x → slice_get xs j ≡ Some x → i < j → ⊥
same_place xs x i j differ a b lt =
    differ i j [] lt (slice_get_within xs j x b) (get_or_from_slice_get xs i x [] a ∙ sym (get_or_from_slice_get xs j x [] b))

one_symbol : (m : Module) (s t : SymId) → AllDiffer m.symbols → symbol_text m s ≡ codes "main" → symbol_text m t ≡ codes "main" → s ≡ t
one_symbol m s t differ a b =
    let x = same_text m s a in
    let y = same_text m t b in
    let up : s.0 ≤ t.0 = by_less (same_place m.symbols (codes "main") t.0 s.0 differ y x) in
    let down : t.0 ≤ s.0 = by_less (same_place m.symbols (codes "main") s.0 t.0 differ x y) in
    let same : s.0 ≡ t.0 = omega (arith, up, down) in
    ap (λ (n : ℕ). record { 0 = n }) same
  where
    by_less : {i j : ℕ} → (i < j → ⊥) → j ≤ i
    by_less h = omega (arith, h)

is_named : (m : Module) (f : Func) → is_main m f ≡ true → symbol_text m f.name ≡ codes "main"
is_named m f e = (bytes_eq-Decides (symbol_text m f.name) (codes "main")).0 e

module _ (m : Module) (proper : IsProper m) (valid : IsValid m) (none : unbuilt m ≡ []) where
  abbrev variables : List Place
  variables = flat_map global_unbuilt m.globals

  no_globals : m.globals ≡ []
  no_globals = singles_none global_unbuilt (λ g. g.place) (λ g. refl) m.globals (first_none variables (flat_map (func_unbuilt m) m.funcs) none)

  each_func : Each (λ (f : Func). func_unbuilt m f ≡ []) m.funcs
  each_func = parts_none (func_unbuilt m) m.funcs (rest_none variables (flat_map (func_unbuilt m) m.funcs) none)

  only_main : (f : Func) → func_unbuilt m f ≡ [] → is_main m f ≡ true
  only_main f e = by_name (is_main m f) refl e
    where
      by_name : (t : Bool) → is_main m f ≡ t → (if t then main_unbuilt f.blocks else f.place ∷ []) ≡ [] → is_main m f ≡ true
      by_name true same e = same
      by_name false same e = absurd cc

  in_main : (f : Func) → func_unbuilt m f ≡ [] → main_unbuilt f.blocks ≡ []
  in_main f e = by_name (is_main m f) refl e
    where
      by_name : (t : Bool) → is_main m f ≡ t → (if t then main_unbuilt f.blocks else f.place ∷ []) ≡ [] → main_unbuilt f.blocks ≡ []
      by_name true same e = e
      by_name false same e = absurd cc

  -- ---- one function

  abbrev known : Func → Introduced
  known f = record { name = f.name; place = f.place }

  abbrev rest : List Introduced
  rest = map (λ (d : Declaration). record { name = d.name; place = d.place }) m.declared

  first_not_second : (zero ≡ suc zero) → ⊥
  first_not_second e = cc

  two_funcs : (f g : Func) (fs : List Func) → m.funcs ≡ f ∷ g ∷ fs → ⊥
  two_funcs f g fs e =
      let each : Each (λ (h : Func). func_unbuilt m h ≡ []) (f ∷ g ∷ fs) = subst (Each (λ (h : Func). func_unbuilt m h ≡ [])) e each_func in
      let same : f.name ≡ g.name = one_symbol m f.name g.name proper.symbols_once (is_named m f (only_main f each.0)) (is_named m g (only_main g each.1.0)) in
      by_order (is_up_to f.place g.place) refl same
    where
      all : introduced m ≡ known f ∷ known g ∷ (map known fs ++ rest)
      all = ap (λ (gs : List GlobalVar). map (λ (v : GlobalVar). record { name = v.name; place = v.place }) gs ++ introduced_funcs m ++ rest) no_globals ∙ ap (λ (hs : List Func). map known hs ++ rest) e

      at_0 : slice_get (introduced m) 0 ≡ Some (known f)
      at_0 = ap (λ (l : List Introduced). slice_get l 0) all

      at_1 : slice_get (introduced m) 1 ≡ Some (known g)
      at_1 = ap (λ (l : List Introduced). slice_get l 1) all

      by_order : (t : Bool) → is_up_to f.place g.place ≡ t → f.name ≡ g.name → ⊥
      by_order true up same = valid.symbol_twice g.place (0, 1, known f, known g, first_not_second, at_0, at_1, same, up, refl)
      by_order false up same = valid.symbol_twice f.place (1, 0, known g, known f, (λ e. first_not_second (sym e)), at_1, at_0, sym same, up_to_total f.place g.place up, refl)

  no_main : m.funcs ≡ [] → ⊥
  no_main e = valid.main start (refl, λ h. none_in h.0 (subst (λ (fs : List Func). Contains fs h.0) e h.1))

  one_func : (fs : List Func) → m.funcs ≡ fs → (f : Func) × (m.funcs ≡ f ∷ [])
  one_func [] e = absurd (no_main e)
  one_func (f ∷ []) e = (f, e)
  one_func (f ∷ g ∷ fs) e = absurd (two_funcs f g fs e)

  -- ---- its parameters and its block

  module _ (f : Func) (e : m.funcs ≡ f ∷ []) where
    proper_func : IsProperFunc f
    proper_func = (subst (Each IsProperFunc) e (each_of_all IsProperFunc m.funcs proper.each_func)).0

    here_none : func_unbuilt m f ≡ []
    here_none = (subst (Each (λ (h : Func). func_unbuilt m h ≡ [])) e each_func).0

    no_params : (ps : List Param) → f.params ≡ ps → f.params ≡ []
    no_params [] same = same
    no_params (p ∷ ps) same = absurd (valid.main start (refl, λ h. some_params (sym (ap (λ (g : Func). g.params) (one_in f h.0 (subst (λ (fs : List Func). Contains fs h.0) e h.1)) ∙ h.4) ∙ same)))
      where
        some_params : [] ≡ p ∷ ps → ⊥
        some_params z = cc

    one_block : (bs : List Block) → f.blocks ≡ bs → flat_map block_places (drop 1 bs) ≡ [] → (b : Block) × (f.blocks ≡ b ∷ [])
    one_block [] same none = let some = proper_func.has_blocks in absurd (let l : length f.blocks ≡ 0 = ap length same in omega (arith, some, l))
    one_block (b ∷ []) same none = (b, same)
    one_block (b ∷ c ∷ bs) same none = absurd cc

    module _ (b : Block) (same : f.blocks ≡ b ∷ []) where
      its_code : All HasItsResult b.code
      its_code =
          let joined : instrs f ≡ b.code = ap (flat_map (λ (c : Block). c.code)) same ∙ append-nil b.code in
          subst (All HasItsResult) joined proper_func.results

      its_forms : IsSumBlock b
      its_forms =
          let first = flat_map block_places (drop 1 f.blocks) in
          let parts = parts_none block_unbuilt f.blocks (rest_none first (flat_map block_unbuilt f.blocks) (in_main f here_none)) in
          sum_block b its_code (subst (Each (λ (c : Block). block_unbuilt c ≡ [])) same parts).0

  pub one_main : (f : Func) × (b : Block) × IsOneMain m f b
  one_main =
      let f = one_func m.funcs refl in
      let first = flat_map block_places (drop 1 f.0.blocks) in
      let b = one_block f.0 f.1 f.0.blocks refl (first_none first (flat_map block_unbuilt f.0.blocks) (in_main f.0 (here_none f.0 f.1))) in
      let forms = its_forms f.0 f.1 b.0 b.1 in (
        f.0,
        b.0,
        record {
          globals = no_globals;
          funcs = f.1;
          named = only_main f.0 (here_none f.0 f.1);
          params = no_params f.0 f.1 f.0.params refl;
          blocks = b.1;
          code = forms.code;
          few = forms.few;
          end = forms.end;
        },
      )
