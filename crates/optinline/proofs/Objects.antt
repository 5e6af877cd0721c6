-- The object of a module of which all is built: its codes are such as an image is made of, and it refines the module.
use Rattle.std.proofs.Common.{◌≡◌, ℕ, zero, suc, ◌+◌, ◌*◌, ◌<◌, ◌≤◌, nat_eq, Bool, true, false, not, if◌then◌else◌, List, [], ◌∷◌, ◌++◌, map, length, Option, Some, None, All, AllPairs, Contains, slice_get, inl, ◌≢◌, refl, sym, ap, ap₂, ◌∙◌, subst, arith}
use Rattle.std.specs.Option.{option_map}
use Rattle.std.specs.List.{flat_map, filter}
use Rattle.std.proofs.lemmas.List.{append-nil, length-map}
use Rattle.std.proofs.lemmas.List.Elements.{All-nil, All-cons, All-head, All-tail, All-append, All-filter}
use Rattle.std.proofs.lemmas.Bool.Decides.{nat_tests}
use Rattle.oi_base.specs.Follows.{Stuck, Seen}
use Rattle.oi_base.specs.declared.ids.FuncId.{FuncId}
use Rattle.ir_core.specs.declared.flat.FlatBody.{FlatBody}
use Rattle.ir_core.specs.declared.func.Block.{Block}
use Rattle.ir_core.specs.declared.func.Func.{Func}
use Rattle.ir_core.specs.declared.module.GlobalVar.{GlobalVar}
use Rattle.ir_core.specs.declared.module.Module.{Module}
use Rattle.ir_core.specs.Flat.{flat_run}
use Rattle.ir_core.specs.Plain.{plain_body, plain_program}
use Rattle.ir_core.specs.Proper.{IsProper}
use Rattle.ir_core.specs.Source.{main_number, src}
use Rattle.ir_core.specs.Valid.{IsValid}
use Rattle.ir_core.specs.WellFormed.{IsWellFormed}
use Rattle.ir_core.proofs.Lists.{contains}
use Rattle.ir_core.proofs.SoundRules.{runs_as_the_source_where_valid}
use Rattle.ir_safety.proofs.ValidRuns.{valid_never_stuck}
use Rattle.rv_isa.specs.declared.rv.Rv.{Rv}
use Rattle.rv_isa.specs.Words.{InRange}
use Rattle.rv_isa.specs.Memory.{text_start}
use Rattle.rv_isa.specs.Isa.{run}
use Rattle.rv_isa.specs.Refines.{Refines}
use Rattle.elf_object.specs.declared.image.TheConstants.{LARGEST_TEXT}
use Rattle.elf_object.specs.declared.symbol.Symbol.{Symbol}
use Rattle.elf_object.specs.Image.{loaded_segments, IsImage, HasWords}
use Rattle.frame_layout.specs.declared.laying.TheConstants.{LARGEST_FRAME}
use Rattle.frame_layout.specs.Frame.{frame}
use Rattle.rv_select.specs.declared.item.Item.{Item}
use Rattle.rv_select.specs.declared.item.Item.TheVariants as items
use Rattle.rv_select.specs.declared.selecting.TheConstants.{LARGEST_CODE}
use Rattle.rv_select.specs.Linked.{Link, linked, stub}
use Rattle.rv_select.proofs.Slices.{linked_length}
use Rattle.rv_select.proofs.Texts.{bytes_length}
use Rattle.rv_select.specs.Pending.{IsItem}
use Rattle.rv_select.specs.Code.{code, code_bytes, ArePaired}
use Rattle.rv_select.specs.Stands.{IsLaid, frame_in}
use Rattle.rv_select.specs.Sums.{IsNeverStuck}
use Rattle.rv_select.proofs.Paired.{code_paired}
use Rattle.rv_select.proofs.WholeProgram.{sums_refined}
use Rattle.image_layout.specs.Addresses.{Codes, items_before, link_of}
use Rattle.image_layout.specs.Image.{image, object, text_items, text_size}
use Rattle.image_layout.specs.Symbols.{function_symbol, function_symbols, global_symbols, local_first}
use Rattle.image_layout.proofs.Bounds.{within_bounds}
use Rattle.image_layout.proofs.Laid.{image_laid}
use Rattle.image_layout.specs.Codes.{HasCode, IsKnown, AreCodes, HasBody, IsProgramOf}
use Rattle.optinline.specs.declared.unbuilt.TheConstants.{MOST_OPS}
use Rattle.optinline.specs.Object.{main_body, main_codes, size, body_size}
use Rattle.optinline.specs.Unbuilt.{unbuilt}
use Rattle.optinline.proofs.OneMain.{IsOneMain, one_main}
use Rattle.optinline.proofs.MainSums.{sum_body, main_first, body_is, main_is, well, returns_word}
use Rattle.optinline.proofs.SameRuns.{refines_same}
use Rattle.optinline.proofs.SumBodies.{frame_at_most, code_is_words, sums_are}

-- instructions as items
each_item : (code : List Rv) → All InRange code → All IsItem (map (λ (i : Rv). items.Word i) code)
each_item [] h = All-nil IsItem
each_item (i ∷ is) h = All-cons IsItem (items.Word i) (map (λ (x : Rv). items.Word x) is) (All-head InRange i is h) (each_item is (All-tail InRange i is h))

each_known : (m : Module) (codes : Codes) (code : List Rv) → All (IsKnown m codes) (map (λ (i : Rv). items.Word i) code)
each_known m codes [] = All-nil (IsKnown m codes)
each_known m codes (i ∷ is) = All-cons (IsKnown m codes) (items.Word i) (map (λ (x : Rv). items.Word x) is) tt (each_known m codes is)

abbrev coded : ℕ → FlatBody → FuncId × List Item
coded n x = (record { 0 = n }, code x)

module _ (m : Module) (f : Func) (b : Block) (shape : IsOneMain m f b) where
  abbrev body : FlatBody
  body = plain_body m f

  abbrev codes_are : (instructions : List Rv) × (code body ≡ map (λ (i : Rv). items.Word i) instructions) × (length instructions ≤ 10 * MOST_OPS + 12) × All InRange instructions
  codes_are = code_is_words MOST_OPS body (sum_body m f b shape)

  code_length : length (code (main_body m)) ≤ 10 * MOST_OPS + 12
  code_length =
      let same : code (main_body m) ≡ map (λ (i : Rv). items.Word i) codes_are.0 = ap code (main_is m f b shape) ∙ codes_are.1 in
      let l = ap (λ (is : List Item). length is) same in
      let n = length-map codes_are.0 (λ (i : Rv). items.Word i) in
      let few = codes_are.2 in
      omega (arith, l, n, few)

  pub code_fits : code_bytes (main_body m) ≤ LARGEST_CODE
  code_fits = let l = code_length in omega (arith, l)

  pub frame_fits : frame (main_body m) ≤ LARGEST_FRAME
  frame_fits = subst (λ (x : FlatBody). frame x ≤ LARGEST_FRAME) (sym (main_is m f b shape)) (let most = frame_at_most MOST_OPS body (sum_body m f b shape) in omega (arith, most))

  -- the stub's four instructions and the code of `main`
  pub size_is : size m ≡ 16 + body_size m
  size_is = let l = ap (λ (is : List Item). length is) (append-nil (code (main_body m))) in omega (arith, l)

  pub size_fits : size m ≤ LARGEST_TEXT
  size_fits = let l = code_length in let s = size_is in omega (arith, l, s)

  has_main : HasCode (main_codes m) (main_number m)
  has_main = (0, omega arith, refl)

  pub are_codes : AreCodes m (main_codes m)
  are_codes = record {
    definitions = All-cons (λ (c : FuncId × List Item). c.0.0 < length m.funcs) (record { 0 = main_number m }, code (main_body m)) [] low (All-nil (λ (c : FuncId × List Item). c.0.0 < length m.funcs));
    ascending = λ i j d lt within. absurd (omega (arith, lt, within));
    main = has_main;
    known = All-cons (λ (c : FuncId × List Item). All (IsKnown m (main_codes m)) c.1) (record { 0 = main_number m }, code (main_body m)) [] known (All-nil (λ (c : FuncId × List Item). All (IsKnown m (main_codes m)) c.1));
    paired = All-cons (λ (c : FuncId × List Item). ArePaired c.1) (record { 0 = main_number m }, code (main_body m)) [] (code_paired (main_body m)) (All-nil (λ (c : FuncId × List Item). ArePaired c.1));
  }
    where
      low : main_number m < length m.funcs
      low = let first = main_first m f b shape in let count = ap (λ (fs : List Func). length fs) shape.funcs in omega (arith, first, count)

      known : All (IsKnown m (main_codes m)) (code (main_body m))
      known = subst (All (IsKnown m (main_codes m))) (sym (ap code (main_is m f b shape) ∙ codes_are.1)) (each_known m (main_codes m) codes_are.0)

  module _ (proper : IsProper m) (valid : IsValid m) where
    only_body : (g : ℕ) (c : FlatBody) → (plain_program m).body g ≡ Some c → (g ≡ main_number m) × (c ≡ body)
    only_body g c e = by g (sym (ap (λ (fs : List Func). option_map (plain_body m) (slice_get fs g)) shape.funcs) ∙ e)
      where
        by : (g : ℕ) → option_map (plain_body m) (slice_get (f ∷ []) g) ≡ Some c → (g ≡ main_number m) × (c ≡ body)
        by zero e = (sym (main_first m f b shape), same e)
          where
            same : Some body ≡ Some c → c ≡ body
            same e = cc
        by (suc g) e = absurd (clash e)
          where
            clash : None ≡ Some c → ⊥
            clash e = cc

    pub program_of : IsProgramOf m (main_codes m) (plain_program m)
    program_of = record {
      items = All-cons (λ (c : FuncId × List Item). All IsItem c.1) (coded (main_number m) (main_body m)) [] main_items (All-nil (λ (c : FuncId × List Item). All IsItem c.1));
      globals = refl;
      main = refl;
      bodies = λ g c e. has g c (only_body g c e);
    }
      where
        main_items : All IsItem (code (main_body m))
        main_items = subst (All IsItem) (sym (ap code (main_is m f b shape) ∙ codes_are.1)) (each_item codes_are.0 codes_are.3)

        has : (g : ℕ) (c : FlatBody) → (g ≡ main_number m) × (c ≡ body) → HasBody (main_codes m) g c
        has g c e =
            let same : c ≡ main_body m = e.1 ∙ sym (main_is m f b shape) in
            record {
              formed = subst IsWellFormed (sym e.1) (well m f b shape proper valid);
              small = subst (λ (x : FlatBody). frame x ≤ LARGEST_FRAME) (sym same) frame_fits;
              has = contains (main_codes m) (record { 0 = g }, code c) (inl (entry e.0 same));
            }
          where
            entry : g ≡ main_number m → c ≡ main_body m → coded (main_number m) (main_body m) ≡ coded g c
            entry a b = ap₂ coded (sym a) (sym b)

    never_stuck : (input : List ℕ) → All (λ (c : ℕ). c < 256) input → IsNeverStuck (plain_program m) input
    never_stuck input small n = subst (λ (o : Seen). o.status ≢ Stuck) (sym (runs_as_the_source_where_valid m valid input n)) (valid_never_stuck m proper valid input small n)

    laid : IsLaid (object m (main_codes m)) (plain_program m)
    laid = image_laid m valid (main_codes m) are_codes size_fits (plain_program m) program_of

    refined : (input : List ℕ) → All (λ (c : ℕ). c < 256) input → Refines (frame (main_body m)) (src m input) (run (loaded_segments (image m (main_codes m))) input)
    refined input small =
        let p = plain_program m in
        refines_same (frame_in p p.main) (flat_run p input) (src m input) (run (loaded_segments (image m (main_codes m))) input) (runs_as_the_source_where_valid m valid input)
        (sums_refined (object m (main_codes m)) p laid (sums_are MOST_OPS body (sum_body m f b shape) (well m f b shape proper valid) p (body_is m f b shape) (returns_word m f b shape proper valid)) input small (never_stuck input small))

    bounds : IsImage (image m (main_codes m))
    bounds = within_bounds m proper valid (main_codes m) are_codes (program_of.items) size_fits

    -- ---- the symbol of `main`

    entry_small : (link_of m (main_codes m)).entry (main_number m) < 4294967296
    entry_small = let own : items_before (main_number m) (main_codes m) ≡ 0 = first_item (nat_eq (main_number m) (main_number m)) (nat_self (main_number m)) in omega (arith, own)
      where
        nat_self : (n : ℕ) → nat_eq n n ≡ true
        nat_self n = grind (arith, nat_tests)

        first_item : (t : Bool) → t ≡ true → (if t then 0 else length (code (main_body m)) + 0) ≡ 0
        first_item true e = refl
        first_item false e = absurd cc

    symbol_words : All HasWords (image m (main_codes m)).symbols
    unfolding image
    symbol_words = sorted (function_symbols m l (main_codes m) ++ global_symbols m l 0 m.globals)
        (All-append HasWords (function_symbols m l (main_codes m)) (global_symbols m l 0 m.globals)
        (All-append HasWords (function_symbol m l (main_number m) (code (main_body m)) (slice_get m.funcs (main_number m))) [] (of_main (slice_get m.funcs (main_number m))) (All-nil HasWords))
        (subst (λ (gs : List GlobalVar). All HasWords (global_symbols m l 0 gs)) (sym shape.globals) (All-nil HasWords)))
      where
        l : Link
        l = link_of m (main_codes m)

        of_main : (o : Option Func) → All HasWords (function_symbol m l (main_number m) (code (main_body m)) o)
        of_main None = All-nil HasWords
        of_main (Some g) = let n = code_length in All-cons HasWords _ [] (record { value = entry_small; size = omega (arith, n) }) (All-nil HasWords)

        sorted : (ss : List Symbol) → All HasWords ss → All HasWords (local_first ss)
        sorted ss h = All-append HasWords (filter (λ (t : Symbol). not t.global) ss) (filter (λ (t : Symbol). t.global) ss) (All-filter (λ (t : Symbol). not t.global) HasWords ss h) (All-filter (λ (t : Symbol). t.global) HasWords ss h)

-- the text of an image has the size that is stated
pub text_length : (m : Module) (codes : Codes) → length (image m codes).text ≡ text_size m codes
unfolding image
text_length m codes = bytes_length (linked (link_of m codes) text_start (text_items m codes)) ∙ ap (λ (n : ℕ). 4 * n) (linked_length (link_of m codes) text_start (text_items m codes))

-- ---- a module of which all is built

module _ (m : Module) (proper : IsProper m) (valid : IsValid m) (none : unbuilt m ≡ []) where
  abbrev its : (f : Func) × (b : Block) × IsOneMain m f b
  its = one_main m proper valid none

  -- `main` is one of its functions
  pub main_there : main_number m < length m.funcs
  main_there = let first = main_first m its.0 its.1 its.2 in let count = ap (λ (fs : List Func). length fs) its.2.funcs in omega (arith, first, count)

  -- its codes are such as an image is made of, and small enough
  pub codes_given : AreCodes m (main_codes m)
  codes_given = are_codes m its.0 its.1 its.2

  pub text_fits : size m ≤ LARGEST_TEXT
  text_fits = size_fits m its.0 its.1 its.2

  pub main_is_formed : IsWellFormed (main_body m)
  main_is_formed = subst IsWellFormed (sym (main_is m its.0 its.1 its.2)) (well m its.0 its.1 its.2 proper valid)

  pub code_is_small : code_bytes (main_body m) ≤ LARGEST_CODE
  code_is_small = code_fits m its.0 its.1 its.2

  pub frame_is_small : frame (main_body m) ≤ LARGEST_FRAME
  frame_is_small = frame_fits m its.0 its.1 its.2

  pub object_bounds : IsImage (image m (main_codes m))
  object_bounds = bounds m its.0 its.1 its.2 proper valid

  pub object_words : All HasWords (image m (main_codes m)).symbols
  object_words = symbol_words m its.0 its.1 its.2 proper valid

-- the object of a module of which all is built does what the module says
pub object_refines : (m : Module) → IsProper m → IsValid m → unbuilt m ≡ [] → (input : List ℕ) → All (λ (c : ℕ). c < 256) input → Refines (frame (main_body m)) (src m input) (run (loaded_segments (image m (main_codes m))) input)
object_refines m proper valid none = let at = one_main m proper valid none in refined m at.0 at.1 at.2 proper valid
