-- An image of a module's codes is within the bounds of an image.
use Rattle.std.proofs.Common.{◌≡◌, ◌≢◌, ◌⊎◌, inl, inr, ℕ, suc, ◌+◌, ◌<◌, ◌≤◌, Bool, true, false, not, cond, List, [], ◌∷◌, ◌++◌, map, filter, length, length-append, Option, Some, None, slice_get, All, AllPairs, Contains, IsTrue, refl, sym, ap, ◌∙◌, subst, arith}
use Rattle.std.specs.Prelude.{unwrap_or, sum_by}
use Rattle.std.specs.List.{flat_map, AllByRecursion as Each}
use Rattle.std.proofs.lemmas.Bool.{cases_lt}
use Rattle.std.proofs.lemmas.List.Elements.{All-nil, All-cons, All-head, All-tail, All-append, All-filter}
use Rattle.std.proofs.lemmas.List.Sums.{sum_by-cons, sum_by-append}
use Rattle.oi_base.specs.declared.ids.FuncId.{FuncId}
use Rattle.oi_base.specs.declared.ids.Place.{Place}
use Rattle.ir_core.specs.declared.func.Func.{Func}
use Rattle.ir_core.specs.declared.module.SymId.{SymId}
use Rattle.ir_core.specs.declared.module.GlobalVar.{GlobalVar}
use Rattle.ir_core.specs.declared.module.Module.{Module}
use Rattle.ir_core.specs.declared.limits.TheConstants.{MOST_NAME_BYTES, NAME_EXTRA}
use Rattle.ir_core.specs.Constants.{initial_bytes, global_memory}
use Rattle.ir_core.specs.Operands.{is_up_to, symbol_text}
use Rattle.ir_core.specs.Parts.{const_symbols, func_symbols, module_symbols}
use Rattle.ir_core.specs.Proper.{IsProper, IsSymbol}
use Rattle.ir_core.specs.Source.{main_number}
use Rattle.ir_core.specs.Valid.{IsValid}
use Rattle.ir_core.specs.ValidModule.{Introduced, introduced_globals, introduced_funcs, named}
use Rattle.ir_core.proofs.Lists.{Has, element, all_at, at_has, has_at, contains, has_left, has_right, has_part}
use Rattle.module_rules.proofs.Earliest.{up_to_itself, up_to_trans, up_to_total}
use Rattle.elf_object.specs.declared.image.TheConstants.{LARGEST_TEXT, LARGEST_TABLES}
use Rattle.elf_object.specs.declared.symbol.Symbol.{Symbol}
use Rattle.elf_object.specs.declared.symbol.SymKind.TheVariants.{Object}
use Rattle.elf_object.specs.Image.{string_table, symbol_table_size, IsNamed, IsLocalFirst, IsImage}
use Rattle.rv_select.specs.declared.item.Item.{Item}
use Rattle.rv_select.specs.Linked.{Link, stub}
use Rattle.rv_select.specs.Pending.{IsItem}
use Rattle.image_layout.specs.Addresses.{Codes, link_of}
use Rattle.image_layout.specs.DataBytes.{bytes_from}
use Rattle.image_layout.specs.Symbols.{function_symbol, function_symbols, global_symbols, local_first}
use Rattle.image_layout.specs.Image.{image, text_size}
use Rattle.image_layout.specs.Codes.{AreCodes}
use Rattle.image_layout.proofs.DataLaid.{data_length}
use Rattle.image_layout.proofs.Globals.{are_aligned, data_fits}
use Rattle.image_layout.proofs.TextLaid.{pairs_head, pairs_tail, text_length}

-- ---- local symbols first

abbrev is_local : Symbol → Bool
is_local s = not s.global

abbrev is_global : Symbol → Bool
is_global s = s.global

abbrev Global : Symbol → Type 0
Global s = IsTrue s.global

all_global : (ss : List Symbol) → All Global (filter is_global ss)
all_global [] = All-nil Global
all_global (s ∷ ss) = by s.global refl (all_global ss)
  where
    by : (t : Bool) → s.global ≡ t → All Global (filter is_global ss) → All Global (filter is_global (s ∷ ss))
    by true e rest = subst (λ (b : Bool). All Global (cond b (s ∷ filter is_global ss) (filter is_global ss))) (sym e) (All-cons Global s (filter is_global ss) e rest)
    by false e rest = subst (λ (b : Bool). All Global (cond b (s ∷ filter is_global ss) (filter is_global ss))) (sym e) rest

globals_alone : (ss : List Symbol) → All Global ss → IsLocalFirst ss
globals_alone [] h = tt
globals_alone (s ∷ ss) h = (λ g. All-tail Global s ss h, globals_alone ss (All-tail Global s ss h))

locals_before : (ss rest : List Symbol) → All Global rest → IsLocalFirst (filter is_local ss ++ rest)
locals_before [] rest h = globals_alone rest h
locals_before (s ∷ ss) rest h = by s.global refl (locals_before ss rest h)
  where
    by : (t : Bool) → s.global ≡ t → IsLocalFirst (filter is_local ss ++ rest) → IsLocalFirst (filter is_local (s ∷ ss) ++ rest)
    by true e later = subst (λ (b : Bool). IsLocalFirst (cond (not b) (s ∷ filter is_local ss) (filter is_local ss) ++ rest)) (sym e) later
    by false e later = subst (λ (b : Bool). IsLocalFirst (cond (not b) (s ∷ filter is_local ss) (filter is_local ss) ++ rest)) (sym e) (λ g. absurd (clash (sym e ∙ g)), later)
      where
        clash : false ≡ true → ⊥
        clash f = cc

is_local_first : (ss : List Symbol) → IsLocalFirst (local_first ss)
is_local_first ss = locals_before ss (filter is_global ss) (all_global ss)

-- ---- how much they take

-- what a symbol takes in the symbol table and the string table
abbrev taken : Symbol → ℕ
taken s = length s.name + NAME_EXTRA

split_sum : (ss : List Symbol) → sum_by taken (filter is_local ss) + sum_by taken (filter is_global ss) ≡ sum_by taken ss
split_sum [] = refl
split_sum (s ∷ ss) = by s.global refl (split_sum ss)
  where
    by : (t : Bool) → s.global ≡ t → sum_by taken (filter is_local ss) + sum_by taken (filter is_global ss) ≡ sum_by taken ss → sum_by taken (filter is_local (s ∷ ss)) + sum_by taken (filter is_global (s ∷ ss)) ≡ sum_by taken (s ∷ ss)
    by true e c =
        subst (λ (b : Bool). sum_by taken (cond (not b) (s ∷ filter is_local ss) (filter is_local ss)) + sum_by taken (cond b (s ∷ filter is_global ss) (filter is_global ss)) ≡ sum_by taken (s ∷ ss)) (sym e)
        (let a = sum_by-cons taken s (filter is_global ss) in let b = sum_by-cons taken s ss in omega (arith, a, b, c))
    by false e c =
        subst (λ (b : Bool). sum_by taken (cond (not b) (s ∷ filter is_local ss) (filter is_local ss)) + sum_by taken (cond b (s ∷ filter is_global ss) (filter is_global ss)) ≡ sum_by taken (s ∷ ss)) (sym e)
        (let a = sum_by-cons taken s (filter is_local ss) in let b = sum_by-cons taken s ss in omega (arith, a, b, c))

first_sum : (ss : List Symbol) → sum_by taken (local_first ss) ≡ sum_by taken ss
first_sum ss = sum_by-append taken (filter is_local ss) (filter is_global ss) ∙ split_sum ss

tables_size : (ss : List Symbol) → symbol_table_size ss + length (string_table ss) ≡ 17 + sum_by taken ss
tables_size [] = refl
tables_size (s ∷ ss) =
    let rest = tables_size ss in
    let sum = sum_by-cons taken s ss in
    let a = length-append s.name (0 ∷ []) in
    let b = length-append (s.name ++ 0 ∷ []) (flat_map (λ (t : Symbol). t.name ++ 0 ∷ []) ss) in
    omega (arith, rest, sum, a, b)

-- ---- the names of a module

module _ (m : Module) (proper : IsProper m) (valid : IsValid m) where
  abbrev name_size : SymId → ℕ
  name_size s = length (symbol_text m s) + NAME_EXTRA

  abbrev introduced_size : Introduced → ℕ
  introduced_size a = name_size a.name

  is_name : (s : SymId) → Has (module_symbols m) s → IsSymbol (symbol_text m s)
  is_name s h =
      let at = at_has (module_symbols m) s h in
      let low = all_at (λ (x : SymId). x.0 < length m.symbols) (module_symbols m) at.0 s proper.symbols_known at.1 in
      let e = element m.symbols s.0 low in
      subst IsSymbol (sym (ap (λ (o : Option (List ℕ)). unwrap_or o []) e.1)) (all_at IsSymbol m.symbols s.0 e.0 proper.symbols e.1)

  named_by : (s : Symbol) → IsSymbol s.name → IsNamed s
  named_by s h = record { not_empty = some s.name h.0; no_zero = h.1 }
    where
      some : (bytes : List ℕ) → bytes ≢ [] → 0 < length bytes
      some [] n = absurd (n refl)
      some (b ∷ bs) n = omega arith

  all_up : (ns : List Introduced) (p : Place) → Each (λ (a : Introduced). is_up_to a.place p ≡ true) ns → filter (λ (a : Introduced). is_up_to a.place p) ns ≡ ns
  all_up [] p h = refl
  all_up (a ∷ ns) p h =
      ap (λ (b : Bool). cond b (a ∷ filter (λ (x : Introduced). is_up_to x.place p) ns) (filter (λ (x : Introduced). is_up_to x.place p) ns)) h.0
      ∙ ap (λ (xs : List Introduced). a ∷ xs) (all_up ns p h.1)

  higher : (ns : List Introduced) (p q : Place) → is_up_to p q ≡ true → Each (λ (a : Introduced). is_up_to a.place p ≡ true) ns → Each (λ (a : Introduced). is_up_to a.place q ≡ true) ns
  higher [] p q le h = tt
  higher (a ∷ ns) p q le h = (up_to_trans a.place p q h.0 le, higher ns p q le h.1)

  -- one of them is after all
  last_of : (a : Introduced) (ns : List Introduced) → (l : Introduced) × Has (a ∷ ns) l × Each (λ (x : Introduced). is_up_to x.place l.place ≡ true) (a ∷ ns)
  last_of a [] = (a, inl refl, (up_to_itself a.place, tt))
  last_of a (b ∷ ns) = by (last_of b ns)
    where
      by : (l : Introduced) × Has (b ∷ ns) l × Each (λ (x : Introduced). is_up_to x.place l.place ≡ true) (b ∷ ns) → (l : Introduced) × Has (a ∷ b ∷ ns) l × Each (λ (x : Introduced). is_up_to x.place l.place ≡ true) (a ∷ b ∷ ns)
      by l = by_order (is_up_to a.place l.0.place) refl
        where
          by_order : (t : Bool) → is_up_to a.place l.0.place ≡ t → (k : Introduced) × Has (a ∷ b ∷ ns) k × Each (λ (x : Introduced). is_up_to x.place k.place ≡ true) (a ∷ b ∷ ns)
          by_order true e = (l.0, inr l.1, (e, l.2))
          by_order false e = (a, inl refl, (up_to_itself a.place, higher (b ∷ ns) l.0.place a.place (up_to_total a.place l.0.place e) l.2))

  names_fit : sum_by introduced_size (named m) ≤ MOST_NAME_BYTES
  names_fit = by (named m) refl
    where
      by : (ns : List Introduced) → named m ≡ ns → sum_by introduced_size ns ≤ MOST_NAME_BYTES
      by [] e = omega arith
      by (a ∷ ns) e = by_less (cases_lt MOST_NAME_BYTES (sum_by introduced_size (a ∷ ns)))
        where
          by_less : (MOST_NAME_BYTES < sum_by introduced_size (a ∷ ns)) ⊎ (sum_by introduced_size (a ∷ ns) ≤ MOST_NAME_BYTES) → sum_by introduced_size (a ∷ ns) ≤ MOST_NAME_BYTES
          by_less (inr le) = le
          by_less (inl lt) =
              let l = last_of a ns in
              let whole : filter (λ (x : Introduced). is_up_to x.place l.0.place) (named m) ≡ a ∷ ns = ap (filter (λ (x : Introduced). is_up_to x.place l.0.place)) e ∙ all_up (a ∷ ns) l.0.place l.2 in
              let stands : Contains (named m) l.0 = subst (λ (xs : List Introduced). Contains xs l.0) (sym e) (contains (a ∷ ns) l.0 l.1) in
              absurd (valid.totals l.0.place (inr (l.0, stands, refl, subst (λ (xs : List Introduced). MOST_NAME_BYTES < sum_by introduced_size xs) (sym whole) lt)))

  -- ---- the symbols

  abbrev func_name : Func → ℕ
  func_name f = name_size f.name

  global_name : (g : GlobalVar) → Has m.globals g → IsSymbol (symbol_text m g.name)
  global_name g h =
      let globals = flat_map (λ (x : GlobalVar). x.name ∷ const_symbols x.init) m.globals in
      is_name g.name
      (has_left (globals ++ flat_map func_symbols m.funcs) _ g.name
      (has_left globals (flat_map func_symbols m.funcs) g.name (has_part (λ (x : GlobalVar). x.name ∷ const_symbols x.init) m.globals g g.name h (inl refl))))

  funcs_name : (f : Func) → Has m.funcs f → IsSymbol (symbol_text m f.name)
  funcs_name f h =
      let globals = flat_map (λ (x : GlobalVar). x.name ∷ const_symbols x.init) m.globals in
      is_name f.name
      (has_left (globals ++ flat_map func_symbols m.funcs) _ f.name
      (has_right globals (flat_map func_symbols m.funcs) f.name (has_part func_symbols m.funcs f f.name h (inl refl))))

  module _ (l : Link) where
    globals_named : (n : ℕ) (gs : List GlobalVar) → ((g : GlobalVar) → Has gs g → Has m.globals g) → All IsNamed (global_symbols m l n gs)
    globals_named n [] h = All-nil IsNamed
    globals_named n (g ∷ gs) h = All-cons IsNamed _ (global_symbols m l (n + 1) gs) (named_by _ (global_name g (h g (inl refl)))) (globals_named (n + 1) gs (λ x k. h x (inr k)))

    globals_sum : (n : ℕ) (gs : List GlobalVar) → sum_by taken (global_symbols m l n gs) ≡ sum_by introduced_size (map (λ (g : GlobalVar). record { name = g.name; place = g.place }) gs)
    globals_sum n [] = refl
    globals_sum n (g ∷ gs) =
        let rest = globals_sum (n + 1) gs in
        let s : Symbol = record { name = symbol_text m g.name; value = l.global_at n; size = length (initial_bytes m g.ty g.init); kind = Object; global = not g.internal } in
        let a : Introduced = record { name = g.name; place = g.place } in
        sum_by-cons taken s (global_symbols m l (n + 1) gs)
        ∙ ap (λ (k : ℕ). name_size g.name + k) rest
        ∙ sym (sum_by-cons introduced_size a (map (λ (x : GlobalVar). record { name = x.name; place = x.place }) gs))

    one_named : (n : ℕ) (code : List Item) (o : Option Func) → ((f : Func) → o ≡ Some f → Has m.funcs f) → All IsNamed (function_symbol m l n code o)
    one_named n code None h = All-nil IsNamed
    one_named n code (Some f) h = All-cons IsNamed _ [] (named_by _ (funcs_name f (h f refl))) (All-nil IsNamed)

    functions_named : (codes : Codes) → All IsNamed (function_symbols m l codes)
    functions_named [] = All-nil IsNamed
    functions_named (c ∷ codes) =
        All-append IsNamed (function_symbol m l c.0.0 c.1 (slice_get m.funcs c.0.0)) (function_symbols m l codes)
        (one_named c.0.0 c.1 (slice_get m.funcs c.0.0) (λ f e. has_at m.funcs c.0.0 f e))
        (functions_named codes)

    -- what the symbol of a function takes
    one_sum : (n : ℕ) (code : List Item) (o : Option Func) (f : Func) → o ≡ Some f → sum_by taken (function_symbol m l n code o) ≡ func_name f
    one_sum n code o f e = subst (λ (x : Option Func). sum_by taken (function_symbol m l n code x) ≡ func_name f) (sym e) (let z : 0 + func_name f ≡ func_name f = omega arith in z)

    -- the codes of functions from a number on, with rising numbers
    Rises : ℕ → Codes → Type 0
    Rises n [] = Unit {0}
    Rises n (c ∷ codes) = (n ≤ c.0.0) × (c.0.0 < length m.funcs) × Rises (c.0.0 + 1) codes

    rises : (n : ℕ) (codes : Codes) → All (λ (c : FuncId × List Item). n ≤ c.0.0) codes → All (λ (c : FuncId × List Item). c.0.0 < length m.funcs) codes → AllPairs (λ (a b : FuncId × List Item). a.0.0 < b.0.0) codes → Rises n codes
    unfolding Rises
    rises n [] low high up = tt
    rises n (c ∷ codes) low high up = (
      All-head (λ (d : FuncId × List Item). n ≤ d.0.0) c codes low,
      All-head (λ (d : FuncId × List Item). d.0.0 < length m.funcs) c codes high,
      rises (c.0.0 + 1) codes (λ k d lt. let h = pairs_head (λ (a b : FuncId × List Item). a.0.0 < b.0.0) c codes up k d lt in omega (arith, h)) (All-tail (λ (d : FuncId × List Item). d.0.0 < length m.funcs) c codes high)
          (pairs_tail (λ (a b : FuncId × List Item). a.0.0 < b.0.0) c codes up),
    )

    functions_sum : (n : ℕ) (fs : List Func) (codes : Codes) → ((k : ℕ) → slice_get m.funcs (n + k) ≡ slice_get fs k) → n + length fs ≡ length m.funcs → Rises n codes → sum_by taken (function_symbols m l codes) ≤ sum_by func_name fs
    unfolding Rises
    functions_sum n fs [] at count h = omega arith
    functions_sum n [] (c ∷ codes) at count h = let low = h.0 in let high = h.1 in absurd (omega (arith, low, high, count))
    functions_sum n (f ∷ fs) (c ∷ codes) at count h =
        by (cases_lt n c.0.0) (functions_sum (n + 1) fs codes later more) (functions_sum (n + 1) fs (c ∷ codes) later more)
      where
        later : (k : ℕ) → slice_get m.funcs (n + 1 + k) ≡ slice_get fs k
        later k = let e : n + 1 + k ≡ n + suc k = omega arith in ap (slice_get m.funcs) e ∙ at (suc k)

        more : n + 1 + length fs ≡ length m.funcs
        more = omega (arith, count)

        whole : sum_by func_name (f ∷ fs) ≡ func_name f + sum_by func_name fs
        whole = sum_by-cons func_name f fs

        by : (n < c.0.0) ⊎ (c.0.0 ≤ n) → (Rises (n + 1) codes → sum_by taken (function_symbols m l codes) ≤ sum_by func_name fs) → (Rises (n + 1) (c ∷ codes) → sum_by taken (function_symbols m l (c ∷ codes)) ≤ sum_by func_name fs) → sum_by taken (function_symbols m l (c ∷ codes)) ≤ sum_by func_name (f ∷ fs)
        by (inl lt) skip go = let rest = go (omega (arith, lt), h.1, h.2) in omega (arith, rest, whole)
        by (inr le) skip go =
            let low = h.0 in
            let same : c.0.0 ≡ n + 0 = omega (arith, le, low) in
            let here : slice_get m.funcs c.0.0 ≡ Some f = ap (slice_get m.funcs) same ∙ at 0 in
            let one = one_sum c.0.0 c.1 (slice_get m.funcs c.0.0) f here in
            let next : c.0.0 + 1 ≡ n + 1 = omega (arith, same) in
            let rest = skip (subst (λ (k : ℕ). Rises k codes) next h.2) in
            let both = sum_by-append taken (function_symbol m l c.0.0 c.1 (slice_get m.funcs c.0.0)) (function_symbols m l codes) in
            omega (arith, one, rest, both, whole)

  funcs_alike : (fs : List Func) → sum_by introduced_size (map (λ (f : Func). record { name = f.name; place = f.place }) fs) ≡ sum_by func_name fs
  funcs_alike [] = refl
  funcs_alike (f ∷ fs) =
      let a : Introduced = record { name = f.name; place = f.place } in
      sum_by-cons introduced_size a (map (λ (x : Func). record { name = x.name; place = x.place }) fs)
      ∙ ap (λ (k : ℕ). func_name f + k) (funcs_alike fs)
      ∙ sym (sum_by-cons func_name f fs)

  module _ (codes : Codes) (are : AreCodes m codes) (items : All (λ (c : FuncId × List Item). All IsItem c.1) codes) (fits : text_size m codes ≤ 4194304) where
    abbrev l : Link
    l = link_of m codes

    abbrev all_symbols : List Symbol
    all_symbols = function_symbols m l codes ++ global_symbols m l 0 m.globals

    symbols_are : (image m codes).symbols ≡ local_first all_symbols
    unfolding image
    symbols_are = refl

    data_is : (image m codes).data_bytes ≡ bytes_from l 0 (global_memory m)
    unfolding image
    data_is = refl

    all_taken : sum_by taken all_symbols ≤ MOST_NAME_BYTES
    all_taken =
        let split = sum_by-append taken (function_symbols m l codes) (global_symbols m l 0 m.globals) in
        let globals = globals_sum l 0 m.globals in
        let up = rises l 0 codes (λ k d lt. omega arith) are.definitions are.ascending in
        let functions = functions_sum l 0 m.funcs codes (λ k. let e : 0 + k ≡ k = omega arith in ap (slice_get m.funcs) e) (omega arith) up in
        let names = sum_by-append introduced_size (introduced_globals m) (introduced_funcs m) in
        let alike = funcs_alike m.funcs in
        let fit = names_fit in
        omega (arith, split, globals, functions, names, alike, fit)

    named_all : All IsNamed all_symbols
    named_all = All-append IsNamed (function_symbols m l codes) (global_symbols m l 0 m.globals) (functions_named l codes) (globals_named l 0 m.globals (λ g h. h))

    pub within : IsImage (image m codes)
    within =
        let text = text_length m codes items fits in
        let front = length-append (stub (main_number m)) (flat_map (λ (c : FuncId × List Item). c.1) codes) in
        record {
          text_least = omega (arith, text, front);
          text_most = omega (arith, text, fits);
          text_words = omega (arith, text);
          data_most = (let n = data_length l 0 (global_memory m) (are_aligned m valid) in let same = ap (λ (bs : List ℕ). length bs) data_is in let most = data_fits m valid in omega (arith, n, same, most));
          named = subst (All IsNamed) (sym symbols_are) (All-append IsNamed (filter is_local all_symbols) (filter is_global all_symbols) (All-filter is_local IsNamed all_symbols named_all) (All-filter is_global IsNamed all_symbols named_all));
          local_first = subst IsLocalFirst (sym symbols_are) (is_local_first all_symbols);
          symbols_most = subst (λ (ss : List Symbol). symbol_table_size ss + length (string_table ss) ≤ LARGEST_TABLES) (sym symbols_are) (let size = tables_size (local_first all_symbols) in let first = first_sum all_symbols in let most = all_taken in omega (arith, size, first, most));
        }

pub within_bounds : (m : Module) → IsProper m → IsValid m → (codes : Codes) → AreCodes m codes → All (λ (c : FuncId × List Item). All IsItem c.1) codes → text_size m codes ≤ LARGEST_TEXT → IsImage (image m codes)
within_bounds m proper valid codes are items fits = within m proper valid codes are items fits
