-- Links that give the addresses of a module's codes and globals give the same image.
use Rattle.std.proofs.Common.{◌≡◌, inl, inr, ℕ, ◌+◌, ◌-◌, ◌*◌, ◌%◌, not, refl, ap, ap₂, ◌∙◌, pos, List, [], ◌∷◌, ◌++◌, map, replicate, length, All, Option, Some, None, slice_get}
use Rattle.std.specs.Int.{next_multiple_of}
use Rattle.std.specs.List.{flat_map}
use Rattle.std.proofs.lemmas.List.Elements.{All-nil, All-cons, All-head, All-tail, All-append}
use Rattle.oi_base.specs.declared.ids.FuncId.{FuncId}
use Rattle.ir_core.specs.declared.func.Func.{Func}
use Rattle.ir_core.specs.declared.module.GlobalVar.{GlobalVar}
use Rattle.ir_core.specs.declared.module.Module.{Module}
use Rattle.ir_core.specs.Constants.{initial_bytes, global_memory}
use Rattle.ir_core.specs.Memory.{Byte, Unset, PoisonByte, Octet, PartOf, Memory}
use Rattle.ir_core.specs.Operands.{symbol_text}
use Rattle.ir_core.specs.Source.{main_number}
use Rattle.ir_core.proofs.Lists.{Has, contains}
use Rattle.rv_isa.specs.declared.rv.Rv.{Rv}
use Rattle.rv_isa.specs.declared.rv.Rv.TheVariants as rv
use Rattle.rv_isa.specs.Memory.{text_start}
use Rattle.elf_object.specs.declared.symbol.Symbol.{Symbol}
use Rattle.elf_object.specs.declared.symbol.SymKind.TheVariants.{Func as Function, Object}
use Rattle.elf_object.specs.Image.{Parts}
use Rattle.rv_select.specs.declared.item.Item.{Item}
use Rattle.rv_select.specs.declared.item.Item.TheVariants.{Word, CallHigh, CallLow, AddressHigh, AddressLow}
use Rattle.rv_select.specs.Parts.{ra, a7, zero_register, hi, lo}
use Rattle.rv_select.specs.Linked.{Link, instruction_at, linked, stub, distance}
use Rattle.rv_select.specs.Texts.{bytes_of}
use Rattle.image_layout.specs.Addresses.{Codes, link_of}
use Rattle.image_layout.specs.DataBytes.{byte_in, bytes_from}
use Rattle.image_layout.specs.Symbols.{function_symbol, function_symbols, global_symbols, local_first}
use Rattle.image_layout.specs.Image.{items_of, text_items, image}
use Rattle.image_layout.specs.Codes.{HasCode, IsKnown, AreCodes, Links}

abbrev made : List ℕ → List ℕ → List Symbol → Parts
made text data_bytes symbols = record { text = text; data_bytes = data_bytes; symbols = symbols }

-- the image by a link
abbrev pub image_by : Link → Module → Codes → Parts
image_by l m codes = record {
  text = bytes_of (linked l text_start (text_items m codes));
  data_bytes = bytes_from l 0 (global_memory m);
  symbols = local_first (function_symbols m l codes ++ global_symbols m l 0 m.globals);
}

module _ (m : Module) (codes : Codes) (l : Link) (links : Links m codes l) where
  abbrev k : Link
  k = link_of m codes

  abbrev Known : Item → Type 0
  Known i = IsKnown m codes i

  -- ---- the text

  instruction_alike : (at : ℕ) (i : Item) → IsKnown m codes i → instruction_at l at i ≡ instruction_at k at i
  instruction_alike at (Word i) h = refl
  instruction_alike at (CallHigh f) h = ap (λ (e : ℕ). rv.Auipc ra (hi (distance at e))) (links.entries f.0 h)
  instruction_alike at (CallLow f) h = ap (λ (e : ℕ). rv.Jalr ra ra (lo (distance (at - 4) e))) (links.entries f.0 h)
  instruction_alike at (AddressHigh r g o) h = ap (λ (place : ℕ → ℕ). rv.Lui r (hi ((place g + o) % 4294967296))) links.globals
  instruction_alike at (AddressLow r g o) h = ap (λ (place : ℕ → ℕ). rv.Addi r r (lo ((place g + o) % 4294967296))) links.globals

  linked_alike : (is : List Item) (at : ℕ) → All (IsKnown m codes) is → linked l at is ≡ linked k at is
  linked_alike [] at h = refl
  linked_alike (i ∷ is) at h =
      ap₂ (λ (x : Rv) (xs : List Rv). x ∷ xs) (instruction_alike at i (All-head (IsKnown m codes) i is h)) (linked_alike is (at + 4) (All-tail (IsKnown m codes) i is h))

  codes_known : (cs : Codes) → All (λ (c : FuncId × List Item). All (IsKnown m codes) c.1) cs → All (IsKnown m codes) (flat_map items_of cs)
  codes_known [] h = All-nil (IsKnown m codes)
  codes_known (c ∷ cs) h =
      let each = λ (d : FuncId × List Item). All (IsKnown m codes) d.1 in
      All-append (IsKnown m codes) c.1 (flat_map items_of cs) (All-head each c cs h) (codes_known cs (All-tail each c cs h))

  stub_known : HasCode codes (main_number m) → All (IsKnown m codes) (stub (main_number m))
  stub_known main =
      let last = Word (rv.Addi a7 zero_register (pos 3)) ∷ Word rv.Ecall ∷ [] in
      let f : FuncId = record { 0 = main_number m } in
      All-cons Known (CallHigh f) (CallLow f ∷ last) main
      (All-cons Known (CallLow f) last main
      (All-cons Known (Word (rv.Addi a7 zero_register (pos 3))) (Word rv.Ecall ∷ []) tt (All-cons Known (Word rv.Ecall) [] tt (All-nil Known))))

  -- ---- the data

  byte_alike : (b : Byte) → byte_in l b ≡ byte_in k b
  byte_alike Unset = refl
  byte_alike PoisonByte = refl
  byte_alike (Octet n) = refl
  byte_alike (PartOf b o j) = ap (λ (place : ℕ → ℕ). byte_in (record { entry = k.entry; global_at = place }) (PartOf b o j)) links.globals

  own_alike : (bs : List Byte) → map (byte_in l) bs ≡ map (byte_in k) bs
  own_alike [] = refl
  own_alike (b ∷ bs) = ap₂ (λ (x : ℕ) (xs : List ℕ). x ∷ xs) (byte_alike b) (own_alike bs)

  bytes_alike : (bs : Memory) (from : ℕ) → bytes_from l from bs ≡ bytes_from k from bs
  bytes_alike [] from = refl
  bytes_alike (b ∷ bs) from =
      ap₂ (λ (own rest : List ℕ). replicate (next_multiple_of from b.align - from) 0 ++ own ++ rest) (own_alike b.bytes) (bytes_alike bs (next_multiple_of from b.align + length b.bytes))

  -- ---- the symbols

  one_alike : (n : ℕ) (code : List Item) (o : Option Func) → HasCode codes n → function_symbol m l n code o ≡ function_symbol m k n code o
  one_alike n code None h = refl
  one_alike n code (Some f) h =
      ap (λ (at : ℕ). record { name = symbol_text m f.name; value = at; size = 4 * length code; kind = Function; global = not f.internal } ∷ []) (links.entries n h)

  abbrev number : FuncId × List Item → ℕ
  number c = c.0.0

  functions_alike : (cs : Codes) → ((n : ℕ) → Has (map number cs) n → HasCode codes n) → function_symbols m l cs ≡ function_symbols m k cs
  functions_alike [] h = refl
  functions_alike (c ∷ cs) h =
      ap₂ (λ (xs ys : List Symbol). xs ++ ys) (one_alike c.0.0 c.1 (slice_get m.funcs c.0.0) (h c.0.0 (inl refl))) (functions_alike cs (λ n x. h n (inr x)))

  globals_alike : (gs : List GlobalVar) (n : ℕ) → global_symbols m l n gs ≡ global_symbols m k n gs
  globals_alike [] n = refl
  globals_alike (g ∷ gs) n =
      ap₂ (λ (place : ℕ → ℕ) (rest : List Symbol). record { name = symbol_text m g.name; value = place n; size = length (initial_bytes m g.ty g.init); kind = Object; global = not g.internal } ∷ rest) links.globals (globals_alike gs (n + 1))

  -- ---- the image

  pub same_image : AreCodes m codes → image_by l m codes ≡ image m codes
  unfolding image
  same_image are =
      let text = ap bytes_of (linked_alike (text_items m codes) text_start (All-append (IsKnown m codes) (stub (main_number m)) (flat_map items_of codes) (stub_known are.main) (codes_known codes are.known))) in
      let data_is = bytes_alike (global_memory m) 0 in
      let functions = functions_alike codes (λ n h. contains (map number codes) n h) in
      let globals = globals_alike m.globals 0 in
      let symbols = ap₂ (λ (fs gs : List Symbol). local_first (fs ++ gs)) functions globals in
      ap (λ (bs : List ℕ). made bs (image_by l m codes).data_bytes (image_by l m codes).symbols) text
      ∙ ap₂ (λ (bs : List ℕ) (ss : List Symbol). made (bytes_of (linked k text_start (text_items m codes))) bs ss) data_is symbols

  pub made_image : AreCodes m codes → (text data_bytes : List ℕ) (symbols : List Symbol) → text ≡ (image_by l m codes).text → data_bytes ≡ (image_by l m codes).data_bytes → symbols ≡ (image_by l m codes).symbols → made text data_bytes symbols ≡ image m codes
  made_image are text data_bytes symbols t d s =
      let b = image_by l m codes in
      ap (λ (x : List ℕ). made x data_bytes symbols) t ∙ ap₂ (λ (y : List ℕ) (z : List Symbol). made b.text y z) d s ∙ same_image are
