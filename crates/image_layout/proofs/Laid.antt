-- A program lies in the object of its codes.
use Rattle.std.proofs.Common.{◌≡◌, ℕ, ◌≤◌, refl, sym, ap, subst, arith, List, length, Some}
use Rattle.ir_core.specs.declared.flat.FlatBody.{FlatBody}
use Rattle.ir_core.specs.declared.module.Module.{Module}
use Rattle.ir_core.specs.Constants.{global_memory}
use Rattle.ir_core.specs.Flat.{Program}
use Rattle.ir_core.specs.Valid.{IsValid}
use Rattle.ir_core.proofs.Lists.{has_in}
use Rattle.rv_isa.specs.Memory.{text_start}
use Rattle.rv_isa.specs.Laws.{Holds}
use Rattle.rv_select.specs.Linked.{linked, stub}
use Rattle.rv_select.specs.Code.{code}
use Rattle.rv_select.specs.Stands.{DataIsLaid, CodeIsLaid, IsLaid}
use Rattle.ir_safety.proofs.GlobalPointers.{globals_within}
use Rattle.image_layout.specs.Addresses.{Codes, link_of}
use Rattle.image_layout.specs.DataBytes.{bytes_from}
use Rattle.image_layout.specs.Image.{image, text_size, object}
use Rattle.image_layout.specs.Codes.{AreCodes, IsProgramOf}
use Rattle.image_layout.proofs.DataLaid.{data_length, data_laid}
use Rattle.image_layout.proofs.Globals.{are_aligned, data_fits}
use Rattle.image_layout.proofs.TextLaid.{text_length, stub_holds, code_at_entry}

module _ (m : Module) (valid : IsValid m) (codes : Codes) (are : AreCodes m codes) (fits : text_size m codes ≤ 4194304) (p : Program) (of : IsProgramOf m codes p) where
  data_is : (object m codes).segments.data_bytes ≡ bytes_from (link_of m codes) 0 (global_memory m)
  unfolding image
  data_is = refl

  text_short : length (object m codes).segments.text ≤ 4194304
  text_short = let n = text_length m codes of.items fits in omega (arith, n, fits)

  laid_code : (f : ℕ) (b : FlatBody) → p.body f ≡ Some b → CodeIsLaid (object m codes) f b
  laid_code f b e =
      let h = of.bodies f b e in
      record { formed = h.formed; small = h.small; holds = code_at_entry m codes of.items fits are.ascending f (code b) (has_in codes (record { 0 = f }, code b) h.has) }

  pub image_laid : IsLaid (object m codes) p
  image_laid = record {
    text = text_short;
    data_bytes = (
        let n = data_length (link_of m codes) 0 (global_memory m) (are_aligned m valid) in
        let same = ap (λ (bs : List ℕ). length bs) data_is in
        let most = data_fits m valid in
        omega (arith, n, same, most));
    start = subst (λ (main : ℕ). Holds (object m codes).segments text_start (linked (link_of m codes) text_start (stub main))) (sym of.main) (stub_holds m codes of.items fits);
    codes = laid_code;
    globals = subst (DataIsLaid (object m codes)) (sym of.globals) (data_laid (object m codes) (global_memory m) (are_aligned m valid) refl data_is text_short (globals_within m valid));
  }

pub laid : (m : Module) → IsValid m → (codes : Codes) → AreCodes m codes → text_size m codes ≤ 4194304 → (p : Program) → IsProgramOf m codes p → IsLaid (object m codes) p
laid m valid codes are fits p of = image_laid m valid codes are fits p of
