-- Blocks are printed with their labels.
use Rattle.std.proofs.Common.{◌≡◌, inl, inr, refl, sym, ap, ◌∙◌, ℕ, true, List, [], ◌∷◌, ◌++◌, map}
use Rattle.std.specs.Prelude.{None}
use Rattle.std.specs.List.{flat_map}
use Rattle.std.proofs.lemmas.List.{append_assoc}
use Rattle.oi_base.specs.declared.ids.Place.{Place}
use Rattle.ir_core.specs.declared.op.LocalId.{LocalId}
use Rattle.ir_core.specs.declared.op.End.{End}
use Rattle.ir_core.specs.declared.op.End.TheVariants as ends
use Rattle.ir_core.specs.declared.func.Instr.{Instr}
use Rattle.ir_core.specs.declared.func.Block.{Block}
use Rattle.ir_core.specs.Places.{no_place, unplaced_instr, unplaced_block}
use Rattle.ir_grammar.specs.declared.kinds.Kind.TheVariants as kinds
use Rattle.ir_grammar.specs.declared.parts.Lines.{Lines}
use Rattle.ir_grammar.specs.declared.parts.Progress.{Progress}
use Rattle.ir_grammar.specs.Pieces.{Piece}
use Rattle.ir_grammar.specs.Names.{Names, define}
use Rattle.ir_grammar.specs.Forms.{Form, act, ret, ◌>>=◌, either, located}
use Rattle.ir_grammar.specs.Tokens.{Limits, kind, text}
use Rattle.ir_grammar.specs.Bodies.{Ended, finish, lines, labelled, unlabelled, block_of, grown, block}
use Rattle.ir_printer.specs.declared.marks.Mark.{Mark}
use Rattle.ir_printer.specs.declared.marks.Mark.TheVariants as marks
use Rattle.ir_printer.specs.Layout.{Tables}
use Rattle.ir_printer.specs.Marks.{instr_marks, end_marks, block_marks}
use Rattle.ir_printer.specs.Reprints.{Front, AreSound, IsReprinted}
use Rattle.ir_printer.proofs.Reprinting.{Indexed, IndexedTables, assoc_to, assoc_back}
use Rattle.ir_printer.proofs.Images.{PrintsAs, as_then, as_next, as_done, as_in, as_of, as_cases, as_located, as_line}
use Rattle.ir_printer.proofs.LocalsReprinted.{prints_label, prints_next_label}
use Rattle.ir_printer.proofs.EndsReprinted.{prints_end, end_bare}
use Rattle.ir_printer.proofs.BlocksAfter.{mapped}
use Rattle.ir_printer.proofs.PrintedForms.{printed_code, printed_end, printed_block, PrintsCode}

-- the block of these lines, without places
abbrev pub lines_image : Lines → Block
lines_image y = unplaced_block (block_of no_place y)

-- the terminator of a block with this label and these instructions
abbrev pub printed_finish : Limits → LocalId → List Instr → Form Block
printed_finish l b is = printed_end l >>= λ e. ret (record { place = no_place; label = b; code = is; end = e; end_place = no_place })

-- lines and a terminator
abbrev pub printed_lines : Limits → LocalId → Form Block
printed_lines l b = printed_code l [] >>= λ is. printed_finish l b is

finish_marks_are : (a b i : Mark) (cs es : List Mark) → a ∷ b ∷ (cs ++ (i ∷ es)) ≡ (((a ∷ b ∷ []) ++ cs) ++ i ∷ []) ++ es
finish_marks_are a b i cs es = simp append_assoc

module _ (n : Tables) (i : IndexedTables n) (l : Limits) (code_in : PrintsCode n l) where
  prints_finish : (b : LocalId) (is : List Instr) → PrintsAs true n lines_image (finish l b is) (printed_finish l b (map unplaced_instr is)) ((marks.Line ∷ marks.Label b ∷ []) ++ flat_map instr_marks (map unplaced_instr is)) block_marks
  unfolding finish
  prints_finish b is =
      as_line marks.Indented refl (as_then (λ (e : End). ret (record { place = no_place; label = b; code = map unplaced_instr is; end = e; end_place = no_place })) (as_located (prints_end i l)) (λ (e : Place × Ended).
      as_done refl (finish_marks_are marks.Line (marks.Label b) marks.Indented (flat_map instr_marks (map unplaced_instr is)) (end_marks e.1.0))))

  prints_lines : (b : LocalId) → PrintsAs true n lines_image (lines l b []) (printed_lines l b) (marks.Line ∷ marks.Label b ∷ []) block_marks
  unfolding lines
  prints_lines b = as_then (λ (is : List Instr). printed_finish l b is) (code_in []) (λ (is : List Instr). prints_finish b is)

  prints_labelled : PrintsAs true n lines_image (labelled l) (printed_block l) [] block_marks
  unfolding labelled
  prints_labelled =
      as_line marks.Line refl (as_of (assoc_to (text kinds.Label) (λ m. act (define m)) (λ b. lines l b []))
      (as_in (as_next (prints_label i) (λ (b : LocalId). prints_lines b)) (assoc_back (text kinds.Label) (λ m. act (define m)) (λ b. printed_lines l b))))

  prints_unlabelled : PrintsAs true n lines_image (unlabelled l) (printed_block l) [] block_marks
  unfolding unlabelled
  prints_unlabelled =
      as_line marks.Line refl (as_in (as_next (prints_next_label i) (λ (b : LocalId). prints_lines b)) (assoc_back (text kinds.Label) (λ m. act (define m)) (λ b. printed_lines l b)))

  -- the lines of a block with its label or without it
  pub prints_block : PrintsAs true n lines_image (either (kind kinds.Label) (labelled l) (unlabelled l)) (printed_block l) [] block_marks
  prints_block = as_cases (kind kinds.Label) prints_labelled prints_unlabelled

-- ---- a block that was read

finish_bare : (l : Limits) (b : LocalId) (is : List Instr) (s : Names) (u : List Piece) (y : Lines) (t : Names) → (finish l b is).reads s u y t → y.bare ≡ true → y.end ≡ ends.Ret None
unfolding finish
finish_bare l b is s u y t r h = ap (λ (x : Lines × Names). x.0.end) (sym r.6.1) ∙ end_bare l s r.2 r.0.1 r.1 r.5.1 (ap (λ (x : Lines × Names). x.0.bare) r.6.1 ∙ h)

lines_bare : (l : Limits) (b : LocalId) (is : List Instr) (s : Names) (u : List Piece) (y : Lines) (t : Names) → (lines l b is).reads s u y t → y.bare ≡ true → y.end ≡ ends.Ret None
unfolding lines
lines_bare l b is s u y t r h = finish_bare l b r.0 r.1 r.3 y t r.6 h

block_bare : (l : Limits) (s : Names) (u : List Piece) (y : Lines) (t : Names) → (either (kind kinds.Label) (labelled l) (unlabelled l)).reads s u y t → y.bare ≡ true → y.end ≡ ends.Ret None
unfolding labelled unlabelled
block_bare l s u y t (inl r) h = lines_bare l r.6.0 [] r.6.1 r.6.3 y t r.6.6 h
block_bare l s u y t (inr r) h = lines_bare l r.0 [] r.1 r.3 y t r.6 h

-- a block that was read after these is printed
pub record IsPrintedBlock (n : Tables) (l : Limits) (bs : List Block) (s : Names) (u : List Piece) (p : Progress) (t : Names) : Type 0 where
  pub lines : Lines
  pub place : Place
  pub told : grown bs lines.bare (block_of place lines) ≡ p
  pub bare : lines.bare ≡ true → lines.end ≡ ends.Ret None
  pub indexed : Indexed s → Indexed t
  pub fronts : Front true n t → Front true n s
  pub prints : Front true n t → AreSound u → (ms : List Mark) × (block_marks (lines_image lines) ≡ ms) × IsReprinted true n (printed_block l) s (lines_image lines) t ms

pub block_printed : (n : Tables) (i : IndexedTables n) (l : Limits) → PrintsCode n l → (bs : List Block) (s : Names) (u : List Piece) (p : Progress) (t : Names) → (block l bs).reads s u p t → IsPrintedBlock n l bs s u p t
unfolding block
block_printed n i l code_in bs s u p t r =
    let m = mapped (located (either (kind kinds.Label) (labelled l) (unlabelled l))) (λ (x : Place × Lines). grown bs x.1.bare (block_of x.0 x.1)) s u p t r in
    let h = prints_block n i l code_in in
    record {
      lines = m.0.1;
      place = m.0.0;
      told = m.2;
      bare = block_bare l s u m.0.1 t m.1.1;
      indexed = h.indexed s u m.0.1 t m.1.1;
      fronts = h.fronts s u m.0.1 t m.1.1;
      prints = h.prints s u m.0.1 t m.1.1;
    }
