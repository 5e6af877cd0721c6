-- Bodies are printed block by block.
use Rattle.std.proofs.Common.{◌≡◌, ◌⊎◌, inl, inr, refl, sym, ap, ◌∙◌, subst, ℕ, Bool, true, false, List, [], ◌∷◌, ◌++◌, map}
use Rattle.std.specs.Prelude.{Option, Some, None}
use Rattle.std.specs.List.{flat_map}
use Rattle.std.proofs.lemmas.List.{append_assoc, append-nil, map-append}
use Rattle.ir_lexer.specs.declared.table.Token.TheVariants as tokens
use Rattle.ir_core.specs.declared.op.Operand.{Operand}
use Rattle.ir_core.specs.declared.op.End.{End}
use Rattle.ir_core.specs.declared.op.End.TheVariants as ends
use Rattle.ir_core.specs.declared.func.Block.{Block}
use Rattle.ir_core.specs.Places.{unplaced_block}
use Rattle.ir_grammar.specs.declared.parts.Progress.{Progress}
use Rattle.ir_grammar.specs.Pieces.{Piece}
use Rattle.ir_grammar.specs.Names.{Names}
use Rattle.ir_grammar.specs.Forms.{Form, ret, ◌>>=◌}
use Rattle.ir_grammar.specs.Tokens.{Limits, sign}
use Rattle.ir_grammar.specs.Values.{value}
use Rattle.ir_grammar.specs.Attributes.{notes}
use Rattle.ir_grammar.specs.Bodies.{block_of, grown, block, valued, settled, next_block, next_set, all_blocks, last_blocks, more_blocks, body}
use Rattle.ir_printer.specs.declared.words.Word.TheVariants as words
use Rattle.ir_printer.specs.declared.marks.Sign.TheVariants as signs
use Rattle.ir_printer.specs.declared.marks.Mark.{Mark}
use Rattle.ir_printer.specs.declared.marks.Mark.TheVariants as marks
use Rattle.ir_printer.specs.Layout.{Tables}
use Rattle.ir_printer.specs.Marks.{instr_marks, value_marks, end_marks, block_marks, body_marks}
use Rattle.ir_printer.specs.Reprints.{Front, AreSound, IsReprinted}
use Rattle.ir_printer.proofs.Reprinting.{IndexedTables, Prints, prints_then, prints_done, prints_in, reprinted_in, reprinted_then, sound_first, sound_last}
use Rattle.ir_printer.proofs.Images.{PrintsAs, as_next, as_done, as_line, Round, as_rounds}
use Rattle.ir_printer.proofs.TokensReprinted.{prints_expect, prints_drop}
use Rattle.ir_printer.proofs.ValuesReprinted.{prints_value}
use Rattle.ir_printer.proofs.QuietForms.{quiet_notes}
use Rattle.ir_printer.proofs.BlocksAfter.{noted_value, after_is}
use Rattle.ir_printer.proofs.BlocksReprinted.{lines_image, IsPrintedBlock, block_printed}
use Rattle.ir_printer.proofs.PrintedForms.{is_bare, with_block, printed_block, printed_value, printed_next, printed_blocks, PrintsCode, PrintsBody}
use Rattle.ir_printer.proofs.RoundsReprinted.{flat_more}

-- one more part
-- ---- what stands for what

-- where a block of the text waits for a value, its image waits
abbrev pub Waits : List Block → Option Block → Progress → Type 0
Waits bs None q = Unit {0}
Waits bs (Some b) q = (q ≡ record { done = map unplaced_block bs; waits = Some (unplaced_block b) }) × (b.end ≡ ends.Ret None)

-- the printed blocks are those of the text without places
abbrev pub Stands : Progress → Progress → Type 0
Stands p q = (map unplaced_block (all_blocks p.done p.waits) ≡ all_blocks q.done q.waits) × Waits p.done p.waits q

grown_all : (bs : List Block) (w : Bool) (b : Block) → all_blocks (grown bs w b).done (grown bs w b).waits ≡ bs ++ b ∷ []
grown_all bs true b = refl
grown_all bs false b = refl

-- one more block
grown_stands : (bs cs : List Block) (w : Bool) (b : Block) → map unplaced_block bs ≡ cs → (w ≡ true → b.end ≡ ends.Ret None) → Stands (grown bs w b) (with_block cs (unplaced_block b))
grown_stands bs cs w b e h = at w h
  where
    all : map unplaced_block (bs ++ b ∷ []) ≡ all_blocks (with_block cs (unplaced_block b)).done (with_block cs (unplaced_block b)).waits
    all = map-append unplaced_block bs (b ∷ []) ∙ ap (λ (xs : List Block). xs ++ unplaced_block b ∷ []) e ∙ sym (grown_all cs (is_bare b.end) (unplaced_block b))

    at : (v : Bool) → (v ≡ true → b.end ≡ ends.Ret None) → Stands (grown bs v b) (with_block cs (unplaced_block b))
    at true g = (all, (ap (λ (x : End). grown cs (is_bare x) (unplaced_block b)) (g refl) ∙ ap (λ (xs : List Block). record { done = xs; waits = Some (unplaced_block b) }) (sym e), g refl))
    at false g = (all, tt)

-- the value of the last block
settled_stands : (bs : List Block) (b : Block) (v : Operand) → Stands (settled bs b v) (settled (map unplaced_block bs) (unplaced_block b) v)
settled_stands bs b v = (map-append unplaced_block bs (valued b v ∷ []), tt)

-- ---- marks

-- the marks of the blocks so far
abbrev pub so_far : Progress → List Mark
so_far q = marks.Spaced signs.OpenCurly ∷ flat_map block_marks (all_blocks q.done q.waits)

more_marks : (cs : List Block) (b : Block) → so_far (with_block cs b) ≡ (marks.Spaced signs.OpenCurly ∷ flat_map block_marks cs) ++ block_marks b
more_marks cs b = ap (λ (xs : List Block). marks.Spaced signs.OpenCurly ∷ flat_map block_marks xs) (grown_all cs (is_bare b.end) b) ∙ ap (λ (ms : List Mark). marks.Spaced signs.OpenCurly ∷ ms) (flat_more block_marks cs b)

void_marks : (a b c d e : Mark) (is vs : List Mark) → a ∷ b ∷ (is ++ (c ∷ d ∷ e ∷ vs)) ≡ (a ∷ b ∷ (is ++ (c ∷ d ∷ e ∷ []))) ++ vs
void_marks a b c d e is vs = simp append_assoc

valued_marks : (b : Block) (v : Operand) → b.end ≡ ends.Ret None → block_marks (valued b v) ≡ block_marks b ++ value_marks v
valued_marks b v h =
    void_marks marks.Line (marks.Label b.label) marks.Indented (marks.Word words.Ret) (marks.Word words.Void) (flat_map instr_marks b.code) (value_marks v)
    ∙ ap (λ (x : End). (marks.Line ∷ marks.Label b.label ∷ (flat_map instr_marks b.code ++ marks.Indented ∷ end_marks x)) ++ value_marks v) (sym h)

settled_marks : (bs : List Block) (b : Block) (v : Operand) → b.end ≡ ends.Ret None → so_far (settled bs b v) ≡ so_far (record { done = bs; waits = Some b }) ++ value_marks v
settled_marks bs b v h =
    ap (λ (ms : List Mark). marks.Spaced signs.OpenCurly ∷ ms) (flat_more block_marks bs (valued b v) ∙ ap (λ (ms : List Mark). flat_map block_marks bs ++ ms) (valued_marks b v h)
    ∙ sym (append_assoc (flat_map block_marks bs) (block_marks b) (value_marks v)) ∙ ap (λ (ms : List Mark). ms ++ value_marks v) (sym (flat_more block_marks bs b)))

-- ---- forms

-- a value is made of what is reprinted
reprinted_mapped : {A B : Type 0} (inside : Bool) (n : Tables) (f : Form A) (h : A → B) (s : Names) (a : A) (t : Names) (ms : List Mark) → IsReprinted inside n f s a t ms → IsReprinted inside n (f >>= λ x. ret (h x)) s (h a) t ms
reprinted_mapped inside n f h s a t ms m = record {
  ready = m.ready;
  counted = m.counted;
  spellable = m.spellable;
  rereads = λ s2 us front ready are. (let r = m.rereads s2 us front ready are in (r.0, (a, r.0, us, [], sym (append-nil us), r.1, (refl, refl)), r.2, r.3));
}

-- a value, and notes after it
abbrev value_alone : Limits → Form Operand
value_alone l = value l >>= λ v. notes >>= λ e. ret v

prints_value_alone : {n : Tables} → IndexedTables n → (l : Limits) → Prints true n (value_alone l) (value l) [] value_marks
prints_value_alone {n = n} i l = prints_in (prints_then {g2 = λ (v : Operand). ret v} (prints_value i l) (λ (v : Operand). prints_drop notes quiet_notes (prints_done refl))) back
  where
    back : (s : Names) (u : List Piece) (v : Operand) (t : Names) → (value l >>= λ x. ret x).reads s u v t → (value l).reads s u v t
    back s u v t r =
        let whole : u ≡ r.2 = r.4 ∙ ap (λ (w : List Piece). r.2 ++ w) r.6.0 ∙ append-nil r.2 in
        subst (λ (w : List Piece). (value l).reads s w v t) (sym whole) (subst (λ (x : Operand × Names). (value l).reads s r.2 x.0 x.1) r.6.1 r.5)

-- ---- one round

module _ (n : Tables) (i : IndexedTables n) (l : Limits) (code_in : PrintsCode n l) where
  abbrev One : Names → List Piece → Progress → Progress → Names → Type 0
  One s u q p1 t = Round true n (λ (x : Progress). printed_next l x) so_far Stands s u q p1 t

  block_round : (bs : List Block) (q : Progress) (s : Names) (u : List Piece) (p1 : Progress) (t : Names) → map unplaced_block bs ≡ all_blocks q.done q.waits → IsPrintedBlock n l bs s u p1 t → One s u q p1 t
  block_round bs q s u p1 t e h =
      let b = lines_image h.lines in
      let cs = all_blocks q.done q.waits in
      record {
        state = with_block cs b;
        stands = subst (λ (x : Progress). Stands x (with_block cs b)) h.told (grown_stands bs cs h.lines.bare (block_of h.place h.lines) e h.bare);
        indexed = h.indexed;
        fronts = h.fronts;
        prints = λ front sound. (let m = h.prints front sound in (
          m.0,
          more_marks cs b ∙ ap (λ (ms : List Mark). so_far q ++ ms) m.1,
          reprinted_in true n (printed_block l >>= λ b. ret (with_block (all_blocks q.done q.waits) b)) (printed_next l q) (λ s2 us x t2 r. inl r) s (with_block cs b) t m.0
              (reprinted_mapped true n (printed_block l) (λ (x : Block). with_block cs x) s b t m.0 m.2),
        ));
      }

  value_round : (bs : List Block) (b : Block) (q : Progress) (s : Names) (u : List Piece) (p1 : Progress) (t : Names) → Waits bs (Some b) q → (noted_value l bs b).reads s u p1 t → One s u q p1 t
  value_round bs b q s u p1 t w r =
      let cs = map unplaced_block bs in
      let d = unplaced_block b in
      let v = r.0 in
      let told : settled bs b v ≡ p1 = ap (λ (x : Progress × Names). x.0) r.6.6.1 in
      let alone : (value_alone l).reads s u v t = (v, r.1, r.2, r.3, r.4, r.5, (r.6.0, r.6.1, r.6.2, r.6.3, r.6.4, r.6.5, (r.6.6.0, ap (λ (x : Progress × Names). (v, x.1)) r.6.6.1))) in
      let h = prints_value_alone i l in
      record {
        state = settled cs d v;
        stands = subst (λ (x : Progress). Stands x (settled cs d v)) told (settled_stands bs b v);
        indexed = h.indexed s u v t alone;
        fronts = h.fronts s u v t alone;
        prints = λ front sound. (let m = h.prints s u v t alone front sound in (
          m.0,
          settled_marks cs d v w.1 ∙ ap (λ (x : Progress). so_far x ++ value_marks v) (sym w.0) ∙ ap (λ (ms : List Mark). so_far q ++ ms) m.1,
          subst (λ (x : Progress). IsReprinted true n (printed_next l x) s (settled cs d v) t m.0) (sym w.0)
              (reprinted_in true n (printed_value l cs (Some d)) (printed_next l (record { done = cs; waits = Some d })) (λ s2 us x t2 y. inr y) s (settled cs d v) t m.0
              (reprinted_mapped true n (value l) (λ (x : Operand). settled cs d x) s v t m.0 m.2)),
        ));
      }

  next_round : (bs : List Block) (o : Option Block) (q : Progress) (s : Names) (u : List Piece) (p1 : Progress) (t : Names) → Stands (record { done = bs; waits = o }) q → (next_block l bs o).reads s u p1 t → One s u q p1 t
  next_round bs None q s u p1 t stands r = block_round bs q s u p1 t stands.0 (block_printed n i l code_in bs s u p1 t r)
  next_round bs (Some b) q s u p1 t stands r = at (after_is l bs b s u p1 t r)
    where
      at : (block l (bs ++ b ∷ [])).reads s u p1 t ⊎ (noted_value l bs b).reads s u p1 t → One s u q p1 t
      at (inl x) = block_round (bs ++ b ∷ []) q s u p1 t stands.0 (block_printed n i l code_in (bs ++ b ∷ []) s u p1 t x)
      at (inr x) = value_round bs b q s u p1 t stands.1 x

  last_marks : (cs : List Block) → body_marks cs ≡ ((marks.Spaced signs.OpenCurly ∷ flat_map block_marks cs) ++ marks.Line ∷ []) ++ marks.Spaced signs.CloseCurly ∷ []
  last_marks cs = ap (λ (ms : List Mark). marks.Spaced signs.OpenCurly ∷ ms) (sym (append_assoc (flat_map block_marks cs) (marks.Line ∷ []) (marks.Spaced signs.CloseCurly ∷ [])))

  prints_last : (p q : Progress) → Stands p q → PrintsAs true n (map unplaced_block) (last_blocks p) (last_blocks q) (so_far q) body_marks
  prints_last p q stands =
      as_line marks.Line refl (as_next (prints_expect (sign 125) (marks.Spaced signs.CloseCurly) (tokens.Sign 125) refl tt refl refl) (λ (c : Unit {0}).
      as_done stands.0 (last_marks (all_blocks q.done q.waits))))

  prints_blocks : (p q : Progress) → Stands p q → PrintsAs true n (map unplaced_block) (more_blocks l p) (printed_blocks l q) (so_far q) body_marks
  unfolding more_blocks
  prints_blocks p q stands =
      as_rounds (λ (x : Progress). next_block l x.done x.waits) (λ (x : Progress). last_blocks x) (λ (x : Progress). printed_next l x) (λ (x : Progress). last_blocks x)
      (λ (x : Progress). next_set x.waits) (λ (x : Progress). next_set x.waits) so_far Stands
      (λ x y s u x1 t h r. inr (next_round x.done x.waits y s u x1 t h r)) prints_last p q stands

  abbrev After : Names → List Piece → List Block → Names → Type 0
  After s u bs t = (block l [] >>= λ p. more_blocks l p).reads s u bs t

  abbrev printed_after : Form (List Block)
  printed_after = printed_block l >>= λ b. printed_blocks l (with_block [] b)

  first_block : (s : Names) (u : List Piece) (bs : List Block) (t : Names) → (r : After s u bs t) → IsPrintedBlock n l [] s r.2 r.0 r.1
  first_block s u bs t r = block_printed n i l code_in [] s r.2 r.0 r.1 r.5

  -- the printed state after the first block
  after_first : (s : Names) (u : List Piece) (bs : List Block) (t : Names) → (r : After s u bs t) → PrintsAs true n (map unplaced_block) (more_blocks l r.0) (printed_blocks l (with_block [] (lines_image (first_block s u bs t r).lines))) (so_far (with_block [] (lines_image (first_block s u bs t r).lines))) body_marks
  after_first s u bs t r =
      let h = first_block s u bs t r in
      prints_blocks r.0 (with_block [] (lines_image h.lines)) (subst (λ (x : Progress). Stands x (with_block [] (lines_image h.lines))) h.told (grown_stands [] [] h.lines.bare (block_of h.place h.lines) refl h.bare))

  after_printed : (s : Names) (u : List Piece) (bs : List Block) (t : Names) → (r : After s u bs t) → Front true n t → AreSound (r.2 ++ r.3) →
      (ms : List Mark) × (body_marks (map unplaced_block bs) ≡ (marks.Spaced signs.OpenCurly ∷ []) ++ ms) × IsReprinted true n printed_after s (map unplaced_block bs) t ms
  after_printed s u bs t r front sound =
      let h = first_block s u bs t r in
      let b = lines_image h.lines in
      let m = after_first s u bs t r in
      let one = h.prints (m.fronts r.1 r.3 bs t r.6 front) (sound_first r.2 r.3 sound) in
      let more = m.prints r.1 r.3 bs t r.6 front (sound_last r.2 r.3 sound) in (
        one.0 ++ more.0,
        more.1 ∙ ap (λ (ms : List Mark). ms ++ more.0) (more_marks [] b) ∙ ap (λ (ms : List Mark). marks.Spaced signs.OpenCurly ∷ (ms ++ more.0)) one.1,
        reprinted_then true n (printed_block l) (λ (x : Block). printed_blocks l (with_block [] x)) s b r.1 (map unplaced_block bs) t one.0 more.0 one.2 more.2,
      )

  prints_beyond : PrintsAs true n (map unplaced_block) (block l [] >>= λ p. more_blocks l p) printed_after (marks.Spaced signs.OpenCurly ∷ []) body_marks
  prints_beyond = record {
    indexed = λ s u bs t r x. (after_first s u bs t r).indexed r.1 r.3 bs t r.6 ((first_block s u bs t r).indexed x);
    fronts = λ s u bs t r x. (first_block s u bs t r).fronts ((after_first s u bs t r).fronts r.1 r.3 bs t r.6 x);
    prints = λ s u bs t r front sound. after_printed s u bs t r front (subst AreSound r.4 sound);
  }

  prints_whole : PrintsBody n l
  unfolding body
  prints_whole = as_next (prints_expect (sign 123) (marks.Spaced signs.OpenCurly) (tokens.Sign 123) refl tt refl refl) (λ (o : Unit {0}). prints_beyond)

pub prints_body : {n : Tables} → IndexedTables n → (l : Limits) → PrintsCode n l → PrintsBody n l
prints_body {n = n} i l code_in = prints_whole n i l code_in
