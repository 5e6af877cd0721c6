-- A printed body is read as a body, with some places.
use Rattle.std.proofs.Common.{◌≡◌, inl, inr, refl, sym, ap, ◌∙◌, subst, ℕ, zero, suc, Bool, true, false, List, [], ◌∷◌, ◌++◌, map}
use Rattle.std.specs.Prelude.{Option, Some, None}
use Rattle.std.proofs.lemmas.List.{append-nil, map-append}
use Rattle.oi_base.specs.declared.ids.Place.{Place}
use Rattle.ir_core.specs.declared.constant.Const.{Const}
use Rattle.ir_core.specs.declared.op.LocalId.{LocalId}
use Rattle.ir_core.specs.declared.op.Operand.{Operand}
use Rattle.ir_core.specs.declared.op.Operand.TheVariants as operands
use Rattle.ir_core.specs.declared.op.End.{End}
use Rattle.ir_core.specs.declared.func.Instr.{Instr}
use Rattle.ir_core.specs.declared.func.Block.{Block}
use Rattle.ir_core.specs.Places.{no_place, unplaced_block}
use Rattle.ir_grammar.specs.declared.parts.Lines.{Lines}
use Rattle.ir_grammar.specs.declared.parts.Progress.{Progress}
use Rattle.ir_grammar.specs.Pieces.{Piece}
use Rattle.ir_grammar.specs.Names.{Names, local}
use Rattle.ir_grammar.specs.Forms.{Form, ◌>>=◌, Rounds, place_of}
use Rattle.ir_grammar.specs.Tokens.{Limits}
use Rattle.ir_grammar.specs.Values.{gep, constant, const_at, local_value, value}
use Rattle.ir_grammar.specs.Bodies.{finish, lines, labelled, block_of, grown, block, valued, settled, local_after, gep_after, value_after, other_block, after_void, next_block, all_blocks, last_blocks, more_blocks, body}
use Rattle.ir_printer.proofs.QuietForms.{silent_notes}
use Rattle.ir_printer.proofs.EndsReprinted.{printed_end_in}
use Rattle.ir_printer.proofs.BlocksAfter.{mapped}
use Rattle.ir_printer.proofs.BlocksReprinted.{lines_image, printed_lines}
use Rattle.ir_printer.proofs.PrintedForms.{printed_end, is_bare, with_block, printed_block, printed_next, printed_blocks, RereadsCode, RereadsBody}

-- ---- places

abbrev pub waiting : Option Block → Option Block
waiting None = None
waiting (Some b) = Some (unplaced_block b)

abbrev pub unplaced_progress : Progress → Progress
unplaced_progress p = record { done = map unplaced_block p.done; waits = waiting p.waits }

all_image : (bs : List Block) (o : Option Block) → map unplaced_block (all_blocks bs o) ≡ all_blocks (map unplaced_block bs) (waiting o)
all_image bs None = refl
all_image bs (Some b) = map-append unplaced_block bs (b ∷ [])

grown_image : (bs : List Block) (w : Bool) (b : Block) → unplaced_progress (grown bs w b) ≡ grown (map unplaced_block bs) w (unplaced_block b)
grown_image bs true b = refl
grown_image bs false b = ap (λ (xs : List Block). record { done = xs; waits = None }) (map-append unplaced_block bs (b ∷ []))

settled_image : (bs : List Block) (b : Block) (v : Operand) → unplaced_progress (settled bs b v) ≡ settled (map unplaced_block bs) (unplaced_block b) v
settled_image bs b v = grown_image bs false (valued b v)

-- ---- values

module _ (l : Limits) (bs : List Block) (b : Block) where
  abbrev After : Names → List Piece → Operand → Names → Type 0
  After s u v t = (after_void l bs b).reads s u (settled bs b v) t

  local_after_void : (s : Names) (u : List Piece) (v : Operand) (t : Names) → local_value.reads s u v t → After s u v t
  unfolding after_void local_after local_value
  local_after_void s u v t r =
      let x = local r.0 r.1 in
      inl ((place_of r.2, r.0), r.1, r.2, r.3, r.4, (refl, r.5), inr (x.0, x.1, [], r.3, refl, (refl, refl), (tt, x.1, [], r.3, refl, silent_notes x.1, (r.6.0, ap (λ (y : Operand × Names). (settled bs b y.0, y.1)) r.6.1))))

  constant_after_void : (s : Names) (u : List Piece) (c : Const) (t : Names) → (constant l).reads s u c t → After s u (operands.Const c) t
  unfolding after_void gep_after value_after constant const_at gep
  constant_after_void s u c t (inl r) = inr (inr (inl (c, t, u, [], sym (append-nil u), inl r, (tt, t, [], [], refl, silent_notes t, (refl, refl)))))
  constant_after_void s u c t (inr (inl r)) =
      let q = r.6 in
      inr (inl ((place_of r.2, r.0), r.1, r.2, r.3, r.4, (refl, r.5), (q.0, q.1, q.2, q.3, q.4, q.5, inl (c, t, q.3, [], sym (append-nil q.3), q.6, (tt, t, [], [], refl, silent_notes t, (refl, refl))))))
  constant_after_void s u c t (inr (inr (inl r))) = inr (inr (inl (c, t, u, [], sym (append-nil u), inr (inl r), (tt, t, [], [], refl, silent_notes t, (refl, refl)))))
  constant_after_void s u c t (inr (inr (inr r))) = inr (inr (inl (c, t, u, [], sym (append-nil u), inr (inr r), (tt, t, [], [], refl, silent_notes t, (refl, refl)))))

  value_after_void : (s : Names) (u : List Piece) (v : Operand) (t : Names) → (value l).reads s u v t → After s u v t
  unfolding value
  value_after_void s u v t (inl r) = local_after_void s u v t r
  value_after_void s u v t (inr r) = let m = mapped (constant l) operands.Const s u v t r in subst (λ (x : Operand). After s u x t) m.2 (constant_after_void s u m.0 t m.1)

-- ---- blocks

module _ (l : Limits) (code_in : RereadsCode l) where
  -- lines of the grammar without places
  abbrev Read : Form Lines → Names → List Piece → Block → Names → Type 0
  Read g s u x t = (y : Lines) × g.reads s u y t × (lines_image y ≡ x) × (y.bare ≡ is_bare y.end)

  rereads_lines : (b : LocalId) (s : Names) (u : List Piece) (x : Block) (t : Names) → (printed_lines l b).reads s u x t → Read (lines l b []) s u x t
  unfolding lines finish
  rereads_lines b s u x t r =
      let c = code_in [] s r.2 r.0 r.1 r.5 in
      let e = mapped (printed_end l) (λ (y : End). record { place = no_place; label = b; code = r.0; end = y; end_place = no_place }) r.1 r.3 x t r.6 in (
        record { label = b; code = c.0; end = e.0; end_place = place_of r.3; bare = is_bare e.0 },
        (c.0, r.1, r.2, r.3, r.4, c.1, ((place_of r.3, (e.0, is_bare e.0)), t, r.3, [], sym (append-nil r.3), (refl, printed_end_in l r.1 r.3 e.0 t e.1), (refl, refl))),
        ap (λ (is : List Instr). record { place = no_place; label = b; code = is; end = e.0; end_place = no_place }) c.2 ∙ e.2,
        refl,
      )

  rereads_block : (s : Names) (u : List Piece) (x : Block) (t : Names) → (printed_block l).reads s u x t → Read (labelled l) s u x t
  unfolding labelled
  rereads_block s u x t r =
      let q = r.6 in
      let m = rereads_lines q.0 q.1 q.3 x t q.6 in
      (m.0, (r.0, r.1, r.2, r.3, r.4, r.5, (q.0, q.1, q.2, q.3, q.4, q.5, m.1)), m.2, m.3)

  -- blocks of the grammar, and what waits, without places
  abbrev Next : Form Progress → Names → List Piece → Progress → Names → Type 0
  Next g s u q t = (p : Progress) × g.reads s u p t × (unplaced_progress p ≡ q)

  one_image : (bs cs : List Block) (p : Place) (y : Lines) (x : Block) (q : Progress) → map unplaced_block bs ≡ cs → lines_image y ≡ x → y.bare ≡ is_bare y.end → with_block cs x ≡ q → unplaced_progress (grown bs y.bare (block_of p y)) ≡ q
  one_image bs cs p y x q d e g h =
      grown_image bs y.bare (block_of p y) ∙ ap (λ (w : Bool). grown (map unplaced_block bs) w (lines_image y)) g
      ∙ ap (λ (xs : List Block). with_block xs (lines_image y)) d ∙ ap (λ (z : Block). with_block cs z) e ∙ h

  rereads_next : (bs : List Block) (o : Option Block) (s : Names) (u : List Piece) (q : Progress) (t : Names) → (printed_next l (unplaced_progress (record { done = bs; waits = o }))).reads s u q t → Next (next_block l bs o) s u q t
  unfolding block after_void other_block
  rereads_next bs None s u q t (inl r) =
      let m = mapped (printed_block l) (λ (x : Block). with_block (map unplaced_block bs) x) s u q t r in
      let h = rereads_block s u m.0 t m.1 in
      (grown bs h.0.bare (block_of (place_of u) h.0), ((place_of u, h.0), t, u, [], sym (append-nil u), (refl, inl h.1), (refl, refl)), one_image bs (map unplaced_block bs) (place_of u) h.0 m.0 q refl h.2 h.3 m.2)
  rereads_next bs None s u q t (inr r) = absurd cc
  rereads_next bs (Some b) s u q t (inl r) =
      let cs = map unplaced_block bs ++ unplaced_block b ∷ [] in
      let m = mapped (printed_block l) (λ (x : Block). with_block cs x) s u q t r in
      let h = rereads_block s u m.0 t m.1 in (
        grown (bs ++ b ∷ []) h.0.bare (block_of (place_of u) h.0),
        inr (inr (inr ((place_of u, h.0), t, u, [], sym (append-nil u), (refl, inl h.1), (refl, refl)))),
        one_image (bs ++ b ∷ []) cs (place_of u) h.0 m.0 q (map-append unplaced_block bs (b ∷ [])) h.2 h.3 m.2,
      )
  rereads_next bs (Some b) s u q t (inr r) =
      let m = mapped (value l) (λ (v : Operand). settled (map unplaced_block bs) (unplaced_block b) v) s u q t r in
      (settled bs b m.0, value_after_void l bs b s u m.0 t m.1, settled_image bs b m.0 ∙ m.2)

  -- ---- bodies

  abbrev Blocks : ℕ → Progress → Names → List Piece → List Block → Names → Type 0
  Blocks n p s u xs t = Rounds (λ (x : Progress). next_block l x.done x.waits) (λ (x : Progress). last_blocks x) n p s u xs t

  rereads_rounds : (n : ℕ) (p : Progress) (s : Names) (u : List Piece) (xs : List Block) (t : Names) → Rounds (λ (x : Progress). printed_next l x) (λ (x : Progress). last_blocks x) n (unplaced_progress p) s u xs t → (more : List Block) × Blocks n p s u more t × (map unplaced_block more ≡ xs)
  rereads_rounds zero p s u xs t r = (all_blocks p.done p.waits, (r.0, r.1, r.2, r.3, r.4, r.5, (r.6.0, ap (λ (y : List Block × Names). (all_blocks p.done p.waits, y.1)) r.6.1)), all_image p.done p.waits ∙ ap (λ (y : List Block × Names). y.0) r.6.1)
  rereads_rounds (suc n) p s u xs t r =
      let m = rereads_next p.done p.waits s r.2 r.0 r.1 r.5 in
      let more = rereads_rounds n m.0 r.1 r.3 xs t (subst (λ (q : Progress). Rounds (λ (x : Progress). printed_next l x) (λ (x : Progress). last_blocks x) n q r.1 r.3 xs t) (sym m.2) r.6) in
      (more.0, (m.0, r.1, r.2, r.3, r.4, m.1, more.1), more.2)

  rereads_after : (s : Names) (u : List Piece) (xs : List Block) (t : Names) → (printed_block l >>= λ b. printed_blocks l (with_block [] b)).reads s u xs t → (more : List Block) × (block l [] >>= λ p. more_blocks l p).reads s u more t × (map unplaced_block more ≡ xs)
  unfolding block more_blocks
  rereads_after s u xs t r =
      let h = rereads_block s r.2 r.0 r.1 r.5 in
      let p = grown [] h.0.bare (block_of (place_of r.2) h.0) in
      let same : unplaced_progress p ≡ with_block [] r.0 = one_image [] [] (place_of r.2) h.0 r.0 (with_block [] r.0) refl h.2 h.3 refl in
      let more = rereads_rounds r.6.0 p r.1 r.3 xs t (subst (λ (q : Progress). Rounds (λ (x : Progress). printed_next l x) (λ (x : Progress). last_blocks x) r.6.0 q r.1 r.3 xs t) (sym same) r.6.1) in
      (more.0, (p, r.1, r.2, r.3, r.4, ((place_of r.2, h.0), r.1, r.2, [], sym (append-nil r.2), (refl, inl h.1), (refl, refl)), (r.6.0, more.1)), more.2)

  rereads_whole : RereadsBody l
  unfolding body
  rereads_whole s u xs t r = let m = rereads_after r.1 r.3 xs t r.6 in (m.0, (r.0, r.1, r.2, r.3, r.4, r.5, m.1), m.2)

pub rereads_body : (l : Limits) → RereadsCode l → RereadsBody l
rereads_body l code_in = rereads_whole l code_in
