-- From the load through the stub's call and the entry of `main` to a state that stands for the start of the run.
use Rattle.std.proofs.Common.{◌≡◌, ℕ, ◌+◌, ◌-◌, ◌*◌, ◌/◌, ◌%◌, ◌<◌, ◌≤◌, refl, sym, ap, ap₂, ◌∙◌, subst, inl, arith, true, List, [], ◌∷◌, ◌++◌, length, length-append, Option, Some, None, All, pos, slice_get}
use Rattle.std.proofs.lemmas.Bool.Decides.{nat_tests}
use Rattle.std.proofs.lemmas.List.{append-nil}
use Rattle.std.proofs.lemmas.Option.{slice_get_within}
use Rattle.ir_core.specs.declared.flat.FlatBody.{FlatBody}
use Rattle.ir_core.specs.declared.flat.FlatBlock.{FlatBlock}
use Rattle.ir_core.specs.declared.flat.Phi.{Phi}
use Rattle.ir_core.specs.Memory.{Value, Block}
use Rattle.ir_core.specs.Flat.{Program, flat_start}
use Rattle.frame_layout.specs.Frame.{frame, frame_of}
use Rattle.frame_layout.specs.Laws.{LieApart}
use Rattle.frame_layout.proofs.HomeLaws.{lie_apart}
use Rattle.rv_isa.specs.declared.rv.Rv.{Rv}
use Rattle.rv_isa.specs.declared.rv.Rv.TheVariants as rv
use Rattle.rv_isa.specs.Arithmetic.{to_word, wrapping_add}
use Rattle.rv_isa.specs.Memory.{Segments, read, write, in_text, bytes_at_load, text_start, stack_start, stack_end}
use Rattle.rv_isa.specs.Isa.{Machine, Running, executed, loaded, offset, with_register}
use Rattle.rv_isa.specs.Laws.{Kept, Holds}
use Rattle.rv_isa.proofs.Stretches.{kept_at_load, Path, one_turn, join}
use Rattle.rv_isa.proofs.Bytes.{read_back, write_outside}
use Rattle.rv_select.specs.declared.item.Draft.{Draft}
use Rattle.rv_select.specs.Parts.{hi, lo, frame_down, open_frame}
use Rattle.rv_select.specs.Branches as branches
use Rattle.rv_select.specs.Code.{drafts, longs}
use Rattle.rv_select.specs.Pending.{words}
use Rattle.rv_select.specs.Lowered.{prologue, blocks_from}
use Rattle.rv_select.specs.Linked.{distance}
use Rattle.rv_select.specs.Stands.{Object, body_in, drafts_in_block, drafts_to, IsByteOf, BlockStands, goes_on, StandsFor, CodeIsLaid, IsLaid}
use Rattle.rv_select.proofs.Halves.{upper, hi_base_lo_wraps, distance_leads}
use Rattle.rv_select.proofs.Homes.{bytes_same}
use Rattle.rv_select.proofs.Items.{begin, sets_runs, executes_at, with_same, with_other}
use Rattle.rv_select.proofs.Placing.{PartOf, IsAt, words_stand}
use Rattle.rv_select.proofs.Entry.{opened}

no_value : {v : Value} → None ≡ Some v → ⊥
no_value e = cc

module _ (s : Segments) (m : Machine) (kept : Kept s m) where
  -- the machine that a call leads to: its pc, and the address after the call in ra
  pub record Called (m' : Machine) (target back sp : ℕ) : Type 0 where
    pub path : Path s m m'
    pub pc_is : m'.pc ≡ target
    pub running : m'.stop ≡ Running
    pub memory : m'.memory ≡ m.memory
    pub input : m'.input ≡ m.input
    pub output : m'.output ≡ m.output
    pub sp_is : m'.registers 2 ≡ sp
    pub ra_is : m'.registers 1 ≡ back

  base_first : (a u : ℕ) → wrapping_add a u ≡ wrapping_add u a
  base_first a u = omega arith

  even : (a : ℕ) → a % 4 ≡ 0 → a / 2 * 2 ≡ a
  even a h = omega arith

  -- `auipc` and `jalr`, to an address before or after
  pub call_runs : (pc to sp : ℕ) → m.stop ≡ Running → m.pc ≡ pc → m.registers 2 ≡ sp → pc < 4294967296 → to < 4294967296 → to % 4 ≡ 0 → Holds s pc (rv.Auipc 1 (hi (distance pc to)) ∷ rv.Jalr 1 1 (lo (distance pc to)) ∷ []) → (m' : Machine) × Called m' to (pc + 8) sp
  call_runs pc to sp running at_pc at_sp low high aligned has =
      let d = distance pc to in
      let u = upper d in
      let g = sets_runs s m kept m pc sp (wrapping_add u pc) (rv.Auipc 1 (hi d)) 1 (λ e. absurd (omega arith)) (begin s m pc sp running at_pc at_sp) has.0 (ap (λ (a : ℕ). let r = m in record r { pc = r.pc + 4; registers = with_register r.registers 1 a }) (ap (λ (a : ℕ). wrapping_add a u) at_pc ∙ base_first pc u)) in
      let i = rv.Jalr 1 1 (lo d) in
      let leads : wrapping_add (wrapping_add u pc) (to_word (lo d)) ≡ to = hi_base_lo_wraps d pc (omega arith) low ∙ distance_leads pc to low high in
      let target : offset (g.after.registers 1) (lo d) / 2 * 2 ≡ to = ap (λ (a : ℕ). wrapping_add a (to_word (lo d)) / 2 * 2) g.value ∙ ap (λ (a : ℕ). a / 2 * 2) leads ∙ even to aligned in
      let m' : Machine = record g.after { pc = to; registers = with_register g.after.registers 1 (g.after.pc + 4) } in
      let does : executed s g.after i ≡ m' = ap (λ (a : ℕ). let r = g.after in record r { pc = a; registers = with_register r.registers 1 (r.pc + 4) }) target in (
        m',
        record {
          path = join s m g.after m' g.mid.output g.mid.path (one_turn s g.after m' g.mid.running (executes_at s m kept g.after (pc + 4) sp i g.mid has.1.0 ∙ does));
          pc_is = refl;
          running = g.mid.running;
          memory = g.mid.memory;
          input = g.mid.input;
          output = g.mid.output;
          sp_is = with_other g.after.registers 1 (g.after.pc + 4) 2 (λ e. absurd (omega arith)) ∙ g.mid.sp_is;
          ra_is = with_same g.after.registers 1 (g.after.pc + 4) ∙ ap (λ (a : ℕ). a + 4) g.mid.pc_is ∙ (let z : pc + 4 + 4 ≡ pc + 8 = omega arith in z);
        },
      )

module _ (o : Object) (p : Program) (laid : IsLaid o p) (input : List ℕ) (input_bytes : All (λ (b : ℕ). b < 256) input) (has_main : p.body p.main ≡ Some (body_in p p.main)) (no_parameters : (body_in p p.main).params ≡ 0) where
  abbrev s : Segments
  s = o.segments

  abbrev body : FlatBody
  body = body_in p p.main

  abbrev size : ℕ
  size = frame body

  abbrev entry : ℕ
  entry = o.link.entry p.main

  abbrev first : Machine
  first = loaded s input

  code : CodeIsLaid o p.main body
  code = laid.codes p.main body has_main

  apart : LieApart body
  apart = lie_apart body code.formed

  -- the first instruction of a code that isn't empty is aligned
  code_aligned : (pc : ℕ) (cs : List Rv) → 0 < length cs → Holds s pc cs → (pc % 4 ≡ 0) × (pc < 4294967296)
  code_aligned pc [] h has = absurd (omega arith)
  code_aligned pc (i ∷ cs) h has = let low = has.0.low in (has.0.aligned, omega arith)

  -- nothing stands in the first block before its first instruction
  none_before : (k : FlatBlock) → k.phis ≡ [] → slice_get body.blocks 0 ≡ Some k → drafts_to body 0 0 ≡ prologue (frame_of body) body.params
  none_before k none e =
      ap (λ (x : Option FlatBlock). (prologue (frame_of body) body.params ++ []) ++ drafts_in_block (frame_of body) x 0) e
      ∙ ap (λ (fs : List Phi). (prologue (frame_of body) body.params ++ []) ++ drafts_in_block (frame_of body) (Some (record { phis = fs; code = []; end = k.end })) 0) none
      ∙ append-nil (prologue (frame_of body) body.params ++ [])
      ∙ append-nil (prologue (frame_of body) body.params)

  prologue_is : prologue (frame_of body) body.params ≡ words (open_frame size)
  prologue_is = ap (prologue (frame_of body)) no_parameters ∙ append-nil (words (open_frame (frame_of body).bytes)) ∙ ap (λ (n : ℕ). words (open_frame n)) (bytes_same body)

  open_is : IsAt s entry (entry + branches.place (longs (frame_of body) body) (length (drafts_to body 0 0))) (open_frame size)
  open_is =
      let fr = frame_of body in
      let formed = code.formed.formed in
      let before = none_before formed.entry.0 formed.entry.2 formed.entry.1 in
      let part : PartOf (drafts fr body) [] (words (open_frame size)) = record { rest = blocks_from fr body.blocks 0 body.blocks; is = ap (λ ds. ds ++ blocks_from fr body.blocks 0 body.blocks) prologue_is } in
      let h = words_stand o p.main body code [] (open_frame size) part in
      let zero : entry + branches.place (longs fr body) 0 ≡ entry = omega arith in (
        subst (λ n. Holds s n (open_frame size)) zero h.0,
        ap (λ n. n + 4 * length (open_frame size)) (sym zero) ∙ h.1 ∙ ap (λ (ds : List Draft). entry + branches.place (longs fr body) (length ds)) (sym (before ∙ prologue_is)),
      )

  entry_at : (entry % 4 ≡ 0) × (entry < 4294967296)
  entry_at = code_aligned entry (open_frame size) (let h = length-append (frame_down size) (rv.Sw 2 1 (pos 0) ∷ []) in omega arith) open_is.0

  text_below : (a q : ℕ) → stack_start ≤ q → in_text s a 1 ≡ true → a < q
  text_below a q low h = let text = laid.text in grind (arith, nat_tests)

  one_block : (x : Option Block) (b c : Block) → x ≡ Some b → x ≡ Some c → c ≡ b
  one_block x b c e f = let both : Some c ≡ Some b = sym f ∙ e in cc

  -- what the write of the return address leaves is the start
  stands : (m' : Machine) → m'.pc ≡ goes_on o p (flat_start p input).top → m'.stop ≡ Running → m'.memory ≡ write (bytes_at_load s) 4 (stack_end - size) (text_start + 8) → m'.input ≡ input → m'.output ≡ [] → m'.registers 2 ≡ stack_end - size → StandsFor o p o.link.global_at (flat_start p input) m'
  stands m' at_pc running wrote in_is out_is sp_is =
      let small = code.small in
      let return_address = apart.within.0 in
      let inside = apart.within.1 in
      let whole = apart.whole in
      let a = stack_end - size in
      let low : stack_start ≤ m'.registers 2 = omega (arith, sp_is) in
      record {
        going = refl;
        running = running;
        output = out_is;
        input = in_is;
        input_bytes = input_bytes;
        pc = at_pc;
        kept = λ q h. ap (λ (f : ℕ → ℕ). f q) wrote ∙ write_outside (bytes_at_load s) 4 a (text_start + 8) q (inl (text_below q a (omega arith) h));
        low = low;
        frames = (
          record {
            body = has_main;
            regs = record { slots = λ r q v is e. absurd (no_value e); allocas = λ r q v is e. absurd (no_value e); homes = λ r v e. absurd (no_value e) };
            return_address = ap₂ (λ (f : ℕ → ℕ) (q : ℕ). read f 4 q) wrote sp_is ∙ read_back (bytes_at_load s) 4 a (text_start + 8);
          },
          (let z : m'.registers 2 + size ≡ stack_end = omega (arith, sp_is) in z),
        );
        blocks = λ i b e live. block_at i b e (laid.globals.blocks i b e);
        owners = λ i b e live. inl (slice_get_within p.globals i b e);
        globals = λ g h. refl;
        sizes = λ g b c e f. ap (λ (x : Block). length x.bytes) (one_block _ b c e f);
        more = omega arith;
        regs_made = (λ r v e. absurd (no_value e), tt);
        pointers = laid.globals.pointers;
      }
    where
      block_at : (i : ℕ) (b : Block) → slice_get p.globals i ≡ Some b → BlockStands p.globals o.link.global_at (bytes_at_load s) i b → BlockStands p.globals o.link.global_at m'.memory i b
      block_at i b e k = record {
        each = λ j c at_j.
            let small = code.small in
            let few = laid.data_bytes in
            let high = (laid.globals.inside i b e).1 in
            let lt = slice_get_within b.bytes j c at_j in
            let same : m'.memory (o.link.global_at i + j) ≡ bytes_at_load s (o.link.global_at i + j) = ap (λ (f : ℕ → ℕ). f (o.link.global_at i + j)) wrote ∙ write_outside (bytes_at_load s) 4 (stack_end - size) (text_start + 8) (o.link.global_at i + j) (inl (omega arith)) in
            subst (λ y. IsByteOf p.globals o.link.global_at c y) (sym same) (k.each j c at_j);
        aligned = k.aligned;
      }

  -- from the load, quietly, to where the machine stands for the start of the run
  pub record Started : Type 0 where
    pub after : Machine
    pub path : Path s first after
    pub stands : StandsFor o p o.link.global_at (flat_start p input) after

  pub starts : Started
  starts =
      let start = laid.start in
      let small = code.small in
      let return_address = apart.within.0 in
      let inside = apart.within.1 in
      let kept = kept_at_load s input in
      let has : Holds s text_start (rv.Auipc 1 (hi (distance text_start entry)) ∷ rv.Jalr 1 1 (lo (distance text_start entry)) ∷ []) = (start.0, (start.1.0, tt)) in
      let c = call_runs s first kept text_start entry stack_end refl refl refl (omega arith) entry_at.1 entry_at.0 has in
      let m1 = c.0 in
      let r = c.1 in
      let kept1 : Kept s m1 = λ q h. ap (λ (f : ℕ → ℕ). f q) r.memory ∙ kept q h in
      let w = opened s m1 kept1 entry stack_end size (text_start + 8) r.running r.pc_is r.sp_is r.ra_is small (omega arith) (omega arith) apart.whole (omega arith) (omega arith) open_is.0 in
      record {
        after = w.0;
        path = join s first m1 w.0 r.output r.path w.1.path;
        stands = stands w.0 (w.2.pc_is ∙ open_is.1) w.2.running (w.2.memory ∙ ap (λ (f : ℕ → ℕ). write f 4 (stack_end - size) (text_start + 8)) r.memory) (w.2.input ∙ r.input) (w.2.output ∙ r.output) w.2.sp_is;
      }
