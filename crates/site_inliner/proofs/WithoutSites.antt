-- The expanded body of a function in which no site is inlined.
use Rattle.std.proofs.Common.{◌≡◌, ℕ, ◌+◌, ◌==◌, Bool, true, false, cond, List, [], ◌∷◌, ◌++◌, length, map, slice_get, Option, Some, None, refl, sym, ap, ap₂, ◌∙◌}
use Rattle.std.specs.Prelude.{◌&&◌, not}
use Rattle.std.specs.List.{flat_map, filter_map, cons_option, position_or_len}
use Rattle.std.specs.Option.{option_map}
use Rattle.std.proofs.lemmas.List.{length-map, map-append}
use Rattle.std.proofs.Math.Path.{fun_ext}
use Rattle.oi_base.specs.declared.ids.FuncId.{FuncId}
use Rattle.ir_core.specs.declared.flat.FlatBody.{FlatBody}
use Rattle.ir_core.specs.declared.flat.FlatBlock.{FlatBlock}
use Rattle.ir_core.specs.declared.flat.FlatInstr.{FlatInstr}
use Rattle.ir_core.specs.declared.flat.FlatEnd.{FlatEnd}
use Rattle.ir_core.specs.declared.op.LocalId.{LocalId}
use Rattle.ir_core.specs.declared.op.End.{End}
use Rattle.ir_core.specs.declared.func.Instr.{Instr}
use Rattle.ir_core.specs.declared.func.Block.{Block}
use Rattle.ir_core.specs.declared.func.Param.{Param}
use Rattle.ir_core.specs.declared.func.Func.{Func}
use Rattle.ir_core.specs.declared.module.Module.{Module}
use Rattle.ir_core.specs.Instructions.{block_rows}
use Rattle.ir_core.specs.Source.{is_labelled}
use Rattle.ir_core.specs.Plain.{Numbers, numbers, registers, results, is_local, renumbered, other_phi, other_instr, other_end, plain_body}
use Rattle.call_graph.specs.declared.sites.Site.{Site}
use Rattle.call_graph.specs.Sites.{site_of, block_sites}
use Rattle.shapes.specs.Tree.{node, none}
use Rattle.site_inliner.specs.Segments.{Pair, Segment, Begin, AtBlock, AtEnd, after, rest_of, from_instr, next_site, inlined_here, of_blocks, first_site}
use Rattle.site_inliner.specs.Flat.{pair, params_of, pairs_of, is_pair, is_first, is_last, to_first, to_last, leave, block_of, body_of, flat}

-- a block as one segment
abbrev whole_from : ℕ → End → Begin → List Instr → Segment
whole_from x end begin is = record { name = record { string = []; block = x; segment = 0 }; returns_to = None; begin = begin; code = is; finish = AtEnd end }

abbrev whole : Block → Segment
whole b = whole_from b.label.0 b.end AtBlock b.code

none_here : (funcs : List Func) (f : FuncId) (n : ℕ) (s : Option Site) → inlined_here funcs f [] n s ≡ None
none_here funcs f n None = refl
none_here funcs f n (Some s) = refl

uncut : (funcs : List Func) (f : FuncId) (x : ℕ) (end : End) (n : ℕ) (is : List Instr) → rest_of funcs f [] x end 0 AtBlock n is ≡ whole_from x end AtBlock is ∷ []
uncut funcs f x end n [] = refl
uncut funcs f x end n (i ∷ is) =
    ap (from_instr funcs f [] x 0 AtBlock n i (λ k begin. rest_of funcs f [] x end k begin (next_site funcs f [] n (site_of funcs f i)) is)) (none_here funcs f n (site_of funcs f i))
    ∙ ap (after i) (uncut funcs f x end (next_site funcs f [] n (site_of funcs f i)) is)

uncut_blocks : (funcs : List Func) (f : FuncId) (n : ℕ) (bs : List Block) → of_blocks funcs f [] n bs ≡ map whole bs
uncut_blocks funcs f n [] = refl
uncut_blocks funcs f n (b ∷ bs) = ap₂ (λ (xs ys : List Segment). xs ++ ys) (uncut funcs f b.label.0 b.end n b.code) (uncut_blocks funcs f (n + length (block_sites funcs f b)) bs)

-- ---- registers

made_pairs : (is : List Instr) → map (pair []) (filter_map (λ (i : Instr). i.result) is) ≡ filter_map (λ (i : Instr). option_map (pair []) i.result) is
made_pairs [] = refl
made_pairs (i ∷ is) = by i.result (made_pairs is)
  where
    by : (o : Option LocalId) → map (pair []) (filter_map (λ (i : Instr). i.result) is) ≡ filter_map (λ (i : Instr). option_map (pair []) i.result) is → map (pair []) (cons_option o (filter_map (λ (i : Instr). i.result) is)) ≡ cons_option (option_map (pair []) o) (filter_map (λ (i : Instr). option_map (pair []) i.result) is)
    by None rest = rest
    by (Some d) rest = ap (λ (ps : List Pair). pair [] d ∷ ps) rest

no_more : {A : Type 0} (xs : List A) → xs ++ [] ≡ xs
no_more [] = refl
no_more (x ∷ xs) = ap (λ ys. x ∷ ys) (no_more xs)

block_pairs : (bs : List Block) → map (pair []) (flat_map results bs) ≡ flat_map pairs_of (map whole bs)
block_pairs [] = refl
block_pairs (b ∷ bs) =
    map-append (pair []) (results b) (flat_map results bs)
    ∙ ap₂ (λ (xs ys : List Pair). xs ++ ys) (made_pairs b.code ∙ sym (no_more (filter_map (λ (i : Instr). option_map (pair []) i.result) b.code))) (block_pairs bs)

twice : {A B C : Type 0} (g : B → C) (f : A → B) (xs : List A) → map g (map f xs) ≡ map (λ x. g (f x)) xs
twice g f [] = refl
twice g f (x ∷ xs) = ap (λ ys. g (f x) ∷ ys) (twice g f xs)

param_pairs : (ps : List Param) → map (pair []) (map (λ (p : Param). p.name) ps) ≡ map (λ (p : Param). pair [] p.name) ps
param_pairs ps = twice (pair []) (λ (p : Param). p.name) ps

all_pairs : (d : Func) → map (pair []) (registers d) ≡ params_of [] d ++ flat_map pairs_of (map whole d.blocks)
all_pairs d =
    map-append (pair []) (map (λ (p : Param). p.name) d.params) (flat_map results d.blocks)
    ∙ ap₂ (λ (xs ys : List Pair). xs ++ ys) (param_pairs d.params) (block_pairs d.blocks)

-- ---- positions

position-map : {X Y : Type 0} (p : Y → Bool) (f : X → Y) (xs : List X) → position_or_len (λ x. p (f x)) xs ≡ position_or_len p (map f xs)
position-map p f [] = refl
position-map p f (x ∷ xs) = ap (λ (n : ℕ). cond (not (p (f x))) (1 + n) 0) (position-map p f xs)

-- a test passes where another one does
as_well : {X : Type 0} (p q : X → Bool) → ((x : X) → p x ≡ q x) → (xs : List X) → position_or_len p xs ≡ position_or_len q xs
as_well p q h [] = refl
as_well p q h (x ∷ xs) = ap₂ (λ (b : Bool) (n : ℕ). cond (not b) (1 + n) 0) (h x) (as_well p q h xs)

reg_is : (d : Func) (x : ℕ) → position_or_len (is_pair [] x) (map (pair []) (registers d)) ≡ position_or_len (is_local x) (registers d)
reg_is d x = sym (position-map (is_pair [] x) (pair []) (registers d))

always : (b : Bool) → (b && true) ≡ b
always true = refl
always false = refl

first_is : (d : Func) (x : ℕ) → position_or_len (is_first [] x) (map whole d.blocks) ≡ position_or_len (is_labelled x) d.blocks
first_is d x = sym (position-map (is_first [] x) whole d.blocks) ∙ as_well (λ b. is_first [] x (whole b)) (is_labelled x) (λ b. always (b.label.0 == x)) d.blocks

last_is : (d : Func) (x : ℕ) → position_or_len (is_last [] x) (map whole d.blocks) ≡ position_or_len (is_labelled x) d.blocks
last_is d x = sym (position-map (is_last [] x) whole d.blocks) ∙ as_well (λ b. is_last [] x (whole b)) (is_labelled x) (λ b. always (b.label.0 == x)) d.blocks

-- ---- bodies

first_numbers : (m : Module) (d : Func) → to_first m (map whole d.blocks) (map (pair []) (registers d)) [] ≡ numbers d
first_numbers m d = ap₂ (λ (r b : ℕ → ℕ). let n : Numbers = record { reg = r; block = b } in n) (fun_ext (λ x. reg_is d x)) (fun_ext (λ x. first_is d x))

last_numbers : (m : Module) (d : Func) → to_last m (map whole d.blocks) (map (pair []) (registers d)) [] ≡ numbers d
last_numbers m d = ap₂ (λ (r b : ℕ → ℕ). let n : Numbers = record { reg = r; block = b } in n) (fun_ext (λ x. reg_is d x)) (fun_ext (λ x. last_is d x))

-- a block under numbers for its branches and for its phis
abbrev under_numbers : Module → Numbers → Numbers → Block → FlatBlock
under_numbers m n l b = record { phis = map (other_phi l) (block_rows m b).phis; code = map (other_instr n) (block_rows m b).code ++ []; end = other_end n (block_rows m b).end }

stays : (m : Module) (all : List Segment) (pairs : List Pair) (b : Block) → block_of m all pairs (whole b) ≡ under_numbers m (to_first m all pairs []) (to_last m all pairs []) b
stays m all pairs b = ap (λ (e : FlatEnd). let k : FlatBlock = record { phis = map (other_phi (to_last m all pairs [])) (block_rows m b).phis; code = map (other_instr (to_first m all pairs [])) (block_rows m b).code ++ []; end = e } in k) (unmoved (other_end (to_first m all pairs []) (block_rows m b).end))
  where
    unmoved : (e : FlatEnd) → leave m all pairs None e ≡ e
    unmoved e = refl

plain_block : (m : Module) (n : Numbers) (b : Block) → under_numbers m n n b ≡ renumbered n (block_rows m b)
plain_block m n b = ap (λ (code : List FlatInstr). let k : FlatBlock = record { phis = map (other_phi n) (block_rows m b).phis; code = code; end = other_end n (block_rows m b).end } in k) (no_more (map (other_instr n) (block_rows m b).code))

plain_blocks : (m : Module) (d : Func) (bs : List Block) → map (block_of m (map whole d.blocks) (map (pair []) (registers d))) (map whole bs) ≡ map (λ (b : Block). renumbered (numbers d) (block_rows m b)) bs
plain_blocks m d [] = refl
plain_blocks m d (b ∷ bs) =
    ap₂ (λ (k : FlatBlock) (ks : List FlatBlock). k ∷ ks)
    (stays m (map whole d.blocks) (map (pair []) (registers d)) b ∙ ap₂ (λ (n l : Numbers). under_numbers m n l b) (first_numbers m d) (last_numbers m d) ∙ plain_block m (numbers d) b)
    (plain_blocks m d bs)

abbrev with_pairs : Module → Func → List Segment → List Pair → FlatBody
with_pairs m d all pairs = record { params = length d.params; regs = length pairs; blocks = map (block_of m all pairs) all }

plain_body_is : (m : Module) (d : Func) → body_of m d (map whole d.blocks) ≡ plain_body m d
plain_body_is m d =
    ap (λ (pairs : List Pair). with_pairs m d (map whole d.blocks) pairs) (sym (all_pairs d))
    ∙ ap₂ (λ (n : ℕ) (ks : List FlatBlock). let b : FlatBody = record { params = length d.params; regs = n; blocks = ks } in b) (length-map (registers d) (pair [])) (plain_blocks m d d.blocks)

pub plain_flat : (m : Module) (f : FuncId) (d : Func) (w : ℕ) → slice_get m.funcs f.0 ≡ Some d → flat m (node f w none) ≡ Some (plain_body m d)
plain_flat m f d w is =
    rw is (ap (λ (all : List Segment). Some (body_of m d all)) (uncut_blocks m.funcs f (first_site m.funcs f) d.blocks) ∙ ap (λ (b : FlatBody). Some b) (plain_body_is m d))
