-- Plain bodies are well formed.
use Rattle.std.proofs.Common.{◌≡◌, ◌≢◌, ℕ, zero, suc, ◌<◌, ◌≤◌, All, List, [], ◌∷◌, ◌++◌, Some, None, length, map, get_or, refl, sym, ap, ◌∙◌, subst, arith}
use Rattle.std.specs.Prelude.{slice_get, Contains}
use Rattle.std.specs.List.{flat_map, filter_map, AllPairs}
use Rattle.std.proofs.lemmas.List.Elements.{All-nil, All-cons, All-append}
use Rattle.std.proofs.lemmas.Option.{slice_get-get_or, get_or_from_slice_get, slice_get_within}
use Rattle.oi_base.specs.declared.words.Width.TheVariants.{W32}
use Rattle.oi_base.specs.declared.ids.BlockId.{BlockId}
use Rattle.ir_core.specs.declared.flat.Scalar.{Scalar}
use Rattle.ir_core.specs.declared.flat.Scalar.TheVariants as scalar
use Rattle.ir_core.specs.declared.flat.FlatOp.{FlatOp}
use Rattle.ir_core.specs.declared.flat.FlatOp.TheVariants.{Reg, Word, Null, Address, Poison}
use Rattle.ir_core.specs.declared.flat.Phi.{Phi}
use Rattle.ir_core.specs.declared.flat.FlatInstr.{FlatInstr}
use Rattle.ir_core.specs.declared.flat.FlatInstr.TheVariants.{Bin, Icmp, Select, Cast, Copy, Alloca, Load, Store, Gep, Call, Put, Get, Exit}
use Rattle.ir_core.specs.declared.flat.FlatEnd.{FlatEnd}
use Rattle.ir_core.specs.declared.flat.FlatEnd.TheVariants.{Ret, Br, Cond, Switch, Unreachable}
use Rattle.ir_core.specs.declared.flat.FlatBlock.{FlatBlock}
use Rattle.ir_core.specs.declared.flat.FlatBody.{FlatBody}
use Rattle.ir_core.specs.Formed.{FuncType, IsBlock, IsEdge, IsTyped, IsEndTyped, IsParamOrWritten, ComesFirst, targets, used_by, used_at_end, written_by, writes, uses, all_writes}
use Rattle.ir_core.specs.WellFormed.{IsWellFormed}
use Rattle.rv_select_tests.specs.Plain.{IsPlain, IsPlainBlock, IsPlainEnd, IsPlainInstr, IsTarget}

plain_put : (P : FlatInstr → Type 0) → ((w : ℕ) → w < 256 → P (Put None (Word w))) → (i : FlatInstr) → IsPlainInstr i → P i
plain_put P f (Put None (Word w)) h = f w h
plain_put P f (Put None (Reg r)) h = absurd h
plain_put P f (Put None Null) h = absurd h
plain_put P f (Put None Poison) h = absurd h
plain_put P f (Put None (Address g k)) h = absurd h
plain_put P f (Put (Some d) a) h = absurd h
plain_put P f (Bin d op w a b) h = absurd h
plain_put P f (Icmp d c s a b) h = absurd h
plain_put P f (Select d c a b) h = absurd h
plain_put P f (Cast d c from to a) h = absurd h
plain_put P f (Copy d a) h = absurd h
plain_put P f (Alloca d size align) h = absurd h
plain_put P f (Load d s align a) h = absurd h
plain_put P f (Store s align v a) h = absurd h
plain_put P f (Gep d a k ts) h = absurd h
plain_put P f (Call d g args) h = absurd h
plain_put P f (Get d) h = absurd h
plain_put P f (Exit a) h = absurd h

plain_end : (count : ℕ) (P : FlatEnd → Type 0)
    → ((w : ℕ) → w < 256 → P (Ret (Some (Word w))))
    → ((b : BlockId) → IsTarget count b.0 → P (Br b))
    → ((c : ℕ) (t e : BlockId) → c < 2 → IsTarget count t.0 → IsTarget count e.0 → P (Cond (Word c) t e))
    → P Unreachable
    → (e : FlatEnd) → IsPlainEnd count e → P e
plain_end count P ret br cond stop (Ret (Some (Word w))) h = ret w h
plain_end count P ret br cond stop (Ret (Some (Reg r))) h = absurd h
plain_end count P ret br cond stop (Ret (Some Null)) h = absurd h
plain_end count P ret br cond stop (Ret (Some Poison)) h = absurd h
plain_end count P ret br cond stop (Ret (Some (Address g k))) h = absurd h
plain_end count P ret br cond stop (Ret None) h = absurd h
plain_end count P ret br cond stop (Br b) h = br b h
plain_end count P ret br cond stop (Cond (Word c) t e) h = cond c t e h.0 h.1 h.2
plain_end count P ret br cond stop (Cond (Reg r) t e) h = absurd h
plain_end count P ret br cond stop (Cond Null t e) h = absurd h
plain_end count P ret br cond stop (Cond Poison t e) h = absurd h
plain_end count P ret br cond stop (Cond (Address g k) t e) h = absurd h
plain_end count P ret br cond stop (Switch a w cases other) h = absurd h
plain_end count P ret br cond stop Unreachable h = stop

one_of : (count a x : ℕ) → IsTarget count a → Contains (a ∷ []) x → IsTarget count x
one_of count a x h (zero, lt, is) = subst (IsTarget count) is h
one_of count a x h (suc j, lt, is) = absurd (omega (arith, lt))

two_of : (count a b x : ℕ) → IsTarget count a → IsTarget count b → Contains (a ∷ b ∷ []) x → IsTarget count x
two_of count a b x h g (zero, lt, is) = subst (IsTarget count) is h
two_of count a b x h g (suc zero, lt, is) = subst (IsTarget count) is g
two_of count a b x h g (suc (suc j), lt, is) = absurd (omega (arith, lt))

none_of : {X : Type 0} (xs : List X) (x : X) → length xs ≡ 0 → Contains xs x → ⊥
none_of xs x e (j, lt, is) = omega (arith, lt, e)

targets_in : (count x : ℕ) (e : FlatEnd) → IsPlainEnd count e → Contains (targets e) x → IsTarget count x
targets_in count x = plain_end count (λ e. Contains (targets e) x → IsTarget count x) (λ w lt h. absurd (none_of [] x refl h)) (λ b t h. one_of count b.0 x t h) (λ c t e lt a b h. two_of count t.0 e.0 x a b h) (λ h. absurd (none_of [] x refl h))

rest : {X : Type 0} (P : X → Type 0) (x : X) (xs : List X) → All P (x ∷ xs) → All P xs
rest P x xs h j d lt = h (suc j) d (omega (arith, lt))

none_written : (is : List FlatInstr) → All IsPlainInstr is → filter_map written_by is ≡ []
none_written [] h = refl
none_written (i ∷ is) h = plain_put (λ i. filter_map written_by (i ∷ is) ≡ []) (λ w lt. none_written is (rest IsPlainInstr i is h)) i (h 0 i (omega arith))

no_phis : (fs : List Phi) → length fs ≡ 0 → map (λ (f : Phi). f.reg.0) fs ≡ []
no_phis [] e = refl
no_phis (f ∷ fs) e = absurd (omega (arith, e))

no_writes : (count : ℕ) (ks : List FlatBlock) → All (IsPlainBlock count) ks → flat_map writes ks ≡ []
no_writes count [] h = refl
no_writes count (k ∷ ks) h =
    let first = h 0 k (omega arith) in
    ap (λ (xs : List ℕ). xs ++ filter_map written_by k.code ++ flat_map writes ks) (no_phis k.phis first.phis)
    ∙ ap (λ (xs : List ℕ). xs ++ flat_map writes ks) (none_written k.code first.code)
    ∙ no_writes count ks (rest (IsPlainBlock count) k ks h)

no_values : {X : Type 0} (P : X → Type 0) (g : Phi → List X) (fs : List Phi) → length fs ≡ 0 → All P (flat_map g fs)
no_values P g [] e = All-nil P
no_values P g (f ∷ fs) e = absurd (omega (arith, e))

module _ (P : FlatOp → Type 0) (words : (w : ℕ) → P (Word w)) where
  one_word : (w : ℕ) → All P (Word w ∷ [])
  one_word w = All-cons P (Word w) [] (words w) (All-nil P)

  by_instr : (i : FlatInstr) → IsPlainInstr i → All P (used_by i)
  by_instr = plain_put (λ i. All P (used_by i)) (λ w lt. one_word w)

  by_end : (count : ℕ) (e : FlatEnd) → IsPlainEnd count e → All P (used_at_end e)
  by_end count = plain_end count (λ e. All P (used_at_end e)) (λ w lt. one_word w) (λ b t. All-nil P) (λ c t e lt a b. one_word c) (All-nil P)

  by_code : (is : List FlatInstr) → All IsPlainInstr is → All P (flat_map used_by is)
  by_code [] h = All-nil P
  by_code (i ∷ is) h = All-append P (used_by i) (flat_map used_by is) (by_instr i (h 0 i (omega arith))) (by_code is (rest IsPlainInstr i is h))

  by_blocks : (count : ℕ) (ks : List FlatBlock) → All (IsPlainBlock count) ks → All P (flat_map uses ks)
  by_blocks count [] h = All-nil P
  by_blocks count (k ∷ ks) h =
      let first = h 0 k (omega arith) in
      All-append P (uses k) (flat_map uses ks)
      (All-append P _ (used_at_end k.end) (All-append P _ (flat_map used_by k.code) (no_values P _ k.phis first.phis) (by_code k.code first.code)) (by_end count k.end first.end))
      (by_blocks count ks (rest (IsPlainBlock count) k ks h))

abbrev types : ℕ → Scalar
types r = scalar.Word W32

abbrev own : FuncType
own = record { params = []; result = Some (scalar.Word W32) }

module _ (body : FlatBody) (p : IsPlain body) where
  at : (b : ℕ) (k : FlatBlock) → IsBlock body b k → IsPlainBlock (length body.blocks) k
  at b k is = subst (IsPlainBlock (length body.blocks)) (get_or_from_slice_get body.blocks b k k is) (p.blocks b k (slice_get_within body.blocks b k is))

  empty : FlatBlock
  empty = record { phis = []; code = []; end = Unreachable }

  the_entry : (k : FlatBlock) × IsBlock body 0 k × (k.phis ≡ [])
  the_entry =
      let k : FlatBlock = get_or body.blocks 0 empty in
      let is : slice_get body.blocks 0 ≡ Some k = slice_get-get_or body.blocks 0 empty p.some in
      (k, is, nothing k.phis (at 0 k is).phis)
    where
      nothing : (fs : List Phi) → length fs ≡ 0 → fs ≡ []
      nothing [] e = refl
      nothing (f ∷ fs) e = absurd (omega (arith, e))

  edges : (a b : ℕ) → IsEdge body a b → IsTarget (length body.blocks) b
  edges a b (k, is, has) = targets_in (length body.blocks) b k.end (at a k is).end has

  code_at : (b n : ℕ) (k : FlatBlock) (i : FlatInstr) → IsBlock body b k → slice_get k.code n ≡ Some i → IsPlainInstr i
  code_at b n k i is there = subst IsPlainInstr (get_or_from_slice_get k.code n i i there) ((at b k is).code n i (slice_get_within k.code n i there))

  nothing_written : all_writes body ≡ []
  nothing_written = no_writes (length body.blocks) body.blocks p.blocks

  pub plain_is_well_formed : IsWellFormed body
  plain_is_well_formed = record {
    types = types;
    funcs = λ f. own;
    own = own;
    formed = record {
      entry = the_entry;
      no_way_back = λ a e. let h = edges a 0 e in omega (arith, h.0);
      few_params = (omega (arith, p.params), omega (arith, p.params));
      numbers = (omega (arith, p.regs), p.few);
      own_params = (sym p.params, λ q s e. absurd (none_there q s e));
      in_range = λ b c e. (edges b c e).1;
      phis = λ b k f is has. absurd (none_of k.phis f (at b k is).phis has);
      code = λ b n k i is there. plain_put (IsTyped types (λ f. own)) (λ w lt. (omega (arith, lt), tt)) i (code_at b n k i is there);
      written_once = subst (λ (xs : List ℕ). AllPairs (λ r s. r ≢ s) xs) (sym nothing_written) (λ i j d a b. absurd (omega (arith, b)));
      written = subst (λ (xs : List ℕ). All (λ r. (body.params ≤ r) × (r < body.regs)) xs) (sym nothing_written) (All-nil (λ r. (body.params ≤ r) × (r < body.regs)));
      used = by_blocks (IsParamOrWritten body) (λ w. tt) (length body.blocks) body.blocks p.blocks;
      ends = λ b k is. plain_end (length body.blocks) (IsEndTyped types (Some (scalar.Word W32))) (λ w lt. omega (arith, lt)) (λ b t. tt) (λ c t e lt a b. omega (arith, lt)) tt k.end (at b k is).end;
      defined_first = record {
        by_code = λ b older k n i path is there. by_instr (ComesFirst body older k n) (λ w. tt) i (code_at b n k i is there);
        by_end = λ b older k path is. by_end (ComesFirst body older k (length k.code)) (λ w. tt) (length body.blocks) k.end (at b k is).end;
        by_phi = λ b c older k l f e path is there has from same. absurd (none_of l.phis f (at c l there).phis has);
      };
    };
  }
    where
      none_there : (q : ℕ) (s : Scalar) → slice_get {X = Scalar} [] q ≡ Some s → ⊥
      none_there q s e = cc
