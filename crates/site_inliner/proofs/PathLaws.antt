-- One more index of a `getelementptr`.
use Rattle.std.proofs.Common.{◌≡◌, inl, inr, ℕ, zero, suc, ◌+◌, ◌%◌, ◌<◌, ◌≤◌, pos, List, [], ◌∷◌, ◌++◌, map, length, Option, Some, None, slice_get, refl, sym, ap, ◌∙◌, subst, arith}
use Rattle.std.specs.Prelude.{unwrap_or, IfSome}
use Rattle.std.proofs.lemmas.List.{map-append, append_assoc, append-nil, length-map}
use Rattle.oi_base.specs.declared.words.Width.TheVariants.{W32}
use Rattle.ir_core.specs.declared.flat.Term.{Term}
use Rattle.ir_core.specs.declared.layout.Layout.{Layout}
use Rattle.ir_core.specs.declared.ty.TypeDef.{TypeDef}
use Rattle.ir_core.specs.declared.ty.IrType.{IrType, Void, Int, Ptr, Array', Struct', Named, end_of-IrType, more_of-IrType}
use Rattle.ir_core.specs.declared.ty.IrType.TheOpen.{IrType-F}
use Rattle.ir_core.specs.declared.ty.IrType.TheViews.{out-IrType}
use Rattle.ir_core.specs.declared.ty.IrType.TheVariants.{outs-Void}
use Rattle.ir_safety.proofs.TypeSizes.{array_out}
use Rattle.ir_safety.proofs.OperandMeanings.{bytes, bytes_joined}
use Rattle.ir_core.specs.declared.constant.TypedCount.{TypedCount}
use Rattle.ir_core.specs.declared.op.TypedOperand.{TypedOperand}
use Rattle.ir_core.specs.Sizes.{resolved, struct_types, types_in, fields, layout, offset, offset_from, empty, after}
use Rattle.ir_core.specs.Constants.{Index, Path, joined, empty_path, into, inside, element, element_of, walk, path_bytes, constant_index, field_number}
use Rattle.ir_core.specs.Instructions.{index}
use Rattle.ir_core.specs.ValidConsts.{GoesInto}
use Rattle.ir_core.specs.ValidConsts.{Index as ConstIndex}
use Rattle.ir_core.specs.Plain.{other_term, numbers}
use Rattle.module_rules.proofs.InnerTypes.{into_laid, into_small}
use Rattle.site_inliner.specs.Measured.{IsMeasured}
use Rattle.site_inliner.specs.Parts.{Part, terms_in}

-- ---- `void` leads nowhere

resolved_void : (n : ℕ) (defs : List TypeDef) → resolved n defs Void ≡ Void
resolved_void zero defs = refl
resolved_void (suc n) defs = refl

no_item : (defs : List TypeDef) → element_of defs Void ≡ None
no_item defs = ap element (resolved_void (length defs) defs)

no_fields : (defs : List TypeDef) → fields defs Void ≡ []
no_fields defs = ap struct_types (resolved_void (length defs) defs) ∙ ap types_in outs-Void

no_offset : (defs : List TypeDef) (n : ℕ) → offset defs Void n ≡ None
no_offset defs n = ap (λ (ts : List IrType). offset_from empty (map (layout defs) ts) n) (no_fields defs)

void_inside : (defs : List TypeDef) (i : Index) → inside defs Void None i ≡ Void
void_inside defs i = ap (λ (ts : List IrType). unwrap_or (slice_get ts (field_number i.operand)) Void) (no_fields defs)

abbrev pub bytes_alone : ℕ → Path
bytes_alone n = record { bytes = n; terms = [] }

void_into : (defs : List TypeDef) (i : Index) → into defs Void None i ≡ empty_path
void_into defs i = ap (λ (o : Option ℕ). bytes_alone (unwrap_or o 0)) (no_offset defs (field_number i.operand))

pub void_walk : (defs : List TypeDef) (is : List Index) → walk defs Void is ≡ empty_path
void_walk defs [] = refl
void_walk defs (i ∷ is) =
    ap (λ (o : Option IrType). joined (into defs Void o i) (walk defs (inside defs Void o i) is)) (no_item defs)
    ∙ ap (λ (q : Path). joined q (walk defs (inside defs Void None i) is)) (void_into defs i)
    ∙ ap (λ (u : IrType). joined empty_path (walk defs u is)) (void_inside defs i)
    ∙ ap (joined empty_path) (void_walk defs is)

-- ---- a step

element_level : (t u : IrType) → element t ≡ Some u → (n : ℕ) × (out-IrType t ≡ IrType-F.Array n u)
element_level Void u e = cc
element_level (Int w) u e = cc
element_level Ptr u e = cc
element_level (Array' n m (more_of-IrType item end_of-IrType)) u e = (n, array_out n m item ∙ ap (IrType-F.Array n) (let same : item ≡ u = cc in same))
element_level (Struct' _ _) u e = cc
element_level (Named x) u e = cc

any_index : ConstIndex
any_index = record { ty = Ptr; number = None }

pub item_measured : (defs : List TypeDef) (t u : IrType) → element_of defs t ≡ Some u → IsMeasured defs t → IsMeasured defs u
item_measured defs t u e h =
    let goes : GoesInto defs t any_index u = inl (element_level (resolved (length defs) defs t) u e) in
    (into_laid defs t any_index u goes h.0, into_small defs t any_index u goes h.1)

pub field_measured : (defs : List TypeDef) (t u : IrType) (k : ℕ) → slice_get (fields defs t) k ≡ Some u → IsMeasured defs t → IsMeasured defs u
field_measured defs t u k e h =
    let i : ConstIndex = record { ty = Int W32; number = Some (pos k) } in
    let goes : GoesInto defs t i u = inr (k, refl, refl, e) in
    (into_laid defs t i u goes h.0, into_small defs t i u goes h.1)

pub fields_measured : (defs : List TypeDef) (t : IrType) (k : ℕ) (o : Option IrType) → o ≡ slice_get (fields defs t) k → IsMeasured defs t → IfSome o (IsMeasured defs)
fields_measured defs t k None e h = tt
fields_measured defs t k (Some u) e h = field_measured defs t u k (sym e) h

past : (os : List (Option Layout)) (b : Layout) (k : ℕ) → length os ≤ k → unwrap_or (offset_from b os k) 0 ≡ 0
past [] b k h = refl
past (None ∷ os) b k h = refl
past (Some l ∷ os) b zero h = absurd (omega (arith, h))
past (Some l ∷ os) b (suc k) h = past os (after b l) k (omega (arith, h))

pub no_field : (defs : List TypeDef) (t : IrType) (k : ℕ) → length (fields defs t) ≤ k → unwrap_or (offset defs t k) 0 ≡ 0
no_field defs t k h = past (map (layout defs) (fields defs t)) empty k (let e = length-map (fields defs t) (layout defs) in omega (arith, e, h))

-- ---- sums

wrapped : (n i t b all m : ℕ) → m ≡ 4294967296 → b ≡ (n + i % 4294967296) % 4294967296 → (n + (i + t)) % 4294967296 ≡ all → (b + t) % 4294967296 ≡ all
wrapped n i t b all m e is sum = omega (arith, is, sum)

-- what is known before an index of a constant `getelementptr`
pub record ConstAt (defs : List TypeDef) (source at : IrType) (all rest : List TypedCount) (count : ℕ) : Type 0 where
  pub measured : IsMeasured defs at
  pub sum : (count + bytes (walk defs at (map constant_index rest))) % 4294967296 ≡ path_bytes (walk defs source (map constant_index all))

module _ (defs : List TypeDef) (source at : IrType) (i : TypedCount) (all is rest : List TypedCount) (n by b : ℕ) (q : Path) (known : ConstAt defs source at all rest n) (cut : rest ≡ i ∷ is)
    (goes : q ≡ into defs at (element_of defs at) (constant_index i)) (adds : by ≡ path_bytes q) (next : b ≡ (n + by) % 4294967296) where
  const_sum : (u : IrType) → u ≡ inside defs at (element_of defs at) (constant_index i) → (b + bytes (walk defs u (map constant_index is))) % 4294967296 ≡ path_bytes (walk defs source (map constant_index all))
  const_sum u leads =
      let one : Path = into defs at (element_of defs at) (constant_index i) in
      let later : ℕ = bytes (walk defs u (map constant_index is)) in
      let sum : (n + bytes (walk defs at (map constant_index (i ∷ is)))) % 4294967296 ≡ path_bytes (walk defs source (map constant_index all)) =
      subst (λ (r : List TypedCount). (n + bytes (walk defs at (map constant_index r))) % 4294967296 ≡ path_bytes (walk defs source (map constant_index all))) cut known.sum in
      let apart : bytes (walk defs at (map constant_index (i ∷ is))) ≡ bytes one + later =
      bytes_joined one (walk defs (inside defs at (element_of defs at) (constant_index i)) (map constant_index is))
      ∙ ap (λ (t : IrType). bytes one + bytes (walk defs t (map constant_index is))) (sym leads) in
      wrapped n (bytes one) later b (path_bytes (walk defs source (map constant_index all))) 4294967296 refl
      (next ∙ ap (λ (k : ℕ). (n + k) % 4294967296) (adds ∙ ap path_bytes goes))
      (ap (λ (k : ℕ). (n + k) % 4294967296) (sym apart) ∙ sum)

  pub const_on : (u : IrType) → u ≡ inside defs at (element_of defs at) (constant_index i) → IsMeasured defs u → ConstAt defs source u all is b
  const_on u leads m = record { measured = m; sum = const_sum u leads }

  pub const_ends : Void ≡ inside defs at (element_of defs at) (constant_index i) → b ≡ path_bytes (walk defs source (map constant_index all))
  const_ends leads =
      let nothing : bytes (walk defs Void (map constant_index is)) ≡ 0 = ap bytes (void_walk defs (map constant_index is)) in
      let sum = const_sum Void leads in
      omega (arith, next, nothing, sum)

pub const_last : (defs : List TypeDef) (source at : IrType) (all rest : List TypedCount) (n : ℕ) → ConstAt defs source at all rest n → rest ≡ [] → n < 4294967296 → n ≡ path_bytes (walk defs source (map constant_index all))
const_last defs source at all rest n known none low =
    let sum : (n + 0) % 4294967296 ≡ path_bytes (walk defs source (map constant_index all)) =
    subst (λ (r : List TypedCount). (n + bytes (walk defs at (map constant_index r))) % 4294967296 ≡ path_bytes (walk defs source (map constant_index all))) none known.sum in
    omega (arith, sum, low)

-- ---- the same with terms

module _ (p : Part) where
  abbrev Defs : List TypeDef
  Defs = p.source.types.defs

  abbrev walked : IrType → List TypedOperand → Path
  walked t is = walk Defs t (map (index p.source) is)

  -- what is known before an index
  pub record WalkAt (source at : IrType) (all rest : List TypedOperand) (count : ℕ) (before terms : List Term) : Type 0 where
    pub measured : IsMeasured Defs at
    pub sum : (count + (walked at rest).bytes) % 4294967296 ≡ (walked source all).bytes % 4294967296
    pub list : terms ++ terms_in p (walked at rest).terms ≡ before ++ terms_in p (walked source all).terms

  wrapped_bytes : (n i t b all m : ℕ) → m ≡ 4294967296 → b ≡ (n + i) % 4294967296 → (n + (i + t)) % 4294967296 ≡ all → (b + t) % 4294967296 ≡ all
  wrapped_bytes n i t b all m e is sum = omega (arith, is, sum)

  module _ (source at : IrType) (i : TypedOperand) (all is rest : List TypedOperand) (n by b : ℕ) (before old new : List Term) (q : Path) (known : WalkAt source at all rest n before old) (cut : rest ≡ i ∷ is)
      (goes : q ≡ into Defs at (element_of Defs at) (index p.source i)) (adds : by ≡ q.bytes) (next : b ≡ (n + by) % 4294967296) (puts : new ≡ old ++ terms_in p q.terms) where
    abbrev first : Path
    first = into Defs at (element_of Defs at) (index p.source i)

    walk_sum : (u : IrType) → u ≡ inside Defs at (element_of Defs at) (index p.source i) → (b + (walked u is).bytes) % 4294967296 ≡ (walked source all).bytes % 4294967296
    walk_sum u leads =
        let sum : (n + (walked at (i ∷ is)).bytes) % 4294967296 ≡ (walked source all).bytes % 4294967296 =
        subst (λ (r : List TypedOperand). (n + (walked at r).bytes) % 4294967296 ≡ (walked source all).bytes % 4294967296) cut known.sum in
        let apart : (walked at (i ∷ is)).bytes ≡ first.bytes + (walked u is).bytes = ap (λ (t : IrType). first.bytes + (walked t is).bytes) (sym leads) in
        wrapped_bytes n first.bytes (walked u is).bytes b ((walked source all).bytes % 4294967296) 4294967296 refl
        (next ∙ ap (λ (k : ℕ). (n + k) % 4294967296) (adds ∙ ap (λ (x : Path). x.bytes) goes))
        (ap (λ (k : ℕ). (n + k) % 4294967296) (sym apart) ∙ sum)

    walk_list : (u : IrType) → u ≡ inside Defs at (element_of Defs at) (index p.source i) → new ++ terms_in p (walked u is).terms ≡ before ++ terms_in p (walked source all).terms
    walk_list u leads =
        let list : old ++ terms_in p (walked at (i ∷ is)).terms ≡ before ++ terms_in p (walked source all).terms =
        subst (λ (r : List TypedOperand). old ++ terms_in p (walked at r).terms ≡ before ++ terms_in p (walked source all).terms) cut known.list in
        let apart : terms_in p (walked at (i ∷ is)).terms ≡ terms_in p first.terms ++ terms_in p (walked u is).terms =
        ap (λ (t : IrType). terms_in p (first.terms ++ (walked t is).terms)) (sym leads) ∙ map-append (other_term (numbers p.func)) first.terms (walked u is).terms in
        ap (λ (ts : List Term). ts ++ terms_in p (walked u is).terms) (puts ∙ ap (λ (x : Path). old ++ terms_in p x.terms) goes)
        ∙ append_assoc old (terms_in p first.terms) (terms_in p (walked u is).terms)
        ∙ ap (λ (ts : List Term). old ++ ts) (sym apart) ∙ list

    pub walk_on : (u : IrType) → u ≡ inside Defs at (element_of Defs at) (index p.source i) → IsMeasured Defs u → WalkAt source u all is b before new
    walk_on u leads m = record { measured = m; sum = walk_sum u leads; list = walk_list u leads }

    pub ends_bytes : Void ≡ inside Defs at (element_of Defs at) (index p.source i) → b ≡ (walked source all).bytes % 4294967296
    ends_bytes leads =
        let nothing : (walked Void is).bytes ≡ 0 = ap (λ (x : Path). x.bytes) (void_walk Defs (map (index p.source) is)) in
        let sum = walk_sum Void leads in
        omega (arith, next, nothing, sum)

    pub ends_terms : Void ≡ inside Defs at (element_of Defs at) (index p.source i) → new ≡ before ++ terms_in p (walked source all).terms
    ends_terms leads =
        sym (append-nil new) ∙ ap (λ (x : Path). new ++ terms_in p x.terms) (sym (void_walk Defs (map (index p.source) is))) ∙ walk_list Void leads

  pub last_bytes : (source at : IrType) (all rest : List TypedOperand) (n : ℕ) (before terms : List Term) → WalkAt source at all rest n before terms → rest ≡ [] → n < 4294967296 → n ≡ (walked source all).bytes % 4294967296
  last_bytes source at all rest n before terms known none low =
      let sum : (n + 0) % 4294967296 ≡ (walked source all).bytes % 4294967296 =
      subst (λ (r : List TypedOperand). (n + (walked at r).bytes) % 4294967296 ≡ (walked source all).bytes % 4294967296) none known.sum in
      omega (arith, sum, low)

  pub last_terms : (source at : IrType) (all rest : List TypedOperand) (n : ℕ) (before terms : List Term) → WalkAt source at all rest n before terms → rest ≡ [] → terms ≡ before ++ terms_in p (walked source all).terms
  last_terms source at all rest n before terms known none =
      sym (append-nil terms) ∙ subst (λ (r : List TypedOperand). terms ++ terms_in p (walked at r).terms ≡ before ++ terms_in p (walked source all).terms) none known.list
