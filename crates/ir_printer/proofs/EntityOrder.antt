-- The order of the entities: where they stand in some order in which each finds the names before its own, each does so
-- in the order of the text.
use Rattle.std.proofs.Common.{◌≡◌, ◌⊎◌, inl, inr, refl, sym, ap, ap₂, ◌∙◌, subst, ℕ, zero, suc, ◌≤◌, Bool, true, false, if◌then◌else◌, List, [], ◌∷◌, ◌++◌, map, length, Option, Some, arith}
use Rattle.std.specs.Prelude.{max}
use Rattle.std.specs.List.{flat_map, AllByRecursion as Every}
use Rattle.std.specs.Option.{option_map_or}
use Rattle.std.proofs.lemmas.Bool.Decides.{nat_tests}
use Rattle.std.proofs.lemmas.List.{length-append}
use Rattle.ir_core.specs.declared.ty.TypeDef.{TypeDef}
use Rattle.ir_core.specs.declared.func.Func.{Func}
use Rattle.ir_core.specs.declared.module.GlobalVar.{GlobalVar}
use Rattle.ir_core.specs.declared.module.Declaration.{Declaration}
use Rattle.ir_printer.specs.declared.demands.Demand.{Demand}
use Rattle.ir_printer.specs.declared.demands.Demands.{Demands}
use Rattle.ir_printer.specs.declared.demands.Known.{Known}
use Rattle.ir_printer.specs.declared.order.Kind.{Kind}
use Rattle.ir_printer.specs.declared.order.Kind.TheVariants as kinds
use Rattle.ir_printer.specs.Order.{demand, known_beyond, fits, first_fits, first_left, turn, first_known, queue_of, without_first, turns, count}
use Rattle.ir_printer.specs.Printed.{Entity, TargetLine, DefinedType, Variable, Definition, Declared, entity_marks, Left, placed, type_demand, global_demand, func_demand, declaration_demand}

-- ---- the parts of a list of entities

abbrev pub type_in : Entity → List TypeDef
type_in (TargetLine w said) = []
type_in (DefinedType d) = d ∷ []
type_in (Variable g) = []
type_in (Definition f) = []
type_in (Declared d) = []

abbrev pub global_in : Entity → List GlobalVar
global_in (TargetLine w said) = []
global_in (DefinedType d) = []
global_in (Variable g) = g ∷ []
global_in (Definition f) = []
global_in (Declared d) = []

abbrev pub func_in : Entity → List Func
func_in (TargetLine w said) = []
func_in (DefinedType d) = []
func_in (Variable g) = []
func_in (Definition f) = f ∷ []
func_in (Declared d) = []

abbrev pub declared_in : Entity → List Declaration
declared_in (TargetLine w said) = []
declared_in (DefinedType d) = []
declared_in (Variable g) = []
declared_in (Definition f) = []
declared_in (Declared d) = d ∷ []

abbrev left : List TypeDef → List GlobalVar → List Func → List Declaration → Left
left types globals funcs declared = record { types = types; globals = globals; funcs = funcs; declared = declared }

abbrev pub left_of : List Entity → Left
left_of es = left (flat_map type_in es) (flat_map global_in es) (flat_map func_in es) (flat_map declared_in es)

-- what the next ones of each kind ask
abbrev pub demands_left : List (List ℕ) → Left → Demands
demands_left symbols l = record {
  types = map type_demand l.types;
  globals = map global_demand l.globals;
  funcs = map func_demand l.funcs;
  declared = map (declaration_demand symbols) l.declared;
}

-- no line of the layout or the triple
abbrev pub IsPart : Entity → Type 0
IsPart (TargetLine w said) = ⊥
IsPart (DefinedType d) = Unit {0}
IsPart (Variable g) = Unit {0}
IsPart (Definition f) = Unit {0}
IsPart (Declared d) = Unit {0}

-- an entity is there, and these are the others
abbrev Taken : List Entity → Entity → List Entity → Type 0
Taken es e others = (before after : List Entity) × (es ≡ before ++ e ∷ after) × (before ++ after ≡ others)

every_taken : (P : Entity → Type 0) (before : List Entity) (e : Entity) (after : List Entity) → Every P (before ++ e ∷ after) → P e × Every P (before ++ after)
every_taken P [] e after h = h
every_taken P (x ∷ before) e after h = let k = every_taken P before e after h.1 in (k.0, (h.0, k.1))

-- parts of one kind: the first one is taken
module _ {A : Type 0} (made : A → Entity) (own : Entity → List A) (by : (e : Entity) → (own e ≡ []) ⊎ ((a : A) × (e ≡ made a) × (own e ≡ a ∷ []))) where
  abbrev First : List Entity → A → List A → Type 0
  First es a more = (before after : List Entity) × (es ≡ before ++ made a ∷ after) × (flat_map own (before ++ after) ≡ more)

  first : (es : List Entity) (a : A) (more : List A) → flat_map own es ≡ a ∷ more → First es a more
  first [] a more h = absurd cc
  first (e ∷ es) a more h = at (λ k. first es a more k) (by e)
    where
      at : (flat_map own es ≡ a ∷ more → First es a more) → (own e ≡ []) ⊎ ((x : A) × (e ≡ made x) × (own e ≡ x ∷ [])) → First (e ∷ es) a more
      at next (inl z) =
          let q = next (ap (λ xs. xs ++ flat_map own es) (sym z) ∙ h) in
          (e ∷ q.0, q.1, ap (λ (ys : List Entity). e ∷ ys) q.2, ap (λ xs. xs ++ flat_map own (q.0 ++ q.1)) z ∙ q.3)
      at next (inr z) =
          let whole : z.0 ∷ flat_map own es ≡ a ∷ more = ap (λ xs. xs ++ flat_map own es) (sym z.2) ∙ h in
          let here : z.0 ≡ a = cc in
          let rest : flat_map own es ≡ more = cc in
          ([], es, ap (λ (y : Entity). y ∷ es) (z.1 ∙ ap made here), rest)

-- the parts of the other kinds stay
others_stay : {A : Type 0} (own : Entity → List A) (before : List Entity) (e : Entity) (after : List Entity) → own e ≡ [] → flat_map own (before ++ after) ≡ flat_map own (before ++ e ∷ after)
others_stay own [] e after z = ap (λ xs. xs ++ flat_map own after) (sym z)
others_stay own (x ∷ before) e after z = ap (λ xs. own x ++ xs) (others_stay own before e after z)

type_by : (e : Entity) → (type_in e ≡ []) ⊎ ((a : TypeDef) × (e ≡ DefinedType a) × (type_in e ≡ a ∷ []))
type_by (TargetLine w said) = inl refl
type_by (DefinedType d) = inr (d, refl, refl)
type_by (Variable g) = inl refl
type_by (Definition f) = inl refl
type_by (Declared d) = inl refl

global_by : (e : Entity) → (global_in e ≡ []) ⊎ ((a : GlobalVar) × (e ≡ Variable a) × (global_in e ≡ a ∷ []))
global_by (TargetLine w said) = inl refl
global_by (DefinedType d) = inl refl
global_by (Variable g) = inr (g, refl, refl)
global_by (Definition f) = inl refl
global_by (Declared d) = inl refl

func_by : (e : Entity) → (func_in e ≡ []) ⊎ ((a : Func) × (e ≡ Definition a) × (func_in e ≡ a ∷ []))
func_by (TargetLine w said) = inl refl
func_by (DefinedType d) = inl refl
func_by (Variable g) = inl refl
func_by (Definition f) = inr (f, refl, refl)
func_by (Declared d) = inl refl

declared_by : (e : Entity) → (declared_in e ≡ []) ⊎ ((a : Declaration) × (e ≡ Declared a) × (declared_in e ≡ a ∷ []))
declared_by (TargetLine w said) = inl refl
declared_by (DefinedType d) = inl refl
declared_by (Variable g) = inl refl
declared_by (Definition f) = inl refl
declared_by (Declared d) = inr (d, refl, refl)

pub same_left : {t t2 : List TypeDef} {g g2 : List GlobalVar} {f f2 : List Func} {d d2 : List Declaration} → t ≡ t2 → g ≡ g2 → f ≡ f2 → d ≡ d2 → left t g f d ≡ left t2 g2 f2 d2
same_left {t = t} {t2 = t2} {g = g} {g2 = g2} {f = f} {f2 = f2} {d = d} {d2 = d2} a b c e =
    ap (λ (x : List TypeDef). left x g f d) a ∙ ap (λ (x : List GlobalVar). left t2 x f d) b ∙ ap (λ (x : List Func). left t2 g2 x d) c ∙ ap (λ (x : List Declaration). left t2 g2 f2 x) e

length_without : (before : List Entity) (e : Entity) (after : List Entity) (n : ℕ) → length (before ++ e ∷ after) ≡ suc n → length (before ++ after) ≡ n
length_without before e after n h = let a = length-append before (e ∷ after) in let b = length-append before after in omega arith

-- ---- names that are known

abbrev Grows : Known → Known → Type 0
Grows k l = (k.symbols ≤ l.symbols) × (k.types ≤ l.types)

fits_more : (k l : Known) (d : Demand) → Grows k l → fits k d ≡ true → fits l d ≡ true
fits_more k l d g h = let a = g.0 in let b = g.1 in grind (arith, nat_tests)

grown : (k : Known) (d : Demand) → Grows k (known_beyond k d)
grown k d = (omega arith, omega arith)

max_swap : (a b c : ℕ) → max (max a b) c ≡ max (max a c) b
max_swap a b c = omega arith

abbrev known_of : ℕ → ℕ → Known
known_of symbols types = record { symbols = symbols; types = types }

same_known : (a b c d : ℕ) → a ≡ b → c ≡ d → known_of a c ≡ known_of b d
same_known a b c d e f = ap₂ known_of e f

known_swap : (k : Known) (d e : Demand) → known_beyond (known_beyond k d) e ≡ known_beyond (known_beyond k e) d
known_swap k d e = same_known _ _ _ _ (max_swap k.symbols d.symbols.reach e.symbols.reach) (max_swap k.types d.types.reach e.types.reach)

module _ (symbols : List (List ℕ)) where
  abbrev pub demand_of : Entity → Demand
  demand_of e = demand (entity_marks symbols e)

  -- each finds the names before its own, from what is known
  abbrev pub Fitted : Known → List Entity → Type 0
  Fitted k [] = Unit {0}
  Fitted k (e ∷ es) = (fits k (demand_of e) ≡ true) × Fitted (known_beyond k (demand_of e)) es

  abbrev pub known_after : Known → List Entity → Known
  known_after k [] = k
  known_after k (e ∷ es) = known_after (known_beyond k (demand_of e)) es

  fitted_without : (before : List Entity) (k : Known) (e : Entity) (after : List Entity) → Fitted k (before ++ e ∷ after) → fits k (demand_of e) ≡ true → Fitted (known_beyond k (demand_of e)) (before ++ after)
  fitted_without [] k e after h f = h.1
  fitted_without (x ∷ before) k e after h f = (
    fits_more k (known_beyond k (demand_of e)) (demand_of x) (grown k (demand_of e)) h.0,
    subst (λ (l : Known). Fitted l (before ++ after)) (known_swap k (demand_of x) (demand_of e))
        (fitted_without before (known_beyond k (demand_of x)) e after h.1 (fits_more k (known_beyond k (demand_of x)) (demand_of e) (grown k (demand_of x)) f)),
  )

  known_without : (before : List Entity) (k : Known) (e : Entity) (after : List Entity) → known_after (known_beyond k (demand_of e)) (before ++ after) ≡ known_after k (before ++ e ∷ after)
  known_without [] k e after = refl
  known_without (x ∷ before) k e after = ap (λ (l : Known). known_after l (before ++ after)) (known_swap k (demand_of e) (demand_of x)) ∙ known_without before (known_beyond k (demand_of x)) e after

  -- ---- one order and another

  -- entities in another order, in which each finds the names before its own: the parts of each kind stand in the same order
  pub record Ordered (P : Entity → Type 0) (k : Known) (es others : List Entity) : Type 0 where
    pub fitted : Fitted k others
    pub known : known_after k others ≡ known_after k es
    pub parts : left_of others ≡ left_of es
    pub every : Every P others
    pub part : Every IsPart others

  abbrev in_turn : ℕ → Known → Left → List Entity
  in_turn n k l = placed (turns n k (demands_left symbols l)) l

  -- an entity is the next one, and the others come after it
  one_turn : (P : Entity → Type 0) (n : ℕ) (k : Known) (es : List Entity) (kind : Kind) (e : Entity) (others : List Entity) →
      turn k (demands_left symbols (left_of es)) ≡ Some kind →
      first_known k (queue_of kind (demands_left symbols (left_of es))) ≡ known_beyond k (demand_of e) →
      without_first kind (demands_left symbols (left_of es)) ≡ demands_left symbols (left_of others) →
      ((ks : List Kind) → placed (kind ∷ ks) (left_of es) ≡ e ∷ placed ks (left_of others)) →
      fits k (demand_of e) ≡ true → Taken es e others → IsPart e →
      ((xs : List Entity) → left_of xs ≡ left_of others → left_of (e ∷ xs) ≡ left_of es) →
      Every P es → Fitted k es →
      (Every P others → Fitted (known_beyond k (demand_of e)) others → Ordered P (known_beyond k (demand_of e)) others (in_turn n (known_beyond k (demand_of e)) (left_of others))) →
      Ordered P k es (in_turn (suc n) k (left_of es))
  one_turn P n k es kind e others turned known rest placing fit taken part parts every fitted more =
      let next = known_beyond k (demand_of e) in
      let moved = every_taken P taken.0 e taken.1 (subst (Every P) taken.2 every) in
      let others_fit = subst (Fitted next) taken.3 (fitted_without taken.0 k e taken.1 (subst (Fitted k) taken.2 fitted) fit) in
      let h = more (subst (Every P) taken.3 moved.1) others_fit in
      let same : e ∷ in_turn n next (left_of others) ≡ in_turn (suc n) k (left_of es) =
      sym (placing (turns n next (demands_left symbols (left_of others))))
      ∙ ap (λ (q : Demands). placed (kind ∷ turns n next q) (left_of es)) (sym rest)
      ∙ ap (λ (l : Known). placed (kind ∷ turns n l (without_first kind (demands_left symbols (left_of es)))) (left_of es)) (sym known)
      ∙ ap (λ (t : Option Kind). placed (option_map_or (λ (x : Kind). x ∷ turns n (first_known k (queue_of x (demands_left symbols (left_of es)))) (without_first x (demands_left symbols (left_of es)))) t []) (left_of es)) (sym turned) in
      subst (Ordered P k es) same (record {
        fitted = (fit, h.fitted);
        known = h.known ∙ ap (λ (xs : List Entity). known_after next xs) (sym taken.3) ∙ known_without taken.0 k e taken.1 ∙ ap (λ (xs : List Entity). known_after k xs) (sym taken.2);
        parts = parts (in_turn n next (left_of others)) h.parts;
        every = (moved.0, h.every);
        part = (part, h.part);
      })

  -- ---- whose turn it is

  -- the first of a list fits
  head_fits : {A : Type 0} (asks : A → Demand) (k : Known) (xs : List A) → first_fits k (map asks xs) ≡ true → (a : A) × (as' : List A) × (xs ≡ a ∷ as') × (fits k (asks a) ≡ true)
  head_fits asks k [] h = absurd cc
  head_fits asks k (a ∷ as') h = (a, as', refl, h)

  abbrev next_kind : Bool → Bool → Bool → Bool → Option Kind → Option Kind
  next_kind a b c d o = if a then Some kinds.Type else (if b then Some kinds.Global else (if c then Some kinds.Func else (if d then Some kinds.Declared else o)))

  -- the first entity is the next one of its kind
  some_fits : (k : Known) (e : Entity) (es : List Entity) → IsPart e → fits k (demand_of e) ≡ true →
      first_fits k (map type_demand (flat_map type_in (e ∷ es))) ≡ false → first_fits k (map global_demand (flat_map global_in (e ∷ es))) ≡ false →
      first_fits k (map func_demand (flat_map func_in (e ∷ es))) ≡ false → first_fits k (map (declaration_demand symbols) (flat_map declared_in (e ∷ es))) ≡ false → ⊥
  some_fits k (TargetLine w said) es part f a b c d = part
  some_fits k (DefinedType x) es part f a b c d = let e = sym f ∙ a in cc
  some_fits k (Variable x) es part f a b c d = let e = sym f ∙ b in cc
  some_fits k (Definition x) es part f a b c d = let e = sym f ∙ c in cc
  some_fits k (Declared x) es part f a b c d = let e = sym f ∙ d in cc

  module _ (P : Entity → Type 0) (n : ℕ) (k : Known) (es : List Entity) (size : length es ≡ suc n) (part : Every IsPart es) (every : Every P es) (fitted : Fitted k es)
      (more : (l : Known) (others : List Entity) → length others ≡ n → Every IsPart others → Every P others → Fitted l others → Ordered P l others (in_turn n l (left_of others))) where
    abbrev q : Demands
    q = demands_left symbols (left_of es)

    -- what comes after an entity that is taken
    after_it : (e : Entity) (others : List Entity) → Taken es e others → Every P others → Fitted (known_beyond k (demand_of e)) others → Ordered P (known_beyond k (demand_of e)) others (in_turn n (known_beyond k (demand_of e)) (left_of others))
    after_it e others t others_every others_fit =
        more (known_beyond k (demand_of e)) others (ap length (sym t.3) ∙ length_without t.0 e t.1 n (ap length (sym t.2) ∙ size))
        (subst (Every IsPart) t.3 (every_taken IsPart t.0 e t.1 (subst (Every IsPart) t.2 part)).1) others_every others_fit

    type_turn : first_fits k q.types ≡ true → Ordered P k es (in_turn (suc n) k (left_of es))
    type_turn a =
        let h = head_fits type_demand k (flat_map type_in es) a in
        let x = h.0 in
        let p = first DefinedType type_in type_by es x h.1 h.2 in
        let others = p.0 ++ p.1 in
        let e = DefinedType x in
        let same : left_of es ≡ left (x ∷ h.1) (flat_map global_in others) (flat_map func_in others) (flat_map declared_in others) =
        same_left h.2 (ap (flat_map global_in) p.2 ∙ sym (others_stay global_in p.0 e p.1 refl)) (ap (flat_map func_in) p.2 ∙ sym (others_stay func_in p.0 e p.1 refl)) (ap (flat_map declared_in) p.2 ∙ sym (others_stay declared_in p.0 e p.1 refl)) in
        let less : left h.1 (flat_map global_in others) (flat_map func_in others) (flat_map declared_in others) ≡ left_of others = same_left (sym p.3) refl refl refl in
        let t : Taken es e others = (p.0, p.1, p.2, refl) in
        one_turn P n k es kinds.Type e others
        (ap (λ (b : Bool). next_kind b (first_fits k q.globals) (first_fits k q.funcs) (first_fits k q.declared) (first_left q)) a)
        (ap (λ (l : Left). first_known k (queue_of kinds.Type (demands_left symbols l))) same)
        (ap (λ (l : Left). without_first kinds.Type (demands_left symbols l)) same ∙ ap (demands_left symbols) less)
        (λ ks. ap (placed (kinds.Type ∷ ks)) same ∙ ap (λ (l : Left). e ∷ placed ks l) less)
        h.3 t tt
        (λ xs g. ap (λ (l : Left). left (x ∷ l.types) l.globals l.funcs l.declared) (g ∙ sym less) ∙ sym same)
        every fitted (after_it e others t)

    global_turn : first_fits k q.types ≡ false → first_fits k q.globals ≡ true → Ordered P k es (in_turn (suc n) k (left_of es))
    global_turn a b =
        let h = head_fits global_demand k (flat_map global_in es) b in
        let x = h.0 in
        let p = first Variable global_in global_by es x h.1 h.2 in
        let others = p.0 ++ p.1 in
        let e = Variable x in
        let same : left_of es ≡ left (flat_map type_in others) (x ∷ h.1) (flat_map func_in others) (flat_map declared_in others) =
        same_left (ap (flat_map type_in) p.2 ∙ sym (others_stay type_in p.0 e p.1 refl)) h.2 (ap (flat_map func_in) p.2 ∙ sym (others_stay func_in p.0 e p.1 refl)) (ap (flat_map declared_in) p.2 ∙ sym (others_stay declared_in p.0 e p.1 refl)) in
        let less : left (flat_map type_in others) h.1 (flat_map func_in others) (flat_map declared_in others) ≡ left_of others = same_left refl (sym p.3) refl refl in
        let t : Taken es e others = (p.0, p.1, p.2, refl) in
        one_turn P n k es kinds.Global e others
        (ap (λ (z : Bool). next_kind z (first_fits k q.globals) (first_fits k q.funcs) (first_fits k q.declared) (first_left q)) a ∙ ap (λ (z : Bool). next_kind false z (first_fits k q.funcs) (first_fits k q.declared) (first_left q)) b)
        (ap (λ (l : Left). first_known k (queue_of kinds.Global (demands_left symbols l))) same)
        (ap (λ (l : Left). without_first kinds.Global (demands_left symbols l)) same ∙ ap (demands_left symbols) less)
        (λ ks. ap (placed (kinds.Global ∷ ks)) same ∙ ap (λ (l : Left). e ∷ placed ks l) less)
        h.3 t tt
        (λ xs g. ap (λ (l : Left). left l.types (x ∷ l.globals) l.funcs l.declared) (g ∙ sym less) ∙ sym same)
        every fitted (after_it e others t)

    func_turn : first_fits k q.types ≡ false → first_fits k q.globals ≡ false → first_fits k q.funcs ≡ true → Ordered P k es (in_turn (suc n) k (left_of es))
    func_turn a b c =
        let h = head_fits func_demand k (flat_map func_in es) c in
        let x = h.0 in
        let p = first Definition func_in func_by es x h.1 h.2 in
        let others = p.0 ++ p.1 in
        let e = Definition x in
        let same : left_of es ≡ left (flat_map type_in others) (flat_map global_in others) (x ∷ h.1) (flat_map declared_in others) =
        same_left (ap (flat_map type_in) p.2 ∙ sym (others_stay type_in p.0 e p.1 refl)) (ap (flat_map global_in) p.2 ∙ sym (others_stay global_in p.0 e p.1 refl)) h.2 (ap (flat_map declared_in) p.2 ∙ sym (others_stay declared_in p.0 e p.1 refl)) in
        let less : left (flat_map type_in others) (flat_map global_in others) h.1 (flat_map declared_in others) ≡ left_of others = same_left refl refl (sym p.3) refl in
        let t : Taken es e others = (p.0, p.1, p.2, refl) in
        one_turn P n k es kinds.Func e others
        (ap (λ (z : Bool). next_kind z (first_fits k q.globals) (first_fits k q.funcs) (first_fits k q.declared) (first_left q)) a ∙ ap (λ (z : Bool). next_kind false z (first_fits k q.funcs) (first_fits k q.declared) (first_left q)) b
        ∙ ap (λ (z : Bool). next_kind false false z (first_fits k q.declared) (first_left q)) c)
        (ap (λ (l : Left). first_known k (queue_of kinds.Func (demands_left symbols l))) same)
        (ap (λ (l : Left). without_first kinds.Func (demands_left symbols l)) same ∙ ap (demands_left symbols) less)
        (λ ks. ap (placed (kinds.Func ∷ ks)) same ∙ ap (λ (l : Left). e ∷ placed ks l) less)
        h.3 t tt
        (λ xs g. ap (λ (l : Left). left l.types l.globals (x ∷ l.funcs) l.declared) (g ∙ sym less) ∙ sym same)
        every fitted (after_it e others t)

    declared_turn : first_fits k q.types ≡ false → first_fits k q.globals ≡ false → first_fits k q.funcs ≡ false → first_fits k q.declared ≡ true → Ordered P k es (in_turn (suc n) k (left_of es))
    declared_turn a b c d =
        let h = head_fits (declaration_demand symbols) k (flat_map declared_in es) d in
        let x = h.0 in
        let p = first Declared declared_in declared_by es x h.1 h.2 in
        let others = p.0 ++ p.1 in
        let e = Declared x in
        let same : left_of es ≡ left (flat_map type_in others) (flat_map global_in others) (flat_map func_in others) (x ∷ h.1) =
        same_left (ap (flat_map type_in) p.2 ∙ sym (others_stay type_in p.0 e p.1 refl)) (ap (flat_map global_in) p.2 ∙ sym (others_stay global_in p.0 e p.1 refl)) (ap (flat_map func_in) p.2 ∙ sym (others_stay func_in p.0 e p.1 refl)) h.2 in
        let less : left (flat_map type_in others) (flat_map global_in others) (flat_map func_in others) h.1 ≡ left_of others = same_left refl refl refl (sym p.3) in
        let t : Taken es e others = (p.0, p.1, p.2, refl) in
        one_turn P n k es kinds.Declared e others
        (ap (λ (z : Bool). next_kind z (first_fits k q.globals) (first_fits k q.funcs) (first_fits k q.declared) (first_left q)) a ∙ ap (λ (z : Bool). next_kind false z (first_fits k q.funcs) (first_fits k q.declared) (first_left q)) b
        ∙ ap (λ (z : Bool). next_kind false false z (first_fits k q.declared) (first_left q)) c ∙ ap (λ (z : Bool). next_kind false false false z (first_left q)) d)
        (ap (λ (l : Left). first_known k (queue_of kinds.Declared (demands_left symbols l))) same)
        (ap (λ (l : Left). without_first kinds.Declared (demands_left symbols l)) same ∙ ap (demands_left symbols) less)
        (λ ks. ap (placed (kinds.Declared ∷ ks)) same ∙ ap (λ (l : Left). e ∷ placed ks l) less)
        h.3 t tt
        (λ xs g. ap (λ (l : Left). left l.types l.globals l.funcs (x ∷ l.declared)) (g ∙ sym less) ∙ sym same)
        every fitted (after_it e others t)

    none_fits : first_fits k q.types ≡ false → first_fits k q.globals ≡ false → first_fits k q.funcs ≡ false → first_fits k q.declared ≡ false → ⊥
    none_fits a b c d = at es size part fitted a b c d
      where
        at : (xs : List Entity) → length xs ≡ suc n → Every IsPart xs → Fitted k xs →
            first_fits k (map type_demand (flat_map type_in xs)) ≡ false → first_fits k (map global_demand (flat_map global_in xs)) ≡ false →
            first_fits k (map func_demand (flat_map func_in xs)) ≡ false → first_fits k (map (declaration_demand symbols) (flat_map declared_in xs)) ≡ false → ⊥
        at [] s i f = absurd (omega (arith, s))
        at (x ∷ xs) s i f = some_fits k x xs i.0 f.0

    next_turn : Ordered P k es (in_turn (suc n) k (left_of es))
    next_turn = by_types (first_fits k q.types) refl
      where
        by_declared : (z : Bool) → first_fits k q.declared ≡ z → first_fits k q.types ≡ false → first_fits k q.globals ≡ false → first_fits k q.funcs ≡ false → Ordered P k es (in_turn (suc n) k (left_of es))
        by_declared true d a b c = declared_turn a b c d
        by_declared false d a b c = absurd (none_fits a b c d)

        by_funcs : (z : Bool) → first_fits k q.funcs ≡ z → first_fits k q.types ≡ false → first_fits k q.globals ≡ false → Ordered P k es (in_turn (suc n) k (left_of es))
        by_funcs true c a b = func_turn a b c
        by_funcs false c a b = by_declared (first_fits k q.declared) refl a b c

        by_globals : (z : Bool) → first_fits k q.globals ≡ z → first_fits k q.types ≡ false → Ordered P k es (in_turn (suc n) k (left_of es))
        by_globals true b a = global_turn a b
        by_globals false b a = by_funcs (first_fits k q.funcs) refl a b

        by_types : (z : Bool) → first_fits k q.types ≡ z → Ordered P k es (in_turn (suc n) k (left_of es))
        by_types true a = type_turn a
        by_types false a = by_globals (first_fits k q.globals) refl a

  ordered : (P : Entity → Type 0) (n : ℕ) (k : Known) (es : List Entity) → length es ≡ n → Every IsPart es → Every P es → Fitted k es → Ordered P k es (in_turn n k (left_of es))
  ordered P zero k [] size part every fitted = record { fitted = tt; known = refl; parts = refl; every = tt; part = tt }
  ordered P zero k (e ∷ es) size part every fitted = absurd (omega (arith, size))
  ordered P (suc n) k es size part every fitted = next_turn P n k es size part every fitted (λ l others s p h f. ordered P n l others s p h f)

  -- as many entities as there are left
  count_left : (es : List Entity) → Every IsPart es → length es ≡ count (demands_left symbols (left_of es))
  count_left [] h = refl
  count_left (TargetLine w said ∷ es) h = absurd h.0
  count_left (DefinedType d ∷ es) h = let k = count_left es h.1 in omega arith
  count_left (Variable g ∷ es) h = let k = count_left es h.1 in omega arith
  count_left (Definition f ∷ es) h = let k = count_left es h.1 in omega arith
  count_left (Declared d ∷ es) h = let k = count_left es h.1 in omega arith

  pub in_order : (P : Entity → Type 0) (k : Known) (es : List Entity) → Every IsPart es → Every P es → Fitted k es → Ordered P k es (placed (turns (count (demands_left symbols (left_of es))) k (demands_left symbols (left_of es))) (left_of es))
  in_order P k es part every fitted = ordered P (count (demands_left symbols (left_of es))) k es (count_left es part) part every fitted
