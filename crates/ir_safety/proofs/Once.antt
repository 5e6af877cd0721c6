-- Lists in which no number stands twice: made of others, of parts, and by a function; and the names of a function, of which none
-- stands twice.
use Rattle.std.proofs.Common.{◌≡◌, ◌≢◌, inl, inr, ℕ, List, [], ◌∷◌, ◌++◌, map, Option, Some, None, refl, sym, ap, ◌∙◌, subst, arith}
use Rattle.std.specs.Prelude.{AllPairs}
use Rattle.std.specs.List.{flat_map, filter_map, cons_option, AllByRecursion as Each}
use Rattle.std.proofs.lemmas.List.{map-append}
use Rattle.std.proofs.lemmas.List.Concat.{flat_map_single}
use Rattle.std.proofs.lemmas.List.Elements.{All-from_recursion}
use Rattle.std.proofs.lemmas.List.Kept.{AllPairs-cons}
use Rattle.ir_core.specs.declared.module.Module.{Module}
use Rattle.ir_core.specs.declared.op.LocalId.{LocalId}
use Rattle.ir_core.specs.declared.func.Instr.{Instr}
use Rattle.ir_core.specs.declared.func.Block.{Block}
use Rattle.ir_core.specs.declared.func.Func.{Func}
use Rattle.ir_core.specs.declared.func.Param.{Param}
use Rattle.ir_core.specs.Plain.{results, registers}
use Rattle.ir_core.specs.Valid.{IsValidFunc}
use Rattle.ir_core.specs.ValidFunc.{LocalAt, instr_local, block_locals_at, locals_at}
use Rattle.ir_core.proofs.Lists.{Has, Apart, each_of, each_from, has_part, apart_left, apart_right, apart_across, apart_mapped, mapped_parts, map_source}
use Rattle.ir_core.proofs.SoundRules.{key, same_name}
use Rattle.ir_safety.proofs.Elements.{each_joined, in_part, mapped_twice}

-- ---- lists

each_between : {A : Type 0} (P : A → Type 0) (xs ys : List A) (x : A) → Each P (xs ++ ys) → P x → Each P (xs ++ x ∷ ys)
each_between P [] ys x e p = (p, e)
each_between P (z ∷ zs) ys x e p = (e.0, each_between P zs ys x e.1 p)

-- with one more number in the middle
pub apart_between : (xs ys : List ℕ) (x : ℕ) → Apart (xs ++ ys) → Each (λ y. x ≢ y) (xs ++ ys) → Apart (xs ++ x ∷ ys)
apart_between [] ys x a e = (e, a)
apart_between (z ∷ zs) ys x a e = (each_between (λ y. z ≢ y) zs ys x a.0 (λ same. e.0 (sym same)), apart_between zs ys x a.1 e.1)

apart_joined : (xs ys : List ℕ) → Apart xs → Apart ys → ((x : ℕ) → Has xs x → Each (λ y. x ≢ y) ys) → Apart (xs ++ ys)
apart_joined [] ys a b across = b
apart_joined (x ∷ xs) ys a b across = (each_joined (λ y. x ≢ y) xs ys a.0 (across x (inl refl)), apart_joined xs ys a.1 b (λ z h. across z (inr h)))

-- parts with fewer numbers
pub apart_parts : {A : Type 0} (f g : A → List ℕ) → ((x : A) → Apart (g x) → Apart (f x)) → ((x : A) (y : ℕ) → Has (f x) y → Has (g x) y) → (xs : List A) → Apart (flat_map g xs)
    → Apart (flat_map f xs)
apart_parts f g once fewer [] a = tt
apart_parts f g once fewer (x ∷ xs) a =
    apart_joined (f x) (flat_map f xs) (once x (apart_left (g x) (flat_map g xs) a)) (apart_parts f g once fewer xs (apart_right (g x) (flat_map g xs) a))
    (λ y h. each_from (λ (z : ℕ). y ≢ z) (flat_map f xs) (λ z k.
    let part = in_part f xs z k in
    let after : Each (λ (w : ℕ). y ≢ w) (flat_map g xs) = each_of (λ (v : ℕ). Each (λ (w : ℕ). v ≢ w) (flat_map g xs)) (g x) y (apart_across (g x) (flat_map g xs) a) (fewer x y h) in
    each_of (λ (w : ℕ). y ≢ w) (flat_map g xs) z after (has_part g xs part.0 z part.1 (fewer part.0 z part.2))))

-- what a function makes of different numbers, where it makes different ones of them
pub apart_made : (g : ℕ → ℕ) (xs : List ℕ) → Apart xs → ((x y : ℕ) → Has xs x → Has xs y → g x ≡ g y → x ≡ y) → Apart (map g xs)
apart_made g [] a one = tt
apart_made g (x ∷ xs) a one = (
  each_from (λ (y : ℕ). g x ≢ y) (map g xs) (λ y h e.
      let z = map_source g xs y h in
      each_of (λ (w : ℕ). x ≢ w) xs z.0 a.0 z.1 (one x z.0 (inl refl) (inr z.1) (e ∙ sym z.2))),
  apart_made g xs a.1 (λ y z h k e. one y z (inr h) (inr k) e),
)

pub pairs_differ : (xs : List ℕ) → Apart xs → AllPairs (λ (x y : ℕ). x ≢ y) xs
pairs_differ [] a = λ i j d lt within. absurd (omega (arith, lt, within))
pairs_differ (x ∷ xs) a = AllPairs-cons (λ (x y : ℕ). x ≢ y) x xs (All-from_recursion (λ (y : ℕ). x ≢ y) xs a.0) (pairs_differ xs a.1)

-- ---- the names of a function

-- those of results
abbrev pub result_names : List Instr → List ℕ
result_names code = map (λ (x : LocalId). x.0) (filter_map (λ (i : Instr). i.result) code)

abbrev pub label : Block → ℕ
label b = b.label.0

-- a block's label and its results
abbrev pub own_names : Block → List ℕ
own_names b = label b ∷ result_names b.code

abbrev pub param_names : Func → List ℕ
param_names f = map (λ (q : Param). q.name.0) f.params

first_name : (i : Instr) (r : Option LocalId) → i.result ≡ r → (xs : List LocalId) → map key (instr_local i) ++ map (λ (x : LocalId). x.0) xs ≡ map (λ (x : LocalId). x.0) (cons_option i.result xs)
first_name i None e xs = rw e refl
first_name i (Some x) e xs = rw e refl

code_names : (code : List Instr) → map key (flat_map instr_local code) ≡ result_names code
code_names [] = refl
code_names (i ∷ is) =
    map-append key (instr_local i) (flat_map instr_local is) ∙ ap (λ ys. map key (instr_local i) ++ ys) (code_names is) ∙ first_name i i.result refl (filter_map (λ (j : Instr). j.result) is)

module _ (m : Module) (f : Func) (rules : IsValidFunc m f) where
  names_once : Apart (param_names f ++ flat_map own_names f.blocks)
  names_once = subst Apart same (apart_mapped key (locals_at f) (λ i j a c lt ei ej e. rules.names c.place (i, j, a, c, lt, ei, ej, same_name a.name c.name e, refl)))
    where
      param_at : Param → LocalAt
      param_at q = record { name = q.name; place = f.place }

      same : map key (locals_at f) ≡ param_names f ++ flat_map own_names f.blocks
      same =
          map-append key (map param_at f.params) (flat_map block_locals_at f.blocks)
          ∙ ap (λ xs. xs ++ map key (flat_map block_locals_at f.blocks)) (mapped_twice key param_at f.params)
          ∙ ap (λ xs. param_names f ++ xs) (mapped_parts key block_locals_at own_names (λ b. ap (λ ys. label b ∷ ys) (code_names b.code)) f.blocks)

  -- those of blocks
  pub blocks_once : Apart (flat_map own_names f.blocks)
  blocks_once = apart_right (param_names f) (flat_map own_names f.blocks) names_once

  pub labels_once : Apart (map label f.blocks)
  labels_once = subst Apart (flat_map_single label f.blocks) (apart_parts (λ (b : Block). label b ∷ []) own_names (λ b a. (tt, tt)) alone f.blocks blocks_once)
    where
      alone : (b : Block) (y : ℕ) → Has (label b ∷ []) y → Has (own_names b) y
      alone b y (inl e) = inl e
      alone b y (inr h) = absurd h

  -- no parameter has the name of a label or a result
  pub no_param : (x : ℕ) → Has (flat_map own_names f.blocks) x → Each (λ (p : ℕ). p ≢ x) (param_names f)
  no_param x h = each_from (λ (p : ℕ). p ≢ x) (param_names f) (λ p k.
      let across = apart_across (param_names f) (flat_map own_names f.blocks) names_once in
      let away : Each (λ (y : ℕ). p ≢ y) (flat_map own_names f.blocks) = each_of (λ (v : ℕ). Each (λ (y : ℕ). v ≢ y) (flat_map own_names f.blocks)) (param_names f) p across k in
      each_of (λ (y : ℕ). p ≢ y) (flat_map own_names f.blocks) x away h)

  -- and no two registers have one name
  pub registers_once : Apart (map (λ (x : LocalId). x.0) (registers f))
  registers_once =
      subst Apart (sym same)
      (apart_joined (param_names f) written (apart_left (param_names f) (flat_map own_names f.blocks) names_once)
      (apart_parts (λ (b : Block). result_names b.code) own_names (λ b a. a.1) (λ b y h. inr h) f.blocks blocks_once) across)
    where
      written : List ℕ
      written = flat_map (λ (b : Block). result_names b.code) f.blocks

      across : (x : ℕ) → Has (param_names f) x → Each (λ y. x ≢ y) written
      across x h = each_from (λ (y : ℕ). x ≢ y) written (λ y k.
          let b = in_part (λ (b : Block). result_names b.code) f.blocks y k in
          each_of (λ (p : ℕ). p ≢ y) (param_names f) x (no_param y (has_part own_names f.blocks b.0 y b.1 (inr b.2))) h)

      same : map (λ (x : LocalId). x.0) (registers f) ≡ param_names f ++ written
      same =
          map-append (λ (x : LocalId). x.0) (map (λ (q : Param). q.name) f.params) (flat_map results f.blocks)
          ∙ ap (λ xs. xs ++ map (λ (x : LocalId). x.0) (flat_map results f.blocks)) (mapped_twice (λ (x : LocalId). x.0) (λ (q : Param). q.name) f.params)
          ∙ ap (λ xs. param_names f ++ xs) (mapped_parts (λ (x : LocalId). x.0) results (λ (b : Block). result_names b.code) (λ b. refl) f.blocks)
