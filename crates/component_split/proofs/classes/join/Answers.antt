use Rattle.std.proofs.Common.{◌≡◌, ℕ, sym, subst, ap, ap₂, ◌∙◌, arith}
use Rattle.std.specs.Prelude.{slice_index}
use Rattle.component_split.specs.Split.{merged}
use Rattle.component_split.specs.Classes.{root}
use Rattle.component_split.proofs.Rooted.{is_root, written, merged_back}
use Rattle.component_split.proofs.classes.join.Goals as goal

pub returns-then-a-b-clause-roots : goal.returns-then-a-b-clause-roots
returns-then-a-b-clause-roots c = λ f.
    let ps = c.find-b.new.parents.items in
    let same : (x : ℕ) → root ps x ≡ root c.args.parents.now.items x = λ x. c.find-b.ensures.same x ∙ c.find-a.ensures.same x in
    let ea : c.find-a.result ≡ root ps c.args.x = c.find-a.ensures.root ∙ sym (same c.args.x) in
    let eb : c.find-b.result ≡ root ps c.args.y = c.find-b.ensures.root ∙ sym (c.find-b.ensures.same c.args.y) in
    let ra = subst (λ y. slice_index ps y ≡ y) (sym ea) (is_root ps c.find-b.ensures.parents c.args.x c.args.x (omega arith)) in
    let rb = subst (λ y. slice_index ps y ≡ y) (sym eb) (is_root ps c.find-b.ensures.parents c.args.y c.args.y (omega arith)) in
    let l = c.find-b.ensures.low in let w = c.requires.y in let n = c.find-b.ensures.length in let m = c.find-a.ensures.length in
    written ps c.find-a.result c.find-b.result c.find-b.ensures.parents ra rb c.if-a-b.true (omega (arith, l, w, n, m)) f ∙ ap₂ (λ u v. merged u v (root ps f)) (ea ∙ same c.args.x) (eb ∙ same c.args.y) ∙ ap (merged (root c.args.parents.now.items c.args.x) (root c.args.parents.now.items c.args.y)) (same f)

pub returns-then-b-a-clause-roots : goal.returns-then-b-a-clause-roots
returns-then-b-a-clause-roots c = λ f.
    let ps = c.find-b.new.parents.items in
    let same : (x : ℕ) → root ps x ≡ root c.args.parents.now.items x = λ x. c.find-b.ensures.same x ∙ c.find-a.ensures.same x in
    let ea : c.find-a.result ≡ root ps c.args.x = c.find-a.ensures.root ∙ sym (same c.args.x) in
    let eb : c.find-b.result ≡ root ps c.args.y = c.find-b.ensures.root ∙ sym (c.find-b.ensures.same c.args.y) in
    let ra = subst (λ y. slice_index ps y ≡ y) (sym ea) (is_root ps c.find-b.ensures.parents c.args.x c.args.x (omega arith)) in
    let rb = subst (λ y. slice_index ps y ≡ y) (sym eb) (is_root ps c.find-b.ensures.parents c.args.y c.args.y (omega arith)) in
    let l = c.find-a.ensures.low in let w = c.requires.x in let n = c.find-b.ensures.length in let m = c.find-a.ensures.length in
    written ps c.find-b.result c.find-a.result c.find-b.ensures.parents rb ra c.if-b-a.true (omega (arith, l, w, n, m)) f ∙ merged_back c.find-b.result c.find-a.result (root ps f) ∙ ap₂ (λ u v. merged u v (root ps f)) (ea ∙ same c.args.x) (eb ∙ same c.args.y) ∙ ap (merged (root c.args.parents.now.items c.args.x) (root c.args.parents.now.items c.args.y)) (same f)
