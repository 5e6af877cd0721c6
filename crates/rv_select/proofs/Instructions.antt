-- Instructions one after another.
use Rattle.std.proofs.Common.{◌≡◌, List, [], ◌∷◌, ◌++◌, refl, sym, ap, ◌∙◌, append_assoc}
use Rattle.rv_isa.specs.declared.rv.Rv.{Rv}
use Rattle.rv_select.specs.declared.item.Draft.{Draft}
use Rattle.rv_select.specs.Pending.{word, words}

pub words_join : (xs ys : List Rv) → words (xs ++ ys) ≡ words xs ++ words ys
words_join [] ys = refl
words_join (x ∷ xs) ys = ap (λ (ds : List Draft). word x ∷ ds) (words_join xs ys)

-- more after what was appended
pub then : (a b c x y : List Draft) → b ≡ a ++ x → c ≡ b ++ y → c ≡ a ++ (x ++ y)
then a b c x y e f = f ∙ ap (λ (ds : List Draft). ds ++ y) e ∙ append_assoc a x y

pub then_words : (a b c : List Draft) (xs ys : List Rv) → b ≡ a ++ words xs → c ≡ b ++ words ys → c ≡ a ++ words (xs ++ ys)
then_words a b c xs ys e f = then a b c (words xs) (words ys) e f ∙ ap (λ (ds : List Draft). a ++ ds) (sym (words_join xs ys))
