-- What is folded against what an operation gives on words.
use Rattle.std.proofs.Common.{◌≡◌, ◌↔◌, ℕ, ◌<◌, Bool, true, nat_lt, if◌then◌else◌, [], Some, refl, sym, ap, ap₂, ◌∙◌, arith}
use Rattle.std.proofs.lemmas.Bool.Decides.{nat_tests}
use Rattle.oi_base.specs.declared.words.Width.{Width}
use Rattle.oi_base.specs.Words.{modulus}
use Rattle.ir_core.specs.declared.flat.BinOp.{BinOp}
use Rattle.ir_core.specs.declared.flat.Cmp.{Cmp}
use Rattle.ir_core.specs.declared.flat.CastOp.{CastOp}
use Rattle.ir_core.specs.declared.flat.Scalar.TheVariants as scalar
use Rattle.ir_core.specs.declared.flat.FlatOp.TheVariants as operand
use Rattle.ir_core.specs.Memory.{Bits, Memory}
use Rattle.ir_core.specs.Words.{Outcome, Known, NoWord, NoMeaning, word_op, word_test, word_cast, bit}
use Rattle.ir_core.specs.Rows.{Gives, Is, IsOther, as_word, outcome, bin_read, test_read, cast_read, bin, icmp}
use Rattle.ir_meaning.specs.declared.fold.Folded.{Folded}
use Rattle.ir_meaning.specs.declared.fold.Folded.TheVariants.{Word, Unfolded}
use Rattle.const_fold.specs.FoldConstants.{outcome_fact}
use Rattle.const_fold.specs.Results.{folded_fact}

-- a word that fits is read as one
pub read_word : (w : Width) (a : ℕ) → a < modulus w → as_word (modulus w) (Bits a) ≡ Is a
read_word w a lt = let t : nat_lt a (modulus w) ≡ true = grind (arith, nat_tests) in ap (λ (b : Bool). if b then Is a else IsOther) t

same_fact : (r : Folded) (o : Outcome) → ((x : ℕ) → (r ≡ Word x) ↔ (outcome o ≡ Gives (Bits x))) → folded_fact r ≡ outcome_fact o
same_fact (Word x) (Known y) h = let e = (h x).0 refl in let same : y ≡ x = cc in ap (λ z. Some (operand.Word z)) (sym same)
same_fact (Word x) NoWord h = let e = (h x).0 refl in absurd cc
same_fact (Word x) NoMeaning h = let e = (h x).0 refl in absurd cc
same_fact Unfolded (Known y) h = let e = (h y).1 refl in absurd cc
same_fact Unfolded NoWord h = refl
same_fact Unfolded NoMeaning h = refl

pub op_fact : (r : Folded) (op : BinOp) (w : Width) (a b : ℕ) → a < modulus w → b < modulus w → ((x : ℕ) → (r ≡ Word x) ↔ (bin op w (Bits a) (Bits b) ≡ Gives (Bits x))) → folded_fact r ≡ outcome_fact (word_op op w a b)
op_fact r op w a b lt less h =
    let e : bin op w (Bits a) (Bits b) ≡ outcome (word_op op w a b) = ap₂ (bin_read op w) (read_word w a lt) (read_word w b less) in
    same_fact r (word_op op w a b) (λ x. (λ is. sym e ∙ (h x).0 is, λ is. (h x).1 (e ∙ is)))

pub icmp_fact : (r : Folded) (c : Cmp) (w : Width) (a b : ℕ) → a < modulus w → b < modulus w → ((m : Memory) (x : ℕ) → (r ≡ Word x) ↔ (icmp m c (scalar.Word w) (Bits a) (Bits b) ≡ Gives (Bits x))) → folded_fact r ≡ Some (operand.Word (bit (word_test c w a b)))
icmp_fact r c w a b lt less h =
    let e : icmp [] c (scalar.Word w) (Bits a) (Bits b) ≡ Gives (Bits (bit (word_test c w a b))) = ap₂ (test_read c w) (read_word w a lt) (read_word w b less) in
    ap folded_fact ((h [] (bit (word_test c w a b))).1 e)

pub conversion_fact : (r : Folded) (c : CastOp) (from to : Width) (a : ℕ) → a < modulus from → ((x : ℕ) → (r ≡ Word x) ↔ (cast_read c from to (as_word (modulus from) (Bits a)) ≡ Gives (Bits x))) → folded_fact r ≡ Some (operand.Word (word_cast c from to a))
conversion_fact r c from to a lt h =
    let e : cast_read c from to (as_word (modulus from) (Bits a)) ≡ Gives (Bits (word_cast c from to a)) = ap (cast_read c from to) (read_word from a lt) in
    ap folded_fact ((h (word_cast c from to a)).1 e)
