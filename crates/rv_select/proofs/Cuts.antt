-- The extension of a narrow word by zeros.
use Rattle.std.proofs.Common.{◌≡◌, ℕ, ◌+◌, ◌*◌, ◌/◌, ◌%◌, refl, ap, subst, arith, length, bit_and}
use Rattle.std.proofs.lemmas.Nat.{and_mask}
use Rattle.oi_base.specs.declared.words.Width.{Width}
use Rattle.oi_base.specs.declared.words.Width.TheVariants.{W1, W8, W16, W32}
use Rattle.oi_base.specs.Words.{modulus}
use Rattle.rv_isa.specs.Memory.{Segments}
use Rattle.rv_isa.specs.Isa.{Machine, sets}
use Rattle.rv_isa.specs.Laws.{Kept, Holds}
use Rattle.rv_select.specs.Parts.{zero_extend}
use Rattle.rv_select.proofs.Items.{Mid, Got, sets_runs, then_sets, ends_at}

-- what the extension by zeros leaves of a word
abbrev pub cut : Width → ℕ → ℕ
cut W1 a = bit_and a 1
cut W8 a = bit_and a 255
cut W16 a = ((a * 65536) % 4294967296) / 65536
cut W32 a = a

pub cut_low : (w : Width) (a : ℕ) → cut w a % 4294967296 ≡ a % modulus w
cut_low W1 a = let e : bit_and a 1 ≡ a % 2 = and_mask a 1 in omega arith
cut_low W8 a = let e : bit_and a 255 ≡ a % 256 = and_mask a 8 in omega arith
cut_low W16 a = omega arith
cut_low W32 a = refl

pub zero_runs : (s : Segments) (m : Machine) (kept : Kept s m) (w : Width) (m1 : Machine) (pc sp : ℕ) → Mid s m m1 pc sp → Holds s pc (zero_extend w 5) → Got s m m1 (pc + 4 * length (zero_extend w 5)) sp 5 (cut w (m1.registers 5))
zero_runs s m kept W1 m1 pc sp mid has = sets_runs s m kept m1 pc sp _ _ 5 (λ z. absurd (omega arith)) mid has.0 refl
zero_runs s m kept W8 m1 pc sp mid has = sets_runs s m kept m1 pc sp _ _ 5 (λ z. absurd (omega arith)) mid has.0 refl
zero_runs s m kept W16 m1 pc sp mid has =
    let u = (m1.registers 5 * 65536) % 4294967296 in
    let g = sets_runs s m kept m1 pc sp u _ 5 (λ z. absurd (omega arith)) mid has.0 refl in
    let g' = sets_runs s m kept g.after (pc + 4) sp (u / 65536) _ 5 (λ z. absurd (omega arith)) g.mid has.1.0 (ap (λ (y : ℕ). sets g.after 5 (y / 65536)) g.value) in
    ends_at s m kept m1 _ _ sp 5 _ (omega arith) (then_sets s m kept m1 (pc + 4) sp 5 _ _ g (pc + 4 + 4) g')
zero_runs s m kept W32 m1 pc sp mid has =
    record { after = m1; mid = subst (λ n. Mid s m m1 n sp) (let e : pc ≡ pc + 0 = omega arith in e) mid; value = refl; others = λ q h. refl }
