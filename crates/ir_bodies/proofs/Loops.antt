-- Loops whose rounds take a token at least.
use Rattle.std.proofs.Common.{◌≡◌, ◌<◌, true, length, Ok}
use Rattle.ir_grammar.specs.Sets.{Set, head_in}
use Rattle.ir_grammar.specs.Forms.{Left, Outcome, Form, rounds}
use Rattle.ir_phrases.proofs.Many.{many_less, rounds_next}
use Rattle.ir_bodies.proofs.RoundLaws.{Consumes}

pub round_less : {A : Type 0} (f : Form A) → Consumes f → (x : A) (l l1 : Left) → f.parse l ≡ Ok (x, l1) → length l1.tokens < length l.tokens
round_less f h x l l1 e = many_less f h.0 h.2 h.1 x l l1 e

pub round_next : {X Y : Type 0} (p : X → Set) (go : X → Form X) (stop : X → Form Y) → ((x : X) → Consumes (go x)) → (x x1 : X) (l l1 : Left) (o : Outcome Y) → head_in (p x) l.tokens ≡ true → (go x).parse l ≡ Ok (x1, l1) → (rounds p go stop x).parse l ≡ o → (rounds p go stop x1).parse l1 ≡ o
round_next p go stop h x x1 l l1 o inside e so_far = rounds_next p go stop (λ x. (h x).0) (λ x. (h x).2) (λ x. (h x).1) x x1 l l1 o inside e so_far
