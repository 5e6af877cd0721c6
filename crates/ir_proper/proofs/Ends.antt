-- What a reading has to do with the names at its end alone.
use Rattle.std.proofs.Common.{ℕ, zero, suc, List}
use Rattle.ir_grammar.specs.Pieces.{Piece}
use Rattle.ir_grammar.specs.Names.{Names}
use Rattle.ir_grammar.specs.Sets.{Set}
use Rattle.ir_grammar.specs.Forms.{Form, ◌>>=◌, Rounds, rounds}

-- what is read and the names after it are so
pub record Ends {A : Type 0} (f : Form A) (Q : A → Names → Type 0) : Type 0 where
  pub so : (s : Names) (u : List Piece) (a : A) (t : Names) → f.reads s u a t → Q a t

pub ends_then : {A B : Type 0} (f : Form A) {g : A → Form B} {Q : B → Names → Type 0} → ((a : A) → Ends (g a) Q) → Ends (f >>= g) Q
ends_then f h = record { so = λ s u b t r. (h r.0).so r.1 r.3 b t r.6 }

pub ends_rounds : {X Y : Type 0} (z : X → Set) (go : X → Form X) {stop : X → Form Y} {Q : Y → Names → Type 0} → ((x : X) → Ends (stop x) Q) → (x : X) → Ends (rounds z go stop x) Q
ends_rounds {X = X} {Y = Y} z go {stop = stop} {Q = Q} h x0 = record { so = λ s u y t r. at r.0 x0 s u y t r.1 }
  where
    at : (m : ℕ) (x : X) (s : Names) (u : List Piece) (y : Y) (t : Names) → Rounds go stop m x s u y t → Q y t
    at zero x s u y t r = (h x).so s u y t r
    at (suc m) x s u y t r = at m r.0 r.1 r.3 y t r.6
