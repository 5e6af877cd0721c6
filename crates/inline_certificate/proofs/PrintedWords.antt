-- Numbers of what is printed.
use Rattle.std.proofs.Common.{◌≡◌, ℕ, zero, suc, ◌+◌, ◌<◌, length, get_or, take, List, [], ◌∷◌, sym, subst, arith, add-one}
use Rattle.oi_base.specs.declared.ids.FuncId.{FuncId}
use Rattle.inline_certificate.specs.declared.nodes.CertNode.{CertNode}
use Rattle.inline_certificate.specs.Certificates.{IsWord, IsNode, AreFuncs, AreNodes}

funcs_suc : (fs : List FuncId) (i : ℕ) (d : FuncId) → i < length fs → AreFuncs (take i fs) → (let f = get_or fs i d in IsWord f.0) → AreFuncs (take (suc i) fs)
funcs_suc [] i d lt h k = absurd (omega arith)
funcs_suc (f ∷ fs) zero d lt h k = (k, tt)
funcs_suc (f ∷ fs) (suc i) d lt h k = (h.0, funcs_suc fs i d (omega arith) h.1 k)

pub next_funcs : (fs : List FuncId) (i : ℕ) (d : FuncId) → i < length fs → AreFuncs (take i fs) → (let f = get_or fs i d in IsWord f.0) → AreFuncs (take (i + 1) fs)
next_funcs fs i d lt h k = subst (λ (n : ℕ). AreFuncs (take n fs)) (sym (add-one i)) (funcs_suc fs i d lt h k)

nodes_suc : (ns : List CertNode) (i : ℕ) (d : CertNode) → i < length ns → AreNodes (take i ns) → IsNode (get_or ns i d) → AreNodes (take (suc i) ns)
nodes_suc [] i d lt h k = absurd (omega arith)
nodes_suc (n ∷ ns) zero d lt h k = (k, tt)
nodes_suc (n ∷ ns) (suc i) d lt h k = (h.0, nodes_suc ns i d (omega arith) h.1 k)

pub next_nodes : (ns : List CertNode) (i : ℕ) (n : CertNode) → i < length ns → AreNodes (take i ns) → n ≡ get_or ns i n → IsNode n → AreNodes (take (i + 1) ns)
next_nodes ns i n lt h is k = subst (λ (m : ℕ). AreNodes (take m ns)) (sym (add-one i)) (nodes_suc ns i n lt h (subst (λ (x : CertNode). IsNode x) is k))
