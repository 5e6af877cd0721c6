-- Followers of followers.
use Rattle.std.proofs.Common.{◌≡◌, ℕ, ◌≤◌, ◌⊎◌, List, ◌++◌, sym, ap, ◌∙◌, subst, inl, inr, ⊎_elim, append_assoc, arith}
use Rattle.oi_base.specs.Follows.{Status, Going, Ended, Undefined, Stuck, Seen, IsLasting, IsPrefix, Agrees, Breaks, Follows}

pub prefix_trans : (xs ys zs : List ℕ) → IsPrefix xs ys → IsPrefix ys zs → IsPrefix xs zs
prefix_trans xs ys zs p q = (p.0 ++ q.0, sym (append_assoc xs p.0 q.0) ∙ ap (λ l. l ++ q.0) p.1 ∙ q.1)

-- an undefined run isn't a lasting one
pub not_undefined : (r : Status) → IsLasting r → r ≡ Undefined → ⊥
not_undefined Going h e = cc
not_undefined (Ended w) h e = cc
not_undefined Undefined h e = h
not_undefined Stuck h e = h

agrees_trans : (r s t : Seen) → Agrees r s → Agrees s t → Agrees r t
agrees_trans r s t a b = record { same_output = a.same_output ∙ b.same_output; same_status = a.same_status ∙ b.same_status; lasting = a.lasting }

-- what breaks at a follower's follower breaks at the source
breaks_on : (r s t : Seen) → Agrees r s → Breaks s t → Breaks r t
breaks_on r s t a b = record { undefined = a.same_status ∙ b.undefined; kept = subst (λ o. IsPrefix o t.output) (sym a.same_output) b.kept }

pub follows_trans : (r s t : ℕ → Seen) → Follows r s → Follows s t → Follows r t
follows_trans r s t p q = record {
  to_source = λ n. let f = q.to_source n in chained n f.0 f.1;
  to_follower = λ m lasting.
      let f = p.to_follower m lasting in
      let g = q.to_follower f.0 (subst IsLasting f.1.same_status lasting) in
      (g.0, agrees_trans (r m) (s f.0) (t g.0) f.1 g.1);
}
  where
    before : (n k : ℕ) → Breaks (s k) (t n) → (m : ℕ) × (Breaks (r m) (s k) ⊎ (Agrees (r m) (s k) × ((s k).depth ≤ (r m).depth))) → (m : ℕ) × (Breaks (r m) (t n) ⊎ (Agrees (r m) (t n) × ((t n).depth ≤ (r m).depth)))
    before n k b f = (
      f.0,
      inl (⊎_elim
          (λ b'. record { undefined = b'.undefined; kept = prefix_trans _ _ _ b'.kept b.kept })
          (λ a. absurd (not_undefined (r f.0).status a.0.lasting (a.0.same_status ∙ b.undefined)))
          f.1),
    )

    same : (n k : ℕ) → Agrees (s k) (t n) → (t n).depth ≤ (s k).depth → (m : ℕ) × (Breaks (r m) (s k) ⊎ (Agrees (r m) (s k) × ((s k).depth ≤ (r m).depth))) → (m : ℕ) × (Breaks (r m) (t n) ⊎ (Agrees (r m) (t n) × ((t n).depth ≤ (r m).depth)))
    same n k a d f = (
      f.0,
      ⊎_elim
          (λ b'. inl (record { undefined = b'.undefined; kept = subst (λ o. IsPrefix (r f.0).output o) a.same_output b'.kept }))
          (λ a'. inr (agrees_trans _ _ _ a'.0 a, omega arith))
          f.1,
    )

    chained : (n k : ℕ) → Breaks (s k) (t n) ⊎ (Agrees (s k) (t n) × ((t n).depth ≤ (s k).depth)) → (m : ℕ) × (Breaks (r m) (t n) ⊎ (Agrees (r m) (t n) × ((t n).depth ≤ (r m).depth)))
    chained n k f = ⊎_elim (λ b. before n k b (p.to_source k)) (λ a. same n k a.0 a.1 (p.to_source k)) f
