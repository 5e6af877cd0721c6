-- Accesses to the parts of memory.
use Rattle.std.proofs.Common.{◌≡◌, ℕ, zero, suc, ◌+◌, ◌*◌, ◌/◌, ◌%◌, ◌<◌, ◌≤◌, refl, sym, ap, ◌∙◌, subst, arith, List, [], ◌∷◌, length, Option, Some, None, Ok, Err, slice_index_or}
use Rattle.std.proofs.lemmas.Bool.Decides.{nat_tests}
use Rattle.rv_isa.specs.declared.rv.Rv.{Rv}
use Rattle.rv_isa.specs.Decode.{decode_of}
use Rattle.rv_isa.specs.Memory.{Readable, Writable, Executable, read, write, text_start, stack_size}
use Rattle.rv_machine.specs.Bytes.{held}
use Rattle.rv_machine.specs.Memory.{Contents, bytes_of, segments_of, IsMapped, IsDecoded, IsPlaced, refusal, unless_refused, fetched, or_illegal}
use Rattle.rv_machine.specs.declared.stop.Stop.{Stop}
use Rattle.rv_machine.specs.declared.stop.Stop.TheVariants.{Illegal}
use Rattle.rv_machine.specs.declared.memory.Place.{Place}
use Rattle.rv_machine.specs.declared.memory.Place.TheVariants.{Text, Data, Stack}
use Rattle.rv_machine.proofs.Places.{read_text, read_data, read_stack, write_data, write_stack}

-- ---- permissions

text_readable : (c : Contents) (a n at : ℕ) → IsPlaced c a n (Text at) → refusal (segments_of c) Readable a n ≡ None
text_readable c a n at p = let f = p.free in let al = p.aligned in let e = p.within.0 in let h = p.within.1 in grind (arith, nat_tests)

data_readable : (c : Contents) (a n at : ℕ) → IsPlaced c a n (Data at) → refusal (segments_of c) Readable a n ≡ None
data_readable c a n at p = let f = p.free in let al = p.aligned in let e = p.within.0 in let h = p.within.1 in grind (arith, nat_tests)

stack_readable : (c : Contents) (a n at : ℕ) → length c.stack ≡ stack_size → IsPlaced c a n (Stack at) → refusal (segments_of c) Readable a n ≡ None
stack_readable c a n at z p = let f = p.free in let al = p.aligned in let e = p.within.0 in let h = p.within.1 in grind (arith, nat_tests)

data_writable : (c : Contents) (a n at : ℕ) → IsPlaced c a n (Data at) → refusal (segments_of c) Writable a n ≡ None
data_writable c a n at p = let f = p.free in let al = p.aligned in let e = p.within.0 in let h = p.within.1 in grind (arith, nat_tests)

stack_writable : (c : Contents) (a n at : ℕ) → length c.stack ≡ stack_size → IsPlaced c a n (Stack at) → refusal (segments_of c) Writable a n ≡ None
stack_writable c a n at z p = let f = p.free in let al = p.aligned in let e = p.within.0 in let h = p.within.1 in grind (arith, nat_tests)

-- ---- loads

answered : (o : Option Stop) (v w : ℕ) → o ≡ None → v ≡ w → Ok v ≡ unless_refused o w
answered o v w e h = rw (e, h) refl

pub load_text : (now c : Contents) (place : Place) (a n at v : ℕ) → c ≡ now → place ≡ Text at → IsPlaced now a n place → v ≡ read (held c.text) n at → Ok v ≡ unless_refused (refusal (segments_of now) Readable a n) (read (bytes_of now) n a)
load_text now c place a n at v same is p h =
    let p' : IsPlaced now a n (Text at) = subst (λ q. IsPlaced now a n q) is p in
    let e : read (bytes_of now) n a ≡ read (held now.text) n at = ap (read (bytes_of now) n) p'.within.0 ∙ read_text now n at p'.within.1 in
    answered _ v _ (text_readable now a n at p') (h ∙ ap (λ (d : Contents). read (held d.text) n at) same ∙ sym e)

pub load_data : (now c : Contents) (place : Place) (a n at v : ℕ) → IsMapped c → c ≡ now → place ≡ Data at → IsPlaced now a n place → v ≡ read (held c.data_bytes) n at → Ok v ≡ unless_refused (refusal (segments_of now) Readable a n) (read (bytes_of now) n a)
load_data now c place a n at v m same is p h =
    let p' : IsPlaced now a n (Data at) = subst (λ q. IsPlaced now a n q) is p in
    let m' : IsMapped now = subst IsMapped same m in
    let e : read (bytes_of now) n a ≡ read (held now.data_bytes) n at = ap (read (bytes_of now) n) p'.within.0 ∙ read_data now n at m' p'.within.1 in
    answered _ v _ (data_readable now a n at p') (h ∙ ap (λ (d : Contents). read (held d.data_bytes) n at) same ∙ sym e)

pub load_stack : (now c : Contents) (place : Place) (a n at v : ℕ) → IsMapped c → c ≡ now → place ≡ Stack at → IsPlaced now a n place → v ≡ read (held c.stack) n at → Ok v ≡ unless_refused (refusal (segments_of now) Readable a n) (read (bytes_of now) n a)
load_stack now c place a n at v m same is p h =
    let p' : IsPlaced now a n (Stack at) = subst (λ q. IsPlaced now a n q) is p in
    let m' : IsMapped now = subst IsMapped same m in
    let e : read (bytes_of now) n a ≡ read (held now.stack) n at = ap (read (bytes_of now) n) p'.within.0 ∙ read_stack now n at m' p'.within.1 in
    answered _ v _ (stack_readable now a n at m'.stack_size p') (h ∙ ap (λ (d : Contents). read (held d.stack) n at) same ∙ sym e)

-- ---- stores

pub store_data : (now c : Contents) (new : List ℕ) (place : Place) (a n at v : ℕ) → IsMapped c → c ≡ now → place ≡ Data at → IsPlaced now a n place → length new ≡ length c.data_bytes → held new ≡ write (held c.data_bytes) n at v → (refusal (segments_of now) Writable a n ≡ None) × (bytes_of (record c { data_bytes = new }) ≡ write (bytes_of now) n a v)
store_data now c new place a n at v m same is p len h =
    let p' : IsPlaced now a n (Data at) = subst (λ q. IsPlaced now a n q) is p in
    let q : IsPlaced c a n (Data at) = subst (λ d. IsPlaced d a n (Data at)) (sym same) p' in (
      data_writable now a n at p',
      write_data c new n at v m len h q.within.1 ∙ ap (λ (b : ℕ). write (bytes_of c) n b v) (sym q.within.0) ∙ ap (λ (d : Contents). write (bytes_of d) n a v) same,
    )

pub store_stack : (now c : Contents) (new : List ℕ) (place : Place) (a n at v : ℕ) → IsMapped c → c ≡ now → place ≡ Stack at → IsPlaced now a n place → length new ≡ length c.stack → held new ≡ write (held c.stack) n at v → (refusal (segments_of now) Writable a n ≡ None) × (bytes_of (record c { stack = new }) ≡ write (bytes_of now) n a v)
store_stack now c new place a n at v m same is p len h =
    let p' : IsPlaced now a n (Stack at) = subst (λ q. IsPlaced now a n q) is p in
    let q : IsPlaced c a n (Stack at) = subst (λ d. IsPlaced d a n (Stack at)) (sym same) p' in
    let m' : IsMapped now = subst IsMapped same m in (
      stack_writable now a n at m'.stack_size p',
      write_stack c new n at v m len h q.within.1 ∙ ap (λ (b : ℕ). write (bytes_of c) n b v) (sym q.within.0) ∙ ap (λ (d : Contents). write (bytes_of d) n a v) same,
    )

-- ---- fetches

same_default : {A : Type 0} (xs : List A) (k : ℕ) (d e : A) → k < length xs → slice_index_or xs k d ≡ slice_index_or xs k e
same_default [] k d e h = absurd (omega arith)
same_default (x ∷ xs) zero d e h = refl
same_default (x ∷ xs) (suc k) d e h = same_default xs k d e (omega arith)

-- the instruction of the word that is fetched stands decoded at its number
word_decoded : (c : Contents) (code : List (Option Rv)) (pc at : ℕ) (d : Option Rv) → IsDecoded c.text code → pc ≡ text_start + at → at + 4 ≤ length c.text → at % 4 ≡ 0 → slice_index_or code (at / 4) d ≡ decode_of (read (bytes_of c) 4 pc)
word_decoded c code pc at d is e h aligned =
    let w = is.words in
    let below : at / 4 < length code = omega arith in
    let back : 4 * (at / 4) ≡ at = omega arith in
    same_default code (at / 4) d None below ∙ is.each (at / 4) below ∙ ap decode_of (ap (read (held c.text) 4) back ∙ sym (read_text c 4 at h) ∙ ap (read (bytes_of c) 4) (sym e))

fetched_is : (o : Option Stop) (w : ℕ) (i : Option Rv) → o ≡ None → i ≡ decode_of w → or_illegal w i ≡ fetched o w
fetched_is o w i e h = rw (e, h) refl

-- what a fetch needs to know
pub record IsFetch (c : Contents) (pc at : ℕ) : Type 0 where
  pub place : pc ≡ text_start + at
  pub within : at + 4 ≤ length c.text
  pub aligned : at % 4 ≡ 0
  pub permitted : refusal (segments_of c) Executable pc 4 ≡ None

pub fetch_some : (now c : Contents) (code : List (Option Rv)) (pc at : ℕ) (d : Option Rv) (i : Rv) → IsDecoded c.text code → c ≡ now → IsFetch now pc at → slice_index_or code (at / 4) d ≡ Some i → Ok i ≡ fetched (refusal (segments_of now) Executable pc 4) (read (bytes_of now) 4 pc)
fetch_some now c code pc at d i is same f e =
    let is' : IsDecoded now.text code = subst (λ (t : Contents). IsDecoded t.text code) same is in
    fetched_is _ (read (bytes_of now) 4 pc) (Some i) f.permitted (sym e ∙ word_decoded now code pc at d is' f.place f.within f.aligned)

pub fetch_none : (now c : Contents) (code : List (Option Rv)) (pc at v : ℕ) (d : Option Rv) → IsDecoded c.text code → c ≡ now → IsFetch now pc at → slice_index_or code (at / 4) d ≡ None → v ≡ read (held c.text) 4 at → Err (Illegal v) ≡ fetched (refusal (segments_of now) Executable pc 4) (read (bytes_of now) 4 pc)
fetch_none now c code pc at v d is same f e h =
    let is' : IsDecoded now.text code = subst (λ (t : Contents). IsDecoded t.text code) same is in
    let w : v ≡ read (bytes_of now) 4 pc = h ∙ ap (λ (t : Contents). read (held t.text) 4 at) same ∙ sym (read_text now 4 at f.within) ∙ ap (read (bytes_of now) 4) (sym f.place) in
    ap (λ (x : ℕ). Err (Illegal x)) w ∙ fetched_is _ (read (bytes_of now) 4 pc) None f.permitted (sym e ∙ word_decoded now code pc at d is' f.place f.within f.aligned)
