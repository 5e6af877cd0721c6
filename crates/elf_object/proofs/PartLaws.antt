-- What stands where in a file.
use Rattle.std.proofs.Common.{◌≡◌, ℕ, ◌+◌, ◌-◌, ◌<◌, ◌≤◌, List, [], ◌∷◌, ◌++◌, length, get_or, take, drop, refl, sym, ap, ◌∙◌, subst, zero-add, arith, append_assoc, length-append, length-drop}
use Rattle.std.specs.Prelude.{replicate}
use Rattle.std.proofs.lemmas.List.{append-nil, drop-drop, drop_at, drop_all, take-append-drop, length-take, length-replicate}
use Rattle.elf_object.specs.File.{Part, placed}

-- the part stands at the place
pub record HasPart (file : List ℕ) (at : ℕ) (part : List ℕ) : Type 0 where
  pub here : drop at file ≡ part ++ drop (at + length part) file
  pub within : at + length part ≤ length file

-- each byte of the file is one
pub record IsBytes (file : List ℕ) : Type 0 where
  pub byte : (i : ℕ) → get_or file i 0 < 256

-- what a file goes on with stands there
pub part_within : (file : List ℕ) (at : ℕ) (part rest : List ℕ) → at ≤ length file → drop at file ≡ part ++ rest → at + length part ≤ length file
part_within file at part rest le e = omega (arith, ap length e, length-drop at file, length-append part rest)

pub rest_is : (file : List ℕ) (at : ℕ) (part rest : List ℕ) → drop at file ≡ part ++ rest → rest ≡ drop (at + length part) file
rest_is file at part rest e = sym (drop_at part rest (length part) refl) ∙ ap (drop (length part)) (sym e) ∙ drop-drop (length part) at file

pub has_part : (file : List ℕ) (at : ℕ) (part rest : List ℕ) → at ≤ length file → drop at file ≡ part ++ rest → HasPart file at part
has_part file at part rest le e = record {
  here = e ∙ ap (λ (r : List ℕ). part ++ r) (rest_is file at part rest e);
  within = part_within file at part rest le e;
}

-- the parts of a part stand after each other
pub left : (file : List ℕ) (at : ℕ) (x y : List ℕ) → HasPart file at (x ++ y) → HasPart file at x
left file at x y h = has_part file at x (y ++ drop (at + length (x ++ y)) file) (omega (arith, h.within)) (h.here ∙ append_assoc x y _)

pub right : (file : List ℕ) (at : ℕ) (x y : List ℕ) → HasPart file at (x ++ y) → HasPart file (at + length x) y
right file at x y h =
    let e : drop at file ≡ x ++ (y ++ drop (at + length (x ++ y)) file) = h.here ∙ append_assoc x y _ in
    has_part file (at + length x) y (drop (at + length (x ++ y)) file) (omega (arith, h.within, length-append x y)) (sym (rest_is file at x _ e))

-- two parts after each other are one
pub both : (file : List ℕ) (at : ℕ) (x y : List ℕ) → HasPart file at x → HasPart file (at + length x) y → HasPart file at (x ++ y)
both file at x y h k =
    has_part file at (x ++ y) (drop (at + length x + length y) file) (omega (arith, h.within)) (h.here ∙ ap (λ (r : List ℕ). x ++ r) k.here ∙ sym (append_assoc x y _))

-- a file is the part that it has from its start to its end
pub is_whole : (file part : List ℕ) → HasPart file 0 part → length file ≡ length part → file ≡ part
is_whole file part h same =
    let end : drop (0 + length part) file ≡ [] = drop_all (0 + length part) file (omega arith) in
    h.here ∙ ap (λ (r : List ℕ). part ++ r) end ∙ append-nil part

pub has_itself : (file part : List ℕ) → file ≡ part → HasPart file 0 part
has_itself file part e = has_part file 0 part [] (omega arith) (e ∙ sym (append-nil part))

pub has_nothing : (file : List ℕ) (at : ℕ) → at ≤ length file → HasPart file at []
has_nothing file at le = has_part file at [] (drop at file) le refl

-- the part that is cut out of a file
pub cut_out : (file : List ℕ) (at n : ℕ) → at + n ≤ length file → HasPart file at (take n (drop at file))
cut_out file at n le = has_part file at (take n (drop at file)) (drop n (drop at file)) (omega arith) (sym (take-append-drop n (drop at file)))

pub length-cut_out : (file : List ℕ) (at n : ℕ) → at + n ≤ length file → length (take n (drop at file)) ≡ n
length-cut_out file at n le = omega (arith, length-take n (drop at file), length-drop at file)

-- and a part that stands there is what is cut out
pub cut_is : (file : List ℕ) (at n : ℕ) (part : List ℕ) → HasPart file at part → length part ≡ n → take n (drop at file) ≡ part
cut_is file at n part h len =
    append_same (take n (drop at file)) (drop n (drop at file)) part (drop (at + length part) file)
    (take-append-drop n (drop at file) ∙ h.here) (omega (arith, length-take n (drop at file), length-drop at file, h.within)) where
      append_same : (a b c d : List ℕ) → a ++ b ≡ c ++ d → length a ≡ length c → a ≡ c
      append_same [] b [] d e len = refl
      append_same [] b (x ∷ c) d e len = absurd (omega arith)
      append_same (x ∷ a) b [] d e len = absurd (omega arith)
      append_same (x ∷ a) b (y ∷ c) d e len =
          let first : x ≡ y = cc in
          let others : a ++ b ≡ c ++ d = cc in
          let same : a ≡ c = append_same a b c d others (omega arith) in
          cc

-- ---- parts at their places

-- zero bytes from a place up to another one
pub record HasZeros (file : List ℕ) (from to : ℕ) : Type 0 where
  pub zeros : HasPart file from (replicate (to - from) 0)
  pub order : from ≤ to

-- after so many bytes the file has the parts, with zero bytes between them
abbrev pub HasParts : List ℕ → ℕ → List Part → Type 0
HasParts file at [] = Unit {0}
HasParts file at (p ∷ ps) = HasZeros file at p.place × HasPart file p.place p.bytes × HasParts file (p.place + length p.bytes) ps

-- after so many bytes the parts stand in order
abbrev pub InOrder : ℕ → List Part → Type 0
InOrder at [] = Unit {0}
InOrder at (p ∷ ps) = (at ≤ p.place) × InOrder (p.place + length p.bytes) ps

-- where the last part ends
abbrev pub last_end : ℕ → List Part → ℕ
last_end at [] = at
last_end at (p ∷ ps) = last_end (p.place + length p.bytes) ps

abbrev pub all_placed : List ℕ → List Part → List ℕ
all_placed before [] = before
all_placed before (p ∷ ps) = all_placed (placed before p) ps

length-placed : (before : List ℕ) (p : Part) → length before ≤ p.place → length (placed before p) ≡ p.place + length p.bytes
length-placed before p le = omega (arith, length-append (before ++ replicate (p.place - length before) 0) p.bytes, length-append before (replicate (p.place - length before) 0), length-replicate {A = ℕ} (p.place - length before) 0)

pub length-all_placed : (before : List ℕ) (ps : List Part) (at : ℕ) → length before ≡ at → InOrder at ps → length (all_placed before ps) ≡ last_end at ps
length-all_placed before [] at len order = len
length-all_placed before (p ∷ ps) at len order = length-all_placed (placed before p) ps (p.place + length p.bytes) (length-placed before p (omega (arith, order.0))) order.1

-- a file that has the parts has them placed after each other
pub has_placed : (file before : List ℕ) (ps : List Part) (at : ℕ) → length before ≡ at → HasPart file 0 before → HasParts file at ps → HasPart file 0 (all_placed before ps)
has_placed file before [] at len h parts = h
has_placed file before (p ∷ ps) at len h parts =
    let zeros : HasPart file (0 + length before) (replicate (p.place - length before) 0) = subst (λ (n : ℕ). HasPart file n (replicate (p.place - length before) 0)) (sym (zero-add (length before))) (subst (λ (n : ℕ). HasPart file n (replicate (p.place - n) 0)) (sym len) parts.0.zeros) in
    let front : HasPart file 0 (before ++ replicate (p.place - length before) 0) = both file 0 before _ h zeros in
    let next : HasPart file (0 + length (before ++ replicate (p.place - length before) 0)) p.bytes =
    subst (λ (n : ℕ). HasPart file n p.bytes) (omega (arith, parts.0.order, length-append before (replicate (p.place - length before) 0), length-replicate {A = ℕ} (p.place - length before) 0)) parts.1 in
    has_placed file (placed before p) ps (p.place + length p.bytes) (length-placed before p (omega (arith, parts.0.order))) (both file 0 _ p.bytes front next) parts.2

-- and a file that has them placed after each other has the parts
pub has_parts : (file before : List ℕ) (ps : List Part) (at : ℕ) → length before ≡ at → InOrder at ps → HasPart file 0 (all_placed before ps) → HasPart file 0 before × HasParts file at ps
has_parts file before [] at len order h = (h, tt)
has_parts file before (p ∷ ps) at len order h =
    let le : length before ≤ p.place = omega (arith, order.0) in
    let k = has_parts file (placed before p) ps (p.place + length p.bytes) (length-placed before p le) order.1 h in
    let front : HasPart file 0 (before ++ replicate (p.place - length before) 0) = left file 0 _ p.bytes k.0 in
    let bytes : HasPart file p.place p.bytes =
    subst (λ (n : ℕ). HasPart file n p.bytes) (omega (arith, length-append before (replicate (p.place - length before) 0), length-replicate {A = ℕ} (p.place - length before) 0)) (right file 0 _ p.bytes k.0) in
    let zeros : HasPart file at (replicate (p.place - at) 0) = subst (λ (n : ℕ). HasPart file n (replicate (p.place - n) 0)) len (subst (λ (n : ℕ). HasPart file n (replicate (p.place - length before) 0)) (zero-add (length before)) (right file 0 before _ front)) in
    (left file 0 before _ front, (record { zeros = zeros; order = order.0 }, bytes, k.1))
