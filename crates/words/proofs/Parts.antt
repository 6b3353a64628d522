-- What stands in a part of a list stands in the whole: bytes, words, zero bytes, a part of a part. Assumes nothing.
use Rattle.std.proofs.Common.{◌≡◌, ℕ, zero, suc, ◌+◌, ◌<◌, ◌≤◌, Bool, ◌&&◌, eqb, List, [], ◌∷◌, length, get_or, take, drop}
use Rattle.std.proofs.Common.{sym, refl, ap, ◌∙◌, ap₂, add-zero, add-one, add_assoc, arith, length-drop, length-take-le, get_or-drop, get_or-take, take-take, drop-drop}
use mathlib.Core.Bool.{true, false, and-eq-true_iff}
use lib.Dec.{ltb}
use borrow.Author.Tests.{eqb-true, eq-eqb, ltb-true, ltb-false}
use Rattle.words.specs.Words.{word_at, zeros, part_of}

pub get_or_part : (s : List ℕ) (a n k : ℕ) → k < n → get_or (part_of s a n) k 0 ≡ get_or s (a + k) 0
unfolding part_of
get_or_part s a n k h = get_or-take n (drop a s) k 0 h ∙ get_or-drop a s k 0

-- the same where the place in the part is a sum
pub get_or_part_add : (s : List ℕ) (a n k j : ℕ) → k + j < n → get_or (part_of s a n) (k + j) 0 ≡ get_or s (a + k + j) 0
get_or_part_add s a n k j h = get_or_part s a n (k + j) h ∙ ap (λ (i : ℕ). get_or s i 0) (sym (add_assoc a k j))

pub word_part : (s : List ℕ) (a n k : ℕ) → k + 4 ≤ n → word_at (part_of s a n) k ≡ word_at s (a + k)
unfolding word_at
word_part s a n k h =
    let at : (j : ℕ) → j < 4 → get_or (part_of s a n) (k + j) 0 ≡ get_or s (a + k + j) 0 = λ j l. get_or_part_add s a n k j (omega arith) in
    omega (arith, get_or_part s a n k (omega arith), at 1 (omega arith), at 2 (omega arith), at 3 (omega arith))

-- the first word of a part
pub word_first : (s : List ℕ) (a n : ℕ) → 4 ≤ n → word_at (part_of s a n) 0 ≡ word_at s a
word_first s a n h = word_part s a n 0 h ∙ ap (word_at s) (add-zero a)

-- one byte more of a part that is lent
pub zeros_next : (s : List ℕ) (a n i : ℕ) → i < n → zeros s a (i + 1) ≡ (zeros s a i && eqb (get_or (part_of s a n) i 0) 0)
unfolding zeros
zeros_next s a n i h = ap (zeros s a) (add-one i) ∙ ap (λ (x : ℕ). zeros s a i && eqb x 0) (sym (get_or_part s a n i h))

pub zeros_part : (s : List ℕ) (a n k m : ℕ) → k + m ≤ n → zeros (part_of s a n) k m ≡ zeros s (a + k) m
unfolding zeros
zeros_part s a n k zero h = refl
zeros_part s a n k (suc m) h =
    ap₂ (λ (x : Bool) (y : ℕ). x && eqb y 0) (zeros_part s a n k m (omega arith)) (get_or_part_add s a n k m (omega arith))

-- ---- bytes that are all zero, one by one
abbrev pub ZeroBytes : List ℕ → ℕ → ℕ → Type 0
ZeroBytes s at n = (i : ℕ) → i < n → get_or s (at + i) 0 ≡ 0

pub zero_bytes : (s : List ℕ) (at n : ℕ) → zeros s at n ≡ true → ZeroBytes s at n
unfolding zeros
zero_bytes s at zero h i l = absurd (omega (arith, l))
zero_bytes s at (suc n) h i l =
    let parts = (and-eq-true_iff (zeros s at n) (eqb (get_or s (at + n) 0) 0)).0 h in
    cases (zero_bytes s at n parts.0 i) (eqb-true (get_or s (at + n) 0) 0 parts.1) (ltb i n) refl
  where
    cases : (i < n → get_or s (at + i) 0 ≡ 0) → get_or s (at + n) 0 ≡ 0 → (t : Bool) → ltb i n ≡ t → get_or s (at + i) 0 ≡ 0
    cases earlier last true e = earlier (ltb-true i n e)
    cases earlier last false e = let same : i ≡ n = omega (arith, l, ltb-false i n e) in ap (λ (k : ℕ). get_or s (at + k) 0) same ∙ last

pub zeros_of_bytes : (s : List ℕ) (at n : ℕ) → ZeroBytes s at n → zeros s at n ≡ true
unfolding zeros
zeros_of_bytes s at zero z = refl
zeros_of_bytes s at (suc n) z = rw (zeros_of_bytes s at n (λ i l. z i (omega (arith, l)))) (eq-eqb (get_or s (at + n) 0) 0 (z n (omega arith)))

-- those from the k-th on
pub zero_later : (s : List ℕ) (at k n : ℕ) → ZeroBytes s at (k + n) → ZeroBytes s (at + k) n
zero_later s at k n z i l = ap (λ (j : ℕ). get_or s j 0) (add_assoc at k i) ∙ z (k + i) (omega (arith, l))

take_drop_take : (b m n : ℕ) (l : List ℕ) → b + m ≤ n → take m (drop b (take n l)) ≡ take m (drop b l)
take_drop_take zero m n l h = take-take m n l (omega arith)
take_drop_take (suc b) m zero l h = absurd (omega arith)
take_drop_take (suc b) m (suc n) [] h = refl
take_drop_take (suc b) m (suc n) (x ∷ l) h = take_drop_take b m n l (omega arith)

-- a part of a part
pub part_part : (s : List ℕ) (a n b m : ℕ) → b + m ≤ n → part_of (part_of s a n) b m ≡ part_of s (a + b) m
unfolding part_of
part_part s a n b m h = take_drop_take b m n (drop a s) h ∙ ap (take m) (drop-drop b a s)

pub part_length : (s : List ℕ) (a n : ℕ) → a + n ≤ length s → length (part_of s a n) ≡ n
unfolding part_of
part_length s a n h = length-take-le n (drop a s) (simp length-drop (omega arith))
