-- Bytes written over a list: lengths, one store after another, a part that was lent, and a writer's progress. Assumes nothing.
use Rattle.std.proofs.Common.{◌≡◌, ℕ, suc, ◌+◌, ◌-◌, ◌<◌, ◌≤◌, List, [], ◌∷◌, ◌++◌, length, get_or, take, drop, set}
use Rattle.std.proofs.Common.{sym, refl, ap, ◌∙◌, ap₂, append_assoc, append-nil, add-zero, arith, length-append, length-drop, take-append-drop, length-take-le, drop-cons, drop-drop, take_at, drop_at}
use borrow.Rule.Slice.PartMut.{put_mid}
use lib.Seq.{append_snoc, drop-append_seam, set_at, sets-eq, drop-length}
use Rattle.words.specs.Words.{part_of}
use Rattle.words.specs.Bytes.{placed, over}

pub placed_length : (l w : List ℕ) (at : ℕ) → at + length w ≤ length l → length (placed l at w) ≡ length l
unfolding placed
placed_length l w at h = simp (length-append, length-drop) (omega (arith, length-take-le at l (omega arith)))

-- from `at` on stand the bytes written, and after them those of l
pub placed_rest : (l w : List ℕ) (at : ℕ) → at ≤ length l → drop at (placed l at w) ≡ w ++ drop (at + length w) l
unfolding placed
placed_rest l w at h = drop_at (take at l) (w ++ drop (at + length w) l) at (length-take-le at l h)

pub placed_none : (l : List ℕ) (at : ℕ) → at ≤ length l → l ≡ placed l at []
unfolding placed
placed_none l at h = sym (take-append-drop at l) ∙ ap (λ (n : ℕ). take at l ++ drop n l) (sym (add-zero at))

-- a part from `at` on that was lent, and that was written from end to end
pub put_mid_placed : (l y w : List ℕ) (at k : ℕ) → y ≡ w → length w ≡ k → put_mid at k l y ≡ placed l at w
unfolding placed
put_mid_placed l y w at k e n =
    ap₂ (λ (x : List ℕ) (j : ℕ). take at l ++ (x ++ drop j (drop at l))) e (sym n) ∙ ap (λ (t : List ℕ). take at l ++ (w ++ t)) (drop-drop (length w) at l)

-- one byte more
pub placed_snoc : (l w : List ℕ) (at v : ℕ) → at + length w < length l → set (placed l at w) (at + length w) v ≡ placed l at (w ++ v ∷ [])
unfolding placed
placed_snoc l w at v h =
    let k : ℕ = at + length w in
    let x : ℕ = get_or l k 0 in
    let ys : List ℕ = drop (suc k) l in
    let lp : length (take at l ++ w) ≡ k = simp length-append (omega (arith, length-take-le at l (omega arith))) in
    let end : suc k ≡ at + length (w ++ v ∷ []) = simp length-append (omega arith) in
    ap (λ (t : List ℕ). set (take at l ++ (w ++ t)) k v) (drop-cons l k 0 h)
    ∙ ap (λ (t : List ℕ). set t k v) (sym (append_assoc (take at l) w (x ∷ ys)))
    ∙ set_at (take at l ++ w) x ys v k lp
    ∙ append_assoc (take at l) w (v ∷ ys)
    ∙ ap (λ (t : List ℕ). take at l ++ t) (sym (append_snoc w v ys))
    ∙ ap (λ (n : ℕ). take at l ++ ((w ++ v ∷ []) ++ drop n l)) end

-- four bytes, one store each
pub set_four : (l : List ℕ) (at a b c d : ℕ) → at + 4 ≤ length l
    → set (set (set (set l at a) (at + 1) b) (at + 2) c) (at + 3) d ≡ placed l at (a ∷ b ∷ c ∷ d ∷ [])
unfolding placed
set_four l at a b c d h =
    let e₁ : at + 1 ≡ suc at = omega arith in
    let e₂ : at + 2 ≡ suc (suc at) = omega arith in
    let e₃ : at + 3 ≡ suc (suc (suc at)) = omega arith in
    ap (λ (i : ℕ). set (set (set (set l at a) i b) (at + 2) c) (at + 3) d) e₁
    ∙ ap (λ (i : ℕ). set (set (set (set l at a) (suc at) b) i c) (at + 3) d) e₂
    ∙ ap (λ (i : ℕ). set (set (set (set l at a) (suc at) b) (suc (suc at)) c) i d) e₃
    ∙ sets-eq (a ∷ b ∷ c ∷ d ∷ []) l at h ∙ append_assoc (take at l) (a ∷ b ∷ c ∷ d ∷ []) (drop (at + 4) l)

-- ---- the first bytes written over
pub over_length : (p d : List ℕ) → length p ≤ length d → length (over p d) ≡ length d
unfolding over
over_length p d h = simp (length-append, length-drop) (omega arith)

pub over_none : (d : List ℕ) → d ≡ over [] d
unfolding over
over_none d = refl

-- a list that was as long as what was written over it
pub over_all : (p d : List ℕ) → length d ≡ length p → over p d ≡ p
unfolding over
over_all p d e = ap (λ (n : ℕ). p ++ drop n d) (sym e) ∙ ap (λ (l : List ℕ). p ++ l) (drop-length d) ∙ append-nil p

-- a part that was lent from `at` on, and came back as w
pub over_part : (p w d : List ℕ) (at : ℕ) → length p ≡ at
    → take at (over p d) ++ (w ++ drop (length w) (drop at (over p d))) ≡ over (p ++ w) d
unfolding over
over_part p w d at e =
    ap₂ (λ (x y : List ℕ). x ++ (w ++ drop (length w) y)) (take_at p (drop (length p) d) at e) (drop_at p (drop (length p) d) at e)
    ∙ ap (λ (t : List ℕ). p ++ (w ++ t)) (drop-drop (length w) (length p) d)
    ∙ ap (λ (n : ℕ). p ++ (w ++ drop n d)) (sym (length-append p w))
    ∙ sym (append_assoc p w (drop (length (p ++ w)) d))

-- what is written at the end of what stands there already
pub over_next : (p w d : List ℕ) (at : ℕ) → length p ≡ at → placed (over p d) at w ≡ over (p ++ w) d
unfolding placed
over_next p w d at e = ap (λ (t : List ℕ). take at (over p d) ++ (w ++ t)) (sym (drop-drop (length w) at (over p d))) ∙ over_part p w d at e

pub placed_over : (l w : List ℕ) (at : ℕ) → at ≤ length l → placed l at w ≡ over (take at l ++ w) l
unfolding placed over
placed_over l w at h =
    let e : at + length w ≡ length (take at l ++ w) = simp length-append (omega (arith, length-take-le at l h)) in
    ap (λ (n : ℕ). take at l ++ (w ++ drop n l)) e ∙ sym (append_assoc (take at l) w (drop (length (take at l ++ w)) l))

-- bytes written behind bytes just written
pub placed_placed : (l v w : List ℕ) (at to : ℕ) → at + length v ≡ to → at ≤ length l → placed (placed l at v) to w ≡ placed l at (v ++ w)
placed_placed l v w at to e h =
    let n : length (take at l ++ v) ≡ to = simp length-append (omega (arith, length-take-le at l h)) in
    ap (λ (t : List ℕ). placed t to w) (placed_over l v at h)
    ∙ over_next (take at l ++ v) w l to n
    ∙ ap (λ (t : List ℕ). over t l) (append_assoc (take at l) v w)
    ∙ sym (placed_over l (v ++ w) at h)

-- l' is l with the bytes v in the place of those from `at` to `to`
pub record Placed (l' l v : List ℕ) (at to : ℕ) : Type 0 where
  pub now : l' ≡ placed l at v
  pub end : at + length v ≡ to
  pub room : at ≤ length l

pub placed_next : {l₁ l v : List ℕ} {at to : ℕ} (l₂ w : List ℕ) (to₂ : ℕ) → Placed l₁ l v at to → l₂ ≡ placed l₁ to w → to + length w ≡ to₂ → Placed l₂ l (v ++ w) at to₂
placed_next {l₁} {l} {v} {at} {to} l₂ w to₂ p e n = record {
  now = e ∙ ap (λ (t : List ℕ). placed t to w) p.now ∙ placed_placed l v w at to p.end p.room;
  end = omega (arith, length-append v w);
  room = p.room;
}

-- written over again, by as much or more
pub over_over : (q p d : List ℕ) → length p ≤ length q → over q (over p d) ≡ over q d
unfolding over
over_over q p d h =
    let j : ℕ = length q - length p in
    let e : length q ≡ length p + j = omega arith in
    ap (λ (t : List ℕ). q ++ t)
    (ap (λ (n : ℕ). drop n (p ++ drop (length p) d)) e
    ∙ sym (drop-drop j (length p) (p ++ drop (length p) d))
    ∙ ap (drop j) (drop-append_seam p (drop (length p) d))
    ∙ drop-drop j (length p) d
    ∙ ap (λ (n : ℕ). drop n d) (sym e))

-- a part from a to b that was lent, and that the callee wrote w over from end to end
pub lent_part : (p w d y : List ℕ) (a b : ℕ) → length p ≡ a → length w ≡ b - a → a ≤ b → b ≤ length d
    → y ≡ over w (take (b - a) (drop a (over p d)))
    → take a (over p d) ++ (y ++ drop (b - a) (drop a (over p d))) ≡ over (p ++ w) d
lent_part p w d y a b h q k m e =
    let o : length (over p d) ≡ length d = over_length p d (omega arith) in
    let n : length (take (b - a) (drop a (over p d))) ≡ length w =
    length-take-le (b - a) (drop a (over p d)) (simp length-drop (omega arith)) ∙ sym q in
    ap (λ (t : List ℕ). take a (over p d) ++ (t ++ drop (b - a) (drop a (over p d)))) (e ∙ over_all w (take (b - a) (drop a (over p d))) n)
    ∙ ap (λ (m : ℕ). take a (over p d) ++ (w ++ drop m (drop a (over p d)))) (sym q)
    ∙ over_part p w d a h

pub over_take : (d : List ℕ) (n : ℕ) → n ≤ length d → d ≡ over (take n d) d
unfolding over
over_take d n h = sym (take-append-drop n d) ∙ ap (λ (k : ℕ). take n d ++ drop k d) (sym (length-take-le n d h))

pub take_over : (p d : List ℕ) (n : ℕ) → length p ≡ n → take n (over p d) ≡ p
unfolding over
take_over p d n e = take_at p (drop (length p) d) n e

-- the first part of what was written over
pub part_over : (p d : List ℕ) (n : ℕ) → length p ≡ n → part_of (over p d) 0 n ≡ p
unfolding part_of
part_over p d n e = take_over p d n e

-- ---- a writer's progress: l is d with the bytes p, `at` of them, written over its first bytes
pub record Wrote (l p d : List ℕ) (at : ℕ) : Type 0 where
  pub now : l ≡ over p d
  pub long : length p ≡ at

pub wrote_none : (d : List ℕ) → Wrote d [] d 0
wrote_none d = record { now = over_none d; long = refl }

pub wrote_next : {l p d : List ℕ} {at : ℕ} (l' w : List ℕ) (k : ℕ) → Wrote l p d at → l' ≡ placed l at w → length w ≡ k → Wrote l' (p ++ w) d (at + k)
wrote_next {l} {p} {d} {at} l' w k W e n = record {
  now = e ∙ ap (λ (t : List ℕ). placed t at w) W.now ∙ over_next p w d at W.long;
  long = length-append p w ∙ ap₂ (λ (x y : ℕ). x + y) W.long n;
}
