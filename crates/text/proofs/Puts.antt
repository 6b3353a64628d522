-- What puts leave: two in a row are one of both texts, and the lent bytes stay as many. Assumes nothing.
use Rattle.std.proofs.Common.{◌≡◌, ℕ, ◌+◌, ◌≤◌, ◌<◌, Bool, true, false, ltb, List, [], ◌∷◌, ◌++◌, length, set}
use Rattle.std.proofs.Common.{refl, sym, ap, ap₂, ◌∙◌, arith, length-append, append_assoc, append-nil, add_assoc, add-zero, zero-add, take-append-drop}
use borrow.Author.Tests.{ltb-true, ltb-false}
use Rattle.std.proofs.lemmas.List.{take_all, drop_all}
use Rattle.words.specs.Bytes.{placed, over}
use Rattle.words.proofs.Written.{placed_none, placed_snoc, placed_placed, placed_length}
use Rattle.text.specs.declared.Text.{Text}
use Rattle.text.specs.Text.{put}

-- one byte set
pub set_one : (l : List ℕ) (at b : ℕ) → at < length l → set l at b ≡ placed l at (b ∷ [])
set_one l at b h = ap₂ (λ (t : List ℕ) (k : ℕ). set t k b) (placed_none l at (omega arith)) (sym (add-zero at)) ∙ placed_snoc l [] at b (omega arith)

-- from the end on
past : (l w : List ℕ) (at : ℕ) → length l ≤ at → placed l at w ≡ l ++ w
unfolding placed
past l w at h =
    ap₂ (λ (x y : List ℕ). x ++ (w ++ y)) (take_all at l h) (drop_all (at + length w) l (omega arith)) ∙ ap (λ (x : List ℕ). l ++ x) (append-nil w)

twice : (l v w : List ℕ) (at : ℕ) → placed (placed l at v) (at + length v) w ≡ placed l at (v ++ w)
twice l v w at = cases (ltb (length l) at) refl
  where
    cases : (b : Bool) → ltb (length l) at ≡ b → placed (placed l at v) (at + length v) w ≡ placed l at (v ++ w)
    cases false e = placed_placed l v w at (at + length v) refl (ltb-false (length l) at e)
    cases true e =
        let h : length l < at = ltb-true (length l) at e in
        ap (λ (x : List ℕ). placed x (at + length v) w) (past l v at (omega arith))
        ∙ past (l ++ v) w (at + length v) (simp length-append (omega arith))
        ∙ append_assoc l v w
        ∙ sym (past l (v ++ w) at (omega arith))

-- THE LAW of puts
pub put_put : (t : Text) (x y : List ℕ) → put (put t x) y ≡ put t (x ++ y)
unfolding put
put_put t x y = simp (twice, length-append, add_assoc)

pub put_none : (t : Text) → put t [] ≡ t
unfolding put placed
put_none t = simp (add-zero, take-append-drop)

pub put_at : (t : Text) (x : List ℕ) → (put t x).at ≡ t.at + length x
unfolding put
put_at t x = refl

pub put_length : (t : Text) (x : List ℕ) → t.at + length x ≤ length t.out.now → length (put t x).out.now ≡ length t.out.now
unfolding put
put_length t x h = placed_length t.out.now x t.at h

-- the lent bytes once a text that began at their start has let them go
pub given_back : (t : Text) (w : List ℕ) {u : Text} {left : List ℕ} → t.at ≡ 0 → u ≡ put t w → (t.out.ghost_name ≡ u.out.ghost_name → left ≡ u.out.now) → left ≡ over w t.out.now
unfolding put placed over
given_back t w z e f = f (sym (ap (λ (x : Text). x.out.ghost_name) e)) ∙ ap (λ (x : Text). x.out.now) e ∙ rw (z, zero-add)

-- what the check has to know of puts, in order that it finds the proofs of the functions alone
pub ruleset puts = (put_put, put_none, put_at, put_length)
