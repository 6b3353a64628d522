-- Words and zero bytes that were written are read back. Assumes nothing.
-- `drop at b ≡ w ++ r` says that the bytes w stand in b at `at`, and r after them.
use Rattle.std.proofs.Common.{◌≡◌, ℕ, zero, suc, ◌+◌, ◌*◌, ◌<◌, ◌≤◌, true, List, ◌++◌, length, get_or, drop, replicate, sym, refl, ap, ◌∙◌, add-zero, arith, get_or-drop, drop-drop, drop_at, eq-eqb}
use lib.ListN.{length-replicate, get_or-append, get_or-replicate}
use Rattle.words.specs.Words.{word_at, zeros}
use Rattle.words.specs.Bytes.{le4, placed}
use Rattle.words.proofs.Words.{four_bytes}
use Rattle.words.proofs.Written.{placed_rest}

pub rest_next : (b w r : List ℕ) (at k : ℕ) → drop at b ≡ w ++ r → length w ≡ k → drop (at + k) b ≡ r
rest_next b w r at k e n = sym (drop-drop k at b) ∙ ap (drop k) e ∙ drop_at w r k n

pub get_or_rest : (b t : List ℕ) (at j : ℕ) → drop at b ≡ t → get_or b (at + j) 0 ≡ get_or t j 0
get_or_rest b t at j e = sym (get_or-drop at b j 0) ∙ ap (λ (l : List ℕ). get_or l j 0) e

get_or_rest_first : (b t : List ℕ) (at : ℕ) → drop at b ≡ t → get_or b at 0 ≡ get_or t 0 0
get_or_rest_first b t at e = ap (λ (i : ℕ). get_or b i 0) (sym (add-zero at)) ∙ get_or_rest b t at 0 e

pub word_rest : (b r : List ℕ) (at v : ℕ) → drop at b ≡ le4 v ++ r → v < 4294967296 → word_at b at ≡ v
unfolding word_at le4
word_rest b r at v e h =
    let t : List ℕ = le4 v ++ r in
    (λ i. get_or_rest_first b t at e i + 256 * get_or_rest b t at 1 e i + 65536 * get_or_rest b t at 2 e i + 16777216 * get_or_rest b t at 3 e i) ∙ four_bytes v h

pub zeros_rest : (b r : List ℕ) (at n m : ℕ) → drop at b ≡ replicate n 0 ++ r → m ≤ n → zeros b at m ≡ true
unfolding zeros
zeros_rest b r at n zero e h = refl
zeros_rest b r at n (suc m) e h =
    let z : get_or b (at + m) 0 ≡ 0 =
    get_or_rest b (replicate n 0 ++ r) at m e
    ∙ get_or-append (replicate n 0) r 0 m (simp length-replicate (omega arith)) ∙ get_or-replicate n m 0 0 (omega arith) in
    rw (zeros_rest b r at n m e (omega arith)) (eq-eqb (get_or b (at + m) 0) 0 z)

-- the zero bytes that `words::clear` wrote
pub zeros_placed : (l l' : List ℕ) (at n : ℕ) → at ≤ length l → l' ≡ placed l at (replicate n 0) → zeros l' at n ≡ true
zeros_placed l l' at n h e =
    zeros_rest l' (drop (at + length (replicate {A = ℕ} n 0)) l) at n n (ap (drop at) e ∙ placed_rest l (replicate n 0) at h) (omega arith)
