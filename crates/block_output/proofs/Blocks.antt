-- The steps of a writer of blocks: fields one behind the other, then the last word. Assumes nothing.
use Rattle.std.proofs.Common.{◌≡◌, ℕ, ◌+◌, ◌-◌, ◌*◌, ◌%◌, ◌<◌, ◌≤◌, true, List, ◌++◌, length, drop, replicate, length-append, sym, ap, ◌∙◌, append_assoc, arith}
use lib.ListN.{length-replicate}
use Rattle.words.specs.Words.{word_sum, zeros}
use Rattle.words.specs.Bytes.{le4, placed, over}
use Rattle.words.proofs.Words.{le4_length, word_sum_front, word_sum_zeros}
use Rattle.words.proofs.Written.{Wrote, wrote_none, wrote_next}
use Rattle.decimal.specs.declared.Decimal.{Decimal}
use Rattle.fields.specs.Fields.{field_bytes}
use Rattle.fields.proofs.ReadBack.{field_bytes_length, field_bytes_append}
use Rattle.block_rules.specs.Pieces.{Piece}
use Rattle.block_rules.specs.Layouts.{last_word, body_of, block_of}

-- ---- the last word
-- what is added to n modulo 4,294,967,296 gives zero
pub negate : (r n : ℕ) → r < 4294967296 → n < 4294967296 → (r + n) % 4294967296 ≡ 0 → r ≡ (4294967296 - n) % 4294967296
negate r n hr hn h = omega arith

-- words that are zero add nothing: the first n give the sum of all 127
pub sum_of_first : (l : List ℕ) (n : ℕ) → n ≤ 127 → zeros l (4 * n) (508 - 4 * n) ≡ true → word_sum l n ≡ word_sum l 127
sum_of_first l n h z =
    let e : 508 - 4 * n ≡ 4 * (127 - n) = omega arith in
    let m : n + (127 - n) ≡ 127 = omega arith in
    sym (word_sum_zeros l n (127 - n) (ap (zeros l (4 * n)) (sym e) ∙ z)) ∙ ap (word_sum l) m

last_word_over : (p d : List ℕ) → length p ≡ 508 → last_word (over p d) ≡ last_word p
unfolding last_word over
last_word_over p d h = ap (λ (n : ℕ). (4294967296 - n % 4294967296) % 4294967296) (word_sum_front p (drop (length p) d) 127 (omega arith))

-- ---- the steps
-- the first 16 bytes, and a gap of so many
abbrev pub first_words : ℕ → ℕ → ℕ → ℕ → List ℕ
first_words kind place a b = le4 kind ++ le4 place ++ le4 a ++ le4 b

pub wrote_first : {l d : List ℕ} (kind place a b : ℕ) → l ≡ placed d 0 (first_words kind place a b) → Wrote l (first_words kind place a b) d 16
wrote_first {l} {d} kind place a b e = wrote_next l (first_words kind place a b) 16 (wrote_none d) e (simp (length-append, le4_length))

pub wrote_gap : {l p d : List ℕ} {at : ℕ} (n : ℕ) (l' : List ℕ) → Wrote l p d at → l' ≡ placed l at (replicate n 0) → Wrote l' (p ++ replicate n 0) d (at + n)
wrote_gap n l' w e = wrote_next l' (replicate n 0) n w e (length-replicate {A = ℕ} n 0)

-- the decimals of a group, which went through an array
pub wrote_group : (l : List ℕ) (at : ℕ) {l' : List ℕ} {x y : List Decimal} → l' ≡ placed l at (field_bytes y) → y ≡ x → l' ≡ placed l at (field_bytes x)
wrote_group l at e g = e ∙ ap (λ (x : List Decimal). placed l at (field_bytes x)) g

pub wrote_fields : {l d : List ℕ} {at : ℕ} (p : List ℕ) (x y : List Decimal) (k : ℕ) (l' : List ℕ)
    → Wrote l (p ++ field_bytes x) d at → l' ≡ placed l at (field_bytes y) → 8 * length y ≡ k
    → Wrote l' (p ++ field_bytes (x ++ y)) d (at + k)
wrote_fields {l} {d} {at} p x y k l' w e n =
    let t = wrote_next l' (field_bytes y) k w e (field_bytes_length y ∙ n) in
    let s : p ++ field_bytes x ++ field_bytes y ≡ p ++ field_bytes (x ++ y) =
    append_assoc p (field_bytes x) (field_bytes y) ∙ ap (λ (q : List ℕ). p ++ q) (sym (field_bytes_append x y)) in
    record { now = t.now ∙ ap (λ (q : List ℕ). over q d) s; long = ap length (sym s) ∙ t.long }

-- the last step: what stands so far is the body
pub wrote_block : {l p d : List ℕ} (kind place : ℕ) (ps : List Piece) (ws : List ℕ) (ds : List Decimal) (l' : List ℕ) → Wrote l p d 508 →
    p ≡ body_of kind place ps ws ds → l' ≡ placed l 508 (le4 (last_word l)) → l' ≡ over (block_of kind place ps ws ds) d
unfolding block_of
wrote_block {l} {p} {d} kind place ps ws ds l' w b e =
    let body : List ℕ = body_of kind place ps ws ds in
    let v : Wrote l body d 508 = record { now = w.now ∙ ap (λ (q : List ℕ). over q d) b; long = ap length (sym b) ∙ w.long } in
    let n : last_word l ≡ last_word body = ap last_word v.now ∙ last_word_over body d v.long in
    (wrote_next l' (le4 (last_word body)) 4 v (e ∙ ap (λ (k : ℕ). placed l 508 (le4 k)) n) (le4_length (last_word body))).now
