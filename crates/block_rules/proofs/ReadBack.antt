-- A block that was written, read back: its words, its decimals, its unused bytes, the sum of its words. Assumes nothing.
-- `drop at b ≡ w ++ r` says that the bytes w stand in b at `at`, and r after them.
use mathlib.Core.Path.{◌≡◌, refl, sym, ap, ap₂, subst, ◌∙◌}
use mathlib.Core.List.{List, [], ◌∷◌, ◌++◌, append_assoc, append-nil}
use mathlib.Core.Bool.{Bool, true, ◌&&◌}
use Prim.Native.Nat.{ℕ, zero, suc, ◌+◌, ◌*◌, ◌-◌, ◌<◌, ◌≤◌, ◌%◌}
use native.Mathlib.Omega.{arith}
use lib.ListN.{length, get_or, take, drop, replicate, length-append, length-drop, length-replicate}
use Rattle.std.proofs.Common.{get_or-drop, take-append-drop}
use Rattle.std.proofs.lemmas.List.{length-take-le}
use lib.Seq.{drop_at}
use borrow.Author.Tests.{eq-eqb}
use Rattle.words.specs.Words.{word_at, word_sum}
use Rattle.words.specs.Bytes.{le4}
use Rattle.words.proofs.Words.{le4_length, word_sum_suc, word_sum_front}
use Rattle.words.proofs.ReadBack.{rest_next, word_rest, zeros_rest}
use Rattle.decimal.specs.declared.Decimal.{Decimal}
use Rattle.decimal.specs.Decimal.{zero_of}
use Rattle.fields.specs.Fields.{field_bytes, decimals_at, unused_zero, InField}
use Rattle.fields.proofs.ReadBack.{decimals_rest, all_unused_rest}
use Rattle.block_rules.specs.Pieces.{Piece, Word, Decimals, Unused, pieces_size, words_held, decimals_held, words_in, decimals_in, unused_in, bytes_of}
use Rattle.block_rules.specs.Reading.{sound_at}
use Rattle.block_rules.specs.Layouts.{last_word, body_of, block_of}
use Rattle.block_rules.proofs.Lengths.{first_length, body_length}

sum_zero : (n : ℕ) → (n + (4294967296 - n % 4294967296) % 4294967296) % 4294967296 ≡ 0
sum_zero n = omega arith

-- a body of 508 bytes with its last word: the words add to zero
last_word_sum : (p : List ℕ) → length p ≡ 508 → word_sum (p ++ le4 (last_word p)) 128 % 4294967296 ≡ 0
unfolding last_word
last_word_sum p h =
    let w : ℕ = last_word p in
    let b : List ℕ = p ++ le4 w in
    let e : word_at b 508 ≡ w = word_rest b [] 508 w (drop_at p (le4 w) 508 h ∙ sym (append-nil (le4 w))) (omega arith) in
    ap (λ (n : ℕ). n % 4294967296) (word_sum_suc b 127 ∙ ap₂ (λ (x y : ℕ). x + y) (word_sum_front p (le4 w) 127 (omega arith)) e)
    ∙ sum_zero (word_sum p 127)

-- ---- pieces: those that follow the first, where it stands at `at`
after_word : (ps : List Piece) (ws : List ℕ) (ds : List Decimal) (b r : List ℕ) (at : ℕ) → drop at b ≡ bytes_of (Word ∷ ps) ws ds ++ r →
    (drop at b ≡ le4 (get_or ws 0 0) ++ (bytes_of ps (drop 1 ws) ds ++ r)) × (drop (at + 4) b ≡ bytes_of ps (drop 1 ws) ds ++ r)
unfolding bytes_of
after_word ps ws ds b r at e =
    let w = le4 (get_or ws 0 0) in
    let g = e ∙ append_assoc w (bytes_of ps (drop 1 ws) ds) r in
    (g, rest_next b w (bytes_of ps (drop 1 ws) ds ++ r) at 4 g (le4_length (get_or ws 0 0)))

after_decimals : (n : ℕ) (ps : List Piece) (ws : List ℕ) (ds : List Decimal) (b r : List ℕ) (at : ℕ) → n ≤ length ds → drop at b ≡ bytes_of (Decimals n ∷ ps) ws ds ++ r →
    (drop at b ≡ field_bytes (take n ds) ++ (bytes_of ps ws (drop n ds) ++ r)) × (drop (at + 8 * n) b ≡ bytes_of ps ws (drop n ds) ++ r)
unfolding bytes_of
after_decimals n ps ws ds b r at h e =
    let w = field_bytes (take n ds) in
    let g = e ∙ append_assoc w (bytes_of ps ws (drop n ds)) r in
    (g, rest_next b w (bytes_of ps ws (drop n ds) ++ r) at (8 * n) g (first_length n ds h))

after_unused : (n : ℕ) (ps : List Piece) (ws : List ℕ) (ds : List Decimal) (b r : List ℕ) (at : ℕ) → drop at b ≡ bytes_of (Unused n ∷ ps) ws ds ++ r →
    (drop at b ≡ replicate n 0 ++ (bytes_of ps ws ds ++ r)) × (drop (at + n) b ≡ bytes_of ps ws ds ++ r)
unfolding bytes_of
after_unused n ps ws ds b r at e =
    let w = replicate {A = ℕ} n 0 in
    let g = e ∙ append_assoc w (bytes_of ps ws ds) r in
    (g, rest_next b w (bytes_of ps ws ds ++ r) at n g (length-replicate {A = ℕ} n 0))

-- ---- the words come back
no_word : (ws : List ℕ) (n : ℕ) → length ws ≡ 0 → get_or {A = ℕ} [] n 0 ≡ get_or ws n 0
no_word [] n h = refl
no_word (w ∷ ws) n h = absurd (omega (arith, h))

pub words_back : (ps : List Piece) (ws : List ℕ) (ds : List Decimal) (b r : List ℕ) (at : ℕ) → decimals_held ps ≡ length ds → words_held ps ≡ length ws →
    drop at b ≡ bytes_of ps ws ds ++ r → (n : ℕ) → get_or ws n 0 < 4294967296 → get_or (words_in ps b at) n 0 ≡ get_or ws n 0
unfolding words_in
words_back [] ws ds b r at h k e n small = no_word ws n (sym k)
words_back (Word ∷ ps) [] ds b r at h k e n small = absurd (omega (arith, k))
words_back (Word ∷ ps) (w ∷ ws) ds b r at h k e zero small = word_rest b (bytes_of ps ws ds ++ r) at w (after_word ps (w ∷ ws) ds b r at e).0 small
words_back (Word ∷ ps) (w ∷ ws) ds b r at h k e (suc n) small =
    words_back ps ws ds b r (at + 4) h (omega (arith, k)) (after_word ps (w ∷ ws) ds b r at e).1 n small
words_back (Decimals m ∷ ps) ws ds b r at h k e n small =
    let g = after_decimals m ps ws ds b r at (omega (arith, h)) e in
    words_back ps ws (drop m ds) b r (at + 8 * m) (omega (arith, h, length-drop m ds)) k g.1 n small
words_back (Unused m ∷ ps) ws ds b r at h k e n small = words_back ps ws ds b r (at + m) h k (after_unused m ps ws ds b r at e).1 n small

-- ---- the decimals come back
abbrev pub AllFit : List Decimal → Type 0
AllFit ds = (n : ℕ) → InField (get_or ds n zero_of)

zero_fits : InField zero_of
zero_fits = record { word = omega arith; exponent = refl }

fit_take : (n : ℕ) (ds : List Decimal) → AllFit ds → AllFit (take n ds)
fit_take zero ds f k = zero_fits
fit_take (suc n) [] f k = zero_fits
fit_take (suc n) (d ∷ ds) f zero = f 0
fit_take (suc n) (d ∷ ds) f (suc k) = fit_take n ds (λ j. f (suc j)) k

fit_drop : (n : ℕ) (ds : List Decimal) → AllFit ds → AllFit (drop n ds)
fit_drop n ds f k = subst InField (sym (get_or-drop n ds k zero_of)) (f (n + k))

no_decimals : (ds : List Decimal) → 0 ≡ length ds → [] ≡ ds
no_decimals [] h = refl
no_decimals (d ∷ ds) h = absurd (omega (arith, h))

pub decimals_back : (ps : List Piece) (ws : List ℕ) (ds : List Decimal) (b r : List ℕ) (at : ℕ) → decimals_held ps ≡ length ds →
    drop at b ≡ bytes_of ps ws ds ++ r → AllFit ds → decimals_in ps b at ≡ ds
unfolding decimals_in
decimals_back [] ws ds b r at h e f = no_decimals ds h
decimals_back (Word ∷ ps) ws ds b r at h e f = decimals_back ps (drop 1 ws) ds b r (at + 4) h (after_word ps ws ds b r at e).1 f
decimals_back (Decimals n ∷ ps) ws ds b r at h e f =
    let m : n ≤ length ds = omega (arith, h) in
    let g = after_decimals n ps ws ds b r at m e in
    let first = ap (decimals_at b at) (sym (length-take-le n ds m)) ∙ decimals_rest (take n ds) b _ at g.0 (fit_take n ds f) in
    ap₂ (λ (x y : List Decimal). x ++ y) first
    (decimals_back ps ws (drop n ds) b r (at + 8 * n) (omega (arith, h, length-drop n ds)) g.1 (fit_drop n ds f)) ∙ take-append-drop n ds
decimals_back (Unused n ∷ ps) ws ds b r at h e f = decimals_back ps ws ds b r (at + n) h (after_unused n ps ws ds b r at e).1 f

-- ---- every byte that is unused is zero
pub unused_back : (ps : List Piece) (ws : List ℕ) (ds : List Decimal) (b r : List ℕ) (at : ℕ) → decimals_held ps ≡ length ds →
    drop at b ≡ bytes_of ps ws ds ++ r → unused_in ps b at ≡ true
unfolding unused_in
unused_back [] ws ds b r at h e = refl
unused_back (Word ∷ ps) ws ds b r at h e = unused_back ps (drop 1 ws) ds b r (at + 4) h (after_word ps ws ds b r at e).1
unused_back (Decimals n ∷ ps) ws ds b r at h e =
    let m : n ≤ length ds = omega (arith, h) in
    let g = after_decimals n ps ws ds b r at m e in
    ap₂ (λ (x y : Bool). x && y) (ap (unused_zero b at) (sym (length-take-le n ds m)) ∙ all_unused_rest (take n ds) b _ at g.0)
    (unused_back ps ws (drop n ds) b r (at + 8 * n) (omega (arith, h, length-drop n ds)) g.1)
unused_back (Unused n ∷ ps) ws ds b r at h e =
    let g = after_unused n ps ws ds b r at e in
    ap₂ (λ (x y : Bool). x && y) (zeros_rest b _ at n n g.0 (omega arith)) (unused_back ps ws ds b r (at + n) h g.1)

-- ---- a block: kind and place, the pieces from 8 on, and the last word
module _ (kind place : ℕ) (ps : List Piece) (ws : List ℕ) (ds : List Decimal) where
  abbrev body : List ℕ
  body = body_of kind place ps ws ds

  abbrev block : List ℕ
  block = block_of kind place ps ws ds

  abbrev last : List ℕ
  last = le4 (last_word body)

  at0 : drop 0 block ≡ le4 kind ++ (le4 place ++ (bytes_of ps ws ds ++ last))
  unfolding block_of body_of
  at0 = simp append_assoc

  at4 : drop 4 block ≡ le4 place ++ (bytes_of ps ws ds ++ last)
  at4 = rest_next block (le4 kind) (le4 place ++ (bytes_of ps ws ds ++ last)) 0 4 at0 (le4_length kind)

  -- what the laws of pieces start from
  pub at8 : drop 8 block ≡ bytes_of ps ws ds ++ last
  at8 = rest_next block (le4 place) (bytes_of ps ws ds ++ last) 4 4 at4 (le4_length place)

  pub kind_back : kind < 4294967296 → word_at block 0 ≡ kind
  kind_back h = word_rest block (le4 place ++ (bytes_of ps ws ds ++ last)) 0 kind at0 h

  pub place_back : place < 4294967296 → word_at block 4 ≡ place
  place_back h = word_rest block (bytes_of ps ws ds ++ last) 4 place at4 h

  -- where the pieces have 500 bytes and hold all of the decimals
  module _ (long : pieces_size ps ≡ 500) (held : decimals_held ps ≡ length ds) where
    body_long : length body ≡ 508
    body_long = body_length kind place ps ws ds held ∙ omega (arith, long)

    pub block_length : length block ≡ 512
    unfolding block_of
    block_length = length-append body last ∙ ap₂ (λ (x y : ℕ). x + y) body_long (le4_length (last_word body))

    pub block_sum : word_sum block 128 % 4294967296 ≡ 0
    unfolding block_of
    block_sum = last_word_sum body body_long

    pub sound_back : place < 4294967296 → sound_at block place ≡ true
    unfolding sound_at
    sound_back h =
        ap₂ (λ (x y : Bool). x && y) (eq-eqb (word_sum block 128 % 4294967296) 0 block_sum) (eq-eqb (word_at block 4) place (place_back h))

    pub block_words : words_held ps ≡ length ws → (n : ℕ) → get_or ws n 0 < 4294967296 → get_or (words_in ps block 8) n 0 ≡ get_or ws n 0
    block_words k = words_back ps ws ds block last 8 held k at8

    pub block_decimals : AllFit ds → decimals_in ps block 8 ≡ ds
    block_decimals = decimals_back ps ws ds block last 8 held at8

    pub block_unused : unused_in ps block 8 ≡ true
    block_unused = unused_back ps ws ds block last 8 held at8
