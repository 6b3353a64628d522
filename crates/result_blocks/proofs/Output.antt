-- The output while the result blocks are written: each lent part comes back with its block, and nothing else changes. Assumes nothing.
use mathlib.Core.Path.{◌≡◌, refl, sym, ap, ◌∙◌}
use mathlib.Core.List.{List, [], ◌++◌, append_assoc, append-nil}
use Prim.Native.Nat.{ℕ, ◌+◌, ◌*◌, ◌-◌, ◌≤◌}
use native.Mathlib.Omega.{arith}
use native.Mathlib.Numerals.{add-one}
use lib.ListN.{length, take, drop, take-append-drop, length-append}
use lib.Seq.{length-take-le, drop-append_seam}
use Rattle.inputs.specs.declared.Scenario.{Scenario}
use Rattle.words.specs.Bytes.{over}
use Rattle.words.proofs.Written.{lent_part, over_length}
use Rattle.sum_rules.specs.declared.SideSums.{SideSums}
use Rattle.block_rules.specs.Layouts.{summary_block}
use Rattle.block_rules.proofs.ResultsBack.{summary_length}
use Rattle.site_rules.proofs.OutputBlocks.{result_long, results_long}
use Rattle.site_rules.specs.Results.{result_at, results_to}

module _ (s : Scenario) (medium : ℕ) (site : List ℕ) where
  pub results_next : (k : ℕ) → results_to s medium site (k + 1) ≡ results_to s medium site k ++ result_at s medium site (k + 1)
  unfolding results_to
  results_next k = ap (results_to s medium site) (add-one k) ∙ ap (λ (j : ℕ). results_to s medium site k ++ result_at s medium site j) (sym (add-one k))

  -- nothing is written before the first block
  pub none_written : (d : List ℕ) → 512 ≤ length d → d ≡ over (take 512 d ++ results_to s medium site 0) d
  unfolding results_to over
  none_written d h = sym (take-append-drop 512 d) ∙ ap (λ (k : ℕ). take 512 d ++ drop k d) (sym (length-take-le 512 d h)) ∙ ap (λ (l : List ℕ). l ++ drop (length l) d) (sym (append-nil (take 512 d)))

  -- the part of block k + 1 comes back
  module _ (d out y : List ℕ) (k : ℕ) (fits : 512 * (k + 1) + 512 ≤ length d) (was : out ≡ over (take 512 d ++ results_to s medium site k) d) where
    before : List ℕ
    before = take 512 d ++ results_to s medium site k

    before_long : length before ≡ 512 * (k + 1)
    unfolding before
    before_long = length-append (take 512 d) (results_to s medium site k) ∙ omega (arith, length-take-le 512 d (omega arith), results_long s medium site k)

    pub out_long : length out ≡ length d
    unfolding before
    out_long = ap length was ∙ over_length before d (omega (arith, before_long))

    pub block_lent : (a b : ℕ) → a ≡ 512 * (k + 1) → b ≡ a + 512 → y ≡ over (result_at s medium site (k + 1)) (take (b - a) (drop a out))
        → take a out ++ (y ++ drop (b - a) (drop a out)) ≡ over (take 512 d ++ results_to s medium site (k + 1)) d
    unfolding before
    block_lent a b ea eb e =
        ap (λ (o : List ℕ). take a o ++ (y ++ drop (b - a) (drop a o))) was
        ∙ lent_part before (result_at s medium site (k + 1)) d y a b (before_long ∙ sym ea) (result_long s medium site (k + 1) ∙ omega arith) (omega arith) (omega arith)
        (e ∙ ap (λ (o : List ℕ). over (result_at s medium site (k + 1)) (take (b - a) (drop a o))) was)
        ∙ ap (λ (t : List ℕ). over t d) (append_assoc (take 512 d) (results_to s medium site k) (result_at s medium site (k + 1)) ∙ ap (λ (t : List ℕ). take 512 d ++ t) (sym (results_next k)))

-- the first part is written again, over as many bytes
over_first : (q p r d : List ℕ) → length p ≡ length q → over q (over (p ++ r) d) ≡ over (q ++ r) d
unfolding over
over_first q p r d e =
    ap (λ (n : ℕ). q ++ drop n ((p ++ r) ++ drop (length (p ++ r)) d)) (sym e)
    ∙ ap (λ (l : List ℕ). q ++ drop (length p) l) (append_assoc p r (drop (length (p ++ r)) d))
    ∙ ap (λ (l : List ℕ). q ++ l) (drop-append_seam p (r ++ drop (length (p ++ r)) d))
    ∙ sym (append_assoc q r (drop (length (p ++ r)) d))
    ∙ ap (λ (n : ℕ). (q ++ r) ++ drop n d) (length-append p r ∙ ap (λ (n : ℕ). n + length r) e ∙ sym (length-append q r))

-- the summary's part comes back
pub summary_lent : (d out y r : List ℕ) (risk hazard : SideSums) → 512 ≤ length d → length out ≡ length d → out ≡ over (take 512 d ++ r) d → y ≡ over (summary_block risk hazard) (take 512 out) →
    y ++ drop 512 out ≡ over (summary_block risk hazard ++ r) d
unfolding over
summary_lent d out y r risk hazard l n was e =
    lent_part [] (summary_block risk hazard) out y 0 512 refl (summary_length risk hazard) (omega arith) (omega arith) e
    ∙ ap (over (summary_block risk hazard)) was
    ∙ over_first (summary_block risk hazard) (take 512 d) r d (length-take-le 512 d l ∙ sym (summary_length risk hazard))
