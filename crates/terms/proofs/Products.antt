-- Products of inputs by their names: of two, of three, of a product with two more, and of three after the stroke; and that what is multiplied or
-- divided is in range for it. Assumes nothing.
use mathlib.Core.Path.{◌≡◌}
use mathlib.Core.List.{[], ◌∷◌}
use Prim.Native.Nat.{ℕ, ◌+◌, ◌-◌, ◌≤◌}
use lib.Dec.{lit≤}
use lib.ListN.{get_or}
use Rattle.rounding.specs.declared.Direction.{Direction}
use Rattle.rounding.specs.declared.Number.{Number}
use Rattle.rounding.specs.Direction.{opposite}
use Rattle.rounding.specs.Operations.{product_of}
use Rattle.rounding.specs.Number.{InRange}
use Rattle.factors.specs.Widths.{input_width, two_width, three_width, middle_width}
use Rattle.decimal.specs.declared.Decimal.{Decimal}
use Rattle.decimal.specs.Decimal.{mul_of}
use Rattle.formulas.specs.Formula.{derived_places}
use Rattle.formulas.specs.Term.{look}
use Rattle.factors.specs.declared.numbers.Factors.{Factors}
use Rattle.factors.specs.declared.numbers.ContaminantNumbers.{ContaminantNumbers}
use Rattle.factors.specs.declared.prepared.Prepared.{Prepared}
use Rattle.factors.specs.Stands.{Stands}
use Rattle.factors.specs.Prepared.{Middle}
use Rattle.factors.proofs.StandsLaws.{no_number, stands_mul, stands_mul3, stands_middle, stands_operand}
use Rattle.terms.specs.Side.{number_values, Ready}
use Rattle.terms.proofs.NumberValues.{behind, numbers, named, named_below, input, middle, range, stands_turned}

-- the place of a name in the values
abbrev pub place : ℕ → ℕ
place n = behind derived_places (n - derived_places)

module _ {dir : Direction} {medium : ℕ} {f : Factors} {p : Prepared} {t : ContaminantNumbers} (ready : Ready dir medium f p t) where
  -- the number of a name
  abbrev pub number : ℕ → Number
  number n = get_or (numbers f t) (n - derived_places) no_number

  pub two_inputs : (m n : ℕ) {a : Number} → a ≡ product_of dir (number m) (number n) → Stands two_width a (named dir f t (place m ∷ place n ∷ []))
  two_inputs m n e = stands_mul dir (input ready m) (input ready n) (lit≤ tt) e

  pub three_inputs : (m n k : ℕ) {a : Number} → a ≡ product_of dir (product_of dir (number m) (number n)) (number k) →
      Stands three_width a (named dir f t (place m ∷ place n ∷ place k ∷ []))
  three_inputs m n k e = stands_mul3 dir (input ready m) (input ready n) (input ready k) (lit≤ tt) e

  -- the third a power of ten, which leaves its factors as they are
  pub two_powered : (m n k : ℕ) {a b : Number} → a ≡ product_of dir (number m) (number n) → ((d : Direction) → b ≡ product_of d a (number k)) →
      Stands three_width b (named dir f t (place m ∷ place n ∷ place k ∷ []))
  two_powered m n k e g = stands_mul dir (two_inputs m n e) (input ready k) (lit≤ tt) (g dir)

  pub two_more : (m n : ℕ) {w : ℕ} {a b : Number} {d : Decimal} → Stands w a d → w + input_width + input_width ≤ 970 → b ≡ product_of dir (product_of dir a (number m)) (number n) →
      Stands (w + input_width + input_width + 2) b
      (mul_of (mul_of d (look (number_values dir f t) (place m)) dir) (look (number_values dir f t) (place n)) dir)
  two_more m n s h e = stands_mul3 dir s (input ready m) (input ready n) h e

  pub three_below : (m n k : ℕ) {back : Direction} {a : Number} → back ≡ opposite dir → a ≡ product_of back (product_of back (number m) (number n)) (number k) →
      Stands three_width a (named_below dir f t (place m ∷ place n ∷ place k ∷ []))
  three_below m n k {back} b e = stands_turned dir back b (input ready m) (input ready n) (input ready k) (lit≤ tt) e

  -- ---- what may be multiplied so
  pub three_fit : (m n k : ℕ) → Middle (number m) × (Middle (number n) × Middle (number k))
  three_fit m n k = let r = middle ready in (r m, (r n, r k))

  pub two_more_fit : (m n : ℕ) {w : ℕ} {a : Number} {d : Decimal} → Stands w a d → w ≤ middle_width → Middle a × (Middle (number m) × Middle (number n))
  two_more_fit m n s h = let r = middle ready in (stands_middle h s, (r m, r n))

-- what a power of ten may be multiplied with
pub power_fits : {dir : Direction} {medium : ℕ} {f : Factors} {p : Prepared} {t : ContaminantNumbers} (ready : Ready dir medium f p t) (k : ℕ) {w : ℕ} {a : Number} {d : Decimal} →
    Stands w a d → w ≤ 990 → (number ready k).m ≡ 100000000 → InRange a × (InRange (number ready k) × ((number ready k).m ≡ 100000000))
power_fits ready k s h e = ((stands_operand h s).range, (range ready k, e))

-- and divided
pub quotient_fits : {v w : ℕ} {a b : Number} {d e : Decimal} → Stands v a d → v ≤ 990 → Stands w b e → w ≤ 990 → InRange a × InRange b
quotient_fits s h t g = ((stands_operand h s).range, (stands_operand g t).range)
