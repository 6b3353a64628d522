-- A formula comes to zero exactly when its pathway is absent, so the test of absence changes nothing. Assumes nothing.
use mathlib.Core.Path.{◌≡◌, refl, sym, ap, ◌∙◌}
use mathlib.Core.Bool.{Bool, true, false, cond, not, ◌&&◌, and_assoc, and-false}
use mathlib.Core.List.{List, [], ◌∷◌, map}
use Prim.Native.Nat.{ℕ, zero, suc, ◌<◌}
use lib.ListN.{length, get_or}
use native.Mathlib.Omega.{arith}
use lib.Dec.{eqb}
use Rattle.rounding.specs.declared.Direction.{Direction}
use Rattle.rounding.specs.Direction.{opposite}
use Rattle.decimal.specs.declared.Decimal.{Decimal}
use Rattle.decimal.specs.Decimal.{zero_of, mul_of, div_of}
use Rattle.decimal.specs.Lists.{multiplied, product_of}
use Rattle.decimal.proofs.Laws.{mul_zero_left, mul_zero_right, div_zero, div_zero_left}
use Rattle.formulas.specs.Formula.{Formula}
use Rattle.formulas.specs.Term.{look, known, has_factors, present_of, divided_of, evaluated, term_of}

-- ---- a pathway that is absent has no term, and a zero factor before the stroke makes it absent
pub absent_term : (vs : List Decimal) (dir : Direction) (f : Formula) → present_of vs f ≡ false → term_of vs dir f ≡ zero_of
unfolding term_of
absent_term vs dir f h = rw h refl

one_unknown : (vs : List Decimal) (ns : List ℕ) (i : ℕ) → i < length ns → eqb (look vs (get_or ns i 0)).m 0 ≡ true → known vs ns ≡ false
one_unknown vs [] i s h = absurd (omega (arith, s))
one_unknown vs (n ∷ ns) zero s h = rw h refl
one_unknown vs (n ∷ ns) (suc i) s h = rw (one_unknown vs ns i (omega (arith, s)) h) (and-false _)

pub zero_factor : (vs : List Decimal) (dir : Direction) (f : Formula) (i : ℕ) → i < length f.before → eqb (look vs (get_or f.before i 0)).m 0 ≡ true → term_of vs dir f ≡ zero_of
unfolding present_of
zero_factor vs dir f i s h = absent_term vs dir f (rw (one_unknown vs f.before i s h) (and-false _))

-- ---- a value whose m is zero is (0, 0)
abbrev pub ZeroByDigits : Decimal → Type 0
ZeroByDigits d = eqb d.m 0 ≡ true → d ≡ zero_of

-- ---- a product with a zero factor is zero
zero_multiplied : (dir : Direction) (ds : List Decimal) → multiplied dir zero_of ds ≡ zero_of
zero_multiplied dir [] = refl
zero_multiplied dir (d ∷ ds) = ap (λ (x : Decimal). multiplied dir x ds) (mul_zero_left dir d) ∙ zero_multiplied dir ds

module _ (vs : List Decimal) (each : (n : ℕ) → ZeroByDigits (look vs n)) where
  -- the first factor is zero, or one of the others
  first_zero : (dir : Direction) (f : Decimal → Decimal) → f zero_of ≡ zero_of → (n : ℕ) (ns : List ℕ) →
      (known vs ns ≡ false → multiplied dir (f (look vs n)) (map (look vs) ns) ≡ zero_of) → known vs (n ∷ ns) ≡ false → multiplied dir (f (look vs n)) (map (look vs) ns) ≡ zero_of
  first_zero dir f z n ns others = cases (eqb (look vs n).m 0) refl
    where
      cases : (b : Bool) → eqb (look vs n).m 0 ≡ b → not b && known vs ns ≡ false → multiplied dir (f (look vs n)) (map (look vs) ns) ≡ zero_of
      cases true e h = ap (λ (x : Decimal). multiplied dir x (map (look vs) ns)) (ap f (each n e) ∙ z) ∙ zero_multiplied dir (map (look vs) ns)
      cases false e h = others h

  multiplied_zero : (dir : Direction) (d : Decimal) (ns : List ℕ) → known vs ns ≡ false → multiplied dir d (map (look vs) ns) ≡ zero_of
  multiplied_zero dir d [] k = absurd (let z : ◌≡◌ {A = ℕ} 0 1 = cc in omega arith)
  multiplied_zero dir d (n ∷ ns) k = first_zero dir (λ (x : Decimal). mul_of d x dir) (mul_zero_right dir d) n ns (multiplied_zero dir (mul_of d (look vs n) dir) ns) k

  product_zero : (dir : Direction) (ns : List ℕ) → has_factors ns && known vs ns ≡ false → product_of dir (map (look vs) ns) ≡ zero_of
  product_zero dir [] k = refl
  product_zero dir (n ∷ ns) k = first_zero dir (λ (x : Decimal). x) refl n ns (multiplied_zero dir (look vs n) ns) k

  -- ---- the whole formula
  module _ (dir : Direction) where
    divided_zero : (ds : List Decimal) → divided_of dir zero_of ds ≡ zero_of
    divided_zero [] = refl
    divided_zero (d ∷ ds) = div_zero_left dir (product_of (opposite dir) (d ∷ ds))

    after_zero : (p : Decimal) (ns : List ℕ) → known vs ns ≡ false → divided_of dir p (map (look vs) ns) ≡ zero_of
    after_zero p [] k = absurd (let z : ◌≡◌ {A = ℕ} 0 1 = cc in omega arith)
    after_zero p (n ∷ ns) k = ap (λ (d : Decimal). div_of p d dir) (product_zero (opposite dir) (n ∷ ns) k) ∙ div_zero dir p

    absent_zero : (bs as' : List ℕ) (b c : Bool) → has_factors bs && known vs bs ≡ b → known vs as' ≡ c → b && c ≡ false →
        divided_of dir (product_of dir (map (look vs) bs)) (map (look vs) as') ≡ zero_of
    absent_zero bs as' false c e f g = ap (λ (d : Decimal). divided_of dir d (map (look vs) as')) (product_zero dir bs e) ∙ divided_zero (map (look vs) as')
    absent_zero bs as' true false e f g = after_zero _ as' f
    absent_zero bs as' true true e f g = absurd (let z : ◌≡◌ {A = ℕ} 0 1 = cc in omega arith)

    -- the term is the formula's value
    pub term_evaluated : (f : Formula) → term_of vs dir f ≡ evaluated vs dir f
    unfolding term_of present_of
    term_evaluated f = cases (present_of vs f) refl
      where
        zero_now : present_of vs f ≡ false → evaluated vs dir f ≡ zero_of
        zero_now e =
            let some = has_factors f.before in
            let above = known vs f.before in
            let below = known vs f.after in
            absent_zero f.before f.after (some && above) below refl refl (and_assoc some above below ∙ e)

        cases : (b : Bool) → present_of vs f ≡ b → cond b (evaluated vs dir f) zero_of ≡ evaluated vs dir f
        cases true e = refl
        cases false e = sym (zero_now e)
