-- The sum of a side's terms: its distance, and that it is above zero exactly when there is a pathway. Assumes nothing.
use mathlib.Core.Path.{◌≡◌, refl, sym, ap, subst, ◌∙◌}
use mathlib.Core.Bool.{not}
use mathlib.Core.List.{List, [], ◌∷◌, map}
use Prim.Native.Nat.{ℕ, ◌+◌}
use lib.Dec.{eqb}
use lib.ListN.{length, length-map}
use Rattle.rounding.specs.declared.Direction.{Direction}
use Rattle.rounding.specs.declared.Direction.TheVariants.{Up}
use Rattle.decimal.specs.declared.Decimal.{Decimal}
use Rattle.decimal.specs.Fraction.{Fraction}
use Rattle.decimal.specs.Range.{added_range}
use Rattle.decimal.proofs.Ranges.{covers}
use Rattle.decimal.proofs.Approximation.{Fair, fair_zero}
use Rattle.formulas.specs.Limits.{formula_roundings, formula_range, total_roundings, total_range}
use Rattle.formulas.specs.Formula.{Formula}
use Rattle.formulas.specs.Term.{term_of, total_of}
use Rattle.formulas.specs.ExactTerm.{exact_total, any_present}
use Rattle.formulas.proofs.Sound.{Sounds}
use Rattle.formulas.proofs.TermBounds.{Represents, present_is, total_fair, total_present}
use Rattle.guideline_rules.specs.Pathway.{any_pathway}

-- ---- a pathway is there exactly when the term sum is above zero, in either direction
module _ (dir : Direction) (vs : List Decimal) (qs : List Fraction) (r : Represents dir vs qs) (fs : List Formula) (o : Sounds formula_roundings formula_range fs) (h : length fs ≡ 3) where
  three : length (map (term_of vs dir) fs) ≡ 3
  three = length-map fs (term_of vs dir) ∙ h

  pub total_bounds : Fair dir total_roundings total_range (total_of vs dir fs) (exact_total qs fs)
  total_bounds =
      subst (λ (n : ℕ). Fair dir (formula_roundings + n) (added_range n formula_range) (total_of vs dir fs) (exact_total qs fs)) three
      (total_fair dir vs qs r (covers refl) fs o (rw three (covers refl)))

  pub present_total : not (eqb (total_of vs dir fs).m 0) ≡ any_present qs fs
  present_total = ap not (fair_zero total_bounds) ∙ total_present dir vs qs r (covers refl) fs o

pub any_same : (vs : List Decimal) (qs : List Fraction) → Represents Up vs qs → (fs : List Formula) → any_pathway vs fs ≡ any_present qs fs
any_same vs qs r [] = refl
any_same vs qs r (f ∷ fs) = rw (present_is Up vs qs r f, any_same vs qs r fs)

pub any_total : (vs : List Decimal) (qs : List Fraction) → Represents Up vs qs → (fs : List Formula) → Sounds formula_roundings formula_range fs → length fs ≡ 3 →
    not (eqb (total_of vs Up fs).m 0) ≡ any_pathway vs fs
any_total vs qs r fs o h = present_total Up vs qs r fs o h ∙ sym (any_same vs qs r fs)
