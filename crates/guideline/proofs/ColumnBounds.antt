-- The code's column of a side stands for the guidelines of the definitions. Assumes nothing.
use mathlib.Core.Path.{◌≡◌, refl, sym, ap, subst, ◌∙◌}
use mathlib.Core.Logic.{inl, inr}
use mathlib.Core.List.{List, [], ◌∷◌, map}
use Prim.Native.Nat.{ℕ, ◌+◌, ◌≤◌}
use native.Mathlib.Omega.{arith}
use lib.Dec.{eqb, lit≤}
use lib.ListN.{length, get_or}
use borrow.Author.Tests.{eq-eqb}
use Rattle.rounding.specs.declared.Direction.{Direction}
use Rattle.rounding.specs.declared.Direction.TheVariants.{Down, Up}
use Rattle.rounding.specs.declared.Number.{Number}
use Rattle.rounding.specs.Number.{Working}
use Rattle.rounding.specs.Operations.{sum_of}
use Rattle.decimal.specs.declared.Decimal.{Decimal}
use Rattle.decimal.specs.Decimal.{zero_of, add_of, div_of, Printable}
use Rattle.decimal.specs.Lists.{summed}
use Rattle.decimal.proofs.Laws.{decimal_zero, decimal_nine}
use Rattle.terms.specs.declared.pathways.PathwayTerms.{PathwayTerms}
use Rattle.formulas.specs.Formula.{Formula, none}
use Rattle.formulas.specs.Term.{term_of, total_of}
use Rattle.factors.specs.Widths.{input_width, formula_width}
use Rattle.factors.specs.Stands.{Stands}
use Rattle.terms.specs.Side.{Wide, WideSide}
use Rattle.decimal.proofs.Value.{skip_first, skip_next}
use Rattle.factors.proofs.StandsLaws.{stands_value, stands_is, stands_add, stands_div}
use Rattle.formulas.proofs.Sound.{three_places}
use Rattle.guideline.specs.declared.Column.{Column}
use Rattle.guideline.specs.Column.{ColumnFor, PrintableColumn, column_decimals}
use Rattle.guideline_rules.specs.Guideline.{side_of}

pub stands_wide : {w : ℕ} {r : Number} {d : Decimal} → w ≤ formula_width → Stands w r d → Wide r
stands_wide h s = record { most = s.most; low = omega (arith, s.low); high = omega (arith, s.high) }

pub stands_printable : {w : ℕ} {r : Number} {d : Decimal} → w ≤ 990 → Stands w r d → Printable r
stands_printable h s = record { digits = s.most; exponent = omega (arith, s.high) }

-- zero for zero
pub stands_zero : {w : ℕ} {r : Number} {d : Decimal} → Stands w r d → eqb r.m 0 ≡ eqb d.m 0
stands_zero {w} {r} {d} s = cases s.working
  where
    cases : Working r → eqb r.m 0 ≡ eqb d.m 0
    cases (inl z) = eq-eqb r.m 0 z ∙ sym (ap (λ (d : Decimal). eqb d.m 0) (sym s.is ∙ decimal_zero r z))
    cases (inr n) = ap (λ (d : Decimal). eqb d.m 0) (sym (decimal_nine r n) ∙ s.is)

-- ---- the terms of a side over any values, in a direction
pub record SideStands (dir : Direction) (vs : List Decimal) (fs : List Formula) (t : PathwayTerms) : Type 0 where
  pub first : Stands formula_width t.first (term_of vs dir (get_or fs 0 none))
  pub second : Stands formula_width t.second (term_of vs dir (get_or fs 1 none))
  pub third : Stands formula_width t.third (term_of vs dir (get_or fs 2 none))

pub side_wide : {dir : Direction} {vs : List Decimal} {fs : List Formula} {t : PathwayTerms} → SideStands dir vs fs t → WideSide t
side_wide s = record { first = stands_wide (lit≤ tt) s.first; second = stands_wide (lit≤ tt) s.second; third = stands_wide (lit≤ tt) s.third }

-- the sum of the terms
module _ (dir : Direction) (vs : List Decimal) (fs : List Formula) (t : PathwayTerms) (h : length fs ≡ 3) (s : SideStands dir vs fs t) where
  a : Decimal
  a = term_of vs dir (get_or fs 0 none)

  b : Decimal
  b = term_of vs dir (get_or fs 1 none)

  c : Decimal
  c = term_of vs dir (get_or fs 2 none)

  two : Stands (formula_width + 1) (sum_of dir t.first t.second) (add_of a b dir)
  unfolding a b
  two = stands_add dir s.first s.second (lit≤ tt) (lit≤ tt) refl

  -- the total adds the three in order, zeros skipped
  total_is : total_of vs dir fs ≡ add_of (add_of a b dir) c dir
  unfolding total_of a b c
  total_is =
      ap (λ (l : List Formula). summed dir zero_of (map (term_of vs dir) l)) (three_places fs h) ∙
      ap (λ (d : Decimal). summed dir d (b ∷ c ∷ [])) (skip_first dir (stands_value (lit≤ tt) s.first)) ∙
      ap (λ (d : Decimal). summed dir d (c ∷ [])) (skip_next dir (stands_value (lit≤ tt) s.first) (stands_value (lit≤ tt) s.second)) ∙
      skip_next dir (stands_value (lit≤ tt) two) (stands_value (lit≤ tt) s.third)

  pub sum_stands : Stands (formula_width + 2) (sum_of dir (sum_of dir t.first t.second) t.third) (total_of vs dir fs)
  unfolding c
  sum_stands = stands_is (sym total_is) (stands_add dir two s.third (lit≤ tt) (lit≤ tt) refl)

-- ---- the column of a side
pub record ColumnStands (vs : List Decimal) (target : Decimal) (fs : List Formula) (c : Column) : Type 0 where
  pub sum : Stands (formula_width + 2) c.sum (total_of vs Up fs)
  pub first : Stands (formula_width + input_width + 1) c.first (div_of target (term_of vs Up (get_or fs 0 none)) Down)
  pub second : Stands (formula_width + input_width + 1) c.second (div_of target (term_of vs Up (get_or fs 1 none)) Down)
  pub third : Stands (formula_width + input_width + 1) c.third (div_of target (term_of vs Up (get_or fs 2 none)) Down)
  pub total : Stands (formula_width + 2 + input_width + 1) c.total (div_of target (total_of vs Up fs) Down)

pub column_stands : (vs : List Decimal) (fs : List Formula) (t : PathwayTerms) → length fs ≡ 3 → SideStands Up vs fs t →
    (n : Number) (target : Decimal) (k : Column) → Stands input_width n target → ColumnFor n t k → ColumnStands vs target fs k
column_stands vs fs t h s n target k g e =
    let u = subst (λ (r : Number). Stands (formula_width + 2) r (total_of vs Up fs)) (sym e.sum) (sum_stands Up vs fs t h s) in
    record {
      sum = u;
      first = stands_div Down g s.first (lit≤ tt) e.first;
      second = stands_div Down g s.second (lit≤ tt) e.second;
      third = stands_div Down g s.third (lit≤ tt) e.third;
      total = stands_div Down g u (lit≤ tt) e.total;
    }

-- ---- what follows from it
pub column_printable : {vs : List Decimal} {target : Decimal} {fs : List Formula} {k : Column} → ColumnStands vs target fs k → PrintableColumn k
column_printable h =
    record {
      first = stands_printable (lit≤ tt) h.first;
      second = stands_printable (lit≤ tt) h.second;
      third = stands_printable (lit≤ tt) h.third;
      total = stands_printable (lit≤ tt) h.total;
    }

pub column_is : {vs : List Decimal} {target : Decimal} {fs : List Formula} {k : Column} → ColumnStands vs target fs k → column_decimals k ≡ side_of vs target fs
unfolding side_of
column_is h = rw (h.first.is, h.second.is, h.third.is, h.total.is)
