-- Terms and totals stand for their exact fractions: once for every formula, every list of formulas and both directions. Assumes nothing.
use mathlib.Core.Path.{◌≡◌, refl, sym, ap, ◌∙◌}
use mathlib.Core.Bool.{Bool, true, false, cond, not, ◌&&◌, ◌||◌, or_assoc, or-false}
use mathlib.Core.List.{List, [], ◌∷◌, map}
use Prim.Native.Nat.{ℕ, ◌+◌, ◌*◌, ◌<◌}
use native.Mathlib.Nat.{mul-pos, le_refl}
use native.Mathlib.Omega.{arith}
use lib.Dec.{eqb, lit<}
use lib.ListN.{length}
use borrow.Author.Tests.{eqb-true, eqb-false, ne_eqb, eq-eqb, not-true}
use Rattle.rounding.specs.declared.Direction.{Direction}
use Rattle.rounding.specs.Direction.{opposite}
use Rattle.decimal.specs.declared.Decimal.{Decimal}
use Rattle.decimal.specs.Decimal.{zero_of}
use Rattle.decimal.specs.Fraction.{Fraction, nothing, plus}
use Rattle.decimal.specs.Lists.{product_of, exact_product, plus_all}
use Rattle.decimal.proofs.Approximation.{Approx, Fair, Factors, Summands, approx_most, approx_div, fair_zero, fair_there, product_approx, skip_fair}
use Rattle.decimal.proofs.Approximation.Fair.{none, some}
use Rattle.decimal.proofs.Approximation.Factors.{end as no-factors, next as one-factor}
use Rattle.decimal.proofs.Approximation.Summands.{end as no-summands, next as one-summand}
use Rattle.decimal.specs.Range.{Range, operand_range, added_range, Covers}
use Rattle.decimal.proofs.Ranges.{covers_self, covers_trans}
use Rattle.inputs.proofs.Tests.{and_split}
use Rattle.formulas.specs.Formula.{Formula}
use Rattle.formulas.specs.Term.{look, known, has_factors, present_of, divided_of, term_of, total_of}
use Rattle.formulas.specs.ExactTerm.{exactly, exact_known, exact_present, exact_divided, exact_term, exact_total, any_present}
use Rattle.formulas.specs.Limits.{input_range}
use Rattle.formulas.proofs.Sound.{is_derived, roundings_of, range_of, roundings, ranges, before_covered, after_covered, inputs_only, Sound, Sounds}
use Rattle.formulas.proofs.Sound.Sounds.{end as no-formulas, next as one-formula}

-- ---- values that stand for fractions: in their own direction, and the inputs in the other too
pub record Represents (dir : Direction) (vs : List Decimal) (qs : List Fraction) : Type 0 where
  pub own : (n : ℕ) → Fair dir (roundings_of n) (range_of n) (look vs n) (exactly qs n)
  pub other : (n : ℕ) → is_derived n ≡ false → Fair (opposite dir) 0 input_range (look vs n) (exactly qs n)

-- a term that is there, or zero; and the exact term is above zero exactly when it is there
record Bounded (dir : Direction) (K : ℕ) (W : Range) (b : Bool) (d : Decimal) (q : Fraction) : Type 0 where
  fair : Fair dir K W (cond b d zero_of) (cond b q nothing)
  some_top : not (eqb (cond b q nothing).top 0) ≡ b

absent : (dir : Direction) (K : ℕ) (W : Range) (d : Decimal) (q : Fraction) → Bounded dir K W false d q
absent dir K W d q = record { fair = none refl refl (lit< tt); some_top = refl }

module _ (dir : Direction) (vs : List Decimal) (qs : List Fraction) (r : Represents dir vs qs) where
  known_is : (ns : List ℕ) → known vs ns ≡ exact_known qs ns
  known_is [] = refl
  known_is (n ∷ ns) = rw (fair_zero (r.own n), known_is ns)

  pub present_is : (f : Formula) → present_of vs f ≡ exact_present qs f
  unfolding present_of exact_present
  present_is f = rw (known_is f.before, known_is f.after)

  split : (n : ℕ) (ns : List ℕ) → exact_known qs (n ∷ ns) ≡ true → (eqb (exactly qs n).top 0 ≡ false) × (exact_known qs ns ≡ true)
  split n ns h = let p = and_split (not (eqb (exactly qs n).top 0)) (exact_known qs ns) h in (not-true _ p.0, p.1)

  own_factors : (ns : List ℕ) → exact_known qs ns ≡ true → Factors dir (roundings ns) (ranges ns) (map (look vs) ns) (map (exactly qs) ns)
  own_factors [] h = no-factors
  own_factors (n ∷ ns) h = let p = split n ns h in one-factor (fair_there (r.own n) p.0) (own_factors ns p.1)

  other_first : (n : ℕ) → is_derived n ≡ false → eqb (exactly qs n).top 0 ≡ false → Approx (opposite dir) (roundings_of n) (range_of n) (look vs n) (exactly qs n)
  other_first n b h = rw b (fair_there (r.other n b) h)

  other_factors : (ns : List ℕ) → inputs_only ns ≡ true → exact_known qs ns ≡ true → Factors (opposite dir) (roundings ns) (ranges ns) (map (look vs) ns) (map (exactly qs) ns)
  other_factors [] g h = no-factors
  other_factors (n ∷ ns) g h =
      let p = split n ns h in
      let b = and_split (not (is_derived n)) (inputs_only ns) g in
      one-factor (other_first n (not-true _ b.0) p.0) (other_factors ns b.1 p.1)

  module _ {K : ℕ} {W : Range} (u : Covers operand_range W) where
    divided_approx : (n : ℕ) (ns as' : List ℕ) → Sound K W (record { before = n ∷ ns; after = as' }) → exact_known qs (n ∷ ns) ≡ true → exact_known qs as' ≡ true →
        Approx dir K W (divided_of dir (product_of dir (map (look vs) (n ∷ ns))) (map (look vs) as')) (exact_divided (exact_product (map (exactly qs) (n ∷ ns))) (map (exactly qs) as'))
    divided_approx n ns [] o h g =
        let p = split n ns h in
        approx_most dir (omega (arith, o.near)) (before_covered o)
        (product_approx dir (covers_trans u (before_covered o)) (fair_there (r.own n) p.0) (own_factors ns p.1))
    divided_approx n ns (l ∷ ls) o h g =
        let p = split n ns h in
        let q = split l ls g in
        let b = and_split (not (is_derived l)) (inputs_only ls) o.clean in
        approx_most dir (omega (arith, o.near)) o.ranged
        (approx_div dir
        (product_approx dir (covers_trans u (before_covered o)) (fair_there (r.own n) p.0) (own_factors ns p.1))
        (product_approx (opposite dir) (after_covered u o) (other_first l (not-true _ b.0) q.0) (other_factors ls b.1 q.1))
        (covers_trans u o.ranged))

    cases : (n : ℕ) (ns as' : List ℕ) → Sound K W (record { before = n ∷ ns; after = as' }) → (a b : Bool) → exact_known qs (n ∷ ns) ≡ a → exact_known qs as' ≡ b →
        Bounded dir K W (a && b) (divided_of dir (product_of dir (map (look vs) (n ∷ ns))) (map (look vs) as')) (exact_divided (exact_product (map (exactly qs) (n ∷ ns))) (map (exactly qs) as'))
    cases n ns as' o true true h g =
        let f = divided_approx n ns as' o h g in
        let q = exact_divided (exact_product (map (exactly qs) (n ∷ ns))) (map (exactly qs) as') in
        record { fair = some f; some_top = ap not (ne_eqb q.top 0 (omega (arith, f.top))) }
    cases n ns as' o true false h g = absent dir K W _ _
    cases n ns as' o false b h g = absent dir K W _ _

    bounded : (bs as' : List ℕ) → Sound K W (record { before = bs; after = as' }) →
        Bounded dir K W (has_factors bs && (exact_known qs bs && exact_known qs as')) (divided_of dir (product_of dir (map (look vs) bs)) (map (look vs) as'))
        (exact_divided (exact_product (map (exactly qs) bs)) (map (exactly qs) as'))
    bounded [] as' o = absent dir K W _ _
    bounded (n ∷ ns) as' o = cases n ns as' o (exact_known qs (n ∷ ns)) (exact_known qs as') refl refl

    -- THE TERM
    pub term_fair : (f : Formula) → Sound K W f → Fair dir K W (term_of vs dir f) (exact_term qs f)
    unfolding term_of exact_term exact_present
    term_fair f o = rw (present_is f) (bounded f.before f.after o).fair

    pub term_present : (f : Formula) → Sound K W f → not (eqb (exact_term qs f).top 0) ≡ exact_present qs f
    unfolding exact_term exact_present
    term_present f o = (bounded f.before f.after o).some_top

    terms_fair : (fs : List Formula) → Sounds K W fs → Summands dir K W (map (term_of vs dir) fs) (map (exact_term qs) fs)
    terms_fair [] no-formulas = no-summands
    terms_fair (f ∷ fs) (one-formula o os) = one-summand (term_fair f o) (terms_fair fs os)

    -- THE TOTAL of any list of terms
    pub total_fair : (fs : List Formula) → Sounds K W fs → Covers operand_range (added_range (length (map (term_of vs dir) fs)) W) →
        Fair dir (K + length (map (term_of vs dir) fs)) (added_range (length (map (term_of vs dir) fs)) W) (total_of vs dir fs) (exact_total qs fs)
    unfolding total_of exact_total
    total_fair fs os h = skip_fair dir (le_refl K) covers_self h (none refl refl (lit< tt)) (terms_fair fs os)

-- ---- an exact sum is above zero exactly when a summand is
some_plus : (p q : Fraction) → 0 < p.bottom → 0 < q.bottom → not (eqb (plus p q).top 0) ≡ not (eqb p.top 0) || not (eqb q.top 0)
some_plus p q l u = cases (eqb p.top 0) (eqb q.top 0) refl refl
  where
    cases : (a b : Bool) → eqb p.top 0 ≡ a → eqb q.top 0 ≡ b → not (eqb (plus p q).top 0) ≡ not a || not b
    cases true true e f = rw (eq-eqb (p.top * q.bottom + q.top * p.bottom) 0 (rw (eqb-true p.top 0 e, eqb-true q.top 0 f) (omega arith)))
    cases true false e f =
        let h : q.top ≡ 0 → ⊥ = eqb-false q.top 0 f in
        let m = mul-pos {m = q.top} {n = p.bottom} (omega (arith, h)) l in
        rw (ne_eqb (p.top * q.bottom + q.top * p.bottom) 0 (omega arith))
    cases false b e f =
        let h : p.top ≡ 0 → ⊥ = eqb-false p.top 0 e in
        let m = mul-pos {m = p.top} {n = q.bottom} (omega (arith, h)) u in
        rw (ne_eqb (p.top * q.bottom + q.top * p.bottom) 0 (omega arith))

pub fair_bottom : {dir : Direction} {k : ℕ} {w : Range} {d : Decimal} {q : Fraction} → Fair dir k w d q → 0 < q.bottom
fair_bottom (none e t b) = b
fair_bottom (some f) = f.bottom

module _ (dir : Direction) (vs : List Decimal) (qs : List Fraction) (r : Represents dir vs qs) {K : ℕ} {W : Range} (u : Covers operand_range W) where
  sum_present : (fs : List Formula) → Sounds K W fs → (q : Fraction) → 0 < q.bottom → not (eqb (plus_all q (map (exact_term qs) fs)).top 0) ≡ not (eqb q.top 0) || any_present qs fs
  sum_present [] no-formulas q l = sym (or-false (not (eqb q.top 0)))
  sum_present (f ∷ fs) (one-formula o os) q l =
      let b = fair_bottom (term_fair dir vs qs r u f o) in
      sum_present fs os (plus q (exact_term qs f)) (mul-pos l b) ∙
      ap (λ (t : Bool). t || any_present qs fs) (some_plus q (exact_term qs f) l b) ∙
      or_assoc (not (eqb q.top 0)) (not (eqb (exact_term qs f).top 0)) (any_present qs fs) ∙
      ap (λ (t : Bool). not (eqb q.top 0) || (t || any_present qs fs)) (term_present dir vs qs r u f o)

  pub total_present : (fs : List Formula) → Sounds K W fs → not (eqb (exact_total qs fs).top 0) ≡ any_present qs fs
  unfolding exact_total
  total_present fs os = sum_present fs os nothing (lit< tt)
