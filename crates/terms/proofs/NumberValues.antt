-- The values that the code's numbers stand for: every one is zero where its m is, and B, H and G are what the code works out. Assumes nothing.
use mathlib.Core.Path.{◌≡◌, refl, sym, ap, subst, ◌∙◌}
use mathlib.Core.List.{List, [], ◌∷◌, ◌++◌, map}
use Prim.Native.Nat.{ℕ, zero, suc, ◌+◌, ◌-◌, ◌≤◌}
use lib.Dec.{lit≤}
use lib.ListN.{get_or}
use Rattle.rounding.specs.declared.Direction.{Direction}
use Rattle.rounding.specs.declared.Number.{Number}
use Rattle.rounding.specs.Direction.{opposite}
use Rattle.rounding.specs.Number.{InRange}
use Rattle.rounding.specs.Operations.{product_of, quotient_of, sum_of}
use Rattle.decimal.specs.declared.Decimal.{Decimal}
use Rattle.decimal.specs.Decimal.{zero_of, decimal_of, mul_of, div_of, add_of, working_of}
use Rattle.decimal.specs.Lists.{summed, product_of as list_product}
use Rattle.factors.specs.declared.numbers.Factors.{Factors}
use Rattle.factors.specs.declared.numbers.ContaminantNumbers.{ContaminantNumbers}
use Rattle.factors.specs.declared.prepared.Prepared.{Prepared}
use Rattle.terms.specs.declared.pathways.PathwayTerms.{PathwayTerms}
use Rattle.factors.specs.Widths.{input_width, formula_width, two_width, air_width, hours_width, ages_width}
use Rattle.inputs.specs.declared.kind.Medium.TheVariants.{Soil, Water}
use Rattle.inputs.specs.Kinds.{medium_number}
use Rattle.decimal.specs.Range.{ends}
use Rattle.factors.proofs.Hours.{shower_value, hours_value}
use Rattle.factors.proofs.Ages.{child_value, adult_value, ages_value}
use Rattle.formulas.specs.Formula.{Formula, ◌÷◌, none, B, H, G, One, ET, F, N, S, Vol, L, W, VF, PEF, no_pathways, derived, derived_places}
use Rattle.formulas.specs.Formula.{ChildSA, ChildEF, ChildED, ChildBW, AdultSA, AdultEF, AdultED, AdultBW}
use Rattle.formulas.specs.Term.{look, constants, present_of, evaluated, term_of, total_of}
use Rattle.factors.specs.Stands.{Stands, StandAll, factor_numbers, contaminant_numbers}
use Rattle.factors.specs.Stands.StandAll.{end, next}
use Rattle.factors.specs.Prepared.{Middle, unit, shower_of, hours_of, one_age, both_ages}
use Rattle.terms.specs.Side.{number_inputs, number_values, Ready, SideFor, no_side}
use Rattle.decimal.proofs.Value.{Value, skip_first, skip_next, value_zero}
use Rattle.factors.proofs.StandsLaws.{no_number, zero_stands, stands_at, stands_join, stands_operand, stands_middle, stands_value, stands_most, stands_is, stands_div, stands_add, stands_mul3}
use Rattle.factors.proofs.Constants.{num, unit_stands, millionth_stands, thousandth_stands, half_stands, years_per_hour_stands, days_stands, thousand_stands, hours_per_day_stands}
use Rattle.formulas.proofs.Presence.{ZeroByDigits, term_evaluated, absent_term}

-- ---- the code's numbers in the order of the table's names, from the first constant
abbrev constant_numbers : List Number
constant_numbers = num 100000000 2992 ∷ (num 100000000 2986 ∷ (num 100000000 2989 ∷ (num 500000000 2991 ∷ (num 114000000 2988 ∷ (num 365000000 2994 ∷ (num 100000000 2995 ∷ (num 240000000 2993 ∷ [])))))))

constants_stand : StandAll constant_numbers (map working_of constants)
constants_stand = next unit_stands (next millionth_stands (next thousandth_stands (next half_stands (next years_per_hour_stands (next days_stands (next thousand_stands (next hours_per_day_stands end)))))))

abbrev pub numbers : Factors → ContaminantNumbers → List Number
numbers f t = constant_numbers ++ (factor_numbers f ++ contaminant_numbers t)

-- the values of the factors that are worked out, or zeros, in front
data Front : List Decimal → Type 0 where
  bare : Front []
  worked : {d : Decimal} {ds : List Decimal} → ZeroByDigits d → Front ds → Front (d ∷ ds)

fronted : {ds : List Decimal} → Front ds → (l : List Decimal) → ((n : ℕ) → ZeroByDigits (look l n)) → (n : ℕ) → ZeroByDigits (look (ds ++ l) n)
fronted bare l vs n = vs n
fronted (worked v vs) l is zero = v
fronted (worked v vs) l is (suc n) = fronted vs l is n

-- the k-th place behind so many
abbrev pub behind : ℕ → ℕ → ℕ
behind zero k = k
behind (suc m) k = suc (behind m k)

module _ {dir : Direction} {m : ℕ} {f : Factors} {p : Prepared} {t : ContaminantNumbers} (r : Ready dir m f p t) where
  inputs_stand : StandAll (numbers f t) (number_inputs f t)
  inputs_stand = stands_join constants_stand (stands_join r.factors r.numbers)

  -- THE INPUT of a name that is not worked out: the number that the code has for it, its size, and its range
  pub input : (n : ℕ) → Stands input_width (get_or (numbers f t) (n - derived_places) no_number) (look (number_values dir f t) (behind derived_places (n - derived_places)))
  unfolding number_values derived
  input n = stands_at inputs_stand (n - derived_places)

  pub middle : (n : ℕ) → Middle (get_or (numbers f t) (n - derived_places) no_number)
  middle n = stands_middle (lit≤ tt) (input n)

  pub range : (n : ℕ) → InRange (get_or (numbers f t) (n - derived_places) no_number)
  range n = (stands_operand (lit≤ tt) (input n)).range

  input_known : (n : ℕ) → ZeroByDigits (look (number_inputs f t) n)
  input_known n = value_zero (stands_value (lit≤ tt) (stands_at inputs_stand n))

  plain : List Decimal
  plain = zero_of ∷ zero_of ∷ zero_of ∷ number_inputs f t

  plain_known : (n : ℕ) → ZeroByDigits (look plain n)
  unfolding plain
  plain_known n = fronted (worked (λ e. refl) (worked (λ e. refl) (worked (λ e. refl) bare))) (number_inputs f t) input_known n

  -- two parts, each the term of a formula, added up
  two_parts : (g h : Formula) {a b : Decimal} {v w : ℕ} → term_of plain dir g ≡ a → term_of plain dir h ≡ b → Value (ends v v) a → Value (ends w w) b →
      total_of plain dir (g ∷ h ∷ []) ≡ add_of a b dir
  unfolding total_of
  two_parts g h {a} {b} e k x y =
      ap (λ (d : Decimal). summed dir zero_of (d ∷ term_of plain dir h ∷ [])) e ∙
      ap (λ (d : Decimal). summed dir zero_of (a ∷ d ∷ [])) k ∙
      ap (λ (d : Decimal). summed dir d (b ∷ [])) (skip_first dir x) ∙
      skip_next dir x y

  -- the two parts of B
  vf_term : term_of plain dir ((One ∷ []) ÷ (VF ∷ [])) ≡ div_of unit (decimal_of t.transfer.vf) dir
  unfolding plain
  vf_term = term_evaluated plain plain_known dir ((One ∷ []) ÷ (VF ∷ []))

  pef_term : term_of plain dir ((One ∷ []) ÷ (PEF ∷ [])) ≡ div_of unit (decimal_of f.contact.pef) dir
  unfolding plain
  pef_term = term_evaluated plain plain_known dir ((One ∷ []) ÷ (PEF ∷ []))

  -- what the code adds up
  unfoldable pub air_number : Number
  air_number = sum_of dir (quotient_of dir (num 100000000 2992) t.transfer.vf) p.inverse_pef

  vf_stands : Stands two_width (quotient_of dir (num 100000000 2992) t.transfer.vf) (div_of unit (decimal_of t.transfer.vf) dir)
  unfolding number_values derived
  vf_stands = stands_div dir unit_stands (input VF) (lit≤ tt) refl

  added : look (number_values dir f t) B ≡ add_of (div_of unit (decimal_of t.transfer.vf) dir) (div_of unit (decimal_of f.contact.pef) dir) dir
  unfolding number_values derived plain
  added = two_parts ((One ∷ []) ÷ (VF ∷ [])) ((One ∷ []) ÷ (PEF ∷ [])) vf_term pef_term (stands_value (lit≤ tt) vf_stands) (stands_value (lit≤ tt) r.prepared.inverse_pef)

  pub air_stands : Stands air_width air_number (look (number_values dir f t) B)
  unfolding air_number
  air_stands = stands_is (sym added) (stands_add dir vf_stands r.prepared.inverse_pef (lit≤ tt) (lit≤ tt) refl)

  -- the two parts of H, and what the code works out
  et_term : term_of plain dir ((ET ∷ []) ÷ []) ≡ decimal_of f.contact.et
  unfolding plain
  et_term = term_evaluated plain plain_known dir ((ET ∷ []) ÷ [])

  shower_term : term_of plain dir ((F ∷ N ∷ S ∷ Vol ∷ []) ÷ (L ∷ W ∷ [])) ≡ shower_of dir f
  unfolding plain
  shower_term = term_evaluated plain plain_known dir ((F ∷ N ∷ S ∷ Vol ∷ []) ÷ (L ∷ W ∷ []))

  et_value : Value (ends input_width input_width) (decimal_of f.contact.et)
  unfolding number_values derived
  et_value = stands_value (lit≤ tt) (input ET)

  hours_added : look (number_values dir f t) H ≡ hours_of dir f
  unfolding number_values derived plain
  hours_added = two_parts ((ET ∷ []) ÷ []) ((F ∷ N ∷ S ∷ Vol ∷ []) ÷ (L ∷ W ∷ [])) et_term shower_term et_value (shower_value dir r.factors)

  pub hours_stands : m ≡ medium_number Water → Stands hours_width p.hours (look (number_values dir f t) H)
  hours_stands water = stands_is (sym hours_added) (r.prepared.hours water)

  hours_known : ZeroByDigits (look (number_values dir f t) H)
  hours_known = subst ZeroByDigits (sym hours_added) (value_zero (hours_value dir r.factors))

  -- the two parts of G, and what the code works out
  child_term : term_of plain dir ((ChildSA ∷ ChildEF ∷ ChildED ∷ []) ÷ (ChildBW ∷ [])) ≡ one_age dir f.ages.child
  unfolding plain
  child_term = term_evaluated plain plain_known dir ((ChildSA ∷ ChildEF ∷ ChildED ∷ []) ÷ (ChildBW ∷ []))

  adult_term : term_of plain dir ((AdultSA ∷ AdultEF ∷ AdultED ∷ []) ÷ (AdultBW ∷ [])) ≡ one_age dir f.ages.adult
  unfolding plain
  adult_term = term_evaluated plain plain_known dir ((AdultSA ∷ AdultEF ∷ AdultED ∷ []) ÷ (AdultBW ∷ []))

  ages_added : look (number_values dir f t) G ≡ both_ages dir f
  unfolding number_values derived plain
  ages_added =
      two_parts ((ChildSA ∷ ChildEF ∷ ChildED ∷ []) ÷ (ChildBW ∷ [])) ((AdultSA ∷ AdultEF ∷ AdultED ∷ []) ÷ (AdultBW ∷ []))
      child_term adult_term (child_value dir r.factors) (adult_value dir r.factors)

  pub ages_stand : m ≡ medium_number Soil → Stands ages_width p.both_ages (look (number_values dir f t) G)
  ages_stand soil = stands_is (sym ages_added) (r.prepared.both_ages soil)

  ages_known : ZeroByDigits (look (number_values dir f t) G)
  ages_known = subst ZeroByDigits (sym ages_added) (value_zero (ages_value dir r.factors))

  -- every value is zero where its m is
  values_known : (n : ℕ) → ZeroByDigits (look (number_values dir f t) n)
  unfolding number_values derived
  values_known n = fronted (worked (value_zero (stands_value (lit≤ tt) air_stands)) (worked hours_known (worked ages_known bare))) (number_inputs f t) input_known n

  -- ---- a number that stands for a formula's value stands for its term
  pub term_stands : (g : Formula) {w : ℕ} {x : Number} → w ≤ formula_width → Stands w x (evaluated (number_values dir f t) dir g) →
      Stands formula_width x (term_of (number_values dir f t) dir g)
  term_stands g h s = stands_most h (stands_is (sym (term_evaluated (number_values dir f t) values_known dir g)) s)

-- the product of the factors that are named, and of those after the stroke
abbrev pub named : Direction → Factors → ContaminantNumbers → List ℕ → Decimal
named dir f t ns = list_product dir (map (look (number_values dir f t)) ns)

abbrev pub named_below : Direction → Factors → ContaminantNumbers → List ℕ → Decimal
named_below dir f t ns = list_product (opposite dir) (map (look (number_values dir f t)) ns)

-- a divisor, multiplied in the other direction
pub stands_turned : (dir back : Direction) → back ≡ opposite dir → {u v w : ℕ} {p q n r : Number} {a b c : Decimal} → Stands u p a → Stands v q b → Stands w n c →
    u + v + w ≤ 970 → r ≡ product_of back (product_of back p q) n →
    Stands (u + v + w + 2) r (mul_of (mul_of a b (opposite dir)) c (opposite dir))
stands_turned dir back e {u} {v} {w} {p} {q} {n} {r} {a} {b} {c} s t z h k =
    subst (λ (d : Direction). Stands (u + v + w + 2) r (mul_of (mul_of a b d) c d)) e (stands_mul3 back s t z h k)

-- no formula, no term
pub no_term : (vs : List Decimal) (dir : Direction) → term_of vs dir none ≡ zero_of
unfolding present_of
no_term vs dir = absent_term vs dir none refl

none_stands : (vs : List Decimal) (dir : Direction) → Stands formula_width no_number (term_of vs dir none)
none_stands vs dir = stands_is (sym (no_term vs dir)) (stands_most (lit≤ tt) zero_stands)

-- a side without a pathway: hazard of all but chemicals, and tritium in soil
pub no_terms : (dir : Direction) (f : Factors) (t : ContaminantNumbers) {s : PathwayTerms} → s ≡ no_side → SideFor dir f t no_pathways s
no_terms dir f t e = subst (SideFor dir f t no_pathways) (sym e) (record { first = none_stands _ dir; second = none_stands _ dir; third = none_stands _ dir })
