-- What a formula needs so that its term can be bounded: how many roundings it makes and the range of its exponent. Every formula of the
-- table passes one computed test. Assumes nothing.
use mathlib.Core.Path.{◌≡◌, refl}
use mathlib.Core.Bool.{Bool, true, false, cond, not, ◌&&◌, and-false}
use mathlib.Core.List.{List, [], ◌∷◌}
use Prim.Native.Nat.{ℕ, zero, suc, ◌+◌, ◌≤◌, ◌<◌}
use native.Mathlib.Omega.{arith}
use lib.Dec.{eqb, leb, ltb}
use lib.ListN.{length, get_or}
use borrow.Author.Tests.{eqb-true, ne_eqb, leb-true}
use Rattle.formulas.specs.Limits.{input_range, part_roundings, part_range, worked_roundings, worked_range, formula_roundings, formula_range}
use Rattle.decimal.specs.Range.{Range, ends, operand_range, quotient_range, product_range, joined_range, Covers, covers_test}
use Rattle.decimal.proofs.Ranges.{covers}
use Rattle.inputs.proofs.Tests.{and_split}
use Rattle.inputs.specs.declared.kind.Inhalation.{Inhalation}
use Rattle.inputs.specs.declared.kind.Inhalation.TheVariants.{Intake, Concentration}
use Rattle.inputs.specs.Rules.{most_class}
use Rattle.formulas.specs.Side.{Side, Risk, Hazard}
use Rattle.formulas.specs.Formula.{Formula, Row, table, formulas_of, is_row, row_of, pathways_of, no_pathways, derived, derived_places, none}

-- a factor that is worked out stands in one of the first places, with its own limits; an input is exact
abbrev pub is_derived : ℕ → Bool
is_derived n = ltb n derived_places

abbrev pub roundings_of : ℕ → ℕ
roundings_of n = cond (is_derived n) worked_roundings 0

abbrev pub range_of : ℕ → Range
range_of n = cond (is_derived n) worked_range input_range

-- of further factors, each multiplied once
abbrev pub roundings : List ℕ → ℕ
roundings [] = 0
roundings (n ∷ ns) = 1 + roundings_of n + roundings ns

abbrev pub ranges : List ℕ → Range
ranges [] = ends 0 0
ranges (n ∷ ns) = product_range (range_of n) (ranges ns)

-- of a product
abbrev pub roundings_in : List ℕ → ℕ
roundings_in [] = 0
roundings_in (n ∷ ns) = roundings_of n + roundings ns

abbrev pub range_in : List ℕ → Range
range_in [] = ends 0 0
range_in (n ∷ ns) = joined_range (range_of n) (ranges ns)

-- of a formula
abbrev pub range_by : Formula → Range
range_by f = quotient_range (range_in f.before) (range_in f.after)

-- inputs only: what is worked out is rounded one way, and may not stand after the stroke
abbrev pub inputs_only : List ℕ → Bool
inputs_only [] = true
inputs_only (n ∷ ns) = not (is_derived n) && inputs_only ns

pub record Sound (k : ℕ) (w : Range) (f : Formula) : Type 0 where
  pub near : roundings_in f.after + (1 + roundings_in f.before) ≤ k
  pub ranged : Covers w (range_by f)
  pub clean : inputs_only f.after ≡ true

-- the products before and after the stroke stay in range with the formula
pub before_covered : {k : ℕ} {w : Range} {f : Formula} → Sound k w f → Covers w (range_in f.before)
before_covered o = record { low = omega (arith, o.ranged.low); high = omega (arith, o.ranged.high) }

pub after_covered : {k : ℕ} {w : Range} {f : Formula} → Covers operand_range w → Sound k w f → Covers operand_range (range_in f.after)
after_covered u o = record { low = omega (arith, u.high, o.ranged.high); high = omega (arith, u.low, o.ranged.low) }

abbrev sound_test : ℕ → Range → Formula → Bool
sound_test k w f = leb (roundings_in f.after + (1 + roundings_in f.before)) k && (covers_test w (range_by f) && inputs_only f.after)

sound_of : (k : ℕ) (w : Range) (f : Formula) → sound_test k w f ≡ true → Sound k w f
sound_of k w f t =
    let a = and_split (leb (roundings_in f.after + (1 + roundings_in f.before)) k) _ t in
    let b = and_split (covers_test w (range_by f)) _ a.1 in
    record { near = leb-true _ k a.0; ranged = covers b.0; clean = b.1 }

-- ---- a list of formulas, and a table of such lists
pub data Sounds (k : ℕ) (w : Range) : List Formula → Type 0 where
  end : Sounds k w []
  next : {f : Formula} {fs : List Formula} → Sound k w f → Sounds k w fs → Sounds k w (f ∷ fs)

abbrev all_sound : ℕ → Range → List Formula → Bool
all_sound k w [] = true
all_sound k w (f ∷ fs) = sound_test k w f && all_sound k w fs

sounds_of : (k : ℕ) (w : Range) (fs : List Formula) → all_sound k w fs ≡ true → Sounds k w fs
sounds_of k w [] t = end
sounds_of k w (f ∷ fs) t = let a = and_split (sound_test k w f) (all_sound k w fs) t in next (sound_of k w f a.0) (sounds_of k w fs a.1)

-- ---- THE TABLE: every formula of it keeps the limits, and each side of each row has three places
abbrev row_sound : Row → Bool
row_sound x = all_sound formula_roundings formula_range x.risk && all_sound formula_roundings formula_range x.hazard

abbrev row_three : Row → Bool
row_three x = eqb (length x.risk) 3 && eqb (length x.hazard) 3

abbrev rows_sound : List Row → Bool
rows_sound [] = true
rows_sound (x ∷ xs) = (row_sound x && row_three x) && rows_sound xs

pub record RowGood (fs : List Formula) : Type 0 where
  pub sound : Sounds formula_roundings formula_range fs
  pub three : length fs ≡ 3

side_good : (x : Row) → row_sound x && row_three x ≡ true → (side : Side) → RowGood (formulas_of x side)
side_good x t Risk =
    let a = and_split (row_sound x) (row_three x) t in
    record {
      sound = sounds_of formula_roundings formula_range x.risk (and_split (all_sound formula_roundings formula_range x.risk) _ a.0).0;
      three = eqb-true (length x.risk) 3 (and_split (eqb (length x.risk) 3) _ a.1).0;
    }
side_good x t Hazard =
    let a = and_split (row_sound x) (row_three x) t in
    record {
      sound = sounds_of formula_roundings formula_range x.hazard (and_split (all_sound formula_roundings formula_range x.risk) _ a.0).1;
      three = eqb-true (length x.hazard) 3 (and_split (eqb (length x.risk) 3) _ a.1).1;
    }

no_pathways_good : RowGood no_pathways
no_pathways_good = record { sound = sounds_of formula_roundings formula_range no_pathways refl; three = refl }

one_of : (b : Bool) {fs gs : List Formula} → RowGood fs → RowGood gs → RowGood (cond b fs gs)
one_of true f g = f
one_of false f g = g

rows_good : (xs : List Row) → rows_sound xs ≡ true → (medium class : ℕ) (side : Side) → RowGood (row_of xs medium class side)
rows_good [] t medium class side = no_pathways_good
rows_good (x ∷ xs) t medium class side =
    let both = and_split (row_sound x && row_three x) (rows_sound xs) t in
    one_of (is_row x medium class) (side_good x both.0 side) (rows_good xs both.1 medium class side)

-- by intake and by concentration
table_passes : (i : Inhalation) → rows_sound (table i) ≡ true
unfolding table
table_passes Intake = refl
table_passes Concentration = refl

table_good : (i : Inhalation) (medium class : ℕ) (side : Side) → RowGood (pathways_of i medium class side)
unfolding pathways_of
table_good i medium class side = rows_good (table i) (table_passes i) medium class side

-- every medium, class and side has three rows, each within the limits of a formula
pub table_sound : (i : Inhalation) (medium class : ℕ) (side : Side) → Sounds formula_roundings formula_range (pathways_of i medium class side)
table_sound i medium class side = (table_good i medium class side).sound

pub three_pathways : (i : Inhalation) (medium class : ℕ) (side : Side) → length (pathways_of i medium class side) ≡ 3
three_pathways i medium class side = (table_good i medium class side).three

-- a class that has no row has no pathway: no other class can stand for it
pub other_class : (i : Inhalation) (medium class : ℕ) (side : Side) → most_class < class → pathways_of i medium class side ≡ no_pathways
unfolding pathways_of table
other_class i medium class side h =
    let one = ne_eqb 1 class (λ e. omega (arith, h, e)) in
    let two = ne_eqb 2 class (λ e. omega (arith, h, e)) in
    let three = ne_eqb 3 class (λ e. omega (arith, h, e)) in
    simp (one, two, three, and-false)

-- no medium and class has two rows, of which the second would not count
abbrev named : List Row → ℕ → ℕ → Bool
named [] medium class = false
named (x ∷ xs) medium class = cond (is_row x medium class) true (named xs medium class)

abbrev distinct : List Row → Bool
distinct [] = true
distinct (x ∷ xs) = not (named xs x.medium x.class) && distinct xs

pub table_distinct : (i : Inhalation) → distinct (table i) ≡ true
unfolding table
table_distinct i = refl

-- every class has a row of its own in each medium, but tritium in soil, which has no pathway
pub table_whole : (i : Inhalation) →
    named (table i) 1 1 && (named (table i) 1 2 && (named (table i) 2 1 && (named (table i) 2 2 && named (table i) 2 3))) ≡ true
unfolding table
table_whole i = refl

pub tritium_in_soil : (i : Inhalation) (side : Side) → pathways_of i 1 3 side ≡ no_pathways
unfolding pathways_of table
tritium_in_soil i side = refl

-- ---- the factors that are worked out: each the sum of at most two parts within their limits
pub data Every (k : ℕ) (w : Range) : List (List Formula) → Type 0 where
  end : Every k w []
  next : {fs : List Formula} {fss : List (List Formula)} → Sounds k w fs → length fs ≤ 2 → Every k w fss → Every k w (fs ∷ fss)

abbrev every_test : ℕ → Range → List (List Formula) → Bool
every_test k w [] = true
every_test k w (fs ∷ fss) = (all_sound k w fs && leb (length fs) 2) && every_test k w fss

every_of : (k : ℕ) (w : Range) (fss : List (List Formula)) → every_test k w fss ≡ true → Every k w fss
every_of k w [] t = end
every_of k w (fs ∷ fss) t =
    let a = and_split (all_sound k w fs && leb (length fs) 2) (every_test k w fss) t in
    let b = and_split (all_sound k w fs) (leb (length fs) 2) a.0 in
    next (sounds_of k w fs b.0) (leb-true (length fs) 2 b.1) (every_of k w fss a.1)

pub derived_every : Every part_roundings part_range derived
unfolding derived
derived_every = every_of part_roundings part_range derived refl

pub derived_places_lem : length derived ≡ derived_places
unfolding derived
derived_places_lem = refl

pub sound_at_lem : {k : ℕ} {w : Range} {fs : List Formula} → Sounds k w fs → Sound k w none → (n : ℕ) → Sound k w (get_or fs n none)
sound_at_lem end z n = z
sound_at_lem (next s ss) z zero = s
sound_at_lem (next s ss) z (suc n) = sound_at_lem ss z n

pub none_sound : Sound formula_roundings formula_range none
none_sound = sound_of formula_roundings formula_range none refl

pub three_places : (fs : List Formula) → length fs ≡ 3 → fs ≡ get_or fs 0 none ∷ get_or fs 1 none ∷ get_or fs 2 none ∷ []
three_places [] h = absurd (omega (arith, h))
three_places (a ∷ []) h = absurd (omega (arith, h))
three_places (a ∷ (b ∷ [])) h = absurd (omega (arith, h))
three_places (a ∷ (b ∷ (c ∷ []))) h = refl
three_places (a ∷ (b ∷ (c ∷ (d ∷ ds)))) h = absurd (omega (arith, h))
