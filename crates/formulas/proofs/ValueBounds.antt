-- The values of a scenario and a contaminant stand for their exact fractions: the inputs exactly, what is worked out of them, in front, within
-- its roundings. Assumes nothing.
use mathlib.Core.Path.{◌≡◌, refl, ap, ◌∙◌}
use mathlib.Core.Bool.{Bool, true, false, cond}
use mathlib.Core.List.{List, [], ◌∷◌, ◌++◌, map}
use Prim.Native.Nat.{ℕ, zero, suc}
use native.Mathlib.Omega.{arith}
use lib.Dec.{ltb, lit<, lit≤}
use lib.ListN.{length, length-map}
use borrow.Author.Tests.{le-ltb, lt-ltb, ltb-true, ltb-false}
use Rattle.rounding.specs.declared.Direction.{Direction}
use Rattle.rounding.specs.Direction.{opposite}
use Rattle.decimal.specs.declared.Decimal.{Decimal}
use Rattle.decimal.specs.Decimal.{zero_of, working_of}
use Rattle.decimal.specs.Fraction.{Fraction, nothing, given}
use Rattle.decimal.proofs.Approximation.{Fair, fair_most, working_fair}
use Rattle.decimal.proofs.Approximation.Fair.{none}
use Rattle.decimal.proofs.Ranges.{covers}
use Rattle.formulas.specs.Limits.{input_range, part_roundings, part_range, worked_roundings, worked_range}
use Rattle.inputs.specs.declared.Scenario.{Scenario}
use Rattle.inputs.specs.Inputs.{scenario_decimals}
use Rattle.inputs.specs.Valid.{valid_of, all_valid}
use Rattle.inputs.proofs.Tests.{and_split, valid_small, target_parts}
use Rattle.formulas.specs.Side.{Side, Risk, Hazard}
use Rattle.formulas.specs.Target.{target_of, working_target}
use Rattle.formulas.specs.Formula.{Formula, derived, derived_places}
use Rattle.formulas.specs.Term.{look, plain_values, values_of, term_of, total_of}
use Rattle.formulas.specs.ExactTerm.{exactly, exact_plain, exact_values, exact_total}
use Rattle.formulas.proofs.Sound.{is_derived, Every, derived_every, derived_places_lem}
use Rattle.formulas.proofs.Sound.Every.{end as no-tables, next as one_table}
use Rattle.formulas.proofs.TermBounds.{Represents, total_fair}

-- ---- an input stands for itself as given, whatever the direction
pub valid_fair : (dir : Direction) (d : Decimal) → valid_of d ≡ true → Fair dir 0 input_range (working_of d) (given d)
valid_fair dir d v = let k = valid_small d v in working_fair dir d k.digits k.low k.high

inputs_fair : (dir : Direction) (l : List Decimal) → all_valid l ≡ true → (n : ℕ) → Fair dir 0 input_range (look (map working_of l) n) (exactly (map given l) n)
inputs_fair dir [] v n = none refl refl (lit< tt)
inputs_fair dir (d ∷ ds) v zero = valid_fair dir d (and_split (valid_of d) (all_valid ds) v).0
inputs_fair dir (d ∷ ds) v (suc n) = inputs_fair dir ds (and_split (valid_of d) (all_valid ds) v).1 n

-- so do the targets of a scenario
pub target_valid : (s : Scenario) → all_valid (scenario_decimals s) ≡ true → (side : Side) → valid_of (target_of s side) ≡ true
target_valid s v Risk = (target_parts s v).0
target_valid s v Hazard = (target_parts s v).1

pub target_fair : (dir : Direction) (s : Scenario) → all_valid (scenario_decimals s) ≡ true → (side : Side) → Fair dir 0 input_range (working_target s side) (given (target_of s side))
target_fair dir s v side = valid_fair dir (target_of s side) (target_valid s v side)

-- ---- values that are worked out, in front of the inputs: any number of them
pub data Front (dir : Direction) : List Decimal → List Fraction → Type 0 where
  end : Front dir [] []
  next : {d : Decimal} {q : Fraction} {ds : List Decimal} {qs : List Fraction} → Fair dir worked_roundings worked_range d q → Front dir ds qs → Front dir (d ∷ ds) (q ∷ qs)

abbrev Places : (dir : Direction) (k : ℕ) (vs : List Decimal) (qs : List Fraction) → Type 0
Places dir k vs qs = (n : ℕ) (b : Bool) → ltb n k ≡ b → Fair dir (cond b worked_roundings 0) (cond b worked_range input_range) (look vs n) (exactly qs n)

shorter : (n k : ℕ) (b : Bool) → ltb (suc n) (suc k) ≡ b → ltb n k ≡ b
shorter n k true e = lt-ltb n k (omega (arith, ltb-true (suc n) (suc k) e))
shorter n k false e = le-ltb n k (omega (arith, ltb-false (suc n) (suc k) e))

front_own : (dir : Direction) {ds : List Decimal} {qs : List Fraction} → Front dir ds qs → (ws : List Decimal) (gs : List Fraction) →
    ((n : ℕ) → Fair dir 0 input_range (look ws n) (exactly gs n)) → Places dir (length ds) (ds ++ ws) (qs ++ gs)
front_own dir end ws gs h n true e = absurd (omega (arith, ltb-true n 0 e))
front_own dir end ws gs h n false e = h n
front_own dir (next f fs) ws gs h zero true e = f
front_own dir (next {ds = ds} f fs) ws gs h zero false e = absurd (omega (arith, ltb-false 0 (suc (length ds)) e))
front_own dir (next {ds = ds} f fs) ws gs h (suc n) b e = front_own dir fs ws gs h n b (shorter n (length ds) b e)

front_other : (dir : Direction) {ds : List Decimal} {qs : List Fraction} → Front dir ds qs → (ws : List Decimal) (gs : List Fraction) →
    ((n : ℕ) → Fair (opposite dir) 0 input_range (look ws n) (exactly gs n)) → (n : ℕ) → ltb n (length ds) ≡ false →
    Fair (opposite dir) 0 input_range (look (ds ++ ws) n) (exactly (qs ++ gs) n)
front_other dir end ws gs h n e = h n
front_other dir (next {ds = ds} f fs) ws gs h zero e = absurd (omega (arith, ltb-false 0 (suc (length ds)) e))
front_other dir (next {ds = ds} f fs) ws gs h (suc n) e = front_other dir fs ws gs h n (shorter n (length ds) false e)

fronted : (dir : Direction) (l : List Decimal) → all_valid l ≡ true → {ds : List Decimal} {qs : List Fraction} → length ds ≡ derived_places → Front dir ds qs →
    Represents dir (ds ++ map working_of l) (qs ++ map given l)
fronted dir l v {ds} {qs} long f = record { own = λ n. own n (is_derived n) refl; other = other }
  where
    own : (n : ℕ) (b : Bool) → is_derived n ≡ b → Fair dir (cond b worked_roundings 0) (cond b worked_range input_range) (look (ds ++ map working_of l) n) (exactly (qs ++ map given l) n)
    own n b e = front_own dir f (map working_of l) (map given l) (inputs_fair dir l v) n b (ap (λ (k : ℕ). ltb n k) long ∙ e)

    other : (n : ℕ) → is_derived n ≡ false → Fair (opposite dir) 0 input_range (look (ds ++ map working_of l) n) (exactly (qs ++ map given l) n)
    other n e = front_other dir f (map working_of l) (map given l) (inputs_fair (opposite dir) l v) n (ap (λ (k : ℕ). ltb n k) long ∙ e)

-- nothing is known of them yet
zero_front : (dir : Direction) (fss : List (List Formula)) → Front dir (map (λ (fs : List Formula). zero_of) fss) (map (λ (fs : List Formula). nothing) fss)
zero_front dir [] = end
zero_front dir (fs ∷ fss) = next (none refl refl (lit< tt)) (zero_front dir fss)

-- each is the total of its parts
total_front : (dir : Direction) (vs : List Decimal) (qs : List Fraction) → Represents dir vs qs → (fss : List (List Formula)) →
    Every part_roundings part_range fss → Front dir (map (total_of vs dir) fss) (map (exact_total qs) fss)
total_front dir vs qs r [] no-tables = end
total_front dir vs qs r (fs ∷ fss) (one_table s short e) =
    let n = length-map fs (term_of vs dir) in
    let total = total_fair dir vs qs r {K = part_roundings} {W = part_range} (covers refl) fs s (record { low = lit≤ tt; high = omega (arith, short, n) }) in
    next (fair_most dir (omega (arith, short, n)) (record { low = lit≤ tt; high = omega (arith, short, n) }) total) (total_front dir vs qs r fss e)

-- the inputs, with nothing worked out yet
pub plain_stand : (dir : Direction) (l : List Decimal) → all_valid l ≡ true → Represents dir (plain_values l) (exact_plain l)
plain_stand dir l v = fronted dir l v (length-map derived _ ∙ derived_places_lem) (zero_front dir derived)

pub values_stand : (dir : Direction) (l : List Decimal) → all_valid l ≡ true → Represents dir (values_of dir l) (exact_values l)
unfolding values_of exact_values
values_stand dir l v =
    fronted dir l v (length-map derived _ ∙ derived_places_lem)
    (total_front dir (plain_values l) (exact_plain l) (plain_stand dir l v) derived derived_every)
