-- Decimals on the way to a result, and that they are operands: working decimals with an e from -999 to 999. Assumes nothing.
use mathlib.Core.Path.{◌≡◌, refl, sym, ap, subst, ◌∙◌}
use mathlib.Core.Bool.{Bool, true, cond, and-eq-true_iff}
use mathlib.Core.List.{List, [], ◌∷◌, ◌++◌}
use Prim.Native.Nat.{ℕ, zero, suc}
use native.Mathlib.Omega.{arith}
use lib.Dec.{eqb, lit<}
use lib.ListN.{length, get_or}
use Rattle.std.specs.List.{Contains, flat_map}
use Rattle.std.proofs.lemmas.List.Elements.{Contains-append_left, Contains-append_right}
use Rattle.std.proofs.lemmas.List.Folds.{list_all-append}
use Rattle.std.proofs.lemmas.List.Sums.{AllPass-from_list_all}
use Rattle.rounding.specs.declared.Direction.{Direction}
use Rattle.decimal.specs.declared.Decimal.{Decimal}
use Rattle.decimal.specs.Range.{Range, operand_range, product_range, added_range, Covers}
use Rattle.decimal.specs.Decimal.{zero_of, biased_of, is_operand, all_operands, mul_of, add_of}
use Rattle.decimal.specs.Lists.{summed, summed_steps}
use Rattle.decimal.proofs.Laws.{Operable, operable_zero, mul_zero_left, mul_zero_right}
use Rattle.decimal.proofs.Ranges.{covers_self}
use Rattle.decimal.proofs.Approximation.{sized_operable, sized_mul, sized_add, add_zero_left, add_zero_right, add_zeros, more_covered, first_covered, rest_covered}
use Rattle.decimal.proofs.Value.{Value, value_most, skip_next}
use Rattle.decimal.proofs.Value.Value.{absent, known}

-- ---- lists of operands
abbrev operand : Decimal → Bool
operand d = is_operand (biased_of d)

pub operands_append : (xs ys : List Decimal) → all_operands xs ≡ true → all_operands ys ≡ true → all_operands (xs ++ ys) ≡ true
operands_append xs ys h k = list_all-append operand xs ys ∙ rw (h, k)

-- those behind others
pub operands_behind : (xs ys : List Decimal) → all_operands (xs ++ ys) ≡ true → all_operands ys ≡ true
operands_behind xs ys h = ((and-eq-true_iff (all_operands xs) (all_operands ys)).0 (sym (list_all-append operand xs ys) ∙ h)).1

-- each of them, by its place, or because it is among them
pub operand_at : (ds : List Decimal) → all_operands ds ≡ true → (n : ℕ) → is_operand (biased_of (get_or ds n zero_of)) ≡ true
operand_at [] h n = operable_zero.tested
operand_at (d ∷ ds) h zero = ((and-eq-true_iff (operand d) (all_operands ds)).0 h).0
operand_at (d ∷ ds) h (suc n) = operand_at ds ((and-eq-true_iff (operand d) (all_operands ds)).0 h).1 n

pub operand_among : (d : Decimal) (ds : List Decimal) → all_operands ds ≡ true → Contains ds d → is_operand (biased_of d) ≡ true
operand_among d ds h at = subst (λ (x : Decimal). operand x ≡ true) at.2 (AllPass-from_list_all operand ds h at.0 d at.1)

-- all of them, where every place has one
pub operands_all : (ds : List Decimal) → ((n : ℕ) → is_operand (biased_of (get_or ds n zero_of)) ≡ true) → all_operands ds ≡ true
operands_all [] h = refl
operands_all (d ∷ ds) h = rw (h 0) (operands_all ds (λ n. h (suc n)))

-- ---- what a list holds
-- what one of several calculations works out is among what all of them do
pub flat_contains : {A : Type 0} (f : A → List Decimal) (xs : List A) (x : A) (d : Decimal) → Contains xs x → Contains (f x) d → Contains (flat_map f xs) d
flat_contains f [] x d at h = absurd (omega (arith, at.1))
flat_contains f (y ∷ ys) x d (zero, l, e) h = Contains-append_left (f y) (flat_map f ys) d (subst (λ z. Contains (f z) d) (sym e) h)
flat_contains f (y ∷ ys) x d (suc i, l, e) h = Contains-append_right (f y) (flat_map f ys) d (flat_contains f ys x d (i, omega (arith, l), e) h)

-- and a sum is among its steps
pub summed_contains : (dir : Direction) (a : Decimal) (bs : List Decimal) → Contains (summed_steps dir a bs) (summed dir a bs)
summed_contains dir a [] = (0, lit< tt, refl)
summed_contains dir a (b ∷ bs) =
    let c = cond (eqb b.m 0) a (add_of a b dir) in
    Contains-append_right (a ∷ []) (summed_steps dir c bs) (summed dir c bs) (summed_contains dir c bs)

-- ---- a decimal that is zero or has nine digits, and what is made of two of them
pub value_operable : {w : Range} {d : Decimal} → Value w d → Operable d
value_operable (absent e) = subst Operable (sym e) operable_zero
value_operable (known s) = sized_operable s

pub value_operand : {w : Range} {d : Decimal} → Value w d → is_operand (biased_of d) ≡ true
value_operand v = (value_operable v).tested

pub value_mul : (dir : Direction) {v w : Range} {a b : Decimal} → Covers operand_range (product_range v w) → Value v a → Value w b → Value (product_range v w) (mul_of a b dir)
value_mul dir {b = b} h (absent e) g = absent (ap (λ (d : Decimal). mul_of d b dir) e ∙ mul_zero_left dir b)
value_mul dir {a = a} h (known f) (absent e) = absent (ap (λ (d : Decimal). mul_of a d dir) e ∙ mul_zero_right dir a)
value_mul dir h (known f) (known g) = known (sized_mul dir f g h)

pub value_add : (dir : Direction) {w : Range} {a b : Decimal} → Covers operand_range (added_range 1 w) → Value w a → Value w b → Value (added_range 1 w) (add_of a b dir)
value_add dir h (absent e) (absent f) = absent (rw (e, f, add_zeros dir))
value_add dir h (absent e) (known g) = rw (e, add_zero_left dir g) (value_most (more_covered covers_self) (known g))
value_add dir h (known f) (absent e) = rw (e, add_zero_right dir f) (value_most (more_covered covers_self) (known f))
value_add dir h (known f) (known g) = known (sized_add dir f g h covers_self)

-- ---- sums
pub data Values (w : Range) : List Decimal → Type 0 where
  end : Values w []
  next : {d : Decimal} {ds : List Decimal} → Value w d → Values w ds → Values w (d ∷ ds)

pub summed_operands : (dir : Direction) {w v : Range} {a : Decimal} {bs : List Decimal} → Covers v w → Covers operand_range (added_range (length bs) v) → Value v a → Values w bs →
    all_operands (summed_steps dir a bs) ≡ true
summed_operands dir l u f end = rw (value_operand f)
summed_operands dir {w} {v} l u f (next {d} {ds} g gs) =
    let more = value_add dir (first_covered v (length ds) u) f (value_most l g) in
    rw (value_operand f, skip_next dir f g) (summed_operands dir {v = added_range 1 v} (more_covered l) (rest_covered v (length ds) u) more gs)
