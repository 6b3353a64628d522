-- What the test of an operand says of the number, and how a method's result follows from it. Assumes nothing.
use mathlib.Core.Path.{◌≡◌, refl, sym, ap, subst, ◌∙◌}
use mathlib.Core.Bool.{Bool, true, false, cond, not, ◌&&◌, and-eq-true_iff}
use mathlib.Core.Logic.{inl, inr}
use Prim.Native.Nat.{ℕ, ◌*◌, ◌^◌, ◌<◌}
use native.Mathlib.Omega.{arith}
use lib.Dec.{eqb, leb}
use borrow.Author.Tests.{eqb-true, eqb-false, leb-true, ne_eqb, le-leb, not-true}
use Rattle.std.proofs.Common.{Option, Some, None}
use Rattle.std.specs.Prelude.{MatchOption}
use Rattle.rounding.specs.declared.Number.{Number}
use Rattle.rounding.specs.Number.{worth, Nine, Working, InRange, at_most_of as Number-atMostOf}
use Rattle.decimal.specs.declared.Decimal.{Decimal}
use Rattle.decimal.specs.Exponent.{raise, raised}
use Rattle.decimal.specs.Decimal.{zero_of, biased_of, decimal_of, value_of, is_operand, are_operands, operands_of, at_most_of}
use Rattle.decimal.proofs.Bias.{raised_bounds, raised_is}

-- ---- a conjunction of tests
pub and_left : (a b : Bool) → a && b ≡ true → a ≡ true
and_left a b h = ((and-eq-true_iff a b).0 h).0

pub and_right : (a b : Bool) → a && b ≡ true → b ≡ true
and_right a b h = ((and-eq-true_iff a b).0 h).1

pub record Operand (r : Number) : Type 0 where
  pub working : Working r
  pub range : InRange r

-- a number whose exponent is 0 or in range
operand_core : (r : Number) → ((r.x ≡ 0 → ⊥) → (2000 < r.x) × (r.x < 4000)) → (b : Bool) → eqb r.m 0 ≡ b →
    cond b (eqb r.x 3000) (leb 100000000 r.m && (leb r.m 999999999 && not (eqb r.x 0))) ≡ true → Operand r
operand_core r f true z h = let e = eqb-true r.x 3000 h in let y = eqb-true r.m 0 z in record { working = inl y; range = record { most = omega arith; low = omega arith; high = omega arith } }
operand_core r f false z h =
    let a = leb-true 100000000 r.m (and_left (leb 100000000 r.m) _ h) in
    let t = and_right (leb 100000000 r.m) _ h in
    let b = leb-true r.m 999999999 (and_left (leb r.m 999999999) _ t) in
    let x = f (eqb-false r.x 0 (not-true _ (and_right (leb r.m 999999999) _ t))) in
    record { working = inr (record { least = a; most = omega (arith, b) }); range = record { most = omega (arith, b); low = x.0; high = x.1 } }

pub operand_is : (d : Decimal) → is_operand (biased_of d) ≡ true → Operand (biased_of d)
unfolding is_operand
operand_is d h = operand_core (biased_of d) (raised_bounds d.e) (eqb d.m 0) refl h

-- the other way round
pub is_operand_lem : (r : Number) → Nine r → 0 < r.x → is_operand r ≡ true
unfolding is_operand
is_operand_lem r n p = rw (ne_eqb r.m 0 (omega (arith, n.least)), le-leb 100000000 r.m n.least, le-leb r.m 999999999 (omega (arith, n.most)), ne_eqb r.x 0 (omega arith))

-- an operand's exponent is the biased one
pub exponent_is : (d : Decimal) → is_operand (biased_of d) ≡ true → raise d.e ≡ raised d.e
exponent_is d h = raised_is d.e (omega (arith, (operand_is d h).range.low))

-- ---- two operands, if both are
-- what holds where both are operands, and where one is none
abbrev Both : Decimal → Decimal → Number × Number → Type 0
Both a b t = (are_operands a b ≡ true) × (t ≡ (biased_of a, biased_of b))

operands_cases : (a b : Decimal) → MatchOption {T = Number × Number} (operands_of a b) (are_operands a b ≡ false) (Both a b)
unfolding operands_of
operands_cases a b = cases (are_operands a b) refl
  where
    cases : (v : Bool) → are_operands a b ≡ v → MatchOption {T = Number × Number} (cond v (Some (biased_of a, biased_of b)) None) (are_operands a b ≡ false) (Both a b)
    cases true e = (e, refl)
    cases false e = e

module _ (a b : Decimal) {o : Option (Number × Number)} (e : o ≡ operands_of a b) where
  operands_both : {p q : Number} → o ≡ Some (p, q) → Both a b (p, q)
  operands_both {p} {q} f = subst (λ (o : Option (Number × Number)). MatchOption {T = Number × Number} o (are_operands a b ≡ false) (Both a b)) (sym e ∙ f) (operands_cases a b)

  -- they are operands
  pub operands_hold : {p q : Number} → o ≡ Some (p, q) → Operand p × Operand q
  operands_hold f =
      let t = operands_both f in
      let p = ap (λ (t : Number × Number). t.0) t.1 in
      let q = ap (λ (t : Number × Number). t.1) t.1 in (
        subst Operand (sym p) (operand_is a (and_left (is_operand (biased_of a)) (is_operand (biased_of b)) t.0)),
        subst Operand (sym q) (operand_is b (and_right (is_operand (biased_of a)) (is_operand (biased_of b)) t.0)),
      )

-- the result of an operation, by what is known of each of its calls
pub operated : (a b : Decimal) (op : Number → Number → Number) {r : Decimal} {Post : Number → Number → Number → Type 0} → ((p q r : Number) → Post p q r → r ≡ op p q) →
    MatchOption {T = Number × Number} (operands_of a b) (r ≡ zero_of) (λ t. (n : Number) × (Post t.0 t.1 n × (r ≡ decimal_of n))) →
    r ≡ cond (are_operands a b) (decimal_of (op (biased_of a) (biased_of b))) zero_of
unfolding operands_of
operated a b op {r} {Post} f = cases (are_operands a b)
  where
    cases : (v : Bool) → MatchOption {T = Number × Number} (cond v (Some (biased_of a, biased_of b)) None) (r ≡ zero_of) (λ t. (n : Number) × (Post t.0 t.1 n × (r ≡ decimal_of n))) →
        r ≡ cond v (decimal_of (op (biased_of a) (biased_of b))) zero_of
    cases true h = h.1.1 ∙ ap decimal_of (f _ _ _ h.1.0)
    cases false h = h

-- ---- compared by worth
pub compared : (a b : Decimal) {r : Bool} {Post : Number × Number → Type 0} → ((t : Number × Number) → Post t → r ≡ Number-atMostOf t.0 t.1) →
    MatchOption {T = Number × Number} (operands_of a b) (r ≡ false) Post → r ≡ at_most_of a b
unfolding operands_of at_most_of
compared a b {r} {Post} f = cases (are_operands a b) refl
  where
    cases : (v : Bool) → are_operands a b ≡ v → MatchOption {T = Number × Number} (cond v (Some (biased_of a, biased_of b)) None) (r ≡ false) Post → r ≡ v && leb (value_of a) (value_of b)
    cases true g h =
        f _ h ∙
        sym (ap (λ (x : ℕ). leb (a.m * 10 ^ x) (worth (biased_of b))) (exponent_is a (and_left (is_operand (biased_of a)) (is_operand (biased_of b)) g))) ∙
        sym (ap (λ (x : ℕ). leb (value_of a) (b.m * 10 ^ x)) (exponent_is b (and_right (is_operand (biased_of a)) (is_operand (biased_of b)) g)))
    cases false g h = h
