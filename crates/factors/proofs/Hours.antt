-- What the code works out of a scenario's house stands for H; without L or without W the part of the shower is zero, and H is ET. Assumes nothing.
use mathlib.Core.Path.{◌≡◌, refl, sym, ap, subst, ◌∙◌}
use mathlib.Core.Bool.{Bool, true, false, false≢true, ◌||◌}
use lib.Dec.{eqb, lit≤}
use borrow.Author.Tests.{eqb-true}
use Rattle.rounding.specs.declared.Direction.{Direction}
use Rattle.rounding.specs.declared.Number.{Number}
use Rattle.rounding.specs.Direction.{opposite}
use Rattle.rounding.specs.Operations.{product_of, quotient_of, sum_of}
use Rattle.decimal.specs.declared.Decimal.{Decimal}
use Rattle.decimal.specs.Decimal.{zero_of, decimal_of, mul_of, div_of, add_of}
use Rattle.decimal.specs.Range.{ends}
use Rattle.decimal.proofs.Laws.{decimal_zero, mul_zero_left, mul_zero_right, div_zero}
use Rattle.decimal.proofs.Value.{Value, skip_next}
use Rattle.decimal.proofs.Value.Value.{absent}
use Rattle.factors.specs.declared.numbers.Factors.{Factors}
use Rattle.factors.specs.Widths.{three_width, four_width, two_width, shower_width, hours_width}
use Rattle.factors.specs.Stands.{Stands, ReadyFactors}
use Rattle.factors.specs.Prepared.{shower_of, hours_of}
use Rattle.factors.proofs.Places.{ET, F, N, S, Vol, L, W}
use Rattle.factors.proofs.StandsLaws.{stands_at, stands_mul, stands_mul3, stands_div, stands_add, stands_is, stands_most, stands_value}

-- the air that a house of volume w changes in an hour, l times of it
abbrev air_of : Number → Number → Direction → Decimal
air_of l w back = mul_of (decimal_of l) (decimal_of w) back

module _ (dir : Direction) {f : Factors} (ready : ReadyFactors f) where
  -- ---- the second part, as the code works it out: three factors, the volume of the shower after them, and the air, rounded the other way
  abbrev three_number : Number
  three_number = product_of dir (product_of dir f.house.f f.house.n) f.house.s

  abbrev three : Decimal
  three = mul_of (mul_of (decimal_of f.house.f) (decimal_of f.house.n) dir) (decimal_of f.house.s) dir

  abbrev four : Decimal
  four = mul_of three (decimal_of f.house.v) dir

  pub three_stands : {a : Number} → a ≡ three_number → Stands three_width a three
  three_stands e = stands_mul3 dir (stands_at ready F) (stands_at ready N) (stands_at ready S) (lit≤ tt) e

  pub four_stands : {a b : Number} → a ≡ three_number → b ≡ product_of dir a f.house.v → Stands four_width b four
  four_stands e g = stands_mul dir (three_stands e) (stands_at ready Vol) (lit≤ tt) g

  pub air_stands : {back : Direction} {a : Number} → back ≡ opposite dir → a ≡ product_of back f.house.l f.house.w →
      Stands two_width a (air_of f.house.l f.house.w (opposite dir))
  air_stands {back} {a} o e =
      subst (λ (d : Direction). Stands two_width a (air_of f.house.l f.house.w d)) o (stands_mul back (stands_at ready L) (stands_at ready W) (lit≤ tt) e)

  -- and H with both parts
  pub hours_stand : {shower h : Number} → Stands shower_width shower (shower_of dir f) → h ≡ sum_of dir f.contact.et shower → Stands hours_width h (hours_of dir f)
  hours_stand s e = stands_add dir {v = shower_width} (stands_most (lit≤ tt) (stands_at ready ET)) s (lit≤ tt) (lit≤ tt) e

  -- ---- whatever the code works out, both are zero or have nine digits
  abbrev shower_number : Number
  shower_number = quotient_of dir (product_of dir three_number f.house.v) (product_of (opposite dir) f.house.l f.house.w)

  shower_stands : Stands shower_width shower_number (shower_of dir f)
  shower_stands = stands_div dir (four_stands refl refl) (air_stands refl refl) (lit≤ tt) refl

  pub shower_value : Value (ends shower_width shower_width) (shower_of dir f)
  shower_value = stands_value (lit≤ tt) shower_stands

  pub hours_value : Value (ends hours_width hours_width) (hours_of dir f)
  hours_value = stands_value (lit≤ tt) (hours_stand shower_stands refl)

  -- ---- without L or without W
  no_air : (l w : Number) → eqb l.m 0 || eqb w.m 0 ≡ true → air_of l w (opposite dir) ≡ zero_of
  no_air l w = cases (eqb l.m 0) (eqb w.m 0) refl refl
    where
      cases : (a b : Bool) → eqb l.m 0 ≡ a → eqb w.m 0 ≡ b → a || b ≡ true → air_of l w (opposite dir) ≡ zero_of
      cases true b e g h = ap (λ (d : Decimal). mul_of d (decimal_of w) (opposite dir)) (decimal_zero l (eqb-true l.m 0 e)) ∙ mul_zero_left (opposite dir) (decimal_of w)
      cases false true e g h = ap (λ (d : Decimal). mul_of (decimal_of l) d (opposite dir)) (decimal_zero w (eqb-true w.m 0 g)) ∙ mul_zero_right (opposite dir) (decimal_of l)
      cases false false e g h = absurd (false≢true h)

  pub hours_alone : eqb f.house.l.m 0 || eqb f.house.w.m 0 ≡ true → Stands hours_width f.contact.et (hours_of dir f)
  hours_alone h =
      let et = decimal_of f.contact.et in
      let none : shower_of dir f ≡ zero_of = ap (λ (d : Decimal). div_of four d dir) (no_air f.house.l f.house.w h) ∙ div_zero dir four in
      let et_stands = stands_at ready ET in
      let nothing : Value (ends 0 0) zero_of = absent refl in
      stands_is (skip_next dir (stands_value (lit≤ tt) et_stands) nothing ∙ ap (λ (d : Decimal). add_of et d dir) (sym none)) (stands_most (lit≤ tt) et_stands)
