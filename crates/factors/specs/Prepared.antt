-- What the code keeps of a scenario: the products that name no decimal of a contaminant.
use Rattle.std.specs.Prelude.{ℕ, [], ◌∷◌, ◌+◌, ◌-◌, ◌≤◌, ◌<◌, pos, negsuc, ◌≡◌}
use Rattle.rounding.specs.Sizes.{ten_digits, bias}
use Rattle.rounding.specs.declared.Direction.{Direction}
use Rattle.rounding.specs.declared.Number.{Number}
use Rattle.rounding.specs.Direction.{opposite}
use Rattle.factors.specs.Widths.{two_width, three_width, hours_width, ages_width, middle_width}
use Rattle.decimal.specs.declared.Decimal.{Decimal}
use Rattle.decimal.specs.Decimal.{decimal_of, add_of, div_of, working_of}
use Rattle.decimal.specs.Lists.{product_of}
use Rattle.inputs.specs.declared.groups.Age.{Age}
use Rattle.inputs.specs.declared.kind.Medium.TheVariants.{Soil, Water}
use Rattle.inputs.specs.Kinds.{medium_number}
use Rattle.factors.specs.declared.numbers.Factors.{Factors}
use Rattle.factors.specs.declared.prepared.Prepared.{Prepared}
use Rattle.factors.specs.Stands.{Stands}

-- a number that can be multiplied twice and stay in range
pub record Middle (r : Number) : Type 0 where
  pub most : r.m < ten_digits
  pub low : (bias - 8) ≤ r.x + middle_width
  pub high : r.x ≤ (bias - 8) + middle_width

-- the size of a product of three
pub record Product3 (a b c r : Number) : Type 0 where
  pub most : r.m < ten_digits
  pub low : a.x + b.x + c.x ≤ r.x + 5984
  pub high : r.x + 5984 ≤ a.x + b.x + c.x + 2

-- the constants 10^-6, 0.5, 365 and 1 as working decimals
abbrev pub millionth : Decimal
millionth = working_of (record { m = 1; e = negsuc 5 })

abbrev pub half : Decimal
half = working_of (record { m = 5; e = negsuc 0 })

abbrev pub days : Decimal
days = working_of (record { m = 365; e = pos 0 })

abbrev pub unit : Decimal
unit = working_of (record { m = 1; e = pos 0 })

-- H = ET + (F, N, S, V / L, W), of the decimals that the factors stand for: its product after the stroke is rounded the other way
abbrev pub shower_of : Direction → Factors → Decimal
shower_of dir f =
    let x = f.house in
    div_of (product_of dir (decimal_of x.f ∷ decimal_of x.n ∷ decimal_of x.s ∷ decimal_of x.v ∷ []))
    (product_of (opposite dir) (decimal_of x.l ∷ decimal_of x.w ∷ [])) dir

abbrev pub hours_of : Direction → Factors → Decimal
hours_of dir f = add_of (decimal_of f.contact.et) (shower_of dir f) dir

-- h is H in water, where a record may need it
abbrev pub HoursFor : Direction → ℕ → Factors → Number → Type 0
HoursFor dir medium f h = medium ≡ medium_number Water → Stands hours_width h (hours_of dir f)

-- G = SA, EF, ED / BW of the child + the same of the adult
abbrev pub one_age : Direction → Age Number → Decimal
one_age dir x = div_of (product_of dir (decimal_of x.sa ∷ decimal_of x.ef ∷ decimal_of x.ed ∷ [])) (product_of (opposite dir) (decimal_of x.bw ∷ [])) dir

abbrev pub both_ages : Direction → Factors → Decimal
both_ages dir f = add_of (one_age dir f.ages.child) (one_age dir f.ages.adult) dir

-- g is G in soil, where a record may need it
abbrev pub AgesFor : Direction → ℕ → Factors → Number → Type 0
AgesFor dir medium f g = medium ≡ medium_number Soil → Stands ages_width g (both_ages dir f)

-- p holds the products of the factors f in a direction, and H and G for a medium
pub record PreparedFor (dir : Direction) (medium : ℕ) (f : Factors) (p : Prepared) : Type 0 where
  pub lifetime : Stands three_width p.lifetime (product_of (opposite dir) (decimal_of f.exposure.bw ∷ decimal_of f.exposure.at ∷ days ∷ []))
  pub soil_intake : Stands three_width p.soil_intake (product_of dir (decimal_of f.contact.ir ∷ millionth ∷ decimal_of f.exposure.ef ∷ []))
  pub water_intake : Stands two_width p.water_intake (product_of dir (decimal_of f.contact.ir ∷ decimal_of f.exposure.ef ∷ []))
  pub vapour_intake : Stands three_width p.vapour_intake (product_of dir (decimal_of f.contact.ira ∷ half ∷ decimal_of f.exposure.ef ∷ []))
  pub inverse_pef : Stands two_width p.inverse_pef (div_of unit (decimal_of f.contact.pef) dir)
  pub hours : HoursFor dir medium f p.hours
  pub both_ages : AgesFor dir medium f p.both_ages
  pub averaging : Stands two_width p.averaging (product_of (opposite dir) (decimal_of f.exposure.at ∷ days ∷ []))
