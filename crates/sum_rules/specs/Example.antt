-- The examples (docs/SPECIFICATION.md, "Checked figures"), with the sums as printed there: the office worker in soil, one chemical, id 1, SFo 1, RfDo 0.02, C 2; and
-- tritium in the water of a house.
use Rattle.std.specs.Prelude.{List, [], ◌∷◌, pos, negsuc, Result, Ok}
use Rattle.decimal.specs.Decimal.{zero_of}
use Rattle.decimal.specs.Figures.{dec}
use Rattle.outcome.specs.declared.Refused.{Refused}
use Rattle.inputs.specs.declared.Contaminant.{Contaminant}
use Rattle.guideline_rules.specs.Figures.{sample}
use Rattle.sum_rules.specs.declared.Verdict.TheVariants.{Within, NoPathway}
use Rattle.sum_rules.specs.Answer.{Sums}

abbrev pub example : List Contaminant
example = sample (dec 2 (pos 0)) ∷ []

-- 3.49454850E-7 3.49454852E-7 within, 4.89236790E-5 4.89236792E-5 within
abbrev pub printed : Result Sums Refused
printed = Ok (record {
  risk = record { lower = dec 349454850 (negsuc 14); upper = dec 349454852 (negsuc 14); verdict = Within };
  hazard = record { lower = dec 489236790 (negsuc 12); upper = dec 489236792 (negsuc 12); verdict = Within };
})

-- 7.65275260E-7 7.65275270E-7 within; no pathway on the hazard side
abbrev pub tritium_printed : Result Sums Refused
tritium_printed = Ok (record {
  risk = record { lower = dec 765275260 (negsuc 14); upper = dec 765275270 (negsuc 14); verdict = Within };
  hazard = record { lower = zero_of; upper = zero_of; verdict = NoPathway };
})
