-- A refused guideline is its number, its block and zero decimals. Assumes nothing.
use Rattle.std.proofs.Common.{◌≡◌, ℕ, ap}
use Rattle.std.specs.Prelude.{Result, Err}
use Rattle.outcome.specs.declared.Refused.{Refused}
use Rattle.outcome.specs.Outcome.{number_of}
use Rattle.outcome.proofs.Numbers.{refused_value}
use Rattle.inputs.specs.declared.Scenario.{Scenario}
use Rattle.inputs.specs.declared.Contaminant.{Contaminant}
use Rattle.guideline_rules.specs.Answer.{Guidelines}
use Rattle.guideline_rules.specs.Guideline.{guidelines_sent, zero_side, guideline_of}

pub record Told (g : Result Guidelines Refused) : Type 0 where
  pub refusal : Refused
  pub is : g ≡ Err refusal
  pub zeros : guidelines_sent g ≡ record { risk = zero_side; hazard = zero_side }

pub refused_is : (s : Scenario) (medium : ℕ) (r : Contaminant) → (number_of (guideline_of s medium r) ≡ 0 → ⊥) → Told (guideline_of s medium r)
refused_is s medium r n =
    let e = refused_value (guideline_of s medium r) n in
    record { refusal = e.0; is = e.1; zeros = ap guidelines_sent e.1 }
