-- A site of one contaminant, by which the single guideline of the C library is worked out: what its writing promises.
use Rattle.std.specs.Prelude.{◌≡◌, true, false, List, [], ◌∷◌, ℕ, Result, Err, ⊤, MatchResult}
use Rattle.outcome.specs.declared.Refused.{Refused}
use Rattle.inputs.specs.declared.Contaminant.{Contaminant}
use Rattle.inputs.specs.Rules.{lacks_factor, contaminant_fits}
use Rattle.guideline_rules.specs.Guideline.{guideline_of}
use Rattle.block_rules.specs.declared.Header.{Header}
use Rattle.block_rules.specs.Answers.{header_fit}
use Rattle.site_rules.specs.Written.{site_of}

-- the same header with one contaminant
abbrev pub one_of : Header → Header
one_of h = record { medium = h.medium; count = 1; scenario = h.scenario }

-- the site was written, and both its records keep their rules
pub record Written (h : Header) (r : Contaminant) (site : List ℕ) : Type 0 where
  pub is : site ≡ site_of (one_of h) (r ∷ [])
  pub header : header_fit (one_of h) ≡ true
  pub known : lacks_factor h.scenario ≡ false
  pub fits : contaminant_fits r ≡ true

-- it was written, or the refusal is that of the single guideline
abbrev pub Single : Header → Contaminant → Result ⊤ Refused → List ℕ → Type 0
Single h r x site = MatchResult x (λ (u : ⊤). Written h r site) (λ (e : Refused). guideline_of h.scenario h.medium r ≡ Err e)
