-- The guideline of what two structs of C stand for. Assumes nothing.
use Rattle.std.proofs.Common.{◌≡◌, List, ℕ, ◌∙◌}
use Rattle.std.specs.Prelude.{Result}
use Rattle.outcome.specs.declared.Refused.{Refused}
use Rattle.inputs.specs.declared.Contaminant.{Contaminant}
use Rattle.block_rules.specs.declared.Header.{Header}
use Rattle.guideline_rules.specs.Answer.{Guidelines}
use Rattle.guideline_rules.specs.Guideline.{guideline_of}
use Rattle.gv_rules.specs.Exports.{header_from, contaminant_from}

pub own_is : (kind : ℕ) (header contaminant : List ℕ) {h : Header} {r : Contaminant} {a : Result Guidelines Refused} → h ≡ header_from kind header → r ≡ contaminant_from contaminant →
    a ≡ guideline_of h.scenario h.medium r → a ≡ guideline_of (header_from kind header).scenario (header_from kind header).medium (contaminant_from contaminant)
own_is kind header contaminant p q e = e ∙ (λ i. guideline_of (p i).scenario (p i).medium (q i))
