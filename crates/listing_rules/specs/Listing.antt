-- The listing of a site, with an output of so many bytes for its result blocks.
use Rattle.std.specs.Prelude.{ℕ, zero, suc, List, [], ◌++◌, Bool, cond, leb, length, Result, Ok, Err}
use Rattle.outcome.specs.declared.Refused.{Refused}
use Rattle.outcome.specs.Outcome.{refusal_number}
use Rattle.inputs.specs.declared.Scenario.{Scenario}
use Rattle.words.specs.Bytes.{over}
use Rattle.guideline_rules.specs.Guideline.{guidelines_sent, guideline_of}
use Rattle.sum_rules.specs.Answer.{Sums}
use Rattle.site_rules.specs.Blocks.{header_of, record_at}
use Rattle.site_rules.specs.Site.{site_answer}
use Rattle.listing_rules.specs.declared.Side.TheVariants.{Risk, Hazard}
use Rattle.listing_rules.specs.Lines.{lines_of, sum_line, refusal_line}

-- the lines of the contaminants at the places 1 to n
unfoldable pub lines_to : Scenario → ℕ → List ℕ → ℕ → List ℕ
lines_to s medium site zero = []
lines_to s medium site (suc n) =
    lines_to s medium site n ++
    lines_of (record_at site (suc n)).class (record_at site (suc n)).id
    (guidelines_sent (guideline_of s medium (record_at site (suc n)))).risk (guidelines_sent (guideline_of s medium (record_at site (suc n)))).hazard

-- the contaminants, then the sums
unfoldable pub accepted_text : List ℕ → Sums → List ℕ
accepted_text site a = lines_to (header_of site).scenario (header_of site).medium site (header_of site).count ++ sum_line Risk a.risk ++ sum_line Hazard a.hazard

-- a refusal alone
unfoldable pub text_of : List ℕ → Result Sums Refused → List ℕ
text_of site (Ok a) = accepted_text site a
text_of site (Err r) = refusal_line (refusal_number r.refusal) r.block

unfoldable pub listing_of : List ℕ → ℕ → List ℕ
listing_of site out = text_of site (site_answer site out)

-- no listing is longer than 24,576 bytes: a shorter buffer is left as it was
unfoldable pub text_room : List ℕ → Bool
text_room text = leb 24576 (length text)

unfoldable pub text_length : List ℕ → ℕ → List ℕ → ℕ
text_length site out text = cond (text_room text) (length (listing_of site out)) 0

unfoldable pub text_left : List ℕ → ℕ → List ℕ → List ℕ
text_left site out text = cond (text_room text) (over (listing_of site out) text) text
