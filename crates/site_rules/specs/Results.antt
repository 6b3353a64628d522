-- What the site call leaves in the output: on acceptance a result block for each block of the site, otherwise what was there.
use Rattle.std.specs.Prelude.{ℕ, zero, suc, List, [], ◌++◌, length, Result, Ok, Err}
use Rattle.outcome.specs.declared.Refused.{Refused}
use Rattle.inputs.specs.declared.Scenario.{Scenario}
use Rattle.words.specs.Bytes.{over}
use Rattle.guideline_rules.specs.Guideline.{guidelines_sent, guideline_of}
use Rattle.sum_rules.specs.Answer.{Sums}
use Rattle.block_rules.specs.Layouts.{result_block, summary_block}
use Rattle.site_rules.specs.Blocks.{header_of, record_at}
use Rattle.site_rules.specs.Site.{site_answer}

-- kind 3: same place, class and id, and the decimals of the single guideline
unfoldable pub result_at : Scenario → ℕ → List ℕ → ℕ → List ℕ
result_at s medium site k =
    result_block k (record_at site k).class (record_at site k).id
    (guidelines_sent (guideline_of s medium (record_at site k))).risk (guidelines_sent (guideline_of s medium (record_at site k))).hazard

-- those of the places 1 to n
unfoldable pub results_to : Scenario → ℕ → List ℕ → ℕ → List ℕ
results_to s medium site zero = []
results_to s medium site (suc n) = results_to s medium site n ++ result_at s medium site (suc n)

-- the summary at place 0, then the result blocks
unfoldable pub results_of : List ℕ → Sums → List ℕ
results_of site a = summary_block a.risk a.hazard ++ results_to (header_of site).scenario (header_of site).medium site (header_of site).count

abbrev pub left_of : List ℕ → Result Sums Refused → List ℕ → List ℕ
left_of site (Ok a) out = over (results_of site a) out
left_of site (Err r) out = out

unfoldable pub site_left : List ℕ → List ℕ → List ℕ
site_left site out = left_of site (site_answer site (length out)) out
