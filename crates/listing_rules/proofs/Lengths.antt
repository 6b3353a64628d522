-- How long the lines and the listing are at most. Assumes nothing.
use mathlib.Core.Path.{◌≡◌, refl}
use mathlib.Core.List.{List, [], ◌++◌}
use Prim.Native.Nat.{ℕ, zero, suc, ◌≤◌, ◌*◌}
use native.Mathlib.Omega.{arith}
use lib.ListN.{length, length-append}
use Rattle.inputs.specs.declared.kind.Class.TheVariants.{Chemical}
use Rattle.inputs.specs.Kinds.{class_number}
use Rattle.sum_rules.specs.declared.Verdict.{Verdict}
use Rattle.sum_rules.specs.declared.Verdict.TheVariants.{Within, Above, Undecided, NoPathway}
use Rattle.listing_rules.specs.declared.Side.{Side}
use Rattle.listing_rules.specs.declared.Side.TheVariants.{Risk, Hazard}
use Rattle.listing_rules.specs.Lines.{side_word, verdict_word, mark_of, line_of, lines_of, sum_line, refusal_line}
use mathlib.Core.Bool.{Bool, true, false, cond}
use lib.Dec.{eqb}
use Rattle.guideline_rules.specs.declared.SideGuidelines.{SideGuidelines}
use Rattle.guideline_rules.specs.Guideline.{guidelines_sent, guideline_of}
use Rattle.inputs.specs.declared.Scenario.{Scenario}
use Rattle.site_rules.specs.Blocks.{record_at, header_of}
use Rattle.site_rules.specs.Site.{site_answer}
use Rattle.sum_rules.specs.declared.SideSums.{SideSums}
use Rattle.text.proofs.Puts.{puts}
use Rattle.text.proofs.Numbers.{number_most}
use Rattle.text.proofs.Decimals.{decimal_short}
use Rattle.listing_rules.specs.Listing.{lines_to, accepted_text, text_of, listing_of}
use Rattle.std.specs.Prelude.{Result, Ok, Err}
use Rattle.outcome.specs.declared.Refused.{Refused}
use Rattle.outcome.specs.Outcome.{refusal_number, number_of}
use Rattle.sum_rules.specs.Answer.{Sums}
use Rattle.site_rules.specs.Passed.{Opened}
use Rattle.site_rules.proofs.Opened.{count_most}
use Rattle.site_rules.proofs.Passed.{passed_site}

pub side_most : (side : Side) → length (side_word side) ≤ 6
side_most Risk = omega arith
side_most Hazard = omega arith

pub verdict_most : (v : Verdict) → length (verdict_word v) ≤ 9
verdict_most Within = omega arith
verdict_most Above = omega arith
verdict_most Undecided = omega arith
verdict_most NoPathway = omega arith

pub line_most : (id : ℕ) (side : Side) (g : SideGuidelines) → length (line_of id side g) ≤ 96
unfolding line_of
line_most id side g =
    simp length-append
    (omega (arith, number_most id, side_most side, decimal_short 45 g.first, decimal_short 45 g.second, decimal_short 45 g.third, decimal_short 45 g.total))

pub sum_most : (side : Side) (t : SideSums) → length (sum_line side t) ≤ 64
unfolding sum_line
sum_most side t =
    simp length-append
    (omega (arith, side_most side, decimal_short (mark_of t.verdict) t.lower, decimal_short (mark_of t.verdict) t.upper, verdict_most t.verdict))

pub refusal_most : (n block : ℕ) → length (refusal_line n block) ≤ 48
unfolding refusal_line
refusal_most n block = simp length-append (omega (arith, number_most n, number_most block))

pub lines_most : (class id : ℕ) (risk hazard : SideGuidelines) → length (lines_of class id risk hazard) ≤ 192
unfolding lines_of
lines_most class id risk hazard = cases (eqb class (class_number Chemical))
  where
    cases : (b : Bool) → length (line_of id Risk risk ++ cond b (line_of id Hazard hazard) []) ≤ 192
    cases false = simp length-append (omega (arith, line_most id Risk risk))
    cases true = simp length-append (omega (arith, line_most id Risk risk, line_most id Hazard hazard))

-- 192 bytes for each contaminant
pub lines_to_most : (s : Scenario) (medium : ℕ) (site : List ℕ) (n : ℕ) → length (lines_to s medium site n) ≤ 192 * n
unfolding lines_to
lines_to_most s medium site zero = omega arith
lines_to_most s medium site (suc n) =
    let r = record_at site (suc n) in
    simp length-append (omega (arith, lines_to_most s medium site n, lines_most r.class r.id (guidelines_sent (guideline_of s medium r)).risk (guidelines_sent (guideline_of s medium r)).hazard))

-- ---- no listing is longer than the text that `list_site` asks for
module _ (site : List ℕ) where
  accepted_most : (a : Sums) → Opened site (header_of site) → length (accepted_text site a) ≤ 24576
  unfolding accepted_text
  accepted_most a o =
      let h = header_of site in
      simp length-append
      (omega (arith, lines_to_most h.scenario h.medium site h.count, count_most o, sum_most Risk a.risk, sum_most Hazard a.hazard))

  text_most : (a : Result Sums Refused) → (number_of a ≡ 0 → Opened site (header_of site)) → length (text_of site a) ≤ 24576
  unfolding text_of
  text_most (Ok a) w = accepted_most a (w refl)
  text_most (Err r) w = omega (arith, refusal_most (refusal_number r.refusal) r.block)

pub listing_most : (site : List ℕ) (out : ℕ) → length (listing_of site out) ≤ 24576
unfolding listing_of
listing_most site out = text_most site (site_answer site out) (λ z. (passed_site site out z).opened)

-- what the check has to know of the parts of a line, in order that it finds the proofs of the code alone
pub ruleset parts = (puts, number_most, decimal_short, side_most, verdict_most, line_most, sum_most)
