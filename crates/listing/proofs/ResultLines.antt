-- The result blocks of an accepted site spell the lines of its contaminants. Assumes nothing.
use mathlib.Core.Path.{◌≡◌, refl, ap₂}
use mathlib.Core.List.{List, ◌++◌}
use Prim.Native.Nat.{ℕ, zero, suc, ◌+◌, ◌*◌, ◌≤◌, ◌<◌}
use native.Mathlib.Nat.{le_refl}
use native.Mathlib.Omega.{arith}
use lib.ListN.{length, get_or}
use Rattle.decimal.specs.Decimal.{zero_of}
use Rattle.outcome.specs.Outcome.{number_of}
use Rattle.inputs.specs.declared.Scenario.{Scenario}
use Rattle.inputs.specs.Inputs.{contaminant_of}
use Rattle.words.proofs.Words.{word_most}
use Rattle.words.proofs.Parts.{word_part}
use Rattle.fields.specs.Fields.{decimals_at}
use Rattle.block_rules.specs.Reading.{contaminant_at}
use Rattle.guideline_rules.specs.declared.SideGuidelines.{SideGuidelines}
use Rattle.guideline_rules.specs.Guideline.{guidelines_sent, guideline_of}
use Rattle.block_rules.proofs.ResultsBack.{ResultRead}
use Rattle.site_rules.proofs.ReadBack.{site_result_back}
use Rattle.site_rules.specs.Blocks.{block_at, header_of, record_at}
use Rattle.site_rules.specs.Site.{site_answer}
use Rattle.site_rules.specs.Results.{site_left}
use Rattle.site_rules.proofs.Passed.{PassedSite, passed_site}
use Rattle.site_rules.proofs.OutputBlocks.{output_length}
use Rattle.listing_rules.specs.Lines.{lines_of}
use Rattle.listing_rules.specs.Listing.{lines_to}
use Rattle.listing.specs.Asked.{side_read, block_lines, block_lines_to, Written}

-- ---- what is read from a result block
block_spells : {b : List ℕ} {p class id : ℕ} {risk hazard : SideGuidelines} → ResultRead b p class id risk hazard → id < 4294967296 → block_lines b ≡ lines_of class id risk hazard
unfolding block_lines side_read decimals_at
block_spells x h = λ i.
    lines_of (x.class i) (x.id h i)
    (record { first = get_or (x.decimals i) 0 zero_of; second = get_or (x.decimals i) 1 zero_of; third = get_or (x.decimals i) 2 zero_of; total = get_or (x.decimals i) 3 zero_of })
    (record { first = get_or (x.decimals i) 4 zero_of; second = get_or (x.decimals i) 5 zero_of; third = get_or (x.decimals i) 6 zero_of; total = get_or (x.decimals i) 7 zero_of })

-- ---- an accepted site, given as bytes
module _ (site out : List ℕ) (z : number_of (site_answer site (length out)) ≡ 0) (byte : (i : ℕ) → get_or site i 0 < 256) where
  abbrev s : Scenario
  s = (header_of site).scenario

  abbrev medium : ℕ
  medium = (header_of site).medium

  abbrev count : ℕ
  count = (header_of site).count

  passed : PassedSite site (length out) (header_of site)
  passed = passed_site site (length out) z

  id_word : (k : ℕ) → (record_at site k).id < 4294967296
  unfolding record_at contaminant_at contaminant_of block_at
  id_word k = omega (arith, word_part site (512 * k) 512 12 (omega arith), word_most site byte (512 * k + 12))

  module _ (k : ℕ) (first : 1 ≤ k) (last : k ≤ (header_of site).count) where
    place_spells : block_lines (block_at (site_left site out) k)
        ≡ lines_of (record_at site k).class (record_at site k).id (guidelines_sent (guideline_of s medium (record_at site k))).risk (guidelines_sent (guideline_of s medium (record_at site k))).hazard
    place_spells = block_spells (site_result_back site out z k first last) (id_word k)

  lines_read : (n : ℕ) → n ≤ (header_of site).count → block_lines_to (site_left site out) n ≡ lines_to s medium site n
  unfolding block_lines_to lines_to
  lines_read zero h = refl
  lines_read (suc n) h = ap₂ (λ (x y : List ℕ). x ++ y) (lines_read n (omega arith)) (place_spells (suc n) (omega arith) h)

  pub written : Written site (site_left site out)
  written = record { opened = passed.opened; long = omega (arith, passed.room, output_length site out); lines = lines_read count (le_refl count) }
