-- What the functions of the listing ask, and the lines that result blocks spell.
use Rattle.std.specs.Prelude.{◌≡◌, List, [], ◌++◌, ℕ, zero, suc, ◌+◌, ◌*◌, ◌≤◌, length, Result}
use Rattle.inputs.specs.Rules.{most_contaminants}
use Rattle.block_rules.specs.Rules.{block_size}
use Rattle.outcome.specs.declared.Refused.{Refused}
use Rattle.outcome.specs.Outcome.{number_of}
use Rattle.words.specs.Words.{word_at}
use Rattle.fields.specs.Fields.{decimal_at}
use Rattle.text.specs.declared.Text.{Text}
use Rattle.text.specs.Text.{HasRoom}
use Rattle.guideline_rules.specs.declared.SideGuidelines.{SideGuidelines}
use Rattle.sum_rules.specs.Answer.{Sums}
use Rattle.site_rules.specs.Blocks.{block_at, header_of}
use Rattle.site_rules.specs.Passed.{Opened}
use Rattle.listing_rules.specs.declared.Side.TheVariants.{Risk, Hazard}
use Rattle.listing_rules.specs.Lines.{lines_of, sum_line}
use Rattle.listing_rules.specs.Listing.{lines_to}

-- four decimals from `at` on
unfoldable pub side_read : List ℕ → ℕ → SideGuidelines
side_read b at = record { first = decimal_at b at; second = decimal_at b (at + 8); third = decimal_at b (at + 16); total = decimal_at b (at + 24) }

-- class and id, from 16 the risk decimals, from 48 the hazard decimals
unfoldable pub block_lines : List ℕ → List ℕ
block_lines b = lines_of (word_at b 8) (word_at b 12) (side_read b 16) (side_read b 48)

-- those of the result blocks at the places 1 to n
unfoldable pub block_lines_to : List ℕ → ℕ → List ℕ
block_lines_to results zero = []
block_lines_to results (suc n) = block_lines_to results n ++ block_lines (block_at results (suc n))

-- the result blocks, then the sums
abbrev pub block_text : List ℕ → ℕ → Sums → List ℕ
block_text results count a = block_lines_to results count ++ sum_line Risk a.risk ++ sum_line Hazard a.hazard

-- so many blocks behind the first, and room for a whole listing
pub record Listing (results : List ℕ) (text : Text) (count : ℕ) : Type 0 where
  pub long : block_size * count + block_size ≤ length results
  pub most : count ≤ most_contaminants
  pub room : HasRoom text 24576

-- the result blocks of a site whose header was found: they spell the lines of its contaminants
pub record Written (site results : List ℕ) : Type 0 where
  pub opened : Opened site (header_of site)
  pub long : length site ≤ length results
  pub lines : block_lines_to results (header_of site).count ≡ lines_to (header_of site).scenario (header_of site).medium site (header_of site).count

-- an answer of the site call: an accepted one has written them
pub record Answered (site results : List ℕ) (a : Result Sums Refused) : Type 0 where
  pub written : number_of a ≡ 0 → Written site results
