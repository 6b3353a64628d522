-- The refusals of the site call as one table (docs/SPECIFICATION.md, "What is sent back"): each condition by its number, word and plain
-- test, and all of them in the order in which they are tried. The first that holds is sent back, with the block that was tested.
use Rattle.inputs.specs.declared.earlier.Earlier.{Earlier}
use Rattle.inputs.specs.Earlier.{none_before, before_next}
use Rattle.std.specs.Prelude.{◌≡◌, Bool, true, false, cond, not, ◌&&◌, List, [], ◌∷◌, ◌++◌, map, ℕ, zero, suc, ◌+◌, ◌/◌, length, leb, ltb, Result}
use Rattle.outcome.specs.declared.Refusal.{Refusal}
use Rattle.outcome.specs.declared.Refusal.TheVariants.{Length, Check, Kind, Field, Count, Factor, Order, Room}
use Rattle.outcome.specs.declared.Refused.{Refused}
use Rattle.outcome.specs.Outcome.{refused, Test}
use Rattle.words.specs.Words.{word_at}
use Rattle.inputs.specs.Kinds.{is_header_kind}
use Rattle.inputs.specs.declared.Scenario.{Scenario}
use Rattle.inputs.specs.Rules.{scenario_fits, lacks_factor, contaminant_fits}
use Rattle.block_rules.specs.Rules.{count_ok, block_size}
use Rattle.block_rules.specs.Reading.{is_contaminant_kind, sound_at, header_unused, contaminant_unused}
use Rattle.guideline_rules.specs.Pathway.{record_tests}
use Rattle.sum_rules.specs.Answer.{Sums}
use Rattle.site_rules.specs.Blocks.{length_ok, block_at, header_of, record_at}

-- a line of the table: what is sent back, the block that is tested, and whether the condition holds
pub record Condition : Type 0 where
  pub refusal : Refusal
  pub block : ℕ
  pub holds : Bool

abbrev pub condition : Refusal → ℕ → Bool → Condition
condition n block holds = record { refusal = n; block = block; holds = holds }

-- ---- the lines
-- 1 Length: site under 1,024 or over 61,952 bytes, or no multiple of 512
abbrev pub length_condition : List ℕ → Condition
length_condition site = condition Length 0 (not (length_ok (length site)))

-- 2 Check: words do not add to zero, or place wrong
abbrev pub check_condition : List ℕ → ℕ → Condition
check_condition site k = condition Check k (not (sound_at (block_at site k) k))

-- 3 Kind: not 1 or 6 at place 0, not 2 elsewhere
abbrev pub kind_condition : (ℕ → Bool) → List ℕ → ℕ → Condition
kind_condition is_kind site k = condition Kind k (not (is_kind (word_at (block_at site k) 0)))

-- 4 Field, in the header: a decimal, the medium or an unused byte breaks its rule
abbrev pub header_field_condition : List ℕ → Condition
header_field_condition site = condition Field 0 (not (scenario_fits (header_of site).scenario (header_of site).medium && header_unused (block_at site 0) 8))

-- 4 Field, in a later block: a decimal, the class, the id or an unused byte breaks its rule
abbrev pub block_field_condition : List ℕ → ℕ → Condition
block_field_condition site k = condition Field k (not (contaminant_fits (record_at site k) && contaminant_unused (block_at site k) 8))

-- 5 Count: count is not blocks less one. `count_ok` also asks for 1 to 120, which says no more once 1 is passed (`count_plain` of the proofs)
abbrev pub count_condition : List ℕ → Condition
count_condition site = condition Count 0 (not (count_ok (header_of site).count (length site / block_size)))

-- 6 Factor: EF, ED, BW, AT, TR or THI zero
abbrev pub factor_condition : List ℕ → Condition
factor_condition site = condition Factor 0 (lacks_factor (header_of site).scenario)

-- 7 Order: id not above the one before
abbrev pub order_condition : List ℕ → ℕ → ℕ → Condition
order_condition site k before = condition Order k (leb (record_at site k).id before)

-- 12 House: tritium without L or W or in soil, or a chemical and tritium in one list; then 8 Pathway: the tests of a record, in its block
abbrev pub in_block : ℕ → Test → Condition
in_block k t = condition t.refusal k t.holds

abbrev pub record_conditions : Scenario → ℕ → List ℕ → ℕ → Earlier → List Condition
record_conditions s medium site k before = map (in_block k) (record_tests s medium before (record_at site k))

-- 10 Room: output under the site's length
abbrev pub room_condition : List ℕ → ℕ → Condition
room_condition site out = condition Room 0 (ltb out (length site))

-- ---- their order: 1; the header 2 to 6; each later block 2, 3, 4, 7, the tests of a record; last 10
-- the header: 2, 3, 4, 5, 6
unfoldable pub header_conditions : List ℕ → List Condition
header_conditions site = check_condition site 0 ∷ kind_condition is_header_kind site 0 ∷ header_field_condition site ∷ count_condition site ∷ factor_condition site ∷ []

-- the block at place k, with what stands before its record: 2, 3, 4, 7, the tests of a record
unfoldable pub block_conditions : Scenario → ℕ → List ℕ → ℕ → Earlier → List Condition
block_conditions s medium site k before =
    check_condition site k ∷ kind_condition is_contaminant_kind site k ∷ block_field_condition site k ∷ order_condition site k before.id ∷ record_conditions s medium site k before

-- n blocks, the first at place k: each with what stands before its record
unfoldable pub later_conditions : Scenario → ℕ → List ℕ → ℕ → ℕ → Earlier → List Condition
later_conditions s medium site zero k before = []
later_conditions s medium site (suc n) k before = block_conditions s medium site k before ++ later_conditions s medium site n (k + 1) (before_next before (record_at site k))

-- the whole table of a site and an output of so many bytes
unfoldable pub site_conditions : List ℕ → ℕ → List Condition
site_conditions site out =
    length_condition site ∷
    header_conditions site ++
    later_conditions (header_of site).scenario (header_of site).medium site (header_of site).count 1 none_before ++
    room_condition site out ∷ []

-- ---- the first that holds
-- what is sent back: the number and block of the first condition that holds, or this answer where none does
abbrev pub first_holding : List Condition → Result Sums Refused → Result Sums Refused
first_holding [] a = a
first_holding (c ∷ cs) a = cond c.holds (refused c.refusal c.block) (first_holding cs a)

-- the condition c is the first of them that holds
pub data FirstHolds : List Condition → Condition → Type 0 where
  here : {c : Condition} {cs : List Condition} → c.holds ≡ true → FirstHolds (c ∷ cs) c
  later : {x c : Condition} {cs : List Condition} → x.holds ≡ false → FirstHolds cs c → FirstHolds (x ∷ cs) c

-- none of them holds
pub data NoneHolds : List Condition → Type 0 where
  none : NoneHolds []
  also : {x : Condition} {cs : List Condition} → x.holds ≡ false → NoneHolds cs → NoneHolds (x ∷ cs)

-- an answer is the refusal of the first condition that holds, with its block
pub record FromTable (site : List ℕ) (out : ℕ) (a : Result Sums Refused) : Type 0 where
  pub line : Condition
  pub first : FirstHolds (site_conditions site out) line
  pub is : a ≡ refused line.refusal line.block
