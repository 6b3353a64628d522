-- The parts of an answer come back out of the word that the C library returns. Assumes nothing.
use mathlib.Core.Bool.{Bool, true, false, cond}
use mathlib.Core.List.{List}
use Prim.Native.Nat.{ℕ, ◌≤◌}
use native.Mathlib.Omega.{arith}
use lib.Dec.{ltb}
use Rattle.std.specs.Prelude.{Result, Ok, Err}
use Rattle.outcome.specs.declared.Refused.{Refused}
use Rattle.outcome.specs.Outcome.{number_of, block_of, refused}
use Rattle.outcome.specs.declared.Refusal.TheVariants.{Field, Room}
use Rattle.inputs.specs.Earlier.{none_before}
use Rattle.inputs.specs.declared.Scenario.{Scenario}
use Rattle.inputs.specs.declared.Contaminant.{Contaminant}
use Rattle.inputs.specs.Rules.{scenario_refusal, contaminant_fits}
use Rattle.formulas.specs.Side.{Risk, Hazard}
use Rattle.guideline_rules.specs.Answer.{Guidelines}
use Rattle.guideline_rules.specs.Pathway.{record_refusal}
use Rattle.guideline_rules.specs.Guideline.{both_sides, guideline_of}
use Rattle.sum_rules.specs.Promise.{side_sent}
use Rattle.outcome.proofs.Numbers.{number_most}
use Rattle.outcome.proofs.Tests.{passing_block}
use Rattle.site_rules.specs.Site.{site_answer}
use Rattle.site_rules.proofs.AnswerBounds.{answer_bounded}
use Rattle.gv_rules.specs.Exports.{word_of, packed, Unpacked, header_from, contaminant_from, with_room, guideline_sent, guideline_word}

-- parts below 256 have a byte each
unpacked : (number block risk hazard : ℕ) → number ≤ 255 → block ≤ 255 → risk ≤ 255 → hazard ≤ 255 → Unpacked (word_of number block risk hazard) number block risk hazard
unfolding word_of
unpacked number block risk hazard a b c d = record { number_part = omega arith; block_part = omega arith; risk_part = omega arith; hazard_part = omega arith }

-- THE WORD of every site
pub site_word : (site : List ℕ) (out : ℕ) → Unpacked (packed (site_answer site out)) (number_of (site_answer site out)) (block_of (site_answer site out))
    (side_sent (site_answer site out) Risk).verdict (side_sent (site_answer site out) Hazard).verdict
unfolding packed
site_word site out =
    let b = answer_bounded site out in
    let a = site_answer site out in
    unpacked (number_of a) (block_of a) (side_sent a Risk).verdict (side_sent a Hazard).verdict
    (omega (arith, b.number)) (omega (arith, b.block)) (omega (arith, b.risk)) (omega (arith, b.hazard))

-- ---- the single guideline: block 0 or 1
either_block : (t : Bool) (x y : Result Guidelines Refused) → block_of x ≤ 1 → block_of y ≤ 1 → block_of (cond t x y) ≤ 1
either_block true x y h k = h
either_block false x y h k = k

guideline_block : (s : Scenario) (medium : ℕ) (r : Contaminant) → block_of (guideline_of s medium r) ≤ 1
unfolding guideline_of
guideline_block s medium r =
    passing_block (scenario_refusal s medium) 0 _ (omega arith)
    (either_block (contaminant_fits r) _ (refused Field 1)
    (passing_block (record_refusal s medium none_before r) 1 (Ok (both_sides s medium r)) (omega arith) (omega arith)) (omega arith))

room_block : (room : ℕ) (a : Result Guidelines Refused) → block_of a ≤ 1 → block_of (with_room room a) ≤ 1
room_block room (Ok g) h = either_block (ltb room 64) (refused Room 0) (Ok g) (omega arith) h
room_block room (Err r) h = h

sent_block : (kind : ℕ) (header contaminant : List ℕ) (room : ℕ) → block_of (guideline_sent kind header contaminant room) ≤ 1
unfolding guideline_sent
sent_block kind header contaminant room =
    room_block room (guideline_of (header_from kind header).scenario (header_from kind header).medium (contaminant_from contaminant))
    (guideline_block (header_from kind header).scenario (header_from kind header).medium (contaminant_from contaminant))

-- THE WORD of every single guideline
pub guideline_word_lem : (kind : ℕ) (header contaminant : List ℕ) (room : ℕ) → Unpacked (guideline_word (guideline_sent kind header contaminant room))
    (number_of (guideline_sent kind header contaminant room)) (block_of (guideline_sent kind header contaminant room)) 0 0
unfolding guideline_word
guideline_word_lem kind header contaminant room =
    let a = guideline_sent kind header contaminant room in
    unpacked (number_of a) (block_of a) 0 0 (omega (arith, number_most a)) (omega (arith, sent_block kind header contaminant room)) (omega arith) (omega arith)
