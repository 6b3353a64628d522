-- The walk over the blocks of a site gives the first condition of the table that holds. Assumes nothing.
use mathlib.Core.Path.{◌≡◌, refl, sym, ap, ◌∙◌}
use mathlib.Core.Bool.{Bool, true, false, cond, not, ◌&&◌}
use mathlib.Core.List.{List, [], ◌∷◌, ◌++◌, map}
use Prim.Native.Nat.{ℕ, zero, suc, ◌+◌, ◌*◌, ◌/◌, ◌≤◌}
use native.Mathlib.Omega.{arith}
use lib.Dec.{eqb, leb}
use lib.ListN.{length}
use borrow.Author.Tests.{eqb-true, not-false}
use Rattle.outcome.specs.declared.Refusal.{Refusal}
use Rattle.outcome.specs.declared.Refusal.TheVariants.{Check, Kind, Field, Count, Factor, Order}
use Rattle.std.specs.Prelude.{Result, Ok, Err}
use Rattle.outcome.specs.declared.Refused.{Refused}
use Rattle.outcome.specs.Outcome.{on_read, refused, located, Test, refused_by, passing}
use Rattle.outcome.proofs.Tests.{and_after, read_after}
use Rattle.std.specs.Result.{result_and}
use Rattle.words.specs.Words.{word_at}
use Rattle.inputs.specs.declared.Scenario.{Scenario}
use Rattle.inputs.specs.declared.earlier.Earlier.{Earlier}
use Rattle.inputs.specs.Earlier.{none_before, before_next}
use Rattle.inputs.specs.declared.Contaminant.{Contaminant}
use Rattle.inputs.specs.Kinds.{is_header_kind}
use Rattle.inputs.specs.Inputs.{contaminant_of}
use Rattle.inputs.specs.Rules.{scenario_fits, lacks_factor, contaminant_fits}
use Rattle.inputs.proofs.Tests.{and_split}
use Rattle.block_rules.specs.declared.Header.{Header}
use Rattle.block_rules.specs.Rules.{in_file, count_ok}
use Rattle.block_rules.specs.Reading.{is_contaminant_kind, header_in, sound_at, header_at, header_unused, header_read, contaminant_at, contaminant_unused, contaminant_read}
use Rattle.block_rules.proofs.Rules.{is_block}
use Rattle.guideline_rules.specs.Pathway.{record_tests, record_refusal}
use Rattle.sum_rules.specs.Answer.{Sums}
use Rattle.site_rules.specs.Blocks.{length_ok, block_at, header_of, record_at, records_from, all_sums, site_records}
use Rattle.site_rules.specs.Site.{site_answer}
use Rattle.site_rules.specs.Refusals.{Condition, in_block, header_conditions, record_conditions, block_conditions, later_conditions, room_condition, site_conditions}
use Rattle.site_rules.specs.Refusals.{first_holding}
use Rattle.site_rules.proofs.Walk.{check_blocks, check_found, with_room, walked_answer}
use Rattle.site_rules.proofs.RightLength.{right_length}

-- ---- the first that holds
first_append : (xs ys : List Condition) (a : Result Sums Refused) → first_holding (xs ++ ys) a ≡ first_holding xs (first_holding ys a)
first_append [] ys a = refl
first_append (x ∷ xs) ys a = ap (cond x.holds (refused x.refusal x.block)) (first_append xs ys a)

-- ---- the readers, test by test
-- a test at the head of a reader: `on` is what is done with what is read, and `v` what comes of the tests behind it, if they are reached
step : {A : Type 0} (on : A → Result Sums Refused) (t : Bool) (x y : A) (v : Result Sums Refused) → (t ≡ false → on y ≡ v) → on (cond t x y) ≡ cond t (on x) v
step on true x y v h = refl
step on false x y v h = h refl

module _ (b : List ℕ) (f : Refusal → Result Sums Refused) (long : eqb (length b) 512 ≡ true) where
  -- the header: 2 to 6, then what `g` makes of it
  header_steps : (blocks : ℕ) (g : Header → Result Sums Refused) (v : Result Sums Refused) → (count_ok (header_in b).count blocks ≡ true → g (header_in b) ≡ v) →
      on_read (header_read b blocks) f g ≡
      cond (not (sound_at b 0)) (f Check)
      (cond (not (is_header_kind (word_at b 0))) (f Kind)
      (cond (not (scenario_fits (header_in b).scenario (header_in b).medium && header_unused b 8)) (f Field)
      (cond (not (count_ok (header_in b).count blocks)) (f Count)
      (cond (lacks_factor (header_in b).scenario) (f Factor) v))))
  unfolding header_read header_at
  header_steps blocks g v h =
      let on : Result Header Refusal → Result Sums Refused = λ x. on_read x f g in
      rw long
      (step on (not (sound_at b 0)) (Err Check) _ _ (λ _.
      step on (not (is_header_kind (word_at b 0))) (Err Kind) _ _ (λ _.
      step on (not (scenario_fits (header_in b).scenario (header_in b).medium && header_unused b 8)) (Err Field) _ _ (λ _.
      step on (not (count_ok (header_in b).count blocks)) (Err Count) _ _ (λ e.
      step on (lacks_factor (header_in b).scenario) (Err Factor) (Ok (header_in b)) v (λ _. h (not-false _ e)))))))

  -- a later block: 2, 3, 4, 7, then what `g` makes of it
  block_steps : (k before : ℕ) (g : Contaminant → Result Sums Refused) (v : Result Sums Refused) → g (contaminant_at b 8) ≡ v →
      on_read (contaminant_read b k before) f g ≡
      cond (not (sound_at b k)) (f Check)
      (cond (not (is_contaminant_kind (word_at b 0))) (f Kind)
      (cond (not (contaminant_fits (contaminant_at b 8) && contaminant_unused b 8)) (f Field)
      (cond (leb (contaminant_at b 8).id before) (f Order) v)))
  unfolding contaminant_read contaminant_at contaminant_of
  block_steps k before g v h =
      let on : Result Contaminant Refusal → Result Sums Refused = λ x. on_read x f g in
      rw long
      (step on (not (sound_at b k)) (Err Check) _ _ (λ _.
      step on (not (is_contaminant_kind (word_at b 0))) (Err Kind) _ _ (λ _.
      step on (not (contaminant_fits (contaminant_at b 8) && contaminant_unused b 8)) (Err Field) _ _ (λ _.
      step on (leb (contaminant_at b 8).id before) (Err Order) (Ok (contaminant_at b 8)) v (λ _. h)))))

-- ---- every line is a refusal, so the room is tried after all of them
room_line : (site out : ℕ) (n : Refusal) (k : ℕ) (t : Bool) (w v : Result Sums Refused) → with_room site out w ≡ v →
    with_room site out (cond t (refused n k) w) ≡ cond t (refused n k) v
unfolding with_room
room_line site out n k true w v h = refl
room_line site out n k false w v h = h

room_last : (cs : List Condition) (site out : ℕ) (a : Result Sums Refused) → with_room site out (first_holding cs a) ≡ first_holding cs (with_room site out a)
room_last [] site out a = refl
room_last (c ∷ cs) site out a = room_line site out c.refusal c.block c.holds (first_holding cs a) _ (room_last cs site out a)

-- ---- the tests of a record as lines of the table
tests_first : (k : ℕ) (ts : List Test) (v : Result Sums Refused) → passing (refused_by ts) k v ≡ first_holding (map (in_block k) ts) v
tests_first k [] v = refl
tests_first k (t ∷ ts) v = cases t.holds (tests_first k ts v)
  where
    cases : (x : Bool) → passing (refused_by ts) k v ≡ first_holding (map (in_block k) ts) v →
        passing (cond x (Err t.refusal) (refused_by ts)) k v ≡ cond x (refused t.refusal k) (first_holding (map (in_block k) ts) v)
    cases true again = refl
    cases false again = again

-- ---- the later blocks
module _ (s : Scenario) (medium : ℕ) (site : List ℕ) where
  -- inside the site, each is tried by its conditions
  check_table : (n k : ℕ) (before : Earlier) (v : Result Sums Refused) → 512 * (k + n) ≤ length site →
      result_and (check_blocks s medium site n k before) v ≡ first_holding (later_conditions s medium site n k before) v
  unfolding check_blocks later_conditions block_conditions record_refusal record_at block_at
  check_table zero k before v l = refl
  check_table (suc n) k before v l =
      let r = record_at site k in
      let after = before_next before r in
      let own = record_refusal s medium before r in
      let found = check_found s medium site n k before in
      let rest = later_conditions s medium site n (k + 1) after in
      read_after (contaminant_read (block_at site k) k before.id) k found v ∙
      block_steps (block_at site k) (λ m. refused m k) (is_block site (512 * k) (omega arith)) k before.id (λ q. result_and (found q) v) _
      (and_after (located own k) (check_blocks s medium site n (k + 1) after) v ∙ ap (passing own k) (check_table n (k + 1) after v (omega arith)) ∙
      tests_first k (record_tests s medium before r) (first_holding rest v) ∙ sym (first_append (record_conditions s medium site k before) rest v))

  later_table : (n : ℕ) (out : ℕ) → 512 * n + 512 ≤ length site →
      let sums = all_sums s medium (records_from site n 1) in
      with_room (length site) out (result_and (check_blocks s medium site n 1 none_before) sums) ≡
      first_holding (later_conditions s medium site n 1 none_before ++ room_condition site out ∷ []) sums
  unfolding with_room
  later_table n out l =
      let sums = all_sums s medium (records_from site n 1) in
      ap (with_room (length site) out) (check_table n 1 none_before sums (omega arith)) ∙
      room_last (later_conditions s medium site n 1 none_before) (length site) out sums ∙
      sym (first_append (later_conditions s medium site n 1 none_before) (room_condition site out ∷ []) sums)

-- ---- the site
module _ (site : List ℕ) (out : ℕ) where
  abbrev sums : Result Sums Refused
  sums = all_sums (header_of site).scenario (header_of site).medium (site_records site)

  -- a count that passed 5 is that of the blocks behind the header
  site_whole : length_ok (length site) ≡ true → count_ok (header_of site).count (length site / 512) ≡ true → 512 * (header_of site).count + 512 ≤ length site
  unfolding count_ok
  site_whole r e =
      let m = (header_of site).count in
      let n = eqb-true (m + 1) (length site / 512) (and_split (in_file m) (eqb (m + 1) (length site / 512)) e).1 in
      omega arith

  by_length : (t : Bool) → length_ok (length site) ≡ t → walked_answer site out ≡ first_holding (site_conditions site out) sums
  unfolding walked_answer site_conditions header_conditions header_of block_at
  by_length false r = rw r
  by_length true r =
      let w = right_length (length site) r in
      rw r
      (header_steps (block_at site 0) (λ m. refused m 0) (is_block site 0 (omega arith)) (length site / 512) _ _
      (λ e. later_table (header_of site).scenario (header_of site).medium site (header_of site).count out (site_whole r e)))

  -- THE ANSWER OF A SITE by its table is that of the walk
  pub walked : site_answer site out ≡ walked_answer site out
  unfolding site_answer
  walked = sym (by_length (length_ok (length site)) refl)
