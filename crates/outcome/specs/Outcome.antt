-- What is sent back (docs/SPECIFICATION.md, "What is sent back"): a value, or one of eleven refusals with the block that it concerns. The number and
-- the block of each case: an accepted call has 0 and 0. The number 9 is not used.
use Rattle.std.specs.Prelude.{Bool, cond, List, [], ◌∷◌, ℕ, Result, Ok, Err, ⊤}
use Rattle.std.specs.Result.{result_and}
use Rattle.outcome.specs.declared.Refusal.{Refusal}
use Rattle.outcome.specs.declared.Refused.{Refused}
use Rattle.outcome.specs.declared.Refusal.TheVariants.{Length, Check, Kind, Field, Count, Factor, Order, Pathway, Room, Scenario, House}

abbrev pub refusal_number : Refusal → ℕ
refusal_number Length = 1
refusal_number Check = 2
refusal_number Kind = 3
refusal_number Field = 4
refusal_number Count = 5
refusal_number Factor = 6
refusal_number Order = 7
refusal_number Pathway = 8
refusal_number Room = 10
refusal_number Scenario = 11
refusal_number House = 12

-- the number that none of them has
abbrev pub not_used : ℕ
not_used = 9

-- the greatest of them
abbrev pub most_number : ℕ
most_number = 12

-- a refusal with its block, and the answer that sends it back
abbrev pub concerning : Refusal → ℕ → Refused
concerning n block = record { refusal = n; block = block }

abbrev pub refused : {A : Type 0} → Refusal → ℕ → Result A Refused
refused n block = Err (concerning n block)

-- ---- the number and the block of an answer
abbrev pub number_of : {A : Type 0} → Result A Refused → ℕ
number_of (Ok a) = 0
number_of (Err r) = refusal_number r.refusal

abbrev pub block_of : {A : Type 0} → Result A Refused → ℕ
block_of (Ok a) = 0
block_of (Err r) = r.block

-- an answer without its value
abbrev pub answered : {A : Type 0} → Result A Refused → Result ⊤ Refused
answered (Ok a) = Ok tt
answered (Err r) = Err r

-- the number of what tests answer that know no block
abbrev pub tests_number : {A : Type 0} → Result A Refusal → ℕ
tests_number (Ok a) = 0
tests_number (Err n) = refusal_number n

-- ---- tests in the order in which they are made: the first that holds is sent back
pub record Test : Type 0 where
  pub refusal : Refusal
  pub holds : Bool

abbrev pub test : Refusal → Bool → Test
test n holds = record { refusal = n; holds = holds }

abbrev pub refused_by : List Test → Result ⊤ Refusal
refused_by [] = Ok tt
refused_by (t ∷ ts) = cond t.holds (Err t.refusal) (refused_by ts)

-- what tests of a block answer, with that block
abbrev pub located : {A : Type 0} → Result A Refusal → ℕ → Result A Refused
located (Ok a) block = Ok a
located (Err n) block = refused n block

-- a refusal in what was read, or what comes of the value that it holds
abbrev pub on_read : {A B : Type 0} → Result A Refusal → (Refusal → B) → (A → B) → B
on_read (Err n) f g = f n
on_read (Ok a) f g = g a

-- what tests of a block send back, or the answer that comes after them
abbrev pub passing : {A : Type 0} → Result ⊤ Refusal → ℕ → Result A Refused → Result A Refused
passing x block a = result_and (located x block) a
