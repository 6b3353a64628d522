-- The lines of the listing as bytes (docs/SPECIFICATION.md, "Listing"): one space parts the fields, a line feed ends each line.
use Rattle.std.specs.Prelude.{ℕ, List, [], ◌∷◌, ◌++◌, cond, eqb}
use Rattle.formulas.specs.Side as formulas
use Rattle.decimal.specs.declared.Decimal.{Decimal}
use Rattle.inputs.specs.declared.kind.Class.TheVariants.{Chemical}
use Rattle.inputs.specs.Kinds.{class_number}
use Rattle.guideline_rules.specs.declared.SideGuidelines.{SideGuidelines}
use Rattle.sum_rules.specs.declared.Verdict.{Verdict}
use Rattle.sum_rules.specs.declared.Verdict.TheVariants.{Within, Above, Undecided, NoPathway}
use Rattle.sum_rules.specs.declared.SideSums.{SideSums}
use Rattle.text.specs.Numbers.{number_text}
use Rattle.text.specs.Decimals.{or_else}
use Rattle.listing_rules.specs.declared.Side.{Side}
use Rattle.listing_rules.specs.declared.Side.TheVariants.{Risk, Hazard}

-- the side of the rules, as a line names it
abbrev pub listed : formulas.Side → Side
listed formulas.Risk = Risk
listed formulas.Hazard = Hazard

-- risk, hazard
abbrev pub side_word : Side → List ℕ
side_word Risk = 114 ∷ (105 ∷ (115 ∷ (107 ∷ [])))
side_word Hazard = 104 ∷ (97 ∷ (122 ∷ (97 ∷ (114 ∷ (100 ∷ [])))))

-- within, above, undecided, none
abbrev pub verdict_word : Verdict → List ℕ
verdict_word Within = 119 ∷ (105 ∷ (116 ∷ (104 ∷ (105 ∷ (110 ∷ [])))))
verdict_word Above = 97 ∷ (98 ∷ (111 ∷ (118 ∷ (101 ∷ []))))
verdict_word Undecided = 117 ∷ (110 ∷ (100 ∷ (101 ∷ (99 ∷ (105 ∷ (100 ∷ (101 ∷ (100 ∷ []))))))))
verdict_word NoPathway = 110 ∷ (111 ∷ (110 ∷ (101 ∷ [])))

-- a space and a decimal, or the mark where it is zero
abbrev pub spaced : ℕ → Decimal → List ℕ
spaced mark d = 32 ∷ or_else mark d

-- id, side, three pathways, total; "-" where absent
unfoldable pub line_of : ℕ → Side → SideGuidelines → List ℕ
line_of id side g = number_text id ++ (32 ∷ side_word side) ++ spaced 45 g.first ++ spaced 45 g.second ++ spaced 45 g.third ++ spaced 45 g.total ++ (10 ∷ [])

-- only a chemical has a hazard line
unfoldable pub lines_of : ℕ → ℕ → SideGuidelines → SideGuidelines → List ℕ
lines_of class id risk hazard = line_of id Risk risk ++ cond (eqb class (class_number Chemical)) (line_of id Hazard hazard) []

-- a zero sum prints 0; with the verdict none, whose sums are zero, it prints "-"
abbrev pub mark_of : Verdict → ℕ
mark_of NoPathway = 45
mark_of Within = 48
mark_of Above = 48
mark_of Undecided = 48

-- sum, side, lower, upper, verdict
unfoldable pub sum_line : Side → SideSums → List ℕ
sum_line side t =
    (115 ∷ (117 ∷ (109 ∷ (32 ∷ [])))) ++ side_word side ++ spaced (mark_of t.verdict) t.lower ++ spaced (mark_of t.verdict) t.upper ++
    (32 ∷ verdict_word t.verdict) ++ (10 ∷ [])

-- "sum SIDE - - none"
unfoldable pub none_line : Side → List ℕ
none_line side =
    (115 ∷ (117 ∷ (109 ∷ (32 ∷ [])))) ++ side_word side ++ (32 ∷ (45 ∷ (32 ∷ (45 ∷ (32 ∷ (110 ∷ (111 ∷ (110 ∷ (101 ∷ (10 ∷ []))))))))))

-- refused, number, block, block
unfoldable pub refusal_line : ℕ → ℕ → List ℕ
refusal_line n block =
    (114 ∷ (101 ∷ (102 ∷ (117 ∷ (115 ∷ (101 ∷ (100 ∷ (32 ∷ [])))))))) ++ number_text n ++
    (32 ∷ (98 ∷ (108 ∷ (111 ∷ (99 ∷ (107 ∷ (32 ∷ []))))))) ++ number_text block ++ (10 ∷ [])
