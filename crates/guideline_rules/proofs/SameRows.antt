-- Two lists of values that give each row that can be that of a medium and a class the same pathways, guidelines and sums of terms give the same to its
-- formulas. So what a row does not name changes nothing. Assumes nothing.
use mathlib.Core.Path.{◌≡◌, refl, ap, ap₂, ◌∙◌}
use mathlib.Core.Bool.{Bool, true, false, cond}
use mathlib.Core.List.{List, [], ◌∷◌}
use Prim.Native.Nat.{ℕ}
use Rattle.rounding.specs.declared.Direction.{Direction}
use Rattle.rounding.specs.declared.Direction.TheVariants.{Up}
use Rattle.decimal.specs.declared.Decimal.{Decimal}
use Rattle.inputs.specs.declared.kind.Inhalation.{Inhalation}
use Rattle.inputs.specs.declared.Scenario.{Scenario}
use Rattle.inputs.specs.declared.Contaminant.{Contaminant}
use Rattle.inputs.specs.Rules.{lacks_house, scenario_refusal, contaminant_fits}
use Rattle.inputs.specs.Earlier.{none_before, mixed}
use Rattle.inputs.specs.declared.earlier.Earlier.{Earlier}
use Rattle.formulas.specs.Side.{Side, Risk, Hazard}
use Rattle.formulas.specs.Target.{working_target}
use Rattle.formulas.specs.Formula.{Formula, Row, table, is_row, formulas_of, row_of, pathways_of, no_pathways}
use Rattle.formulas.specs.Term.{present_of, term_of, total_of, inputs_by, values_of, values_for, formulas_for}
use Rattle.guideline_rules.specs.Alike.{Alike}
use Rattle.guideline_rules.specs.Pathway.{any_pathway, has_pathway, record_refusal}
use Rattle.outcome.specs.declared.Refusal.TheVariants.{Field}
use Rattle.outcome.specs.Outcome.{refused, passing}
use Rattle.std.specs.Prelude.{Ok}
use Rattle.decimal.specs.Decimal.{working_of}
use Rattle.guideline_rules.specs.declared.SideGuidelines.{SideGuidelines}
use Rattle.guideline_rules.specs.Saturation.{capped_side}
use Rattle.guideline_rules.specs.Guideline.{side_of, calculated_of, guideline_of}

-- ---- two lists of values give a list of formulas the same pathways, the same guidelines, and the same sum of terms in a direction
pub record Same (dir : Direction) (vs ws : List Decimal) (fs : List Formula) : Type 0 where
  pub present : any_pathway vs fs ≡ any_pathway ws fs
  pub total : total_of vs dir fs ≡ total_of ws dir fs
  pub sides : (target : Decimal) → side_of vs target fs ≡ side_of ws target fs

pub same : {dir : Direction} {vs ws : List Decimal} {fs : List Formula} → any_pathway vs fs ≡ any_pathway ws fs → total_of vs dir fs ≡ total_of ws dir fs →
    ((target : Decimal) → side_of vs target fs ≡ side_of ws target fs) → Same dir vs ws fs
same p q g = record { present = p; total = q; sides = g }

-- the values by intake or by concentration: those of `values_for` where the scenario has it so
abbrev pub values_by : Inhalation → Direction → Scenario → Contaminant → List Decimal
values_by i dir s r = values_of dir (inputs_by i s r)

no_row : (dir : Direction) (vs ws : List Decimal) → Same dir vs ws no_pathways
unfolding total_of term_of present_of side_of
no_row dir vs ws = same refl refl (λ t. refl)

-- so where they do for every row that can be that of the medium and the class, they do for its formulas
module _ (dir : Direction) (vs ws : List Decimal) (medium class : ℕ) (side : Side) where
  pub data Each : List Row → Type 0 where
    end : Each []
    next : {x : Row} {xs : List Row} → Same dir vs ws (formulas_of x side) → Each xs → Each (x ∷ xs)
    other : {x : Row} {xs : List Row} → is_row x medium class ≡ false → Each xs → Each (x ∷ xs)

  one_of : (b : Bool) {fs gs : List Formula} → Same dir vs ws fs → Same dir vs ws gs → Same dir vs ws (cond b fs gs)
  one_of true f g = f
  one_of false f g = g

  in_rows : (xs : List Row) → Each xs → Same dir vs ws (row_of xs medium class side)
  in_rows [] end = no_row dir vs ws
  in_rows (x ∷ xs) (next p ps) = one_of (is_row x medium class) p (in_rows xs ps)
  in_rows (x ∷ xs) (other e ps) = rw e (in_rows xs ps)

  pub in_table : (i : Inhalation) → Each (table i) → Same dir vs ws (pathways_of i medium class side)
  unfolding pathways_of
  in_table i e = in_rows (table i) e

-- ---- then all that looks at the values alone is the same; the tests of a record look at its class and the house besides, and its guidelines at the saturation
targets_same : (s t : Scenario) → s.targets ≡ t.targets → (side : Side) → working_target s side ≡ working_target t side
targets_same s t e Risk = λ i. working_of (e i).tr
targets_same s t e Hazard = λ i. working_of (e i).thi

module _ (medium : ℕ) (s t : Scenario) (q r : Contaminant) (formulas : (side : Side) → formulas_for s medium q side ≡ formulas_for t medium r side)
    (targets : s.targets ≡ t.targets) (house : lacks_house s medium q ≡ lacks_house t medium r) (others : (before : Earlier) → mixed before q ≡ mixed before r)
    (caps : (g : SideGuidelines) → capped_side medium q g ≡ capped_side medium r g)
    (e : (dir : Direction) (side : Side) → Same dir (values_for dir s q) (values_for dir t r) (formulas_for t medium r side)) where
  pathway_same : (side : Side) → has_pathway s medium q side ≡ has_pathway t medium r side
  unfolding has_pathway
  pathway_same side = ap (any_pathway (values_for Up s q)) (formulas side) ∙ (e Up side).present

  refusal_same : (before : Earlier) → record_refusal s medium before q ≡ record_refusal t medium before r
  unfolding record_refusal
  refusal_same before = rw (house, others before, pathway_same Risk, pathway_same Hazard) refl

  calculated_same : (side : Side) → calculated_of s medium q side ≡ calculated_of t medium r side
  calculated_same side = ap₂ (side_of (values_for Up s q)) (targets_same s t targets side) (formulas side) ∙ (e Up side).sides (working_target t side)

  pub alike : Alike medium s q t r
  alike = record {
    pathway = pathway_same;
    refusal = refusal_same;
    calculated = calculated_same;
    guidelines = λ side. ap (capped_side medium q) (calculated_same side) ∙ caps (calculated_of t medium r side);
    total = λ dir side. ap (total_of (values_for dir s q) dir) (formulas side) ∙ (e dir side).total;
  }

-- ---- so the single guideline is the same, refused or not, where both keep their rules alike
pub guideline_same : {medium : ℕ} {s t : Scenario} {q r : Contaminant} → Alike medium s q t r → scenario_refusal s medium ≡ scenario_refusal t medium →
    contaminant_fits q ≡ contaminant_fits r → guideline_of s medium q ≡ guideline_of t medium r
unfolding guideline_of
guideline_same {medium} a e f = λ i.
    passing (e i) 0 (cond (f i) (passing (a.refusal none_before i) 1 (Ok (record { risk = a.guidelines Risk i; hazard = a.guidelines Hazard i }))) (refused Field 1))
