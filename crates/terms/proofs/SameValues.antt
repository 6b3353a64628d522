-- The numbers of a scenario and a contaminant give the values of the definitions. Assumes nothing.
use mathlib.Core.Path.{◌≡◌, sym, ap₂, subst}
use mathlib.Core.List.{List, ◌++◌, map}
use Rattle.rounding.specs.declared.Direction.{Direction}
use Rattle.decimal.specs.declared.Decimal.{Decimal}
use Rattle.decimal.specs.Decimal.{zero_of, working_of}
use Rattle.inputs.specs.declared.kind.Inhalation.{Inhalation}
use Rattle.inputs.specs.declared.Scenario.{Scenario}
use Rattle.inputs.specs.declared.Contaminant.{Contaminant}
use Rattle.factors.specs.declared.numbers.Factors.{Factors}
use Rattle.factors.specs.declared.numbers.ContaminantNumbers.{ContaminantNumbers}
use Rattle.factors.specs.declared.prepared.Prepared.{Prepared}
use Rattle.formulas.specs.Formula.{Formula, derived}
use Rattle.formulas.specs.Term.{constants, total_of, inputs_of, values_of}
use Rattle.factors.specs.Stands.{StandAll, factor_numbers, contaminant_numbers, FactorsFor, NumbersFor}
use Rattle.factors.specs.Prepared.{PreparedFor}
use Rattle.terms.specs.Side.{number_values, Ready, TermsFor}
use Rattle.terms.specs.Side.{Terms}
use Prim.Native.Nat.{ℕ}
use Rattle.factors.proofs.StandsLaws.{all_own, all_same}

pub ready : {dir : Direction} {m medium : ℕ} {f : Factors} {p : Prepared} {t : ContaminantNumbers} {ds es : List Decimal} → m ≡ medium → PreparedFor dir medium f p →
    StandAll (factor_numbers f) es → StandAll (contaminant_numbers t) ds → Ready dir m f p t
ready {dir} {m} {medium} {f} {p} e h g k =
    record { prepared = subst (λ (n : ℕ). PreparedFor dir n f p) (sym e) h; factors = all_own g; numbers = all_own k }

-- ---- the same decimals
pub values_same : (dir : Direction) (s : Scenario) (r : Contaminant) {f : Factors} {t : ContaminantNumbers} → FactorsFor s f → NumbersFor s.inhalation r t → number_values dir f t ≡ values_of dir (inputs_of s r)
unfolding number_values values_of derived
values_same dir s r h k =
    ap₂ (λ (l m : List Decimal). values (map working_of constants ++ (l ++ m))) (all_same h) (all_same k)
  where
    values : List Decimal → List Decimal
    values l = map (total_of (map (λ (fs : List Formula). zero_of) derived ++ l) dir) derived ++ l

-- the terms of equal kinds
pub terms_at : {dir : Direction} {f : Factors} {t : ContaminantNumbers} {i : Inhalation} {medium class m k : ℕ} {r : Terms} → m ≡ medium → k ≡ class →
    TermsFor dir f t i m k r → TermsFor dir f t i medium class r
terms_at {dir} {f} {t} {i} {medium} {class} {m} {k} {r} e g h =
    subst (λ (n : ℕ). TermsFor dir f t i n class r) e (subst (λ (n : ℕ). TermsFor dir f t i m n r) g h)
