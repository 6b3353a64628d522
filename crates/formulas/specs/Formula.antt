-- The formulas (docs/SPECIFICATION.md, "Terms") as a table: a formula is the list of the factors before the stroke and of those after it.
use Rattle.std.specs.Prelude.{Bool, cond, ◌&&◌, List, [], ◌∷◌, ℕ, ◌+◌, eqb}
use Rattle.inputs.specs.declared.kind.Inhalation.{Inhalation}
use Rattle.inputs.specs.declared.kind.Inhalation.TheVariants.{Intake, Concentration}
use Rattle.inputs.specs.Inputs.{scenario_places}
use Rattle.formulas.specs.Side.{Side, Risk, Hazard}

-- ---- the names of the factors: their places in a list of values. First those that are worked out from the others
abbrev pub B : ℕ
B = 0

abbrev pub H : ℕ
H = 1

abbrev pub G : ℕ
G = 2

abbrev pub derived_places : ℕ
derived_places = 3

-- constants: 1, 10^-6, 10^-3, 0.5, 0.000114, 365, 10^3 and 24
abbrev pub One : ℕ
One = derived_places

abbrev pub Millionth : ℕ
Millionth = derived_places + 1

abbrev pub Thousandth : ℕ
Thousandth = derived_places + 2

abbrev pub Half : ℕ
Half = derived_places + 3

abbrev pub YearsPerHour : ℕ
YearsPerHour = derived_places + 4

abbrev pub Days : ℕ
Days = derived_places + 5

abbrev pub Thousand : ℕ
Thousand = derived_places + 6

abbrev pub HoursPerDay : ℕ
HoursPerDay = derived_places + 7

abbrev scenario_first : ℕ
scenario_first = derived_places + 8

-- of the scenario, in the order of `scenario_decimals`
abbrev pub EF : ℕ
EF = scenario_first

abbrev pub ED : ℕ
ED = scenario_first + 1

abbrev pub BW : ℕ
BW = scenario_first + 2

abbrev pub AT : ℕ
AT = scenario_first + 3

abbrev pub IR : ℕ
IR = scenario_first + 4

abbrev pub IRA : ℕ
IRA = scenario_first + 5

abbrev pub PEF : ℕ
PEF = scenario_first + 6

abbrev pub ET : ℕ
ET = scenario_first + 7

abbrev pub RF : ℕ
RF = scenario_first + 8

abbrev pub SA : ℕ
SA = scenario_first + 9

-- then the targets, which no formula names; and the house, whose shower volume V is Vol here
abbrev pub M : ℕ
M = scenario_first + 12

abbrev pub F : ℕ
F = scenario_first + 13

abbrev pub N : ℕ
N = scenario_first + 14

abbrev pub S : ℕ
S = scenario_first + 15

abbrev pub Vol : ℕ
Vol = scenario_first + 16

abbrev pub L : ℕ
L = scenario_first + 17

abbrev pub W : ℕ
W = scenario_first + 18

abbrev pub K : ℕ
K = scenario_first + 19

-- the hours of a day in the air
abbrev pub A : ℕ
A = scenario_first + 20

-- soil on skin: of the child, of the adult, and the adherence
abbrev pub ChildSA : ℕ
ChildSA = scenario_first + 21

abbrev pub ChildEF : ℕ
ChildEF = scenario_first + 22

abbrev pub ChildED : ℕ
ChildED = scenario_first + 23

abbrev pub ChildBW : ℕ
ChildBW = scenario_first + 24

abbrev pub AdultSA : ℕ
AdultSA = scenario_first + 25

abbrev pub AdultEF : ℕ
AdultEF = scenario_first + 26

abbrev pub AdultED : ℕ
AdultED = scenario_first + 27

abbrev pub AdultBW : ℕ
AdultBW = scenario_first + 28

abbrev pub AF : ℕ
AF = scenario_first + 29

abbrev contaminant_first : ℕ
contaminant_first = scenario_first + scenario_places

-- of the contaminant, in the order of `formula_decimals`
abbrev pub SFo : ℕ
SFo = contaminant_first

abbrev pub SFi : ℕ
SFi = contaminant_first + 1

abbrev pub SFx : ℕ
SFx = contaminant_first + 2

abbrev pub RfDo : ℕ
RfDo = contaminant_first + 3

abbrev pub RfDi : ℕ
RfDi = contaminant_first + 4

abbrev pub VF : ℕ
VF = contaminant_first + 5

abbrev pub PC : ℕ
PC = contaminant_first + 6

abbrev pub U : ℕ
U = contaminant_first + 7

abbrev pub Q : ℕ
Q = contaminant_first + 8

abbrev pub ABS : ℕ
ABS = contaminant_first + 9

pub record Formula : Type 0 where
  pub before : List ℕ
  pub after : List ℕ

-- the stroke
infixl 20 ◌÷◌
abbrev pub ◌÷◌ : List ℕ → List ℕ → Formula
a ÷ b = record { before = a; after = b }

abbrev pub none : Formula
none = [] ÷ []

abbrev pub no_pathways : List Formula
no_pathways = none ∷ none ∷ none ∷ []

-- ---- inhalation of a chemical, by intake or by concentration, with the factor from soil or water to the air: B in soil, 0.5 in water
abbrev pub inhaled_risk : Inhalation → ℕ → Formula
inhaled_risk Intake air = (SFi ∷ IRA ∷ air ∷ EF ∷ ED ∷ []) ÷ (BW ∷ AT ∷ Days ∷ [])
inhaled_risk Concentration air = (U ∷ Thousand ∷ air ∷ A ∷ EF ∷ ED ∷ []) ÷ (AT ∷ Days ∷ HoursPerDay ∷ [])

abbrev pub inhaled_hazard : Inhalation → ℕ → Formula
inhaled_hazard Intake air = (IRA ∷ air ∷ EF ∷ []) ÷ (RfDi ∷ BW ∷ Days ∷ [])
inhaled_hazard Concentration air = (air ∷ A ∷ EF ∷ []) ÷ (Q ∷ Days ∷ HoursPerDay ∷ [])

-- ---- the table: for a medium (1 soil, 2 water) and a class (1 chemical, 2 radionuclide, 3 tritium) the three pathways of each side, with
-- inhalation of chemicals worked out so
pub record Row : Type 0 where
  pub medium : ℕ
  pub class : ℕ
  pub risk : List Formula
  pub hazard : List Formula

unfoldable pub table : Inhalation → List Row
table i =
    -- soil, chemical
    record {
      medium = 1;
      class = 1;
      risk =
          ((SFo ∷ IR ∷ Millionth ∷ EF ∷ ED ∷ []) ÷ (BW ∷ AT ∷ Days ∷ [])) ∷
          inhaled_risk i B ∷
          ((SFo ∷ ABS ∷ AF ∷ Millionth ∷ G ∷ []) ÷ (AT ∷ Days ∷ [])) ∷ [];
      hazard =
          ((IR ∷ Millionth ∷ EF ∷ []) ÷ (RfDo ∷ BW ∷ Days ∷ [])) ∷
          inhaled_hazard i B ∷
          ((ABS ∷ AF ∷ Millionth ∷ G ∷ []) ÷ (RfDo ∷ ED ∷ Days ∷ [])) ∷ [];
    } ∷
    -- soil, radionuclide
    record {
      medium = 1;
      class = 2;
      risk =
          ((SFo ∷ IR ∷ Millionth ∷ EF ∷ ED ∷ []) ÷ []) ∷
          ((SFi ∷ IRA ∷ EF ∷ ED ∷ []) ÷ (PEF ∷ [])) ∷
          ((SFx ∷ ET ∷ RF ∷ YearsPerHour ∷ EF ∷ ED ∷ []) ÷ []) ∷ [];
      hazard = no_pathways;
    } ∷
    -- water, chemical
    record {
      medium = 2;
      class = 1;
      risk =
          ((SFo ∷ IR ∷ EF ∷ ED ∷ []) ÷ (BW ∷ AT ∷ Days ∷ [])) ∷
          inhaled_risk i Half ∷
          ((SFo ∷ SA ∷ PC ∷ ET ∷ Thousandth ∷ EF ∷ ED ∷ []) ÷ (BW ∷ AT ∷ Days ∷ [])) ∷ [];
      hazard =
          ((IR ∷ EF ∷ []) ÷ (RfDo ∷ BW ∷ Days ∷ [])) ∷
          inhaled_hazard i Half ∷
          ((SA ∷ PC ∷ ET ∷ Thousandth ∷ EF ∷ []) ÷ (RfDo ∷ BW ∷ Days ∷ [])) ∷ [];
    } ∷
    -- water, radionuclide
    record {
      medium = 2;
      class = 2;
      risk = ((SFo ∷ IR ∷ EF ∷ ED ∷ []) ÷ []) ∷ none ∷ none ∷ [];
      hazard = no_pathways;
    } ∷
    -- water, tritium
    record {
      medium = 2;
      class = 3;
      risk =
          ((SFo ∷ IR ∷ EF ∷ ED ∷ []) ÷ []) ∷
          ((SFi ∷ IRA ∷ M ∷ Thousandth ∷ H ∷ EF ∷ ED ∷ []) ÷ []) ∷
          ((SFo ∷ SA ∷ K ∷ ET ∷ Thousand ∷ EF ∷ ED ∷ []) ÷ []) ∷ [];
      hazard = no_pathways;
    } ∷ []

abbrev pub formulas_of : Row → Side → List Formula
formulas_of x Risk = x.risk
formulas_of x Hazard = x.hazard

-- the row of a medium and a class; what has no row has no pathway
abbrev pub is_row : Row → ℕ → ℕ → Bool
is_row x medium class = eqb x.medium medium && eqb x.class class

abbrev pub row_of : List Row → ℕ → ℕ → Side → List Formula
row_of [] medium class side = no_pathways
row_of (x ∷ xs) medium class side = cond (is_row x medium class) (formulas_of x side) (row_of xs medium class side)

unfoldable pub pathways_of : Inhalation → ℕ → ℕ → Side → List Formula
pathways_of i medium class side = row_of (table i) medium class side

-- ---- the factors that are worked out, each as the formulas that are added up: B = 1/VF + 1/PEF, H = ET + (F, N, S, V / L, W),
-- and G = (SA, EF, ED / BW) of the child + the same of the adult
unfoldable pub derived : List (List Formula)
derived =
    (((One ∷ []) ÷ (VF ∷ [])) ∷ ((One ∷ []) ÷ (PEF ∷ [])) ∷ []) ∷
    (((ET ∷ []) ÷ []) ∷ ((F ∷ N ∷ S ∷ Vol ∷ []) ÷ (L ∷ W ∷ [])) ∷ []) ∷
    (((ChildSA ∷ ChildEF ∷ ChildED ∷ []) ÷ (ChildBW ∷ [])) ∷ ((AdultSA ∷ AdultEF ∷ AdultED ∷ []) ÷ (AdultBW ∷ [])) ∷ []) ∷ []
