-- The three built-in scenarios (docs/SPECIFICATION.md, "Built-in scenarios"), with inhalation by intake, and with their pairs (m, e) fixed: a whole
-- number below 1,000 has e = 0, any other value the digits that are printed there.
use Rattle.std.specs.Prelude.{cond, [], ℕ, eqb, pos, negsuc, Result, Ok, Err}
use Rattle.outcome.specs.declared.Refused.{Refused}
use Rattle.outcome.specs.declared.Refusal.TheVariants.{Scenario as NoScenario}
use Rattle.outcome.specs.Outcome.{refused}
use Rattle.decimal.specs.Figures.{dec}
use Rattle.decimal.specs.declared.Decimal.{Decimal}
use Rattle.inputs.specs.declared.groups.House.{House}
use Rattle.inputs.specs.declared.groups.Age.{Age}
use Rattle.inputs.specs.declared.groups.Ages.{Ages}
use Rattle.inputs.specs.declared.kind.Inhalation.TheVariants.{Intake}
use Rattle.inputs.specs.declared.Scenario.{Scenario}
use Rattle.inputs.specs.declared.Contaminant.{Contaminant}
use Rattle.inputs.specs.Inputs.{scenario_of, contaminant_of}

-- none of them has a house
abbrev no_house : House Decimal
no_house = record { m = dec 0 (pos 0); f = dec 0 (pos 0); n = dec 0 (pos 0); s = dec 0 (pos 0); v = dec 0 (pos 0); l = dec 0 (pos 0); w = dec 0 (pos 0); k = dec 0 (pos 0) }

-- or anything of soil on skin
abbrev no_age : Age Decimal
no_age = record { sa = dec 0 (pos 0); ef = dec 0 (pos 0); ed = dec 0 (pos 0); bw = dec 0 (pos 0) }

abbrev pub no_ages : Ages Decimal
no_ages = record { child = no_age; adult = no_age; af = dec 0 (pos 0) }

-- 1 office worker (002, Table 5.1.1)
abbrev pub office : Scenario
office = record {
  exposure = record { ef = dec 250 (pos 0); ed = dec 25 (pos 0); bw = dec 70 (pos 0); at = dec 70 (pos 0) };
  contact = record { ir = dec 50 (pos 0); ira = dec 20 (pos 0); pef = dec 428 (pos 7); et = dec 0 (pos 0); rf = dec 0 (pos 0); sa = dec 0 (pos 0) };
  targets = record { tr = dec 1 (negsuc 5); thi = dec 1 (pos 0) };
  house = no_house;
  air_hours = dec 0 (pos 0);
  ages = no_ages;
  inhalation = Intake;
}

-- 2 archeologist (004)
abbrev pub archeologist : Scenario
archeologist = record {
  exposure = record { ef = dec 250 (pos 0); ed = dec 1 (pos 0); bw = dec 70 (pos 0); at = dec 70 (pos 0) };
  contact = record { ir = dec 200 (pos 0); ira = dec 15 (pos 0); pef = dec 5 (pos 6); et = dec 8 (pos 0); rf = dec 1 (pos 0); sa = dec 0 (pos 0) };
  targets = record { tr = dec 1 (negsuc 5); thi = dec 1 (pos 0) };
  house = no_house;
  air_hours = dec 0 (pos 0);
  ages = no_ages;
  inhalation = Intake;
}

-- 3 bird watcher (004)
abbrev pub bird_watcher : Scenario
bird_watcher = record {
  exposure = record { ef = dec 50 (pos 0); ed = dec 5 (pos 0); bw = dec 70 (pos 0); at = dec 70 (pos 0) };
  contact = record { ir = dec 25 (pos 0); ira = dec 5 (pos 0); pef = dec 2 (pos 7); et = dec 4 (pos 0); rf = dec 8 (negsuc 0); sa = dec 0 (pos 0) };
  targets = record { tr = dec 1 (negsuc 5); thi = dec 1 (pos 0) };
  house = no_house;
  air_hours = dec 0 (pos 0);
  ages = no_ages;
  inhalation = Intake;
}

-- zero decimals, inhalation by intake
abbrev pub blank : Scenario
blank = scenario_of Intake []

-- a contaminant of class 0 and id 0, which keeps no rule
abbrev pub no_contaminant : Contaminant
no_contaminant = contaminant_of 0 0 []

-- refusal 11 in block 0 for any other number
unfoldable pub built_in_of : ℕ → Result Scenario Refused
built_in_of n = cond (eqb n 1) (Ok office) (cond (eqb n 2) (Ok archeologist) (cond (eqb n 3) (Ok bird_watcher) (refused NoScenario 0)))

-- the scenario that is sent back: zero decimals on a refusal
abbrev pub scenario_sent : Result Scenario Refused → Scenario
scenario_sent (Ok s) = s
scenario_sent (Err r) = blank
