-- The guidelines of both sides, which an accepted call answers.
use Rattle.formulas.specs.declared.Sides.{Sides}
use Rattle.guideline_rules.specs.declared.SideGuidelines.{SideGuidelines}

abbrev pub Guidelines : Type 0
Guidelines = Sides SideGuidelines
