-- The words of demand 3, first sentence.
use Rattle.std.specs.Prelude.{◌≡◌, Bool, true, false, not, ℕ, zero, suc, eqb}
use Rattle.decimal.specs.declared.Decimal.{Decimal}
use Rattle.decimal.specs.Fraction.{Fraction, given, times, AtMost}
use Rattle.guideline_rules.specs.declared.SideGuidelines.{SideGuidelines}

-- the guideline of pathway 0, 1 or 2
abbrev pub pathway_at : SideGuidelines → ℕ → Decimal
pathway_at g zero = g.first
pathway_at g (suc zero) = g.second
pathway_at g (suc (suc n)) = g.third

-- 1 - 2/10,000,000
abbrev pub nearly : Fraction
nearly = record { top = 9999998; bottom = 10000000 }

-- the exact risk or hazard at the concentration g is at most the target, and at least the target times (1 - 2/10,000,000)
pub record Kept (g : Decimal) (target exact : Fraction) : Type 0 where
  pub most : AtMost (times (given g) exact) target
  pub least : AtMost (times target nearly) (times (given g) exact)

-- the guideline g is above zero exactly when there is a pathway, and then it is kept
pub record Promised (g : Decimal) (target : Fraction) (present : Bool) (exact : Fraction) : Type 0 where
  pub when : not (eqb g.m 0) ≡ present
  pub kept : present ≡ true → Kept g target exact

-- the same of the guideline of one pathway; where the saturation stands in its place, without the lower bound
pub record PathwayPromised (g : Decimal) (target : Fraction) (present : Bool) (exact : Fraction) (capped : Bool) : Type 0 where
  pub when : not (eqb g.m 0) ≡ present
  pub most : present ≡ true → AtMost (times (given g) exact) target
  pub least : capped ≡ false → present ≡ true → AtMost (times target nearly) (times (given g) exact)
