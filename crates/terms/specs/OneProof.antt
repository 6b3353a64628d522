-- `Ready` has one proof at most, so that a struct may keep it in a ghost field.
use Rattle.std.specs.Prelude.{ℕ}
use Rattle.std.specs.Coded.{Coded-set, coded_ℕ}
use Rattle.rounding.specs.declared.Direction.{Direction}
use Rattle.factors.specs.declared.numbers.Factors.{Factors}
use Rattle.factors.specs.declared.numbers.ContaminantNumbers.{ContaminantNumbers}
use Rattle.factors.specs.declared.prepared.Prepared.{Prepared}
use Rattle.factors.specs.OneProof.{one_stands, one_stand_all}
use Rattle.terms.specs.Side.{Ready}

pub one_ready : (dir : Direction) (medium : ℕ) (f : Factors) (p : Prepared) (t : ContaminantNumbers) → IsProp (Ready dir medium f p t)
one_ready dir medium f p t = Prim.hlevel (one_stands, one_stand_all, Coded-set coded_ℕ)
