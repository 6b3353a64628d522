-- The facts of Stands.antt have one proof at most, so that a struct may keep them in a ghost field.
use Rattle.std.specs.Prelude.{List, ◌∷◌, ℕ}
use Rattle.std.specs.Coded.{Coded-set, coded_ℕ, coded_ℤ, le_prop}
use Rattle.std.proofs.Common.{refl, ap, ap₂, arith, inl, inr}
use Rattle.rounding.specs.declared.Number.{Number}
use Rattle.rounding.specs.Number.{Working, Nine}
use Rattle.decimal.specs.declared.Decimal.{Decimal}
use Rattle.factors.specs.Stands.{Stands, StandAll}
use Rattle.factors.specs.Stands.StandAll.{end, next}

pub one_working : (r : Number) → IsProp (Working r)
one_working r (inl a) (inl b) = ap inl (Coded-set coded_ℕ r.m 0 a b)
one_working r (inl a) (inr n) = absurd (omega (arith, a, n.least))
one_working r (inr n) (inl a) = absurd (omega (arith, a, n.least))
one_working r (inr m) (inr n) = ap inr (one m n)
  where
    one : IsProp (Nine r)
    one = Prim.hlevel le_prop

pub one_stands : (w : ℕ) (r : Number) (d : Decimal) → IsProp (Stands w r d)
one_stands w r d = Prim.hlevel (le_prop, one_working, Coded-set coded_ℕ, Coded-set coded_ℤ)

pub one_stand_all : (ns : List Number) (ds : List Decimal) → IsProp (StandAll ns ds)
one_stand_all _ _ end end = refl
one_stand_all (n ∷ ns) (d ∷ ds) (next s a) (next t b) = ap₂ next (one_stands _ n d s t) (one_stand_all ns ds a b)
