-- One range covers another: by a computed test, and through a third. Assumes nothing.
use mathlib.Core.Path.{◌≡◌}
use mathlib.Core.Bool.{true, and-eq-true_iff}
use native.Mathlib.Nat.{le_refl, le_trans}
use lib.Dec.{leb}
use borrow.Author.Tests.{leb-true}
use Rattle.decimal.specs.Range.{Range, Covers, covers_test}

pub covers : {w v : Range} → covers_test w v ≡ true → Covers w v
covers {w} {v} h =
    let p = (and-eq-true_iff (leb v.below w.below) (leb v.above w.above)).0 h in
    record { low = leb-true v.below w.below p.0; high = leb-true v.above w.above p.1 }

pub covers_self : {w : Range} → Covers w w
covers_self {w} = record { low = le_refl w.below; high = le_refl w.above }

pub covers_trans : {u v w : Range} → Covers w v → Covers v u → Covers w u
covers_trans f g = record { low = le_trans g.low f.low; high = le_trans g.high f.high }
