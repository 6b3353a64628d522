-- A rounded number lies one part in 10^8 at most from the exact value: this follows from its being the greatest working decimal
-- not above it, or the least not below it. Assumes nothing.
use mathlib.Core.Path.{◌≡◌, refl, ap}
use mathlib.Core.Logic.{inl, inr, ⊎_elim}
use Prim.Native.Nat.{ℕ, zero, suc, ◌+◌, ◌-◌, ◌*◌, ◌^◌, ◌≤◌, ◌<◌}
use native.Mathlib.Nat.{le_trans, le_of_lt, lt_of_not-le, mul-one, mul_right_comm, mul-le-mul_right, eq-zero-or-pos, pow-suc}
use native.Mathlib.Decide.{dec_lt}
use native.Mathlib.Omega.{arith}
use lib.Pow.{pow-add}
use lib.Dec.{lit≤, lit<}
use Rattle.rounding.specs.declared.Direction.{Direction}
use Rattle.rounding.specs.declared.Direction.TheVariants.{Down, Up}
use Rattle.rounding.specs.declared.Number.{Number}
use Rattle.rounding.specs.Direction.{Side}
use Rattle.rounding.specs.Within.{Directed}
use Rattle.rounding.specs.Number.{worth, Nine, Working}
use Rattle.rounding.specs.Round.{Rounds}
use Rattle.rounding.proofs.Distances.{directed_scale, directed_cancel, directed_is, directed_same}
use Rattle.rounding.proofs.Greatest.{pow_ten_pos, side_scale, side_cancel}

-- ---- sides
-- of two numbers, one lies on the side dir of the other
side_other : (dir : Direction) {a b : ℕ} → (Side dir a b → ⊥) → Side dir b a
side_other Down n = record { side = le_of_lt (lt_of_not-le (λ h. n (record { side = h }))) }
side_other Up n = record { side = le_of_lt (lt_of_not-le (λ h. n (record { side = h }))) }

-- what lies between a value and one that is near it is near it too
between : (dir : Direction) {k a b c : ℕ} → Directed dir k a b → Side dir a c → Side dir c b → Directed dir k a c
between Down {k} f s t = record { within = record { low = s.side; high = le_trans (mul-le-mul_right (100000000 ^ k) t.side) f.within.high } }
between Up {k} f s t = record { within = record { low = s.side; high = le_trans f.within.high (mul-le-mul_right (100000001 ^ k) t.side) } }

-- ---- the next working decimal after one of nine digits, away from the exact value: w * 10^-j
record Next (dir : Direction) (r : Number) : Type 0 where
  w : Number
  j : ℕ
  working : Working w
  near : Directed dir 1 (worth r * 10 ^ j) (worth w)
  apart : Side dir (worth w) (worth r * 10 ^ j) → ⊥

-- from the digits u of r and v of the next one, both at the exponent of r
next_of : (dir : Direction) (r w : Number) (j u v : ℕ) → Working w → worth r * 10 ^ j ≡ u * 10 ^ r.x → worth w ≡ v * 10 ^ r.x → Directed dir 1 u v → (Side dir v u → ⊥) → Next dir r
next_of dir r w j u v f p q g n = record {
  w = w;
  j = j;
  working = f;
  near = rw (p, q) (directed_scale dir (10 ^ r.x) g);
  apart = λ s. n (side_cancel dir (10 ^ r.x) (pow_ten_pos r.x) (rw (p, q) at s));
}

-- the digits one more (down) or one less (up): at the end of their range the exponent is the next one
next : (dir : Direction) (r : Number) → Nine r → Next dir r
next Down r g = cases (dec_lt r.m 999999999)
  where
    near : Directed Down 1 r.m (r.m + 1)
    near = record { within = record { low = omega arith; high = omega (arith, g.least) } }

    cases : Dec (r.m < 999999999) → Next Down r
    cases (yes l) =
        next_of Down r (record { m = r.m + 1; x = r.x }) 0 r.m (r.m + 1) (inr (record { least = omega (arith, g.least); most = omega arith })) (mul-one _) refl
        near (λ s. omega (arith, s.side))
    cases (no l) =
        next_of Down r (record { m = 100000000; x = r.x + 1 }) 0 r.m (r.m + 1) (inr (record { least = lit≤ tt; most = lit< tt })) (mul-one _) carried near (λ s. omega (arith, s.side))
      where
        carried : 100000000 * 10 ^ (r.x + 1) ≡ (r.m + 1) * 10 ^ r.x
        carried = let e : r.m ≡ 999999999 = omega (arith, g.most) in rw (e, pow-add 10 r.x 1) (omega arith)
next Up r g = cases (dec_lt 100000000 r.m)
  where
    cases : Dec (100000000 < r.m) → Next Up r
    cases (yes l) =
        next_of Up r (record { m = r.m - 1; x = r.x }) 0 r.m (r.m - 1) (inr (record { least = omega arith; most = omega (arith, g.most) })) (mul-one _) refl
        (record { within = record { low = omega arith; high = omega arith } }) (λ s. omega (arith, s.side))
    cases (no l) =
        next_of Up r (record { m = 999999999; x = r.x }) 1 1000000000 999999999 (inr (record { least = lit≤ tt; most = lit< tt })) borrowed refl
        (record { within = record { low = lit≤ tt; high = lit≤ tt } }) (λ s. omega (arith, s.side))
      where
        borrowed : r.m * 10 ^ r.x * 10 ≡ 1000000000 * 10 ^ r.x
        borrowed = let e : r.m ≡ 100000000 = omega (arith, g.least) in rw e (omega arith)

-- ---- zero
-- ten to a number is at least the number
self_pow : (d : ℕ) → d ≤ 10 ^ d
self_pow zero = omega arith
self_pow (suc d) = let h = self_pow d in rw pow-suc (omega (arith, pow_ten_pos d))

-- only zero is rounded to zero: any other value has a working decimal above zero and not above the value
rounds_zero : (dir : Direction) (n d : ℕ) (r : Number) → r.m ≡ 0 → Rounds dir n d r → n ≡ 0
rounds_zero Down n d r z f =
    ⊎_elim (λ e. e) (λ p. absurd (clash (f.best (record { m = 100000000; x = 0 }) (d + 8) (inr (record { least = lit≤ tt; most = lit< tt })) (record { side = fits p })).side))
    (eq-zero-or-pos n)
  where
    fits : 0 < n → 100000000 * 10 ^ 0 * d ≤ n * 10 ^ (d + 8)
    fits p = rw (pow-add 10 d 8) (omega (arith, self_pow d, mul-le-mul_right (10 ^ d * 100000000) p))

    clash : 100000000 * 10 ^ 0 ≤ r.m * 10 ^ r.x * 10 ^ (d + 8) → ⊥
    clash l = omega (arith, l, ap (λ (v : ℕ). v * 10 ^ r.x * 10 ^ (d + 8)) z)
rounds_zero Up n d r z f = omega (arith, f.side.side, ap (λ (v : ℕ). v * 10 ^ r.x * d) z)

-- a fraction above zero is not rounded to zero
pub rounds_nine : (dir : Direction) (n d : ℕ) (r : Number) → 0 < n → Rounds dir n d r → Nine r
rounds_nine dir n d r p f = cases f.working
  where
    cases : Working r → Nine r
    cases (inl z) = absurd (let e = rounds_zero dir n d r z f in omega (arith, p))
    cases (inr g) = g

-- each rounding is one of the factor 1 + 10^-8: the exact value lies between the rounded one and the next
pub rounds_near : {dir : Direction} {n d : ℕ} {r : Number} → Rounds dir n d r → Directed dir 1 (worth r * d) n
rounds_near {dir} {n} {d} {r} f = cases f.working
  where
    cases : Working r → Directed dir 1 (worth r * d) n
    cases (inl z) = directed_same dir 1 _ n (rw (z, rounds_zero dir n d r z f) (omega arith))
    cases (inr g) =
        let t = next dir r g in
        directed_cancel dir (10 ^ t.j) (pow_ten_pos t.j)
        (between dir (directed_is dir (directed_scale dir d t.near) (mul_right_comm (worth r) (10 ^ t.j) d) refl) (side_scale dir (10 ^ t.j) f.side)
        (side_other dir (λ s. t.apart (f.best t.w t.j t.working s))))
