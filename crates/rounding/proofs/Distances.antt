-- Distances compose: one after the other, multiplied, added, scaled; each law once for both directions. Assumes nothing.
use mathlib.Core.Path.{◌≡◌, subst}
use Prim.Native.Nat.{ℕ, ◌+◌, ◌*◌, ◌^◌, ◌≤◌, ◌<◌}
use native.Mathlib.Nat.{le_refl, mul-le-mul, mul-le-mul_right, le_of_mul-le-mul_right, pow-le-pow_left, add_comm, zero-add, mul-le-mul_left, one-le-pow}
use native.Mathlib.Omega.{arith}
use lib.Pow.{pow-add}
use lib.Dec.{T, leb, leb→le, lit≤, lit<}
use Rattle.rounding.specs.declared.Direction.{Direction}
use Rattle.rounding.specs.declared.Direction.TheVariants.{Down, Up}
use Rattle.rounding.specs.Direction.{opposite}
use Rattle.rounding.specs.Within.{Within, Directed}

-- ---- without a direction
pub within_refl : (a : ℕ) → Within 0 a a
within_refl a = record { low = le_refl a; high = le_refl _ }

trans_core : (a b c p q r s : ℕ) → b * p ≤ a * q → c * r ≤ b * s → c * (p * r) ≤ a * (q * s)
trans_core a b c p q r s h k = omega (arith, mul-le-mul_right s h, mul-le-mul_right p k)

within_trans : {j k a b c : ℕ} → Within j a b → Within k b c → Within (j + k) a c
within_trans {j} {k} {a} {b} {c} f g = record {
  low = omega (arith, f.low, g.low);
  high = rw (pow-add 100000000 j k, pow-add 100000001 j k) (trans_core a b c (100000000 ^ j) (100000001 ^ j) (100000000 ^ k) (100000001 ^ k) f.high g.high);
}

mul_core : (a b c d p q r s : ℕ) → b * p ≤ a * q → d * r ≤ c * s → b * d * (p * r) ≤ a * c * (q * s)
mul_core a b c d p q r s h k = omega (arith, mul-le-mul h k)

within_mul : {j k a b c d : ℕ} → Within j a b → Within k c d → Within (j + k) (a * c) (b * d)
within_mul {j} {k} {a} {b} {c} {d} f g = record {
  low = mul-le-mul f.low g.low;
  high = rw (pow-add 100000000 j k, pow-add 100000001 j k) (mul_core a b c d (100000000 ^ j) (100000001 ^ j) (100000000 ^ k) (100000001 ^ k) f.high g.high);
}

within_add : {k a b c d : ℕ} → Within k a b → Within k c d → Within k (a + c) (b + d)
within_add f g = record { low = omega (arith, f.low, g.low); high = omega (arith, f.high, g.high) }

within_scale : {k a b : ℕ} (z : ℕ) → Within k a b → Within k (a * z) (b * z)
within_scale z f = record { low = mul-le-mul_right z f.low; high = omega (arith, mul-le-mul_right z f.high) }

cancel_core : (a b p q z : ℕ) → 0 < z → b * z * p ≤ a * z * q → b * p ≤ a * q
cancel_core a b p q z h e = le_of_mul-le-mul_right {k = z} (omega (arith, e)) h

within_cancel : {k a b : ℕ} (z : ℕ) → 0 < z → Within k (a * z) (b * z) → Within k a b
within_cancel {k} {a} {b} z h f = record { low = le_of_mul-le-mul_right f.low h; high = cancel_core a b (100000000 ^ k) (100000001 ^ k) z h f.high }

within_more : {k a b : ℕ} (i : ℕ) → Within k a b → Within (k + i) a b
within_more {k} {a} {b} i f = within_trans f (record { low = le_refl b; high = mul-le-mul (le_refl b) (pow-le-pow_left (lit≤ tt) i) })

-- ---- over the direction
pub opposed : (dir : Direction) {k r v : ℕ} → Directed (opposite dir) k r v → Directed dir k v r
opposed Down f = record { within = f.within }
opposed Up f = record { within = f.within }

pub directed_refl : (dir : Direction) (a : ℕ) → Directed dir 0 a a
directed_refl Down a = record { within = within_refl a }
directed_refl Up a = record { within = within_refl a }

pub directed_trans : (dir : Direction) {j k r v w : ℕ} → Directed dir j r v → Directed dir k v w → Directed dir (j + k) r w
directed_trans Down f g = record { within = within_trans f.within g.within }
directed_trans Up {j} {k} {r} {v} {w} f g = record { within = subst (λ (i : ℕ). Within i w r) (add_comm k j) (within_trans g.within f.within) }

pub directed_mul : (dir : Direction) {j k a b c d : ℕ} → Directed dir j a b → Directed dir k c d → Directed dir (j + k) (a * c) (b * d)
directed_mul Down f g = record { within = within_mul f.within g.within }
directed_mul Up f g = record { within = within_mul f.within g.within }

pub directed_add : (dir : Direction) {k a b c d : ℕ} → Directed dir k a b → Directed dir k c d → Directed dir k (a + c) (b + d)
directed_add Down f g = record { within = within_add f.within g.within }
directed_add Up f g = record { within = within_add f.within g.within }

pub directed_more : (dir : Direction) {k a b : ℕ} (i : ℕ) → Directed dir k a b → Directed dir (k + i) a b
directed_more Down i f = record { within = within_more i f.within }
directed_more Up i f = record { within = within_more i f.within }

pub directed_scale : (dir : Direction) {k a b : ℕ} (z : ℕ) → Directed dir k a b → Directed dir k (a * z) (b * z)
directed_scale Down z f = record { within = within_scale z f.within }
directed_scale Up z f = record { within = within_scale z f.within }

pub directed_cancel : (dir : Direction) {k a b : ℕ} (z : ℕ) → 0 < z → Directed dir k (a * z) (b * z) → Directed dir k a b
directed_cancel Down z h f = record { within = within_cancel z h f.within }
directed_cancel Up z h f = record { within = within_cancel z h f.within }

-- the same numbers written otherwise: `directed_is dir f (omega arith) (omega arith)`
pub directed_is : (dir : Direction) {k r v r' v' : ℕ} → Directed dir k r v → r ≡ r' → v ≡ v' → Directed dir k r' v'
directed_is dir {k} {r} {v} {r'} {v'} f p q = subst (λ (i : ℕ). Directed dir k i v') p (subst (λ (i : ℕ). Directed dir k r i) q f)

-- equal values are within any number of roundings
pub directed_same : (dir : Direction) (k a b : ℕ) → a ≡ b → Directed dir k a b
directed_same dir k a b e = rw e (subst (λ (i : ℕ). Directed dir i b b) (zero-add k) (directed_more dir k (directed_refl dir b)))

-- ---- in parts of 10^8: where (1 + 10^-8)^k ≤ 1 + c * 10^-8, which antt computes, as `parts 20 21 tt`
parts_core : (a b p q c : ℕ) → 0 < p → q * 100000000 ≤ p * (100000000 + c) → b * p ≤ a * q → b * 100000000 ≤ a * (100000000 + c)
parts_core a b p q c z h f = le_of_mul-le-mul_right {k = p} (omega (arith, mul-le-mul_right 100000000 f, mul-le-mul_left a h)) z

pub parts : (k c : ℕ) {a b : ℕ} → T (leb (100000001 ^ k * 100000000) (100000000 ^ k * (100000000 + c))) → Within k a b → b * 100000000 ≤ a * (100000000 + c)
parts k c {a} {b} t f = parts_core a b (100000000 ^ k) (100000001 ^ k) c (one-le-pow k 100000000 (lit< tt)) (leb→le _ _ t) f.high
