-- "None" has zero sums: where no contaminant of an accepted list has a pathway on a side, both its sums are (0, 0). Assumes nothing.
use mathlib.Core.Path.{◌≡◌, refl, ap, ◌∙◌}
use mathlib.Core.Bool.{Bool, true, false, ◌||◌}
use mathlib.Core.List.{List, [], ◌∷◌, map}
use Prim.Native.Nat.{ℕ, ◌*◌}
use native.Mathlib.Nat.{mul-zero}
use native.Mathlib.Omega.{arith}
use Rattle.rounding.specs.declared.Direction.{Direction}
use Rattle.rounding.specs.declared.Direction.TheVariants.{Down, Up}
use Rattle.decimal.specs.declared.Decimal.{Decimal}
use Rattle.decimal.specs.Decimal.{zero_of, add_of}
use Rattle.decimal.specs.Fraction.{Fraction, nothing, plus}
use Rattle.decimal.specs.Lists.{plus_all}
use Rattle.decimal.specs.Range.{Range}
use Rattle.decimal.proofs.Approximation.{Fair, add_zeros}
use Rattle.decimal.proofs.Approximation.Fair.{none, some}
use Rattle.outcome.specs.Outcome.{number_of}
use Rattle.inputs.specs.declared.Scenario.{Scenario}
use Rattle.inputs.specs.declared.Contaminant.{Contaminant}
use Rattle.formulas.specs.Side.{Side}
use Rattle.formulas.specs.Formula.{Formula}
use Rattle.formulas.specs.Term.{formulas_for}
use Rattle.formulas.specs.ExactTerm.{exact_present, exact_term, exact_total, exact_for, any_present}
use Rattle.guideline_rules.proofs.Accepted.{Accepted}
use Rattle.sum_rules.specs.Share.{Running, start, next, run_all, share_of, exact_used, exact_share}
use Rattle.sum_rules.specs.ListCall.{sums_of}
use Rattle.sum_rules.specs.Promise.{some_pathway, side_sent, ZeroSums}
use Rattle.sum_rules.proofs.ShareBounds.{AllAccepted, share_bounds}
use Rattle.sum_rules.proofs.ShareBounds.AllAccepted.{nobody, also}
use Rattle.sum_rules.proofs.Runs.{accepted_list}
use Rattle.sum_rules.proofs.Verdicts.{verdict_judges}

-- ---- exactly: absent terms add up to zero
neither : (a b : Bool) → a || b ≡ false → (a ≡ false) × (b ≡ false)
neither false b h = (refl, h)
neither true b h = absurd (let z : ◌≡◌ {A = ℕ} 0 1 = cc in omega arith)

absent_terms : (qs : List Fraction) (fs : List Formula) (p : Fraction) → p.top ≡ 0 → any_present qs fs ≡ false → (plus_all p (map (exact_term qs) fs)).top ≡ 0
unfolding exact_term
absent_terms qs [] p z h = z
absent_terms qs (f ∷ fs) p z h =
    let k = neither (exact_present qs f) (any_present qs fs) h in
    let t : (plus p (exact_term qs f)).top ≡ 0 = rw (k.0, z) (omega arith) in
    absent_terms qs fs (plus p (exact_term qs f)) t k.1

absent_share : (s : Scenario) (medium : ℕ) (side : Side) (r : Contaminant) →
    any_present (exact_for s r) (formulas_for s medium r side) ≡ false → (exact_share s medium side r).top ≡ 0
unfolding exact_share exact_total
absent_share s medium side r h =
    let c = (exact_used r).top in
    ap (λ (n : ℕ). c * n) (absent_terms (exact_for s r) (formulas_for s medium r side) nothing refl h) ∙ mul-zero c

-- ---- rounded: what stands for zero is (0, 0)
fair_none : {dir : Direction} {k : ℕ} {w : Range} {d : Decimal} {q : Fraction} → Fair dir k w d q → q.top ≡ 0 → d ≡ zero_of
fair_none (none e t b) h = e
fair_none (some f) h = absurd (omega (arith, f.top, h))

-- running sums that are zero
record ZeroRun (t : Running) : Type 0 where
  lower : t.lower ≡ zero_of
  upper : t.upper ≡ zero_of

module _ (s : Scenario) (medium : ℕ) (side : Side) where
  no_share : (dir : Direction) (r : Contaminant) → Accepted s medium r → any_present (exact_for s r) (formulas_for s medium r side) ≡ false →
      share_of s medium r dir side ≡ zero_of
  no_share dir r a h = fair_none (share_bounds s medium side dir r a) (absent_share s medium side r h)

  zero_added : (dir : Direction) {a b : Decimal} → a ≡ zero_of → b ≡ zero_of → add_of a b dir ≡ zero_of
  zero_added dir e f = rw (e, f, add_zeros dir)

  zero_run : (rs : List Contaminant) → AllAccepted s medium rs → some_pathway s medium side rs ≡ false → (t : Running) → ZeroRun t → ZeroRun (run_all s medium side t rs)
  zero_run [] nobody h t z = z
  zero_run (r ∷ rs) (also a as') h t z =
      let k = neither (any_present (exact_for s r) (formulas_for s medium r side)) (some_pathway s medium side rs) h in
      zero_run rs as' k.1 (next s medium side t r)
      (record { lower = zero_added Down z.lower (no_share Down r a k.0); upper = zero_added Up z.upper (no_share Up r a k.0) })

-- "NONE": sums zero
module _ (s : Scenario) (medium : ℕ) (rs : List Contaminant) (h : number_of (sums_of s medium rs) ≡ 0) (side : Side) where
  pub none_zero : (side_sent (sums_of s medium rs) side).verdict ≡ 4 → ZeroSums (side_sent (sums_of s medium rs) side)
  none_zero v =
      let p = accepted_list s medium rs h in
      let z = zero_run s medium side rs p.all ((verdict_judges s medium rs h side).none v) start (record { lower = refl; upper = refl }) in
      rw (p.sides side) (record { lower = z.lower; upper = z.upper })
