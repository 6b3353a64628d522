-- What one record adds to the sums of a side: the code's numbers stand for the definitions' next sums. Assumes nothing.
use mathlib.Core.Path.{◌≡◌, refl, sym, ap, subst, ◌∙◌}
use mathlib.Core.Bool.{not}
use Prim.Native.Nat.{ℕ, ◌+◌, ◌≤◌}
use native.Mathlib.Omega.{arith}
use lib.Dec.{eqb, lit≤}
use Rattle.rounding.specs.declared.Direction.{Direction}
use Rattle.rounding.specs.declared.Direction.TheVariants.{Down, Up}
use Rattle.rounding.specs.declared.Number.{Number}
use Rattle.rounding.specs.Operations.{product_of, sum_of}
use Rattle.inputs.specs.declared.Scenario.{Scenario}
use Rattle.inputs.specs.declared.Contaminant.{Contaminant}
use Rattle.terms.specs.declared.pathways.PathwayTerms.{PathwayTerms}
use Rattle.factors.specs.Widths.{input_width, formula_width, share_width, sum_width}
use Rattle.formulas.specs.Side.{Side}
use Rattle.formulas.specs.Term.{formulas_for, values_for}
use Rattle.factors.specs.Stands.{Stands}
use Rattle.factors.proofs.StandsLaws.{stands_own, stands_is, stands_mul, stands_add}
use Rattle.formulas.proofs.Sound.{table_sound, three_pathways}
use Rattle.guideline_rules.proofs.Accepted.{Accepted, values_of_lem}
use Rattle.guideline.proofs.ColumnBounds.{SideStands, sum_stands, stands_zero}
use Rattle.guideline_rules.specs.Pathway.{has_pathway}
use Rattle.guideline_rules.proofs.WorkedOut.{any_total}
use Rattle.shares.specs.declared.SideRun.{SideRun}
use Rattle.sum_rules.specs.Share.{Running, run_sum, next, term_sum, used_of, share_of}
use Rattle.sum_rules.proofs.Runs.{next_sum}
use Rattle.shares.specs.Plan.{running_of, Shared}
use Rattle.sums.specs.State.{SideReady}

-- the terms of a side in a direction, and their sum
pub record DirectedTerms (dir : Direction) (s : Scenario) (medium : ℕ) (r : Contaminant) (side : Side) (t : PathwayTerms) (a : Number) : Type 0 where
  pub terms : SideStands dir (values_for dir s r) (formulas_for s medium r side) t
  pub sum : a ≡ sum_of dir (sum_of dir t.first t.second) t.third

-- both directions, and the concentration
pub record SideTerms (s : Scenario) (medium : ℕ) (r : Contaminant) (side : Side) (p q : PathwayTerms) (a b k : Number) : Type 0 where
  pub accepted : Accepted s medium r
  pub above : DirectedTerms Up s medium r side p a
  pub below : DirectedTerms Down s medium r side q b
  pub c : (dir : Direction) → Stands input_width k (used_of r dir)

-- ---- once for both directions
module _ (dir : Direction) {s : Scenario} {medium : ℕ} {r : Contaminant} {side : Side} {t : PathwayTerms} {a : Number} (h : DirectedTerms dir s medium r side t a) where
  -- the number stands for the sum of the terms
  sum_is : Stands (formula_width + 2) a (term_sum s medium r dir side)
  unfolding term_sum
  sum_is =
      subst (λ (n : Number). Stands (formula_width + 2) n (term_sum s medium r dir side)) (sym h.sum)
      (sum_stands dir _ (formulas_for s medium r side) t (three_pathways s.inhalation medium r.class side) h.terms)

  -- with the share added, the sum stands for the next running sum
  sum_next : {c m n : Number} {w : ℕ} (x : Running) → Stands input_width c (used_of r dir) → share_width ≤ w → w ≤ sum_width →
      Stands w m (run_sum dir x) → n ≡ sum_of dir m (product_of dir c a) → Stands (w + 1) n (run_sum dir (next s medium side x r))
  unfolding share_of
  sum_next x k low high f e =
      stands_is (sym (next_sum dir s medium side x r))
      (stands_add dir f (stands_mul dir k sum_is (lit≤ tt) refl) (omega (arith, high)) (omega (arith, low)) e)

-- ---- both
module _ {s : Scenario} {medium : ℕ} {r : Contaminant} {side : Side} {above below : PathwayTerms} {upper lower c : Number}
    (h : SideTerms s medium r side above below upper lower c) where
  -- the side has a pathway exactly when its upper term sum is above zero
  pub has_pathway_lem : not (eqb upper.m 0) ≡ has_pathway s medium r side
  unfolding has_pathway term_sum
  has_pathway_lem =
      ap not (stands_zero (sum_is Up h.above)) ∙
      any_total _ _ (values_of_lem Up s medium r h.accepted) (formulas_for s medium r side) (table_sound s.inhalation medium r.class side)
      (three_pathways s.inhalation medium r.class side)

  -- ---- one step
  module _ {w : ℕ} (low : share_width ≤ w) (high : w ≤ sum_width) {x y : SideRun} (ready : SideReady w x) (e : Shared x c lower upper y) where
    -- the two sums after it stand for the definitions' next sums
    upper_next : Stands (w + 1) y.upper (next s medium side (running_of x) r).upper
    upper_next = sum_next Up h.above (running_of x) (h.c Up) low high ready.upper e.above

    lower_next : Stands (w + 1) y.lower (next s medium side (running_of x) r).lower
    lower_next = sum_next Down h.below (running_of x) (h.c Down) low high ready.lower e.below

    pub next_ready : SideReady (w + 1) y
    next_ready = record { lower = stands_own lower_next; upper = stands_own upper_next }

    pub next_is : running_of y ≡ next s medium side (running_of x) r
    next_is = rw (lower_next.is, upper_next.is, e.some, has_pathway_lem)
