-- `terms::pathways::on_skin`: without ABS or without G the pathway is absent, and its terms are zero.
use Rattle.std.proofs.Common.{ℕ, ap, ◌≡◌, Bool, true, false, refl, sym, ◌∙◌}
use mathlib.Core.Bool.{◌||◌, false≢true}
use mathlib.Core.List.{List}
use lib.ListN.{get_or, length}
use Prim.Native.Nat.{◌<◌}
use Rattle.decimal.specs.Decimal.{zero_of}
use Rattle.formulas.proofs.Presence.{zero_factor}
use Rattle.formulas.specs.Formula.{Formula}
use Rattle.decimal.proofs.Laws.{decimal_zero}
use lib.Dec.{eqb, lit≤, lit<}
use borrow.Author.Tests.{eqb-true}
use Rattle.rounding.specs.declared.Direction.{Direction}
use Rattle.decimal.specs.declared.Decimal.{Decimal}
use Rattle.inputs.specs.declared.kind.Medium.TheVariants.{Soil}
use Rattle.inputs.specs.Kinds.{medium_number}
use Rattle.formulas.specs.Side.{Risk, Hazard}
use Rattle.formulas.specs.Formula.{G, ABS, none, table, pathways_of, derived}
use Rattle.formulas.specs.Term.{look, term_of}
use Rattle.factors.specs.declared.numbers.Factors.{Factors}
use Rattle.factors.specs.declared.numbers.ContaminantNumbers.{ContaminantNumbers}
use Rattle.factors.specs.declared.prepared.Prepared.{Prepared}
use Rattle.factors.specs.Stands.{Stands}
use Rattle.factors.specs.Widths.{formula_width}
use Rattle.terms.specs.Side.{number_values, Ready}
use Rattle.factors.proofs.StandsLaws.{no_number, zero_stands, stands_is, stands_most}
use Rattle.terms.proofs.NumberValues.{ages_stand}
use Rattle.terms.proofs.pathways.on_skin.Goals as goal

-- ---- without ABS, or without G, which the code sees by its numbers
module _ {dir : Direction} {medium : ℕ} {f : Factors} {p : Prepared} {t : ContaminantNumbers} (ready : Ready dir medium f p t) (soil : medium ≡ medium_number Soil) where
  abs_zero : eqb t.abs.m 0 ≡ true → eqb (look (number_values dir f t) ABS).m 0 ≡ true
  unfolding number_values derived
  abs_zero h = ap (λ (d : Decimal). eqb d.m 0) (decimal_zero t.abs (eqb-true t.abs.m 0 h))

  ages_zero : eqb p.both_ages.m 0 ≡ true → eqb (look (number_values dir f t) G).m 0 ≡ true
  ages_zero h = ap (λ (d : Decimal). eqb d.m 0) (sym (ages_stand ready soil).is ∙ decimal_zero p.both_ages (eqb-true p.both_ages.m 0 h))

  zero_term : (g : Formula) (i j : ℕ) → i < length g.before → get_or g.before i 0 ≡ ABS → j < length g.before → get_or g.before j 0 ≡ G →
      eqb t.abs.m 0 || eqb p.both_ages.m 0 ≡ true → Stands formula_width no_number (term_of (number_values dir f t) dir g)
  zero_term g i j k abs l ages = cases (eqb t.abs.m 0) (eqb p.both_ages.m 0) refl refl
    where
      vs : List Decimal
      vs = number_values dir f t

      none : term_of vs dir g ≡ zero_of → Stands formula_width no_number (term_of vs dir g)
      none e = stands_is (sym e) (stands_most (lit≤ tt) zero_stands)

      cases : (a b : Bool) → eqb t.abs.m 0 ≡ a → eqb p.both_ages.m 0 ≡ b → a || b ≡ true → Stands formula_width no_number (term_of vs dir g)
      cases true b e h o = none (zero_factor vs dir g i k (ap (λ (n : ℕ). eqb (look vs n).m 0) abs ∙ abs_zero e))
      cases false true e h o = none (zero_factor vs dir g j l (ap (λ (n : ℕ). eqb (look vs n).m 0) ages ∙ ages_zero h))
      cases false false e h o = absurd (false≢true o)

pub returns-then-t-p : goal.returns-then-t-p
unfolding pathways_of table
returns-then-t-p c =
    let absent = zero_term c.requires refl in
    record {
      risk = λ i. absent (get_or (pathways_of i 1 1 Risk) 2 none) 1 4 (lit< tt) refl (lit< tt) refl c.if-t-p.true;
      hazard = λ i. absent (get_or (pathways_of i 1 1 Hazard) 2 none) 0 3 (lit< tt) refl (lit< tt) refl c.if-t-p.true;
    }
