-- A list whose records are replaced one by one by others that pass the same tests and add the same shares has the same answer. Assumes nothing.
use mathlib.Core.Path.{◌≡◌, ap, ◌∙◌}
use mathlib.Core.Bool.{Bool, true, cond, ◌||◌}
use mathlib.Core.List.{List, [], ◌∷◌, map}
use Prim.Native.Nat.{ℕ, ◌+◌}
use lib.Dec.{leb}
use lib.ListN.{length, length-map}
use Rattle.rounding.specs.declared.Direction.{Direction}
use Rattle.rounding.specs.declared.Direction.TheVariants.{Down, Up}
use Rattle.decimal.specs.Decimal.{mul_of, add_of}
use Rattle.outcome.specs.declared.Refusal.TheVariants.{Field, Order}
use Rattle.outcome.specs.Outcome.{refused, passing}
use Rattle.inputs.specs.declared.Scenario.{Scenario}
use Rattle.inputs.specs.declared.Contaminant.{Contaminant}
use Rattle.inputs.specs.declared.earlier.Earlier.{Earlier}
use Rattle.inputs.specs.Earlier.{none_before, before_next}
use Rattle.inputs.specs.Rules.{contaminant_fits}
use Rattle.inputs.proofs.Tests.{and_split}
use Rattle.formulas.specs.Side.{Side, Risk, Hazard}
use Rattle.guideline_rules.specs.Alike.{Alike}
use Rattle.guideline_rules.specs.Pathway.{record_refusal}
use Rattle.sum_rules.specs.EachPasses.{each_passes}
use Rattle.sum_rules.specs.Share.{Running, start, next, term_sum, used_of, share_of}
use Rattle.sum_rules.specs.ListCall.{accepted, first_refusal, walk, sums_of}

-- the record q of the scenario u stands for the record r of s
pub record SameRecord (u s : Scenario) (medium : ℕ) (q r : Contaminant) : Type 0 where
  pub fits : contaminant_fits q ≡ contaminant_fits r
  pub id : q.id ≡ r.id
  pub behind : (before : Earlier) → before_next before q ≡ before_next before r
  pub refusal : (before : Earlier) → record_refusal u medium before q ≡ record_refusal s medium before r
  pub step : (side : Side) (t : Running) → next u medium side t q ≡ next s medium side t r

-- as it does where nothing that differs between them is looked at
pub same_record : {medium : ℕ} (u s : Scenario) (q r : Contaminant) → Alike medium u q s r → contaminant_fits q ≡ contaminant_fits r → q.id ≡ r.id →
    ((before : Earlier) → before_next before q ≡ before_next before r) → ((dir : Direction) → used_of q dir ≡ used_of r dir) → SameRecord u s medium q r
unfolding share_of term_sum
same_record u s q r a fits id behind used = record {
  fits = fits;
  id = id;
  behind = behind;
  refusal = a.refusal;
  step = λ side t i. record {
    lower = add_of t.lower (mul_of (used Down i) (a.total Down side i) Down) Down;
    upper = add_of t.upper (mul_of (used Up i) (a.total Up side i) Up) Up;
    any = t.any || a.pathway side i;
  };
}

-- where each record does that passes a test
module _ (u s : Scenario) (medium : ℕ) (g : Contaminant → Contaminant) (test : Contaminant → Bool)
    (each : (r : Contaminant) → test r ≡ true → SameRecord u s medium (g r) r)
    (same : (x y : Running) → accepted u x y ≡ accepted s x y) where
  walk_mapped : (rs : List Contaminant) (n : ℕ) (before : Earlier) (x y : Running) → each_passes test rs ≡ true →
      walk u medium (map g rs) n before x y ≡ walk s medium rs n before x y
  unfolding walk
  walk_mapped [] n before x y z = same x y
  walk_mapped (r ∷ rs) n before x y z =
      let p = and_split (test r) _ z in
      let k = each r p.0 in
      let rest =
      (λ i. walk u medium (map g rs) (n + 1) (k.behind before i) (k.step Risk x i) (k.step Hazard y i)) ∙
      walk_mapped rs (n + 1) (before_next before r) (next s medium Risk x r) (next s medium Hazard y r) p.1 in
      λ i. cond (k.fits i) (cond (leb (k.id i) before.id) (refused Order n) (passing (k.refusal before i) n (rest i))) (refused Field n)

  pub sums_mapped : ((n : ℕ) → first_refusal u medium n ≡ first_refusal s medium n) → (rs : List Contaminant) → each_passes test rs ≡ true →
      sums_of u medium (map g rs) ≡ sums_of s medium rs
  unfolding sums_of
  sums_mapped first rs z =
      ap (λ (k : ℕ). passing (first_refusal u medium k) 0 (walk u medium (map g rs) 1 none_before start start)) (length-map rs g) ∙
      (λ i. passing (first (length rs) i) 0 (walk_mapped rs 1 none_before start start z i))
