-- Numbers that stand for decimals: multiplied, divided and added they stand for the rounded results. Assumes nothing.
use mathlib.Core.Path.{◌≡◌, refl, sym, ap, ap₂, subst, subst₂, ◌∙◌}
use mathlib.Core.Bool.{true}
use mathlib.Core.List.{List, [], ◌∷◌, ◌++◌, map}
use mathlib.Core.Logic.{inl, inr}
use Prim.Native.Nat.{ℕ, zero, suc, ◌+◌, ◌-◌, ◌≤◌, ◌<◌}
use native.Mathlib.Omega.{arith}
use lib.Dec.{lit<, lit≤}
use lib.ListN.{get_or, length}
use Rattle.std.specs.Array.{list_steps}
use Rattle.std.specs.Iterator.{Yields}
use Rattle.std.specs.declared.option.Option.TheVariants.{Some}
use Rattle.rounding.specs.Sizes.{bias}
use borrow.Author.Tests.{eq-eqb}
use Rattle.rounding.specs.declared.Direction.{Direction}
use Rattle.rounding.specs.declared.Direction.TheVariants.{Up}
use Rattle.rounding.specs.declared.Number.{Number}
use Rattle.rounding.specs.Number.{Working}
use Rattle.rounding.specs.Operations.{product_of, quotient_of, sum_of}
use Rattle.rounding.specs.WorkingForm.{nine_of}
use Rattle.rounding.proofs.ExactResults.{product_rounds, quotient_zero, quotient_rounds, sum_rounds}
use Rattle.rounding.proofs.Exponents.{product_result, quotient_result, sum_result}
use Rattle.rounding.proofs.NineDigits.{nine_result}
use Rattle.factors.specs.Widths.{input_width, middle_width}
use Rattle.decimal.specs.declared.Decimal.{Decimal}
use Rattle.decimal.specs.Range.{ends}
use Rattle.decimal.specs.Decimal.{zero_of, biased_of, decimal_of, mul_of, div_of, add_of, working_of}
use Rattle.decimal.proofs.OperandFacts.{Operand}
use Rattle.decimal.proofs.Laws.{decimal_zero, working_is, nine_working}
use Rattle.decimal.proofs.CoreOperations.{mul_core, div_core, add_core}
use Rattle.decimal.proofs.Approximation.{Sized, sized_of, fair_zero, working_fair, given_zero}
use Rattle.inputs.specs.declared.kind.Inhalation.{Inhalation}
use Rattle.inputs.specs.declared.kind.Inhalation.TheVariants.{Intake}
use Rattle.inputs.specs.declared.Scenario.{Scenario}
use Rattle.inputs.specs.declared.groups.AirToxicity.{AirToxicity}
use Rattle.inputs.specs.Inputs.{air_decimals, toxicity_in_air}
use Rattle.inputs.specs.Valid.{valid_of, all_valid}
use Rattle.inputs.proofs.Tests.{and_split, valid_small}
use Rattle.factors.specs.declared.numbers.Factors.{Factors}
use Rattle.factors.specs.Stands.{Stands, StandAll, FactorsFor, Inputs}
use Rattle.factors.specs.Stands.StandAll.{end, next}
use Rattle.factors.specs.Prepared.{Middle}
use Rattle.decimal.proofs.Value.{Value, absent, known, value_zero}

-- ---- what a number that stands for a decimal can be used for
pub stands_operand : {w : ℕ} {r : Number} {d : Decimal} → w ≤ 990 → Stands w r d → Operand r
stands_operand h s = record { working = s.working; range = record { most = s.most; low = omega (arith, s.low); high = omega (arith, s.high) } }

pub stands_middle : {w : ℕ} {r : Number} {d : Decimal} → w ≤ middle_width → Stands w r d → Middle r
stands_middle h s = record { most = s.most; low = omega (arith, s.low); high = omega (arith, s.high) }

pub stands_most : {v w : ℕ} {r : Number} {d : Decimal} → v ≤ w → Stands v r d → Stands w r d
stands_most h s = record { is = s.is; working = s.working; most = s.most; low = omega (arith, s.low); high = omega (arith, s.high) }

-- another name of the same decimal
pub stands_is : {w : ℕ} {r : Number} {d e : Decimal} → d ≡ e → Stands w r d → Stands w r e
stands_is p s = record { is = s.is ∙ p; working = s.working; most = s.most; low = s.low; high = s.high }

-- every number that stands for a decimal stands for its own
pub stands_own : {w : ℕ} {r : Number} {d : Decimal} → Stands w r d → Stands w r (decimal_of r)
stands_own s = record { is = refl; working = s.working; most = s.most; low = s.low; high = s.high }

-- ---- the three operations
two_decimals : (op : Decimal → Decimal → Decimal) (p q : Number) {a b : Decimal} → decimal_of p ≡ a → decimal_of q ≡ b → op (decimal_of p) (decimal_of q) ≡ op a b
two_decimals op p q {a} {b} e f = ap (λ (d : Decimal). op d (decimal_of q)) e ∙ ap (λ (d : Decimal). op a d) f

divided : (dir : Direction) (p q : Number) → Operand p → Operand q → Working q → Working (quotient_of dir p q)
divided dir p q o u (inl z) = inl (quotient_zero dir p q o.range u.range z)
divided dir p q o u (inr n) = (quotient_rounds dir p q o.range u.range o.working n).working

module _ (dir : Direction) {v w : ℕ} {p q r : Number} {a b : Decimal} (s : Stands v p a) (t : Stands w q b) where
  pub stands_mul : v + w ≤ 980 → r ≡ product_of dir p q → Stands (v + w + 1) r (mul_of a b dir)
  stands_mul h e =
      let o = stands_operand (omega arith) s in
      let u = stands_operand (omega arith) t in
      let x = product_result dir p q o.range u.range in
      subst (λ (n : Number). Stands (v + w + 1) n (mul_of a b dir)) (sym e)
      (record {
        is = sym (mul_core dir p q o u) ∙ two_decimals (λ d f. mul_of d f dir) p q s.is t.is;
        working = (product_rounds dir p q o.range u.range s.working t.working).working;
        most = x.most;
        low = omega (arith, x.low, s.low, t.low);
        high = omega (arith, x.high, s.high, t.high);
      })

  pub stands_div : v + w ≤ 980 → r ≡ quotient_of dir p q → Stands (v + w + 1) r (div_of a b dir)
  stands_div h e =
      let o = stands_operand (omega arith) s in
      let u = stands_operand (omega arith) t in
      let x = quotient_result dir p q o.range u.range in
      subst (λ (n : Number). Stands (v + w + 1) n (div_of a b dir)) (sym e)
      (record {
        is = sym (div_core dir p q o u) ∙ two_decimals (λ d f. div_of d f dir) p q s.is t.is;
        working = divided dir p q o u t.working;
        most = x.most;
        low = omega (arith, x.low, s.low, t.high);
        high = omega (arith, x.high, s.high, t.low);
      })

  pub stands_add : v ≤ 980 → w ≤ v → r ≡ sum_of dir p q → Stands (v + 1) r (add_of a b dir)
  stands_add h l e =
      let o = stands_operand (omega arith) s in
      let u = stands_operand (omega arith) t in
      let x = sum_result dir p q o.range u.range in
      subst (λ (n : Number). Stands (v + 1) n (add_of a b dir)) (sym e)
      (record {
        is = sym (add_core dir p q o u) ∙ two_decimals (λ d f. add_of d f dir) p q s.is t.is;
        working = (sum_rounds dir p q o.range u.range s.working t.working).working;
        most = x.most;
        low = omega (arith, x.low, s.low, t.low);
        high = omega (arith, x.high, s.high, t.high);
      })

-- three factors
pub stands_mul3 : (dir : Direction) {u v w : ℕ} {p q n r : Number} {a b c : Decimal} → Stands u p a → Stands v q b → Stands w n c → u + v + w ≤ 970 →
    r ≡ product_of dir (product_of dir p q) n → Stands (u + v + w + 2) r (mul_of (mul_of a b dir) c dir)
stands_mul3 dir {u} {v} {w} s t z h e = stands_most (omega arith) (stands_mul dir (stands_mul dir s t (omega arith) refl) z (omega arith) e)

pub stands_value : {w : ℕ} {r : Number} {d : Decimal} → w ≤ 990 → Stands w r d → Value (ends w w) d
stands_value {w} {r} {d} h s = cases s.working
  where
    cases : Working r → Value (ends w w) d
    cases (inl z) = absent (sym s.is ∙ decimal_zero r z)
    cases (inr n) = known (subst (Sized (ends w w)) s.is (sized_of (ends w w) r n s.low s.high (record { low = omega arith; high = omega arith })))

-- ---- the number of a valid decimal
pub number_stands : (d : Decimal) (r : Number) → valid_of d ≡ true → r ≡ nine_of (biased_of d) → Stands input_width r (working_of d)
number_stands d r v e =
    let k = valid_small d v in
    let n = nine_result (biased_of d) k.digits in
    subst (λ (n : Number). Stands input_width n (working_of d)) (sym e)
    (record {
      is = sym (working_is d k.digits (omega (arith, k.low)));
      working = nine_working d k.digits (omega (arith, k.low));
      most = n.most;
      low = omega (arith, n.low, k.low);
      high = omega (arith, n.high, k.high);
    })

-- ---- lists of numbers
abbrev pub no_number : Number
no_number = record { m = 0; x = bias - 8 }

pub zero_stands : Stands input_width no_number zero_of
zero_stands = record { is = refl; working = inl refl; most = lit< tt; low = lit≤ tt; high = lit≤ tt }

-- the number of a valid decimal whose m is zero
pub zero_number_stands : (d : Decimal) → valid_of d ≡ true → d.m ≡ 0 → Stands input_width no_number (working_of d)
zero_number_stands d v e =
    let k = valid_small d v in
    let z = fair_zero (working_fair Up d k.digits k.low k.high) ∙ given_zero d ∙ eq-eqb d.m 0 e in
    stands_is (sym (value_zero (stands_value (lit≤ tt) (number_stands d (nine_of (biased_of d)) v refl)) z)) zero_stands

pub stands_at : {ns : List Number} {ds : List Decimal} → StandAll ns ds → (k : ℕ) → Stands input_width (get_or ns k no_number) (get_or ds k zero_of)
stands_at end k = zero_stands
stands_at (next s ss) zero = s
stands_at (next s ss) (suc k) = stands_at ss k

pub stands_join : {ns ms : List Number} {ds es : List Decimal} → StandAll ns ds → StandAll ms es → StandAll (ns ++ ms) (ds ++ es)
stands_join end t = t
stands_join (next s ss) t = next s (stands_join ss t)

-- numbers that stand, place by place, for the working decimals
pub stands_places : (ns : List Number) (ds : List Decimal) (n : ℕ) → length ns ≡ n → length ds ≡ n
    → ((i : ℕ) → i < n → Stands input_width (get_or ns i no_number) (working_of (get_or ds i zero_of))) → StandAll ns (map working_of ds)
stands_places [] [] n a b h = end
stands_places [] (d ∷ ds) n a b h = absurd (omega (arith, a, b))
stands_places (r ∷ ns) [] n a b h = absurd (omega (arith, a, b))
stands_places (r ∷ ns) (d ∷ ds) zero a b h = absurd (omega (arith, a))
stands_places (r ∷ ns) (d ∷ ds) (suc n) a b h = next (h 0 (omega arith)) (stands_places ns ds n (omega (arith, a)) (omega (arith, b)) (λ i k. h (suc i) (omega (arith, k))))

-- each of several valid decimals is valid at its turn
pub valid_turn : (ds xs t u : List Decimal) (d : Decimal) → all_valid ds ≡ true → Yields list_steps ds xs t → list_steps t (Some d) u → valid_of d ≡ true
valid_turn ds [] t u d v y e = (and_split (valid_of d) (all_valid u) (ap all_valid (sym (y ∙ e)) ∙ v)).0
valid_turn ds (x ∷ xs) t u d v y e = valid_turn y.0 xs t u d (and_split (valid_of x) (all_valid y.0) (ap all_valid (sym y.1) ∙ v)).1 y.2 e

-- the numbers m of the decimals d, where both went through arrays
pub stands_same : {ms ns : List Number} {es ds : List Decimal} → es ≡ ds → StandAll ns (map working_of es) → ms ≡ ns → StandAll ms (map working_of ds)
stands_same d s m = subst₂ (λ (ns : List Number) (ds : List Decimal). StandAll ns (map working_of ds)) (sym m) d s

-- of U and Q, which count for nothing where inhalation is worked out by intake
pub no_air_stands : {i : Inhalation} (x : AirToxicity Decimal) → i ≡ Intake → StandAll (no_number ∷ no_number ∷ []) (map working_of (air_decimals (toxicity_in_air i x)))
unfolding valid_of
no_air_stands x e =
    let zero = zero_number_stands zero_of refl refl in
    subst (λ (i : Inhalation). StandAll (no_number ∷ no_number ∷ []) (map working_of (air_decimals (toxicity_in_air i x)))) (sym e) (next zero (next zero end))

pub all_own : {ns : List Number} {ds : List Decimal} → StandAll ns ds → Inputs ns
all_own end = end
all_own (next s ss) = next (stands_own s) (all_own ss)

pub all_same : {ns : List Number} {ds : List Decimal} → StandAll ns ds → map decimal_of ns ≡ ds
all_same end = refl
all_same (next s ss) = ap₂ ◌∷◌ s.is (all_same ss)

-- ---- the targets of a scenario
module _ (s : Scenario) (f : Factors) (h : FactorsFor s f) where
  pub risk_target : Stands input_width f.targets.tr (working_of s.targets.tr)
  risk_target = stands_at h 10

  pub hazard_target : Stands input_width f.targets.thi (working_of s.targets.thi)
  hazard_target = stands_at h 11
