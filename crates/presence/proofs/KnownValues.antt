-- A pathway is there exactly when the decimals that it names are known as given. Assumes nothing.
use mathlib.Core.Path.{◌≡◌, refl, sym, ap, ap₂, ◌∙◌}
use mathlib.Core.Bool.{Bool, true, false, not, ◌&&◌, ◌||◌, and-true, or-false, and_assoc, and_comm, or_assoc, or_comm, and-or_distrib_left, and-or_distrib_right}
use mathlib.Core.List.{List, [], ◌∷◌, ◌++◌, map, map-append}
use Prim.Native.Nat.{ℕ}
use native.Mathlib.Omega.{arith}
use lib.Dec.{lit≤}
use lib.ListN.{length-map, get_or-map}
use borrow.Author.Tests.{not-false}
use Rattle.rounding.specs.declared.Direction.TheVariants.{Up}
use Rattle.decimal.specs.declared.Decimal.{Decimal}
use Rattle.decimal.specs.Fraction.{Fraction}
use Rattle.decimal.specs.Decimal.{zero_of, working_of}
use Rattle.decimal.proofs.Approximation.{fair_zero, given_zero, working_fair}
use Rattle.decimal.proofs.Ranges.{covers}
use Rattle.inputs.specs.declared.kind.Inhalation.{Inhalation}
use Rattle.inputs.specs.declared.kind.Inhalation.TheVariants.{Intake, Concentration}
use Rattle.inputs.specs.declared.Scenario.{Scenario}
use Rattle.inputs.specs.declared.Contaminant.{Contaminant}
use Rattle.inputs.specs.Valid.{valid_of, all_valid}
use Rattle.inputs.proofs.Tests.{and_split, valid_small}
use Rattle.formulas.specs.Limits.{part_roundings, part_range}
use Rattle.formulas.specs.Side.{Side, Risk, Hazard}
use Rattle.formulas.specs.Formula.{Formula, table, pathways_of, derived}
use Rattle.formulas.specs.Term.{known, present_of, term_of, total_of, inputs_of, plain_values, values_of, formulas_for, values_for}
use Rattle.formulas.specs.ExactTerm.{exact_plain}
use Rattle.formulas.proofs.Sound.{Every, derived_every}
use Rattle.formulas.proofs.Sound.Every.{end, next}
use Rattle.formulas.proofs.TermBounds.{Represents, total_fair, total_present}
use Rattle.formulas.proofs.ValueBounds.{plain_stand}
use Rattle.guideline_rules.proofs.Accepted.{Accepted, inputs_valid, accepted_inputs}
use Rattle.guideline_rules.specs.Pathway.{any_pathway, has_pathway, either_side}
use Rattle.guideline_rules.proofs.WorkedOut.{any_same}
use Rattle.presence.specs.Presence.{known_of, on_skin, known_inputs, not_yet, known_values, all_known, some_known, either_known, Needed, chemical_of}
use Rattle.inputs.specs.Rules.{lacks_factor, Checked}

-- ---- the working form of an input is zero exactly when its m is
working_known : (l : List Decimal) → all_valid l ≡ true → map known_of (map working_of l) ≡ map known_of l
working_known [] v = refl
working_known (d ∷ ds) v =
    let a = and_split (valid_of d) (all_valid ds) v in
    let k = valid_small d a.0 in
    rw (fair_zero (working_fair Up d k.digits k.low k.high), given_zero d, working_known ds a.1)

-- ---- the tests of the definitions, over what is known of each name
known_is : (vs : List Decimal) (ns : List ℕ) → known vs ns ≡ all_known (map known_of vs) ns
known_is vs [] = refl
known_is vs (n ∷ ns) = rw (get_or-map known_of vs n zero_of, known_is vs ns)

any_known : (vs : List Decimal) (fs : List Formula) → any_pathway vs fs ≡ some_known (map known_of vs) fs
unfolding present_of
any_known vs [] = refl
any_known vs (f ∷ fs) = rw (known_is vs f.before, known_is vs f.after, any_known vs fs)

-- ---- a chemical by its doses, as the code has it, and by side and pathway, as the table has it
and_left_comm : (a b c : Bool) → a && (b && c) ≡ b && (a && c)
and_left_comm a b c = sym (and_assoc a b c) ∙ ap (λ (t : Bool). t && c) (and_comm a b) ∙ and_assoc b a c

or_left_comm : (a b c : Bool) → a || (b || c) ≡ b || (a || c)
or_left_comm a b c = sym (or_assoc a b c) ∙ ap (λ (t : Bool). t || c) (or_comm a b) ∙ or_assoc b a c

ruleset sorted = (and-or_distrib_left, and-or_distrib_right, and_assoc, and_comm, and_left_comm, or_assoc, or_comm, or_left_comm)

module _ (sfo sfi rfdo rfdi : Bool) where
  three_ways : (a b c : Bool) → (a || c) && (sfo || rfdo) || b && (sfi || rfdi) ≡ (sfo && a || (sfi && b || sfo && c)) || (a && rfdo || (b && rfdi || c && rfdo))
  three_ways a b c = simp sorted

-- ---- a factor that is worked out is known exactly when one of its parts is
module _ (vs : List Decimal) (qs : List Fraction) (r : Represents Up vs qs) where
  parts_known : (fss : List (List Formula)) → Every part_roundings part_range fss → map known_of (map (total_of vs Up) fss) ≡ map (some_known (map known_of vs)) fss
  parts_known [] end = refl
  parts_known (fs ∷ fss) (next s short e) =
      let n = length-map fs (term_of vs Up) in
      let total = total_fair Up vs qs r {K = part_roundings} {W = part_range} (covers refl) fs s (record { low = lit≤ tt; high = omega (arith, short, n) }) in
      ap₂ (λ (k : Bool) (ks : List Bool). k ∷ ks)
      (ap not (fair_zero total) ∙ total_present Up vs qs r {K = part_roundings} {W = part_range} (covers refl) fs s ∙ sym (any_same vs qs r fs) ∙ any_known vs fs)
      (parts_known fss e)

-- ---- what the code tests is what the table asks, where the factors that every term names are known
module _ (s : Scenario) (r : Contaminant) (h : Needed s) where
  abbrev air : Bool
  air = known_of r.transfer.vf || known_of s.contact.pef

  -- as the table has it, and as the code
  abbrev skin : Bool
  skin = known_of s.contact.sa && (known_of r.transfer.pc && known_of s.contact.et)

  abbrev wet : Bool
  wet = (known_of s.contact.sa && known_of r.transfer.pc) && known_of s.contact.et

  pub soil_chemical_lem : (i : Inhalation) → chemical_of i s r (known_of s.contact.ir || on_skin s r) air ≡ either_known i s r 1 1
  unfolding known_values derived pathways_of table
  soil_chemical_lem Intake =
      let x = r.toxicity in
      rw (h.ef, h.ed, h.bw, h.at)
      (simp (and-true, or-false)
      (three_ways (known_of x.sfo) (known_of x.sfi) (known_of x.rfdo) (known_of x.rfdi) (known_of s.contact.ir) (known_of s.contact.ira && air) (on_skin s r)))
  soil_chemical_lem Concentration =
      let x = r.toxicity in
      rw (h.ef, h.ed, h.bw, h.at)
      (simp (and-true, or-false)
      (three_ways (known_of x.sfo) (known_of r.in_air.u) (known_of x.rfdo) (known_of r.in_air.q) (known_of s.contact.ir) (air && known_of s.air_hours) (on_skin s r)))

  abbrev ingested : Bool
  ingested = known_of r.toxicity.sfo && known_of s.contact.ir

  pub soil_radionuclide_lem : (i : Inhalation) → (ingested || known_of r.toxicity.sfi && (known_of s.contact.ira && known_of s.contact.pef)) ||
      (known_of r.toxicity.sfx && known_of s.contact.et) && known_of s.contact.rf ≡ either_known i s r 1 2
  unfolding known_values derived pathways_of table
  soil_radionuclide_lem i = rw (h.ef, h.ed) (simp (and-true, or-false, and_assoc, or_assoc))

  pub water_chemical_lem : (i : Inhalation) → chemical_of i s r (known_of s.contact.ir || wet) true ≡ either_known i s r 2 1
  unfolding known_values derived pathways_of table
  water_chemical_lem Intake =
      let x = r.toxicity in
      rw (and_assoc (known_of s.contact.sa) (known_of r.transfer.pc) (known_of s.contact.et), h.ef, h.ed, h.bw, h.at)
      (simp (and-true, or-false)
      (three_ways (known_of x.sfo) (known_of x.sfi) (known_of x.rfdo) (known_of x.rfdi) (known_of s.contact.ir) (known_of s.contact.ira) skin))
  water_chemical_lem Concentration =
      let x = r.toxicity in
      rw (and_assoc (known_of s.contact.sa) (known_of r.transfer.pc) (known_of s.contact.et), h.ef, h.ed, h.bw, h.at)
      (simp (and-true, or-false)
      (three_ways (known_of x.sfo) (known_of r.in_air.u) (known_of x.rfdo) (known_of r.in_air.q) (known_of s.contact.ir) (known_of s.air_hours) skin))

  pub water_radionuclide_lem : (i : Inhalation) → ingested ≡ either_known i s r 2 2
  unfolding known_values derived pathways_of table
  water_radionuclide_lem i = rw (h.ef, h.ed) (simp (and-true, or-false))

-- ---- tritium in water: as the code has it, and as the table
module _ (s : Scenario) (r : Contaminant) (h : Needed s) where
  abbrev shower : Bool
  shower =
      let x = s.house in
      ((known_of x.f && known_of x.n) && (known_of x.s && known_of x.v)) && (known_of x.l && known_of x.w)

  abbrev hours : Bool
  hours = known_of s.contact.et || shower

  abbrev oral : Bool
  oral = known_of r.toxicity.sfo && known_of s.contact.ir

  abbrev inhaled : Bool
  inhaled = ((known_of r.toxicity.sfi && known_of s.contact.ira) && known_of s.house.m) && hours

  abbrev through_skin : Bool
  through_skin = ((known_of r.toxicity.sfo && known_of s.contact.sa) && known_of s.house.k) && known_of s.contact.et

  pub water_tritium_lem : (i : Inhalation) → (oral || inhaled) || through_skin ≡ either_known i s r 2 3
  unfolding known_values derived pathways_of table
  water_tritium_lem i = rw (h.ef, h.ed) (simp (and-true, or-false, and_assoc, or_assoc))

-- ---- inputs that keep their rules
pub needed : (s : Scenario) → lacks_factor s ≡ false → Needed s
needed s h =
    let a = and_split (known_of s.exposure.ef) _ (not-false _ h) in
    let b = and_split (known_of s.exposure.ed) _ a.1 in
    let c = and_split (known_of s.exposure.bw) _ b.1 in
    let d = and_split (known_of s.exposure.at) _ c.1 in
    record { ef = a.0; ed = b.0; bw = c.0; at = d.0 }

module _ {s : Scenario} {medium : ℕ} {r : Contaminant} (h : Checked s medium r) where
  pub checked_inputs : Accepted s medium r
  checked_inputs = accepted_inputs s medium r h.scenario h.factors h.contaminant

  abbrev l : List Decimal
  l = inputs_of s r

  valid : all_valid l ≡ true
  valid = inputs_valid s r checked_inputs.scenario checked_inputs.contaminant

  plain_known : map known_of (plain_values l) ≡ not_yet ++ known_inputs s.inhalation s r
  unfolding derived
  plain_known = ap (λ (ks : List Bool). not_yet ++ ks) (working_known l valid)

  values_known : map known_of (values_for Up s r) ≡ known_values s.inhalation s r
  unfolding values_of known_values
  values_known =
      map-append known_of (map (total_of (plain_values l) Up) derived) (map working_of l) ∙
      ap₂ (λ (x y : List Bool). x ++ y)
      (parts_known (plain_values l) (exact_plain l) (plain_stand Up l valid) derived derived_every ∙ ap (λ (ks : List Bool). map (some_known ks) derived) plain_known)
      (working_known l valid)

  pub side_known : (side : Side) → has_pathway s medium r side ≡ some_known (known_values s.inhalation s r) (formulas_for s medium r side)
  unfolding has_pathway
  side_known side = any_known (values_for Up s r) (formulas_for s medium r side) ∙ ap (λ (ks : List Bool). some_known ks (formulas_for s medium r side)) values_known

  -- the answer for the medium and the class is that of the definitions
  pub pathway_is : {m k : ℕ} {b : Bool} → medium ≡ m → r.class ≡ k → b ≡ either_known s.inhalation s r m k → b ≡ either_side s medium r
  pathway_is e g q = q ∙ rw (← e, ← g, side_known Risk, side_known Hazard)
