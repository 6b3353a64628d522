-- What the readers answer once each test has gone one way or the other. Assumes nothing.
use Rattle.std.specs.Prelude.{Ok, Err}
use mathlib.Core.Path.{◌≡◌, sym, ap, ap₂, ◌∙◌}
use mathlib.Core.List.{List}
use mathlib.Core.Bool.{Bool, true, false, ◌&&◌}
use Prim.Native.Nat.{ℕ, ◌+◌, ◌-◌}
use native.Mathlib.Omega.{arith}
use lib.ListN.{length, take, drop}
use lib.Dec.{eqb, leb}
use Rattle.outcome.specs.declared.Refusal.TheVariants.{Length, Check, Kind, Field, Count, Factor, Order}
use Rattle.words.specs.Words.{word_at, part_of}
use Rattle.words.proofs.Parts.{word_first}
use Rattle.inputs.specs.declared.Contaminant.{Contaminant}
use Rattle.inputs.specs.Kinds.{is_header_kind, inhalation_of}
use Rattle.inputs.specs.Inputs.{contaminant_of}
use Rattle.inputs.specs.Rules.{scenario_fits, contaminant_fits, lacks_factor}
use Rattle.block_rules.specs.declared.Header.{Header}
use Rattle.block_rules.specs.Rules.{count_ok}
use Rattle.block_rules.specs.Reading.{header_in, inhalation_in, is_contaminant_kind, scenario_at, header_at, header_unused, contaminant_at, contaminant_unused, sound_at, header_read, contaminant_read}
use Rattle.blocks.proofs.Parts.{inner, inner_first, whole, contaminant_part, contaminant_unused_part, header_part, header_unused_part}

-- the first three tests are passed, the third by a block of such a kind
pub record Passed (b : List ℕ) (place : ℕ) (is_kind : ℕ → Bool) : Type 0 where
  pub long : eqb (length b) 512 ≡ true
  pub sound : sound_at b place ≡ true
  pub first : is_kind (word_at b 0) ≡ true

-- what was found out by reading the site at `at` holds of its block there
module _ (s : List ℕ) (at : ℕ) where
  pub sound_here : (place : ℕ) (t : Bool) → t ≡ sound_at (take (at + 512 - at) (drop at s)) place → sound_at (part_of s at 512) place ≡ t
  sound_here place t e = ap (λ (p : List ℕ). sound_at p place) (sym (whole s at)) ∙ sym e

  pub kind_here : (is_kind : ℕ → Bool) (w : ℕ) (t : Bool) → w ≡ word_at s at → is_kind w ≡ t → is_kind (word_at (part_of s at 512) 0) ≡ t
  kind_here is_kind w t e h = ap is_kind (word_first s at 512 (omega arith) ∙ sym e) ∙ h

  -- a whole block that is sound and of this kind
  pub passed_here : {place w : ℕ} (is_kind : ℕ → Bool) {t u : Bool} → t ≡ eqb (length (part_of s at 512)) 512 → t ≡ true
      → u ≡ sound_at (take (at + 512 - at) (drop at s)) place → u ≡ true → w ≡ word_at s at → is_kind w ≡ true → Passed (part_of s at 512) place is_kind
  passed_here {place} {w} is_kind {t} {u} long n sound m word k = record {
    long = sym long ∙ n;
    sound = sound_here place u sound ∙ m;
    first = kind_here is_kind w true word k;
  }

  pub contaminant_here : (r : Contaminant) → r ≡ contaminant_at (take (at + 508 - (at + 4)) (drop (at + 4) s)) 4 → r ≡ contaminant_at (part_of s at 512) 8
  contaminant_here r e = e ∙ ap (λ (p : List ℕ). contaminant_at p 4) (inner s at) ∙ contaminant_part (part_of s at 512)

  pub contaminant_fields_here : (r : Contaminant) (t x y : Bool) → t ≡ x && y → x ≡ contaminant_fits r → y ≡ contaminant_unused (take (at + 508 - (at + 4)) (drop (at + 4) s)) 4
      → t ≡ contaminant_fits r && contaminant_unused (part_of s at 512) 8
  contaminant_fields_here r t x y e f g =
      e ∙ ap₂ (λ (u v : Bool). u && v) f (g ∙ ap (λ (p : List ℕ). contaminant_unused p 4) (inner s at) ∙ contaminant_unused_part (part_of s at 512))

module _ (s : List ℕ) where
  -- its kind, the first word, tells how inhalation is worked out
  pub header_here : (h : Header) {w : ℕ} → w ≡ word_at s 0 → h ≡ header_at (inhalation_of w) (take 504 (drop 4 s)) 4 →
      h ≡ header_in (part_of s 0 512)
  header_here h {w} k e =
      e ∙ ap (λ (p : List ℕ). header_at (inhalation_of w) p 4) (inner_first s) ∙ header_part (part_of s 0 512) (inhalation_of w) ∙
      ap (λ (n : ℕ). header_at (inhalation_of n) (part_of s 0 512) 8) (k ∙ sym (word_first s 0 512 (omega arith)))

  pub header_fields_here : (h : Header) (t x y : Bool) → t ≡ x && y → x ≡ scenario_fits h.scenario h.medium → y ≡ header_unused (take 504 (drop 4 s)) 4
      → t ≡ scenario_fits h.scenario h.medium && header_unused (part_of s 0 512) 8
  header_fields_here h t x y e f g =
      e ∙ ap₂ (λ (u v : Bool). u && v) f (g ∙ ap (λ (p : List ℕ). header_unused p 4) (inner_first s) ∙ header_unused_part (part_of s 0 512))

-- ---- a contaminant
module _ (b : List ℕ) (place previous : ℕ) where
  pub contaminant_short : eqb (length b) 512 ≡ false → Err Length ≡ contaminant_read b place previous
  unfolding contaminant_read
  contaminant_short n = simp n

  pub contaminant_check : eqb (length b) 512 ≡ true → sound_at b place ≡ false → Err Check ≡ contaminant_read b place previous
  unfolding contaminant_read
  contaminant_check n s = simp (n, s)

  pub contaminant_kind : eqb (length b) 512 ≡ true → sound_at b place ≡ true → is_contaminant_kind (word_at b 0) ≡ false → Err Kind ≡ contaminant_read b place previous
  unfolding contaminant_read
  contaminant_kind n s k = simp (n, s, k)

  module _ (p : Passed b place is_contaminant_kind) (r : Contaminant) (is : r ≡ contaminant_at b 8) where
    pub contaminant_field : contaminant_fits r && contaminant_unused b 8 ≡ false → Err Field ≡ contaminant_read b place previous
    unfolding contaminant_read
    contaminant_field h = let f = rw is at h in simp (p.long, p.sound, p.first, f)

    id_is : (t : Bool) → leb r.id previous ≡ t → leb (word_at b 12) previous ≡ t
    unfolding contaminant_at contaminant_of
    id_is t h = ap (λ (x : Contaminant). leb x.id previous) (sym is) ∙ h

    pub contaminant_order : contaminant_fits r && contaminant_unused b 8 ≡ true → leb r.id previous ≡ true → Err Order ≡ contaminant_read b place previous
    unfolding contaminant_read
    contaminant_order h i = let f = rw is at h in let o = id_is true i in simp (p.long, p.sound, p.first, f, o)

    pub contaminant_found : contaminant_fits r && contaminant_unused b 8 ≡ true → leb r.id previous ≡ false → Ok r ≡ contaminant_read b place previous
    unfolding contaminant_read
    contaminant_found h i = let f = rw is at h in let o = id_is false i in ap Ok is ∙ simp (p.long, p.sound, p.first, f, o)

-- ---- a header
module _ (b : List ℕ) (blocks : ℕ) where
  pub header_short : eqb (length b) 512 ≡ false → Err Length ≡ header_read b blocks
  unfolding header_read
  header_short n = simp n

  pub header_check : eqb (length b) 512 ≡ true → sound_at b 0 ≡ false → Err Check ≡ header_read b blocks
  unfolding header_read
  header_check n s = simp (n, s)

  pub header_wrong_kind : eqb (length b) 512 ≡ true → sound_at b 0 ≡ true → is_header_kind (word_at b 0) ≡ false → Err Kind ≡ header_read b blocks
  unfolding header_read
  header_wrong_kind n s k = simp (n, s, k)

  module _ (p : Passed b 0 is_header_kind) (h : Header) (is : h ≡ header_in b) where
    fields_are : (t : Bool) → scenario_fits h.scenario h.medium && header_unused b 8 ≡ t → scenario_fits (scenario_at (inhalation_in b) b 16) (word_at b 8) && header_unused b 8 ≡ t
    unfolding header_at
    fields_are t e = ap (λ (x : Header). scenario_fits x.scenario x.medium && header_unused b 8) (sym is) ∙ e

    pub header_field : scenario_fits h.scenario h.medium && header_unused b 8 ≡ false → Err Field ≡ header_read b blocks
    unfolding header_read
    header_field v = let f = fields_are false v in simp (p.long, p.sound, p.first, f)

    count_is : (t : Bool) → count_ok h.count blocks ≡ t → count_ok (word_at b 12) blocks ≡ t
    unfolding header_at
    count_is t e = ap (λ (x : Header). count_ok x.count blocks) (sym is) ∙ e

    factors_are : (t : Bool) → lacks_factor h.scenario ≡ t → lacks_factor (scenario_at (inhalation_in b) b 16) ≡ t
    unfolding header_at
    factors_are t e = ap (λ (x : Header). lacks_factor x.scenario) (sym is) ∙ e

    module _ (v : scenario_fits h.scenario h.medium && header_unused b 8 ≡ true) where
      pub header_count : count_ok h.count blocks ≡ false → Err Count ≡ header_read b blocks
      unfolding header_read
      header_count n = let f = fields_are true v in let k = count_is false n in simp (p.long, p.sound, p.first, f, k)

      pub header_factor : count_ok h.count blocks ≡ true → lacks_factor h.scenario ≡ true → Err Factor ≡ header_read b blocks
      unfolding header_read
      header_factor n m = let f = fields_are true v in let k = count_is true n in let x = factors_are true m in simp (p.long, p.sound, p.first, f, k, x)

      pub header_found : count_ok h.count blocks ≡ true → lacks_factor h.scenario ≡ false → Ok h ≡ header_read b blocks
      unfolding header_read
      header_found n m = let f = fields_are true v in let k = count_is true n in let x = factors_are false m in ap Ok is ∙ simp (p.long, p.sound, p.first, f, k, x)
