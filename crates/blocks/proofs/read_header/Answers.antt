-- `blocks::read_header`: the tests in the order of the definition, each on the part that the definition names.
use Rattle.std.proofs.Common.{◌≡◌, ◌≤◌, ◌+◌, ℕ, List, Bool, true, false, length, eqb, rules, refl, sym, ap, take, drop, ◌∙◌}
use mathlib.Core.Bool.{◌&&◌}
use Rattle.words.specs.Words.{part_of}
use Rattle.inputs.specs.declared.kind.Inhalation.{Inhalation}
use Rattle.inputs.specs.Kinds.{is_header_kind}
use Rattle.inputs.specs.Rules.{scenario_fits}
use Rattle.block_rules.specs.Reading.{header_in, header_at, header_unused}
use Rattle.blocks.proofs.Parts.{block_fits}
use Rattle.blocks.proofs.Answers.{Passed, sound_here, kind_here, passed_here, header_here, header_fields_here}
use Rattle.blocks.proofs.Answers.{header_short, header_check, header_wrong_kind, header_field, header_count, header_factor, header_found}
use Rattle.blocks.proofs.read_header.Goals as goal
use Rattle.blocks.proofs.read_header.Goals.{After-header_unused, Else-not-has_block}

-- ---- what is known once there is a whole block, and once the tests of the fields are made
abbrev bytes : Else-not-has_block → List ℕ
bytes c = part_of c.args.site.now 0 512

long : (c : Else-not-has_block) → eqb (length (bytes c)) 512 ≡ true
long c = sym c.has_block.ensures ∙ c.if-not-has_block.false

room : (c : Else-not-has_block) → 0 + 512 ≤ length c.args.site.now
room c = block_fits c.args.site.now 0 (long c)

abbrev block : After-header_unused → List ℕ
block c = part_of c.args.site.now 0 512

passed : (c : After-header_unused) → Passed (block c) 0 is_header_kind
passed c =
    passed_here c.args.site.now 0 is_header_kind c.has_block.ensures c.if-not-has_block.false c.sound.ensures c.if-not-sound.false
    c.word-kind.ensures (sym c.is_header_kind.ensures ∙ c.if-not-is_header_kind.false)

is : (c : After-header_unused) → c.get_header-h.result ≡ header_in (block c)
is c =
    header_here c.args.site.now c.get_header-h.result c.word-kind.ensures
    (c.get_header-h.ensures ∙ ap (λ (i : Inhalation). header_at i (take 504 (drop 4 c.args.site.now)) 4) c.of.ensures)

fields_fit : (c : After-header_unused) (t : Bool) → c.scenario_fits.result && c.header_unused.result ≡ t
    → scenario_fits c.get_header-h.result.scenario c.get_header-h.result.medium && header_unused (block c) 8 ≡ t
fields_fit c t e =
    sym (header_fields_here c.args.site.now c.get_header-h.result _ _ _ refl c.scenario_fits.ensures c.header_unused.ensures) ∙ e

-- ---- the answers
pub returns-then-not-has_block : goal.returns-then-not-has_block
returns-then-not-has_block c = header_short (part_of c.args.site.now 0 512) c.args.blocks (sym c.has_block.ensures ∙ c.if-not-has_block.true)

pub slice_bounds-sound-end : goal.slice_bounds-sound-end
slice_bounds-sound-end c = let h = room c in search rules

pub returns-then-not-sound : goal.returns-then-not-sound
returns-then-not-sound c =
    let here = (goal.at.returns-then-not-sound c).Else-not-has_block in
    header_check (bytes here) c.args.blocks (long here) (sound_here c.args.site.now 0 0 _ c.sound.ensures ∙ c.if-not-sound.true)

pub returns-then-not-is_header_kind : goal.returns-then-not-is_header_kind
returns-then-not-is_header_kind c =
    let here = (goal.at.returns-then-not-is_header_kind c).Else-not-has_block in
    header_wrong_kind (bytes here) c.args.blocks (long here) (sound_here c.args.site.now 0 0 _ c.sound.ensures ∙ c.if-not-sound.false)
    (kind_here c.args.site.now 0 is_header_kind _ false c.word-kind.ensures (sym c.is_header_kind.ensures ∙ c.if-not-is_header_kind.true))

pub slice_bounds-part-end : goal.slice_bounds-part-end
slice_bounds-part-end c = let h = room (goal.at.slice_bounds-part-end c).Else-not-has_block in search rules

pub returns-then-not-fit : goal.returns-then-not-fit
returns-then-not-fit c =
    let fields = (goal.at.returns-then-not-fit c).After-header_unused in
    header_field (block fields) c.args.blocks (passed fields) c.get_header-h.result (is fields) (fields_fit fields false c.if-not-fit.true)

pub returns-then-not-count_ok : goal.returns-then-not-count_ok
returns-then-not-count_ok c =
    let fields = (goal.at.returns-then-not-count_ok c).After-header_unused in
    header_count (block fields) c.args.blocks (passed fields) c.get_header-h.result (is fields) (fields_fit fields true c.if-not-fit.false)
    (sym c.count_ok.ensures ∙ c.if-not-count_ok.true)

pub returns-then-lacks_factor : goal.returns-then-lacks_factor
returns-then-lacks_factor c =
    let fields = (goal.at.returns-then-lacks_factor c).After-header_unused in
    header_factor (block fields) c.args.blocks (passed fields) c.get_header-h.result (is fields) (fields_fit fields true c.if-not-fit.false)
    (sym c.count_ok.ensures ∙ c.if-not-count_ok.false) (sym c.lacks_factor.ensures ∙ c.if-lacks_factor.true)

pub returns : goal.returns
returns c =
    let fields = (goal.at.returns c).After-header_unused in
    header_found (block fields) c.args.blocks (passed fields) c.get_header-h.result (is fields) (fields_fit fields true c.if-not-fit.false)
    (sym c.count_ok.ensures ∙ c.if-not-count_ok.false) (sym c.lacks_factor.ensures ∙ c.if-lacks_factor.false)
