-- `blocks::read_contaminant`: the tests in the order of the definition, each on the part that the definition names.
use Rattle.std.proofs.Common.{◌≡◌, ◌≤◌, ◌+◌, ℕ, List, Bool, true, false, length, eqb, arith, rules, refl, sym, ◌∙◌}
use mathlib.Core.Bool.{◌&&◌}
use borrow.Author.Tests.{eq-eqb, ne_eqb, le-leb, lt-leb}
use Rattle.words.specs.Words.{part_of}
use Rattle.inputs.specs.Rules.{contaminant_fits}
use Rattle.block_rules.specs.Reading.{is_contaminant_kind, contaminant_at, contaminant_unused}
use Rattle.blocks.proofs.Parts.{block_fits}
use Rattle.blocks.proofs.Answers.{Passed, sound_here, kind_here, passed_here, contaminant_here, contaminant_fields_here}
use Rattle.blocks.proofs.Answers.{contaminant_short, contaminant_check, contaminant_kind, contaminant_field, contaminant_order, contaminant_found}
use Rattle.blocks.proofs.read_contaminant.Goals as goal
use Rattle.blocks.proofs.read_contaminant.Goals.{After-contaminant_unused, Else-not-has_block}

-- ---- what is known once there is a whole block, and once the tests of the fields are made
abbrev bytes : Else-not-has_block → List ℕ
bytes c = part_of c.args.site.now c.args.at 512

long : (c : Else-not-has_block) → eqb (length (bytes c)) 512 ≡ true
long c = sym c.has_block.ensures ∙ c.if-not-has_block.false

room : (c : Else-not-has_block) → c.args.at + 512 ≤ length c.args.site.now
room c = block_fits c.args.site.now c.args.at (long c)

abbrev block : After-contaminant_unused → List ℕ
block c = part_of c.args.site.now c.args.at 512

passed : (c : After-contaminant_unused) → Passed (block c) c.args.place is_contaminant_kind
passed c =
    passed_here c.args.site.now c.args.at is_contaminant_kind c.has_block.ensures c.if-not-has_block.false c.sound.ensures c.if-not-sound.false c.word.ensures (eq-eqb _ 2 (omega arith))

is : (c : After-contaminant_unused) → c.get_contaminant-r.result ≡ contaminant_at (block c) 8
is c = contaminant_here c.args.site.now c.args.at c.get_contaminant-r.result c.get_contaminant-r.ensures

fields_fit : (c : After-contaminant_unused) (t : Bool) → c.contaminant_fits.result && c.contaminant_unused.result ≡ t
    → contaminant_fits c.get_contaminant-r.result && contaminant_unused (block c) 8 ≡ t
fields_fit c t e =
    sym (contaminant_fields_here c.args.site.now c.args.at c.get_contaminant-r.result _ _ _ refl c.contaminant_fits.ensures c.contaminant_unused.ensures)
    ∙ e

-- ---- the answers
pub returns-then-not-has_block : goal.returns-then-not-has_block
returns-then-not-has_block c =
    contaminant_short (part_of c.args.site.now c.args.at 512) c.args.place c.args.previous (sym c.has_block.ensures ∙ c.if-not-has_block.true)

pub overflow_add-end : goal.overflow_add-end
overflow_add-end c = let h = room c in search rules

pub slice_bounds-sound-end : goal.slice_bounds-sound-end
slice_bounds-sound-end c = let h = room c in search rules

pub returns-then-not-sound : goal.returns-then-not-sound
returns-then-not-sound c =
    let here = (goal.at.returns-then-not-sound c).Else-not-has_block in
    contaminant_check (bytes here) c.args.place c.args.previous (long here) (sound_here c.args.site.now c.args.at c.args.place _ c.sound.ensures ∙ c.if-not-sound.true)

pub returns-then-word-ne2 : goal.returns-then-word-ne2
returns-then-word-ne2 c =
    let here = (goal.at.returns-then-word-ne2 c).Else-not-has_block in
    contaminant_kind (bytes here) c.args.place c.args.previous (long here)
    (sound_here c.args.site.now c.args.at c.args.place _ c.sound.ensures ∙ c.if-not-sound.false)
    (kind_here c.args.site.now c.args.at is_contaminant_kind _ false c.word.ensures (ne_eqb _ _ c.if-word-ne2.true))

pub returns-then-not-fit : goal.returns-then-not-fit
returns-then-not-fit c =
    let fields = (goal.at.returns-then-not-fit c).After-contaminant_unused in
    contaminant_field (block fields) c.args.place c.args.previous (passed fields) c.get_contaminant-r.result (is fields) (fields_fit fields false c.if-not-fit.true)

pub returns-then-r-previous : goal.returns-then-r-previous
returns-then-r-previous c =
    let fields = (goal.at.returns-then-r-previous c).After-contaminant_unused in
    contaminant_order (block fields) c.args.place c.args.previous (passed fields) c.get_contaminant-r.result (is fields) (fields_fit fields true c.if-not-fit.false)
    (le-leb _ _ c.if-r-previous.true)

pub returns : goal.returns
returns c =
    let fields = (goal.at.returns c).After-contaminant_unused in
    contaminant_found (block fields) c.args.place c.args.previous (passed fields) c.get_contaminant-r.result (is fields) (fields_fit fields true c.if-not-fit.false)
    (lt-leb _ _ c.if-r-previous.false)
