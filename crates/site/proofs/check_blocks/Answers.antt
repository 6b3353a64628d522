-- `site::check_blocks`: a block that is refused, a record that is refused, or the next place; at the end nothing is left.
use Rattle.inputs.specs.Earlier.{none_before}
use Rattle.std.proofs.Common.{◌≡◌, ℕ, ◌+◌, ◌-◌, sym, ap, ◌∙◌, arith}
use Rattle.std.specs.Prelude.{Result, Ok}
use Rattle.outcome.specs.declared.Refusal.{Refusal}
use Rattle.outcome.specs.Outcome.{located}
use Rattle.outcome.proofs.Tests.{handed_back, tests_passed, reader_value}
use Rattle.inputs.specs.declared.Contaminant.{Contaminant}
use Rattle.site_rules.specs.Blocks.{block_at}
use Rattle.site_rules.proofs.Walk.{check_blocks}
use Rattle.site_rules.proofs.Opened.{found_record}
use Rattle.site.proofs.Turns.{turn_refused, turn_record, turn_next, check_none}
use Rattle.site.proofs.check_blocks.Goals as goal

-- what was read, from what the code has of it
was_read : {y x : Result Contaminant Refusal} (k : ℕ) {r : Contaminant} → y ≡ x → Ok r ≡ located y k → x ≡ Ok r
was_read {y} k q e = sym q ∙ reader_value y k (sym e)

pub loop-k-init : goal.loop-k-init
loop-k-init c =
    let a = c.args in
    let z : a.count - 0 ≡ a.count = omega arith in
    ap (λ (j : ℕ). check_blocks a.s a.medium a.site.now j 1 none_before) z

pub returns-in_err-r : goal.returns-in_err-r
unfolding block_at
returns-in_err-r c =
    let a = c.args in
    let k = c.loop-k.k in
    let e = ap (λ (x : Result Contaminant Refusal). located x (k + 1)) (sym c.read_contaminant.ensures) ∙ sym c.in_err-r.ensures in
    handed_back c.from_residual.result c.from_residual.ensures.1 ∙
    sym (turn_refused a.s a.medium a.site.now a.count k c.loop-k.before c.loop-k-test.true e) ∙ c.loop-k.invariant

pub record_refusal-requires : goal.record_refusal-requires
unfolding block_at
record_refusal-requires c =
    let k = c.loop-k.k in
    record {
      scenario = c.requires.fits;
      factors = c.requires.known;
      contaminant = (found_record c.args.site.now (k + 1) c.loop-k.before.id c.in_ok-r.r (was_read (k + 1) c.read_contaminant.ensures c.in_ok-r.ensures)).valid;
    }

pub returns-in_err-located : goal.returns-in_err-located
unfolding block_at
returns-in_err-located c =
    let a = c.args in
    let k = c.loop-k.k in
    let x = c.from_residual-in_err-located in
    handed_back x.result x.ensures.1 ∙
    sym (turn_record a.s a.medium a.site.now a.count k c.loop-k.before c.loop-k-test.true (was_read (k + 1) c.read_contaminant.ensures c.in_ok-r.ensures)
    c.record_refusal.ensures (sym c.in_err-located.ensures)) ∙ c.loop-k.invariant

pub loop-k-preserved : goal.loop-k-preserved
unfolding block_at
loop-k-preserved c =
    let a = c.args in
    let k = c.loop-k.k in
    rw c.next-before.ensures
    (sym (turn_next a.s a.medium a.site.now a.count k c.loop-k.before c.loop-k-test.true (was_read (k + 1) c.read_contaminant.ensures c.in_ok-r.ensures)
    (tests_passed c.record_refusal.ensures (k + 1) (sym c.in_ok-located.ensures))) ∙ c.loop-k.invariant)

pub returns : goal.returns
returns c =
    let a = c.args in
    sym (check_none a.s a.medium a.site.now a.count c.loop-k.k c.loop-k.before c.loop-k-test.false) ∙ c.loop-k.invariant
