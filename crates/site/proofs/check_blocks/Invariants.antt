-- `site::check_blocks`: what is found from this place on is what is found from the first.
use Rattle.inputs.specs.Earlier.{none_before}
use Rattle.std.proofs.Common.{◌≡◌, ◌+◌, ◌-◌}
use Rattle.site_rules.proofs.Walk.{check_blocks}
use Rattle.site.proofs.check_blocks.Given as goal

abbrev pub invariant-loop-k : goal.invariant-loop-k
invariant-loop-k l = check_blocks l.s l.medium l.site (l.count - l.k) (l.k + 1) l.before ≡ check_blocks l.s l.medium l.site l.count 1 none_before
