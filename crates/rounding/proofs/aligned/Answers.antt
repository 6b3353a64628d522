-- `rounding::aligned`: the second number divided by the power of its places is what the definition adds.
use Rattle.std.proofs.Common.{◌≡◌, ℕ, ◌+◌, ◌-◌, ◌^◌, ◌≤◌, ap, ◌∙◌, arith}
use Rattle.rounding.specs.declared.Number.{Number}
use Rattle.rounding.specs.Round.{divide_of, cut_of}
use Rattle.rounding.specs.Number.{rank_of}
use Rattle.rounding.specs.Operations.{gap_of}
use Rattle.rounding.proofs.Greatest.{pow_ten_pos}
use Rattle.rounding.proofs.CodeFacts.{places_of, places_most, power_most, aligned_is}
use Rattle.rounding.proofs.aligned.Goals as goal

gap_places : (p q : Number) {a b n : ℕ} → n ≡ places_of (a - b) → a ≡ rank_of p → b ≡ rank_of q → n ≡ places_of (gap_of p q)
gap_places p q e f g = e ∙ rw (f, g)

places : (c : goal.After-power) → c.pick-places.result ≡ places_of (gap_of c.args.p c.args.q)
places c = gap_places c.args.p c.args.q c.pick-places.ensures c.rank.ensures c.rank-2.ensures

most_places : (c : goal.After-power) → c.pick-places.result ≤ 9
most_places c = rw (places c) (places_most (gap_of c.args.p c.args.q))

pub divide-part-requires : goal.divide-part-requires
divide-part-requires c =
    let k = c.pick-places.result in
    omega (arith, c.power.ensures, pow_ten_pos k, power_most k 9 (most_places c), c.requires.1.0.most)

abbrev part_of : goal.After-cut → ℕ → ℕ
part_of c k = divide_of c.args.dir c.args.q.m (10 ^ k)

pub returns : goal.returns
returns c =
    let cutting : ℕ → Number = λ v. cut_of c.args.dir (c.args.p.m + v) c.args.p.x in
    let part = c.divide-part.ensures ∙ ap (divide_of c.args.dir c.args.q.m) c.power.ensures in
    let counted = gap_places c.args.p c.args.q c.pick-places.ensures c.rank.ensures c.rank-2.ensures in (
      c.cut.ensures.0 ∙ ap cutting (part ∙ ap (part_of c) counted) ∙ aligned_is c.args.dir c.args.p c.args.q c.requires.1.0.most,
      c.cut.ensures.1,
    )
