-- `rounding::Number::times_power`: the quotient of the product by 10^8 is whole, and has nine digits.
use Rattle.rounding.proofs.Exponents.{power_product, power_result}
use Rattle.rounding.proofs.Number.times_power.Goals as goal

pub returns : goal.returns
returns c =
    let a = c.args in
    (λ dir. power_product dir a.self a.power c.requires.0.most c.requires.1.1, power_result a.self a.power c.requires.0)
