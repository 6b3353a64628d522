-- The exponent is put raised.
use Rattle.std.proofs.Common.{◌≡◌, arith}
use Rattle.decimal.specs.Exponent.{raised}
use Rattle.decimal.proofs.Bias.{passed}
use Rattle.text.proofs.Puts.{puts}
use Rattle.text.proofs.Decimals.{decimals}
use Rattle.text.proofs.Text.put_decimal.Goals as goal

pub returns : goal.returns
returns c =
    let x : c.biased_exponent.result ≡ raised c.args.d.e = passed c.args.d.e (omega arith) c.biased_exponent.ensures in
    grind (arith, puts, decimals)
