-- The places of the factors that the proofs of this crate name, in the order of `factor_numbers`.
use Prim.Native.Nat.{ℕ}

abbrev pub EF : ℕ
EF = 0

abbrev pub BW : ℕ
BW = 2

abbrev pub AT : ℕ
AT = 3

abbrev pub IR : ℕ
IR = 4

abbrev pub IRA : ℕ
IRA = 5

abbrev pub PEF : ℕ
PEF = 6

abbrev pub ET : ℕ
ET = 7

abbrev pub F : ℕ
F = 13

abbrev pub N : ℕ
N = 14

abbrev pub S : ℕ
S = 15

abbrev pub Vol : ℕ
Vol = 16

abbrev pub L : ℕ
L = 17

abbrev pub W : ℕ
W = 18
