-- What the program site_cases prints of a case.
use Rattle.std.specs.Prelude.{ℕ, ◌-◌, ◌^◌, List, [], ◌∷◌, ◌++◌, false, replicate, Result}
use lib.Chars.{codes}
use Rattle.std.specs.Fmt.{decimal, digits, padded_integral, format_spec}
use Rattle.outcome.specs.declared.Refused.{Refused}
use Rattle.sum_rules.specs.Answer.{Sums}
use Rattle.site_rules.specs.Site.{site_answer}
use Rattle.site_rules.specs.Results.{site_left}
use Rattle.listing_rules.specs.Listing.{listing_of}
use Rattle.gv_rules.specs.Exports.{packed}
use Rattle.case_output.specs.Printed.{weight}

-- 16 hexadecimal digits, zeros in front
abbrev pub hex16 : ℕ → List ℕ
hex16 n = padded_integral (format_spec 32 0 4 16 (2 ^ 64 - 1)) false [] (digits 16 false n)

-- the word of the answer
abbrev pub answer_line : Result Sums Refused → List ℕ
answer_line a = codes "answer " ++ hex16 (packed a) ++ 10 ∷ []

-- the weight of an output
abbrev pub output_line : List ℕ → List ℕ
output_line out = codes "output " ++ decimal (weight out) ++ 10 ∷ []

-- the listing, the answer, and the output, which was of n bytes 165 before the call
abbrev pub case_text : List ℕ → ℕ → List ℕ
case_text site n = listing_of site n ++ answer_line (site_answer site n) ++ output_line (site_left site (replicate n 165))
