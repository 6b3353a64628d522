-- Each call passes a tenth of the number.
use Rattle.text.proofs.Text.+put_number.Given as goal

abbrev pub decreases-put_number : goal.decreases-put_number
decreases-put_number l = l.n
