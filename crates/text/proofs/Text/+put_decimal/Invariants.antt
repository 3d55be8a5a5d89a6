-- `put_decimal` ends, since a tenth of a number of two digits or more is smaller.
use Rattle.text.proofs.Text.+put_decimal.Given as goal

abbrev pub decreases-put_decimal : goal.decreases-put_decimal
decreases-put_decimal l = l.n
