-- `stream_lines::put_digits` meets its contract. It calls itself for a tenth of the number with one digit less, which is the measure.
-- Assumes nothing.
use Rattle.stream_lines.proofs.+put_digits.Given as goal

abbrev pub decreases-put_digits : goal.decreases-put_digits
decreases-put_digits l = l.k
