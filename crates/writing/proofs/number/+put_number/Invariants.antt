-- `writing::number::put_number` calls itself for the tenth of the number, so the number is the measure.
use Rattle.writing.proofs.number.+put_number.Given as goal

abbrev pub decreases-put_number : goal.decreases-put_number
decreases-put_number l = l.n
