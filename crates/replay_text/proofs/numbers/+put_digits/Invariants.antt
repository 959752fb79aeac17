-- The recursion's measure is the room for digits.
use Rattle.replay_text.proofs.numbers.+put_digits.Given as goal

abbrev pub decreases-put_digits : goal.decreases-put_digits
decreases-put_digits l = l.k
