-- The rules compute the answers of the worked list.
use mathlib.Core.Path.{refl}
use Rattle.rules.specs.Token.{next_token}
use Rattle.rules.specs.Reading.{expect, head, read_exp, reading, declaring}
use Rattle.worked.specs.Worked.{Worked}

pub worked : Worked
unfolding next_token expect head read_exp reading declaring
worked = refl
