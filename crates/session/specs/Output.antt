-- What the program prints for a log, from the bytes of one to the bytes of the other.
use Rattle.std.specs.Prelude.{ℕ, ◌+◌, List, [], ◌∷◌, ◌++◌, length, Some, None, Option}
use Rattle.requests.specs.Asked.{asked}
use Rattle.answers.specs.Said.{Said}
use Rattle.answers.specs.Line.{answer_bytes}
use Rattle.session.specs.declared.totals.Tally.{Tally}
use Rattle.session.specs.Tallies.{empty, noted, closing_bytes}
use Rattle.session.specs.declared.state.Session.{Session}
use Rattle.session.specs.Lines.{lines}
use Rattle.session.specs.Session.{state_of, answer_to, after, start}

-- what is printed for line n with this answer, and the counts after it; a line that is passed over has none
abbrev pub printed : ℕ → Option Said → List ℕ
printed n None = []
printed n (Some a) = answer_bytes n a ++ 10 ∷ []

abbrev pub tallied : Tally → Option Said → Tally
tallied t None = t
tallied t (Some a) = noted t a

-- what is printed for these lines, the first of which is line n; last come the counts, and how many constants there are
abbrev pub output_from : ℕ → Session → Tally → List (List ℕ) → List ℕ
output_from n s t [] = closing_bytes t (length (state_of s).book) ++ 10 ∷ []
output_from n s t (l ∷ ls) = printed n (answer_to s (asked l)) ++ output_from (n + 1) (after s (asked l)) (tallied t (answer_to s (asked l))) ls

abbrev pub output : List ℕ → List ℕ
output log = output_from 1 start empty (lines log)
