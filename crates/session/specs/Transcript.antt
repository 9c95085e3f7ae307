-- What a log has set, counted and printed so far.
use Rattle.std.specs.Prelude.{ℕ, List, [], ◌∷◌, ◌++◌, length}
use Rattle.requests.specs.Asked.{asked}
use Rattle.session.specs.declared.totals.Tally.{Tally}
use Rattle.session.specs.Tallies.{empty, closing_bytes}
use Rattle.session.specs.declared.state.Session.{Session}
use Rattle.session.specs.Output.{printed, tallied}
use Rattle.session.specs.Session.{state_of, answer_to, after, start}

pub record Transcript : Type 0 where
  pub session : Session
  pub tally : Tally
  pub text : List ℕ

-- before the first line
abbrev pub fresh : Transcript
fresh = record { session = start; tally = empty; text = [] }

-- after this line, which is line n
abbrev pub taken : ℕ → List ℕ → Transcript → Transcript
taken n line t = record {
  session = after t.session (asked line);
  tally = tallied t.tally (answer_to t.session (asked line));
  text = t.text ++ printed n (answer_to t.session (asked line));
}

-- what is printed in all, where no line is left: the counts come last, and how many constants there are
abbrev pub closed : Transcript → List ℕ
closed t = t.text ++ (closing_bytes t.tally (length (state_of t.session).book) ++ 10 ∷ [])
