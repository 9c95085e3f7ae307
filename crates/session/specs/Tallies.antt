-- The counts of the closing line.
use Rattle.std.specs.Prelude.{ℕ, ◌+◌, ◌-◌, ◌^◌, min, List, ◌++◌, codes, decimal}
use Rattle.session.specs.declared.totals.Tally.{Tally}
use Rattle.answers.specs.Said.{Said, store, table, numbers, declared, claimed, count, look_up, listed, sealed, refused, not_served, barred, no_request}

-- the count that an answer adds to
pub data Column : Type 0 where
  as_accepted : Column
  as_refused : Column
  as_answered : Column
  as_not_carried_out : Column
  nowhere : Column

abbrev pub column : Said → Column
column (store kind) = nowhere
column (table n) = nowhere
column (numbers n) = nowhere
column (declared constant work) = as_accepted
column (claimed work) = as_accepted
column (count n) = as_answered
column (look_up found) = as_answered
column (listed verb ns) = as_answered
column sealed = as_answered
column (refused verb fault) = as_refused
column (not_served verb) = as_not_carried_out
column (barred verb) = as_not_carried_out
column no_request = as_not_carried_out

-- nothing is counted yet
abbrev pub empty : Tally
empty = record { accepted = 0; refused = 0; answered = 0; not_carried_out = 0 }

-- one more, as far as 64 bits go
abbrev pub one_more : ℕ → ℕ
one_more n = min (n + 1) (2 ^ 64 - 1)

abbrev pub raised : Column → Tally → Tally
raised as_accepted t = record t { accepted = one_more t.accepted }
raised as_refused t = record t { refused = one_more t.refused }
raised as_answered t = record t { answered = one_more t.answered }
raised as_not_carried_out t = record t { not_carried_out = one_more t.not_carried_out }
raised nowhere t = t

-- the counts after one more answer
abbrev pub noted : Tally → Said → Tally
noted t a = raised (column a) t

-- the counts, as bytes
abbrev pub counts_bytes : Tally → List ℕ
counts_bytes t =
    decimal t.accepted ++ (codes " accepted, " ++ (decimal t.refused ++ (codes " refused, " ++ (decimal t.answered
    ++ (codes " answered, " ++ (decimal t.not_carried_out ++ codes " not carried out"))))))

-- the closing line
abbrev pub closing_bytes : Tally → ℕ → List ℕ
closing_bytes t constants = counts_bytes t ++ (codes ", " ++ (decimal constants ++ codes " constants"))
