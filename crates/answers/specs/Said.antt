-- What is answered to a line of a log, with a list in place of a slice.
use Rattle.std.specs.Prelude.{ℕ, List, Option}
use Rattle.requests.specs.declared.kind.StoreKind.{StoreKind}
use Rattle.requests.specs.declared.verb.Verb.{Verb}
use Rattle.refusals.specs.declared.Fault.{Fault}
use Rattle.answers.specs.declared.Answer.{Answer}
use Rattle.answers.specs.declared.Answer.TheVariants.{Store, Table, Numbers, Declared, Claimed, Count, LookUp, Listed, Sealed, Refused, NotServed, Barred, NoRequest}

pub data Said : Type 0 where
  store : StoreKind → Said
  table : ℕ → Said
  numbers : ℕ → Said
  -- the constant's number and the work number
  declared : ℕ → ℕ → Said
  -- the work number
  claimed : ℕ → Said
  count : ℕ → Said
  look_up : Option ℕ → Said
  listed : Verb → List ℕ → Said
  sealed : Said
  refused : Verb → Fault → Said
  not_served : Verb → Said
  barred : Verb → Said
  no_request : Said

-- what the code's answer says, with what its slice holds
abbrev pub meaning : Answer → Said
meaning (Store kind) = store kind
meaning (Table n) = table n
meaning (Numbers n) = numbers n
meaning (Declared constant work) = declared constant work
meaning (Claimed work) = claimed work
meaning (Count n) = count n
meaning (LookUp found) = look_up found
meaning (Listed verb constants) = listed verb constants.now
meaning Sealed = sealed
meaning (Refused verb fault) = refused verb fault
meaning (NotServed verb) = not_served verb
meaning (Barred verb) = barred verb
meaning NoRequest = no_request
