-- What a line of a log asks, as a function of its bytes.
use Rattle.std.specs.Prelude.{ℕ, cond, find, ◌||◌, List, [], ◌∷◌, Some, None, Option, Result}
use Rattle.std.specs.List.{list_all}
use Rattle.std.specs.Result.{result_ok}
use Rattle.std.specs.Str.{bytes_eq}
use Rattle.rules.specs.Token.{is_blank, begins_with}
use Rattle.requests.specs.Bytes.{holds, before, after}
use Rattle.requests.specs.Decimal.{read_decimal}
use Rattle.requests.specs.Words.{kinds, kind_bytes, verbs, verb_bytes}
use Rattle.requests.specs.declared.kind.StoreKind.{StoreKind}
use Rattle.requests.specs.declared.Request.{Request}
use Rattle.requests.specs.declared.Request.TheVariants.{Store, Table, Numbers, Declare, Claim, Count, LookUp, RestsOn, Carries, Seal}
use Rattle.requests.specs.declared.verb.Verb.{Verb}
use Rattle.requests.specs.declared.verb.Verb.TheVariants as verb
use Rattle.requests.specs.declared.NoRequest.{NoRequest}

-- a line is passed over, is no request, or is one of the ten requests with its operand
pub data Asked : Type 0 where
  passed : Asked
  unknown : Asked
  store : StoreKind → Asked
  table : ℕ → Asked
  numbers : ℕ → Asked
  declare : List ℕ → Asked
  claim : List ℕ → List ℕ → Asked
  count : Asked
  look_up : List ℕ → Asked
  rests_on : ℕ → Asked
  carries : ℕ → Asked
  seal : Asked

-- a request with a part of its operand that may be missing
abbrev pub with : {X : Type 0} → (X → Asked) → Option X → Asked
with ask None = unknown
with ask (Some x) = ask x

-- a request that takes no operand
abbrev pub lone : Asked → List ℕ → Asked
lone ask [] = ask
lone ask (x ∷ xs) = unknown

-- the kind of store that a name names
abbrev pub kind_named : List ℕ → Option StoreKind
kind_named name = find (λ k. bytes_eq (kind_bytes k) name) kinds

-- the verb that a word spells
abbrev pub verb_named : List ℕ → Option Verb
verb_named word = find (λ v. bytes_eq (verb_bytes v) word) verbs

-- what a verb asks with its operand
abbrev pub asked_by : Verb → List ℕ → Asked
asked_by verb.Store operand = with store (kind_named operand)
asked_by verb.Table operand = with table (read_decimal operand 65536)
asked_by verb.Numbers operand = with numbers (read_decimal operand 65536)
asked_by verb.Declare operand = declare operand
-- the statement stands before the first '=', and the proof after it
asked_by verb.Claim operand = cond (holds 61 operand) (claim (before 61 operand) (after 61 operand)) unknown
asked_by verb.Count operand = lone count operand
asked_by verb.LookUp operand = look_up operand
asked_by verb.RestsOn operand = with rests_on (read_decimal operand 65535)
asked_by verb.Carries operand = with carries (read_decimal operand 65535)
asked_by verb.Seal operand = lone seal operand

-- what a line asks with its word, which stands before the first space, and its operand, which
-- stands after it
abbrev pub requested : List ℕ → Asked
requested line = with (λ v. asked_by v (after 32 line)) (verb_named (before 32 line))

-- what a line asks: nothing where it is blank or begins with '%'
abbrev pub asked : List ℕ → Asked
asked line = cond (list_all is_blank line || begins_with 37 line) passed (requested line)

-- what the code's request says, with what its slices hold
abbrev pub request_meaning : Request → Asked
request_meaning (Store kind) = store kind
request_meaning (Table n) = table n
request_meaning (Numbers n) = numbers n
request_meaning (Declare text) = declare text.now
request_meaning (Claim statement proof) = claim statement.now proof.now
request_meaning Count = count
request_meaning (LookUp name) = look_up name.now
request_meaning (RestsOn n) = rests_on n
request_meaning (Carries n) = carries n
request_meaning Seal = seal

-- what the code says of a line that is not passed over
abbrev pub asking : Result Request NoRequest → Asked
asking r = with request_meaning (result_ok r)

-- what the code says of a line
abbrev pub meaning : Option (Result Request NoRequest) → Asked
meaning None = passed
meaning (Some r) = asking r
