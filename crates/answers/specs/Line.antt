-- The line that answers a request, as bytes, without its line feed.
use Rattle.std.specs.Prelude.{ℕ, List, ◌++◌, length, Some, None, codes, decimal, Option}
use Rattle.answers.specs.Said.{Said, store, table, numbers, declared, claimed, count, look_up, listed, sealed, refused, not_served, barred, no_request}
use Rattle.requests.specs.Words.{kind_bytes, verb_bytes}
use Rattle.std.specs.List.{flat_map}
use Rattle.refusals.specs.Fault.{fault_bytes}

-- a constant's number, or that there is none
abbrev pub found_bytes : Option ℕ → List ℕ
found_bytes None = codes "none"
found_bytes (Some n) = decimal n

-- numbers, each after a space
abbrev pub spaced : List ℕ → List ℕ
spaced ns = flat_map (λ n. codes " " ++ decimal n) ns

-- what is said after the line's number
abbrev pub said_bytes : Said → List ℕ
said_bytes (store kind) = codes "store " ++ kind_bytes kind
said_bytes (table n) = codes "table " ++ decimal n
said_bytes (numbers n) = codes "numbers " ++ decimal n
said_bytes (declared constant work) = codes "declare accepted: constant " ++ (decimal constant ++ (codes ", work " ++ decimal work))
said_bytes (claimed work) = codes "claim accepted: work " ++ decimal work
said_bytes (count n) = codes "count " ++ decimal n
said_bytes (look_up found) = codes "look-up " ++ found_bytes found
said_bytes (listed verb ns) = verb_bytes verb ++ (codes " " ++ (decimal (length ns) ++ (codes ":" ++ spaced ns)))
said_bytes sealed = codes "sealed"
said_bytes (refused verb fault) = verb_bytes verb ++ (codes " refused " ++ fault_bytes fault)
said_bytes (not_served verb) = verb_bytes verb ++ codes " not carried out: not served yet"
said_bytes (barred verb) = verb_bytes verb ++ codes " not carried out: the library is sealed"
said_bytes no_request = codes "not a request"

-- the line: its number, and what is said
abbrev pub answer_bytes : ℕ → Said → List ℕ
answer_bytes number a = decimal number ++ (codes ": " ++ said_bytes a)
