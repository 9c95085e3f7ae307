-- What the program answers to each line of a log: what the rules answer, as far as it is served.
use Rattle.std.specs.Prelude.{Bool, true, false, cond, ◌||◌, [], is_some, Some, None, Option}
use Rattle.std.specs.Option.{unwrap_or}
use Rattle.rules.specs.Refusal.{declare_limits, claim_limits}
use Rattle.rules.specs.Rule.{Rule, flat, modular}
use Rattle.rules.specs.Log as log
use Rattle.requests.specs.declared.kind.StoreKind.{StoreKind}
use Rattle.requests.specs.declared.kind.StoreKind.TheVariants.{Flat, Module}
use Rattle.requests.specs.Asked.{Asked, passed, unknown, store, table, numbers, declare, claim, count, look_up, rests_on, carries, seal}
use Rattle.requests.specs.declared.verb.Verb.{Verb}
use Rattle.requests.specs.declared.verb.Verb.TheVariants.{Declare, Claim, Count, LookUp, RestsOn, Carries, Seal}
use Rattle.refusals.specs.Fault.{fault_of}
use Rattle.answers.specs.Said as said
use Rattle.answers.specs.Said.{Said}
use Rattle.session.specs.declared.state.Session.{Session}

-- the kind of store: a flat table where the log has chosen none
abbrev pub kind_of : Session → StoreKind
kind_of s = unwrap_or s.store Flat

-- the rule by which a store of a kind is full
abbrev pub rule_of : StoreKind → Rule
rule_of Flat = flat
rule_of Module = modular

-- The log's state: no declare is served as yet, so its book is empty.
abbrev pub state_of : Session → log.State
state_of s = record { book = []; is_sealed = s.sealed }

-- Is the call served? A declare in an open library and a claim are so only as far as their size limits.
abbrev pub served : log.State → log.Line → Bool
served s (log.declare text room) = s.is_sealed || is_some (declare_limits text room)
served s (log.claim statement proof room) = is_some (claim_limits statement proof room)
served s log.count = true
served s (log.look_up w) = true
served s (log.ask_rests_on n room) = true
served s (log.ask_carries n room) = true
served s log.seal = true

-- a reply of the rules, as an answer to the request of this verb
abbrev pub said_of : Verb → log.Reply → Said
said_of w (log.accepted constant work) = said.declared constant work
said_of w (log.proved work) = said.claimed work
said_of w (log.counted n) = said.count n
said_of w (log.found o) = said.look_up o
said_of w (log.listed ns) = said.listed w ns
said_of w log.sealed = said.sealed
said_of w (log.refused f) = said.refused w (fault_of f)
said_of w log.barred = said.barred w

-- the answer to a call of the library
abbrev pub called : Session → Verb → log.Line → Said
called s w l = cond (served (state_of s) l) (said_of w (log.reply (rule_of (kind_of s)) (state_of s) l)) (said.not_served w)

-- The answer to what a line asks, if there is one. A store is chosen before any other request.
abbrev pub answer_to : Session → Asked → Option Said
answer_to s passed = None
answer_to s unknown = Some said.no_request
answer_to s (store k) = Some (cond (is_some s.store) said.no_request (said.store k))
answer_to s (table n) = Some (said.table n)
answer_to s (numbers n) = Some (said.numbers n)
answer_to s (declare text) = Some (called s Declare (log.declare text s.table))
answer_to s (claim statement proof) = Some (called s Claim (log.claim statement proof s.table))
answer_to s count = Some (called s Count log.count)
answer_to s (look_up w) = Some (called s LookUp (log.look_up w))
answer_to s (rests_on n) = Some (called s RestsOn (log.ask_rests_on n s.numbers))
answer_to s (carries n) = Some (called s Carries (log.ask_carries n s.numbers))
answer_to s seal = Some (called s Seal log.seal)

-- the session with a request behind it
abbrev pub begun : Session → Session
begun s = record s { store = Some (kind_of s) }

-- The session after what a line asks.
abbrev pub after : Session → Asked → Session
after s passed = s
after s unknown = s
after s (store k) = cond (is_some s.store) s (record s { store = Some k })
after s (table n) = record (begun s) { table = n }
after s (numbers n) = record (begun s) { numbers = n }
after s (declare text) = begun s
after s (claim statement proof) = begun s
after s count = begun s
after s (look_up w) = begun s
after s (rests_on n) = begun s
after s (carries n) = begun s
after s seal = record (begun s) { sealed = true }

-- Before the first line: the library is open, its store is not chosen yet, and the tables have these lengths where the log sets none.
abbrev pub start : Session
start = record { store = None; sealed = false; table = 32768; numbers = 1024 }
