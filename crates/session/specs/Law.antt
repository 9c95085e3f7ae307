-- The law above the answers: the calls that are served are answered as a log of these calls alone, by the rules.
use Rattle.std.specs.Prelude.{◌≡◌, ℕ, Bool, true, false, List, [], ◌∷◌, map, Some, None, Option}
use Rattle.rules.specs.Rule.{Rule}
use Rattle.rules.specs.Log as log
use Rattle.requests.specs.declared.verb.Verb.{Verb}
use Rattle.requests.specs.declared.verb.Verb.TheVariants.{Declare, Claim, Count, LookUp, RestsOn, Carries, Seal}
use Rattle.requests.specs.Asked.{Asked, asked, passed, unknown, store, table, numbers, declare, claim, count, look_up, rests_on, carries, seal}
use Rattle.answers.specs.Said.{Said}
use Rattle.session.specs.declared.state.Session.{Session}
use Rattle.session.specs.Lines.{lines}
use Rattle.session.specs.Session.{state_of, served, said_of, answer_to, after, start}

-- the call of the library that a request makes, with its verb
pub record Call : Type 0 where
  pub verb : Verb
  pub line : log.Line

abbrev pub call : Verb → log.Line → Option Call
call v l = Some (record { verb = v; line = l })

abbrev pub call_of : Session → Asked → Option Call
call_of s passed = None
call_of s unknown = None
call_of s (store k) = None
call_of s (table n) = None
call_of s (numbers n) = None
call_of s (declare text) = call Declare (log.declare text s.table)
call_of s (claim statement proof) = call Claim (log.claim statement proof s.table)
call_of s count = call Count log.count
call_of s (look_up w) = call LookUp (log.look_up w)
call_of s (rests_on n) = call RestsOn (log.ask_rests_on n s.numbers)
call_of s (carries n) = call Carries (log.ask_carries n s.numbers)
call_of s seal = call Seal log.seal

-- is there a call that is served?
abbrev pub is_served : Session → Option Call → Bool
is_served s None = false
is_served s (Some c) = served (state_of s) c.line

-- x before xs, where the test is passed
abbrev pub add_if : {X : Type 0} → Bool → Option X → List X → List X
add_if true None xs = xs
add_if true (Some x) xs = x ∷ xs
add_if false o xs = xs

-- the calls of a log's lines that are served, and the answers to them
abbrev pub calls : Session → List (List ℕ) → List Call
calls s [] = []
calls s (l ∷ ls) = add_if (is_served s (call_of s (asked l))) (call_of s (asked l)) (calls (after s (asked l)) ls)

abbrev pub answers : Session → List (List ℕ) → List Said
answers s [] = []
answers s (l ∷ ls) = add_if (is_served s (call_of s (asked l))) (answer_to s (asked l)) (answers (after s (asked l)) ls)

-- replies of the rules as answers to calls
abbrev pub spoken : List Call → List log.Reply → List Said
spoken [] rs = []
spoken (c ∷ cs) [] = []
spoken (c ∷ cs) (r ∷ rs) = said_of c.verb r ∷ spoken cs rs

-- The answers to the calls that are served are what the rules answer to a log of these calls, over a store of any rule.
abbrev pub FollowsRules : Type 0
FollowsRules = (r : Rule) (log_bytes : List ℕ) →
    answers start (lines log_bytes) ≡ spoken (calls start (lines log_bytes)) (log.run r (map (λ c. c.line) (calls start (lines log_bytes))))
