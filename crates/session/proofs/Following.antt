-- The answers to the calls that are served follow the rules.
use Rattle.std.proofs.Common.{◌≡◌, ℕ, Bool, true, false, cond, List, [], ◌∷◌, map, is_some, Some, None, Option, sym, refl, ap, ◌∙◌}
use Rattle.std.proofs.lemmas.Bool.{false≢true}
use Rattle.rules.specs.Refusal.{Refusal, declare_limits}
use Rattle.rules.specs.Rule.{Rule}
use Rattle.rules.specs.Log as log
use Rattle.requests.specs.declared.kind.StoreKind.{StoreKind}
use Rattle.requests.specs.declared.verb.Verb.{Verb}
use Rattle.requests.specs.declared.verb.Verb.TheVariants.{Declare, Claim, Count, LookUp, RestsOn, Carries, Seal}
use Rattle.requests.specs.Asked.{Asked, asked, passed, unknown, store, table, numbers, declare, claim, count, look_up, rests_on, carries, seal}
use Rattle.answers.specs.Said.{Said, not_served}
use Rattle.session.specs.declared.state.Session.{Session}
use Rattle.session.specs.Session.{kind_of, state_of, rule_of, served, said_of, answer_to, after, start}
use Rattle.session.specs.Law.{Call, call, call_of, is_served, add_if, calls, answers, spoken, FollowsRules}
use Rattle.session.specs.Lines.{lines}

-- an open or sealed library without constants
abbrev empty : Bool → log.State
empty s = record { book = []; is_sealed = s }

abbrev sealed_by : Bool → log.Line → Bool
sealed_by s (log.declare text n) = s
sealed_by s (log.claim statement proof n) = s
sealed_by s log.count = s
sealed_by s (log.look_up w) = s
sealed_by s (log.ask_rests_on n m) = s
sealed_by s (log.ask_carries n m) = s
sealed_by s log.seal = true

-- a declare that breaks a size limit is refused whatever the rest of its verdict
rejected : (o : Option Refusal) (v w : log.Verdict) → is_some o ≡ true → log.declared [] (log.if_within o v) ≡ log.declared [] (log.if_within o w)
rejected None v w e = absurd (false≢true e)
rejected (Some f) v w e = refl

unentered : (o : Option Refusal) (v : log.Verdict) → is_some o ≡ true → log.entered [] (log.if_within o v) ≡ []
unentered None v e = absurd (false≢true e)
unentered (Some f) v e = refl

-- the rule of the store does not matter to a call that is served
any_rule : (r r' : Rule) (s : Bool) (l : log.Line) → served (empty s) l ≡ true → log.reply r (empty s) l ≡ log.reply r' (empty s) l
any_rule r r' true (log.declare text n) e = refl
any_rule r r' false (log.declare text n) e = rejected (declare_limits text n) _ _ e
any_rule r r' s (log.claim statement proof n) e = refl
any_rule r r' s log.count e = refl
any_rule r r' s (log.look_up w) e = refl
any_rule r r' s (log.ask_rests_on n m) e = refl
any_rule r r' s (log.ask_carries n m) e = refl
any_rule r r' s log.seal e = refl

-- a call that is served enters nothing
stays_empty : (r : Rule) (s : Bool) (l : log.Line) → served (empty s) l ≡ true → log.next r (empty s) l ≡ empty (sealed_by s l)
stays_empty r true (log.declare text n) e = refl
stays_empty r false (log.declare text n) e = ap (λ b. record { book = b; is_sealed = false }) (unentered (declare_limits text n) _ e)
stays_empty r s (log.claim statement proof n) e = refl
stays_empty r s log.count e = refl
stays_empty r s (log.look_up w) e = refl
stays_empty r s (log.ask_rests_on n m) e = refl
stays_empty r s (log.ask_carries n m) e = refl
stays_empty r s log.seal e = refl

-- a call that is served, and the lines after it
one_call : (r : Rule) (s : Session) (v : Verb) (l : log.Line) (ys : List Said) (cs : List Call) → served (state_of s) l ≡ true →
    ys ≡ spoken cs (log.run_from r (empty (sealed_by s.sealed l)) (map (λ c. c.line) cs)) →
    said_of v (log.reply (rule_of (kind_of s)) (state_of s) l) ∷ ys
    ≡ said_of v (log.reply r (state_of s) l) ∷ spoken cs (log.run_from r (log.next r (state_of s) l) (map (λ c. c.line) cs))
one_call r s v l ys cs e rest =
    ap (λ x. said_of v x ∷ ys) (any_rule (rule_of (kind_of s)) r s.sealed l e)
    ∙ ap (λ xs. said_of v (log.reply r (state_of s) l) ∷ xs) (rest ∙ ap (λ st. spoken cs (log.run_from r st (map (λ c. c.line) cs))) (sym (stays_empty r s.sealed l e)))

-- a call that may not be served
maybe_call : (r : Rule) (s : Session) (v : Verb) (l : log.Line) (ys : List Said) (cs : List Call) → sealed_by s.sealed l ≡ s.sealed →
    ys ≡ spoken cs (log.run_from r (state_of s) (map (λ c. c.line) cs)) → (b : Bool) → served (state_of s) l ≡ b →
    add_if b (Some (cond b (said_of v (log.reply (rule_of (kind_of s)) (state_of s) l)) (not_served v))) ys
    ≡ spoken (add_if b (call v l) cs) (log.run_from r (state_of s) (map (λ c. c.line) (add_if b (call v l) cs)))
maybe_call r s v l ys cs same rest true e = one_call r s v l ys cs e (rw same rest)
maybe_call r s v l ys cs same rest false e = rest

-- the choice of a store leaves the library as it is
store_keeps : (s : Session) (k : StoreKind) → state_of (after s (store k)) ≡ state_of s
store_keeps s k =
    elim (is_some s.store) as (λ b. state_of (cond b s (record s { store = Some k })) ≡ state_of s) [ true ↦ refl | false ↦ refl ]

-- one line, and the lines after it
one_line : (r : Rule) (s : Session) (q : Asked) (ys : List Said) (cs : List Call) → ys ≡ spoken cs (log.run_from r (state_of (after s q)) (map (λ c. c.line) cs)) →
    add_if (is_served s (call_of s q)) (answer_to s q) ys
    ≡ spoken (add_if (is_served s (call_of s q)) (call_of s q) cs) (log.run_from r (state_of s) (map (λ c. c.line) (add_if (is_served s (call_of s q)) (call_of s q) cs)))
one_line r s passed ys cs rest = rest
one_line r s unknown ys cs rest = rest
one_line r s (store k) ys cs rest = rest ∙ ap (λ st. spoken cs (log.run_from r st (map (λ c. c.line) cs))) (store_keeps s k)
one_line r s (table n) ys cs rest = rest
one_line r s (numbers n) ys cs rest = rest
one_line r s (declare text) ys cs rest = maybe_call r s Declare (log.declare text s.table) ys cs refl rest _ refl
one_line r s (claim statement proof) ys cs rest = maybe_call r s Claim (log.claim statement proof s.table) ys cs refl rest _ refl
one_line r s count ys cs rest = one_call r s Count log.count ys cs refl rest
one_line r s (look_up w) ys cs rest = one_call r s LookUp (log.look_up w) ys cs refl rest
one_line r s (rests_on n) ys cs rest = one_call r s RestsOn (log.ask_rests_on n s.numbers) ys cs refl rest
one_line r s (carries n) ys cs rest = one_call r s Carries (log.ask_carries n s.numbers) ys cs refl rest
one_line r s seal ys cs rest = one_call r s Seal log.seal ys cs refl rest

follows_from : (r : Rule) (s : Session) (ls : List (List ℕ)) → answers s ls ≡ spoken (calls s ls) (log.run_from r (state_of s) (map (λ c. c.line) (calls s ls)))
follows_from r s [] = refl
follows_from r s (l ∷ ls) = one_line r s (asked l) _ _ (follows_from r (after s (asked l)) ls)

pub follows_rules : FollowsRules
follows_rules r bytes = follows_from r start (lines bytes)
