-- A small library, worked: lines of a log, each with its answer.
use Rattle.std.specs.Prelude.{◌≡◌, List, [], ◌∷◌, map, ℕ, codes}
use Rattle.rules.specs.Log.{Line, declare, claim, ask_rests_on, ask_carries, Reply, accepted, proved, listed, refused, run}
use Rattle.rules.specs.Refusal.{refusal}
use Rattle.rules.specs.Rule.{flat}
use Rattle.refusals.specs.Refusal.{meaning}
use Rattle.worked.specs.declared.Figure.{Figure}
use Rattle.worked.specs.declared.Figure.TheVariants.{Declared, Claimed, Refused, Listed}

-- a declare, with the longest work table that there can be
abbrev pub declares : List ℕ → Line
declares text = declare text 32768

abbrev pub statement : List ℕ
statement = codes "pf (all [x] eq x x) -> pf (eq z z)"

abbrev pub proof : List ℕ
proof = codes "[h] inst ([x] eq x x) z h"

-- A refusal is given by number, text, place and judgement.
abbrev pub cases : List (Line × Reply)
cases =
    -- the library, with constants and work numbers
    (declares (codes "nat : type"), accepted 0 1) ∷
    (declares (codes "z : nat"), accepted 1 3) ∷
    (declares (codes "s : nat -> nat"), accepted 2 7) ∷
    (declares (codes "o : type"), accepted 3 1) ∷
    (declares (codes "eq : nat -> nat -> o"), accepted 4 11) ∷
    (declares (codes "all : (nat -> o) -> o"), accepted 5 11) ∷
    (declares (codes "pf : o -> type"), accepted 6 5) ∷
    (declares (codes "inst : {p:nat -> o} {t:nat} pf (all [x] p x) -> pf (p t)"), accepted 7 71) ∷
    -- a claim with as many nodes as it needs, and with one fewer
    (claim statement proof 270, proved 270) ∷
    (claim statement proof 269, refused (refusal 39 1 24 4)) ∷
    -- a statement that the proof does not prove
    (claim (codes "pf (all [x] eq x x) -> pf (eq z (s z))") proof 32768, refused (refusal 37 1 4 3)) ∷
    -- an argument that is not eta-long
    (declares (codes "q : {p:nat -> o} pf (all p)"), refused (refusal 33 0 25 3)) ∷
    -- an abstraction against no product
    (declares (codes "q : pf ([x] z)"), refused (refusal 34 0 8 3)) ∷
    -- too few arguments, and too many
    (declares (codes "q : pf (eq z)"), refused (refusal 35 0 8 4)) ∷
    (declares (codes "q : nat nat"), refused (refusal 36 0 8 4)) ∷
    -- an object as a type
    (declares (codes "q : z"), refused (refusal 32 0 4 2)) ∷
    -- `type` as a type
    (declares (codes "q : type -> type"), refused (refusal 31 0 4 2)) ∷
    -- a name that is taken
    (declares (codes "z : nat"), refused (refusal 42 0 0 0)) ∷
    -- what inst rests on, and what o carries
    (ask_rests_on 7 8, listed (0 ∷ 3 ∷ 5 ∷ 6 ∷ 7 ∷ [])) ∷
    (ask_carries 3 8, listed (3 ∷ 4 ∷ 5 ∷ 6 ∷ 7 ∷ [])) ∷
    []

abbrev pub lines : List Line
lines = map (λ c. c.0) cases

abbrev pub answers : List Reply
answers = map (λ c. c.1) cases

-- The rules give these answers to these lines, over an empty flat table.
abbrev pub Worked : Type 0
Worked = run flat lines ≡ answers

-- the answers that a list of figures stands for
abbrev pub reply_of : Figure → Reply
reply_of (Declared constant work) = accepted constant work
reply_of (Claimed work) = proved work
reply_of (Refused refusal) = refused (meaning refusal)
reply_of (Listed numbers) = listed numbers.now

abbrev pub replies : List Figure → List Reply
replies figures = map reply_of figures
