-- What a check does, room aside, as a script; and the one place where the room counts.
use Rattle.std.specs.Prelude.{ℕ, ◌+◌, Bool, true, false, nat_le}
use Rattle.rules.specs.Expression.{Exp}
use Rattle.rules.specs.Substitution.{Written, made, lost}

-- The judgement at which a check refuses.
pub data Judgement : Type 0 where
  classifier_judgement type_judgement object_judgement spine_judgement : Judgement

abbrev pub judgement_number : Judgement → ℕ
judgement_number classifier_judgement = 1
judgement_number type_judgement = 2
judgement_number object_judgement = 3
judgement_number spine_judgement = 4

-- Why a judgement has no derivation, of any number of nodes.
pub data Cause : Type 0 where
  wrong_form wrong_head head_at_product lam_at_no_product too_few too_many unequal no_result : Cause

abbrev pub cause_number : Cause → ℕ
cause_number wrong_form = 31
cause_number wrong_head = 32
cause_number head_at_product = 33
cause_number lam_at_no_product = 34
cause_number too_few = 35
cause_number too_many = 36
cause_number unequal = 37
cause_number no_result = 38

-- A script: it ends with an expression, or refuses at a place under a judgement,
-- or first writes n nodes on behalf of a place and a judgement, or is one part, whose value is dropped, and then another.
pub data Script : Type 0 where
  done : Exp → Script
  refuse : Cause → ℕ → Judgement → Script
  write : ℕ → ℕ → Judgement → Script → Script
  part : Script → Script → Script

-- a script, and with what it ends in the rest
abbrev pub bind : Script → (Exp → Script) → Script
bind (done e) f = f e
bind (refuse c p j) f = refuse c p j
bind (write n p j r) f = write n p j (bind r f)
bind (part r k) f = part r (bind k f)

-- go on if the answer is yes; go on if it is no
abbrev pub if_yes : Bool → Cause → ℕ → Judgement → Script → Script
if_yes true c p j r = r
if_yes false c p j r = refuse c p j

abbrev pub if_no : Bool → Cause → ℕ → Judgement → Script → Script
if_no true c p j r = refuse c p j
if_no false c p j r = r

-- write what a substitution writes, and go on with its result if it has one
abbrev pub substituted : ℕ → Judgement → Written → (Exp → Script) → Script
substituted p j (made n e) f = write n p j (f e)
substituted p j (lost n) f = write n p j (refuse no_result p j)

-- The answer of a script: accepted, with the fill that the table has then and the value; or refused, by number, place and judgement.
pub data Answer : Type 0 where
  fine : ℕ → Exp → Answer
  fault : ℕ → ℕ → Judgement → Answer

-- do the nodes fit?
abbrev pub if_fits : Bool → ℕ → Judgement → Answer → Answer
if_fits true p j x = x
if_fits false p j x = fault 39 p j

-- one part, and with the fill that it leaves the rest
abbrev pub go_on : Answer → (ℕ → Answer) → Answer
go_on (fine n e) f = f n
go_on (fault c p j) f = fault c p j

-- the answer in a table of `room` nodes, of which `fill` are taken
abbrev pub answer : ℕ → ℕ → Script → Answer
answer room fill (done e) = fine fill e
answer room fill (refuse c p j) = fault (cause_number c) p j
answer room fill (write n p j r) = if_fits (nat_le (fill + n) room) p j (answer room (fill + n) r)
answer room fill (part r k) = go_on (answer room fill r) (λ n. answer room n k)
