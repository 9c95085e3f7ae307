-- Logs: the calls made of one library, and what each answers by the log's book.
use Rattle.std.specs.Prelude.{ℕ, ◌+◌, Bool, true, false, cond, List, [], ◌∷◌, ◌++◌, length, Some, None, Ok, Err, Option, Result, nat_lt}
use Rattle.rules.specs.Expression.{Exp, size, plain}
use Rattle.rules.specs.Script.{Answer, fine, fault, answer, judgement_number}
use Rattle.rules.specs.Checking.{classifier, is_type, object}
use Rattle.rules.specs.Token.{bytes_of}
use Rattle.rules.specs.Reading.{Misread, Parsed, Declared, reading, declaring}
use Rattle.rules.specs.Refusal.{Refusal, refusal, declare_limits, claim_limits}
use Rattle.rules.specs.Book.{Entry, Book, signature, find}
use Rattle.rules.specs.Naming.{rests_on, carries}
use Rattle.rules.specs.Rule.{Rule}

-- A line is a call with its texts or its constant, and the length of its work table or number table.
pub data Line : Type 0 where
  declare : List ℕ → ℕ → Line
  claim : List ℕ → List ℕ → ℕ → Line
  count : Line
  look_up : List ℕ → Line
  ask_rests_on : ℕ → ℕ → Line
  ask_carries : ℕ → ℕ → Line
  seal : Line

-- The answers: a declare's constant and work number, a claim's work number, a count, what was looked up,
-- the numbers that a query lists, a refusal; and `barred` where the library is sealed and the call is none that a sealed one has.
pub data Reply : Type 0 where
  accepted : ℕ → ℕ → Reply
  proved : ℕ → Reply
  counted : ℕ → Reply
  found : Option ℕ → Reply
  listed : List ℕ → Reply
  sealed : Reply
  refused : Refusal → Reply
  barred : Reply

-- What a declare comes to: an entry with its work number, or a refusal.
pub data Verdict : Type 0 where
  enter : Entry → ℕ → Verdict
  reject : Refusal → Verdict

-- Of a declare, last question first. p is the place of the name.
-- is the store full?
abbrev pub if_room : Bool → ℕ → Entry → ℕ → Verdict
if_room true p e n = reject (refusal 43 0 p 0)
if_room false p e n = enter e n

-- is the expression a classifier?
abbrev pub if_classifier : Rule → Book → List ℕ → ℕ → Exp → Answer → Verdict
if_classifier r b w p a (fine n x) = if_room (r.full b w (size a)) p (record { name = w; classifier = plain a }) n
if_classifier r b w p a (fault c q j) = reject (refusal c 0 q (judgement_number j))

-- is the name new?
abbrev pub if_new : Rule → Book → ℕ → List ℕ → ℕ → Exp → Option ℕ → Verdict
if_new r b table w p a (Some c) = reject (refusal 42 0 p 0)
if_new r b table w p a None = if_classifier r b w p a (answer table (size a) (classifier (signature b) a []))

-- does it read?
abbrev pub if_declares : Rule → Book → List ℕ → ℕ → Result Declared Misread → Verdict
if_declares r b text table (Err f) = reject (refusal f.number 0 f.place 0)
if_declares r b text table (Ok d) = let w = bytes_of text d.name in if_new r b table w d.name.at d.tree (find b w)

-- does it keep the size limits?
abbrev pub if_within : Option Refusal → Verdict → Verdict
if_within (Some f) v = reject f
if_within None v = v

abbrev pub verdict : Rule → Book → List ℕ → ℕ → Verdict
verdict r b text table = let v = if_declares r b text table (declaring (find b) text) in if_within (declare_limits text table) v

-- Of a claim, last question first: is the proof against the statement?
abbrev pub if_proof : Answer → Reply
if_proof (fine n x) = proved n
if_proof (fault c p j) = refused (refusal c 1 p (judgement_number j))

-- is the statement a type?
abbrev pub if_statement : Book → ℕ → Exp → Exp → Answer → Reply
if_statement b table a m (fine n x) = if_proof (answer table n (object (signature b) m [] a))
if_statement b table a m (fault c p j) = refused (refusal c 0 p (judgement_number j))

-- does the proof read, does the statement?
abbrev pub if_proof_reads : Book → ℕ → Exp → Result Parsed Misread → Reply
if_proof_reads b table a (Err f) = refused (refusal f.number 1 f.place 0)
if_proof_reads b table a (Ok m) = if_statement b table a m.tree (answer table (size a + size m.tree) (is_type (signature b) a []))

abbrev pub if_statement_reads : Book → List ℕ → ℕ → Result Parsed Misread → Reply
if_statement_reads b proof table (Err f) = refused (refusal f.number 0 f.place 0)
if_statement_reads b proof table (Ok a) = if_proof_reads b table a.tree (reading (find b) proof)

-- do they keep the size limits?
abbrev pub if_claim_within : Option Refusal → Reply → Reply
if_claim_within (Some f) x = refused f
if_claim_within None x = x

abbrev pub claimed : Book → List ℕ → List ℕ → ℕ → Reply
claimed b statement proof table =
    let x = if_statement_reads b proof table (reading (find b) statement) in if_claim_within (claim_limits statement proof table) x

-- A query of the constant n with a number table of so many entries, whose answer is the list l.
abbrev pub queried : Book → ℕ → ℕ → List ℕ → Reply
queried b n table l = cond (nat_lt n (length b)) (cond (nat_lt table (length b)) (refused (refusal 52 0 0 0)) (listed l)) (refused (refusal 51 0 0 0))

-- what a declare answers, and the book after it
abbrev pub declared : Book → Verdict → Reply
declared b (enter e n) = accepted (length b) n
declared b (reject f) = refused f

abbrev pub entered : Book → Verdict → Book
entered b (enter e n) = b ++ e ∷ []
entered b (reject f) = b

-- A log's state: its book, and whether its library is sealed.
pub record State : Type 0 where
  pub book : Book
  pub is_sealed : Bool

-- the answer to a line
abbrev pub reply : Rule → State → Line → Reply
reply r s (declare text table) = let x = declared s.book (verdict r s.book text table) in cond s.is_sealed barred x
reply r s (claim statement proof table) = claimed s.book statement proof table
reply r s count = counted (length s.book)
reply r s (look_up w) = found (find s.book w)
reply r s (ask_rests_on n table) = queried s.book n table (rests_on s.book n)
reply r s (ask_carries n table) = queried s.book n table (carries s.book n)
reply r s seal = cond s.is_sealed barred sealed

-- the state after it: an accepted declare adds its entry, a sealing seals, and every other line leaves all as it is
abbrev pub next : Rule → State → Line → State
next r s (declare text table) = let b = entered s.book (verdict r s.book text table) in cond s.is_sealed s (record { book = b; is_sealed = false })
next r s (claim statement proof table) = s
next r s count = s
next r s (look_up w) = s
next r s (ask_rests_on n table) = s
next r s (ask_carries n table) = s
next r s seal = record { book = s.book; is_sealed = true }

abbrev pub run_from : Rule → State → List Line → List Reply
run_from r s [] = []
run_from r s (l ∷ ls) = reply r s l ∷ run_from r (next r s l) ls

-- What the lines of a log answer, over an empty store with the rule r.
abbrev pub run : Rule → List Line → List Reply
run r ls = run_from r (record { book = []; is_sealed = false }) ls
