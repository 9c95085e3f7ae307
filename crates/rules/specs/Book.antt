-- Books: the entries of a library, the oldest first. An entry's number is its place.
use Rattle.std.specs.Prelude.{ℕ, ◌+◌, List, [], ◌∷◌, map, Option, slice_index_or}
use Rattle.rules.specs.Expression.{Exp, typ, size}
use Rattle.rules.specs.Checking.{Signature}
use Rattle.rules.specs.Reading.{lookup}

pub record Entry : Type 0 where
  pub name : List ℕ
  pub classifier : Exp

abbrev pub Book : Type 0
Book = List Entry

-- the entry of a number; past the end, one with no name and `type`
abbrev pub entry : Book → ℕ → Entry
entry b n = slice_index_or b n (record { name = []; classifier = typ 0 })

-- the classifier of each constant
abbrev pub signature : Book → Signature
signature b n = (entry b n).classifier

abbrev pub names : Book → List (List ℕ)
names b = map (λ e. e.name) b

-- the number of the entry of a name
abbrev pub find : Book → List ℕ → Option ℕ
find b w = lookup 0 (names b) w

-- the nodes of all classifiers together
abbrev pub nodes : Book → ℕ
nodes [] = 0
nodes (e ∷ b) = size e.classifier + nodes b
