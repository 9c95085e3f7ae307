-- When a store is full: the rule of each store kind.
use Rattle.std.specs.Prelude.{◌≡◌, ℕ, ◌+◌, ◌<◌, ◌≤◌, Bool, true, false, cond, ◌||◌, List, [], ◌∷◌, length, Some, None, Option, ◌==◌, nat_le, nat_lt}
use Rattle.std.specs.Str.{bytes_eq}
use Rattle.rules.specs.Book.{Book, nodes}

-- A rule: the three numbers of a store kind, and whether a store that means the book is full for an entry of this name and size.
pub record Rule : Type 0 where
  pub cap : ℕ
  pub floor_constants : ℕ
  pub floor_nodes : ℕ
  pub full : Book → List ℕ → ℕ → Bool

-- What holds of the rule of every store kind.
pub record LawfulRule (r : Rule) : Type 0 where
  pub cap_at_most : r.cap ≤ 1024
  pub constants_at_least : 16 ≤ r.floor_constants
  pub nodes_at_least : 1024 ≤ r.floor_nodes
  pub full_at_cap : (b : Book) (w : List ℕ) (n : ℕ) → r.cap ≤ length b → r.full b w n ≡ true
  pub room_below : (b : Book) (w : List ℕ) (n : ℕ) → length b < r.floor_constants → nodes b + n ≤ r.floor_nodes → r.full b w n ≡ false

-- the flat table: 256 constants and 2,048 nodes
abbrev pub flat : Rule
flat = record {
  cap = 256;
  floor_constants = 256;
  floor_nodes = 2048;
  full = λ b w n. nat_le 256 (length b) || nat_lt 2048 (nodes b + n);
}

-- The module of a name is what stands before its last `/`; a name without one has none.
abbrev pub longer : ℕ → Option (List ℕ) → Option (List ℕ)
longer x None = cond (x == 47) (Some []) None
longer x (Some m) = Some (x ∷ m)

abbrev pub module_of : List ℕ → Option (List ℕ)
module_of [] = None
module_of (x ∷ xs) = longer x (module_of xs)

-- is the module among these?
abbrev pub has_module : List (List ℕ) → List ℕ → Bool
has_module [] m = false
has_module (x ∷ xs) m = bytes_eq x m || has_module xs m

abbrev pub with_module : Option (List ℕ) → List (List ℕ) → List (List ℕ)
with_module None ms = ms
with_module (Some m) ms = cond (has_module ms m) ms (m ∷ ms)

-- the modules of a book's names, each once
abbrev pub modules : Book → List (List ℕ)
modules [] = []
modules (e ∷ b) = with_module (module_of e.name) (modules b)

-- the module table: 128 constants, 2,048 nodes and 16 modules
abbrev pub modular : Rule
modular = record {
  cap = 128;
  floor_constants = 16;
  floor_nodes = 2048;
  full = λ b w n. nat_le 128 (length b) || (nat_lt 2048 (nodes b + n) || nat_lt 16 (length (with_module (module_of w) (modules b))));
}
