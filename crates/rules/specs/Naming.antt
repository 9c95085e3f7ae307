-- What a constant rests on, and what it carries; classifiers by name.
use Rattle.std.specs.Prelude.{ℕ, zero, suc, Bool, false, cond, ◌||◌, List, [], ◌∷◌, ◌++◌, length, ◌==◌}
use Rattle.rules.specs.Expression.{Head, con, idx, Exp, typ, pi, lam, app, nil, arg}
use Rattle.rules.specs.Stored.{Heads}
use Rattle.rules.specs.Book.{Book, entry, signature}

-- Constant n names each constant that heads a node of its classifier.
abbrev pub Names : Book → ℕ → ℕ → Type 0
Names b n c = Heads c (signature b n)

-- Constant n rests on itself and on all that it reaches by naming.
pub data RestsOn (b : Book) : ℕ → ℕ → Type 0 where
  on_itself : {n : ℕ} → RestsOn b n n
  on_named : {n c k : ℕ} → Names b n c → RestsOn b c k → RestsOn b n k

-- does a constant that heads a node of the expression pass the test?
abbrev pub some_head : (ℕ → Bool) → Exp → Bool
some_head t (typ p) = false
some_head t (pi a b p) = some_head t a || some_head t b
some_head t (lam m p) = some_head t m
some_head t (app (con c) s p) = t c || some_head t s
some_head t (app (idx i) s p) = some_head t s
some_head t nil = false
some_head t (arg m s) = some_head t m || some_head t s

-- does n reach k by naming, in m steps at most?
abbrev pub reaches : Book → ℕ → ℕ → ℕ → Bool
reaches b zero n k = n == k
reaches b (suc m) n k = n == k || some_head (λ c. reaches b m c k) (signature b n)

-- the numbers below n that pass the test, ascending
abbrev pub passing : (ℕ → Bool) → ℕ → List ℕ
passing t zero = []
passing t (suc n) = passing t n ++ cond (t n) (n ∷ []) []

-- The constants that n rests on, and those that rest on n. A constant names only lower ones, so as many steps as its number suffice.
abbrev pub rests_on : Book → ℕ → List ℕ
rests_on b n = passing (λ k. reaches b n n k) (length b)

abbrev pub carries : Book → ℕ → List ℕ
carries b n = passing (λ k. reaches b k k n) (length b)

-- An expression with names in the place of constant numbers, and no places.
pub data NamedHead : Type 0 where
  named : List ℕ → NamedHead
  index : ℕ → NamedHead

pub data Named : Type 0 where
  named_typ : Named
  named_pi : Named → Named → Named
  named_lam : Named → Named
  named_app : NamedHead → Named → Named
  named_nil : Named
  named_arg : Named → Named → Named

abbrev pub head_by_name : Book → Head → NamedHead
head_by_name b (con c) = named (entry b c).name
head_by_name b (idx i) = index i

-- Classifiers are the same by name when these are equal.
abbrev pub by_name : Book → Exp → Named
by_name b (typ p) = named_typ
by_name b (pi x y p) = named_pi (by_name b x) (by_name b y)
by_name b (lam m p) = named_lam (by_name b m)
by_name b (app h s p) = named_app (head_by_name b h) (by_name b s)
by_name b nil = named_nil
by_name b (arg m s) = named_arg (by_name b m) (by_name b s)
