-- Expressions and spines of canonical LF, as one type of trees.
use Rattle.std.specs.Prelude.{ℕ, ◌+◌, Bool, true, false, ◌&&◌, ◌==◌}

-- A head is a constant's number or an index; index 0 is the innermost binder.
pub data Head : Type 0 where
  con : ℕ → Head
  idx : ℕ → Head

-- `type`; a product of a type A and what stands under its binder; an abstraction; a head with its spine;
-- and the spines: none, and an argument with the spine after it.
-- The last number is the place of the node's token in its text; it is 0 in nodes that were not made by reading.
pub data Exp : Type 0 where
  typ : ℕ → Exp
  pi : Exp → Exp → ℕ → Exp
  lam : Exp → ℕ → Exp
  app : Head → Exp → ℕ → Exp
  nil : Exp
  arg : Exp → Exp → Exp

-- the place of a node
abbrev pub place : Exp → ℕ
place (typ p) = p
place (pi a b p) = p
place (lam m p) = p
place (app h s p) = p
place nil = 0
place (arg m s) = 0

-- the number of nodes
abbrev pub size : Exp → ℕ
size (typ p) = 1
size (pi a b p) = 1 + size a + size b
size (lam m p) = 1 + size m
size (app h s p) = 1 + size s
size nil = 1
size (arg m s) = 1 + size m + size s

-- the same tree with every place 0; two expressions are equal when these are
abbrev pub plain : Exp → Exp
plain (typ p) = typ 0
plain (pi a b p) = pi (plain a) (plain b) 0
plain (lam m p) = lam (plain m) 0
plain (app h s p) = app h (plain s) 0
plain nil = nil
plain (arg m s) = arg (plain m) (plain s)

abbrev pub same_head : Head → Head → Bool
same_head (con a) (con b) = a == b
same_head (con a) (idx b) = false
same_head (idx a) (con b) = false
same_head (idx a) (idx b) = a == b

-- the test of that: are the trees equal, whatever their places?
abbrev pub same : Exp → Exp → Bool
same (typ p) (typ q) = true
same (typ p) (pi c d q) = false
same (typ p) (lam n q) = false
same (typ p) (app g t q) = false
same (typ p) nil = false
same (typ p) (arg n t) = false
same (pi a b p) (typ q) = false
same (pi a b p) (pi c d q) = same a c && same b d
same (pi a b p) (lam n q) = false
same (pi a b p) (app g t q) = false
same (pi a b p) nil = false
same (pi a b p) (arg n t) = false
same (lam m p) (typ q) = false
same (lam m p) (pi c d q) = false
same (lam m p) (lam n q) = same m n
same (lam m p) (app g t q) = false
same (lam m p) nil = false
same (lam m p) (arg n t) = false
same (app h s p) (typ q) = false
same (app h s p) (pi c d q) = false
same (app h s p) (lam n q) = false
same (app h s p) (app g t q) = same_head h g && same s t
same (app h s p) nil = false
same (app h s p) (arg n t) = false
same nil (typ q) = false
same nil (pi c d q) = false
same nil (lam n q) = false
same nil (app g t q) = false
same nil nil = true
same nil (arg n t) = false
same (arg m s) (typ q) = false
same (arg m s) (pi c d q) = false
same (arg m s) (lam n q) = false
same (arg m s) (app g t q) = false
same (arg m s) nil = false
same (arg m s) (arg n t) = same m n && same s t

-- is it a product?
abbrev pub is_pi : Exp → Bool
is_pi (typ p) = false
is_pi (pi a b p) = true
is_pi (lam m p) = false
is_pi (app h s p) = false
is_pi nil = false
is_pi (arg m s) = false

-- is it a kind: `type` after any number of products?
abbrev pub is_kind : Exp → Bool
is_kind (typ p) = true
is_kind (pi a b p) = is_kind b
is_kind (lam m p) = false
is_kind (app h s p) = false
is_kind nil = false
is_kind (arg m s) = false

-- The simple type that is left of a type when its dependencies are forgotten.
pub data Shape : Type 0 where
  base : Shape
  arrow : Shape → Shape → Shape

abbrev pub shape : Exp → Shape
shape (typ p) = base
shape (pi a b p) = arrow (shape a) (shape b)
shape (lam m p) = base
shape (app h s p) = base
shape nil = base
shape (arg m s) = base
