-- The order in which the nodes of an expression are stored, and the classifiers that a store may hold.
use Rattle.std.specs.Prelude.{◌≡◌, ℕ, suc, pred, ◌+◌, ◌<◌, ◌⊎◌, List, [], ◌∷◌, ◌++◌}
use Rattle.rules.specs.Expression.{Head, con, idx, Exp, typ, pi, lam, app, nil, arg, size, plain}

-- A node: its kind, the numbers of its children, and its place.
pub data Node : Type 0 where
  typ_node : ℕ → Node
  pi_node : ℕ → ℕ → ℕ → Node
  lam_node : ℕ → ℕ → Node
  app_node : Head → ℕ → ℕ → Node
  nil_node : Node
  arg_node : ℕ → ℕ → Node

-- the number of the node of e itself, where the first node of e has the number k: it comes last
abbrev pub root : ℕ → Exp → ℕ
root k e = pred (k + size e)

-- The nodes of e, the first having the number k: those of each child, left first, and then the node.
abbrev pub stored : ℕ → Exp → List Node
stored k (typ p) = typ_node p ∷ []
stored k (pi a b p) = stored k a ++ stored (k + size a) b ++ pi_node (root k a) (root (k + size a) b) p ∷ []
stored k (lam m p) = stored k m ++ lam_node (root k m) p ∷ []
stored k (app h s p) = stored k s ++ app_node h (root k s) p ∷ []
stored k nil = nil_node ∷ []
stored k (arg m s) = stored k m ++ stored (k + size m) s ++ arg_node (root k m) (root (k + size m) s) ∷ []

-- The trees that are expressions, and those that are spines: each child is of the sort that belongs there.
abbrev mutual
  pub IsExp : Exp → Type 0
  IsExp (typ p) = Unit {0}
  IsExp (pi a b p) = IsExp a × IsExp b
  IsExp (lam m p) = IsExp m
  IsExp (app h s p) = IsSpine s
  IsExp nil = ⊥
  IsExp (arg m s) = ⊥

  pub IsSpine : Exp → Type 0
  IsSpine (typ p) = ⊥
  IsSpine (pi a b p) = ⊥
  IsSpine (lam m p) = ⊥
  IsSpine (app h s p) = ⊥
  IsSpine nil = Unit {0}
  IsSpine (arg m s) = IsExp m × IsSpine s

-- under d binders, each index finds a binder
abbrev pub ClosedHead : ℕ → Head → Type 0
ClosedHead d (con c) = Unit {0}
ClosedHead d (idx i) = i < d

abbrev pub Closed : ℕ → Exp → Type 0
Closed d (typ p) = Unit {0}
Closed d (pi a b p) = Closed d a × Closed (suc d) b
Closed d (lam m p) = Closed (suc d) m
Closed d (app h s p) = ClosedHead d h × Closed d s
Closed d nil = Unit {0}
Closed d (arg m s) = Closed d m × Closed d s

-- the constant c heads a node of the expression
abbrev pub HeadIs : ℕ → Head → Type 0
HeadIs c (con d) = c ≡ d
HeadIs c (idx i) = ⊥

abbrev pub Heads : ℕ → Exp → Type 0
Heads c (typ p) = ⊥
Heads c (pi a b p) = Heads c a ⊎ Heads c b
Heads c (lam m p) = Heads c m
Heads c (app h s p) = HeadIs c h ⊎ Heads c s
Heads c nil = ⊥
Heads c (arg m s) = Heads c m ⊎ Heads c s

-- A lawful classifier of constant n: a closed expression without places, all of whose constants are below n.
pub record Lawful (n : ℕ) (e : Exp) : Type 0 where
  pub expression : IsExp e
  pub closed : Closed 0 e
  pub below : (c : ℕ) → Heads c e → c < n
  pub placeless : plain e ≡ e
