-- Lift, put and apply: hereditary substitution, with the number of nodes that it writes.
use Rattle.std.specs.Prelude.{ℕ, suc, ◌+◌, ◌-◌, cond, nat_le}
use Prim.Native.Nat.{compare, Ordering}
use Rattle.rules.specs.Expression.{Head, con, idx, Exp, typ, pi, lam, app, nil, arg, size, Shape, base, arrow}

-- lift d c e: every index of at least c raised by d, c growing by 1 below each binder. It writes as many nodes as e has.
abbrev pub lift_head : ℕ → ℕ → Head → Head
lift_head d c (con n) = con n
lift_head d c (idx i) = idx (cond (nat_le c i) (i + d) i)

abbrev pub lift : ℕ → ℕ → Exp → Exp
lift d c (typ p) = typ 0
lift d c (pi a b p) = pi (lift d c a) (lift d (suc c) b) 0
lift d c (lam m p) = lam (lift d (suc c) m) 0
lift d c (app h s p) = app (lift_head d c h) (lift d c s) 0
lift d c nil = nil
lift d c (arg m s) = arg (lift d c m) (lift d c s)

-- What a substitution comes to: a result with the number of nodes written,
-- or no result, with the number of nodes written up to where there is none.
pub data Written : Type 0 where
  made : ℕ → Exp → Written
  lost : ℕ → Written

-- n nodes before what is written
abbrev pub also : ℕ → Written → Written
also n (made m e) = made (n + m) e
also n (lost m) = lost (n + m)

-- one part, and with its result the rest
abbrev pub then : Written → (Exp → Written) → Written
then (made n e) f = also n (f e)
then (lost n) f = lost n

-- One node, counted before its parts.
abbrev pub node_1 : (Exp → Exp) → Written → Written
node_1 f x = also 1 (then x (λ a. made 0 (f a)))

abbrev pub node_2 : (Exp → Exp → Exp) → Written → Written → Written
node_2 f x y = also 1 (then x (λ a. then y (λ b. made 0 (f a b))))

-- At the index i: below k it stays, above k it falls by 1, and at k the spine, M lifted by k, and apply of these; s is what was written of the spine.
abbrev pub put_index : (Exp → Exp → Written) → Exp → ℕ → ℕ → Ordering → Written → Written
put_index ap m k i Ordering.lt s = node_1 (λ t. app (idx i) t 0) s
put_index ap m k i Ordering.eq s = then s (λ t. also (size m) (ap (lift k 0 m) t))
put_index ap m k i Ordering.gt s = node_1 (λ t. app (idx (i - 1)) t 0) s

abbrev pub put_head : (Exp → Exp → Written) → Exp → ℕ → Head → Written → Written
put_head ap m k (con c) s = node_1 (λ t. app (con c) t 0) s
put_head ap m k (idx i) s = put_index ap m k i (compare i k) s

-- The walk of put over an expression; `ap` is apply at the shape of what is put.
abbrev pub walk : (Exp → Exp → Written) → Exp → ℕ → Exp → Written
walk ap m k (typ p) = made 1 (typ 0)
walk ap m k (pi a b p) = node_2 (λ x y. pi x y 0) (walk ap m k a) (walk ap m (suc k) b)
walk ap m k (lam n p) = node_1 (λ x. lam x 0) (walk ap m (suc k) n)
walk ap m k (app h s p) = put_head ap m k h (walk ap m k s)
walk ap m k nil = made 1 nil
walk ap m k (arg n s) = node_2 (λ x y. arg x y) (walk ap m k n) (walk ap m k s)

-- apply at base: a head with its spine, to no arguments
abbrev pub apply_base : Exp → Exp → Written
apply_base (app h t p) nil = made 0 (app h t p)
apply_base (app h t p) (typ q) = lost 0
apply_base (app h t p) (pi a b q) = lost 0
apply_base (app h t p) (lam n q) = lost 0
apply_base (app h t p) (app g u q) = lost 0
apply_base (app h t p) (arg n u) = lost 0
apply_base (typ p) s = lost 0
apply_base (pi a b p) s = lost 0
apply_base (lam m p) s = lost 0
apply_base nil s = lost 0
apply_base (arg m u) s = lost 0

-- apply at an arrow: an abstraction, to an argument and more; `ap` is apply at the arrow's left side, `next` at its right
abbrev pub apply_lam : (Exp → Exp → Written) → (Exp → Exp → Written) → Exp → Exp → Written
apply_lam ap next m (arg n s) = then (walk ap n 0 m) (λ x. next x s)
apply_lam ap next m (typ q) = lost 0
apply_lam ap next m (pi a b q) = lost 0
apply_lam ap next m (lam n q) = lost 0
apply_lam ap next m (app g u q) = lost 0
apply_lam ap next m nil = lost 0

abbrev pub apply_arrow : (Exp → Exp → Written) → (Exp → Exp → Written) → Exp → Exp → Written
apply_arrow ap next (lam m p) s = apply_lam ap next m s
apply_arrow ap next (typ p) s = lost 0
apply_arrow ap next (pi a b p) s = lost 0
apply_arrow ap next (app h t p) s = lost 0
apply_arrow ap next nil s = lost 0
apply_arrow ap next (arg m u) s = lost 0

-- apply a f s: f at the shape a, applied to the spine s
abbrev pub apply : Shape → Exp → Exp → Written
apply base = apply_base
apply (arrow a b) = apply_arrow (apply a) (apply b)

-- put m a k e: m, of the shape a, in the place of index k in e
abbrev pub put : Exp → Shape → ℕ → Exp → Written
put m a k e = walk (apply a) m k e
