-- The derivations of the four judgements, each with its number: the nodes that it writes.
use Rattle.std.specs.Prelude.{◌≡◌, ℕ, ◌+◌, true, false, ◌∷◌}
use Rattle.rules.specs.Expression.{Head, con, Exp, typ, pi, lam, app, nil, arg, size, plain, is_pi, is_kind, shape}
use Rattle.rules.specs.Substitution.{put, made}
use Rattle.rules.specs.Checking.{Context, Signature, brought, weight}

mutual
  -- Object sg g m q n: in the context g, m is an object against q
  pub data Object (sg : Signature) : Context → Exp → Exp → ℕ → Type 0 where
    -- an abstraction against a product, if its body, under the binder, is against the product's
    object_lam : {g : Context} {m a b : Exp} {p q n : ℕ} →
        Object sg (a ∷ g) m b n →
        Object sg g (lam m p) (pi a b q) n
    -- a head with its spine against what is no product, if the head's type is no kind, and the spine on it ends in an equal expression
    object_head : {g : Context} {h : Head} {s q e : Exp} {p n : ℕ} →
        is_pi q ≡ false →
        is_kind (brought sg g h) ≡ false →
        Spine sg g s (brought sg g h) e n →
        plain e ≡ plain q →
        Object sg g (app h s p) q (weight sg g h + n)

  -- Spine sg g s c e n: in the context g, the spine s on c ends in e
  pub data Spine (sg : Signature) : Context → Exp → Exp → Exp → ℕ → Type 0 where
    -- no argument, on what is no product
    spine_nil : {g : Context} {c : Exp} →
        is_pi c ≡ false →
        Spine sg g nil c c 0
    -- an argument on a product: it is against the left side, and the rest is on the right side with the argument put in
    spine_arg : {g : Context} {m s a b e b' : Exp} {q k n l : ℕ} →
        Object sg g m a k →
        put m (shape a) 0 b ≡ made n b' →
        Spine sg g s b' e l →
        Spine sg g (arg m s) (pi a b q) e (k + (n + l))

-- IsType sg g a n: in the context g, a is a type
pub data IsType (sg : Signature) : Context → Exp → ℕ → Type 0 where
  -- a product of types
  type_pi : {g : Context} {a b : Exp} {p m n : ℕ} →
      IsType sg g a m →
      IsType sg (a ∷ g) b n →
      IsType sg g (pi a b p) (m + n)
  -- a constant whose classifier is a kind, with a spine on it that ends in `type`
  type_constant : {g : Context} {s e : Exp} {c p n : ℕ} →
      is_kind (sg c) ≡ true →
      Spine sg g s (plain (sg c)) e n →
      plain e ≡ typ 0 →
      IsType sg g (app (con c) s p) (size (sg c) + n)

-- Classifier sg g a n: in the context g, a is a classifier, a kind or a type
pub data Classifier (sg : Signature) : Context → Exp → ℕ → Type 0 where
  classifier_typ : {g : Context} {p : ℕ} →
      Classifier sg g (typ p) 0
  classifier_pi : {g : Context} {a b : Exp} {p m n : ℕ} →
      IsType sg g a m →
      Classifier sg (a ∷ g) b n →
      Classifier sg g (pi a b p) (m + n)
  classifier_head : {g : Context} {h : Head} {s : Exp} {p n : ℕ} →
      IsType sg g (app h s p) n →
      Classifier sg g (app h s p) n
