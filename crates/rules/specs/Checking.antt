-- The four judgements as functions: the questions in their order, as scripts.
use Rattle.std.specs.Prelude.{ℕ, suc, List, ◌∷◌, slice_index_or}
use Rattle.rules.specs.Expression.{Head, con, idx, Exp, typ, pi, lam, app, nil, arg, place, size, plain, same, is_pi, is_kind, shape}
use Rattle.rules.specs.Substitution.{lift, put}
use Rattle.rules.specs.Script.{Script, done, refuse, write, part, bind, if_yes, if_no, substituted, classifier_judgement, type_judgement, object_judgement, spine_judgement, wrong_form, wrong_head, head_at_product, lam_at_no_product, too_few, too_many, unequal}

-- A context: the types of the open binders, the newest first.
abbrev pub Context : Type 0
Context = List Exp

-- A signature: the classifier of each constant.
abbrev pub Signature : Type 0
Signature = ℕ → Exp

-- What a head brings: a copy of the constant's classifier, or the binder's type lifted past the binders since; and the number of nodes of that.
abbrev pub brought : Signature → Context → Head → Exp
brought sg g (con c) = plain (sg c)
brought sg g (idx i) = lift (suc i) 0 (slice_index_or g i (typ 0))

abbrev pub weight : Signature → Context → Head → ℕ
weight sg g (con c) = size (sg c)
weight sg g (idx i) = size (slice_index_or g i (typ 0))

module _ (sg : Signature) where
  abbrev mutual
    -- object m g q: m, in the context g, against q
    pub object : Exp → Context → Exp → Script
    object (typ p) g q = refuse wrong_form p object_judgement
    object (pi a b p) g q = refuse wrong_form p object_judgement
    object (lam m p) g (pi a b r) = object m (a ∷ g) b
    object (lam m p) g (typ r) = refuse lam_at_no_product p object_judgement
    object (lam m p) g (lam n r) = refuse lam_at_no_product p object_judgement
    object (lam m p) g (app h s r) = refuse lam_at_no_product p object_judgement
    object (lam m p) g nil = refuse lam_at_no_product p object_judgement
    object (lam m p) g (arg n s) = refuse lam_at_no_product p object_judgement
    object (app h s p) g q =
        if_no (is_pi q) head_at_product p object_judgement
        (write (weight sg g h) p object_judgement
        (if_no (is_kind (brought sg g h)) wrong_head p object_judgement
        (bind (spine s g p (brought sg g h)) (λ e. if_yes (same e q) unequal p object_judgement (done nil)))))
    object nil g q = refuse wrong_form 0 object_judgement
    object (arg m s) g q = refuse wrong_form 0 object_judgement

    -- spine s g p c: the spine s, in the context g, of a head at the place p, on c; it ends in an expression
    pub spine : Exp → Context → ℕ → Exp → Script
    spine nil g p c = if_no (is_pi c) too_few p spine_judgement (done c)
    spine (arg m s) g p (pi a b q) = part (object m g a) (substituted (place m) spine_judgement (put m (shape a) 0 b) (λ e. spine s g p e))
    spine (arg m s) g p (typ q) = refuse too_many (place m) spine_judgement
    spine (arg m s) g p (lam n q) = refuse too_many (place m) spine_judgement
    spine (arg m s) g p (app h t q) = refuse too_many (place m) spine_judgement
    spine (arg m s) g p nil = refuse too_many (place m) spine_judgement
    spine (arg m s) g p (arg n t) = refuse too_many (place m) spine_judgement
    spine (typ q) g p c = refuse wrong_form 0 spine_judgement
    spine (pi a b q) g p c = refuse wrong_form 0 spine_judgement
    spine (lam m q) g p c = refuse wrong_form 0 spine_judgement
    spine (app h s q) g p c = refuse wrong_form 0 spine_judgement

  -- is_type a g: a is a type in the context g. A spine on a kind that ends at all ends in `type`.
  abbrev pub is_type : Exp → Context → Script
  is_type (typ p) g = refuse wrong_form p type_judgement
  is_type (pi a b p) g = part (is_type a g) (is_type b (a ∷ g))
  is_type (lam m p) g = refuse wrong_form p type_judgement
  is_type (app (idx i) s p) g = refuse wrong_head p type_judgement
  is_type (app (con c) s p) g =
      write (size (sg c)) p type_judgement
      (if_yes (is_kind (sg c)) wrong_head p type_judgement (bind (spine s g p (plain (sg c))) (λ _. done nil)))
  is_type nil g = refuse wrong_form 0 type_judgement
  is_type (arg m s) g = refuse wrong_form 0 type_judgement

  -- classifier a g: a is a classifier in the context g
  abbrev pub classifier : Exp → Context → Script
  classifier (typ p) g = done nil
  classifier (pi a b p) g = part (is_type a g) (classifier b (a ∷ g))
  classifier (lam m p) g = refuse wrong_form p classifier_judgement
  classifier (app h s p) g = is_type (app h s p) g
  classifier nil g = refuse wrong_form 0 classifier_judgement
  classifier (arg m s) g = refuse wrong_form 0 classifier_judgement
