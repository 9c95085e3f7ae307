-- Reading a text by the grammar, up to its first fault.
use Rattle.std.specs.Prelude.{ℕ, zero, suc, ◌+◌, Bool, cond, List, [], ◌∷◌, length, Some, None, Ok, Err, Option, Result, ◌==◌, nat_lt}
use Rattle.std.specs.Str.{bytes_eq}
use Rattle.rules.specs.Expression.{Head, con, idx, Exp, typ, pi, lam, app, nil, arg}
use Rattle.rules.specs.Token.{Mark, right_brace, right_bracket, right_paren, colon, arrow, text_end, stray, overlong, Kind, name, type_word, left_paren, left_bracket, left_brace, mark, Token, next_token, bytes_of}

-- a fault of reading: its number and its place
pub record Misread : Type 0 where
  pub number : ℕ
  pub place : ℕ

abbrev pub misread : {A : Type 0} → ℕ → ℕ → Result A Misread
misread n p = Err (record { number = n; place = p })

-- one step, and with what it gives the next
infixl 20 ◌>>=◌
abbrev pub ◌>>=◌ : {A B : Type 0} → Result A Misread → (A → Result B Misread) → Result B Misread
Ok a >>= f = f a
Err e >>= f = Err e

-- an expression that was read, and the place after it
pub record Parsed : Type 0 where
  pub tree : Exp
  pub end : ℕ

abbrev pub parsed : Exp → ℕ → Result Parsed Misread
parsed e p = Ok (record { tree = e; end = p })

-- a declaration that was read: the token of its name, and its classifier
pub record Declared : Type 0 where
  pub name : Token
  pub tree : Exp

-- The names of the open binders, the newest first. The binder of an arrow has none, which no name in a text equals.
abbrev pub Binders : Type 0
Binders = List (List ℕ)

-- the place of the first entry that is w, the first entry having the place i
abbrev pub lookup : ℕ → List (List ℕ) → List ℕ → Option ℕ
lookup i [] w = None
lookup i (x ∷ xs) w = let later = lookup (i + 1) xs w in cond (bytes_eq x w) (Some i) later

-- the newest binder of the name, else the constant
abbrev pub head_of : Option ℕ → Option ℕ → ℕ → Result Head Misread
head_of (Some i) constant p = Ok (idx i)
head_of None (Some c) p = Ok (con c)
head_of None None p = misread 21 p

-- the place after a token that opens an expression one deeper than d
abbrev pub opens : Token → ℕ → Result ℕ Misread
opens t d = cond (nat_lt d 64) (Ok t.end) (misread 16 t.at)

-- the number of the fault of a token that is not the one wanted: it begins no token, it is too long a name, or it does not fit the grammar
abbrev pub misfit_mark : Mark → ℕ
misfit_mark stray = 13
misfit_mark overlong = 14
misfit_mark right_brace = 15
misfit_mark right_bracket = 15
misfit_mark right_paren = 15
misfit_mark colon = 15
misfit_mark arrow = 15
misfit_mark text_end = 15

abbrev pub misfit : Kind → ℕ
misfit (mark m) = misfit_mark m
misfit name = 15
misfit type_word = 15
misfit left_paren = 15
misfit left_bracket = 15
misfit left_brace = 15

abbrev pub mark_number : Mark → ℕ
mark_number right_brace = 5
mark_number right_bracket = 6
mark_number right_paren = 7
mark_number colon = 8
mark_number arrow = 9
mark_number text_end = 10
mark_number stray = 11
mark_number overlong = 12

abbrev pub kind_number : Kind → ℕ
kind_number name = 0
kind_number type_word = 1
kind_number left_paren = 2
kind_number left_bracket = 3
kind_number left_brace = 4
kind_number (mark m) = mark_number m

abbrev pub same_kind : Kind → Kind → Bool
same_kind k j = kind_number k == kind_number j

-- what reads a part of a text under open binders, at a depth, from a place
abbrev pub Reader : Type 0
Reader = Binders → ℕ → ℕ → Result Parsed Misread

-- the token from p, which has to be of kind k
unfoldable pub expect : List ℕ → Kind → ℕ → Result Token Misread
expect bs k p = let t = next_token bs p in cond (same_kind t.kind k) (Ok t) (misread (misfit t.kind) t.at)

-- `find` gives the constant of a name, `bs` is the text.
module _ (find : List ℕ → Option ℕ) (bs : List ℕ) where
  -- what a name means as a head
  unfoldable pub head : Binders → Token → Result Head Misread
  head g t = head_of (lookup 0 g (bytes_of bs t)) (find (bytes_of bs t)) t.at

  -- In what follows t is the token that stands first, g the open binders, d the depth, exp and args the readers of the parts.
  -- after `[`: name `]` exp
  abbrev pub read_lam : Reader → Binders → ℕ → Token → Result Parsed Misread
  read_lam exp g d t =
      expect bs name t.end >>= λ x. expect bs (mark right_bracket) x.end >>= λ o. opens o d >>= λ q.
      exp (bytes_of bs x ∷ g) (d + 1) q >>= λ m. parsed (lam m.tree t.at) m.end

  -- after `{`: name `:` exp `}` exp
  abbrev pub read_pi : Reader → Binders → ℕ → Token → Result Parsed Misread
  read_pi exp g d t =
      expect bs name t.end >>= λ x. expect bs (mark colon) x.end >>= λ o. opens o d >>= λ q. exp g (d + 1) q >>= λ a.
      expect bs (mark right_brace) a.end >>= λ c. opens c d >>= λ r. exp (bytes_of bs x ∷ g) (d + 1) r >>= λ b.
      parsed (pi a.tree b.tree t.at) b.end

  -- after `(`: exp `)`
  abbrev pub read_group : Reader → Binders → ℕ → Token → Result Parsed Misread
  read_group exp g d t = opens t d >>= λ q. exp g (d + 1) q >>= λ e. expect bs (mark right_paren) e.end >>= λ c. parsed e.tree c.end

  -- atom = name | `type` | `(` exp `)`
  abbrev pub read_atom : Reader → Binders → ℕ → Token → Kind → Result Parsed Misread
  read_atom exp g d t name = head g t >>= λ h. parsed (app h nil t.at) t.end
  read_atom exp g d t type_word = parsed (typ t.at) t.end
  read_atom exp g d t left_paren = read_group exp g d t
  read_atom exp g d t left_bracket = misread 15 t.at
  read_atom exp g d t left_brace = misread 15 t.at
  read_atom exp g d t (mark m) = misread (misfit_mark m) t.at

  -- app = `type` | `(` exp `)` | name args
  abbrev pub read_app : Reader → Reader → Binders → ℕ → Token → Kind → Result Parsed Misread
  read_app exp args g d t name = head g t >>= λ h. args g d t.end >>= λ s. parsed (app h s.tree t.at) s.end
  read_app exp args g d t type_word = parsed (typ t.at) t.end
  read_app exp args g d t left_paren = read_group exp g d t
  read_app exp args g d t left_bracket = misread 15 t.at
  read_app exp args g d t left_brace = misread 15 t.at
  read_app exp args g d t (mark m) = misread (misfit_mark m) t.at

  -- after an app that was read, where the next token is t: `->` exp, if t is an arrow
  abbrev pub read_right : Reader → Binders → ℕ → Parsed → Token → Result Parsed Misread
  read_right exp g d a t = opens t d >>= λ q. exp ([] ∷ g) (d + 1) q >>= λ b. parsed (pi a.tree b.tree t.at) b.end

  abbrev pub read_arrow : Reader → Binders → ℕ → Parsed → Token → Kind → Result Parsed Misread
  read_arrow exp g d a t (mark arrow) = read_right exp g d a t
  read_arrow exp g d a t (mark right_brace) = Ok a
  read_arrow exp g d a t (mark right_bracket) = Ok a
  read_arrow exp g d a t (mark right_paren) = Ok a
  read_arrow exp g d a t (mark colon) = Ok a
  read_arrow exp g d a t (mark text_end) = Ok a
  read_arrow exp g d a t (mark stray) = Ok a
  read_arrow exp g d a t (mark overlong) = Ok a
  read_arrow exp g d a t name = Ok a
  read_arrow exp g d a t type_word = Ok a
  read_arrow exp g d a t left_paren = Ok a
  read_arrow exp g d a t left_bracket = Ok a
  read_arrow exp g d a t left_brace = Ok a

  -- app | app `->` exp
  abbrev pub read_plain : Reader → Reader → Binders → ℕ → Token → Result Parsed Misread
  read_plain exp args g d t =
      read_app exp args g d t t.kind >>= λ a. let u = next_token bs a.end in read_arrow exp g d a u u.kind

  -- exp = `{` name `:` exp `}` exp | `[` name `]` exp | app | app `->` exp
  abbrev pub exp_by : Reader → Reader → Binders → ℕ → Token → Kind → Result Parsed Misread
  exp_by exp args g d t left_brace = read_pi exp g d t
  exp_by exp args g d t left_bracket = read_lam exp g d t
  exp_by exp args g d t name = read_plain exp args g d t
  exp_by exp args g d t type_word = read_plain exp args g d t
  exp_by exp args g d t left_paren = read_plain exp args g d t
  exp_by exp args g d t (mark m) = misread (misfit_mark m) t.at

  -- atom args
  abbrev pub read_more : Reader → Reader → Binders → ℕ → Token → Result Parsed Misread
  read_more exp args g d t = read_atom exp g d t t.kind >>= λ m. args g d m.end >>= λ s. parsed (arg m.tree s.tree) s.end

  -- args = nothing | atom args | `[` name `]` exp; p is the place where nothing ends
  abbrev pub args_by : Reader → Reader → Binders → ℕ → ℕ → Token → Kind → Result Parsed Misread
  args_by exp args g d p t left_bracket = read_lam exp g d t >>= λ m. parsed (arg m.tree nil) m.end
  args_by exp args g d p t name = read_more exp args g d t
  args_by exp args g d p t type_word = read_more exp args g d t
  args_by exp args g d p t left_paren = read_more exp args g d t
  args_by exp args g d p t left_brace = parsed nil p
  args_by exp args g d p t (mark m) = parsed nil p

  -- exp and args in n levels of calls at most. Each call takes a byte before it calls on, so that more levels than bytes are left suffice;
  -- the number 0 stands for too few.
  unfoldable mutual
    pub read_exp : ℕ → Reader
    read_exp zero g d p = misread 0 p
    read_exp (suc n) g d p = let t = next_token bs p in exp_by (read_exp n) (read_args n) g d t t.kind

    pub read_args : ℕ → Reader
    read_args zero g d p = misread 0 p
    read_args (suc n) g d p = let t = next_token bs p in args_by (read_exp n) (read_args n) g d p t t.kind

  -- a statement or a proof: an expression, and then the end
  unfoldable pub reading : Result Parsed Misread
  reading = read_exp (suc (length bs)) [] 0 0 >>= λ e. expect bs (mark text_end) e.end >>= λ t. Ok e

  -- a declaration: a name, `:`, an expression, and then the end
  unfoldable pub declaring : Result Declared Misread
  declaring =
      expect bs name 0 >>= λ x. expect bs (mark colon) x.end >>= λ o. read_exp (suc (length bs)) [] 0 o.end >>= λ e.
      expect bs (mark text_end) e.end >>= λ t. Ok (record { name = x; tree = e.tree })
