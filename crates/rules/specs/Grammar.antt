-- The grammar, as a relation between the tokens of a text and expressions.
use Rattle.std.specs.Prelude.{◌≡◌, ℕ, ◌+◌, ◌<◌, List, [], ◌∷◌, length, Some, Option, ◌≢◌, slice_index_or}
use Rattle.rules.specs.Expression.{Head, con, idx, Exp, typ, pi, lam, app, nil, arg}
use Rattle.rules.specs.Token.{right_brace, right_bracket, right_paren, colon, arrow, text_end, Kind, name, type_word, left_paren, left_bracket, left_brace, mark, Token, token, next_token, bytes_of}
use Rattle.rules.specs.Reading.{Binders}

-- Is bs k p t: in the text bs, the token from the place p is t, of kind k
pub record Is (bs : List ℕ) (k : Kind) (p : ℕ) (t : Token) : Type 0 where
  pub token : next_token bs p ≡ t
  pub kind : t.kind ≡ k

-- the token from the place p begins no argument
pub record EndsArgs (bs : List ℕ) (p : ℕ) : Type 0 where
  pub no_name : (next_token bs p).kind ≡ name → ⊥
  pub no_type : (next_token bs p).kind ≡ type_word → ⊥
  pub no_paren : (next_token bs p).kind ≡ left_paren → ⊥
  pub no_bracket : (next_token bs p).kind ≡ left_bracket → ⊥

-- the token from the place p is no arrow
abbrev pub NoArrow : List ℕ → ℕ → Type 0
NoArrow bs p = (next_token bs p).kind ≡ mark arrow → ⊥

-- Means find g w h: under the open binders g the name w means the head h:
-- the newest binder of that name, and the constant of that name if no binder has it.
pub data Means (find : List ℕ → Option ℕ) (g : Binders) (w : List ℕ) : Head → Type 0 where
  a_binder : {i : ℕ} → i < length g → slice_index_or g i [] ≡ w → ((j : ℕ) → j < i → slice_index_or g j [] ≢ w) → Means find g w (idx i)
  a_constant : {c : ℕ} → ((j : ℕ) → j < length g → slice_index_or g j [] ≢ w) → find w ≡ Some c → Means find g w (con c)

-- what stands at depth d may open something one deeper
abbrev pub MayOpen : ℕ → Type 0
MayOpen d = d < 64

-- the parts of the grammar; an abstraction and a group in parentheses each stand in two of its lines
pub data Sort : Type 0 where
  exp abstraction application args atom group : Sort

-- Form find bs sort g d p e q: under the open binders g, at depth d, the text from the place p up to q is of a sort and stands for e.
-- `find` gives the constant of a name.
pub data Form (find : List ℕ → Option ℕ) (bs : List ℕ) : Sort → Binders → ℕ → ℕ → Exp → ℕ → Type 0 where
  -- exp = `{` name `:` exp `}` exp
  form_pi : {g : Binders} {d p q r : ℕ} {t x o c : Token} {a b : Exp} →
      Is bs left_brace p t → Is bs name t.end x → Is bs (mark colon) x.end o → MayOpen d →
      Form find bs exp g (d + 1) o.end a q → Is bs (mark right_brace) q c →
      Form find bs exp (bytes_of bs x ∷ g) (d + 1) c.end b r →
      Form find bs exp g d p (pi a b t.at) r
  -- exp = abstraction
  form_abstraction : {g : Binders} {d p q : ℕ} {a : Exp} →
      Form find bs abstraction g d p a q →
      Form find bs exp g d p a q
  -- exp = app, where no arrow follows
  form_app : {g : Binders} {d p q : ℕ} {a : Exp} →
      Form find bs application g d p a q → NoArrow bs q →
      Form find bs exp g d p a q
  -- exp = app `->` exp
  form_arrow : {g : Binders} {d p q r : ℕ} {u : Token} {a b : Exp} →
      Form find bs application g d p a q → Is bs (mark arrow) q u → MayOpen d →
      Form find bs exp ([] ∷ g) (d + 1) u.end b r →
      Form find bs exp g d p (pi a b u.at) r
  -- abstraction = `[` name `]` exp
  form_lam : {g : Binders} {d p q : ℕ} {t x o : Token} {m : Exp} →
      Is bs left_bracket p t → Is bs name t.end x → Is bs (mark right_bracket) x.end o → MayOpen d →
      Form find bs exp (bytes_of bs x ∷ g) (d + 1) o.end m q →
      Form find bs abstraction g d p (lam m t.at) q
  -- app = `type` | `(` exp `)` | name args
  app_type : {g : Binders} {d p : ℕ} {t : Token} →
      Is bs type_word p t →
      Form find bs application g d p (typ t.at) t.end
  app_group : {g : Binders} {d p q : ℕ} {a : Exp} →
      Form find bs group g d p a q →
      Form find bs application g d p a q
  app_head : {g : Binders} {d p q : ℕ} {t : Token} {h : Head} {s : Exp} →
      Is bs name p t → Means find g (bytes_of bs t) h → Form find bs args g d t.end s q →
      Form find bs application g d p (app h s t.at) q
  -- group = `(` exp `)`
  form_group : {g : Binders} {d p q : ℕ} {t c : Token} {a : Exp} →
      Is bs left_paren p t → MayOpen d → Form find bs exp g (d + 1) t.end a q → Is bs (mark right_paren) q c →
      Form find bs group g d p a c.end
  -- args = nothing, where no argument follows | atom args | abstraction
  args_none : {g : Binders} {d p : ℕ} →
      EndsArgs bs p →
      Form find bs args g d p nil p
  args_more : {g : Binders} {d p q r : ℕ} {m s : Exp} →
      Form find bs atom g d p m q → Form find bs args g d q s r →
      Form find bs args g d p (arg m s) r
  args_last : {g : Binders} {d p q : ℕ} {m : Exp} →
      Form find bs abstraction g d p m q →
      Form find bs args g d p (arg m nil) q
  -- atom = name | `type` | `(` exp `)`
  atom_name : {g : Binders} {d p : ℕ} {t : Token} {h : Head} →
      Is bs name p t → Means find g (bytes_of bs t) h →
      Form find bs atom g d p (app h nil t.at) t.end
  atom_type : {g : Binders} {d p : ℕ} {t : Token} →
      Is bs type_word p t →
      Form find bs atom g d p (typ t.at) t.end
  atom_group : {g : Binders} {d p q : ℕ} {a : Exp} →
      Form find bs group g d p a q →
      Form find bs atom g d p a q

-- The whole text, a statement or a proof, stands for e.
pub record Text (find : List ℕ → Option ℕ) (bs : List ℕ) (e : Exp) : Type 0 where
  pub last : ℕ
  pub form : Form find bs exp [] 0 0 e last
  pub ends : (next_token bs last).kind ≡ mark text_end

-- The whole text declares the name at the token x with the classifier e.
pub record Declaration (find : List ℕ → Option ℕ) (bs : List ℕ) (x : Token) (e : Exp) : Type 0 where
  pub colon_token : Token
  pub last : ℕ
  pub name_is : Is bs name 0 x
  pub colon_is : Is bs (mark colon) x.end colon_token
  pub form : Form find bs exp [] 0 colon_token.end e last
  pub ends : (next_token bs last).kind ≡ mark text_end

-- the bytes are one name
abbrev pub NameReads : List ℕ → Type 0
NameReads w = next_token w 0 ≡ token name 0 (length w)

-- the places at which the search for a token of the text begins, from the front on
pub data Reached (bs : List ℕ) : ℕ → Type 0 where
  front : Reached bs 0
  onward : {p : ℕ} → Reached bs p → Reached bs (next_token bs p).end

-- w is a name in the text
pub record NameIn (bs w : List ℕ) : Type 0 where
  pub place : ℕ
  pub reached : Reached bs place
  pub is_name : (next_token bs place).kind ≡ name
  pub bytes : bytes_of bs (next_token bs place) ≡ w
