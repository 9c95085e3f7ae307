-- The tokens of a text. Every byte that is no blank begins one: also a byte that begins no token of the grammar, and a name that is too long.
use Rattle.std.specs.Prelude.{ℕ, suc, ◌+◌, ◌-◌, Bool, false, cond, not, ◌||◌, List, [], ◌∷◌, take, drop, ◌==◌, nat_lt}
use Rattle.std.specs.Char.{is_ascii_alphabetic, is_ascii_digit}
use Rattle.std.specs.List.{prefix_len}
use Rattle.std.specs.Str.{bytes_eq}

-- The tokens that begin no expression. `stray` is a byte that begins no token, `overlong` a name of more than 32 bytes.
pub data Mark : Type 0 where
  right_brace right_bracket right_paren colon arrow text_end stray overlong : Mark

pub data Kind : Type 0 where
  name type_word left_paren left_bracket left_brace : Kind
  mark : Mark → Kind

-- a token: its kind, the place of its first byte, and the place after it
pub record Token : Type 0 where
  pub kind : Kind
  pub at : ℕ
  pub end : ℕ

abbrev pub token : Kind → ℕ → ℕ → Token
token k at end = record { kind = k; at = at; end = end }

-- bytes 9, 10, 13 and 32
abbrev pub is_blank : ℕ → Bool
is_blank b = b == 9 || b == 10 || b == 13 || b == 32

-- an ASCII letter or `_`, which begins a name
abbrev pub begins_name : ℕ → Bool
begins_name b = is_ascii_alphabetic b || b == 95

-- a letter, a digit, `_`, `'` or `/`, which goes on with a name
abbrev pub in_name : ℕ → Bool
in_name b = begins_name b || is_ascii_digit b || b == 39 || b == 47

-- Is a byte skipped before a token, and is a comment open after it? A comment runs from `%` up to byte 10.
abbrev pub is_skipped : Bool → ℕ → Bool
is_skipped comment b = comment || (b == 37 || is_blank b)

abbrev pub in_comment : Bool → ℕ → Bool
in_comment comment b = cond comment (not (b == 10)) (b == 37)

-- how many bytes at the front are blanks and comments
abbrev pub skipped : Bool → List ℕ → ℕ
skipped comment [] = 0
skipped comment (b ∷ bs) = let more = skipped (in_comment comment b) bs in cond (is_skipped comment b) (suc more) 0

-- `type`
abbrev pub type_bytes : List ℕ
type_bytes = 116 ∷ 121 ∷ 112 ∷ 101 ∷ []

-- a name or the word `type`, of the bytes w, n in number
abbrev pub word : List ℕ → ℕ → Kind
word w n = cond (nat_lt 32 n) (mark overlong) (cond (bytes_eq w type_bytes) type_word name)

-- { } [ ] ( ) :
abbrev pub symbol : ℕ → Kind
symbol b =
    cond (b == 123) left_brace (cond (b == 125) (mark right_brace)
    (cond (b == 91) left_bracket (cond (b == 93) (mark right_bracket)
    (cond (b == 40) left_paren (cond (b == 41) (mark right_paren)
    (cond (b == 58) (mark colon) (mark stray)))))))

-- do the bytes begin with b?
abbrev pub begins_with : ℕ → List ℕ → Bool
begins_with b [] = false
begins_with b (x ∷ xs) = x == b

-- The token that begins right at the front of the bytes, which stand at the place `at`. A `-` wants its `>`.
abbrev pub first_token : List ℕ → ℕ → Token
first_token [] at = token (mark text_end) at at
first_token (b ∷ bs) at =
    cond (begins_name b) (let n = suc (prefix_len in_name bs) in token (word (take n (b ∷ bs)) n) at (at + n))
    (cond (b == 45) (cond (begins_with 62 bs) (token (mark arrow) at (at + 2)) (token (mark stray) at (at + 1)))
    (token (symbol b) at (at + 1)))

-- where the next token from the place p begins, and that token
abbrev pub token_place : List ℕ → ℕ → ℕ
token_place bs p = p + skipped false (drop p bs)

unfoldable pub next_token : List ℕ → ℕ → Token
next_token bs p = let at = token_place bs p in first_token (drop at bs) at

-- the bytes of a token
abbrev pub bytes_of : List ℕ → Token → List ℕ
bytes_of bs t = take (t.end - t.at) (drop t.at bs)
