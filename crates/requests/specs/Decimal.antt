-- Decimals: 1 to 9 digits and nothing else, leading zeros allowed.
use Rattle.std.specs.Prelude.{ℕ, ◌+◌, ◌-◌, ◌*◌, ◌^◌, Bool, cond, ◌&&◌, List, [], ◌∷◌, length, Some, None, Option, nat_le}
use Rattle.std.specs.List.{list_all}

-- one of the bytes '0' to '9'
abbrev pub is_digit : ℕ → Bool
is_digit b = nat_le 48 b && nat_le b 57

-- the number that a list of digits writes: a digit counts ten to the power of how many follow it
abbrev pub value : List ℕ → ℕ
value [] = 0
value (x ∷ xs) = (x - 48) * 10 ^ length xs + value xs

-- a list of 1 to 9 digits
abbrev pub is_decimal : List ℕ → Bool
is_decimal xs = list_all is_digit xs && (nat_le 1 (length xs) && nat_le (length xs) 9)

-- the number that a list of bytes writes, if it is a decimal and its number is at most `most`
abbrev pub read_decimal : List ℕ → ℕ → Option ℕ
read_decimal xs most = cond (is_decimal xs && nat_le (value xs) most) (Some (value xs)) None
