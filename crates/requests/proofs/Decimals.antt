-- Digits, read by the library.
use Rattle.std.proofs.Common.{◌≡◌, ℕ, ◌+◌, ◌-◌, ◌*◌, ◌^◌, ◌<◌, ◌≤◌, true, List, [], ◌∷◌, ◌++◌, length, get_or, take, ap, ◌∙◌, mul_assoc, pow-suc, add-one, arith, rules}
use Rattle.std.specs.Prelude.{Result, Ok}
use Rattle.std.specs.List.{list_all}
use Rattle.std.specs.Str.{IsUtf8}
use Rattle.std.specs.Str.Parse.{ParsesUnsigned}
use Rattle.std.proofs.lemmas.Fmt.{IsAscii-from_digits}
use Rattle.std.proofs.lemmas.List.{take_more, length_push}
use Rattle.std.proofs.lemmas.Str.{IsUtf8-from_ascii}
use Rattle.std.proofs.lemmas.Str.Parse.{IsNumeralModel, numerals_by_weight, parse_gives, digits_value_short}
use Rattle.requests.specs.Decimal.{is_digit, value}

-- our digits and their value are the library's
own : IsNumeralModel (λ ds. list_all is_digit ds ≡ true) value
own = numerals_by_weight _ (search rules) value (search rules)

pub digits_are_text : (bs : List ℕ) → list_all is_digit bs ≡ true → IsUtf8 bs
digits_are_text bs e = IsUtf8-from_ascii bs (IsAscii-from_digits bs (own.to bs e))

-- 1 to 9 digits are a number that fits; t is their text
pub digits_parse : {E : Type 0} (bs t : List ℕ) (r : Result ℕ E) → t ≡ bs → ParsesUnsigned 64 10 t r → list_all is_digit bs ≡ true → 1 ≤ length bs → length bs ≤ 9 → r ≡ Ok (value bs)
digits_parse bs t r same parsed e some few = parse_gives own 64 bs r (rw same at parsed) e (omega (arith, some)) (omega (arith, digits_value_short own bs 9 e few))

-- the law of `value` by its last digit, for every list: one more at the end counts once, and the rest ten times
pub value_push : (xs : List ℕ) (x : ℕ) → value (xs ++ x ∷ []) ≡ 10 * value xs + (x - 48)
value_push [] x = omega arith
value_push (y ∷ xs) x =
    let long : 10 ^ length (xs ++ x ∷ []) ≡ 10 ^ length xs * 10 = ap (λ n. 10 ^ n) (length_push xs x ∙ add-one (length xs)) ∙ pow-suc 10 (length xs) in
    let more = mul_assoc (y - 48) (10 ^ length xs) 10 in
    let here : (y - 48) * 10 ^ length (xs ++ x ∷ []) ≡ (y - 48) * (10 ^ length xs * 10) = ap (λ n. (y - 48) * n) long in
    omega (arith, value_push xs x, more, here)

pub value_more : (xs : List ℕ) (i n : ℕ) → i < length xs → n ≡ value (take i xs) → 10 * n + (get_or xs i 0 - 48) ≡ value (take (i + 1) xs)
value_more xs i n h e = rw (take_more xs i 0 h, value_push (take i xs) (get_or xs i 0)) (omega arith)
