use Rattle.std.proofs.Common.{◌≡◌, length, sym, ◌∙◌, ap, arith, is_ok}
use Rattle.std.specs.Prelude.{Ok}
use Rattle.std.proofs.lemmas.Bool.{eqb-false}
use Rattle.std.proofs.lemmas.Grind.{common_steps}
use Rattle.requests.specs.Decimal.{value}
use Rattle.requests.proofs.Decimals.{digits_parse}
use Rattle.requests.proofs.decimal_of.Goals as goal
use Rattle.requests.proofs.decimal_of.Goals.{After-parse}

-- the number that was read
parsed : (c : After-parse) → c.parse.result ≡ Ok (value c.args.bytes.now)
parsed c = digits_parse c.args.bytes.now c.unwrap.result.now c.parse.result (grind (arith, common_steps)) c.parse.ensures.value.0 (sym c.is_digits.ensures ∙ c.if-not-is_digits.false)
    (omega (arith, eqb-false (length c.args.bytes.now) 0 (sym c.is_empty.ensures ∙ c.if-is_empty.false))) c.if-bytes-gt-MOST_DIGITS.false

pub unwrap-number-requires : goal.unwrap-number-requires
unwrap-number-requires c = ap is_ok (parsed c)
