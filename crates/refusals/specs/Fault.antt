-- A refusal by its five numbers, and how it is printed, as bytes.
use Rattle.std.specs.Prelude.{ℕ, cond, List, ◌++◌, codes, decimal, ◌==◌}
use Rattle.rules.specs.Refusal as rules
use Rattle.refusals.specs.declared.Fault.{Fault}

-- A fault and a refusal of the rules hold the same five numbers.
abbrev pub fault_of : rules.Refusal → Fault
fault_of f = record { layer = f.layer; number = f.number; text = f.text; place = f.place; judgement = f.judgement }

-- a refusal's number in words
abbrev pub reason_bytes : ℕ → List ℕ
reason_bytes n =
    cond (n == 11) (codes "the text is too long")
    (cond (n == 12) (codes "the work table is too long or too short")
    (cond (n == 13) (codes "no token begins here")
    (cond (n == 14) (codes "the name is too long")
    (cond (n == 15) (codes "the token does not fit the grammar")
    (cond (n == 16) (codes "too deep")
    (cond (n == 21) (codes "no binder and no constant has this name")
    (cond (n == 31) (codes "the expression has not this form")
    (cond (n == 32) (codes "the head has the wrong classifier")
    (cond (n == 33) (codes "a head against a product")
    (cond (n == 34) (codes "an abstraction against no product")
    (cond (n == 35) (codes "too few arguments")
    (cond (n == 36) (codes "too many arguments")
    (cond (n == 37) (codes "the types differ")
    (cond (n == 38) (codes "the substitution has no result")
    (cond (n == 39) (codes "the nodes do not fit the work table")
    (cond (n == 41) (codes "the name or the classifier is unfit")
    (cond (n == 42) (codes "the name is taken")
    (cond (n == 43) (codes "the store is full")
    (cond (n == 51) (codes "no such constant")
    (cond (n == 52) (codes "the number table is too short")
    (codes "unknown")))))))))))))))))))))

-- a refusal's number, layer, text, place and judgement, and the reason in words
abbrev pub fault_bytes : Fault → List ℕ
fault_bytes f =
    decimal f.number ++ (codes " layer " ++ (decimal f.layer ++ (codes " text " ++ (decimal f.text
    ++ (codes " place " ++ (decimal f.place ++ (codes " judgement " ++ (decimal f.judgement ++ (codes " - " ++ reason_bytes f.number)))))))))
