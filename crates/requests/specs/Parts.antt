-- A list of bytes divided at the first of some byte.
use Rattle.std.specs.Prelude.{◌≡◌, ℕ, true, false, List, Some, None, Option}
use Rattle.std.specs.Borrow.{Bor}
use Rattle.requests.specs.Bytes.{holds, before, after}

-- the two parts where b is there, and none where it is not
abbrev pub Divided : ℕ → List ℕ → Option (Bor (List ℕ) × Bor (List ℕ)) → Type 0
Divided b xs None = holds b xs ≡ false
Divided b xs (Some p) = (holds b xs ≡ true) × (p.0.now ≡ before b xs) × (p.1.now ≡ after b xs)
