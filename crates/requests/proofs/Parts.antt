-- Lemmas on the parts of a line.
use Rattle.std.proofs.Common.{◌≡◌, ℕ, ◌+◌, ◌||◌, true, false, cond, eqb, List, [], ◌∷◌, length, take, drop, refl, arith}
use Rattle.std.specs.Prelude.{nat_lt, not}
use Rattle.std.specs.List.{position_or_len}
use Rattle.std.proofs.lemmas.Grind.{common_steps}
use Rattle.requests.specs.Bytes.{holds, before, after}

-- the first place of b, or the length, and the parts on its two sides
abbrev place : ℕ → List ℕ → ℕ
place b xs = position_or_len (λ x. eqb x b) xs

pub parts : (b : ℕ) (xs : List ℕ) → (holds b xs ≡ nat_lt (place b xs) (length xs)) × (before b xs ≡ take (place b xs) xs) × (after b xs ≡ drop (place b xs + 1) xs)
parts b [] = (refl, refl, refl)
parts b (x ∷ xs) =
    let rest = parts b xs in
    let n = place b xs in
    elim (eqb x b)
    as (λ t. ((t || holds b xs) ≡ nat_lt (cond (not t) (1 + n) 0) (length (x ∷ xs))) × (cond t [] (x ∷ before b xs) ≡ take (cond (not t) (1 + n) 0) (x ∷ xs)) × (cond t xs (after b xs) ≡ drop (cond (not t) (1 + n) 0 + 1) (x ∷ xs)))
    [ true ↦ (grind (arith, common_steps), refl, refl) | false ↦ (grind (arith, common_steps), grind (arith, common_steps), grind (arith, common_steps)) ]
