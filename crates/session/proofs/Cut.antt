-- The first line of a log, and the lines after it.
use Rattle.std.proofs.Common.{◌≡◌, ℕ, ◌+◌, ◌<◌, ◌≤◌, true, false, cond, eqb, List, [], ◌∷◌, length, refl, ap, arith}
use Rattle.requests.specs.Bytes.{before, after}
use Rattle.session.specs.Lines.{lines, onto}

-- the first line ends before the first line feed
cut : (x : ℕ) (xs : List ℕ) → lines (x ∷ xs) ≡ before 10 (x ∷ xs) ∷ lines (after 10 (x ∷ xs))
cut x [] = elim (eqb x 10) as (λ b. cond b ([] ∷ []) ((x ∷ []) ∷ []) ≡ cond b [] (x ∷ []) ∷ lines (cond b [] [])) [ true ↦ refl | false ↦ refl ]
cut x (y ∷ ys) =
    elim (eqb x 10)
    as (λ b. cond b ([] ∷ lines (y ∷ ys)) (onto x (lines (y ∷ ys))) ≡ cond b [] (x ∷ before 10 (y ∷ ys)) ∷ lines (cond b (y ∷ ys) (after 10 (y ∷ ys))))
    [ true ↦ refl | false ↦ ap (onto x) (cut y ys) ]

pub lines_cut : (xs : List ℕ) → 0 < length xs → lines xs ≡ before 10 xs ∷ lines (after 10 xs)
lines_cut [] h = absurd (omega arith)
lines_cut (x ∷ xs) h = cut x xs

-- there are no more lines than bytes
length_onto_le : (x : ℕ) (ls : List (List ℕ)) → length (onto x ls) ≤ length ls + 1
length_onto_le x [] = omega arith
length_onto_le x (l ∷ ls) = omega arith

pub length_lines_le : (xs : List ℕ) → length (lines xs) ≤ length xs
length_lines_le [] = omega arith
length_lines_le (x ∷ xs) = grind (arith, length_lines_le xs, length_onto_le x (lines xs))
