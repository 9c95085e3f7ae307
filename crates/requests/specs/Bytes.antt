-- Lists of bytes: the first of some byte, and the parts on its two sides.
use Rattle.std.specs.Prelude.{ℕ, Bool, false, cond, ◌||◌, List, [], ◌∷◌, ◌==◌}

-- some byte is b
abbrev pub holds : ℕ → List ℕ → Bool
holds b [] = false
holds b (x ∷ xs) = x == b || holds b xs

-- the part before the first b; the whole where there is none
abbrev pub before : ℕ → List ℕ → List ℕ
before b [] = []
before b (x ∷ xs) = cond (x == b) [] (x ∷ before b xs)

-- the part after the first b; empty where there is none
abbrev pub after : ℕ → List ℕ → List ℕ
after b [] = []
after b (x ∷ xs) = cond (x == b) xs (after b xs)
