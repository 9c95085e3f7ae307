-- Refusals, and the size limits of declares and claims.
use Rattle.std.specs.Prelude.{ℕ, ◌+◌, ◌*◌, ◌/◌, Bool, cond, ◌||◌, List, length, Some, None, Option, nat_lt}

-- layer: 1 reading, 2 names, 3 judgement, 4 store, 5 query; text: 1 for a claim's proof, else 0;
-- judgement: 0 none, 1 classifier, 2 type, 3 object, 4 spine
pub record Refusal : Type 0 where
  pub layer : ℕ
  pub number : ℕ
  pub text : ℕ
  pub place : ℕ
  pub judgement : ℕ

-- the layer is the number's tens
abbrev pub refusal : ℕ → ℕ → ℕ → ℕ → Refusal
refusal number text place judgement = record { layer = number / 10; number = number; text = text; place = place; judgement = judgement }

-- a text of more than 4,096 bytes
abbrev pub too_long : List ℕ → Bool
too_long bs = nat_lt 4096 (length bs)

-- a work table of more than 32,768 nodes, or of fewer than two for each byte of the texts
abbrev pub unfit_table : ℕ → ℕ → Bool
unfit_table table bytes = nat_lt 32768 table || nat_lt table (2 * bytes)

-- the size limits of a declare, with its text and the length of its work table
abbrev pub declare_limits : List ℕ → ℕ → Option Refusal
declare_limits text table =
    cond (too_long text) (Some (refusal 11 0 0 0)) (cond (unfit_table table (length text)) (Some (refusal 12 0 0 0)) None)

-- the size limits of a claim
abbrev pub claim_limits : List ℕ → List ℕ → ℕ → Option Refusal
claim_limits statement proof table =
    cond (too_long statement) (Some (refusal 11 0 0 0)) (cond (too_long proof) (Some (refusal 11 1 0 0))
    (cond (unfit_table table (length statement + length proof)) (Some (refusal 12 0 0 0)) None))
