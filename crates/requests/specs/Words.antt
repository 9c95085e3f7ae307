-- The words of a log, as bytes.
use Rattle.std.specs.Prelude.{ℕ, List, [], ◌∷◌, codes}
use Rattle.requests.specs.declared.kind.StoreKind.{StoreKind}
use Rattle.requests.specs.declared.kind.StoreKind.TheVariants.{Flat, Module}
use Rattle.requests.specs.declared.verb.Verb.{Verb}
use Rattle.requests.specs.declared.verb.Verb.TheVariants.{Store, Table, Numbers, Declare, Claim, Count, LookUp, RestsOn, Carries, Seal}

-- every kind of store
abbrev pub kinds : List StoreKind
kinds = Flat ∷ Module ∷ []

-- the word of a kind
abbrev pub kind_bytes : StoreKind → List ℕ
kind_bytes Flat = codes "flat"
kind_bytes Module = codes "module"

-- every verb
abbrev pub verbs : List Verb
verbs = Store ∷ Table ∷ Numbers ∷ Declare ∷ Claim ∷ Count ∷ LookUp ∷ RestsOn ∷ Carries ∷ Seal ∷ []

-- the word of a verb
abbrev pub verb_bytes : Verb → List ℕ
verb_bytes Store = codes "store"
verb_bytes Table = codes "table"
verb_bytes Numbers = codes "numbers"
verb_bytes Declare = codes "declare"
verb_bytes Claim = codes "claim"
verb_bytes Count = codes "count"
verb_bytes LookUp = codes "look-up"
verb_bytes RestsOn = codes "rests-on"
verb_bytes Carries = codes "carries"
verb_bytes Seal = codes "seal"
