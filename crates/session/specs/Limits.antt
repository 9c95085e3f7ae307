-- What the code says of the size limits of declares and claims.
use Rattle.std.specs.Prelude.{Some, None, Option, Result}
use Rattle.std.specs.Option.{option_map}
use Rattle.std.specs.Result.{result_err}
use Rattle.std.specs.Bool.{⊤}
use Rattle.rules.specs.Refusal.{Refusal}
use Rattle.requests.specs.declared.verb.Verb.{Verb}
use Rattle.refusals.specs.declared.Refusal as code
use Rattle.refusals.specs.Refusal.{meaning}
use Rattle.refusals.specs.Fault.{fault_of}
use Rattle.answers.specs.Said.{Said, not_served, refused}

-- the refusal of the rules, where a limit is not kept
abbrev pub limit_of : Result ⊤ code.Refusal → Option Refusal
limit_of r = option_map meaning (result_err r)

-- the answer to a call of which the size limits alone are served
abbrev pub limited_to : Verb → Option Refusal → Said
limited_to w None = not_served w
limited_to w (Some f) = refused w (fault_of f)
