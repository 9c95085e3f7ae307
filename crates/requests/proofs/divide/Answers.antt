use Rattle.std.proofs.Common.{arith}
use Rattle.std.proofs.lemmas.Grind.{common_steps}
use Rattle.requests.proofs.Parts.{parts}
use Rattle.requests.proofs.divide.Goals as goal

pub returns : goal.returns
returns c = let p = parts c.args.byte c.args.bytes.now in grind (arith, common_steps)
