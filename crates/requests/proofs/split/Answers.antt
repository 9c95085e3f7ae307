use Rattle.std.proofs.Common.{arith}
use Rattle.std.proofs.lemmas.Grind.{common_steps}
use Rattle.requests.proofs.Parts.{parts}
use Rattle.requests.proofs.split.Goals as goal

pub returns-clause-front : goal.returns-clause-front
returns-clause-front c = let p = parts c.args.byte c.args.bytes.now in grind (arith, common_steps)

pub returns-clause-back : goal.returns-clause-back
returns-clause-back c = let p = parts c.args.byte c.args.bytes.now in grind (arith, common_steps)
