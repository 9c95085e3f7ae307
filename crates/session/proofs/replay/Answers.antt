use Rattle.std.proofs.Common.{arith, inl}
use Rattle.session.proofs.Cut.{length_lines_le}
use Rattle.session.proofs.replay.Goals as goal

-- There are fewer lines than 2 ^ 64, so that they can be numbered.
pub loop-i-init-derived : goal.loop-i-init-derived
loop-i-init-derived c = ((tt, tt, inl (grind (arith, length_lines_le c.args.log.now))), tt)
