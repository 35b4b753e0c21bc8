use Rattle.std.proofs.Common.{vec_len}
use Rattle.comparison.proofs.histories.hand_back.Given as goal

-- how many slips are out
abbrev pub decreases-loop-slip : goal.decreases-loop-slip
decreases-loop-slip l = vec_len l.out
