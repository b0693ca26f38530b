use Rattle.std.proofs.Common.{length}
use Rattle.record_cases.proofs.main.Given as goal

abbrev pub decreases-loop-record : goal.decreases-loop-record
decreases-loop-record l = length l.rest
