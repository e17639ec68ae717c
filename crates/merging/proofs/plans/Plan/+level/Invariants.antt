-- `merging::plans::Plan::level`: by the height.
use Rattle.merging.proofs.plans.Plan.+level.Given as goal

abbrev pub decreases-level : goal.decreases-level
decreases-level l = l.p.top
