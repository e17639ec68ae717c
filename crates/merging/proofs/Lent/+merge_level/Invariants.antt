-- `merging::Lent::merge_level`: by the height.
use Rattle.merging.proofs.Lent.+merge_level.Given as goal

abbrev pub decreases-merge_level : goal.decreases-merge_level
decreases-merge_level l = l.p.top
