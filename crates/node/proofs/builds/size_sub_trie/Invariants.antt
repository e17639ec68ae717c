-- `node::builds::size_sub_trie`: the sum so far, with what is below the block reached, is the whole.
use Rattle.std.proofs.Common.{◌≡◌, ℕ, ◌≤◌}
use Rattle.blocks.specs.Views.{read}
use Rattle.node.specs.Builds.{sub_trie}
use Rattle.node.proofs.builds.size_sub_trie.Given as goal

abbrev pub invariant-loop-s : goal.invariant-loop-s
invariant-loop-s l = (k : ℕ) × (l.s.0 ≤ k) × (read (sub_trie l.initial.s.0) l.b l.initial.s.0 0 ≡ read (sub_trie k) l.at l.s.0 l.sum)

abbrev pub decreases-loop-s : goal.decreases-loop-s
decreases-loop-s l = l.s.0
