-- The table of the (P) rows, computed.
use Rattle.std.specs.Prelude.{ℕ, ◌*◌, ◌/◌, ◌≤◌, ◌≡◌, refl}
use Rattle.std.proofs.Common.{arith, le-ltb}
use Rattle.lists.specs.Cuts.{cut}
use Rattle.rules.specs.Trees.{elements, held, size, nodes, count, to_list, entries}
use Rattle.rules.specs.Rules.{chain, put, lower, meet, is_full, loose, pour, repack, ascend, merge, join, room, push_into, leaf_push, settle, push, flush, join_to, append}
use Rattle.rules.specs.Shifts.{shift_of}
use Rattle.machine.specs.Sizes.{most_blocks}
use Rattle.machine.specs.Machine.{Reached, made, ready, make_ready}
use Rattle.machine.specs.Machine.{answers, answer, next, run, step, place_at, holding, list_of, held_of, share_at, promised, lowest_closed, fresh, pushed, joined, emptied, after_open, after_push, after_append}
use Rattle.machine.specs.Machine.{put as put_at}
use Rattle.machine.specs.Contents.{contents_at, contents_in}
use Rattle.doc01.specs.Trees.{trees, trees_32}
use Rattle.doc01.specs.Counts.{pool, Counts}

pub pool_reached : (P : ℕ) → P ≤ most_blocks → ((pool P).blocks ≡ P) × Reached trees_32 (pool P)
unfolding make_ready ready trees
pool_reached P h = let e : P * 66 / 66 ≡ P = omega arith in (e, made (pool P) (P * 66) 8 (rw (e, le-ltb most_blocks P h)))

pub counts : Counts
unfolding trees ready answers answer next run step place_at put_at holding list_of held_of share_at promised lowest_closed fresh pushed joined emptied after_open after_push after_append contents_at contents_in elements held size nodes count to_list chain put lower meet is_full loose pour repack ascend merge join room push_into leaf_push settle push flush join_to append entries cut shift_of
counts = record {
  row_1 = (refl, refl);
  row_2 = (refl, refl);
  row_3 = (refl, refl);
  row_6 = (refl, refl);
  row_7 = (refl, refl);
  row_8 = (refl, refl);
  row_9 = (refl, refl);
  row_10 = (refl, refl);
  row_13 = refl;
  row_14 = refl;
}
