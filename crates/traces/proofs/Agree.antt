-- Every history prints what the oracle printed of it.
use Rattle.std.specs.Prelude.{◌≡◌, refl, []}
use Rattle.lists.specs.Cuts.{cut}
use Rattle.rules.specs.Trees.{elements, held, size, nodes, count, to_list, entries}
use Rattle.rules.specs.Rules.{chain, put, push_into, room, leaf_push, last_leaf, if_any, without, only_child, lower, leaf_pop, meet, is_full, loose, pour, repack, ascend, merge, join, refill, pop, settle, push, flush, join_to, append, first_over, down, store, set_at}
use Rattle.rules.specs.Shifts.{shift_of}
use Rattle.machine.specs.Machine.{answers, answer, next, run, step, ready, place_at, holding, list_of, held_of, share_at, promised, held_at, all_held, free, lowest_closed, fresh, pushed, popped, changed, joined, emptied, after_open, after_push, after_append}
use Rattle.machine.specs.Machine.{put as put_at}
use Rattle.doc01.specs.Trees.{trees, trees_32, trees_4}
use Rattle.traces.specs.Told.{push_run, calls, digits_by, digits, spaced, tree_text, root_text, places, answer_text, times, counted, runs, agrees, differing}
use Rattle.traces.specs.Small
use Rattle.traces.specs.Wide

pub small_agree : differing (agrees 2 4 trees_4) 0 Small.histories ≡ []
unfolding differing agrees runs counted times answer_text places root_text tree_text spaced digits digits_by calls push_run trees answers answer next run step ready place_at put_at holding list_of held_of share_at promised held_at all_held free lowest_closed fresh pushed popped changed joined emptied after_open after_push after_append elements held size nodes count to_list entries chain put push_into room leaf_push last_leaf if_any without only_child lower leaf_pop meet is_full loose pour repack ascend merge join refill pop settle push flush join_to append first_over down store set_at shift_of cut
small_agree = refl

pub wide_agree : differing (agrees 5 4 trees_32) 0 Wide.histories ≡ []
unfolding differing agrees runs counted times answer_text places root_text tree_text spaced digits digits_by calls push_run trees answers answer next run step ready place_at put_at holding list_of held_of share_at promised held_at all_held free lowest_closed fresh pushed popped changed joined emptied after_open after_push after_append elements held size nodes count to_list entries chain put push_into room leaf_push last_leaf if_any without only_child lower leaf_pop meet is_full loose pour repack ascend merge join refill pop settle push flush join_to append first_over down store set_at shift_of cut
wide_agree = refl
