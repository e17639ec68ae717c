-- The laws of one vector hold for every slot count from 2 on.
use Rattle.std.specs.Prelude.{ℕ, ◌<◌, ◌≤◌}
use Rattle.std.proofs.Common.{arith}
use Rattle.rules.proofs.Meaning.{push_is, append_is}
use Rattle.rules.proofs.Vectors.{empty_sound, push_sound, pop_sound, pop_is, append_sound}
use Rattle.rules.proofs.Sets.{get_is, set_is}
use Rattle.rules.specs.Laws.{Laws}

pub laws : (S : ℕ) → 2 ≤ S → Laws S
laws S two =
    let pos : 0 < S = omega arith in
    record {
      new_sound = empty_sound S two;
      push_keeps = push_sound S two;
      pop_keeps = pop_sound S two;
      append_keeps = append_sound S two;
      set_keeps = λ v i x s. (set_is S two v i x s).sound;
      pushes = push_is S pos;
      pops = pop_is S two;
      appends = append_is S pos;
      gets = get_is S two;
      sets = λ v i x s. (set_is S two v i x s).is;
      set_holds = λ v i x s. (set_is S two v i x s).holds;
    }
