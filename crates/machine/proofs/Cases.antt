-- The machine run by computation, over a small set of rules: lists that hold a block for every two elements.
use Rattle.std.specs.Prelude.{ℕ, ◌-◌, ◌/◌, ◌≡◌, refl, List, [], ◌∷◌, ◌++◌, map, true, false, eqb, length, take, replicate, set as store}
use Rattle.std.proofs.Common.{append-nil, arith, length-take, length-set}
use Rattle.std.proofs.Math.Option.{some}
use Rattle.machine.specs.Machine.{Rules, State, Answer, Done, Value, Refused, Call, Open, Close, Push, Pop, Get, Set, Append, Length, IsEmpty, Held, Free, Check}
use Rattle.machine.specs.Machine.{number_of, value_of, lowest_closed, place_at, put, holding, list_of, held_of, share_at, promised, held_at, all_held, free, fresh, pushed, popped, changed, joined, emptied, after_open, after_push, after_append, step, next, answer, answers, run, ready, make_ready}
use Rattle.machine.specs.Laws.{Laws}
use Rattle.machine.specs.Chosen.{names, on, after, mine, asked}

unfoldable pub pairs : Rules (List ℕ)
pairs = record {
  empty = [];
  list = λ xs. xs;
  held = λ xs. length xs / 2;
  push = λ xs x. xs ++ (x ∷ []);
  pop = λ xs. take (length xs - 1) xs;
  set = λ xs i x. store xs i x;
  join = λ xs ys. xs ++ ys;
  block = 10;
}

-- the machine's laws can be met
pub pairs_laws : Laws pairs (λ xs. Unit {0})
unfolding pairs
pairs_laws = record {
  good_empty = tt;
  good_push = λ a x g. tt;
  good_pop = λ a g h. tt;
  good_set = λ a i x g h. tt;
  good_join = λ a b g h. tt;
  list_empty = refl;
  list_push = λ a x g. refl;
  list_pop = λ a g h. refl;
  list_set = λ a i x g h. refl;
  list_join = λ a b g h. refl;
  held_empty = refl;
  held-pop = λ a g h. rw (length-take (length a - 1) a) (omega arith);
  held-set = λ a i x g h. rw (length-set a i x);
  only_empty = λ a g e. e;
  join_empty = λ a g. append-nil a;
  empty_join = λ a g. refl;
}

-- Making ready: P = words div 10.
pub making : (make_ready pairs 39 2 ≡ (some (ready pairs 39 2), Done)) × ((ready pairs 39 2).blocks ≡ 3)
    × ((make_ready pairs 10485770 2).1 ≡ Refused 1) × ((make_ready pairs 30 1025).1 ≡ Refused 1)
unfolding make_ready ready pairs
making = (refl, refl, refl, refl)

abbrev pub three : State (List ℕ)
three = ready pairs 30 2

-- calls and their answers, from three blocks and two heads on
abbrev pub Told : List (Call × Answer) → Type 0
Told cs = answers pairs three (map (λ p. p.0) cs) ≡ map (λ p. p.1) cs

-- Every number, in document 01's order of the tests.
pub numbers_given : Told
    ((Open 2 1, Refused 9) ∷ (Open 0 4, Refused 9) ∷ (Open 1 3, Value 0) ∷ (Open 3 3, Refused 6) ∷ (Open 0 3, Value 1) ∷ (Open 0 0, Refused 8) ∷ (Open 1 0, Refused 9)
    ∷ (Push 0 7, Done) ∷ (Push 2 7, Refused 2) ∷ (Pop 1, Refused 4) ∷ (Get 0 0, Value 7) ∷ (Get 0 1, Refused 4) ∷ (Get 5 0, Refused 2) ∷ (Set 0 0 9, Done) ∷ (Set 0 1 9, Refused 4)
    ∷ (Append false 5 5, Refused 1) ∷ (Append true 5 5, Refused 2) ∷ (Append true 0 5, Refused 2) ∷ (Append true 0 0, Refused 3)
    ∷ (Length 0, Value 1) ∷ (IsEmpty 0, Value 0) ∷ (IsEmpty 1, Value 1) ∷ (Held 0, Value 0) ∷ (Check, Done) ∷ (Pop 0, Value 9) ∷ (Close 0, Done) ∷ (Close 0, Refused 2) ∷ (Open 0 0, Value 0)
    ∷ (Push 0 1, Done) ∷ (Push 0 2, Refused 5) ∷ (Length 0, Value 1) ∷ [])
unfolding answers answer next step pairs ready place_at put holding list_of held_of share_at promised lowest_closed fresh pushed popped changed after_open after_push
numbers_given = refl

-- Shares: vector 1's sixth push would promise 1 + 3 blocks of 3; vector 0's second is within its reserve.
pub shares_kept : Told
    ((Open 1 3, Value 0) ∷ (Open 0 3, Value 1) ∷ replicate 5 (Push 1 7, Done) ++ ((Push 1 7, Refused 6) ∷ (Held 1, Value 2) ∷ (Free, Value 1) ∷ replicate 2 (Push 0 7, Done) ++ ((Free, Value 0) ∷ [])))
unfolding answers answer next step pairs ready place_at put holding list_of held_of share_at promised held_at all_held free lowest_closed fresh pushed after_open after_push
shares_kept = refl

-- Append: the receiver has both lists, the giver none; its reserve stays promised, so that vector 0's third block is refused.
pub append_gives : Told
    ((Open 0 3, Value 0) ∷ (Open 1 1, Value 1) ∷ (Push 0 1, Done) ∷ (Push 1 2, Done) ∷ (Push 1 3, Done) ∷ (Append true 0 1, Done) ∷ (Length 0, Value 3) ∷ (Get 0 1, Value 2) ∷ (Length 1, Value 0)
    ∷ (Held 0, Value 1) ∷ (Held 1, Value 0) ∷ (Append true 0 1, Done) ∷ replicate 2 (Push 0 7, Done) ++ ((Push 0 7, Refused 6) ∷ (Close 1, Done) ∷ (Push 0 7, Done) ∷ []))
unfolding answers answer next step pairs ready place_at put holding list_of held_of share_at promised lowest_closed fresh pushed joined emptied after_open after_push after_append
append_gives = refl

-- Isolation: vector 1 is chosen; in the second run others push, open, append, and take its number after its close.
abbrev pub both : State (List ℕ)
both = run pairs three (Open 0 3 ∷ Open 1 3 ∷ [])

pub isolation_run : (mine pairs (λ v. eqb v 1) both (Push 1 7 ∷ Get 1 0 ∷ Append true 1 1 ∷ Close 1 ∷ [])
    ≡ (Push 1 7, Done) ∷ (Get 1 0, Value 7) ∷ (Append true 1 1, Refused 3) ∷ (Close 1, Done) ∷ [])
    × (mine pairs (λ v. eqb v 1) both (Push 0 5 ∷ Push 1 7 ∷ Open 0 0 ∷ Get 1 0 ∷ Append true 0 2 ∷ Append true 1 1 ∷ Close 1 ∷ Open 0 0 ∷ Push 1 9 ∷ Append true 1 0 ∷ Get 1 0 ∷ [])
    ≡ (Push 1 7, Done) ∷ (Get 1 0, Value 7) ∷ (Append true 1 1, Refused 3) ∷ (Close 1, Done) ∷ [])
unfolding mine on after names run answer next step pairs ready place_at put holding list_of held_of share_at promised lowest_closed fresh pushed joined emptied after_open after_push after_append
isolation_run = (refl, refl)

-- Its premise on 6 is not idle: vector 1's sixth push is accepted or answers 6, as the other has pushed or not.
pub six_differs : (map asked (mine pairs (λ v. eqb v 1) both (replicate 6 (Push 1 7))) ≡ replicate 6 (Push 1 7, false))
    × (map asked (mine pairs (λ v. eqb v 1) both (replicate 2 (Push 0 7) ++ replicate 6 (Push 1 7))) ≡ replicate 5 (Push 1 7, false) ++ ((Push 1 7, true) ∷ []))
unfolding mine on after names run answer next step pairs ready place_at put holding list_of held_of share_at promised lowest_closed fresh pushed after_open after_push
six_differs = (refl, refl)

-- an answer's number and value
pub as_numbers : (number_of (Value 7) ≡ 0) × (value_of (Value 7) ≡ 7) × (number_of Done ≡ 0) × (value_of Done ≡ 0) × (number_of (Refused 4) ≡ 4) × (value_of (Refused 4) ≡ 0)
unfolding number_of value_of
as_numbers = (refl, refl, refl, refl, refl, refl)
