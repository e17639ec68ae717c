-- The demands 1 to 3 on every state reached by calls from a freshly made pool, and what else document 01 promises there.
-- The record `Demands` of specs/Demands.antt is what to read; here each of its fields is proved.
use Rattle.std.specs.Prelude.{ℕ, ◌-◌, ◌<◌, ◌≤◌, ◌≡◌, refl, List, [], ◌∷◌, ◌++◌, true, length, get_or}
use Rattle.std.proofs.Common.{sym, ◌∙◌, arith, length-append}
use Rattle.std.proofs.Math.Path.{ap}
use Rattle.std.proofs.Math.Option.{Option, none, some}
use Rattle.std.proofs.Math.Seq.{get_or-append_seam}
use Rattle.lists.specs.Alls.{All}
use Rattle.rules.specs.Trees.{Root, Vector, elements, tree_nodes, held}
use Rattle.rules.specs.Rules.{pop, popped, get}
use Rattle.rules.specs.Shape.{SoundTree, SoundVector}
use Rattle.rules.specs.Formed.{TreeFormed}
use Rattle.rules.proofs.Formed.{sound_formed}
use Rattle.rules.specs.Heights.{least_nodes}
use Rattle.rules.proofs.Heights.{within_levels}
use Rattle.rules.proofs.Laws.{laws}
use Rattle.machine.specs.Sizes.{word_bound, block_words}
use Rattle.machine.specs.Machine.{Head, Answer, Done, Value, Call, Append, Held, Get, Pop, list_of, held_of, step, answer, Reached}
use Rattle.machine.specs.Numbers.{OpenAt, Accepts, gets, pops, helds, frees, checks}
use Rattle.machine.proofs.Exact.{numbers, accepts_exactly, refusal_leaves, accepts_step}
use Rattle.machine.proofs.Exact.{never_7 as no_seven}
use Rattle.machine.proofs.Sound.{few, sound, free-held}
use Rattle.machine.proofs.Sound.{made_or_1 as made_exactly}
use Rattle.machine.proofs.Reserve.{reserve_clause, append_empty_giver}
use Rattle.machine.proofs.Contents.{list_is, plain_lists, by_rules}
use Rattle.machine.proofs.Words.{words_only}
use Rattle.machine.proofs.Isolation.{isolation}
use Rattle.doc01.specs.Trees.{trees, trees_32, trees_4}
use Rattle.doc01.proofs.Trees.{tree_laws}
use Rattle.doc01.specs.Formed.{Pool, tree_of, WellFormed}
use Rattle.doc01.specs.Demands.{levels, Demands}

pub levels_within : (S : ℕ) → 2 ≤ S → (b N : ℕ) → N < least_nodes S b → (o : Option Root) → SoundTree S o → tree_nodes o ≤ N → levels o ≤ b
levels_within S two b N p none s l = omega arith
levels_within S two b N p (some r) s l = within_levels S two b N p r.0 r.1 s l

-- a list's last element
last_is : (xs : List ℕ) (y : ℕ) (zs : List ℕ) → xs ++ (y ∷ []) ≡ zs → get_or zs (length zs - 1) 0 ≡ y
last_is xs y zs e =
    let n = length-append xs (y ∷ []) in
    let m : length (xs ++ (y ∷ [])) - 1 ≡ length xs = omega arith in
    rw (← e, m) (get_or-append_seam xs y [] 0)

module _ (S W : ℕ) (two : 2 ≤ S) where
  sound_at : {s : Pool} → Reached (trees S W) s → (v : ℕ) (a : Head Vector) → OpenAt s v a → SoundVector S a.contents
  sound_at r v a e = ((sound (trees S W) (SoundVector S) (tree_laws S W two) r).fine v a e).good

  tree_at : {s : Pool} → Reached (trees S W) s → (v : ℕ) (a : Head Vector) → OpenAt s v a → (r : Root) → tree_of a ≡ some r → TreeFormed S r.0 r.1
  tree_at c v a e r q = sound_formed S two r.0 r.1 (rw q at (sound_at c v a e).of_tree)

  limits_at : {s : Pool} → Reached (trees S W) s → (v : ℕ) (a : Head Vector) → OpenAt s v a → (tree_nodes (tree_of a) ≤ a.limit) × (a.reserve ≤ a.limit) × (a.limit ≤ s.blocks)
  unfolding held_of trees held
  limits_at r v a e = let F = (sound (trees S W) (SoundVector S) (tree_laws S W two) r).fine v a e in (F.held_limit, F.reserve_limit, F.limit_blocks)

  formed_at : {s : Pool} → Reached (trees S W) s → WellFormed S (trees S W) s
  formed_at {s} c =
      let I = sound (trees S W) (SoundVector S) (tree_laws S W two) c in
      record {
        blocks_used = free-held (trees S W) (SoundVector S) (tree_laws S W two) s I;
        counts = λ v a e r q. (tree_at c v a e r q).counts;
        roots = λ v a e r q. (tree_at c v a e r q).root;
        branches = λ v a e r q. (tree_at c v a e r q).branches;
        sizes = λ v a e r q. (tree_at c v a e r q).sizes;
        tails = λ v a e. (sound_at c v a e).of_tail;
        limits = limits_at c;
        promise = I.promise;
      }

  told : {s t : Pool} {c : Call} {a : Answer} → Accepts (trees S W) s c t a → answer (trees S W) s c ≡ a
  unfolding answer
  told x = ap (λ (p : Pool × Answer). p.1) (accepts_step (trees S W) x)

  got : {s : Pool} → Reached (trees S W) s → (v i : ℕ) (a : Head Vector) → OpenAt s v a → i < length (elements a.contents) → answer (trees S W) s (Get v i) ≡ Value (get S a.contents i)
  unfolding list_of trees
  got r v i a e h = told (gets {v = v} {i = i} {a = a} e h) ∙ ap Value (sym ((laws S two).gets a.contents i (sound_at r v a e)))

  taken : {s : Pool} → Reached (trees S W) s → (v : ℕ) (a : Head Vector) → OpenAt s v a → 0 < length (elements a.contents) → answer (trees S W) s (Pop v) ≡ Value (popped a.contents)
  unfolding list_of trees
  taken r v a e h =
      told (pops {v = v} {a = a} e h)
      ∙ ap Value (last_is (elements (pop a.contents)) (popped a.contents) (elements a.contents) ((laws S two).pops a.contents (sound_at r v a e) h))

  held_at : {s : Pool} → Reached (trees S W) s → (v : ℕ) (a : Head Vector) → OpenAt s v a → answer (trees S W) s (Held v) ≡ Value (tree_nodes (tree_of a))
  unfolding held_of trees held
  held_at r v a e = told (helds {v = v} {a = a} e)

  words_at : {s : Pool} → Reached (trees S W) s → (v : ℕ) (a : Head Vector) → OpenAt s v a → All (λ x. x < word_bound) (elements a.contents)
  unfolding list_of trees
  words_at {s} r v a e = rw (list_is (trees S W) s v a e) at (words_only (trees S W) (SoundVector S) (tree_laws S W two) r v)

  nothing_given : {s : Pool} → Reached (trees S W) s → (r g : ℕ) (a b : Head Vector) → OpenAt s r a → OpenAt s g b → (r ≡ g → ⊥) → elements b.contents ≡ [] → step (trees S W) s (Append true r g) ≡ (s, Done)
  unfolding list_of trees
  nothing_given {s} c r g a b e f n h =
      append_empty_giver (trees S W) (SoundVector S) (tree_laws S W two) s r g a b (sound (trees S W) (SoundVector S) (tree_laws S W two) c) e f n h

  pub demands : Demands S (trees S W)
  demands =
      let R = trees S W in
      let G = SoundVector S in
      let L = tree_laws S W two in
      record {
        made_or_1 = made_exactly R;
        refused_exactly = λ {s} r c n. numbers R s c n;
        refused_changes_nothing = λ {s} r c n e. refusal_leaves R s c n e;
        accepted_exactly = λ {s} r c t a h. accepts_exactly R s t c a h;
        one_answer = λ x y.
            let e = sym (accepts_step R x) ∙ accepts_step R y in
            (ap (λ (p : Pool × Answer). p.0) e, ap (λ (p : Pool × Answer). p.1) e);
        formed = formed_at;
        check_answers_0 = λ r. told checks;
        never_7 = λ {s} r c e. no_seven R ((numbers R s c 7).0 e) refl;
        plain_list = λ {s} r c h. plain_lists R G L s c r h;
        by_the_rules = λ {s} r c h. by_rules R s c h;
        held_is_nodes = held_at;
        get_walks = got;
        pop_takes = taken;
        words = words_at;
        limit_kept = λ r v a e. (limits_at r v a e).0;
        reserve_kept = λ {s} r c w n d e. reserve_clause R G L s c n (sound R G L r) w d e;
        isolated = λ {s} r C O xs ys D E q. isolation R C s O xs ys D E q;
        promise_kept = λ r. (sound R G L r).promise;
        free_and_held = λ {s} r. (told frees, free-held R G L s (sound R G L r));
        sizes_kept = λ r. few R r;
        giver_empty = nothing_given;
        sound_kept = sound_at;
        levels_kept = λ {s} r b p v a e.
            let l = limits_at r v a e in
            levels_within S two b s.blocks p (tree_of a) (sound_at r v a e).of_tree (omega arith);
      }

pub demands_32 : Demands 32 trees_32
demands_32 = demands 32 (block_words 32) (omega arith)

pub demands_4 : Demands 4 trees_4
demands_4 = demands 4 (block_words 4) (omega arith)
