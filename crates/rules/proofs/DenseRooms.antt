-- In a dense tree with room the place of the next element leads to it: where that is past the last child, a new one is opened.
use Prim.Native.Nat.{ℕ, zero, suc, ◌*◌, ◌/◌, ◌^◌, ◌<◌, ◌≤◌}
use Rattle.std.specs.Prelude.{◌≡◌, false, cond, ltb}
use Rattle.std.proofs.Math.Path.{refl, ap}
use Rattle.std.proofs.Common.{◌∙◌, mul-div_cancel, lt-ltb, le-ltb}
use Rattle.std.proofs.Math.Option.{Option, none, some}
use native.Mathlib.Omega.{arith}
use Rattle.std.proofs.Math.Nat.{div-mul-le_self, one-le-pow}
use Rattle.std.proofs.Math.Decide.{dec_le}
use Rattle.std.proofs.Math.ListN.{length}
use Rattle.lists.specs.Ends.{length-init}
use Rattle.lists.specs.Alls.{all_by_last}
use Rattle.rules.specs.Trees.{Tree, nothing, count, size, others, last_kid}
use Rattle.rules.specs.Rules.{deepest, room}
use Rattle.rules.specs.Shape.{Full, Dense}
use Rattle.rules.proofs.Dense.{full_size, dense_split, dense_size, dense_full}
use Rattle.rules.proofs.Pushes.{not_yet}

module _ (S : ℕ) (two : 2 ≤ S) where
  -- room above height 1, in a Branch
  room_dense : (h : ℕ) (t : Tree (suc (suc h))) → t.0 ≡ false
      → room S (suc (suc h)) t ≡ cond (ltb (size (suc (suc h)) t) (S ^ suc (suc (suc h)))) (deepest (room S (suc h) (last_kid (suc h) t)) (some (suc (suc h)))) none
  unfolding room
  room_dense h t e = rw e

  full_no_room : (h : ℕ) (t : Tree (suc h)) → Full S (suc h) t → room S (suc h) t ≡ none
  unfolding room count
  full_no_room zero t f = let l = f.1 in rw (le-ltb (length t.1) S (omega arith))
  full_no_room (suc h) t f = let l = full_size S two (suc (suc h)) t f in room_dense h t f.0 ∙ rw (le-ltb (size (suc (suc h)) t) (S ^ suc (suc (suc h))) (omega arith))

  has_room : (h : ℕ) (t : Tree (suc h)) → Dense S (suc h) t → size (suc h) t < S ^ suc (suc h) → (k : ℕ) × (room S (suc h) t ≡ some k)
  unfolding room count
  has_room zero t d l = (1, rw (lt-ltb (length t.1) S (not_yet S two zero t d (all_by_last (Full S zero) (nothing zero) t.1 d.2 d.3) l)))
  has_room (suc h) t d l = go (room S (suc h) (last_kid (suc h) t)) refl
    where
      go : (o : Option ℕ) → room S (suc h) (last_kid (suc h) t) ≡ o → (k : ℕ) × (room S (suc (suc h)) t ≡ some k)
      go (some k) e = (k, room_dense h t d.0 ∙ rw (lt-ltb _ _ l, e))
      go none e = (suc (suc h), room_dense h t d.0 ∙ rw (lt-ltb _ _ l, e))

  -- The last child is full, or has room.
  last_full : (h : ℕ) (t : Tree (suc (suc h))) → Dense S (suc (suc h)) t → size (suc (suc h)) t / S ^ suc (suc h) ≡ count (suc (suc h)) t → Full S (suc h) (last_kid (suc h) t)
  unfolding count
  last_full h t d e =
      let s = dense_split S two (suc h) t d in
      let i = length-init t.1 in
      let q = div-mul-le_self (size (suc (suc h)) t) (S ^ suc (suc h)) in
      let n : length t.1 ≡ suc (length (others (suc h) t)) = omega arith in
      let q2 : suc (length (others (suc h) t)) * S ^ suc (suc h) ≤ size (suc (suc h)) t = rw (e, n) at q in
      dense_full S two (suc h) (last_kid (suc h) t) d.3 (omega arith)

  last_room : (h : ℕ) (t : Tree (suc (suc h))) → Dense S (suc (suc h)) t → (size (suc (suc h)) t / S ^ suc (suc h) ≡ count (suc (suc h)) t → ⊥)
      → size (suc h) (last_kid (suc h) t) < S ^ suc (suc h)
  unfolding count
  last_room h t d ne = go (dec_le (S ^ suc (suc h)) (size (suc h) (last_kid (suc h) t)))
    where
      go : Dec (S ^ suc (suc h) ≤ size (suc h) (last_kid (suc h) t)) → size (suc h) (last_kid (suc h) t) < S ^ suc (suc h)
      go (yes y) =
          let s = dense_split S two (suc h) t d in
          let u = dense_size S two (suc h) (last_kid (suc h) t) d.3 in
          let i = length-init t.1 in
          let n : suc (length (others (suc h) t)) ≡ length t.1 = omega arith in
          let m : suc (length (others (suc h) t)) * S ^ suc (suc h) ≡ length t.1 * S ^ suc (suc h) = ap (λ (x : ℕ). x * S ^ suc (suc h)) n in
          let z : size (suc (suc h)) t ≡ length t.1 * S ^ suc (suc h) = omega arith in
          absurd (ne (rw z (mul-div_cancel (length t.1) (one-le-pow (suc (suc h)) S (omega arith)))))
      go (no y) = omega arith

  -- A new child is opened here, or further down.
  pub room_here : (h : ℕ) (t : Tree (suc (suc h))) → Dense S (suc (suc h)) t → size (suc (suc h)) t < S ^ suc (suc (suc h)) → size (suc (suc h)) t / S ^ suc (suc h) ≡ count (suc (suc h)) t
      → room S (suc (suc h)) t ≡ some (suc (suc h))
  room_here h t d l e = room_dense h t d.0 ∙ rw (lt-ltb _ _ l, full_no_room h (last_kid (suc h) t) (last_full h t d e))

  pub room_further : (h : ℕ) (t : Tree (suc (suc h))) → Dense S (suc (suc h)) t → size (suc (suc h)) t < S ^ suc (suc (suc h)) → (size (suc (suc h)) t / S ^ suc (suc h) ≡ count (suc (suc h)) t → ⊥)
      → room S (suc (suc h)) t ≡ room S (suc h) (last_kid (suc h) t)
  room_further h t d l ne =
      let (k, e) = has_room h (last_kid (suc h) t) d.3 (last_room h t d ne) in
      room_dense h t d.0 ∙ rw (lt-ltb _ _ l, e)
