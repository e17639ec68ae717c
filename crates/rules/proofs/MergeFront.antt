-- A merge keeps the left edge crowded, so the join of what a leaf push leaves and a sound tree is sound.
use Prim.Native.Nat.{ℕ, zero, suc, ◌+◌, ◌*◌, ◌<◌, ◌≤◌}
use Rattle.std.specs.Prelude.{◌≡◌, length, take}
use Rattle.std.proofs.Math.Path.{refl}
use mathlib.Core.List.{List, [], ◌∷◌, ◌++◌, append-nil}
use Rattle.std.proofs.Common.{arith, length-append, length-take}
use Rattle.std.proofs.Math.Decide.{dec_le}
use Rattle.lists.specs.Ends.{first_or, rest, length-init, length-rest, first-join, first-init, first-take}
use Rattle.lists.specs.Alls.{All, all_weak}
use Rattle.lists.specs.Sums.{sum, sum-join}
use Rattle.lists.specs.Cuts.{ceil, ceil_le, ceil_ge}
use Rattle.rules.specs.Trees.{Tree, Slot, nothing, count, others, last_kid, first_kid, later_kids, Root}
use Rattle.rules.specs.Rules.{build, pour, repack, ascend, Meet, leaves, level, left_taller, right_taller, meet, merge, join}
use Rattle.rules.specs.Shape.{CountFits, Edge, Kinds, Packed, Crowded, Front, Top, Wide, Sound}
use Rattle.rules.proofs.Dense.{tidy_edge, tidy_kinds}
use Rattle.rules.proofs.Pops.{lower_sound}
use Rattle.rules.proofs.Pours.{repack_full, repack_leaves, pour_cons, pour-length, pour_counts, repack-length, repack_counts}
use Rattle.rules.proofs.Packs.{Small, packed_take, pour_packed, repack_packed, repack_small, crowded}
use Rattle.rules.proofs.Rows.{Row, build_row}
use Rattle.rules.proofs.MergeSlots.{meet_le, front_count, first_edge, enough_below, merge-slots}
use Rattle.rules.proofs.MergeRows.{row_sized, sized_sum, row_first, kids_row, level_items, left_items, right_items, merge_row, merge_few}

module _ (S : ℕ) (two : 2 ≤ S) where
  pos : 0 < S
  pos = omega arith

  -- the merged children are led by a node of the left edge: below a root always, else if there are several
  record Lead (h : ℕ) (ts : List (Tree h)) : Type 0 where
    alone : Top S h (first_or (nothing h) ts)
    several : 2 ≤ length ts → Front S h (first_or (nothing h) ts)

  -- children that a node of the left edge leads, poured into nodes
  poured_top : (h : ℕ) (t : Tree h) (ts : List (Tree h)) → Front S h t → 1 ≤ length ts → Packed S h (t ∷ ts) → Top S (suc h) (first_or (nothing (suc h)) (pour S (suc h) (t ∷ ts)))
  poured_top h t ts f n p =
      let e = length-take S (t ∷ ts) in
      rw (pour_cons S pos (suc h) t ts)
      (omega arith, packed_take S two h S (t ∷ ts) p, rw (first-take (nothing h) S t ts pos) f)

  poured_front : (h : ℕ) (t : Tree h) (ts : List (Tree h)) → Front S h t → S ≤ suc (length ts) → Crowded S h (take S (t ∷ ts)) → Front S (suc h) (first_or (nothing (suc h)) (pour S (suc h) (t ∷ ts)))
  poured_front h t ts f n p =
      let e = length-take S (t ∷ ts) in
      rw (pour_cons S pos (suc h) t ts)
      (omega arith, p, rw (first-take (nothing h) S t ts pos) f)

  record Led (h : ℕ) (ls mid rs : List (Tree h)) : Type 0 where
    lead : Lead (suc h) (ascend S h ls mid rs)
    front : S ≤ sum (count (suc h)) (ascend S h ls mid rs) → (1 ≤ h → S * S ≤ sum (count h) (ls ++ mid ++ rs)) → Front S (suc h) (first_or (nothing (suc h)) (ascend S h ls mid rs))

  some_more : (h : ℕ) (ts : List (Tree h)) → 1 ≤ length ts → All (CountFits S h) ts → 1 ≤ length (repack S h ts)
  some_more h ts n a =
      let s = sized_sum S two h ts a in
      let e = repack-length S pos h ts in
      let c : 1 ≤ ceil (sum (count h) ts) S = let z = s.0 in ceil_ge _ 1 S pos (omega arith) in
      omega arith

  leads_top : (h : ℕ) (ts : List (Tree h)) → 2 ≤ length ts → All (CountFits S h) ts → Front S h (first_or (nothing h) ts) → Top S (suc h) (first_or (nothing (suc h)) (pour S (suc h) (repack S h ts)))
  leads_top h [] n a f = absurd (omega arith)
  leads_top h (t ∷ ts) n a f =
      let k = repack_full S h t ts (front_count S two h t f) in
      let p : Packed S h (t ∷ repack S h ts) = rw k at (repack_packed S two h (t ∷ ts)) in
      rw k (poured_top h t (repack S h ts) f (some_more h ts (omega arith) a.1) p)

  leads_front : (h : ℕ) (ts : List (Tree h)) → 1 ≤ length ts → All (CountFits S h) ts → Front S h (first_or (nothing h) ts) → S ≤ length (repack S h ts) → (1 ≤ h → S * S ≤ sum (count h) ts)
      → Front S (suc h) (first_or (nothing (suc h)) (pour S (suc h) (repack S h ts)))
  leads_front h [] n a f m g = absurd (omega arith)
  leads_front h (t ∷ ts) n a f m g =
      let k = repack_full S h t ts (front_count S two h t f) in
      let c = crowded S two h (repack S h (t ∷ ts)) (repack_packed S two h (t ∷ ts)) (repack_small S two h (t ∷ ts) (all_weak (CountFits S h) (Small S two h) (λ u s. s.1) (t ∷ ts) a)) m (λ z. rw (repack_counts S pos h (t ∷ ts)) (g z)) in
      let p : Crowded S h (take S (t ∷ repack S h ts)) = rw k at c in
      rw k (poured_front h t (repack S h ts) f (rw k at m) p)

  over_one : (h : ℕ) (xs : List (Slot h)) → 2 ≤ length (pour S h xs) → suc S ≤ length xs
  over_one h xs n = go (dec_le (suc S) (length xs))
    where
      go : Dec (suc S ≤ length xs) → suc S ≤ length xs
      go (yes y) = y
      go (no y) =
          let e = pour-length S pos h xs in
          let c : ceil (length xs) S ≤ 1 = ceil_le _ 1 S pos (omega arith) in
          absurd (omega arith)

  -- more than S items after repacking: more than S S slots
  over_square : (h : ℕ) (ts : List (Tree h)) → suc S ≤ length (repack S h ts) → S * S ≤ sum (count h) ts
  over_square h ts m = go (dec_le (S * S) (sum (count h) ts))
    where
      go : Dec (S * S ≤ sum (count h) ts) → S * S ≤ sum (count h) ts
      go (yes y) = y
      go (no y) =
          let e = repack-length S pos h ts in
          let c : ceil (sum (count h) ts) S ≤ S = ceil_le _ S S pos (omega arith) in
          absurd (omega arith)

  leads : (h : ℕ) (ls mid rs : List (Tree h)) → (2 ≤ length (ls ++ mid ++ rs)) × Front S h (first_or (nothing h) (ls ++ mid ++ rs)) → Row S h (ls ++ mid ++ rs) → Led h ls mid rs
  unfolding ascend
  leads h ls mid rs (n, f) r =
      let ts = ls ++ mid ++ rs in
      let a = row_sized S two h ts r in
      record {
        lead = record {
          alone = leads_top h ts n a f;
          several = λ m. let o = over_one (suc h) (repack S h ts) m in leads_front h ts (omega arith) a f (omega arith) (λ z. over_square h ts o);
        };
        front = λ m g. leads_front h ts (omega arith) a f (rw (pour_counts S pos (suc h) (repack S h ts)) at m) g;
      }

  -- two leaves
  zero_front : (l r : List ℕ) → S ≤ length l + length r → length (first_or [] (repack S zero (l ∷ r ∷ []))) ≡ S
  zero_front l r n = rw (repack_leaves S pos (l ∷ r ∷ []), append-nil r) (poured (l ++ r) (let q = length-append l r in omega arith))
    where
      poured : (xs : List ℕ) → S ≤ length xs → length (first_or [] (pour S zero xs)) ≡ S
      poured [] m = absurd (omega arith)
      poured (x ∷ xs) m = let e = length-take S (x ∷ xs) in rw (pour_cons S pos zero x xs) (omega arith)

  -- the items of a step: the left others, what is merged, the right others
  items_left : (h : ℕ) (l : Tree (suc h)) (mid rs : List (Tree h)) → Wide S (suc h) l → 1 ≤ length mid
      → (2 ≤ length (others h l ++ mid ++ rs)) × Front S h (first_or (nothing h) (others h l ++ mid ++ rs))
  items_left h l mid rs w n =
      let i = length-init l.1 in
      let a = length-append (others h l ++ mid) rs in
      let b = length-append (others h l) mid in
      (omega arith, rw (first-join (nothing h) (others h l ++ mid) rs (omega arith), first-join (nothing h) (others h l) mid (omega arith), first-init (nothing h) l.1 w.0) w.1)

  items_right : (h : ℕ) (mid cs : List (Tree h)) → 1 ≤ length mid → 2 ≤ length cs → Front S h (first_or (nothing h) mid)
      → (2 ≤ length (mid ++ rest cs)) × Front S h (first_or (nothing h) (mid ++ rest cs))
  items_right h mid cs n m f =
      let a = length-append mid (rest cs) in
      let b = length-rest cs in
      (omega arith, rw (first-join (nothing h) mid (rest cs) n) f)

  level_led : {h : ℕ} (p : Meet h h h) (l r : Tree (suc h)) → Edge S (suc h) l → Wide S (suc h) l → Edge S (suc h) r → Kinds S (suc h) r
      → Led h (others h l) (merge S p (last_kid h l) (first_kid h r)) (later_kids h r)
  level_led {h} p l r a w b k =
      let f = row_first S two h r.1 b.0.0 (kids_row S two h r b k) in
      let mid = merge S p (last_kid h l) (first_kid h r) in
      leads h (others h l) mid (later_kids h r) (items_left h l mid (later_kids h r) w (merge_few S two p (last_kid h l) (first_kid h r) a.2 f.0 f.1).0)
      (level_items S two p l r a b k (merge_row S two p (last_kid h l) (first_kid h r) a.2))

  right_led : {h n : ℕ} (p : Meet h n n) (l : Tree h) (r : Tree (suc n)) → Edge S h l → Edge S (suc n) r → Kinds S (suc n) r → 2 ≤ length r.1
      → Front S n (first_or (nothing n) (merge S p l (first_kid n r))) → Led n [] (merge S p l (first_kid n r)) (later_kids n r)
  right_led {n = n} p l r a b k m g =
      let f = row_first S two n r.1 b.0.0 (kids_row S two n r b k) in
      let mid = merge S p l (first_kid n r) in
      leads n [] mid (later_kids n r) (items_right n mid r.1 (merge_few S two p l (first_kid n r) a f.0 f.1).0 m g)
      (right_items S two p l r a b k (merge_row S two p l (first_kid n r) a))

  -- below the right root's left edge the merged children are led by a node of the left edge
  merge_front : {h k m : ℕ} (p : Meet h k m) → m ≡ k → (l : Tree h) (r : Tree k) → Edge S h l → Wide S h l → Edge S k r → Kinds S k r → Front S k r
      → Front S m (first_or (nothing m) (merge S p l r))
  unfolding merge
  merge_front leaves q l r a w b k f = zero_front l r (omega arith)
  merge_front (level {h} p) q l r a w b k f =
      let r1 = first_kid h r in
      let mid = merge S p (last_kid h l) r1 in
      let ih = merge-slots S two p refl (last_kid h l) r1 a.2 (tidy_edge S two h r1 (first_edge S two h r (omega arith) b)) f.2 in
      (level_led p l r a w b k).front (merge-slots S two (level p) refl l r a b f)
      (λ z. rw (sum-join (count h) (others h l ++ mid) (later_kids h r), sum-join (count h) (others h l) mid) (enough_below S two h r (sum (count h) (others h l)) (sum (count h) mid) b f ih z))
  merge_front (left_taller p) q l r a w b k f = let z = meet_le p in absurd (omega arith)
  merge_front (right_taller {k = n} p) q l r a w b k f =
      let r1 = first_kid n r in
      let d = first_edge S two n r (omega arith) b in
      let g = merge_front p refl l r1 a w (tidy_edge S two n r1 d) (tidy_kinds S two n r1 d) f.2 in
      let mid = merge S p l r1 in
      let ih = merge-slots S two p refl l r1 a (tidy_edge S two n r1 d) f.2 in
      (right_led p l r a b k (omega arith) g).front (merge-slots S two (right_taller p) refl l r a b f)
      (λ z. let e = sum-join (count n) mid (later_kids n r) in let g = enough_below S two n r 0 (sum (count n) mid) b f ih z in omega arith)

  merge_lead : {h k m : ℕ} (p : Meet h k m) (l : Tree h) (r : Tree k) → Edge S h l → Wide S h l → Edge S k r → Kinds S k r → Top S k r → Lead m (merge S p l r)
  unfolding merge
  merge_lead leaves l r a w b k f = let e = zero_front l r (omega arith) in record { alone = e; several = λ m. e }
  merge_lead (level p) l r a w b k f = (level_led p l r a w b k).lead
  merge_lead (left_taller {h} p) l r a w b k f =
      let mid = merge S p (last_kid h l) r in
      (leads h (others h l) mid [] (items_left h l mid [] w (merge_few S two p (last_kid h l) r a.2 b k).0) (left_items S two p l r a (merge_row S two p (last_kid h l) r a.2 b k))).lead
  merge_lead (right_taller {k = n} p) l r a w b k f =
      let r1 = first_kid n r in
      let d = first_edge S two n r f.0 b in
      (right_led p l r a b k f.0 (merge_front p refl l r1 a w (tidy_edge S two n r1 d) (tidy_kinds S two n r1 d) f.2)).lead

  merge_packed : {h k m : ℕ} (p : Meet h k m) (l : Tree h) (r : Tree k) → Packed S m (merge S p l r)
  unfolding merge ascend
  merge_packed leaves l r = repack_packed S two zero (l ∷ r ∷ [])
  merge_packed (level {h} p) l r = pour_packed S two (suc h) _
  merge_packed (left_taller {h} p) l r = pour_packed S two (suc h) _
  merge_packed (right_taller {k = n} p) l r = pour_packed S two (suc n) _

  -- The join of what a leaf push leaves on the left, and a sound tree, is sound.
  pub join_sound : (l r : Root) → Edge S l.0 l.1 → Wide S l.0 l.1 → Sound S r.0 r.1 → Sound S (join S l r).0 (join S l r).1
  unfolding join
  join_sound l r a w s =
      let m = (meet l.0 r.0).0 in
      let p = (meet l.0 r.0).1 in
      let ns = merge S p l.1 r.1 in
      let few = merge_few S two p l.1 r.1 a s.edge s.kinds in
      let b = build_row S two m ns (merge_row S two p l.1 r.1 a s.edge s.kinds) (let x = few.0 in let y = few.1 in omega arith) in
      let g = merge_lead p l.1 r.1 a w s.edge s.kinds s.top in
      lower_sound S two m (build S m ns) b.0 b.1 (λ n. (n, merge_packed p l.1 r.1, g.several n)) (λ n. g.alone)
