-- Every element stored is a word: a host pushes and sets nothing else.
use Rattle.std.specs.Prelude.{ℕ, ◌-◌, ◌<◌, ◌≡◌, List, [], ◌∷◌, ◌++◌, Bool, true, false, cond, eqb, length}
use Rattle.std.proofs.Common.{◌∙◌}
use Rattle.std.proofs.Math.Path.{ap}
use Rattle.lists.specs.Alls.{All, all_join, all_take, all_set}
use Rattle.machine.specs.Sizes.{word_bound}
use Rattle.machine.specs.Machine.{Rules, Place, State, Call, Open, Close, Push, Pop, Get, Set, Append, Length, IsEmpty, Held, Free, Check, place_at, ready, next, OfHost, Reached, made, called}
use Rattle.machine.proofs.Exact.{by_outcome}
use Rattle.machine.specs.Laws.{Laws}
use Rattle.machine.proofs.Tables.{all_closed}
use Rattle.machine.proofs.Sound.{sound, made_is}
use Rattle.machine.specs.Updates.{update}
use Rattle.machine.specs.Contents.{contents_in, contents_at, list_at, plain}
use Rattle.machine.proofs.Contents.{accepted_lists}

abbrev pub Words : List ℕ → Type 0
Words xs = All (λ x. x < word_bound) xs

update_words : (f : ℕ → List ℕ) (v : ℕ) (xs : List ℕ) → ((w : ℕ) → Words (f w)) → Words xs → (w : ℕ) → Words (update f v xs w)
unfolding update
update_words f v xs a b w = go (eqb w v)
  where
    go : (q : Bool) → Words (cond q xs (f w))
    go true = b
    go false = a w

plain_words : (c : Call) (f : ℕ → List ℕ) → OfHost c → ((w : ℕ) → Words (f w)) → (w : ℕ) → Words (plain c f w)
unfolding plain
plain_words (Open e l) f h a = a
plain_words (Close v) f h a = update_words f v [] a tt
plain_words (Push v x) f h a = update_words f v (f v ++ (x ∷ [])) a (all_join (λ y. y < word_bound) (f v) (x ∷ []) (a v) (h, tt))
plain_words (Pop v) f h a = update_words f v _ a (all_take (λ y. y < word_bound) (length (f v) - 1) (f v) (a v))
plain_words (Get v i) f h a = a
plain_words (Set v i x) f h a = update_words f v _ a (all_set (λ y. y < word_bound) i x (f v) h (a v))
plain_words (Append area r g) f h a = update_words (update f r (f r ++ f g)) g [] (update_words f r (f r ++ f g) a (all_join (λ y. y < word_bound) (f r) (f g) (a r) (a g))) tt
plain_words (Length v) f h a = a
plain_words (IsEmpty v) f h a = a
plain_words (Held v) f h a = a
plain_words Free f h a = a
plain_words Check f h a = a

module _ {T : Type 0} (R : Rules T) (Good : T → Type 0) (L : Laws R Good) where
  ready_lists : (words heads v : ℕ) → list_at R (ready R words heads) v ≡ []
  unfolding list_at contents_at contents_in place_at ready
  ready_lists words heads v = ap (λ (p : Place T). R.list (contents_in R p)) (all_closed heads v) ∙ L.list_empty

  pub words_only : {s : State T} → Reached R s → (v : ℕ) → Words (list_at R s v)
  unfolding next
  words_only (made s words heads e) v = rw (made_is R s words heads e).0 (rw (ready_lists words heads v) tt)
  words_only (called {s} c h r) v =
      by_outcome R s c (λ q. Words (list_at R q.0 v)) (λ n q. words_only r v)
      (λ t a A. rw (accepted_lists R Good L (sound R Good L r) A v) (plain_words c (list_at R s) h (λ w. words_only r w) v))
