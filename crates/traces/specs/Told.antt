-- A history of calls on the machine, and what it prints: its answers, and the vectors that it leaves, as the oracle prints them.
use Rattle.std.specs.Prelude.{ℕ, zero, suc, ◌*◌, ◌/◌, ◌%◌, List, [], ◌∷◌, map, ◌++◌ as ◌then◌, Bool, true, false, ◌&&◌, cond, ltb, eqb, length, get_or, replicate}
use Prim.Native.String.{String, ◌++◌}
use Rattle.std.proofs.Math.Option.{Option, none, some}
use lib.Text.{eqt}
use Rattle.rules.specs.Trees.{Tree, Root, Vector, entries}
use Rattle.rules.specs.Shifts.{shift_of}
use Rattle.machine.specs.Machine.{Rules, Place, closed, opened, Answer, Done, Value, Refused, Call, Push, Pop, answers, run, ready}

-- Calls, with runs of pushes and of pops written short.
pub data Move : Type 0 where
  call : Call → Move
  pushes : (n v from : ℕ) → Move
  pops : (n v : ℕ) → Move

unfoldable pub push_run : ℕ → ℕ → ℕ → List Call
push_run zero v x = []
push_run (suc n) v x = Push v x ∷ push_run n v (suc x)

unfoldable pub calls : List Move → List Call
calls [] = []
calls (call c ∷ ms) = c ∷ calls ms
calls (pushes n v x ∷ ms) = ◌then◌ (push_run n v x) (calls ms)
calls (pops n v ∷ ms) = ◌then◌ (replicate n (Pop v)) (calls ms)

-- A history: P, its moves, and what the oracle printed of it.
pub record History : Type 0 where
  pub blocks : ℕ
  pub moves : List Move
  pub told : String
  pub left : String

-- A number in digits.
abbrev pub digit : ℕ → String
digit n = get_or ("0" ∷ "1" ∷ "2" ∷ "3" ∷ "4" ∷ "5" ∷ "6" ∷ "7" ∷ "8" ∷ "9" ∷ []) n "?"

unfoldable pub digits_by : ℕ → ℕ → String
digits_by zero n = ""
digits_by (suc k) n = elim (ltb n 10) [ true ↦ digit n | false ↦ digits_by k (n / 10) ++ digit (n % 10) ]

unfoldable pub digits : ℕ → String
digits n = digits_by 20 n

unfoldable pub spaced : List String → String
spaced [] = ""
spaced (t ∷ []) = t
spaced (t ∷ u ∷ us) = t ++ " " ++ spaced (u ∷ us)

-- A tree: a leaf's count; `B[..]` a Branch, `R[..]{..}` a RelaxedBranch with its sizes.
unfoldable pub tree_text : (h : ℕ) → Tree h → String
tree_text zero t = digits (length t)
tree_text (suc h) t =
    let kids = "[" ++ spaced (map (tree_text h) t.1) ++ "]" in
    cond t.0 ("R" ++ kids ++ "{" ++ spaced (map digits (entries h 0 t.1)) ++ "}") ("B" ++ kids)

unfoldable pub root_text : (bits : ℕ) → Option Root → String
root_text bits none = "shift 0 tree -"
root_text bits (some r) = "shift " ++ digits (shift_of bits r.0) ++ " tree " ++ tree_text r.0 r.1

-- The open vectors, each with its number.
unfoldable pub places : (bits : ℕ) → ℕ → List (Place Vector) → List String
places bits v [] = []
places bits v (closed ∷ ps) = places bits (suc v) ps
places bits v (opened a ∷ ps) = (digits v ++ ": " ++ root_text bits a.contents.tree ++ " tail " ++ digits (length a.contents.tail) ++ ";") ∷ places bits (suc v) ps

-- Answers: the number, and the value where there is one; equal ones in a row are counted.
unfoldable pub answer_text : Answer → String
answer_text Done = "0"
answer_text (Value n) = "0 " ++ digits n
answer_text (Refused n) = digits n

unfoldable pub times : String → ℕ → String
times t n = cond (eqb n 1) (t ++ ",") (t ++ " x" ++ digits n ++ ",")

unfoldable pub counted : String → ℕ → List String → List String
counted t n [] = times t n ∷ []
counted t n (u ∷ us) = elim (eqt t u) [ true ↦ counted t (suc n) us | false ↦ times t n ∷ counted u 1 us ]

unfoldable pub runs : List String → List String
unfolding counted
runs [] = []
runs (t ∷ ts) = counted t 1 ts

-- What is printed is what was printed.
unfoldable pub agrees : (bits heads : ℕ) → Rules Vector → History → Bool
agrees bits heads R h =
    let s = ready R (h.blocks * R.block) heads in
    let cs = calls h.moves in
    eqt (spaced (runs (map answer_text (answers R s cs)))) h.told && eqt (spaced (places bits 0 (run R s cs).table)) h.left

-- the numbers of the histories of which it is not
unfoldable pub differing : (History → Bool) → ℕ → List History → List ℕ
differing f n [] = []
differing f n (h ∷ hs) = elim (f h) [ true ↦ differing f (suc n) hs | false ↦ n ∷ differing f (suc n) hs ]
