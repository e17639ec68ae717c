-- What the words of a block are, and the kinds of block, as numbers.
use Rattle.std.specs.Prelude.{◌≡◌, ℕ, zero, suc, ◌+◌, ◌-◌, ◌<◌, refl}
use Rattle.std.proofs.Math.Decide.{dec_lt}
use Rattle.std.proofs.Common.{arith}
use Rattle.blocks.specs.declared.fields.Field.{Field}
use Rattle.blocks.specs.declared.fields.Field.TheVariants as field
use Rattle.blocks.specs.declared.fields.Kind.{Kind}
use Rattle.blocks.specs.declared.fields.Kind.TheVariants as kind

-- "kind, count, 32 children or elements, 32 sizes"
abbrev pub place_of : Field → ℕ
place_of field.Kind = 0
place_of field.Count = 1
place_of (field.Slot i) = 2 + i.at
place_of (field.Size i) = 34 + i.at

-- a kind as its word, and the kind of a word
abbrev pub number_of : Kind → ℕ
number_of kind.Free = 0
number_of kind.Leaf = 1
number_of kind.Branch = 2
number_of kind.Relaxed = 3
number_of (kind.Other word) = word

abbrev pub kind_at : ℕ → Kind
kind_at zero = kind.Free
kind_at (suc zero) = kind.Leaf
kind_at (suc (suc zero)) = kind.Branch
kind_at (suc (suc (suc zero))) = kind.Relaxed
kind_at (suc (suc (suc (suc n)))) = kind.Other (suc (suc (suc (suc n))))

-- No word is lost: a kind's number is the word that it was read from, and each of the 66 words is a field.
pub number_at : (word : ℕ) → number_of (kind_at word) ≡ word
number_at zero = refl
number_at (suc zero) = refl
number_at (suc (suc zero)) = refl
number_at (suc (suc (suc zero))) = refl
number_at (suc (suc (suc (suc n)))) = refl

pub each_word : (j : ℕ) → j < 66 → (f : Field) × (place_of f ≡ j)
each_word zero h = (field.Kind, refl)
each_word (suc zero) h = (field.Count, refl)
each_word (suc (suc i)) h = go (dec_lt i 32)
  where
    go : Dec (i < 32) → (f : Field) × (place_of f ≡ suc (suc i))
    go (yes l) = (field.Slot (record { at = i; below = l }), omega arith)
    go (no g) = (field.Size (record { at = i - 32; below = omega arith }), omega arith)
