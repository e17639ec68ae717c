-- Document 01's fixed numbers. The slot count and the words of a block are parameters of the theory; these are the rest.
use Rattle.std.specs.Prelude.{ℕ, ◌+◌, ◌^◌}

-- "A block is 66 words: kind, count, 32 children or elements, 32 sizes."
abbrev pub block_words : (slots : ℕ) → ℕ
block_words slots = 2 + slots + slots

-- "P = words div 66, at most 1,048,576. At most 1,024 heads."
abbrev pub most_blocks : ℕ
most_blocks = 1048576

abbrev pub most_heads : ℕ
most_heads = 1024

-- "elements u64"
abbrev pub word_bound : ℕ
word_bound = 2 ^ 64
