-- The words that name an entry or a pin.
use Rattle.std.specs.Prelude.{ℕ, ◌+◌}

-- a head and a next word name an entry: 0 for none
abbrev pub link_word : ℕ → ℕ
link_word entry = entry + 1

-- the word of a pin with this many places seen
abbrev pub pin_word : ℕ → ℕ
pin_word seen = seen + 1
