-- How a request file is cut into lines, and a line into words.
use Rattle.std.specs.Prelude.{ℕ, ◌-◌, ◌==◌, if◌then◌else◌, Bool, true, List, [], ◌∷◌, length, take, slice_index}
use Rattle.iscc_text.specs.Texts.{is_blank}

-- the byte goes in front of the first piece
abbrev pub onto_first : ℕ → List (List ℕ) → List (List ℕ)
onto_first byte [] = (byte ∷ []) ∷ []
onto_first byte (first ∷ pieces) = (byte ∷ first) ∷ pieces

-- A file is cut at line feeds. What stands after the last of them is a line if it isn't empty.
abbrev pub lines_of : List ℕ → List (List ℕ)
lines_of [] = []
lines_of (byte ∷ file) = if byte == 10 then [] ∷ lines_of file else onto_first byte (lines_of file)

-- one carriage return at the end is dropped
abbrev pub without_return : List ℕ → List ℕ
without_return text = let before = length text - 1 in if slice_index text before == 13 then take before text else text

-- a word that stands before this text ends there
abbrev pub ends_word : List ℕ → Bool
ends_word [] = true
ends_word (byte ∷ text) = is_blank byte

-- words are what stands between blanks
abbrev pub words_of : List ℕ → List (List ℕ)
words_of [] = []
words_of (byte ∷ text) =
    if is_blank byte then words_of text
    else if ends_word text then (byte ∷ []) ∷ words_of text
    else onto_first byte (words_of text)

-- the words of a line
abbrev pub line_words : List ℕ → List (List ℕ)
line_words line = words_of (without_return line)
