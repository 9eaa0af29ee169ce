-- The texts that the listing program and the program `picture` write, at the start of a place that is lent.
use Rattle.std.specs.Prelude.{cond, List, ◌++◌, ℕ, ltb, length, drop, replicate}

-- room enough for every listing: 16 bytes for each of 16,384 records, and 28 for the total
abbrev pub room : ℕ
room = 262_172

-- and for every picture: the longest is one of depth 7
abbrev pub picture_room : ℕ
picture_room = 16_651

-- places that have it: zeros
unfoldable pub fresh : List ℕ
fresh = replicate room 0

unfoldable pub fresh_picture : List ℕ
fresh_picture = replicate picture_room 0

-- how long a text is; 0 where the place of n bytes has not the room
unfoldable pub length_with : ℕ → List ℕ → ℕ → ℕ
length_with room text n = cond (ltb n room) 0 (length text)

-- the place afterwards: the text, and after it the bytes as they were
unfoldable pub place_with : ℕ → List ℕ → List ℕ → List ℕ
place_with room text old = cond (ltb (length old) room) old (text ++ drop (length text) old)
