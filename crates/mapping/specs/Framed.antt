-- Bytes behind their length: two bytes say how many there are, most significant first, and they follow.
--     announced bs       how many the two bytes say
--     framed bs          the bytes that are announced
--     beyond bs          what follows those
-- Assumes nothing.
use Rattle.std.specs.Prelude.{ℕ, ◌+◌, ◌*◌, List, take, drop, slice_index}

abbrev pub announced : List ℕ → ℕ
announced bs = slice_index bs 0 * 256 + slice_index bs 1

abbrev pub framed : List ℕ → List ℕ
framed bs = take (announced bs) (drop 2 bs)

abbrev pub beyond : List ℕ → List ℕ
beyond bs = drop (2 + announced bs) bs
