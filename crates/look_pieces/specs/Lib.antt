-- The definitions:
-- - `Words`: numbers, times and digits in a line.
-- - `Lines`: what a line of a log is: the head of a piece, bytes of one, or neither.
-- - `Pieces`: the pieces that the lines of a log tell, one line after the other.
pub mod Words
pub mod Lines
pub mod Pieces
