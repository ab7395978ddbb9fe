-- The definitions:
-- - `Letters`: the places in which a name keeps its letters.
-- - `Words`: what the words of a line say.
-- - `Lines`: what the lines of a script say, or the first thing that is wrong with them.
-- - `Scripts`: the lines of a whole script.
-- - `Carried`: the payloads and the exception of a script's commands.
-- - `Bindings`: what the names of a script stand for.
-- - `Acting`: what a line does when its turn comes.
-- - `OpenWork`: what is not over yet at a vat that plays a script.
pub mod Letters
pub mod Words
pub mod Lines
pub mod Scripts
pub mod Carried
pub mod Bindings
pub mod Acting
pub mod OpenWork
