-- The definitions:
-- - `Decimals`: what a decimal number says.
-- - `Escapes`: how a text stands in SVG.
-- - `Labels`: how a label stands in a picture.
pub mod Decimals
pub mod Escapes
pub mod Labels
