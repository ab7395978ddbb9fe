-- - `ReadBack`: what it is that a frame reads back, and when it does. Proofs, from below: `Widths`: what is read has its widths;
--   `Anew`: so it can be laid out anew; `Written`: frames that are written;
--   `Reading`: all.
pub mod ReadBack
