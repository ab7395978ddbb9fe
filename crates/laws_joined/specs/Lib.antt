-- - `Sound`: what is promised of two vats in one world holds of two joined connections. Proofs: `Alike`: what is done and told is
--   alike in both runs.
pub mod Sound
