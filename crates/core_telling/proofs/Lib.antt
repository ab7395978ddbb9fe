pub mod Noting
pub mod Written
pub mod Falling
pub use Rattle.vat_core.proofs.Answering
