pub mod Beginning
pub mod Covering
pub mod Keeping
pub mod Rooming
pub mod Walking
