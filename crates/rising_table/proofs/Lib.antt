pub mod BothHold
pub mod Lending
pub mod RisingPlaces
pub mod RisingTable
