mod Counting
mod HeardAs
mod Parting
mod Taking
