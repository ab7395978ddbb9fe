mod Carrying
mod Pointing
