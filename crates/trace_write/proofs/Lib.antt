mod Floats
mod Depths
mod Results
