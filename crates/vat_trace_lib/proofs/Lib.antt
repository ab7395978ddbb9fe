mod Going
mod Printing
