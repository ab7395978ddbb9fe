mod Starting
mod Judgements
mod Printing
