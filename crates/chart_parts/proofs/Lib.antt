mod Numbers
mod Shown
