mod Alike
mod Fitting
