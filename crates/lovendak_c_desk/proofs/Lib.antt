mod Behind
mod Fronts
mod Handing
mod Known
mod Texts
mod Unfit
