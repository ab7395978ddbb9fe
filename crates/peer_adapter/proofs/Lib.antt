mod Behind
mod GivenBack
mod Holding
