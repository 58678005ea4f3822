mod Lists
mod Texts
mod Written
mod Lengths
mod Fronts
mod Unique
mod Epoch
