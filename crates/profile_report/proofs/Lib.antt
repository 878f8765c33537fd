mod Fitting
mod Pages
mod Plain
mod Views
