mod Added
mod Cells
mod Same
