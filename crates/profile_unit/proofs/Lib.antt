mod Listed
mod Means
