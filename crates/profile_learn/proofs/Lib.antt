mod Distinct
mod Fits
mod Meanings
mod Noted
mod Numbers
mod Summaries
