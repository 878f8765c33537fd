mod Answered
mod Ascii
mod Bytes
mod CapNames
mod TooLarge
