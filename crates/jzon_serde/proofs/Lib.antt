mod Numerals
mod Whole
