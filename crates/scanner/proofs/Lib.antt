-- Laws of the scanner's parts: digits, names and their keys, words, signs.
pub mod Spelling
pub mod Keys
pub mod Words
pub mod Signs
