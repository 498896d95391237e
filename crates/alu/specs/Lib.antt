-- 32-bit arithmetic with the condition code.
pub mod Word
pub mod Biased
