-- What the check of information bytes is: the check itself, division by x^16 + 1, the halves by bytes, and bytes side by side in one number; and what altered bits are.
pub mod Check
pub mod Division
pub mod Halves
pub mod Word
pub mod Burst
