-- What the searches give, in the words of the track format.
pub mod Place
pub mod Zero
