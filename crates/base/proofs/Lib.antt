-- Laws of tests, of lists and of slices that are written, which say nothing of tracks.
pub mod Tests
pub mod Lists
pub mod Filled
pub mod Laid
pub mod Indexed
pub mod Filling
