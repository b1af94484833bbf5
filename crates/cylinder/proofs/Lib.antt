-- The laws of a cylinder's file: what each test decides, packed marks, lengths, what is known of a file that is read, the round trip, the answers, and worked values.
pub mod Decides
pub mod Packed
pub mod Sizes
pub mod Sound
pub mod Parts
pub mod CylinderParts
pub mod WrittenFile
pub mod HeldCylinder
pub mod FileBytes
pub mod RoundTrip
pub mod Answers
pub mod Places
pub mod Bounds
pub mod Worked
