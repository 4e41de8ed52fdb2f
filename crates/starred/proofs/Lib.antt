pub mod AllMet
