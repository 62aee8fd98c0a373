pub mod SecondLinking
pub mod TwinFiles
