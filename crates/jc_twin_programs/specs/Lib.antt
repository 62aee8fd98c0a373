pub mod TwinProgram
pub mod SeenProgram
