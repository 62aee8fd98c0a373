pub mod Nexts
pub mod Contents
pub mod Parameters
pub mod Founds
pub mod Tops
