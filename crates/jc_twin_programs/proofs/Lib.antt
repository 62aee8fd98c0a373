pub mod ProgramLaws
pub mod SeenProgramLaws
