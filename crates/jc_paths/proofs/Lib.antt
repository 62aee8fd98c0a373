pub mod SlashLaws
