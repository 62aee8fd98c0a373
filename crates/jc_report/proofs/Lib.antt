mod SpelledLaws
mod SplitLaws
mod OrderLaws
mod RowLaws
mod CsvLaws
