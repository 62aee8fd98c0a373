pub mod FitExampleLaws
mod ProbedExampleLaws
