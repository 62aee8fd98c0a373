mod PlanWordsLaws
mod PlanNumbersLaws
mod PlanLaws
mod PlanLineLaws
mod PlanAnswerLaws
