pub mod SlackLemmas
pub mod TableLemmas
pub mod PlanLemmas
