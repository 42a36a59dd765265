pub mod ExecutableLemmas
pub mod SearchLemmas
pub mod PortfolioLemmas
pub mod KindLemmas
pub mod Examples
pub mod OutputLemmas
pub mod JsonLemmas
