pub mod StoreLemmas
pub mod PieceLemmas
pub mod OpenLemmas
pub mod MarkLemmas
pub mod LiteralLemmas
pub mod Sound
pub mod KernelLemmas
