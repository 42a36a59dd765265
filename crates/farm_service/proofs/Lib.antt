pub mod SessionLemmas
pub mod AskedLemmas
pub mod BatchLemmas
pub mod PoolLemmas
pub mod SettledLemmas
