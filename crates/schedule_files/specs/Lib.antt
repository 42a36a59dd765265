pub mod Places
pub mod ScheduleRows
pub mod ScheduleText
pub mod ScheduleJson
pub mod ScheduleTable
pub mod Laws
