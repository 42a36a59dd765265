pub mod ScheduleJson
